-- `session::check_gate` meets its contract. Assumes nothing.
use Rattle.std.proofs.Common.{sym, ◌∙◌, arith}
use Rattle.session.proofs.OrderLaws.{not_live, used_up, short, no_order, an_order}
use Rattle.session.proofs.Passing.{refuses, accepts}
use Rattle.session.proofs.check_gate.Goals as goal

pub returns-then-not-is_live : goal.returns-then-not-is_live
returns-then-not-is_live c =
    let a = c.args in
    refuses _ c.new.ensures (omega arith) (not_live a.phase a.outgoing.0 a.market a.given.now (sym c.is_live.ensures ∙ c.if-not-is_live.true))

pub returns-then-outgoing-eq4294967295 : goal.returns-then-outgoing-eq4294967295
returns-then-outgoing-eq4294967295 c =
    let a = c.args in
    refuses _ c.new-then-outgoing-eq4294967295.ensures (omega arith) (used_up a.phase a.outgoing.0 a.market a.given.now (sym c.is_live.ensures ∙ c.if-not-is_live.false) c.if-outgoing-eq4294967295.true)

pub returns-then-given-lt-RECORD : goal.returns-then-given-lt-RECORD
returns-then-given-lt-RECORD c =
    let a = c.args in
    refuses _ c.new-then-given-lt-RECORD.ensures (omega arith)
    (short a.phase a.outgoing.0 a.market a.given.now (sym c.is_live.ensures ∙ c.if-not-is_live.false) c.if-outgoing-eq4294967295.false c.if-given-lt-RECORD.true)

pub returns-then-not-of_market : goal.returns-then-not-of_market
returns-then-not-of_market c =
    let a = c.args in
    refuses _ c.new-then-not-of_market.ensures (omega arith)
    (no_order a.phase a.outgoing.0 a.market a.given.now (sym c.is_live.ensures ∙ c.if-not-is_live.false) c.if-outgoing-eq4294967295.false c.if-given-lt-RECORD.false (sym c.of_market.ensures ∙ c.if-not-of_market.true))

pub returns : goal.returns
returns c =
    let a = c.args in
    accepts _
    (an_order a.phase a.outgoing.0 a.market a.given.now (sym c.is_live.ensures ∙ c.if-not-is_live.false) c.if-outgoing-eq4294967295.false c.if-given-lt-RECORD.false (sym c.of_market.ensures ∙ c.if-not-of_market.false))
