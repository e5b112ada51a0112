-- `session_messages::check_head` meets its contract: the type, and unit and number. Assumes nothing.
use Rattle.std.proofs.Common.{ap, sym, arith, ◌∙◌, Ok, true, false}
use Rattle.refusals.specs.OutcomeLaws.{good}
use Rattle.session_messages.proofs.Passing.{refuses_on, refuses}
use Rattle.session_messages.proofs.TypeLaws.{none_of, some_of, unknown, known, as_is}
use Rattle.session_messages.proofs.Stages.{head_unknown, head_known}
use Rattle.session_messages.proofs.check_head.Goals as goal

pub returns-in_err-kind : goal.returns-in_err-kind
returns-in_err-kind c =
    let n = none_of (sym c.ok_or.ensures.value ∙ c.in_err-kind.was) in
    refuses_on _ c.from_residual.ensures.1 (n.1 ∙ c.new.ensures) (omega arith) (head_unknown c.args.message c.args.unit c.args.number (unknown c.args.message (sym c.message_at.ensures ∙ n.0)))

pub returns-then-not-is_unnumbered : goal.returns-then-not-is_unnumbered
returns-then-not-is_unnumbered c =
    let k = sym c.message_at.ensures ∙ some_of c.new.result (sym c.ok_or.ensures.value ∙ c.in_ok-kind.was) in
    refuses _ c.new-then-not-is_unnumbered.ensures (omega arith) (head_known c.args.message c.args.unit c.args.number false (known c.args.message _ k) (sym c.is_unnumbered.ensures ∙ c.if-not-is_unnumbered.true))

pub returns : goal.returns
returns c =
    let k = sym c.message_at.ensures ∙ some_of c.new.result (sym c.ok_or.ensures.value ∙ c.in_ok-kind.was) in
    ap Ok (as_is c.args.message _ k) ∙ good _ _ (head_known c.args.message c.args.unit c.args.number true (known c.args.message _ k) (sym c.is_unnumbered.ensures ∙ c.if-not-is_unnumbered.false))
