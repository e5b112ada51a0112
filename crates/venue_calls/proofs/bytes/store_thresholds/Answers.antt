-- `venue_calls::bytes::store_thresholds` meets its contract: unit after unit, each with its number. Assumes nothing.
use Rattle.std.specs.Prelude.{refl}
use Rattle.std.proofs.Common.{◌∙◌, arith}
use Rattle.venue_calls.proofs.VenueBytesLaws.{wants-start, wants_go_on, wants_end}
use Rattle.venue_calls.proofs.bytes.store_thresholds.Goals as goal

pub loop-i-init : goal.loop-i-init
loop-i-init c = (refl, wants-start c.args.state.now c.args.t.numbers c.requires)

pub loop-i-preserved : goal.loop-i-preserved
loop-i-preserved c =
    let l = c.loop-i in
    let w = c.put_number in (
      w.auto.state ∙ l.invariant.0,
      w.ensures ∙ wants_go_on c.args.state.now c.args.t.numbers c.requires l.i c.loop-i-test.true (omega arith) l.invariant.1,
    )

pub returns : goal.returns
returns c =
    let l = c.loop-i in
    wants_end c.args.state.now c.args.t.numbers c.requires l.i l.auto.i-end c.loop-i-test.false l.invariant.1
