-- `wire::frame` meets its contract. Assumes nothing.
use Rattle.wire.proofs.Accepts.{took, stopped}
use Rattle.wire.proofs.FrameLaws.{whole, framed_is, refused_is_empty}
use Rattle.wire.specs.Frame.{frame_refusal}
use lib.Seq.{length-take-le}
use lib.ListN.{take}
use native.Mathlib.Omega.{arith}
use Prim.Native.Nat.{ℕ}
use mathlib.Core.Path.{◌≡◌, ◌∙◌, sym, ap}
use Rattle.wire.proofs.frame.Goals as goal

pub slice_bounds-result-end : goal.slice_bounds-result-end
slice_bounds-result-end c =
    let s = c.args.s.now in
    let z : frame_refusal s ≡ 0 = took _ _ c.check_frame.ensures c.is_ok.ensures.value c.if-is_ok.true in
    sym (length-take-le _ s (omega (arith, (whole s z).fits, c.total_of-n.ensures)))

pub returns-then-is_ok : goal.returns-then-is_ok
returns-then-is_ok c =
    let s = c.args.s.now in
    let z : frame_refusal s ≡ 0 = took _ _ c.check_frame.ensures c.is_ok.ensures.value c.if-is_ok.true in
    ap (λ (n : ℕ). take n s) c.total_of-n.ensures ∙ sym (framed_is s z)

pub returns-else-is_ok : goal.returns-else-is_ok
returns-else-is_ok c =
    sym (refused_is_empty c.args.s.now (stopped _ _ c.check_frame.ensures c.is_ok.ensures.value c.if-is_ok.false))
