-- `session_fields::find_listed` meets its contract: the loop keeps that the scan from the pair reached answers what the scan over all does. Assumes nothing.
use mathlib.Core.Path.{refl, ◌∙◌}
use native.Mathlib.Omega.{arith}
use Prim.Native.Nat.{◌+◌, ◌-◌}
use Rattle.session_fields.proofs.Scan.{pair_found, pair_on, pairs_over}
use Rattle.session_fields.proofs.find_listed.Goals as goal

pub returns-then-byte_at-unit : goal.returns-then-byte_at-unit
returns-then-byte_at-unit c =
    let a = c.args in
    let l = c.loop-i in
    pair_found a.unit a.at a.s.now (a.n - l.i) l.i c.byte_at.result (omega arith) c.byte_at.ensures c.if-byte_at-unit.true ∙ l.invariant

pub loop-i-preserved : goal.loop-i-preserved
loop-i-preserved c =
    let a = c.args in
    let l = c.loop-i in
    pair_on a.unit a.at a.s.now (a.n - l.i) l.i c.byte_at.result (omega arith) c.byte_at.ensures c.if-byte_at-unit.false (a.n - (l.i + 1)) (l.i + 1) (omega arith) refl
    ∙ l.invariant

pub returns : goal.returns
returns c =
    let a = c.args in
    let l = c.loop-i in
    pairs_over a.unit a.at a.s.now (a.n - l.i) l.i (omega arith) ∙ l.invariant
