-- `session_fields::find_group` meets its contract: the loop keeps that the scan from the place reached answers what the scan over all does. Assumes nothing.
use mathlib.Core.Path.{sym, ◌∙◌}
use native.Mathlib.Omega.{arith}
use Prim.Native.Nat.{◌+◌, ◌-◌}
use Rattle.session_fields.proofs.Scan.{scan_outside, scan_found, scan_on, scan_over}
use Rattle.session_fields.proofs.find_group.Goals as goal

pub returns-then-at-ge433 : goal.returns-then-at-ge433
returns-then-at-ge433 c =
    let a = c.args in
    let l = c.loop in
    scan_outside a.t a.x l.at a.s.now (a.n - l.counter) (omega arith) c.if-at-ge433.true ∙ l.invariant.same

pub returns-then-is_group : goal.returns-then-is_group
returns-then-is_group c =
    let a = c.args in
    let l = c.loop in
    scan_found a.t a.x l.at a.s.now (a.n - l.counter) (omega arith) c.if-at-ge433.false (sym c.is_group.ensures ∙ c.if-is_group.true) ∙ l.invariant.same

pub loop-preserved : goal.loop-preserved
loop-preserved c =
    let a = c.args in
    let l = c.loop in
    record {
      near = omega arith;
      same = scan_on a.t a.x l.at a.s.now (a.n - l.counter) (omega arith) c.if-at-ge433.false (sym c.is_group.ensures ∙ c.if-is_group.false) (a.n - (l.counter + 1)) (omega arith) c.read_u16.result c.read_u16.ensures ∙ l.invariant.same;
    }

pub returns : goal.returns
returns c =
    let a = c.args in
    let l = c.loop in
    scan_over a.t a.x l.at a.s.now (a.n - l.counter) (omega arith) ∙ l.invariant.same
