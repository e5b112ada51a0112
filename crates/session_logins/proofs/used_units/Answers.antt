-- `session_logins::used_units` meets its contract: unit after unit, each that has an entry above 0 put after those before it. Assumes nothing.
use mathlib.Core.Path.{ap, ◌∙◌}
use Prim.Native.Nat.{◌<◌}
use native.Mathlib.Omega.{arith}
use Rattle.table.specs.declared.Entry.{Entry}
use Rattle.session_logins.proofs.Used.{none_yet, few_yet, kept_more, left_out}
use Rattle.session_logins.proofs.used_units.Goals.{then-held-gt0, else-held-gt0}
use Rattle.session_logins.proofs.used_units.Goals as goal

pub loop-i-init : goal.loop-i-init
loop-i-init c = none_yet c.args.table

pub bounds-units-count : goal.bounds-units-count
bounds-units-count c =
    let l = c.loop-i in
    omega (arith, c.loop-i-test.true, few_yet c.args.table l.i l.invariant)

pub overflow_add-count : goal.overflow_add-count
overflow_add-count c =
    let l = c.loop-i in
    omega (arith, c.loop-i-test.true, few_yet c.args.table l.i l.invariant)

pub loop-i-preserved : goal.loop-i-preserved
loop-i-preserved c =
    let l = c.loop-i in
    let t = c.args.table in
    let h : l.i < 32 = omega arith in
    let e = ap (λ (x : Entry). x.last.0) c.entry-held.ensures in
    elim c.if-held-gt0.branch [
      | then-held-gt0 w ↦ let r = kept_more t l.i h l.invariant e w.if-held-gt0.true in record { many = w.count-is ∙ r.many; are = w.units-is ∙ r.are }
      | else-held-gt0 w ↦ let r = left_out t l.i h l.invariant e w.if-held-gt0.false in record { many = w.count-is ∙ r.many; are = w.units-is ∙ r.are }
    ]

pub overflow_cast-count : goal.overflow_cast-count
overflow_cast-count c = omega (arith, few_yet c.args.table c.loop-i.i c.loop-i.invariant)
