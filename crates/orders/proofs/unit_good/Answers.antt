-- `orders::unit_good` meets its contract. Assumes nothing.
use Rattle.table.specs.Table.{unit_refusal}
use Rattle.refusals.specs.Names.{bad_unit}
use Rattle.orders.specs.Shapes.{unit_good}
use Rattle.refusals.specs.Outcomes.{outcome_with, outcome}
use Rattle.std.specs.Prelude.{⊤, Result, is_ok}
use lib.Dec.{leb}
use Prim.Native.Nat.{ℕ}
use mathlib.Core.Path.{◌≡◌, refl, sym, ap, ◌∙◌}
use mathlib.Core.Bool.{Bool, true, false, cond, ◌&&◌}
use Rattle.orders.proofs.unit_good.Goals as goal

-- what the table refuses with 5 is outside 1 to 32
in_table : (u : ℕ) → is_ok (outcome (unit_refusal u)) ≡ (leb 1 u && leb u 32)
unfolding unit_refusal outcome_with
in_table u = by (leb 1 u && leb u 32)
  where
    by : (b : Bool) → is_ok (outcome (cond b 0 bad_unit)) ≡ b
    by true = refl
    by false = refl

pub returns-then-of_member : goal.returns-then-of_member
unfolding unit_good
returns-then-of_member c = rw (sym c.of_member.ensures ∙ c.if-of_member.true)

pub returns-then-is_unsequenced : goal.returns-then-is_unsequenced
unfolding unit_good
returns-then-is_unsequenced c =
    let asked = c in
    rw (sym asked.of_member.ensures ∙ asked.if-of_member.false, sym asked.is_unsequenced.ensures ∙ c.if-is_unsequenced.true) c.both_zero.ensures

pub returns : goal.returns
unfolding unit_good
returns c =
    let asked = c in
    let first = asked in
    let a = first.args in
    rw (sym first.of_member.ensures ∙ asked.if-of_member.false, sym asked.is_unsequenced.ensures ∙ c.if-is_unsequenced.false) (c.is_ok.ensures.value ∙ ap (λ (x : Result ⊤ ℕ). is_ok x) c.check_unit.ensures ∙ in_table a.unit)
