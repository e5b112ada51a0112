-- The late refusals' place in the order: 9 where the need hangs on a value comes after 10, and 23 comes last; in writing both come before 12.
-- Assumes nothing.
use Rattle.std.specs.Prelude.{◌≡◌, refl, Bool, true, false, cond, not, ◌||◌, List, ℕ, ◌+◌, leb, ltb, eqb, length, drop}
use Rattle.std.proofs.Common.{sym, ◌∙◌, arith, eq-eqb, ne_eqb, eqb-true}
use Rattle.std.proofs.lemmas.Bool.{eqb-false}
use Rattle.refusals.specs.Names.{not_selected, conflict}
use Rattle.refusals.specs.Told.{told}
use Rattle.wire.specs.Header.{type_of, unit_of, number_of, total_of}
use Rattle.block.specs.Slots.{takes, sum, any_bad, agree_sent}
use Rattle.block.specs.Places.{slots_of, has_required}
use Rattle.orders.specs.Shapes.{of_member, of_venue, count_at, most_of, unit_good, fixed_good}
use Rattle.orders.specs.Middle.{middle_size, middle_good}
use Rattle.orders.specs.Late.{lacks, conflicts, late_refusal}
use Rattle.orders.specs.Orders.{count_of, bits_of, rest_of, optional_of, fixed_of, head_refusal, block_refusal, body_refusal, read_refusal, layout_of}

-- what a message is refused with late
abbrev pub late_of : List ℕ → ℕ
late_of m = late_refusal (type_of m) (count_of m) (bits_of m) (layout_of (type_of m) (count_of m) (bits_of m) (optional_of m))

-- and before it
abbrev pub early_of : List ℕ → ℕ
early_of m = cond (eqb (head_refusal m) 0) (block_refusal (total_of m) (type_of m) (count_of m) (bits_of m) (fixed_of m) (rest_of m)) (head_refusal m)

-- LATE NINE AFTER TEN: a message that is refused with anything up to 10 is refused with that, whatever hangs on its values
pub late_nine_after_ten : (m : List ℕ) → (early_of m ≡ 0 → ⊥) → read_refusal m ≡ early_of m
unfolding read_refusal body_refusal
late_nine_after_ten m n = by (eqb (head_refusal m) 0) refl n
  where
    by : (b : Bool) → eqb (head_refusal m) 0 ≡ b → (cond b (block_refusal (total_of m) (type_of m) (count_of m) (bits_of m) (fixed_of m) (rest_of m)) (head_refusal m) ≡ 0 → ⊥)
        → cond b (body_refusal (total_of m) (type_of m) (count_of m) (bits_of m) (fixed_of m) (rest_of m)) (head_refusal m)
        ≡ cond b (block_refusal (total_of m) (type_of m) (count_of m) (bits_of m) (fixed_of m) (rest_of m)) (head_refusal m)
    by true e n = rw (ne_eqb (block_refusal (total_of m) (type_of m) (count_of m) (bits_of m) (fixed_of m) (rest_of m)) 0 n)
    by false e n = refl

-- and where there is no such refusal the late ones decide
pub late_decides : (m : List ℕ) → early_of m ≡ 0 → read_refusal m ≡ late_of m
unfolding read_refusal body_refusal optional_of
late_decides m z = by (eqb (head_refusal m) 0) refl z
  where
    by : (b : Bool) → eqb (head_refusal m) 0 ≡ b → cond b (block_refusal (total_of m) (type_of m) (count_of m) (bits_of m) (fixed_of m) (rest_of m)) (head_refusal m) ≡ 0
        → cond b (body_refusal (total_of m) (type_of m) (count_of m) (bits_of m) (fixed_of m) (rest_of m)) (head_refusal m) ≡ late_of m
    by true e z = rw (eq-eqb (block_refusal (total_of m) (type_of m) (count_of m) (bits_of m) (fixed_of m) (rest_of m)) 0 z)
    by false e z = absurd (eqb-false (head_refusal m) 0 e z)

-- 23 is nothing that is told before
never : (b : Bool) {x y : ℕ} → (x ≡ conflict → ⊥) → (y ≡ conflict → ⊥) → cond b x y ≡ conflict → ⊥
never true p q e = p e
never false p q e = q e

block-other : (total message count : ℕ) (bits fixed rest : List ℕ) → block_refusal total message count bits fixed rest ≡ conflict → ⊥
unfolding block_refusal
block-other total message count bits fixed rest =
    never (any_bad (slots_of message count bits)) (λ z. omega (arith, z))
    (never (not (has_required message count bits)) (λ z. omega (arith, z))
    (never (not (eqb (middle_size message count bits rest + sum takes (slots_of message count bits)) (length rest))) (λ z. omega (arith, z))
    (never (not (fixed_good message fixed)) (λ z. omega (arith, z))
    (never (not (middle_good message count bits rest)) (λ z. omega (arith, z))
    (never (not (agree_sent (slots_of message count bits) (drop (middle_size message count bits rest) rest))) (λ z. omega (arith, z)) (λ z. omega (arith, z)))))))

head_other : (m : List ℕ) → head_refusal m ≡ conflict → ⊥
unfolding head_refusal
head_other m =
    never (not (of_member (type_of m) || of_venue (type_of m))) (λ z. omega (arith, z))
    (never (not (unit_good (type_of m) (unit_of m) (number_of m))) (λ z. omega (arith, z))
    (never (leb (length m) (count_at (type_of m))) (λ z. omega (arith, z))
    (never (ltb (most_of (type_of m)) (count_of m)) (λ z. omega (arith, z))
    (never (ltb (length m) (count_at (type_of m) + 1 + count_of m)) (λ z. omega (arith, z)) (λ z. omega (arith, z))))))

-- CONFLICT IS LAST: 23 is told only where nothing else is wrong
pub conflict_is_last : (m : List ℕ) → read_refusal m ≡ conflict → (early_of m ≡ 0) × (late_of m ≡ conflict)
conflict_is_last m e = by (eqb (early_of m) 0) refl
  where
    other : early_of m ≡ conflict → ⊥
    other = never (eqb (head_refusal m) 0) (block-other (total_of m) (type_of m) (count_of m) (bits_of m) (fixed_of m) (rest_of m)) (head_other m)

    by : (b : Bool) → eqb (early_of m) 0 ≡ b → (early_of m ≡ 0) × (late_of m ≡ conflict)
    by true q = let z = eqb-true (early_of m) 0 q in (z, sym (late_decides m z) ∙ e)
    by false q = absurd (other (sym (late_nine_after_ten m (eqb-false (early_of m) 0 q)) ∙ e))

-- and no field is lacking: the late 9 comes before it, in reading and in writing
pub conflict_without_lack : (message count : ℕ) (bits slots : List ℕ) → late_refusal message count bits slots ≡ conflict → lacks message count bits slots ≡ false
unfolding late_refusal
conflict_without_lack message count bits slots = by (lacks message count bits slots)
  where
    by : (b : Bool) → cond b (told not_selected (count_at message + count)) (cond (conflicts message count bits slots) conflict 0) ≡ conflict → b ≡ false
    by true e = absurd (omega (arith, e))
    by false e = refl
