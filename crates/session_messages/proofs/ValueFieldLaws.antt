-- The values, each at its place, are those that the test of the whole fixed part asks of. Assumes nothing.
use Rattle.std.specs.Prelude.{◌≡◌, refl, Bool, true, false, cond, ◌&&◌, ◌||◌, List, [], ◌∷◌, ℕ, ◌≤◌, eqb, get_or, take, drop}
use Rattle.std.proofs.Common.{◌∙◌, arith}
use Rattle.refusals.specs.FirstBad.{tested, all_good, places_within}
use Rattle.refusals.specs.FirstBadLaws.{First, first_bad_is_first, first-within, first_found}
use Rattle.kinds.specs.declared.Kind.TheVariants.{Alphanumeric, Text}
use Rattle.kinds.specs.Kinds.{agrees_of}
use Rattle.session_messages.specs.Sessions.{names_good, status_good, reason_good, values_good}
use Rattle.session_messages.specs.ValueFields.{name_fields, status_fields, reason_fields, value_fields, values_wrong}

two_good : (p q : ℕ) (a b : Bool) → all_good (tested p a ∷ tested q b ∷ []) ≡ (a && b)
two_good p q true true = refl
two_good p q true false = refl
two_good p q false b = refl

three_good : (p q r : ℕ) (a b c : Bool) → all_good (tested p a ∷ tested q b ∷ tested r c ∷ []) ≡ (a && (b && c))
three_good p q r true b c = two_good q r b c
three_good p q r false b c = refl

-- the fields are good where the part is
pub fields_good : (message : ℕ) (b : List ℕ) → all_good (value_fields message b) ≡ values_good message b
unfolding value_fields values_good
fields_good message b = by (eqb message 0x37) (eqb message 0x24) (eqb message 0x08)
  where
    by : (x y z : Bool) → all_good (cond x (name_fields b) (cond y (status_fields b) (cond z (reason_fields b) []))) ≡ cond x (names_good b) (cond y (status_good b) (cond z (reason_good b) true))
    by true y z = three_good 10 14 18 (agrees_of Alphanumeric (take 4 b)) (agrees_of Alphanumeric (take 4 (drop 4 b))) (agrees_of Alphanumeric (take 10 (drop 8 b)))
    by false true z = two_good 10 11 (agrees_of Alphanumeric (take 1 b)) (agrees_of Text (take 60 (drop 1 b)))
    by false false true = two_good 10 11 (eqb (get_or b 0 0) 33 || agrees_of Alphanumeric (take 1 b)) (agrees_of Text (take 60 (drop 1 b)))
    by false false false = refl

-- every place lies within the longest of the fixed parts' fronts
fields_within : (message : ℕ) (b : List ℕ) → places_within 10 18 (value_fields message b) ≡ true
unfolding value_fields
fields_within message b = by (eqb message 0x37) (eqb message 0x24) (eqb message 0x08)
  where
    by : (x y z : Bool) → places_within 10 18 (cond x (name_fields b) (cond y (status_fields b) (cond z (reason_fields b) []))) ≡ true
    by true y z = refl
    by false true z = refl
    by false false true = refl
    by false false false = refl

-- so a bad value is told exactly where the part is not good
pub values-found : (message : ℕ) (b : List ℕ) → eqb (values_wrong message b) 0 ≡ values_good message b
unfolding values_wrong
values-found message b = first_found 10 18 (value_fields message b) (omega arith) (fields_within message b) ∙ fields_good message b

-- at byte 18 at most
pub values-within : (message : ℕ) (b : List ℕ) → values_wrong message b ≤ 18
unfolding values_wrong
values-within message b = first-within 10 18 (value_fields message b) (fields_within message b)

-- and it is the first of them
pub values_name_the_first : (message : ℕ) (b : List ℕ) → values_good message b ≡ false → First (value_fields message b) (values_wrong message b)
unfolding values_wrong
values_name_the_first message b h = first_bad_is_first (value_fields message b) (fields_good message b ∙ h)
