-- The fields of a fixed part, each at its place, are those that the test of the whole part asks of. Assumes nothing.
use Rattle.std.specs.Prelude.{◌≡◌, refl, Bool, true, false, cond, ◌&&◌, List, [], ◌∷◌, ℕ, ◌≤◌, leb, eqb, take, drop}
use Rattle.std.proofs.Common.{◌∙◌, arith}
use Rattle.refusals.specs.FirstBad.{tested, all_good, places_within}
use Rattle.refusals.specs.FirstBadLaws.{First, first_bad_is_first, first-within, first_found}
use Rattle.kinds.specs.declared.Kind.TheVariants.{Alphanumeric, Text, Identifier}
use Rattle.kinds.specs.Kinds.{agrees_of, agrees_filled_of}
use Rattle.numbers.specs.Numbers.{number_at}
use Rattle.dictionary.specs.Dictionary.{is_new_order}
use Rattle.orders.specs.Shapes.{count_at, new_order_good, cancel_order_good, modify_order_good, acknowledgment_good, execution_good, rejection_good, fixed_good}
use Rattle.orders.specs.FixedFields.{new_order_fields, cancel_order_fields, modify_order_fields, acknowledgment_fields, execution_fields, rejection_fields, fixed_fields, fixed_wrong}

-- ---- one to four fields in a row

one_good : (p : ℕ) (a : Bool) → all_good (tested p a ∷ []) ≡ a
one_good p true = refl
one_good p false = refl

two_good : (p q : ℕ) (a b : Bool) → all_good (tested p a ∷ tested q b ∷ []) ≡ (a && b)
two_good p q true b = one_good q b
two_good p q false b = refl

three_good : (p q r : ℕ) (a b c : Bool) → all_good (tested p a ∷ tested q b ∷ tested r c ∷ []) ≡ (a && (b && c))
three_good p q r true true c = one_good r c
three_good p q r true false c = refl
three_good p q r false b c = refl

four_good : (p q r s : ℕ) (a b c d : Bool) → all_good (tested p a ∷ tested q b ∷ tested r c ∷ tested s d ∷ []) ≡ (a && (b && (c && d)))
four_good p q r s true b c d = three_good q r s b c d
four_good p q r s false b c d = refl

-- ---- by type

-- the fields are good where the part is
pub fields_good : (message : ℕ) (f : List ℕ) → all_good (fixed_fields message f) ≡ fixed_good message f
unfolding fixed_fields fixed_good
fields_good message f = by (is_new_order message) (eqb message 0x39) (eqb message 0x25) (eqb message 0x2C) (eqb message 0x3A) (eqb message 0x47)
  where
    by : (a b c d e g : Bool)
        → all_good (cond a (new_order_fields f) (cond b (cancel_order_fields f) (cond c (acknowledgment_fields f) (cond d (execution_fields f) (cond e (modify_order_fields f) (cond g [] (rejection_fields f)))))))
        ≡ cond a (new_order_good f) (cond b (cancel_order_good f) (cond c (acknowledgment_good f) (cond d (execution_good f) (cond e (modify_order_good f) (cond g true (rejection_good f))))))
    by true b c d e g = three_good 10 30 31 (agrees_filled_of Identifier (take 20 f)) (agrees_filled_of Alphanumeric (take 1 (drop 20 f))) (leb 1 (number_at 4 21 f) && leb (number_at 4 21 f) 999999)
    by false true c d e g = one_good 10 (agrees_filled_of Identifier (take 20 f))
    by false false true d e g = one_good 18 (agrees_filled_of Identifier (take 20 (drop 8 f)))
    by false false false true e g =
        four_good 18 62 63 64 (agrees_filled_of Identifier (take 20 (drop 8 f))) (agrees_of Alphanumeric (take 1 (drop 52 f))) (agrees_of Alphanumeric (take 1 (drop 53 f)))
        (agrees_of Alphanumeric (take 4 (drop 54 f)))
    by false false false false true g = two_good 10 30 (agrees_filled_of Identifier (take 20 f)) (agrees_filled_of Identifier (take 20 (drop 20 f)))
    by false false false false false true = refl
    by false false false false false false = three_good 18 38 39 (agrees_filled_of Identifier (take 20 (drop 8 f))) (agrees_of Text (take 1 (drop 28 f))) (agrees_of Text (take 60 (drop 29 f)))

-- every place lies from byte 10 up to the count byte
fields_within : (message : ℕ) (f : List ℕ) → places_within 10 (count_at message) (fixed_fields message f) ≡ true
unfolding fixed_fields count_at
fields_within message f = by (is_new_order message) (eqb message 0x39) (eqb message 0x25) (eqb message 0x2C) (eqb message 0x3A) (eqb message 0x47)
  where
    by : (a b c d e g : Bool)
        → places_within 10 (cond a 35 (cond b 30 (cond c 47 (cond d 69 (cond e 50 (cond g 11 100))))))
        (cond a (new_order_fields f) (cond b (cancel_order_fields f) (cond c (acknowledgment_fields f) (cond d (execution_fields f) (cond e (modify_order_fields f) (cond g [] (rejection_fields f)))))))
        ≡ true
    by true b c d e g = refl
    by false true c d e g = refl
    by false false true d e g = refl
    by false false false true e g = refl
    by false false false false true g = refl
    by false false false false false true = refl
    by false false false false false false = refl

-- so a bad field is told exactly where the part is not good
pub fixed-found : (message : ℕ) (f : List ℕ) → eqb (fixed_wrong message f) 0 ≡ fixed_good message f
unfolding fixed_wrong
fixed-found message f = first_found 10 (count_at message) (fixed_fields message f) (omega arith) (fields_within message f) ∙ fields_good message f

-- and before the count byte
pub fixed-within : (message : ℕ) (f : List ℕ) → fixed_wrong message f ≤ count_at message
unfolding fixed_wrong
fixed-within message f = first-within 10 (count_at message) (fixed_fields message f) (fields_within message f)

-- and it is the first of them
pub fixed_names_the_first : (message : ℕ) (f : List ℕ) → fixed_good message f ≡ false → First (fixed_fields message f) (fixed_wrong message f)
unfolding fixed_wrong
fixed_names_the_first message f h = first_bad_is_first (fixed_fields message f) (fields_good message f ∙ h)
