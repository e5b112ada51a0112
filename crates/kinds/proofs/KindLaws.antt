-- What is true of the data kinds. Assumes nothing.
use Rattle.std.specs.Prelude.{◌≡◌, refl, Bool, true, false, cond, not, ◌&&◌, List, [], ◌∷◌, ℕ, ◌<◌, eqb, length, get_or}
use Rattle.std.proofs.lemmas.Bool.{false≢true, not-true}
use Rattle.std.proofs.Math.Bool.{and-eq-true_iff}
use Rattle.std.proofs.Common.{not-suc-le-zero, arith, eqb-true, eq-eqb, ne_eqb}
use Rattle.numbers.specs.Numbers.{number_at}
use Rattle.calendar.specs.Calendar.{is_day}
use Rattle.kinds.specs.declared.Kind.{Kind}
use Rattle.kinds.specs.declared.Kind.TheVariants.{Letters, Alphanumeric, Text, Identifier, Binary, Price, FilledText, Day}
use Rattle.kinds.specs.Kinds.{allowed, blank_taken, all_nul, agrees_text, agrees_of, agrees_filled_of, steady}

first_holds : (t u v : Bool) → t && u ≡ true → cond t u v ≡ true
first_holds true u v h = h
first_holds false u v h = absurd (false≢true h)

-- a blank field agrees as a text
pub blank_text : (k : Kind) (bs : List ℕ) → all_nul bs ≡ true → agrees_text k bs ≡ true
blank_text k [] h = refl
blank_text k (b ∷ bs) h = first_holds (eqb b 0) (all_nul bs) _ h

-- 0 is no day, so four bytes NUL are none
no_day_blank : (bs : List ℕ) → all_nul bs ≡ true → (eqb (length bs) 4 && is_day (number_at 4 0 bs)) ≡ false
unfolding is_day
no_day_blank [] h = refl
no_day_blank (a ∷ []) h = refl
no_day_blank (a ∷ b ∷ []) h = refl
no_day_blank (a ∷ b ∷ c ∷ []) h = refl
no_day_blank (a ∷ b ∷ c ∷ d ∷ []) h =
    let p = (and-eq-true_iff (eqb a 0) _).0 h in
    let q = (and-eq-true_iff (eqb b 0) _).0 p.1 in
    let r = (and-eq-true_iff (eqb c 0) _).0 q.1 in
    let s = (and-eq-true_iff (eqb d 0) _).0 r.1 in
    rw (eqb-true a 0 p.0, eqb-true b 0 q.0, eqb-true c 0 r.0, eqb-true d 0 s.0)
no_day_blank (a ∷ b ∷ c ∷ d ∷ e ∷ bs) h = rw (ne_eqb (length (a ∷ b ∷ c ∷ d ∷ e ∷ bs)) 4 (λ q. omega (arith, q)))

-- a blank field agrees with every kind but those that are never blank
pub blank_agrees : (k : Kind) (bs : List ℕ) → all_nul bs ≡ true → agrees_of k bs ≡ blank_taken k
blank_agrees Letters bs h = blank_text Letters bs h
blank_agrees Alphanumeric bs h = blank_text Alphanumeric bs h
blank_agrees Text bs h = blank_text Text bs h
blank_agrees Identifier bs h = blank_text Identifier bs h
blank_agrees Binary bs h = refl
blank_agrees Price bs h = refl
blank_agrees FilledText bs h = rw h
blank_agrees Day bs h = no_day_blank bs h

-- a field of the kind that is never blank is a text that is never blank
pub filled_text : (bs : List ℕ) → agrees_of FilledText bs ≡ agrees_filled_of Text bs
filled_text bs = refl

-- a day is four bytes whose number is one
pub day_is : (bs : List ℕ) → length bs ≡ 4 → agrees_of Day bs ≡ is_day (number_at 4 0 bs)
day_is bs e = rw (eq-eqb (length bs) 4 e)

-- a field that agrees and is not blank agrees
pub filled_agrees : (k : Kind) (bs : List ℕ) → agrees_filled_of k bs ≡ true → agrees_of k bs ≡ true
filled_agrees k bs h = ((and-eq-true_iff (not (all_nul bs)) (agrees_of k bs)).0 h).1

-- a field that agrees and is not blank is not blank
pub filled_not_blank : (k : Kind) (bs : List ℕ) → agrees_filled_of k bs ≡ true → all_nul bs ≡ false
filled_not_blank k bs h = not-true (all_nul bs) ((and-eq-true_iff (not (all_nul bs)) (agrees_of k bs)).0 h).0

-- after a NUL only NUL follows
pub steady_nul : (bs : List ℕ) → steady 0 bs ≡ all_nul bs
steady_nul [] = refl
steady_nul (b ∷ bs) = go (eqb b 0) refl (steady_nul bs)
  where
    go : (t : Bool) → eqb b 0 ≡ t → steady 0 bs ≡ all_nul bs → steady 0 (b ∷ bs) ≡ all_nul (b ∷ bs)
    go true e h = rw (eqb-true b 0 e) h
    go false e h = rw e

-- after a byte that is not NUL each byte follows the one before it exactly where the bytes agree with an identifier's kind
pub steady_text : (p : ℕ) → eqb p 0 ≡ false → (bs : List ℕ) → steady p bs ≡ agrees_text Identifier bs
steady_text p n [] = refl
steady_text p n (b ∷ bs) = go (eqb b 0) refl (λ e. steady_text b e bs)
  where
    go : (t : Bool) → eqb b 0 ≡ t → (eqb b 0 ≡ false → steady b bs ≡ agrees_text Identifier bs) → steady p (b ∷ bs) ≡ agrees_text Identifier (b ∷ bs)
    go true e h = rw (eqb-true b 0 e) (steady_nul bs)
    go false e h = rw (e, n, h e)

-- an identifier that begins with NUL is blank or against its kind
pub first_nul : (bs : List ℕ) → 0 < length bs → get_or bs 0 0 ≡ 0 → agrees_filled_of Identifier bs ≡ false
first_nul [] h e = absurd (not-suc-le-zero h)
first_nul (b ∷ bs) h e = rw (eq-eqb b 0 e) (by (all_nul bs))
  where
    by : (x : Bool) → (not x && x) ≡ false
    by true = refl
    by false = refl

-- a field of one byte
one_by : (c d : Bool) → cond c true (d && true) ≡ cond c true d
one_by true d = refl
one_by false true = refl
one_by false false = refl

or_any : (c : Bool) → true ≡ cond c true true
or_any true = refl
or_any false = refl

or_none : (c : Bool) → false ≡ cond c false false
or_none true = refl
or_none false = refl

one-filled : (c d : Bool) → (not (c && true) && cond c true (d && true)) ≡ cond c false d
one-filled true d = refl
one-filled false true = refl
one-filled false false = refl

pub one_agrees : (k : Kind) (b : ℕ) → agrees_of k (b ∷ []) ≡ cond (eqb b 0) (blank_taken k) (allowed k b)
one_agrees Letters b = one_by (eqb b 0) (allowed Letters b)
one_agrees Alphanumeric b = one_by (eqb b 0) (allowed Alphanumeric b)
one_agrees Text b = one_by (eqb b 0) (allowed Text b)
one_agrees Identifier b = one_by (eqb b 0) (allowed Identifier b)
one_agrees Binary b = or_any (eqb b 0)
one_agrees Price b = or_any (eqb b 0)
one_agrees FilledText b = one-filled (eqb b 0) (allowed Text b)
one_agrees Day b = or_none (eqb b 0)

-- bytes that are one byte
pub one_byte : (bs : List ℕ) → length bs ≡ 1 → bs ≡ get_or bs 0 0 ∷ []
one_byte [] e = absurd (omega (arith, e))
one_byte (b ∷ []) e = refl
one_byte (b ∷ c ∷ bs) e = absurd (omega (arith, e))
