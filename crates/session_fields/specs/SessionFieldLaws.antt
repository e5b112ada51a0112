-- What is true of the fields of a session record: what is set is got, and everything else stays as it was. Assumes nothing.
use Rattle.std.specs.Prelude.{◌≡◌, refl, ◌⊎◌, Bool, true, false, ◌&&◌, ℕ, ◌+◌, ◌-◌, ◌*◌, ◌^◌, ◌≤◌, ◌<◌, min, eqb, length, get_or, take, drop, None, Some}
use Rattle.std.proofs.Common.{sym, ◌∙◌, inl, inr, ⊎_elim, arith, length-take, length-drop, length-take-le, get_or-take, get_or-drop, ext_get_or, eq-eqb}
use Rattle.std.proofs.Math.Path.{ap, ap₂}
use Rattle.std.proofs.Math.Bool.{cond}
use mathlib.Core.List.{List, [], ◌∷◌}
use Rattle.std.proofs.Math.Dec.{ltb}
use Rattle.std.proofs.lemmas.List.{get_or_at}
use Rattle.numbers.specs.Numbers.{number_at, bytes_of, patched, put_buffer}
use Rattle.numbers.specs.NumberLaws.{put_is_there, read_of_written, put_stores, patched-length, patched-before, patched-after, number_before, number_beyond}
use Rattle.session_messages.specs.declared.Record.{Record}
use Rattle.table.specs.declared.OutgoingNumber.{OutgoingNumber}
use Rattle.session_fields.specs.declared.Pair.{Pair}
use Rattle.session_fields.specs.SessionFields.{is_of, number_of, outgoing_of, text_of, has_pair, pair_of, choose, storing, setting_of}

-- an outgoing number, and a pair, by their numbers
abbrev outgoing : ℕ → OutgoingNumber
outgoing x = record { 0 = x }

abbrev pub pair : ℕ → ℕ → Pair
pair u n = record { unit = record { 0 = u }; number = record { 0 = n } }

-- ---- a record of another type stays as it is

pub other_type_stays : (message at : ℕ) (bytes : List ℕ) (r : Record) → is_of message r ≡ false → setting_of message at bytes r ≡ r
unfolding setting_of
other_type_stays message at bytes r e = ap (λ (b : Bool). choose b (storing at bytes r) r) e

-- ---- setting a field leaves all but the body, in a record of any type

pub record SameElsewhere (o r : Record) : Type 0 where
  pub same_message : o.message ≡ r.message
  pub same-unit : o.unit ≡ r.unit
  pub same_number : o.number ≡ r.number

pub setting_keeps_the_rest : (message at : ℕ) (bytes : List ℕ) (r : Record) → SameElsewhere (setting_of message at bytes r) r
unfolding setting_of storing
setting_keeps_the_rest message at bytes r = by (is_of message r)
  where
    by : (b : Bool) → SameElsewhere (choose b (storing at bytes r) r) r
    by true = record { same_message = refl; same-unit = refl; same_number = refl }
    by false = record { same_message = refl; same-unit = refl; same_number = refl }

-- ---- what is set is got: over any place and width

-- a record of the type, its body whole, and a place of w bytes in it
pub record Part (message at w : ℕ) (r : Record) : Type 0 where
  pub of_type : r.message ≡ message
  pub whole : length r.body ≡ 433
  pub fits : at + w ≤ 433

-- bytes that are put are there
module _ {message at w : ℕ} {r : Record} (i : Part message at w r) where
  -- the record stays of its type
  pub set-is_of : (bytes : List ℕ) → is_of message (setting_of message at bytes r) ≡ true
  set-is_of bytes = eq-eqb _ _ ((setting_keeps_the_rest message at bytes r).same_message ∙ i.of_type)

  pub set_buffer : (bytes : List ℕ) → (setting_of message at bytes r).body ≡ put_buffer r.body at bytes
  unfolding setting_of storing
  set_buffer bytes = ap (λ (b : Bool). (choose b (storing at bytes r) r).body) (eq-eqb _ _ i.of_type)

  pub set_body : (bytes : List ℕ) → length bytes ≡ w → (setting_of message at bytes r).body ≡ patched r.body at bytes
  set_body bytes l = set_buffer bytes ∙ put_stores r.body at bytes (omega (arith, i.fits, i.whole, l))

  -- the body keeps its length
  pub set-length : (bytes : List ℕ) → length bytes ≡ w → length (setting_of message at bytes r).body ≡ 433
  set-length bytes l = ap length (set_body bytes l) ∙ patched-length r.body at bytes (omega (arith, i.fits, i.whole, l)) ∙ i.whole

  -- its place holds the bytes that were set
  pub set_is_held : (bytes : List ℕ) → length bytes ≡ w
      → text_of w message at (setting_of message at bytes r) ≡ Some bytes
  set_is_held bytes l =
      let h : at + length bytes ≤ length r.body = omega (arith, i.fits, i.whole, l) in
      ap₂ (λ (b : Bool) (s : List ℕ). cond b (Some (take w (drop at s))) None) (set-is_of bytes) (set_body bytes l)
      ∙ ap (λ (t : List ℕ). Some t) (put_is_there r.body at bytes w l h)

  -- a number is got, whatever its width
  pub number_set_is_got : (v : ℕ) → v < 256 ^ w → number_of w message at (setting_of message at (bytes_of w v) r) ≡ Some v
  number_set_is_got v h =
      ap₂ (λ (b : Bool) (s : List ℕ). cond b (Some (number_at w at s)) None) (set-is_of (bytes_of w v)) (set_buffer (bytes_of w v))
      ∙ ap (λ (x : ℕ). Some x) (read_of_written w v at r.body h (omega (arith, i.fits, i.whole)))

pub byte_set_is_got : {message at : ℕ} {r : Record} → Part message at 1 r → (v : ℕ) → number_of 1 message at (setting_of message at (v ∷ []) r) ≡ Some v
unfolding patched
byte_set_is_got {message} {at} {r} i v =
    let e : number_at 1 at (patched r.body at (v ∷ [])) ≡ get_or (patched r.body at (v ∷ [])) at 0 = omega arith in
    ap₂ (λ (b : Bool) (s : List ℕ). cond b (Some (number_at 1 at s)) None) (set-is_of i (v ∷ [])) (set_body i (v ∷ []) refl)
    ∙ ap (λ (x : ℕ). Some x) (e ∙ get_or_at (take at r.body) v (drop (at + 1) r.body) 0 at (length-take-le at r.body (omega (arith, i.fits, i.whole))))

pub outgoing_set_is_got : {message at : ℕ} {r : Record} → Part message at 4 r → (v : ℕ) → v < 4294967296
    → outgoing_of message at (setting_of message at (bytes_of 4 v) r) ≡ Some (record { 0 = v })
outgoing_set_is_got {message} {at} {r} i v h =
    ap₂ (λ (b : Bool) (s : List ℕ). cond b (Some (outgoing (number_at 4 at s))) None) (set-is_of i (bytes_of 4 v)) (set_buffer i (bytes_of 4 v))
    ∙ ap (λ (x : ℕ). Some (outgoing x)) (read_of_written 4 v at r.body h (omega (arith, i.fits, i.whole)))

-- ---- setting a field leaves every field that lies apart, of a message of whichever type

-- equal bytes over a run are an equal run
pub same_bytes : (s t : List ℕ) (q w : ℕ) → length s ≡ length t → ((j : ℕ) → q ≤ j → j < q + w → get_or s j 0 ≡ get_or t j 0) → take w (drop q s) ≡ take w (drop q t)
same_bytes s t q w e h = ext_get_or 0 (take w (drop q s)) (take w (drop q t)) same (λ (j : ℕ) (b : j < length (take w (drop q s))). at_each j (short j b))
  where
    long : (x : List ℕ) → length (take w (drop q x)) ≡ min w (length x - q)
    long x = length-take w (drop q x) ∙ ap (min w) (length-drop q x)

    same : length (take w (drop q s)) ≡ length (take w (drop q t))
    same = long s ∙ ap (λ (n : ℕ). min w (n - q)) e ∙ sym (long t)

    short : (j : ℕ) → j < length (take w (drop q s)) → j < w
    short j b = omega (arith, b, long s)

    part : (x : List ℕ) (j : ℕ) → j < w → get_or (take w (drop q x)) j 0 ≡ get_or x (q + j) 0
    part x j b = get_or-take w (drop q x) j 0 b ∙ get_or-drop q x j 0

    at_each : (j : ℕ) → j < w → get_or (take w (drop q s)) j 0 ≡ get_or (take w (drop q t)) j 0
    at_each j b = part s j b ∙ h (q + j) (omega arith) (omega (arith, b)) ∙ sym (part t j b)

module _ {message at w : ℕ} {r : Record} (i : Part message at w r) (bytes : List ℕ) (l : length bytes ≡ w) where
  fits-there : at + length bytes ≤ length r.body
  fits-there = omega (arith, i.fits, i.whole, l)

  -- a byte outside the field
  pub byte_stays : (j : ℕ) → (at + w ≤ j) ⊎ (j < at) → get_or (setting_of message at bytes r).body j 0 ≡ get_or r.body j 0
  byte_stays j apart =
      ap (λ (s : List ℕ). get_or s j 0) (set_body i bytes l)
      ∙ ⊎_elim
      (λ (x : at + w ≤ j). patched-after r.body at bytes fits-there j (omega (arith, x, l)))
      (λ (x : j < at). patched-before r.body at bytes fits-there j x)
      apart

  -- a number outside the field
  pub number_stays : (n j : ℕ) → (at + w ≤ j) ⊎ (j + n ≤ at) → number_at n j (setting_of message at bytes r).body ≡ number_at n j r.body
  number_stays n j apart =
      ap (number_at n j) (set_body i bytes l)
      ∙ ⊎_elim
      (λ (x : at + w ≤ j). number_beyond r.body at bytes fits-there n j (omega (arith, x, l)))
      (λ (x : j + n ≤ at). number_before r.body at bytes fits-there n j x)
      apart

  -- a run of bytes outside the field
  pub run_stays : (n q : ℕ) → (at + w ≤ q) ⊎ (q + n ≤ at) → take n (drop q (setting_of message at bytes r).body) ≡ take n (drop q r.body)
  run_stays n q apart =
      same_bytes (setting_of message at bytes r).body r.body q n (set-length i bytes l ∙ sym i.whole)
      (λ (j : ℕ) (a : q ≤ j) (b : j < q + n).
      ⊎_elim
      (λ (x : at + w ≤ q). byte_stays j (inl (omega (arith, x, a))))
      (λ (x : q + n ≤ at). byte_stays j (inr (omega (arith, x, b))))
      apart)

  -- the record stays of its type, whichever that is
  pub same_type : (type : ℕ) → is_of type (setting_of message at bytes r) ≡ is_of type r
  same_type type = ap (λ (m : ℕ). eqb m type) (setting_keeps_the_rest message at bytes r).same_message

  pub number_field_kept : (type n q : ℕ) → (at + w ≤ q) ⊎ (q + n ≤ at) → number_of n type q (setting_of message at bytes r) ≡ number_of n type q r
  number_field_kept type n q apart = ap₂ (λ (b : Bool) (x : ℕ). cond b (Some x) None) (same_type type) (number_stays n q apart)

  pub outgoing_field_kept : (type q : ℕ) → (at + w ≤ q) ⊎ (q + 4 ≤ at) → outgoing_of type q (setting_of message at bytes r) ≡ outgoing_of type q r
  outgoing_field_kept type q apart = ap₂ (λ (b : Bool) (x : ℕ). cond b (Some (outgoing x)) None) (same_type type) (number_stays 4 q apart)

  pub text_field_kept : (type n q : ℕ) → (at + w ≤ q) ⊎ (q + n ≤ at) → text_of n type q (setting_of message at bytes r) ≡ text_of n type q r
  text_field_kept type n q apart = ap₂ (λ (b : Bool) (x : List ℕ). cond b (Some x) None) (same_type type) (run_stays n q apart)

  -- the pairs, of a field before their count
  pub pair_kept : (type q k : ℕ) → at + w ≤ q → pair_of type q k (setting_of message at bytes r) ≡ pair_of type q k r
  unfolding pair_of
  pair_kept type q k before =
      let p = q + 1 + 5 * k in
      let u : at + w ≤ p = omega (arith, before) in
      let n : at + w ≤ p + 1 = omega (arith, before) in
      let has : has_pair type q k (setting_of message at bytes r) ≡ has_pair type q k r = ap₂ (λ (b : Bool) (x : ℕ). b && (ltb k x && ltb k 32)) (same_type type) (byte_stays q (inl before)) in
      ap₂ (λ (b : Bool) (x : ℕ). cond b (Some (pair x (number_at 4 (p + 1) (setting_of message at bytes r).body))) None) has (byte_stays p (inl u))
      ∙ ap (λ (x : ℕ). cond (has_pair type q k r) (Some (pair (get_or r.body p 0) x)) None) (number_stays 4 (p + 1) (inl n))
