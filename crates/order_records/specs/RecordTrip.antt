-- A record as bytes is the record: packed and unpacked it is the same, whatever stands after it, and so are its bytes. Assumes nothing.
use Rattle.std.specs.Prelude.{◌≡◌, refl, ℕ, zero, suc, ◌+◌, ◌-◌, ◌≤◌, ◌<◌, length, get_or, take, drop}
use Rattle.std.proofs.Math.Path.{sym, ap}
use Rattle.std.proofs.Common.{ap₂, ◌∙◌, arith, length-append, length-drop, drop-drop, take-add, length-take-le}
use mathlib.Core.List.{List, [], ◌∷◌, ◌++◌, append_assoc}
use Rattle.std.proofs.Math.Seq.{take_at, drop_at}
use Rattle.std.proofs.lemmas.List.{get_or_at}
use Rattle.numbers.specs.Numbers.{number_at, bytes_of}
use Rattle.numbers.specs.NumberLaws.{number_after, number_back, bytes_back, number_fits}
use Rattle.wire.specs.HeaderLaws.{Bytes}
use Rattle.orders.specs.declared.Record.{Record}
use Rattle.orders.proofs.RoundTrip.{Sound}
use Rattle.order_records.specs.Records.{record_bytes, record_at}
use Rattle.block.specs.Sizes.{fixed_size, layout_size, record_size, most_bitfields, count_place, bits_place, slots_place}

pub record_length : (r : Record) → Sound r → length (record_bytes r) ≡ record_size
unfolding record_bytes
record_length r ok =
    let a : length (r.fixed ++ (r.count ∷ (r.bits ++ r.slots))) ≡ length r.fixed + length (r.count ∷ (r.bits ++ r.slots)) = length-append r.fixed (r.count ∷ (r.bits ++ r.slots)) in
    let b : length (r.bits ++ r.slots) ≡ length r.bits + length r.slots = length-append r.bits r.slots in
    omega (arith, a, b, ok.fixed-length, ok.bits_length, ok.slots_length)

-- records of the same parts
same : {m u n n' c c' : ℕ} {f f' b b' v v' : List ℕ} → n ≡ n' → f ≡ f' → c ≡ c' → b ≡ b' → v ≡ v'
    → ◌≡◌ {A = Record} (record { message = m; unit = u; number = n; fixed = f; count = c; bits = b; slots = v }) (record { message = m; unit = u; number = n'; fixed = f'; count = c'; bits = b'; slots = v' })
same {m} {u} {n} {n'} {c} {c'} {f} {f'} {b} {b'} {v} {v'} p q r s t =
    ap₂ (λ (x : ℕ) (y : List ℕ). record { message = m; unit = u; number = x; fixed = y; count = c; bits = b; slots = v }) p q
    ∙ ap₂ (λ (x : ℕ) (y : List ℕ). record { message = m; unit = u; number = n'; fixed = f'; count = x; bits = y; slots = v }) r s
    ∙ ap (λ (x : List ℕ). record { message = m; unit = u; number = n'; fixed = f'; count = c'; bits = b'; slots = x }) t

module _ (r : Record) (ok : Sound r) (t : List ℕ) where
  body : List ℕ
  body = r.fixed ++ (r.count ∷ (r.bits ++ (r.slots ++ t)))

  as_parts : record_bytes r ++ t ≡ (r.message ∷ r.unit ∷ bytes_of 4 r.number) ++ body
  unfolding record_bytes body
  as_parts =
      let h = r.message ∷ r.unit ∷ bytes_of 4 r.number in
      append_assoc h (r.fixed ++ (r.count ∷ (r.bits ++ r.slots))) t
      ∙ ap (λ (x : List ℕ). h ++ x)
      (append_assoc r.fixed (r.count ∷ (r.bits ++ r.slots)) t ∙ ap (λ (x : List ℕ). r.fixed ++ (r.count ∷ x)) (append_assoc r.bits r.slots t))

  after-count : drop (fixed_size + 1) body ≡ r.bits ++ (r.slots ++ t)
  unfolding body
  after-count =
      sym (drop-drop 1 fixed_size (r.fixed ++ (r.count ∷ (r.bits ++ (r.slots ++ t)))))
      ∙ ap (drop 1) (drop_at r.fixed (r.count ∷ (r.bits ++ (r.slots ++ t))) fixed_size ok.fixed-length)

  -- RECORD AGAIN: the record of a record's bytes is the record
  pub record_again : record_at (record_bytes r ++ t) ≡ r
  unfolding record_at body
  record_again =
      ap record_at as_parts
      ∙ same
      (number_after 4 0 (r.message ∷ r.unit ∷ []) (bytes_of 4 r.number ++ body) ∙ number_back 4 r.number body ok.number_range)
      (take_at r.fixed (r.count ∷ (r.bits ++ (r.slots ++ t))) fixed_size ok.fixed-length)
      (get_or_at r.fixed r.count (r.bits ++ (r.slots ++ t)) 0 fixed_size ok.fixed-length)
      (ap (take most_bitfields) after-count ∙ take_at r.bits (r.slots ++ t) most_bitfields ok.bits_length)
      (ap (take layout_size) (sym (drop-drop most_bitfields (fixed_size + 1) body) ∙ ap (drop most_bitfields) after-count ∙ drop_at r.bits (r.slots ++ t) most_bitfields ok.bits_length) ∙ take_at r.slots t layout_size ok.slots_length)

module _ (s : List ℕ) (bytes : Bytes s) (h : record_size ≤ length s) where
  part_length : (n a : ℕ) → a + n ≤ record_size → length (take n (drop a s)) ≡ n
  part_length n a l = let d : length (drop a s) ≡ length s - a = length-drop a s in length-take-le n (drop a s) (omega arith)

  pub at_sound : Sound (record_at s)
  unfolding record_at
  at_sound = record {
    fixed-length = part_length fixed_size 6 (omega arith);
    bits_length = part_length most_bitfields bits_place (omega arith);
    slots_length = part_length layout_size slots_place (omega arith);
    number_range = number_fits 4 2 s bytes;
  }

-- the first two bytes and the number after them
pub head_again : (s : List ℕ) → Bytes s → 6 ≤ length s → get_or s 0 0 ∷ get_or s 1 0 ∷ bytes_of 4 (number_at 4 2 s) ≡ take 6 s
head_again [] k h = absurd (omega (arith, h))
head_again (a ∷ []) k h = absurd (omega (arith, h))
head_again (a ∷ b ∷ s) k h =
    ap (λ (x : List ℕ). a ∷ b ∷ x) (ap (bytes_of 4) (number_after 4 0 (a ∷ b ∷ []) s) ∙ bytes_back 4 s (omega (arith, h)) (λ i. k (suc (suc i))))

one_byte : (s : List ℕ) (n : ℕ) → n < length s → get_or s n 0 ∷ [] ≡ take 1 (drop n s)
one_byte [] n h = absurd (omega (arith, h))
one_byte (x ∷ s) zero h = refl
one_byte (x ∷ s) (suc n) h = one_byte s n (omega (arith, h))

-- two parts in a row
pub joined : (a n m : ℕ) (s : List ℕ) → take n (drop a s) ++ take m (drop (a + n) s) ≡ take (n + m) (drop a s)
joined a n m s = ap (λ (x : List ℕ). take n (drop a s) ++ take m x) (sym (drop-drop n a s)) ∙ sym (take-add n m (drop a s))

-- BYTES AGAIN: the bytes of the record of a record's bytes are these
pub bytes-again : (s : List ℕ) → Bytes s → record_size ≤ length s → record_bytes (record_at s) ≡ take record_size s
unfolding record_bytes record_at
bytes-again s k h =
    let d = joined bits_place most_bitfields layout_size s in
    let c : get_or s count_place 0 ∷ (take most_bitfields (drop bits_place s) ++ take layout_size (drop slots_place s)) ≡ take (1 + most_bitfields + layout_size) (drop count_place s) =
    ap₂ (λ (x y : List ℕ). x ++ y) (one_byte s count_place (omega arith)) d ∙ joined count_place 1 (most_bitfields + layout_size) s in
    ap₂ (λ (x y : List ℕ). x ++ (take fixed_size (drop 6 s) ++ y)) (head_again s k (omega arith)) c
    ∙ ap (λ (x : List ℕ). take 6 s ++ x) (joined 6 fixed_size (1 + most_bitfields + layout_size) s)
    ∙ joined 0 6 (record_size - 6) s
