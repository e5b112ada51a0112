-- The round trip of a message with bitfields, over the definitions that reader and writer meet.
--     written-again   what is read is written again as the same bytes, trailing zero bitfields and reserved bytes included
--     read_again      a record that the writer takes, written and read with any bytes after it, is the same record
-- Assumes nothing.
use Rattle.std.specs.Prelude.{◌≡◌, ◌||◌, ℕ, suc, ◌+◌, ◌-◌, ◌≤◌, ◌<◌, get_or}
use Rattle.std.proofs.Math.Path.{refl, sym, ap, ap₂}
use Rattle.std.proofs.Common.{◌∙◌, length-take-le, drop-drop, drop-cons}
use mathlib.Core.List.{List, [], ◌∷◌, ◌++◌, append_assoc, append-nil}
use native.Mathlib.Omega.{arith}
use Rattle.std.proofs.Math.ListN.{length, take, drop, length-append, length-drop, take-append-drop}
use Rattle.std.proofs.Math.Seq.{take_at, drop_at}
use Rattle.std.proofs.lemmas.List.{get_or_at}
use Rattle.kinds.specs.Kinds.{all_nul}
use Rattle.numbers.specs.NumberLaws.{number_fits}
use Rattle.wire.specs.Header.{header_bytes, length_of, type_of, unit_of, number_of, total_of}
use Rattle.wire.specs.HeaderLaws.{Bytes, header-length, header_number, header_total, header-again}
use Rattle.wire.specs.Frame.{frame_refusal, framed}
use Rattle.wire.proofs.FrameLaws.{Whole, accepted, framed_is}
use Rattle.block.specs.Slots.{zeros, Slot, takes, width, sum, any_bad, spread, gathered, agree_sent}
use Rattle.block.specs.SlotLaws.{length-zeros, zeros_are_nul, zeros-after, takes-below, spread-length, gathered-length, gathered-front, back, forth, spread-zero, agree_spread, agree_gathered}
use Rattle.block.specs.Places.{slots_of, has_required}
use Rattle.block.proofs.Dictionaries.{widths_fit}
use Rattle.orders.specs.Shapes.{of_member, of_venue, count_at, unit_good, fixed_good}
use Rattle.orders.specs.Middle.{middle_size, middle_good}
use Rattle.orders.specs.Late.{late_refusal}
use Rattle.orders.specs.Orders.{count_of, bits_of, rest_of, middle_of, optional_of, fixed_of, layout_of, read_refusal, record_of, write_slots, write_rest, write_middle, size_of, order_bytes, write_refusal}
use Rattle.orders.proofs.OrderLaws.{count_bounds, most_bound, middle-fits, middle-kept, good_kept, good, is_read, fit, is_written}
use Rattle.orders.specs.declared.Record.{Record}
use Rattle.block.specs.Sizes.{fixed_end, fixed_size, layout_size, most_bitfields}

-- ---- five parts one after the other

module _ (p f : List ℕ) (c : ℕ) (b g : List ℕ) (a : ℕ) (lp : length p ≡ 10) (lf : length f ≡ a - 10) (lb : length b ≡ c) (ha : 10 ≤ a) where
  whole_of : List ℕ
  whole_of = p ++ (f ++ (c ∷ (b ++ g)))

  front : List ℕ
  front = p ++ f

  front_length : length front ≡ a
  unfolding front
  front_length = length-append p f ∙ omega arith

  as_front : p ++ (f ++ (c ∷ (b ++ g))) ≡ front ++ (c ∷ (b ++ g))
  unfolding front
  as_front = sym (append_assoc p f (c ∷ (b ++ g)))

  pub parts-length : length (p ++ (f ++ (c ∷ (b ++ g)))) ≡ a + 1 + c + length g
  parts-length =
      let n : length (b ++ g) ≡ length b + length g = length-append b g in
      ap length as_front ∙ length-append front (c ∷ (b ++ g)) ∙ omega (arith, front_length, n)

  pub parts-fixed : take (a - 10) (drop 10 (p ++ (f ++ (c ∷ (b ++ g))))) ≡ f
  parts-fixed = ap (take (a - 10)) (drop_at p (f ++ (c ∷ (b ++ g))) 10 lp) ∙ take_at f (c ∷ (b ++ g)) (a - 10) lf

  pub parts-count : get_or (p ++ (f ++ (c ∷ (b ++ g)))) a 0 ≡ c
  parts-count = ap (λ (l : List ℕ). get_or l a 0) as_front ∙ get_or_at front c (b ++ g) 0 a front_length

  after-count : drop (a + 1) (p ++ (f ++ (c ∷ (b ++ g)))) ≡ b ++ g
  after-count =
      ap (drop (a + 1)) as_front
      ∙ sym (drop-drop 1 a (front ++ (c ∷ (b ++ g))))
      ∙ ap (drop 1) (drop_at front (c ∷ (b ++ g)) a front_length)

  pub parts_bits : take c (drop (a + 1) (p ++ (f ++ (c ∷ (b ++ g))))) ≡ b
  parts_bits = ap (take c) after-count ∙ take_at b g c lb

  pub parts-rest : drop (a + 1 + c) (p ++ (f ++ (c ∷ (b ++ g)))) ≡ g
  parts-rest = sym (drop-drop c (a + 1) (p ++ (f ++ (c ∷ (b ++ g))))) ∙ ap (drop c) after-count ∙ drop_at b g c lb

-- a message is its five parts
five : (m : List ℕ) (a c : ℕ) → 10 ≤ a → a < length m → get_or m a 0 ≡ c
    → take 10 m ++ (take (a - 10) (drop 10 m) ++ (c ∷ (take c (drop (a + 1) m) ++ drop (a + 1 + c) m))) ≡ m
five m a c ha la e =
    let d : take c (drop (a + 1) m) ++ drop (a + 1 + c) m ≡ drop (a + 1) m =
    ap (λ (l : List ℕ). take c (drop (a + 1) m) ++ l) (sym (drop-drop c (a + 1) m)) ∙ take-append-drop c (drop (a + 1) m) in
    let s : suc a ≡ a + 1 = omega arith in
    let h : c ∷ drop (a + 1) m ≡ drop a m = sym (drop-cons m a 0 la ∙ ap₂ (λ (x n : ℕ). x ∷ drop n m) e s) in
    let k : 10 + (a - 10) ≡ a = omega arith in
    let q : c ∷ (take c (drop (a + 1) m) ++ drop (a + 1 + c) m) ≡ drop (a - 10) (drop 10 m) =
    ap (λ (l : List ℕ). c ∷ l) d ∙ h ∙ sym (drop-drop (a - 10) 10 m ∙ ap (λ (n : ℕ). drop n m) k) in
    ap (λ (l : List ℕ). take 10 m ++ (take (a - 10) (drop 10 m) ++ l)) q
    ∙ ap (λ (l : List ℕ). take 10 m ++ l) (take-append-drop (a - 10) (drop 10 m))
    ∙ take-append-drop 10 m

-- ---- what is read is written again

module _ (m : List ℕ) (bytes : Bytes m) (w : Whole m) (exact : length m ≡ total_of m) (z : read_refusal m ≡ 0) where
  gathered-again : gathered (slots_of (type_of m) (count_of m) (bits_of m)) (layout_of (type_of m) (count_of m) (bits_of m) (optional_of m)) ≡ optional_of m
  unfolding layout_of
  gathered-again =
      let n = spread-length (slots_of (type_of m) (count_of m) (bits_of m)) (optional_of m) (omega (arith, (good m z).total)) in
      gathered-front (slots_of (type_of m) (count_of m) (bits_of m)) (spread (slots_of (type_of m) (count_of m) (bits_of m)) (optional_of m)) (zeros (layout_size - sum width (slots_of (type_of m) (count_of m) (bits_of m)))) (omega (arith, n))
      ∙ back (slots_of (type_of m) (count_of m) (bits_of m)) (optional_of m) (sym (good m z).total)

  long : 10 ≤ length m
  unfolding total_of
  long = omega (arith, w.least, exact)

  rest-length : length (rest_of m) + (count_at (type_of m) + 1 + count_of m) ≡ length m
  unfolding rest_of
  rest-length =
      let n : length (drop (count_at (type_of m) + 1 + count_of m) m) ≡ length m - (count_at (type_of m) + 1 + count_of m) = length-drop (count_at (type_of m) + 1 + count_of m) m in
      omega (arith, (good m z).there)

  optional_length : length (optional_of m) + middle_of m ≡ length (rest_of m)
  unfolding optional_of
  optional_length =
      let n : length (drop (middle_of m) (rest_of m)) ≡ length (rest_of m) - middle_of m = length-drop (middle_of m) (rest_of m) in
      omega (arith, n, (good m z).middle-there)

  front_bits : length (take (count_of m) (drop (count_at (type_of m) + 1) m)) ≡ count_of m
  front_bits =
      let n : length (drop (count_at (type_of m) + 1) m) ≡ length m - (count_at (type_of m) + 1) = length-drop (count_at (type_of m) + 1) m in
      length-take-le (count_of m) (drop (count_at (type_of m) + 1) m) (omega (arith, (good m z).there))

  front-fixed : length (take (count_at (type_of m) - 10) (drop 10 m)) ≡ count_at (type_of m) - 10
  front-fixed =
      let n : length (drop 10 m) ≡ length m - 10 = length-drop 10 m in
      length-take-le (count_at (type_of m) - 10) (drop 10 m) (omega (arith, (good m z).there))

  bits_again : take (count_of m) (bits_of m) ≡ take (count_of m) (drop (count_at (type_of m) + 1) m)
  unfolding bits_of
  bits_again = take_at (take (count_of m) (drop (count_at (type_of m) + 1) m)) (zeros (most_bitfields - count_of m)) (count_of m) front_bits

  -- what a record's fixed part holds after the message's: the middle, and zeros
  after-fixed : List ℕ
  after-fixed = take (middle_of m) (rest_of m) ++ zeros (fixed_end - count_at (type_of m) - middle_of m)

  fixed-again : take (count_at (type_of m) - 10) (fixed_of m) ≡ take (count_at (type_of m) - 10) (drop 10 m)
  unfolding fixed_of
  fixed-again = take_at (take (count_at (type_of m) - 10) (drop 10 m)) (take (middle_of m) (rest_of m) ++ zeros (fixed_end - count_at (type_of m) - middle_of m)) (count_at (type_of m) - 10) front-fixed

  rest-again : write_rest (record_of m) ≡ after-fixed
  unfolding write_rest record_of fixed_of after-fixed
  rest-again = drop_at (take (count_at (type_of m) - 10) (drop 10 m)) (take (middle_of m) (rest_of m) ++ zeros (fixed_end - count_at (type_of m) - middle_of m)) (count_at (type_of m) - 10) front-fixed

  middle-again : write_middle (record_of m) ≡ middle_of m
  unfolding record_of after-fixed
  middle-again =
      ap (middle_size (type_of m) (count_of m) (bits_of m)) rest-again
      ∙ middle-kept (type_of m) (count_of m) (bits_of m) (rest_of m) (zeros (fixed_end - count_at (type_of m) - middle_of m)) (good m z).middle-there

  middle_long : length (take (middle_of m) (rest_of m)) ≡ middle_of m
  middle_long = length-take-le (middle_of m) (rest_of m) (good m z).middle-there

  held-again : take (write_middle (record_of m)) (write_rest (record_of m)) ≡ take (middle_of m) (rest_of m)
  unfolding after-fixed
  held-again =
      ap₂ (λ (n : ℕ) (l : List ℕ). take n l) middle-again rest-again
      ∙ take_at (take (middle_of m) (rest_of m)) (zeros (fixed_end - count_at (type_of m) - middle_of m)) (middle_of m) middle_long

  unused_again : drop (write_middle (record_of m)) (write_rest (record_of m)) ≡ zeros (fixed_end - count_at (type_of m) - middle_of m)
  unfolding after-fixed
  unused_again =
      ap₂ (λ (n : ℕ) (l : List ℕ). drop n l) middle-again rest-again
      ∙ drop_at (take (middle_of m) (rest_of m)) (zeros (fixed_end - count_at (type_of m) - middle_of m)) (middle_of m) middle_long

  pub size-again : size_of (record_of m) ≡ length m
  unfolding size_of write_slots record_of
  size-again =
      ap (λ (n : ℕ). count_at (type_of m) + 1 + count_of m + (n + sum takes (slots_of (type_of m) (count_of m) (bits_of m)))) middle-again
      ∙ omega (arith, rest-length, optional_length, (good m z).total)

  head_again : header_bytes (size_of (record_of m) - 2) (type_of m) (unit_of m) (number_of m) ≡ take 10 m
  unfolding total_of
  head_again =
      let n : size_of (record_of m) - 2 ≡ length_of m = omega (arith, size-again, exact) in
      ap (λ (l : ℕ). header_bytes l (type_of m) (unit_of m) (number_of m)) n ∙ header-again m long bytes w.ba0 w.ba1

  -- the middle and the optional bytes are all that follows the bitfields
  rest_is : take (middle_of m) (rest_of m) ++ optional_of m ≡ drop (count_at (type_of m) + 1 + count_of m) m
  unfolding optional_of rest_of
  rest_is = take-append-drop (middle_of m) (rest_of m)

  -- WRITTEN AGAIN: the record of a message that is read has the message's bytes
  pub written_again : order_bytes (record_of m) ≡ m
  unfolding order_bytes record_of write_slots
  written_again =
      let b = count_bounds (type_of m) in
      ap₂ (λ (p f : List ℕ). p ++ (f ++ (count_of m ∷ (take (count_of m) (bits_of m) ++ (take (write_middle (record_of m)) (write_rest (record_of m)) ++ gathered (slots_of (type_of m) (count_of m) (bits_of m)) (layout_of (type_of m) (count_of m) (bits_of m) (optional_of m))))))) head_again fixed-again
      ∙ ap₂ (λ (x y : List ℕ). take 10 m ++ (take (count_at (type_of m) - 10) (drop 10 m) ++ (count_of m ∷ (x ++ y)))) bits_again (ap₂ (λ (x y : List ℕ). x ++ y) held-again gathered-again ∙ rest_is)
      ∙ five m (count_at (type_of m)) (count_of m) (omega (arith, b.low)) (omega (arith, (good m z).there)) refl

  -- and the writer takes it
  pub taken-again : (room : ℕ) → length m ≤ room → write_refusal (record_of m) room ≡ 0
  unfolding record_of write_slots bits_of layout_of after-fixed
  taken-again room h =
      let y = good m z in
      is_written (record_of m) room
      (record {
        known = y.known;
        unit = y.unit;
        count = y.count;
        listed = y.listed;
        required = y.required;
        fixed = y.fixed;
        middle = ap (middle_good (type_of m) (count_of m) (bits_of m)) rest-again ∙ good_kept (type_of m) (count_of m) (bits_of m) (rest_of m) (zeros (fixed_end - count_at (type_of m) - middle_of m)) y.middle-there ∙ y.middle;
        late = y.late;
        agree = agree_spread (slots_of (type_of m) (count_of m) (bits_of m)) (optional_of m) (zeros (layout_size - sum width (slots_of (type_of m) (count_of m) (bits_of m)))) (omega (arith, y.total)) ∙ y.agree;
        zero-fixed = ap all_nul unused_again ∙ zeros_are_nul (fixed_end - count_at (type_of m) - middle_of m);
        zero_bits = ap all_nul (drop_at (take (count_of m) (drop (count_at (type_of m) + 1) m)) (zeros (most_bitfields - count_of m)) (count_of m) front_bits) ∙ zeros_are_nul (most_bitfields - count_of m);
        zero_slots = spread-zero (slots_of (type_of m) (count_of m) (bits_of m)) (optional_of m) (layout_size - sum width (slots_of (type_of m) (count_of m) (bits_of m))) (omega (arith, y.total));
        has_room = omega (arith, size-again, h);
      })

-- ---- a record that the writer takes, written and read, is the same record

-- the values of a record's types: its arrays' lengths and its number's range
pub record Sound (r : Record) : Type 0 where
  pub fixed-length : length r.fixed ≡ fixed_size
  pub bits_length : length r.bits ≡ most_bitfields
  pub slots_length : length r.slots ≡ layout_size
  pub number_range : r.number < 4294967296

-- the record of a message that is read is one
pub read_sound : (m : List ℕ) → Bytes m → read_refusal m ≡ 0 → Sound (record_of m)
unfolding record_of fixed_of bits_of layout_of number_of
read_sound m bytes z =
    let g = good m z in
    let b = count_bounds (type_of m) in
    let ss = slots_of (type_of m) (count_of m) (bits_of m) in
    let k = middle-fits (type_of m) (count_of m) (bits_of m) (rest_of m) g.middle in
    let part : List ℕ = take (count_at (type_of m) - 10) (drop 10 m) in
    let after : List ℕ = take (middle_of m) (rest_of m) ++ zeros (fixed_end - count_at (type_of m) - middle_of m) in
    record {
      fixed-length =
          let d : length (drop 10 m) ≡ length m - 10 = length-drop 10 m in
          let t : length part ≡ count_at (type_of m) - 10 = length-take-le (count_at (type_of m) - 10) (drop 10 m) (omega (arith, d, g.there)) in
          let h : length (take (middle_of m) (rest_of m)) ≡ middle_of m = length-take-le (middle_of m) (rest_of m) g.middle-there in
          let y : length after ≡ length (take (middle_of m) (rest_of m)) + length (zeros (fixed_end - count_at (type_of m) - middle_of m)) = length-append (take (middle_of m) (rest_of m)) (zeros (fixed_end - count_at (type_of m) - middle_of m)) in
          length-append part after ∙ omega (arith, t, h, y, length-zeros (fixed_end - count_at (type_of m) - middle_of m), k, b.low);
      bits_length = padded (count_of m) (count_at (type_of m) + 1) most_bitfields m (omega (arith, g.there)) (omega (arith, g.count, most_bound (type_of m)));
      slots_length =
          let n = spread-length ss (optional_of m) (omega (arith, g.total)) in
          length-append (spread ss (optional_of m)) (zeros (layout_size - sum width ss)) ∙ omega (arith, n, length-zeros (layout_size - sum width ss), widths_fit (type_of m) (count_of m) (bits_of m));
      number_range = number_fits 4 6 m bytes;
    }
  where
    padded : (n a k : ℕ) (l : List ℕ) → a + n ≤ length l → n ≤ k → length (take n (drop a l) ++ zeros (k - n)) ≡ k
    padded n a k l h q =
        let d : length (drop a l) ≡ length l - a = length-drop a l in
        let t : length (take n (drop a l)) ≡ n = length-take-le n (drop a l) (omega arith) in
        length-append (take n (drop a l)) (zeros (k - n)) ∙ omega (arith, t, length-zeros (k - n))

module _ (r : Record) (room : ℕ) (ok : Sound r) (z : write_refusal r room ≡ 0) where
  count_low : 10 ≤ count_at r.message
  count_low = omega (arith, (count_bounds r.message).low)

  count_small : r.count ≤ most_bitfields
  count_small = omega (arith, (fit r room z).count, most_bound r.message)

  kept_fixed : length (take (count_at r.message - 10) r.fixed) ≡ count_at r.message - 10
  kept_fixed = length-take-le (count_at r.message - 10) r.fixed (omega (arith, (count_bounds r.message).high, ok.fixed-length))

  kept_bits : length (take r.count r.bits) ≡ r.count
  kept_bits = length-take-le r.count r.bits (omega (arith, count_small, ok.bits_length))

  slots_fit : sum width (write_slots r) ≤ length r.slots
  unfolding write_slots
  slots_fit = omega (arith, widths_fit r.message r.count r.bits, ok.slots_length)

  given-length : length (gathered (write_slots r) r.slots) ≡ sum takes (write_slots r)
  given-length = gathered-length (write_slots r) r.slots slots_fit

  middle_small : count_at r.message + write_middle r ≤ fixed_end
  middle_small = middle-fits r.message r.count r.bits (write_rest r) (fit r room z).middle

  held-length : length (write_rest r) ≡ fixed_end - count_at r.message
  unfolding write_rest
  held-length = length-drop (count_at r.message - 10) r.fixed ∙ omega (arith, ok.fixed-length, count_low, (count_bounds r.message).high)

  middle-within : write_middle r ≤ length (write_rest r)
  middle-within = omega (arith, middle_small, held-length)

  kept-middle : length (take (write_middle r) (write_rest r)) ≡ write_middle r
  kept-middle = length-take-le (write_middle r) (write_rest r) middle-within

  -- what follows the bitfields
  given-rest : List ℕ
  given-rest = take (write_middle r) (write_rest r) ++ gathered (write_slots r) r.slots

  rest_long : length given-rest ≡ write_middle r + sum takes (write_slots r)
  unfolding given-rest
  rest_long = length-append (take (write_middle r) (write_rest r)) (gathered (write_slots r) r.slots) ∙ ap₂ (λ (x y : ℕ). x + y) kept-middle given-length

  pub bytes-length : length (order_bytes r) ≡ size_of r
  unfolding order_bytes size_of given-rest
  bytes-length =
      parts-length (header_bytes (size_of r - 2) r.message r.unit r.number) (take (count_at r.message - 10) r.fixed) r.count (take r.count r.bits) given-rest (count_at r.message) refl kept_fixed kept_bits count_low
      ∙ ap (λ (n : ℕ). count_at r.message + 1 + r.count + n) rest_long

  count_is : count_of (order_bytes r) ≡ r.count
  unfolding order_bytes given-rest
  count_is = parts-count (header_bytes (size_of r - 2) r.message r.unit r.number) (take (count_at r.message - 10) r.fixed) r.count (take r.count r.bits) given-rest (count_at r.message) refl kept_fixed kept_bits count_low

  bits_are : bits_of (order_bytes r) ≡ r.bits
  unfolding order_bytes bits_of given-rest
  bits_are =
      ap (λ (c : ℕ). take c (drop (count_at r.message + 1) (order_bytes r)) ++ zeros (most_bitfields - c)) count_is
      ∙ ap (λ (l : List ℕ). l ++ zeros (most_bitfields - r.count))
      (parts_bits (header_bytes (size_of r - 2) r.message r.unit r.number) (take (count_at r.message - 10) r.fixed) r.count (take r.count r.bits) given-rest (count_at r.message) refl kept_fixed kept_bits count_low)
      ∙ zeros-after r.count most_bitfields r.bits ok.bits_length (fit r room z).zero_bits

  rest_are : rest_of (order_bytes r) ≡ given-rest
  unfolding order_bytes rest_of given-rest
  rest_are =
      ap (λ (c : ℕ). drop (count_at r.message + 1 + c) (order_bytes r)) count_is
      ∙ parts-rest (header_bytes (size_of r - 2) r.message r.unit r.number) (take (count_at r.message - 10) r.fixed) r.count (take r.count r.bits) given-rest (count_at r.message) refl kept_fixed kept_bits count_low

  middle_is : middle_of (order_bytes r) ≡ write_middle r
  unfolding order_bytes given-rest
  middle_is =
      ap (λ (c : ℕ). middle_size r.message c (bits_of (order_bytes r)) (rest_of (order_bytes r))) count_is
      ∙ ap₂ (λ (b s : List ℕ). middle_size r.message r.count b s) bits_are rest_are
      ∙ middle-kept r.message r.count r.bits (write_rest r) (gathered (write_slots r) r.slots) middle-within

  middle_are : take (middle_of (order_bytes r)) (rest_of (order_bytes r)) ≡ take (write_middle r) (write_rest r)
  unfolding given-rest
  middle_are =
      ap₂ (λ (n : ℕ) (l : List ℕ). take n l) middle_is rest_are
      ∙ take_at (take (write_middle r) (write_rest r)) (gathered (write_slots r) r.slots) (write_middle r) kept-middle

  optional_are : optional_of (order_bytes r) ≡ gathered (write_slots r) r.slots
  unfolding optional_of given-rest
  optional_are =
      ap₂ (λ (n : ℕ) (l : List ℕ). drop n l) middle_is rest_are
      ∙ drop_at (take (write_middle r) (write_rest r)) (gathered (write_slots r) r.slots) (write_middle r) kept-middle

  fixed_is : fixed_of (order_bytes r) ≡ r.fixed
  unfolding order_bytes fixed_of write_rest given-rest
  fixed_is =
      ap₂ (λ (f l : List ℕ). f ++ (l ++ zeros (fixed_end - count_at r.message - middle_of (order_bytes r))))
      (parts-fixed (header_bytes (size_of r - 2) r.message r.unit r.number) (take (count_at r.message - 10) r.fixed) r.count (take r.count r.bits) given-rest (count_at r.message) refl kept_fixed kept_bits count_low)
      middle_are
      ∙ ap (λ (n : ℕ). take (count_at r.message - 10) r.fixed ++ (take (write_middle r) (write_rest r) ++ zeros (fixed_end - count_at r.message - n))) middle_is
      ∙ ap (λ (l : List ℕ). take (count_at r.message - 10) r.fixed ++ l) (zeros-after (write_middle r) (fixed_end - count_at r.message) (write_rest r) held-length (fit r room z).zero-fixed)
      ∙ take-append-drop (count_at r.message - 10) r.fixed

  type_is : type_of (order_bytes r) ≡ r.message
  unfolding order_bytes
  type_is = refl

  unit_is : unit_of (order_bytes r) ≡ r.unit
  unfolding order_bytes
  unit_is = refl

  number_is : number_of (order_bytes r) ≡ r.number
  unfolding order_bytes
  number_is = header_number (size_of r - 2) r.message r.unit r.number _ ok.number_range

  slots_are : slots_of (type_of (order_bytes r)) (count_of (order_bytes r)) (bits_of (order_bytes r)) ≡ write_slots r
  unfolding write_slots
  slots_are =
      ap (λ (t : ℕ). slots_of t (count_of (order_bytes r)) (bits_of (order_bytes r))) type_is
      ∙ ap₂ (λ (c : ℕ) (b : List ℕ). slots_of r.message c b) count_is bits_are

  layout_is : layout_of (type_of (order_bytes r)) (count_of (order_bytes r)) (bits_of (order_bytes r)) (optional_of (order_bytes r)) ≡ r.slots
  unfolding layout_of
  layout_is =
      ap₂ (λ (ss : List Slot) (o : List ℕ). spread ss o ++ zeros (layout_size - sum width ss)) slots_are optional_are
      ∙ ap (λ (n : ℕ). spread (write_slots r) (gathered (write_slots r) r.slots) ++ zeros (n - sum width (write_slots r))) (sym ok.slots_length)
      ∙ forth (write_slots r) r.slots slots_fit (fit r room z).zero_slots

  -- READ AGAIN: the record of the bytes that are written is the record
  pub read_again : record_of (order_bytes r) ≡ r
  unfolding record_of
  read_again =
      ap (λ (x : ℕ). record { message = x; unit = unit_of (order_bytes r); number = number_of (order_bytes r); fixed = fixed_of (order_bytes r); count = count_of (order_bytes r); bits = bits_of (order_bytes r); slots = layout_of (type_of (order_bytes r)) (count_of (order_bytes r)) (bits_of (order_bytes r)) (optional_of (order_bytes r)) }) type_is
      ∙ ap (λ (x : ℕ). record { message = r.message; unit = x; number = number_of (order_bytes r); fixed = fixed_of (order_bytes r); count = count_of (order_bytes r); bits = bits_of (order_bytes r); slots = layout_of (type_of (order_bytes r)) (count_of (order_bytes r)) (bits_of (order_bytes r)) (optional_of (order_bytes r)) }) unit_is
      ∙ ap (λ (x : ℕ). record { message = r.message; unit = r.unit; number = x; fixed = fixed_of (order_bytes r); count = count_of (order_bytes r); bits = bits_of (order_bytes r); slots = layout_of (type_of (order_bytes r)) (count_of (order_bytes r)) (bits_of (order_bytes r)) (optional_of (order_bytes r)) }) number_is
      ∙ ap (λ (x : List ℕ). record { message = r.message; unit = r.unit; number = r.number; fixed = x; count = count_of (order_bytes r); bits = bits_of (order_bytes r); slots = layout_of (type_of (order_bytes r)) (count_of (order_bytes r)) (bits_of (order_bytes r)) (optional_of (order_bytes r)) }) fixed_is
      ∙ ap (λ (x : List ℕ). record { message = r.message; unit = r.unit; number = r.number; fixed = r.fixed; count = count_of (order_bytes r); bits = bits_of (order_bytes r); slots = x }) layout_is
      ∙ ap₂ (λ (x : ℕ) (y : List ℕ). record { message = r.message; unit = r.unit; number = r.number; fixed = r.fixed; count = x; bits = y; slots = r.slots }) count_is bits_are

  size-there : count_at r.message + 1 + r.count ≤ size_of r
  unfolding size_of
  size-there = omega arith

  middle_good_lem : middle_good (type_of (order_bytes r)) (count_of (order_bytes r)) (bits_of (order_bytes r)) (rest_of (order_bytes r)) ≡ middle_good r.message r.count r.bits (write_rest r)
  unfolding given-rest
  middle_good_lem =
      ap₂ (λ (t c : ℕ). middle_good t c (bits_of (order_bytes r)) (rest_of (order_bytes r))) type_is count_is
      ∙ ap₂ (λ (b s : List ℕ). middle_good r.message r.count b s) bits_are rest_are
      ∙ good_kept r.message r.count r.bits (write_rest r) (gathered (write_slots r) r.slots) middle-within

  late_is : late_refusal (type_of (order_bytes r)) (count_of (order_bytes r)) (bits_of (order_bytes r)) (layout_of (type_of (order_bytes r)) (count_of (order_bytes r)) (bits_of (order_bytes r)) (optional_of (order_bytes r))) ≡ late_refusal r.message r.count r.bits r.slots
  late_is =
      ap (late_refusal (type_of (order_bytes r)) (count_of (order_bytes r)) (bits_of (order_bytes r))) layout_is
      ∙ ap₂ (λ (t c : ℕ). late_refusal t c (bits_of (order_bytes r)) r.slots) type_is count_is
      ∙ ap (λ (b : List ℕ). late_refusal r.message r.count b r.slots) bits_are

  -- and it is read
  pub read_accepts : read_refusal (order_bytes r) ≡ 0
  read_accepts =
      let f = fit r room z in
      is_read (order_bytes r)
      (record {
        known = ap (λ (t : ℕ). of_member t || of_venue t) type_is ∙ f.known;
        unit = ap₂ (λ (x y : ℕ). unit_good x y (number_of (order_bytes r))) type_is unit_is ∙ ap (unit_good r.message r.unit) number_is ∙ f.unit;
        count = rw (count_is, type_is) f.count;
        there = rw (count_is, type_is, bytes-length) size-there;
        listed = ap any_bad slots_are ∙ f.listed;
        required = ap (λ (t : ℕ). has_required t (count_of (order_bytes r)) (bits_of (order_bytes r))) type_is ∙ ap₂ (has_required r.message) count_is bits_are ∙ f.required;
        middle-there = rw (middle_is, rest_are, rest_long) (omega arith);
        total = ap (sum takes) slots_are ∙ sym (ap length optional_are ∙ given-length);
        fixed = ap₂ fixed_good type_is fixed_is ∙ f.fixed;
        middle = middle_good_lem ∙ f.middle;
        late = late_is ∙ f.late;
        agree = ap₂ agree_sent slots_are optional_are ∙ ap (agree_sent (write_slots r)) (sym (append-nil (gathered (write_slots r) r.slots))) ∙ agree_gathered (write_slots r) r.slots [] slots_fit ∙ f.agree;
      })

  -- any bytes after the message play no part: framing answers the message
  small : size_of r ≤ fixed_end + 1 + most_bitfields + layout_size
  unfolding size_of
  small =
      let n : sum takes (write_slots r) ≤ layout_size = omega (arith, takes-below (write_slots r), slots_fit, ok.slots_length) in
      omega (arith, n, middle_small, count_small)

  total_is : (t : List ℕ) → total_of (order_bytes r ++ t) ≡ size_of r
  unfolding order_bytes
  total_is t =
      header_total (size_of r - 2) r.message r.unit r.number _ (omega (arith, small))
      ∙ omega (arith, size-there, count_low)

  pub framed-after : (t : List ℕ) → frame_refusal (order_bytes r ++ t) ≡ 0
  unfolding order_bytes
  framed-after t =
      let l : length_of (order_bytes r ++ t) ≡ size_of r - 2 = header-length (size_of r - 2) r.message r.unit r.number _ (omega (arith, small)) in
      accepted (order_bytes r ++ t)
      (record {
        ba0 = refl;
        ba1 = refl;
        least = omega (arith, l, size-there, (count_bounds r.message).low);
        most = omega (arith, l, small);
        fits = omega (arith, total_is t, length-append (order_bytes r) t, bytes-length);
      })

  pub framed_as_written : (t : List ℕ) → framed (order_bytes r ++ t) ≡ order_bytes r
  framed_as_written t =
      framed_is (order_bytes r ++ t) (framed-after t)
      ∙ take_at (order_bytes r) t (total_of (order_bytes r ++ t)) (bytes-length ∙ sym (total_is t))
