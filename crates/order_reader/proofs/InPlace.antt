-- A block judged where it stands: the bitfields without the zeros after them, and the fixed part with the rest of the message after it, are
-- judged as those of the record. Assumes nothing.
use mathlib.Core.Path.{◌≡◌, refl, sym, ap, ap₂, ◌∙◌}
use mathlib.Core.Bool.{Bool, true, false, cond, ◌&&◌}
use mathlib.Core.List.{List, [], ◌∷◌, ◌++◌, append_assoc}
use Prim.Native.Nat.{ℕ, zero, suc, ◌+◌, ◌*◌, ◌-◌, ◌/◌, ◌%◌, ◌≤◌, ◌<◌}
use native.Mathlib.Nat.{zero-add}
use native.Mathlib.Omega.{arith}
use lib.Dec.{ltb, eqb}
use lib.ListN.{length, get_or, take, drop, length-append, length-drop, take-append-drop, get_or-append}
use lib.Seq.{length-take-le, take-append-le, drop-append-le, get_or-take}
use borrow.Author.Tests.{eq-eqb, eqb-true}
use Rattle.numbers.specs.Numbers.{number_at, patched}
use Rattle.numbers.proofs.Tail.{tail_is}
use Rattle.wire.specs.Header.{type_of, unit_of, number_of, total_of}
use Rattle.dictionary.specs.declared.Entry.{Entry}
use Rattle.dictionary.specs.Dictionary.{is_new_order}
use Rattle.block.specs.Slots.{zeros, Slot, slot, takes, width, sum, spread}
use Rattle.block.specs.SlotLaws.{length-zeros, drop-zeros}
use Rattle.block.specs.Places.{bit_set, selected_at, entry_at, slots_from, slots_of, has_required}
use Rattle.refusals.specs.FirstBad.{Tested, all_good, first_bad}
use Rattle.orders.specs.Shapes.{count_at, fixed_good}
use Rattle.orders.specs.FixedFields.{new_order_fields, cancel_order_fields, modify_order_fields, acknowledgment_fields, execution_fields, rejection_fields, fixed_fields, fixed_wrong}
use Rattle.orders.proofs.FixedFieldLaws.{fields_good}
use Rattle.orders.specs.declared.Record.{Record}
use Rattle.orders.specs.Middle.{middle_size, middle_good}
use Rattle.orders.specs.Late.{lacks, conflicts, late_refusal}
use Rattle.orders.proofs.OrderLaws.{middle-fits}
use Rattle.orders.specs.Orders.{count_of, bits_of, rest_of, fixed_of, optional_of, head_refusal, block_refusal, body_refusal, read_refusal, layout_of, record_of}
use Rattle.order_records.specs.Records.{record_bytes}
use Rattle.order_reader.specs.Stages.{kept_bytes, there_bytes, read_record}
use Rattle.order_reader.proofs.Heads.{good_head}
use Rattle.order_reader.proofs.Judging.{total_right}
use Rattle.block.specs.Sizes.{all_places, fixed_end, layout_size, most_bitfields}

-- ---- bitfields with zeros after them

nul : (z j : ℕ) → get_or (zeros z) j 0 ≡ 0
nul zero j = refl
nul (suc z) zero = refl
nul (suc z) (suc j) = nul z j

padded : (bs : List ℕ) (z j : ℕ) → get_or (bs ++ zeros z) j 0 ≡ get_or bs j 0
padded [] z j = nul z j
padded (b ∷ bs) z zero = refl
padded (b ∷ bs) z (suc j) = padded bs z j

module _ (count : ℕ) (bs : List ℕ) (z : ℕ) where
  selected_padded : (k : ℕ) → selected_at count (bs ++ zeros z) k ≡ selected_at count bs k
  unfolding selected_at
  selected_padded k = ap (λ (x : ℕ). ltb (k / 8) count && bit_set x (k % 8)) (padded bs z (k / 8))

  required_padded : (message : ℕ) → has_required message count (bs ++ zeros z) ≡ has_required message count bs
  unfolding has_required
  required_padded message = rw (selected_padded 8, selected_padded 14, selected_padded 2, selected_padded 3, selected_padded 4)

  late-padded : (message : ℕ) (slots : List ℕ) → late_refusal message count (bs ++ zeros z) slots ≡ late_refusal message count bs slots
  unfolding late_refusal lacks conflicts
  late-padded message slots = rw (selected_padded 3, selected_padded 0, selected_padded 4, selected_padded 8, selected_padded 15)

  middle-padded : (message : ℕ) (rest : List ℕ) → middle_size message count (bs ++ zeros z) rest ≡ middle_size message count bs rest
  unfolding middle_size
  middle-padded message rest = refl

  good_padded : (message : ℕ) (rest : List ℕ) → middle_good message count (bs ++ zeros z) rest ≡ middle_good message count bs rest
  unfolding middle_good
  good_padded message rest = refl

  from_padded : (entry : ℕ → Entry) (n k : ℕ) → slots_from (selected_at count (bs ++ zeros z)) entry n k ≡ slots_from (selected_at count bs) entry n k
  unfolding slots_from
  from_padded entry zero k = refl
  from_padded entry (suc n) k = ap₂ (λ (b : Bool) (ss : List Slot). slot b (entry k) ∷ ss) (selected_padded k) (from_padded entry n (suc k))

  slots_padded : (message : ℕ) → slots_of message count (bs ++ zeros z) ≡ slots_of message count bs
  slots_padded message = from_padded (entry_at message) all_places 0

-- ---- a fixed part with anything after it

part_of : (p y : List ℕ) (a w : ℕ) → a + w ≤ length p → take w (drop a (p ++ y)) ≡ take w (drop a p)
part_of p y a w h =
    let d : length (drop a p) ≡ length p - a = length-drop a p in
    ap (take w) (drop-append-le a p y (omega arith)) ∙ take-append-le w (drop a p) y (omega arith)

module _ (x z : List ℕ) (n : ℕ) (h : n ≤ length x) where
  long : length (take n x) ≡ n
  long = length-take-le n x h

  part-front : (a w : ℕ) → a + w ≤ n → take w (drop a (take n x ++ z)) ≡ take w (drop a x)
  part-front a w l =
      part_of (take n x) z a w (omega (arith, long))
      ∙ sym (part_of (take n x) (drop n x) a w (omega (arith, long)))
      ∙ ap (λ (s : List ℕ). take w (drop a s)) (take-append-drop n x)

  byte_front : (j : ℕ) → j < n → get_or (take n x ++ z) j 0 ≡ get_or x j 0
  byte_front j l = get_or-append (take n x) z 0 j (omega (arith, long)) ∙ get_or-take n x j 0 l

  number_front : (k i : ℕ) → i + k ≤ n → number_at k i (take n x ++ z) ≡ number_at k i x
  number_front zero i l = refl
  number_front (suc k) i l = ap₂ (λ (a b : ℕ). a + 256 * b) (byte_front i (omega arith)) (number_front k (i + 1) (omega arith))

  fields_by : Bool → Bool → Bool → Bool → Bool → Bool → List ℕ → List Tested
  fields_by a b c d g k f = cond a (new_order_fields f) (cond b (cancel_order_fields f) (cond c (acknowledgment_fields f) (cond d (execution_fields f) (cond g (modify_order_fields f) (cond k [] (rejection_fields f))))))

  by_type : (a b c d g k : Bool) → n ≡ cond a 35 (cond b 30 (cond c 47 (cond d 69 (cond g 50 (cond k 11 fixed_end))))) - 10 → fields_by a b c d g k (take n x ++ z) ≡ fields_by a b c d g k x
  unfolding fields_by
  by_type true b c d g k e = rw (part-front 0 20 (omega arith), part-front 20 1 (omega arith), number_front 4 21 (omega arith))
  by_type false true c d g k e = rw (part-front 0 20 (omega arith))
  by_type false false true d g k e = rw (part-front 8 20 (omega arith))
  by_type false false false true g k e = rw (part-front 8 20 (omega arith), part-front 52 1 (omega arith), part-front 53 1 (omega arith), part-front 54 4 (omega arith))
  by_type false false false false true k e = rw (part-front 0 20 (omega arith), part-front 20 20 (omega arith))
  by_type false false false false false true e = refl
  by_type false false false false false false e = rw (part-front 8 20 (omega arith), part-front 28 1 (omega arith), part-front 29 60 (omega arith))

  fields-front : (message : ℕ) → n ≡ count_at message - 10 → fixed_fields message (take n x ++ z) ≡ fixed_fields message x
  unfolding fixed_fields count_at fields_by
  fields-front message e = by_type (is_new_order message) (eqb message 0x39) (eqb message 0x25) (eqb message 0x2C) (eqb message 0x3A) (eqb message 0x47) e

  pub wrong_front : (message : ℕ) → n ≡ count_at message - 10 → fixed_wrong message (take n x ++ z) ≡ fixed_wrong message x
  unfolding fixed_wrong
  wrong_front message e = ap first_bad (fields-front message e)

  pub good_front : (message : ℕ) → n ≡ count_at message - 10 → fixed_good message (take n x ++ z) ≡ fixed_good message x
  good_front message e = sym (fields_good message (take n x ++ z)) ∙ ap all_good (fields-front message e) ∙ fields_good message x

-- ---- the whole message

-- a body that is not refused has a block that is not
block_good : (total message count : ℕ) (bits fixed rest : List ℕ) → body_refusal total message count bits fixed rest ≡ 0 → block_refusal total message count bits fixed rest ≡ 0
unfolding body_refusal
block_good total message count bits fixed rest z = by (eqb (block_refusal total message count bits fixed rest) 0) refl z
  where
    by : (b : Bool) → eqb (block_refusal total message count bits fixed rest) 0 ≡ b
        → cond b (late_refusal message count bits (layout_of message count bits (drop (middle_size message count bits rest) rest))) (block_refusal total message count bits fixed rest) ≡ 0
        → block_refusal total message count bits fixed rest ≡ 0
    by true e z = eqb-true (block_refusal total message count bits fixed rest) 0 e
    by false e z = z

module _ (m : List ℕ) (ok : head_refusal m ≡ 0) where
  -- its bitfields where they stand, and what follows them
  abbrev bits_there : List ℕ
  bits_there = take (count_of m) (drop (count_at (type_of m) + 1) m)

  abbrev rest-there : List ℕ
  rest-there = drop (count_at (type_of m) + 1 + count_of m) m

  abbrev middle-there : ℕ
  middle-there = middle_size (type_of m) (count_of m) bits_there rest-there

  there : body_refusal (total_of m) (type_of m) (count_of m) bits_there (drop 10 m) rest-there ≡ read_refusal m
  unfolding read_refusal bits_of fixed_of rest_of body_refusal block_refusal layout_of
  there =
      let g = good_head m (type_of m) (count_at (type_of m)) (count_of m) ok refl refl refl in
      let d : length (drop 10 m) ≡ length m - 10 = length-drop 10 m in
      let n = most_bitfields - count_of m in
      let after : List ℕ = take middle-there rest-there ++ zeros (fixed_end - count_at (type_of m) - middle-there) in
      sym
      (rw (
        eq-eqb (head_refusal m) 0 ok,
        middle-padded (count_of m) bits_there n (type_of m) rest-there,
        good_padded (count_of m) bits_there n (type_of m) rest-there,
        slots_padded (count_of m) bits_there n (type_of m),
        required_padded (count_of m) bits_there n (type_of m),
        late-padded (count_of m) bits_there n (type_of m) (layout_of (type_of m) (count_of m) bits_there (drop middle-there rest-there)),
        good_front (drop 10 m) after (count_at (type_of m) - 10) (omega (arith, d, g.fits, g.at_least)) (type_of m) refl,
        wrong_front (drop 10 m) after (count_at (type_of m) - 10) (omega (arith, d, g.fits, g.at_least)) (type_of m) refl,
      ))

  pub in_place : (message at count : ℕ) → message ≡ type_of m → at ≡ count_at message → count ≡ get_or m at 0
      → {r : ℕ} → r ≡ body_refusal (total_of m) message count (take count (drop (at + 1) m)) (drop 10 m) (drop (at + 1 + count) m) → r ≡ read_refusal m
  in_place message at count e f g q =
      let i : at ≡ count_at (type_of m) = f ∙ ap count_at e in
      let n : count ≡ count_of m = g ∙ ap (λ (j : ℕ). get_or m j 0) i in
      q
      ∙ ap (λ (x : ℕ). body_refusal (total_of m) x count (take count (drop (at + 1) m)) (drop 10 m) (drop (at + 1 + count) m)) e
      ∙ ap₂ (λ (k j : ℕ). body_refusal (total_of m) (type_of m) k (take k (drop (j + 1) m)) (drop 10 m) (drop (j + 1 + k) m)) n i
      ∙ there

  -- where it is not refused its middle and as many bytes as its set bits take follow the bitfields, and the middle fits a record
  pub total_there : (message at count : ℕ) → message ≡ type_of m → at ≡ count_at message → count ≡ get_or m at 0 → read_refusal m ≡ 0
      → (middle_size message count (take count (drop (at + 1) m)) (drop (at + 1 + count) m) + sum takes (slots_of message count (take count (drop (at + 1) m))) ≡ length (drop (at + 1 + count) m))
      × (count_at message + middle_size message count (take count (drop (at + 1) m)) (drop (at + 1 + count) m) ≤ fixed_end)
  total_there message at count e f g z =
      let bits : List ℕ = take count (drop (at + 1) m) in
      let rest : List ℕ = drop (at + 1 + count) m in
      let q = total_right (total_of m) message count bits (drop 10 m) rest (block_good (total_of m) message count bits (drop 10 m) rest (in_place message at count e f g refl ∙ z)) in
      (q.0, middle-fits message count bits rest q.1)

  -- the bytes of the record
  bits_long : length bits_there ≡ count_of m
  bits_long =
      let g = good_head m (type_of m) (count_at (type_of m)) (count_of m) ok refl refl refl in
      let d : length (drop (count_at (type_of m) + 1) m) ≡ length m - (count_at (type_of m) + 1) = length-drop (count_at (type_of m) + 1) m in
      length-take-le (count_of m) (drop (count_at (type_of m) + 1) m) (omega (arith, d, g.fits))

  layout_there : (bs o : List ℕ) (z : ℕ) → layout_of (type_of m) (count_of m) bs o ≡ layout_of (type_of m) (count_of m) (bs ++ zeros z) o
  unfolding layout_of
  layout_there bs o z = ap (λ (ss : List Slot). spread ss o ++ zeros (layout_size - sum width ss)) (sym (slots_padded (count_of m) bs z (type_of m)))

  -- a record with these bitfields and this layout
  abbrev with : List ℕ → List ℕ → Record
  with bits slots = record { message = type_of m; unit = unit_of m; number = number_of m; fixed = fixed_of m; count = count_of m; bits = bits; slots = slots }

  bytes-there : there_bytes m (type_of m) (count_of m) bits_there rest-there ≡ record_bytes (record_of m)
  unfolding there_bytes kept_bytes record_of bits_of rest_of fixed_of optional_of middle_size
  bytes-there =
      ap₂ (λ (i : ℕ) (l : List ℕ). record_bytes (with (bits_there ++ zeros (most_bitfields - i)) l)) bits_long
      (layout_there bits_there (drop middle-there rest-there) (most_bitfields - count_of m))

  -- the record of a message that is not refused
  pub read_is : (message at count : ℕ) → message ≡ type_of m → at ≡ count_at message → count ≡ get_or m at 0 → (buffer : List ℕ) {out : List ℕ} → read_refusal m ≡ 0
      → out ≡ patched buffer 0 (there_bytes m message count (take count (drop (at + 1) m)) (drop (at + 1 + count) m))
      → (0 ≡ read_refusal m) × (out ≡ read_record m buffer)
  unfolding read_record
  read_is message at count e f g buffer z q =
      let i : at ≡ count_at (type_of m) = f ∙ ap count_at e in
      let n : count ≡ count_of m = g ∙ ap (λ (j : ℕ). get_or m j 0) i in (
        sym z,
        q
            ∙ ap (λ (x : ℕ). patched buffer 0 (there_bytes m x count (take count (drop (at + 1) m)) (drop (at + 1 + count) m))) e
            ∙ ap₂ (λ (k j : ℕ). patched buffer 0 (there_bytes m (type_of m) k (take k (drop (j + 1) m)) (drop (j + 1 + k) m))) n i
            ∙ ap (patched buffer 0) bytes-there
            ∙ rw (eq-eqb (read_refusal m) 0 z),
      )

-- a message that is not refused has a good head
pub head_good : (m : List ℕ) → read_refusal m ≡ 0 → head_refusal m ≡ 0
unfolding read_refusal
head_good m z = by (eqb (head_refusal m) 0) refl z
  where
    by : (b : Bool) → eqb (head_refusal m) 0 ≡ b → cond b (body_refusal (total_of m) (type_of m) (count_of m) (bits_of m) (fixed_of m) (rest_of m)) (head_refusal m) ≡ 0 → head_refusal m ≡ 0
    by true e z = eqb-true (head_refusal m) 0 e
    by false e z = z

-- what a call makes of the bitfields and what follows them as they are lent
pub lent-parts : (m : List ℕ) (at count : ℕ) → at + 1 + count ≤ length m → {A : Type 0} (f : List ℕ → List ℕ → A)
    → f (take (at + 1 + count - (at + 1)) (drop (at + 1) m)) (take (length m - (at + 1 + count)) (drop (at + 1 + count) m)) ≡ f (take count (drop (at + 1) m)) (drop (at + 1 + count) m)
lent-parts m at count h f =
    let n : at + 1 + count - (at + 1) ≡ count = omega arith in
    ap₂ f (ap (λ (i : ℕ). take i (drop (at + 1) m)) n) (tail_is m (at + 1 + count) h)

-- bytes copied into the front of zeros that were put there
pub put-over : (t b t₁ t₂ : List ℕ) (n : ℕ) → length b ≤ n → n ≤ length t → t₁ ≡ patched t 0 (zeros n) → t₂ ≡ patched t₁ 0 b → t₂ ≡ patched t 0 (b ++ zeros (n - length b))
unfolding patched
put-over t b t₁ t₂ n h k p q =
    let z : length (zeros n) ≡ n = length-zeros n in
    let w : length (b ++ zeros (n - length b)) ≡ length (zeros n) = length-append b (zeros (n - length b)) ∙ omega (arith, length-zeros (n - length b), z) in
    q
    ∙ ap (λ (x : List ℕ). take 0 x ++ (b ++ drop (0 + length b) x)) p
    ∙ ap (λ (x : List ℕ). b ++ x) (drop-append-le (0 + length b) (zeros n) (drop (0 + length (zeros n)) t) (omega (arith, z)) ∙ ap (λ (x : List ℕ). x ++ drop (0 + length (zeros n)) t) (ap (λ (i : ℕ). drop i (zeros n)) (zero-add (length b)) ∙ drop-zeros (length b) n))
    ∙ sym (append_assoc b (zeros (n - length b)) (drop (0 + length (zeros n)) t))
    ∙ ap (λ (i : ℕ). (b ++ zeros (n - length b)) ++ drop (0 + i) t) (sym w)

-- the lent bitfields are as many as the count, and the lent rest has the fixed part
pub lent_fits : (m : List ℕ) (at count : ℕ) → at + 1 + count ≤ length m → 11 ≤ at
    → (length (take (at + 1 + count - (at + 1)) (drop (at + 1) m)) ≡ count) × (at ≤ length (take (length m - 10) (drop 10 m)) + 10)
lent_fits m at count h l =
    let d : length (drop (at + 1) m) ≡ length m - (at + 1) = length-drop (at + 1) m in
    let e : length (drop 10 m) ≡ length m - 10 = length-drop 10 m in (
      length-take-le (at + 1 + count - (at + 1)) (drop (at + 1) m) (omega arith) ∙ omega arith,
      omega (arith, length-take-le (length m - 10) (drop 10 m) (omega arith)),
    )
