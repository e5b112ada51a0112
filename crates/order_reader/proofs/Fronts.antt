-- The parts of a record as they are put into its buffer: their lengths, and that they are the record's bytes. Assumes nothing.
use mathlib.Core.Path.{◌≡◌, refl, sym, ap, ap₂, ◌∙◌}
use mathlib.Core.Bool.{Bool, true, false, cond}
use mathlib.Core.List.{List, ◌∷◌, ◌++◌, append_assoc}
use Prim.Native.Nat.{ℕ, ◌+◌, ◌-◌, ◌≤◌, ◌<◌}
use native.Mathlib.Nat.{zero-add}
use native.Mathlib.Omega.{arith}
use lib.Dec.{ltb}
use lib.ListN.{length, take, drop, length-append, length-drop, drop_of_length-le}
use lib.Seq.{length-take-le, take_at, drop_at, drop-drop, drop-append-le}
use borrow.Author.Tests.{ltb-true, ltb-false}
use Rattle.numbers.specs.Numbers.{bytes_of, patched}
use Rattle.wire.specs.Header.{unit_of, number_of}
use Rattle.block.specs.Slots.{zeros, takes, width, sum, spread}
use Rattle.block.specs.SlotLaws.{length-zeros, drop-zeros, spread-length}
use Rattle.block.specs.Places.{slots_of}
use Rattle.block.proofs.Dictionaries.{widths_fit}
use Rattle.block_store.specs.State.{storing, store_walk}
use Rattle.block_store.specs.Made.{stored_all}
use Rattle.orders.specs.Shapes.{count_at}
use Rattle.orders.specs.Middle.{middle_size}
use Rattle.orders.specs.Orders.{layout_of}
use Rattle.orders.proofs.OrderLaws.{count_bounds}
use Rattle.order_records.specs.Records.{record_bytes}
use Rattle.order_reader.specs.Stages.{kept_bytes, front_bytes, there_bytes}
use Rattle.block.specs.Sizes.{all_places, fixed_end, fixed_size, layout_size, most_bitfields, slots_place}

-- the bitfields with zeros after them
pub pad_long : (bits : List ℕ) → length bits ≤ most_bitfields → length (bits ++ zeros (most_bitfields - length bits)) ≡ most_bitfields
pad_long bits h = length-append bits (zeros (most_bitfields - length bits)) ∙ omega (arith, length-zeros (most_bitfields - length bits))

-- the fixed part as it stands in the message
pub part_long : (m : List ℕ) (message : ℕ) → count_at message ≤ length m → length (take (count_at message - 10) (drop 10 m)) ≡ count_at message - 10
part_long m message h =
    let d : length (drop 10 m) ≡ length m - 10 = length-drop 10 m in
    length-take-le (count_at message - 10) (drop 10 m) (omega (arith, d))

-- bytes put over the front of others that stand in a buffer after a part
pub put_over_after : (t t₁ t₂ p z b : List ℕ) (n : ℕ) → length p ≡ n → length b ≤ length z → n + length z ≤ length t
    → t₁ ≡ patched t 0 (p ++ z) → t₂ ≡ patched t₁ n b → t₂ ≡ patched t 0 (p ++ (b ++ drop (length b) z))
unfolding patched
put_over_after t t₁ t₂ p z b n lp h r e f =
    let w : length (p ++ z) ≡ n + length z = length-append p z ∙ ap (λ (x : ℕ). x + length z) lp in
    let lz : length (drop (length b) z) ≡ length z - length b = length-drop (length b) z in
    let l : length (p ++ (b ++ drop (length b) z)) ≡ length (p ++ z) = length-append p (b ++ drop (length b) z) ∙ omega (arith, length-append b (drop (length b) z), lz, lp, w) in
    let d : List ℕ = drop (0 + length (p ++ z)) t in
    let q : t₁ ≡ p ++ (z ++ d) = e ∙ append_assoc p z d in
    let front : take n t₁ ≡ p = ap (take n) q ∙ take_at p (z ++ d) n lp in
    let back : drop (n + length b) t₁ ≡ drop (length b) z ++ d =
    ap (drop (n + length b)) q ∙ sym (drop-drop (length b) n (p ++ (z ++ d)))
    ∙ ap (drop (length b)) (drop_at p (z ++ d) n lp) ∙ drop-append-le (length b) z d h in
    f
    ∙ ap₂ (λ (x y : List ℕ). x ++ (b ++ y)) front back
    ∙ ap (λ (x : List ℕ). p ++ x) (sym (append_assoc b (drop (length b) z) d))
    ∙ sym (append_assoc p (b ++ drop (length b) z) d)
    ∙ ap (λ (i : ℕ). (p ++ (b ++ drop (length b) z)) ++ drop (0 + i) t) (sym l)

module _ (m : List ℕ) (message count : ℕ) (bits rest : List ℕ) (hm : count_at message ≤ length m) (hr : middle_size message count bits rest ≤ length rest)
    (hf : count_at message + middle_size message count bits rest ≤ fixed_end) where
  middle_long : length (take (middle_size message count bits rest) rest) ≡ middle_size message count bits rest
  middle_long = length-take-le (middle_size message count bits rest) rest hr

  -- the middle put over the zeros after the fixed part
  pub kept_put : (t t₁ t₂ : List ℕ) → fixed_size ≤ length t → t₁ ≡ patched t 0 (take (count_at message - 10) (drop 10 m) ++ zeros (fixed_end - count_at message))
      → t₂ ≡ patched t₁ (count_at message - 10) (take (middle_size message count bits rest) rest) → t₂ ≡ patched t 0 (kept_bytes m message count bits rest)
  unfolding kept_bytes
  kept_put t t₁ t₂ k e f =
      let b = count_bounds message in
      let z = length-zeros (fixed_end - count_at message) in
      put_over_after t t₁ t₂ (take (count_at message - 10) (drop 10 m)) (zeros (fixed_end - count_at message)) (take (middle_size message count bits rest) rest) (count_at message - 10)
      (part_long m message hm) (omega (arith, middle_long, z, hf)) (omega (arith, z, b.low, b.high)) e f
      ∙ ap (λ (l : List ℕ). patched t 0 (take (count_at message - 10) (drop 10 m) ++ (take (middle_size message count bits rest) rest ++ l)))
      (ap (λ (i : ℕ). drop i (zeros (fixed_end - count_at message))) middle_long ∙ drop-zeros (middle_size message count bits rest) (fixed_end - count_at message))

  -- the fixed part and the middle with zeros after them
  pub kept_long : length (kept_bytes m message count bits rest) ≡ fixed_size
  unfolding kept_bytes
  kept_long =
      let b = count_bounds message in
      let z = length-zeros (fixed_end - count_at message - middle_size message count bits rest) in
      let n = length-append (take (middle_size message count bits rest) rest) (zeros (fixed_end - count_at message - middle_size message count bits rest)) in
      length-append (take (count_at message - 10) (drop 10 m)) (take (middle_size message count bits rest) rest ++ zeros (fixed_end - count_at message - middle_size message count bits rest))
      ∙ omega (arith, part_long m message hm, middle_long, z, n, hf, b.low, b.high)

  -- what stands after the head
  pub body_long : length bits ≤ most_bitfields
      → length (kept_bytes m message count bits rest ++ (count ∷ (bits ++ zeros (most_bitfields - length bits)))) ≡ (fixed_size + 1 + most_bitfields)
  body_long l = length-append (kept_bytes m message count bits rest) (count ∷ (bits ++ zeros (most_bitfields - length bits))) ∙ omega (arith, kept_long, pad_long bits l)

  pub front_long : length bits ≤ most_bitfields → length (front_bytes m message count bits rest) ≡ slots_place
  unfolding front_bytes
  front_long l = let n = body_long l in omega (arith, n)

-- a front and a layout are a record
pub front_and_layout : (m : List ℕ) (message count : ℕ) (bits rest : List ℕ)
    → front_bytes m message count bits rest ++ layout_of message count bits (drop (middle_size message count bits rest) rest) ≡ there_bytes m message count bits rest
unfolding front_bytes there_bytes record_bytes
front_and_layout m message count bits rest =
    let head : List ℕ = message ∷ unit_of m ∷ bytes_of 4 (number_of m) in
    let fixed : List ℕ = kept_bytes m message count bits rest in
    let pad : List ℕ = bits ++ zeros (most_bitfields - length bits) in
    let slots : List ℕ = layout_of message count bits (drop (middle_size message count bits rest) rest) in
    append_assoc head (fixed ++ (count ∷ pad)) slots ∙ ap (λ (x : List ℕ). head ++ x) (append_assoc fixed (count ∷ pad) slots)

-- where the optional bytes begin: after the middle, or at the end
pub least_is : (rest : List ℕ) (size : ℕ) {n : ℕ} → n ≡ cond (ltb (length rest) size) (length rest) size → (n ≤ length rest) × (drop n rest ≡ drop size rest)
least_is rest size {n} e = by (ltb (length rest) size) refl e
  where
    by : (b : Bool) → ltb (length rest) size ≡ b → n ≡ cond b (length rest) size → (n ≤ length rest) × (drop n rest ≡ drop size rest)
    by true l f =
        let h : length rest < size = ltb-true (length rest) size l in
        (omega (arith, f), ap (λ (i : ℕ). drop i rest) f ∙ drop_of_length-le rest {i = length rest} (omega arith) ∙ sym (drop_of_length-le rest {i = size} (omega (arith, h))))
    by false l f = (omega (arith, f, ltb-false (length rest) size l), ap (λ (i : ℕ). drop i rest) f)

module _ (message count : ℕ) (bits optional : List ℕ) (h : sum takes (slots_of message count bits) ≡ length optional) where
  -- a layout is as long as that of any message
  pub layout_long : length (layout_of message count bits optional) ≡ layout_size
  unfolding layout_of
  layout_long =
      let ss = slots_of message count bits in
      let w = widths_fit message count bits in
      length-append (spread ss optional) (zeros (layout_size - sum width ss)) ∙ omega (arith, spread-length ss optional (omega arith), length-zeros (layout_size - sum width ss))

  -- a layout stored in the front of a tail that was cleared there
  pub layout_put : (t t₁ part : List ℕ) {at : ℕ} → layout_size ≤ length t → t₁ ≡ patched t 0 (zeros layout_size)
      → storing at part ≡ store_walk message count bits optional all_places 0 (storing 0 (take layout_size t₁))
      → part ++ drop layout_size t₁ ≡ patched t 0 (layout_of message count bits optional)
  unfolding patched layout_of
  layout_put t t₁ part k e s =
      let z : length (zeros layout_size) ≡ layout_size = length-zeros layout_size in
      let f : take layout_size t₁ ≡ zeros layout_size = ap (take layout_size) e ∙ take_at (zeros layout_size) (drop (0 + length (zeros layout_size)) t) layout_size z in
      let d : drop layout_size t₁ ≡ drop layout_size t = ap (drop layout_size) e ∙ drop_at (zeros layout_size) (drop (0 + length (zeros layout_size)) t) layout_size z ∙ ap (λ (i : ℕ). drop (0 + i) t) z in
      let l : part ≡ layout_of message count bits optional = stored_all message count bits optional (s ∙ ap (λ (x : List ℕ). store_walk message count bits optional all_places 0 (storing 0 x)) f) h in
      ap₂ (λ (x y : List ℕ). x ++ y) l d ∙ ap (λ (i : ℕ). layout_of message count bits optional ++ drop i t) (sym (zero-add (length (layout_of message count bits optional)) ∙ layout_long))
