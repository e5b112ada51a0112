-- The parts of a message in a row. Assumes nothing.
use mathlib.Core.Path.{◌≡◌, ap, ap₂, ◌∙◌}
use mathlib.Core.List.{List, ◌∷◌, ◌++◌}
use Prim.Native.Nat.{ℕ, ◌+◌, ◌-◌, ◌≤◌}
use native.Mathlib.Omega.{arith}
use lib.ListN.{length, take, drop, length-append}
use lib.Seq.{length-take-le}
use Rattle.numbers.specs.Numbers.{patched}
use Rattle.numbers.specs.NumberLaws.{patched-length, patched_join}
use Rattle.block.specs.Slots.{takes, sum, gathered}
use Rattle.block.specs.SlotLaws.{gathered-length}
use Rattle.block.specs.Places.{selected_at, entry_at, slots_of}
use Rattle.block.specs.Walk.{Giving}
use Rattle.block.proofs.Dictionaries.{before, before-none, dictionary_placed, widths_fit}
use Rattle.block.proofs.Gives.{gave}
use Rattle.block_write.specs.State.{giving, give_walk}
use Rattle.orders.specs.Shapes.{count_at}
use Rattle.orders.specs.Middle.{middle_size}
use Rattle.orders.proofs.OrderLaws.{count_bounds}
use Rattle.order_writer.specs.Stages.{after_bytes, field_bytes, rest_bytes}
use Rattle.block.specs.Sizes.{all_places, fixed_size, layout_size, most_bitfields}

-- the selected fields given at a place
pub fields-given : (message count : ℕ) (bits v out out' : List ℕ) (at r : ℕ) → length v ≡ layout_size → at + sum takes (slots_of message count bits) ≤ length out
    → giving r out' ≡ give_walk message count bits v all_places 0 (giving at out) → out' ≡ patched out at (gathered (slots_of message count bits) v)
fields-given message count bits v out out' at r lv room e =
    let g = gave (entry_at message) layout_size (dictionary_placed message) v (selected_at count bits) all_places 0 (giving at out) (omega arith) in
    let z : before (entry_at message) 0 ≡ 0 = before-none (entry_at message) in
    let d : drop (before (entry_at message) 0) v ≡ v = ap (λ (i : ℕ). drop i v) z in
    ap (λ (x : Giving). x.buffer) e
    ∙ g.buffer_is (omega (arith, widths_fit message count bits)) room
    ∙ ap (λ (x : List ℕ). patched out at (gathered (slots_of message count bits) x)) d

-- their length
given-length : (message count : ℕ) (bits v : List ℕ) → length v ≡ layout_size → length (gathered (slots_of message count bits) v) ≡ sum takes (slots_of message count bits)
given-length message count bits v lv = gathered-length (slots_of message count bits) v (omega (arith, widths_fit message count bits))

-- a front put and the selected fields given after it
pub fields-put : (message count : ℕ) (bits v front out out₁ out' : List ℕ) (k r : ℕ) → length v ≡ layout_size → length front ≡ k → k + sum takes (slots_of message count bits) ≤ length out
    → out₁ ≡ patched out 0 front → giving r out' ≡ give_walk message count bits v all_places 0 (giving k out₁)
    → out' ≡ patched out 0 (front ++ gathered (slots_of message count bits) v)
fields-put message count bits v front out out₁ out' k r lv lf room p e =
    let n : k ≡ 0 + length front = omega arith in
    let fits : 0 + length front ≤ length out = omega arith in
    let same : length out₁ ≡ length out = ap length p ∙ patched-length out 0 front fits in
    fields-given message count bits v out₁ out' k r lv (omega (arith, same)) e
    ∙ ap₂ (λ (o : List ℕ) (i : ℕ). patched o i (gathered (slots_of message count bits) v)) p n
    ∙ patched_join out 0 front fits (gathered (slots_of message count bits) v)

module _ (message count : ℕ) (bits held v : List ℕ) (lv : length v ≡ layout_size) (lm : middle_size message count bits held ≤ length held) where
  -- the middle and the selected fields, in all
  pub after-length : length (after_bytes message count bits held v) ≡ middle_size message count bits held + sum takes (slots_of message count bits)
  unfolding after_bytes
  after-length =
      length-append (take (middle_size message count bits held) held) (gathered (slots_of message count bits) v)
      ∙ ap₂ (λ (x y : ℕ). x + y) (length-take-le (middle_size message count bits held) held lm) (given-length message count bits v lv)

  -- with the bitfields before them
  pub fields-length : count ≤ length bits → length (field_bytes message count bits held v) ≡ count + (middle_size message count bits held + sum takes (slots_of message count bits))
  unfolding field_bytes
  fields-length lb =
      length-append (take count bits) (after_bytes message count bits held v)
      ∙ ap₂ (λ (x y : ℕ). x + y) (length-take-le count bits lb) after-length

-- all that follows the header, in all
pub rest-length : (message count : ℕ) (fixed bits v : List ℕ) → length fixed ≡ fixed_size → length v ≡ layout_size → length bits ≡ most_bitfields → count ≤ most_bitfields
    → middle_size message count bits (drop (count_at message - 10) fixed) ≤ length (drop (count_at message - 10) fixed)
    → length (rest_bytes message count fixed bits v)
    ≡ count_at message - 10 + (1 + (count + (middle_size message count bits (drop (count_at message - 10) fixed) + sum takes (slots_of message count bits))))
unfolding rest_bytes
rest-length message count fixed bits v lf lv lb lc lm =
    let h = (count_bounds message).high in
    let held = drop (count_at message - 10) fixed in
    let n = fields-length message count bits held v lv lm (omega arith) in
    length-append (take (count_at message - 10) fixed) (count ∷ field_bytes message count bits held v)
    ∙ ap₂ (λ (x y : ℕ). x + y) (length-take-le (count_at message - 10) fixed (omega arith)) (omega (arith, n))
