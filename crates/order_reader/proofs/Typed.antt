-- A message judged and stored where it stands under its record's type: its bytes but for the type are those of the message under that type. Assumes
-- nothing.
use mathlib.Core.Path.{◌≡◌, sym, ap, ◌∙◌}
use mathlib.Core.List.{List}
use Prim.Native.Nat.{ℕ, ◌+◌, ◌≤◌}
use native.Mathlib.Omega.{arith}
use lib.ListN.{length, get_or, take, drop}
use Rattle.numbers.specs.Numbers.{patched}
use Rattle.wire.specs.Header.{type_of, total_of}
use Rattle.orders.specs.Shapes.{count_at}
use Rattle.orders.specs.Markets.{typed}
use Rattle.orders.proofs.MarketLaws.{same_but}
use Rattle.orders.specs.Middle.{middle_size}
use Rattle.orders.proofs.OrderLaws.{count_bounds}
use Rattle.orders.specs.Orders.{head_refusal, body_refusal, read_refusal}
use Rattle.block.specs.Slots.{takes, sum}
use Rattle.block.specs.Places.{slots_of}
use Rattle.block.specs.Sizes.{fixed_end}
use Rattle.order_reader.specs.Stages.{kept_bytes, there_bytes, read_record}
use Rattle.order_reader.proofs.Heads.{GoodHead, good_head}
use Rattle.order_reader.proofs.InPlace.{in_place, total_there, read_is, head_good}

module _ (m : List ℕ) (message at count : ℕ) (h : 5 ≤ length m) (f : at ≡ count_at message) (g : count ≡ get_or m at 0) where
  abbrev under : List ℕ
  under = typed message m

  low : 11 ≤ at
  low = omega (arith, f, (count_bounds message).low)

  type_is : message ≡ type_of under
  type_is = sym (same_but message m h).type_is

  count_is : count ≡ get_or under at 0
  count_is = g ∙ sym ((same_but message m h).byte_after at (omega (arith, low)))

  body_same : body_refusal (total_of m) message count (take count (drop (at + 1) m)) (drop 10 m) (drop (at + 1 + count) m)
      ≡ body_refusal (total_of under) message count (take count (drop (at + 1) under)) (drop 10 under) (drop (at + 1 + count) under)
  body_same =
      let s = same_but message m h in
      rw (s.total, s.after (at + 1) (omega (arith, low)), s.after 10 (omega arith), s.after (at + 1 + count) (omega (arith, low)))

  there-same : there_bytes m message count (take count (drop (at + 1) m)) (drop (at + 1 + count) m) ≡ there_bytes under message count (take count (drop (at + 1) under)) (drop (at + 1 + count) under)
  unfolding there_bytes kept_bytes
  there-same =
      let s = same_but message m h in
      rw (s.unit, s.number, s.after (at + 1) (omega (arith, low)), s.after 10 (omega arith), s.after (at + 1 + count) (omega (arith, low)))

  module _ (ok : head_refusal under ≡ 0) where
    pub head_under : GoodHead m at count
    head_under =
        let k = good_head under message at count ok type_is f count_is in
        record { at_least = k.at_least; at_most = k.at_most; few = k.few; fits = omega (arith, k.fits, (same_but message m h).long) }

    pub judged-under : {r : ℕ} → r ≡ body_refusal (total_of m) message count (take count (drop (at + 1) m)) (drop 10 m) (drop (at + 1 + count) m) → r ≡ read_refusal under
    judged-under q = in_place under ok message at count type_is f count_is (q ∙ body_same)

  module _ (z : read_refusal under ≡ 0) where
    pub there-under : GoodHead m at count
    there-under = head_under (head_good under z)

    pub total_under : (middle_size message count (take count (drop (at + 1) m)) (drop (at + 1 + count) m) + sum takes (slots_of message count (take count (drop (at + 1) m))) ≡ length (drop (at + 1 + count) m))
        × (count_at message + middle_size message count (take count (drop (at + 1) m)) (drop (at + 1 + count) m) ≤ fixed_end)
    total_under =
        let s = same_but message m h in
        let b : drop (at + 1) under ≡ drop (at + 1) m = s.after (at + 1) (omega (arith, low)) in
        let r : drop (at + 1 + count) under ≡ drop (at + 1 + count) m = s.after (at + 1 + count) (omega (arith, low)) in
        rw (b, r) at (total_there under (head_good under z) message at count type_is f count_is z)

    pub read_under : (buffer : List ℕ) {out : List ℕ} → out ≡ patched buffer 0 (there_bytes m message count (take count (drop (at + 1) m)) (drop (at + 1 + count) m))
        → (0 ≡ read_refusal under) × (out ≡ read_record under buffer)
    read_under buffer q = read_is under (head_good under z) message at count type_is f count_is buffer z (q ∙ ap (patched buffer 0) there-same)
