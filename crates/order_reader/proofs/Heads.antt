-- The head of a message: its refusals by its type, and what a good head says of the places of the message.
-- Assumes nothing.
use mathlib.Core.Path.{◌≡◌, refl, sym, ap, ap₂, ◌∙◌}
use mathlib.Core.Bool.{Bool, true, false, cond, not, ◌||◌}
use mathlib.Core.List.{List}
use Prim.Native.Nat.{ℕ, ◌+◌, ◌≤◌, ◌<◌}
use native.Mathlib.Omega.{arith}
use lib.Dec.{leb, ltb}
use lib.ListN.{length, get_or, get_or-eq_default}
use borrow.Author.Tests.{ltb-true, ltb-false, ne_eqb}
use Rattle.refusals.specs.Names.{unknown_type, bad_unit}
use Rattle.refusals.specs.ToldLaws.{passed_told}
use Rattle.wire.specs.Header.{type_of, unit_of, number_of}
use Rattle.wire.proofs.FrameLaws.{passed}
use Rattle.orders.specs.Shapes.{of_member, of_venue, count_at, most_of, unit_good}
use Rattle.orders.specs.Markets.{typed}
use Rattle.orders.proofs.MarketLaws.{same_but}
use Rattle.orders.specs.Orders.{head_refusal, read_refusal, count_of}
use Rattle.orders.proofs.OrderLaws.{count_bounds, most_bound}
use Rattle.order_reader.specs.Stages.{count_refusal, type_head}
use Rattle.block.specs.Sizes.{fixed_end, most_bitfields}

-- ---- the refusals by the type

-- by whether the type is known, and the refusals of a message of it
abbrev head_by : Bool → ℕ → ℕ
head_by known rest = cond (not known) unknown_type rest

module _ (m : List ℕ) (message : ℕ) (e : message ≡ type_of m) where
  head_is : head_by (of_member message || of_venue message) (type_head message (count_at message) (most_of message) m) ≡ head_refusal m
  unfolding head_refusal type_head count_refusal
  head_is = ap (λ (x : ℕ). head_by (of_member x || of_venue x) (type_head x (count_at x) (most_of x) m)) e

  known_type : (kind : ℕ) → message ≡ kind → (of_member kind || of_venue kind) ≡ true → type_head kind (count_at kind) (most_of kind) m ≡ head_refusal m
  known_type kind f known =
      ap (λ (b : Bool). head_by b (type_head kind (count_at kind) (most_of kind) m)) (sym known)
      ∙ ap (λ (x : ℕ). head_by (of_member x || of_venue x) (type_head x (count_at x) (most_of x) m)) (sym f)
      ∙ head_is

  unknown_type_lem : (message ≡ 0x38 → ⊥) → (message ≡ 0x39 → ⊥) → (message ≡ 0x25 → ⊥) → (message ≡ 0x2C → ⊥) → (message ≡ 0x26 → ⊥) → (message ≡ 0x29 → ⊥) → (message ≡ 0x2B → ⊥) → (message ≡ 0x3A → ⊥) → (message ≡ 0x47 → ⊥) → (message ≡ 0xB8 → ⊥)
      → unknown_type ≡ head_refusal m
  unknown_type_lem a b c d e f g h i j =
      let none : (of_member message || of_venue message) ≡ false = rw (ne_eqb message 0x38 a, ne_eqb message 0x39 b, ne_eqb message 0x25 c, ne_eqb message 0x2C d, ne_eqb message 0x26 e, ne_eqb message 0x29 f, ne_eqb message 0x2B g, ne_eqb message 0x3A h, ne_eqb message 0x47 i, ne_eqb message 0xB8 j) in
      ap (λ (b : Bool). head_by b (type_head message (count_at message) (most_of message) m)) (sym none) ∙ head_is

-- under its record's type
module _ (m : List ℕ) (message : ℕ) (h : 5 ≤ length m) where
  head_same : (kind at most : ℕ) → 5 ≤ at → type_head kind at most (typed message m) ≡ type_head kind at most m
  unfolding type_head count_refusal
  head_same kind at most l = let s = same_but message m h in rw (s.unit, s.number, s.long, s.total, s.byte_after at l)

  pub known_under : (kind : ℕ) → message ≡ kind → (of_member kind || of_venue kind) ≡ true → type_head kind (count_at kind) (most_of kind) m ≡ head_refusal (typed message m)
  known_under kind f known =
      sym (head_same kind (count_at kind) (most_of kind) (omega (arith, (count_bounds kind).low)))
      ∙ known_type (typed message m) message (sym (same_but message m h).type_is) kind f known

  pub unknown_under : (message ≡ 0x38 → ⊥) → (message ≡ 0x39 → ⊥) → (message ≡ 0x25 → ⊥) → (message ≡ 0x2C → ⊥) → (message ≡ 0x26 → ⊥) → (message ≡ 0x29 → ⊥) → (message ≡ 0x2B → ⊥) → (message ≡ 0x3A → ⊥) → (message ≡ 0x47 → ⊥)
      → (message ≡ 0xB8 → ⊥) → unknown_type ≡ head_refusal (typed message m)
  unknown_under = unknown_type_lem (typed message m) message (sym (same_but message m h).type_is)

-- a message that ends before its type is of no type
pub no_type : (m : List ℕ) → length m < 5 → unknown_type ≡ read_refusal m
unfolding read_refusal head_refusal
no_type m l = let e : type_of m ≡ 0 = get_or-eq_default m 0 (omega (arith, l)) in rw e

-- so that one that is not refused has a type, and under its own type it is the message
pub whole_type : (m : List ℕ) → read_refusal m ≡ 0 → 5 ≤ length m
whole_type m z = by (ltb (length m) 5) refl
  where
    by : (b : Bool) → ltb (length m) 5 ≡ b → 5 ≤ length m
    by true e = absurd (cc (no_type m (ltb-true (length m) 5 e), z))
    by false e = ltb-false (length m) 5 e

pub typed_itself : (m : List ℕ) → 5 ≤ length m → {message : ℕ} → message ≡ type_of m → typed message m ≡ m
typed_itself m h e = ap (λ (t : ℕ). typed t m) e ∙ (same_but 0 m h).same

-- ---- those of a message of a type, by its unit and number

module _ (m : List ℕ) (message unit number at most : ℕ) (f : unit ≡ unit_of m) (n : number ≡ number_of m) (u : Bool) (g : u ≡ unit_good message unit number) where
  by_unit : cond (not u) bad_unit (count_refusal at most m) ≡ type_head message at most m
  unfolding type_head
  by_unit = ap (λ (v : Bool). cond (not v) bad_unit (count_refusal at most m)) (g ∙ ap₂ (unit_good message) f n)

  pub bad_unit_lem : not u ≡ true → bad_unit ≡ type_head message at most m
  bad_unit_lem h = ap (λ (b : Bool). cond b bad_unit (count_refusal at most m)) (sym h) ∙ by_unit

  pub good_unit : not u ≡ false → count_refusal at most m ≡ type_head message at most m
  good_unit h = ap (λ (b : Bool). cond b bad_unit (count_refusal at most m)) (sym h) ∙ by_unit

-- ---- a good head

-- where the count stands, how many bitfields there are, and that they fit
pub record GoodHead (m : List ℕ) (at count : ℕ) : Type 0 where
  pub at_least : 11 ≤ at
  pub at_most : at ≤ fixed_end
  pub few : count ≤ most_bitfields
  pub fits : at + 1 + count ≤ length m

pub good_head : (m : List ℕ) (message at count : ℕ) → head_refusal m ≡ 0 → message ≡ type_of m → at ≡ count_at message → count ≡ get_or m at 0 → GoodHead m at count
unfolding head_refusal
good_head m message at count z e f g =
    let p1 = passed (not (of_member (type_of m) || of_venue (type_of m))) _ _ z in
    let p2 = passed (not (unit_good (type_of m) (unit_of m) (number_of m))) _ _ p1.1 in
    let p3 = passed_told (leb (length m) (count_at (type_of m))) _ _ _ p2.1 in
    let p4 = passed_told (ltb (most_of (type_of m)) (count_of m)) _ _ _ p3.1 in
    let p5 = passed_told (ltb (length m) (count_at (type_of m) + 1 + count_of m)) _ _ _ p4.1 in
    let most : count_of m ≤ most_of (type_of m) = ltb-false _ _ p4.0 in
    let whole : count_at (type_of m) + 1 + count_of m ≤ length m = ltb-false _ _ p5.0 in
    let bound : most_of (type_of m) ≤ most_bitfields = most_bound (type_of m) in
    let low : 11 ≤ count_at (type_of m) = (count_bounds (type_of m)).low in
    let high : count_at (type_of m) ≤ fixed_end = (count_bounds (type_of m)).high in
    let a : at ≡ count_at (type_of m) = f ∙ ap count_at e in
    let n : count ≡ count_of m = g ∙ ap (λ (i : ℕ). get_or m i 0) a in
    record { at_least = omega arith; at_most = omega arith; few = omega arith; fits = omega arith }
