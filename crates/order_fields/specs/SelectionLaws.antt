-- What a record's bitfields select: setting a field selects its own bit and leaves every other as it was, and a field is selected
-- where the reader and the writer have it so. Assumes nothing.
use Rattle.std.specs.Prelude.{◌≡◌, refl, true, cond, Option, None, Some, ◌&&◌, List, ℕ, zero, suc, ◌+◌, ◌-◌, ◌*◌, ◌/◌, ◌%◌, ◌^◌, ◌≤◌, ◌<◌, leb, ltb, length, get_or, set, take, drop}
use Rattle.std.proofs.Common.{sym, ap₂, ◌∙◌, pow-suc, mul_comm, arith, length-drop, get_or-set_same, get_or-set_other, get_or-drop, drop_at, length-take-le, eq-eqb, le-leb, leb-true, leb-false, eqb-true}
use Rattle.std.proofs.Math.Path.{ap}
use Rattle.std.proofs.Math.Bool.{Bool, false}
use Rattle.std.proofs.Math.Nat.{zero-div, div-div-eq-div-mul}
use Rattle.std.proofs.Math.Dec.{eqb}
use Rattle.std.proofs.lemmas.Bool.{eqb-false}
use Rattle.kinds.specs.declared.Kind.{Kind}
use Rattle.kinds.specs.Kinds.{all_nul}
use Rattle.block.specs.Slots.{zeros}
use Rattle.block.specs.SlotLaws.{both_true, zeros_are_nul}
use Rattle.block.specs.Places.{bit_set, selected_at}
use Rattle.block.specs.Loops.{nul_at}
use Rattle.block.specs.Sizes.{most_bitfields}
use Rattle.orders.specs.Shapes.{count_at}
use Rattle.orders.specs.Orders.{count_of, bits_of, read_refusal, record_of, write_rest, write_middle, zero_unused}
use Rattle.orders.proofs.OrderLaws.{good}
use Rattle.orders.specs.declared.Record.{Record}
use Rattle.order_fields.specs.Named.{selected_of, with_bit, larger, selecting, storing, settable_of, set_in, setting_of}
use Rattle.order_fields.specs.NamedLaws.{Listed, larger_reaches, set_at}

-- ---- one byte: setting a bit leaves every other bit of it

halves : (x n : ℕ) → x / 2 ^ suc n ≡ x / 2 / 2 ^ n
halves x n = ap (λ (m : ℕ). x / m) (pow-suc 2 n ∙ mul_comm (2 ^ n) 2) ∙ sym (div-div-eq-div-mul x 2 (2 ^ n))

-- by halving until the lower of the two bits is the last
carries_nothing : (x i j : ℕ) → (i ≡ j → ⊥) → x / 2 ^ i % 2 ≡ 0 → (x + 2 ^ i) / 2 ^ j % 2 ≡ x / 2 ^ j % 2
carries_nothing x zero zero n e = absurd (n refl)
carries_nothing x zero (suc j) n e =
    let h : (x + 1) / 2 ≡ x / 2 = omega (arith, e) in
    ap (λ (y : ℕ). y % 2) (halves (x + 1) j ∙ ap (λ (y : ℕ). y / 2 ^ j) h ∙ sym (halves x j))
carries_nothing x (suc i) zero n e = omega (arith, pow-suc 2 i)
carries_nothing x (suc i) (suc j) n e =
    let h : (x + 2 ^ suc i) / 2 ≡ x / 2 + 2 ^ i = omega (arith, pow-suc 2 i) in
    ap (λ (y : ℕ). y % 2) (halves (x + 2 ^ suc i) j ∙ ap (λ (y : ℕ). y / 2 ^ j) h)
    ∙ carries_nothing (x / 2) i j (λ q. n (ap suc q)) (ap (λ (y : ℕ). y % 2) (sym (halves x i)) ∙ e)
    ∙ ap (λ (y : ℕ). y % 2) (sym (halves x j))

pub other_bit_kept : (x bit bit' : ℕ) → (bit ≡ bit' → ⊥) → bit_set (with_bit x bit) bit' ≡ bit_set x bit'
unfolding with_bit
other_bit_kept x bit bit' n = by (bit_set x bit) refl
  where
    by : (b : Bool) → bit_set x bit ≡ b → bit_set (cond b x (x + 2 ^ bit)) bit' ≡ bit_set x bit'
    by true e = refl
    by false e = ap (λ (y : ℕ). eqb y 1) (carries_nothing x bit bit' n (omega (arith, eqb-false (x / 2 ^ bit % 2) 1 e)))

-- a byte that is zero has no bit set
none-set : (bit : ℕ) → bit_set 0 bit ≡ false
none-set bit = ap (λ (y : ℕ). eqb (y % 2) 1) (zero-div (2 ^ bit))

-- ---- the bitfields: setting a bit leaves every other place of them

module _ (bits : List ℕ) (byte bit : ℕ) (from_one : 1 ≤ byte) (inside : byte ≤ length bits) where
  pub other_place_kept : (byte' bit' : ℕ) → 1 ≤ byte' → (byte ≡ byte' → bit ≡ bit' → ⊥)
      → bit_set (get_or (set bits (byte - 1) (with_bit (get_or bits (byte - 1) 0) bit)) (byte' - 1) 0) bit' ≡ bit_set (get_or bits (byte' - 1) 0) bit'
  other_place_kept byte' bit' h other = by (eqb byte byte') refl
    where
      by : (b : Bool) → eqb byte byte' ≡ b
          → bit_set (get_or (set bits (byte - 1) (with_bit (get_or bits (byte - 1) 0) bit)) (byte' - 1) 0) bit' ≡ bit_set (get_or bits (byte' - 1) 0) bit'
      by true e =
          let x = get_or bits (byte - 1) 0 in
          let q : byte ≡ byte' = eqb-true byte byte' e in
          ap (λ (m : ℕ). bit_set (get_or (set bits (byte - 1) (with_bit x bit)) (m - 1) 0) bit') (sym q)
          ∙ ap (λ (y : ℕ). bit_set y bit') (get_or-set_same bits (byte - 1) (with_bit x bit) 0 (omega (arith, from_one, inside)))
          ∙ other_bit_kept x bit bit' (other q)
          ∙ ap (λ (m : ℕ). bit_set (get_or bits (m - 1) 0) bit') q
      by false e =
          let q : byte ≡ byte' → ⊥ = eqb-false byte byte' e in
          ap (λ (y : ℕ). bit_set y bit') (get_or-set_other bits (byte - 1) (byte' - 1) _ 0 (λ z. q (omega (arith, z, from_one, h))))

-- ---- the count: raising it selects nothing, where the bytes past it are zero

pub larger-keeps : (a b : ℕ) → a ≤ larger a b
larger-keeps a b = by (leb b a) refl
  where
    by : (t : Bool) → leb b a ≡ t → a ≤ cond t a b
    by true e = omega arith
    by false e = omega (arith, leb-false b a e)

pub and-false : (a : Bool) → (a && false) ≡ false
and-false true = refl
and-false false = refl

raised : (count byte byte' : ℕ) (b : Bool) → (count < byte' → b ≡ false) → (leb byte' (larger count byte) && b) ≡ (leb byte' count && b)
raised count byte byte' b h = by (leb byte' count) refl
  where
    by : (t : Bool) → leb byte' count ≡ t → (leb byte' (larger count byte) && b) ≡ (leb byte' count && b)
    by true e =
        let l : byte' ≤ larger count byte = omega (arith, leb-true byte' count e, larger-keeps count byte) in
        ap (λ (t : Bool). t && b) (le-leb byte' (larger count byte) l ∙ sym e)
    by false e =
        let z : b ≡ false = h (leb-false byte' count e) in
        ap (λ (t : Bool). leb byte' (larger count byte) && t) z
        ∙ and-false (leb byte' (larger count byte))
        ∙ sym (and-false (leb byte' count))
        ∙ ap (λ (t : Bool). leb byte' count && t) (sym z)

-- ---- the places past a record's count: the writer demands zero there, the reader gives it, and setting a field keeps it

abbrev pub UnusedZero : Record → Type 0
UnusedZero r = (j : ℕ) → r.count ≤ j → get_or r.bits j 0 ≡ 0

pub nul_past : (s : List ℕ) (c : ℕ) → all_nul (drop c s) ≡ true → (j : ℕ) → c ≤ j → get_or s j 0 ≡ 0
nul_past s c h j l =
    let e : c + (j - c) ≡ j = omega (arith, l) in
    ap (λ (m : ℕ). get_or s m 0) (sym e) ∙ sym (get_or-drop c s (j - c) 0) ∙ nul_at (drop c s) h (j - c)

-- a record that is not refused by 12
pub unused_are_zero : (r : Record) → zero_unused r ≡ true → UnusedZero r
unfolding zero_unused
unused_are_zero r h =
    let a = both_true (all_nul (drop (write_middle r) (write_rest r))) _ h in
    let b = both_true (all_nul (drop r.count r.bits)) _ a.1 in
    nul_past r.bits r.count b.0

-- the record of a message that is read
pub unused_as_read : (m : List ℕ) → read_refusal m ≡ 0 → UnusedZero (record_of m)
unfolding record_of bits_of
unused_as_read m z =
    let t = drop (count_at (record_of m).message + 1) m in
    let n : count_of m ≤ length t = simp length-drop (omega (arith, (good m z).there)) in
    nul_past (bits_of m) (count_of m) (ap all_nul (drop_at (take (count_of m) t) (zeros (most_bitfields - count_of m)) (count_of m) (length-take-le (count_of m) t n)) ∙ zeros_are_nul (most_bitfields - count_of m))

-- a record whose bitfields are all zero
pub unused_at_first : (r : Record) → r.bits ≡ zeros most_bitfields → UnusedZero r
unused_at_first r e j l = ap (λ (s : List ℕ). get_or s j 0) e ∙ nul_at (zeros most_bitfields) (zeros_are_nul most_bitfields) j

-- a record in which a field is set
pub unused_stay_zero : (message byte bit : ℕ) (bytes : List ℕ) (r : Record) → 1 ≤ byte → UnusedZero r → UnusedZero (setting_of message byte bit bytes r)
unfolding setting_of selecting storing
unused_stay_zero message byte bit bytes r h unused = by (settable_of message byte bit (length bytes) r)
  where
    by : (f : Option ℕ) → UnusedZero (set_in f byte bit bytes r)
    by (Some at) j l =
        get_or-set_other r.bits (byte - 1) j _ 0 (λ e. absurd (omega (arith, e, h, l, larger_reaches r.count byte)))
        ∙ unused j (omega (arith, l, larger-keeps r.count byte))
    by None j l = unused j l

-- ---- setting a field leaves the selection of every other place as it was

module _ {message byte bit w p : ℕ} {k : Kind} {r : Record} (i : Listed message byte bit w p k r) (unused : UnusedZero r) where
  pub other_selection_kept : (byte' bit' : ℕ) → 1 ≤ byte' → (byte ≡ byte' → bit ≡ bit' → ⊥) → (bytes : List ℕ) → length bytes ≡ w
      → selected_of message byte' bit' (setting_of message byte bit bytes r) ≡ selected_of message byte' bit' r
  unfolding selected_of selecting storing
  other_selection_kept byte' bit' h other bytes l =
      let b : Bool = bit_set (get_or r.bits (byte' - 1) 0) bit' in
      let past : r.count < byte' → b ≡ false = λ c. ap (λ (y : ℕ). bit_set y bit') (unused (byte' - 1) (omega (arith, c))) ∙ none-set bit' in
      ap (selected_of message byte' bit') (set_at i bytes l)
      ∙ ap (λ (t : Bool). eqb r.message message && (leb byte' (larger r.count byte) && t)) (other_place_kept r.bits byte bit i.from_one i.in_bits byte' bit' h other)
      ∙ ap (λ (t : Bool). eqb r.message message && t) (raised r.count byte byte' b past)

-- ---- a field is selected where the reader and the writer have its place selected

pub selected_is_selected_at : (message byte bit : ℕ) (r : Record) → r.message ≡ message → 1 ≤ byte → bit < 8
    → selected_of message byte bit r ≡ selected_at r.count r.bits (8 * (byte - 1) + bit)
unfolding selected_of selected_at
selected_is_selected_at message byte bit r e h l =
    let a : (8 * (byte - 1) + bit) / 8 ≡ byte - 1 = omega (arith, l) in
    let b : (8 * (byte - 1) + bit) % 8 ≡ bit = omega (arith, l) in
    let c : byte ≡ suc (byte - 1) = omega (arith, h) in
    ap₂ (λ (t : Bool) (n : ℕ). t && (leb n r.count && bit_set (get_or r.bits (byte - 1) 0) bit)) (eq-eqb r.message message e) c
    ∙ ap₂ (λ (x y : ℕ). ltb x r.count && bit_set (get_or r.bits x 0) y) (sym a) (sym b)
