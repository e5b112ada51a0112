-- The parts of a Login Request as they are put one after the other: counts, a group's head, pairs, and groups that may be missing.
-- Assumes nothing.
use mathlib.Core.Path.{◌≡◌, refl, sym, ap, ◌∙◌}
use mathlib.Core.Bool.{Bool, true, false, cond}
use mathlib.Core.List.{List, [], ◌∷◌, ◌++◌, map}
use Prim.Native.Nat.{ℕ, zero, suc, ◌+◌, ◌*◌, ◌≤◌, ◌<◌}
use native.Mathlib.Nat.{le_of_suc-le-suc, not-suc-le-zero}
use native.Mathlib.Numerals.{add-one}
use native.Mathlib.Omega.{arith}
use mir.Val.{bool_byte}
use lib.Dec.{leb}
use Rattle.std.specs.Prelude.{min}
use lib.ListN.{length, get_or, take, drop, set}
use lib.Seq.{set_split, length-take-le}
use borrow.Author.Tests.{leb-true, leb-false, eq-eqb, ne_eqb}
use Rattle.numbers.specs.Numbers.{bytes_of, patched, put_buffer}
use Rattle.numbers.specs.NumberLaws.{put_stores, patched-length, patched_join}
use Rattle.block.specs.Slots.{zeros}
use Rattle.block.specs.SlotLaws.{put_in_zeros}
use Rattle.table.specs.declared.Table.{Table}
use Rattle.table.specs.declared.Unit.{Unit}
use Rattle.table.specs.Table.{last_of}
use Rattle.session_groups.specs.Values.{pairs_bytes}
use Rattle.session_logins.specs.declared.Choice.{Choice}
use Rattle.session_logins.specs.declared.Bitfields.{Bitfields}
use Rattle.session_logins.proofs.LoginRequestLaws.{numbers_long, pairs_size, take-most, least-most}
use Rattle.session_logins.specs.LoginRequests.{numbers_of, least, pairs_for, units_group, bits_group, part, units_part, bits_part, one, padded}

-- ---- counts

pub least_is : (a b : ℕ) → min a b ≡ least a b
least_is a b = by (leb a b) refl
  where
    by : (t : Bool) → leb a b ≡ t → min a b ≡ cond t a b
    by true e = let h = leb-true a b e in omega arith
    by false e = let h = leb-false a b e in omega arith

one_is : (a : Bool) → bool_byte a ≡ one a
one_is true = refl
one_is false = refl

pub counts : (a b c : Bool) → bool_byte a + (bool_byte b + bool_byte c) ≡ one a + (one b + one c)
counts a b c = rw (one_is a, one_is b, one_is c)

-- ---- a group's head

pub head_put : (out out' : List ℕ) (n k x c : ℕ) → 5 ≤ length out → out' ≡ put_buffer out 0 (bytes_of 2 n) → set (set (set out' 2 k) 3 x) 4 c ≡ patched out 0 (bytes_of 2 n ++ (k ∷ x ∷ c ∷ []))
unfolding patched
head_put (p ∷ q ∷ r ∷ s ∷ t ∷ out) out' n k x c h e = ap (λ (l : List ℕ). set (set (set l 2 k) 3 x) 4 c) (e ∙ put_stores (p ∷ q ∷ r ∷ s ∷ t ∷ out) 0 (bytes_of 2 n) (omega (arith, h)))
head_put [] out' n k x c h e = absurd (omega (arith, h))
head_put (p ∷ []) out' n k x c h e = absurd (omega (arith, h))
head_put (p ∷ q ∷ []) out' n k x c h e = absurd (omega (arith, h))
head_put (p ∷ q ∷ r ∷ []) out' n k x c h e = absurd (omega (arith, h))
head_put (p ∷ q ∷ r ∷ s ∷ []) out' n k x c h e = absurd (omega (arith, h))

-- ---- pairs

pairs_suc : (t : Table) (us : List ℕ) (i : ℕ) → i < length us → pairs_bytes (pairs_for t (take (suc i) us)) ≡ pairs_bytes (pairs_for t (take i us)) ++ (get_or us i 0 ∷ bytes_of 4 (last_of t (get_or us i 0)))
pairs_suc t [] i h = absurd (not-suc-le-zero h)
pairs_suc t (u ∷ us) zero h = refl
pairs_suc t (u ∷ us) (suc i) h = ap (λ (l : List ℕ). (u ∷ bytes_of 4 (last_of t u)) ++ l) (pairs_suc t us i (le_of_suc-le-suc h))

-- a list is as long as what it is mapped to
mapped_long : (X Y : Type 0) (f : X → Y) (l : List X) → length (map f l) ≡ length l
mapped_long X Y f [] = refl
mapped_long X Y f (x ∷ l) = ap suc (mapped_long X Y f l)

pub unmapped : (X Y : Type 0) (f : X → Y) (l : List X) (n : ℕ) → length (map f l) ≡ n → length l ≡ n
unmapped X Y f l n e = sym (mapped_long X Y f l) ∙ e

-- a unit's byte is that of the unit there
pub number_at : (us : List Unit) (i : ℕ) (d : Unit) → i < length us → get_or (numbers_of us) i 0 ≡ (get_or us i d).0
number_at [] i d h = absurd (not-suc-le-zero h)
number_at (u ∷ us) zero d h = refl
number_at (u ∷ us) (suc i) d h = number_at us i d (le_of_suc-le-suc h)

-- one pair more
pub pairs_more : (t : Table) (us : List ℕ) (i : ℕ) → i < length us → pairs_bytes (pairs_for t (take (i + 1) us)) ≡ pairs_bytes (pairs_for t (take i us)) ++ (get_or us i 0 ∷ bytes_of 4 (last_of t (get_or us i 0)))
pairs_more t us i h = rw add-one (pairs_suc t us i h)

-- a byte stored is a run of one
pub one_stored : (l : List ℕ) (n u : ℕ) → n < length l → set l n u ≡ patched l n (u ∷ [])
unfolding patched
one_stored l n u h = set_split l n u h ∙ ap (λ (k : ℕ). take n l ++ (u ∷ drop k l)) (sym (add-one n))

-- a pair stored after what stands there
pub pair_put : (d l l' bs : List ℕ) (n u v : ℕ) → l ≡ patched d 0 bs → length bs ≡ n → n + 5 ≤ length d → l' ≡ put_buffer (set l n u) (n + 1) (bytes_of 4 v)
    → l' ≡ patched d 0 (bs ++ (u ∷ bytes_of 4 v))
pair_put d l l' bs n u v p m h e =
    let w : length l ≡ length d = ap length p ∙ patched-length d 0 bs (omega arith) in
    let s : set l n u ≡ patched l n (u ∷ []) = one_stored l n u (omega (arith, w)) in
    let y : length (patched l n (u ∷ [])) ≡ length l = patched-length l n (u ∷ []) (omega (arith, w)) in
    let k : n ≡ 0 + length bs = omega arith in
    e
    ∙ ap (λ (x : List ℕ). put_buffer x (n + 1) (bytes_of 4 v)) s
    ∙ put_stores (patched l n (u ∷ [])) (n + 1) (bytes_of 4 v) (omega (arith, y, w))
    ∙ patched_join l n (u ∷ []) (omega (arith, w)) (bytes_of 4 v)
    ∙ ap (λ (x : List ℕ). patched x n (u ∷ bytes_of 4 v)) p
    ∙ ap (λ (i : ℕ). patched (patched d 0 bs) i (u ∷ bytes_of 4 v)) k
    ∙ patched_join d 0 bs (omega arith) (u ∷ bytes_of 4 v)

-- ---- groups that may be missing

pub nothing_put : (d : List ℕ) → d ≡ patched d 0 []
unfolding patched
nothing_put d = refl

module _ (t : Table) (c : Choice) where
  pub units_there : c.which ≡ 1 → units_group t c ≡ units_part t c
  unfolding units_part
  units_there e = sym (ap (λ (b : Bool). part b (units_group t c)) (eq-eqb c.which 1 e))

  pub no_units : (c.which ≡ 1 → ⊥) → [] ≡ units_part t c
  unfolding units_part
  no_units n = sym (ap (λ (b : Bool). part b (units_group t c)) (ne_eqb c.which 1 n))

module _ (kind : ℕ) (b : Bitfields) where
  pub bits_there : b.given ≡ true → bits_group kind b ≡ bits_part kind b
  unfolding bits_part
  bits_there e = sym (ap (λ (x : Bool). part x (bits_group kind b)) e)

  pub no_bits : b.given ≡ false → [] ≡ bits_part kind b
  unfolding bits_part
  no_bits e = sym (ap (λ (x : Bool). part x (bits_group kind b)) e)

-- ---- one part after the other

-- the place after a part is within the buffer
pub first-there : (out out₁ l : List ℕ) (n : ℕ) → n ≡ length l → length l ≤ length out → out₁ ≡ patched out 0 l → n ≤ length out₁
first-there out out₁ l n e h p = omega (arith, e, h, ap length p ∙ patched-length out 0 l (omega arith))

pub pairs_room : (t : Table) (us : List ℕ) (n : ℕ) → n ≤ 32 → length (pairs_bytes (pairs_for t (take n us))) ≤ 160
pairs_room t us n h = let m = take-most n us in omega (arith, h, m, pairs_size t (take n us))

pub group_is_lem : (t : Table) (c : Choice) (n : ℕ) → n ≡ least c.count 32
    → (bytes_of 2 (5 + 5 * c.count) ++ (0x80 ∷ c.flag ∷ c.count ∷ [])) ++ pairs_bytes (pairs_for t (take n (numbers_of c.units))) ≡ units_group t c
group_is_lem t c n e = ap (λ (k : ℕ). (bytes_of 2 (5 + 5 * c.count) ++ (0x80 ∷ c.flag ∷ c.count ∷ [])) ++ pairs_bytes (pairs_for t (take k (numbers_of c.units)))) e

pub group-size : (t : Table) (c : Choice) (n : ℕ) → n ≡ least c.count 32 → 32 ≤ length c.units → 5 + 5 * n ≡ length (units_group t c)
group-size t c n e h =
    let us = numbers_of c.units in
    let l : length (take (least c.count 32) us) ≡ least c.count 32 = length-take-le (least c.count 32) us (omega (arith, least-most c.count 32, numbers_long c.units)) in
    omega (arith, e, l, pairs_size t (take (least c.count 32) us))

pub bits_size : (kind : ℕ) (b : Bitfields) (n : ℕ) → n ≡ least b.count 15 → 15 ≤ length b.bits → 5 + n ≡ length (bits_group kind b)
bits_size kind b n e h =
    let l : length (take (least b.count 15) b.bits) ≡ least b.count 15 = length-take-le (least b.count 15) b.bits (omega (arith, least-most b.count 15)) in
    omega (arith, e, l)

-- the count after the names
pub counted : (out out₁ names : List ℕ) (k : ℕ) → length names ≡ 18 → 19 ≤ length out → out₁ ≡ patched out 0 names → set out₁ 18 k ≡ patched out 0 (names ++ (k ∷ []))
counted out out₁ names k l h p =
    let w : length out₁ ≡ length out = ap length p ∙ patched-length out 0 names (omega arith) in
    let n : 18 ≡ 0 + length names = omega arith in
    one_stored out₁ 18 k (omega (arith, w))
    ∙ ap (λ (x : List ℕ). patched x 18 (k ∷ [])) p
    ∙ ap (λ (i : ℕ). patched (patched out 0 names) i (k ∷ [])) n
    ∙ patched_join out 0 names (omega arith) (k ∷ [])

-- what is put into zeros is followed by zeros
pub padded_is : (s : List ℕ) → patched (zeros 433) 0 s ≡ padded s
padded_is s = put_in_zeros 433 s
