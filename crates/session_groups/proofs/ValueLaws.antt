-- What is accepted of unit pairs and groups, in the words of values.
--     pairs_are_a_value, a_value_is_pairs      accepted pairs are exactly the bytes of 0 to 32 pairs in order
--     groups_are_a_value, a_value_is_groups    accepted groups are exactly the bytes of groups in order, each kind once
-- Assumes nothing.
use Rattle.std.specs.Prelude.{◌≡◌, refl, ◌⊎◌, Bool, true, false, ◌&&◌, List, [], ◌∷◌, ◌++◌, ℕ, zero, suc, ◌+◌, ◌-◌, ◌*◌, ◌/◌, ◌%◌, ◌≤◌, ◌<◌, eqb, ltb, leb, length, get_or, take, drop, replicate}
use Rattle.std.proofs.Common.{sym, ap, ap₂, ◌∙◌, inl, inr, append_assoc, append-nil, zero-le, arith, length-append, length-drop, drop_at, take-add, length-take-le, get_or-drop, drop-drop, eqb-true, ltb-true, lt-ltb, le-ltb, le-leb, ne_eqb, eq-eqb}
use Rattle.std.proofs.Math.Bool.{and-eq-true_iff}
use Rattle.std.proofs.lemmas.Bool.{eqb-false}
use Rattle.numbers.specs.Numbers.{number_at, bytes_of}
use Rattle.numbers.specs.NumberLaws.{bytes_back, bytes-first, bytes-later}
use Rattle.session_groups.specs.Groups.{free, mark, unit_at, units_from, pairs_good, bits_good, key_of, group_key, size_by, group_size, next_size, groups_from, groups_end}
use Rattle.session_groups.proofs.GroupLaws.{pairs_fit, bits_fit, Whole, whole_of, taken_of, key_long, next_fits, first_of, ends_of, key_front, next-front}
use Rattle.session_groups.specs.Values.{fresh, Pair, pairs_bytes, units_of, NumbersFit, PairsInOrder, Group, group_bytes, groups_bytes, kind_of, kinds_of, InOrder, EachInOrder, GroupsInOrder}
use Rattle.session_groups.specs.Values.Group.{units, bits}
use Rattle.session_groups.proofs.NotTwice.{not_twice, passed_over}

-- ---- pairs

-- the first n pairs of s
abbrev pub pairs_in : ℕ → List ℕ → List Pair
pairs_in zero s = []
pairs_in (suc n) s = record { unit = get_or s 0 0; number = number_at 4 1 s } ∷ pairs_in n (drop 5 s)

pub pairs_count : (n : ℕ) (s : List ℕ) → length (pairs_in n s) ≡ n
pairs_count zero s = refl
pairs_count (suc n) s = ap suc (pairs_count n (drop 5 s))

-- the walk over the units is the walk over the values' units
units_fresh : (n i : ℕ) (s marks : List ℕ) → units_from n i s marks ≡ fresh marks (units_of (pairs_in n (drop (5 * i) s)))
unfolding units_from
units_fresh zero i s marks = refl
units_fresh (suc n) i s marks =
    let z : 5 * i + 0 ≡ 5 * i = omega arith in
    let u : get_or (drop (5 * i) s) 0 0 ≡ unit_at s i = get_or-drop (5 * i) s 0 0 ∙ ap (λ (k : ℕ). get_or s k 0) z in
    let f : 5 * i + 5 ≡ 5 * suc i = omega arith in
    let d : drop 5 (drop (5 * i) s) ≡ drop (5 * suc i) s = drop-drop 5 (5 * i) s ∙ ap (λ (k : ℕ). drop k s) f in
    ap (λ (b : Bool). free marks (unit_at s i) && b) (units_fresh n (suc i) s (mark marks (unit_at s i)))
    ∙ sym (ap₂ (λ (x : ℕ) (r : List ℕ). free marks x && fresh (mark marks x) (units_of (pairs_in n r))) u d)

numbers_fit : (n : ℕ) (s : List ℕ) → ((i : ℕ) → get_or s i 0 < 256) → NumbersFit (pairs_in n s)
numbers_fit zero s bs = tt
numbers_fit (suc n) s bs = (omega (arith, bs 1, bs 2, bs 3, bs 4), numbers_fit n (drop 5 s) (bytes-later 5 s bs))

pairs_again : (n : ℕ) (s : List ℕ) → ((i : ℕ) → get_or s i 0 < 256) → 5 * n ≤ length s → pairs_bytes (pairs_in n s) ≡ take (5 * n) s
pairs_again zero s bs h = refl
pairs_again (suc n) (u ∷ a ∷ b ∷ c ∷ d ∷ s) bs h =
    let k : 5 * suc n ≡ suc (suc (suc (suc (suc (5 * n))))) = omega arith in
    let f : bytes_of 4 (number_at 4 0 (a ∷ b ∷ c ∷ d ∷ s)) ≡ a ∷ b ∷ c ∷ d ∷ [] = bytes_back 4 (a ∷ b ∷ c ∷ d ∷ s) (omega arith) (λ i. bs (suc i)) in
    ap₂ (λ (x y : List ℕ). u ∷ (x ++ y)) f (pairs_again n s (bytes-later 5 (u ∷ a ∷ b ∷ c ∷ d ∷ s) bs) (omega (arith, h)))
    ∙ ap (λ (m : ℕ). take m (u ∷ a ∷ b ∷ c ∷ d ∷ s)) (sym k)
pairs_again (suc n) [] bs h = absurd (omega (arith, h))
pairs_again (suc n) (u ∷ []) bs h = absurd (omega (arith, h))
pairs_again (suc n) (u ∷ a ∷ []) bs h = absurd (omega (arith, h))
pairs_again (suc n) (u ∷ a ∷ b ∷ []) bs h = absurd (omega (arith, h))
pairs_again (suc n) (u ∷ a ∷ b ∷ c ∷ []) bs h = absurd (omega (arith, h))

-- the value of n pairs whose bytes are p
pub record PairsValue (n : ℕ) (p : List ℕ) : Type 0 where
  pub pairs : List Pair
  pub count : length pairs ≡ n
  pub in_order : PairsInOrder pairs
  pub bytes : pairs_bytes pairs ≡ p

-- PAIRS ARE A VALUE: pairs that are accepted are the bytes of as many pairs in order
pub pairs_are_a_value : (n : ℕ) (s : List ℕ) → ((i : ℕ) → get_or s i 0 < 256) → pairs_good n s ≡ true → PairsValue n (take (5 * n) s)
unfolding pairs_good
pairs_are_a_value n s bs h =
    let f = pairs_fit n s h in
    let r = ((and-eq-true_iff (leb n 32) _).0 h).1 in
    let u : units_from n 0 s (replicate 33 0) ≡ true = ((and-eq-true_iff (leb (5 * n) (length s)) _).0 r).1 in
    record {
      pairs = pairs_in n s;
      count = pairs_count n s;
      in_order = record {
        few = omega (arith, f.few, pairs_count n s);
        units = not_twice 32 (units_of (pairs_in n s)) (sym (units_fresh n 0 s (replicate 33 0)) ∙ u);
        fit = numbers_fit n s bs;
      };
      bytes = pairs_again n s bs f.there;
    }

pub pairs_length : (ps : List Pair) → length (pairs_bytes ps) ≡ 5 * length ps
pairs_length [] = refl
pairs_length (p ∷ ps) = let h = pairs_length ps in omega arith

units_back : (ps : List Pair) (t : List ℕ) → units_of (pairs_in (length ps) (pairs_bytes ps ++ t)) ≡ units_of ps
units_back [] t = refl
units_back (p ∷ ps) t = ap (λ (l : List ℕ). p.unit ∷ l) (units_back ps t)

-- A VALUE IS PAIRS: the bytes of pairs in order are accepted, whatever stands after them
pub a_value_is_pairs : (ps : List Pair) (t : List ℕ) → PairsInOrder ps → pairs_good (length ps) (pairs_bytes ps ++ t) ≡ true
unfolding pairs_good
a_value_is_pairs ps t o =
    let l : 5 * length ps ≤ length (pairs_bytes ps ++ t) = omega (arith, length-append (pairs_bytes ps) t, pairs_length ps) in
    rw (le-leb _ _ o.few, le-leb _ _ l)
    (units_fresh (length ps) 0 (pairs_bytes ps ++ t) (replicate 33 0) ∙ ap (fresh (replicate 33 0)) (units_back ps t) ∙ passed_over 32 (units_of ps) o.units)

-- ---- the bytes of groups in order are accepted

-- the bytes of a group, as the scan sees them
record Coded (k : ℕ) (g : List ℕ) : Type 0 where
  pub long : 5 ≤ length g
  pub key_is : group_key g ≡ k
  pub whole : size_by k (get_or g 4 0) ≡ length g
  pub size_is : group_size k g ≡ length g

two : (v : ℕ) → v < 65536 → v % 256 + 256 * (v / 256 % 256 + 256 * 0) ≡ v
two v h = omega arith

coded_units : (flag n : ℕ) (ps : List ℕ) → flag < 2 → length ps ≡ 5 * n → pairs_good n ps ≡ true → Coded 1 (bytes_of 2 (5 + 5 * n) ++ (0x80 ∷ flag ∷ n ∷ ps))
unfolding group_key group_size
coded_units flag n ps f l p =
    let few : n ≤ 32 = (pairs_fit n ps p).few in
    let v : (5 + 5 * n) % 256 + 256 * ((5 + 5 * n) / 256 % 256 + 256 * 0) ≡ 5 + 5 * n = two (5 + 5 * n) (omega arith) in
    let z : 5 ≤ length (bytes_of 2 (5 + 5 * n) ++ (0x80 ∷ flag ∷ n ∷ ps)) = omega arith in
    record {
      long = z;
      key_is = rw (le-ltb _ _ z, lt-ltb _ _ f);
      whole = omega arith;
      size_is = rw (v, eq-eqb (5 + 5 * n) (5 + 5 * n) refl, p) (omega arith);
    }

bits_good_lem : (bs : List ℕ) → length bs ≤ 15 → bits_good (length bs) bs ≡ true
unfolding bits_good
bits_good_lem bs h = rw (le-leb _ _ h) (le-leb (length bs) (length bs) (omega arith))

coded_bits : (type k : ℕ) (bs : List ℕ) → key_of 0x81 type ≡ k → (k ≡ 1 → ⊥) → length bs ≤ 15 → Coded k (group_bytes (bits type bs))
unfolding group_key group_size
coded_bits type k bs e o h =
    let v : (5 + length bs) % 256 + 256 * ((5 + length bs) / 256 % 256 + 256 * 0) ≡ 5 + length bs = two (5 + length bs) (omega arith) in
    let z : 5 ≤ length (group_bytes (bits type bs)) = omega arith in
    record {
      long = z;
      key_is = rw (le-ltb _ _ z) e;
      whole = rw (ne_eqb k 1 o) (omega arith);
      size_is = rw (ne_eqb k 1 o, v, eq-eqb (5 + length bs) (5 + length bs) refl, bits_good_lem bs h) (omega arith);
    }

not-one : (type : ℕ) (a b : Bool) → eqb type 0x25 ≡ a → eqb type 0x2C ≡ b → key_of 0x81 type ≡ 1 → ⊥
not-one type true b e q h = omega (arith, rw e at h)
not-one type false true e q h = omega (arith, rw (e, q) at h)
not-one type false false e q h = omega (arith, rw (e, q) at h)

coded_of : (g : Group) → InOrder g → Coded (kind_of g) (group_bytes g)
coded_of (units flag ps) w =
    let p : pairs_good (length ps) (pairs_bytes ps) ≡ true = ap (pairs_good (length ps)) (sym (append-nil (pairs_bytes ps))) ∙ a_value_is_pairs ps [] w.1 in
    rw (lt-ltb _ _ w.0) (coded_units flag (length ps) (pairs_bytes ps) w.0 (pairs_length ps) p)
coded_of (bits type bs) w = coded_bits type (key_of 0x81 type) bs refl (not-one type (eqb type 0x25) (eqb type 0x2C) refl refl) w.1

next_coded : (marks g x : List ℕ) (k : ℕ) → Coded k g → free marks k ≡ true → (next_size marks (g ++ x) ≡ length g) × (group_key (g ++ x) ≡ k)
unfolding next_size
next_coded marks g x k c f =
    let z : size_by (group_key g) (get_or g 4 0) ≤ length g = rw c.key_is (omega (arith, c.whole)) in
    (next-front g x c.long marks z ∙ rw (c.key_is, f) c.size_is, key_front g x c.long ∙ c.key_is)

all_from : (gs : List Group) (at : ℕ) (marks q t : List ℕ) → length q ≡ at → EachInOrder gs → fresh marks (kinds_of gs) ≡ true
    → groups_from (length gs) at (q ++ (groups_bytes gs ++ t)) marks ≡ suc (at + length (groups_bytes gs))
unfolding groups_from
all_from [] at marks q t e w f = ap suc (omega arith)
all_from (g ∷ gs) at marks q t e w f =
    let p : List ℕ = group_bytes g in
    let r : List ℕ = groups_bytes gs in
    let c = coded_of g w.0 in
    let ff = (and-eq-true_iff (free marks (kind_of g)) (fresh (mark marks (kind_of g)) (kinds_of gs))).0 f in
    let a : (p ++ r) ++ t ≡ p ++ (r ++ t) = append_assoc p r t in
    let d : drop at (q ++ ((p ++ r) ++ t)) ≡ p ++ (r ++ t) = drop_at q ((p ++ r) ++ t) at e ∙ a in
    let s = next_coded marks p (r ++ t) (kind_of g) c ff.0 in
    let i : groups_from (length gs) (at + length p) ((q ++ p) ++ (r ++ t)) (mark marks (kind_of g)) ≡ suc ((at + length p) + length r) =
    all_from gs (at + length p) (mark marks (kind_of g)) (q ++ p) t (length-append q p ∙ ap (λ (n : ℕ). n + length p) e) w.1 ff.1 in
    let j : (q ++ p) ++ (r ++ t) ≡ q ++ ((p ++ r) ++ t) = append_assoc q p (r ++ t) ∙ ap (λ (l : List ℕ). q ++ l) (sym a) in
    let i' : groups_from (length gs) (at + length p) (q ++ ((p ++ r) ++ t)) (mark marks (kind_of g)) ≡ suc ((at + length p) + length r) = rw j at i in
    rw (d, s.0, s.1, ne_eqb (length p) 0 (λ z. omega (arith, c.long))) (i' ∙ ap suc (omega (arith, length-append p r)))

-- A VALUE IS GROUPS: the bytes of groups in order are accepted, whatever stands after them
pub a_value_is_groups : (gs : List Group) (t : List ℕ) → GroupsInOrder gs → groups_end (length gs) (groups_bytes gs ++ t) ≡ suc (length (groups_bytes gs))
a_value_is_groups gs t o = all_from gs 0 (replicate 4 0) [] t refl o.each (passed_over 3 (kinds_of gs) o.kinds) ∙ ap suc (omega arith)

-- ---- groups that are accepted are the bytes of a value in order

-- what a key says of the group's type and of the byte after it
record Typed (t x k : ℕ) : Type 0 where
  pub units_only : k ≡ 1 → (t ≡ 0x80) × (x < 2)
  pub bits_only : (k ≡ 1 → ⊥) → (t ≡ 0x81) × ((x ≡ 0x25) ⊎ (x ≡ 0x2C))

typed_by : (t x : ℕ) (a b c u v : Bool) → eqb t 0x80 ≡ a → eqb t 0x81 ≡ b → ltb x 2 ≡ c → eqb x 0x25 ≡ u → eqb x 0x2C ≡ v → 0 < key_of t x → Typed t x (key_of t x)
typed_by t x true b true u v e q f i j h = record { units_only = λ o. (eqb-true _ _ e, ltb-true _ _ f); bits_only = λ o. absurd (o (rw (e, f))) }
typed_by t x true b false u v e q f i j h = absurd (omega (arith, rw (e, f) at h))
typed_by t x false true c true v e q f i j h = record { units_only = λ o. absurd (let z : ◌≡◌ {A = ℕ} 2 1 = rw (e, q, i) at o in omega arith); bits_only = λ o. (eqb-true _ _ q, inl (eqb-true _ _ i)) }
typed_by t x false true c false true e q f i j h = record { units_only = λ o. absurd (let z : ◌≡◌ {A = ℕ} 3 1 = rw (e, q, i, j) at o in omega arith); bits_only = λ o. (eqb-true _ _ q, inr (eqb-true _ _ j)) }
typed_by t x false true c false false e q f i j h = absurd (omega (arith, rw (e, q, i, j) at h))
typed_by t x false false c u v e q f i j h = absurd (omega (arith, rw (e, q) at h))

typed_of : (t x : ℕ) → 0 < key_of t x → Typed t x (key_of t x)
typed_of t x h = typed_by t x (eqb t 0x80) (eqb t 0x81) (ltb x 2) (eqb x 0x25) (eqb x 0x2C) refl refl refl refl refl h

low : (a b v : ℕ) → a < 256 → a + 256 * (b + 256 * 0) ≡ v → v % 256 ≡ a
low a b v h e = omega arith

high : (a b v : ℕ) → a < 256 → b < 256 → a + 256 * (b + 256 * 0) ≡ v → v / 256 % 256 ≡ b
high a b v h k e = let q : v / 256 ≡ b = omega arith in ap (λ (y : ℕ). y % 256) q ∙ small b k
  where
    small : (y : ℕ) → y < 256 → y % 256 ≡ y
    small y l = omega arith

five_more : (a b t x n m : ℕ) (r : List ℕ) → take (5 + m) (a ∷ b ∷ t ∷ x ∷ n ∷ r) ≡ a ∷ b ∷ t ∷ x ∷ n ∷ take m r
five_more a b t x n m r = let e : 5 + m ≡ suc (suc (suc (suc (suc m)))) = omega arith in ap (λ (y : ℕ). take y (a ∷ b ∷ t ∷ x ∷ n ∷ r)) e

-- the group at the front of d as a value
record One (k : ℕ) (d : List ℕ) : Type 0 where
  pub group : Group
  pub good : InOrder group
  pub key_is : kind_of group ≡ k
  pub bytes : group_bytes group ≡ take (group_size k d) d

module _ (a b t x n : ℕ) (r : List ℕ) (bs : (i : ℕ) → get_or (a ∷ b ∷ t ∷ x ∷ n ∷ r) i 0 < 256) where
  abbrev d : List ℕ
  d = a ∷ b ∷ t ∷ x ∷ n ∷ r

  one_units : Whole 1 d → t ≡ 0x80 → x < 2 → One 1 d
  one_units w e f =
      let p : pairs_good n r ≡ true = w.list in
      let q = pairs_are_a_value n r (bytes-later 5 (a ∷ b ∷ t ∷ x ∷ n ∷ r) bs) p in
      record {
        group = units x q.pairs;
        good = (f, q.in_order);
        key_is = rw (lt-ltb _ _ f);
        bytes =
            rw (q.count, q.bytes, low a b (5 + 5 * n) (bs 0) w.length_is, high a b (5 + 5 * n) (bs 0) (bs 1) w.length_is, w.size_is)
            (ap (λ (y : ℕ). a ∷ b ∷ y ∷ x ∷ n ∷ take (5 * n) r) (sym e) ∙ sym (five_more a b t x n (5 * n) r));
      }

  one_bits : (k : ℕ) → Whole k d → (k ≡ 1 → ⊥) → key_of 0x81 x ≡ k → t ≡ 0x81 → (x ≡ 0x25) ⊎ (x ≡ 0x2C) → One k d
  one_bits k w o y e xs =
      let s : bits_good n r ≡ true = rw (ne_eqb k 1 o) at w.list in
      let z : number_at 2 0 d ≡ 5 + n = rw (ne_eqb k 1 o) at w.length_is in
      let g : group_size k d ≡ 5 + n = rw (ne_eqb k 1 o) at w.size_is in
      let fit = bits_fit n r s in
      let q : List ℕ = take n r in
      let l : length q ≡ n = length-take-le n r (omega (arith, fit.there)) in
      record {
        group = bits x q;
        good = (xs, omega (arith, l, fit.few), bytes-first n r (bytes-later 5 (a ∷ b ∷ t ∷ x ∷ n ∷ r) bs));
        key_is = y;
        bytes = rw (l, low a b (5 + n) (bs 0) z, high a b (5 + n) (bs 0) (bs 1) z, g) (ap (λ (v : ℕ). a ∷ b ∷ v ∷ x ∷ n ∷ q) (sym e) ∙ sym (five_more a b t x n n r));
      }

  one_by : (k : ℕ) (o : Bool) → eqb k 1 ≡ o → k ≡ key_of t x → 0 < k → Whole k d → One k d
  one_by k true o e h w =
      let y : k ≡ 1 = eqb-true _ _ o in
      let u = (typed_of t x (rw e at h)).units_only (sym e ∙ y) in
      rw y (one_units (rw y at w) u.0 u.1)
  one_by k false o e h w =
      let z = (typed_of t x (rw e at h)).bits_only (λ q. eqb-false _ _ o (e ∙ q)) in
      one_bits k w (eqb-false _ _ o) (ap (λ (v : ℕ). key_of v x) (sym z.0) ∙ sym e) z.0 z.1

long_key : (a b t x n : ℕ) (r : List ℕ) → group_key (a ∷ b ∷ t ∷ x ∷ n ∷ r) ≡ key_of t x
unfolding group_key
long_key a b t x n r = let l : 5 ≤ length (a ∷ b ∷ t ∷ x ∷ n ∷ r) = omega arith in rw (le-ltb _ _ l)

one_of : (d : List ℕ) → ((i : ℕ) → get_or d i 0 < 256) → 0 < group_key d → Whole (group_key d) d → One (group_key d) d
one_of (a ∷ b ∷ t ∷ x ∷ n ∷ r) bs h w = one_by a b t x n r bs (group_key (a ∷ b ∷ t ∷ x ∷ n ∷ r)) _ refl (long_key a b t x n r) h w
one_of [] bs h w = absurd (omega (arith, key_long [] h))
one_of (a ∷ []) bs h w = absurd (omega (arith, key_long (a ∷ []) h))
one_of (a ∷ b ∷ []) bs h w = absurd (omega (arith, key_long (a ∷ b ∷ []) h))
one_of (a ∷ b ∷ t ∷ []) bs h w = absurd (omega (arith, key_long (a ∷ b ∷ t ∷ []) h))
one_of (a ∷ b ∷ t ∷ x ∷ []) bs h w = absurd (omega (arith, key_long (a ∷ b ∷ t ∷ x ∷ []) h))

-- n groups whose bytes are p, each free when it comes
record Found (marks : List ℕ) (n : ℕ) (p : List ℕ) : Type 0 where
  pub groups : List Group
  pub count : length groups ≡ n
  pub each : EachInOrder groups
  pub free_all : fresh marks (kinds_of groups) ≡ true
  pub bytes : groups_bytes groups ≡ p

-- two parts in a row
join : (s : List ℕ) (at m e : ℕ) → m ≤ e → at + e ≤ length s → take m (drop at s) ++ take (e - m) (drop (at + m) s) ≡ take e (drop at s)
join s at m e h l =
    let z : m + (e - m) ≡ e = omega arith in
    ap (λ (x : List ℕ). take m (drop at s) ++ take (e - m) x) (sym (drop-drop m at s))
    ∙ sym (take-add m (e - m) (drop at s))
    ∙ ap (λ (y : ℕ). take y (drop at s)) z

found_from : (n at e : ℕ) (s marks : List ℕ) → ((i : ℕ) → get_or s i 0 < 256) → at ≤ length s → groups_from n at s marks ≡ suc e → Found marks n (take (e - at) (drop at s))
unfolding groups_from
found_from zero at e s marks bs l h =
    let z : e - at ≡ 0 = omega arith in
    record { groups = []; count = refl; each = tt; free_all = refl; bytes = ap (λ (m : ℕ). take m (drop at s)) (sym z) }
found_from (suc n) at e s marks bs l h =
    let f = first_of n marks s at e h in
    let t = taken_of marks (drop at s) f.some in
    let w = whole_of (group_key (drop at s)) (drop at s) (λ z. f.some (t.next_is ∙ z)) in
    let g = one_of (drop at s) (bytes-later at s bs) t.some w in
    let fit = next_fits marks (drop at s) f.some in
    let r = ends_of n (mark marks (group_key (drop at s))) s (at + next_size marks (drop at s)) e f.others in
    let o = found_from n (at + next_size marks (drop at s)) e s (mark marks (group_key (drop at s))) bs (omega (arith, fit.0, length-drop at s)) f.others in
    let i : e ≤ length s = r.inside (omega (arith, fit.0, length-drop at s)) in
    let z : e - (at + next_size marks (drop at s)) ≡ (e - at) - next_size marks (drop at s) = omega arith in
    record {
      groups = g.group ∷ o.groups;
      count = ap suc o.count;
      each = (g.good, o.each);
      free_all = rw g.key_is ((and-eq-true_iff (free marks (group_key (drop at s))) (fresh (mark marks (group_key (drop at s))) (kinds_of o.groups))).1 (t.was_free, o.free_all));
      bytes =
          ap₂ (λ (x y : List ℕ). x ++ y) (g.bytes ∙ ap (λ (y : ℕ). take y (drop at s)) (sym t.next_is)) (o.bytes ∙ ap (λ (y : ℕ). take y (drop (at + next_size marks (drop at s)) s)) z)
          ∙ join s at (next_size marks (drop at s)) (e - at) (omega (arith, r.least)) (omega arith);
    }

-- the value of n groups whose bytes are p
pub record GroupsValue (n : ℕ) (p : List ℕ) : Type 0 where
  pub groups : List Group
  pub count : length groups ≡ n
  pub in_order : GroupsInOrder groups
  pub bytes : groups_bytes groups ≡ p

-- GROUPS ARE A VALUE: groups that are accepted and end after e bytes are the bytes of as many groups in order
pub groups_are_a_value : (n e : ℕ) (s : List ℕ) → ((i : ℕ) → get_or s i 0 < 256) → groups_end n s ≡ suc e → GroupsValue n (take e s)
groups_are_a_value n e s bs h =
    let z : e - 0 ≡ e = omega arith in
    let f = found_from n 0 e s (replicate 4 0) bs zero-le h in
    record {
      groups = f.groups;
      count = f.count;
      in_order = record { each = f.each; kinds = not_twice 3 (kinds_of f.groups) f.free_all };
      bytes = f.bytes ∙ ap (λ (k : ℕ). take k s) z;
    }
