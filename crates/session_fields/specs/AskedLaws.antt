-- What a Login Request asks for of a unit, in the words of its groups as values.
--     first-asked     where the group of units comes first: what this group asks for
--     record-asked    wherever it comes, and where there is none: what the groups ask for
-- Assumes nothing.
use Rattle.std.specs.Prelude.{◌≡◌, Bool, false, ◌&&◌, eqb, Option, None, Some, option_map, unwrap_or}
use Rattle.std.proofs.Math.Path.{refl, ap, ap₂}
use Rattle.std.proofs.Common.{sym, ◌∙◌}
use Rattle.std.proofs.Math.Bool.{true, cond}
use mathlib.Core.List.{List, [], ◌∷◌, ◌++◌, append_assoc}
use Prim.Native.Nat.{ℕ, suc, ◌+◌, ◌*◌, ◌/◌, ◌%◌, ◌≤◌, ◌<◌}
use native.Mathlib.Omega.{arith}
use Rattle.std.proofs.Math.Dec.{ltb}
use Rattle.std.proofs.Math.ListN.{length, get_or, length-append}
use Rattle.std.proofs.Math.Seq.{get_or_at, get_or-append-add}
use borrow.Author.Tests.{lt-ltb}
use Rattle.numbers.specs.Numbers.{number_at, bytes_of}
use Rattle.numbers.specs.NumberLaws.{number_back, number_after}
use Rattle.session_groups.specs.Values.{Pair, pair_bytes, pairs_bytes, NumbersFit, Group, group_bytes, groups_bytes, EachInOrder}
use Rattle.session_groups.specs.Values.Group.{units, bits}
use Rattle.session_groups.specs.Asked.{asked_of, asked}
use Rattle.session_fields.specs.SessionFields.{group_from, request_group, flag_in, group_flag, listed_from, entry_number, listed_in, group_listed}
use Rattle.session_fields.specs.AskedFor.{unlisted_above, or_listed, asked_above}

-- ---- the pairs

module _ (u at flag : ℕ) where
  -- what is asked for by the pair that is found
  abbrev by_pair : List ℕ → Option ℕ → ℕ
  by_pair s k = or_listed (option_map (entry_number at s) k) (unlisted_above flag)

  pairs_asked : (ps : List Pair) (i : ℕ) (q t : List ℕ) → length q ≡ at + 5 + 5 * i → NumbersFit ps
      → by_pair (q ++ (pairs_bytes ps ++ t)) (listed_from (length ps) u i (at + 5) (q ++ (pairs_bytes ps ++ t))) ≡ asked_of flag ps u
  unfolding listed_from
  pairs_asked [] i q t l f = refl
  pairs_asked (x ∷ ps) i q t l f =
      let s : List ℕ = q ++ (pairs_bytes (x ∷ ps) ++ t) in
      let e : get_or s (at + 5 + 5 * i) 0 ≡ x.unit = get_or_at q x.unit ((bytes_of 4 x.number ++ pairs_bytes ps) ++ t) 0 (at + 5 + 5 * i) l in
      let a : (q ++ pair_bytes x) ++ (pairs_bytes ps ++ t) ≡ s = append_assoc q (pair_bytes x) (pairs_bytes ps ++ t) in
      let w : at + 6 + 5 * i ≡ length q + 1 = omega (arith, l) in
      let n : number_at 4 (at + 6 + 5 * i) s ≡ x.number =
      ap (λ (j : ℕ). number_at 4 j s) w
      ∙ number_after 4 1 q (pairs_bytes (x ∷ ps) ++ t)
      ∙ number_back 4 x.number (pairs_bytes ps ++ t) f.0 in
      let later = pairs_asked ps (suc i) (q ++ pair_bytes x) t (omega (arith, l, length-append q (pair_bytes x))) f.1 in
      ap (λ (z : ℕ). by_pair s (cond (eqb z u) (Some i) (listed_from (length ps) u (suc i) (at + 5) s))) e
      ∙ by (eqb x.unit u) n (rw a at later)
    where
      by : (b : Bool) → number_at 4 (at + 6 + 5 * i) (q ++ (pairs_bytes (x ∷ ps) ++ t)) ≡ x.number
          → by_pair (q ++ (pairs_bytes (x ∷ ps) ++ t)) (listed_from (length ps) u (suc i) (at + 5) (q ++ (pairs_bytes (x ∷ ps) ++ t))) ≡ asked_of flag ps u
          → by_pair (q ++ (pairs_bytes (x ∷ ps) ++ t)) (cond b (Some i) (listed_from (length ps) u (suc i) (at + 5) (q ++ (pairs_bytes (x ∷ ps) ++ t)))) ≡ cond b x.number (asked_of flag ps u)
      by true n r = n
      by false n r = r

-- ---- the groups

-- what is read of the group of units at a place
abbrev told : Option ℕ → ℕ → List ℕ → ℕ
told p u s = or_listed (listed_in p u s) (unlisted_above (unwrap_or (flag_in p s) 0))

two : (v : ℕ) → v < 65536 → v % 256 + 256 * (v / 256 % 256 + 256 * 0) ≡ v
two v h = omega arith

module _ (u : ℕ) where
  units_told : (flag at : ℕ) (ps : List Pair) (q r : List ℕ) → length q ≡ at → NumbersFit ps → told (Some at) u (q ++ (group_bytes (units flag ps) ++ r)) ≡ asked_of flag ps u
  units_told flag at ps q r l f =
      let h : List ℕ = bytes_of 2 (5 + 5 * length ps) ++ (0x80 ∷ flag ∷ length ps ∷ []) in
      let s : List ℕ = q ++ (group_bytes (units flag ps) ++ r) in
      let a : (q ++ h) ++ (pairs_bytes ps ++ r) ≡ s = append_assoc q h (pairs_bytes ps ++ r) in
      let three : at + 3 ≡ length q + 3 = omega arith in
      let four : at + 4 ≡ length q + 4 = omega arith in
      let g : get_or s (at + 3) 0 ≡ flag = ap (λ (i : ℕ). get_or s i 0) three ∙ get_or-append-add q (group_bytes (units flag ps) ++ r) 3 0 in
      let n : get_or s (at + 4) 0 ≡ length ps = ap (λ (i : ℕ). get_or s i 0) four ∙ get_or-append-add q (group_bytes (units flag ps) ++ r) 4 0 in
      ap₂ (λ (m d : ℕ). or_listed (option_map (entry_number at s) (listed_from m u 0 (at + 5) s)) (unlisted_above d)) n g
      ∙ ap (λ (y : List ℕ). by_pair u at flag y (listed_from (length ps) u 0 (at + 5) y)) (sym a)
      ∙ pairs_asked u at flag ps 0 (q ++ h) r (omega (arith, l, length-append q h)) f

  groups_asked : (gs : List Group) (at : ℕ) (q t : List ℕ) → length q ≡ at → EachInOrder gs → at + length (groups_bytes gs) ≤ 433
      → told (group_from (length gs) 0x80 0 at (q ++ (groups_bytes gs ++ t))) u (q ++ (groups_bytes gs ++ t)) ≡ asked gs u
  unfolding group_from
  groups_asked [] at q t l o h = refl
  groups_asked (units flag ps ∷ gs) at q t l o h =
      let r : List ℕ = groups_bytes gs ++ t in
      let a : (group_bytes (units flag ps) ++ groups_bytes gs) ++ t ≡ group_bytes (units flag ps) ++ r = append_assoc (group_bytes (units flag ps)) (groups_bytes gs) t in
      let s : List ℕ = q ++ (group_bytes (units flag ps) ++ r) in
      let b : ltb at 433 ≡ true = lt-ltb at 433 (omega (arith, h, length-append (group_bytes (units flag ps)) (groups_bytes gs))) in
      let w : at + 2 ≡ length q + 2 = omega arith in
      let k : get_or s (at + 2) 0 ≡ 0x80 = ap (λ (i : ℕ). get_or s i 0) w ∙ get_or-append-add q (group_bytes (units flag ps) ++ r) 2 0 in
      ap (λ (y : List ℕ). told (group_from (suc (length gs)) 0x80 0 at (q ++ y)) u (q ++ y)) a
      ∙ ap₂ (λ (c : Bool) (x : ℕ). told (cond c (cond (eqb x 0x80 && true) (Some at) (group_from (length gs) 0x80 0 (at + number_at 2 at s) s)) None) u s) b k
      ∙ units_told flag at ps q r l o.0.1.fit
  groups_asked (bits type list ∷ gs) at q t l o h =
      let g : List ℕ = group_bytes (bits type list) in
      let r : List ℕ = groups_bytes gs ++ t in
      let a : (g ++ groups_bytes gs) ++ t ≡ g ++ r = append_assoc g (groups_bytes gs) t in
      let s : List ℕ = q ++ (g ++ r) in
      let n : length (g ++ groups_bytes gs) ≡ 5 + length list + length (groups_bytes gs) = length-append g (groups_bytes gs) ∙ omega arith in
      let b : ltb at 433 ≡ true = lt-ltb at 433 (omega (arith, h, n)) in
      let w : at + 2 ≡ length q + 2 = omega arith in
      let v : at ≡ length q + 0 = omega arith in
      let k : get_or s (at + 2) 0 ≡ 0x81 = ap (λ (i : ℕ). get_or s i 0) w ∙ get_or-append-add q (g ++ r) 2 0 in
      let m : number_at 2 at s ≡ 5 + length list = ap (λ (i : ℕ). number_at 2 i s) v ∙ number_after 2 0 q (g ++ r) ∙ two (5 + length list) (omega (arith, o.0.1)) in
      let j : (q ++ g) ++ r ≡ s = append_assoc q g r in
      let e : at + number_at 2 at s ≡ at + (5 + length list) = ap (λ (i : ℕ). at + i) m in
      ap (λ (y : List ℕ). told (group_from (suc (length gs)) 0x80 0 at (q ++ y)) u (q ++ y)) a
      ∙ ap₂ (λ (c : Bool) (x : ℕ). told (cond c (cond (eqb x 0x80 && true) (Some at) (group_from (length gs) 0x80 0 (at + number_at 2 at s) s)) None) u s) b k
      ∙ ap (λ (i : ℕ). told (group_from (length gs) 0x80 0 i s) u s) e
      ∙ ap (λ (y : List ℕ). told (group_from (length gs) 0x80 0 (at + (5 + length list)) y) u y) (sym j)
      ∙ groups_asked gs (at + (5 + length list)) (q ++ g) t (omega (arith, length-append q (group_bytes (bits type list)), l)) o.1 (omega (arith, h, n))

-- ---- a login's record

-- what is read of it: names of 18 bytes, the count of its groups, and what follows; its unit and number play no part
record_told : (x y : ℕ) (names : List ℕ) (n u : ℕ) (s : List ℕ) → length names ≡ 18
    → asked_above (record { message = 0x37; unit = x; number = y; body = names ++ (n ∷ s) }) u ≡ told (group_from n 0x80 0 19 ((names ++ (n ∷ [])) ++ s)) u ((names ++ (n ∷ [])) ++ s)
unfolding asked_above request_group group_listed group_flag
record_told x y names n u s l =
    let c : get_or (names ++ (n ∷ s)) 18 0 ≡ n = get_or_at names n s 0 18 l in
    ap (λ (k : ℕ). told (group_from k 0x80 0 19 (names ++ (n ∷ s))) u (names ++ (n ∷ s))) c
    ∙ ap (λ (y : List ℕ). told (group_from n 0x80 0 19 y) u y) (sym (append_assoc names (n ∷ []) s))

head_long : (names : List ℕ) (n : ℕ) → length names ≡ 18 → length (names ++ (n ∷ [])) ≡ 19
head_long names n l = omega (arith, length-append names (n ∷ []), l)

-- a group of units that comes first is found, whatever follows it
found_first : (n flag : ℕ) (ps : List Pair) (q r : List ℕ) → length q ≡ 19 → group_from (suc n) 0x80 0 19 (q ++ (group_bytes (units flag ps) ++ r)) ≡ Some 19
unfolding group_from
found_first n flag ps q r l =
    let s : List ℕ = q ++ (group_bytes (units flag ps) ++ r) in
    let k : get_or s 21 0 ≡ 0x80 = ap (λ (i : ℕ). get_or s (i + 2) 0) (sym l) ∙ get_or-append-add q (group_bytes (units flag ps) ++ r) 2 0 in
    ap (λ (z : ℕ). cond (eqb z 0x80 && true) (Some 19) (group_from n 0x80 0 (19 + number_at 2 19 s) s)) k

-- FIRST ASKED: what its group of units asks for, where that comes first, whatever comes after it
pub first-asked : (x y : ℕ) (names : List ℕ) (n flag u : ℕ) (ps : List Pair) (r : List ℕ) → length names ≡ 18 → NumbersFit ps
    → asked_above (record { message = 0x37; unit = x; number = y; body = names ++ (suc n ∷ (group_bytes (units flag ps) ++ r)) }) u ≡ asked_of flag ps u
first-asked x y names n flag u ps r l f =
    let q : List ℕ = names ++ (suc n ∷ []) in
    let s : List ℕ = q ++ (group_bytes (units flag ps) ++ r) in
    record_told x y names (suc n) u (group_bytes (units flag ps) ++ r) l
    ∙ ap (λ (p : Option ℕ). told p u s) (found_first n flag ps q r (head_long names (suc n) l))
    ∙ units_told u flag 19 ps q r (head_long names (suc n) l) f

-- RECORD ASKED: what its groups ask for, which are in order and fit
pub record_asked : (x y : ℕ) (names : List ℕ) (gs : List Group) (u : ℕ) (t : List ℕ) → length names ≡ 18 → EachInOrder gs → 19 + length (groups_bytes gs) ≤ 433
    → asked_above (record { message = 0x37; unit = x; number = y; body = names ++ (length gs ∷ (groups_bytes gs ++ t)) }) u ≡ asked gs u
record_asked x y names gs u t l o h =
    record_told x y names (length gs) u (groups_bytes gs ++ t) l
    ∙ groups_asked u gs 19 (names ++ (length gs ∷ [])) t (head_long names (length gs) l) o h
