-- What is true of unit pairs and groups: how many bytes they take, and that what stands after them plays no part.
-- Assumes nothing.
use Rattle.std.specs.Prelude.{◌≡◌, Bool, true, false, cond, ◌&&◌, List, [], ◌∷◌, ◌++◌, eqb, ltb, leb, get_or, drop, replicate}
use Rattle.std.proofs.Math.Path.{refl}
use Rattle.std.proofs.Common.{sym, ap, ap₂, ◌∙◌, true≢false, arith, length-append, length-set}
use Rattle.std.proofs.Math.Bool.{and-eq-true_iff}
use Prim.Native.Nat.{ℕ, zero, suc, ◌+◌, ◌*◌, ◌≤◌, ◌<◌, zero-le}
use Rattle.std.proofs.Math.ListN.{length, length-drop, get_or-append}
use Rattle.std.proofs.Math.Seq.{drop-append-le}
use borrow.Author.Tests.{le-ltb, le-leb, ne_eqb, leb-true, ltb-true, ltb-false, eqb-true, eqb-false}
use Rattle.numbers.specs.Numbers.{number_at}
use Rattle.session_groups.specs.Groups.{free, mark, unit_at, units_from, pairs_good, bits_good, group_key, list_good, size_by, group_size, next_size, groups_from, groups_end}

left-true : (a b : Bool) → a && b ≡ true → a ≡ true
left-true a b h = ((and-eq-true_iff a b).0 h).0

right_true : (a b : Bool) → a && b ≡ true → b ≡ true
right_true a b h = ((and-eq-true_iff a b).0 h).1

-- so many entries of w bytes: at most `most`, and all there
pub record Fits (n w most : ℕ) (s : List ℕ) : Type 0 where
  pub few : n ≤ most
  pub there : w * n ≤ length s

-- pairs in order are at most 32, and all there
pub pairs_fit : (n : ℕ) (s : List ℕ) → pairs_good n s ≡ true → Fits n 5 32 s
unfolding pairs_good
pairs_fit n s h =
    let k = right_true (leb n 32) _ h in
    record { few = leb-true _ _ (left-true (leb n 32) _ h); there = leb-true _ _ (left-true (leb (5 * n) (length s)) _ k) }

-- bitfields in order are at most 15, and all there
pub bits_fit : (n : ℕ) (s : List ℕ) → bits_good n s ≡ true → Fits n 1 15 s
unfolding bits_good
bits_fit n s h =
    let k : n ≤ length s = leb-true _ _ (right_true (leb n 15) _ h) in
    record { few = leb-true _ _ (left-true (leb n 15) _ h); there = omega arith }

-- what the size of a group says of its list
pub record Whole (key : ℕ) (s : List ℕ) : Type 0 where
  pub size_is : group_size key s ≡ size_by key (get_or s 4 0)
  pub length_is : number_at 2 0 s ≡ size_by key (get_or s 4 0)
  pub list : list_good key (get_or s 4 0) (drop 5 s) ≡ true

whole_by : (a b : Bool) (z : ℕ) → (cond a (cond b z 0) 0 ≡ 0 → ⊥) → (a ≡ true) × (b ≡ true)
whole_by true true z h = (refl, refl)
whole_by true false z h = absurd (h refl)
whole_by false b z h = absurd (h refl)

-- a group that has a size is whole
pub whole_of : (key : ℕ) (s : List ℕ) → (group_size key s ≡ 0 → ⊥) → Whole key s
unfolding group_size
whole_of key s h =
    let w = whole_by (eqb (number_at 2 0 s) (size_by key (get_or s 4 0))) (list_good key (get_or s 4 0) (drop 5 s)) (size_by key (get_or s 4 0)) h in
    record { size_is = rw (w.0, w.1); length_is = eqb-true _ _ w.0; list = w.1 }

-- the most bytes of a group
abbrev pub most : ℕ → ℕ
most key = cond (eqb key 1) 165 20

size_by_lem : (key n : ℕ) (s : List ℕ) (b : Bool) → eqb key 1 ≡ b → list_good key n s ≡ true → (size_by key n ≤ 5 + length s) × (size_by key n ≤ most key)
size_by_lem key n s true e h =
    let f = pairs_fit n s (rw e at h) in
    rw e (omega (arith, f.there), omega (arith, f.few))
size_by_lem key n s false e h =
    let f = bits_fit n s (rw e at h) in
    rw e (omega (arith, f.there), omega (arith, f.few))

-- a group lies within the list, and takes at most its most bytes
pub size_fits : (key : ℕ) (s : List ℕ) → 5 ≤ length s → (group_size key s ≤ length s) × (group_size key s ≤ most key)
size_fits key s h = go (eqb (group_size key s) 0) refl
  where
    go : (b : Bool) → eqb (group_size key s) 0 ≡ b → (group_size key s ≤ length s) × (group_size key s ≤ most key)
    go true e = let z : group_size key s ≡ 0 = eqb-true _ _ e in (omega arith, omega arith)
    go false e =
        let w = whole_of key s (eqb-false _ _ e) in
        let l = size_by_lem key (get_or s 4 0) (drop 5 s) (eqb key 1) refl w.list in
        (omega (arith, w.size_is, l.0, length-drop 5 s), omega (arith, w.size_is, l.1))

most-at : (key : ℕ) (b : Bool) → eqb key 1 ≡ b → most key ≤ 165
most-at key true e = rw e (omega arith)
most-at key false e = rw e (omega arith)

key_by : (s : List ℕ) (b : Bool) → ltb (length s) 5 ≡ b → 0 < group_key s → 5 ≤ length s
unfolding group_key
key_by s true e h = absurd (omega (arith, rw e at h))
key_by s false e h = ltb-false _ _ e

-- a group that is known has its first five bytes
pub key_long : (s : List ℕ) → 0 < group_key s → 5 ≤ length s
key_long s h = key_by s (ltb (length s) 5) refl h

-- a next_size that is taken: its group was free
pub record Taken (marks s : List ℕ) : Type 0 where
  pub was_free : free marks (group_key s) ≡ true
  pub some : 0 < group_key s
  pub next_is : next_size marks s ≡ group_size (group_key s) s

next_by : (b : Bool) (z : ℕ) → (cond b z 0 ≡ 0 → ⊥) → b ≡ true
next_by true z h = refl
next_by false z h = absurd (h refl)

-- a group that is next has a key that was free
pub taken_of : (marks s : List ℕ) → (next_size marks s ≡ 0 → ⊥) → Taken marks s
unfolding next_size
taken_of marks s h =
    let f : free marks (group_key s) ≡ true = next_by (free marks (group_key s)) (group_size (group_key s) s) h in
    record { was_free = f; some = ltb-true _ _ (left-true (ltb 0 (group_key s)) _ f); next_is = rw f }

-- the next group lies within the list, and takes at most 165 bytes
pub next_fits : (marks s : List ℕ) → (next_size marks s ≡ 0 → ⊥) → (next_size marks s ≤ length s) × (next_size marks s ≤ 165)
next_fits marks s h =
    let t = taken_of marks s h in
    let f = size_fits (group_key s) s (key_long s t.some) in
    (omega (arith, t.next_is, f.0), omega (arith, t.next_is, f.1, most-at (group_key s) (eqb (group_key s) 1) refl))

-- and at most the most bytes of its kind
pub next-most : (marks s : List ℕ) → (next_size marks s ≡ 0 → ⊥) → next_size marks s ≤ most (group_key s)
next-most marks s h =
    let t = taken_of marks s h in
    let f = size_fits (group_key s) s (key_long s t.some) in
    omega (arith, t.next_is, f.1)

-- ---- where groups end

-- the bytes that the groups still to come can take
abbrev pub room : List ℕ → ℕ
room marks = cond (eqb (get_or marks 1 0) 0) 165 0 + cond (eqb (get_or marks 2 0) 0) 20 0 + cond (eqb (get_or marks 3 0) 0) 20 0

room_at : (a b c d k g : ℕ) → free (a ∷ b ∷ c ∷ d ∷ []) k ≡ true → g ≤ most k → g + room (mark (a ∷ b ∷ c ∷ d ∷ []) k) ≤ room (a ∷ b ∷ c ∷ d ∷ [])
room_at a b c d zero g f h = absurd (true≢false (sym f))
room_at a b c d (suc zero) g f h = rw f (omega arith)
room_at a b c d (suc (suc zero)) g f h = rw f (omega arith)
room_at a b c d (suc (suc (suc zero))) g f h = rw f (omega arith)
room_at a b c d (suc (suc (suc (suc k)))) g f h =
    let l : suc (suc (suc (suc k))) < 4 = ltb-true _ _ (left-true (ltb (suc (suc (suc (suc k)))) 4) _ (right_true (ltb 0 (suc (suc (suc (suc k))))) _ f)) in
    absurd (omega arith)

room_next : (marks : List ℕ) (k g : ℕ) → length marks ≡ 4 → free marks k ≡ true → g ≤ most k → g + room (mark marks k) ≤ room marks
room_next [] k g l f h = absurd (omega arith)
room_next (a ∷ []) k g l f h = absurd (omega arith)
room_next (a ∷ b ∷ []) k g l f h = absurd (omega arith)
room_next (a ∷ b ∷ c ∷ []) k g l f h = absurd (omega arith)
room_next (a ∷ b ∷ c ∷ d ∷ []) k g l f h = room_at a b c d k g f h
room_next (a ∷ b ∷ c ∷ d ∷ e ∷ m) k g l f h = absurd (omega arith)

-- n groups from place at that are taken, and end at place e
pub record Ends (marks s : List ℕ) (at e : ℕ) : Type 0 where
  pub least : at ≤ e
  pub inside : at ≤ length s → e ≤ length s
  pub close : length marks ≡ 4 → e ≤ at + room marks

-- the first of them
pub record First (n : ℕ) (marks s : List ℕ) (at e : ℕ) : Type 0 where
  pub some : next_size marks (drop at s) ≡ 0 → ⊥
  pub others : groups_from n (at + next_size marks (drop at s)) s (mark marks (group_key (drop at s))) ≡ suc e

first_by : (b : Bool) (z e : ℕ) → cond b 0 z ≡ suc e → (b ≡ false) × (z ≡ suc e)
first_by true z e h = absurd (omega arith)
first_by false z e h = (refl, h)

-- groups that are taken: the first of them, and the others after it
pub first_of : (n : ℕ) (marks s : List ℕ) (at e : ℕ) → groups_from (suc n) at s marks ≡ suc e → First n marks s at e
unfolding groups_from
first_of n marks s at e h =
    let f = first_by (eqb (next_size marks (drop at s)) 0) (groups_from n (at + next_size marks (drop at s)) s (mark marks (group_key (drop at s)))) e h in
    record { some = eqb-false _ _ f.0; others = f.1 }

-- where groups that are taken end
pub ends_of : (n : ℕ) (marks s : List ℕ) (at e : ℕ) → groups_from n at s marks ≡ suc e → Ends marks s at e
unfolding groups_from
ends_of zero marks s at e h = record { least = omega arith; inside = λ i. omega arith; close = λ l. omega arith }
ends_of (suc n) marks s at e h =
    let f = first_of n marks s at e h in
    let g = next_size marks (drop at s) in
    let r = ends_of n (mark marks (group_key (drop at s))) s (at + next_size marks (drop at s)) e f.others in
    let t = taken_of marks (drop at s) f.some in
    let w = next_fits marks (drop at s) f.some in record {
      least = omega (arith, r.least);
      inside = λ i. r.inside (omega (arith, w.0, length-drop at s));
      close = λ l. omega (arith, r.close (length-set marks (group_key (drop at s)) 1 ∙ l), room_next marks (group_key (drop at s)) (next_size marks (drop at s)) l t.was_free (next-most marks (drop at s) f.some));
    }

-- ---- what stands after them

module _ (q u : List ℕ) where
  more : length q ≤ length (q ++ u)
  more = simp length-append (omega arith)

  -- a byte of the front
  pub at_front : (i : ℕ) → i < length q → get_or (q ++ u) i 0 ≡ get_or q i 0
  at_front i h = get_or-append q u 0 i h

  units_front : (n i : ℕ) (marks : List ℕ) → 5 * (i + n) ≤ length q → units_from n i (q ++ u) marks ≡ units_from n i q marks
  unfolding units_from
  units_front zero i marks h = refl
  units_front (suc n) i marks h =
      rw (at_front (5 * i) (omega arith))
      (ap (◌&&◌ (free marks (unit_at q i))) (units_front n (suc i) (mark marks (unit_at q i)) (omega arith)))

  -- pairs of the front
  pub pairs_front : (n : ℕ) → 5 * n ≤ length q → pairs_good n (q ++ u) ≡ pairs_good n q
  unfolding pairs_good
  pairs_front n h =
      let k : 5 * n ≤ length (q ++ u) = omega (arith, more) in
      rw (le-leb _ _ h, le-leb _ _ k) (ap (◌&&◌ (leb n 32)) (units_front n 0 (replicate 33 0) (omega arith)))

  bits_front : (n : ℕ) → n ≤ length q → bits_good n (q ++ u) ≡ bits_good n q
  unfolding bits_good
  bits_front n h =
      let k : n ≤ length (q ++ u) = omega (arith, more) in
      rw (le-leb _ _ h, le-leb _ _ k)

list_front : (q u : List ℕ) (key n : ℕ) (b : Bool) → eqb key 1 ≡ b → size_by key n ≤ 5 + length q → list_good key n (q ++ u) ≡ list_good key n q
list_front q u key n true e h = let l : 5 + 5 * n ≤ 5 + length q = rw e at h in rw e (pairs_front q u n (omega arith))
list_front q u key n false e h = let l : 5 + n ≤ 5 + length q = rw e at h in rw e (bits_front q u n (omega arith))

module _ (d u : List ℕ) (five : 5 ≤ length d) where
  -- the key of a group whose first five bytes are in the front
  pub key_front : group_key (d ++ u) ≡ group_key d
  unfolding group_key
  key_front =
      let k : 5 ≤ length (d ++ u) = omega (arith, more d u) in
      rw (le-ltb _ _ k, le-ltb _ _ five, at_front d u 2 (omega arith), at_front d u 3 (omega arith))

  size-front : (key : ℕ) → size_by key (get_or d 4 0) ≤ length d → group_size key (d ++ u) ≡ group_size key d
  unfolding group_size
  size-front key h =
      rw (at_front d u 0 (omega arith), at_front d u 1 (omega arith), at_front d u 4 (omega arith), drop-append-le 5 d u five, list_front (drop 5 d) u key (get_or d 4 0) (eqb key 1) refl (simp length-drop (omega arith)))

  -- its size, where it lies in the front
  pub next-front : (marks : List ℕ) → size_by (group_key d) (get_or d 4 0) ≤ length d → next_size marks (d ++ u) ≡ next_size marks d
  unfolding next_size
  next-front marks h = rw (key_front, size-front (group_key d) h)

-- a taken group with its bytes in d: its own fields stand in d
size-least : (key n : ℕ) (b : Bool) → eqb key 1 ≡ b → 5 ≤ size_by key n
size-least key n true e = rw e (omega arith)
size-least key n false e = rw e (omega arith)

pub record Held (marks d u : List ℕ) : Type 0 where
  pub five : 5 ≤ length d
  pub fits : size_by (group_key d) (get_or d 4 0) ≤ length d

pub held : (marks d u : List ℕ) → (next_size marks (d ++ u) ≡ 0 → ⊥) → next_size marks (d ++ u) ≤ length d → Held marks d u
held marks d u h l =
    let t = taken_of marks (d ++ u) h in
    let w = whole_of (group_key (d ++ u)) (d ++ u) (λ z. h (t.next_is ∙ z)) in
    let k = size-least (group_key (d ++ u)) (get_or (d ++ u) 4 0) (eqb (group_key (d ++ u)) 1) refl in
    let five : 5 ≤ length d = omega (arith, t.next_is, w.size_is) in
    let e : size_by (group_key (d ++ u)) (get_or (d ++ u) 4 0) ≡ size_by (group_key d) (get_or d 4 0) = ap₂ size_by (key_front d u five) (at_front d u 4 (omega arith)) in
    record { five = five; fits = omega (arith, t.next_is, w.size_is, e) }

-- groups that end with p are the same groups whatever stands after p
pub groups_front : (n at : ℕ) (p u v marks : List ℕ) → at ≤ length p → groups_from n at (p ++ u) marks ≡ suc (length p) → groups_from n at (p ++ v) marks ≡ suc (length p)
unfolding groups_from
groups_front zero at p u v marks a h = h
groups_front (suc n) at p u v marks a h =
    let f = first_of n marks (p ++ u) at (length p) h in
    let r = ends_of n (mark marks (group_key (drop at (p ++ u)))) (p ++ u) (at + next_size marks (drop at (p ++ u))) (length p) f.others in
    let e : drop at (p ++ u) ≡ drop at p ++ u = drop-append-le at p u a in
    let e' : drop at (p ++ v) ≡ drop at p ++ v = drop-append-le at p v a in
    let s : next_size marks (drop at (p ++ u)) ≡ next_size marks (drop at p ++ u) = ap (next_size marks) e in
    let d = held marks (drop at p) u (λ z. f.some (s ∙ z)) (omega (arith, s, r.least, length-drop at p)) in
    let s₁ : next_size marks (drop at (p ++ u)) ≡ next_size marks (drop at p) = s ∙ next-front (drop at p) u d.five marks d.fits in
    let s₂ : next_size marks (drop at (p ++ v)) ≡ next_size marks (drop at p) = ap (next_size marks) e' ∙ next-front (drop at p) v d.five marks d.fits in
    let k₁ : group_key (drop at (p ++ u)) ≡ group_key (drop at p) = ap group_key e ∙ key_front (drop at p) u d.five in
    let k₂ : group_key (drop at (p ++ v)) ≡ group_key (drop at p) = ap group_key e' ∙ key_front (drop at p) v d.five in
    let o : groups_from n (at + next_size marks (drop at p)) (p ++ u) (mark marks (group_key (drop at p))) ≡ suc (length p) = rw (s₁, k₁) at f.others in
    rw (s₂, k₂, ne_eqb (next_size marks (drop at p)) 0 (λ z. f.some (s₁ ∙ z)))
    (groups_front n (at + next_size marks (drop at p)) p u v (mark marks (group_key (drop at p))) (omega (arith, r.least, s₁)) o)

-- ---- steady: what a scan that answers bytes and one, or 0, has accepted

-- the bytes lie within the list and are at most so many, and a scan that ends with p is the same whatever stands after p
pub record Steady (most : ℕ) (f : List ℕ → ℕ) : Type 0 where
  pub inside : (s : List ℕ) (e : ℕ) → f s ≡ suc e → (e ≤ length s) × (e ≤ most)
  pub same : (p u v : List ℕ) → f (p ++ u) ≡ suc (length p) → f (p ++ v) ≡ suc (length p)

-- GROUPS STEADY: groups take at most 205 bytes
pub groups_steady : (n : ℕ) → Steady 205 (groups_end n)
groups_steady n = record {
  inside = λ s e h. let w = ends_of n (replicate 4 0) s 0 e h in (w.inside zero-le, w.close refl);
  same = λ p u v h. groups_front n 0 p u v (replicate 4 0) zero-le h;
}

-- a test passed, and its answer
pub taken_by : (b : Bool) (x e : ℕ) → cond b x 0 ≡ suc e → (b ≡ true) × (x ≡ suc e)
taken_by true x e h = (refl, h)
taken_by false x e h = absurd (omega arith)

-- PAIRS STEADY: pairs take at most 160 bytes
pub pairs_steady : (n : ℕ) → Steady 160 (λ s. cond (pairs_good n s) (5 * n + 1) 0)
pairs_steady n = record {
  inside = λ s e h.
      let y = taken_by (pairs_good n s) (5 * n + 1) e h in
      let f = pairs_fit n s y.0 in
      (omega (arith, f.there, y.1), omega (arith, f.few, y.1));
  same = λ p u v h.
      let y = taken_by (pairs_good n (p ++ u)) (5 * n + 1) (length p) h in
      let l : 5 * n ≤ length p = omega (arith, y.1) in
      let e : pairs_good n (p ++ v) ≡ true = pairs_front p v n l ∙ sym (pairs_front p u n l) ∙ y.0 in
      rw e y.1;
}
