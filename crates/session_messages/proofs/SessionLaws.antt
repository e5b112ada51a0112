-- What is true of session messages: bodies lie within the message, are at most 433 bytes, and nothing after them plays a part; and what follows
-- where a message is read or written, the refusals one by one. Assumes nothing.
use Rattle.std.specs.Prelude.{◌≡◌, Bool, not, ◌||◌, List, ◌++◌, get_or, take, drop}
use Rattle.std.proofs.Math.Path.{refl, sym, ap}
use Rattle.std.proofs.Common.{ap₂, ◌∙◌, length-drop, length-append}
use Rattle.std.proofs.Math.Bool.{true, false, cond}
use Prim.Native.Nat.{ℕ, zero, suc, ◌+◌, ◌-◌, ◌*◌, ◌≤◌, ◌<◌}
use native.Mathlib.Omega.{arith}
use Rattle.std.proofs.Math.Dec.{ltb, eqb}
use Rattle.std.proofs.Math.ListN.{length}
use Rattle.std.proofs.lemmas.List.{drop-append-le, take-append-le}
use borrow.Author.Tests.{lt-ltb, le-ltb, ltb-true, ltb-false, eq-eqb, ne_eqb, eqb-true, eqb-false, not-false}
use Rattle.refusals.specs.Names.{wrong_total, not_zero, bad_group}
use Rattle.refusals.specs.Told.{told}
use Rattle.refusals.specs.ToldLaws.{passed_told}
use Rattle.kinds.specs.Kinds.{all_nul}
use Rattle.wire.specs.Header.{type_of, unit_of, number_of, total_of}
use Rattle.wire.proofs.FrameLaws.{passed}
use Rattle.block.specs.SlotLaws.{both_true}
use Rattle.session_groups.specs.Groups.{pairs_good, groups_end}
use Rattle.session_groups.proofs.GroupLaws.{pairs_fit, at_front, pairs_front, Steady, groups_steady, pairs_steady, taken_by}
use Rattle.session_messages.specs.Sessions.{of_member, of_venue, unit_good, fixed_size, names_good, status_good, reason_good, values_good, flag_good, after, pairs_end, response_end, lists_end, body_end, size_of, read_refusal, write_refusal}

-- ---- bytes in front

-- what follows k bytes, where all of them were taken
pub record After (k x e : ℕ) : Type 0 where
  pub rest : ℕ
  pub was : x ≡ suc rest
  pub sum : e ≡ k + rest

pub after_of : (k x e : ℕ) → after k x ≡ suc e → After k x e
after_of k zero e h = absurd (omega arith)
after_of k (suc y) e h = record { rest = y; was = refl; sum = omega (arith, h) }

long : (p u : List ℕ) → length p ≤ length (p ++ u)
long p u = omega (arith, length-append p u)

-- a front of k bytes that holds a count at place j, and as steady a list after it
module _ (most k j : ℕ) (g : ℕ → List ℕ → ℕ) (w : (n : ℕ) → Steady most (g n)) (jk : j < k) where
  counted_inside : (s : List ℕ) (e : ℕ) → k ≤ length s → after k (g (get_or s j 0) (drop k s)) ≡ suc e → (e ≤ length s) × (e ≤ k + most) × (k ≤ e)
  counted_inside s e l h =
      let f = after_of k (g (get_or s j 0) (drop k s)) e h in
      let i = (w (get_or s j 0)).inside (drop k s) f.rest f.was in
      (omega (arith, f.sum, i.0, length-drop k s), omega (arith, f.sum, i.1), omega (arith, f.sum))

  counted_same : (p u v : List ℕ) → after k (g (get_or (p ++ u) j 0) (drop k (p ++ u))) ≡ suc (length p)
      → (k ≤ length p) × (after k (g (get_or (p ++ v) j 0) (drop k (p ++ v))) ≡ suc (length p))
  counted_same p u v h =
      let f = after_of k (g (get_or (p ++ u) j 0) (drop k (p ++ u))) (length p) h in
      let l : k ≤ length p = omega (arith, f.sum) in
      let c : get_or (p ++ u) j 0 ≡ get_or p j 0 = at_front p u j (omega arith) in
      let c' : get_or (p ++ v) j 0 ≡ get_or p j 0 = at_front p v j (omega arith) in
      let d : f.rest ≡ length (drop k p) = omega (arith, f.sum, length-drop k p) in
      let q : g (get_or p j 0) (drop k p ++ u) ≡ suc (length (drop k p)) = ap₂ g (sym c) (sym (drop-append-le k p u l)) ∙ f.was ∙ ap suc d in
      let r : g (get_or (p ++ v) j 0) (drop k (p ++ v)) ≡ suc (length (drop k p)) = ap₂ g c' (drop-append-le k p v l) ∙ (w (get_or p j 0)).same (drop k p) u v q in
      let z : k + length (drop k p) ≡ length p = omega (arith, length-drop k p) in
      (l, ap (after k) r ∙ ap suc z)

-- ---- lists

pub response_steady : (n : ℕ) → Steady 366 (response_end n)
unfolding response_end
response_steady n = record {
  inside = λ s e h.
      let y = taken_by (pairs_good n s) (cond (ltb (5 * n) (length s)) (after (5 * n + 1) (groups_end (get_or s (5 * n) 0) (drop (5 * n + 1) s))) 0) e h in
      let y' = taken_by (ltb (5 * n) (length s)) (after (5 * n + 1) (groups_end (get_or s (5 * n) 0) (drop (5 * n + 1) s))) e y.1 in
      let l : 5 * n < length s = ltb-true _ _ y'.0 in
      let f = pairs_fit n s y.0 in
      let i = counted_inside 205 (5 * n + 1) (5 * n) groups_end groups_steady (omega arith) s e (omega arith) y'.1 in
      (i.0, omega (arith, i.1, f.few));
  same = λ p u v h.
      let y = taken_by (pairs_good n (p ++ u)) (cond (ltb (5 * n) (length (p ++ u))) (after (5 * n + 1) (groups_end (get_or (p ++ u) (5 * n) 0) (drop (5 * n + 1) (p ++ u)))) 0) (length p) h in
      let y' = taken_by (ltb (5 * n) (length (p ++ u))) (after (5 * n + 1) (groups_end (get_or (p ++ u) (5 * n) 0) (drop (5 * n + 1) (p ++ u)))) (length p) y.1 in
      let r = counted_same 205 (5 * n + 1) (5 * n) groups_end groups_steady (omega arith) p u v y'.1 in
      let e : pairs_good n (p ++ v) ≡ true = pairs_front p v n (omega (arith, r.0)) ∙ sym (pairs_front p u n (omega (arith, r.0))) ∙ y.0 in
      let l : 5 * n < length (p ++ v) = omega (arith, r.0, long p v) in
      rw (e, lt-ltb _ _ l) r.1;
}

steady-more : (a b : ℕ) (f : List ℕ → ℕ) → a ≤ b → Steady a f → Steady b f
steady-more a b f h w = record { inside = λ s n e. let i = w.inside s n e in (i.0, omega (arith, i.1)); same = w.same }

-- LISTS STEADY: what follows the first count takes at most 366 bytes, and what stands after it plays no part
pub lists-steady : (message n : ℕ) → Steady 366 (lists_end message n)
unfolding lists_end
lists-steady message n = by (eqb message 0x37) (eqb message 0x24)
  where
    by : (a b : Bool) → Steady 366 (λ s. cond a (groups_end n s) (cond b (response_end n s) (pairs_end n s)))
    by true b = steady-more 205 366 (groups_end n) (omega arith) (groups_steady n)
    by false true = response_steady n
    by false false = steady-more 160 366 (pairs_end n) (omega arith) (pairs_steady n)

-- ---- the fixed part

pub fixed_small : (message : ℕ) → fixed_size message ≤ 67
unfolding fixed_size
fixed_small message = by (eqb message 0x37) (eqb message 0x24) (eqb message 0x08)
  where
    by : (a b c : Bool) → cond a 19 (cond b 67 (cond c 66 0)) ≤ 67
    by true b c = omega arith
    by false true c = omega arith
    by false false true = omega arith
    by false false false = omega arith

-- bytes from a place on, where the front has them
take-front : (a k : ℕ) (p u : List ℕ) → k + a ≤ length p → take a (drop k (p ++ u)) ≡ take a (drop k p)
take-front a k p u h = ap (take a) (drop-append-le k p u (omega arith)) ∙ take-append-le a (drop k p) u (omega (arith, length-drop k p))

module _ (p u : List ℕ) where
  pub names-front : 18 ≤ length p → names_good (p ++ u) ≡ names_good p
  names-front h = rw (take-append-le 4 p u (omega arith), take-front 4 4 p u (omega arith), take-front 10 8 p u (omega arith))

  status_front : 61 ≤ length p → status_good (p ++ u) ≡ status_good p
  status_front h = rw (take-append-le 1 p u (omega arith), take-front 60 1 p u (omega arith))

  reason_front : 61 ≤ length p → reason_good (p ++ u) ≡ reason_good p
  reason_front h = rw (at_front p u 0 (omega arith), take-append-le 1 p u (omega arith), take-front 60 1 p u (omega arith))

  -- the values are those of the fixed part, whatever stands after it
  pub values-front : (message : ℕ) → fixed_size message ≤ length p → values_good message (p ++ u) ≡ values_good message p
  unfolding values_good fixed_size
  values-front message h = by (eqb message 0x37) (eqb message 0x24) (eqb message 0x08) h
    where
      by : (a b c : Bool) → cond a 19 (cond b 67 (cond c 66 0)) ≤ length p
          → cond a (names_good (p ++ u)) (cond b (status_good (p ++ u)) (cond c (reason_good (p ++ u)) true)) ≡ cond a (names_good p) (cond b (status_good p) (cond c (reason_good p) true))
      by true b c l = names-front (omega (arith, l))
      by false true c l = status_front (omega (arith, l))
      by false false true l = reason_front (omega (arith, l))
      by false false false l = refl

  pub flag-front : (message : ℕ) → fixed_size message ≤ length p → flag_good message (p ++ u) ≡ flag_good message p
  unfolding flag_good fixed_size
  flag-front message h = by (eqb message 0x37) (eqb message 0x24) refl refl h
    where
      by : (a b : Bool) → eqb message 0x37 ≡ a → eqb message 0x24 ≡ b → cond a 19 (cond b 67 (cond (eqb message 0x08) 66 0)) ≤ length p
          → cond b (ltb (get_or (p ++ u) 61 0) 2) true ≡ cond b (ltb (get_or p 61 0) 2) true
      by true true e q l = let x : message ≡ 0x37 = eqb-true _ _ e in let y : message ≡ 0x24 = eqb-true _ _ q in absurd (omega arith)
      by true false e q l = refl
      by false true e q l = ap (λ (x : ℕ). ltb x 2) (at_front p u 61 (omega (arith, l)))
      by false false e q l = refl

-- ---- the body

-- where a body ends: within the message and after its fixed part, at most 433 bytes on
pub record Ends (message : ℕ) (b : List ℕ) (e : ℕ) : Type 0 where
  pub inside : e ≤ length b
  pub most : e ≤ 433
  pub least : fixed_size message ≤ e

module _ (message : ℕ) where
  tail_end : List ℕ → ℕ
  tail_end b = after (fixed_size message) (lists_end message (get_or b (fixed_size message - 1) 0) (drop (fixed_size message) b))

  pub body-ends : (b : List ℕ) (e : ℕ) → fixed_size message ≤ length b → body_end message b ≡ suc e → Ends message b e
  unfolding body_end tail_end
  body-ends b e l h = by (eqb (fixed_size message) 0) refl h
    where
      by : (c : Bool) → eqb (fixed_size message) 0 ≡ c → cond c 1 (cond (flag_good message b) (tail_end b) 0) ≡ suc e → Ends message b e
      by true q k =
          let z : fixed_size message ≡ 0 = eqb-true _ _ q in
          record { inside = omega (arith, k); most = omega (arith, k); least = omega arith }
      by false q k =
          let n : fixed_size message ≡ 0 → ⊥ = eqb-false _ _ q in
          let y = taken_by (flag_good message b) (tail_end b) e k in
          let i = counted_inside 366 (fixed_size message) (fixed_size message - 1) (lists_end message) (lists-steady message) (omega arith) b e l y.1 in
          record { inside = i.0; most = omega (arith, i.1, fixed_small message); least = i.2 }

  -- BODY STEADY: a body that ends with p is the same whatever stands after p
  pub body-steady : (p u v : List ℕ) → body_end message (p ++ u) ≡ suc (length p) → body_end message (p ++ v) ≡ suc (length p)
  unfolding body_end tail_end
  body-steady p u v h = by (eqb (fixed_size message) 0) refl h
    where
      by : (c : Bool) → eqb (fixed_size message) 0 ≡ c → cond c 1 (cond (flag_good message (p ++ u)) (tail_end (p ++ u)) 0) ≡ suc (length p)
          → cond c 1 (cond (flag_good message (p ++ v)) (tail_end (p ++ v)) 0) ≡ suc (length p)
      by true q k = k
      by false q k =
          let n : fixed_size message ≡ 0 → ⊥ = eqb-false _ _ q in
          let y = taken_by (flag_good message (p ++ u)) (tail_end (p ++ u)) (length p) k in
          let r = counted_same 366 (fixed_size message) (fixed_size message - 1) (lists_end message) (lists-steady message) (omega arith) p u v y.1 in
          let f : flag_good message (p ++ v) ≡ true = flag-front p v message r.0 ∙ sym (flag-front p u message r.0) ∙ y.0 in
          rw f r.1

-- ---- reading

-- what holds of a message that is read
pub record Good (m : List ℕ) : Type 0 where
  pub known : (of_member (type_of m) || of_venue (type_of m)) ≡ true
  pub unit : unit_of m ≡ 0
  pub number : number_of m ≡ 0
  pub there : 10 + fixed_size (type_of m) ≤ length m
  pub values : values_good (type_of m) (drop 10 m) ≡ true
  pub total : body_end (type_of m) (drop 10 m) ≡ suc (length (drop 10 m))

pub good : (m : List ℕ) → read_refusal m ≡ 0 → Good m
unfolding read_refusal
good m z =
    let p4 = passed (not (of_member (type_of m) || of_venue (type_of m))) _ _ z in
    let p5 = passed (not (unit_good (unit_of m) (number_of m))) _ _ p4.1 in
    let p6 = passed_told (ltb (length m) (10 + fixed_size (type_of m))) _ _ _ p5.1 in
    let p10 = passed_told (not (values_good (type_of m) (drop 10 m))) _ _ _ p6.1 in
    let p11 = passed (eqb (body_end (type_of m) (drop 10 m)) 0) _ _ p10.1 in
    let pt = passed_told (not (eqb (body_end (type_of m) (drop 10 m)) (length (drop 10 m) + 1))) _ _ _ p11.1 in
    let u = both_true (eqb (unit_of m) 0) (eqb (number_of m) 0) (not-false _ p5.0) in
    let e : body_end (type_of m) (drop 10 m) ≡ length (drop 10 m) + 1 = eqb-true _ _ (not-false _ pt.0) in
    record {
      known = not-false _ p4.0;
      unit = eqb-true _ _ u.0;
      number = eqb-true _ _ u.1;
      there = ltb-false _ _ p6.0;
      values = not-false _ p10.0;
      total = omega (arith, e);
    }

-- and what is so is read
pub is_read : (m : List ℕ) → Good m → read_refusal m ≡ 0
unfolding read_refusal
is_read m g =
    let n : body_end (type_of m) (drop 10 m) ≡ 0 → ⊥ = λ q. omega (arith, g.total, q) in
    rw (
      g.known,
      eq-eqb (unit_of m) 0 g.unit,
      eq-eqb (number_of m) 0 g.number,
      le-ltb (length m) (10 + fixed_size (type_of m)) g.there,
      g.values,
      ne_eqb (body_end (type_of m) (drop 10 m)) 0 n,
      eq-eqb (body_end (type_of m) (drop 10 m)) (length (drop 10 m) + 1) (omega (arith, g.total)),
    )

-- a header alone has no values
no_values : (message : ℕ) (b : List ℕ) → fixed_size message ≡ 0 → values_good message b ≡ true
unfolding fixed_size values_good
no_values message b h = by (eqb message 0x37) (eqb message 0x24) (eqb message 0x08) h
  where
    by : (x y z : Bool) → ◌≡◌ {A = ℕ} (cond x 19 (cond y 67 (cond z 66 0))) 0 → cond x (names_good b) (cond y (status_good b) (cond z (reason_good b) true)) ≡ true
    by true y z q = absurd (omega (arith, q))
    by false true z q = absurd (omega (arith, q))
    by false false true q = absurd (omega (arith, q))
    by false false false q = refl

-- A HEADER ALONE: a heartbeat or Replay Complete with unit and number 0 is 6 unless it has ten bytes
pub header-alone : (m : List ℕ) → (of_member (type_of m) || of_venue (type_of m)) ≡ true → unit_of m ≡ 0 → number_of m ≡ 0 → fixed_size (type_of m) ≡ 0
    → read_refusal m ≡ cond (eqb (length m) 10) 0 (told wrong_total (total_of m))
unfolding read_refusal body_end
header-alone m k u n f =
    rw (k, eq-eqb (unit_of m) 0 u, eq-eqb (number_of m) 0 n, f, no_values (type_of m) (drop 10 m) f) (by (eqb (length m) 10) (ltb (length m) 10) refl refl)
  where
    by : (a b : Bool) → eqb (length m) 10 ≡ a → ltb (length m) 10 ≡ b → cond b (told wrong_total (total_of m)) (cond (not (eqb 1 (length (drop 10 m) + 1))) (told wrong_total (total_of m)) 0) ≡ cond a 0 (told wrong_total (total_of m))
    by true true p q = absurd (omega (arith, eqb-true (length m) 10 p, ltb-true (length m) 10 q))
    by true false p q = rw (eq-eqb 1 (length (drop 10 m) + 1) (omega (arith, eqb-true (length m) 10 p, length-drop 10 m)))
    by false true p q = refl
    by false false p q =
        let n : length m ≡ 10 → ⊥ = eqb-false (length m) 10 p in
        rw (ne_eqb 1 (length (drop 10 m) + 1) (λ z. omega (arith, n, ltb-false (length m) 10 q, length-drop 10 m, z)))

-- ---- writing

-- what holds of a body that is written
pub record Fit (message unit number : ℕ) (b : List ℕ) (room : ℕ) : Type 0 where
  pub known : (of_member message || of_venue message) ≡ true
  pub no_unit : unit ≡ 0
  pub no_number : number ≡ 0
  pub there : fixed_size message ≤ length b
  pub values : values_good message b ≡ true
  pub end : body_end message b ≡ suc (size_of message b)
  pub unused : all_nul (drop (size_of message b) b) ≡ true
  pub has_room : 10 + size_of message b ≤ room

passed_unused : (c b : Bool) (x : ℕ) → cond b (cond c not_zero bad_group) x ≡ 0 → (b ≡ false) × (x ≡ 0)
passed_unused true true x h = absurd (omega (arith, h))
passed_unused false true x h = absurd (omega (arith, h))
passed_unused c false x h = (refl, h)

one_less : (x : ℕ) → (x ≡ 0 → ⊥) → x ≡ suc (x - 1)
one_less x n = omega arith

pub fit : (message unit number : ℕ) (b : List ℕ) (room : ℕ) → write_refusal message unit number b room ≡ 0 → Fit message unit number b room
unfolding write_refusal
fit message unit number b room z =
    let p4 = passed (not (of_member message || of_venue message)) _ _ z in
    let p5 = passed (not (unit_good unit number)) _ _ p4.1 in
    let ps = passed (ltb (length b) (fixed_size message)) _ _ p5.1 in
    let p10 = passed_told (not (values_good message b)) _ _ _ ps.1 in
    let p11 = passed (eqb (body_end message b) 0) _ _ p10.1 in
    let pu = passed_unused (eqb (fixed_size message) 0) (not (all_nul (drop (size_of message b) b))) _ p11.1 in
    let p13 = passed (ltb room (10 + size_of message b)) _ _ pu.1 in
    let u = both_true (eqb unit 0) (eqb number 0) (not-false _ p5.0) in
    record {
      known = not-false _ p4.0;
      no_unit = eqb-true _ _ u.0;
      no_number = eqb-true _ _ u.1;
      there = ltb-false _ _ ps.0;
      values = not-false _ p10.0;
      end = one_less (body_end message b) (eqb-false _ _ p11.0);
      unused = not-false _ pu.0;
      has_room = ltb-false _ _ p13.0;
    }

-- and what is so is written
pub is_written : (message unit number : ℕ) (b : List ℕ) (room : ℕ) → Fit message unit number b room → write_refusal message unit number b room ≡ 0
unfolding write_refusal
is_written message unit number b room f =
    let n : body_end message b ≡ 0 → ⊥ = λ q. omega (arith, f.end, q) in
    rw (
      f.known,
      eq-eqb unit 0 f.no_unit,
      eq-eqb number 0 f.no_number,
      le-ltb (length b) (fixed_size message) f.there,
      f.values,
      ne_eqb (body_end message b) 0 n,
      f.unused,
      le-ltb room (10 + size_of message b) f.has_room,
    )
