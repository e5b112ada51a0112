-- What the places of 8 and 10 name, over any dictionary: the first bad bit and the first bad field, in message order. Assumes nothing.
use Rattle.std.specs.Prelude.{◌≡◌, Bool, not, cond, ◌&&◌, ◌||◌, List, [], ◌∷◌, ◌++◌, take, drop}
use Rattle.std.proofs.Math.Path.{refl, ap}
use Rattle.std.proofs.Common.{sym, ◌∙◌, true≢false, arith, drop-drop}
use Rattle.std.proofs.Math.Bool.{true, false}
use Prim.Native.Nat.{ℕ, zero, suc, ◌+◌, ◌/◌, ◌≤◌, ◌<◌}
use Rattle.std.proofs.Math.Dec.{eqb}
use borrow.Author.Tests.{ne_eqb, eqb-true, eqb-false}
use Rattle.kinds.specs.declared.Kind.{Kind}
use Rattle.kinds.specs.Kinds.{agrees_of}
use Rattle.dictionary.specs.declared.Entry.{Entry}
use Rattle.dictionary.specs.declared.Entry.TheVariants.{Refused, Field}
use Rattle.block.specs.Slots.{Slot, slot, takes, width, sum, bad_slot, any_bad, bad_byte, agree_slot, agree_sent, agree_held, wrong_sent, wrong_held}
use Rattle.block.specs.Places.{byte_at, slots_from}

-- ---- nothing is found exactly where nothing is bad

one_more : (n : ℕ) → eqb (n + 1) 0 ≡ false
one_more n = ne_eqb (n + 1) 0 (λ z. omega (arith, z))

-- here, or later
bad_more : (here later : ℕ) (b any : Bool) → not (eqb later 0) ≡ any → not (eqb (cond b (here + 1) later) 0) ≡ (b || any)
bad_more here later true any e = ap not (one_more here)
bad_more here later false any e = e

wrong_more : (here later : ℕ) (b all : Bool) → eqb later 0 ≡ all → eqb (cond b later (here + 1)) 0 ≡ (b && all)
wrong_more here later true all e = e
wrong_more here later false all e = one_more here

pub bad_found : (k : ℕ) (ss : List Slot) → not (eqb (bad_byte k ss) 0) ≡ any_bad ss
bad_found k [] = refl
bad_found k (s ∷ ss) = bad_more (k / 8) (bad_byte (suc k) ss) (bad_slot s) (any_bad ss) (bad_found (suc k) ss)

pub wrong_found : (at : ℕ) (ss : List Slot) (m : List ℕ) → eqb (wrong_sent at ss m) 0 ≡ agree_sent ss m
wrong_found at [] m = refl
wrong_found at (s ∷ ss) m = wrong_more at _ (agree_slot s m) _ (wrong_found (at + takes s) ss (drop (takes s) m))

pub held_found : (at : ℕ) (ss : List Slot) (v : List ℕ) → eqb (wrong_held at ss v) 0 ≡ agree_held ss v
held_found at [] v = refl
held_found at (s ∷ ss) v = wrong_more at _ (agree_slot s v) _ (held_found (at + takes s) ss (drop (width s) v))

-- ---- 8: the first bad bit

-- bitfield byte `byte` has the first set bit that is not listed, of n places from place k on
pub record BadBit (selected : ℕ → Bool) (entry : ℕ → Entry) (n k byte : ℕ) : Type 0 where
  pub place : ℕ
  pub from : k ≤ place
  pub below : place < k + n
  pub set : selected place ≡ true
  pub unlisted : entry place ≡ Refused
  pub earlier : (i : ℕ) → k ≤ i → i < place → bad_slot (slot (selected i) (entry i)) ≡ false
  pub told : byte ≡ byte_at place

module _ (selected : ℕ → Bool) (entry : ℕ → Entry) where
  -- a place is bad where its bit is set and not listed
  bad_is : (k : ℕ) → bad_slot (slot (selected k) (entry k)) ≡ true → (selected k ≡ true) × (entry k ≡ Refused)
  bad_is k h = by (selected k) (entry k) h
    where
      by : (b : Bool) (e : Entry) → bad_slot (slot b e) ≡ true → (b ≡ true) × (e ≡ Refused)
      by true Refused z = (refl, refl)
      by true (Field w kd p) z = absurd (true≢false (sym z))
      by false e z = absurd (true≢false (sym z))

  pub eight_names_the_first_bad_byte : (n k : ℕ) → any_bad (slots_from selected entry n k) ≡ true → BadBit selected entry n k (bad_byte k (slots_from selected entry n k))
  unfolding slots_from
  eight_names_the_first_bad_byte zero k h = absurd (true≢false (sym h))
  eight_names_the_first_bad_byte (suc n) k h = by (bad_slot (slot (selected k) (entry k))) refl h (eight_names_the_first_bad_byte n (suc k))
    where
      by : (b : Bool) → bad_slot (slot (selected k) (entry k)) ≡ b → (b || any_bad (slots_from selected entry n (suc k))) ≡ true → (any_bad (slots_from selected entry n (suc k)) ≡ true → BadBit selected entry n (suc k) (bad_byte (suc k) (slots_from selected entry n (suc k))))
          → BadBit selected entry (suc n) k (cond b (byte_at k) (bad_byte (suc k) (slots_from selected entry n (suc k))))
      by true e z more = record {
        place = k;
        from = omega arith;
        below = omega arith;
        set = (bad_is k e).0;
        unlisted = (bad_is k e).1;
        earlier = λ i l g. absurd (omega (arith, l, g));
        told = refl;
      }
      by false e z more =
          let t = more z in
          record {
            place = t.place;
            from = omega (arith, t.from);
            below = omega (arith, t.below);
            set = t.set;
            unlisted = t.unlisted;
            earlier = λ i l g. before_it t i l g;
            told = t.told;
          }
        where
          before_it : (t : BadBit selected entry n (suc k) (bad_byte (suc k) (slots_from selected entry n (suc k)))) (i : ℕ) → k ≤ i → i < t.place → bad_slot (slot (selected i) (entry i)) ≡ false
          before_it t i l g = go (eqb i k) refl
            where
              go : (c : Bool) → eqb i k ≡ c → bad_slot (slot (selected i) (entry i)) ≡ false
              go true q = ap (λ (j : ℕ). bad_slot (slot (selected j) (entry j))) (eqb-true i k q) ∙ e
              go false q = t.earlier i (omega (arith, l, eqb-false i k q)) g

-- ---- 10: the first bad field

-- byte `byte`, counted from 1 after `at` others, is the first of the first selected field of ss whose bytes in m are against its kind
pub record BadField (ss : List Slot) (m : List ℕ) (at byte : ℕ) : Type 0 where
  pub earlier : List Slot
  pub later : List Slot
  pub wide : ℕ
  pub kind : Kind
  pub home : ℕ
  pub split : ss ≡ earlier ++ (slot true (Field wide kind home) ∷ later)
  pub agree : agree_sent earlier m ≡ true
  pub against : agrees_of kind (take wide (drop (sum takes earlier) m)) ≡ false
  pub told : byte ≡ at + sum takes earlier + 1

pub ten_names_the_first_bad_field : (at : ℕ) (ss : List Slot) (m : List ℕ) → agree_sent ss m ≡ false → BadField ss m at (wrong_sent at ss m)
ten_names_the_first_bad_field at [] m h = absurd (true≢false h)
ten_names_the_first_bad_field at (s ∷ ss) m h = by s (agree_slot s m) refl h (ten_names_the_first_bad_field (at + takes s) ss (drop (takes s) m))
  where
    go_on : (x : Slot) → agree_slot x m ≡ true → BadField ss (drop (takes x) m) (at + takes x) (wrong_sent (at + takes x) ss (drop (takes x) m)) → BadField (x ∷ ss) m at (wrong_sent (at + takes x) ss (drop (takes x) m))
    go_on x e t = record {
      earlier = x ∷ t.earlier;
      later = t.later;
      wide = t.wide;
      kind = t.kind;
      home = t.home;
      split = ap (λ (l : List Slot). x ∷ l) t.split;
      agree = ap (λ (b : Bool). b && agree_sent t.earlier (drop (takes x) m)) e ∙ t.agree;
      against = ap (λ (l : List ℕ). agrees_of t.kind (take t.wide l)) (sym (drop_drop_plus (takes x) (sum takes t.earlier))) ∙ t.against;
      told = t.told ∙ omega arith;
    }
      where
        drop_drop_plus : (a b : ℕ) → drop b (drop a m) ≡ drop (a + b) m
        drop_drop_plus a b = drop-drop b a m

    by : (x : Slot) (b : Bool) → agree_slot x m ≡ b → (b && agree_sent ss (drop (takes x) m)) ≡ false
        → (agree_sent ss (drop (takes x) m) ≡ false → BadField ss (drop (takes x) m) (at + takes x) (wrong_sent (at + takes x) ss (drop (takes x) m)))
        → BadField (x ∷ ss) m at (cond b (wrong_sent (at + takes x) ss (drop (takes x) m)) (at + 1))
    by x true e z more = go_on x e (more z)
    by (slot true (Field w kd p)) false e z more =
        record { earlier = []; later = ss; wide = w; kind = kd; home = p; split = refl; agree = refl; against = e; told = omega arith }
    by (slot true Refused) false e z more = absurd (true≢false e)
    by (slot false x) false e z more = absurd (true≢false e)

-- the byte lies among those of the places
bad_below : (k n later : ℕ) (b : Bool) → later ≤ (suc k + n) / 8 + 1 → cond b (k / 8 + 1) later ≤ (k + suc n) / 8 + 1
bad_below k n later true h = omega arith
bad_below k n later false h = omega (arith, h)

pub bad_within : (selected : ℕ → Bool) (entry : ℕ → Entry) (n k : ℕ) → bad_byte k (slots_from selected entry n k) ≤ (k + n) / 8 + 1
unfolding slots_from
bad_within selected entry zero k = omega arith
bad_within selected entry (suc n) k = bad_below k n _ (bad_slot (slot (selected k) (entry k))) (bad_within selected entry n (suc k))

-- a place that is told lies among the bytes that the fields take
within_more : (at w n later : ℕ) (b : Bool) → later ≤ at + w + n + 1 → cond b later (at + 1) ≤ at + (w + n) + 1
within_more at w n later true h = omega (arith, h)
within_more at w n later false h = omega arith

pub wrong_within : (at : ℕ) (ss : List Slot) (m : List ℕ) → wrong_sent at ss m ≤ at + sum takes ss + 1
wrong_within at [] m = omega arith
wrong_within at (s ∷ ss) m = within_more at (takes s) (sum takes ss) _ (agree_slot s m) (wrong_within (at + takes s) ss (drop (takes s) m))

pub held-within : (at : ℕ) (ss : List Slot) (v : List ℕ) → wrong_held at ss v ≤ at + sum takes ss + 1
held-within at [] v = omega arith
held-within at (s ∷ ss) v = within_more at (takes s) (sum takes ss) _ (agree_slot s v) (held-within (at + takes s) ss (drop (width s) v))
