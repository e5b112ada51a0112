-- What is true of a walk over the places, whatever its state. Assumes nothing.
use Rattle.std.specs.Prelude.{◌≡◌, Bool, true, false, cond, List, [], ◌∷◌, eqb}
use Rattle.std.proofs.Math.Path.{refl, ap}
use Rattle.std.proofs.Common.{sym, ◌∙◌, suc-add, zero-add, eqb-true, ne_eqb}
use Prim.Native.Nat.{ℕ, zero, suc, ◌+◌, ◌≤◌, ◌<◌}
use Rattle.std.proofs.Math.Nat.{add-zero}
use native.Mathlib.Omega.{arith}
use Rattle.dictionary.specs.declared.Entry.{Entry}
use Rattle.block.specs.Slots.{Slot, slot}
use Rattle.block.specs.Places.{byte_at, slots_from}
use Rattle.block.specs.Walk.{pick, walk, first_of, worse_of}
use Rattle.block.specs.Sizes.{all_places}

module _ {S : Type 0} (selected : ℕ → Bool) (change : ℕ → S → S) where
  -- a walk is a walk and then the rest of it
  pub walk_add : (m n k : ℕ) (st : S) → walk selected change (m + n) k st ≡ walk selected change n (k + m) (walk selected change m k st)
  unfolding walk
  walk_add zero n k st = rw (zero-add n, add-zero k)
  walk_add (suc m) n k st =
      let e : suc k + m ≡ k + suc m = omega arith in
      rw (suc-add m n) (walk_add m n (suc k) (pick (selected k) (change k st) st))
      ∙ ap (λ (j : ℕ). walk selected change n j (walk selected change m (suc k) (pick (selected k) (change k st) st))) e

  -- unselected places leave the state
  pub walk_skip : (n k : ℕ) (st : S) → ((i : ℕ) → k ≤ i → i < k + n → selected i ≡ false) → walk selected change n k st ≡ st
  unfolding walk
  walk_skip zero k st z = refl
  walk_skip (suc n) k st z =
      ap (λ (b : Bool). walk selected change n (suc k) (pick b (change k st) st)) (z k (omega arith) (omega arith))
      ∙ walk_skip n (suc k) st (λ i h l. z i (omega arith) (omega arith))

-- nothing more is found
pub first-none : (found : ℕ) → first_of found 0 ≡ found
first-none found = by (eqb found 0) refl
  where
    by : (t : Bool) → eqb found 0 ≡ t → pick t 0 found ≡ found
    by true e = sym (eqb-true found 0 e)
    by false e = refl

-- what was found before stays, and what is found here is found before what comes later
pub first-here : (found here later : ℕ) → first_of (first_of found (here + 1)) later ≡ first_of found (here + 1)
first-here found here later = by (eqb found 0) refl
  where
    by : (t : Bool) → eqb found 0 ≡ t → first_of (pick t (here + 1) found) later ≡ pick t (here + 1) found
    by true e = ap (λ (b : Bool). pick b later (here + 1)) (ne_eqb (here + 1) 0 (λ z. omega (arith, z)))
    by false e = ap (λ (b : Bool). pick b later found) e

-- a field more: it is the first that is against its kind, or a later one is
pub worse_is : (at wrong later : ℕ) (a : Bool) → first_of (worse_of at wrong a) later ≡ first_of wrong (cond a later (at + 1))
worse_is at wrong later true = refl
worse_is at wrong later false = first-here wrong at later

-- a walk and the slots that it passes go together: what holds of no slot, and of one slot more in front, holds of them all
pub walk_slots : {S : Type 0} (selected : ℕ → Bool) (entry : ℕ → Entry) (change : ℕ → Entry → S → S) (R : List Slot → ℕ → S → S → Type 0)
    → ((k : ℕ) (st : S) → R [] k st st)
    → ((k : ℕ) → k < all_places → (b : Bool) (ss : List Slot) (st r : S) → R ss (suc k) (pick b (change (byte_at k) (entry k) st) st) r → R (slot b (entry k) ∷ ss) k st r)
    → (n k : ℕ) (st : S) → k + n ≤ all_places → R (slots_from selected entry n k) k st (walk selected (λ (i : ℕ). change (byte_at i) (entry i)) n k st)
unfolding walk slots_from
walk_slots selected entry change R none one zero k st h = none k st
walk_slots selected entry change R none one (suc n) k st h =
    one k (omega arith) (selected k) (slots_from selected entry n (suc k)) st (walk selected (λ (i : ℕ). change (byte_at i) (entry i)) n (suc k) (pick (selected k) (change (byte_at k) (entry k) st) st))
    (walk_slots selected entry change R none one n (suc k) (pick (selected k) (change (byte_at k) (entry k) st) st) (omega arith))
