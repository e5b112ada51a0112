-- The optional block over any slots: any dictionary of widths and any bits set.
--     back       a message's optional bytes, spread and gathered, are those bytes
--     forth      a layout whose unselected slots are zero, gathered and spread, is that layout
--     field_at   a selected field starts at the summed widths of all earlier set bits
-- Assumes nothing.
use Rattle.std.specs.Prelude.{◌≡◌, refl, Bool, true, false, ◌&&◌, List, [], ◌∷◌, ◌++◌, ℕ, zero, suc, ◌+◌, ◌-◌, ◌≤◌, eqb, length, take, drop}
use Rattle.std.proofs.Common.{sym, ap, ap₂, ◌∙◌, append_assoc, zero-add, arith, length-append, length-drop, take-append-drop, length-take-le, take_at, drop_at, drop-drop, eqb-true}
use Rattle.std.proofs.Math.Nat.{sub-zero, zero-sub, suc-sub-suc}
use Rattle.std.proofs.lemmas.List.{length-replicate, take-append-le, drop-append-le}
use Rattle.kinds.specs.Kinds.{all_nul, agrees_of}
use Rattle.numbers.specs.Numbers.{patched}
use Rattle.dictionary.specs.declared.Entry.{Entry}
use Rattle.dictionary.specs.declared.Entry.TheVariants.{Refused, Field}
use Rattle.block.specs.Slots.{zeros, Slot, slot, width_of, width, takes, sum, spread, gathered, agree_slot, agree_sent, agree_held, zero_elsewhere}

-- ---- zeros

pub length-zeros : (n : ℕ) → length (zeros n) ≡ n
length-zeros n = length-replicate n 0

pub both_true : (a b : Bool) → (a && b) ≡ true → (a ≡ true) × (b ≡ true)
both_true true b h = (refl, h)
both_true false b h = let z : ◌≡◌ {A = ℕ} 0 1 = cc in absurd (omega arith)

-- bytes that are all NUL are zeros
pub nul_is_zeros : (v : List ℕ) → all_nul v ≡ true → v ≡ zeros (length v)
nul_is_zeros [] h = refl
nul_is_zeros (b ∷ v) h =
    let e = both_true (eqb b 0) (all_nul v) h in
    ap₂ (λ (x : ℕ) (t : List ℕ). x ∷ t) (eqb-true b 0 e.0) (nul_is_zeros v e.1)

-- and zeros are all NUL
pub zeros_are_nul : (n : ℕ) → all_nul (zeros n) ≡ true
zeros_are_nul zero = refl
zeros_are_nul (suc n) = zeros_are_nul n

-- what is left of zeros is zeros
pub drop-zeros : (k n : ℕ) → drop k (zeros n) ≡ zeros (n - k)
drop-zeros zero n = ap (λ (i : ℕ). zeros i) (sym (sub-zero n))
drop-zeros (suc k) zero = ap (λ (i : ℕ). zeros i) (sym (zero-sub (suc k)))
drop-zeros (suc k) (suc n) = drop-zeros k n ∙ ap (λ (i : ℕ). zeros i) (sym (suc-sub-suc n k))

-- bytes put at the front of zeros are followed by zeros
pub put_in_zeros : (n : ℕ) (f : List ℕ) → patched (zeros n) 0 f ≡ f ++ zeros (n - length f)
unfolding patched
put_in_zeros n f = ap (λ (i : ℕ). f ++ drop i (zeros n)) (zero-add (length f)) ∙ ap (λ (l : List ℕ). f ++ l) (drop-zeros (length f) n)

-- a list of k bytes that are NUL from place n on is its first n bytes and zeros
pub zeros-after : (n k : ℕ) (l : List ℕ) → length l ≡ k → all_nul (drop n l) ≡ true → take n l ++ zeros (k - n) ≡ l
zeros-after n k l e z =
    let d : length (drop n l) ≡ k - n = length-drop n l ∙ ap (λ (x : ℕ). x - n) e in
    ap (λ (x : List ℕ). take n l ++ x) (sym (nul_is_zeros (drop n l) z ∙ ap zeros d)) ∙ take-append-drop n l

-- ---- lengths

pub spread-length : (ss : List Slot) (m : List ℕ) → sum takes ss ≤ length m → length (spread ss m) ≡ sum width ss
spread-length [] m h = refl
spread-length (slot true e ∷ ss) m h =
    length-append (take (width_of e) m) _
    ∙ ap₂ (λ (x y : ℕ). x + y) (length-take-le (width_of e) m (omega arith)) (spread-length ss (drop (width_of e) m) (simp length-drop (omega arith)))
spread-length (slot false e ∷ ss) m h =
    length-append (zeros (width_of e)) _
    ∙ ap₂ (λ (x y : ℕ). x + y) (length-zeros (width_of e)) (spread-length ss m (omega arith))

pub gathered-length : (ss : List Slot) (v : List ℕ) → sum width ss ≤ length v → length (gathered ss v) ≡ sum takes ss
gathered-length [] v h = refl
gathered-length (slot true e ∷ ss) v h =
    length-append (take (width_of e) v) _
    ∙ ap₂ (λ (x y : ℕ). x + y) (length-take-le (width_of e) v (omega arith)) (gathered-length ss (drop (width_of e) v) (simp length-drop (omega arith)))
gathered-length (slot false e ∷ ss) v h = gathered-length ss (drop (width_of e) v) (simp length-drop (omega arith)) ∙ sym (zero-add (sum takes ss))

-- a measure of slots and then others is that of the ones and that of the others
pub sum_append : (f : Slot → ℕ) (xs ys : List Slot) → sum f (xs ++ ys) ≡ sum f xs + sum f ys
sum_append f [] ys = sym (zero-add (sum f ys))
sum_append f (x ∷ xs) ys = let h = sum_append f xs ys in omega arith

-- what the selected slots take is at most what all slots take
pub takes-below : (ss : List Slot) → sum takes ss ≤ sum width ss
takes-below [] = omega arith
takes-below (slot true e ∷ ss) = let h = takes-below ss in omega arith
takes-below (slot false e ∷ ss) = let h = takes-below ss in omega arith

-- ---- the round trip

empty : (m : List ℕ) → length m ≡ 0 → [] ≡ m
empty [] h = refl
empty (x ∷ m) h = absurd (omega arith)

-- what follows a layout's slots plays no part in what is gathered
pub gathered-front : (ss : List Slot) (v t : List ℕ) → sum width ss ≤ length v → gathered ss (v ++ t) ≡ gathered ss v
gathered-front [] v t h = refl
gathered-front (slot true e ∷ ss) v t h =
    ap₂ (λ (x y : List ℕ). x ++ gathered ss y) (take-append-le (width_of e) v t (omega arith)) (drop-append-le (width_of e) v t (omega arith))
    ∙ ap (λ (x : List ℕ). take (width_of e) v ++ x) (gathered-front ss (drop (width_of e) v) t (simp length-drop (omega arith)))
gathered-front (slot false e ∷ ss) v t h =
    ap (gathered ss) (drop-append-le (width_of e) v t (omega arith)) ∙ gathered-front ss (drop (width_of e) v) t (simp length-drop (omega arith))

pub back : (ss : List Slot) (m : List ℕ) → length m ≡ sum takes ss → gathered ss (spread ss m) ≡ m
back [] m h = empty m h
back (slot true e ∷ ss) m h =
    let w = width_of e in
    let r : List ℕ = spread ss (drop w m) in
    let l : length (take w m) ≡ w = length-take-le w m (omega arith) in
    ap₂ (λ (x y : List ℕ). x ++ gathered ss y) (take_at (take w m) r w l) (drop_at (take w m) r w l)
    ∙ ap (λ (x : List ℕ). take w m ++ x) (back ss (drop w m) (length-drop w m ∙ omega arith))
    ∙ take-append-drop w m
back (slot false e ∷ ss) m h =
    ap (gathered ss) (drop_at (zeros (width_of e)) (spread ss m) (width_of e) (length-zeros (width_of e)))
    ∙ back ss m (omega arith)

-- the layout that reading makes, with zeros after the last slot
pub forth : (ss : List Slot) (v : List ℕ) → sum width ss ≤ length v → zero_elsewhere ss v ≡ true
    → spread ss (gathered ss v) ++ zeros (length v - sum width ss) ≡ v
forth [] v h z = let e : length v - 0 ≡ length v = omega arith in rw e (sym (nul_is_zeros v z))
forth (slot true e ∷ ss) v h z =
    let w = width_of e in
    let r : List ℕ = gathered ss (drop w v) in
    let l : length (take w v) ≡ w = length-take-le w v (omega arith) in
    let d : length (drop w v) ≡ length v - w = length-drop w v in
    let n : length v - (w + sum width ss) ≡ length (drop w v) - sum width ss = omega arith in
    let eq : take w (take w v ++ r) ++ spread ss (drop w (take w v ++ r)) ≡ take w v ++ spread ss r =
    ap₂ (λ (x y : List ℕ). x ++ spread ss y) (take_at (take w v) r w l) (drop_at (take w v) r w l) in
    ap₂ (λ (x : List ℕ) (i : ℕ). x ++ zeros i) eq n
    ∙ append_assoc (take w v) (spread ss r) (zeros (length (drop w v) - sum width ss))
    ∙ ap (λ (x : List ℕ). take w v ++ x) (forth ss (drop w v) (omega arith) z)
    ∙ take-append-drop w v
forth (slot false e ∷ ss) v h z =
    let w = width_of e in
    let zz = both_true (all_nul (take w v)) (zero_elsewhere ss (drop w v)) z in
    let l : length (take w v) ≡ w = length-take-le w v (omega arith) in
    let d : length (drop w v) ≡ length v - w = length-drop w v in
    let n : length v - (w + sum width ss) ≡ length (drop w v) - sum width ss = omega arith in
    let front : zeros w ≡ take w v = sym (nul_is_zeros (take w v) zz.0 ∙ ap (λ (i : ℕ). zeros i) l) in
    append_assoc (zeros w) (spread ss (gathered ss (drop w v))) (zeros (length v - (w + sum width ss)))
    ∙ ap₂ (λ (x : List ℕ) (i : ℕ). x ++ (spread ss (gathered ss (drop w v)) ++ zeros i)) front n
    ∙ ap (λ (x : List ℕ). take w v ++ x) (forth ss (drop w v) (omega arith) zz.1)
    ∙ take-append-drop w v

-- what reading makes is zero where nothing is selected
pub spread-zero : (ss : List Slot) (m : List ℕ) (n : ℕ) → sum takes ss ≤ length m → zero_elsewhere ss (spread ss m ++ zeros n) ≡ true
spread-zero [] m n h = zeros_are_nul n
spread-zero (slot true e ∷ ss) m n h =
    let w = width_of e in
    let l : length (take w m) ≡ w = length-take-le w m (omega arith) in
    ap (zero_elsewhere ss) (ap (drop w) (append_assoc (take w m) (spread ss (drop w m)) (zeros n)) ∙ drop_at (take w m) (spread ss (drop w m) ++ zeros n) w l)
    ∙ spread-zero ss (drop w m) n (simp length-drop (omega arith))
spread-zero (slot false e ∷ ss) m n h =
    let w = width_of e in
    let l : length (zeros w) ≡ w = length-zeros w in
    let q : (zeros w ++ spread ss m) ++ zeros n ≡ zeros w ++ (spread ss m ++ zeros n) = append_assoc (zeros w) (spread ss m) (zeros n) in
    ap₂ (λ (a b : Bool). a && b)
    (ap (λ (x : List ℕ). all_nul (take w x)) q ∙ ap all_nul (take_at (zeros w) (spread ss m ++ zeros n) w l) ∙ zeros_are_nul w)
    (ap (λ (x : List ℕ). zero_elsewhere ss (drop w x)) q ∙ ap (zero_elsewhere ss) (drop_at (zeros w) (spread ss m ++ zeros n) w l) ∙ spread-zero ss m n (omega arith))

-- ---- kinds: the message's bytes and the layout's say the same

agree_taken : (e : Entry) (m t : List ℕ) → width_of e ≤ length m → agree_slot (slot true e) (take (width_of e) m ++ t) ≡ agree_slot (slot true e) m
agree_taken (Field w k p) m t h = ap (agrees_of k) (take_at (take w m) t w (length-take-le w m h))
agree_taken Refused m t h = refl

pub agree_spread : (ss : List Slot) (m t : List ℕ) → sum takes ss ≤ length m → agree_held ss (spread ss m ++ t) ≡ agree_sent ss m
agree_spread [] m t h = refl
agree_spread (slot true e ∷ ss) m t h =
    let w = width_of e in
    let l : length (take w m) ≡ w = length-take-le w m (omega arith) in
    let q : (take w m ++ spread ss (drop w m)) ++ t ≡ take w m ++ (spread ss (drop w m) ++ t) = append_assoc (take w m) (spread ss (drop w m)) t in
    ap₂ (λ (a b : Bool). a && b)
    (ap (agree_slot (slot true e)) q ∙ agree_taken e m (spread ss (drop w m) ++ t) (omega arith))
    (ap (λ (x : List ℕ). agree_held ss (drop w x)) q ∙ ap (agree_held ss) (drop_at (take w m) (spread ss (drop w m) ++ t) w l) ∙ agree_spread ss (drop w m) t (simp length-drop (omega arith)))
agree_spread (slot false e ∷ ss) m t h =
    let w = width_of e in
    let q : (zeros w ++ spread ss m) ++ t ≡ zeros w ++ (spread ss m ++ t) = append_assoc (zeros w) (spread ss m) t in
    ap (λ (x : List ℕ). agree_held ss (drop w x)) q
    ∙ ap (agree_held ss) (drop_at (zeros w) (spread ss m ++ t) w (length-zeros w))
    ∙ agree_spread ss m t (omega arith)

pub agree_gathered : (ss : List Slot) (v t : List ℕ) → sum width ss ≤ length v → agree_sent ss (gathered ss v ++ t) ≡ agree_held ss v
agree_gathered [] v t h = refl
agree_gathered (slot true e ∷ ss) v t h =
    let w = width_of e in
    let l : length (take w v) ≡ w = length-take-le w v (omega arith) in
    let q : (take w v ++ gathered ss (drop w v)) ++ t ≡ take w v ++ (gathered ss (drop w v) ++ t) = append_assoc (take w v) (gathered ss (drop w v)) t in
    ap₂ (λ (a b : Bool). a && b)
    (ap (agree_slot (slot true e)) q ∙ agree_taken e v (gathered ss (drop w v) ++ t) (omega arith))
    (ap (λ (x : List ℕ). agree_sent ss (drop w x)) q ∙ ap (agree_sent ss) (drop_at (take w v) (gathered ss (drop w v) ++ t) w l) ∙ agree_gathered ss (drop w v) t (simp length-drop (omega arith)))
agree_gathered (slot false e ∷ ss) v t h = agree_gathered ss (drop (width_of e) v) t (simp length-drop (omega arith))

-- ---- where a field stands

-- the slots before a selected one and the slots after it
module _ (e : Entry) (ys : List Slot) where
  -- in the message's optional bytes a field starts at the summed widths of all earlier set bits, and in the layout at those of all earlier slots
  pub field_at : (xs : List Slot) (v : List ℕ) → sum width xs + width_of e ≤ length v
      → take (width_of e) (drop (sum takes xs) (gathered (xs ++ (slot true e ∷ ys)) v)) ≡ take (width_of e) (drop (sum width xs) v)
  field_at [] v h = take_at (take (width_of e) v) (gathered ys (drop (width_of e) v)) (width_of e) (length-take-le (width_of e) v (omega arith))
  field_at (slot true x ∷ xs) v h =
      let w = width_of x in
      let l : length (take w v) ≡ w = length-take-le w v (omega arith) in
      let r = gathered (xs ++ (slot true e ∷ ys)) (drop w v) in
      ap (take (width_of e))
      (sym (drop-drop (sum takes xs) w (take w v ++ r)) ∙ ap (drop (sum takes xs)) (drop_at (take w v) r w l))
      ∙ field_at xs (drop w v) (simp length-drop (omega arith))
      ∙ ap (take (width_of e)) (drop-drop (sum width xs) w v)
  field_at (slot false x ∷ xs) v h =
      let w = width_of x in
      let z : 0 + sum takes xs ≡ sum takes xs = zero-add (sum takes xs) in
      ap (λ (n : ℕ). take (width_of e) (drop n (gathered (xs ++ (slot true e ∷ ys)) (drop w v)))) z
      ∙ field_at xs (drop w v) (simp length-drop (omega arith))
      ∙ ap (take (width_of e)) (drop-drop (sum width xs) w v)
