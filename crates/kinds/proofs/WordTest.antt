-- The test of a word: a lane has a flaw where its byte is 128 or more, or where it or the byte after it is not NUL and the kind does not allow it.
-- A word has none exactly where its bytes agree with the kind: by induction on the lanes, of which the test of the lanes above the first is the same
-- test. Assumes nothing.
use mathlib.Core.Path.{◌≡◌, refl, ap, ap₂, ◌∙◌}
use mathlib.Core.Bool.{Bool, true, false, not, cond, ◌&&◌, ◌||◌, or-true}
use mathlib.Core.List.{List}
use Prim.Native.Nat.{ℕ, zero, suc, ◌+◌, ◌*◌, ◌/◌, ◌%◌, ◌≤◌, ◌<◌}
use native.Mathlib.Omega.{arith}
use lib.Bits.{bit_and, bit_or, bit_xor, and_zero_r, and_high, and_shr, or_shr, xor_shr, and_mod, or_mod, xor_mod}
use lib.Dec.{leb, eqb}
use borrow.Author.Tests.{leb-true, leb-false, eqb-true, eqb-false, eq-eqb, ne_eqb}
use Rattle.numbers.specs.Numbers.{bytes_of}
use Rattle.kinds.specs.declared.Kind.{Kind}
use Rattle.kinds.specs.Kinds.{allowed, all_nul, agrees_text}
use Rattle.kinds.specs.Words.{lanes, bit, Marks}
use Rattle.kinds.proofs.Lanes.{differs, lane_low, lane_up, seven_low, seven_up, high_bit, and_bit, or_bit, xor_bit}

-- ---- no lane is marked

clear : ℕ → ℕ → Bool
clear zero w = true
clear (suc n) w = eqb (w / 128 % 2) 0 && clear n (w / 256)

-- a number whose lowest lane is t times 128 is zero where t and the lanes above are
zero_by : (z t u : ℕ) → z / 256 ≡ u → z % 256 ≡ t * 128 → eqb z 0 ≡ (eqb t 0 && eqb u 0)
zero_by z t u up low = by (eqb t 0) (eqb u 0) refl refl
  where
    by : (r s : Bool) → eqb t 0 ≡ r → eqb u 0 ≡ s → eqb z 0 ≡ (r && s)
    by true true e f =
        let a : t ≡ 0 = eqb-true _ _ e in
        let b : u ≡ 0 = eqb-true _ _ f in
        eq-eqb z 0 (omega arith)
    by true false e f = ne_eqb z 0 (λ (g : z ≡ 0). eqb-false u 0 f (omega arith))
    by false s e f = ne_eqb z 0 (λ (g : z ≡ 0). eqb-false t 0 e (omega arith))

clear_is : (n w : ℕ) → eqb (bit_and w (lanes n 128)) 0 ≡ clear n w
unfolding clear
clear_is zero w = rw (and_zero_r w)
clear_is (suc n) w =
    let up : bit_and w (lanes (suc n) 128) / 256 ≡ bit_and (w / 256) (lanes n 128) =
    and_shr w (lanes (suc n) 128) 8 ∙ ap (bit_and (w / 256)) (lane_up 128 (lanes n 128) (omega arith)) in
    let low : bit_and w (lanes (suc n) 128) % 256 ≡ w / 128 % 2 * 128 =
    and_mod w (lanes (suc n) 128) 8
    ∙ ap (bit_and (w % 256)) (lane_low 128 (lanes n 128) (omega arith))
    ∙ and_high (w % 256) 1 7
    ∙ omega arith in
    zero_by _ (w / 128 % 2) _ up low ∙ ap (λ t. eqb (w / 128 % 2) 0 && t) (clear_is n (w / 256))

-- ---- flaws

-- the lanes that are not NUL, marked
unfoldable pub filled : ℕ → ℕ → ℕ
filled n x = bit_and x (lanes n 127) + lanes n 127

-- the lanes with a flaw, marked, where g marks those with a character
unfoldable pub flaws : ℕ → ℕ → ℕ → ℕ
unfolding filled
flaws n x g = bit_or (bit_and (bit_or (filled n x / 256) (filled n x)) (bit_xor g (lanes n 255))) x

module _ (n x : ℕ) where
  filled_up : filled (suc n) x / 256 ≡ filled n (x / 256)
  unfolding filled
  filled_up =
      let a = seven_low n x in
      let b = seven_up n x in
      let y = bit_and x (lanes (suc n) 127) in
      rw (← b) (omega arith)

  filled-bit : filled (suc n) x / 128 % 2 ≡ bit (not (eqb (x % 128) 0))
  unfolding filled
  filled-bit = by (eqb (x % 128) 0) refl
    where
      by : (t : Bool) → eqb (x % 128) 0 ≡ t → filled (suc n) x / 128 % 2 ≡ bit (not t)
      by true e = let a = seven_low n x in let b : x % 128 ≡ 0 = eqb-true _ _ e in omega arith
      by false e = let a = seven_low n x in let b : x % 128 ≡ 0 → ⊥ = eqb-false _ _ e in omega arith

-- whether the lowest of n lanes, if there is one, has a byte other than NUL and 128
next : ℕ → ℕ → Bool
next zero x = false
next (suc n) x = not (eqb (x % 128) 0)

next_bit : (n x : ℕ) → filled n x / 128 % 2 ≡ bit (next n x)
unfolding filled next
next_bit zero x = rw (and_zero_r x)
next_bit (suc n) x = filled-bit n x

-- a flaw of a lane: its byte is not below 128, or no character though it or the next is not NUL
flaw : Bool → Bool → Bool → Bool → Bool
flaw after this character high = ((after || this) && not character) || high

module _ (n x g : ℕ) where
  flaws_up : flaws (suc n) x g / 256 ≡ flaws n (x / 256) (g / 256)
  unfolding flaws
  flaws_up =
      let f = filled (suc n) x in
      or_shr (bit_and (bit_or (f / 256) f) (bit_xor g (lanes (suc n) 255))) x 8
      ∙ ap (λ (w : ℕ). bit_or w (x / 256))
      (and_shr (bit_or (f / 256) f) (bit_xor g (lanes (suc n) 255)) 8
      ∙ ap₂ bit_and
      (or_shr (f / 256) f 8 ∙ ap (λ (w : ℕ). bit_or (w / 256) w) (filled_up n x))
      (xor_shr g (lanes (suc n) 255) 8 ∙ ap (bit_xor (g / 256)) (lane_up 255 (lanes n 255) (omega arith))))

  high_is : x / 128 % 2 ≡ bit (leb 128 (x % 256))
  high_is = by (leb 128 (x % 256)) refl
    where
      by : (t : Bool) → leb 128 (x % 256) ≡ t → x / 128 % 2 ≡ bit t
      by true e = let l : 128 ≤ x % 256 = leb-true _ _ e in omega arith
      by false e = let l : x % 256 < 128 = leb-false _ _ e in omega arith

  flaws-bit : (c : Bool) → g / 128 % 2 ≡ bit c → flaws (suc n) x g / 128 % 2 ≡ bit (flaw (next n (x / 256)) (not (eqb (x % 128) 0)) c (leb 128 (x % 256)))
  unfolding flaws flaw
  flaws-bit c e =
      let f = filled (suc n) x in
      let a = next n (x / 256) in
      let b = not (eqb (x % 128) 0) in
      let after : f / 256 / 128 % 2 ≡ bit (next n (x / 256)) = ap (λ (w : ℕ). w / 128 % 2) (filled_up n x) ∙ next_bit n (x / 256) in
      let ones : lanes (suc n) 255 / 128 % 2 ≡ bit true = omega arith in
      high_bit bit_or or_shr or_mod (bit_and (bit_or (f / 256) f) (bit_xor g (lanes (suc n) 255))) x
      ∙ ap₂ bit_or
      (high_bit bit_and and_shr and_mod (bit_or (f / 256) f) (bit_xor g (lanes (suc n) 255))
      ∙ ap₂ bit_and
      (high_bit bit_or or_shr or_mod (f / 256) f ∙ ap₂ bit_or after (filled-bit n x) ∙ or_bit a b)
      (high_bit bit_xor xor_shr xor_mod g (lanes (suc n) 255) ∙ ap₂ bit_xor e ones ∙ xor_bit c true ∙ ap bit (with-true c))
      ∙ and_bit (a || b) (not c))
      high_is
      ∙ or_bit ((a || b) && not c) (leb 128 (x % 256))
    where
      with-true : (t : Bool) → differs t true ≡ not t
      with-true true = refl
      with-true false = refl

-- ---- the bytes of a word without flaws

flaw_high : (a t c : Bool) → not (flaw a t c true) ≡ false
unfolding flaw
flaw_high a t c = rw (or-true ((a || t) && not c))

flaw_nul : (a : Bool) → not (flaw a false false false) ≡ not a
unfolding flaw
flaw_nul true = refl
flaw_nul false = refl

flaw_filled : (a c : Bool) → not (flaw a true c false) ≡ c
unfolding flaw
flaw_filled true true = refl
flaw_filled true false = refl
flaw_filled false true = refl
flaw_filled false false = refl

clear-bit : (t : Bool) → eqb (bit t) 0 ≡ not t
clear-bit true = refl
clear-bit false = refl

module _ (k : Kind) (none : allowed k 0 ≡ false) (high : (b : ℕ) → 128 ≤ b → allowed k b ≡ false) where
  -- after a NUL: where the next byte, if below 128, is NUL too and the rest agrees, all is NUL
  after_nul : (n x : ℕ) → (not (next n x) && agrees_text k (bytes_of n x)) ≡ all_nul (bytes_of n x)
  unfolding next
  after_nul zero x = refl
  after_nul (suc n) x = by (eqb (x % 256) 0) refl
    where
      rest : List ℕ
      rest = bytes_of n (x / 256)

      by : (t : Bool) → eqb (x % 256) 0 ≡ t → (not (not (eqb (x % 128) 0)) && cond t (all_nul rest) (allowed k (x % 256) && agrees_text k rest)) ≡ (t && all_nul rest)
      by true e = let z : x % 256 ≡ 0 = eqb-true _ _ e in rw (eq-eqb (x % 128) 0 (omega arith))
      by false e = odd (eqb (x % 128) 0) refl
        where
          odd : (t : Bool) → eqb (x % 128) 0 ≡ t → (not (not t) && (allowed k (x % 256) && agrees_text k rest)) ≡ false
          odd true f =
              let z : x % 128 ≡ 0 = eqb-true _ _ f in
              rw (high (x % 256) (omega (arith, eqb-false (x % 256) 0 e)))
          odd false f = refl

  -- one lane
  lane : (n x : ℕ)
      → (not (flaw (next n (x / 256)) (not (eqb (x % 128) 0)) (allowed k (x % 128)) (leb 128 (x % 256))) && agrees_text k (bytes_of n (x / 256)))
      ≡ agrees_text k (bytes_of (suc n) x)
  lane n x = by (leb 128 (x % 256)) refl
    where
      rest : List ℕ
      rest = bytes_of n (x / 256)

      sum : Bool → Bool
      sum t = not (flaw (next n (x / 256)) (not (eqb (x % 128) 0)) (allowed k (x % 128)) t) && agrees_text k rest

      low : (t : Bool) → x % 128 ≡ x % 256 → eqb (x % 256) 0 ≡ t → sum false ≡ cond t (all_nul rest) (allowed k (x % 256) && agrees_text k rest)
      low true l e =
          let z : x % 128 ≡ 0 = l ∙ eqb-true _ _ e in
          rw (z, none, flaw_nul (next n (x / 256))) (after_nul n (x / 256))
      low false l e = rw (l, e, flaw_filled (next n (x / 256)) (allowed k (x % 256)))

      by : (t : Bool) → leb 128 (x % 256) ≡ t → sum t ≡ agrees_text k (bytes_of (suc n) x)
      by true e =
          let l : 128 ≤ x % 256 = leb-true _ _ e in
          rw (flaw_high (next n (x / 256)) (not (eqb (x % 128) 0)) (allowed k (x % 128)), ne_eqb (x % 256) 0 (λ (z : x % 256 ≡ 0). omega arith), high (x % 256) l)
      by false e = let l : x % 256 < 128 = leb-false _ _ e in low (eqb (x % 256) 0) (omega arith) refl

  text_clear : (n x g : ℕ) → Marks (allowed k) n (bit_and x (lanes n 127)) g → clear n (flaws n x g) ≡ agrees_text k (bytes_of n x)
  unfolding Marks clear
  text_clear zero x g m = refl
  text_clear (suc n) x g m =
      let marked : g / 128 % 2 ≡ bit (allowed k (x % 128)) = m.0 ∙ ap (λ (b : ℕ). bit (allowed k b)) (seven_low n x) in
      let above : Marks (allowed k) n (bit_and (x / 256) (lanes n 127)) (g / 256) = rw (seven_up n x) at m.1 in
      ap₂ (λ (s : ℕ) (t : Bool). eqb s 0 && t)
      (flaws-bit n x g (allowed k (x % 128)) marked)
      (ap (clear n) (flaws_up n x g) ∙ text_clear n (x / 256) (g / 256) above)
      ∙ ap (λ t. t && agrees_text k (bytes_of n (x / 256))) (clear-bit (flaw (next n (x / 256)) (not (eqb (x % 128) 0)) (allowed k (x % 128)) (leb 128 (x % 256))))
      ∙ lane n x

  pub word_text : (n x g : ℕ) → Marks (allowed k) n (bit_and x (lanes n 127)) g → eqb (bit_and (flaws n x g) (lanes n 128)) 0 ≡ agrees_text k (bytes_of n x)
  word_text n x g m = clear_is n (flaws n x g) ∙ text_clear n x g m
