-- Whether bytes are blank, by numbers and by windows: a number is 0 exactly where its bytes are NUL, and two windows that overlap or touch
-- are blank exactly where the whole is. Assumes nothing.
use mathlib.Core.Path.{◌≡◌, refl, sym, ap, ◌∙◌}
use mathlib.Core.Bool.{Bool, true, false, ◌&&◌}
use mathlib.Core.List.{List, [], ◌∷◌}
use Prim.Native.Nat.{ℕ, zero, suc, ◌+◌, ◌-◌, ◌*◌, ◌≤◌}
use native.Mathlib.Nat.{le_of_suc-le-suc, not-suc-le-zero}
use native.Mathlib.Omega.{arith}
use lib.Dec.{eqb}
use lib.ListN.{length, take, drop, length-drop}
use lib.Seq.{take_all, drop-drop}
use borrow.Author.Tests.{eqb-true, eqb-false, eq-eqb, ne_eqb}
use Rattle.numbers.specs.Numbers.{number_at}
use Rattle.numbers.specs.NumberLaws.{number_past, number_after}
use Rattle.kinds.specs.Kinds.{all_nul}

-- a byte below a number
digit_nul : (b x : ℕ) (t : Bool) → eqb b 0 ≡ t → eqb (b + 256 * x) 0 ≡ (t && eqb x 0)
digit_nul b x true e = go (eqb x 0) refl
  where
    go : (u : Bool) → eqb x 0 ≡ u → eqb (b + 256 * x) 0 ≡ eqb x 0
    go true f = eq-eqb (b + 256 * x) 0 (omega (arith, eqb-true b 0 e, eqb-true x 0 f)) ∙ sym f
    go false f = ne_eqb (b + 256 * x) 0 (λ z. eqb-false x 0 f (omega (arith, z))) ∙ sym f
digit_nul b x false e = ne_eqb (b + 256 * x) 0 (λ z. eqb-false b 0 e (omega (arith, z)))

-- a number of at least as many bytes as there are is 0 exactly where they are NUL
pub number_nul : (n : ℕ) (s : List ℕ) → length s ≤ n → eqb (number_at n 0 s) 0 ≡ all_nul s
number_nul zero [] h = refl
number_nul zero (b ∷ s) h = absurd (not-suc-le-zero h)
number_nul (suc n) [] h = eq-eqb _ 0 (number_past (suc n) 0 [] (omega arith))
number_nul (suc n) (b ∷ s) h =
    let e : number_at n 1 (b ∷ s) ≡ number_at n 0 s = number_after n 0 (b ∷ []) s in
    digit_nul b (number_at n 1 (b ∷ s)) (eqb b 0) refl
    ∙ ap (λ (x : ℕ). eqb b 0 && eqb x 0) e
    ∙ ap (λ (t : Bool). eqb b 0 && t) (number_nul n s (le_of_suc-le-suc h))

-- two windows of which the second begins within the first or at its end, and goes to the end
pub windows : (k j : ℕ) (s : List ℕ) → j ≤ k → (all_nul (take k s) && all_nul (drop j s)) ≡ all_nul s
windows zero zero s h = refl
windows zero (suc j) s h = absurd (not-suc-le-zero h)
windows (suc k) zero [] h = refl
windows (suc k) (suc j) [] h = refl
windows (suc k) zero (b ∷ s) h = go (eqb b 0) (windows k zero s (omega arith))
  where
    go : (t : Bool) → (all_nul (take k s) && all_nul s) ≡ all_nul s → ((t && all_nul (take k s)) && (t && all_nul s)) ≡ (t && all_nul s)
    go true e = e
    go false e = refl
windows (suc k) (suc j) (b ∷ s) h = go (eqb b 0) (windows k j s (le_of_suc-le-suc h))
  where
    go : (t : Bool) → (all_nul (take k s) && all_nul (drop j s)) ≡ all_nul s → ((t && all_nul (take k s)) && all_nul (drop j s)) ≡ (t && all_nul s)
    go true e = e
    go false e = refl

-- the same for windows from a place on: k bytes, and the last n
pub windows_from : (a k b n : ℕ) (s : List ℕ) → length s ≡ b + n → a ≤ b → b ≤ a + k → (all_nul (take k (drop a s)) && all_nul (take n (drop b s))) ≡ all_nul (drop a s)
windows_from a k b n s e h l =
    let d : length (drop b s) ≡ length s - b = length-drop b s in
    let at : a + (b - a) ≡ b = omega arith in
    let last : take n (drop b s) ≡ drop (b - a) (drop a s) =
    take_all n (drop b s) (omega arith) ∙ ap (λ (i : ℕ). drop i s) (sym at) ∙ sym (drop-drop (b - a) a s) in
    ap (λ (x : List ℕ). all_nul (take k (drop a s)) && all_nul x) last ∙ windows k (b - a) (drop a s) (omega arith)
