-- A getter looks at its own field's bytes alone. Assumes nothing.
use Rattle.std.specs.Prelude.{◌≡◌, refl, Bool, true, false, cond, List, ℕ, zero, suc, ◌+◌, ◌*◌, ◌≤◌, get_or, take, drop, Option, None, Some}
use Rattle.std.proofs.Common.{sym, ap, ap₂, ◌∙◌, arith, get_or-take, get_or-drop}
use Rattle.numbers.specs.Numbers.{number_at}
use Rattle.numbers.specs.Prices.{signed_of}
use Rattle.order_fields.specs.Named.{number_in, price_in, text_in}

-- what is got of a field of w bytes at p, from any two buffers that have the same bytes there
pub record Local {A : Type 0} (get : Option ℕ → List ℕ → A) (w p : ℕ) : Type 0 where
  pub where_found : (s t : List ℕ) → take w (drop p s) ≡ take w (drop p t) → get (Some p) s ≡ get (Some p) t
  pub where_not : (s t : List ℕ) → get None s ≡ get None t

pub got_alike : {A : Type 0} {get : Option ℕ → List ℕ → A} {w p : ℕ} → Local get w p → (b : Bool) (s t : List ℕ) → take w (drop p s) ≡ take w (drop p t)
    → get (cond b (Some p) None) s ≡ get (cond b (Some p) None) t
got_alike l true s t h = l.where_found s t h
got_alike l false s t h = l.where_not s t

-- ---- a number is its bytes

pub number_of-part : (n j i : ℕ) (s : List ℕ) → number_at n (i + j) s ≡ number_at n j (drop i s)
number_of-part zero j i s = refl
number_of-part (suc n) j i s =
    let e : i + j + 1 ≡ i + (j + 1) = omega arith in
    ap₂ (λ (x y : ℕ). x + 256 * y) (sym (get_or-drop i s j 0)) (ap (λ (m : ℕ). number_at n m s) e ∙ number_of-part n (j + 1) i s)

pub number_of-front : (n j m : ℕ) (s : List ℕ) → j + n ≤ m → number_at n j s ≡ number_at n j (take m s)
number_of-front zero j m s h = refl
number_of-front (suc n) j m s h =
    ap₂ (λ (x y : ℕ). x + 256 * y) (sym (get_or-take m s j 0 (omega (arith, h)))) (number_of-front n (j + 1) m s (omega (arith, h)))

number_in-bytes : (n p : ℕ) (s : List ℕ) → number_at n p s ≡ number_at n 0 (take n (drop p s))
number_in-bytes n p s =
    let e : p ≡ p + 0 = omega arith in
    ap (λ (m : ℕ). number_at n m s) e ∙ number_of-part n 0 p s ∙ number_of-front n 0 n (drop p s) (omega arith)

pub same_number_there : (n p : ℕ) (s t : List ℕ) → take n (drop p s) ≡ take n (drop p t) → number_at n p s ≡ number_at n p t
same_number_there n p s t h = number_in-bytes n p s ∙ ap (number_at n 0) h ∙ sym (number_in-bytes n p t)

-- a number of one byte is that byte
pub one_byte : (p : ℕ) (s : List ℕ) → number_at 1 p s ≡ get_or s p 0
one_byte p s = omega arith

-- ---- each getter

pub number_local : (w p : ℕ) → Local (number_in w) w p
number_local w p = record { where_found = λ s t h. ap (λ (x : ℕ). Some x) (same_number_there w p s t h); where_not = λ s t. refl }

pub price_local : (p : ℕ) → Local price_in 8 p
price_local p = record { where_found = λ s t h. ap (λ (x : ℕ). Some (signed_of x)) (same_number_there 8 p s t h); where_not = λ s t. refl }

pub text_local : (w p : ℕ) → Local (text_in w) w p
text_local w p = record { where_found = λ s t h. ap (λ (x : List ℕ). Some x) h; where_not = λ s t. refl }
