-- A refusal and its place are told apart again. Assumes nothing.
use Rattle.std.specs.Prelude.{◌≡◌, refl, Bool, true, false, cond, ℕ, suc, ◌<◌, eqb}
use Rattle.std.proofs.Common.{arith, ne_eqb}
use Rattle.refusals.specs.Told.{told, number_in, place_in}

pub number_of-told : (number place : ℕ) → number < 256 → number_in (told number place) ≡ number
number_of-told number place h = omega (arith, h)

pub place_of-told : (number place : ℕ) → number < 256 → place_in (told number place) ≡ place
place_of-told number place h = omega (arith, h)

-- what has no place is its number
pub number_alone : (number : ℕ) → number < 256 → number_in number ≡ number
number_alone number h = omega (arith, h)

pub no_place : (number : ℕ) → number < 256 → place_in number ≡ 0
no_place number h = omega (arith, h)

-- a refusal is none whatever its place
pub told_refuses : (number place : ℕ) → 0 < number → eqb (told number place) 0 ≡ false
told_refuses number place h = ne_eqb (told number place) 0 (λ z. omega (arith, h, z))

-- a refusal with a place that was not given: its test failed, and the later ones decide
pub passed_told : (b : Bool) (n place x : ℕ) → cond b (told (suc n) place) x ≡ 0 → (b ≡ false) × (x ≡ 0)
passed_told true n place x h = absurd (omega (arith, h))
passed_told false n place x h = (refl, h)
