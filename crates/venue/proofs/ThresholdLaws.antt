-- What a login wants of each unit.
--     listed_above     a listed unit's messages above the listed number
--     unlisted-none    none of an unlisted unit's, if the flag is 1
--     unlisted-all     all of an unlisted unit's, if it is not
--     no_group_all     all, if no group of units came
-- Assumes nothing.
use Rattle.std.specs.Prelude.{◌≡◌, refl, Option, None, Some, unwrap_or, ℕ, zero, suc, ◌+◌, ◌-◌, ◌≤◌, ◌<◌, get_or}
use Rattle.std.proofs.Common.{sym, ◌∙◌}
use Rattle.std.proofs.Math.Path.{ap}
use native.Mathlib.Omega.{arith}
use Rattle.table.specs.declared.UnitNumber.{UnitNumber}
use Rattle.table.proofs.TableLaws.{unit-taken}
use Rattle.session_messages.specs.declared.Record.{Record}
use Rattle.session_logins.specs.LoginRequests.{up_from}
use Rattle.session_fields.specs.SessionFields.{group_flag, group_listed}
use Rattle.session_fields.specs.AskedFor.{units_at, flag_of, asked_above}
use Rattle.venue.specs.Venues.{numbers_for, thresholds_of, wanted_above}
use Rattle.venue.proofs.LoginLaws.{listed_number, none-wanted, all_wanted, above_is}

-- ---- the thresholds

numbers_at : (f : ℕ → ℕ) (n k i : ℕ) (d : UnitNumber) → i < n → (get_or (numbers_for f (up_from n k)) i d).0 ≡ f (k + i)
numbers_at f zero k i d h = absurd (omega (arith, h))
numbers_at f (suc n) k zero d h = let z : k ≡ k + 0 = omega arith in ap f z
numbers_at f (suc n) k (suc i) d h = let z : suc k + i ≡ k + suc i = omega arith in numbers_at f n (suc k) i d (omega (arith, h)) ∙ ap f z

module _ (r : Record) (u : ℕ) where
  -- a unit's number is its threshold
  pub threshold_at : 1 ≤ u → u ≤ 32 → wanted_above (thresholds_of r) u ≡ asked_above r u
  unfolding thresholds_of
  threshold_at h k =
      let z : 1 + (u - 1) ≡ u = omega arith in
      above_is (thresholds_of r) u (unit-taken u h k) ∙ numbers_at (asked_above r) 32 1 (u - 1) _ (omega arith) ∙ ap (asked_above r) z

  -- LISTED ABOVE
  pub listed_above : 1 ≤ u → u ≤ 32 → {n : UnitNumber} → group_listed (units_at r) u r ≡ Some n → wanted_above (thresholds_of r) u ≡ n.0
  listed_above h k t = threshold_at h k ∙ sym (listed_number r u refl t)

  -- UNLISTED NONE: no number is above this
  pub unlisted-none : 1 ≤ u → u ≤ 32 → group_listed (units_at r) u r ≡ None → flag_of r ≡ 1 → wanted_above (thresholds_of r) u ≡ 4294967295
  unlisted-none h k t f = threshold_at h k ∙ sym (none-wanted r u refl refl t f)

  -- UNLISTED ALL: every number is above 0
  pub unlisted_all : 1 ≤ u → u ≤ 32 → group_listed (units_at r) u r ≡ None → (flag_of r ≡ 1 → ⊥) → wanted_above (thresholds_of r) u ≡ 0
  unlisted_all h k t f = threshold_at h k ∙ sym (all_wanted r u refl refl t f)

  -- NO GROUP ALL
  pub no_group_all : 1 ≤ u → u ≤ 32 → units_at r ≡ None → wanted_above (thresholds_of r) u ≡ 0
  unfolding group_listed group_flag
  no_group_all h k z =
      unlisted_all h k
      (ap (λ (p : Option ℕ). group_listed p u r) z)
      (λ e. let f : flag_of r ≡ 0 = ap (λ (p : Option ℕ). unwrap_or (group_flag p r) 0) z in omega (arith, f, e))
