-- A refusal's number gives its reason and its place back. Assumes nothing.
use Rattle.std.specs.Prelude.{◌≡◌, ℕ}
use Rattle.std.proofs.Common.{ap₂}
use Rattle.refusals.specs.declared.Reason.{Reason}
use Rattle.refusals.specs.Told.{told, number_in, place_in}
use Rattle.refusals.specs.Reasons.{number_of, reason_of}
use Rattle.refusals.specs.ReasonLaws.{reason_of-told, place_of-told}

-- the parts that a refusal's number tells
pub record Parts : Type 0 where
  pub reason : Reason
  pub place : ℕ

abbrev pub parts_of : ℕ → Parts
parts_of n = record { reason = reason_of (number_in n); place = place_in n }

pub refusal_back : (r : Parts) → parts_of (told (number_of r.reason) r.place) ≡ r
refusal_back r =
    let with_parts : Reason → ℕ → Parts = λ x y. record { reason = x; place = y } in
    ap₂ with_parts (reason_of-told r.reason r.place) (place_of-told r.reason r.place)
