-- The late refusal of each message that has one, by the bytes alone that its rules ask for: the writer finds them in a record's layout, the reader where
-- they stand in the message.
--     modify_late_is      Modify Order: OrdType's byte
--     purge_late_is       Purge Orders: the first three characters of MassCancelInst, and MatchingUnit
--     unit-unasked        where MatchingUnit is not selected its byte plays no part
--     never-late          the other messages have none
-- Assumes nothing.
use Rattle.std.specs.Prelude.{ℕ, ◌+◌, ◌≡◌, refl, Bool, true, false, cond, not, ◌&&◌, ◌||◌, List, eqb, get_or}
use Rattle.std.proofs.Common.{ap, ne_eqb}
use Rattle.refusals.specs.Names.{not_selected, conflict}
use Rattle.refusals.specs.Told.{told}
use Rattle.block.specs.Places.{selected_at}
use Rattle.orders.specs.Shapes.{count_at}
use Rattle.orders.specs.Late.{market, char_f, char_s, char_b, char_l, lacks, conflicts, late_refusal}

unfoldable pub modify_late : ℕ → List ℕ → ℕ → ℕ
modify_late count bits type = cond (not (selected_at count bits 3) && not (eqb type market)) (told not_selected (count_at 0x3A + count)) 0

-- a field is lacking, and fields do not go together, by these bytes
abbrev pub purge_needs : ℕ → List ℕ → ℕ → ℕ → Bool
purge_needs count bits first second = (eqb first char_f && not (selected_at count bits 0)) || ((eqb second char_s || eqb second char_b) && not (selected_at count bits 4))

abbrev pub purge_clash : ℕ → List ℕ → ℕ → ℕ → ℕ → Bool
purge_clash count bits first third unit = (eqb third char_l && not (eqb first char_f)) || (selected_at count bits 8 && (selected_at count bits 15 && not (eqb unit 0)))

unfoldable pub purge_late : ℕ → List ℕ → ℕ → ℕ → ℕ → ℕ → ℕ
purge_late count bits first second third unit =
    cond (purge_needs count bits first second) (told not_selected (count_at 0x47 + count)) (cond (purge_clash count bits first third unit) conflict 0)

pub modify_late_is : (count : ℕ) (bits slots : List ℕ) → late_refusal 0x3A count bits slots ≡ modify_late count bits (get_or slots 16 0)
unfolding late_refusal lacks conflicts modify_late
modify_late_is count bits slots = refl

pub purge_late_is : (count : ℕ) (bits slots : List ℕ) → late_refusal 0x47 count bits slots ≡ purge_late count bits (get_or slots 4 0) (get_or slots 5 0) (get_or slots 6 0) (get_or slots 56 0)
unfolding late_refusal lacks conflicts purge_late
purge_late_is count bits slots = refl

pub unit_unasked : (count : ℕ) (bits : List ℕ) (first second third : ℕ) {u v : ℕ} → (selected_at count bits 15 ≡ true → u ≡ v)
    → purge_late count bits first second third u ≡ purge_late count bits first second third v
unfolding purge_late
unit_unasked count bits first second third {u} {v} h = by (selected_at count bits 15) refl
  where
    by : (b : Bool) → selected_at count bits 15 ≡ b → purge_late count bits first second third u ≡ purge_late count bits first second third v
    by true e = ap (purge_late count bits first second third) (h e)
    by false e = rw e

pub never_late : (message count : ℕ) (bits slots : List ℕ) → (message ≡ 0x3A → ⊥) → (message ≡ 0x47 → ⊥) → 0 ≡ late_refusal message count bits slots
unfolding late_refusal lacks conflicts
never_late message count bits slots m p = rw (ne_eqb message 0x3A m, ne_eqb message 0x47 p)
