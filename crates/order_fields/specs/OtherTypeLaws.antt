-- 02, request 4: a record tells its own dictionary. By a name of another type, as the other market's New Order has, no field is found in it, so that what
-- is read is what is read of a field that is not selected, and setting leaves the record as it was. Assumes nothing.
use Rattle.std.specs.Prelude.{◌≡◌, List, ℕ, Option, None}
use Rattle.std.proofs.Common.{ap, ne_eqb}
use Rattle.orders.specs.declared.Record.{Record}
use Rattle.order_fields.specs.Named.{selected_of, optional_of, fixed_of, settable_of, setting_of, fixing_of}

module _ (message : ℕ) (r : Record) (other : r.message ≡ message → ⊥) where
  -- an optional field, and one of the fixed part
  pub other_type_nowhere : (byte bit width : ℕ) → optional_of message byte bit width r ≡ None
  unfolding optional_of selected_of
  other_type_nowhere byte bit width = rw (ne_eqb r.message message other)

  pub other_type_fixed : (at : ℕ) → fixed_of message at r ≡ None
  unfolding fixed_of
  other_type_fixed at = rw (ne_eqb r.message message other)

  -- so any reader by name answers as for a field that is not there
  pub other_type_reads_nothing : {A : Type 0} (get : Option ℕ → List ℕ → A) (byte bit width : ℕ) (s : List ℕ) → get (optional_of message byte bit width r) s ≡ get None s
  other_type_reads_nothing get byte bit width s = ap (λ (f : Option ℕ). get f s) (other_type_nowhere byte bit width)

  -- and a setter changes nothing
  pub other_type_stays : (byte bit : ℕ) (bytes : List ℕ) → setting_of message byte bit bytes r ≡ r
  unfolding setting_of settable_of
  other_type_stays byte bit bytes = rw (ne_eqb r.message message other)

  pub other_type_fixed_stays : (at : ℕ) (bytes : List ℕ) → fixing_of message at bytes r ≡ r
  unfolding fixing_of
  other_type_fixed_stays at bytes = rw (ne_eqb r.message message other)
