-- What a login of ours asks for, in either form: of every unit what is above the table's number. Assumes nothing.
use Prim.Native.Nat.{ℕ, suc, ◌+◌, ◌-◌, ◌<◌}
use Rattle.std.specs.Prelude.{◌≡◌, refl, Bool, true, false, cond, eqb}
use Rattle.std.proofs.Common.{sym, ◌∙◌, arith, eqb-true}
use Rattle.std.proofs.Math.Path.{ap, fun_ext}
use mathlib.Core.List.{List, ◌∷◌, ◌++◌, append_assoc}
use Rattle.std.proofs.Math.ListN.{length, length-append}
use Rattle.std.proofs.lemmas.Bool.{eqb-false}
use Rattle.block.specs.Slots.{zeros}
use Rattle.block.specs.SlotLaws.{length-zeros}
use Rattle.table.specs.declared.Table.{Table}
use Rattle.table.specs.declared.Entry.{Entry}
use Rattle.table.specs.Table.{unit_refusal, last_of}
use Rattle.table.proofs.TableLaws.{unit_in_range, no_entry}
use Rattle.session_groups.specs.Values.{group_bytes}
use Rattle.session_groups.specs.Values.Group.{units}
use Rattle.session_messages.specs.declared.Record.{Record}
use Rattle.session_messages.specs.Sessions as logins
use Rattle.session_messages.proofs.SessionTrip.{read_again}
use Rattle.session_logins.specs.LoginRequests.{whole_table, choice_of, one, bits_part, said_of, login_record}
use Rattle.session_logins.proofs.LoginRequestLaws.{said-most}
use Rattle.session_logins.proofs.BothForms.{form_flag, form_pairs, said_with, whole-body, form_fits, form_asks}
use Rattle.session_fields.specs.AskedFor.{asked_above}
use Rattle.session_fields.specs.AskedLaws.{first-asked}
use Rattle.day_line.specs.Lines.{Fields, login_of_table, OurLogin, lists}

-- ---- its record

module _ (table : Table) (f : Fields) where
  pub body_long : length (login_of_table table f).body ≡ 433
  unfolding login_record
  body_long =
      let s : List ℕ = said_of table (choice_of table (whole_table f.full)) f.names f.acknowledgments f.executions in
      let h = said-most table (choice_of table (whole_table f.full)) f.names f.acknowledgments f.executions f.long in
      length-append s (zeros (433 - length s)) ∙ omega (arith, length-zeros (433 - length s), h)

  abbrev more : ℕ
  more = one f.acknowledgments.given + one f.executions.given

  abbrev group : List ℕ
  group = group_bytes (units (form_flag f.full) (form_pairs table f.full))

  abbrev after : List ℕ
  after = bits_part 0x25 f.acknowledgments ++ bits_part 0x2C f.executions

  abbrev said : List ℕ
  said = said_with (form_flag f.full) (form_pairs table f.full) f.names f.acknowledgments f.executions

  -- its group of units comes first
  body-parts : (login_of_table table f).body ≡ f.names ++ (suc more ∷ (group ++ (after ++ zeros (433 - length said))))
  body-parts =
      whole-body table f.names f.acknowledgments f.executions f.full
      ∙ append_assoc f.names (suc more ∷ (group ++ after)) (zeros (433 - length said))
      ∙ ap (λ (l : List ℕ). f.names ++ (suc more ∷ l)) (append_assoc group after (zeros (433 - length said)))

  pub our_asked : ((u : ℕ) → last_of table u < 4294967296) → (u : ℕ) → unit_refusal u ≡ 0 → asked_above (login_of_table table f) u ≡ last_of table u
  unfolding login_record
  our_asked fit u z =
      let i = unit_in_range u z in
      ap (λ (l : List ℕ). asked_above (record { message = 0x37; unit = 0; number = 0; body = l }) u) body-parts
      ∙ first-asked 0 0 f.names more (form_flag f.full) u (form_pairs table f.full) (after ++ zeros (433 - length said)) f.long (form_fits table fit f.full)
      ∙ form_asks table f.full u i.0 i.1

-- ---- read from its bytes

-- the record of our login's bytes is the record that was written
pub our_record : {b : List ℕ} (o : OurLogin b) → logins.record_of b ≡ login_of_table o.table o.fields
our_record {b} o =
    ap logins.record_of o.is
    ∙ read_again (login_of_table o.table o.fields) o.room (record { body-length = body_long o.table o.fields }) o.written

-- OUR LOGIN LISTS THE TABLE
pub our_lists : {b : List ℕ} (o : OurLogin b) → lists b ≡ last_of o.table
unfolding lists
our_lists {b} o = fun_ext (λ u. by u (eqb (unit_refusal u) 0) refl)
  where
    by : (u : ℕ) (q : Bool) → eqb (unit_refusal u) 0 ≡ q → cond q (asked_above (logins.record_of b) u) 0 ≡ last_of o.table u
    by u true e = ap (λ (r : Record). asked_above r u) (our_record o) ∙ our_asked o.table o.fields o.fit u (eqb-true (unit_refusal u) 0 e)
    by u false e = sym (ap (λ (x : Entry). x.last.0) (no_entry o.table u (eqb-false (unit_refusal u) 0 e)))
