-- 02, request 6: the two forms of a login with the whole table. With no choice given it lists the units whose entry is above 0, and the full list is asked
-- for by name.
--     default_lists_used        with no choice given a unit is listed exactly when its entry is above 0, with its number, ascending, with flag 0
--     named_lists_all           by name all 32 units are listed, ascending, with flag 1 and the table's numbers
--     both_ask_for_the_table    either form asks, of every unit, for what is above the table's number
-- The first two speak of what the writer leaves in the front of its buffer, whatever stood there.
-- Assumes nothing.
use Rattle.std.specs.Prelude.{◌≡◌, Bool, ℕ, suc, ◌+◌, ◌≤◌, ◌<◌}
use Rattle.std.proofs.Math.Path.{refl, ap, ap₂}
use Rattle.std.proofs.Common.{sym, ◌∙◌, arith, eq-eqb}
use Rattle.std.proofs.Math.Bool.{true, false, cond}
use mathlib.Core.List.{List, ◌∷◌, ◌++◌}
use Rattle.std.proofs.Math.ListN.{length}
use Rattle.numbers.specs.Numbers.{patched}
use Rattle.wire.specs.Header.{header_bytes}
use Rattle.table.specs.declared.Table.{Table}
use Rattle.table.specs.Table.{last_of}
use Rattle.session_groups.specs.Values.{Pair, NumbersFit, group_bytes}
use Rattle.session_groups.specs.Values.Group.{units}
use Rattle.session_groups.specs.Asked.{asked_of, asked}
use Rattle.session_groups.proofs.Ascending.{listed, Ascends, numbers_fit}
use Rattle.session_messages.specs.declared.Record.{Record}
use Rattle.session_messages.specs.Sessions.{names_good, record_refusal, write_buffer, record_buffer, session_bytes}
use Rattle.session_logins.specs.declared.Choice.{Choice}
use Rattle.session_logins.specs.declared.Bitfields.{Bitfields}
use Rattle.session_logins.specs.LoginRequests.{used_from, used_units, all_units, whole_table, choice_of, units_part, units_group, bits_part, one, group_count, said_of, padded, login_record}
use Rattle.session_logins.proofs.UsedUnits.{used_pairs, used_few, filled_long, used_pairs_lem, used_ascends, used_fit, Among, used-listed, listed-used, listed_asks, used_asks}
use Rattle.session_logins.proofs.LoginRequestLaws.{choice_default, said-most, BitsInOrder, whole-in_order, groups_value, units_bytes, login-bytes, whole_is_written}

-- ---- the group of units

-- its flag and its pairs, by whether the full list is asked for
abbrev pub form_flag : Bool → ℕ
form_flag true = 1
form_flag false = 0

abbrev pub form_pairs : Table → Bool → List Pair
form_pairs t true = listed 32 1 (last_of t)
form_pairs t false = used_pairs t

-- what a login says with a group of units of that flag and those pairs: the names, the number of groups, that group, and the bitfields
abbrev pub said_with : ℕ → List Pair → List ℕ → Bitfields → Bitfields → List ℕ
said_with flag ps names acknowledgments executions =
    names ++ (suc (one acknowledgments.given + one executions.given) ∷ (group_bytes (units flag ps) ++ (bits_part 0x25 acknowledgments ++ bits_part 0x2C executions)))

used-group : (t : Table) → units_group t (used_units t) ≡ group_bytes (units 0 (used_pairs t))
used-group t =
    units_bytes t (used_units t) (used_few t 32 1) (filled_long (used_from t 32 1) (used_few t 32 1)) ∙ ap (λ (ps : List Pair). group_bytes (units 0 ps)) (used_pairs_lem t)

module _ (table : Table) (names : List ℕ) (acknowledgments executions : Bitfields) where
  abbrev more : ℕ
  more = one acknowledgments.given + one executions.given

  one_more : 1 + more ≡ suc more
  one_more = omega arith

  said-full : said_of table all_units names acknowledgments executions ≡ said_with 1 (listed 32 1 (last_of table)) names acknowledgments executions
  unfolding units_part group_count
  said-full = ap (λ (n : ℕ). names ++ (n ∷ (group_bytes (units 1 (listed 32 1 (last_of table))) ++ (bits_part 0x25 acknowledgments ++ bits_part 0x2C executions)))) one_more

  said-used : said_of table (used_units table) names acknowledgments executions ≡ said_with 0 (used_pairs table) names acknowledgments executions
  unfolding units_part group_count
  said-used =
      ap₂ (λ (n : ℕ) (g : List ℕ). names ++ (n ∷ (g ++ (bits_part 0x25 acknowledgments ++ bits_part 0x2C executions)))) one_more (used-group table)

  -- what a login with the whole table says, in either form
  pub whole_says : (full : Bool) → said_of table (choice_of table (whole_table full)) names acknowledgments executions ≡ said_with (form_flag full) (form_pairs table full) names acknowledgments executions
  unfolding choice_of
  whole_says true = said-full
  whole_says false = said-used

  pub whole-body : (full : Bool) → (login_record table (whole_table full) names acknowledgments executions).body ≡ padded (said_with (form_flag full) (form_pairs table full) names acknowledgments executions)
  unfolding login_record
  whole-body full = ap padded (whole_says full)

  -- any choice that is none is the same login
  none-given : (choice : Choice) → choice.which ≡ 0 → login_record table choice names acknowledgments executions ≡ login_record table (whole_table false) names acknowledgments executions
  unfolding login_record choice_of
  none-given choice z =
      ap (λ (c : Choice). record { message = 0x37; unit = 0; number = 0; body = padded (said_of table c names acknowledgments executions) }) (sym (choice_default table choice z))

-- ---- what either form asks for

pub form_fits : (t : Table) → ((u : ℕ) → last_of t u < 4294967296) → (full : Bool) → NumbersFit (form_pairs t full)
form_fits t h true = numbers_fit 32 1 (last_of t) h
form_fits t h false = used_fit t h

pub form_asks : (t : Table) (full : Bool) (u : ℕ) → 1 ≤ u → u ≤ 32 → asked_of (form_flag full) (form_pairs t full) u ≡ last_of t u
form_asks t true u h k = listed_asks (last_of t) 1 u 32 1 h (omega arith)
form_asks t false u h k = used_asks t u h k

-- BOTH ASK FOR THE TABLE: of a listed unit for what is above its number, and of an unlisted one, whose entry is 0, for all
pub both_ask_for_the_table : (t : Table) (acknowledgments executions : Bitfields) (full : Bool) (u : ℕ) → 1 ≤ u → u ≤ 32 → asked (groups_value t (choice_of t (whole_table full)) acknowledgments executions) u ≡ last_of t u
unfolding choice_of
both_ask_for_the_table t acknowledgments executions true u h k = form_asks t true u h k
both_ask_for_the_table t acknowledgments executions false u h k = ap (λ (ps : List Pair). asked_of 0 ps u) (used_pairs_lem t) ∙ form_asks t false u h k

-- ---- what the writer leaves in its buffer

-- the message of a login with a group of units of a flag and pairs: the header, and what it says
abbrev pub message_with : ℕ → List Pair → List ℕ → Bitfields → Bitfields → List ℕ
message_with flag ps names acknowledgments executions =
    header_bytes (8 + length (said_with flag ps names acknowledgments executions)) 0x37 0 0 ++ said_with flag ps names acknowledgments executions

-- with names that agree, bitfields in order and 234 bytes of room, in which anything may stand
module _ (table : Table) (fit : (u : ℕ) → last_of table u < 4294967296) (names : List ℕ) (acknowledgments executions : Bitfields) (out : List ℕ) (long : length names ≡ 18)
    (good : names_good names ≡ true) (q : acknowledgments.given ≡ true → BitsInOrder acknowledgments) (r : executions.given ≡ true → BitsInOrder executions)
    (has_room : 234 ≤ length out) where
  whole_room : (full : Bool) → 10 + length (said_of table (choice_of table (whole_table full)) names acknowledgments executions) ≤ length out
  whole_room full = let h = said-most table (choice_of table (whole_table full)) names acknowledgments executions long in omega (arith, h, has_room)

  -- WHOLE IS STORED: either form is written into the buffer's front
  pub whole_is_stored : (full : Bool) → record_buffer (login_record table (whole_table full) names acknowledgments executions) out ≡ patched out 0 (message_with (form_flag full) (form_pairs table full) names acknowledgments executions)
  unfolding write_buffer
  whole_is_stored full =
      let z : record_refusal (login_record table (whole_table full) names acknowledgments executions) (length out) ≡ 0 =
      whole_is_written table (whole_table full) names acknowledgments executions (length out) long good q r (whole_room full) full refl fit in
      ap (λ (b : Bool). cond b (patched out 0 (session_bytes (login_record table (whole_table full) names acknowledgments executions))) out) (eq-eqb _ 0 z)
      ∙ ap (patched out 0)
      (login-bytes table (whole_table full) names acknowledgments executions (length out) long good q r (whole_room full) (λ _. whole-in_order table fit full)
      ∙ ap (λ (l : List ℕ). header_bytes (8 + length l) 0x37 0 0 ++ l) (whole_says table names acknowledgments executions full))

  -- the login of a choice that is none: its group of units has flag 0 and pairs for exactly the units of 1 to 32 whose entry is above 0, each with its
  -- number, ascending
  pub record ListsUsed (choice : Choice) : Type 0 where
    pub pairs : List Pair
    pub stored : record_buffer (login_record table choice names acknowledgments executions) out ≡ patched out 0 (message_with 0 pairs names acknowledgments executions)
    pub each : (u : ℕ) → 1 ≤ u → u ≤ 32 → 0 < last_of table u → Among pairs u (last_of table u)
    pub only : (u n : ℕ) → Among pairs u n → (1 ≤ u) × (u ≤ 32) × (n ≡ last_of table u) × (0 < n)
    pub ascending : Ascends 1 pairs

  -- DEFAULT LISTS USED
  pub default_lists_used : (choice : Choice) → choice.which ≡ 0 → ListsUsed choice
  default_lists_used choice z = record {
    pairs = used_pairs table;
    stored = ap (λ (l : Record). record_buffer l out) (none-given table names acknowledgments executions choice z) ∙ whole_is_stored false;
    each = used-listed table;
    only = listed-used table;
    ascending = used_ascends table;
  }

  -- NAMED LISTS ALL
  pub named_lists_all : record_buffer (login_record table all_units names acknowledgments executions) out ≡ patched out 0 (message_with 1 (listed 32 1 (last_of table)) names acknowledgments executions)
  named_lists_all = whole_is_stored true
