-- Logins with the whole table that compute, with the names of 002's login and no bitfields. Assumes nothing.
use Rattle.std.specs.Prelude.{◌≡◌, refl, Bool, true, false, List, [], ◌∷◌, ℕ, length, get_or}
use Rattle.block.specs.Slots.{zeros}
use Rattle.table.specs.declared.Table.{Table}
use Rattle.table.specs.Table.{unit_refusal, entry_of, zero_table, raised_table}
use Rattle.session_groups.specs.Groups.{units_from, pairs_good, group_key, group_size, next_size, groups_from}
use Rattle.session_messages.specs.Sessions.{fixed_size, flag_good, lists_end, body_end, session_bytes}
use Rattle.session_logins.specs.declared.Bitfields.{Bitfields}
use Rattle.session_logins.specs.LoginRequests.{used_from, whole_table, choice_of, units_part, bits_part, group_count, login_record}

abbrev none : Bitfields
none = record { given = false; count = 0; bits = zeros 15 }

-- 0001, TEST, TESTING
abbrev names : List ℕ
names = 0x30 ∷ 0x30 ∷ 0x30 ∷ 0x31 ∷ 0x54 ∷ 0x45 ∷ 0x53 ∷ 0x54 ∷ 0x54 ∷ 0x45 ∷ 0x53 ∷ 0x54 ∷ 0x49 ∷ 0x4E ∷ 0x47 ∷ 0x00 ∷ 0x00 ∷ 0x00 ∷ []

-- its message, by whether the full list is asked for
abbrev login : Table → Bool → List ℕ
login table full = session_bytes (login_record table (whole_table full) names none none)

-- a table with unit 1 at 113,482 and unit 2 at 5
abbrev two : Table
two = raised_table (raised_table zero_table 2 5 16) 1 113482 64

-- it lists these two with flag 0
pub two-listed : login two false ≡ 0xBA ∷ 0xBA ∷ 0x2A ∷ 0x00 ∷ 0x37 ∷ 0x00 ∷ 0x00 ∷ 0x00 ∷ 0x00 ∷ 0x00 ∷ 0x30 ∷ 0x30 ∷ 0x30 ∷ 0x31 ∷ 0x54 ∷ 0x45 ∷ 0x53 ∷ 0x54 ∷ 0x54 ∷ 0x45 ∷ 0x53 ∷ 0x54 ∷ 0x49 ∷ 0x4E ∷ 0x47 ∷ 0x00 ∷ 0x00 ∷ 0x00 ∷ 0x01 ∷ 0x0F ∷ 0x00 ∷ 0x80 ∷ 0x00 ∷ 0x02 ∷ 0x01 ∷ 0x4A ∷ 0xBB ∷ 0x01 ∷ 0x00 ∷ 0x02 ∷ 0x05 ∷ 0x00 ∷ 0x00 ∷ 0x00 ∷ []
unfolding unit_refusal entry_of raised_table units_from pairs_good group_key group_size next_size groups_from fixed_size flag_good lists_end body_end used_from choice_of units_part bits_part group_count login_record
two-listed = refl

-- an empty table: a group with flag 0 and no pairs
pub none-listed : login zero_table false ≡ 0xBA ∷ 0xBA ∷ 0x20 ∷ 0x00 ∷ 0x37 ∷ 0x00 ∷ 0x00 ∷ 0x00 ∷ 0x00 ∷ 0x00 ∷ 0x30 ∷ 0x30 ∷ 0x30 ∷ 0x31 ∷ 0x54 ∷ 0x45 ∷ 0x53 ∷ 0x54 ∷ 0x54 ∷ 0x45 ∷ 0x53 ∷ 0x54 ∷ 0x49 ∷ 0x4E ∷ 0x47 ∷ 0x00 ∷ 0x00 ∷ 0x00 ∷ 0x01 ∷ 0x05 ∷ 0x00 ∷ 0x80 ∷ 0x00 ∷ 0x00 ∷ []
unfolding unit_refusal entry_of raised_table units_from pairs_good group_key group_size next_size groups_from fixed_size flag_good lists_end body_end used_from choice_of units_part bits_part group_count login_record
none-listed = refl

-- by name: 194 bytes, with flag 1 and 32 pairs
pub all_listed : (length (login two true) ∷ get_or (login two true) 32 0 ∷ get_or (login two true) 33 0 ∷ []) ≡ 194 ∷ 1 ∷ 32 ∷ []
unfolding unit_refusal entry_of raised_table units_from pairs_good group_key group_size next_size groups_from fixed_size flag_good lists_end body_end used_from choice_of units_part bits_part group_count login_record
all_listed = refl
