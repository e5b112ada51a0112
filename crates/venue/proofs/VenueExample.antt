-- A short day of the bench venue that computes. Assumes nothing.
use Rattle.std.specs.Prelude.{◌≡◌, refl, Bool, true, false, List, [], ◌∷◌, ◌++◌, ℕ, length, get_or, replicate}
use Rattle.numbers.specs.Numbers.{patched}
use Rattle.wire.specs.Header.{header_bytes, length_of, total_of, number_of}
use Rattle.wire.specs.Frame.{not_ba, starts_bad, length_bad, cut_short, frame_refusal, framed}
use Rattle.table.specs.Table.{unit_refusal, entry_refusal, entry_of, zero_table, raised_table, step_refusal}
use Rattle.dictionary.specs.Dictionary as dictionary
use Rattle.block.specs.Slots.{zeros}
use Rattle.block.specs.Places.{selected_at, entry_at, slots_from, has_required}
use Rattle.orders.specs.Shapes.{count_at, most_of, unit_good, fixed_good}
use Rattle.orders.specs.Middle as middles
use Rattle.orders.specs.Late as lates
use Rattle.orders.specs.Orders as orders
use Rattle.session_groups.specs.Groups as groups
use Rattle.session_messages.specs.Sessions as logins
use Rattle.session_logins.specs.declared.Bitfields.{Bitfields}
use Rattle.session_logins.specs.declared.Choice.{Choice}
use Rattle.session_logins.specs.LoginRequests.{whole_table, used_from, choice_of, units_part, bits_part, group_count, login_record}
use Rattle.session_fields.specs.SessionFields.{group_from, request_group, group_flag, listed_from, group_listed}
use Rattle.book.specs.Books.{roomless, message_refusal, next_refusal, append_refusal, appended_by, append_of, append_buffer}
use Rattle.day_model.specs.Story.{Bytes}
use Rattle.session_fields.specs.AskedFor.{asked_above}
use Rattle.venue.specs.Venues.{log_of, log_buffer, send_of, send_out, login_read_refusal, thresholds_of, wanted_above, response_record, login_refusal, login_of, passing, seek, place_of, tells_at, complete_bytes, bytes_at, after_at, step_of, step_out}
use Rattle.venue.specs.VenueDay.{Bench, empty, adds, takes_login, step_to, step_sends}
use Rattle.venue.specs.Brings.{list_for}

-- an Order Acknowledgment of a unit, with a number under 256 and no bitfields
abbrev msg : ℕ → ℕ → Bytes
msg unit number = header_bytes 46 0x25 unit number ++ (zeros 8 ++ ((0x41 ∷ zeros 19) ++ zeros 10))

-- a login of a table with unit 1 at 1, blank names and no bitfields
abbrev login_with : Choice → Bytes
login_with choice = logins.session_bytes (login_record (raised_table zero_table 1 1 0) choice (zeros 18) none none)
  where
    none : Bitfields
    none = record { given = false; count = 0; bits = zeros 15 }

-- one that lists unit 1 and leaves the others out, with flag 1
abbrev login : Bytes
login = login_with (record { which = 1; flag = 1; count = 1; units = record { 0 = 1 } ∷ replicate 31 (record { 0 = 0 }) })

-- three messages are logged: two of unit 1, one of unit 2
abbrev logged : Bench
logged = adds 200 (msg 1 2) (adds 200 (msg 2 1) (adds 200 (msg 1 1) empty))

-- then the login is taken
abbrev day : Bench
day = takes_login 443 login logged

abbrev later : Bench
later = adds 200 (msg 2 2) (step_to 2048 (step_to 2048 day))

-- the second message of unit 1 comes first, then Replay Complete, then nothing; a later message of unit 2 is sent all the same; with 47 bytes of
-- room nothing is
pub a-day : (step_sends 2048 day ∷ step_sends 2048 (step_to 2048 day) ∷ step_sends 2048 (step_to 2048 (step_to 2048 day)) ∷ step_sends 2048 later ∷ step_sends 47 day ∷ [])
    ≡ (msg 1 2 ∷ []) ∷ (complete_bytes ∷ []) ∷ [] ∷ (msg 2 2 ∷ []) ∷ [] ∷ []
unfolding patched length_of total_of number_of not_ba starts_bad length_bad cut_short frame_refusal framed unit_refusal entry_refusal entry_of raised_table step_refusal dictionary.entry_of selected_at entry_at slots_from has_required count_at most_of unit_good fixed_good orders.read_refusal orders.head_refusal orders.block_refusal orders.body_refusal orders.rest_of middles.middle_size middles.middle_good lates.lacks lates.conflicts lates.late_refusal orders.bits_of orders.optional_of orders.fixed_of groups.units_from groups.pairs_good groups.bits_good groups.group_key groups.group_size groups.next_size groups.groups_from logins.read_refusal logins.fixed_size logins.values_good logins.flag_good logins.response_end logins.lists_end logins.body_end logins.body_of logins.write_refusal choice_of units_part bits_part group_count login_record group_from request_group group_flag listed_from group_listed roomless message_refusal next_refusal append_refusal appended_by append_of append_buffer log_of log_buffer send_of send_out login_read_refusal asked_above thresholds_of wanted_above response_record login_refusal login_of passing seek place_of tells_at bytes_at after_at step_of step_out
a-day = refl

-- and what the login brings, as one list: of the log's three messages the second of unit 1, Replay Complete, the later message
pub a_days_list : list_for login (msg 1 1 ∷ msg 2 1 ∷ msg 1 2 ∷ []) (msg 2 2 ∷ []) ≡ msg 1 2 ∷ complete_bytes ∷ msg 2 2 ∷ []
unfolding length_of total_of number_of not_ba starts_bad length_bad cut_short frame_refusal framed unit_refusal entry_of raised_table groups.units_from groups.pairs_good groups.group_key groups.group_size groups.next_size groups.groups_from logins.body_of logins.fixed_size logins.flag_good logins.lists_end logins.body_end choice_of units_part bits_part group_count login_record group_from request_group group_flag listed_from group_listed
a_days_list = refl

-- 02, request 6: what the venue sends in four steps after a login of that table in either form
abbrev four_after : Bool → List (List Bytes)
four_after full = steps (takes_login 443 (login_with (whole_table full)) logged)
  where
    steps : Bench → List (List Bytes)
    steps w = step_sends 2048 w ∷ step_sends 2048 (step_to 2048 w) ∷ step_sends 2048 (step_to 2048 (step_to 2048 w)) ∷ step_sends 2048 (step_to 2048 (step_to 2048 (step_to 2048 w))) ∷ []

-- the logins have 39 and 194 bytes, and flags 0 and 1; after either unit 2, which the short one does not list, is replayed from its first message, and
-- unit 1 from its second
pub both_forms : (length (login_with (whole_table false)) ∷ length (login_with (whole_table true)) ∷ get_or (login_with (whole_table false)) 32 0 ∷ get_or (login_with (whole_table true)) 32 0 ∷ [])
    ≡ 39 ∷ 194 ∷ 0 ∷ 1 ∷ []
unfolding unit_refusal entry_of raised_table groups.units_from groups.pairs_good groups.group_key groups.group_size groups.next_size groups.groups_from logins.fixed_size logins.flag_good logins.lists_end logins.body_end used_from choice_of units_part bits_part group_count login_record
both_forms = refl

pub the_same_after_both : (four_after false ∷ four_after true ∷ [])
    ≡ ((msg 2 1 ∷ []) ∷ (msg 1 2 ∷ []) ∷ (complete_bytes ∷ []) ∷ [] ∷ []) ∷ ((msg 2 1 ∷ []) ∷ (msg 1 2 ∷ []) ∷ (complete_bytes ∷ []) ∷ [] ∷ []) ∷ []
unfolding patched length_of total_of number_of not_ba starts_bad length_bad cut_short frame_refusal framed unit_refusal entry_refusal entry_of raised_table step_refusal dictionary.entry_of selected_at entry_at slots_from has_required count_at most_of unit_good fixed_good orders.read_refusal orders.head_refusal orders.block_refusal orders.body_refusal orders.rest_of middles.middle_size middles.middle_good lates.lacks lates.conflicts lates.late_refusal orders.bits_of orders.optional_of orders.fixed_of groups.units_from groups.pairs_good groups.bits_good groups.group_key groups.group_size groups.next_size groups.groups_from logins.read_refusal logins.fixed_size logins.values_good logins.flag_good logins.response_end logins.lists_end logins.body_end logins.body_of logins.write_refusal used_from choice_of units_part bits_part group_count login_record group_from request_group group_flag listed_from group_listed roomless message_refusal next_refusal append_refusal appended_by append_of append_buffer log_of log_buffer send_of send_out login_read_refusal asked_above thresholds_of wanted_above response_record login_refusal login_of passing seek place_of tells_at bytes_at after_at step_of step_out
the_same_after_both = refl
