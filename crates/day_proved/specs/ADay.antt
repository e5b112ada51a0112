-- A day that computes: three messages are logged; the line breaks during one replay and again during the next; the book is cut in the middle of a
-- message; the third replay completes, and the book holds all that the log held. Assumes nothing.
use Rattle.std.specs.Prelude.{◌≡◌, refl, Bool, true, false, List, [], ◌∷◌, ◌++◌, ℕ}
use Rattle.std.proofs.Common.{ap}
use Rattle.numbers.specs.Numbers.{patched}
use Rattle.wire.specs.Header.{header_bytes, length_of, total_of, number_of}
use Rattle.wire.specs.Frame.{not_ba, starts_bad, length_bad, cut_short, frame_refusal, framed}
use Rattle.table.specs.Table.{unit_refusal, entry_refusal, entry_of, raised_table, step_refusal}
use Rattle.dictionary.specs.Dictionary as dictionary
use Rattle.block.specs.Slots.{zeros}
use Rattle.block.specs.Places.{selected_at, entry_at, slots_from, has_required}
use Rattle.orders.specs.Shapes.{count_at, most_of, unit_good, fixed_good}
use Rattle.orders.specs.Middle as middles
use Rattle.orders.specs.Late as lates
use Rattle.orders.specs.Orders as orders
use Rattle.session_groups.specs.Groups as groups
use Rattle.session_messages.specs.Sessions as logins
use Rattle.session_logins.specs.declared.Bitfields.{Bitfields}
use Rattle.session_logins.specs.LoginRequests.{used_from, choice_of, units_part, bits_part, group_count, login_record}
use Rattle.session_fields.specs.SessionFields.{group_from, request_group, group_flag, listed_from, group_listed}
use Rattle.session_fields.specs.AskedFor.{asked_above}
use Rattle.messages.specs.Messages.{carries, own_refusal, read_refusal}
use Rattle.calendar.specs.Calendar.{leap, days_in, is_day, day_refusal}
use Rattle.book.specs.Books.{mark_bytes, open_refusal, open_of, open_buffer, roomless, message_refusal, next_refusal, append_refusal, appended_by, append_of, append_buffer, close_of, close_buffer}
use Rattle.book_restart.specs.Restarts.{front_zero, torn, mark_next, in_limit, found, next_book, run, first_mark, restart_of}
use Rattle.day_model.specs.Story.{the_log, a_login, a_taking, a_step, an_aside, a_delivery, a_break, a_drop, a_cut}
use Rattle.day_line.specs.Lines.{Fields}
use Rattle.session.specs.declared.Phase.{Phase}
use Rattle.session.specs.declared.Phase.TheVariants.{Live}
use Rattle.session.specs.Sessions.{passes, ended_by, broken_by, broken_buffer, responded_by, responded_buffer, receive_refusal, received_by, receive_of, received_buffer, receive_buffer, login_refusal, login_of, login_out}
use Rattle.session.specs.Booked.{item_of, item_length, items_from}
use Rattle.session.specs.MemberDay.{restarted_by, refused_for_room}
use Rattle.venue.specs.Venues as venue
use Rattle.venue.specs.VenueDay.{split, our_venue}
use Rattle.day_proved.specs.Words.{Bytes, in_book}
use Rattle.day_proved.specs.Demand3.{Event, Moment, after, then, book}

-- an Order Acknowledgment of a unit, with a number under 256 and no bitfields: 48 bytes
abbrev msg : ℕ → ℕ → Bytes
msg unit number = header_bytes 46 0x25 unit number ++ (zeros 8 ++ ((0x41 ∷ zeros 19) ++ zeros 10))

-- an Order Rejected with no bitfields: 101 bytes
abbrev rejection : Bytes
rejection = header_bytes 99 0x26 0 0 ++ (zeros 8 ++ ((0x41 ∷ zeros 19) ++ zeros 63))

-- names that are blank, and no bitfields asked for; with the full list of units by name, or with no choice of them
abbrev fields : Bool → Fields
fields full = record { names = zeros 18; long = refl; acknowledgments = none; executions = none; full = full }
  where
    none : Bitfields
    none = record { given = false; count = 0; bits = zeros 15 }

-- a login in one of the two forms, taken, and its response delivered
abbrev begins : Bool → List Event → List Event
begins full es = a_login (fields full) (zeros 300) ∷ a_taking 443 ∷ a_delivery 1000 ∷ es

-- the venue's next message, delivered
abbrev next : List Event → List Event
next es = a_step 2048 ∷ a_delivery 1000 ∷ es

-- a rejection, delivered
abbrev rejected : List Event → List Event
rejected es = an_aside rejection ∷ a_delivery 1000 ∷ es

-- a break that both sides see
abbrev breaks : List Event → List Event
breaks es = a_break 1000 ∷ a_drop ∷ es

-- three messages of two units; a replay that breaks after its first message, and one, of a login with the full list, that breaks after its next; a cut in the
-- middle of the second message, which stands after 16 + 48 + 16 bytes, with a restart for the other market; and a third replay, with a rejection between its
-- two messages, up to what the venue sends last
abbrev pub events : List Event
events =
    the_log 1000 (msg 1 1) ∷ the_log 1000 (msg 2 1) ∷ the_log 1000 (msg 1 2)
    ∷ begins false (next (breaks (begins true (next (breaks (a_cut 1 100 ∷ begins false (next (rejected (next (a_step 2048 ∷ []))))))))))

unfoldable pub last : Moment 20250819 0 our_venue
last = after 20250819 0 our_venue events

abbrev pub done : Moment 20250819 0 our_venue
done = then 20250819 0 our_venue last (a_delivery 1000)

-- what is told of it: before the last delivery whether a message was refused for room or a Logout was sent, what stands on the line, and what the log held
-- when the venue took the login; after it the phase, and the messages of the book
pub record Facts : Type 0 where
  pub refused : Bool
  pub left : Bool
  pub queue : List Bytes
  pub held : List Bytes
  pub phase : Phase
  pub booked : List Bytes

told : Moment 20250819 0 our_venue → Moment 20250819 0 our_venue → Facts
told w v = record { refused = w.refused; left = w.left; queue = w.queue; held = w.held; phase = v.member.session.phase; booked = in_book (book 20250819 0 our_venue v) }

-- the argument is computed once
told_from : Moment 20250819 0 our_venue → Facts
told_from w = told w (then 20250819 0 our_venue w (a_delivery 1000))

abbrev logged : List Bytes
logged = msg 1 1 ∷ msg 2 1 ∷ msg 1 2 ∷ []

-- the day, computed once
the_day : told_from last ≡ record { refused = false; left = false; queue = header_bytes 8 0x13 0 0 ∷ []; held = logged; phase = Live; booked = logged }
unfolding patched length_of total_of number_of not_ba starts_bad length_bad cut_short frame_refusal framed unit_refusal entry_refusal entry_of raised_table step_refusal dictionary.entry_of selected_at entry_at slots_from has_required count_at most_of unit_good fixed_good orders.read_refusal orders.head_refusal orders.block_refusal orders.body_refusal orders.rest_of middles.middle_size middles.middle_good lates.lacks lates.conflicts lates.late_refusal orders.bits_of orders.optional_of orders.fixed_of groups.units_from groups.pairs_good groups.bits_good groups.group_key groups.group_size groups.next_size groups.groups_from logins.read_refusal logins.fixed_size logins.values_good logins.flag_good logins.response_end logins.lists_end logins.body_end logins.body_of logins.write_refusal logins.write_buffer used_from choice_of units_part bits_part group_count login_record group_from request_group group_flag listed_from group_listed carries own_refusal read_refusal leap days_in is_day day_refusal mark_bytes open_refusal open_of open_buffer roomless message_refusal next_refusal append_refusal appended_by append_of append_buffer close_of close_buffer front_zero torn mark_next in_limit found next_book run first_mark restart_of passes ended_by broken_by broken_buffer responded_by responded_buffer receive_refusal received_by receive_of received_buffer receive_buffer login_refusal login_of login_out item_of item_length items_from restarted_by refused_for_room venue.log_of venue.log_buffer venue.send_of venue.send_out venue.login_read_refusal asked_above venue.thresholds_of venue.wanted_above venue.response_record venue.login_refusal venue.login_of venue.login_out venue.passing venue.seek venue.place_of venue.tells_at venue.bytes_at venue.after_at venue.step_of venue.step_out venue.broken_of split last told told_from
the_day = refl

-- before the last delivery no message was refused for room, no Logout was sent, Replay Complete stands alone on the line, and the log held three messages
-- when the venue took the login
pub none_was_refused : last.refused ≡ false
unfolding told told_from
none_was_refused = ap (λ (f : Facts). f.refused) the_day

pub no_logout_was_sent : last.left ≡ false
unfolding told told_from
no_logout_was_sent = ap (λ (f : Facts). f.left) the_day

pub the_line_ends_with_replay_complete : last.queue ≡ header_bytes 8 0x13 0 0 ∷ []
unfolding told told_from
the_line_ends_with_replay_complete = ap (λ (f : Facts). f.queue) the_day

pub the_log_held_three : last.held ≡ msg 1 1 ∷ msg 2 1 ∷ msg 1 2 ∷ []
unfolding told told_from
the_log_held_three = ap (λ (f : Facts). f.held) the_day

-- after it: live, with a full book
pub the_day_ends_live : done.member.session.phase ≡ Live
unfolding told told_from
the_day_ends_live = ap (λ (f : Facts). f.phase) the_day

pub the_book_is_full : in_book (book 20250819 0 our_venue done) ≡ msg 1 1 ∷ msg 2 1 ∷ msg 1 2 ∷ []
unfolding told told_from
the_book_is_full = ap (λ (f : Facts). f.booked) the_day
