-- 02, request 6, over the day: both forms of login bring the same replay, as `TheSameReplay` says. Assumes nothing.
use Rattle.std.specs.Prelude.{ℕ, ◌≤◌, ◌≡◌, Bool, true, false, List, length}
use Rattle.std.proofs.Common.{sym, ap, ◌∙◌}
use Rattle.table.specs.Table.{last_of}
use Rattle.calendar.specs.Calendar.{is_day}
use Rattle.day_model.specs.Model.{closed}
use Rattle.day_model.specs.Story.{a_taking, now_login, now_taken}
use Rattle.day_model.specs.Halves.{VenueCode, StepsAsTold}
use Rattle.day_model.specs.Brings.{Call, sent_by}
use Rattle.day_model.proofs.SameReplay.{Alike, same_replay}
use Rattle.day_line.specs.Lines.{Fields, our_line, lists, OurLogin}
use Rattle.session.specs.declared.Phase.TheVariants.{Closed}
use Rattle.session.specs.MemberDay.{phase_of, login_bytes}
use Rattle.session.proofs.MeetsMember.{our_login, our_login_lists}
use Rattle.venue.proofs.VenueLine.{spoken}
use Rattle.venue.proofs.SameReplay.{fine-clear}
use Rattle.day_proved.specs.Words.{Bytes}
use Rattle.day_proved.specs.Demand3.{SuchAVenue, day_of, Event, Moment, after, then, Valid, logged_in, TheSameReplay}
use Rattle.day_proved.specs.Proved.{small, good_of, login-writes, logs_in_lem, lists-low, venue_good}

module _ (date : ℕ) (d : is_day date ≡ true) (market : ℕ) (X : VenueCode) (such : SuchAVenue X) (told : StepsAsTold our_line X such) (es : List Event) where
  abbrev w : Moment date market X
  w = after date market X es

  module _ (e : w.member.session.phase ≡ Closed) (idle : X.running w.venue ≡ false) where
    -- a login that the venue takes
    module _ (f : Fields) (out : Bytes) (valid : Valid f) (long : 234 ≤ length out) (room : ℕ) (roomy : such.answer_room ≤ room) where
      abbrev b : Bytes
      b = login_bytes f out w.member

      pub ours : OurLogin b
      ours = our_login date d (small date d market X such) f out w.member (ap phase_of e) (login-writes date d market X such es f out valid long e) (good_of date d market X such es)

      pub lists-table : lists b ≡ last_of w.member.session.book.table
      lists-table = our_login_lists date d (small date d market X such) f out w.member (ap phase_of e) (login-writes date d market X such es f out valid long e) (good_of date d market X such es)

      pub takes_it_lem : X.accepts room b w.venue ≡ true
      takes_it_lem = such.accepts-ours room b w.venue ours (venue_good date d market X such es) idle roomy

      -- the venue after it
      pub taken : logged_in date market X w f out room ≡ X.takes_login room b w.venue
      taken =
          ap (λ (v : Moment date market X). (then date market X v (a_taking room)).venue) (logs_in_lem date d market X such es f out valid long e)
          ∙ ap (λ (c : Bool). (now_taken (day_of date market X) true c room (now_login (day_of date market X) closed true f out w)).venue) takes_it_lem

    module _ (f f' : Fields) (out out' : Bytes) (room room' : ℕ) (v : Valid f) (v' : Valid f') (l : 234 ≤ length out) (l' : 234 ≤ length out')
        (r : such.answer_room ≤ room) (r' : such.answer_room ≤ room') where
      pub same : (cs : List Call) → Alike our_line X such told cs (logged_in date market X w f out room) (logged_in date market X w f' out' room')
          → sent_by X cs (logged_in date market X w f out room) ≡ sent_by X cs (logged_in date market X w f' out' room')
      same cs a =
          let t = taken f out v l room r in
          let t' = taken f' out' v' l' room' r' in
          let x : Alike our_line X such told cs (X.takes_login room (b f out v l room r) w.venue) (X.takes_login room' (b f' out' v' l' room' r') w.venue) = rw (t, t') at a in
          ap (sent_by X cs) t
          ∙ same_replay our_line X such told spoken fine-clear w.venue (venue_good date d market X such es) room room' (b f out v l room r) (b f' out' v' l' room' r')
          (ours f out v l room r) (ours f' out' v' l' room' r') (lists-table f out v l room r ∙ sym (lists-table f' out' v' l' room' r')) (lists-low date d market X such es f out v l e)
          (takes_it_lem f out v l room r) (takes_it_lem f' out' v' l' room' r') cs x
          ∙ sym (ap (sent_by X cs) t')

-- BOTH FORMS BRING THE SAME REPLAY
pub both_forms_bring_the_same_replay : TheSameReplay
both_forms_bring_the_same_replay date d market X such told es f f' out out' room room' v v' l l' r r' e idle cs a = same date d market X such told es e idle f f' out out' room room' v v' l l' r r' cs a
