-- Demand 3 of the calls over bytes, proved: what specs/Demand3Calls.antt states, from what day_proved proves of the session's own calls. Assumes nothing.
use Rattle.std.specs.Prelude.{ℕ, ◌≤◌, ◌≡◌, refl, Bool, false, eqb, length}
use Rattle.std.proofs.Common.{inl, inr, ⊎_elim, subst, ◌∙◌, arith}
use Rattle.std.proofs.Math.Path.{sym, ap, ap₂}
use Rattle.std.proofs.Math.Bool.{true, cond}
use mathlib.Core.List.{List, [], ◌∷◌, map}
use Rattle.std.proofs.Math.ListN.{take}
use borrow.Author.Tests.{le-ltb, eq-eqb, eqb-true}
use Rattle.numbers.specs.Numbers.{number_at}
use Rattle.wire.specs.Header.{type_of}
use Rattle.table.specs.Table.{unit_refusal, last_of}
use Rattle.session_messages.specs.Sessions as logins
use Rattle.calendar.specs.Calendar.{is_day}
use Rattle.book_restart.specs.Restarts.{restart_of}
use Rattle.book_calls.specs.TableBytes.{place_of}
use Rattle.book_calls.specs.BookBytes.{state_size, book_of, last_call}
use Rattle.book_calls.proofs.BookBytesLaws.{state_numbers}
use Rattle.day_model.specs.Model as days
use Rattle.day_model.specs.Story.{a_login, a_taking, a_delivery, a_cut, now_login}
use Rattle.day_model.specs.Halves.{VenueCode}
use Rattle.day_line.specs.Lines.{login_of_table}
use Rattle.session.specs.declared.Phase.{Phase}
use Rattle.session.specs.declared.Phase.TheVariants.{Closed, Replaying, Live}
use Rattle.session.specs.MemberDay as member
use Rattle.session_calls.specs.SessionBytes.{session_size, phase_of, phase_number, session_of, restart_call, login_call, phase_call}
use Rattle.session_calls.proofs.SessionBytesLaws.{phase_told}
use Rattle.session_calls.proofs.SessionRefusals.{restart-refused}
use Rattle.session_calls.proofs.SessionAgain.{phase_back}
use Rattle.day_proved.specs.Words.{Bytes, in_book, of_unit, newest}
use Rattle.day_proved.specs.Demand3 as day
use Rattle.day_proved.specs.Demand3.{SuchAVenue, Valid, OnlySequenced}
use Rattle.day_proved.specs.Proved.{small, login-writes, at_every_moment_the_book_holds_the_firsts, each_restart_keeps_every_whole_message, when_a_replay_completes_the_book_is_whole, a_login_is_written, a_venue_takes_it, the_replay_completes, only_sequenced_in_the_book}
use Rattle.day_proved.specs.AskedProved.{asked_at_every_moment}
use Rattle.day_calls.specs.CallsDay.{Given, fields_of, writes}
use Rattle.day_calls.specs.Demand3Calls.{day_of, Event, Moment, after, then, book, state, log, HoldsFirsts, AtEveryMoment, Accepted, OpenedAfresh, Restarts, EachRestart, Completes, WhenAReplayCompletes, Asks, ALoginIsWritten, Taken, AVenueTakesIt, TheReplayCompletes, OnlySequencedInTheBook, AnswersTheLast, AskedAtEveryMoment}
use Rattle.day_calls.specs.Matches.{opens_answer, writes-same, restart_is, restart_afresh}
use Rattle.day_calls.specs.Follows.{told, seen_with, Follows, both, both-next}

-- ---- a state's own words

-- the number at a unit's place is the table's
says : (s : Bytes) (u : ℕ) → unit_refusal u ≡ 0 → last_of (book_of s).table u ≡ number_at 4 (place_of u) s
unfolding book_of
says s u z = (state_numbers s).same u z

-- a phase is known by its number
by_number : (p q : Phase) → phase_number p ≡ phase_number q → p ≡ q
by_number p q e = sym (phase_back p) ∙ ap phase_of e ∙ phase_back q

module _ (date : ℕ) (d : is_day date ≡ true) (market : ℕ) (old : Bytes) (h : session_size ≤ length old) (X : VenueCode) (such : SuchAVenue X) where
  -- a statement of the session's own day, of the moment that the program's is
  back : (P : day.Moment date market X → Type 0) {w : Moment date market old X} {v : day.Moment date market X} (f : Follows date d market old h X such w v) → P v → P (seen_with date d market old h X such f.out w)
  back P f p = subst P (sym f.is) p

  -- a program's phase, as it is asked for
  asked_phase : {w : Moment date market old X} {v : day.Moment date market X} (f : Follows date d market old h X such w v) → phase_call (state date market old X w) ≡ phase_number v.member.session.phase
  asked_phase {w} f = sym (phase_told w.member.state f.long refl refl) ∙ ap (λ (m : day.Moment date market X). phase_number m.member.session.phase) f.is

  phase_is : {w : Moment date market old X} {v : day.Moment date market X} (f : Follows date d market old h X such w v) (p : Phase) → phase_call (state date market old X w) ≡ phase_number p → v.member.session.phase ≡ p
  phase_is f p e = by_number _ p (sym (asked_phase f) ∙ e)

  module _ (es : List Event) where
    abbrev w : Moment date market old X
    w = after date market old X es

    abbrev v : day.Moment date market X
    v = day.after date market X (map told es)

    f : Follows date d market old h X such w v
    f = (both date d market old h X such es).follows

    -- 1
    pub firsts : (u : ℕ) → unit_refusal u ≡ 0 → HoldsFirsts date market old X w u
    unfolding session_of
    firsts u z =
        let k = back (λ (m : day.Moment date market X). day.HoldsFirsts date market X m u) f (at_every_moment_the_book_holds_the_firsts date d market X such (map told es) u) in
        let n = says w.member.state u z in
        record {
          firsts = k.firsts ∙ ap (λ (i : ℕ). take i (of_unit u (log date market old X w))) n;
          many = k.many ∙ n;
        }

    -- 2
    restarted : (again k : ℕ) → Restarts date market old X w again k
    restarted again k =
        let r = back (λ (m : day.Moment date market X). day.Restarts date market X m again k) f (each_restart_keeps_every_whole_message date d market X such (map told es) again k) in
        let g = both-next date d market old h X such es (a_cut again k) in
        let c = subst (λ (m : day.Moment date market X). Follows date d market old h X such (then date market old X w (a_cut again k)) (day.then date market X m (a_cut again k))) (sym f.is) g in
        let ks = take k w.member.bytes in
        record {
          restarted = ⊎_elim
              (λ (a : day.Accepted date market X (seen_with date d market old h X such f.out w) again k).
              inl (record { answers = sym (call_is ks) ∙ a.answers }))
              (λ (a : day.OpenedAfresh date market X (seen_with date d market old h X such f.out w) again k).
              let q = restart_afresh date d (small date d market X such) old h again ks a.answers in
              inr (record {
                answers = q.0;
                unchanged = restart-refused date again ks old (λ z. let e : ◌≡◌ {A = ℕ} 22 0 = sym q.0 ∙ z in omega (arith, e));
                opens = opens_answer date d (small date d market X such) old h again;
                goes_on = q.1;
              }))
              r.restarted;
          kept = ap (λ (m : day.Moment date market X). in_book m.member.bytes) c.is ∙ r.kept;
        }
      where
        call_is : (ks : Bytes) → (restart_of date ks).refusal ≡ restart_call date ks old
        call_is ks = restart_is date d (small date d market X such) old h market ks

    -- 3
    completed : (room : ℕ) → Completes date market old X w room → w.refused ≡ false
        → (u : ℕ) → of_unit u (in_book (book date market old X (then date market old X w (a_delivery room)))) ≡ of_unit u w.held
    completed room c r u =
        let g = both-next date d market old h X such es (a_delivery room) in
        let k : day.Completes date market X v room = record { was = phase_is f Replaying c.was; is = phase_is g Live c.is } in
        ap (λ (m : day.Moment date market X). of_unit u (in_book m.member.bytes)) g.is
        ∙ when_a_replay_completes_the_book_is_whole date d market X such (map told es) room k (sym (ap (λ (m : day.Moment date market X). m.refused) f.is) ∙ r) u
        ∙ sym (ap (λ (m : day.Moment date market X). of_unit u m.held) f.is)

    -- 4
    written : (g : Given) (out : Bytes) → Valid (fields_of g) → 234 ≤ length out → phase_call (state date market old X w) ≡ 0 → Asks date market old X g out w (then date market old X w (a_login g out))
    unfolding session_of
    written g out valid long e =
        let n = both-next date d market old h X such es (a_login g out) in
        let a = a_login_is_written date d market X such (map told es) (fields_of g) out valid long (phase_is f Closed e) in
        let y : (then date market old X w (a_login g out)).asking ≡ logins.session_bytes (login_of_table (book_of w.member.state).table (fields_of g)) =
        ap (λ (m : day.Moment date market X). m.asking) n.is ∙ a.written
        ∙ sym (ap (λ (m : day.Moment date market X). logins.session_bytes (login_of_table m.member.session.book.table (fields_of g))) f.is) in
        let c : (session_of w.member.state).phase ≡ Closed = ap (λ (m : day.Moment date market X). m.member.session.phase) f.is ∙ phase_is f Closed e in
        let r : writes g out w.member ≡ true =
        writes-same date d (small date d market X such) f.out w.member f.long g out
        ∙ ap (λ (m : day.Moment date market X). member.writes (fields_of g) out m.member) f.is
        ∙ login-writes date d market X such (map told es) (fields_of g) out valid long (phase_is f Closed e) in
        record {
          answers = eqb-true (login_call g.bytes (length out) w.member.state) 0 r;
          phase = asked_phase n ∙ ap phase_number a.phase;
          asks = ap (λ (m : day.Moment date market X). m.asks) n.is ∙ a.asks;
          asking = ap₂ (λ (p : days.Phase) (b : Bool). (now_login (day_of date market old X) p b g out w).asking) (ap member.phase_of c) r;
          written = y;
        }

    -- 5
    taken : (room : ℕ) → w.asks ≡ true → X.running w.venue ≡ false → such.answer_room ≤ room → Taken date market old X w (then date market old X w (a_taking room))
    taken room a r l =
        let n = both-next date d market old h X such es (a_taking room) in
        let t = a_venue_takes_it date d market X such (map told es) room (sym (ap (λ (m : day.Moment date market X). m.asks) f.is) ∙ a) (sym (ap (λ (m : day.Moment date market X). X.running m.venue) f.is) ∙ r) l in
        record {
          running = ap (λ (m : day.Moment date market X). X.running m.venue) n.is ∙ t.running;
          joined = ap (λ (m : day.Moment date market X). m.joined) n.is ∙ t.joined;
          held = ap (λ (m : day.Moment date market X). m.held) n.is ∙ t.held ∙ sym (ap (λ (m : day.Moment date market X). X.log_of m.venue) f.is);
        }

    -- 6
    completes : (room : ℕ) (b : Bytes) (rest : List Bytes) → w.left ≡ false → w.queue ≡ b ∷ rest → type_of b ≡ 0x13 → Completes date market old X w room
    completes room b rest l q t =
        let n = both-next date d market old h X such es (a_delivery room) in
        let c = the_replay_completes date d market X such (map told es) room b rest (sym (ap (λ (m : day.Moment date market X). m.left) f.is) ∙ l) (sym (ap (λ (m : day.Moment date market X). m.queue) f.is) ∙ q) t in
        record { was = asked_phase f ∙ ap phase_number c.was; is = asked_phase n ∙ ap phase_number c.is }

    only : OnlySequenced (in_book (book date market old X w))
    only = back (λ (m : day.Moment date market X). OnlySequenced (in_book m.member.bytes)) f (only_sequenced_in_the_book date d market X such (map told es))

    last : (u : ℕ) → unit_refusal u ≡ 0 → AnswersTheLast date market old X w u
    unfolding session_of last_call
    last u z =
        let k = back (λ (m : day.Moment date market X). day.AnswersTheLast date market X m u) f (asked_at_every_moment date d market X such (map told es) u z) in
        let n = says w.member.state u z in
        record {
          part = k.part ∙ ap (λ (i : ℕ). newest [] (take i (of_unit u (log date market old X w)))) n;
          told = rw (eq-eqb (unit_refusal u) 0 z, le-ltb (length w.member.state) state_size (omega (arith, f.long))) (k.told ∙ ap (λ (i : ℕ). cond (eqb i 0) 26 0) n);
        }

pub at_every_moment_the_book_holds_the_firsts_over_c : AtEveryMoment
at_every_moment_the_book_holds_the_firsts_over_c date d market old h X such es u z = firsts date d market old h X such es u z

pub each_restart_keeps_every_whole_message_over_c : EachRestart
each_restart_keeps_every_whole_message_over_c date d market old h X such es again k = restarted date d market old h X such es again k

pub when_a_replay_completes_the_book_is_whole_over_c : WhenAReplayCompletes
when_a_replay_completes_the_book_is_whole_over_c date d market old h X such es room c r u = completed date d market old h X such es room c r u

pub a_login_is_written_over_c : ALoginIsWritten
a_login_is_written_over_c date d market old h X such es g out valid long e = written date d market old h X such es g out valid long e

pub a_venue_takes_it_over_c : AVenueTakesIt
a_venue_takes_it_over_c date d market old h X such es room a r l = taken date d market old h X such es room a r l

pub the_replay_completes_over_c : TheReplayCompletes
the_replay_completes_over_c date d market old h X such es room b rest l q t = completes date d market old h X such es room b rest l q t

pub only_sequenced_in_the_book_over_c : OnlySequencedInTheBook
only_sequenced_in_the_book_over_c date d market old h X such es = only date d market old h X such es

pub asked_at_every_moment_over_c : AskedAtEveryMoment
asked_at_every_moment_over_c date d market old h X such es u z = last date d market old h X such es u z
