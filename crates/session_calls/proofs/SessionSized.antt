-- A session that bytes are has numbers of 32 bits, and each of the session's calls keeps that, where it is given bytes.
--     session_of-bytes     of a state's bytes
--     made-sized           of a book that was made, and so of what restart accepts
--     opened-sized, restarted-sized, received-sized, logged_in-sized, ordered-sized, broken-sized     of what each call answers
-- Assumes nothing.
use Rattle.std.proofs.Math.Path.{◌≡◌, refl}
use Rattle.std.proofs.Common.{ap, ◌∙◌, arith, eq-eqb, eqb-true}
use Rattle.std.specs.Prelude.{Bool, List, ℕ, suc, ◌-◌, ◌<◌, get_or}
use Rattle.std.proofs.Math.Bool.{true, false, cond}
use Rattle.std.proofs.Math.Dec.{eqb}
use Rattle.std.proofs.lemmas.List.{get_or-replicate}
use Rattle.std.proofs.lemmas.Bool.{eqb-false}
use Rattle.refusals.specs.Names.{not_a_day, out_of_phase, numbers_used_up}
use Rattle.numbers.specs.NumberLaws.{number_fits}
use Rattle.wire.specs.Header.{type_of, unit_of, number_of}
use Rattle.wire.specs.HeaderLaws.{Bytes}
use Rattle.wire.specs.Frame.{framed}
use Rattle.table.specs.declared.Entry.{Entry}
use Rattle.table.specs.Table.{entry_at, blank_entry, last_of, raised_table}
use Rattle.table.proofs.TableLaws.{unit-taken, entry_is}
use Rattle.orders.specs.declared.Market.{Market}
use Rattle.orders.specs.Shapes.{sequenced}
use Rattle.messages.specs.Messages.{read_refusal}
use Rattle.session_messages.specs.declared.Record.{Record}
use Rattle.calendar.specs.Calendar.{is_day, day_refusal}
use Rattle.calendar.specs.CalendarLaws.{day_in_range}
use Rattle.book.specs.declared.Book.{Book}
use Rattle.book.specs.Books.{opened_book, append_refusal, appended_by}
use Rattle.book_restart.specs.Restarts.{restart_of}
use Rattle.book_restart.proofs.Cut.{Made, opens, books, marks, sound}
use Rattle.book_restart.proofs.Kept.{table_long}
use Rattle.book_restart.proofs.AnyBytes.{accepted_is_made}
use Rattle.book_calls.specs.BookBytes.{last_in, start_in}
use Rattle.book_calls.proofs.BookBytesLaws.{Sized}
use Rattle.book_calls.proofs.BookSized.{Fits, book_of-bytes, framed-bytes, set-fits, zero-fits, taken-sized, closed_sized}
use Rattle.session.specs.declared.Phase.TheVariants.{Asked, Replaying, Live}
use Rattle.session.specs.declared.Session.{Session}
use Rattle.session.specs.Sessions.{pick_session, closed_with, in_phase, with_book, is_closed, is_live, passes, ended_by, broken_by, responded_by, status_in, received_in, receive_refusal, received_by, receive_of, receive_answer, login_refusal, login_of, next_outgoing, order_refusal, order_of}
use Rattle.session.proofs.MeetsMember.{entries_fit}
use Rattle.session_calls.specs.SessionBytes.{outgoing_at, session_of}
use Rattle.session_calls.proofs.SessionAgain.{SizedSession}

-- ---- of bytes

pub session_of-bytes : (state : List ℕ) → Bytes state → SizedSession (session_of state)
unfolding session_of
session_of-bytes state b = record { book = book_of-bytes state b; outgoing = number_fits 4 outgoing_at state b }

-- ---- a book that was made: its numbers count its messages, its places are under its length

place-fits : {date n : ℕ} {b : Book} {xs : List ℕ} → Made date n b xs → (k : ℕ) → k < 32 → Fits (get_or b.table.entries k blank_entry).place.0
unfolding appended_by raised_table
place-fits opens k h = rw (get_or-replicate 32 k blank_entry blank_entry h) (omega arith)
place-fits (books {b = b} room s m z) k h =
    set-fits start_in b.table.entries (unit_of (framed s) - 1) (entry_at (number_of (framed s)) b.length) (table_long m) (omega (arith, (sound m).within)) (λ j l. place-fits m j l) k h
place-fits (marks room m z) k h = place-fits m k h

module _ (date : ℕ) (d : is_day date ≡ true) (small : date < 4294967296) where
  pub made_sized : {n : ℕ} {b : Book} {xs : List ℕ} → Made date n b xs → Sized b
  made_sized {b = b} m =
      let o = sound m in
      record {
        units = table_long m;
        entry = λ k h.
            let u = suc k in
            let z = unit-taken u (omega arith) (omega (arith, h)) in
            let i : u - 1 ≡ k = omega arith in
            let e : last_of b.table u ≡ (get_or b.table.entries k blank_entry).last.0 =
            ap (λ (x : Entry). x.last.0) (entry_is b.table u z ∙ ap (λ (j : ℕ). get_or b.table.entries j blank_entry) i) in
            omega (arith, e, entries_fit date d small m u);
        place = λ k h. place-fits m k h;
        date = omega (arith, o.dated, small);
        size = omega (arith, o.within);
        last = omega (arith, o.within, o.last_in_lem);
        count = omega (arith, o.within, o.counts);
      }

-- ---- opening and restart

pub opened-sized : (date : ℕ) (m : Market) → date < 4294967296 → SizedSession (closed_with m (opened_book date))
opened-sized date m h = record {
  book = record {
    units = refl;
    entry = zero-fits last_in refl;
    place = zero-fits start_in refl;
    date = h;
    size = omega arith;
    last = omega arith;
    count = omega arith;
  };
  outgoing = omega arith;
}

-- a date that is not refused is a day, so its number is of 32 bits
module _ (date : ℕ) (z : day_refusal date ≡ 0) where
  is_day_lem : is_day date ≡ true
  unfolding day_refusal
  is_day_lem = by (is_day date) z
    where
      by : (t : Bool) → ◌≡◌ {A = ℕ} (cond t 0 not_a_day) 0 → t ≡ true
      by true e = refl
      by false e = absurd (omega (arith, e))

  pub day-fits : date < 4294967296
  day-fits = omega (arith, (day_in_range date is_day_lem).1)

pub restarted-sized : (date : ℕ) (m : Market) (bytes : List ℕ) → Bytes bytes → (restart_of date bytes).refusal ≡ 0 → SizedSession (closed_with m (restart_of date bytes).book)
restarted-sized date m bytes b z =
    let a = accepted_is_made date bytes b z in
    record { book = made_sized date (is_day_lem date a.day) (day-fits date a.day) a.holds.made; outgoing = omega arith }

-- ---- a session's end, and any bytes from the venue

module _ (s : Session) (z : SizedSession s) (room : ℕ) where
  ended-sized : SizedSession (ended_by s room)
  unfolding ended_by
  ended-sized = record { book = closed_sized s.book z.book room; outgoing = z.outgoing }

  pub broken-sized : SizedSession (broken_by s room)
  unfolding broken_by
  broken-sized = by (is_closed s.phase)
    where
      by : (t : Bool) → SizedSession (pick_session t s (ended_by s room))
      by true = z
      by false = ended-sized

  responded_sized : (status received : ℕ) → Fits received → SizedSession (responded_by s status received room)
  unfolding responded_by
  responded_sized status received h = by (eqb status 65)
    where
      by : (t : Bool) → SizedSession (pick_session t (record { phase = Replaying; outgoing = record { 0 = received }; market = s.market; book = s.book }) (ended_by s room))
      by true = record { book = z.book; outgoing = h }
      by false = ended-sized

  module _ (bytes : List ℕ) (b : Bytes bytes) where
    abbrev m : List ℕ
    m = framed bytes

    -- a sequenced message that is not refused is one that the book takes
    appends : sequenced (type_of m) ≡ true → receive_refusal s room bytes ≡ 0 → append_refusal s.book room bytes ≡ 0
    unfolding receive_refusal
    appends v q = by (is_closed s.phase) (eqb (read_refusal 1 bytes) 0) (passes s.phase (type_of m)) refl (rw v at q)
      where
        by : (i j k : Bool) → eqb (read_refusal 1 bytes) 0 ≡ j
            → cond i out_of_phase (cond j (cond k (append_refusal s.book room bytes) out_of_phase) (read_refusal 1 bytes)) ≡ 0 → append_refusal s.book room bytes ≡ 0
        by true j k e y = absurd (omega (arith, y))
        by false true true e y = y
        by false true false e y = absurd (omega (arith, y))
        by false false k e y = absurd (eqb-false (read_refusal 1 bytes) 0 e y)

    passed_sized : receive_refusal s room bytes ≡ 0 → SizedSession (received_by s room m)
    unfolding received_by
    passed_sized q = by (eqb (type_of m) 0x24) (eqb (type_of m) 0x13) (eqb (type_of m) 0x08) (sequenced (type_of m)) refl
      where
        by : (i j k l : Bool) → sequenced (type_of m) ≡ l
            → SizedSession (pick_session i (responded_by s (status_in m) (received_in m) room)
            (pick_session j (in_phase Live s) (pick_session k (ended_by s room) (pick_session l (with_book s (appended_by s.book m)) s))))
        by true j k l e = responded_sized (status_in m) (received_in m) (number_fits 4 72 m (framed-bytes bytes b))
        by false true k l e = record { book = z.book; outgoing = z.outgoing }
        by false false true l e = ended-sized
        by false false false true e = record { book = taken-sized s.book z.book room bytes b (appends e q); outgoing = z.outgoing }
        by false false false false e = z

    pub received_sized : SizedSession (receive_answer s room bytes).session
    unfolding receive_of
    received_sized = by (eqb (receive_refusal s room bytes) 0) refl
      where
        by : (t : Bool) → eqb (receive_refusal s room bytes) 0 ≡ t → SizedSession (pick_session t (received_by s room m) s)
        by true e = passed_sized (eqb-true _ 0 e)
        by false e = z

-- ---- what goes out

module _ (s : Session) (z : SizedSession s) (room : ℕ) where
  pub logged_in-sized : (r : Record) → SizedSession (login_of s r room).session
  unfolding login_of
  logged_in-sized r = by (eqb (login_refusal s r room) 0)
    where
      by : (t : Bool) → SizedSession (pick_session t (in_phase Asked s) s)
      by true = record { book = z.book; outgoing = z.outgoing }
      by false = z

  module _ (given : List ℕ) where
    -- an order that is not refused finds a number left
    number_left : order_refusal s given room ≡ 0 → s.outgoing.0 ≡ 4294967295 → ⊥
    unfolding order_refusal
    number_left q e = by (is_live s.phase) (rw (eq-eqb s.outgoing.0 4294967295 e) at q)
      where
        by : (t : Bool) → ◌≡◌ {A = ℕ} (cond t numbers_used_up out_of_phase) 0 → ⊥
        by true y = omega (arith, y)
        by false y = omega (arith, y)

    pub ordered_sized : SizedSession (order_of s given room).session
    unfolding order_of
    ordered_sized = by (eqb (order_refusal s given room) 0) refl
      where
        by : (t : Bool) → eqb (order_refusal s given room) 0 ≡ t
            → SizedSession (pick_session t (record { phase = s.phase; outgoing = record { 0 = next_outgoing s }; market = s.market; book = s.book }) s)
        by true e = let n = number_left (eqb-true _ 0 e) in record { book = z.book; outgoing = omega (arith, z.outgoing, n) }
        by false e = z
