-- Demand 3 of the calls over bytes: the statements alone. They are those of day_proved/specs/Demand3.antt, of a program whose state is a buffer of at least
-- 278 bytes and whose every step is one of the session's calls over it (specs/CallsDay.antt; gateway has the same calls for C); specs/ProvedCalls.antt
-- proves them. Assumes nothing.
use Rattle.std.specs.Prelude.{ℕ, ◌≤◌, ◌⊎◌, ◌≡◌, true, false, cond, List, [], ◌∷◌, eqb, length, take}
use Rattle.numbers.specs.Numbers.{number_at}
use Rattle.wire.specs.Header.{type_of}
use Rattle.wire.specs.Frame.{framed}
use Rattle.table.specs.Table.{unit_refusal}
use Rattle.session_messages.specs.Sessions.{session_bytes}
use Rattle.calendar.specs.Calendar.{is_day}
use Rattle.book_calls.specs.TableBytes.{place_of}
use Rattle.book_calls.specs.BookBytes.{book_of, last_call}
use Rattle.last_message.specs.Last.{last_part}
use Rattle.day_model.specs.Story.{Code, Happens, a_login, a_taking, a_delivery, a_cut, Now, next, story, dawn}
use Rattle.day_model.specs.Halves.{VenueCode, code}
use Rattle.day_line.specs.Lines.{login_of_table}
use Rattle.session_calls.specs.SessionBytes.{session_size, open_call, restart_call, restart_call_state, login_call, login_call_out, phase_call}
use Rattle.day_proved.specs.Words.{Bytes, in_book, of_unit, whole_in, newest}
use Rattle.day_proved.specs.Demand3.{SuchAVenue, Valid, OnlySequenced}
use Rattle.day_calls.specs.CallsDay.{Given, fields_of, opened, calls_member}

-- ---- the day

-- a program and such a venue, on a date; the first opening is for a market, and each restart for any. `old` stands in the state's buffer before the opening
-- and before each restart
abbrev pub day_of : ℕ → ℕ → Bytes → VenueCode → Code
day_of date market old X = code (calls_member date market old) X

-- what may happen on it, and a moment of it
abbrev pub Event : Type 0
Event = Happens Given

abbrev pub Moment : ℕ → ℕ → Bytes → VenueCode → Type 0
Moment date market old X = Now (day_of date market old X)

-- from a new book, after any logins, line breaks, cuts and whatever else may happen; and one thing more
abbrev pub after : (date market : ℕ) (old : Bytes) (X : VenueCode) → List Event → Moment date market old X
after date market old X es = story (day_of date market old X) es (dawn (day_of date market old X))

abbrev pub then : (date market : ℕ) (old : Bytes) (X : VenueCode) → Moment date market old X → Event → Moment date market old X
then date market old X w e = next (day_of date market old X) e w

module _ (date market : ℕ) (old : Bytes) (X : VenueCode) (w : Moment date market old X) where
  -- the book's bytes
  abbrev pub book : Bytes
  book = w.member.bytes

  -- the state's
  abbrev pub state : Bytes
  state = w.member.state

  -- the table's number of a unit: the four bytes at its place
  abbrev pub table_says : ℕ → ℕ
  table_says u = number_at 4 (place_of u) state

  -- the messages of the venue's log
  abbrev pub log : List Bytes
  log = X.log_of w.venue

-- ---- 1

-- 'At every moment outside a cut and its restart, with the opening after a 22, the book holds for each unit exactly the first messages of that
-- unit's log, byte for byte, and the table says how many.'
pub record HoldsFirsts (date market : ℕ) (old : Bytes) (X : VenueCode) (w : Moment date market old X) (u : ℕ) : Type 0 where
  pub firsts : of_unit u (in_book (book date market old X w)) ≡ take (table_says date market old X w u) (of_unit u (log date market old X w))
  pub many : length (of_unit u (in_book (book date market old X w))) ≡ table_says date market old X w u

abbrev pub AtEveryMoment : Type 1
AtEveryMoment =
    (date : ℕ) → is_day date ≡ true → (market : ℕ) (old : Bytes) → session_size ≤ length old → (X : VenueCode) → SuchAVenue X → (es : List Event) (u : ℕ) → unit_refusal u ≡ 0
    → HoldsFirsts date market old X (after date market old X es) u

-- ---- 2

-- 'Each such restart is accepted, or answers 22, changes nothing and is followed by an opening for that day with room for its mark; either way no
-- whole message that the cut kept is lost.'
module _ (date market : ℕ) (old : Bytes) (X : VenueCode) (w : Moment date market old X) (told k : ℕ) where
  pub record Accepted : Type 0 where
    pub answers : restart_call date (take k (book date market old X w)) old ≡ 0

  pub record OpenedAfresh : Type 0 where
    pub answers : restart_call date (take k (book date market old X w)) old ≡ 22
    pub unchanged : restart_call_state date told (take k (book date market old X w)) old ≡ old
    pub opens : open_call date 16 old ≡ 0
    pub goes_on : (then date market old X w (a_cut told k)).member ≡ opened told date old

  pub record Restarts : Type 0 where
    pub restarted : Accepted ⊎ OpenedAfresh
    pub kept : in_book (book date market old X (then date market old X w (a_cut told k))) ≡ whole_in k (book date market old X w)

abbrev pub EachRestart : Type 1
EachRestart =
    (date : ℕ) → is_day date ≡ true → (market : ℕ) (old : Bytes) → session_size ≤ length old → (X : VenueCode) → SuchAVenue X → (es : List Event) (told k : ℕ)
    → Restarts date market old X (after date market old X es) told k

-- ---- 3

-- a replay completes as the line delivers: the phase, as it is asked for, was 2 and is 3
pub record Completes (date market : ℕ) (old : Bytes) (X : VenueCode) (w : Moment date market old X) (room : ℕ) : Type 0 where
  pub was : phase_call (state date market old X w) ≡ 2
  pub is : phase_call (state date market old X (then date market old X w (a_delivery room))) ≡ 3

-- 'When a replay completes and no message since its login was refused for room, that is all the log held when the venue took the login.'
abbrev pub WhenAReplayCompletes : Type 1
WhenAReplayCompletes =
    (date : ℕ) → is_day date ≡ true → (market : ℕ) (old : Bytes) → session_size ≤ length old → (X : VenueCode) → SuchAVenue X → (es : List Event) (room : ℕ)
    → Completes date market old X (after date market old X es) room → (after date market old X es).refused ≡ false
    → (u : ℕ) → of_unit u (in_book (book date market old X (then date market old X (after date market old X es) (a_delivery room)))) ≡ of_unit u (after date market old X es).held

-- ---- 4

-- the call answers 0, the session has asked; what the call left in the front of the buffer that it was lent stands on a new line, and is the login with the
-- whole table
pub record Asks (date market : ℕ) (old : Bytes) (X : VenueCode) (g : Given) (out : Bytes) (w v : Moment date market old X) : Type 0 where
  pub answers : login_call g.bytes (length out) (state date market old X w) ≡ 0
  pub phase : phase_call (state date market old X v) ≡ 1
  pub asks : v.asks ≡ true
  pub asking : v.asking ≡ framed (login_call_out g.bytes out (state date market old X w))
  pub written : v.asking ≡ session_bytes (login_of_table (book_of (state date market old X w)).table (fields_of g))

-- 'With valid fields and room a closed session's login is written,' whatever stood in the buffer
abbrev pub ALoginIsWritten : Type 1
ALoginIsWritten =
    (date : ℕ) → is_day date ≡ true → (market : ℕ) (old : Bytes) → session_size ≤ length old → (X : VenueCode) → SuchAVenue X → (es : List Event) (g : Given) (out : Bytes)
    → Valid (fields_of g) → 234 ≤ length out → phase_call (state date market old X (after date market old X es)) ≡ 0
    → Asks date market old X g out (after date market old X es) (then date market old X (after date market old X es) (a_login g out))

-- a session runs on the line of that login, and what the log held is kept for 3
pub record Taken (date market : ℕ) (old : Bytes) (X : VenueCode) (w v : Moment date market old X) : Type 0 where
  pub running : X.running v.venue ≡ true
  pub joined : v.joined ≡ true
  pub held : v.held ≡ log date market old X w

-- 'a venue without a session takes it,' with room for its answer
abbrev pub AVenueTakesIt : Type 1
AVenueTakesIt =
    (date : ℕ) → is_day date ≡ true → (market : ℕ) (old : Bytes) → session_size ≤ length old → (X : VenueCode) (such : SuchAVenue X) (es : List Event) (room : ℕ)
    → (after date market old X es).asks ≡ true → X.running (after date market old X es).venue ≡ false → such.answer_room ≤ room
    → Taken date market old X (after date market old X es) (then date market old X (after date market old X es) (a_taking room))

-- 'and on a line that carries no Logout and meets no break or cut first, the replay completes as soon as the venue's Replay Complete is delivered.'
abbrev pub TheReplayCompletes : Type 1
TheReplayCompletes =
    (date : ℕ) → is_day date ≡ true → (market : ℕ) (old : Bytes) → session_size ≤ length old → (X : VenueCode) → SuchAVenue X → (es : List Event) (room : ℕ) (b : Bytes) (rest : List Bytes)
    → (after date market old X es).left ≡ false → (after date market old X es).queue ≡ b ∷ rest → type_of b ≡ 0x13
    → Completes date market old X (after date market old X es) room

-- ---- only sequenced messages, and the last message of a unit

-- 02, request 2
abbrev pub OnlySequencedInTheBook : Type 1
OnlySequencedInTheBook =
    (date : ℕ) → is_day date ≡ true → (market : ℕ) (old : Bytes) → session_size ≤ length old → (X : VenueCode) → SuchAVenue X → (es : List Event)
    → OnlySequenced (in_book (book date market old X (after date market old X es)))

-- 02, request 9: asked for the last message of a unit, the state and the book answer the last of those first messages of the unit's log, and 26 where
-- there is none
pub record AnswersTheLast (date market : ℕ) (old : Bytes) (X : VenueCode) (w : Moment date market old X) (u : ℕ) : Type 0 where
  pub part : last_part (book_of (state date market old X w)) u (book date market old X w) ≡ newest [] (take (table_says date market old X w u) (of_unit u (log date market old X w)))
  pub told : last_call u (book date market old X w) (state date market old X w) ≡ cond (eqb (table_says date market old X w u) 0) 26 0

abbrev pub AskedAtEveryMoment : Type 1
AskedAtEveryMoment =
    (date : ℕ) → is_day date ≡ true → (market : ℕ) (old : Bytes) → session_size ≤ length old → (X : VenueCode) → SuchAVenue X → (es : List Event) (u : ℕ) → unit_refusal u ≡ 0
    → AnswersTheLast date market old X (after date market old X es) u
