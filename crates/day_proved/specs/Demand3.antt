-- Demand 3: the statements alone. Each stands below the words that it answers; specs/Proved.antt proves them. A moment of the day (line, queue and what is
-- noted of them) is day_model/specs/Moments.antt, what may happen day_model/specs/Story.antt; what a venue must be is `MeetsVenue` in
-- day_model/specs/Halves.antt; the member's calls are session/specs/MemberDay.antt, the bench venue's venue/specs/VenueDay.antt, and what a line carries
-- is day_line/specs/Lines.antt. Assumes nothing.
use Rattle.std.specs.Prelude.{ℕ, ◌≤◌, ◌⊎◌, ◌≡◌, true, false, cond, List, [], ◌∷◌, eqb, length, take}
use Rattle.wire.specs.Header.{type_of}
use Rattle.wire.specs.Frame.{framed}
use Rattle.table.specs.Table.{unit_refusal, last_of}
use Rattle.session_messages.specs.Sessions.{names_good, session_bytes}
use Rattle.session_logins.proofs.LoginRequestLaws.{BitsInOrder}
use Rattle.orders.specs.Shapes.{sequenced}
use Rattle.calendar.specs.Calendar.{is_day}
use Rattle.book.specs.Books.{answer, blank_book, open_of}
use Rattle.book_restart.specs.Restarts.{restart_of}
use Rattle.last_message.specs.Last.{last_refusal, last_part}
use Rattle.day_model.specs.Story.{All, Code, Happens, a_login, a_taking, a_delivery, a_cut, Now, next, story, dawn}
use Rattle.day_model.specs.Halves.{VenueCode, MeetsVenue, StepsAsTold, code}
use Rattle.day_model.specs.Brings.{Call, sent_by}
use Rattle.day_model.proofs.SameReplay.{Alike}
use Rattle.day_line.specs.Lines.{Fields, login_of_table, our_line}
use Rattle.session.specs.declared.Phase.TheVariants.{Closed, Asked, Replaying, Live}
use Rattle.session.specs.Sessions.{login_out}
use Rattle.session.specs.MemberDay.{opened, our_member}
use Rattle.venue.specs.VenueDay.{our_venue}
use Rattle.day_proved.specs.Words.{Bytes, in_book, of_unit, whole_in, newest}

-- ---- the day

-- a venue whose log only grows and which keeps and replays it as document 01 says
abbrev pub SuchAVenue : VenueCode → Type 1
SuchAVenue X = MeetsVenue our_line X

-- our member and such a venue, on a date; the member's first opening is for a market, given by its number, and each restart for any (02, request 4)
abbrev pub day_of : ℕ → ℕ → VenueCode → Code
day_of date market X = code (our_member date market) X

-- what may happen on it, and a moment of it
abbrev pub Event : Type 0
Event = Happens Fields

abbrev pub Moment : ℕ → ℕ → VenueCode → Type 0
Moment date market X = Now (day_of date market X)

-- from a new book, after any logins, line breaks, cuts and whatever else may happen
abbrev pub after : (date market : ℕ) (X : VenueCode) → List Event → Moment date market X
after date market X es = story (day_of date market X) es (dawn (day_of date market X))

-- one thing more
abbrev pub then : (date market : ℕ) (X : VenueCode) → Moment date market X → Event → Moment date market X
then date market X w e = next (day_of date market X) e w

module _ (date market : ℕ) (X : VenueCode) (w : Moment date market X) where
  -- the book's bytes
  abbrev pub book : Bytes
  book = w.member.bytes

  -- the table's number of a unit
  abbrev pub table_says : ℕ → ℕ
  table_says u = last_of w.member.session.book.table u

  -- the messages of the venue's log
  abbrev pub log : List Bytes
  log = X.log_of w.venue

-- ---- 1

-- 'At every moment outside a cut and its restart, with the opening after a 22, the book holds for each unit exactly the first messages of that
-- unit's log, byte for byte, and the table says how many.'
pub record HoldsFirsts (date market : ℕ) (X : VenueCode) (w : Moment date market X) (u : ℕ) : Type 0 where
  pub firsts : of_unit u (in_book (book date market X w)) ≡ take (table_says date market X w u) (of_unit u (log date market X w))
  pub many : length (of_unit u (in_book (book date market X w))) ≡ table_says date market X w u

abbrev pub AtEveryMoment : Type 1
AtEveryMoment = (date : ℕ) → is_day date ≡ true → (market : ℕ) (X : VenueCode) → SuchAVenue X → (es : List Event) (u : ℕ) → HoldsFirsts date market X (after date market X es) u

-- ---- 2

-- 'Each such restart is accepted, or answers 22, changes nothing and is followed by an opening for that day with room for its mark; either way no
-- whole message that the cut kept is lost.' The restart has no buffer, so that there is nothing it could change.
module _ (date market : ℕ) (X : VenueCode) (w : Moment date market X) (told k : ℕ) where
  -- the restart on what the cut kept is accepted, whatever market it is told
  pub record Accepted : Type 0 where
    pub answers : (restart_of date (take k (book date market X w))).refusal ≡ 0

  -- or it answers 22, with no book; the opening has room for its mark, and the day goes on from what it leaves
  pub record OpenedAfresh : Type 0 where
    pub answers : restart_of date (take k (book date market X w)) ≡ answer 22 blank_book
    pub opens : (open_of date 16).refusal ≡ 0
    pub goes_on : (then date market X w (a_cut told k)).member ≡ opened told date

  pub record Restarts : Type 0 where
    pub restarted : Accepted ⊎ OpenedAfresh
    pub kept : in_book (book date market X (then date market X w (a_cut told k))) ≡ whole_in k (book date market X w)

abbrev pub EachRestart : Type 1
EachRestart = (date : ℕ) → is_day date ≡ true → (market : ℕ) (X : VenueCode) → SuchAVenue X → (es : List Event) (told k : ℕ) → Restarts date market X (after date market X es) told k

-- ---- 3

-- a replay completes as the line delivers
pub record Completes (date market : ℕ) (X : VenueCode) (w : Moment date market X) (room : ℕ) : Type 0 where
  pub was : w.member.session.phase ≡ Replaying
  pub is : (then date market X w (a_delivery room)).member.session.phase ≡ Live

-- 'When a replay completes and no message since its login was refused for room, that is all the log held when the venue took the login.'
abbrev pub WhenAReplayCompletes : Type 1
WhenAReplayCompletes =
    (date : ℕ) → is_day date ≡ true → (market : ℕ) (X : VenueCode) → SuchAVenue X → (es : List Event) (room : ℕ)
    → Completes date market X (after date market X es) room → (after date market X es).refused ≡ false
    → (u : ℕ) → of_unit u (in_book (book date market X (then date market X (after date market X es) (a_delivery room)))) ≡ of_unit u (after date market X es).held

-- ---- 4

-- valid fields: names that agree with their kinds, and bitfields in order where some are asked for
pub record Valid (f : Fields) : Type 0 where
  pub names : names_good f.names ≡ true
  pub acknowledgments : f.acknowledgments.given ≡ true → BitsInOrder f.acknowledgments
  pub executions : f.executions.given ≡ true → BitsInOrder f.executions

-- the session has asked; what the call left in the front of the buffer that it was lent stands on a new line, and is the login with the whole table
pub record Asks (date market : ℕ) (X : VenueCode) (f : Fields) (out : Bytes) (w v : Moment date market X) : Type 0 where
  pub phase : v.member.session.phase ≡ Asked
  pub asks : v.asks ≡ true
  pub asking : v.asking ≡ framed (login_out w.member.session (login_of_table w.member.session.book.table f) out)
  pub written : v.asking ≡ session_bytes (login_of_table w.member.session.book.table f)

-- 'With valid fields and room a closed session's login is written,' whatever stood in the buffer
abbrev pub ALoginIsWritten : Type 1
ALoginIsWritten =
    (date : ℕ) → is_day date ≡ true → (market : ℕ) (X : VenueCode) → SuchAVenue X → (es : List Event) (f : Fields) (out : Bytes)
    → Valid f → 234 ≤ length out → (after date market X es).member.session.phase ≡ Closed
    → Asks date market X f out (after date market X es) (then date market X (after date market X es) (a_login f out))

-- a session runs on the line of that login, and what the log held is kept for 3
pub record Taken (date market : ℕ) (X : VenueCode) (w v : Moment date market X) : Type 0 where
  pub running : X.running v.venue ≡ true
  pub joined : v.joined ≡ true
  pub held : v.held ≡ log date market X w

-- 'a venue without a session takes it,' with room for its answer. That a venue turns a login down instead is an event of its own (`a_no`): no session
-- begins, and the member's ends with the answer
abbrev pub AVenueTakesIt : Type 1
AVenueTakesIt =
    (date : ℕ) → is_day date ≡ true → (market : ℕ) (X : VenueCode) (such : SuchAVenue X) (es : List Event) (room : ℕ)
    → (after date market X es).asks ≡ true → X.running (after date market X es).venue ≡ false → such.answer_room ≤ room
    → Taken date market X (after date market X es) (then date market X (after date market X es) (a_taking room))

-- 'and on a line that carries no Logout and meets no break or cut first, the replay completes as soon as the venue's Replay Complete is delivered.'
-- A break or a cut leaves nothing on the line.
abbrev pub TheReplayCompletes : Type 1
TheReplayCompletes =
    (date : ℕ) → is_day date ≡ true → (market : ℕ) (X : VenueCode) → SuchAVenue X → (es : List Event) (room : ℕ) (b : Bytes) (rest : List Bytes)
    → (after date market X es).left ≡ false → (after date market X es).queue ≡ b ∷ rest → type_of b ≡ 0x13
    → Completes date market X (after date market X es) room

-- ---- only sequenced messages

-- 02, request 2: 'Demand 3 speaks from then on of sequenced messages only.' The statements above speak of what the book holds, and at every moment, with
-- rejections on the line at any time (`an_aside`), that is sequenced messages only
abbrev pub OnlySequenced : List Bytes → Type 0
OnlySequenced bs = All (λ (b : Bytes). sequenced (type_of b) ≡ true) bs

abbrev pub OnlySequencedInTheBook : Type 1
OnlySequencedInTheBook =
    (date : ℕ) → is_day date ≡ true → (market : ℕ) (X : VenueCode) → SuchAVenue X → (es : List Event) → OnlySequenced (in_book (book date market X (after date market X es)))

-- 'and the venue's log holds no others': the bench's does not
abbrev pub OnlySequencedInTheLog : Type 0
OnlySequencedInTheLog = (date : ℕ) → is_day date ≡ true → (market : ℕ) (es : List Event) → OnlySequenced (log date market our_venue (after date market our_venue es))

-- ---- our bench venue is such a venue

-- with 443 bytes for its answer to a login; and, which the statements above do not ask for, its steps are those of document 01, with 2,048 bytes for each
pub record TheBenchIsSuchAVenue : Type 1 where
  pub such : SuchAVenue our_venue
  pub for_an_answer : such.answer_room ≡ 443
  pub told : StepsAsTold our_line our_venue such
  pub for_a_step : told.step_room ≡ 2048

-- ---- 02, request 6

-- 'Demand 3 holds for both forms of login': the form is one of the fields that the event of a login has, so that the statements above speak of the logins of
-- both forms, in any order, and of those of broken lines that still reach the venue. 'and it is to be shown that they bring the same replay': at any moment
-- of the day, with the session closed and no session at the venue, log in with any valid fields, in one form or the other. Whichever login the venue takes,
-- of whatever it is offered for its log and hears after it and of all the steps that it makes with room, all that it sends is the same, byte for byte. Two
-- things are asked of the venue for this: its steps are those of document 01, and whether its log can read a message that it is offered and has room for it is the
-- same after both (`Alike`)
module _ (date market : ℕ) (X : VenueCode) (w : Moment date market X) where
  -- the venue after it took the login
  abbrev pub logged_in : Fields → Bytes → ℕ → X.Ven
  logged_in f out room = (then date market X (then date market X w (a_login f out)) (a_taking room)).venue

abbrev pub TheSameReplay : Type 1
TheSameReplay =
    (date : ℕ) → is_day date ≡ true → (market : ℕ) (X : VenueCode) (such : SuchAVenue X) (told : StepsAsTold our_line X such) (es : List Event)
    (f f' : Fields) (out out' : Bytes) (room room' : ℕ)
    → Valid f → Valid f' → 234 ≤ length out → 234 ≤ length out' → such.answer_room ≤ room → such.answer_room ≤ room'
    → (after date market X es).member.session.phase ≡ Closed → X.running (after date market X es).venue ≡ false
    → (cs : List Call) → Alike our_line X such told cs (logged_in date market X (after date market X es) f out room) (logged_in date market X (after date market X es) f' out' room')
    → sent_by X cs (logged_in date market X (after date market X es) f out room) ≡ sent_by X cs (logged_in date market X (after date market X es) f' out' room')

-- ---- 02, request 9

-- the book, asked for the last message of a unit, answers the last of those first messages of the unit's log, byte for byte, as a part of itself; and 26
-- where there is none
pub record AnswersTheLast (date market : ℕ) (X : VenueCode) (w : Moment date market X) (u : ℕ) : Type 0 where
  pub part : last_part w.member.session.book u (book date market X w) ≡ newest [] (take (table_says date market X w u) (of_unit u (log date market X w)))
  pub told : last_refusal w.member.session.book u (book date market X w) ≡ cond (eqb (table_says date market X w u) 0) 26 0

-- at every moment of any day
abbrev pub AskedAtEveryMoment : Type 1
AskedAtEveryMoment =
    (date : ℕ) → is_day date ≡ true → (market : ℕ) (X : VenueCode) → SuchAVenue X → (es : List Event) (u : ℕ) → unit_refusal u ≡ 0
    → AnswersTheLast date market X (after date market X es) u
