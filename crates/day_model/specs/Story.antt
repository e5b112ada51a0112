-- One trading day over the code's own functions: member and venue, the line between them with bytes on it, and what may happen. Definitions alone.
-- Assumes nothing.
use Rattle.std.specs.Prelude.{Bool, true, false, List, [], ◌∷◌, ℕ}
use Rattle.day_model.specs.Moments.{MomentOf, with_venue, with_member, with_queue, sending, on_line, new_line, no_line, joining, turned_down, apart, refusing, leaving}
use Rattle.day_model.specs.Model.{Table, Phase, closed, asked, replaying, live}

abbrev pub Bytes : Type 0
Bytes = List ℕ

-- ---- what the code offers: the functions that its contracts cite

-- a number is the length of the buffer that is lent, and of a restart the market that it is told and the bytes that a cut kept; of what a venue hears it is
-- the market that the call is told
pub record Code : Type 1 where
  -- the member: its state, and of it phase and table; a new one, with a new book
  pub State : Type 0
  pub phase : State → Phase
  pub table : State → Table
  pub new : State
  -- a login, by what the desk gives it and by the buffer that is lent for it: whether it is written, the state after it, and what then stands in the
  -- buffer's front
  pub Fields : Type 0
  pub writes : Fields → Bytes → State → Bool
  pub login : Fields → Bytes → State → State
  pub login_bytes : Fields → Bytes → State → Bytes
  -- the state after it got a message, after it sent an order; whether a message is refused for room
  pub gets : ℕ → Bytes → State → State
  pub sends : ℕ → Bytes → State → State
  pub no_room : ℕ → Bytes → State → Bool
  -- the state after a break, and after a cut and its restart
  pub ended : ℕ → State → State
  pub restart : ℕ → ℕ → State → State
  -- a venue: a new one; whether a session runs; the messages of its log
  pub Ven : Type 0
  pub empty : Ven
  pub running : Ven → Bool
  pub log_of : Ven → List Bytes
  -- the state after its log was offered a message, and after it heard what a member sends
  pub adds : ℕ → Bytes → Ven → Ven
  pub hears : ℕ → Bytes → Ven → Ven
  -- a login: whether it is taken, the state after it, and what is answered
  pub accepts : ℕ → Bytes → Ven → Bool
  pub takes_login : ℕ → Bytes → Ven → Ven
  pub answers : ℕ → Bytes → Ven → List Bytes
  -- a step: the state after it, and what it sends; and the state after a break
  pub step_to : ℕ → Ven → Ven
  pub step_sends : ℕ → Ven → List Bytes
  pub stop : Ven → Ven
  -- which bytes are a heartbeat or an unsequenced message, and what of them goes on the line; which are a Logout, and what of them goes on the line; which are a Login Response of another status than A, and what of them does
  pub is_aside : Bytes → Bool
  pub aside_bytes : Bytes → Bytes
  pub is_bye : Bytes → Bool
  pub bye : Bytes → Bytes
  pub is_no : Bytes → Bool
  pub no : Bytes → Bytes

-- what may happen. A number is the length of the buffer that is lent, and of a cut the bytes that are kept
pub data Happens (F : Type 0) : Type 0 where
  -- the venue's log is offered a message
  the_log : ℕ → Bytes → Happens F
  -- the member logs in with its whole table, on a new line; the bytes are what stands in the buffer that is lent for the login
  a_login : F → Bytes → Happens F
  -- the member sends an order; the venue gets what a member sends: any bytes at any time, so that whatever orders and heartbeats the member's calls write
  -- are among them
  a_sending : ℕ → Bytes → Happens F
  a_hearing : ℕ → Bytes → Happens F
  -- the venue sends a heartbeat or an unsequenced message, or a Logout: at any time, so before its answer to a login too. Where the member has no line, its session is closed and
  -- takes nothing
  an_aside : Bytes → Happens F
  a_bye : Bytes → Happens F
  -- the venue answers the login on the line with another status than A: no session begins
  a_no : Bytes → Happens F
  -- the venue is given the login on the line; it makes a step
  a_taking a_step : ℕ → Happens F
  -- the venue is given a login that is not on the member's line: late, from a line that is gone
  a_stray : ℕ → Bytes → Happens F
  -- the line delivers its next
  a_delivery : ℕ → Happens F
  -- the member sees the line break; the venue sees the line of its session break
  a_break : ℕ → Happens F
  a_drop : Happens F
  -- the book is cut, and the member restarts for the day and for a market, any each time, with the opening after a 22
  a_cut : ℕ → ℕ → Happens F

-- a moment of the day
abbrev pub Now : Code → Type 0
Now C = MomentOf C.Ven C.State Bytes Bytes Bytes

module _ (C : Code) where
  -- closed? is it written? A login that is not written, like one that the venue does not take, is refused, and a refused call changes nothing
  abbrev pub now_login : Phase → Bool → C.Fields → Bytes → Now C → Now C
  now_login closed true f out w = new_line (C.login_bytes f out w.member) (with_member (C.login f out w.member) w)
  now_login closed false f out w = w
  now_login asked r f out w = w
  now_login replaying r f out w = w
  now_login live r f out w = w

  -- a login on the line? does the venue take it?
  abbrev pub now_taken : Bool → Bool → ℕ → Now C → Now C
  now_taken true true room w =
      joining (C.log_of w.venue) (sending (C.answers room w.asking w.venue) (with_venue (C.takes_login room w.asking w.venue) w))
  now_taken true false room w = w
  now_taken false r room w = w

  -- does a session run? what it sends goes on the line if the session is on it
  abbrev pub now_step : Bool → ℕ → Now C → Now C
  now_step true room w = with_queue (on_line w.joined w.queue (C.step_sends room w.venue)) (with_venue (C.step_to room w.venue) w)
  now_step false room w = w

  -- a heartbeat or an unsequenced message?
  abbrev pub now_aside : Bool → Bytes → Now C → Now C
  now_aside true b w = sending (C.aside_bytes b ∷ []) w
  now_aside false b w = w

  -- a Logout?
  abbrev pub now_bye : Bool → Bytes → Now C → Now C
  now_bye true b w = leaving (sending (C.bye b ∷ []) w)
  now_bye false b w = w

  -- a login on the line? an answer of another status than A?
  abbrev pub now_no : Bool → Bool → Bytes → Now C → Now C
  now_no true true b w = turned_down (sending (C.no b ∷ []) w)
  now_no true false b w = w
  now_no false r b w = w

  -- what the line delivers next, if anything stands on it
  abbrev pub now_gets : List Bytes → ℕ → Now C → Now C
  now_gets [] room w = w
  now_gets (x ∷ q) room w = refusing (C.no_room room x w.member) (with_queue q (with_member (C.gets room x w.member) w))

  -- does a session run? what it sent stays on the line
  abbrev pub now_drop : Bool → Now C → Now C
  now_drop true w = apart (with_venue (C.stop w.venue) w)
  now_drop false w = w

  -- does the venue take it? its session is on no line of the member's
  abbrev pub now_stray : Bool → ℕ → Bytes → Now C → Now C
  now_stray false room b w = w
  now_stray true room b w = apart (with_venue (C.takes_login room b w.venue) w)

  -- what each of them does
  abbrev pub next : Happens C.Fields → Now C → Now C
  next (the_log room b) w = with_venue (C.adds room b w.venue) w
  next (a_login f out) w = now_login (C.phase w.member) (C.writes f out w.member) f out w
  next (a_sending room b) w = with_member (C.sends room b w.member) w
  next (a_hearing market b) w = with_venue (C.hears market b w.venue) w
  next (a_taking room) w = now_taken w.asks (C.accepts room w.asking w.venue) room w
  next (a_step room) w = now_step (C.running w.venue) room w
  next (an_aside b) w = now_aside (C.is_aside b) b w
  next (a_bye b) w = now_bye (C.is_bye b) b w
  next (a_no b) w = now_no w.asks (C.is_no b) b w
  next (a_delivery room) w = now_gets w.queue room w
  next (a_break room) w = no_line (with_member (C.ended room w.member) w)
  next a_drop w = now_drop (C.running w.venue) w
  next (a_stray room b) w = now_stray (C.accepts room b w.venue) room b w
  next (a_cut market k) w = no_line (with_member (C.restart market k w.member) w)

  -- one after the other
  abbrev pub story : List (Happens C.Fields) → Now C → Now C
  story [] w = w
  story (e ∷ es) w = story es (next e w)

  -- a new book, a new log, no line
  abbrev pub dawn : Now C
  dawn = record { venue = C.empty; member = C.new; joined = false; asks = false; asking = []; queue = []; refused = false; held = []; left = false }

-- of every one of some bytes
abbrev pub All : (Bytes → Type 0) → List Bytes → Type 0
All P [] = Unit {0}
All P (b ∷ q) = P b × All P q
