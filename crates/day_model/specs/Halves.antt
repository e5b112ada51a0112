-- The interface in two halves, which meet in what a line carries: a member and a venue that are proved apart make the whole.
-- Assumes nothing.
use Rattle.std.specs.Prelude.{◌≡◌, Bool, true, false, ◌&&◌, List, [], ◌∷◌, map, ℕ, suc, ◌≤◌, length, take}
use Rattle.day_model.specs.Model.{Msg, Table, count, Phase, closed, asked, Sent, response, aside, logout, Member, broken, in_phase, got, full, restart_of, restarted, Venue, took, stopped, logged, next_in_log, start}
use Rattle.day_model.specs.Safe.{Readable}
use Rattle.day_model.specs.Steps.{doc_step}
use Rattle.day_model.specs.Story.{Bytes, All, Code}
use Rattle.day_model.specs.Generic.{Meets, StepIs}

-- what a line carries, and what its ends make of it: what bytes say, and as which message of the log; what a login lists; which bytes a venue sends,
-- and which are a login of ours
pub record Line : Type 1 where
  pub says : Bytes → Sent
  pub msg_of : Bytes → Msg
  pub lists : Bytes → Table
  pub Fine : Bytes → Type 0
  pub OurLogin : Bytes → Type 0

-- the member's part of `Code`, and the venue's
pub record MemberCode : Type 1 where
  pub State : Type 0
  pub phase : State → Phase
  pub table : State → Table
  pub new : State
  pub Fields : Type 0
  pub writes : Fields → Bytes → State → Bool
  pub login : Fields → Bytes → State → State
  pub login_bytes : Fields → Bytes → State → Bytes
  pub gets : ℕ → Bytes → State → State
  pub sends : ℕ → Bytes → State → State
  pub no_room : ℕ → Bytes → State → Bool
  pub ended : ℕ → State → State
  pub restart : ℕ → ℕ → State → State

pub record VenueCode : Type 1 where
  pub Ven : Type 0
  pub empty : Ven
  pub running : Ven → Bool
  pub log_of : Ven → List Bytes
  pub adds : ℕ → Bytes → Ven → Ven
  pub hears : ℕ → Bytes → Ven → Ven
  pub accepts : ℕ → Bytes → Ven → Bool
  pub takes_login : ℕ → Bytes → Ven → Ven
  pub answers : ℕ → Bytes → Ven → List Bytes
  pub step_to : ℕ → Ven → Ven
  pub step_sends : ℕ → Ven → List Bytes
  pub stop : Ven → Ven
  pub is_aside : Bytes → Bool
  pub aside_bytes : Bytes → Bytes
  pub is_bye : Bytes → Bool
  pub bye : Bytes → Bytes
  pub is_no : Bytes → Bool
  pub no : Bytes → Bytes

-- both together
abbrev pub code : MemberCode → VenueCode → Code
code A B = record {
  State = A.State;
  phase = A.phase;
  table = A.table;
  new = A.new;
  Fields = A.Fields;
  writes = A.writes;
  login = A.login;
  login_bytes = A.login_bytes;
  gets = A.gets;
  sends = A.sends;
  no_room = A.no_room;
  ended = A.ended;
  restart = A.restart;
  Ven = B.Ven;
  empty = B.empty;
  running = B.running;
  log_of = B.log_of;
  adds = B.adds;
  hears = B.hears;
  accepts = B.accepts;
  takes_login = B.takes_login;
  answers = B.answers;
  step_to = B.step_to;
  step_sends = B.step_sends;
  stop = B.stop;
  is_aside = B.is_aside;
  aside_bytes = B.aside_bytes;
  is_bye = B.is_bye;
  bye = B.bye;
  is_no = B.is_no;
  no = B.no;
}

-- such a member: an equation a function, on states that it can come to
pub record MeetsMember (L : Line) (A : MemberCode) : Type 1 where
  pub view : A.State → Member
  pub Good : A.State → Type 0
  pub phase_is : (s : A.State) → (view s).phase ≡ A.phase s
  pub table_is : (s : A.State) → (view s).table ≡ A.table s
  pub new_good : Good A.new
  pub new_is : view A.new ≡ start.member
  -- a closed session's login: the state after it, and that what stands in the buffer's front is a login of ours with the whole table
  pub login_good : (f : A.Fields) (out : Bytes) (s : A.State) → Good s → A.phase s ≡ closed → A.writes f out s ≡ true → Good (A.login f out s)
  pub login_is : (f : A.Fields) (out : Bytes) (s : A.State) → Good s → A.phase s ≡ closed → A.writes f out s ≡ true → view (A.login f out s) ≡ in_phase asked (view s)
  pub login-ours : (f : A.Fields) (out : Bytes) (s : A.State) → Good s → A.phase s ≡ closed → A.writes f out s ≡ true → L.OurLogin (A.login_bytes f out s)
  pub login-lists : (f : A.Fields) (out : Bytes) (s : A.State) → Good s → A.phase s ≡ closed → A.writes f out s ≡ true → L.lists (A.login_bytes f out s) ≡ A.table s
  pub sends_good : (room : ℕ) (b : Bytes) (s : A.State) → Good s → Good (A.sends room b s)
  pub sends_is : (room : ℕ) (b : Bytes) (s : A.State) → Good s → view (A.sends room b s) ≡ view s
  -- how much of a lent buffer a book may use
  pub cap : ℕ → ℕ
  pub gets_good : (room : ℕ) (b : Bytes) (s : A.State) → L.Fine b → Good s → Good (A.gets room b s)
  pub gets_is : (room : ℕ) (b : Bytes) (s : A.State) → L.Fine b → Good s → view (A.gets room b s) ≡ got (cap room) (L.says b) (view s)
  pub room_is : (room : ℕ) (b : Bytes) (s : A.State) → L.Fine b → Good s → A.no_room room b s ≡ full (cap room) (L.says b) (view s)
  pub ended_good : (room : ℕ) (s : A.State) → Good s → Good (A.ended room s)
  pub ended_is : (room : ℕ) (s : A.State) → Good s → view (A.ended room s) ≡ broken (cap room) (view s)
  pub keeps : ℕ → A.State → ℕ
  pub restart_good : (market k : ℕ) (s : A.State) → Good s → Readable (view s).book → Good (A.restart market k s)
  pub restart_is : (market k : ℕ) (s : A.State) → Good s → Readable (view s).book → view (A.restart market k s) ≡ restarted (restart_of (take (keeps k s) (view s).book)) (take (keeps k s) (view s).book)

-- Such a venue: its log only grows, and it keeps and replays it as document 01 says. Said on states that it can come to, over the venue of Model.antt.
pub record MeetsVenue (L : Line) (B : VenueCode) : Type 1 where
  -- how a state is seen, and which it can come to
  pub view_v : B.Ven → Venue
  pub GoodV : B.Ven → Type 0
  -- a new one has an empty log and no session
  pub empty_good : GoodV B.empty
  pub empty_is : view_v B.empty ≡ start.venue
  pub running_is : (v : B.Ven) → (view_v v).running ≡ B.running v
  pub log_is : (v : B.Ven) → (view_v v).log ≡ map L.msg_of (B.log_of v)
  -- a message that is offered is put at the log's end, with the next number of its unit, or nothing changes; which the log can read and has room
  -- for is the venue's own
  pub readable : ℕ → Bytes → B.Ven → Bool
  pub adds_good : (room : ℕ) (b : Bytes) (v : B.Ven) → GoodV v → GoodV (B.adds room b v)
  pub adds_is : (room : ℕ) (b : Bytes) (v : B.Ven) → GoodV v → view_v (B.adds room b v) ≡ logged (readable room b v && next_in_log (L.msg_of b) (view_v v)) (L.msg_of b) (view_v v)
  -- what a member sends changes neither log nor replay
  pub hears_good : (market : ℕ) (b : Bytes) (v : B.Ven) → GoodV v → GoodV (B.hears market b v)
  pub hears_is : (market : ℕ) (b : Bytes) (v : B.Ven) → GoodV v → view_v (B.hears market b v) ≡ view_v v
  -- a login is taken only outside a session; ours is, with room for the answer
  pub accepts_idle : (room : ℕ) (b : Bytes) (v : B.Ven) → B.accepts room b v ≡ true → B.running v ≡ false
  pub answer_room : ℕ
  pub accepts-ours : (room : ℕ) (b : Bytes) (v : B.Ven) → L.OurLogin b → GoodV v → B.running v ≡ false → answer_room ≤ room → B.accepts room b v ≡ true
  pub takes_good : (room : ℕ) (b : Bytes) (v : B.Ven) → B.accepts room b v ≡ true → GoodV v → GoodV (B.takes_login room b v)
  -- any login that is taken begins a session that goes through the log from its first message on
  pub strays_is : (room : ℕ) (b : Bytes) (v : B.Ven) → B.accepts room b v ≡ true → GoodV v → (t : Table) × (view_v (B.takes_login room b v) ≡ took t (view_v v))
  -- ours is sent what is above the numbers that it lists; it lists no more than the log holds
  pub takes_is : (room : ℕ) (b : Bytes) (v : B.Ven) → L.OurLogin b → B.accepts room b v ≡ true → GoodV v → ((u : ℕ) → L.lists b u ≤ count u (view_v v).log) → view_v (B.takes_login room b v) ≡ took (L.lists b) (view_v v)
  -- what is taken is answered with status A
  pub answers-fine : (room : ℕ) (b : Bytes) (v : B.Ven) → B.accepts room b v ≡ true → GoodV v → All L.Fine (B.answers room b v)
  pub answers_is : (room : ℕ) (b : Bytes) (v : B.Ven) → B.accepts room b v ≡ true → GoodV v → map L.says (B.answers room b v) ≡ response true ∷ []
  -- a step goes some way in the log's order, sends of it what is above, and Replay Complete at the place where the log stood at login; it may send
  -- nothing, or more than one; what it sends can be read
  pub step_good : (room : ℕ) (v : B.Ven) → GoodV v → B.running v ≡ true → GoodV (B.step_to room v)
  pub step-fine : (room : ℕ) (v : B.Ven) → GoodV v → B.running v ≡ true → All L.Fine (B.step_sends room v)
  pub step_is : (room : ℕ) (v : B.Ven) → GoodV v → B.running v ≡ true → StepIs (view_v v) (view_v (B.step_to room v)) (map L.says (B.step_sends room v))
  -- a break ends the session
  pub stop_good : (v : B.Ven) → GoodV v → GoodV (B.stop v)
  pub stop_is : (v : B.Ven) → GoodV v → view_v (B.stop v) ≡ stopped (view_v v)
  -- heartbeats, unsequenced messages and Logouts, which it may send at any time, and answers of another status, with which it may turn a login down, can be read as such
  pub aside_fine : (b : Bytes) → B.is_aside b ≡ true → L.Fine (B.aside_bytes b)
  pub aside_is : (b : Bytes) → B.is_aside b ≡ true → L.says (B.aside_bytes b) ≡ aside
  pub bye_fine : (b : Bytes) → B.is_bye b ≡ true → L.Fine (B.bye b)
  pub bye_is : (b : Bytes) → B.is_bye b ≡ true → L.says (B.bye b) ≡ logout
  pub no_fine : (b : Bytes) → B.is_no b ≡ true → L.Fine (B.no b)
  pub no_is : (b : Bytes) → B.is_no b ≡ true → L.says (B.no b) ≡ response false

-- one step of document 01's, of a venue v: to v', with xs sent
pub record StepsAs (v v' : Venue) (xs : List Sent) : Type 0 where
  pub to : v' ≡ (doc_step (suc (length v.log)) v).to
  pub sent : xs ≡ (doc_step (suc (length v.log)) v).sent

-- What the day does not ask for, and a replay that is to end does: with room for the longest message, a step is the one that document 01 describes. What
-- is not above the listed number is passed over, then the first that is goes out, or Replay Complete at the place where the log stood at login, or
-- nothing at the log's end.
pub record StepsAsTold (L : Line) (B : VenueCode) (N : MeetsVenue L B) : Type 1 where
  pub step_room : ℕ
  pub steps_as_told : (room : ℕ) (v : B.Ven) → N.GoodV v → B.running v ≡ true → step_room ≤ room
      → StepsAs (N.view_v v) (N.view_v (B.step_to room v)) (map L.says (B.step_sends room v))

-- a member and a venue that are proved apart are what the day asks for
abbrev pub both : (L : Line) (A : MemberCode) (B : VenueCode) → MeetsMember L A → MeetsVenue L B → Meets (code A B)
both L A B M N = record {
  says = L.says;
  msg_of = L.msg_of;
  lists = L.lists;
  Fine = L.Fine;
  OurLogin = L.OurLogin;
  view = M.view;
  Good = M.Good;
  phase_is = M.phase_is;
  table_is = M.table_is;
  new_good = M.new_good;
  new_is = M.new_is;
  login_good = M.login_good;
  login_is = M.login_is;
  login-ours = M.login-ours;
  login-lists = M.login-lists;
  sends_good = M.sends_good;
  sends_is = M.sends_is;
  cap = M.cap;
  gets_good = M.gets_good;
  gets_is = M.gets_is;
  room_is = M.room_is;
  ended_good = M.ended_good;
  ended_is = M.ended_is;
  keeps = M.keeps;
  restart_good = M.restart_good;
  restart_is = M.restart_is;
  view_v = N.view_v;
  GoodV = N.GoodV;
  empty_good = N.empty_good;
  empty_is = N.empty_is;
  running_is = N.running_is;
  log_is = N.log_is;
  readable = N.readable;
  adds_good = N.adds_good;
  adds_is = N.adds_is;
  hears_good = N.hears_good;
  hears_is = N.hears_is;
  takes_good = N.takes_good;
  takes_is = N.takes_is;
  answers-fine = N.answers-fine;
  answers_is = N.answers_is;
  step_good = N.step_good;
  step-fine = N.step-fine;
  step_is = N.step_is;
  accepts_idle = N.accepts_idle;
  answer_room = N.answer_room;
  accepts-ours = N.accepts-ours;
  strays_is = N.strays_is;
  stop_good = N.stop_good;
  stop_is = N.stop_is;
  aside_fine = N.aside_fine;
  aside_is = N.aside_is;
  bye_fine = N.bye_fine;
  bye_is = N.bye_is;
  no_fine = N.no_fine;
  no_is = N.no_is;
}
