-- What the code's functions must be proved to do, the simulation of the day over them by the abstract day, and demand 3 over any that do it.
-- Assumes nothing.
use Rattle.std.specs.Prelude.{◌≡◌, refl, Bool, true, false, ◌&&◌, List, [], ◌∷◌, ◌++◌, map, ℕ, ◌≤◌, length, take}
use Rattle.std.proofs.Common.{sym, ap, ◌∙◌}
use Rattle.std.proofs.lemmas.Bool.{false≢true}
use Rattle.day_model.specs.Moments.{with_member, no_line, on_line}
use Rattle.day_model.specs.Model.{Msg, Table, of_unit, count, messages, Phase, closed, asked, replaying, live, Sent, response, complete, aside, logout, Member, broken, in_phase, got, full, restart_of, restarted, Venue, took, stopped, logged, next_in_log, World, Event, logs, logs_in, takes_it, rejects, asides, logs_out, delivers, breaks, drops, strays, cuts, apply, run, start}
use Rattle.day_model.specs.Inv.{Inv, inv_run, inv_asking}
use Rattle.day_model.specs.Safe.{Readable}
use Rattle.day_model.specs.Steps.{moves_to, moves_send, many, run-many}
use Rattle.day_model.specs.Story.{Bytes, Code, Happens, the_log, a_login, a_sending, a_hearing, an_aside, a_bye, a_no, a_taking, a_step, a_stray, a_delivery, a_break, a_drop, a_cut, Now, now_login, now_taken, now_step, now_aside, now_bye, now_no, now_gets, now_drop, now_stray, next, story, dawn, All}
use Rattle.day_model.specs.Demand.{exact, restarts, TurnsLive, complete_whole, must_complete}

-- ---- what the code's functions must be proved to do: an equation a function

-- a step of the venue: so many of the model's
pub record StepIs (v v' : Venue) (xs : List Sent) : Type 0 where
  pub times : ℕ
  pub to : v' ≡ moves_to times v
  pub sent : xs ≡ moves_send times v

pub record Meets (C : Code) : Type 1 where
  -- views
  pub says : Bytes → Sent
  pub msg_of : Bytes → Msg
  pub view : C.State → Member
  pub view_v : C.Ven → Venue
  pub lists : Bytes → Table
  -- what holds of good states, of what stands on a line, of a login under way
  pub Good : C.State → Type 0
  pub GoodV : C.Ven → Type 0
  pub Fine : Bytes → Type 0
  pub OurLogin : Bytes → Type 0
  -- the member
  pub phase_is : (s : C.State) → (view s).phase ≡ C.phase s
  pub table_is : (s : C.State) → (view s).table ≡ C.table s
  pub new_good : Good C.new
  pub new_is : view C.new ≡ start.member
  pub login_good : (f : C.Fields) (out : Bytes) (s : C.State) → Good s → C.phase s ≡ closed → C.writes f out s ≡ true → Good (C.login f out s)
  pub login_is : (f : C.Fields) (out : Bytes) (s : C.State) → Good s → C.phase s ≡ closed → C.writes f out s ≡ true → view (C.login f out s) ≡ in_phase asked (view s)
  pub login-ours : (f : C.Fields) (out : Bytes) (s : C.State) → Good s → C.phase s ≡ closed → C.writes f out s ≡ true → OurLogin (C.login_bytes f out s)
  pub login-lists : (f : C.Fields) (out : Bytes) (s : C.State) → Good s → C.phase s ≡ closed → C.writes f out s ≡ true → lists (C.login_bytes f out s) ≡ C.table s
  pub sends_good : (room : ℕ) (b : Bytes) (s : C.State) → Good s → Good (C.sends room b s)
  pub sends_is : (room : ℕ) (b : Bytes) (s : C.State) → Good s → view (C.sends room b s) ≡ view s
  -- how much of a lent buffer a book may use
  pub cap : ℕ → ℕ
  pub gets_good : (room : ℕ) (b : Bytes) (s : C.State) → Fine b → Good s → Good (C.gets room b s)
  pub gets_is : (room : ℕ) (b : Bytes) (s : C.State) → Fine b → Good s → view (C.gets room b s) ≡ got (cap room) (says b) (view s)
  pub room_is : (room : ℕ) (b : Bytes) (s : C.State) → Fine b → Good s → C.no_room room b s ≡ full (cap room) (says b) (view s)
  pub ended_good : (room : ℕ) (s : C.State) → Good s → Good (C.ended room s)
  pub ended_is : (room : ℕ) (s : C.State) → Good s → view (C.ended room s) ≡ broken (cap room) (view s)
  pub keeps : ℕ → C.State → ℕ
  pub restart_good : (market k : ℕ) (s : C.State) → Good s → Readable (view s).book → Good (C.restart market k s)
  pub restart_is : (market k : ℕ) (s : C.State) → Good s → Readable (view s).book → view (C.restart market k s) ≡ restarted (restart_of (take (keeps k s) (view s).book)) (take (keeps k s) (view s).book)
  -- the venue
  pub empty_good : GoodV C.empty
  pub empty_is : view_v C.empty ≡ start.venue
  pub running_is : (v : C.Ven) → (view_v v).running ≡ C.running v
  pub log_is : (v : C.Ven) → (view_v v).log ≡ map msg_of (C.log_of v)
  pub readable : ℕ → Bytes → C.Ven → Bool
  pub adds_good : (room : ℕ) (b : Bytes) (v : C.Ven) → GoodV v → GoodV (C.adds room b v)
  pub adds_is : (room : ℕ) (b : Bytes) (v : C.Ven) → GoodV v → view_v (C.adds room b v) ≡ logged (readable room b v && next_in_log (msg_of b) (view_v v)) (msg_of b) (view_v v)
  pub hears_good : (market : ℕ) (b : Bytes) (v : C.Ven) → GoodV v → GoodV (C.hears market b v)
  pub hears_is : (market : ℕ) (b : Bytes) (v : C.Ven) → GoodV v → view_v (C.hears market b v) ≡ view_v v
  -- a login is taken only outside a session; ours is, with room for the answer
  pub accepts_idle : (room : ℕ) (b : Bytes) (v : C.Ven) → C.accepts room b v ≡ true → C.running v ≡ false
  pub answer_room : ℕ
  pub accepts-ours : (room : ℕ) (b : Bytes) (v : C.Ven) → OurLogin b → GoodV v → C.running v ≡ false → answer_room ≤ room → C.accepts room b v ≡ true
  pub takes_good : (room : ℕ) (b : Bytes) (v : C.Ven) → C.accepts room b v ≡ true → GoodV v → GoodV (C.takes_login room b v)
  pub strays_is : (room : ℕ) (b : Bytes) (v : C.Ven) → C.accepts room b v ≡ true → GoodV v → (t : Table) × (view_v (C.takes_login room b v) ≡ took t (view_v v))
  -- a login that lists no more than the log holds, as ours does
  pub takes_is : (room : ℕ) (b : Bytes) (v : C.Ven) → OurLogin b → C.accepts room b v ≡ true → GoodV v → ((u : ℕ) → lists b u ≤ count u (view_v v).log) → view_v (C.takes_login room b v) ≡ took (lists b) (view_v v)
  pub answers-fine : (room : ℕ) (b : Bytes) (v : C.Ven) → C.accepts room b v ≡ true → GoodV v → All Fine (C.answers room b v)
  pub answers_is : (room : ℕ) (b : Bytes) (v : C.Ven) → C.accepts room b v ≡ true → GoodV v → map says (C.answers room b v) ≡ response true ∷ []
  pub step_good : (room : ℕ) (v : C.Ven) → GoodV v → C.running v ≡ true → GoodV (C.step_to room v)
  pub step-fine : (room : ℕ) (v : C.Ven) → GoodV v → C.running v ≡ true → All Fine (C.step_sends room v)
  pub step_is : (room : ℕ) (v : C.Ven) → GoodV v → C.running v ≡ true → StepIs (view_v v) (view_v (C.step_to room v)) (map says (C.step_sends room v))
  pub stop_good : (v : C.Ven) → GoodV v → GoodV (C.stop v)
  pub stop_is : (v : C.Ven) → GoodV v → view_v (C.stop v) ≡ stopped (view_v v)
  pub aside_fine : (b : Bytes) → C.is_aside b ≡ true → Fine (C.aside_bytes b)
  pub aside_is : (b : Bytes) → C.is_aside b ≡ true → says (C.aside_bytes b) ≡ aside
  pub bye_fine : (b : Bytes) → C.is_bye b ≡ true → Fine (C.bye b)
  pub bye_is : (b : Bytes) → C.is_bye b ≡ true → says (C.bye b) ≡ logout
  pub no_fine : (b : Bytes) → C.is_no b ≡ true → Fine (C.no b)
  pub no_is : (b : Bytes) → C.is_no b ≡ true → says (C.no b) ≡ response false

pub all_append : (P : Bytes → Type 0) (a b : List Bytes) → All P a → All P b → All P (a ++ b)
all_append P [] b h k = k
all_append P (x ∷ a) b h k = (h.0, all_append P a b h.1 k)

pub map-++ : {Y X : Type 0} (f : Y → X) (a b : List Y) → map f (a ++ b) ≡ map f a ++ map f b
map-++ f [] b = refl
map-++ f (x ∷ a) b = rw (map-++ f a b)

put_is : (f : Bytes → Sent) (j : Bool) (q xs : List Bytes) → map f (on_line j q xs) ≡ on_line j (map f q) (map f xs)
put_is f true q xs = map-++ f q xs
put_is f false q xs = refl

put-fine : (P : Bytes → Type 0) (j : Bool) (q xs : List Bytes) → All P q → All P xs → All P (on_line j q xs)
put-fine P true q xs h k = all_append P q xs h k
put-fine P false q xs h k = h

module _ (C : Code) (M : Meets C) where
  abbrev pub seen : Now C → World
  seen w = record { venue = M.view_v w.venue; member = M.view w.member; joined = w.joined; asks = w.asks; asking = M.lists w.asking; queue = map M.says w.queue; refused = w.refused; held = map M.msg_of w.held; left = w.left }

  pub record GoodNow (w : Now C) : Type 0 where
    pub member : M.Good w.member
    pub venue : M.GoodV w.venue
    pub queue : All M.Fine w.queue
    pub asking : w.asks ≡ true → M.OurLogin w.asking

  -- what happens, as events of the abstract world
  pub record Sim (w v : Now C) : Type 0 where
    pub good : GoodNow v
    pub events : List Event
    pub is : seen v ≡ run events (seen w)

  sim_log : (w : Now C) (room : ℕ) (b : Bytes) (r : Bool) → M.readable room b w.venue ≡ r → GoodNow w → Sim w (next C (the_log room b) w)
  sim_log w room b false e g = record {
    good = record { member = g.member; venue = M.adds_good room b w.venue g.venue; queue = g.queue; asking = g.asking };
    events = [];
    is = rw (M.adds_is room b w.venue g.venue, e);
  }
  sim_log w room b true e g = record {
    good = record { member = g.member; venue = M.adds_good room b w.venue g.venue; queue = g.queue; asking = g.asking };
    events = logs (M.msg_of b) ∷ [];
    is = rw (M.adds_is room b w.venue g.venue, e);
  }

  sim_login : (w : Now C) (p : Phase) (r : Bool) (f : C.Fields) (out : Bytes) → C.phase w.member ≡ p → C.writes f out w.member ≡ r → GoodNow w → Sim w (now_login C p r f out w)
  sim_login w closed true f out e k g = record {
    good = record { member = M.login_good f out w.member g.member e k; venue = g.venue; queue = tt; asking = λ _. M.login-ours f out w.member g.member e k };
    events = logs_in ∷ [];
    is = rw (M.phase_is w.member, e, M.login_is f out w.member g.member e k, M.login-lists f out w.member g.member e k, M.table_is w.member);
  }
  sim_login w closed false f out e k g = record { good = g; events = []; is = refl }
  sim_login w asked r f out e k g = record { good = g; events = []; is = refl }
  sim_login w replaying r f out e k g = record { good = g; events = []; is = refl }
  sim_login w live r f out e k g = record { good = g; events = []; is = refl }

  sim_sends : (w : Now C) (room : ℕ) (b : Bytes) → GoodNow w → Sim w (next C (a_sending room b) w)
  sim_sends w room b g = record {
    good = record { member = M.sends_good room b w.member g.member; venue = g.venue; queue = g.queue; asking = g.asking };
    events = [];
    is = rw (M.sends_is room b w.member g.member);
  }

  sim_hears : (w : Now C) (market : ℕ) (b : Bytes) → GoodNow w → Sim w (next C (a_hearing market b) w)
  sim_hears w market b g = record {
    good = record { member = g.member; venue = M.hears_good market b w.venue g.venue; queue = g.queue; asking = g.asking };
    events = [];
    is = rw (M.hears_is market b w.venue g.venue);
  }

  sim_taken : (w : Now C) (a r : Bool) (room : ℕ) → Inv (seen w) → w.asks ≡ a → C.accepts room w.asking w.venue ≡ r → GoodNow w → Sim w (now_taken C a r room w)
  sim_taken w false r room h e f g = record { good = g; events = []; is = refl }
  sim_taken w true false room h e f g = record { good = g; events = []; is = refl }
  sim_taken w true true room h e f g =
      let o = g.asking e in
      let i = M.accepts_idle room w.asking w.venue f in
      let low : (u : ℕ) → M.lists w.asking u ≤ count u (M.view_v w.venue).log = (h.waits e).low in
      record {
        good = record { member = g.member; venue = M.takes_good room w.asking w.venue f g.venue; queue = all_append M.Fine w.queue (C.answers room w.asking w.venue) g.queue (M.answers-fine room w.asking w.venue f g.venue); asking = λ z. absurd (false≢true z) };
        events = takes_it ∷ [];
        is = rw (e, M.running_is w.venue, i, M.takes_is room w.asking w.venue o f g.venue low, map-++ M.says w.queue (C.answers room w.asking w.venue), M.answers_is room w.asking w.venue f g.venue, M.log_is w.venue);
      }

  sim_step : (w : Now C) (r : Bool) (room : ℕ) → C.running w.venue ≡ r → GoodNow w → Sim w (now_step C r room w)
  sim_step w false room e g = record { good = g; events = []; is = refl }
  sim_step w true room e g =
      let s = M.step_is room w.venue g.venue e in
      record {
        good = record { member = g.member; venue = M.step_good room w.venue g.venue e; queue = put-fine M.Fine w.joined w.queue (C.step_sends room w.venue) g.queue (M.step-fine room w.venue g.venue e); asking = g.asking };
        events = many s.times;
        is = rw (run-many s.times (seen w) (M.running_is w.venue ∙ e)) (rw (put_is M.says w.joined w.queue (C.step_sends room w.venue), s.to, s.sent));
      }

  sim_aside : (w : Now C) (k : Bool) (b : Bytes) → C.is_aside b ≡ k → GoodNow w → Sim w (now_aside C k b w)
  sim_aside w false b f g = record { good = g; events = []; is = refl }
  sim_aside w true b f g = record {
    good = record { member = g.member; venue = g.venue; queue = all_append M.Fine w.queue (C.aside_bytes b ∷ []) g.queue (M.aside_fine b f, tt); asking = g.asking };
    events = asides ∷ [];
    is = rw (map-++ M.says w.queue (C.aside_bytes b ∷ []), M.aside_is b f);
  }

  sim_bye : (w : Now C) (k : Bool) (b : Bytes) → C.is_bye b ≡ k → GoodNow w → Sim w (now_bye C k b w)
  sim_bye w false b f g = record { good = g; events = []; is = refl }
  sim_bye w true b f g = record {
    good = record { member = g.member; venue = g.venue; queue = all_append M.Fine w.queue (C.bye b ∷ []) g.queue (M.bye_fine b f, tt); asking = g.asking };
    events = logs_out ∷ [];
    is = rw (map-++ M.says w.queue (C.bye b ∷ []), M.bye_is b f);
  }

  sim_no : (w : Now C) (a k : Bool) (b : Bytes) → w.asks ≡ a → C.is_no b ≡ k → GoodNow w → Sim w (now_no C a k b w)
  sim_no w false k b e f g = record { good = g; events = []; is = refl }
  sim_no w true false b e f g = record { good = g; events = []; is = refl }
  sim_no w true true b e f g = record {
    good = record { member = g.member; venue = g.venue; queue = all_append M.Fine w.queue (C.no b ∷ []) g.queue (M.no_fine b f, tt); asking = λ z. absurd (false≢true z) };
    events = rejects ∷ [];
    is = rw (e, map-++ M.says w.queue (C.no b ∷ []), M.no_is b f);
  }

  sim_gets : (w : Now C) (q : List Bytes) (room : ℕ) → w.queue ≡ q → GoodNow w → Sim w (now_gets C q room w)
  sim_gets w [] room e g = record { good = g; events = []; is = refl }
  sim_gets w (x ∷ q) room e g =
      let k : All M.Fine (x ∷ q) = rw e at g.queue in
      record {
        good = record { member = M.gets_good room x w.member k.0 g.member; venue = g.venue; queue = k.1; asking = g.asking };
        events = delivers (M.cap room) ∷ [];
        is = rw (e, M.gets_is room x w.member k.0 g.member, M.room_is room x w.member k.0 g.member);
      }

  sim_off : (w : Now C) (s : C.State) (es : List Event) → M.Good s → GoodNow w → seen (no_line (with_member s w)) ≡ run es (seen w) → Sim w (no_line (with_member s w))
  sim_off w s es h g q = record { good = record { member = h; venue = g.venue; queue = tt; asking = λ z. absurd (false≢true z) }; events = es; is = q }

  broken_is : (w : Now C) (p : Phase) (room : ℕ) → C.phase w.member ≡ p → GoodNow w → seen (no_line (with_member (C.ended room w.member) w)) ≡ apply (breaks (M.cap room)) (seen w)
  broken_is w closed room e g = rw (M.ended_is room w.member g.member, M.phase_is w.member, e)
  broken_is w asked room e g = rw (M.ended_is room w.member g.member, M.phase_is w.member, e)
  broken_is w replaying room e g = rw (M.ended_is room w.member g.member, M.phase_is w.member, e)
  broken_is w live room e g = rw (M.ended_is room w.member g.member, M.phase_is w.member, e)

  sim_break : (w : Now C) (room : ℕ) → GoodNow w → Sim w (no_line (with_member (C.ended room w.member) w))
  sim_break w room g = sim_off w (C.ended room w.member) (breaks (M.cap room) ∷ []) (M.ended_good room w.member g.member) g (broken_is w (C.phase w.member) room refl g)

  sim_drop : (w : Now C) (r : Bool) → C.running w.venue ≡ r → GoodNow w → Sim w (now_drop C r w)
  sim_drop w false e g = record { good = g; events = []; is = refl }
  sim_drop w true e g = record {
    good = record { member = g.member; venue = M.stop_good w.venue g.venue; queue = g.queue; asking = g.asking };
    events = drops ∷ [];
    is = rw (M.running_is w.venue, e, M.stop_is w.venue g.venue);
  }

  sim_stray : (w : Now C) (r : Bool) (room : ℕ) (b : Bytes) → C.accepts room b w.venue ≡ r → GoodNow w → Sim w (now_stray C r room b w)
  sim_stray w false room b e g = record { good = g; events = []; is = refl }
  sim_stray w true room b e g =
      let t = M.strays_is room b w.venue e g.venue in
      let i = M.accepts_idle room b w.venue e in
      record {
        good = record { member = g.member; venue = M.takes_good room b w.venue e g.venue; queue = g.queue; asking = g.asking };
        events = strays t.0 ∷ [];
        is = rw (M.running_is w.venue, i, t.1);
      }

  pub sim : (e : Happens C.Fields) (w : Now C) → Inv (seen w) → GoodNow w → Sim w (next C e w)
  sim (the_log room b) w h g = sim_log w room b (M.readable room b w.venue) refl g
  sim (a_login f out) w h g = sim_login w (C.phase w.member) (C.writes f out w.member) f out refl refl g
  sim (a_sending room b) w h g = sim_sends w room b g
  sim (a_hearing market b) w h g = sim_hears w market b g
  sim (a_taking room) w h g = sim_taken w w.asks (C.accepts room w.asking w.venue) room h refl refl g
  sim (a_step room) w h g = sim_step w (C.running w.venue) room refl g
  sim (an_aside b) w h g = sim_aside w (C.is_aside b) b refl g
  sim (a_bye b) w h g = sim_bye w (C.is_bye b) b refl g
  sim (a_no b) w h g = sim_no w w.asks (C.is_no b) b refl refl g
  sim a_drop w h g = sim_drop w (C.running w.venue) refl g
  sim (a_stray room b) w h g = sim_stray w (C.accepts room b w.venue) room b refl g
  sim (a_delivery room) w h g = sim_gets w w.queue room refl g
  sim (a_break room) w h g = sim_break w room g
  sim (a_cut market k) w h g =
      let r : Readable (M.view w.member).book = record { headed = h.safe.headed; found = _; reads = h.safe.reads } in
      sim_off w (C.restart market k w.member) (cuts (M.keeps k w.member) ∷ []) (M.restart_good market k w.member g.member r) g (rw (M.restart_is market k w.member g.member r))

  pub record Holds (w : Now C) : Type 0 where
    pub good : GoodNow w
    pub inv : Inv (seen w)

  pub holds_all : (es : List (Happens C.Fields)) (w : Now C) → Holds w → Holds (story C es w)
  holds_all [] w h = h
  holds_all (e ∷ es) w h =
      let s = sim e w h.inv h.good in
      holds_all es (next C e w) (record { good = s.good; inv = rw s.is (inv_run s.events (seen w) h.inv) })

  pub holds : (es : List (Happens C.Fields)) → Holds (story C es (dawn C))
  holds es = holds_all es (dawn C) (record {
    good = record { member = M.new_good; venue = M.empty_good; queue = tt; asking = λ z. absurd (false≢true z) };
    inv = rw (M.empty_is, M.new_is) (inv_asking (M.lists []));
  })

-- ---- demand 3, over the code's own functions

module _ (C : Code) (M : Meets C) where
  abbrev pub at : List (Happens C.Fields) → Now C
  at es = story C es (dawn C)

  -- the messages of a unit in the member's book, and in the venue's log
  abbrev pub booked : ℕ → Now C → List Msg
  booked u w = of_unit u (messages (M.view w.member).book)

  abbrev pub of_log : ℕ → List Bytes → List Msg
  of_log u l = of_unit u (map M.msg_of l)

  pub record Firsts (w : Now C) (u : ℕ) : Type 0 where
    pub firsts : booked u w ≡ take (C.table w.member u) (of_log u (C.log_of w.venue))
    pub many : length (booked u w) ≡ C.table w.member u

  pub at_every_moment : (es : List (Happens C.Fields)) (u : ℕ) → Firsts (at es) u
  at_every_moment es u =
      let w = at es in
      let e = exact (seen C M w) (holds C M es).inv u in
      let t = ap (λ (f : Table). f u) (M.table_is w.member) in
      record { firsts = rw (← t, ← M.log_is w.venue) e.firsts; many = rw (← t) e.many }

  -- a cut at k bytes and its restart, for any market: the messages of the book are then those of the whole items that the cut kept
  pub each-restart : (es : List (Happens C.Fields)) (market k : ℕ)
      → messages (M.view (C.restart market k (at es).member)).book ≡ messages (take (M.keeps k (at es).member) (M.view (at es).member).book)
  each-restart es market k =
      let w = at es in
      let h = holds C M es in
      let r : Readable (M.view w.member).book = record { headed = h.inv.safe.headed; found = _; reads = h.inv.safe.reads } in
      rw (M.restart_is market k w.member h.good.member r) (restarts (seen C M w) (M.keeps k w.member) h.inv).kept

  pub record CompletesAt (w : Now C) (room : ℕ) : Type 0 where
    pub was : C.phase w.member ≡ replaying
    pub is : C.phase (next C (a_delivery room) w).member ≡ live

  -- a delivery, seen: the sim for a nonempty line is one delivery
  seen_delivery : (w : Now C) (room : ℕ) → GoodNow C M w → (q : List Bytes) → w.queue ≡ q → seen C M (now_gets C q room w) ≡ apply (delivers (M.cap room)) (seen C M w)
  seen_delivery w room g [] e = rw e
  seen_delivery w room g (x ∷ q) e =
      let k : All M.Fine (x ∷ q) = rw e at g.queue in
      rw (e, M.gets_is room x w.member k.0 g.member, M.room_is room x w.member k.0 g.member)

  pub when_a_replay_completes : (es : List (Happens C.Fields)) (room : ℕ) → CompletesAt (at es) room → (at es).refused ≡ false
      → (u : ℕ) → booked u (next C (a_delivery room) (at es)) ≡ of_log u (at es).held
  when_a_replay_completes es room c r u =
      let w = at es in
      let h = holds C M es in
      let s = seen_delivery w room h.good w.queue refl in
      let k : TurnsLive (seen C M w) (delivers (M.cap room)) = record { was = M.phase_is w.member ∙ c.was; is = ap (λ (v : World). v.member.phase) (sym s) ∙ M.phase_is (next C (a_delivery room) w).member ∙ c.is } in
      ap (λ (v : World). of_unit u (messages v.member.book)) s ∙ complete_whole (seen C M w) (delivers (M.cap room)) h.inv k r u

  pub replay_completes : (es : List (Happens C.Fields)) (room : ℕ) (rest : List Bytes) (b : Bytes) → (at es).left ≡ false → (at es).queue ≡ b ∷ rest → M.says b ≡ complete
      → CompletesAt (at es) room
  replay_completes es room rest b l e q =
      let w = at es in
      let h = holds C M es in
      let s = seen_delivery w room h.good w.queue refl in
      let k = must_complete (seen C M w) (M.cap room) (map M.says rest) h.inv l (ap (map M.says) e ∙ ap (λ (x : Sent). x ∷ map M.says rest) q) in
      record {
        was = sym (M.phase_is w.member) ∙ k.was;
        is = sym (M.phase_is (next C (a_delivery room) w).member) ∙ ap (λ (v : World). v.member.phase) s ∙ k.is;
      }
