-- The day of the calls over bytes goes as the day of the session's own calls: after the same events the two are the same moment, but for the member's
-- outgoing number. Assumes nothing.
use Rattle.std.specs.Prelude.{ℕ, ◌≤◌, ◌≡◌, Bool, true, false, List, [], ◌∷◌, map, length, take}
use Rattle.std.proofs.Common.{⊎_elim, sym, ap, ap₂, subst, true≢false}
use Rattle.std.proofs.Math.Path.{refl}
use Rattle.table.specs.declared.OutgoingNumber.{OutgoingNumber}
use Rattle.calendar.specs.Calendar.{is_day}
use Rattle.day_model.specs.Model.{Phase, closed, asked, replaying, live}
use Rattle.day_model.specs.Moments.{with_member, new_line, no_line, with_queue, refusing}
use Rattle.day_model.specs.Story.{the_log, a_login, a_sending, a_hearing, an_aside, a_bye, a_no, a_taking, a_step, a_stray, a_delivery, a_break, a_drop, a_cut, now_login, now_taken, now_step, now_aside, now_bye, now_no, now_gets, now_drop, now_stray, story}
use Rattle.day_model.specs.Halves.{VenueCode}
use Rattle.session.specs.MemberDay as member
use Rattle.session.specs.MemberDay.{Desk, phase_of, refused_for_room}
use Rattle.session.proofs.MemberSteps.{Good}
use Rattle.session_calls.specs.SessionBytes.{session_size, session_of}
use Rattle.day_proved.specs.Words.{Bytes}
use Rattle.day_proved.specs.Demand3 as day
use Rattle.day_proved.specs.Demand3.{SuchAVenue, Accepted, OpenedAfresh}
use Rattle.day_proved.specs.Proved.{small, Reached, at-dawn, goes_on, member_good, restarts_from}
use Rattle.day_calls.specs.CallsDay.{Given, fields_of, desk_of, writes, login}
use Rattle.day_calls.specs.Demand3Calls.{day_of, Event, Moment, after, then}
use Rattle.day_calls.specs.Matches.{desk_with, gets_match, ended_match, sends_match, writes-same, bytes_same, login_match, opened_match, restart_accepted, restart_afresh}

-- an event, told of the session's own calls: what a login is given is the fields that its bytes are
abbrev pub told : Event → day.Event
told (the_log room b) = the_log room b
told (a_login g out) = a_login (fields_of g) out
told (a_sending room b) = a_sending room b
told (a_hearing market b) = a_hearing market b
told (an_aside b) = an_aside b
told (a_bye b) = a_bye b
told (a_no b) = a_no b
told (a_taking room) = a_taking room
told (a_step room) = a_step room
told (a_stray room b) = a_stray room b
told (a_delivery room) = a_delivery room
told (a_break room) = a_break room
told a_drop = a_drop
told (a_cut market k) = a_cut market k

module _ (date : ℕ) (d : is_day date ≡ true) (market : ℕ) (old : Bytes) (h : session_size ≤ length old) (X : VenueCode) (such : SuchAVenue X) where
  abbrev C : Type 0
  C = Moment date market old X

  abbrev D : Type 0
  D = day.Moment date market X

  -- the moment of the session's own day that a moment of the program's is, with an outgoing number
  abbrev pub seen_with : OutgoingNumber → C → D
  seen_with o w = record {
    venue = w.venue;
    member = desk_with o w.member;
    joined = w.joined;
    asks = w.asks;
    asking = w.asking;
    queue = w.queue;
    refused = w.refused;
    held = w.held;
    left = w.left;
  }

  -- the same moment but for the outgoing number
  pub record Follows (w : C) (v : D) : Type 0 where
    pub out : OutgoingNumber
    pub is : seen_with out w ≡ v
    pub long : session_size ≤ length w.member.state

  -- what the venue does, or nothing
  same : (w : C) (o : OutgoingNumber) → session_size ≤ length w.member.state → Follows w (seen_with o w)
  same w o l = record { out = o; is = refl; long = l }

  module _ (w : C) (o : OutgoingNumber) (l : session_size ≤ length w.member.state) where
    abbrev v : D
    v = seen_with o w

    taking : (a b : Bool) (room : ℕ) → Follows (now_taken (day_of date market old X) a b room w) (now_taken (day.day_of date market X) a b room v)
    taking true true room = record { out = o; is = refl; long = l }
    taking true false room = same w o l
    taking false b room = same w o l

    stepping : (a : Bool) (room : ℕ) → Follows (now_step (day_of date market old X) a room w) (now_step (day.day_of date market X) a room v)
    stepping true room = record { out = o; is = refl; long = l }
    stepping false room = same w o l

    asiding : (a : Bool) (b : Bytes) → Follows (now_aside (day_of date market old X) a b w) (now_aside (day.day_of date market X) a b v)
    asiding true b = record { out = o; is = refl; long = l }
    asiding false b = same w o l

    leaving_by : (a : Bool) (b : Bytes) → Follows (now_bye (day_of date market old X) a b w) (now_bye (day.day_of date market X) a b v)
    leaving_by true b = record { out = o; is = refl; long = l }
    leaving_by false b = same w o l

    turning : (a c : Bool) (b : Bytes) → Follows (now_no (day_of date market old X) a c b w) (now_no (day.day_of date market X) a c b v)
    turning true true b = record { out = o; is = refl; long = l }
    turning true false b = same w o l
    turning false c b = same w o l

    dropping : (a : Bool) → Follows (now_drop (day_of date market old X) a w) (now_drop (day.day_of date market X) a v)
    dropping true = record { out = o; is = refl; long = l }
    dropping false = same w o l

    straying : (a : Bool) (room : ℕ) (b : Bytes) → Follows (now_stray (day_of date market old X) a room b w) (now_stray (day.day_of date market X) a room b v)
    straying true room b = record { out = o; is = refl; long = l }
    straying false room b = same w o l

    -- a message is refused for room alike
    room-same : (room : ℕ) (b : Bytes) → refused_for_room room b (desk_of w.member) ≡ refused_for_room room b (desk_with o w.member)
    unfolding refused_for_room
    room-same room b = refl

    delivering : (q : List Bytes) (room : ℕ) → Good date (now_gets (day.day_of date market X) q room v).member
        → Follows (now_gets (day_of date market old X) q room w) (now_gets (day.day_of date market X) q room v)
    delivering [] room g = same w o l
    delivering (b ∷ q) room g =
        let m = gets_match date d (small date d market X such) o w.member l room b g in
        record {
          out = m.out;
          is = ap₂ (λ (x : Desk) (r : Bool). refusing r (with_queue q (with_member x v))) m.is (room-same room b);
          long = m.long;
        }

    logging : (p : Phase) (a b : Bool) → a ≡ b → (g : Given) (out : Bytes) → Good date v.member
        → Follows (now_login (day_of date market old X) p a g out w) (now_login (day.day_of date market X) p b (fields_of g) out v)
    logging closed true true e g out k =
        let m = login_match date d (small date d market X such) o w.member l g out k in
        record {
          out = m.out;
          is = ap₂ (λ (x : Desk) (y : Bytes). new_line y (with_member x v)) m.is (bytes_same date d (small date d market X such) o w.member l g out);
          long = m.long;
        }
    logging closed false false e g out k = same w o l
    logging closed true false e g out k = let z : ◌≡◌ {A = Bool} true false = e in absurd (true≢false z)
    logging closed false true e g out k = let z : ◌≡◌ {A = Bool} true false = sym e in absurd (true≢false z)
    logging asked a b e g out k = same w o l
    logging replaying a b e g out k = same w o l
    logging live a b e g out k = same w o l

    -- one thing more
    steps : (e : Event) → Good date v.member → Good date (day.then date market X v (told e)).member → Follows (then date market old X w e) (day.then date market X v (told e))
    steps (the_log room b) g g' = record { out = o; is = refl; long = l }
    steps (a_login f out) g g' = logging (phase_of (session_of w.member.state).phase) (writes f out w.member) (member.writes (fields_of f) out (desk_with o w.member)) (writes-same date d (small date d market X such) o w.member l f out) f out g
    steps (a_sending room b) g g' =
        let m = sends_match date d (small date d market X such) o w.member l room b g in
        record { out = m.out; is = ap (λ (x : Desk). with_member x v) m.is; long = m.long }
    steps (a_hearing told b) g g' = record { out = o; is = refl; long = l }
    steps (an_aside b) g g' = asiding (X.is_aside b) b
    steps (a_bye b) g g' = leaving_by (X.is_bye b) b
    steps (a_no b) g g' = turning w.asks (X.is_no b) b
    steps (a_taking room) g g' = taking w.asks (X.accepts room w.asking w.venue) room
    steps (a_step room) g g' = stepping (X.running w.venue) room
    steps (a_stray room b) g g' = straying (X.accepts room b w.venue) room b
    steps (a_delivery room) g g' = delivering w.queue room g'
    steps (a_break room) g g' =
        let m = ended_match date d (small date d market X such) o w.member l room g' in
        record { out = m.out; is = ap (λ (x : Desk). no_line (with_member x v)) m.is; long = m.long }
    steps a_drop g g' = dropping (X.running w.venue)
    steps (a_cut again k) g g' =
        let ks = take k w.member.bytes in
        let r = restarts_from date d market X such v g again k in
        let m = ⊎_elim
        (λ (a : Accepted date market X v again k). restart_accepted date d (small date d market X such) old h again ks a.answers g')
        (λ (a : OpenedAfresh date market X v again k). (restart_afresh date d (small date d market X such) old h again ks a.answers).2)
        r.restarted in
        record { out = m.out; is = ap (λ (x : Desk). no_line (with_member x v)) m.is; long = m.long }

  pub follows_on : (e : Event) (w : C) (u : D) → Follows w u → Reached date d market X such u → Follows (then date market old X w e) (day.then date market X u (told e))
  follows_on e w u f r =
      let g = member_good date d market X such u r in
      let g' = member_good date d market X such (day.then date market X u (told e)) (goes_on date d market X such (told e) u r) in
      subst (λ (x : D). Follows (then date market old X w e) (day.then date market X x (told e))) f.is
      (steps w f.out f.long e
      (subst (λ (x : D). Good date x.member) (sym f.is) g)
      (subst (λ (x : D). Good date (day.then date market X x (told e)).member) (sym f.is) g'))

  -- a moment of both days, after the same events
  pub record Both (w : C) (u : D) : Type 0 where
    pub follows : Follows w u
    pub reached : Reached date d market X such u

  both_on : (e : Event) (w : C) (u : D) → Both w u → Both (then date market old X w e) (day.then date market X u (told e))
  both_on e w u b = record { follows = follows_on e w u b.follows b.reached; reached = goes_on date d market X such (told e) u b.reached }

  both_all : (es : List Event) (w : C) (u : D) → Both w u → Both (story (day_of date market old X) es w) (story (day.day_of date market X) (map told es) u)
  both_all [] w u b = b
  both_all (e ∷ es) w u b = both_all es (then date market old X w e) (day.then date market X u (told e)) (both_on e w u b)

  at_first : Both (after date market old X []) (day.after date market X [])
  at_first =
      let m = opened_match date d (small date d market X such) old h market in
      record {
        follows = record {
          out = m.out;
          is = ap (λ (x : Desk). record { venue = X.empty; member = x; joined = false; asks = false; asking = []; queue = []; refused = false; held = []; left = false }) m.is;
          long = m.long;
        };
        reached = at-dawn date d market X such;
      }

  -- AFTER THE SAME EVENTS THE SAME MOMENT
  pub both : (es : List Event) → Both (after date market old X es) (day.after date market X (map told es))
  both es = both_all es (after date market old X []) (day.after date market X []) at_first

  pub both-next : (es : List Event) (e : Event) → Follows (then date market old X (after date market old X es) e) (day.then date market X (day.after date market X (map told es)) (told e))
  both-next es e = follows_on e (after date market old X es) (day.after date market X (map told es)) (both es).follows (both es).reached
