-- What a login brings on the bench's line.
--     a_login_brings       from any state that the bench can come to, after any login that it takes, whatever it is offered for its log, whatever it hears
--                          and however many steps it makes, with whatever room: what it sent is a front of `list_for`, each step with room sends the next
--                          of it, and enough steps bring all of it
--     idle_is_whole        where a step with room is idle, all of it was sent
--     no_group_wants_all   a login with no group of units wants all
-- Assumes nothing.
use Rattle.std.specs.Prelude.{ℕ, zero, suc, ◌≤◌, ◌<◌, ◌≡◌, Bool, true, false, not, ltb, eqb, get_or, take, drop, replicate, Option, None, Some, unwrap_or}
use Rattle.std.proofs.Common.{arith, ap₂, ◌∙◌, true≢false, length-drop, take-append-drop, eqb-true, lt-ltb, le-ltb}
use Rattle.std.proofs.Math.Path.{refl, sym, ap, subst}
use mathlib.Core.List.{List, [], ◌∷◌, ◌++◌, map, append-nil, append_assoc, map-append}
use Rattle.std.proofs.Math.ListN.{length}
use Rattle.std.proofs.Math.Seq.{take-length}
use Rattle.std.proofs.lemmas.Bool.{eqb-false}
use Rattle.refusals.specs.Names.{out_of_phase}
use Rattle.wire.specs.Header.{unit_of, number_of}
use Rattle.wire.specs.Frame.{framed}
use Rattle.table.specs.declared.Entry.{Entry}
use Rattle.table.specs.Table.{unit_refusal, last_of}
use Rattle.table.proofs.TableLaws.{no_entry}
use Rattle.session_messages.specs.declared.Record.{Record}
use Rattle.session_messages.specs.Sessions as logins
use Rattle.table.specs.declared.UnitNumber.{UnitNumber}
use Rattle.session_fields.specs.SessionFields.{group_flag, group_listed}
use Rattle.day_model.specs.Model.{Msg, Table, keep, count, above, Sent, message, complete, Venue}
use Rattle.day_model.specs.Story.{Bytes}
use Rattle.day_model.specs.Brings as day
use Rattle.day_model.specs.Brings.{above_of, brings, Call, calls, sent_by}
use Rattle.day_model.proofs.BringsLaws.{Owes, moves_go, a_step_sends_the_next}
use Rattle.day_model.proofs.BringsCalls.{login_followed}
use Rattle.day_model.proofs.SameReplay.{spoken_all}
use Rattle.day_line.specs.Lines.{our_line, msg_of, says}
use Rattle.venue.specs.declared.Venue as state
use Rattle.session_fields.specs.AskedFor.{units_at, flag_of}
use Rattle.venue.specs.Venues.{pick_answer, refused, response_record, logged_in, login_refusal, login_of, complete_bytes, next_bytes, next_venue, send_of, step_of}
use Rattle.venue.specs.VenueDay.{Bench, our_venue, empty, messages_in, accepts, takes_login, step_to, step_sends}
use Rattle.venue.specs.VenueView.{view_v, GoodV}
use Rattle.venue.proofs.VenueRuns.{messages_all, map_long, count_mono}
use Rattle.venue.proofs.VenueWalk.{ltb-min, counts}
use Rattle.venue.proofs.VenueCalls.{view_is, empty_good, hears_good, stop_good}
use Rattle.venue.proofs.VenueAdds.{adds_good}
use Rattle.venue.proofs.VenueLine.{spoken, Clear}
use Rattle.venue.proofs.VenueSent.{steps, steps_as_told}
use Rattle.venue.proofs.VenueLogin.{takes_good, lowest, strays_is}
use Rattle.venue.proofs.VenueMust as must
use Rattle.venue.proofs.MeetsVenue.{meets}
use Rattle.venue.specs.Brings.{wanted_by, wants, only_if, wanted_of, list_for, Use, call, login, breaks, used, used_all, bench, OnItsLine}

-- ---- the states that the bench can come to are good

-- a login that is not taken leaves the state as it was
login_stays : (v : state.Venue) (b : Bytes) (room : ℕ) → eqb (login_of v b room).refusal 0 ≡ false → (login_of v b room).venue ≡ v
unfolding login_of
login_stays v b room z = by (eqb (login_refusal v b room) 0) z
  where
    by : (k : Bool)
        → eqb (pick_answer k (record { refusal = 0; sent = length (logins.session_bytes (response_record v (framed b))); venue = logged_in v (framed b) }) (refused (login_refusal v b room) v)).refusal 0 ≡ false
        → (pick_answer k (record { refusal = 0; sent = length (logins.session_bytes (response_record v (framed b))); venue = logged_in v (framed b) }) (refused (login_refusal v b room) v)).venue ≡ v
    by true e = absurd (true≢false e)
    by false e = refl

login_good : (room : ℕ) (b : Bytes) (w : Bench) → GoodV w → GoodV (takes_login room b w)
login_good room b w g = by (accepts room b w) refl
  where
    by : (k : Bool) → accepts room b w ≡ k → GoodV (takes_login room b w)
    by true e = takes_good room b w g e
    by false e = rw (login_stays w.venue b room e) g

-- nor does a step outside a session change it
step_stays : (v : state.Venue) (log : List ℕ) (room : ℕ) → v.running ≡ false → (step_of v log room).venue ≡ v
unfolding step_of
step_stays v log room e = ap (λ (k : Bool). (pick_answer k (send_of v (next_venue v log) (next_bytes v log) room) (refused out_of_phase v)).venue) e

step_good : (room : ℕ) (w : Bench) → GoodV w → GoodV (step_to room w)
step_good room w g = by w.venue.running refl
  where
    by : (k : Bool) → w.venue.running ≡ k → GoodV (step_to room w)
    by true e = (steps w g e room).good
    by false e = rw (step_stays w.venue w.bytes room e) g

use_good : (u : Use) (w : Bench) → GoodV w → GoodV (used u w)
use_good (call (day.offers room b)) w g = adds_good room b w g
use_good (call (day.hears market b)) w g = hears_good market b w g
use_good (call (day.steps room)) w g = step_good room w g
use_good (login room b) w g = login_good room b w g
use_good breaks w g = stop_good w g

uses_good : (us : List Use) (w : Bench) → GoodV w → GoodV (used_all us w)
uses_good [] w g = g
uses_good (u ∷ us) w g = uses_good us (used u w) (use_good u w g)

pub bench_good : (us : List Use) → GoodV (bench us)
bench_good us = uses_good us empty empty_good

-- ---- bytes and what they say

abbrev body : Msg → Bytes
body m = m.body

bodies : (ms : List Bytes) → map body (map msg_of ms) ≡ ms
bodies [] = refl
bodies (m ∷ ms) = ap (λ (l : List Bytes). m ∷ l) (bodies ms)

of_messages : (l : List Msg) → map spoken (map message l) ≡ map body l
of_messages [] = refl
of_messages (m ∷ l) = ap (λ (x : List Bytes). m.body ∷ x) (of_messages l)

keep_body : (k : Bool) (m : Bytes) (l : List Msg) → map body (keep k (msg_of m) l) ≡ only_if k m (map body l)
keep_body true m l = refl
keep_body false m l = refl

-- what a list of the model's says in bytes
bytes_of_list : (t : Table) (log later : List Msg) → map spoken (brings t log [] ++ map message later) ≡ map body (above_of t log) ++ complete_bytes ∷ map body later
bytes_of_list t log later =
    map-append spoken (brings t log []) (map message later)
    ∙ ap₂ (λ (x y : List Bytes). x ++ y) (map-append spoken (map message (above_of t log)) (complete ∷ []) ∙ ap (λ (x : List Bytes). x ++ complete_bytes ∷ []) (of_messages (above_of t log))) (of_messages later)
    ∙ append_assoc (map body (above_of t log)) (complete_bytes ∷ []) (map body later)

-- ---- what the log's messages are

-- of a message that a log holds
record Held (w : Bench) (m : Bytes) : Type 0 where
  pub unit : unit_refusal (unit_of m) ≡ 0
  pub low : 0 < number_of m
  pub high : number_of m ≤ count (unit_of m) (view_v w).log

module _ (w : Bench) (g : GoodV w) where
  abbrev ms : List Bytes
  ms = g.messages

  all_is : messages_in w.bytes ≡ ms
  all_is = ap messages_in g.log.is ∙ messages_all ms g.log.whole

  is_held : (k : ℕ) → k < length ms → Held w (get_or ms k [])
  is_held k h =
      let l = g.log in
      let m = get_or ms k [] in
      let u = unit_of m in
      let log = map msg_of ms in
      let o = l.ordered k h in
      let c = counts w.venue ms l.whole l.ordered g.mark g.places.in_upto g.places.upto k h in
      let q = count_mono u log (suc k) (length ms) h in
      let a : take (length ms) log ≡ log = ap (λ (n : ℕ). take n log) (sym (map_long msg_of ms)) ∙ take-length log in
      let a' : count u (take (length ms) log) ≡ count u log = ap (count u) a in
      let v : count u (view_v w).log ≡ count u log = ap (λ (x : Venue). count u x.log) (view_is w g) in
      record { unit = by u (eqb (unit_refusal u) 0) refl (omega (arith, c, q, a')); low = omega (arith, o); high = omega (arith, o, c, q, a', v) }
    where
      by : (u : ℕ) (p : Bool) → eqb (unit_refusal u) 0 ≡ p → 0 < count u (map msg_of ms) → unit_refusal u ≡ 0
      by u true e z = eqb-true _ _ e
      by u false e z =
          let n : last_of w.venue.table u ≡ 0 = ap (λ (x : Entry). x.last.0) (no_entry w.venue.table u (eqb-false _ _ e)) in
          absurd (omega (arith, n, g.log.table u, z))

-- ---- what a login wants of them

module _ (room : ℕ) (b : Bytes) (w : Bench) (g : GoodV w) (ok : accepts room b w ≡ true) where
  abbrev r : Record
  r = logins.record_of (framed b)

  abbrev t : Table
  t = lowest room b w g ok

  module _ (m : Bytes) (h : Held w m) where
    abbrev u : ℕ
    u = unit_of m

    is : (view_v (takes_login room b w)).listed u ≡ t u
    is = ap (λ (x : Venue). x.listed u) (strays_is room b w g ok)

    by_flag : group_listed (units_at r) u r ≡ None → (f : Bool) → eqb (flag_of r) 1 ≡ f → ltb (t u) (number_of m) ≡ not f
    by_flag e true z =
        let n : t u ≡ count u (view_v w).log = sym is ∙ must.unlisted-none room b w g ok u h.unit e (eqb-true _ _ z) in
        le-ltb (t u) (number_of m) (omega (arith, n, h.high))
    by_flag e false z =
        let n : t u ≡ 0 = sym is ∙ must.unlisted_all room b w g ok u h.unit e (eqb-false _ _ z) in
        lt-ltb (t u) (number_of m) (omega (arith, n, h.low))

    by_list : (k : Option UnitNumber) → group_listed (units_at r) u r ≡ k → ltb (t u) (number_of m) ≡ wanted_by k (flag_of r) (number_of m)
    by_list (Some listed) e =
        ap (λ (n : ℕ). ltb n (number_of m)) (sym is ∙ must.listed_above room b w g ok u h.unit e)
        ∙ ltb-min _ listed.0 (count u (view_v w).log) (number_of m) refl h.high
    by_list None e = by_flag e (eqb (flag_of r) 1) refl

    wants_is : above t (msg_of m) ≡ wants r m
    wants_is = by_list (group_listed (units_at r) u r) refl

  wanted_is : (l : List Bytes) → ((k : ℕ) → k < length l → Held w (get_or l k [])) → map body (above_of t (map msg_of l)) ≡ wanted_of r l
  wanted_is [] h = refl
  wanted_is (m ∷ l) h =
      keep_body (above t (msg_of m)) m (above_of t (map msg_of l))
      ∙ ap₂ (λ (k : Bool) (x : List Bytes). only_if k m x) (wants_is m (h 0 (omega arith))) (wanted_is l (λ k z. h (suc k) (omega arith)))

-- ---- what the bench has still to send

-- a good state whose session has xs to send
record Owing (t : Table) (w : Bench) (xs : List Bytes) : Type 0 where
  pub good : GoodV w
  pub all : List Sent
  pub owes : Owes t (view_v w) all
  pub is : map spoken all ≡ xs

take-one : (l : List Sent) → map spoken (take 1 l) ≡ take 1 (map spoken l)
take-one [] = refl
take-one (x ∷ l) = refl

drop-one : (l : List Sent) → map spoken (drop 1 l) ≡ drop 1 (map spoken l)
drop-one [] = refl
drop-one (x ∷ l) = refl

rest_is : (l r : List Sent) → take 1 l ++ r ≡ l → r ≡ drop 1 l
rest_is [] r e = e
rest_is (x ∷ l) r e = cc

module _ (t : Table) (w : Bench) (xs : List Bytes) (o : Owing t w xs) (room : ℕ) (roomy : 2048 ≤ room) where
  runs : w.venue.running ≡ true
  runs = o.owes.runs

  said : map says (step_sends room w) ≡ take 1 o.all
  said =
      (steps_as_told w o.good runs room roomy).sent
      ∙ a_step_sends_the_next (suc (length (view_v w).log)) t (view_v w) o.all o.owes (omega arith)

  -- a step with room sends the next of it
  sends-next : step_sends room w ≡ take 1 xs
  sends-next = sym (spoken_all says spoken (step_sends room w) (steps w o.good runs room).clear) ∙ ap (map spoken) said ∙ take-one o.all ∙ ap (take 1) o.is

  then_owes : Owing t (step_to room w) (drop 1 xs)
  then_owes =
      let s = steps w o.good runs room in
      let i = s.is in
      let p = moves_go i.times t (view_v w) o.all o.owes in
      let d : p.rest ≡ drop 1 o.all = rest_is o.all p.rest (ap (λ (l : List Sent). l ++ p.rest) (sym said ∙ i.sent) ∙ p.is) in
      record { good = s.good; all = p.rest; owes = rw i.to p.owes; is = ap (map spoken) d ∙ drop-one o.all ∙ ap (drop 1) o.is }

none_left : (xs : List Bytes) → length xs ≤ 0 → [] ≡ xs
none_left [] l = refl
none_left (x ∷ xs) l = absurd (omega arith)

steps_enough : (t : Table) (n : ℕ) (w : Bench) (xs : List Bytes) (room : ℕ) → Owing t w xs → 2048 ≤ room → length xs ≤ n → sent_by our_venue (replicate n (day.steps room)) w ≡ xs
steps_enough t zero w xs room o h l = none_left xs l
steps_enough t (suc n) w xs room o h l =
    ap₂ (λ (x y : List Bytes). x ++ y) (sends-next t w xs o room h)
    (steps_enough t n (step_to room w) (drop 1 xs) room (then_owes t w xs o room h) h (omega (arith, l, length-drop 1 xs)))
    ∙ take-append-drop 1 xs

-- ---- the laws

module _ (room : ℕ) (b : Bytes) (w : Bench) (g : GoodV w) (ok : accepts room b w ≡ true) where
  -- of any good state
  pub login_on_its_line : (cs : List Call) → OnItsLine b (messages_in w.bytes) (sent_by our_venue cs (takes_login room b w)) (calls our_venue cs (takes_login room b w))
  unfolding meets
  login_on_its_line cs =
      let t : Table = lowest room b w g ok in
      let now : Bench = takes_login room b w in
      let end : Bench = calls our_venue cs now in
      let out : List Bytes = sent_by our_venue cs now in
      let ms : List Bytes = messages_in w.bytes in
      let held : (k : ℕ) → k < length ms → Held w (get_or ms k []) = subst (λ (l : List Bytes). (k : ℕ) → k < length l → Held w (get_or l k [])) (sym (all_is w g)) (is_held w g) in
      let f = login_followed our_line our_venue meets Clear (λ lent v good r. (steps v good r lent).clear) t w now (takes_good room b w g ok) (strays_is room b w g ok) (λ u. omega arith) cs in
      let q = f.went in
      let o : Owing t end (map spoken q.rest) = record { good = f.good; all = q.rest; owes = q.owes; is = refl } in
      record {
        later = map body q.later;
        grew = sym (bodies (messages_in end.bytes))
            ∙ ap (map body) q.grew
            ∙ map-append body (map msg_of ms) q.later
            ∙ ap (λ (x : List Bytes). x ++ map body q.later) (bodies ms);
        rest = map spoken q.rest;
        front = ap (λ (x : List Bytes). x ++ map spoken q.rest) (sym (spoken_all says spoken out f.each-sent))
            ∙ sym (map-append spoken (map says out) q.rest)
            ∙ ap (map spoken) q.is
            ∙ bytes_of_list t (view_v w).log q.later
            ∙ ap (λ (x : List Bytes). x ++ complete_bytes ∷ map body q.later) (wanted_is room b w g ok ms held);
        next = λ lent h. sends-next t end (map spoken q.rest) o lent h;
        enough = λ lent n h l. steps_enough t n end (map spoken q.rest) lent o h l;
      }

-- A LOGIN BRINGS the list, and nothing else
pub a_login_brings : (us : List Use) (room : ℕ) (b : Bytes) → accepts room b (bench us) ≡ true → (cs : List Call)
    → OnItsLine b (messages_in (bench us).bytes) (sent_by our_venue cs (takes_login room b (bench us))) (calls our_venue cs (takes_login room b (bench us)))
a_login_brings us room b ok cs = login_on_its_line room b (bench us) (bench_good us) ok cs

-- IDLE IS WHOLE: where a step with room is idle, all of the list was sent
pub idle_is_whole : (b : Bytes) (log sent : List Bytes) (now : Bench) (x : OnItsLine b log sent now) (room : ℕ) → 2048 ≤ room → step_sends room now ≡ [] → sent ≡ list_for b log x.later
idle_is_whole b log sent now x room h e = sym (append-nil sent) ∙ ap (λ (l : List Bytes). sent ++ l) (none x.rest (sym (x.next room h) ∙ e)) ∙ x.front
  where
    none : (l : List Bytes) → take 1 l ≡ [] → [] ≡ l
    none [] z = refl
    none (y ∷ l) z = let n : ◌≡◌ {A = ℕ} 1 0 = ap length z in absurd (omega (arith, n))

-- NO GROUP WANTS ALL
pub no_group_wants_all : (r : Record) (m : Bytes) → units_at r ≡ None → wants r m ≡ true
unfolding group_listed group_flag
no_group_wants_all r m z =
    ap (λ (p : Option ℕ). wanted_by (group_listed p (unit_of m) r) (unwrap_or (group_flag p r) 0) (number_of m)) z
