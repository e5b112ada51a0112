-- What a login of ours brings on the line of any such venue as demand 3 speaks of.
--     such_a_venue_brings    whatever its log takes, whatever it hears and however many steps it makes, with whatever room, what it sent so far says a
--                            front of the list `brings`, and what it has come to sends the rest
--     each_login_brings      so in the day, whatever happened before, of every login of the member's that such a venue takes
-- Assumes nothing.
use Rattle.std.specs.Prelude.{◌≡◌, Bool, true, false, ◌&&◌, List, [], ◌∷◌, map, ℕ, ◌≤◌}
use Rattle.std.proofs.Common.{sym, ◌∙◌}
use Rattle.std.proofs.lemmas.Bool.{false≢true}
use Rattle.day_model.specs.Model.{Table, count, Sent, Venue, took, next_in_log}
use Rattle.day_model.specs.Story.{Bytes, All, Happens, Now, story, dawn}
use Rattle.day_model.specs.Generic.{all_append, map-++, Holds, holds}
use Rattle.day_model.specs.Generic as generic
use Rattle.day_model.specs.Halves.{Line, MemberCode, VenueCode, code, MeetsMember, MeetsVenue, both}
use Rattle.day_model.specs.Brings.{brings, Brought, Call, offers, hears, steps, called, bytes_out, calls, sent_by}
use Rattle.day_model.proofs.BringsLaws.{Owes, Went, went_nowhere, went_by_moves, went_by_a_message, went_on, a_login_owes, went_brought, lists_no_more}

-- P holds of whatever a step sends
module _ (L : Line) (B : VenueCode) (N : MeetsVenue L B) (P : Bytes → Type 0)
    (each : (room : ℕ) (v : B.Ven) → N.GoodV v → B.running v ≡ true → All P (B.step_sends room v)) (t : Table) where
  abbrev seen : B.Ven → Venue
  seen v = N.view_v v

  -- a session of the venue's, as the model's
  pub record Follows (v : B.Ven) (xs : List Sent) (sent : List Bytes) (now : B.Ven) : Type 0 where
    pub good : N.GoodV now
    pub each-sent : All P sent
    pub went : Went t (seen v) xs (map L.says sent) (seen now)

  a_call : (c : Call) (v : B.Ven) (xs : List Sent) → N.GoodV v → Owes t (seen v) xs → Follows v xs (bytes_out B c v) (called B c v)
  a_call (offers room b) v xs g o = record {
    good = N.adds_good room b v g;
    each-sent = tt;
    went = rw (N.adds_is room b v g)
        (went_by_a_message t (seen v) xs o (L.msg_of b) (N.readable room b v && next_in_log (L.msg_of b) (seen v))
        (second (N.readable room b v) (next_in_log (L.msg_of b) (seen v))));
  }
    where
      second : (a b : Bool) → (a && b) ≡ true → b ≡ true
      second true b e = e
      second false b e = absurd (false≢true e)
  a_call (hears market b) v xs g o = record { good = N.hears_good market b v g; each-sent = tt; went = rw (N.hears_is market b v g) (went_nowhere t (seen v) xs o) }
  a_call (steps room) v xs g o =
      let r : B.running v ≡ true = sym (N.running_is v) ∙ o.runs in
      let s = N.step_is room v g r in
      record { good = N.step_good room v g r; each-sent = each room v g r; went = rw (s.to, s.sent) (went_by_moves t (seen v) xs o s.times) }

  pub some-calls : (cs : List Call) (v : B.Ven) (xs : List Sent) → N.GoodV v → Owes t (seen v) xs → Follows v xs (sent_by B cs v) (calls B cs v)
  some-calls [] v xs g o = record { good = g; each-sent = tt; went = went_nowhere t (seen v) xs o }
  some-calls (c ∷ cs) v xs g o =
      let p = a_call c v xs g o in
      let u = called B c v in
      let q = some-calls cs u p.went.rest p.good p.went.owes in
      record {
        good = q.good;
        each-sent = all_append P (bytes_out B c v) (sent_by B cs u) p.each-sent q.each-sent;
        went = rw (map-++ L.says (bytes_out B c v) (sent_by B cs u))
            (went_on t (seen v) (seen u) (seen (calls B cs u)) xs (map L.says (bytes_out B c v)) (map L.says (sent_by B cs u)) p.went q.went);
      }

  -- after a login that is the model's, with the numbers t, none above what the log holds
  pub login_followed : (v now : B.Ven) → N.GoodV now → seen now ≡ took t (seen v) → ((u : ℕ) → t u ≤ count u (seen v).log) → (cs : List Call)
      → Follows now (brings t (seen v).log []) (sent_by B cs now) (calls B cs now)
  login_followed v now g e h cs = some-calls cs now (brings t (seen v).log []) g (rw e (a_login_owes t (seen v) h))

-- SUCH A VENUE BRINGS the list to every login of ours
pub such_a_venue_brings : (L : Line) (B : VenueCode) (N : MeetsVenue L B) (room : ℕ) (b : Bytes) (v : B.Ven) → N.GoodV v → L.OurLogin b → B.accepts room b v ≡ true
    → ((u : ℕ) → L.lists b u ≤ count u (N.view_v v).log) → (cs : List Call)
    → Brought (L.lists b) (map L.msg_of (B.log_of v)) (map L.says (sent_by B cs (B.takes_login room b v))) (N.view_v (calls B cs (B.takes_login room b v)))
such_a_venue_brings L B N room b v g o ok h cs =
    let now = B.takes_login room b v in
    let e = N.takes_is room b v o ok g h in
    let f = login_followed L B N L.Fine N.step-fine (L.lists b) v now (N.takes_good room b v ok g) e h cs in
    rw (N.log_is v) at (went_brought (L.lists b) (N.view_v v) (N.view_v (calls B cs now)) (map L.says (sent_by B cs now)) (rw e at f.went))

-- IN THE DAY of such a member and such a venue: every login on the line that the venue takes, whatever happened before
pub each_login_brings : (L : Line) (A : MemberCode) (B : VenueCode) (M : MeetsMember L A) (N : MeetsVenue L B) (es : List (Happens A.Fields)) (room : ℕ) (w : Now (code A B))
    → w ≡ story (code A B) es (dawn (code A B)) → w.asks ≡ true → B.accepts room w.asking w.venue ≡ true → (cs : List Call)
    → Brought (L.lists w.asking) (map L.msg_of (B.log_of w.venue)) (map L.says (sent_by B cs (B.takes_login room w.asking w.venue))) (N.view_v (calls B cs (B.takes_login room w.asking w.venue)))
each_login_brings L A B M N es room w e a ok cs =
    let h : Holds (code A B) (both L A B M N) w = rw e (holds (code A B) (both L A B M N) es) in
    such_a_venue_brings L B N room w.asking w.venue h.good.venue (h.good.asking a) ok (lists_no_more (generic.seen (code A B) (both L A B M N) w) h.inv a) cs
