-- 02, request 6: two logins of ours that ask for the same bring the same replay, of any such venue as demand 3 speaks of whose steps are document 01's.
--     same_view      whichever it takes, such a venue is then the same as the day sees it
--     same-replay    from there on every step sends the same bytes after either, whatever the venue is offered for its log and hears between the steps
-- To be read with them: `Alike`, what is said of the calls that follow. Assumes nothing.
use Rattle.std.specs.Prelude.{◌≡◌, refl, Bool, true, false, ◌&&◌, List, [], ◌∷◌, ◌++◌, map, ℕ, zero, suc, ◌≤◌, length}
use Rattle.std.proofs.Common.{sym, ap, ap₂, ◌∙◌}
use Rattle.day_model.specs.Model.{Msg, Table, count, Sent, response, message, complete, aside, logout, Venue, Move, idle, tells, passes, move, moved, took, logged, next_in_log}
use Rattle.day_model.specs.Steps.{doc_on, above_move, doc_step}
use Rattle.day_model.specs.Story.{Bytes, All}
use Rattle.day_model.specs.Halves.{Line, VenueCode, MeetsVenue, StepsAs, StepsAsTold}
use Rattle.day_model.specs.Brings.{Call, offers, hears, steps, called, bytes_out, calls, sent_by}

-- ---- a step of document 01's

-- sends messages and Replay Complete alone
abbrev pub Replayed : Sent → Type 0
Replayed (message m) = Unit {0}
Replayed complete = Unit {0}
Replayed (response ok) = ⊥
Replayed aside = ⊥
Replayed logout = ⊥

abbrev AllReplayed : List Sent → Type 0
AllReplayed [] = Unit {0}
AllReplayed (x ∷ xs) = Replayed x × AllReplayed xs

doc_replays : (n : ℕ) (v : Venue) → AllReplayed (doc_step n v).sent
doc_replays zero v = tt
doc_replays (suc n) v = by (above_move v.listed (move v)) (move v) (λ u. doc_replays n u)
  where
    by : (a : Bool) (m : Move) → ((u : Venue) → AllReplayed (doc_step n u).sent) → AllReplayed (doc_on (doc_step n) a m v).sent
    by a idle ih = tt
    by a tells ih = (tt, tt)
    by true (passes m) ih = (tt, tt)
    by false (passes m) ih = ih (moved (passes m) v)

-- and ends no session
doc_runs : (n : ℕ) (v : Venue) → (doc_step n v).to.running ≡ v.running
doc_runs zero v = refl
doc_runs (suc n) v = by (above_move v.listed (move v)) (move v) (λ u. doc_runs n u)
  where
    by : (a : Bool) (m : Move) → ((u : Venue) → (doc_step n u).to.running ≡ u.running) → (doc_on (doc_step n) a m v).to.running ≡ v.running
    by a idle ih = refl
    by a tells ih = refl
    by true (passes m) ih = refl
    by false (passes m) ih = ih (moved (passes m) v)

logged_runs : (q : Bool) (m : Msg) (v : Venue) → (logged q m v).running ≡ v.running
logged_runs true m v = refl
logged_runs false m v = refl

-- bytes of which each is known by what it says, from what they say
pub spoken_all : (says : Bytes → Sent) (spoken : Sent → Bytes) (xs : List Bytes) → All (λ (b : Bytes). spoken (says b) ≡ b) xs → map spoken (map says xs) ≡ xs
spoken_all says spoken [] a = refl
spoken_all says spoken (x ∷ xs) a = ap₂ (λ (b : Bytes) (l : List Bytes). b ∷ l) a.0 (spoken_all says spoken xs a.1)

-- ---- two states of one venue

module _ (L : Line) (B : VenueCode) (N : MeetsVenue L B) (T : StepsAsTold L B N) where
  -- a call that is made of two states of the venue: a step has room for the longest message; of a message that is offered the two logs agree whether they
  -- can read it and have room for it, which is the venue's own; what is heard may be any
  abbrev pub AlikeAt : Call → B.Ven → B.Ven → Type 0
  AlikeAt (offers room b) v w = N.readable room b v ≡ N.readable room b w
  AlikeAt (hears market b) v w = Unit {0}
  AlikeAt (steps room) v w = T.step_room ≤ room

  -- calls that are made of both, one after the other
  abbrev pub Alike : List Call → B.Ven → B.Ven → Type 0
  Alike [] v w = Unit {0}
  Alike (c ∷ cs) v w = AlikeAt c v w × Alike cs (called B c v) (called B c w)

-- bytes that a step sends are known by what they say: by `spoken`
module _ (L : Line) (B : VenueCode) (N : MeetsVenue L B) (T : StepsAsTold L B N) (spoken : Sent → Bytes)
    (clear : (b : Bytes) → L.Fine b → Replayed (L.says b) → spoken (L.says b) ≡ b) where
  all_clear : (xs : List Bytes) → All L.Fine xs → AllReplayed (map L.says xs) → All (λ (b : Bytes). spoken (L.says b) ≡ b) xs
  all_clear [] f r = tt
  all_clear (x ∷ xs) f r = (clear x f.0 r.0, all_clear xs f.1 r.1)

  module _ (v : B.Ven) (g : N.GoodV v) (runs : B.running v ≡ true) (room : ℕ) (h : T.step_room ≤ room) where
    told : StepsAs (N.view_v v) (N.view_v (B.step_to room v)) (map L.says (B.step_sends room v))
    told = T.steps_as_told room v g runs h

    pub step-bytes : B.step_sends room v ≡ map spoken (doc_step (suc (length (N.view_v v).log)) (N.view_v v)).sent
    step-bytes =
        sym (spoken_all L.says spoken (B.step_sends room v) (all_clear (B.step_sends room v) (N.step-fine room v g runs) (rw told.sent (doc_replays (suc (length (N.view_v v).log)) (N.view_v v)))))
        ∙ ap (map spoken) told.sent

    pub step_to_lem : N.view_v (B.step_to room v) ≡ (doc_step (suc (length (N.view_v v).log)) (N.view_v v)).to
    step_to_lem = told.to

  -- two good states in a session that the day sees as the same
  pub record Same (v w : B.Ven) : Type 0 where
    pub one : N.GoodV v
    pub other : N.GoodV w
    pub runs : (N.view_v v).running ≡ true
    pub view : N.view_v v ≡ N.view_v w

  runs_one : (v w : B.Ven) → Same v w → B.running v ≡ true
  runs_one v w s = sym (N.running_is v) ∙ s.runs

  runs_other : (v w : B.Ven) → Same v w → B.running w ≡ true
  runs_other v w s = sym (N.running_is w) ∙ ap (λ (x : Venue). x.running) (sym s.view) ∙ s.runs

  -- stay so, and send the same
  pub record Goes (v w : B.Ven) (xs ys : List Bytes) : Type 0 where
    pub same : Same v w
    pub sent : xs ≡ ys

  a_call : (c : Call) (v w : B.Ven) → Same v w → AlikeAt L B N T c v w → Goes (called B c v) (called B c w) (bytes_out B c v) (bytes_out B c w)
  a_call (offers room b) v w s e =
      let m : Msg = L.msg_of b in
      let i = N.adds_is room b v s.one in
      record {
        same = record {
          one = N.adds_good room b v s.one;
          other = N.adds_good room b w s.other;
          runs = ap (λ (x : Venue). x.running) i ∙ logged_runs (N.readable room b v && next_in_log m (N.view_v v)) m (N.view_v v) ∙ s.runs;
          view = i ∙ ap₂ (λ (q : Bool) (x : Venue). logged (q && next_in_log m x) m x) e s.view ∙ sym (N.adds_is room b w s.other);
        };
        sent = refl;
      }
  a_call (hears market b) v w s e =
      let i = N.hears_is market b v s.one in
      record {
        same = record {
          one = N.hears_good market b v s.one;
          other = N.hears_good market b w s.other;
          runs = ap (λ (x : Venue). x.running) i ∙ s.runs;
          view = i ∙ s.view ∙ sym (N.hears_is market b w s.other);
        };
        sent = refl;
      }
  a_call (steps room) v w s h =
      let p = runs_one v w s in
      let q = runs_other v w s in
      record {
        same = record {
          one = N.step_good room v s.one p;
          other = N.step_good room w s.other q;
          runs = ap (λ (x : Venue). x.running) (step_to_lem v s.one p room h) ∙ doc_runs (suc (length (N.view_v v).log)) (N.view_v v) ∙ s.runs;
          view = step_to_lem v s.one p room h ∙ ap (λ (x : Venue). (doc_step (suc (length x.log)) x).to) s.view ∙ sym (step_to_lem w s.other q room h);
        };
        sent = step-bytes v s.one p room h ∙ ap (λ (x : Venue). map spoken (doc_step (suc (length x.log)) x).sent) s.view ∙ sym (step-bytes w s.other q room h);
      }

  some-calls : (cs : List Call) (v w : B.Ven) → Same v w → Alike L B N T cs v w → Goes (calls B cs v) (calls B cs w) (sent_by B cs v) (sent_by B cs w)
  some-calls [] v w s a = record { same = s; sent = refl }
  some-calls (c ∷ cs) v w s a =
      let p = a_call c v w s a.0 in
      let q = some-calls cs (called B c v) (called B c w) p.same a.1 in
      record { same = q.same; sent = ap₂ (λ (x y : List Bytes). x ++ y) p.sent q.sent }

  -- two logins of ours that ask for the same, no more of a unit than the log holds, each of which the venue would take in one state
  module _ (v : B.Ven) (g : N.GoodV v) (room room' : ℕ) (b b' : Bytes) (o : L.OurLogin b) (o' : L.OurLogin b') (e : L.lists b ≡ L.lists b')
      (low : (u : ℕ) → L.lists b u ≤ count u (N.view_v v).log) (ok : B.accepts room b v ≡ true) (ok' : B.accepts room' b' v ≡ true) where
    low' : (u : ℕ) → L.lists b' u ≤ count u (N.view_v v).log
    low' u = rw e at (low u)

    -- SAME VIEW
    pub same_view : N.view_v (B.takes_login room b v) ≡ N.view_v (B.takes_login room' b' v)
    same_view = N.takes_is room b v o ok g low ∙ ap (λ (t : Table). took t (N.view_v v)) e ∙ sym (N.takes_is room' b' v o' ok' g low')

    -- SAME REPLAY
    pub same_replay : (cs : List Call) → Alike L B N T cs (B.takes_login room b v) (B.takes_login room' b' v) → sent_by B cs (B.takes_login room b v) ≡ sent_by B cs (B.takes_login room' b' v)
    same_replay cs a =
        (some-calls cs (B.takes_login room b v) (B.takes_login room' b' v)
        (record {
          one = N.takes_good room b v ok g;
          other = N.takes_good room' b' v ok' g;
          runs = ap (λ (x : Venue). x.running) (N.takes_is room b v o ok g low);
          view = same_view;
        })
        a).sent
