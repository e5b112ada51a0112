-- A replay completes: any such venue whose steps are document 01's, stepped with room for the longest message, sends Replay Complete at the latest when
-- it has made as many steps as the log held messages at the login; and so does the bench after every login that it takes. Assumes nothing.
use Rattle.std.specs.Prelude.{ℕ, zero, suc, ◌+◌, ◌≤◌, ◌<◌, ◌⊎◌, ◌≡◌, refl, [], ◌∷◌, map, Bool, true, false, length, get_or, eqb}
use Rattle.std.proofs.Common.{arith, inl, inr, sym, ap, ◌∙◌, eqb-true}
use Rattle.std.proofs.lemmas.Bool.{eqb-false}
use Rattle.day_model.specs.Model.{Msg, none-msg, above, complete, Venue, passes, moved}
use Rattle.day_model.specs.Steps.{Stepped, doc_step, move-tells, move-passes}
use Rattle.day_model.specs.Story.{Bytes}
use Rattle.day_model.specs.Halves.{Line, VenueCode, MeetsVenue, StepsAsTold}
use Rattle.day_line.specs.Lines.{our_line, msg_of}
use Rattle.venue.specs.VenueDay.{Bench, our_venue, accepts, takes_login, messages_in}
use Rattle.venue.specs.VenueView.{GoodV}
use Rattle.venue.proofs.VenueRuns.{map_long}
use Rattle.venue.proofs.VenueWalk.{step-tells, step-sends, step-passes}
use Rattle.venue.proofs.MeetsVenue.{meets, steps_told}

-- ---- one step of a venue in a replay: it tells, or comes further

-- in a replay, with so many messages at most before the place where the log stood at the login
pub record Replaying (v : Venue) (d : ℕ) : Type 0 where
  pub running : v.running ≡ true
  pub untold : v.told ≡ false
  pub inside : v.at ≤ v.up_to
  pub within : v.up_to ≤ length v.log
  pub far : v.up_to ≤ v.at + d

pub record Tells (s : Stepped) : Type 0 where
  pub told : s.to.told ≡ true
  pub sent : s.sent ≡ complete ∷ []

abbrev pub at_message : Venue → Msg
at_message v = get_or v.log v.at none-msg

-- past the message at the place
abbrev pub past : Venue → Venue
past v = moved (passes (at_message v)) v

abbrev Goes : ℕ → Stepped → Type 0
Goes d s = Tells s ⊎ Replaying s.to d

tells_now : (n : ℕ) (v : Venue) → v.told ≡ false → v.at ≡ v.up_to → Tells (doc_step (suc n) v)
tells_now n v t e = rw (step-tells n v (move-tells v t e)) (record { told = refl; sent = refl })

one-step : (n d : ℕ) (v : Venue) → Replaying v (suc d) → (Replaying (past v) d → Goes d (doc_step n (past v))) → Goes d (doc_step (suc n) v)
one-step n d v r on = by (eqb v.at v.up_to) refl
  where
    over : v.at < v.up_to → Replaying (past v) d
    over l = record { running = r.running; untold = r.untold; inside = omega arith; within = r.within; far = omega (arith, r.far) }

    passing : v.at < v.up_to → (a : Bool) → above v.listed (at_message v) ≡ a → Goes d (doc_step (suc n) v)
    passing l true a = rw (step-sends n v (at_message v) (move-passes v r.untold l r.within) a) (inr (over l))
    passing l false a = rw (step-passes n v (at_message v) (move-passes v r.untold l r.within) a) (on (over l))

    by : (b : Bool) → eqb v.at v.up_to ≡ b → Goes d (doc_step (suc n) v)
    by true e = inl (tells_now n v r.untold (eqb-true _ _ e))
    by false e =
        let h : v.at ≡ v.up_to → ⊥ = eqb-false _ _ e in
        passing (omega (arith, h, r.inside)) (above v.listed (at_message v)) refl

farther : (d : ℕ) (v : Venue) → Replaying v d → Replaying v (suc d)
farther d v r = record { running = r.running; untold = r.untold; inside = r.inside; within = r.within; far = omega (arith, r.far) }

further : (n d : ℕ) (v : Venue) → Replaying v (suc d) → Goes d (doc_step (suc n) v)
further zero d v r = one-step 0 d v r (λ q. inr q)
further (suc n) d v r = one-step (suc n) d v r (λ q. further n d (past v) (farther d (past v) q))

-- ---- any such venue

module _ (L : Line) (B : VenueCode) (N : MeetsVenue L B) (room : ℕ) where
  abbrev pub steps_to : ℕ → B.Ven → B.Ven
  steps_to zero v = v
  steps_to (suc n) v = steps_to n (B.step_to room v)

  -- after so many steps the next one sends Replay Complete, and nothing else
  pub record SendsComplete (v : B.Ven) (d : ℕ) : Type 0 where
    pub steps : ℕ
    pub few : steps ≤ d
    pub sends : map L.says (B.step_sends room (steps_to steps v)) ≡ complete ∷ []
    pub told : (N.view_v (steps_to (suc steps) v)).told ≡ true

  runs : (v : B.Ven) (d : ℕ) → Replaying (N.view_v v) d → B.running v ≡ true
  runs v d r = sym (N.running_is v) ∙ r.running

  module _ (T : StepsAsTold L B N) (roomy : T.step_room ≤ room) where
    now : (v : B.Ven) (d : ℕ) → N.GoodV v → B.running v ≡ true → Tells (doc_step (suc (length (N.view_v v).log)) (N.view_v v)) → SendsComplete v d
    now v d g r t =
        let s = T.steps_as_told room v g r roomy in
        record { steps = 0; few = omega arith; sends = s.sent ∙ t.sent; told = ap (λ (x : Venue). x.told) s.to ∙ t.told }

    -- A REPLAY COMPLETES
    pub completes : (d : ℕ) (v : B.Ven) → N.GoodV v → Replaying (N.view_v v) d → SendsComplete v d
    completes zero v g r = now v 0 g (runs v 0 r) (tells_now (length (N.view_v v).log) (N.view_v v) r.untold (omega (arith, r.inside, r.far)))
    completes (suc d) v g r = go (further (length (N.view_v v).log) d (N.view_v v) r) (λ q. completes d (B.step_to room v) (N.step_good room v g (runs v (suc d) r)) q)
      where
        go : Goes d (doc_step (suc (length (N.view_v v).log)) (N.view_v v)) → (Replaying (N.view_v (B.step_to room v)) d → SendsComplete (B.step_to room v) d) → SendsComplete v (suc d)
        go (inl t) ih = now v (suc d) g (runs v (suc d) r) t
        go (inr q) ih =
            let s = T.steps_as_told room v g (runs v (suc d) r) roomy in
            let c = ih (rw s.to q) in
            record { steps = suc c.steps; few = omega (arith, c.few); sends = c.sends; told = c.told }

    -- and so after every login that is taken
    pub login_completes : (lent : ℕ) (b : Bytes) (v : B.Ven) → N.GoodV v → B.accepts lent b v ≡ true → SendsComplete (B.takes_login lent b v) (length (N.view_v v).log)
    login_completes lent b v g ok =
        let t = N.strays_is lent b v ok g in
        let e = t.1 in
        completes (length (N.view_v v).log) (B.takes_login lent b v) (N.takes_good lent b v ok g)
        (rw e (record { running = refl; untold = refl; inside = omega arith; within = omega arith; far = omega arith }))

-- ---- the bench

-- THE BENCH COMPLETES every replay: after a login that it takes, so many steps with 2,048 bytes of room are enough as its log holds messages, and one
-- more sends Replay Complete
pub bench_completes : (room lent : ℕ) (b : Bytes) (w : Bench) → 2048 ≤ room → GoodV w → accepts lent b w ≡ true
    → SendsComplete our_line our_venue meets room (takes_login lent b w) (length (messages_in w.bytes))
unfolding meets steps_told
bench_completes room lent b w h g ok =
    rw (sym (map_long msg_of (messages_in w.bytes))) (login_completes our_line our_venue meets room steps_told h lent b w g ok)
