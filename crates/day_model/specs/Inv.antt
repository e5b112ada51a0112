-- What holds at every moment, and that each event keeps it. Assumes nothing.
use Rattle.std.specs.Prelude.{◌≡◌, refl, Bool, true, false, ◌||◌, ℕ, zero, suc, ◌+◌, ◌≤◌, ◌<◌, max, ltb, eqb, length, take, get_or, drop}
use Rattle.std.proofs.Common.{sym, ap, subst, ◌∙◌, true≢false, arith, length-append, take-suc, eqb-true, eq-eqb, ltb-true, ltb-false}
use Rattle.std.proofs.lemmas.Bool.{false≢true, eqb-false}
use mathlib.Core.List.Memᴰ
use mathlib.Core.List.{List, [], ◌∷◌, ◌++◌, append-nil, Memᴰ}
use Rattle.std.proofs.lemmas.List.{take-append-le}
use Rattle.std.proofs.Math.Seq.{split_at, take-append_seam}
use Rattle.day_model.specs.Moments.{with_venue, with_queue, sending, on_line, leaving}
use Rattle.day_model.specs.Model.{Msg, Item, mark, Table, bump, keep, of_unit, count, pick, Phase, closed, asked, replaying, live, Sent, response, message, complete, aside, logout, Member, ends, full, Restart, short, bad, good, restart_of, restarted, Venue, took, above, none-msg, Move, idle, tells, passes, move_of, move, sends, moved, logged, next_in_log, World, Event, logs, logs_in, takes_it, rejects, steps, asides, logs_out, delivers, breaks, drops, strays, cuts, alone, logging_in, taking, rejecting, stepping, delivering, breaking, dropping, straying, cut, apply, run, start}
use Rattle.day_model.specs.Laws.{of_unit_append, count_snoc, NumberedFrom, numbered_snoc, Prefix, prefix_refl, prefix_more, prefix_length}
use Rattle.day_model.specs.Safe.{Numbered, Safe, counted, safe_ends, safe_got, safe_grows, safe_restarted, InLog}
use Rattle.day_model.specs.Walk.{walk, walk-then, walk-map, phase_after, phase_got, Orderly, Told, At, step, Next, Whole, Gapless, Passed, ReachedIn, Reached, Awaits, table_got}

abbrev pub AllIn : List Msg → List Sent → Type 0
AllIn log [] = Unit {0}
AllIn log (x ∷ q) = InLog log x × AllIn log q

abbrev pub OnLine : Bool → Bool → Phase → Type 0
OnLine j told p = j ≡ true → Told told p

-- the venue's session on the member's line
pub record Session (v : Venue) (held : List Msg) : Type 0 where
  pub mark : v.up_to ≡ length held
  pub low : (u : ℕ) → v.listed u ≤ count u held
  pub before : v.told ≡ false → v.at ≤ v.up_to
  pub within : v.at ≤ length v.log

-- a login that the venue has not answered: no session is on the line, and it lists no more than the log holds
pub record Waits (w : World) : Type 0 where
  pub apart : w.joined ≡ false
  pub low : (u : ℕ) → w.asking u ≤ count u w.venue.log

-- what the member will have come to when the line is empty: the phase alone, and with the counts
abbrev pub Expects : Bool → Bool → Bool → Phase → Type 0
Expects a j told p = (a ≡ true → p ≡ asked) × OnLine j told p

abbrev pub Stands : Bool → Table → Bool → Venue → At → Type 0
Stands a t j v s = (a ≡ true → Awaits t s.phase s.counts) × Reached j v s

abbrev pub here : Member → At
here s = record { phase = s.phase; counts = s.table }

pub record Inv (w : World) : Type 0 where
  pub numbered : Numbered w.venue.log
  pub safe : Safe w.venue.log w.member
  pub in_log : AllIn w.venue.log w.queue
  pub held_is : Prefix w.held w.venue.log
  pub session : w.joined ≡ true → Session w.venue w.held
  pub waits : w.asks ≡ true → Waits w
  pub orderly : w.left ≡ false → walk phase_after Orderly (Expects w.asks w.joined w.venue.told) w.member.phase w.queue
  -- while a login waits there is no log of its own yet, and what stands on the line goes with any
  pub gapless : w.refused ≡ false → (held : List Msg) → (w.asks ≡ false → held ≡ w.held)
      → walk step (Gapless held) (Stands w.asks w.asking w.joined w.venue) (here w.member) w.queue

-- ---- lists in flight

in_grows : (log more : List Msg) (x : Sent) → InLog log x → InLog (log ++ more) x
in_grows log more (response b) h = tt
in_grows log more (message m) h = Memᴰ.append_left more h
in_grows log more complete h = tt
in_grows log more aside h = tt
in_grows log more logout h = tt

all_grows : (log more : List Msg) (q : List Sent) → AllIn log q → AllIn (log ++ more) q
all_grows log more [] h = tt
all_grows log more (x ∷ q) h = (in_grows log more x h.0, all_grows log more q h.1)

all_append : (log : List Msg) (a b : List Sent) → AllIn log a → AllIn log b → AllIn log (a ++ b)
all_append log [] b h k = k
all_append log (x ∷ a) b h k = (h.0, all_append log a b h.1 k)

-- ---- the log grows

numbered_more : (log : List Msg) (m : Msg) (u : ℕ) (b : Bool) → eqb u m.unit ≡ b → m.num ≡ suc (count m.unit log) → NumberedFrom 0 (of_unit u log)
    → NumberedFrom 0 (of_unit u log ++ keep b m [])
numbered_more log m u false e q h = rw append-nil h
numbered_more log m u true e q h =
    let f : u ≡ m.unit = eqb-true u m.unit e in
    let q' : m.num ≡ suc (count u log) = subst (λ (v : ℕ). m.num ≡ suc (count v log)) (sym f) q in
    numbered_snoc 0 (of_unit u log) m h (omega arith)

reached_grows : (v : Venue) (m : Msg) (p : Phase) (c : Table) → v.at ≤ length v.log → ReachedIn v p c → ReachedIn (logged true m v) p c
reached_grows v m closed c l h = tt
reached_grows v m asked c l h = h
reached_grows v m replaying c l h = (h.0, λ u. h.1 u ∙ rw (take-append-le v.at v.log (m ∷ []) l))
reached_grows v m live c l h = (h.0, λ u. h.1 u ∙ rw (take-append-le v.at v.log (m ∷ []) l))

inv_logs : (w : World) (m : Msg) (b : Bool) → next_in_log m w.venue ≡ b → Inv w → Inv (with_venue (logged b m w.venue) w)
inv_logs w m false e h = h
inv_logs w m true e h = record {
  numbered = λ u. rw of_unit_append (numbered_more w.venue.log m u (eqb u m.unit) refl (eqb-true _ _ e) (h.numbered u));
  safe = safe_grows w.venue.log (m ∷ []) w.member h.safe;
  in_log = all_grows w.venue.log (m ∷ []) w.queue h.in_log;
  held_is = prefix_more (m ∷ []) h.held_is;
  session = λ j. record { mark = (h.session j).mark; low = (h.session j).low; before = (h.session j).before; within = rw length-append (omega (arith, (h.session j).within)) };
  waits = λ a. record { apart = (h.waits a).apart; low = λ u. rw (of_unit_append, length-append) (omega (arith, (h.waits a).low u)) };
  orderly = h.orderly;
  gapless = λ r l q. walk-map step (Gapless l) (Stands w.asks w.asking w.joined w.venue) (Stands w.asks w.asking w.joined (logged true m w.venue))
      (λ s k. (k.0, λ j. reached_grows w.venue m s.phase s.counts (h.session j).within (k.1 j))) (here w.member) w.queue (h.gapless r l q);
}

-- ---- no line

inv_alone : (w : World) (s : Member) → s.phase ≡ closed → Safe w.venue.log s → Inv w → Inv (alone s w)
inv_alone w s e k h = record {
  numbered = h.numbered;
  safe = k;
  in_log = tt;
  held_is = h.held_is;
  session = λ j. absurd (false≢true j);
  waits = λ a. absurd (false≢true a);
  orderly = λ l. (λ a. absurd (false≢true a), λ j. absurd (false≢true j));
  gapless = λ r l q. (λ a. absurd (false≢true a), λ j. absurd (false≢true j));
}

inv_breaks : (w : World) (p : Phase) (cap : ℕ) → w.member.phase ≡ p → Inv w → Inv (breaking p cap w)
inv_breaks w closed cap e h = inv_alone w w.member e h.safe h
inv_breaks w asked cap e h = inv_alone w (ends cap w.member) refl (safe_ends w.venue.log cap w.member h.safe) h
inv_breaks w replaying cap e h = inv_alone w (ends cap w.member) refl (safe_ends w.venue.log cap w.member h.safe) h
inv_breaks w live cap e h = inv_alone w (ends cap w.member) refl (safe_ends w.venue.log cap w.member h.safe) h

pub restarted_closed : (r : Restart) (b : List Item) → (restarted r b).phase ≡ closed
restarted_closed short b = refl
restarted_closed bad b = refl
restarted_closed (good t) b = refl

inv_cuts : (w : World) (k : ℕ) → Inv w → Inv (cut k w)
inv_cuts w k h = inv_alone w _ (restarted_closed (restart_of (take k w.member.book)) (take k w.member.book)) (safe_restarted w.venue.log w.member k h.safe) h

inv_drops : (w : World) (b : Bool) → Inv w → Inv (dropping b w)
inv_drops w false h = h
inv_drops w true h = record {
  numbered = h.numbered;
  safe = h.safe;
  in_log = h.in_log;
  held_is = h.held_is;
  session = λ j. absurd (false≢true j);
  waits = λ a. record { apart = refl; low = (h.waits a).low };
  orderly = λ l. walk-map phase_after Orderly _ _ (λ s k. (k.0, λ j. absurd (false≢true j))) w.member.phase w.queue (h.orderly l);
  gapless = λ r l q. walk-map step (Gapless l) _ _ (λ s k. (k.0, λ j. absurd (false≢true j))) (here w.member) w.queue (h.gapless r l q);
}

inv_strays : (w : World) (b : Bool) (t : Table) → Inv w → Inv (straying b t w)
inv_strays w true t h = h
inv_strays w false t h = record {
  numbered = h.numbered;
  safe = h.safe;
  in_log = h.in_log;
  held_is = h.held_is;
  session = λ j. absurd (false≢true j);
  waits = λ a. record { apart = refl; low = (h.waits a).low };
  orderly = λ l. walk-map phase_after Orderly _ _ (λ s k. (k.0, λ j. absurd (false≢true j))) w.member.phase w.queue (h.orderly l);
  gapless = λ r l q. walk-map step (Gapless l) _ _ (λ s k. (k.0, λ j. absurd (false≢true j))) (here w.member) w.queue (h.gapless r l q);
}

-- ---- login

inv_logs_in : (w : World) (p : Phase) → w.member.phase ≡ p → Inv w → Inv (logging_in p w)
inv_logs_in w asked e h = h
inv_logs_in w replaying e h = h
inv_logs_in w live e h = h
inv_logs_in w closed e h = record {
  numbered = h.numbered;
  safe = record { headed = h.safe.headed; reads = h.safe.reads; firsts = h.safe.firsts };
  in_log = tt;
  held_is = h.held_is;
  session = λ j. absurd (false≢true j);
  waits = λ a. record { apart = refl; low = λ u. rw (counted w.venue.log w.member h.safe u) (prefix_length (h.safe.firsts u)) };
  orderly = λ l. (λ a. refl, λ j. absurd (false≢true j));
  gapless = λ r l q. (λ a u. refl, λ j. absurd (false≢true j));
}

-- from what a login under way expects, its answer goes on
taken_orderly : (j : Bool) (p : Phase) → p ≡ asked → walk phase_after Orderly (Expects false j false) p (response true ∷ [])
taken_orderly j p e = rw e (tt, (λ a. absurd (false≢true a), λ k. refl))

taken_gapless : (l : List Msg) (t : Table) (j : Bool) (v : Venue) (p : Phase) (c : Table) → Awaits t p c
    → walk step (Gapless l) (Stands false t j (took t v)) (record { phase = p; counts = c }) (response true ∷ [])
taken_gapless l t j v closed c h = (tt, (λ a. absurd (false≢true a), λ k. tt))
taken_gapless l t j v asked c h = (tt, (λ a. absurd (false≢true a), λ k. (refl, λ u. omega (arith, h u))))
taken_gapless l t j v replaying c h = absurd h
taken_gapless l t j v live c h = absurd h

inv_takes : (w : World) (a r : Bool) → w.asks ≡ a → Inv w → Inv (taking a r w)
inv_takes w false r e h = h
inv_takes w true true e h = h
inv_takes w true false e h =
    record {
      numbered = h.numbered;
      safe = h.safe;
      in_log = all_append w.venue.log w.queue (response true ∷ []) h.in_log (tt, tt);
      held_is = prefix_refl w.venue.log;
      session = λ j. record { mark = refl; low = (h.waits e).low; before = λ _. omega arith; within = omega arith };
      waits = λ a. absurd (false≢true a);
      orderly = λ l. walk-then phase_after Orderly (Expects w.asks w.joined w.venue.told) (Expects false true false) (response true ∷ []) (λ p k. taken_orderly true p (k.0 e)) w.member.phase w.queue (h.orderly l);
      gapless = λ r l q. walk-then step (Gapless l) (Stands w.asks w.asking w.joined w.venue) (Stands false w.asking true (took w.asking w.venue)) (response true ∷ []) (λ s k. taken_gapless l w.asking true w.venue s.phase s.counts (k.0 e)) (here w.member) w.queue (h.gapless r l (λ f. absurd (true≢false (sym e ∙ f))));
    }

-- ---- a login that is answered with another status

no_orderly : (j t : Bool) (p : Phase) → (j ≡ true → ⊥) → p ≡ asked → walk phase_after Orderly (Expects false j t) p (response false ∷ [])
no_orderly j t p n e = rw e (tt, (λ a. absurd (false≢true a), λ k. absurd (n k)))

no_gapless : (l : List Msg) (t : Table) (j : Bool) (v : Venue) (p : Phase) (c : Table) → (j ≡ true → ⊥)
    → walk step (Gapless l) (Stands false t j v) (record { phase = p; counts = c }) (response false ∷ [])
no_gapless l t j v closed c n = (tt, (λ a. absurd (false≢true a), λ k. absurd (n k)))
no_gapless l t j v asked c n = (tt, (λ a. absurd (false≢true a), λ k. absurd (n k)))
no_gapless l t j v replaying c n = (tt, (λ a. absurd (false≢true a), λ k. absurd (n k)))
no_gapless l t j v live c n = (tt, (λ a. absurd (false≢true a), λ k. absurd (n k)))

inv_rejects : (w : World) (a : Bool) → w.asks ≡ a → Inv w → Inv (rejecting a w)
inv_rejects w false e h = h
inv_rejects w true e h =
    let n : w.joined ≡ true → ⊥ = λ j. false≢true (sym (h.waits e).apart ∙ j) in
    record {
      numbered = h.numbered;
      safe = h.safe;
      in_log = all_append w.venue.log w.queue (response false ∷ []) h.in_log (tt, tt);
      held_is = h.held_is;
      session = h.session;
      waits = λ a. absurd (false≢true a);
      orderly = λ l. walk-then phase_after Orderly (Expects w.asks w.joined w.venue.told) (Expects false w.joined w.venue.told) (response false ∷ []) (λ p k. no_orderly w.joined w.venue.told p n (k.0 e)) w.member.phase w.queue (h.orderly l);
      gapless = λ r l q. walk-then step (Gapless l) (Stands w.asks w.asking w.joined w.venue) (Stands false w.asking w.joined w.venue) (response false ∷ []) (λ s k. no_gapless l w.asking w.joined w.venue s.phase s.counts n) (here w.member) w.queue (h.gapless r l (λ _. q refl));
    }

-- ---- a step of the venue

-- the message at a place of a numbered log is numbered by those of its unit before it
first_of : (k : ℕ) (a r : List Msg) (m : Msg) → NumberedFrom k (a ++ m ∷ r) → m.num ≡ suc (k + length a)
first_of k [] r m h = omega arith
first_of k (x ∷ a) r m h = let e = first_of (suc k) a r m h.1 in omega arith

keep_same : (m : Msg) (r : List Msg) → keep (eqb m.unit m.unit) m r ≡ m ∷ r
keep_same m r = rw (eq-eqb m.unit m.unit refl)

numbered-at : (log a r : List Msg) (m : Msg) → Numbered log → log ≡ a ++ m ∷ r → m.num ≡ suc (count m.unit a)
numbered-at log a r m n e =
    let u = m.unit in
    let f : of_unit u log ≡ of_unit u a ++ m ∷ of_unit u r = ap (of_unit u) e ∙ of_unit_append u a (m ∷ r) ∙ ap (λ (l : List Msg). of_unit u a ++ l) (keep_same m (of_unit u r)) in
    let g : NumberedFrom 0 (of_unit u a ++ m ∷ of_unit u r) = rw f at (n u) in
    let d = first_of 0 (of_unit u a) (of_unit u r) m g in
    omega arith

pub record Passes (v : Venue) (m : Msg) : Type 0 where
  pub is : get_or v.log v.at none-msg ≡ m
  pub inside : v.at < length v.log
  pub short : v.told ≡ false → v.at ≡ v.up_to → ⊥

move-tells : (v : Venue) → move v ≡ tells → (v.told ≡ false) × (v.at ≡ v.up_to)
move-tells v = go v.told (eqb v.at v.up_to) (ltb v.at (length v.log)) refl refl
  where
    go : (t p e : Bool) → v.told ≡ t → eqb v.at v.up_to ≡ p → move_of t p e (get_or v.log v.at none-msg) ≡ tells → (v.told ≡ false) × (v.at ≡ v.up_to)
    go false true e et ep q = (et, eqb-true _ _ ep)
    go false false true et ep q = let z : ◌≡◌ {A = ℕ} 0 1 = cc in absurd (omega arith)
    go false false false et ep q = let z : ◌≡◌ {A = ℕ} 0 1 = cc in absurd (omega arith)
    go true p true et ep q = let z : ◌≡◌ {A = ℕ} 0 1 = cc in absurd (omega arith)
    go true p false et ep q = let z : ◌≡◌ {A = ℕ} 0 1 = cc in absurd (omega arith)

pub move-passes : (v : Venue) (m : Msg) → move v ≡ passes m → Passes v m
move-passes v m = go v.told (eqb v.at v.up_to) (ltb v.at (length v.log)) refl refl refl
  where
    go : (t p e : Bool) → v.told ≡ t → eqb v.at v.up_to ≡ p → ltb v.at (length v.log) ≡ e
        → move_of t p e (get_or v.log v.at none-msg) ≡ passes m → Passes v m
    go false true e et ep ee q = let z : ◌≡◌ {A = ℕ} 0 1 = cc in absurd (omega arith)
    go false false true et ep ee q = record { is = cc; inside = ltb-true _ _ ee; short = λ _. eqb-false _ _ ep }
    go false false false et ep ee q = let z : ◌≡◌ {A = ℕ} 0 1 = cc in absurd (omega arith)
    go true p true et ep ee q = record { is = cc; inside = ltb-true _ _ ee; short = λ f. absurd (true≢false (sym et ∙ f)) }
    go true p false et ep ee q = let z : ◌≡◌ {A = ℕ} 0 1 = cc in absurd (omega arith)

-- what is passed, at the message's unit and at another
bumped : (b : Bool) (l k c : ℕ) → l ≤ k → c ≡ max l k → pick b (suc c) c ≡ max l (pick b (suc k) k)
bumped true l k c h e = omega arith
bumped false l k c h e = e

skipped : (b : Bool) (l k c : ℕ) → (b ≡ true → suc k ≤ l) → c ≡ max l k → c ≡ max l (pick b (suc k) k)
skipped true l k c h e = let g = h refl in omega arith
skipped false l k c h e = e

module _ (v : Venue) (m : Msg) (n : Numbered v.log) (p : Passes v m) where
  split : v.log ≡ take v.at v.log ++ m ∷ drop (suc v.at) v.log
  split = split_at v.log v.at none-msg p.inside ∙ ap (λ (y : Msg). take v.at v.log ++ y ∷ drop (suc v.at) v.log) p.is

  number : m.num ≡ suc (count m.unit (take v.at v.log))
  number = numbered-at v.log (take v.at v.log) (drop (suc v.at) v.log) m n split

  one_more : (u : ℕ) → count u (take (suc v.at) v.log) ≡ pick (eqb u m.unit) (suc (count u (take v.at v.log))) (count u (take v.at v.log))
  one_more u = ap (count u) (take-suc v.log v.at none-msg p.inside ∙ ap (λ (y : Msg). take v.at v.log ++ y ∷ []) p.is) ∙ count_snoc u (take v.at v.log) m

  sent-next : (c : Table) → above v.listed m ≡ true → Passed v c → Next c m
  sent-next c a h = let e = h m.unit in let l : v.listed m.unit < m.num = ltb-true _ _ a in omega (arith, number)

  sent_passed : (c : Table) → above v.listed m ≡ true → Passed v c → Passed (moved (passes m) v) (bump c m.unit)
  sent_passed c a h u = rw one_more (go (eqb u m.unit) refl)
    where
      go : (b : Bool) → eqb u m.unit ≡ b → pick b (suc (c u)) (c u) ≡ max (v.listed u) (pick b (suc (count u (take v.at v.log))) (count u (take v.at v.log)))
      go false e = h u
      go true e =
          let f : u ≡ m.unit = eqb-true u m.unit e in
          let l : v.listed m.unit < m.num = ltb-true _ _ a in
          let k : v.listed m.unit ≤ count m.unit (take v.at v.log) = omega (arith, number) in
          bumped true (v.listed u) (count u (take v.at v.log)) (c u) (subst (λ (z : ℕ). v.listed z ≤ count z (take v.at v.log)) (sym f) k) (h u)

  skip_passed : (c : Table) → above v.listed m ≡ false → Passed v c → Passed (moved (passes m) v) c
  skip_passed c a h u = rw one_more (skipped (eqb u m.unit) (v.listed u) (count u (take v.at v.log)) (c u) (λ e.
      let f : u ≡ m.unit = eqb-true u m.unit e in
      let l : m.num ≤ v.listed m.unit = ltb-false _ _ a in
      let k : suc (count m.unit (take v.at v.log)) ≤ v.listed m.unit = omega (arith, number) in
      subst (λ (z : ℕ). suc (count z (take v.at v.log)) ≤ v.listed z) (sym f) k) (h u))

-- the world after a move of the venue, on the member's line or not
abbrev pub step_w : Move → Bool → World → World
step_w mv j w = with_queue (on_line j w.queue (sends w.venue.listed mv)) (with_venue (moved mv w.venue) w)

pub moved-log : (mv : Move) (v : Venue) → (moved mv v).log ≡ v.log
moved-log idle v = refl
moved-log tells v = refl
moved-log (passes m) v = refl

-- a step that is not on the member's line changes nothing here
inv_apart : (w : World) (mv : Move) → w.joined ≡ false → Inv w → Inv (step_w mv false w)
inv_apart w mv e h = record {
  numbered = rw moved-log h.numbered;
  safe = rw moved-log h.safe;
  in_log = rw moved-log h.in_log;
  held_is = rw moved-log h.held_is;
  session = λ j. absurd (false≢true (sym e ∙ j));
  waits = λ a. record { apart = (h.waits a).apart; low = rw moved-log (h.waits a).low };
  orderly = λ l. walk-map phase_after Orderly _ _ (λ s k. (k.0, λ j. absurd (false≢true (sym e ∙ j)))) w.member.phase w.queue (h.orderly l);
  gapless = λ r l q. walk-map step (Gapless l) _ _ (λ s k. (k.0, λ j. absurd (false≢true (sym e ∙ j)))) (here w.member) w.queue (h.gapless r l q);
}

not-true : (b : Bool) → (b ≡ true → ⊥) → b ≡ false
not-true true f = absurd (f refl)
not-true false f = refl

-- on the line: what the session is after the move, what is sent, and that it goes on from where the line ends
inv_on : (w : World) (mv : Move) → w.joined ≡ true → Inv w
    → Session (moved mv w.venue) w.held
    → AllIn w.venue.log (sends w.venue.listed mv)
    → ((p : Phase) → Told w.venue.told p → walk phase_after Orderly (OnLine w.joined (moved mv w.venue).told) p (sends w.venue.listed mv))
    → ((s : At) → ReachedIn w.venue s.phase s.counts → walk step (Gapless w.held) (Reached w.joined (moved mv w.venue)) s (sends w.venue.listed mv))
    → Inv (step_w mv true w)
inv_on w mv e h s i o g =
    let f : w.asks ≡ true → ⊥ = λ a. true≢false (sym e ∙ (h.waits a).apart) in
    record {
      numbered = rw moved-log h.numbered;
      safe = rw moved-log h.safe;
      in_log = rw moved-log (all_append w.venue.log w.queue (sends w.venue.listed mv) h.in_log i);
      held_is = rw moved-log h.held_is;
      session = λ j. s;
      waits = λ a. absurd (f a);
      orderly = λ l. walk-then phase_after Orderly (Expects w.asks w.joined w.venue.told) (Expects w.asks w.joined (moved mv w.venue).told) (sends w.venue.listed mv)
          (λ p k. walk-map phase_after Orderly (OnLine w.joined (moved mv w.venue).told) (Expects w.asks w.joined (moved mv w.venue).told) (λ x y. (λ a. absurd (f a), y)) p (sends w.venue.listed mv) (o p (k.1 e)))
          w.member.phase w.queue (h.orderly l);
      gapless = λ r l q. walk-then step (Gapless l) (Stands w.asks w.asking w.joined w.venue) (Stands w.asks w.asking w.joined (moved mv w.venue)) (sends w.venue.listed mv)
          (λ t k. walk-map step (Gapless l) (Reached w.joined (moved mv w.venue)) (Stands w.asks w.asking w.joined (moved mv w.venue)) (λ x y. (λ a. absurd (f a), y)) t (sends w.venue.listed mv)
          (subst (λ (y : List Msg). walk step (Gapless y) (Reached w.joined (moved mv w.venue)) t (sends w.venue.listed mv)) (sym (q (not-true w.asks f))) (g t (k.1 e))))
          (here w.member) w.queue (h.gapless r l q);
    }

-- at Replay Complete the counts are those of what the log held
whole : (v : Venue) (held : List Msg) (c : Table) → Session v held → Prefix held v.log → v.at ≡ v.up_to → Passed v c → Whole held c
whole v held c s q e h u =
    let t : take v.at v.log ≡ held = rw (e, s.mark, ← q.is) (take-append_seam held q.rest) in
    let k : count u (take v.at v.log) ≡ count u held = ap (count u) t in
    let g = h u in
    let l = s.low u in
    omega arith

orderly_tells : (j : Bool) (p : Phase) → Told false p → walk phase_after Orderly (OnLine j true) p (complete ∷ [])
orderly_tells j closed h = absurd h
orderly_tells j asked h = absurd h
orderly_tells j replaying h = (tt, λ _. refl)
orderly_tells j live h = absurd (false≢true h)

gapless_tells : (w : World) (p : Phase) (c : Table) → Inv w → w.joined ≡ true → w.venue.told ≡ false → w.venue.at ≡ w.venue.up_to → ReachedIn w.venue p c
    → walk step (Gapless w.held) (Reached w.joined (moved tells w.venue)) (record { phase = p; counts = c }) (complete ∷ [])
gapless_tells w closed c h j f e k = (tt, λ _. tt)
gapless_tells w asked c h j f e k = absurd k
gapless_tells w replaying c h j f e k = (whole w.venue w.held c (h.session j) h.held_is e k.1, λ _. (refl, k.1))
gapless_tells w live c h j f e k = absurd (true≢false (sym k.0 ∙ f))

orderly_sends : (j b : Bool) (p : Phase) (m : Msg) (t : Bool) → Told t p → walk phase_after Orderly (OnLine j t) p (pick b (message m ∷ []) [])
orderly_sends j false p m t h = λ _. h
orderly_sends j true closed m t h = absurd h
orderly_sends j true asked m t h = absurd h
orderly_sends j true replaying m t h = (tt, λ _. h)
orderly_sends j true live m t h = (tt, λ _. h)

gapless_sends : (w : World) (b : Bool) (p : Phase) (c : Table) (m : Msg) → Inv w → above w.venue.listed m ≡ b → Passes w.venue m → ReachedIn w.venue p c
    → walk step (Gapless w.held) (Reached w.joined (moved (passes m) w.venue)) (record { phase = p; counts = c }) (pick b (message m ∷ []) [])
gapless_sends w false closed c m h a q k = λ _. tt
gapless_sends w false asked c m h a q k = λ _. k
gapless_sends w false replaying c m h a q k = λ _. (k.0, skip_passed w.venue m h.numbered q c a k.1)
gapless_sends w false live c m h a q k = λ _. (k.0, skip_passed w.venue m h.numbered q c a k.1)
gapless_sends w true closed c m h a q k = (tt, λ _. tt)
gapless_sends w true asked c m h a q k = absurd k
gapless_sends w true replaying c m h a q k = (sent-next w.venue m h.numbered q c a k.1, λ _. (k.0, sent_passed w.venue m h.numbered q c a k.1))
gapless_sends w true live c m h a q k = (sent-next w.venue m h.numbered q c a k.1, λ _. (k.0, sent_passed w.venue m h.numbered q c a k.1))

mem_get_d : (l : List Msg) (i : ℕ) (d : Msg) → i < length l → Memᴰ (get_or l i d) l
mem_get_d [] i d h = absurd (omega arith)
mem_get_d (x ∷ l) zero d h = Memᴰ.head refl
mem_get_d (x ∷ l) (suc i) d h = Memᴰ.tail (mem_get_d l i d (omega arith))

in_sends : (v : Venue) (m : Msg) (b : Bool) → Passes v m → AllIn v.log (pick b (message m ∷ []) [])
in_sends v m false q = tt
in_sends v m true q = (Memᴰ.cast (sym q.is) (mem_get_d v.log v.at none-msg q.inside), tt)

inv_steps : (w : World) (mv : Move) (j : Bool) → move w.venue ≡ mv → w.joined ≡ j → Inv w → Inv (step_w mv j w)
inv_steps w mv false e f h = inv_apart w mv f h
inv_steps w idle true e f h = inv_on w idle f h (h.session f) tt (λ p k _. k) (λ s k _. k)
inv_steps w tells true e f h =
    let q = move-tells w.venue e in
    inv_on w tells f h
    (record { mark = (h.session f).mark; low = (h.session f).low; before = λ z. absurd (true≢false z); within = (h.session f).within })
    (tt, tt)
    (λ p k. orderly_tells w.joined p (rw q.0 at k))
    (λ s k. gapless_tells w s.phase s.counts h f q.0 q.1 k)
inv_steps w (passes m) true e f h =
    let q = move-passes w.venue m e in
    inv_on w (passes m) f h
    (record { mark = (h.session f).mark; low = (h.session f).low; before = λ z. omega (arith, (h.session f).before z, q.short z); within = q.inside })
    (in_sends w.venue m (above w.venue.listed m) q)
    (λ p k. orderly_sends w.joined (above w.venue.listed m) p m w.venue.told k)
    (λ s k. gapless_sends w (above w.venue.listed m) s.phase s.counts m h refl q k)

inv_stepping : (w : World) (r : Bool) → Inv w → Inv (stepping r w)
inv_stepping w false h = h
inv_stepping w true h = inv_steps w (move w.venue) w.joined refl refl h

-- ---- what is sent aside, and a Logout

-- what is sent aside changes nothing of what is expected
aside_orderly : (E : Phase → Type 0) (p : Phase) → E p → walk phase_after Orderly E p (aside ∷ [])
aside_orderly E closed h = (tt, h)
aside_orderly E asked h = (tt, h)
aside_orderly E replaying h = (tt, h)
aside_orderly E live h = (tt, h)

aside_gapless : (l : List Msg) (E : At → Type 0) (p : Phase) (c : Table) → E (record { phase = p; counts = c }) → walk step (Gapless l) E (record { phase = p; counts = c }) (aside ∷ [])
aside_gapless l E closed c h = (tt, h)
aside_gapless l E asked c h = (tt, h)
aside_gapless l E replaying c h = (tt, h)
aside_gapless l E live c h = (tt, h)

-- a Logout ends the session, whatever the venue goes on to send
leave_gapless : (l : List Msg) (a : Bool) (t : Table) (j : Bool) (v : Venue) (p : Phase) (c : Table) → walk step (Gapless l) (Stands a t j v) (record { phase = p; counts = c }) (logout ∷ [])
leave_gapless l a t j v closed c = (tt, (λ _. tt, λ _. tt))
leave_gapless l a t j v asked c = (tt, (λ _. tt, λ _. tt))
leave_gapless l a t j v replaying c = (tt, (λ _. tt, λ _. tt))
leave_gapless l a t j v live c = (tt, (λ _. tt, λ _. tt))

inv_asides : (w : World) → Inv w → Inv (sending (aside ∷ []) w)
inv_asides w h = record {
  numbered = h.numbered;
  safe = h.safe;
  in_log = all_append w.venue.log w.queue (aside ∷ []) h.in_log (tt, tt);
  held_is = h.held_is;
  session = h.session;
  waits = λ a. record { apart = (h.waits a).apart; low = (h.waits a).low };
  orderly = λ l. walk-then phase_after Orderly (Expects w.asks w.joined w.venue.told) (Expects w.asks w.joined w.venue.told) (aside ∷ []) (λ p k. aside_orderly (Expects w.asks w.joined w.venue.told) p k) w.member.phase w.queue (h.orderly l);
  gapless = λ r l q. walk-then step (Gapless l) (Stands w.asks w.asking w.joined w.venue) (Stands w.asks w.asking w.joined w.venue) (aside ∷ []) (λ t k. aside_gapless l (Stands w.asks w.asking w.joined w.venue) t.phase t.counts k) (here w.member) w.queue (h.gapless r l q);
}

inv_leaves : (w : World) → Inv w → Inv (leaving (sending (logout ∷ []) w))
inv_leaves w h = record {
  numbered = h.numbered;
  safe = h.safe;
  in_log = all_append w.venue.log w.queue (logout ∷ []) h.in_log (tt, tt);
  held_is = h.held_is;
  session = h.session;
  waits = λ a. record { apart = (h.waits a).apart; low = (h.waits a).low };
  orderly = λ l. absurd (true≢false l);
  gapless = λ r l q. walk-then step (Gapless l) (Stands w.asks w.asking w.joined w.venue) (Stands w.asks w.asking w.joined w.venue) (logout ∷ []) (λ t k. leave_gapless l w.asks w.asking w.joined w.venue t.phase t.counts) (here w.member) w.queue (h.gapless r l q);
}

-- ---- a delivery

neither : (a b : Bool) → (a || b) ≡ false → (a ≡ false) × (b ≡ false)
neither true b e = absurd (true≢false e)
neither false b e = (refl, e)

inv_delivers : (w : World) (q : List Sent) (cap : ℕ) → w.queue ≡ q → Inv w → Inv (delivering q cap w)
inv_delivers w [] cap e h = h
inv_delivers w (x ∷ q) cap e h =
    let i : AllIn w.venue.log (x ∷ q) = rw e at h.in_log in
    record {
      numbered = h.numbered;
      safe = safe_got w.venue.log w.member.phase cap x w.member h.numbered i.0 h.safe;
      in_log = i.1;
      held_is = h.held_is;
      session = h.session;
      waits = λ a. record { apart = (h.waits a).apart; low = (h.waits a).low };
      orderly = λ l.
          let o : walk phase_after Orderly (Expects w.asks w.joined w.venue.told) w.member.phase (x ∷ q) = rw e at (h.orderly l) in
          rw (phase_got w.member.phase cap x w.member refl) o.1;
      gapless = λ r l z.
          let n = neither w.refused (full cap x w.member) r in
          let g : walk step (Gapless l) (Stands w.asks w.asking w.joined w.venue) (here w.member) (x ∷ q) = rw e at (h.gapless n.0 l z) in
          let pe = phase_got w.member.phase cap x w.member refl in
          let te = table_got l w.member.phase cap x w.member n.1 g.0 in
          rw (pe, te) g.1;
    }

-- ---- every event, every trace

pub inv_apply : (e : Event) (w : World) → Inv w → Inv (apply e w)
inv_apply (logs m) w h = inv_logs w m (next_in_log m w.venue) refl h
inv_apply logs_in w h = inv_logs_in w w.member.phase refl h
inv_apply takes_it w h = inv_takes w w.asks w.venue.running refl h
inv_apply steps w h = inv_stepping w w.venue.running h
inv_apply rejects w h = inv_rejects w w.asks refl h
inv_apply asides w h = inv_asides w h
inv_apply logs_out w h = inv_leaves w h
inv_apply (delivers cap) w h = inv_delivers w w.queue cap refl h
inv_apply (breaks cap) w h = inv_breaks w w.member.phase cap refl h
inv_apply drops w h = inv_drops w w.venue.running h
inv_apply (strays t) w h = inv_strays w w.venue.running t h
inv_apply (cuts k) w h = inv_cuts w k h

pub inv_run : (es : List Event) (w : World) → Inv w → Inv (run es w)
inv_run [] w h = h
inv_run (e ∷ es) w h = inv_run es (apply e w) (inv_apply e w h)

pub inv_start : Inv start
inv_start = record {
  numbered = λ u. tt;
  safe = record { headed = tt; reads = refl; firsts = λ u. prefix_refl [] };
  in_log = tt;
  held_is = prefix_refl [];
  session = λ j. absurd (false≢true j);
  waits = λ a. absurd (false≢true a);
  orderly = λ l. (λ a. absurd (false≢true a), λ j. absurd (false≢true j));
  gapless = λ r l q. (λ a. absurd (false≢true a), λ j. absurd (false≢true j));
}

-- what a login under way would list says nothing where there is none
pub inv_asking : (t : Table) → Inv (record { venue = start.venue; member = start.member; joined = false; asks = false; asking = t; queue = []; refused = false; held = []; left = false })
inv_asking t = record {
  numbered = inv_start.numbered;
  safe = inv_start.safe;
  in_log = tt;
  held_is = inv_start.held_is;
  session = λ j. absurd (false≢true j);
  waits = λ a. absurd (false≢true a);
  orderly = λ l. (λ a. absurd (false≢true a), λ j. absurd (false≢true j));
  gapless = λ r l q. (λ a. absurd (false≢true a), λ j. absurd (false≢true j));
}
