-- What the interface leaves open: the bench logs what it must, a login filters each unit as document 01 says, and no step is idle before Replay
-- Complete.
--     logs_what_it_must      a message in order, the next of its unit's, with room, is logged
--     listed_above           of a listed unit the replay sends what is above the listed number
--     unlisted-all           of an unlisted one all, if the flag is 0 or no group of units came
--     unlisted-none          of an unlisted one nothing, if the flag is 1
--     idle_after_complete    a step that sends nothing, with room for the longest message, comes after Replay Complete
-- Assumes nothing.
use Prim.Native.Nat.{ℕ, zero, suc, ◌+◌, ◌≤◌, ◌<◌, min}
use Rattle.std.proofs.Common.{arith, ◌∙◌}
use Rattle.std.specs.Prelude.{◌≡◌, refl, List, [], ◌∷◌, map, Bool, cond, length, eqb, Option, None, Some}
use Rattle.std.proofs.Math.Path.{sym, ap}
use Rattle.std.proofs.Math.Bool.{true, false}
use borrow.Author.Tests.{eq-eqb, ne_eqb, eqb-true, eqb-false}
use Rattle.wire.specs.Header.{unit_of, number_of}
use Rattle.wire.specs.Frame.{framed}
use Rattle.table.specs.Table.{unit_refusal, last_of, step_refusal}
use Rattle.table.proofs.TableLaws.{next_is_taken}
use Rattle.book.specs.Books.{limit, roomless, message_refusal, next_refusal, append_refusal}
use Rattle.book.proofs.BookLaws.{frames, by_count}
use Rattle.session_messages.specs.declared.Record.{Record}
use Rattle.session_messages.specs.Sessions as logins
use Rattle.table.specs.declared.UnitNumber.{UnitNumber}
use Rattle.session_fields.specs.SessionFields.{group_listed}
use Rattle.day_model.specs.Model.{Msg, keep, of_unit, count, above, Sent, Venue, passes, move, logged, next_in_log}
use Rattle.day_model.specs.Steps.{Stepped, doc_step, move-tells, move-passes}
use Rattle.day_model.specs.Story.{Bytes}
use Rattle.day_line.specs.Lines.{msg_of, says}
use Rattle.session_fields.specs.AskedFor.{units_at, flag_of, unlisted_above, or_listed, asked_above}
use Rattle.venue.specs.Venues.{log_book}
use Rattle.venue.specs.VenueDay.{Bench, alone, adds, accepts, takes_login, step_sends}
use Rattle.venue.specs.VenueView.{view_v, GoodV}
use Rattle.venue.proofs.VenueRuns.{fewer, map_long}
use Rattle.venue.proofs.VenueWalk.{step-sends, step-passes, step-tells}
use Rattle.venue.proofs.VenueCalls.{view_is}
use Rattle.venue.proofs.VenueAdds.{adds_is, alone_is}
use Rattle.venue.proofs.VenueSent.{steps_as_told}
use Rattle.venue.proofs.VenueLogin.{strays_is, threshold_at}
use Rattle.venue.proofs.VenueLive.{at_message, past}

-- ---- the log

module _ (room : ℕ) (b : Bytes) (w : Bench) (g : GoodV w) where
  -- LOGS WHAT IT MUST
  pub logs_what_it_must : alone b ≡ true → message_refusal b ≡ 0 → unit_refusal (unit_of b) ≡ 0 → number_of b ≡ suc (count (unit_of b) (view_v w).log)
      → length w.bytes + length b ≤ room → length w.bytes + length b ≤ limit → view_v (adds room b w) ≡ logged true (msg_of b) (view_v w)
  unfolding append_refusal next_refusal step_refusal
  logs_what_it_must one reads unit number fits within =
      let v = w.venue in
      let o : framed b ≡ b = alone_is b (frames b reads) one in
      let c : count (unit_of b) (view_v w).log ≡ last_of v.table (unit_of b) =
      ap (λ (x : Venue). count (unit_of b) x.log) (view_is w g) ∙ sym (g.log.table (unit_of b)) in
      let s : step_refusal v.table (unit_of b) (number_of b) ≡ 0 = rw (unit, number, c) (next_is_taken (last_of v.table (unit_of b))) in
      let r : roomless (log_book v) room (length b) ≡ false =
      by_count (log_book v) room (length b) (omega (arith, fits, g.log.long)) (omega (arith, within, g.log.long)) (omega arith) in
      let z : append_refusal (log_book v) room b ≡ 0 = rw (reads, o, s, r) in
      let n : next_in_log (msg_of b) (view_v w) ≡ true = eq-eqb (number_of b) (suc (count (unit_of b) (view_v w).log)) number in
      adds_is room b w g ∙ rw (one, z, n)

-- ---- the replay, unit by unit

few_of : (u : ℕ) (l : List Msg) → count u l ≤ length l
few_of u [] = omega arith
few_of u (m ∷ l) = by (eqb u m.unit) (few_of u l)
  where
    by : (b : Bool) → length (of_unit u l) ≤ length l → length (keep b m (of_unit u l)) ≤ suc (length l)
    by true h = omega (arith, h)
    by false h = omega (arith, h)

module _ (room : ℕ) (b : Bytes) (w : Bench) (g : GoodV w) (ok : accepts room b w ≡ true) (u : ℕ) (unit : unit_refusal u ≡ 0) where
  abbrev r : Record
  r = logins.record_of (framed b)

  listed_is : (view_v (takes_login room b w)).listed u ≡ min (asked_above r u) (count u (view_v w).log)
  listed_is = ap (λ (x : Venue). x.listed u) (strays_is room b w g ok) ∙ ap (λ (n : ℕ). min n (count u (view_v w).log)) (threshold_at r u unit)

  count_small : count u (view_v w).log ≤ 16777216
  count_small =
      let l = g.log in
      let e : count u (view_v w).log ≡ count u (map msg_of g.messages) = ap (λ (x : Venue). count u x.log) (view_is w g) in
      omega (arith, e, few_of u (map msg_of g.messages), map_long msg_of g.messages, fewer g.messages l.whole, ap length l.is, l.long, l.within)

  -- LISTED: what is above the listed number, or nothing where the log held no more
  pub listed_above : {n : UnitNumber} → group_listed (units_at r) u r ≡ Some n → (view_v (takes_login room b w)).listed u ≡ min n.0 (count u (view_v w).log)
  unfolding asked_above
  listed_above t =
      listed_is ∙ ap (λ (x : Option UnitNumber). min (or_listed x (unlisted_above (flag_of r))) (count u (view_v w).log)) t

  module _ (t : group_listed (units_at r) u r ≡ None) where
    by_flag : (f : Bool) → eqb (flag_of r) 1 ≡ f → (view_v (takes_login room b w)).listed u ≡ min (cond f 4294967295 0) (count u (view_v w).log)
    unfolding asked_above
    by_flag f e =
        listed_is
        ∙ ap (λ (x : Option UnitNumber). min (or_listed x (unlisted_above (flag_of r))) (count u (view_v w).log)) t
        ∙ ap (λ (x : Bool). min (cond x 4294967295 0) (count u (view_v w).log)) e

    -- UNLISTED ALL: the flag is not 1
    pub unlisted_all : (flag_of r ≡ 1 → ⊥) → (view_v (takes_login room b w)).listed u ≡ 0
    unlisted_all n = by_flag false (ne_eqb _ 1 n) ∙ omega arith

    -- UNLISTED NONE: the flag is 1, and no number that the log held is above
    pub unlisted-none : flag_of r ≡ 1 → (view_v (takes_login room b w)).listed u ≡ count u (view_v w).log
    unlisted-none o = by_flag true (eq-eqb _ 1 o) ∙ omega (arith, count_small)

-- ---- idle

-- document 01's step of a venue in a replay sends something
never_idle : (n : ℕ) (v : Venue) → v.told ≡ false → v.at ≤ v.up_to → v.up_to ≤ length v.log → v.up_to < v.at + n → (doc_step n v).sent ≡ [] → ⊥
never_idle zero v t h l f e = omega arith
never_idle (suc n) v t h l f e = by (eqb v.at v.up_to) refl (λ a b. never_idle n (past v) t a l b)
  where
    none : {x : Sent} → x ∷ [] ≡ [] → ⊥
    none q = (let z : ◌≡◌ {A = ℕ} 1 0 = ap length q in omega (arith, z))

    by : (b : Bool) → eqb v.at v.up_to ≡ b → (suc v.at ≤ v.up_to → v.up_to < suc v.at + n → (doc_step n (past v)).sent ≡ [] → ⊥) → ⊥
    by true q ih = none (ap (λ (s : Stepped). s.sent) (sym (step-tells n v (move-tells v t (eqb-true _ _ q)))) ∙ e)
    by false q ih =
        let d : v.at ≡ v.up_to → ⊥ = eqb-false _ _ q in
        let m = move-passes v t (omega (arith, d)) l in
        go (above v.listed (at_message v)) refl m (omega (arith, d))
      where
        go : (a : Bool) → above v.listed (at_message v) ≡ a → move v ≡ passes (at_message v) → suc v.at ≤ v.up_to → ⊥
        go true a m k = none (ap (λ (s : Stepped). s.sent) (sym (step-sends n v (at_message v) m a)) ∙ e)
        go false a m k = ih k (omega arith) (ap (λ (s : Stepped). s.sent) (sym (step-passes n v (at_message v) m a)) ∙ e)

-- IDLE AFTER COMPLETE
pub idle_after_complete : (room : ℕ) (w : Bench) → GoodV w → w.venue.running ≡ true → 2048 ≤ room → step_sends room w ≡ [] → w.venue.told ≡ true
idle_after_complete room w g runs h e = by w.venue.told refl
  where
    by : (b : Bool) → w.venue.told ≡ b → w.venue.told ≡ true
    by true t = t
    by false t =
        let p = g.places in
        let v = view_is w g in
        let at : (view_v w).at ≡ g.cursor = ap (λ (x : Venue). x.at) v in
        let up : (view_v w).up_to ≡ g.mark = ap (λ (x : Venue). x.up_to) v in
        let lo : length (view_v w).log ≡ length g.messages = ap (λ (x : Venue). length x.log) v ∙ map_long msg_of g.messages in
        let s = steps_as_told w g runs room h in
        absurd (never_idle (suc (length (view_v w).log)) (view_v w) t (omega (arith, at, up, p.before t)) (omega (arith, up, lo, p.in_upto)) (omega (arith, at, up, lo, p.in_upto))
        (sym s.sent ∙ ap (map says) e))
