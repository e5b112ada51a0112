-- 02, request 6: both forms of a login with the whole table bring the same replay of the bench.
--     bench_same_replay    from any state of the bench, after either of two logins of ours with the same table, in whatever forms, the bench is in the same
--                          state, and so whatever is called then sends the same bytes
--     fine-clear           what a step sends is known by what it says, of any venue on our line
-- Assumes nothing.
use Prim.Native.Nat.{ℕ, zero, suc, ◌+◌, ◌≤◌, ◌<◌}
use Rattle.std.proofs.Common.{arith, ap₂, ◌∙◌, ext_get_or, eqb-true}
use Rattle.std.specs.Prelude.{◌≡◌, refl, Bool, true, false, ◌||◌, eqb, get_or, drop}
use Rattle.std.proofs.Math.Path.{sym, ap}
use Rattle.std.proofs.Math.Bool.{cond}
use mathlib.Core.List.{List, [], ◌∷◌}
use Rattle.std.proofs.Math.ListN.{length, length-drop}
use Rattle.wire.specs.Header.{length_of, type_of, number_of, total_of}
use Rattle.wire.specs.Frame.{framed}
use Rattle.wire.proofs.FrameLaws.{Whole, whole}
use Rattle.orders.specs.Shapes.{unsequenced}
use Rattle.orders.specs.Orders as orders
use Rattle.table.specs.declared.UnitNumber.{UnitNumber}
use Rattle.table.specs.Table.{last_of}
use Rattle.table.proofs.TableLaws.{unit-taken}
use Rattle.session_messages.specs.declared.Record.{Record}
use Rattle.session_messages.specs.Sessions as logins
use Rattle.session_messages.proofs.SessionLaws.{Good, good}
use Rattle.session_logins.specs.LoginRequests.{up_from}
use Rattle.session_fields.specs.AskedFor.{asked_above}
use Rattle.messages.specs.Messages.{carries, is_session, own_refusal, read_refusal}
use Rattle.messages.proofs.MessageLaws.{own_refusal_lem}
use Rattle.day_model.specs.Model.{Sent, response, message, complete, aside, logout}
use Rattle.day_model.specs.Model as day
use Rattle.day_model.specs.Story.{Bytes}
use Rattle.day_model.specs.Brings.{Call, sent_by}
use Rattle.day_model.proofs.SameReplay.{Replayed}
use Rattle.day_line.specs.Lines.{msg_of, says, Fine, OurLogin}
use Rattle.day_line.specs.OurLogins.{our_asked, our_record}
use Rattle.venue.specs.declared.Thresholds.{Thresholds}
use Rattle.venue.specs.Venues.{numbers_for, thresholds_of, complete_bytes}
use Rattle.venue.specs.VenueDay.{Bench, with, our_venue, accepts, takes_login}
use Rattle.venue.proofs.VenueLine.{spoken, read_frames}
use Rattle.venue.proofs.VenueLogin.{logged_in_lem, our_whole}

-- ---- the thresholds

numbers_alike : (f g : ℕ → ℕ) (n k : ℕ) → ((u : ℕ) → k ≤ u → u < k + n → f u ≡ g u) → numbers_for f (up_from n k) ≡ numbers_for g (up_from n k)
numbers_alike f g zero k h = refl
numbers_alike f g (suc n) k h =
    ap₂ (λ (x : ℕ) (l : List UnitNumber). record { 0 = x } ∷ l) (h k (omega arith) (omega arith)) (numbers_alike f g n (suc k) (λ u a b. h u (omega arith) (omega arith)))

-- two logins that ask for the same of every unit
thresholds_alike : (r s : Record) → ((u : ℕ) → 1 ≤ u → u ≤ 32 → asked_above r u ≡ asked_above s u) → thresholds_of r ≡ thresholds_of s
unfolding thresholds_of
thresholds_alike r s h = ap (λ (l : List UnitNumber). record { numbers = l }) (numbers_alike (asked_above r) (asked_above s) 32 1 (λ u a b. h u a (omega arith)))

-- ours asks for what is above its table's numbers
asks_for : (b : Bytes) (o : OurLogin b) (u : ℕ) → 1 ≤ u → u ≤ 32 → asked_above (logins.record_of (framed b)) u ≡ last_of o.table u
asks_for b o u h k =
    ap (λ (x : Bytes). asked_above (logins.record_of x) u) (our_whole b o) ∙ ap (λ (r : Record). asked_above r u) (our_record o)
    ∙ our_asked o.table o.fields o.fit u (unit-taken u h k)

-- ---- the bench

-- the same state, and the same bytes of whatever is called then
pub record SameReplay (one other : Bench) : Type 0 where
  pub state_is : one ≡ other
  pub sent : (cs : List Call) → sent_by our_venue cs one ≡ sent_by our_venue cs other

-- BENCH SAME REPLAY
pub bench_same_replay : (w : Bench) (room room' : ℕ) (b b' : Bytes) (o : OurLogin b) (o' : OurLogin b') → ((u : ℕ) → last_of o.table u ≡ last_of o'.table u)
    → accepts room b w ≡ true → accepts room' b' w ≡ true → SameReplay (takes_login room b w) (takes_login room' b' w)
bench_same_replay w room room' b b' o o' e ok ok' = record { state_is = is; sent = λ cs. ap (sent_by our_venue cs) is }
  where
    alike : thresholds_of (logins.record_of (framed b)) ≡ thresholds_of (logins.record_of (framed b'))
    alike = thresholds_alike (logins.record_of (framed b)) (logins.record_of (framed b')) (λ u h k. asks_for b o u h k ∙ e u ∙ sym (asks_for b' o' u h k))

    begins : Thresholds → Bench
    begins t = with (record { running = true; told = false; at = 0; upto = w.venue.length; length = w.venue.length; received = w.venue.received; thresholds = t; table = w.venue.table }) w

    is : takes_login room b w ≡ takes_login room' b' w
    is = logged_in_lem room b w ok ∙ ap begins alike ∙ sym (logged_in_lem room' b' w ok')

-- ---- what is on our line, of any venue

-- Replay Complete that is read, and nothing after it, is its ten bytes
module _ (b : Bytes) (f : Fine b) (t : type_of b ≡ 0x13) where
  frames : Whole b
  frames = whole b (read_frames 1 b f.reads)

  reads : Good b
  unfolding own_refusal carries
  reads =
      let k : type_of (framed b) ≡ 0x13 = ap type_of f.whole ∙ t in
      let o : read_refusal 1 b ≡ own_refusal (framed b) = own_refusal_lem 1 b [] (read_frames 1 b f.reads) (ap (carries 1) k) in
      good b (ap (λ (x : ℕ). cond (is_session x) (logins.read_refusal b) (orders.read_refusal b)) (sym t) ∙ sym (ap own_refusal f.whole) ∙ sym o ∙ f.reads)

  ten : length b ≡ 10
  unfolding logins.body_end logins.fixed_size
  ten =
      let g = reads in
      let e : 1 ≡ suc (length (drop 10 b)) = ap (λ (x : ℕ). logins.body_end x (drop 10 b)) (sym t) ∙ g.total in
      let h : 10 + logins.fixed_size (type_of b) ≤ length b = g.there in
      omega (arith, e, length-drop 10 b, h)

  total : length_of b ≡ 8
  unfolding total_of
  total = omega (arith, frames.least, frames.fits, ten)

  bytes_are : (i : ℕ) → i < length b → get_or b i 0 ≡ get_or complete_bytes i 0
  unfolding length_of number_of
  bytes_are zero h = frames.ba0
  bytes_are (suc zero) h = frames.ba1
  bytes_are (suc (suc zero)) h = let e = total in omega (arith, e)
  bytes_are (suc (suc (suc zero))) h = let e = total in omega (arith, e)
  bytes_are (suc (suc (suc (suc zero)))) h = t
  bytes_are (suc (suc (suc (suc (suc zero))))) h = reads.unit
  bytes_are (suc (suc (suc (suc (suc (suc zero)))))) h = let e = reads.number in omega (arith, e)
  bytes_are (suc (suc (suc (suc (suc (suc (suc zero))))))) h = let e = reads.number in omega (arith, e)
  bytes_are (suc (suc (suc (suc (suc (suc (suc (suc zero)))))))) h = let e = reads.number in omega (arith, e)
  bytes_are (suc (suc (suc (suc (suc (suc (suc (suc (suc zero))))))))) h = let e = reads.number in omega (arith, e)
  bytes_are (suc (suc (suc (suc (suc (suc (suc (suc (suc (suc i)))))))))) h = absurd (omega (arith, h, ten))

  complete_is : complete_bytes ≡ b
  complete_is = sym (ext_get_or 0 b complete_bytes ten bytes_are)

-- FINE CLEAR
pub fine-clear : (b : Bytes) → Fine b → Replayed (says b) → spoken (says b) ≡ b
unfolding says
fine-clear b f r = by (eqb (type_of b) 0x24) (eqb (type_of b) 0x13) (eqb (type_of b) 0x08) (eqb (type_of b) 0x09 || unsequenced (type_of b)) refl r
  where
    sent : Bool → Bool → Bool → Bool → Sent
    sent p q x y = day.pick p (response (eqb (get_or b 10 0) 65)) (day.pick q complete (day.pick x logout (day.pick y aside (message (msg_of b)))))

    by : (p q x y : Bool) → eqb (type_of b) 0x13 ≡ q → Replayed (sent p q x y) → spoken (sent p q x y) ≡ b
    by true q x y e z = absurd z
    by false true x y e z = complete_is b f (eqb-true _ _ e)
    by false false true y e z = absurd z
    by false false false true e z = absurd z
    by false false false false e z = refl
