-- A login that the bench takes is the model's, with the numbers that it lists; ours is taken, with room for the answer. Assumes nothing.
use Prim.Native.Nat.{ℕ, ◌≤◌, min}
use Rattle.std.proofs.Common.{arith, sym, ◌∙◌, true≢false, eqb-true}
use Rattle.std.specs.Prelude.{◌≡◌, refl, Bool, true, cond, take, eqb}
use Rattle.std.proofs.Math.Path.{ap, fun_ext}
use mathlib.Core.List.{List, [], map, append-nil}
use Rattle.std.proofs.Math.Bool.{false}
use Rattle.std.proofs.lemmas.Bool.{false≢true, eqb-false}
use Rattle.std.proofs.Math.ListN.{length}
use Rattle.std.proofs.Math.Seq.{take-length}
use Rattle.wire.specs.Header.{type_of}
use Rattle.wire.specs.Frame.{frame_refusal, framed}
use Rattle.table.specs.Table.{unit_refusal}
use Rattle.table.proofs.TableLaws.{unit_in_range}
use Rattle.session_messages.specs.declared.Record.{Record}
use Rattle.session_messages.specs.Sessions as logins
use Rattle.session_messages.proofs.SessionTrip.{Sound, read_accepts, framed-after, framed_as_written}
use Rattle.session_logins.specs.LoginRequests.{login_record}
use Rattle.day_model.specs.Model.{Msg, Table, count, Venue, took}
use Rattle.day_model.specs.Story.{Bytes}
use Rattle.day_line.specs.Lines.{msg_of, lists, login_of_table, OurLogin}
use Rattle.day_line.specs.OurLogins.{body_long}
use Rattle.venue.specs.declared.Thresholds.{Thresholds}
use Rattle.venue.specs.Answer.{Answer}
use Rattle.session_fields.specs.AskedFor.{asked_above}
use Rattle.venue.specs.Venues.{thresholds_of, wanted_above, logged_in}
use Rattle.venue.proofs.LoginLaws.{none_above}
use Rattle.venue.proofs.ThresholdLaws as thresholds
use Rattle.venue.specs.VenueDay.{Bench, with, accepts, takes_login}
use Rattle.venue.specs.VenueView.{low, view_v, GoodV}
use Rattle.venue.proofs.VenueRuns.{map_long, place_all}
use Rattle.venue.proofs.VenueCalls.{view_is}
use Rattle.venue.proofs.VenueTaken.{Login, taken, login-answer, takes_it_lem}

-- ---- any login

-- the state after it
pub logged_in_lem : (room : ℕ) (b : Bytes) (w : Bench) → accepts room b w ≡ true → takes_login room b w ≡ with (logged_in w.venue (framed b)) w
logged_in_lem room b w ok = ap (λ (x : Answer). with x.venue w) (login-answer w.venue b room (taken room b w ok).none)

module _ (room : ℕ) (b : Bytes) (w : Bench) (g : GoodV w) (ok : accepts room b w ≡ true) where
  abbrev t : Thresholds
  t = thresholds_of (logins.record_of (framed b))

  new_good : GoodV (with (logged_in w.venue (framed b)) w)
  new_good =
      let l = g.log in
      let ms = g.messages in
      record {
        messages = ms;
        cursor = 0;
        mark = length ms;
        log = record { is = l.is; long = l.long; within = l.within; whole = l.whole; ordered = l.ordered; full = l.full; table = l.table };
        places = record {
          at = refl;
          upto = l.long ∙ ap length l.is ∙ sym (place_all ms);
          in_at = omega arith;
          in_upto = omega arith;
          before = λ _. omega arith;
          beyond = λ z. absurd (false≢true z);
          outside = λ z. absurd (true≢false z);
        };
      }

  pub takes_good : GoodV (takes_login room b w)
  takes_good = rw (logged_in_lem room b w ok) new_good

  all_of : take (length g.messages) (map msg_of g.messages) ≡ map msg_of g.messages
  all_of = ap (λ (n : ℕ). take n (map msg_of g.messages)) (sym (map_long msg_of g.messages)) ∙ take-length (map msg_of g.messages)

  -- the model's, with some table
  abbrev pub lowest : Table
  lowest u = min (wanted_above t u) (count u (view_v w).log)

  pub strays_is : view_v (takes_login room b w) ≡ took lowest (view_v w)
  unfolding new_good
  strays_is =
      let ms = g.messages in
      let e : low t (length ms) (map msg_of ms) ≡ (λ u. min (wanted_above t u) (count u (map msg_of ms))) = ap (λ (l : List Msg). λ (u : ℕ). min (wanted_above t u) (count u l)) all_of in
      ap view_v (logged_in_lem room b w ok)
      ∙ view_is (with (logged_in w.venue (framed b)) w) new_good
      ∙ ap (λ (x : Table). record { log = map msg_of ms; running = true; listed = x; at = 0; up_to = length ms; told = false }) e
      ∙ ap (λ (n : ℕ). record { log = map msg_of ms; running = true; listed = λ u. min (wanted_above t u) (count u (map msg_of ms)); at = 0; up_to = n; told = false }) (sym (map_long msg_of ms))
      ∙ ap (λ (x : Venue). took (λ u. min (wanted_above t u) (count u x.log)) x) (sym (view_is w g))

  -- a login that lists no more than the log holds: with the table of its thresholds
  pub takes-listed : ((u : ℕ) → wanted_above t u ≤ count u (view_v w).log) → view_v (takes_login room b w) ≡ took (wanted_above t) (view_v w)
  takes-listed h =
      let e : lowest ≡ wanted_above t = fun_ext (λ u. omega (arith, h u)) in
      strays_is ∙ ap (λ (x : Table). took x (view_v w)) e

-- ---- the thresholds of a login, unit by unit

pub threshold_at : (r : Record) (u : ℕ) → unit_refusal u ≡ 0 → wanted_above (thresholds_of r) u ≡ asked_above r u
threshold_at r u z = let h = unit_in_range u z in thresholds.threshold_at r u h.0 h.1

-- they are the numbers above which it asks for messages
pub thresholds_listed : (b : Bytes) → wanted_above (thresholds_of (logins.record_of b)) ≡ lists b
unfolding lists
thresholds_listed b = fun_ext (λ u. by u (eqb (unit_refusal u) 0) refl)
  where
    by : (u : ℕ) (q : Bool) → eqb (unit_refusal u) 0 ≡ q → wanted_above (thresholds_of (logins.record_of b)) u ≡ cond q (asked_above (logins.record_of b) u) 0
    by u true e = threshold_at (logins.record_of b) u (eqb-true (unit_refusal u) 0 e)
    by u false e = none_above (thresholds_of (logins.record_of b)) u (eqb-false (unit_refusal u) 0 e)

-- ---- our login

module _ (b : Bytes) (o : OurLogin b) where
  abbrev ours : Record
  ours = login_of_table o.table o.fields

  sound : Sound ours
  sound = record { body-length = body_long o.table o.fields }

  pub our_whole : framed b ≡ b
  our_whole = ap framed (o.is ∙ sym (append-nil (logins.session_bytes ours))) ∙ framed_as_written ours o.room sound o.written [] ∙ sym o.is

  our_type : type_of b ≡ 0x37
  unfolding login_record
  our_type = ap type_of o.is

  -- it is read
  pub our_login : Login b
  our_login = record {
    frames = ap frame_refusal (o.is ∙ sym (append-nil (logins.session_bytes ours))) ∙ framed-after ours o.room sound o.written [];
    typed = ap type_of our_whole ∙ our_type;
    reads = ap logins.read_refusal (our_whole ∙ o.is) ∙ read_accepts ours o.room sound o.written;
  }

  -- its thresholds are the numbers that it lists
  pub our_thresholds : wanted_above (thresholds_of (logins.record_of (framed b))) ≡ lists b
  our_thresholds = ap (λ (x : Bytes). wanted_above (thresholds_of (logins.record_of x))) our_whole ∙ thresholds_listed b

pub accepts-ours : (room : ℕ) (b : Bytes) (w : Bench) → OurLogin b → w.venue.running ≡ false → 443 ≤ room → accepts room b w ≡ true
accepts-ours room b w o r h = takes_it_lem w.venue b room r (our_login b o) h

pub takes_is : (room : ℕ) (b : Bytes) (w : Bench) → OurLogin b → accepts room b w ≡ true → GoodV w → ((u : ℕ) → lists b u ≤ count u (view_v w).log)
    → view_v (takes_login room b w) ≡ took (lists b) (view_v w)
takes_is room b w o ok g h =
    let e = our_thresholds b o in
    takes-listed room b w g ok (λ u. (let k : wanted_above (thresholds_of (logins.record_of (framed b))) u ≡ lists b u = ap (λ (f : Table). f u) e in omega (arith, h u, k)))
    ∙ ap (λ (x : Table). took x (view_v w)) e
