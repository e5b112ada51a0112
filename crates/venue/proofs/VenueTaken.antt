-- A login that the bench takes: what was read, the state in which its session begins, and the answer, which the member's reader takes.
-- Assumes nothing.
use Prim.Native.Nat.{ℕ, ◌+◌, ◌-◌, ◌≤◌}
use Rattle.std.proofs.Common.{arith, sym, ap₂, ◌∙◌, length-drop, eq-eqb, ne_eqb, eqb-true, le-ltb}
use Rattle.std.specs.Prelude.{◌≡◌, Bool, true, false, get_or, take, drop, eqb}
use Rattle.std.proofs.Math.Path.{refl, ap}
use mathlib.Core.List.{List, [], ◌∷◌, append-nil}
use Rattle.std.proofs.Math.Bool.{cond}
use Rattle.std.proofs.Math.ListN.{length, length-append}
use Rattle.std.proofs.Math.Seq.{get_or-take}
use Rattle.std.proofs.lemmas.Bool.{eqb-false}
use Rattle.refusals.specs.Names.{unknown_type, out_of_phase}
use Rattle.numbers.specs.Numbers.{patched}
use Rattle.wire.specs.Header.{type_of}
use Rattle.wire.specs.Frame.{frame_refusal, framed}
use Rattle.block.specs.Slots.{zeros}
use Rattle.block.specs.SlotLaws.{length-zeros}
use Rattle.session_groups.specs.Values.{pairs_bytes}
use Rattle.orders.specs.Orders as orders
use Rattle.session_messages.specs.declared.Record.{Record}
use Rattle.session_messages.specs.Sessions as logins
use Rattle.session_messages.proofs.SessionLaws.{Fit, fit, body-ends}
use Rattle.session_messages.proofs.SessionTrip.{Sound, bytes-length, read_accepts, framed-after, framed_as_written}
use Rattle.session_logins.specs.LoginRequests.{up_from, pairs_for}
use Rattle.session_logins.proofs.LoginRequestLaws.{pairs_size}
use Rattle.messages.specs.Messages.{carries, is_session, own_refusal}
use Rattle.messages.proofs.MessageLaws.{own_refusal_lem}
use Rattle.day_model.specs.Model.{response}
use Rattle.day_model.specs.Story.{Bytes}
use Rattle.day_line.specs.Lines.{says, Fine}
use Rattle.venue.specs.declared.Venue as state
use Rattle.venue.specs.Answer.{Answer}
use Rattle.venue.specs.Venues.{pick_answer, refused, login_read_refusal, said_of, response_record, logged_in, login_refusal, login_of, login_out}
use Rattle.venue.proofs.Responses.{login_long, login-short, response_refusal_lem}
use Rattle.venue.specs.VenueDay.{Bench, unless, sent_of, accepts}
use Rattle.venue.proofs.VenueSent.{sent_front}

-- ---- what was read

-- a login that is read: the first whole message, of the login's type, in order
pub record Login (b : Bytes) : Type 0 where
  pub frames : frame_refusal b ≡ 0
  pub typed : type_of (framed b) ≡ 0x37
  pub reads : logins.read_refusal (framed b) ≡ 0

pub login_read : (b : Bytes) → login_read_refusal b ≡ 0 → Login b
unfolding login_read_refusal
login_read b z = by (eqb (frame_refusal b) 0) (eqb (type_of (framed b)) 0x37) refl refl z
  where
    by : (p q : Bool) → eqb (frame_refusal b) 0 ≡ p → eqb (type_of (framed b)) 0x37 ≡ q → cond p (cond q (logins.read_refusal (framed b)) unknown_type) (frame_refusal b) ≡ 0 → Login b
    by true true e f y = record { frames = eqb-true _ _ e; typed = eqb-true _ _ f; reads = y }
    by true false e f y = absurd (omega (arith, y))
    by false q e f y = absurd (eqb-false _ _ e y)

pub read_login : (b : Bytes) → Login b → login_read_refusal b ≡ 0
unfolding login_read_refusal
read_login b l = rw (l.frames, l.typed, l.reads)

-- a login that is taken
pub record Taken (v : state.Venue) (b : Bytes) (room : ℕ) : Type 0 where
  pub idle : v.running ≡ false
  pub login : Login b
  pub written : logins.record_refusal (response_record v (framed b)) room ≡ 0
  pub none : login_refusal v b room ≡ 0

refusal-none : (v : state.Venue) (b : Bytes) (room : ℕ) → eqb (login_of v b room).refusal 0 ≡ true → login_refusal v b room ≡ 0
unfolding login_of
refusal-none v b room h = by (eqb (login_refusal v b room) 0) refl h
  where
    by : (t : Bool) → eqb (login_refusal v b room) 0 ≡ t
        → eqb (pick_answer t (record { refusal = 0; sent = length (logins.session_bytes (response_record v (framed b))); venue = logged_in v (framed b) }) (refused (login_refusal v b room) v)).refusal 0 ≡ true
        → login_refusal v b room ≡ 0
    by true e y = eqb-true _ _ e
    by false e y = eqb-true _ _ y

taken_by : (v : state.Venue) (b : Bytes) (room : ℕ) → login_refusal v b room ≡ 0 → Taken v b room
unfolding login_refusal
taken_by v b room z = by v.running (eqb (login_read_refusal b) 0) refl refl z
  where
    by : (p q : Bool) → v.running ≡ p → eqb (login_read_refusal b) 0 ≡ q
        → cond p out_of_phase (cond q (logins.record_refusal (response_record v (framed b)) room) (login_read_refusal b)) ≡ 0 → Taken v b room
    by true q e f y = absurd (omega (arith, y))
    by false true e f y = record { idle = e; login = login_read b (eqb-true _ _ f); written = y; none = z }
    by false false e f y = absurd (eqb-false _ _ f y)

pub taken : (room : ℕ) (b : Bytes) (w : Bench) → accepts room b w ≡ true → Taken w.venue b room
taken room b w h = taken_by w.venue b room (refusal-none w.venue b room h)

-- ---- the call

module _ (v : state.Venue) (b : Bytes) (room : ℕ) (t : login_refusal v b room ≡ 0) where
  pub login-answer : login_of v b room ≡ record { refusal = 0; sent = length (logins.session_bytes (response_record v (framed b))); venue = logged_in v (framed b) }
  unfolding login_of
  login-answer =
      ap (λ (x : Bool). pick_answer x (record { refusal = 0; sent = length (logins.session_bytes (response_record v (framed b))); venue = logged_in v (framed b) }) (refused (login_refusal v b room) v)) (eq-eqb (login_refusal v b room) 0 t)

  login-out : login_out v b (zeros room) ≡ patched (zeros room) 0 (logins.session_bytes (response_record v (framed b)))
  unfolding login_out
  login-out =
      ap (λ (n : ℕ). cond (eqb (login_refusal v b n) 0) (patched (zeros room) 0 (logins.session_bytes (response_record v (framed b)))) (zeros room)) (length-zeros room)
      ∙ ap (λ (x : Bool). cond x (patched (zeros room) 0 (logins.session_bytes (response_record v (framed b)))) (zeros room)) (eq-eqb (login_refusal v b room) 0 t)

  pub login_accepted : eqb (login_of v b room).refusal 0 ≡ true
  login_accepted = ap (λ (x : Answer). eqb x.refusal 0) login-answer

-- with no session and room for any answer, a login that is read is taken
pub takes_it_lem : (v : state.Venue) (b : Bytes) (room : ℕ) → v.running ≡ false → Login b → 443 ≤ room → eqb (login_of v b room).refusal 0 ≡ true
unfolding login_refusal
takes_it_lem v b room e l h =
    let written : logins.record_refusal (response_record v (framed b)) room ≡ 0 =
    response_refusal_lem v (framed b) l.typed l.reads room
    ∙ ap (λ (x : Bool). cond x 13 0) (le-ltb room (209 + length (framed b)) (omega (arith, h, login-short (framed b) l.typed l.reads))) in
    let none : login_refusal v b room ≡ 0 =
    ap (λ (x : Bool). cond x out_of_phase (cond (eqb (login_read_refusal b) 0) (logins.record_refusal (response_record v (framed b)) room) (login_read_refusal b))) e
    ∙ ap (λ (n : ℕ). cond (eqb n 0) (logins.record_refusal (response_record v (framed b)) room) n) (read_login b l)
    ∙ written in
    login_accepted v b room none

-- ---- the answer

says_response : (b : Bytes) → type_of b ≡ 0x24 → get_or b 10 0 ≡ 65 → says b ≡ response true
unfolding says
says_response b e f = rw (e, f)

-- a response fills its record's body
module _ (v : state.Venue) (m : Bytes) (typed : type_of m ≡ 0x37) (reads : logins.read_refusal m ≡ 0) where
  said_long : length (said_of v (logins.record_of m) (drop 28 m)) ≤ 433
  said_long =
      omega (arith, length-append (pairs_bytes (pairs_for v.table (up_from 32 1))) (drop 28 m), pairs_size v.table (up_from 32 1), length-drop 28 m, login-short m typed reads, login_long m typed reads)

  pub response_sound : Sound (response_record v m)
  unfolding response_record
  response_sound =
      let s : List ℕ = said_of v (logins.record_of m) (drop 28 m) in
      record { body-length = length-append s (zeros (433 - length s)) ∙ omega (arith, length-zeros (433 - length s), said_long) }

module _ (v : state.Venue) (b : Bytes) (room : ℕ) (t : Taken v b room) where
  abbrev r : Record
  r = response_record v (framed b)

  abbrev m : Bytes
  m = logins.session_bytes r

  sound : Sound r
  sound = response_sound v (framed b) t.login.typed t.login.reads

  fits : Fit r.message r.unit r.number r.body room
  fits = fit r.message r.unit r.number r.body room t.written

  type_is : type_of m ≡ 0x24
  unfolding response_record
  type_is = refl

  -- its status is A
  status_is : get_or m 10 0 ≡ 65
  unfolding response_record logins.fixed_size
  status_is =
      let n : ℕ = logins.size_of r.message r.body in
      let e = body-ends r.message r.body (logins.size_of r.message r.body) fits.there fits.end in
      get_or-take (logins.size_of r.message r.body) r.body 0 0 (omega (arith, e.least))

  whole : framed m ≡ m
  whole = ap framed (sym (append-nil m)) ∙ framed_as_written r room sound t.written []

  frames : frame_refusal m ≡ 0
  frames = ap frame_refusal (sym (append-nil m)) ∙ framed-after r room sound t.written []

  pub answer-fine : Fine m
  unfolding own_refusal carries
  answer-fine =
      let k : type_of (framed m) ≡ 0x24 = ap type_of whole ∙ type_is in
      record {
        reads = own_refusal_lem 1 m [] frames (ap (carries 1) k) ∙ ap own_refusal whole
            ∙ ap (λ (x : ℕ). cond (is_session x) (logins.read_refusal m) (orders.read_refusal m)) type_is ∙ read_accepts r room sound t.written;
        whole = whole;
      }

  pub answer-says : says m ≡ response true
  answer-says = says_response m type_is status_is

  pub answer-sent : sent_of (login_of v b room).sent (login_out v b (zeros room)) ≡ m ∷ []
  answer-sent =
      let n : length m ≡ 10 + logins.size_of r.message r.body = bytes-length r room sound t.written in
      let h : length m ≤ room = omega (arith, n, fits.has_room) in
      ap (λ (x : Answer). sent_of x.sent (login_out v b (zeros room))) (login-answer v b room t.none)
      ∙ ap (λ (y : List ℕ). unless (eqb (length m) 0) (take (length m) y)) (login-out v b room t.none)
      ∙ ap₂ unless (ne_eqb (length m) 0 (λ z. omega (arith, n, z))) (sent_front m room h)
