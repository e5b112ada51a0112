-- What receiving answers, one law for each phase and kind of message, of a readable message m and nothing after it.
--     closed                      nothing is taken
--     asked-accepted              a Login Response of status A leads to replaying, with its number
--     asked-denied, asked-logout  any other ends the session, and so does a Logout
--     asked-else                  all else is 16
--     open-application            an application message goes to the book, replaying or live
--     open-heartbeat, open-unsequenced     a heartbeat changes nothing, and nor does an unsequenced message
--     open-logout                 a Logout ends the session
--     replaying-complete          Replay Complete leads to live
--     replaying-response, live-response, live-complete    are 16
-- And of the two events that have no message: a login that the writer takes is written and leads to asked (login-asks), and a break ends any
-- session that runs (break-ends).
-- Assumes nothing.
use Rattle.std.specs.Prelude.{◌≡◌, Bool, true, false, cond, List, ℕ, length}
use Rattle.std.proofs.Math.Path.{refl}
use Rattle.std.proofs.Common.{sym, ap, ap₂, ◌∙◌, true≢false, arith}
use borrow.Author.Tests.{eq-eqb, ne_eqb, eqb-false}
use Rattle.numbers.specs.Numbers.{patched}
use Rattle.wire.specs.Header.{type_of}
use Rattle.wire.specs.Frame.{framed}
use Rattle.orders.specs.Shapes.{sequenced, unsequenced}
use Rattle.session_messages.specs.declared.Record.{Record}
use Rattle.session_messages.specs.Sessions as logins
use Rattle.messages.specs.Messages.{read_refusal}
use Rattle.book.specs.Books.{append_of, append_buffer, close_buffer}
use Rattle.session.specs.declared.Phase.{Phase}
use Rattle.session.specs.declared.Phase.TheVariants.{Closed, Asked, Replaying, Live}
use Rattle.session.specs.declared.Session.{Session}
use Rattle.session.specs.Answer.{Answer}
use Rattle.session.specs.Sessions.{answer, in_phase, with_book, is_closed, is_open, passes, ended_by, broken_by, broken_buffer, responded_by, responded_buffer, status_in, received_in, receive_of, receive_buffer, login_of, login_out}
use Rattle.session.specs.Stages.{heard_by, heard_buffer}
use Rattle.session.proofs.SessionLaws.{breaks, allowed, denied, hears_response, hears_complete, hears_logout, hears_else, Receives, deaf, untimely, by_message, by_session, unsequenced_else, or-true, logs_in_lem}

-- receiving m answers a and leaves `out` of the book's buffer
abbrev pub Step : Session → List ℕ → List ℕ → Answer → List ℕ → Type 0
Step s xs m a out = (receive_of s (length xs) m ≡ a) × (receive_buffer s xs m ≡ out)

told : (s : Session) (xs m : List ℕ) {a : Answer} {out : List ℕ} → Receives s xs m a out → Step s xs m a out
told s xs m r = (sym r.0, sym r.1)

-- of any bytes
pub closed : (s : Session) (xs bytes : List ℕ) → s.phase ≡ Closed → Step s xs bytes (answer 16 s) xs
closed s xs bytes h = told s xs bytes (deaf s xs bytes (ap is_closed h))

module _ (s : Session) (xs m : List ℕ) (z : read_refusal 1 m ≡ 0) (f : framed m ≡ m) where
  -- the test of the phase
  passing : (p : Phase) → s.phase ≡ p → (b : Bool) → passes p (type_of m) ≡ b → passes s.phase (type_of (framed m)) ≡ b
  passing p h b e = ap₂ passes h (ap type_of f) ∙ e

  late : (p : Phase) → s.phase ≡ p → is_closed p ≡ false → passes p (type_of m) ≡ false → Step s xs m (answer 16 s) xs
  late p h c e = told s xs m (untimely s xs m (ap is_closed h ∙ c) z (passing p h false e))

  heard : (p : Phase) → s.phase ≡ p → is_closed p ≡ false → passes p (type_of m) ≡ true → sequenced (type_of m) ≡ false → {a : Session} {out : List ℕ} → (a ≡ heard_by s (length xs) m) × (out ≡ heard_buffer s xs m)
      → Step s xs m (answer 0 a) out
  heard p h c e v w =
      told s xs m (by_session s xs m (ap is_closed h ∙ c) z (passing p h true e) (ap (λ (x : List ℕ). sequenced (type_of x)) f ∙ v)
      (w.0 ∙ ap (heard_by s (length xs)) (sym f), w.1 ∙ ap (heard_buffer s xs) (sym f)))

  -- ---- asked

  module _ (h : s.phase ≡ Asked) where
    module _ (t : type_of m ≡ 0x24) where
      response : {a : Session} {out : List ℕ} → (a ≡ responded_by s (status_in m) (received_in m) (length xs)) × (out ≡ responded_buffer s (status_in m) xs) → Step s xs m (answer 0 a) out
      unfolding passes
      response w = heard Asked h refl (rw t) (rw t) (hears_response s xs m t w.0 w.1)

      pub asked_accepted : status_in m ≡ 65 → Step s xs m (answer 0 (record { phase = Replaying; outgoing = record { 0 = received_in m }; market = s.market; book = s.book })) xs
      asked_accepted e = response (allowed s (status_in m) (received_in m) xs e)

      pub asked_denied : (status_in m ≡ 65 → ⊥) → Step s xs m (answer 0 (ended_by s (length xs))) (close_buffer s.book xs)
      asked_denied n = response (denied s (status_in m) (received_in m) xs n refl refl)

    pub asked_logout : type_of m ≡ 0x08 → Step s xs m (answer 0 (ended_by s (length xs))) (close_buffer s.book xs)
    unfolding passes
    asked_logout t = heard Asked h refl (rw t) (rw t) (hears_logout s xs m t refl refl)

    pub asked_else : (type_of m ≡ 0x24 → ⊥) → (type_of m ≡ 0x08 → ⊥) → Step s xs m (answer 16 s) xs
    unfolding passes
    asked_else a b = late Asked h refl (rw (ne_eqb (type_of m) 0x24 a, ne_eqb (type_of m) 0x08 b))

  -- ---- replaying or live

  module _ (p : Phase) (h : s.phase ≡ p) (o : is_open p ≡ true) where
    not_closed : (q : Phase) → is_open q ≡ true → is_closed q ≡ false
    not_closed Closed e = sym e
    not_closed Asked e = refl
    not_closed Replaying e = refl
    not_closed Live e = refl

    venue_passes : (q : Phase) → is_open q ≡ true → sequenced (type_of m) ≡ true → passes q (type_of m) ≡ true
    unfolding passes
    venue_passes Closed e v = e
    venue_passes Asked e v = absurd (true≢false (sym e))
    venue_passes Replaying e v = rw v
    venue_passes Live e v = rw v

    heartbeat-passes : (q : Phase) → is_open q ≡ true → type_of m ≡ 0x09 → passes q (type_of m) ≡ true
    unfolding passes
    heartbeat-passes Closed e t = e
    heartbeat-passes Asked e t = absurd (true≢false (sym e))
    heartbeat-passes Replaying e t = rw t
    heartbeat-passes Live e t = rw t

    unsequenced-passes : (q : Phase) → is_open q ≡ true → unsequenced (type_of m) ≡ true → passes q (type_of m) ≡ true
    unfolding passes
    unsequenced-passes Closed e u = e
    unsequenced-passes Asked e u = absurd (true≢false (sym e))
    unsequenced-passes Replaying e u = rw (u, or-true (sequenced (type_of m)))
    unsequenced-passes Live e u = rw (u, or-true (sequenced (type_of m)))

    logout_passes : (q : Phase) → is_open q ≡ true → type_of m ≡ 0x08 → passes q (type_of m) ≡ true
    unfolding passes
    logout_passes Closed e t = e
    logout_passes Asked e t = rw t
    logout_passes Replaying e t = rw t
    logout_passes Live e t = rw t

    pub open_application : sequenced (type_of m) ≡ true
        → Step s xs m (answer (append_of s.book (length xs) m).refusal (with_book s (append_of s.book (length xs) m).book)) (append_buffer s.book xs m)
    open_application v =
        told s xs m (by_message s xs m (ap is_closed h ∙ not_closed p o) z (passing p h true (venue_passes p o v)) (ap (λ (x : List ℕ). sequenced (type_of x)) f ∙ v)
        (refl, refl))

    pub open_heartbeat : type_of m ≡ 0x09 → Step s xs m (answer 0 s) xs
    open_heartbeat t =
        heard p h (not_closed p o) (heartbeat-passes p o t) (rw t) (hears_else s xs m (λ e. omega (arith, e, t)) (λ e. omega (arith, e, t)) (λ e. omega (arith, e, t)))

    pub open_unsequenced : unsequenced (type_of m) ≡ true → Step s xs m (answer 0 s) xs
    open_unsequenced u =
        let n = unsequenced_else (type_of m) u in
        heard p h (not_closed p o) (unsequenced-passes p o u) n.3 (hears_else s xs m (eqb-false _ _ n.0) (eqb-false _ _ n.1) (eqb-false _ _ n.2))

    pub open_logout : type_of m ≡ 0x08 → Step s xs m (answer 0 (ended_by s (length xs))) (close_buffer s.book xs)
    open_logout t = heard p h (not_closed p o) (logout_passes p o t) (rw t) (hears_logout s xs m t refl refl)

  -- ---- replaying

  pub replaying_complete : s.phase ≡ Replaying → type_of m ≡ 0x13 → Step s xs m (answer 0 (in_phase Live s)) xs
  unfolding passes
  replaying_complete h t = heard Replaying h refl (rw t) (rw t) (hears_complete s xs m t refl)

  pub replaying_response : s.phase ≡ Replaying → type_of m ≡ 0x24 → Step s xs m (answer 16 s) xs
  unfolding passes
  replaying_response h t = late Replaying h refl (rw t)

  -- ---- live

  pub live_response : s.phase ≡ Live → type_of m ≡ 0x24 → Step s xs m (answer 16 s) xs
  unfolding passes
  live_response h t = late Live h refl (rw t)

  pub live_complete : s.phase ≡ Live → type_of m ≡ 0x13 → Step s xs m (answer 16 s) xs
  unfolding passes
  live_complete h t = late Live h refl (rw t)

-- ---- a login and a break

pub login_asks : (s : Session) (r : Record) (out : List ℕ) → s.phase ≡ Closed → logins.record_refusal r (length out) ≡ 0
    → (login_of s r (length out) ≡ answer 0 (in_phase Asked s)) × (login_out s r out ≡ patched out 0 (logins.session_bytes r))
unfolding logins.write_buffer
login_asks s r out h z =
    let w = logs_in_lem s r out (ap is_closed h) (refl, refl) z refl in
    (sym w.0, sym w.1 ∙ ap (λ (b : Bool). cond b (patched out 0 (logins.session_bytes r)) out) (eq-eqb (logins.record_refusal r (length out)) 0 z))

pub break_ends : (s : Session) (xs : List ℕ) → is_closed s.phase ≡ false → (broken_by s (length xs) ≡ ended_by s (length xs)) × (broken_buffer s xs ≡ close_buffer s.book xs)
break_ends s xs c = let w = breaks s xs c refl refl in (sym w.0, sym w.1)
