-- How the session's calls go on, stage by stage. Assumes nothing.
use Rattle.std.specs.Prelude.{◌≡◌, Bool, true, false, cond, ◌||◌, List, ℕ, eqb, length, Result, Ok}
use Rattle.std.proofs.Math.Path.{refl, sym, ap₂}
use Rattle.std.proofs.Common.{ap, ◌∙◌, arith}
use borrow.Author.Tests.{eq-eqb, ne_eqb, eqb-true, eqb-false}
use Rattle.refusals.specs.Outcomes.{outcome_with}
use Rattle.refusals.specs.OutcomeLaws.{good}
use Rattle.numbers.specs.Numbers.{patched}
use Rattle.wire.specs.Header.{type_of}
use Rattle.wire.specs.Frame.{frame_refusal, framed}
use Rattle.orders.specs.Shapes as order_types
use Rattle.orders.specs.Orders as orders
use Rattle.session_messages.specs.declared.Record as session_records
use Rattle.session_messages.specs.Sessions as logins
use Rattle.orders.proofs.OrderLaws.{sequenced_types, unsequenced_types}
use Rattle.messages.specs.Messages.{carries, is_session, own_refusal, read_refusal}
use Rattle.book.specs.Answer.{Answer as BookAnswer}
use Rattle.book.specs.declared.Book.{Book}
use Rattle.book.specs.Books as books
use Rattle.book.specs.Books.{pick_answer, append_refusal, appended_by, append_of, append_buffer, close_buffer}
use Rattle.session.specs.declared.Phase.TheVariants.{Asked, Replaying, Live}
use Rattle.session.specs.declared.Session.{Session}
use Rattle.session.specs.declared.Told.{Told}
use Rattle.session.specs.declared.Told.TheVariants.{Nothing}
use Rattle.session.specs.Answer.{Answer}
use Rattle.session.specs.Sessions.{pick_session, answer, answered, in_phase, with_book, is_closed, is_open, passes, ended_by, broken_by, broken_buffer, responded_by, responded_buffer, status_in, received_in, receive_refusal, received_by, receive_of, received_buffer, receive_buffer, pick_told, told_of, received_with, login_refusal, login_of, login_out, heartbeat_record, heartbeat_refusal, heartbeat_of, heartbeat_out}
use Rattle.session.specs.Stages.{booked_as, heard_by, heard_buffer}

-- ---- answers

-- of a call whose refusal is k and whose state after it would be `after`
module _ (k : ℕ) (after s : Session) where
  -- a refusal: the state as it was
  pub refuses : {n : ℕ} → n ≡ k → (n ≡ 0 → ⊥) → answer n s ≡ answered k after s
  refuses e z = ap (λ (x : ℕ). answer x s) e ∙ sym (ap (λ (b : Bool). answer k (pick_session b after s)) (ne_eqb k 0 (λ y. z (e ∙ y))))

  -- none: the state after the call
  pub accepts : {now : Session} → k ≡ 0 → now ≡ after → answer 0 now ≡ answered k after s
  accepts z e = ap (answer 0) e ∙ sym (ap (λ (x : ℕ). answered x after s) z)

-- ---- the session's end

module _ (s : Session) (xs : List ℕ) where
  pub stays_closed : is_closed s.phase ≡ true → (s ≡ broken_by s (length xs)) × (xs ≡ broken_buffer s xs)
  unfolding broken_by broken_buffer
  stays_closed e = (sym (ap (λ (b : Bool). pick_session b s (ended_by s (length xs))) e), rw e)

  pub breaks : is_closed s.phase ≡ false → {a : Session} {out : List ℕ} → a ≡ ended_by s (length xs) → out ≡ close_buffer s.book xs
      → (a ≡ broken_by s (length xs)) × (out ≡ broken_buffer s xs)
  unfolding broken_by broken_buffer
  breaks e p q = (p ∙ sym (ap (λ (b : Bool). pick_session b s (ended_by s (length xs))) e), q ∙ rw e)

-- ---- a Login Response

module _ (s : Session) (status received : ℕ) (xs : List ℕ) where
  replays : Session
  replays = record { phase = Replaying; outgoing = record { 0 = received }; market = s.market; book = s.book }

  pub allowed : status ≡ 65 → (record { phase = Replaying; outgoing = record { 0 = received }; market = s.market; book = s.book } ≡ responded_by s status received (length xs)) × (xs ≡ responded_buffer s status xs)
  unfolding responded_by responded_buffer replays
  allowed e = (sym (ap (λ (b : Bool). pick_session b replays (ended_by s (length xs))) (eq-eqb status 65 e)), rw (eq-eqb status 65 e))

  pub denied : (status ≡ 65 → ⊥) → {a : Session} {out : List ℕ} → a ≡ ended_by s (length xs) → out ≡ close_buffer s.book xs
      → (a ≡ responded_by s status received (length xs)) × (out ≡ responded_buffer s status xs)
  unfolding responded_by responded_buffer replays
  denied n p q = (p ∙ sym (ap (λ (b : Bool). pick_session b replays (ended_by s (length xs))) (ne_eqb status 65 n)), q ∙ rw (ne_eqb status 65 n))

-- ---- an application message

-- what appending answers, told of the session, as the answer of a call
booked : (s : Session) (k : ℕ) (b : Book) (t : Bool) → eqb k 0 ≡ t → booked_as s (pick_answer t (books.answer 0 b) (books.answer k s.book)) ≡ answer k (pick_session t (with_book s b) s)
booked s k b true z = ap (λ (x : ℕ). answer x (with_book s b)) (sym (eqb-true k 0 z))
booked s k b false z = refl

-- the session with the book after a message that was appended
pub books_as : (s : Session) (a : BookAnswer) {b : Book} → a.refusal ≡ 0 → b ≡ a.book → Ok (with_book s b) ≡ outcome_with (booked_as s a).refusal (booked_as s a).session
books_as s a z e = ap (λ (b : Book). Ok (with_book s b)) e ∙ good a.refusal (with_book s a.book) z

-- ---- a session message

module _ (s : Session) (xs m : List ℕ) where
  pub hears_response : type_of m ≡ 0x24 → {a : Session} {out : List ℕ} → a ≡ responded_by s (status_in m) (received_in m) (length xs) → out ≡ responded_buffer s (status_in m) xs
      → (a ≡ heard_by s (length xs) m) × (out ≡ heard_buffer s xs m)
  unfolding heard_by heard_buffer
  hears_response e p q = (p ∙ rw e, q ∙ rw e)

  pub hears_complete : type_of m ≡ 0x13 → {a : Session} → a ≡ in_phase Live s → (a ≡ heard_by s (length xs) m) × (xs ≡ heard_buffer s xs m)
  unfolding heard_by heard_buffer
  hears_complete e p = (p ∙ rw e, rw e)

  pub hears_logout : type_of m ≡ 0x08 → {a : Session} {out : List ℕ} → a ≡ ended_by s (length xs) → out ≡ close_buffer s.book xs
      → (a ≡ heard_by s (length xs) m) × (out ≡ heard_buffer s xs m)
  unfolding heard_by heard_buffer
  hears_logout e p q = (p ∙ rw e, q ∙ rw e)

  pub hears_else : (type_of m ≡ 0x24 → ⊥) → (type_of m ≡ 0x13 → ⊥) → (type_of m ≡ 0x08 → ⊥) → (s ≡ heard_by s (length xs) m) × (xs ≡ heard_buffer s xs m)
  unfolding heard_by heard_buffer
  hears_else a b d =
      let x = ne_eqb (type_of m) 0x24 a in
      let y = ne_eqb (type_of m) 0x13 b in
      let z = ne_eqb (type_of m) 0x08 d in
      (rw (x, y, z), rw (x, y, z))

-- ---- any bytes from the venue

-- a sequenced message's type is none of the session messages'
pub venue_else : (t : ℕ) → order_types.sequenced t ≡ true → (eqb t 0x24 ≡ false) × (eqb t 0x13 ≡ false) × (eqb t 0x08 ≡ false)
venue_else = sequenced_types (λ (t : ℕ). (eqb t 0x24 ≡ false) × (eqb t 0x13 ≡ false) × (eqb t 0x08 ≡ false)) (refl, refl, refl) (refl, refl, refl)

-- an unsequenced one's is none of these either, nor a sequenced one's
pub unsequenced_else : (t : ℕ) → order_types.unsequenced t ≡ true → (eqb t 0x24 ≡ false) × (eqb t 0x13 ≡ false) × (eqb t 0x08 ≡ false) × (order_types.sequenced t ≡ false)
unsequenced_else =
    unsequenced_types (λ (t : ℕ). (eqb t 0x24 ≡ false) × (eqb t 0x13 ≡ false) × (eqb t 0x08 ≡ false) × (order_types.sequenced t ≡ false)) (refl, refl, refl, refl) (refl, refl, refl, refl) (refl, refl, refl, refl)

pub or-true : (a : Bool) → (a || true) ≡ true
or-true true = refl
or-true false = refl

pub no_session : (t : ℕ) → order_types.sequenced t ≡ true → is_session t ≡ false
no_session = sequenced_types (λ (t : ℕ). is_session t ≡ false) refl refl

-- what the venue's reader takes is framed, of a type of the venue's, and good by itself
pub framed_and_carried : (s : List ℕ) → read_refusal 1 s ≡ 0 → (frame_refusal s ≡ 0) × (carries 1 (type_of (framed s)) ≡ true) × (own_refusal (framed s) ≡ 0)
unfolding read_refusal
framed_and_carried s z = by (eqb (frame_refusal s) 0) (carries 1 (type_of (framed s))) refl refl z
  where
    by : (p q : Bool) → eqb (frame_refusal s) 0 ≡ p → carries 1 (type_of (framed s)) ≡ q → cond p (cond q (own_refusal (framed s)) 4) (frame_refusal s) ≡ 0
        → (frame_refusal s ≡ 0) × (carries 1 (type_of (framed s)) ≡ true) × (own_refusal (framed s) ≡ 0)
    by true true e c y = (eqb-true (frame_refusal s) 0 e, c, y)
    by true false e c y = absurd (omega (arith, y))
    by false q e c y = absurd (eqb-false (frame_refusal s) 0 e y)

-- an application message's own refusals are an order's
pub own_order : (m : List ℕ) → order_types.sequenced (type_of m) ≡ true → own_refusal m ≡ 0 → orders.read_refusal m ≡ 0
unfolding own_refusal
own_order m v z = rw (no_session (type_of m) v) at z

-- a sequenced message that the venue's reader takes is one that the book takes
pub read_is_good : (s : List ℕ) → read_refusal 1 s ≡ 0 → order_types.sequenced (type_of (framed s)) ≡ true → books.message_refusal s ≡ 0
unfolding books.message_refusal
read_is_good s z v =
    let f = framed_and_carried s z in
    rw (eq-eqb (frame_refusal s) 0 f.0, v) (own_order (framed s) v f.2)

module _ (s : Session) (m : List ℕ) (v : order_types.sequenced (type_of m) ≡ true) where
  pub received_books : (room : ℕ) → received_by s room m ≡ with_book s (appended_by s.book m)
  unfolding received_by
  received_books room = let n = venue_else (type_of m) v in rw (n.0, n.1, n.2, v)

  pub received_appends : (xs : List ℕ) → received_buffer s xs m ≡ patched xs s.book.length m
  unfolding received_buffer
  received_appends xs = let n = venue_else (type_of m) v in rw (n.0, n.1, n.2, v)

module _ (s : Session) (m : List ℕ) (v : order_types.sequenced (type_of m) ≡ false) where
  pub received_heard : (room : ℕ) → heard_by s room m ≡ received_by s room m
  unfolding heard_by received_by
  received_heard room = rw v

  pub received_kept : (xs : List ℕ) → heard_buffer s xs m ≡ received_buffer s xs m
  unfolding heard_buffer received_buffer
  received_kept xs = rw v

-- what receiving answers
abbrev pub Receives : Session → List ℕ → List ℕ → Answer → List ℕ → Type 0
Receives s xs bytes a out = (a ≡ receive_of s (length xs) bytes) × (out ≡ receive_buffer s xs bytes)

module _ (s : Session) (xs bytes : List ℕ) where
  unreceived : {n : ℕ} → n ≡ receive_refusal s (length xs) bytes → (n ≡ 0 → ⊥) → Receives s xs bytes (answer n s) xs
  unfolding receive_of receive_buffer
  unreceived e k = (refuses (receive_refusal s (length xs) bytes) (received_by s (length xs) (framed bytes)) s e k, rw (ne_eqb (receive_refusal s (length xs) bytes) 0 (λ z. k (e ∙ z))))

  pub deaf : is_closed s.phase ≡ true → Receives s xs bytes (answer 16 s) xs
  unfolding receive_refusal
  deaf e =
      let q : 16 ≡ receive_refusal s (length xs) bytes = rw e in
      unreceived q (λ z. omega (arith, z))

  module _ (c : is_closed s.phase ≡ false) where
    pub unreadable : {n : ℕ} → n ≡ read_refusal 1 bytes → (n ≡ 0 → ⊥) → Receives s xs bytes (answer n s) xs
    unfolding receive_refusal
    unreadable {n} e k =
        let q : n ≡ receive_refusal s (length xs) bytes = rw (c, ne_eqb (read_refusal 1 bytes) 0 (λ z. k (e ∙ z))) e in
        unreceived q k

    module _ (z : read_refusal 1 bytes ≡ 0) where
      pub untimely : passes s.phase (type_of (framed bytes)) ≡ false → Receives s xs bytes (answer 16 s) xs
      unfolding receive_refusal
      untimely e =
          let q : 16 ≡ receive_refusal s (length xs) bytes = rw (c, eq-eqb (read_refusal 1 bytes) 0 z, e) in
          unreceived q (λ y. omega (arith, y))

      module _ (e : passes s.phase (type_of (framed bytes)) ≡ true) where
        pub application_refusal : order_types.sequenced (type_of (framed bytes)) ≡ true → receive_refusal s (length xs) bytes ≡ append_refusal s.book (length xs) bytes
        unfolding receive_refusal
        application_refusal v = rw (c, eq-eqb (read_refusal 1 bytes) 0 z, e, v)

        pub session_refusal : order_types.sequenced (type_of (framed bytes)) ≡ false → receive_refusal s (length xs) bytes ≡ 0
        unfolding receive_refusal
        session_refusal v = rw (c, eq-eqb (read_refusal 1 bytes) 0 z, e, v)

        pub by_message : order_types.sequenced (type_of (framed bytes)) ≡ true → {a : Answer} {out : List ℕ} → (a ≡ booked_as s (append_of s.book (length xs) bytes)) × (out ≡ append_buffer s.book xs bytes)
            → Receives s xs bytes a out
        unfolding receive_of receive_buffer append_of append_buffer
        by_message v p =
            let k = application_refusal v in
            let n = append_refusal s.book (length xs) bytes in (
              p.0
                  ∙ booked s n (appended_by s.book (framed bytes)) (eqb n 0) refl
                  ∙ ap₂ (λ (x : ℕ) (w : Session). answered x w s) (sym k) (sym (received_books s (framed bytes) v (length xs))),
              p.1
                  ∙ rw (k, received_appends s (framed bytes) v xs),
            )

        pub by_session : order_types.sequenced (type_of (framed bytes)) ≡ false → {a : Session} {out : List ℕ} → (a ≡ heard_by s (length xs) (framed bytes)) × (out ≡ heard_buffer s xs (framed bytes))
            → Receives s xs bytes (answer 0 a) out
        unfolding receive_of receive_buffer
        by_session v p =
            let k = session_refusal v in
            (accepts (receive_refusal s (length xs) bytes) (received_by s (length xs) (framed bytes)) s k (p.0 ∙ received_heard s (framed bytes) v (length xs)), p.1 ∙ received_kept s (framed bytes) v xs ∙ rw k)

-- the refusal of what receiving answers
pub refusal_in : {P : Type 0} {n : ℕ} {s : Session} {a : Answer} → (answer n s ≡ a) × P → (n ≡ a.refusal) × P
refusal_in p = (ap (λ (a : Answer). a.refusal) p.0, p.1)

-- the state after a message that was taken, and what became of it
pub received_as : (a : Answer) (m : List ℕ) {s : Session} {t : Told} → a.refusal ≡ 0 → s ≡ a.session → t ≡ told_of (type_of m)
    → ◌≡◌ {A = Result (Session × Told) ℕ} (Ok (s, t)) (outcome_with (received_with a m).refusal ((received_with a m).session, (received_with a m).told))
received_as a m z e f =
    ap₂ (λ (x : Session) (y : Told). Ok (x, y)) e (f ∙ sym (ap (λ (b : Bool). pick_told b (told_of (type_of m)) Nothing) (eq-eqb a.refusal 0 z)))
    ∙ good a.refusal ((received_with a m).session, (received_with a m).told) z

-- ---- a login

module _ (s : Session) (r : session_records.Record) (out : List ℕ) where
  module _ (c : is_closed s.phase ≡ true) {n : ℕ} {to : List ℕ} (w : (n ≡ logins.record_refusal r (length out)) × (to ≡ logins.record_buffer r out)) where
    login_refusal_is : n ≡ login_refusal s r (length out)
    unfolding login_refusal
    login_refusal_is = w.0 ∙ rw c

    login_out_is : to ≡ login_out s r out
    unfolding login_out
    login_out_is = w.1 ∙ rw c

    pub login-refused : (n ≡ 0 → ⊥) → (answer n s ≡ login_of s r (length out)) × (to ≡ login_out s r out)
    unfolding login_of
    login-refused k = (refuses (login_refusal s r (length out)) (in_phase Asked s) s login_refusal_is k, login_out_is)

    pub logs_in_lem : n ≡ 0 → {a : Session} → a ≡ in_phase Asked s → (answer 0 a ≡ login_of s r (length out)) × (to ≡ login_out s r out)
    unfolding login_of
    logs_in_lem z p = (accepts (login_refusal s r (length out)) (in_phase Asked s) s (sym login_refusal_is ∙ z) p, login_out_is)

  pub no_login : is_closed s.phase ≡ false → (answer 16 s ≡ login_of s r (length out)) × (out ≡ login_out s r out)
  unfolding login_of login_refusal login_out
  no_login c = (refuses (login_refusal s r (length out)) (in_phase Asked s) s (rw c) (λ z. omega (arith, z)), rw c)

-- ---- a heartbeat

module _ (s : Session) (out : List ℕ) where
  pub beats : is_open s.phase ≡ true → {n : ℕ} {to : List ℕ} → (n ≡ logins.record_refusal heartbeat_record (length out)) × (to ≡ logins.record_buffer heartbeat_record out)
      → (answer n s ≡ heartbeat_of s (length out)) × (to ≡ heartbeat_out s out)
  unfolding heartbeat_of heartbeat_refusal heartbeat_out
  beats e w = (ap (λ (x : ℕ). answer x s) (w.0 ∙ rw e), w.1 ∙ rw e)

  pub no_beat : is_open s.phase ≡ false → (answer 16 s ≡ heartbeat_of s (length out)) × (out ≡ heartbeat_out s out)
  unfolding heartbeat_of heartbeat_refusal heartbeat_out
  no_beat e = (ap (λ (x : ℕ). answer x s) (rw e), rw e)
