-- The three calls that take bytes from the venue differ in their reading alone, and go on alike after it. Assumes nothing.
use Rattle.std.specs.Prelude.{◌≡◌, refl, Bool, true, false, List, ℕ, eqb, length}
use Rattle.std.proofs.Common.{sym, ◌∙◌, arith}
use Rattle.std.proofs.Math.Path.{ap}
use Rattle.std.proofs.Math.Bool.{cond}
use borrow.Author.Tests.{eq-eqb, ne_eqb, eqb-true, eqb-false}
use Rattle.numbers.specs.Numbers.{patched}
use Rattle.wire.specs.Header.{type_of}
use Rattle.wire.specs.Frame.{frame_refusal, framed}
use Rattle.orders.specs.Shapes as order_types
use Rattle.orders.specs.Orders as orders
use Rattle.orders.proofs.OrderLaws.{sequenced_types}
use Rattle.session_messages.specs.Sessions as logins
use Rattle.messages.specs.Messages.{carries, is_session, own_refusal, read_refusal}
use Rattle.book.specs.Books as books
use Rattle.book.proofs.Sequenced.{booked_is_sequenced}
use Rattle.book.specs.Books.{append_refusal, appended_by}
use Rattle.session.specs.declared.Phase.{Phase}
use Rattle.session.specs.declared.Phase.TheVariants.{Closed, Asked, Replaying, Live}
use Rattle.session.specs.declared.Session.{Session}
use Rattle.session.specs.Answer.{Answer}
use Rattle.session.specs.Sessions.{pick_session, answer, answered, with_book, is_closed, is_asked, is_open, passes, responded_by, responded_buffer, status_in, received_in, response_reading, response_refusal, response_of, response_buffer, message_refusal, message_of, message_buffer, receive_refusal, received_by, receive_of, received_buffer, receive_buffer}
use Rattle.session.specs.Stages.{after_refusal, after_reading, after_buffer}
use Rattle.session.proofs.SessionLaws.{refuses, no_session, received_books, received_appends, Receives}

-- ---- after the reading

-- what is answered to bytes whose reading refusal is n
abbrev pub Answers : Session → ℕ → List ℕ → List ℕ → Answer → List ℕ → Type 0
Answers s n xs bytes a out = (a ≡ after_reading s n (length xs) bytes) × (out ≡ after_buffer s n xs bytes)

module _ (s : Session) (n : ℕ) (xs bytes : List ℕ) where
  unanswered : {k : ℕ} → k ≡ after_refusal s n (length xs) bytes → (k ≡ 0 → ⊥) → Answers s n xs bytes (answer k s) xs
  unfolding after_reading after_buffer
  unanswered e k = (refuses (after_refusal s n (length xs) bytes) (received_by s (length xs) (framed bytes)) s e k, rw (ne_eqb (after_refusal s n (length xs) bytes) 0 (λ z. k (e ∙ z))))

  pub shut : is_closed s.phase ≡ true → Answers s n xs bytes (answer 16 s) xs
  unfolding after_refusal
  shut e =
      let q : 16 ≡ after_refusal s n (length xs) bytes = rw e in
      unanswered q (λ z. omega (arith, z))

  module _ (c : is_closed s.phase ≡ false) where
    pub unread : (n ≡ 0 → ⊥) → Answers s n xs bytes (answer n s) xs
    unfolding after_refusal
    unread k =
        let q : n ≡ after_refusal s n (length xs) bytes = rw (c, ne_eqb n 0 k) in
        unanswered q k

    pub goes_on : n ≡ 0 → {a : Answer} {out : List ℕ} → Receives s xs bytes a out → Answers s n xs bytes a out
    unfolding after_refusal after_reading after_buffer receive_of receive_buffer
    goes_on z p =
        let q : receive_refusal s (length xs) bytes ≡ after_refusal s n (length xs) bytes = rw (c, eq-eqb n 0 z) in
        (p.0 ∙ ap (λ (k : ℕ). answered k (received_by s (length xs) (framed bytes)) s) q, p.1 ∙ ap (λ (k : ℕ). cond (eqb k 0) (received_buffer s xs (framed bytes)) xs) q)

-- a call whose reading refusal is n, where the answer and the buffer by that refusal are known
pub told_by : (s : Session) (xs bytes : List ℕ) {n k : ℕ} → n ≡ k → {a x : Answer} {out y : List ℕ} → Answers s n xs bytes a out
    → (after_reading s k (length xs) bytes ≡ x) × (after_buffer s k xs bytes ≡ y) → (a ≡ x) × (out ≡ y)
told_by s xs bytes e p q = (p.0 ∙ ap (λ (n : ℕ). after_reading s n (length xs) bytes) e ∙ q.0, p.1 ∙ ap (λ (n : ℕ). after_buffer s n xs bytes) e ∙ q.1)

-- two calls with one refusal, whose states and buffers after it agree where there is none
module _ {j k : ℕ} (e : j ≡ k) where
  alike : (a b s : Session) → (k ≡ 0 → a ≡ b) → answered j a s ≡ answered k b s
  alike a b s f = ap (λ (n : ℕ). answered n a s) e ∙ by (eqb k 0) refl
    where
      by : (t : Bool) → eqb k 0 ≡ t → answer k (pick_session t a s) ≡ answer k (pick_session t b s)
      by true z = ap (answer k) (f (eqb-true k 0 z))
      by false z = refl

  alike_buffers : (x y xs : List ℕ) → (k ≡ 0 → x ≡ y) → cond (eqb j 0) x xs ≡ cond (eqb k 0) y xs
  alike_buffers x y xs f = ap (λ (n : ℕ). cond (eqb n 0) x xs) e ∙ by (eqb k 0) refl
    where
      by : (t : Bool) → eqb k 0 ≡ t → cond t x xs ≡ cond t y xs
      by true z = f (eqb-true k 0 z)
      by false z = refl

-- a call's order: 16 if closed, the reading refusal n, then what stands behind it
abbrev behind : Bool → ℕ → ℕ → ℕ
behind closed n x = cond closed 16 (cond (eqb n 0) x n)

behind_alike : (closed : Bool) (n x y : ℕ) → (closed ≡ false → n ≡ 0 → x ≡ y) → behind closed n x ≡ behind closed n y
behind_alike true n x y f = refl
behind_alike false n x y f = by (eqb n 0) refl
  where
    by : (t : Bool) → eqb n 0 ≡ t → cond t x n ≡ cond t y n
    by true z = f refl (eqb-true n 0 z)
    by false z = refl

-- where none of these is a refusal, nothing was refused in reading
behind-none : (closed : Bool) (n x : ℕ) → behind closed n x ≡ 0 → n ≡ 0
behind-none true n x z = absurd (omega (arith, z))
behind-none false n x z = by (eqb n 0) refl z
  where
    by : (t : Bool) → eqb n 0 ≡ t → cond t x n ≡ 0 → n ≡ 0
    by true e y = eqb-true n 0 e
    by false e y = y

-- ---- any bytes

module _ (s : Session) (xs bytes : List ℕ) where
  receive_refusal_is : after_refusal s (read_refusal 1 bytes) (length xs) bytes ≡ receive_refusal s (length xs) bytes
  unfolding after_refusal receive_refusal
  receive_refusal_is =
      let v = order_types.sequenced (type_of (framed bytes)) in
      let x = cond (passes s.phase (type_of (framed bytes))) (cond v (append_refusal s.book (length xs) bytes) 0) 16 in
      behind_alike (is_closed s.phase) (read_refusal 1 bytes) (behind (is_closed s.phase) (read_refusal 1 bytes) x) x (λ c z. rw (c, eq-eqb (read_refusal 1 bytes) 0 z))

  -- any bytes, by the venue's reading
  pub after_is_receive : (after_reading s (read_refusal 1 bytes) (length xs) bytes ≡ receive_of s (length xs) bytes) × (after_buffer s (read_refusal 1 bytes) xs bytes ≡ receive_buffer s xs bytes)
  unfolding after_reading after_buffer receive_of receive_buffer
  after_is_receive =
      let e = receive_refusal_is in
      (ap (λ (n : ℕ). answered n (received_by s (length xs) (framed bytes)) s) e, ap (λ (n : ℕ). cond (eqb n 0) (received_buffer s xs (framed bytes)) xs) e)

-- ---- an application message

-- it is one of the venue's, with an order's own refusals, and passes while replaying or live
carried : (t : ℕ) → order_types.sequenced t ≡ true → carries 1 t ≡ true
unfolding carries
carried = sequenced_types (λ (t : ℕ). carries 1 t ≡ true) refl refl

own_is_order : (m : List ℕ) → order_types.sequenced (type_of m) ≡ true → own_refusal m ≡ orders.read_refusal m
unfolding own_refusal
own_is_order m v = rw (no_session (type_of m) v)

message_passes : (p : Phase) (t : ℕ) → order_types.sequenced t ≡ true → passes p t ≡ is_open p
unfolding passes
message_passes Closed t v = refl
message_passes Asked t v = sequenced_types (λ (t : ℕ). passes Asked t ≡ false) refl refl t v
message_passes Replaying t v = rw v
message_passes Live t v = rw v

-- the book reads it as the venue's reader does, and bytes that do not frame too
pub reads_as_venue : (bytes : List ℕ) → (frame_refusal bytes ≡ 0 → order_types.sequenced (type_of (framed bytes)) ≡ true) → books.message_refusal bytes ≡ read_refusal 1 bytes
unfolding books.message_refusal read_refusal
reads_as_venue bytes v = by (eqb (frame_refusal bytes) 0) refl
  where
    by : (b : Bool) → eqb (frame_refusal bytes) 0 ≡ b
        → cond b (cond (order_types.sequenced (type_of (framed bytes))) (orders.read_refusal (framed bytes)) 4) (frame_refusal bytes)
        ≡ cond b (cond (carries 1 (type_of (framed bytes))) (own_refusal (framed bytes)) 4) (frame_refusal bytes)
    by true e =
        let w = v (eqb-true (frame_refusal bytes) 0 e) in
        rw (w, carried (type_of (framed bytes)) w) (sym (own_is_order (framed bytes) w))
    by false e = refl

pub good_is_read : (bytes : List ℕ) → books.message_refusal bytes ≡ 0 → read_refusal 1 bytes ≡ 0
good_is_read bytes z = sym (reads_as_venue bytes (λ f. booked_is_sequenced bytes z)) ∙ z

module _ (s : Session) (xs bytes : List ℕ) where
  message_received : is_closed s.phase ≡ false → books.message_refusal bytes ≡ 0 → receive_refusal s (length xs) bytes ≡ cond (is_open s.phase) (append_refusal s.book (length xs) bytes) 16
  unfolding receive_refusal
  message_received c z =
      let v = booked_is_sequenced bytes z in
      rw (c, eq-eqb (read_refusal 1 bytes) 0 (good_is_read bytes z), message_passes s.phase (type_of (framed bytes)) v, v)

  message_refusal_is : after_refusal s (books.message_refusal bytes) (length xs) bytes ≡ message_refusal s (length xs) bytes
  unfolding after_refusal message_refusal
  message_refusal_is =
      behind_alike (is_closed s.phase) (books.message_refusal bytes) (receive_refusal s (length xs) bytes) (cond (is_open s.phase) (append_refusal s.book (length xs) bytes) 16) message_received

  booked_message : message_refusal s (length xs) bytes ≡ 0 → order_types.sequenced (type_of (framed bytes)) ≡ true
  unfolding message_refusal
  booked_message z = booked_is_sequenced bytes (behind-none (is_closed s.phase) (books.message_refusal bytes) (cond (is_open s.phase) (append_refusal s.book (length xs) bytes) 16) z)

  -- an application message, by the book's reading
  pub after_is_message : (after_reading s (books.message_refusal bytes) (length xs) bytes ≡ message_of s (length xs) bytes) × (after_buffer s (books.message_refusal bytes) xs bytes ≡ message_buffer s xs bytes)
  unfolding after_reading after_buffer message_of message_buffer
  after_is_message =
      let e = message_refusal_is in
      (alike e (received_by s (length xs) (framed bytes)) (with_book s (appended_by s.book (framed bytes))) s (λ z. received_books s (framed bytes) (booked_message z) (length xs)), alike_buffers e (received_buffer s xs (framed bytes)) (patched xs s.book.length (framed bytes)) xs (λ z. received_appends s (framed bytes) (booked_message z) xs))

-- ---- a Login Response

-- it is one of the venue's, with a session message's own refusals, and passes while asked
response_carried : (t : ℕ) → t ≡ 0x24 → carries 1 t ≡ true
unfolding carries
response_carried t e = rw e

response_own : (t : ℕ) → t ≡ 0x24 → (is_session t ≡ true) × (order_types.sequenced t ≡ false)
response_own t e = rw e (refl, refl)

own_is_session : (m : List ℕ) → type_of m ≡ 0x24 → own_refusal m ≡ logins.read_refusal m
unfolding own_refusal
own_is_session m e = rw (response_own (type_of m) e).0

response_passes : (p : Phase) (t : ℕ) → t ≡ 0x24 → passes p t ≡ is_asked p
unfolding passes
response_passes Closed t e = refl
response_passes Asked t e = rw e
response_passes Replaying t e = rw e
response_passes Live t e = rw e

-- it is read as the venue's reader does, and bytes that do not frame too
pub response_as_venue : (bytes : List ℕ) → (frame_refusal bytes ≡ 0 → type_of (framed bytes) ≡ 0x24) → response_reading bytes ≡ read_refusal 1 bytes
unfolding response_reading read_refusal
response_as_venue bytes v = by (eqb (frame_refusal bytes) 0) refl
  where
    by : (b : Bool) → eqb (frame_refusal bytes) 0 ≡ b
        → cond b (cond (eqb (type_of (framed bytes)) 0x24) (logins.read_refusal (framed bytes)) 4) (frame_refusal bytes)
        ≡ cond b (cond (carries 1 (type_of (framed bytes))) (own_refusal (framed bytes)) 4) (frame_refusal bytes)
    by true e =
        let w = v (eqb-true (frame_refusal bytes) 0 e) in
        rw (eq-eqb (type_of (framed bytes)) 0x24 w, response_carried (type_of (framed bytes)) w) (sym (own_is_session (framed bytes) w))
    by false e = refl

-- its reading, stage by stage
module _ (s : List ℕ) where
  pub response_unframed : {n : ℕ} → n ≡ frame_refusal s → (n ≡ 0 → ⊥) → n ≡ response_reading s
  unfolding response_reading
  response_unframed e k = rw (ne_eqb (frame_refusal s) 0 (λ z. k (e ∙ z))) e

  module _ (f : frame_refusal s ≡ 0) where
    pub response_foreign : (type_of (framed s) ≡ 0x24 → ⊥) → 4 ≡ response_reading s
    unfolding response_reading
    response_foreign n = rw (eq-eqb (frame_refusal s) 0 f, ne_eqb (type_of (framed s)) 0x24 n)

    pub response_judged : type_of (framed s) ≡ 0x24 → {n : ℕ} → n ≡ logins.read_refusal (framed s) → n ≡ response_reading s
    unfolding response_reading
    response_judged e p = rw (eq-eqb (frame_refusal s) 0 f, eq-eqb (type_of (framed s)) 0x24 e) p

-- what its reading takes is one
pub good_is_response : (bytes : List ℕ) → response_reading bytes ≡ 0 → type_of (framed bytes) ≡ 0x24
unfolding response_reading
good_is_response bytes z = by (eqb (frame_refusal bytes) 0) (eqb (type_of (framed bytes)) 0x24) refl refl z
  where
    by : (b c : Bool) → eqb (frame_refusal bytes) 0 ≡ b → eqb (type_of (framed bytes)) 0x24 ≡ c
        → cond b (cond c (logins.read_refusal (framed bytes)) 4) (frame_refusal bytes) ≡ 0 → type_of (framed bytes) ≡ 0x24
    by true true e v y = eqb-true (type_of (framed bytes)) 0x24 v
    by true false e v y = absurd (omega (arith, y))
    by false c e v y = absurd (eqb-false (frame_refusal bytes) 0 e y)

pub response_is_read : (bytes : List ℕ) → response_reading bytes ≡ 0 → read_refusal 1 bytes ≡ 0
response_is_read bytes z = sym (response_as_venue bytes (λ f. good_is_response bytes z)) ∙ z

module _ (s : Session) (m : List ℕ) (e : type_of m ≡ 0x24) where
  received_responds : (room : ℕ) → received_by s room m ≡ responded_by s (status_in m) (received_in m) room
  unfolding received_by
  received_responds room = rw (eq-eqb (type_of m) 0x24 e)

  received_marks : (xs : List ℕ) → received_buffer s xs m ≡ responded_buffer s (status_in m) xs
  unfolding received_buffer
  received_marks xs = rw (eq-eqb (type_of m) 0x24 e)

module _ (s : Session) (xs bytes : List ℕ) where
  response_received : is_closed s.phase ≡ false → response_reading bytes ≡ 0 → receive_refusal s (length xs) bytes ≡ cond (is_asked s.phase) 0 16
  unfolding receive_refusal
  response_received c z =
      let e = good_is_response bytes z in
      rw (c, eq-eqb (read_refusal 1 bytes) 0 (response_is_read bytes z), response_passes s.phase (type_of (framed bytes)) e, (response_own (type_of (framed bytes)) e).1)

  response_refusal_is : after_refusal s (response_reading bytes) (length xs) bytes ≡ response_refusal s bytes
  unfolding after_refusal response_refusal
  response_refusal_is = behind_alike (is_closed s.phase) (response_reading bytes) (receive_refusal s (length xs) bytes) (cond (is_asked s.phase) 0 16) response_received

  taken_response : response_refusal s bytes ≡ 0 → type_of (framed bytes) ≡ 0x24
  unfolding response_refusal
  taken_response z = good_is_response bytes (behind-none (is_closed s.phase) (response_reading bytes) (cond (is_asked s.phase) 0 16) z)

  -- a Login Response, by its reading
  pub after_is_response : (after_reading s (response_reading bytes) (length xs) bytes ≡ response_of s (length xs) bytes) × (after_buffer s (response_reading bytes) xs bytes ≡ response_buffer s xs bytes)
  unfolding after_reading after_buffer response_of response_buffer
  after_is_response =
      let e = response_refusal_is in
      let m = framed bytes in
      (alike e (received_by s (length xs) m) (responded_by s (status_in m) (received_in m) (length xs)) s (λ z. received_responds s m (taken_response z) (length xs)), alike_buffers e (received_buffer s xs m) (responded_buffer s (status_in m) xs) xs (λ z. received_marks s m (taken_response z) xs))
