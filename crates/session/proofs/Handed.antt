-- What `receive` tells of a message, over what the caller gets: the answer and the book's buffer.
--     handed_changes_nothing      told 'handed': nothing is refused, and session and buffer are as they were, so that it is neither booked nor counted
--     handed_is_unsequenced       and it is a readable unsequenced message, with unit 0 and number 0
--     a_rejection_is_handed       every readable unsequenced message is handed while replaying and while live
--     a_rejection_is_early        while asked it is 16
--     booked_is_appended          told 'booked': the book has the message, and the buffer its bytes
--     sequenced_is_booked         a sequenced message that is not refused is told so
--     refused_is_nothing, else_is_nothing     what is refused, and every other message, is told as nothing for the desk
-- Assumes nothing.
use Rattle.std.specs.Prelude.{◌≡◌, Bool, ◌||◌, List, ℕ, length}
use Rattle.std.proofs.Math.Path.{refl, ap}
use Rattle.std.proofs.Common.{sym, ◌∙◌, true≢false, arith}
use Rattle.std.proofs.Math.Bool.{true, false, cond}
use Rattle.std.proofs.Math.Dec.{eqb}
use borrow.Author.Tests.{eq-eqb, ne_eqb, eqb-true}
use Rattle.numbers.specs.Numbers.{patched}
use Rattle.wire.specs.Header.{type_of, unit_of, number_of}
use Rattle.wire.specs.Frame.{framed}
use Rattle.orders.specs.Shapes.{sequenced, unsequenced}
use Rattle.orders.specs.Orders as orders
use Rattle.orders.proofs.OrderLaws.{unsequenced_types, unsequenced_has_none}
use Rattle.messages.specs.Messages.{is_session, own_refusal, read_refusal}
use Rattle.book.specs.Books.{appended_by}
use Rattle.session.specs.declared.Phase.{Phase}
use Rattle.session.specs.declared.Phase.TheVariants.{Closed, Asked, Replaying, Live}
use Rattle.session.specs.declared.Session.{Session}
use Rattle.session.specs.declared.Told.{Told}
use Rattle.session.specs.declared.Told.TheVariants.{Nothing, Booked, Handed}
use Rattle.session.specs.Sessions.{pick_session, with_book, is_closed, is_asked, is_open, passes, pick_told, told_of, receive_refusal, received_by, receive_of, receive_answer, received_buffer, receive_buffer}
use Rattle.session.proofs.SessionLaws.{unsequenced_else, or-true, framed_and_carried, received_books, received_appends}

-- ---- what is told, by the refusal and the type

-- the three are different
nothing_not_handed : Nothing ≡ Handed → ⊥
nothing_not_handed e = let z : ◌≡◌ {A = ℕ} 0 1 = cc in absurd (omega arith)

nothing_not_booked : Nothing ≡ Booked → ⊥
nothing_not_booked e = let z : ◌≡◌ {A = ℕ} 0 1 = cc in absurd (omega arith)

booked_not_handed : Booked ≡ Handed → ⊥
booked_not_handed e = let z : ◌≡◌ {A = ℕ} 0 1 = cc in absurd (omega arith)

-- handed: not refused, not sequenced, unsequenced
record TellsHanded (n t : ℕ) : Type 0 where
  pub taken : n ≡ 0
  pub aside : unsequenced t ≡ true

by_handed : (n t : ℕ) (a b c : Bool) → eqb n 0 ≡ a → sequenced t ≡ b → unsequenced t ≡ c → pick_told a (pick_told b Booked (pick_told c Handed Nothing)) Nothing ≡ Handed → TellsHanded n t
by_handed n t true true c p q r e = absurd (booked_not_handed e)
by_handed n t true false true p q r e = record { taken = eqb-true n 0 p; aside = r }
by_handed n t true false false p q r e = absurd (nothing_not_handed e)
by_handed n t false b c p q r e = absurd (nothing_not_handed e)

tells_handed : (n t : ℕ) → pick_told (eqb n 0) (told_of t) Nothing ≡ Handed → TellsHanded n t
unfolding told_of
tells_handed n t e = by_handed n t (eqb n 0) (sequenced t) (unsequenced t) refl refl refl e

-- booked: not refused, sequenced
by_booked : (n t : ℕ) (a b c : Bool) → eqb n 0 ≡ a → sequenced t ≡ b → pick_told a (pick_told b Booked (pick_told c Handed Nothing)) Nothing ≡ Booked → (n ≡ 0) × (sequenced t ≡ true)
by_booked n t true true c p q e = (eqb-true n 0 p, q)
by_booked n t true false true p q e = absurd (booked_not_handed (sym e))
by_booked n t true false false p q e = absurd (nothing_not_booked e)
by_booked n t false b c p q e = absurd (nothing_not_booked e)

tells-booked : (n t : ℕ) → pick_told (eqb n 0) (told_of t) Nothing ≡ Booked → (n ≡ 0) × (sequenced t ≡ true)
unfolding told_of
tells-booked n t e = by_booked n t (eqb n 0) (sequenced t) (unsequenced t) refl refl e

-- ---- handed

-- a phase that is asked or open is not closed
open_not_closed : (p : Phase) → is_open p ≡ true → is_closed p ≡ false
open_not_closed Closed e = sym e
open_not_closed Asked e = refl
open_not_closed Replaying e = refl
open_not_closed Live e = refl

asked_not_closed : (p : Phase) → is_asked p ≡ true → is_closed p ≡ false
asked_not_closed Closed e = sym e
asked_not_closed Asked e = refl
asked_not_closed Replaying e = refl
asked_not_closed Live e = refl

aside_passes : (p : Phase) (t : ℕ) → is_open p ≡ true → unsequenced t ≡ true → passes p t ≡ true
unfolding passes
aside_passes Closed t e u = e
aside_passes Asked t e u = absurd (true≢false (sym e))
aside_passes Replaying t e u = rw (u, or-true (sequenced t))
aside_passes Live t e u = rw (u, or-true (sequenced t))

aside_waits : (p : Phase) (t : ℕ) → is_asked p ≡ true → unsequenced t ≡ true → passes p t ≡ false
unfolding passes
aside_waits Closed t e u = refl
aside_waits Asked t e u = unsequenced_types (λ (x : ℕ). (eqb x 0x24 || eqb x 0x08) ≡ false) refl refl refl t u
aside_waits Replaying t e u = absurd (true≢false (sym e))
aside_waits Live t e u = absurd (true≢false (sym e))

-- an unsequenced message's own refusals are an order's
own_aside : (m : List ℕ) → unsequenced (type_of m) ≡ true → own_refusal m ≡ 0 → orders.read_refusal m ≡ 0
unfolding own_refusal
own_aside m u z = rw (unsequenced_types (λ (t : ℕ). is_session t ≡ false) refl refl refl (type_of m) u) at z

module _ (s : Session) (xs bytes : List ℕ) where
  -- HANDED CHANGES NOTHING
  pub handed_changes_nothing : (receive_answer s (length xs) bytes).told ≡ Handed
      → ((receive_answer s (length xs) bytes).refusal ≡ 0) × ((receive_answer s (length xs) bytes).session ≡ s) × (receive_buffer s xs bytes ≡ xs)
  unfolding receive_of receive_buffer received_by received_buffer
  handed_changes_nothing e =
      let h = tells_handed (receive_refusal s (length xs) bytes) (type_of (framed bytes)) e in
      let n = unsequenced_else (type_of (framed bytes)) h.aside in
      let z = eq-eqb (receive_refusal s (length xs) bytes) 0 h.taken in
      (h.taken, rw (z, n.0, n.1, n.2, n.3), rw (z, n.0, n.1, n.2, n.3))

  -- HANDED IS UNSEQUENCED: what is handed was read, of a type that is not sequenced, and has unit 0 and number 0
  pub handed_is_unsequenced : (receive_answer s (length xs) bytes).told ≡ Handed
      → (read_refusal 1 bytes ≡ 0) × (unsequenced (type_of (framed bytes)) ≡ true) × (unit_of (framed bytes) ≡ 0) × (number_of (framed bytes) ≡ 0)
  unfolding receive_of receive_refusal
  handed_is_unsequenced e =
      let h = tells_handed (receive_refusal s (length xs) bytes) (type_of (framed bytes)) e in
      let r = reads (is_closed s.phase) (eqb (read_refusal 1 bytes) 0) _ refl h.taken in
      let f = framed_and_carried bytes r in
      let u = unsequenced_has_none (framed bytes) (own_aside (framed bytes) h.aside f.2) h.aside in
      (r, h.aside, u.0, u.1)
    where
      reads : (c b : Bool) (x : ℕ) → eqb (read_refusal 1 bytes) 0 ≡ b → cond c 16 (cond b x (read_refusal 1 bytes)) ≡ 0 → read_refusal 1 bytes ≡ 0
      reads true b x p z = absurd (omega (arith, z))
      reads false true x p z = eqb-true (read_refusal 1 bytes) 0 p
      reads false false x p z = z

  module _ (z : read_refusal 1 bytes ≡ 0) (u : unsequenced (type_of (framed bytes)) ≡ true) where
    -- A REJECTION IS HANDED while replaying and while live
    pub a_rejection_is_handed : is_open s.phase ≡ true → (receive_answer s (length xs) bytes).told ≡ Handed
    unfolding receive_of receive_refusal told_of
    a_rejection_is_handed o =
        rw (open_not_closed s.phase o, eq-eqb (read_refusal 1 bytes) 0 z, aside_passes s.phase (type_of (framed bytes)) o u, (unsequenced_else (type_of (framed bytes)) u).3, u)

    -- and while asked it is early
    pub a_rejection_is_early : is_asked s.phase ≡ true → (receive_answer s (length xs) bytes).refusal ≡ 16
    unfolding receive_of receive_refusal
    a_rejection_is_early o = rw (asked_not_closed s.phase o, eq-eqb (read_refusal 1 bytes) 0 z, aside_waits s.phase (type_of (framed bytes)) o u)

  -- ---- booked

  -- BOOKED IS APPENDED
  pub booked_is_appended : (receive_answer s (length xs) bytes).told ≡ Booked
      → ((receive_answer s (length xs) bytes).refusal ≡ 0) × ((receive_answer s (length xs) bytes).session ≡ with_book s (appended_by s.book (framed bytes)))
      × (receive_buffer s xs bytes ≡ patched xs s.book.length (framed bytes))
  unfolding receive_of receive_buffer
  booked_is_appended e =
      let h = tells-booked (receive_refusal s (length xs) bytes) (type_of (framed bytes)) e in
      let z = eq-eqb (receive_refusal s (length xs) bytes) 0 h.0 in (
        h.0,
        ap (λ (b : Bool). pick_session b (received_by s (length xs) (framed bytes)) s) z ∙ received_books s (framed bytes) h.1 (length xs),
        ap (λ (b : Bool). cond b (received_buffer s xs (framed bytes)) xs) z ∙ received_appends s (framed bytes) h.1 xs,
      )

  pub sequenced_is_booked : sequenced (type_of (framed bytes)) ≡ true → (receive_answer s (length xs) bytes).refusal ≡ 0 → (receive_answer s (length xs) bytes).told ≡ Booked
  unfolding receive_of told_of
  sequenced_is_booked v z = rw (eq-eqb (receive_refusal s (length xs) bytes) 0 z, v)

  -- ---- nothing

  pub refused_is_nothing : ((receive_answer s (length xs) bytes).refusal ≡ 0 → ⊥) → (receive_answer s (length xs) bytes).told ≡ Nothing
  unfolding receive_of
  refused_is_nothing n = rw (ne_eqb (receive_refusal s (length xs) bytes) 0 n)

  pub else_is_nothing : sequenced (type_of (framed bytes)) ≡ false → unsequenced (type_of (framed bytes)) ≡ false → (receive_answer s (length xs) bytes).told ≡ Nothing
  unfolding receive_of told_of
  else_is_nothing v u = by (eqb (receive_refusal s (length xs) bytes) 0) (rw (v, u))
    where
      by : (a : Bool) {t : Told} → t ≡ Nothing → pick_told a t Nothing ≡ Nothing
      by true e = e
      by false e = refl
