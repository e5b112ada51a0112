-- Judging a message from the venue where it stands: what reading refuses, without its record. Assumes nothing.
use Rattle.std.specs.Prelude.{◌≡◌, refl, Bool, true, false, cond, ◌||◌, List, ℕ, get_or}
use Rattle.std.proofs.Common.{sym, ap, ◌∙◌, arith, get_or-take, eq-eqb, ne_eqb}
use Rattle.refusals.specs.Names.{unknown_type}
use Rattle.wire.specs.Header.{type_of, total_of}
use Rattle.wire.specs.Frame.{frame_refusal, framed}
use Rattle.wire.proofs.FrameLaws.{whole, framed_is}
use Rattle.orders.specs.Shapes as order_types
use Rattle.orders.specs.Orders as orders
use Rattle.orders.proofs.OrderLaws.{unsequenced_types}
use Rattle.session_messages.specs.Sessions as sessions
use Rattle.messages.specs.Messages.{is_session, carries, own_refusal, read_refusal}
use Rattle.session.proofs.SessionLaws.{no_session, or-true, framed_and_carried}

-- an order message of the venue's is no session message
order_alone : (t : ℕ) → order_types.of_venue t ≡ true → is_session t ≡ false
order_alone t e = by (order_types.sequenced t) refl e
  where
    by : (q : Bool) → order_types.sequenced t ≡ q → (q || order_types.unsequenced t) ≡ true → is_session t ≡ false
    by true s z = no_session t s
    by false s z = unsequenced_types (λ (u : ℕ). is_session u ≡ false) refl refl refl t z

module _ (m : List ℕ) where
  abbrev judged : ℕ
  judged = cond (carries 1 (type_of m)) (own_refusal m) unknown_type

  pub judged_order : order_types.of_venue (type_of m) ≡ true → {r : ℕ} → r ≡ orders.read_refusal m → r ≡ judged
  unfolding carries own_refusal
  judged_order v e = e ∙ rw (v, order_alone (type_of m) v)

  module _ (n : order_types.of_venue (type_of m) ≡ false) where
    pub judged_session : sessions.of_venue (type_of m) ≡ true → {r : ℕ} → r ≡ sessions.read_refusal m → r ≡ judged
    unfolding carries own_refusal
    judged_session v e = e ∙ rw (n, v, or-true (sessions.of_member (type_of m)))

    pub judged-none : sessions.of_venue (type_of m) ≡ false → unknown_type ≡ judged
    unfolding carries
    judged-none v = rw (n, v)

module _ (bytes : List ℕ) where
  pub unframed : {r : ℕ} → r ≡ frame_refusal bytes → (r ≡ 0 → ⊥) → r ≡ read_refusal 1 bytes
  unfolding read_refusal
  unframed e k = e ∙ rw (ne_eqb (frame_refusal bytes) 0 (λ z. k (e ∙ z)))

  pub judged-framed : frame_refusal bytes ≡ 0 → {m : List ℕ} {r : ℕ} → m ≡ framed bytes → r ≡ cond (carries 1 (type_of m)) (own_refusal m) unknown_type → r ≡ read_refusal 1 bytes
  unfolding read_refusal
  judged-framed z f e = e ∙ rw (eq-eqb (frame_refusal bytes) 0 z, f)

-- the type of a message that is framed is a byte of what it was framed in
pub type_in-bytes : (bytes : List ℕ) → read_refusal 1 bytes ≡ 0 → get_or bytes 4 0 ≡ type_of (framed bytes)
unfolding total_of
type_in-bytes bytes z =
    let f = (framed_and_carried bytes z).0 in
    let w = (whole bytes f).least in
    sym (ap type_of (framed_is bytes f) ∙ get_or-take (total_of bytes) bytes 4 0 (omega (arith, w)))
