-- How reading and writing by direction go on, stage by stage. Assumes nothing.
use Rattle.std.specs.Prelude.{◌≡◌, Bool, ◌||◌, List, ℕ, ◌≤◌, ◌<◌, eqb, length, get_or}
use Rattle.std.proofs.Math.Path.{refl, sym}
use Rattle.std.proofs.Common.{◌∙◌, arith, eq-eqb, ne_eqb, lt-ltb, le-ltb, eqb-true}
use Rattle.std.proofs.Math.Bool.{true, false, cond}
use Rattle.std.proofs.Math.Dec.{ltb}
use Rattle.numbers.specs.Numbers.{patched}
use Rattle.wire.specs.Header.{type_of}
use Rattle.wire.specs.Frame.{frame_refusal}
use Rattle.orders.specs.Shapes as order_types
use Rattle.orders.specs.declared.Market.TheVariants.{Equities, Options}
use Rattle.orders.specs.Markets.{of_market, on_wire}
use Rattle.orders.specs.Orders as orders
use Rattle.order_records.specs.Records.{record_bytes, record_at}
use Rattle.session_messages.specs.Sessions as sessions
use Rattle.session_messages.specs.Sizes.{session_record_size}
use Rattle.block.specs.Sizes.{record_size}
use Rattle.messages.specs.Messages.{is_session, carries, heard, record_size_of, session_record_bytes, session_at, own_refusal, record_of, read_refusal, read_call, read_record, own_write, message_of, write_call, write_out}
use Rattle.messages.specs.Stages.{placed_refusal, placed_record, size_refusal, size_out}

pub or_yes : (a b : Bool) → a ≡ true → (a || b) ≡ true
or_yes a b e = rw e

pub or_no : (a b : Bool) → a ≡ false → (a || b) ≡ b
or_no a b e = rw e

-- ---- the directions

pub from_member : (direction message : ℕ) → direction ≡ 0 → carries direction message ≡ (of_market Equities message || sessions.of_member message)
unfolding carries
from_member direction message e = rw (eq-eqb direction 0 e)

pub from_venue : (direction message : ℕ) → (direction ≡ 0 → ⊥) → direction ≡ 1 → carries direction message ≡ (order_types.of_venue message || sessions.of_venue message)
unfolding carries
from_venue direction message n e = rw (ne_eqb direction 0 n, eq-eqb direction 1 e)

pub from_options_member : (direction message : ℕ) → (direction ≡ 0 → ⊥) → (direction ≡ 1 → ⊥) → direction ≡ 2 → carries direction message ≡ (of_market Options message || sessions.of_member message)
unfolding carries
from_options_member direction message n k e = rw (ne_eqb direction 0 n, ne_eqb direction 1 k, eq-eqb direction 2 e)

pub from_none : (direction message : ℕ) → (direction ≡ 0 → ⊥) → (direction ≡ 1 → ⊥) → (direction ≡ 2 → ⊥) → carries direction message ≡ false
unfolding carries
from_none direction message n k o = rw (ne_eqb direction 0 n, ne_eqb direction 1 k, ne_eqb direction 2 o)

-- ---- the size of a type's record

pub session_size_lem : (message : ℕ) → is_session message ≡ true → record_size_of message ≡ session_record_size
unfolding record_size_of
session_size_lem message b = rw b

pub order_size : (message : ℕ) → is_session message ≡ false → record_size_of message ≡ record_size
unfolding record_size_of
order_size message b = rw b

-- a session message's record is the longest
pub size_at-most : (message : ℕ) → record_size_of message ≤ session_record_size
unfolding record_size_of
size_at-most message = by (is_session message)
  where
    by : (b : Bool) → cond b session_record_size record_size ≤ session_record_size
    by true = omega arith
    by false = omega arith

-- no record is empty
pub size-not_zero : (message : ℕ) → 0 < record_size_of message
unfolding record_size_of
size-not_zero message = by (is_session message)
  where
    by : (b : Bool) → 0 < cond b session_record_size record_size
    by true = omega arith
    by false = omega arith

-- ---- reading

-- what a reading answers
abbrev pub Answers : ℕ → List ℕ → List ℕ → ℕ → List ℕ → Type 0
Answers direction s buffer n out = (n ≡ read_call direction s (length buffer)) × (out ≡ read_record direction s buffer)

-- its refusal: framing's, the type's, and then the message's own
module _ (direction : ℕ) (s : List ℕ) where
  pub frame_refuses : {n : ℕ} → n ≡ frame_refusal s → (n ≡ 0 → ⊥) → n ≡ read_refusal direction s
  unfolding read_refusal
  frame_refuses e k = rw (ne_eqb (frame_refusal s) 0 (λ z. k (e ∙ z))) e

  module _ (z : frame_refusal s ≡ 0) where
    pub type_refuses : carries direction (type_of (heard direction s)) ≡ false → 4 ≡ read_refusal direction s
    unfolding read_refusal
    type_refuses e = rw (eq-eqb (frame_refusal s) 0 z, e)

    module _ (e : carries direction (type_of (heard direction s)) ≡ true) where
      pub own_refuses : read_refusal direction s ≡ own_refusal (heard direction s)
      unfolding read_refusal
      own_refuses = rw (eq-eqb (frame_refusal s) 0 z, e)

      pub session_refuses : is_session (type_of (heard direction s)) ≡ true → sessions.read_refusal (heard direction s) ≡ read_refusal direction s
      unfolding own_refusal
      session_refuses b =
          let q : own_refusal (heard direction s) ≡ sessions.read_refusal (heard direction s) = rw b in
          sym (own_refuses ∙ q)

      pub order_refuses : is_session (type_of (heard direction s)) ≡ false → orders.read_refusal (heard direction s) ≡ read_refusal direction s
      unfolding own_refusal
      order_refuses b =
          let q : own_refusal (heard direction s) ≡ orders.read_refusal (heard direction s) = rw b in
          sym (own_refuses ∙ q)

module _ (direction : ℕ) (s buffer : List ℕ) where
  -- a message's refusal is the call's, whatever the buffer, and changes nothing
  refused : {n : ℕ} → n ≡ read_refusal direction s → (n ≡ 0 → ⊥) → Answers direction s buffer n buffer
  unfolding read_call read_record
  refused {n} e k =
      let q : n ≡ read_call direction s (length buffer) = rw (ne_eqb (read_refusal direction s) 0 (λ z. k (e ∙ z))) e in
      (q, rw (ne_eqb (read_call direction s (length buffer)) 0 (λ z. k (q ∙ z))))

  pub frame_stops : {n : ℕ} → n ≡ frame_refusal s → (n ≡ 0 → ⊥) → Answers direction s buffer n buffer
  frame_stops e k = refused (frame_refuses direction s e k) k

  module _ (z : frame_refusal s ≡ 0) where
    pub type_stops : carries direction (type_of (heard direction s)) ≡ false → Answers direction s buffer 4 buffer
    type_stops e = refused (type_refuses direction s z e) (λ x. omega (arith, x))

    module _ (e : carries direction (type_of (heard direction s)) ≡ true) where
      pub own_refusal_lem : read_refusal direction s ≡ own_refusal (heard direction s)
      unfolding read_refusal
      own_refusal_lem = rw (eq-eqb (frame_refusal s) 0 z, e)

      -- what the reading of a message answers, by its own refusal and record
      own_reads : (size refusal : ℕ) (bytes : List ℕ) → record_size_of (type_of (heard direction s)) ≡ size → own_refusal (heard direction s) ≡ refusal → record_of (heard direction s) ≡ bytes → {n : ℕ} {out : List ℕ}
          → (n ≡ placed_refusal refusal size (length buffer)) × (out ≡ placed_record refusal size bytes buffer) → Answers direction s buffer n out
      unfolding read_call read_record placed_refusal placed_record
      own_reads size refusal bytes k r m h =
          let q : read_refusal direction s ≡ refusal = own_refusal_lem ∙ r in
          (h.0 ∙ rw (q, k), h.1 ∙ rw (q, k, m))

      pub session_reads : is_session (type_of (heard direction s)) ≡ true → {n : ℕ} {out : List ℕ}
          → (n ≡ placed_refusal (sessions.read_refusal (heard direction s)) session_record_size (length buffer))
          × (out ≡ placed_record (sessions.read_refusal (heard direction s)) session_record_size (session_record_bytes (sessions.record_of (heard direction s))) buffer)
          → Answers direction s buffer n out
      unfolding own_refusal record_of
      session_reads b h =
          own_reads session_record_size (sessions.read_refusal (heard direction s)) (session_record_bytes (sessions.record_of (heard direction s))) (session_size_lem (type_of (heard direction s)) b) (rw b) (rw b) h

      pub order_reads : is_session (type_of (heard direction s)) ≡ false → {n : ℕ} {out : List ℕ}
          → (n ≡ placed_refusal (orders.read_refusal (heard direction s)) record_size (length buffer))
          × (out ≡ placed_record (orders.read_refusal (heard direction s)) record_size (record_bytes (orders.record_of (heard direction s))) buffer)
          → Answers direction s buffer n out
      unfolding own_refusal record_of
      order_reads b h =
          own_reads record_size (orders.read_refusal (heard direction s)) (record_bytes (orders.record_of (heard direction s))) (order_size (type_of (heard direction s)) b) (rw b) (rw b) h

-- a buffer of the size of the message's own record is never too short
pub own_size_suffices : (direction : ℕ) (s : List ℕ) (room : ℕ) → record_size_of (type_of (heard direction s)) ≤ room → read_call direction s room ≡ read_refusal direction s
unfolding read_call
own_size_suffices direction s room h = rw (le-ltb room (record_size_of (type_of (heard direction s))) h) (by (eqb (read_refusal direction s) 0) refl)
  where
    by : (b : Bool) → eqb (read_refusal direction s) 0 ≡ b → cond b 0 (read_refusal direction s) ≡ read_refusal direction s
    by true q = sym (eqb-true (read_refusal direction s) 0 q)
    by false q = refl

-- and one byte less is, where the message is accepted
pub short_is_no_room : (direction : ℕ) (s : List ℕ) (room : ℕ) → read_refusal direction s ≡ 0 → room < record_size_of (type_of (heard direction s)) → read_call direction s room ≡ 13
unfolding read_call
short_is_no_room direction s room z h = rw (eq-eqb (read_refusal direction s) 0 z, lt-ltb room (record_size_of (type_of (heard direction s))) h)

-- ---- writing

-- what a writing answers
abbrev pub Writes : ℕ → List ℕ → List ℕ → ℕ → List ℕ → Type 0
Writes direction s out n out' = (n ≡ write_call direction s (length out)) × (out' ≡ write_out direction s out)

module _ (direction : ℕ) (s out : List ℕ) where
  unwritten : {n : ℕ} → n ≡ write_call direction s (length out) → (n ≡ 0 → ⊥) → Writes direction s out n out
  unfolding write_out
  unwritten e k = (e, rw (ne_eqb (write_call direction s (length out)) 0 (λ z. k (e ∙ z))))

  -- no type byte
  pub write_empty : length s ≡ 0 → Writes direction s out 13 out
  unfolding write_call
  write_empty h =
      let q : 13 ≡ write_call direction s (length out) = rw (eq-eqb (length s) 0 h) in
      unwritten q (λ x. omega (arith, x))

  module _ (h : length s ≡ 0 → ⊥) where
    -- 4, however short the record
    pub write_stops : carries direction (get_or s 0 0) ≡ false → Writes direction s out 4 out
    unfolding write_call
    write_stops e =
        let q : 4 ≡ write_call direction s (length out) = rw (ne_eqb (length s) 0 h, e) in
        unwritten q (λ x. omega (arith, x))

    module _ (e : carries direction (get_or s 0 0) ≡ true) where
      -- then 13 by the type's size, and the record's own
      sized : (room : ℕ) → write_call direction s room ≡ size_refusal (record_size_of (get_or s 0 0)) (length s) (own_write s room)
      unfolding write_call size_refusal
      sized room = rw (ne_eqb (length s) 0 h, e)

      pub own_write_lem : record_size_of (get_or s 0 0) ≤ length s → (room : ℕ) → write_call direction s room ≡ own_write s room
      unfolding size_refusal
      own_write_lem l room = sized room ∙ rw (le-ltb (length s) (record_size_of (get_or s 0 0)) l)

      pub write_short : length s < record_size_of (get_or s 0 0) → Writes direction s out 13 out
      unfolding size_refusal
      write_short l =
          let q : 13 ≡ write_call direction s (length out) = sym (sized (length out) ∙ rw (lt-ltb (length s) (record_size_of (get_or s 0 0)) l)) in
          unwritten q (λ x. omega (arith, x))

      -- what the writing of a record of that size answers, by its own refusal and bytes
      own_writes : (size refusal : ℕ) (bytes : List ℕ) → record_size_of (get_or s 0 0) ≡ size → own_write s (length out) ≡ refusal → message_of s ≡ bytes → {n : ℕ} {out' : List ℕ}
          → (n ≡ size_refusal size (length s) refusal) × (out' ≡ size_out size (length s) (cond (eqb refusal 0) (patched out 0 bytes) out) out) → Writes direction s out n out'
      unfolding write_out size_refusal size_out
      own_writes size refusal bytes k r m {n} {out'} w = by (ltb (length s) size) refl w.0 w.1
        where
          by : (b : Bool) → ltb (length s) size ≡ b → n ≡ cond b 13 refusal → out' ≡ cond b out (cond (eqb refusal 0) (patched out 0 bytes) out) → Writes direction s out n out'
          by true p x y =
              let q : write_call direction s (length out) ≡ 13 = sized (length out) ∙ rw (k, p) in
              (x ∙ sym q, y ∙ rw q)
          by false p x y =
              let q : write_call direction s (length out) ≡ refusal = sized (length out) ∙ rw (k, p, r) in
              (x ∙ sym q, y ∙ rw (q, m))

      pub session_writes : is_session (get_or s 0 0) ≡ true → {n : ℕ} {out' : List ℕ}
          → (n ≡ size_refusal session_record_size (length s) (sessions.record_refusal (session_at s) (length out)))
          × (out' ≡ size_out session_record_size (length s) (sessions.record_buffer (session_at s) out) out) → Writes direction s out n out'
      unfolding own_write message_of sessions.write_buffer
      session_writes b w =
          own_writes session_record_size (sessions.record_refusal (session_at s) (length out)) (sessions.session_bytes (session_at s)) (session_size_lem (get_or s 0 0) b) (rw b) (rw b) w

      pub order_writes : is_session (get_or s 0 0) ≡ false → {n : ℕ} {out' : List ℕ}
          → (n ≡ size_refusal record_size (length s) (orders.write_refusal (record_at s) (length out)))
          × (out' ≡ size_out record_size (length s) (orders.write_buffer (record_at s) out) out) → Writes direction s out n out'
      unfolding own_write message_of orders.write_buffer
      order_writes b w =
          own_writes record_size (orders.write_refusal (record_at s) (length out)) (on_wire (orders.order_bytes (record_at s))) (order_size (get_or s 0 0) b) (rw b) (rw b) w
