-- Demand 2 for every type of both directions: what is accepted is written again as the same bytes; a record that the writer takes, written and
-- read with any bytes after it, is the same record. A record's buffer of its own type's size suffices for both. Assumes nothing.
use Rattle.std.specs.Prelude.{◌≡◌, Bool, not, ℕ, ◌-◌, ◌≤◌, ◌<◌, eqb, ltb, take, drop}
use Rattle.std.proofs.Math.Path.{refl, sym, ap, ap₂}
use Rattle.std.proofs.Common.{◌∙◌, subst, zero-add, arith, take_at}
use Rattle.std.proofs.Math.Bool.{true, false, cond}
use mathlib.Core.List.{List, [], ◌∷◌, ◌++◌, append-nil, append_assoc}
use Rattle.std.proofs.Math.ListN.{length, get_or, length-append, length-drop}
use Rattle.std.proofs.Math.Seq.{length-take-le, get_or-take}
use borrow.Author.Tests.{eq-eqb, ne_eqb, eqb-true, eqb-false, le-ltb, ltb-false}
use Rattle.numbers.specs.Numbers.{bytes_of, patched}
use Rattle.numbers.specs.NumberLaws.{number_after, number_back, number_fits, bytes-first, patched-length}
use Rattle.wire.specs.Header.{type_of, number_of, total_of}
use Rattle.wire.specs.HeaderLaws.{Bytes}
use Rattle.wire.specs.Frame.{frame_refusal, framed}
use Rattle.wire.proofs.FrameLaws.{Whole, whole, framed_is, framed-length}
use Rattle.block.specs.Slots.{zeros}
use Rattle.block.specs.SlotLaws.{length-zeros}
use Rattle.orders.specs.Markets.{on_wire}
use Rattle.orders.specs.Orders as orders
use Rattle.orders.proofs.RoundTrip as order_trip
use Rattle.orders.specs.declared.Record as order_records
use Rattle.order_records.specs.Records.{record_bytes, record_at}
use Rattle.order_records.specs.RecordTrip.{record_length, record_again, at_sound, bytes-again, head_again, joined}
use Rattle.session_messages.specs.Sessions as sessions
use Rattle.session_messages.proofs.SessionTrip as session_trip
use Rattle.session_messages.specs.declared.Record as session_records
use Rattle.session_messages.specs.Sizes.{session_record_size}
use Rattle.block.specs.Sizes.{record_size}
use Rattle.messages.specs.Messages.{is_session, carries, heard, record_size_of, session_record_bytes, session_at, own_refusal, record_of, read_refusal, read_call, read_record, own_write, message_of, write_call, write_out, held_in}
use Rattle.messages.proofs.MessageLaws.{session_size_lem, order_size, size-not_zero, own_refusal_lem, own_size_suffices, own_write_lem}
use Rattle.messages.proofs.Heard.{heard-alone, heard_exact, heard_long, heard-bytes, wired_again, session_wired, heard-again, wired_frames, wired_framed}

-- bytes put at the front, and what stood after them
front : (xs bs : List ℕ) → patched xs 0 bs ≡ bs ++ drop (length bs) xs
unfolding patched
front xs bs = ap (λ (n : ℕ). bs ++ drop n xs) (zero-add (length bs))

-- ---- a session message's record as bytes

same : {m u n n' : ℕ} {b b' : List ℕ} → n ≡ n' → b ≡ b'
    → ◌≡◌ {A = session_records.Record} (record { message = m; unit = u; number = n; body = b }) (record { message = m; unit = u; number = n'; body = b' })
same {m} {u} p q = ap₂ (λ (x : ℕ) (y : List ℕ). record { message = m; unit = u; number = x; body = y }) p q

pub session_again : (r : session_records.Record) → length r.body ≡ 433 → r.number < 4294967296 → (t : List ℕ) → session_at (session_record_bytes r ++ t) ≡ r
unfolding session_at session_record_bytes
session_again r l h t =
    let e : session_record_bytes r ++ t ≡ (r.message ∷ r.unit ∷ bytes_of 4 r.number) ++ (r.body ++ t) = append_assoc (r.message ∷ r.unit ∷ bytes_of 4 r.number) r.body t in
    ap session_at e
    ∙ same
    (number_after 4 0 (r.message ∷ r.unit ∷ []) (bytes_of 4 r.number ++ (r.body ++ t)) ∙ number_back 4 r.number (r.body ++ t) h)
    (take_at r.body t 433 l)

session_bytes-again : (s : List ℕ) → Bytes s → session_record_size ≤ length s → session_record_bytes (session_at s) ≡ take session_record_size s
unfolding session_at session_record_bytes
session_bytes-again s k h = ap (λ (x : List ℕ). x ++ take 433 (drop 6 s)) (head_again s k (omega arith)) ∙ joined 0 6 433 s

-- ---- what is accepted

pub record Accepted (direction : ℕ) (s : List ℕ) : Type 0 where
  pub frames : frame_refusal s ≡ 0
  pub carried : carries direction (type_of (heard direction s)) ≡ true
  pub owns : own_refusal (heard direction s) ≡ 0

pub accepted : (direction : ℕ) (s : List ℕ) → read_refusal direction s ≡ 0 → Accepted direction s
unfolding read_refusal
accepted direction s z = by (eqb (frame_refusal s) 0) refl (carries direction (type_of (heard direction s))) refl z
  where
    by : (b : Bool) → eqb (frame_refusal s) 0 ≡ b → (k : Bool) → carries direction (type_of (heard direction s)) ≡ k
        → cond b (cond k (own_refusal (heard direction s)) 4) (frame_refusal s) ≡ 0 → Accepted direction s
    by true p true q y = record { frames = eqb-true (frame_refusal s) 0 p; carried = q; owns = y }
    by true p false q y = absurd (omega (arith, y))
    by false p k q y = absurd (eqb-false (frame_refusal s) 0 p y)

-- a call that answers 0 has room for this message's record, and its message is accepted
pub record Taken (direction : ℕ) (s : List ℕ) (room : ℕ) : Type 0 where
  pub read : read_refusal direction s ≡ 0
  pub roomy : record_size_of (type_of (heard direction s)) ≤ room

pub taken : (direction : ℕ) (s : List ℕ) (room : ℕ) → read_call direction s room ≡ 0 → Taken direction s room
unfolding read_call
taken direction s room z = by (eqb (read_refusal direction s) 0) refl (ltb room (record_size_of (type_of (heard direction s)))) refl z
  where
    by : (b : Bool) → eqb (read_refusal direction s) 0 ≡ b → (k : Bool) → ltb room (record_size_of (type_of (heard direction s))) ≡ k
        → cond b (cond k 13 0) (read_refusal direction s) ≡ 0 → Taken direction s room
    by true p false q y = record { read = eqb-true (read_refusal direction s) 0 p; roomy = ltb-false room (record_size_of (type_of (heard direction s))) q }
    by true p true q y = absurd (omega (arith, y))
    by false p k q y = absurd (eqb-false (read_refusal direction s) 0 p y)

-- ---- the record of an accepted message m, with any bytes after it, is taken and is written as m

module _ (m : List ℕ) (bytes : Bytes m) (w : Whole m) (exact : length m ≡ total_of m) where
  -- the record's bytes of a session message, and of an order
  module _ (z : sessions.read_refusal m ≡ 0) where
    body-whole : length (sessions.body_of m) ≡ 433
    unfolding sessions.body_of
    body-whole = let n = session_trip.body_small m z in length-append (drop 10 m) (zeros (433 - length (drop 10 m))) ∙ omega (arith, n, length-zeros (433 - length (drop 10 m)))

    pub session_held : (t : List ℕ) → session_at (session_record_bytes (sessions.record_of m) ++ t) ≡ sessions.record_of m
    unfolding number_of
    session_held t = session_again (sessions.record_of m) body-whole (number_fits 4 6 m bytes) t

  pub order_held : orders.read_refusal m ≡ 0 → (t : List ℕ) → record_at (record_bytes (orders.record_of m) ++ t) ≡ orders.record_of m
  order_held z t = record_again (orders.record_of m) (order_trip.read_sound m bytes z) t

  -- a record is as long as its type says, no more and no less
  pub recorded_exactly : own_refusal m ≡ 0 → length (record_of m) ≡ record_size_of (type_of m)
  unfolding own_refusal record_of record_size_of session_record_bytes
  recorded_exactly z = by (is_session (type_of m)) z
    where
      by : (b : Bool) → cond b (sessions.read_refusal m) (orders.read_refusal m) ≡ 0
          → length (cond b (session_record_bytes (sessions.record_of m)) (record_bytes (orders.record_of m))) ≡ cond b session_record_size record_size
      by true y = let n = body-whole y in omega (arith, n)
      by false y = let n = record_length (orders.record_of m) (order_trip.read_sound m bytes y) in omega (arith, n)

  module _ (z : own_refusal m ≡ 0) (t : List ℕ) where
    type_first : get_or (record_of m ++ t) 0 0 ≡ type_of m
    unfolding record_of session_record_bytes record_bytes orders.record_of
    type_first = by (is_session (type_of m))
      where
        by : (b : Bool) → get_or (cond b (session_record_bytes (sessions.record_of m)) (record_bytes (orders.record_of m)) ++ t) 0 0 ≡ type_of m
        by true = refl
        by false = refl

    own_taken : (room : ℕ) → length m ≤ room → own_write (record_of m ++ t) room ≡ 0
    unfolding own_write record_of own_refusal
    own_taken room h =
        ap (λ (x : ℕ). cond (is_session x) (sessions.record_refusal (session_at (record_of m ++ t)) room) (orders.write_refusal (record_at (record_of m ++ t)) room)) type_first
        ∙ by (is_session (type_of m)) refl z
      where
        by : (b : Bool) → is_session (type_of m) ≡ b → cond b (sessions.read_refusal m) (orders.read_refusal m) ≡ 0
            → cond b (sessions.record_refusal (session_at (cond b (session_record_bytes (sessions.record_of m)) (record_bytes (orders.record_of m)) ++ t)) room)
            (orders.write_refusal (record_at (cond b (session_record_bytes (sessions.record_of m)) (record_bytes (orders.record_of m)) ++ t)) room) ≡ 0
        by true q y = ap (λ (r : session_records.Record). sessions.record_refusal r room) (session_held y t) ∙ session_trip.taken-again m y room h
        by false q y = ap (λ (r : order_records.Record). orders.write_refusal r room) (order_held y t) ∙ order_trip.taken-again m bytes w exact y room h

    own_written : message_of (record_of m ++ t) ≡ on_wire m
    unfolding message_of record_of own_refusal total_of
    own_written =
        ap (λ (x : ℕ). cond (is_session x) (sessions.session_bytes (session_at (record_of m ++ t))) (on_wire (orders.order_bytes (record_at (record_of m ++ t))))) type_first
        ∙ by (is_session (type_of m)) refl z
      where
        by : (b : Bool) → is_session (type_of m) ≡ b → cond b (sessions.read_refusal m) (orders.read_refusal m) ≡ 0
            → cond b (sessions.session_bytes (session_at (cond b (session_record_bytes (sessions.record_of m)) (record_bytes (orders.record_of m)) ++ t)))
            (on_wire (orders.order_bytes (record_at (cond b (session_record_bytes (sessions.record_of m)) (record_bytes (orders.record_of m)) ++ t)))) ≡ on_wire m
        by true q y =
            ap (λ (r : session_records.Record). sessions.session_bytes r) (session_held y t)
            ∙ session_trip.written_again m bytes w exact y
            ∙ sym (session_wired m (omega (arith, exact, w.least)) q)
        by false q y = ap on_wire (ap (λ (r : order_records.Record). orders.order_bytes r) (order_held y t) ∙ order_trip.written_again m bytes w exact y)

-- a record of its type's size has a type byte
not-empty : (s : List ℕ) → record_size_of (get_or s 0 0) ≤ length s → length s ≡ 0 → ⊥
not-empty s h z = omega (arith, h, z, size-not_zero (get_or s 0 0))

-- ---- WRITTEN AGAIN

module _ (direction : ℕ) (s buffer : List ℕ) (bytes : Bytes s) (z : read_call direction s (length buffer) ≡ 0) where
  it : Accepted direction s
  it = accepted direction s (taken direction s (length buffer) z).read

  alone : frame_refusal (heard direction s) ≡ 0
  alone = heard-alone direction s it.frames

  exact : length (heard direction s) ≡ total_of (heard direction s)
  exact = heard_exact direction s it.frames

  part_bytes : Bytes (heard direction s)
  part_bytes = heard-bytes direction s it.frames (subst Bytes (sym (framed_is s it.frames)) (bytes-first (total_of s) s bytes))

  -- what the record's buffer holds: the record, and after it what stood there
  pub record_stored : read_record direction s buffer ≡ record_of (heard direction s) ++ drop (length (record_of (heard direction s))) buffer
  unfolding read_record
  record_stored = rw (eq-eqb (read_call direction s (length buffer)) 0 z) (front buffer (record_of (heard direction s)))

  record_size_lem : length (record_of (heard direction s)) ≡ record_size_of (type_of (heard direction s))
  record_size_lem = recorded_exactly (heard direction s) part_bytes (whole (heard direction s) alone) exact it.owns

  type_kept : get_or (read_record direction s buffer) 0 0 ≡ type_of (heard direction s)
  type_kept =
      ap (λ (l : List ℕ). get_or l 0 0) record_stored
      ∙ type_first (heard direction s) part_bytes (whole (heard direction s) alone) exact it.owns (drop (length (record_of (heard direction s))) buffer)

  long : record_size_of (get_or (read_record direction s buffer) 0 0) ≤ length (read_record direction s buffer)
  unfolding read_record
  long =
      let r : record_size_of (type_of (heard direction s)) ≤ length buffer = (taken direction s (length buffer) z).roomy in
      let n : length (patched buffer 0 (record_of (heard direction s))) ≡ length buffer = patched-length buffer 0 (record_of (heard direction s)) (omega (arith, record_size_lem, r)) in
      let k : length (read_record direction s buffer) ≡ length buffer = rw (eq-eqb (read_call direction s (length buffer)) 0 z) n in
      let e : record_size_of (get_or (read_record direction s buffer) 0 0) ≡ record_size_of (type_of (heard direction s)) = ap record_size_of type_kept in
      omega (arith, r, k, e)

  -- the writer takes the record, if it has room for the message
  pub taken-again : (room : ℕ) → length (framed s) ≤ room → write_call direction (read_record direction s buffer) room ≡ 0
  taken-again room h =
      own_write_lem direction (read_record direction s buffer) [] (not-empty (read_record direction s buffer) long) (ap (carries direction) type_kept ∙ it.carried) long room
      ∙ ap (λ (l : List ℕ). own_write l room) record_stored
      ∙ own_taken (heard direction s) part_bytes (whole (heard direction s) alone) exact it.owns (drop (length (record_of (heard direction s))) buffer) room (omega (arith, h, heard_long direction s it.frames))

  -- WRITTEN AGAIN: into any buffer that has room, it writes the bytes that were read, and leaves the rest of the buffer as it was
  pub written_again : (out : List ℕ) → length (framed s) ≤ length out → write_out direction (read_record direction s buffer) out ≡ patched out 0 (framed s)
  unfolding write_out
  written_again out h =
      rw (eq-eqb (write_call direction (read_record direction s buffer) (length out)) 0 (taken-again (length out) h))
      (ap (patched out 0)
      (ap message_of record_stored ∙ own_written (heard direction s) part_bytes (whole (heard direction s) alone) exact it.owns (drop (length (record_of (heard direction s))) buffer) ∙ wired_again direction s it.frames it.carried))

-- ---- a record that the writer takes

pub record Given (direction : ℕ) (s : List ℕ) (room : ℕ) : Type 0 where
  pub long : record_size_of (get_or s 0 0) ≤ length s
  pub carried : carries direction (get_or s 0 0) ≡ true
  pub owns : own_write s room ≡ 0

pub given : (direction : ℕ) (s : List ℕ) (room : ℕ) → write_call direction s room ≡ 0 → Given direction s room
unfolding write_call
given direction s room z = by (eqb (length s) 0) (carries direction (get_or s 0 0)) refl (ltb (length s) (record_size_of (get_or s 0 0))) refl z
  where
    by : (e k : Bool) → carries direction (get_or s 0 0) ≡ k → (b : Bool) → ltb (length s) (record_size_of (get_or s 0 0)) ≡ b
        → cond e 13 (cond (not k) 4 (cond b 13 (own_write s room))) ≡ 0 → Given direction s room
    by false true q false p y = record { long = ltb-false (length s) (record_size_of (get_or s 0 0)) p; carried = q; owns = y }
    by false true q true p y = absurd (omega (arith, y))
    by false false q b p y = absurd (omega (arith, y))
    by true k q b p y = absurd (omega (arith, y))

-- what its message is, with any bytes after it, and what is heard of it
pub record Message (direction : ℕ) (s t : List ℕ) : Type 0 where
  pub frames : frame_refusal (message_of s ++ t) ≡ 0
  pub framed_is_it : framed (message_of s ++ t) ≡ message_of s
  pub type_is : type_of (heard direction (message_of s ++ t)) ≡ get_or s 0 0
  pub reads : own_refusal (heard direction (message_of s ++ t)) ≡ 0
  pub record_is : record_of (heard direction (message_of s ++ t)) ≡ held_in s

module _ (direction : ℕ) (s : List ℕ) (bytes : Bytes s) (room : ℕ) (h : record_size_of (get_or s 0 0) ≤ length s) (carried : carries direction (get_or s 0 0) ≡ true) (t : List ℕ) where
  -- of a message m under its record's type, which stands on the wire as w
  of_heard : (m w : List ℕ) → message_of s ≡ w → w ≡ on_wire m → frame_refusal (m ++ t) ≡ 0 → framed (m ++ t) ≡ m → type_of m ≡ get_or s 0 0 → own_refusal m ≡ 0 → record_of m ≡ held_in s → Message direction s t
  unfolding total_of
  of_heard m w e f frames framed_is_it type reads held =
      let l : 5 ≤ length m = omega (arith, ap length framed_is_it, framed-length (m ++ t) frames, (whole (m ++ t) frames).least) in
      let c : carries direction (type_of m) ≡ true = ap (carries direction) type ∙ carried in
      let q : heard direction (message_of s ++ t) ≡ m = ap (λ (x : List ℕ). heard direction (x ++ t)) (e ∙ f) ∙ heard-again direction m t l c frames framed_is_it in
      record {
        frames = ap (λ (x : List ℕ). frame_refusal (x ++ t)) (e ∙ f) ∙ wired_frames direction m t l c frames framed_is_it;
        framed_is_it = ap (λ (x : List ℕ). framed (x ++ t)) (e ∙ f) ∙ wired_framed direction m t l c frames framed_is_it ∙ sym (e ∙ f);
        type_is = ap (λ (x : List ℕ). type_of x) q ∙ type;
        reads = ap own_refusal q ∙ reads;
        record_is = ap record_of q ∙ held;
      }

  session_sound : session_record_size ≤ length s → session_trip.Sound (session_at s)
  unfolding session_at
  session_sound k = record { body-length = let d : length (drop 6 s) ≡ length s - 6 = length-drop 6 s in length-take-le 433 (drop 6 s) (omega arith) }

  session_message : is_session (get_or s 0 0) ≡ true → sessions.record_refusal (session_at s) room ≡ 0 → Message direction s t
  unfolding message_of own_refusal record_of held_in session_at total_of
  session_message b z =
      let r = session_at s in
      let size = session_size_lem (get_or s 0 0) b in
      let k : session_record_size ≤ length s = omega (arith, h, size) in
      let sound = session_sound k in
      let again = session_trip.read_again r room sound z in
      let m = sessions.session_bytes r in
      let e : message_of s ≡ m = rw b in
      let type : type_of m ≡ get_or s 0 0 = ap (λ (x : session_records.Record). x.message) again in
      let kind : is_session (type_of m) ≡ true = ap is_session type ∙ b in
      let f = session_trip.framed-after r room sound z t in
      let g = session_trip.framed_as_written r room sound z t in
      let l : 10 ≤ length m = omega (arith, ap length g, framed-length (m ++ t) f, (whole (m ++ t) f).least) in
      of_heard m m e (sym (session_wired m l kind)) f g type (rw kind (session_trip.read_accepts r room sound z)) (rw (b, size) (ap session_record_bytes again ∙ session_bytes-again s bytes k))

  order_message : is_session (get_or s 0 0) ≡ false → orders.write_refusal (record_at s) room ≡ 0 → Message direction s t
  unfolding message_of own_refusal record_of held_in orders.record_of record_at
  order_message b z =
      let r = record_at s in
      let size = order_size (get_or s 0 0) b in
      let k : record_size ≤ length s = omega (arith, h, size) in
      let sound = at_sound s bytes k in
      let again = order_trip.read_again r room sound z in
      let m = orders.order_bytes r in
      let e : message_of s ≡ on_wire m = rw b in
      let type : type_of m ≡ get_or s 0 0 = ap (λ (x : order_records.Record). x.message) again in
      let kind : is_session (type_of m) ≡ false = ap is_session type ∙ b in
      of_heard m (on_wire m) e refl (order_trip.framed-after r room sound z t) (order_trip.framed_as_written r room sound z t) type (rw kind (order_trip.read_accepts r room sound z)) (rw (kind, size) (ap record_bytes again ∙ bytes-again s bytes k))

  its_message : own_write s room ≡ 0 → Message direction s t
  unfolding own_write
  its_message z = by (is_session (get_or s 0 0)) refl z
    where
      by : (b : Bool) → is_session (get_or s 0 0) ≡ b → cond b (sessions.record_refusal (session_at s) room) (orders.write_refusal (record_at s) room) ≡ 0 → Message direction s t
      by true q y = session_message q y
      by false q y = order_message q y

-- ---- READ AGAIN

module _ (direction : ℕ) (s out : List ℕ) (bytes : Bytes s) (z : write_call direction s (length out) ≡ 0) where
  -- any bytes after it play no part: the message is accepted, and its record is the one that was written
  pub accepted_after : (t : List ℕ) → read_refusal direction (message_of s ++ t) ≡ 0
  accepted_after t =
      let g = given direction s (length out) z in
      let m = its_message direction s bytes (length out) g.long g.carried t g.owns in
      own_refusal_lem direction (message_of s ++ t) [] m.frames (ap (carries direction) m.type_is ∙ g.carried) ∙ m.reads

  pub read_after : (t buffer : List ℕ) → record_size_of (get_or s 0 0) ≤ length buffer
      → (read_call direction (message_of s ++ t) (length buffer) ≡ 0) × (read_record direction (message_of s ++ t) buffer ≡ patched buffer 0 (held_in s))
  unfolding read_record
  read_after t buffer h =
      let g = given direction s (length out) z in
      let m = its_message direction s bytes (length out) g.long g.carried t g.owns in
      let size : record_size_of (type_of (heard direction (message_of s ++ t))) ≡ record_size_of (get_or s 0 0) = ap record_size_of m.type_is in
      let q : read_call direction (message_of s ++ t) (length buffer) ≡ 0 = own_size_suffices direction (message_of s ++ t) (length buffer) (omega (arith, h, size)) ∙ accepted_after t in
      (q, rw (eq-eqb (read_call direction (message_of s ++ t) (length buffer)) 0 q) (ap (patched buffer 0) m.record_is))

  -- what the output buffer holds: the message, and after it what stood there
  pub message_stored : write_out direction s out ≡ message_of s ++ drop (length (message_of s)) out
  unfolding write_out
  message_stored = rw (eq-eqb (write_call direction s (length out)) 0 z) (front out (message_of s))

  -- READ AGAIN: the output buffer, whatever it held, is read as the record
  pub read_again : (buffer : List ℕ) → record_size_of (get_or s 0 0) ≤ length buffer
      → (read_call direction (write_out direction s out) (length buffer) ≡ 0) × (read_record direction (write_out direction s out) buffer ≡ patched buffer 0 (held_in s))
  read_again buffer h =
      let r = read_after (drop (length (message_of s)) out) buffer h in (
        ap (λ (x : List ℕ). read_call direction x (length buffer)) message_stored ∙ r.0,
        ap (λ (x : List ℕ). read_record direction x buffer) message_stored ∙ r.1,
      )

-- ---- BYTES AFTER A RECORD PLAY NO PART: cut at its type's size, it is judged alike and gives the same message

module _ (s : List ℕ) (bytes : Bytes s) (h : record_size_of (get_or s 0 0) ≤ length s) where
  type_cut : get_or (held_in s) 0 0 ≡ get_or s 0 0
  unfolding held_in
  type_cut = get_or-take (record_size_of (get_or s 0 0)) s 0 0 (size-not_zero (get_or s 0 0))

  cut_long : record_size_of (get_or (held_in s) 0 0) ≤ length (held_in s)
  unfolding held_in
  cut_long =
      let e : record_size_of (get_or (held_in s) 0 0) ≡ record_size_of (get_or s 0 0) = ap record_size_of type_cut in
      let n : length (held_in s) ≡ record_size_of (get_or s 0 0) = length-take-le (record_size_of (get_or s 0 0)) s h in
      omega (arith, e, n)

  session_cut : is_session (get_or s 0 0) ≡ true → session_at (held_in s) ≡ session_at s
  unfolding held_in session_at
  session_cut b =
      let size = session_size_lem (get_or s 0 0) b in
      let k : session_record_size ≤ length s = omega (arith, h, size) in
      let d : length (drop 6 s) ≡ length s - 6 = length-drop 6 s in
      let e : held_in s ≡ session_record_bytes (session_at s) ++ [] = rw size (sym (append-nil (session_record_bytes (session_at s)) ∙ session_bytes-again s bytes k)) in
      ap session_at e ∙ session_again (session_at s) (length-take-le 433 (drop 6 s) (omega (arith, k, d))) (number_fits 4 2 s bytes) []

  order_cut : is_session (get_or s 0 0) ≡ false → record_at (held_in s) ≡ record_at s
  unfolding held_in
  order_cut b =
      let size = order_size (get_or s 0 0) b in
      let k : record_size ≤ length s = omega (arith, h, size) in
      let e : held_in s ≡ record_bytes (record_at s) ++ [] = rw size (sym (append-nil (record_bytes (record_at s)) ∙ bytes-again s bytes k)) in
      ap record_at e ∙ record_again (record_at s) (at_sound s bytes k) []

  -- whatever is made of the record that the bytes are
  alike : {A : Type 0} (f : session_records.Record → A) (g : order_records.Record → A)
      → cond (is_session (get_or (held_in s) 0 0)) (f (session_at (held_in s))) (g (record_at (held_in s))) ≡ cond (is_session (get_or s 0 0)) (f (session_at s)) (g (record_at s))
  alike f g =
      ap (λ (x : ℕ). cond (is_session x) (f (session_at (held_in s))) (g (record_at (held_in s)))) type_cut
      ∙ by (is_session (get_or s 0 0)) refl
    where
      by : (b : Bool) → is_session (get_or s 0 0) ≡ b → cond b (f (session_at (held_in s))) (g (record_at (held_in s))) ≡ cond b (f (session_at s)) (g (record_at s))
      by true q = ap f (session_cut q)
      by false q = ap g (order_cut q)

  message_cut : message_of (held_in s) ≡ message_of s
  unfolding message_of
  message_cut = alike sessions.session_bytes (λ (r : order_records.Record). on_wire (orders.order_bytes r))

  module _ (direction : ℕ) where
    whole_record : (l : List ℕ) → record_size_of (get_or l 0 0) ≤ length l → (room : ℕ) → write_call direction l room ≡ cond (not (carries direction (get_or l 0 0))) 4 (own_write l room)
    unfolding write_call
    whole_record l k room = rw (ne_eqb (length l) 0 (not-empty l k), le-ltb (length l) (record_size_of (get_or l 0 0)) k)

    pub judged_alike : (room : ℕ) → write_call direction (held_in s) room ≡ write_call direction s room
    unfolding own_write
    judged_alike room =
        whole_record (held_in s) cut_long room
        ∙ ap₂ (λ (x n : ℕ). cond (not (carries direction x)) 4 n) type_cut (alike (λ (r : session_records.Record). sessions.record_refusal r room) (λ (r : order_records.Record). orders.write_refusal r room))
        ∙ sym (whole_record s h room)

    pub written_alike : (out : List ℕ) → write_out direction (held_in s) out ≡ write_out direction s out
    unfolding write_out
    written_alike out = ap₂ (λ (n : ℕ) (m : List ℕ). cond (eqb n 0) (patched out 0 m) out) (judged_alike (length out)) message_cut
