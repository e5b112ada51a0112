-- Nothing is refused that should pass, of the six session messages: every message that is the bytes of a value in order is taken both ways.
--     a_request_is_taken, a_response_is_taken, a_logout_is_taken    a fixed part whose values are good, and any pairs and groups in order after it
--     a_header_is_taken                                             both heartbeats and Replay Complete
--     blank_values_are_good                                         and there are good fixed parts: blank ones
-- Assumes nothing.
use Rattle.std.specs.Prelude.{◌≡◌, refl, true, List, [], ◌∷◌, ◌++◌, ℕ, ◌+◌, ◌≤◌, ◌<◌, eqb, length, get_or}
use Rattle.std.proofs.Common.{sym, ap, ◌∙◌, subst, arith, length-append, take_at, eqb-true}
use Rattle.numbers.specs.Numbers.{bytes_of, patched}
use Rattle.wire.specs.Header.{header_bytes, length_of, type_of, total_of}
use Rattle.wire.specs.HeaderLaws.{Bytes, header-length, header_number, header_total}
use Rattle.wire.specs.Frame.{frame_refusal, framed}
use Rattle.wire.proofs.FrameLaws.{accepted, framed_is}
use Rattle.block.specs.Slots.{zeros}
use Rattle.block.specs.SlotLaws.{both_true}
use Rattle.orders.proofs.OrderLaws.{either}
use Rattle.session_groups.specs.Values.{Pair, pairs_bytes, PairsInOrder, Group, groups_bytes, GroupsInOrder}
use Rattle.session_messages.specs.Sessions as sessions
use Rattle.session_messages.proofs.SessionLaws.{header-alone}
use Rattle.session_messages.proofs.SessionMeaning.{a_value_is_a_request, a_value_is_a_response, a_value_is_a_logout}
use Rattle.session_messages.proofs.SessionTrip as session_trip
use Rattle.session_messages.specs.Sizes.{session_record_size}
use Rattle.messages.specs.Messages.{is_session, carries, heard, own_refusal, read_refusal, read_call}
use Rattle.messages.proofs.MessageLaws.{size_at-most, own_refusal_lem, own_size_suffices}
use Rattle.messages.proofs.Heard.{session_wired, heard-again}
use Rattle.messages.proofs.RoundTrip.{taken-again, written_again}
use Rattle.messages.specs.ByteLaws.{bytes-front, bytes_append, number_bytes}
use Rattle.messages.specs.Taken.{TakenAsSaid, said, header_of}

module _ (direction message : ℕ) (b : List ℕ) (carried : carries direction message ≡ true) (session : is_session message ≡ true) (small : message < 256) (bytes : Bytes b)
    (z : sessions.read_refusal (said message b) ≡ 0) where
  body_small : length b ≤ 433
  body_small = session_trip.body_small (said message b) z

  frames : (t : List ℕ) → frame_refusal (said message b ++ t) ≡ 0
  frames t =
      let l : length_of (said message b ++ t) ≡ 8 + length b = header-length (8 + length b) message 0 0 (b ++ t) (omega (arith, body_small)) in
      let n : total_of (said message b ++ t) ≡ 8 + length b + 2 = header_total (8 + length b) message 0 0 (b ++ t) (omega (arith, body_small)) in
      accepted (said message b ++ t)
      (record { ba0 = refl; ba1 = refl; least = omega arith; most = omega (arith, body_small); fits = omega (arith, n, length-append b t) })

  framed_as_said : (t : List ℕ) → framed (said message b ++ t) ≡ said message b
  framed_as_said t =
      let n : total_of (said message b ++ t) ≡ 8 + length b + 2 = header_total (8 + length b) message 0 0 (b ++ t) (omega (arith, body_small)) in
      framed_is (said message b ++ t) (frames t) ∙ take_at (said message b) t (total_of (said message b ++ t)) (omega arith)

  own_said : own_refusal (said message b) ≡ 0
  unfolding own_refusal
  own_said = rw session z

  heard_as_said : (t : List ℕ) → heard direction (said message b ++ t) ≡ said message b
  heard_as_said t =
      ap (λ (x : List ℕ). heard direction (x ++ t)) (sym (session_wired (said message b) (omega arith) session))
      ∙ heard-again direction (said message b) t (omega arith) carried (frames t) (framed_as_said t)

  is_read : (t : List ℕ) → read_refusal direction (said message b ++ t) ≡ 0
  is_read t =
      own_refusal_lem direction (said message b ++ t) [] (frames t) (ap (λ (x : List ℕ). carries direction (type_of x)) (heard_as_said t) ∙ carried)
      ∙ ap own_refusal (heard_as_said t)
      ∙ own_said

  is_taken : (t buffer : List ℕ) → session_record_size ≤ length buffer → read_call direction (said message b ++ t) (length buffer) ≡ 0
  is_taken t buffer h =
      own_size_suffices direction (said message b ++ t) (length buffer) (omega (arith, size_at-most (type_of (heard direction (said message b ++ t))), h)) ∙ is_read t

  all_bytes : (t : List ℕ) → Bytes t → Bytes (said message b ++ t)
  all_bytes t k =
      bytes_append (said message b) t
      (bytes_append (header_bytes (8 + length b) message 0 0) b
      (bytes-front 186 (186 ∷ bytes_of 2 (8 + length b) ++ (message ∷ 0 ∷ bytes_of 4 0)) (omega arith)
      (bytes-front 186 (bytes_of 2 (8 + length b) ++ (message ∷ 0 ∷ bytes_of 4 0)) (omega arith)
      (bytes_append (bytes_of 2 (8 + length b)) (message ∷ 0 ∷ bytes_of 4 0) (number_bytes 2 (8 + length b))
      (bytes-front message (0 ∷ bytes_of 4 0) small (bytes-front 0 (bytes_of 4 0) (omega arith) (number_bytes 4 0))))))
      bytes)
      k

  is_taken_as_said : TakenAsSaid direction (said message b)
  is_taken_as_said = record {
    read = is_taken;
    written = λ t buffer out k h room. taken-again direction (said message b ++ t) buffer (all_bytes t k) (is_taken t buffer h) (length out) (rw (framed_as_said t) room);
    same = λ t buffer out k h room.
        written_again direction (said message b ++ t) buffer (all_bytes t k) (is_taken t buffer h) out (rw (framed_as_said t) room)
        ∙ ap (patched out 0) (framed_as_said t);
  }

-- A REQUEST IS TAKEN, in a direction that has it: a Login Request of 19 bytes, the count of groups last, and any groups in order
pub a_request_is_taken : (direction : ℕ) → carries direction 0x37 ≡ true → (p : List ℕ) (gs : List Group) → Bytes (p ++ groups_bytes gs) → length p ≡ 19 → sessions.values_good 0x37 p ≡ true → get_or p 18 0 ≡ length gs
    → GroupsInOrder gs → TakenAsSaid direction (said 0x37 (p ++ groups_bytes gs))
a_request_is_taken direction carried p gs bytes n v c o =
    is_taken_as_said direction 0x37 (p ++ groups_bytes gs) carried refl (omega arith) bytes (a_value_is_a_request (8 + length (p ++ groups_bytes gs)) p gs n v c o)

-- A RESPONSE IS TAKEN: a Login Response of 67 bytes with flag 0 or 1, the count of pairs last, any pairs in order, a count of groups and any groups in order
pub a_response_is_taken : (p : List ℕ) (ps : List Pair) (gs : List Group) → Bytes (p ++ (pairs_bytes ps ++ (length gs ∷ groups_bytes gs))) → length p ≡ 67 → sessions.values_good 0x24 p ≡ true → get_or p 61 0 < 2
    → get_or p 66 0 ≡ length ps → PairsInOrder ps → GroupsInOrder gs → TakenAsSaid 1 (said 0x24 (p ++ (pairs_bytes ps ++ (length gs ∷ groups_bytes gs))))
unfolding carries
a_response_is_taken p ps gs bytes n v f c o q =
    is_taken_as_said 1 0x24 (p ++ (pairs_bytes ps ++ (length gs ∷ groups_bytes gs))) refl refl (omega arith) bytes
    (a_value_is_a_response (8 + length (p ++ (pairs_bytes ps ++ (length gs ∷ groups_bytes gs)))) p ps gs n v f c o q)

-- A LOGOUT IS TAKEN: a Logout of 66 bytes, the count of pairs last, and any pairs in order
pub a_logout_is_taken : (p : List ℕ) (ps : List Pair) → Bytes (p ++ pairs_bytes ps) → length p ≡ 66 → sessions.values_good 0x08 p ≡ true → get_or p 65 0 ≡ length ps → PairsInOrder ps
    → TakenAsSaid 1 (said 0x08 (p ++ pairs_bytes ps))
unfolding carries
a_logout_is_taken p ps bytes n v c o =
    is_taken_as_said 1 0x08 (p ++ pairs_bytes ps) refl refl (omega arith) bytes (a_value_is_a_logout (8 + length (p ++ pairs_bytes ps)) p ps n v c o)

no_bytes : Bytes []
no_bytes i = omega arith

-- A HEADER IS TAKEN: Client Heartbeat, Server Heartbeat, Replay Complete
pub a_header_is_taken : (direction message : ℕ) → header_of direction message ≡ true → TakenAsSaid direction (said message [])
unfolding sessions.fixed_size
a_header_is_taken direction message o =
    let p = both_true (carries direction message) _ o in
    either (eqb message 0x03) (at 0x03 refl (omega arith) refl p.0)
    (either (eqb message 0x09) (at 0x09 refl (omega arith) refl p.0)
    (at 0x13 refl (omega arith) refl p.0)) p.1
  where
    alone : (x : ℕ) → is_session x ≡ true → x < 256 → sessions.fixed_size x ≡ 0 → carries direction x ≡ true → TakenAsSaid direction (said x [])
    alone x s h f c = is_taken_as_said direction x [] c s h no_bytes (header-alone (said x []) s refl (header_number 8 x 0 0 [] (omega arith)) f)

    at : (x : ℕ) → is_session x ≡ true → x < 256 → sessions.fixed_size x ≡ 0 → carries direction message ≡ true → eqb message x ≡ true → TakenAsSaid direction (said message [])
    at x s h f c e =
        let k : message ≡ x = eqb-true message x e in
        subst (λ (i : ℕ). TakenAsSaid direction (said i [])) (sym k) (alone x s h f (ap (carries direction) (sym k) ∙ c))

-- not empty: blank values are good, and blank fixed parts count no pairs and no groups
pub blank_values_are_good : (sessions.values_good 0x37 (zeros 19) ≡ true) × ((sessions.values_good 0x24 (zeros 67) ≡ true) × (sessions.values_good 0x08 (zeros 66) ≡ true))
unfolding sessions.values_good
blank_values_are_good = (refl, (refl, refl))
