-- NUMBERS STAY: the numbers of refusal and their order are as they were before the places, with what document 02's first request adds to them.
-- Assumes nothing.
use Rattle.std.specs.Prelude.{◌≡◌, refl, Bool, true, false, cond, not, ◌&&◌, ◌||◌, List, ℕ, ◌+◌, ◌<◌, eqb, leb, ltb, length, get_or, drop}
use Rattle.std.proofs.Common.{sym, ◌∙◌, true≢false, arith, ne_eqb}
use Rattle.refusals.specs.Told.{told, number_in}
use Rattle.refusals.specs.ToldLaws.{number_of-told, number_alone, told_refuses}
use Rattle.kinds.specs.Kinds.{all_nul}
use Rattle.wire.specs.Header.{type_of, unit_of, number_of}
use Rattle.wire.specs.Frame.{starts_bad, length_bad, cut_short, frame_refusal, framed}
use Rattle.block.specs.Slots.{takes, sum, any_bad, agree_sent, agree_held}
use Rattle.block.specs.Places.{slots_of, has_required}
use Rattle.orders.specs.Shapes.{of_member, sequenced, of_venue, count_at, most_of, unit_good, fixed_good}
use Rattle.orders.specs.Middle.{middle_size, middle_good}
use Rattle.orders.specs.Late.{lacks, conflicts, late_refusal}
use Rattle.orders.specs.Orders as orders
use Rattle.orders.specs.declared.Record.{Record}
use Rattle.order_records.specs.Records.{record_at}
use Rattle.session_messages.specs.Sessions as sessions
use Rattle.messages.specs.Messages.{heard, is_session, carries, record_size_of, session_at, own_refusal, read_refusal, read_call, own_write, write_call}
use Rattle.book.specs.Books.{message_refusal}
use Rattle.places.specs.Chains.{head_number, block_number, late_number, order_number, order_write_number, session_number, session_write_number, read_number, read_call_number, write_call_number, book_number}

-- a refusal and the number that it was: its number is that one, and it is none where that is none
pub record Was (refusal number : ℕ) : Type 0 where
  pub is : number_in refusal ≡ number
  pub none : eqb refusal 0 ≡ eqb number 0

-- a number alone, and one with a place
alone : (n : ℕ) → n < 256 → Was n n
alone n h = record { is = number_alone n h; none = refl }

placed : (n p : ℕ) → 0 < n → n < 256 → Was (told n p) n
placed n p h l = record { is = number_of-told n p l; none = told_refuses n p h ∙ sym (ne_eqb n 0 (λ z. omega (arith, h, z))) }

-- one refusal before others
either : (b : Bool) {x y x' y' : ℕ} → Was x x' → Was y y' → Was (cond b x y) (cond b x' y')
either true p q = p
either false p q = q

-- one stage before another
then : {h x h' x' : ℕ} → Was h h' → Was x x' → Was (cond (eqb h 0) x h) (cond (eqb h' 0) x' h')
then {h} {x} {h'} {x'} p q = by (eqb h 0) (eqb h' 0) p.none
  where
    by : (a b : Bool) → a ≡ b → Was (cond a x h) (cond b x' h')
    by true true e = q
    by false false e = p
    by true false e = absurd (true≢false e)
    by false true e = absurd (true≢false (sym e))

-- 10 in three, which is one
ten : (a b c : Bool) (p q s : ℕ) {x x' : ℕ} → Was x x' → Was (cond (not a) (told 10 p) (cond (not b) (told 10 q) (cond (not c) (told 10 s) x))) (cond (not (a && (b && c))) 10 x')
ten true true true p q s w = w
ten true true false p q s w = placed 10 s (omega arith) (omega arith)
ten true false c p q s w = placed 10 q (omega arith) (omega arith)
ten false b c p q s w = placed 10 p (omega arith) (omega arith)

-- the late stage of writing, before others
late : (a b : Bool) (p : ℕ) {x x' : ℕ} → Was x x' → Was (cond (not (eqb (cond a (told 9 p) (cond b 23 0)) 0)) (cond a (told 9 p) (cond b 23 0)) x) (cond a 9 (cond b 23 x'))
late true b p w = rw (told_refuses 9 p (omega arith)) (placed 9 p (omega arith) (omega arith))
late false true p w = alone 23 (omega arith)
late false false p w = w

-- ---- messages with bitfields

head_was : (m : List ℕ) → Was (orders.head_refusal m) (head_number m)
unfolding orders.head_refusal head_number
head_was m =
    either (not (of_member (type_of m) || of_venue (type_of m))) (alone 4 (omega arith))
    (either (not (unit_good (type_of m) (unit_of m) (number_of m))) (alone 5 (omega arith))
    (either (leb (length m) (count_at (type_of m))) (placed 6 _ (omega arith) (omega arith))
    (either (ltb (most_of (type_of m)) (orders.count_of m)) (placed 7 _ (omega arith) (omega arith))
    (either (ltb (length m) (count_at (type_of m) + 1 + orders.count_of m)) (placed 6 _ (omega arith) (omega arith)) (alone 0 (omega arith))))))

block_was : (total message count : ℕ) (bits fixed rest : List ℕ) → Was (orders.block_refusal total message count bits fixed rest) (block_number message count bits fixed rest)
unfolding orders.block_refusal block_number
block_was total message count bits fixed rest =
    either (any_bad (slots_of message count bits)) (placed 8 _ (omega arith) (omega arith))
    (either (not (has_required message count bits)) (placed 9 _ (omega arith) (omega arith))
    (either (not (eqb (middle_size message count bits rest + sum takes (slots_of message count bits)) (length rest))) (placed 6 _ (omega arith) (omega arith))
    (ten (fixed_good message fixed) (middle_good message count bits rest) (agree_sent (slots_of message count bits) (drop (middle_size message count bits rest) rest)) _ _ _ (alone 0 (omega arith)))))

late_was : (message count : ℕ) (bits slots : List ℕ) → Was (late_refusal message count bits slots) (late_number message count bits slots)
unfolding late_refusal late_number
late_was message count bits slots =
    either (lacks message count bits slots) (placed 9 _ (omega arith) (omega arith))
    (either (conflicts message count bits slots) (alone 23 (omega arith)) (alone 0 (omega arith)))

order_was : (m : List ℕ) → Was (orders.read_refusal m) (order_number m)
unfolding orders.read_refusal orders.body_refusal orders.optional_of order_number
order_was m =
    then (head_was m)
    (then (block_was _ (type_of m) (orders.count_of m) (orders.bits_of m) (orders.fixed_of m) (orders.rest_of m))
    (late_was (type_of m) (orders.count_of m) (orders.bits_of m) (orders.layout_of (type_of m) (orders.count_of m) (orders.bits_of m) (orders.optional_of m))))

order_write_was : (r : Record) (room : ℕ) → Was (orders.write_refusal r room) (order_write_number r room)
unfolding orders.write_refusal order_write_number late_refusal
order_write_was r room =
    either (not (of_member r.message || of_venue r.message)) (alone 4 (omega arith))
    (either (not (unit_good r.message r.unit r.number)) (alone 5 (omega arith))
    (either (ltb (most_of r.message) r.count) (placed 7 _ (omega arith) (omega arith))
    (either (any_bad (orders.write_slots r)) (placed 8 _ (omega arith) (omega arith))
    (either (not (has_required r.message r.count r.bits)) (placed 9 _ (omega arith) (omega arith))
    (ten (fixed_good r.message r.fixed) (middle_good r.message r.count r.bits (orders.write_rest r)) (agree_held (orders.write_slots r) r.slots) _ _ _
    (late (lacks r.message r.count r.bits r.slots) (conflicts r.message r.count r.bits r.slots) _
    (either (not (orders.zero_unused r)) (alone 12 (omega arith))
    (either (ltb room (orders.size_of r)) (alone 13 (omega arith)) (alone 0 (omega arith))))))))))

-- ---- session messages

session_was : (m : List ℕ) → Was (sessions.read_refusal m) (session_number m)
unfolding sessions.read_refusal session_number
session_was m =
    either (not (sessions.of_member (type_of m) || sessions.of_venue (type_of m))) (alone 4 (omega arith))
    (either (not (sessions.unit_good (unit_of m) (number_of m))) (alone 5 (omega arith))
    (either (ltb (length m) (10 + sessions.fixed_size (type_of m))) (placed 6 _ (omega arith) (omega arith))
    (either (not (sessions.values_good (type_of m) (drop 10 m))) (placed 10 _ (omega arith) (omega arith))
    (either (eqb (sessions.body_end (type_of m) (drop 10 m)) 0) (alone 11 (omega arith))
    (either (not (eqb (sessions.body_end (type_of m) (drop 10 m)) (length (drop 10 m) + 1))) (placed 6 _ (omega arith) (omega arith)) (alone 0 (omega arith)))))))

session_write_was : (message unit number : ℕ) (b : List ℕ) (room : ℕ) → Was (sessions.write_refusal message unit number b room) (session_write_number message unit number b room)
unfolding sessions.write_refusal session_write_number
session_write_was message unit number b room =
    either (not (sessions.of_member message || sessions.of_venue message)) (alone 4 (omega arith))
    (either (not (sessions.unit_good unit number)) (alone 5 (omega arith))
    (either (ltb (length b) (sessions.fixed_size message)) (alone 11 (omega arith))
    (either (not (sessions.values_good message b)) (placed 10 _ (omega arith) (omega arith))
    (either (eqb (sessions.body_end message b) 0) (alone 11 (omega arith))
    (either (not (all_nul (drop (sessions.size_of message b) b))) (either (eqb (sessions.fixed_size message) 0) (alone 12 (omega arith)) (alone 11 (omega arith)))
    (either (ltb room (10 + sessions.size_of message b)) (alone 13 (omega arith)) (alone 0 (omega arith))))))))

-- ---- the calls

frame_was : (s : List ℕ) → Was (frame_refusal s) (frame_refusal s)
unfolding frame_refusal
frame_was s = either (starts_bad s) (alone 1 (omega arith)) (either (length_bad s) (alone 2 (omega arith)) (either (cut_short s) (alone 3 (omega arith)) (alone 0 (omega arith))))

pub read_was : (direction : ℕ) (s : List ℕ) → Was (read_refusal direction s) (read_number direction s)
unfolding read_refusal read_number own_refusal
read_was direction s =
    then (frame_was s)
    (either (carries direction (type_of (heard direction s))) (either (is_session (type_of (heard direction s))) (session_was (heard direction s)) (order_was (heard direction s))) (alone 4 (omega arith)))

read_call_was : (direction : ℕ) (s : List ℕ) (room : ℕ) → Was (read_call direction s room) (read_call_number direction s room)
unfolding read_call read_call_number
read_call_was direction s room = then (read_was direction s) (either (ltb room (record_size_of (type_of (heard direction s)))) (alone 13 (omega arith)) (alone 0 (omega arith)))

write_call_was : (direction : ℕ) (s : List ℕ) (room : ℕ) → Was (write_call direction s room) (write_call_number direction s room)
unfolding write_call write_call_number own_write
write_call_was direction s room =
    either (eqb (length s) 0) (alone 13 (omega arith))
    (either (not (carries direction (get_or s 0 0))) (alone 4 (omega arith))
    (either (ltb (length s) (record_size_of (get_or s 0 0))) (alone 13 (omega arith))
    (either (is_session (get_or s 0 0))
    (session_write_was (session_at s).message (session_at s).unit (session_at s).number (session_at s).body room)
    (order_write_was (record_at s) room))))

book_was : (s : List ℕ) → Was (message_refusal s) (book_number s)
unfolding message_refusal book_number
book_was s = then (frame_was s) (either (sequenced (type_of (framed s))) (order_was (framed s)) (alone 4 (omega arith)))

-- NUMBERS STAY: of reading, of writing and of what a book takes, whatever the bytes, the record and the room. The session and the venue answer these
pub record NumbersStay (direction : ℕ) (s : List ℕ) (room : ℕ) : Type 0 where
  pub reading : number_in (read_call direction s room) ≡ read_call_number direction s room
  pub writing : number_in (write_call direction s room) ≡ write_call_number direction s room
  pub booking : number_in (message_refusal s) ≡ book_number s

pub numbers_stay : (direction : ℕ) (s : List ℕ) (room : ℕ) → NumbersStay direction s room
numbers_stay direction s room =
    record { reading = (read_call_was direction s room).is; writing = (write_call_was direction s room).is; booking = (book_was s).is }
