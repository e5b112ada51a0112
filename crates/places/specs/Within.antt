-- EACH PLACE LIES IN THE MESSAGE OR AT ITS END, and exactly 6 to 10 have one. Assumes nothing.
use Rattle.std.specs.Prelude.{◌⊎◌, ◌≡◌, refl, Bool, true, false, cond, not, ◌||◌, List, [], ◌∷◌, ℕ, ◌+◌, ◌/◌, ◌≤◌, ◌<◌, eqb, ltb, length, get_or, drop}
use Rattle.std.proofs.Common.{inl, inr, sym, ap, ◌∙◌, subst, append-nil, arith, ltb-true, eq-eqb, eqb-true}
use Rattle.refusals.specs.Names.{unknown_type, bad_unit, too_many_bitfields, unlisted_bit, not_selected, bad_value, bad_group, not_zero, no_room, conflict}
use Rattle.refusals.specs.Told.{told, number_in, place_in}
use Rattle.refusals.specs.ToldLaws.{number_of-told, place_of-told, number_alone, no_place, told_refuses}
use Rattle.kinds.specs.Kinds.{all_nul}
use Rattle.wire.specs.Header.{type_of, total_of}
use Rattle.wire.specs.Frame.{starts_bad, length_bad, cut_short, frame_refusal, framed}
use Rattle.wire.proofs.FrameLaws.{whole, framed-length, framed_accepted, framed-again}
use Rattle.dictionary.specs.declared.Entry.TheVariants.{Field}
use Rattle.block.specs.Slots.{slot, takes, sum, any_bad, bad_byte, agree_held, wrong_held}
use Rattle.block.specs.SlotLaws.{both_true, sum_append}
use Rattle.block.specs.Places.{selected_at, entry_at, slots_of, has_required}
use Rattle.block.specs.Sizes.{all_places}
use Rattle.block.proofs.FirstBad.{eight_names_the_first_bad_byte, held-within}
use Rattle.orders.specs.Shapes.{of_member, sequenced, of_venue, count_at, most_of, unit_good, fixed_good}
use Rattle.orders.specs.FixedFields.{fixed_wrong}
use Rattle.orders.proofs.FixedFieldLaws.{fixed-within}
use Rattle.orders.specs.Middle.{middle_good}
use Rattle.orders.specs.Late.{lacks, conflicts, late_refusal}
use Rattle.orders.proofs.OrderLaws.{count_bounds}
use Rattle.orders.specs.Orders as orders
use Rattle.orders.specs.declared.Record.{Record}
use Rattle.session_messages.specs.ValueFields.{values_wrong}
use Rattle.session_messages.proofs.ValueFieldLaws.{values-within}
use Rattle.session_messages.specs.Sessions as sessions
use Rattle.messages.specs.Messages.{is_session, carries, heard, own_refusal, read_refusal}
use Rattle.messages.proofs.Heard.{heard_long, heard_exact, heard_byte}
use Rattle.book.specs.Books.{message_refusal}
use Rattle.places.specs.Reading as reading

-- a refusal's place, of a message of so many bytes: 6 to 10 have one, from 10, where the header ends, to the message's length; all others have none
pub data Placed (size : ℕ) : ℕ → Type 0 where
  none : (refusal : ℕ) → place_in refusal ≡ 0 → (number_in refusal ≤ 5) ⊎ (11 ≤ number_in refusal) → Placed size refusal
  one : (refusal : ℕ) → 6 ≤ number_in refusal → number_in refusal ≤ 10 → 10 ≤ place_in refusal → place_in refusal ≤ size → Placed size refusal

-- a number without a place, under 6 or over 10
bare : (size n : ℕ) → n < 256 → (n ≤ 5) ⊎ (11 ≤ n) → Placed size n
bare size n h (inl l) = none n (no_place n h) (inl (omega (arith, number_alone n h, l)))
bare size n h (inr l) = none n (no_place n h) (inr (omega (arith, number_alone n h, l)))

-- and one with a place
with-place : (size n p : ℕ) → 6 ≤ n → n ≤ 10 → 10 ≤ p → p ≤ size → Placed size (told n p)
with-place size n p a b c d =
    let e = number_of-told n p (omega (arith, b)) in
    let f = place_of-told n p (omega (arith, b)) in
    one (told n p) (omega (arith, a, e)) (omega (arith, b, e)) (omega (arith, c, f)) (omega (arith, d, f))

-- a session message that has a fixed part has 19 bytes of it at least
fixed_long : (message : ℕ) → 0 < sessions.fixed_size message → 19 ≤ sessions.fixed_size message
unfolding sessions.fixed_size
fixed_long message = by (eqb message 0x37) (eqb message 0x24) (eqb message 0x08)
  where
    by : (x y z : Bool) → 0 < cond x 19 (cond y 67 (cond z 66 0)) → 19 ≤ cond x 19 (cond y 67 (cond z 66 0))
    by true y z h = omega arith
    by false true z h = omega arith
    by false false true h = omega arith
    by false false false h = absurd (omega (arith, h))

-- a selected place lies in the bitfields that are there
selected_there : (count : ℕ) (bits : List ℕ) (k : ℕ) → selected_at count bits k ≡ true → k / 8 < count
unfolding selected_at
selected_there count bits k h = ltb-true (k / 8) count (both_true (ltb (k / 8) count) _ h).0

module _ (m : List ℕ) (exact : length m ≡ total_of m) (long : 10 ≤ length m) where
  order_placed : (r : ℕ) → reading.Tells m r → Placed (length m) r
  order_placed r (reading.placeless n h) = bare (length m) n (omega (arith, h)) (inl h)
  order_placed r reading.six = with-place (length m) 6 (total_of m) (omega arith) (omega arith) (omega (arith, exact, long)) (omega (arith, exact))
  order_placed r (reading.seven h k) = with-place (length m) 7 (count_at (type_of m)) (omega arith) (omega arith) (omega (arith, (count_bounds (type_of m)).low)) (omega (arith, h))
  order_placed r (reading.eight h byte b) =
      let l = selected_there (orders.count_of m) (orders.bits_of m) b.place b.set in
      with-place (length m) 8 (count_at (type_of m) + byte) (omega arith) (omega arith) (omega (arith, (count_bounds (type_of m)).low)) (omega (arith, h, l, b.told))
  order_placed r (reading.nine h k) = with-place (length m) 9 (count_at (type_of m) + orders.count_of m) (omega arith) (omega arith) (omega (arith, (count_bounds (type_of m)).low)) (omega (arith, h))
  order_placed r (reading.ten_fixed h place f l k) = with-place (length m) 10 place (omega arith) (omega arith) l (omega (arith, h, k))
  order_placed r (reading.ten_middle h place n) = with-place (length m) 10 place (omega arith) (omega arith) (omega (arith, n.there, (count_bounds (type_of m)).low)) (omega (arith, h, n.there))
  order_placed r (reading.ten_optional h place n) =
      let ss = slots_of (type_of m) (orders.count_of m) (orders.bits_of m) in
      let s : sum takes ss ≡ sum takes n.field.earlier + sum takes (slot true (Field n.field.wide n.field.kind n.field.home) ∷ n.field.later) =
      ap (sum takes) n.field.split ∙ sum_append takes n.field.earlier (slot true (Field n.field.wide n.field.kind n.field.home) ∷ n.field.later) in
      with-place (length m) 10 place (omega arith) (omega arith) (omega (arith, n.there, (count_bounds (type_of m)).low)) (omega (arith, h, n.there, s))
  order_placed r (reading.nine_late g h) = with-place (length m) 9 (count_at (type_of m) + orders.count_of m) (omega arith) (omega arith) (omega (arith, (count_bounds (type_of m)).low)) (omega (arith, g.total))
  order_placed r (reading.twenty_three g h k) = bare (length m) 23 (omega arith) (inr (omega arith))

  session_placed : (r : ℕ) → reading.SessionTells m r → Placed (length m) r
  session_placed r (reading.SessionTells.placeless n h) = bare (length m) n (omega (arith, h)) (inl h)
  session_placed r reading.eleven = bare (length m) 11 (omega arith) (inr (omega arith))
  session_placed r reading.SessionTells.six = with-place (length m) 6 (total_of m) (omega arith) (omega arith) (omega (arith, exact, long)) (omega (arith, exact))
  session_placed r (reading.ten h k place f l q) = with-place (length m) 10 place (omega arith) (omega arith) l (omega (arith, h, k, q, fixed_long (type_of m) k))

-- ---- whatever the bytes

frame_placed : (size : ℕ) (s : List ℕ) → Placed size (frame_refusal s)
unfolding frame_refusal
frame_placed size s = by (starts_bad s) (length_bad s) (cut_short s)
  where
    by : (a b c : Bool) → Placed size (cond a 1 (cond b 2 (cond c 3 0)))
    by true b c = bare size 1 (omega arith) (inl (omega arith))
    by false true c = bare size 2 (omega arith) (inl (omega arith))
    by false false true = bare size 3 (omega arith) (inl (omega arith))
    by false false false = bare size 0 (omega arith) (inl (omega arith))

-- a framed message is as long as its header says
module _ (s : List ℕ) (z : frame_refusal s ≡ 0) where
  alone : frame_refusal (framed s) ≡ 0
  alone = ap frame_refusal (sym (append-nil (framed s))) ∙ framed_accepted s [] z

  as_long : length (framed s) ≡ total_of (framed s)
  as_long = ap length (sym (ap framed (sym (append-nil (framed s))) ∙ framed-again s [] z)) ∙ framed-length (framed s) alone

  ten_at_least : 10 ≤ length (framed s)
  unfolding total_of
  ten_at_least = omega (arith, as_long, (whole (framed s) alone).least)

-- EACH PLACE LIES IN THE MESSAGE OR AT ITS END: of what reading answers, and of what a book, a log and the listing are told
pub place-within : (direction : ℕ) (s : List ℕ) → Placed (length (framed s)) (read_refusal direction s)
unfolding read_refusal own_refusal total_of
place-within direction s = by (eqb (frame_refusal s) 0) refl (carries direction (type_of (heard direction s))) (is_session (type_of (heard direction s)))
  where
    -- what is heard is as long as what stands on the wire
    there : {r : ℕ} → frame_refusal s ≡ 0 → Placed (length (heard direction s)) r → Placed (length (framed s)) r
    there {r} z p = subst (λ (n : ℕ). Placed n r) (heard_long direction s z) p

    ten : (z : frame_refusal s ≡ 0) → 10 ≤ length (heard direction s)
    ten z = omega (arith, heard_long direction s z, ten_at_least s z)

    by : (a : Bool) → eqb (frame_refusal s) 0 ≡ a → (b c : Bool)
        → Placed (length (framed s)) (cond a (cond b (cond c (sessions.read_refusal (heard direction s)) (orders.read_refusal (heard direction s))) unknown_type) (frame_refusal s))
    by false e b c = frame_placed (length (framed s)) s
    by true e false c = bare (length (framed s)) 4 (omega arith) (inl (omega arith))
    by true e true true =
        let z = eqb-true (frame_refusal s) 0 e in
        there z (session_placed (heard direction s) (heard_exact direction s z) (ten z) _ (reading.session_tells (heard direction s)))
    by true e true false =
        let z = eqb-true (frame_refusal s) 0 e in
        there z (order_placed (heard direction s) (heard_exact direction s z) (ten z) _ (reading.reading-tells (heard direction s)))

-- what is told of an order in a direction is told of the message under its record's type, whose bytes from the unit on are those of the wire
pub record ToldInDirection (direction : ℕ) (s : List ℕ) : Type 0 where
  pub tells : reading.Tells (heard direction s) (read_refusal direction s)
  pub bytes : (n : ℕ) → 5 ≤ n → get_or (heard direction s) n 0 ≡ get_or (framed s) n 0

pub told_in_direction : (direction : ℕ) (s : List ℕ) → frame_refusal s ≡ 0 → carries direction (type_of (heard direction s)) ≡ true → is_session (type_of (heard direction s)) ≡ false → ToldInDirection direction s
unfolding read_refusal own_refusal
told_in_direction direction s z c o = record {
  tells = rw (eq-eqb (frame_refusal s) 0 z, c, o) (reading.reading-tells (heard direction s));
  bytes = λ n h. heard_byte direction s z n h;
}

pub booked-within : (s : List ℕ) → Placed (length (framed s)) (message_refusal s)
unfolding message_refusal
booked-within s = by (eqb (frame_refusal s) 0) refl (sequenced (type_of (framed s)))
  where
    by : (a : Bool) → eqb (frame_refusal s) 0 ≡ a → (b : Bool) → Placed (length (framed s)) (cond a (cond b (orders.read_refusal (framed s)) unknown_type) (frame_refusal s))
    by false e b = frame_placed (length (framed s)) s
    by true e false = bare (length (framed s)) 4 (omega arith) (inl (omega arith))
    by true e true =
        let z = eqb-true (frame_refusal s) 0 e in
        order_placed (framed s) (as_long s z) (ten_at_least s z) _ (reading.reading-tells (framed s))

-- ---- whatever the record: of what writing answers, in the message that would be written

-- the late 9 and 23, before others
late-placed : (size place : ℕ) (a b : Bool) {x : ℕ} → 10 ≤ place → place ≤ size → Placed size x → Placed size (cond (not (eqb (cond a (told not_selected place) (cond b conflict 0)) 0)) (cond a (told not_selected place) (cond b conflict 0)) x)
late-placed size place true b l m h = rw (told_refuses not_selected place (omega arith)) (with-place size 9 place (omega arith) (omega arith) l m)
late-placed size place false true l m h = bare size 23 (omega arith) (inr (omega arith))
late-placed size place false false l m h = h

pub order_written_within : (r : Record) (room : ℕ) → Placed (orders.size_of r) (orders.write_refusal r room)
unfolding orders.write_refusal orders.size_of orders.write_slots late_refusal
order_written_within r room =
    by (of_member r.message || of_venue r.message) (unit_good r.message r.unit r.number) (ltb (most_of r.message) r.count) (any_bad (orders.write_slots r)) (has_required r.message r.count r.bits)
    (fixed_good r.message r.fixed) (middle_good r.message r.count r.bits (orders.write_rest r)) (agree_held (orders.write_slots r) r.slots) refl refl late
  where
    low : 10 ≤ count_at r.message
    low = omega (arith, (count_bounds r.message).low)

    -- 12, 13
    unused : Placed (orders.size_of r) (cond (not (orders.zero_unused r)) not_zero (cond (ltb room (orders.size_of r)) no_room 0))
    unused = go (orders.zero_unused r) (ltb room (orders.size_of r))
      where
        go : (i j : Bool) → Placed (orders.size_of r) (cond (not i) not_zero (cond j no_room 0))
        go false j = bare (orders.size_of r) 12 (omega arith) (inr (omega arith))
        go true true = bare (orders.size_of r) 13 (omega arith) (inr (omega arith))
        go true false = bare (orders.size_of r) 0 (omega arith) (inl (omega arith))

    -- the late 9, 23, and these
    late : Placed (orders.size_of r) (cond (not (eqb (late_refusal r.message r.count r.bits r.slots) 0)) (late_refusal r.message r.count r.bits r.slots) (cond (not (orders.zero_unused r)) not_zero (cond (ltb room (orders.size_of r)) no_room 0)))
    late = late-placed (orders.size_of r) (count_at r.message + r.count) (lacks r.message r.count r.bits r.slots) (conflicts r.message r.count r.bits r.slots) (omega (arith, low)) (omega arith) unused

    by : (a b c d e f g h : Bool) {x : ℕ} → any_bad (orders.write_slots r) ≡ d → fixed_good r.message r.fixed ≡ f → Placed (orders.size_of r) x
        → Placed (orders.size_of r) (cond (not a) unknown_type (cond (not b) bad_unit (cond c (told too_many_bitfields (count_at r.message)) (cond d (told unlisted_bit (count_at r.message + bad_byte 0 (orders.write_slots r)))
        (cond (not e) (told not_selected (count_at r.message + r.count)) (cond (not f) (told bad_value (fixed_wrong r.message r.fixed)) (cond (not g) (told bad_value (count_at r.message + r.count + 1))
        (cond (not h) (told bad_value (count_at r.message + r.count + orders.write_middle r + wrong_held 0 (orders.write_slots r) r.slots))
        x))))))))
    by false b c d e f g h p q l = bare (orders.size_of r) 4 (omega arith) (inl (omega arith))
    by true false c d e f g h p q l = bare (orders.size_of r) 5 (omega arith) (inl (omega arith))
    by true true true d e f g h p q l = with-place (orders.size_of r) 7 (count_at r.message) (omega arith) (omega arith) low (omega arith)
    by true true false true e f g h p q l =
        let b = eight_names_the_first_bad_byte (selected_at r.count r.bits) (entry_at r.message) all_places 0 p in
        let k = selected_there r.count r.bits b.place b.set in
        with-place (orders.size_of r) 8 (count_at r.message + bad_byte 0 (orders.write_slots r)) (omega arith) (omega arith) (omega (arith, low)) (omega (arith, k, b.told))
    by true true false false false f g h p q l = with-place (orders.size_of r) 9 (count_at r.message + r.count) (omega arith) (omega arith) (omega (arith, low)) (omega arith)
    by true true false false true false g h p q l =
        with-place (orders.size_of r) 10 (fixed_wrong r.message r.fixed) (omega arith) (omega arith) (reading.fixed_from r.message r.fixed q) (omega (arith, fixed-within r.message r.fixed))
    by true true false false true true false h p q l = with-place (orders.size_of r) 10 (count_at r.message + r.count + 1) (omega arith) (omega arith) (omega (arith, low)) (omega arith)
    by true true false false true true true false p q l =
        with-place (orders.size_of r) 10 (count_at r.message + r.count + orders.write_middle r + wrong_held 0 (orders.write_slots r) r.slots) (omega arith) (omega arith) (omega (arith, low)) (omega (arith, held-within 0 (orders.write_slots r) r.slots))
    by true true false false true true true true p q l = l

-- a session message's fixed part holds every place that is told
pub session_written_within : (message unit number : ℕ) (b : List ℕ) (room : ℕ) → Placed (10 + sessions.fixed_size message) (sessions.write_refusal message unit number b room)
unfolding sessions.write_refusal
session_written_within message unit number b room =
    by (sessions.of_member message || sessions.of_venue message) (sessions.unit_good unit number) (ltb (length b) (sessions.fixed_size message)) (sessions.values_good message b) (eqb (sessions.body_end message b) 0)
    (all_nul (drop (sessions.size_of message b) b)) (ltb room (10 + sessions.size_of message b)) refl
  where
    unused : Placed (10 + sessions.fixed_size message) (sessions.unused_refusal message)
    unused = go (eqb (sessions.fixed_size message) 0)
      where
        go : (x : Bool) → Placed (10 + sessions.fixed_size message) (cond x not_zero bad_group)
        go true = bare (10 + sessions.fixed_size message) 12 (omega arith) (inr (omega arith))
        go false = bare (10 + sessions.fixed_size message) 11 (omega arith) (inr (omega arith))

    by : (x y c d e f g : Bool) → sessions.values_good message b ≡ d
        → Placed (10 + sessions.fixed_size message) (cond (not x) unknown_type (cond (not y) bad_unit (cond c bad_group (cond (not d) (told bad_value (values_wrong message b)) (cond e bad_group (cond (not f) (sessions.unused_refusal message) (cond g no_room 0)))))))
    by false y c d e f g p = bare (10 + sessions.fixed_size message) 4 (omega arith) (inl (omega arith))
    by true false c d e f g p = bare (10 + sessions.fixed_size message) 5 (omega arith) (inl (omega arith))
    by true true true d e f g p = bare (10 + sessions.fixed_size message) 11 (omega arith) (inr (omega arith))
    by true true false false e f g p =
        with-place (10 + sessions.fixed_size message) 10 (values_wrong message b) (omega arith) (omega arith) (reading.values_from message b p)
        (omega (arith, values-within message b, fixed_long message (reading.some message b p)))
    by true true false true true f g p = bare (10 + sessions.fixed_size message) 11 (omega arith) (inr (omega arith))
    by true true false true false false g p = unused
    by true true false true false true true p = bare (10 + sessions.fixed_size message) 13 (omega arith) (inr (omega arith))
    by true true false true false true false p = bare (10 + sessions.fixed_size message) 0 (omega arith) (inl (omega arith))
