-- One wrong width moves every later field: where an optional field stands, for every order that is read or written, every choice of bits and every
-- listed bit among those chosen.
--     a_field_is_read_at_its_place       of any bytes that the reader accepts
--     a_field_is_written_at_its_place    of the output buffer, where the writer takes a record
-- In both the field is the `width` bytes from the count's place, 1, the count, what stands between bitfields and fields, and the summed widths of all
-- earlier set bits on; and these are the bytes of its place in the record's buffer. Assumes nothing.
use Rattle.std.specs.Prelude.{◌≡◌, refl, Bool, true, false, ◌&&◌, ltb, eqb}
use Rattle.std.proofs.Math.Path.{sym, ap, ap₂, subst}
use Rattle.std.proofs.Common.{◌∙◌, take-append-drop, get_or-take, get_or-drop, drop_at, drop-drop, ltb-true, eqb-true}
use Rattle.std.proofs.Math.Bool.{cond}
use mathlib.Core.List.{List, ◌∷◌, ◌++◌, append_assoc}
use Prim.Native.Nat.{ℕ, ◌+◌, ◌*◌, ◌-◌, ◌/◌, ◌%◌, ◌≤◌, ◌<◌}
use native.Mathlib.Omega.{arith}
use Rattle.std.proofs.Math.ListN.{length, get_or, take, drop, length-drop}
use Rattle.std.proofs.Math.Seq.{length-take-le, take-append-le, drop-append-le}
use Rattle.kinds.specs.declared.Kind.{Kind}
use Rattle.dictionary.specs.declared.Entry.TheVariants.{Field}
use Rattle.numbers.specs.NumberLaws.{bytes-first}
use Rattle.wire.specs.Header.{header_bytes, type_of, total_of}
use Rattle.wire.specs.HeaderLaws.{Bytes}
use Rattle.wire.specs.Frame.{frame_refusal}
use Rattle.wire.proofs.FrameLaws.{whole, framed_is, framed-length}
use Rattle.block.specs.Slots.{takes, sum, gathered}
use Rattle.block.specs.SlotLaws.{gathered-length, both_true}
use Rattle.block.specs.Places.{bit_set, selected_at, entry_at, slots_of}
use Rattle.block.specs.FieldPlaces.{widths_before}
use Rattle.block.proofs.FieldPlaceLaws.{widths_same, field_held, field_sent, field_stands}
use Rattle.block.proofs.Dictionaries.{widths_fit}
use Rattle.block.specs.Sizes.{all_places, layout_size, record_size, most_bitfields}
use Rattle.orders.specs.Shapes.{count_at}
use Rattle.orders.specs.Middle.{middle_size}
use Rattle.orders.specs.Orders.{write_slots, write_rest, write_middle, size_of, order_bytes, write_refusal}
use Rattle.orders.proofs.OrderLaws.{count_bounds, most_bound, middle-fits, middle-kept, fit, either}
use Rattle.orders.proofs.RoundTrip.{parts-count, parts_bits, parts-rest, Sound, bytes-length, framed-after, framed_as_written}
use Rattle.orders.proofs.RoundTrip as order_trip
use Rattle.orders.specs.Markets.{wire_type, typed, on_wire}
use Rattle.orders.proofs.MarketLaws.{total_alike}
use Rattle.orders.specs.Orders as orders
use Rattle.orders.specs.declared.Record.{Record}
use Rattle.order_records.specs.Records.{record_bytes, record_at}
use Rattle.order_records.specs.RecordTrip.{record_again, at_sound, bytes-again}
use Rattle.messages.specs.Messages.{is_session, type_in, heard, own_refusal, record_of, read_call, read_record, own_write, message_of, write_call, write_out}
use Rattle.messages.proofs.MessageLaws.{order_size}
use Rattle.messages.proofs.Heard.{heard-alone, heard_exact, heard-bytes, heard_type, wired_again}
use Rattle.messages.proofs.RoundTrip.{Accepted, accepted, taken, given, record_stored, message_stored}
use Rattle.messages.specs.OrderPlaces.{is_order, count_in, layout_in, set_in, set_in_message, set_in_record, between, field_at, Stands}

-- ---- the bits that are set

-- bytes that have a count and as many bitfields have the same bits set as the count and the bitfields
pub set_same : (at c : ℕ) (s bits : List ℕ) → get_or s at 0 ≡ c → ((j : ℕ) → j < c → get_or s (at + 1 + j) 0 ≡ get_or bits j 0) → (k : ℕ) → set_in at s k ≡ selected_at c bits k
unfolding set_in selected_at
set_same at c s bits e h k =
    ap (λ (n : ℕ). ltb (k / 8) n && bit_set (get_or s (at + 1 + k / 8) 0) (k % 8)) e ∙ by (ltb (k / 8) c) refl
  where
    by : (x : Bool) → ltb (k / 8) c ≡ x → (x && bit_set (get_or s (at + 1 + k / 8) 0) (k % 8)) ≡ (x && bit_set (get_or bits (k / 8) 0) (k % 8))
    by true q = ap (λ (y : ℕ). bit_set y (k % 8)) (h (k / 8) (ltb-true (k / 8) c q))
    by false q = refl

-- a place that is selected is one of the count's bitfields
pub selected_small : (c : ℕ) (bits : List ℕ) (k : ℕ) → selected_at c bits k ≡ true → c ≤ most_bitfields → k < all_places
unfolding selected_at
selected_small c bits k e h =
    let l : k / 8 < c = ltb-true (k / 8) c (both_true (ltb (k / 8) c) (bit_set (get_or bits (k / 8) 0) (k % 8)) e).0 in
    omega arith

-- ---- a record that the writer takes, its message and its bytes, with anything after each

module _ (r : Record) (room : ℕ) (ok : Sound r) (z : write_refusal r room ≡ 0) (m b t u : List ℕ) (is_message : m ≡ on_wire (order_bytes r) ++ t) (is-record : b ≡ record_bytes r ++ u) where
  low : 10 ≤ count_at r.message
  low = omega (arith, (count_bounds r.message).low)

  few : r.count ≤ most_bitfields
  few = omega (arith, (fit r room z).count, most_bound r.message)

  fixed_long : length (take (count_at r.message - 10) r.fixed) ≡ count_at r.message - 10
  fixed_long = length-take-le (count_at r.message - 10) r.fixed (omega (arith, (count_bounds r.message).high, ok.fixed-length))

  bits_long : length (take r.count r.bits) ≡ r.count
  bits_long = length-take-le r.count r.bits (omega (arith, few, ok.bits_length))

  optional : List ℕ
  optional = gathered (slots_of r.message r.count r.bits) r.slots

  optional_long : length optional ≡ sum takes (slots_of r.message r.count r.bits)
  unfolding optional
  optional_long = gathered-length (slots_of r.message r.count r.bits) r.slots (omega (arith, widths_fit r.message r.count r.bits, ok.slots_length))

  -- the middle that the record holds, and that it is all there
  middle : List ℕ
  middle = take (write_middle r) (write_rest r)

  middle-within : write_middle r ≤ length (write_rest r)
  unfolding write_rest
  middle-within =
      let d : length (drop (count_at r.message - 10) r.fixed) ≡ length r.fixed - (count_at r.message - 10) = length-drop (count_at r.message - 10) r.fixed in
      omega (arith, d, middle-fits r.message r.count r.bits (write_rest r) (fit r room z).middle, ok.fixed-length, low)

  middle_long : length middle ≡ write_middle r
  unfolding middle
  middle_long = length-take-le (write_middle r) (write_rest r) middle-within

  as_parts : m ≡ header_bytes (size_of r - 2) (wire_type r.message) r.unit r.number ++ (take (count_at r.message - 10) r.fixed ++ (r.count ∷ (take r.count r.bits ++ (middle ++ (optional ++ t)))))
  unfolding typed order_bytes write_slots optional middle
  as_parts =
      let h = header_bytes (size_of r - 2) (wire_type r.message) r.unit r.number in
      let f = take (count_at r.message - 10) r.fixed in
      let s = take r.count r.bits in
      let g = middle ++ optional in
      is_message
      ∙ append_assoc h (f ++ (r.count ∷ (s ++ g))) t
      ∙ ap (λ (x : List ℕ). h ++ x) (append_assoc f (r.count ∷ (s ++ g)) t ∙ ap (λ (x : List ℕ). f ++ (r.count ∷ x)) (append_assoc s g t ∙ ap (λ (x : List ℕ). s ++ x) (append_assoc middle optional t)))

  count-there : get_or m (count_at r.message) 0 ≡ r.count
  count-there =
      ap (λ (l : List ℕ). get_or l (count_at r.message) 0) as_parts
      ∙ parts-count (header_bytes (size_of r - 2) (wire_type r.message) r.unit r.number) (take (count_at r.message - 10) r.fixed) r.count (take r.count r.bits) (middle ++ (optional ++ t)) (count_at r.message) refl fixed_long bits_long low

  bits_there : take r.count (drop (count_at r.message + 1) m) ≡ take r.count r.bits
  bits_there =
      ap (λ (l : List ℕ). take r.count (drop (count_at r.message + 1) l)) as_parts
      ∙ parts_bits (header_bytes (size_of r - 2) (wire_type r.message) r.unit r.number) (take (count_at r.message - 10) r.fixed) r.count (take r.count r.bits) (middle ++ (optional ++ t)) (count_at r.message) refl fixed_long bits_long low

  rest-there : drop (count_at r.message + 1 + r.count) m ≡ middle ++ (optional ++ t)
  rest-there =
      ap (λ (l : List ℕ). drop (count_at r.message + 1 + r.count) l) as_parts
      ∙ parts-rest (header_bytes (size_of r - 2) (wire_type r.message) r.unit r.number) (take (count_at r.message - 10) r.fixed) r.count (take r.count r.bits) (middle ++ (optional ++ t)) (count_at r.message) refl fixed_long bits_long low

  -- what stands between bitfields and fields is the middle
  between_is : between r.message m ≡ write_middle r
  unfolding between middle_size middle
  between_is =
      let here : count_at r.message + 1 + r.count ≡ count_at r.message + 1 + r.count + 0 = omega arith in
      ap (λ (c : ℕ). cond (eqb r.message 0x47) (1 + 2 * get_or m (count_at r.message + 1 + c) 0) 0) count-there
      ∙ ap (λ (x : ℕ). cond (eqb r.message 0x47) (1 + 2 * x) 0) (ap (λ (i : ℕ). get_or m i 0) here ∙ sym (get_or-drop (count_at r.message + 1 + r.count) m 0 0) ∙ ap (λ (l : List ℕ). get_or l 0 0) rest-there)
      ∙ middle-kept r.message r.count r.bits (write_rest r) (optional ++ t) middle-within

  fields-there : drop (count_at r.message + 1 + r.count + write_middle r) m ≡ optional ++ t
  fields-there =
      sym (drop-drop (write_middle r) (count_at r.message + 1 + r.count) m)
      ∙ ap (drop (write_middle r)) rest-there
      ∙ drop_at middle (optional ++ t) (write_middle r) middle_long

  set_there : (k : ℕ) → set_in (count_at r.message) m k ≡ selected_at r.count r.bits k
  set_there =
      set_same (count_at r.message) r.count m r.bits count-there
      (λ j h.
      sym (get_or-drop (count_at r.message + 1) m j 0)
      ∙ sym (get_or-take r.count (drop (count_at r.message + 1) m) j 0 h)
      ∙ ap (λ (l : List ℕ). get_or l j 0) bits_there
      ∙ get_or-take r.count r.bits j 0 h)

  held : record_at b ≡ r
  held = ap record_at is-record ∙ record_again r ok u

  count_held : get_or b count_in 0 ≡ r.count
  unfolding record_at
  count_held = ap (λ (x : Record). x.count) held

  bits_held : take most_bitfields (drop (count_in + 1) b) ≡ r.bits
  unfolding record_at
  bits_held = ap (λ (x : Record). x.bits) held

  slots_held : take layout_size (drop layout_in b) ≡ r.slots
  unfolding record_at
  slots_held = ap (λ (x : Record). x.slots) held

  set-held : (k : ℕ) → set_in count_in b k ≡ selected_at r.count r.bits k
  set-held =
      set_same count_in r.count b r.bits count_held
      (λ j h.
      sym (get_or-drop (count_in + 1) b j 0)
      ∙ sym (get_or-take most_bitfields (drop (count_in + 1) b) j 0 (omega (arith, h, few)))
      ∙ ap (λ (l : List ℕ). get_or l j 0) bits_held)

  total_is : total_of m ≡ count_at r.message + 1 + r.count + (write_middle r + sum takes (slots_of r.message r.count r.bits))
  unfolding size_of write_slots order_bytes
  total_is =
      ap (λ (l : List ℕ). total_of l) is_message
      ∙ total_alike (wire_type r.message) (order_bytes r) t (omega (arith, bytes-length r room ok z, low))
      ∙ sym (framed-length (order_bytes r ++ t) (framed-after r room ok z t))
      ∙ ap length (framed_as_written r room ok z t)
      ∙ bytes-length r room ok z

  starts : (k : ℕ) → field_at r.message m k ≡ count_at r.message + 1 + r.count + write_middle r + widths_before (selected_at r.count r.bits) (entry_at r.message) k
  unfolding field_at
  starts k =
      ap (λ (b : ℕ). count_at r.message + 1 + get_or m (count_at r.message) 0 + b + widths_before (set_in (count_at r.message) m) (entry_at r.message) k) between_is
      ∙ ap₂ (λ (c n : ℕ). count_at r.message + 1 + c + write_middle r + n) count-there (widths_same (set_in (count_at r.message) m) (selected_at r.count r.bits) (entry_at r.message) set_there k)

  module _ (k : ℕ) (chosen : selected_at r.count r.bits k ≡ true) {w p : ℕ} {kind : Kind} (listed : Field w kind p ≡ entry_at r.message k) where
    small : k < all_places
    small = selected_small r.count r.bits k chosen few

    -- a part of the layout is a part of the record
    in_layout : take w (drop p r.slots) ≡ take w (drop (layout_in + p) b)
    in_layout =
        let fits : p + w ≤ layout_size = field_held r.message r.count r.bits k small chosen listed in
        let n : length r.slots ≡ layout_size = ok.slots_length in
        let d : length (drop p r.slots) ≡ length r.slots - p = length-drop p r.slots in
        let rest : List ℕ = drop layout_size (drop layout_in b) in
        let e : drop layout_in b ≡ r.slots ++ rest = sym (take-append-drop layout_size (drop layout_in b)) ∙ ap (λ (l : List ℕ). l ++ rest) slots_held in
        sym
        (ap (take w) (sym (drop-drop p layout_in b) ∙ ap (drop p) e ∙ drop-append-le p r.slots rest (omega arith))
        ∙ take-append-le w (drop p r.slots) rest (omega arith))

    -- a part of the optional bytes is a part of the message
    in_fields : take w (drop (field_at r.message m k) m) ≡ take w (drop p r.slots)
    unfolding optional
    in_fields =
        let n : ℕ = widths_before (selected_at r.count r.bits) (entry_at r.message) k in
        let fits = field_sent r.message r.count r.bits k small chosen listed in
        let g : length optional ≡ sum takes (slots_of r.message r.count r.bits) = optional_long in
        let d : length (drop n optional) ≡ length optional - n = length-drop n optional in
        let q : drop (field_at r.message m k) m ≡ drop n optional ++ t =
        ap (λ (i : ℕ). drop i m) (starts k) ∙ sym (drop-drop n (count_at r.message + 1 + r.count + write_middle r) m) ∙ ap (drop n) fields-there ∙ drop-append-le n optional t (omega arith) in
        ap (take w) q
        ∙ take-append-le w (drop n optional) t (omega arith)
        ∙ field_stands r.message r.count r.bits k small chosen listed r.slots (omega (arith, ok.slots_length))

    pub stands : Stands r.message m b k w p
    stands = record {
      in_message = set_there k ∙ chosen;
      in_record = set-held k ∙ chosen;
      within_message = let fits = field_sent r.message r.count r.bits k small chosen listed in omega (arith, starts k, total_is);
      within_record = let fits = field_held r.message r.count r.bits k small chosen listed in omega arith;
      same_bytes = in_fields ∙ in_layout;
    }

-- ---- the types

-- what holds of each type holds of every order
pub by_type : (message : ℕ) → is_order message ≡ true → (P : ℕ → Type 0) → P 0x38 → P 0xB8 → P 0x39 → P 0x3A → P 0x47 → P 0x25 → P 0x2C → P 0x26 → P 0x29 → P 0x2B → P message
by_type message o P a j b h i c d e f g =
    either (eqb message 0x38) (at 0x38 a)
    (either (eqb message 0xB8) (at 0xB8 j)
    (either (eqb message 0x39) (at 0x39 b)
    (either (eqb message 0x3A) (at 0x3A h)
    (either (eqb message 0x47) (at 0x47 i)
    (either (eqb message 0x25) (at 0x25 c)
    (either (eqb message 0x2C) (at 0x2C d)
    (either (eqb message 0x26) (at 0x26 e)
    (either (eqb message 0x29) (at 0x29 f)
    (at 0x2B g))))))))) o
  where
    at : (x : ℕ) → P x → eqb message x ≡ true → P message
    at x h e = subst P (sym (eqb-true message x e)) h

-- an order is no session message
pub not_session : (message : ℕ) → is_order message ≡ true → is_session message ≡ false
not_session message o = by_type message o (λ (x : ℕ). is_session x ≡ false) refl refl refl refl refl refl refl refl refl refl

-- ---- READING

module _ (direction : ℕ) (s buffer : List ℕ) (bytes : Bytes s) (z : read_call direction s (length buffer) ≡ 0) (order : is_order (type_in direction (type_of s)) ≡ true) where
  it : Accepted direction s
  it = accepted direction s (taken direction s (length buffer) z).read

  alone : frame_refusal (heard direction s) ≡ 0
  alone = heard-alone direction s it.frames

  exact : length (heard direction s) ≡ total_of (heard direction s)
  exact = heard_exact direction s it.frames

  part_bytes : Bytes (heard direction s)
  part_bytes = heard-bytes direction s it.frames (subst Bytes (sym (framed_is s it.frames)) (bytes-first (total_of s) s bytes))

  type_kept : type_of (heard direction s) ≡ type_in direction (type_of s)
  unfolding total_of
  type_kept =
      heard_type direction s it.frames
      ∙ ap (λ (l : List ℕ). type_in direction (get_or l 4 0)) (framed_is s it.frames)
      ∙ ap (type_in direction) (get_or-take (total_of s) s 4 0 (omega (arith, (whole s it.frames).least)))

  no_session : is_session (type_of (heard direction s)) ≡ false
  no_session = ap (λ (x : ℕ). is_session x) type_kept ∙ not_session (type_in direction (type_of s)) order

  own_read : orders.read_refusal (heard direction s) ≡ 0
  unfolding own_refusal
  own_read = rw no_session at it.owns

  is_stored : read_record direction s buffer ≡ record_bytes (orders.record_of (heard direction s)) ++ drop (length (record_of (heard direction s))) buffer
  unfolding record_of
  is_stored =
      let e : record_of (heard direction s) ≡ record_bytes (orders.record_of (heard direction s)) = rw no_session in
      record_stored direction s buffer bytes z ∙ ap (λ (l : List ℕ). l ++ drop (length (record_of (heard direction s))) buffer) e

  is_said : s ≡ on_wire (order_bytes (orders.record_of (heard direction s))) ++ drop (total_of s) s
  is_said =
      sym (take-append-drop (total_of s) s)
      ∙ ap (λ (l : List ℕ). l ++ drop (total_of s) s)
      (sym (framed_is s it.frames)
      ∙ sym (wired_again direction s it.frames it.carried)
      ∙ ap on_wire (sym (order_trip.written_again (heard direction s) part_bytes (whole (heard direction s) alone) exact own_read)))

  -- A FIELD IS READ AT ITS PLACE: any selected optional field of a listed bit, in any message that is accepted, whatever bytes follow it
  pub a_field_is_read_at_its_place : {w p : ℕ} {kind : Kind} (k : ℕ) → set_in_message (type_in direction (type_of s)) s k ≡ true → Field w kind p ≡ entry_at (type_in direction (type_of s)) k
      → Stands (type_in direction (type_of s)) s (read_record direction s buffer) k w p
  unfolding orders.record_of
  a_field_is_read_at_its_place {w} {p} {kind} k chosen listed =
      let r = orders.record_of (heard direction s) in
      let sound = order_trip.read_sound (heard direction s) part_bytes own_read in
      let fits = order_trip.taken-again (heard direction s) part_bytes (whole (heard direction s) alone) exact own_read (length (heard direction s)) (omega arith) in
      let there : set_in (count_at (type_of (heard direction s))) s k ≡ selected_at r.count r.bits k =
      set_there r (length (heard direction s)) sound fits s (read_record direction s buffer) (drop (total_of s) s) (drop (length (record_of (heard direction s))) buffer) is_said is_stored k in
      subst (λ (x : ℕ). Stands x s (read_record direction s buffer) k w p) type_kept
      (stands r (length (heard direction s)) sound fits s (read_record direction s buffer) (drop (total_of s) s) (drop (length (record_of (heard direction s))) buffer) is_said is_stored k
      (sym there ∙ ap (λ (x : ℕ). set_in (count_at x) s k) type_kept ∙ chosen)
      (listed ∙ ap (λ (x : ℕ). entry_at x k) (sym type_kept)))

-- ---- WRITING

module _ (direction : ℕ) (r out : List ℕ) (bytes : Bytes r) (z : write_call direction r (length out) ≡ 0) (order : is_order (get_or r 0 0) ≡ true) where
  no_session_kept : is_session (get_or r 0 0) ≡ false
  no_session_kept = not_session (get_or r 0 0) order

  own_written : orders.write_refusal (record_at r) (length out) ≡ 0
  unfolding own_write
  own_written = rw no_session_kept at (given direction r (length out) z).owns

  long : record_size ≤ length r
  long = omega (arith, (given direction r (length out) z).long, order_size (get_or r 0 0) no_session_kept)

  is_written_out : write_out direction r out ≡ on_wire (order_bytes (record_at r)) ++ drop (length (message_of r)) out
  unfolding message_of
  is_written_out =
      let e : message_of r ≡ on_wire (order_bytes (record_at r)) = rw no_session_kept in
      message_stored direction r out bytes z ∙ ap (λ (l : List ℕ). l ++ drop (length (message_of r)) out) e

  is_held : r ≡ record_bytes (record_at r) ++ drop record_size r
  is_held = sym (take-append-drop record_size r) ∙ ap (λ (l : List ℕ). l ++ drop record_size r) (sym (bytes-again r bytes long))

  -- A FIELD IS WRITTEN AT ITS PLACE: any optional field of a listed bit that a record selects which the writer takes, whatever the output buffer held
  pub a_field_is_written_at_its_place : {w p : ℕ} {kind : Kind} (k : ℕ) → set_in_record r k ≡ true → Field w kind p ≡ entry_at (get_or r 0 0) k → Stands (get_or r 0 0) (write_out direction r out) r k w p
  unfolding record_at
  a_field_is_written_at_its_place {w} {p} {kind} k chosen listed =
      let v = record_at r in
      let sound = at_sound r bytes long in
      let there : set_in count_in r k ≡ selected_at v.count v.bits k =
      set-held v (length out) sound own_written (write_out direction r out) r (drop (length (message_of r)) out) (drop record_size r) is_written_out is_held k in
      stands v (length out) sound own_written (write_out direction r out) r (drop (length (message_of r)) out) (drop record_size r) is_written_out is_held k (sym there ∙ chosen) listed
