-- The session messages: Login Request, Login Response, Logout, Replay Complete and both heartbeats; reading and writing them.
-- Definitions alone. Assumes nothing.
use Rattle.std.specs.Prelude.{ℕ, zero, suc, ◌+◌, ◌-◌, ◌*◌, Bool, true, false, cond, not, ◌&&◌, ◌||◌, List, ◌++◌, ltb, eqb, length, get_or, take, drop}
use Rattle.refusals.specs.Names.{unknown_type, bad_unit, wrong_total, bad_value, bad_group, not_zero, no_room}
use Rattle.refusals.specs.Told.{told}
use Rattle.kinds.specs.declared.Kind.TheVariants.{Alphanumeric, Text}
use Rattle.kinds.specs.Kinds.{all_nul, agrees_of}
use Rattle.numbers.specs.Numbers.{patched}
use Rattle.wire.specs.Header.{header_bytes, type_of, unit_of, number_of, total_of}
use Rattle.block.specs.Slots.{zeros}
use Rattle.session_groups.specs.Groups.{pairs_good, groups_end}
use Rattle.session_messages.specs.ValueFields.{values_wrong}
use Rattle.session_messages.specs.declared.Record.{Record}
use Rattle.session_messages.specs.Reading.{Reading}

-- ---- types

-- Login Request and Client Heartbeat from the member
abbrev pub of_member : ℕ → Bool
of_member message = eqb message 0x37 || eqb message 0x03

-- Login Response, Logout, Server Heartbeat and Replay Complete from the venue
abbrev pub of_venue : ℕ → Bool
of_venue message = eqb message 0x24 || (eqb message 0x08 || (eqb message 0x09 || eqb message 0x13))

-- 01, Wire basics: a session message, whichever side sends it, has neither unit nor number: both are 0.
abbrev pub unit_good : ℕ → ℕ → Bool
unit_good unit number = eqb unit 0 && eqb number 0

-- ---- the body b, what follows the header

-- the bytes of its fixed part, up to and with the first count: Login Request 19, Login Response 67, Logout 66; the others are a header alone
unfoldable pub fixed_size : ℕ → ℕ
fixed_size message = cond (eqb message 0x37) 19 (cond (eqb message 0x24) 67 (cond (eqb message 0x08) 66 0))

-- Login Request: SessionSubID (4), Username (4) and Password (10), N each
abbrev pub names_good : List ℕ → Bool
names_good b = agrees_of Alphanumeric (take 4 b) && (agrees_of Alphanumeric (take 4 (drop 4 b)) && agrees_of Alphanumeric (take 10 (drop 8 b)))

-- Login Response: LoginResponseStatus (1), N; LoginResponseText (60), T
abbrev pub status_good : List ℕ → Bool
status_good b = agrees_of Alphanumeric (take 1 b) && agrees_of Text (take 60 (drop 1 b))

-- Logout: LogoutReason (1), N or an exclamation mark; LogoutReasonText (60), T
abbrev pub reason_good : List ℕ → Bool
reason_good b = (eqb (get_or b 0 0) 33 || agrees_of Alphanumeric (take 1 b)) && agrees_of Text (take 60 (drop 1 b))

-- the values of the fixed part
unfoldable pub values_good : ℕ → List ℕ → Bool
values_good message b =
    cond (eqb message 0x37) (names_good b)
    (cond (eqb message 0x24) (status_good b)
    (cond (eqb message 0x08) (reason_good b)
    true))

-- 10 at the place of the first that is bad
unfoldable pub values_refusal : ℕ → List ℕ → ℕ
values_refusal message b = cond (values_good message b) 0 (told bad_value (values_wrong message b))

-- 01, The bit dictionary: a flag from the venue is 0 or 1, as in a group; the Login Response's own stands at 61 of its body
unfoldable pub flag_good : ℕ → List ℕ → Bool
flag_good message b = cond (eqb message 0x24) (ltb (get_or b 61 0) 2) true

-- ---- lists: their bytes and one, or 0 where one of them is against the rules

-- k bytes more in front
abbrev pub after : ℕ → ℕ → ℕ
after k zero = 0
after k (suc e) = suc (k + e)

-- n pairs
abbrev pub pairs_end : ℕ → List ℕ → ℕ
pairs_end n s = cond (pairs_good n s) (5 * n + 1) 0

-- n pairs, the count of groups, and the groups
unfoldable pub response_end : ℕ → List ℕ → ℕ
response_end n s =
    cond (pairs_good n s)
    (cond (ltb (5 * n) (length s)) (after (5 * n + 1) (groups_end (get_or s (5 * n) 0) (drop (5 * n + 1) s))) 0)
    0

-- what follows the first count, which is n: the groups of Login Request, both lists of Login Response, the pairs of Logout
unfoldable pub lists_end : ℕ → ℕ → List ℕ → ℕ
lists_end message n s = cond (eqb message 0x37) (groups_end n s) (cond (eqb message 0x24) (response_end n s) (pairs_end n s))

-- the body in all
unfoldable pub body_end : ℕ → List ℕ → ℕ
body_end message b =
    cond (eqb (fixed_size message) 0) 1
    (cond (flag_good message b) (after (fixed_size message) (lists_end message (get_or b (fixed_size message - 1) 0) (drop (fixed_size message) b))) 0)

-- its bytes
abbrev pub size_of : ℕ → List ℕ → ℕ
size_of message b = body_end message b - 1

-- 11 where it is against the rules
abbrev pub lists_refusal : ℕ → List ℕ → ℕ
lists_refusal message b = cond (eqb (body_end message b) 0) bad_group 0

-- ---- reading a whole message m

-- 4; 5
unfoldable pub head_refusal : ℕ → ℕ → ℕ → ℕ
head_refusal message unit number =
    cond (not (of_member message || of_venue message)) unknown_type
    (cond (not (unit_good unit number)) bad_unit
    0)

-- 01, Numbers of refusal, in reading order: 4; 5; 6 where the fixed part is cut off; 10; 11; 6 where bytes are left after the last group or pair.
-- A message that is a header alone has no fixed part and no lists: after 5, it is 6 unless it has ten bytes. 02, request 3: 6 is told at the message's end,
-- which is its total, and 10 at the first byte of the first bad field
unfoldable pub read_refusal : List ℕ → ℕ
read_refusal m =
    cond (not (of_member (type_of m) || of_venue (type_of m))) unknown_type
    (cond (not (unit_good (unit_of m) (number_of m))) bad_unit
    (cond (ltb (length m) (10 + fixed_size (type_of m))) (told wrong_total (total_of m))
    (cond (not (values_good (type_of m) (drop 10 m))) (told bad_value (values_wrong (type_of m) (drop 10 m)))
    (cond (eqb (body_end (type_of m) (drop 10 m)) 0) bad_group
    (cond (not (eqb (body_end (type_of m) (drop 10 m)) (length (drop 10 m) + 1))) (told wrong_total (total_of m))
    0)))))

-- the last three of them, of a body whose fixed part is there, in a message whose total is given
unfoldable pub body_refusal : ℕ → ℕ → List ℕ → ℕ
body_refusal total message body =
    cond (not (values_good message body)) (told bad_value (values_wrong message body))
    (cond (eqb (body_end message body) 0) bad_group
    (cond (not (eqb (body_end message body) (length body + 1))) (told wrong_total total)
    0))

-- the body in a record: as on the wire, and zero after it
unfoldable pub body_of : List ℕ → List ℕ
body_of m = drop 10 m ++ zeros (433 - length (drop 10 m))

-- the record of a message
abbrev pub record_of : List ℕ → Record
record_of m = record { message = type_of m; unit = unit_of m; number = number_of m; body = body_of m }

-- the blank record
abbrev pub blank : Record
blank = record { message = 0; unit = 0; number = 0; body = zeros 433 }

-- the first where a test holds, else the second
abbrev pub pick_reading : Bool → Reading → Reading → Reading
pick_reading true a b = a
pick_reading false a b = b

-- what is told of a refused message
abbrev pub refuse : ℕ → Reading
refuse n = record { refusal = n; session = blank }

-- what reading tells: 0 and the record, or the refusal and the blank record, of which a call answers the refusal alone
unfoldable pub read_of : List ℕ → Reading
read_of m = pick_reading (eqb (read_refusal m) 0) (record { refusal = 0; session = record_of m }) (refuse (read_refusal m))

-- ---- writing a body b

-- 01, The bit dictionary: the places of a record that its message does not use are zero: else 11 where it has lists, and 12 in a header alone
abbrev pub unused_refusal : ℕ → ℕ
unused_refusal message = cond (eqb (fixed_size message) 0) not_zero bad_group

-- header and body
abbrev pub bytes_for : ℕ → ℕ → ℕ → List ℕ → List ℕ
bytes_for message unit number b = header_bytes (8 + size_of message b) message unit number ++ take (size_of message b) b

-- of a body: 11 if it is shorter than its fixed part; 10; 11; 11 or 12 for a byte after it that is not zero
unfoldable pub held_refusal : ℕ → List ℕ → ℕ
held_refusal message b =
    cond (ltb (length b) (fixed_size message)) bad_group
    (cond (not (values_good message b)) (told bad_value (values_wrong message b))
    (cond (eqb (body_end message b) 0) bad_group
    (cond (not (all_nul (drop (size_of message b) b))) (unused_refusal message)
    0)))

-- 01, Numbers of refusal, in writing order: 4, 5; 11 for a body shorter than its fixed part; 10; 11; 11, or 12 in a header alone, for a byte after the
-- body that is not zero; 13
unfoldable pub write_refusal : ℕ → ℕ → ℕ → List ℕ → ℕ → ℕ
write_refusal message unit number b room =
    cond (not (of_member message || of_venue message)) unknown_type
    (cond (not (unit_good unit number)) bad_unit
    (cond (ltb (length b) (fixed_size message)) bad_group
    (cond (not (values_good message b)) (told bad_value (values_wrong message b))
    (cond (eqb (body_end message b) 0) bad_group
    (cond (not (all_nul (drop (size_of message b) b))) (unused_refusal message)
    (cond (ltb room (10 + size_of message b)) no_room
    0))))))

-- what the output buffer holds after it
unfoldable pub write_buffer : ℕ → ℕ → ℕ → List ℕ → List ℕ → List ℕ
write_buffer message unit number b out =
    cond (eqb (write_refusal message unit number b (length out)) 0) (patched out 0 (bytes_for message unit number b)) out

-- ---- the same of a record

-- its refusals
abbrev pub record_refusal : Record → ℕ → ℕ
record_refusal r room = write_refusal r.message r.unit r.number r.body room

-- what the output buffer holds after it
abbrev pub record_buffer : Record → List ℕ → List ℕ
record_buffer r out = write_buffer r.message r.unit r.number r.body out

-- its message's bytes
abbrev pub session_bytes : Record → List ℕ
session_bytes r = bytes_for r.message r.unit r.number r.body
