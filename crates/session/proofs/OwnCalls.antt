-- 01 names a method of its own for a Login Response and for an application message. They are `receive` on the messages that they are for, so that what
-- is proved of `receive`, the day of demand 3 included, holds of them.
--     message_is_receive     where the first whole message is an application message: the same answer, the same buffer
--     response_is_receive    where it is a Login Response
--     message_else_is_4, response_else_is_4    any other whole message is 4 unless closed
-- Assumes nothing.
use Rattle.std.specs.Prelude.{◌≡◌, true, false, List, ℕ, length}
use Rattle.std.proofs.Common.{sym}
use borrow.Author.Tests.{eq-eqb, ne_eqb}
use Rattle.wire.specs.Header.{type_of}
use Rattle.wire.specs.Frame.{frame_refusal, framed}
use Rattle.orders.specs.Shapes.{sequenced}
use Rattle.book.specs.Books as books
use Rattle.session.specs.declared.Session.{Session}
use Rattle.session.specs.Sessions.{is_closed, response_reading, response_refusal, response_of, response_buffer, message_refusal, message_of, message_buffer, receive_of, receive_buffer}
use Rattle.session.proofs.ReadingLaws.{told_by, after_is_receive, after_is_message, after_is_response, reads_as_venue, response_as_venue}

module _ (s : Session) (xs bytes : List ℕ) where
  -- bytes that do not frame are answered alike too
  pub message_is_receive : (frame_refusal bytes ≡ 0 → sequenced (type_of (framed bytes)) ≡ true)
      → (message_of s (length xs) bytes ≡ receive_of s (length xs) bytes) × (message_buffer s xs bytes ≡ receive_buffer s xs bytes)
  message_is_receive v =
      let p = after_is_message s xs bytes in
      told_by s xs bytes (reads_as_venue bytes v) (sym p.0, sym p.1) (after_is_receive s xs bytes)

  pub response_is_receive : (frame_refusal bytes ≡ 0 → type_of (framed bytes) ≡ 0x24)
      → (response_of s (length xs) bytes ≡ receive_of s (length xs) bytes) × (response_buffer s xs bytes ≡ receive_buffer s xs bytes)
  response_is_receive v =
      let p = after_is_response s xs bytes in
      told_by s xs bytes (response_as_venue bytes v) (sym p.0, sym p.1) (after_is_receive s xs bytes)

  module _ (c : is_closed s.phase ≡ false) (f : frame_refusal bytes ≡ 0) where
    pub message_else_is_4 : sequenced (type_of (framed bytes)) ≡ false → (message_of s (length xs) bytes).refusal ≡ 4
    unfolding message_of message_refusal books.message_refusal
    message_else_is_4 v = rw (c, eq-eqb (frame_refusal bytes) 0 f, v)

    pub response_else_is_4 : (type_of (framed bytes) ≡ 0x24 → ⊥) → (response_of s (length xs) bytes).refusal ≡ 4
    unfolding response_of response_refusal response_reading
    response_else_is_4 n = rw (c, eq-eqb (frame_refusal bytes) 0 f, ne_eqb (type_of (framed bytes)) 0x24 n)
