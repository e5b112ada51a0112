-- EACH CALL IS THE SESSION'S OWN, on the session that the bytes are, and stores what it answers: one law a call, of a state of at least 278 bytes. The
-- refusal is the session's, the buffers hold what the session's call leaves in them, and where nothing is refused the bytes are the session that it
-- answers; where something is, no byte has changed (SessionRefusals.antt).
--     open_is_the_sessions, restart_is_the_sessions, login_is_the_sessions, receive_is_the_sessions, order_is_the_sessions, heartbeat_is_the_sessions,
--     break_is_the_sessions
-- The bytes of a state are bytes: each is under 256. Assumes nothing.
use Rattle.std.specs.Prelude.{◌≡◌, List, ℕ, ◌≤◌, length}
use Rattle.std.proofs.Common.{sym, ap, ◌∙◌}
use Rattle.orders.specs.Markets.{market_of}
use Rattle.book.specs.Books.{opened_book, open_refusal, open_buffer}
use Rattle.book_restart.specs.Restarts.{restart_of}
use Rattle.book_calls.specs.BookBytes.{book_of}
use Rattle.session.specs.declared.Session.{Session}
use Rattle.session.specs.Sessions.{closed_with, login_of, login_out, receive_answer, receive_buffer, order_of, order_out, heartbeat_of, heartbeat_out, broken_by, broken_buffer}
use Rattle.session_calls.specs.LoginBytes.{login_size, given_record}
use Rattle.session_calls.specs.SessionBytes.{session_size, session_of, session_after, told_number, open_call, open_call_buffer, open_call_state, restart_call, restart_call_state, login_call, login_call_out, login_call_state, receive_call, receive_call_told, receive_call_buffer, receive_call_state, order_call, order_call_out, order_call_state, heartbeat_call, heartbeat_call_out, break_call, break_call_buffer, break_call_state}
use Rattle.session_calls.proofs.SessionBytesLaws.{long_called, long_back, given_is, given_back_lem, session_stored, told-put}
use Rattle.session_calls.proofs.SessionAgain.{SizedSession, session_again}

-- a call whose own refusal is `own` and whose session after it would be `next`: it is that refusal, and where that is 0 the state is the session
pub record Its (state : List ℕ) (own : ℕ) (next : Session) (refusal : ℕ) (after : List ℕ) : Type 0 where
  pub refuses : refusal ≡ own
  pub stores : own ≡ 0 → SizedSession next → session_of after ≡ next

its : (state : List ℕ) (own : ℕ) (next : Session) {r : ℕ} → own ≡ r → Its state own next r (session_after r next state)
its state own next {r} e = record {
  refuses = sym e;
  stores = λ z w. ap session_of (sym (session_stored r next state (sym e ∙ z))) ∙ session_again next state w;
}

module _ (state : List ℕ) (h : session_size ≤ length state) where
  pub open_is_the_sessions : (date market : ℕ) (xs : List ℕ)
      → Its state (open_refusal date (length xs)) (closed_with (market_of market) (opened_book date)) (open_call date (length xs) state) (open_call_state date market (length xs) state)
      × (open_call_buffer date xs state ≡ open_buffer date xs)
  open_is_the_sessions date market xs = (its state _ _ (long_called state h _), sym (long_back state h _ _))

  pub restart_is_the_sessions : (date market : ℕ) (bytes : List ℕ)
      → Its state (restart_of date bytes).refusal (closed_with (market_of market) (restart_of date bytes).book) (restart_call date bytes state) (restart_call_state date market bytes state)
  restart_is_the_sessions date market bytes = its state _ _ (long_called state h _)

  pub login_is_the_sessions : (given out : List ℕ) → login_size ≤ length given
      → Its state (login_of (session_of state) (given_record (book_of state).table given) (length out)).refusal (login_of (session_of state) (given_record (book_of state).table given) (length out)).session
      (login_call given (length out) state) (login_call_state given (length out) state)
      × (login_call_out given out state ≡ login_out (session_of state) (given_record (book_of state).table given) out)
  login_is_the_sessions given out k = (its state _ _ (given_is given state h k _), sym (given_back_lem given state h k _ _))

  pub receive_is_the_sessions : (bytes xs : List ℕ) (told : ℕ)
      → Its state (receive_answer (session_of state) (length xs) bytes).refusal (receive_answer (session_of state) (length xs) bytes).session (receive_call bytes (length xs) state) (receive_call_state bytes (length xs) state)
      × (receive_call_buffer bytes xs state ≡ receive_buffer (session_of state) xs bytes)
      × ((receive_answer (session_of state) (length xs) bytes).refusal ≡ 0 → receive_call_told bytes (length xs) state told ≡ told_number (receive_answer (session_of state) (length xs) bytes).told)
  receive_is_the_sessions bytes xs told = (
    its state _ _ (long_called state h _),
    sym (long_back state h _ _),
    λ z. sym (told-put (receive_call bytes (length xs) state) _ told (sym (long_called state h _) ∙ z)),
  )

  pub order_is_the_sessions : (given out : List ℕ)
      → Its state (order_of (session_of state) given (length out)).refusal (order_of (session_of state) given (length out)).session (order_call given (length out) state) (order_call_state given (length out) state)
      × (order_call_out given out state ≡ order_out (session_of state) given out)
  order_is_the_sessions given out = (its state _ _ (long_called state h _), sym (long_back state h _ _))

  -- it changes no state
  pub heartbeat_is_the_sessions : (out : List ℕ) → (heartbeat_call (length out) state ≡ (heartbeat_of (session_of state) (length out)).refusal) × (heartbeat_call_out out state ≡ heartbeat_out (session_of state) out)
  heartbeat_is_the_sessions out = (sym (long_called state h _), sym (long_back state h _ _))

  pub break_is_the_sessions : (xs : List ℕ)
      → Its state 0 (broken_by (session_of state) (length xs)) (break_call state) (break_call_state (length xs) state) × (break_call_buffer xs state ≡ broken_buffer (session_of state) xs)
  break_is_the_sessions xs = (its state _ _ (long_called state h _), sym (long_back state h _ _))
