-- No second answer fits a call over C: for each, any two answers that meet its contract, with what they leave in the lent buffers, are the same.
-- Assumes nothing.
use Rattle.std.specs.Prelude.{◌≡◌, List, ℕ, length}
use Rattle.std.proofs.Common.{sym, ◌∙◌}
use Rattle.refusals.specs.OneAnswer.{one_answer, one_answer_and_buffer, one_answer_and_two_buffers, OneAnswer, OneAnswerAndBuffer, OneAnswerAndTwoBuffers}
use Rattle.wire.specs.Frame.{frame_refusal, framed}
use Rattle.messages.specs.Messages.{read_call, read_record, write_call, write_out}
use Rattle.book_calls.specs.TableBytes.{table_refusal, table_bytes}
use Rattle.pulse.specs.Pulse.{heartbeat_due, peer_silent}
use Rattle.session_calls.specs.SessionBytes as sessions
use Rattle.venue_calls.specs.VenueBytes as venues
use Rattle.gateway.specs.Desk.{as_number, version_number}
use Rattle.book_calls.specs.BookBytes.{open_call, open_call_buffer, open_call_state, append_call, append_call_buffer, append_call_state, close_call, close_call_buffer, close_call_state, restart_call, restart_call_state, last_call, last_call_at, last_call_length}

pub frame_refusal_is_one : (bytes : List ℕ) → OneAnswer (λ (r : ℕ). r ≡ frame_refusal bytes)
frame_refusal_is_one bytes a b p q = one_answer p q

pub frame_length_is_one : (bytes : List ℕ) → OneAnswer (λ (r : ℕ). r ≡ length (framed bytes))
frame_length_is_one bytes a b p q = one_answer p q

pub table_step_is_one : (unit number : ℕ) (entries : List ℕ)
    → OneAnswerAndBuffer (λ (r : ℕ) (x : List ℕ). (r ≡ table_refusal entries unit number) × (x ≡ table_bytes entries unit number))
table_step_is_one unit number entries a b x y p q = one_answer_and_buffer p q

pub read_is_one : (direction : ℕ) (bytes buffer : List ℕ)
    → OneAnswerAndBuffer (λ (r : ℕ) (x : List ℕ). (r ≡ read_call direction bytes (length buffer)) × (x ≡ read_record direction bytes buffer))
read_is_one direction bytes buffer a b x y p q = one_answer_and_buffer p q

pub write_is_one : (direction : ℕ) (given out : List ℕ)
    → OneAnswerAndBuffer (λ (r : ℕ) (x : List ℕ). (r ≡ write_call direction given (length out)) × (x ≡ write_out direction given out))
write_is_one direction given out a b x y p q = one_answer_and_buffer p q

pub book_open_is_one : (date : ℕ) (buffer state : List ℕ)
    → OneAnswerAndTwoBuffers (λ (r : ℕ) (x v : List ℕ).
    (r ≡ open_call date (length buffer) (length state)) × (x ≡ open_call_buffer date (length state) buffer) × (v ≡ open_call_state date (length buffer) state))
book_open_is_one date buffer state a b x y v w p q = one_answer_and_two_buffers p q

pub book_append_is_one : (bytes buffer state : List ℕ)
    → OneAnswerAndTwoBuffers (λ (r : ℕ) (x v : List ℕ).
    (r ≡ append_call state (length buffer) bytes) × (x ≡ append_call_buffer state buffer bytes) × (v ≡ append_call_state state (length buffer) bytes))
book_append_is_one bytes buffer state a b x y v w p q = one_answer_and_two_buffers p q

pub book_close_is_one : (buffer state : List ℕ)
    → OneAnswerAndTwoBuffers (λ (r : ℕ) (x v : List ℕ).
    (r ≡ close_call state) × (x ≡ close_call_buffer state buffer) × (v ≡ close_call_state state (length buffer)))
book_close_is_one buffer state a b x y v w p q = one_answer_and_two_buffers p q

pub restart_is_one : (date : ℕ) (bytes state : List ℕ)
    → OneAnswerAndBuffer (λ (r : ℕ) (v : List ℕ). (r ≡ restart_call date bytes (length state)) × (v ≡ restart_call_state date bytes state))
restart_is_one date bytes state a b x y p q = one_answer_and_buffer p q

pub last_refusal_is_one : (unit : ℕ) (bytes state : List ℕ) → OneAnswer (λ (r : ℕ). r ≡ last_call unit bytes state)
last_refusal_is_one unit bytes state a b p q = one_answer p q

pub last_at_is_one : (unit : ℕ) (bytes state : List ℕ) → OneAnswer (λ (r : ℕ). r ≡ last_call_at unit bytes state)
last_at_is_one unit bytes state a b p q = one_answer p q

pub last_length_is_one : (unit : ℕ) (bytes state : List ℕ) → OneAnswer (λ (r : ℕ). r ≡ last_call_length unit bytes state)
last_length_is_one unit bytes state a b p q = one_answer p q

-- ---- the session's calls

-- with a number and two buffers
abbrev OneAnswerAndThree : (ℕ → ℕ → List ℕ → List ℕ → Type 0) → Type 0
OneAnswerAndThree P = (a b t s : ℕ) (x y v w : List ℕ) → P a t x v → P b s y w → (a ≡ b) × (t ≡ s) × (x ≡ y) × (v ≡ w)

one_answer_and_three : {a b t s r n : ℕ} {x y v w k l : List ℕ} → (a ≡ r) × (t ≡ n) × (x ≡ k) × (v ≡ l) → (b ≡ r) × (s ≡ n) × (y ≡ k) × (w ≡ l) → (a ≡ b) × (t ≡ s) × (x ≡ y) × (v ≡ w)
one_answer_and_three p q = (p.0 ∙ sym q.0, p.1 ∙ sym q.1, p.2 ∙ sym q.2, p.3 ∙ sym q.3)

pub session_open_is_one : (date market : ℕ) (buffer state : List ℕ)
    → OneAnswerAndTwoBuffers (λ (r : ℕ) (x v : List ℕ).
    (r ≡ sessions.open_call date (length buffer) state) × (x ≡ sessions.open_call_buffer date buffer state) × (v ≡ sessions.open_call_state date market (length buffer) state))
session_open_is_one date market buffer state a b x y v w p q = one_answer_and_two_buffers p q

pub session_restart_is_one : (date market : ℕ) (bytes state : List ℕ)
    → OneAnswerAndBuffer (λ (r : ℕ) (v : List ℕ). (r ≡ sessions.restart_call date bytes state) × (v ≡ sessions.restart_call_state date market bytes state))
session_restart_is_one date market bytes state a b x y p q = one_answer_and_buffer p q

pub session_login_is_one : (given out state : List ℕ)
    → OneAnswerAndTwoBuffers (λ (r : ℕ) (x v : List ℕ).
    (r ≡ sessions.login_call given (length out) state) × (x ≡ sessions.login_call_out given out state) × (v ≡ sessions.login_call_state given (length out) state))
session_login_is_one given out state a b x y v w p q = one_answer_and_two_buffers p q

pub session_receive_is_one : (bytes buffer state : List ℕ) (told : ℕ)
    → OneAnswerAndThree (λ (r n : ℕ) (x v : List ℕ).
    (r ≡ sessions.receive_call bytes (length buffer) state) × (n ≡ sessions.receive_call_told bytes (length buffer) state told) × (x ≡ sessions.receive_call_buffer bytes buffer state)
    × (v ≡ sessions.receive_call_state bytes (length buffer) state))
session_receive_is_one bytes buffer state told a b t s x y v w p q = one_answer_and_three p q

pub session_order_is_one : (given out state : List ℕ)
    → OneAnswerAndTwoBuffers (λ (r : ℕ) (x v : List ℕ).
    (r ≡ sessions.order_call given (length out) state) × (x ≡ sessions.order_call_out given out state) × (v ≡ sessions.order_call_state given (length out) state))
session_order_is_one given out state a b x y v w p q = one_answer_and_two_buffers p q

pub session_heartbeat_is_one : (out state : List ℕ)
    → OneAnswerAndBuffer (λ (r : ℕ) (x : List ℕ). (r ≡ sessions.heartbeat_call (length out) state) × (x ≡ sessions.heartbeat_call_out out state))
session_heartbeat_is_one out state a b x y p q = one_answer_and_buffer p q

pub session_break_is_one : (buffer state : List ℕ)
    → OneAnswerAndTwoBuffers (λ (r : ℕ) (x v : List ℕ). (r ≡ sessions.break_call state) × (x ≡ sessions.break_call_buffer buffer state) × (v ≡ sessions.break_call_state (length buffer) state))
session_break_is_one buffer state a b x y v w p q = one_answer_and_two_buffers p q

pub session_phase_is_one : (state : List ℕ) → OneAnswer (λ (r : ℕ). r ≡ sessions.phase_call state)
session_phase_is_one state a b p q = one_answer p q

pub heartbeat_due_is_one : (now sent : ℕ) → OneAnswer (λ (r : ℕ). r ≡ as_number (heartbeat_due now sent))
heartbeat_due_is_one now sent a b p q = one_answer p q

pub peer_silent_is_one : (now heard : ℕ) → OneAnswer (λ (r : ℕ). r ≡ as_number (peer_silent now heard))
peer_silent_is_one now heard a b p q = one_answer p q

pub version_is_one : OneAnswer (λ (r : ℕ). r ≡ version_number)
version_is_one a b p q = one_answer p q

-- ---- the bench venue's

pub venue_new_is_one : (state : List ℕ) → OneAnswerAndBuffer (λ (r : ℕ) (v : List ℕ). (r ≡ venues.new_call state) × (v ≡ venues.new_call_state state))
venue_new_is_one state a b x y p q = one_answer_and_buffer p q

pub venue_log_is_one : (bytes buffer state : List ℕ)
    → OneAnswerAndTwoBuffers (λ (r : ℕ) (x v : List ℕ).
    (r ≡ venues.log_call bytes (length buffer) state) × (x ≡ venues.log_call_buffer bytes buffer state) × (v ≡ venues.log_call_state bytes (length buffer) state))
venue_log_is_one bytes buffer state a b x y v w p q = one_answer_and_two_buffers p q

pub venue_login_is_one : (bytes out state : List ℕ) (sent : ℕ)
    → OneAnswerAndThree (λ (r n : ℕ) (x v : List ℕ).
    (r ≡ venues.login_call bytes (length out) state) × (n ≡ venues.login_call_sent bytes (length out) state sent) × (x ≡ venues.login_call_out bytes out state)
    × (v ≡ venues.login_call_state bytes (length out) state))
venue_login_is_one bytes out state sent a b t s x y v w p q = one_answer_and_three p q

pub venue_step_is_one : (log out state : List ℕ) (sent : ℕ)
    → OneAnswerAndThree (λ (r n : ℕ) (x v : List ℕ).
    (r ≡ venues.step_call log (length out) state) × (n ≡ venues.step_call_sent log (length out) state sent) × (x ≡ venues.step_call_out log out state)
    × (v ≡ venues.step_call_state log (length out) state))
venue_step_is_one log out state sent a b t s x y v w p q = one_answer_and_three p q

pub venue_order_is_one : (market : ℕ) (bytes state : List ℕ)
    → OneAnswerAndBuffer (λ (r : ℕ) (v : List ℕ). (r ≡ venues.order_call market bytes state) × (v ≡ venues.order_call_state market bytes state))
venue_order_is_one market bytes state a b x y p q = one_answer_and_buffer p q

pub venue_break_is_one : (state : List ℕ) → OneAnswerAndBuffer (λ (r : ℕ) (v : List ℕ). (r ≡ venues.break_call state) × (v ≡ venues.break_call_state state))
venue_break_is_one state a b x y p q = one_answer_and_buffer p q
