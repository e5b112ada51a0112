-- A call of the session over bytes that is refused changes no byte of a state, a buffer or a number that is lent. Assumes nothing.
use Rattle.std.specs.Prelude.{◌≡◌, refl, Bool, true, false, cond, List, ℕ, ltb, length}
use Rattle.std.proofs.Common.{sym, ne_eqb}
use Rattle.refusals.specs.Names.{no_room}
use Rattle.book.specs.Books.{open_refusal, open_buffer}
use Rattle.session_messages.specs.declared.Record.{Record}
use Rattle.session_messages.specs.Sessions as logins
use Rattle.session.specs.Sessions.{is_closed, is_open, login_refusal, login_of, login_out, receive_refusal, receive_of, receive_buffer, order_refusal, order_of, order_out, heartbeat_record, heartbeat_refusal, heartbeat_of, heartbeat_out}
use Rattle.session.specs.declared.Session.{Session}
use Rattle.book_calls.specs.BookBytes.{book_of}
use Rattle.session_calls.specs.LoginBytes.{login_size, given_record}
use Rattle.session_calls.specs.SessionBytes.{short, called, lent_back, given_call, given_back, session_of, open_call, open_call_buffer, open_call_state, restart_call, restart_call_state, login_call, login_call_out, login_call_state, receive_call, receive_call_told, receive_call_buffer, receive_call_state, order_call, order_call_out, order_call_state, heartbeat_call, heartbeat_call_out, break_call, break_call_buffer, break_call_state}
use Rattle.session_calls.proofs.SessionBytesLaws.{session_kept, told-kept}

-- a lent buffer of a refused call, where the session's own refused call leaves it
back : (state own before : List ℕ) (n : ℕ) → ((n ≡ 0 → ⊥) → own ≡ before) → (called state n ≡ 0 → ⊥) → lent_back state own before ≡ before
unfolding called lent_back
back state own before n f k = by (short state) k
  where
    by : (t : Bool) → (cond t no_room n ≡ 0 → ⊥) → cond t before own ≡ before
    by true h = refl
    by false h = f h

pub open_refused : (date market : ℕ) (xs state : List ℕ) → (open_call date (length xs) state ≡ 0 → ⊥)
    → (open_call_buffer date xs state ≡ xs) × (open_call_state date market (length xs) state ≡ state)
unfolding open_buffer
open_refused date market xs state k =
    (back state (open_buffer date xs) xs (open_refusal date (length xs)) (λ h. rw (ne_eqb (open_refusal date (length xs)) 0 h)) k, sym (session_kept (open_call date (length xs) state) _ state k))

pub restart-refused : (date market : ℕ) (bytes state : List ℕ) → (restart_call date bytes state ≡ 0 → ⊥) → restart_call_state date market bytes state ≡ state
restart-refused date market bytes state k = sym (session_kept (restart_call date bytes state) _ state k)

-- the session's own
login-keeps : (s : Session) (r : Record) (out : List ℕ) → ((login_of s r (length out)).refusal ≡ 0 → ⊥) → login_out s r out ≡ out
unfolding login_of login_refusal login_out logins.write_buffer
login-keeps s r out k = by (is_closed s.phase) k
  where
    by : (t : Bool) → (cond t (logins.record_refusal r (length out)) 16 ≡ 0 → ⊥) → cond t (logins.record_buffer r out) out ≡ out
    by true h = rw (ne_eqb (logins.record_refusal r (length out)) 0 h)
    by false h = refl

given-keeps : (given own before : List ℕ) (n : ℕ) → ((n ≡ 0 → ⊥) → own ≡ before) → (given_call given n ≡ 0 → ⊥) → given_back given own before ≡ before
unfolding given_call given_back
given-keeps given own before n f k = by (ltb (length given) login_size) k
  where
    by : (t : Bool) → (cond t no_room n ≡ 0 → ⊥) → cond t before own ≡ before
    by true h = refl
    by false h = f h

pub login-refused : (given out state : List ℕ) → (login_call given (length out) state ≡ 0 → ⊥)
    → (login_call_out given out state ≡ out) × (login_call_state given (length out) state ≡ state)
login-refused given out state k =
    let r = given_record (book_of state).table given in (
      back state _ out _ (given-keeps given (login_out (session_of state) r out) out _ (login-keeps (session_of state) r out)) k,
      sym (session_kept (login_call given (length out) state) _ state k),
    )

pub receive_refused : (bytes xs state : List ℕ) (told : ℕ) → (receive_call bytes (length xs) state ≡ 0 → ⊥)
    → (receive_call_told bytes (length xs) state told ≡ told) × (receive_call_buffer bytes xs state ≡ xs) × (receive_call_state bytes (length xs) state ≡ state)
unfolding receive_of receive_buffer
receive_refused bytes xs state told k = (
  sym (told-kept (receive_call bytes (length xs) state) _ told k),
  back state _ xs (receive_refusal (session_of state) (length xs) bytes) (λ h. rw (ne_eqb (receive_refusal (session_of state) (length xs) bytes) 0 h)) k,
  sym (session_kept (receive_call bytes (length xs) state) _ state k),
)

pub order_refused : (given out state : List ℕ) → (order_call given (length out) state ≡ 0 → ⊥) → (order_call_out given out state ≡ out) × (order_call_state given (length out) state ≡ state)
unfolding order_of order_out
order_refused given out state k = (
  back state _ out (order_refusal (session_of state) given (length out)) (λ h. rw (ne_eqb (order_refusal (session_of state) given (length out)) 0 h)) k,
  sym (session_kept (order_call given (length out) state) _ state k),
)

pub heartbeat-refused : (out state : List ℕ) → (heartbeat_call (length out) state ≡ 0 → ⊥) → heartbeat_call_out out state ≡ out
unfolding heartbeat_of heartbeat_refusal heartbeat_out logins.write_buffer
heartbeat-refused out state k = back state _ out _ (by (is_open (session_of state).phase)) k
  where
    by : (t : Bool) → (cond t (logins.record_refusal heartbeat_record (length out)) 16 ≡ 0 → ⊥) → cond t (logins.record_buffer heartbeat_record out) out ≡ out
    by true h = rw (ne_eqb (logins.record_refusal heartbeat_record (length out)) 0 h)
    by false h = refl

pub break_refused : (xs state : List ℕ) → (break_call state ≡ 0 → ⊥) → (break_call_buffer xs state ≡ xs) × (break_call_state (length xs) state ≡ state)
break_refused xs state k = (back state _ xs 0 (λ h. absurd (h refl)) k, sym (session_kept (break_call state) _ state k))
