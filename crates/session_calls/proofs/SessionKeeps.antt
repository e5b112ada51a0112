-- EACH CALL KEEPS THE SESSION: of a state of at least 278 bytes, all bytes, and a message of bytes, the state after a call is the session that the
-- session's own call answers, refused or not; where it is refused, that is the session as it was. And the state after it has as many bytes, all bytes, so
-- that the laws hold call after call.
--     open_keeps_the_session, restart_keeps_the_session, login_keeps_the_session, receive_keeps_the_session, order_keeps_the_session,
--     break_keeps_the_session
--     short_login_keeps_the_session     a login that is given under 87 bytes is refused
--     stays-long, stays-bytes           of the state after any of these calls
-- A heartbeat changes no state. Assumes nothing.
use Rattle.std.specs.Prelude.{◌≡◌, refl, Bool, true, false, cond, List, [], ◌∷◌, ◌++◌, ℕ, ◌+◌, ◌≤◌, ◌<◌, eqb, ltb, length, drop}
use Rattle.std.proofs.Common.{sym, ap, ◌∙◌, arith, length-append, eqb-true}
use Rattle.std.proofs.lemmas.Bool.{eqb-false}
use Rattle.refusals.specs.Names.{no_room}
use Rattle.numbers.specs.Numbers.{bytes_of, patched}
use Rattle.numbers.specs.NumberLaws.{patched-length, bytes-later}
use Rattle.wire.specs.HeaderLaws.{Bytes}
use Rattle.messages.specs.ByteLaws.{bytes-front, bytes_append, number_bytes}
use Rattle.orders.specs.declared.Market.{Market}
use Rattle.orders.specs.declared.Market.TheVariants.{Equities, Options}
use Rattle.orders.specs.Markets.{market_of}
use Rattle.calendar.specs.Calendar.{day_refusal}
use Rattle.book.specs.Books.{opened_book, open_refusal}
use Rattle.book_restart.specs.Restarts.{restart_of}
use Rattle.book_calls.specs.BookBytes.{book_of, book_bytes}
use Rattle.book_calls.proofs.BookBytesLaws.{book_long}
use Rattle.book_calls.proofs.BookSized.{book-bytes}
use Rattle.session.specs.declared.Phase.{Phase}
use Rattle.session.specs.declared.Phase.TheVariants.{Closed, Asked, Replaying, Live}
use Rattle.session.specs.declared.Session.{Session}
use Rattle.session.specs.Sessions.{pick_session, answered, closed_with, login_of, receive_answer, order_of, broken_by}
use Rattle.session.proofs.Unchanged.{refused_receive, refused-login, refused_order}
use Rattle.session_calls.specs.LoginBytes.{login_size, given_record}
use Rattle.session_calls.specs.SessionBytes.{session_size, phase_number, market_number, session_of, beside_bytes, session_bytes, session_after, open_call_state, restart_call_state, login_call_state, receive_call_state, order_call_state, break_call_state}
use Rattle.session_calls.proofs.SessionBytesLaws.{session_kept, session_stored, long_called, given_is, none_kept}
use Rattle.session_calls.proofs.SessionAgain.{SizedSession, session_again}
use Rattle.session_calls.proofs.SessionSized.{session_of-bytes, day-fits, opened-sized, restarted-sized, received_sized, logged_in-sized, ordered_sized, broken-sized}

-- ---- what is stored are 278 bytes

phase_byte : (p : Phase) → phase_number p < 256
phase_byte Closed = omega arith
phase_byte Asked = omega arith
phase_byte Replaying = omega arith
phase_byte Live = omega arith

market_byte : (m : Market) → market_number m < 256
market_byte Equities = omega arith
market_byte Options = omega arith

session_bytes_lem : (s : Session) → Bytes (session_bytes s)
unfolding session_bytes beside_bytes
session_bytes_lem s =
    let n = s.outgoing.0 in
    let f = market_number s.market ∷ [] in
    bytes_append (book_bytes s.book) (bytes_of 4 n ++ (phase_number s.phase ∷ f)) (book-bytes s.book)
    (bytes_append (bytes_of 4 n) (phase_number s.phase ∷ f) (number_bytes 4 n)
    (bytes-front (phase_number s.phase) f (phase_byte s.phase) (bytes-front (market_number s.market) [] (market_byte s.market) (λ j. omega arith))))

pub session_size_lem : (s : Session) → length (session_bytes s) ≡ session_size
unfolding session_bytes beside_bytes
session_size_lem s = omega (arith, book_long s.book, length-append (book_bytes s.book) (beside_bytes s.phase s.outgoing.0 s.market))

put-bytes : (s : Session) (state : List ℕ) → Bytes state → Bytes (patched state 0 (session_bytes s))
unfolding patched
put-bytes s state bs =
    let n = 0 + length (session_bytes s) in
    bytes_append (session_bytes s) (drop n state) (session_bytes_lem s) (bytes-later n state bs)

-- ---- each call

-- opening that is not refused is for a day
opens_a_day : (date room : ℕ) → open_refusal date room ≡ 0 → day_refusal date ≡ 0
unfolding open_refusal
opens_a_day date room z = by (eqb (day_refusal date) 0) refl z
  where
    by : (t : Bool) → eqb (day_refusal date) 0 ≡ t → cond t (cond (ltb room 16) no_room 0) (day_refusal date) ≡ 0 → day_refusal date ≡ 0
    by true e y = eqb-true (day_refusal date) 0 e
    by false e y = y

module _ (state : List ℕ) (long : session_size ≤ length state) where
  -- what is true of the state, and of the state with a session in its front, is true after every call
  after : (P : List ℕ → Type 0) (n : ℕ) (s : Session) → P state → P (patched state 0 (session_bytes s)) → P (session_after n s state)
  after P n s kept put = by (eqb n 0) refl
    where
      by : (t : Bool) → eqb n 0 ≡ t → P (session_after n s state)
      by true e = rw (sym (session_stored n s state (eqb-true n 0 e))) put
      by false e = rw (sym (session_kept n s state (eqb-false n 0 e))) kept

  pub stays_long : (n : ℕ) (s : Session) → length (session_after n s state) ≡ length state
  stays_long n s = after (λ x. length x ≡ length state) n s refl (patched-length state 0 (session_bytes s) (omega (arith, session_size_lem s)))

  module _ (bs : Bytes state) where
    pub stays_bytes : (n : ℕ) (s : Session) → Bytes (session_after n s state)
    stays_bytes n s = after Bytes n s bs (put-bytes s state bs)

    sized : SizedSession (session_of state)
    sized = session_of-bytes state bs

    -- the session's own refusal is `own`, the call's is r, and `next` is the session after it where nothing is refused
    own_answered : (own : ℕ) (next : Session) {r : ℕ} → own ≡ r → (own ≡ 0 → SizedSession next) → session_of (session_after r next state) ≡ (answered own next (session_of state)).session
    own_answered own next {r} e z = by (eqb own 0) refl
      where
        by : (t : Bool) → eqb own 0 ≡ t → session_of (session_after r next state) ≡ pick_session t next (session_of state)
        by true q = let o = eqb-true own 0 q in ap session_of (sym (session_stored r next state (sym e ∙ o))) ∙ session_again next state (z o)
        by false q = ap session_of (sym (session_kept r next state (λ y. eqb-false own 0 q (e ∙ y))))

    -- where `next` is on a refusal the session as it was
    own_always : (own : ℕ) (next : Session) {r : ℕ} → own ≡ r → SizedSession next → ((own ≡ 0 → ⊥) → next ≡ session_of state) → session_of (session_after r next state) ≡ next
    own_always own next e z k = own_answered own next e (λ o. z) ∙ by (eqb own 0) refl
      where
        by : (t : Bool) → eqb own 0 ≡ t → pick_session t next (session_of state) ≡ next
        by true q = refl
        by false q = sym (k (eqb-false own 0 q))

    pub open_keeps_the_session : (date market : ℕ) (xs : List ℕ)
        → session_of (open_call_state date market (length xs) state) ≡ (answered (open_refusal date (length xs)) (closed_with (market_of market) (opened_book date)) (session_of state)).session
    open_keeps_the_session date market xs =
        own_answered (open_refusal date (length xs)) (closed_with (market_of market) (opened_book date)) (long_called state long _)
        (λ z. opened-sized date (market_of market) (day-fits date (opens_a_day date (length xs) z)))

    pub restart_keeps_the_session : (date market : ℕ) (bytes : List ℕ) → Bytes bytes
        → session_of (restart_call_state date market bytes state) ≡ (answered (restart_of date bytes).refusal (closed_with (market_of market) (restart_of date bytes).book) (session_of state)).session
    restart_keeps_the_session date market bytes b =
        own_answered (restart_of date bytes).refusal (closed_with (market_of market) (restart_of date bytes).book) (long_called state long _)
        (restarted-sized date (market_of market) bytes b)

    module _ (given out : List ℕ) where
      pub login_keeps_the_session : login_size ≤ length given
          → session_of (login_call_state given (length out) state) ≡ (login_of (session_of state) (given_record (book_of state).table given) (length out)).session
      login_keeps_the_session k =
          let r = given_record (book_of state).table given in
          let a = login_of (session_of state) r (length out) in
          own_always a.refusal a.session (given_is given state long k _) (logged_in-sized (session_of state) sized (length out) r) (λ n. (refused-login (session_of state) r out n).0)

      -- where fewer bytes are given, it is refused
      pub short_login_keeps_the_session : length given < login_size → session_of (login_call_state given (length out) state) ≡ session_of state
      short_login_keeps_the_session k = ap session_of (sym (none_kept given state long k _ _))

    pub receive_keeps_the_session : (bytes xs : List ℕ) → Bytes bytes → session_of (receive_call_state bytes (length xs) state) ≡ (receive_answer (session_of state) (length xs) bytes).session
    receive_keeps_the_session bytes xs b =
        let a = receive_answer (session_of state) (length xs) bytes in
        own_always a.refusal a.session (long_called state long _) (received_sized (session_of state) sized (length xs) bytes b) (λ n. (refused_receive (session_of state) xs bytes n).0)

    pub order_keeps_the_session : (given out : List ℕ) → session_of (order_call_state given (length out) state) ≡ (order_of (session_of state) given (length out)).session
    order_keeps_the_session given out =
        let a = order_of (session_of state) given (length out) in
        own_always a.refusal a.session (long_called state long _) (ordered_sized (session_of state) sized (length out) given) (λ n. (refused_order (session_of state) given out n).0)

    pub break_keeps_the_session : (xs : List ℕ) → session_of (break_call_state (length xs) state) ≡ broken_by (session_of state) (length xs)
    break_keeps_the_session xs =
        own_always 0 (broken_by (session_of state) (length xs)) (long_called state long 0) (broken-sized (session_of state) sized (length xs)) (λ n. absurd (n refl))
