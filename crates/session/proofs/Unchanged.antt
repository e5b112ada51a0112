-- A refused call changes nothing, and what a call leaves alone.
--     refused-response, refused-message, refused-receive,
--     refused-login, refused-heartbeat, refused-order     state and lent buffer are as they were
--     response_held, message_held, receive_held,
--     login_held, heartbeat_held, order_held              what a call's caller then has is the state that the definition says
--     refused_order_uses_no_number                        the next order goes out under the number of the refused one
--     sent_order_uses_one                                 an order that went out uses one number up
--     message_keeps_table_on_15, receive_keeps_table_on_15    a gap moves no entry
--     refused_order_held, message_held_on_15, receive_held_on_15    the same of what a caller has
--     break_while_closed                                  changes nothing
--     end_keeps_table, end_keeps_outgoing                 a session's end changes neither
--     order_keeps_book, login_keeps_book, heartbeat_keeps_session    what goes out touches neither book nor table
-- Assumes nothing.
use Rattle.std.specs.Prelude.{◌≡◌, refl, Bool, true, false, cond, List, ℕ, ◌+◌, eqb, length, Result}
use Rattle.std.proofs.Common.{sym, ap, ap₂, ◌∙◌, arith, ne_eqb, eq-eqb}
use Rattle.std.proofs.lemmas.Bool.{eqb-false}
use Rattle.refusals.specs.Outcomes.{outcome_with, held_by}
use Rattle.refusals.specs.OutcomeLaws.{held}
use Rattle.wire.specs.Header.{type_of}
use Rattle.wire.specs.Frame.{framed}
use Rattle.session_messages.specs.declared.Record.{Record}
use Rattle.session_messages.specs.Sessions as logins
use Rattle.book.specs.Books.{pick_book, roomless, marked, close_of}
use Rattle.session.specs.declared.Phase.TheVariants.{Closed, Asked}
use Rattle.session.specs.declared.Session.{Session}
use Rattle.session.specs.declared.Told.{Told}
use Rattle.session.specs.declared.Told.TheVariants.{Nothing}
use Rattle.session.specs.Answer.{Answer}
use Rattle.session.specs.Sessions.{pick_session, answered, in_phase, is_closed, is_open, ended_by, broken_by, broken_buffer, response_refusal, response_of, response_buffer, message_refusal, message_of, message_buffer, receive_refusal, receive_of, receive_buffer, pick_told, told_of, receive_answer, login_refusal, login_of, login_out, heartbeat_record, heartbeat_refusal, heartbeat_of, heartbeat_out, next_outgoing, order_refusal, order_of, order_out}
use Rattle.session.proofs.SessionLaws.{stays_closed}

-- of a call that answers a and leaves `after` of a buffer: where it is refused, the state and the buffer are as they were
abbrev pub ChangesNothing : Answer → Session → List ℕ → List ℕ → Type 0
ChangesNothing a s after before = (a.refusal ≡ 0 → ⊥) → (a.session ≡ s) × (after ≡ before)

-- the state that a refusal leaves
kept : (k : ℕ) (after s : Session) → (k ≡ 0 → ⊥) → (answered k after s).session ≡ s
kept k after s n = ap (λ (b : Bool). pick_session b after s) (ne_eqb k 0 n)

-- a buffer that is written where nothing is refused, behind a test of the phase
kept-behind : (phase : Bool) (k : ℕ) (new old : List ℕ) → (cond phase k 16 ≡ 0 → ⊥) → cond phase (cond (eqb k 0) new old) old ≡ old
kept-behind true k new old n = ap (λ (b : Bool). cond b new old) (ne_eqb k 0 n)
kept-behind false k new old n = refl

-- ---- the calls

pub refused_response : (s : Session) (xs bytes : List ℕ) → ChangesNothing (response_of s (length xs) bytes) s (response_buffer s xs bytes) xs
unfolding response_of response_buffer
refused_response s xs bytes n = (kept (response_refusal s bytes) _ s n, rw (ne_eqb (response_refusal s bytes) 0 n))

pub refused_message : (s : Session) (xs bytes : List ℕ) → ChangesNothing (message_of s (length xs) bytes) s (message_buffer s xs bytes) xs
unfolding message_of message_buffer
refused_message s xs bytes n = (kept (message_refusal s (length xs) bytes) _ s n, rw (ne_eqb (message_refusal s (length xs) bytes) 0 n))

pub refused_receive : (s : Session) (xs bytes : List ℕ) → ChangesNothing (receive_of s (length xs) bytes) s (receive_buffer s xs bytes) xs
unfolding receive_of receive_buffer
refused_receive s xs bytes n = (kept (receive_refusal s (length xs) bytes) _ s n, rw (ne_eqb (receive_refusal s (length xs) bytes) 0 n))

pub refused-login : (s : Session) (r : Record) (out : List ℕ) → ChangesNothing (login_of s r (length out)) s (login_out s r out) out
unfolding login_of login_refusal login_out logins.write_buffer
refused-login s r out n = (kept (login_refusal s r (length out)) _ s n, kept-behind (is_closed s.phase) (logins.record_refusal r (length out)) _ out n)

pub refused-heartbeat : (s : Session) (out : List ℕ) → ChangesNothing (heartbeat_of s (length out)) s (heartbeat_out s out) out
unfolding heartbeat_of heartbeat_refusal heartbeat_out logins.write_buffer
refused-heartbeat s out n = (refl, kept-behind (is_open s.phase) (logins.record_refusal heartbeat_record (length out)) _ out n)

pub refused_order : (s : Session) (given out : List ℕ) → ChangesNothing (order_of s given (length out)) s (order_out s given out) out
unfolding order_of order_out
refused_order s given out n = (kept (order_refusal s given (length out)) _ s n, rw (ne_eqb (order_refusal s given (length out)) 0 n))

-- ---- what the caller then has

-- of a call whose contract is that it answers a of the state s: whatever it answers, what its caller then has is the state that a says
abbrev pub Held : Answer → Session → Type 0
Held a s = (r : Result Session ℕ) → r ≡ outcome_with a.refusal a.session → held_by s r ≡ a.session

holds : (a : Answer) (s : Session) {after before : List ℕ} → ChangesNothing a s after before → Held a s
holds a s k r e = held a.refusal a.session e (λ z. (k (eqb-false a.refusal 0 z)).0)

pub response_held : (s : Session) (xs bytes : List ℕ) → Held (response_of s (length xs) bytes) s
response_held s xs bytes = holds _ s (refused_response s xs bytes)

pub message_held : (s : Session) (xs bytes : List ℕ) → Held (message_of s (length xs) bytes) s
message_held s xs bytes = holds _ s (refused_message s xs bytes)

-- of receiving what became of the message too: of one that is refused there is nothing
pub receive_held : (s : Session) (xs bytes : List ℕ) (r : Result (Session × Told) ℕ)
    → r ≡ outcome_with (receive_answer s (length xs) bytes).refusal ((receive_answer s (length xs) bytes).session, (receive_answer s (length xs) bytes).told)
    → held_by (s, Nothing) r ≡ ((receive_answer s (length xs) bytes).session, (receive_answer s (length xs) bytes).told)
receive_held s xs bytes r e =
    let two : Session → Told → Session × Told = λ t w. (t, w) in
    held (receive_of s (length xs) bytes).refusal _ e (λ z.
    ap₂ two (refused_receive s xs bytes (eqb-false (receive_of s (length xs) bytes).refusal 0 z)).0
    (ap (λ (b : Bool). pick_told b (told_of (type_of (framed bytes))) Nothing) z))

pub login_held : (s : Session) (r : Record) (out : List ℕ) → Held (login_of s r (length out)) s
login_held s r out = holds _ s (refused-login s r out)

pub heartbeat_held : (s : Session) (out : List ℕ) → Held (heartbeat_of s (length out)) s
heartbeat_held s out = holds _ s (refused-heartbeat s out)

pub order_held : (s : Session) (given out : List ℕ) → Held (order_of s given (length out)) s
order_held s given out = holds _ s (refused_order s given out)

-- ---- numbers and entries

pub refused_order_uses_no_number : (s : Session) (given : List ℕ) (room : ℕ) → ((order_of s given room).refusal ≡ 0 → ⊥) → (order_of s given room).session.outgoing ≡ s.outgoing
unfolding order_of
refused_order_uses_no_number s given room n = ap (λ (t : Session). t.outgoing) (kept (order_refusal s given room) _ s n)

pub sent_order_uses_one : (s : Session) (given : List ℕ) (room : ℕ) → (order_of s given room).refusal ≡ 0 → (order_of s given room).session.outgoing.0 ≡ s.outgoing.0 + 1
unfolding order_of
sent_order_uses_one s given room z =
    ap (λ (b : Bool). (pick_session b (record { phase = s.phase; outgoing = record { 0 = next_outgoing s }; market = s.market; book = s.book }) s).outgoing.0) (eq-eqb (order_refusal s given room) 0 z)

fifteen : {n : ℕ} → n ≡ 15 → n ≡ 0 → ⊥
fifteen e z = omega (arith, e, z)

pub message_keeps_table_on_15 : (s : Session) (room : ℕ) (bytes : List ℕ) → (message_of s room bytes).refusal ≡ 15 → (message_of s room bytes).session.book.table ≡ s.book.table
unfolding message_of
message_keeps_table_on_15 s room bytes e = ap (λ (t : Session). t.book.table) (kept (message_refusal s room bytes) _ s (fifteen e))

pub receive_keeps_table_on_15 : (s : Session) (room : ℕ) (bytes : List ℕ) → (receive_of s room bytes).refusal ≡ 15 → (receive_of s room bytes).session.book.table ≡ s.book.table
unfolding receive_of
receive_keeps_table_on_15 s room bytes e = ap (λ (t : Session). t.book.table) (kept (receive_refusal s room bytes) _ s (fifteen e))

-- of what a caller has after a refused order: the number, and the session, that it gave
pub refused_order_held : (s : Session) (given out : List ℕ) (r : Result Session ℕ)
    → r ≡ outcome_with (order_of s given (length out)).refusal (order_of s given (length out)).session
    → ((order_of s given (length out)).refusal ≡ 0 → ⊥) → ((held_by s r).outgoing ≡ s.outgoing) × (held_by s r ≡ s)
refused_order_held s given out r e n =
    (ap (λ (t : Session). t.outgoing) (order_held s given out r e) ∙ refused_order_uses_no_number s given (length out) n, order_held s given out r e ∙ (refused_order s given out n).0)

-- and after a gap: the table that it gave
pub message_held_on_15 : (s : Session) (xs bytes : List ℕ) (r : Result Session ℕ)
    → r ≡ outcome_with (message_of s (length xs) bytes).refusal (message_of s (length xs) bytes).session
    → (message_of s (length xs) bytes).refusal ≡ 15 → (held_by s r).book.table ≡ s.book.table
message_held_on_15 s xs bytes r e f = ap (λ (t : Session). t.book.table) (message_held s xs bytes r e) ∙ message_keeps_table_on_15 s (length xs) bytes f

pub receive_held_on_15 : (s : Session) (xs bytes : List ℕ) (r : Result (Session × Told) ℕ)
    → r ≡ outcome_with (receive_answer s (length xs) bytes).refusal ((receive_answer s (length xs) bytes).session, (receive_answer s (length xs) bytes).told)
    → (receive_of s (length xs) bytes).refusal ≡ 15 → (held_by (s, Nothing) r).0.book.table ≡ s.book.table
receive_held_on_15 s xs bytes r e f = ap (λ (t : Session × Told). t.0.book.table) (receive_held s xs bytes r e) ∙ receive_keeps_table_on_15 s (length xs) bytes f

-- ---- a session's end

pub break_while_closed : (s : Session) (xs : List ℕ) → s.phase ≡ Closed → (broken_by s (length xs) ≡ s) × (broken_buffer s xs ≡ xs)
break_while_closed s xs e = let p = stays_closed s xs (ap is_closed e) in (sym p.0, sym p.1)

pub end_keeps_table : (s : Session) (room : ℕ) → (ended_by s room).book.table ≡ s.book.table
unfolding ended_by close_of
end_keeps_table s room = by (roomless s.book room 16)
  where
    by : (b : Bool) → (pick_book b s.book (marked s.book)).table ≡ s.book.table
    by true = refl
    by false = refl

pub end_keeps_outgoing : (s : Session) (room : ℕ) → (ended_by s room).outgoing ≡ s.outgoing
unfolding ended_by
end_keeps_outgoing s room = refl

-- ---- what goes out

pub order_keeps_book : (s : Session) (given : List ℕ) (room : ℕ) → ((order_of s given room).session.book ≡ s.book) × ((order_of s given room).session.phase ≡ s.phase)
unfolding order_of
order_keeps_book s given room = (by (eqb (order_refusal s given room) 0), in_phase_lem (eqb (order_refusal s given room) 0))
  where
    by : (b : Bool) → (pick_session b (record { phase = s.phase; outgoing = record { 0 = next_outgoing s }; market = s.market; book = s.book }) s).book ≡ s.book
    by true = refl
    by false = refl

    in_phase_lem : (b : Bool) → (pick_session b (record { phase = s.phase; outgoing = record { 0 = next_outgoing s }; market = s.market; book = s.book }) s).phase ≡ s.phase
    in_phase_lem true = refl
    in_phase_lem false = refl

pub login_keeps_book : (s : Session) (r : Record) (room : ℕ) → ((login_of s r room).session.book ≡ s.book) × ((login_of s r room).session.outgoing ≡ s.outgoing)
unfolding login_of
login_keeps_book s r room = (by (eqb (login_refusal s r room) 0), numbers (eqb (login_refusal s r room) 0))
  where
    by : (b : Bool) → (pick_session b (in_phase Asked s) s).book ≡ s.book
    by true = refl
    by false = refl

    numbers : (b : Bool) → (pick_session b (in_phase Asked s) s).outgoing ≡ s.outgoing
    numbers true = refl
    numbers false = refl

pub heartbeat_keeps_session : (s : Session) (room : ℕ) → (heartbeat_of s room).session ≡ s
unfolding heartbeat_of
heartbeat_keeps_session s room = refl
