-- What is true of a session's state as a caller keeps it: how it is stored, part by part, and the ways of each call. Assumes nothing.
use Rattle.std.specs.Prelude.{◌≡◌, Bool, ℕ, suc, ◌+◌, ◌≤◌, ◌<◌, length, set, take, drop}
use Rattle.std.proofs.Math.Path.{refl, sym, ap, ap₂}
use Rattle.std.proofs.Common.{◌∙◌, arith, length-set}
use Rattle.std.proofs.Math.Bool.{true, false, cond}
use mathlib.Core.List.{List, [], ◌∷◌, ◌++◌}
use Rattle.std.proofs.Math.Dec.{eqb}
use Rattle.std.proofs.lemmas.List.{set_split}
use borrow.Author.Tests.{lt-ltb, le-ltb, eq-eqb, ne_eqb, eqb-true, eqb-false}
use Rattle.refusals.specs.Names.{no_room}
use Rattle.numbers.specs.Numbers.{bytes_of, patched, put_buffer}
use Rattle.numbers.specs.NumberLaws.{put_stores, patched-length, patched_join}
use Rattle.wire.specs.HeaderLaws.{Bytes}
use Rattle.wire.specs.Header.{type_of}
use Rattle.wire.specs.Frame.{framed}
use Rattle.orders.specs.declared.Market.{Market}
use Rattle.orders.specs.Shapes.{sequenced}
use Rattle.orders.specs.Markets.{market_of}
use Rattle.messages.specs.Messages.{read_refusal}
use Rattle.book.specs.declared.Book.{Book}
use Rattle.book.specs.Books.{answer as book_answer}
use Rattle.book.specs.Books.{pick_answer, opened_book, open_refusal, open_buffer, append_refusal, appended_by, append_of, append_buffer, close_of, close_buffer}
use Rattle.book_restart.specs.Restarts.{restart_of}
use Rattle.book_calls.specs.BookBytes as books
use Rattle.book_calls.specs.BookBytes.{state_size, book_of, book_bytes, state_after}
use Rattle.book_calls.proofs.BookBytesLaws.{book_long, same_number, good_is, good_buffer_is}
use Rattle.book_calls.specs.InPlace.{good_refusal, good_buffer}
use Rattle.book_calls.proofs.InPlaceLaws.{state_as_it_is}
use Rattle.session.specs.declared.Phase.{Phase}
use Rattle.session.specs.declared.Phase.TheVariants.{Closed}
use Rattle.session.specs.declared.Session.{Session}
use Rattle.session.specs.Answer.{Answer}
use Rattle.session.specs.declared.Told.TheVariants.{Nothing}
use Rattle.session.specs.Sessions.{answer, closed_with, in_phase, with_book, ended_by, next_outgoing, pick_told, told_of, received_with}
use Rattle.session.specs.Stages.{booked_as, gate_by, gate_refusal}
use Rattle.session.proofs.SessionLaws.{read_is_good}
use Rattle.session_calls.specs.SessionBytes.{session_size, outgoing_at, phase_number, market_number, session_of, beside_bytes, session_bytes, session_after, called, lent_back, phase_call, told_after, given_call, given_back}
use Rattle.session_calls.specs.LoginBytes.{login_size}

-- ---- storing

-- one byte set is one byte put
set-patched : (xs : List ℕ) (i v : ℕ) → i < length xs → set xs i v ≡ patched xs i (v ∷ [])
unfolding patched
set-patched xs i v h = let e : suc i ≡ i + 1 = omega arith in set_split xs i v h ∙ ap (λ (n : ℕ). take i xs ++ (v ∷ drop n xs)) e

-- the outgoing number, the phase and the market, one after the other
pub beside_put : (s x : List ℕ) (p : Phase) (n : ℕ) (m : Market) {a b : ℕ} → session_size ≤ length s → x ≡ put_buffer s 272 (bytes_of 4 n) → a ≡ phase_number p → b ≡ market_number m
    → set (set x 276 a) 277 b ≡ patched s outgoing_at (beside_bytes p n m)
unfolding beside_bytes
beside_put s x p n m {a} {b} h e ea eb =
    let x' = e ∙ put_stores s 272 (bytes_of 4 n) (omega (arith, h)) in
    let lx : length x ≡ length s = ap length x' ∙ patched-length s 272 (bytes_of 4 n) (omega (arith, h)) in
    let ly : length (set x 276 a) ≡ length x = length-set x 276 a in
    set-patched (set x 276 a) 277 b (omega (arith, lx, ly, h))
    ∙ ap (λ (k : List ℕ). patched k 277 (b ∷ [])) (set-patched x 276 a (omega (arith, lx, h)))
    ∙ patched_join x 276 (a ∷ []) (omega (arith, lx, h)) (b ∷ [])
    ∙ ap (λ (k : List ℕ). patched k 276 (a ∷ b ∷ [])) x'
    ∙ patched_join s 272 (bytes_of 4 n) (omega (arith, h)) (a ∷ b ∷ [])
    ∙ ap₂ (λ (i j : ℕ). patched s 272 (bytes_of 4 n ++ (i ∷ j ∷ []))) ea eb

-- a state in which a book is stored, and then what stands beside it, is one in which the session is stored
pub stored_beside : (state : List ℕ) (b : Book) (p : Phase) (n : ℕ) (m : Market) → session_size ≤ length state
    → patched (patched state 0 (book_bytes b)) outgoing_at (beside_bytes p n m) ≡ patched state 0 (session_bytes (record { phase = p; outgoing = record { 0 = n }; market = m; book = b }))
unfolding session_bytes
stored_beside state b p n m h =
    let l = book_long b in
    let z : outgoing_at ≡ 0 + length (book_bytes b) = omega (arith, l) in
    ap (λ (k : ℕ). patched (patched state 0 (book_bytes b)) k (beside_bytes p n m)) z
    ∙ patched_join state 0 (book_bytes b) (omega (arith, l, h)) (beside_bytes p n m)

-- the same where the book is as it was
pub beside_alone : (state : List ℕ) (p : Phase) (n : ℕ) (m : Market) → Bytes state → session_size ≤ length state
    → patched state outgoing_at (beside_bytes p n m) ≡ patched state 0 (session_bytes (record { phase = p; outgoing = record { 0 = n }; market = m; book = book_of state }))
beside_alone state p n m k h =
    ap (λ (s : List ℕ). patched s outgoing_at (beside_bytes p n m)) (state_as_it_is state k (omega (arith, h)))
    ∙ stored_beside state (book_of state) p n m h

-- ---- after a call

module _ (n : ℕ) (s : Session) (state : List ℕ) where
  pub session_kept : (n ≡ 0 → ⊥) → state ≡ session_after n s state
  unfolding session_after
  session_kept m = rw (ne_eqb n 0 m)

  pub session_stored : n ≡ 0 → patched state 0 (session_bytes s) ≡ session_after n s state
  unfolding session_after
  session_stored z = rw (eq-eqb n 0 z)

-- what a call that answers a leaves of the state: its refusal is r
abbrev pub Leaves : List ℕ → Answer → ℕ → List ℕ → Type 0
Leaves state a r after = (r ≡ a.refusal) × (after ≡ session_after a.refusal a.session state)

module _ (state : List ℕ) where
  -- a refusal
  pub leaves_refused : (s : Session) {r : ℕ} → (r ≡ 0 → ⊥) → {a : Answer} → answer r s ≡ a → Leaves state a r state
  leaves_refused s {r} k e = (ap (λ (x : Answer). x.refusal) e, session_kept r s state k ∙ ap (λ (x : Answer). session_after x.refusal x.session state) e)

  -- none
  pub leaves_stored : (s : Session) {after : List ℕ} {a : Answer} → after ≡ patched state 0 (session_bytes s) → answer 0 s ≡ a → Leaves state a 0 after
  leaves_stored s y e =
      (ap (λ (x : Answer). x.refusal) e, y ∙ session_stored 0 s state refl ∙ ap (λ (x : Answer). session_after x.refusal x.session state) e)

  -- by its parts
  pub leaves_by : {s : Session} {n r : ℕ} {after : List ℕ} {a : Answer} → answer n s ≡ a → r ≡ n → after ≡ session_after n s state → Leaves state a r after
  leaves_by e q y = (q ∙ ap (λ (x : Answer). x.refusal) e, y ∙ ap (λ (x : Answer). session_after x.refusal x.session state) e)

  -- where a call is refused, the session that it would leave plays no part
  pub same_when_refused : (n : ℕ) (s t : Session) → (n ≡ 0 → ⊥) → session_after n s state ≡ session_after n t state
  same_when_refused n s t k = sym (session_kept n s state k) ∙ session_kept n t state k

-- ---- a short state, and one that is not

module _ (state : List ℕ) where
  module _ (h : length state < session_size) where
    pub short-called : (own : ℕ) → no_room ≡ called state own
    unfolding called
    short-called own = rw (lt-ltb (length state) session_size h)

    pub short_back : (own before : List ℕ) → before ≡ lent_back state own before
    unfolding lent_back
    short_back own before = rw (lt-ltb (length state) session_size h)

    pub short-kept : (own : ℕ) (s : Session) → state ≡ session_after (called state own) s state
    short-kept own s = session_kept (called state own) s state (λ z. omega (arith, short-called own ∙ z))

  module _ (h : session_size ≤ length state) where
    pub long_called : (own : ℕ) → own ≡ called state own
    unfolding called
    long_called own = rw (le-ltb (length state) session_size h)

    pub long_back : (own before : List ℕ) → own ≡ lent_back state own before
    unfolding lent_back
    long_back own before = rw (le-ltb (length state) session_size h)

    -- a call by what it leaves
    pub long_leaves : (a : Answer) {r : ℕ} {after : List ℕ} → Leaves state a r after
        → (r ≡ called state a.refusal) × (after ≡ session_after (called state a.refusal) a.session state)
    long_leaves a l = (l.0 ∙ long_called a.refusal, l.1 ∙ ap (λ (k : ℕ). session_after k a.session state) (long_called a.refusal))

-- ---- opening and restart

-- of a book b that a call with refusal n stored, and a session beside it
closed_there : (state : List ℕ) (n : ℕ) (b : Book) (m : Market) {x after : List ℕ} → session_size ≤ length state → x ≡ state_after n b state
    → after ≡ cond (eqb n 0) (patched x outgoing_at (beside_bytes Closed 0 m)) x → after ≡ session_after n (closed_with m b) state
unfolding session_after state_after
closed_there state n b m {x} {after} h ex ea = by (eqb n 0) refl
  where
    by : (t : Bool) → eqb n 0 ≡ t → after ≡ cond t (patched state 0 (session_bytes (closed_with m b))) state
    by true e =
        ea ∙ ap (λ (q : Bool). cond q (patched x outgoing_at (beside_bytes Closed 0 m)) x) e
        ∙ ap (λ (y : List ℕ). patched y outgoing_at (beside_bytes Closed 0 m)) (ex ∙ ap (λ (q : Bool). cond q (patched state 0 (book_bytes b)) state) e)
        ∙ stored_beside state b Closed 0 m h
    by false e = ea ∙ ap (λ (q : Bool). cond q (patched x outgoing_at (beside_bytes Closed 0 m)) x) e ∙ ex ∙ ap (λ (q : Bool). cond q (patched state 0 (book_bytes b)) state) e

module _ (date market : ℕ) (xs state : List ℕ) where
  pub opened-there : {n r : ℕ} {x after ys : List ℕ} → session_size ≤ length state
      → n ≡ books.open_call date (length xs) (length state) → ys ≡ books.open_call_buffer date (length state) xs → x ≡ books.open_call_state date (length xs) state
      → r ≡ n → after ≡ cond (eqb n 0) (patched x outgoing_at (beside_bytes Closed 0 (market_of market))) x
      → (r ≡ called state (open_refusal date (length xs))) × (ys ≡ lent_back state (open_buffer date xs) xs)
      × (after ≡ session_after (called state (open_refusal date (length xs))) (closed_with (market_of market) (opened_book date)) state)
  unfolding books.open_call books.open_call_buffer
  opened-there {n} {r} {x} {after} h en ey ex er ea =
      let s = le-ltb (length state) state_size (omega (arith, h)) in
      let o = open_refusal date (length xs) in
      let c : n ≡ o = en ∙ rw s (same_number o) in
      let d : books.open_call date (length xs) (length state) ≡ n = sym en in (
        er ∙ c ∙ long_called state h o,
        ey ∙ ap (λ (q : Bool). cond q xs (open_buffer date xs)) s ∙ long_back state h (open_buffer date xs) xs,
        closed_there state n (opened_book date) (market_of market) h (ex ∙ ap (λ (k : ℕ). state_after k (opened_book date) state) d) ea
            ∙ ap (λ (k : ℕ). session_after k (closed_with (market_of market) (opened_book date)) state) (c ∙ long_called state h o),
      )

module _ (date market : ℕ) (bytes state : List ℕ) where
  pub restarted-there : {n r : ℕ} {x after : List ℕ} → session_size ≤ length state → n ≡ books.restart_call date bytes (length state) → x ≡ books.restart_call_state date bytes state
      → r ≡ n → after ≡ cond (eqb n 0) (patched x outgoing_at (beside_bytes Closed 0 (market_of market))) x
      → (r ≡ called state (restart_of date bytes).refusal) × (after ≡ session_after (called state (restart_of date bytes).refusal) (closed_with (market_of market) (restart_of date bytes).book) state)
  unfolding books.restart_call
  restarted-there {n} {r} {x} {after} h en ex er ea =
      let s = le-ltb (length state) state_size (omega (arith, h)) in
      let o = (restart_of date bytes).refusal in
      let c : n ≡ o = en ∙ rw s (same_number o) in
      let d : books.restart_call date bytes (length state) ≡ n = sym en in (
        er ∙ c ∙ long_called state h o,
        closed_there state n (restart_of date bytes).book (market_of market) h (ex ∙ ap (λ (k : ℕ). state_after k (restart_of date bytes).book state) d) ea
            ∙ ap (λ (k : ℕ). session_after k (closed_with (market_of market) (restart_of date bytes).book) state) (c ∙ long_called state h o),
      )

-- ---- by the numbers that are read from a state

module _ (state : List ℕ) where
  -- what is put beside a book that is as it was
  pub phase_set : (p : Phase) {n : ℕ} {m : Market} {after : List ℕ} → Bytes state → session_size ≤ length state → n ≡ (session_of state).outgoing.0 → m ≡ (session_of state).market
      → after ≡ patched state outgoing_at (beside_bytes p n m) → after ≡ patched state 0 (session_bytes (in_phase p (session_of state)))
  unfolding session_of
  phase_set p {n} {m} k h en em ea =
      ea ∙ ap₂ (λ (i : ℕ) (j : Market). patched state outgoing_at (beside_bytes p i j)) en em ∙ beside_alone state p (session_of state).outgoing.0 (session_of state).market k h

  -- a mark, and the session closed
  pub ended-there : (room : ℕ) {n : ℕ} {m : Market} {x after : List ℕ} → session_size ≤ length state → n ≡ (session_of state).outgoing.0 → m ≡ (session_of state).market
      → x ≡ books.close_call_state state room → after ≡ patched x outgoing_at (beside_bytes Closed n m) → after ≡ patched state 0 (session_bytes (ended_by (session_of state) room))
  unfolding session_of ended_by books.close_call state_after
  ended-there room {n} {m} {x} h en em ex ea =
      let s = le-ltb (length state) state_size (omega (arith, h)) in
      let y : books.close_call_state state room ≡ patched state 0 (book_bytes (close_of (book_of state) room)) = rw s in
      ea ∙ ap₂ (λ (i : ℕ) (j : Market). patched x outgoing_at (beside_bytes Closed i j)) en em
      ∙ ap (λ (z : List ℕ). patched z outgoing_at (beside_bytes Closed (session_of state).outgoing.0 (session_of state).market)) (ex ∙ y)
      ∙ stored_beside state (close_of (book_of state) room) Closed (session_of state).outgoing.0 (session_of state).market h

  pub closed_buffer : (xs : List ℕ) {ys : List ℕ} → session_size ≤ length state → ys ≡ books.close_call_buffer state xs → ys ≡ close_buffer (session_of state).book xs
  unfolding session_of books.close_call_buffer
  closed_buffer xs h e = e ∙ rw (le-ltb (length state) state_size (omega (arith, h)))

  -- a message that is good by itself, booked where the state stands
  module _ (room : ℕ) (msg : List ℕ) where
    abbrev judged : ℕ
    judged = good_refusal (book_of state) room msg

    pub booked-there : {p : Phase} {n : ℕ} {m : Market} {x after : List ℕ} → session_size ≤ length state → p ≡ (session_of state).phase → n ≡ (session_of state).outgoing.0
        → m ≡ (session_of state).market → judged ≡ 0 → x ≡ state_after judged (appended_by (book_of state) msg) state → after ≡ patched x outgoing_at (beside_bytes p n m)
        → after ≡ session_after judged (with_book (session_of state) (appended_by (book_of state) msg)) state
    unfolding session_of state_after
    booked-there {p} {n} {m} h ep en em z ex ea =
        let y : state_after judged (appended_by (book_of state) msg) state ≡ patched state 0 (book_bytes (appended_by (book_of state) msg)) = rw (eq-eqb judged 0 z) in
        ea
        ∙ ap (λ (k : List ℕ). patched k outgoing_at (beside_bytes p n m)) (ex ∙ y)
        ∙ stored_beside state (appended_by (book_of state) msg) p n m h
        ∙ ap (λ (q : Phase). patched state 0 (session_bytes (record { phase = q; outgoing = record { 0 = n }; market = m; book = appended_by (book_of state) msg }))) ep
        ∙ ap₂ (λ (i : ℕ) (j : Market). patched state 0 (session_bytes (record { phase = (session_of state).phase; outgoing = record { 0 = i }; market = j; book = appended_by (book_of state) msg }))) en em
        ∙ session_stored judged (with_book (session_of state) (appended_by (book_of state) msg)) state z

    pub unbooked : {r : ℕ} {x : List ℕ} → r ≡ judged → (r ≡ 0 → ⊥) → x ≡ state_after judged (appended_by (book_of state) msg) state → x ≡ session_after judged (with_book (session_of state) (appended_by (book_of state) msg)) state
    unfolding state_after session_after
    unbooked e k ex = let d = ne_eqb judged 0 (λ z. k (e ∙ z)) in ex ∙ rw d

-- ---- what stands beside a book that was not opened or restarted

pub closed_not : (s : List ℕ) (n market : ℕ) → (n ≡ 0 → ⊥) → s ≡ cond (eqb n 0) (patched s outgoing_at (beside_bytes Closed 0 (market_of market))) s
closed_not s n market k = rw (ne_eqb n 0 k)

-- ---- the phase as it is asked for

module _ (state : List ℕ) where
  pub no_phase : length state < session_size → 0 ≡ phase_call state
  unfolding phase_call
  no_phase h = rw (lt-ltb (length state) session_size h)

  pub phase_told : {p : Phase} {n : ℕ} → session_size ≤ length state → p ≡ (session_of state).phase → n ≡ phase_number p → n ≡ phase_call state
  unfolding phase_call
  phase_told h ep en = en ∙ ap phase_number ep ∙ rw (le-ltb (length state) session_size h)

-- ---- a message that is good by itself, as receiving answers it

module _ (state xs bytes : List ℕ) where
  abbrev s : Session
  s = session_of state

  pub good_leaves : {m ys after : List ℕ} {r : ℕ} {a : Answer} → read_refusal 1 bytes ≡ 0 → sequenced (type_of (framed bytes)) ≡ true → session_size ≤ length state → m ≡ framed bytes
      → r ≡ good_refusal s.book (length xs) m → ys ≡ good_buffer s.book xs m → after ≡ session_after (good_refusal s.book (length xs) m) (with_book s (appended_by s.book m)) state
      → booked_as s (append_of s.book (length xs) bytes) ≡ a → Leaves state a r after
  unfolding session_of append_of
  good_leaves {m} {ys} {after} {r} {a} z v h em er ey ea e =
      let w : append_refusal (book_of state) (length xs) bytes ≡ good_refusal (book_of state) (length xs) (framed bytes) = good_is state xs bytes (omega (arith, h)) (read_is_good bytes z v) in
      let q : r ≡ append_refusal (book_of state) (length xs) bytes = er ∙ ap (good_refusal (book_of state) (length xs)) em ∙ sym w in
      let y : after ≡ session_after (append_refusal (book_of state) (length xs) bytes) (with_book s (appended_by (book_of state) (framed bytes))) state =
      ea ∙ ap (λ (x : List ℕ). session_after (good_refusal (book_of state) (length xs) x) (with_book s (appended_by (book_of state) x)) state) em
      ∙ ap (λ (n : ℕ). session_after n (with_book s (appended_by (book_of state) (framed bytes))) state) (sym w) in
      by (append_refusal (book_of state) (length xs) bytes) q y (eqb (append_refusal (book_of state) (length xs) bytes) 0) refl e
    where
      by : (n : ℕ) → r ≡ n → after ≡ session_after n (with_book s (appended_by (book_of state) (framed bytes))) state → (t : Bool) → eqb n 0 ≡ t
          → booked_as s (pick_answer t (book_answer 0 (appended_by (book_of state) (framed bytes))) (book_answer n (book_of state))) ≡ a → Leaves state a r after
      by n q y true d e =
          leaves_by state e (q ∙ eqb-true n 0 d) (y ∙ ap (λ (k : ℕ). session_after k (with_book s (appended_by (book_of state) (framed bytes))) state) (eqb-true n 0 d))
      by n q y false d e = leaves_by state e q (y ∙ same_when_refused state n (with_book s (appended_by (book_of state) (framed bytes))) (with_book s (book_of state)) (eqb-false n 0 d))

  pub good_buffer_lem : {m ys : List ℕ} → read_refusal 1 bytes ≡ 0 → sequenced (type_of (framed bytes)) ≡ true → session_size ≤ length state → m ≡ framed bytes
      → ys ≡ good_buffer s.book xs m → ys ≡ append_buffer s.book xs bytes
  unfolding session_of
  good_buffer_lem z v h em ey = ey ∙ ap (good_buffer (book_of state) xs) em ∙ sym (good_buffer_is state xs bytes (omega (arith, h)) (read_is_good bytes z v))

-- ---- a break

pub broken-there : (state : List ℕ) → session_size ≤ length state → {s t : Session} {after : List ℕ} → after ≡ patched state 0 (session_bytes s) → s ≡ t → after ≡ session_after (called state 0) t state
broken-there state h {s} {t} e q =
    e ∙ ap (λ (x : Session). patched state 0 (session_bytes x)) q ∙ session_stored 0 t state refl ∙ ap (λ (k : ℕ). session_after k t state) (long_called state h 0)

-- ---- what a login is given: too few bytes, or enough

module _ (given state : List ℕ) (h : session_size ≤ length state) where
  module _ (k : length given < login_size) where
    pub none-called : (own : ℕ) → no_room ≡ called state (given_call given own)
    unfolding given_call
    none-called own = let e : no_room ≡ given_call given own = rw (lt-ltb (length given) login_size k) in e ∙ long_called state h (given_call given own)

    pub none-back : (own before : List ℕ) → before ≡ lent_back state (given_back given own before) before
    unfolding given_back
    none-back own before = let e : before ≡ given_back given own before = rw (lt-ltb (length given) login_size k) in e ∙ long_back state h (given_back given own before) before

    pub none_kept : (own : ℕ) (s : Session) → state ≡ session_after (called state (given_call given own)) s state
    none_kept own s = session_kept (called state (given_call given own)) s state (λ z. omega (arith, none-called own ∙ z))

  module _ (k : login_size ≤ length given) where
    pub given_is : (own : ℕ) → own ≡ called state (given_call given own)
    unfolding given_call
    given_is own = let e : own ≡ given_call given own = rw (le-ltb (length given) login_size k) in e ∙ long_called state h (given_call given own)

    pub given_back_lem : (own before : List ℕ) → own ≡ lent_back state (given_back given own before) before
    unfolding given_back
    given_back_lem own before = let e : own ≡ given_back given own before = rw (le-ltb (length given) login_size k) in e ∙ long_back state h (given_back given own before) before

    pub given_leaves : (a : Answer) {r : ℕ} {after : List ℕ} → Leaves state a r after
        → (r ≡ called state (given_call given a.refusal)) × (after ≡ session_after (called state (given_call given a.refusal)) a.session state)
    given_leaves a l = (l.0 ∙ given_is a.refusal, l.1 ∙ ap (λ (n : ℕ). session_after n a.session state) (given_is a.refusal))

-- ---- an order, by what stands beside the book

pub gate_is : (s : Session) (given : List ℕ) {p : Phase} {n r : ℕ} {m : Market} → p ≡ s.phase → n ≡ s.outgoing.0 → m ≡ s.market → r ≡ gate_by p n m given → r ≡ gate_refusal s given
unfolding gate_refusal
gate_is s given {p} {n} {r} {m} ep en em e =
    e ∙ ap (λ (q : Phase). gate_by q n m given) ep ∙ ap₂ (λ (i : ℕ) (j : Market). gate_by s.phase i j given) en em

pub sent-there : (state : List ℕ) {p : Phase} {n : ℕ} {m : Market} {after : List ℕ} → Bytes state → session_size ≤ length state
    → p ≡ (session_of state).phase → n ≡ next_outgoing (session_of state) → m ≡ (session_of state).market → after ≡ patched state outgoing_at (beside_bytes p n m)
    → after ≡ patched state 0 (session_bytes (record { phase = (session_of state).phase; outgoing = record { 0 = next_outgoing (session_of state) }; market = (session_of state).market; book = (session_of state).book }))
unfolding session_of
sent-there state {p} {n} {m} k h ep en em ea =
    ea ∙ ap (λ (q : Phase). patched state outgoing_at (beside_bytes q n m)) ep
    ∙ ap₂ (λ (i : ℕ) (j : Market). patched state outgoing_at (beside_bytes (session_of state).phase i j)) en em
    ∙ beside_alone state (session_of state).phase (next_outgoing (session_of state)) (session_of state).market k h

-- ---- what became of a message

pub told-kept : (n own before : ℕ) → (n ≡ 0 → ⊥) → before ≡ told_after n own before
unfolding told_after
told-kept n own before k = rw (ne_eqb n 0 k)

pub told-put : (n own before : ℕ) → n ≡ 0 → own ≡ told_after n own before
unfolding told_after
told-put n own before z = rw (eq-eqb n 0 z)

-- of a message that is not refused
pub told_is : (a : Answer) (m : List ℕ) → a.refusal ≡ 0 → told_of (type_of m) ≡ (received_with a m).told
told_is a m z = ap (λ (b : Bool). pick_told b (told_of (type_of m)) Nothing) (sym (eq-eqb a.refusal 0 z))
