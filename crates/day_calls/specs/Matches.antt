-- A program's step and the desk's: each call over bytes leaves a program whose session and book are the desk's, but for the outgoing number, which
-- plays no part in the day. Assumes nothing.
use Rattle.std.specs.Prelude.{ℕ, ◌-◌, ◌≤◌, ◌<◌, ◌≡◌, Bool, cond, List, get_or}
use Rattle.std.proofs.Math.Path.{refl, sym, ap, subst}
use Rattle.std.proofs.Common.{ap₂, ◌∙◌, arith, eq-eqb, ne_eqb}
use Rattle.std.proofs.Math.Bool.{true, false}
use Rattle.std.proofs.Math.Dec.{eqb}
use Rattle.std.proofs.Math.ListN.{length, take}
use Rattle.std.proofs.lemmas.Bool.{eqb-false}
use Rattle.numbers.specs.Numbers.{patched}
use Rattle.numbers.specs.NumberLaws.{patched-length}
use Rattle.wire.specs.Header.{type_of}
use Rattle.wire.specs.Frame.{framed}
use Rattle.block.specs.Slots.{zeros}
use Rattle.table.specs.declared.Table.{Table}
use Rattle.table.specs.declared.OutgoingNumber.{OutgoingNumber}
use Rattle.orders.specs.Shapes.{sequenced}
use Rattle.orders.specs.Markets.{market_of}
use Rattle.session_messages.specs.declared.Record.{Record}
use Rattle.session_logins.specs.declared.Choice.{Choice}
use Rattle.session_logins.specs.LoginRequests.{whole_table, pick_choice, used_units, choice_of, said_of, padded, login_record}
use Rattle.calendar.specs.Calendar.{is_day, day_refusal}
use Rattle.book.specs.declared.Book.{Book}
use Rattle.book.specs.Answer as book_answers
use Rattle.book.specs.Books.{answer, blank_book, opened_book, mark_bytes, open_refusal, open_of, open_buffer, appended_by}
use Rattle.book_restart.specs.Restarts.{restart_of}
use Rattle.book_restart.proofs.Cut.{Made, opens}
use Rattle.book_calls.specs.BookBytes.{book_of}
use Rattle.book_calls.proofs.BookBytesLaws.{Sized}
use Rattle.day_line.specs.Lines.{login_of_table}
use Rattle.day_line.specs.Lent.{lent, kept}
use Rattle.session.specs.declared.Phase.TheVariants.{Asked, Live}
use Rattle.session.specs.declared.Session.{Session}
use Rattle.session.specs.Sessions.{pick_session, closed_with, in_phase, with_book, is_closed, ended_by, broken_by, broken_buffer, responded_by, responded_buffer, status_in, received_in, receive_refusal, received_by, receive_of, received_buffer, receive_buffer, login_refusal, login_of, login_out, order_refusal, order_of, next_outgoing}
use Rattle.session.specs.MemberDay as member
use Rattle.session.specs.MemberDay.{Desk, restarted_by}
use Rattle.session.proofs.MemberSteps.{Good}
use Rattle.session_calls.specs.LoginBytes.{names_in, bits_in, choice_in, given_record}
use Rattle.session_calls.specs.SessionBytes.{session_size, session_of, session_bytes, session_after, open_call, open_call_buffer, restart_call, restart_call_state, login_call}
use Rattle.session_calls.proofs.SessionBytesLaws.{long_called, long_back, given_is, given_back_lem}
use Rattle.session_calls.proofs.SessionAgain.{with_outgoing, seen-again}
use Rattle.session_calls.proofs.SessionSized.{made_sized}
use Rattle.session_calls.proofs.SessionKeeps.{session_size_lem}
use Rattle.day_calls.specs.CallsDay.{Program, length_in, WholeIn, Given, fields_of, opened, gets, ended, writes, login, login_bytes, sends, restarted_with, restart}

-- ---- a state after a call, without its outgoing number

-- the session of a program, with a given outgoing number, and its book's bytes
abbrev pub desk_with : OutgoingNumber → Program → Desk
desk_with o p = record { session = with_outgoing o (session_of p.state); bytes = p.bytes }

-- a program and a desk that are the same but for the outgoing number
pub record Matches (p : Program) (d : Desk) : Type 0 where
  pub out : OutgoingNumber
  pub is : desk_with out p ≡ d
  pub long : session_size ≤ length p.state

module _ (state : List ℕ) (h : session_size ≤ length state) where
  -- after a call with refusal n that answers the session t
  pub after_long : (n : ℕ) (t : Session) → session_size ≤ length (session_after n t state)
  unfolding session_after
  after_long n t = by (eqb n 0)
    where
      by : (q : Bool) → session_size ≤ length (cond q (patched state 0 (session_bytes t)) state)
      by true = omega (arith, h, patched-length state 0 (session_bytes t) (omega (arith, h, session_size_lem t)))
      by false = h

  -- where a refused call would answer the session as it was, the state is the session that the call answers
  pub after-seen : (o : OutgoingNumber) (n : ℕ) (t : Session) → Sized t.book → ((n ≡ 0 → ⊥) → t ≡ session_of state) → with_outgoing o (session_of (session_after n t state)) ≡ with_outgoing o t
  unfolding session_after
  after-seen o n t z f = by (eqb n 0) refl
    where
      by : (q : Bool) → eqb n 0 ≡ q → with_outgoing o (session_of (cond q (patched state 0 (session_bytes t)) state)) ≡ with_outgoing o t
      by true e = seen-again t state o z
      by false e = ap (with_outgoing o) (sym (f (eqb-false n 0 e)))

-- a program after such a call, that lent no buffer for the book
pub stays : (state bytes : List ℕ) (h : session_size ≤ length state) (o : OutgoingNumber) {n m : ℕ} {t : Session} → n ≡ m → Sized t.book → ((n ≡ 0 → ⊥) → t ≡ session_of state)
    → Matches (record { state = session_after m t state; bytes = bytes }) (record { session = with_outgoing o t; bytes = bytes })
stays state bytes h o {n} {m} {t} e z f = record {
  out = o;
  is = ap (λ (s : Session). record { session = s; bytes = bytes }) (ap (λ (k : ℕ). with_outgoing o (session_of (session_after k t state))) (sym e) ∙ after-seen state h o n t z f);
  long = after_long state h m t;
}

-- the book's length in a state
length_seen : (state : List ℕ) (o : OutgoingNumber) {t : Session} → with_outgoing o (session_of state) ≡ t → length_in state ≡ t.book.length
unfolding session_of book_of
length_seen state o e = ap (λ (s : Session). s.book.length) e

-- one that lent a buffer for it: xs before and ys after
pub lends : (state bytes : List ℕ) (h : session_size ≤ length state) (o : OutgoingNumber) (room : ℕ) {n m : ℕ} {t : Session} {ys zs : List ℕ} → n ≡ m → Sized t.book → ((n ≡ 0 → ⊥) → t ≡ session_of state) → ys ≡ zs
    → Matches (record { state = session_after m t state; bytes = kept (length_in (session_after m t state)) room ys bytes }) (record { session = with_outgoing o t; bytes = kept t.book.length room zs bytes })
lends state bytes h o room {n} {m} {t} {ys} {zs} e z f q =
    let s : with_outgoing o (session_of (session_after m t state)) ≡ with_outgoing o t =
    ap (λ (k : ℕ). with_outgoing o (session_of (session_after k t state))) (sym e) ∙ after-seen state h o n t z f in
    record {
      out = o;
      is = ap₂ (λ (x : Session) (l : ℕ). record { session = x; bytes = kept l room ys bytes }) s (length_seen (session_after m t state) o s)
          ∙ ap (λ (l : List ℕ). record { session = with_outgoing o t; bytes = kept t.book.length room l bytes }) q;
      long = after_long state h m t;
    }

-- ---- receiving goes by no outgoing number, and leaves another only where a Login Response brings it

module _ (o : OutgoingNumber) (s : Session) (room : ℕ) (b : List ℕ) where
  abbrev other : Session
  other = (receive_of (with_outgoing o s) room b).session

  pub received_same : other ≡ with_outgoing other.outgoing (receive_of s room b).session
  unfolding receive_of receive_refusal received_by responded_by ended_by
  received_same =
      by (eqb (receive_refusal s room b) 0) (eqb (type_of (framed b)) 0x24) (eqb (status_in (framed b)) 65) (eqb (type_of (framed b)) 0x13) (eqb (type_of (framed b)) 0x08) (sequenced (type_of (framed b)))
    where
      -- the session after it, by the tests
      after : Session → (a r q p l v : Bool) → Session
      after s a r q p l v =
          pick_session a
          (pick_session r (pick_session q (responded_by s 65 (received_in (framed b)) room) (ended_by s room))
          (pick_session p (in_phase Live s)
          (pick_session l (ended_by s room)
          (pick_session v (with_book s (appended_by s.book (framed b)))
          s)))) s

      by : (a r q p l v : Bool) → after (with_outgoing o s) a r q p l v ≡ with_outgoing (after (with_outgoing o s) a r q p l v).outgoing (after s a r q p l v)
      by true true true p l v = refl
      by true true false p l v = refl
      by true false q true l v = refl
      by true false q false true v = refl
      by true false q false false true = refl
      by true false q false false false = refl
      by false r q p l v = refl

  pub received_buffer_lem : (xs : List ℕ) → receive_buffer s xs b ≡ receive_buffer (with_outgoing o s) xs b
  unfolding receive_buffer receive_refusal received_buffer responded_buffer
  received_buffer_lem xs = refl

  -- a refused one leaves the session
  pub received_not : ((receive_of s room b).refusal ≡ 0 → ⊥) → (receive_of s room b).session ≡ s
  unfolding receive_of
  received_not k = ap (λ (q : Bool). pick_session q (received_by s room (framed b)) s) (ne_eqb (receive_refusal s room b) 0 k)

-- ---- the calls

module _ (date : ℕ) (d : is_day date ≡ true) (small : date < 4294967296) (o : OutgoingNumber) (p : Program) (h : session_size ≤ length p.state) where
  abbrev s : Session
  s = session_of p.state

  pub gets_match : (room : ℕ) (b : List ℕ) → Good date (member.gets room b (desk_with o p)) → Matches (gets room b p) (member.gets room b (desk_with o p))
  gets_match room b g =
      let t = (receive_of s room b).session in
      let e = received_same o s room b in
      let z : Sized t.book = subst Sized (ap (λ (x : Session). x.book) e) (made_sized date d small g.made) in
      let w = (receive_of (with_outgoing o s) room b).session in
      let q = lends p.state p.bytes h w.outgoing room {t = t} (long_called p.state h (receive_of s room b).refusal) z (received_not o s room b)
      (sym (long_back p.state h (receive_buffer s (lent room p.bytes) b) (lent room p.bytes)) ∙ received_buffer_lem o s room b (lent room p.bytes)) in
      subst (Matches (gets room b p))
      (ap₂ (λ (x : Session) (n : ℕ). record { session = x; bytes = kept n room (receive_buffer (with_outgoing o s) (lent room p.bytes) b) p.bytes }) (sym e) (ap (λ (x : Session). x.book.length) (sym e))) q

  -- a break goes by no outgoing number
  broken-same : (room : ℕ) → broken_by (with_outgoing o s) room ≡ with_outgoing o (broken_by s room)
  unfolding broken_by ended_by
  broken-same room = by (is_closed s.phase)
    where
      by : (q : Bool) → pick_session q (with_outgoing o s) (ended_by (with_outgoing o s) room) ≡ with_outgoing o (pick_session q s (ended_by s room))
      by true = refl
      by false = refl

  broken_buffer_lem : (xs : List ℕ) → broken_buffer s xs ≡ broken_buffer (with_outgoing o s) xs
  unfolding broken_buffer
  broken_buffer_lem xs = refl

  pub ended_match : (room : ℕ) → Good date (member.ended room (desk_with o p)) → Matches (ended room p) (member.ended room (desk_with o p))
  ended_match room g =
      let t = broken_by s room in
      let e = broken-same room in
      let z : Sized t.book = subst Sized (ap (λ (x : Session). x.book) e) (made_sized date d small g.made) in
      let q = lends p.state p.bytes h o room {t = t} (long_called p.state h 0) z (λ k. absurd (k refl))
      (sym (long_back p.state h (broken_buffer s (lent room p.bytes)) (lent room p.bytes)) ∙ broken_buffer_lem (lent room p.bytes)) in
      subst (Matches (ended room p))
      (ap₂ (λ (x : Session) (n : ℕ). record { session = x; bytes = kept n room (broken_buffer (with_outgoing o s) (lent room p.bytes)) p.bytes }) (sym e) (ap (λ (x : Session). x.book.length) (sym e))) q

  -- ---- an order changes the outgoing number alone

  sent-same : (x : Session) (room : ℕ) (given : List ℕ) → (order_of x given room).session ≡ with_outgoing (order_of x given room).session.outgoing x
  unfolding order_of
  sent-same x room given = by (eqb (order_refusal x given room) 0)
    where
      by : (q : Bool) → pick_session q (record { phase = x.phase; outgoing = record { 0 = next_outgoing x }; market = x.market; book = x.book }) x
          ≡ with_outgoing (pick_session q (record { phase = x.phase; outgoing = record { 0 = next_outgoing x }; market = x.market; book = x.book }) x).outgoing x
      by true = refl
      by false = refl

  sent-not : (room : ℕ) (given : List ℕ) → ((order_of s given room).refusal ≡ 0 → ⊥) → (order_of s given room).session ≡ s
  unfolding order_of
  sent-not room given k =
      ap (λ (q : Bool). pick_session q (record { phase = s.phase; outgoing = record { 0 = next_outgoing s }; market = s.market; book = s.book }) s) (ne_eqb (order_refusal s given room) 0 k)

  pub sends_match : (room : ℕ) (given : List ℕ) → Good date (desk_with o p) → Matches (sends room given p) (member.sends room given (desk_with o p))
  sends_match room given g =
      let t = (order_of s given room).session in
      let e = sent-same s room given in
      let w = (order_of (with_outgoing o s) given room).session in
      let f : w ≡ with_outgoing w.outgoing t =
      sent-same (with_outgoing o s) room given ∙ sym (ap (with_outgoing w.outgoing) e) in
      let z : Sized t.book = subst Sized (ap (λ (x : Session). x.book) (sym e)) (made_sized date d small g.made) in
      let q = stays p.state p.bytes h w.outgoing {t = t} (long_called p.state h (order_of s given room).refusal) z (sent-not room given) in
      subst (Matches (sends room given p)) (ap (λ (x : Session). record { session = x; bytes = p.bytes }) (sym f)) q

  -- ---- a login

  -- its record is that of the fields that the bytes are
  pub given-fields : (table : Table) (g : Given) → given_record table g.bytes ≡ login_of_table table (fields_of g)
  unfolding login_record choice_of
  given-fields table g = by g.full g.whole
    where
      by : (q : Bool) → WholeIn q g.bytes
          → login_record table (choice_in g.bytes) (names_in g.bytes) (bits_in 18 g.bytes) (bits_in 35 g.bytes) ≡ login_record table (whole_table q) (names_in g.bytes) (bits_in 18 g.bytes) (bits_in 35 g.bytes)
      by true e = ap (λ (c : Choice). login_record table c (names_in g.bytes) (bits_in 18 g.bytes) (bits_in 35 g.bytes)) e
      by false e =
          ap (λ (q : Bool). record { message = 0x37; unit = 0; number = 0; body = padded (said_of table (pick_choice q (used_units table) (choice_in g.bytes)) (names_in g.bytes) (bits_in 18 g.bytes) (bits_in 35 g.bytes)) }) (eq-eqb (get_or g.bytes 52 0) 0 e)

  module _ (g : Given) (out : List ℕ) where
    abbrev r : Record
    r = given_record (book_of p.state).table g.bytes

    call_is : login_call g.bytes (length out) p.state ≡ (login_of s r (length out)).refusal
    call_is = sym (given_is g.bytes p.state h g.long (login_of s r (length out)).refusal)

    login-apart : (login_of s r (length out)).refusal ≡ (login_of (with_outgoing o s) r (length out)).refusal
    unfolding login_of login_refusal
    login-apart = refl

    login-same : (login_of (with_outgoing o s) r (length out)).session ≡ with_outgoing o (login_of s r (length out)).session
    unfolding login_of login_refusal
    login-same = by (eqb (login_refusal s r (length out)) 0)
      where
        by : (q : Bool) → pick_session q (in_phase Asked (with_outgoing o s)) (with_outgoing o s) ≡ with_outgoing o (pick_session q (in_phase Asked s) s)
        by true = refl
        by false = refl

    login-not : ((login_of s r (length out)).refusal ≡ 0 → ⊥) → (login_of s r (length out)).session ≡ s
    unfolding login_of
    login-not k = ap (λ (q : Bool). pick_session q (in_phase Asked s) s) (ne_eqb (login_refusal s r (length out)) 0 k)

    login-book : (login_of s r (length out)).session.book ≡ s.book
    unfolding login_of
    login-book = by (eqb (login_refusal s r (length out)) 0)
      where
        by : (q : Bool) → (pick_session q (in_phase Asked s) s).book ≡ s.book
        by true = refl
        by false = refl

    -- the desk's record
    same_record : r ≡ login_of_table s.book.table (fields_of g)
    unfolding session_of
    same_record = given-fields (book_of p.state).table g

    pub writes-same : writes g out p ≡ member.writes (fields_of g) out (desk_with o p)
    writes-same = ap (λ (n : ℕ). eqb n 0) (call_is ∙ login-apart ∙ ap (λ (x : Record). (login_of (with_outgoing o s) x (length out)).refusal) same_record)

    out-same : login_out s r out ≡ login_out (with_outgoing o s) r out
    unfolding login_out
    out-same = refl

    pub bytes_same : login_bytes g out p ≡ member.login_bytes (fields_of g) out (desk_with o p)
    bytes_same =
        ap framed (sym (given_back_lem g.bytes p.state h g.long (login_out s r out) out) ∙ out-same ∙ ap (λ (x : Record). login_out (with_outgoing o s) x out) same_record)

    pub login_match : Good date (desk_with o p) → Matches (login g out p) (member.login (fields_of g) out (desk_with o p))
    login_match good =
        let t = (login_of s r (length out)).session in
        let z : Sized t.book = subst Sized (sym login-book) (made_sized date d small good.made) in
        let q = stays p.state p.bytes h o {t = t} (sym call_is) z login-not in
        subst (Matches (login g out p))
        (ap (λ (x : Session). record { session = x; bytes = p.bytes }) (sym login-same ∙ ap (λ (x : Record). (login_of (with_outgoing o s) x (length out)).session) same_record)) q

-- ---- opening and restart, in a state's buffer in which anything may stand

module _ (date : ℕ) (d : is_day date ≡ true) (small : date < 4294967296) (old : List ℕ) (h : session_size ≤ length old) (market : ℕ) where
  day_good : open_refusal date 16 ≡ 0
  unfolding open_refusal day_refusal
  day_good = rw d

  opened-answer : open_of date 16 ≡ answer 0 (opened_book date)
  unfolding open_of
  opened-answer = rw day_good

  abbrev zero-out : OutgoingNumber
  zero-out = record { 0 = 0 }

  -- a session that is closed for the market, in such a state
  closed_match : (b : Book) (ys zs : List ℕ) {n : ℕ} → 0 ≡ n → Sized b → ys ≡ zs
      → Matches (record { state = session_after n (closed_with (market_of market) b) old; bytes = take (length_in (session_after n (closed_with (market_of market) b) old)) ys })
      (record { session = closed_with (market_of market) b; bytes = take b.length zs })
  closed_match b ys zs {n} e z q =
      let t = closed_with (market_of market) b in
      let w : with_outgoing zero-out (session_of (session_after n t old)) ≡ t =
      ap (λ (k : ℕ). with_outgoing zero-out (session_of (session_after k t old))) (sym e) ∙ after-seen old h zero-out 0 t z (λ k. absurd (k refl)) in
      record {
        out = zero-out;
        is = ap₂ (λ (x : Session) (l : ℕ). record { session = x; bytes = take l ys }) w (length_seen (session_after n t old) zero-out w) ∙ ap (λ (l : List ℕ). record { session = t; bytes = take b.length l }) q;
        long = after_long old h n t;
      }

  pub opens_answer : open_call date 16 old ≡ 0
  opens_answer = sym (long_called old h (open_refusal date 16)) ∙ day_good

  pub opened_match : Matches (opened market date old) (member.opened market date)
  opened_match =
      let m : Made date 0 (opened_book date) (mark_bytes date 0 0) = opens in
      let q = closed_match (opened_book date) (open_call_buffer date (zeros 16) old) (open_buffer date (zeros 16)) (sym opens_answer) (made_sized date d small m) (sym (long_back old h (open_buffer date (zeros 16)) (zeros 16))) in
      subst (Matches (opened market date old))
      (ap (λ (a : book_answers.Answer). record { session = closed_with (market_of market) a.book; bytes = take a.book.length (open_buffer date (zeros 16)) }) (sym opened-answer)) q

  pub restart_is : (ks : List ℕ) → (restart_of date ks).refusal ≡ restart_call date ks old
  restart_is ks = long_called old h (restart_of date ks).refusal

  pub restart_accepted : (ks : List ℕ) → (restart_of date ks).refusal ≡ 0 → Good date (restarted_by market date (restart_of date ks) ks)
      → Matches (restarted_with market date old (restart_call date ks old) ks) (restarted_by market date (restart_of date ks) ks)
  unfolding restarted_with restarted_by
  restart_accepted ks z g =
      let c = sym (restart_is ks) ∙ z in
      let e : restarted_by market date (restart_of date ks) ks ≡ record { session = closed_with (market_of market) (restart_of date ks).book; bytes = take (restart_of date ks).book.length ks } =
      rw (eq-eqb (restart_of date ks).refusal 0 z) in
      let w : Sized (restart_of date ks).book = subst Sized (ap (λ (x : Desk). x.session.book) e) (made_sized date d small g.made) in
      let f : restarted_with market date old (restart_call date ks old) ks ≡ record { state = restart_call_state date market ks old; bytes = take (length_in (restart_call_state date market ks old)) ks } =
      rw (eq-eqb (restart_call date ks old) 0 c) in
      subst (Matches (restarted_with market date old (restart_call date ks old) ks)) (sym e)
      (subst (λ (x : Program). Matches x (record { session = closed_with (market_of market) (restart_of date ks).book; bytes = take (restart_of date ks).book.length ks })) (sym f)
      (closed_match (restart_of date ks).book ks ks (sym c) w refl))

  pub restart_afresh : (ks : List ℕ) → restart_of date ks ≡ answer 22 blank_book
      → (restart_call date ks old ≡ 22) × (restarted_with market date old (restart_call date ks old) ks ≡ opened market date old) × Matches (restarted_with market date old (restart_call date ks old) ks) (restarted_by market date (restart_of date ks) ks)
  unfolding restarted_with restarted_by
  restart_afresh ks e =
      let c : restart_call date ks old ≡ 22 = sym (restart_is ks) ∙ ap (λ (a : book_answers.Answer). a.refusal) e in
      let f : restarted_with market date old (restart_call date ks old) ks ≡ opened market date old = rw c in
      let q : restarted_by market date (restart_of date ks) ks ≡ member.opened market date = ap (λ (a : book_answers.Answer). restarted_by market date a ks) e in
      (c, f, subst (Matches (restarted_with market date old (restart_call date ks old) ks)) (sym q) (subst (λ (x : Program). Matches x (member.opened market date)) (sym f) opened_match))
