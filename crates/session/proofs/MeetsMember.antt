-- Our member is one of the day's members: each of its calls does what the abstract day's member does. 02, request 4: whatever the market of its opening and
-- of each restart. Assumes nothing.
use Rattle.std.specs.Prelude.{ℕ, ◌+◌, ◌≤◌, ◌<◌, ◌≡◌, Bool, cond, drop}
use Rattle.std.proofs.Common.{⊎_elim, sym, ◌∙◌, take_all, eqb-true, eq-eqb}
use Rattle.std.proofs.Math.Path.{refl, ap, ap₂, subst, fun_ext}
use Rattle.std.proofs.Math.Bool.{true, false}
use mathlib.Core.List.{List, []}
use native.Mathlib.Omega.{arith}
use Rattle.std.proofs.Math.Dec.{eqb}
use Rattle.std.proofs.Math.ListN.{length, take}
use Rattle.std.proofs.Math.Seq.{take-take, take-append_seam, take-length}
use Rattle.numbers.specs.Numbers.{patched}
use Rattle.numbers.specs.NumberLaws.{patched-take}
use Rattle.wire.specs.Frame.{framed}
use Rattle.wire.specs.Header.{unit_of}
use Rattle.wire.proofs.FrameLaws.{lt_or_le}
use Rattle.block.specs.Slots.{zeros}
use Rattle.table.specs.declared.OutgoingNumber.{OutgoingNumber}
use Rattle.table.specs.Table.{last_of, zero_table}
use Rattle.orders.specs.declared.Market.{Market}
use Rattle.session_messages.specs.declared.Record.{Record}
use Rattle.session_messages.specs.Sessions as logins
use Rattle.session_messages.proofs.SessionTrip.{framed_as_written}
use Rattle.calendar.specs.Calendar.{is_day, day_refusal}
use Rattle.book.specs.declared.Book.{Book}
use Rattle.book.specs.Answer as book_answers
use Rattle.book.specs.Books.{answer, opened_book, mark_bytes, open_refusal, open_of, open_buffer}
use Rattle.book_restart.specs.Restarts as restarts
use Rattle.book_restart.proofs.Cut.{Made, opens, books, marks, cut, cut_22}
use Rattle.book_restart.proofs.Kept.{none_yet, open_holds, of_unit, counted, messages, count_is}
use Rattle.book_restart.proofs.Steps.{mark_long}
use Rattle.day_model.specs.Model.{Item, Table, Member, Restart, closed, restart_of, restarted, start, short, good}
use Rattle.day_model.specs.Model as day
use Rattle.day_model.specs.Halves.{MeetsMember}
use Rattle.day_line.specs.Lines.{Fields, Fine, says, lists, our_line, login_of_table, OurLogin}
use Rattle.day_line.specs.OurLogins.{body_long, our_lists}
use Rattle.session.specs.declared.Phase.{Phase}
use Rattle.session.specs.declared.Phase.TheVariants.{Closed, Asked, Replaying, Live}
use Rattle.session.specs.Sessions.{closed_with, is_closed, broken_by, broken_buffer, login_refusal, login_of, login_out, order_refusal, order_of}
use Rattle.session.specs.Booked.{items, first-items}
use Rattle.orders.specs.Markets.{market_of}
use Rattle.session.specs.MemberDay.{Desk, opened, gets, ended, writes, login, login_bytes, sends, restarted_by, phase_of, our_member}
use Rattle.session.proofs.MemberKinds.{kind_of_lem}
use Rattle.session.specs.MadeItems.{items_of, coded, below, made_items, made_restarts}
use Rattle.session.proofs.MemberSteps.{cap_of, seen, Good, desk_of, Comes, comes_as, left_alone, as_it_was, ends_as}
use Rattle.session.proofs.MemberGets.{gets_as, room_as_told}

-- ---- a break

breaks_as : {date k : ℕ} (o : OutgoingNumber) (market : Market) {b : Book} {bytes : List ℕ} → Made date k b bytes → (room : ℕ) (p : Phase)
    → Comes date (ended room (desk_of p o market b bytes)) (day.broken (cap_of room) (seen (desk_of p o market b bytes)))
unfolding broken_by broken_buffer
breaks_as o market made room Closed = comes_as (left_alone made Closed o market room) (as_it_was made Closed o market)
breaks_as o market made room Asked = ends_as made Asked o market room
breaks_as o market made room Replaying = ends_as made Replaying o market room
breaks_as o market made room Live = ends_as made Live o market room

-- ---- no unit has more messages than the book

at_most_one : (q : Bool) → cond q 1 0 ≤ 1
at_most_one true = omega arith
at_most_one false = omega arith

unit_few : {date k : ℕ} {b : Book} {xs : List ℕ} (m : Made date k b xs) (u : ℕ) → of_unit m u ≤ messages m
unfolding of_unit messages
unit_few opens u = omega arith
unit_few (books room s m h) u = let i = unit_few m u in let o = at_most_one (eqb (unit_of (framed s)) u) in omega arith
unit_few (marks room m h) u = unit_few m u

-- ---- opening

module _ (date : ℕ) (d : is_day date ≡ true) (hd : date < 4294967296) where
  no_refusal : day_refusal date ≡ 0
  unfolding day_refusal
  no_refusal = rw d

  open_zero : open_refusal date 16 ≡ 0
  unfolding open_refusal
  open_zero = rw no_refusal

  opened-book : open_of date 16 ≡ answer 0 (opened_book date)
  unfolding open_of
  opened-book = rw open_zero

  pub opened_good : (market : ℕ) → Good date (opened market date)
  opened_good market = record { many = 0; made = (open_holds date (zeros 16) open_zero).made }

  zero-table : last_of zero_table ≡ day.zeros
  zero-table = fun_ext (λ u. none_yet u)

  opened-bytes : (market : ℕ) → (opened market date).bytes ≡ mark_bytes date 0 0
  unfolding open_of open_buffer
  opened-bytes market =
      let n = mark_long date 0 0 in
      let k : 16 ≡ 0 + length (mark_bytes date 0 0) = omega arith in
      rw open_zero (ap (λ (i : ℕ). take i (patched (zeros 16) 0 (mark_bytes date 0 0))) k ∙ patched-take (zeros 16) 0 (mark_bytes date 0 0) (omega arith))

  pub opened-seen : (market : ℕ) → seen (opened market date) ≡ start.member
  opened-seen market =
      ap₂ (λ (t : Table) (y : List Item). record { phase = closed; table = t; book = y })
      (ap (λ (a : book_answers.Answer). last_of a.book.table) opened-book ∙ zero-table)
      (let m : Made date 0 (opened_book date) (mark_bytes date 0 0) = opens in ap items (opened-bytes market) ∙ made_items m)

  -- opening for the day has room for its mark
  pub opens_well : (open_of date 16).refusal ≡ 0
  opens_well = ap (λ (a : book_answers.Answer). a.refusal) opened-book

  -- and its book holds no message
  pub opened-empty : (market : ℕ) → day.messages (items (opened market date).bytes) ≡ []
  opened-empty market = ap (λ (x : Member). day.messages x.book) (opened-seen market)

  -- ---- a cut and its restart

  -- of the bytes that a cut kept, for a market
  abbrev restart_from : ℕ → List ℕ → Desk
  restart_from market bs = restarted_by market date (restarts.restart_of date bs) bs

  -- how many items are kept
  abbrev pub kept_items : book_answers.Answer → List ℕ → ℕ
  kept_items a bs = cond (eqb a.refusal 0) (length (items (take a.book.length bs))) 0

  abbrev pub keeps_from : List ℕ → ℕ
  keeps_from bs = kept_items (restarts.restart_of date bs) bs

  abbrev restarts_as : List Item → ℕ → Member
  restarts_as is n = restarted (restart_of (take n is)) (take n is)

  cut_short : {k : ℕ} {b : Book} {xs : List ℕ} → Made date k b xs → (market n : ℕ) → n < 16 → Comes date (restart_from market (take n xs)) (restarts_as (items xs) (keeps_from (take n xs)))
  unfolding restarted_by
  cut_short {xs = xs} made market n h =
      let e = cut_22 date hd d made n h in
      let q : restart_from market (take n xs) ≡ opened market date = ap (λ (a : book_answers.Answer). restarted_by market date a (take n xs)) e in
      let r : keeps_from (take n xs) ≡ 0 = ap (λ (a : book_answers.Answer). kept_items a (take n xs)) e in
      subst (λ (j : ℕ). Comes date (restart_from market (take n xs)) (restarts_as (items xs) j)) (sym r)
      (comes_as q (record { good = opened_good market; is = opened-seen market }))

  cut_long : {k : ℕ} {b : Book} {xs : List ℕ} → Made date k b xs → (market n : ℕ) → 16 ≤ n → n ≤ length xs → Comes date (restart_from market (take n xs)) (restarts_as (items xs) (keeps_from (take n xs)))
  unfolding restarted_by
  cut_long {xs = xs} made market n h l =
      let c = cut date hd d made n h l in
      let t : take c.book.length (take n xs) ≡ c.kept =
      ap (λ (i : ℕ). take i (take n xs)) c.good ∙ take-take (length c.kept) n xs c.short ∙ ap (take (length c.kept)) c.whole_is ∙ take-append_seam c.kept c.over-cut in
      let q : restart_from market (take n xs) ≡ record { session = closed_with (market_of market) c.book; bytes = c.kept } =
      ap (λ (a : book_answers.Answer). restarted_by market date a (take n xs)) c.answer_is ∙ ap (λ (x : List ℕ). record { session = closed_with (market_of market) c.book; bytes = x }) t in
      let i = made_items c.made in
      let r : keeps_from (take n xs) ≡ length (items_of c.made) =
      ap (λ (a : book_answers.Answer). kept_items a (take n xs)) c.answer_is ∙ ap (λ (x : List ℕ). length (items x)) t ∙ ap length i in
      let w : take (keeps_from (take n xs)) (items xs) ≡ items_of c.made =
      ap₂ (λ (j : ℕ) (x : List ℕ). take j (items x)) r c.whole_is ∙ first-items (coded c.made) c.over-cut in
      let v : restarts_as (items xs) (keeps_from (take n xs)) ≡ record { phase = closed; table = last_of c.book.table; book = items_of c.made } =
      ap (λ (x : List Item). restarted (restart_of x) x) w ∙ ap (λ (x : Restart). restarted x (items_of c.made)) (made_restarts c.made) in
      subst (λ (x : Member). Comes date (restart_from market (take n xs)) x) (sym v)
      (comes_as q (record {
        good = record { many = c.items; made = c.made };
        is = ap (λ (x : List Item). record { phase = closed; table = last_of c.book.table; book = x }) i;
      }))

  cut-within : {k : ℕ} {b : Book} {xs : List ℕ} → Made date k b xs → (market n : ℕ) → n ≤ length xs → Comes date (restart_from market (take n xs)) (restarts_as (items xs) (keeps_from (take n xs)))
  cut-within made market n l = ⊎_elim (λ (h : n < 16). cut_short made market n h) (λ (h : 16 ≤ n). cut_long made market n h l) (lt_or_le n 16)

  pub cut_as : {k : ℕ} {b : Book} {xs : List ℕ} → Made date k b xs → (market n : ℕ) → Comes date (restart_from market (take n xs)) (restarts_as (items xs) (keeps_from (take n xs)))
  cut_as {xs = xs} made market n =
      ⊎_elim
      (λ (h : n < length xs). cut-within made market n (omega arith))
      (λ (h : length xs ≤ n). subst (λ (x : List ℕ). Comes date (restart_from market x) (restarts_as (items xs) (keeps_from x))) (take-length xs ∙ sym (take_all n xs h)) (cut-within made market (length xs) (omega arith)))
      (lt_or_le n (length xs))

  -- ---- a login

  pub entries_fit : {k : ℕ} {b : Book} {xs : List ℕ} → Made date k b xs → (u : ℕ) → last_of b.table u < 4294967296
  entries_fit made u = let h = unit_few made u in let b = below made in omega (arith, counted made u, count_is made)

  closed_back : (p : Phase) → phase_of p ≡ closed → p ≡ Closed
  closed_back Closed e = refl
  closed_back Asked e = let z : ◌≡◌ {A = ℕ} 0 1 = cc in absurd (omega arith)
  closed_back Replaying e = let z : ◌≡◌ {A = ℕ} 0 1 = cc in absurd (omega arith)
  closed_back Live e = let z : ◌≡◌ {A = ℕ} 0 1 = cc in absurd (omega arith)

  module _ (f : Fields) (out : List ℕ) (s : Desk) where
    -- the login's record
    abbrev asked_for : Record
    asked_for = login_of_table s.session.book.table f

    pub logged : writes f out s ≡ true → login f out s ≡ desk_of Asked s.session.outgoing s.session.market s.session.book s.bytes
    unfolding login_of
    logged w = rw w

    -- a closed session's login is answered 0 only where the writer takes its record
    record_written : s.session.phase ≡ Closed → writes f out s ≡ true → logins.record_refusal asked_for (length out) ≡ 0
    unfolding login_of login_refusal
    record_written e w = rw e at (eqb-true (login_refusal s.session asked_for (length out)) 0 w)

    -- and then it stands in the front of the buffer that was lent
    pub login_stands : s.session.phase ≡ Closed → logins.record_refusal asked_for (length out) ≡ 0 → login_bytes f out s ≡ logins.session_bytes asked_for
    unfolding login_out logins.write_buffer patched
    login_stands e z =
        ap (λ (p : Phase). framed (cond (is_closed p) (logins.record_buffer asked_for out) out)) e
        ∙ ap (λ (q : Bool). framed (cond q (patched out 0 (logins.session_bytes asked_for)) out)) (eq-eqb (logins.record_refusal asked_for (length out)) 0 z)
        ∙ framed_as_written asked_for (length out) (record { body-length = body_long s.session.book.table f }) z (drop (0 + length (logins.session_bytes asked_for)) out)

    pub our_login : phase_of s.session.phase ≡ closed → writes f out s ≡ true → Good date s → OurLogin (login_bytes f out s)
    our_login e w g =
        let c = closed_back s.session.phase e in
        let z = record_written c w in
        record { table = s.session.book.table; fit = entries_fit g.made; fields = f; room = length out; written = z; is = login_stands c z }

    pub our_login_lists : (e : phase_of s.session.phase ≡ closed) (w : writes f out s ≡ true) (g : Good date s) → lists (login_bytes f out s) ≡ last_of s.session.book.table
    unfolding our_login
    our_login_lists e w g = our_lists (our_login e w g)

  -- ---- the whole

  pub gets-comes : (room : ℕ) (m : List ℕ) (s : Desk) → Fine m → Good date s → Comes date (gets room m s) (day.got (cap_of room) (says m) (seen s))
  gets-comes room m s f g = gets_as s.session.outgoing s.session.market g.made room m f s.session.phase (kind_of_lem m f)

  pub ended-comes : (room : ℕ) (s : Desk) → Good date s → Comes date (ended room s) (day.broken (cap_of room) (seen s))
  ended-comes room s g = breaks_as s.session.outgoing s.session.market g.made room s.session.phase

  -- an order goes out: the book stays
  pub sent_as : (room : ℕ) (given : List ℕ) (s : Desk) → Good date s → Comes date (sends room given s) (seen s)
  unfolding order_of
  sent_as room given s g = by (eqb (order_refusal s.session given room) 0) refl
    where
      by : (q : Bool) → eqb (order_refusal s.session given room) 0 ≡ q → Comes date (sends room given s) (seen s)
      by true e = rw e (record { good = record { many = g.many; made = g.made }; is = refl })
      by false e = rw e (record { good = record { many = g.many; made = g.made }; is = refl })

  -- OUR MEMBER is one of the day's, opened for any market
  unfoldable pub our_member-meets : (market : ℕ) → MeetsMember our_line (our_member date market)
  our_member-meets market = record {
    view = seen;
    Good = Good date;
    phase_is = λ s. refl;
    table_is = λ s. refl;
    new_good = opened_good market;
    new_is = opened-seen market;
    login_good = λ f out s g e w. subst (Good date) (sym (logged f out s w)) (record { many = g.many; made = g.made });
    login_is = λ f out s g e w. ap seen (logged f out s w);
    login-ours = λ f out s g e w. our_login f out s e w g;
    login-lists = λ f out s g e w. our_login_lists f out s e w g;
    sends_good = λ room b s g. (sent_as room b s g).good;
    sends_is = λ room b s g. (sent_as room b s g).is;
    cap = cap_of;
    gets_good = λ room b s f g. (gets-comes room b s f g).good;
    gets_is = λ room b s f g. (gets-comes room b s f g).is;
    room_is = λ room b s f g. room_as_told s.session.outgoing s.session.market g.made room b f s.session.phase (kind_of_lem b f);
    ended_good = λ room s g. (ended-comes room s g).good;
    ended_is = λ room s g. (ended-comes room s g).is;
    keeps = λ k s. keeps_from (take k s.bytes);
    restart_good = λ again k s g r. (cut_as g.made again k).good;
    restart_is = λ again k s g r. (cut_as g.made again k).is;
  }
