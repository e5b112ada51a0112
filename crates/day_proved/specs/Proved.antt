-- Demand 3, proved: what specs/Demand3.antt states. Assumes nothing.
use Rattle.std.specs.Prelude.{ℕ, ◌-◌, ◌≤◌, ◌<◌, ◌≡◌, Bool, false, eqb, take}
use Rattle.std.proofs.Math.Logic.{inl, inr}
use Rattle.std.proofs.Common.{⊎_elim, ◌∙◌, arith, take_all, take-take}
use Rattle.std.proofs.Math.Path.{refl, sym, ap, ap₂, subst}
use Rattle.std.proofs.Math.Bool.{true}
use mathlib.Core.List.{List, [], ◌∷◌, map}
use Rattle.std.proofs.Math.ListN.{length}
use Rattle.std.proofs.Math.Seq.{take-length, take-append_seam}
use Rattle.std.proofs.lemmas.Bool.{lt-leb}
use Rattle.wire.specs.Header.{type_of}
use Rattle.wire.proofs.FrameLaws.{lt_or_le}
use Rattle.table.specs.Table.{last_of}
use Rattle.orders.specs.Shapes.{sequenced}
use Rattle.session_messages.specs.Sessions as logins
use Rattle.session_logins.specs.LoginRequests.{whole_table, choice_of}
use Rattle.session_logins.proofs.LoginRequestLaws.{said-most, whole_is_written}
use Rattle.calendar.specs.Calendar.{is_day}
use Rattle.calendar.specs.CalendarLaws.{day_in_range}
use Rattle.book.specs.Answer as book_answers
use Rattle.book.specs.declared.Book.{Book}
use Rattle.book.specs.Books.{answer}
use Rattle.book_restart.specs.Restarts.{restart_of}
use Rattle.book_restart.proofs.Cut.{Made, sound, sixteen, Cut, cut, cut_22}
use Rattle.day_model.specs.Model.{Msg, Item, mark, size, count, Phase, closed, messages}
use Rattle.day_model.specs.Model as day
use Rattle.day_model.specs.Story.{All, a_login, a_taking, a_delivery, a_cut, now_login, now_taken}
use Rattle.day_model.proofs.BringsLaws.{lists_no_more}
use Rattle.day_model.specs.Generic.{Meets, Holds, holds, holds_all, seen, at_every_moment, when_a_replay_completes, replay_completes, CompletesAt}
use Rattle.day_model.specs.Halves.{VenueCode, both}
use Rattle.day_line.specs.Lines.{Fields, our_line, lists, login_of_table}
use Rattle.session.specs.declared.Phase as phases
use Rattle.session.specs.declared.Phase.TheVariants.{Closed, Asked, Replaying, Live}
use Rattle.session.specs.Answer as session_answers
use Rattle.session.proofs.SessionSteps.{login_asks}
use Rattle.session.specs.MemberDay.{Desk, opened, restarted_by, phase_of, writes, login_bytes, our_member}
use Rattle.session.specs.Booked.{items}
use Rattle.session.specs.MadeItems.{made_items, made_headed, made_size}
use Rattle.session.proofs.MemberSteps.{Good}
use Rattle.session.proofs.MemberGets.{says_complete}
use Rattle.session.proofs.MeetsMember.{opens_well, opened-empty, entries_fit, logged, login_stands, our_member-meets}
use Rattle.book.proofs.Sequenced.{booked_is_sequenced}
use Rattle.venue.specs.VenueDay.{our_venue, messages_in}
use Rattle.venue.specs.VenueView.{Wholly}
use Rattle.venue.proofs.VenueRuns.{messages_all}
use Rattle.venue.proofs.MeetsVenue.{meets, steps_told}
use Rattle.day_proved.specs.Words.{Bytes, in_book, of_unit, keep_item, within}
use Rattle.day_proved.specs.WordLaws.{unit-bodies, take-bodies, bodies_long, booked-unit, within_all, cut_keeps, made_sequenced}
use Rattle.day_proved.specs.Demand3.{SuchAVenue, day_of, Event, Moment, after, then, book, HoldsFirsts, AtEveryMoment, Restarts, EachRestart, Completes, WhenAReplayCompletes, Valid, Asks, ALoginIsWritten, Taken, AVenueTakesIt, TheReplayCompletes, OnlySequenced, OnlySequencedInTheBook, OnlySequencedInTheLog, TheBenchIsSuchAVenue}

-- a phase is known by how the abstract day sees it
phase_back : (p q : phases.Phase) → phase_of p ≡ phase_of q → p ≡ q
phase_back Closed Closed e = refl
phase_back Closed Asked e = let z : ◌≡◌ {A = ℕ} 0 1 = cc in absurd (omega arith)
phase_back Closed Replaying e = let z : ◌≡◌ {A = ℕ} 0 1 = cc in absurd (omega arith)
phase_back Closed Live e = let z : ◌≡◌ {A = ℕ} 0 1 = cc in absurd (omega arith)
phase_back Asked Closed e = let z : ◌≡◌ {A = ℕ} 0 1 = cc in absurd (omega arith)
phase_back Asked Asked e = refl
phase_back Asked Replaying e = let z : ◌≡◌ {A = ℕ} 0 1 = cc in absurd (omega arith)
phase_back Asked Live e = let z : ◌≡◌ {A = ℕ} 0 1 = cc in absurd (omega arith)
phase_back Replaying Closed e = let z : ◌≡◌ {A = ℕ} 0 1 = cc in absurd (omega arith)
phase_back Replaying Asked e = let z : ◌≡◌ {A = ℕ} 0 1 = cc in absurd (omega arith)
phase_back Replaying Replaying e = refl
phase_back Replaying Live e = let z : ◌≡◌ {A = ℕ} 0 1 = cc in absurd (omega arith)
phase_back Live Closed e = let z : ◌≡◌ {A = ℕ} 0 1 = cc in absurd (omega arith)
phase_back Live Asked e = let z : ◌≡◌ {A = ℕ} 0 1 = cc in absurd (omega arith)
phase_back Live Replaying e = let z : ◌≡◌ {A = ℕ} 0 1 = cc in absurd (omega arith)
phase_back Live Live e = refl

-- ---- books that are cut short

-- the first mark alone is 16 bytes, so that a shorter cut keeps nothing whole
within-short : {date k : ℕ} {b : Book} {xs : Bytes} (m : Made date k b xs) (n : ℕ) → n < 16 → within n (items xs) ≡ []
within-short {xs = xs} m n h =
    let r = made_headed m in
    ap (within n) (made_items m ∙ r.1) ∙ ap (λ (q : Bool). keep_item q (mark 0) (within (n - 16) r.0)) (lt-leb 16 n h)

-- a cut past the end keeps all
within_more : {date k : ℕ} {b : Book} {xs : Bytes} (m : Made date k b xs) (n : ℕ) → length xs ≤ n → within n (items xs) ≡ within (length xs) (items xs)
within_more {xs = xs} m n h =
    let s : size (items xs) ≡ length xs = ap size (made_items m) ∙ made_size m ∙ (sound m).at_end in
    within_all (items xs) n (omega arith) ∙ sym (within_all (items xs) (length xs) (omega arith))

-- the bytes that a cut keeps
cut-bytes : {date n : ℕ} {xs : Bytes} (c : Cut date xs n) → take c.book.length (take n xs) ≡ c.kept
cut-bytes {n = n} {xs = xs} c =
    ap (λ (i : ℕ). take i (take n xs)) c.good ∙ take-take (length c.kept) n xs c.short ∙ ap (take (length c.kept)) c.whole_is ∙ take-append_seam c.kept c.over-cut

module _ (date : ℕ) (d : is_day date ≡ true) (market : ℕ) (X : VenueCode) (such : SuchAVenue X) where
  pub small : date < 4294967296
  small = omega (arith, (day_in_range date d).1)

  pub the : Meets (day_of date market X)
  the = both our_line (our_member date market) X (our_member-meets date d small market) such

  -- 1
  pub moment : (es : List Event) (u : ℕ) → HoldsFirsts date market X (after date market X es) u
  unfolding the our_member-meets
  moment es u =
      let h = at_every_moment (day_of date market X) the es u in
      let w = after date market X es in
      record {
        firsts = booked-unit u w.member.bytes ∙ ap (map (λ (m : Msg). m.body)) h.firsts ∙ take-bodies (last_of w.member.session.book.table u) _ ∙ ap (take (last_of w.member.session.book.table u)) (unit-bodies u (X.log_of w.venue));
        many = ap length (booked-unit u w.member.bytes) ∙ bodies_long (day.of_unit u (messages (items w.member.bytes))) ∙ h.many;
      }

  -- 3
  completed : (es : List Event) (room : ℕ) → Completes date market X (after date market X es) room → (after date market X es).refused ≡ false
      → (u : ℕ) → of_unit u (in_book (book date market X (then date market X (after date market X es) (a_delivery room)))) ≡ of_unit u (after date market X es).held
  unfolding the our_member-meets
  completed es room c r u =
      let k : CompletesAt (day_of date market X) the (after date market X es) room = record { was = ap phase_of c.was; is = ap phase_of c.is } in
      booked-unit u (book date market X (then date market X (after date market X es) (a_delivery room)))
      ∙ ap (map (λ (m : Msg). m.body)) (when_a_replay_completes (day_of date market X) the es room k r u)
      ∙ unit-bodies u (after date market X es).held

  -- 2
  pub good_of : (es : List Event) → Good date (after date market X es).member
  unfolding the our_member-meets
  good_of es = (holds (day_of date market X) the es).good.member

  cut_short : (w : Moment date market X) (g : Good date w.member) (told k : ℕ) → k < 16 → Restarts date market X w told k
  unfolding restarted_by
  cut_short w g told k h =
      let e = cut_22 date small d g.made k h in
      let q : (then date market X w (a_cut told k)).member ≡ opened told date = ap (λ (a : book_answers.Answer). restarted_by told date a (take k w.member.bytes)) e in
      record {
        restarted = inr (record { answers = e; opens = opens_well date d small; goes_on = q });
        kept = ap (λ (x : Desk). in_book x.bytes) q ∙ ap (map (λ (m : Msg). m.body)) (opened-empty date d small told ∙ sym (ap messages (within-short g.made k h)));
      }

  cut_long : (w : Moment date market X) (g : Good date w.member) (told k n : ℕ) → take k w.member.bytes ≡ take n w.member.bytes → within k (items w.member.bytes) ≡ within n (items w.member.bytes) → 16 ≤ n → n ≤ length w.member.bytes → Restarts date market X w told k
  unfolding restarted_by
  cut_long w g told k n t i h l =
      let c = cut date small d g.made n h l in
      let e : restart_of date (take k w.member.bytes) ≡ answer 0 c.book = ap (restart_of date) t ∙ c.answer_is in
      let q : (then date market X w (a_cut told k)).member.bytes ≡ c.kept =
      ap (λ (a : book_answers.Answer). (restarted_by told date a (take k w.member.bytes)).bytes) e ∙ ap (take c.book.length) t ∙ cut-bytes c in
      record {
        restarted = inl (record { answers = ap (λ (a : book_answers.Answer). a.refusal) e });
        kept = ap in_book q ∙ ap (λ (x : List Item). map (λ (m : Msg). m.body) (messages x)) (made_items c.made ∙ sym (i ∙ cut_keeps g.made c));
      }

  -- of any moment whose member is good
  pub restarts_from : (w : Moment date market X) → Good date w.member → (told k : ℕ) → Restarts date market X w told k
  restarts_from w g told k =
      ⊎_elim
      (λ (h : k < 16). cut_short w g told k h)
      (λ (h : 16 ≤ k). ⊎_elim
      (λ (l : k < length w.member.bytes). cut_long w g told k k refl refl h (omega arith))
      (λ (l : length w.member.bytes ≤ k).
      cut_long w g told k (length w.member.bytes) (take_all k w.member.bytes l ∙ sym (take-length w.member.bytes)) (within_more g.made k l) (sixteen g.made) (omega arith))
      (lt_or_le k (length w.member.bytes)))
      (lt_or_le k 16)

  restarts : (es : List Event) (told k : ℕ) → Restarts date market X (after date market X es) told k
  restarts es told k = restarts_from (after date market X es) (good_of es) told k

  -- a moment that the day can come to: its member is good, and so is the next moment's
  abbrev pub Reached : Moment date market X → Type 0
  Reached w = Holds (day_of date market X) the w

  pub at-dawn : Reached (after date market X [])
  at-dawn = holds (day_of date market X) the []

  pub goes_on : (e : Event) (w : Moment date market X) → Reached w → Reached (then date market X w e)
  goes_on e w h = holds_all (day_of date market X) the (e ∷ []) w h

  pub member_good : (w : Moment date market X) → Reached w → Good date w.member
  unfolding the our_member-meets
  member_good w h = h.good.member

  -- 4
  login-taken : (es : List Event) (f : Fields) (out : Bytes) → Valid f → 234 ≤ length out → logins.record_refusal (login_of_table (after date market X es).member.session.book.table f) (length out) ≡ 0
  login-taken es f out v h =
      let w = after date market X es in
      let t = w.member.session.book.table in
      let m = said-most t (choice_of t (whole_table f.full)) f.names f.acknowledgments f.executions f.long in
      whole_is_written t (whole_table f.full) f.names f.acknowledgments f.executions (length out) f.long v.names v.acknowledgments v.executions
      (omega (arith, m, h)) f.full refl (entries_fit date d small (good_of es).made)

  pub login-writes : (es : List Event) (f : Fields) (out : Bytes) → Valid f → 234 ≤ length out → (after date market X es).member.session.phase ≡ Closed → writes f out (after date market X es).member ≡ true
  login-writes es f out v h e =
      let w = after date market X es in
      ap (λ (a : session_answers.Answer). eqb a.refusal 0) (login_asks w.member.session (login_of_table w.member.session.book.table f) out e (login-taken es f out v h)).0

  -- the moment after it
  pub logs_in_lem : (es : List Event) (f : Fields) (out : Bytes) → Valid f → 234 ≤ length out → (after date market X es).member.session.phase ≡ Closed
      → then date market X (after date market X es) (a_login f out) ≡ now_login (day_of date market X) closed true f out (after date market X es)
  logs_in_lem es f out v h e = ap₂ (λ (a : Phase) (b : Bool). now_login (day_of date market X) a b f out (after date market X es)) (ap phase_of e) (login-writes es f out v h e)

  written : (es : List Event) (f : Fields) (out : Bytes) → Valid f → 234 ≤ length out → (after date market X es).member.session.phase ≡ Closed
      → Asks date market X f out (after date market X es) (then date market X (after date market X es) (a_login f out))
  written es f out v h e =
      let w = after date market X es in
      subst (Asks date market X f out w) (sym (logs_in_lem es f out v h e))
      (record { phase = ap (λ (x : Desk). x.session.phase) (logged date d small f out w.member (login-writes es f out v h e)); asks = refl; asking = refl; written = login_stands date d small f out w.member e (login-taken es f out v h) })

  -- it lists no more of a unit than the log holds
  pub lists-low : (es : List Event) (f : Fields) (out : Bytes) → Valid f → 234 ≤ length out → (after date market X es).member.session.phase ≡ Closed
      → (u : ℕ) → lists (login_bytes f out (after date market X es).member) u ≤ count u (such.view_v (after date market X es).venue).log
  unfolding the our_member-meets
  lists-low es f out v h e u =
      let w = after date market X es in
      let now : Moment date market X = now_login (day_of date market X) closed true f out (after date market X es) in
      let k : Holds (day_of date market X) the (now_login (day_of date market X) closed true f out (after date market X es)) =
      subst (Holds (day_of date market X) the) (logs_in_lem es f out v h e) (holds_all (day_of date market X) the (a_login f out ∷ []) w (holds (day_of date market X) the es)) in
      lists_no_more (seen (day_of date market X) the now) k.inv refl u

  pub venue_good : (es : List Event) → such.GoodV (after date market X es).venue
  unfolding the our_member-meets
  venue_good es = (holds (day_of date market X) the es).good.venue

  takes : (es : List Event) (room : ℕ) → (after date market X es).asks ≡ true → X.running (after date market X es).venue ≡ false → such.answer_room ≤ room
      → Taken date market X (after date market X es) (then date market X (after date market X es) (a_taking room))
  unfolding the our_member-meets
  takes es room a r h =
      let w = after date market X es in
      let g = (holds (day_of date market X) the es).good in
      let y = such.accepts-ours room w.asking w.venue (g.asking a) g.venue r h in
      let q : then date market X w (a_taking room) ≡ now_taken (day_of date market X) true true room w = ap₂ (λ (b c : Bool). now_taken (day_of date market X) b c room w) a y in
      let v = such.strays_is room w.asking w.venue y g.venue in
      subst (Taken date market X w) (sym q)
      (record { running = sym (such.running_is (X.takes_login room w.asking w.venue)) ∙ ap (λ (x : day.Venue). x.running) v.1; joined = refl; held = refl })

  completes : (es : List Event) (room : ℕ) (b : Bytes) (rest : List Bytes) → (after date market X es).left ≡ false → (after date market X es).queue ≡ b ∷ rest → type_of b ≡ 0x13
      → Completes date market X (after date market X es) room
  unfolding the our_member-meets
  completes es room b rest l q t =
      let k = replay_completes (day_of date market X) the es room rest b l q (says_complete b t) in
      record { was = phase_back _ Replaying k.was; is = phase_back _ Live k.is }

  -- only sequenced messages
  only_sequenced : (es : List Event) → OnlySequenced (in_book (book date market X (after date market X es)))
  only_sequenced es =
      let g = good_of es in
      subst OnlySequenced (sym (ap (λ (x : List Item). map (λ (m : Msg). m.body) (messages x)) (made_items g.made))) (made_sequenced g.made)

pub at_every_moment_the_book_holds_the_firsts : AtEveryMoment
at_every_moment_the_book_holds_the_firsts date d market X such es u = moment date d market X such es u

pub when_a_replay_completes_the_book_is_whole : WhenAReplayCompletes
when_a_replay_completes_the_book_is_whole date d market X such es room c r u = completed date d market X such es room c r u

pub only_sequenced_in_the_book : OnlySequencedInTheBook
only_sequenced_in_the_book date d market X such es = only_sequenced date d market X such es

-- the log of a good state of the bench
log-sequenced : (ms : List Bytes) → All Wholly ms → OnlySequenced ms
log-sequenced [] h = tt
log-sequenced (m ∷ ms) h = (ap (λ (x : Bytes). sequenced (type_of x)) (sym h.0.alone) ∙ booked_is_sequenced m h.0.reads, log-sequenced ms h.1)

pub only_sequenced_in_the_log : OnlySequencedInTheLog
unfolding the our_member-meets meets
only_sequenced_in_the_log date d market es =
    let w = after date market our_venue es in
    let g = (holds (day_of date market our_venue) (the date d market our_venue meets) es).good.venue in
    subst OnlySequenced (sym (ap messages_in g.log.is ∙ messages_all g.messages g.log.whole)) (log-sequenced g.messages g.log.whole)

pub the_bench_is_such_a_venue : TheBenchIsSuchAVenue
unfolding meets steps_told
the_bench_is_such_a_venue = record { such = meets; for_an_answer = refl; told = steps_told; for_a_step = refl }

pub each_restart_keeps_every_whole_message : EachRestart
each_restart_keeps_every_whole_message date d market X such es told k = restarts date d market X such es told k

pub a_login_is_written : ALoginIsWritten
a_login_is_written date d market X such es f out v h e = written date d market X such es f out v h e

pub a_venue_takes_it : AVenueTakesIt
a_venue_takes_it date d market X such es room a r h = takes date d market X such es room a r h

pub the_replay_completes : TheReplayCompletes
the_replay_completes date d market X such es room b rest l q t = completes date d market X such es room b rest l q t
