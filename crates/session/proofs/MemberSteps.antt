-- What each call of the member does to its book, and that the abstract day's member does the same. Assumes nothing.
use Prim.Native.Nat.{ℕ, suc, ◌+◌, ◌-◌, ◌≤◌, min}
use Rattle.std.specs.Prelude.{◌≡◌, Bool}
use Rattle.std.proofs.Math.Path.{refl, ap, ap₂}
use Rattle.std.proofs.Common.{sym, subst, ◌∙◌, true≢false, arith}
use Rattle.std.proofs.Math.Bool.{true, false, not}
use mathlib.Core.List.{List, [], ◌∷◌, ◌++◌}
use Rattle.std.proofs.Math.Dec.{leb}
use Rattle.std.proofs.Math.ListN.{length}
use Rattle.numbers.specs.Numbers.{patched}
use Rattle.wire.specs.Frame.{framed}
use Rattle.table.specs.declared.OutgoingNumber.{OutgoingNumber}
use Rattle.table.specs.Table.{last_of}
use Rattle.orders.specs.declared.Market.{Market}
use Rattle.book.specs.declared.Book.{Book}
use Rattle.book.specs.Books.{limit, mark_bytes, roomless, append_refusal, appended_by, marked, close_of, close_buffer}
use Rattle.book.proofs.BookLaws.{has_room}
use Rattle.book_restart.proofs.Steps.{mark_long}
use Rattle.book_restart.proofs.Cut.{Made, marks, sound}
use Rattle.day_model.specs.Model.{Item, mark, size, messages, Member, with_mark, ends, closed}
use Rattle.day_line.specs.Lent.{lent, kept, lent_long, kept_same, kept_more}
use Rattle.session.specs.declared.Phase.{Phase}
use Rattle.session.specs.declared.Phase.TheVariants.{Closed}
use Rattle.session.specs.Sessions.{ended_by}
use Rattle.session.specs.Booked.{items}
use Rattle.session.specs.MemberDay.{Desk, desk_after, phase_of}
use Rattle.session.proofs.MemberKinds.{room_is}
use Rattle.session.specs.MadeItems.{below, made_items, made_counts, made_size}

-- how much of a lent buffer a book may use
abbrev pub cap_of : ℕ → ℕ
cap_of room = min room limit

-- the desk as the abstract day's member
abbrev pub seen : Desk → Member
seen d = record { phase = phase_of d.session.phase; table = last_of d.session.book.table; book = items d.bytes }

-- its book is one that was made for the day
pub record Good (date : ℕ) (d : Desk) : Type 0 where
  pub many : ℕ
  pub made : Made date many d.session.book d.bytes

abbrev pub desk_of : Phase → OutgoingNumber → Market → Book → List ℕ → Desk
desk_of p o market b bytes = record { session = record { phase = p; outgoing = o; market = market; book = b }; bytes = bytes }

-- a call's outcome, that it is good, and how it is seen
pub record Comes (date : ℕ) (d : Desk) (v : Member) : Type 0 where
  pub good : Good date d
  pub is : seen d ≡ v

pub comes_as : {date : ℕ} {d e : Desk} {v : Member} → d ≡ e → Comes date e v → Comes date d v
comes_as {date} {d} {e} {v} q c = subst (λ (x : Desk). Comes date x v) (sym q) c

module _ {date k : ℕ} {b : Book} {bytes : List ℕ} (made : Made date k b bytes) where
  pub at_end : b.length ≡ length bytes
  at_end = (sound made).at_end

  -- the state of a desk whose buffer was left as it was
  pub left_alone : (p : Phase) (o : OutgoingNumber) (market : Market) (room : ℕ) → desk_after (record { phase = p; outgoing = o; market = market; book = b }) room (lent room bytes) bytes ≡ desk_of p o market b bytes
  left_alone p o market room = ap (desk_of p o market b) (ap (λ (n : ℕ). kept n room (lent room bytes) bytes) at_end ∙ kept_same room bytes)

  pub as_it_was : (p : Phase) (o : OutgoingNumber) (market : Market) → Comes date (desk_of p o market b bytes) (record { phase = phase_of p; table = last_of b.table; book = items bytes })
  as_it_was p o market = record { good = record { many = k; made = made }; is = refl }

  pub size_is : size (items bytes) ≡ b.length
  size_is = ap size (made_items made) ∙ made_size made

  pub room_as : (room n : ℕ) → roomless b room n ≡ not (leb (size (items bytes) + n) (cap_of room))
  room_as room n = room_is b room n (sound made).last_in_lem (below made) ∙ ap (λ (x : ℕ). not (leb (x + n) (cap_of room))) (sym size_is)

  -- ---- the session's end

  unmarked : (p : Phase) (o : OutgoingNumber) (market : Market) (room : ℕ) → roomless b room 16 ≡ true → Comes date (desk_after (ended_by (record { phase = p; outgoing = o; market = market; book = b }) room) room (close_buffer b (lent room bytes)) bytes)
      (ends (cap_of room) (record { phase = phase_of p; table = last_of b.table; book = items bytes }))
  unfolding ended_by close_of close_buffer
  unmarked p o market room e =
      let l : roomless b (length (lent room bytes)) 16 ≡ true = ap (λ (n : ℕ). roomless b n 16) (lent_long room bytes) ∙ e in
      let f : leb (size (items bytes) + 16) (cap_of room) ≡ false = negated (leb (size (items bytes) + 16) (cap_of room)) (sym (room_as room 16) ∙ e) in
      rw (l, e) (comes_as (left_alone Closed o market room)
      (record { good = record { many = k; made = made }; is = ap (λ (q : Bool). record { phase = closed; table = last_of b.table; book = with_mark q (items bytes) }) (sym f) }))
    where
      negated : (q : Bool) → not q ≡ true → q ≡ false
      negated false h = refl
      negated true h = absurd (true≢false (sym h))

  marked_too : (p : Phase) (o : OutgoingNumber) (market : Market) (room : ℕ) → roomless b room 16 ≡ false → Comes date (desk_after (ended_by (record { phase = p; outgoing = o; market = market; book = b }) room) room (close_buffer b (lent room bytes)) bytes)
      (ends (cap_of room) (record { phase = phase_of p; table = last_of b.table; book = items bytes }))
  unfolding ended_by close_of close_buffer
  marked_too p o market room e =
      let x = mark_bytes b.date b.count (b.length - b.last) in
      let l : roomless b (length (lent room bytes)) 16 ≡ false = ap (λ (n : ℕ). roomless b n 16) (lent_long room bytes) ∙ e in
      let f : leb (size (items bytes) + 16) (cap_of room) ≡ true = negated (leb (size (items bytes) + 16) (cap_of room)) (sym (room_as room 16) ∙ e) in
      let h : length bytes + length x ≤ room = omega (arith, mark_long b.date b.count (b.length - b.last), (has_room b room 16 e).in_buffer, at_end) in
      let n : b.length + 16 ≡ length bytes + length x = omega (arith, at_end, mark_long b.date b.count (b.length - b.last)) in
      let g : kept (b.length + 16) room (patched (lent room bytes) b.length x) bytes ≡ bytes ++ x =
      ap₂ (λ (i j : ℕ). kept i room (patched (lent room bytes) j x) bytes) n at_end ∙ kept_more room bytes x h in
      let m = marks room made e in
      let c : b.count ≡ length (messages (items bytes)) = made_counts made ∙ ap (λ (y : List Item). length (messages y)) (sym (made_items made)) in
      let i : items (bytes ++ x) ≡ items bytes ++ mark (length (messages (items bytes))) ∷ [] =
      made_items m ∙ ap₂ (λ (y : List Item) (j : ℕ). y ++ mark j ∷ []) (sym (made_items made)) c in
      rw (l, e) (comes_as (ap (desk_of Closed o market (marked b)) g)
      (record { good = record { many = suc k; made = m }; is = ap (λ (y : List Item). record { phase = closed; table = last_of b.table; book = y }) i ∙ ap (λ (q : Bool). record { phase = closed; table = last_of b.table; book = with_mark q (items bytes) }) (sym f) }))
    where
      negated : (q : Bool) → not q ≡ false → q ≡ true
      negated true h = refl
      negated false h = absurd (true≢false h)

  pub ends_as : (p : Phase) (o : OutgoingNumber) (market : Market) (room : ℕ) → Comes date (desk_after (ended_by (record { phase = p; outgoing = o; market = market; book = b }) room) room (close_buffer b (lent room bytes)) bytes)
      (ends (cap_of room) (record { phase = phase_of p; table = last_of b.table; book = items bytes }))
  ends_as p o market room = by (roomless b room 16) refl
    where
      by : (q : Bool) → roomless b room 16 ≡ q → Comes date (desk_after (ended_by (record { phase = p; outgoing = o; market = market; book = b }) room) room (close_buffer b (lent room bytes)) bytes)
          (ends (cap_of room) (record { phase = phase_of p; table = last_of b.table; book = items bytes }))
      by true e = unmarked p o market room e
      by false e = marked_too p o market room e

  -- ---- a message of the line that is the next of its unit, with room

  pub books_as : (p : Phase) (o : OutgoingNumber) (market : Market) (room : ℕ) (s : List ℕ) → framed s ≡ s → append_refusal b room s ≡ 0 → length bytes + length s ≤ room
      → desk_after (record { phase = p; outgoing = o; market = market; book = appended_by b s }) room (patched (lent room bytes) b.length s) bytes ≡ desk_of p o market (appended_by b s) (bytes ++ s)
  unfolding appended_by
  books_as p o market room s w z h =
      let n : b.length + length s ≡ length bytes + length s = omega (arith, at_end) in
      ap (desk_of p o market (appended_by b s)) (ap₂ (λ (i j : ℕ). kept i room (patched (lent room bytes) j s) bytes) n at_end ∙ kept_more room bytes s h)
