-- What a line's bytes are to the session: by their type, and for an application message by the book. Assumes nothing.
use Rattle.std.specs.Prelude.{ℕ, suc, ◌+◌, ◌≤◌, ◌<◌, min, ◌≡◌, Bool, true, false, cond, not, ◌||◌, List, eqb, leb, ltb, length}
use Rattle.std.proofs.Math.Path.{refl}
use Rattle.std.proofs.Common.{sym, ap, ◌∙◌, arith}
use borrow.Author.Tests.{eq-eqb, ne_eqb, eqb-true, eqb-false, ltb-true, ltb-false, le-ltb, le-leb, lt-leb}
use Rattle.wire.specs.Header.{type_of, unit_of, number_of}
use Rattle.wire.specs.Frame.{frame_refusal}
use Rattle.table.specs.Table.{last_of, unit_refusal, entry_refusal, step_refusal}
use Rattle.table.proofs.TableLaws.{unit-taken, taken-is_next, next_is_taken}
use Rattle.orders.specs.Shapes.{sequenced, unsequenced}
use Rattle.orders.proofs.OrderLaws.{either, unsequenced_types, sequenced_has_a_unit}
use Rattle.messages.specs.Messages.{carries, own_refusal}
use Rattle.book.specs.declared.Book.{Book}
use Rattle.book.specs.Books.{limit, message_refusal, next_refusal, roomless, append_refusal}
use Rattle.book.proofs.BookLaws.{past_buffer, past-limit, by_count}
use Rattle.day_line.specs.Lines.{Fine}
use Rattle.session.specs.declared.Phase.TheVariants.{Asked, Replaying, Live}
use Rattle.session.specs.Sessions.{passes}
use Rattle.session.proofs.SessionLaws.{framed_and_carried, own_order, read_is_good}

-- ---- the types

-- a type that passes aside: a heartbeat's, and those of the unsequenced messages
pub record Aside (v : ℕ) : Type 0 where
  pub asked-out : passes Asked v ≡ false
  pub replaying_in : passes Replaying v ≡ true
  pub live_in : passes Live v ≡ true
  pub not_counted : sequenced v ≡ false
  pub no_response : eqb v 0x24 ≡ false
  pub no_complete : eqb v 0x13 ≡ false
  pub no_logout : eqb v 0x08 ≡ false
  pub aside_type : (eqb v 0x09 || unsequenced v) ≡ true

pub data Kind (m : List ℕ) : Type 0 where
  a_response : type_of m ≡ 0x24 → Kind m
  a_complete : type_of m ≡ 0x13 → Kind m
  a_logout : type_of m ≡ 0x08 → Kind m
  an_aside : (v : ℕ) → type_of m ≡ v → Aside v → Kind m
  an_acknowledgment : type_of m ≡ 0x25 → Kind m
  an_execution : type_of m ≡ 0x2C → Kind m

module _ (m : List ℕ) (f : Fine m) where
  pub frames : frame_refusal m ≡ 0
  frames = (framed_and_carried m f.reads).0

  carried : carries 1 (type_of m) ≡ true
  carried = ap (λ (x : List ℕ). carries 1 (type_of x)) (sym f.whole) ∙ (framed_and_carried m f.reads).1

  own : own_refusal m ≡ 0
  own = ap own_refusal (sym f.whole) ∙ (framed_and_carried m f.reads).2

  pub kind_of_lem : Kind m
  unfolding carries passes
  kind_of_lem =
      either (sequenced (type_of m) || unsequenced (type_of m))
      (either (sequenced (type_of m))
      (either (eqb (type_of m) 0x25) (λ h. an_acknowledgment (eqb-true (type_of m) 0x25 h)) (λ h. an_execution (eqb-true (type_of m) 0x2C h)))
      (λ h. an_aside (type_of m) refl (unsequenced_types Aside (record { asked-out = refl; replaying_in = refl; live_in = refl; not_counted = refl; no_response = refl; no_complete = refl; no_logout = refl; aside_type = refl }) (record { asked-out = refl; replaying_in = refl; live_in = refl; not_counted = refl; no_response = refl; no_complete = refl; no_logout = refl; aside_type = refl }) (record { asked-out = refl; replaying_in = refl; live_in = refl; not_counted = refl; no_response = refl; no_complete = refl; no_logout = refl; aside_type = refl }) (type_of m) h)))
      (either (eqb (type_of m) 0x24) (λ h. a_response (eqb-true (type_of m) 0x24 h))
      (either (eqb (type_of m) 0x08) (λ h. a_logout (eqb-true (type_of m) 0x08 h))
      (either (eqb (type_of m) 0x09) (λ h. an_aside 0x09 (eqb-true (type_of m) 0x09 h) (record { asked-out = refl; replaying_in = refl; live_in = refl; not_counted = refl; no_response = refl; no_complete = refl; no_logout = refl; aside_type = refl }))
      (λ h. a_complete (eqb-true (type_of m) 0x13 h)))))
      carried

-- ---- an application message and the book

-- what an application message of the line has
pub record Application (m : List ℕ) : Type 0 where
  pub venue : sequenced (type_of m) ≡ true
  pub reads : message_refusal m ≡ 0
  pub unit : unit_refusal (unit_of m) ≡ 0

application_by : (m : List ℕ) (f : Fine m) → sequenced (type_of m) ≡ true → Application m
application_by m f p =
    let u = sequenced_has_a_unit m (own_order m p (own m f)) p in
    record {
      venue = p;
      reads = read_is_good m f.reads (ap (λ (x : List ℕ). sequenced (type_of x)) f.whole ∙ p);
      unit = unit-taken (unit_of m) u.0 u.1;
    }

pub acknowledgment : (m : List ℕ) → Fine m → type_of m ≡ 0x25 → Application m
acknowledgment m f e = application_by m f (ap sequenced e)

pub execution : (m : List ℕ) → Fine m → type_of m ≡ 0x2C → Application m
execution m f e = application_by m f (ap sequenced e)

-- whether its number is the next of its unit
abbrev pub is_next : Book → List ℕ → Bool
is_next b m = eqb (number_of m) (suc (last_of b.table (unit_of m)))

-- whether a book of so many bytes has room
abbrev pub fits_in : ℕ → ℕ → ℕ → Bool
fits_in room length n = leb (length + n) (min room limit)

module _ (b : Book) (room : ℕ) (m : List ℕ) (f : Fine m) (a : Application m) where
  next_is : next_refusal b m ≡ entry_refusal (last_of b.table (unit_of m)) (number_of m)
  unfolding next_refusal step_refusal
  next_is = rw (eq-eqb (message_refusal m) 0 a.reads, f.whole, eq-eqb (unit_refusal (unit_of m)) 0 a.unit)

  pub not-next : is_next b m ≡ false → append_refusal b room m ≡ 0 → ⊥
  unfolding append_refusal
  not-next e z =
      let k : next_refusal b m ≡ 0 → ⊥ = λ y. eqb-false (number_of m) (suc (last_of b.table (unit_of m))) e (taken-is_next (last_of b.table (unit_of m)) (number_of m) (sym next_is ∙ y)) in
      k (rw (ne_eqb (next_refusal b m) 0 k) at z)

  next-zero : is_next b m ≡ true → next_refusal b m ≡ 0
  next-zero e =
      next_is ∙ ap (entry_refusal (last_of b.table (unit_of m))) (eqb-true (number_of m) (suc (last_of b.table (unit_of m))) e) ∙ next_is_taken (last_of b.table (unit_of m))

  pub append_is : is_next b m ≡ true → append_refusal b room m ≡ cond (roomless b room (length m)) 13 0
  unfolding append_refusal
  append_is e = rw (eq-eqb (next_refusal b m) 0 (next-zero e), f.whole)

-- room, of a book whose last mark lies in it and whose messages are fewer than the limit
pub room_is : (b : Book) (room n : ℕ) → b.last ≤ b.length → b.count < limit → roomless b room n ≡ not (fits_in room b.length n)
room_is b room n l c = by (ltb room (b.length + n)) (ltb limit (b.length + n)) refl refl
  where
    by : (p q : Bool) → ltb room (b.length + n) ≡ p → ltb limit (b.length + n) ≡ q → roomless b room n ≡ not (fits_in room b.length n)
    by true q e g =
        let h = ltb-true room (b.length + n) e in
        past_buffer b room n h ∙ sym (ap not (lt-leb (b.length + n) (min room limit) (omega arith)))
    by false true e g =
        let h = ltb-false room (b.length + n) e in
        let k = ltb-true limit (b.length + n) g in
        past-limit b room n h k ∙ sym (ap not (lt-leb (b.length + n) (min room limit) (omega arith)))
    by false false e g =
        let h = ltb-false room (b.length + n) e in
        let k = ltb-false limit (b.length + n) g in
        by_count b room n h k l ∙ le-ltb limit b.count (omega (arith, c)) ∙ sym (ap not (le-leb (b.length + n) (min room limit) (omega arith)))
