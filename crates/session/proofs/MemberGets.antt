-- What the member does with each message of the line is what the abstract day's member does. Assumes nothing.
use Prim.Native.Nat.{ℕ, suc, ◌+◌, ◌≤◌, min}
use Rattle.std.specs.Prelude.{◌≡◌, Bool, cond, not, ◌&&◌, eqb, leb, ltb, get_or}
use Rattle.std.proofs.Math.Path.{refl, sym, ap, ap₂, subst}
use Rattle.std.proofs.Common.{◌∙◌, arith}
use Rattle.std.proofs.Math.Bool.{true, false}
use mathlib.Core.List.{List, [], ◌∷◌, ◌++◌}
use Rattle.std.proofs.Math.ListN.{length}
use borrow.Author.Tests.{eq-eqb, ne_eqb, lt-ltb, le-ltb, leb-true, leb-false}
use Rattle.numbers.specs.Numbers.{patched}
use Rattle.wire.specs.Header.{type_of, unit_of, number_of}
use Rattle.wire.specs.Frame.{framed}
use Rattle.table.specs.declared.OutgoingNumber.{OutgoingNumber}
use Rattle.table.specs.Table.{last_of}
use Rattle.orders.specs.declared.Market.{Market}
use Rattle.orders.specs.Shapes.{sequenced}
use Rattle.messages.specs.Messages.{read_refusal}
use Rattle.book.specs.declared.Book.{Book}
use Rattle.book.specs.Books.{limit, roomless, append_refusal, appended_by, close_buffer}
use Rattle.book.proofs.BookLaws.{next}
use Rattle.book_restart.proofs.Cut.{Made, books, appended_has}
use Rattle.book_restart.proofs.Kept.{table_long}
use Rattle.day_model.specs.Model.{Item, entry, size, Table, bump, Sent, response, message, complete, aside, logout, Member, ends, takes, got, full}
use Rattle.day_line.specs.Lines.{msg_of, says, Fine}
use Rattle.day_line.specs.Lent.{lent, lent_long}
use Rattle.session.specs.declared.Phase.{Phase}
use Rattle.session.specs.declared.Phase.TheVariants.{Closed, Asked, Replaying, Live}
use Rattle.session.specs.declared.Session.{Session}
use Rattle.session.specs.Sessions.{is_closed, is_open, passes, ended_by, receive_refusal, received_by, receive_of, received_buffer, receive_buffer, responded_by, responded_buffer, received_in}
use Rattle.session.specs.Booked.{items}
use Rattle.session.specs.MemberDay.{desk_after, gets, phase_of, refused_for_room}
use Rattle.session.proofs.MemberKinds.{Kind, a_response, a_complete, a_logout, an_aside, Aside, an_acknowledgment, an_execution, is_next, Application, acknowledgment, execution, not-next, append_is}
use Rattle.session.specs.MadeItems.{made_items, raised_is}
use Rattle.session.proofs.MemberSteps.{cap_of, seen, desk_of, Comes, comes_as, left_alone, as_it_was, at_end, size_is, room_as, ends_as, books_as}

-- ---- what bytes of a type say

module _ (m : List ℕ) where
  pub says_response : type_of m ≡ 0x24 → says m ≡ response (eqb (get_or m 10 0) 65)
  unfolding says
  says_response e = rw e

  pub says_complete : type_of m ≡ 0x13 → says m ≡ complete
  unfolding says
  says_complete e = rw e

  pub says_logout : type_of m ≡ 0x08 → says m ≡ logout
  unfolding says
  says_logout e = rw e

  pub says_aside : (v : ℕ) → type_of m ≡ v → Aside v → says m ≡ aside
  unfolding says
  says_aside v e a = rw (e, a.no_response, a.no_complete, a.no_logout, a.aside_type)

  says-acknowledgment : type_of m ≡ 0x25 → says m ≡ message (msg_of m)
  unfolding says
  says-acknowledgment e = rw e

  says_execution : type_of m ≡ 0x2C → says m ≡ message (msg_of m)
  unfolding says
  says_execution e = rw e

module _ {date k : ℕ} (o : OutgoingNumber) (market : Market) {b : Book} {bytes : List ℕ} (made : Made date k b bytes) (room : ℕ) (m : List ℕ) (f : Fine m) where
  abbrev state_in : Phase → Session
  state_in p = record { phase = p; outgoing = o; market = market; book = b }

  -- ---- its refusal, by phase and type

  refusal-at : (p : Phase) (v : ℕ) → type_of m ≡ v → receive_refusal (state_in p) room m ≡ cond (is_closed p) 16 (cond (passes p v) (cond (sequenced v) (append_refusal b room m) 0) 16)
  unfolding receive_refusal
  refusal-at p v e = rw (eq-eqb (read_refusal 1 m) 0 f.reads, f.whole, e)

  module _ (p : Phase) where
    lent-refusal : receive_refusal (state_in p) (length (lent room bytes)) m ≡ receive_refusal (state_in p) room m
    lent-refusal = ap (λ (n : ℕ). receive_refusal (state_in p) n m) (lent_long room bytes)

    refused : (receive_refusal (state_in p) room m ≡ 0 → ⊥) → gets room m (desk_of p o market b bytes) ≡ desk_of p o market b bytes
    unfolding receive_of receive_buffer
    refused n = rw (lent-refusal, ne_eqb (receive_refusal (state_in p) room m) 0 n) (left_alone made p o market room)

    taken : receive_refusal (state_in p) room m ≡ 0 → gets room m (desk_of p o market b bytes) ≡ desk_after (received_by (state_in p) room m) room (received_buffer (state_in p) (lent room bytes) m) bytes
    unfolding receive_of receive_buffer
    taken z = rw (lent-refusal, eq-eqb (receive_refusal (state_in p) room m) 0 z, f.whole)

    -- nothing changes
    stays : (receive_refusal (state_in p) room m ≡ 0 → ⊥) → (x : Sent) → says m ≡ x → got (cap_of room) x (seen (desk_of p o market b bytes)) ≡ seen (desk_of p o market b bytes)
        → Comes date (gets room m (desk_of p o market b bytes)) (got (cap_of room) (says m) (seen (desk_of p o market b bytes)))
    stays n x e q =
        comes_as (refused n)
        (subst (λ (v : Member). Comes date (desk_of p o market b bytes) v) (sym (ap (λ (y : Sent). got (cap_of room) y (seen (desk_of p o market b bytes))) e ∙ q)) (as_it_was made p o market))

    out_of_phase_lem : (v : ℕ) → type_of m ≡ v → cond (is_closed p) 16 (cond (passes p v) (cond (sequenced v) (append_refusal b room m) 0) 16) ≡ 16 → receive_refusal (state_in p) room m ≡ 0 → ⊥
    out_of_phase_lem v e h z = omega (arith, sym (refusal-at p v e ∙ h) ∙ z)

  -- ---- the kinds of session messages

  -- the session's end
  ending : (p : Phase) (v : ℕ) → type_of m ≡ v → receive_refusal (state_in p) room m ≡ 0
      → (received_by (state_in p) room m ≡ ended_by (state_in p) room) → (received_buffer (state_in p) (lent room bytes) m ≡ close_buffer b (lent room bytes))
      → (x : Sent) → says m ≡ x → got (cap_of room) x (seen (desk_of p o market b bytes)) ≡ ends (cap_of room) (seen (desk_of p o market b bytes))
      → Comes date (gets room m (desk_of p o market b bytes)) (got (cap_of room) (says m) (seen (desk_of p o market b bytes)))
  ending p v e z q r x y g =
      comes_as (taken p z ∙ ap₂ (λ (s : Session) (l : List ℕ). desk_after s room l bytes) q r)
      (subst (λ (w : Member). Comes date (desk_after (ended_by (state_in p) room) room (close_buffer b (lent room bytes)) bytes) w)
      (sym (ap (λ (t : Sent). got (cap_of room) t (seen (desk_of p o market b bytes))) y ∙ g)) (ends_as made p o market room))

  -- into another phase
  moving : (p q : Phase) (n : OutgoingNumber) → receive_refusal (state_in p) room m ≡ 0
      → received_by (state_in p) room m ≡ record { phase = q; outgoing = n; market = market; book = b } → received_buffer (state_in p) (lent room bytes) m ≡ lent room bytes
      → (x : Sent) → says m ≡ x → got (cap_of room) x (seen (desk_of p o market b bytes)) ≡ seen (desk_of q n market b bytes)
      → Comes date (gets room m (desk_of p o market b bytes)) (got (cap_of room) (says m) (seen (desk_of p o market b bytes)))
  moving p q n z s l x y g =
      comes_as (taken p z ∙ ap₂ (λ (t : Session) (u : List ℕ). desk_after t room u bytes) s l ∙ left_alone made q n market room)
      (subst (λ (w : Member). Comes date (desk_of q n market b bytes) w) (sym (ap (λ (t : Sent). got (cap_of room) t (seen (desk_of p o market b bytes))) y ∙ g)) (as_it_was made q n market))

  response_in_asked : type_of m ≡ 0x24 → (q : Bool) → eqb (get_or m 10 0) 65 ≡ q → Comes date (gets room m (desk_of Asked o market b bytes)) (got (cap_of room) (says m) (seen (desk_of Asked o market b bytes)))
  unfolding passes received_by received_buffer responded_by responded_buffer
  response_in_asked e true h =
      moving Asked Replaying (record { 0 = received_in m }) (refusal-at Asked 0x24 e) (rw (e, h)) (rw (e, h)) (response true) (says_response m e ∙ ap response h) refl
  response_in_asked e false h =
      ending Asked 0x24 e (refusal-at Asked 0x24 e) (rw (e, h)) (rw (e, h)) (response false) (says_response m e ∙ ap response h) refl

  logout_in : (p : Phase) → type_of m ≡ 0x08 → receive_refusal (state_in p) room m ≡ 0 → got (cap_of room) logout (seen (desk_of p o market b bytes)) ≡ ends (cap_of room) (seen (desk_of p o market b bytes))
      → Comes date (gets room m (desk_of p o market b bytes)) (got (cap_of room) (says m) (seen (desk_of p o market b bytes)))
  unfolding received_by received_buffer
  logout_in p e z g = ending p 0x08 e z (rw e) (rw e) logout (says_logout m e) g

  aside_in : (p : Phase) (v : ℕ) → type_of m ≡ v → Aside v → receive_refusal (state_in p) room m ≡ 0 → got (cap_of room) aside (seen (desk_of p o market b bytes)) ≡ seen (desk_of p o market b bytes)
      → Comes date (gets room m (desk_of p o market b bytes)) (got (cap_of room) (says m) (seen (desk_of p o market b bytes)))
  unfolding received_by received_buffer
  aside_in p v e a z g =
      moving p p o z (rw (e, a.no_response, a.no_complete, a.no_logout, a.not_counted)) (rw (e, a.no_response, a.no_complete, a.no_logout, a.not_counted)) aside (says_aside m v e a) g

  complete_in_replaying : type_of m ≡ 0x13 → Comes date (gets room m (desk_of Replaying o market b bytes)) (got (cap_of room) (says m) (seen (desk_of Replaying o market b bytes)))
  unfolding passes received_by received_buffer
  complete_in_replaying e = moving Replaying Live o (refusal-at Replaying 0x13 e) (rw e) (rw e) complete (says_complete m e) refl

  -- ---- a sequenced message

  module _ (p : Phase) (a : Application m) (said : says m ≡ message (msg_of m)) (passed : receive_refusal (state_in p) room m ≡ append_refusal b room m) (v : ℕ) (e : type_of m ≡ v)
      (book-after : received_by (state_in p) room m ≡ record { phase = p; outgoing = o; market = market; book = appended_by b m }) (buffer-after : received_buffer (state_in p) (lent room bytes) m ≡ patched (lent room bytes) b.length m)
      (takes_it_lem : got (cap_of room) (message (msg_of m)) (seen (desk_of p o market b bytes)) ≡ takes (is_next b m) (leb (size (items bytes) + length m) (cap_of room)) (msg_of m) (seen (desk_of p o market b bytes))) where
    abbrev goal : Type 0
    goal = Comes date (gets room m (desk_of p o market b bytes)) (got (cap_of room) (says m) (seen (desk_of p o market b bytes)))

    books_it : is_next b m ≡ true → leb (size (items bytes) + length m) (cap_of room) ≡ true → append_refusal b room m ≡ 0 → goal
    unfolding appended_by
    books_it n r z =
        let h = leb-true (size (items bytes) + length m) (cap_of room) r in
        let l : length bytes + length m ≤ room = omega (arith, h, size_is made, at_end made) in
        let made' : Made date (suc k) (appended_by b m) (bytes ++ m) = subst (λ (x : List ℕ). Made date (suc k) (appended_by b x) (bytes ++ x)) f.whole (books room m made z) in
        let d : gets room m (desk_of p o market b bytes) ≡ desk_of p o market (appended_by b m) (bytes ++ m) =
        taken p (passed ∙ z) ∙ ap₂ (λ (s : Session) (y : List ℕ). desk_after s room y bytes) book-after buffer-after ∙ books_as made p o market room m f.whole z l in
        let w : items (bytes ++ m) ≡ items bytes ++ entry (msg_of m) ∷ [] =
        ap (λ (x : List ℕ). items (bytes ++ x)) (sym f.whole) ∙ made_items (books room m made z) ∙ ap₂ (λ (x : List Item) (y : List ℕ). x ++ entry (msg_of y) ∷ []) (sym (made_items made)) f.whole in
        let st = (next b m (appended_has b room m z).reads).1 in
        let t : last_of (appended_by b m).table ≡ bump (last_of b.table) (unit_of m) =
        ap (λ (x : List ℕ). last_of (appended_by b x).table) (sym f.whole) ∙ sym (raised_is b.table (unit_of (framed m)) (number_of (framed m)) b.length (table_long made) st) ∙ ap (λ (x : List ℕ). bump (last_of b.table) (unit_of x)) f.whole in
        let g : got (cap_of room) (says m) (seen (desk_of p o market b bytes)) ≡ takes true true (msg_of m) (seen (desk_of p o market b bytes)) =
        ap (λ (x : Sent). got (cap_of room) x (seen (desk_of p o market b bytes))) said ∙ takes_it_lem ∙ ap₂ (λ (x y : Bool). takes x y (msg_of m) (seen (desk_of p o market b bytes))) n r in
        subst (λ (x : Member). Comes date (gets room m (desk_of p o market b bytes)) x) (sym g)
        (comes_as d (record {
          good = record { many = suc k; made = made' };
          is = ap₂ (λ (x : Table) (y : List Item). record { phase = phase_of p; table = x; book = y }) t w;
        }))

    leaves_it : (x y : Bool) → is_next b m ≡ x → leb (size (items bytes) + length m) (cap_of room) ≡ y → takes x y (msg_of m) (seen (desk_of p o market b bytes)) ≡ seen (desk_of p o market b bytes) → (append_refusal b room m ≡ 0 → ⊥) → goal
    leaves_it x y n r q h =
        stays p (λ z. h (sym passed ∙ z)) (message (msg_of m)) said (takes_it_lem ∙ ap₂ (λ (c d : Bool). takes c d (msg_of m) (seen (desk_of p o market b bytes))) n r ∙ q)

    no_room : is_next b m ≡ true → leb (size (items bytes) + length m) (cap_of room) ≡ false → append_refusal b room m ≡ 0 → ⊥
    no_room n r z =
        let q : roomless b room (length m) ≡ true = room_as made room (length m) ∙ ap not r in
        omega (arith, sym (append_is b room m f a n ∙ ap (λ (c : Bool). cond c 13 0) q) ∙ z)

    has_it : is_next b m ≡ true → leb (size (items bytes) + length m) (cap_of room) ≡ true → append_refusal b room m ≡ 0
    has_it n r = append_is b room m f a n ∙ ap (λ (c : Bool). cond c 13 0) (room_as made room (length m) ∙ ap not r)

    application_by : (x y : Bool) → is_next b m ≡ x → leb (size (items bytes) + length m) (cap_of room) ≡ y → goal
    application_by true true n r = books_it n r (has_it n r)
    application_by true false n r = leaves_it true false n r refl (no_room n r)
    application_by false y n r = leaves_it false y n r refl (not-next b room m f a n)

    application_in : goal
    application_in = application_by (is_next b m) (leb (size (items bytes) + length m) (cap_of room)) refl refl

  application_replaying : (v : ℕ) → type_of m ≡ v → Application m → says m ≡ message (msg_of m) → sequenced v ≡ true
      → received_by (state_in Replaying) room m ≡ record { phase = Replaying; outgoing = o; market = market; book = appended_by b m } → received_buffer (state_in Replaying) (lent room bytes) m ≡ patched (lent room bytes) b.length m
      → Comes date (gets room m (desk_of Replaying o market b bytes)) (got (cap_of room) (says m) (seen (desk_of Replaying o market b bytes)))
  unfolding passes
  application_replaying v e a said o' ba bu = application_in Replaying a said (refusal-at Replaying v e ∙ rw o') v e ba bu refl

  application_live : (v : ℕ) → type_of m ≡ v → Application m → says m ≡ message (msg_of m) → sequenced v ≡ true
      → received_by (state_in Live) room m ≡ record { phase = Live; outgoing = o; market = market; book = appended_by b m } → received_buffer (state_in Live) (lent room bytes) m ≡ patched (lent room bytes) b.length m
      → Comes date (gets room m (desk_of Live o market b bytes)) (got (cap_of room) (says m) (seen (desk_of Live o market b bytes)))
  unfolding passes
  application_live v e a said o' ba bu = application_in Live a said (refusal-at Live v e ∙ rw o') v e ba bu refl

  -- ---- every phase and kind

  pub gets_as : (p : Phase) → Kind m → Comes date (gets room m (desk_of p o market b bytes)) (got (cap_of room) (says m) (seen (desk_of p o market b bytes)))
  unfolding passes received_by received_buffer
  gets_as Closed (a_response e) = stays Closed (out_of_phase_lem Closed 0x24 e refl) _ (says_response m e) refl
  gets_as Closed (a_complete e) = stays Closed (out_of_phase_lem Closed 0x13 e refl) _ (says_complete m e) refl
  gets_as Closed (a_logout e) = stays Closed (out_of_phase_lem Closed 0x08 e refl) _ (says_logout m e) refl
  gets_as Closed (an_aside v e a) = stays Closed (out_of_phase_lem Closed v e refl) _ (says_aside m v e a) refl
  gets_as Closed (an_acknowledgment e) = stays Closed (out_of_phase_lem Closed 0x25 e refl) _ (says-acknowledgment m e) refl
  gets_as Closed (an_execution e) = stays Closed (out_of_phase_lem Closed 0x2C e refl) _ (says_execution m e) refl
  gets_as Asked (a_response e) = response_in_asked e (eqb (get_or m 10 0) 65) refl
  gets_as Asked (a_complete e) = stays Asked (out_of_phase_lem Asked 0x13 e refl) _ (says_complete m e) refl
  gets_as Asked (a_logout e) = logout_in Asked e (refusal-at Asked 0x08 e) refl
  gets_as Asked (an_aside v e a) = stays Asked (out_of_phase_lem Asked v e (rw a.asked-out)) _ (says_aside m v e a) refl
  gets_as Asked (an_acknowledgment e) = stays Asked (out_of_phase_lem Asked 0x25 e refl) _ (says-acknowledgment m e) refl
  gets_as Asked (an_execution e) = stays Asked (out_of_phase_lem Asked 0x2C e refl) _ (says_execution m e) refl
  gets_as Replaying (a_response e) = stays Replaying (out_of_phase_lem Replaying 0x24 e refl) _ (says_response m e) refl
  gets_as Replaying (a_complete e) = complete_in_replaying e
  gets_as Replaying (a_logout e) = logout_in Replaying e (refusal-at Replaying 0x08 e) refl
  gets_as Replaying (an_aside v e a) = aside_in Replaying v e a (refusal-at Replaying v e ∙ rw (a.replaying_in, a.not_counted)) refl
  gets_as Replaying (an_acknowledgment e) = application_replaying 0x25 e (acknowledgment m f e) (says-acknowledgment m e) refl (rw e) (rw e)
  gets_as Replaying (an_execution e) = application_replaying 0x2C e (execution m f e) (says_execution m e) refl (rw e) (rw e)
  gets_as Live (a_response e) = stays Live (out_of_phase_lem Live 0x24 e refl) _ (says_response m e) refl
  gets_as Live (a_complete e) = stays Live (out_of_phase_lem Live 0x13 e refl) _ (says_complete m e) refl
  gets_as Live (a_logout e) = logout_in Live e (refusal-at Live 0x08 e) refl
  gets_as Live (an_aside v e a) = aside_in Live v e a (refusal-at Live v e ∙ rw (a.live_in, a.not_counted)) refl
  gets_as Live (an_acknowledgment e) = application_live 0x25 e (acknowledgment m f e) (says-acknowledgment m e) refl (rw e) (rw e)
  gets_as Live (an_execution e) = application_live 0x2C e (execution m f e) (says_execution m e) refl (rw e) (rw e)

  -- ---- refused for room

  over_is : (n : ℕ) → ltb (min room limit) (length bytes + n) ≡ not (leb (size (items bytes) + n) (cap_of room))
  over_is n = by (leb (size (items bytes) + n) (cap_of room)) refl
    where
      by : (q : Bool) → leb (size (items bytes) + n) (cap_of room) ≡ q → ltb (min room limit) (length bytes + n) ≡ not q
      by true e = let h = leb-true (size (items bytes) + n) (cap_of room) e in le-ltb (min room limit) (length bytes + n) (omega (arith, h, size_is made, at_end made))
      by false e = let h = leb-false (size (items bytes) + n) (cap_of room) e in lt-ltb (min room limit) (length bytes + n) (omega (arith, h, size_is made, at_end made))

  -- a message that is not sequenced is never
  never : (p : Phase) (v : ℕ) → type_of m ≡ v → sequenced v ≡ false → (x : Sent) → says m ≡ x → full (cap_of room) x (seen (desk_of p o market b bytes)) ≡ false
      → refused_for_room room m (desk_of p o market b bytes) ≡ full (cap_of room) (says m) (seen (desk_of p o market b bytes))
  unfolding refused_for_room
  never p v e n x y g = rw (e, n) (by (is_open p)) ∙ sym (ap (λ (t : Sent). full (cap_of room) t (seen (desk_of p o market b bytes))) y ∙ g)
    where
      by : (q : Bool) → (q && false) ≡ false
      by true = refl
      by false = refl

  in_phase_lem : (p : Phase) (v : ℕ) → type_of m ≡ v → sequenced v ≡ true → is_open p ≡ true → says m ≡ message (msg_of m)
      → full (cap_of room) (message (msg_of m)) (seen (desk_of p o market b bytes)) ≡ (is_next b m && not (leb (size (items bytes) + length m) (cap_of room)))
      → refused_for_room room m (desk_of p o market b bytes) ≡ full (cap_of room) (says m) (seen (desk_of p o market b bytes))
  unfolding refused_for_room
  in_phase_lem p v e n q y g = rw (e, n, q) (ap (λ (r : Bool). is_next b m && r) (over_is (length m))) ∙ sym (ap (λ (t : Sent). full (cap_of room) t (seen (desk_of p o market b bytes))) y ∙ g)

  not_open : (p : Phase) → is_open p ≡ false → (x : Sent) → says m ≡ x → full (cap_of room) x (seen (desk_of p o market b bytes)) ≡ false
      → refused_for_room room m (desk_of p o market b bytes) ≡ full (cap_of room) (says m) (seen (desk_of p o market b bytes))
  unfolding refused_for_room
  not_open p e x y g = rw e (sym (ap (λ (t : Sent). full (cap_of room) t (seen (desk_of p o market b bytes))) y ∙ g))

  pub room_as_told : (p : Phase) → Kind m → refused_for_room room m (desk_of p o market b bytes) ≡ full (cap_of room) (says m) (seen (desk_of p o market b bytes))
  room_as_told Closed q = not_open Closed refl (says m) refl refl
  room_as_told Asked q = not_open Asked refl (says m) refl refl
  room_as_told Replaying (a_response e) = never Replaying 0x24 e refl _ (says_response m e) refl
  room_as_told Replaying (a_complete e) = never Replaying 0x13 e refl _ (says_complete m e) refl
  room_as_told Replaying (a_logout e) = never Replaying 0x08 e refl _ (says_logout m e) refl
  room_as_told Replaying (an_aside v e a) = never Replaying v e a.not_counted _ (says_aside m v e a) refl
  room_as_told Replaying (an_acknowledgment e) = in_phase_lem Replaying 0x25 e refl refl (says-acknowledgment m e) refl
  room_as_told Replaying (an_execution e) = in_phase_lem Replaying 0x2C e refl refl (says_execution m e) refl
  room_as_told Live (a_response e) = never Live 0x24 e refl _ (says_response m e) refl
  room_as_told Live (a_complete e) = never Live 0x13 e refl _ (says_complete m e) refl
  room_as_told Live (a_logout e) = never Live 0x08 e refl _ (says_logout m e) refl
  room_as_told Live (an_aside v e a) = never Live v e a.not_counted _ (says_aside m v e a) refl
  room_as_told Live (an_acknowledgment e) = in_phase_lem Live 0x25 e refl refl (says-acknowledgment m e) refl
  room_as_told Live (an_execution e) = in_phase_lem Live 0x2C e refl refl (says_execution m e) refl
