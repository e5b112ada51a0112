-- Laws about those words: from the abstract day's messages to bytes. Assumes nothing.
use Rattle.std.specs.Prelude.{ℕ, zero, suc, ◌-◌, ◌≤◌, ◌<◌, ◌⊎◌, ◌≡◌, refl, Bool, true, false, List, [], ◌∷◌, ◌++◌, map, eqb, length, take, drop}
use Rattle.std.proofs.Common.{inl, inr, ⊎_elim, sym, ap, subst, ◌∙◌, append-nil, append_assoc, arith, length-append, le-leb}
use Rattle.std.proofs.Math.Seq.{take-length}
use Rattle.std.proofs.lemmas.Bool.{lt-leb}
use Rattle.wire.specs.Header.{type_of, unit_of}
use Rattle.wire.specs.Frame.{framed}
use Rattle.orders.specs.Shapes.{sequenced}
use Rattle.book.specs.declared.Book.{Book}
use Rattle.book.proofs.BookLaws.{next}
use Rattle.book_restart.proofs.Cut.{Made, opens, books, marks, sound, Cut, appended_has}
use Rattle.day_model.specs.Model.{Msg, Item, mark, entry, item_size, size, onto, messages, keep}
use Rattle.day_model.specs.Model as day
use Rattle.day_model.specs.Story.{All}
use Rattle.day_line.specs.Lines.{msg_of}
use Rattle.session.specs.Booked.{item_of, item_length, is_mark, items_from, items, unless, first-items}
use Rattle.book.proofs.Sequenced.{booked_is_sequenced}
use Rattle.session.specs.MadeItems.{items_of, coded, made_items, made_size}
use Rattle.day_proved.specs.Words.{Bytes, in_book, of_unit, keep_item, within}

-- ---- messages as bytes

abbrev bodies : List Msg → List Bytes
bodies l = map (λ (m : Msg). m.body) l

-- of messages that are read from bytes
pub bodies-back : (l : List Bytes) → bodies (map msg_of l) ≡ l
bodies-back [] = refl
bodies-back (b ∷ l) = ap (λ (r : List Bytes). b ∷ r) (bodies-back l)

keep-bodies : (q : Bool) (b : Bytes) (r : List Msg) → bodies (keep q (msg_of b) r) ≡ keep q b (bodies r)
keep-bodies true b r = refl
keep-bodies false b r = refl

pub unit-bodies : (u : ℕ) (l : List Bytes) → bodies (day.of_unit u (map msg_of l)) ≡ of_unit u l
unit-bodies u [] = refl
unit-bodies u (b ∷ l) = keep-bodies (eqb u (unit_of b)) b (day.of_unit u (map msg_of l)) ∙ ap (keep (eqb u (unit_of b)) b) (unit-bodies u l)

pub take-bodies : (n : ℕ) (l : List Msg) → bodies (take n l) ≡ take n (bodies l)
take-bodies zero l = refl
take-bodies (suc n) [] = refl
take-bodies (suc n) (m ∷ l) = ap (λ (r : List Bytes). m.body ∷ r) (take-bodies n l)

pub bodies_long : (l : List Msg) → length (bodies l) ≡ length l
bodies_long [] = refl
bodies_long (m ∷ l) = ap suc (bodies_long l)

-- the messages of a book are read from their bytes
onto-back : (q : Bool) (n : ℕ) (b : Bytes) (r : List Msg) → map msg_of (bodies r) ≡ r → map msg_of (bodies (onto (day.pick q (mark n) (entry (msg_of b))) r)) ≡ onto (day.pick q (mark n) (entry (msg_of b))) r
onto-back true n b r e = e
onto-back false n b r e = ap (λ (l : List Msg). msg_of b ∷ l) e

from_back : (f : ℕ) (s : Bytes) → map msg_of (bodies (messages (items_from f s))) ≡ messages (items_from f s)
unfolding items_from item_of
from_back zero s = refl
from_back (suc f) s = by (eqb (length s) 0) (from_back f (drop (item_length s) s))
  where
    by : (q : Bool) → map msg_of (bodies (messages (items_from f (drop (item_length s) s)))) ≡ messages (items_from f (drop (item_length s) s))
        → map msg_of (bodies (messages (unless q (item_of s ∷ items_from f (drop (item_length s) s))))) ≡ messages (unless q (item_of s ∷ items_from f (drop (item_length s) s)))
    by true e = refl
    by false e = onto-back (is_mark s) _ (framed s) _ e

pub book-back : (s : Bytes) → map msg_of (in_book s) ≡ messages (items s)
book-back s = from_back (length s) s

-- those of a unit
pub booked-unit : (u : ℕ) (s : Bytes) → of_unit u (in_book s) ≡ bodies (day.of_unit u (messages (items s)))
booked-unit u s = sym (unit-bodies u (in_book s)) ∙ ap (λ (l : List Msg). bodies (day.of_unit u l)) (book-back s)

-- ---- what a cut keeps

-- as many items as end within k bytes, and no more
within_is : (is : List Item) (j k : ℕ) → size (take j is) ≤ k → (length is ≤ j) ⊎ (k < size (take (suc j) is)) → within k is ≡ take j is
within_is [] zero k h m = refl
within_is [] (suc j) k h m = refl
within_is (i ∷ is) zero k h m =
    ap (λ (q : Bool). keep_item q i (within (k - item_size i) is)) (lt-leb (item_size i) k (⊎_elim (λ (x : suc (length is) ≤ 0). (let z : ⊥ = omega arith in elim z [ ])) (λ (x : k < size (i ∷ [])). omega arith) m))
within_is (i ∷ is) (suc j) k h m =
    ap (λ (q : Bool). keep_item q i (within (k - item_size i) is)) (le-leb (item_size i) k (omega arith))
    ∙ ap (λ (r : List Item). i ∷ r)
    (within_is is j (k - item_size i) (omega arith)
    (⊎_elim (λ (x : suc (length is) ≤ suc j). inl (omega arith)) (λ (x : k < size (i ∷ take (suc j) is)). inr (omega arith)) m))

-- all of them, where they all end within it
pub within_all : (is : List Item) (k : ℕ) → size is ≤ k → within k is ≡ is
within_all is k h = within_is is (length is) k (subst (λ (x : List Item). size x ≤ k) (sym (take-length is)) h) (inl (omega arith)) ∙ take-length is

-- a made book of k items after its first mark has one more
pub items-many : {date k : ℕ} {b : Book} {xs : Bytes} (m : Made date k b xs) → length (items_of m) ≡ suc k
items-many opens = refl
items-many (books room s m h) = let n = items-many m in length-append (items_of m) (entry (msg_of (framed s)) ∷ []) ∙ omega arith
items-many (marks {b = b} room m h) = let n = items-many m in length-append (items_of m) (mark b.count ∷ []) ∙ omega arith

-- the items that a cut keeps are those that end within it
pub cut_keeps : {date k n : ℕ} {b : Book} {xs : Bytes} → Made date k b xs → (c : Cut date xs n) → within n (items xs) ≡ items_of c.made
cut_keeps {n = n} {xs = xs} m c =
    let is : List Item = items_of c.made in
    let w : take (length (items_of c.made)) (items xs) ≡ items_of c.made = ap (λ (x : Bytes). take (length (items_of c.made)) (items x)) c.whole_is ∙ first-items (coded c.made) c.over-cut in
    let s : size (take (length (items_of c.made)) (items xs)) ≤ n = omega (arith, ap size w, made_size c.made, c.good, c.short) in
    within_is (items xs) (length (items_of c.made)) n s
    (⊎_elim
    (λ (e : c.over-cut ≡ []). inl (let a : items xs ≡ items_of c.made = ap items (c.whole_is ∙ ap (λ (y : Bytes). c.kept ++ y) e ∙ append-nil c.kept) ∙ made_items c.made in omega (arith, ap length a)))
    (λ p. inr
    (let x : Bytes = p.0 in
    let o : xs ≡ (c.kept ++ p.0) ++ p.1 = c.whole_is ∙ ap (λ (y : Bytes). c.kept ++ y) p.4 ∙ sym (append_assoc c.kept p.0 p.1) in
    let v : take (length (items_of p.3)) (items xs) ≡ items_of p.3 = ap (λ (y : Bytes). take (length (items_of p.3)) (items y)) o ∙ first-items (coded p.3) p.1 in
    let l : length (items_of p.3) ≡ suc (length (items_of c.made)) = items-many p.3 ∙ ap suc (sym (items-many c.made)) in
    let u : size (take (suc (length (items_of c.made))) (items xs)) ≡ p.2.length = ap (λ (j : ℕ). size (take j (items xs))) (sym l) ∙ ap size v ∙ made_size p.3 in
    omega (arith, u, p.5, (sound p.3).at_end)))
    c.last_item) ∙ w

-- ---- what a book that was made holds is sequenced

-- an item more
all_more : (P : Bytes → Type 0) (is : List Item) (i : Item) → All P (bodies (messages is)) → All P (bodies (messages (i ∷ []))) → All P (bodies (messages (is ++ i ∷ [])))
all_more P [] i h k = k
all_more P (mark n ∷ is) i h k = all_more P is i h k
all_more P (entry m ∷ is) i h k = (h.0, all_more P is i h.1 k)

pub made_sequenced : {date k : ℕ} {b : Book} {xs : List ℕ} (m : Made date k b xs) → All (λ (x : Bytes). sequenced (type_of x) ≡ true) (bodies (messages (items_of m)))
made_sequenced opens = tt
made_sequenced (books {b = b} room s m h) =
    all_more (λ (x : Bytes). sequenced (type_of x) ≡ true) (items_of m) (entry (msg_of (framed s))) (made_sequenced m) (booked_is_sequenced s (next b s (appended_has b room s h).reads).0, tt)
made_sequenced (marks {b = b} room m h) = all_more (λ (x : Bytes). sequenced (type_of x) ≡ true) (items_of m) (mark b.count) (made_sequenced m) tt
