-- What stands after the book in the buffer that is lent for it plays no part: of two buffers of one length with the same book in front, a call leaves
-- the same book in front.
--     receive_any_rest    any bytes from the venue
--     break_any_rest      a break
-- So the day of demand 3, which lends zeros after the book (`lent`, day_line/specs/Lent.antt), speaks of every buffer. Assumes nothing.
use Rattle.std.specs.Prelude.{ℕ, ◌+◌, ◌-◌, ◌≤◌, ◌<◌, ◌≡◌, cond, List, ◌++◌, length, drop}
use Rattle.std.proofs.Common.{⊎_elim, sym, ap, ◌∙◌, true≢false, append_assoc, arith, length-append, take_at, take_all, length-take-le}
use Rattle.std.proofs.Math.Bool.{Bool, true, false}
use Rattle.std.proofs.lemmas.Bool.{false≢true}
use Rattle.std.proofs.Math.Dec.{eqb}
use Rattle.std.proofs.Math.ListN.{take}
use Rattle.numbers.specs.Numbers.{patched}
use Rattle.wire.specs.Header.{type_of}
use Rattle.wire.specs.Frame.{framed}
use Rattle.wire.proofs.FrameLaws.{lt_or_le}
use Rattle.orders.specs.Shapes.{sequenced}
use Rattle.book.specs.declared.Book.{Book}
use Rattle.book.specs.Books.{pick_book, mark_bytes, roomless, appended_by, marked, close_of, close_buffer}
use Rattle.book_restart.proofs.Steps.{mark_long}
use Rattle.session.specs.declared.Phase.TheVariants.{Replaying, Live}
use Rattle.session.specs.declared.Session.{Session}
use Rattle.session.specs.Sessions.{pick_session, in_phase, with_book, is_closed, ended_by, broken_by, broken_buffer, responded_by, responded_buffer, status_in, received_in, receive_refusal, received_by, receive_of, received_buffer, receive_buffer}

-- bytes put after the first n
put_alike : (n : ℕ) (xs ys m : List ℕ) → length xs ≡ length ys → take n xs ≡ take n ys → take (n + length m) (patched xs n m) ≡ take (n + length m) (patched ys n m)
unfolding patched
put_alike n xs ys m l e =
    ⊎_elim
    (λ (h : length xs < n).
    ap (λ (z : List ℕ). take (n + length m) (take n z ++ (m ++ drop (n + length m) z))) (sym (take_all n xs (omega arith)) ∙ e ∙ take_all n ys (omega (arith, l))))
    (λ (h : n ≤ length xs). front xs h ∙ ap (λ (z : List ℕ). z ++ m) e ∙ sym (front ys (omega (arith, l))))
    (lt_or_le (length xs) n)
  where
    front : (zs : List ℕ) → n ≤ length zs → take (n + length m) (take n zs ++ (m ++ drop (n + length m) zs)) ≡ take n zs ++ m
    front zs h =
        ap (take (n + length m)) (sym (append_assoc (take n zs) m (drop (n + length m) zs)))
        ∙ take_at (take n zs ++ m) (drop (n + length m) zs) (n + length m) (length-append (take n zs) m ∙ ap (λ (k : ℕ). k + length m) (length-take-le n zs h))

-- the mark at a session's end
close_alike : (b : Book) (xs ys : List ℕ) → length xs ≡ length ys → take b.length xs ≡ take b.length ys
    → take (close_of b (length xs)).length (close_buffer b xs) ≡ take (close_of b (length xs)).length (close_buffer b ys)
unfolding close_of close_buffer
close_alike b xs ys l e = by (roomless b (length xs) 16) (roomless b (length ys) 16) (ap (λ (n : ℕ). roomless b n 16) l)
  where
    long : b.length + 16 ≡ b.length + length (mark_bytes b.date b.count (b.length - b.last))
    long = ap (λ (n : ℕ). b.length + n) (sym (mark_long b.date b.count (b.length - b.last)))

    by : (p q : Bool) → p ≡ q
        → take (pick_book p b (marked b)).length (cond p xs (patched xs b.length (mark_bytes b.date b.count (b.length - b.last))))
        ≡ take (pick_book p b (marked b)).length (cond q ys (patched ys b.length (mark_bytes b.date b.count (b.length - b.last))))
    by true true z = e
    by true false z = absurd (true≢false z)
    by false true z = absurd (false≢true z)
    by false false z = rw long (put_alike b.length xs ys (mark_bytes b.date b.count (b.length - b.last)) l e)

module _ (s : Session) (xs ys : List ℕ) (l : length xs ≡ length ys) (e : take s.book.length xs ≡ take s.book.length ys) where
  -- a session's end
  end_alike : take (ended_by s (length xs)).book.length (close_buffer s.book xs) ≡ take (ended_by s (length xs)).book.length (close_buffer s.book ys)
  unfolding ended_by
  end_alike = close_alike s.book xs ys l e

  -- a Login Response
  response_alike : (status received : ℕ)
      → take (responded_by s status received (length xs)).book.length (responded_buffer s status xs) ≡ take (responded_by s status received (length xs)).book.length (responded_buffer s status ys)
  unfolding responded_by responded_buffer
  response_alike status received = by (eqb status 65)
    where
      by : (p : Bool)
          → take (pick_session p (record { phase = Replaying; outgoing = record { 0 = received }; market = s.market; book = s.book }) (ended_by s (length xs))).book.length (cond p xs (close_buffer s.book xs))
          ≡ take (pick_session p (record { phase = Replaying; outgoing = record { 0 = received }; market = s.market; book = s.book }) (ended_by s (length xs))).book.length (cond p ys (close_buffer s.book ys))
      by true = e
      by false = end_alike

  -- a message m that passes
  heard_alike : (m : List ℕ) → take (received_by s (length xs) m).book.length (received_buffer s xs m) ≡ take (received_by s (length xs) m).book.length (received_buffer s ys m)
  unfolding received_by received_buffer appended_by
  heard_alike m = by (eqb (type_of m) 0x24) (eqb (type_of m) 0x13) (eqb (type_of m) 0x08) (sequenced (type_of m))
    where
      after : Bool → Bool → Bool → Bool → Session
      after a c d f =
          pick_session a (responded_by s (status_in m) (received_in m) (length xs))
          (pick_session c (in_phase Live s)
          (pick_session d (ended_by s (length xs))
          (pick_session f (with_book s (appended_by s.book m))
          s)))

      left : Bool → Bool → Bool → Bool → List ℕ → List ℕ
      left a c d f zs =
          cond a (responded_buffer s (status_in m) zs)
          (cond c zs
          (cond d (close_buffer s.book zs)
          (cond f (patched zs s.book.length m)
          zs)))

      by : (a c d f : Bool) → take (after a c d f).book.length (left a c d f xs) ≡ take (after a c d f).book.length (left a c d f ys)
      by true c d f = response_alike (status_in m) (received_in m)
      by false true d f = e
      by false false true f = end_alike
      by false false false true = put_alike s.book.length xs ys m l e
      by false false false false = e

  -- RECEIVE
  pub receive_any_rest : (bytes : List ℕ)
      → take (receive_of s (length xs) bytes).session.book.length (receive_buffer s xs bytes) ≡ take (receive_of s (length xs) bytes).session.book.length (receive_buffer s ys bytes)
  unfolding receive_of receive_buffer
  receive_any_rest bytes =
      by (eqb (receive_refusal s (length xs) bytes) 0) (eqb (receive_refusal s (length ys) bytes) 0) (ap (λ (n : ℕ). eqb (receive_refusal s n bytes) 0) l)
    where
      by : (p q : Bool) → p ≡ q
          → take (pick_session p (received_by s (length xs) (framed bytes)) s).book.length (cond p (received_buffer s xs (framed bytes)) xs)
          ≡ take (pick_session p (received_by s (length xs) (framed bytes)) s).book.length (cond q (received_buffer s ys (framed bytes)) ys)
      by true true z = heard_alike (framed bytes)
      by true false z = absurd (true≢false z)
      by false true z = absurd (false≢true z)
      by false false z = e

  -- BREAK
  pub break_any_rest : take (broken_by s (length xs)).book.length (broken_buffer s xs) ≡ take (broken_by s (length xs)).book.length (broken_buffer s ys)
  unfolding broken_by broken_buffer
  break_any_rest = by (is_closed s.phase)
    where
      by : (p : Bool)
          → take (pick_session p s (ended_by s (length xs))).book.length (cond p xs (close_buffer s.book xs))
          ≡ take (pick_session p s (ended_by s (length xs))).book.length (cond p ys (close_buffer s.book ys))
      by true = e
      by false = end_alike
