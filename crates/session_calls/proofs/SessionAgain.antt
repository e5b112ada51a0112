-- A session that is stored is loaded again, whatever stood in the state before.
--     session-again     the same session, where its numbers are of 32 bits
--     seen-again        without its outgoing number the same, where its book's are
-- Assumes nothing.
use Rattle.std.specs.Prelude.{◌≡◌, refl, ℕ, ◌+◌, ◌<◌}
use Rattle.std.proofs.Common.{sym, ◌∙◌, zero-add, arith}
use Rattle.std.proofs.Math.Path.{ap, ap₂}
use mathlib.Core.List.{List, ◌∷◌, ◌++◌, append_assoc}
use Rattle.std.proofs.Math.ListN.{length, get_or, drop}
use Rattle.std.proofs.Math.Seq.{drop-append_seam, get_or-append-add}
use Rattle.numbers.specs.Numbers.{number_at, patched}
use Rattle.numbers.specs.NumberLaws.{number_back, number_after}
use Rattle.orders.specs.declared.Market.{Market}
use Rattle.orders.specs.declared.Market.TheVariants.{Equities, Options}
use Rattle.orders.specs.Markets.{market_of}
use Rattle.table.specs.declared.OutgoingNumber.{OutgoingNumber}
use Rattle.book.specs.declared.Book.{Book}
use Rattle.book_calls.specs.BookBytes.{book_of, book_bytes}
use Rattle.book_calls.proofs.BookBytesLaws.{Sized, book_long, loaded_again}
use Rattle.session.specs.declared.Phase.{Phase}
use Rattle.session.specs.declared.Phase.TheVariants.{Closed, Asked, Replaying, Live}
use Rattle.session.specs.declared.Session.{Session}
use Rattle.session_calls.specs.SessionBytes.{phase_of, phase_number, market_number, session_of, beside_bytes, session_bytes}

-- a session whose numbers are of 32 bits
pub record SizedSession (s : Session) : Type 0 where
  pub book : Sized s.book
  pub outgoing : s.outgoing.0 < 4294967296

-- the same session with another outgoing number
abbrev pub with_outgoing : OutgoingNumber → Session → Session
with_outgoing o s = record { phase = s.phase; outgoing = o; market = s.market; book = s.book }

pub phase_back : (p : Phase) → phase_of (phase_number p) ≡ p
phase_back Closed = refl
phase_back Asked = refl
phase_back Replaying = refl
phase_back Live = refl

pub market-back : (m : Market) → market_of (market_number m) ≡ m
market-back Equities = refl
market-back Options = refl

module _ (s : Session) (state : List ℕ) where
  stored : List ℕ
  stored = patched state 0 (session_bytes s)

  front : List ℕ
  front = book_bytes s.book

  -- what stands after the book
  beside : List ℕ
  beside = beside_bytes s.phase s.outgoing.0 s.market ++ drop (0 + length (session_bytes s)) state

  stored_is : stored ≡ front ++ beside
  unfolding stored front beside session_bytes patched
  stored_is = append_assoc (book_bytes s.book) (beside_bytes s.phase s.outgoing.0 s.market) (drop (0 + length (session_bytes s)) state)

  -- so its book is stored in it
  front_stored : stored ≡ patched stored 0 (book_bytes s.book)
  unfolding patched front
  front_stored =
      stored_is ∙ ap (λ (r : List ℕ). front ++ r) (sym (drop-append_seam front beside)) ∙ ap (λ (x : List ℕ). front ++ drop (length front) x) (sym stored_is)
      ∙ ap (λ (n : ℕ). front ++ drop n stored) (sym (zero-add (length front)))

  book-again : Sized s.book → book_of stored ≡ s.book
  book-again z = ap book_of front_stored ∙ loaded_again s.book stored z

  number_there : number_at 4 272 stored ≡ number_at 4 0 beside
  unfolding front
  number_there =
      let l : 272 ≡ length front + 0 = omega (arith, book_long s.book) in
      ap₂ (λ (i : ℕ) (x : List ℕ). number_at 4 i x) l stored_is ∙ number_after 4 0 front beside

  byte_there : (i : ℕ) → get_or stored (272 + i) 0 ≡ get_or beside i 0
  unfolding front
  byte_there i =
      let l : 272 + i ≡ length front + i = omega (arith, book_long s.book) in
      ap₂ (λ (j : ℕ) (x : List ℕ). get_or x j 0) l stored_is ∙ get_or-append-add front beside i 0

  phase_again : phase_of (get_or stored 276 0) ≡ s.phase
  unfolding beside beside_bytes
  phase_again = ap phase_of (byte_there 4) ∙ phase_back s.phase

  market-again : market_of (get_or stored 277 0) ≡ s.market
  unfolding beside beside_bytes
  market-again = ap market_of (byte_there 5) ∙ market-back s.market

  number_again : s.outgoing.0 < 4294967296 → number_at 4 272 stored ≡ s.outgoing.0
  unfolding beside beside_bytes
  number_again h = number_there ∙ number_back 4 s.outgoing.0 (phase_number s.phase ∷ market_number s.market ∷ drop (0 + length (session_bytes s)) state) h

  -- part by part
  parts : (o : OutgoingNumber) {p : Phase} {m : Market} {b : Book} → p ≡ s.phase → m ≡ s.market → b ≡ s.book
      → record { phase = p; outgoing = o; market = m; book = b } ≡ with_outgoing o s
  parts o {p} {m} {b} ep em eb =
      ap (λ (x : Phase). record { phase = x; outgoing = o; market = m; book = b }) ep
      ∙ ap₂ (λ (x : Market) (y : Book). record { phase = s.phase; outgoing = o; market = x; book = y }) em eb

  pub seen-again : (o : OutgoingNumber) → Sized s.book → with_outgoing o (session_of (patched state 0 (session_bytes s))) ≡ with_outgoing o s
  unfolding session_of stored
  seen-again o z = parts o phase_again market-again (book-again z)

  -- SESSION AGAIN: stored over any bytes and loaded, it is the same session
  pub session_again : SizedSession s → session_of (patched state 0 (session_bytes s)) ≡ s
  unfolding session_of stored
  session_again z =
      ap (λ (n : ℕ). record { phase = phase_of (get_or stored 276 0); outgoing = record { 0 = n }; market = market_of (get_or stored 277 0); book = book_of stored }) (number_again z.outgoing)
      ∙ parts s.outgoing phase_again market-again (book-again z.book)
