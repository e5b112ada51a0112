-- A session message's record put into a buffer: the head, and the body with zeros in the tail after it. Assumes nothing.
use mathlib.Core.Path.{◌≡◌, refl, ap, ap₂, ◌∙◌}
use mathlib.Core.List.{List, ◌∷◌, ◌++◌}
use Prim.Native.Nat.{ℕ, ◌-◌, ◌≤◌}
use native.Mathlib.Omega.{arith}
use lib.ListN.{length, take, drop, length-append, length-drop}
use Rattle.numbers.specs.Numbers.{bytes_of, patched}
use Rattle.numbers.proofs.Tail.{tail_is, puts_then}
use Rattle.wire.specs.Header.{type_of, unit_of, number_of}
use Rattle.block.specs.Slots.{zeros}
use Rattle.block.specs.SlotLaws.{length-zeros}
use Rattle.session_messages.specs.Sessions as sessions
use Rattle.session_messages.proofs.SessionLaws as session_laws
use Rattle.session_messages.proofs.SessionTrip.{body_small}
use Rattle.session_messages.specs.Sizes.{session_record_size}
use Rattle.messages.specs.Messages.{session_record_bytes}

module _ (m buffer out₁ : List ℕ) (t u n : ℕ) (least : 10 ≤ length m) (most : length m ≤ 443) (room : session_record_size ≤ length buffer)
    (p : out₁ ≡ patched buffer 0 (t ∷ u ∷ bytes_of 4 n)) where
  padded : List ℕ
  padded = drop 10 m ++ zeros (433 - length (drop 10 m))

  padded-length : length padded ≡ 433
  unfolding padded
  padded-length =
      let d : length (drop 10 m) ≡ length m - 10 = length-drop 10 m in
      length-append (drop 10 m) (zeros (433 - length (drop 10 m))) ∙ omega (arith, length-zeros (433 - length (drop 10 m)))

  pub session_put : t ≡ type_of m → u ≡ unit_of m → n ≡ number_of m → {ys : List ℕ}
      → ys ≡ patched (take (length out₁ - 6) (drop 6 out₁)) 0 (take (length m - 10) (drop 10 m) ++ zeros (433 - length (take (length m - 10) (drop 10 m))))
      → take 6 out₁ ++ (ys ++ drop (length out₁ - 6) (drop 6 out₁)) ≡ patched buffer 0 (session_record_bytes (sessions.record_of m))
  unfolding padded session_record_bytes sessions.body_of
  session_put e f g {ys} q =
      let whole : take (length m - 10) (drop 10 m) ≡ drop 10 m = tail_is m 10 least in
      puts_then buffer out₁ (t ∷ u ∷ bytes_of 4 n) padded 6 refl (omega (arith, padded-length)) p
      (q ∙ ap (λ (b : List ℕ). patched (take (length out₁ - 6) (drop 6 out₁)) 0 (b ++ zeros (433 - length b))) whole)
      ∙ ap₂ (λ (x y : ℕ). patched buffer 0 ((x ∷ y ∷ bytes_of 4 n) ++ padded)) e f
      ∙ ap (λ (z : ℕ). patched buffer 0 ((type_of m ∷ unit_of m ∷ bytes_of 4 z) ++ padded)) g

-- the length of a session message that is read
pub session_length : (m : List ℕ) → sessions.read_refusal m ≡ 0 → (10 ≤ length m) × (length m ≤ 443)
session_length m z =
    let d : length (drop 10 m) ≡ length m - 10 = length-drop 10 m in
    (omega (arith, (session_laws.good m z).there), omega (arith, body_small m z))
