-- What is read in a direction, under its record's type, and what stands on the wire: in all directions the two are each other's. Assumes nothing.
use Rattle.std.specs.Prelude.{◌≡◌, Bool, List, [], ◌∷◌, ◌++◌, ℕ, zero, suc, ◌≤◌, ◌<◌, eqb, length, get_or}
use Rattle.std.proofs.Math.Path.{refl}
use Rattle.std.proofs.Common.{sym, ap, ◌∙◌, subst, append-nil, arith}
use Rattle.std.proofs.Math.Bool.{true, false, cond}
use Rattle.std.proofs.lemmas.Bool.{false≢true}
use borrow.Author.Tests.{eqb-true, ne_eqb, eq-eqb}
use Rattle.wire.specs.Header.{type_of, total_of}
use Rattle.wire.specs.HeaderLaws.{Bytes}
use Rattle.wire.specs.Frame.{frame_refusal, framed}
use Rattle.wire.proofs.FrameLaws.{whole, framed-length, framed_accepted, framed-again}
use Rattle.orders.specs.declared.Market.TheVariants.{Options}
use Rattle.orders.specs.Markets.{record_type, wire_type, typed, heard_in, on_wire}
use Rattle.orders.proofs.MarketLaws.{by_bytes, same_but, frames_alike, framed_alike, wired_as_heard, heard_as_wired, wired_alike}
use Rattle.messages.specs.Messages.{is_session, carries, type_in, heard}

-- ---- the types

-- no direction carries 0, no direction but 2 the options New Order, and 2 not the equities' one
module _ (direction message : ℕ) (c : carries direction message ≡ true) where
  not_carried : carries direction message ≡ false → ⊥
  not_carried n = false≢true (sym n ∙ c)

  carried_some : message ≡ 0 → ⊥
  unfolding carries
  carried_some e = not_carried (rw e (by (eqb direction 0) (eqb direction 1) (eqb direction 2)))
    where
      by : (x y z : Bool) → cond x false (cond y false (cond z false false)) ≡ false
      by true y z = refl
      by false true z = refl
      by false false true = refl
      by false false false = refl

  carried_not_options : (direction ≡ 2 → ⊥) → message ≡ 0xB8 → ⊥
  unfolding carries
  carried_not_options n e = not_carried (rw (e, ne_eqb direction 2 n) (by (eqb direction 0) (eqb direction 1)))
    where
      by : (x y : Bool) → cond x false (cond y false false) ≡ false
      by true y = refl
      by false true = refl
      by false false = refl

  carried_not_equities : direction ≡ 2 → message ≡ 0x38 → ⊥
  unfolding carries
  carried_not_equities d e = not_carried (rw (e, d))

-- a session message's type is its record's in every direction
session_type : (t : ℕ) → is_session (record_type Options t) ≡ true → record_type Options t ≡ t
session_type t s = by (eqb t 0x38) refl (eqb t 0xB8) refl
  where
    by : (x : Bool) → eqb t 0x38 ≡ x → (y : Bool) → eqb t 0xB8 ≡ y → record_type Options t ≡ t
    by true p y q = absurd (false≢true (rw (eqb-true t 0x38 p) at s))
    by false p true q = absurd (false≢true (rw (eqb-true t 0xB8 q) at s))
    by false p false q = rw (p, q)

-- so a session message stands on the wire as it is
pub session_wired : (m : List ℕ) → 10 ≤ length m → is_session (type_of m) ≡ true → on_wire m ≡ m
session_wired m h s = wired_alike m (omega (arith, h)) (λ e. false≢true (rw e at s))

type_small : (direction t : ℕ) → t < 256 → type_in direction t < 256
type_small direction t h = by (eqb direction 2) (eqb t 0x38) (eqb t 0xB8)
  where
    by : (x y z : Bool) → cond x (cond y 0xB8 (cond z 0 t)) t < 256
    by true true z = omega arith
    by true false true = omega arith
    by true false false = h
    by false y z = h

-- ---- what is heard

-- a message of another type is of bytes
typed-bytes : (k : ℕ) (m : List ℕ) → k < 256 → 5 ≤ length m → Bytes m → Bytes (typed k m)
unfolding typed
typed-bytes k m h = by_bytes (λ (x : List ℕ). Bytes x → Bytes (typed k x)) (λ a b c d e x. at a b c d e x) m
  where
    at : (a b c d e : ℕ) (x : List ℕ) → Bytes (a ∷ b ∷ c ∷ d ∷ e ∷ x) → (i : ℕ) → get_or (a ∷ b ∷ c ∷ d ∷ k ∷ x) i 0 < 256
    at a b c d e x q zero = q 0
    at a b c d e x q (suc zero) = q 1
    at a b c d e x q (suc (suc zero)) = q 2
    at a b c d e x q (suc (suc (suc zero))) = q 3
    at a b c d e x q (suc (suc (suc (suc zero)))) = h
    at a b c d e x q (suc (suc (suc (suc (suc i))))) = q (suc (suc (suc (suc (suc i)))))

module _ (direction : ℕ) (s : List ℕ) (z : frame_refusal s ≡ 0) where
  pub long_enough : 5 ≤ length (framed s)
  unfolding total_of
  long_enough = omega (arith, framed-length s z, (whole s z).least)

  -- what is heard is the first whole message under its record's type
  pub as_typed : typed (type_in direction (type_of (framed s))) (framed s) ≡ heard direction s
  as_typed = by (eqb direction 2)
    where
      by : (b : Bool) → typed (cond b (record_type Options (type_of (framed s))) (type_of (framed s))) (framed s) ≡ cond b (heard_in Options (framed s)) (framed s)
      by true = refl
      by false = (same_but 0 (framed s) long_enough).same

  pub heard_type : type_of (heard direction s) ≡ type_in direction (type_of (framed s))
  heard_type = ap (λ (x : List ℕ). type_of x) (sym as_typed) ∙ (same_but (type_in direction (type_of (framed s))) (framed s) long_enough).type_is

  -- the same, as it is computed from the first whole message
  pub named : {m : List ℕ} {w t : ℕ} → m ≡ framed s → w ≡ type_of m → t ≡ type_in direction w → t ≡ type_of (heard direction s)
  named f g h = h ∙ ap (type_in direction) (g ∙ ap (λ (x : List ℕ). type_of x) f) ∙ sym heard_type

  -- it is whole, alone, and of bytes
  pub heard-alone : frame_refusal (heard direction s) ≡ 0
  heard-alone =
      let k = type_in direction (type_of (framed s)) in
      ap frame_refusal (sym as_typed ∙ sym (append-nil (typed k (framed s)))) ∙ frames_alike k (framed s) [] long_enough ∙ framed_accepted s [] z

  pub heard_long : length (heard direction s) ≡ length (framed s)
  heard_long = ap length (sym as_typed) ∙ (same_but (type_in direction (type_of (framed s))) (framed s) long_enough).long

  -- its bytes from the unit on are those of the wire
  pub heard_byte : (n : ℕ) → 5 ≤ n → get_or (heard direction s) n 0 ≡ get_or (framed s) n 0
  heard_byte n h = ap (λ (x : List ℕ). get_or x n 0) (sym as_typed) ∙ (same_but (type_in direction (type_of (framed s))) (framed s) long_enough).byte_after n h

  pub heard_exact : length (heard direction s) ≡ total_of (heard direction s)
  heard_exact =
      let t : total_of (heard direction s) ≡ total_of (framed s) = ap total_of (sym as_typed) ∙ (same_but (type_in direction (type_of (framed s))) (framed s) long_enough).total in
      let e : framed (framed s) ≡ framed s = ap framed (sym (append-nil (framed s))) ∙ framed-again s [] z in
      heard_long ∙ ap length (sym e) ∙ framed-length (framed s) (ap frame_refusal (sym (append-nil (framed s))) ∙ framed_accepted s [] z) ∙ sym t

  pub heard-bytes : Bytes (framed s) → Bytes (heard direction s)
  heard-bytes b = subst Bytes as_typed (typed-bytes (type_in direction (type_of (framed s))) (framed s) (type_small direction (type_of (framed s)) (b 4)) long_enough b)

  -- a session message is heard as it stands
  pub session_heard : is_session (type_of (heard direction s)) ≡ true → heard direction s ≡ framed s
  session_heard q = by (eqb direction 2) q
    where
      by : (b : Bool) → is_session (type_of (cond b (heard_in Options (framed s)) (framed s))) ≡ true → cond b (heard_in Options (framed s)) (framed s) ≡ framed s
      by true r =
          let k = same_but (record_type Options (type_of (framed s))) (framed s) long_enough in
          ap (λ (t : ℕ). typed t (framed s)) (session_type (type_of (framed s)) (ap is_session (sym k.type_is) ∙ r)) ∙ k.same
      by false r = refl

  -- and what is carried stands on the wire as it stood
  pub wired_again : carries direction (type_of (heard direction s)) ≡ true → on_wire (heard direction s) ≡ framed s
  wired_again c = by (eqb direction 2) refl c
    where
      by : (b : Bool) → eqb direction 2 ≡ b → carries direction (type_of (cond b (heard_in Options (framed s)) (framed s))) ≡ true → on_wire (cond b (heard_in Options (framed s)) (framed s)) ≡ framed s
      by true e q = wired_as_heard (framed s) long_enough (carried_some direction (type_of (heard_in Options (framed s))) q)
      by false e q = wired_alike (framed s) long_enough (carried_not_options direction (type_of (framed s)) q (λ d. false≢true (sym e ∙ eq-eqb direction 2 d)))

-- ---- what stands on the wire, with any bytes after it, is heard as the message under its record's type

module _ (direction : ℕ) (m t : List ℕ) (h : 5 ≤ length m) (c : carries direction (type_of m) ≡ true) (z : frame_refusal (m ++ t) ≡ 0) (e : framed (m ++ t) ≡ m) where
  pub wired_frames : frame_refusal (on_wire m ++ t) ≡ 0
  wired_frames = frames_alike (wire_type (type_of m)) m t h ∙ z

  pub wired_framed : framed (on_wire m ++ t) ≡ on_wire m
  wired_framed = framed_alike (wire_type (type_of m)) m t h z e

  pub heard-again : heard direction (on_wire m ++ t) ≡ m
  heard-again = by (eqb direction 2) refl
    where
      by : (b : Bool) → eqb direction 2 ≡ b → cond b (heard_in Options (framed (on_wire m ++ t))) (framed (on_wire m ++ t)) ≡ m
      by true d = ap (heard_in Options) wired_framed ∙ heard_as_wired m h (carried_not_equities direction (type_of m) c (eqb-true direction 2 d))
      by false d = wired_framed ∙ wired_alike m h (carried_not_options direction (type_of m) c (λ q. false≢true (sym d ∙ eq-eqb direction 2 q)))
