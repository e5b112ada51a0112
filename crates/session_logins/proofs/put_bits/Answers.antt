-- `session_logins::put_bits` meets its contract: the head, and the bitfields in the tail after it. Assumes nothing.
use mathlib.Core.Path.{◌≡◌, refl, ap, ◌∙◌}
use mathlib.Core.List.{List, [], ◌∷◌, ◌++◌}
use Prim.Native.Nat.{ℕ, ◌+◌, ◌≤◌}
use native.Mathlib.Omega.{arith}
use lib.ListN.{length, take}
use Rattle.numbers.proofs.Tail.{puts_then}
use Rattle.numbers.specs.Numbers.{bytes_of, patched}
use Rattle.session_logins.specs.LoginRequests.{least}
use Rattle.session_logins.proofs.Parts.{least_is, no_bits, bits_there, nothing_put, bits_size}
use Rattle.session_logins.proofs.LoginRequestLaws.{least-most, take-most}
use borrow.Author.Rules.{rules}
use borrow.Author.Tests.{not-true, not-false}
use Rattle.session_logins.proofs.put_bits.Goals as goal

pub returns-then-not-b : goal.returns-then-not-b
returns-then-not-b c =
    let a = c.args in
    let e = no_bits a.kind a.b (not-true _ c.if-not-b.true) in
    (ap length e, nothing_put a.tail.now ∙ ap (λ (l : List ℕ). patched a.tail.now 0 l) e)

pub returns : goal.returns
returns c =
    let start = c in
    let a = start.args in
    let n = c.min-n.result in
    let q : n ≡ least a.b.count 15 = c.min-n.ensures ∙ least_is a.b.count 15 in
    let h : n ≤ 15 = omega (arith, least-most a.b.count 15, q) in
    let m = take-most n a.b.bits in
    let w : length a.b.bits ≡ 15 = search rules in
    let there = bits_there a.kind a.b (not-false _ c.if-not-b.false) in
    let p = puts_then a.tail.now _ (bytes_of 2 (5 + a.b.count) ++ (0x81 ∷ a.kind ∷ a.b.count ∷ [])) (take n a.b.bits) 5 refl (omega (arith, h, m, start.requires)) c.put_group_head.ensures c.copy_front.ensures in
    let same = ap (λ (k : ℕ). bytes_of 2 (5 + a.b.count) ++ (0x81 ∷ a.kind ∷ a.b.count ∷ take k a.b.bits)) q in
    (bits_size a.kind a.b n q (omega (arith, w)) ∙ ap length there, p ∙ ap (λ (l : List ℕ). patched a.tail.now 0 l) (same ∙ there))
