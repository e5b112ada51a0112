-- `session_logins::put_units` meets its contract: the head, and the pairs in the tail after it. Assumes nothing.
use mathlib.Core.Path.{◌≡◌, refl, ap, ◌∙◌}
use mathlib.Core.List.{List, [], ◌∷◌, ◌++◌}
use Prim.Native.Nat.{ℕ, ◌+◌, ◌*◌, ◌≤◌}
use native.Mathlib.Omega.{arith}
use lib.ListN.{length, take}
use Rattle.numbers.proofs.Tail.{puts_then}
use Rattle.numbers.specs.Numbers.{bytes_of, patched}
use Rattle.session_groups.specs.Values.{pairs_bytes}
use Rattle.session_logins.specs.LoginRequests.{numbers_of, least, pairs_for}
use Rattle.session_logins.proofs.Parts.{least_is, unmapped, no_units, units_there, nothing_put, pairs_room, group_is_lem, group-size}
use Rattle.session_logins.proofs.LoginRequestLaws.{least-most}
use borrow.Author.Rules.{rules}
use Rattle.session_logins.proofs.put_units.Goals as goal

pub returns-then-choice-ne1 : goal.returns-then-choice-ne1
returns-then-choice-ne1 c =
    let a = c.args in
    let e = no_units a.table a.choice c.if-choice-ne1.true in
    (ap length e, nothing_put a.tail.now ∙ ap (λ (l : List ℕ). patched a.tail.now 0 l) e)

pub returns : goal.returns
returns c =
    let start = c in
    let a = start.args in
    let n = c.min-n.result in
    let q : n ≡ least a.choice.count 32 = c.min-n.ensures ∙ least_is a.choice.count 32 in
    let h : n ≤ 32 = omega (arith, least-most a.choice.count 32, q) in
    let r = pairs_room a.table (numbers_of a.choice.units) n h in
    let w : length a.choice.units ≡ 32 = search (rules, unmapped, start.well_formed.1.0) in
    let there = units_there a.table a.choice c.if-choice-ne1.false in
    let p = puts_then a.tail.now _ (bytes_of 2 (5 + 5 * a.choice.count) ++ (0x80 ∷ a.choice.flag ∷ a.choice.count ∷ [])) (pairs_bytes (pairs_for a.table (take n (numbers_of a.choice.units)))) 5 refl (omega (arith, r, start.requires)) c.put_group_head.ensures c.put_pairs.ensures in
    (group-size a.table a.choice n q (omega (arith, w)) ∙ ap length there, p ∙ ap (λ (l : List ℕ). patched a.tail.now 0 l) (group_is_lem a.table a.choice n q ∙ there))
