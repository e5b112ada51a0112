-- `session_logins::put_pairs` meets its contract: pair after pair, each with the table's number. Assumes nothing.
use mathlib.Core.Path.{◌≡◌, refl, sym, ap, ◌∙◌}
use mathlib.Core.List.{List}
use Prim.Native.Nat.{ℕ, ◌+◌, ◌*◌}
use native.Mathlib.Omega.{arith}
use lib.Seq.{length-take-le}
use lib.ListN.{length, get_or, take, set}
use Rattle.numbers.specs.NumberLaws.{patched-length}
use Rattle.numbers.specs.Numbers.{bytes_of, patched, put_buffer}
use Rattle.session_groups.specs.Values.{pairs_bytes}
use Rattle.table.specs.declared.Entry.{Entry}
use Rattle.table.specs.declared.Unit.{Unit}
use Rattle.table.specs.Table.{last_of}
use Rattle.session_logins.specs.LoginRequests.{numbers_of, pairs_for}
use Rattle.session_logins.proofs.Parts.{unmapped, number_at, pairs_more, pair_put, nothing_put}
use Rattle.session_logins.proofs.LoginRequestLaws.{numbers_long, pairs_size}
use borrow.Author.Rules.{rules}
use Rattle.session_logins.proofs.put_pairs.Goals as goal

pub loop-i-init : goal.loop-i-init
loop-i-init c = (refl, nothing_put c.args.tail.now)

pub loop-i-preserved : goal.loop-i-preserved
loop-i-preserved c =
    let at-loop = c in
    let start = at-loop in
    let a = start.args in
    let d : Unit = record { 0 = 0 } in
    let us = a.choice.units in
    let i = at-loop.loop-i.i in
    let inv = at-loop.loop-i.invariant in
    let taken = c.loop-i-test.true in
    let w : length us ≡ 32 = search (rules, unmapped, start.well_formed.1.0) in
    let l = numbers_long us in
    let n : length (pairs_bytes (pairs_for a.table (take i (numbers_of us)))) ≡ 5 * i = pairs_size a.table (take i (numbers_of us)) ∙ ap (λ (k : ℕ). 5 * k) (length-take-le i (numbers_of us) (omega (arith, taken, l, w, start.requires.0))) in
    let x = number_at us i d (omega (arith, taken, w, start.requires.0)) in
    let e = ap (λ (y : Entry). put_buffer (set at-loop.loop-i.tail (5 * i) (get_or us i d).0) (5 * i + 1) (bytes_of 4 y.last.0)) c.entry-entry.ensures in
    let f = ap (λ (k : ℕ). put_buffer (set at-loop.loop-i.tail (5 * i) k) (5 * i + 1) (bytes_of 4 (last_of a.table k))) (sym x) in
    let p = pair_put a.tail.now at-loop.loop-i.tail _ (pairs_bytes (pairs_for a.table (take i (numbers_of us)))) (5 * i) (get_or (numbers_of us) i 0) (last_of a.table (get_or (numbers_of us) i 0)) inv.1 n (omega (arith, taken, start.requires.1)) (c.write_u32.ensures.1 ∙ e ∙ f) in
    let q = p ∙ ap (λ (s : List ℕ). patched a.tail.now 0 s) (sym (pairs_more a.table (numbers_of us) i (omega (arith, taken, l, w, start.requires.0)))) in
    let m : length (pairs_bytes (pairs_for a.table (take (i + 1) (numbers_of us)))) ≡ 5 * (i + 1) = pairs_size a.table (take (i + 1) (numbers_of us)) ∙ ap (λ (k : ℕ). 5 * k) (length-take-le (i + 1) (numbers_of us) (omega (arith, taken, l, w, start.requires.0))) in
    (ap length q ∙ patched-length a.tail.now 0 _ (omega (arith, m, taken, start.requires.1)), q)
