-- `session_logins::put_body` meets its contract: the names, the count, and the groups in the tail after them. Assumes nothing.
use mathlib.Core.Path.{ap, ◌∙◌}
use mathlib.Core.List.{List, [], ◌∷◌, ◌++◌, append_assoc}
use lib.ListN.{length-append}
use Prim.Native.Nat.{ℕ}
use native.Mathlib.Omega.{arith}
use Rattle.numbers.specs.Numbers.{patched}
use Rattle.numbers.proofs.Tail.{puts_then}
use Rattle.session_logins.specs.LoginRequests.{groups_part}
use Rattle.session_logins.proofs.Parts.{counted}
use Rattle.session_logins.proofs.LoginRequestLaws.{groups_most}
use Rattle.session_logins.proofs.put_body.Goals as goal

pub returns : goal.returns
returns c =
    let start = c in
    let a = start.args in
    let n = length-append a.names.now (c.group_count.result ∷ []) in
    let g = groups_most a.table a.choice a.acknowledgments a.executions in
    let p = counted a.out.now _ a.names.now c.group_count.result start.requires.0 (omega (arith, start.requires.1)) c.copy.ensures in
    let t = puts_then a.out.now _ (a.names.now ++ (c.group_count.result ∷ [])) (groups_part a.table a.choice a.acknowledgments a.executions) 19 (omega (arith, n, start.requires.0)) (omega (arith, g, start.requires.1)) p c.put_groups.ensures in
    let e = append_assoc a.names.now (c.group_count.result ∷ []) (groups_part a.table a.choice a.acknowledgments a.executions) in
    let k = ap (λ (k : ℕ). a.names.now ++ (k ∷ groups_part a.table a.choice a.acknowledgments a.executions)) c.group_count.ensures in
    t ∙ ap (λ (l : List ℕ). patched a.out.now 0 l) (e ∙ k)
