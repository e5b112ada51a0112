-- `kinds::long_name` meets its contract: where the last four bytes are NUL they change nothing, and else the first 16 bytes and the last 16 are two windows
-- that share twelve. Assumes nothing.
use mathlib.Core.Path.{◌≡◌, sym, ap, ap₂, ◌∙◌}
use mathlib.Core.Bool.{true, ◌&&◌}
use mathlib.Core.List.{List}
use Prim.Native.Nat.{ℕ, ◌-◌}
use native.Mathlib.Omega.{arith}
use lib.ListN.{length, take, drop, length-drop}
use lib.Seq.{take_all}
use Rattle.kinds.specs.declared.Kind.TheVariants.{Identifier}
use Rattle.kinds.specs.Kinds.{all_nul, agrees_text}
use Rattle.numbers.specs.Numbers.{bytes_of}
use Rattle.kinds.proofs.Walk.{tail_is}
use Rattle.kinds.proofs.Joins.{two_windows, nul_from}
use Rattle.kinds.proofs.long_name.Goals as goal

pub returns-then-half-eq0 : goal.returns-then-half-eq0
returns-then-half-eq0 c =
    let at-half = c in
    let front = at-half in
    let s = front.args.s.now in
    let last : List ℕ = drop 16 s in
    let l : length last ≡ length s - 16 = length-drop 16 s in
    let four : bytes_of 4 at-half.half.result ≡ last = at-half.half.ensures.0 ∙ ap (take 4) (tail_is s 16 (omega arith)) ∙ take_all 4 last (omega arith) in
    let nul : all_nul last ≡ true = ap all_nul (sym four) ∙ ap (λ (x : ℕ). all_nul (bytes_of 4 x)) c.if-half-eq0.true in
    front.is_name-front.ensures ∙ sym (nul_from Identifier s 16 nul)

pub returns : goal.returns
returns c =
    let end = c in
    let front = end in
    let s = front.args.s.now in
    c.both.ensures
    ∙ ap₂ ◌&&◌ front.is_name-front.ensures (end.is_name.ensures ∙ ap (agrees_text Identifier) (take_all 16 (drop 4 s) (simp length-drop (omega arith))))
    ∙ sym (two_windows Identifier s 4 12 (omega arith) (omega arith))
