-- `asking::writing::spell` meets its contract: two digits more are those of the byte. Assumes nothing.
use Rattle.std.proofs.Common.{◌≡◌, ℕ, ◌+◌, ◌*◌, List, ◌++◌, take, drop, set, sym, ap, ◌∙◌, arith}
use Rattle.asking.specs.Spelling.{hex_of}
use Rattle.asking.specs.SpellingLaws.{hex_length, upper_digit, lower_digit}
use Rattle.asking.proofs.Filling.{one_more, all_there}
use Rattle.asking.proofs.writing.spell.Goals as goal

pub loop-i-preserved : goal.loop-i-preserved
loop-i-preserved c =
    let s = c.args.s.now in
    let out = c.args.out.now in
    let i = c.loop-i.i in
    let l = c.loop-i-test.true in
    let next : 2 * i + 1 + 1 ≡ 2 * (i + 1) = omega arith in
    let one = one_more (hex_of s) out (2 * i) (omega (arith, hex_length s)) (omega arith) (c.glyph.ensures ∙ sym (upper_digit s i l)) in
    let two = one_more (hex_of s) out (2 * i + 1) (omega (arith, hex_length s)) (omega arith) (c.glyph-in-loop-i.ensures ∙ sym (lower_digit s i l)) in
    ap (λ (x : List ℕ). set (set x (2 * i) c.glyph.result) (2 * i + 1) c.glyph-in-loop-i.result) c.loop-i.invariant
    ∙ ap (λ (x : List ℕ). set x (2 * i + 1) c.glyph-in-loop-i.result) one
    ∙ two
    ∙ ap (λ (n : ℕ). take n (hex_of s) ++ drop n out) next

pub returns : goal.returns
returns c = c.loop-i.invariant ∙ all_there (hex_of c.args.s.now) c.args.out.now (2 * c.loop-i.i) (omega (arith, hex_length c.args.s.now, c.loop-i-test.false))
