-- `asking::words::put_bytes` meets its contract: a byte more is that of its pair. Assumes nothing.
use Rattle.std.proofs.Common.{◌≡◌, ℕ, ◌+◌, ◌*◌, List, get_or, set, sym, ap, ap₂, ◌∙◌, arith}
use Rattle.asking.specs.Words.{bytes_in}
use Rattle.asking.specs.WordLaws.{bytes-length, byte_of_pair}
use Rattle.asking.proofs.Filling.{one_more, all_there}
use Rattle.asking.proofs.words.put_bytes.Goals as goal

pub loop-i-preserved : goal.loop-i-preserved
loop-i-preserved c =
    let word = c.args.word.now in
    let i = c.loop-i.i in
    let l = c.loop-i-test.true in
    let v = c.nibble.result * 16 + c.nibble-in-loop-i.result in
    let e : v ≡ get_or (bytes_in word) i 0 = ap₂ (λ (h m : ℕ). h * 16 + m) c.nibble.ensures.value c.nibble-in-loop-i.ensures.value ∙ sym (byte_of_pair word i l) in
    ap (λ (x : List ℕ). set x i v) c.loop-i.invariant ∙ one_more (bytes_in word) c.args.out.now i (omega (arith, bytes-length word, l)) (omega arith) e

pub returns : goal.returns
returns c = c.loop-i.invariant ∙ all_there (bytes_in c.args.word.now) c.args.out.now c.loop-i.i (omega (arith, bytes-length c.args.word.now, c.loop-i-test.false))
