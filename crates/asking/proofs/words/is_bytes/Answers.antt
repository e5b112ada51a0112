-- `asking::words::is_bytes` meets its contract: each return has the tests that led to it. Assumes nothing.
use native.Mathlib.Omega.{arith}
use mathlib.Core.Path.{sym}
use Rattle.asking.specs.WordLaws.{empty-word, one_byte_word}
use Rattle.asking.proofs.words.is_bytes.Goals as goal

pub returns-then-word-eq0 : goal.returns-then-word-eq0
returns-then-word-eq0 c = sym (empty-word c.args.word.now c.if-word-eq0.true)

pub bounds-word-0 : goal.bounds-word-0
bounds-word-0 c = omega arith

pub returns-then-word-eq1 : goal.returns-then-word-eq1
returns-then-word-eq1 c = sym (one_byte_word c.args.word.now c.if-word-eq1.true)

pub all_hex-requires : goal.all_hex-requires
all_hex-requires c = tt
