-- `asking::words::word` meets its contract: the words are the parts of the split. Assumes nothing.
use Rattle.std.proofs.Common.{ℕ, eqb, rules, tests}
use Rattle.std.proofs.lemmas.Iterator.Consumers.{nth_from_yields_List}
use Rattle.std.proofs.lemmas.Iterator.Splits.{YieldsList-from_slice_split}
use Rattle.asking.specs.WordLaws.{found_word, no_such_word}
use Rattle.asking.proofs.words.word.Goals as goal

pub returns-in-Some : goal.returns-in-Some
returns-in-Some c =
    let part = nth_from_yields_List _ _ c.args.k c.nth.ensures.ran
    (YieldsList-from_slice_split _ (λ (b : ℕ). eqb b 32) c.args.line.now c.split.ensures.rest c.split.ensures.done c.split.ensures.closure (λ x b q k. search (rules, tests))) in
    found_word c.args.line.now c.args.k c.in-Some.word.now (rw c.in-Some.is at part)

pub returns-in-None : goal.returns-in-None
returns-in-None c =
    let part = nth_from_yields_List _ _ c.args.k c.nth.ensures.ran
    (YieldsList-from_slice_split _ (λ (b : ℕ). eqb b 32) c.args.line.now c.split.ensures.rest c.split.ensures.done c.split.ensures.closure (λ x b q k. search (rules, tests))) in
    no_such_word c.args.line.now c.args.k (rw c.in-None.is at part)
