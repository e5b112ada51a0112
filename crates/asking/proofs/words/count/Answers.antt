-- `asking::words::count` meets its contract: the words are the parts of the split. Assumes nothing.
use Rattle.std.proofs.Common.{ℕ, List, eqb, length, ap, sym, ◌∙◌, rules, tests}
use Rattle.std.proofs.lemmas.Iterator.Consumers.{count_from_yields_List}
use Rattle.std.proofs.lemmas.Iterator.Splits.{YieldsList-from_slice_split}
use Rattle.asking.specs.WordLaws.{words_are_parts}
use Rattle.asking.proofs.words.count.Goals as goal

pub returns : goal.returns
returns c =
    count_from_yields_List c.split.result _ c.count.ensures.ran
    (YieldsList-from_slice_split _ (λ (b : ℕ). eqb b 32) c.args.line.now c.split.ensures.rest c.split.ensures.done c.split.ensures.closure (λ x b q k. search (rules, tests)))
    ∙ sym (ap (λ (l : List (List ℕ)). length l) (words_are_parts c.args.line.now))
