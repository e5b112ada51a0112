-- `asking::words::all_hex` meets its contract. Assumes nothing.
use Rattle.std.proofs.Common.{ℕ, sym, ◌∙◌, rules, tests}
use Rattle.std.proofs.lemmas.Iterator.{YieldsList-from_slice}
use Rattle.std.proofs.lemmas.Iterator.Search.{all_from_yields_List}
use Rattle.asking.specs.Words.{is_hex}
use Rattle.asking.specs.WordLaws.{all_hex_listed}
use Rattle.asking.proofs.words.all_hex.Goals as goal

pub returns : goal.returns
returns c =
    all_from_yields_List (λ (b : ℕ). is_hex b) _ _ _ c.all.ensures.ran (YieldsList-from_slice c.args.word.now cc) (λ x b q k. search (rules, tests))
    ∙ sym (all_hex_listed c.args.word.now)
