-- The digits that are left, after the value so far, give the word's answer.
use Rattle.std.proofs.Common.{◌≡◌, drop}
use Rattle.asking.specs.Words.{number_of}
use Rattle.asking.specs.WordLaws.{number_from}
use Rattle.asking.proofs.words.read_number.Given as goal

abbrev pub invariant-loop-b : goal.invariant-loop-b
invariant-loop-b l = number_from l.most l.value (drop l.b-index l.word) ≡ number_of l.word l.most
