use Rattle.session_calls.specs.LoginBytesLaws.{Chosen}
use Rattle.session_calls.proofs.given.choice_in.Given as goal

abbrev pub invariant-loop-i : goal.invariant-loop-i
invariant-loop-i l = Chosen l.given l.units l.i
