use Rattle.std.proofs.Common.{◌≡◌, length, take}
use Rattle.numbers.specs.Numbers.{patched}
use Rattle.session_groups.specs.Values.{pairs_bytes}
use Rattle.session_logins.specs.LoginRequests.{numbers_of, pairs_for}
use Rattle.session_logins.proofs.put_pairs.Given as goal

abbrev pub invariant-loop-i : goal.invariant-loop-i
invariant-loop-i l = (length l.tail ≡ length l.initial.tail) × (l.tail ≡ patched l.initial.tail 0 (pairs_bytes (pairs_for l.table (take l.i (numbers_of l.choice.units)))))
