-- `session_calls::given::bits_in` meets its contract. Assumes nothing.
use mathlib.Core.Path.{refl}
use Rattle.session_calls.specs.LoginBytesLaws.{bits_are}
use Rattle.session_calls.proofs.given.bits_in.Goals as goal

pub returns : goal.returns
returns c =
    let start = c in
    let a = start.args in
    bits_are a.given.now _ a.at refl start.requires.1 c.byte_at.ensures c.byte_at-2.ensures c.copy.ensures
