-- What is true of the pulse of a line. Assumes nothing.
use Rattle.std.specs.Prelude.{◌≡◌, ℕ, ◌+◌, ◌%◌, ◌<◌, leb, nat_le}
use Rattle.std.proofs.Common.{ap, arith}
use Rattle.pulse.specs.Pulse.{elapsed_of, heartbeat_due, peer_silent}

-- nothing has elapsed from a reading of the clock to itself
pub elapsed_none : (now : ℕ) → now < 4294967296 → elapsed_of now now ≡ 0
unfolding elapsed_of
elapsed_none now h = omega arith

-- d milliseconds after a reading d have elapsed, also where the clock has wrapped
pub elapsed_after : (then d : ℕ) → then < 4294967296 → d < 4294967296 → elapsed_of ((then + d) % 4294967296) then ≡ d
unfolding elapsed_of
elapsed_after then d h k = omega arith

-- d milliseconds after sending a heartbeat is due if and only if d is 1,000 or more
pub due-after : (sent d : ℕ) → sent < 4294967296 → d < 4294967296 → heartbeat_due ((sent + d) % 4294967296) sent ≡ nat_le 1000 d
unfolding heartbeat_due
due-after sent d h k = ap (leb 1000) (elapsed_after sent d h k)

-- d milliseconds after hearing it the peer is silent if and only if d is 5,000 or more
pub silent_after : (heard d : ℕ) → heard < 4294967296 → d < 4294967296 → peer_silent ((heard + d) % 4294967296) heard ≡ nat_le 5000 d
unfolding peer_silent
silent_after heard d h k = ap (leb 5000) (elapsed_after heard d h k)
