-- The pulse of a line. Definitions alone. Assumes nothing.
use Rattle.std.specs.Prelude.{ℕ, ◌+◌, ◌-◌, ◌%◌, Bool, nat_le}

-- 01, Session and replay: the clock has 32 bits, and elapsed is now minus then, modulo 2 ^ 32
unfoldable pub elapsed_of : ℕ → ℕ → ℕ
elapsed_of now then = (now + 4294967296 - then) % 4294967296

-- a heartbeat is due at 1,000 or more without sending
unfoldable pub heartbeat_due : ℕ → ℕ → Bool
heartbeat_due now sent = nat_le 1000 (elapsed_of now sent)

-- the peer is silent at 5,000 or more without hearing
unfoldable pub peer_silent : ℕ → ℕ → Bool
peer_silent now heard = nat_le 5000 (elapsed_of now heard)
