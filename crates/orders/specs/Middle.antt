-- What stands between the bitfields and the optional fields. Definitions alone. Assumes nothing.
use Rattle.std.specs.Prelude.{ℕ, ◌+◌, ◌*◌, Bool, true, cond, List, leb, eqb, get_or}

-- 000, Purge Orders: RiskGroupIDCnt is the first byte of what follows the bitfields
abbrev pub risk_groups : List ℕ → ℕ
risk_groups rest = get_or rest 0 0

-- the bytes of the middle, by the message's type, its bitfields and the bytes that follow them. In Purge Orders: RiskGroupIDCnt (1) and as many
-- RiskGroupIDs (2 each); the other messages have none
unfoldable pub middle_size : ℕ → ℕ → List ℕ → List ℕ → ℕ
middle_size message count bits rest = cond (eqb message 0x47) (1 + 2 * risk_groups rest) 0

-- 10: the values of the middle. At most 10 RiskGroupIDs, which take any value
unfoldable pub middle_good : ℕ → ℕ → List ℕ → List ℕ → Bool
middle_good message count bits rest = cond (eqb message 0x47) (leb (risk_groups rest) 10) true
