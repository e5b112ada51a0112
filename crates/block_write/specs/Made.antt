-- The states of looking and of giving tell all that the code answers and leaves. Assumes nothing.
use Rattle.std.specs.Prelude.{◌≡◌, List, ℕ}
use Rattle.std.proofs.Common.{ap}
use Rattle.block.specs.Walk.{Looking, Giving}
use Rattle.block_write.specs.declared.Seen.{Seen}
use Rattle.block_write.specs.State.{looking, giving}

-- every field of the struct and the layout, so that what looking at all answers and leaves is one
pub looked_one : {a b : Seen} {v w : List ℕ} → looking a v ≡ looking b w → (a ≡ b) × (v ≡ w)
looked_one e = (ap (λ (st : Looking). record { total = st.total; wrong = st.wrong; bad = st.bad }) e, ap (λ (st : Looking). st.rest) e)

-- the place and the message
pub given-one : {i j : ℕ} {v w : List ℕ} → giving i v ≡ giving j w → (i ≡ j) × (v ≡ w)
given-one e = (ap (λ (st : Giving). st.at) e, ap (λ (st : Giving). st.buffer) e)
