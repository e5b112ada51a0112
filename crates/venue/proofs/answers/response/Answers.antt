-- `venue::answers::response` meets its contract: the body put into zeros. Assumes nothing.
use mathlib.Core.Path.{ap, ◌∙◌}
use Prim.Native.Nat.{ℕ}
use mathlib.Core.List.{List}
use Rattle.session_logins.specs.LoginRequests.{padded}
use Rattle.session_logins.proofs.Parts.{padded_is}
use Rattle.venue.specs.VenueStages.{answer_part}
use Rattle.venue.proofs.answers.response.Goals as goal

pub returns : goal.returns
returns c =
    let a = c.args in
    let f = c.flag_of in
    let part : ℕ → List ℕ = λ flag. answer_part flag a.v.received.0 a.v.table a.groups.now in
    let p = c.put_answer.ensures ∙ padded_is (part f.result) ∙ ap (λ (x : ℕ). padded (part x)) f.ensures in
    ap (λ (l : List ℕ). record { message = 0x24; unit = 0; number = 0; body = l }) p
