-- `session::Session::ended` meets its contract. Assumes nothing.
use Rattle.std.proofs.Common.{ap}
use Rattle.book.specs.declared.Book.{Book}
use Rattle.session.specs.Sessions.{ended_by}
use Rattle.session.specs.declared.Phase.TheVariants.{Closed}
use Rattle.session.proofs.Session.ended.Goals as goal

pub returns : goal.returns
unfolding ended_by
returns c =
    let a = c.args in
    let closed = c.close-book.ensures in
    (ap (λ (b : Book). record { phase = Closed; outgoing = a.self.outgoing; market = a.self.market; book = b }) closed.0, closed.1)
