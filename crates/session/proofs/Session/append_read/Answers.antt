-- `session::Session::append_read` meets its contract: what the venue's reader takes the book need not judge. Assumes nothing.
use Rattle.refusals.specs.OutcomeLaws.{passed, value_of}
use Rattle.session.proofs.Passing.{passes_on}
use Rattle.session.proofs.SessionLaws.{read_is_good, books_as}
use Rattle.session.proofs.Session.append_read.Goals as goal

pub append_good-requires : goal.append_good-requires
append_good-requires c = read_is_good c.args.bytes.now c.requires.0 c.requires.1

pub returns-in_err-book : goal.returns-in_err-book
returns-in_err-book c =
    let appended = c.append_good.ensures in
    passes_on _ _ _ appended.0 c.in_err-book.was c.from_residual.ensures.1 (λ z k. (z, appended.1))

pub returns : goal.returns
returns c =
    let appended = c.append_good.ensures in
    (books_as c.args.self _ (passed _ _ appended.0 c.in_ok-book.was) (value_of _ _ appended.0 c.in_ok-book.was), appended.1)
