-- `messages::put_session` meets its contract. Assumes nothing.
use Rattle.messages.proofs.Puts.{session_put}
use Rattle.messages.proofs.put_session.Goals as goal

pub returns : goal.returns
returns c =
    let headed = c in
    let number = headed in
    let unit = number in
    let type = unit in
    let start = type in
    let a = start.args in
    session_put a.m.now a.buffer.now _ type.type_of-message.result unit.unit_of-unit.result number.number_of-number.result start.requires.0 start.requires.1 start.requires.2 headed.put_head.ensures
    type.type_of-message.ensures unit.unit_of-unit.ensures number.number_of-number.ensures c.put_body.ensures
