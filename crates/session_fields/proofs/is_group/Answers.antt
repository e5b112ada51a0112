-- `session_fields::is_group` meets its contract. Assumes nothing.
use borrow.Author.Tests.{eq-eqb, ne_eqb}
use Rattle.session_fields.proofs.is_group.Goals as goal

pub returns-then-byte_at-t : goal.returns-then-byte_at-t
returns-then-byte_at-t c = rw (← c.byte_at.ensures, ne_eqb _ _ c.if-byte_at-t.true)

pub returns-then-t-eq128 : goal.returns-then-t-eq128
returns-then-t-eq128 c = rw (← c.byte_at.ensures, eq-eqb _ _ c.if-byte_at-t.false, eq-eqb _ _ c.if-t-eq128.true)

pub returns : goal.returns
returns c = rw (← c.byte_at.ensures, ← c.byte_at-2.ensures, eq-eqb _ _ c.if-byte_at-t.false, ne_eqb _ _ c.if-t-eq128.false)
