-- `asking::words::read_bytes` meets its contract: the word is judged, and then the room, before a byte is stored. Assumes nothing.
use Rattle.std.proofs.Common.{sym, ◌∙◌}
use Rattle.asking.specs.WordLaws.{not-bytes, no_room}
use Rattle.asking.proofs.StoringLaws.{no_bytes, bytes-taken}
use Rattle.asking.proofs.words.read_bytes.Goals as goal

pub returns-then-not-is_bytes-clause-count : goal.returns-then-not-is_bytes-clause-count
returns-then-not-is_bytes-clause-count c = (no_bytes c.args.word.now c.args.out.now (not-bytes c.args.word.now _ (sym c.is_bytes.ensures ∙ c.if-not-is_bytes.true))).0

pub returns-then-not-is_bytes-clause-stored : goal.returns-then-not-is_bytes-clause-stored
returns-then-not-is_bytes-clause-stored c = (no_bytes c.args.word.now c.args.out.now (not-bytes c.args.word.now _ (sym c.is_bytes.ensures ∙ c.if-not-is_bytes.true))).1

pub returns-then-out-n-clause-count : goal.returns-then-out-n-clause-count
returns-then-out-n-clause-count c = (no_bytes c.args.word.now c.args.out.now (no_room c.args.word.now _ c.if-out-n.true)).0

pub returns-then-out-n-clause-stored : goal.returns-then-out-n-clause-stored
returns-then-out-n-clause-stored c = (no_bytes c.args.word.now c.args.out.now (no_room c.args.word.now _ c.if-out-n.true)).1

pub returns-clause-count : goal.returns-clause-count
returns-clause-count c = (bytes-taken c.args.word.now c.args.out.now (sym c.is_bytes.ensures ∙ c.if-not-is_bytes.false) c.if-out-n.false c.put_bytes.ensures).0

pub returns-clause-stored : goal.returns-clause-stored
returns-clause-stored c = (bytes-taken c.args.word.now c.args.out.now (sym c.is_bytes.ensures ∙ c.if-not-is_bytes.false) c.if-out-n.false c.put_bytes.ensures).1
