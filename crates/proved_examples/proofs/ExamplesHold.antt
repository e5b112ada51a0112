-- The worked examples of document 01: the definitions answer what the document says. Assumes nothing.
use Rattle.std.specs.Prelude.{◌≡◌, refl, map}
use Rattle.wire.specs.Header.{length_of, total_of, number_of}
use Rattle.wire.specs.Frame.{not_ba, starts_bad, length_bad, cut_short, frame_refusal, framed}
use Rattle.table.specs.Table.{unit_refusal, entry_refusal, entry_of, step_refusal, step_of}
use Rattle.pulse.specs.Pulse.{elapsed_of, heartbeat_due}
use Rattle.dictionary.specs.Dictionary as dictionary
use Rattle.block.specs.Places.{selected_at, entry_at, slots_from, has_required}
use Rattle.orders.specs.Shapes.{count_at, most_of, unit_good, fixed_good}
use Rattle.orders.specs.Middle as middles
use Rattle.orders.specs.Late as lates
use Rattle.orders.specs.Orders as orders
use Rattle.session_groups.specs.Groups as groups
use Rattle.session_messages.specs.Sessions as sessions
use Rattle.messages.specs.Messages.{carries, session_record_bytes, own_refusal, record_of, read_refusal}
use Rattle.proved_examples.specs.Examples.{Example, examples}

-- every example is answered as document 01 states it
pub examples_hold : map (λ (e : Example). e.answered) examples ≡ map (λ (e : Example). e.stated) examples
unfolding length_of total_of not_ba starts_bad length_bad cut_short frame_refusal unit_refusal entry_refusal entry_of step_refusal step_of elapsed_of heartbeat_due framed carries read_refusal orders.read_refusal orders.head_refusal orders.block_refusal orders.body_refusal orders.rest_of middles.middle_size middles.middle_good lates.lacks lates.conflicts lates.late_refusal orders.bits_of orders.optional_of orders.fixed_of orders.layout_of orders.record_of number_of count_at most_of unit_good fixed_good selected_at entry_at dictionary.entry_of slots_from has_required own_refusal record_of session_record_bytes sessions.read_refusal sessions.fixed_size sessions.values_good sessions.flag_good sessions.lists_end sessions.body_end sessions.body_of groups.units_from groups.pairs_good groups.bits_good groups.group_key groups.group_size groups.next_size groups.groups_from
examples_hold = refl
