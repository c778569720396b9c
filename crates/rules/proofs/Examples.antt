-- The table of examples, by computing.
use Rattle.std.proofs.Common.{refl}
use Rattle.domain.specs.Boxes.{point_box, join_boxes, box_loss, covers}
use Rattle.rules.specs.Examples.{Examples, RunExamples, RefusalExamples, ArrivalExamples, TurnExamples, KeptExamples, SplitExamples, DomainExamples}

run_examples : RunExamples
unfolding point_box join_boxes box_loss covers
run_examples = record { lines = refl; turns_taken = refl }

refusal_examples : RefusalExamples
unfolding point_box join_boxes box_loss covers
refusal_examples = record { wide = refl; short_delay = refl; lone = refl; most = refl; fewest = refl; width_first = refl; past = refl; full = refl; last = refl; closed_first = refl; in_turn = refl }

arrival_examples : ArrivalExamples
unfolding point_box join_boxes box_loss covers
arrival_examples = record { raised_least = refl; equal_raise = refl; smaller = refl; oldest = refl; no_bound = refl; no_loss = refl; new = refl; no_room = refl; half_above = refl; half_below = refl; same_is_not_below = refl }

turn_examples : TurnExamples
unfolding point_box join_boxes box_loss covers
turn_examples = record { two_larger = refl; one_larger = refl; counted_once = refl; narrow_again = refl; nearer = refl; measured_anew = refl; own_loss = refl; same_owner = refl; equally_near = refl }

kept_examples : KeptExamples
unfolding point_box join_boxes box_loss covers
kept_examples = record { by_loss = refl; by_number = refl; window = refl; own_counts = refl; alone = refl; reused_first = refl; other_covers = refl; own_crowd = refl }

split_examples : SplitExamples
unfolding point_box join_boxes box_loss covers
split_examples = record { two_parts = refl; fifth = refl; fifth_first = refl; fifth_second = refl; nearer_second = refl; wide_part = refl; equal_growth = refl; together = refl; undivided = refl }

domain_examples : DomainExamples
unfolding point_box join_boxes box_loss covers
domain_examples = record { third = refl; near = refl; near_loss = refl; far = refl; far_loss = refl; across = refl; again = refl; free = refl }

pub examples : Examples
examples = record { runs = run_examples; refusals = refusal_examples; arrivals = arrival_examples; turns_tried = turn_examples; kept_boxes = kept_examples; splits = split_examples; domains = domain_examples }
