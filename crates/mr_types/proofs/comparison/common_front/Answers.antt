use Rattle.mr_types.proofs.Comparing.{front_common}
use Rattle.mr_types.proofs.comparison.common_front.Goals as goal

pub returns-in-Slice-right : goal.returns-in-Slice-right
returns-in-Slice-right c = rw (c.in-Slice.is, c.in-Slice-right.is) (front_common c.in-Slice.a.now c.in-Slice-right.b.now c.first_difference.result c.first_difference.ensures)
