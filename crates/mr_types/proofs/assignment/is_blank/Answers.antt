use Rattle.mr_types.proofs.Blank.{blank_test}
use Rattle.mr_types.proofs.assignment.is_blank.Goals as goal

pub returns : goal.returns
returns c = blank_test c.args.bytes.now c.trailing_spaces.result c.trailing_spaces.ensures
