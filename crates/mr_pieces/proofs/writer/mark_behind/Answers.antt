use Rattle.std.proofs.Common.{arith}
use Rattle.mr_pieces.proofs.Spaces.{none_at, low_at, high_at}
use Rattle.mr_pieces.proofs.writer.mark_behind.Goals as goal

pub returns-then-spaces-rest : goal.returns-then-spaces-rest
returns-then-spaces-rest c = none_at c.args.spaces c.args.rest.now c.requires (omega arith)

pub returns-then-rest-spaces-lt32 : goal.returns-then-rest-spaces-lt32
returns-then-rest-spaces-lt32 c = low_at c.args.spaces c.args.rest.now c.requires (omega arith) (omega arith)

pub returns-else-rest-spaces-lt32 : goal.returns-else-rest-spaces-lt32
returns-else-rest-spaces-lt32 c = high_at c.args.spaces c.args.rest.now c.requires (omega arith) (omega arith)
