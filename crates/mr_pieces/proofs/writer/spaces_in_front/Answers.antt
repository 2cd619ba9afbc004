use Rattle.mr_pieces.proofs.Spaces.{known_front}
use Rattle.mr_pieces.proofs.writer.spaces_in_front.Goals as goal

pub loop-count-init : goal.loop-count-init
loop-count-init c = known_front c.args.known c.args.text.now c.requires
