use Rattle.mr_sound.proofs.Scripts.{sound-behind}
use Rattle.mr_sound.proofs.sound.runs_keep_worlds_sound.Goals as goal

pub returns : goal.returns
returns c = sound-behind
