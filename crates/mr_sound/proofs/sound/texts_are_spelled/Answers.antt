use Rattle.mr_sound.proofs.Scripts.{parsed-spelled, script-spelled}
use Rattle.mr_sound.proofs.sound.texts_are_spelled.Goals as goal

pub returns-clause-text : goal.returns-clause-text
returns-clause-text c = parsed-spelled

pub returns-clause-script : goal.returns-clause-script
returns-clause-script c = script-spelled
