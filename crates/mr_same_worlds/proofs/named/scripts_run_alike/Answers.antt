use Rattle.mr_same_worlds.proofs.Naming.{script-alike}
use Rattle.mr_same_worlds.proofs.named.scripts_run_alike.Goals as goal

pub returns : goal.returns
returns c = script-alike
