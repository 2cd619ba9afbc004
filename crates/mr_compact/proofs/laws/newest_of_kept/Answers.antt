use Rattle.std.specs.Prelude.{None, refl}
use Rattle.mr_compact.proofs.Keeping.{newest_kept}
use Rattle.mr_compact.proofs.laws.newest_of_kept.Goals as goal

pub returns : goal.returns
returns c = λ d oldest number bottom keeps key vs upto all. newest_kept oldest bottom keeps d number upto key None vs refl all
