use Rattle.std.specs.Prelude.{None, refl}
use Rattle.mr_iter.proofs.Views.{view_of}
use Rattle.mr_iter.proofs.laws.view_has_newest.Goals as goal

pub returns : goal.returns
returns c = λ d number key vs all. view_of d number key None vs refl all
