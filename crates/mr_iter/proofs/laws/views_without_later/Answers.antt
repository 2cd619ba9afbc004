use Rattle.std.specs.Prelude.{None}
use Rattle.mr_iter.proofs.Views.{shown_without}
use Rattle.mr_iter.proofs.laws.views_without_later.Goals as goal

pub returns : goal.returns
returns c = λ d number v vs lt. shown_without d number None v vs lt
