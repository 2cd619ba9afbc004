use Rattle.std.proofs.Common.{None, Option, map, refl, ◌∙◌, ap}
use Rattle.mr_iter.specs.Versions.{Version}
use Rattle.mr_iter.specs.Newest.{newest, later, latest}
use Rattle.mr_compact.specs.Kept.{kept_versions}
use Rattle.std.specs.Prelude.{◌∷◌}
use Rattle.mr_compact.proofs.Keeping.{kept_in_order, newest_kept}
use Rattle.mr_compact.proofs.laws.newest_beside_others.Goals as goal

pub returns : goal.returns
returns c = λ d oldest number bottom keeps key vs others upto all each.
    c.newest_of_merged.ensures d number key (kept_versions oldest bottom keeps vs ∷ others) (kept_in_order oldest bottom keeps d None vs all, each)
    ∙ ap (λ (o : Option Version). later o (latest (map (newest number key) others))) (newest_kept oldest bottom keeps d number upto key None vs refl all)
