use Rattle.std.proofs.Common.{List, None, filter, refl, sym, ◌∙◌, ap}
use Rattle.mr_iter.specs.Versions.{Version}
use Rattle.mr_iter.specs.Newest.{newest, shown_one}
use Rattle.mr_compact.specs.Kept.{kept_versions, stays_shown}
use Rattle.mr_compact.proofs.Keeping.{kept_in_order, newest_kept, shown_kept}
use Rattle.mr_compact.proofs.laws.views_of_kept.Goals as goal

pub returns : goal.returns
returns c = λ d oldest number bottom keeps key vs upto all.
    c.view_has_newest.ensures d number key (kept_versions oldest bottom keeps vs) (kept_in_order oldest bottom keeps d None vs all)
    ∙ ap shown_one (newest_kept oldest bottom keeps d number upto key None vs refl all)
    ∙ shown_kept oldest bottom keeps (newest number key vs)
    ∙ ap (λ (ws : List Version). filter (stays_shown oldest keeps) ws) (sym (c.view_has_newest.ensures d number key vs all))
