use Rattle.std.proofs.Common.{◌∷◌, ◌++◌, List, Option, ◌∙◌, ap}
use Rattle.mr_iter.specs.Versions.{Version, version_cmp, IsInOrder, joined, merged}
use Rattle.mr_iter.specs.Order.{version_total, each-append, IsInOrder-in_order}
use Rattle.mr_iter.specs.Newest.{later}
use Rattle.mr_compact.specs.Kept.{kept_versions, becomes}
use Rattle.mr_merge_laws.specs.Around.{newest_of}
use Rattle.mr_merge_laws.proofs.Latest.{newest_of_append, merged_newest}
use Rattle.mr_merge_laws.proofs.laws.newest_after_a_merge.Goals as goal

pub returns : goal.returns
returns c = λ d oldest number bottom keeps key newer picked older upto all_newer all_picked all_older around.
    let ps : List Version = merged (version_cmp d) picked in
    let order : IsInOrder (version_cmp d) ps = IsInOrder-in_order (version_cmp d) (version_total d) (joined picked) in
    let kept : List Version = kept_versions oldest bottom keeps ps in
    c.newest_of_merged.ensures d number key (newer ++ kept ∷ older) (each-append (IsInOrder (version_cmp d)) newer (kept ∷ older) all_newer (c.kept_are_in_order.ensures d oldest bottom keeps ps order, all_older))
    ∙ newest_of_append number key newer (kept ∷ older)
    ∙ ap (λ (o : Option Version). later (newest_of number key newer) (later o (newest_of number key older))) (c.newest_of_kept.ensures d oldest number bottom keeps key ps upto order ∙ ap (becomes oldest bottom keeps) (c.newest_of_merged.ensures d number key picked all_picked))
    ∙ merged_newest oldest bottom keeps (newest_of number key newer) (newest_of number key picked) (newest_of number key older) around.over_picked around.over_older around.between around.last
