use Rattle.std.proofs.Common.{◌∷◌, ◌++◌, ◌≡◌, List, Option, filter, ◌∙◌, ap, sym}
use Rattle.mr_iter.specs.Versions.{Version, version_cmp, IsInOrder, joined, merged}
use Rattle.mr_iter.specs.Order.{version_total, each-append, IsInOrder-in_order}
use Rattle.mr_iter.specs.Newest.{newest, later, shown_one}
use Rattle.mr_compact.specs.Kept.{kept_versions, becomes, stays_shown}
use Rattle.mr_merge_laws.specs.Around.{newest_of, first_one, is_touched, but_for}
use Rattle.mr_merge_laws.proofs.Latest.{newest_of_append, newest_before, shown_after}
use Rattle.mr_merge_laws.proofs.laws.views_after_a_merge.Goals as goal

pub returns : goal.returns
returns c = λ d oldest number bottom keeps key newer picked older upto all_newer all_picked all_older around.
    let n = newest_of number key newer in
    let p = newest_of number key picked in
    let o = newest_of number key older in
    let ps : List Version = merged (version_cmp d) picked in
    let order : IsInOrder (version_cmp d) ps = IsInOrder-in_order (version_cmp d) (version_total d) (joined picked) in
    let kept : List Version = kept_versions oldest bottom keeps ps in
    let is_p : newest number key ps ≡ p = c.newest_of_merged.ensures d number key picked all_picked in
    let law : shown_one (becomes oldest bottom keeps p) ≡ filter (stays_shown oldest keeps) (shown_one p) =
    ap (λ (q : Option Version). shown_one (becomes oldest bottom keeps q)) (sym is_p)
    ∙ ap shown_one (sym (c.newest_of_kept.ensures d oldest number bottom keeps key ps upto order))
    ∙ sym (c.view_has_newest.ensures d number key kept (c.kept_are_in_order.ensures d oldest bottom keeps ps order))
    ∙ c.views_of_kept.ensures d oldest number bottom keeps key ps upto order
    ∙ ap (filter (stays_shown oldest keeps)) (c.view_has_newest.ensures d number key ps order)
    ∙ ap (λ (q : Option Version). filter (stays_shown oldest keeps) (shown_one q)) is_p
    in
    let before : newest number key (merged (version_cmp d) (newer ++ (picked ++ older))) ≡ first_one n p o =
    c.newest_of_merged.ensures d number key (newer ++ (picked ++ older)) (each-append (IsInOrder (version_cmp d)) newer (picked ++ older) all_newer (each-append (IsInOrder (version_cmp d)) picked older all_picked all_older))
    ∙ newest_of_append number key newer (picked ++ older)
    ∙ ap (later n) (newest_of_append number key picked older)
    ∙ newest_before oldest bottom keeps n p o around.over_picked around.over_older around.between
    in
    c.view_has_newest.ensures d number key (merged (version_cmp d) (newer ++ kept ∷ older)) (IsInOrder-in_order (version_cmp d) (version_total d) (joined (newer ++ kept ∷ older)))
    ∙ ap shown_one (c.newest_after_a_merge.ensures d oldest number bottom keeps key newer picked older upto all_newer all_picked all_older around)
    ∙ shown_after oldest bottom keeps n p o law
    ∙ ap (but_for oldest keeps (is_touched n p)) (ap shown_one (sym before) ∙ sym (c.view_has_newest.ensures d number key (merged (version_cmp d) (newer ++ (picked ++ older))) (IsInOrder-in_order (version_cmp d) (version_total d) (joined (newer ++ (picked ++ older))))))
