use Rattle.std.proofs.Common.{◌≡◌, [], get_or, Option, Some, None, refl, sym, ◌∙◌, ap, subst, arith}
use Rattle.std.specs.Option.{option_map}
use Rattle.mr_iter.specs.Versions.{version_cmp, IsInOrder}
use Rattle.mr_iter.specs.Newest.{newest}
use Rattle.mr_block.specs.Held.{Held, version_held}
use Rattle.mr_run_get.proofs.Joining.{each_of, item_at, blocks_past, blocks_there, none_left}
use Rattle.mr_run_get.proofs.newest.newest_of.Goals as goal

pub seeking-init : goal.seeking-init
seeking-init c = λ all. refl

pub returns-in-Some : goal.returns-in-Some
returns-in-Some c = λ all.
    let at : get_or c.args.blocks.now c.seeking.block-index [] ≡ c.block-item.result = item_at c.seeking.block-index c.block-item.result c.args.blocks.now c.seeking-test.true c.block-item.is in
    let ordered : IsInOrder (version_cmp c.args.direction) c.block-item.result = subst (IsInOrder (version_cmp c.args.direction)) at (each_of (IsInOrder (version_cmp c.args.direction)) c.seeking.block-index c.args.blocks.now c.seeking-test.true all) in
    let here : newest c.args.number c.args.key.now (get_or c.args.blocks.now c.seeking.block-index []) ≡ Some (version_held c.in-Some.found) =
    ap (newest c.args.number c.args.key.now) at ∙ sym (c.in_ok-found.ensures ordered) ∙ ap (λ (o : Option Held). option_map version_held o) c.in-Some.is in
    sym (c.seeking.invariant all ∙ blocks_there c.args.number c.args.key.now c.seeking.block-index (version_held c.in-Some.found) c.args.blocks.now c.seeking-test.true here)

pub seeking-preserved : goal.seeking-preserved
seeking-preserved c = λ all.
    let at : get_or c.args.blocks.now c.seeking.block-index [] ≡ c.block-item.result = item_at c.seeking.block-index c.block-item.result c.args.blocks.now c.seeking-test.true c.block-item.is in
    let ordered : IsInOrder (version_cmp c.args.direction) c.block-item.result = subst (IsInOrder (version_cmp c.args.direction)) at (each_of (IsInOrder (version_cmp c.args.direction)) c.seeking.block-index c.args.blocks.now c.seeking-test.true all) in
    let here : newest c.args.number c.args.key.now (get_or c.args.blocks.now c.seeking.block-index []) ≡ None =
    ap (newest c.args.number c.args.key.now) at ∙ sym (c.in_ok-found.ensures ordered) ∙ ap (λ (o : Option Held). option_map version_held o) c.in_default.is in
    c.seeking.invariant all ∙ blocks_past c.args.number c.args.key.now c.seeking.block-index c.args.blocks.now c.seeking-test.true here

pub returns : goal.returns
returns c = λ all. sym (c.seeking.invariant all ∙ none_left c.args.number c.args.key.now c.seeking.block-index c.args.blocks.now (omega (arith, c.seeking-test.false, c.seeking.auto.block-index-end)))
