use Rattle.std.proofs.Common.{Bool, ◌||◌, ◌+◌, refl, sym, ◌∙◌, ap}
use Rattle.mr_compact.specs.Levels.{at_level}
use Rattle.mr_compact.specs.Passes.{overlaps_touched}
use Rattle.mr_compact.proofs.Choice.{any_parts}
use Rattle.mr_compact.proofs.choosing.overlaps_merged.Goals as goal

pub returns-then-overlaps_level : goal.returns-then-overlaps_level
returns-then-overlaps_level c =
    c.if-overlaps_level.true
    ∙ ap (λ (t : Bool). t || overlaps_touched (at_level c.args.level c.args.part.now) (c.args.level + 1) c.args.span.now c.args.spans.now) (sym c.if-overlaps_level.true)
    ∙ any_parts c.args.level c.args.part.now c.args.spans.now c.args.span.now c.overlaps_level.result (overlaps_touched (at_level c.args.level c.args.part.now) (c.args.level + 1) c.args.span.now c.args.spans.now) c.overlaps_level.ensures refl

pub returns-else-overlaps_level : goal.returns-else-overlaps_level
returns-else-overlaps_level c =
    ap (λ (t : Bool). t || c.overlaps_touched.result) (sym c.if-overlaps_level.false)
    ∙ any_parts c.args.level c.args.part.now c.args.spans.now c.args.span.now c.overlaps_level.result c.overlaps_touched.result c.overlaps_level.ensures c.overlaps_touched.ensures
