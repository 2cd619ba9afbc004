use Rattle.std.proofs.Common.{Bool, ◌&&◌, refl, sym, ◌∙◌, ap}
use Rattle.mr_compact.specs.Levels.{span_of}
use Rattle.mr_compact.specs.Passes.{begins_before}
use Rattle.mr_compact.proofs.Choice.{ends_and_begins}
use Rattle.mr_compact.proofs.choosing.overlaps_all.Goals as goal

pub returns-then-ends_behind : goal.returns-then-ends_behind
returns-then-ends_behind c =
    ap (λ (t : Bool). t && c.begins_before.result) (sym c.if-ends_behind.true)
    ∙ ends_and_begins c.args.level c.args.runs.now c.args.span.now c.least.result.now c.greatest.result.now c.ends_behind.result c.begins_before.result c.least.ensures c.greatest.ensures c.ends_behind.ensures c.begins_before.ensures

pub returns-else-ends_behind : goal.returns-else-ends_behind
returns-else-ends_behind c =
    c.if-ends_behind.false
    ∙ ap (λ (t : Bool). t && begins_before c.args.level (span_of c.args.span.now).greatest c.args.runs.now) (sym c.if-ends_behind.false)
    ∙ ends_and_begins c.args.level c.args.runs.now c.args.span.now c.least.result.now (span_of c.args.span.now).greatest c.ends_behind.result (begins_before c.args.level (span_of c.args.span.now).greatest c.args.runs.now) c.least.ensures refl c.ends_behind.ensures refl
