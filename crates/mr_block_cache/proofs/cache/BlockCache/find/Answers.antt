use Rattle.std.proofs.Common.{◌∙◌, ap, sym}
use Rattle.mr_block_cache.specs.Cache.{brought}
use Rattle.mr_block_cache.proofs.Fronting.{after_promote}
use Rattle.mr_block_cache.proofs.cache.BlockCache.find.Goals as goal

pub invariant_of-self : goal.invariant_of-self
invariant_of-self c =
    let kept = after_promote c.args.span c.in-Some.block.now c.self.inside.blocks c.promote.new.self c.self.invariant.0 c.self.invariant.1 (sym c.in-Some.ensures) c.promote.ensures.entries in
    (kept.capacity, kept.few)

pub returns-clause-front : goal.returns-clause-front
returns-clause-front c =
    let kept = after_promote c.args.span c.in-Some.block.now c.self.inside.blocks c.promote.new.self c.self.invariant.0 c.self.invariant.1 (sym c.in-Some.ensures) c.promote.ensures.entries in
    kept.is ∙ ap (brought c.args.span) c.self.view_is
