use Rattle.std.proofs.Common.{◌≡◌, ◌≤◌, ◌∙◌, length, ap, sym, subst, IsSome}
use Rattle.mr_block_cache.specs.Cache.{held, with_block}
use Rattle.mr_block_cache.proofs.Fronting.{after_put, by_result}
use Rattle.mr_block_cache.proofs.cache.BlockCache.put.Goals as goal

pub invariant_of-self : goal.invariant_of-self
invariant_of-self c =
    by_result c.put.result _ _ ((c.put.new.self.cap ≡ 1024) × (length c.put.new.self.entries ≤ 1024)) c.put.ensures.entries c.put.ensures.err
    (λ e. let kept = after_put c.args.span c.args.block c.self.inside.blocks c.put.new.self c.self.invariant.0 c.self.invariant.1 e in (kept.capacity, kept.few))
    (λ e. subst (λ b. (b.cap ≡ 1024) × (length b.entries ≤ 1024)) (sym e) c.self.invariant)

pub returns-in-Ok-clause-put : goal.returns-in-Ok-clause-put
returns-in-Ok-clause-put c =
    (after_put c.args.span c.args.block c.self.inside.blocks c.put.new.self c.self.invariant.0 c.self.invariant.1 c.in-Ok.ensures.entries).is ∙ ap (with_block c.args.span c.args.block) c.self.view_is

pub returns-clause-free : goal.returns-clause-free
returns-clause-free c = λ some. c.in-Err.ensures.succeeds (subst (λ cs. IsSome (held c.args.span cs)) (sym c.self.view_is) some)
