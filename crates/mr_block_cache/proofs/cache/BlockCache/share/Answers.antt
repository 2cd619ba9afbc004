use Rattle.std.proofs.Common.{◌∙◌, ap, sym}
use Rattle.std.specs.Option.{option_copied}
use Rattle.mr_block_cache.specs.Cache.{held}
use Rattle.mr_block_cache.proofs.Fronting.{shared}
use Rattle.mr_block_cache.proofs.cache.BlockCache.share.Goals as goal

pub returns : goal.returns
returns c =
    shared c.share.result (held c.args.span c.args.self.now) c.unwrap.result.now (ap (held c.args.span) (sym c.self.view_is) ∙ sym c.peek.ensures ∙ ap option_copied c.unwrap.ensures) c.share.ensures
