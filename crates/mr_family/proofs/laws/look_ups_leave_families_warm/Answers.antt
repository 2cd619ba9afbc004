use Rattle.std.proofs.Common.{sym, subst}
use Rattle.mr_block_cache.specs.Cache.{IsWarm}
use Rattle.mr_block_cache.proofs.Holding.{warm_after}
use Rattle.mr_levels.specs.Levels.{LevelsState}
use Rattle.mr_levels.specs.Looks.{looked, key_spans}
use Rattle.mr_family.proofs.laws.look_ups_leave_families_warm.Goals as goal

pub returns : goal.returns
returns c = λ key old new sorted same brings few. subst (λ (s : LevelsState). IsWarm (key_spans key (looked key s)) new.cached) (sym same) (warm_after (key_spans key (looked key old.levels)) old.cached new.cached few (brings sorted))
