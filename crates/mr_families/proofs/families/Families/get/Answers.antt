use Rattle.std.proofs.Common.{◌≡◌, ◌≢◌, ℕ, List, IfOk, subst}
use Rattle.std.specs.Option.{option_map}
use Rattle.std.specs.List.{AllByRecursion}
use Rattle.mr_base.specs.Disk.{Tells, seen}
use Rattle.mr_iter.specs.Newest.{newest}
use Rattle.mr_block.specs.Held.{version_held}
use Rattle.mr_block_cache.specs.Cache.{AgreesWith}
use Rattle.mr_family.specs.Family.{files, versions, IsWhole, IsTrueTo}
use Rattle.mr_families.specs.declared.numbered.Numbered.{Numbered}
use Rattle.mr_families.specs.Known.{family_at}
use Rattle.mr_families.proofs.families.Families.get.Goals as goal

pub returns-clause-found : goal.returns-clause-found
returns-clause-found g c =
    subst (λ (ns : List Numbered). Tells (g.D.Disk.disk c.args.disk.now) → IsWhole (family_at ns c.args.number) (seen (g.D.Disk.disk c.args.disk.now)) → IsTrueTo (seen (g.D.Disk.disk c.args.disk.now)) (family_at ns c.args.number) → IfOk c.get_in.result (λ o. option_map version_held o ≡ newest c.args.at c.args.key.now (versions (family_at ns c.args.number) (seen (g.D.Disk.disk c.args.disk.now))))) c.self.view_is c.get_in.ensures.found

pub returns-clause-others : goal.returns-clause-others
returns-clause-others g c =
    subst (λ (ns : List Numbered). (file : ℕ) (bytes : List ℕ) → AllByRecursion (λ live. file ≢ live) (files (family_at ns c.args.number)) → AgreesWith file bytes (family_at ns c.args.number).cached → AgreesWith file bytes (family_at c.get_in.new.list.items c.args.number).cached) c.self.view_is c.get_in.ensures.others
