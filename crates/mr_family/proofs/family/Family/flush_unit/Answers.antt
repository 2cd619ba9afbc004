use Rattle.std.proofs.Common.{◌≡◌, ℕ, List, subst}
use Rattle.mr_base.specs.Disk.{Tells, seen}
use Rattle.mr_block_cache.specs.Cache.{AgreesWith}
use Rattle.mr_compact.specs.Merges.{AreBefore}
use Rattle.mr_levels.specs.Levels.{runs, AreWhole}
use Rattle.mr_levels.specs.Looks.{AgreeWith}
use Rattle.mr_flush.specs.Flushed.{versions_of as listed}
use Rattle.mr_family.specs.Family.{FamilyState, files, versions, IsWhole, IsTrueTo}
use Rattle.mr_family.proofs.Flushes.{flush_versions, flush_whole, flush_held}
use Rattle.mr_family.proofs.family.Family.flush_unit.Goals as goal

pub returns-clause-versions : goal.returns-clause-versions
returns-clause-versions g c = subst (λ (f : FamilyState). Tells (g.D.Disk.disk c.args.disk.now) → AreBefore c.args.file (files f) → listed c.flush.new.memtable c.flush.new.levels (seen (g.D.Disk.disk c.flush.new.disk)) ≡ versions f (seen (g.D.Disk.disk c.args.disk.now))) c.self.view_is
    (λ tells before. flush_versions c.args.file (g.D.Disk.disk c.args.disk.now) (g.D.Disk.disk c.flush.new.disk) c.self.inside.memtable c.flush.new.memtable c.self.inside.levels c.flush.new.levels c.flush.result c.flush.ensures.flush c.flush.ensures.same_memtable c.flush.ensures.same_levels c.flush.ensures.kept_memtable c.flush.ensures.kept_levels c.flush.ensures.flushes tells before)

pub returns-clause-whole : goal.returns-clause-whole
returns-clause-whole g c = subst (λ (f : FamilyState). Tells (g.D.Disk.disk c.args.disk.now) → AreBefore c.args.file (files f) → IsWhole f (seen (g.D.Disk.disk c.args.disk.now)) → AreWhole c.flush.new.levels (seen (g.D.Disk.disk c.flush.new.disk))) c.self.view_is
    (λ tells before whole. flush_whole c.args.file (g.D.Disk.disk c.args.disk.now) (g.D.Disk.disk c.flush.new.disk) c.self.inside.memtable c.flush.new.memtable c.self.inside.levels c.flush.new.levels c.flush.result c.flush.ensures.flush c.flush.ensures.same_memtable c.flush.ensures.same_levels c.flush.ensures.kept_memtable c.flush.ensures.kept_levels c.flush.ensures.flushes tells before whole)

pub returns-clause-held : goal.returns-clause-held
returns-clause-held g c = subst (λ (f : FamilyState). Tells (g.D.Disk.disk c.args.disk.now) → AreBefore c.args.file (files f) → ((bytes : List ℕ) → AgreesWith c.args.file bytes f.cached) → IsTrueTo (seen (g.D.Disk.disk c.args.disk.now)) f → AgreeWith (seen (g.D.Disk.disk c.flush.new.disk)) c.self.inside.cache (runs c.flush.new.levels)) c.self.view_is
    (λ tells before none agree. flush_held c.args.file (g.D.Disk.disk c.args.disk.now) (g.D.Disk.disk c.flush.new.disk) c.self.inside.memtable c.flush.new.memtable c.self.inside.levels c.flush.new.levels c.flush.result c.flush.ensures.flush c.flush.ensures.same_memtable c.flush.ensures.same_levels c.flush.ensures.kept_memtable c.flush.ensures.kept_levels c.flush.ensures.flushes tells before c.self.inside.cache none agree)
