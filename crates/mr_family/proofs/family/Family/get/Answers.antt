use Rattle.std.proofs.Common.{◌≢◌, sym, subst}
use Rattle.std.specs.Option.{option_map}
use Rattle.std.specs.List.{AllByRecursion}
use Rattle.mr_base.specs.Disk.{seen}
use Rattle.mr_block.specs.Held.{version_held}
use Rattle.mr_run_open.specs.Runs.{RunState}
use Rattle.mr_run_get.specs.Get.{IsGapless}
use Rattle.mr_block_cache.specs.Cache.{AgreesWith}
use Rattle.mr_levels.specs.Levels.{runs, AreWhole}
use Rattle.mr_levels.specs.Looks.{AgreeWith, AreGapless}
use Rattle.mr_levels.proofs.Skipping.{each_looked}
use Rattle.mr_levels.proofs.Finding.{each_ok}
use Rattle.mr_family.specs.Family.{FamilyState}
use Rattle.mr_family.proofs.Wholes.{found_in_all, carry, other_files}
use Rattle.mr_family.proofs.family.Family.get.Goals as goal

pub returns-in-Err-clause-stays_true : goal.returns-in-Err-clause-stays_true
returns-in-Err-clause-stays_true g c = λ tells gapless agree.
    let s = c.self.inside.levels in
    let image = seen (g.D.Disk.disk c.args.disk.now) in
    carry image c.self.inside.cache c.find.new.cache (c.find.ensures.spends.agrees tells (each_looked IsGapless s.direction c.args.key.now s.newest s.deeper (subst (λ (f : FamilyState). AreGapless (runs f.levels)) (sym c.self.view_is) gapless))) (runs s)
    (subst (λ (f : FamilyState). AgreeWith (seen (g.D.Disk.disk c.args.disk.now)) f.cached (runs f.levels)) (sym c.self.view_is) agree)

pub returns-in-Err-clause-others : goal.returns-in-Err-clause-others
returns-in-Err-clause-others g c = λ file bytes none agree.
    let s = c.self.inside.levels in
    c.find.ensures.spends.others file bytes (each_looked (λ (r : RunState). file ≢ r.file) s.direction c.args.key.now s.newest s.deeper (subst (λ (f : FamilyState). AllByRecursion (λ (r : RunState). file ≢ r.file) (runs f.levels)) (sym c.self.view_is) (other_files file (runs c.args.self.now.levels) none)))
    (subst (λ (f : FamilyState). AgreesWith file bytes f.cached) (sym c.self.view_is) agree)

pub returns-clause-stays_true : goal.returns-clause-stays_true
returns-clause-stays_true g c = λ tells gapless agree.
    let s = c.self.inside.levels in
    let image = seen (g.D.Disk.disk c.args.disk.now) in
    carry image c.self.inside.cache c.find.new.cache (c.find.ensures.spends.agrees tells (each_looked IsGapless s.direction c.args.key.now s.newest s.deeper (subst (λ (f : FamilyState). AreGapless (runs f.levels)) (sym c.self.view_is) gapless))) (runs s)
    (subst (λ (f : FamilyState). AgreeWith (seen (g.D.Disk.disk c.args.disk.now)) f.cached (runs f.levels)) (sym c.self.view_is) agree)

pub returns-clause-others : goal.returns-clause-others
returns-clause-others g c = λ file bytes none agree.
    let s = c.self.inside.levels in
    c.find.ensures.spends.others file bytes (each_looked (λ (r : RunState). file ≢ r.file) s.direction c.args.key.now s.newest s.deeper (subst (λ (f : FamilyState). AllByRecursion (λ (r : RunState). file ≢ r.file) (runs f.levels)) (sym c.self.view_is) (other_files file (runs c.args.self.now.levels) none)))
    (subst (λ (f : FamilyState). AgreesWith file bytes f.cached) (sym c.self.view_is) agree)

pub returns-clause-found : goal.returns-clause-found
returns-clause-found g c = λ tells whole agree.
    let found = c.in-Ok.ensures.found tells (subst (λ (f : FamilyState). AreWhole f.levels (seen (g.D.Disk.disk c.args.disk.now))) (sym c.self.view_is) whole) (subst (λ (f : FamilyState). AgreeWith (seen (g.D.Disk.disk c.args.disk.now)) f.cached (runs f.levels)) (sym c.self.view_is) agree) in
    each_ok c.later_in_memory.result (λ o e. found_in_all c.args.at c.args.key.now (seen (g.D.Disk.disk c.args.disk.now)) c.self.inside.memtable c.self.inside.levels c.self.inside.cache c.args.self.now (option_map version_held c.in-Ok.found) (option_map version_held o)
    c.self.view_is c.self.invariant c.are_in_order.ensures.memtable c.are_in_order.ensures.levels whole found e) c.later_in_memory.ensures.later
