use Rattle.std.proofs.Common.{◌≡◌, ◌-◌, map, suc, arith}
use Rattle.mr_levels.proofs.Looking.{items_of}
use Rattle.mr_levels.proofs.Placed.{kept_newest, kept_deeper, added_newest, added_deeper}
use Rattle.mr_levels.proofs.levels.Levels.open_run.Goals as goal

pub invariant_of-self : goal.invariant_of-self
invariant_of-self g c = kept_newest c.args.info.now c.self.inside.direction c.in-Ok.run' c.in-Ok.ensures.run c.self.inside.newest.items (map items_of c.self.inside.deeper.items) c.args.self.now c.self.view_is c.add_newest.new.runs.items c.in_ok-add_newest.ensures.added c.self.invariant

pub invariant_of-self-in-Continue-branch-2 : goal.invariant_of-self-in-Continue-branch-2
invariant_of-self-in-Continue-branch-2 g c = kept_deeper c.args.info.now c.self.inside.direction c.in-Ok.run' c.in-Ok.ensures.run c.self.inside.newest.items (map items_of c.self.inside.deeper.items) c.args.self.now c.self.view_is (c.args.level - 1) (map items_of c.add_deeper.new.levels.items) c.in_ok-add_deeper.ensures.added c.self.invariant

pub returns-in_ok-add_newest-clause-opened : goal.returns-in_ok-add_newest-clause-opened
returns-in_ok-add_newest-clause-opened g c = record {
  index = c.in-Ok.run'.index;
  added = added_newest c.args.info.now c.self.inside.direction c.in-Ok.run' c.in-Ok.ensures.run c.self.inside.newest.items (map items_of c.self.inside.deeper.items) c.args.self.now c.self.view_is c.args.level c.add_newest.new.runs.items c.if-level-eq0.true c.in_ok-add_newest.ensures.added;
  told = c.in-Ok.ensures.index;
}

pub returns-in_ok-add_deeper-clause-opened : goal.returns-in_ok-add_deeper-clause-opened
returns-in_ok-add_deeper-clause-opened g c =
    let e : c.args.level ≡ suc (c.args.level - 1) = omega (arith, c.if-level-eq0.false) in
    record {
      index = c.in-Ok.run'.index;
      added = added_deeper c.args.info.now c.self.inside.direction c.in-Ok.run' c.in-Ok.ensures.run c.self.inside.newest.items (map items_of c.self.inside.deeper.items) c.args.self.now c.self.view_is c.args.level (c.args.level - 1) (map items_of c.add_deeper.new.levels.items) e c.in_ok-add_deeper.ensures.added;
      told = c.in-Ok.ensures.index;
    }
