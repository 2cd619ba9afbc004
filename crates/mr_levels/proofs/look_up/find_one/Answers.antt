use Rattle.std.proofs.Common.{List, subst, sym}
use Rattle.mr_iter.specs.Cursors.{MayStop}
use Rattle.mr_run_open.specs.Runs.{RunState}
use Rattle.mr_levels.specs.Looks.{HasKeyOffence, Spends}
use Rattle.mr_levels.proofs.Looking.{one_spends, one_stops, held_one}
use Rattle.mr_levels.proofs.look_up.find_one.Goals as goal

pub returns-in-Ok-clause-spends : goal.returns-in-Ok-clause-spends
returns-in-Ok-clause-spends g c =
    subst (λ (rs : List RunState). Spends c.args.key.now rs (g.D.Disk.disk c.args.disk.now) (g.D.Disk.disk c.get.new.disk) c.args.cache.now c.get.new.cache) (sym (held_one c.args.direction c.args.key.now c.args.run.now c.can_hold.result c.can_hold.ensures c.if-not-can_hold.false))
    (one_spends c.args.key.now c.args.run.now (g.D.Disk.disk c.args.disk.now) (g.D.Disk.disk c.get.new.disk) c.args.cache.now c.get.new.cache c.get.ensures.counts c.get.ensures.asked c.get.ensures.warm c.get.ensures.same c.get.ensures.agrees c.get.ensures.others)

pub returns-in-Err-clause-spends : goal.returns-in-Err-clause-spends
returns-in-Err-clause-spends g c =
    subst (λ (rs : List RunState). Spends c.args.key.now rs (g.D.Disk.disk c.args.disk.now) (g.D.Disk.disk c.get.new.disk) c.args.cache.now c.get.new.cache) (sym (held_one c.args.direction c.args.key.now c.args.run.now c.can_hold.result c.can_hold.ensures c.if-not-can_hold.false))
    (one_spends c.args.key.now c.args.run.now (g.D.Disk.disk c.args.disk.now) (g.D.Disk.disk c.get.new.disk) c.args.cache.now c.get.new.cache c.get.ensures.counts c.get.ensures.asked c.get.ensures.warm c.get.ensures.same c.get.ensures.agrees c.get.ensures.others)

pub returns-in-Err-clause-stops : goal.returns-in-Err-clause-stops
returns-in-Err-clause-stops g c =
    subst (λ (rs : List RunState). MayStop (HasKeyOffence c.args.key.now rs) (g.D.Disk.disk c.args.disk.now) (g.D.Disk.disk c.get.new.disk) c.in-Err.stop) (sym (held_one c.args.direction c.args.key.now c.args.run.now c.can_hold.result c.can_hold.ensures c.if-not-can_hold.false))
    (one_stops c.args.key.now c.args.run.now (g.D.Disk.disk c.args.disk.now) (g.D.Disk.disk c.get.new.disk) c.in-Err.stop c.in-Err.ensures.stops c.in-Err.ensures.damage)
