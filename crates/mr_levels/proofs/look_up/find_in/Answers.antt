use Rattle.std.proofs.Common.{◌∷◌, [], ◌+◌, List, take, drop, subst}
use Rattle.std.specs.Option.{option_map}
use Rattle.mr_block.specs.Held.{version_held}
use Rattle.mr_run_open.specs.Runs.{RunState}
use Rattle.mr_levels.specs.Looks.{with_key, Spends, Finds}
use Rattle.mr_levels.proofs.Joins.{take_whole}
use Rattle.mr_levels.proofs.Looking.{looked_start, looked_spends, looked_then, looked_stops, next_key, spends_less, stops_less, key_parts}
use Rattle.mr_levels.proofs.look_up.find_in.Goals as goal

pub looking-init : goal.looking-init
looking-init g c = looked_start c.args.number c.args.key.now (g.D.Disk.disk c.args.disk.now) c.args.cache.now (option_map version_held c.args.best)

pub returns-in-Err-clause-spends : goal.returns-in-Err-clause-spends
returns-in-Err-clause-spends g c =
    let d = c.args.direction in
    let key = c.args.key.now in
    let rs = c.args.runs.now in
    spends_less key (with_key d key (take (c.looking.i + 1) rs)) (with_key d key (drop (c.looking.i + 1) rs)) (with_key d key rs) (key_parts d key rs (c.looking.i + 1)) (g.D.Disk.disk c.args.disk.now) (g.D.Disk.disk c.find_one.new.disk) c.args.cache.now c.find_one.new.cache
    (looked_spends c.args.number key (with_key d key (take c.looking.i rs)) (with_key d key (c.index-runs-i.result ∷ [])) (with_key d key (take (c.looking.i + 1) rs)) (next_key d key rs c.looking.i c.index-runs-i.result c.looking-test.true c.index-runs-i.is)
    (g.D.Disk.disk c.args.disk.now) (g.D.Disk.disk c.looking.disk) (g.D.Disk.disk c.find_one.new.disk) c.args.cache.now c.looking.cache c.find_one.new.cache (option_map version_held c.args.best) (option_map version_held c.looking.latest) c.looking.invariant c.in-Err.ensures.spends)

pub returns-in-Err-clause-stops : goal.returns-in-Err-clause-stops
returns-in-Err-clause-stops g c =
    let d = c.args.direction in
    let key = c.args.key.now in
    let rs = c.args.runs.now in
    stops_less key (with_key d key (take (c.looking.i + 1) rs)) (with_key d key (drop (c.looking.i + 1) rs)) (with_key d key rs) (key_parts d key rs (c.looking.i + 1)) (g.D.Disk.disk c.args.disk.now) (g.D.Disk.disk c.find_one.new.disk) c.args.cache.now c.find_one.new.cache c.in-Err.stop
    (looked_stops c.args.number key (with_key d key (take c.looking.i rs)) (with_key d key (c.index-runs-i.result ∷ [])) (with_key d key (take (c.looking.i + 1) rs)) (next_key d key rs c.looking.i c.index-runs-i.result c.looking-test.true c.index-runs-i.is)
    (g.D.Disk.disk c.args.disk.now) (g.D.Disk.disk c.looking.disk) (g.D.Disk.disk c.find_one.new.disk) c.args.cache.now c.looking.cache c.find_one.new.cache (option_map version_held c.args.best) (option_map version_held c.looking.latest) c.looking.invariant c.in-Err.ensures.spends c.in-Err.stop c.in-Err.ensures.stops)

pub looking-preserved : goal.looking-preserved
looking-preserved g c =
    let d = c.args.direction in
    let key = c.args.key.now in
    let rs = c.args.runs.now in
    looked_then c.args.number key (with_key d key (take c.looking.i rs)) (with_key d key (c.index-runs-i.result ∷ [])) (with_key d key (take (c.looking.i + 1) rs)) (next_key d key rs c.looking.i c.index-runs-i.result c.looking-test.true c.index-runs-i.is)
    (g.D.Disk.disk c.args.disk.now) (g.D.Disk.disk c.looking.disk) (g.D.Disk.disk c.find_one.new.disk) c.args.cache.now c.looking.cache c.find_one.new.cache (option_map version_held c.args.best) (option_map version_held c.looking.latest) c.looking.invariant c.in-Ok.ensures.spends (option_map version_held c.in-Ok.found) c.in-Ok.ensures.finds

pub returns-clause-spends : goal.returns-clause-spends
returns-clause-spends g c = subst (λ (rs : List RunState). Spends c.args.key.now (with_key c.args.direction c.args.key.now rs) (g.D.Disk.disk c.args.disk.now) (g.D.Disk.disk c.looking.disk) c.args.cache.now c.looking.cache)
    (take_whole c.looking.i c.args.runs.now c.looking-test.false) c.looking.invariant.spent

pub returns-clause-finds : goal.returns-clause-finds
returns-clause-finds g c = subst (λ (rs : List RunState). Finds c.args.number c.args.key.now (with_key c.args.direction c.args.key.now rs) (g.D.Disk.disk c.args.disk.now) c.args.cache.now c.looking.cache (option_map version_held c.args.best) (option_map version_held c.looking.latest))
    (take_whole c.looking.i c.args.runs.now c.looking-test.false) c.looking.invariant.finds
