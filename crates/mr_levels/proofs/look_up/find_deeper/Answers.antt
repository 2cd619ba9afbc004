use Rattle.std.proofs.Common.{◌+◌, take, drop, map, subst, sym}
use Rattle.std.specs.Option.{option_map}
use Rattle.mr_iter.specs.Versions.{IsInOrder}
use Rattle.mr_block.specs.Held.{version_held}
use Rattle.mr_levels.specs.Levels.{by_last_key}
use Rattle.mr_levels.specs.Looks.{with_key, parts_of}
use Rattle.mr_levels.proofs.Looking.{looked_spends, looked_then, looked_stops, spends_less, stops_less, items_of, each_level, next_level, level_parts}
use Rattle.mr_levels.proofs.look_up.find_deeper.Goals as goal

pub part_of-part-requires : goal.part_of-part-requires
part_of-part-requires g c = subst (IsInOrder (by_last_key c.args.direction)) (sym c.deref.ensures.value) (each_level c.args.levels.now c.looking.i c.index-levels-i.result c.looking-test.true c.index-levels-i.is (IsInOrder (by_last_key c.args.direction)) c.requires)

pub returns-in-Err-clause-spends : goal.returns-in-Err-clause-spends
returns-in-Err-clause-spends g c =
    let d = c.args.direction in
    let key = c.args.key.now in
    let vs = c.args.levels.now in
    let n = c.looking.i + 1 in
    let q = c.part_of-part.result.now in
    spends_less key (with_key d key (parts_of d key (map items_of (take n vs)))) (with_key d key (parts_of d key (map items_of (drop n vs)))) (with_key d key (parts_of d key (map items_of vs))) (level_parts d key vs n)
    (g.D.Disk.disk c.args.disk.now) (g.D.Disk.disk c.find_in.new.disk) c.args.cache.now c.find_in.new.cache
    (looked_spends c.args.number key (with_key d key (parts_of d key (map items_of (take c.looking.i vs)))) (with_key d key q) (with_key d key (parts_of d key (map items_of (take n vs))))
    (next_level vs c.looking.i c.index-levels-i.result c.looking-test.true c.index-levels-i.is d key q c.deref.result.now c.part_of-part.ensures c.deref.ensures.value)
    (g.D.Disk.disk c.args.disk.now) (g.D.Disk.disk c.looking.disk) (g.D.Disk.disk c.find_in.new.disk) c.args.cache.now c.looking.cache c.find_in.new.cache (option_map version_held c.args.best) (option_map version_held c.looking.latest) c.looking.invariant c.in-Err.ensures.spends)

pub returns-in-Err-clause-stops : goal.returns-in-Err-clause-stops
returns-in-Err-clause-stops g c =
    let d = c.args.direction in
    let key = c.args.key.now in
    let vs = c.args.levels.now in
    let n = c.looking.i + 1 in
    let q = c.part_of-part.result.now in
    stops_less key (with_key d key (parts_of d key (map items_of (take n vs)))) (with_key d key (parts_of d key (map items_of (drop n vs)))) (with_key d key (parts_of d key (map items_of vs))) (level_parts d key vs n)
    (g.D.Disk.disk c.args.disk.now) (g.D.Disk.disk c.find_in.new.disk) c.args.cache.now c.find_in.new.cache c.in-Err.stop
    (looked_stops c.args.number key (with_key d key (parts_of d key (map items_of (take c.looking.i vs)))) (with_key d key q) (with_key d key (parts_of d key (map items_of (take n vs))))
    (next_level vs c.looking.i c.index-levels-i.result c.looking-test.true c.index-levels-i.is d key q c.deref.result.now c.part_of-part.ensures c.deref.ensures.value)
    (g.D.Disk.disk c.args.disk.now) (g.D.Disk.disk c.looking.disk) (g.D.Disk.disk c.find_in.new.disk) c.args.cache.now c.looking.cache c.find_in.new.cache (option_map version_held c.args.best) (option_map version_held c.looking.latest) c.looking.invariant c.in-Err.ensures.spends c.in-Err.stop c.in-Err.ensures.stops)

pub looking-preserved : goal.looking-preserved
looking-preserved g c =
    let d = c.args.direction in
    let key = c.args.key.now in
    let vs = c.args.levels.now in
    let n = c.looking.i + 1 in
    let q = c.part_of-part.result.now in
    looked_then c.args.number key (with_key d key (parts_of d key (map items_of (take c.looking.i vs)))) (with_key d key q) (with_key d key (parts_of d key (map items_of (take n vs))))
    (next_level vs c.looking.i c.index-levels-i.result c.looking-test.true c.index-levels-i.is d key q c.deref.result.now c.part_of-part.ensures c.deref.ensures.value)
    (g.D.Disk.disk c.args.disk.now) (g.D.Disk.disk c.looking.disk) (g.D.Disk.disk c.find_in.new.disk) c.args.cache.now c.looking.cache c.find_in.new.cache (option_map version_held c.args.best) (option_map version_held c.looking.latest) c.looking.invariant c.in-Ok.ensures.spends (option_map version_held c.in-Ok.found) c.in-Ok.ensures.finds
