use Rattle.std.proofs.Common.{map, subst, ap, refl, None}
use Rattle.std.specs.Option.{option_map}
use Rattle.mr_block.specs.Held.{version_held}
use Rattle.mr_levels.specs.Levels.{LevelsState, AreKept}
use Rattle.mr_levels.specs.Looks.{with_key, parts_of, looked}
use Rattle.mr_levels.proofs.Looking.{items_of, spends_less, stops_less, looked_spends, looked_then, looked_stops}
use Rattle.mr_levels.proofs.Finding.{looked_split, whole_finds, each_ok, some_ok, each_err}
use Rattle.mr_levels.proofs.levels.Levels.find.Goals as goal

pub returns-in-Err-clause-spends : goal.returns-in-Err-clause-spends
returns-in-Err-clause-spends g c =
    let d = c.self.inside.direction in
    let key = c.args.key.now in
    let deeper = map items_of c.self.inside.deeper.items in
    spends_less key (with_key d key c.deref.result.now) (with_key d key (parts_of d key deeper)) (looked key c.args.self.now) (looked_split key d c.self.inside.newest.items deeper c.args.self.now c.deref.result.now deeper c.self.view_is c.deref.ensures.value refl)
    (g.D.Disk.disk c.args.disk.now) (g.D.Disk.disk c.find_in.new.disk) c.args.cache.now c.find_in.new.cache c.in-Err.ensures.spends

pub returns-in-Err-clause-stops : goal.returns-in-Err-clause-stops
returns-in-Err-clause-stops g c =
    let d = c.self.inside.direction in
    let key = c.args.key.now in
    let deeper = map items_of c.self.inside.deeper.items in
    stops_less key (with_key d key c.deref.result.now) (with_key d key (parts_of d key deeper)) (looked key c.args.self.now) (looked_split key d c.self.inside.newest.items deeper c.args.self.now c.deref.result.now deeper c.self.view_is c.deref.ensures.value refl)
    (g.D.Disk.disk c.args.disk.now) (g.D.Disk.disk c.find_in.new.disk) c.args.cache.now c.find_in.new.cache c.in-Err.stop c.in-Err.ensures.stops

pub returns-clause-spends : goal.returns-clause-spends
returns-clause-spends g c =
    let d = c.self.inside.direction in
    let key = c.args.key.now in
    let qss = map items_of c.deref-2.result.now in
    looked_spends c.args.number key (with_key d key c.deref.result.now) (with_key d key (parts_of d key qss)) (looked key c.args.self.now) (looked_split key d c.self.inside.newest.items (map items_of c.self.inside.deeper.items) c.args.self.now c.deref.result.now qss c.self.view_is c.deref.ensures.value (ap (map items_of) c.deref-2.ensures.value))
    (g.D.Disk.disk c.args.disk.now) (g.D.Disk.disk c.find_in.new.disk) (g.D.Disk.disk c.find_deeper.new.disk) c.args.cache.now c.find_in.new.cache c.find_deeper.new.cache None (option_map version_held c.in-Ok.found)
    (record { spent = c.in-Ok.ensures.spends; finds = c.in-Ok.ensures.finds }) c.find_deeper.ensures.spends

pub returns-clause-stops : goal.returns-clause-stops
returns-clause-stops g c =
    let d = c.self.inside.direction in
    let key = c.args.key.now in
    let qss = map items_of c.deref-2.result.now in
    each_err c.find_deeper.result (λ e may. looked_stops c.args.number key (with_key d key c.deref.result.now) (with_key d key (parts_of d key qss)) (looked key c.args.self.now) (looked_split key d c.self.inside.newest.items (map items_of c.self.inside.deeper.items) c.args.self.now c.deref.result.now qss c.self.view_is c.deref.ensures.value (ap (map items_of) c.deref-2.ensures.value))
    (g.D.Disk.disk c.args.disk.now) (g.D.Disk.disk c.find_in.new.disk) (g.D.Disk.disk c.find_deeper.new.disk) c.args.cache.now c.find_in.new.cache c.find_deeper.new.cache None (option_map version_held c.in-Ok.found)
    (record { spent = c.in-Ok.ensures.spends; finds = c.in-Ok.ensures.finds }) c.find_deeper.ensures.spends e may) c.find_deeper.ensures.stops

pub returns-clause-brings : goal.returns-clause-brings
returns-clause-brings g c =
    let d = c.self.inside.direction in
    let key = c.args.key.now in
    let qss = map items_of c.deref-2.result.now in
    some_ok c.find_deeper.result (λ o finds. (looked_then c.args.number key (with_key d key c.deref.result.now) (with_key d key (parts_of d key qss)) (looked key c.args.self.now) (looked_split key d c.self.inside.newest.items (map items_of c.self.inside.deeper.items) c.args.self.now c.deref.result.now qss c.self.view_is c.deref.ensures.value (ap (map items_of) c.deref-2.ensures.value))
    (g.D.Disk.disk c.args.disk.now) (g.D.Disk.disk c.find_in.new.disk) (g.D.Disk.disk c.find_deeper.new.disk) c.args.cache.now c.find_in.new.cache c.find_deeper.new.cache None (option_map version_held c.in-Ok.found)
    (record { spent = c.in-Ok.ensures.spends; finds = c.in-Ok.ensures.finds }) c.find_deeper.ensures.spends (option_map version_held o) finds).finds.brings) c.find_deeper.ensures.finds

pub returns-clause-found : goal.returns-clause-found
returns-clause-found g c = λ tells whole agree.
    let d = c.self.inside.direction in
    let key = c.args.key.now in
    let qss = map items_of c.deref-2.result.now in
    each_ok c.find_deeper.result (λ o finds. whole_finds c.args.number key c.args.self.now (g.D.Disk.disk c.args.disk.now) (g.D.Disk.disk c.find_deeper.new.disk) c.args.cache.now c.find_deeper.new.cache (option_map version_held o)
    (subst (λ (s : LevelsState). AreKept s.direction s.newest s.deeper) c.self.view_is c.self.invariant)
    (looked_then c.args.number key (with_key d key c.deref.result.now) (with_key d key (parts_of d key qss)) (looked key c.args.self.now) (looked_split key d c.self.inside.newest.items (map items_of c.self.inside.deeper.items) c.args.self.now c.deref.result.now qss c.self.view_is c.deref.ensures.value (ap (map items_of) c.deref-2.ensures.value))
    (g.D.Disk.disk c.args.disk.now) (g.D.Disk.disk c.find_in.new.disk) (g.D.Disk.disk c.find_deeper.new.disk) c.args.cache.now c.find_in.new.cache c.find_deeper.new.cache None (option_map version_held c.in-Ok.found)
    (record { spent = c.in-Ok.ensures.spends; finds = c.in-Ok.ensures.finds }) c.find_deeper.ensures.spends (option_map version_held o) finds)
    tells whole agree) c.find_deeper.ensures.finds
