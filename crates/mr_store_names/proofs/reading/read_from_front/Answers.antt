use Rattle.std.proofs.Common.{◌≡◌, ◌∙◌, [], List, IfOk, sym, ap, subst}
use Rattle.mr_base.specs.Disk.{Image, seen}
use Rattle.mr_base.specs.declared.stop.Direction.{Direction}
use Rattle.mr_base.proofs.Counting.{rises_of, rises_then, rises_tells}
use Rattle.mr_base.proofs.Moments.{same_then}
use Rattle.mr_iter.specs.Versions.{Version, from_key}
use Rattle.mr_iter.specs.Cursors.{MayStop, left}
use Rattle.mr_iter.specs.Walks.{image_same}
use Rattle.mr_store_names.specs.Named.{Told}
use Rattle.mr_store_names.proofs.Fronts.{from_front, err_map, stop_behind}
use Rattle.mr_store_names.proofs.reading.read_from_front.Goals as goal

pub returns-clause-told : goal.returns-clause-told
returns-clause-told g c = λ tells whole forward.
    let s = g.D.Disk.disk c.args.disk.now in
    let t = g.D.Disk.disk c.seek.new.disk in
    let e : seen t ≡ seen s = image_same s t (c.seek.ensures.same tells) in
    let x = c.args.cursor.now in
    let y = c.seek.new.self in
    let list : left (g.C.Listed.cursor y) (seen t) ≡ (g.C.Listed.cursor x).versions (seen s) =
    ap (λ (image : Image). left (g.C.Listed.cursor y) image) e
    ∙ c.in-Ok.ensures.found tells whole
    ∙ ap (λ (d : Direction). from_key d [] ((g.C.Listed.cursor x).versions (seen s))) forward
    ∙ from_front ((g.C.Listed.cursor x).versions (seen s)) in
    subst (λ (vs : List Version). IfOk c.read_all.result (λ names. Told vs names.items)) list
    (c.read_all.ensures.told (rises_tells 0 s t (rises_of _ _ 0 s t c.seek.ensures.counts) tells) (subst (g.C.Listed.whole y) (sym e) (c.seek.ensures.whole tells whole)))

pub returns-clause-stops : goal.returns-clause-stops
returns-clause-stops g c =
    let s = g.D.Disk.disk c.args.disk.now in
    let t = g.D.Disk.disk c.seek.new.disk in
    let u = g.D.Disk.disk c.read_all.new.disk in
    let x = c.args.cursor.now in
    let y = c.seek.new.self in
    err_map c.read_all.result (MayStop (g.C.Listed.offends y) t u) (MayStop (g.C.Listed.offends x) s u)
    (stop_behind (g.C.Listed.offends x) (g.C.Listed.offends y) c.seek.ensures.offends s t u (rises_of _ _ 0 s t c.seek.ensures.counts) c.seek.ensures.same) c.read_all.ensures.stops

pub returns-clause-rises : goal.returns-clause-rises
returns-clause-rises g c =
    let s = g.D.Disk.disk c.args.disk.now in
    let t = g.D.Disk.disk c.seek.new.disk in
    let u = g.D.Disk.disk c.read_all.new.disk in
    rises_then 0 0 s t u (rises_of _ _ 0 s t c.seek.ensures.counts) (rises_of _ _ 0 t u c.read_all.ensures.walk.counts.disk)

pub returns-clause-same : goal.returns-clause-same
returns-clause-same g c = λ tells.
    let s = g.D.Disk.disk c.args.disk.now in
    let t = g.D.Disk.disk c.seek.new.disk in
    let u = g.D.Disk.disk c.read_all.new.disk in
    same_then s t u (c.seek.ensures.same tells) (c.read_all.ensures.walk.same (rises_tells 0 s t (rises_of _ _ 0 s t c.seek.ensures.counts) tells))
