use Rattle.std.proofs.Common.{◌∙◌}
use Rattle.mr_base.specs.Disk.{seen}
use Rattle.mr_iter.specs.Cursors.{MayStop}
use Rattle.mr_levels.specs.Levels.{HasOffence}
use Rattle.mr_store_names.proofs.Naming.{named_ok}
use Rattle.mr_store_names.proofs.Fronts.{err_map, stop_of_less}
use Rattle.mr_store_names.proofs.reading.read_names.Goals as goal

pub returns-clause-named : goal.returns-clause-named
returns-clause-named g c = λ tells whole forward.
    let image = seen (g.D.Disk.disk c.args.disk.now) in
    named_ok c.read_from_front.result (λ names. names.items) c.view_has_newest.ensures c.args.system.now image _ c.in_ok-cursor.ensures.view
    (c.read_from_front.ensures.told tells (c.in_ok-cursor.ensures.whole image whole) (c.in_ok-cursor.ensures.view.direction_is ∙ forward))

pub returns-clause-stops : goal.returns-clause-stops
returns-clause-stops g c =
    let s = g.D.Disk.disk c.args.disk.now in
    let u = g.D.Disk.disk c.read_from_front.new.disk in
    err_map c.read_from_front.result _ (MayStop (HasOffence c.args.system.now.levels) s u) (stop_of_less (HasOffence c.args.system.now.levels) _ c.in_ok-cursor.ensures.offends s u) c.read_from_front.ensures.stops
