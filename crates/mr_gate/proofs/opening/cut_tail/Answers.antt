use Rattle.std.proofs.Common.{◌≤◌, length}
use Rattle.mr_base.specs.Disk.{cut_begun, file_of}
use Rattle.mr_base.proofs.Counting.{still_tells}
use Rattle.mr_base.proofs.Moments.{begins, then_changes, then_settles}
use Rattle.mr_gate.proofs.Begun.{short_cut}
use Rattle.mr_gate.proofs.Repair.{cut_nothing}
use Rattle.mr_gate.proofs.opening.cut_tail.Goals as goal

pub returns-clause-any_moment : goal.returns-clause-any_moment
returns-clause-any_moment g c tells =
    let disk = g.D.Disk.disk in
    let file = c.args.file in
    let old = file_of (disk c.args.disk.now) file in
    let to : c.args.to ≤ length old.bytes = c.requires tells in
    let here = begins file (disk c.args.disk.now) _ (λ f left rest. cut_nothing c.args.to old.bytes f to (rest f left)) in
    let cut = then_changes file _ _ (disk c.cut.new.self) _ here (cut_begun c.args.to) (c.cut.ensures.changes tells)
    (λ f left rest. short_cut old rest (g.met.D.Disk.read_may_be_left c.args.disk.now file tells) c.args.to to f left) in
    then_settles file _ _ (disk c.sync.new.self) _ cut (c.sync.ensures.settles (still_tells _ _ _ _ _ c.cut.ensures.counts tells))

pub returns-in_err-cut-clause-any_moment : goal.returns-in_err-cut-clause-any_moment
returns-in_err-cut-clause-any_moment g c tells =
    let disk = g.D.Disk.disk in
    let file = c.args.file in
    let old = file_of (disk c.args.disk.now) file in
    let to : c.args.to ≤ length old.bytes = c.requires tells in
    let here = begins file (disk c.args.disk.now) _ (λ f left rest. cut_nothing c.args.to old.bytes f to (rest f left)) in
    then_changes file _ _ (disk c.cut.new.self) _ here (cut_begun c.args.to) (c.cut.ensures.changes tells)
    (λ f left rest. short_cut old rest (g.met.D.Disk.read_may_be_left c.args.disk.now file tells) c.args.to to f left)
