use Rattle.std.proofs.Common.{◌≤◌, length}
use Rattle.mr_base.specs.Disk.{write_begun, file_of}
use Rattle.mr_base.proofs.Counting.{still_tells}
use Rattle.mr_base.proofs.Moments.{begins, then_changes, then_settles}
use Rattle.mr_gate.proofs.Begun.{torn_write}
use Rattle.mr_gate.proofs.Crash.{torn_nothing}
use Rattle.mr_gate.proofs.frame.set_gate.Goals as goal

pub returns-clause-any_moment : goal.returns-clause-any_moment
returns-clause-any_moment g c tells =
    let disk = g.D.Disk.disk in
    let file = c.args.file in
    let old = file_of (disk c.args.disk.now) file in
    let here = begins file (disk c.args.disk.now) _ (λ f left rest. torn_nothing c.args.place 1 old.bytes f (rest f left)) in
    let place : c.args.place ≤ length old.bytes = c.requires tells in
    let written = then_changes file _ _ (disk c.write_at.new.self) _ here (write_begun c.args.place 1) (c.write_at.ensures.changes tells)
    (λ f left rest. torn_write old rest (g.met.D.Disk.read_may_be_left c.args.disk.now file tells) c.args.place 1 place f left) in
    then_settles file _ _ (disk c.sync.new.self) _ written (c.sync.ensures.settles (still_tells _ _ _ _ _ c.write_at.ensures.counts tells))

pub returns-in_err-write_at-clause-any_moment : goal.returns-in_err-write_at-clause-any_moment
returns-in_err-write_at-clause-any_moment g c tells =
    let disk = g.D.Disk.disk in
    let file = c.args.file in
    let old = file_of (disk c.args.disk.now) file in
    let here = begins file (disk c.args.disk.now) _ (λ f left rest. torn_nothing c.args.place 1 old.bytes f (rest f left)) in
    let place : c.args.place ≤ length old.bytes = c.requires tells in
    then_changes file _ _ (disk c.write_at.new.self) _ here (write_begun c.args.place 1) (c.write_at.ensures.changes tells)
    (λ f left rest. torn_write old rest (g.met.D.Disk.read_may_be_left c.args.disk.now file tells) c.args.place 1 place f left)
