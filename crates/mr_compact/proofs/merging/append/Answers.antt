use Rattle.std.proofs.Common.{◌+◌, length, Option, List, ℕ, sym, subst, refl, Bor}
use Rattle.std.specs.Option.{option_map}
use Rattle.mr_iter.specs.Versions.{as_version}
use Rattle.mr_iter.specs.RunOuts.{KeepsOthers}
use Rattle.mr_compact.specs.Writing.{Holds, runs_behind}
use Rattle.mr_compact.proofs.Outside.{on_ok, at_file}
use Rattle.mr_compact.proofs.Joining.{holds_added}
use Rattle.mr_compact.proofs.merging.append.Goals as goal

pub returns-clause-holds : goal.returns-clause-holds
returns-clause-holds g c = λ vs all told held.
    on_ok c.set.result (λ e. subst (λ (k : Option (List ℕ)). Holds (g.W.RunOut.run (g.W.RunOut.out c.args.out.now).direction) c.set.new.self.is (g.D.Disk.disk c.add.new.disk) (g.W.RunOut.out c.add.new.self) c.args.written.now.runs k (runs_behind vs) vs all) (sym e)
    (holds_added (g.W.RunOut.run (g.W.RunOut.out c.args.out.now).direction) c.args.written.now.first_file c.set.new.self.is (g.D.Disk.disk c.args.disk.now) (g.D.Disk.disk c.add.new.disk) (g.W.RunOut.out c.args.out.now) (g.W.RunOut.out c.add.new.self) c.args.written.now.runs _ (as_version c.args.key.now c.args.sequence (option_map (λ (b : Bor (List ℕ)). b.now) c.args.put)) vs all
    c.requires.begun.numbered c.add.ensures.direction (at_file (λ f. KeepsOthers f (g.D.Disk.disk c.args.disk.now) (g.D.Disk.disk c.add.new.disk)) (g.W.RunOut.out c.args.out.now).file (c.args.written.now.first_file + length c.args.written.now.runs) (c.requires.begun.file refl) (c.add.ensures.others told))
    (c.in_ok-add.ensures.added told) c.in_ok-add.ensures.bytes held)) c.set.ensures.is
