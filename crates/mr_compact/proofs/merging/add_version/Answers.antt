use Rattle.std.proofs.Common.{◌∷◌, List, ℕ, refl, sym, ◌∙◌, subst, Bor}
use Rattle.std.specs.Option.{option_map}
use Rattle.mr_base.specs.declared.stop.Direction.{Direction}
use Rattle.mr_iter.specs.Versions.{Version, as_version}
use Rattle.mr_iter.specs.RunOuts.{with_version}
use Rattle.mr_compact.specs.Kept.{runs_from}
use Rattle.mr_compact.specs.Writing.{Stands, Begins, runs_behind}
use Rattle.mr_compact.proofs.Outside.{on_ok, tells_on}
use Rattle.mr_compact.proofs.merging.add_version.Goals as goal

pub returns-clause-holds : goal.returns-clause-holds
returns-clause-holds g c = λ vs all told held.
    let v : Version = as_version c.args.key.now c.args.sequence (option_map (λ (b : Bor (List ℕ)). b.now) c.args.put) in
    let more : List Version → List (List Version) = λ run. runs_from (with_version run v) vs in
    let opened = c.in_ok-close_full.ensures.holds v vs all refl told held in
    let begun = c.begin_run.ensures.holds (g.D.Disk.disk c.close_full.new.disk) more (v ∷ vs) all
    (subst (λ (d : Direction). Stands (g.W.RunOut.run d) (g.D.Disk.disk c.close_full.new.disk) (g.W.RunOut.out c.close_full.new.out) c.close_full.new.written more (v ∷ vs) all) (sym c.close_full.ensures.direction) opened) in
    let added = c.append.ensures.holds vs all (tells_on (g.D.Disk.disk c.args.disk.now) (g.D.Disk.disk c.close_full.new.disk) c.close_full.ensures.writes.counts.tells told)
    (subst (λ (d : Direction). Begins (g.W.RunOut.run d) (g.D.Disk.disk c.close_full.new.disk) (g.W.RunOut.out c.begin_run.new.out) c.close_full.new.written more (v ∷ vs) all) (sym c.begin_run.ensures.direction) begun) in
    on_ok c.append.result (subst (λ (d : Direction). Stands (g.W.RunOut.run d) (g.D.Disk.disk c.append.new.disk) (g.W.RunOut.out c.append.new.out) c.append.new.written (runs_behind vs) vs all) (c.begin_run.ensures.direction ∙ c.close_full.ensures.direction)) added
