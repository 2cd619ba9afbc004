use Rattle.std.proofs.Common.{◌==◌, ◌∙◌, not, length, sym, ap}
use Rattle.mr_memtable.specs.Tables.{MemState}
use Rattle.mr_families.proofs.Telling.{not_empty_opened, four_opened}
use Rattle.mr_families.proofs.numbered.Numbered.open_run.Goals as goal

pub returns-in-Ok-clause-told : goal.returns-in-Ok-clause-told
returns-in-Ok-clause-told g c = record {
  in_memory = c.requires.told.in_memory ∙ ap (λ (m : MemState). not (length m.versions == 0)) (sym c.open_run.ensures.memtable);
  is_fresh = not_empty_opened c.args.level c.args.info.now (g.D.Disk.disk c.args.disk.now) c.args.self.now.family c.open_run.new.self c.requires.level c.requires.told.four c.in-Ok.ensures.opened;
  four = four_opened c.args.level c.args.info.now (g.D.Disk.disk c.args.disk.now) c.args.self.now.family c.open_run.new.self c.requires.told.four c.in-Ok.ensures.opened;
}
