use Rattle.std.proofs.Common.{◌≡◌, map, take}
use Rattle.mr_types.specs.declared.row.Change.TheVariants.{Delete}
use Rattle.mr_model_changes.proofs.inserting.deletes_of.Given as goal

abbrev pub invariant-loop-row : goal.invariant-loop-row
invariant-loop-row l = l.changes ≡ map (Delete l.def.name) (take l.row-index l.gone)
