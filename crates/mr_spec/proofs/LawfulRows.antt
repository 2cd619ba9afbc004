-- The commits of a worked row are lawful.
use Rattle.std.proofs.Common.{List, [], ◌∷◌, refl}
use Rattle.std.specs.Prelude.{true}
use Rattle.std.proofs.Common.{lit≤}
use Rattle.mr_types.specs.declared.row.Commit.{Commit}
use Rattle.mr_spec.specs.Replay.{reopened}
use Rattle.mr_spec.specs.ScriptRun.{world_behind}
use Rattle.mr_spec.specs.Lawful.{IsLawful}
use Rattle.mr_spec.proofs.WorkedRows.{seven, create_v}
use Rattle.mr_spec.proofs.Written.{num, insert, replace, all_ok, column, primary_key, unique_key}
use Rattle.std.proofs.Common.{codes}
use Rattle.std.specs.Prelude.{false}
use Rattle.mr_types.specs.declared.kind.KindText.TheVariants as written
use Rattle.mr_pieces.specs.declared.collation.Collation.TheVariants.{Ci}
use Rattle.mr_types.specs.declared.text.TableText.{TableText}
use Rattle.mr_types.specs.declared.value.Value.TheVariants.{Text}

abbrev made : List Commit
made = (world_behind (reopened []) (all_ok (create_v ∷ insert (codes "v") ((num 1 ∷ Text (codes "a") ∷ []) ∷ (num 2 ∷ Text (codes "b") ∷ []) ∷ []) ∷ replace (codes "v") ((num 1 ∷ Text (codes "B") ∷ []) ∷ []) ∷ [])) seven).commits

abbrev text_v : TableText
text_v = record { name = codes "v"; columns = column (codes "id") written.BigInt false ∷ column (codes "n") (written.VarChar 9 Ci) true ∷ []; keys = primary_key (codes "id" ∷ []) ∷ unique_key (codes "w") (codes "n" ∷ []) ∷ []; comment = [] }

pub made-lawful : IsLawful made
made-lawful = (lit≤ tt, (refl, (text_v, refl, refl)), (lit≤ tt, (lit≤ tt, refl, lit≤ tt), (lit≤ tt, (lit≤ tt, refl, lit≤ tt), tt)))
