-- Lawful commits make no table of many columns.
use Rattle.std.proofs.Common.{◌≤◌, ℕ, List, [], ◌∷◌, length, IfOk, subst}
use Rattle.mr_spec.specs.declared.world.Table.{Table}
use Rattle.mr_types.specs.declared.definition.TableDef.{TableDef}
use Rattle.mr_types.specs.declared.row.Commit.{Commit}
use Rattle.mr_types.specs.declared.row.CommitBody.{CommitBody}
use Rattle.mr_types.specs.declared.row.CommitBody.TheVariants as body
use Rattle.mr_types.specs.declared.row.Schema.{Schema}
use Rattle.mr_types.specs.declared.row.Schema.TheVariants.{CreateTable, DropTable, CreateIndex, DropIndex}
use Rattle.mr_spec.specs.Database.{with_body}
use Rattle.mr_spec.specs.Lawful.{IsChecked, LawfulSchema, LawfulBody, LawfulFrom}
use Rattle.mr_schema.specs.Few.{FewInSchema, FewInBody, FewColumns}
use Rattle.mr_model_engine.proofs.FewChecked.{few_check}

few_checked : (def : TableDef) → IsChecked def → length def.columns ≤ 255
few_checked def (text, h, e) = subst (λ r. IfOk r (λ (d : TableDef). length d.columns ≤ 255)) e (few_check text)

few_schema : (moment : ℕ) (tables : List Table) (s : Schema) → LawfulSchema moment tables s → FewInSchema s
few_schema moment tables (CreateTable def) h = few_checked def h.1
few_schema moment tables (DropTable name) h = tt
few_schema moment tables (CreateIndex name key) h = tt
few_schema moment tables (DropIndex name key) h = tt

few_body : (moment : ℕ) (tables : List Table) (b : CommitBody) → LawfulBody moment tables b → FewInBody b
few_body moment tables (body.Rows changes) h = tt
few_body moment tables (body.Schema s) h = few_schema moment tables s h

pub few_lawful : (moment : ℕ) (tables : List Table) (commits : List Commit) → LawfulFrom moment tables commits → FewColumns commits
few_lawful moment tables [] h = tt
few_lawful moment tables (c ∷ cs) h = (few_body c.moment tables c.body h.1, few_lawful c.moment (with_body tables c.body) cs h.2)
