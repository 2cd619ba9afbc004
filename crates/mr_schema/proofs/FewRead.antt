-- A definition that was read has at most 255 columns.
use Rattle.std.proofs.Common.{◌≡◌, ◌≤◌, ℕ, zero, suc, Bool, true, false, nat_lt, List, [], ◌∷◌, ◌++◌, length, if◌then◌else◌, Result, Ok, Err, IfOk, refl, sym, subst, arith}
use Rattle.mr_types.specs.declared.definition.ColumnDef.{ColumnDef}
use Rattle.mr_types.specs.declared.definition.TableDef.{TableDef}
use Rattle.mr_types.specs.declared.row.Commit.{Commit}
use Rattle.mr_types.specs.Refusals.{◌>>=◌}
use Rattle.mr_fields.specs.Fields.{Read, byte_in, name_in, listed_in}
use Rattle.mr_schema.specs.DefinitionForm.{counted_in, primary_in, key_in, comment_in, column_in, behind_columns, definition_in}
use Rattle.mr_schema.specs.Few.{FewInBody, FewColumns}
use Rattle.mr_spec.proofs.Results.{bound, after}

-- as many as the count says
listed_count : {X : Type 0} (read : List ℕ → Read X) (n : ℕ) (bytes : List ℕ) → IfOk (listed_in read n bytes) (λ r. length r.0 ≡ n)
listed_count read zero bytes = refl
listed_count read (suc n) bytes = bound (λ r. length r.0 ≡ suc n) (read bytes) _ (λ one.
    after (λ r. length r.0 ≡ n) (λ r. length r.0 ≡ suc n) (listed_in read n one.1) _ (listed_count read n one.1) (λ more e. omega arith))

below : (c : Bool) (b : ℕ) (bytes : List ℕ) → c ≡ nat_lt b 256 → IfOk {T = ℕ × List ℕ} (if c then Ok (b, bytes) else Err (length (b ∷ bytes))) (λ r. r.0 ≤ 255)
below true b bytes e = let s = sym e in grind arith
below false b bytes e = tt

byte_few : (bytes : List ℕ) → IfOk (byte_in 256 bytes) (λ r. r.0 ≤ 255)
byte_few [] = tt
byte_few (b ∷ bytes) = below (nat_lt b 256) b bytes refl

at_most : {X : Type 0} (m : Read (List X)) (n : ℕ) → n ≤ 255 → IfOk m (λ r. length r.0 ≡ n) → IfOk m (λ r. length r.0 ≤ 255)
at_most (Ok r) n l e = omega arith
at_most (Err left) n l e = tt

counted_few : {X : Type 0} (read : List ℕ → Read X) (bytes : List ℕ) → IfOk (counted_in read bytes) (λ (r : List X × List ℕ). length r.0 ≤ 255)
counted_few read bytes = after (λ (c : ℕ × List ℕ). c.0 ≤ 255) _ (byte_in 256 bytes) _ (byte_few bytes) (λ c l. at_most (listed_in read c.0 c.1) c.0 l (listed_count read c.0 c.1))

abbrev Few : TableDef × List ℕ → Type 0
Few r = length r.0.columns ≤ 255

behind_few : (name : List ℕ) (columns : List ColumnDef) (bytes : List ℕ) → length columns ≤ 255 → IfOk (behind_columns name columns bytes) Few
behind_few name columns bytes l =
    bound Few (primary_in (length columns) bytes) _ (λ primary.
    bound Few (counted_in (key_in (length columns)) primary.1) _ (λ secondary.
    bound Few (comment_in columns secondary.1) _ (λ comment. l)))

pub definition_few : (bytes : List ℕ) → IfOk (definition_in bytes) (λ r. length r.0.columns ≤ 255)
definition_few bytes = bound Few (name_in bytes) _ (λ name.
    after (λ r. length r.0 ≤ 255) Few (counted_in column_in name.1) _ (counted_few column_in name.1) (λ columns l. behind_few name.0 columns.0 columns.1 l))

pub read_few : (bytes rest : List ℕ) (def : TableDef) → definition_in bytes ≡ Ok (def, rest) → length def.columns ≤ 255
read_few bytes rest def e = subst (λ r. IfOk r Few) e (definition_few bytes)

pub few_and_one : (commits : List Commit) (c : Commit) → FewColumns commits → FewInBody c.body → FewColumns (commits ++ c ∷ [])
few_and_one [] c h g = (g, tt)
few_and_one (d ∷ ds) c h g = (h.0, few_and_one ds c h.1 g)
