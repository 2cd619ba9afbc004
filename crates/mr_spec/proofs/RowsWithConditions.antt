-- Worked rows with conditions, by computation.
use Rattle.std.proofs.Common.{◌≡◌, ℕ, false, [], ◌∷◌, ◌++◌, List, None, Some, Ok, refl, ap, codes}
use Rattle.std.specs.Fmt.{digits}
use Rattle.mr_types.specs.declared.value.Value.TheVariants.{Null, Text, Bytes}
use Rattle.mr_types.specs.declared.kind.KindText.TheVariants as written
use Rattle.mr_types.specs.declared.expr.Cmp.TheVariants.{Gt}
use Rattle.mr_types.specs.declared.expr.Expr.TheVariants as expr
use Rattle.mr_types.specs.declared.statement.Aggregate.TheVariants as aggregate
use Rattle.mr_types.specs.declared.statement.Columns.TheVariants as columns
use Rattle.mr_types.specs.declared.statement.Statement.TheVariants as statement
use Rattle.mr_types.specs.declared.statement.Select.{Select}
use Rattle.mr_types.specs.declared.statement.Statement.{Statement}
use Rattle.mr_spec.specs.Truth.{Where, where_of}
use Rattle.mr_spec.specs.Replay.{reopened}
use Rattle.mr_spec.specs.Outcome.{Outcome}
use Rattle.mr_spec.specs.RowSteps.{on_rows, select_outcome}
use Rattle.mr_spec.specs.Step.{timed}
use Rattle.mr_spec.specs.ReplyText.{text_of}
use Rattle.mr_spec.specs.ScriptRun.{trace, output_of, world_behind}
use Rattle.mr_spec.proofs.Conditions.{truth-compare, named-compare, where-compare, where-not-in, where-between-or-null}
use Rattle.mr_spec.proofs.Traces.{later, output-around}
use Rattle.mr_spec.proofs.WorkedRows.{output, seven, create_t, create_v}
use Rattle.mr_spec.proofs.Written.{num, column, primary_key, create, insert, select, select_data, select_where, select_forced, select_forced_data, equals, all_ok}

-- the folded values collide in a unique key
pub folded_texts_collide : output (
    create_v
    ∷ insert (codes "v") ((num 1 ∷ Text (codes "Ab ") ∷ []) ∷ [])
    ∷ insert (codes "v") ((num 2 ∷ Text (codes "aB") ∷ []) ∷ []) ∷ []) seven
    ≡ codes "OK 0\nOK 1\nERROR 1062\n"
unfolding digits
folded_texts_collide = refl

-- bytes sort as in a dictionary, and NUL is printed as two bytes
pub bytes_in_order : output (
    create (codes "b") (column (codes "k") (written.VarBinary 20) false ∷ []) (primary_key (codes "k" ∷ []) ∷ []) []
    ∷ insert (codes "b") ((Bytes (97 ∷ 98 ∷ 99 ∷ 100 ∷ 101 ∷ 102 ∷ 103 ∷ 104 ∷ 0 ∷ []) ∷ []) ∷ (Bytes (codes "abcdefgh") ∷ []) ∷ [])
    ∷ select (codes "k" ∷ []) (codes "b") ∷ []) seven
    ≡ codes "OK 0\nOK 2\nROWS 2\nabcdefgh\nabcdefgh\\0\n"
unfolding digits
bytes_in_order = refl

-- a text is found without regard to case, and comes back as it was written
pub texts_are_kept : output (
    create_v
    ∷ insert (codes "v") ((num 3 ∷ Text (codes "Ab ") ∷ []) ∷ [])
    ∷ select_where (codes "n" ∷ []) (codes "v") (equals (codes "n") (Text (codes "ab"))) ∷ []) seven
    ≡ codes "OK 0\nOK 1\nROWS 1\nAb \n"
unfolding digits
texts_are_kept = simp (truth-compare, named-compare) refl

-- a SELECT with this condition behind these statements
abbrev selecting : List Statement → Select → Where → Outcome
selecting before s c = on_rows s.table (select_outcome s c) (timed (world_behind (reopened []) (all_ok before) seven) 7)

-- the output of statements and of one SELECT behind them
abbrev with_last : List Statement → Select → List ℕ
with_last before s = output_of (trace (reopened []) (all_ok before ++ Ok (statement.Select s) ∷ []) seven)

-- the output is that of the SELECT with what its condition is
last-select : (before : List Statement) (s : Select) (o : Outcome) → selecting before s (where_of s.condition) ≡ o → later (all_ok before) seven 0 ≡ 7 →
    with_last before s ≡ output before seven ++ (text_of o.reply ++ [])
last-select before s o e at = output-around (reopened []) (all_ok before) [] (Ok (statement.Select s)) seven o (rw at e)

-- a forced key changes no reply
abbrev two_texts : List Statement
two_texts =
    create_v
    ∷ insert (codes "v") ((num 2 ∷ Text (codes "b") ∷ []) ∷ (num 1 ∷ Text (codes "C") ∷ []) ∷ [])
    ∷ select_forced (codes "n" ∷ []) (codes "v") (codes "w") None
    ∷ select_forced (codes "id" ∷ []) (codes "v") (codes "x") None ∷ []

abbrev above_b : Select
above_b = select_forced_data (codes "id" ∷ []) (codes "v") (codes "w") (Some (expr.Compare (codes "n") Gt (Text (codes "B"))))

pub forced_keys : with_last two_texts above_b ≡ codes "OK 0\nOK 2\nROWS 2\nC\nb\nERROR 1176\nROWS 1\n1\n"
unfolding digits
forced_keys = last-select two_texts above_b _ (ap (selecting two_texts above_b) (where-compare (codes "n") Gt (Text (codes "B")))) refl

-- aggregates over no row and NOT IN with a NULL
abbrev one_null : List Statement
one_null =
    create_t
    ∷ statement.Select (select_data (columns.Aggregates (aggregate.Count ∷ aggregate.Min (codes "v") ∷ [])) (codes "t"))
    ∷ insert (codes "t") ((num 1 ∷ Null ∷ []) ∷ (num 2 ∷ num 4 ∷ []) ∷ []) ∷ []

abbrev not_in : Select
not_in = record (select_data (columns.Names (codes "id" ∷ [])) (codes "t")) { condition = Some (expr.Not (expr.OneOf (codes "v") (num 5 ∷ Null ∷ []))) }

pub not_in_with_null : with_last one_null not_in ≡ codes "OK 0\nROWS 1\n0\tNULL\nOK 2\nROWS 0\n"
unfolding digits
not_in_with_null = last-select one_null not_in _ (ap (selecting one_null not_in) (where-not-in (codes "v") (num 5 ∷ Null ∷ []))) refl

-- BETWEEN, OR, IS NULL, and LIMIT behind one row
abbrev between_or_null : Select
between_or_null = record (select_data (columns.Names (codes "id" ∷ [])) (codes "t")) {
  condition = Some (expr.Or (expr.Between (codes "v") (num 4) (num 4) ∷ expr.IsNull (codes "v") ∷ []));
  skip = 1;
  most = Some 1;
}

pub one_row_behind_another : with_last one_null between_or_null ≡ codes "OK 0\nROWS 1\n0\tNULL\nOK 2\nROWS 1\n2\n"
unfolding digits
one_row_behind_another = last-select one_null between_or_null _ (ap (selecting one_null between_or_null) (where-between-or-null (codes "v") (num 4) (num 4))) refl
