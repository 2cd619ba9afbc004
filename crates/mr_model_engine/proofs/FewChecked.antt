-- A definition that passes the checks has few columns.
use Rattle.std.proofs.Common.{◌≡◌, ◌≤◌, ◌+◌, Bool, true, false, nat_lt, List, [], ◌∷◌, length, IfOk, refl, sym, arith, length-append}
use Rattle.mr_types.specs.declared.definition.ColumnDef.{ColumnDef}
use Rattle.mr_types.specs.declared.text.ColumnText.{ColumnText}
use Rattle.mr_types.specs.declared.text.KeyText.{KeyText}
use Rattle.mr_types.specs.declared.text.TableText.{TableText}
use Rattle.mr_types.specs.Refusals.{◌>>◌, refuse_where, in_turn}
use Rattle.mr_spec.specs.Checks.{check}
use Rattle.mr_spec.specs.ColumnChecks.{checked_column, with_column, checked_columns}
use Rattle.mr_model_engine.proofs.Answering.{bound, after, weaker}

one_more : (keys : List KeyText) (before : List ColumnDef) (c : ColumnText) → IfOk (with_column keys before c) (λ ds. length ds ≡ length before + 1)
one_more keys before c = bound (λ ds. length ds ≡ length before + 1) (checked_column keys before c) _ (λ d. length-append before (d ∷ []))

all_more : (keys : List KeyText) (before : List ColumnDef) (cs : List ColumnText) → IfOk (in_turn (with_column keys) before cs) (λ ds. length ds ≤ length before + length cs)
all_more keys before [] = omega arith
all_more keys before (c ∷ cs) = after (λ ds. length ds ≡ length before + 1) (λ ds. length ds ≤ length before + length (c ∷ cs)) (with_column keys before c) _ (one_more keys before c)
    (λ ds e. weaker (λ es. length es ≤ length ds + length cs) _ (in_turn (with_column keys) ds cs) (λ es l. omega arith) (all_more keys ds cs))

within : (b : Bool) (keys : List KeyText) (cs : List ColumnText) → b ≡ nat_lt 64 (length cs) → IfOk (refuse_where 1117 b >> in_turn (with_column keys) [] cs) (λ ds. length ds ≤ 255)
within true keys cs e = tt
within false keys cs e = weaker (λ ds. length ds ≤ 0 + length cs) (λ ds. length ds ≤ 255) (in_turn (with_column keys) [] cs) (λ ds l. let s = sym e in grind arith) (all_more keys [] cs)

few_columns : (text : TableText) → IfOk (checked_columns text) (λ ds. length ds ≤ 255)
few_columns text = within (nat_lt 64 (length text.columns)) text.keys text.columns refl

pub few_check : (text : TableText) → IfOk (check text) (λ def. length def.columns ≤ 255)
few_check text = after (λ ds. length ds ≤ 255) (λ def. length def.columns ≤ 255) (checked_columns text) _ (few_columns text)
    (λ ds l. search (bound, l))
