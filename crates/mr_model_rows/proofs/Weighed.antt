-- Weights of changes in two parts.
use Rattle.std.proofs.Common.{◌≡◌, ℕ, ◌+◌, List, ◌++◌, min, sym, ap, ◌∙◌, arith}
use Rattle.std.proofs.lemmas.List.Sums.{sum_by-append}
use Rattle.mr_types.specs.declared.row.Change.{Change}
use Rattle.mr_spec.specs.declared.world.Table.{Table}
use Rattle.mr_spec.specs.Rows.{table_name}
use Rattle.mr_spec.specs.Weight.{weight_of, secondary_count, total_weight}

-- what both weigh is the sum, also where the first part stops at the bound
capped : (a b : ℕ) → min 67108865 (min 67108865 (0 + a) + b) ≡ min 67108865 (a + b)
capped a b = grind arith

pub both : (tables : List Table) (changes more : List Change) → min 67108865 (min 67108865 (0 + total_weight tables changes) + total_weight tables more) ≡ min 67108865 (total_weight tables (changes ++ more))
both tables changes more =
    capped (total_weight tables changes) (total_weight tables more)
    ∙ ap (min 67108865) (sym (sum_by-append (λ c. weight_of (secondary_count tables (table_name c)) c) changes more))
