use Rattle.std.proofs.Common.{◌≡◌, map, List, Bool, true, false, Option, Result, Ok, Err, ap, ◌∙◌}
use Rattle.std.specs.Prelude.{ℕ, ⊤, ◌||◌, ◌&&◌}
use Rattle.std.specs.List.{list_any}
use Rattle.mr_types.specs.declared.definition.TableDef.{TableDef}
use Rattle.mr_types.specs.declared.expr.Expr.{Expr}
use Rattle.mr_types.specs.declared.statement.SetItem.{SetItem}
use Rattle.mr_types.specs.Refusals.{◌>>=◌, ◌>>◌, refuse_where}
use Rattle.mr_spec.specs.declared.bound.Bound.{Bound}
use Rattle.mr_bound.specs.declared.bound.BoundSet.{BoundSet}
use Rattle.mr_bound.specs.declared.bound.BoundUpdate.{BoundUpdate}
use Rattle.mr_spec.specs.Truth.{where_of, is_unknown, known_columns}
use Rattle.mr_spec.specs.Setting.{is_wrong_sum, has_unknown_to, is_default_to, lacks_default}
use Rattle.mr_bound.specs.BoundSelects.{converted_condition}
use Rattle.mr_bound.specs.BoundUpdates.{set_at, bind_update}
use Rattle.mr_bound.proofs.binding_update.bind_update.Goals as goal

abbrev bound : List BoundSet → Option Bound → BoundUpdate
bound set condition = record { set = set; condition = condition }

-- where all tests but the last pass
last : (unknown wrong : Bool) (known : Result ⊤ ℕ) (converted : Result (Option Bound) ℕ) (u : ⊤) (condition : Option Bound) (missing : Bool) (set : List BoundSet)
    → unknown ≡ false → known ≡ Ok u → wrong ≡ false → converted ≡ Ok condition
    → (refuse_where 1054 unknown >> (known >> (refuse_where 1366 wrong >> (converted >>= (λ c. refuse_where 1364 missing >> Ok (bound set c)))))) ≡ (refuse_where 1364 missing >> Ok (bound set condition))
last false false (Ok _) (Ok c) u condition missing set a b d e =
    let same : c ≡ condition = cc in
    ap (λ (c : Option Bound). refuse_where 1364 missing >> Ok (bound set c)) same
last false false (Ok _) (Err k) u condition missing set a b d e = absurd cc
last false false (Err k) converted u condition missing set a b d e = absurd cc
last false true known converted u condition missing set a b d e = absurd cc
last true wrong known converted u condition missing set a b d e = absurd cc

abbrev some_unknown : TableDef → List SetItem → Bool
some_unknown def set = list_any (λ s. is_unknown def s.column || has_unknown_to def s.to) set

abbrev some_wrong : TableDef → List SetItem → Bool
some_wrong def set = list_any (λ s. is_wrong_sum def s.to) set

abbrev some_missing : TableDef → List SetItem → Bool
some_missing def set = list_any (λ s. is_default_to s.to && lacks_default def s.column) set

last_is : (def : TableDef) (set : List SetItem) (c : Option Expr) (u : ⊤) (condition : Option Bound) (missing : Bool)
    → some_unknown def set ≡ false → known_columns def (where_of c) ≡ Ok u → some_wrong def set ≡ false → converted_condition def c ≡ Ok condition → some_missing def set ≡ missing
    → bind_update def set c ≡ (refuse_where 1364 missing >> Ok (bound (map (set_at def) set) condition))
last_is def set c u condition missing a b d e m =
    last (some_unknown def set) (some_wrong def set) (known_columns def (where_of c)) (converted_condition def c) u condition (some_missing def set) (map (set_at def) set) a b d e
    ∙ ap (λ (missing : Bool). refuse_where 1364 missing >> Ok (bound (map (set_at def) set) condition)) m

pub returns-then-has_missing_default : goal.returns-then-has_missing_default
returns-then-has_missing_default c =
    let def = c.args.def.now in
    let set = c.args.set.now in
    let unknown : some_unknown def set ≡ false = cc in
    let wrong : some_wrong def set ≡ false = cc in
    let missing : some_missing def set ≡ true = cc in
    last_is def set c.args.condition.now c.in_ok-known_condition.field-0 c.in_ok-condition.condition true unknown c.in_ok-known_condition.ensures wrong c.in_ok-condition.ensures missing

pub returns : goal.returns
returns c =
    let def = c.args.def.now in
    let set = c.args.set.now in
    let unknown : some_unknown def set ≡ false = cc in
    let wrong : some_wrong def set ≡ false = cc in
    let missing : some_missing def set ≡ false = cc in
    let places : map (set_at def) set ≡ c.in_ok-set_at.field-0 = cc (c.in_ok-set_at.ensures) in
    last_is def set c.args.condition.now c.in_ok-known_condition.field-0 c.in_ok-condition.condition false unknown c.in_ok-known_condition.ensures wrong c.in_ok-condition.ensures missing
    ∙ ap (λ (s : List BoundSet). Ok (bound s c.in_ok-condition.condition)) places
