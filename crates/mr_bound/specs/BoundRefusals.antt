-- What refuses a statement that is bound.
use Rattle.std.specs.Prelude.{ℕ, false, Result, Ok, ⊤}
use Rattle.std.specs.Option.{option_map_or}
use Rattle.mr_types.specs.declared.definition.TableDef.{TableDef}
use Rattle.mr_types.specs.declared.statement.Select.{Select}
use Rattle.mr_types.specs.Refusals.{◌>>◌, refuse_where}
use Rattle.mr_spec.specs.Select.{is_missing_key}

-- the refusal, where it isn't an answer
abbrev pub refusal_of : {A : Type 0} → Result A ℕ → Result ⊤ ℕ
refusal_of r = r >> Ok tt

-- 1176 for FORCE INDEX, else another test
abbrev pub behind_forced : TableDef → Select → Result ⊤ ℕ → Result ⊤ ℕ
behind_forced def s test = refuse_where 1176 (option_map_or (is_missing_key def) s.forced false) >> test
