-- Fields with tabs between them.
use Rattle.std.proofs.Common.{◌≡◌, ℕ, ◌<◌, List, [], ◌∷◌, ◌++◌, length, drop, get_or, sym, ap, arith}
use Rattle.std.proofs.lemmas.List.{append-nil}
use Rattle.std.specs.List.{flat_map}
use Rattle.mr_types.specs.declared.value.Value.{Value}
use Rattle.mr_spec.specs.ReplyText.{field_text, fields_text}

-- fields, each behind a tab
abbrev further : List Value → List ℕ
further vs = flat_map (λ v. 9 ∷ field_text v) vs

pub first_and_further : (v : Value) (vs : List Value) → fields_text (v ∷ vs) ≡ field_text v ++ further vs
first_and_further v [] = sym (append-nil (field_text v))
first_and_further v (u ∷ us) = ap (λ t. field_text v ++ 9 ∷ t) (first_and_further u us)

pub fields_of : (vs : List Value) (d : Value) → 0 < length vs → fields_text vs ≡ field_text (get_or vs 0 d) ++ further (drop 1 vs)
fields_of [] d h = absurd (omega arith)
fields_of (v ∷ vs) d h = first_and_further v vs
