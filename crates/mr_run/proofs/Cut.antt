-- A script in pieces.
use Rattle.std.proofs.Common.{◌≡◌, ℕ, List, [], ◌∷◌, ◌++◌, refl, ap, sym, ◌∙◌, append_assoc, map, true, false, cond, ◌||◌}
use Rattle.mr_lex.specs.Cutting.{Part, ends, part_of, rest_of, parts_from}
use Rattle.mr_spec.specs.ScriptRun.{Event, has_error, is_refusal, read_part, statements_of}
use Rattle.mr_run.specs.Cutting.{ended_by, left_by, statements_in}

pub ended_on : (since a b : List ℕ) → ended_by since (a ++ b) ≡ ended_by since a ++ ended_by (left_by since a) b
ended_on since [] b = refl
ended_on since (x ∷ a) b = elim (ends since x) as (λ t. cond t (part_of since ++ ended_by [] (a ++ b)) (ended_by (since ++ x ∷ []) (a ++ b))
    ≡ cond t (part_of since ++ ended_by [] a) (ended_by (since ++ x ∷ []) a) ++ ended_by (cond t (left_by [] a) (left_by (since ++ x ∷ []) a)) b) [
      | true ↦ ap (λ y. part_of since ++ y) (ended_on [] a b) ∙ sym (append_assoc (part_of since) (ended_by [] a) (ended_by (left_by [] a) b))
      | false ↦ ended_on (since ++ x ∷ []) a b
    ]

pub left_on : (since a b : List ℕ) → left_by since (a ++ b) ≡ left_by (left_by since a) b
left_on since [] b = refl
left_on since (x ∷ a) b = elim (ends since x) as (λ t. cond t (left_by [] (a ++ b)) (left_by (since ++ x ∷ []) (a ++ b)) ≡ left_by (cond t (left_by [] a) (left_by (since ++ x ∷ []) a)) b) [
  | true ↦ left_on [] a b
  | false ↦ left_on (since ++ x ∷ []) a b
]

pub map_on : (a b : List Part) → map read_part (a ++ b) ≡ map read_part a ++ map read_part b
map_on [] b = refl
map_on (x ∷ a) b = ap (λ y. read_part x ∷ y) (map_on a b)

pub statements_on : (since a b : List ℕ) → statements_in since (a ++ b) ≡ statements_in since a ++ statements_in (left_by since a) b
statements_on since a b = ap (map read_part) (ended_on since a b) ∙ map_on (ended_by since a) (ended_by (left_by since a) b)

pub error_on : (a b : List Event) → has_error (a ++ b) ≡ (has_error a || has_error b)
error_on [] b = refl
error_on (e ∷ a) b = elim (is_refusal e.reply) as (λ t. (t || has_error (a ++ b)) ≡ ((t || has_error a) || has_error b)) [ true ↦ refl | false ↦ error_on a b ]

-- the parts of a script are those that end in it, and its rest
parts_are : (since bytes : List ℕ) → parts_from since bytes ≡ ended_by since bytes ++ rest_of (left_by since bytes)
parts_are since [] = refl
parts_are since (x ∷ bytes) = elim (ends since x) as (λ t. cond t (part_of since ++ parts_from [] bytes) (parts_from (since ++ x ∷ []) bytes)
    ≡ cond t (part_of since ++ ended_by [] bytes) (ended_by (since ++ x ∷ []) bytes) ++ rest_of (cond t (left_by [] bytes) (left_by (since ++ x ∷ []) bytes))) [
      | true ↦ ap (λ y. part_of since ++ y) (parts_are [] bytes) ∙ sym (append_assoc (part_of since) (ended_by [] bytes) (rest_of (left_by [] bytes)))
      | false ↦ parts_are (since ++ x ∷ []) bytes
    ]

pub script_is : (script : List ℕ) → statements_of script ≡ statements_in [] script ++ map read_part (rest_of (left_by [] script))
script_is script = ap (map read_part) (parts_are [] script) ∙ map_on (ended_by [] script) (rest_of (left_by [] script))
