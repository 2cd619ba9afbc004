-- A text of which no more bytes are kept than one more than a statement may have.
use Rattle.std.proofs.Common.{◌≡◌, ℕ, ◌<◌, ◌≤◌, Bool, true, false, List, [], ◌∷◌, ◌++◌, length, take, map, Result, Err, refl, ap, sym, ◌∙◌, inl, inr, arith, take_all, if◌then◌else◌, lt-ltb, length-append}
use Rattle.std.proofs.lemmas.Bool.{cases_lt}
use Rattle.std.proofs.lemmas.List.{take-append-le, length-take}
use Rattle.mr_lex.specs.Cutting.{as_part}
use Rattle.mr_lex.specs.Pieces.{is_two_dashes, kept_where_blank}
use Rattle.mr_spec.specs.Grammar.{parsed, statement_of}
use Rattle.mr_spec.specs.ScriptRun.{read_part}
use Rattle.mr_types.specs.Refusals.{some_or}
use Rattle.mr_types.specs.declared.statement.Statement.{Statement}
use Rattle.mr_run.specs.Holding.{most_kept}

-- one more, where there is room
pub kept_more : (all kept : List ℕ) (b : ℕ) → kept ≡ take most_kept all → length kept < most_kept → kept ++ b ∷ [] ≡ take most_kept (all ++ b ∷ [])
kept_more all kept b is room =
    let short : length all < most_kept = omega (arith, room, ap length is, length-take most_kept all) in
    ap (λ x. x ++ b ∷ []) (is ∙ take_all most_kept all (omega (arith, short))) ∙ sym (take_all most_kept (all ++ b ∷ []) (omega (arith, short, length-append all (b ∷ []))))

-- and none, where there is none
pub kept_full : (all kept : List ℕ) (b : ℕ) → kept ≡ take most_kept all → most_kept ≤ length kept → kept ≡ take most_kept (all ++ b ∷ [])
kept_full all kept b is full = is ∙ sym (take-append-le most_kept all (b ∷ []) (omega (arith, full, ap length is, length-take most_kept all)))

-- whether it is two dashes is seen
dashes_kept : (all : List ℕ) → is_two_dashes (take most_kept all) ≡ is_two_dashes all
dashes_kept [] = refl
dashes_kept (a ∷ []) = refl
dashes_kept (a ∷ b ∷ []) = refl
dashes_kept (a ∷ b ∷ c ∷ all) = refl

-- where all is blank
pub blank_kept : (all : List ℕ) → take most_kept (kept_where_blank all) ≡ (if is_two_dashes (take most_kept all) then take most_kept all else [])
blank_kept all = either (is_two_dashes all) ∙ ap (λ (t : Bool). if t then take most_kept all else []) (sym (dashes_kept all))
  where
    either : (t : Bool) → take most_kept (if t then all else []) ≡ (if t then take most_kept all else [])
    either true = refl
    either false = refl

too_long : (text : List ℕ) → 1048576 < length text → parsed text ≡ Err 1153
too_long text long = ap (λ (t : Bool). if t then Err 1153 else some_or 1064 (statement_of text)) (lt-ltb 1048576 (length text) long)

-- a text that is cut so is refused as the whole is
pub parsed_kept : (text : List ℕ) → parsed (take most_kept text) ≡ parsed text
parsed_kept text = elim (cases_lt most_kept (length text)) [
  | inl long ↦ too_long (take most_kept text) (omega (arith, long, length-take most_kept text)) ∙ sym (too_long text (omega (arith, long)))
  | inr short ↦ ap parsed (take_all most_kept text short)
]

pub part_kept : (text : List ℕ) → map read_part (as_part (take most_kept text)) ≡ map read_part (as_part text)
part_kept [] = refl
part_kept (b ∷ text) = ap (λ (r : Result Statement ℕ). r ∷ []) (parsed_kept (b ∷ text))

-- what is left after blank bytes are let go
pub cleared : (all kept now : List ℕ) (t : Bool) → kept ≡ take most_kept all → t ≡ is_two_dashes kept → now ≡ (if t then kept else []) → now ≡ take most_kept (kept_where_blank all)
cleared all kept now t is test are =
    are ∙ ap (λ (u : Bool). if u then kept else []) test ∙ ap (λ x. if is_two_dashes x then x else []) is ∙ sym (blank_kept all)
