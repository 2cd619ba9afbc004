-- Each statement is read from a text of its own.
use Rattle.std.proofs.Common.{◌≡◌, List, [], ◌∷◌, map, true, Some, refl}
use Rattle.std.specs.List.{list_all}
use Rattle.mr_types.specs.declared.statement.Statement.{Statement}
use Rattle.mr_spec.specs.Grammar.{statement_of}
use Rattle.mr_spelling.specs.Parts.{Part}
use Rattle.mr_spelling.specs.Statements.{IsSpellable, spelled_statement}
use Rattle.mr_spelling.specs.Texts.{are_gaps, is_spaced, Write}
use Rattle.mr_spelling.specs.Canonical.{written, text_of_statement, has_plain_engine}
use Rattle.mr_spelling.proofs.Lists.{both-true, first_of_both, second_of_both}
use Rattle.mr_spelling.proofs.Alone.{is_writable, part-alone, part-token}
use Rattle.mr_spelling.proofs.Writable.{AreWritable, writable}
use Rattle.mr_spelling.proofs.TextsRead.{text-read}

writes : (ps : List Part) → AreWritable ps → Write (map written ps) ps
writes [] h = tt
writes (p ∷ ps) h = (part-alone p (first_of_both (is_writable p) (list_all is_writable ps) h), part-token p (first_of_both (is_writable p) (list_all is_writable ps) h), writes ps (second_of_both (is_writable p) (list_all is_writable ps) h))

gaps : (ps : List Part) → are_gaps (map written ps) ≡ true
gaps [] = refl
gaps (p ∷ ps) = gaps ps

spaced : (ps : List Part) → is_spaced (map written ps) [] ≡ true
spaced [] = refl
spaced (p ∷ ps) = both-true (are_gaps (map written ps)) true (gaps ps) refl

-- the statement's own text is read as the statement
pub own-text-read : (s : Statement) → IsSpellable s → has_plain_engine s ≡ true → statement_of (text_of_statement s) ≡ Some s
own-text-read s h w = text-read s (map written (spelled_statement s)) [] h (writes (spelled_statement s) (writable s h.in_order h.bounded w)) (spaced (spelled_statement s))
