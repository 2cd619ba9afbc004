--   literal := [-] number | text | bytes | NULL
use Rattle.std.specs.Prelude.{ℕ, ◌-◌, ◌^◌, pos, if◌then◌else◌, List, [], ◌∷◌, Option, Some, None, codes}
use Rattle.mr_lex.specs.declared.token.TokenKind.{TokenKind}
use Rattle.mr_lex.specs.declared.token.TokenKind.TheVariants as kinds
use Rattle.mr_types.specs.Values.{negated}
use Rattle.mr_types.specs.declared.value.Value.{Value}
use Rattle.mr_types.specs.declared.value.Value.TheVariants as values
use Rattle.mr_spec.specs.Words.{binary_bytes, is_bytes}
use Rattle.mr_spec.specs.Phrases.{Phrase, ◌>>=◌, ◌>>◌, ◌<$>◌, pure, refuse, first_kind, eat_sign, expect, number, text}

-- the greatest number that can be written
abbrev pub greatest : ℕ
greatest = 2 ^ 127 - 1

abbrev pub any_number : Phrase ℕ
any_number = number 0 greatest

-- a token of bytes
unfoldable pub binary : Phrase (List ℕ)
binary [] = None
binary (t ∷ ts) = if is_bytes t.kind then Some (binary_bytes t.bytes, ts) else None

-- by the kind of the first token
abbrev pub literal_by : Option TokenKind → Phrase Value
literal_by (Some kinds.Number) = (λ n. values.Number (pos n)) <$> any_number
literal_by (Some kinds.Text) = values.Text <$> text
literal_by (Some kinds.Bytes) = values.Bytes <$> binary
literal_by (Some kinds.Word) = expect (codes "null") >> pure values.Null
literal_by (Some kinds.QuotedName) = refuse
literal_by (Some kinds.Sign) = refuse
literal_by None = refuse

unfoldable pub unsigned_literal : Phrase Value
unsigned_literal = λ ts. literal_by (first_kind ts) ts

unfoldable pub literal : Phrase Value
literal = do
  minus ← eat_sign (codes "-")
  if minus then (λ n. values.Number (negated n)) <$> any_number else unsigned_literal
