-- What is said of options and keys, and what a call answers of them where its memory suffices.
use Rattle.std.specs.Prelude.{◌≡◌, ℕ, [], None, Result, Ok, Err, ⊤}
use Rattle.mr_types.specs.declared.refused.Refused.{Refused}
use Rattle.mr_types.specs.declared.refused.Refused.TheVariants.{Memory, Sql}
use Rattle.mr_spec.specs.TtlOptions.{Options}
use Rattle.mr_spec.specs.KeyChecks.{Keys as KeysOf}
use Rattle.mr_schema.specs.declared.options.CommentOptions.{CommentOptions}
use Rattle.mr_schema.specs.declared.keys.Keys.{Keys}

-- the options of a comment, as the definition has them
abbrev pub said : CommentOptions → Options
said o = record { duration = o.duration; column = o.column }

-- the keys so far, as the definition has them
abbrev pub said_keys : Keys → KeysOf
said_keys k = record { primary = k.primary; secondary = k.secondary }

-- before the first key
abbrev pub no_keys : KeysOf
no_keys = record { primary = None; secondary = [] }

-- these options, or this refusal
abbrev pub Says : Result CommentOptions Refused → Result Options ℕ → Type 0
Says (Ok o) answer = answer ≡ Ok (said o)
Says (Err (Sql code)) answer = answer ≡ Err code
Says (Err Memory) answer = ⊤

-- these keys, or this refusal
abbrev pub SaysKeys : Result Keys Refused → Result KeysOf ℕ → Type 0
SaysKeys (Ok k) answer = answer ≡ Ok (said_keys k)
SaysKeys (Err (Sql code)) answer = answer ≡ Err code
SaysKeys (Err Memory) answer = ⊤
