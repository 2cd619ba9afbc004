-- Replies that an output has.
use Rattle.std.proofs.Common.{◌≡◌, ℕ, ◌+◌, ◌<◌, ◌≤◌, List, [], ◌∷◌, ◌++◌, length, take, Some, None, refl, ap, sym, ◌∙◌, arith, append_assoc, append-nil, length-append, length-take-le}
use Rattle.std.specs.Option.{option_map_or}
use Rattle.std.proofs.lemmas.List.{append_cancel_left}
use Rattle.mr_spec.specs.TtlOptions.{behind}
use Rattle.mr_spec.specs.ReplyText.{text_of}
use Rattle.mr_spec.specs.ScriptRun.{Event, output_of}
use Rattle.mr_serve.specs.Replied.{replied}
use Rattle.mr_serve.proofs.Events.{behind_front, behind_some, behind_none, text_some}

pub replied_none : (es : List Event) → replied es [] ≡ 0
replied_none [] = refl
replied_none (e ∷ es) = rw (behind_none (text_of e.reply) (text_some e.reply)) refl

-- behind whole replies the count goes on
pub replied_behind : (es more : List Event) (o : List ℕ) → replied (es ++ more) (output_of es ++ o) ≡ length es + replied more o
replied_behind [] more o = omega arith
replied_behind (e ∷ es) more o = rw (append_assoc (text_of e.reply) (output_of es) o, behind_front (text_of e.reply) (output_of es ++ o)) (omega (arith, replied_behind es more o))

-- the whole output has each reply
pub replied_all : (es : List Event) → replied es (output_of es) ≡ length es
replied_all es = ap (λ x. replied x (output_of es)) (sym (append-nil es)) ∙ ap (replied (es ++ [])) (sym (append-nil (output_of es))) ∙ replied_behind es [] [] ∙ (let e : length es + 0 ≡ length es = omega arith in e)

-- of an output that the events still give, later events add nothing
pub replied_more : (es more : List Event) (o rest : List ℕ) → output_of es ≡ o ++ rest → replied (es ++ more) o ≡ replied es o
replied_more [] more [] rest e = replied_none more
replied_more [] more (x ∷ o) rest e = cc
replied_more (e ∷ es) more o rest h = (elim (behind (text_of e.reply) o) as (λ b. behind (text_of e.reply) o ≡ b → option_map_or (λ r. 1 + replied (es ++ more) r) b 0 ≡ option_map_or (λ r. 1 + replied es r) b 0) [
  | None ↦ λ q. refl
  | Some r ↦ λ q. ap (λ n. 1 + n) (replied_more es more r rest (append_cancel_left (text_of e.reply) (output_of es) (r ++ rest)
      (h ∙ ap (λ x. x ++ rest) (behind_some (text_of e.reply) o r q) ∙ append_assoc (text_of e.reply) r rest)))
]) refl

-- an output that is shorter than the first reply has none
pub replied_short : (e : Event) (es : List Event) (o : List ℕ) → length o < length (text_of e.reply) → replied (e ∷ es) o ≡ 0
replied_short e es o less = (elim (behind (text_of e.reply) o) as (λ b. behind (text_of e.reply) o ≡ b → option_map_or (λ r. 1 + replied es r) b 0 ≡ 0) [
  | None ↦ λ q. refl
  | Some r ↦ λ q. absurd (omega (arith, less, ap length (behind_some (text_of e.reply) o r q), length-append (text_of e.reply) r))
]) refl

-- a strict front of the first reply has none
pub replied_front : (e : Event) (es : List Event) (n : ℕ) → n < length (text_of e.reply) → replied (e ∷ es) (take n (text_of e.reply)) ≡ 0
replied_front e es n less = replied_short e es (take n (text_of e.reply)) (omega (arith, less, length-take-le n (text_of e.reply)))

-- behind whole replies, a strict front of the next adds nothing
pub replied_part : (es : List Event) (e : Event) (more : List Event) (n : ℕ) → n < length (text_of e.reply) → replied (es ++ e ∷ more) (output_of es ++ take n (text_of e.reply)) ≡ length es
replied_part es e more n less = replied_behind es (e ∷ more) (take n (text_of e.reply)) ∙ ap (λ x. length es + x) (replied_front e more n less) ∙ (let e : length es + 0 ≡ length es = omega arith in e)

-- no more replies than events
pub replied_bound : (es : List Event) (o : List ℕ) → replied es o ≤ length es
replied_bound [] o = omega arith
replied_bound (e ∷ es) o = elim (behind (text_of e.reply) o) as (λ b. option_map_or (λ rest. 1 + replied es rest) b 0 ≤ length (e ∷ es)) [
  | None ↦ omega arith
  | Some rest ↦ omega (arith, replied_bound es rest)
]
