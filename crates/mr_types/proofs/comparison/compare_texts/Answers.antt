use Rattle.std.proofs.Common.{◌<◌, ◌⊎◌, ◌∙◌, ap, arith, inl, inr, length}
use Rattle.std.proofs.lemmas.Bool.{cases_lt}
use Rattle.mr_types.specs.FieldValues.{bytes_of, folded_byte}
use Rattle.mr_types.proofs.Comparing.{start_texts, text_differs, text_agrees}
use Rattle.mr_types.proofs.comparison.compare_texts.Goals as goal

pub loop-at-init : goal.loop-at-init
loop-at-init c = start_texts c.args.collation (bytes_of c.args.left.now) (bytes_of c.args.right.now) c.common_front-at.result c.common_front-at.ensures

pub returns-then-a-b : goal.returns-then-a-b
returns-then-a-b c =
    let a = bytes_of c.args.left.now in
    let b = bytes_of c.args.right.now in
    let at = c.loop-at.at in
    let within : (at < length a) ⊎ (at < length b) = elim (cases_lt at (length a)) [ inl h ↦ inl h | inr h ↦ inr (omega arith) ] in
    c.cmp.ensures ∙ text_differs c.args.collation a b at c.folded_byte-a.result c.folded_byte-b.result within (c.folded_byte-a.ensures ∙ ap (folded_byte c.args.collation) c.byte_or.ensures) (c.folded_byte-b.ensures ∙ ap (folded_byte c.args.collation) c.byte_or-in-loop-at.ensures) c.if-a-b.true c.loop-at.invariant

pub loop-at-preserved : goal.loop-at-preserved
loop-at-preserved c =
    let a = bytes_of c.args.left.now in
    let b = bytes_of c.args.right.now in
    let at = c.loop-at.at in
    let within : (at < length a) ⊎ (at < length b) = elim (cases_lt at (length a)) [ inl h ↦ inl h | inr h ↦ inr (omega arith) ] in
    text_agrees c.args.collation a b at c.folded_byte-a.result c.folded_byte-b.result within (c.folded_byte-a.ensures ∙ ap (folded_byte c.args.collation) c.byte_or.ensures) (c.folded_byte-b.ensures ∙ ap (folded_byte c.args.collation) c.byte_or-in-loop-at.ensures) c.if-a-b.false c.loop-at.invariant
