use Rattle.std.proofs.Common.{◌++◌, ◌∙◌, ap, sym, List, ℕ, Bool, arith, drop, ◌+◌, append_assoc}
use Rattle.mr_rowval.specs.RowValue.{field_bytes, fields_bytes}
use Rattle.mr_rowval.proofs.Written.{same_sizes, taken_at, fields_step}
use Rattle.mr_rowval.proofs.encode.push_fields.Goals as goal

pub bounds-values-at : goal.bounds-values-at
bounds-values-at c = omega (arith, same_sizes c.args.columns.now c.args.values.now c.requires)

pub push_field-requires : goal.push_field-requires
push_field-requires c = taken_at c.args.columns.now c.args.values.now c.loop-at.at c.index-columns-at.result c.index-values-at.result c.requires (omega arith) c.index-columns-at.is c.index-values-at.is

pub loop-at-preserved : goal.loop-at-preserved
loop-at-preserved c =
    let columns = c.args.columns.now in
    let values = c.args.values.now in
    let places = c.args.places.now in
    let at = c.loop-at.at in
    let more = fields_bytes places (at + 1) (drop (at + 1) columns) (drop (at + 1) values) in
    ap (λ (l : List ℕ). l ++ more) c.in_ok-push_field.ensures
    ∙ ap (λ (b : Bool). c.loop-at.out.items ++ field_bytes b c.index-columns-at.result.ty.kind c.index-values-at.result ++ more) c.is_in.ensures
    ∙ append_assoc c.loop-at.out.items (field_bytes _ c.index-columns-at.result.ty.kind c.index-values-at.result) more
    ∙ ap (λ (l : List ℕ). c.loop-at.out.items ++ l) (sym (fields_step places at columns values c.index-columns-at.result c.index-values-at.result (omega arith) (omega (arith, same_sizes columns values c.requires)) c.index-columns-at.is c.index-values-at.is))
    ∙ c.loop-at.invariant
