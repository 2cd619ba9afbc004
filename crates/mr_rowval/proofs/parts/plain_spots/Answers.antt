use Rattle.std.proofs.Common.{◌≡◌, ◌∙◌, ◌+◌, ◌≤◌, sym, ap, subst, refl, length, get_or, arith, Bool, List, ℕ, []}
use Rattle.std.specs.Prelude.{slice_set}
use Rattle.std.proofs.lemmas.List.{length-set}
use Rattle.mr_types.specs.declared.definition.ColumnDef.{ColumnDef}
use Rattle.mr_types.specs.declared.value.Value.{Value}
use Rattle.mr_rowval.specs.KeyParts.{found}
use Rattle.mr_rowval.specs.RowValue.{field_read, fields_read}
use Rattle.mr_rowval.specs.Parts.{Ends, spot_of}
use Rattle.mr_rowval.proofs.FieldWalk.{and_none}
use Rattle.mr_rowval.proofs.SpotWalk.{SpotsTo, spot_step}
use Rattle.mr_rowval.proofs.parts.plain_spots.Goals as goal

pub loop-at-init : goal.loop-at-init
loop-at-init c = (refl, λ held flags after fields rest ends e read. record { ends = ends; up = ([], flags, refl, e, and_none (fields_read c.args.places.now held 0 c.args.columns.now flags c.args.plain.now)); spots = λ p before within out. absurd (omega arith) })

pub loop-at-preserved : goal.loop-at-preserved
loop-at-preserved c =
    let columns = c.args.columns.now in
    let at = c.loop-at.at in
    let column : ColumnDef = get_or columns at c.index-columns-at.result in
    let is_null = c.column_flag-is_null.result.0 in
    let rest_now = c.loop-at.rest.now in
    let spot_is = c.spot_of.ensures ∙ ap (spot_of is_null) c.saturating_sub.ensures in (
      length-set c.loop-at.spots at c.spot_of.result ∙ c.loop-at.invariant.0,
      λ held flags after fields rest ends e read.
          let stepped = spot_step columns c.args.places.now at flags c.args.plain.now held after c.loop-at.bits c.column_flag-is_null.result.1 rest_now c.behind_field-rest.result.now c.args.value.now column is_null fields rest c.loop-at.spots (omega arith) (omega (arith, c.loop-at.invariant.0)) (ap (λ (d : ColumnDef). get_or columns at d) c.index-columns-at.is) c.column_flag-is_null.ensures
          (λ x r. c.behind_field-rest.ensures (found held at) x (ap (λ (b : Bool). field_read b is_null (found held at) column.ty.kind rest_now) c.is_in.ensures ∙ r)) read (c.loop-at.invariant.1 held flags after fields rest ends e read) in
          subst (λ (s : ℕ). SpotsTo columns c.args.places.now (at + 1) flags c.args.plain.now held after c.column_flag-is_null.result.1 c.behind_field-rest.result.now c.args.value.now fields (slice_set c.loop-at.spots at s)) (sym spot_is) stepped,
    )

pub returns : goal.returns
returns c = λ held flags after fields rest ends e read p before within out. (c.loop-at.invariant.1 held flags after fields rest ends e read).spots p (omega arith) within out
