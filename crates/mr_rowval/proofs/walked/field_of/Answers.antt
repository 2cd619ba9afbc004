use Rattle.std.proofs.Common.{◌≡◌, ◌∙◌, sym, arith, length}
use Rattle.mr_rowval.specs.Decoded.{flags_in, held_in, fields_in}
use Rattle.mr_rowval.proofs.Decoding.{sizes, past_end, in_key}
use Rattle.mr_rowval.proofs.walked.field_of.Goals as goal

pub returns-then-place-columns : goal.returns-then-place-columns
returns-then-place-columns c =
    let columns = c.args.columns.now in
    let places = c.args.places.now in
    let fields = fields_in columns places c.args.key.now c.args.nulls.now c.args.unpack.now c.args.plain.now in
    let size : length fields ≡ length columns = sizes places (held_in columns places c.args.key.now c.args.unpack.now) 0 columns (flags_in columns c.args.nulls.now) c.args.plain.now fields _ c.requires.fields in
    past_end fields c.args.place (omega (arith, size, c.if-place-columns.true))

pub returns-then-is_in : goal.returns-then-is_in
returns-then-is_in c =
    let columns = c.args.columns.now in
    let places = c.args.places.now in
    let held = held_in columns places c.args.key.now c.args.unpack.now in
    let fields = fields_in columns places c.args.key.now c.args.nulls.now c.args.unpack.now c.args.plain.now in
    c.held_field.ensures held c.args.plain.now c.requires.held
    ∙ sym (in_key places held 0 columns (flags_in columns c.args.nulls.now) c.args.plain.now fields _ c.args.place c.args.place c.requires.fields (omega (arith, c.if-place-columns.false)) (omega arith) (sym c.is_in.ensures ∙ c.if-is_in.true))
