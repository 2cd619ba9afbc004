use Rattle.std.proofs.Common.{◌+◌, ◌-◌, List, length, ◌∙◌, ap, sym}
use Rattle.mr_manifest.specs.declared.edit.Edit.{Edit}
use Rattle.mr_manifest.specs.Edits.{edits_in}
use Rattle.mr_manifest.specs.Given.{with_front}
use Rattle.mr_manifest.proofs.Decoding.{one_more, broken, too_many, some_is}
use Rattle.mr_manifest.proofs.edit_read.edits_left.Goals as goal

pub returns-in-Err : goal.returns-in-Err
returns-in-Err c =
    c.reading.invariant
    ∙ broken c.reading.edits (length c.args.bytes.now) c.reading.i c.reading.rest.now c.reading-test.true (some_is c.reading.rest.now (sym c.is_empty.ensures ∙ c.if-is_empty.false)) c.in-Err.left c.in-Err.ensures

pub reading-preserved : goal.reading-preserved
reading-preserved c =
    c.reading.invariant
    ∙ one_more c.reading.edits (length c.args.bytes.now) c.reading.i c.reading.rest.now c.reading-test.true (some_is c.reading.rest.now (sym c.is_empty.ensures ∙ c.if-is_empty.false)) c.in-Ok.read.0 c.in-Ok.read.1.now c.in-Ok.ensures
    ∙ ap (λ (es : List Edit). with_front es (edits_in (length c.args.bytes.now - (c.reading.i + 1)) c.in-Ok.read.1.now)) (sym c.in-Ok-push.ensures.ok)

pub returns : goal.returns
returns c =
    c.reading.invariant
    ∙ too_many c.reading.edits (length c.args.bytes.now) c.reading.i c.reading.rest.now (c.reading-test.false) (some_is c.reading.rest.now (sym c.is_empty-2.ensures ∙ c.if-is_empty-2.false))
