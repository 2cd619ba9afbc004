use Rattle.std.proofs.Common.{inr, refl, ◌+◌, sym, ◌∙◌, ap}
use Rattle.mr_manifest.specs.Edits.{edits_bytes}
use Rattle.mr_stored.specs.Said.{in_file}
use Rattle.mr_store_reading.proofs.FirstRecord.{differs}
use Rattle.mr_store_reading.proofs.first_record.judge.Goals as goal

pub returns-clause-differs : goal.returns-clause-differs
returns-clause-differs c =
    let place = c.differs_at-place.result in
    inr ((0, 5 + place), ap (in_file 0) (differs c.args.body.now c.as_slice-expected.result.now place (c.as_slice-expected.ensures ∙ c.in_ok-first.ensures.written ∙ ap edits_bytes c.first_record.ensures) (sym c.eq.ensures ∙ c.if-eq.false) c.differs_at-place.ensures.place), refl)
