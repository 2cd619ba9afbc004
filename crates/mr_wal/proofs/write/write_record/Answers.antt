use Rattle.std.proofs.Common.{◌≡◌, ◌++◌, ◌∷◌, [], List, ℕ, ◌∙◌, ap}
use Rattle.mr_wal.specs.EngineLog.{body_bytes, record_bytes, read_record}
use Rattle.mr_wal.proofs.WritingLaws.{record_back}
use Rattle.mr_wal.proofs.write.write_record.Goals as goal

pub returns-clause-reads_back : goal.returns-clause-reads_back
returns-clause-reads_back c = λ fits.
    let written : c.from_vec.result ≡ record_bytes c.args.item.now =
    c.from_vec.ensures ∙ c.in_ok-write_body.ensures.written ∙ ap (λ (x : List ℕ). x ++ body_bytes c.args.item.now.body) (c.in_ok-write_verdict.ensures.written ∙ ap (λ (x : List ℕ). x ++ c.args.item.now.verdict ∷ []) c.new-out.ensures.items) in
    ap read_record written ∙ record_back c.args.item.now fits

pub returns-clause-fits : goal.returns-clause-fits
returns-clause-fits c = record { verdict = c.in_ok-write_verdict.ensures.fits; body = c.in_ok-write_body.ensures.fits }
