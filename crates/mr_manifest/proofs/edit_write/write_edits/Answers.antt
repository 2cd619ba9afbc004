use Rattle.std.proofs.Common.{◌++◌, List, ℕ, ◌∙◌, ap}
use Rattle.mr_manifest.specs.Edits.{edits_bytes, read_edits}
use Rattle.mr_manifest.proofs.WritingLaws.{reads_back}
use Rattle.mr_manifest.proofs.edit_write.write_edits.Goals as goal

pub returns-clause-reads_back : goal.returns-clause-reads_back
returns-clause-reads_back c = λ fits.
    ap read_edits (c.from_vec.ensures ∙ c.in_ok-write_all.ensures ∙ ap (λ (x : List ℕ). x ++ edits_bytes c.args.edits.now) c.new-out.ensures.items) ∙ reads_back c.args.edits.now fits
