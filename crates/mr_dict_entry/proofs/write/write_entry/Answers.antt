use Rattle.std.proofs.Common.{◌∙◌, ap, subst, List, ℕ}
use Rattle.mr_dict_entry.specs.Entries.{entry_key, reads_entry}
use Rattle.mr_dict_entry.specs.Given.{ReadsBack}
use Rattle.mr_dict_entry.proofs.EntryLaws.{entry_written}
use Rattle.mr_dict_entry.proofs.write.write_entry.Goals as goal

pub returns-clause-reads_back : goal.returns-clause-reads_back
returns-clause-reads_back c = λ fits.
    ap (λ (k : List ℕ). reads_entry k c.in_ok-value.value) c.in_ok-key.ensures
    ∙ ap (λ (v : List ℕ). reads_entry (entry_key c.args.entry.now) v) c.in_ok-value.ensures.written
    ∙ entry_written c.args.entry.now fits c.numbers_fit.ensures (subst (ReadsBack c.args.entry.now) c.in_ok-value.ensures.written c.in_ok-value.ensures.reads_back)
