use Rattle.std.proofs.Common.{◌++◌, ◌∙◌, ap, List, ℕ}
use Rattle.byteorder.specs.Endian.{big_bytes}
use Rattle.mr_binlog.specs.CommitForm.{body_bytes, reads_commit}
use Rattle.mr_binlog.proofs.CommitLaws.{commit_written}
use Rattle.mr_binlog.proofs.commit_write.write_commit.Goals as goal

pub returns-clause-reads_back : goal.returns-clause-reads_back
returns-clause-reads_back c = λ fits.
    ap reads_commit (c.from_vec.ensures ∙ c.in_ok-write_body.ensures.written ∙ ap (λ (x : List ℕ). x ++ body_bytes c.args.commit.now.body) (c.in_ok-write_u64.ensures ∙ ap (λ (x : List ℕ). x ++ big_bytes 8 c.args.commit.now.moment) c.new-out.ensures.items))
    ∙ commit_written c.args.commit.now fits
