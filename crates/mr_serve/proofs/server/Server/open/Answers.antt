use Rattle.std.proofs.Common.{List, subst, sym}
use Rattle.mr_types.specs.declared.row.Commit.{Commit}
use Rattle.mr_schema.specs.Few.{FewColumns}
use Rattle.mr_binlog.proofs.FewCommits.{read_few}
use Rattle.mr_serve.proofs.FewRead.{few_read}
use Rattle.mr_serve.proofs.server.Server.open.Goals as goal

pub returns-clause-serving : goal.returns-clause-serving
returns-clause-serving g c =
    let read = c.in_ok-log.ensures.read in
    record {
      log = c.in_ok-log.ensures.ready;
      few = subst (λ (x : List Commit). FewColumns x) (sym c.in_ok-engine.ensures.commits) (few_read read_few read.0 c.in_ok-log.field-0.commits read.1);
    }
