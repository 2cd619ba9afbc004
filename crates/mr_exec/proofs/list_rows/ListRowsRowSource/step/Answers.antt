use Rattle.std.proofs.Common.{ℕ, length, drop, subst, nat_lt}
use Rattle.mr_exec.specs.Sources.{Stepped}
use Rattle.mr_exec.specs.Lists.{next_at, stood_on}
use Rattle.mr_exec.proofs.Standing.{stepped}
use Rattle.mr_exec.proofs.list_rows.ListRowsRowSource.step.Goals as goal

pub returns-clause-moved : goal.returns-clause-moved
returns-clause-moved c = λ told.
    let rows = c.args.self.now.rows.now in
    let next = c.next-at.result in
    subst (λ (n : ℕ). Stepped (nat_lt next (length rows)) (drop n rows) (stood_on rows next (nat_lt next (length rows))) (drop (next_at next (nat_lt next (length rows))) rows)) c.next-at.ensures (stepped rows next)
