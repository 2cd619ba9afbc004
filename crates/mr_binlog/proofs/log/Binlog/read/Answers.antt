use Rattle.std.proofs.Common.{◌≡◌, ◌⊎◌, ℕ, Some, ap, subst, sym}
use Rattle.mr_base.specs.Disk.{file_of}
use Rattle.mr_base.specs.declared.stop.Stop.TheVariants as stop
use Rattle.mr_gate.specs.Gate.{IsNext, Reaches}
use Rattle.mr_binlog.specs.Commits.{IsNoCommit, IsOffence}
use Rattle.mr_binlog.proofs.Stopping.{err_is, read_stops}
use Rattle.mr_binlog.proofs.log.Binlog.read.Goals as goal

pub returns-in_err-commit-in-Some-clause-err : goal.returns-in_err-commit-in-Some-clause-err
returns-in_err-commit-in-Some-clause-err g c = λ tells reaches.
    let old = g.D.Disk.disk c.args.disk.now in
    let there = subst (λ (f : ℕ). Reaches c.self.inside.log.end c.args.at (file_of old f).bytes) (sym c.self.invariant.0) (subst (λ (e : ℕ). Reaches e c.args.at (file_of old 1).bytes) (ap (λ v. v.gate.end) (sym c.self.view_is)) reaches) in
    let next = subst (λ (f : ℕ). IsNext c.args.at (file_of old f).bytes (Some (c.in-Some.body, c.in-Some.next))) c.self.invariant.0 (subst (λ o. IsNext c.args.at (file_of old c.self.inside.log.file).bytes o) c.in-Some.is (c.in_ok-body.ensures.read tells there)) in
    err_is c.from_residual-in_err-commit-in-Some.result c.in_err-commit-in-Some.field-0.0 (λ e. (e ≡ stop.Disk) ⊎ ((e ≡ stop.Memory) ⊎ IsNoCommit c.args.at (file_of old 1).bytes e))
    c.from_residual-in_err-commit-in-Some.ensures.1
    (read_stops c.args.at (file_of old 1).bytes c.in-Some.body c.in-Some.next c.in_err-commit-in-Some.field-0.0
    (subst (λ b. (c.in_err-commit-in-Some.field-0.0 ≡ stop.Memory) ⊎ IsOffence c.args.at b c.in_err-commit-in-Some.field-0.0) c.as_slice.ensures c.in_err-commit-in-Some.ensures.err) next)
