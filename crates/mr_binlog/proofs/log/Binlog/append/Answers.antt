use Rattle.std.proofs.Common.{ℕ, ap, subst}
use Rattle.mr_base.specs.Disk.{file_of, present, IsAtRest}
use Rattle.mr_base.specs.Calls.{During, OneFile}
use Rattle.mr_gate.specs.Gate.{IsAfter, IsBeforeOrAfter}
use Rattle.mr_binlog.proofs.log.Binlog.append.Goals as goal

pub returns-clause-added : goal.returns-clause-added
returns-clause-added g c = λ tells.
    let old = g.D.Disk.disk c.args.disk.now in
    let new = g.D.Disk.disk c.append.new.disk in
    subst (λ (e : ℕ). IsAfter e c.args.body.now (file_of old 1).bytes (file_of new 1).bytes) (ap (λ v. v.gate.end) c.self.view_is)
    (subst (λ (f : ℕ). IsAfter c.self.inside.log.end c.args.body.now (file_of old f).bytes (file_of new f).bytes) c.self.invariant.0 (c.in_ok-append.ensures.added tells))

pub returns-clause-any_moment : goal.returns-clause-any_moment
returns-clause-any_moment g c = λ tells.
    let old = g.D.Disk.disk c.args.disk.now in
    let new = g.D.Disk.disk c.append.new.disk in
    subst (λ (e : ℕ). During old new (OneFile 1 (present old) (λ x. IsAtRest (file_of old 1) → IsBeforeOrAfter e c.args.body.now (file_of old 1).bytes x))) (ap (λ v. v.gate.end) c.self.view_is)
    (subst (λ (f : ℕ). During old new (OneFile f (present old) (λ x. IsAtRest (file_of old f) → IsBeforeOrAfter c.self.inside.log.end c.args.body.now (file_of old f).bytes x))) c.self.invariant.0 (c.append.ensures.any_moment tells))
