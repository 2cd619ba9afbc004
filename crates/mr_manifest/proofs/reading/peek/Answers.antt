use Rattle.std.proofs.Common.{◌≡◌, ◌⊎◌}
use Rattle.mr_base.specs.Disk.{file_of}
use Rattle.mr_base.specs.declared.stop.Stop.TheVariants as stop
use Rattle.mr_manifest.specs.Manifest.{IsManifestDamage}
use Rattle.mr_manifest.proofs.SumLaws.{is_manifest, err_is, why}
use Rattle.mr_manifest.proofs.reading.peek.Goals as goal

pub returns-clause-read : goal.returns-clause-read
returns-clause-read g c tells = is_manifest (file_of (g.D.Disk.disk c.args.disk.now) 0).bytes c.in_ok-sum.sum (c.in_ok-sum.ensures.read tells)

pub returns-in_err-sum-clause-damaged : goal.returns-in_err-sum-clause-damaged
returns-in_err-sum-clause-damaged g c tells =
    let bytes = (file_of (g.D.Disk.disk c.args.disk.now) 0).bytes in
    err_is c.from_residual.result c.in_err-sum.field-0.0 (λ e. (e ≡ stop.Disk) ⊎ ((e ≡ stop.Memory) ⊎ IsManifestDamage bytes e))
    c.from_residual.ensures.1 (why bytes c.in_err-sum.field-0.0 (c.in_err-sum.ensures.damaged tells))
