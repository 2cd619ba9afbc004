use Rattle.std.proofs.Common.{◌≡◌, ◌⊎◌, ◌∙◌, [], sym, subst}
use Rattle.mr_base.specs.Disk.{file_of, File, IsAtRest}
use Rattle.mr_base.specs.declared.stop.Stop.TheVariants as stop
use Rattle.mr_base.proofs.Counting.{rises_tells}
use Rattle.mr_base.proofs.Moments.{same_file}
use Rattle.mr_gate.specs.Log.{end_from}
use Rattle.mr_gate.specs.Gate.{KeepsLog}
use Rattle.mr_manifest.specs.Manifest.{IsManifestDamage}
use Rattle.mr_manifest.proofs.SumLaws.{is_manifest, err_is, why}
use Rattle.mr_manifest.proofs.OpenLaws.{kept_manifest, is_sound, not_damaged, opened_moments}
use Rattle.mr_manifest.proofs.manifest.Manifest.open.Goals as goal

pub returns-in_err-sum-clause-damaged : goal.returns-in_err-sum-clause-damaged
returns-in_err-sum-clause-damaged g c tells =
    let bytes = (file_of (g.D.Disk.disk c.args.disk.now) 0).bytes in
    err_is c.from_residual.result c.in_err-sum.field-0.0 (λ e. (e ≡ stop.Disk) ⊎ ((e ≡ stop.Memory) ⊎ IsManifestDamage bytes e))
    c.from_residual.ensures.1 (why bytes c.in_err-sum.field-0.0 (c.in_err-sum.ensures.damaged tells))

pub returns-in_err-log-clause-left : goal.returns-in_err-log-clause-left
returns-in_err-log-clause-left g c tells place damaged =
    absurd (not_damaged (file_of (g.D.Disk.disk c.args.disk.now) 0).bytes c.in_ok-sum.sum place (c.in_ok-sum.ensures.read tells) damaged)

pub returns-in_err-log-clause-any_moment : goal.returns-in_err-log-clause-any_moment
returns-in_err-log-clause-any_moment g c tells =
    let disk = g.D.Disk.disk in
    opened_moments (disk c.args.disk.now) (disk c.read_manifest.new.disk) (disk c.open.new.disk) (c.read_manifest.ensures.same tells)
    (is_sound (file_of (disk c.args.disk.now) 0).bytes c.in_ok-sum.sum (c.in_ok-sum.ensures.read tells))
    (c.open.ensures.any_moment (rises_tells _ _ _ c.read_manifest.ensures.rises tells))

pub returns-clause-sound : goal.returns-clause-sound
returns-clause-sound g c tells = is_manifest (file_of (g.D.Disk.disk c.args.disk.now) 0).bytes c.in_ok-sum.sum (c.in_ok-sum.ensures.read tells)

pub returns-clause-left : goal.returns-clause-left
returns-clause-left g c tells place damaged =
    absurd (not_damaged (file_of (g.D.Disk.disk c.args.disk.now) 0).bytes c.in_ok-sum.sum place (c.in_ok-sum.ensures.read tells) damaged)

pub returns-clause-stands : goal.returns-clause-stands
returns-clause-stands g c tells =
    let disk = g.D.Disk.disk in
    let old = file_of (disk c.args.disk.now) 0 in
    let tells1 = rises_tells _ _ _ c.read_manifest.ensures.rises tells in
    let now = same_file (disk c.args.disk.now) (disk c.read_manifest.new.disk) 0 (c.read_manifest.ensures.same tells) in
    let new = (file_of (disk c.open.new.disk) 0).bytes in
    let m = is_manifest old.bytes c.in_ok-sum.sum (c.in_ok-sum.ensures.read tells) in
    let keeps = subst (λ (o : File). KeepsLog (end_from 0 o.bytes) o.bytes new) now (c.in_ok-log.ensures.kept tells1) in
    record {
      log = c.in_ok-log.ensures.stands tells1;
      records = m.records;
      read = kept_manifest old.bytes new (is_sound old.bytes c.in_ok-sum.sum (c.in_ok-sum.ensures.read tells)) keeps ∙ m.read;
      live_is = m.live_is;
    }

pub returns-clause-durable : goal.returns-clause-durable
returns-clause-durable g c tells before =
    let disk = g.D.Disk.disk in
    let now = same_file (disk c.args.disk.now) (disk c.read_manifest.new.disk) 0 (c.read_manifest.ensures.same tells) in
    c.in_ok-log.ensures.durable (rises_tells _ _ _ c.read_manifest.ensures.rises tells) (subst (λ (f : File). IsAtRest f ⊎ (f.bytes ≡ [])) (sym now) before)

pub returns-clause-any_moment : goal.returns-clause-any_moment
returns-clause-any_moment g c tells =
    let disk = g.D.Disk.disk in
    opened_moments (disk c.args.disk.now) (disk c.read_manifest.new.disk) (disk c.open.new.disk) (c.read_manifest.ensures.same tells)
    (is_sound (file_of (disk c.args.disk.now) 0).bytes c.in_ok-sum.sum (c.in_ok-sum.ensures.read tells))
    (c.open.ensures.any_moment (rises_tells _ _ _ c.read_manifest.ensures.rises tells))
