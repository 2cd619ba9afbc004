use Rattle.std.proofs.Common.{◌≡◌, ⊎_elim, IsTrue, Bool, drop, refl, sym, ◌∙◌, ap, subst, arith}
use Rattle.mr_base.specs.Disk.{Tells, file_of}
use Rattle.mr_base.specs.declared.stop.Stop.TheVariants as stop
use Rattle.mr_base.proofs.Counting.{counts_start}
use Rattle.mr_base.proofs.Moments.{file_weaker}
use Rattle.mr_engine_log.proofs.Replaying.{is_sound}
use Rattle.mr_engine_log.proofs.Opened.{few_reads, nothing_behind, end_behind_all, opened_holds, kept_behind, no_damage_behind}
use Rattle.mr_engine_log.proofs.Stops.{err_is}
use Rattle.mr_engine_log.proofs.log.EngineLog.open.Goals as goal

pub returns-in_err-log-clause-reads : goal.returns-in_err-log-clause-reads
returns-in_err-log-clause-reads g c tells =
    let old = g.D.Disk.disk c.args.disk.now in
    let file = (file_of old c.args.file).bytes in
    few_reads old old (g.D.Disk.disk c.open.new.disk) c.args.left.end file (nothing_behind c.args.left.end file (c.requires.left tells).end) (counts_start old) (c.open.ensures.reads tells)

pub returns-in_err-log-clause-clean : goal.returns-in_err-log-clause-clean
returns-in_err-log-clause-clean g c tells closed =
    let file = (file_of (g.D.Disk.disk c.args.disk.now) c.args.file).bytes in
    let left = c.requires.left tells in
    c.open.ensures.clean tells (ap (λ n. drop n file) (end_behind_all c.args.left.end file left.end ∙ sym left.end) ∙ closed)

pub returns-in_err-log-clause-told : goal.returns-in_err-log-clause-told
returns-in_err-log-clause-told g c tells =
    let file = (file_of (g.D.Disk.disk c.args.disk.now) c.args.file).bytes in
    let left = c.requires.left tells in
    err_is c.from_residual.result c.in_err-log.field-0.0 (λ e. e ≡ stop.Disk) c.from_residual.ensures.1
    (⊎_elim (λ is. is) (λ damage. absurd (no_damage_behind c.args.file c.args.left.end file c.in_err-log.field-0.0 left.end (is_sound c.args.base file _ left.reads) damage)) (c.in_err-log.ensures.damaged tells))

pub returns-in_err-log-clause-any_moment : goal.returns-in_err-log-clause-any_moment
returns-in_err-log-clause-any_moment g c tells =
    let file = (file_of (g.D.Disk.disk c.args.disk.now) c.args.file).bytes in
    file_weaker c.args.file _ _ _ _ (λ f keeps rest. kept_behind c.args.left.end file f (c.requires.left tells).end (keeps rest)) (c.open.ensures.any_moment tells)

pub returns-clause-ready : goal.returns-clause-ready
returns-clause-ready g c =
    let disk = g.D.Disk.disk in
    let is = c.in_ok-log.ensures.is_open in
    record {
      is_open = subst (λ (b : Bool). IsTrue b) (sym is.0) refl;
      verdict = omega arith;
      holds = λ told.
          let tells : Tells (disk c.args.disk.now) = subst (λ (b : Bool). IsTrue b) c.open.ensures.rises.tells told in
          let file = (file_of (disk c.args.disk.now) c.args.file).bytes in
          let left = c.requires.left tells in
          opened_holds c.args.base c.args.left.pending c.args.left.last c.args.left.in_turn left.batches c.args.left.end c.in_ok-log.log c.args.file file (disk c.open.new.disk) is.1
          left.reads (end_behind_all c.args.left.end file left.end) (c.in_ok-log.ensures.end tells) (c.in_ok-log.ensures.stands tells) (c.in_ok-log.ensures.kept tells);
    }

pub returns-clause-end : goal.returns-clause-end
returns-clause-end g c tells =
    let file = (file_of (g.D.Disk.disk c.args.disk.now) c.args.file).bytes in
    let left = c.requires.left tells in
    c.in_ok-log.ensures.end tells ∙ end_behind_all c.args.left.end file left.end ∙ sym left.end

pub returns-clause-kept : goal.returns-clause-kept
returns-clause-kept g c tells =
    let disk = g.D.Disk.disk in
    kept_behind c.args.left.end (file_of (disk c.args.disk.now) c.args.file).bytes (file_of (disk c.open.new.disk) c.args.file).bytes (c.requires.left tells).end (c.in_ok-log.ensures.kept tells)

pub returns-clause-reads : goal.returns-clause-reads
returns-clause-reads g c tells =
    let old = g.D.Disk.disk c.args.disk.now in
    let file = (file_of old c.args.file).bytes in
    few_reads old old (g.D.Disk.disk c.open.new.disk) c.args.left.end file (nothing_behind c.args.left.end file (c.requires.left tells).end) (counts_start old) (c.open.ensures.reads tells)

pub returns-clause-clean : goal.returns-clause-clean
returns-clause-clean g c tells closed =
    let file = (file_of (g.D.Disk.disk c.args.disk.now) c.args.file).bytes in
    let left = c.requires.left tells in
    c.open.ensures.clean tells (ap (λ n. drop n file) (end_behind_all c.args.left.end file left.end ∙ sym left.end) ∙ closed)

pub returns-clause-any_moment : goal.returns-clause-any_moment
returns-clause-any_moment g c tells =
    let file = (file_of (g.D.Disk.disk c.args.disk.now) c.args.file).bytes in
    file_weaker c.args.file _ _ _ _ (λ f keeps rest. kept_behind c.args.left.end file f (c.requires.left tells).end (keeps rest)) (c.open.ensures.any_moment tells)
