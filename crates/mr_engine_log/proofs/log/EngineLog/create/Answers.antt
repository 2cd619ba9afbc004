use Rattle.std.proofs.Common.{◌≡◌, ⊎_elim, ℕ, List, [], None, true, IsTrue, Bool, refl, sym, ◌∙◌, ap, subst, arith}
use Rattle.mr_base.specs.Disk.{Tells, file_of}
use Rattle.mr_base.specs.declared.stop.Stop.TheVariants as stop
use Rattle.mr_base.proofs.Counting.{still_tells}
use Rattle.mr_gate.specs.Log.{records_from, IsLog}
use Rattle.mr_gate.proofs.Laws.{empty_log, no_damage}
use Rattle.mr_engine_log.specs.Logged.{log_of}
use Rattle.mr_engine_log.proofs.Opened.{empty_file, few_reads, opened_holds}
use Rattle.mr_engine_log.proofs.Stops.{err_is}
use Rattle.mr_engine_log.proofs.log.EngineLog.create.Goals as goal

pub returns-in_err-log-clause-reads : goal.returns-in_err-log-clause-reads
returns-in_err-log-clause-reads g c tells =
    let disk = g.D.Disk.disk in
    let file = (file_of (disk c.cut.new.self) c.args.file).bytes in
    let none : records_from 0 file ≡ [] = ap (records_from 0) (c.in_ok-cut.ensures.cut tells) ∙ empty_log.records in
    few_reads (disk c.args.disk.now) (disk c.cut.new.self) (disk c.open.new.disk) 0 file none c.cut.ensures.counts (c.open.ensures.reads (still_tells 0 0 0 _ _ c.cut.ensures.counts tells))

pub returns-in_err-log-clause-told : goal.returns-in_err-log-clause-told
returns-in_err-log-clause-told g c tells =
    let disk = g.D.Disk.disk in
    let file = (file_of (disk c.cut.new.self) c.args.file).bytes in
    let empty : IsLog 0 [] file = subst (λ (f : List ℕ). IsLog 0 [] f) (sym (c.in_ok-cut.ensures.cut tells)) empty_log in
    err_is c.from_residual-in_err-log.result c.in_err-log.field-0.0 (λ e. e ≡ stop.Disk) c.from_residual-in_err-log.ensures.1
    (⊎_elim (λ is. is) (λ damage. absurd (no_damage c.args.file 0 [] file c.in_err-log.field-0.0 empty damage)) (c.in_err-log.ensures.damaged (still_tells 0 0 0 _ _ c.cut.ensures.counts tells)))

pub returns-clause-ready : goal.returns-clause-ready
returns-clause-ready g c =
    let disk = g.D.Disk.disk in
    let is = c.in_ok-log.ensures.is_open in
    record {
      is_open = subst (λ (b : Bool). IsTrue b) (sym is.0) refl;
      verdict = omega arith;
      holds = λ told.
          let mid : Tells (disk c.cut.new.self) = subst (λ (b : Bool). IsTrue b) c.open.ensures.rises.tells told in
          let before : Tells (disk c.args.disk.now) = subst (λ (b : Bool). IsTrue b) c.cut.ensures.counts.tells mid in
          let file = (file_of (disk c.cut.new.self) c.args.file).bytes in
          opened_holds c.args.base None c.args.base true [] 0 c.in_ok-log.log c.args.file file (disk c.open.new.disk) is.1
          (ap (log_of c.args.base) (c.in_ok-cut.ensures.cut before) ∙ empty_file c.args.base) refl (c.in_ok-log.ensures.end mid) (c.in_ok-log.ensures.stands mid) (c.in_ok-log.ensures.kept mid);
    }
