use Rattle.std.proofs.Common.{inl, inr, ⊎_elim, [], ◌∷◌, length, drop, ◌∙◌, ◌≡◌, sym, ap, subst}
use Rattle.mr_base.specs.Disk.{file_of, File, IsAtRest}
use Rattle.mr_base.proofs.Moments.{begins, then_same, then_run, same_then, same_file}
use Rattle.mr_base.proofs.Counting.{still_tells, rises_tells, rises_of, rises_then}
use Rattle.mr_gate.specs.Log.{end_from}
use Rattle.mr_gate.specs.Gate.{KeepsLog}
use Rattle.mr_gate.proofs.Repair.{keeps_same}
use Rattle.mr_gate.proofs.gate.GateLog.open.Goals as goal

pub returns-in_err-length-clause-any_moment : goal.returns-in_err-length-clause-any_moment
returns-in_err-length-clause-any_moment g c tells =
    let disk = g.D.Disk.disk in
    let file = c.args.file in
    let old = file_of (disk c.args.disk.now) file in
    let here = begins file (disk c.args.disk.now) _ (λ f left rest. keeps_same (end_from c.args.from old.bytes) old.bytes f (rest f left)) in
    then_same file _ _ (disk c.length.new.self) _ here (c.length.ensures.same tells)

pub returns-in_err-found-clause-any_moment : goal.returns-in_err-found-clause-any_moment
returns-in_err-found-clause-any_moment g c tells =
    let disk = g.D.Disk.disk in
    let file = c.args.file in
    let old = file_of (disk c.args.disk.now) file in
    let here = begins file (disk c.args.disk.now) _ (λ f left rest. keeps_same (end_from c.args.from old.bytes) old.bytes f (rest f left)) in
    let tells1 = still_tells _ _ _ _ _ c.length.ensures.counts tells in
    then_same file _ _ (disk c.find_end.new.disk) _ here (same_then _ _ _ (c.length.ensures.same tells) (c.find_end.ensures.same tells1))

pub returns-clause-any_moment : goal.returns-clause-any_moment
returns-clause-any_moment g c tells =
    let disk = g.D.Disk.disk in
    let file = c.args.file in
    let old = file_of (disk c.args.disk.now) file in
    let mid = file_of (disk c.find_end.new.disk) file in
    let tells1 = still_tells _ _ _ _ _ c.length.ensures.counts tells in
    let tells2 = rises_tells _ _ _ c.find_end.ensures.rises tells1 in
    let same = same_then _ _ _ (c.length.ensures.same tells) (c.find_end.ensures.same tells1) in
    let now : mid ≡ old = same_file _ _ file same in
    let first : file_of (disk c.length.new.self) file ≡ old = same_file _ _ file (c.length.ensures.same tells) in
    let place : c.in_ok-found.found.place ≡ end_from c.args.from old.bytes = (c.in_ok-found.ensures.found tells1).place ∙ ap (λ (f : File). end_from c.args.from f.bytes) first in
    let here = begins file (disk c.args.disk.now) _ (λ f left rest. keeps_same (end_from c.args.from old.bytes) old.bytes f (rest f left)) in
    let read = then_same file _ _ (disk c.find_end.new.disk) _ here same in
    then_run file _ _ _ _ _ read (c.repair.ensures.any_moment tells2) (λ f kept rest.
    subst (λ n. KeepsLog n old.bytes f) place (subst (λ (o : File). KeepsLog c.in_ok-found.found.place o.bytes f) now (kept (subst IsAtRest (sym now) rest))))

pub returns-clause-durable : goal.returns-clause-durable
returns-clause-durable g c tells before =
    let disk = g.D.Disk.disk in
    let file = c.args.file in
    let old = file_of (disk c.args.disk.now) file in
    let tells1 = still_tells _ _ _ _ _ c.length.ensures.counts tells in
    let tells2 = rises_tells _ _ _ c.find_end.ensures.rises tells1 in
    let now : file_of (disk c.find_end.new.disk) file ≡ old = same_file _ _ file (same_then _ _ _ (c.length.ensures.same tells) (c.find_end.ensures.same tells1)) in
    c.in_ok-repair.ensures.durable tells2 (⊎_elim (λ (rest : IsAtRest old). inl (subst IsAtRest (sym now) rest)) (λ (none : old.bytes ≡ []). inr (c.in_ok-length.ensures.length tells ∙ ap length none)) before)

pub returns-clause-clean : goal.returns-clause-clean
returns-clause-clean g c tells alone =
    let disk = g.D.Disk.disk in
    let file = c.args.file in
    let old = file_of (disk c.args.disk.now) file in
    let mid = file_of (disk c.find_end.new.disk) file in
    let tells1 = still_tells _ _ _ _ _ c.length.ensures.counts tells in
    let tells2 = rises_tells _ _ _ c.find_end.ensures.rises tells1 in
    let same = same_then _ _ _ (c.length.ensures.same tells) (c.find_end.ensures.same tells1) in
    let now : mid ≡ old = same_file _ _ file same in
    let first : file_of (disk c.length.new.self) file ≡ old = same_file _ _ file (c.length.ensures.same tells) in
    let place : c.in_ok-found.found.place ≡ end_from c.args.from old.bytes = (c.in_ok-found.ensures.found tells1).place ∙ ap (λ (f : File). end_from c.args.from f.bytes) first in
    let there : drop c.in_ok-found.found.place mid.bytes ≡ 0 ∷ [] = ap (λ (f : File). drop c.in_ok-found.found.place f.bytes) now ∙ ap (λ n. drop n old.bytes) place ∙ alone in
    let clean = c.repair.ensures.clean tells2 there in
    record {
      rises = rises_then 0 0 _ _ _ (rises_then 0 0 _ _ _ (rises_of 0 0 0 _ _ c.length.ensures.counts) c.find_end.ensures.rises) clean.rises;
      same = λ told. same_then _ _ _ same (clean.same tells2);
    }
