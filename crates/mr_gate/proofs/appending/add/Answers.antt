use Rattle.std.proofs.Common.{◌∷◌, [], ℕ, List, inl, ◌∙◌, ap, subst}
use Rattle.std.proofs.lemmas.Result.{on_ok_weaker}
use Rattle.mr_base.specs.Disk.{Torn, file_of, overwrite}
use Rattle.mr_base.proofs.Counting.{still_tells}
use Rattle.mr_base.proofs.Moments.{file_weaker, then_run}
use Rattle.mr_gate.proofs.Crash.{front_closed, gate_torn, gate_opened, gate_bytes, gate_ends}
use Rattle.mr_gate.proofs.appending.add.Goals as goal

-- behind the closed gate the records stay
pub returns-in_err-stage-clause-any_moment : goal.returns-in_err-stage-clause-any_moment
returns-in_err-stage-clause-any_moment g c tells =
    let disk = g.D.Disk.disk in
    let file = c.args.file in
    let old = file_of (disk c.args.disk.now) file in
    let bytes = (g.met.D.Disk.read_may_be_left c.args.disk.now file tells).are_bytes in
    file_weaker file _ _ _ _ (λ f same rest from bodies log ends. inl (front_closed from c.args.place bodies old.bytes f bytes log ends (c.requires.closed tells) (same rest))) (c.stage.ensures.any_moment tells)

pub returns-clause-any_moment : goal.returns-clause-any_moment
returns-clause-any_moment g c tells =
    let disk = g.D.Disk.disk in
    let file = c.args.file in
    let old = file_of (disk c.args.disk.now) file in
    let bytes = (g.met.D.Disk.read_may_be_left c.args.disk.now file tells).are_bytes in
    let first = file_weaker file _ _ _ _ (λ f same rest from bodies log ends. inl (front_closed from c.args.place bodies old.bytes f bytes log ends (c.requires.closed tells) (same rest))) (c.stage.ensures.any_moment tells) in
    then_run file _ _ _ _ _ first (c.set_gate.ensures.any_moment (still_tells _ _ _ _ _ c.stage.ensures.counts tells)) (λ f torn rest.
    gate_torn c.args.place c.args.body.now old.bytes (c.requires.closed tells) bytes c.requires.short f (subst (λ (l : List ℕ). Torn c.args.place 1 l f) (c.in_ok-stage.ensures.staged tells) (torn (c.in_ok-stage.ensures.durable tells))))

pub returns-clause-added : goal.returns-clause-added
returns-clause-added g c tells =
    let disk = g.D.Disk.disk in
    let file = c.args.file in
    let old = file_of (disk c.args.disk.now) file in
    let bytes = (g.met.D.Disk.read_may_be_left c.args.disk.now file tells).are_bytes in
    on_ok_weaker c.set_gate.result (λ opened. gate_opened c.args.place c.args.body.now old.bytes (c.requires.closed tells) bytes c.requires.short (file_of (disk c.set_gate.new.disk) file).bytes
    (opened ∙ ap (λ (l : List ℕ). overwrite c.args.place (167 ∷ []) l) (c.in_ok-stage.ensures.staged tells))) (c.set_gate.ensures.written (still_tells _ _ _ _ _ c.stage.ensures.counts tells))

pub returns-clause-ends : goal.returns-clause-ends
returns-clause-ends g c tells =
    let disk = g.D.Disk.disk in
    let file = c.args.file in
    let old = file_of (disk c.args.disk.now) file in
    on_ok_weaker c.set_gate.result (λ opened. gate_ends c.args.place c.args.body.now old.bytes (c.requires.closed tells) (file_of (disk c.set_gate.new.disk) file).bytes
    (opened ∙ ap (λ (l : List ℕ). overwrite c.args.place (167 ∷ []) l) (c.in_ok-stage.ensures.staged tells))) (c.set_gate.ensures.written (still_tells _ _ _ _ _ c.stage.ensures.counts tells))

pub returns-clause-bytes : goal.returns-clause-bytes
returns-clause-bytes g c tells =
    let disk = g.D.Disk.disk in
    let file = c.args.file in
    let old = file_of (disk c.args.disk.now) file in
    on_ok_weaker c.set_gate.result (λ opened. gate_bytes c.args.place c.args.body.now old.bytes (c.requires.closed tells) (file_of (disk c.set_gate.new.disk) file).bytes
    (opened ∙ ap (λ (l : List ℕ). overwrite c.args.place (167 ∷ []) l) (c.in_ok-stage.ensures.staged tells))) (c.set_gate.ensures.written (still_tells _ _ _ _ _ c.stage.ensures.counts tells))
