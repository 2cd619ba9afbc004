use Rattle.std.proofs.Common.{◌≡◌, ◌+◌, ◌≤◌, ◌<◌, [], ℕ, List, length, take, sym, ◌∙◌, ap, subst, arith}
use Rattle.std.proofs.lemmas.List.{nil_from_length, length-take-le}
use Rattle.std.proofs.lemmas.Result.{on_ok_weaker}
use Rattle.mr_base.specs.Disk.{file_of}
use Rattle.mr_base.proofs.Counting.{still_tells}
use Rattle.mr_base.proofs.Moments.{begins, file_weaker, then_run}
use Rattle.mr_gate.specs.Gate.{KeepsLog}
use Rattle.mr_gate.proofs.Repair.{closed_bytes, cut_bytes, alone_bytes, empty_closed, cut_keeps, cut_done, close_keeps, closed_keeps, empty_keeps, keeps_then, keeps_same}
use Rattle.mr_gate.proofs.opening.repair.Goals as goal

pub returns-then-length-eq0-clause-any_moment : goal.returns-then-length-eq0-clause-any_moment
returns-then-length-eq0-clause-any_moment g c tells =
    let disk = g.D.Disk.disk in
    let file = c.args.file in
    let old = file_of (disk c.args.disk.now) file in
    let bytes = (g.met.D.Disk.read_may_be_left c.args.disk.now file tells).are_bytes in
    let long : c.args.length ≡ length old.bytes = c.requires.length tells in
    let none : old.bytes ≡ [] = nil_from_length old.bytes (omega (arith, long, c.if-length-eq0.true)) in
    let start : c.args.end ≡ 0 = omega (arith, c.requires.inside, c.if-length-eq0.true) in
    let keeps : (f : List ℕ) → length f ≤ 1 → KeepsLog c.args.end old.bytes f = λ f short. subst (λ (l : List ℕ). KeepsLog c.args.end l f) (sym none) (subst (λ n. KeepsLog n [] f) (sym start) (empty_keeps f short)) in
    file_weaker file _ _ _ _ (λ f torn rest. keeps f (omega (arith, (torn rest).no_longer, long, start, c.if-length-eq0.true))) (c.set_gate.ensures.any_moment tells)

pub returns-then-length-eq0-clause-kept : goal.returns-then-length-eq0-clause-kept
returns-then-length-eq0-clause-kept g c tells =
    let disk = g.D.Disk.disk in
    let file = c.args.file in
    let old = file_of (disk c.args.disk.now) file in
    let bytes = (g.met.D.Disk.read_may_be_left c.args.disk.now file tells).are_bytes in
    let long : c.args.length ≡ length old.bytes = c.requires.length tells in
    let none : old.bytes ≡ [] = nil_from_length old.bytes (omega (arith, long, c.if-length-eq0.true)) in
    let start : c.args.end ≡ 0 = omega (arith, c.requires.inside, c.if-length-eq0.true) in
    let keeps : (f : List ℕ) → length f ≤ 1 → KeepsLog c.args.end old.bytes f = λ f short. subst (λ (l : List ℕ). KeepsLog c.args.end l f) (sym none) (subst (λ n. KeepsLog n [] f) (sym start) (empty_keeps f short)) in
    on_ok_weaker c.set_gate.result (λ written. keeps (file_of (disk c.set_gate.new.disk) file).bytes (empty_closed c.args.end old.bytes _ none start written)) (c.set_gate.ensures.written tells)

pub returns-then-gate-eq-CLOSED-clause-any_moment : goal.returns-then-gate-eq-CLOSED-clause-any_moment
returns-then-gate-eq-CLOSED-clause-any_moment g c tells =
    let disk = g.D.Disk.disk in
    let file = c.args.file in
    let old = file_of (disk c.args.disk.now) file in
    let bytes = (g.met.D.Disk.read_may_be_left c.args.disk.now file tells).are_bytes in
    let long : c.args.length ≡ length old.bytes = c.requires.length tells in
    begins file _ _ (λ f left rest. keeps_same c.args.end old.bytes f (rest f left))

pub returns-in_err-cut_tail-clause-any_moment : goal.returns-in_err-cut_tail-clause-any_moment
returns-in_err-cut_tail-clause-any_moment g c tells =
    let disk = g.D.Disk.disk in
    let file = c.args.file in
    let old = file_of (disk c.args.disk.now) file in
    let bytes = (g.met.D.Disk.read_may_be_left c.args.disk.now file tells).are_bytes in
    let long : c.args.length ≡ length old.bytes = c.requires.length tells in
    let inside : c.args.end < c.args.length = omega (arith, c.requires.inside, c.if-length-eq0.false) in
    file_weaker file _ _ _ _ (λ f cut rest. cut_keeps c.args.end old.bytes f bytes (omega (arith, inside, long)) (c.requires.ends tells inside) (cut rest)) (c.cut_tail.ensures.any_moment tells)

pub returns-clause-any_moment : goal.returns-clause-any_moment
returns-clause-any_moment g c tells =
    let disk = g.D.Disk.disk in
    let file = c.args.file in
    let old = file_of (disk c.args.disk.now) file in
    let bytes = (g.met.D.Disk.read_may_be_left c.args.disk.now file tells).are_bytes in
    let long : c.args.length ≡ length old.bytes = c.requires.length tells in
    let inside : c.args.end < c.args.length = omega (arith, c.requires.inside, c.if-length-eq0.false) in
    let tells1 = still_tells _ _ _ _ _ c.cut_tail.ensures.counts tells in
    let mid = file_of (disk c.cut_tail.new.disk) file in
    let mid_is : mid.bytes ≡ take (c.args.end + 1) old.bytes = c.in_ok-cut_tail.ensures.cut tells in
    let mid_long : length mid.bytes ≡ c.args.end + 1 = ap length mid_is ∙ length-take-le (c.args.end + 1) old.bytes (omega (arith, inside, long)) in
    let mid_bytes = (g.met.D.Disk.read_may_be_left c.cut_tail.new.disk file tells1).are_bytes in
    let kept : KeepsLog c.args.end old.bytes mid.bytes = subst (λ (l : List ℕ). KeepsLog c.args.end old.bytes l) (sym mid_is)
    (cut_keeps c.args.end old.bytes (take (c.args.end + 1) old.bytes) bytes (omega (arith, inside, long)) (c.requires.ends tells inside) (cut_done (c.args.end + 1) old.bytes (omega (arith, inside, long)))) in
    then_run file _ _ _ _ _ (file_weaker file _ _ _ _ (λ f cut rest. cut_keeps c.args.end old.bytes f bytes (omega (arith, inside, long)) (c.requires.ends tells inside) (cut rest)) (c.cut_tail.ensures.any_moment tells)) (c.set_gate-2.ensures.any_moment tells1) (λ f torn rest.
    keeps_then c.args.end old.bytes mid.bytes f kept (close_keeps c.args.end mid.bytes f mid_bytes mid_long (torn (c.in_ok-cut_tail.ensures.durable tells))))

pub returns-clause-kept : goal.returns-clause-kept
returns-clause-kept g c tells =
    let disk = g.D.Disk.disk in
    let file = c.args.file in
    let old = file_of (disk c.args.disk.now) file in
    let bytes = (g.met.D.Disk.read_may_be_left c.args.disk.now file tells).are_bytes in
    let long : c.args.length ≡ length old.bytes = c.requires.length tells in
    let inside : c.args.end < c.args.length = omega (arith, c.requires.inside, c.if-length-eq0.false) in
    let tells1 = still_tells _ _ _ _ _ c.cut_tail.ensures.counts tells in
    let mid = file_of (disk c.cut_tail.new.disk) file in
    let mid_is : mid.bytes ≡ take (c.args.end + 1) old.bytes = c.in_ok-cut_tail.ensures.cut tells in
    let mid_long : length mid.bytes ≡ c.args.end + 1 = ap length mid_is ∙ length-take-le (c.args.end + 1) old.bytes (omega (arith, inside, long)) in
    let mid_bytes = (g.met.D.Disk.read_may_be_left c.cut_tail.new.disk file tells1).are_bytes in
    let kept : KeepsLog c.args.end old.bytes mid.bytes = subst (λ (l : List ℕ). KeepsLog c.args.end old.bytes l) (sym mid_is)
    (cut_keeps c.args.end old.bytes (take (c.args.end + 1) old.bytes) bytes (omega (arith, inside, long)) (c.requires.ends tells inside) (cut_done (c.args.end + 1) old.bytes (omega (arith, inside, long)))) in
    on_ok_weaker c.set_gate-2.result (λ written. keeps_then c.args.end old.bytes mid.bytes (file_of (disk c.set_gate-2.new.disk) file).bytes kept
    (closed_keeps c.args.end mid.bytes (file_of (disk c.set_gate-2.new.disk) file).bytes mid_bytes mid_long written)) (c.set_gate-2.ensures.written tells1)

pub returns-then-length-eq0-clause-bytes : goal.returns-then-length-eq0-clause-bytes
returns-then-length-eq0-clause-bytes g c tells =
    let disk = g.D.Disk.disk in
    let file = c.args.file in
    let old = file_of (disk c.args.disk.now) file in
    let long : c.args.length ≡ length old.bytes = c.requires.length tells in
    on_ok_weaker c.set_gate.result (λ written. closed_bytes c.args.end old.bytes (file_of (disk c.set_gate.new.disk) file).bytes (omega (arith, long, c.if-length-eq0.true)) written) (c.set_gate.ensures.written tells)

pub returns-then-gate-eq-CLOSED-clause-bytes : goal.returns-then-gate-eq-CLOSED-clause-bytes
returns-then-gate-eq-CLOSED-clause-bytes g c tells =
    let old = file_of (g.D.Disk.disk c.args.disk.now) c.args.file in
    let long : c.args.length ≡ length old.bytes = c.requires.length tells in
    let inside : c.args.end < c.args.length = omega (arith, c.requires.inside, c.if-length-eq0.false) in
    alone_bytes c.args.end c.args.gate old.bytes (omega (arith, long, c.if-length-end-eq1.true)) (c.requires.gate tells inside) c.if-gate-eq-CLOSED.true

pub returns-clause-bytes : goal.returns-clause-bytes
returns-clause-bytes g c tells =
    let disk = g.D.Disk.disk in
    let file = c.args.file in
    let old = file_of (disk c.args.disk.now) file in
    let long : c.args.length ≡ length old.bytes = c.requires.length tells in
    let inside : c.args.end < length old.bytes = omega (arith, c.requires.inside, c.if-length-eq0.false, long) in
    let tells1 = still_tells _ _ _ _ _ c.cut_tail.ensures.counts tells in
    on_ok_weaker c.set_gate-2.result (λ written. cut_bytes c.args.end old.bytes (file_of (disk c.cut_tail.new.disk) file).bytes (file_of (disk c.set_gate-2.new.disk) file).bytes inside (c.in_ok-cut_tail.ensures.cut tells) written) (c.set_gate-2.ensures.written tells1)
