use Rattle.std.proofs.Common.{◌≡◌, ◌⊎◌, inl, inr, ⊎_elim, ◌+◌, ◌-◌, ◌^◌, ◌≤◌, ◌<◌, [], ℕ, List, length, get_or, drop, refl, ◌∙◌, ap, arith}
use Rattle.std.proofs.lemmas.List.{drop_all, nil_from_length}
use Rattle.mr_base.specs.Disk.{file_of, File}
use Rattle.mr_base.proofs.Counting.{rises_tells, rises_call}
use Rattle.mr_base.proofs.Moments.{same_then, same_file}
use Rattle.mr_gate.proofs.Costs.{reads_head, reads_more}
use Rattle.mr_gate.specs.Log.{size_of}
use Rattle.mr_gate.proofs.Walk.{Ends}
use Rattle.mr_gate.proofs.Find.{found, at_most, passed, damaged, past, empty_found}
use Rattle.mr_gate.proofs.opening.find_end.Goals as goal
use Rattle.mr_gate.proofs.opening.find_end.Goals.{then-size-gt-MAX_BODY-via-then-size-gt-MAX_BODY, then-size-gt-MAX_BODY-via-else-size-gt-MAX_BODY+then-length-place}

pub returns-clause-damaged : goal.returns-clause-damaged
returns-clause-damaged g c tells =
    let bytes = (file_of (g.D.Disk.disk c.args.disk.now) c.args.file).bytes in
    let i = c.loop-place.invariant in
    inr (past c.args.from c.loop-place.place c.loop-place.records bytes (i.walked tells) c.args.file (omega (arith, c.requires tells, c.loop-place-test.false)) (omega (arith, i.some, c.requires tells)))

pub loop-place-preserved : goal.loop-place-preserved
loop-place-preserved g c =
    let disk = g.D.Disk.disk in
    let i = c.loop-place.invariant in
    let bytes = (file_of (disk c.args.disk.now) c.args.file).bytes in
    record {
      counted = omega (arith, i.counted);
      some = omega (arith, i.some);
      rises = rises_call _ _ _ _ _ _ (disk c.head_at.new.disk) i.rises c.head_at.ensures.counts;
      reads = reads_head c.loop-place.records _ _ (disk c.head_at.new.disk) i.reads c.head_at.ensures.counts;
      same = λ tells. same_then _ _ _ (i.same tells) (c.head_at.ensures.same (rises_tells _ _ _ i.rises tells));
      walked = λ tells.
          let tells_now = rises_tells _ _ _ i.rises tells in
          let long : c.args.length ≡ length bytes = c.requires tells in
          let inside : c.loop-place.place < length bytes = omega (arith, c.loop-place-test.true, long) in
          let now : (file_of (disk c.loop-place.disk) c.args.file).bytes ≡ bytes = ap (λ (f : File). f.bytes) (same_file _ _ c.args.file (i.same tells)) in
          let gate : c.in_ok-gate.gate ≡ get_or bytes c.loop-place.place 0 = c.in_ok-gate.ensures.gate tells_now (omega (arith, inside, ap length now)) ∙ ap (λ (l : List ℕ). get_or l c.loop-place.place 0) now in
          let size : c.in_ok-gate.size ≡ size_of (drop (c.loop-place.place + 1) bytes) =
          c.in_ok-gate.ensures.size tells_now (omega (arith, c.if-length-place.false, ap length now, long)) ∙ ap (λ (l : List ℕ). size_of (drop (c.loop-place.place + 1) l)) now in
          passed c.args.from c.loop-place.place c.loop-place.records bytes (i.walked tells) c.in_ok-gate.gate gate inside c.if-gate.false (omega (arith, inside, c.if-is_last.false, long)) c.in_ok-gate.size size c.if-size-gt-MAX_BODY.false (omega (arith, c.if-length-place.false, long));
    }

pub returns-then-gate-clause-found : goal.returns-then-gate-clause-found
returns-then-gate-clause-found g c tells =
    let disk = g.D.Disk.disk in
    let i = c.loop-place.invariant in
    let bytes = (file_of (disk c.args.disk.now) c.args.file).bytes in
    let tells_now = rises_tells _ _ _ i.rises tells in
    let long : c.args.length ≡ length bytes = c.requires tells in
    let inside : c.loop-place.place < length bytes = omega (arith, c.loop-place-test.true, long) in
    let now : (file_of (disk c.loop-place.disk) c.args.file).bytes ≡ bytes = ap (λ (f : File). f.bytes) (same_file _ _ c.args.file (i.same tells)) in
    let gate : c.in_ok-gate.gate ≡ get_or bytes c.loop-place.place 0 = c.in_ok-gate.ensures.gate tells_now (omega (arith, inside, ap length now)) ∙ ap (λ (l : List ℕ). get_or l c.loop-place.place 0) now in
    let ends : Ends c.in_ok-gate.gate (drop (c.loop-place.place + 1) bytes) =
    ⊎_elim (λ shut. inl shut) (λ last. inr (drop_all (c.loop-place.place + 1) bytes (omega (arith, last.1, long)))) c.then-gate.either in
    found c.args.from c.loop-place.place c.loop-place.records bytes (i.walked tells) c.in_ok-gate.gate gate inside _ refl refl refl ends

pub returns-then-size-gt-MAX_BODY-clause-damaged : goal.returns-then-size-gt-MAX_BODY-clause-damaged
returns-then-size-gt-MAX_BODY-clause-damaged g c tells =
    let disk = g.D.Disk.disk in
    let i = c.loop-place.invariant in
    let bytes = (file_of (disk c.args.disk.now) c.args.file).bytes in
    let tells_now = rises_tells _ _ _ i.rises tells in
    let long : c.args.length ≡ length bytes = c.requires tells in
    let inside : c.loop-place.place < length bytes = omega (arith, c.loop-place-test.true, long) in
    let now : (file_of (disk c.loop-place.disk) c.args.file).bytes ≡ bytes = ap (λ (f : File). f.bytes) (same_file _ _ c.args.file (i.same tells)) in
    let gate : c.in_ok-gate.gate ≡ get_or bytes c.loop-place.place 0 = c.in_ok-gate.ensures.gate tells_now (omega (arith, inside, ap length now)) ∙ ap (λ (l : List ℕ). get_or l c.loop-place.place 0) now in
    let size : c.loop-place.place + 5 ≤ length bytes → c.in_ok-gate.size ≡ size_of (drop (c.loop-place.place + 1) bytes) = λ le.
    c.in_ok-gate.ensures.size tells_now (omega (arith, le, ap length now)) ∙ ap (λ (l : List ℕ). size_of (drop (c.loop-place.place + 1) l)) now in
    let bad : (2 ^ 29 < c.in_ok-gate.size) ⊎ (length bytes - c.loop-place.place ≤ c.in_ok-gate.size + 5) = elim c.then-size-gt-MAX_BODY.branch [
      | then-size-gt-MAX_BODY-via-then-size-gt-MAX_BODY w ↦ inl (omega (arith, w.if-size-gt-MAX_BODY.true))
      | then-size-gt-MAX_BODY-via-else-size-gt-MAX_BODY+then-length-place w ↦ inr (omega (arith, w.if-length-place.true, long))
    ] in
    inr (damaged c.args.from c.loop-place.place c.loop-place.records bytes (i.walked tells) c.in_ok-gate.gate gate inside c.if-gate.false (omega (arith, inside, c.if-is_last.false, long)) c.args.file c.in_ok-gate.size size bad)

pub returns-then-length-eq0-clause-found : goal.returns-then-length-eq0-clause-found
returns-then-length-eq0-clause-found g c tells =
    let bytes = (file_of (g.D.Disk.disk c.args.disk.now) c.args.file).bytes in
    let none : bytes ≡ [] = nil_from_length bytes (omega (arith, c.requires tells, c.if-length-eq0.true)) in
    empty_found c.args.from bytes _ c.if-place-eq0.true none refl refl refl

pub returns-clause-reads : goal.returns-clause-reads
returns-clause-reads g c tells =
    let disk = g.D.Disk.disk in
    let bytes = (file_of (disk c.args.disk.now) c.args.file).bytes in
    let i = c.loop-place.invariant in
    reads_more c.loop-place.records _ _ _ (omega (arith, at_most c.args.from c.loop-place.place c.loop-place.records bytes (i.walked tells))) i.reads

pub returns-then-gate-clause-reads : goal.returns-then-gate-clause-reads
returns-then-gate-clause-reads g c tells =
    let disk = g.D.Disk.disk in
    let bytes = (file_of (disk c.args.disk.now) c.args.file).bytes in
    let i = c.loop-place.invariant in
    reads_more (c.loop-place.records + 1) _ _ _ (omega (arith, at_most c.args.from c.loop-place.place c.loop-place.records bytes (i.walked tells))) (reads_head c.loop-place.records _ _ (disk c.head_at.new.disk) i.reads c.head_at.ensures.counts)

pub returns-then-size-gt-MAX_BODY-clause-reads : goal.returns-then-size-gt-MAX_BODY-clause-reads
returns-then-size-gt-MAX_BODY-clause-reads g c tells =
    let disk = g.D.Disk.disk in
    let bytes = (file_of (disk c.args.disk.now) c.args.file).bytes in
    let i = c.loop-place.invariant in
    reads_more (c.loop-place.records + 1) _ _ _ (omega (arith, at_most c.args.from c.loop-place.place c.loop-place.records bytes (i.walked tells))) (reads_head c.loop-place.records _ _ (disk c.head_at.new.disk) i.reads c.head_at.ensures.counts)
