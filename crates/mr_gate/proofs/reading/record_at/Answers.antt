use Rattle.std.proofs.Common.{◌≡◌, ◌+◌, ◌∷◌, ℕ, List, length, get_or, take, drop, sym, ◌∙◌, ap, subst, arith, Result, Option, Vec, IfOk, IsSomeAnd}
use Rattle.std.specs.declared.alloc.Global.{Global}
use Rattle.mr_base.specs.declared.stop.Stop.{Stop}
use Rattle.mr_base.specs.Disk.{file_of, File}
use Rattle.mr_base.proofs.Counting.{still_tells}
use Rattle.mr_base.proofs.Moments.{same_file}
use Rattle.mr_gate.specs.Log.{records_from, size_of}
use Rattle.mr_gate.proofs.Bytes.{length_closed}
use Rattle.mr_gate.proofs.Costs.{reads_next}
use Rattle.mr_gate.proofs.Find.{next_at, no_records}
use Rattle.mr_gate.proofs.reading.record_at.Goals as goal
use Rattle.mr_gate.proofs.reading.record_at.Goals.{then-gate-via-then-gate, then-gate-via-else-gate+then-size-gt-MAX_BODY, then-gate-via-else-gate+else-size-gt-MAX_BODY+then-left-taken}

pub returns-then-at-end-clause-read : goal.returns-then-at-end-clause-read
returns-then-at-end-clause-read g c tells ends = no_records _ (omega (arith, ends, c.if-at-end.true))

pub returns-then-gate-clause-err : goal.returns-then-gate-clause-err
returns-then-gate-clause-err g c tells ends =
    let bytes = (file_of (g.D.Disk.disk c.args.disk.now) c.args.file).bytes in
    let long = length_closed c.args.end bytes (c.requires tells) in
    let next = next_at c.args.at c.args.end bytes (omega (arith, long)) ends c.if-at-end.false in
    let gate : c.in_ok-gate.gate ≡ get_or bytes c.args.at 0 = c.in_ok-gate.ensures.gate tells (omega (arith, long, next.room)) in
    let size : c.in_ok-gate.size ≡ size_of (drop (c.args.at + 1) bytes) = c.in_ok-gate.ensures.size tells (omega (arith, long, next.room)) in
    absurd (elim c.then-gate.branch [
      | then-gate-via-then-gate w ↦ w.if-gate.true (gate ∙ next.gate)
      | then-gate-via-else-gate+then-size-gt-MAX_BODY w ↦ omega (arith, w.if-size-gt-MAX_BODY.true, size, next.small)
      | then-gate-via-else-gate+else-size-gt-MAX_BODY+then-left-taken w ↦ omega (arith, w.if-left-taken.true, size, next.room, c.saturating_sub-left.ensures)
    ])

pub returns-in-Some-clause-read : goal.returns-in-Some-clause-read
returns-in-Some-clause-read g c tells ends =
    let disk = g.D.Disk.disk in
    let bytes = (file_of (disk c.args.disk.now) c.args.file).bytes in
    let long = length_closed c.args.end bytes (c.requires tells) in
    let next = next_at c.args.at c.args.end bytes (omega (arith, long)) ends c.if-at-end.false in
    let size : c.in_ok-gate.size ≡ size_of (drop (c.args.at + 1) bytes) = c.in_ok-gate.ensures.size tells (omega (arith, long, next.room)) in
    let now : (file_of (disk c.head_at.new.disk) c.args.file).bytes ≡ bytes = ap (λ (f : File). f.bytes) (same_file _ _ c.args.file (c.head_at.ensures.same tells)) in
    let count = c.in_ok-gate.size in
    let place = c.args.at + 5 in
    let there = (file_of (disk c.head_at.new.disk) c.args.file).bytes in
    let all = c.bytes_at.ensures.read (still_tells _ _ _ _ _ c.head_at.ensures.counts tells) (omega (arith, ap length now, long, size, next.room)) in
    let some : IsSomeAnd c.in_ok-body.field-0 (λ v. v.items ≡ take count (drop place there)) = subst (λ (r : Result (Option (Vec ℕ Global)) Stop). IfOk r (λ o. IsSomeAnd o (λ v. v.items ≡ take count (drop place there)))) c.in_ok-body.was all in
    let items : c.in-Some.body.items ≡ take count (drop place there) = subst (λ (o : Option (Vec ℕ Global)). IsSomeAnd o (λ v. v.items ≡ take count (drop place there))) c.in-Some.is some in
    let body : c.from_vec.result ≡ take (size_of (drop (c.args.at + 1) bytes)) (drop place bytes) =
    c.from_vec.ensures ∙ items ∙ ap (λ (l : List ℕ). take count (drop place l)) now ∙ ap (λ n. take n (drop place bytes)) size in (
      next.records ∙ ap (λ (b : List ℕ). b ∷ records_from (c.args.at + (size_of (drop (c.args.at + 1) bytes) + 5)) bytes) (sym body) ∙ ap (λ n. c.from_vec.result ∷ records_from (c.args.at + (n + 5)) bytes) (sym size),
      omega (arith, ap length body, next.body, size),
    )

pub returns-in_err-body-clause-cost : goal.returns-in_err-body-clause-cost
returns-in_err-body-clause-cost g c tells ends =
    let bytes = (file_of (g.D.Disk.disk c.args.disk.now) c.args.file).bytes in
    let long = length_closed c.args.end bytes (c.requires tells) in
    let next = next_at c.args.at c.args.end bytes (omega (arith, long)) ends c.if-at-end.false in
    let size : c.in_ok-gate.size ≡ size_of (drop (c.args.at + 1) bytes) = c.in_ok-gate.ensures.size tells (omega (arith, long, next.room)) in
    reads_next c.args.at c.args.end c.in_ok-gate.size bytes _ _ _ next size c.head_at.ensures.counts c.bytes_at.ensures.counts

pub returns-in-Some-clause-cost : goal.returns-in-Some-clause-cost
returns-in-Some-clause-cost g c tells ends =
    let bytes = (file_of (g.D.Disk.disk c.args.disk.now) c.args.file).bytes in
    let long = length_closed c.args.end bytes (c.requires tells) in
    let next = next_at c.args.at c.args.end bytes (omega (arith, long)) ends c.if-at-end.false in
    let size : c.in_ok-gate.size ≡ size_of (drop (c.args.at + 1) bytes) = c.in_ok-gate.ensures.size tells (omega (arith, long, next.room)) in
    reads_next c.args.at c.args.end c.in_ok-gate.size bytes _ _ _ next size c.head_at.ensures.counts c.bytes_at.ensures.counts
