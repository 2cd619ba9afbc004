use Rattle.std.proofs.Common.{ℕ, List, ◌≡◌, ◌+◌, ◌-◌, arith, take, drop}
use Rattle.std.proofs.lemmas.Bool.{ne_eqb}
use Rattle.mr_schema.specs.Said.{said}
use Rattle.mr_schema.proofs.Parts.{ended, goes_on, part_more}
use Rattle.mr_schema.proofs.options.CommentOptions.parse.Goals.{then-byte-eq59+in_ok-options, else-byte-eq59}
use Rattle.mr_schema.proofs.options.CommentOptions.parse.Goals as goal

pub loop-i-preserved : goal.loop-i-preserved
loop-i-preserved c =
    let i : ℕ = c.loop-i.i in
    let text : List ℕ = c.args.text.now in
    let front : List ℕ = take (i - c.loop-i.start) (drop c.loop-i.start text) in
    let none : i + 1 - (i + 1) ≡ 0 = omega arith in
    elim c.if-byte-eq59.branch [
      | then-byte-eq59+in_ok-options w ↦ rw (w.options-is, w.start-is) (record {
        inside = omega arith;
        parts = rw none (ended (said c.loop-i.options) (said w.in_ok-options.options) front text i _ c.loop-i-test.true w.if-byte-eq59.true w.in_ok-options.ensures c.loop-i.invariant.parts);
      })
      | else-byte-eq59 w ↦ rw (w.options-is, w.start-is) (record {
        inside = omega (arith, c.loop-i.invariant.inside);
        parts = rw (part_more text c.loop-i.start i c.loop-i.invariant.inside c.loop-i-test.true)
            (goes_on (said c.loop-i.options) front text i _ c.loop-i-test.true (ne_eqb _ 59 w.if-byte-eq59.false) c.loop-i.invariant.parts);
      })
    ]
