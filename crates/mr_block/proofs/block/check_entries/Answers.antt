use Rattle.std.proofs.Common.{◌≡◌, ◌+◌, ◌*◌, ◌-◌, ℕ, ◌∙◌, ap, sym, arith}
use Rattle.mr_block.specs.Block.{entries_in, outcome}
use Rattle.mr_block.specs.Given.{version_of}
use Rattle.mr_block.proofs.Entries.{wrong_place, broken_entry, good_entry}
use Rattle.mr_block.proofs.block.check_entries.Goals as goal

pub returns-then-place_at-block-clause-err : goal.returns-then-place_at-block-clause-err
returns-then-place_at-block-clause-err c =
    c.checking.invariant.same ∙ wrong_place c.args.block.now c.args.count c.checking.i (4 + 4 * c.checking.i) c.checking.rest.now c.checking-test.true (λ same. omega (arith, same, c.place_at.ensures, c.if-place_at-block.true))

pub returns-in-Err-clause-err : goal.returns-in-Err-clause-err
returns-in-Err-clause-err c =
    c.checking.invariant.same ∙ broken_entry c.args.block.now c.args.count c.checking.i (4 + 4 * c.checking.i) c.checking.rest.now c.checking-test.true c.in-Err.left (sym c.place_at.ensures ∙ c.if-place_at-block.false) c.in-Err.ensures.read

pub checking-preserved : goal.checking-preserved
checking-preserved c =
    let up : (4 + 4 * c.checking.i) + 4 ≡ 4 + 4 * (c.checking.i + 1) = omega arith in
    record {
      within = omega (arith, c.in-Ok.ensures.rest, c.checking.invariant.within);
      same = c.checking.invariant.same
          ∙ good_entry c.args.block.now c.args.count c.checking.i (4 + 4 * c.checking.i) c.checking.rest.now c.checking-test.true (version_of c.in-Ok.field-0-0) c.in-Ok.behind.now (sym c.place_at.ensures ∙ c.if-place_at-block.false) c.in-Ok.ensures.read
          ∙ ap (λ (p : ℕ). outcome (entries_in c.args.block.now (c.args.count - (c.checking.i + 1)) p c.in-Ok.behind.now)) up;
    }
