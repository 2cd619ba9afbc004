use Rattle.std.proofs.Common.{◌∙◌, arith}
use Rattle.mr_run.proofs.Capped.{kept_more, kept_full}
use Rattle.mr_run.proofs.part.Part.keep.Goals as goal

pub returns-in_ok-push-clause-kept : goal.returns-in_ok-push-clause-kept
returns-in_ok-push-clause-kept c = λ all is. c.in_ok-push.ensures.ok ∙ kept_more all c.args.self.now.kept c.args.byte is (omega (arith, c.if-len-lt-MOST_KEPT.true, c.len.ensures))

pub returns-else-len-lt-MOST_KEPT-clause-kept : goal.returns-else-len-lt-MOST_KEPT-clause-kept
returns-else-len-lt-MOST_KEPT-clause-kept c = λ all is. kept_full all c.args.self.now.kept c.args.byte is (omega (arith, c.if-len-lt-MOST_KEPT.false, c.len.ensures))
