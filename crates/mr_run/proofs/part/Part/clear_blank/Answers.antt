use Rattle.std.proofs.Common.{◌∙◌, Bool, [], sym, ap, if◌then◌else◌}
use Rattle.mr_lex.specs.Pieces.{is_two_dashes}
use Rattle.mr_run.proofs.Capped.{cleared}
use Rattle.mr_run.proofs.part.Part.clear_blank.Goals as goal

pub returns-then-not-is_two_dashes-clause-kept : goal.returns-then-not-is_two_dashes-clause-kept
returns-then-not-is_two_dashes-clause-kept c = λ all is. cleared all c.args.self.now.kept c.empty.new.bytes c.is_two_dashes.result is (c.is_two_dashes.ensures ∙ ap is_two_dashes c.as_slice.ensures) (c.empty.ensures ∙ ap (λ (t : Bool). if t then c.args.self.now.kept else []) (sym c.if-not-is_two_dashes.true))

pub returns-else-not-is_two_dashes-clause-kept : goal.returns-else-not-is_two_dashes-clause-kept
returns-else-not-is_two_dashes-clause-kept c = λ all is. cleared all c.args.self.now.kept c.args.self.now.kept c.is_two_dashes.result is (c.is_two_dashes.ensures ∙ ap is_two_dashes c.as_slice.ensures) (ap (λ (t : Bool). if t then c.args.self.now.kept else []) (sym c.if-not-is_two_dashes.false))
