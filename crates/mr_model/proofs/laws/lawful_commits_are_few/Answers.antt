use Rattle.std.proofs.Common.{[]}
use Rattle.mr_model.proofs.FewLawful.{few_lawful}
use Rattle.mr_model.proofs.laws.lawful_commits_are_few.Goals as goal

pub returns : goal.returns
returns c = λ commits. few_lawful 0 [] commits
