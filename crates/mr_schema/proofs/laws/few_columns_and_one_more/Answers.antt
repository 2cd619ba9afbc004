use Rattle.mr_schema.proofs.FewRead.{few_and_one}
use Rattle.mr_schema.proofs.laws.few_columns_and_one_more.Goals as goal

pub returns : goal.returns
returns c = λ commits c h g. few_and_one commits c h g
