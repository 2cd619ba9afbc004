use Rattle.mr_schema.proofs.FewRead.{read_few}
use Rattle.mr_schema.proofs.laws.read_definitions_are_few.Goals as goal

pub returns : goal.returns
returns c = λ bytes rest def e. read_few bytes rest def e
