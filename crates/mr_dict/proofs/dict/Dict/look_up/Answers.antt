use Rattle.mr_dict_entry.specs.Entries.{kinded_key}
use Rattle.mr_dict.specs.Dictionary.{is_at}
use Rattle.mr_dict.proofs.Scanning.{told, not_told}
use Rattle.mr_dict.proofs.dict.Dict.look_up.Goals as goal

pub returns-in-Some : goal.returns-in-Some
returns-in-Some c = told (is_at (kinded_key c.args.kind c.args.rest.now)) c.args.self.now c.in-Some.at c.entry.result.now c.in-Some.ensures c.entry.ensures

pub returns-in-None : goal.returns-in-None
returns-in-None c = not_told (is_at (kinded_key c.args.kind c.args.rest.now)) c.args.self.now c.in-None.ensures
