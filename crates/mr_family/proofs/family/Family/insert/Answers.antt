use Rattle.std.specs.Option.{option_map}
use Rattle.mr_iter.specs.Versions.{as_version}
use Rattle.mr_family.proofs.Wholes.{inserted}
use Rattle.mr_family.proofs.family.Family.insert.Goals as goal

pub returns-clause-versions : goal.returns-clause-versions
returns-clause-versions c = λ image. inserted c.place_in_first_child.ensures c.self.inside.memtable c.insert.new.self c.self.inside.levels c.self.inside.cache c.args.self.now (as_version c.args.key.now c.args.sequence (option_map (λ v. v.now) c.args.put)) image c.self.view_is c.self.invariant c.insert.ensures.versions
