use Rattle.std.proofs.Common.{◌≡◌, ◌-◌}
use Rattle.mr_dict_entry.specs.Entries.{numbered_in}
use Rattle.mr_dict_entry.specs.Given.{behind_numbers}
use Rattle.mr_dict_entry.proofs.table.numbered_def.Given as goal

abbrev pub invariant-trying : goal.invariant-trying
invariant-trying l = numbered_in l.name l.most 0 l.value ≡ behind_numbers l.numbers l.offence (numbered_in l.name (l.most - l.keys) l.keys l.rest)
