use Rattle.std.proofs.Common.{◌≡◌, ◌++◌, drop}
use Rattle.byteorder.specs.Endian.{big_bytes}
use Rattle.mr_fields.specs.Fields.{listed_bytes}
use Rattle.mr_dict_entry.proofs.write.write_numbers.Given as goal

abbrev pub invariant-writing : goal.invariant-writing
invariant-writing l = l.out.items ++ listed_bytes (big_bytes 4) (drop l.number-index l.numbers) ≡ l.fn.out.items ++ listed_bytes (big_bytes 4) l.numbers
