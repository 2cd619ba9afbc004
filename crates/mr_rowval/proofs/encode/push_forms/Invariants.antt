use Rattle.std.proofs.Common.{◌≡◌, ◌++◌, take}
use Rattle.mr_memcmp.specs.ComeBack.{parts_unpack}
use Rattle.mr_rowval.proofs.encode.push_forms.Given as goal

abbrev pub invariant-loop-place : goal.invariant-loop-place
invariant-loop-place l = l.out.items ≡ l.fn.out.items ++ parts_unpack l.columns l.values (take l.place-index l.places)
