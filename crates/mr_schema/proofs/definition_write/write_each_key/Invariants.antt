use Rattle.std.proofs.Common.{◌≡◌, ◌++◌, take}
use Rattle.mr_fields.specs.Fields.{listed_bytes}
use Rattle.mr_schema.specs.DefinitionForm.{key_bytes}
use Rattle.std.specs.List.{AllByRecursion}
use Rattle.mr_schema.specs.DefinitionFitting.{KeyHasPlace}
use Rattle.mr_schema.proofs.definition_write.write_each_key.Given as goal

abbrev pub invariant-writing : goal.invariant-writing
invariant-writing l = (l.out.items ≡ l.fn.out.items ++ listed_bytes key_bytes (take l.key-index l.keys)) × AllByRecursion KeyHasPlace (take l.key-index l.keys)
