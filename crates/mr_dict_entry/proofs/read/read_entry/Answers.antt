use Rattle.mr_fields.proofs.FieldLaws.{all_bytes}
use Rattle.mr_fields.proofs.Reading.{of_ok}
use Rattle.mr_dict_entry.specs.Entries.{entry_in}
use Rattle.mr_dict_entry.proofs.EntryLaws.{IsEntry, entry_only}
use Rattle.mr_dict_entry.proofs.read.read_entry.Goals as goal

pub returns-in-Ok-clause-form : goal.returns-in-Ok-clause-form
returns-in-Ok-clause-form c =
    of_ok (IsEntry c.args.key.now c.args.value.now) (entry_in c.args.key.now c.args.value.now) c.in-Ok.entry
    (entry_only c.args.key.now c.args.value.now (all_bytes c.args.key.now c.type_inv.key) (all_bytes c.args.value.now c.type_inv.value)) c.in-Ok.ensures
