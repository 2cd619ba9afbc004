use Rattle.std.proofs.Common.{◌≡◌, subst, List, true, Some, None}
use Rattle.std.specs.List.{position}
use Rattle.mr_dict_entry.specs.declared.entry.DictEntry.{DictEntry}
use Rattle.mr_dict.specs.Dictionary.{are_ordered}
use Rattle.mr_dict.specs.Lookups.{is_wanted}
use Rattle.mr_dict.proofs.Scanning.{told, not_told}
use Rattle.mr_dict.proofs.dict.Dict.first_entry.Goals as goal

pub returns-in-Some : goal.returns-in-Some
returns-in-Some c = told (is_wanted c.args.wanted.now) c.args.self.now c.in-Some.at c.entry.result.now
    (subst (λ (es : List DictEntry). are_ordered es ≡ true → Some c.in-Some.at ≡ position (is_wanted c.args.wanted.now) es) c.as_slice.ensures.entries c.in-Some.ensures c.as_slice.ensures.ordered) c.entry.ensures

pub returns-in-None : goal.returns-in-None
returns-in-None c = not_told (is_wanted c.args.wanted.now) c.args.self.now
    (subst (λ (es : List DictEntry). are_ordered es ≡ true → None ≡ position (is_wanted c.args.wanted.now) es) c.as_slice.ensures.entries c.in-None.ensures c.as_slice.ensures.ordered)
