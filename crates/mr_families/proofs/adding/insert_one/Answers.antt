use Rattle.std.proofs.Common.{◌≡◌, ◌<◌, ◌≤◌, ◌∙◌, List, sym, ap, subst}
use Rattle.std.proofs.lemmas.List.{get_or_read}
use Rattle.mr_family.specs.Family.{FamilyState}
use Rattle.mr_families.specs.declared.numbered.Numbered.{Numbered}
use Rattle.mr_families.specs.Known.{IsAt, IsGapFor, one_at, no_one, family_at}
use Rattle.mr_families.specs.Batches.{size_of}
use Rattle.mr_families.proofs.Numbering.{at_place, kept-set, known_is_not_absent}
use Rattle.mr_families.proofs.Batched.{added_at}
use Rattle.mr_families.proofs.adding.insert_one.Goals as goal

pub insert-requires-clause-entries : goal.insert-requires-clause-entries
insert-requires-clause-entries c =
    let ns = c.args.list.now.items in
    let here : IsAt ns c.args.item.now.family c.in-Ok.place = subst (λ (ms : List Numbered). IsAt ms c.args.item.now.family c.in-Ok.place) c.deref.ensures.value c.in-Ok.ensures.found in
    let read : c.index_mut.result.now ≡ one_at ns c.in-Ok.place = get_or_read ns c.in-Ok.place c.index_mut.result.now here.in_range c.index_mut.ensures.value no_one in
    let own : family_at ns c.args.item.now.family ≡ c.index_mut.result.now.family = at_place ns c.args.item.now.family c.in-Ok.place c.requires.kept.ascending here ∙ ap (λ (n : Numbered). n.family) (sym read) in
    subst (λ (f : FamilyState). 0 < f.memtable.entries) own c.requires.entries

pub insert-requires-clause-bytes : goal.insert-requires-clause-bytes
insert-requires-clause-bytes c =
    let ns = c.args.list.now.items in
    let here : IsAt ns c.args.item.now.family c.in-Ok.place = subst (λ (ms : List Numbered). IsAt ms c.args.item.now.family c.in-Ok.place) c.deref.ensures.value c.in-Ok.ensures.found in
    let read : c.index_mut.result.now ≡ one_at ns c.in-Ok.place = get_or_read ns c.in-Ok.place c.index_mut.result.now here.in_range c.index_mut.ensures.value no_one in
    let own : family_at ns c.args.item.now.family ≡ c.index_mut.result.now.family = at_place ns c.args.item.now.family c.in-Ok.place c.requires.kept.ascending here ∙ ap (λ (n : Numbered). n.family) (sym read) in
    subst (λ (f : FamilyState). size_of c.args.item.now ≤ f.memtable.bytes) own c.requires.bytes

pub returns-in-Ok-clause-kept : goal.returns-in-Ok-clause-kept
returns-in-Ok-clause-kept c =
    let ns = c.args.list.now.items in
    let here : IsAt ns c.args.item.now.family c.in-Ok.place = subst (λ (ms : List Numbered). IsAt ms c.args.item.now.family c.in-Ok.place) c.deref.ensures.value c.in-Ok.ensures.found in
    let read : c.index_mut.result.now ≡ one_at ns c.in-Ok.place = get_or_read ns c.in-Ok.place c.index_mut.result.now here.in_range c.index_mut.ensures.value no_one in
    kept-set ns c.in-Ok.place c.insert.new.self here.in_range (c.insert.ensures.number ∙ ap (λ (n : Numbered). n.number) read) c.insert.ensures.told c.requires.kept

pub returns-in-Ok-clause-added : goal.returns-in-Ok-clause-added
returns-in-Ok-clause-added c =
    let ns = c.args.list.now.items in
    let here : IsAt ns c.args.item.now.family c.in-Ok.place = subst (λ (ms : List Numbered). IsAt ms c.args.item.now.family c.in-Ok.place) c.deref.ensures.value c.in-Ok.ensures.found in
    let read : c.index_mut.result.now ≡ one_at ns c.in-Ok.place = get_or_read ns c.in-Ok.place c.index_mut.result.now here.in_range c.index_mut.ensures.value no_one in
    added_at c.args.sequence c.args.item.now ns c.in-Ok.place c.index_mut.result.now c.insert.new.self c.requires.kept.ascending here read c.insert.ensures.number c.insert.ensures.takes

pub returns-in-Err-clause-added : goal.returns-in-Err-clause-added
returns-in-Err-clause-added c =
    let gap : IsGapFor c.args.list.now.items c.args.item.now.family c.in-Err.field-0 = subst (λ (ms : List Numbered). IsGapFor ms c.args.item.now.family c.in-Err.field-0) c.deref.ensures.value c.in-Err.ensures.absent in
    absurd (known_is_not_absent c.args.list.now.items c.args.item.now.family c.in-Err.field-0 c.requires.known gap)
