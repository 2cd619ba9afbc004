use Rattle.std.proofs.Common.{◌≡◌, ◌∙◌, List, IfOk, OnErr, ap, subst}
use Rattle.std.proofs.lemmas.List.{get_or_read}
use Rattle.mr_levels.specs.Opened.{IsOpened}
use Rattle.mr_family.specs.Family.{FamilyState}
use Rattle.mr_families.specs.declared.numbered.Numbered.{Numbered}
use Rattle.mr_families.specs.Known.{IsAt, IsGapFor, one_at, no_one}
use Rattle.mr_families.proofs.Numbering.{kept-set, known_is_not_absent}
use Rattle.mr_families.proofs.ByPlace.{both_at, only_at}
use Rattle.mr_families.proofs.reading.open_in.Goals as goal

pub returns-in-Ok-clause-kept : goal.returns-in-Ok-clause-kept
returns-in-Ok-clause-kept g c =
    let ns = c.args.list.now.items in
    let here : IsAt ns c.args.number c.in-Ok.place = subst (λ (ms : List Numbered). IsAt ms c.args.number c.in-Ok.place) c.deref.ensures.value c.in-Ok.ensures.found in
    let read : c.index_mut.result.now ≡ one_at ns c.in-Ok.place = get_or_read ns c.in-Ok.place c.index_mut.result.now here.in_range c.index_mut.ensures.value no_one in
    kept-set ns c.in-Ok.place c.open_run.new.self here.in_range (c.open_run.ensures.number ∙ ap (λ (n : Numbered). n.number) read) c.open_run.ensures.told c.requires.kept

pub returns-in-Ok-clause-only : goal.returns-in-Ok-clause-only
returns-in-Ok-clause-only g c =
    let ns = c.args.list.now.items in
    let here : IsAt ns c.args.number c.in-Ok.place = subst (λ (ms : List Numbered). IsAt ms c.args.number c.in-Ok.place) c.deref.ensures.value c.in-Ok.ensures.found in
    let read : c.index_mut.result.now ≡ one_at ns c.in-Ok.place = get_or_read ns c.in-Ok.place c.index_mut.result.now here.in_range c.index_mut.ensures.value no_one in
    only_at ns c.args.number c.in-Ok.place c.index_mut.result.now c.open_run.new.self here read c.open_run.ensures.number

pub returns-in-Ok-clause-opened : goal.returns-in-Ok-clause-opened
returns-in-Ok-clause-opened g c =
    let ns = c.args.list.now.items in
    let here : IsAt ns c.args.number c.in-Ok.place = subst (λ (ms : List Numbered). IsAt ms c.args.number c.in-Ok.place) c.deref.ensures.value c.in-Ok.ensures.found in
    let read : c.index_mut.result.now ≡ one_at ns c.in-Ok.place = get_or_read ns c.in-Ok.place c.index_mut.result.now here.in_range c.index_mut.ensures.value no_one in
    both_at (λ (old new : FamilyState). IfOk c.open_run.result (λ u. IsOpened c.args.level c.args.info.now (g.D.Disk.disk c.args.disk.now) old.levels new.levels))
    ns c.args.number c.in-Ok.place c.index_mut.result.now c.open_run.new.self c.requires.kept.ascending here read c.open_run.ensures.number c.open_run.ensures.opened

pub returns-in-Ok-clause-unchanged : goal.returns-in-Ok-clause-unchanged
returns-in-Ok-clause-unchanged g c =
    let ns = c.args.list.now.items in
    let here : IsAt ns c.args.number c.in-Ok.place = subst (λ (ms : List Numbered). IsAt ms c.args.number c.in-Ok.place) c.deref.ensures.value c.in-Ok.ensures.found in
    let read : c.index_mut.result.now ≡ one_at ns c.in-Ok.place = get_or_read ns c.in-Ok.place c.index_mut.result.now here.in_range c.index_mut.ensures.value no_one in
    both_at (λ (old new : FamilyState). OnErr c.open_run.result (new.levels ≡ old.levels))
    ns c.args.number c.in-Ok.place c.index_mut.result.now c.open_run.new.self c.requires.kept.ascending here read c.open_run.ensures.number c.open_run.ensures.unchanged

pub returns-in-Ok-clause-memtable : goal.returns-in-Ok-clause-memtable
returns-in-Ok-clause-memtable g c =
    let ns = c.args.list.now.items in
    let here : IsAt ns c.args.number c.in-Ok.place = subst (λ (ms : List Numbered). IsAt ms c.args.number c.in-Ok.place) c.deref.ensures.value c.in-Ok.ensures.found in
    let read : c.index_mut.result.now ≡ one_at ns c.in-Ok.place = get_or_read ns c.in-Ok.place c.index_mut.result.now here.in_range c.index_mut.ensures.value no_one in
    both_at (λ (old new : FamilyState). new.memtable ≡ old.memtable)
    ns c.args.number c.in-Ok.place c.index_mut.result.now c.open_run.new.self c.requires.kept.ascending here read c.open_run.ensures.number c.open_run.ensures.memtable

pub returns-in-Ok-clause-cached : goal.returns-in-Ok-clause-cached
returns-in-Ok-clause-cached g c =
    let ns = c.args.list.now.items in
    let here : IsAt ns c.args.number c.in-Ok.place = subst (λ (ms : List Numbered). IsAt ms c.args.number c.in-Ok.place) c.deref.ensures.value c.in-Ok.ensures.found in
    let read : c.index_mut.result.now ≡ one_at ns c.in-Ok.place = get_or_read ns c.in-Ok.place c.index_mut.result.now here.in_range c.index_mut.ensures.value no_one in
    both_at (λ (old new : FamilyState). new.cached ≡ old.cached)
    ns c.args.number c.in-Ok.place c.index_mut.result.now c.open_run.new.self c.requires.kept.ascending here read c.open_run.ensures.number c.open_run.ensures.cached

pub returns-in-Err-clause-opened : goal.returns-in-Err-clause-opened
returns-in-Err-clause-opened g c =
    let ns = c.args.list.now.items in
    let gap : IsGapFor ns c.args.number c.in-Err.field-0 = subst (λ (ms : List Numbered). IsGapFor ms c.args.number c.in-Err.field-0) c.deref.ensures.value c.in-Err.ensures.absent in
    absurd (known_is_not_absent ns c.args.number c.in-Err.field-0 c.requires.known gap)
