use Rattle.std.proofs.Common.{◌≡◌, ◌≢◌, ◌≤◌, ◌+◌, ℕ, List, length, IfOk, IfErr, OnOk, sym, subst, None, refl}
use Rattle.std.specs.Option.{option_map}
use Rattle.std.specs.List.{AllByRecursion}
use Rattle.std.proofs.lemmas.List.{get_or_read}
use Rattle.mr_base.specs.Disk.{Tells, seen}
use Rattle.mr_base.specs.Calls.{Counts}
use Rattle.mr_base.specs.declared.stop.Direction.TheVariants.{Forward}
use Rattle.mr_iter.specs.Cursors.{MayStop}
use Rattle.mr_iter.specs.Newest.{newest}
use Rattle.mr_block.specs.Held.{version_held}
use Rattle.mr_block_cache.specs.Cache.{AgreesWith}
use Rattle.mr_levels.specs.Levels.{runs}
use Rattle.mr_levels.specs.Looks.{looked, Brings, HasKeyOffence, AreSorted, AreGapless}
use Rattle.mr_family.specs.Family.{FamilyState, files, versions, IsWhole, IsTrueTo, reads_of, bytes_of, IsWarmFor}
use Rattle.mr_families.specs.declared.numbered.Numbered.{Numbered}
use Rattle.mr_families.specs.Known.{IsAt, IsGapFor, one_at, no_one, empty_family}
use Rattle.mr_families.proofs.Numbering.{none_in_gap}
use Rattle.mr_families.proofs.ByPlace.{both_at, old_at, only_at, few_read}
use Rattle.mr_families.proofs.reading.get_in.Goals as goal

pub returns-in-Ok-clause-only : goal.returns-in-Ok-clause-only
returns-in-Ok-clause-only g c =
    let ns = c.args.list.now.items in
    let here : IsAt ns c.args.number c.in-Ok.place = subst (λ (ms : List Numbered). IsAt ms c.args.number c.in-Ok.place) c.deref.ensures.value c.in-Ok.ensures.found in
    let read : c.index_mut.result.now ≡ one_at ns c.in-Ok.place = get_or_read ns c.in-Ok.place c.index_mut.result.now here.in_range c.index_mut.ensures.value no_one in
    only_at ns c.args.number c.in-Ok.place c.index_mut.result.now (record { number = c.index_mut.result.now.number; family = c.get.new.self; in_memory = c.index_mut.result.now.in_memory; is_fresh = c.index_mut.result.now.is_fresh }) here read refl

pub returns-in-Ok-clause-found : goal.returns-in-Ok-clause-found
returns-in-Ok-clause-found g c =
    let ns = c.args.list.now.items in
    let here : IsAt ns c.args.number c.in-Ok.place = subst (λ (ms : List Numbered). IsAt ms c.args.number c.in-Ok.place) c.deref.ensures.value c.in-Ok.ensures.found in
    let read : c.index_mut.result.now ≡ one_at ns c.in-Ok.place = get_or_read ns c.in-Ok.place c.index_mut.result.now here.in_range c.index_mut.ensures.value no_one in
    old_at (λ (old : FamilyState). Tells (g.D.Disk.disk c.args.disk.now) → IsWhole old (seen (g.D.Disk.disk c.args.disk.now)) → IsTrueTo (seen (g.D.Disk.disk c.args.disk.now)) old → IfOk c.get.result (λ o. option_map version_held o ≡ newest c.args.at c.args.key.now (versions old (seen (g.D.Disk.disk c.args.disk.now)))))
    ns c.args.number c.in-Ok.place c.index_mut.result.now c.requires.ascending here read c.get.ensures.found

pub returns-in-Ok-clause-memtable : goal.returns-in-Ok-clause-memtable
returns-in-Ok-clause-memtable g c =
    let ns = c.args.list.now.items in
    let here : IsAt ns c.args.number c.in-Ok.place = subst (λ (ms : List Numbered). IsAt ms c.args.number c.in-Ok.place) c.deref.ensures.value c.in-Ok.ensures.found in
    let read : c.index_mut.result.now ≡ one_at ns c.in-Ok.place = get_or_read ns c.in-Ok.place c.index_mut.result.now here.in_range c.index_mut.ensures.value no_one in
    both_at (λ (old new : FamilyState). new.memtable ≡ old.memtable)
    ns c.args.number c.in-Ok.place c.index_mut.result.now (record { number = c.index_mut.result.now.number; family = c.get.new.self; in_memory = c.index_mut.result.now.in_memory; is_fresh = c.index_mut.result.now.is_fresh }) c.requires.ascending here read refl c.get.ensures.memtable

pub returns-in-Ok-clause-levels : goal.returns-in-Ok-clause-levels
returns-in-Ok-clause-levels g c =
    let ns = c.args.list.now.items in
    let here : IsAt ns c.args.number c.in-Ok.place = subst (λ (ms : List Numbered). IsAt ms c.args.number c.in-Ok.place) c.deref.ensures.value c.in-Ok.ensures.found in
    let read : c.index_mut.result.now ≡ one_at ns c.in-Ok.place = get_or_read ns c.in-Ok.place c.index_mut.result.now here.in_range c.index_mut.ensures.value no_one in
    both_at (λ (old new : FamilyState). new.levels ≡ old.levels)
    ns c.args.number c.in-Ok.place c.index_mut.result.now (record { number = c.index_mut.result.now.number; family = c.get.new.self; in_memory = c.index_mut.result.now.in_memory; is_fresh = c.index_mut.result.now.is_fresh }) c.requires.ascending here read refl c.get.ensures.levels

pub returns-in-Ok-clause-counts : goal.returns-in-Ok-clause-counts
returns-in-Ok-clause-counts g c =
    let ns = c.args.list.now.items in
    let here : IsAt ns c.args.number c.in-Ok.place = subst (λ (ms : List Numbered). IsAt ms c.args.number c.in-Ok.place) c.deref.ensures.value c.in-Ok.ensures.found in
    let read : c.index_mut.result.now ≡ one_at ns c.in-Ok.place = get_or_read ns c.in-Ok.place c.index_mut.result.now here.in_range c.index_mut.ensures.value no_one in
    old_at (λ (old : FamilyState). Counts (reads_of c.args.key.now old) (bytes_of c.args.key.now old) 0 (g.D.Disk.disk c.args.disk.now) (g.D.Disk.disk c.get.new.disk))
    ns c.args.number c.in-Ok.place c.index_mut.result.now c.requires.ascending here read c.get.ensures.counts

pub returns-in-Ok-clause-few : goal.returns-in-Ok-clause-few
returns-in-Ok-clause-few g c =
    let ns = c.args.list.now.items in
    let here : IsAt ns c.args.number c.in-Ok.place = subst (λ (ms : List Numbered). IsAt ms c.args.number c.in-Ok.place) c.deref.ensures.value c.in-Ok.ensures.found in
    let read : c.index_mut.result.now ≡ one_at ns c.in-Ok.place = get_or_read ns c.in-Ok.place c.index_mut.result.now here.in_range c.index_mut.ensures.value no_one in
    old_at (λ (old : FamilyState). reads_of c.args.key.now old ≤ length old.levels.newest + 4)
    ns c.args.number c.in-Ok.place c.index_mut.result.now c.requires.ascending here read (few_read c.args.key.now c.index_mut.result.now.family (subst (λ (n : Numbered). length n.family.levels.deeper ≡ 4) (sym read) (c.requires.told c.in-Ok.place here.in_range).four))

pub returns-in-Ok-clause-warm : goal.returns-in-Ok-clause-warm
returns-in-Ok-clause-warm g c =
    let ns = c.args.list.now.items in
    let here : IsAt ns c.args.number c.in-Ok.place = subst (λ (ms : List Numbered). IsAt ms c.args.number c.in-Ok.place) c.deref.ensures.value c.in-Ok.ensures.found in
    let read : c.index_mut.result.now ≡ one_at ns c.in-Ok.place = get_or_read ns c.in-Ok.place c.index_mut.result.now here.in_range c.index_mut.ensures.value no_one in
    old_at (λ (old : FamilyState). AreSorted (looked c.args.key.now old.levels) → IsWarmFor c.args.key.now old → Counts 0 0 0 (g.D.Disk.disk c.args.disk.now) (g.D.Disk.disk c.get.new.disk))
    ns c.args.number c.in-Ok.place c.index_mut.result.now c.requires.ascending here read c.get.ensures.warm

pub returns-in-Ok-clause-brings : goal.returns-in-Ok-clause-brings
returns-in-Ok-clause-brings g c =
    let ns = c.args.list.now.items in
    let here : IsAt ns c.args.number c.in-Ok.place = subst (λ (ms : List Numbered). IsAt ms c.args.number c.in-Ok.place) c.deref.ensures.value c.in-Ok.ensures.found in
    let read : c.index_mut.result.now ≡ one_at ns c.in-Ok.place = get_or_read ns c.in-Ok.place c.index_mut.result.now here.in_range c.index_mut.ensures.value no_one in
    both_at (λ (old new : FamilyState). OnOk c.get.result (Brings c.args.key.now (looked c.args.key.now old.levels) old.cached new.cached))
    ns c.args.number c.in-Ok.place c.index_mut.result.now (record { number = c.index_mut.result.now.number; family = c.get.new.self; in_memory = c.index_mut.result.now.in_memory; is_fresh = c.index_mut.result.now.is_fresh }) c.requires.ascending here read refl c.get.ensures.brings

pub returns-in-Ok-clause-stays_true : goal.returns-in-Ok-clause-stays_true
returns-in-Ok-clause-stays_true g c =
    let ns = c.args.list.now.items in
    let here : IsAt ns c.args.number c.in-Ok.place = subst (λ (ms : List Numbered). IsAt ms c.args.number c.in-Ok.place) c.deref.ensures.value c.in-Ok.ensures.found in
    let read : c.index_mut.result.now ≡ one_at ns c.in-Ok.place = get_or_read ns c.in-Ok.place c.index_mut.result.now here.in_range c.index_mut.ensures.value no_one in
    both_at (λ (old new : FamilyState). Tells (g.D.Disk.disk c.args.disk.now) → AreGapless (runs old.levels) → IsTrueTo (seen (g.D.Disk.disk c.args.disk.now)) old → IsTrueTo (seen (g.D.Disk.disk c.args.disk.now)) new)
    ns c.args.number c.in-Ok.place c.index_mut.result.now (record { number = c.index_mut.result.now.number; family = c.get.new.self; in_memory = c.index_mut.result.now.in_memory; is_fresh = c.index_mut.result.now.is_fresh }) c.requires.ascending here read refl c.get.ensures.stays_true

pub returns-in-Ok-clause-others : goal.returns-in-Ok-clause-others
returns-in-Ok-clause-others g c =
    let ns = c.args.list.now.items in
    let here : IsAt ns c.args.number c.in-Ok.place = subst (λ (ms : List Numbered). IsAt ms c.args.number c.in-Ok.place) c.deref.ensures.value c.in-Ok.ensures.found in
    let read : c.index_mut.result.now ≡ one_at ns c.in-Ok.place = get_or_read ns c.in-Ok.place c.index_mut.result.now here.in_range c.index_mut.ensures.value no_one in
    both_at (λ (old new : FamilyState). (file : ℕ) (bytes : List ℕ) → AllByRecursion (λ live. file ≢ live) (files old) → AgreesWith file bytes old.cached → AgreesWith file bytes new.cached)
    ns c.args.number c.in-Ok.place c.index_mut.result.now (record { number = c.index_mut.result.now.number; family = c.get.new.self; in_memory = c.index_mut.result.now.in_memory; is_fresh = c.index_mut.result.now.is_fresh }) c.requires.ascending here read refl c.get.ensures.others

pub returns-in-Ok-clause-stops : goal.returns-in-Ok-clause-stops
returns-in-Ok-clause-stops g c =
    let ns = c.args.list.now.items in
    let here : IsAt ns c.args.number c.in-Ok.place = subst (λ (ms : List Numbered). IsAt ms c.args.number c.in-Ok.place) c.deref.ensures.value c.in-Ok.ensures.found in
    let read : c.index_mut.result.now ≡ one_at ns c.in-Ok.place = get_or_read ns c.in-Ok.place c.index_mut.result.now here.in_range c.index_mut.ensures.value no_one in
    old_at (λ (old : FamilyState). IfErr c.get.result (MayStop (HasKeyOffence c.args.key.now (looked c.args.key.now old.levels)) (g.D.Disk.disk c.args.disk.now) (g.D.Disk.disk c.get.new.disk)))
    ns c.args.number c.in-Ok.place c.index_mut.result.now c.requires.ascending here read c.get.ensures.stops

pub returns-in-Err-clause-found : goal.returns-in-Err-clause-found
returns-in-Err-clause-found g c =
    let ns = c.args.list.now.items in
    let gap : IsGapFor ns c.args.number c.in-Err.field-0 = subst (λ (ms : List Numbered). IsGapFor ms c.args.number c.in-Err.field-0) c.deref.ensures.value c.in-Err.ensures.absent in
    subst (λ (old : FamilyState). Tells (g.D.Disk.disk c.args.disk.now) → IsWhole old (seen (g.D.Disk.disk c.args.disk.now)) → IsTrueTo (seen (g.D.Disk.disk c.args.disk.now)) old → None ≡ newest c.args.at c.args.key.now (versions old (seen (g.D.Disk.disk c.args.disk.now)))) (sym (none_in_gap ns c.args.number c.in-Err.field-0 gap)) (λ tells whole agree. refl)

pub returns-in-Err-clause-few : goal.returns-in-Err-clause-few
returns-in-Err-clause-few g c =
    let ns = c.args.list.now.items in
    let gap : IsGapFor ns c.args.number c.in-Err.field-0 = subst (λ (ms : List Numbered). IsGapFor ms c.args.number c.in-Err.field-0) c.deref.ensures.value c.in-Err.ensures.absent in
    subst (λ (old : FamilyState). reads_of c.args.key.now old ≤ length old.levels.newest + 4) (sym (none_in_gap ns c.args.number c.in-Err.field-0 gap)) (few_read c.args.key.now (empty_family Forward) refl)

pub returns-in-Err-clause-brings : goal.returns-in-Err-clause-brings
returns-in-Err-clause-brings g c =
    let ns = c.args.list.now.items in
    let gap : IsGapFor ns c.args.number c.in-Err.field-0 = subst (λ (ms : List Numbered). IsGapFor ms c.args.number c.in-Err.field-0) c.deref.ensures.value c.in-Err.ensures.absent in
    subst (λ (old : FamilyState). Brings c.args.key.now (looked c.args.key.now old.levels) old.cached old.cached) (sym (none_in_gap ns c.args.number c.in-Err.field-0 gap)) (λ sorted. refl)
