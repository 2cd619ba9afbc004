use Rattle.std.proofs.Common.{Result, Ok, Err, OnOk, OnErr}
use Rattle.mr_iter.specs.Versions.{place_in, IsInOrder}
use Rattle.mr_levels.specs.Levels.{by_last_key}
use Rattle.mr_levels.proofs.Looking.{each_level}
use Rattle.mr_levels.proofs.Filling.{set_changed, set_same}
use Rattle.mr_levels.proofs.opening.add_deeper.Goals as goal

pub add_to_level-requires : goal.add_to_level-requires
add_to_level-requires c = each_level c.args.levels.now.items c.args.i c.index_mut.result.now c.requires.within c.index_mut.ensures.value (IsInOrder (by_last_key c.args.direction)) c.requires.ordered

on_ok : {A E : Type 0} {P Q : Type 0} (r : Result A E) → (P → Q) → OnOk r P → OnOk r Q
on_ok (Ok x) law h = law h
on_ok (Err e) law h = h

on_err : {A E : Type 0} {P Q : Type 0} (r : Result A E) → (P → Q) → OnErr r P → OnErr r Q
on_err (Ok x) law h = h
on_err (Err e) law h = law h

pub returns-clause-added : goal.returns-clause-added
returns-clause-added c = on_ok c.add_to_level.result (λ e. set_changed c.args.levels.now.items c.args.i c.index_mut.result.now c.add_to_level.new.runs (place_in (by_last_key c.args.direction) c.args.run) c.requires.within c.index_mut.ensures.value e) c.add_to_level.ensures.added

pub returns-clause-unchanged : goal.returns-clause-unchanged
returns-clause-unchanged c = on_err c.add_to_level.result (λ e. set_same c.args.levels.now.items c.args.i c.index_mut.result.now c.add_to_level.new.runs c.requires.within c.index_mut.ensures.value e) c.add_to_level.ensures.unchanged
