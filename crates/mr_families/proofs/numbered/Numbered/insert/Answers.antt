use Rattle.std.proofs.Common.{◌≡◌, ◌==◌, ◌∙◌, ◌&&◌, true, not, length, List, sym, ap}
use Rattle.std.specs.Option.{option_map}
use Rattle.mr_iter.specs.Versions.{Version, as_version, version_cmp}
use Rattle.mr_levels.specs.Levels.{LevelsState}
use Rattle.mr_family.specs.Family.{direction}
use Rattle.mr_families.specs.Known.{has_versions, has_runs}
use Rattle.mr_families.proofs.Telling.{some_placed}
use Rattle.mr_families.proofs.numbered.Numbered.insert.Goals as goal

pub returns-clause-told : goal.returns-clause-told
returns-clause-told c =
    let old = c.args.self.now.family in
    let some : has_versions c.insert.new.self ≡ true =
    ap (λ (vs : List Version). not (length vs == 0)) c.insert.ensures.in_memory
    ∙ some_placed (version_cmp (direction old)) (as_version c.lend-item.result.key.now c.args.sequence (option_map (λ v. v.now) c.lend-item.result.put)) old.memtable.versions in
    record {
      in_memory = sym some;
      is_fresh = sym (ap (λ b. not b && not (has_runs c.insert.new.self)) some);
      four = ap (λ (s : LevelsState). length s.deeper) c.insert.ensures.levels ∙ c.requires.told.four;
    }
