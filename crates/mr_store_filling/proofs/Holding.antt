-- Families that are filled have what the files say.
use Rattle.std.proofs.Common.{◌≡◌, ℕ, List, [], ◌∷◌, sym, ◌∙◌, ap, subst}
use Rattle.mr_base.specs.Disk.{Image}
use Rattle.mr_base.specs.declared.stop.Direction.{Direction}
use Rattle.mr_levels.specs.Levels.{LevelsState}
use Rattle.mr_block_cache.specs.Cache.{CachedBlock}
use Rattle.mr_levels.specs.Looks.{AgreeWith}
use Rattle.mr_levels.specs.Levels.{runs as runs_by_level}
use Rattle.mr_run_open.specs.Runs.{RunState}
use Rattle.mr_manifest.specs.declared.live.LiveRun.{LiveRun}
use Rattle.mr_engine_log.specs.declared.batched.Batched.{Batched}
use Rattle.mr_family.specs.Family.{FamilyState, direction, IsTrueTo}
use Rattle.mr_families.specs.declared.numbered.Numbered.{Numbered}
use Rattle.mr_families.specs.Known.{family_at, empty_family}
use Rattle.mr_stored.specs.Lists.{runs_of, with_runs, with_batches, AreNamed}
use Rattle.mr_store_memory.specs.Held.{Held}
use Rattle.mr_store_filling.specs.Filled.{HaveOpened, HaveAdded, AreEmpty, AreDirected}
use Rattle.mr_store_filling.proofs.Chained.{direction_of_runs}

module _ (image : Image) (runs : List LiveRun) (batches : List Batched) (a b c : List Numbered) (empty : AreEmpty a) (opened : HaveOpened image runs a b) (added : HaveAdded batches b c) where
  first_direction : (f : ℕ) → direction (family_at b f) ≡ direction (family_at a f)
  first_direction f = ap (λ (s : LevelsState). s.direction) (opened f).levels ∙ direction_of_runs (direction (family_at a f)) image (runs_of f runs) (family_at a f).levels

  last_direction : (f : ℕ) → direction (family_at c f) ≡ direction (family_at a f)
  last_direction f = ap (λ (s : LevelsState). s.direction) (added f).levels ∙ first_direction f

  pub filled_held : AreNamed image runs batches → AreDirected image runs batches a → Held c image runs batches
  filled_held named directed = record {
    named = named;
    levels = λ f.
        (added f).levels ∙ (opened f).levels
        ∙ ap (λ (s : FamilyState). with_runs (direction (family_at a f)) image (runs_of f runs) s.levels) (empty f)
        ∙ ap (λ (d : Direction). with_runs d image (runs_of f runs) (empty_family d).levels) (sym (last_direction f));
    memory = λ f.
        (added f).versions
        ∙ ap (λ (d : Direction). with_batches d f batches (family_at b f).memtable.versions) (first_direction f)
        ∙ ap (λ m. with_batches (direction (family_at a f)) f batches m.versions) (opened f).memtable
        ∙ ap (λ (s : FamilyState). with_batches (direction (family_at a f)) f batches s.memtable.versions) (empty f)
        ∙ ap (λ (d : Direction). with_batches d f batches []) (sym (last_direction f));
    directions = λ f below is. last_direction f ∙ directed f below is;
  }

  pub filled_cached : (f : ℕ) → (family_at c f).cached ≡ []
  filled_cached f = (added f).cached ∙ (opened f).cached ∙ ap (λ (s : FamilyState). s.cached) (empty f)

nothing_agrees : (image : Image) (rs : List RunState) → AgreeWith image [] rs
nothing_agrees image [] = tt
nothing_agrees image (r ∷ rs) = (tt, nothing_agrees image rs)

-- of nothing that is held everything is true
pub nothing_held : (image : Image) (s : FamilyState) → s.cached ≡ [] → IsTrueTo image s
nothing_held image s none = subst (λ (cs : List CachedBlock). AgreeWith image cs (runs_by_level s.levels)) (sym none) (nothing_agrees image (runs_by_level s.levels))
