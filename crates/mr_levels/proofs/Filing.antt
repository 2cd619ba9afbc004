-- The runs of a family by two images that have the same in all their files.
use Rattle.std.proofs.Common.{◌≡◌, ℕ, List, [], ◌∷◌, map, get_or, Ok, Err, refl, sym, ◌∙◌, ap, subst, inl, inr}
use Rattle.std.specs.List.{AllByRecursion}
use Rattle.mr_base.specs.Disk.{Image}
use Rattle.mr_iter.specs.Versions.{Version}
use Rattle.mr_iter.specs.Children.{AnyOf}
use Rattle.mr_block.specs.Block.{list_of}
use Rattle.mr_run_file.specs.Reading.{Indexed, IsRun, recorded_in, run_in, versions_at}
use Rattle.mr_run_open.specs.Runs.{RunState, no_block}
use Rattle.mr_run_open.specs.Blocks.{list_at}
use Rattle.mr_run_open.proofs.Sizes.{each_at}
use Rattle.mr_run_open.proofs.Ranges.{run_parts}
use Rattle.mr_run_cursor.specs.Pinned.{run_list}
use Rattle.mr_run_get.specs.Get.{IsOffenceIn}
use Rattle.mr_run_get.proofs.Gapless.{gapless_index}
use Rattle.mr_levels.specs.Levels.{run_lists, AreLive}
use Rattle.mr_levels.specs.Looks.{AreSorted}
use Rattle.mr_levels.proofs.Skipping.{structure, ends_of}

abbrev Shared : List RunState → Image → Image → Type 0
Shared rs i j = AllByRecursion (λ file. i file ≡ j file) (map (λ (r : RunState). r.file) rs)

pub lists_by : (rs : List RunState) (i j : Image) → Shared rs i j → run_lists rs i ≡ run_lists rs j
lists_by [] i j same = refl
lists_by (r ∷ rs) i j same =
    ap (λ (bytes : List ℕ). list_of (run_in r.entries bytes) ∷ run_lists rs i) same.0
    ∙ ap (λ (vss : List (List Version)). run_list r j ∷ vss) (lists_by rs i j same.1)

pub live_by : (rs : List RunState) (i j : Image) → Shared rs i j → AreLive i rs → AreLive j rs
live_by [] i j same live = tt
live_by (r ∷ rs) i j same live = (
  record {
    index = subst (λ (bytes : List ℕ). recorded_in r.length r.entries bytes ≡ Ok r.index) same.0 live.0.index;
    run = subst (λ (bytes : List ℕ). IsRun r.direction r.entries bytes (list_of (run_in r.entries bytes))) same.0 live.0.run;
  },
  live_by rs i j same.1 live.1,
)

pub offends_by : (rs : List RunState) (i j : Image) (file at : ℕ) → Shared rs i j → AnyOf (λ (r : RunState). IsOffenceIn r r.index.blocks i file at) rs → AnyOf (λ (r : RunState). IsOffenceIn r r.index.blocks j file at) rs
offends_by [] i j file at same any = any
offends_by (r ∷ rs) i j file at same (inl here) = inl (here.0, λ gapless. let o = here.1 gapless in (o.0, o.1, subst (λ (bytes : List ℕ). versions_at bytes (get_or r.index.blocks o.0 no_block) ≡ Err at) (ap i here.0 ∙ same.0 ∙ sym (ap j here.0)) o.2))
offends_by (r ∷ rs) i j file at same (inr later) = inr (offends_by rs i j file at same.1 later)

pub live_sorted : (rs : List RunState) (image : Image) → AreLive image rs → AreSorted rs
live_sorted [] image live = tt
live_sorted (r ∷ rs) image live = ((ends_of r image live.0).sorted, live_sorted rs image live.1)

pub live_sound : (rs : List RunState) (image : Image) (file at : ℕ) → AreLive image rs → AnyOf (λ (r : RunState). IsOffenceIn r r.index.blocks image file at) rs → ⊥
live_sound [] image file at live any = any
live_sound (r ∷ rs) image file at live (inl here) =
    let o = here.1 (gapless_index r image live.0.index) in
    let parts = run_parts r.entries (image r.file) (run_list r image) r.index live.0.run.0 (structure r image live.0.index) in
    let good : versions_at (image r.file) (get_or r.index.blocks o.0 no_block) ≡ Ok (list_at (image r.file) (get_or r.index.blocks o.0 no_block)) = each_at (λ (b : Indexed). versions_at (image r.file) b ≡ Ok (list_at (image r.file) b)) r.index.blocks o.0 o.1 parts.lists.blocks in
    let bad : versions_at (image r.file) (get_or r.index.blocks o.0 no_block) ≡ Err at = subst (λ (f : ℕ). versions_at (image f) (get_or r.index.blocks o.0 no_block) ≡ Err at) here.0 o.2 in
    let no : Err at ≡ Ok (list_at (image r.file) (get_or r.index.blocks o.0 no_block)) = sym bad ∙ good in
    cc
live_sound (r ∷ rs) image file at live (inr later) = live_sound rs image file at live.1 later
