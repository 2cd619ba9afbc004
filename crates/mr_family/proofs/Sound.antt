-- No block of a whole run has an offence.
use Rattle.std.proofs.Common.{◌≡◌, ℕ, ◌-◌, Bool, true, false, cond, List, [], ◌∷◌, take, drop, get_or, zero, suc, sym, ◌∙◌, subst, inl, inr, Ok, Err}
use Rattle.std.specs.List.{AllByRecursion}
use Rattle.mr_base.specs.Disk.{Image}
use Rattle.mr_run_file.specs.Reading.{Indexed, versions_at}
use Rattle.mr_run_open.specs.Runs.{RunState, no_block, first_block, behind_block, are_in_order}
use Rattle.mr_run_open.specs.Blocks.{list_at}
use Rattle.mr_run_open.proofs.Sizes.{each_at}
use Rattle.mr_run_open.proofs.Ranges.{run_parts}
use Rattle.mr_run_cursor.specs.Pinned.{run_list}
use Rattle.mr_run_get.specs.Get.{key_blocks, IsOffenceIn}
use Rattle.mr_run_get.proofs.Gapless.{gapless_index}
use Rattle.mr_levels.specs.Levels.{IsLive, AreLive}
use Rattle.mr_levels.specs.Looks.{touched, HasKeyOffence}
use Rattle.mr_levels.proofs.Skipping.{structure}

each_drop : (P : Indexed → Type 0) (n : ℕ) (bs : List Indexed) → AllByRecursion P bs → AllByRecursion P (drop n bs)
each_drop P zero bs all = all
each_drop P (suc n) [] all = tt
each_drop P (suc n) (b ∷ bs) all = each_drop P n bs all.1

each_take : (P : Indexed → Type 0) (n : ℕ) (bs : List Indexed) → AllByRecursion P bs → AllByRecursion P (take n bs)
each_take P zero bs all = tt
each_take P (suc n) [] all = tt
each_take P (suc n) (b ∷ bs) all = (all.0, each_take P n bs all.1)

each_touched : (P : Indexed → Type 0) (key : List ℕ) (r : RunState) → AllByRecursion P r.index.blocks → AllByRecursion P (touched key r)
each_touched P key r all = go (are_in_order r.direction r.index.blocks)
  where
    go : (b : Bool) → AllByRecursion P (cond b (key_blocks r key) r.index.blocks)
    go true = each_take P (behind_block r.direction key r.index.blocks - first_block r.direction key r.index.blocks) (drop (first_block r.direction key r.index.blocks) r.index.blocks) (each_drop P (first_block r.direction key r.index.blocks) r.index.blocks all)
    go false = all

one_sound : (key : List ℕ) (r : RunState) (image : Image) (file at : ℕ) → IsLive image r → IsOffenceIn r (touched key r) image file at → ⊥
one_sound key r image file at live here =
    let o = here.1 (gapless_index r image live.index) in
    let parts = run_parts r.entries (image r.file) (run_list r image) r.index live.run.0 (structure r image live.index) in
    let good : versions_at (image r.file) (get_or (touched key r) o.0 no_block) ≡ Ok (list_at (image r.file) (get_or (touched key r) o.0 no_block)) = each_at (λ (b : Indexed). versions_at (image r.file) b ≡ Ok (list_at (image r.file) b)) (touched key r) o.0 o.1 (each_touched (λ (b : Indexed). versions_at (image r.file) b ≡ Ok (list_at (image r.file) b)) key r parts.lists.blocks) in
    let bad : versions_at (image r.file) (get_or (touched key r) o.0 no_block) ≡ Err at = subst (λ (f : ℕ). versions_at (image f) (get_or (touched key r) o.0 no_block) ≡ Err at) here.0 o.2 in
    let none : Err at ≡ Ok (list_at (image r.file) (get_or (touched key r) o.0 no_block)) = sym bad ∙ good in
    cc

pub all_sound : (key : List ℕ) (rs : List RunState) (image : Image) (file at : ℕ) → AreLive image rs → HasKeyOffence key rs image file at → ⊥
all_sound key [] image file at live any = any
all_sound key (r ∷ rs) image file at live (inl here) = one_sound key r image file at live.0 here
all_sound key (r ∷ rs) image file at live (inr later) = all_sound key rs image file at live.1 later
