-- The blocks of an index that was read lie one after the other.
use Rattle.std.proofs.Common.{◌≡◌, ℕ, zero, suc, ◌+◌, ◌==◌, List, [], ◌∷◌, length, take, drop, min, subst, refl, Result, Ok, Err}
use Rattle.mr_base.specs.Disk.{Image}
use Rattle.mr_block.specs.Block.{key_in}
use Rattle.mr_run_file.specs.Reading.{Indexed, Index, demand, indexed_in, all_indexed_in, index_in, counted_to, footer_at, footer_number, footer_in}
use Rattle.mr_run_open.specs.Runs.{RunState, HasIndex}
use Rattle.mr_run_open.proofs.Indexing.{bound, ok_same, block_stands}
use Rattle.mr_run_get.specs.Get.{AreAdjacent, IsGapless}

all_adjacent : (end n at : ℕ) (bytes : List ℕ) (r : List Indexed × List ℕ) → all_indexed_in end n at bytes ≡ Ok r → AreAdjacent at r.0
all_adjacent end zero at bytes r is = subst (λ (p : List Indexed × List ℕ). AreAdjacent at p.0) (ok_same _ ([], bytes) r refl is) tt
all_adjacent end (suc n) at bytes r is =
    let one = bound (indexed_in end n at bytes) _ r is in
    let others = bound (all_indexed_in end n (at + one.x.0.size) one.x.1) _ r one.next in
    let same : (one.x.0 ∷ others.x.0, others.x.1) ≡ r = ok_same _ _ _ refl others.next in
    let here = block_stands end n at bytes one.x one.now in
    subst (λ (p : List Indexed × List ℕ). AreAdjacent at p.0) same (here.0, all_adjacent end n (at + one.x.0.size) one.x.1 others.x others.now)

counted : {X : Type 0} (end : ℕ) (r : Result X ℕ) (x : X) → counted_to end r ≡ Ok x → r ≡ Ok x
counted end (Ok y) x is = is
counted end (Err left) x is = cc

index_adjacent : (end n : ℕ) (bytes : List ℕ) (x : Index) → index_in end n bytes ≡ Ok x → AreAdjacent 0 x.blocks
index_adjacent end n bytes x is =
    let all = bound (all_indexed_in end n 0 bytes) _ x is in
    let last = bound (key_in all.x.1) _ x all.next in
    let none_left = bound (demand (length last.x.1 == 0) (length last.x.1)) _ x last.next in
    let same : record { blocks = all.x.0; last = last.x.0 } ≡ x = ok_same _ _ _ refl none_left.next in
    subst (λ (y : Index). AreAdjacent 0 y.blocks) same (all_adjacent end n 0 bytes all.x all.now)

pub gapless_index : (r : RunState) (image : Image) → HasIndex r image → IsGapless r
gapless_index r image has =
    let file = image r.file in
    let whole = bound (demand (length (image r.file) == r.length) (min (length (image r.file)) r.length)) _ r.index has in
    let footer = bound (footer_in r.entries (image r.file)) _ r.index whole.next in
    index_adjacent (footer_number 0 (image r.file)) (footer_number 2 (image r.file)) (take (footer_number 1 (image r.file)) (drop (footer_number 0 (image r.file)) (image r.file))) r.index
    (counted (footer_at (image r.file)) (index_in (footer_number 0 (image r.file)) (footer_number 2 (image r.file)) (take (footer_number 1 (image r.file)) (drop (footer_number 0 (image r.file)) (image r.file)))) r.index footer.next)
