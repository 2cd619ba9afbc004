-- Blocks that are cut out of bytes, one after the other.
use Rattle.std.proofs.Common.{◌≡◌, ℕ, zero, suc, ◌+◌, ◌-◌, ◌<◌, ◌≤◌, List, [], ◌∷◌, ◌++◌, length, take, drop, get_or, map, refl, sym, ◌∙◌, ap, arith, Result, Ok}
use Rattle.std.proofs.lemmas.List.{take-take, length-take, length-append}
use Rattle.mr_base.specs.declared.stop.Stop.{Stop}
use Rattle.mr_base.specs.declared.stop.Stop.TheVariants.{Memory, Disk, Full, Damaged}
use Rattle.mr_iter.specs.Versions.{Version}
use Rattle.mr_run_file.specs.Reading.{Indexed}
use Rattle.mr_run_open.specs.Runs.{no_block}
use Rattle.mr_run_get.specs.Get.{between, sizes, cut_at, all_cut, IsCutStop, AreCutStops}
use Rattle.mr_run_get.proofs.Between.{between_next, sizes_next, cut_more, get_behind, length_behind}

ok_more : (vss : List (List Version)) (vs : List Version) → let front : List (Result (List Version) ℕ) = map Ok vss in let whole : List (Result (List Version) ℕ) = map Ok (vss ++ vs ∷ []) in front ++ Ok vs ∷ [] ≡ whole
ok_more [] vs = refl
ok_more (ws ∷ vss) vs = ap (λ (rs : List (Result (List Version) ℕ)). Ok ws ∷ rs) (ok_more vss vs)

pub get_front : (n k : ℕ) (bs : List Indexed) → k < n → get_or (take n bs) k no_block ≡ get_or bs k no_block
get_front zero k bs lt = absurd (omega (arith, lt))
get_front (suc n) k [] lt = refl
get_front (suc n) zero (b ∷ bs) lt = refl
get_front (suc n) (suc k) (b ∷ bs) lt = get_front n k bs (omega (arith, lt))

pub length_between : (low high : ℕ) (bs : List Indexed) → high ≤ length bs → length (between low high bs) ≡ high - low
length_between low high bs le = omega (arith, le, length-take (high - low) (drop low bs), length_behind low bs)

pub get_between : (low high i : ℕ) (bs : List Indexed) → low ≤ i → i < high → get_or (between low high bs) (i - low) no_block ≡ get_or bs i no_block
get_between low high i bs le lt =
    let at : low + (i - low) ≡ i = omega (arith, le) in
    get_front (high - low) (i - low) (drop low bs) (omega (arith, le, lt)) ∙ get_behind low (i - low) bs ∙ ap (λ (k : ℕ). get_or bs k no_block) at

pub cut_next : (bytes : List ℕ) (low i from size : ℕ) (bs : List Indexed) (vss ws : List (List Version)) (vs : List Version) → low ≤ i → i < length bs → from ≡ sizes (between low i bs) →
    all_cut bytes 0 (between low i bs) ≡ map Ok vss → length vss ≡ i - low → cut_at bytes from (get_or bs i no_block) ≡ Ok vs → ws ≡ vss ++ vs ∷ [] → size ≡ (get_or bs i no_block).size →
    (from + size ≡ sizes (between low (i + 1) bs)) × (all_cut bytes 0 (between low (i + 1) bs) ≡ map Ok ws) × (length ws ≡ (i + 1) - low)
cut_next bytes low i from size bs vss ws vs le lt total before count cut now long =
    let b = get_or bs i no_block in
    let at : 0 + sizes (between low i bs) ≡ from = omega (arith, total) in (
      omega (arith, sizes_next low i bs le lt, total, long),
      ap (all_cut bytes 0) (between_next low i bs le lt)
          ∙ cut_more bytes 0 (between low i bs) (get_or bs i no_block)
          ∙ ap (λ (rs : List (Result (List Version) ℕ)). rs ++ cut_at bytes (0 + sizes (between low i bs)) (get_or bs i no_block) ∷ []) before
          ∙ ap (λ (n : ℕ). map Ok vss ++ cut_at bytes n (get_or bs i no_block) ∷ []) at
          ∙ ap (λ (r : Result (List Version) ℕ). map Ok vss ++ r ∷ []) cut
          ∙ ok_more vss vs
          ∙ ap (λ (us : List (List Version)). map Ok us) (sym now),
      omega (arith, le, count, ap length now, length-append vss (vs ∷ [])),
    )

pub cut_stops : (file : ℕ) (bytes : List ℕ) (low i high from : ℕ) (bs : List Indexed) (stop : Stop) → low ≤ i → i < high → high ≤ length bs → from ≡ sizes (between low i bs) → IsCutStop file bytes from (get_or bs i no_block) stop → AreCutStops file bytes (between low high bs) stop
cut_stops file bytes low i high from bs Memory le lt within total is = tt
cut_stops file bytes low i high from bs Disk le lt within total is = is
cut_stops file bytes low i high from bs (Full what at limit) le lt within total is = is
cut_stops file bytes low i high from bs (Damaged f at) le lt within total is =
    let front : take (i - low) (between low high bs) ≡ between low i bs = take-take (i - low) (high - low) (drop low bs) (omega (arith, le, lt)) in
    let start : sizes (take (i - low) (between low high bs)) ≡ from = ap sizes front ∙ sym total in (
      is.0,
      (
        i - low,
        omega (arith, le, lt, length_between low high bs within),
        ap (λ (n : ℕ). cut_at bytes n (get_or (between low high bs) (i - low) no_block)) start ∙ ap (cut_at bytes from) (get_between low high i bs le lt) ∙ is.1,
      ),
    )
