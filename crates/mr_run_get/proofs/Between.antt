-- The blocks from one up to another, one by one.
use Rattle.std.proofs.Common.{◌≡◌, ℕ, zero, suc, ◌+◌, ◌-◌, ◌<◌, ◌≤◌, List, [], ◌∷◌, ◌++◌, length, take, drop, get_or, map, refl, sym, ◌∙◌, ap, subst, arith, Result}
use Rattle.std.proofs.lemmas.List.{take-take, drop-drop}
use Rattle.bytes.proofs.Ranges.{drop-take_less}
use Rattle.mr_iter.specs.Versions.{Version}
use Rattle.mr_run_file.specs.Reading.{Indexed, versions_at}
use Rattle.mr_run_open.specs.Runs.{no_block}
use Rattle.mr_run_open.specs.Blocks.{judged}
use Rattle.mr_run_get.specs.Get.{between, sizes, cut_at, all_cut, AreAdjacent}

pub take_next : (n : ℕ) (bs : List Indexed) → n < length bs → take (n + 1) bs ≡ take n bs ++ get_or bs n no_block ∷ []
take_next n [] lt = absurd (omega (arith, lt))
take_next zero (b ∷ bs) lt = refl
take_next (suc n) (b ∷ bs) lt = let e : suc n + 1 ≡ suc (n + 1) = omega arith in ap (λ (k : ℕ). take k (b ∷ bs)) e ∙ ap (λ (cs : List Indexed). b ∷ cs) (take_next n bs (omega (arith, lt)))

pub get_behind : (first n : ℕ) (bs : List Indexed) → get_or (drop first bs) n no_block ≡ get_or bs (first + n) no_block
get_behind zero n bs = let e : 0 + n ≡ n = omega arith in ap (λ (k : ℕ). get_or bs k no_block) (sym e)
get_behind (suc first) n [] = refl
get_behind (suc first) n (b ∷ bs) = let e : suc first + n ≡ suc (first + n) = omega arith in get_behind first n bs ∙ ap (λ (k : ℕ). get_or (b ∷ bs) k no_block) (sym e)

pub length_behind : (first : ℕ) (bs : List Indexed) → length (drop first bs) ≡ length bs - first
length_behind zero bs = omega arith
length_behind (suc first) [] = omega arith
length_behind (suc first) (b ∷ bs) = omega (arith, length_behind first bs)

pub between_next : (first i : ℕ) (bs : List Indexed) → first ≤ i → i < length bs → between first (i + 1) bs ≡ between first i bs ++ get_or bs i no_block ∷ []
between_next first i bs le lt =
    let n : (i + 1) - first ≡ (i - first) + 1 = omega (arith, le) in
    let at : first + (i - first) ≡ i = omega (arith, le) in
    ap (λ (k : ℕ). take k (drop first bs)) n
    ∙ take_next (i - first) (drop first bs) (omega (arith, le, lt, length_behind first bs))
    ∙ ap (λ (b : Indexed). take (i - first) (drop first bs) ++ b ∷ []) (get_behind first (i - first) bs ∙ ap (λ (k : ℕ). get_or bs k no_block) at)

pub between_none : (first : ℕ) (bs : List Indexed) → between first first bs ≡ []
between_none first bs = let e : first - first ≡ 0 = omega arith in ap (λ (k : ℕ). take k (drop first bs)) e

pub sizes_more : (bs cs : List Indexed) → sizes (bs ++ cs) ≡ sizes bs + sizes cs
sizes_more [] cs = omega arith
sizes_more (b ∷ bs) cs = omega (arith, sizes_more bs cs)

pub sizes_next : (first i : ℕ) (bs : List Indexed) → first ≤ i → i < length bs → sizes (between first (i + 1) bs) ≡ sizes (between first i bs) + (get_or bs i no_block).size
sizes_next first i bs le lt = omega (arith, ap sizes (between_next first i bs le lt), sizes_more (between first i bs) (get_or bs i no_block ∷ []))

pub cut_more : (bytes : List ℕ) (from : ℕ) (bs : List Indexed) (b : Indexed) → all_cut bytes from (bs ++ b ∷ []) ≡ all_cut bytes from bs ++ cut_at bytes (from + sizes bs) b ∷ []
cut_more bytes from [] b = let e : from ≡ from + 0 = omega arith in ap (λ (n : ℕ). cut_at bytes n b ∷ []) e
cut_more bytes from (c ∷ bs) b =
    let e : (from + c.size) + sizes bs ≡ from + (c.size + sizes bs) = omega arith in
    ap (λ (rs : List (Result (List Version) ℕ)). cut_at bytes from c ∷ rs) (cut_more bytes (from + c.size) bs b ∙ ap (λ (n : ℕ). all_cut bytes (from + c.size) bs ++ cut_at bytes n b ∷ []) e)

-- in bytes of the file that begin at a place, a block that stands so far behind it
pub cut_is : (file : List ℕ) (start from total : ℕ) (b : Indexed) → b.place ≡ start + from → from + b.size ≤ total → cut_at (take total (drop start file)) from b ≡ versions_at file b
cut_is file start from total b at le =
    ap (λ (xs : List ℕ). judged b.place b.key (take b.size xs)) (drop-take_less (drop start file) from total (omega (arith, le)))
    ∙ ap (judged b.place b.key) (take-take b.size (total - from) (drop from (drop start file)) (omega (arith, le)))
    ∙ ap (λ (xs : List ℕ). judged b.place b.key (take b.size xs)) (drop-drop from start file ∙ ap (λ (n : ℕ). drop n file) (sym at))

pub cuts_are : (file : List ℕ) (start from total : ℕ) (bs : List Indexed) → AreAdjacent (start + from) bs → from + sizes bs ≤ total → all_cut (take total (drop start file)) from bs ≡ map (versions_at file) bs
cuts_are file start from total [] adjoin le = refl
cuts_are file start from total (b ∷ bs) adjoin le =
    let e : (start + from) + b.size ≡ start + (from + b.size) = omega arith in
    let rest = cuts_are file start (from + b.size) total bs (subst (λ (n : ℕ). AreAdjacent n bs) e adjoin.1) (omega (arith, le)) in
    ap (λ (r : Result (List Version) ℕ). r ∷ all_cut (take total (drop start file)) (from + b.size) bs) (cut_is file start from total b adjoin.0 (omega (arith, le)))
    ∙ ap (λ (rs : List (Result (List Version) ℕ)). versions_at file b ∷ rs) rest

-- where block i stands, and that its bytes are among those of all
pub stands_at : (at i : ℕ) (bs : List Indexed) → i < length bs → AreAdjacent at bs → ((get_or bs i no_block).place ≡ at + sizes (take i bs)) × (sizes (take i bs) + (get_or bs i no_block).size ≤ sizes bs)
stands_at at i [] lt adjoin = absurd (omega (arith, lt))
stands_at at zero (b ∷ bs) lt adjoin = (omega (arith, adjoin.0), omega arith)
stands_at at (suc i) (b ∷ bs) lt adjoin = let more = stands_at (at + b.size) i bs (omega (arith, lt)) adjoin.1 in (omega (arith, more.0), omega (arith, more.1))

pub adjacent_behind : (at n : ℕ) (bs : List Indexed) → AreAdjacent at bs → AreAdjacent (at + sizes (take n bs)) (drop n bs)
adjacent_behind at zero bs adjoin = let e : at ≡ at + 0 = omega arith in subst (λ (k : ℕ). AreAdjacent k bs) e adjoin
adjacent_behind at (suc n) [] adjoin = tt
adjacent_behind at (suc n) (b ∷ bs) adjoin = let e : (at + b.size) + sizes (take n bs) ≡ at + (b.size + sizes (take n bs)) = omega arith in subst (λ (k : ℕ). AreAdjacent k (drop n bs)) e (adjacent_behind (at + b.size) n bs adjoin.1)

pub adjacent_front : (at n : ℕ) (bs : List Indexed) → AreAdjacent at bs → AreAdjacent at (take n bs)
adjacent_front at zero bs adjoin = tt
adjacent_front at (suc n) [] adjoin = tt
adjacent_front at (suc n) (b ∷ bs) adjoin = (adjoin.0, adjacent_front (at + b.size) n bs adjoin.1)

-- the blocks from one up to another lie one after the other from the place of the first of them
pub adjacent_between : (low high : ℕ) (bs : List Indexed) → low < length bs → AreAdjacent 0 bs → AreAdjacent (get_or bs low no_block).place (between low high bs)
adjacent_between low high bs lt adjoin =
    subst (λ (k : ℕ). AreAdjacent k (between low high bs)) (sym (stands_at 0 low bs lt adjoin).0) (adjacent_front (0 + sizes (take low bs)) (high - low) (drop low bs) (adjacent_behind 0 low bs adjoin))
