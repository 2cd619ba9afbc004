-- What stands in the blocks of a run, by blocks that were read.
use Rattle.std.proofs.Common.{◌≡◌, ℕ, zero, suc, ◌+◌, ◌-◌, ◌<◌, ◌≤◌, ◌==◌, true, List, [], ◌∷◌, ◌++◌, length, take, drop, map, min, Option, None, refl, sym, ◌∙◌, ap, subst, arith, Result, Ok, IfOk}
use Rattle.std.specs.List.{AllByRecursion}
use Rattle.mr_base.specs.Disk.{Image, State}
use Rattle.mr_base.specs.Calls.{Counts}
use Rattle.mr_base.specs.declared.stop.Direction.{Direction}
use Rattle.mr_base.specs.declared.stop.Stop.{Stop}
use Rattle.mr_base.specs.declared.stop.Stop.TheVariants.{Memory, Disk, Full, Damaged}
use Rattle.std.specs.Option.{option_map}
use Rattle.mr_block.specs.Held.{Held, version_held}
use Rattle.mr_iter.specs.Cursors.{MayStop}
use Rattle.mr_iter.specs.Versions.{Version, version_cmp, IsInOrder, joined}
use Rattle.mr_iter.specs.Newest.{newest}
use Rattle.mr_run_file.specs.Reading.{Indexed, demand, structure_in, IsRun, versions_at}
use Rattle.mr_run_open.specs.Runs.{RunState, HasIndex, first_block, behind_block, blocks_with, are_in_order}
use Rattle.mr_run_open.specs.Blocks.{list_at, lists_of, AreBlocks}
use Rattle.mr_run_open.proofs.Indexing.{bound, ok_same}
use Rattle.mr_run_open.proofs.Ranges.{run_parts, run_order, in_order, newest_in_blocks, order_split, lists-split}
use Rattle.mr_run_get.specs.Get.{between, sizes, read_in, AreRead, IsOffenceIn}
use Rattle.mr_run_get.proofs.Between.{get_behind}
use Rattle.mr_run_get.proofs.Cutting.{get_front, length_between}
use Rattle.mr_run_get.proofs.Spans.{read_of, if_ok}

append_none : (vs : List Version) → vs ++ [] ≡ vs
append_none [] = refl
append_none (v ∷ vs) = ap (λ (ws : List Version). v ∷ ws) (append_none vs)

-- bytes have one list of blocks at the most
pub reads_same : (bytes : List ℕ) (bs : List Indexed) (vss wss : List (List Version)) → AreRead bytes bs vss → AreRead bytes bs wss → vss ≡ wss
reads_same bytes [] [] [] one two = refl
reads_same bytes [] [] (ws ∷ wss) one two = cc
reads_same bytes [] (vs ∷ vss) wss one two = cc
reads_same bytes (b ∷ bs) [] wss one two = cc
reads_same bytes (b ∷ bs) (vs ∷ vss) [] one two = cc
reads_same bytes (b ∷ bs) (vs ∷ vss) (ws ∷ wss) one two =
    let here : read_in bytes b ≡ Ok vs = cc in
    let there : read_in bytes b ≡ Ok ws = cc in
    let more : AreRead bytes bs vss = cc in
    let others : AreRead bytes bs wss = cc in
    ap (λ (x : List Version). x ∷ vss) (ok_same (read_in bytes b) vs ws here there) ∙ ap (λ (xs : List (List Version)). ws ∷ xs) (reads_same bytes bs vss wss more others)

pub one_read : (bytes : List ℕ) (bs : List Indexed) (b : Indexed) (vss : List (List Version)) (vs : List Version) → bs ≡ b ∷ [] → AreRead bytes bs vss → read_in bytes b ≡ Ok vs → vss ≡ vs ∷ []
one_read bytes bs b vss vs same are is =
    let one : AreRead bytes (b ∷ []) (vs ∷ []) = ap (λ (r : Result (List Version) ℕ). r ∷ []) is in
    reads_same bytes (b ∷ []) vss (vs ∷ []) (subst (λ (cs : List Indexed). AreRead bytes cs vss) same are) one

pub found_one : (d e : Direction) (number : ℕ) (key : List ℕ) (vss : List (List Version)) (vs : List Version) (o : Option Version) → vss ≡ vs ∷ [] → e ≡ d → AllByRecursion (IsInOrder (version_cmp d)) vss → (IsInOrder (version_cmp e) vs → o ≡ newest number key vs) → o ≡ newest number key (joined vss)
found_one d e number key vss vs o same way ordered law =
    let all : AllByRecursion (IsInOrder (version_cmp d)) (vs ∷ []) = subst (AllByRecursion (IsInOrder (version_cmp d))) same ordered in
    law (subst (λ (x : Direction). IsInOrder (version_cmp x) vs) (sym way) all.0)
    ∙ ap (newest number key) (sym (append_none vs))
    ∙ ap (λ (ws : List (List Version)). newest number key (joined ws)) (sym same)

pub found_many : (d e : Direction) (number : ℕ) (key : List ℕ) (vss wss : List (List Version)) (o : Option Version) → vss ≡ wss → e ≡ d → AllByRecursion (IsInOrder (version_cmp d)) vss → (AllByRecursion (IsInOrder (version_cmp e)) wss → o ≡ newest number key (joined wss)) → o ≡ newest number key (joined vss)
found_many d e number key vss wss o same way ordered law =
    law (subst (λ (x : Direction). AllByRecursion (IsInOrder (version_cmp x)) wss) (sym way) (subst (AllByRecursion (IsInOrder (version_cmp d))) same ordered))
    ∙ ap (λ (ws : List (List Version)). newest number key (joined ws)) (sym same)

-- ---- the blocks of a run in which a key can stand

blocks_take : (file : List ℕ) (n : ℕ) (bs : List Indexed) → AreBlocks file bs → AreBlocks file (take n bs)
blocks_take file zero bs all = tt
blocks_take file (suc n) [] all = tt
blocks_take file (suc n) (b ∷ bs) all = (all.0, blocks_take file n bs all.1)

blocks_drop : (file : List ℕ) (n : ℕ) (bs : List Indexed) → AreBlocks file bs → AreBlocks file (drop n bs)
blocks_drop file zero bs all = all
blocks_drop file (suc n) [] all = tt
blocks_drop file (suc n) (b ∷ bs) all = blocks_drop file n bs all.1

all_joined : (file : List ℕ) (bs : List Indexed) → lists_of file bs ≡ joined (map (list_at file) bs)
all_joined file [] = refl
all_joined file (b ∷ bs) = ap (λ (ws : List Version). list_at file b ++ ws) (all_joined file bs)

all_there : (file : List ℕ) (bs : List Indexed) → AreBlocks file bs → AreRead file bs (map (list_at file) bs)
all_there file [] all = refl
all_there file (b ∷ bs) all =
    ap (λ (r : Result (List Version) ℕ). r ∷ map (read_in file) bs) (read_of file b (list_at file b) all.0)
    ∙ ap (λ (rs : List (Result (List Version) ℕ)). Ok (list_at file b) ∷ rs) (all_there file bs all.1)

each_in_order : (d : Direction) (file : List ℕ) (bs : List Indexed) → IsInOrder (version_cmp d) (lists_of file bs) → AllByRecursion (IsInOrder (version_cmp d)) (map (list_at file) bs)
each_in_order d file [] order = tt
each_in_order d file (b ∷ bs) order = let parts = order_split d (list_at file b) (lists_of file bs) order in (parts.0, each_in_order d file bs parts.1)

-- the blocks from one up to another of a run's file, and what of the key they have
pub record Stand (d : Direction) (file : List ℕ) (bs : List Indexed) (number : ℕ) (key : List ℕ) (vs : List Version) : Type 0 where
  pub lists : List (List Version)
  pub read : AreRead file bs lists
  pub ordered : AllByRecursion (IsInOrder (version_cmp d)) lists
  pub newest_is : newest number key vs ≡ newest number key (joined lists)

structure_of : (r : RunState) (image : Image) → HasIndex r image → structure_in r.entries (image r.file) ≡ Ok r.index
structure_of r image has = (bound (demand (length (image r.file) == r.length) (min (length (image r.file)) r.length)) _ r.index has).next

pub in_order_by : (r : RunState) (image : Image) (vs : List Version) → HasIndex r image → IsRun r.direction r.entries (image r.file) vs → are_in_order r.direction r.index.blocks ≡ true
in_order_by r image vs has run =
    let parts = run_parts r.entries (image r.file) vs r.index run.0 (structure_of r image has) in
    in_order r.direction (image r.file) r.index.blocks (run_order r.direction (image r.file) r.index.blocks vs parts.lists run.1) parts.lists.begin

pub stand : (r : RunState) (image : Image) (key : List ℕ) (number first behind : ℕ) (vs : List Version) → HasIndex r image → IsRun r.direction r.entries (image r.file) vs →
    first ≡ first_block r.direction key r.index.blocks → behind ≡ behind_block r.direction key r.index.blocks → Stand r.direction (image r.file) (between first behind r.index.blocks) number key vs
stand r image key number first behind vs has run low high =
    let parts = run_parts r.entries (image r.file) vs r.index run.0 (structure_of r image has) in
    let order = run_order r.direction (image r.file) r.index.blocks vs parts.lists run.1 in
    let behind_first = (order_split r.direction (lists_of (image r.file) (take first r.index.blocks)) (lists_of (image r.file) (drop first r.index.blocks)) (subst (IsInOrder (version_cmp r.direction)) (lists-split (image r.file) first r.index.blocks) order)).1 in
    let within = (order_split r.direction (lists_of (image r.file) (between first behind r.index.blocks)) (lists_of (image r.file) (drop (behind - first) (drop first r.index.blocks))) (subst (IsInOrder (version_cmp r.direction)) (lists-split (image r.file) (behind - first) (drop first r.index.blocks)) behind_first)).0 in
    let these : blocks_with r.direction key r.index.blocks ≡ between first behind r.index.blocks =
    ap (λ (n : ℕ). between n (behind_block r.direction key r.index.blocks) r.index.blocks) (sym low) ∙ ap (λ (n : ℕ). between first n r.index.blocks) (sym high) in
    record {
      lists = map (list_at (image r.file)) (between first behind r.index.blocks);
      read = all_there (image r.file) (between first behind r.index.blocks) (blocks_take (image r.file) (behind - first) (drop first r.index.blocks) (blocks_drop (image r.file) first r.index.blocks parts.lists.blocks));
      ordered = each_in_order r.direction (image r.file) (between first behind r.index.blocks) within;
      newest_is = ap (newest number key) parts.lists.list
          ∙ newest_in_blocks r.direction number key (image r.file) r.index.blocks order parts.lists.begin
          ∙ ap (λ (bs : List Indexed). newest number key (lists_of (image r.file) bs)) these
          ∙ ap (newest number key) (all_joined (image r.file) (between first behind r.index.blocks));
    }

pub between_empty : (first behind : ℕ) (bs : List Indexed) → behind ≤ first → between first behind bs ≡ []
between_empty first behind bs le = let e : behind - first ≡ 0 = omega (arith, le) in ap (λ (k : ℕ). take k (drop first bs)) e

pub found_none : (d : Direction) (file : List ℕ) (bs : List Indexed) (number : ℕ) (key : List ℕ) (vs : List Version) → Stand d file bs number key vs → bs ≡ [] → None ≡ newest number key vs
found_none d file bs number key vs there none =
    let read : AreRead file [] there.lists = subst (λ (cs : List Indexed). AreRead file cs there.lists) none there.read in
    sym (there.newest_is ∙ ap (λ (vss : List (List Version)). newest number key (joined vss)) (reads_same file [] there.lists [] read refl))

pub found_there : (d : Direction) (file : List ℕ) (bs : List Indexed) (number : ℕ) (key : List ℕ) (vs : List Version) (r : Result (Option Held) Stop) → (there : Stand d file bs number key vs) →
    IfOk r (λ f. option_map version_held f ≡ newest number key (joined there.lists)) → IfOk r (λ f. option_map version_held f ≡ newest number key vs)
found_there d file bs number key vs r there is = if_ok r (λ f. option_map version_held f ≡ newest number key (joined there.lists)) (λ f. option_map version_held f ≡ newest number key vs) (λ f e. e ∙ sym there.newest_is) is

-- ---- what is said of some blocks is said of all

sizes_front : (n : ℕ) (bs : List Indexed) → sizes (take n bs) ≤ sizes bs
sizes_front zero bs = omega arith
sizes_front (suc n) [] = omega arith
sizes_front (suc n) (b ∷ bs) = omega (arith, sizes_front n bs)

sizes_back : (n : ℕ) (bs : List Indexed) → sizes (drop n bs) ≤ sizes bs
sizes_back zero bs = omega arith
sizes_back (suc n) [] = omega arith
sizes_back (suc n) (b ∷ bs) = omega (arith, sizes_back n bs)

pub counts_all : (low high : ℕ) (bs : List Indexed) (old new : State) → Counts 1 (sizes (between low high bs)) 0 old new → Counts 1 (sizes bs) 0 old new
counts_all low high bs old new c = record {
  tells = c.tells;
  faults = c.faults;
  emit_faults = c.emit_faults;
  reads = c.reads;
  asked = (c.asked.0, omega (arith, c.asked.1, sizes_front (high - low) (drop low bs), sizes_back low bs));
  syncs = c.syncs;
}

pub stops_all : (r : RunState) (low high : ℕ) (old new : State) (stop : Stop) → high ≤ length r.index.blocks → MayStop (IsOffenceIn r (between low high r.index.blocks)) old new stop → MayStop (IsOffenceIn r r.index.blocks) old new stop
stops_all r low high old new Memory within is = tt
stops_all r low high old new Disk within is = is
stops_all r low high old new (Full what most limit) within is = is
stops_all r low high old new (Damaged f place) within is = record {
  image = is.image;
  told = is.told;
  offence = (
    is.offence.0,
    λ gapless.
        let found = is.offence.1 gapless in
        let lt : found.0 < high - low = omega (arith, found.1, length_between low high r.index.blocks within) in (
          low + found.0,
          omega (arith, lt, within),
          ap (λ (b : Indexed). versions_at (is.image f) b) (sym (get_front (high - low) found.0 (drop low r.index.blocks) lt ∙ get_behind low found.0 r.index.blocks)) ∙ found.2,
        ),
  );
}
