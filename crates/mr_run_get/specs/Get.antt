-- What a look-up in a run reads, and what it leaves in the cache.
use Rattle.std.specs.Prelude.{◌≡◌, ℕ, ◌+◌, ◌-◌, ◌<◌, ◌≤◌, List, [], ◌∷◌, length, get_or, take, drop, map, IsSome, Result, Ok, Err}
use Rattle.mr_base.specs.Disk.{Image}
use Rattle.mr_base.specs.declared.stop.Stop.{Stop}
use Rattle.mr_base.specs.declared.stop.Stop.TheVariants.{Memory, Disk, Full, Damaged}
use Rattle.mr_iter.specs.Versions.{Version}
use Rattle.mr_block.specs.Block.{block_in}
use Rattle.mr_run_file.specs.Reading.{Indexed, block_at, versions_at}
use Rattle.mr_run_open.specs.Runs.{RunState, no_block, blocks_with}
use Rattle.mr_run_open.specs.Blocks.{judged}
use Rattle.mr_block_cache.specs.declared.span.FileSpan.{FileSpan}
use Rattle.mr_block_cache.specs.Cache.{CachedBlock, held}

-- the blocks from one up to another
abbrev pub between : ℕ → ℕ → List Indexed → List Indexed
between first behind bs = take (behind - first) (drop first bs)

-- where a block of a file stands
abbrev pub span_of : ℕ → Indexed → FileSpan
span_of file b = record { file = file; place = b.place; size = b.size }

-- how many bytes the blocks have
abbrev pub sizes : List Indexed → ℕ
sizes [] = 0
sizes (b ∷ bs) = b.size + sizes bs

-- the block that the file has there, or its first offence
abbrev pub read_in : List ℕ → Indexed → Result (List Version) ℕ
read_in bytes b = block_in (block_at bytes b)

-- these are the blocks that the file has there
abbrev pub AreRead : List ℕ → List Indexed → List (List Version) → Type 0
AreRead bytes bs vss = map (read_in bytes) bs ≡ map Ok vss

-- blocks that lie one after the other, from a place on
abbrev pub AreAdjacent : ℕ → List Indexed → Type 0
AreAdjacent at [] = Unit {0}
AreAdjacent at (b ∷ bs) = (b.place ≡ at) × AreAdjacent (at + b.size) bs

-- Its blocks lie one after the other from the file's start, as those of each index that was read.
abbrev pub IsGapless : RunState → Type 0
IsGapless r = AreAdjacent 0 r.index.blocks

-- an offence of one of these blocks of the run
abbrev pub IsOffenceIn : RunState → List Indexed → Image → ℕ → ℕ → Type 0
IsOffenceIn r bs image file at = (file ≡ r.file) × (IsGapless r → (i : ℕ) × (i < length bs) × (versions_at (image file) (get_or bs i no_block) ≡ Err at))

-- a block that stands at a place of bytes that were read
abbrev pub cut_at : List ℕ → ℕ → Indexed → Result (List Version) ℕ
cut_at bytes from b = judged b.place b.key (take b.size (drop from bytes))

-- the blocks one after the other
abbrev pub all_cut : List ℕ → ℕ → List Indexed → List (Result (List Version) ℕ)
all_cut bytes from [] = []
all_cut bytes from (b ∷ bs) = cut_at bytes from b ∷ all_cut bytes (from + b.size) bs

-- a stop of cutting this block: damage at its first offence
abbrev pub IsCutStop : ℕ → List ℕ → ℕ → Indexed → Stop → Type 0
IsCutStop file bytes from b Memory = Unit {0}
IsCutStop file bytes from b Disk = ⊥
IsCutStop file bytes from b (Full what at limit) = ⊥
IsCutStop file bytes from b (Damaged f at) = (f ≡ file) × (cut_at bytes from b ≡ Err at)

-- a stop of cutting these blocks
abbrev pub AreCutStops : ℕ → List ℕ → List Indexed → Stop → Type 0
AreCutStops file bytes bs Memory = Unit {0}
AreCutStops file bytes bs Disk = ⊥
AreCutStops file bytes bs (Full what at limit) = ⊥
AreCutStops file bytes bs (Damaged f at) = (f ≡ file) × ((i : ℕ) × (i < length bs) × (cut_at bytes (sizes (take i bs)) (get_or bs i no_block) ≡ Err at))

-- the cache holds the blocks from one up to another
abbrev pub AllHeld : RunState → List CachedBlock → ℕ → ℕ → Type 0
AllHeld r cs first behind = (k : ℕ) → first ≤ k → k < behind → IsSome (held (span_of r.file (get_or r.index.blocks k no_block)) cs)

-- the blocks in which a key can stand
abbrev pub key_blocks : RunState → List ℕ → List Indexed
key_blocks r key = blocks_with r.direction key r.index.blocks

-- where these blocks of the run stand
abbrev pub spans_of : RunState → List Indexed → List FileSpan
spans_of r bs = map (span_of r.file) bs
