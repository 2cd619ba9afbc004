-- The blocks that a cache holds, the most recently used first.
use Rattle.std.specs.Prelude.{◌≡◌, ◌&&◌, ℕ, Bool, true, List, [], ◌∷◌, cond, take, drop, nat_eq, Option, is_some, Ok}
use Rattle.std.specs.List.{AllByRecursion, list_all, list_any}
use Rattle.std.specs.Option.{option_map_or}
use Rattle.std.specs.Map.{lookup, remove_entry}
use Rattle.mr_iter.specs.Versions.{Version}
use Rattle.mr_block.specs.Block.{block_in}
use Rattle.mr_block_cache.specs.declared.span.FileSpan.{FileSpan}

-- where its bytes stand, and the versions of the block that they are
abbrev pub CachedBlock : Type 0
CachedBlock = FileSpan × List Version

abbrev pub is_same : FileSpan → FileSpan → Bool
is_same s t = nat_eq s.file t.file && (nat_eq s.place t.place && nat_eq s.size t.size)

-- the block of a span, if it is held
abbrev pub held : FileSpan → List CachedBlock → Option (List Version)
held span cs = lookup (is_same span) cs

-- a block goes to the front; the others keep their order, and the last falls out past 1,024
abbrev pub with_block : FileSpan → List Version → List CachedBlock → List CachedBlock
with_block span vs cs = take 1024 ((span, vs) ∷ remove_entry (is_same span) cs)

-- the same where it was held
abbrev pub brought : FileSpan → List CachedBlock → List CachedBlock
brought span cs = option_map_or (λ vs. with_block span vs cs) (held span cs) cs

-- the spans alone: one goes to the front in the same way
abbrev pub without : FileSpan → List FileSpan → List FileSpan
without span [] = []
without span (s ∷ ss) = cond (is_same span s) ss (s ∷ without span ss)

abbrev pub with_span : FileSpan → List FileSpan → List FileSpan
with_span span ss = take 1024 (span ∷ without span ss)

-- each of these goes to the front, one after the other, so that the last of them stands first
abbrev pub with_spans : List FileSpan → List FileSpan → List FileSpan
with_spans [] ss = ss
with_spans (span ∷ spans) ss = with_spans spans (with_span span ss)

abbrev pub is_among : FileSpan → List FileSpan → Bool
is_among span ss = list_any (is_same span) ss

-- all of these blocks are held
abbrev pub IsWarm : List FileSpan → List CachedBlock → Type 0
IsWarm spans cs = list_all (λ span. is_some (held span cs)) spans ≡ true

-- each block that is held of this file is what the file has there
abbrev pub AgreesWith : ℕ → List ℕ → List CachedBlock → Type 0
AgreesWith file bytes cs = AllByRecursion (λ (c : CachedBlock). c.0.file ≡ file → block_in (take c.0.size (drop c.0.place bytes)) ≡ Ok c.1) cs
