-- A cache before and after a block goes to the front, and what stops of one block say of many.
use Rattle.std.proofs.Common.{◌≡◌, ◌≢◌, ℕ, zero, suc, ◌+◌, ◌<◌, ◌≤◌, ◌-◌, List, [], ◌∷◌, ◌++◌, length, take, drop, get_or, map, true, true≢false, Option, Some, None, is_some, refl, sym, ◌∙◌, ap, subst, arith, Result, Ok}
use Rattle.std.specs.Option.{option_map_or}
use Rattle.std.specs.Map.{keys_of}
use Rattle.std.specs.List.{list_all}
use Rattle.mr_base.specs.Disk.{State}
use Rattle.mr_base.specs.declared.stop.Stop.{Stop}
use Rattle.mr_base.specs.declared.stop.Stop.TheVariants.{Memory, Disk, Full, Damaged}
use Rattle.mr_iter.specs.Versions.{Version}
use Rattle.mr_iter.specs.Places.{and_split}
use Rattle.mr_iter.specs.Cursors.{MayStop}
use Rattle.mr_block.specs.Block.{block_in}
use Rattle.mr_block_cache.specs.declared.span.FileSpan.{FileSpan}
use Rattle.mr_block_cache.specs.Cache.{CachedBlock, held, with_block, brought, with_span, with_spans, AgreesWith, IsWarm}
use Rattle.mr_block_cache.proofs.Holding.{agrees_put, agrees_held, agrees_brought, spans_put, spans_brought, with_more}
use Rattle.mr_run_file.specs.Reading.{Indexed, versions_at}
use Rattle.mr_run_open.specs.Runs.{RunState, no_block}
use Rattle.mr_run_open.specs.Blocks.{IsBlockOffence}
use Rattle.mr_run_get.specs.Get.{between, span_of, spans_of, read_in, AreRead, IsOffenceIn}
use Rattle.mr_run_get.proofs.Between.{between_next, between_none}
use Rattle.mr_run_get.proofs.Cutting.{get_between, length_between}

-- ---- the cache

pub missed : (span : FileSpan) (cs mid : List CachedBlock) → None ≡ held span cs → mid ≡ brought span cs → mid ≡ cs
missed span cs mid none front = front ∙ ap (λ (o : Option (List Version)). option_map_or (λ (vs : List Version). with_block span vs cs) o cs) (sym none)

pub order_hit : (span : FileSpan) (vs : List Version) (old new : List CachedBlock) → Some vs ≡ held span old → new ≡ brought span old → keys_of new ≡ with_span span (keys_of old)
order_hit span vs old new found front = ap (λ (cs : List CachedBlock). keys_of cs) front ∙ spans_brought span vs old (sym found)

pub order_put : (span : FileSpan) (vs : List Version) (old mid new : List CachedBlock) → mid ≡ old → new ≡ with_block span vs mid → keys_of new ≡ with_span span (keys_of old)
order_put span vs old mid new stays put = ap (λ (cs : List CachedBlock). keys_of cs) put ∙ spans_put span vs mid ∙ ap (λ (cs : List CachedBlock). with_span span (keys_of cs)) stays

pub agrees_found : (file : ℕ) (bytes : List ℕ) (span : FileSpan) (old new : List CachedBlock) → new ≡ brought span old → AgreesWith file bytes old → AgreesWith file bytes new
agrees_found file bytes span old new front agrees = subst (λ (cs : List CachedBlock). AgreesWith file bytes cs) (sym front) (agrees_brought file bytes span old agrees)

pub agrees_read : (file : ℕ) (bytes : List ℕ) (span : FileSpan) (vs : List Version) (old new : List CachedBlock) → new ≡ with_block span vs old → (span.file ≡ file → block_in (take span.size (drop span.place bytes)) ≡ Ok vs) → AgreesWith file bytes old → AgreesWith file bytes new
agrees_read file bytes span vs old new put own agrees = subst (λ (cs : List CachedBlock). AgreesWith file bytes cs) (sym put) (agrees_put file bytes span vs old own agrees)

pub agrees_same : (file : ℕ) (bytes : List ℕ) (old new : List CachedBlock) → new ≡ old → AgreesWith file bytes old → AgreesWith file bytes new
agrees_same file bytes old new same agrees = subst (λ (cs : List CachedBlock). AgreesWith file bytes cs) (sym same) agrees

-- the block that is held is the one that the file has
pub read_held : (file : ℕ) (bytes : List ℕ) (b : Indexed) (vs : List Version) (cs : List CachedBlock) → AgreesWith file bytes cs → held (span_of file b) cs ≡ Some vs → read_in bytes b ≡ Ok vs
read_held file bytes b vs cs agrees is = agrees_held file bytes (span_of file b) vs cs agrees is refl

pub reads_held : (r : RunState) (bytes : List ℕ) (bs : List Indexed) (vss : List (List Version)) (cs : List CachedBlock) → AgreesWith r.file bytes cs → map (λ s. held s cs) (spans_of r bs) ≡ map Some vss → AreRead bytes bs vss
reads_held r bytes [] [] cs agrees is = refl
reads_held r bytes [] (vs ∷ vss) cs agrees is = cc
reads_held r bytes (b ∷ bs) [] cs agrees is = cc
reads_held r bytes (b ∷ bs) (vs ∷ vss) cs agrees is =
    let one : held (span_of r.file b) cs ≡ Some vs = cc in
    let more : map (λ s. held s cs) (spans_of r bs) ≡ map Some vss = cc in
    ap (λ (x : Result (List Version) ℕ). x ∷ map (read_in bytes) bs) (read_held r.file bytes b vs cs agrees one) ∙ ap (λ (xs : List (Result (List Version) ℕ)). Ok vs ∷ xs) (reads_held r bytes bs vss cs agrees more)

some_more : (vss : List (List Version)) (vs : List Version) → let front : List (Option (List Version)) = map Some vss in let whole : List (Option (List Version)) = map Some (vss ++ vs ∷ []) in front ++ Some vs ∷ [] ≡ whole
some_more [] vs = refl
some_more (ws ∷ vss) vs = ap (λ (os : List (Option (List Version))). Some ws ∷ os) (some_more vss vs)

held_more : (r : RunState) (cs : List CachedBlock) (bs : List Indexed) (b : Indexed) → map (λ s. held s cs) (spans_of r (bs ++ b ∷ [])) ≡ map (λ s. held s cs) (spans_of r bs) ++ held (span_of r.file b) cs ∷ []
held_more r cs [] b = refl
held_more r cs (c ∷ bs) b = ap (λ (os : List (Option (List Version))). held (span_of r.file c) cs ∷ os) (held_more r cs bs b)

pub shared_next : (r : RunState) (cs : List CachedBlock) (first i : ℕ) (span : FileSpan) (vss ws : List (List Version)) (vs : List Version) → first ≤ i → i < length r.index.blocks →
    map (λ s. held s cs) (spans_of r (between first i r.index.blocks)) ≡ map Some vss → span ≡ span_of r.file (get_or r.index.blocks i no_block) → held span cs ≡ Some vs → ws ≡ vss ++ vs ∷ [] →
    map (λ s. held s cs) (spans_of r (between first (i + 1) r.index.blocks)) ≡ map Some ws
shared_next r cs first i span vss ws vs le lt before at is now =
    ap (λ (bs : List Indexed). map (λ s. held s cs) (spans_of r bs)) (between_next first i r.index.blocks le lt)
    ∙ held_more r cs (between first i r.index.blocks) (get_or r.index.blocks i no_block)
    ∙ ap (λ (os : List (Option (List Version))). os ++ held (span_of r.file (get_or r.index.blocks i no_block)) cs ∷ []) before
    ∙ ap (λ (o : Option (List Version)). map Some vss ++ o ∷ []) (ap (λ (s : FileSpan). held s cs) (sym at) ∙ is)
    ∙ some_more vss vs
    ∙ ap (λ (us : List (List Version)). map Some us) (sym now)

-- ---- many blocks that go to the front

spans_more : (r : RunState) (bs : List Indexed) (b : Indexed) → spans_of r (bs ++ b ∷ []) ≡ spans_of r bs ++ span_of r.file b ∷ []
spans_more r [] b = refl
spans_more r (c ∷ bs) b = ap (λ (ss : List FileSpan). span_of r.file c ∷ ss) (spans_more r bs b)

pub order_none : (r : RunState) (first : ℕ) (ss : List FileSpan) → ss ≡ with_spans (spans_of r (between first first r.index.blocks)) ss
order_none r first ss = sym (ap (λ (bs : List Indexed). with_spans (spans_of r bs) ss) (between_none first r.index.blocks))

pub order_next : (r : RunState) (first i : ℕ) (span : FileSpan) (vs : List Version) (start mid new : List CachedBlock) → first ≤ i → i < length r.index.blocks →
    keys_of mid ≡ with_spans (spans_of r (between first i r.index.blocks)) (keys_of start) → span ≡ span_of r.file (get_or r.index.blocks i no_block) → new ≡ with_block span vs mid →
    keys_of new ≡ with_spans (spans_of r (between first (i + 1) r.index.blocks)) (keys_of start)
order_next r first i span vs start mid new le lt before at put =
    order_put span vs mid mid new refl put
    ∙ ap (λ (s : FileSpan). with_span s (keys_of mid)) at
    ∙ ap (with_span (span_of r.file (get_or r.index.blocks i no_block))) before
    ∙ sym (with_more (spans_of r (between first i r.index.blocks)) (span_of r.file (get_or r.index.blocks i no_block) ∷ []) (keys_of start))
    ∙ ap (λ (ss : List FileSpan). with_spans ss (keys_of start)) (sym (spans_more r (between first i r.index.blocks) (get_or r.index.blocks i no_block)))
    ∙ ap (λ (bs : List Indexed). with_spans (spans_of r bs) (keys_of start)) (sym (between_next first i r.index.blocks le lt))

read_each : (bytes : List ℕ) (bs : List Indexed) (vss : List (List Version)) (k : ℕ) → AreRead bytes bs vss → k < length bs → read_in bytes (get_or bs k no_block) ≡ Ok (get_or vss k [])
read_each bytes [] vss k are lt = absurd (omega (arith, lt))
read_each bytes (b ∷ bs) [] k are lt = cc
read_each bytes (b ∷ bs) (vs ∷ vss) zero are lt = cc
read_each bytes (b ∷ bs) (vs ∷ vss) (suc k) are lt = let more : AreRead bytes bs vss = cc in read_each bytes bs vss k more (omega (arith, lt))

-- the block that is put is the one that the file has
pub agrees_next : (r : RunState) (bytes : List ℕ) (first behind i : ℕ) (span : FileSpan) (vs : List Version) (vss : List (List Version)) (mid new : List CachedBlock) → first ≤ i → i < behind → behind ≤ length r.index.blocks →
    AreRead bytes (between first behind r.index.blocks) vss → span ≡ span_of r.file (get_or r.index.blocks i no_block) → vs ≡ get_or vss (i - first) [] → new ≡ with_block span vs mid →
    AgreesWith r.file bytes mid → AgreesWith r.file bytes new
agrees_next r bytes first behind i span vs vss mid new le lt within are at is put =
    let here = read_each bytes (between first behind r.index.blocks) vss (i - first) are (omega (arith, le, lt, length_between first behind r.index.blocks within)) in
    let own : read_in bytes (get_or r.index.blocks i no_block) ≡ Ok vs = ap (read_in bytes) (sym (get_between first behind i r.index.blocks le lt)) ∙ here ∙ ap (λ (ws : List Version). Ok ws) (sym is) in
    agrees_read r.file bytes span vs mid new put (λ same. subst (λ (s : FileSpan). block_in (take s.size (drop s.place bytes)) ≡ Ok vs) (sym at) own)

-- a block of another file
pub agrees_other : (r : RunState) (b : Indexed) (file : ℕ) (bytes : List ℕ) (span : FileSpan) (vs : List Version) (mid new : List CachedBlock) → file ≢ r.file → span ≡ span_of r.file b → new ≡ with_block span vs mid → AgreesWith file bytes mid → AgreesWith file bytes new
agrees_other r b file bytes span vs mid new other at put = agrees_read file bytes span vs mid new put (λ same. absurd (other (sym same ∙ ap (λ (s : FileSpan). s.file) at)))

-- ---- one block of many

pub block_stops : (r : RunState) (b : Indexed) (bs : List Indexed) (i : ℕ) (old new : State) (stop : Stop) → i < length bs → get_or bs i no_block ≡ b → MayStop (IsBlockOffence r b) old new stop → MayStop (IsOffenceIn r bs) old new stop
block_stops r b bs i old new Memory lt at is = tt
block_stops r b bs i old new Disk lt at is = is
block_stops r b bs i old new (Full what most limit) lt at is = is
block_stops r b bs i old new (Damaged f place) lt at is = record {
  image = is.image;
  told = is.told;
  offence = (is.offence.0, λ gapless. (i, lt, ap (λ (c : Indexed). versions_at (is.image f) c) at ∙ ap (λ (n : ℕ). versions_at (is.image n) b) is.offence.0 ∙ is.offence.1));
}

-- ---- where all are held

warm_each : (r : RunState) (cs : List CachedBlock) (bs : List Indexed) (k : ℕ) → IsWarm (spans_of r bs) cs → k < length bs → is_some (held (span_of r.file (get_or bs k no_block)) cs) ≡ true
warm_each r cs [] k warm lt = absurd (omega (arith, lt))
warm_each r cs (b ∷ bs) zero warm lt = (and_split (is_some (held (span_of r.file b) cs)) (list_all (λ s. is_some (held s cs)) (spans_of r bs)) warm).0
warm_each r cs (b ∷ bs) (suc k) warm lt = warm_each r cs bs k (and_split (is_some (held (span_of r.file b) cs)) (list_all (λ s. is_some (held s cs)) (spans_of r bs)) warm).1 (omega (arith, lt))

pub not_warm : (r : RunState) (cs : List CachedBlock) (first low behind : ℕ) → first ≤ low → low < behind → behind ≤ length r.index.blocks → held (span_of r.file (get_or r.index.blocks low no_block)) cs ≡ None → IsWarm (spans_of r (between first behind r.index.blocks)) cs → ⊥
not_warm r cs first low behind le lt within none warm =
    let here = warm_each r cs (between first behind r.index.blocks) (low - first) warm (omega (arith, le, lt, length_between first behind r.index.blocks within)) in
    true≢false (sym here ∙ ap (λ (b : Indexed). is_some (held (span_of r.file b) cs)) (get_between first behind low r.index.blocks le lt) ∙ ap (λ (o : Option (List Version)). is_some o) none)

pub one_at : (i : ℕ) (bs : List Indexed) → i < length bs → between i (i + 1) bs ≡ get_or bs i no_block ∷ []
one_at i bs lt = between_next i i bs (omega arith) lt ∙ ap (λ (cs : List Indexed). cs ++ get_or bs i no_block ∷ []) (between_none i bs)

pub warm_one : (r : RunState) (cs : List CachedBlock) (i : ℕ) → i < length r.index.blocks → IsWarm (spans_of r (between i (i + 1) r.index.blocks)) cs → is_some (held (span_of r.file (get_or r.index.blocks i no_block)) cs) ≡ true
warm_one r cs i lt warm = warm_each r cs (get_or r.index.blocks i no_block ∷ []) 0 (subst (λ (bs : List Indexed). IsWarm (spans_of r bs) cs) (one_at i r.index.blocks lt) warm) (omega arith)
