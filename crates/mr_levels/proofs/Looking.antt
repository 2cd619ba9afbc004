-- Looking into runs, one after another.
use Rattle.std.proofs.Common.{◌≡◌, ◌≢◌, ℕ, ◌+◌, ◌<◌, ◌≤◌, Bool, true, false, cond, zero, suc, append_assoc, Vec, Global, nat_eq, List, [], ◌∷◌, ◌++◌, length, map, take, drop, get_or, length-append, refl, sym, ◌∙◌, ap, subst, inl, inr, arith, Option}
use Rattle.std.specs.List.{AllByRecursion}
use Rattle.std.specs.Map.{keys_of}
use Rattle.std.proofs.lemmas.Bool.{cases_Bool, eqb-true, eq-eqb}
use Rattle.std.proofs.lemmas.List.{take-append-drop}
use Rattle.mr_base.specs.Disk.{State, Tells, Image, seen}
use Rattle.mr_base.specs.Calls.{Same, Counts}
use Rattle.mr_base.specs.declared.stop.Direction.{Direction}
use Rattle.mr_base.specs.declared.stop.Stop.{Stop}
use Rattle.mr_base.specs.declared.stop.Stop.TheVariants.{Memory, Disk, Full, Damaged}
use Rattle.mr_base.proofs.Counting.{counts_start, counts_then, counts_more, still_tells, risen_within}
use Rattle.mr_base.proofs.Moments.{same_start, same_then}
use Rattle.mr_iter.specs.Walks.{image_same}
use Rattle.mr_iter.specs.Versions.{Version, joined}
use Rattle.mr_iter.specs.Cursors.{MayStop}
use Rattle.mr_iter.specs.Newest.{newest, later, latest}
use Rattle.mr_iter.specs.MergeFiles.{each_split}
use Rattle.mr_iter.proofs.Newer.{later_assoc, later_none}
use Rattle.mr_run_open.specs.declared.run.Run.{Run}
use Rattle.mr_run_open.specs.Runs.{RunState, HasIndex, are_in_order}
use Rattle.mr_run_file.specs.Reading.{IsRun}
use Rattle.mr_run_cursor.specs.Pinned.{run_list}
use Rattle.mr_run_get.specs.Get.{sizes, spans_of, key_blocks, IsOffenceIn, IsGapless}
use Rattle.mr_run_get.proofs.Gapless.{gapless_index}
use Rattle.mr_block_cache.specs.declared.span.FileSpan.{FileSpan}
use Rattle.mr_block_cache.specs.Cache.{CachedBlock, AgreesWith, IsWarm, with_spans}
use Rattle.mr_block_cache.proofs.Holding.{with_more}
use Rattle.mr_levels.specs.Levels.{IsLive, AreLive}
use Rattle.mr_levels.specs.Looks.{can_hold, with_key, part_of, parts_of, touched, asked_of, key_spans, HasKeyOffence, AreGapless, AgreeWith, Spends, Brings, Finds, newest_in_each}
use Rattle.mr_levels.proofs.Joins.{map_append, joined_append, total_append, latest_append, any_front, any_behind, filter_append, take_next}
use Rattle.mr_levels.proofs.Warmth.{stays_warm, warm_split}

pub live_gapless : (image : Image) (rs : List RunState) → AreLive image rs → AreGapless rs
live_gapless image [] live = tt
live_gapless image (r ∷ rs) live = (gapless_index r image live.0.index, live_gapless image rs live.1)

carry : (image : Image) (cs ds : List CachedBlock) → ((file : ℕ) → AgreesWith file (image file) cs → AgreesWith file (image file) ds) → (rs : List RunState) → AgreeWith image cs rs → AgreeWith image ds rs
carry image cs ds law [] all = tt
carry image cs ds law (r ∷ rs) all = (law r.file all.0, carry image cs ds law rs all.1)

-- a stop of later steps is one of all steps
pub stop_then : (P Q : Image → ℕ → ℕ → Type 0) → ((image : Image) (file at : ℕ) → P image file at → Q image file at) → (r a : ℕ) (s t u : State) → Counts r a 0 s t → (Tells s → Same s t) → (e : Stop) → MayStop P t u e → MayStop Q s u e
stop_then P Q wider r a s t u counts same Memory may = may
stop_then P Q wider r a s t u counts same Disk may = risen_within s.faults t.faults u.faults u.faults counts.faults (omega arith) may
stop_then P Q wider r a s t u counts same (Full what at limit) may = may
stop_then P Q wider r a s t u counts same (Damaged file at) may = record {
  image = may.image;
  told = λ tells. may.told (still_tells r a 0 s t counts tells) ∙ image_same s t (same tells);
  offence = wider may.image file at may.offence;
}

pub stop_wider : (P Q : Image → ℕ → ℕ → Type 0) → ((image : Image) (file at : ℕ) → P image file at → Q image file at) → (s t : State) (e : Stop) → MayStop P s t e → MayStop Q s t e
stop_wider P Q wider s t e may = stop_then P Q wider 0 0 s s t (counts_start s) (λ tells. same_start s) e may

module _ (key : List ℕ) where
  asked_append : (rs qs : List RunState) → asked_of key (rs ++ qs) ≡ asked_of key rs + asked_of key qs
  asked_append rs qs = total_append (λ (r : RunState). sizes (touched key r)) rs qs

  pub spans_append : (rs qs : List RunState) → key_spans key (rs ++ qs) ≡ key_spans key rs ++ key_spans key qs
  spans_append rs qs = ap (λ (ss : List (List FileSpan)). joined ss) (map_append (λ (r : RunState). spans_of r (touched key r)) rs qs) ∙ joined_append (map (λ (r : RunState). spans_of r (touched key r)) rs) (map (λ (r : RunState). spans_of r (touched key r)) qs)

  pub spends_start : (s : State) (cs : List CachedBlock) → Spends key [] s s cs cs
  spends_start s cs = record {
    counts = counts_start s;
    warm = λ sorted few warm. counts_start s;
    same = λ tells. same_start s;
    agrees = λ tells gapless file agree. agree;
    others = λ file bytes none agree. agree;
  }

  pub spends_then : (rs qs : List RunState) (s t u : State) (cs ds es : List CachedBlock) → Spends key rs s t cs ds → Brings key rs cs ds → Spends key qs t u ds es → Spends key (rs ++ qs) s u cs es
  spends_then rs qs s t u cs ds es one brings two = record {
    counts = counts_more (length rs + length qs) (asked_of key rs + asked_of key qs) 0 (length (rs ++ qs)) (asked_of key (rs ++ qs)) 0 s u (same_le (length-append rs qs)) (same_le (asked_append rs qs)) (omega arith)
        (counts_then (length rs) (asked_of key rs) 0 (length qs) (asked_of key qs) 0 s t u one.counts two.counts);
    warm = λ sorted few warm.
        let parts = each_split (λ (r : RunState). are_in_order r.direction r.index.blocks ≡ true) rs qs sorted in
        let warms = warm_split (key_spans key rs) (key_spans key qs) cs (subst (λ (ss : List FileSpan). IsWarm ss cs) (spans_append rs qs) warm) in
        let next = stays_warm (key_spans key rs) (key_spans key qs) cs ds few warms.0 warms.1 (brings parts.0) in
        counts_then 0 0 0 0 0 0 s t u (one.warm parts.0 few warms.0) (two.warm parts.1 next.0 next.1);
    same = λ tells. same_then s t u (one.same tells) (two.same (still_tells (length rs) (asked_of key rs) 0 s t one.counts tells));
    agrees = λ tells gapless file agree.
        let parts = each_split IsGapless rs qs gapless in
        let e : seen t file ≡ seen s file = ap (λ (i : Image). i file) (image_same s t (one.same tells)) in
        subst (λ (bytes : List ℕ). AgreesWith file bytes es) e (two.agrees (still_tells (length rs) (asked_of key rs) 0 s t one.counts tells) parts.1 file (subst (λ (bytes : List ℕ). AgreesWith file bytes ds) (sym e) (one.agrees tells parts.0 file agree)));
    others = λ file bytes none agree.
        let parts = each_split (λ (r : RunState). file ≢ r.file) rs qs none in
        two.others file bytes parts.1 (one.others file bytes parts.0 agree);
  }
    where
      same_le : {m n : ℕ} → m ≡ n → n ≤ m
      same_le e = omega (arith, e)

  module _ (number : ℕ) where
    pub finds_start : (s : State) (cs : List CachedBlock) (a : Option Version) → Finds number key [] s cs cs a a
    finds_start s cs a = record { brings = λ sorted. refl; found = λ tells live agree. sym (later_none a) }

    pub finds_then : (rs qs : List RunState) (s t : State) (cs ds es : List CachedBlock) (a b c : Option Version) → Spends key rs s t cs ds → Finds number key rs s cs ds a b → Finds number key qs t ds es b c → Finds number key (rs ++ qs) s cs es a c
    finds_then rs qs s t cs ds es a b c spent one two = record {
      brings = λ sorted.
          let parts = each_split (λ (r : RunState). are_in_order r.direction r.index.blocks ≡ true) rs qs sorted in
          two.brings parts.1 ∙ ap (with_spans (key_spans key qs)) (one.brings parts.0) ∙ sym (with_more (key_spans key rs) (key_spans key qs) (keys_of cs)) ∙ ap (λ (ss : List FileSpan). with_spans ss (keys_of cs)) (sym (spans_append rs qs));
      found = λ tells live agree.
          let e : seen t ≡ seen s = image_same s t (spent.same tells) in
          let lives = each_split (IsLive (seen s)) rs qs live in
          let agrees = each_split (λ (r : RunState). AgreesWith r.file (seen s r.file) cs) rs qs agree in
          let there : AgreeWith (seen s) ds qs = carry (seen s) cs ds (spent.agrees tells (live_gapless (seen s) rs lives.0)) qs agrees.1 in
          let last = two.found (still_tells (length rs) (asked_of key rs) 0 s t spent.counts tells) (subst (λ (i : Image). AreLive i qs) (sym e) lives.1) (subst (λ (i : Image). AgreeWith i ds qs) (sym e) there) in
          last
          ∙ ap (λ (i : Image). later b (latest (newest_in_each number key i qs))) e
          ∙ ap (λ (o : Option Version). later o (latest (newest_in_each number key (seen s) qs))) (one.found tells lives.0 agrees.0)
          ∙ later_assoc a (latest (newest_in_each number key (seen s) rs)) (latest (newest_in_each number key (seen s) qs))
          ∙ ap (later a) (sym (latest_append (newest_in_each number key (seen s) rs) (newest_in_each number key (seen s) qs)) ∙ ap (λ (os : List (Option Version)). latest os) (sym (map_append (λ (r : RunState). newest number key (run_list r (seen s))) rs qs)));
    }

  -- ---- one run

  -- by what its look-up told
  pub one_spends : (r : RunState) (s t : State) (cs ds : List CachedBlock) → Counts 1 (sizes r.index.blocks) 0 s t → (are_in_order r.direction r.index.blocks ≡ true → Counts 1 (sizes (key_blocks r key)) 0 s t) →
      (are_in_order r.direction r.index.blocks ≡ true → IsWarm (spans_of r (key_blocks r key)) cs → Counts 0 0 0 s t) → (Tells s → Same s t) →
      (Tells s → IsGapless r → AgreesWith r.file (seen s r.file) cs → AgreesWith r.file (seen s r.file) ds) → ((file : ℕ) → (bytes : List ℕ) → file ≢ r.file → AgreesWith file bytes cs → AgreesWith file bytes ds) →
      Spends key (r ∷ []) s t cs ds
  one_spends r s t cs ds all some warm same own other = record {
    counts = counts_more 1 (sizes (touched key r)) 0 1 (asked_of key (r ∷ [])) 0 s t (omega arith) (last_le (sizes (touched key r))) (omega arith) (touched_counts (are_in_order r.direction r.index.blocks) refl);
    warm = λ sorted few is. warm sorted.0 (subst (λ (ss : List FileSpan). IsWarm ss cs) (only (spans_of r (touched key r)) ∙ ap (λ (b : Bool). spans_of r (cond b (key_blocks r key) r.index.blocks)) sorted.0) is);
    same = same;
    agrees = λ tells gapless file agree. elim (cases_Bool (nat_eq file r.file)) [
      | inl here ↦ let e : file ≡ r.file = eqb-true file r.file here in subst (λ (f : ℕ). AgreesWith f (seen s f) ds) (sym e) (own tells gapless.0 (subst (λ (f : ℕ). AgreesWith f (seen s f) cs) e agree))
      | inr elsewhere ↦ other file (seen s file) (λ e. apart (nat_eq file r.file) elsewhere (eq-eqb file r.file e)) agree
    ];
    others = λ file bytes none agree. other file bytes none.0 agree;
  }
    where
      last_le : (n : ℕ) → n ≤ n + 0
      last_le n = omega arith

      apart : (b : Bool) → b ≡ false → b ≡ true → ⊥
      apart b low high = cc

      only : (ss : List FileSpan) → ss ++ [] ≡ ss
      only [] = refl
      only (x ∷ xs) = ap (λ (ys : List FileSpan). x ∷ ys) (only xs)

      touched_counts : (b : Bool) → are_in_order r.direction r.index.blocks ≡ b → Counts 1 (sizes (cond b (key_blocks r key) r.index.blocks)) 0 s t
      touched_counts true e = some e
      touched_counts false e = all

  -- where it found these
  pub one_finds : (number : ℕ) (r : RunState) (s : State) (cs ds : List CachedBlock) (a b c : Option Version) → (are_in_order r.direction r.index.blocks ≡ true → keys_of ds ≡ with_spans (spans_of r (key_blocks r key)) (keys_of cs)) →
      (Tells s → HasIndex r (seen s) → AgreesWith r.file (seen s r.file) cs → (vs : List Version) → IsRun r.direction r.entries (seen s r.file) vs → b ≡ newest number key vs) → c ≡ later a b → Finds number key (r ∷ []) s cs ds a c
  one_finds number r s cs ds a b c brings found e = record {
    brings = λ sorted. brings sorted.0 ∙ ap (λ (ss : List FileSpan). with_spans ss (keys_of cs)) (sym (only (spans_of r (touched key r)) ∙ ap (λ (x : Bool). spans_of r (cond x (key_blocks r key) r.index.blocks)) sorted.0));
    found = λ tells live agree. e ∙ ap (later a) (found tells live.0.index agree.0 (run_list r (seen s)) live.0.run ∙ sym (later_none (newest number key (run_list r (seen s)))));
  }
    where
      only : (ss : List FileSpan) → ss ++ [] ≡ ss
      only [] = refl
      only (x ∷ xs) = ap (λ (ys : List FileSpan). x ∷ ys) (only xs)

  pub one_stops : (r : RunState) (s t : State) (e : Stop) → MayStop (IsOffenceIn r r.index.blocks) s t e → (are_in_order r.direction r.index.blocks ≡ true → MayStop (IsOffenceIn r (key_blocks r key)) s t e) → MayStop (HasKeyOffence key (r ∷ [])) s t e
  one_stops r s t e all some = stop_wider (IsOffenceIn r (touched key r)) (HasKeyOffence key (r ∷ [])) (λ image file at here. inl here) s t e (go (are_in_order r.direction r.index.blocks) refl)
    where
      go : (b : Bool) → are_in_order r.direction r.index.blocks ≡ b → MayStop (IsOffenceIn r (cond b (key_blocks r key) r.index.blocks)) s t e
      go true here = some here
      go false here = all

-- ---- run by run

-- looking into some runs, where it has got so far
pub record Looked (number : ℕ) (key : List ℕ) (rs : List RunState) (s t : State) (cs ds : List CachedBlock) (a b : Option Version) : Type 0 where
  pub spent : Spends key rs s t cs ds
  pub finds : Finds number key rs s cs ds a b

pub looked_start : (number : ℕ) (key : List ℕ) (s : State) (cs : List CachedBlock) (a : Option Version) → Looked number key [] s s cs cs a a
looked_start number key s cs a = record { spent = spends_start key s cs; finds = finds_start key number s cs a }

module _ (number : ℕ) (key : List ℕ) (rs qs all : List RunState) (split : all ≡ rs ++ qs) (s t u : State) (cs ds es : List CachedBlock) (a b : Option Version) (before : Looked number key rs s t cs ds a b) (spent : Spends key qs t u ds es) where
  pub looked_spends : Spends key all s u cs es
  looked_spends = subst (λ (xs : List RunState). Spends key xs s u cs es) (sym split) (spends_then key rs qs s t u cs ds es before.spent before.finds.brings spent)

  pub looked_then : (c : Option Version) → Finds number key qs t ds es b c → Looked number key all s u cs es a c
  looked_then c finds = record {
    spent = looked_spends;
    finds = subst (λ (xs : List RunState). Finds number key xs s cs es a c) (sym split) (finds_then key number rs qs s t cs ds es a b c before.spent before.finds finds);
  }

  pub looked_stops : (e : Stop) → MayStop (HasKeyOffence key qs) t u e → MayStop (HasKeyOffence key all) s u e
  looked_stops e may = subst (λ (xs : List RunState). MayStop (HasKeyOffence key xs) s u e) (sym split)
      (stop_then (HasKeyOffence key qs) (HasKeyOffence key (rs ++ qs)) (λ image file at any. any_behind (λ (r : RunState). IsOffenceIn r (touched key r) image file at) rs qs any) (length rs) (asked_of key rs) s t u before.spent.counts before.spent.same e may)

-- the runs up to the next one
pub next_key : (d : Direction) (key : List ℕ) (rs : List RunState) (i : ℕ) (r : RunState) → i < length rs → r ≡ get_or rs i r → with_key d key (take (i + 1) rs) ≡ with_key d key (take i rs) ++ with_key d key (r ∷ [])
next_key d key rs i r lt at = ap (with_key d key) (take_next rs i r lt ∙ ap (λ (x : RunState). take i rs ++ x ∷ []) (sym at)) ∙ filter_append (can_hold d key) (take i rs) (r ∷ [])

parts_append : (d : Direction) (key : List ℕ) (xss yss : List (List RunState)) → parts_of d key (xss ++ yss) ≡ parts_of d key xss ++ parts_of d key yss
parts_append d key [] yss = refl
parts_append d key (xs ∷ xss) yss = ap (λ (rs : List RunState). part_of d key xs ++ rs) (parts_append d key xss yss) ∙ sym (append_assoc (part_of d key xs) (parts_of d key xss) (parts_of d key yss))

-- where it stops, the others aren't looked into
module _ (key : List ℕ) (rs qs all : List RunState) (split : all ≡ rs ++ qs) (s t : State) (cs ds : List CachedBlock) where
  pub spends_less : Spends key rs s t cs ds → Spends key all s t cs ds
  spends_less spent = subst (λ (xs : List RunState). Spends key xs s t cs ds) (sym split) (record {
    counts = counts_more (length rs) (asked_of key rs) 0 (length (rs ++ qs)) (asked_of key (rs ++ qs)) 0 s t (less (length (rs ++ qs)) (length rs) (length qs) (length-append rs qs)) (less (asked_of key (rs ++ qs)) (asked_of key rs) (asked_of key qs) (asked_more rs)) (omega arith) spent.counts;
    warm = λ sorted few warm. spent.warm (each_split (λ (r : RunState). are_in_order r.direction r.index.blocks ≡ true) rs qs sorted).0 few (warm_split (key_spans key rs) (key_spans key qs) cs (subst (λ (ss : List FileSpan). IsWarm ss cs) (spans_append key rs qs) warm)).0;
    same = spent.same;
    agrees = λ tells gapless file agree. spent.agrees tells (each_split IsGapless rs qs gapless).0 file agree;
    others = λ file bytes none agree. spent.others file bytes (each_split (λ (r : RunState). file ≢ r.file) rs qs none).0 agree;
  })
    where
      less : (m n k : ℕ) → m ≡ n + k → n ≤ m
      less m n k e = omega (arith, e)

      asked_more : (xs : List RunState) → asked_of key (xs ++ qs) ≡ asked_of key xs + asked_of key qs
      asked_more xs = total_append (λ (r : RunState). sizes (touched key r)) xs qs

  pub stops_less : (e : Stop) → MayStop (HasKeyOffence key rs) s t e → MayStop (HasKeyOffence key all) s t e
  stops_less e may = subst (λ (xs : List RunState). MayStop (HasKeyOffence key xs) s t e) (sym split)
      (stop_wider (HasKeyOffence key rs) (HasKeyOffence key (rs ++ qs)) (λ image file at any. any_front (λ (r : RunState). IsOffenceIn r (touched key r) image file at) rs qs any) s t e may)

pub key_parts : (d : Direction) (key : List ℕ) (rs : List RunState) (n : ℕ) → with_key d key rs ≡ with_key d key (take n rs) ++ with_key d key (drop n rs)
key_parts d key rs n = ap (with_key d key) (sym (take-append-drop n rs)) ∙ filter_append (can_hold d key) (take n rs) (drop n rs)

pub held_one : (d : Direction) (key : List ℕ) (r : RunState) (b : Bool) → b ≡ can_hold d key r → b ≡ true → with_key d key (r ∷ []) ≡ r ∷ []
held_one d key r b e is = let here : can_hold d key r ≡ true = sym e ∙ is in rw here refl

-- ---- level by level

abbrev pub items_of : Vec Run Global → List RunState
items_of v = v.items

module _ (levels : List (Vec Run Global)) (i : ℕ) (v : Vec Run Global) (lt : i < length levels) (at : v ≡ get_or levels i v) where
  pub each_level : (P : List RunState → Type 0) → AllByRecursion P (map items_of levels) → P v.items
  each_level P all = subst (λ (w : Vec Run Global). P w.items) (sym at) (go levels i lt all)
    where
      go : (vs : List (Vec Run Global)) (i : ℕ) → i < length vs → AllByRecursion P (map items_of vs) → P (get_or vs i v).items
      go [] i lt all = absurd (omega (arith, lt))
      go (w ∷ ws) zero lt all = all.0
      go (w ∷ ws) (suc i) lt all = go ws i (omega (arith, lt)) all.1

  pub next_level : (d : Direction) (key : List ℕ) (q m : List RunState) → q ≡ part_of d key m → m ≡ v.items → with_key d key (parts_of d key (map items_of (take (i + 1) levels))) ≡ with_key d key (parts_of d key (map items_of (take i levels))) ++ with_key d key q
  next_level d key q m is same =
      ap (λ (vs : List (Vec Run Global)). with_key d key (parts_of d key (map items_of vs))) (take_next levels i v lt ∙ ap (λ (x : Vec Run Global). take i levels ++ x ∷ []) (sym at))
      ∙ ap (λ (rss : List (List RunState)). with_key d key (parts_of d key rss)) (map_append items_of (take i levels) (v ∷ []))
      ∙ ap (with_key d key) (parts_append d key (map items_of (take i levels)) (v.items ∷ []) ∙ ap (λ (rs : List RunState). parts_of d key (map items_of (take i levels)) ++ rs) (none_more (part_of d key v.items) ∙ sym (is ∙ ap (part_of d key) same)))
      ∙ filter_append (can_hold d key) (parts_of d key (map items_of (take i levels))) q
    where
      none_more : (rs : List RunState) → rs ++ [] ≡ rs
      none_more [] = refl
      none_more (r ∷ rs) = ap (λ (qs : List RunState). r ∷ qs) (none_more rs)

pub level_parts : (d : Direction) (key : List ℕ) (levels : List (Vec Run Global)) (n : ℕ) →
    with_key d key (parts_of d key (map items_of levels)) ≡ with_key d key (parts_of d key (map items_of (take n levels))) ++ with_key d key (parts_of d key (map items_of (drop n levels)))
level_parts d key levels n =
    ap (λ (vs : List (Vec Run Global)). with_key d key (parts_of d key (map items_of vs))) (sym (take-append-drop n levels))
    ∙ ap (λ (rss : List (List RunState)). with_key d key (parts_of d key rss)) (map_append items_of (take n levels) (drop n levels))
    ∙ ap (with_key d key) (parts_append d key (map items_of (take n levels)) (map items_of (drop n levels)))
    ∙ filter_append (can_hold d key) (parts_of d key (map items_of (take n levels))) (parts_of d key (map items_of (drop n levels)))
