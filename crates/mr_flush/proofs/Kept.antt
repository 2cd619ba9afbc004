-- What a flush makes of the versions, of the runs and of what is held of them.
use Rattle.std.proofs.Common.{◌≡◌, ◌≢◌, ◌==◌, ℕ, ◌+◌, ◌<◌, ◌≤◌, Bool, true, false, IsTrue, IfErr, List, [], ◌∷◌, ◌++◌, length, map, min, Result, Ok, Err, refl, sym, ◌∙◌, ap, subst, arith}
use Rattle.std.specs.Ordering.{nat_cmp, is_gt}
use Rattle.std.specs.Cmp.{IsTotalOrder}
use Rattle.std.proofs.lemmas.Cmp.{nat_cmp_total, on_total, back_total}
use Rattle.std.proofs.lemmas.Bool.{eqb-true}
use Rattle.std.proofs.lemmas.Bool.Decides.{nat_tests}
use Rattle.mr_base.specs.Disk.{State, File, Tells, IsAtRest, file_of, seen}
use Rattle.mr_base.specs.Calls.{Counts, Reads, Same}
use Rattle.mr_base.specs.declared.stop.Direction.{Direction}
use Rattle.mr_base.specs.declared.stop.Stop.{Stop}
use Rattle.mr_base.specs.declared.stop.Stop.TheVariants.{Memory, Disk, Full, Damaged}
use Rattle.mr_base.proofs.Counting.{rises_of, rises_call, risen_within, still_tells, counts_start, counts_then, counts_more}
use Rattle.mr_base.proofs.Moments.{at_end, same_file, same_during, then}
use Rattle.mr_iter.specs.Versions.{Version, version_cmp, place_in, joined, in_order, IsAtFront}
use Rattle.mr_iter.specs.Order.{place_in-front}
use Rattle.mr_iter.specs.Cursors.{SameFiles}
use Rattle.mr_iter.specs.RunOuts.{KeepsOthers, MayFail}
use Rattle.mr_iter.specs.declared.run.RunInfo.{RunInfo}
use Rattle.mr_block.specs.Fields.{◌>>=◌}
use Rattle.mr_block.specs.Block.{list_of}
use Rattle.mr_block_cache.specs.Cache.{CachedBlock, AgreesWith}
use Rattle.mr_memtable.specs.Tables.{MemState}
use Rattle.mr_run_file.specs.Reading.{Index, IsRun, structure_in, recorded_in, demand, footer_number}
use Rattle.mr_run_open.specs.Runs.{RunState, OpenStops, opened}
use Rattle.mr_run_open.proofs.Indexing.{bound}
use Rattle.mr_run_cursor.specs.Pinned.{run_list}
use Rattle.mr_compact.specs.Merges.{AreBefore, IsWritten}
use Rattle.mr_levels.specs.Levels.{LevelsState, runs, files, run_lists, with_run, newer_first, IsLive, AreWhole}
use Rattle.mr_levels.specs.Opened.{IsOpened}
use Rattle.mr_levels.specs.Looks.{AgreeWith}
use Rattle.mr_levels.proofs.Filing.{lists_by, live_by}
use Rattle.mr_level_laws.proofs.Adding.{each_with}
use Rattle.mr_flush.specs.Flushed.{versions_of, emptied, IsFlushed, Flushes, FlushStops}
use Rattle.mr_flush.proofs.Steps.{others_start}

itself : (n : ℕ) → (n == n) ≡ true
itself n = grind (arith, nat_tests)

demanded : (b : Bool) (at : ℕ) → b ≡ true → demand b at ≡ Ok tt
demanded b at is = rw is

-- ---- the run that was written

module _ (d : Direction) (s : State) (info : RunInfo) (vs : List Version) (written : IsWritten (IsRun d) s info vs) where
  structured : (index : Index) × (structure_in info.entries (seen s info.file) ≡ Ok index)
  structured = let b = bound (structure_in info.entries (seen s info.file)) _ vs written.run_of.0 in (b.x, b.now)

  pub has_index : (index : Index) × (recorded_in info.length info.entries (seen s info.file) ≡ Ok index)
  has_index =
      let long : length (seen s info.file) ≡ info.length = written.long in
      let same : (length (seen s info.file) == info.length) ≡ true = ap (λ (n : ℕ). n == info.length) long ∙ itself info.length in
      (structured.0, ap (λ (r : Result (Unit {0}) ℕ). r >>= (λ whole. structure_in info.entries (seen s info.file))) (demanded _ (min (length (seen s info.file)) info.length) same) ∙ structured.1)

  pub listed : (index : Index) → run_list (opened info d index) (seen s) ≡ vs
  listed index = ap list_of written.run_of.0

  pub lives : (index : Index) → recorded_in info.length info.entries (seen s info.file) ≡ Ok index → IsLive (seen s) (opened info d index)
  lives index has = record { index = has; run = subst (λ (ws : List Version). IsRun d info.entries (seen s info.file) ws) (sym (listed index)) written.run_of }

-- ---- the other files

same_before : (file : ℕ) (fs : List ℕ) (s t : State) → KeepsOthers file s t → AreBefore file fs → SameFiles fs (seen s) (seen t)
same_before file [] s t keeps before = tt
same_before file (f ∷ fs) s t keeps before = (sym (ap (λ (x : File). x.bytes) ((at_end s t _ keeps).files f (λ e. omega (arith, e, before.0)))), same_before file fs s t keeps before.1)

newer_than : (a b : ℕ) → a < b → is_gt (nat_cmp a b) ≡ false
newer_than a b lt = grind (arith, nat_tests)

newer_total : IsTotalOrder newer_first
newer_total = on_total (λ (r : RunState). r.file) (back_total nat_cmp_total)

newest_front : (r : RunState) (ns more : List RunState) → AreBefore r.file (map (λ (t : RunState). t.file) (ns ++ more)) → IsAtFront newer_first r ns
newest_front r [] more before = tt
newest_front r (n ∷ ns) more before = (newer_than n.file r.file before.0, newest_front r ns more before.1)

module _ (file : ℕ) (info : RunInfo) (s t : State) (m n : MemState) (l k : LevelsState) (flushed : IsFlushed file info s t m n l k) (keeps : KeepsOthers file s t) (tells : Tells s) (before : AreBefore file (files l)) where
  abbrev one : RunState
  one = opened info l.direction flushed.opened.index

  wrote : IsWritten (IsRun l.direction) t info m.versions
  wrote = flushed.written tells

  told : Tells t
  told = still_tells 2 info.length 1 s t flushed.counts tells

  live : IsLive (seen t) one
  live = lives l.direction t info m.versions wrote flushed.opened.index (flushed.opened.told told)

  same : SameFiles (files l) (seen s) (seen t)
  same = same_before file (files l) s t keeps before

  added : k ≡ with_run 0 one l
  added = flushed.opened.added

  front : place_in newer_first one l.newest ≡ one ∷ l.newest
  front = place_in-front newer_first newer_total one l.newest (newest_front one l.newest (joined l.deeper) (subst (λ (f : ℕ). AreBefore f (files l)) (sym flushed.named) before))

  pub kept_versions : versions_of n k (seen t) ≡ versions_of m l (seen s)
  kept_versions =
      ap (λ (x : LevelsState). versions_of n x (seen t)) added
      ∙ ap (λ (vs : List Version). in_order (version_cmp l.direction) (vs ++ joined (run_lists (place_in newer_first one l.newest ++ joined l.deeper) (seen t)))) (ap (λ (x : MemState). x.versions) flushed.memtable)
      ∙ ap (λ (rs : List RunState). in_order (version_cmp l.direction) (joined (run_lists (rs ++ joined l.deeper) (seen t)))) front
      ∙ ap (λ (vs : List Version). in_order (version_cmp l.direction) (vs ++ joined (run_lists (runs l) (seen t)))) (listed l.direction t info m.versions wrote flushed.opened.index)
      ∙ ap (λ (vss : List (List Version)). in_order (version_cmp l.direction) (m.versions ++ joined vss)) (sym (lists_by (runs l) (seen s) (seen t) same))

  pub kept_whole : AreWhole l (seen s) → AreWhole k (seen t)
  kept_whole whole = subst (λ (x : LevelsState). AreWhole x (seen t)) (sym added) (record {
    live = each_with (IsLive (seen t)) one live 0 l (live_by (runs l) (seen s) (seen t) same whole.live);
    apart = whole.apart;
  })

  held_by : (cached : List CachedBlock) (rs : List RunState) → SameFiles (map (λ (r : RunState). r.file) rs) (seen s) (seen t) → AgreeWith (seen s) cached rs → AgreeWith (seen t) cached rs
  held_by cached [] is agree = tt
  held_by cached (r ∷ rs) is agree = (subst (λ (bytes : List ℕ). AgreesWith r.file bytes cached) is.0 agree.0, held_by cached rs is.1 agree.1)

  pub kept_held : (cached : List CachedBlock) → ((bytes : List ℕ) → AgreesWith file bytes cached) → AgreeWith (seen s) cached (runs l) → AgreeWith (seen t) cached (runs k)
  kept_held cached none agree = subst (λ (x : LevelsState). AgreeWith (seen t) cached (runs x)) (sym added)
      (each_with (λ (r : RunState). AgreesWith r.file (seen t r.file) cached) one (subst (λ (f : ℕ). AgreesWith f (seen t f) cached) (sym flushed.named) (none (seen t file))) 0 l (held_by cached (runs l) same agree))

-- ---- the call

some_versions : (vs : List Version) → (length vs == 0) ≡ false → vs ≢ []
some_versions [] is e = cc
some_versions (v ∷ vs) is e = cc

no_versions : (vs : List Version) → (length vs == 0) ≡ true → vs ≡ []
no_versions [] is = refl
no_versions (v ∷ vs) is = absurd (omega (arith, eqb-true (length (v ∷ vs)) 0 is))

emptied_is : (n m : MemState) → n.direction ≡ m.direction → n.versions ≡ [] → n.entries ≡ 0 → n.bytes ≡ 0 → n ≡ emptied m
emptied_is n m d vs es bs =
    ap (λ (x : Direction). record { direction = x; versions = n.versions; entries = n.entries; bytes = n.bytes }) d
    ∙ ap (λ (x : List Version). record { direction = m.direction; versions = x; entries = n.entries; bytes = n.bytes }) vs
    ∙ ap (λ (x : ℕ). record { direction = m.direction; versions = []; entries = x; bytes = n.bytes }) es
    ∙ ap (λ (x : ℕ). record { direction = m.direction; versions = []; entries = 0; bytes = x }) bs

module _ (file : ℕ) (info : RunInfo) (s u t : State) (counts : Counts 0 0 1 s u) (opens : Counts 2 info.length 0 u t) (same : Tells u → Same u t) where
  on : Tells s → Tells u
  on tells = still_tells 0 0 1 s u counts tells

  file_stays : Tells s → (f : ℕ) → file_of t f ≡ file_of u f
  file_stays tells f = same_file u t f (same (on tells))

  pub flushed_of : (m n : MemState) (l k : LevelsState) (d : Direction) (empty : Bool) → empty ≡ (length m.versions == 0) → empty ≡ false → m.direction ≡ l.direction → d ≡ l.direction → info.file ≡ file → (Tells s → IsWritten (IsRun d) u info m.versions) → IsOpened 0 info u l k →
      n.direction ≡ d → n.versions ≡ [] → n.entries ≡ 0 → n.bytes ≡ 0 → IsFlushed file info s t m n l k
  flushed_of m n l k d empty is some same_d d_is named written opens_run nd nv ne nb = record {
    some = some_versions m.versions (sym is ∙ some);
    named = named;
    memtable = emptied_is n m (nd ∙ d_is ∙ sym same_d) nv ne nb;
    opened = record {
      index = opens_run.index;
      added = opens_run.added;
      told = λ tells. let back = still_back tells in subst (λ (f : File). recorded_in info.length info.entries f.bytes ≡ Ok opens_run.index) (sym (same_file u t info.file (same back))) (opens_run.told back);
    };
    written = λ tells. let w = written tells in let e = file_stays tells info.file in record {
      run_of = subst (λ (x : Direction). IsRun x info.entries (file_of t info.file).bytes m.versions) d_is (subst (λ (f : File). IsRun d info.entries f.bytes m.versions) (sym e) w.run_of);
      long = subst (λ (f : File). length f.bytes ≡ info.length) (sym e) w.long;
      entries = w.entries;
      at_rest = subst (λ (f : File). IsAtRest f) (sym e) w.at_rest;
    };
    counts = counts_more (0 + 2) (0 + info.length) (1 + 0) 2 info.length 1 s t (omega arith) (omega arith) (omega arith) (counts_then 0 0 1 2 info.length 0 s u t counts opens);
  }
    where
      still_back : Tells t → Tells u
      still_back tells = subst (λ (b : Bool). IsTrue b) opens.tells tells

  others_too : (Tells s → KeepsOthers file s u) → Tells s → KeepsOthers file s t
  others_too others tells = then s u t _ (others tells) (same_during u t _ (same (on tells)) (at_end s u _ (others tells)))

  pub flushes_of : info.file ≡ file → (Tells s → KeepsOthers file s u) → (Tells u → Reads 2 (40 + footer_number 1 (seen u info.file)) u t) → Flushes file s t
  flushes_of named others asked = record {
    others = λ tells. others_too others tells;
    rises = rises_call 1 2 info.length 0 s u t (rises_of 0 0 1 s u counts) opens;
    reads = omega (arith, counts.reads.1, opens.reads.1);
    asked = λ tells.
        let more : t.asked ≤ u.asked + (40 + footer_number 1 (seen u info.file)) = (asked (on tells)).asked in
        let there : t.asked ≤ u.asked + (40 + footer_number 1 (seen t file)) = subst (λ (f : File). t.asked ≤ u.asked + (40 + footer_number 1 f.bytes)) (sym (file_stays tells file)) (subst (λ (f : ℕ). t.asked ≤ u.asked + (40 + footer_number 1 (seen u f))) named more) in
        omega (arith, counts.asked.1, there);
  }

  open_fails : (d : Direction) (vs : List Version) → info.file ≡ file → (Tells s → IsWritten (IsRun d) u info vs) → (e : Stop) → OpenStops info.file info.length info.entries u t e → FlushStops file s t e
  open_fails d vs named written Memory may = tt
  open_fails d vs named written Disk may = risen_within s.faults u.faults t.faults t.faults counts.faults (omega arith) may
  open_fails d vs named written (Full what at limit) may = may
  open_fails d vs named written (Damaged f at) may = (may.0 ∙ named, λ tells. let has = has_index d u info vs (written tells) in let bad = may.1 (on tells) in let no : Err at ≡ Ok has.0 = sym bad ∙ has.1 in cc)

  pub open_stops : {X : Type 0} (r : Result X Stop) (d : Direction) (vs : List Version) → info.file ≡ file → (Tells s → IsWritten (IsRun d) u info vs) → IfErr r (OpenStops info.file info.length info.entries u t) → IfErr r (FlushStops file s t)
  open_stops (Ok x) d vs named written may = tt
  open_stops (Err e) d vs named written may = open_fails d vs named written e may

pub write_flushes : (file : ℕ) (s u : State) → Counts 0 0 1 s u → (Tells s → KeepsOthers file s u) → Flushes file s u
write_flushes file s u counts others = record {
  others = others;
  rises = rises_of 0 0 1 s u counts;
  reads = omega (arith, counts.reads.1);
  asked = λ tells. omega (arith, counts.asked.1);
}

pub nothing_flushes : (file : ℕ) (s : State) → Flushes file s s
nothing_flushes file s = write_flushes file s s (counts_more 0 0 0 0 0 1 s s (omega arith) (omega arith) (omega arith) (counts_start s)) (λ tells. others_start file s)

fails : (file : ℕ) (s u : State) (e : Stop) → MayFail s u e → FlushStops file s u e
fails file s u Memory may = may
fails file s u Disk may = may
fails file s u (Full what at limit) may = may
fails file s u (Damaged f at) may = absurd may

pub write_stops : {X : Type 0} (file : ℕ) (s u : State) (r : Result X Stop) → IfErr r (MayFail s u) → IfErr r (FlushStops file s u)
write_stops file s u (Ok x) may = tt
write_stops file s u (Err e) may = fails file s u e may

pub none_written : (vs : List Version) (empty : Bool) → empty ≡ (length vs == 0) → empty ≡ true → vs ≡ []
none_written vs empty is yes_empty = no_versions vs (sym is ∙ yes_empty)
