-- A flush keeps what a family means, however it ends.
use Rattle.std.proofs.Common.{◌≡◌, ℕ, List, [], ◌∷◌, map, Option, Some, None, Result, Ok, Err, IfOk, OnErr, sym, ◌∙◌, ap, subst, arith}
use Rattle.mr_base.specs.Disk.{State, File, Tells, seen}
use Rattle.mr_base.specs.declared.stop.Stop.{Stop}
use Rattle.mr_base.proofs.Moments.{at_end}
use Rattle.mr_iter.specs.Versions.{Version, version_cmp, merged}
use Rattle.mr_iter.specs.Cursors.{SameFiles}
use Rattle.mr_iter.specs.RunOuts.{KeepsOthers}
use Rattle.mr_iter.specs.declared.run.RunInfo.{RunInfo}
use Rattle.mr_memtable.specs.Tables.{MemState}
use Rattle.mr_run_open.specs.Runs.{RunState}
use Rattle.mr_block_cache.specs.Cache.{CachedBlock, AgreesWith}
use Rattle.mr_compact.specs.Merges.{AreBefore}
use Rattle.mr_levels.specs.Levels.{LevelsState, runs, files, AreWhole}
use Rattle.mr_levels.specs.Looks.{AgreeWith}
use Rattle.mr_levels.proofs.Filing.{lists_by, live_by}
use Rattle.mr_flush.specs.Flushed.{versions_of, IsFlush, IsFlushed, Flushes}
use Rattle.mr_flush.proofs.Kept.{kept_versions, kept_whole, kept_held}

by_end : {P : Type 0} (file : ℕ) (s t : State) (m n : MemState) (l k : LevelsState) (r : Result (Option RunInfo) Stop) → IfOk r (IsFlush file s t m n l k) → (m.versions ≡ [] → n ≡ m) → (m.versions ≡ [] → k ≡ l) → OnErr r (n ≡ m) → OnErr r (k ≡ l) →
    ((info : RunInfo) → IsFlushed file info s t m n l k → P) → (n ≡ m → k ≡ l → P) → P
by_end file s t m n l k (Ok None) flush none_m none_l err_m err_l done same = same (none_m flush) (none_l flush)
by_end file s t m n l k (Ok (Some info)) flush none_m none_l err_m err_l done same = done info flush
by_end file s t m n l k (Err e) flush none_m none_l err_m err_l done same = same err_m err_l

same_before : (file : ℕ) (fs : List ℕ) (s t : State) → KeepsOthers file s t → AreBefore file fs → SameFiles fs (seen s) (seen t)
same_before file [] s t keeps before = tt
same_before file (f ∷ fs) s t keeps before = (sym (ap (λ (x : File). x.bytes) ((at_end s t _ keeps).files f (λ e. omega (arith, e, before.0)))), same_before file fs s t keeps before.1)

held_by : (cached : List CachedBlock) (rs : List RunState) (s t : State) → SameFiles (map (λ (r : RunState). r.file) rs) (seen s) (seen t) → AgreeWith (seen s) cached rs → AgreeWith (seen t) cached rs
held_by cached [] s t is agree = tt
held_by cached (r ∷ rs) s t is agree = (subst (λ (bytes : List ℕ). AgreesWith r.file bytes cached) is.0 agree.0, held_by cached rs s t is.1 agree.1)

module _ (file : ℕ) (s t : State) (m n : MemState) (l k : LevelsState) (r : Result (Option RunInfo) Stop) (flush : IfOk r (IsFlush file s t m n l k)) (none_m : m.versions ≡ [] → n ≡ m) (none_l : m.versions ≡ [] → k ≡ l) (err_m : OnErr r (n ≡ m)) (err_l : OnErr r (k ≡ l)) (flushes : Flushes file s t) (tells : Tells s) (before : AreBefore file (files l)) where
  same : SameFiles (files l) (seen s) (seen t)
  same = same_before file (files l) s t (flushes.others tells) before

  pub flush_versions : versions_of n k (seen t) ≡ versions_of m l (seen s)
  flush_versions = by_end file s t m n l k r flush none_m none_l err_m err_l
      (λ info flushed. kept_versions file info s t m n l k flushed (flushes.others tells) tells before)
      (λ em el. ap (λ (x : MemState). versions_of x k (seen t)) em ∙ ap (λ (x : LevelsState). versions_of m x (seen t)) el ∙ ap (λ (vss : List (List Version)). merged (version_cmp l.direction) (m.versions ∷ vss)) (sym (lists_by (runs l) (seen s) (seen t) same)))

  pub flush_whole : AreWhole l (seen s) → AreWhole k (seen t)
  flush_whole whole = by_end file s t m n l k r flush none_m none_l err_m err_l
      (λ info flushed. kept_whole file info s t m n l k flushed (flushes.others tells) tells before whole)
      (λ em el. subst (λ (x : LevelsState). AreWhole x (seen t)) (sym el) (record { live = live_by (runs l) (seen s) (seen t) same whole.live; apart = whole.apart }))

  pub flush_held : (cached : List CachedBlock) → ((bytes : List ℕ) → AgreesWith file bytes cached) → AgreeWith (seen s) cached (runs l) → AgreeWith (seen t) cached (runs k)
  flush_held cached none agree = by_end file s t m n l k r flush none_m none_l err_m err_l
      (λ info flushed. kept_held file info s t m n l k flushed (flushes.others tells) tells before cached none agree)
      (λ em el. subst (λ (x : LevelsState). AgreeWith (seen t) cached (runs x)) (sym el) (held_by cached (runs l) s t same agree))
