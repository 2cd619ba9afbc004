-- What keeps an open store beside its files.
use Rattle.std.proofs.Common.{◌≡◌, ◌≢◌, ◌⊎◌, ◌==◌, ◌++◌, ℕ, ◌<◌, ◌^◌, Bool, true, false, if◌then◌else◌, List, [], ◌∷◌, Option, Some, None, Result, Ok, Err, refl, sym, ◌∙◌, ap, subst, inl, inr, arith}
use mathlib.Core.Bool.{true≢false}
use Rattle.std.proofs.lemmas.Bool.Decides.{nat_tests}
use Rattle.std.specs.List.{AllByRecursion}
use Rattle.mr_base.specs.Disk.{Image}
use Rattle.mr_wal.specs.declared.operation.Operation.{Operation}
use Rattle.mr_wal.specs.declared.record.WalBody.{WalBody}
use Rattle.mr_wal.specs.declared.record.WalBody.TheVariants.{Prepare, Plain, Decided}
use Rattle.mr_wal.specs.EngineLog.{body_bytes, record_bytes}
use Rattle.mr_iter.specs.Versions.{Version, version_cmp, place_in, merged}
use Rattle.mr_iter.specs.Cursors.{SameFiles}
use Rattle.mr_run_open.specs.Runs.{RunState}
use Rattle.mr_block_cache.specs.Cache.{CachedBlock, AgreesWith}
use Rattle.mr_levels.specs.Levels.{LevelsState, runs as runs_by_level}
use Rattle.mr_levels.specs.Looks.{AgreeWith}
use Rattle.mr_manifest.specs.declared.live.Live.{Live}
use Rattle.mr_manifest.specs.declared.live.LiveRun.{LiveRun}
use Rattle.mr_engine_log.specs.Logged.{Logged, log_of, after_verdict, decided, undecided, applied, is_wrong_verdict}
use Rattle.mr_engine_log.specs.Added.{HasRecord}
use Rattle.mr_engine_log.specs.Standing.{LogState, IsVerdictOn, Holds as LogHolds, record_of, with_verdict}
use Rattle.mr_engine_log.specs.declared.batched.Batched.{Batched}
use Rattle.mr_engine_log.specs.declared.batched.Prepared.{Prepared}
use Rattle.mr_family.specs.Family.{FamilyState, direction, IsTrueTo}
use Rattle.mr_families.specs.declared.numbered.Numbered.{Numbered}
use Rattle.mr_families.specs.Known.{family_at}
use Rattle.mr_families.specs.Changed.{without_room}
use Rattle.mr_families.specs.Batches.{Added}
use Rattle.mr_stored.specs.Said.{Said}
use Rattle.mr_stored.specs.Begun.{Says, IsApart, AreApart}
use Rattle.mr_stored.specs.Names.{IsNaming}
use Rattle.mr_stored.specs.Lists.{system_of, run_files, levels_of}
use Rattle.mr_stored.proofs.Saying.{logged_is, says_with, says_apart}
use Rattle.mr_stored.proofs.Kept.{judged_same, of_runs, of_levels}
use Rattle.mr_store_memory.specs.Held.{Held, AreTurned}
use Rattle.mr_store_memory.specs.Readied.{Readied, IsRelearnt}
use Rattle.mr_store_memory.proofs.Holding.{held_image, held_readied, turned_readied, held_added, held_versions}
use Rattle.mr_kv.specs.Store.{KvState, Holds, AreUnread, system}
use Rattle.mr_kv.specs.Batch.{IsMadeReady, HasBatch}

-- ---- what the log leaves

no_some : (b : Bool) (p : Prepared) → (if b then Some p else None) ≡ None → b ≡ false
no_some true p is = cc
no_some false p is = refl

-- where nothing is undecided, a log's verdict is the one that is due
due : (verdict : ℕ) (pending : Option Prepared) (bytes : List ℕ) → IsVerdictOn verdict pending → undecided verdict pending ≡ None → is_wrong_verdict pending (verdict ∷ bytes) ≡ false
due verdict None bytes (inl none) is = rw none refl
due verdict None bytes (inr on) is = absurd (true≢false (sym on.1))
due verdict (Some p) bytes on is = no_some (verdict == 0) p is

-- a verdict that isn't there changes no batch
pub none_decided : (pending : Option Prepared) (bs : List Batched) → decided 0 pending bs ≡ bs
none_decided None bs = refl
none_decided (Some p) bs = refl

ok_same : {X : Type 0} {a b : X} → ◌≡◌ {A = Result X ℕ} (Ok a) (Ok b) → a ≡ b
ok_same {X = X} {a = a} e = ap (λ (r : Result X ℕ). of r a) e
  where
    of : Result X ℕ → X → X
    of (Ok x) other = x
    of (Err at) other = other

-- the batches that count
abbrev pub counting : KvState → Logged → List Batched
counting kv l = (after_verdict kv.log.verdict l).batches

abbrev said_of : KvState → Logged → Said
said_of kv l = record { live = kv.manifest.live; logged = l }

-- the open log has what the files say of it
pub log_is : (kv : KvState) (image : Image) → kv.log.gate.file ≡ kv.manifest.live.log → kv.log.base ≡ kv.manifest.live.last_sequence → (log : LogHolds kv.log (image kv.log.gate.file)) (holds : Holds kv image) → log.logged ≡ holds.logged
log_is kv image file base log holds =
    ok_same (sym log.reads ∙ ap (λ (f : ℕ). log_of kv.log.base (image f)) file ∙ ap (λ (b : ℕ). log_of b (image kv.manifest.live.log)) base ∙ logged_is image (said_of kv holds.logged) holds.says)

-- ---- other files

abbrev pub SameBut : ℕ → Image → Image → Type 0
SameBut file i j = (other : ℕ) → other ≢ file → i other ≡ j other

same_runs : (i j : Image) (live : Live) (runs : List LiveRun) → SameBut live.log i j → AllByRecursion (IsApart live) runs → SameFiles (run_files runs) i j
same_runs i j live [] same apart = tt
same_runs i j live (run ∷ runs) same apart = (same run.file apart.0.1, same_runs i j live runs same apart.1)

both : {X : Type 0} (P Q R : X → Type 0) (xs : List X) → ((x : X) → P x → Q x → R x) → AllByRecursion P xs → AllByRecursion Q xs → AllByRecursion R xs
both P Q R [] law ps qs = tt
both P Q R (x ∷ xs) law ps qs = (law x ps.0 qs.0, both P Q R xs law ps.1 qs.1)

each_same : (i j : Image) (runs : List LiveRun) → SameFiles (run_files runs) i j → AllByRecursion (λ (run : LiveRun). i run.file ≡ j run.file) runs
each_same i j [] same = tt
each_same i j (run ∷ runs) same = (same.0, each_same i j runs same.1)

true_in : (i j : Image) (ns : List Numbered) (runs : List LiveRun) (bs : List Batched) → SameFiles (run_files runs) i j → Held ns i runs bs → (f : ℕ) → IsTrueTo i (family_at ns f) → IsTrueTo j (family_at ns f)
true_in i j ns runs bs same held f true_to =
    let s = family_at ns f in
    let d = direction s in
    let alike : AllByRecursion (λ (r : RunState). i r.file ≡ j r.file) (runs_by_level s.levels) =
    subst (λ (l : LevelsState). AllByRecursion (λ (r : RunState). i r.file ≡ j r.file) (runs_by_level l)) (sym (held.levels f))
    (of_runs (λ (r : RunState). i r.file ≡ j r.file) (levels_of d f i runs) (of_levels (λ (r : RunState). i r.file ≡ j r.file) d f i runs (each_same i j runs same))) in
    both (λ (r : RunState). i r.file ≡ j r.file) (λ (r : RunState). AgreesWith r.file (i r.file) s.cached) (λ (r : RunState). AgreesWith r.file (j r.file) s.cached) (runs_by_level s.levels)
    (λ r e agrees. subst (λ (bytes : List ℕ). AgreesWith r.file bytes s.cached) e agrees) alike true_to

-- ---- families that are made ready, and have a batch

readied_true : (f : ℕ) (batch : List Operation) (image : Image) (old new : FamilyState) → ((without_room new ≡ without_room old) ⊎ IsRelearnt f batch old new) → IsTrueTo image old → IsTrueTo image new
readied_true f batch image old new (inl same) is = subst (λ (s : FamilyState). IsTrueTo image s) (sym same) is
readied_true f batch image old new (inr again) is = subst (λ (s : FamilyState). IsTrueTo image s) (sym again.now) tt

readied_unread : (f : ℕ) (batch : List Operation) (file : ℕ) (bytes : List ℕ) (old new : FamilyState) → ((without_room new ≡ without_room old) ⊎ IsRelearnt f batch old new) → AgreesWith file bytes old.cached → AgreesWith file bytes new.cached
readied_unread f batch file bytes old new (inl same) is = subst (λ (s : FamilyState). AgreesWith file bytes s.cached) (sym same) is
readied_unread f batch file bytes old new (inr again) is = subst (λ (s : FamilyState). AgreesWith file bytes s.cached) (sym again.now) tt

-- ---- one more record

module _ (first : (d : _) (v : Version) (vs : List Version) (more : List (List Version)) → merged (version_cmp d) (place_in (version_cmp d) v vs ∷ more) ≡ place_in (version_cmp d) v (merged (version_cmp d) (vs ∷ more))) where
  -- the versions of family 0 are those that the files say
  pub system_is : (kv : KvState) (image : Image) (holds : Holds kv image) → system kv image ≡ system_of image kv.manifest.live.runs (after_verdict kv.log.verdict holds.logged).batches
  system_is kv image holds = held_versions first kv.families image kv.manifest.live.runs (after_verdict kv.log.verdict holds.logged).batches holds.held 0 (omega arith)

  module _ (kv : KvState) (i j : Image) (file : kv.log.gate.file ≡ kv.manifest.live.log) (base : kv.log.base ≡ kv.manifest.live.last_sequence) (log : LogHolds kv.log (i kv.log.gate.file)) (holds : Holds kv i) (nothing : kv.log.pending ≡ None) (same : SameBut kv.log.gate.file i j) (body : WalBody) (has : HasRecord (record_of kv.log body) (i kv.log.gate.file) (j kv.log.gate.file)) where
    abbrev live : Live
    live = kv.manifest.live

    abbrev before : Logged
    before = after_verdict kv.log.verdict holds.logged

    apart : AreApart live
    apart = says_apart i (said_of kv holds.logged) holds.says

    same_but : SameBut live.log i j
    same_but = subst (λ (f : ℕ). SameBut f i j) file same

    runs_same : SameFiles (run_files live.runs) i j
    runs_same = same_runs i j live live.runs same_but apart.runs

    manifest_same : i 0 ≡ j 0
    manifest_same = same_but 0 (λ is. none_below (subst (λ (n : ℕ). 15 < n) (sym is) apart.log))
      where
        none_below : 15 < 0 → ⊥
        none_below lt = omega (arith, lt)

    log_same : log.logged ≡ holds.logged
    log_same = log_is kv i file base log holds

    pub nothing_before : before.pending ≡ None
    nothing_before = ap (λ (l : Logged). undecided kv.log.verdict l.pending) (sym log_same) ∙ sym log.pending ∙ nothing

    due_now : is_wrong_verdict holds.logged.pending (record_bytes (record_of kv.log body)) ≡ false
    due_now = subst (λ (l : Logged). is_wrong_verdict l.pending (kv.log.verdict ∷ body_bytes body) ≡ false) log_same (due kv.log.verdict log.logged.pending (body_bytes body) log.verdict (sym log.pending ∙ nothing))

    -- the files say it with the record
    pub says_now : Says j (said_of kv (applied (record_of kv.log body) holds.logged))
    says_now =
        let reads : log_of kv.log.base (i kv.log.gate.file) ≡ Ok holds.logged = log.reads ∙ ap (λ (l : Logged). Ok l) log_same in
        let after = has kv.log.base holds.logged reads due_now in
        says_with i j (said_of kv holds.logged) (applied (record_of kv.log body) holds.logged) manifest_same holds.says
        (ap (λ (f : ℕ). log_of live.last_sequence (j f)) (sym file) ∙ ap (λ (b : ℕ). log_of b (j kv.log.gate.file)) (sym base) ∙ after)

    -- where families have the batches that count now
    pub holds_now : (log' : LogState) (ns : List Numbered) → (held : Held ns i live.runs (after_verdict log'.verdict (applied (record_of kv.log body) holds.logged)).batches) → ((f : ℕ) → IsTrueTo i (family_at ns f)) → AreUnread live.next_file ns → Holds (record { manifest = kv.manifest; log = log'; families = ns }) j
    holds_now log' ns held true_to unread = record {
      logged = applied (record_of kv.log body) holds.logged;
      says = says_now;
      held = held_image ns i j live.runs (after_verdict log'.verdict (applied (record_of kv.log body) holds.logged)).batches runs_same held;
      judged = sym (judged_same i j live.runs runs_same manifest_same) ∙ holds.judged;
      cached = λ f. true_in i j ns live.runs (after_verdict log'.verdict (applied (record_of kv.log body) holds.logged)).batches runs_same held f (true_to f);
      unread = unread;
    }

    naming_is : (batch : List Operation) → IsNaming (system kv i) batch → IsNaming (system_of i live.runs before.batches) batch
    naming_is batch naming = subst (λ (vs : List Version). IsNaming vs batch) (system_is kv i holds) naming

  -- a batch that counts at once
  pub holds_written : (kv : KvState) (i j : Image) (file : kv.log.gate.file ≡ kv.manifest.live.log) (base : kv.log.base ≡ kv.manifest.live.last_sequence) (log : LogHolds kv.log (i kv.log.gate.file)) (holds : Holds kv i) (nothing : kv.log.pending ≡ None) (same : SameBut kv.log.gate.file i j) →
      (sequence : ℕ) → sequence < 2 ^ 63 → (batch : List Operation) → HasRecord (record_of kv.log (Plain sequence batch)) (i kv.log.gate.file) (j kv.log.gate.file) → IsNaming (system kv i) batch →
      (log' : LogState) → log'.verdict ≡ 0 → (ns : List Numbered) → HasBatch sequence batch kv.families ns → Holds (record { manifest = kv.manifest; log = log'; families = ns }) j
  holds_written kv i j file base log holds nothing same sequence below batch has naming log' verdict ns batched =
      holds_now kv i j file base log holds nothing same (Plain sequence batch) has log' ns held
      true_after
      (λ f at bytes le. subst (λ (cs : List CachedBlock). AgreesWith at bytes cs) (sym (batched.added.families f).cached) (readied_unread f batch at bytes (family_at kv.families f) (family_at batched.between f) (batched.made.readied.each f) (holds.unread f at bytes le)))
    where
      named : IsNaming (system_of i kv.manifest.live.runs (counting kv holds.logged)) batch
      named = naming_is kv i j file base log holds nothing same (Plain sequence batch) has batch naming

      counted_now : (after_verdict log'.verdict (applied (record_of kv.log (Plain sequence batch)) holds.logged)).batches ≡ (counting kv holds.logged) ++ record { commit = None; sequence = sequence; operations = batch } ∷ []
      counted_now = ap (λ (v : ℕ). (after_verdict v (applied (record_of kv.log (Plain sequence batch)) holds.logged)).batches) verdict ∙ none_decided (undecided kv.log.verdict holds.logged.pending) ((counting kv holds.logged) ++ record { commit = None; sequence = sequence; operations = batch } ∷ [])

      between : Held batched.between i kv.manifest.live.runs (counting kv holds.logged)
      between = held_readied kv.families batched.between i kv.manifest.live.runs (counting kv holds.logged) batch named holds.held batched.made.readied

      held : Held ns i kv.manifest.live.runs (after_verdict log'.verdict (applied (record_of kv.log (Plain sequence batch)) holds.logged)).batches
      held = subst (Held ns i kv.manifest.live.runs) (sym counted_now)
          (held_added batched.between ns i kv.manifest.live.runs (counting kv holds.logged) None sequence below batch named (turned_readied kv.families batched.between i kv.manifest.live.runs (counting kv holds.logged) batch named holds.held batched.made.turned) between batched.added)

      true_after : (f : ℕ) → IsTrueTo i (family_at ns f)
      true_after f =
          let mid = readied_true f batch i (family_at kv.families f) (family_at batched.between f) (batched.made.readied.each f) (holds.cached f) in
          subst (λ (l : LevelsState). AgreeWith i (family_at ns f).cached (runs_by_level l)) (sym (batched.added.families f).levels)
          (subst (λ (cs : List CachedBlock). AgreeWith i cs (runs_by_level (family_at batched.between f).levels)) (sym (batched.added.families f).cached) mid)

  -- a batch that is pending
  pub holds_prepared : (kv : KvState) (i j : Image) (file : kv.log.gate.file ≡ kv.manifest.live.log) (base : kv.log.base ≡ kv.manifest.live.last_sequence) (log : LogHolds kv.log (i kv.log.gate.file)) (holds : Holds kv i) (nothing : kv.log.pending ≡ None) (same : SameBut kv.log.gate.file i j) →
      (k sequence : ℕ) (batch : List Operation) → HasRecord (record_of kv.log (Prepare k sequence batch)) (i kv.log.gate.file) (j kv.log.gate.file) → IsNaming (system kv i) batch →
      (log' : LogState) → log'.verdict ≡ 0 → (ns : List Numbered) → IsMadeReady batch kv.families ns → Holds (record { manifest = kv.manifest; log = log'; families = ns }) j
  holds_prepared kv i j file base log holds nothing same k sequence batch has naming log' verdict ns made =
      holds_now kv i j file base log holds nothing same (Prepare k sequence batch) has log' ns held
      (λ f. readied_true f batch i (family_at kv.families f) (family_at ns f) (made.readied.each f) (holds.cached f))
      (λ f at bytes le. readied_unread f batch at bytes (family_at kv.families f) (family_at ns f) (made.readied.each f) (holds.unread f at bytes le))
    where
      named : IsNaming (system_of i kv.manifest.live.runs (counting kv holds.logged)) batch
      named = naming_is kv i j file base log holds nothing same (Prepare k sequence batch) has batch naming

      counted_now : (after_verdict log'.verdict (applied (record_of kv.log (Prepare k sequence batch)) holds.logged)).batches ≡ counting kv holds.logged
      counted_now = ap (λ (v : ℕ). (after_verdict v (applied (record_of kv.log (Prepare k sequence batch)) holds.logged)).batches) verdict

      held : Held ns i kv.manifest.live.runs (after_verdict log'.verdict (applied (record_of kv.log (Prepare k sequence batch)) holds.logged)).batches
      held = subst (Held ns i kv.manifest.live.runs) (sym counted_now) (held_readied kv.families ns i kv.manifest.live.runs (counting kv holds.logged) batch named holds.held made.readied)

  -- families that it names have their direction
  pub turned_prepared : (kv : KvState) (i : Image) (holds : Holds kv i) (batch : List Operation) (ns : List Numbered) → IsMadeReady batch kv.families ns → IsNaming (system kv i) batch → AreTurned ns batch
  turned_prepared kv i holds batch ns made naming =
      turned_readied kv.families ns i kv.manifest.live.runs (counting kv holds.logged) batch (subst (λ (vs : List Version). IsNaming vs batch) (system_is kv i holds) naming) holds.held made.turned

  -- a verdict that the log has
  pub holds_settled : (kv : KvState) (i j : Image) (file : kv.log.gate.file ≡ kv.manifest.live.log) (base : kv.log.base ≡ kv.manifest.live.last_sequence) (log : LogHolds kv.log (i kv.log.gate.file)) (holds : Holds kv i) (nothing : kv.log.pending ≡ None) (same : SameBut kv.log.gate.file i j) →
      HasRecord (record_of kv.log Decided) (i kv.log.gate.file) (j kv.log.gate.file) → (log' : LogState) → log'.verdict ≡ 0 → Holds (record { manifest = kv.manifest; log = log'; families = kv.families }) j
  holds_settled kv i j file base log holds nothing same has log' verdict =
      holds_now kv i j file base log holds nothing same Decided has log' kv.families (subst (Held kv.families i kv.manifest.live.runs) (sym counted_now) holds.held) holds.cached holds.unread
    where
      counted_now : (after_verdict log'.verdict (applied (record_of kv.log Decided) holds.logged)).batches ≡ counting kv holds.logged
      counted_now = ap (λ (v : ℕ). (after_verdict v (applied (record_of kv.log Decided) holds.logged)).batches) verdict ∙ none_decided (undecided kv.log.verdict holds.logged.pending) (counting kv holds.logged)

  -- families that are made ready for a batch that isn't written
  pub holds_readied : (kv : KvState) (i : Image) → Holds kv i → (batch : List Operation) → IsNaming (system kv i) batch → (ns : List Numbered) → Readied batch kv.families ns → Holds (record { manifest = kv.manifest; log = kv.log; families = ns }) i
  holds_readied kv i holds batch naming ns readied = record {
    logged = holds.logged;
    says = holds.says;
    held = held_readied kv.families ns i kv.manifest.live.runs (counting kv holds.logged) batch (subst (λ (vs : List Version). IsNaming vs batch) (system_is kv i holds) naming) holds.held readied;
    judged = holds.judged;
    cached = λ f. readied_true f batch i (family_at kv.families f) (family_at ns f) (readied.each f) (holds.cached f);
    unread = λ f at bytes le. readied_unread f batch at bytes (family_at kv.families f) (family_at ns f) (readied.each f) (holds.unread f at bytes le);
  }

  -- ---- verdicts in memory

  picked : (b : Bool) (q p : Prepared) → (if b then Some q else None) ≡ Some p → (b ≡ true) × (◌≡◌ {A = Option Prepared} (Some q) (Some p))
  picked true q p is = (refl, is)
  picked false q p is = cc_none is
    where
      cc_none : ◌≡◌ {A = Option Prepared} None (Some p) → (false ≡ true) × (◌≡◌ {A = Option Prepared} (Some q) (Some p))
      cc_none e = absurd (differ e)
        where
          differ : ◌≡◌ {A = Option Prepared} None (Some p) → ⊥
          differ e = cc

  undecided_some : (verdict : ℕ) (pending : Option Prepared) (p : Prepared) → undecided verdict pending ≡ Some p → (verdict ≡ 0) × (pending ≡ Some p)
  undecided_some verdict None p is = cc_none is
    where
      cc_none : ◌≡◌ {A = Option Prepared} None (Some p) → (verdict ≡ 0) × (◌≡◌ {A = Option Prepared} None (Some p))
      cc_none e = absurd (differ e)
        where
          differ : ◌≡◌ {A = Option Prepared} None (Some p) → ⊥
          differ e = cc
  undecided_some verdict (Some q) p is = let both' = picked (verdict == 0) q p is in (grind (arith, nat_tests, both'.0), both'.1)

  module _ (kv : KvState) (i : Image) (file : kv.log.gate.file ≡ kv.manifest.live.log) (base : kv.log.base ≡ kv.manifest.live.last_sequence) (log : LogHolds kv.log (i kv.log.gate.file)) (holds : Holds kv i) (p : Prepared) (pending : kv.log.pending ≡ Some p) where
    one_pending : (kv.log.verdict ≡ 0) × (holds.logged.pending ≡ Some p)
    one_pending = undecided_some kv.log.verdict holds.logged.pending p (ap (λ (l : Logged). undecided kv.log.verdict l.pending) (sym (log_is kv i file base log holds)) ∙ sym log.pending ∙ pending)

    counted_before : counting kv holds.logged ≡ holds.logged.batches
    counted_before = ap (λ (v : ℕ). decided v holds.logged.pending holds.logged.batches) one_pending.0 ∙ none_decided holds.logged.pending holds.logged.batches

    pub holds_decided : p.sequence < 2 ^ 63 → IsNaming (system kv i) p.operations → AreTurned kv.families p.operations → (ns : List Numbered) → Added p.sequence p.operations kv.families ns → Holds (record { manifest = kv.manifest; log = with_verdict 1 kv.log; families = ns }) i
    holds_decided below naming turn ns added = record {
      logged = holds.logged;
      says = holds.says;
      held = subst (Held ns i kv.manifest.live.runs) (sym counted_now)
          (held_added kv.families ns i kv.manifest.live.runs (counting kv holds.logged) (Some p.commit) p.sequence below p.operations (subst (λ (vs : List Version). IsNaming vs p.operations) (system_is kv i holds) naming) turn holds.held added);
      judged = holds.judged;
      cached = true_after;
      unread = λ f at bytes le. subst (λ (cs : List CachedBlock). AgreesWith at bytes cs) (sym (added.families f).cached) (holds.unread f at bytes le);
    }
      where
        counted_now : decided 1 holds.logged.pending holds.logged.batches ≡ counting kv holds.logged ++ record { commit = Some p.commit; sequence = p.sequence; operations = p.operations } ∷ []
        counted_now =
            ap (λ (o : Option Prepared). decided 1 o holds.logged.batches) one_pending.1
            ∙ ap (λ (bs : List Batched). bs ++ record { commit = Some p.commit; sequence = p.sequence; operations = p.operations } ∷ []) (sym counted_before)

        true_after : (f : ℕ) → IsTrueTo i (family_at ns f)
        true_after f =
            subst (λ (l : LevelsState). AgreeWith i (family_at ns f).cached (runs_by_level l)) (sym (added.families f).levels)
            (subst (λ (cs : List CachedBlock). AgreeWith i cs (runs_by_level (family_at kv.families f).levels)) (sym (added.families f).cached) (holds.cached f))

    pub holds_abandoned : Holds (record { manifest = kv.manifest; log = with_verdict 2 kv.log; families = kv.families }) i
    holds_abandoned = record {
      logged = holds.logged;
      says = holds.says;
      held = subst (Held kv.families i kv.manifest.live.runs) (sym (ap (λ (o : Option Prepared). decided 2 o holds.logged.batches) one_pending.1) ∙ refl) (subst (Held kv.families i kv.manifest.live.runs) counted_before holds.held);
      judged = holds.judged;
      cached = holds.cached;
      unread = holds.unread;
    }
