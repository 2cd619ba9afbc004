-- A store that is ready, after a call.
use Rattle.std.proofs.Common.{◌≡◌, ◌≢◌, ◌==◌, ℕ, ◌⊎◌, ◌<◌, ◌≤◌, ◌^◌, Bool, true, IsTrue, IfSome, List, [], ◌∷◌, Option, None, Some, inl, inr, refl, sym, ◌∙◌, ap, subst, arith}
use Rattle.std.proofs.lemmas.Bool.{cases_Bool}
use Rattle.std.proofs.lemmas.Bool.Decides.{nat_tests}
use Rattle.mr_base.specs.Disk.{State, Moment, Image, Tells, File, file_of, seen}
use Rattle.mr_base.specs.Calls.{Same}
use Rattle.mr_base.specs.declared.stop.Stop.{Stop}
use Rattle.mr_base.specs.declared.stop.Stop.TheVariants.{Memory, Disk, Full, Damaged}
use Rattle.mr_gate.specs.Gate.{Gate, IsUntouched}
use Rattle.mr_store_memory.specs.Readied.{Readied}
use Rattle.mr_base.proofs.Moments.{same_present, same_start}
use Rattle.mr_base.proofs.Counting.{counts_start}
use Rattle.mr_wal.specs.declared.operation.Operation.{Operation}
use Rattle.mr_wal.specs.declared.record.WalBody.TheVariants.{Prepare, Plain, Decided}
use Rattle.mr_iter.specs.Versions.{Version, version_cmp, place_in, merged}
use Rattle.mr_manifest.specs.Manifest.{StandsFor}
use Rattle.mr_engine_log.specs.Added.{HasRecord}
use Rattle.mr_engine_log.specs.Standing.{LogState, Holds as LogHolds, IsReady as LogIsReady, IsRecordStop, IsAppendStop, record_of, with_record, with_verdict, prepared}
use Rattle.mr_engine_log.specs.declared.batched.Prepared.{Prepared}
use Rattle.mr_families.specs.declared.numbered.Numbered.{Numbered}
use Rattle.mr_families.specs.Batches.{Added, AreAwaited, AreKnown, entries_for, bytes_for}
use Rattle.mr_families.specs.Known.{family_at, is_listed}
use Rattle.mr_families.specs.Changed.{OnlyAt}
use Rattle.mr_memtable.specs.Tables.{MemState}
use Rattle.mr_block_cache.specs.Cache.{AgreesWith}
use Rattle.mr_levels.specs.Levels.{LevelsState, run_lists, runs as runs_by_level}
use Rattle.mr_family.specs.Family.{FamilyState, direction, IsTrueTo}
use Rattle.mr_store_memory.specs.Held.{AreTurned}
use Rattle.mr_stored.specs.Names.{IsNaming}
use Rattle.mr_kv.specs.Store.{KvState, IsReady, Holds, NamesPending, system}
use Rattle.mr_kv.specs.Batch.{IsMadeReady, HasBatch}
use Rattle.mr_kv.proofs.Holding.{holds_written, holds_prepared, holds_settled, holds_decided, holds_abandoned, holds_readied, turned_prepared}
use Rattle.mr_kv.proofs.Cached.{holds_got}
use Rattle.mr_kv.proofs.Moments.{apart_from_manifest}

module _ (first : (d : _) (v : Version) (vs : List Version) (more : List (List Version)) → merged (version_cmp d) (place_in (version_cmp d) v vs ∷ more) ≡ place_in (version_cmp d) v (merged (version_cmp d) (vs ∷ more))) (kv : KvState) (s t : State) (ready : IsReady kv s) (nothing : kv.log.pending ≡ None) (tells : t.tells ≡ s.tells) (others : Tells s → (other : ℕ) → other ≢ kv.log.gate.file → file_of t other ≡ file_of s other) where
  told : Tells t → Tells s
  told is = subst (λ (b : Bool). IsTrue b) tells is

  same : Tells s → (other : ℕ) → other ≢ kv.log.gate.file → seen s other ≡ seen t other
  same is other apart = ap (λ (f : File). f.bytes) (sym (others is other apart))

  manifest_stays : Tells t → StandsFor kv.manifest (file_of t 0).bytes
  manifest_stays is =
      let before = told is in
      subst (λ (bytes : List ℕ). StandsFor kv.manifest bytes) (same before 0 (λ zero. apart_from_manifest (seen s) (record { live = kv.manifest.live; logged = (ready.holds before).logged }) (ready.holds before).says (zero ∙ ready.file))) (ready.manifest before)

  pub ready_written : (n sequence : ℕ) → sequence < 2 ^ 63 → (batch : List Operation) → (Tells s → IsNaming (system kv (seen s)) batch) → (Tells s → HasRecord (record_of kv.log (Plain sequence batch)) (seen s kv.log.gate.file) (seen t kv.log.gate.file)) →
      LogIsReady (with_record n None sequence kv.log) t → (ns : List Numbered) → HasBatch sequence batch kv.families ns → IsReady (record { manifest = kv.manifest; log = with_record n None sequence kv.log; families = ns }) t
  ready_written n sequence below batch naming has log ns batched = record {
    is_open = ready.is_open;
    manifest = manifest_stays;
    log = log;
    file = ready.file;
    base = ready.base;
    awaits = tt;
    turned = λ is. tt;
    holds = λ is.
        let before = told is in
        holds_written first kv (seen s) (seen t) ready.file ready.base (ready.log.holds before) (ready.holds before) nothing (same before) sequence below batch (has before) (naming before) (with_record n None sequence kv.log) refl ns batched;
  }

  pub ready_prepared : (n k sequence : ℕ) → sequence < 2 ^ 63 → (batch : List Operation) → (Tells s → IsNaming (system kv (seen s)) batch) → (Tells s → HasRecord (record_of kv.log (Prepare k sequence batch)) (seen s kv.log.gate.file) (seen t kv.log.gate.file)) →
      LogIsReady (with_record n (Some (prepared k sequence batch)) sequence kv.log) t → (ns : List Numbered) → IsMadeReady batch kv.families ns → AreAwaited ns batch → IsReady (record { manifest = kv.manifest; log = with_record n (Some (prepared k sequence batch)) sequence kv.log; families = ns }) t
  ready_prepared n k sequence below batch naming has log ns made awaited = record {
    is_open = ready.is_open;
    manifest = manifest_stays;
    log = log;
    file = ready.file;
    base = ready.base;
    awaits = (below, awaited);
    turned = λ is now. turned_prepared first kv (seen s) (ready.holds (told is)) batch ns made (naming (told is));
    holds = λ is.
        let before = told is in
        holds_prepared first kv (seen s) (seen t) ready.file ready.base (ready.log.holds before) (ready.holds before) nothing (same before) k sequence batch (has before) (naming before) (with_record n (Some (prepared k sequence batch)) sequence kv.log) refl ns made;
  }

  pub ready_settled : (n : ℕ) → (Tells s → HasRecord (record_of kv.log Decided) (seen s kv.log.gate.file) (seen t kv.log.gate.file)) →
      LogIsReady (with_record n None kv.log.last kv.log) t → IsReady (record { manifest = kv.manifest; log = with_record n None kv.log.last kv.log; families = kv.families }) t
  ready_settled n has log = record {
    is_open = ready.is_open;
    manifest = manifest_stays;
    log = log;
    file = ready.file;
    base = ready.base;
    awaits = tt;
    turned = λ is. tt;
    holds = λ is.
        let before = told is in
        holds_settled first kv (seen s) (seen t) ready.file ready.base (ready.log.holds before) (ready.holds before) nothing (same before) (has before) (with_record n None kv.log.last kv.log) refl;
  }

-- ---- verdicts in memory

module _ (first : (d : _) (v : Version) (vs : List Version) (more : List (List Version)) → merged (version_cmp d) (place_in (version_cmp d) v vs ∷ more) ≡ place_in (version_cmp d) v (merged (version_cmp d) (vs ∷ more))) (kv : KvState) (s : State) (ready : IsReady kv s) where
  pub ready_decided : (p : Prepared) → kv.log.pending ≡ Some p → (Tells s → NamesPending kv (seen s)) → (ns : List Numbered) → Added p.sequence p.operations kv.families ns → LogIsReady (with_verdict 1 kv.log) s → IsReady (record { manifest = kv.manifest; log = with_verdict 1 kv.log; families = ns }) s
  ready_decided p pending naming ns added log =
      let awaits : (p.sequence < 2 ^ 63) × AreAwaited kv.families p.operations = subst (λ (o : Option Prepared). IfSome o (λ q. (q.sequence < 2 ^ 63) × AreAwaited kv.families q.operations)) pending ready.awaits in
      record {
        is_open = ready.is_open;
        manifest = ready.manifest;
        log = log;
        file = ready.file;
        base = ready.base;
        awaits = tt;
        turned = λ is. tt;
        holds = λ is.
            let named : IsNaming (system kv (seen s)) p.operations = subst (λ (o : Option Prepared). IfSome o (λ q. IsNaming (system kv (seen s)) q.operations)) pending (naming is) in
            let turn : AreTurned kv.families p.operations = subst (λ (o : Option Prepared). IfSome o (λ q. IsNaming (system kv (seen s)) q.operations → AreTurned kv.families q.operations)) pending (ready.turned is) named in
            holds_decided first kv (seen s) ready.file ready.base (ready.log.holds is) (ready.holds is) p pending awaits.0 named turn ns added;
      }

  pub ready_abandoned : (p : Prepared) → kv.log.pending ≡ Some p → LogIsReady (with_verdict 2 kv.log) s → IsReady (record { manifest = kv.manifest; log = with_verdict 2 kv.log; families = kv.families }) s
  ready_abandoned p pending log = record {
    is_open = ready.is_open;
    manifest = ready.manifest;
    log = log;
    file = ready.file;
    base = ready.base;
    awaits = tt;
    turned = λ is. tt;
    holds = λ is. holds_abandoned first kv (seen s) ready.file ready.base (ready.log.holds is) (ready.holds is) p pending;
  }

-- ---- look-ups

same_number : (m n : ℕ) → (m == n) ≡ true → m ≡ n
same_number m n e = grind (arith, nat_tests)

module _ (kv : KvState) (s t : State) (ready : IsReady kv s) (tells : t.tells ≡ s.tells) (same : Tells s → Same s t) (number : ℕ) (ns : List Numbered) (only : OnlyAt number kv.families ns) (memtable : (family_at ns number).memtable ≡ (family_at kv.families number).memtable) (levels : (family_at ns number).levels ≡ (family_at kv.families number).levels) where
  at_each : (P : ℕ → FamilyState → Type 0) (f : ℕ) → P number (family_at ns number) → P f (family_at kv.families f) → P f (family_at ns f)
  at_each P f own other = elim (cases_Bool (number == f)) [
    | inl is ↦ subst (λ (g : ℕ). P g (family_at ns g)) (same_number number f is) own
    | inr not ↦ subst (P f) (sym (only.others f not)) other
  ]

  told_before : Tells t → Tells s
  told_before is = subst (λ (b : Bool). IsTrue b) tells is

  same_levels : (f : ℕ) → (family_at ns f).levels ≡ (family_at kv.families f).levels
  same_levels f = at_each (λ (g : ℕ) (x : FamilyState). x.levels ≡ (family_at kv.families g).levels) f levels refl

  same_memtable : (f : ℕ) → (family_at ns f).memtable ≡ (family_at kv.families f).memtable
  same_memtable f = at_each (λ (g : ℕ) (x : FamilyState). x.memtable ≡ (family_at kv.families g).memtable) f memtable refl

  system_stays : (image : Image) → system (record { manifest = kv.manifest; log = kv.log; families = ns }) image ≡ system kv image
  system_stays image =
      ap (λ (l : LevelsState). merged (version_cmp l.direction) ((family_at ns 0).memtable.versions ∷ run_lists (runs_by_level l) image)) (same_levels 0)
      ∙ ap (λ (m : MemState). merged (version_cmp (direction (family_at kv.families 0))) (m.versions ∷ run_lists (runs_by_level (family_at kv.families 0).levels) image)) (same_memtable 0)

  known_stays : (os : List Operation) → AreKnown kv.families os → AreKnown ns os
  known_stays [] all = tt
  known_stays (o ∷ os) all = (ap (λ (xs : List ℕ). is_listed xs o.family) only.listed ∙ all.0, known_stays os all.1)

  awaited_stay : (os : List Operation) → AreAwaited kv.families os → AreAwaited ns os
  awaited_stay os awaited = record {
    known = known_stays os awaited.known;
    entries = λ f. subst (λ (m : MemState). entries_for f os ≤ m.entries) (sym (same_memtable f)) (awaited.entries f);
    bytes = λ f. subst (λ (m : MemState). bytes_for f os ≤ m.bytes) (sym (same_memtable f)) (awaited.bytes f);
  }

  awaits_stay : (o : Option Prepared) → IfSome o (λ p. (p.sequence < 2 ^ 63) × AreAwaited kv.families p.operations) → IfSome o (λ p. (p.sequence < 2 ^ 63) × AreAwaited ns p.operations)
  awaits_stay None is = tt
  awaits_stay (Some p) is = (is.0, awaited_stay p.operations is.1)

  turned_stay : (image : Image) (o : Option Prepared) → IfSome o (λ p. IsNaming (system kv image) p.operations → AreTurned kv.families p.operations) → IfSome o (λ p. IsNaming (system (record { manifest = kv.manifest; log = kv.log; families = ns }) image) p.operations → AreTurned ns p.operations)
  turned_stay image None is = tt
  turned_stay image (Some p) is = λ naming f far below names. ap (λ (l : LevelsState). l.direction) (same_levels f) ∙ is (subst (λ (vs : List Version). IsNaming vs p.operations) (system_stays image) naming) f far below names

  seen_same : Tells s → seen s ≡ seen t
  seen_same is =
      let bytes_of_each : Moment → Image = λ m file. (m.files file).bytes in
      ap bytes_of_each (sym (same_present s t (same is)))

  log_stays : LogIsReady kv.log s → LogIsReady kv.log t
  log_stays log = record {
    is_open = log.is_open;
    verdict = log.verdict;
    holds = λ is. subst (λ (image : Image). LogHolds kv.log (image kv.log.gate.file)) (seen_same (told_before is)) (log.holds (told_before is));
  }

  pub ready_got : (Tells s → IsTrueTo (seen s) (family_at ns number)) → ((file : ℕ) (bytes : List ℕ) → Tells s → kv.manifest.live.next_file ≤ file → AgreesWith file bytes (family_at kv.families number).cached → AgreesWith file bytes (family_at ns number).cached) → IsReady (record { manifest = kv.manifest; log = kv.log; families = ns }) t
  ready_got true_to unread = record {
    is_open = ready.is_open;
    manifest = λ is. subst (λ (image : Image). StandsFor kv.manifest (image 0)) (seen_same (told_before is)) (ready.manifest (told_before is));
    log = log_stays ready.log;
    file = ready.file;
    base = ready.base;
    awaits = awaits_stay kv.log.pending ready.awaits;
    turned = λ is. subst (λ (image : Image). IfSome kv.log.pending (λ p. IsNaming (system (record { manifest = kv.manifest; log = kv.log; families = ns }) image) p.operations → AreTurned ns p.operations)) (seen_same (told_before is)) (turned_stay (seen s) kv.log.pending (ready.turned (told_before is)));
    holds = λ is.
        let before = told_before is in
        subst (λ (image : Image). Holds (record { manifest = kv.manifest; log = kv.log; families = ns }) image) (seen_same before)
        (holds_got kv (seen s) (ready.holds before) number ns only memtable levels (true_to before) (λ file bytes le. unread file bytes before le));
  }

-- ---- calls that wrote nothing

untouched_record : (gate : Gate) (n : ℕ) (s t : State) (stop : Stop) → IsRecordStop gate n s t stop → (stop ≡ Disk) ⊎ IsUntouched s t
untouched_record gate n s t Memory is = inr is
untouched_record gate n s t Disk is = inl refl
untouched_record gate n s t (Full what at limit) is = inr is.2
untouched_record gate n s t (Damaged file at) is = absurd is

pub untouched_append : (log : LogState) (n : ℕ) (s t : State) (stop : Stop) → IsAppendStop log n s t stop → (stop ≡ Disk) ⊎ IsUntouched s t
untouched_append log n s t stop (inl is) = untouched_record log.gate n s t stop is
untouched_append log n s t stop (inr is) = inr is.3

pub untouched_settle : (gate : Gate) (n : ℕ) (s t : State) (stop : Stop) → IsRecordStop gate n s t stop → (stop ≡ Disk) ⊎ IsUntouched s t
untouched_settle = untouched_record

module _ (kv : KvState) (s t : State) (ready : IsReady kv s) (nothing : kv.log.pending ≡ None) (untouched : IsUntouched s t) where
  told_then : Tells t → Tells s
  told_then is = subst (λ (b : Bool). IsTrue b) untouched.counts.tells is

  same_seen : Tells s → seen s ≡ seen t
  same_seen is =
      let bytes_of_each : Moment → Image = λ m file. (m.files file).bytes in
      ap bytes_of_each (sym (same_present s t (untouched.same is)))

  -- where its families mean the same
  still_ready : (ns : List Numbered) → (Tells s → Holds (record { manifest = kv.manifest; log = kv.log; families = ns }) (seen s)) → IsReady (record { manifest = kv.manifest; log = kv.log; families = ns }) t
  still_ready ns holds = record {
    is_open = ready.is_open;
    manifest = λ is. subst (λ (image : Image). StandsFor kv.manifest (image 0)) (same_seen (told_then is)) (ready.manifest (told_then is));
    log = record {
      is_open = ready.log.is_open;
      verdict = ready.log.verdict;
      holds = λ is. subst (λ (image : Image). LogHolds kv.log (image kv.log.gate.file)) (same_seen (told_then is)) (ready.log.holds (told_then is));
    };
    file = ready.file;
    base = ready.base;
    awaits = subst (λ (o : Option Prepared). IfSome o (λ p. (p.sequence < 2 ^ 63) × AreAwaited ns p.operations)) (sym nothing) tt;
    turned = λ is. subst (λ (o : Option Prepared). IfSome o (λ p. IsNaming (system (record { manifest = kv.manifest; log = kv.log; families = ns }) (seen t)) p.operations → AreTurned ns p.operations)) (sym nothing) tt;
    holds = λ is. subst (λ (image : Image). Holds (record { manifest = kv.manifest; log = kv.log; families = ns }) image) (same_seen (told_then is)) (holds (told_then is));
  }

  pub ready_as_before : IsReady kv t
  ready_as_before = still_ready kv.families ready.holds

  module _ (first : (d : _) (v : Version) (vs : List Version) (more : List (List Version)) → merged (version_cmp d) (place_in (version_cmp d) v vs ∷ more) ≡ place_in (version_cmp d) v (merged (version_cmp d) (vs ∷ more))) where
    pub ready_unwritten : (batch : List Operation) → (Tells s → IsNaming (system kv (seen s)) batch) → (ns : List Numbered) → Readied batch kv.families ns → IsReady (record { manifest = kv.manifest; log = kv.log; families = ns }) t
    ready_unwritten batch naming ns readied = still_ready ns (λ is. holds_readied first kv (seen s) (ready.holds is) batch (naming is) ns readied)

pub untouched_itself : (s : State) → IsUntouched s s
untouched_itself s = record { counts = counts_start s; same = λ is. same_start s }
