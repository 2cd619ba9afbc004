-- What keeps families beside what files say.
use Rattle.std.proofs.Common.{◌≡◌, ◌⊎◌, ◌&&◌, ◌||◌, ◌==◌, ◌++◌, not, nat_lt, ℕ, ◌<◌, ◌≤◌, ◌^◌, Bool, true, false, if◌then◌else◌, List, [], ◌∷◌, length, Option, Some, None, sym, ◌∙◌, ap, subst, inl, inr, arith}
use Rattle.std.specs.List.{AllByRecursion}
use Rattle.std.proofs.lemmas.Bool.{cases_Bool}
use Rattle.std.proofs.lemmas.Bool.Decides.{nat_tests}
use Rattle.mr_base.specs.Disk.{Image}
use Rattle.mr_base.specs.declared.stop.Direction.{Direction}
use Rattle.mr_base.specs.declared.stop.Direction.TheVariants.{Forward}
use Rattle.mr_wal.specs.declared.operation.Operation.{Operation}
use Rattle.mr_iter.specs.Versions.{Version, version_cmp, place_in, merged}
use Rattle.mr_iter.specs.Newest.{newest}
use Rattle.mr_iter.specs.Order.{each-append}
use Rattle.mr_iter.specs.Cursors.{SameFiles}
use Rattle.mr_iter.specs.Children.{AnyOf}
use Rattle.mr_levels.specs.Levels.{LevelsState, no_runs, run_lists, runs as runs_by_level}
use Rattle.mr_manifest.specs.declared.live.LiveRun.{LiveRun}
use Rattle.mr_engine_log.specs.declared.batched.Batched.{Batched}
use Rattle.mr_family.specs.Family.{FamilyState, direction, versions}
use Rattle.mr_families.specs.declared.numbered.Numbered.{Numbered}
use Rattle.mr_families.specs.Known.{family_at, is_empty}
use Rattle.mr_families.specs.Changed.{without_room}
use Rattle.mr_families.specs.Batches.{is_on, with_operations, Added}
use Rattle.mr_stored.specs.Names.{family_key, record_of, is_name, is_named, direction_in, record_direction, names, named_direction, is_on_name, IsNaming}
use Rattle.mr_stored.specs.Lists.{levels_of, with_batches, list_of, system_of, direction_of, versions_of, run_files, OperationsAreNamed}
use Rattle.mr_stored.proofs.Batching.{with_batches-append, list_in_order, list_with_batch, batches_first}
use Rattle.mr_stored.proofs.Naming.{on_name, on_key, still_named, named_after, record_after}
use Rattle.mr_stored.proofs.Unnamed.{no_levels, no_batches, no_list}
use Rattle.mr_stored.proofs.Kept.{levels_same, direction_same, system_same, named_same}
use Rattle.mr_store_memory.specs.Held.{Held, AreTurned}
use Rattle.mr_store_memory.specs.Readied.{IsRelearnt, Readied, AreTurnedBy}
use Rattle.mr_store_memory.proofs.Turning.{turned_named}

clash : {b : Bool} → b ≡ false → b ≡ true → ⊥
clash low high = cc

-- ---- the same runs in another image

pub held_image : (ns : List Numbered) (i j : Image) (runs : List LiveRun) (bs : List Batched) → SameFiles (run_files runs) i j → Held ns i runs bs → Held ns j runs bs
held_image ns i j runs bs same held = record {
  named = named_same i j runs same bs held.named;
  levels = λ f. held.levels f ∙ levels_same i j runs same (direction (family_at ns f)) f;
  memory = held.memory;
  directions = λ f below named. held.directions f below (subst (λ (system : List Version). is_named system f ≡ true) (sym (system_same i j runs same bs)) named) ∙ direction_same i j runs same bs f;
}

-- ---- families that the batch makes ready

-- a family of which the batch has a record isn't named yet
not_named : (system : List Version) (f : ℕ) (batch : List Operation) → 2 ≤ f → AllByRecursion (λ (o : Operation). is_on_name o ≡ true → newest (2 ^ 63) o.key system ≡ None) batch → AnyOf (λ (o : Operation). is_on 0 (family_key f) o ≡ true) batch → is_named system f ≡ false
not_named system f [] far kept any = absurd any
not_named system f (o ∷ os) far kept (inl on) =
    let none : record_of f system ≡ None = subst (λ (k : List ℕ). newest (2 ^ 63) k system ≡ None) (on_key f o on) (kept.0 (on_name f o on)) in
    let high : nat_lt f 2 ≡ false = grind (arith, nat_tests, far) in
    ap (λ (r : Option Version). nat_lt f 2 || is_name r) none ∙ ap (λ (b : Bool). b || false) high
not_named system f (o ∷ os) far kept (inr any) = not_named system f os far kept.1 any

module _ (old new : List Numbered) (image : Image) (runs : List LiveRun) (bs : List Batched) (batch : List Operation) (naming : IsNaming (system_of image runs bs) batch) (held : Held old image runs bs) where
  readied : Readied batch old new → Held new image runs bs
  readied ready = record {
    named = held.named;
    levels = λ f. levels_at f (ready.each f);
    memory = λ f. memory_at f (ready.each f);
    directions = λ f below named. directions_at f below named (ready.each f);
  }
    where
      Case : ℕ → Type 0
      Case f = (without_room (family_at new f) ≡ without_room (family_at old f)) ⊎ IsRelearnt f batch (family_at old f) (family_at new f)

      unnamed : (f : ℕ) → IsRelearnt f batch (family_at old f) (family_at new f) → is_named (system_of image runs bs) f ≡ false
      unnamed f again = not_named (system_of image runs bs) f batch again.far naming.kept again.told

      same_levels : (f : ℕ) → without_room (family_at new f) ≡ without_room (family_at old f) → (family_at new f).levels ≡ (family_at old f).levels
      same_levels f same = ap (λ (s : FamilyState). s.levels) same

      levels_at : (f : ℕ) → (without_room (family_at new f) ≡ without_room (family_at old f)) ⊎ IsRelearnt f batch (family_at old f) (family_at new f) → (family_at new f).levels ≡ levels_of (direction (family_at new f)) f image runs
      levels_at f (inl same) = same_levels f same ∙ held.levels f ∙ ap (λ (s : LevelsState). levels_of s.direction f image runs) (sym (same_levels f same))
      levels_at f (inr again) = ap (λ (s : FamilyState). s.levels) again.now ∙ sym (no_levels image runs bs held.named f (unnamed f again) (direction (family_at new f)))

      memory_at : (f : ℕ) → (without_room (family_at new f) ≡ without_room (family_at old f)) ⊎ IsRelearnt f batch (family_at old f) (family_at new f) → (family_at new f).memtable.versions ≡ with_batches (direction (family_at new f)) f bs []
      memory_at f (inl same) = ap (λ (s : FamilyState). s.memtable.versions) same ∙ held.memory f ∙ ap (λ (s : LevelsState). with_batches s.direction f bs []) (sym (same_levels f same))
      memory_at f (inr again) = ap (λ (s : FamilyState). s.memtable.versions) again.now ∙ sym (no_batches image runs bs held.named f (unnamed f again) (direction (family_at new f)) [])

      directions_at : (f : ℕ) → f < 2 ^ 32 → is_named (system_of image runs bs) f ≡ true → (without_room (family_at new f) ≡ without_room (family_at old f)) ⊎ IsRelearnt f batch (family_at old f) (family_at new f) → direction (family_at new f) ≡ direction_of image runs bs f
      directions_at f below named (inl same) = ap (λ (s : LevelsState). s.direction) (same_levels f same) ∙ held.directions f below named
      directions_at f below named (inr again) = absurd (clash (unnamed f again) named)

  -- a family without a record is empty
  unnamed_is_empty : (f : ℕ) → is_named (system_of image runs bs) f ≡ false → is_empty (family_at old f) ≡ true
  unnamed_is_empty f unnamed =
      let d = direction (family_at old f) in
      let memory : (family_at old f).memtable.versions ≡ [] = held.memory f ∙ no_batches image runs bs held.named f unnamed d [] in
      let levels : (family_at old f).levels ≡ no_runs d = held.levels f ∙ no_levels image runs bs held.named f unnamed d in
      ap (λ (vs : List Version). not (not (length vs == 0)) && not (not (length (runs_by_level (family_at old f).levels) == 0))) memory
      ∙ ap (λ (s : LevelsState). not (not (length (runs_by_level s) == 0))) levels

  turned_to : AreTurnedBy batch old new → AreTurned new batch
  turned_to by f far below is = by f far below (unnamed_is_empty f (not_named (system_of image runs bs) f batch far naming.kept (some_on batch is))) ∙ turned_named f batch (direction (family_at old f)) is
    where
      some_on : (os : List Operation) → names f os ≡ true → AnyOf (λ (o : Operation). is_on 0 (family_key f) o ≡ true) os
      some_on [] is = cc
      some_on (o ∷ os) is = elim (cases_Bool (is_on 0 (family_key f) o)) [
        | inl on ↦ inl on
        | inr not_on ↦ inr (some_on os (behind (Rattle.mr_stored.specs.Names.last_on 0 (family_key f) os) (sym (ap (λ (b : Bool). Rattle.mr_stored.specs.Names.is_naming (Rattle.mr_stored.specs.Names.or_else (Rattle.mr_stored.specs.Names.last_on 0 (family_key f) os) (if b then Some o else None))) not_on) ∙ is)))
      ]
        where
          behind : (last : Option Operation) → Rattle.mr_stored.specs.Names.is_naming (Rattle.mr_stored.specs.Names.or_else last None) ≡ true → Rattle.mr_stored.specs.Names.is_naming last ≡ true
          behind None is = cc
          behind (Some p) is = is

pub held_readied : (old new : List Numbered) (image : Image) (runs : List LiveRun) (bs : List Batched) (batch : List Operation) → IsNaming (system_of image runs bs) batch → Held old image runs bs → Readied batch old new → Held new image runs bs
held_readied old new image runs bs batch naming held ready = readied old new image runs bs batch naming held ready

pub turned_readied : (old new : List Numbered) (image : Image) (runs : List LiveRun) (bs : List Batched) (batch : List Operation) → IsNaming (system_of image runs bs) batch → Held old image runs bs → AreTurnedBy batch old new → AreTurned new batch
turned_readied old new image runs bs batch naming held by = turned_to old new image runs bs batch naming held by

-- ---- a batch that is added

module _ (old new : List Numbered) (image : Image) (runs : List LiveRun) (bs : List Batched) (commit : Option ℕ) (sequence : ℕ) (below : sequence < 2 ^ 63) (batch : List Operation) (naming : IsNaming (system_of image runs bs) batch) (turn : AreTurned old batch) (held : Held old image runs bs) (added : Added sequence batch old new) where
  abbrev one : Batched
  one = record { commit = commit; sequence = sequence; operations = batch }

  abbrev before : List Version
  before = system_of image runs bs

  abbrev after : List Version
  after = system_of image runs (bs ++ one ∷ [])

  after_is : after ≡ with_operations Forward 0 sequence batch before
  after_is = list_with_batch Forward 0 image runs bs one

  same_direction : (f : ℕ) → direction (family_at new f) ≡ direction (family_at old f)
  same_direction f = ap (λ (s : LevelsState). s.direction) (added.families f).levels

  order : Rattle.mr_iter.specs.Versions.IsInOrder (version_cmp Forward) before
  order = list_in_order Forward 0 image runs bs

  -- a record stays
  stays : (f : ℕ) → is_name (record_of f before) ≡ true → record_of f after ≡ record_of f before
  stays f is = ap (record_of f) after_is ∙ still_named sequence below before order batch naming.kept f is

  low_or_name : (f : ℕ) (record' : Option Version) → (nat_lt f 2 || is_name record') ≡ true → (nat_lt f 2 ≡ true) ⊎ (is_name record' ≡ true)
  low_or_name f record' is = elim (cases_Bool (nat_lt f 2)) [
    | inl low ↦ inl low
    | inr high ↦ inr (sym (ap (λ (b : Bool). b || is_name record') high) ∙ is)
  ]

  named_by_low : (f : ℕ) (system : List Version) → nat_lt f 2 ≡ true → is_named system f ≡ true
  named_by_low f system low = ap (λ (b : Bool). b || is_name (record_of f system)) low

  named_by_name : (f : ℕ) (system : List Version) → is_name (record_of f system) ≡ true → is_named system f ≡ true
  named_by_name f system is = elim (cases_Bool (nat_lt f 2)) [
    | inl low ↦ named_by_low f system low
    | inr high ↦ ap (λ (b : Bool). b || is_name (record_of f system)) high ∙ is
  ]

  -- named families stay so, and the batch names others
  still : (f : ℕ) → is_named before f ≡ true → is_named after f ≡ true
  still f is = by (low_or_name f (record_of f before) is)
    where
      by : (nat_lt f 2 ≡ true) ⊎ (is_name (record_of f before) ≡ true) → is_named after f ≡ true
      by (inl low) = named_by_low f after low
      by (inr name) = named_by_name f after (ap is_name (stays f name) ∙ name)

  by_batch : (f : ℕ) → names f batch ≡ true → (is_name (record_of f after) ≡ true) × (record_direction (record_of f after) ≡ named_direction f batch)
  by_batch f is =
      let both = named_after sequence below before order batch naming.kept f is in
      (ap (λ (system : List Version). is_name (record_of f system)) after_is ∙ both.0, ap (λ (system : List Version). record_direction (record_of f system)) after_is ∙ both.1)

  runs_named : (rs : List LiveRun) → AllByRecursion (λ (run : LiveRun). is_named before run.family ≡ true) rs → AllByRecursion (λ (run : LiveRun). is_named after run.family ≡ true) rs
  runs_named [] all = tt
  runs_named (run ∷ rs) all = (still run.family all.0, runs_named rs all.1)

  operations_named : (os : List Operation) → OperationsAreNamed before os → OperationsAreNamed after os
  operations_named [] all = tt
  operations_named (o ∷ os) all = (still o.family all.0, operations_named os all.1)

  batches_named : (cs : List Batched) → AllByRecursion (λ (b : Batched). OperationsAreNamed before b.operations) cs → AllByRecursion (λ (b : Batched). OperationsAreNamed after b.operations) cs
  batches_named [] all = tt
  batches_named (b ∷ cs) all = (operations_named b.operations all.0, batches_named cs all.1)

  own_named : (os : List Operation) → AllByRecursion (λ (o : Operation). (is_named before o.family || names o.family batch) ≡ true) os → OperationsAreNamed after os
  own_named [] all = tt
  own_named (o ∷ os) all = (
    elim (cases_Bool (is_named before o.family)) [
      | inl named ↦ still o.family named
      | inr unnamed ↦ named_by_name o.family after (by_batch o.family (sym (ap (λ (b : Bool). b || names o.family batch) unnamed) ∙ all.0)).0
    ],
    own_named os all.1,
  )

  -- the direction of a family that is named now
  direction_now : (f : ℕ) → f < 2 ^ 32 → is_named after f ≡ true → direction (family_at old f) ≡ direction_in after f
  direction_now f small is = by (low_or_name f (record_of f after) is)
    where
      low_direction : (system : List Version) → nat_lt f 2 ≡ true → direction_in system f ≡ Forward
      low_direction system low = ap (λ (b : Bool). if b then Forward else record_direction (record_of f system)) low

      high_direction : (system : List Version) → nat_lt f 2 ≡ false → direction_in system f ≡ record_direction (record_of f system)
      high_direction system high = ap (λ (b : Bool). if b then Forward else record_direction (record_of f system)) high

      by_low : nat_lt f 2 ≡ true → direction (family_at old f) ≡ direction_in after f
      by_low low = held.directions f small (named_by_low f before low) ∙ low_direction before low ∙ sym (low_direction after low)

      by_name : nat_lt f 2 ≡ false → is_name (record_of f after) ≡ true → direction (family_at old f) ≡ direction_in after f
      by_name high name = elim (cases_Bool (is_name (record_of f before))) [
        | inl named ↦
            held.directions f small (named_by_name f before named) ∙ high_direction before high ∙ ap record_direction (sym (stays f named)) ∙ sym (high_direction after high)
        | inr unnamed ↦ elim (cases_Bool (names f batch)) [
          | inl told ↦
              turn f (grind (arith, nat_tests, high)) small told ∙ sym (by_batch f told).1 ∙ sym (high_direction after high)
          | inr untold ↦ absurd (clash (still_unnamed unnamed untold) name)
        ]
      ]
        where
          still_unnamed : is_name (record_of f before) ≡ false → names f batch ≡ false → is_name (record_of f after) ≡ false
          still_unnamed unnamed untold =
              ap (λ (system : List Version). is_name (record_of f system)) after_is
              ∙ ap is_name (record_after sequence below before order batch naming.kept f)
              ∙ as_last (Rattle.mr_stored.specs.Names.last_on 0 (family_key f) batch) untold
            where
              as_last : (last : Option Operation) → Rattle.mr_stored.specs.Names.is_naming last ≡ false → is_name (Rattle.mr_stored.proofs.Written.with_last sequence (family_key f) last (record_of f before)) ≡ false
              as_last None e = unnamed
              as_last (Some o) e = e

      by : (nat_lt f 2 ≡ true) ⊎ (is_name (record_of f after) ≡ true) → direction (family_at old f) ≡ direction_in after f
      by (inl low) = by_low low
      by (inr name) = elim (cases_Bool (nat_lt f 2)) [
        | inl low ↦ by_low low
        | inr high ↦ by_name high name
      ]

  held_after : Held new image runs (bs ++ one ∷ [])
  held_after = record {
    named = record {
      of_runs = runs_named runs held.named.of_runs;
      of_operations = each-append (λ (b : Batched). OperationsAreNamed after b.operations) bs (one ∷ []) (batches_named bs held.named.of_operations) (own_named batch naming.named, tt);
    };
    levels = λ f. (added.families f).levels ∙ held.levels f ∙ ap (λ (d : Direction). levels_of d f image runs) (sym (same_direction f));
    memory = λ f.
        (added.families f).in_memory
        ∙ ap (with_operations (direction (family_at old f)) f sequence batch) (held.memory f)
        ∙ sym (with_batches-append (direction (family_at old f)) f bs (one ∷ []) [])
        ∙ ap (λ (d : Direction). with_batches d f (bs ++ one ∷ []) []) (sym (same_direction f));
    directions = λ f small is. same_direction f ∙ direction_now f small is;
  }

pub held_added : (old new : List Numbered) (image : Image) (runs : List LiveRun) (bs : List Batched) (commit : Option ℕ) (sequence : ℕ) → sequence < 2 ^ 63 → (batch : List Operation) → IsNaming (system_of image runs bs) batch → AreTurned old batch → Held old image runs bs → Added sequence batch old new →
    Held new image runs (bs ++ record { commit = commit; sequence = sequence; operations = batch } ∷ [])
held_added old new image runs bs commit sequence below batch naming turn held added = held_after old new image runs bs commit sequence below batch naming turn held added

-- ---- versions

module _ (first : (d : Direction) (v : Version) (vs : List Version) (more : List (List Version)) → merged (version_cmp d) (place_in (version_cmp d) v vs ∷ more) ≡ place_in (version_cmp d) v (merged (version_cmp d) (vs ∷ more))) (ns : List Numbered) (image : Image) (runs : List LiveRun) (bs : List Batched) (held : Held ns image runs bs) where
  list_held : (f : ℕ) → versions (family_at ns f) image ≡ list_of (direction (family_at ns f)) f image runs bs
  list_held f =
      let d = direction (family_at ns f) in
      ap (λ (vs : List Version). merged (version_cmp d) (vs ∷ run_lists (runs_by_level (family_at ns f).levels) image)) (held.memory f)
      ∙ ap (λ (s : LevelsState). merged (version_cmp d) (with_batches d f bs [] ∷ run_lists (runs_by_level s) image)) (held.levels f)
      ∙ batches_first first d f bs [] (run_lists (runs_by_level (levels_of d f image runs)) image)

  pub held_versions : (f : ℕ) → f < 2 ^ 32 → versions (family_at ns f) image ≡ versions_of image runs bs f
  held_versions f small = elim (cases_Bool (is_named (system_of image runs bs) f)) [
    | inl named ↦ list_held f ∙ ap (λ (d : Direction). list_of d f image runs bs) (held.directions f small named)
    | inr unnamed ↦ list_held f ∙ no_list image runs bs held.named f unnamed (direction (family_at ns f)) ∙ sym (no_list image runs bs held.named f unnamed (direction_of image runs bs f))
  ]
