-- A store whose look-up brought blocks into a family's cache.
use Rattle.std.proofs.Common.{◌≡◌, ◌≢◌, ◌==◌, ℕ, ◌<◌, ◌≤◌, Bool, true, false, List, [], ◌∷◌, map, Option, Result, Ok, Err, refl, sym, ◌∙◌, ap, subst, inl, inr, arith}
use Rattle.std.specs.List.{AllByRecursion}
use Rattle.std.specs.declared.cmp.Ordering.{Ordering}
use Rattle.std.specs.Ordering.{is_gt}
use Rattle.std.proofs.lemmas.Bool.{cases_Bool}
use Rattle.std.proofs.lemmas.Bool.Decides.{nat_tests}
use Rattle.mr_base.specs.Disk.{Image}
use Rattle.mr_iter.specs.Versions.{place_in, in_order}
use Rattle.mr_run_file.specs.Reading.{Index, recorded_in}
use Rattle.mr_run_open.specs.Runs.{RunState, HasIndex, opened}
use Rattle.mr_run_get.specs.Get.{IsGapless}
use Rattle.mr_block_cache.specs.Cache.{AgreesWith}
use Rattle.mr_levels.specs.Levels.{LevelsState, runs as runs_by_level}
use Rattle.mr_levels.specs.Looks.{AreGapless}
use Rattle.mr_manifest.specs.declared.live.LiveRun.{LiveRun}
use Rattle.mr_engine_log.specs.Logged.{after_verdict}
use Rattle.mr_family.specs.Family.{FamilyState, direction, files, IsTrueTo}
use Rattle.mr_families.specs.declared.numbered.Numbered.{Numbered}
use Rattle.mr_families.specs.Known.{family_at}
use Rattle.mr_families.specs.Changed.{OnlyAt}
use Rattle.mr_stored.specs.Said.{Place, ◌>>=◌, in_file}
use Rattle.mr_stored.specs.Lists.{info_of, index_in, index_or_none, levels_of, with_batches}
use Rattle.mr_stored.specs.Offences.{run_cmp, structures, structure_judged, overlap_place, first_overlap, runs_judged}
use Rattle.mr_stored.proofs.Saying.{says_given}
use Rattle.mr_stored.proofs.Kept.{of_runs, of_levels}
use Rattle.mr_kv.specs.Store.{KvState, Holds}

-- ---- runs whose structure was judged

from_placed : {X : Type 0} (cmp : X → X → Ordering) (P : X → Type 0) (x : X) (xs : List X) → AllByRecursion P (place_in cmp x xs) → AllByRecursion P (x ∷ xs)
from_placed cmp P x [] all = all
from_placed cmp P x (y ∷ ys) all = elim (cases_Bool (is_gt (cmp x y))) [
  | inl gt ↦
      let split : AllByRecursion P (y ∷ place_in cmp x ys) = subst (λ (b : Bool). AllByRecursion P (Rattle.std.proofs.Common.cond b (y ∷ place_in cmp x ys) (x ∷ y ∷ ys))) gt all in
      let rest = from_placed cmp P x ys split.1 in
      (rest.0, (split.0, rest.1))
  | inr not_gt ↦ subst (λ (b : Bool). AllByRecursion P (Rattle.std.proofs.Common.cond b (y ∷ place_in cmp x ys) (x ∷ y ∷ ys))) not_gt all
]

from_in_order : {X : Type 0} (cmp : X → X → Ordering) (P : X → Type 0) (xs : List X) → AllByRecursion P (in_order cmp xs) → AllByRecursion P xs
from_in_order cmp P [] all = tt
from_in_order cmp P (x ∷ xs) all = let parts = from_placed cmp P x (in_order cmp xs) all in (parts.0, from_in_order cmp P xs parts.1)

module _ (image : Image) where
  abbrev pub IsJudged : LiveRun → Type 0
  IsJudged run = recorded_in run.length run.entries (image run.file) ≡ Ok (index_in image run)

  first_ok : (run : LiveRun) (rest : Result (Unit {0}) Place) (read : Result Index ℕ) → (in_file run.file read >>= λ (index : Index). rest) ≡ Ok tt → (read ≡ Ok (index_or_none read)) × (rest ≡ Ok tt)
  first_ok run rest (Ok index) e = (refl, e)
  first_ok run rest (Err at) e = absurd (differ e)
    where
      differ : ◌≡◌ {A = Result (Unit {0}) Place} (Err (run.file, at)) (Ok tt) → ⊥
      differ e = cc

  all_judged : (runs : List LiveRun) → structures image runs ≡ Ok tt → AllByRecursion IsJudged runs
  all_judged [] e = tt
  all_judged (run ∷ runs) e = let parts = first_ok run (structures image runs) (recorded_in run.length run.entries (image run.file)) e in (parts.0, all_judged runs parts.1)

  structure_ok : (place : Result (Unit {0}) Place) (judged : Result (Unit {0}) Place) → (judged >>= λ none. place) ≡ Ok tt → judged ≡ Ok tt
  structure_ok place (Ok tt) e = refl
  structure_ok place (Err at) e = absurd (differ e)
    where
      differ : ◌≡◌ {A = Result (Unit {0}) Place} (Err at) (Ok tt) → ⊥
      differ e = cc

  pub runs_are_judged : (runs : List LiveRun) → runs_judged image runs ≡ Ok tt → AllByRecursion IsJudged runs
  runs_are_judged runs e = from_in_order run_cmp IsJudged runs (all_judged (in_order run_cmp runs) (structure_ok (overlap_place image (first_overlap image [] runs)) (structure_judged image runs) e))

each_weaker : {X : Type 0} (P Q : X → Type 0) → ((x : X) → P x → Q x) → (xs : List X) → AllByRecursion P xs → AllByRecursion Q xs
each_weaker P Q law [] all = tt
each_weaker P Q law (x ∷ xs) all = (law x all.0, each_weaker P Q law xs all.1)

module _ (law : (r : RunState) (image : Image) → HasIndex r image → IsGapless r) where
  pub gapless : (kv : KvState) (image : Image) → Holds kv image → (f : ℕ) → AreGapless (runs_by_level (family_at kv.families f).levels)
  gapless kv image holds f =
      let d = direction (family_at kv.families f) in
      subst (λ (l : LevelsState). AreGapless (runs_by_level l)) (sym (holds.held.levels f))
      (of_runs IsGapless (levels_of d f image kv.manifest.live.runs)
      (of_levels IsGapless d f image kv.manifest.live.runs
      (each_weaker (IsJudged image) (λ (run : LiveRun). IsGapless (opened (info_of run) d (index_in image run))) (λ run judged. law (opened (info_of run) d (index_in image run)) image judged) kv.manifest.live.runs (runs_are_judged image kv.manifest.live.runs holds.judged))))

-- ---- files that no family reads

not_among : (file : ℕ) (rs : List RunState) → AllByRecursion (λ (r : RunState). file ≢ r.file) rs → AllByRecursion (λ (live : ℕ). file ≢ live) (map (λ (r : RunState). r.file) rs)
not_among file [] all = tt
not_among file (r ∷ rs) all = (all.0, not_among file rs all.1)

pub not_read : (kv : KvState) (image : Image) → Holds kv image → (f file : ℕ) → kv.manifest.live.next_file ≤ file → AllByRecursion (λ (live : ℕ). file ≢ live) (files (family_at kv.families f))
not_read kv image holds f file le =
    let d = direction (family_at kv.families f) in
    not_among file (runs_by_level (family_at kv.families f).levels)
    (subst (λ (l : LevelsState). AllByRecursion (λ (r : RunState). file ≢ r.file) (runs_by_level l)) (sym (holds.held.levels f))
    (of_runs (λ (r : RunState). file ≢ r.file) (levels_of d f image kv.manifest.live.runs)
    (of_levels (λ (r : RunState). file ≢ r.file) d f image kv.manifest.live.runs
    (each_weaker (λ (run : LiveRun). run.file < kv.manifest.live.next_file) (λ (run : LiveRun). file ≢ run.file) (λ run given is. too_great run.file kv.manifest.live.next_file file given le is) kv.manifest.live.runs (says_given image (record { live = kv.manifest.live; logged = holds.logged }) holds.says)))))
  where
    too_great : (n next file : ℕ) → n < next → next ≤ file → file ≡ n → ⊥
    too_great n next file lt le is = omega (arith, lt, le, is)

-- ---- after a look-up

same_number : (m n : ℕ) → (m == n) ≡ true → m ≡ n
same_number m n e = grind (arith, nat_tests)

pub holds_got : (kv : KvState) (image : Image) → Holds kv image → (number : ℕ) (ns : List Numbered) → OnlyAt number kv.families ns → (family_at ns number).memtable ≡ (family_at kv.families number).memtable → (family_at ns number).levels ≡ (family_at kv.families number).levels →
    IsTrueTo image (family_at ns number) → ((file : ℕ) (bytes : List ℕ) → kv.manifest.live.next_file ≤ file → AgreesWith file bytes (family_at kv.families number).cached → AgreesWith file bytes (family_at ns number).cached) → Holds (record { manifest = kv.manifest; log = kv.log; families = ns }) image
holds_got kv image holds number ns only memtable levels true_to unread = record {
  logged = holds.logged;
  says = holds.says;
  held = record {
    named = holds.held.named;
    levels = λ f. same_levels f ∙ holds.held.levels f ∙ ap (λ (l : LevelsState). levels_of l.direction f image kv.manifest.live.runs) (sym (same_levels f));
    memory = λ f. same_memory f ∙ holds.held.memory f ∙ ap (λ (l : LevelsState). with_batches l.direction f (after_verdict kv.log.verdict holds.logged).batches []) (sym (same_levels f));
    directions = λ f below named. ap (λ (l : LevelsState). l.direction) (same_levels f) ∙ holds.held.directions f below named;
  };
  judged = holds.judged;
  cached = λ f. at_each (λ (g : ℕ) (s : FamilyState). IsTrueTo image s) f true_to (holds.cached f);
  unread = λ f file bytes le. at_each (λ (g : ℕ) (s : FamilyState). AgreesWith file bytes s.cached) f (unread file bytes le (holds.unread number file bytes le)) (holds.unread f file bytes le);
}
  where
    at_each : (P : ℕ → FamilyState → Type 0) (f : ℕ) → P number (family_at ns number) → P f (family_at kv.families f) → P f (family_at ns f)
    at_each P f own other = elim (cases_Bool (number == f)) [
      | inl is ↦ subst (λ (g : ℕ). P g (family_at ns g)) (same_number number f is) own
      | inr not ↦ subst (P f) (sym (only.others f not)) other
    ]

    same_levels : (f : ℕ) → (family_at ns f).levels ≡ (family_at kv.families f).levels
    same_levels f = at_each (λ (g : ℕ) (s : FamilyState). s.levels ≡ (family_at kv.families g).levels) f levels refl

    same_memory : (f : ℕ) → (family_at ns f).memtable.versions ≡ (family_at kv.families f).memtable.versions
    same_memory f = at_each (λ (g : ℕ) (s : FamilyState). s.memtable.versions ≡ (family_at kv.families g).memtable.versions) f (ap (λ m. m.versions) memtable) refl
