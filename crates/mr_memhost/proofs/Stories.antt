-- One more step of a record.
use Rattle.std.proofs.Common.{◌≡◌, ◌≢◌, inl, inr, ℕ, ◌+◌, ◌≤◌, ◌<◌, ◌==◌, if◌then◌else◌, List, [], ◌∷◌, ◌++◌, length, take, refl, sym, ◌∙◌, ap, subst, arith, length-append}
use Rattle.std.proofs.lemmas.List.{take_all, take-append-le}
use Rattle.std.proofs.lemmas.Bool.{cond-true, cond-false, eq-eqb, ne_eqb, cases_eq, cases_lt}
use Rattle.mr_base.specs.Disk.{AreBytes, File, Moment, MayLeave, at_rest, overwrite}
use Rattle.mr_base.proofs.Pending.{fewer}
use Rattle.mr_memhost.specs.declared.step.Step.{Step}
use Rattle.mr_memhost.specs.declared.step.Step.TheVariants.{Write, Cut, Sync, Emit}
use Rattle.mr_memhost.specs.Held.{Held, wrote, shortened, settled}
use Rattle.mr_memhost.specs.Story.{PendsMore, at_file, after, replay, Story, with_step, moment_at, latest, written, cut, Holds, Kept}
use Rattle.mr_memhost.proofs.Files.{written_left, cut_left, rest_left, written_more, cut_more, as_much, written_pends, cut_pends}

pub replay_push : (m : Moment) (steps : List Step) (step : Step) → replay m (steps ++ step ∷ []) ≡ after (replay m steps) step
replay_push m [] step = refl
replay_push m (s ∷ steps) step = replay_push (after m s) steps step

pub same_at : (file : ℕ) (change : File → File) (m : Moment) → (at_file file change m).files file ≡ change (m.files file)
same_at file change m = cond-true (file == file) (change (m.files file)) (m.files file) (eq-eqb file file refl)

pub other_at : (file other : ℕ) (change : File → File) (m : Moment) → other ≢ file → (at_file file change m).files other ≡ m.files other
other_at file other change m apart = cond-false (other == file) (change (m.files other)) (m.files other) (ne_eqb other file apart)

module _ (s : Story) (step : Step) where
  pub longer : length (with_step step s).steps ≡ length s.steps + 1
  longer = omega (arith, length-append s.steps (step ∷ []))

  -- the past stays
  pub past : (k : ℕ) → k ≤ length s.steps → moment_at (with_step step s) k ≡ moment_at s k
  past k le = ap (replay s.start) (take-append-le k s.steps (step ∷ []) le)

  pub next : latest (with_step step s) ≡ after (latest s) step
  next =
      ap (replay s.start) (take_all (length (with_step step s).steps) (with_step step s).steps (omega arith)) ∙ replay_push s.start s.steps step
      ∙ ap (λ (l : List Step). after (replay s.start l) step) (sym (take_all (length s.steps) s.steps (omega arith)))

  -- what is held of a file that the step leaves as it is, or of which it makes more pending
  module _ (file : ℕ) (h : Held) (holds : Holds s file h) where
    pub early_on : h.synced ≤ length (with_step step s).steps
    early_on = omega (arith, holds.early, longer)

    pub at_sync : (moment_at (with_step step s) h.synced).files file ≡ (moment_at s h.synced).files file
    at_sync = ap (λ (m : Moment). m.files file) (past h.synced holds.early)

    pub settled_on : (moment_at (with_step step s) h.synced).files file ≡ at_rest ((moment_at (with_step step s) h.synced).files file).bytes
    settled_on = subst (λ (f : File). f ≡ at_rest f.bytes) (sym at_sync) holds.settled

    pub stable_on : ((latest (with_step step s)).files file).stable ≡ ((latest s).files file).stable → ((latest (with_step step s)).files file).stable ≡ ((moment_at (with_step step s) h.synced).files file).bytes
    stable_on same = same ∙ holds.stable ∙ sym (ap (λ (f : File). f.bytes) at_sync)

    pub grows_on : PendsMore ((latest s).files file) ((latest (with_step step s)).files file) → (k : ℕ) → h.synced ≤ k → k < length (with_step step s).steps → PendsMore ((moment_at (with_step step s) k).files file) ((moment_at (with_step step s) (k + 1)).files file)
    grows_on more k from to = elim (cases_lt k (length s.steps)) as (λ _. PendsMore ((moment_at (with_step step s) k).files file) ((moment_at (with_step step s) (k + 1)).files file)) [
      | inl old ↦ subst (λ (m : Moment). PendsMore (m.files file) ((moment_at (with_step step s) (k + 1)).files file)) (sym (past k (omega (arith, old)))) (subst (λ (m : Moment). PendsMore ((moment_at s k).files file) (m.files file)) (sym (past (k + 1) (omega (arith, old)))) (holds.grows k from old))
      | inr new ↦
          let last : k ≡ length s.steps = omega (arith, new, to, longer) in
          let end : length s.steps + 1 ≡ length (with_step step s).steps = omega (arith, longer) in
          subst (λ n. PendsMore ((moment_at (with_step step s) n).files file) ((moment_at (with_step step s) (n + 1)).files file)) (sym last) (subst (λ (m : Moment). PendsMore (m.files file) ((moment_at (with_step step s) (length s.steps + 1)).files file)) (sym (past (length s.steps) (omega arith))) (subst (λ n. PendsMore ((latest s).files file) ((moment_at (with_step step s) n).files file)) (sym end) more))
    ]

    pub holds_on : (latest (with_step step s)).files file ≡ (latest s).files file → Holds (with_step step s) file h
    holds_on same = record {
      bytes = holds.bytes ∙ sym (ap (λ (f : File). f.bytes) same);
      early = early_on;
      settled = settled_on;
      stable = stable_on (ap (λ (f : File). f.stable) same);
      grows = grows_on (subst (PendsMore ((latest s).files file)) (sym same) (as_much ((latest s).files file)));
      read_left = subst (λ (f : File). MayLeave f f.bytes) (sym same) holds.read_left;
      synced_left = subst (λ (f : File). MayLeave f f.stable) (sym same) holds.synced_left;
    }

-- a step that changes one file
module _ (s : Story) (step : Step) (file : ℕ) (change : File → File) (is : (m : Moment) → after m step ≡ at_file file change m) where
  whole : latest (with_step step s) ≡ at_file file change (latest s)
  whole = next s step ∙ is (latest s)

  pub changed : (latest (with_step step s)).files file ≡ change ((latest s).files file)
  changed = ap (λ (m : Moment). m.files file) whole ∙ same_at file change (latest s)

  pub others : (other : ℕ) → other ≢ file → (latest (with_step step s)).files other ≡ (latest s).files other
  others other apart = ap (λ (m : Moment). m.files other) whole ∙ other_at file other change (latest s) apart

  pub output_on : (latest (with_step step s)).output ≡ (latest s).output
  output_on = ap (λ (m : Moment). m.output) whole

  pub kept_on : (held now h : ℕ → Held) (output : List ℕ) → Kept s held output → ((f : ℕ) → now f ≡ (if f == file then h f else held f)) → Holds (with_step step s) file (h file) → Kept (with_step step s) now output
  kept_on held now h output kept news holds = record {
    shown = kept.shown ∙ sym output_on;
    files = λ f. elim (cases_eq f file) as (λ _. Holds (with_step step s) f (now f)) [
      | inl here ↦ subst (Holds (with_step step s) f) (sym (news f ∙ cond-true (f == file) (h f) (held f) (eq-eqb f file here))) (subst (λ n. Holds (with_step step s) n (h n)) (sym here) holds)
      | inr apart ↦ subst (Holds (with_step step s) f) (sym (news f ∙ cond-false (f == file) (h f) (held f) (ne_eqb f file apart))) (holds_on s step f (held f) (kept.files f) (others f apart))
    ];
  }

pub wrote_holds : (s : Story) (file at : ℕ) (bytes : List ℕ) (h : Held) → at ≤ length ((latest s).files file).bytes → AreBytes bytes → Holds s file h → Holds (with_step (Write file at bytes) s) file (wrote at bytes h)
wrote_holds s file at bytes h le are holds =
    let step = Write file at bytes in
    let f = (latest s).files file in
    let same : (latest (with_step step s)).files file ≡ written at bytes f = changed s step file (written at bytes) (λ m. refl) in
    record {
      bytes = ap (overwrite at bytes) holds.bytes ∙ sym (ap (λ (g : File). g.bytes) same);
      early = early_on s step file h holds;
      settled = settled_on s step file h holds;
      stable = stable_on s step file h holds (ap (λ (g : File). g.stable) same);
      grows = grows_on s step file h holds (subst (PendsMore f) (sym same) (written_pends at bytes f));
      read_left = subst (λ (g : File). MayLeave g g.bytes) (sym same) (written_left at bytes f le are holds.read_left);
      synced_left = subst (λ (g : File). MayLeave g g.stable) (sym same) (fewer f (written at bytes f) f.stable (written_more at bytes f) holds.synced_left);
    }

pub cut_holds : (s : Story) (file to : ℕ) (h : Held) → to ≤ length ((latest s).files file).bytes → Holds s file h → Holds (with_step (Cut file to) s) file (shortened to h)
cut_holds s file to h le holds =
    let step = Cut file to in
    let f = (latest s).files file in
    let same : (latest (with_step step s)).files file ≡ cut to f = changed s step file (cut to) (λ m. refl) in
    record {
      bytes = ap (take to) holds.bytes ∙ sym (ap (λ (g : File). g.bytes) same);
      early = early_on s step file h holds;
      settled = settled_on s step file h holds;
      stable = stable_on s step file h holds (ap (λ (g : File). g.stable) same);
      grows = grows_on s step file h holds (subst (PendsMore f) (sym same) (cut_pends to f));
      read_left = subst (λ (g : File). MayLeave g g.bytes) (sym same) (cut_left to f le holds.read_left);
      synced_left = subst (λ (g : File). MayLeave g g.stable) (sym same) (fewer f (cut to f) f.stable (cut_more to f) holds.synced_left);
    }

pub sync_holds : (s : Story) (file steps : ℕ) (h : Held) → steps ≡ length s.steps + 1 → Holds s file h → Holds (with_step (Sync file) s) file (settled steps h)
sync_holds s file steps h whole holds =
    let step = Sync file in
    let f = (latest s).files file in
    let all : steps ≡ length (with_step step s).steps = omega (arith, whole, longer s step) in
    let same : (latest (with_step step s)).files file ≡ at_rest f.bytes = changed s step file (λ g. at_rest g.bytes) (λ m. refl) in
    let now : (moment_at (with_step step s) steps).files file ≡ at_rest f.bytes = ap (λ n. (moment_at (with_step step s) n).files file) all ∙ same in
    record {
      bytes = holds.bytes ∙ sym (ap (λ (g : File). g.bytes) same);
      early = omega (arith, all);
      settled = now ∙ sym (ap (λ (g : File). at_rest g.bytes) now);
      stable = ap (λ (g : File). g.stable) same ∙ sym (ap (λ (g : File). g.bytes) now);
      grows = λ k from to. absurd (omega (arith, from, to, all));
      read_left = subst (λ (g : File). MayLeave g g.bytes) (sym same) (rest_left f.bytes holds.read_left.are_bytes);
      synced_left = subst (λ (g : File). MayLeave g g.stable) (sym same) (rest_left f.bytes holds.read_left.are_bytes);
    }

pub emit_kept : (s : Story) (bytes : List ℕ) (held : ℕ → Held) (output now : List ℕ) → Kept s held output → now ≡ output ++ bytes → Kept (with_step (Emit bytes) s) held now
emit_kept s bytes held output now kept is = record {
  shown = is ∙ ap (λ (l : List ℕ). l ++ bytes) kept.shown ∙ sym (ap (λ (m : Moment). m.output) (next s (Emit bytes)));
  files = λ f. holds_on s (Emit bytes) f (held f) (kept.files f) (ap (λ (m : Moment). m.files f) (next s (Emit bytes)));
}
