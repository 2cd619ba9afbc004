-- What the calls of a host do to its disk.
use Rattle.std.proofs.Common.{◌≡◌, inl, inr, ℕ, ◌+◌, List, ◌++◌, length, take, refl, sym, ◌∙◌, ap, subst, arith}
use Rattle.std.proofs.lemmas.List.{take_all, append-nil}
use Rattle.std.proofs.lemmas.Bool.{cases_lt}
use Rattle.mr_base.specs.Disk.{File, Moment, MayLeave, IsWithin, IsAtRest, at_rest, overwrite, write_begun, cut_begun, present, file_of}
use Rattle.mr_base.specs.Calls.{During, Changes, Settles, IsShown, Emits}
use Rattle.mr_base.proofs.Pending.{rest_of}
use Rattle.mr_memhost.specs.declared.counts.Counts.{Counts}
use Rattle.mr_memhost.specs.declared.step.Step.{Step}
use Rattle.mr_memhost.specs.declared.step.Step.TheVariants.{Write, Cut, Sync, Emit}
use Rattle.mr_memhost.specs.Story.{Story, state, with_step, moment_at, latest, at_file, after, written, cut}
use Rattle.mr_memhost.proofs.Files.{within_written, within_cut, within_begun, within_cut_begun}
use Rattle.mr_memhost.proofs.Stories.{past, next, longer, changed, others, output_on}

-- a call that adds a step
module _ (before now : Story) (c d : Counts) (step : Step) (pushed : now ≡ with_step step before) where
  now_next : (state now d).now ≡ (state before c).now + 1
  now_next = ap (λ (s : Story). length s.steps) pushed ∙ longer before step

  pub present_next : present (state now d) ≡ latest (with_step step before)
  present_next = ap latest pushed

  goes : (P : Moment → Type 0) → P (present (state before c)) → P (latest (with_step step before)) → During (state before c) (state now d) P
  goes P first last = record {
    later = omega (arith, now_next);
    past = λ k le. ap (λ (s : Story). moment_at s k) pushed ∙ past before step k le;
    each = λ k from to. elim (cases_lt (state before c).now k) as (λ _. P ((state now d).moments k)) [
      | inl new ↦ subst (λ n. P ((state now d).moments n)) (omega (arith, new, to, now_next)) (subst P (sym present_next) last)
      | inr old ↦ subst P (sym (ap (λ (s : Story). moment_at s k) pushed ∙ past before step k old)) (subst (λ n. P ((state before c).moments n)) (omega (arith, from, old)) first)
    ];
  }

  module _ (file : ℕ) (change : File → File) (is : (m : Moment) → after m step ≡ at_file file change m) where
    pub file_next : file_of (state now d) file ≡ change (file_of (state before c) file)
    file_next = ap (λ (m : Moment). m.files file) present_next ∙ changed before step file change is

    pub changes_next : (begun : File → File) → IsWithin (file_of (state before c) file) (begun (file_of (state before c) file)) → IsWithin (change (file_of (state before c) file)) (begun (file_of (state before c) file)) → Changes file begun (state before c) (state now d)
    changes_next begun first within = goes _ record { files = λ other apart. refl; output = refl; pending = first } record {
      files = others before step file change is;
      output = output_on before step file change is;
      pending = subst (λ (f : File). IsWithin f (begun (file_of (state before c) file))) (sym (changed before step file change is)) within;
    }

    pub settles_next : ((l : List ℕ) → MayLeave (change (file_of (state before c) file)) l → MayLeave (file_of (state before c) file) l) → Settles file (state before c) (state now d)
    settles_next crash = goes _ record { files = λ other apart. refl; output = refl; crash = λ l left. left } record {
      files = others before step file change is;
      output = output_on before step file change is;
      crash = λ l left. crash l (subst (λ (f : File). MayLeave f l) (changed before step file change is) left);
    }

module _ (before now : Story) (c d : Counts) (file at : ℕ) (bytes : List ℕ) (pushed : now ≡ with_step (Write file at bytes) before) where
  pub writes : Changes file (write_begun at (length bytes)) (state before c) (state now d)
  writes = changes_next before now c d (Write file at bytes) pushed file (written at bytes) (λ m. refl) (write_begun at (length bytes)) (within_begun at (length bytes) (file_of (state before c) file)) (within_written at bytes (file_of (state before c) file))

  pub overwrites : (file_of (state now d) file).bytes ≡ overwrite at bytes (file_of (state before c) file).bytes
  overwrites = ap (λ (f : File). f.bytes) (file_next before now c d (Write file at bytes) pushed file (written at bytes) (λ m. refl))

module _ (before now : Story) (c d : Counts) (file to : ℕ) (pushed : now ≡ with_step (Cut file to) before) where
  pub cuts : Changes file (cut_begun to) (state before c) (state now d)
  cuts = changes_next before now c d (Cut file to) pushed file (cut to) (λ m. refl) (cut_begun to) (within_cut_begun to (file_of (state before c) file)) (within_cut to (file_of (state before c) file))

  pub shortens : (file_of (state now d) file).bytes ≡ take to (file_of (state before c) file).bytes
  shortens = ap (λ (f : File). f.bytes) (file_next before now c d (Cut file to) pushed file (cut to) (λ m. refl))

module _ (before now : Story) (c d : Counts) (file : ℕ) (pushed : now ≡ with_step (Sync file) before) where
  rests : file_of (state now d) file ≡ at_rest (file_of (state before c) file).bytes
  rests = file_next before now c d (Sync file) pushed file (λ f. at_rest f.bytes) (λ m. refl)

  pub settles : MayLeave (file_of (state before c) file) (file_of (state before c) file).bytes → Settles file (state before c) (state now d)
  settles left = settles_next before now c d (Sync file) pushed file (λ f. at_rest f.bytes) (λ m. refl) (λ l may.
      subst (MayLeave (file_of (state before c) file)) (sym (rest_of (file_of (state before c) file).bytes l may)) left)

  pub seen_on : (file_of (state now d) file).bytes ≡ (file_of (state before c) file).bytes
  seen_on = ap (λ (f : File). f.bytes) rests

  pub is_durable : IsAtRest (file_of (state now d) file)
  is_durable = subst IsAtRest (sym rests) (rest_of (file_of (state before c) file).bytes)

module _ (before now : Story) (c d : Counts) (bytes : List ℕ) (pushed : now ≡ with_step (Emit bytes) before) where
  pub emits : Emits bytes (state before c) (state now d)
  emits = record {
    during = goes before now c d (Emit bytes) pushed (IsShown bytes (present (state before c)))
        record { files = λ file. refl; count = 0; output = sym (append-nil (present (state before c)).output) }
        record {
          files = λ file. ap (λ (m : Moment). m.files file) (next before (Emit bytes));
          count = length bytes;
          output = ap (λ (m : Moment). m.output) (next before (Emit bytes)) ∙ ap (λ (l : List ℕ). (present (state before c)).output ++ l) (sym (take_all (length bytes) bytes (omega arith)));
        };
    whole = ap (λ (m : Moment). m.output) (present_next before now c d (Emit bytes) pushed) ∙ ap (λ (m : Moment). m.output) (next before (Emit bytes));
  }
