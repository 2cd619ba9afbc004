-- The counts of a host, and the files that stay, over a run of calls.
use Rattle.std.proofs.Common.{◌≡◌, ℕ, List, refl, ap, sym, ◌∙◌, subst, arith, Bool, IsTrue}
use Rattle.mr_base.specs.Disk.{State, Moment, Tells, present}
use Rattle.mr_base.specs.declared.stop.Stop.TheVariants.{Memory, Disk, Full, Damaged}
use Rattle.mr_base.specs.Calls.{During, OneFile, IsShown, Same, Counts, Rises, EmitCounts}
use Rattle.mr_base.proofs.Moments.{started, weaker, goes_on, at_end}
use Rattle.mr_commit_log.specs.Causes.{GoesOn, KeepsOthers, IsCausedBy}
use Rattle.mr_commit_log.specs.declared.ending.Ending.{Ending}
use Rattle.mr_commit_log.specs.declared.ending.Ending.TheVariants.{Stopped, EmitFault, SourceFault, TooLong}

pub others_then : (a b c : State) → KeepsOthers a b → KeepsOthers b c → KeepsOthers a c
others_then a b c one two = goes_on a b c _ _ one two (λ m here file other. here file other ∙ at_end a b _ one file other)

pub others_same : (old new : State) → Same old new → KeepsOthers old new
others_same old new same = weaker old new _ _ (λ m is file other. ap (λ (x : Moment). x.files file) is) same

others_file : (old new : State) (log : ℕ) (P : List ℕ → Type 0) → log ≡ 1 → During old new (OneFile log (present old) P) → KeepsOthers old new
others_file old new log P is during = weaker old new _ _ (λ m one file other. one.files file (λ same. other (same ∙ is))) during

others_shown : (old new : State) (text : List ℕ) → During old new (IsShown text (present old)) → KeepsOthers old new
others_shown old new text during = weaker old new _ _ (λ m here file other. here.files file) during

pub goes_nowhere : (s : State) → GoesOn s s
goes_nowhere s = record { tells = refl; faults = omega arith; emit_faults = omega arith; reads = omega arith; asked = omega arith; syncs = omega arith; others = λ tells. started s _ (λ file other. refl) }

pub goes_then : (a b c : State) → GoesOn a b → GoesOn b c → GoesOn a c
goes_then a b c one two = record {
  tells = two.tells ∙ one.tells;
  faults = omega (arith, one.faults, two.faults);
  emit_faults = omega (arith, one.emit_faults, two.emit_faults);
  reads = omega (arith, one.reads, two.reads);
  asked = omega (arith, one.asked, two.asked);
  syncs = omega (arith, one.syncs, two.syncs);
  others = λ tells. others_then a b c (one.others tells) (two.others (subst (λ (t : Bool). IsTrue t) (sym one.tells) tells));
}

-- a call on the log's file, one that changes nothing, and one that emits
pub goes_counts : (r a s : ℕ) (old new : State) → Counts r a s old new → (Tells old → KeepsOthers old new) → GoesOn old new
goes_counts r a s old new c others = record {
  tells = c.tells;
  faults = c.faults;
  emit_faults = let e = c.emit_faults in omega (arith, e);
  reads = c.reads.0;
  asked = c.asked.0;
  syncs = c.syncs.0;
  others = others;
}

pub goes_rises : (s : ℕ) (old new : State) → Rises s old new → (Tells old → KeepsOthers old new) → GoesOn old new
goes_rises s old new c others = record {
  tells = c.tells;
  faults = c.faults;
  emit_faults = let e = c.emit_faults in omega (arith, e);
  reads = c.reads;
  asked = c.asked;
  syncs = c.syncs.0;
  others = others;
}

pub goes_emitted : (old new : State) (text : List ℕ) → EmitCounts old new → (Tells old → During old new (IsShown text (present old))) → GoesOn old new
goes_emitted old new text c shown = record {
  tells = c.tells;
  faults = let e = c.faults in omega (arith, e);
  emit_faults = c.emit_faults;
  reads = let e = c.reads in omega (arith, e);
  asked = let e = c.asked in omega (arith, e);
  syncs = let e = c.syncs in omega (arith, e);
  others = λ tells. others_shown old new text (shown tells);
}

pub goes_appended : (r a s : ℕ) (old new : State) (P : List ℕ → Type 0) → Counts r a s old new → (Tells old → During old new (OneFile 1 (present old) P)) → GoesOn old new
goes_appended r a s old new P c during = goes_counts r a s old new c (λ tells. others_file old new 1 P refl (during tells))

pub goes_opened : (s : ℕ) (old new : State) (P : List ℕ → Type 0) → Rises s old new → (Tells old → During old new (OneFile 1 (present old) P)) → GoesOn old new
goes_opened s old new P c during = goes_rises s old new c (λ tells. others_file old new 1 P refl (during tells))

pub goes_tells : (a b : State) → GoesOn a b → Tells a → Tells b
goes_tells a b goes tells = subst (λ (t : Bool). IsTrue t) (sym goes.tells) tells

-- causes of a part of a run are causes of the whole
pub cause_later : (most : ℕ) (a b c : State) (ending : Ending) → GoesOn a b → IsCausedBy most b c ending → IsCausedBy most a c ending
cause_later most a b c (Stopped Memory) goes cause = tt
cause_later most a b c (Stopped Disk) goes cause = omega (arith, goes.faults, cause)
cause_later most a b c (Stopped (Full what at limit)) goes cause = cause
cause_later most a b c (Stopped (Damaged file at)) goes cause = cause
cause_later most a b c EmitFault goes cause = omega (arith, goes.emit_faults, cause)
cause_later most a b c SourceFault goes cause = cause
cause_later most a b c TooLong goes cause = cause
