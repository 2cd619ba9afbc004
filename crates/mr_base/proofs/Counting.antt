-- How counts and causes go on over a run of calls.
use Rattle.std.proofs.Common.{ℕ, ◌+◌, ◌≤◌, Bool, IsTrue, refl, sym, ◌∙◌, subst, arith}
use Rattle.mr_base.specs.Disk.{State, Tells, HasRisen}
use Rattle.mr_base.specs.Calls.{Counts, Rises, Reads, EmitCounts}

pub still_tells : (r a s : ℕ) (old new : State) → Counts r a s old new → Tells old → Tells new
still_tells r a s old new counts tells = subst (λ (b : Bool). IsTrue b) (sym counts.tells) tells

pub rises_tells : (s : ℕ) (old new : State) → Rises s old new → Tells old → Tells new
rises_tells s old new rises tells = subst (λ (b : Bool). IsTrue b) (sym rises.tells) tells

pub counts_start : (s : State) → Counts 0 0 0 s s
counts_start s = record { tells = refl; faults = omega arith; emit_faults = refl; reads = (omega arith, omega arith); asked = (omega arith, omega arith); syncs = (omega arith, omega arith) }

pub counts_then : (r a s r2 a2 s2 : ℕ) (old mid new : State) → Counts r a s old mid → Counts r2 a2 s2 mid new → Counts (r + r2) (a + a2) (s + s2) old new
counts_then r a s r2 a2 s2 old mid new one two = record {
  tells = two.tells ∙ one.tells;
  faults = omega (arith, one.faults, two.faults);
  emit_faults = two.emit_faults ∙ one.emit_faults;
  reads = (omega (arith, one.reads.0, two.reads.0), omega (arith, one.reads.1, two.reads.1));
  asked = (omega (arith, one.asked.0, two.asked.0), omega (arith, one.asked.1, two.asked.1));
  syncs = (omega (arith, one.syncs.0, two.syncs.0), omega (arith, one.syncs.1, two.syncs.1));
}

pub counts_more : (r a s r2 a2 s2 : ℕ) (old new : State) → r ≤ r2 → a ≤ a2 → s ≤ s2 → Counts r a s old new → Counts r2 a2 s2 old new
counts_more r a s r2 a2 s2 old new more_r more_a more_s c = record {
  tells = c.tells;
  faults = c.faults;
  emit_faults = c.emit_faults;
  reads = (c.reads.0, omega (arith, c.reads.1, more_r));
  asked = (c.asked.0, omega (arith, c.asked.1, more_a));
  syncs = (c.syncs.0, omega (arith, c.syncs.1, more_s));
}

pub rises_start : (s : State) → Rises 0 s s
rises_start s = record { tells = refl; faults = omega arith; emit_faults = refl; reads = omega arith; asked = omega arith; syncs = (omega arith, omega arith) }

pub rises_then : (s s2 : ℕ) (old mid new : State) → Rises s old mid → Rises s2 mid new → Rises (s + s2) old new
rises_then s s2 old mid new one two = record {
  tells = two.tells ∙ one.tells;
  faults = omega (arith, one.faults, two.faults);
  emit_faults = two.emit_faults ∙ one.emit_faults;
  reads = omega (arith, one.reads, two.reads);
  asked = omega (arith, one.asked, two.asked);
  syncs = (omega (arith, one.syncs.0, two.syncs.0), omega (arith, one.syncs.1, two.syncs.1));
}

pub rises_more : (s s2 : ℕ) (old new : State) → s ≤ s2 → Rises s old new → Rises s2 old new
rises_more s s2 old new more c = record { tells = c.tells; faults = c.faults; emit_faults = c.emit_faults; reads = c.reads; asked = c.asked; syncs = (c.syncs.0, omega (arith, c.syncs.1, more)) }

pub rises_of : (r a s : ℕ) (old new : State) → Counts r a s old new → Rises s old new
rises_of r a s old new c = record { tells = c.tells; faults = c.faults; emit_faults = c.emit_faults; reads = c.reads.0; asked = c.asked.0; syncs = c.syncs }

pub rises_call : (s r a s2 : ℕ) (old mid new : State) → Rises s old mid → Counts r a s2 mid new → Rises (s + s2) old new
rises_call s r a s2 old mid new one counts = rises_then s s2 old mid new one (rises_of r a s2 mid new counts)

pub reads_of : (r a s : ℕ) (old new : State) → Counts r a s old new → Reads r a old new
reads_of r a s old new c = record { reads = c.reads.1; asked = c.asked.1 }

pub reads_then : (r a r2 a2 : ℕ) (old mid new : State) → Reads r a old mid → Reads r2 a2 mid new → Reads (r + r2) (a + a2) old new
reads_then r a r2 a2 old mid new one two = record { reads = omega (arith, one.reads, two.reads); asked = omega (arith, one.asked, two.asked) }

-- a count that rose in a part of a run rose in the whole
pub risen_within : (a b c d : ℕ) → a ≤ b → c ≤ d → HasRisen b c → HasRisen a d
risen_within a b c d first last risen = omega (arith, first, last, risen)

pub emit_tells : (old new : State) → EmitCounts old new → Tells old → Tells new
emit_tells old new counts tells = subst (λ (b : Bool). IsTrue b) (sym counts.tells) tells
