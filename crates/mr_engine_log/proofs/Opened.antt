-- A log that is opened, or new.
use Rattle.std.proofs.Common.{◌≡◌, inl, ℕ, ◌+◌, ◌*◌, Bool, false, List, [], ◌∷◌, length, drop, Option, Ok, refl, sym, ◌∙◌, ap, subst, arith}
use mathlib.Core.Bool.{true≢false}
use Rattle.std.proofs.lemmas.List.{append-nil}
use Rattle.mr_base.specs.declared.stop.Stop.{Stop}
use Rattle.mr_base.specs.Disk.{State, file_of}
use Rattle.mr_base.specs.Calls.{Counts, Reads}
use Rattle.mr_gate.specs.Log.{records_from, end_from, is_damaged_from, is_bad_end, span}
use Rattle.mr_gate.specs.Gate.{Gate, Stands, KeepsLog, IsDamage}
use Rattle.mr_gate.proofs.Laws.{empty_log, gate_log, records_behind, sound_log}
use Rattle.mr_engine_log.specs.Logged.{none_logged, rest_of, log_of}
use Rattle.mr_engine_log.specs.Added.{KeepsLogged}
use Rattle.mr_engine_log.specs.Standing.{Holds}
use Rattle.mr_engine_log.specs.declared.batched.Batched.{Batched}
use Rattle.mr_engine_log.specs.declared.batched.Prepared.{Prepared}
use Rattle.mr_engine_log.proofs.Replaying.{log_of_log, is_sound, keeps_logged}
use Rattle.mr_engine_log.proofs.Ready.{still}

-- a log with its first gate alone, and an empty file
pub new_log : (base : ℕ) → log_of base (0 ∷ []) ≡ Ok (none_logged base)
new_log base = log_of_log base [] (0 ∷ []) (gate_log 0)

pub empty_file : (base : ℕ) → log_of base [] ≡ Ok (none_logged base)
empty_file base = log_of_log base [] [] empty_log

-- where the records end there are none
pub nothing_behind : (at : ℕ) (file : List ℕ) → at ≡ end_from 0 file → records_from at file ≡ []
nothing_behind at file is = ap (λ n. records_from n file) is ∙ records_behind 0 (records_from 0 file) [] file (sym (append-nil (records_from 0 file)))

pub end_behind_all : (at : ℕ) (file : List ℕ) → at ≡ end_from 0 file → end_from at file ≡ end_from 0 file
end_behind_all at file is = omega (arith, ap span (nothing_behind at file is), is)

pub sound_behind_all : (at : ℕ) (file : List ℕ) → at ≡ end_from 0 file → is_damaged_from at file ≡ is_damaged_from 0 file
sound_behind_all at file is = ap (λ n. is_bad_end n (drop n file)) (end_behind_all at file is)

pub no_damage_behind : (number at : ℕ) (file : List ℕ) (stop : Stop) → at ≡ end_from 0 file → is_damaged_from 0 file ≡ false → IsDamage number at file stop → ⊥
no_damage_behind number at file stop is sound damage = true≢false (sym damage.damaged ∙ sound_behind_all at file is ∙ sound)

pub kept_behind : (at : ℕ) (old new : List ℕ) → at ≡ end_from 0 old → KeepsLog (end_from at old) old new → KeepsLogged old new
kept_behind at old new is keeps = keeps_logged old new (subst (λ (n : ℕ). KeepsLog n old new) (end_behind_all at old is) keeps)

-- few reads find it
pub few_reads : (old mid new : State) (from : ℕ) (file : List ℕ) → records_from from file ≡ [] → Counts 0 0 0 old mid
    → Reads (length (records_from from file) + 1) (5 * (length (records_from from file) + 1)) mid new → Reads 1 5 old new
few_reads old mid new from file none counts reads = record {
  reads = omega (arith, ap (λ (l : List (List ℕ)). length l) none, counts.reads.1, reads.reads);
  asked = omega (arith, ap (λ (l : List (List ℕ)). length l) none, counts.asked.1, reads.asked);
}

kept_end : (end : ℕ) (old new : List ℕ) → is_damaged_from 0 old ≡ false → end_from 0 old ≡ end → KeepsLog end old new → end ≡ end_from 0 new
kept_end end old new sound ends keeps =
    let log = keeps 0 (records_from 0 old) (sound_log 0 old sound) ends in
    omega (arith, ends, ap span log.records)

-- what its records left before it leaves now
module _ (base : ℕ) (pending : Option Prepared) (last : ℕ) (in_turn : Bool) (batches : List Batched) where
  holds_opened : (log : Gate) (old new : List ℕ) → log_of base old ≡ Ok (rest_of pending last in_turn batches) → log.end ≡ end_from 0 old → Stands log new → KeepsLog (end_from 0 old) old new
      → Holds (record { gate = log; base = base; pending = pending; last = last; verdict = 0 }) new
  holds_opened log old new reads end stands keeps = record {
    stands = stands;
    end = end ∙ kept_end (end_from 0 old) old new (is_sound base old _ reads) refl keeps;
    logged = rest_of pending last in_turn batches;
    reads = keeps_logged old new keeps base (rest_of pending last in_turn batches) reads;
    verdict = inl refl;
    pending = sym (still pending);
    last = refl;
  }

  pub opened_holds : (from : ℕ) (log : Gate) (file : ℕ) (old : List ℕ) (new : State) → log.file ≡ file
      → log_of base old ≡ Ok (rest_of pending last in_turn batches) → end_from from old ≡ end_from 0 old
      → log.end ≡ end_from from old → Stands log (file_of new file).bytes → KeepsLog (end_from from old) old (file_of new file).bytes
      → Holds (record { gate = log; base = base; pending = pending; last = last; verdict = 0 }) (file_of new log.file).bytes
  opened_holds from log file old new file_is reads same end stands keeps =
      subst (λ (f : ℕ). Holds (record { gate = log; base = base; pending = pending; last = last; verdict = 0 }) (file_of new f).bytes) (sym file_is)
      (holds_opened log old (file_of new file).bytes reads (end ∙ same) stands (subst (λ (n : ℕ). KeepsLog n old (file_of new file).bytes) same keeps))
