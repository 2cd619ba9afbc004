-- What a caller of a log needs to know of its bytes.
use Rattle.std.proofs.Common.{◌≡◌, ◌⊎◌, inl, inr, ℕ, ◌+◌, false, List, [], ◌∷◌, ◌++◌, length, drop, Some, None, refl, sym, ◌∙◌, ap, subst, arith}
use mathlib.Core.Bool.{true≢false}
use Rattle.std.proofs.lemmas.List.{drop-drop}
use Rattle.mr_base.specs.declared.stop.Stop.{Stop}
use Rattle.mr_base.specs.Disk.{AreBytes}
use Rattle.mr_gate.specs.Log.{span, walk, is_bad_end, records_from, end_from, is_damaged_from, IsLog, AreShort, frames, log_bytes}
use Rattle.mr_gate.specs.Gate.{Gate, Stands, Reaches, IsAfter, IsBeforeOrAfter, KeepsLog, IsNext, IsDamage}
use Rattle.mr_gate.proofs.Bytes.{length_closed}
use Rattle.mr_gate.proofs.Walk.{log_of, walk_behind, split, span-append}

-- bytes have one list of records
pub same_records : (from : ℕ) (xs ys : List (List ℕ)) (file : List ℕ) → IsLog from xs file → IsLog from ys file → xs ≡ ys
same_records from xs ys file one two = sym one.records ∙ two.records

-- the records as bytes, with a closed gate behind them, are a log of them
pub log_of_bytes : (bodies : List (List ℕ)) → AreShort bodies → IsLog 0 bodies (log_bytes bodies)
log_of_bytes bodies small = log_of [] bodies 0 [] 0 refl small (inl (omega arith))

-- an empty file, and one gate alone, are logs of no records
pub empty_log : IsLog 0 [] []
unfolding walk
empty_log = record { records = refl; sound = refl }

pub gate_log : (gate : ℕ) → IsLog 0 [] (gate ∷ [])
gate_log gate = log_of [] [] gate [] 0 refl tt (inr refl)

-- an open log: what it has, how long its file is, and that its own places reach its end
module _ (log : Gate) (file : List ℕ) (stands : Stands log file) where
  pub stands_log : IsLog log.from (records_from log.from file) file
  stands_log = record { records = refl; sound = stands.sound }

  pub stands_reaches : Reaches log.end log.from file
  stands_reaches = sym stands.end

  pub stands_length : length file ≡ log.end + 1
  stands_length = length_closed log.end file stands.closed

  pub stands_ends : (bodies : List (List ℕ)) → IsLog log.from bodies file → log.from + span bodies ≡ log.end
  stands_ends bodies is = sym (stands.end ∙ ap (λ (l : List (List ℕ)). log.from + span l) is.records)

  pub stands_count : (bodies : List (List ℕ)) → IsLog log.from bodies file → log.records ≡ length bodies
  stands_count bodies is = stands.count ∙ ap (λ (l : List (List ℕ)). length l) is.records

  -- what its calls say, of the records that it has
  pub stands_kept : (bodies : List (List ℕ)) (image : List ℕ) → IsLog log.from bodies file → KeepsLog log.end file image → IsLog log.from bodies image
  stands_kept bodies image is keeps = keeps log.from bodies is (stands_ends bodies is)

  pub stands_after : (bodies : List (List ℕ)) (body image : List ℕ) → IsLog log.from bodies file → IsAfter log.end body file image → IsLog log.from (bodies ++ body ∷ []) image
  stands_after bodies body image is after = after log.from bodies is (stands_ends bodies is)

  pub stands_before_or_after : (bodies : List (List ℕ)) (body image : List ℕ) → IsLog log.from bodies file → IsBeforeOrAfter log.end body file image → IsLog log.from bodies image ⊎ IsLog log.from (bodies ++ body ∷ []) image
  stands_before_or_after bodies body image is either = either log.from bodies is (stands_ends bodies is)

-- the bytes of a log that begins at place 0 and ends with its closed gate are those of its records
pub bytes_of_log : (bodies : List (List ℕ)) (end : ℕ) (file : List ℕ) → AreBytes file → IsLog 0 bodies file → span bodies ≡ end → drop end file ≡ 0 ∷ [] → file ≡ log_bytes bodies
bytes_of_log bodies end file bytes log ends closed =
    (split bodies file bytes log.records).parts ∙ ap (λ (l : List ℕ). frames bodies ++ l) (ap (λ n. drop n file) ends ∙ closed)

-- bytes without damage are a log of what they have, and damage is none of these
pub sound_log : (from : ℕ) (file : List ℕ) → is_damaged_from from file ≡ false → IsLog from (records_from from file) file
sound_log from file sound = record { records = refl; sound = sound }

pub no_damage : (number from : ℕ) (bodies : List (List ℕ)) (file : List ℕ) (stop : Stop) → IsLog from bodies file → IsDamage number from file stop → ⊥
no_damage number from bodies file stop log damage = true≢false (sym damage.damaged ∙ log.sound)

-- what an opening keeps, of the records that it found
pub opened_log : (from : ℕ) (bodies : List (List ℕ)) (old image : List ℕ) → IsLog from bodies old → KeepsLog (end_from from old) old image → IsLog from bodies image
opened_log from bodies old image log keeps = keeps from bodies log (ap (λ (l : List (List ℕ)). from + span l) (sym log.records))

-- from the place behind some of the records the file has the others
pub records_behind : (from : ℕ) (xs ys : List (List ℕ)) (file : List ℕ) → records_from from file ≡ xs ++ ys → records_from (from + span xs) file ≡ ys
records_behind from xs ys file is = ap (walk 0) (sym (drop-drop (span xs) from file)) ∙ walk_behind xs ys (drop from file) is

pub log_behind : (from : ℕ) (xs ys : List (List ℕ)) (file : List ℕ) → IsLog from (xs ++ ys) file → IsLog (from + span xs) ys file
log_behind from xs ys file log =
    let others = records_behind from xs ys file log.records in
    let end : end_from from file ≡ end_from (from + span xs) file = omega (arith, ap span log.records, ap span others, span-append xs ys) in
    record { records = others; sound = subst (λ n. is_bad_end n (drop n file) ≡ false) end log.sound }

pub reaches_behind : (end from : ℕ) (xs ys : List (List ℕ)) (file : List ℕ) → records_from from file ≡ xs ++ ys → Reaches end from file → Reaches end (from + span xs) file
reaches_behind end from xs ys file is reaches = omega (arith, reaches, ap span is, ap span (records_behind from xs ys file is), span-append xs ys)

-- a reader that goes on from record to record stays at places that reach the end, up to the end
pub reaches_next : (end at next : ℕ) (body file : List ℕ) → Reaches end at file → IsNext at file (Some (body, next)) → Reaches end next file
reaches_next end at next body file reaches is = omega (arith, reaches, ap span is.0, is.1)

pub reaches_none : (end at : ℕ) (file : List ℕ) → Reaches end at file → IsNext at file None → at ≡ end
reaches_none end at file reaches is = omega (arith, reaches, ap span is)

-- behind a record the end is the same, and so is what stands there
pub end_behind : (at next : ℕ) (body file : List ℕ) → records_from at file ≡ body ∷ records_from next file → next ≡ at + (5 + length body) → end_from at file ≡ end_from next file
end_behind at next body file is place = omega (arith, ap span is, place)

pub damage_behind : (at next : ℕ) (body file : List ℕ) → records_from at file ≡ body ∷ records_from next file → next ≡ at + (5 + length body) → is_damaged_from at file ≡ is_damaged_from next file
damage_behind at next body file is place = ap (λ n. is_bad_end n (drop n file)) (end_behind at next body file is place)
