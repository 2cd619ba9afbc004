-- One run more is opened.
use Rattle.std.proofs.Common.{◌≡◌, ◌<◌, ◌+◌, ◌*◌, ℕ, List, [], ◌∷◌, ◌++◌, refl, sym, ◌∙◌, ap, subst, arith, Ok, Err, take, drop, length}
use Rattle.std.specs.Prelude.{suc, zero, map}
use Rattle.std.specs.List.{AllByRecursion}
use Rattle.std.proofs.lemmas.List.{take_more}
use Rattle.mr_iter.specs.Order.{each-append}
use lib.ListN.{get_or}
use Rattle.mr_base.specs.Disk.{State, Image, Tells, seen}
use Rattle.mr_base.specs.Calls.{Same, Counts}
use Rattle.mr_base.specs.declared.stop.Stop.{Stop}
use Rattle.mr_base.specs.declared.stop.Stop.TheVariants.{Memory, Disk, Full, Damaged}
use Rattle.mr_base.proofs.Counting.{counts_then, counts_more, risen_within, still_tells}
use Rattle.mr_base.proofs.Moments.{same_file}
use Rattle.mr_run_file.specs.Reading.{recorded_in}
use Rattle.mr_run_open.specs.Runs.{OpenStops}
use Rattle.mr_manifest.specs.declared.live.LiveRun.{LiveRun}
use Rattle.mr_stored.specs.Said.{in_file, ◌>>=◌}
use Rattle.mr_stored.specs.Lists.{index_or_none}
use Rattle.mr_stored.specs.Offences.{structures, lowest, highest}
use Rattle.mr_run_judge.specs.Judged.{lengths, IsSound, HasEnds, JudgeStops}
use Rattle.mr_run_judge.specs.declared.ends.Ends.{Ends}

lengths-suc : (runs : List LiveRun) (i : ℕ) (d : LiveRun) → i < length runs → lengths (take (suc i) runs) ≡ lengths (take i runs) + (get_or runs i d).length
lengths-suc [] i d lt = absurd (omega arith)
lengths-suc (run ∷ runs) zero d lt = omega arith
lengths-suc (run ∷ runs) (suc i) d lt = let e : lengths (take (suc i) runs) ≡ lengths (take i runs) + (get_or runs i d).length = lengths-suc runs i d (omega arith) in omega (arith, e)

pub lengths-more : (runs : List LiveRun) (i : ℕ) (d : LiveRun) → i < length runs → lengths (take (i + 1) runs) ≡ lengths (take i runs) + (get_or runs i d).length
lengths-more runs i d lt = let e : suc i ≡ i + 1 = omega arith in subst (λ n. lengths (take n runs) ≡ lengths (take i runs) + (get_or runs i d).length) e (lengths-suc runs i d lt)

structures-suc : (image : Image) (runs : List LiveRun) (i : ℕ) (d : LiveRun) → i < length runs
    → structures image (drop i runs) ≡ (in_file (get_or runs i d).file (recorded_in (get_or runs i d).length (get_or runs i d).entries (image (get_or runs i d).file)) >>= λ index. structures image (drop (suc i) runs))
structures-suc image [] i d lt = absurd (omega arith)
structures-suc image (run ∷ runs) zero d lt = refl
structures-suc image (run ∷ runs) (suc i) d lt = structures-suc image runs i d (omega arith)

structures-at : (image : Image) (runs : List LiveRun) (i : ℕ) (d : LiveRun) → i < length runs
    → structures image (drop i runs) ≡ (in_file (get_or runs i d).file (recorded_in (get_or runs i d).length (get_or runs i d).entries (image (get_or runs i d).file)) >>= λ index. structures image (drop (i + 1) runs))
structures-at image runs i d lt =
    let e : suc i ≡ i + 1 = omega arith in
    subst (λ n. structures image (drop i runs) ≡ (in_file (get_or runs i d).file (recorded_in (get_or runs i d).length (get_or runs i d).entries (image (get_or runs i d).file)) >>= λ index. structures image (drop n runs))) e (structures-suc image runs i d lt)

-- behind a sound one
pub structures-sound : (image : Image) (runs : List LiveRun) (i : ℕ) (d : LiveRun) → i < length runs → IsSound image (get_or runs i d) → structures image (drop i runs) ≡ structures image (drop (i + 1) runs)
structures-sound image runs i d lt sound = structures-at image runs i d lt ∙ ap (λ r. in_file (get_or runs i d).file r >>= λ index. structures image (drop (i + 1) runs)) sound

structures-bad : (image : Image) (runs : List LiveRun) (i : ℕ) (d : LiveRun) (at : ℕ) → i < length runs → recorded_in (get_or runs i d).length (get_or runs i d).entries (image (get_or runs i d).file) ≡ Err at
    → structures image (drop i runs) ≡ Err ((get_or runs i d).file, at)
structures-bad image runs i d at lt bad = structures-at image runs i d lt ∙ ap (λ r. in_file (get_or runs i d).file r >>= λ index. structures image (drop (i + 1) runs)) bad

pub seen-same : (old new : State) (file : ℕ) → Same old new → seen new file ≡ seen old file
seen-same old new file same = ap (λ f. f.bytes) (same_file old new file same)

-- a stop at run i, the ones before it are sound
pub stops-at : (r a s : ℕ) (old mid new : State) (runs : List LiveRun) (i : ℕ) (d : LiveRun) (e : Stop) → i < length runs → Counts r a s old mid → (Tells old → Same old mid)
    → (Tells old → structures (seen old) runs ≡ structures (seen old) (drop i runs)) → OpenStops (get_or runs i d).file (get_or runs i d).length (get_or runs i d).entries mid new e
    → JudgeStops (λ image. structures image runs) old new e
stops-at r a s old mid new runs i d Memory lt counts same sound stop = tt
stops-at r a s old mid new runs i d Disk lt counts same sound stop = risen_within old.faults mid.faults new.faults new.faults counts.faults (omega arith) stop
stops-at r a s old mid new runs i d (Full what at limit) lt counts same sound stop = stop
stops-at r a s old mid new runs i d (Damaged file at) lt counts same sound stop = λ tells.
    let run = get_or runs i d in
    sound tells
    ∙ structures-bad (seen old) runs i d at lt (ap (recorded_in run.length run.entries) (sym (seen-same old mid run.file (same tells))) ∙ stop.1 (still_tells r a s old mid counts tells))
    ∙ ap (λ f. Err (f, at)) (sym stop.0)

-- the ends of one run more
pub ends-more : (image : Image) (es : List Ends) (e : Ends) → AllByRecursion (HasEnds image) es → HasEnds image e → AllByRecursion (HasEnds image) (es ++ e ∷ [])
ends-more image es e all one = each-append (HasEnds image) es (e ∷ []) all (one, tt)

runs-append : (es : List Ends) (e : Ends) → map (λ (e : Ends). e.run) (es ++ e ∷ []) ≡ map (λ (e : Ends). e.run) es ++ e.run ∷ []
runs-append [] e = refl
runs-append (f ∷ es) e = ap (λ rs. f.run ∷ rs) (runs-append es e)

pub runs-more : (es : List Ends) (e : Ends) (runs : List LiveRun) (i : ℕ) (d : LiveRun) → i < length runs → map (λ (e : Ends). e.run) es ≡ take i runs → e.run ≡ get_or runs i d
    → map (λ (e : Ends). e.run) (es ++ e ∷ []) ≡ take (i + 1) runs
runs-more es e runs i d lt before one = runs-append es e ∙ ap (λ rs. rs ++ e.run ∷ []) before ∙ ap (λ r. take i runs ++ r ∷ []) one ∙ sym (take_more runs i d lt)

-- what holds at a later moment held at an earlier one
pub ends-same : (old mid : State) (e : Ends) → Same old mid → HasEnds (seen mid) e → HasEnds (seen old) e
ends-same old mid e same has = subst (λ bytes. (e.lowest ≡ lowest (index_or_none (recorded_in e.run.length e.run.entries bytes))) × (e.highest ≡ highest (index_or_none (recorded_in e.run.length e.run.entries bytes)))) (seen-same old mid e.run.file same) has

pub sound-same : (old mid : State) (run : LiveRun) → Same old mid → IsSound (seen mid) run → IsSound (seen old) run
sound-same old mid run same sound = subst (λ bytes. recorded_in run.length run.entries bytes ≡ Ok (index_or_none (recorded_in run.length run.entries bytes))) (seen-same old mid run.file same) sound

pub counts-more : (i a b c : ℕ) (old mid new : State) → Counts (2 * i) a 0 old mid → Counts 2 b 0 mid new → c ≡ a + b → Counts (2 * (i + 1)) c 0 old new
counts-more i a b c old mid new one two e = counts_more (2 * i + 2) (a + b) (0 + 0) (2 * (i + 1)) c 0 old new (omega arith) (omega (arith, e)) (omega arith) (counts_then (2 * i) a 0 2 b 0 old mid new one two)
