-- How adding goes on from version to version.
use Rattle.std.proofs.Common.{◌≡◌, ℕ, ◌+◌, ◌≤◌, Bool, true, false, List, [], ◌∷◌, ◌++◌, length, Option, Some, None, is_none, IsSome, IfSome, ◌<◌, ◌≢◌, Result, Ok, Err, OnOk, IfOk, IfErr, refl, sym, ◌∙◌, ap, subst, arith, append_assoc}
use Rattle.std.proofs.lemmas.List.{append-nil}
use Rattle.mr_base.specs.Disk.{State, File, Tells, IsAtRest, present, file_of}
use Rattle.mr_base.specs.declared.stop.Direction.{Direction}
use Rattle.mr_base.specs.Calls.{Counts, Same}
use Rattle.mr_base.specs.declared.stop.Stop.{Stop}
use Rattle.mr_base.specs.declared.stop.Stop.TheVariants.{Memory, Disk, Full, Damaged}
use Rattle.mr_base.proofs.Counting.{counts_start, counts_then, still_tells, risen_within}
use Rattle.mr_base.proofs.Moments.{started, goes_on, at_end, same_during, same_file}
use Rattle.mr_iter.specs.Versions.{Version, as_version, version_cmp, IsInOrder}
use Rattle.mr_iter.specs.declared.run.RunInfo.{RunInfo}
use Rattle.mr_compact.specs.Merges.{IsWritten}
use Rattle.mr_iter.specs.Cursors.{CursorState, with_current, MayStop}
use Rattle.mr_iter.specs.RunOuts.{IsElsewhere, KeepsOthers, MayFail, with_version}
use Rattle.mr_memtable.specs.Chunks.{sizes}
use Rattle.mr_memtable.specs.Standing.{left_list}
use Rattle.mr_memtable.specs.Tables.{MemState, at_beginning, standing_at, versions_in, flat}
use Rattle.mr_memtable.specs.declared.cursor.MemCursor.{MemCursor}
use Rattle.mr_run_file.specs.Reading.{IsRun, IsRunFile}
use Rattle.mr_run_writer.specs.Drafts.{versions_of, Stands, IsWritten as AreWrittenIn}
use Rattle.mr_run_writer.specs.declared.writer.RunWriter.{RunWriter}
use Rattle.mr_flush.specs.Adding.{left_in_memory, Adds}

pub others_start : (file : ℕ) (s : State) → KeepsOthers file s s
others_start file s = started s (IsElsewhere file (present s)) (record { files = λ other not. refl; output = refl })

pub others_then : (file : ℕ) (old mid new : State) → KeepsOthers file old mid → KeepsOthers file mid new → KeepsOthers file old new
others_then file old mid new first second =
    let here = at_end old mid (IsElsewhere file (present old)) first in
    goes_on old mid new (IsElsewhere file (present old)) (IsElsewhere file (present mid)) first second (λ m is. record { files = λ other not. is.files other not ∙ here.files other not; output = is.output ∙ here.output })

pub others_same : (file : ℕ) (s t : State) → Same s t → KeepsOthers file s t
others_same file s t same = same_during s t (IsElsewhere file (present s)) same (record { files = λ other not. refl; output = refl })

pub fails_later : (old mid new : State) (e : Stop) → old.faults ≤ mid.faults → MayFail mid new e → MayFail old new e
fails_later old mid new Memory le may = tt
fails_later old mid new Disk le may = risen_within old.faults mid.faults new.faults new.faults le (omega arith) may
fails_later old mid new (Full what at limit) le may = may
fails_later old mid new (Damaged file at) le may = may

pub adds_start : (c : CursorState) (w : RunWriter) (s : State) → (Tells s → Stands w (file_of s w.buffer.file).bytes) → Adds c c w w s s
adds_start c w s stands = record {
  file = refl;
  counts = counts_start s;
  others = λ tells. others_start w.buffer.file s;
  stands = stands;
  entries = λ tells. refl;
  list = λ tells. refl;
}

pub adds_then : (a b c : CursorState) (w w1 w2 : RunWriter) (s t u : State) → Adds a b w w1 s t → Adds b c w1 w2 t u → Adds a c w w2 s u
adds_then a b c w w1 w2 s t u one two = record {
  file = two.file ∙ one.file;
  counts = counts_then 0 0 0 0 0 0 s t u one.counts two.counts;
  others = λ tells. others_then w.buffer.file s t u (one.others tells) (subst (λ (f : ℕ). KeepsOthers f t u) one.file (two.others (on tells)));
  stands = λ tells. subst (λ (f : ℕ). Stands w2 (file_of u f).bytes) one.file (two.stands (on tells));
  entries = λ tells. two.entries (on tells) ∙ one.entries tells;
  list = λ tells. subst (λ (f : ℕ). versions_of w2 (file_of u f).bytes ++ left_in_memory c ≡ versions_of w1 (file_of t f).bytes ++ left_in_memory b) one.file (two.list (on tells)) ∙ one.list tells;
}
  where
    on : Tells s → Tells t
    on tells = still_tells 0 0 0 s t one.counts tells

-- a fact under a premise, of what a call left where it ended well
pub on_told : {A E T P Q : Type 0} (r : Result A E) → (T → OnOk r P) → ((T → P) → Q) → OnOk r Q
on_told (Ok x) m f = f m
on_told (Err e) m f = tt

-- the version that a cursor stands on
pub stands_on : (o : Option Version) → IsSome o → (v : Version) × (o ≡ Some v)
stands_on None is = cc
stands_on (Some v) is = (v, refl)

pub at_some : (o : Option Version) (v : Version) (P : Version → Type 0) → o ≡ Some v → IfSome o P → P v
at_some o v P e h = subst (λ (p : Option Version). IfSome p P) e h

pub none_left : (b : Bool) (o : Option Version) → b ≡ is_none o → b ≡ true → o ≡ None
none_left b None e is = refl
none_left b (Some v) e is = cc

pub some_left : (b : Bool) (o : Option Version) → b ≡ is_none o → b ≡ false → IsSome o
some_left b None e is = cc
some_left b (Some v) e is = refl

pub step_fails : (old mid new : State) (e : Stop) → old.faults ≤ mid.faults → MayStop (λ image file at. ⊥) mid new e → MayFail old new e
step_fails old mid new Memory le may = tt
step_fails old mid new Disk le may = risen_within old.faults mid.faults new.faults new.faults le (omega arith) may
step_fails old mid new (Full what at limit) le may = may
step_fails old mid new (Damaged file at) le may = absurd may.offence

pub step_stops : {X : Type 0} (r : Result X Stop) (old mid new : State) → old.faults ≤ mid.faults → IfErr r (MayStop (λ image file at. ⊥) mid new) → IfErr r (MayFail old new)
step_stops (Ok x) old mid new le may = tt
step_stops (Err e) old mid new le may = step_fails old mid new e le may

-- one version is added, and the cursor goes on
pub adds_one : (before after : CursorState) (w w' : RunWriter) (s t u : State) (v x : Version) → w'.buffer.file ≡ w.buffer.file → Counts 0 0 0 s t → Counts 0 0 0 t u → (Tells s → KeepsOthers w.buffer.file s t) → (Tells t → Same t u) → (Tells s → Stands w' (file_of t w.buffer.file).bytes) → w'.entries ≡ w.entries + 1 → before.current ≡ Some v → x ≡ v →
    (Tells s → versions_of w' (file_of t w.buffer.file).bytes ≡ with_version (versions_of w (file_of s w.buffer.file).bytes) x) → (Tells t → left_in_memory after ≡ before.rest (λ file. [])) → Adds before after w w' s u
adds_one before after w w' s t u v x file wrote stepped others same stands entries here is added moved = record {
  file = file;
  counts = counts_then 0 0 0 0 0 0 s t u wrote stepped;
  others = λ tells. others_then w.buffer.file s t u (others tells) (others_same w.buffer.file t u (same (on tells)));
  stands = λ tells. subst (λ (f : File). Stands w' f.bytes) (sym (kept tells)) (stands tells);
  entries = λ tells. counted (moved (on tells));
  list = λ tells.
      ap (λ (f : File). versions_of w' f.bytes ++ left_in_memory after) (kept tells)
      ∙ ap (λ (vs : List Version). vs ++ left_in_memory after) (added tells ∙ ap (with_version (versions_of w (file_of s w.buffer.file).bytes)) is)
      ∙ append_assoc (versions_of w (file_of s w.buffer.file).bytes) (v ∷ []) (left_in_memory after)
      ∙ ap (λ (vs : List Version). versions_of w (file_of s w.buffer.file).bytes ++ v ∷ vs) (moved (on tells))
      ∙ ap (λ (o : Option Version). versions_of w (file_of s w.buffer.file).bytes ++ with_current o (before.rest (λ file. []))) (sym here);
}
  where
    on : Tells s → Tells t
    on tells = still_tells 0 0 0 s t wrote tells

    kept : Tells s → file_of u w.buffer.file ≡ file_of t w.buffer.file
    kept tells = same_file t u w.buffer.file (same (on tells))

    counted : left_in_memory after ≡ before.rest (λ file. []) → w'.entries + length (left_in_memory after) ≡ w.entries + length (left_in_memory before)
    counted e =
        let one : length (left_in_memory before) ≡ length (v ∷ left_in_memory after) = ap (λ (o : Option Version). length (with_current o (before.rest (λ file. [])))) here ∙ ap (λ (vs : List Version). length (v ∷ vs)) (sym e) in
        omega (arith, entries, one)

abbrev pub memory_cursor : MemCursor → CursorState
memory_cursor c = standing_at c.table.now.direction (versions_in c.table.now.bytes.items c.table.now.chunks.items) (flat (sizes c.table.now.chunks.items) c.chunk c.at)

some_versions : (vs : List Version) → vs ≢ [] → 0 < length vs
some_versions [] not = absurd (not refl)
some_versions (v ∷ vs) not = omega arith

pub memory_order : (d : Direction) (vs : List Version) (n : ℕ) (m : MemState) → standing_at d vs n ≡ at_beginning m → IsInOrder (version_cmp d) vs → IsInOrder (version_cmp m.direction) m.versions
memory_order d vs n m e all = subst (λ (c : CursorState). IsInOrder (version_cmp c.direction) (c.versions (λ file. []))) e all

-- a whole memtable is added, and its run is ended
module _ (d : Direction) (m : MemState) (before after : CursorState) (w w' : RunWriter) (s t : State) (begin : before ≡ at_beginning m) (end : after.current ≡ None) (adds : Adds before after w w' s t) where
  none_more : left_in_memory after ≡ []
  none_more = ap (λ (o : Option Version). with_current o (after.rest (λ file. []))) end

  all_left : left_in_memory before ≡ m.versions
  all_left = ap left_in_memory begin ∙ left_list m.versions 0

  all_added : ((bytes : List ℕ) → versions_of w bytes ≡ []) → Tells s → versions_of w' (file_of t w'.buffer.file).bytes ≡ m.versions
  all_added fresh tells =
      ap (λ (f : ℕ). versions_of w' (file_of t f).bytes) adds.file
      ∙ sym (append-nil (versions_of w' (file_of t w.buffer.file).bytes))
      ∙ ap (λ (vs : List Version). versions_of w' (file_of t w.buffer.file).bytes ++ vs) (sym none_more)
      ∙ adds.list tells
      ∙ ap (λ (vs : List Version). vs ++ left_in_memory before) (fresh (file_of s w.buffer.file).bytes)
      ∙ all_left

  some_added : w.entries ≡ 0 → m.versions ≢ [] → Tells s → 0 < w'.entries
  some_added fresh some tells = omega (arith, fresh, some_versions m.versions some, adds.entries tells, ap length none_more, ap length all_left)

  pub all_written : (u : State) (r : Result RunInfo Stop) → ((bytes : List ℕ) → versions_of w bytes ≡ []) → w.entries ≡ 0 → m.versions ≢ [] → d ≡ m.direction → IsInOrder (version_cmp m.direction) m.versions → IfOk r (λ info. info.file ≡ w'.buffer.file) →
      (Tells t → IfOk r (λ info. length (file_of u w'.buffer.file).bytes ≡ info.length)) → (Tells t → IfOk r (λ info. info.entries ≡ length (versions_of w' (file_of t w'.buffer.file).bytes))) →
      (Tells t → 0 < w'.entries → OnOk r (AreWrittenIn (file_of u w'.buffer.file).bytes (versions_of w' (file_of t w'.buffer.file).bytes))) → (Tells t → OnOk r (IsAtRest (file_of u w'.buffer.file))) → Tells s → IfOk r (λ info. IsWritten (IsRun d) u info m.versions)
  all_written u (Err e) none zero some same order named long counted written rests tells = tt
  all_written u (Ok info) none zero some same order named long counted written rests tells =
      let on : Tells t = still_tells 0 0 0 s t adds.counts tells in
      let all = all_added none tells in
      let many : info.entries ≡ length m.versions = counted on ∙ ap length all in
      let read : IsRunFile (length m.versions) (file_of u w'.buffer.file).bytes m.versions = subst (λ (vs : List Version). IsRunFile (length vs) (file_of u w'.buffer.file).bytes vs) all (written on (some_added zero some tells)).read in
      record {
        run_of = (subst (λ (f : ℕ). IsRunFile info.entries (file_of u f).bytes m.versions) (sym named) (subst (λ (n : ℕ). IsRunFile n (file_of u w'.buffer.file).bytes m.versions) (sym many) read), subst (λ (e : Direction). IsInOrder (version_cmp e) m.versions) (sym same) order);
        long = subst (λ (f : ℕ). length (file_of u f).bytes ≡ info.length) (sym named) (long on);
        entries = many;
        at_rest = subst (λ (f : ℕ). IsAtRest (file_of u f)) (sym named) (rests on);
      }

pub same_version : (key : List ℕ) (sequence : ℕ) (put : Option (List ℕ)) (v : Version) → key ≡ v.key → sequence ≡ v.sequence → put ≡ v.put → as_version key sequence put ≡ v
same_version key sequence put v k s p = ap (λ (x : List ℕ). as_version x sequence put) k ∙ ap (λ (n : ℕ). as_version v.key n put) s ∙ ap (λ (o : Option (List ℕ)). as_version v.key v.sequence o) p
