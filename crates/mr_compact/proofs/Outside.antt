-- What calls that write leave of the disk.
use Rattle.std.proofs.Common.{◌≡◌, ℕ, suc, ◌+◌, ◌≤◌, ◌<◌, Bool, IsTrue, List, [], ◌∷◌, ◌++◌, length, Option, Some, IfSome, Result, Ok, Err, OnOk, refl, sym, ◌∙◌, subst, arith}
use Rattle.mr_base.specs.Disk.{State, Moment, File, Tells, IsAtRest, present, file_of}
use Rattle.mr_base.specs.Calls.{During, Same}
use Rattle.mr_base.proofs.Moments.{started, weaker, goes_on, at_end, same_during}
use Rattle.mr_iter.specs.Versions.{Version}
use Rattle.mr_iter.specs.RunOuts.{KeepsOthers}
use Rattle.mr_iter.specs.declared.run.RunInfo.{RunInfo}
use Rattle.mr_compact.specs.Merges.{IsOutside, AreNumbered, IsWritten, AreWritten}

pub on_ok : {A E : Type 0} {P Q : Type 0} (r : Result A E) → (P → Q) → OnOk r P → OnOk r Q
on_ok (Ok x) f p = f p
on_ok (Err e) f p = p

pub tells_on : (s t : State) → t.tells ≡ s.tells → Tells s → Tells t
tells_on s t e tells = subst (λ (b : Bool). IsTrue b) (sym e) tells

pub outside_start : (first n : ℕ) (m : Moment) → IsOutside first n m m
outside_start first n m = record { before = λ file lt. refl; behind = λ file le. refl; output = refl }

pub outside_more : (first n k : ℕ) (start m : Moment) → n ≤ k → IsOutside first n start m → IsOutside first k start m
outside_more first n k start m le is = record { before = is.before; behind = λ file far. is.behind file (omega (arith, le, far)); output = is.output }

pub outside_then : (first n : ℕ) (a b c : Moment) → IsOutside first n a b → IsOutside first n b c → IsOutside first n a c
outside_then first n a b c one two = record {
  before = λ file lt. two.before file lt ∙ one.before file lt;
  behind = λ file far. two.behind file far ∙ one.behind file far;
  output = two.output ∙ one.output;
}

-- one run of calls and then another
pub during_then : (first n : ℕ) (s t u : State) → During s t (IsOutside first n (present s)) → During t u (IsOutside first n (present t)) → During s u (IsOutside first n (present s))
during_then first n s t u one two = goes_on s t u _ _ one two (λ m is. outside_then first n (present s) (present t) m (at_end s t _ one) is)

pub during_more : (first n k : ℕ) (s t : State) → n ≤ k → During s t (IsOutside first n (present s)) → During s t (IsOutside first k (present s))
during_more first n k s t le all = weaker s t _ _ (λ m is. outside_more first n k (present s) m le is) all

pub during_start : (first n : ℕ) (s : State) → During s s (IsOutside first n (present s))
during_start first n s = started s _ (outside_start first n (present s))

pub during_same : (first n : ℕ) (s t : State) → Same s t → During s t (IsOutside first n (present s))
during_same first n s t same = same_during s t _ same (outside_start first n (present s))

pub at_file : (P : ℕ → Type 0) (o : Option ℕ) (f : ℕ) → o ≡ Some f → IfSome o P → P f
at_file P o f e h = subst (λ (p : Option ℕ). IfSome p P) e h

-- ---- runs in files

pub number_of : (first : ℕ) (runs : List RunInfo) (info : RunInfo) → AreNumbered first runs → info.file ≡ first + length runs → AreNumbered first (runs ++ info ∷ [])
number_of first [] info all is = (is ∙ omega arith, tt)
number_of first (r ∷ runs) info all is = (all.0, number_of (suc first) runs info all.1 (is ∙ omega arith))

one_stays : (is_run : ℕ → List ℕ → List Version → Type 0) (s t : State) (run : RunInfo) (versions : List Version) → file_of t run.file ≡ file_of s run.file → IsWritten is_run s run versions → IsWritten is_run t run versions
one_stays is_run s t run versions e is = record {
  run_of = subst (λ (f : File). is_run run.entries f.bytes versions) (sym e) is.run_of;
  long = subst (λ (f : File). length f.bytes ≡ run.length) (sym e) is.long;
  entries = is.entries;
  at_rest = subst (λ (f : File). IsAtRest f) (sym e) is.at_rest;
}

-- the runs stay written where their files stay
pub written_stays : (is_run : ℕ → List ℕ → List Version → Type 0) (s t : State) (first : ℕ) (runs : List RunInfo) (done : List (List Version)) → AreNumbered first runs → ((file : ℕ) → first ≤ file → file < first + length runs → file_of t file ≡ file_of s file) → AreWritten is_run s runs done → AreWritten is_run t runs done
written_stays is_run s t first [] [] numbered same are = tt
written_stays is_run s t first [] (versions ∷ done) numbered same are = are
written_stays is_run s t first (run ∷ runs) [] numbered same are = are
written_stays is_run s t first (run ∷ runs) (versions ∷ done) numbered same are = (
  one_stays is_run s t run versions (same run.file (omega (arith, numbered.0)) (omega (arith, numbered.0))) are.0,
  written_stays is_run s t (suc first) runs done numbered.1 (λ file le lt. same file (omega (arith, le)) (omega (arith, lt))) are.1,
)

pub written_push : (is_run : ℕ → List ℕ → List Version → Type 0) (s : State) (runs : List RunInfo) (done : List (List Version)) (info : RunInfo) (versions : List Version) → AreWritten is_run s runs done → IsWritten is_run s info versions → AreWritten is_run s (runs ++ info ∷ []) (done ++ versions ∷ [])
written_push is_run s [] [] info versions are is = (is, tt)
written_push is_run s [] (more ∷ done) info versions are is = absurd are
written_push is_run s (run ∷ runs) [] info versions are is = absurd are
written_push is_run s (run ∷ runs) (more ∷ done) info versions are is = (are.0, written_push is_run s runs done info versions are.1 is)

-- calls on the next run's file keep those that are done
pub written_others : (is_run : ℕ → List ℕ → List Version → Type 0) (s t : State) (first : ℕ) (runs : List RunInfo) (done : List (List Version)) → AreNumbered first runs → KeepsOthers (first + length runs) s t → AreWritten is_run s runs done → AreWritten is_run t runs done
written_others is_run s t first runs done numbered keeps are =
    let now = at_end s t _ keeps in
    written_stays is_run s t first runs done numbered (λ file le lt. now.files file (λ e. omega (arith, lt, e))) are

pub written_same : (is_run : ℕ → List ℕ → List Version → Type 0) (s t : State) (runs : List RunInfo) (done : List (List Version)) → ((file : ℕ) → file_of t file ≡ file_of s file) → AreWritten is_run s runs done → AreWritten is_run t runs done
written_same is_run s t [] [] same are = tt
written_same is_run s t [] (versions ∷ done) same are = are
written_same is_run s t (run ∷ runs) [] same are = are
written_same is_run s t (run ∷ runs) (versions ∷ done) same are = (one_stays is_run s t run versions (same run.file) are.0, written_same is_run s t runs done same are.1)
