-- How the versions that are held become runs, one call after another.
use Rattle.std.proofs.Common.{◌≡◌, ℕ, ◌+◌, Bool, true, false, not, ◌&&◌, nat_lt, IsTrue, List, [], ◌∷◌, ◌++◌, length, Option, Some, None, IfSome, refl, sym, ◌∙◌, ap, subst, inl, inr, arith}
use Rattle.std.proofs.lemmas.Bool.{cases_Bool}
use Rattle.mr_base.specs.Disk.{State, File, Tells, Image, seen}
use Rattle.mr_base.specs.Calls.{Same}
use Rattle.mr_base.proofs.Moments.{same_file}
use Rattle.mr_base.specs.declared.stop.Direction.{Direction}
use Rattle.mr_iter.specs.Versions.{Version, version_cmp, IsInOrder}
use Rattle.mr_iter.specs.Snapshots.{is_skipped}
use Rattle.mr_iter.specs.RunOuts.{OutState, KeepsOthers, FitsBehind, with_version, entry_bytes}
use Rattle.mr_iter.specs.declared.run.RunInfo.{RunInfo}
use Rattle.mr_compact.specs.Kept.{run_limit, run_bytes, last_key, is_closed, runs_from}
use Rattle.mr_compact.specs.Merges.{AreNumbered, IsWritten, AreWritten}
use Rattle.mr_compact.specs.Writing.{Ready, Holds, passed_key, runs_behind}
use Rattle.mr_iter.specs.Walks.{image_same}
use Rattle.mr_compact.specs.declared.merging.Passed.{Passed}
use Rattle.mr_compact.proofs.Cutting.{end_in_order, start_each}
use Rattle.mr_compact.proofs.Outside.{at_file, number_of, written_others, written_push, written_same}

append_assoc : {X : Type 0} (xs ys zs : List X) → (xs ++ ys) ++ zs ≡ xs ++ (ys ++ zs)
append_assoc [] ys zs = refl
append_assoc (x ∷ xs) ys zs = ap (λ ws. x ∷ ws) (append_assoc xs ys zs)

no_such : {A : Type 0} → IsTrue false → A
no_such is = cc

-- ---- lists in order

start_in_order : (d : Direction) (run vs : List Version) → IsInOrder (version_cmp d) (run ++ vs) → IsInOrder (version_cmp d) run
start_in_order d [] vs all = tt
start_in_order d (u ∷ run) vs all = (start_each _ run vs all.0, start_in_order d run vs all.1)

one_more : (d : Direction) (run : List Version) (v : Version) (vs : List Version) → IsInOrder (version_cmp d) (run ++ v ∷ vs) → IsInOrder (version_cmp d) (with_version run v ++ vs)
one_more d run v vs all = subst (λ (l : List Version). IsInOrder (version_cmp d) l) (sym (append_assoc run (v ∷ []) vs)) all

-- ---- the run that has begun

last_of : (run : List Version) (v : Version) → last_key (with_version run v) ≡ Some v.key
last_of [] v = refl
last_of (u ∷ []) v = refl
last_of (u ∷ (w ∷ run)) v = last_of (w ∷ run) v

bytes_of : (run : List Version) (v : Version) → run_bytes (with_version run v) ≡ run_bytes run + entry_bytes v
bytes_of [] v = omega arith
bytes_of (u ∷ run) v = let rest = bytes_of run v in omega (arith, rest)

none_begun : (run : List Version) → None ≡ last_key run → run ≡ []
none_begun [] is = refl
none_begun (u ∷ []) is = cc
none_begun (u ∷ (w ∷ run)) is = let e = none_begun (w ∷ run) is in cc

goes_on : (run : List Version) (v : Version) (vs : List Version) → is_closed run v ≡ false → runs_from run (v ∷ vs) ≡ runs_from (with_version run v) vs
goes_on run v vs is = rw is refl

closes : (run : List Version) (v : Version) (vs : List Version) → is_closed run v ≡ true → runs_from run (v ∷ vs) ≡ run ∷ runs_from [] (v ∷ vs)
closes run v vs is = rw is refl

-- ---- the calls

module _ (is_run : ℕ → List ℕ → List Version → Type 0) where
  pub ready_closed : (first : ℕ) (stands' : File → Type 0) (t : State) (o' : OutState) (runs runs' : List RunInfo) (info : RunInfo) → AreNumbered first runs → Some info.file ≡ Some (first + length runs) → runs' ≡ runs ++ info ∷ [] → Ready first false false stands' t o' runs'
  ready_closed first stands' t o' runs runs' info numbered named grown = record {
    numbered = subst (λ (l : List RunInfo). AreNumbered first l) (sym grown) (number_of first runs info numbered (same_some info.file (first + length runs) named));
    file = λ is. no_such is;
    bytes = λ is. no_such is;
    stands = λ is. no_such is;
  }
    where
      same_some : (m n : ℕ) → Some m ≡ Some n → m ≡ n
      same_some m n e = cc

  -- a run is done
  pub holds_closed : (first : ℕ) (s t : State) (o o' : OutState) (runs : List RunInfo) (key : Option (List ℕ)) (info : RunInfo) (vs : List Version) (all : List (List Version)) → AreNumbered first runs → o.file ≡ Some (first + length runs) → o'.direction ≡ o.direction → KeepsOthers (first + length runs) s t →
      (IsInOrder (version_cmp o.direction) (o.added (seen s)) → IsWritten is_run t info (o.added (seen s))) →
      Holds is_run true s o runs key (λ run. run ∷ runs_from [] vs) vs all → Holds is_run false t o' (runs ++ info ∷ []) None (runs_behind vs) vs all
  holds_closed first s t o o' runs key info vs all numbered file turned keeps written held =
      let now : o.added (seen s) ≡ held.current = held.added refl in
      let ordered : IsInOrder (version_cmp o.direction) (o.added (seen s)) = subst (λ (l : List Version). IsInOrder (version_cmp o.direction) l) (sym now) (start_in_order o.direction held.current vs held.order) in
      let new_one : IsWritten is_run t info held.current = subst (λ (l : List Version). IsWritten is_run t info l) now (written ordered) in
      record {
        done = held.done ++ held.current ∷ [];
        current = [];
        are = written_push is_run t runs held.done info held.current (written_others is_run s t first runs held.done numbered keeps held.are) new_one;
        parts = append_assoc held.done (held.current ∷ []) (runs_from [] vs) ∙ held.parts;
        order = subst (λ (d : Direction). IsInOrder (version_cmp d) vs) (sym turned) (end_in_order o.direction held.current vs held.order);
        last = refl;
        added = λ is. no_such is;
        bytes = λ is. no_such is;
      }

  pub run_closed : (first : ℕ) (begun : Bool) (s t : State) (o o' : OutState) (runs runs' : List RunInfo) (key : Option (List ℕ)) (info : RunInfo) (vs : List Version) (all : List (List Version)) → IsTrue begun → AreNumbered first runs → o.file ≡ Some (first + length runs) → o'.direction ≡ o.direction → IfSome o.file (λ f. KeepsOthers f s t) → runs' ≡ runs ++ info ∷ [] →
      (IsInOrder (version_cmp o.direction) (o.added (seen s)) → IsWritten is_run t info (o.added (seen s))) →
      Holds is_run begun s o runs key (λ run. run ∷ runs_from [] vs) vs all → Holds is_run false t o' runs' None (runs_behind vs) vs all
  run_closed first begun s t o o' runs runs' key info vs all is numbered file turned keeps grown written held =
      subst (λ (l : List RunInfo). Holds is_run false t o' l None (runs_behind vs) vs all) (sym grown)
      (holds_closed first s t o o' runs key info vs all numbered file turned (at_file (λ f. KeepsOthers f s t) o.file (first + length runs) file keeps) written
      (subst (λ (b : Bool). Holds is_run b s o runs key (λ run. run ∷ runs_from [] vs) vs all) is held))

  -- a version is added to the run
  pub holds_added : (first : ℕ) (begun : Bool) (s t : State) (o o' : OutState) (runs : List RunInfo) (key : Option (List ℕ)) (v : Version) (vs : List Version) (all : List (List Version)) → AreNumbered first runs → o'.direction ≡ o.direction → KeepsOthers (first + length runs) s t →
      (FitsBehind o.direction (o.added (seen s)) v → o'.added (seen t) ≡ with_version (o.added (seen s)) v) → o'.bytes ≡ o.bytes + entry_bytes v →
      Holds is_run true s o runs key (λ run. runs_from (with_version run v) vs) (v ∷ vs) all → Holds is_run begun t o' runs (Some v.key) (runs_behind vs) vs all
  holds_added first begun s t o o' runs key v vs all numbered turned keeps added bytes held =
      let now : o.added (seen s) ≡ held.current = held.added refl in
      let order : IsInOrder (version_cmp o.direction) (with_version held.current v ++ vs) = one_more o.direction held.current v vs held.order in
      let fits : FitsBehind o.direction (o.added (seen s)) v = subst (λ (l : List Version). IsInOrder (version_cmp o.direction) (with_version l v)) (sym now) (start_in_order o.direction (with_version held.current v) vs order) in
      record {
        done = held.done;
        current = with_version held.current v;
        are = written_others is_run s t first runs held.done numbered keeps held.are;
        parts = held.parts;
        order = subst (λ (d : Direction). IsInOrder (version_cmp d) (with_version held.current v ++ vs)) (sym turned) order;
        last = sym (last_of held.current v);
        added = λ is. added fits ∙ ap (λ (l : List Version). with_version l v) now;
        bytes = λ is. omega (arith, bytes, held.bytes refl, bytes_of held.current v);
      }

  -- a run begins
  pub holds_begun : (s : State) (o o' : OutState) (runs : List RunInfo) (more : List Version → List (List Version)) (rest : List Version) (all : List (List Version)) → o'.direction ≡ o.direction → ((image : Image) → o'.added image ≡ []) → o'.bytes ≡ 0 → Holds is_run false s o runs None more rest all → Holds is_run true s o' runs None more rest all
  holds_begun s o o' runs more rest all turned empty none held =
      let e : held.current ≡ [] = none_begun held.current held.last in
      record {
        done = held.done;
        current = held.current;
        are = held.are;
        parts = held.parts;
        order = subst (λ (d : Direction). IsInOrder (version_cmp d) (held.current ++ rest)) (sym turned) held.order;
        last = held.last;
        added = λ is. empty (seen s) ∙ sym e;
        bytes = λ is. none ∙ sym (ap run_bytes e);
      }

  pub begins_fresh : (last : Passed) (s : State) (o o' : OutState) (runs : List RunInfo) (more : List Version → List (List Version)) (rest : List Version) (all : List (List Version)) → last.is ≡ false → o'.direction ≡ o.direction → ((image : Image) → o'.added image ≡ []) → o'.bytes ≡ 0 →
      Holds is_run last.is s o runs (passed_key last) more rest all → Holds is_run true s o' runs (passed_key last) more rest all
  begins_fresh last s o o' runs more rest all no_run turned empty none held =
      let no_key : passed_key last ≡ None = rw no_run refl in
      subst (λ (k : Option (List ℕ)). Holds is_run true s o' runs k more rest all) (sym no_key)
      (holds_begun s o o' runs more rest all turned empty none (subst (λ (k : Option (List ℕ)). Holds is_run false s o runs k more rest all) no_key (subst (λ (b : Bool). Holds is_run b s o runs (passed_key last) more rest all) no_run held)))

  -- the run that has begun goes on with a version
  pub holds_open : (begun : Bool) (s : State) (o : OutState) (runs : List RunInfo) (key : Option (List ℕ)) (v : Version) (vs : List Version) (all : List (List Version)) → (IsTrue begun → (nat_lt run_limit o.bytes && not (is_skipped key v.key)) ≡ false) → (begun ≡ false → key ≡ None) →
      Holds is_run begun s o runs key (runs_behind (v ∷ vs)) (v ∷ vs) all → Holds is_run begun s o runs key (λ run. runs_from (with_version run v) vs) (v ∷ vs) all
  holds_open begun s o runs key v vs all room none held = record {
    done = held.done;
    current = held.current;
    are = held.are;
    parts = ap (λ (l : List (List Version)). held.done ++ l) (sym (goes_on held.current v vs still)) ∙ held.parts;
    order = held.order;
    last = held.last;
    added = held.added;
    bytes = held.bytes;
  }
    where
      still : is_closed held.current v ≡ false
      still = elim (cases_Bool begun) [
        | inl is ↦
            subst (λ (n : ℕ). (nat_lt run_limit n && not (is_skipped (last_key held.current) v.key)) ≡ false) (held.bytes is)
            (subst (λ (k : Option (List ℕ)). (nat_lt run_limit o.bytes && not (is_skipped k v.key)) ≡ false) held.last (room is))
        | inr no_run ↦
            let e : held.current ≡ [] = none_begun held.current (sym (none no_run) ∙ held.last) in
            subst (λ (l : List Version). is_closed l v ≡ false) (sym e) refl
      ]

  -- the run that has begun is to be closed before a version
  pub holds_full : (s : State) (o : OutState) (runs : List RunInfo) (key : Option (List ℕ)) (v : Version) (vs : List Version) (all : List (List Version)) → (nat_lt run_limit o.bytes && not (is_skipped key v.key)) ≡ true →
      Holds is_run true s o runs key (runs_behind (v ∷ vs)) (v ∷ vs) all → Holds is_run true s o runs key (λ run. run ∷ runs_from [] (v ∷ vs)) (v ∷ vs) all
  holds_full s o runs key v vs all past held = record {
    done = held.done;
    current = held.current;
    are = held.are;
    parts = ap (λ (l : List (List Version)). held.done ++ l) (sym (closes held.current v vs full)) ∙ held.parts;
    order = held.order;
    last = held.last;
    added = held.added;
    bytes = held.bytes;
  }
    where
      full : is_closed held.current v ≡ true
      full =
          subst (λ (n : ℕ). (nat_lt run_limit n && not (is_skipped (last_key held.current) v.key)) ≡ true) (held.bytes refl)
          (subst (λ (k : Option (List ℕ)). (nat_lt run_limit o.bytes && not (is_skipped k v.key)) ≡ true) held.last past)

  pub stays_open : (last : Passed) (s : State) (o : OutState) (runs : List RunInfo) (key : List ℕ) (v : Version) (vs : List Version) (all : List (List Version)) → v.key ≡ key → (last.is && nat_lt run_limit o.bytes && not (is_skipped (passed_key last) key)) ≡ false →
      Holds is_run last.is s o runs (passed_key last) (runs_behind (v ∷ vs)) (v ∷ vs) all → Holds is_run last.is s o runs (passed_key last) (λ run. runs_from (with_version run v) vs) (v ∷ vs) all
  stays_open last s o runs key v vs all same room held = holds_open last.is s o runs (passed_key last) v vs all here (λ no_run. rw no_run refl) held
    where
      here : IsTrue last.is → (nat_lt run_limit o.bytes && not (is_skipped (passed_key last) v.key)) ≡ false
      here is =
          subst (λ (k : List ℕ). (nat_lt run_limit o.bytes && not (is_skipped (passed_key last) k)) ≡ false) (sym same)
          (subst (λ (b : Bool). (b && nat_lt run_limit o.bytes && not (is_skipped (passed_key last) key)) ≡ false) is room)

  pub is_past : (last : Passed) (s : State) (o : OutState) (runs : List RunInfo) (key : List ℕ) (v : Version) (vs : List Version) (all : List (List Version)) → v.key ≡ key → (last.is && nat_lt run_limit o.bytes && not (is_skipped (passed_key last) key)) ≡ true →
      Holds is_run last.is s o runs (passed_key last) (runs_behind (v ∷ vs)) (v ∷ vs) all → Holds is_run last.is s o runs (passed_key last) (λ run. run ∷ runs_from [] (v ∷ vs)) (v ∷ vs) all
  is_past last s o runs key v vs all same past held =
      let is : last.is ≡ true = first_true last.is (nat_lt run_limit o.bytes) (not (is_skipped (passed_key last) key)) past in
      let here : (nat_lt run_limit o.bytes && not (is_skipped (passed_key last) key)) ≡ true = subst (λ (b : Bool). (b && nat_lt run_limit o.bytes && not (is_skipped (passed_key last) key)) ≡ true) is past in
      subst (λ (b : Bool). Holds is_run b s o runs (passed_key last) (λ run. run ∷ runs_from [] (v ∷ vs)) (v ∷ vs) all) (sym is)
      (holds_full s o runs (passed_key last) v vs all (subst (λ (k : List ℕ). (nat_lt run_limit o.bytes && not (is_skipped (passed_key last) k)) ≡ true) (sym same) here)
      (subst (λ (b : Bool). Holds is_run b s o runs (passed_key last) (runs_behind (v ∷ vs)) (v ∷ vs) all) is held))
    where
      first_true : (a b d : Bool) → (a && b && d) ≡ true → a ≡ true
      first_true true b d is = refl
      first_true false b d is = cc

  pub begins_anew : (last : Passed) (s : State) (o : OutState) (runs : List RunInfo) (v : Version) (vs : List Version) (all : List (List Version)) → last.is ≡ false →
      Holds is_run last.is s o runs (passed_key last) (runs_behind (v ∷ vs)) (v ∷ vs) all → Holds is_run last.is s o runs (passed_key last) (λ run. runs_from (with_version run v) vs) (v ∷ vs) all
  begins_anew last s o runs v vs all no_run held = holds_open last.is s o runs (passed_key last) v vs all (λ is. no_such (sym no_run ∙ is)) (λ none. rw none refl) held

  -- the last run is to be closed
  pub holds_last : (s : State) (o : OutState) (runs : List RunInfo) (key : List ℕ) (all : List (List Version)) → Holds is_run true s o runs (Some key) (runs_behind []) [] all → Holds is_run true s o runs (Some key) (λ run. run ∷ runs_from [] []) [] all
  holds_last s o runs key all held = record {
    done = held.done;
    current = held.current;
    are = held.are;
    parts = ap (λ (l : List (List Version)). held.done ++ l) (sym (by_itself held.current held.last)) ∙ held.parts;
    order = held.order;
    last = held.last;
    added = held.added;
    bytes = held.bytes;
  }
    where
      by_itself : (run : List Version) → Some key ≡ last_key run → runs_from run [] ≡ run ∷ []
      by_itself [] is = cc
      by_itself (u ∷ run) is = refl

  -- none has begun, and nothing is left: these are all
  pub holds_all : (begun : Bool) (s : State) (o : OutState) (runs : List RunInfo) (all : List (List Version)) → Holds is_run begun s o runs None (runs_behind []) [] all → AreWritten is_run s runs all
  holds_all begun s o runs all held =
      let e : held.current ≡ [] = none_begun held.current held.last in
      let parts : held.done ≡ all = sym (nothing held.done) ∙ ap (λ (l : List Version). held.done ++ runs_from l []) (sym e) ∙ held.parts in
      subst (λ (l : List (List Version)). AreWritten is_run s runs l) parts held.are
    where
      nothing : (xs : List (List Version)) → xs ++ [] ≡ xs
      nothing [] = refl
      nothing (x ∷ xs) = ap (λ ws. x ∷ ws) (nothing xs)

  pub all_done : (last : Passed) (s : State) (o : OutState) (runs : List RunInfo) (all : List (List Version)) → last.is ≡ false → Holds is_run last.is s o runs (passed_key last) (runs_behind []) [] all → AreWritten is_run s runs all
  all_done last s o runs all no_run held =
      let no_key : passed_key last ≡ None = rw no_run refl in
      holds_all last.is s o runs all (subst (λ (k : Option (List ℕ)). Holds is_run last.is s o runs k (runs_behind []) [] all) no_key held)

  pub one_left : (last : Passed) (s : State) (o : OutState) (runs : List RunInfo) (all : List (List Version)) → last.is ≡ true → Holds is_run last.is s o runs (passed_key last) (runs_behind []) [] all → Holds is_run last.is s o runs (passed_key last) (λ run. run ∷ runs_from [] []) [] all
  one_left last s o runs all is held =
      let some_key : passed_key last ≡ Some last.key.items = rw is refl in
      let here = subst (λ (k : Option (List ℕ)). Holds is_run true s o runs k (runs_behind []) [] all) some_key (subst (λ (b : Bool). Holds is_run b s o runs (passed_key last) (runs_behind []) [] all) is held) in
      subst (λ (b : Bool). Holds is_run b s o runs (passed_key last) (λ run. run ∷ runs_from [] []) [] all) (sym is)
      (subst (λ (k : Option (List ℕ)). Holds is_run true s o runs k (λ run. run ∷ runs_from [] []) [] all) (sym some_key) (holds_last s o runs last.key.items all here))

  -- nothing is written at the start
  pub holds_none : (last : Passed) (s : State) (o : OutState) (runs : List RunInfo) (rest : List Version) → runs ≡ [] → last.is ≡ false → IsInOrder (version_cmp o.direction) rest → Holds is_run last.is s o runs (passed_key last) (runs_behind rest) rest (runs_from [] rest)
  holds_none last s o runs rest empty no_run order = record {
    done = [];
    current = [];
    are = subst (λ (l : List RunInfo). AreWritten is_run s l []) (sym empty) tt;
    parts = refl;
    order = order;
    last = rw no_run refl;
    added = λ is. no_such (sym no_run ∙ is);
    bytes = λ is. no_such (sym no_run ∙ is);
  }

  -- the disk goes on and stays as it is
  pub holds_same : (begun : Bool) (s t : State) (o : OutState) (runs : List RunInfo) (key : Option (List ℕ)) (more : List Version → List (List Version)) (rest : List Version) (all : List (List Version)) → Same s t → Holds is_run begun s o runs key more rest all → Holds is_run begun t o runs key more rest all
  holds_same begun s t o runs key more rest all same held = record {
    done = held.done;
    current = held.current;
    are = written_same is_run s t runs held.done (λ file. same_file s t file same) held.are;
    parts = held.parts;
    order = held.order;
    last = held.last;
    added = λ is. ap o.added (image_same s t same) ∙ held.added is;
    bytes = held.bytes;
  }

pub ready_none : (first : ℕ) (begun : Bool) (stands : File → Type 0) (s : State) (o : OutState) (runs : List RunInfo) → runs ≡ [] → begun ≡ false → Ready first begun begun stands s o runs
ready_none first begun stands s o runs empty no_run = record {
  numbered = subst (λ (l : List RunInfo). AreNumbered first l) (sym empty) tt;
  file = λ is. no_such (sym no_run ∙ is);
  bytes = λ is. no_such (sym no_run ∙ is);
  stands = λ is. no_such (sym no_run ∙ is);
}

pub ready_same : (first : ℕ) (begun some : Bool) (stands : File → Type 0) (s t : State) (o : OutState) (runs : List RunInfo) → t.tells ≡ s.tells → (Tells s → Same s t) → Ready first begun some stands s o runs → Ready first begun some stands t o runs
ready_same first begun some stands s t o runs told same ready = record {
  numbered = ready.numbered;
  file = ready.file;
  bytes = ready.bytes;
  stands = λ is tells.
      let early : Tells s = subst (λ (b : Bool). IsTrue b) told tells in
      subst stands (sym (same_file s t (first + length runs) (same early))) (ready.stands is early);
}
