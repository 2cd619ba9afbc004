-- A merge so far: x is its cursor at the start, y the one now, z the one after the next step.
use Rattle.std.proofs.Common.{◌≡◌, ℕ, ◌+◌, ◌-◌, ◌≤◌, ◌<◌, Bool, true, false, cond, nat_lt, IsTrue, List, [], ◌∷◌, length, Option, Some, None, is_none, IfSome, Result, Ok, Err, refl, sym, ◌∙◌, ap, subst, inl, inr, arith}
use Rattle.std.specs.Result.{IsErr, IsErrAnd, IfErr}
use Rattle.std.proofs.lemmas.Bool.{cases_Bool}
use Rattle.std.proofs.lemmas.Bool.Decides.{nat_tests}
use Rattle.mr_base.specs.Disk.{State, File, Tells, Image, present, seen}
use Rattle.mr_base.specs.Calls.{During, Counts}
use Rattle.mr_base.specs.declared.stop.Direction.{Direction}
use Rattle.mr_base.specs.declared.stop.Stop.{Stop}
use Rattle.mr_base.specs.declared.stop.Stop.TheVariants.{Memory, Disk, Full, Damaged}
use Rattle.mr_base.proofs.Moments.{at_end}
use Rattle.mr_base.proofs.Counting.{counts_start, counts_then, counts_more}
use Rattle.mr_iter.specs.Versions.{Version, version_cmp, IsInOrder}
use Rattle.mr_iter.specs.Cursors.{CursorState, SameList, SameFiles, SaysSame, MayStop, IsDamage, left, with_current}
use Rattle.mr_iter.specs.Walks.{Walk, Within, list_then, same_list}
use Rattle.mr_iter.specs.RunOuts.{OutState}
use Rattle.mr_iter.specs.declared.run.RunInfo.{RunInfo}
use Rattle.mr_compact.specs.Kept.{Keeps, kept_from, kept_versions, runs_of}
use Rattle.mr_compact.specs.Merges.{IsOutside, AreBefore, Merges, IsOffence, MayEnd, touched_files}
use Rattle.mr_compact.specs.Writing.{Writes, Wrote, IsReady, Stands, touched, passed_key, runs_behind}
use Rattle.mr_compact.specs.declared.merging.Written.{Written}
use Rattle.mr_compact.proofs.Keeping.{kept_in_order}
use Rattle.mr_compact.proofs.Outside.{tells_on, during_start, during_then, during_more, during_same}
use Rattle.mr_compact.proofs.Joining.{holds_same, holds_none, ready_same, ready_none}

-- the version that the cursor stands on
pub stands_on : (o : Option Version) (b : Bool) → b ≡ is_none o → b ≡ false → (v : Version) × (o ≡ Some v)
stands_on None b e is = cc
stands_on (Some v) b e is = (v, refl)

pub passes_any : (o : Option Version) (v : Version) → o ≡ Some v → IfSome o (λ w. IsTrue true)
passes_any o v at = subst (λ (q : Option Version). IfSome q (λ w. IsTrue true)) (sym at) refl

-- an error that is handed on
pub if_err : {A E : Type 0} (r : Result A E) (e : E) (P : E → Type 0) → IsErrAnd r (λ d. d ≡ e) → P e → IfErr r P
if_err (Ok x) e P is p = tt
if_err (Err d) e P is p = subst P (sym is) p

pub err_merges : (first k : ℕ) (offends offends' : Image → ℕ → ℕ → Type 0) (whole whole' steady steady' : Image → Type 0) (c c' : CursorState) (s s' : State) (r : Result (List RunInfo) Stop) → IsErr r → Merges first k offends offends' whole whole' steady steady' c c' s s' → Merges first (touched_files r k) offends offends' whole whole' steady steady' c c' s s'
err_merges first k o o' w w' t t' c c' s s' (Ok runs) is m = absurd (none runs is)
  where
    none : (l : List RunInfo) → IsErr {E = Stop} (Ok l) → ⊥
    none l is = cc
err_merges first k o o' w w' t t' c c' s s' (Err e) is m = m

-- files before the new ones have what they had
pub same_before : (first n : ℕ) (files : List ℕ) (s t : State) → During s t (IsOutside first n (present s)) → AreBefore first files → SameFiles files (seen s) (seen t)
same_before first n [] s t during before = tt
same_before first n (file ∷ files) s t during before = (sym (ap (λ (f : File). f.bytes) ((at_end s t _ during).before file before.0)), same_before first n files s t during before.1)

turned_files : (files : List ℕ) (i j : Image) → SameFiles files i j → SameFiles files j i
turned_files [] i j same = tt
turned_files (file ∷ files) i j same = (sym same.0, turned_files files i j same.1)

-- whether files are before the new ones
abbrev all_before : ℕ → List ℕ → Bool
all_before first [] = true
all_before first (file ∷ files) = cond (nat_lt file first) (all_before first files) false

are_before : (first : ℕ) (files : List ℕ) → all_before first files ≡ true → AreBefore first files
are_before first [] is = tt
are_before first (file ∷ files) is = elim (cases_Bool (nat_lt file first)) [
  | inl lt ↦ let rest : all_before first files ≡ true = rw lt at is in (grind (arith, nat_tests), are_before first files rest)
  | inr ge ↦ let e : false ≡ true = rw ge at is in cc
]

before_all : (first : ℕ) (files : List ℕ) → AreBefore first files → all_before first files ≡ true
before_all first [] are = refl
before_all first (file ∷ files) are = let lt : nat_lt file first ≡ true = grind (arith, nat_tests, are.0) in rw lt (before_all first files are.1)

pub runs_touched : (w : Written) → length w.runs ≤ touched w
runs_touched w = elim w.last.is as (λ b. length w.runs ≤ cond b (length w.runs + 1) (length w.runs)) [ true ↦ omega arith | false ↦ omega arith ]

module _ {K : Type 0} (f : K → CursorState) (whole steady : K → Image → Type 0) (offends : K → Image → ℕ → ℕ → Type 0) where
  abbrev pub ByFiles : Type 0
  ByFiles = (c : K) (i j : Image) → SameFiles (f c).files i j → whole c i → whole c j × (steady c i → steady c j) × SaysSame (f c) i j

  -- steps of the cursor and calls that write, which touched so many files and made so many syncs at most
  pub record Goes (first files syncs : ℕ) (s t : State) (x y : K) : Type 0 where
    pub list : SameList (f x) (f y)
    pub reads : (f x).reads ≤ (f y).reads
    pub asked : (f x).asked ≤ (f y).asked
    pub counts : Counts ((f y).reads - (f x).reads) ((f y).asked - (f x).asked) syncs s t
    pub outside : Tells s → During s t (IsOutside first files (present s))
    pub less : (image : Image) (file at : ℕ) → offends y image file at → offends x image file at
    pub stays : Tells s → AreBefore first (f x).files → whole x (seen s) → whole y (seen s)
    pub within : (k : List ℕ) → Tells s → AreBefore first (f x).files → whole x (seen s) → IsTrue ((f x).distinct (seen s)) → Within k (steady x) (f x) (seen s) → Within k (steady y) (f y) (seen s)

  pub goes_start : (first : ℕ) (s : State) (x : K) → Goes first 0 0 s s x x
  goes_start first s x = record {
    list = same_list (f x);
    reads = omega arith;
    asked = omega arith;
    counts = counts_more 0 0 0 _ _ 0 s s (omega arith) (omega arith) (omega arith) (counts_start s);
    outside = λ tells. during_start first 0 s;
    less = λ image file at here. here;
    stays = λ tells before is. is;
    within = λ k tells before is one here. here;
  }

  pub merges_of : (first n m k : ℕ) (s t : State) (x y : K) → n ≤ k → m ≤ k → Goes first n m s t x y → Merges first k (offends x) (offends y) (whole x) (whole y) (steady x) (steady y) (f x) (f y) s t
  merges_of first n m k s t x y files syncs goes = record {
    list = goes.list;
    reads = goes.reads;
    asked = goes.asked;
    counts = counts_more _ _ m _ _ k s t (omega arith) (omega arith) syncs goes.counts;
    outside = λ tells. during_more first n k s t files (goes.outside tells);
    offends_less = goes.less;
    stays_whole = goes.stays;
    within = goes.within;
  }

  pub goes_more : (first n m k q : ℕ) (s t : State) (x y : K) → n ≤ k → m ≤ q → Goes first n m s t x y → Goes first k q s t x y
  goes_more first n m k q s t x y files syncs goes = record {
    list = goes.list;
    reads = goes.reads;
    asked = goes.asked;
    counts = counts_more _ _ m _ _ q s t (omega arith) (omega arith) syncs goes.counts;
    outside = λ tells. during_more first n k s t files (goes.outside tells);
    less = goes.less;
    stays = goes.stays;
    within = goes.within;
  }

  -- calls that write
  pub goes_writes : (first n m k q p r : ℕ) (s t u : State) (x y : K) → n ≤ p → k ≤ p → u.syncs + m ≤ t.syncs + r → Goes first n m s t x y → Writes first k q t u → Goes first p r s u x y
  goes_writes first n m k q p r s t u x y files more synced goes w = record {
    list = goes.list;
    reads = goes.reads;
    asked = goes.asked;
    counts = record {
      tells = w.counts.tells ∙ goes.counts.tells;
      faults = omega (arith, goes.counts.faults, w.counts.faults);
      emit_faults = w.counts.emit_faults ∙ goes.counts.emit_faults;
      reads = (omega (arith, goes.counts.reads.0, w.counts.reads.0), omega (arith, goes.counts.reads.1, w.counts.reads.1));
      asked = (omega (arith, goes.counts.asked.0, w.counts.asked.0), omega (arith, goes.counts.asked.1, w.counts.asked.1));
      syncs = (omega (arith, goes.counts.syncs.0, w.counts.syncs.0), omega (arith, goes.counts.syncs.1, synced));
    };
    outside = λ tells. during_then first p s t u (during_more first n p s t files (goes.outside tells)) (during_more first k p t u more (w.outside (tells_on s t goes.counts.tells tells)));
    less = goes.less;
    stays = goes.stays;
    within = goes.within;
  }

  module _ (by_files : ByFiles) where
    carry : (c : K) (i j : Image) (k : List ℕ) → SameFiles (f c).files i j → whole c i → Within k (steady c) (f c) i → Within k (steady c) (f c) j
    carry c i j k same is (inl stands) = inl ((by_files c i j same is).1 stands.0, stands.1)
    carry c i j k same is (inr over) =
        let says = (by_files c i j same is).2 in
        inr (
          over.0,
          record {
            reads = subst (λ (n : ℕ). (f c).reads ≤ n) (says.reads_to k None) over.1.reads;
            asked = subst (λ (n : ℕ). (f c).asked ≤ n) (says.asked_to k None) over.1.asked;
          },
        )

    module _ (first n m : ℕ) (s t u : State) (x y z : K) (p : Version → Bool) (goes : Goes first n m s t x y) (walk : Walk p (offends y) (offends z) (whole y) (whole z) (steady y) (steady z) (f y) (f z) t u) where
      on : Tells s → Tells t
      on tells = tells_on s t goes.counts.tells tells

      there : Tells s → AreBefore first (f x).files → SameFiles (f y).files (seen s) (seen t)
      there tells before = subst (λ (files : List ℕ). SameFiles files (seen s) (seen t)) (sym goes.list.files) (same_before first n (f x).files s t (goes.outside tells) before)

      back : Tells s → AreBefore first (f x).files → SameFiles (f z).files (seen t) (seen s)
      back tells before = subst (λ (files : List ℕ). SameFiles files (seen t) (seen s)) (sym walk.list.files) (turned_files (f y).files (seen s) (seen t) (there tells before))

      whole_now : Tells s → AreBefore first (f x).files → whole x (seen s) → whole y (seen t)
      whole_now tells before is = (by_files y (seen s) (seen t) (there tells before) (goes.stays tells before is)).0

      whole_next : Tells s → AreBefore first (f x).files → whole x (seen s) → whole z (seen t)
      whole_next tells before is = walk.stays_whole (on tells) (whole_now tells before is)

      -- a step of the cursor
      pub goes_step : Goes first n m s u x z
      goes_step = record {
        list = list_then (f x) (f y) (f z) goes.list walk.list;
        reads = omega (arith, goes.reads, walk.counts.reads);
        asked = omega (arith, goes.asked, walk.counts.asked);
        counts = counts_more _ _ _ _ _ m s u (omega (arith, goes.reads, walk.counts.reads)) (omega (arith, goes.asked, walk.counts.asked)) (omega arith) (counts_then _ _ m _ _ 0 s t u goes.counts walk.counts.disk);
        outside = λ tells. during_then first n s t u (goes.outside tells) (during_same first n t u (walk.same (on tells)));
        less = λ image file at here. goes.less image file at (walk.offends_less image file at here);
        stays = λ tells before is. (by_files z (seen t) (seen s) (back tells before) (whole_next tells before is)).0;
        within = λ k tells before is one here.
            let whole_y = goes.stays tells before is in
            let says = (by_files y (seen s) (seen t) (there tells before) whole_y).2 in
            let one_y : IsTrue ((f y).distinct (seen t)) = subst (λ (b : Bool). IsTrue b) (sym (goes.list.distinct (seen s)) ∙ says.distinct) one in
            carry z (seen t) (seen s) k (back tells before) (whole_next tells before is) (walk.within k (on tells) (whole_now tells before is) one_y (carry y (seen s) (seen t) k (there tells before) whole_y (goes.within k tells before is one here)));
      }

      -- what is left after it
      pub left_next : (Tells t → whole y (seen t) → left (f z) (seen t) ≡ (f y).rest (seen t)) → Tells s → AreBefore first (f x).files → whole x (seen s) → left (f z) (seen s) ≡ (f y).rest (seen s)
      left_next moved tells before is =
          let says_z = (by_files z (seen t) (seen s) (back tells before) (whole_next tells before is)).2 in
          let says_y = (by_files y (seen s) (seen t) (there tells before) (goes.stays tells before is)).2 in
          ap (λ (vs : List Version). with_current (f z).current vs) (sym says_z.rest) ∙ moved (on tells) (whole_now tells before is) ∙ sym says_y.rest

  module _ (offends_by_files : (c : K) (i j : Image) (file at : ℕ) → SameFiles (f c).files i j → offends c i file at → offends c j file at) where
    damage : (first n m : ℕ) (s t : State) (x y : K) (file at : ℕ) → Goes first n m s t x y → IsDamage (offends y) t file at → IsOffence (offends x) first (f x).files s file at
    damage first n m s t x y file at goes is = elim (cases_Bool (all_before first (f x).files)) [
      | inl before ↦ elim (cases_Bool s.tells) [
        | inl tells ↦
            let are : AreBefore first (f x).files = are_before first (f x).files before in
            let here : offends x (seen t) file at = subst (λ (image : Image). offends x image file at) (is.told (tells_on s t goes.counts.tells tells)) (goes.less is.image file at is.offence) in
            record {
              image = seen s;
              told = λ told earlier. refl;
              offence = offends_by_files x (seen t) (seen s) file at (turned_files (f x).files (seen s) (seen t) (same_before first n (f x).files s t (goes.outside tells) are)) here;
            }
        | inr silent ↦ record { image = is.image; told = λ told earlier. absurd (clash silent told); offence = goes.less is.image file at is.offence }
      ]
      | inr behind ↦ record { image = is.image; told = λ told earlier. absurd (clash behind (before_all first (f x).files earlier)); offence = goes.less is.image file at is.offence }
    ]
      where
        clash : {b : Bool} → b ≡ false → b ≡ true → ⊥
        clash low high = cc

    pub ends_step : (first n m : ℕ) (s t u : State) (x y : K) → Goes first n m s t x y → (stop : Stop) → MayStop (offends y) t u stop → MayEnd (offends x) first (f x).files s u stop
    ends_step first n m s t u x y goes Memory may = may
    ends_step first n m s t u x y goes Disk may = omega (arith, goes.counts.faults, may)
    ends_step first n m s t u x y goes (Full what at limit) may = may
    ends_step first n m s t u x y goes (Damaged file at) may = damage first n m s t x y file at goes may

  -- ---- the loop

  module _ (run : Direction → ℕ → List ℕ → List Version → Type 0) (first oldest : ℕ) (bottom : Bool) (keeps : Keeps) where
    -- the versions that are still kept
    abbrev pub rest_of : Option (List ℕ) → List Version → List Version
    rest_of skip vs = kept_from oldest bottom keeps skip vs

    abbrev pub all_of : List Version → List (List Version)
    all_of vs = runs_of (kept_versions oldest bottom keeps vs)

    pub record Merging (stands : File → Type 0) (s t : State) (x y : K) (o : OutState) (w : Written) (skip : Option (List ℕ)) : Type 0 where
      pub goes : Goes first (touched w) (length w.runs) s t x y
      pub named : w.first_file ≡ first
      pub turned : o.direction ≡ (f x).direction
      pub ready : IsReady stands t o w
      pub steps : touched w + (f y).steps ≤ (f x).steps
      pub holds : Tells s → AreBefore first (f x).files → whole x (seen s) → Stands (run o.direction) t o w (runs_behind (rest_of skip (left (f y) (seen s)))) (rest_of skip (left (f y) (seen s))) (all_of ((f x).versions (seen s)))

    module _ (stands : File → Type 0) (s t : State) (x y : K) (o : OutState) (w : Written) (skip : Option (List ℕ)) (so_far : Merging stands s t x y o w skip) where
      pub room : 0 < (f y).steps → touched w + 1 ≤ (f x).steps
      room left = omega (arith, left, so_far.steps)

      pub wrote : (u : State) (w' : Written) → Wrote w w' t u → Goes first (touched w') (length w'.runs) s u x y
      wrote u w' done = goes_writes first (touched w) (length w.runs) (touched w') 1 (touched w') (length w'.runs) s t u x y done.grown (omega arith) done.synced so_far.goes (subst (λ (n : ℕ). Writes n (touched w') 1 t u) so_far.named done.writes)

      -- one version, and a step
      pub next : ByFiles → (stands' : File → Type 0) (u r : State) (z : K) (o' : OutState) (w' : Written) (skip' : Option (List ℕ)) (p : Version → Bool) (v : Version) → (f y).current ≡ Some v → Wrote w w' t u → w'.first_file ≡ w.first_file → o'.direction ≡ o.direction → IsReady stands' u o' w' →
          ((vs : List Version) (all : List (List Version)) → Tells t → Stands (run o.direction) t o w (runs_behind (rest_of skip (v ∷ vs))) (rest_of skip (v ∷ vs)) all → Stands (run o.direction) u o' w' (runs_behind (rest_of skip' vs)) (rest_of skip' vs) all) →
          Walk p (offends y) (offends z) (whole y) (whole z) (steady y) (steady z) (f y) (f z) u r → (f z).steps < (f y).steps → (Tells u → whole y (seen u) → left (f z) (seen u) ≡ (f y).rest (seen u)) → Merging stands' s r x z o' w' skip'
      next by_files stands' u r z o' w' skip' p v at done named turned ready holds walk less moved = record {
        goes = goes_step by_files first (touched w') (length w'.runs) s u r x y z p (wrote u w' done) walk;
        named = named ∙ so_far.named;
        turned = turned ∙ so_far.turned;
        ready = ready_same w'.first_file w'.last.is w'.last.is stands' u r o' w'.runs walk.counts.disk.tells walk.same ready;
        steps = omega (arith, done.one, less, so_far.steps);
        holds = λ tells before is.
            let on : Tells t = tells_on s t so_far.goes.counts.tells tells in
            let on_u : Tells u = tells_on t u done.writes.counts.tells on in
            let vs : List Version = (f y).rest (seen s) in
            let all : List (List Version) = all_of ((f x).versions (seen s)) in
            let old : Stands (run o.direction) t o w (runs_behind (rest_of skip (v ∷ vs))) (rest_of skip (v ∷ vs)) all = subst (λ (q : Option Version). Stands (run o.direction) t o w (runs_behind (rest_of skip (with_current q vs))) (rest_of skip (with_current q vs)) all) at (so_far.holds tells before is) in
            let mid : Stands (run o.direction) u o' w' (runs_behind (rest_of skip' vs)) (rest_of skip' vs) all = holds vs all on old in
            let late : Stands (run o.direction) r o' w' (runs_behind (rest_of skip' vs)) (rest_of skip' vs) all = holds_same (run o.direction) w'.last.is u r o' w'.runs (passed_key w'.last) (runs_behind (rest_of skip' vs)) (rest_of skip' vs) all (walk.same on_u) mid in
            let same : left (f z) (seen s) ≡ vs = left_next by_files first (touched w') (length w'.runs) s u r x y z p (wrote u w' done) walk moved tells before is in
            subst (λ (d : Direction). Stands (run d) r o' w' (runs_behind (rest_of skip' (left (f z) (seen s)))) (rest_of skip' (left (f z) (seen s))) all) (sym turned)
            (subst (λ (l : List Version). Stands (run o.direction) r o' w' (runs_behind (rest_of skip' l)) (rest_of skip' l) all) (sym same) late);
      }

      -- an error of the step
      pub over : ByFiles → (u r : State) (z : K) (w' : Written) (p : Version → Bool) → Wrote w w' t u → Walk p (offends y) (offends z) (whole y) (whole z) (steady y) (steady z) (f y) (f z) u r → Goes first (touched w + 1) (touched w + 1) s r x z
      over by_files u r z w' p done walk =
          goes_step by_files first (touched w + 1) (touched w + 1) s u r x y z p (goes_more first (touched w') (length w'.runs) (touched w + 1) (touched w + 1) s u x y done.one (omega (arith, done.one, runs_touched w')) (wrote u w' done)) walk

    -- at the start
    pub merging_start : (stands : File → Type 0) (s : State) (x : K) (o : OutState) (w : Written) (skip : Option (List ℕ)) → w.first_file ≡ first → w.runs ≡ [] → w.last.is ≡ false → skip ≡ None → o.direction ≡ (f x).direction → (Tells s → whole x (seen s) → left (f x) (seen s) ≡ (f x).versions (seen s)) →
        ((c : K) (image : Image) → whole c image → IsInOrder (version_cmp (f c).direction) (left (f c) image) × IsInOrder (version_cmp (f c).direction) ((f c).versions image)) → Merging stands s s x x o w skip
    merging_start stands s x o w skip named empty no_run no_skip turned begins in_order = record {
      goes = goes_more first 0 0 (touched w) (length w.runs) s s x x (omega arith) (omega arith) (goes_start first s x);
      named = named;
      turned = turned;
      ready = ready_none w.first_file w.last.is stands s o w.runs empty no_run;
      steps = none_touched;
      holds = λ tells before is.
          let all : List Version = (f x).versions (seen s) in
          let order : IsInOrder (version_cmp o.direction) (kept_versions oldest bottom keeps all) = subst (λ (d : Direction). IsInOrder (version_cmp d) (kept_versions oldest bottom keeps all)) (sym turned) (kept_in_order oldest bottom keeps (f x).direction None all (in_order x (seen s) is).1) in
          subst (λ (q : Option (List ℕ)). Stands (run o.direction) s o w (runs_behind (rest_of q (left (f x) (seen s)))) (rest_of q (left (f x) (seen s))) (all_of all)) (sym no_skip)
          (subst (λ (l : List Version). Stands (run o.direction) s o w (runs_behind (rest_of None l)) (rest_of None l) (all_of all)) (sym (begins tells is))
          (holds_none (run o.direction) w.last s o w.runs (kept_versions oldest bottom keeps all) empty no_run order));
    }
      where
        none_touched : touched w + (f x).steps ≤ (f x).steps
        none_touched = let none : touched w ≡ 0 = rw no_run (ap length empty) in omega (arith, none)
