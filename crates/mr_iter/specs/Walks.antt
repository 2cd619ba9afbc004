-- What steps of one cursor lead to.
use Rattle.std.specs.Prelude.{◌≡◌, ◌⊎◌, ◌≤◌, ℕ, Bool, true, false, not, IsTrue, List, [], ◌∷◌, ◌++◌, Option, Some, None, is_some, filter, refl}
use Rattle.std.proofs.Common.{sym, ◌∙◌, ap, subst, inl, inr, arith}
use Rattle.std.specs.List.{AllByRecursion}
use Rattle.mr_base.specs.Disk.{State, Moment, Tells, Image, seen}
use Rattle.mr_base.specs.Calls.{Same}
use Rattle.mr_base.specs.declared.stop.Stop.{Stop}
use Rattle.mr_base.specs.declared.stop.Stop.TheVariants.{Memory, Disk, Full, Damaged}
use Rattle.mr_base.proofs.Moments.{same_start, same_then, same_present}
use Rattle.mr_base.proofs.Counting.{counts_start, counts_then, counts_more}
use Rattle.mr_iter.specs.Versions.{Version, first}
use Rattle.mr_iter.specs.Order.{each-append}
use Rattle.mr_iter.specs.Places.{first_left}
use Rattle.mr_iter.specs.Cursors.{CursorState, SameList, CountsStep, MayStop, IsWithinBound, IsWithinEnd, left}

-- It has read no more since it was sought for this key than a walk to the end may: while it stands in its list by the law of
-- its bounds, after an error by itself.
abbrev pub Within : List ℕ → (Image → Type 0) → CursorState → Image → Type 0
Within k steady c image = (steady image × IsTrue (c.sought k)) ⊎ ((c.current ≡ None) × IsWithinEnd c image k)

-- what is left now is an end of what was left before, and all versions in front of it pass the test
pub record Passed (p : Version → Bool) (before after : List Version) : Type 0 where
  pub passed : List Version
  pub parts : before ≡ passed ++ after
  pub each : AllByRecursion (λ v. p v ≡ true) passed

-- Steps from one cursor to another, which pass only versions of this test, and what became of the disk: its list stays, the
-- disk's counts rose by no more than the cursor's, nothing on the disk changed, it stays whole and within its bounds, and finds
-- no other damage. While it stands on a version, what is left is an end of what was left.
pub record Walk (p : Version → Bool) (offends offends' : Image → ℕ → ℕ → Type 0) (whole whole' steady steady' : Image → Type 0) (c c' : CursorState) (s s' : State) : Type 0 where
  pub list : SameList c c'
  pub counts : CountsStep c c' s s'
  pub same : Tells s → Same s s'
  pub offends_less : (image : Image) (file at : ℕ) → offends' image file at → offends image file at
  pub stays_whole : Tells s → whole (seen s) → whole' (seen s)
  pub within : (k : List ℕ) → Tells s → whole (seen s) → IsTrue (c.distinct (seen s)) → Within k steady c (seen s) → Within k steady' c' (seen s)
  pub passes : Tells s → whole (seen s) → is_some c'.current ≡ true → (is_some c.current ≡ true) × Passed p (left c (seen s)) (left c' (seen s))

pub image_same : (s t : State) → Same s t → seen t ≡ seen s
image_same s t same = ap (λ (m : Moment). λ file. (m.files file).bytes) (same_present s t same)

pub same_list : (s : CursorState) → SameList s s
same_list s = record { direction = refl; files = refl; most = refl; anew = refl; versions = λ image. refl; distinct = λ image. refl; reads_to = λ image key place. refl; asked_to = λ image key place. refl }

pub list_then : (a b c : CursorState) → SameList a b → SameList b c → SameList a c
list_then a b c first second = record {
  direction = second.direction ∙ first.direction;
  files = second.files ∙ first.files;
  most = second.most ∙ first.most;
  anew = second.anew ∙ first.anew;
  versions = λ image. second.versions image ∙ first.versions image;
  distinct = λ image. second.distinct image ∙ first.distinct image;
  reads_to = λ image key place. second.reads_to image key place ∙ first.reads_to image key place;
  asked_to = λ image key place. second.asked_to image key place ∙ first.asked_to image key place;
}

pub counts_step_start : (c : CursorState) (s : State) → CountsStep c c s s
counts_step_start c s = record { reads = omega arith; asked = omega arith; disk = counts_more 0 0 0 _ _ 0 s s (omega arith) (omega arith) (omega arith) (counts_start s) }

pub counts_step_then : (a b c : CursorState) (s t u : State) → CountsStep a b s t → CountsStep b c t u → CountsStep a c s u
counts_step_then a b c s t u first second = record {
  reads = omega (arith, first.reads, second.reads);
  asked = omega (arith, first.asked, second.asked);
  disk = counts_more _ _ _ _ _ 0 s u (omega (arith, first.reads, second.reads)) (omega (arith, first.asked, second.asked)) (omega arith) (counts_then _ _ 0 _ _ 0 s t u first.disk second.disk);
}

append_assoc : (xs ys zs : List Version) → (xs ++ ys) ++ zs ≡ xs ++ (ys ++ zs)
append_assoc [] ys zs = refl
append_assoc (x ∷ xs) ys zs = ap (λ (ws : List Version). x ∷ ws) (append_assoc xs ys zs)

pub passed_none : (p : Version → Bool) (vs : List Version) → Passed p vs vs
passed_none p vs = record { passed = []; parts = refl; each = tt }

pub passed_then : (p : Version → Bool) (a b c : List Version) → Passed p a b → Passed p b c → Passed p a c
passed_then p a b c one two = record {
  passed = one.passed ++ two.passed;
  parts = one.parts ∙ ap (λ (ws : List Version). one.passed ++ ws) two.parts ∙ sym (append_assoc one.passed two.passed c);
  each = each-append (λ v. p v ≡ true) one.passed two.passed one.each two.each;
}

-- where the next version doesn't pass the test, it is the first of all that doesn't
pub passed_first : (p : Version → Bool) (before after : List Version) (v : Version) → Passed p before after → first after ≡ Some v → p v ≡ false → first (filter (λ w. not (p w)) before) ≡ Some v
passed_first p before after v gone is no_v = ap (λ (ws : List Version). first (filter (λ w. not (p w)) ws)) gone.parts ∙ go gone.passed gone.each
  where
    here : (ws : List Version) → first ws ≡ Some v → first (filter (λ w. not (p w)) ws) ≡ Some v
    here [] is = cc
    here (w ∷ ws) is = let e : w ≡ v = cc in let no_w : p w ≡ false = ap p e ∙ no_v in rw no_w is

    go : (ws : List Version) → AllByRecursion (λ v. p v ≡ true) ws → first (filter (λ w. not (p w)) (ws ++ after)) ≡ Some v
    go [] all = here after is
    go (w ∷ ws) all = rw all.0 (go ws all.1)

pub walk_start : (p : Version → Bool) (offends : Image → ℕ → ℕ → Type 0) (whole steady : Image → Type 0) (c : CursorState) (s : State) → Walk p offends offends whole whole steady steady c c s s
walk_start p offends whole steady c s = record {
  list = same_list c;
  counts = counts_step_start c s;
  same = λ tells. same_start s;
  offends_less = λ image file at here. here;
  stays_whole = λ tells is. is;
  within = λ k tells is one here. here;
  passes = λ tells is stands. (stands, passed_none p (left c (seen s)));
}

module _ (p : Version → Bool) (o1 o2 o3 : Image → ℕ → ℕ → Type 0) (w1 w2 w3 t1 t2 t3 : Image → Type 0) (a b c : CursorState) (s t u : State) where
  -- steps, and then more of them
  pub walk_then : Walk p o1 o2 w1 w2 t1 t2 a b s t → Walk p o2 o3 w2 w3 t2 t3 b c t u → Walk p o1 o3 w1 w3 t1 t3 a c s u
  walk_then first second = record {
    list = list_then a b c first.list second.list;
    counts = counts_step_then a b c s t u first.counts second.counts;
    same = λ tells. same_then s t u (first.same tells) (second.same (on tells));
    offends_less = λ image file at here. first.offends_less image file at (second.offends_less image file at here);
    stays_whole = λ tells is. subst w3 (image_same s t (first.same tells)) (second.stays_whole (on tells) (there tells is));
    within = λ k tells is one here.
        let e : seen t ≡ seen s = image_same s t (first.same tells) in
        subst (Within k t3 c) e (second.within k (on tells) (there tells is) (subst (λ (image : Image). IsTrue (b.distinct image)) (sym e) (subst (λ (x : Bool). IsTrue x) (sym (first.list.distinct (seen s))) one)) (subst (Within k t2 b) (sym e) (first.within k tells is one here)));
    passes = λ tells is stands.
        let e : seen t ≡ seen s = image_same s t (first.same tells) in
        let later = second.passes (on tells) (there tells is) stands in
        let early = first.passes tells is later.0 in
        (early.0, passed_then p (left a (seen s)) (left b (seen s)) (left c (seen s)) early.1 (subst (λ (image : Image). Passed p (left b image) (left c image)) e later.1));
  }
    where
      on : Tells s → Tells t
      on tells = subst (λ (x : Bool). IsTrue x) (sym first.counts.disk.tells) tells

      there : Tells s → w1 (seen s) → w2 (seen t)
      there tells is = subst w2 (sym (image_same s t (first.same tells))) (first.stays_whole tells is)

  -- a stop of the later steps is one of all steps
  pub walk_stops : Walk p o1 o2 w1 w2 t1 t2 a b s t → (stop : Stop) → MayStop o2 t u stop → MayStop o1 s u stop
  walk_stops first Memory may = may
  walk_stops first Disk may = omega (arith, first.counts.disk.faults, may)
  walk_stops first (Full what at limit) may = may
  walk_stops first (Damaged file at) may = record {
    image = may.image;
    told = λ tells. may.told (subst (λ (x : Bool). IsTrue x) (sym first.counts.disk.tells) tells) ∙ image_same s t (first.same tells);
    offence = first.offends_less may.image file at may.offence;
  }

-- What it read is within its bounds, however the walk ended: up to where it stands, or up to the end.
pub walk_costs : (whole steady : Image → Type 0) (c : CursorState) (image : Image) (k : List ℕ) → (whole image → steady image → IsTrue (c.distinct image) → IsTrue (c.sought k) → IsWithinBound c image k) → whole image → IsTrue (c.distinct image) → Within k steady c image → IsWithinBound c image k
walk_costs whole steady c image k law is one (inl stands) = law is stands.0 one stands.1
walk_costs whole steady c image k law is one (inr over) = record {
  reads = subst (λ (place : Option Version). c.reads ≤ c.reads_to image k place) (sym over.0) over.1.reads;
  asked = subst (λ (place : Option Version). c.asked ≤ c.asked_to image k place) (sym over.0) over.1.asked;
}

-- A walk over versions of a test ends at the first version that doesn't pass it, if it stands on one that doesn't.
pub walk_ends : (p : Version → Bool) (c c' : CursorState) (image : Image) (v : Version) → Passed p (left c image) (left c' image) → c'.current ≡ Some v → p v ≡ false → first (filter (λ w. not (p w)) (left c image)) ≡ c'.current
walk_ends p c c' image v gone is no_v = passed_first p (left c image) (left c' image) v gone (first_left c' image ∙ is) no_v ∙ sym is
