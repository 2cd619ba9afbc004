-- What becomes of a family that is learnt.
use Rattle.std.proofs.Common.{◌≡◌, ◌==◌, ◌&&◌, ℕ, if◌then◌else◌, Bool, true, false, not, List, [], ◌∷◌, length, set, Result, Ok, Err, OnOk, OnErr, refl, sym, ◌∙◌, ap, subst, inl, inr, arith}
use Rattle.std.specs.List.{insert}
use Rattle.std.proofs.lemmas.Bool.{cases_Bool}
use Rattle.std.proofs.lemmas.Bool.Decides.{nat_tests}
use Rattle.mr_base.specs.Disk.{Image}
use Rattle.mr_base.specs.declared.stop.Direction.{Direction}
use Rattle.mr_base.specs.declared.stop.Direction.TheVariants.{Forward, Reverse}
use Rattle.mr_iter.specs.Versions.{Version, version_cmp, merged}
use Rattle.mr_run_open.specs.Runs.{RunState}
use Rattle.mr_levels.specs.Levels.{runs, run_lists}
use Rattle.mr_family.specs.Family.{FamilyState, direction, versions}
use Rattle.mr_families.specs.declared.numbered.Numbered.{Numbered}
use Rattle.mr_families.specs.Known.{family_at, empty_family, is_known, is_listed, has_versions, has_runs, is_empty, one_at, AreAscending, AreKept, IsTold, IsAt, IsGapFor}
use Rattle.mr_families.specs.Changed.{is_same, learnt, Learnt}
use Rattle.mr_families.proofs.Numbering.{number_at, same_of, at_place, known_at_place, none_in_gap, numbers-set, others-set, own-at, each-set, kept-set, known-insert, others-insert, own-insert, kept-insert}

-- a family that is empty and has another direction than this one
abbrev pub is_turned : Direction → FamilyState → Bool
is_turned d f = is_empty f && not (is_same d (direction f))

same_direction : (d e : Direction) → is_same d e ≡ true → e ≡ d
same_direction Forward Forward is = refl
same_direction Forward Reverse is = cc
same_direction Reverse Forward is = cc
same_direction Reverse Reverse is = refl

not_false : (b : Bool) → not b ≡ false → b ≡ true
not_false true e = refl
not_false false e = cc

empty_list : {X : Type 0} (xs : List X) → not (length xs == 0) ≡ false → xs ≡ []
empty_list [] e = refl
empty_list (x ∷ xs) e = absurd (grind (arith, nat_tests))

both_not : (a b : Bool) → (not a && not b) ≡ true → (a ≡ false) × (b ≡ false)
both_not true b is = cc
both_not false true is = cc
both_not false false is = (refl, refl)

and_first : (a b : Bool) → (a && b) ≡ true → a ≡ true
and_first true b is = refl
and_first false b is = cc

-- ---- one family

learnt_stays : (d : Direction) (f : FamilyState) → is_turned d f ≡ false → f ≡ learnt d f
learnt_stays d f not_so = rw not_so refl

direction_stays : (d : Direction) (f : FamilyState) → is_turned d f ≡ false → direction f ≡ (if is_empty f then d else direction f)
direction_stays d f not_so = by_test (is_empty f) not_so
  where
    by_test : (b : Bool) → (b && not (is_same d (direction f))) ≡ false → direction f ≡ (if b then d else direction f)
    by_test true e = same_direction d (direction f) (not_false (is_same d (direction f)) e)
    by_test false e = refl

no_versions : (f : FamilyState) (image : Image) → is_empty f ≡ true → versions f image ≡ []
no_versions f image empty =
    let parts = both_not (has_versions f) (has_runs f) empty in
    ap (λ (vs : List Version). merged (version_cmp (direction f)) (vs ∷ run_lists (runs f.levels) image)) (empty_list f.memtable.versions parts.0)
    ∙ ap (λ (rs : List RunState). merged (version_cmp (direction f)) ([] ∷ run_lists rs image)) (empty_list (runs f.levels) parts.1)

-- ---- the families

known_already : (ns : List Numbered) (k i f : ℕ) → IsAt ns k i → is_known ns f ≡ (if k == f then true else is_known ns f)
known_already ns k i f here = elim (cases_Bool (k == f)) [
  | inl is ↦ rw is (subst (λ (n : ℕ). is_known ns n ≡ true) (same_of k f is) (known_at_place ns k i here))
  | inr other ↦ rw other refl
]

pub learnt_already : (ns : List Numbered) (k i : ℕ) (d : Direction) → AreAscending ns → IsAt ns k i → is_turned d (one_at ns i).family ≡ false → Learnt k d ns ns
learnt_already ns k i d rising here not_so =
    let stays : is_turned d (family_at ns k) ≡ false = subst (λ (f : FamilyState). is_turned d f ≡ false) (sym (at_place ns k i rising here)) not_so in
    record {
      known = λ f. known_already ns k i f here;
      own = learnt_stays d (family_at ns k) stays;
      direction_is = direction_stays d (family_at ns k) stays;
      others = λ f other. refl;
      versions_are = λ f image. refl;
    }

pub learnt_turned : (ns : List Numbered) (k i : ℕ) (d : Direction) (m : Numbered) → AreAscending ns → IsAt ns k i → m.number ≡ k → m.family ≡ empty_family d → is_turned d (one_at ns i).family ≡ true → Learnt k d ns (set ns i m)
learnt_turned ns k i d m rising here number family so = record {
  known = λ f. ap (λ (ks : List ℕ). is_listed ks f) (numbers-set ns i m same) ∙ known_already ns k i f here;
  own = after ∙ sym (ap (λ (b : Bool). if b then empty_family d else family_at ns k) turned);
  direction_is = ap direction after ∙ sym (ap (λ (b : Bool). if b then d else direction (family_at ns k)) empty);
  others = λ f other. others-set ns i m f same (subst (λ (n : ℕ). (n == f) ≡ false) (sym number) other);
  versions_are = λ f image. each-set (λ g x y. versions y image ≡ versions x image) ns i m rising here.in_range same (λ g x other. refl)
      (ap (λ (x : FamilyState). versions x image) family ∙ sym (no_versions (one_at ns i).family image (and_first (is_empty (one_at ns i).family) (not (is_same d (direction (one_at ns i).family))) so))) f;
}
  where
    same : m.number ≡ number_at ns i
    same = number ∙ sym here.has_number

    turned : is_turned d (family_at ns k) ≡ true
    turned = subst (λ (f : FamilyState). is_turned d f ≡ true) (sym (at_place ns k i rising here)) so

    empty : is_empty (family_at ns k) ≡ true
    empty = and_first (is_empty (family_at ns k)) (not (is_same d (direction (family_at ns k)))) turned

    after : family_at (set ns i m) k ≡ empty_family d
    after = own-at ns k i m rising here number ∙ family

pub kept_turned : (ns : List Numbered) (k i : ℕ) (m : Numbered) → IsAt ns k i → m.number ≡ k → IsTold m → AreKept ns → AreKept (set ns i m)
kept_turned ns k i m here number told kept = kept-set ns i m here.in_range (number ∙ sym here.has_number) told kept

empty_learnt : (d : Direction) → empty_family d ≡ learnt d (empty_family Forward)
empty_learnt Forward = refl
empty_learnt Reverse = refl

pub learnt_new : (ns : List Numbered) (k i : ℕ) (d : Direction) (m : Numbered) → IsGapFor ns k i → m.number ≡ k → m.family ≡ empty_family d → Learnt k d ns (insert ns i m)
learnt_new ns k i d m gap number family = record {
  known = λ f. subst (λ (n : ℕ). is_known (insert ns i m) f ≡ (if n == f then true else is_known ns f)) number (known-insert ns i m f);
  own = after ∙ empty_learnt d ∙ ap (learnt d) (sym before);
  direction_is = ap direction after ∙ ap (λ (x : FamilyState). if is_empty x then d else direction x) (sym before);
  others = λ f other. others-insert ns i m f (subst (λ (n : ℕ). (n == f) ≡ false) (sym number) other);
  versions_are = each;
}
  where
    before : family_at ns k ≡ empty_family Forward
    before = none_in_gap ns k i gap

    after : family_at (insert ns i m) k ≡ empty_family d
    after = subst (λ (n : ℕ). family_at (insert ns i m) n ≡ m.family) number (own-insert ns i m (subst (λ (n : ℕ). IsGapFor ns n i) (sym number) gap)) ∙ family

    each : (f : ℕ) (image : Image) → versions (family_at (insert ns i m) f) image ≡ versions (family_at ns f) image
    each f image = elim (cases_Bool (k == f)) [
      | inl is ↦ subst (λ (n : ℕ). versions (family_at (insert ns i m) n) image ≡ versions (family_at ns n) image) (same_of k f is) (ap (λ (x : FamilyState). versions x image) after ∙ ap (λ (x : FamilyState). versions x image) (sym before))
      | inr other ↦ ap (λ (x : FamilyState). versions x image) (others-insert ns i m f (subst (λ (n : ℕ). (n == f) ≡ false) (sym number) other))
    ]

pub kept_new : (ns : List Numbered) (k i : ℕ) (m : Numbered) → IsGapFor ns k i → m.number ≡ k → IsTold m → AreKept ns → AreKept (insert ns i m)
kept_new ns k i m gap number told kept = kept-insert ns i m (subst (λ (n : ℕ). IsGapFor ns n i) (sym number) gap) told kept

-- ---- a call that ends well or changes nothing

pub either_way : {A E : Type 0} (r : Result A E) (X P Q : Type 0) → (P → X) → (Q → X) → OnOk r P → OnErr r Q → X
either_way (Ok a) X P Q first second ok err = first ok
either_way (Err e) X P Q first second ok err = second err

pub on_ok : {A E : Type 0} (r : Result A E) (P Q : Type 0) → (P → Q) → OnOk r P → OnOk r Q
on_ok (Ok a) P Q f p = f p
on_ok (Err e) P Q f p = tt
