-- What the versions of a view name, and what family 0 names.
use Rattle.std.proofs.Common.{◌≡◌, ◌||◌, ℕ, ◌≤◌, ◌<◌, ◌^◌, ◌++◌, Bool, true, false, cond, if◌then◌else◌, nat_lt, is_some, unwrap_or, List, [], ◌∷◌, filter, Option, Some, None, IfSome, Result, Ok, Err, IfOk, refl, sym, ◌∙◌, ap, subst, inl, inr, arith}
use Rattle.std.specs.List.{AllByRecursion}
use Rattle.std.proofs.lemmas.Bool.{cases_Bool}
use Rattle.std.proofs.lemmas.Bool.Decides.{nat_tests}
use Rattle.std.proofs.lemmas.Cmp.{nat_list_cmp_total, tied_itself}
use Rattle.std.specs.Cmp.Lexicographic.{slice_cmp}
use Rattle.std.specs.Ordering.{nat_cmp, is_eq}
use Rattle.mr_base.specs.declared.stop.Direction.{Direction}
use Rattle.mr_base.specs.declared.stop.Direction.TheVariants.{Forward}
use Rattle.mr_iter.specs.Versions.{Version, version_cmp, IsInOrder}
use Rattle.mr_iter.specs.Order.{each-append}
use Rattle.mr_iter.specs.Children.{AnyOf}
use Rattle.mr_iter.specs.Newest.{newest, is_of, shown_one}
use Rattle.mr_iter.specs.Snapshots.{at_snapshot}
use Rattle.mr_iter.proofs.Newer.{same_bytes, eq_of}
use Rattle.mr_store_memory.proofs.Keys.{same_number}
use Rattle.mr_stored.specs.Names.{family_key, record_of, is_name, record_direction, put_direction, direction_of_name}
use Rattle.mr_base.specs.Disk.{Image}
use Rattle.mr_iter.specs.Cursors.{CursorState}
use Rattle.mr_family.specs.Family.{FamilyState, versions, direction}
use Rattle.mr_family.specs.Parts.{IsViewAt}
use Rattle.mr_store_names.proofs.Fronts.{family_in_order}
use Rattle.mr_store_names.specs.declared.name.Name.{Name}
use Rattle.mr_store_names.specs.Named.{IsNameIn, AreNames, IsNameOf, IsNoNameOf, Adds, IsListed, Told}

-- ---- one version more

any_front : {X : Type 0} (P : X → Type 0) (xs ys : List X) → AnyOf P xs → AnyOf P (xs ++ ys)
any_front P [] ys any = absurd any
any_front P (x ∷ xs) ys (inl here) = inl here
any_front P (x ∷ xs) ys (inr any) = inr (any_front P xs ys any)

any_behind : {X : Type 0} (P : X → Type 0) (xs ys : List X) → AnyOf P ys → AnyOf P (xs ++ ys)
any_behind P [] ys any = any
any_behind P (x ∷ xs) ys any = inr (any_behind P xs ys any)

each_map : {X : Type 0} (P Q : X → Type 0) (xs : List X) → ((x : X) → P x → Q x) → AllByRecursion P xs → AllByRecursion Q xs
each_map P Q [] f all = tt
each_map P Q (x ∷ xs) f all = (f x all.0, each_map P Q xs f all.1)

abbrev From : List Version → Name → Type 0
From vs n = AnyOf (λ (v : Version). IsNameOf v n) vs

module _ (done : List Version) (v : Version) (old new : List Name) (told : Told done old) where
  told_none : new ≡ old → IsNoNameOf v → Told (done ++ v ∷ []) new
  told_none same none = subst (Told (done ++ v ∷ [])) (sym same) (record {
    each = each_map (From done) (From (done ++ v ∷ [])) old (λ n from. any_front (λ (w : Version). IsNameOf w n) done (v ∷ []) from) told.each;
    listed = each-append (IsListed old) done (v ∷ []) told.listed ((λ f far small is put. absurd (none f far small is put)), tt);
  })

  told_one : (n : Name) → new ≡ old ++ n ∷ [] → IsNameOf v n → Told (done ++ v ∷ []) new
  told_one n more is = subst (Told (done ++ v ∷ [])) (sym more) (record {
    each = each-append (From (done ++ v ∷ [])) old (n ∷ []) (each_map (From done) (From (done ++ v ∷ [])) old (λ m from. any_front (λ (w : Version). IsNameOf w m) done (v ∷ []) from) told.each) (any_behind (λ (w : Version). IsNameOf w n) done (v ∷ []) (inl is), tt);
    listed = each-append (IsListed (old ++ n ∷ [])) done (v ∷ []) (each_map (IsListed old) (IsListed (old ++ n ∷ [])) done (λ w listed f far small key put. any_front (λ (m : Name). m.family ≡ f) old (n ∷ []) (listed f far small key put)) told.listed) (own, tt);
  })
    where
      own : IsListed (old ++ n ∷ []) v
      own f far small key put = any_behind (λ (m : Name). m.family ≡ f) old (n ∷ []) (inl (same_number n.family f is.small small (sym is.is ∙ key)))

  pub told_more : Adds v old new → Told (done ++ v ∷ []) new
  told_more (inl none) = told_none none.0 none.1
  told_more (inr one) = told_one one.0 one.1 one.2

-- ---- the view of family 0

of_key : (key : List ℕ) (v : Version) → v.key ≡ key → is_of key v ≡ true
of_key key v is = subst (λ (k : List ℕ). is_eq (slice_cmp nat_cmp key k) ≡ true) (sym is) (ap is_eq (tied_itself nat_list_cmp_total key))

any_of_key : (key : List ℕ) (n : Name) → family_key n.family ≡ key → (vs : List Version) → From vs n → From (filter (is_of key) vs) n
any_of_key key n e [] any = any
any_of_key key n e (v ∷ vs) (inl own) = let is : is_of key v ≡ true = of_key key v (own.is ∙ e) in rw is (inl own)
any_of_key key n e (v ∷ vs) (inr any) = elim (cases_Bool (is_of key v)) [
  | inl is ↦ rw is (inr (any_of_key key n e vs any))
  | inr other ↦ rw other (any_of_key key n e vs any)
]

-- of what a test keeps there is one with P, and it passes the test
any_kept : (P : Version → Type 0) (q : Version → Bool) (vs : List Version) → AnyOf P (filter q vs) → AnyOf (λ (v : Version). (q v ≡ true) × P v) vs
any_kept P q [] any = any
any_kept P q (v ∷ vs) any = elim (cases_Bool (q v)) [
  | inl is ↦ here is (any_kept P q vs) (subst (λ (b : Bool). AnyOf P (cond b (v ∷ filter q vs) (filter q vs))) is any)
  | inr other ↦ inr (any_kept P q vs (subst (λ (b : Bool). AnyOf P (cond b (v ∷ filter q vs) (filter q vs))) other any))
]
  where
    here : q v ≡ true → (AnyOf P (filter q vs) → AnyOf (λ (w : Version). (q w ≡ true) × P w) vs) → AnyOf P (v ∷ filter q vs) → AnyOf (λ (w : Version). (q w ≡ true) × P w) (v ∷ vs)
    here is later (inl own) = inl (is, own)
    here is later (inr any) = inr (later any)

any_use : {Z : Type 0} (P Q : Version → Type 0) (vs : List Version) → ((v : Version) → P v → Q v → Z) → AnyOf P vs → AllByRecursion Q vs → Z
any_use P Q [] f any all = absurd any
any_use P Q (v ∷ vs) f (inl own) all = f v own all.0
any_use P Q (v ∷ vs) f (inr any) all = any_use P Q vs f any all.1

shown_name : (n : Name) (o : Option Version) → From (shown_one o) n → (is_name o ≡ true) × (n.direction ≡ record_direction o)
shown_name n None any = absurd any
shown_name n (Some w) any = elim (cases_Bool (is_some w.put)) [
  | inl is ↦ here (subst (λ (b : Bool). From (cond b (w ∷ []) []) n) is any)
  | inr none ↦ absurd (subst (λ (b : Bool). From (cond b (w ∷ []) []) n) none any)
]
  where
    here : From (w ∷ []) n → (is_some w.put ≡ true) × (n.direction ≡ put_direction w.put)
    here (inl own) = (own.put, own.direction_is)
    here (inr none) = absurd none

name_shown : (o : Option Version) → is_name o ≡ true → AnyOf (λ (w : Version). is_some w.put ≡ true) (shown_one o)
name_shown None is = cc
name_shown (Some w) is = subst (λ (b : Bool). AnyOf (λ (v : Version). is_some v.put ≡ true) (cond b (w ∷ []) [])) (sym is) (inl is)

not_first : (f : ℕ) → 2 ≤ f → nat_lt f 2 ≡ false
not_first f far = grind (arith, nat_tests)

module _ (system : List Version) (by_key : (key : List ℕ) → filter (is_of key) (at_snapshot (2 ^ 63) system) ≡ shown_one (newest (2 ^ 63) key system)) (names : List Name) (told : Told (at_snapshot (2 ^ 63) system) names) where
  one_named : (n : Name) → 2 ≤ n.family → n.family < 2 ^ 32 → From (at_snapshot (2 ^ 63) system) n → IsNameIn system n
  one_named n far small from =
      let shown = shown_name n (record_of n.family system) (subst (λ (vs : List Version). From vs n) (by_key (family_key n.family)) (any_of_key (family_key n.family) n refl (at_snapshot (2 ^ 63) system) from)) in
      record {
        far = far;
        small = small;
        named = ap (λ (b : Bool). b || is_name (record_of n.family system)) (not_first n.family far) ∙ shown.0;
        direction_is = shown.1 ∙ sym (ap (λ (b : Bool). if b then Forward else record_direction (record_of n.family system)) (not_first n.family far));
      }

  far_of : (n : Name) (vs : List Version) → From vs n → (2 ≤ n.family) × (n.family < 2 ^ 32)
  far_of n [] any = absurd any
  far_of n (v ∷ vs) (inl own) = (own.far, own.small)
  far_of n (v ∷ vs) (inr any) = far_of n vs any

  pub are_names : AreNames system names
  are_names = record {
    all = λ f far small named.
        let is : is_name (record_of f system) ≡ true = sym (ap (λ (b : Bool). b || is_name (record_of f system)) (not_first f far)) ∙ named in
        let put = subst (λ (vs : List Version). AnyOf (λ (w : Version). is_some w.put ≡ true) vs) (sym (by_key (family_key f))) (name_shown (record_of f system) is) in
        any_use (λ (v : Version). (is_of (family_key f) v ≡ true) × (is_some v.put ≡ true)) (IsListed names) (at_snapshot (2 ^ 63) system)
        (λ v own listed. listed f far small (sym (same_bytes (family_key f) v.key (eq_of (slice_cmp nat_cmp (family_key f) v.key) own.0))) own.1)
        (any_kept (λ (v : Version). is_some v.put ≡ true) (is_of (family_key f)) (at_snapshot (2 ^ 63) system) put) told.listed;
    each = each_map (From (at_snapshot (2 ^ 63) system)) (IsNameIn system) names (λ n from. let r = far_of n (at_snapshot (2 ^ 63) system) from in one_named n r.0 r.1 from) told.each;
  }

-- ---- the version that a cursor stands on

pub name_is : (o : Option Version) (key value : List ℕ) (n : Name) (old : List Name) → 2 ≤ n.family → n.family < 2 ^ 32 → key ≡ family_key n.family → n.direction ≡ direction_of_name value →
    IfSome o (λ v. key ≡ v.key) → IfSome o (λ v. value ≡ unwrap_or v.put []) → IfSome o (λ v. true ≡ is_some v.put) → IfSome o (λ v. IsNameOf v n)
name_is None key value n old far small is direction key_is value_is put_is = tt
name_is (Some v) key value n old far small is direction key_is value_is put_is = record {
  far = far;
  small = small;
  is = sym key_is ∙ is;
  put = sym put_is;
  direction_is = direction ∙ by v.put value_is put_is;
}
  where
    by : (put : Option (List ℕ)) → value ≡ unwrap_or put [] → true ≡ is_some put → direction_of_name value ≡ put_direction put
    by None e is = cc
    by (Some name) e is = ap direction_of_name e

-- ---- by a cursor over what stands in it

abbrev HasNewest : Type 0
HasNewest = (d : Direction) (number : ℕ) (key : List ℕ) (vs : List Version) → IsInOrder (version_cmp d) vs → filter (is_of key) (at_snapshot number vs) ≡ shown_one (newest number key vs)

pub names_by_view : HasNewest → (f : FamilyState) (image : Image) (s : CursorState) → IsViewAt (2 ^ 63) f s → (names : List Name) → Told (s.versions image) names → AreNames (versions f image) names
names_by_view law f image s view names told = are_names (versions f image) (λ key. law (direction f) (2 ^ 63) key (versions f image) (family_in_order f image)) names (subst (λ (vs : List Version). Told vs names) (view.versions_are image) told)

pub named_ok : {X E : Type 0} (r : Result X E) (items : X → List Name) → HasNewest → (f : FamilyState) (image : Image) (s : CursorState) → IsViewAt (2 ^ 63) f s → IfOk r (λ x. Told (s.versions image) (items x)) → IfOk r (λ x. AreNames (versions f image) (items x))
named_ok (Ok x) items law f image s view told = names_by_view law f image s view (items x) told
named_ok (Err e) items law f image s view told = tt
