-- One step as a walk, and a walk up to a key.
use Rattle.std.proofs.Common.{◌≡◌, ℕ, Bool, true, false, List, [], ◌∷◌, Option, Some, None, is_some, is_none, IfSome, IsTrue, Result, Ok, Err, OnOk, OnErr, refl, sym, ◌∙◌, ap, subst, inl, inr}
use Rattle.std.specs.Ordering.{is_lt}
use Rattle.mr_base.specs.Disk.{State, Tells, Image, seen}
use Rattle.mr_base.specs.Calls.{Same}
use Rattle.mr_base.specs.declared.stop.Stop.{Stop}
use Rattle.mr_base.specs.declared.stop.Direction.{Direction}
use Rattle.mr_iter.specs.Versions.{Version, version_cmp, key_cmp, IsInOrder, from_key}
use Rattle.mr_iter.specs.Places.{all_kept}
use Rattle.mr_iter.specs.Cursors.{CursorState, SameList, CountsStep, IsWithinEnd, left, with_current}
use Rattle.mr_iter.specs.Walks.{Walk, Within, Passed, image_same, walk_start, walk_then}

-- the version that it stands on
pub standing : (o : Option Version) → is_some o ≡ true → (v : Version) × (o ≡ Some v)
standing None is = cc
standing (Some v) is = (v, refl)

pub in_some : (P : Version → Type 0) (o : Option Version) (v : Version) → o ≡ Some v → IfSome o P → P v
in_some P o v e h = subst (λ (p : Option Version). IfSome p P) e h

pub passes_here : (p : Version → Bool) (o : Option Version) (v : Version) → o ≡ Some v → p v ≡ true → IfSome o (λ w. IsTrue (p w))
passes_here p o v at is = subst (λ (q : Option Version). IfSome q (λ w. IsTrue (p w))) (sym at) is

live : (o : Option Version) (b : Bool) → b ≡ is_none o → b ≡ false → is_some o ≡ true
live None b e is = cc
live (Some v) b e is = refl

pub stands_on : (o : Option Version) (b : Bool) → b ≡ is_none o → b ≡ false → (v : Version) × (o ≡ Some v)
stands_on o b e is = standing o (live o b e is)

no_version : (o : Option Version) → o ≡ None → is_some o ≡ true → ⊥
no_version None e is = cc
no_version (Some v) e is = cc

module _ (p : Version → Bool) (o o' : Image → ℕ → ℕ → Type 0) (w w' t t' : Image → Type 0) (c c' : CursorState) (s s' : State) (live : is_some c.current ≡ true) (passing : IfSome c.current (λ v. p v ≡ true))
    (list : SameList c c') (counts : CountsStep c c' s s') (same : Tells s → Same s s') (less : (image : Image) (file at : ℕ) → o' image file at → o image file at) (stays : Tells s → w (seen s) → w' (seen s)) where
  one_passed : (rest now : List Version) → now ≡ rest → Passed p (with_current c.current rest) now
  one_passed rest now is =
      let here = standing c.current live in
      record {
        passed = here.0 ∷ [];
        parts = ap (λ (q : Option Version). with_current q rest) here.1 ∙ ap (λ (vs : List Version). here.0 ∷ vs) (sym is);
        each = (in_some (λ v. p v ≡ true) c.current here.0 here.1 passing, tt);
      }

  walk_on : (Tells s → w (seen s) → left c' (seen s) ≡ c.rest (seen s)) → ((k : List ℕ) → IsTrue (c.sought k) → IsTrue (c'.sought k)) → (Tells s → w (seen s) → t (seen s) → t' (seen s)) → Walk p o o' w w' t t' c c' s s'
  walk_on moved sought steady = record {
    list = list;
    counts = counts;
    same = same;
    offends_less = less;
    stays_whole = stays;
    within = λ k tells is one before. on k tells is before;
    passes = λ tells is stands. (live, one_passed (c.rest (seen s)) (left c' (seen s)) (moved tells is));
  }
    where
      on : (k : List ℕ) → Tells s → w (seen s) → Within k t c (seen s) → Within k t' c' (seen s)
      on k tells is (inl at) = inl (steady tells is at.0, sought k at.1)
      on k tells is (inr over) = absurd (no_version c.current over.0 live)

  walk_over : c'.current ≡ None → ((k : List ℕ) → Tells s → w (seen s) → t (seen s) → IsTrue (c.distinct (seen s)) → IsTrue (c.sought k) → IsWithinEnd c' (seen s) k) → Walk p o o' w w' t t' c c' s s'
  walk_over end spent = record {
    list = list;
    counts = counts;
    same = same;
    offends_less = less;
    stays_whole = stays;
    within = λ k tells is one before. on k tells is one before;
    passes = λ tells is stands. absurd (no_version c'.current end stands);
  }
    where
      on : (k : List ℕ) → Tells s → w (seen s) → IsTrue (c.distinct (seen s)) → Within k t c (seen s) → Within k t' c' (seen s)
      on k tells is one (inl at) = inr (end, spent k tells is at.0 one at.1)
      on k tells is one (inr over) = absurd (no_version c.current over.0 live)

  pub walk_next : {X : Type 0} (r : Result X Stop) → OnErr r (c'.current ≡ None) → (Tells s → w (seen s) → OnOk r (left c' (seen s) ≡ c.rest (seen s))) → ((k : List ℕ) → IsTrue (c.sought k) → OnOk r (IsTrue (c'.sought k))) → (Tells s → w (seen s) → t (seen s) → OnOk r (t' (seen s))) →
      ((k : List ℕ) → Tells s → w (seen s) → t (seen s) → IsTrue (c.distinct (seen s)) → IsTrue (c.sought k) → OnErr r (IsWithinEnd c' (seen s) k)) → Walk p o o' w w' t t' c c' s s'
  walk_next (Ok x) end moved sought steady spent = walk_on moved sought steady
  walk_next (Err e) end moved sought steady spent = walk_over end spent

-- ---- up to a key

module _ (d : Direction) (key : List ℕ) where
  abbrev pub comes_before : Version → Bool
  comes_before v = is_lt (key_cmp d v.key key)

  -- what a walk did so far, and what is behind the key still is among what is left
  pub record Goes (o o' : Image → ℕ → ℕ → Type 0) (w w' t t' : Image → Type 0) (c c' : CursorState) (s s' : State) : Type 0 where
    pub walk : Walk comes_before o o' w w' t t' c c' s s'
    pub rest : Tells s → w (seen s) → from_key d key (left c (seen s)) ≡ from_key d key (left c' (seen s))

  pub goes_start : (o : Image → ℕ → ℕ → Type 0) (w t : Image → Type 0) (c : CursorState) (s : State) → Goes o o w w t t c c s s
  goes_start o w t c s = record { walk = walk_start comes_before o w t c s; rest = λ tells is. refl }

  -- where it stands on a version that isn't before the key, all that is left isn't
  pub kept_here : (vs : List Version) (v : Version) (rest : List Version) → vs ≡ v ∷ rest → IsInOrder (version_cmp d) vs → comes_before v ≡ false → from_key d key vs ≡ vs
  kept_here [] v rest is all no_v = refl
  kept_here (x ∷ xs) v rest is all no_v =
      let e : x ≡ v = cc in
      let no_x : comes_before x ≡ false = ap comes_before e ∙ no_v in
      rw no_x (ap (λ (us : List Version). x ∷ us) (all_kept d key x xs no_x all.0))

  dropped : (v : Version) (rest : List Version) → comes_before v ≡ true → from_key d key (v ∷ rest) ≡ from_key d key rest
  dropped v rest is = rw is refl

  module _ (o1 o2 o3 : Image → ℕ → ℕ → Type 0) (w1 w2 w3 t1 t2 t3 : Image → Type 0) (a b c : CursorState) (s t u : State) where
    pub goes_next : Goes o1 o2 w1 w2 t1 t2 a b s t → (v : Version) → b.current ≡ Some v → comes_before v ≡ true → Walk comes_before o2 o3 w2 w3 t2 t3 b c t u → (Tells t → w2 (seen t) → left c (seen t) ≡ b.rest (seen t)) → Goes o1 o3 w1 w3 t1 t3 a c s u
    goes_next so_far v at is next moved = record {
      walk = walk_then comes_before o1 o2 o3 w1 w2 w3 t1 t2 t3 a b c s t u so_far.walk next;
      rest = λ tells whole.
          let e : seen t ≡ seen s = image_same s t (so_far.walk.same tells) in
          let on : Tells t = subst (λ (x : Bool). IsTrue x) (sym so_far.walk.counts.disk.tells) tells in
          let there : w2 (seen t) = subst w2 (sym e) (so_far.walk.stays_whole tells whole) in
          let m : left c (seen s) ≡ b.rest (seen s) = subst (λ (image : Image). left c image ≡ b.rest image) e (moved on there) in
          so_far.rest tells whole ∙ ap (λ (q : Option Version). from_key d key (with_current q (b.rest (seen s)))) at ∙ dropped v (b.rest (seen s)) is ∙ ap (from_key d key) (sym m);
    }

    pub goes_over : Goes o1 o2 w1 w2 t1 t2 a b s t → Walk comes_before o2 o3 w2 w3 t2 t3 b c t u → Walk comes_before o1 o3 w1 w3 t1 t3 a c s u
    goes_over so_far next = walk_then comes_before o1 o2 o3 w1 w2 w3 t1 t2 t3 a b c s t u so_far.walk next

    -- where it stands on a version that isn't before the key
    pub goes_here : Goes o1 o2 w1 w2 t1 t2 a b s t → d ≡ a.direction → (w2 (seen s) → IsInOrder (version_cmp b.direction) (left b (seen s))) → (v : Version) → b.current ≡ Some v → comes_before v ≡ false → Tells s → w1 (seen s) → left b (seen s) ≡ from_key d key (left a (seen s))
    goes_here so_far same law v at no_v tells whole =
        let turn : b.direction ≡ d = so_far.walk.list.direction ∙ sym same in
        let order : IsInOrder (version_cmp d) (left b (seen s)) = subst (λ (e : Direction). IsInOrder (version_cmp e) (left b (seen s))) turn (law (so_far.walk.stays_whole tells whole)) in
        sym (so_far.rest tells whole ∙ kept_here (left b (seen s)) v (b.rest (seen s)) (ap (λ (q : Option Version). with_current q (b.rest (seen s))) at) order no_v)
