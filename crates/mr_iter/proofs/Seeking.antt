-- A search by a cursor: x is the cursor at the start, y the one now, z the one after the next call.
use Rattle.std.proofs.Common.{◌≡◌, ◌&&◌, ℕ, Bool, true, false, cond, not, nat_lt, List, [], ◌∷◌, Option, Some, None, IsTrue, refl, sym, ◌∙◌, ap, subst, inl, inr, arith}
use Rattle.std.specs.List.{AllByRecursion}
use Rattle.std.specs.declared.cmp.Ordering.{Ordering}
use Rattle.std.specs.declared.cmp.Ordering.TheVariants.{Less, Equal, Greater}
use Rattle.std.specs.Ordering.{is_gt, is_lt, ordering_reverse}
use Rattle.std.proofs.lemmas.Cmp.{tied_itself}
use Rattle.std.proofs.lemmas.Bool.{cases_Bool}
use Rattle.mr_base.specs.declared.stop.Direction.{Direction}
use Rattle.mr_base.specs.Disk.{State, Tells, Image, seen}
use Rattle.mr_base.specs.Calls.{Same, Counts, Reads}
use Rattle.mr_base.proofs.Counting.{counts_then, counts_more}
use Rattle.mr_base.proofs.Moments.{same_then}
use Rattle.mr_iter.specs.Walks.{image_same, list_then}
use Rattle.mr_iter.specs.Versions.{Version, key_cmp, version_cmp, IsInOrder, from_key}
use Rattle.mr_iter.specs.Order.{key_total}
use Rattle.mr_iter.specs.Cursors.{CursorState, SameList, CountsStep, IsWithinEnd, left, with_current}
use Rattle.mr_iter.specs.Newest.{is_of, is_at, newest}
use Rattle.mr_iter.proofs.Newer.{key_is}
use Rattle.mr_iter.proofs.Placing.{clash}
use Rattle.mr_iter.proofs.Views.{later_keys}

-- ---- on lists

-- no version in the list comes before the key
abbrev pub Behind : Direction → List ℕ → List Version → Type 0
Behind d key vs = AllByRecursion (λ (w : Version). is_gt (key_cmp d key w.key) ≡ false) vs

turned_low : (a b : Ordering) → b ≡ ordering_reverse a → not (is_lt a) ≡ true → is_gt b ≡ false
turned_low Less b e low = cc
turned_low Equal b e low = rw e refl
turned_low Greater b e low = rw e refl

lt_not_eq : (d : Direction) (key : List ℕ) (v : Version) → is_lt (key_cmp d v.key key) ≡ true → is_of key v ≡ false
lt_not_eq d key v low = elim (cases_Bool (is_of key v)) [
  | inl is ↦
      let e : key_cmp d v.key key ≡ Equal = ap (key_cmp d v.key) (key_is key v is) ∙ tied_itself (key_total d) v.key in
      let f : is_lt (key_cmp d v.key key) ≡ false = ap is_lt e in
      absurd (clash f low)
  | inr no_v ↦ no_v
]

and_false : (a b : Bool) → b ≡ false → (a && b) ≡ false
and_false true b e = e
and_false false b e = refl

module _ (d : Direction) (number : ℕ) (key : List ℕ) where
  newest_from : (vs : List Version) → newest number key vs ≡ newest number key (from_key d key vs)
  newest_from [] = refl
  newest_from (v ∷ vs) = elim (cases_Bool (is_lt (key_cmp d v.key key))) [
    | inl low ↦
        let other = and_false (not (nat_lt number v.sequence)) (is_of key v) (lt_not_eq d key v low) in
        rw low (rw other (newest_from vs))
    | inr high ↦ rw high (ap (λ (o : Option Version). cond (is_at number key v) (Some v) o) (newest_from vs))
  ]

  behind_from : (vs : List Version) → Behind d key (from_key d key vs)
  behind_from [] = tt
  behind_from (v ∷ vs) = elim (cases_Bool (is_lt (key_cmp d v.key key))) [
    | inl low ↦ rw low (behind_from vs)
    | inr high ↦ let up : not (is_lt (key_cmp d v.key key)) ≡ true = ap not high in rw high (turned_low (key_cmp d v.key key) (key_cmp d key v.key) ((key_total d).antisymm key v.key) up, behind_from vs)
  ]

  none_newest : (vs : List Version) → AllByRecursion (λ w. is_of key w ≡ false) vs → newest number key vs ≡ None
  none_newest [] all = refl
  none_newest (v ∷ vs) all = let other = and_false (not (nat_lt number v.sequence)) (is_of key v) all.0 in rw other (none_newest vs all.1)

  -- behind another key nothing is of the key
  pub newest_none : (v : Version) (rest : List Version) → IsInOrder (version_cmp d) (v ∷ rest) → Behind d key (v ∷ rest) → is_of key v ≡ false → newest number key (v ∷ rest) ≡ None
  newest_none v rest ordered behind other = none_newest (v ∷ rest) (other, later_keys d number key v rest behind.0 other ordered.0)

  -- what is left of the list has the newest version of all
  pub record Goes (all rest : List Version) : Type 0 where
    pub so_far : newest number key all ≡ newest number key rest
    pub behind : Behind d key rest

  pub begins : (all rest : List Version) → rest ≡ from_key d key all → Goes all rest
  begins all rest e = subst (Goes all) (sym e) (record { so_far = newest_from all; behind = behind_from all })

  pub passes : (all : List Version) (v : Version) (rest : List Version) → is_at number key v ≡ false → Goes all (v ∷ rest) → Goes all rest
  passes all v rest other goes = record { so_far = goes.so_far ∙ rw other refl; behind = goes.behind.1 }

-- ---- on the calls

module _ {K : Type 0} (f : K → CursorState) (whole steady : K → Image → Type 0) (offends : K → Image → ℕ → ℕ → Type 0) (number : ℕ) (key : List ℕ) where
  pub record Looks (start mid : State) (x y : K) : Type 0 where
    pub list : SameList (f x) (f y)
    pub counts : Counts (f y).reads (f y).asked 0 start mid
    pub same : Tells start → Same start mid
    pub stays : Tells start → whole x (seen start) → whole y (seen start)
    pub offences : (image : Image) (file at : ℕ) → offends y image file at → offends x image file at
    pub sought : IsTrue ((f y).sought key)
    pub stands : Tells start → whole x (seen start) → steady y (seen start)
    pub goes : Tells start → whole x (seen start) → Goes (f x).direction number key ((f x).versions (seen start)) (left (f y) (seen start))

  pub counts_next : (start mid new : State) (y z : K) → Counts (f y).reads (f y).asked 0 start mid → CountsStep (f y) (f z) mid new → Counts (f z).reads (f z).asked 0 start new
  counts_next start mid new y z counts step = counts_more _ _ _ _ _ _ start new (omega (arith, step.reads)) (omega (arith, step.asked)) (omega arith) (counts_then _ _ _ _ _ _ start mid new counts step.disk)

  module _ (start mid new : State) (x y z : K) (looks : Looks start mid x y) where
    told_on : Tells start → Tells mid
    told_on told = subst (λ b. IsTrue b) (sym looks.counts.tells) told

    -- what is said of the image now is said of the one at the start
    pub at_start : (P : Image → Type 0) → (Tells mid → whole y (seen mid) → P (seen mid)) → Tells start → whole x (seen start) → P (seen start)
    at_start P now told is = subst P (image_same start mid (looks.same told)) (now (told_on told) (subst (whole y) (sym (image_same start mid (looks.same told))) (looks.stays told is)))

    stands_next : (Tells mid → whole y (seen mid) → steady y (seen mid) → steady z (seen mid)) → Tells start → whole x (seen start) → steady z (seen start)
    stands_next next told is = at_start (steady z) (λ now there. next now there (subst (steady y) (sym (image_same start mid (looks.same told))) (looks.stands told is))) told is

    pub same_next : (Tells mid → Same mid new) → Tells start → Same start new
    same_next next told = same_then start mid new (looks.same told) (next (told_on told))

    pub looks_next : (v : Version) → (f y).current ≡ Some v → is_at number key v ≡ false → SameList (f y) (f z) → CountsStep (f y) (f z) mid new → (Tells mid → Same mid new) → (Tells mid → whole y (seen mid) → whole z (seen mid)) →
        ((image : Image) (file at : ℕ) → offends z image file at → offends y image file at) → (Tells mid → whole y (seen mid) → left (f z) (seen mid) ≡ (f y).rest (seen mid)) →
        ((k : List ℕ) → IsTrue ((f y).sought k) → IsTrue ((f z).sought k)) → (Tells mid → whole y (seen mid) → steady y (seen mid) → steady z (seen mid)) → Looks start new x z
    looks_next v current other list step same stays so moved sought stands = record {
      list = list_then (f x) (f y) (f z) looks.list list;
      counts = counts_next start mid new y z looks.counts step;
      same = same_next same;
      stays = at_start (whole z) stays;
      offences = λ image file at here. looks.offences image file at (so image file at here);
      sought = sought key looks.sought;
      stands = stands_next stands;
      goes = λ told is.
          let old = subst (λ (o : Option Version). Goes (f x).direction number key ((f x).versions (seen start)) (with_current o ((f y).rest (seen start)))) current (looks.goes told is) in
          let e = at_start (λ image. left (f z) image ≡ (f y).rest image) moved told is in
          subst (λ (rest : List Version). Goes (f x).direction number key ((f x).versions (seen start)) rest) (sym e) (passes (f x).direction number key ((f x).versions (seen start)) v ((f y).rest (seen start)) other old);
    }

    -- it stands on the one
    pub found_here : (v : Version) → (f y).current ≡ Some v → is_at number key v ≡ true → Tells start → whole x (seen start) → newest number key ((f x).versions (seen start)) ≡ Some v
    found_here v current at told is =
        (looks.goes told is).so_far ∙ ap (λ (o : Option Version). newest number key (with_current o ((f y).rest (seen start)))) current ∙ rw at refl

    -- it is at the end
    pub found_none : (f y).current ≡ None → Tells start → whole x (seen start) → newest number key ((f x).versions (seen start)) ≡ None
    found_none current told is = (looks.goes told is).so_far ∙ ap (λ (o : Option Version). newest number key (with_current o ((f y).rest (seen start)))) current

    -- or behind the key
    pub found_past : ((c : K) (image : Image) → whole c image → IsInOrder (version_cmp (f c).direction) (left (f c) image) × IsInOrder (version_cmp (f c).direction) ((f c).versions image)) →
        (v : Version) → (f y).current ≡ Some v → is_of key v ≡ false → Tells start → whole x (seen start) → newest number key ((f x).versions (seen start)) ≡ None
    found_past law v current other told is =
        let goes = subst (λ (o : Option Version). Goes (f x).direction number key ((f x).versions (seen start)) (with_current o ((f y).rest (seen start)))) current (looks.goes told is) in
        let ordered = subst (λ (d : Direction). IsInOrder (version_cmp d) (left (f y) (seen start))) looks.list.direction (law y (seen start) (looks.stays told is)).0 in
        let in_turn = subst (λ (o : Option Version). IsInOrder (version_cmp (f x).direction) (with_current o ((f y).rest (seen start)))) current ordered in
        goes.so_far ∙ newest_none (f x).direction number key v ((f y).rest (seen start)) in_turn goes.behind other

    -- after a step that failed
    pub looks_spent : SameList (f y) (f z) → CountsStep (f y) (f z) mid new → (Tells mid → whole y (seen mid) → steady y (seen mid) → IsTrue ((f y).distinct (seen mid)) → IsTrue ((f y).sought key) → IsWithinEnd (f z) (seen mid) key) →
        Tells start → whole x (seen start) → IsTrue ((f x).distinct (seen start)) → Reads ((f x).reads_to (seen start) key None) ((f x).asked_to (seen start) key None) start new
    looks_spent list step spent told is one =
        let same_start = image_same start mid (looks.same told) in
        let one_y : IsTrue ((f y).distinct (seen start)) = subst (λ (b : Bool). IsTrue b) (sym (looks.list.distinct (seen start))) one in
        let end : IsWithinEnd (f z) (seen start) key = at_start (λ image. IsWithinEnd (f z) image key) (λ now there. spent now there (subst (steady y) (sym same_start) (looks.stands told is)) (subst (λ (image : Image). IsTrue ((f y).distinct image)) (sym same_start) one_y) looks.sought) told is in
        let all = list_then (f x) (f y) (f z) looks.list list in
        let counts = counts_next start mid new y z looks.counts step in
        record { reads = omega (arith, end.reads, all.reads_to (seen start) key None, counts.reads.1); asked = omega (arith, end.asked, all.asked_to (seen start) key None, counts.asked.1) }

  pub looks_begin : (start new : State) (x z : K) → SameList (f x) (f z) → Counts (f z).reads (f z).asked 0 start new → (Tells start → Same start new) → (Tells start → whole x (seen start) → whole z (seen start)) →
      ((image : Image) (file at : ℕ) → offends z image file at → offends x image file at) → (Tells start → whole x (seen start) → left (f z) (seen start) ≡ from_key (f x).direction key ((f x).versions (seen start))) → IsTrue ((f z).sought key) → (Tells start → whole x (seen start) → steady z (seen start)) → Looks start new x z
  looks_begin start new x z list counts same stays so found sought stands = record {
    list = list;
    counts = counts;
    same = same;
    stays = stays;
    offences = so;
    sought = sought;
    stands = stands;
    goes = λ told is. begins (f x).direction number key ((f x).versions (seen start)) (left (f z) (seen start)) (found told is);
  }

pub both_at : (number : ℕ) (key : List ℕ) (v : Version) → not (nat_lt number v.sequence) ≡ true → is_of key v ≡ true → is_at number key v ≡ true
both_at number key v upto of_key = rw upto of_key

pub not_at : (number : ℕ) (key : List ℕ) (v : Version) → not (nat_lt number v.sequence) ≡ false → is_at number key v ≡ false
not_at number key v past = rw past refl
