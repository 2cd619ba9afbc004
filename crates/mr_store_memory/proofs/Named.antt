-- Families before and after their names are learnt, one operation after the other.
use Rattle.std.proofs.Common.{◌≡◌, ◌⊎◌, ◌==◌, ◌&&◌, ℕ, ◌+◌, ◌<◌, ◌≤◌, ◌^◌, Bool, true, false, not, if◌then◌else◌, is_some, List, [], ◌∷◌, ◌++◌, length, get_or, take, drop, Result, Ok, Err, OnOk, OnErr, refl, sym, ◌∙◌, ap, subst, inl, inr, arith}
use Rattle.std.proofs.lemmas.Bool.{cases_Bool}
use Rattle.std.proofs.lemmas.Bool.Decides.{nat_tests}
use Rattle.std.proofs.lemmas.Grind.{common_steps}
use Rattle.std.proofs.lemmas.List.{append-nil, take-append-drop, take_all}
use Rattle.mr_base.specs.declared.stop.Direction.{Direction}
use Rattle.mr_iter.specs.Children.{AnyOf}
use Rattle.mr_wal.specs.declared.operation.Operation.{Operation}
use Rattle.mr_family.specs.Family.{FamilyState, direction, versions}
use Rattle.mr_families.specs.declared.numbered.Numbered.{Numbered}
use Rattle.mr_families.specs.Known.{family_at, empty_family, is_empty}
use Rattle.mr_families.specs.Changed.{is_same, Learnt, without_room}
use Rattle.mr_families.specs.Batches.{is_on}
use Rattle.mr_stored.specs.Names.{family_key, put_direction}
use Rattle.mr_stored.proofs.Naming.{on_key}
use Rattle.mr_store_memory.specs.Held.{turned_by, turned}
use Rattle.mr_store_memory.specs.Readied.{IsRelearnt, Readied, AreTurnedBy}
use Rattle.mr_store_memory.specs.ByName.{IsName, IsNoName}
use Rattle.mr_store_memory.proofs.Keys.{same_number}

pub same_of : (m n : ℕ) → (m == n) ≡ true → m ≡ n
same_of m n is = grind (arith, nat_tests)

any_front : {X : Type 0} (P : X → Type 0) (xs ys : List X) → AnyOf P xs → AnyOf P (xs ++ ys)
any_front P [] ys any = absurd any
any_front P (x ∷ xs) ys (inl here) = inl here
any_front P (x ∷ xs) ys (inr any) = inr (any_front P xs ys any)

any_behind : {X : Type 0} (P : X → Type 0) (xs ys : List X) → AnyOf P ys → AnyOf P (xs ++ ys)
any_behind P [] ys any = any
any_behind P (x ∷ xs) ys any = inr (any_behind P xs ys any)

-- ---- one family

-- as it was but for its room, or relearnt
abbrev Case : ℕ → List Operation → FamilyState → FamilyState → Type 0
Case f batch old new = (without_room new ≡ without_room old) ⊎ IsRelearnt f batch old new

empty_by_room : (x y : FamilyState) → without_room y ≡ without_room x → is_empty y ≡ is_empty x
empty_by_room x y same = ap is_empty same

-- an empty family stays so
still_empty : (f : ℕ) (batch : List Operation) (x y : FamilyState) → Case f batch x y → is_empty x ≡ true → is_empty y ≡ true
still_empty f batch x y (inl same) empty = empty_by_room x y same ∙ empty
still_empty f batch x y (inr again) empty = ap is_empty again.now

-- what is empty now was so
was_empty : (f : ℕ) (batch : List Operation) (x y : FamilyState) → Case f batch x y → is_empty y ≡ true → is_empty x ≡ true
was_empty f batch x y (inl same) empty = sym (empty_by_room x y same) ∙ empty
was_empty f batch x y (inr again) empty = again.was_empty

case_then : (f : ℕ) (os ps : List Operation) (x y z : FamilyState) → Case f os x y → Case f ps y z → Case f (os ++ ps) x z
case_then f os ps x y z first (inr again) = inr (record {
  far = again.far;
  told = any_behind (λ (o : Operation). is_on 0 (family_key f) o ≡ true) os ps again.told;
  was_empty = was_empty f os x y first again.was_empty;
  now = again.now;
})
case_then f os ps x y z (inl same) (inl still) = inl (still ∙ same)
case_then f os ps x y z (inr again) (inl still) = inr (record {
  far = again.far;
  told = any_front (λ (o : Operation). is_on 0 (family_key f) o ≡ true) os ps again.told;
  was_empty = again.was_empty;
  now = still ∙ again.now ∙ ap (λ (s : FamilyState). empty_family (direction s)) (sym still);
})

-- ---- one part after the other

pub readied_then : (os ps : List Operation) (a b c : List Numbered) → Readied os a b → Readied ps b c → Readied (os ++ ps) a c
readied_then os ps a b c first second = record {
  each = λ f. case_then f os ps (family_at a f) (family_at b f) (family_at c f) (first.each f) (second.each f);
  versions_are = λ f image. second.versions_are f image ∙ first.versions_are f image;
}

-- where nothing but rooms changes, any batch is ready
pub readied_rooms : (os : List Operation) (a b : List Numbered) → ((f : ℕ) → without_room (family_at b f) ≡ without_room (family_at a f)) → Readied os a b
readied_rooms os a b same = record { each = λ f. inl (same f); versions_are = λ f image. ap (λ (s : FamilyState). versions s image) (same f) }

pub readied_same : (os : List Operation) (a : List Numbered) → Readied os a a
readied_same os a = readied_rooms os a a (λ f. refl)

-- a part behind that changes nothing but rooms
pub readied_kept : (os : List Operation) (a b c : List Numbered) → Readied os a b → ((f : ℕ) → without_room (family_at c f) ≡ without_room (family_at b f)) → Readied os a c
readied_kept os a b c ready same = subst (λ (ps : List Operation). Readied ps a c) (append-nil os) (readied_then os [] a b c ready (readied_rooms [] b c same))

-- a front of the batch
pub readied_front : (os ps : List Operation) (a b : List Numbered) → Readied os a b → Readied (os ++ ps) a b
readied_front os ps a b ready = readied_then os ps a b b ready (readied_same ps b)

turned-append : (f : ℕ) (os ps : List Operation) (d : Direction) → turned f (os ++ ps) d ≡ turned f ps (turned f os d)
turned-append f [] ps d = refl
turned-append f (o ∷ os) ps d = turned-append f os ps (turned_by f o d)

pub turned_then : (os ps : List Operation) (a b c : List Numbered) → Readied os a b → AreTurnedBy os a b → AreTurnedBy ps b c → AreTurnedBy (os ++ ps) a c
turned_then os ps a b c ready first second f far small empty =
    second f far small (still_empty f os (family_at a f) (family_at b f) (ready.each f) empty)
    ∙ ap (turned f ps) (first f far small empty)
    ∙ sym (turned-append f os ps (direction (family_at a f)))

-- where nothing but rooms changes, no direction does
pub turned_kept : {A E : Type 0} (r : Result A E) (os : List Operation) (a b c : List Numbered) → ((f : ℕ) → without_room (family_at c f) ≡ without_room (family_at b f)) → AreTurnedBy os a b → OnOk r (AreTurnedBy os a c)
turned_kept (Ok u) os a b c same by = λ f far small empty. ap direction (same f) ∙ by f far small empty
turned_kept (Err e) os a b c same by = tt

-- ---- one operation

-- one that names no family
pub no_name_turns : (o : Operation) (a : List Numbered) → IsNoName o → AreTurnedBy (o ∷ []) a a
no_name_turns o a none f far small empty = by (is_on 0 (family_key f) o) (is_some o.put) (none f far small)
  where
    by : (on put : Bool) → (on && put) ≡ false → direction (family_at a f) ≡ (if on then (if put then put_direction o.put else direction (family_at a f)) else direction (family_at a f))
    by true true is = cc
    by true false is = refl
    by false put is = refl

module _ (o : Operation) (n : ℕ) (d : Direction) (name : IsName o n d) (a b : List Numbered) (made : Learnt n d a b) where
  own_case : Case n (o ∷ []) (family_at a n) (family_at b n)
  own_case = by (is_empty (family_at a n)) (is_same d (direction (family_at a n))) refl refl
    where
      by : (empty same : Bool) → is_empty (family_at a n) ≡ empty → is_same d (direction (family_at a n)) ≡ same → Case n (o ∷ []) (family_at a n) (family_at b n)
      by true true e s = inl (ap without_room (made.own ∙ ap (λ (t : Bool). if is_empty (family_at a n) && not t then empty_family d else family_at a n) s ∙ ap (λ (t : Bool). if t && false then empty_family d else family_at a n) e))
      by false same e s = inl (ap without_room (made.own ∙ ap (λ (t : Bool). if t && not (is_same d (direction (family_at a n))) then empty_family d else family_at a n) e))
      by true false e s =
          let new : family_at b n ≡ empty_family d = made.own ∙ ap (λ (t : Bool). if is_empty (family_at a n) && not t then empty_family d else family_at a n) s ∙ ap (λ (t : Bool). if t && true then empty_family d else family_at a n) e in
          inr (record { far = name.far; told = inl name.own; was_empty = e; now = subst (λ (s : FamilyState). without_room s ≡ empty_family (direction s)) (sym new) refl })

  pub name_readies : Readied (o ∷ []) a b
  name_readies = record { each = each; versions_are = made.versions_are }
    where
      each : (f : ℕ) → Case f (o ∷ []) (family_at a f) (family_at b f)
      each f = elim (cases_Bool (n == f)) [
        | inl is ↦ subst (λ (k : ℕ). Case k (o ∷ []) (family_at a k) (family_at b k)) (same_of n f is) own_case
        | inr other ↦ inl (ap without_room (made.others f other))
      ]

  -- the record of the one isn't that of another
  not_other : (f : ℕ) → f < 2 ^ 32 → (n == f) ≡ false → is_on 0 (family_key f) o ≡ false
  not_other f small other = elim (cases_Bool (is_on 0 (family_key f) o)) [
    | inr not_on ↦ not_on
    | inl on ↦
        let same : n ≡ f = same_number n f name.small small (sym (on_key n o name.own) ∙ on_key f o on) in
        absurd (grind (arith, nat_tests, other, same))
  ]

  own_direction : is_empty (family_at a n) ≡ true → direction (family_at b n) ≡ turned_by n o (direction (family_at a n))
  own_direction empty =
      let e = direction (family_at a n) in
      made.direction_is
      ∙ ap (λ (t : Bool). if t then d else e) empty
      ∙ sym name.direction_is
      ∙ sym (ap (λ (t : Bool). if t then put_direction o.put else e) name.is_put)
      ∙ sym (ap (λ (t : Bool). if t then (if is_some o.put then put_direction o.put else e) else e) name.own)

  pub name_turns : AreTurnedBy (o ∷ []) a b
  name_turns f far small empty = elim (cases_Bool (n == f)) [
    | inl is ↦
        subst (λ (k : ℕ). is_empty (family_at a k) ≡ true → direction (family_at b k) ≡ turned_by k o (direction (family_at a k))) (same_of n f is) own_direction empty
    | inr other ↦
        let e = direction (family_at a f) in
        ap direction (made.others f other) ∙ sym (ap (λ (t : Bool). if t then (if is_some o.put then put_direction o.put else e) else e) (not_other f small other))
  ]

-- ---- by a call that ends well or changes nothing

pub named_readies : {A E : Type 0} (r : Result A E) (o : Operation) (n : ℕ) (d : Direction) (a b : List Numbered) → IsName o n d → OnOk r (Learnt n d a b) → OnErr r (b ≡ a) → Readied (o ∷ []) a b
named_readies (Ok u) o n d a b name made same = name_readies o n d name a b made
named_readies (Err e) o n d a b name made same = subst (λ (c : List Numbered). Readied (o ∷ []) a c) (sym same) (readied_same (o ∷ []) a)

pub named_turns : {A E : Type 0} (r : Result A E) (o : Operation) (n : ℕ) (d : Direction) (a b : List Numbered) → IsName o n d → OnOk r (Learnt n d a b) → OnOk r (AreTurnedBy (o ∷ []) a b)
named_turns (Ok u) o n d a b name made = name_turns o n d name a b made
named_turns (Err e) o n d a b name made = tt

-- ---- a batch, front by front

pub front_more : (os : List Operation) (i : ℕ) (o : Operation) → i < length os → o ≡ get_or os i o → take (i + 1) os ≡ take i os ++ (o ∷ [])
front_more os i o lt is = grind (arith, common_steps)

pub readied_more : (os : List Operation) (i : ℕ) (o : Operation) (a b c : List Numbered) → i < length os → o ≡ get_or os i o → Readied (take i os) a b → Readied (o ∷ []) b c → Readied (take (i + 1) os) a c
readied_more os i o a b c lt is first next = subst (λ (ps : List Operation). Readied ps a c) (sym (front_more os i o lt is)) (readied_then (take i os) (o ∷ []) a b c first next)

pub turned_more : (os : List Operation) (i : ℕ) (o : Operation) (a b c : List Numbered) → i < length os → o ≡ get_or os i o → Readied (take i os) a b → AreTurnedBy (take i os) a b → AreTurnedBy (o ∷ []) b c → AreTurnedBy (take (i + 1) os) a c
turned_more os i o a b c lt is ready first next = subst (λ (ps : List Operation). AreTurnedBy ps a c) (sym (front_more os i o lt is)) (turned_then (take i os) (o ∷ []) a b c ready first next)

pub readied_all : (os : List Operation) (i : ℕ) (a b : List Numbered) → Readied (take i os) a b → Readied os a b
readied_all os i a b ready = subst (λ (ps : List Operation). Readied ps a b) (take-append-drop i os) (readied_front (take i os) (drop i os) a b ready)

pub turned_all : (os : List Operation) (i : ℕ) (a b : List Numbered) → length os ≤ i → AreTurnedBy (take i os) a b → AreTurnedBy os a b
turned_all os i a b le turned = subst (λ (ps : List Operation). AreTurnedBy ps a b) (take_all i os le) turned

pub readied_early : (os : List Operation) (i : ℕ) (o : Operation) (a b c : List Numbered) → i < length os → o ≡ get_or os i o → Readied (take i os) a b → Readied (o ∷ []) b c → Readied os a c
readied_early os i o a b c lt is first next = readied_all os (i + 1) a c (readied_more os i o a b c lt is first next)
