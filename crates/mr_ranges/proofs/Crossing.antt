-- What two lists of ranges have in common, range by range.
use Rattle.std.proofs.Common.{◌≡◌, ℕ, Bool, true, false, List, [], ◌∷◌, ◌++◌, Option, Some, None, refl, sym, ap, subst, ◌∙◌, append_assoc, append-nil, length, arith}
use Rattle.std.specs.Prelude.{not, ◌&&◌, ◌||◌, if◌then◌else◌}
use Rattle.std.proofs.lemmas.List.Folds.{list_any-append}
use Rattle.mr_ranges.specs.declared.range.Range.{Range}
use Rattle.mr_ranges.specs.Ranges.{precedes, is_from, is_under, is_in, in_some, is_behind, AreBehind, AreApart, between, later, ends_first, sooner, common}
use Rattle.mr_ranges.proofs.Order.{not_both, itself, turned, turned_back, under_behind, behind_from}
use Rattle.mr_ranges.proofs.Common.{right_of, in_common, not_behind, behind_first, behind_apart, AreFrom, from_apart}

-- ranges that may still follow, where these are left of both lists
abbrev pub FromBoth : List Range → List Range → List Range → Type 0
FromBoth [] ys rest = rest ≡ []
FromBoth (x ∷ xs) [] rest = rest ≡ []
FromBoth (x ∷ xs) (y ∷ ys) rest = AreFrom x.low rest × AreFrom y.low rest

-- what is found so far, where these are left
pub record IsMet (first second left right out : List Range) : Type 0 where
  pub apart_left : AreApart left
  pub apart_right : AreApart right
  pub order : (rest : List Range) → FromBoth left right rest → AreApart (out ++ rest)
  pub both : (key : List ℕ) → (in_some key out || (in_some key left && in_some key right)) ≡ (in_some key first && in_some key second)

nothing : (end : Option (List ℕ)) (rest : List Range) → rest ≡ [] → AreBehind end rest
nothing end rest e = subst (λ (l : List Range). AreBehind end l) (sym e) tt

nothing_from : (low : List ℕ) (rest : List Range) → rest ≡ [] → AreFrom low rest
nothing_from low rest e = subst (AreFrom low) (sym e) tt

start_order : (left right rest : List Range) → FromBoth left right rest → AreApart rest
start_order [] ys rest h = subst AreApart (sym h) tt
start_order (x ∷ xs) [] rest h = subst AreApart (sym h) tt
start_order (x ∷ xs) (y ∷ ys) rest h = from_apart x.low rest h.0

pub met_start : (first second : List Range) → AreApart first → AreApart second → IsMet first second first second []
met_start first second p q = record {
  apart_left = p;
  apart_right = q;
  order = start_order first second;
  both = λ key. refl;
}

later_left : (a b : List ℕ) → is_from a (later a b) ≡ true
later_left a b = by (precedes a b) refl
  where
    by : (t : Bool) → precedes a b ≡ t → is_from a (if t then b else a) ≡ true
    by true e = turned_back (precedes b a) (not_both a b e)
    by false e = turned_back (precedes a a) (itself a)

later_right : (a b : List ℕ) → is_from b (later a b) ≡ true
later_right a b = by (precedes a b) refl
  where
    by : (t : Bool) → precedes a b ≡ t → is_from b (if t then b else a) ≡ true
    by true e = turned_back (precedes b b) (itself b)
    by false e = turned_back (precedes a b) e

pub behind_low : (end : Option (List ℕ)) (low : List ℕ) (rest : List Range) → is_behind end low ≡ true → AreFrom low rest → AreBehind end rest
behind_low end low [] h r = tt
behind_low end low (range ∷ rest) h r = (behind_from end low range.low h (turned (precedes range.low low) r.0), r.1, r.2)

low_behind : (end : Option (List ℕ)) (low : List ℕ) (rest : List Range) → is_under end low ≡ true → AreBehind end rest → AreFrom low rest
low_behind end low [] h r = tt
low_behind end low (range ∷ rest) h r = (turned_back (precedes range.low low) (not_both low range.low (under_behind end range.low low r.0 h)), r.1, r.2)

pub pushed : (low lo : List ℕ) (hi : Option (List ℕ)) (rest : List Range) → is_from low lo ≡ true → AreFrom low rest → AreBehind hi rest → AreFrom low (between lo hi ++ rest)
pushed low lo hi rest h r s = by (is_under hi lo) refl
  where
    by : (t : Bool) → is_under hi lo ≡ t → AreFrom low ((if t then record { low = lo; high = hi } ∷ [] else []) ++ rest)
    by true e = (h, e, s)
    by false e = r

sooner_first : (a b : Option (List ℕ)) → ends_first a b ≡ true → a ≡ sooner a b
sooner_first a b h = sym (ap (λ (t : Bool). if t then a else b) h)

sooner_second : (a b : Option (List ℕ)) → ends_first a b ≡ false → b ≡ sooner a b
sooner_second a b h = sym (ap (λ (t : Bool). if t then a else b) h)

-- ---- the order of what follows

behind_left : (x y : Range) (xs ys rest : List Range) → AreApart (x ∷ xs) → FromBoth xs (y ∷ ys) rest → AreBehind x.high rest × AreFrom y.low rest
behind_left x y [] ys rest p h = (nothing x.high rest h, nothing_from y.low rest h)
behind_left x y (z ∷ xs) ys rest p h = (behind_low x.high z.low rest p.1.0 h.0, h.1)

behind_right : (x y : Range) (xs ys rest : List Range) → AreApart (y ∷ ys) → FromBoth (x ∷ xs) ys rest → AreBehind y.high rest × AreFrom x.low rest
behind_right x y xs [] rest p h = (nothing y.high rest h, nothing_from x.low rest h)
behind_right x y xs (z ∷ ys) rest p h = (behind_low y.high z.low rest p.1.0 h.1, h.0)

follow : (x y : Range) (xs ys rest : List Range) → AreFrom x.low rest → AreFrom y.low rest → AreBehind (sooner x.high y.high) rest → FromBoth (x ∷ xs) (y ∷ ys) (common x y ++ rest)
follow x y xs ys rest p q r =
    (pushed x.low (later x.low y.low) (sooner x.high y.high) rest (later_left x.low y.low) p r, pushed y.low (later x.low y.low) (sooner x.high y.high) rest (later_right x.low y.low) q r)

order_left : (x y : Range) (xs ys rest : List Range) → AreApart (x ∷ xs) → ends_first x.high y.high ≡ true → FromBoth xs (y ∷ ys) rest → FromBoth (x ∷ xs) (y ∷ ys) (common x y ++ rest)
order_left x y xs ys rest p e h =
    let b = behind_left x y xs ys rest p h in
    follow x y xs ys rest (low_behind x.high x.low rest p.0 b.0) b.1 (subst (λ (end : Option (List ℕ)). AreBehind end rest) (sooner_first x.high y.high e) b.0)

order_right : (x y : Range) (xs ys rest : List Range) → AreApart (y ∷ ys) → ends_first x.high y.high ≡ false → FromBoth (x ∷ xs) ys rest → FromBoth (x ∷ xs) (y ∷ ys) (common x y ++ rest)
order_right x y xs ys rest p e h =
    let b = behind_right x y xs ys rest p h in
    follow x y xs ys rest b.1 (low_behind y.high y.low rest p.0 b.0) (subst (λ (end : Option (List ℕ)). AreBehind end rest) (sooner_second x.high y.high e) b.0)

-- ---- the keys

keys_left : (o a p b q : Bool) → (a ≡ true → p ≡ false) → (a ≡ true → q ≡ false) → ((o || (a && b)) || (p && (b || q))) ≡ (o || ((a || p) && (b || q)))
keys_left true a p b q h k = refl
keys_left false true p true q h k = refl
keys_left false true p false q h k = ap (λ (t : Bool). t && q) (h refl) ∙ sym (k refl)
keys_left false false p b q h k = refl

keys_right : (o a p b q : Bool) → (b ≡ true → p ≡ false) → (b ≡ true → q ≡ false) → ((o || (a && b)) || ((a || p) && q)) ≡ (o || ((a || p) && (b || q)))
keys_right true a p b q h k = refl
keys_right false true p true q h k = refl
keys_right false false p true q h k = ap (λ (t : Bool). t && q) (h refl) ∙ ap (λ (t : Bool). t && true) (sym (h refl))
keys_right false true p false q h k = refl
keys_right false false p false q h k = refl

below_high : (x : Range) (key : List ℕ) → is_in key x ≡ true → is_under x.high key ≡ true
below_high x key h = right_of (is_from x.low key) (is_under x.high key) h

both_left : (x y : Range) (xs ys out : List Range) (key : List ℕ) → AreApart (x ∷ xs) → AreApart (y ∷ ys) → ends_first x.high y.high ≡ true
    → (in_some key (out ++ common x y) || (in_some key xs && in_some key (y ∷ ys))) ≡ (in_some key out || (in_some key (x ∷ xs) && in_some key (y ∷ ys)))
both_left x y xs ys out key p q e =
    ap (λ (b : Bool). b || (in_some key xs && in_some key (y ∷ ys))) (list_any-append (is_in key) out (common x y) ∙ ap (λ (b : Bool). in_some key out || b) (in_common x y key))
    ∙ keys_left (in_some key out) (is_in key x) (in_some key xs) (is_in key y) (in_some key ys)
    (λ h. not_behind x.high xs key p.1 (below_high x key h))
    (λ h. not_behind x.high ys key (behind_first x.high y.high ys e q.1) (below_high x key h))

flipped : (a b : Option (List ℕ)) → ends_first a b ≡ false → ends_first b a ≡ true
flipped a None h = cc
flipped None (Some b) h = refl
flipped (Some a) (Some b) h = turned_back (precedes a b) (not_both b a (was (precedes b a) h))
  where
    was : (t : Bool) → not t ≡ false → t ≡ true
    was true e = refl
    was false e = cc

both_right : (x y : Range) (xs ys out : List Range) (key : List ℕ) → AreApart (x ∷ xs) → AreApart (y ∷ ys) → ends_first x.high y.high ≡ false
    → (in_some key (out ++ common x y) || (in_some key (x ∷ xs) && in_some key ys)) ≡ (in_some key out || (in_some key (x ∷ xs) && in_some key (y ∷ ys)))
both_right x y xs ys out key p q e =
    ap (λ (b : Bool). b || (in_some key (x ∷ xs) && in_some key ys)) (list_any-append (is_in key) out (common x y) ∙ ap (λ (b : Bool). in_some key out || b) (in_common x y key))
    ∙ keys_right (in_some key out) (is_in key x) (in_some key xs) (is_in key y) (in_some key ys)
    (λ h. not_behind y.high xs key (behind_first y.high x.high xs (flipped x.high y.high e) p.1) (below_high y key h))
    (λ h. not_behind y.high ys key q.1 (below_high y key h))

-- ---- a step

pub met_left : (first second left right out more : List Range) (x y : Range) (xs ys : List Range) → IsMet first second left right out → left ≡ x ∷ xs → right ≡ y ∷ ys → ends_first x.high y.high ≡ true → more ≡ out ++ common x y → IsMet first second xs right more
met_left first second left right out more x y xs ys m l r e is =
    let p : AreApart (x ∷ xs) = subst AreApart l m.apart_left in
    let q : AreApart (y ∷ ys) = subst AreApart r m.apart_right in
    let order : (rest : List Range) → FromBoth xs (y ∷ ys) rest → AreApart ((out ++ common x y) ++ rest) = λ rest h. subst AreApart (sym (append_assoc out (common x y) rest)) (m.order (common x y ++ rest) (subst (λ (a : List Range). FromBoth a right (common x y ++ rest)) (sym l) (subst (λ (b : List Range). FromBoth (x ∷ xs) b (common x y ++ rest)) (sym r) (order_left x y xs ys rest p e h)))) in
    let both : (key : List ℕ) → (in_some key (out ++ common x y) || (in_some key xs && in_some key (y ∷ ys))) ≡ (in_some key first && in_some key second) = λ key. both_left x y xs ys out key p q e ∙ ap (λ (a : List Range). in_some key out || (in_some key a && in_some key (y ∷ ys))) (sym l) ∙ ap (λ (b : List Range). in_some key out || (in_some key left && in_some key b)) (sym r) ∙ m.both key in
    let found : IsMet first second xs (y ∷ ys) (out ++ common x y) = record { apart_left = behind_apart x.high xs p.1; apart_right = q; order = order; both = both } in
    subst (λ (b : List Range). IsMet first second xs b more) (sym r) (subst (λ (o : List Range). IsMet first second xs (y ∷ ys) o) (sym is) found)

pub met_right : (first second left right out more : List Range) (x y : Range) (xs ys : List Range) → IsMet first second left right out → left ≡ x ∷ xs → right ≡ y ∷ ys → ends_first x.high y.high ≡ false → more ≡ out ++ common x y → IsMet first second left ys more
met_right first second left right out more x y xs ys m l r e is =
    let p : AreApart (x ∷ xs) = subst AreApart l m.apart_left in
    let q : AreApart (y ∷ ys) = subst AreApart r m.apart_right in
    let order : (rest : List Range) → FromBoth (x ∷ xs) ys rest → AreApart ((out ++ common x y) ++ rest) = λ rest h. subst AreApart (sym (append_assoc out (common x y) rest)) (m.order (common x y ++ rest) (subst (λ (a : List Range). FromBoth a right (common x y ++ rest)) (sym l) (subst (λ (b : List Range). FromBoth (x ∷ xs) b (common x y ++ rest)) (sym r) (order_right x y xs ys rest q e h)))) in
    let both : (key : List ℕ) → (in_some key (out ++ common x y) || (in_some key (x ∷ xs) && in_some key ys)) ≡ (in_some key first && in_some key second) = λ key. both_right x y xs ys out key p q e ∙ ap (λ (a : List Range). in_some key out || (in_some key a && in_some key (y ∷ ys))) (sym l) ∙ ap (λ (b : List Range). in_some key out || (in_some key left && in_some key b)) (sym r) ∙ m.both key in
    let found : IsMet first second (x ∷ xs) ys (out ++ common x y) = record { apart_left = p; apart_right = behind_apart y.high ys q.1; order = order; both = both } in
    subst (λ (a : List Range). IsMet first second a ys more) (sym l) (subst (λ (o : List Range). IsMet first second (x ∷ xs) ys o) (sym is) found)

-- ---- the end

no_more : (left right : List Range) → FromBoth left right []
no_more [] ys = refl
no_more (x ∷ xs) [] = refl
no_more (x ∷ xs) (y ∷ ys) = (tt, tt)

pub met_apart : (first second left right out : List Range) → IsMet first second left right out → AreApart out
met_apart first second left right out m = subst AreApart (append-nil out) (m.order [] (no_more left right))

pub nothing_left : (a b : Bool) → a ≡ false → (a && b) ≡ false
nothing_left a b h = ap (λ (t : Bool). t && b) h

pub nothing_right : (a b : Bool) → b ≡ false → (a && b) ≡ false
nothing_right true b h = h
nothing_right false b h = refl

pub only : (o : Bool) → (o || false) ≡ o
only true = refl
only false = refl

pub met_end : (first second left right out : List Range) → IsMet first second left right out → ((key : List ℕ) → (in_some key left && in_some key right) ≡ false) → (key : List ℕ) → in_some key out ≡ (in_some key first && in_some key second)
met_end first second left right out m none key = sym (only (in_some key out)) ∙ ap (λ (b : Bool). in_some key out || b) (sym (none key)) ∙ m.both key

empty : (ranges : List Range) → length ranges ≡ 0 → ranges ≡ []
empty [] e = refl
empty (x ∷ xs) e = absurd (omega arith)

pub none_left : (left right : List Range) → length left ≡ 0 → (key : List ℕ) → (in_some key left && in_some key right) ≡ false
none_left left right e key = nothing_left (in_some key left) (in_some key right) (ap (in_some key) (empty left e))

pub none_right : (left right : List Range) → length right ≡ 0 → (key : List ℕ) → (in_some key left && in_some key right) ≡ false
none_right left right e key = nothing_right (in_some key left) (in_some key right) (ap (in_some key) (empty right e))
