-- Ranges that are sorted and joined.
use Rattle.std.proofs.Common.{◌≡◌, ℕ, suc, ◌+◌, ◌<◌, Bool, true, false, List, [], ◌∷◌, ◌++◌, Option, Some, None, refl, sym, ap, subst, ◌∙◌, length, arith, append_assoc, append-nil}
use Rattle.std.specs.Prelude.{not, ◌&&◌, ◌||◌, if◌then◌else◌}
use Rattle.std.specs.Fn.{Called}
use Rattle.std.specs.List.Sorted.{IsSortedByClosure, IsSortedBy}
use Rattle.std.specs.Ordering.{is_lt}
use Rattle.std.specs.declared.cmp.Ordering.{Ordering}
use Rattle.std.proofs.lemmas.Cmp.{nat_list_cmp_total}
use Rattle.std.proofs.lemmas.Fn.{always_returns_same}
use Rattle.std.proofs.lemmas.List.Folds.{list_any-append}
use Rattle.std.proofs.lemmas.List.Sorted.{ranks_by}
use denote.Ref.{Bor}
use denote.Param.Members.{Mut}
use lib.ListN.{get_or}
use native.Mathlib.Numerals.{unary_clauses}
use Rattle.mr_pieces.specs.Order.{bytes_cmp}
use Rattle.mr_ranges.specs.declared.range.Range.{Range}
use Rattle.mr_ranges.specs.Ranges.{precedes, is_from, is_under, is_in, in_some, is_behind, AreApart, between, ends_first, reaches, farther, Rising, AreRising}
use Rattle.mr_ranges.proofs.Order.{from_from, itself, turned, turned_back, under_first, under_second}
use Rattle.mr_ranges.proofs.Common.{alike, in_between, AreFrom}
use Rattle.mr_ranges.proofs.Crossing.{pushed, behind_low, only}

-- ---- sorted

abbrev less : Range → Range → Bool
less a b = precedes a.low b.low

rising-from : (x : Range) (xs : List Range) → ((k : ℕ) (d : Range) → k + 1 < length (x ∷ xs) → less (get_or (x ∷ xs) (k + 1) d) (get_or (x ∷ xs) k d) ≡ false) → Rising x.low xs
rising-from x [] h = tt
rising-from x (y ∷ ys) h = (turned_back (precedes y.low x.low) (h 0 x (omega arith)), rising-from y ys (λ k d p. simp unary_clauses (simp unary_clauses at (h (suc k) d (omega arith)))))

are-rising : (xs : List Range) → IsSortedBy less xs → AreRising xs
are-rising [] h = tt
are-rising (x ∷ xs) h = rising-from x xs (λ k d p. h k d (omega arith) p)

pub sorted-rising : {F : Type 0} {g : Mut F (Bor Range × (Bor Range × Unit {0})) Ordering} {f : F} (xs : List Range) → IsSortedByClosure g f xs
    → ((a : Bor Range × (Bor Range × Unit {0})) (r : Ordering) (f' : F) → Called g f a r f' → (r ≡ bytes_cmp a.0.now.low a.1.0.now.low) × (f' ≡ f)) → AreRising xs
sorted-rising {g = g} {f = f} xs up h =
    let answers = always_returns_same g (λ a r. is_lt r ≡ less a.0.now a.1.0.now) f (λ a r f' k. (ap is_lt (h a r f' k).0, (h a r f' k).1)) in
    are-rising xs (up less (ranks_by nat_list_cmp_total (λ (r : Range). r.low)) answers)

-- ---- moved

or-more : (a b c : Bool) → ((a || b) || c) ≡ (a || (b || c))
or-more true b c = refl
or-more false b c = refl

or-turned : (a b : Bool) → (a || b) ≡ (b || a)
or-turned true true = refl
or-turned true false = refl
or-turned false true = refl
or-turned false false = refl

-- one range less on the one side and one more on the other
pub one-moved : (key : List ℕ) (out left more : List Range) (range : Range) (all : Bool) → left ≡ more ++ range ∷ [] → (in_some key out || in_some key left) ≡ all → (in_some key (out ++ range ∷ []) || in_some key more) ≡ all
one-moved key out left more range all e h =
    ap (λ (b : Bool). b || in_some key more) (list_any-append (is_in key) out (range ∷ []))
    ∙ or-more (in_some key out) (in_some key (range ∷ [])) (in_some key more)
    ∙ ap (λ (b : Bool). in_some key out || b) (or-turned (in_some key (range ∷ [])) (in_some key more) ∙ sym (list_any-append (is_in key) more (range ∷ [])) ∙ ap (in_some key) (sym e))
    ∙ h

pub all-moved : (key : List ℕ) (out left : List Range) (all : Bool) → left ≡ [] → (in_some key out || in_some key left) ≡ all → in_some key out ≡ all
all-moved key out left all e h = sym (only (in_some key out)) ∙ ap (λ (l : List Range). in_some key out || in_some key l) (sym e) ∙ h

-- ---- joined

pub record IsJoined (all left out : List Range) (low : List ℕ) (high : Option (List ℕ)) : Type 0 where
  pub rising : Rising low left
  pub order : (rest : List Range) → AreFrom low rest → AreApart (out ++ rest)
  pub same : (key : List ℕ) → (in_some key out || ((is_from low key && is_under high key) || in_some key left)) ≡ in_some key all

apart-behind : (low : List ℕ) (rest : List Range) → AreFrom low rest → AreApart rest
apart-behind low [] h = tt
apart-behind low (range ∷ rest) h = (h.1, h.2)

pub joined-start : (all others : List Range) (first : Range) → AreRising all → all ≡ first ∷ others → IsJoined all others [] first.low first.high
joined-start all others first h e = record {
  rising = subst AreRising e h;
  order = apart-behind first.low;
  same = λ key. ap (in_some key) (sym e);
}

rising-more : (low : List ℕ) (x : Range) (xs : List Range) → is_from low x.low ≡ true → Rising x.low xs → Rising low xs
rising-more low x [] h r = tt
rising-more low x (y ∷ ys) h r = (turned_back (precedes y.low low) (from_from low x.low y.low (turned (precedes x.low low) h) (turned (precedes y.low x.low) r.0)), r.1)

-- a key below the farther end is below one of the two
under_farther : (a b : Option (List ℕ)) (key : List ℕ) → is_under (farther a b) key ≡ (is_under a key || is_under b key)
under_farther a b key = by (ends_first a b) refl
  where
    either-right : (s t : Bool) → t ≡ true → (s || t) ≡ true
    either-right true t h = refl
    either-right false t h = h

    either-left : (s t : Bool) → s ≡ true → (s || t) ≡ true
    either-left true t h = refl
    either-left false t h = cc

    out-of : (s t u : Bool) → (s ≡ true → u ≡ true) → (t ≡ true → u ≡ true) → (s || t) ≡ true → u ≡ true
    out-of true t u h k e = h refl
    out-of false t u h k e = k e

    by : (t : Bool) → ends_first a b ≡ t → is_under (if t then b else a) key ≡ (is_under a key || is_under b key)
    by true e = alike (is_under b key) (is_under a key || is_under b key) (either-right (is_under a key) (is_under b key)) (out-of (is_under a key) (is_under b key) (is_under b key) (under_first a b key e) (λ h. h))
    by false e = alike (is_under a key) (is_under a key || is_under b key) (either-left (is_under a key) (is_under b key)) (out-of (is_under a key) (is_under b key) (is_under a key) (λ h. h) (under_second a b key e))

-- from the lesser low on, below the farther end: where the first end reaches the second low
merged : (l h m k p : Bool) → (m ≡ true → l ≡ true) → (h ≡ false → m ≡ true) → ((l && (h || k)) || p) ≡ ((l && h) || ((m && k) || p))
merged true true m k p f g = refl
merged true false true k p f g = refl
merged true false false k p f g = let e : false ≡ true = g refl in cc
merged false h true k p f g = let e : false ≡ true = f refl in cc
merged false h false k p f g = refl

reached : (high : Option (List ℕ)) (low key : List ℕ) → reaches high low ≡ true → is_under high key ≡ false → is_from low key ≡ true
reached None low key h k = cc
reached (Some high) low key h k = turned_back (precedes key low) (from_from low high key (turned (precedes high low) h) k)

later-from : (low other key : List ℕ) → is_from low other ≡ true → is_from other key ≡ true → is_from low key ≡ true
later-from low other key h k = turned_back (precedes key low) (from_from low other key (turned (precedes other low) h) (turned (precedes key other) k))

pub joined-more : (all left out : List Range) (low : List ℕ) (high farthest : Option (List ℕ)) (x : Range) (xs : List Range) → IsJoined all left out low high → left ≡ x ∷ xs → reaches high x.low ≡ true → farthest ≡ farther high x.high → IsJoined all xs out low farthest
joined-more all left out low high farthest x xs j e r is =
    let rising : Rising low (x ∷ xs) = subst (Rising low) e j.rising in
    let same : (key : List ℕ) → (in_some key out || ((is_from low key && is_under (farther high x.high) key) || in_some key xs)) ≡ in_some key all = λ key.
    ap (λ (b : Bool). in_some key out || ((is_from low key && b) || in_some key xs)) (under_farther high x.high key)
    ∙ ap (λ (b : Bool). in_some key out || b) (merged (is_from low key) (is_under high key) (is_from x.low key) (is_under x.high key) (in_some key xs) (later-from low x.low key rising.0) (reached high x.low key r))
    ∙ ap (λ (l : List Range). in_some key out || ((is_from low key && is_under high key) || in_some key l)) (sym e)
    ∙ j.same key in
    let found : IsJoined all xs out low (farther high x.high) = record { rising = rising-more low x xs rising.0 rising.1; order = j.order; same = same } in
    subst (IsJoined all xs out low) (sym is) found

apart-of : (high : Option (List ℕ)) (low : List ℕ) → reaches high low ≡ false → is_behind high low ≡ true
apart-of None low h = cc
apart-of (Some high) low h = was (precedes high low) h
  where
    was : (t : Bool) → not t ≡ false → t ≡ true
    was true e = refl
    was false e = cc

from_low : (low other : List ℕ) (rest : List Range) → is_from low other ≡ true → AreFrom other rest → AreFrom low rest
from_low low other [] h r = tt
from_low low other (range ∷ rest) h r = (later-from low other range.low h r.0, r.1, r.2)

pub joined-next : (all left out more : List Range) (low : List ℕ) (high : Option (List ℕ)) (x : Range) (xs : List Range) → IsJoined all left out low high → left ≡ x ∷ xs → reaches high x.low ≡ false → more ≡ out ++ between low high → IsJoined all xs more x.low x.high
joined-next all left out more low high x xs j e r is =
    let rising : Rising low (x ∷ xs) = subst (Rising low) e j.rising in
    let order : (rest : List Range) → AreFrom x.low rest → AreApart ((out ++ between low high) ++ rest) = λ rest h.
    subst AreApart (sym (append_assoc out (between low high) rest)) (j.order (between low high ++ rest) (pushed low low high rest (turned_back (precedes low low) (itself low)) (from_low low x.low rest rising.0 h) (behind_low high x.low rest (apart-of high x.low r) h))) in
    let same : (key : List ℕ) → (in_some key (out ++ between low high) || (is_in key x || in_some key xs)) ≡ in_some key all = λ key.
    ap (λ (b : Bool). b || (is_in key x || in_some key xs)) (list_any-append (is_in key) out (between low high) ∙ ap (λ (b : Bool). in_some key out || b) (in_between low high key))
    ∙ or-more (in_some key out) (is_from low key && is_under high key) (is_in key x || in_some key xs)
    ∙ ap (λ (l : List Range). in_some key out || ((is_from low key && is_under high key) || in_some key l)) (sym e)
    ∙ j.same key in
    let found : IsJoined all xs (out ++ between low high) x.low x.high = record { rising = rising.1; order = order; same = same } in
    subst (λ (o : List Range). IsJoined all xs o x.low x.high) (sym is) found

pub joined-apart : (all left out more : List Range) (low : List ℕ) (high : Option (List ℕ)) → IsJoined all left out low high → more ≡ out ++ between low high → AreApart more
joined-apart all left out more low high j is =
    subst AreApart (sym is) (j.order (between low high) (subst (AreFrom low) (append-nil (between low high)) (pushed low low high [] (turned_back (precedes low low) (itself low)) tt tt)))

empty : (ranges : List Range) → length ranges ≡ 0 → ranges ≡ []
empty [] e = refl
empty (x ∷ xs) e = absurd (omega arith)

pub joined-end : (all left out more : List Range) (low : List ℕ) (high : Option (List ℕ)) → IsJoined all left out low high → length left ≡ 0 → more ≡ out ++ between low high → (key : List ℕ) → in_some key more ≡ in_some key all
joined-end all left out more low high j e is key =
    ap (in_some key) is
    ∙ list_any-append (is_in key) out (between low high)
    ∙ ap (λ (b : Bool). in_some key out || b) (in_between low high key ∙ sym (only (is_from low key && is_under high key)))
    ∙ ap (λ (l : List Range). in_some key out || ((is_from low key && is_under high key) || in_some key l)) (sym (empty left e))
    ∙ j.same key
