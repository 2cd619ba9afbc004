-- The order of keys, and ends.
use Rattle.std.proofs.Common.{◌≡◌, ℕ, Bool, true, false, List, [], ◌∷◌, Option, Some, None, refl, sym, ap, ◌∙◌}
use Rattle.std.specs.Prelude.{not}
use Rattle.std.specs.declared.cmp.Ordering.{Ordering}
use Rattle.std.specs.declared.cmp.Ordering.TheVariants.{Less, Equal, Greater}
use Rattle.std.specs.Ordering.{is_lt, nat_cmp, ordering_reverse}
use Rattle.std.specs.Cmp.{IsTotalOrder}
use Rattle.std.specs.Cmp.Lexicographic.{slice_cmp}
use Rattle.std.proofs.lemmas.Cmp.{nat_list_cmp_total, alike_right}
use Rattle.mr_pieces.specs.Order.{bytes_cmp}
use Rattle.mr_ranges.specs.Ranges.{precedes, is_under, is_behind, ends_first}

total : IsTotalOrder (slice_cmp nat_cmp)
total = nat_list_cmp_total

less : (o : Ordering) → is_lt o ≡ true → o ≡ Less
less Less h = refl
less Equal h = cc
less Greater h = cc

-- a < b and b <= c
pub before_from : (a b c : List ℕ) → precedes a b ≡ true → precedes c b ≡ false → precedes a c ≡ true
before_from a b c h k = by (bytes_cmp c b) (bytes_cmp b c) (total.antisymm b c) refl refl
  where
    by : (o r : Ordering) → r ≡ ordering_reverse o → bytes_cmp c b ≡ o → bytes_cmp b c ≡ r → precedes a c ≡ true
    by Less r e f g = let m : true ≡ false = ap is_lt (sym f) ∙ k in cc
    by Equal r e f g = ap is_lt (alike_right total c b a f) ∙ h
    by Greater r e f g = ap is_lt (total.trans a b c (less (bytes_cmp a b) h) (g ∙ e))

-- a <= b and b < c
pub from_before : (a b c : List ℕ) → precedes b a ≡ false → precedes b c ≡ true → precedes a c ≡ true
from_before a b c h k = by (bytes_cmp b a) (bytes_cmp a b) (total.antisymm a b) refl refl
  where
    by : (o r : Ordering) → r ≡ ordering_reverse o → bytes_cmp b a ≡ o → bytes_cmp a b ≡ r → precedes a c ≡ true
    by Less r e f g = let m : true ≡ false = ap is_lt (sym f) ∙ h in cc
    by Equal r e f g = ap is_lt (sym (total.congr b a c f)) ∙ k
    by Greater r e f g = ap is_lt (total.trans a b c (g ∙ e) (less (bytes_cmp b c) k))

pub before_before : (a b c : List ℕ) → precedes a b ≡ true → precedes b c ≡ true → precedes a c ≡ true
before_before a b c h k = ap is_lt (total.trans a b c (less (bytes_cmp a b) h) (less (bytes_cmp b c) k))

no_and_yes : (b : Bool) → b ≡ true → b ≡ false → true ≡ false
no_and_yes b h k = sym h ∙ k

-- c >= b and b >= a
pub from_from : (a b c : List ℕ) → precedes b a ≡ false → precedes c b ≡ false → precedes c a ≡ false
from_from a b c h k = by (precedes c a) refl
  where
    by : (t : Bool) → precedes c a ≡ t → precedes c a ≡ false
    by false e = e
    by true e = let m : true ≡ false = no_and_yes (precedes c b) (before_from c a b e h) k in cc

-- one of two keys is at or below the other
pub not_both : (a b : List ℕ) → precedes a b ≡ true → precedes b a ≡ false
not_both a b h = by (precedes b a) refl
  where
    itself : precedes a a ≡ false
    itself = own (bytes_cmp a a) (total.antisymm a a)
      where
        own : (o : Ordering) → o ≡ ordering_reverse o → is_lt o ≡ false
        own Less e = cc
        own Equal e = refl
        own Greater e = refl

    by : (t : Bool) → precedes b a ≡ t → precedes b a ≡ false
    by false e = e
    by true e = let m : true ≡ false = no_and_yes (precedes a a) (before_before a b a h e) itself in cc

pub itself : (a : List ℕ) → precedes a a ≡ false
itself a = own (bytes_cmp a a) (total.antisymm a a)
  where
    own : (o : Ordering) → o ≡ ordering_reverse o → is_lt o ≡ false
    own Less e = cc
    own Equal e = refl
    own Greater e = refl

-- nothing precedes no bytes
pub none_first : (a : List ℕ) → precedes a [] ≡ false
none_first [] = refl
none_first (x ∷ a) = refl

pub turned : (b : Bool) → not b ≡ true → b ≡ false
turned true h = cc
turned false h = refl

pub turned_back : (b : Bool) → b ≡ false → not b ≡ true
turned_back b h = ap not h

-- ---- ends

-- a key below an end is below each key behind it
pub under_behind : (end : Option (List ℕ)) (low key : List ℕ) → is_behind end low ≡ true → is_under end key ≡ true → precedes key low ≡ true
under_behind None low key h k = cc
under_behind (Some high) low key h k = before_before key high low k h

-- a key before one that is below an end
pub under_before : (end : Option (List ℕ)) (a b : List ℕ) → precedes a b ≡ true → is_under end b ≡ true → is_under end a ≡ true
under_before None a b h k = refl
under_before (Some high) a b h k = before_before a b high h k

-- a key at or before one that is below an end
pub under_from : (end : Option (List ℕ)) (a b : List ℕ) → precedes b a ≡ false → is_under end b ≡ true → is_under end a ≡ true
under_from None a b h k = refl
under_from (Some high) a b h k = from_before a b high h k

-- an end that comes first, and a key below it
pub under_first : (a b : Option (List ℕ)) (key : List ℕ) → ends_first a b ≡ true → is_under a key ≡ true → is_under b key ≡ true
under_first a None key h k = refl
under_first None (Some b) key h k = cc
under_first (Some a) (Some b) key h k = before_from key a b k (turned (precedes b a) h)

pub under_second : (a b : Option (List ℕ)) (key : List ℕ) → ends_first a b ≡ false → is_under b key ≡ true → is_under a key ≡ true
under_second a None key h k = cc
under_second None (Some b) key h k = refl
under_second (Some a) (Some b) key h k = before_before key b a k (kept (precedes b a) h)
  where
    kept : (t : Bool) → not t ≡ false → t ≡ true
    kept true e = refl
    kept false e = cc

-- a key behind an end, and one at or behind that
pub behind_from : (end : Option (List ℕ)) (a b : List ℕ) → is_behind end a ≡ true → precedes b a ≡ false → is_behind end b ≡ true
behind_from None a b h k = cc
behind_from (Some high) a b h k = before_from high a b h k
