-- One pass over the runs tells what the choice asks.
use Rattle.std.proofs.Common.{◌≡◌, ℕ, ◌+◌, ◌==◌, nat_lt, Bool, true, false, not, ◌&&◌, ◌||◌, List, [], ◌∷◌, ◌++◌, if◌then◌else◌, refl, sym, ◌∙◌, ap, inl, inr, arith}
use Rattle.std.proofs.lemmas.Bool.{cases_Bool}
use Rattle.std.proofs.lemmas.Bool.Decides.{nat_tests}
use Rattle.std.proofs.lemmas.Cmp.{nat_list_cmp_total, upto}
use Rattle.std.specs.Cmp.Lexicographic.{slice_cmp}
use Rattle.std.specs.Ordering.{nat_cmp, is_lt, is_gt, ordering_reverse}
use Rattle.std.specs.declared.cmp.Ordering.{Ordering}
use Rattle.std.specs.declared.cmp.Ordering.TheVariants.{Less, Equal, Greater}
use Rattle.mr_iter.specs.Order.{not_before}
use Rattle.mr_compact.specs.declared.span.Span.{Span}
use Rattle.mr_compact.specs.Levels.{comes_before, lesser, greater, span_of, span_of_all, overlap, overlaps_span, overlaps_any, at_level, older, oldest, oldest_with, touched, files_of, going, is_bottom, as_pick, pick_from}
use Rattle.mr_compact.specs.Passes.{ends_behind, begins_before, overlaps_level, overlaps_touched, files_at, files_touched}

gt_reverse : (o : Ordering) → is_gt (ordering_reverse o) ≡ is_lt o
gt_reverse Less = refl
gt_reverse Equal = refl
gt_reverse Greater = refl

turned : (a b : List ℕ) → is_gt (slice_cmp nat_cmp a b) ≡ comes_before b a
turned a b = ap is_gt (nat_list_cmp_total.antisymm a b) ∙ gt_reverse (slice_cmp nat_cmp b a)

lt_not_gt : (o : Ordering) → is_lt o ≡ true → is_gt o ≡ false
lt_not_gt Less is = refl
lt_not_gt Equal is = refl
lt_not_gt Greater is = cc

-- what isn't before a key isn't before one that is at or before it
not_behind : (a b y : List ℕ) → is_gt (slice_cmp nat_cmp a b) ≡ false → comes_before y b ≡ false → comes_before y a ≡ false
not_behind a b y le is = sym (turned a y) ∙ upto nat_list_cmp_total a b y le (turned b y ∙ is)

or_left : (w u : Bool) → (w ≡ false → u ≡ false) → not u ≡ (not w || not u)
or_left true u so = refl
or_left false u so = rw (so refl)

or_right : (w u : Bool) → (u ≡ false → w ≡ false) → not w ≡ (not w || not u)
or_right true true so = refl
or_right false true so = refl
or_right true false so = let e : true ≡ false = so refl in cc
or_right false false so = refl

-- the greater of two keys is at or behind a key where one of them is
greater_behind : (a b x : List ℕ) → not (comes_before (greater a b) x) ≡ (not (comes_before a x) || not (comes_before b x))
greater_behind a b x = go (comes_before a b) refl
  where
    go : (t : Bool) → comes_before a b ≡ t → not (comes_before (if t then b else a) x) ≡ (not (comes_before a x) || not (comes_before b x))
    go true e = or_left (comes_before a x) (comes_before b x) (not_before (slice_cmp nat_cmp) nat_list_cmp_total a b x (lt_not_gt (slice_cmp nat_cmp a b) e))
    go false e = or_right (comes_before a x) (comes_before b x) (not_before (slice_cmp nat_cmp) nat_list_cmp_total b a x (turned b a ∙ e))

-- the lesser of two keys is at or before a key where one of them is
lesser_before : (a b y : List ℕ) → not (comes_before y (lesser a b)) ≡ (not (comes_before y a) || not (comes_before y b))
lesser_before a b y = go (comes_before b a) refl
  where
    go : (t : Bool) → comes_before b a ≡ t → not (comes_before y (if t then b else a)) ≡ (not (comes_before y a) || not (comes_before y b))
    go true e = or_left (comes_before y a) (comes_before y b) (not_behind b a y (lt_not_gt (slice_cmp nat_cmp b a) e))
    go false e = or_right (comes_before y a) (comes_before y b) (not_behind a b y (turned a b ∙ e))

abbrev behind : List ℕ → List Span → Bool
behind key [] = false
behind key (r ∷ rs) = not (comes_before (span_of r).greatest key) || behind key rs

abbrev before : List ℕ → List Span → Bool
before key [] = false
before key (r ∷ rs) = not (comes_before key (span_of r).least) || before key rs

or_nothing : (t : Bool) → t ≡ (t || false)
or_nothing true = refl
or_nothing false = refl

all_behind : (key : List ℕ) (r : Span) (rs : List Span) → not (comes_before (span_of_all r rs).greatest key) ≡ behind key (r ∷ rs)
all_behind key r [] = or_nothing (not (comes_before (span_of r).greatest key))
all_behind key r (s ∷ ss) = greater_behind (span_of r).greatest (span_of_all s ss).greatest key ∙ ap (λ (t : Bool). not (comes_before (span_of r).greatest key) || t) (all_behind key s ss)

all_before : (key : List ℕ) (r : Span) (rs : List Span) → not (comes_before key (span_of_all r rs).least) ≡ before key (r ∷ rs)
all_before key r [] = or_nothing (not (comes_before key (span_of r).least))
all_before key r (s ∷ ss) = lesser_before (span_of r).least (span_of_all s ss).least key ∙ ap (λ (t : Bool). not (comes_before key (span_of r).least) || t) (all_before key s ss)

by_parts : (runs : List Span) (s : Span) → overlaps_span runs s ≡ (behind (span_of s).least runs && before (span_of s).greatest runs)
by_parts [] s = refl
by_parts (r ∷ rs) s =
    ap (λ (t : Bool). t && not (comes_before (span_of s).greatest (span_of_all r rs).least)) (all_behind (span_of s).least r rs)
    ∙ ap (λ (t : Bool). behind (span_of s).least (r ∷ rs) && t) (all_before (span_of s).greatest r rs)

behind_at : (level : ℕ) (key : List ℕ) (runs : List Span) → behind key (at_level level runs) ≡ ends_behind level key runs
behind_at level key [] = refl
behind_at level key (s ∷ ss) = go (s.level == level) (behind_at level key ss)
  where
    go : (t : Bool) → behind key (at_level level ss) ≡ ends_behind level key ss → behind key (if t then s ∷ at_level level ss else at_level level ss) ≡ ((t && not (comes_before (span_of s).greatest key)) || ends_behind level key ss)
    go true rest = ap (λ (u : Bool). not (comes_before (span_of s).greatest key) || u) rest
    go false rest = rest

before_at : (level : ℕ) (key : List ℕ) (runs : List Span) → before key (at_level level runs) ≡ begins_before level key runs
before_at level key [] = refl
before_at level key (s ∷ ss) = go (s.level == level) (before_at level key ss)
  where
    go : (t : Bool) → before key (at_level level ss) ≡ begins_before level key ss → before key (if t then s ∷ at_level level ss else at_level level ss) ≡ ((t && not (comes_before key (span_of s).least)) || begins_before level key ss)
    go true rest = ap (λ (u : Bool). not (comes_before key (span_of s).least) || u) rest
    go false rest = rest

-- a run overlaps the span of a level's runs where one of them ends at or behind its least key, and one begins at or before its greatest
pub overlaps_by_ends : (level : ℕ) (runs : List Span) (s : Span) → overlaps_span (at_level level runs) s ≡ (ends_behind level (span_of s).least runs && begins_before level (span_of s).greatest runs)
overlaps_by_ends level runs s =
    by_parts (at_level level runs) s
    ∙ ap (λ (t : Bool). t && before (span_of s).greatest (at_level level runs)) (behind_at level (span_of s).least runs)
    ∙ ap (λ (t : Bool). ends_behind level (span_of s).least runs && t) (before_at level (span_of s).greatest runs)

pub any_at : (level : ℕ) (s : Span) (runs : List Span) → overlaps_any (at_level level runs) s ≡ overlaps_level level s runs
any_at level s [] = refl
any_at level s (r ∷ rs) = go (r.level == level) (any_at level s rs)
  where
    go : (t : Bool) → overlaps_any (at_level level rs) s ≡ overlaps_level level s rs → overlaps_any (if t then r ∷ at_level level rs else at_level level rs) s ≡ ((t && overlap (span_of r) (span_of s)) || overlaps_level level s rs)
    go true rest = ap (λ (u : Bool). overlap (span_of r) (span_of s) || u) rest
    go false rest = rest

pub any_touched : (runs : List Span) (level : ℕ) (s : Span) (spans : List Span) → overlaps_any (touched runs level spans) s ≡ overlaps_touched runs level s spans
any_touched runs level s [] = refl
any_touched runs level s (r ∷ rs) = go (r.level == level) (overlaps_span runs r) (overlap (span_of r) (span_of s)) refl (any_touched runs level s rs)
  where
    go : (t u w : Bool) → overlap (span_of r) (span_of s) ≡ w → overlaps_any (touched runs level rs) s ≡ overlaps_touched runs level s rs → overlaps_any (if t && u then r ∷ touched runs level rs else touched runs level rs) s ≡ ((t && (w && u)) || overlaps_touched runs level s rs)
    go true true true e rest = ap (λ (x : Bool). x || overlaps_any (touched runs level rs) s) e
    go true true false e rest = ap (λ (x : Bool). x || overlaps_any (touched runs level rs) s) e ∙ rest
    go true false true e rest = rest
    go true false false e rest = rest
    go false u w e rest = rest

any_append : (xs ys : List Span) (s : Span) → overlaps_any (xs ++ ys) s ≡ (overlaps_any xs s || overlaps_any ys s)
any_append [] ys s = refl
any_append (x ∷ xs) ys s = go (overlap (span_of x) (span_of s)) (any_append xs ys s)
  where
    go : (t : Bool) → overlaps_any (xs ++ ys) s ≡ (overlaps_any xs s || overlaps_any ys s) → (t || overlaps_any (xs ++ ys) s) ≡ ((t || overlaps_any xs s) || overlaps_any ys s)
    go true rest = refl
    go false rest = rest

pub any_merged : (level : ℕ) (part spans : List Span) (s : Span) → overlaps_any (at_level level part ++ touched (at_level level part) (level + 1) spans) s ≡ (overlaps_level level s part || overlaps_touched (at_level level part) (level + 1) s spans)
any_merged level part spans s =
    any_append (at_level level part) (touched (at_level level part) (level + 1) spans) s
    ∙ ap (λ (t : Bool). t || overlaps_any (touched (at_level level part) (level + 1) spans) s) (any_at level s part)
    ∙ ap (λ (t : Bool). overlaps_level level s part || t) (any_touched (at_level level part) (level + 1) s spans)

files_append : (xs ys : List Span) → files_of (xs ++ ys) ≡ files_of xs ++ files_of ys
files_append [] ys = refl
files_append (x ∷ xs) ys = ap (λ (fs : List ℕ). x.info.file ∷ fs) (files_append xs ys)

files_at_level : (level : ℕ) (runs : List Span) → files_of (at_level level runs) ≡ files_at level runs
files_at_level level [] = refl
files_at_level level (s ∷ ss) = go (s.level == level) (files_at_level level ss)
  where
    go : (t : Bool) → files_of (at_level level ss) ≡ files_at level ss → files_of (if t then s ∷ at_level level ss else at_level level ss) ≡ (if t then s.info.file ∷ files_at level ss else files_at level ss)
    go true rest = ap (λ (fs : List ℕ). s.info.file ∷ fs) rest
    go false rest = rest

files_of_touched : (runs : List Span) (level : ℕ) (spans : List Span) → files_of (touched runs level spans) ≡ files_touched runs level spans
files_of_touched runs level [] = refl
files_of_touched runs level (s ∷ ss) = go ((s.level == level) && overlaps_span runs s) (files_of_touched runs level ss)
  where
    go : (t : Bool) → files_of (touched runs level ss) ≡ files_touched runs level ss → files_of (if t then s ∷ touched runs level ss else touched runs level ss) ≡ (if t then s.info.file ∷ files_touched runs level ss else files_touched runs level ss)
    go true rest = ap (λ (fs : List ℕ). s.info.file ∷ fs) rest
    go false rest = rest

pub files_merged : (level : ℕ) (part spans : List Span) → files_of (at_level level part ++ touched (at_level level part) (level + 1) spans) ≡ files_at level part ++ files_touched (at_level level part) (level + 1) spans
files_merged level part spans =
    files_append (at_level level part) (touched (at_level level part) (level + 1) spans)
    ∙ ap (λ (fs : List ℕ). fs ++ files_of (touched (at_level level part) (level + 1) spans)) (files_at_level level part)
    ∙ ap (λ (fs : List ℕ). files_at level part ++ fs) (files_of_touched (at_level level part) (level + 1) spans)

-- the best one so far is of the level
older_at : (level : ℕ) (best : List Span) (t : Span) → at_level level best ≡ best → (t.level == level) ≡ true → at_level level (older best t) ≡ older best t
older_at level [] t is on = rw on
older_at level (s ∷ ss) t is on = go (nat_lt t.info.file s.info.file)
  where
    go : (b : Bool) → at_level level (if b then t ∷ [] else s ∷ ss) ≡ (if b then t ∷ [] else s ∷ ss)
    go true = rw on
    go false = is

oldest_stays : (level : ℕ) (best ts : List Span) → at_level level best ≡ best → at_level level (oldest_with level best ts) ≡ oldest_with level best ts
oldest_stays level best [] is = is
oldest_stays level best (t ∷ ts) is = elim (cases_Bool (t.level == level)) [
  | inl on ↦ rw on (oldest_stays level (older best t) ts (older_at level best t is on))
  | inr off ↦ rw off (oldest_stays level best ts is)
]

pub oldest_at : (level : ℕ) (spans : List Span) → at_level level (oldest level spans) ≡ oldest level spans
oldest_at level spans = oldest_stays level [] spans refl

not_zero : (n : ℕ) → (n ≡ 0 → ⊥) → (n == 0) ≡ false
not_zero n other = grind (arith, nat_tests)

pub going_other : (level : ℕ) (spans part : List Span) → (level ≡ 0 → ⊥) → part ≡ oldest level spans → at_level level part ≡ going level spans
going_other level spans part other is = let off = not_zero level other in ap (at_level level) is ∙ oldest_at level spans ∙ rw off refl

pub ends_and_begins : (level : ℕ) (runs : List Span) (s : Span) (low high : List ℕ) (e b : Bool) → low ≡ (span_of s).least → high ≡ (span_of s).greatest → e ≡ ends_behind level low runs → b ≡ begins_before level high runs → (e && b) ≡ overlaps_span (at_level level runs) s
ends_and_begins level runs s low high e b at_low at_high ends begins =
    ap (λ (t : Bool). t && b) (ends ∙ ap (λ (key : List ℕ). ends_behind level key runs) at_low)
    ∙ ap (λ (t : Bool). ends_behind level (span_of s).least runs && t) (begins ∙ ap (λ (key : List ℕ). begins_before level key runs) at_high)
    ∙ sym (overlaps_by_ends level runs s)

pub any_parts : (level : ℕ) (part spans : List Span) (s : Span) (a b : Bool) → a ≡ overlaps_level level s part → b ≡ overlaps_touched (at_level level part) (level + 1) s spans → (a || b) ≡ overlaps_any (at_level level part ++ touched (at_level level part) (level + 1) spans) s
any_parts level part spans s a b here there =
    ap (λ (t : Bool). t || b) here
    ∙ ap (λ (t : Bool). overlaps_level level s part || t) there
    ∙ sym (any_merged level part spans s)

pub files_parts : (level : ℕ) (part spans : List Span) (xs ys : List ℕ) → xs ≡ files_at level part → ys ≡ files_touched (at_level level part) (level + 1) spans → xs ++ ys ≡ files_of (at_level level part ++ touched (at_level level part) (level + 1) spans)
files_parts level part spans xs ys here there =
    ap (λ (fs : List ℕ). fs ++ ys) here
    ∙ ap (λ (fs : List ℕ). files_at level part ++ fs) there
    ∙ sym (files_merged level part spans)

pub pick_parts : (level : ℕ) (spans part : List Span) (files : List ℕ) (bottom : Bool) → at_level level part ≡ going level spans → files ≡ files_of (at_level level part ++ touched (at_level level part) (level + 1) spans) → bottom ≡ is_bottom (level + 1) (at_level level part ++ touched (at_level level part) (level + 1) spans) spans → as_pick (level + 1) files bottom ≡ pick_from level spans
pick_parts level spans part files bottom is listed at =
    ap (λ (fs : List ℕ). as_pick (level + 1) fs bottom) listed
    ∙ ap (λ (b : Bool). as_pick (level + 1) (files_of (at_level level part ++ touched (at_level level part) (level + 1) spans)) b) at
    ∙ ap (λ (runs : List Span). as_pick (level + 1) (files_of (runs ++ touched runs (level + 1) spans)) (is_bottom (level + 1) (runs ++ touched runs (level + 1) spans) spans)) is
