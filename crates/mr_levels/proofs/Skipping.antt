-- A run in which a key can't stand by its first and its last key has no version of it.
use Rattle.std.proofs.Common.{◌≡◌, ◌&&◌, ◌==◌, ℕ, ◌+◌, Bool, true, false, not, nat_lt, min, List, [], ◌∷◌, ◌++◌, length, take, drop, zero, suc, refl, sym, ◌∙◌, ap, subst, inl, inr, arith, Option, None, Ok}
use Rattle.std.specs.List.{AllByRecursion, prefix_len}
use Rattle.std.specs.declared.cmp.Ordering.{Ordering}
use Rattle.std.specs.declared.cmp.Ordering.TheVariants.{Less, Equal, Greater}
use Rattle.std.specs.Ordering.{nat_cmp, is_lt, is_gt, ordering_reverse}
use Rattle.std.proofs.lemmas.Bool.{cases_Bool, true_from_ne_false}
use Rattle.std.proofs.lemmas.Cmp.{tied_itself}
use Rattle.mr_base.specs.Disk.{Image}
use Rattle.mr_base.specs.declared.stop.Direction.{Direction}
use Rattle.mr_iter.specs.Versions.{Version, key_cmp, version_cmp, IsAtFront, IsInOrder, joined}
use Rattle.mr_iter.specs.Order.{key_total, by_key, not_before, each-append}
use Rattle.mr_iter.specs.MergeFiles.{each_split}
use Rattle.mr_iter.specs.Newest.{newest, later, latest, is_of}
use Rattle.mr_iter.proofs.Newer.{key_is}
use Rattle.mr_run_file.specs.Format.{first_key, last_key}
use Rattle.mr_run_file.specs.Reading.{demand, structure_in}
use Rattle.mr_run_open.specs.Runs.{RunState, HasIndex, first_of, are_in_order}
use Rattle.mr_run_open.proofs.Indexing.{bound}
use Rattle.mr_run_open.proofs.Ranges.{run_parts, run_order, in_order, first_is}
use Rattle.mr_run_cursor.specs.Pinned.{run_list}
use Rattle.mr_levels.specs.Levels.{AreOfDirection, EndsBefore, AreApart, IsLive, AreLive}
use Rattle.mr_levels.specs.Looks.{ends_before, begins_behind, can_hold, with_key, part_of, parts_of, newest_in_each}
use Rattle.mr_levels.proofs.Joins.{map_append, latest_append, filter_append}

clash : {b : Bool} → b ≡ false → b ≡ true → ⊥
clash low high = cc

turned : (a b : Ordering) → b ≡ ordering_reverse a → is_lt a ≡ true → is_gt b ≡ true
turned Less b e is = rw e refl
turned Equal b e is = cc
turned Greater b e is = cc

turned_gt : (a b : Ordering) → b ≡ ordering_reverse a → is_gt a ≡ true → is_lt b ≡ true
turned_gt Less b e is = cc
turned_gt Equal b e is = cc
turned_gt Greater b e is = rw e refl

-- one key before another, the other way round
pub lt_gt : (d : Direction) (a b : List ℕ) → is_lt (key_cmp d a b) ≡ true → is_gt (key_cmp d b a) ≡ true
lt_gt d a b is = turned (key_cmp d a b) (key_cmp d b a) ((key_total d).antisymm b a) is

pub gt_lt : (d : Direction) (a b : List ℕ) → is_gt (key_cmp d a b) ≡ true → is_lt (key_cmp d b a) ≡ true
gt_lt d a b is = turned_gt (key_cmp d a b) (key_cmp d b a) ((key_total d).antisymm b a) is

pub upto_not_lt : (d : Direction) (a b : List ℕ) → is_gt (key_cmp d a b) ≡ false → is_lt (key_cmp d b a) ≡ false
upto_not_lt d a b le = elim (cases_Bool (is_lt (key_cmp d b a))) [
  | inl less ↦ absurd (clash le (lt_gt d b a less))
  | inr other ↦ other
]

pub not_lt_upto : (d : Direction) (a b : List ℕ) → is_lt (key_cmp d b a) ≡ false → is_gt (key_cmp d a b) ≡ false
not_lt_upto d a b other = elim (cases_Bool (is_gt (key_cmp d a b))) [
  | inl more ↦ absurd (clash other (gt_lt d a b more))
  | inr le ↦ le
]

key_upto : (d : Direction) (v w : Version) → is_gt (version_cmp d v w) ≡ false → is_gt (key_cmp d v.key w.key) ≡ false
key_upto d v w le = by_key (key_cmp d v.key w.key) (nat_cmp w.sequence v.sequence) le

-- ---- the first and the last key of a list in order

-- no key comes before the first
pub from_first : (d : Direction) (vs : List Version) → IsInOrder (version_cmp d) vs → AllByRecursion (λ (w : Version). is_gt (key_cmp d (first_key vs) w.key) ≡ false) vs
from_first d [] order = tt
from_first d (v ∷ vs) order = (itself, behind vs order.0)
  where
    itself : is_gt (key_cmp d v.key v.key) ≡ false
    itself = rw (tied_itself (key_total d) v.key)

    behind : (ws : List Version) → IsAtFront (version_cmp d) v ws → AllByRecursion (λ (w : Version). is_gt (key_cmp d v.key w.key) ≡ false) ws
    behind [] front = tt
    behind (w ∷ ws) front = (key_upto d v w front.0, behind ws front.1)

front_of_last : (d : Direction) (v w : Version) (vs : List Version) → IsAtFront (version_cmp d) v (w ∷ vs) → is_gt (key_cmp d v.key (last_key (w ∷ vs))) ≡ false
front_of_last d v w [] front = key_upto d v w front.0
front_of_last d v w (u ∷ vs) front = front_of_last d v u vs front.1

-- none comes behind the last
pub upto_last : (d : Direction) (vs : List Version) → IsInOrder (version_cmp d) vs → AllByRecursion (λ (w : Version). is_gt (key_cmp d w.key (last_key vs)) ≡ false) vs
upto_last d [] order = tt
upto_last d (v ∷ []) order = (itself, tt)
  where
    itself : is_gt (key_cmp d v.key v.key) ≡ false
    itself = rw (tied_itself (key_total d) v.key)
upto_last d (v ∷ w ∷ vs) order = (front_of_last d v w vs order.0, upto_last d (w ∷ vs) order.1)

-- ---- a run

pub structure : (r : RunState) (image : Image) → HasIndex r image → structure_in r.entries (image r.file) ≡ Ok r.index
structure r image has = (bound (demand (length (image r.file) == r.length) (min (length (image r.file)) r.length)) _ r.index has).next

-- the first and the last key are those of the index, whose first keys are in order
pub record HasEnds (r : RunState) (image : Image) : Type 0 where
  pub first : first_of r.index ≡ first_key (run_list r image)
  pub last : r.index.last ≡ last_key (run_list r image)
  pub sorted : are_in_order r.direction r.index.blocks ≡ true

pub ends_of : (r : RunState) (image : Image) → IsLive image r → HasEnds r image
ends_of r image live =
    let parts = run_parts r.entries (image r.file) (run_list r image) r.index live.run.0 (structure r image live.index) in
    record {
      first = first_is (image r.file) r.index.blocks (run_list r image) parts.lists;
      last = sym parts.last;
      sorted = in_order r.direction (image r.file) r.index.blocks (run_order r.direction (image r.file) r.index.blocks (run_list r image) parts.lists live.run.1) parts.lists.begin;
    }

none_of : (number : ℕ) (key : List ℕ) (P : List ℕ → Type 0) → (P key → ⊥) → (vs : List Version) → AllByRecursion (λ (w : Version). P w.key) vs → newest number key vs ≡ None
none_of number key P hit [] all = refl
none_of number key P hit (v ∷ vs) all = elim (cases_Bool (is_of key v)) [
  | inl is ↦ absurd (hit (subst P (sym (key_is key v is)) all.0))
  | inr other ↦ rw (both (not (nat_lt number v.sequence)) other) (none_of number key P hit vs all.1)
]
  where
    both : (a : Bool) → {b : Bool} → b ≡ false → (a && b) ≡ false
    both true e = e
    both false e = refl

module _ (d : Direction) (number : ℕ) (key : List ℕ) (image : Image) where
  pub none_ended : (r : RunState) → r.direction ≡ d → IsLive image r → ends_before d key r ≡ true → newest number key (run_list r image) ≡ None
  none_ended r same live before =
      let ends = ends_of r image live in
      let order : IsInOrder (version_cmp d) (run_list r image) = subst (λ (e : Direction). IsInOrder (version_cmp e) (run_list r image)) same live.run.1 in
      none_of number key (λ k. is_gt (key_cmp d k r.index.last) ≡ false) (λ le. clash le (lt_gt d r.index.last key before)) (run_list r image)
      (subst (λ (l : List ℕ). AllByRecursion (λ (w : Version). is_gt (key_cmp d w.key l) ≡ false) (run_list r image)) (sym ends.last) (upto_last d (run_list r image) order))

  pub none_begun : (r : RunState) → r.direction ≡ d → IsLive image r → begins_behind d key r ≡ true → newest number key (run_list r image) ≡ None
  none_begun r same live behind =
      let ends = ends_of r image live in
      let order : IsInOrder (version_cmp d) (run_list r image) = subst (λ (e : Direction). IsInOrder (version_cmp e) (run_list r image)) same live.run.1 in
      none_of number key (λ k. is_gt (key_cmp d (first_of r.index) k) ≡ false) (λ le. clash le behind) (run_list r image)
      (subst (λ (l : List ℕ). AllByRecursion (λ (w : Version). is_gt (key_cmp d l w.key) ≡ false) (run_list r image)) (sym ends.first) (from_first d (run_list r image) order))

  none_held : (r : RunState) → r.direction ≡ d → IsLive image r → can_hold d key r ≡ false → newest number key (run_list r image) ≡ None
  none_held r same live shut = elim (cases_Bool (ends_before d key r)) [
    | inl before ↦ none_ended r same live before
    | inr other ↦ none_begun r same live (opened (begins_behind d key r) (subst (λ (b : Bool). (not b && not (begins_behind d key r)) ≡ false) other shut))
  ]
    where
      opened : (b : Bool) → not b ≡ false → b ≡ true
      opened true e = refl
      opened false e = cc

  -- of runs those in which the key can stand have the newest version
  pub newest_held : (rs : List RunState) → AreOfDirection d rs → AreLive image rs → latest (newest_in_each number key image (with_key d key rs)) ≡ latest (newest_in_each number key image rs)
  newest_held [] same live = refl
  newest_held (r ∷ rs) same live = elim (cases_Bool (can_hold d key r)) [
    | inl yes_r ↦ rw yes_r (ap (later (newest number key (run_list r image))) (newest_held rs same.1 live.1))
    | inr no_r ↦ rw no_r (newest_held rs same.1 live.1 ∙ ap (λ (o : Option Version). later o (latest (newest_in_each number key image rs))) (sym (none_held r same.0 live.0 no_r)))
  ]

  none_behind : (r : RunState) (rs : List RunState) → AreOfDirection d rs → AreLive image rs → AllByRecursion (EndsBefore d r) rs → ends_before d key r ≡ false → latest (newest_in_each number key image rs) ≡ None
  none_behind r [] same live apart late = refl
  none_behind r (t ∷ rs) same live apart open_r =
      let behind : begins_behind d key t ≡ true = lt_gt d key (first_of t.index) (between apart.0) in
      ap (λ (o : Option Version). later o (latest (newest_in_each number key image rs))) (none_begun t same.0 live.0 behind) ∙ none_behind r rs same.1 live.1 apart.1 open_r
    where
      between : EndsBefore d r t → is_lt (key_cmp d key (first_of t.index)) ≡ true
      between before = true_from_ne_false _ (λ late. clash (not_before (key_cmp d) (key_total d) key r.index.last (first_of t.index) (not_lt_upto d key r.index.last open_r) late) before)

  -- and of the runs of a level the one
  pub newest_part : (rs : List RunState) → AreOfDirection d rs → AreLive image rs → AreApart d rs → latest (newest_in_each number key image (with_key d key (part_of d key rs))) ≡ latest (newest_in_each number key image rs)
  newest_part [] same live apart = refl
  newest_part (r ∷ rs) same live apart = elim (cases_Bool (ends_before d key r)) [
    | inl before ↦
        let e : part_of d key (r ∷ rs) ≡ part_of d key rs = rw before (one_more (prefix_len (ends_before d key) rs)) in
        ap (λ (qs : List RunState). latest (newest_in_each number key image (with_key d key qs))) e
        ∙ newest_part rs same.1 live.1 apart.1
        ∙ ap (λ (o : Option Version). later o (latest (newest_in_each number key image rs))) (sym (none_ended r same.0 live.0 before))
    | inr other ↦
        let e : part_of d key (r ∷ rs) ≡ r ∷ [] = rw other refl in
        ap (λ (qs : List RunState). latest (newest_in_each number key image (with_key d key qs))) e
        ∙ newest_held (r ∷ []) (same.0, tt) (live.0, tt)
        ∙ ap (later (newest number key (run_list r image))) (sym (none_behind r rs same.1 live.1 apart.0 other))
  ]
    where
      one_more : (n : ℕ) → take 1 (drop (1 + n) (r ∷ rs)) ≡ take 1 (drop n rs)
      one_more n = let e : 1 + n ≡ suc n = omega arith in ap (λ (k : ℕ). take 1 (drop k (r ∷ rs))) e

  newest_parts : (rss : List (List RunState)) → AllByRecursion (AreOfDirection d) rss → AreLive image (joined rss) → AllByRecursion (AreApart d) rss →
      latest (newest_in_each number key image (with_key d key (parts_of d key rss))) ≡ latest (newest_in_each number key image (joined rss))
  newest_parts [] same live apart = refl
  newest_parts (rs ∷ rss) same live apart =
      let lives = each_split (IsLive image) rs (joined rss) live in
      ap (λ (qs : List RunState). latest (newest_in_each number key image qs)) (filter_append (can_hold d key) (part_of d key rs) (parts_of d key rss))
      ∙ latest_both (with_key d key (part_of d key rs)) (with_key d key (parts_of d key rss))
      ∙ ap (λ (o : Option Version). later o (latest (newest_in_each number key image (with_key d key (parts_of d key rss))))) (newest_part rs same.0 lives.0 apart.0)
      ∙ ap (later (latest (newest_in_each number key image rs))) (newest_parts rss same.1 lives.1 apart.1)
      ∙ sym (latest_both rs (joined rss))
    where
      latest_both : (xs ys : List RunState) → latest (newest_in_each number key image (xs ++ ys)) ≡ later (latest (newest_in_each number key image xs)) (latest (newest_in_each number key image ys))
      latest_both xs ys = ap (λ (os : List (Option Version)). latest os) (map_append (λ (r : RunState). newest number key (run_list r image)) xs ys) ∙ latest_append (newest_in_each number key image xs) (newest_in_each number key image ys)

  -- the runs in which it looks have the newest version of all
  pub newest_looked : (ns : List RunState) (rss : List (List RunState)) → AreOfDirection d ns → AllByRecursion (AreOfDirection d) rss → AreLive image (ns ++ joined rss) → AllByRecursion (AreApart d) rss →
      latest (newest_in_each number key image (with_key d key (ns ++ parts_of d key rss))) ≡ latest (newest_in_each number key image (ns ++ joined rss))
  newest_looked ns rss same deeper live apart =
      let lives = each_split (IsLive image) ns (joined rss) live in
      ap (λ (qs : List RunState). latest (newest_in_each number key image qs)) (filter_append (can_hold d key) ns (parts_of d key rss))
      ∙ latest_both (with_key d key ns) (with_key d key (parts_of d key rss))
      ∙ ap (λ (o : Option Version). later o (latest (newest_in_each number key image (with_key d key (parts_of d key rss))))) (newest_held ns same lives.0)
      ∙ ap (later (latest (newest_in_each number key image ns))) (newest_parts rss deeper lives.1 apart)
      ∙ sym (latest_both ns (joined rss))
    where
      latest_both : (xs ys : List RunState) → latest (newest_in_each number key image (xs ++ ys)) ≡ later (latest (newest_in_each number key image xs)) (latest (newest_in_each number key image ys))
      latest_both xs ys = ap (λ (os : List (Option Version)). latest os) (map_append (λ (r : RunState). newest number key (run_list r image)) xs ys) ∙ latest_append (newest_in_each number key image xs) (newest_in_each number key image ys)

-- ---- what holds of all runs holds of those in which it looks

module _ (P : RunState → Type 0) (d : Direction) (key : List ℕ) where
  each_filter : (rs : List RunState) → AllByRecursion P rs → AllByRecursion P (with_key d key rs)
  each_filter [] all = tt
  each_filter (r ∷ rs) all = elim (cases_Bool (can_hold d key r)) [
    | inl yes_r ↦ rw yes_r (all.0, each_filter rs all.1)
    | inr no_r ↦ rw no_r (each_filter rs all.1)
  ]

  each_drop : (n : ℕ) (rs : List RunState) → AllByRecursion P rs → AllByRecursion P (drop n rs)
  each_drop zero rs all = all
  each_drop (suc n) [] all = tt
  each_drop (suc n) (r ∷ rs) all = each_drop n rs all.1

  each_take : (n : ℕ) (rs : List RunState) → AllByRecursion P rs → AllByRecursion P (take n rs)
  each_take zero rs all = tt
  each_take (suc n) [] all = tt
  each_take (suc n) (r ∷ rs) all = (all.0, each_take n rs all.1)

  each_parts : (rss : List (List RunState)) → AllByRecursion P (joined rss) → AllByRecursion P (parts_of d key rss)
  each_parts [] all = tt
  each_parts (rs ∷ rss) all =
      let parts = each_split P rs (joined rss) all in
      each-append P (part_of d key rs) (parts_of d key rss) (each_take 1 (drop (prefix_len (ends_before d key) rs) rs) (each_drop (prefix_len (ends_before d key) rs) rs parts.0)) (each_parts rss parts.1)

  pub each_looked : (ns : List RunState) (rss : List (List RunState)) → AllByRecursion P (ns ++ joined rss) → AllByRecursion P (with_key d key (ns ++ parts_of d key rss))
  each_looked ns rss all =
      let parts = each_split P ns (joined rss) all in
      each_filter (ns ++ parts_of d key rss) (each-append P ns (parts_of d key rss) parts.0 (each_parts rss parts.1))
