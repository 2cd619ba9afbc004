-- In which blocks of a run a key stands.
use Rattle.std.proofs.Common.{◌≡◌, ℕ, zero, suc, ◌+◌, ◌*◌, ◌-◌, ◌<◌, ◌≤◌, List, [], ◌∷◌, ◌++◌, length, take, drop, refl, ap, sym, ◌∙◌, subst, arith, Bool, true, false, cond, not, inl, inr, nat_eq, nat_le, ◌&&◌, filter, get_or, append_assoc, Result, Ok, Err, Option, Some, None}
use Rattle.std.specs.List.{AllByRecursion, list_all, prefix_len}
use Rattle.std.specs.declared.cmp.Ordering.{Ordering}
use Rattle.std.specs.declared.cmp.Ordering.TheVariants.{Less, Equal, Greater}
use Rattle.std.specs.Ordering.{nat_cmp, is_lt, is_gt, is_eq, ordering_reverse}
use Rattle.std.specs.Cmp.Lexicographic.{pointwise, slice_cmp}
use Rattle.std.proofs.lemmas.Bool.{cases_Bool, true_from_ne_false, leb-true, eqb-true}
use Rattle.std.proofs.lemmas.Cmp.{upto, nat_list_cmp_total}
use Rattle.std.proofs.lemmas.List.{drop-drop, take-append-drop}
use Rattle.std.proofs.lemmas.List.Sums.{prefix_len_passes, prefix_len_stops, prefix_len-le-length}
use Rattle.mr_base.specs.declared.stop.Direction.{Direction}
use Rattle.mr_base.specs.declared.stop.Direction.TheVariants.{Forward, Reverse}
use Rattle.mr_iter.specs.Versions.{Version, key_cmp, version_cmp, IsAtFront, IsInOrder, from_key}
use Rattle.mr_iter.specs.Newest.{newest, is_of, is_at}
use Rattle.mr_iter.specs.Order.{key_total, by_key, each-append}
use Rattle.mr_iter.specs.Places.{and_split}
use Rattle.mr_block.specs.Block.{block_in, list_of}
use Rattle.mr_run_file.specs.Format.{first_key, last_key}
use Rattle.mr_run_file.specs.Reading.{Indexed, Index, demand, key_demand, counted_from, block_at, versions_at, all_versions_in, last_size, footer_number, footer_at, structure_in, IsRunFile}
use Rattle.mr_run_open.specs.Runs.{is_before, is_upto, first_block, behind_block, blocks_with, are_in_order, no_block}
use Rattle.mr_run_open.specs.Blocks.{list_at, lists_of, AreBlocks}
use Rattle.mr_run_open.proofs.Indexing.{bound, ok_same, held}
use Rattle.mr_run_open.proofs.Searching.{not_true}

same_keys : (key known : List ℕ) → pointwise nat_eq key known ≡ true → key ≡ known
same_keys [] [] e = refl
same_keys [] (y ∷ ys) e = cc
same_keys (x ∷ xs) [] e = cc
same_keys (x ∷ xs) (y ∷ ys) e =
    let parts = and_split (nat_eq x y) (pointwise nat_eq xs ys) e in
    let head : x ≡ y = eqb-true x y parts.0 in
    let tail : xs ≡ ys = same_keys xs ys parts.1 in
    cc

key_held : (known key : List ℕ) (at : ℕ) (u : Unit {0}) → key_demand known key at ≡ Ok u → key ≡ known
key_held known key at u is = elim (cases_Bool (nat_eq (length key) (length known))) [
  | inl long ↦ let there : demand (pointwise nat_eq key known) (at + 4) ≡ Ok u = rw long at is in same_keys key known (held _ _ u there)
  | inr other ↦ let no : Err at ≡ Ok u = rw other at is in cc
]

-- a block begins with a version of the key that the index has
pub record Begins (file : List ℕ) (b : Indexed) : Type 0 where
  pub version : Version
  pub rest : List Version
  pub list : list_at file b ≡ version ∷ rest
  pub key : version.key ≡ b.key

begins_with : (file : List ℕ) (b : Indexed) (vs : List Version) → list_at file b ≡ vs → nat_le 1 (length vs) ≡ true → first_key vs ≡ b.key → Begins file b
begins_with file b [] is some first = absurd (omega (arith, leb-true 1 0 some))
begins_with file b (v ∷ vs) is some first = record { version = v; rest = vs; list = is; key = first }

pub begins : (file : List ℕ) (b : Indexed) (vs : List Version) → versions_at file b ≡ Ok vs → Begins file b
begins file b vs is =
    let read = bound (counted_from b.place (block_in (block_at file b))) _ vs is in
    let some = bound (demand (nat_le 1 (length read.x)) b.place) _ vs read.next in
    let first = bound (key_demand b.key (first_key read.x) (b.place + 4 + 4 * length read.x)) _ vs some.next in
    let same : read.x ≡ vs = ok_same (Ok read.x) read.x vs refl first.next in
    begins_with file b read.x (ap list_of is ∙ sym same) (held _ _ some.x some.now) (key_held b.key (first_key read.x) _ first.x first.now)

-- all blocks of a list
pub record Lists (file : List ℕ) (bs : List Indexed) (vs : List Version) : Type 0 where
  pub blocks : AreBlocks file bs
  pub list : vs ≡ lists_of file bs
  pub begin : AllByRecursion (Begins file) bs

pub all_lists : (file : List ℕ) (bs : List Indexed) (vs : List Version) → all_versions_in file bs ≡ Ok vs → Lists file bs vs
all_lists file [] vs is = record { blocks = tt; list = sym (ok_same (Ok []) [] vs refl is); begin = tt }
all_lists file (b ∷ bs) vs is =
    let one = bound (versions_at file b) _ vs is in
    let others = bound (all_versions_in file bs) _ vs one.next in
    let more = all_lists file bs others.x others.now in
    let here : list_at file b ≡ one.x = ap list_of one.now in
    let same : one.x ++ others.x ≡ vs = ok_same (Ok (one.x ++ others.x)) (one.x ++ others.x) vs refl others.next in
    record {
      blocks = (one.now ∙ ap (λ (xs : List Version). Ok xs) (sym here), more.blocks);
      list = sym same ∙ ap (λ (xs : List Version). xs ++ others.x) (sym here) ∙ ap (λ (xs : List Version). list_at file b ++ xs) more.list;
      begin = (begins file b one.x one.now, more.begin);
    }

-- the parts of a run with this index
pub record Parts (file : List ℕ) (index : Index) (vs : List Version) : Type 0 where
  pub lists : Lists file index.blocks vs
  pub last : last_key vs ≡ index.last

pub run_parts : (entries : ℕ) (file : List ℕ) (vs : List Version) (index : Index) → IsRunFile entries file vs → structure_in entries file ≡ Ok index → Parts file index vs
run_parts entries file vs index is structure =
    let read = bound (structure_in entries file) _ vs is in
    let all = bound (all_versions_in file read.x.blocks) _ vs read.next in
    let same = bound (key_demand read.x.last (last_key all.x) (footer_number 0 file - last_size all.x)) _ vs all.next in
    let count = bound (demand (nat_eq (length all.x) entries) (footer_at file + 24)) _ vs same.next in
    let these : all.x ≡ vs = ok_same (Ok all.x) all.x vs refl count.next in
    let known : read.x ≡ index = ok_same (structure_in entries file) read.x index read.now structure in
    let lists : Lists file read.x.blocks vs = subst (Lists file read.x.blocks) these (all_lists file read.x.blocks all.x all.now) in
    let last : last_key vs ≡ read.x.last = subst (λ (xs : List Version). last_key xs ≡ read.x.last) these (key_held read.x.last (last_key all.x) _ same.x same.now) in
    subst (λ (x : Index). Parts file x vs) known (record { lists = lists; last = last })

-- ---- order

pub each_split : (P : Version → Type 0) (xs ys : List Version) → AllByRecursion P (xs ++ ys) → AllByRecursion P xs × AllByRecursion P ys
each_split P [] ys all = (tt, all)
each_split P (x ∷ xs) ys all = let more = each_split P xs ys all.1 in ((all.0, more.0), more.1)

pub order_split : (d : Direction) (xs ys : List Version) → IsInOrder (version_cmp d) (xs ++ ys) → IsInOrder (version_cmp d) xs × IsInOrder (version_cmp d) ys × AllByRecursion (λ v. IsAtFront (version_cmp d) v ys) xs
order_split d [] ys all = (tt, all, tt)
order_split d (x ∷ xs) ys all =
    let more = order_split d xs ys all.1 in
    let front = each_split (λ y. is_gt (version_cmp d x y) ≡ false) xs ys all.0 in
    ((front.0, more.0), more.1, (front.1, more.2))

key_upto : (d : Direction) (v w : Version) → is_gt (version_cmp d v w) ≡ false → is_gt (key_cmp d v.key w.key) ≡ false
key_upto d v w le = by_key (key_cmp d v.key w.key) (nat_cmp w.sequence v.sequence) le

-- what holds of all versions holds of the first one of each block
at_block : (P : Version → Type 0) (file : List ℕ) (bs : List Indexed) (n : ℕ) → AllByRecursion P (lists_of file bs) → AllByRecursion (Begins file) bs → n < length bs → (w : Version) × P w × (w.key ≡ (get_or bs n no_block).key)
at_block P file [] n all begin lt = absurd (omega (arith, lt))
at_block P file (b ∷ bs) zero all begin lt =
    let here : AllByRecursion P ((begin.0.version ∷ begin.0.rest) ++ lists_of file bs) = subst (λ (xs : List Version). AllByRecursion P (xs ++ lists_of file bs)) begin.0.list all in
    (begin.0.version, here.0, begin.0.key)
at_block P file (b ∷ bs) (suc n) all begin lt = at_block P file bs n (each_split P (list_at file b) (lists_of file bs) all).1 begin.1 (omega (arith, lt))

first_keys : (d : Direction) (b : Indexed) (v : Version) (file : List ℕ) (bs : List Indexed) → v.key ≡ b.key → AllByRecursion (λ w. is_gt (version_cmp d v w) ≡ false) (lists_of file bs) → AllByRecursion (Begins file) bs → list_all (λ c. is_upto d c.key b) bs ≡ true
first_keys d b v file [] key all begin = refl
first_keys d b v file (c ∷ bs) key all begin =
    let here : AllByRecursion (λ w. is_gt (version_cmp d v w) ≡ false) ((begin.0.version ∷ begin.0.rest) ++ lists_of file bs) = subst (λ (xs : List Version). AllByRecursion (λ w. is_gt (version_cmp d v w) ≡ false) (xs ++ lists_of file bs)) begin.0.list all in
    let le : is_gt (key_cmp d v.key begin.0.version.key) ≡ false = key_upto d v begin.0.version here.0 in
    let le2 : is_gt (key_cmp d b.key c.key) ≡ false = subst (λ (k : List ℕ). is_gt (key_cmp d k c.key) ≡ false) key (subst (λ (k : List ℕ). is_gt (key_cmp d v.key k) ≡ false) begin.0.key le) in
    rw le2 (first_keys d b v file bs key (each_split (λ w. is_gt (version_cmp d v w) ≡ false) (list_at file c) (lists_of file bs) all).1 begin.1)

pub in_order : (d : Direction) (file : List ℕ) (bs : List Indexed) → IsInOrder (version_cmp d) (lists_of file bs) → AllByRecursion (Begins file) bs → are_in_order d bs ≡ true
in_order d file [] order begin = refl
in_order d file (b ∷ bs) order begin =
    let parts = order_split d (list_at file b) (lists_of file bs) order in
    let front : AllByRecursion (λ v. IsAtFront (version_cmp d) v (lists_of file bs)) (begin.0.version ∷ begin.0.rest) = subst (AllByRecursion (λ v. IsAtFront (version_cmp d) v (lists_of file bs))) begin.0.list parts.2 in
    let here : list_all (λ c. is_upto d c.key b) bs ≡ true = first_keys d b begin.0.version file bs begin.0.key front.0 begin.1 in
    rw here (in_order d file bs parts.1 begin.1)

-- ---- where a key stands

-- blocks in front of one that begins before the key have only keys before it
before_block : (d : Direction) (key file : List ℕ) (bs : List Indexed) (n : ℕ) → IsInOrder (version_cmp d) (lists_of file bs) → AllByRecursion (Begins file) bs → n < length bs → is_lt (key_cmp d (get_or bs n no_block).key key) ≡ true → AllByRecursion (λ v. is_lt (key_cmp d v.key key) ≡ true) (lists_of file (take n bs))
before_block d key file bs zero order begin lt before = tt
before_block d key file [] (suc n) order begin lt before = absurd (omega (arith, lt))
before_block d key file (b ∷ bs) (suc n) order begin lt before =
    let parts = order_split d (list_at file b) (lists_of file bs) order in
    each-append (λ v. is_lt (key_cmp d v.key key) ≡ true) (list_at file b) (lists_of file (take n bs)) (go (list_at file b) parts.2) (before_block d key file bs n parts.1 begin.1 (omega (arith, lt)) before)
  where
    go : (xs : List Version) → AllByRecursion (λ v. IsAtFront (version_cmp d) v (lists_of file bs)) xs → AllByRecursion (λ v. is_lt (key_cmp d v.key key) ≡ true) xs
    go [] all = tt
    go (x ∷ xs) all =
        let first = at_block (λ w. is_gt (version_cmp d x w) ≡ false) file bs n all.0 begin.1 (omega (arith, lt)) in
        let le : is_gt (key_cmp d x.key first.0.key) ≡ false = key_upto d x first.0 first.1 in
        let lt_w : is_lt (key_cmp d first.0.key key) ≡ true = subst (λ (k : List ℕ). is_lt (key_cmp d k key) ≡ true) (sym first.2) before in
        (true_from_ne_false _ (λ late. let no : is_lt (key_cmp d first.0.key key) ≡ false = Rattle.mr_iter.specs.Order.not_before (key_cmp d) (key_total d) x.key first.0.key key le late in cc), go xs all.1)

-- all versions of a list in order are from its first one on
front_keys : (d : Direction) (P : List ℕ → Type 0) (v : Version) (vs : List Version) → ((w : Version) → is_gt (key_cmp d v.key w.key) ≡ false → P w.key) → IsAtFront (version_cmp d) v vs → AllByRecursion (λ w. P w.key) vs
front_keys d P v [] law all = tt
front_keys d P v (w ∷ ws) law all = (law w (key_upto d v w all.0), front_keys d P v ws law all.1)

from_block : (d : Direction) (P : List ℕ → Type 0) (file : List ℕ) (bs : List Indexed) → ((k l : List ℕ) → P k → is_gt (key_cmp d k l) ≡ false → P l) → IsInOrder (version_cmp d) (lists_of file bs) → AllByRecursion (Begins file) bs → (0 < length bs → P (get_or bs 0 no_block).key) → AllByRecursion (λ w. P w.key) (lists_of file bs)
from_block d P file [] law order begin first = tt
from_block d P file (b ∷ bs) law order begin first =
    let v = begin.0.version in
    let here : P begin.0.version.key = subst P (sym begin.0.key) (first (omega arith)) in
    let all : IsInOrder (version_cmp d) ((begin.0.version ∷ begin.0.rest) ++ lists_of file bs) = subst (λ (xs : List Version). IsInOrder (version_cmp d) (xs ++ lists_of file bs)) begin.0.list order in
    subst (λ (xs : List Version). AllByRecursion (λ w. P w.key) (xs ++ lists_of file bs)) (sym begin.0.list) (here, front_keys d P begin.0.version (begin.0.rest ++ lists_of file bs) (λ w le. law begin.0.version.key w.key here le) all.0)

pub lists-append : (file : List ℕ) (bs cs : List Indexed) → lists_of file (bs ++ cs) ≡ lists_of file bs ++ lists_of file cs
lists-append file [] cs = refl
lists-append file (b ∷ bs) cs = ap (λ (xs : List Version). list_at file b ++ xs) (lists-append file bs cs) ∙ sym (append_assoc (list_at file b) (lists_of file bs) (lists_of file cs))

pub lists-split : (file : List ℕ) (n : ℕ) (bs : List Indexed) → lists_of file bs ≡ lists_of file (take n bs) ++ lists_of file (drop n bs)
lists-split file n bs = ap (lists_of file) (sym (take-append-drop n bs)) ∙ lists-append file (take n bs) (drop n bs)

pub drop_begins : (file : List ℕ) (n : ℕ) (bs : List Indexed) → AllByRecursion (Begins file) bs → AllByRecursion (Begins file) (drop n bs)
drop_begins file zero bs all = all
drop_begins file (suc n) [] all = tt
drop_begins file (suc n) (b ∷ bs) all = drop_begins file n bs all.1

pub drop_order : (d : Direction) (file : List ℕ) (n : ℕ) (bs : List Indexed) → IsInOrder (version_cmp d) (lists_of file bs) → IsInOrder (version_cmp d) (lists_of file (drop n bs))
drop_order d file n bs order = (order_split d (lists_of file (take n bs)) (lists_of file (drop n bs)) (subst (IsInOrder (version_cmp d)) (lists-split file n bs) order)).1

get_drop : (n : ℕ) (bs : List Indexed) → get_or (drop n bs) 0 no_block ≡ get_or bs n no_block
get_drop zero bs = refl
get_drop (suc n) [] = refl
get_drop (suc n) (b ∷ bs) = get_drop n bs

-- the versions in the blocks in front of those of the key come before it
pub all_before : (d : Direction) (key file : List ℕ) (bs : List Indexed) → IsInOrder (version_cmp d) (lists_of file bs) → AllByRecursion (Begins file) bs → AllByRecursion (λ v. is_lt (key_cmp d v.key key) ≡ true) (lists_of file (take (first_block d key bs) bs))
all_before d key file bs order begin = elim (Rattle.std.proofs.lemmas.Bool.cases_lt 0 (prefix_len (is_before d key) bs)) [
  | inl some ↦
      before_block d key file bs (first_block d key bs) order begin (omega (arith, some, prefix_len-le-length (is_before d key) bs))
      (prefix_len_passes (is_before d key) bs (first_block d key bs) no_block (omega (arith, some)))
  | inr none ↦ let z : first_block d key bs ≡ 0 = omega (arith, none) in subst (λ (n : ℕ). AllByRecursion (λ v. is_lt (key_cmp d v.key key) ≡ true) (lists_of file (take n bs))) (sym z) tt
]

is_behind_on : (d : Direction) (key k l : List ℕ) → is_gt (key_cmp d k key) ≡ true → is_gt (key_cmp d k l) ≡ false → is_gt (key_cmp d l key) ≡ true
is_behind_on d key k l gt le = true_from_ne_false _ (λ no. let e : is_gt (key_cmp d k key) ≡ false = upto (key_total d) k l key le no in cc)

is_from_on : (d : Direction) (key k l : List ℕ) → is_lt (key_cmp d k key) ≡ false → is_gt (key_cmp d k l) ≡ false → is_lt (key_cmp d l key) ≡ false
is_from_on d key k l from le = Rattle.mr_iter.specs.Order.not_before (key_cmp d) (key_total d) k l key le from

-- the versions in the blocks behind those of the key come behind it
pub all_behind : (d : Direction) (key file : List ℕ) (bs : List Indexed) → IsInOrder (version_cmp d) (lists_of file bs) → AllByRecursion (Begins file) bs → AllByRecursion (λ v. is_gt (key_cmp d v.key key) ≡ true) (lists_of file (drop (behind_block d key bs) bs))
all_behind d key file bs order begin =
    from_block d (λ k. is_gt (key_cmp d k key) ≡ true) file (drop (behind_block d key bs) bs) (λ k l. is_behind_on d key k l) (drop_order d file (behind_block d key bs) bs order) (drop_begins file (behind_block d key bs) bs begin)
    (λ some.
    let lt : prefix_len (is_upto d key) bs < length bs = omega (arith, some, Rattle.std.proofs.Common.length-drop (behind_block d key bs) bs) in
    let stop : is_upto d key (get_or bs (behind_block d key bs) no_block) ≡ false = prefix_len_stops (is_upto d key) bs no_block lt in
    subst (λ (b : Indexed). is_gt (key_cmp d b.key key) ≡ true) (sym (get_drop (behind_block d key bs) bs)) (not_true _ stop))

-- the versions from the first block on that doesn't begin before the key aren't before it
pub all_from : (d : Direction) (key file : List ℕ) (bs : List Indexed) → IsInOrder (version_cmp d) (lists_of file bs) → AllByRecursion (Begins file) bs → AllByRecursion (λ v. is_lt (key_cmp d v.key key) ≡ false) (lists_of file (drop (prefix_len (is_before d key) bs) bs))
all_from d key file bs order begin =
    from_block d (λ k. is_lt (key_cmp d k key) ≡ false) file (drop (prefix_len (is_before d key) bs) bs) (λ k l. is_from_on d key k l) (drop_order d file (prefix_len (is_before d key) bs) bs order) (drop_begins file (prefix_len (is_before d key) bs) bs begin)
    (λ some.
    let lt : prefix_len (is_before d key) bs < length bs = omega (arith, some, Rattle.std.proofs.Common.length-drop (prefix_len (is_before d key) bs) bs) in
    subst (λ (b : Indexed). is_lt (key_cmp d b.key key) ≡ false) (sym (get_drop (prefix_len (is_before d key) bs) bs)) (prefix_len_stops (is_before d key) bs no_block lt))

-- ---- searches

pub from_before : (d : Direction) (key : List ℕ) (xs ys : List Version) → AllByRecursion (λ v. is_lt (key_cmp d v.key key) ≡ true) xs → from_key d key (xs ++ ys) ≡ from_key d key ys
from_before d key [] ys all = refl
from_before d key (x ∷ xs) ys all = rw all.0 (from_before d key xs ys all.1)

pub from_all : (d : Direction) (key : List ℕ) (xs : List Version) → AllByRecursion (λ v. is_lt (key_cmp d v.key key) ≡ false) xs → from_key d key xs ≡ xs
from_all d key [] all = refl
from_all d key (x ∷ xs) all = rw all.0 (ap (λ (ys : List Version). x ∷ ys) (from_all d key xs all.1))

turned : (a b : Ordering) → b ≡ ordering_reverse a → is_lt a ≡ true → is_eq b ≡ false
turned Less b e lt = rw e
turned Equal b e lt = cc
turned Greater b e lt = cc

turned_gt : (a b : Ordering) → b ≡ ordering_reverse a → is_gt a ≡ true → is_eq b ≡ false
turned_gt Less b e gt = cc
turned_gt Equal b e gt = cc
turned_gt Greater b e gt = rw e

lt_other : (a : Ordering) → is_lt a ≡ true → is_eq a ≡ false
lt_other Less lt = refl
lt_other Equal lt = cc
lt_other Greater lt = cc

gt_other : (a : Ordering) → is_gt a ≡ true → is_eq a ≡ false
gt_other Less gt = cc
gt_other Equal gt = cc
gt_other Greater gt = refl

before_other : (d : Direction) (key : List ℕ) (v : Version) → is_lt (key_cmp d v.key key) ≡ true → is_of key v ≡ false
before_other Forward key v lt = turned (slice_cmp nat_cmp v.key key) (slice_cmp nat_cmp key v.key) (nat_list_cmp_total.antisymm key v.key) lt
before_other Reverse key v lt = lt_other (slice_cmp nat_cmp key v.key) lt

behind_other : (d : Direction) (key : List ℕ) (v : Version) → is_gt (key_cmp d v.key key) ≡ true → is_of key v ≡ false
behind_other Forward key v gt = turned_gt (slice_cmp nat_cmp v.key key) (slice_cmp nat_cmp key v.key) (nat_list_cmp_total.antisymm key v.key) gt
behind_other Reverse key v gt = gt_other (slice_cmp nat_cmp key v.key) gt

and_false : (a b : Bool) → b ≡ false → (a && b) ≡ false
and_false true b e = e
and_false false b e = refl

none_before : (d : Direction) (number : ℕ) (key : List ℕ) (xs ys : List Version) → AllByRecursion (λ v. is_lt (key_cmp d v.key key) ≡ true) xs → newest number key (xs ++ ys) ≡ newest number key ys
none_before d number key [] ys all = refl
none_before d number key (x ∷ xs) ys all = let e : is_at number key x ≡ false = and_false _ (is_of key x) (before_other d key x all.0) in rw e (none_before d number key xs ys all.1)

none_of : (d : Direction) (number : ℕ) (key : List ℕ) (xs : List Version) → AllByRecursion (λ v. is_gt (key_cmp d v.key key) ≡ true) xs → newest number key xs ≡ None
none_of d number key [] all = refl
none_of d number key (x ∷ xs) all = let e : is_at number key x ≡ false = and_false _ (is_of key x) (behind_other d key x all.0) in rw e (none_of d number key xs all.1)

none_behind : (d : Direction) (number : ℕ) (key : List ℕ) (xs ys : List Version) → AllByRecursion (λ v. is_gt (key_cmp d v.key key) ≡ true) ys → newest number key (xs ++ ys) ≡ newest number key xs
none_behind d number key [] ys all = none_of d number key ys all
none_behind d number key (x ∷ xs) ys all = elim (cases_Bool (is_at number key x)) [
  | inl y ↦ rw y
  | inr n ↦ rw n (none_behind d number key xs ys all)
]

less_upto : (a : Ordering) → is_lt a ≡ true → not (is_gt a) ≡ true
less_upto Less e = refl
less_upto Equal e = cc
less_upto Greater e = cc

before_upto : (d : Direction) (key : List ℕ) (bs : List Indexed) → prefix_len (is_before d key) bs ≤ prefix_len (is_upto d key) bs
before_upto d key [] = omega arith
before_upto d key (b ∷ bs) = elim (cases_Bool (is_lt (key_cmp d b.key key))) [
  | inl before ↦ let also : is_upto d key b ≡ true = less_upto (key_cmp d b.key key) before in rw (before, also) (omega (arith, before_upto d key bs))
  | inr other ↦ rw other (omega arith)
]

pub newest_in_blocks : (d : Direction) (number : ℕ) (key file : List ℕ) (bs : List Indexed) → IsInOrder (version_cmp d) (lists_of file bs) → AllByRecursion (Begins file) bs → newest number key (lists_of file bs) ≡ newest number key (lists_of file (blocks_with d key bs))
newest_in_blocks d number key file bs order begin =
    let n = first_block d key bs in
    let m = behind_block d key bs in
    let le : first_block d key bs ≤ behind_block d key bs = omega (arith, before_upto d key bs) in
    let rest : drop (behind_block d key bs - first_block d key bs) (drop (first_block d key bs) bs) ≡ drop (behind_block d key bs) bs = drop-drop (behind_block d key bs - first_block d key bs) (first_block d key bs) bs ∙ ap (λ (k : ℕ). drop k bs) (let e : first_block d key bs + (behind_block d key bs - first_block d key bs) ≡ behind_block d key bs = omega (arith, le) in e) in
    ap (newest number key) (lists-split file n bs)
    ∙ none_before d number key (lists_of file (take n bs)) (lists_of file (drop n bs)) (all_before d key file bs order begin)
    ∙ ap (newest number key) (lists-split file (m - n) (drop n bs))
    ∙ none_behind d number key (lists_of file (blocks_with d key bs)) (lists_of file (drop (m - n) (drop n bs))) (subst (λ (cs : List Indexed). AllByRecursion (λ v. is_gt (key_cmp d v.key key) ≡ true) (lists_of file cs)) (sym rest) (all_behind d key file bs order begin))

pub from_blocks : (d : Direction) (key file : List ℕ) (bs : List Indexed) → IsInOrder (version_cmp d) (lists_of file bs) → AllByRecursion (Begins file) bs → from_key d key (lists_of file bs) ≡ from_key d key (lists_of file (drop (first_block d key bs) bs))
from_blocks d key file bs order begin =
    let n = first_block d key bs in
    ap (from_key d key) (lists-split file n bs) ∙ from_before d key (lists_of file (take n bs)) (lists_of file (drop n bs)) (all_before d key file bs order begin)

-- ---- of a run

pub run_order : (d : Direction) (file : List ℕ) (bs : List Indexed) (vs : List Version) → Lists file bs vs → IsInOrder (version_cmp d) vs → IsInOrder (version_cmp d) (lists_of file bs)
run_order d file bs vs lists order = subst (IsInOrder (version_cmp d)) lists.list order

pub first_is : (file : List ℕ) (bs : List Indexed) (vs : List Version) → Lists file bs vs → (get_or bs 0 no_block).key ≡ first_key vs
first_is file [] vs lists = ap first_key (sym lists.list)
first_is file (b ∷ bs) vs lists =
    let here : vs ≡ (lists.begin.0.version ∷ lists.begin.0.rest) ++ lists_of file bs = lists.list ∙ ap (λ (xs : List Version). xs ++ lists_of file bs) lists.begin.0.list in
    sym lists.begin.0.key ∙ ap first_key (sym here)
