-- Laws of a cursor over a run.
use Rattle.std.specs.Prelude.{◌≡◌, ◌||◌, ◌&&◌, ◌==◌, ℕ, ◌+◌, ◌-◌, ◌*◌, ◌<◌, ◌≤◌, Bool, true, false, not, IsTrue, List, [], ◌∷◌, ◌++◌, length, take, drop, get_or, nat_le, nat_lt, min, refl, Option, Some, None, is_some, Result, Ok, Err}
use Rattle.std.proofs.Common.{sym, ◌∙◌, ap, subst, arith, suc, zero, add-one, inl, inr, append_assoc, length-drop, length-append}
use Rattle.std.specs.List.{AllByRecursion, prefix_len}
use Rattle.std.specs.declared.cmp.Ordering.{Ordering}
use Rattle.std.specs.Ordering.{is_gt}
use Rattle.std.proofs.lemmas.Cmp.{tied_itself}
use Rattle.std.proofs.lemmas.Bool.{ltb-true, leb-true, eqb-true, cases_Bool}
use Rattle.std.proofs.lemmas.List.Sums.{prefix_len-le-length}
use Rattle.mr_base.specs.Disk.{Image}
use Rattle.mr_base.specs.declared.stop.Direction.{Direction}
use Rattle.mr_iter.specs.Versions.{Version, version_cmp, IsAtFront, IsInOrder, first, is_strict}
use Rattle.mr_iter.specs.Order.{version_total}
use Rattle.mr_iter.specs.Places.{and_split, in_order-drop, drop_all}
use Rattle.mr_iter.specs.Cursors.{CursorState, with_current, left, SaysSame, SameFiles, IsInPlace, IsWithinBound, GrowsToEnd}
use Rattle.mr_block.specs.Block.{list_of}
use Rattle.mr_block.specs.Fields.{◌>>=◌}
use Rattle.mr_run_file.specs.Reading.{Indexed, Index, IsRun, demand, structure_in, versions_at, recorded_in, run_in}
use Rattle.mr_run_open.specs.Runs.{RunState, HasIndex, first_block, are_in_order, no_block}
use Rattle.mr_run_open.specs.Blocks.{list_at, lists_of, AreBlocks}
use Rattle.mr_run_open.proofs.Indexing.{bound}
use Rattle.mr_run_open.proofs.Sizes.{each_at}
use Rattle.mr_run_open.proofs.Ranges.{Begins, Lists, Parts, run_parts, lists-split, order_split, each_split, in_order, run_order}
use Rattle.mr_run_cursor.specs.Pinned.{sizes, between, run_list, begins_upto, is_from_block, blocks_to, current_of, rest_of, steps_of, pinned_at, HoldsBlock, IsWhole, IsRunOffence, stands}

-- ---- lists

pub drop_front : (xs ys : List Version) (n : ℕ) → drop (length xs + n) (xs ++ ys) ≡ drop n ys
drop_front [] ys n = ap (λ (k : ℕ). drop k ys) (let e : 0 + n ≡ n = omega arith in e)
drop_front (x ∷ xs) ys n = ap (λ (k : ℕ). drop k (x ∷ (xs ++ ys))) (let e : length (x ∷ xs) + n ≡ suc (length xs + n) = omega arith in e) ∙ drop_front xs ys n

pub drop_within : (xs ys : List Version) (n : ℕ) → n ≤ length xs → drop n (xs ++ ys) ≡ drop n xs ++ ys
drop_within xs ys zero le = refl
drop_within [] ys (suc n) le = absurd (omega (arith, le))
drop_within (x ∷ xs) ys (suc n) le = drop_within xs ys n (omega (arith, le))

-- an entry and those behind it, and what stands behind the block
pub left_some : (vs more : List Version) (at : ℕ) → at < length vs → with_current (first (drop at vs)) (drop (at + 1) vs ++ more) ≡ drop at vs ++ more
left_some vs more at lt = ap (λ (n : ℕ). with_current (first (drop at vs)) (drop n vs ++ more)) (add-one at) ∙ go vs at lt
  where
    go : (vs : List Version) (at : ℕ) → at < length vs → with_current (first (drop at vs)) (drop (suc at) vs ++ more) ≡ drop at vs ++ more
    go [] at lt = absurd (omega (arith, lt))
    go (v ∷ vs) zero lt = refl
    go (v ∷ vs) (suc at) lt = go vs at (omega (arith, lt))

pub stands_on : (vs : List Version) (at : ℕ) → at < length vs → (v : Version) × (rest : List Version) × (drop at vs ≡ v ∷ rest)
stands_on [] at lt = absurd (omega (arith, lt))
stands_on (v ∷ vs) zero lt = (v, vs, refl)
stands_on (v ∷ vs) (suc at) lt = stands_on vs at (omega (arith, lt))

-- ---- sizes

pub sizes_drop : (bs : List Indexed) (n : ℕ) → n < length bs → sizes (drop n bs) ≡ (get_or bs n no_block).size + sizes (drop (n + 1) bs)
sizes_drop bs n lt = go bs n lt ∙ ap (λ (k : ℕ). (get_or bs n no_block).size + sizes (drop k bs)) (sym (add-one n))
  where
    go : (bs : List Indexed) (n : ℕ) → n < length bs → sizes (drop n bs) ≡ (get_or bs n no_block).size + sizes (drop (suc n) bs)
    go [] n lt = absurd (omega (arith, lt))
    go (b ∷ bs) zero lt = refl
    go (b ∷ bs) (suc n) lt = go bs n (omega (arith, lt))

pub sizes_behind : (bs : List Indexed) (n : ℕ) → sizes (drop n bs) ≤ sizes bs
sizes_behind bs zero = omega arith
sizes_behind [] (suc n) = omega arith
sizes_behind (b ∷ bs) (suc n) = omega (arith, sizes_behind bs n)

pub sizes_take : (bs : List Indexed) (n m : ℕ) → n ≤ m → sizes (take n bs) ≤ sizes (take m bs)
sizes_take bs zero m le = omega arith
sizes_take bs (suc n) zero le = absurd (omega (arith, le))
sizes_take [] (suc n) (suc m) le = omega arith
sizes_take (b ∷ bs) (suc n) (suc m) le = omega (arith, sizes_take bs n m (omega (arith, le)))

pub sizes_between : (bs : List Indexed) (start n m : ℕ) → n ≤ m → sizes (between start n bs) ≤ sizes (between start m bs)
sizes_between bs start n m le = sizes_take (drop start bs) (n - start) (m - start) (omega (arith, le))

-- ---- a whole cursor

pub record StandsOn (r : RunState) (start end at : ℕ) (vs : List Version) : Type 0 where
  pub begun : start < end
  pub upto : end ≤ length r.index.blocks
  pub entry : at < length vs
  pub few : length vs ≤ (get_or r.index.blocks (end - 1) no_block).size

pub on_block : (r : RunState) (start end at : ℕ) (vs : List Version) → stands r start end at (Some vs) ≡ true → StandsOn r start end at vs
on_block r start end at vs is =
    let a = and_split (nat_lt start end && nat_le end (length r.index.blocks) && nat_lt at (length vs)) (nat_le (length vs) (get_or r.index.blocks (end - 1) no_block).size) is in
    let b = and_split (nat_lt start end && nat_le end (length r.index.blocks)) (nat_lt at (length vs)) a.0 in
    let c = and_split (nat_lt start end) (nat_le end (length r.index.blocks)) b.0 in
    record { begun = ltb-true start end c.0; upto = leb-true end (length r.index.blocks) c.1; entry = ltb-true at (length vs) b.1; few = leb-true (length vs) (get_or r.index.blocks (end - 1) no_block).size a.1 }

-- however it stands
pub upto_end : (r : RunState) (start end at : ℕ) (block : Option (List Version)) → stands r start end at block ≡ true → (start ≤ end) × (end ≤ length r.index.blocks)
upto_end r start end at None is = let a = and_split (nat_le start end) (nat_le end (length r.index.blocks)) is in (leb-true start end a.0, leb-true end (length r.index.blocks) a.1)
upto_end r start end at (Some vs) is = let on = on_block r start end at vs is in (omega (arith, on.begun), on.upto)

pub whole_lists : (r : RunState) (end : ℕ) (block : Option (List Version)) (image : Image) → IsWhole r end block image → Lists (image r.file) r.index.blocks (run_list r image)
whole_lists r end block image whole =
    let structure = bound (demand (length (image r.file) == r.length) (min (length (image r.file)) r.length)) _ r.index whole.index in
    (run_parts r.entries (image r.file) (run_list r image) r.index whole.run.0 structure.next).lists

pub whole_order : (r : RunState) (end : ℕ) (block : Option (List Version)) (image : Image) → IsWhole r end block image → IsInOrder (version_cmp r.direction) (lists_of (image r.file) r.index.blocks)
whole_order r end block image whole = run_order r.direction (image r.file) r.index.blocks (run_list r image) (whole_lists r end block image whole) whole.run.1

pub whole_keys : (r : RunState) (end : ℕ) (block : Option (List Version)) (image : Image) → IsWhole r end block image → are_in_order r.direction r.index.blocks ≡ true
whole_keys r end block image whole = in_order r.direction (image r.file) r.index.blocks (whole_order r end block image whole) (whole_lists r end block image whole).begin

pub lists_drop : (file : List ℕ) (bs : List Indexed) (n : ℕ) → n < length bs → lists_of file (drop n bs) ≡ list_at file (get_or bs n no_block) ++ lists_of file (drop (n + 1) bs)
lists_drop file bs n lt = go bs n lt ∙ ap (λ (k : ℕ). list_at file (get_or bs n no_block) ++ lists_of file (drop k bs)) (sym (add-one n))
  where
    go : (bs : List Indexed) (n : ℕ) → n < length bs → lists_of file (drop n bs) ≡ list_at file (get_or bs n no_block) ++ lists_of file (drop (suc n) bs)
    go [] n lt = absurd (omega (arith, lt))
    go (b ∷ bs) zero lt = refl
    go (b ∷ bs) (suc n) lt = go bs n (omega (arith, lt))

pub held_list : (file : List ℕ) (bs : List Indexed) (end : ℕ) (vs : List Version) → 0 < end → end ≤ length bs → versions_at file (get_or bs (end - 1) no_block) ≡ Ok vs → lists_of file bs ≡ lists_of file (take (end - 1) bs) ++ (vs ++ lists_of file (drop end bs))
held_list file bs end vs some le is =
    lists-split file (end - 1) bs
    ∙ ap (λ (xs : List Version). lists_of file (take (end - 1) bs) ++ xs) (lists_drop file bs (end - 1) (omega (arith, some, le))
    ∙ ap (λ (n : ℕ). list_at file (get_or bs (end - 1) no_block) ++ lists_of file (drop n bs)) (let e : end - 1 + 1 ≡ end = omega (arith, some) in e)
    ∙ ap (λ (xs : List Version). xs ++ lists_of file (drop end bs)) (ap list_of is))

-- ---- the laws

pub pinned_not_whole : (r : RunState) (end : ℕ) (block : Option (List Version)) (image : Image) (file at : ℕ) → IsRunOffence r image file at → IsWhole r end block image → ⊥
pinned_not_whole r end block image file at offence whole =
    let here : versions_at (image r.file) (get_or r.index.blocks offence.block no_block) ≡ Ok (list_at (image r.file) (get_or r.index.blocks offence.block no_block)) = each_at (λ b. versions_at (image r.file) b ≡ Ok (list_at (image r.file) b)) r.index.blocks offence.block offence.within (whole_lists r end block image whole).blocks in
    let no : Err at ≡ Ok (list_at (image r.file) (get_or r.index.blocks offence.block no_block)) = sym offence.offence ∙ here in
    cc

pub pinned_in_place : (r : RunState) (start end at : ℕ) (block : Option (List Version)) (image : Image) → stands r start end at block ≡ true → IsWhole r end block image → IsInPlace (pinned_at r start end at block) image
pinned_in_place r start end at None image is whole = record { passed = length (run_list r image); rest = sym (drop_all (run_list r image)) }
pinned_in_place r start end at (Some vs) image is whole =
    let on = on_block r start end at vs is in
    let front = lists_of (image r.file) (take (end - 1) r.index.blocks) in
    let more = lists_of (image r.file) (drop end r.index.blocks) in
    let all : run_list r image ≡ lists_of (image r.file) (take (end - 1) r.index.blocks) ++ (vs ++ lists_of (image r.file) (drop end r.index.blocks)) = (whole_lists r end (Some vs) image whole).list ∙ held_list (image r.file) r.index.blocks end vs (omega (arith, on.begun)) on.upto whole.block_held in
    record {
      passed = length front + at;
      rest = left_some vs more at on.entry ∙ sym (drop_within vs more at (omega (arith, on.entry))) ∙ sym (drop_front front (vs ++ more) at) ∙ ap (drop (length front + at)) (sym all);
    }

pub pinned_in_order : (r : RunState) (start end at : ℕ) (block : Option (List Version)) (image : Image) → stands r start end at block ≡ true → IsWhole r end block image → IsInOrder (version_cmp r.direction) (left (pinned_at r start end at block) image) × IsInOrder (version_cmp r.direction) (run_list r image)
pinned_in_order r start end at block image is whole =
    let place = pinned_in_place r start end at block image is whole in
    (subst (IsInOrder (version_cmp r.direction)) (sym place.rest) (in_order-drop r.direction (run_list r image) place.passed whole.run.1), whole.run.1)

held_by : (r : RunState) (end : ℕ) (block : Option (List Version)) (i j : Image) → i r.file ≡ j r.file → HoldsBlock r end block i → HoldsBlock r end block j
held_by r end None i j same held = tt
held_by r end (Some vs) i j same held = subst (λ (f : List ℕ). versions_at f (get_or r.index.blocks (end - 1) no_block) ≡ Ok vs) same held

to_by : (r : RunState) (i j : Image) (place : Option Version) → i r.file ≡ j r.file → blocks_to r i place ≡ blocks_to r j place
to_by r i j None same = refl
to_by r i j (Some v) same = ap (λ (f : List ℕ). prefix_len (is_from_block r.direction v f) r.index.blocks) same

pub pinned_by_files : (r : RunState) (start end at : ℕ) (block : Option (List Version)) (i j : Image) → SameFiles (r.file ∷ []) i j → IsWhole r end block i → IsWhole r end block j × (Unit {0} → Unit {0}) × SaysSame (pinned_at r start end at block) i j
pinned_by_files r start end at block i j same whole = (
  record {
    index = subst (λ (f : List ℕ). recorded_in r.length r.entries f ≡ Ok r.index) same.0 whole.index;
    run = subst (λ (f : List ℕ). IsRun r.direction r.entries f (list_of (run_in r.entries f))) same.0 whole.run;
    block_held = held_by r end block i j same.0 whole.block_held;
  },
  (λ u. u),
  record {
    versions = ap (λ (f : List ℕ). list_of (run_in r.entries f)) same.0;
    rest = ap (λ (f : List ℕ). rest_of block at ++ lists_of f (drop end r.index.blocks)) same.0;
    distinct = ap (λ (f : List ℕ). is_strict r.direction (list_of (run_in r.entries f))) same.0;
    reads_to = λ key place. ap (λ (n : ℕ). n - first_block r.direction key r.index.blocks) (to_by r i j place same.0);
    asked_to = λ key place. ap (λ (n : ℕ). sizes (between (first_block r.direction key r.index.blocks) n r.index.blocks)) (to_by r i j place same.0);
  },
)

pub pinned_offends_by_files : (r : RunState) (i j : Image) (file at : ℕ) → SameFiles (r.file ∷ []) i j → IsRunOffence r i file at → IsRunOffence r j file at
pinned_offends_by_files r i j file at same offence = record {
  block = offence.block;
  within = offence.within;
  is_file = offence.is_file;
  offence = subst (λ (f : List ℕ). versions_at f (get_or r.index.blocks offence.block no_block) ≡ Err at) same.0 offence.offence;
}

-- a version isn't before the first one of its block, and of those in front of it
each_in : (P : Version → Type 0) (xs : List Version) (n : ℕ) (v : Version) (rest : List Version) → AllByRecursion P xs → drop n xs ≡ v ∷ rest → P v
each_in P [] zero v rest all is = cc
each_in P [] (suc n) v rest all is = cc
each_in P (x ∷ xs) zero v rest all is = let e : x ≡ v = cc in subst P e all.0
each_in P (x ∷ xs) (suc n) v rest all is = each_in P xs n v rest all.1 is

in_blocks : (P : Version → Type 0) (file : List ℕ) (bs : List Indexed) (m n : ℕ) (v : Version) (rest : List Version) → AllByRecursion P (lists_of file bs) → m < length bs → drop n (list_at file (get_or bs m no_block)) ≡ v ∷ rest → P v
in_blocks P file [] m n v rest all lt is = absurd (omega (arith, lt))
in_blocks P file (b ∷ bs) zero n v rest all lt is = each_in P (list_at file b) n v rest (each_split P (list_at file b) (lists_of file bs) all).0 is
in_blocks P file (b ∷ bs) (suc m) n v rest all lt is = in_blocks P file bs m n v rest (each_split P (list_at file b) (lists_of file bs) all).1 (omega (arith, lt)) is

first_upto : (d : Direction) (w : Version) (ws : List Version) (n : ℕ) (v : Version) (rest : List Version) → IsInOrder (version_cmp d) (w ∷ ws) → drop n (w ∷ ws) ≡ v ∷ rest → is_gt (version_cmp d w v) ≡ false
first_upto d w ws n v rest order is = each_in (λ x. is_gt (version_cmp d w x) ≡ false) (w ∷ ws) n v rest (itself, order.0) is
  where
    itself : is_gt (version_cmp d w w) ≡ false
    itself = rw (tied_itself (version_total d) w)

blocks_upto : (d : Direction) (file : List ℕ) (bs : List Indexed) (m n : ℕ) (v : Version) (rest : List Version) → IsInOrder (version_cmp d) (lists_of file bs) → AllByRecursion (Begins file) bs → m < length bs → drop n (list_at file (get_or bs m no_block)) ≡ v ∷ rest → m + 1 ≤ prefix_len (is_from_block d v file) bs
blocks_upto d file [] m n v rest order begin lt is = absurd (omega (arith, lt))
blocks_upto d file (b ∷ bs) zero n v rest order begin lt is =
    let parts = order_split d (list_at file b) (lists_of file bs) order in
    let here : is_gt (version_cmp d begin.0.version v) ≡ false = first_upto d begin.0.version begin.0.rest n v rest (subst (IsInOrder (version_cmp d)) begin.0.list parts.0) (ap (drop n) (sym begin.0.list) ∙ is) in
    let yes : is_from_block d v file b ≡ true = ap (begins_upto d v) begin.0.list ∙ ap not here in
    rw yes (omega arith)
blocks_upto d file (b ∷ bs) (suc m) n v rest order begin lt is =
    let parts = order_split d (list_at file b) (lists_of file bs) order in
    let front : AllByRecursion (λ x. IsAtFront (version_cmp d) x (lists_of file bs)) (begin.0.version ∷ begin.0.rest) = subst (AllByRecursion (λ x. IsAtFront (version_cmp d) x (lists_of file bs))) begin.0.list parts.2 in
    let here : is_gt (version_cmp d begin.0.version v) ≡ false = in_blocks (λ x. is_gt (version_cmp d begin.0.version x) ≡ false) file bs m n v rest front.0 (omega (arith, lt)) is in
    let yes : is_from_block d v file b ≡ true = ap (begins_upto d v) begin.0.list ∙ ap not here in
    rw yes (omega (arith, blocks_upto d file bs m n v rest parts.1 begin.1 (omega (arith, lt)) is))

-- the blocks that it has read are those up to the version that it stands on
reaches : (r : RunState) (start end at : ℕ) (block : Option (List Version)) (image : Image) → stands r start end at block ≡ true → IsWhole r end block image → end ≤ blocks_to r image (current_of block at)
reaches r start end at None image is whole = (upto_end r start end at None is).1
reaches r start end at (Some vs) image is whole =
    let on = on_block r start end at vs is in
    let v = stands_on vs at on.entry in
    let lists = whole_lists r end (Some vs) image whole in
    let same : drop at (list_at (image r.file) (get_or r.index.blocks (end - 1) no_block)) ≡ v.0 ∷ v.1 = ap (drop at) (ap list_of whole.block_held) ∙ v.2 in
    let upto = blocks_upto r.direction (image r.file) r.index.blocks (end - 1) at v.0 v.1 (whole_order r end (Some vs) image whole) lists.begin (omega (arith, on.begun, on.upto)) same in
    let le : end ≤ prefix_len (is_from_block r.direction v.0 (image r.file)) r.index.blocks = omega (arith, upto, on.begun) in
    subst (λ (o : Option Version). end ≤ blocks_to r image o) (sym (ap first v.2)) le

pub sought_start : (sorted : Bool) (start first : ℕ) → sorted ≡ true → IsTrue (not sorted || (start == first)) → start ≡ first
sought_start true start first is sought = eqb-true start first sought
sought_start false start first is sought = cc

pub pinned_costs : (r : RunState) (start end at : ℕ) (block : Option (List Version)) (image : Image) (k : List ℕ) → stands r start end at block ≡ true → IsWhole r end block image → IsTrue (not (are_in_order r.direction r.index.blocks) || (start == first_block r.direction k r.index.blocks)) → IsWithinBound (pinned_at r start end at block) image k
pinned_costs r start end at block image k is whole sought =
    let same : start ≡ first_block r.direction k r.index.blocks = sought_start (are_in_order r.direction r.index.blocks) start (first_block r.direction k r.index.blocks) (whole_keys r end block image whole) sought in
    let upto = reaches r start end at block image is whole in
    record {
      reads = omega (arith, same, upto);
      asked = subst (λ (n : ℕ). sizes (between start end r.index.blocks) ≤ sizes (between n (blocks_to r image (current_of block at)) r.index.blocks)) same (sizes_between r.index.blocks start end (blocks_to r image (current_of block at)) upto);
    }

pub to_within : (r : RunState) (image : Image) (place : Option Version) → blocks_to r image place ≤ length r.index.blocks
to_within r image None = omega arith
to_within r image (Some v) = prefix_len-le-length (is_from_block r.direction v (image r.file)) r.index.blocks

pub pinned_to_end : (r : RunState) (start end at : ℕ) (block : Option (List Version)) (image : Image) (k : List ℕ) (place : Option Version) → GrowsToEnd (pinned_at r start end at block) image k place
pinned_to_end r start end at block image k place = record {
  reads = omega (arith, to_within r image place);
  asked = sizes_between r.index.blocks (first_block r.direction k r.index.blocks) (blocks_to r image place) (length r.index.blocks) (to_within r image place);
}

pub pinned_going : (r : RunState) (start end at : ℕ) (block : Option (List Version)) → stands r start end at block ≡ true → is_some (current_of block at) ≡ true → 0 < steps_of block at (sizes (drop end r.index.blocks))
pinned_going r start end at None is some = cc
pinned_going r start end at (Some vs) is some = let on = on_block r start end at vs is in omega (arith, on.entry)

pub pinned_bounded : (r : RunState) (start end at : ℕ) (block : Option (List Version)) → stands r start end at block ≡ true → steps_of block at (sizes (drop end r.index.blocks)) ≤ sizes r.index.blocks
pinned_bounded r start end at None is = omega arith
pinned_bounded r start end at (Some vs) is =
    let on = on_block r start end at vs is in
    let e : end - 1 + 1 ≡ end = omega (arith, on.begun) in
    let here : sizes (drop (end - 1) r.index.blocks) ≡ (get_or r.index.blocks (end - 1) no_block).size + sizes (drop end r.index.blocks) = sizes_drop r.index.blocks (end - 1) (omega (arith, on.begun, on.upto)) ∙ ap (λ (n : ℕ). (get_or r.index.blocks (end - 1) no_block).size + sizes (drop n r.index.blocks)) e in
    omega (arith, here, on.few, sizes_behind r.index.blocks (end - 1))
