-- Moves of a cursor over a run.
use Rattle.std.proofs.Common.{◌≡◌, ℕ, zero, suc, ◌+◌, ◌-◌, ◌<◌, ◌≤◌, ◌==◌, ◌||◌, ◌&&◌, List, [], ◌∷◌, ◌++◌, length, take, drop, get_or, min, refl, ap, sym, ◌∙◌, subst, arith, Bool, true, false, not, IsTrue, inl, inr, nat_lt, nat_le, filter, Option, Some, None, is_some, IsSome, IfSome, Ok}
use Rattle.std.specs.List.{AllByRecursion, prefix_len}
use Rattle.std.specs.Ordering.{is_lt}
use Rattle.std.proofs.lemmas.Bool.{ltb-true, ltb-false, lt-ltb, le-leb, eq-eqb, cases_Bool, cases_lt}
use Rattle.std.proofs.lemmas.List.{drop_all, drop-drop}
use Rattle.std.proofs.lemmas.List.Elements.{filter-append}
use Rattle.mr_base.specs.Disk.{State, Tells, Image, seen}
use Rattle.mr_base.specs.declared.stop.Stop.{Stop}
use Rattle.mr_base.specs.declared.stop.Stop.TheVariants.{Memory, Disk, Full, Damaged}
use Rattle.mr_iter.specs.Walks.{image_same}
use Rattle.mr_base.specs.Calls.{Counts, Reads, Same}
use Rattle.mr_base.proofs.Counting.{counts_more, counts_then, still_tells}
use Rattle.mr_base.specs.declared.stop.Direction.{Direction}
use Rattle.mr_iter.specs.Versions.{Version, key_cmp, version_cmp, IsInOrder, from_key, first}
use Rattle.mr_iter.specs.Cursors.{CountsStep, IsWithinEnd, MayStop, left, with_current}
use Rattle.mr_block.specs.Block.{list_of}
use Rattle.mr_run_file.specs.Reading.{Indexed, versions_at}
use Rattle.mr_run_open.specs.Runs.{RunState, first_block, are_in_order, is_before, no_block}
use Rattle.mr_run_open.specs.Blocks.{list_at, lists_of}
use Rattle.mr_run_open.proofs.Ranges.{Lists, Begins, all_from, from_all, from_blocks, lists-split, each_split, order_split, drop_order}
use Rattle.mr_run_cursor.specs.Pinned.{sizes, between, run_list, current_of, rest_of, steps_of, more_of, pinned_at, HoldsBlock, IsWhole, stands}
use Rattle.mr_run_cursor.specs.Laws.{left_some, sizes_drop, sizes_between, on_block, upto_end, whole_lists, whole_order, whole_keys, lists_drop, sought_start}

-- ---- sizes

take_none : (n : ℕ) → sizes (take n []) ≡ 0
take_none zero = refl
take_none (suc n) = refl

sizes_sum : (bs : List Indexed) (a b : ℕ) → sizes (take a bs) + sizes (take b (drop a bs)) ≡ sizes (take (a + b) bs)
sizes_sum bs zero b = let e : sizes (take b bs) ≡ sizes (take (0 + b) bs) = ap (λ (n : ℕ). sizes (take n bs)) (let f : b ≡ 0 + b = omega arith in f) in omega (arith, e)
sizes_sum [] (suc a) b = let e = take_none b in let f = take_none (suc a + b) in omega (arith, e, f)
sizes_sum (x ∷ xs) (suc a) b =
    let more = sizes_sum xs a b in
    let e : sizes (take (suc a + b) (x ∷ xs)) ≡ x.size + sizes (take (a + b) xs) = ap (λ (n : ℕ). sizes (take n (x ∷ xs))) (let f : suc a + b ≡ suc (a + b) = omega arith in f) in
    omega (arith, more, e)

between_sum : (bs : List Indexed) (start n m : ℕ) → start ≤ n → n ≤ m → sizes (between start n bs) + sizes (between n m bs) ≡ sizes (between start m bs)
between_sum bs start n m le le2 =
    let there : drop (n - start) (drop start bs) ≡ drop n bs = drop-drop (n - start) start bs ∙ ap (λ (k : ℕ). drop k bs) (let e : start + (n - start) ≡ n = omega (arith, le) in e) in
    let sum = sizes_sum (drop start bs) (n - start) (m - n) in
    let one : sizes (take (m - n) (drop (n - start) (drop start bs))) ≡ sizes (between n m bs) = ap (λ (cs : List Indexed). sizes (take (m - n) cs)) there in
    let all : sizes (take (n - start + (m - n)) (drop start bs)) ≡ sizes (between start m bs) = ap (λ (k : ℕ). sizes (take k (drop start bs))) (let e : n - start + (m - n) ≡ m - start = omega (arith, le, le2) in e) in
    omega (arith, sum, one, all)

one_size : (bs : List Indexed) (n : ℕ) → n < length bs → sizes (take 1 (drop n bs)) ≡ (get_or bs n no_block).size
one_size [] n lt = absurd (omega (arith, lt))
one_size (b ∷ bs) zero lt = omega arith
one_size (b ∷ bs) (suc n) lt = one_size bs n (omega (arith, lt))

-- ---- the next block

pub next_stands : (r : RunState) (start end e : ℕ) (o : Option (List Version)) → start ≤ end → end ≤ length r.index.blocks → e ≡ min (end + 1) (length r.index.blocks) → is_some o ≡ nat_lt end (length r.index.blocks) →
    IfSome o (λ vs. (0 < length vs) × (length vs ≤ (get_or r.index.blocks end no_block).size)) → stands r start e 0 o ≡ true
next_stands r start end e None le upto is some entries =
    let a : nat_le start e ≡ true = le-leb start e (omega (arith, le, upto, is)) in
    let b : nat_le e (length r.index.blocks) ≡ true = le-leb e (length r.index.blocks) (omega (arith, is)) in
    rw (a, b)
next_stands r start end e (Some vs) le upto is some entries =
    let lt : end < length r.index.blocks = ltb-true end (length r.index.blocks) (sym some) in
    let same : end ≡ e - 1 = omega (arith, is, lt) in
    let few : length vs ≤ (get_or r.index.blocks (e - 1) no_block).size = subst (λ (n : ℕ). length vs ≤ (get_or r.index.blocks n no_block).size) same entries.1 in
    let a : nat_lt start e ≡ true = lt-ltb start e (omega (arith, le, lt, is)) in
    let b : nat_le e (length r.index.blocks) ≡ true = le-leb e (length r.index.blocks) (omega (arith, is)) in
    let c : nat_lt 0 (length vs) ≡ true = lt-ltb 0 (length vs) entries.0 in
    let d : nat_le (length vs) (get_or r.index.blocks (e - 1) no_block).size ≡ true = le-leb (length vs) (get_or r.index.blocks (e - 1) no_block).size few in
    rw (a, b, c, d)

pub next_counts : (r : RunState) (start end e at : ℕ) (block o : Option (List Version)) (s t : State) → start ≤ end → end ≤ length r.index.blocks → e ≡ min (end + 1) (length r.index.blocks) →
    Counts (min (end + 1) (length r.index.blocks) - end) (sizes (between end (min (end + 1) (length r.index.blocks)) r.index.blocks)) 0 s t → CountsStep (pinned_at r start end at block) (pinned_at r start e 0 o) s t
next_counts r start end e at block o s t le upto is counts =
    let here : Counts (e - end) (sizes (between end e r.index.blocks)) 0 s t = subst (λ (n : ℕ). Counts (n - end) (sizes (between end n r.index.blocks)) 0 s t) (sym is) counts in
    let more : end ≤ e = omega (arith, is, upto) in
    let sum = between_sum r.index.blocks start end e le more in
    record {
      reads = omega (arith, more);
      asked = omega (arith, sum);
      disk = counts_more (e - end) (sizes (between end e r.index.blocks)) 0 (e - start - (end - start)) (sizes (between start e r.index.blocks) - sizes (between start end r.index.blocks)) 0 s t (omega (arith, le, more)) (omega (arith, sum)) (omega arith) here;
    }

pub next_steps : (r : RunState) (start end e at : ℕ) (block o : Option (List Version)) → stands r start end at block ≡ true → IsSome (current_of block at) → e ≡ min (end + 1) (length r.index.blocks) → is_some o ≡ nat_lt end (length r.index.blocks) →
    IfSome o (λ vs. (0 < length vs) × (length vs ≤ (get_or r.index.blocks end no_block).size)) → steps_of o 0 (sizes (drop e r.index.blocks)) < steps_of block at (sizes (drop end r.index.blocks))
next_steps r start end e at None o standing here is some entries = cc
next_steps r start end e at (Some vs) None standing here is some entries = let on = on_block r start end at vs standing in omega (arith, on.entry)
next_steps r start end e at (Some vs) (Some ws) standing here is some entries =
    let on = on_block r start end at vs standing in
    let lt : end < length r.index.blocks = ltb-true end (length r.index.blocks) (sym some) in
    let next : e ≡ end + 1 = omega (arith, is, lt) in
    let sum : sizes (drop end r.index.blocks) ≡ (get_or r.index.blocks end no_block).size + sizes (drop e r.index.blocks) = sizes_drop r.index.blocks end lt ∙ ap (λ (n : ℕ). (get_or r.index.blocks end no_block).size + sizes (drop n r.index.blocks)) (sym next) in
    omega (arith, on.entry, sum, entries.1)

held_next : (r : RunState) (end e : ℕ) (o : Option (List Version)) (image : Image) → e ≡ min (end + 1) (length r.index.blocks) → is_some o ≡ nat_lt end (length r.index.blocks) → HoldsBlock r (end + 1) o image → HoldsBlock r e o image
held_next r end e None image is some held = tt
held_next r end e (Some vs) image is some held =
    let lt : end < length r.index.blocks = ltb-true end (length r.index.blocks) (sym some) in
    let next : end + 1 ≡ e = omega (arith, is, lt) in
    subst (λ (n : ℕ). HoldsBlock r n (Some vs) image) next held

pub next_whole : (r : RunState) (end0 end e : ℕ) (block o : Option (List Version)) (image : Image) → e ≡ min (end + 1) (length r.index.blocks) → is_some o ≡ nat_lt end (length r.index.blocks) → HoldsBlock r (end + 1) o image → IsWhole r end0 block image → IsWhole r e o image
next_whole r end0 end e block o image is some held whole = record { index = whole.index; run = whole.run; block_held = held_next r end e o image is some held }

-- what is left at the beginning of the next block
pub next_left : (r : RunState) (start end e : ℕ) (o : Option (List Version)) (image : Image) → end ≤ length r.index.blocks → e ≡ min (end + 1) (length r.index.blocks) → is_some o ≡ nat_lt end (length r.index.blocks) →
    IfSome o (λ vs. (0 < length vs) × (length vs ≤ (get_or r.index.blocks end no_block).size)) → HoldsBlock r (end + 1) o image → left (pinned_at r start e 0 o) image ≡ lists_of (image r.file) (drop end r.index.blocks)
next_left r start end e None image upto is some entries held =
    let none : length r.index.blocks ≤ end = ltb-false end (length r.index.blocks) (sym some) in
    ap (lists_of (image r.file)) (sym (drop_all end r.index.blocks none))
next_left r start end e (Some ws) image upto is some entries held =
    let lt : end < length r.index.blocks = ltb-true end (length r.index.blocks) (sym some) in
    let next : e ≡ end + 1 = omega (arith, is, lt) in
    let back : end + 1 - 1 ≡ end = omega arith in
    let here : versions_at (image r.file) (get_or r.index.blocks end no_block) ≡ Ok ws = subst (λ (n : ℕ). versions_at (image r.file) (get_or r.index.blocks n no_block) ≡ Ok ws) back held in
    left_some ws (lists_of (image r.file) (drop e r.index.blocks)) 0 entries.0
    ∙ ap (λ (n : ℕ). ws ++ lists_of (image r.file) (drop n r.index.blocks)) next
    ∙ ap (λ (xs : List Version). xs ++ lists_of (image r.file) (drop (end + 1) r.index.blocks)) (sym (ap list_of here))
    ∙ sym (lists_drop (image r.file) r.index.blocks end lt)

pub next_moved : (r : RunState) (start end e at : ℕ) (block o : Option (List Version)) (image : Image) → stands r start end at block ≡ true → IsSome (current_of block at) → more_of block at ≡ false → e ≡ min (end + 1) (length r.index.blocks) → is_some o ≡ nat_lt end (length r.index.blocks) →
    IfSome o (λ vs. (0 < length vs) × (length vs ≤ (get_or r.index.blocks end no_block).size)) → HoldsBlock r (end + 1) o image → left (pinned_at r start e 0 o) image ≡ rest_of block at ++ lists_of (image r.file) (drop end r.index.blocks)
next_moved r start end e at None o image standing here none is some entries held = cc
next_moved r start end e at (Some vs) o image standing here none is some entries held =
    let on = on_block r start end at vs standing in
    let gone : drop (at + 1) vs ≡ [] = drop_all (at + 1) vs (ltb-false (at + 1) (length vs) none) in
    next_left r start end e o image on.upto is some entries held ∙ ap (λ (xs : List Version). xs ++ lists_of (image r.file) (drop end r.index.blocks)) (sym gone)

pub more_moved : (r : RunState) (start end at : ℕ) (block : Option (List Version)) (image : Image) → more_of block at ≡ true → left (pinned_at r start end (at + 1) block) image ≡ rest_of block at ++ lists_of (image r.file) (drop end r.index.blocks)
more_moved r start end at None image more = cc
more_moved r start end at (Some vs) image more = left_some vs (lists_of (image r.file) (drop end r.index.blocks)) (at + 1) (ltb-true (at + 1) (length vs) more)

pub within_end : (r : RunState) (start e at : ℕ) (block : Option (List Version)) (image : Image) (k : List ℕ) → start ≡ first_block r.direction k r.index.blocks → e ≤ length r.index.blocks → IsWithinEnd (pinned_at r start e at block) image k
within_end r start e at block image k same upto = record {
  reads = omega (arith, same, upto);
  asked = subst (λ (n : ℕ). sizes (between start e r.index.blocks) ≤ sizes (between n (length r.index.blocks) r.index.blocks)) same (sizes_between r.index.blocks start e (length r.index.blocks) upto);
}

-- ---- a seek

pub one_counts : (bs : List Indexed) (n b : ℕ) (s t : State) → n < length bs → b ≡ min (n + 1) (length bs) → Counts 1 (get_or bs n no_block).size 0 s t → Counts (b - n) (sizes (between n b bs)) 0 s t
one_counts bs n b s t lt is counts =
    let one : b - n ≡ 1 = omega (arith, is, lt) in
    let size : sizes (between n b bs) ≡ (get_or bs n no_block).size = ap (λ (k : ℕ). sizes (take k (drop n bs))) one ∙ one_size bs n lt in
    counts_more 1 (get_or bs n no_block).size 0 (b - n) (sizes (between n b bs)) 0 s t (omega (arith, one)) (omega (arith, size)) (omega arith) counts

pub two_counts : (bs : List Indexed) (n b e : ℕ) (s t u : State) → n < length bs → b ≡ min (n + 1) (length bs) → e ≡ min (b + 1) (length bs) → Counts 1 (get_or bs n no_block).size 0 s t →
    Counts (min (b + 1) (length bs) - b) (sizes (between b (min (b + 1) (length bs)) bs)) 0 t u → Counts (e - n) (sizes (between n e bs)) 0 s u
two_counts bs n b e s t u lt is next one more =
    let first = one_counts bs n b s t lt is one in
    let second : Counts (e - b) (sizes (between b e bs)) 0 t u = subst (λ (k : ℕ). Counts (k - b) (sizes (between b k bs)) 0 t u) (sym next) more in
    let sum = between_sum bs n b e (omega (arith, is, lt)) (omega (arith, is, next, lt)) in
    counts_more (b - n + (e - b)) (sizes (between n b bs) + sizes (between b e bs)) (0 + 0) (e - n) (sizes (between n e bs)) 0 s u (omega (arith, is, next, lt)) (omega (arith, sum)) (omega arith) (counts_then (b - n) (sizes (between n b bs)) 0 (e - b) (sizes (between b e bs)) 0 s t u first second)

pub seek_reads : (r : RunState) (n e : ℕ) (key : List ℕ) (s t : State) → n ≡ first_block r.direction key r.index.blocks → e ≤ length r.index.blocks → Counts (e - n) (sizes (between n e r.index.blocks)) 0 s t →
    Reads (length r.index.blocks - first_block r.direction key r.index.blocks) (sizes (between (first_block r.direction key r.index.blocks) (length r.index.blocks) r.index.blocks)) s t
seek_reads r n e key s t same upto counts =
    let asked : sizes (between n e r.index.blocks) ≤ sizes (between (first_block r.direction key r.index.blocks) (length r.index.blocks) r.index.blocks) = subst (λ (k : ℕ). sizes (between n e r.index.blocks) ≤ sizes (between k (length r.index.blocks) r.index.blocks)) same (sizes_between r.index.blocks n e (length r.index.blocks) upto) in
    record { reads = omega (arith, counts.reads.1, same, upto); asked = omega (arith, counts.asked.1, asked) }

pub sought_here : (sorted : Bool) (n first : ℕ) → (sorted ≡ true → n ≡ first) → IsTrue (not sorted || (n == first))
sought_here true n first law = eq-eqb n first (law refl)
sought_here false n first law = refl

-- the versions behind the first block in which a key can stand aren't before it
behind_first : (d : Direction) (key file : List ℕ) (bs : List Indexed) → IsInOrder (version_cmp d) (lists_of file bs) → AllByRecursion (Begins file) bs → AllByRecursion (λ v. is_lt (key_cmp d v.key key) ≡ false) (lists_of file (drop (first_block d key bs + 1) bs))
behind_first d key file bs order begin = elim (cases_lt 0 (prefix_len (is_before d key) bs)) [
  | inl some ↦
      let e : prefix_len (is_before d key) bs ≡ first_block d key bs + 1 = omega (arith, some) in
      subst (λ (n : ℕ). AllByRecursion (λ v. is_lt (key_cmp d v.key key) ≡ false) (lists_of file (drop n bs))) e (all_from d key file bs order begin)
  | inr none ↦
      let z : prefix_len (is_before d key) bs ≡ 0 = omega (arith, none) in
      let all : AllByRecursion (λ v. is_lt (key_cmp d v.key key) ≡ false) (lists_of file bs) = subst (λ (n : ℕ). AllByRecursion (λ v. is_lt (key_cmp d v.key key) ≡ false) (lists_of file (drop n bs))) z (all_from d key file bs order begin) in
      (each_split (λ v. is_lt (key_cmp d v.key key) ≡ false) (lists_of file (take (first_block d key bs + 1) bs)) (lists_of file (drop (first_block d key bs + 1) bs)) (subst (AllByRecursion (λ v. is_lt (key_cmp d v.key key) ≡ false)) (lists-split file (first_block d key bs + 1) bs) all)).1
]

-- what a seek has to find: of the first block what stands from the key on, and all behind that block
seek_list : (r : RunState) (n end0 : ℕ) (block0 : Option (List Version)) (image : Image) (key : List ℕ) → IsWhole r end0 block0 image → n < length r.index.blocks → n ≡ first_block r.direction key r.index.blocks →
    IsInOrder (version_cmp r.direction) (list_at (image r.file) (get_or r.index.blocks n no_block)) × (from_key r.direction key (run_list r image) ≡ from_key r.direction key (list_at (image r.file) (get_or r.index.blocks n no_block)) ++ lists_of (image r.file) (drop (n + 1) r.index.blocks))
seek_list r n end0 block0 image key whole lt same =
    let d = r.direction in
    let file = image r.file in
    let bs = r.index.blocks in
    let lists = whole_lists r end0 block0 image whole in
    let order = whole_order r end0 block0 image whole in
    let here = list_at (image r.file) (get_or r.index.blocks n no_block) in
    let more = lists_of (image r.file) (drop (n + 1) r.index.blocks) in
    let parts = lists_drop (image r.file) r.index.blocks n lt in
    let ordered = order_split r.direction here more (subst (IsInOrder (version_cmp r.direction)) parts (drop_order r.direction (image r.file) n r.index.blocks order)) in
    let late : AllByRecursion (λ v. is_lt (key_cmp r.direction v.key key) ≡ false) (lists_of (image r.file) (drop (n + 1) r.index.blocks)) = subst (λ (k : ℕ). AllByRecursion (λ v. is_lt (key_cmp r.direction v.key key) ≡ false) (lists_of (image r.file) (drop (k + 1) r.index.blocks))) (sym same) (behind_first r.direction key (image r.file) r.index.blocks order lists.begin) in (
      ordered.0,
      ap (from_key d key) lists.list
          ∙ from_blocks d key file bs order lists.begin
          ∙ ap (λ (k : ℕ). from_key d key (lists_of file (drop k bs))) (sym same)
          ∙ ap (from_key d key) parts
          ∙ filter-append (λ v. not (is_lt (key_cmp r.direction v.key key))) here more
          ∙ ap (λ (xs : List Version). from_key r.direction key here ++ xs) (from_all r.direction key more late),
    )

pub seek_found : (r : RunState) (n b at end0 : ℕ) (block0 : Option (List Version)) (image : Image) (key : List ℕ) (vs : List Version) → IsWhole r end0 block0 image → n < length r.index.blocks → b ≡ min (n + 1) (length r.index.blocks) → n ≡ first_block r.direction key r.index.blocks →
    versions_at (image r.file) (get_or r.index.blocks n no_block) ≡ Ok vs → (IsInOrder (version_cmp r.direction) vs → from_key r.direction key vs ≡ drop at vs) → at < length vs → left (pinned_at r n b at (Some vs)) image ≡ from_key r.direction key (run_list r image)
seek_found r n b at end0 block0 image key vs whole lt is same held law within =
    let list = seek_list r n end0 block0 image key whole lt same in
    let here : list_at (image r.file) (get_or r.index.blocks n no_block) ≡ vs = ap list_of held in
    let found : from_key r.direction key vs ≡ drop at vs = law (subst (IsInOrder (version_cmp r.direction)) here list.0) in
    let next : b ≡ n + 1 = omega (arith, is, lt) in
    left_some vs (lists_of (image r.file) (drop b r.index.blocks)) at within
    ∙ ap (λ (k : ℕ). drop at vs ++ lists_of (image r.file) (drop k r.index.blocks)) next
    ∙ ap (λ (xs : List Version). xs ++ lists_of (image r.file) (drop (n + 1) r.index.blocks)) (sym found ∙ ap (from_key r.direction key) (sym here))
    ∙ sym list.1

pub seek_next : (r : RunState) (n b e end0 : ℕ) (block0 o : Option (List Version)) (image : Image) (key : List ℕ) → IsWhole r end0 block0 image → n < length r.index.blocks → b ≡ min (n + 1) (length r.index.blocks) → n ≡ first_block r.direction key r.index.blocks →
    (IsInOrder (version_cmp r.direction) (list_at (image r.file) (get_or r.index.blocks n no_block)) → from_key r.direction key (list_at (image r.file) (get_or r.index.blocks n no_block)) ≡ []) →
    e ≡ min (b + 1) (length r.index.blocks) → is_some o ≡ nat_lt b (length r.index.blocks) → IfSome o (λ vs. (0 < length vs) × (length vs ≤ (get_or r.index.blocks b no_block).size)) → HoldsBlock r (b + 1) o image →
    left (pinned_at r n e 0 o) image ≡ from_key r.direction key (run_list r image)
seek_next r n b e end0 block0 o image key whole lt is same none next some entries held =
    let list = seek_list r n end0 block0 image key whole lt same in
    let b_is : b ≡ n + 1 = omega (arith, is, lt) in
    next_left r n b e o image (omega (arith, is)) next some entries held
    ∙ ap (λ (k : ℕ). lists_of (image r.file) (drop k r.index.blocks)) b_is
    ∙ ap (λ (xs : List Version). xs ++ lists_of (image r.file) (drop (n + 1) r.index.blocks)) (sym (none list.0))
    ∙ sym list.1

-- ---- a search in a block

pub found_by : (d d2 : Direction) (view block : List Version) (n : ℕ) (key : List ℕ) → d2 ≡ d → view ≡ block → (IsInOrder (version_cmp d2) view → drop n view ≡ from_key d2 key view) → IsInOrder (version_cmp d) block → from_key d key block ≡ drop n block
found_by d d2 view block n key same_d same law = subst (λ (x : Direction). IsInOrder (version_cmp x) block → from_key x key block ≡ drop n block) same_d (subst (λ (b : List Version). IsInOrder (version_cmp d2) b → from_key d2 key b ≡ drop n b) same (λ order. sym (law order)))

pub none_by : (d d2 : Direction) (view block list : List Version) (n : ℕ) (key : List ℕ) → d2 ≡ d → view ≡ block → (IsInOrder (version_cmp d2) view → drop n view ≡ from_key d2 key view) → length view ≤ n → list ≡ block → IsInOrder (version_cmp d) list → from_key d key list ≡ []
none_by d d2 view block list n key same_d same law long is order =
    ap (from_key d key) is ∙ found_by d d2 view block n key same_d same law (subst (IsInOrder (version_cmp d)) is order) ∙ drop_all n block (subst (λ (b : List Version). length b ≤ n) same long)

-- ---- a second call

-- a stop of a later call is one of both
pub later_stop : (offends : Image → ℕ → ℕ → Type 0) (n a : ℕ) (s t u : State) → (Tells s → Same s t) → Counts n a 0 s t → (stop : Stop) → MayStop offends t u stop → MayStop offends s u stop
later_stop offends n a s t u same counts Memory may = may
later_stop offends n a s t u same counts Disk may = omega (arith, counts.faults, may)
later_stop offends n a s t u same counts (Full what at limit) may = may
later_stop offends n a s t u same counts (Damaged file at) may = record {
  image = may.image;
  told = λ tells. may.told (still_tells n a 0 s t counts tells) ∙ image_same s t (same tells);
  offence = may.offence;
}

-- what a later call says of the files, told from the first one on
pub earlier : (P : Image → Type 0) (n a : ℕ) (s t : State) → (Tells s → Same s t) → Counts n a 0 s t → (Tells t → P (seen t)) → Tells s → P (seen s)
earlier P n a s t same counts says tells = subst P (image_same s t (same tells)) (says (still_tells n a 0 s t counts tells))
