-- The runs of a level follow one another, where each is whole and they don't overlap.
use Rattle.std.proofs.Common.{◌≡◌, ◌==◌, ℕ, ◌+◌, ◌≤◌, Bool, true, false, not, nat_le, List, [], ◌∷◌, ◌++◌, length, take, drop, zero, suc, refl, sym, ◌∙◌, ap, subst, inl, inr, arith, Result, Ok, Err}
use Rattle.std.specs.List.{AllByRecursion, list_all}
use Rattle.std.specs.Ordering.{is_lt, is_gt}
use Rattle.std.proofs.lemmas.Bool.{cases_Bool, leb-true}
use Rattle.std.proofs.lemmas.Cmp.{upto}
use Rattle.mr_base.specs.Disk.{Image}
use Rattle.mr_base.specs.declared.stop.Direction.{Direction}
use Rattle.mr_iter.specs.Versions.{Version, key_cmp, version_cmp, joined, IsAtFront, IsInOrder}
use Rattle.mr_iter.specs.Order.{key_total, each-append}
use Rattle.mr_iter.specs.Cursors.{CursorState}
use Rattle.mr_iter.specs.Children.{AnyOf}
use Rattle.mr_iter.specs.Merging.{lists}
use Rattle.mr_block.specs.Block.{key_in}
use Rattle.mr_run_file.specs.Format.{last_key}
use Rattle.mr_run_file.specs.Reading.{Indexed, Index, demand, footer_at, footer_number, footer_in, indexed_in, all_indexed_in, index_in, counted_to}
use Rattle.mr_run_open.specs.Runs.{RunState, HasIndex, first_of}
use Rattle.mr_run_open.specs.Blocks.{lists_of}
use Rattle.mr_run_open.proofs.Indexing.{bound, held, ok_same}
use Rattle.mr_run_open.proofs.Ranges.{run_parts, Lists}
use Rattle.mr_run_cursor.specs.Pinned.{run_list}
use Rattle.mr_chain.specs.Chains.{ascend, FollowOne}
use Rattle.mr_levels.specs.Levels.{by_last_key, AreOfDirection, EndsBefore, AreApart, IsLive, AreLive}
use Rattle.mr_levels.proofs.Skipping.{structure, ends_of, from_first, upto_last, lt_gt}
use Rattle.mr_family.specs.Parts.{runs_at, lasts_of}

-- ---- a run has some version

counted : (end n at : ℕ) (bytes : List ℕ) (r : List Indexed × List ℕ) → all_indexed_in end n at bytes ≡ Ok r → length r.0 ≡ n
counted end zero at bytes r is = ap (λ (p : List Indexed × List ℕ). length p.0) (sym (ok_same _ ([], bytes) r refl is))
counted end (suc n) at bytes r is =
    let one = bound (indexed_in end n at bytes) _ r is in
    let others = bound (all_indexed_in end n (at + one.x.0.size) one.x.1) _ r one.next in
    let same : (one.x.0 ∷ others.x.0, others.x.1) ≡ r = ok_same _ _ _ refl others.next in
    ap (λ (p : List Indexed × List ℕ). length p.0) (sym same) ∙ ap (λ (k : ℕ). suc k) (counted end n (at + one.x.0.size) one.x.1 others.x others.now)

to_end : {X : Type 0} (end : ℕ) (r : Result X ℕ) (x : X) → counted_to end r ≡ Ok x → r ≡ Ok x
to_end end (Ok y) x is = is
to_end end (Err left) x is = cc

index_counted : (end n : ℕ) (bytes : List ℕ) (x : Index) → index_in end n bytes ≡ Ok x → length x.blocks ≡ n
index_counted end n bytes x is =
    let all = bound (all_indexed_in end n 0 bytes) _ x is in
    let last = bound (key_in all.x.1) _ x all.next in
    let none_left = bound (demand (length last.x.1 == 0) (length last.x.1)) _ x last.next in
    let same : record { blocks = all.x.0; last = last.x.0 } ≡ x = ok_same _ _ _ refl none_left.next in
    ap (λ (y : Index). length y.blocks) (sym same) ∙ counted end n 0 bytes all.x all.now

some_blocks : (entries : ℕ) (file : List ℕ) (u : Unit {0}) → footer_in entries file ≡ Ok u → 1 ≤ footer_number 2 file
some_blocks entries file u is =
    let whole = bound (demand (nat_le 40 (length file)) 0) _ u is in
    let place = bound (demand (nat_le (footer_number 0 file) (footer_at file)) (footer_at file)) _ u whole.next in
    let size = bound (demand (footer_number 0 file + footer_number 1 file == footer_at file) (footer_at file + 8)) _ u place.next in
    let blocks = bound (demand (nat_le 1 (footer_number 2 file)) (footer_at file + 16)) _ u size.next in
    leb-true 1 (footer_number 2 file) (held _ _ blocks.x blocks.now)

has_blocks : (r : RunState) (image : Image) → HasIndex r image → 1 ≤ length r.index.blocks
has_blocks r image has =
    let footer = bound (footer_in r.entries (image r.file)) _ r.index (structure r image has) in
    let found : length r.index.blocks ≡ footer_number 2 (image r.file) = index_counted (footer_number 0 (image r.file)) (footer_number 2 (image r.file)) (take (footer_number 1 (image r.file)) (drop (footer_number 0 (image r.file)) (image r.file))) r.index
    (to_end (footer_at (image r.file)) (index_in (footer_number 0 (image r.file)) (footer_number 2 (image r.file)) (take (footer_number 1 (image r.file)) (drop (footer_number 0 (image r.file)) (image r.file)))) r.index footer.next) in
    subst (λ (n : ℕ). 1 ≤ n) (sym found) (some_blocks r.entries (image r.file) footer.x footer.now)

begun : (file : List ℕ) (bs : List Indexed) (vs : List Version) → 1 ≤ length bs → Lists file bs vs → (v : Version) × (ws : List Version) × (vs ≡ v ∷ ws)
begun file [] vs some lists = absurd (omega (arith, some))
begun file (b ∷ bs) vs some lists = (lists.begin.0.version, lists.begin.0.rest ++ lists_of file bs, lists.list ∙ ap (λ (xs : List Version). xs ++ lists_of file bs) lists.begin.0.list)

has_version : (r : RunState) (image : Image) → IsLive image r → (v : Version) × (ws : List Version) × (run_list r image ≡ v ∷ ws)
has_version r image live = begun (image r.file) r.index.blocks (run_list r image) (has_blocks r image live.index) (run_parts r.entries (image r.file) (run_list r image) r.index live.run.0 (structure r image live.index)).lists

last_held : (v : Version) (ws : List Version) → AnyOf (λ (w : Version). w.key ≡ last_key (v ∷ ws)) (v ∷ ws)
last_held v [] = inl refl
last_held v (w ∷ ws) = inr (last_held w ws)

has_last : (r : RunState) (image : Image) → IsLive image r → AnyOf (λ (v : Version). v.key ≡ r.index.last) (run_list r image)
has_last r image live =
    let some = has_version r image live in
    subst (λ (vs : List Version). AnyOf (λ (v : Version). v.key ≡ r.index.last) vs) (sym some.2)
    (subst (λ (l : List ℕ). AnyOf (λ (v : Version). v.key ≡ l) (some.0 ∷ some.1)) (sym ((ends_of r image live).last ∙ ap last_key some.2)) (last_held some.0 some.1))

-- ---- one behind another

module _ (d : Direction) (image : Image) where
  ordered : (r : RunState) → r.direction ≡ d → IsLive image r → IsInOrder (version_cmp d) (run_list r image)
  ordered r same live = subst (λ (e : Direction). IsInOrder (version_cmp e) (run_list r image)) same live.run.1

  upto_own : (r : RunState) → r.direction ≡ d → IsLive image r → AllByRecursion (λ (v : Version). is_gt (key_cmp d v.key r.index.last) ≡ false) (run_list r image)
  upto_own r same live = subst (λ (l : List ℕ). AllByRecursion (λ (v : Version). is_gt (key_cmp d v.key l) ≡ false) (run_list r image)) (sym (ends_of r image live).last) (upto_last d (run_list r image) (ordered r same live))

  -- all versions of a run that begins behind a key come behind it
  behind_key : (l f : List ℕ) → is_lt (key_cmp d l f) ≡ true → (vs : List Version) → AllByRecursion (λ (v : Version). is_gt (key_cmp d f v.key) ≡ false) vs → AllByRecursion (λ (v : Version). is_gt (key_cmp d v.key l) ≡ true) vs
  behind_key l f before [] all = tt
  behind_key l f before (v ∷ vs) all = (above v.key all.0, behind_key l f before vs all.1)
    where
      above : (k : List ℕ) → is_gt (key_cmp d f k) ≡ false → is_gt (key_cmp d k l) ≡ true
      above k le = elim (cases_Bool (is_gt (key_cmp d k l))) [
        | inl more ↦ more
        | inr other ↦ absurd (clash (upto (key_total d) f k l le other) (lt_gt d l f before))
      ]
        where
          clash : {b : Bool} → b ≡ false → b ≡ true → ⊥
          clash low high = cc

  behind_all : (r : RunState) (rs : List RunState) → AreOfDirection d rs → AreLive image rs → AllByRecursion (EndsBefore d r) rs → AllByRecursion (λ (v : Version). is_gt (key_cmp d v.key r.index.last) ≡ true) (joined (lists (runs_at rs) image))
  behind_all r [] same live apart = tt
  behind_all r (t ∷ rs) same live apart = each-append (λ (v : Version). is_gt (key_cmp d v.key r.index.last) ≡ true) (run_list t image) (joined (lists (runs_at rs) image))
      (behind_key r.index.last (first_of t.index) apart.0 (run_list t image) (subst (λ (f : List ℕ). AllByRecursion (λ (v : Version). is_gt (key_cmp d f v.key) ≡ false) (run_list t image)) (sym (ends_of t image live.0).first) (from_first d (run_list t image) (ordered t same.0 live.0))))
      (behind_all r rs same.1 live.1 apart.1)

  pub follow : (rs : List RunState) → AreOfDirection d rs → AreLive image rs → AreApart d rs → FollowOne d (lasts_of rs) (lists (runs_at rs) image)
  follow [] same live apart = tt
  follow (r ∷ rs) same live apart = (upto_own r same.0 live.0, has_last r image live.0, behind_all r rs same.1 live.1 apart.0, follow rs same.1 live.1 apart.1)

pub follow_as : (d : Direction) (image : Image) (rs : List RunState) (ls : List (List ℕ)) (ss : List CursorState) → ls ≡ lasts_of rs → ss ≡ runs_at rs → AreOfDirection d rs → AreLive image rs → AreApart d rs → FollowOne d ls (lists ss image)
follow_as d image rs ls ss lasts states same live apart =
    subst (λ (xs : List (List ℕ)). FollowOne d xs (lists ss image)) (sym lasts) (subst (λ (ts : List CursorState). FollowOne d (lasts_of rs) (lists ts image)) (sym states) (follow d image rs same live apart))

pub ascending : (d : Direction) (rs : List RunState) → IsInOrder (by_last_key d) rs → ascend d (lasts_of rs) ≡ true
ascending d [] order = refl
ascending d (r ∷ rs) order = rw (front rs order.0) (ascending d rs order.1)
  where
    front : (ts : List RunState) → IsAtFront (by_last_key d) r ts → list_all (λ k. not (is_gt (key_cmp d r.index.last k))) (lasts_of ts) ≡ true
    front [] all = refl
    front (t ∷ ts) all = rw all.0 (front ts all.1)

pub one_direction : (d : Direction) (rs : List RunState) → AreOfDirection d rs → AllByRecursion (λ (c : CursorState). c.direction ≡ d) (runs_at rs)
one_direction d [] same = tt
one_direction d (r ∷ rs) same = (same.0, one_direction d rs same.1)

pub all_anew : (rs : List RunState) → list_all (λ (c : CursorState). c.anew) (runs_at rs) ≡ true
all_anew [] = refl
all_anew (r ∷ rs) = all_anew rs
