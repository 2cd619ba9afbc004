-- Laws of the versions at a sequence number.
use Rattle.std.specs.Prelude.{◌≡◌, ◌<◌, ◌+◌, drop, ℕ, Bool, true, false, cond, not, List, [], ◌∷◌, ◌++◌, Option, Some, None, is_some, IfSome, refl}
use Rattle.std.proofs.Common.{sym, ◌∙◌, ap, arith}
use Rattle.std.specs.List.{AllByRecursion}
use Rattle.std.specs.declared.cmp.Ordering.{Ordering}
use Rattle.std.specs.declared.cmp.Ordering.TheVariants.{Less, Equal, Greater}
use Rattle.std.specs.Cmp.Lexicographic.{slice_cmp}
use Rattle.std.specs.Ordering.{nat_cmp, is_lt, is_eq, flip_args}
use Rattle.std.proofs.lemmas.Cmp.{nat_list_cmp_total, alike_right}
use Rattle.mr_base.specs.declared.stop.Direction.{Direction}
use Rattle.mr_base.specs.declared.stop.Direction.TheVariants.{Forward, Reverse}
use Rattle.mr_iter.specs.Versions.{Version, key_cmp, version_cmp, IsInOrder, IsAtFront, from_key}
use Rattle.mr_iter.specs.Order.{key_total, by_key, not_before}
use Rattle.mr_iter.specs.Cursors.{CursorState, SaysSame, IsInPlace, IsWithinBound, GrowsToEnd, left, with_current}
use Rattle.mr_iter.specs.Places.{from_key-drop, drop_tail, in_place_by}
use Rattle.mr_base.specs.Disk.{Image}
use Rattle.mr_iter.specs.Snapshots.{shown, key_of, is_skipped, snapshot_state, each-shown, IsInOrder-shown, IsUpward, NoneSkipped, filter-shown}

pub snapshot_in_order : (number : ℕ) (placed : Bool) (s : CursorState) (image : Image) → IsInOrder (version_cmp s.direction) (left s image) × IsInOrder (version_cmp s.direction) (s.versions image) →
    IsInOrder (version_cmp s.direction) (left (snapshot_state number placed s) image) × IsInOrder (version_cmp s.direction) (shown number None (s.versions image))
snapshot_in_order number placed s image both = (by_place placed s.current both.0, IsInOrder-shown s.direction number None (s.versions image) both.1)
  where
    by_place : (b : Bool) (o : Option Version) → IsInOrder (version_cmp s.direction) (with_current o (s.rest image)) → IsInOrder (version_cmp s.direction) (with_current (cond b o None) (shown number (key_of o) (s.rest image)))
    by_place false o all = tt
    by_place true None all = tt
    by_place true (Some v) all = (each-shown _ number (Some v.key) (s.rest image) all.0, IsInOrder-shown s.direction number (Some v.key) (s.rest image) all.1)

snapshot_says : (number : ℕ) (placed : Bool) (s : CursorState) (i j : Image) → SaysSame s i j → SaysSame (snapshot_state number placed s) i j
snapshot_says number placed s i j same = record {
  versions = ap (shown number None) same.versions;
  rest = ap (shown number (key_of s.current)) same.rest;
  distinct = same.distinct;
  reads_to = same.reads_to;
  asked_to = same.asked_to;
}

pub snapshot_by_files : {W S T : Type 0} (number : ℕ) (placed : Bool) (s : CursorState) (i j : Image) → W × (S → T) × SaysSame s i j →
    W × (S × IsInPlace (snapshot_state number placed s) i → T × IsInPlace (snapshot_state number placed s) j) × SaysSame (snapshot_state number placed s) i j
snapshot_by_files number placed s i j same =
    let says = snapshot_says number placed s i j same.2 in
    (same.0, λ stands. (same.1 stands.0, in_place_by (snapshot_state number placed s) i j says stands.1), says)

-- a key that isn't before another one
abbrev pub passes : Direction → List ℕ → List ℕ → Bool
passes d key k = not (is_lt (key_cmp d k key))

pub upward : (d : Direction) (key : List ℕ) (vs : List Version) → IsInOrder (version_cmp d) vs → IsUpward (passes d key) vs
upward d key [] all = tt
upward d key (v ∷ vs) all = ((λ yes_v. above vs yes_v all.0), upward d key vs all.1)
  where
    above : (ws : List Version) → passes d key v.key ≡ true → IsAtFront (version_cmp d) v ws → AllByRecursion (λ (w : Version). passes d key w.key ≡ true) ws
    above [] yes_v front = tt
    above (w ∷ ws) yes_v front = (
      (let low : is_lt (key_cmp d v.key key) ≡ false = cc_not (is_lt (key_cmp d v.key key)) yes_v in
          ap not (not_before (key_cmp d) (key_total d) v.key w.key key (by_key (key_cmp d v.key w.key) (flip_args nat_cmp v.sequence w.sequence) front.0) low)),
      above ws yes_v front.1,
    )
      where
        cc_not : (b : Bool) → not b ≡ true → b ≡ false
        cc_not true is = sym is
        cc_not false is = refl

equal_keys : (d : Direction) (a b key : List ℕ) → slice_cmp nat_cmp a b ≡ Equal → key_cmp d a key ≡ key_cmp d b key
equal_keys Forward a b key e = nat_list_cmp_total.congr a b key e
equal_keys Reverse a b key e = alike_right nat_list_cmp_total a b key e

pub apart : (d : Direction) (key : List ℕ) (v w : Version) → passes d key v.key ≡ false → passes d key w.key ≡ true → is_skipped (Some v.key) w.key ≡ false
apart d key v w no_v yes_w = by_order (slice_cmp nat_cmp v.key w.key) refl
  where
    by_order : (o : Ordering) → slice_cmp nat_cmp v.key w.key ≡ o → is_eq o ≡ false
    by_order Less e = refl
    by_order Greater e = refl
    by_order Equal e = let same : passes d key v.key ≡ passes d key w.key = ap (λ (o : Ordering). not (is_lt o)) (equal_keys d v.key w.key key e) in cc

none_skipped : (d : Direction) (key : List ℕ) (vs : List Version) → NoneSkipped (passes d key) None vs
none_skipped d key [] = tt
none_skipped d key (v ∷ vs) = ((λ _. refl), none_skipped d key vs)

pub from_key-shown : (d : Direction) (number : ℕ) (key : List ℕ) (vs : List Version) → IsInOrder (version_cmp d) vs → from_key d key (shown number None vs) ≡ shown number None (from_key d key vs)
from_key-shown d number key vs all = filter-shown number (passes d key) (apart d key) None vs (upward d key vs all) (none_skipped d key vs)

-- after a seek of the inner cursor and the way to the first version that is shown
pub snapshot_found : (number : ℕ) (s t u : CursorState) (key : List ℕ) (image : Image) → IsInOrder (version_cmp s.direction) (s.versions image) → left t image ≡ from_key s.direction key (s.versions image) →
    shown number None (left t image) ≡ with_current u.current (shown number (key_of u.current) (u.rest image)) → left (snapshot_state number true u) image ≡ from_key s.direction key (shown number None (s.versions image))
snapshot_found number s t u key image ordered found settled = sym settled ∙ ap (shown number None) found ∙ sym (from_key-shown s.direction number key (s.versions image) ordered)

-- and after a step of it from a version with the skipped key
pub snapshot_moved : (number : ℕ) (s t u : CursorState) (skip : Option (List ℕ)) (image : Image) → skip ≡ key_of s.current → left t image ≡ s.rest image →
    shown number skip (left t image) ≡ with_current u.current (shown number (key_of u.current) (u.rest image)) → left (snapshot_state number true u) image ≡ shown number (key_of s.current) (s.rest image)
snapshot_moved number s t u skip image same moved settled = sym settled ∙ ap (shown number skip) moved ∙ ap (λ (o : Option (List ℕ)). shown number o (s.rest image)) same

pub skip_is : (o : Option Version) (k : List ℕ) → is_some o ≡ true → IfSome o (λ v. k ≡ v.key) → Some k ≡ key_of o
skip_is None k is same = cc
skip_is (Some v) k is same = ap Some same

pub skip_kept : (b : Bool) (o : Option Version) (items cleared k : List ℕ) → is_some (cond b o None) ≡ true → items ≡ cleared ++ k → cleared ≡ [] → IfSome o (λ v. k ≡ v.key) → Some items ≡ key_of o
skip_kept false o items cleared k is e empty same = cc
skip_kept true o items cleared k is e empty same = ap Some (e ∙ ap (λ (zs : List ℕ). zs ++ k) empty) ∙ skip_is o k is same

-- steps are left where it stands on a version
pub snapshot_going : (number : ℕ) (placed : Bool) (s : CursorState) → (is_some s.current ≡ true → 0 < s.steps) → is_some (snapshot_state number placed s).current ≡ true → 0 < (snapshot_state number placed s).steps
snapshot_going number false s law is = cc
snapshot_going number true s law is = law is

-- what it read is what its inner cursor read
pub snapshot_costs : (number : ℕ) (placed : Bool) (s : CursorState) (image : Image) (k : List ℕ) → IsWithinBound s image k → GrowsToEnd s image k s.current → IsWithinBound (snapshot_state number placed s) image k
snapshot_costs number true s image k bound grows = record { reads = bound.reads; asked = bound.asked }
snapshot_costs number false s image k bound grows = record { reads = omega (arith, bound.reads, grows.reads); asked = omega (arith, bound.asked, grows.asked) }

pub snapshot_to_end : (number : ℕ) (placed : Bool) (s : CursorState) (image : Image) (k : List ℕ) (place : Option Version) → GrowsToEnd s image k place → GrowsToEnd (snapshot_state number placed s) image k place
snapshot_to_end number placed s image k place grows = record { reads = grows.reads; asked = grows.asked }

-- it stands in its list after a seek, and after a step
pub found_place : (d : Direction) (key : List ℕ) (s : CursorState) (image : Image) (vs : List Version) → IsInOrder (version_cmp d) vs → s.versions image ≡ vs → left s image ≡ from_key d key vs → IsInPlace s image
found_place d key s image vs ordered same is = let n = from_key-drop d key vs ordered in record { passed = n.0; rest = is ∙ n.1 ∙ ap (drop n.0) (sym same) }

pub moved_place : (s t : CursorState) (image : Image) → t.versions image ≡ s.versions image → is_some s.current ≡ true → IsInPlace s image → left t image ≡ s.rest image → IsInPlace t image
moved_place s t image same live old is = go s.current refl live
  where
    go : (o : Option Version) → s.current ≡ o → is_some o ≡ true → IsInPlace t image
    go None e some = cc
    go (Some v) e some =
        let begins : drop old.passed (s.versions image) ≡ v ∷ s.rest image = sym old.rest ∙ ap (λ (p : Option Version). with_current p (s.rest image)) e in
        record { passed = old.passed + 1; rest = is ∙ sym (drop_tail old.passed (s.versions image) v (s.rest image) begins) ∙ ap (drop (old.passed + 1)) (sym same) }
