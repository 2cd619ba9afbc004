-- The versions that stand at a sequence number.
use Rattle.std.specs.Prelude.{◌≡◌, ℕ, ◌≤◌, Bool, true, false, cond, ◌||◌, List, [], ◌∷◌, Option, Some, None, is_some, nat_lt, filter, refl}
use Rattle.std.proofs.Common.{sym, ◌∙◌, ap, inl, inr}
use Rattle.std.specs.List.{AllByRecursion}
use Rattle.std.specs.Cmp.Lexicographic.{slice_cmp}
use Rattle.std.specs.Ordering.{nat_cmp, is_eq}
use Rattle.std.proofs.lemmas.Bool.{cases_Bool}
use Rattle.mr_base.specs.declared.stop.Direction.{Direction}
use Rattle.mr_iter.specs.Versions.{Version, version_cmp, IsInOrder}
use Rattle.mr_iter.specs.Cursors.{CursorState, left, with_current}
use Rattle.mr_base.specs.Disk.{Image}
use Rattle.mr_iter.specs.Children.{AnyOf}
use Rattle.mr_iter.specs.declared.snapshot.Skip.{Skip}

-- this key is the one whose older versions are left out
abbrev pub is_skipped : Option (List ℕ) → List ℕ → Bool
is_skipped None key = false
is_skipped (Some k) key = is_eq (slice_cmp nat_cmp k key)

-- a version past the number, or an older one of a key that was passed
abbrev pub is_hidden : ℕ → Option (List ℕ) → Version → Bool
is_hidden number skip v = nat_lt number v.sequence || is_skipped skip v.key

-- per key the newest version not past the number, where that is a put
abbrev pub shown : ℕ → Option (List ℕ) → List Version → List Version
shown number skip [] = []
shown number skip (v ∷ vs) = cond (is_hidden number skip v) (shown number skip vs) (cond (is_some v.put) (v ∷ shown number (Some v.key) vs) (shown number (Some v.key) vs))

abbrev pub at_snapshot : ℕ → List Version → List Version
at_snapshot number vs = shown number None vs

-- the version is one of these
abbrev pub IsAmong : Version → List Version → Type 0
IsAmong v vs = AnyOf (λ (w : Version). w ≡ v) vs

-- it is a put that isn't past the number, and of these none of its key that isn't past the number is newer
pub record IsNewest (number : ℕ) (vs : List Version) (v : Version) : Type 0 where
  pub put : is_some v.put ≡ true
  pub upto : v.sequence ≤ number
  pub newest : AllByRecursion (λ (w : Version). w.key ≡ v.key → w.sequence ≤ number → w.sequence ≤ v.sequence) vs

abbrev pub key_of : Option Version → Option (List ℕ)
key_of None = None
key_of (Some v) = Some v.key

-- a cursor of these: placed says that a seek put it on one of them
abbrev pub snapshot_state : ℕ → Bool → CursorState → CursorState
snapshot_state number placed s = record {
  direction = s.direction;
  files = s.files;
  versions = λ image. at_snapshot number (s.versions image);
  current = cond placed s.current None;
  rest = λ image. shown number (key_of s.current) (s.rest image);
  steps = s.steps;
  most = s.most;
  reads = s.reads;
  asked = s.asked;
  anew = s.anew;
  distinct = s.distinct;
  sought = s.sought;
  reads_to = s.reads_to;
  asked_to = s.asked_to;
}

pub each-shown : (P : Version → Type 0) (number : ℕ) (skip : Option (List ℕ)) (vs : List Version) → AllByRecursion P vs → AllByRecursion P (shown number skip vs)
each-shown P number skip [] all = tt
each-shown P number skip (v ∷ vs) all =
    elim (is_hidden number skip v) as (λ b. AllByRecursion P (cond b (shown number skip vs) (cond (is_some v.put) (v ∷ shown number (Some v.key) vs) (shown number (Some v.key) vs)))) [
      | true ↦ each-shown P number skip vs all.1
      | false ↦ elim (is_some v.put) as (λ b. AllByRecursion P (cond b (v ∷ shown number (Some v.key) vs) (shown number (Some v.key) vs))) [
        | true ↦ (all.0, each-shown P number (Some v.key) vs all.1)
        | false ↦ each-shown P number (Some v.key) vs all.1
      ]
    ]

pub IsInOrder-shown : (d : Direction) (number : ℕ) (skip : Option (List ℕ)) (vs : List Version) → IsInOrder (version_cmp d) vs → IsInOrder (version_cmp d) (shown number skip vs)
IsInOrder-shown d number skip [] all = tt
IsInOrder-shown d number skip (v ∷ vs) all =
    elim (is_hidden number skip v) as (λ b. IsInOrder (version_cmp d) (cond b (shown number skip vs) (cond (is_some v.put) (v ∷ shown number (Some v.key) vs) (shown number (Some v.key) vs)))) [
      | true ↦ IsInOrder-shown d number skip vs all.1
      | false ↦ elim (is_some v.put) as (λ b. IsInOrder (version_cmp d) (cond b (v ∷ shown number (Some v.key) vs) (shown number (Some v.key) vs))) [
        | true ↦ (each-shown _ number (Some v.key) vs all.0, IsInOrder-shown d number (Some v.key) vs all.1)
        | false ↦ IsInOrder-shown d number (Some v.key) vs all.1
      ]
    ]

-- once the test passes it passes
abbrev pub IsUpward : (List ℕ → Bool) → List Version → Type 0
IsUpward p [] = Unit {0}
IsUpward p (v ∷ vs) = (p v.key ≡ true → AllByRecursion (λ (w : Version). p w.key ≡ true) vs) × IsUpward p vs

abbrev pub NoneSkipped : (List ℕ → Bool) → Option (List ℕ) → List Version → Type 0
NoneSkipped p skip vs = AllByRecursion (λ (v : Version). p v.key ≡ true → is_skipped skip v.key ≡ false) vs

-- The key's own test, as a test of versions.
module _ (number : ℕ) (p : List ℕ → Bool) where
  -- no version has the skipped key
  shown-skip : (skip : Option (List ℕ)) (vs : List Version) → AllByRecursion (λ v. is_skipped skip v.key ≡ false) vs → shown number skip vs ≡ shown number None vs
  shown-skip skip [] other = refl
  shown-skip skip (v ∷ vs) other = rw other.0 (ap (λ (ws : List Version). cond (nat_lt number v.sequence || false) ws (cond (is_some v.put) (v ∷ shown number (Some v.key) vs) (shown number (Some v.key) vs))) (shown-skip skip vs other.1))

  passing : (skip : Option (List ℕ)) (vs : List Version) → AllByRecursion (λ (v : Version). p v.key ≡ true) vs → NoneSkipped p skip vs → AllByRecursion (λ (v : Version). is_skipped skip v.key ≡ false) vs
  passing skip [] all none = tt
  passing skip (v ∷ vs) all none = (none.0 all.0, passing skip vs all.1 none.1)

  kept-all : (vs : List Version) → AllByRecursion (λ (v : Version). p v.key ≡ true) vs → filter (λ v. p v.key) vs ≡ vs
  kept-all [] all = refl
  kept-all (v ∷ vs) all = rw all.0 (ap (λ ws. v ∷ ws) (kept-all vs all.1))

  -- Where the test passes from some version on, and passes no skipped key, it may be asked before or afterwards.
  pub filter-shown : ((v w : Version) → p v.key ≡ false → p w.key ≡ true → is_skipped (Some v.key) w.key ≡ false) → (skip : Option (List ℕ)) (vs : List Version) → IsUpward p vs → NoneSkipped p skip vs → filter (λ v. p v.key) (shown number skip vs) ≡ shown number None (filter (λ v. p v.key) vs)
  filter-shown apart skip [] up none = refl
  filter-shown apart skip (v ∷ vs) up none = elim (cases_Bool (p v.key)) [
    | inl yes_v ↦
        let all : AllByRecursion (λ (w : Version). p w.key ≡ true) (v ∷ vs) = (yes_v, up.0 yes_v) in
        kept-all (shown number skip (v ∷ vs)) (each-shown _ number skip (v ∷ vs) all)
        ∙ shown-skip skip (v ∷ vs) (passing skip (v ∷ vs) all none)
        ∙ ap (shown number None) (sym (kept-all (v ∷ vs) all))
    | inr no_v ↦ rw no_v (left_out no_v (filter-shown apart skip vs up.1 none.1) (filter-shown apart (Some v.key) vs up.1 (far vs no_v)))
  ]
    where
      far : (ws : List Version) → p v.key ≡ false → NoneSkipped p (Some v.key) ws
      far [] no_v = tt
      far (w ∷ ws) no_v = ((λ yes_w. apart v w no_v yes_w), far ws no_v)

      left_out : p v.key ≡ false → filter (λ v. p v.key) (shown number skip vs) ≡ shown number None (filter (λ v. p v.key) vs) → filter (λ v. p v.key) (shown number (Some v.key) vs) ≡ shown number None (filter (λ v. p v.key) vs) →
          filter (λ v. p v.key) (shown number skip (v ∷ vs)) ≡ shown number None (filter (λ v. p v.key) vs)
      left_out no_v same other =
          elim (is_hidden number skip v) as (λ b. filter (λ v. p v.key) (cond b (shown number skip vs) (cond (is_some v.put) (v ∷ shown number (Some v.key) vs) (shown number (Some v.key) vs))) ≡ shown number None (filter (λ v. p v.key) vs)) [
            | true ↦ same
            | false ↦ elim (is_some v.put) as (λ b. filter (λ v. p v.key) (cond b (v ∷ shown number (Some v.key) vs) (shown number (Some v.key) vs)) ≡ shown number None (filter (λ v. p v.key) vs)) [
              | true ↦ rw no_v other
              | false ↦ other
            ]
          ]

abbrev pub skip_of : Skip → Option (List ℕ)
skip_of s = cond s.is (Some s.key.items) None

-- a step over a version that isn't shown, or none where it is
pub record Passes (number : ℕ) (here : Bool) (skip skip' : Option (List ℕ)) (old new : CursorState) (image : Image) : Type 0 where
  pub stands : here ≡ true → shown number skip (left old image) ≡ with_current new.current (shown number (key_of new.current) (new.rest image))
  pub goes : here ≡ false → shown number skip (left old image) ≡ shown number skip' (left new image)
