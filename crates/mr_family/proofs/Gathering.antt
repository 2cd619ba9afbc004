-- The cursors of a family's parts, gathered one after another.
use Rattle.std.proofs.Common.{◌≡◌, ◌⊎◌, ℕ, ◌+◌, ◌<◌, List, [], ◌∷◌, ◌++◌, length, map, take, get_or, zero, suc, Result, Ok, Err, OnOk, refl, sym, ◌∙◌, ap, subst, inl, inr, append_assoc}
use Rattle.std.specs.List.{AllByRecursion}
use Rattle.mr_base.specs.Disk.{Image}
use Rattle.mr_base.specs.declared.stop.Direction.{Direction}
use Rattle.mr_iter.specs.Versions.{joined}
use Rattle.mr_iter.specs.Cursors.{CursorState}
use Rattle.mr_iter.specs.Children.{AnyOf}
use Rattle.mr_iter.specs.Order.{each-append}
use Rattle.mr_iter.specs.MergeFiles.{each_split}
use Rattle.mr_run_file.specs.Reading.{versions_at}
use Rattle.mr_run_open.specs.Runs.{RunState, no_block}
use Rattle.mr_run_get.specs.Get.{IsOffenceIn}
use Rattle.mr_run_cursor.specs.Pinned.{IsRunOffence}
use Rattle.mr_levels.specs.Levels.{IsLive, AreLive, AreApart}
use Rattle.mr_levels.proofs.Joins.{take_next, map_append, any_front, any_behind}
use Rattle.mr_family.specs.Parts.{run_at, runs_at}

-- one more behind others
pub pushed : {X Y : Type 0} (f : X → Y) (old new : List X) (x : X) (y : Y) → new ≡ old ++ x ∷ [] → f x ≡ y → map f new ≡ map f old ++ y ∷ []
pushed {Y = Y} f old new x y e is = ap (map f) e ∙ map_append f old (x ∷ []) ∙ ap (λ (z : Y). map f old ++ z ∷ []) is

pub each_pushed : {X : Type 0} (P : X → Type 0) (old new : List X) (x : X) → new ≡ old ++ x ∷ [] → AllByRecursion P old → P x → AllByRecursion P new
each_pushed P old new x e all here = subst (AllByRecursion P) (sym e) (each-append P old (x ∷ []) all (here, tt))

any_split : {X : Type 0} (P : X → Type 0) (xs ys : List X) → AnyOf P (xs ++ ys) → AnyOf P xs ⊎ AnyOf P ys
any_split P [] ys any = inr any
any_split P (x ∷ xs) ys (inl here) = inl (inl here)
any_split P (x ∷ xs) ys (inr later) = elim (any_split P xs ys later) [
  | inl front ↦ inl (inr front)
  | inr behind ↦ inr behind
]

pub any_pushed : {X : Type 0} (P : X → Type 0) (old new : List X) (x : X) → new ≡ old ++ x ∷ [] → AnyOf P new → AnyOf P old ⊎ P x
any_pushed P old new x e any = elim (any_split P old (x ∷ []) (subst (AnyOf P) e any)) [
  | inl front ↦ inl front
  | inr behind ↦ elim behind [
    | inl here ↦ inr here
    | inr none ↦ absurd none
  ]
]

abbrev pub Offends : Image → ℕ → ℕ → RunState → Type 0
Offends image file at r = IsOffenceIn r r.index.blocks image file at

-- an offence of a block is one of the run
pub run_offence : (r : RunState) (image : Image) (file at : ℕ) → IsRunOffence r image file at → Offends image file at r
run_offence r image file at offence = (offence.is_file, λ gapless. (offence.block, offence.within, subst (λ (f : ℕ). versions_at (image f) (get_or r.index.blocks offence.block no_block) ≡ Err at) (sym offence.is_file) offence.offence))

-- runs, one after another: X are cursors, f what each means
module _ {X : Type 0} (f : X → CursorState) (whole : X → Image → Type 0) (offends : X → Image → ℕ → ℕ → Type 0) where
  pub record Gathers (old now : List X) (rs : List RunState) : Type 0 where
    pub state : map f now ≡ map f old ++ runs_at rs
    pub each : (image : Image) → AllByRecursion (λ c. whole c image) old → AreLive image rs → AllByRecursion (λ c. whole c image) now
    pub any : (image : Image) (file at : ℕ) → AnyOf (λ c. offends c image file at) now → AnyOf (λ c. offends c image file at) old ⊎ AnyOf (Offends image file at) rs

  pub gathers_start : (old : List X) → Gathers old old []
  gathers_start old = record { state = sym (none_more (map f old)); each = λ image all live. all; any = λ image file at any. inl any }
    where
      none_more : (ss : List CursorState) → ss ++ [] ≡ ss
      none_more [] = refl
      none_more (s ∷ ss) = ap (λ (ts : List CursorState). s ∷ ts) (none_more ss)

  pub gathers_next : (old now new : List X) (rs : List RunState) (i : ℕ) (r : RunState) (c : X) → i < length rs → r ≡ get_or rs i r → Gathers old now (take i rs) → new ≡ now ++ c ∷ [] → f c ≡ run_at r →
      ((image : Image) → IsLive image r → whole c image) → ((image : Image) (file at : ℕ) → offends c image file at → Offends image file at r) → Gathers old new (take (i + 1) rs)
  gathers_next old now new rs i r c lt at so_far e is holds law = subst (Gathers old new) (sym (take_next rs i r lt ∙ ap (λ (x : RunState). take i rs ++ x ∷ []) (sym at))) (record {
    state = pushed f now new c (run_at r) e is ∙ ap (λ (ss : List CursorState). ss ++ run_at r ∷ []) so_far.state ∙ append_assoc (map f old) (runs_at (take i rs)) (run_at r ∷ []) ∙ ap (λ (ss : List CursorState). map f old ++ ss) (sym (map_append run_at (take i rs) (r ∷ [])));
    each = λ image all live. let lives = each_split (IsLive image) (take i rs) (r ∷ []) live in each_pushed (λ c. whole c image) now new c e (so_far.each image all lives.0) (holds image lives.1.0);
    any = λ image file at any. elim (any_pushed (λ c. offends c image file at) now new c e any) [
      | inl before ↦ elim (so_far.any image file at before) [
        | inl first ↦ inl first
        | inr runs ↦ inr (any_front (Offends image file at) (take i rs) (r ∷ []) runs)
      ]
      | inr here ↦ inr (any_behind (Offends image file at) (take i rs) (r ∷ []) (inl (law image file at here)))
    ];
  })

pub none_before : (Q : Type 0) → ⊥ ⊎ Q → Q
none_before Q (inl none) = absurd none
none_before Q (inr here) = here

pub or_then : {A B C : Type 0} → (B → C) → A ⊎ B → A ⊎ C
or_then law (inl first) = inl first
or_then law (inr second) = inr (law second)

pub on_ok : {A E : Type 0} {P Q : Type 0} (r : Result A E) → (P → Q) → OnOk r P → OnOk r Q
on_ok (Ok x) law h = law h
on_ok (Err e) law h = h

-- ---- levels

pub level_live : (image : Image) (rss : List (List RunState)) (i : ℕ) (rs : List RunState) → AreLive image (joined rss) → rs ≡ get_or rss i [] → AreLive image rs
level_live image rss i rs live e = subst (AreLive image) (sym e) (go rss i live)
  where
    go : (rss : List (List RunState)) (i : ℕ) → AreLive image (joined rss) → AreLive image (get_or rss i [])
    go [] i live = tt
    go (rs ∷ rss) zero live = (each_split (IsLive image) rs (joined rss) live).0
    go (rs ∷ rss) (suc i) live = go rss i (each_split (IsLive image) rs (joined rss) live).1

pub level_apart : (d e : Direction) (rss : List (List RunState)) (i : ℕ) (rs : List RunState) → AllByRecursion (AreApart d) rss → e ≡ d → rs ≡ get_or rss i [] → AreApart e rs
level_apart d e rss i rs apart same is = subst (λ (x : Direction). AreApart x rs) (sym same) (subst (AreApart d) (sym is) (go rss i apart))
  where
    go : (rss : List (List RunState)) (i : ℕ) → AllByRecursion (AreApart d) rss → AreApart d (get_or rss i [])
    go [] i apart = tt
    go (rs ∷ rss) zero apart = apart.0
    go (rs ∷ rss) (suc i) apart = go rss i apart.1

pub level_any : (P : RunState → Type 0) (rss : List (List RunState)) (i : ℕ) (rs : List RunState) → rs ≡ get_or rss i [] → AnyOf P rs → AnyOf P (joined rss)
level_any P rss i rs e any = go rss i (subst (AnyOf P) e any)
  where
    go : (rss : List (List RunState)) (i : ℕ) → AnyOf P (get_or rss i []) → AnyOf P (joined rss)
    go [] i any = any
    go (rs ∷ rss) zero any = any_front P rs (joined rss) any
    go (rs ∷ rss) (suc i) any = any_behind P rs (joined rss) (go rss i any)

-- an offence of the last step, or of one before it
pub split_or : {M P Q J : Type 0} → (M → P ⊎ J) → (Q → J) → M ⊎ Q → P ⊎ J
split_or before law (inl early) = before early
split_or before law (inr here) = inr (law here)

pub each_none : {X : Type 0} (P : X → Type 0) (xs : List X) → xs ≡ [] → AllByRecursion P xs
each_none P xs e = subst (AllByRecursion P) (sym e) tt

pub any_none : {X J : Type 0} (P : X → Type 0) (xs : List X) → xs ≡ [] → AnyOf P xs → J
any_none P xs e any = absurd (subst (AnyOf P) e any)

pub only_right : {M Q J : Type 0} → (M → J) → (Q → J) → M ⊎ Q → J
only_right before law (inl early) = before early
only_right before law (inr here) = law here
