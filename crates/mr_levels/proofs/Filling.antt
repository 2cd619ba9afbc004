-- One level of many, changed; and the spans of the levels, one after another.
use Rattle.std.proofs.Common.{◌≡◌, ℕ, ◌+◌, ◌<◌, List, [], ◌∷◌, ◌++◌, length, map, take, get_or, zero, suc, refl, sym, ◌∙◌, ap, arith, append_assoc, Vec, Global}
use Rattle.std.specs.Prelude.{slice_set}
use Rattle.mr_compact.specs.declared.span.Span.{Span}
use Rattle.mr_run_open.specs.declared.run.Run.{Run}
use Rattle.mr_run_open.specs.Runs.{RunState}
use Rattle.mr_levels.specs.Levels.{changed_at}
use Rattle.mr_levels.specs.Spans.{spans_at, spans_from}
use Rattle.mr_levels.proofs.Joins.{take_next, map_append}
use Rattle.mr_levels.proofs.Looking.{items_of}

pub set_changed : (levels : List (Vec Run Global)) (i : ℕ) (v w : Vec Run Global) (f : List RunState → List RunState) → i < length levels → v ≡ get_or levels i v → w.items ≡ f v.items → map items_of (slice_set levels i w) ≡ changed_at i f (map items_of levels)
set_changed levels i v w f lt at e = go levels i lt (e ∙ ap (λ (u : Vec Run Global). f u.items) at)
  where
    go : (vs : List (Vec Run Global)) (i : ℕ) → i < length vs → w.items ≡ f (get_or vs i v).items → map items_of (slice_set vs i w) ≡ changed_at i f (map items_of vs)
    go [] i lt e = absurd (omega (arith, lt))
    go (u ∷ vs) zero lt e = ap (λ (rs : List RunState). rs ∷ map items_of vs) e
    go (u ∷ vs) (suc i) lt e = ap (λ (rss : List (List RunState)). u.items ∷ rss) (go vs i (omega (arith, lt)) e)

pub set_same : (levels : List (Vec Run Global)) (i : ℕ) (v w : Vec Run Global) → i < length levels → v ≡ get_or levels i v → w.items ≡ v.items → map items_of (slice_set levels i w) ≡ map items_of levels
set_same levels i v w lt at e = go levels i lt (e ∙ ap (λ (u : Vec Run Global). u.items) at)
  where
    go : (vs : List (Vec Run Global)) (i : ℕ) → i < length vs → w.items ≡ (get_or vs i v).items → map items_of (slice_set vs i w) ≡ map items_of vs
    go [] i lt e = absurd (omega (arith, lt))
    go (u ∷ vs) zero lt e = ap (λ (rs : List RunState). rs ∷ map items_of vs) e
    go (u ∷ vs) (suc i) lt e = ap (λ (rss : List (List RunState)). u.items ∷ rss) (go vs i (omega (arith, lt)) e)

spans_push : (level : ℕ) (rss : List (List RunState)) (rs : List RunState) → spans_from level (rss ++ rs ∷ []) ≡ spans_from level rss ++ spans_at (level + length rss) rs
spans_push level [] rs = none_more (spans_at level rs) ∙ ap (λ (n : ℕ). spans_at n rs) (as_it_is level)
  where
    none_more : (ss : List Span) → ss ++ [] ≡ ss
    none_more [] = refl
    none_more (s ∷ ss) = ap (λ (ts : List Span). s ∷ ts) (none_more ss)

    as_it_is : (n : ℕ) → n ≡ n + 0
    as_it_is n = omega arith
spans_push level (qs ∷ rss) rs =
    ap (λ (ss : List Span). spans_at level qs ++ ss) (spans_push (level + 1) rss rs ∙ ap (λ (n : ℕ). spans_from (level + 1) rss ++ spans_at n rs) (one_more level (length rss)))
    ∙ sym (append_assoc (spans_at level qs) (spans_from (level + 1) rss) (spans_at (level + length (qs ∷ rss)) rs))
  where
    one_more : (n m : ℕ) → (n + 1) + m ≡ n + suc m
    one_more n m = omega arith

map_long : (vs : List (Vec Run Global)) (i : ℕ) → i < length vs → length (map items_of (take i vs)) ≡ i
map_long [] i lt = absurd (omega (arith, lt))
map_long (v ∷ vs) zero lt = refl
map_long (v ∷ vs) (suc i) lt = ap (λ (n : ℕ). suc n) (map_long vs i (omega (arith, lt)))

pub next_spans : (levels : List (Vec Run Global)) (i level : ℕ) (v : Vec Run Global) (rs : List RunState) (before now after : List Span) → i < length levels → v ≡ get_or levels i v → level ≡ i + 1 → rs ≡ v.items →
    now ≡ before ++ spans_from 1 (map items_of (take i levels)) → after ≡ now ++ spans_at level rs → after ≡ before ++ spans_from 1 (map items_of (take (i + 1) levels))
next_spans levels i level v rs before now after lt at counted is so_far e =
    e ∙ ap (λ (ss : List Span). ss ++ spans_at level rs) so_far
    ∙ append_assoc before (spans_from 1 (map items_of (take i levels))) (spans_at level rs)
    ∙ ap (λ (ss : List Span). before ++ ss) (
    ap (λ (n : ℕ). spans_from 1 (map items_of (take i levels)) ++ spans_at n rs) (place i level counted (length (map items_of (take i levels))) (map_long levels i lt))
    ∙ ap (λ (xs : List RunState). spans_from 1 (map items_of (take i levels)) ++ spans_at (1 + length (map items_of (take i levels))) xs) is
    ∙ sym (spans_push 1 (map items_of (take i levels)) v.items)
    ∙ ap (spans_from 1) (sym (map_append items_of (take i levels) (v ∷ [])))
    ∙ ap (λ (vs : List (Vec Run Global)). spans_from 1 (map items_of vs)) (sym (take_next levels i v lt ∙ ap (λ (x : Vec Run Global). take i levels ++ x ∷ []) (sym at))))
  where
    place : (i level : ℕ) → level ≡ i + 1 → (n : ℕ) → n ≡ i → level ≡ 1 + n
    place i level e n f = omega (arith, e, f)
