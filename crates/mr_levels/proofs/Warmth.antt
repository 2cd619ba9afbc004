-- A cache that is warm for several look-ups stays so while they are made.
use Rattle.std.proofs.Common.{◌≡◌, ◌||◌, ℕ, ◌+◌, ◌≤◌, Bool, true, false, List, [], ◌∷◌, ◌++◌, length, suc, refl, sym, ◌∙◌, ap, subst, inl, inr, arith}
use Rattle.std.specs.List.{list_all}
use Rattle.std.specs.Map.{keys_of}
use Rattle.std.specs.Prelude.{is_some}
use Rattle.std.proofs.lemmas.Bool.{cases_Bool}
use Rattle.mr_iter.specs.Places.{and_split}
use Rattle.mr_block_cache.specs.declared.span.FileSpan.{FileSpan}
use Rattle.mr_block_cache.specs.Cache.{CachedBlock, is_same, is_among, held, without, with_span, with_spans, IsWarm}
use Rattle.mr_block_cache.proofs.Fronting.{same_spans}
use Rattle.mr_block_cache.proofs.Holding.{held_among}
use Rattle.mr_levels.proofs.Joins.{take_whole}

one_less : (t : FileSpan) (ks : List FileSpan) → is_among t ks ≡ true → length (without t ks) + 1 ≡ length ks
one_less t [] is = cc
one_less t (k ∷ ks) is = elim (cases_Bool (is_same t k)) [
  | inl same ↦ rw same (omega arith)
  | inr other ↦ let more : is_among t ks ≡ true = subst (λ (b : Bool). (b || is_among t ks) ≡ true) other is in rw other (omega (arith, one_less t ks more))
]

-- one that is held goes to the front, and none falls out
fronted : (t : FileSpan) (ks : List FileSpan) → is_among t ks ≡ true → length ks ≤ 1024 → with_span t ks ≡ t ∷ without t ks
fronted t ks is few = take_whole 1024 (t ∷ without t ks) (long (length (without t ks)) (length ks) (one_less t ks is) few)
  where
    long : (m n : ℕ) → m + 1 ≡ n → n ≤ 1024 → suc m ≤ 1024
    long m n e le = omega (arith, e, le)

still_among : (s t : FileSpan) (ks : List FileSpan) → is_among s ks ≡ true → is_among s (t ∷ without t ks) ≡ true
still_among s t [] is = cc
still_among s t (k ∷ ks) is = elim (cases_Bool (is_same t k)) [
  | inl same ↦ subst (λ (x : FileSpan). is_among s (x ∷ without t (k ∷ ks)) ≡ true) (sym (same_spans t k same)) (rw same is)
  | inr other ↦ elim (cases_Bool (is_same s k)) [
    | inl here ↦ rw other (rw here (either (is_same s t)))
    | inr elsewhere ↦
        let more : is_among s ks ≡ true = subst (λ (b : Bool). (b || is_among s ks) ≡ true) elsewhere is in
        rw other (rw elsewhere (still_among s t ks more))
  ]
]
  where
    either : (b : Bool) → (b || true) ≡ true
    either true = refl
    either false = refl

all_still : (t : FileSpan) (ks xs : List FileSpan) → list_all (λ s. is_among s ks) xs ≡ true → list_all (λ s. is_among s (t ∷ without t ks)) xs ≡ true
all_still t ks [] is = refl
all_still t ks (x ∷ xs) is = let parts = and_split (is_among x ks) (list_all (λ s. is_among s ks) xs) is in rw (still_among x t ks parts.0) (all_still t ks xs parts.1)

-- after all of these went to the front, all that were held are, and they are as many
record Stay (ks ls : List FileSpan) : Type 0 where
  long : length ls ≡ length ks
  all : (xs : List FileSpan) → list_all (λ s. is_among s ks) xs ≡ true → list_all (λ s. is_among s ls) xs ≡ true

stay : (spans ks : List FileSpan) → list_all (λ s. is_among s ks) spans ≡ true → length ks ≤ 1024 → Stay ks (with_spans spans ks)
stay [] ks is few = record { long = refl; all = λ xs here. here }
stay (t ∷ spans) ks is few =
    let parts = and_split (is_among t ks) (list_all (λ s. is_among s ks) spans) is in
    let front : with_span t ks ≡ t ∷ without t ks = fronted t ks parts.0 few in
    let len : length (t ∷ without t ks) ≡ length ks = counted (length (without t ks)) (length ks) (one_less t ks parts.0) in
    let next = stay spans (t ∷ without t ks) (all_still t ks spans parts.1) (subst (λ (n : ℕ). n ≤ 1024) (sym len) few) in
    subst (λ (ls : List FileSpan). Stay ks (with_spans spans ls)) (sym front) (record { long = next.long ∙ len; all = λ xs here. next.all xs (all_still t ks xs here) })
  where
    counted : (m n : ℕ) → m + 1 ≡ n → suc m ≡ n
    counted m n e = omega (arith, e)

among_warm : (xs : List FileSpan) (cs : List CachedBlock) → list_all (λ s. is_among s (keys_of cs)) xs ≡ true → IsWarm xs cs
among_warm [] cs is = refl
among_warm (x ∷ xs) cs is = let parts = and_split (is_among x (keys_of cs)) (list_all (λ s. is_among s (keys_of cs)) xs) is in rw (held_among x cs ∙ parts.0) (among_warm xs cs parts.1)

warm_among : (xs : List FileSpan) (cs : List CachedBlock) → IsWarm xs cs → list_all (λ s. is_among s (keys_of cs)) xs ≡ true
warm_among [] cs is = refl
warm_among (x ∷ xs) cs is = let parts = and_split (is_some (held x cs)) (list_all (λ s. is_some (held s cs)) xs) is in rw (sym (held_among x cs) ∙ parts.0) (warm_among xs cs parts.1)

keys_long : (cs : List CachedBlock) → length (keys_of cs) ≡ length cs
keys_long [] = refl
keys_long (c ∷ cs) = ap (λ (n : ℕ). suc n) (keys_long cs)

pub stays_warm : (done more : List FileSpan) (cs ds : List CachedBlock) → length cs ≤ 1024 → IsWarm done cs → IsWarm more cs → keys_of ds ≡ with_spans done (keys_of cs) → (length ds ≤ 1024) × IsWarm more ds
stays_warm done more cs ds few here there e =
    let next = stay done (keys_of cs) (warm_among done cs here) (subst (λ (n : ℕ). n ≤ 1024) (sym (keys_long cs)) few) in
    let len : length ds ≡ length cs = sym (keys_long ds) ∙ ap (λ (ks : List FileSpan). length ks) e ∙ next.long ∙ keys_long cs in
    (subst (λ (n : ℕ). n ≤ 1024) (sym len) few, among_warm more ds (subst (λ (ks : List FileSpan). list_all (λ s. is_among s ks) more ≡ true) (sym e) (next.all more (warm_among more cs there))))

pub warm_split : (xs ys : List FileSpan) (cs : List CachedBlock) → IsWarm (xs ++ ys) cs → IsWarm xs cs × IsWarm ys cs
warm_split [] ys cs is = (refl, is)
warm_split (x ∷ xs) ys cs is =
    let parts = and_split (is_some (held x cs)) (list_all (λ s. is_some (held s cs)) (xs ++ ys)) is in
    let rest = warm_split xs ys cs parts.1 in
    (rw parts.0 rest.0, rest.1)
