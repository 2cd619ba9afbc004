-- What a cache holds after a block went to the front.
use Rattle.std.proofs.Common.{◌≡◌, ◌&&◌, ◌||◌, ℕ, zero, suc, ◌+◌, ◌≤◌, Bool, true, false, cond, List, [], ◌∷◌, ◌++◌, length, take, drop, inl, inr, Option, Some, None, is_some, refl, sym, ◌∙◌, ap, subst, arith, Ok}
use Rattle.std.proofs.lemmas.Bool.{cases_Bool, eq-eqb}
use Rattle.std.specs.List.{AllByRecursion, list_all}
use Rattle.std.specs.Option.{option_map_or}
use Rattle.std.specs.Map.{remove_entry, keys_of}
use Rattle.mr_iter.specs.Versions.{Version}
use Rattle.mr_block.specs.Block.{block_in}
use Rattle.mr_block_cache.specs.declared.span.FileSpan.{FileSpan}
use Rattle.mr_block_cache.specs.Cache.{CachedBlock, is_same, held, with_block, brought, without, with_span, with_spans, is_among, IsWarm, AgreesWith}
use Rattle.mr_block_cache.proofs.Fronting.{same_spans}

-- ---- truth

module _ (P : CachedBlock → Type 0) where
  all_take : (n : ℕ) (cs : List CachedBlock) → AllByRecursion P cs → AllByRecursion P (take n cs)
  all_take zero cs all = tt
  all_take (suc n) [] all = tt
  all_take (suc n) (c ∷ cs) all = (all.0, all_take n cs all.1)

  all_remove : (test : FileSpan → Bool) (cs : List CachedBlock) → AllByRecursion P cs → AllByRecursion P (remove_entry test cs)
  all_remove test [] all = tt
  all_remove test (c ∷ cs) all = elim (test c.0) as (λ b. AllByRecursion P (cond b cs (c ∷ remove_entry test cs))) [
    | true ↦ all.1
    | false ↦ (all.0, all_remove test cs all.1)
  ]

  all_held : (span : FileSpan) (vs : List Version) (cs : List CachedBlock) → AllByRecursion P cs → held span cs ≡ Some vs → P (span, vs)
  all_held span vs [] all e = cc
  all_held span vs (c ∷ cs) all e = (elim (is_same span c.0) as (λ b. is_same span c.0 ≡ b → cond b (Some c.1) (held span cs) ≡ Some vs → P (span, vs)) [
    | true ↦ λ t h. let value : c.1 ≡ vs = cc in subst (λ (s : FileSpan). P (s, vs)) (sym (same_spans span c.0 t)) (subst (λ (x : List Version). P (c.0, x)) value all.0)
    | false ↦ λ t h. all_held span vs cs all.1 h
  ]) refl e

pub agrees_put : (file : ℕ) (bytes : List ℕ) (span : FileSpan) (vs : List Version) (cs : List CachedBlock) → (span.file ≡ file → block_in (take span.size (drop span.place bytes)) ≡ Ok vs) → AgreesWith file bytes cs → AgreesWith file bytes (with_block span vs cs)
agrees_put file bytes span vs cs here all = let P = λ (c : CachedBlock). c.0.file ≡ file → block_in (take c.0.size (drop c.0.place bytes)) ≡ Ok c.1 in
    (here, all_take P 1023 (remove_entry (is_same span) cs) (all_remove P (is_same span) cs all))

pub agrees_held : (file : ℕ) (bytes : List ℕ) (span : FileSpan) (vs : List Version) (cs : List CachedBlock) → AgreesWith file bytes cs → held span cs ≡ Some vs → span.file ≡ file → block_in (take span.size (drop span.place bytes)) ≡ Ok vs
agrees_held file bytes span vs cs all is = all_held (λ (c : CachedBlock). c.0.file ≡ file → block_in (take c.0.size (drop c.0.place bytes)) ≡ Ok c.1) span vs cs all is

pub agrees_brought : (file : ℕ) (bytes : List ℕ) (span : FileSpan) (cs : List CachedBlock) → AgreesWith file bytes cs → AgreesWith file bytes (brought span cs)
agrees_brought file bytes span cs all = go (held span cs) refl
  where
    go : (o : Option (List Version)) → held span cs ≡ o → AgreesWith file bytes (option_map_or (λ (vs : List Version). with_block span vs cs) o cs)
    go None e = all
    go (Some vs) e = agrees_put file bytes span vs cs (agrees_held file bytes span vs cs all e) all

-- ---- the spans

keys_take : (n : ℕ) (cs : List CachedBlock) → keys_of (take n cs) ≡ take n (keys_of cs)
keys_take zero cs = refl
keys_take (suc n) [] = refl
keys_take (suc n) (c ∷ cs) = ap (λ (ss : List FileSpan). c.0 ∷ ss) (keys_take n cs)

keys_without : (span : FileSpan) (cs : List CachedBlock) → keys_of (remove_entry (is_same span) cs) ≡ without span (keys_of cs)
keys_without span [] = refl
keys_without span (c ∷ cs) = elim (is_same span c.0) as (λ b. keys_of (cond b cs (c ∷ remove_entry (is_same span) cs)) ≡ cond b (keys_of cs) (c.0 ∷ without span (keys_of cs))) [
  | true ↦ refl
  | false ↦ ap (λ (ss : List FileSpan). c.0 ∷ ss) (keys_without span cs)
]

pub spans_put : (span : FileSpan) (vs : List Version) (cs : List CachedBlock) → keys_of (with_block span vs cs) ≡ with_span span (keys_of cs)
spans_put span vs cs = ap (λ (ss : List FileSpan). span ∷ ss) (keys_take 1023 (remove_entry (is_same span) cs) ∙ ap (take 1023) (keys_without span cs))

pub spans_brought : (span : FileSpan) (vs : List Version) (cs : List CachedBlock) → held span cs ≡ Some vs → keys_of (brought span cs) ≡ with_span span (keys_of cs)
spans_brought span vs cs e = ap (λ (o : Option (List Version)). keys_of (option_map_or (λ (x : List Version). with_block span x cs) o cs)) e ∙ spans_put span vs cs

pub held_among : (span : FileSpan) (cs : List CachedBlock) → is_some (held span cs) ≡ is_among span (keys_of cs)
held_among span [] = refl
held_among span (c ∷ cs) = elim (is_same span c.0) as (λ b. is_some (cond b (Some c.1) (held span cs)) ≡ (b || is_among span (keys_of cs))) [
  | true ↦ refl
  | false ↦ held_among span cs
]

pub with_more : (xs ys ss : List FileSpan) → with_spans (xs ++ ys) ss ≡ with_spans ys (with_spans xs ss)
with_more [] ys ss = refl
with_more (x ∷ xs) ys ss = with_more xs ys (with_span x ss)

-- ---- what stays among the first

itself : (span : FileSpan) → is_same span span ≡ true
itself span = rw (eq-eqb span.file span.file refl, eq-eqb span.place span.place refl, eq-eqb span.size span.size refl) refl

further : (s : FileSpan) (k : ℕ) (ss : List FileSpan) → is_among s (take k ss) ≡ true → is_among s (take (suc k) ss) ≡ true
further s zero ss e = cc
further s (suc k) [] e = cc
further s (suc k) (q ∷ qs) e = (elim (is_same s q) as (λ b. (b || is_among s (take k qs)) ≡ true → (b || is_among s (take (suc k) qs)) ≡ true) [
  | true ↦ λ h. refl
  | false ↦ λ h. further s k qs h
]) e

all_of_them : (s : FileSpan) (k : ℕ) (ss : List FileSpan) → is_among s (take k ss) ≡ true → is_among s ss ≡ true
all_of_them s zero ss e = cc
all_of_them s (suc k) [] e = cc
all_of_them s (suc k) (q ∷ qs) e = (elim (is_same s q) as (λ b. (b || is_among s (take k qs)) ≡ true → (b || is_among s qs) ≡ true) [
  | true ↦ λ h. refl
  | false ↦ λ h. all_of_them s k qs h
]) e

-- it is the one that goes to the front, or stays among as many of the others
stays : (s p : FileSpan) (k : ℕ) (ss : List FileSpan) → is_among s (take k ss) ≡ true → (is_same s p || is_among s (take k (without p ss))) ≡ true
stays s p k ss e = elim (cases_Bool (is_same s p)) [
  | inl y ↦ rw y refl
  | inr n ↦ rw n (go k ss n e)
]
  where
    go : (k : ℕ) (ss : List FileSpan) → is_same s p ≡ false → is_among s (take k ss) ≡ true → is_among s (take k (without p ss)) ≡ true
    go zero ss n e = cc
    go (suc k) [] n e = cc
    go (suc k) (q ∷ qs) n e = elim (cases_Bool (is_same p q)) [
      | inl y ↦ let other : is_same s q ≡ false = subst (λ (x : FileSpan). is_same s x ≡ false) (same_spans p q y) n in
          let rest : is_among s (take k qs) ≡ true = subst (λ (b : Bool). (b || is_among s (take k qs)) ≡ true) other e in
          subst (λ (b : Bool). is_among s (take (suc k) (cond b qs (q ∷ without p qs))) ≡ true) (sym y) (further s k qs rest)
      | inr m ↦ subst (λ (b : Bool). is_among s (take (suc k) (cond b qs (q ∷ without p qs))) ≡ true) (sym m)
          ((elim (is_same s q) as (λ b. (b || is_among s (take k qs)) ≡ true → (b || is_among s (take k (without p qs))) ≡ true) [
            | true ↦ λ h. refl
            | false ↦ λ h. go k qs n h
          ]) e)
    ]

take_less : (n m : ℕ) (ss : List FileSpan) → n ≤ m → take n (take m ss) ≡ take n ss
take_less zero m ss le = refl
take_less (suc n) zero ss le = absurd (omega (arith, le))
take_less (suc n) (suc m) [] le = refl
take_less (suc n) (suc m) (s ∷ ss) le = ap (λ (xs : List FileSpan). s ∷ xs) (take_less n m ss (omega (arith, le)))

stays_within : (s p : FileSpan) (k : ℕ) (ss : List FileSpan) → suc k ≤ 1024 → is_among s (take k ss) ≡ true → is_among s (take (suc k) (with_span p ss)) ≡ true
stays_within s p k ss le e = ap (is_among s) (take_less (suc k) 1024 (p ∷ without p ss) le) ∙ stays s p k ss e

stays_long : (s : FileSpan) (k : ℕ) (spans ss : List FileSpan) → k + length spans ≤ 1024 → is_among s (take k ss) ≡ true → is_among s (with_spans spans ss) ≡ true
stays_long s k [] ss le e = all_of_them s k ss e
stays_long s k (p ∷ ps) ss le e = stays_long s (suc k) ps (with_span p ss) (omega (arith, le)) (stays_within s p k ss (omega (arith, le)) e)

-- all that went to the front stand there, where they are at most 1,024
pub all_among : (spans ss : List FileSpan) → length spans ≤ 1024 → list_all (λ s. is_among s (with_spans spans ss)) spans ≡ true
all_among [] ss le = refl
all_among (p ∷ ps) ss le =
    let front : is_among p (take 1 (with_span p ss)) ≡ true = ap (λ (b : Bool). b || false) (itself p) in
    let here : is_among p (with_spans ps (with_span p ss)) ≡ true = stays_long p 1 ps (with_span p ss) (omega (arith, le)) front in
    rw here (all_among ps (with_span p ss) (omega (arith, le)))

pub warm_after : (spans : List FileSpan) (old new : List CachedBlock) → length spans ≤ 1024 → keys_of new ≡ with_spans spans (keys_of old) → IsWarm spans new
warm_after spans old new le e = go spans (subst (λ (ss : List FileSpan). list_all (λ s. is_among s ss) spans ≡ true) (sym e) (all_among spans (keys_of old) le))
  where
    go : (xs : List FileSpan) → list_all (λ s. is_among s (keys_of new)) xs ≡ true → IsWarm xs new
    go [] h = refl
    go (x ∷ xs) h = (elim (cases_Bool (is_among x (keys_of new))) [
      | inl y ↦ let also : is_some (held x new) ≡ true = held_among x new ∙ y in rw also (go xs (subst (λ (b : Bool). (b && list_all (λ s. is_among s (keys_of new)) xs) ≡ true) y h))
      | inr n ↦ let bad : false ≡ true = subst (λ (b : Bool). (b && list_all (λ s. is_among s (keys_of new)) xs) ≡ true) n h in cc
    ])
