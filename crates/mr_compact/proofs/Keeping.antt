-- What a merge keeps of each key.
use Rattle.std.proofs.Common.{◌≡◌, ℕ, ◌≤◌, Bool, true, false, ◌&&◌, not, nat_lt, List, [], ◌∷◌, ◌++◌, filter, Option, Some, None, is_none, refl, sym, ◌∙◌, ap, subst, inl, inr, arith}
use Rattle.std.specs.List.{AllByRecursion}
use Rattle.std.specs.Cmp.Lexicographic.{slice_cmp}
use Rattle.std.specs.Ordering.{nat_cmp, is_gt}
use Rattle.std.proofs.lemmas.Bool.{cases_Bool}
use Rattle.std.proofs.lemmas.Bool.Decides.{nat_tests}
use Rattle.mr_base.specs.declared.stop.Direction.{Direction}
use Rattle.mr_iter.specs.Versions.{Version, version_cmp, IsInOrder, IsAtFront, as_version, joined}
use Rattle.mr_iter.specs.Snapshots.{is_skipped}
use Rattle.mr_iter.specs.RunOuts.{with_version}
use Rattle.mr_iter.specs.Newest.{is_of, is_at, newest, shown_one}
use Rattle.mr_iter.proofs.Newer.{eq_of, same_bytes, key_is, of_itself, at_itself, upto_front}
use Rattle.mr_compact.proofs.Keys.{clash, NotBehind, later_keys, behind}
use Rattle.mr_compact.specs.Kept.{Keeps, kept_put, kept_from, becomes, stays_shown, is_closed, alone, runs_from}

not_past : (m n : ℕ) → nat_lt m n ≡ false → n ≤ m
not_past m n is = grind (arith, nat_tests)

upto_past : (m n : ℕ) → n ≤ m → nat_lt m n ≡ true → ⊥
upto_past m n le is = grind (arith, nat_tests)

module _ (oldest : ℕ) (bottom : Bool) (keeps : Keeps) where
  -- what holds of all by their keys and numbers holds of those that are kept
  pub each_kept : (P : List ℕ → ℕ → Type 0) (skip : Option (List ℕ)) (vs : List Version) → AllByRecursion (λ (w : Version). P w.key w.sequence) vs → AllByRecursion (λ (w : Version). P w.key w.sequence) (kept_from oldest bottom keeps skip vs)
  each_kept P skip [] all = tt
  each_kept P skip (v ∷ vs) all = elim (cases_Bool (nat_lt oldest v.sequence)) [
    | inl late ↦ rw late (all.0, each_kept P skip vs all.1)
    | inr early ↦ elim (cases_Bool (is_skipped skip v.key)) [
      | inl skipped ↦ rw (early, skipped) (each_kept P skip vs all.1)
      | inr seen ↦ elim (cases_Bool (bottom && is_none (kept_put keeps v.key v.put))) [
        | inl gone ↦ rw (early, seen, gone) (each_kept P (Some v.key) vs all.1)
        | inr stays ↦ rw (early, seen, stays) (all.0, each_kept P (Some v.key) vs all.1)
      ]
    ]
  ]

  front_kept : (d : Direction) (v : Version) (skip : Option (List ℕ)) (vs : List Version) → IsAtFront (version_cmp d) v vs → IsAtFront (version_cmp d) v (kept_from oldest bottom keeps skip vs)
  front_kept d v skip vs front = each_kept (λ key sequence. is_gt (version_cmp d v (as_version key sequence None)) ≡ false) skip vs front

  -- and they stay in order
  pub kept_in_order : (d : Direction) (skip : Option (List ℕ)) (vs : List Version) → IsInOrder (version_cmp d) vs → IsInOrder (version_cmp d) (kept_from oldest bottom keeps skip vs)
  kept_in_order d skip [] all = tt
  kept_in_order d skip (v ∷ vs) all = elim (cases_Bool (nat_lt oldest v.sequence)) [
    | inl late ↦ rw late (front_kept d v skip vs all.0, kept_in_order d skip vs all.1)
    | inr early ↦ elim (cases_Bool (is_skipped skip v.key)) [
      | inl skipped ↦ rw (early, skipped) (kept_in_order d skip vs all.1)
      | inr seen ↦ elim (cases_Bool (bottom && is_none (kept_put keeps v.key v.put))) [
        | inl gone ↦ rw (early, seen, gone) (kept_in_order d (Some v.key) vs all.1)
        | inr stays ↦ rw (early, seen, stays) (front_kept d v (Some v.key) vs all.0, kept_in_order d (Some v.key) vs all.1)
      ]
    ]
  ]

  module _ (d : Direction) (number : ℕ) (upto : oldest ≤ number) (key : List ℕ) where
    abbrev AreOld : List Version → Type 0
    AreOld vs = AllByRecursion (λ (w : Version). is_of key w ≡ true → w.sequence ≤ oldest) vs

    old : (v : Version) (vs : List Version) → key ≡ v.key → v.sequence ≤ oldest → IsAtFront (version_cmp d) v vs → AreOld vs
    old v [] same le front = tt
    old v (w ∷ ws) same le front = ((λ is. let less : w.sequence ≤ v.sequence = upto_front d number v w (sym same ∙ key_is key w is) front.0 in omega (arith, less, le)), old v ws same le front.1)

    not_at : (w : Version) → is_of key w ≡ false → is_at number key w ≡ false
    not_at w other = elim (not (nat_lt number w.sequence)) as (λ b. (b && is_of key w) ≡ false) [
      | true ↦ other
      | false ↦ refl
    ]

    none_newest : (vs : List Version) → AllByRecursion (λ (w : Version). is_of key w ≡ false) vs → newest number key vs ≡ None
    none_newest [] all = refl
    none_newest (v ∷ vs) all = let past = not_at v all.0 in rw past (none_newest vs all.1)

    none_kept : (skip : Option (List ℕ)) (vs : List Version) → AllByRecursion (λ (w : Version). is_of key w ≡ false) vs → newest number key (kept_from oldest bottom keeps skip vs) ≡ None
    none_kept skip vs all = none_newest (kept_from oldest bottom keeps skip vs) (each_kept (λ k sequence. is_of key (as_version k sequence None) ≡ false) skip vs all)

    -- of a key that was passed nothing more is kept
    passed : (vs : List Version) → IsInOrder (version_cmp d) vs → NotBehind d key vs → AreOld vs → newest number key (kept_from oldest bottom keeps (Some key) vs) ≡ None
    passed [] all low olds = refl
    passed (v ∷ vs) all low olds = elim (cases_Bool (nat_lt oldest v.sequence)) [
      | inl late ↦ elim (cases_Bool (is_of key v)) [
        | inl is ↦ absurd (upto_past oldest v.sequence (olds.0 is) late)
        | inr other ↦ let past = not_at v other in rw late (rw past (passed vs all.1 low.1 olds.1))
      ]
      | inr early ↦ elim (cases_Bool (is_of key v)) [
        | inl skipped ↦ rw (early, skipped) (passed vs all.1 low.1 olds.1)
        | inr other ↦
            let past = not_at v other in
            let rest = none_kept (Some v.key) vs (later_keys d key v vs low.0 other all.0) in
            elim (cases_Bool (bottom && is_none (kept_put keeps v.key v.put))) [
              | inl gone ↦ rw (early, other, gone) rest
              | inr stays ↦ rw (early, other, stays) (rw past rest)
            ]
      ]
    ]

    unlike : (v : Version) → is_of key v ≡ false → is_skipped (Some v.key) key ≡ false
    unlike v other = elim (cases_Bool (is_skipped (Some v.key) key)) [
      | inl is ↦
          let same : v.key ≡ key = same_bytes v.key key (eq_of (slice_cmp nat_cmp v.key key) is) in
          absurd (clash other (subst (λ (k : List ℕ). is_of k v ≡ true) same (of_itself v)))
      | inr none ↦ none
    ]

    pub newest_kept : (skip : Option (List ℕ)) (vs : List Version) → is_skipped skip key ≡ false → IsInOrder (version_cmp d) vs → newest number key (kept_from oldest bottom keeps skip vs) ≡ becomes oldest bottom keeps (newest number key vs)
    newest_kept skip [] other all = refl
    newest_kept skip (v ∷ vs) other all = elim (cases_Bool (nat_lt oldest v.sequence)) [
      | inl late ↦ elim (cases_Bool (is_at number key v)) [
        | inl here ↦ rw (here, late) (rw here refl)
        | inr past ↦ rw (past, late) (rw past (newest_kept skip vs other all.1))
      ]
      | inr early ↦ elim (cases_Bool (is_of key v)) [
        | inl is ↦
            let same : key ≡ v.key = key_is key v is in
            let seen : is_skipped skip v.key ≡ false = subst (λ (k : List ℕ). is_skipped skip k ≡ false) same other in
            let le : v.sequence ≤ oldest = not_past oldest v.sequence early in
            let below : v.sequence ≤ number = omega (arith, le, upto) in
            let here : is_at number key v ≡ true = subst (λ (k : List ℕ). is_at number k v ≡ true) (sym same) (at_itself number v below) in
            let rest : newest number key (kept_from oldest bottom keeps (Some v.key) vs) ≡ None = subst (λ (k : List ℕ). newest number key (kept_from oldest bottom keeps (Some k) vs) ≡ None) same (passed vs all.1 (behind d key v vs same all.0) (old v vs same le all.0)) in
            elim (cases_Bool (bottom && is_none (kept_put keeps v.key v.put))) [
              | inl gone ↦ rw (here, early, seen, gone) rest
              | inr stays ↦ rw (here, early, seen, stays) (rw here refl)
            ]
        | inr no_v ↦
            let past = not_at v no_v in
            elim (cases_Bool (is_skipped skip v.key)) [
              | inl skipped ↦ rw (past, early, skipped) (newest_kept skip vs other all.1)
              | inr seen ↦ elim (cases_Bool (bottom && is_none (kept_put keeps v.key v.put))) [
                | inl gone ↦ rw (past, early, seen, gone) (newest_kept (Some v.key) vs (unlike v no_v) all.1)
                | inr stays ↦ rw (past, early, seen, stays) (rw past (newest_kept (Some v.key) vs (unlike v no_v) all.1))
              ]
            ]
      ]
    ]

  shown_of : (key : List ℕ) (sequence : ℕ) (put : Option (List ℕ)) → shown_one (becomes oldest bottom keeps (Some (as_version key sequence put))) ≡ filter (stays_shown oldest keeps) (shown_one (Some (as_version key sequence put)))
  shown_of key sequence None = elim (cases_Bool (nat_lt oldest sequence)) [
    | inl late ↦ rw late refl
    | inr early ↦ elim (cases_Bool bottom) [
      | inl deep ↦ rw (early, deep) refl
      | inr above ↦ rw (early, above) refl
    ]
  ]
  shown_of key sequence (Some value) = elim (cases_Bool (nat_lt oldest sequence)) [
    | inl late ↦ rw late refl
    | inr early ↦ elim (cases_Bool (keeps key value)) [
      | inl kept ↦ elim (cases_Bool bottom) [
        | inl deep ↦ rw (early, kept, deep) refl
        | inr above ↦ rw (early, kept, above) refl
      ]
      | inr drops ↦ elim (cases_Bool bottom) [
        | inl deep ↦ rw (early, drops, deep) refl
        | inr above ↦ rw (early, drops, above) refl
      ]
    ]
  ]

  -- what a view shows of a key is what it showed, but for what the filter doesn't keep
  pub shown_kept : (o : Option Version) → shown_one (becomes oldest bottom keeps o) ≡ filter (stays_shown oldest keeps) (shown_one o)
  shown_kept None = refl
  shown_kept (Some v) = shown_of v.key v.sequence v.put

append_assoc : (xs ys zs : List Version) → (xs ++ ys) ++ zs ≡ xs ++ (ys ++ zs)
append_assoc [] ys zs = refl
append_assoc (x ∷ xs) ys zs = ap (λ (ws : List Version). x ∷ ws) (append_assoc xs ys zs)

joined_alone : (run : List Version) → joined (alone run) ≡ run ++ []
joined_alone [] = refl
joined_alone (v ∷ run) = refl

-- the runs have all versions, one after another
pub joined_runs : (run vs : List Version) → joined (runs_from run vs) ≡ run ++ vs
joined_runs run [] = joined_alone run
joined_runs run (v ∷ vs) = elim (cases_Bool (is_closed run v)) [
  | inl closed ↦ rw closed (ap (λ (ws : List Version). run ++ ws) (joined_runs (v ∷ []) vs))
  | inr goes_on ↦ rw goes_on (joined_runs (with_version run v) vs ∙ append_assoc run (v ∷ []) vs)
]
