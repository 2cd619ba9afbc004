-- What a step of a walk finds at its place.
use Rattle.std.proofs.Common.{◌≡◌, ◌≢◌, ◌⊎◌, inl, inr, ⊎_elim, ℕ, ◌+◌, ◌-◌, ◌*◌, ◌^◌, ◌≤◌, ◌<◌, true, false, ◌==◌, nat_lt, List, [], ◌∷◌, length, get_or, take, drop, refl, sym, ◌∙◌, ap, subst, arith, length-drop}
use Rattle.std.proofs.lemmas.List.{drop_more, drop_all, drop-drop, length-take-le}
use Rattle.std.proofs.lemmas.Bool.{and_from, lt-ltb, cases_lt}
use Rattle.mr_base.specs.Disk.{State}
use Rattle.mr_base.specs.Calls.{Counts}
use Rattle.mr_gate.specs.Log.{size_of, is_whole, walk, span, is_bad_end, records_from, end_from, is_damaged_from}
use Rattle.mr_gate.specs.Walking.{IsPaid}
use Rattle.mr_gate.proofs.Walk.{Ends, walk_nil, walk_record, walk_end, good_end, begins}

nothing_damaged : (place : ℕ) (file rest : List ℕ) → drop place file ≡ rest → walk 0 rest ≡ [] → is_bad_end place rest ≡ false → (records_from place file ≡ []) × (is_damaged_from place file ≡ false)
nothing_damaged place file rest parts none good =
    let records : records_from place file ≡ [] = ap (walk 0) parts ∙ none in
    let end : place ≡ end_from place file = omega (arith, ap span records) in
    (records, subst (λ p. is_bad_end p (drop p file) ≡ false) end (ap (is_bad_end place) parts ∙ good))

pub empty_ends : (place : ℕ) (file : List ℕ) → length file ≡ 0 → place ≡ 0 → (records_from place file ≡ []) × (is_damaged_from place file ≡ false)
empty_ends place file none at =
    nothing_damaged place file [] (drop_all place file (omega (arith, none, at))) walk_nil (ap (λ p. is_bad_end p []) at)

module _ (place : ℕ) (file : List ℕ) (gate : ℕ) (is_gate : gate ≡ get_or file place 0) (inside : place < length file) where
  parts : drop place file ≡ gate ∷ drop (place + 1) file
  parts = drop_more file place 0 inside ∙ ap (λ g. g ∷ drop (place + 1) file) (sym is_gate)

  pub ended : (gate ≢ 167) ⊎ (length file ≤ place + 1) → (records_from place file ≡ []) × (is_damaged_from place file ≡ false)
  ended either =
      let ends : Ends gate (drop (place + 1) file) = ⊎_elim (λ (shut : gate ≢ 167). inl shut) (λ (last : length file ≤ place + 1). inr (drop_all (place + 1) file last)) either in
      nothing_damaged place file (gate ∷ drop (place + 1) file) parts (walk_end gate (drop (place + 1) file) ends) (good_end place gate (drop (place + 1) file) ends)

  pub record_there : (size : ℕ) (body : List ℕ) → gate ≡ 167 → size ≡ size_of (drop (place + 1) file) → size ≤ 2 ^ 29 → place + (size + 5) < length file
      → body ≡ take size (drop (place + 5) file) → records_from place file ≡ body ∷ records_from (place + (size + 5)) file
  record_there size body opened is small room body_is =
      let behind = drop (place + 1) file in
      let whole : begins 167 behind ≡ true = and_from (nat_lt (size_of behind) (2 ^ 29 + 1)) (nat_lt (4 + size_of behind) (length behind)) (lt-ltb (size_of behind) (2 ^ 29 + 1) (omega (arith, is, small)))
      (lt-ltb (4 + size_of behind) (length behind) (omega (arith, is, room, length-drop (place + 1) file))) in
      let five : drop 4 behind ≡ drop (place + 5) file = drop-drop 4 (place + 1) file ∙ ap (λ n. drop n file) (omega arith) in
      let after : drop (4 + size_of behind) behind ≡ drop (place + (size + 5)) file = drop-drop (4 + size_of behind) (place + 1) file ∙ ap (λ n. drop n file) (omega (arith, is)) in
      let front : take (size_of behind) (drop 4 behind) ≡ body = ap (λ n. take n (drop 4 behind)) (sym is) ∙ ap (λ (l : List ℕ). take size l) five ∙ sym body_is in
      ap (walk 0) (parts ∙ ap (λ g. g ∷ behind) opened) ∙ walk_record 167 behind whole
      ∙ ap (λ (b : List ℕ). b ∷ walk 0 (drop (4 + size_of behind) behind)) front ∙ ap (λ (l : List ℕ). body ∷ walk 0 l) after

  pub within : (size : ℕ) → gate ≡ 167 → size ≡ size_of (drop (place + 1) file) → size ≤ 2 ^ 29 → place + (size + 5) < length file → place + (size + 5) ≤ end_from place file
  within size opened is small room =
      let records = record_there size (take size (drop (place + 5) file)) opened is small room refl in
      let long : length (take size (drop (place + 5) file)) ≡ size = length-take-le size (drop (place + 5) file) (omega (arith, room, length-drop (place + 5) file)) in
      omega (arith, ap span records, long)
