-- A file of which each unsynced byte is one value, through each kind of call.
use Rattle.std.proofs.Common.{◌≡◌, ◌⊎◌, inl, inr, ⊎_elim, ℕ, ◌+◌, ◌-◌, ◌≤◌, ◌<◌, min, max, List, [], ◌∷◌, ◌++◌, length, get_or, take, drop, replicate, refl, sym, ◌∙◌, ap, subst, arith, length-take}
use Rattle.std.proofs.lemmas.List.{take_all, drop_all, get_or-take, get_or_past, length-replicate, get_or-replicate}
use Rattle.std.proofs.lemmas.Bool.{cases_lt}
use Rattle.mr_base.specs.Disk.{IsIn, File, MayLeave, at_rest, overwrite}
use Rattle.mr_memhost.specs.Crash.{FilledWith}
use Rattle.mr_memhost.specs.Story.{PendsMore, written, cut}
use Rattle.mr_memhost.proofs.Files.{length-overwrite, get_before, get_inside, get_behind, in_more, in_either}

-- a write past the end is one at the end
past_end : (at : ℕ) (bytes old : List ℕ) → length old ≤ at → overwrite at bytes old ≡ old ++ bytes ++ []
past_end at bytes old le = ap (λ (l : List ℕ). l ++ bytes ++ drop (at + length bytes) old) (take_all at old (omega (arith, le))) ∙ ap (λ (l : List ℕ). old ++ bytes ++ l) (drop_all (at + length bytes) old (omega (arith, le)))

same_place : (at : ℕ) (bytes old : List ℕ) → overwrite at bytes old ≡ overwrite (min at (length old)) bytes old
same_place at bytes old = elim (cases_lt (length old) at) [
  | inl past ↦ past_end at bytes old (omega (arith, past)) ∙ sym (past_end (min at (length old)) bytes old (omega (arith, past)))
  | inr le ↦
      let here : at ≡ min at (length old) = omega (arith, le) in
      ap (λ n. overwrite n bytes old) here
]

pub record Filling (b : ℕ) (f : File) (c : List ℕ) : Type 0 where
  pub filled : FilledWith b f c
  pub within : f.least ≤ length f.bytes

pub rest_fills : (b : ℕ) (bytes : List ℕ) → Filling b (at_rest bytes) bytes
rest_fills b bytes = record {
  filled = record {
    same_length = refl;
    unsynced = λ k lt p. ⊎_elim (λ (none : ⊥). absurd none) (λ (ge : length bytes ≤ k). absurd (omega (arith, lt, ge))) p;
    synced = λ k lt out. refl;
  };
  within = omega arith;
}

module _ (b at : ℕ) (bytes : List ℕ) (f : File) (c : List ℕ) (filling : Filling b f c) where
  module _ (p : ℕ) (is : p ≡ min at (length f.bytes)) (x : List ℕ) (long : length x ≡ length bytes) (all : (k : ℕ) → k < length bytes → get_or x k 0 ≡ b) where
    le : p ≤ length f.bytes
    le = omega (arith, is)

    le_image : p ≤ length c
    le_image = omega (arith, le, filling.filled.same_length)

    old_or_not : (k : ℕ) → ((at ≤ k) × (k < at + length bytes) → ⊥) → IsIn (f.written ++ (at, length bytes) ∷ []) k ⊎ (f.least ≤ k) → IsIn f.written k ⊎ (f.least ≤ k)
    old_or_not k out (inr past) = inr past
    old_or_not k out (inl in_it) = elim (in_either f.written (at, length bytes) k in_it) as (λ _. IsIn f.written k ⊎ (f.least ≤ k)) [ inl here ↦ absurd (out here) | inr old ↦ inl old ]

    pub placed : FilledWith b record { bytes = overwrite p bytes f.bytes; stable = f.stable; written = f.written ++ (at, length bytes) ∷ []; least = f.least; greatest = max f.greatest (at + length bytes) } (overwrite p x c)
    placed = record {
      same_length = omega (arith, length-overwrite p x c le_image, length-overwrite p bytes f.bytes le, filling.filled.same_length, long);
      unsynced = λ k lt which. elim (cases_lt k p) as (λ _. get_or (overwrite p x c) k 0 ≡ b) [
        | inl before ↦ get_before p x c le_image k before ∙ filling.filled.unsynced k (omega (arith, before, le)) (old_or_not k (λ here. omega (arith, here.0, before, is)) which)
        | inr ge ↦ elim (cases_lt k (p + length bytes)) as (λ _. get_or (overwrite p x c) k 0 ≡ b) [
          | inl inside ↦ get_inside p x c le_image k ge (omega (arith, inside, long)) ∙ all (k - p) (omega (arith, ge, inside))
          | inr past ↦ get_behind p x c le_image k (omega (arith, past, long)) ∙ filling.filled.unsynced k (omega (arith, past, lt, length-overwrite p bytes f.bytes le)) (old_or_not k (λ here. omega (arith, here.0, here.1, past, is, lt, length-overwrite p bytes f.bytes le)) which)
        ]
      ];
      synced = λ k lt out. elim (cases_lt k p) as (λ _. get_or (overwrite p x c) k 0 ≡ get_or (overwrite p bytes f.bytes) k 0) [
        | inl before ↦ get_before p x c le_image k before ∙ filling.filled.synced k lt (λ old. out (in_more f.written (at, length bytes) k (inl old))) ∙ sym (get_before p bytes f.bytes le k before)
        | inr ge ↦ elim (cases_lt k (p + length bytes)) as (λ _. get_or (overwrite p x c) k 0 ≡ get_or (overwrite p bytes f.bytes) k 0) [
          | inl inside ↦ absurd (out (in_more f.written (at, length bytes) k (inr (omega (arith, ge, lt, filling.within, is), omega (arith, inside, is)))))
          | inr past ↦ get_behind p x c le_image k (omega (arith, past, long)) ∙ filling.filled.synced k lt (λ old. out (in_more f.written (at, length bytes) k (inl old))) ∙ sym (get_behind p bytes f.bytes le k past)
        ]
      ];
    }

  abbrev with_bytes : List ℕ → File
  with_bytes l = record { bytes = l; stable = f.stable; written = f.written ++ (at, length bytes) ∷ []; least = f.least; greatest = max f.greatest (at + length bytes) }

  pub write_fills : Filling b (written at bytes f) (overwrite at (replicate (length bytes) b) c)
  write_fills =
      let x = replicate (length bytes) b in
      let p = min at (length f.bytes) in
      let long : length x ≡ length bytes = length-replicate (length bytes) b in
      let at_image : min at (length c) ≡ p = omega (arith, filling.filled.same_length) in
      let image : overwrite at x c ≡ overwrite p x c = same_place at x c ∙ ap (λ n. overwrite n x c) at_image in
      let read : overwrite at bytes f.bytes ≡ overwrite p bytes f.bytes = same_place at bytes f.bytes in
      let done : FilledWith b (with_bytes (overwrite p bytes f.bytes)) (overwrite p x c) = placed p refl x long (λ k lt. get_or-replicate (length bytes) k b 0 lt) in
      record {
        filled = subst (λ (l : List ℕ). FilledWith b (with_bytes l) (overwrite at x c)) (sym read) (subst (FilledWith b (with_bytes (overwrite p bytes f.bytes))) (sym image) done);
        within = omega (arith, filling.within, ap length read, length-overwrite p bytes f.bytes (omega arith));
      }

pub cut_fills : (b to : ℕ) (f : File) (c : List ℕ) → Filling b f c → Filling b (cut to f) (take to c)
cut_fills b to f c filling =
    let size = length-take to f.bytes in
    record {
      filled = record {
        same_length = omega (arith, size, length-take to c, filling.filled.same_length);
        unsynced = λ k lt which. get_or-take to c k 0 (omega (arith, lt, size)) ∙ filling.filled.unsynced k (omega (arith, lt, size)) (⊎_elim (λ (old : IsIn f.written k). inl old) (λ (past : min f.least to ≤ k). inr (omega (arith, past, lt, size))) which);
        synced = λ k lt out. get_or-take to c k 0 (omega (arith, lt)) ∙ filling.filled.synced k (omega (arith, lt)) out ∙ sym (get_or-take to f.bytes k 0 (omega (arith, lt)));
      };
      within = omega (arith, size, filling.within);
    }

pub sync_fills : (b : ℕ) (f : File) (c : List ℕ) → Filling b f c → PendsMore f (at_rest f.bytes) → Filling b (at_rest f.bytes) c
sync_fills b f c filling more = record {
  filled = record {
    same_length = filling.filled.same_length;
    unsynced = λ k lt p. ⊎_elim (λ (none : ⊥). absurd none) (λ (ge : length f.bytes ≤ k). absurd (omega (arith, lt, ge))) p;
    synced = λ k lt out. filling.filled.synced k (omega (arith, lt, more.least)) (more.written k (λ none. none));
  };
  within = omega arith;
}

in_or_not : (rs : List (ℕ × ℕ)) (k : ℕ) → IsIn rs k ⊎ (IsIn rs k → ⊥)
in_or_not [] k = inr (λ none. none)
in_or_not (r ∷ rs) k = elim (in_or_not rs k) as (λ _. IsIn (r ∷ rs) k ⊎ (IsIn (r ∷ rs) k → ⊥)) [
  | inl later ↦ inl (inr later)
  | inr none ↦ elim (cases_lt k r.0) as (λ _. IsIn (r ∷ rs) k ⊎ (IsIn (r ∷ rs) k → ⊥)) [
    | inl before ↦ inr (⊎_elim (λ (here : (r.0 ≤ k) × (k < r.0 + r.1)). omega (arith, here.0, before)) none)
    | inr ge ↦ elim (cases_lt k (r.0 + r.1)) as (λ _. IsIn (r ∷ rs) k ⊎ (IsIn (r ∷ rs) k → ⊥)) [
      | inl inside ↦ inl (inl (ge, inside))
      | inr past ↦ inr (⊎_elim (λ (here : (r.0 ≤ k) × (k < r.0 + r.1)). omega (arith, here.1, past)) none)
    ]
  ]
]

-- a crash may leave it
pub filled_left : (b : ℕ) (f : File) (c : List ℕ) → b < 256 → FilledWith b f c → MayLeave f f.bytes → MayLeave f c
filled_left b f c lt filled left = record {
  no_shorter = omega (arith, left.no_shorter, filled.same_length);
  no_longer = omega (arith, left.no_longer, filled.same_length);
  kept = λ k below out. filled.synced k below out ∙ left.kept k below out;
  are_bytes = λ k. elim (cases_lt k (length f.bytes)) as (λ _. get_or c k 0 < 256) [
    | inr past ↦ subst (λ x. x < 256) (sym (get_or_past c k 0 (omega (arith, past, filled.same_length)))) (omega arith)
    | inl inside ↦ elim (in_or_not f.written k) as (λ _. get_or c k 0 < 256) [
      | inl in_it ↦ subst (λ x. x < 256) (sym (filled.unsynced k inside (inl in_it))) lt
      | inr out ↦ elim (cases_lt k f.least) as (λ _. get_or c k 0 < 256) [
        | inl below ↦ subst (λ x. x < 256) (sym (filled.synced k below out)) (left.are_bytes k)
        | inr ge ↦ subst (λ x. x < 256) (sym (filled.unsynced k inside (inr ge))) lt
      ]
    ]
  ];
}
