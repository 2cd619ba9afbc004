-- The entries of a block are where its places say, and a block is made of just its versions.
use Rattle.std.proofs.Common.{◌≡◌, ◌≢◌, cond, ℕ, ◌+◌, ◌-◌, ◌≤◌, zero, suc, List, [], ◌∷◌, ◌++◌, length, drop, true, refl, sym, ◌∙◌, ap, inl, inr, arith, Result, Ok, Err, length-append}
use Rattle.std.specs.List.{list_all}
use Rattle.std.proofs.lemmas.Bool.{cases_eq, eq-eqb, ne_eqb}
use Rattle.std.proofs.Math.Seq.{drop-append_seam}
use Rattle.byteorder.specs.Endian.{big_number}
use Rattle.mr_iter.specs.Versions.{Version}
use Rattle.mr_block.specs.Fields.{is_byte, Read}
use Rattle.mr_block.specs.Block.{entry_bytes, entries_bytes, entry_in, entries_in, entry_then, with_first}
use Rattle.mr_run_laws.proofs.Entries.{entry_only, ok_same}

-- ---- one step

step_wrong : (block : List ℕ) (n p : ℕ) (rest : List ℕ) → big_number 4 (drop p block) ≢ length block - length rest → entries_in block (suc n) p rest ≡ Err p
step_wrong block n p [] other = ap (λ b. cond b (entry_then (length block) (entries_in block n (p + 4)) (entry_in [])) (Err p)) (ne_eqb (big_number 4 (drop p block)) (length block - 0) other)
step_wrong block n p (b ∷ rest) other = ap (λ t. cond t (entry_then (length block) (entries_in block n (p + 4)) (entry_in (b ∷ rest))) (Err p)) (ne_eqb (big_number 4 (drop p block)) (length block - length (b ∷ rest)) other)

step_right : (block : List ℕ) (n p : ℕ) (rest : List ℕ) → big_number 4 (drop p block) ≡ length block - length rest → entries_in block (suc n) p rest ≡ entry_then (length block) (entries_in block n (p + 4)) (entry_in rest)
step_right block n p [] same = ap (λ b. cond b (entry_then (length block) (entries_in block n (p + 4)) (entry_in [])) (Err p)) (eq-eqb (big_number 4 (drop p block)) (length block - 0) same)
step_right block n p (b ∷ rest) same = ap (λ t. cond t (entry_then (length block) (entries_in block n (p + 4)) (entry_in (b ∷ rest))) (Err p)) (eq-eqb (big_number 4 (drop p block)) (length block - length (b ∷ rest)) same)

pub record Step (block : List ℕ) (n p : ℕ) (rest : List ℕ) (vs : List Version) : Type 0 where
  pub v : Version
  pub more : List ℕ
  pub others : List Version
  pub place : big_number 4 (drop p block) ≡ length block - length rest
  pub entry : entry_in rest ≡ Ok (v, more)
  pub after : entries_in block n (p + 4) more ≡ Ok others
  pub list : vs ≡ v ∷ others

pub step : (block : List ℕ) (n p : ℕ) (rest : List ℕ) (vs : List Version) → entries_in block (suc n) p rest ≡ Ok vs → Step block n p rest vs
step block n p rest vs is = elim (cases_eq (big_number 4 (drop p block)) (length block - length rest)) [
  | inl same ↦ by_entry same (entry_in rest) refl (sym (step_right block n p rest same) ∙ is)
  | inr other ↦ let no : Err p ≡ Ok vs = sym (step_wrong block n p rest other) ∙ is in cc
]
  where
    by_rest : (v : Version) (r : Result (List Version) ℕ) → with_first v r ≡ Ok vs → (ws : List Version) × (r ≡ Ok ws) × (vs ≡ v ∷ ws)
    by_rest v (Ok ws) e = (ws, refl, sym (ok_same (Ok (v ∷ ws)) (v ∷ ws) vs refl e))
    by_rest v (Err at) e = cc

    by_entry : big_number 4 (drop p block) ≡ length block - length rest → (r : Read Version) → entry_in rest ≡ r → entry_then (length block) (entries_in block n (p + 4)) r ≡ Ok vs → Step block n p rest vs
    by_entry same (Ok r) e f = let after = by_rest r.0 (entries_in block n (p + 4) r.1) f in record { v = r.0; more = r.1; others = after.0; place = same; entry = e; after = after.1; list = after.2 }
    by_entry same (Err left) e f = cc

pub at_end : (block : List ℕ) (p : ℕ) (rest : List ℕ) (vs : List Version) → entries_in block zero p rest ≡ Ok vs → (rest ≡ []) × (vs ≡ [])
at_end block p [] vs is = (refl, sym (ok_same (Ok []) [] vs refl is))
at_end block p (b ∷ rest) vs is = cc

-- ---- all of them

-- the rest of the block
abbrev pub IsRest : List ℕ → List ℕ → Type 0
IsRest block rest = (length rest ≤ length block) × (drop (length block - length rest) block ≡ rest)

no_more : (k : ℕ) (xs : List ℕ) → xs ≡ [] → drop k xs ≡ []
no_more zero xs e = e
no_more (suc k) [] e = refl
no_more (suc k) (x ∷ xs) e = cc

pub drop_more : (n m : ℕ) (xs : List ℕ) → drop (n + m) xs ≡ drop m (drop n xs)
drop_more zero m xs = let e : 0 + m ≡ m = omega arith in ap (λ (k : ℕ). drop k xs) e
drop_more (suc n) m [] = no_more (suc n + m) [] refl ∙ sym (no_more m [] refl)
drop_more (suc n) m (x ∷ xs) = let e : suc n + m ≡ suc (n + m) = omega arith in ap (λ (k : ℕ). drop k (x ∷ xs)) e ∙ drop_more n m xs

pub rest_behind : (block front rest more : List ℕ) → IsRest block rest → rest ≡ front ++ more → IsRest block more
rest_behind block front rest more is e =
    let n : length rest ≡ length front + length more = ap length e ∙ length-append front more in
    let at : length block - length more ≡ (length block - length rest) + length front = omega (arith, n, is.0) in
    (omega (arith, n, is.0), ap (λ k. drop k block) at ∙ drop_more (length block - length rest) (length front) block ∙ ap (drop (length front)) (is.1 ∙ e) ∙ drop-append_seam front more)

-- the entries are these
pub record AreEntries (n : ℕ) (rest : List ℕ) (vs : List Version) : Type 0 where
  pub count : length vs ≡ n
  pub whole : rest ≡ entries_bytes vs

pub entries_only : (block : List ℕ) (n p : ℕ) (rest : List ℕ) (vs : List Version) → list_all is_byte rest ≡ true → IsRest block rest → entries_in block n p rest ≡ Ok vs → AreEntries n rest vs
entries_only block zero p rest vs bytes is read = let both = at_end block p rest vs read in record { count = ap length both.1; whole = both.0 ∙ sym (ap entries_bytes both.1) }
entries_only block (suc n) p rest vs bytes is read =
    let s = step block n p rest vs read in
    let e = entry_only rest (s.v, s.more) bytes s.entry in
    let later = entries_only block n (p + 4) s.more s.others e.rest_bytes (rest_behind block (entry_bytes s.v) rest s.more is e.whole) s.after in
    record {
      count = ap length s.list ∙ ap suc later.count;
      whole = e.whole ∙ ap (λ x. entry_bytes s.v ++ x) later.whole ∙ sym (ap entries_bytes s.list);
    }
