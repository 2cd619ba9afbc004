-- One entry after another.
use Rattle.std.proofs.Common.{◌≡◌, ◌≢◌, ℕ, ◌+◌, ◌-◌, ◌<◌, suc, List, [], ◌∷◌, length, drop, cond, refl, sym, ◌∙◌, ap, arith, Result, Ok, Err}
use Rattle.std.proofs.lemmas.Bool.{eq-eqb, ne_eqb}
use Rattle.byteorder.specs.Endian.{big_number}
use Rattle.mr_iter.specs.Versions.{Version}
use Rattle.mr_block.specs.Block.{entry_in, entries_in, entry_then, with_first, outcome}

pub one_left : (n i : ℕ) → i < n → n - i ≡ suc (n - (i + 1))
one_left n i lt = omega arith

first_same : (v : Version) (r : Result (List Version) ℕ) → outcome (with_first v r) ≡ outcome r
first_same v (Ok vs) = refl
first_same v (Err at) = refl

pub step_wrong : (block : List ℕ) (n p : ℕ) (rest : List ℕ) → big_number 4 (drop p block) ≢ length block - length rest → entries_in block (suc n) p rest ≡ Err p
step_wrong block n p [] other = ap (λ b. cond b (entry_then (length block) (entries_in block n (p + 4)) (entry_in [])) (Err p)) (ne_eqb (big_number 4 (drop p block)) (length block - 0) other)
step_wrong block n p (b ∷ rest) other = ap (λ t. cond t (entry_then (length block) (entries_in block n (p + 4)) (entry_in (b ∷ rest))) (Err p)) (ne_eqb (big_number 4 (drop p block)) (length block - length (b ∷ rest)) other)

pub step_right : (block : List ℕ) (n p : ℕ) (rest : List ℕ) → big_number 4 (drop p block) ≡ length block - length rest → entries_in block (suc n) p rest ≡ entry_then (length block) (entries_in block n (p + 4)) (entry_in rest)
step_right block n p [] same = ap (λ b. cond b (entry_then (length block) (entries_in block n (p + 4)) (entry_in [])) (Err p)) (eq-eqb (big_number 4 (drop p block)) (length block - 0) same)
step_right block n p (b ∷ rest) same = ap (λ t. cond t (entry_then (length block) (entries_in block n (p + 4)) (entry_in (b ∷ rest))) (Err p)) (eq-eqb (big_number 4 (drop p block)) (length block - length (b ∷ rest)) same)

module _ (block : List ℕ) (n i p : ℕ) (rest : List ℕ) (lt : i < n) where
  pub wrong_place : big_number 4 (drop p block) ≢ length block - length rest → outcome (entries_in block (n - i) p rest) ≡ Err p
  wrong_place other = ap (λ (m : ℕ). outcome (entries_in block m p rest)) (one_left n i lt) ∙ ap outcome (step_wrong block (n - (i + 1)) p rest other)

  pub broken_entry : (left : ℕ) → big_number 4 (drop p block) ≡ length block - length rest → Err left ≡ entry_in rest → outcome (entries_in block (n - i) p rest) ≡ Err (length block - left)
  broken_entry left same is = ap (λ (m : ℕ). outcome (entries_in block m p rest)) (one_left n i lt) ∙ ap outcome (step_right block (n - (i + 1)) p rest same) ∙ ap (λ r. outcome (entry_then (length block) (entries_in block (n - (i + 1)) (p + 4)) r)) (sym is)

  pub good_entry : (v : Version) (more : List ℕ) → big_number 4 (drop p block) ≡ length block - length rest → Ok (v, more) ≡ entry_in rest → outcome (entries_in block (n - i) p rest) ≡ outcome (entries_in block (n - (i + 1)) (p + 4) more)
  good_entry v more same is = ap (λ (m : ℕ). outcome (entries_in block m p rest)) (one_left n i lt) ∙ ap outcome (step_right block (n - (i + 1)) p rest same) ∙ ap (λ r. outcome (entry_then (length block) (entries_in block (n - (i + 1)) (p + 4)) r)) (sym is) ∙ first_same v (entries_in block (n - (i + 1)) (p + 4) more)
