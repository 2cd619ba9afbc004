-- A block as a whole.
use Rattle.std.proofs.Common.{◌≡◌, ℕ, ◌+◌, ◌*◌, ◌-◌, ◌≤◌, zero, suc, List, [], ◌∷◌, ◌++◌, length, take, drop, true, cond, nat_lt, nat_le, refl, sym, ◌∙◌, ap, inl, inr, arith, Ok, Err, length-append, length-drop}
use Rattle.std.specs.List.{list_all}
use Rattle.std.proofs.lemmas.Bool.Decides.{nat_tests}
use Rattle.std.proofs.lemmas.List.{take-append-drop}
use Rattle.byteorder.specs.Endian.{big_bytes, big_number}
use Rattle.mr_iter.specs.Versions.{Version}
use Rattle.mr_block.specs.Fields.{is_byte}
use Rattle.mr_block.specs.Block.{entry_bytes, places_bytes, block_bytes, entries_in, behind_count, short_at, block_in}
use Rattle.mr_run_laws.proofs.Numbers.{number_again, bytes_behind, tells}
use Rattle.mr_run_laws.proofs.Entries.{entry_only}
use Rattle.mr_run_laws.proofs.EntryLists.{step, at_end, IsRest, rest_behind, entries_only, drop_more}

take_sum : (n m : ℕ) (xs : List ℕ) → take (n + m) xs ≡ take n xs ++ take m (drop n xs)
take_sum zero m xs = let e : 0 + m ≡ m = omega arith in ap (λ (k : ℕ). take k xs) e
take_sum (suc n) m [] = none (suc n + m) [] refl ∙ sym (none m [] refl)
  where
    none : (k : ℕ) (xs : List ℕ) → xs ≡ [] → take k xs ≡ []
    none zero xs e = refl
    none (suc k) [] e = refl
    none (suc k) (x ∷ xs) e = cc
take_sum (suc n) m (x ∷ xs) = let e : suc n + m ≡ suc (n + m) = omega arith in ap (λ (k : ℕ). take k (x ∷ xs)) e ∙ ap (λ ys. x ∷ ys) (take_sum n m xs)

-- the places are those of these entries
places_only : (block : List ℕ) (n p : ℕ) (rest : List ℕ) (vs : List Version) → list_all is_byte block ≡ true → list_all is_byte rest ≡ true → IsRest block rest → p + 4 * n ≤ length block → entries_in block n p rest ≡ Ok vs → take (4 * n) (drop p block) ≡ places_bytes (length block - length rest) vs
places_only block zero p rest vs all bytes is fits read =
    let both = at_end block p rest vs read in
    let e : 4 * 0 ≡ 0 = omega arith in
    ap (λ (k : ℕ). take k (drop p block)) e ∙ sym (ap (places_bytes (length block - length rest)) both.1)
places_only block (suc n) p rest vs all bytes is fits read =
    let s = step block n p rest vs read in
    let e = entry_only rest (s.v, s.more) bytes s.entry in
    let behind = rest_behind block (entry_bytes s.v) rest s.more is e.whole in
    let later = places_only block n (p + 4) s.more s.others all e.rest_bytes behind (omega (arith, fits)) s.after in
    let n1 : length rest ≡ length (entry_bytes s.v) + length s.more = ap length e.whole ∙ length-append (entry_bytes s.v) s.more in
    let next : length block - length s.more ≡ (length block - length rest) + length (entry_bytes s.v) = omega (arith, n1, is.0) in
    let here : take 4 (drop p block) ≡ big_bytes 4 (length block - length rest) = sym (number_again 4 (drop p block) (omega (arith, fits, length-drop p block)) (bytes_behind p block all)) ∙ ap (big_bytes 4) s.place in
    let size : 4 * suc n ≡ 4 + 4 * n = omega arith in
    ap (λ (k : ℕ). take k (drop p block)) size
    ∙ take_sum 4 (4 * n) (drop p block)
    ∙ ap (λ (x : List ℕ). x ++ take (4 * n) (drop 4 (drop p block))) here
    ∙ ap (λ (x : List ℕ). big_bytes 4 (length block - length rest) ++ take (4 * n) x) (sym (drop_more p 4 block))
    ∙ ap (λ (x : List ℕ). big_bytes 4 (length block - length rest) ++ x) (later ∙ ap (λ (k : ℕ). places_bytes k s.others) next)
    ∙ sym (ap (places_bytes (length block - length rest)) s.list)

-- a block that is read is its versions, byte for byte
pub block_only : (block : List ℕ) (vs : List Version) → list_all is_byte block ≡ true → block_in block ≡ Ok vs → block ≡ block_bytes vs
block_only block vs all is = elim (tells (nat_lt (length block) 4)) [
  | inl short ↦ let no : Err 0 ≡ Ok vs = sym (ap (behind_count block) (ap (λ t. cond t (Err (length block)) (Ok (big_number 4 block, drop 4 block))) short)) ∙ is in cc
  | inr long ↦
      let got : behind_count block (Ok (big_number 4 block, drop 4 block)) ≡ Ok vs = sym (ap (behind_count block) (ap (λ t. cond t (Err (length block)) (Ok (big_number 4 block, drop 4 block))) long)) ∙ is in
      let enough : 4 ≤ length block = grind (arith, nat_tests) in
      elim (tells (nat_le (4 * big_number 4 block) (length (drop 4 block)))) [
        | inl whole ↦
            let read : entries_in block (big_number 4 block) 4 (drop (4 * big_number 4 block) (drop 4 block)) ≡ Ok vs = sym (ap (λ t. cond t (entries_in block (big_number 4 block) 4 (drop (4 * big_number 4 block) (drop 4 block))) (Err (short_at (big_number 4 block) (drop 4 block)))) whole) ∙ got in
            of_entries enough (table whole enough) read
        | inr missing ↦ let no : Err (short_at (big_number 4 block) (drop 4 block)) ≡ Ok vs = sym (ap (λ t. cond t (entries_in block (big_number 4 block) 4 (drop (4 * big_number 4 block) (drop 4 block))) (Err (short_at (big_number 4 block) (drop 4 block)))) missing) ∙ got in cc
      ]
]
  where
    n : ℕ
    n = big_number 4 block

    table : nat_le (4 * big_number 4 block) (length (drop 4 block)) ≡ true → 4 ≤ length block → 4 + 4 * big_number 4 block ≤ length block
    table is enough = let le : 4 * big_number 4 block ≤ length (drop 4 block) = grind (arith, nat_tests) in omega (arith, le, length-drop 4 block, enough)

    of_entries : 4 ≤ length block → 4 + 4 * big_number 4 block ≤ length block → entries_in block (big_number 4 block) 4 (drop (4 * big_number 4 block) (drop 4 block)) ≡ Ok vs → block ≡ block_bytes vs
    of_entries enough fits read =
        let rest = drop (4 * big_number 4 block) (drop 4 block) in
        let size : length (drop (4 * big_number 4 block) (drop 4 block)) ≡ length block - (4 + 4 * big_number 4 block) = omega (arith, length-drop (4 * big_number 4 block) (drop 4 block), length-drop 4 block) in
        let from : length block - length (drop (4 * big_number 4 block) (drop 4 block)) ≡ 4 + 4 * big_number 4 block = omega (arith, size, fits) in
        let is_rest : IsRest block (drop (4 * big_number 4 block) (drop 4 block)) = (omega (arith, size), ap (λ (k : ℕ). drop k block) from ∙ drop_more 4 (4 * big_number 4 block) block) in
        let bytes = bytes_behind (4 * big_number 4 block) (drop 4 block) (bytes_behind 4 block all) in
        let entries = entries_only block (big_number 4 block) 4 rest vs bytes is_rest read in
        let places = places_only block (big_number 4 block) 4 rest vs all bytes is_rest fits read in
        sym (take-append-drop 4 block)
        ∙ ap (λ (x : List ℕ). x ++ drop 4 block) (sym (number_again 4 block enough all) ∙ ap (big_bytes 4) (sym entries.count))
        ∙ ap (λ (x : List ℕ). big_bytes 4 (length vs) ++ x) (sym (take-append-drop (4 * big_number 4 block) (drop 4 block))
        ∙ ap (λ (x : List ℕ). x ++ rest) (places ∙ ap (λ (k : ℕ). places_bytes k vs) (from ∙ ap (λ (m : ℕ). 4 + 4 * m) (sym entries.count)))
        ∙ ap (λ (x : List ℕ). places_bytes (4 + 4 * length vs) vs ++ x) entries.whole)
