-- How long a block is, and where its offences are.
use Rattle.std.proofs.Common.{◌≡◌, ℕ, zero, suc, ◌+◌, ◌*◌, ◌-◌, ◌<◌, ◌≤◌, ◌==◌, List, [], ◌∷◌, ◌++◌, length, drop, sym, arith, inl, inr, nat_lt, nat_le, not, ◌&&◌, unwrap_or, is_some, length-append, length-drop, Result, Ok, Err, get_or, map, subst, ◌^◌}
use Rattle.std.proofs.lemmas.Bool.{ltb-false, leb-true, cases_Bool}
use Rattle.std.specs.List.{AllByRecursion}
use Rattle.byteorder.specs.Endian.{big_bytes, big_number}
use Rattle.byteorder.specs.Numbers.{length-bytes_high_first}
use Rattle.mr_iter.specs.Versions.{Version}
use Rattle.mr_block.specs.Fields.{Read}
use Rattle.mr_block.specs.Block.{entry_bytes, entries_bytes, places_bytes, block_bytes, kind_byte, entry_in, with_first, entry_then, entries_in, short_at, behind_count, block_in}
use Rattle.mr_run_file.specs.Reading.{Indexed}
use Rattle.mr_run_open.specs.declared.index.IndexEntry.{IndexEntry}
use Rattle.mr_run_open.specs.Given.{indexed_of}
use Rattle.mr_run_open.specs.Runs.{IsWithin, no_block}

entry_long : (v : Version) → 17 ≤ length (entry_bytes v)
entry_long v =
    let rest3 = kind_byte (is_some v.put) ∷ (big_bytes 4 (length (unwrap_or v.put [])) ++ unwrap_or v.put []) in
    let rest2 = big_bytes 8 v.sequence ++ rest3 in
    omega (arith, length-append (big_bytes 4 (length v.key)) (v.key ++ rest2), length-append v.key rest2, length-append (big_bytes 8 v.sequence) rest3, length-append (big_bytes 4 (length (unwrap_or v.put []))) (unwrap_or v.put []), length-bytes_high_first 4 (length v.key), length-bytes_high_first 8 v.sequence, length-bytes_high_first 4 (length (unwrap_or v.put [])))

entries_long : (vs : List Version) → 17 * length vs ≤ length (entries_bytes vs)
entries_long [] = omega arith
entries_long (v ∷ vs) = omega (arith, length-append (entry_bytes v) (entries_bytes vs), entry_long v, entries_long vs)

places_long : (at : ℕ) (vs : List Version) → 4 * length vs ≤ length (places_bytes at vs)
places_long at [] = omega arith
places_long at (v ∷ vs) = omega (arith, length-append (big_bytes 4 at) (places_bytes (at + length (entry_bytes v)) vs), length-bytes_high_first 4 at, places_long (at + length (entry_bytes v)) vs)

-- a block has at least so many bytes
pub block_long : (vs : List Version) → 4 + 21 * length vs ≤ length (block_bytes vs)
block_long vs = omega (arith, length-append (big_bytes 4 (length vs)) (places_bytes (4 + 4 * length vs) vs ++ entries_bytes vs), length-append (places_bytes (4 + 4 * length vs) vs) (entries_bytes vs), length-bytes_high_first 4 (length vs), places_long (4 + 4 * length vs) vs, entries_long vs)

-- ---- offences are within the bytes

with_err : (v : Version) (r : Result (List Version) ℕ) (at : ℕ) → with_first v r ≡ Err at → r ≡ Err at
with_err v (Ok vs) at e = cc
with_err v (Err a) at e = cc

entry_within : (total : ℕ) (more : List ℕ → Result (List Version) ℕ) (r : Read Version) (at : ℕ) → ((rest : List ℕ) (a : ℕ) → more rest ≡ Err a → a ≤ total) → entry_then total more r ≡ Err at → at ≤ total
entry_within total more (Ok r) at each e = each r.1 at (with_err r.0 (more r.1) at e)
entry_within total more (Err left) at each e = let x : total - left ≡ at = cc in omega (arith, x)

entries_within : (block : List ℕ) (n p : ℕ) (rest : List ℕ) (at : ℕ) → p + 4 * n ≤ length block → entries_in block n p rest ≡ Err at → at ≤ length block
entries_within block zero p [] at room e = cc
entries_within block zero p (b ∷ rest) at room e = let x : length block - length (b ∷ rest) ≡ at = cc in omega (arith, x)
entries_within block (suc n) p rest at room e = elim (cases_Bool (big_number 4 (drop p block) == (length block - length rest))) [
  | inl here ↦
      let next : entry_then (length block) (entries_in block n (p + 4)) (entry_in rest) ≡ Err at = rw here at e in
      entry_within (length block) (entries_in block n (p + 4)) (entry_in rest) at (λ more a is. entries_within block n (p + 4) more a (omega (arith, room)) is) next
  | inr other ↦
      let no : Err p ≡ Err at = rw other at e in
      let x : p ≡ at = cc in
      omega (arith, x, room)
]

short_within : (count : ℕ) (places : List ℕ) → short_at count places ≤ 4 + length places
short_within count places = elim (cases_Bool (nat_le 4 (length places) && not (big_number 4 places == (4 + 4 * count)))) [
  | inl y ↦ rw y (omega arith)
  | inr n ↦ rw n (omega arith)
]

-- the first offence of bytes that aren't a block
pub offence_within : (bytes : List ℕ) (at : ℕ) → block_in bytes ≡ Err at → at ≤ length bytes
offence_within bytes at e = elim (cases_Bool (nat_lt (length bytes) 4)) [
  | inl y ↦
      let none : behind_count bytes (Err (length bytes)) ≡ Err at = rw y at e in
      let x : 0 ≡ at = cc in
      omega (arith, x)
  | inr n ↦
      let long : 4 ≤ length bytes = ltb-false (length bytes) 4 n in
      let some : behind_count bytes (Ok (big_number 4 bytes, drop 4 bytes)) ≡ Err at = rw n at e in
      elim (cases_Bool (nat_le (4 * big_number 4 bytes) (length (drop 4 bytes)))) [
        | inl fits ↦
            let there : entries_in bytes (big_number 4 bytes) 4 (drop (4 * big_number 4 bytes) (drop 4 bytes)) ≡ Err at = rw fits at some in
            entries_within bytes (big_number 4 bytes) 4 (drop (4 * big_number 4 bytes) (drop 4 bytes)) at (omega (arith, long, leb-true (4 * big_number 4 bytes) (length (drop 4 bytes)) fits, length-drop 4 bytes)) there
        | inr short ↦
            let there : Err (short_at (big_number 4 bytes) (drop 4 bytes)) ≡ Err at = rw short at some in
            let x : short_at (big_number 4 bytes) (drop 4 bytes) ≡ at = cc in
            omega (arith, x, short_within (big_number 4 bytes) (drop 4 bytes), length-drop 4 bytes, long)
      ]
]

pub each_at : (P : Indexed → Type 0) (bs : List Indexed) (i : ℕ) → i < length bs → AllByRecursion P bs → P (get_or bs i no_block)
each_at P [] i lt all = absurd (omega (arith, lt))
each_at P (b ∷ bs) zero lt all = all.0
each_at P (b ∷ bs) (suc i) lt all = each_at P bs i (omega (arith, lt)) all.1

pub span_within : (items : List IndexEntry) (x : IndexEntry) (i : ℕ) → i < length (map indexed_of items) → x ≡ get_or items i x → AllByRecursion IsWithin (map indexed_of items) → x.place + x.size < 2 ^ 64
span_within [] x i lt is all = absurd (omega (arith, lt))
span_within (y ∷ ys) x zero lt is all = subst (λ (e : IndexEntry). e.place + e.size < 2 ^ 64) (sym is) all.0
span_within (y ∷ ys) x (suc i) lt is all = span_within ys x i (omega (arith, lt)) is all.1
