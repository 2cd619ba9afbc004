-- A block is made of its versions, and reads back.
use Rattle.std.proofs.Common.{◌≡◌, ℕ, ◌+◌, ◌*◌, ◌-◌, ◌^◌, ◌<◌, ◌≤◌, zero, suc, List, [], ◌∷◌, ◌++◌, length, take, drop, get_or, Bool, true, false, cond, nat_le, refl, sym, ◌∙◌, ap, subst, arith, add-one, append_assoc, Ok, Err, Option, Some, None, is_some, unwrap_or, length-append}
use Rattle.std.specs.List.{AllByRecursion}
use Rattle.std.proofs.lemmas.Bool.Decides.{nat_tests}
use Rattle.std.proofs.Math.Seq.{drop-append_seam}
use Rattle.byteorder.specs.Endian.{big_bytes, big_number}
use Rattle.byteorder.specs.Numbers.{big_number-reads_back, length-bytes_high_first}
use Rattle.mr_iter.specs.Versions.{Version, as_version}
use Rattle.mr_iter.specs.Order.{each-append}
use Rattle.mr_block.specs.Fields.{number_in, bytes_in}
use Rattle.mr_block.specs.Block.{kind_byte, entry_bytes, entries_bytes, places_bytes, block_bytes, kind_in, value_length_in, value_of, entry_in, entry_then, with_first, entries_in, behind_count, short_at, block_in}
use Rattle.mr_block.specs.Built.{offsets_from, placed, FitsEntry, IsBuilt, version_then, versions_in}
use Rattle.mr_block.proofs.FieldLaws.{number_back, bytes_back, then_ok}
use Rattle.mr_block.proofs.BlockLaws.{drop_more}
use Rattle.mr_block.proofs.Entries.{step_right}

-- ---- one version more

offsets_more : (at : ℕ) (vs : List Version) (v : Version) → offsets_from at (vs ++ v ∷ []) ≡ offsets_from at vs ++ (at + length (entries_bytes vs)) ∷ []
offsets_more at [] v = let e : at ≡ at + 0 = omega arith in ap (λ (n : ℕ). n ∷ []) e
offsets_more at (w ∷ ws) v =
    let e : (at + length (entry_bytes w)) + length (entries_bytes ws) ≡ at + length (entry_bytes w ++ entries_bytes ws) = omega (arith, length-append (entry_bytes w) (entries_bytes ws)) in
    ap (λ (ns : List ℕ). at ∷ ns) (offsets_more (at + length (entry_bytes w)) ws v ∙ ap (λ (n : ℕ). offsets_from (at + length (entry_bytes w)) ws ++ n ∷ []) e)

entries_more : (vs : List Version) (v : Version) → entries_bytes (vs ++ v ∷ []) ≡ entries_bytes vs ++ entry_bytes v
entries_more [] v = no_end (entry_bytes v)
  where
    no_end : (xs : List ℕ) → xs ++ [] ≡ xs
    no_end [] = refl
    no_end (x ∷ xs) = ap (λ ys. x ∷ ys) (no_end xs)
entries_more (w ∷ ws) v = ap (λ (x : List ℕ). entry_bytes w ++ x) (entries_more ws v) ∙ sym (append_assoc (entry_bytes w) (entries_bytes ws) (entry_bytes v))

pub built_more : (entries offsets : List ℕ) (vs : List Version) (v : Version) (at : ℕ) → IsBuilt entries offsets vs → FitsEntry v → at ≡ length entries → IsBuilt (entries ++ entry_bytes v) (offsets ++ at ∷ []) (vs ++ v ∷ [])
built_more entries offsets vs v at built fits is = record {
  bytes = ap (λ (x : List ℕ). x ++ entry_bytes v) built.bytes ∙ sym (entries_more vs v);
  places = let here : at ≡ 0 + length (entries_bytes vs) = omega (arith, is, ap length built.bytes) in ap (λ (x : List ℕ). x ++ at ∷ []) built.places ∙ ap (λ (n : ℕ). offsets_from 0 vs ++ n ∷ []) here ∙ sym (offsets_more 0 vs v);
  fits = each-append FitsEntry vs (v ∷ []) built.fits (fits, tt);
}

-- the entry of one version more was written behind the others, and its beginning kept
pub added : (entries offsets entries' offsets' : List ℕ) (vs : List Version) (v : Version) (at : ℕ) → IsBuilt entries offsets vs → FitsEntry v → at ≡ length entries → entries' ≡ entries ++ entry_bytes v → offsets' ≡ offsets ++ at ∷ [] → IsBuilt entries' offsets' (vs ++ v ∷ [])
added entries offsets entries' offsets' vs v at built fits is e o =
    subst (λ (es : List ℕ). IsBuilt es offsets' (vs ++ v ∷ [])) (sym e) (subst (λ (os : List ℕ). IsBuilt (entries ++ entry_bytes v) os (vs ++ v ∷ [])) (sym o) (built_more entries offsets vs v at built fits is))

-- ---- the places

pub placed_take : (start : ℕ) (os : List ℕ) (i place : ℕ) → i < length os → place ≡ start + get_or os i 0 → placed start (take (i + 1) os) ≡ placed start (take i os) ++ big_bytes 4 place
placed_take start os i place lt is = ap (λ (m : ℕ). placed start (take m os)) (add-one i) ∙ go os i lt is
  where
    go : (os : List ℕ) (i : ℕ) → i < length os → place ≡ start + get_or os i 0 → placed start (take (suc i) os) ≡ placed start (take i os) ++ big_bytes 4 place
    go [] i lt is = absurd (omega arith)
    go (o ∷ os) zero lt is = ap (λ (n : ℕ). big_bytes 4 n ++ []) (sym is) ∙ refl
    go (o ∷ os) (suc i) lt is = ap (λ (x : List ℕ). big_bytes 4 (start + o) ++ x) (go os i (omega arith) is) ∙ sym (append_assoc (big_bytes 4 (start + o)) (placed start (take i os)) (big_bytes 4 place))

pub placed_offsets : (start at : ℕ) (vs : List Version) → placed start (offsets_from at vs) ≡ places_bytes (start + at) vs
placed_offsets start at [] = refl
placed_offsets start at (v ∷ vs) =
    let e : start + (at + length (entry_bytes v)) ≡ (start + at) + length (entry_bytes v) = omega arith in
    ap (λ (x : List ℕ). big_bytes 4 (start + at) ++ x) (placed_offsets start (at + length (entry_bytes v)) vs ∙ ap (λ (n : ℕ). places_bytes n vs) e)

pub length-offsets : (at : ℕ) (vs : List Version) → length (offsets_from at vs) ≡ length vs
length-offsets at [] = refl
length-offsets at (v ∷ vs) = ap suc (length-offsets (at + length (entry_bytes v)) vs)

length-places : (at : ℕ) (vs : List Version) → length (places_bytes at vs) ≡ 4 * length vs
length-places at [] = refl
length-places at (v ∷ vs) = omega (arith, length-append (big_bytes 4 at) (places_bytes (at + length (entry_bytes v)) vs), length-places (at + length (entry_bytes v)) vs, length-bytes_high_first 4 at)

-- ---- what is written reads back

spread : (a b c d e f r : List ℕ) → (a ++ (b ++ (c ++ (d ++ (e ++ f))))) ++ r ≡ a ++ (b ++ (c ++ (d ++ (e ++ (f ++ r)))))
spread a b c d e f r = simp append_assoc

kind_back : (put : Bool) (rest : List ℕ) → kind_in ((kind_byte put ∷ []) ++ rest) ≡ Ok (put, rest)
kind_back true rest = refl
kind_back false rest = refl

length_back : (put : Option (List ℕ)) (rest : List ℕ) → length (unwrap_or put []) < 2 ^ 32 → value_length_in (is_some put) (big_bytes 4 (length (unwrap_or put [])) ++ rest) ≡ Ok (length (unwrap_or put []), rest)
length_back None rest lt = then_ok (number_in 4 (big_bytes 4 0 ++ rest)) _ (0, rest) (number_back 4 0 rest (omega arith))
length_back (Some value) rest lt = then_ok (number_in 4 (big_bytes 4 (length value) ++ rest)) _ (length value, rest) (number_back 4 (length value) rest (omega (arith, lt)))

value_back : (put : Option (List ℕ)) → value_of (is_some put) (unwrap_or put []) ≡ put
value_back None = refl
value_back (Some value) = refl

pub entry_back : (v : Version) (rest : List ℕ) → FitsEntry v → entry_in (entry_bytes v ++ rest) ≡ Ok (v, rest)
entry_back v rest fits =
    let value = unwrap_or v.put [] in
    let r6 = unwrap_or v.put [] ++ rest in
    let r5 = big_bytes 4 (length (unwrap_or v.put [])) ++ (unwrap_or v.put [] ++ rest) in
    let r4 = (kind_byte (is_some v.put) ∷ []) ++ (big_bytes 4 (length (unwrap_or v.put [])) ++ (unwrap_or v.put [] ++ rest)) in
    let r3 = big_bytes 8 v.sequence ++ ((kind_byte (is_some v.put) ∷ []) ++ (big_bytes 4 (length (unwrap_or v.put [])) ++ (unwrap_or v.put [] ++ rest))) in
    ap entry_in (spread (big_bytes 4 (length v.key)) v.key (big_bytes 8 v.sequence) (kind_byte (is_some v.put) ∷ []) (big_bytes 4 (length (unwrap_or v.put []))) (unwrap_or v.put []) rest)
    ∙ then_ok (number_in 4 (big_bytes 4 (length v.key) ++ (v.key ++ r3))) _ (length v.key, v.key ++ r3) (number_back 4 (length v.key) (v.key ++ r3) (omega (arith, fits.key)))
    ∙ then_ok (bytes_in (length v.key) (v.key ++ r3)) _ (v.key, r3) (bytes_back v.key r3)
    ∙ then_ok (number_in 8 (big_bytes 8 v.sequence ++ r4)) _ (v.sequence, r4) (number_back 8 v.sequence r4 (omega (arith, fits.sequence)))
    ∙ then_ok (kind_in ((kind_byte (is_some v.put) ∷ []) ++ r5)) _ (is_some v.put, r5) (kind_back (is_some v.put) r5)
    ∙ then_ok (value_length_in (is_some v.put) (big_bytes 4 (length (unwrap_or v.put [])) ++ r6)) _ (length (unwrap_or v.put []), r6) (length_back v.put r6 fits.value)
    ∙ then_ok (bytes_in (length (unwrap_or v.put [])) (unwrap_or v.put [] ++ rest)) _ (unwrap_or v.put [], rest) (bytes_back (unwrap_or v.put []) rest)
    ∙ ap (λ (o : Option (List ℕ)). Ok (as_version v.key v.sequence o, rest)) (value_back v.put)

-- the versions that were added are read in front of their entries
versions_back : (vs : List Version) → AllByRecursion FitsEntry vs → versions_in (length vs) (entries_bytes vs) ≡ vs
versions_back [] fits = refl
versions_back (v ∷ vs) fits = ap (version_then (versions_in (length vs))) (entry_back v (entries_bytes vs) fits.0) ∙ ap (λ (ws : List Version). v ∷ ws) (versions_back vs fits.1)

pub versions_built : (entries offsets : List ℕ) (vs : List Version) → IsBuilt entries offsets vs → versions_in (length offsets) entries ≡ vs
versions_built entries offsets vs built =
    ap (λ (n : ℕ). versions_in n entries) (ap length built.places ∙ length-offsets 0 vs) ∙ ap (versions_in (length vs)) built.bytes ∙ versions_back vs built.fits

pub is_built : (entries offsets : List ℕ) (vs : List Version) → IsBuilt entries offsets vs → IsBuilt entries offsets (versions_in (length offsets) entries)
is_built entries offsets vs built = subst (IsBuilt entries offsets) (sym (versions_built entries offsets vs built)) built

entries_back : (block : List ℕ) (p : ℕ) (vs : List Version) (more : List ℕ) → AllByRecursion FitsEntry vs → length block < 2 ^ 32 → length (entries_bytes vs) ≤ length block →
    drop p block ≡ places_bytes (length block - length (entries_bytes vs)) vs ++ more → entries_in block (length vs) p (entries_bytes vs) ≡ Ok vs
entries_back block p [] more fits small le at = refl
entries_back block p (v ∷ vs) more fits small le at =
    let n = length-append (entry_bytes v) (entries_bytes vs) in
    let from = length block - length (entry_bytes v ++ entries_bytes vs) in
    let next : (length block - length (entry_bytes v ++ entries_bytes vs)) + length (entry_bytes v) ≡ length block - length (entries_bytes vs) = omega (arith, n, le) in
    let split : drop p block ≡ big_bytes 4 from ++ (places_bytes (from + length (entry_bytes v)) vs ++ more) = at ∙ append_assoc (big_bytes 4 from) (places_bytes (from + length (entry_bytes v)) vs) more in
    let here : big_number 4 (drop p block) ≡ length block - length (entry_bytes v ++ entries_bytes vs) = ap (big_number 4) split ∙ big_number-reads_back 4 from (places_bytes (from + length (entry_bytes v)) vs ++ more) (omega (arith, small)) in
    let behind : drop (p + 4) block ≡ places_bytes (length block - length (entries_bytes vs)) vs ++ more =
    drop_more p 4 block ∙ ap (drop 4) split ∙ (ap (λ (k : ℕ). drop k (big_bytes 4 from ++ (places_bytes (from + length (entry_bytes v)) vs ++ more))) (sym (length-bytes_high_first 4 from)) ∙ drop-append_seam (big_bytes 4 from) (places_bytes (from + length (entry_bytes v)) vs ++ more))
    ∙ ap (λ (k : ℕ). places_bytes k vs ++ more) next in
    step_right block (length vs) p (entry_bytes v ++ entries_bytes vs) here
    ∙ ap (entry_then (length block) (entries_in block (length vs) (p + 4))) (entry_back v (entries_bytes vs) fits.0)
    ∙ ap (with_first v) (entries_back block (p + 4) vs more fits.1 small (omega (arith, le, n)) behind)

pub block_back : (vs : List Version) → AllByRecursion FitsEntry vs → length (block_bytes vs) < 2 ^ 32 → block_in (block_bytes vs) ≡ Ok vs
block_back vs fits small =
    let places = places_bytes (4 + 4 * length vs) vs in
    let rest = places_bytes (4 + 4 * length vs) vs ++ entries_bytes vs in
    let np = length-places (4 + 4 * length vs) vs in
    let nr = length-append (places_bytes (4 + 4 * length vs) vs) (entries_bytes vs) in
    let nb : length (block_bytes vs) ≡ 4 + length (places_bytes (4 + 4 * length vs) vs ++ entries_bytes vs) = omega (arith, length-append (big_bytes 4 (length vs)) (places_bytes (4 + 4 * length vs) vs ++ entries_bytes vs), length-bytes_high_first 4 (length vs)) in
    let count : length vs < 256 ^ 4 = omega (arith, np, nr, nb, small) in
    let whole : nat_le (4 * length vs) (length (places_bytes (4 + 4 * length vs) vs ++ entries_bytes vs)) ≡ true = is_le (4 * length vs) (length (places_bytes (4 + 4 * length vs) vs ++ entries_bytes vs)) (omega (arith, np, nr)) in
    let from : length (block_bytes vs) - length (entries_bytes vs) ≡ 4 + 4 * length vs = omega (arith, np, nr, nb) in
    let behind_places : drop (4 * length vs) (places_bytes (4 + 4 * length vs) vs ++ entries_bytes vs) ≡ entries_bytes vs = ap (λ (k : ℕ). drop k (places_bytes (4 + 4 * length vs) vs ++ entries_bytes vs)) (sym np) ∙ drop-append_seam (places_bytes (4 + 4 * length vs) vs) (entries_bytes vs) in
    let at : drop 4 (block_bytes vs) ≡ places_bytes (length (block_bytes vs) - length (entries_bytes vs)) vs ++ entries_bytes vs =
    ap (λ (k : ℕ). drop k (block_bytes vs)) (sym (length-bytes_high_first 4 (length vs))) ∙ drop-append_seam (big_bytes 4 (length vs)) (places_bytes (4 + 4 * length vs) vs ++ entries_bytes vs)
    ∙ ap (λ (k : ℕ). places_bytes k vs ++ entries_bytes vs) (sym from) in
    ap (behind_count (block_bytes vs)) (number_back 4 (length vs) (places_bytes (4 + 4 * length vs) vs ++ entries_bytes vs) count)
    ∙ ap (λ t. cond t (entries_in (block_bytes vs) (length vs) 4 (drop (4 * length vs) (places_bytes (4 + 4 * length vs) vs ++ entries_bytes vs))) (Err (short_at (length vs) (places_bytes (4 + 4 * length vs) vs ++ entries_bytes vs)))) whole
    ∙ ap (entries_in (block_bytes vs) (length vs) 4) behind_places
    ∙ entries_back (block_bytes vs) 4 vs (entries_bytes vs) fits small (omega (arith, np, nr, nb)) at
  where
    is_le : (m n : ℕ) → m ≤ n → nat_le m n ≡ true
    is_le m n le = grind (arith, nat_tests)

-- ---- the whole block

pub finished : (entries offsets none head table whole : List ℕ) (number : ℕ) (vs : List Version) → IsBuilt entries offsets vs → number ≡ length offsets → none ≡ [] → head ≡ none ++ big_bytes 4 number → table ≡ head ++ placed (4 + 4 * number) offsets → whole ≡ table ++ entries → whole ≡ block_bytes vs
finished entries offsets none head table whole number vs built counted empty a b c =
    let count : number ≡ length vs = counted ∙ ap length built.places ∙ length-offsets 0 vs in
    let start : (4 + 4 * number) + 0 ≡ 4 + 4 * length vs = omega (arith, count) in
    let places : placed (4 + 4 * number) offsets ≡ places_bytes (4 + 4 * length vs) vs =
    ap (placed (4 + 4 * number)) built.places ∙ placed_offsets (4 + 4 * number) 0 vs ∙ ap (λ (n : ℕ). places_bytes n vs) start in
    c
    ∙ ap (λ (x : List ℕ). x ++ entries) (b ∙ ap (λ (x : List ℕ). x ++ placed (4 + 4 * number) offsets) (a ∙ ap (λ (x : List ℕ). x ++ big_bytes 4 number) empty))
    ∙ append_assoc (big_bytes 4 number) (placed (4 + 4 * number) offsets) entries
    ∙ ap (λ (n : ℕ). big_bytes 4 n ++ (placed (4 + 4 * number) offsets ++ entries)) count
    ∙ ap (λ (x : List ℕ). big_bytes 4 (length vs) ++ (x ++ entries)) places
    ∙ ap (λ (x : List ℕ). big_bytes 4 (length vs) ++ (places_bytes (4 + 4 * length vs) vs ++ x)) built.bytes

pub block_length : (entries offsets : List ℕ) (vs : List Version) → IsBuilt entries offsets vs → length (block_bytes vs) ≡ (4 + 4 * length offsets) + length entries
block_length entries offsets vs built = omega (
  arith,
  ap length built.bytes,
  ap length built.places,
  length-offsets 0 vs,
  length-places (4 + 4 * length vs) vs,
  length-append (places_bytes (4 + 4 * length vs) vs) (entries_bytes vs),
  length-append (big_bytes 4 (length vs)) (places_bytes (4 + 4 * length vs) vs ++ entries_bytes vs),
  length-bytes_high_first 4 (length vs),
)

pub entry_length : (v : Version) → length (entry_bytes v) ≡ 17 + length v.key + length (unwrap_or v.put [])
entry_length v = omega (arith, length-append v.key (big_bytes 8 v.sequence ++ (kind_byte (is_some v.put) ∷ (big_bytes 4 (length (unwrap_or v.put [])) ++ unwrap_or v.put []))))

pub one_length : (v : Version) → FitsEntry v → length (block_bytes (v ∷ [])) ≡ 25 + length v.key + length (unwrap_or v.put [])
one_length v fits = omega (arith, block_length (entries_bytes (v ∷ [])) (0 ∷ []) (v ∷ []) (record { bytes = refl; places = refl; fits = (fits, tt) }), length-append (entry_bytes v) [], entry_length v)
