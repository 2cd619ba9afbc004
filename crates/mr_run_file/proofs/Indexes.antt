-- The index of a run and its blocks are read back.
use Rattle.std.proofs.Common.{◌≡◌, ℕ, zero, suc, ◌+◌, ◌*◌, ◌^◌, ◌<◌, ◌≤◌, List, [], ◌∷◌, ◌++◌, length, take, drop, refl, ap, sym, ◌∙◌, arith, Bool, true, cond, nat_le, nat_eq, append_assoc, length-append, Result, Ok, Err}
use Rattle.std.specs.List.{AllByRecursion}
use Rattle.std.proofs.lemmas.Bool.{eq-eqb, le-leb}
use Rattle.std.proofs.lemmas.List.{drop-drop}
use Rattle.std.proofs.Math.Seq.{drop-append_seam, take-append_seam}
use Rattle.byteorder.specs.Endian.{big_bytes}
use Rattle.byteorder.specs.Numbers.{length-bytes_high_first}
use Rattle.mr_iter.specs.Versions.{Version, joined}
use Rattle.mr_block.specs.Fields.{Read, ◌>>=◌, number_in}
use Rattle.mr_block.specs.Block.{block_bytes, block_in, key_in}
use Rattle.mr_run_file.specs.Format.{first_key, key_bytes, blocks_bytes, indexed_bytes, all_indexed_bytes}
use Rattle.mr_run_file.specs.Reading.{Indexed, demand, ends_well, indexed_in, all_indexed_in, counted_from, block_at, key_demand, versions_at, all_versions_in}
use Rattle.mr_run_file.specs.Written.{ReadsBack}
use Rattle.mr_run_file.proofs.Fields.{number_back, bytes_back, then_ok, key_back, holds, key_holds}

-- what the index has of these blocks, of which the first begins at this place
abbrev pub indexed : ℕ → List (List Version) → List Indexed
indexed at [] = []
indexed at (vs ∷ vss) = record { place = at; size = length (block_bytes vs); key = first_key vs } ∷ indexed (at + length (block_bytes vs)) vss

spread : (a b c d r : List ℕ) → ((a ++ (b ++ (c ++ d))) ++ r) ≡ (a ++ (b ++ (c ++ (d ++ r))))
spread a b c d r = simp append_assoc

pub indexed_back : (end more at : ℕ) (vs : List Version) (rest : List ℕ) → ReadsBack vs → at < 2 ^ 64 → ends_well end more (at + length (block_bytes vs)) ≡ true
    → indexed_in end more at (indexed_bytes at vs ++ rest) ≡ Ok (record { place = at; size = length (block_bytes vs); key = first_key vs }, rest)
indexed_back end more at vs rest back small ends =
    let k = big_bytes 4 (length (first_key vs)) ++ (first_key vs ++ rest) in
    let s = big_bytes 4 (length (block_bytes vs)) ++ (big_bytes 4 (length (first_key vs)) ++ (first_key vs ++ rest)) in
    let p = big_bytes 8 at ++ (big_bytes 4 (length (block_bytes vs)) ++ (big_bytes 4 (length (first_key vs)) ++ (first_key vs ++ rest))) in
    ap (indexed_in end more at) (spread (big_bytes 8 at) (big_bytes 4 (length (block_bytes vs))) (big_bytes 4 (length (first_key vs))) (first_key vs) rest)
    ∙ then_ok (number_in 8 p) _ (at, s) (number_back 8 at s (omega (arith, small)))
    ∙ then_ok (demand (nat_eq at at) (length p)) _ tt (holds (nat_eq at at) (length p) (eq-eqb at at refl))
    ∙ then_ok (number_in 4 s) _ (length (block_bytes vs), k) (number_back 4 (length (block_bytes vs)) k (omega (arith, back.size)))
    ∙ then_ok (demand (ends_well end more (at + length (block_bytes vs))) (length s)) _ tt (holds _ (length s) ends)
    ∙ then_ok (key_in k) _ (first_key vs, rest) (key_back (first_key vs) rest back.key)

pub all_indexed_back : (end at : ℕ) (vss : List (List Version)) (rest : List ℕ) → AllByRecursion ReadsBack vss → end < 2 ^ 64 → at + length (blocks_bytes vss) ≡ end
    → all_indexed_in end (length vss) at (all_indexed_bytes at vss ++ rest) ≡ Ok (indexed at vss, rest)
all_indexed_back end at [] rest back small ends = refl
all_indexed_back end at (vs ∷ vss) rest back small ends =
    let n = length-append (block_bytes vs) (blocks_bytes vss) in
    let more = all_indexed_bytes (at + length (block_bytes vs)) vss ++ rest in
    let next : (at + length (block_bytes vs)) + length (blocks_bytes vss) ≡ end = omega (arith, ends, n) in
    let well : ends_well end (length vss) (at + length (block_bytes vs)) ≡ true = ends_here vss next in
    ap (all_indexed_in end (suc (length vss)) at) (append_assoc (indexed_bytes at vs) (all_indexed_bytes (at + length (block_bytes vs)) vss) rest)
    ∙ then_ok (indexed_in end (length vss) at (indexed_bytes at vs ++ more)) _ (record { place = at; size = length (block_bytes vs); key = first_key vs }, more) (indexed_back end (length vss) at vs more back.0 (omega (arith, ends, small)) well)
    ∙ then_ok (all_indexed_in end (length vss) (at + length (block_bytes vs)) more) _ (indexed (at + length (block_bytes vs)) vss, rest) (all_indexed_back end (at + length (block_bytes vs)) vss rest back.1 small next)
  where
    ends_here : (wss : List (List Version)) → (at + length (block_bytes vs)) + length (blocks_bytes wss) ≡ end → ends_well end (length wss) (at + length (block_bytes vs)) ≡ true
    ends_here [] e = eq-eqb (at + length (block_bytes vs)) end (omega (arith, e))
    ends_here (ws ∷ wss) e = le-leb (at + length (block_bytes vs)) end (omega (arith, e))

pub versions_back : (file : List ℕ) (at : ℕ) (vs : List Version) (more : List ℕ) → ReadsBack vs → drop at file ≡ block_bytes vs ++ more → versions_at file (record { place = at; size = length (block_bytes vs); key = first_key vs }) ≡ Ok vs
versions_back file at vs more back is =
    let here : take (length (block_bytes vs)) (drop at file) ≡ block_bytes vs = ap (take (length (block_bytes vs))) is ∙ take-append_seam (block_bytes vs) more in
    let read : counted_from at (block_in (take (length (block_bytes vs)) (drop at file))) ≡ Ok vs = ap (λ (b : List ℕ). counted_from at (block_in b)) here ∙ ap (counted_from at) back.back in
    then_ok (counted_from at (block_in (take (length (block_bytes vs)) (drop at file)))) _ vs read
    ∙ then_ok (demand (nat_le 1 (length vs)) at) _ tt (holds (nat_le 1 (length vs)) at (le-leb 1 (length vs) (omega (arith, back.some))))
    ∙ then_ok (key_demand (first_key vs) (first_key vs) (at + 4 + 4 * length vs)) _ tt (key_holds (first_key vs) (at + 4 + 4 * length vs))

pub all_versions_back : (file : List ℕ) (at : ℕ) (vss : List (List Version)) (more : List ℕ) → AllByRecursion ReadsBack vss → drop at file ≡ blocks_bytes vss ++ more → all_versions_in file (indexed at vss) ≡ Ok (joined vss)
all_versions_back file at [] more back is = refl
all_versions_back file at (vs ∷ vss) more back is =
    let split : drop at file ≡ block_bytes vs ++ (blocks_bytes vss ++ more) = is ∙ append_assoc (block_bytes vs) (blocks_bytes vss) more in
    let behind : drop (at + length (block_bytes vs)) file ≡ blocks_bytes vss ++ more = sym (drop-drop (length (block_bytes vs)) at file) ∙ ap (drop (length (block_bytes vs))) split ∙ drop-append_seam (block_bytes vs) (blocks_bytes vss ++ more) in
    then_ok (versions_at file (record { place = at; size = length (block_bytes vs); key = first_key vs })) _ vs (versions_back file at vs (blocks_bytes vss ++ more) back.0 split)
    ∙ then_ok (all_versions_in file (indexed (at + length (block_bytes vs)) vss)) _ (joined vss) (all_versions_back file (at + length (block_bytes vs)) vss more back.1 behind)
