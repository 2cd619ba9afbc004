-- One block more behind others, and how the blocks are cut.
use Rattle.std.proofs.Common.{◌≡◌, ℕ, zero, suc, ◌+◌, ◌*◌, ◌-◌, ◌^◌, ◌<◌, ◌≤◌, Bool, true, false, cond, List, [], ◌∷◌, ◌++◌, length, take, refl, sym, ◌∙◌, ap, arith, append_assoc, length-append, Ok}
use Rattle.std.specs.List.{AllByRecursion}
use Rattle.std.proofs.lemmas.List.{append-nil, take_at}
use Rattle.byteorder.specs.Endian.{big_bytes}
use Rattle.byteorder.specs.Numbers.{length-bytes_high_first}
use Rattle.mr_iter.specs.Versions.{Version, joined}
use Rattle.mr_block.specs.Fields.{◌>>=◌}
use Rattle.mr_block.specs.Block.{entry_bytes, entries_bytes, places_bytes, block_bytes}
use Rattle.mr_run_file.specs.Format.{first_key, last_key, blocks_bytes, indexed_bytes, all_indexed_bytes}
use Rattle.mr_run_file.specs.Reading.{all_indexed_in, all_versions_in}
use Rattle.mr_run_file.specs.Written.{ReadsBack}
use Rattle.mr_run_file.proofs.Fields.{then_ok}
use Rattle.mr_run_file.proofs.Indexes.{indexed, all_indexed_back, all_versions_back}
use Rattle.mr_run_writer.specs.Cuts.{all_but_last, IsNotLate, IsClosed, AreCut}
use Rattle.mr_run_writer.specs.Drafts.{is_nil, versions_in_blocks}

-- ---- one more

pub joined_push : (bs : List (List Version)) (vs : List Version) → joined (bs ++ vs ∷ []) ≡ joined bs ++ vs
joined_push [] vs = append-nil vs
joined_push (b ∷ bs) vs = ap (λ (l : List Version). b ++ l) (joined_push bs vs) ∙ sym (append_assoc b (joined bs) vs)

pub blocks_push : (bs : List (List Version)) (vs : List Version) → blocks_bytes (bs ++ vs ∷ []) ≡ blocks_bytes bs ++ block_bytes vs
blocks_push [] vs = append-nil (block_bytes vs)
blocks_push (b ∷ bs) vs = ap (λ (l : List ℕ). block_bytes b ++ l) (blocks_push bs vs) ∙ sym (append_assoc (block_bytes b) (blocks_bytes bs) (block_bytes vs))

pub index_push : (at : ℕ) (bs : List (List Version)) (vs : List Version) → all_indexed_bytes at (bs ++ vs ∷ []) ≡ all_indexed_bytes at bs ++ indexed_bytes (at + length (blocks_bytes bs)) vs
index_push at [] vs = let e : at ≡ at + 0 = omega arith in append-nil (indexed_bytes at vs) ∙ ap (λ (n : ℕ). indexed_bytes n vs) e
index_push at (b ∷ bs) vs =
    let e : (at + length (block_bytes b)) + length (blocks_bytes bs) ≡ at + length (block_bytes b ++ blocks_bytes bs) = omega (arith, length-append (block_bytes b) (blocks_bytes bs)) in
    ap (λ (l : List ℕ). indexed_bytes at b ++ l) (index_push (at + length (block_bytes b)) bs vs ∙ ap (λ (n : ℕ). all_indexed_bytes (at + length (block_bytes b)) bs ++ indexed_bytes n vs) e)
    ∙ sym (append_assoc (indexed_bytes at b) (all_indexed_bytes (at + length (block_bytes b)) bs) (indexed_bytes (at + length (block_bytes b ++ blocks_bytes bs)) vs))

pub last_push : (vs : List Version) (v : Version) → last_key (vs ++ v ∷ []) ≡ v.key
last_push [] v = refl
last_push (u ∷ []) v = refl
last_push (u ∷ w ∷ vs) v = last_push (w ∷ vs) v

pub nil_push : (vs : List Version) (v : Version) → is_nil (vs ++ v ∷ []) ≡ false
nil_push [] v = refl
nil_push (u ∷ us) v = refl

pub is_none : (vs : List Version) → is_nil vs ≡ true → vs ≡ []
is_none [] is = refl
is_none (v ∷ vs) is = cc

pub some_of : (vs : List Version) → is_nil vs ≡ false → 0 < length vs
some_of [] is = cc
some_of (v ∷ vs) is = omega arith

pub first_push : (vs : List Version) (v : Version) (b : Bool) (first : List ℕ) → b ≡ is_nil vs → (is_nil vs ≡ false → first ≡ first_key vs) → cond b v.key first ≡ first_key (vs ++ v ∷ [])
first_push [] v b first e is = ap (λ t. cond t v.key first) e
first_push (u ∷ us) v b first e is = ap (λ t. cond t v.key first) e ∙ is refl

-- ---- the cut

length_places : (at : ℕ) (vs : List Version) → length (places_bytes at vs) ≡ 4 * length vs
length_places at [] = refl
length_places at (v ∷ vs) = omega (arith, length-append (big_bytes 4 at) (places_bytes (at + length (entry_bytes v)) vs), length_places (at + length (entry_bytes v)) vs, length-bytes_high_first 4 at)

length_block : (vs : List Version) → length (block_bytes vs) ≡ 4 + 4 * length vs + length (entries_bytes vs)
length_block vs = omega (
  arith,
  length-append (big_bytes 4 (length vs)) (places_bytes (4 + 4 * length vs) vs ++ entries_bytes vs),
  length-append (places_bytes (4 + 4 * length vs) vs) (entries_bytes vs),
  length_places (4 + 4 * length vs) vs,
  length-bytes_high_first 4 (length vs),
)

fewer : (k : ℕ) (vs : List Version) → (length (take k vs) ≤ length vs) × (length (entries_bytes (take k vs)) ≤ length (entries_bytes vs))
fewer zero vs = (omega arith, omega arith)
fewer (suc k) [] = (omega arith, omega arith)
fewer (suc k) (v ∷ vs) =
    let h = fewer k vs in
    (omega (arith, h.0), omega (arith, h.1, length-append (entry_bytes v) (entries_bytes (take k vs)), length-append (entry_bytes v) (entries_bytes vs)))

pub shorter : (k : ℕ) (vs : List Version) → length (block_bytes (take k vs)) ≤ length (block_bytes vs)
shorter k vs = let h = fewer k vs in omega (arith, h.0, h.1, length_block vs, length_block (take k vs))

pub not_late : (vs : List Version) → length (block_bytes vs) < 4096 → IsNotLate vs
not_late vs small = let le : length (block_bytes (all_but_last vs)) ≤ length (block_bytes vs) = shorter (length vs - 1) vs in omega (arith, le, small)

pub not_late_push : (vs : List Version) (v : Version) → length (block_bytes vs) < 4096 → IsNotLate (vs ++ v ∷ [])
not_late_push vs v small =
    let all : all_but_last (vs ++ v ∷ []) ≡ vs = take_at vs (v ∷ []) (length (vs ++ v ∷ []) - 1) (omega (arith, length-append vs (v ∷ []))) in
    omega (arith, ap (λ (l : List Version). length (block_bytes l)) all, small)

pub closed_cut : (bs : List (List Version)) → AllByRecursion IsClosed bs → AreCut bs
closed_cut [] closed = tt
closed_cut (b ∷ []) closed = closed.0.not_late
closed_cut (b ∷ c ∷ bs) closed = (closed.0, closed_cut (c ∷ bs) closed.1)

pub cut_push : (bs : List (List Version)) (vs : List Version) → AllByRecursion IsClosed bs → IsNotLate vs → AreCut (bs ++ vs ∷ [])
cut_push [] vs closed late = late
cut_push (b ∷ []) vs closed late = (closed.0, late)
cut_push (b ∷ c ∷ bs) vs closed late = (closed.0, cut_push (c ∷ bs) vs closed.1 late)

-- ---- what is written reads back

pub blocks_listed : (bs : List (List Version)) → AllByRecursion ReadsBack bs → length (blocks_bytes bs) < 2 ^ 64 → versions_in_blocks (length bs) (all_indexed_bytes 0 bs) (blocks_bytes bs) ≡ Ok (joined bs)
blocks_listed bs back small =
    ap (λ (l : List ℕ). all_indexed_in (length (blocks_bytes bs)) (length bs) 0 l >>= (λ all. all_versions_in (blocks_bytes bs) all.0)) (sym (append-nil (all_indexed_bytes 0 bs)))
    ∙ then_ok (all_indexed_in (length (blocks_bytes bs)) (length bs) 0 (all_indexed_bytes 0 bs ++ [])) _ (indexed 0 bs, []) (all_indexed_back (length (blocks_bytes bs)) 0 bs [] back small (omega arith))
    ∙ all_versions_back (blocks_bytes bs) 0 bs [] back (sym (append-nil (blocks_bytes bs)))
