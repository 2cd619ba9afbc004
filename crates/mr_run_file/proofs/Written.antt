-- What is written is read.
use Rattle.std.proofs.Common.{◌≡◌, ℕ, zero, suc, ◌+◌, ◌*◌, ◌-◌, ◌^◌, ◌<◌, ◌≤◌, List, [], ◌∷◌, ◌++◌, length, take, drop, refl, ap, sym, ◌∙◌, arith, nat_le, nat_eq, append_assoc, length-append, Result, Ok, Err}
use Rattle.std.specs.List.{AllByRecursion}
use Rattle.std.specs.Cmp.Lexicographic.{pointwise}
use Rattle.std.proofs.lemmas.Bool.{eq-eqb, le-leb}
use Rattle.std.proofs.lemmas.List.{append-nil, drop_at, take_at}
use Rattle.byteorder.specs.Endian.{big_bytes, big_number}
use Rattle.byteorder.specs.Numbers.{big_number-reads_back, length-bytes_high_first}
use Rattle.mr_iter.specs.Versions.{Version, joined}
use Rattle.mr_block.specs.Fields.{◌>>=◌}
use Rattle.mr_block.specs.Block.{entry_bytes, entries_bytes, places_bytes, block_bytes, key_in}
use Rattle.mr_run_file.specs.Format.{first_key, last_key, key_bytes, blocks_bytes, all_indexed_bytes, index_bytes, format_name, footer_bytes, run_bytes}
use Rattle.mr_run_file.specs.Reading.{Index, demand, footer_at, footer_number, footer_in, all_indexed_in, index_in, counted_to, structure_in, all_versions_in, key_demand, last_size, ends_in, run_in}
use Rattle.mr_run_file.specs.Written.{ReadsBack, IsReadBack}
use Rattle.mr_run_file.proofs.Fields.{then_ok, key_back, holds, same_key, key_holds}
use Rattle.mr_run_file.proofs.Indexes.{indexed, all_indexed_back, all_versions_back}

-- ---- the footer

pub length_footer : (p s b e : ℕ) → length (footer_bytes p s b e) ≡ 40
length_footer p s b e = omega (
  arith,
  length-append (big_bytes 8 p) (big_bytes 8 s ++ (big_bytes 8 b ++ (big_bytes 8 e ++ format_name))),
  length-append (big_bytes 8 s) (big_bytes 8 b ++ (big_bytes 8 e ++ format_name)),
  length-append (big_bytes 8 b) (big_bytes 8 e ++ format_name),
  length-append (big_bytes 8 e) format_name,
  length-bytes_high_first 8 p,
  length-bytes_high_first 8 s,
  length-bytes_high_first 8 b,
  length-bytes_high_first 8 e,
)

number_at : (file front rest : List ℕ) (at x : ℕ) → file ≡ front ++ (big_bytes 8 x ++ rest) → length front ≡ at → x < 2 ^ 64 → big_number 8 (drop at file) ≡ x
number_at file front rest at x is size small =
    ap (λ (f : List ℕ). big_number 8 (drop at f)) is ∙ ap (big_number 8) (drop_at front (big_bytes 8 x ++ rest) at size) ∙ big_number-reads_back 8 x rest (omega (arith, small))

-- the fields of a footer
pub record Fields (front : List ℕ) (p s b e : ℕ) (file : List ℕ) : Type 0 where
  pub at : footer_at file ≡ length front
  pub size : length file ≡ length front + 40
  pub place : footer_number 0 file ≡ p
  pub index : footer_number 1 file ≡ s
  pub blocks : footer_number 2 file ≡ b
  pub entries : footer_number 3 file ≡ e
  pub name : drop (footer_at file + 32) file ≡ format_name

pub fields : (front : List ℕ) (p s b e : ℕ) (file : List ℕ) → file ≡ front ++ footer_bytes p s b e → p < 2 ^ 64 → s < 2 ^ 64 → b < 2 ^ 64 → e < 2 ^ 64 → Fields front p s b e file
fields front p s b e file is lp ls lb le =
    let size : length file ≡ length front + 40 = omega (arith, ap length is, length-append front (footer_bytes p s b e), length_footer p s b e) in
    let at : footer_at file ≡ length front = omega (arith, size) in
    let r3 = big_bytes 8 e ++ format_name in
    let r2 = big_bytes 8 b ++ (big_bytes 8 e ++ format_name) in
    let r1 = big_bytes 8 s ++ (big_bytes 8 b ++ (big_bytes 8 e ++ format_name)) in
    let f1 = front ++ big_bytes 8 p in
    let f2 = (front ++ big_bytes 8 p) ++ big_bytes 8 s in
    let f3 = ((front ++ big_bytes 8 p) ++ big_bytes 8 s) ++ big_bytes 8 b in
    let f4 = (((front ++ big_bytes 8 p) ++ big_bytes 8 s) ++ big_bytes 8 b) ++ big_bytes 8 e in
    let i1 : file ≡ f1 ++ r1 = is ∙ sym (append_assoc front (big_bytes 8 p) r1) in
    let i2 : file ≡ f2 ++ r2 = i1 ∙ sym (append_assoc f1 (big_bytes 8 s) r2) in
    let i3 : file ≡ f3 ++ r3 = i2 ∙ sym (append_assoc f2 (big_bytes 8 b) r3) in
    let i4 : file ≡ f4 ++ format_name = i3 ∙ sym (append_assoc f3 (big_bytes 8 e) format_name) in
    let l1 : length f1 ≡ length front + 8 = omega (arith, length-append front (big_bytes 8 p), length-bytes_high_first 8 p) in
    let l2 : length f2 ≡ length front + 16 = omega (arith, l1, length-append f1 (big_bytes 8 s), length-bytes_high_first 8 s) in
    let l3 : length f3 ≡ length front + 24 = omega (arith, l2, length-append f2 (big_bytes 8 b), length-bytes_high_first 8 b) in
    let l4 : length f4 ≡ length front + 32 = omega (arith, l3, length-append f3 (big_bytes 8 e), length-bytes_high_first 8 e) in
    record {
      at = at;
      size = size;
      place = number_at file front r1 (footer_at file + 8 * 0) p is (omega (arith, at)) lp;
      index = number_at file f1 r2 (footer_at file + 8 * 1) s i1 (omega (arith, at, l1)) ls;
      blocks = number_at file f2 r3 (footer_at file + 8 * 2) b i2 (omega (arith, at, l2)) lb;
      entries = number_at file f3 format_name (footer_at file + 8 * 3) e i3 (omega (arith, at, l3)) le;
      name = ap (drop (footer_at file + 32)) i4 ∙ drop_at f4 format_name (footer_at file + 32) (omega (arith, at, l4));
    }

footer_back : (front : List ℕ) (p s b e : ℕ) (file : List ℕ) → Fields front p s b e file → p + s ≡ length front → 0 < b → footer_in e file ≡ Ok tt
footer_back front p s b e file f sum some =
    then_ok (demand (nat_le 40 (length file)) 0) _ tt (holds (nat_le 40 (length file)) 0 (le-leb 40 (length file) (omega (arith, f.size))))
    ∙ then_ok (demand (nat_le (footer_number 0 file) (footer_at file)) (footer_at file)) _ tt (holds _ (footer_at file) (le-leb (footer_number 0 file) (footer_at file) (omega (arith, f.place, f.at, sum))))
    ∙ then_ok (demand (nat_eq (footer_number 0 file + footer_number 1 file) (footer_at file)) (footer_at file + 8)) _ tt (holds _ (footer_at file + 8) (eq-eqb (footer_number 0 file + footer_number 1 file) (footer_at file) (omega (arith, f.place, f.index, f.at, sum))))
    ∙ then_ok (demand (nat_le 1 (footer_number 2 file)) (footer_at file + 16)) _ tt (holds _ (footer_at file + 16) (le-leb 1 (footer_number 2 file) (omega (arith, f.blocks, some))))
    ∙ then_ok (demand (nat_eq (footer_number 3 file) e) (footer_at file + 24)) _ tt (holds _ (footer_at file + 24) (eq-eqb (footer_number 3 file) e f.entries))
    ∙ holds (pointwise nat_eq (drop (footer_at file + 32) file) format_name) (footer_at file + 32) (ap (λ (l : List ℕ). pointwise nat_eq l format_name) f.name ∙ same_key format_name)

-- ---- lengths

entries_many : (vs : List Version) → length vs ≤ length (entries_bytes vs)
entries_many [] = omega arith
entries_many (v ∷ vs) = omega (arith, entries_many vs, length-append (entry_bytes v) (entries_bytes vs))

block_many : (vs : List Version) → length vs ≤ length (block_bytes vs)
block_many vs = omega (arith, entries_many vs, length-append (big_bytes 4 (length vs)) (places_bytes (4 + 4 * length vs) vs ++ entries_bytes vs), length-append (places_bytes (4 + 4 * length vs) vs) (entries_bytes vs))

blocks_many : (vss : List (List Version)) → length (joined vss) ≤ length (blocks_bytes vss)
blocks_many [] = omega arith
blocks_many (vs ∷ vss) = omega (arith, blocks_many vss, block_many vs, length-append vs (joined vss), length-append (block_bytes vs) (blocks_bytes vss))

some_blocks : (vss : List (List Version)) → length vss ≤ length (blocks_bytes vss)
some_blocks [] = omega arith
some_blocks (vs ∷ vss) = omega (arith, some_blocks vss, length-append (block_bytes vs) (blocks_bytes vss), length-append (big_bytes 4 (length vs)) (places_bytes (4 + 4 * length vs) vs ++ entries_bytes vs), length-bytes_high_first 4 (length vs))

-- ---- the index

pub index_back : (vss : List (List Version)) → AllByRecursion ReadsBack vss → length (last_key (joined vss)) < 2 ^ 32 → length (blocks_bytes vss) < 2 ^ 64
    → index_in (length (blocks_bytes vss)) (length vss) (index_bytes vss) ≡ Ok (record { blocks = indexed 0 vss; last = last_key (joined vss) })
index_back vss back last small =
    let key = last_key (joined vss) in
    let tail : key_bytes (last_key (joined vss)) ≡ big_bytes 4 (length (last_key (joined vss))) ++ (last_key (joined vss) ++ []) = ap (λ (l : List ℕ). big_bytes 4 (length (last_key (joined vss))) ++ l) (sym (append-nil (last_key (joined vss)))) in
    then_ok (all_indexed_in (length (blocks_bytes vss)) (length vss) 0 (index_bytes vss)) _ (indexed 0 vss, key_bytes (last_key (joined vss))) (all_indexed_back (length (blocks_bytes vss)) 0 vss (key_bytes (last_key (joined vss))) back small (omega arith))
    ∙ then_ok (key_in (key_bytes (last_key (joined vss)))) _ (last_key (joined vss), []) (ap key_in tail ∙ key_back (last_key (joined vss)) [] last)
    ∙ refl

-- ---- the run

module _ (vss : List (List Version)) (some : 0 < length vss) (back : AllByRecursion ReadsBack vss) (last : length (last_key (joined vss)) < 2 ^ 32) (small : length (run_bytes vss) < 2 ^ 64) where
  front_is : run_bytes vss ≡ (blocks_bytes vss ++ index_bytes vss) ++ footer_bytes (length (blocks_bytes vss)) (length (index_bytes vss)) (length vss) (length (joined vss))
  front_is = sym (append_assoc (blocks_bytes vss) (index_bytes vss) (footer_bytes (length (blocks_bytes vss)) (length (index_bytes vss)) (length vss) (length (joined vss))))

  sizes : length (run_bytes vss) ≡ length (blocks_bytes vss) + length (index_bytes vss) + 40
  sizes = omega (
    arith,
    length-append (blocks_bytes vss) (index_bytes vss ++ footer_bytes (length (blocks_bytes vss)) (length (index_bytes vss)) (length vss) (length (joined vss))),
    length-append (index_bytes vss) (footer_bytes (length (blocks_bytes vss)) (length (index_bytes vss)) (length vss) (length (joined vss))),
    length_footer (length (blocks_bytes vss)) (length (index_bytes vss)) (length vss) (length (joined vss)),
  )

  pub footer : Fields (blocks_bytes vss ++ index_bytes vss) (length (blocks_bytes vss)) (length (index_bytes vss)) (length vss) (length (joined vss)) (run_bytes vss)
  footer = fields (blocks_bytes vss ++ index_bytes vss) (length (blocks_bytes vss)) (length (index_bytes vss)) (length vss) (length (joined vss)) (run_bytes vss) front_is (omega (arith, small, sizes)) (omega (arith, small, sizes)) (omega (arith, small, sizes, some_blocks vss)) (omega (arith, small, sizes, blocks_many vss))

  pub structure_back : structure_in (length (joined vss)) (run_bytes vss) ≡ Ok (record { blocks = indexed 0 vss; last = last_key (joined vss) })
  structure_back =
      let tail = footer_bytes (length (blocks_bytes vss)) (length (index_bytes vss)) (length vss) (length (joined vss)) in
      let index : take (footer_number 1 (run_bytes vss)) (drop (footer_number 0 (run_bytes vss)) (run_bytes vss)) ≡ index_bytes vss =
      ap (λ (n : ℕ). take (footer_number 1 (run_bytes vss)) (drop n (run_bytes vss))) footer.place
      ∙ ap (λ (n : ℕ). take n (drop (length (blocks_bytes vss)) (run_bytes vss))) footer.index
      ∙ ap (take (length (index_bytes vss))) (drop_at (blocks_bytes vss) (index_bytes vss ++ tail) (length (blocks_bytes vss)) refl)
      ∙ take_at (index_bytes vss) tail (length (index_bytes vss)) refl in
      let sum : length (blocks_bytes vss) + length (index_bytes vss) ≡ length (blocks_bytes vss ++ index_bytes vss) = sym (length-append (blocks_bytes vss) (index_bytes vss)) in
      then_ok (footer_in (length (joined vss)) (run_bytes vss)) _ tt (footer_back (blocks_bytes vss ++ index_bytes vss) (length (blocks_bytes vss)) (length (index_bytes vss)) (length vss) (length (joined vss)) (run_bytes vss) footer sum some)
      ∙ ap (λ (n : ℕ). counted_to (footer_at (run_bytes vss)) (index_in n (footer_number 2 (run_bytes vss)) (take (footer_number 1 (run_bytes vss)) (drop (footer_number 0 (run_bytes vss)) (run_bytes vss))))) footer.place
      ∙ ap (λ (n : ℕ). counted_to (footer_at (run_bytes vss)) (index_in (length (blocks_bytes vss)) n (take (footer_number 1 (run_bytes vss)) (drop (footer_number 0 (run_bytes vss)) (run_bytes vss))))) footer.blocks
      ∙ ap (λ (l : List ℕ). counted_to (footer_at (run_bytes vss)) (index_in (length (blocks_bytes vss)) (length vss) l)) index
      ∙ ap (counted_to (footer_at (run_bytes vss))) (index_back vss back last (omega (arith, small, sizes)))

  pub run_back : run_in (length (joined vss)) (run_bytes vss) ≡ Ok (joined vss)
  run_back =
      let index : Index = record { blocks = indexed 0 vss; last = last_key (joined vss) } in
      then_ok (structure_in (length (joined vss)) (run_bytes vss)) _ index structure_back
      ∙ then_ok (all_versions_in (run_bytes vss) (indexed 0 vss)) _ (joined vss) (all_versions_back (run_bytes vss) 0 vss (index_bytes vss ++ footer_bytes (length (blocks_bytes vss)) (length (index_bytes vss)) (length vss) (length (joined vss))) back refl)
      ∙ then_ok (key_demand (last_key (joined vss)) (last_key (joined vss)) (footer_number 0 (run_bytes vss) - last_size (joined vss))) _ tt (key_holds (last_key (joined vss)) (footer_number 0 (run_bytes vss) - last_size (joined vss)))
      ∙ then_ok (demand (nat_eq (length (joined vss)) (length (joined vss))) (footer_at (run_bytes vss) + 24)) _ tt (holds _ (footer_at (run_bytes vss) + 24) (eq-eqb (length (joined vss)) (length (joined vss)) refl))

pub is_read_back : (vss : List (List Version)) → IsReadBack vss
is_read_back vss some back last small = run_back vss some back last small
