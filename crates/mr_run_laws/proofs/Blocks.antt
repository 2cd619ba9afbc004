-- The blocks of a run are read from their bytes, and from nothing else.
use Rattle.std.proofs.Common.{◌≡◌, ℕ, zero, suc, ◌+◌, ◌*◌, ◌-◌, ◌≤◌, true, List, [], ◌∷◌, ◌++◌, length, take, drop, refl, sym, ◌∙◌, ap, arith, nat_le, length-drop, Result, Ok, Err}
use Rattle.std.specs.List.{AllByRecursion, list_all}
use Rattle.std.proofs.lemmas.Bool.{leb-true}
use Rattle.std.proofs.lemmas.List.{drop-drop, length-take-le}
use Rattle.byteorder.specs.Endian.{big_bytes}
use Rattle.mr_iter.specs.Versions.{Version, joined}
use Rattle.mr_block.specs.Fields.{is_byte}
use Rattle.mr_block.specs.Block.{block_bytes, block_in}
use Rattle.mr_run_laws.proofs.Numbers.{bytes_behind}
use Rattle.mr_run_laws.proofs.BlockBytes.{block_only}
use Rattle.mr_run_file.specs.Format.{first_key, key_bytes, blocks_bytes, indexed_bytes, all_indexed_bytes}
use Rattle.mr_run_file.specs.Reading.{Indexed, demand, key_demand, counted_from, block_at, versions_at, all_versions_in}
use Rattle.mr_run_file.specs.Written.{ReadsBack}
use Rattle.mr_run_file.proofs.Lists.{bound, ok_same}
use Rattle.mr_run_laws.proofs.Fields.{demanded, bytes_front, key_held, one_bytes, all_bytes, Lie, IsSmall}

counted : (place : ℕ) (r : Result (List Version) ℕ) (vs : List Version) → counted_from place r ≡ Ok vs → r ≡ Ok vs
counted place (Ok ws) vs is = is
counted place (Err at) vs is = cc

-- a block of some versions, of which the first has the key of the index
record IsBlockAt (file : List ℕ) (b : Indexed) (vs : List Version) : Type 0 where
  pub read : block_in (block_at file b) ≡ Ok vs
  pub some : 1 ≤ length vs
  pub key : first_key vs ≡ b.key

block_of : (file : List ℕ) (b : Indexed) (vs : List Version) → versions_at file b ≡ Ok vs → IsBlockAt file b vs
block_of file b vs is =
    let form = bound (counted_from b.place (block_in (block_at file b))) _ vs is in
    let some = bound (demand (nat_le 1 (length form.x)) b.place) _ vs form.next in
    let first = bound (key_demand b.key (first_key form.x) (b.place + 4 + 4 * length form.x)) _ vs some.next in
    let same : form.x ≡ vs = ok_same _ _ _ refl first.next in
    record {
      read = counted b.place (block_in (block_at file b)) vs (form.now ∙ ap (λ (ws : List Version). Ok ws) same);
      some = omega (arith, ap length same, leb-true 1 (length form.x) (demanded _ _ some.x some.now));
      key = ap first_key (sym same) ∙ key_held b.key (first_key form.x) _ first.x first.now;
    }

take_none : (n : ℕ) → let none : List ℕ = [] in take n none ≡ none
take_none zero = refl
take_none (suc n) = refl

take_add : (m n : ℕ) (xs : List ℕ) → take (m + n) xs ≡ take m xs ++ take n (drop m xs)
take_add zero n xs = let e : 0 + n ≡ n = omega arith in ap (λ (k : ℕ). take k xs) e
take_add (suc m) n [] = take_none (suc m + n) ∙ sym (take_none n)
take_add (suc m) n (x ∷ xs) = let e : suc m + n ≡ suc (m + n) = omega arith in ap (λ (k : ℕ). take k (x ∷ xs)) e ∙ ap (λ (ys : List ℕ). x ∷ ys) (take_add m n xs)

-- the blocks from a place up to the end, as bytes
pub record AreBlocksOf (file : List ℕ) (end at : ℕ) (bs : List Indexed) (vs : List Version) : Type 0 where
  pub lists : List (List Version)
  pub each : AllByRecursion ReadsBack lists
  pub list : vs ≡ joined lists
  pub index : all_bytes bs ≡ all_indexed_bytes at lists
  pub bytes : take (end - at) (drop at file) ≡ blocks_bytes lists
  pub count : length bs ≡ length lists
  pub upto : at ≤ end

pub blocks_only : (file : List ℕ) (end at : ℕ) (bs : List Indexed) (vs : List Version) → list_all is_byte file ≡ true → end ≤ length file → Lie end at bs → AllByRecursion IsSmall bs → all_versions_in file bs ≡ Ok vs → AreBlocksOf file end at bs vs
blocks_only file end at [] vs bytes within lie small is =
    let none : end - at ≡ 0 = omega (arith, lie) in
    record {
      lists = [];
      each = tt;
      list = sym (ok_same (Ok []) [] vs refl is);
      index = refl;
      bytes = ap (λ (n : ℕ). take n (drop at file)) none;
      count = refl;
      upto = omega (arith, lie);
    }
blocks_only file end at (b ∷ bs) vs bytes within lie small is =
    let one = bound (versions_at file b) _ vs is in
    let others = bound (all_versions_in file bs) _ vs one.next in
    let more = blocks_only file end (at + b.size) bs others.x bytes within lie.1 small.1 others.now in
    let same : one.x ++ others.x ≡ vs = ok_same (Ok (one.x ++ others.x)) (one.x ++ others.x) vs refl others.next in
    let is_block = block_of file b one.x one.now in
    let form : block_at file b ≡ block_bytes one.x = block_only (block_at file b) one.x (bytes_front b.size (drop b.place file) (bytes_behind b.place file bytes)) is_block.read in
    let size : b.size ≡ length (block_bytes one.x) = sym (length-take-le b.size (drop b.place file) (omega (arith, length-drop b.place file, within, more.upto, lie.0))) ∙ ap length form in
    let here : one_bytes b ≡ indexed_bytes at one.x =
    ap (λ (n : ℕ). big_bytes 8 n ++ (big_bytes 4 b.size ++ key_bytes b.key)) lie.0
    ∙ ap (λ (n : ℕ). big_bytes 8 at ++ (big_bytes 4 n ++ key_bytes b.key)) size
    ∙ ap (λ (k : List ℕ). big_bytes 8 at ++ (big_bytes 4 (length (block_bytes one.x)) ++ key_bytes k)) (sym is_block.key) in
    let front : take b.size (drop at file) ≡ block_bytes one.x = ap (λ (n : ℕ). take b.size (drop n file)) (sym lie.0) ∙ form in
    let sum : end - at ≡ b.size + (end - (at + b.size)) = omega (arith, more.upto) in
    record {
      lists = one.x ∷ more.lists;
      each = (record { some = omega (arith, is_block.some); back = ap block_in (sym form) ∙ is_block.read; size = omega (arith, size, small.0.0); key = omega (arith, ap length is_block.key, small.0.1) }, more.each);
      list = sym same ∙ ap (λ (ws : List Version). one.x ++ ws) more.list;
      index = ap (λ (x : List ℕ). x ++ all_bytes bs) here
          ∙ ap (λ (x : List ℕ). indexed_bytes at one.x ++ x) (more.index ∙ ap (λ (n : ℕ). all_indexed_bytes (at + n) more.lists) size);
      bytes = ap (λ (n : ℕ). take n (drop at file)) sum
          ∙ take_add b.size (end - (at + b.size)) (drop at file)
          ∙ ap (λ (x : List ℕ). x ++ take (end - (at + b.size)) (drop b.size (drop at file))) front
          ∙ ap (λ (x : List ℕ). block_bytes one.x ++ take (end - (at + b.size)) x) (drop-drop b.size at file)
          ∙ ap (λ (x : List ℕ). block_bytes one.x ++ x) more.bytes;
      count = ap suc more.count;
      upto = omega (arith, more.upto);
    }
