-- A run is read from its bytes, and from nothing else.
use Rattle.std.proofs.Common.{◌≡◌, ℕ, ◌+◌, ◌*◌, ◌-◌, ◌≤◌, true, List, ◌++◌, length, take, drop, refl, sym, ◌∙◌, ap, arith, nat_le, nat_eq, length-drop, Result, Ok, Err}
use Rattle.std.specs.List.{list_all}
use Rattle.std.proofs.lemmas.Bool.{leb-true, eqb-true}
use Rattle.std.proofs.lemmas.List.{drop-drop, length-take-le, take-append-drop}
use Rattle.byteorder.specs.Endian.{big_bytes, big_number}
use Rattle.mr_iter.specs.Versions.{Version, joined}
use Rattle.mr_block.specs.Fields.{is_byte}
use Rattle.mr_run_laws.proofs.Numbers.{bytes_behind, number_again}
use Rattle.mr_run_file.specs.Format.{last_key, key_bytes, blocks_bytes, all_indexed_bytes, index_bytes, format_name, footer_bytes}
use Rattle.mr_run_file.specs.Reading.{Index, demand, key_demand, footer_at, footer_number, footer_in, counted_to, index_in, structure_in, all_versions_in, last_size, IsRunFile}
use Rattle.mr_run_file.proofs.Lists.{bound, ok_same}
use Rattle.mr_run_laws.specs.Written.{IsRunOf}
use Rattle.mr_run_laws.proofs.Fields.{demanded, bytes_front, same_keys, key_held, index_only}
use Rattle.mr_run_laws.proofs.Blocks.{blocks_only}

-- ---- the footer

record IsFooterOf (entries : ℕ) (file : List ℕ) : Type 0 where
  pub long : 40 ≤ length file
  pub fits : footer_number 0 file + footer_number 1 file ≡ footer_at file
  pub some : 1 ≤ footer_number 2 file
  pub count : footer_number 3 file ≡ entries
  pub name : drop (footer_at file + 32) file ≡ format_name

footer_of : (entries : ℕ) (file : List ℕ) (u : Unit {0}) → footer_in entries file ≡ Ok u → IsFooterOf entries file
footer_of entries file u is =
    let whole = bound (demand (nat_le 40 (length file)) 0) _ u is in
    let place = bound (demand (nat_le (footer_number 0 file) (footer_at file)) (footer_at file)) _ u whole.next in
    let size = bound (demand (nat_eq (footer_number 0 file + footer_number 1 file) (footer_at file)) (footer_at file + 8)) _ u place.next in
    let blocks = bound (demand (nat_le 1 (footer_number 2 file)) (footer_at file + 16)) _ u size.next in
    let count = bound (demand (nat_eq (footer_number 3 file) entries) (footer_at file + 24)) _ u blocks.next in
    record {
      long = leb-true 40 (length file) (demanded _ _ whole.x whole.now);
      fits = eqb-true (footer_number 0 file + footer_number 1 file) (footer_at file) (demanded _ _ size.x size.now);
      some = leb-true 1 (footer_number 2 file) (demanded _ _ blocks.x blocks.now);
      count = eqb-true (footer_number 3 file) entries (demanded _ _ count.x count.now);
      name = same_keys (drop (footer_at file + 32) file) format_name (demanded _ _ u count.next);
    }

-- a number of 8 bytes in front of what is left
piece : (file : List ℕ) (at next : ℕ) → list_all is_byte file ≡ true → at + 8 ≤ length file → next ≡ at + 8 → drop at file ≡ big_bytes 8 (big_number 8 (drop at file)) ++ drop next file
piece file at next bytes fits is =
    sym (take-append-drop 8 (drop at file))
    ∙ ap (λ (x : List ℕ). x ++ drop 8 (drop at file)) (sym (number_again 8 (drop at file) (omega (arith, fits, length-drop at file)) (bytes_behind at file bytes)))
    ∙ ap (λ (x : List ℕ). big_bytes 8 (big_number 8 (drop at file)) ++ x) (drop-drop 8 at file ∙ ap (λ (n : ℕ). drop n file) (sym is))

footer_only : (entries : ℕ) (file : List ℕ) → list_all is_byte file ≡ true → IsFooterOf entries file → drop (footer_at file) file ≡ footer_bytes (footer_number 0 file) (footer_number 1 file) (footer_number 2 file) entries
footer_only entries file bytes f =
    let room : footer_at file + 40 ≡ length file = omega (arith, f.long) in
    let start : footer_at file ≡ footer_at file + 8 * 0 = omega arith in
    let p0 = piece file (footer_at file + 8 * 0) (footer_at file + 8 * 1) bytes (omega (arith, room)) (omega arith) in
    let p1 = piece file (footer_at file + 8 * 1) (footer_at file + 8 * 2) bytes (omega (arith, room)) (omega arith) in
    let p2 = piece file (footer_at file + 8 * 2) (footer_at file + 8 * 3) bytes (omega (arith, room)) (omega arith) in
    let p3 = piece file (footer_at file + 8 * 3) (footer_at file + 32) bytes (omega (arith, room)) (omega arith) in
    let last : drop (footer_at file + 8 * 3) file ≡ big_bytes 8 entries ++ format_name =
    p3 ∙ ap (λ (x : List ℕ). big_bytes 8 (footer_number 3 file) ++ x) f.name ∙ ap (λ (n : ℕ). big_bytes 8 n ++ format_name) f.count in
    ap (λ (n : ℕ). drop n file) start
    ∙ p0 ∙ ap (λ (x : List ℕ). big_bytes 8 (footer_number 0 file) ++ x)
    (p1 ∙ ap (λ (x : List ℕ). big_bytes 8 (footer_number 1 file) ++ x)
    (p2 ∙ ap (λ (x : List ℕ). big_bytes 8 (footer_number 2 file) ++ x) last))

-- ---- the whole

counted : (end : ℕ) (r : Result Index ℕ) (x : Index) → counted_to end r ≡ Ok x → r ≡ Ok x
counted end (Ok y) x is = is
counted end (Err left) x is = cc

pub only_written : (entries : ℕ) (file : List ℕ) (vs : List Version) → list_all is_byte file ≡ true → IsRunFile entries file vs → (vss : List (List Version)) × IsRunOf file vs vss
only_written entries file vs bytes is =
    let structure = bound (structure_in entries file) _ vs is in
    let all = bound (all_versions_in file structure.x.blocks) _ vs structure.next in
    let same = bound (key_demand structure.x.last (last_key all.x) (footer_number 0 file - last_size all.x)) _ vs all.next in
    let number = bound (demand (nat_eq (length all.x) entries) (footer_at file + 24)) _ vs same.next in
    let these : all.x ≡ vs = ok_same (Ok all.x) all.x vs refl number.next in
    let footer = bound (footer_in entries file) _ structure.x structure.now in
    let f = footer_of entries file footer.x footer.now in
    let index = index_only (footer_number 0 file) (footer_number 2 file) (take (footer_number 1 file) (drop (footer_number 0 file) file)) structure.x f.some
    (bytes_front (footer_number 1 file) (drop (footer_number 0 file) file) (bytes_behind (footer_number 0 file) file bytes))
    (counted (footer_at file) (index_in (footer_number 0 file) (footer_number 2 file) (take (footer_number 1 file) (drop (footer_number 0 file) file))) structure.x footer.next) in
    let room : footer_at file + 40 ≡ length file = omega (arith, f.long) in
    let blocks = blocks_only file (footer_number 0 file) 0 structure.x.blocks all.x bytes (omega (arith, room, f.fits)) index.lie index.small all.now in
    let zero_less : footer_number 0 file ≡ footer_number 0 file - 0 = omega arith in
    let front : take (footer_number 0 file) file ≡ blocks_bytes blocks.lists = ap (λ (n : ℕ). take n file) zero_less ∙ blocks.bytes in
    let last : structure.x.last ≡ last_key (joined blocks.lists) = sym (key_held structure.x.last (last_key all.x) _ same.x same.now) ∙ ap last_key blocks.list in
    let middle : take (footer_number 1 file) (drop (footer_number 0 file) file) ≡ index_bytes blocks.lists =
    index.whole
    ∙ ap (λ (x : List ℕ). x ++ key_bytes structure.x.last) blocks.index
    ∙ ap (λ (k : List ℕ). all_indexed_bytes 0 blocks.lists ++ key_bytes k) last in
    let tail = footer_only entries file bytes f in
    let place : footer_number 0 file ≡ length (blocks_bytes blocks.lists) = sym (length-take-le (footer_number 0 file) file (omega (arith, room, f.fits))) ∙ ap length front in
    let size : footer_number 1 file ≡ length (index_bytes blocks.lists) = sym (length-take-le (footer_number 1 file) (drop (footer_number 0 file) file) (omega (arith, room, f.fits, length-drop (footer_number 0 file) file))) ∙ ap length middle in
    let count : footer_number 2 file ≡ length blocks.lists = sym index.count ∙ blocks.count in
    let versions : entries ≡ length (joined blocks.lists) = sym (eqb-true (length all.x) entries (demanded _ _ number.x number.now)) ∙ ap length blocks.list in
    let footer_is : drop (footer_at file) file ≡ footer_bytes (length (blocks_bytes blocks.lists)) (length (index_bytes blocks.lists)) (length blocks.lists) (length (joined blocks.lists)) =
    tail
    ∙ ap (λ (n : ℕ). footer_bytes n (footer_number 1 file) (footer_number 2 file) entries) place
    ∙ ap (λ (n : ℕ). footer_bytes (length (blocks_bytes blocks.lists)) n (footer_number 2 file) entries) size
    ∙ ap (λ (n : ℕ). footer_bytes (length (blocks_bytes blocks.lists)) (length (index_bytes blocks.lists)) n entries) count
    ∙ ap (footer_bytes (length (blocks_bytes blocks.lists)) (length (index_bytes blocks.lists)) (length blocks.lists)) versions in
    let behind : drop (footer_number 0 file) file ≡ index_bytes blocks.lists ++ footer_bytes (length (blocks_bytes blocks.lists)) (length (index_bytes blocks.lists)) (length blocks.lists) (length (joined blocks.lists)) =
    sym (take-append-drop (footer_number 1 file) (drop (footer_number 0 file) file))
    ∙ ap (λ (x : List ℕ). x ++ drop (footer_number 1 file) (drop (footer_number 0 file) file)) middle
    ∙ ap (λ (x : List ℕ). index_bytes blocks.lists ++ x) (drop-drop (footer_number 1 file) (footer_number 0 file) file ∙ ap (λ (n : ℕ). drop n file) f.fits ∙ footer_is) in (
      blocks.lists,
      record {
        some = omega (arith, count, f.some);
        each = blocks.each;
        last = omega (arith, ap length last, index.last);
        list = sym these ∙ blocks.list;
        bytes = sym (take-append-drop (footer_number 0 file) file)
            ∙ ap (λ (x : List ℕ). x ++ drop (footer_number 0 file) file) front
            ∙ ap (λ (x : List ℕ). blocks_bytes blocks.lists ++ x) behind;
      },
    )
