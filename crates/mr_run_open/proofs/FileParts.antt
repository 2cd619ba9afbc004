-- What is read of a file's structure is its structure.
use Rattle.std.proofs.Common.{◌≡◌, ℕ, ◌+◌, ◌*◌, ◌-◌, ◌≤◌, List, length, take, drop, min, ap, sym, ◌∙◌, arith, Bool, true, nat_le, length-drop, Result, Ok, Err}
use Rattle.std.proofs.lemmas.Bool.{eq-eqb, le-leb}
use Rattle.std.proofs.lemmas.List.{drop-drop, take_all}
use Rattle.byteorder.specs.Endian.{big_number}
use Rattle.mr_block.specs.Fields.{◌>>=◌}
use Rattle.mr_run_file.specs.Reading.{demand, footer_at, footer_number, footer_in, index_in, counted_to, structure_in, recorded_in}
use Rattle.mr_run_open.specs.Parts.{footer_of}
use Rattle.mr_run_open.specs.Runs.{IsFooter}

number_same : (n : ℕ) (file footer : List ℕ) → footer ≡ drop (footer_at file) file → big_number 8 (drop (8 * n) footer) ≡ footer_number n file
number_same n file footer is = ap (λ (f : List ℕ). big_number 8 (drop (8 * n) f)) is ∙ ap (big_number 8) (drop-drop (8 * n) (footer_at file) file)

-- the fields of a footer, as the file has them
pub footer_same : (entries : ℕ) (file footer : List ℕ) → 40 ≤ length file → footer ≡ drop (footer_at file) file → footer_of (footer_at file) entries footer ≡ footer_in entries file
footer_same entries file footer long is =
    let e0 : big_number 8 footer ≡ footer_number 0 file = number_same 0 file footer is in
    let e1 : big_number 8 (drop 8 footer) ≡ footer_number 1 file = number_same 1 file footer is in
    let e2 : big_number 8 (drop 16 footer) ≡ footer_number 2 file = number_same 2 file footer is in
    let e3 : big_number 8 (drop 24 footer) ≡ footer_number 3 file = number_same 3 file footer is in
    let e4 : drop 32 footer ≡ drop (footer_at file + 32) file = ap (drop 32) is ∙ drop-drop 32 (footer_at file) file in
    let room : nat_le 40 (length file) ≡ true = le-leb 40 (length file) long in
    rw (e0, e1, e2, e3, e4, room)

-- an offence behind a length that is the recorded one
pub whole_then : (size entries : ℕ) (file : List ℕ) → length file ≡ size → recorded_in size entries file ≡ structure_in entries file
whole_then size entries file is = ap (λ (b : Bool). demand b (min (length file) size) >>= (λ whole. structure_in entries file)) (eq-eqb (length file) size is)

pub footer_read : (entries size n : ℕ) (file out : List ℕ) → 40 ≤ size → length file ≡ size → length out ≡ 40 → n ≡ min 40 (length file - (size - 40)) → take n out ≡ take n (drop (size - 40) file) → out ≡ drop (footer_at file) file
footer_read entries size n file out room long whole count read =
    let all : n ≡ 40 = omega (arith, room, long, count) in
    sym (take_all n out (omega (arith, all, whole))) ∙ read ∙ take_all n (drop (size - 40) file) (omega (arith, all, long, room, length-drop (size - 40) file)) ∙ ap (λ (k : ℕ). drop (k - 40) file) (sym long)

pub is_footer : (entries size : ℕ) (file out : List ℕ) (place index blocks : ℕ) → 40 ≤ size → length file ≡ size → out ≡ drop (footer_at file) file → footer_of (size - 40) entries out ≡ Ok tt →
    place ≡ big_number 8 out → index ≡ big_number 8 (drop 8 out) → blocks ≡ big_number 8 (drop 16 out) → IsFooter entries file place index blocks
is_footer entries size file out place index blocks room long is judged at size_is count = record {
  fields = sym (footer_same entries file out (omega (arith, room, long)) is) ∙ ap (λ (k : ℕ). footer_of (k - 40) entries out) long ∙ judged;
  place_is = at ∙ number_same 0 file out is;
  size_is = size_is ∙ number_same 1 file out is;
  blocks_are = count ∙ number_same 2 file out is;
}

pub footer_offence : (entries size at : ℕ) (file out : List ℕ) → 40 ≤ size → length file ≡ size → out ≡ drop (footer_at file) file → footer_of (size - 40) entries out ≡ Err at → recorded_in size entries file ≡ Err at
footer_offence entries size at file out room long is judged =
    let no : footer_in entries file ≡ Err at = sym (footer_same entries file out (omega (arith, room, long)) is) ∙ ap (λ (k : ℕ). footer_of (k - 40) entries out) long ∙ judged in
    whole_then size entries file long ∙ ap (λ (r : Result (Unit {0}) ℕ). r >>= (λ footer. counted_to (footer_at file) (index_in (footer_number 0 file) (footer_number 2 file) (take (footer_number 1 file) (drop (footer_number 0 file) file))))) no

-- the bytes of an index, as they are read
pub index_read : (entries size n place index blocks : ℕ) (file out : List ℕ) → place + index + 40 ≡ size → length file ≡ size → length out ≡ index → IsFooter entries file place index blocks → n ≡ min index (length file - place) → take n out ≡ take n (drop place file) →
    recorded_in size entries file ≡ counted_to (size - 40) (index_in place blocks out)
index_read entries size n place index blocks file out fits long whole footer count read =
    let all : n ≡ index = omega (arith, fits, long, count) in
    let same : out ≡ take index (drop place file) = sym (take_all n out (omega (arith, all, whole))) ∙ read ∙ ap (λ (k : ℕ). take k (drop place file)) all in
    whole_then size entries file long
    ∙ ap (λ (r : Result (Unit {0}) ℕ). r >>= (λ footer. counted_to (footer_at file) (index_in (footer_number 0 file) (footer_number 2 file) (take (footer_number 1 file) (drop (footer_number 0 file) file))))) footer.fields
    ∙ ap (λ (k : ℕ). counted_to (k - 40) (index_in (footer_number 0 file) (footer_number 2 file) (take (footer_number 1 file) (drop (footer_number 0 file) file)))) long
    ∙ ap (λ (k : ℕ). counted_to (size - 40) (index_in k (footer_number 2 file) (take (footer_number 1 file) (drop k file)))) (sym footer.place_is)
    ∙ ap (λ (k : ℕ). counted_to (size - 40) (index_in place k (take (footer_number 1 file) (drop place file)))) (sym footer.blocks_are)
    ∙ ap (λ (k : ℕ). counted_to (size - 40) (index_in place blocks (take k (drop place file)))) (sym footer.size_is)
    ∙ ap (λ (l : List ℕ). counted_to (size - 40) (index_in place blocks l)) (sym same)
