-- A field in front of a list of bytes is read back.
use Rattle.std.proofs.Common.{◌≡◌, ℕ, ◌+◌, ◌^◌, ◌<◌, List, [], ◌∷◌, ◌++◌, length, take, drop, refl, ap, sym, ◌∙◌, arith, Bool, true, false, cond, nat_lt, nat_le, nat_eq, length-append, Result, Ok, Err}
use Rattle.std.specs.Cmp.Lexicographic.{pointwise}
use Rattle.std.proofs.lemmas.Bool.{le-ltb, eq-eqb, le-leb}
use Rattle.std.proofs.lemmas.Cmp.{nat_list_eq_equiv}
use Rattle.std.proofs.Math.Seq.{drop-append_seam, take-append_seam}
use Rattle.byteorder.specs.Endian.{big_bytes, big_number}
use Rattle.byteorder.specs.Numbers.{big_number-reads_back, length-bytes_high_first}
use Rattle.mr_block.specs.Fields.{◌>>=◌, number_in, bytes_in}
use Rattle.mr_block.specs.Block.{key_in}
use Rattle.mr_run_file.specs.Format.{key_bytes}
use Rattle.mr_run_file.specs.Reading.{demand, key_demand}

pub number_back : (n x : ℕ) (rest : List ℕ) → x < 256 ^ n → number_in n (big_bytes n x ++ rest) ≡ Ok (x, rest)
number_back n x rest l =
    let size : length (big_bytes n x) ≡ n = length-bytes_high_first n x in
    let room : nat_lt (length (big_bytes n x ++ rest)) n ≡ false = le-ltb (length (big_bytes n x ++ rest)) n (omega (arith, length-append (big_bytes n x) rest, size)) in
    let after : drop n (big_bytes n x ++ rest) ≡ rest = ap (λ k. drop k (big_bytes n x ++ rest)) (sym size) ∙ drop-append_seam (big_bytes n x) rest in
    ap (λ t. cond t (Err (length (big_bytes n x ++ rest))) (Ok (big_number n (big_bytes n x ++ rest), drop n (big_bytes n x ++ rest)))) room
    ∙ ap (λ (y : ℕ). Ok (y, drop n (big_bytes n x ++ rest))) (big_number-reads_back n x rest l)
    ∙ ap (λ (y : List ℕ). Ok (x, y)) after

pub bytes_back : (xs rest : List ℕ) → bytes_in (length xs) (xs ++ rest) ≡ Ok (xs, rest)
bytes_back xs rest =
    let room : nat_lt (length (xs ++ rest)) (length xs) ≡ false = le-ltb (length (xs ++ rest)) (length xs) (omega (arith, length-append xs rest)) in
    ap (λ t. cond t (Err (length (xs ++ rest))) (Ok (take (length xs) (xs ++ rest), drop (length xs) (xs ++ rest)))) room
    ∙ ap (λ (y : List ℕ). Ok (y, drop (length xs) (xs ++ rest))) (take-append_seam xs rest)
    ∙ ap (λ (y : List ℕ). Ok (xs, y)) (drop-append_seam xs rest)

pub then_ok : {X Y : Type 0} (x : Result X ℕ) (f : X → Result Y ℕ) (z : X) → x ≡ Ok z → (x >>= f) ≡ f z
then_ok x f z e = ap (λ (w : Result _ ℕ). w >>= f) e

pub key_back : (key rest : List ℕ) → length key < 2 ^ 32 → key_in (big_bytes 4 (length key) ++ (key ++ rest)) ≡ Ok (key, rest)
key_back key rest small =
    then_ok (number_in 4 (big_bytes 4 (length key) ++ (key ++ rest))) _ (length key, key ++ rest) (number_back 4 (length key) (key ++ rest) (omega (arith, small)))
    ∙ bytes_back key rest

-- what holds is no offence
pub holds : (b : Bool) (at : ℕ) → b ≡ true → demand b at ≡ Ok tt
holds b at e = ap (λ t. cond t (Ok tt) (Err at)) e

pub same_key : (xs : List ℕ) → pointwise nat_eq xs xs ≡ true
same_key xs = nat_list_eq_equiv.refl xs

pub key_holds : (key : List ℕ) (at : ℕ) → key_demand key key at ≡ Ok tt
key_holds key at =
    ap (λ t. cond t (demand (pointwise nat_eq key key) (at + 4)) (Err at)) (eq-eqb (length key) (length key) refl) ∙ holds (pointwise nat_eq key key) (at + 4) (same_key key)
