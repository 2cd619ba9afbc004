-- What is written reads back.
use Rattle.std.proofs.Common.{◌≡◌, ℕ, ◌+◌, ◌-◌, ◌^◌, ◌<◌, ◌≤◌, zero, suc, List, [], ◌∷◌, ◌++◌, length, refl, ap, sym, ◌∙◌, arith, cond, append_assoc, length-append, Result, Ok, Err, OnOk}
use Rattle.std.proofs.lemmas.Bool.{lt-ltb, le-ltb, eq-eqb}
use Rattle.byteorder.specs.Endian.{big_bytes}
use Rattle.byteorder.specs.Numbers.{length-bytes_high_first}
use Rattle.mr_manifest.specs.declared.edit.Edit.{Edit}
use Rattle.mr_manifest.specs.declared.edit.Edit.TheVariants.{RunAdded, RunDropped, LiveLog, BinlogPlace, NextFile, LastSequence, Format}
use Rattle.mr_manifest.specs.Fields.{◌>>=◌, number_in}
use Rattle.mr_manifest.specs.Edits.{edit_bytes, edits_bytes, edit_size, edits_size, level_in, commits_in, below_in, edit_in, in_front, edits_in, offence_in, read_edits, EditFits, AllFit}
use Rattle.mr_manifest.proofs.FieldLaws.{number_back, then_ok}

eight : (x : ℕ) → length (big_bytes 8 x) ≡ 8
eight x = length-bytes_high_first 8 x

four : (x : ℕ) → length (big_bytes 4 x) ≡ 4
four x = length-bytes_high_first 4 x

pub size_is : (e : Edit) → length (edit_bytes e) ≡ edit_size e
size_is (RunAdded family level file long entries) =
    omega (
      arith,
      four family,
      eight file,
      eight long,
      eight entries,
      length-append (big_bytes 4 family) (level ∷ (big_bytes 8 file ++ (big_bytes 8 long ++ big_bytes 8 entries))),
      length-append (big_bytes 8 file) (big_bytes 8 long ++ big_bytes 8 entries),
      length-append (big_bytes 8 long) (big_bytes 8 entries),
    )
size_is (RunDropped file) = omega (arith, eight file)
size_is (LiveLog file) = omega (arith, eight file)
size_is (BinlogPlace place commits) = omega (arith, eight place, eight commits, length-append (big_bytes 8 place) (big_bytes 8 commits))
size_is (NextFile file) = omega (arith, eight file)
size_is (LastSequence sequence) = omega (arith, eight sequence)
size_is (Format format) = omega (arith, four format)

pub some_bytes : (e : Edit) → 0 < edit_size e
some_bytes (RunAdded family level file long entries) = omega arith
some_bytes (RunDropped file) = omega arith
some_bytes (LiveLog file) = omega arith
some_bytes (BinlogPlace place commits) = omega arith
some_bytes (NextFile file) = omega arith
some_bytes (LastSequence sequence) = omega arith
some_bytes (Format format) = omega arith

pub sizes_are : (es : List Edit) → length (edits_bytes es) ≡ edits_size es
sizes_are [] = refl
sizes_are (e ∷ es) = omega (arith, length-append (edit_bytes e) (edits_bytes es), size_is e, sizes_are es)

spread : (a b c d e r : List ℕ) → (a ++ (b ++ (c ++ (d ++ e)))) ++ r ≡ a ++ (b ++ (c ++ (d ++ (e ++ r))))
spread a b c d e r = simp append_assoc

level_back : (level : ℕ) (rest : List ℕ) → level ≤ 4 → level_in (level ∷ rest) ≡ Ok (level, rest)
level_back level rest fits = ap (λ t. cond t (Ok (level, rest)) (Err (length (level ∷ rest)))) (lt-ltb level 5 (omega (arith, fits)))

commits_back : (place commits : ℕ) (rest : List ℕ) → commits < 256 ^ 8 → commits ≤ place → commits_in place (big_bytes 8 commits ++ rest) ≡ Ok (commits, rest)
commits_back place commits rest small fits =
    then_ok (number_in 8 (big_bytes 8 commits ++ rest)) _ (commits, rest) (number_back 8 commits rest small)
    ∙ ap (λ t. cond t (Err (length (big_bytes 8 commits ++ rest))) (Ok (commits, rest))) (le-ltb place commits fits)

below_back : (bound x : ℕ) (rest : List ℕ) → x < 256 ^ 8 → x < bound → below_in bound (big_bytes 8 x ++ rest) ≡ Ok (x, rest)
below_back bound x rest small fits =
    then_ok (number_in 8 (big_bytes 8 x ++ rest)) _ (x, rest) (number_back 8 x rest small)
    ∙ ap (λ t. cond t (Ok (x, rest)) (Err (length (big_bytes 8 x ++ rest)))) (lt-ltb x bound fits)

edit_back : (e : Edit) (rest : List ℕ) → EditFits e → edit_in (edit_bytes e ++ rest) ≡ Ok (e, rest)
edit_back (RunAdded family level file long entries) rest fits =
    let r4 = big_bytes 8 entries ++ rest in
    let r3 = big_bytes 8 long ++ r4 in
    let r2 = big_bytes 8 file ++ r3 in
    let r1 = level ∷ r2 in
    ap (λ (l : List ℕ). edit_in (1 ∷ l)) (spread (big_bytes 4 family) (level ∷ []) (big_bytes 8 file) (big_bytes 8 long) (big_bytes 8 entries) rest)
    ∙ then_ok (number_in 4 (big_bytes 4 family ++ r1)) _ (family, r1) (number_back 4 family r1 (omega (arith, fits.family)))
    ∙ then_ok (level_in r1) _ (level, r2) (level_back level r2 fits.level)
    ∙ then_ok (number_in 8 r2) _ (file, r3) (number_back 8 file r3 (omega (arith, fits.file)))
    ∙ then_ok (number_in 8 r3) _ (long, r4) (number_back 8 long r4 (omega (arith, fits.long)))
    ∙ then_ok (number_in 8 r4) _ (entries, rest) (number_back 8 entries rest (omega (arith, fits.entries)))
edit_back (RunDropped file) rest fits = then_ok (number_in 8 (big_bytes 8 file ++ rest)) _ (file, rest) (number_back 8 file rest (omega (arith, fits)))
edit_back (LiveLog file) rest fits = then_ok (number_in 8 (big_bytes 8 file ++ rest)) _ (file, rest) (number_back 8 file rest (omega (arith, fits)))
edit_back (BinlogPlace place commits) rest fits =
    let r1 = big_bytes 8 commits ++ rest in
    ap (λ (l : List ℕ). edit_in (4 ∷ l)) (append_assoc (big_bytes 8 place) (big_bytes 8 commits) rest)
    ∙ then_ok (number_in 8 (big_bytes 8 place ++ r1)) _ (place, r1) (number_back 8 place r1 (omega (arith, fits.0)))
    ∙ then_ok (commits_in place r1) _ (commits, rest) (commits_back place commits rest (omega (arith, fits.0, fits.1)) fits.1)
edit_back (NextFile file) rest fits = then_ok (below_in (2 ^ 63 + 1) (big_bytes 8 file ++ rest)) _ (file, rest) (below_back (2 ^ 63 + 1) file rest (omega (arith, fits)) (omega (arith, fits)))
edit_back (LastSequence sequence) rest fits = then_ok (below_in (2 ^ 63) (big_bytes 8 sequence ++ rest)) _ (sequence, rest) (below_back (2 ^ 63) sequence rest (omega (arith, fits)) fits)
edit_back (Format format) rest fits =
    then_ok (number_in 4 (big_bytes 4 format ++ rest)) _ (format, rest) (number_back 4 format rest (omega (arith, fits)))
    ∙ ap (λ t. cond t (Ok (Format format, rest)) (Err (length (big_bytes 4 format ++ rest)))) (eq-eqb format 1 fits)

one_in : (n : ℕ) (bytes : List ℕ) → 0 < length bytes → length bytes ≤ n → edits_in n bytes ≡ (edit_in bytes >>= λ one. in_front one.0 (edits_in (n - 1) one.1))
one_in n [] some le = absurd (omega (arith, some))
one_in zero (b ∷ bytes) some le = absurd (omega (arith, le))
one_in (suc n) (b ∷ bytes) some le =
    let less : n ≡ suc n - 1 = omega arith in
    ap (λ m. edit_in (b ∷ bytes) >>= λ one. in_front one.0 (edits_in m one.1)) less

no_more : (n : ℕ) → edits_in n [] ≡ Ok []
no_more zero = refl
no_more (suc n) = refl

edits_back : (es : List Edit) (n : ℕ) → length (edits_bytes es) ≤ n → AllFit es → edits_in n (edits_bytes es) ≡ Ok es
edits_back [] n le fits = no_more n
edits_back (e ∷ es) n le fits =
    let long = length-append (edit_bytes e) (edits_bytes es) in
    one_in n (edit_bytes e ++ edits_bytes es) (omega (arith, long, size_is e, some_bytes e)) le
    ∙ then_ok (edit_in (edit_bytes e ++ edits_bytes es)) _ (e, edits_bytes es) (edit_back e (edits_bytes es) fits.0)
    ∙ ap (λ r. in_front e r) (edits_back es (n - 1) (omega (arith, le, long, size_is e, some_bytes e)) fits.1)

pub reads_back : (es : List Edit) → AllFit es → read_edits (edits_bytes es) ≡ Ok es
reads_back es fits = ap (λ r. offence_in (edits_bytes es) r) (edits_back es (length (edits_bytes es)) (omega arith) fits)

-- what was written in one piece behind another, and in one behind two others
pub one_front : {T E : Type 0} (r : Result T E) (x y w one more whole : List ℕ) → y ≡ x ++ one → OnOk r (w ≡ y ++ more) → whole ≡ one ++ more → OnOk r (w ≡ x ++ whole)
one_front (Err e) x y w one more whole a h is = h
one_front (Ok u) x y w one more whole a h is = h ∙ ap (λ (s : List ℕ). s ++ more) a ∙ append_assoc x one more ∙ ap (λ (s : List ℕ). x ++ s) (sym is)

pub two_fronts : {T E : Type 0} (r : Result T E) (x y z w one two more whole : List ℕ) → y ≡ x ++ one → z ≡ y ++ two → OnOk r (w ≡ z ++ more) → whole ≡ one ++ (two ++ more) → OnOk r (w ≡ x ++ whole)
two_fronts (Err e) x y z w one two more whole a b h is = h
two_fronts (Ok u) x y z w one two more whole a b h is =
    h ∙ ap (λ (s : List ℕ). s ++ more) (b ∙ ap (λ (s : List ℕ). s ++ two) a) ∙ append_assoc (x ++ one) two more ∙ append_assoc x one (two ++ more) ∙ ap (λ (s : List ℕ). x ++ s) (sym is)
