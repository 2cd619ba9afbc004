-- What is written reads back.
use Rattle.std.proofs.Common.{◌≡◌, ℕ, ◌+◌, ◌^◌, ◌<◌, zero, suc, List, [], ◌∷◌, ◌++◌, length, take, get_or, refl, ap, sym, ◌∙◌, subst, arith, add-one, Bool, true, false, cond, append_assoc, Result, Ok, Err, OnOk, Option, Some, None, is_some}
use Rattle.std.specs.List.{AllByRecursion}
use Rattle.std.proofs.lemmas.Bool.{lt-ltb}
use Rattle.byteorder.specs.Endian.{big_bytes}
use Rattle.mr_wal.specs.declared.operation.Operation.{Operation}
use Rattle.mr_wal.specs.declared.record.WalBody.{WalBody}
use Rattle.mr_wal.specs.declared.record.WalBody.TheVariants.{Prepare, Plain, Decided}
use Rattle.mr_wal.specs.declared.record.WalRecord.{WalRecord}
use Rattle.mr_wal.specs.Fields.{number_in, bytes_in}
use Rattle.mr_wal.specs.Operations.{kind_byte, put_bytes, operation_bytes, kind_in, value_in, put_in, operation_in}
use Rattle.mr_wal.specs.EngineLog.{operations_bytes, batch_bytes, body_bytes, record_bytes, sequence_in, operations_in, batch_in, body_in, with_verdict, offence_in, read_record}
use Rattle.mr_wal.specs.Fitting.{PutFits, OperationFits, BatchFits, BodyFits, RecordFits}
use Rattle.mr_wal.proofs.FieldLaws.{number_back, bytes_back, then_ok}

-- one operation more is written
pub operations_take : (os : List Operation) (i : ℕ) (o : Operation) → i < length os → o ≡ get_or os i o → operations_bytes (take (i + 1) os) ≡ operations_bytes (take i os) ++ operation_bytes o
operations_take os i o lt is = ap (λ (m : ℕ). operations_bytes (take m os)) (add-one i) ∙ go os i lt is
  where
    no_end : (xs : List ℕ) → xs ++ [] ≡ xs
    no_end [] = refl
    no_end (x ∷ xs) = ap (λ ys. x ∷ ys) (no_end xs)

    go : (os : List Operation) (i : ℕ) → i < length os → o ≡ get_or os i o → operations_bytes (take (suc i) os) ≡ operations_bytes (take i os) ++ operation_bytes o
    go [] i lt is = absurd (omega arith)
    go (p ∷ os) zero lt is = no_end (operation_bytes p) ∙ ap operation_bytes (sym is)
    go (p ∷ os) (suc i) lt is = ap (λ (x : List ℕ). operation_bytes p ++ x) (go os i (omega arith) is) ∙ sym (append_assoc (operation_bytes p) (operations_bytes (take i os)) (operation_bytes o))

-- one operation more fits
pub fitting_take : (os : List Operation) (i : ℕ) (o : Operation) → i < length os → o ≡ get_or os i o → AllByRecursion OperationFits (take i os) → OperationFits o → AllByRecursion OperationFits (take (i + 1) os)
fitting_take os i o lt is all fits = subst (λ (m : ℕ). AllByRecursion OperationFits (take m os)) (sym (add-one i)) (go os i lt is all)
  where
    go : (os : List Operation) (i : ℕ) → i < length os → o ≡ get_or os i o → AllByRecursion OperationFits (take i os) → AllByRecursion OperationFits (take (suc i) os)
    go [] i lt is all = absurd (omega arith)
    go (p ∷ os) zero lt is all = (subst OperationFits is fits, tt)
    go (p ∷ os) (suc i) lt is all = (all.0, go os i (omega arith) is all.1)

-- what was written in one piece behind another, and in one behind two others
pub one_front : {T E : Type 0} (r : Result T E) (x y w one more whole : List ℕ) → y ≡ x ++ one → OnOk r (w ≡ y ++ more) → whole ≡ one ++ more → OnOk r (w ≡ x ++ whole)
one_front (Err e) x y w one more whole a h is = h
one_front (Ok u) x y w one more whole a h is = h ∙ ap (λ (s : List ℕ). s ++ more) a ∙ append_assoc x one more ∙ ap (λ (s : List ℕ). x ++ s) (sym is)

pub two_fronts : {T E : Type 0} (r : Result T E) (x y z w one two more whole : List ℕ) → y ≡ x ++ one → z ≡ y ++ two → OnOk r (w ≡ z ++ more) → whole ≡ one ++ (two ++ more) → OnOk r (w ≡ x ++ whole)
two_fronts (Err e) x y z w one two more whole a b h is = h
two_fronts (Ok u) x y z w one two more whole a b h is =
    h ∙ ap (λ (s : List ℕ). s ++ more) (b ∙ ap (λ (s : List ℕ). s ++ two) a) ∙ append_assoc (x ++ one) two more ∙ append_assoc x one (two ++ more) ∙ ap (λ (s : List ℕ). x ++ s) (sym is)

kind_back : (put : Bool) (rest : List ℕ) → kind_in ((kind_byte put ∷ []) ++ rest) ≡ Ok (put, rest)
kind_back true rest = refl
kind_back false rest = refl

put_back : (put : Option (List ℕ)) (rest : List ℕ) → PutFits put → put_in (is_some put) (put_bytes put ++ rest) ≡ Ok (put, rest)
put_back None rest fits = refl
put_back (Some value) rest fits =
    ap value_in (append_assoc (big_bytes 4 (length value)) value rest)
    ∙ then_ok (number_in 4 (big_bytes 4 (length value) ++ (value ++ rest))) _ (length value, value ++ rest) (number_back 4 (length value) (value ++ rest) (omega (arith, fits)))
    ∙ then_ok (bytes_in (length value) (value ++ rest)) _ (value, rest) (bytes_back value rest)

spread : (a b c d e r : List ℕ) → (a ++ (b ++ (c ++ (d ++ e)))) ++ r ≡ a ++ (b ++ (c ++ (d ++ (e ++ r))))
spread a b c d e r = simp append_assoc

operation_back : (o : Operation) (rest : List ℕ) → OperationFits o → operation_in (operation_bytes o ++ rest) ≡ Ok (o, rest)
operation_back o rest fits =
    let r5 = put_bytes o.put ++ rest in
    let r4 = o.key ++ (put_bytes o.put ++ rest) in
    let r3 = big_bytes 4 (length o.key) ++ (o.key ++ (put_bytes o.put ++ rest)) in
    let r2 = (kind_byte (is_some o.put) ∷ []) ++ (big_bytes 4 (length o.key) ++ (o.key ++ (put_bytes o.put ++ rest))) in
    ap operation_in (spread (big_bytes 4 o.family) (kind_byte (is_some o.put) ∷ []) (big_bytes 4 (length o.key)) o.key (put_bytes o.put) rest)
    ∙ then_ok (number_in 4 (big_bytes 4 o.family ++ r2)) _ (o.family, r2) (number_back 4 o.family r2 (omega (arith, fits.family)))
    ∙ then_ok (kind_in ((kind_byte (is_some o.put) ∷ []) ++ r3)) _ (is_some o.put, r3) (kind_back (is_some o.put) r3)
    ∙ then_ok (number_in 4 (big_bytes 4 (length o.key) ++ r4)) _ (length o.key, r4) (number_back 4 (length o.key) r4 (omega (arith, fits.key)))
    ∙ then_ok (bytes_in (length o.key) (o.key ++ r5)) _ (o.key, r5) (bytes_back o.key r5)
    ∙ then_ok (put_in (is_some o.put) (put_bytes o.put ++ rest)) _ (o.put, rest) (put_back o.put rest fits.put)

operations_back : (os : List Operation) (rest : List ℕ) → AllByRecursion OperationFits os → operations_in (length os) (operations_bytes os ++ rest) ≡ Ok (os, rest)
operations_back [] rest all = refl
operations_back (o ∷ os) rest all =
    ap (operations_in (suc (length os))) (append_assoc (operation_bytes o) (operations_bytes os) rest)
    ∙ then_ok (operation_in (operation_bytes o ++ (operations_bytes os ++ rest))) _ (o, operations_bytes os ++ rest) (operation_back o (operations_bytes os ++ rest) all.0)
    ∙ then_ok (operations_in (length os) (operations_bytes os ++ rest)) _ (os, rest) (operations_back os rest all.1)

batch_back : (os : List Operation) → BatchFits os → batch_in (batch_bytes os) ≡ Ok (os, [])
batch_back os fits =
    then_ok (number_in 4 (big_bytes 4 (length os) ++ operations_bytes os)) _ (length os, operations_bytes os) (number_back 4 (length os) (operations_bytes os) (omega (arith, fits.count)))
    ∙ ap (operations_in (length os)) (sym (no_end (operations_bytes os)))
    ∙ operations_back os [] fits.each
  where
    no_end : (xs : List ℕ) → xs ++ [] ≡ xs
    no_end [] = refl
    no_end (x ∷ xs) = ap (λ ys. x ∷ ys) (no_end xs)

sequence_back : (n : ℕ) (rest : List ℕ) → n < 2 ^ 63 → sequence_in (big_bytes 8 n ++ rest) ≡ Ok (n, rest)
sequence_back n rest lt =
    then_ok (number_in 8 (big_bytes 8 n ++ rest)) _ (n, rest) (number_back 8 n rest (omega (arith, lt)))
    ∙ ap (λ (t : Bool). cond t (Ok (n, rest)) (Err (length (big_bytes 8 n ++ rest)))) (lt-ltb n (2 ^ 63) lt)

body_back : (b : WalBody) → BodyFits b → body_in (body_bytes b) ≡ Ok b
body_back (Prepare k sequence batch) fits =
    then_ok (number_in 8 (big_bytes 8 k ++ (big_bytes 8 sequence ++ batch_bytes batch))) _ (k, big_bytes 8 sequence ++ batch_bytes batch) (number_back 8 k (big_bytes 8 sequence ++ batch_bytes batch) (omega (arith, fits.0)))
    ∙ then_ok (sequence_in (big_bytes 8 sequence ++ batch_bytes batch)) _ (sequence, batch_bytes batch) (sequence_back sequence (batch_bytes batch) fits.1)
    ∙ then_ok (batch_in (batch_bytes batch)) _ (batch, []) (batch_back batch fits.2)
body_back (Plain sequence batch) fits =
    then_ok (sequence_in (big_bytes 8 sequence ++ batch_bytes batch)) _ (sequence, batch_bytes batch) (sequence_back sequence (batch_bytes batch) fits.0)
    ∙ then_ok (batch_in (batch_bytes batch)) _ (batch, []) (batch_back batch fits.1)
body_back Decided fits = refl

pub record_back : (r : WalRecord) → RecordFits r → read_record (record_bytes r) ≡ Ok r
record_back r fits =
    ap (offence_in (record_bytes r)) (
    ap (λ (t : Bool). cond t (with_verdict r.verdict (body_in (body_bytes r.body))) (Err (length (record_bytes r)))) (lt-ltb r.verdict 3 fits.verdict)
    ∙ ap (with_verdict r.verdict) (body_back r.body fits.body))
