-- An operation that is read has its number and its lengths in their fields.
use Rattle.std.proofs.Common.{◌≡◌, ℕ, ◌^◌, ◌<◌, List, length, drop, refl, ap, sym, ◌∙◌, arith, Bool, true, false, cond, inl, inr, nat_lt, subst, Ok, Err, Option, Some, None}
use Rattle.std.specs.List.{list_all}
use Rattle.byteorder.specs.Endian.{big_number}
use Rattle.byteorder.specs.Numbers.{big_from-lt}
use Rattle.mr_wal.specs.declared.operation.Operation.{Operation}
use Rattle.mr_wal.specs.Fields.{is_byte, number_in, bytes_in}
use Rattle.mr_wal.specs.Operations.{kind_in, put_in, an_operation, operation_in}
use Rattle.mr_wal.specs.Fitting.{PutFits, OperationFits}
use Rattle.mr_wal.proofs.FieldLaws.{tells, bound, each_byte, number_only, bytes_only}
use Rattle.mr_wal.proofs.OperationLaws.{ok_same, kind_only}

pub number_fits : (n : ℕ) (s : List ℕ) (r : ℕ × List ℕ) → list_all is_byte s ≡ true → number_in n s ≡ Ok r → r.0 < 256 ^ n
number_fits n s r e is = elim (tells (nat_lt (length s) n)) [
  | inl y ↦ let no : Err (length s) ≡ Ok r = sym (ap (λ t. cond t (Err (length s)) (Ok (big_number n s, drop n s))) y) ∙ is in cc
  | inr f ↦
      let yes_r : Ok (big_number n s, drop n s) ≡ Ok r = sym (ap (λ t. cond t (Err (length s)) (Ok (big_number n s, drop n s))) f) ∙ is in
      let same : (big_number n s, drop n s) ≡ r = cc in
      subst (λ (p : ℕ × List ℕ). p.0 < 256 ^ n) same (big_from-lt 0 n s (each_byte s e))
]

put_fits : (put : Bool) (s : List ℕ) (r : Option (List ℕ) × List ℕ) → list_all is_byte s ≡ true → put_in put s ≡ Ok r → PutFits r.0
put_fits false s r e is = let same : (None, s) ≡ r = ok_same (Ok (None, s)) (None, s) r refl is in subst (λ (p : Option (List ℕ) × List ℕ). PutFits p.0) same tt
put_fits true s r e is =
    let size = bound (number_in 4 s) _ r is in
    let size_is = number_only 4 s size.0 e size.1 in
    let value = bound (bytes_in size.0.0 size.0.1) _ r size.2 in
    let value_is = bytes_only size.0.0 size.0.1 value.0 size_is.rest_bytes value.1 in
    let same : (Some value.0.0, value.0.1) ≡ r = ok_same (Ok (Some value.0.0, value.0.1)) (Some value.0.0, value.0.1) r refl value.2 in
    subst (λ (p : Option (List ℕ) × List ℕ). PutFits p.0) same (omega (arith, value_is.1, number_fits 4 s size.0 e size.1))

pub operation_fits : (s : List ℕ) (r : Operation × List ℕ) → list_all is_byte s ≡ true → operation_in s ≡ Ok r → OperationFits r.0
operation_fits s r e is =
    let family = bound (number_in 4 s) _ r is in
    let family_is = number_only 4 s family.0 e family.1 in
    let kind = bound (kind_in family.0.1) _ r family.2 in
    let kind_is = kind_only family.0.1 kind.0 family_is.rest_bytes kind.1 in
    let size = bound (number_in 4 kind.0.1) _ r kind.2 in
    let size_is = number_only 4 kind.0.1 size.0 kind_is.rest_bytes size.1 in
    let key = bound (bytes_in size.0.0 size.0.1) _ r size.2 in
    let key_is = bytes_only size.0.0 size.0.1 key.0 size_is.rest_bytes key.1 in
    let put = bound (put_in kind.0.0 key.0.1) _ r key.2 in
    let same : (an_operation family.0.0 key.0.0 put.0.0, put.0.1) ≡ r = ok_same (Ok (an_operation family.0.0 key.0.0 put.0.0, put.0.1)) (an_operation family.0.0 key.0.0 put.0.0, put.0.1) r refl put.2 in
    subst (λ (p : Operation × List ℕ). OperationFits p.0) same (record {
      family = omega (arith, number_fits 4 s family.0 e family.1);
      key = omega (arith, key_is.1, number_fits 4 kind.0.1 size.0 kind_is.rest_bytes size.1);
      put = put_fits kind.0.0 key.0.1 put.0 key_is.0.rest_bytes put.1;
    })
