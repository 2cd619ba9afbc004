-- A record is read from its bytes, and from nothing else; and what is read fits.
use Rattle.std.proofs.Common.{◌≡◌, ℕ, ◌^◌, ◌<◌, zero, suc, List, [], ◌∷◌, ◌++◌, length, refl, ap, sym, ◌∙◌, arith, true, cond, inl, inr, nat_eq, nat_lt, append_assoc, subst, Result, Ok, Err}
use Rattle.std.specs.List.{list_all, AllByRecursion}
use Rattle.std.proofs.lemmas.Bool.{cases_eq, eq-eqb, ne_eqb, ltb-true}
use Rattle.byteorder.specs.Endian.{big_bytes}
use Rattle.mr_wal.specs.declared.operation.Operation.{Operation}
use Rattle.mr_wal.specs.declared.record.WalBody.{WalBody}
use Rattle.mr_wal.specs.declared.record.WalBody.TheVariants.{Prepare, Plain, Decided}
use Rattle.mr_wal.specs.declared.record.WalRecord.{WalRecord}
use Rattle.mr_wal.specs.Fields.{is_byte, number_in}
use Rattle.mr_wal.specs.Operations.{operation_bytes, operation_in}
use Rattle.mr_wal.specs.EngineLog.{operations_bytes, batch_bytes, body_bytes, record_bytes, sequence_in, operations_in, batch_in, ended, prepare_in, plain_in, body_in, with_verdict, record_in}
use Rattle.mr_wal.specs.Fitting.{OperationFits, BatchFits, BodyFits, RecordFits}
use Rattle.mr_wal.proofs.FieldLaws.{tells, and_true, bound, IsRead, number_only}
use Rattle.mr_wal.proofs.OperationLaws.{ok_same, operation_only}
use Rattle.mr_wal.proofs.OperationFitting.{number_fits, operation_fits}

pub operations_only : (n : ℕ) (s : List ℕ) (r : List Operation × List ℕ) → list_all is_byte s ≡ true → operations_in n s ≡ Ok r → IsRead s (operations_bytes r.0) r.1 × (length r.0 ≡ n)
operations_only zero s r e is = subst (λ (p : List Operation × List ℕ). IsRead s (operations_bytes p.0) p.1 × (length p.0 ≡ 0)) (ok_same (Ok ([], s)) ([], s) r refl is) (record { whole = refl; rest_bytes = e }, refl)
operations_only (suc n) s r e is =
    let one = bound (operation_in s) _ r is in
    let one_is = operation_only s one.0 e one.1 in
    let more = bound (operations_in n one.0.1) _ r one.2 in
    let more_is = operations_only n one.0.1 more.0 one_is.rest_bytes more.1 in
    subst (λ (p : List Operation × List ℕ). IsRead s (operations_bytes p.0) p.1 × (length p.0 ≡ suc n)) (ok_same (Ok (one.0.0 ∷ more.0.0, more.0.1)) (one.0.0 ∷ more.0.0, more.0.1) r refl more.2) (
      record {
        whole = one_is.whole ∙ ap (λ (x : List ℕ). operation_bytes one.0.0 ++ x) more_is.0.whole ∙ sym (append_assoc (operation_bytes one.0.0) (operations_bytes more.0.0) more.0.1);
        rest_bytes = more_is.0.rest_bytes;
      },
      ap suc more_is.1,
    )

pub batch_only : (s : List ℕ) (r : List Operation × List ℕ) → list_all is_byte s ≡ true → batch_in s ≡ Ok r → IsRead s (batch_bytes r.0) r.1
batch_only s r e is =
    let count = bound (number_in 4 s) _ r is in
    let count_is = number_only 4 s count.0 e count.1 in
    let all = operations_only count.0.0 count.0.1 r count_is.rest_bytes count.2 in
    record {
      whole = count_is.whole ∙ ap (λ (n : ℕ). big_bytes 4 n ++ count.0.1) (sym all.1) ∙ ap (λ (x : List ℕ). big_bytes 4 (length r.0) ++ x) all.0.whole ∙ sym (append_assoc (big_bytes 4 (length r.0)) (operations_bytes r.0) r.1);
      rest_bytes = all.0.rest_bytes;
    }

operations_fit : (n : ℕ) (s : List ℕ) (r : List Operation × List ℕ) → list_all is_byte s ≡ true → operations_in n s ≡ Ok r → AllByRecursion OperationFits r.0
operations_fit zero s r e is = subst (λ (p : List Operation × List ℕ). AllByRecursion OperationFits p.0) (ok_same (Ok ([], s)) ([], s) r refl is) tt
operations_fit (suc n) s r e is =
    let one = bound (operation_in s) _ r is in
    let one_is = operation_only s one.0 e one.1 in
    let more = bound (operations_in n one.0.1) _ r one.2 in
    subst (λ (p : List Operation × List ℕ). AllByRecursion OperationFits p.0) (ok_same (Ok (one.0.0 ∷ more.0.0, more.0.1)) (one.0.0 ∷ more.0.0, more.0.1) r refl more.2)
    (operation_fits s one.0 e one.1, operations_fit n one.0.1 more.0 one_is.rest_bytes more.1)

batch_fits : (s : List ℕ) (r : List Operation × List ℕ) → list_all is_byte s ≡ true → batch_in s ≡ Ok r → BatchFits r.0
batch_fits s r e is =
    let count = bound (number_in 4 s) _ r is in
    let count_is = number_only 4 s count.0 e count.1 in
    let all = operations_only count.0.0 count.0.1 r count_is.rest_bytes count.2 in
    record {
      count = omega (arith, all.1, number_fits 4 s count.0 e count.1);
      each = operations_fit count.0.0 count.0.1 r count_is.rest_bytes count.2;
    }

pub sequence_only : (s : List ℕ) (r : ℕ × List ℕ) → sequence_in s ≡ Ok r → number_in 8 s ≡ Ok r
sequence_only s r is =
    let number = bound (number_in 8 s) _ r is in
    elim (tells (nat_lt number.0.0 (2 ^ 63))) [
      | inl small ↦ number.1 ∙ (sym (ap (λ t. cond t (Ok number.0) (Err (length s))) small) ∙ number.2)
      | inr large ↦ let no : Err (length s) ≡ Ok r = sym (ap (λ t. cond t (Ok number.0) (Err (length s))) large) ∙ number.2 in cc
    ]

sequence_below : (s : List ℕ) (r : ℕ × List ℕ) → sequence_in s ≡ Ok r → r.0 < 2 ^ 63
sequence_below s r is =
    let number = bound (number_in 8 s) _ r is in
    elim (tells (nat_lt number.0.0 (2 ^ 63))) [
      | inl small ↦
          let same : number.0 ≡ r = ok_same (Ok number.0) number.0 r refl (sym (ap (λ t. cond t (Ok number.0) (Err (length s))) small) ∙ number.2) in
          subst (λ (p : ℕ × List ℕ). p.0 < 2 ^ 63) same (ltb-true number.0.0 (2 ^ 63) small)
      | inr large ↦ let no : Err (length s) ≡ Ok r = sym (ap (λ t. cond t (Ok number.0) (Err (length s))) large) ∙ number.2 in cc
    ]

pub ended_only : {X : Type 0} (x y : X) (s : List ℕ) → ended x s ≡ Ok y → (s ≡ []) × (x ≡ y)
ended_only x y [] is = (refl, ok_same (Ok x) x y refl is)
ended_only x y (b ∷ s) is = cc

no_rest : (xs s : List ℕ) → s ≡ [] → xs ++ s ≡ xs
no_rest [] s e = e
no_rest (x ∷ xs) s e = ap (λ ys. x ∷ ys) (no_rest xs s e)

pub prepare_only : (s : List ℕ) (b : WalBody) → list_all is_byte s ≡ true → prepare_in s ≡ Ok b → (1 ∷ s ≡ body_bytes b) × BodyFits b
prepare_only s b e is =
    let k = bound (number_in 8 s) _ b is in
    let k_is = number_only 8 s k.0 e k.1 in
    let sequence = bound (sequence_in k.0.1) _ b k.2 in
    let sequence_is = number_only 8 k.0.1 sequence.0 k_is.rest_bytes (sequence_only k.0.1 sequence.0 sequence.1) in
    let batch = bound (batch_in sequence.0.1) _ b sequence.2 in
    let batch_is = batch_only sequence.0.1 batch.0 sequence_is.rest_bytes batch.1 in
    let end = ended_only (Prepare k.0.0 sequence.0.0 batch.0.0) b batch.0.1 batch.2 in (
      ap (λ (x : List ℕ). 1 ∷ x) (k_is.whole ∙ ap (λ (x : List ℕ). big_bytes 8 k.0.0 ++ x) (sequence_is.whole ∙ ap (λ (x : List ℕ). big_bytes 8 sequence.0.0 ++ x) (batch_is.whole ∙ no_rest (batch_bytes batch.0.0) batch.0.1 end.0)))
          ∙ ap body_bytes end.1,
      subst BodyFits end.1 (omega (arith, number_fits 8 s k.0 e k.1), sequence_below k.0.1 sequence.0 sequence.1, batch_fits sequence.0.1 batch.0 sequence_is.rest_bytes batch.1),
    )

pub plain_only : (s : List ℕ) (b : WalBody) → list_all is_byte s ≡ true → plain_in s ≡ Ok b → (2 ∷ s ≡ body_bytes b) × BodyFits b
plain_only s b e is =
    let sequence = bound (sequence_in s) _ b is in
    let sequence_is = number_only 8 s sequence.0 e (sequence_only s sequence.0 sequence.1) in
    let batch = bound (batch_in sequence.0.1) _ b sequence.2 in
    let batch_is = batch_only sequence.0.1 batch.0 sequence_is.rest_bytes batch.1 in
    let end = ended_only (Plain sequence.0.0 batch.0.0) b batch.0.1 batch.2 in (
      ap (λ (x : List ℕ). 2 ∷ x) (sequence_is.whole ∙ ap (λ (x : List ℕ). big_bytes 8 sequence.0.0 ++ x) (batch_is.whole ∙ no_rest (batch_bytes batch.0.0) batch.0.1 end.0))
          ∙ ap body_bytes end.1,
      subst BodyFits end.1 (sequence_below s sequence.0 sequence.1, batch_fits sequence.0.1 batch.0 sequence_is.rest_bytes batch.1),
    )

pub body_only : (s : List ℕ) (b : WalBody) → list_all is_byte s ≡ true → body_in s ≡ Ok b → (s ≡ body_bytes b) × BodyFits b
body_only [] b e is = cc
body_only (kind ∷ s) b e is =
    let bytes = (and_true (is_byte kind) (list_all is_byte s) e).1 in
    elim (cases_eq kind 1) [
      | inl one ↦ with_kind 1 one (prepare_only s b bytes (sym (ap (λ t. cond t (prepare_in s) (cond (nat_eq kind 2) (plain_in s) (cond (nat_eq kind 3) (ended Decided s) (Err (length (kind ∷ s)))))) (eq-eqb kind 1 one)) ∙ is))
      | inr not_one ↦
          let is2 : cond (nat_eq kind 2) (plain_in s) (cond (nat_eq kind 3) (ended Decided s) (Err (length (kind ∷ s)))) ≡ Ok b = sym (ap (λ t. cond t (prepare_in s) (cond (nat_eq kind 2) (plain_in s) (cond (nat_eq kind 3) (ended Decided s) (Err (length (kind ∷ s)))))) (ne_eqb kind 1 not_one)) ∙ is in
          elim (cases_eq kind 2) [
            | inl two ↦ with_kind 2 two (plain_only s b bytes (sym (ap (λ t. cond t (plain_in s) (cond (nat_eq kind 3) (ended Decided s) (Err (length (kind ∷ s))))) (eq-eqb kind 2 two)) ∙ is2))
            | inr not_two ↦
                let is3 : cond (nat_eq kind 3) (ended Decided s) (Err (length (kind ∷ s))) ≡ Ok b = sym (ap (λ t. cond t (plain_in s) (cond (nat_eq kind 3) (ended Decided s) (Err (length (kind ∷ s))))) (ne_eqb kind 2 not_two)) ∙ is2 in
                elim (cases_eq kind 3) [
                  | inl three ↦
                      let end = ended_only Decided b s (sym (ap (λ t. cond t (ended Decided s) (Err (length (kind ∷ s)))) (eq-eqb kind 3 three)) ∙ is3) in
                      with_kind 3 three (ap (λ (x : List ℕ). 3 ∷ x) end.0 ∙ ap body_bytes end.1, subst BodyFits end.1 tt)
                  | inr not_three ↦ let no : Err (length (kind ∷ s)) ≡ Ok b = sym (ap (λ t. cond t (ended Decided s) (Err (length (kind ∷ s)))) (ne_eqb kind 3 not_three)) ∙ is3 in cc
                ]
          ]
    ]
  where
    with_kind : (k : ℕ) → kind ≡ k → (k ∷ s ≡ body_bytes b) × BodyFits b → (kind ∷ s ≡ body_bytes b) × BodyFits b
    with_kind k is both = (ap (λ (x : ℕ). x ∷ s) is ∙ both.0, both.1)

pub record_only : (s : List ℕ) (r : WalRecord) → list_all is_byte s ≡ true → record_in s ≡ Ok r → (s ≡ record_bytes r) × RecordFits r
record_only [] r e is = cc
record_only (verdict ∷ s) r e is =
    let bytes = (and_true (is_byte verdict) (list_all is_byte s) e).1 in
    elim (tells (nat_lt verdict 3)) [
      | inl good ↦ by_body bytes (ltb-true verdict 3 good) (body_in s) refl (sym (ap (λ t. cond t (with_verdict verdict (body_in s)) (Err (length (verdict ∷ s)))) good) ∙ is)
      | inr bad ↦ let no : Err (length (verdict ∷ s)) ≡ Ok r = sym (ap (λ t. cond t (with_verdict verdict (body_in s)) (Err (length (verdict ∷ s)))) bad) ∙ is in cc
    ]
  where
    by_body : list_all is_byte s ≡ true → verdict < 3 → (b : Result WalBody ℕ) → body_in s ≡ b → with_verdict verdict b ≡ Ok r → (verdict ∷ s ≡ record_bytes r) × RecordFits r
    by_body bytes small (Ok body) read with =
        let same : record { verdict = verdict; body = body } ≡ r = ok_same (Ok (record { verdict = verdict; body = body })) (record { verdict = verdict; body = body }) r refl with in
        let both = body_only s body bytes read in
        (ap (λ (x : List ℕ). verdict ∷ x) both.0 ∙ ap record_bytes same, subst RecordFits same (record { verdict = small; body = both.1 }))
    by_body bytes small (Err left) read with = cc
