-- What a crash leaves of a log in each of the two steps of an append.
use Rattle.std.proofs.Common.{◌≡◌, ◌≢◌, inl, inr, ⊎_elim, ℕ, ◌+◌, ◌^◌, ◌≤◌, ◌<◌, List, [], ◌∷◌, ◌++◌, length, get_or, take, drop, sym, ◌∙◌, ap, subst, arith, append_assoc, length-append, take-append-drop}
use Rattle.std.specs.Int.{w32, to_be_bytes}
use Rattle.std.proofs.lemmas.List.{append_cancel_right, append-nil, take_at, drop_at, drop-drop, drop_more, length-take-le, get_or-drop}
use Rattle.std.proofs.lemmas.Bool.{cases_eq}
use Rattle.mr_base.specs.Disk.{AreBytes, Torn, overwrite}
use Rattle.mr_gate.specs.Log.{span, IsLog, AreShort, record_bytes, frames}
use Rattle.mr_gate.specs.Gate.{IsBeforeOrAfter, IsAfter}
use Rattle.mr_gate.proofs.Bytes.{length_closed}
use Rattle.mr_gate.proofs.Walk.{small_push, frames-append, split, log_of}

-- the bytes in front of a log, the records, and the closed gate
record Shape (from : ℕ) (bodies : List (List ℕ)) (file : List ℕ) : Type 0 where
  pub front : List ℕ
  pub at : length front ≡ from
  pub is : file ≡ front ++ frames bodies ++ 0 ∷ []
  pub small : AreShort bodies

shape : (from end : ℕ) (bodies : List (List ℕ)) (file : List ℕ) → AreBytes file → IsLog from bodies file → from + span bodies ≡ end → drop end file ≡ 0 ∷ [] → Shape from bodies file
shape from end bodies file bytes log ends closed =
    let long : length file ≡ end + 1 = length_closed end file closed in
    let parts = split bodies (drop from file) (λ k. subst (λ n. n < 256) (sym (get_or-drop from file k 0)) (bytes (from + k))) log.records in
    let tail : drop (span bodies) (drop from file) ≡ 0 ∷ [] = drop-drop (span bodies) from file ∙ ap (λ n. drop n file) ends ∙ closed in
    record {
      front = take from file;
      at = length-take-le from file (omega (arith, long, ends));
      is = sym (take-append-drop from file) ∙ ap (λ (l : List ℕ). take from file ++ l) (parts.parts ∙ ap (λ (l : List ℕ). frames bodies ++ l) tail) ∙ sym (append_assoc (take from file) (frames bodies) (0 ∷ []));
      small = parts.small;
    }

-- whatever stands behind the closed gate
pub front_closed : (from end : ℕ) (bodies : List (List ℕ)) (old file : List ℕ) → AreBytes old → IsLog from bodies old → from + span bodies ≡ end → drop end old ≡ 0 ∷ [] → take (end + 1) file ≡ old → IsLog from bodies file
front_closed from end bodies old file bytes log ends closed same =
    let s = shape from end bodies old bytes log ends closed in
    let behind = drop (end + 1) file in
    let whole : file ≡ s.front ++ frames bodies ++ 0 ∷ behind =
    sym (take-append-drop (end + 1) file) ∙ ap (λ (l : List ℕ). l ++ behind) (same ∙ s.is) ∙ append_assoc (s.front ++ frames bodies) (0 ∷ []) behind in
    subst (IsLog from bodies) (sym whole) (log_of s.front bodies 0 behind from s.at s.small (inl (omega arith)))

-- the file with the record staged
abbrev pub staged : List ℕ → List ℕ → List ℕ
staged old body = old ++ to_be_bytes w32 (length body) ++ body ++ 0 ∷ []

regroup : (f four body : List ℕ) → f ++ 0 ∷ [] ++ four ++ body ++ 0 ∷ [] ≡ f ++ 0 ∷ (four ++ body ++ 0 ∷ [])
regroup f four body =
    ap (λ (l : List ℕ). l ++ body ++ 0 ∷ []) (append_assoc f (0 ∷ []) four)
    ∙ ap (λ (l : List ℕ). l ++ 0 ∷ []) (append_assoc f (0 ∷ four) body)
    ∙ append_assoc f (0 ∷ (four ++ body)) (0 ∷ [])

-- the bytes up to the closed gate
module _ (end : ℕ) (body old : List ℕ) (closed : drop end old ≡ 0 ∷ []) where
  old_is : old ≡ take end old ++ 0 ∷ []
  old_is = sym (take-append-drop end old) ∙ ap (λ (l : List ℕ). take end old ++ l) closed

  at : length (take end old) ≡ end
  at = length-take-le end old (omega (arith, length_closed end old closed))

  is_staged : staged old body ≡ take end old ++ 0 ∷ (to_be_bytes w32 (length body) ++ body ++ 0 ∷ [])
  is_staged = ap (λ (l : List ℕ). l ++ to_be_bytes w32 (length body) ++ body ++ 0 ∷ []) old_is ∙ regroup (take end old) (to_be_bytes w32 (length body)) body

  front : take end (staged old body) ≡ take end old
  front = ap (λ (l : List ℕ). take end l) is_staged ∙ take_at (take end old) (0 ∷ (to_be_bytes w32 (length body) ++ body ++ 0 ∷ [])) end at

  behind : drop (end + 1) (staged old body) ≡ to_be_bytes w32 (length body) ++ body ++ 0 ∷ []
  behind =
      ap (λ (l : List ℕ). drop (end + 1) l) (is_staged ∙ sym (append_assoc (take end old) (0 ∷ []) (to_be_bytes w32 (length body) ++ body ++ 0 ∷ [])))
      ∙ drop_at (take end old ++ 0 ∷ []) (to_be_bytes w32 (length body) ++ body ++ 0 ∷ []) (end + 1) (omega (arith, length-append (take end old) (0 ∷ []), at))

  pub place_is : end < length (staged old body)
  place_is = omega (arith, ap length is_staged, length-append (take end old) (0 ∷ (to_be_bytes w32 (length body) ++ body ++ 0 ∷ [])), at)

  -- the file with that gate and the record behind it
  abbrev gated : ℕ → List ℕ
  gated gate = take end old ++ gate ∷ (to_be_bytes w32 (length body) ++ body ++ 0 ∷ [])

  torn_is : (file : List ℕ) → Torn end 1 (staged old body) file → file ≡ gated (get_or file end 0)
  torn_is file torn =
      sym (take-append-drop end file) ∙ ap (λ (l : List ℕ). l ++ drop end file) (torn.before ∙ front)
      ∙ ap (λ (l : List ℕ). take end old ++ l) (drop_more file end 0 (omega (arith, torn.no_shorter, place_is)) ∙ ap (λ (l : List ℕ). get_or file end 0 ∷ l) (torn.after ∙ behind))

  opened_is : (file : List ℕ) → file ≡ overwrite end (167 ∷ []) (staged old body) → file ≡ gated 167
  opened_is file is = is ∙ ap (λ (l : List ℕ). l ++ (167 ∷ []) ++ drop (end + 1) (staged old body)) front ∙ ap (λ (l : List ℕ). take end old ++ (167 ∷ []) ++ l) behind ∙ append_assoc (take end old) (167 ∷ []) (to_be_bytes w32 (length body) ++ body ++ 0 ∷ [])

  module _ (bytes : AreBytes old) (small : length body ≤ 2 ^ 29) where
    same_front : (from : ℕ) (bodies : List (List ℕ)) → (s : Shape from bodies old) → take end old ≡ s.front ++ frames bodies
    same_front from bodies s = append_cancel_right (take end old) (s.front ++ frames bodies) (0 ∷ []) (sym old_is ∙ s.is)

    open_log : IsAfter end body old (gated 167)
    open_log from bodies log ends =
        let s = shape from end bodies old bytes log ends closed in
        let f = s.front ++ frames bodies in
        let added : gated 167 ≡ s.front ++ frames (bodies ++ body ∷ []) ++ 0 ∷ [] =
        ap (λ (l : List ℕ). l ++ 167 ∷ (to_be_bytes w32 (length body) ++ body ++ 0 ∷ [])) (same_front from bodies s) ∙ sym (append_assoc f (record_bytes body) (0 ∷ []))
        ∙ ap (λ (l : List ℕ). l ++ 0 ∷ []) (append_assoc s.front (frames bodies) (record_bytes body) ∙ ap (λ (l : List ℕ). s.front ++ l) (ap (λ (l : List ℕ). frames bodies ++ l) (sym (append-nil (record_bytes body))) ∙ sym (frames-append bodies (body ∷ [])))) in
        subst (IsLog from (bodies ++ body ∷ [])) (sym added) (log_of s.front (bodies ++ body ∷ []) 0 [] from s.at (small_push bodies body s.small small) (inl (omega arith)))

    shut_log : (gate from : ℕ) (bodies : List (List ℕ)) → gate ≢ 167 → IsLog from bodies old → from + span bodies ≡ end → IsLog from bodies (gated gate)
    shut_log gate from bodies shut log ends =
        let s = shape from end bodies old bytes log ends closed in
        subst (IsLog from bodies) (ap (λ (l : List ℕ). l ++ gate ∷ (to_be_bytes w32 (length body) ++ body ++ 0 ∷ [])) (sym (same_front from bodies s)))
        (log_of s.front bodies gate (to_be_bytes w32 (length body) ++ body ++ 0 ∷ []) from s.at s.small (inl shut))

    pub gate_torn : (file : List ℕ) → Torn end 1 (staged old body) file → IsBeforeOrAfter end body old file
    gate_torn file torn from bodies log ends = ⊎_elim
        (λ (is_open : get_or file end 0 ≡ 167). inr (subst (IsLog from (bodies ++ body ∷ [])) (sym (torn_is file torn ∙ ap gated is_open)) (open_log from bodies log ends)))
        (λ (shut : get_or file end 0 ≢ 167). inl (subst (IsLog from bodies) (sym (torn_is file torn)) (shut_log (get_or file end 0) from bodies shut log ends)))
        (cases_eq (get_or file end 0) 167)

    pub gate_opened : (file : List ℕ) → file ≡ overwrite end (167 ∷ []) (staged old body) → IsAfter end body old file
    gate_opened file is from bodies log ends = subst (IsLog from (bodies ++ body ∷ [])) (sym (opened_is file is)) (open_log from bodies log ends)

  pub gate_bytes : (file : List ℕ) → file ≡ overwrite end (167 ∷ []) (staged old body) → file ≡ take end old ++ record_bytes body ++ 0 ∷ []
  gate_bytes file is = opened_is file is ∙ sym (append_assoc (take end old) (167 ∷ (to_be_bytes w32 (length body) ++ body)) (0 ∷ []))

  pub gate_ends : (file : List ℕ) → file ≡ overwrite end (167 ∷ []) (staged old body) → drop (end + (5 + length body)) file ≡ 0 ∷ []
  gate_ends file is =
      ap (λ (l : List ℕ). drop (end + (5 + length body)) l) (gate_bytes file is)
      ∙ drop_at (take end old ++ record_bytes body) (0 ∷ []) (end + (5 + length body)) (omega (arith, at, length-append (take end old) (record_bytes body), length-append (to_be_bytes w32 (length body)) body))

pub torn_nothing : (at n : ℕ) (old file : List ℕ) → file ≡ old → Torn at n old file
torn_nothing at n old file same = record {
  before = ap (λ (l : List ℕ). take at l) same;
  after = ap (λ (l : List ℕ). drop (at + n) l) same;
  no_shorter = omega (arith, ap length same);
  no_longer = omega (arith, ap length same);
}
