-- What a crash leaves of a log while its end is repaired.
use Rattle.std.proofs.Common.{◌≡◌, ◌≢◌, inl, inr, ⊎_elim, ℕ, ◌+◌, ◌≤◌, ◌<◌, List, [], ◌∷◌, ◌++◌, length, get_or, take, drop, refl, sym, ◌∙◌, ap, subst, arith, append_assoc, length-drop, take-append-drop}
use Rattle.std.proofs.lemmas.List.{append-nil, append_cancel_right, take-take, drop_at, drop_all, drop-drop, drop_more, length-take-le, get_or-drop, get_or-take}
use Rattle.mr_base.specs.Disk.{AreBytes, Torn, CutShort, overwrite}
use Rattle.mr_gate.specs.Log.{span, IsLog, frames}
use Rattle.mr_gate.specs.Gate.{KeepsLog}
use Rattle.mr_gate.specs.Walked.{EndsAt}
use Rattle.mr_gate.proofs.Walk.{Ends, split, log_of}

pub cut_nothing : (n : ℕ) (old file : List ℕ) → n ≤ length old → file ≡ old → CutShort n old file
cut_nothing n old file le same = record {
  before = ap (λ (l : List ℕ). take n l) same;
  no_shorter = omega (arith, ap length same, le);
  no_longer = omega (arith, ap length same);
}

pub keeps_then : (end : ℕ) (a b c : List ℕ) → KeepsLog end a b → KeepsLog end b c → KeepsLog end a c
keeps_then end a b c first second from bodies log ends = second from bodies (first from bodies log ends) ends

pub keeps_same : (end : ℕ) (a b : List ℕ) → b ≡ a → KeepsLog end a b
keeps_same end a b same from bodies log ends = subst (IsLog from bodies) (sym same) log

-- the records stay where the bytes up to their end do, and an end follows
pub keeps_end : (end : ℕ) (old file : List ℕ) (gate : ℕ) (rest : List ℕ) → AreBytes old → end < length old → file ≡ take end old ++ gate ∷ rest → Ends gate rest → KeepsLog end old file
keeps_end end old file gate rest bytes inside is ends from bodies log place =
    let parts = split bodies (drop from old) (λ k. subst (λ n. n < 256) (sym (get_or-drop from old k 0)) (bytes (from + k))) log.records in
    let tail : drop (span bodies) (drop from old) ≡ drop end old = drop-drop (span bodies) from old ∙ ap (λ n. drop n old) place in
    let whole : old ≡ take from old ++ frames bodies ++ drop end old =
    sym (take-append-drop from old) ∙ ap (λ (l : List ℕ). take from old ++ l) (parts.parts ∙ ap (λ (l : List ℕ). frames bodies ++ l) tail) ∙ sym (append_assoc (take from old) (frames bodies) (drop end old)) in
    let front : take end old ≡ take from old ++ frames bodies = append_cancel_right (take end old) (take from old ++ frames bodies) (drop end old) (take-append-drop end old ∙ whole) in
    subst (IsLog from bodies) (sym (is ∙ ap (λ (l : List ℕ). l ++ gate ∷ rest) front)) (log_of (take from old) bodies gate rest from (length-take-le from old (omega (arith, inside, place))) parts.small ends)

at_place : (end : ℕ) (file : List ℕ) → end < length file → file ≡ take end file ++ get_or file end 0 ∷ drop (end + 1) file
at_place end file inside = sym (take-append-drop end file) ∙ ap (λ (l : List ℕ). take end file ++ l) (drop_more file end 0 inside)

-- in each outcome of the cut
pub cut_keeps : (end : ℕ) (old file : List ℕ) → AreBytes old → end < length old → EndsAt end old → CutShort (end + 1) old file → KeepsLog end old file
cut_keeps end old file bytes inside ends cut =
    let front : take end file ≡ take end old =
    sym (take-take end (end + 1) file (omega arith)) ∙ ap (λ (l : List ℕ). take end l) cut.before ∙ take-take end (end + 1) old (omega arith) in
    let gate : get_or file end 0 ≡ get_or old end 0 =
    sym (get_or-take (end + 1) file end 0 (omega arith)) ∙ ap (λ (l : List ℕ). get_or l end 0) cut.before ∙ get_or-take (end + 1) old end 0 (omega arith) in
    let last : Ends (get_or file end 0) (drop (end + 1) file) = ⊎_elim
    (λ (shut : get_or old end 0 ≢ 167). inl (λ is. shut (sym gate ∙ is)))
    (λ (none : drop (end + 1) old ≡ []). inr (drop_all (end + 1) file (omega (arith, cut.no_longer, length-drop (end + 1) old, ap length none))))
    ends in
    keeps_end end old file (get_or file end 0) (drop (end + 1) file) bytes inside
    (at_place end file (omega (arith, cut.no_shorter)) ∙ ap (λ (l : List ℕ). l ++ get_or file end 0 ∷ drop (end + 1) file) front) last

pub cut_done : (n : ℕ) (old : List ℕ) → n ≤ length old → CutShort n old (take n old)
cut_done n old le = record {
  before = take-take n n old (omega arith);
  no_shorter = omega (arith, length-take-le n old le);
  no_longer = omega (arith, length-take-le n old le, le);
}

-- and of the write of the closed gate
pub close_keeps : (end : ℕ) (old file : List ℕ) → AreBytes old → length old ≡ end + 1 → Torn end 1 old file → KeepsLog end old file
close_keeps end old file bytes long torn =
    let none : drop (end + 1) file ≡ [] = torn.after ∙ drop_all (end + 1) old (omega (arith, long)) in
    keeps_end end old file (get_or file end 0) (drop (end + 1) file) bytes (omega (arith, long))
    (at_place end file (omega (arith, torn.no_shorter, long)) ∙ ap (λ (l : List ℕ). l ++ get_or file end 0 ∷ drop (end + 1) file) torn.before) (inr none)

pub closed_is : (end : ℕ) (old : List ℕ) → length old ≡ end + 1 → overwrite end (0 ∷ []) old ≡ take end old ++ 0 ∷ []
closed_is end old long = ap (λ (l : List ℕ). take end old ++ 0 ∷ [] ++ l) (drop_all (end + 1) old (omega (arith, long))) ∙ append-nil (take end old ++ 0 ∷ [])

pub closed_keeps : (end : ℕ) (old file : List ℕ) → AreBytes old → length old ≡ end + 1 → file ≡ overwrite end (0 ∷ []) old → KeepsLog end old file
closed_keeps end old file bytes long is = keeps_end end old file 0 [] bytes (omega (arith, long)) (is ∙ closed_is end old long) (inr refl)

pub closed_ends : (end : ℕ) (old file : List ℕ) → length old ≡ end + 1 → file ≡ overwrite end (0 ∷ []) old → drop end file ≡ 0 ∷ []
closed_ends end old file long is = ap (λ (l : List ℕ). drop end l) (is ∙ closed_is end old long) ∙ drop_at (take end old) (0 ∷ []) end (length-take-le end old (omega (arith, long)))

-- an empty file and one byte have no records
empty_records : (from : ℕ) (bodies : List (List ℕ)) → from + span bodies ≡ 0 → (from ≡ 0) × (bodies ≡ [])
empty_records from [] is = (omega (arith, is), refl)
empty_records from (body ∷ bodies) is = absurd (omega (arith, is))

pub empty_keeps : (file : List ℕ) → length file ≤ 1 → KeepsLog 0 [] file
empty_keeps [] short from bodies log ends = log
empty_keeps (gate ∷ []) short from bodies log ends =
    let none = empty_records from bodies ends in
    subst (λ n. IsLog n bodies (gate ∷ [])) (sym none.0) (subst (λ (bs : List (List ℕ)). IsLog 0 bs (gate ∷ [])) (sym none.1) (log_of [] [] gate [] 0 refl tt (inr refl)))
empty_keeps (gate ∷ b ∷ file) short from bodies log ends = absurd (omega (arith, short))

pub empty_closed : (end : ℕ) (old file : List ℕ) → old ≡ [] → end ≡ 0 → file ≡ overwrite end (0 ∷ []) old → length file ≤ 1
empty_closed end old file none start is =
    let whole : file ≡ 0 ∷ [] = is ∙ ap (λ n. overwrite n (0 ∷ []) old) start ∙ ap (λ (l : List ℕ). overwrite 0 (0 ∷ []) l) none in
    omega (arith, ap length whole)

-- the bytes afterwards: where there were no more than one behind the end, and where the cut left one
pub closed_bytes : (end : ℕ) (old file : List ℕ) → length old ≤ end + 1 → file ≡ overwrite end (0 ∷ []) old → file ≡ take end old ++ 0 ∷ []
closed_bytes end old file short is = is ∙ ap (λ (l : List ℕ). take end old ++ 0 ∷ [] ++ l) (drop_all (end + 1) old (omega (arith, short))) ∙ append-nil (take end old ++ 0 ∷ [])

pub cut_bytes : (end : ℕ) (old mid file : List ℕ) → end < length old → mid ≡ take (end + 1) old → file ≡ overwrite end (0 ∷ []) mid → file ≡ take end old ++ 0 ∷ []
cut_bytes end old mid file inside cut is =
    closed_bytes end mid file (omega (arith, ap length cut, length-take-le (end + 1) old (omega (arith, inside)))) is
    ∙ ap (λ (l : List ℕ). l ++ 0 ∷ []) (ap (λ (l : List ℕ). take end l) cut ∙ take-take end (end + 1) old (omega arith))

pub alone_bytes : (end gate : ℕ) (file : List ℕ) → length file ≡ end + 1 → gate ≡ get_or file end 0 → gate ≡ 0 → file ≡ take end file ++ 0 ∷ []
alone_bytes end gate file long is shut =
    at_place end file (omega (arith, long)) ∙ ap (λ g. take end file ++ g ∷ drop (end + 1) file) (sym is ∙ shut) ∙ ap (λ (l : List ℕ). take end file ++ 0 ∷ l) (drop_all (end + 1) file (omega (arith, long)))
