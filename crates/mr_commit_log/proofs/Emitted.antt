-- A text that is emitted in pieces.
use Rattle.std.proofs.Common.{◌≡◌, ℕ, ◌+◌, ◌-◌, min, List, [], ◌++◌, length, take, drop, refl, ap, sym, ◌∙◌, arith, append_assoc, append-nil, length-drop, take_all, inl, inr}
use Rattle.std.proofs.Math.Seq.{take-add}
use Rattle.std.proofs.lemmas.List.{take-take, length-take}
use Rattle.std.proofs.lemmas.Bool.{cases_lt}
use Rattle.mr_base.specs.Disk.{State, present}
use Rattle.mr_base.specs.Calls.{During, IsShown, Emits, EmitCounts}
use Rattle.mr_base.proofs.Moments.{started, goes_on, at_end}

pub emit_counts_start : (s : State) → EmitCounts s s
emit_counts_start s = record { tells = refl; faults = refl; emit_faults = omega arith; reads = refl; asked = refl; syncs = refl }

pub emit_counts_then : (a b c : State) → EmitCounts a b → EmitCounts b c → EmitCounts a c
emit_counts_then a b c one two = record {
  tells = two.tells ∙ one.tells;
  faults = two.faults ∙ one.faults;
  emit_faults = omega (arith, one.emit_faults, two.emit_faults);
  reads = two.reads ∙ one.reads;
  asked = two.asked ∙ one.asked;
  syncs = two.syncs ∙ one.syncs;
}

-- `&s[at..]`
tail_whole : (at : ℕ) (s : List ℕ) → take (length s - at) (drop at s) ≡ drop at s
tail_whole at s = take_all _ _ (omega (arith, length-drop at s))

pub shown_start : (text : List ℕ) (s : State) → During s s (IsShown text (present s))
shown_start text s = started s _ record { files = λ f. refl; count = 0; output = sym (append-nil (present s).output) }

take_both : (k n : ℕ) (s : List ℕ) → take k (take n s) ≡ take (min k n) s
take_both k n s = elim (cases_lt n k) [
  | inl lt ↦ let e : n ≡ min k n = omega (arith, lt) in take_all k (take n s) (omega (arith, length-take n s, lt)) ∙ ap (λ i. take i s) e
  | inr le ↦ let e : k ≡ min k n = omega (arith, le) in take-take k n s le ∙ ap (λ i. take i s) e
]

-- a front of the first n bytes behind the first at
front_of : (text : List ℕ) (at n k : ℕ) → take at text ++ take k (take n (take (length text - at) (drop at text))) ≡ take (at + min k n) text
front_of text at n k = ap (λ x. take at text ++ take k (take n x)) (tail_whole at text) ∙ ap (λ x. take at text ++ x) (take_both k n (drop at text)) ∙ sym (take-add at (min k n) text)

pub shown_on : (text : List ℕ) (at n : ℕ) (a b c : State) → During a b (IsShown text (present a)) → (present b).output ≡ (present a).output ++ take at text
    → Emits (take n (take (length text - at) (drop at text))) b c → During a c (IsShown text (present a))
shown_on text at n a b c so_far out emits = goes_on a b c _ _ so_far emits.during (λ m here. record {
  files = λ f. here.files f ∙ (at_end a b _ so_far).files f;
  count = at + min here.count n;
  output = here.output ∙ ap (λ x. x ++ take here.count (take n (take (length text - at) (drop at text)))) out
      ∙ append_assoc (present a).output (take at text) (take here.count (take n (take (length text - at) (drop at text))))
      ∙ ap (λ x. (present a).output ++ x) (front_of text at n here.count);
})

pub output_on : (text : List ℕ) (at n : ℕ) (before mid after : List ℕ) → mid ≡ before ++ take at text → after ≡ mid ++ take n (take (length text - at) (drop at text)) → after ≡ before ++ take (at + n) text
output_on text at n before mid after out more = more ∙ ap (λ x. x ++ take n (take (length text - at) (drop at text))) out
    ∙ append_assoc before (take at text) (take n (take (length text - at) (drop at text)))
    ∙ ap (λ x. before ++ x) (ap (λ x. take at text ++ take n x) (tail_whole at text) ∙ sym (take-add at n text))

-- a call that emits nothing
pub shown_same : (text : List ℕ) (a b c : State) → During a b (IsShown text (present a)) → Emits [] b c → During a c (IsShown text (present a))
shown_same text a b c so_far emits = goes_on a b c _ _ so_far emits.during (λ m here. let last = at_end a b _ so_far in record {
  files = λ f. here.files f ∙ last.files f;
  count = last.count;
  output = here.output ∙ ap (λ x. (present b).output ++ x) (take_none here.count) ∙ append-nil (present b).output ∙ last.output;
})
  where
    take_none : (k : ℕ) → take {A = ℕ} k [] ≡ []
    take_none k = take_all k [] (omega arith)
