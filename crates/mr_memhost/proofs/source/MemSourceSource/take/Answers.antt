use Rattle.std.proofs.Common.{◌≡◌, ◌≤◌, ◌+◌, ◌-◌, ◌++◌, ℕ, [], length, take, drop, List, sym, ◌∙◌, ap, subst, arith, length-drop}
use Rattle.std.proofs.lemmas.List.{take_all, drop_all, take-append-le, take-append-drop, drop-drop, length-take-le}
use Rattle.mr_memhost.proofs.source.MemSourceSource.take.Goals as goal

module _ (bytes held : List ℕ) (taken : ℕ) (is : held ≡ bytes) where
  left_is : take (length held - taken) (drop taken held) ≡ drop taken bytes
  left_is = take_all (length held - taken) (drop taken held) (omega (arith, length-drop taken held)) ∙ ap (drop taken) is

  moved : (out new : List ℕ) (n : ℕ) → new ≡ take n (take (length held - taken) (drop taken held)) → n ≤ length (take (length held - taken) (drop taken held))
      → drop taken bytes ≡ take n (new ++ drop n out) ++ drop (taken + n) bytes
  moved out new n copied le =
      let same : new ≡ take n (drop taken bytes) = copied ∙ ap (take n) left_is in
      let le_left : n ≤ length (drop taken bytes) = subst (λ (l : List ℕ). n ≤ length l) left_is le in
      let long : length new ≡ n = ap length same ∙ length-take-le n (drop taken bytes) le_left in
      let front : take n (new ++ drop n out) ≡ take n (drop taken bytes) = take-append-le n new (drop n out) (omega (arith, long)) ∙ take_all n new (omega (arith, long)) ∙ same in
      sym (ap (λ (l : List ℕ). l ++ drop (taken + n) bytes) front ∙ ap (λ (l : List ℕ). take n (drop taken bytes) ++ l) (sym (drop-drop n taken bytes)) ∙ take-append-drop n (drop taken bytes))

  ended : length (take (length held - taken) (drop taken held)) ≡ 0 → drop taken bytes ≡ []
  ended none = drop_all taken bytes (omega (arith, ap length left_is, length-drop taken bytes, none))

pub returns-clause-moved : goal.returns-clause-moved
returns-clause-moved c tells = moved c.args.self.now.bytes.items c.deref.result.now c.args.self.now.taken c.deref.ensures.value c.args.out.now c.copy_from_slice.new.self c.min-count.result c.copy_from_slice.ensures.after (omega (arith, c.min-count.ensures))

pub returns-clause-end : goal.returns-clause-end
returns-clause-end c tells some none = ended c.args.self.now.bytes.items c.deref.result.now c.args.self.now.taken c.deref.ensures.value (omega (arith, c.min.ensures, c.min-count.ensures, c.args.self.now.some, some, none))
