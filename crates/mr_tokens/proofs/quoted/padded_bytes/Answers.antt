use Rattle.std.proofs.Common.{◌≡◌, ◌<◌, ◌+◌, ◌*◌, ◌%◌, ℕ, List, [], ◌∷◌, length, drop, get_or, arith, zero-add, ap, nat_eq, true, eq-eqb}
use Rattle.std.proofs.lemmas.Grind.{common_steps}
use Rattle.mr_spec.specs.Words.{padded_bytes, pairs_bytes, hex_value}
use Rattle.mr_tokens.proofs.quoted.padded_bytes.Goals as goal

-- a 0 in front says nothing
zero_in_front : (a : ℕ) → 16 * hex_value 48 + hex_value a ≡ hex_value a
unfolding hex_value
zero_in_front a = zero-add _

odd_in_pairs : (ds : List ℕ) → 0 < length ds → pairs_bytes (48 ∷ ds) ≡ hex_value (get_or ds 0 0) ∷ pairs_bytes (drop 1 ds)
odd_in_pairs [] h = grind arith
odd_in_pairs (a ∷ bs) h = ap (λ n. n ∷ pairs_bytes bs) (zero_in_front a)

odd : (ds : List ℕ) → length ds % 2 ≡ 1 → padded_bytes ds ≡ hex_value (get_or ds 0 0) ∷ pairs_bytes (drop 1 ds)
unfolding padded_bytes
odd ds h =
    let e : nat_eq (length ds % 2) 1 ≡ true = eq-eqb _ _ h in
    let p = odd_in_pairs ds (grind (arith, common_steps)) in
    rw e p

pub returns-then-digits-eq1 : goal.returns-then-digits-eq1
returns-then-digits-eq1 c = grind (arith, common_steps, odd c.args.digits.now)
