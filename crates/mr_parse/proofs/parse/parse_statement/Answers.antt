use Rattle.std.proofs.Common.{◌≡◌, ℕ, suc, ◌<◌, List, [], ◌∷◌, true, nat_lt, get_or, refl, arith, Fits, w8}
use Rattle.std.specs.List.{list_all}
use Rattle.std.proofs.lemmas.Bool.{lt-ltb}
use Rattle.mr_spec.proofs.FitGrammar.{spelled-grammatical}
use Rattle.mr_parse.proofs.parse.parse_statement.Goals as goal

-- a slice of bytes
all_bytes : (s : List ℕ) → ((i : ℕ) → Fits w8 (get_or s i 0)) → list_all (λ b. nat_lt b 256) s ≡ true
all_bytes [] h = refl
all_bytes (b ∷ s) h = let first : b < 256 = omega (arith, h 0) in rw (lt-ltb b 256 first) (all_bytes s (λ i. h (suc i)))

pub returns-in-Ok-clause-grammatical : goal.returns-in-Ok-clause-grammatical
returns-in-Ok-clause-grammatical c = spelled-grammatical c.args.text.now c.in-Ok.statement (all_bytes c.args.text.now c.type_inv.text) (omega arith) c.in-Ok.ensures
