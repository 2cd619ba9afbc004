use Rattle.std.proofs.Common.{◌≡◌, ℕ, List, drop, Ok}
use Rattle.mr_rowval.specs.KeyParts.{Held, parts_full, found}
use Rattle.mr_rowval.proofs.key.held_field.Given as goal

abbrev pub invariant-loop-part : goal.invariant-loop-part
invariant-loop-part l = (held : Held) (rest : List ℕ) → parts_full l.columns l.places l.key l.unpack ≡ Ok (held, rest) → (more : Held) × (parts_full l.columns (drop l.part-index l.places) l.key_left l.left ≡ Ok (more, rest)) × (found held l.place ≡ found more l.place)
