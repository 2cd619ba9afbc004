-- The first of lawful commits are lawful.
use Rattle.std.proofs.Common.{ℕ, List, [], ◌∷◌, ◌++◌, sym, subst, append_assoc, inl, inr, refl}
use Rattle.mr_types.specs.declared.row.Commit.{Commit}
use Rattle.mr_spec.specs.declared.world.Table.{Table}
use Rattle.mr_spec.specs.Database.{with_body}
use Rattle.mr_spec.specs.Lawful.{LawfulFrom, IsLawful}
use Rattle.mr_sound.specs.Sound.{IsIn}

from_front : (moment : ℕ) (tables : List Table) (a b : List Commit) → LawfulFrom moment tables (a ++ b) → LawfulFrom moment tables a
from_front moment tables [] b h = tt
from_front moment tables (c ∷ a) b h = (h.0, h.1, from_front c.moment (with_body tables c.body) a b h.2)

pub lawful_front : (a b : List Commit) → IsLawful (a ++ b) → IsLawful a
lawful_front a b h = from_front 0 [] a b h

pub lawful_middle : (a b c : List Commit) → IsLawful (a ++ (b ++ c)) → IsLawful (a ++ b)
lawful_middle a b c h = lawful_front (a ++ b) c (subst IsLawful (sym (append_assoc a b c)) h)

-- the last one stands among them
pub last_in : (a : List Commit) (c : Commit) → IsIn c (a ++ c ∷ [])
last_in [] c = inl refl
last_in (d ∷ a) c = inr (last_in a c)
