-- Rows with small numbers, in a commit and one by one.
use Rattle.std.proofs.Common.{inl, inr, ◌<◌, ◌^◌, List, [], ◌∷◌, refl}
use Rattle.std.specs.List.{AllByRecursion}
use Rattle.mr_types.specs.declared.row.Row.{Row}
use Rattle.mr_types.specs.declared.row.Change.{Change}
use Rattle.mr_types.specs.declared.row.Commit.{Commit}
use Rattle.mr_spec.specs.Rows.{rows_of}
use Rattle.mr_spec.specs.Database.{changes_in}
use Rattle.mr_binlog.specs.CommitFitting.{NumbersFit, HasSmallNumbers}
use Rattle.mr_sound.specs.Sound.{IsIn}
use Rattle.mr_forms.proofs.Lengths.{recursion-in}

pub in-recursion : {X : Type 0} (P : X → Type 0) (xs : List X) → ((x : X) → IsIn x xs → P x) → AllByRecursion P xs
in-recursion P [] h = tt
in-recursion P (x ∷ xs) h = (h x (inl refl), in-recursion P xs (λ y i. h y (inr i)))

pub row-small : (c : Commit) → NumbersFit c → (d : Change) (r : Row) → IsIn d (changes_in c.body) → IsIn r (rows_of d) → HasSmallNumbers r
row-small c n d r i j = recursion-in HasSmallNumbers (rows_of d) r (recursion-in (λ x. AllByRecursion HasSmallNumbers (rows_of x)) (changes_in c.body) d n.rows i) j

pub numbers-fit : (c : Commit) → c.moment < 2 ^ 64 → ((d : Change) (r : Row) → IsIn d (changes_in c.body) → IsIn r (rows_of d) → HasSmallNumbers r) → NumbersFit c
numbers-fit c small h = record { moment = small; rows = in-recursion (λ x. AllByRecursion HasSmallNumbers (rows_of x)) (changes_in c.body) (λ d i. in-recursion HasSmallNumbers (rows_of d) (λ r j. h d r i j)) }
