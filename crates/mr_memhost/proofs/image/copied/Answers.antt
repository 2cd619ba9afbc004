use Rattle.std.proofs.Common.{◌≡◌, ℕ, Vec, Option, Some, None, MatchOption, IsSomeAnd, ap}
use Rattle.std.specs.declared.alloc.Global.{Global}
use Rattle.std.specs.List.{AllZip}
use Rattle.std.specs.Vec.{vec_len}
use Rattle.std.specs.Ordering.{nat_cmp}
use Rattle.std.specs.BTreeMap.{is_at}
use Rattle.std.proofs.lemmas.List.Elements.{same_from_all_zip}
use Rattle.std.proofs.lemmas.Map.Entries.{lookup_clone}
use Rattle.mr_memhost.specs.Files.{items_of}
use Rattle.mr_memhost.proofs.image.copied.Goals as goal

of_option : (R : ℕ → ℕ → Type 0) → ((x y : ℕ) → R x y → y ≡ x) → (o p : Option (Vec ℕ Global)) → MatchOption o (p ≡ None) (λ v. IsSomeAnd p (λ w. AllZip R v.items w.items × (vec_len w ≡ vec_len v))) → items_of p ≡ items_of o
of_option R same None p m = ap items_of m
of_option R same (Some v) None m = absurd m
of_option R same (Some v) (Some w) m = same_from_all_zip R v.items w.items m.0 same

pub returns : goal.returns
returns c f = of_option _ (λ x y e. e) _ _ (lookup_clone _ _ (is_at (nat_cmp f)) (λ x y e. ap (is_at (nat_cmp f)) e) c.args.contents.now.entries c.in_ok-clone.field-0.entries c.in_ok-clone.ensures.cases)
