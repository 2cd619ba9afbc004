-- What one of two cursors means.
use Rattle.mr_iter.specs.declared.one_of.OneOf.{OneOf}
use Rattle.mr_iter.specs.declared.one_of.OneOf.TheVariants.{First, Second}

-- what the one that is there gives
abbrev pub one : {A B Y : Type 0} → (A → Y) → (B → Y) → OneOf A B → Y
one f g (First a) = f a
one f g (Second b) = g b

abbrev pub Holds : {A B : Type 0} → (A → Type 0) → (B → Type 0) → OneOf A B → Type 0
Holds P Q (First a) = P a
Holds P Q (Second b) = Q b

-- what is so of each of the two is so of the one that is there
pub in_each : {A B : Type 0} (P : OneOf A B → Type 0) → ((a : A) → P (First a)) → ((b : B) → P (Second b)) → (c : OneOf A B) → P c
in_each P f g (First a) = f a
in_each P f g (Second b) = g b
