-- How each statement is spelled. A function's last argument is what stands behind.
use Rattle.std.specs.Prelude.{ℕ, pos, negsuc, suc, List, [], ◌∷◌, Option, Some, None, codes}
use Rattle.mr_types.specs.declared.value.Value.{Value}
use Rattle.mr_types.specs.declared.value.Value.TheVariants as values
use Rattle.mr_spelling.specs.Parts.{Part, Keyword, Mark, Name, Count, Quoted, Octets}

-- ---- lists and options

-- one or more, with the separator between two
abbrev pub spelled_by : {A : Type 0} → Part → (A → List Part → List Part) → List A → List Part → List Part
spelled_by between item [] more = more
spelled_by between item (x ∷ []) more = item x more
spelled_by between item (x ∷ y ∷ ys) more = item x (between ∷ spelled_by between item (y ∷ ys) more)

-- with commas between
abbrev pub spelled_list : {A : Type 0} → (A → List Part → List Part) → List A → List Part → List Part
spelled_list item xs more = spelled_by (Mark (codes ",")) item xs more

abbrev pub spelled_if : {A : Type 0} → (A → List Part → List Part) → Option A → List Part → List Part
spelled_if item None more = more
spelled_if item (Some x) more = item x more

abbrev pub spelled_name : List ℕ → List Part → List Part
spelled_name name more = Name name ∷ more

-- ( names )
abbrev pub spelled_names : List (List ℕ) → List Part → List Part
spelled_names names more = Mark (codes "(") ∷ spelled_list spelled_name names (Mark (codes ")") ∷ more)

-- ---- literals

abbrev pub spelled_literal : Value → List Part → List Part
spelled_literal values.Null more = Keyword (codes "null") ∷ more
spelled_literal (values.Number (pos n)) more = Count n ∷ more
spelled_literal (values.Number (negsuc n)) more = Mark (codes "-") ∷ Count (suc n) ∷ more
spelled_literal (values.Text text) more = Quoted text ∷ more
spelled_literal (values.Bytes bytes) more = Octets bytes ∷ more
