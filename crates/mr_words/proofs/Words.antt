-- What `clap` finds in a word behind `--`.
use Rattle.std.proofs.Common.{◌≡◌, ℕ, List, [], ◌∷◌, Option, Some, None, option_map, is_some, refl, codes, true}
use Rattle.clap.specs.Words.{takes, is_simple, matches_of, first_of}
use Rattle.clap.proofs.OnLiterals.{clap_on_literals}
use Rattle.mr_words.specs.Command.{app}

pub simple_app : is_simple app ≡ true
unfolding clap_on_literals
simple_app = refl

pub folder_taken : (word : List ℕ) → takes app (codes "--" ∷ word ∷ []) ≡ true
unfolding clap_on_literals
folder_taken word = refl

pub folder_found : (word : List ℕ) → first_of (codes "folder") (matches_of app (codes "--" ∷ word ∷ [])) ≡ Some word
unfolding clap_on_literals
folder_found word = refl

-- what was found is there
pub is_there : {A B : Type 0} (f : A → B) (o : Option A) (x : B) → option_map f o ≡ Some x → is_some o ≡ true
is_there f None x is = cc
is_there f (Some a) x is = refl
