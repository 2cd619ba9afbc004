-- The folder is one of the words.
use Rattle.std.proofs.Common.{◌≡◌, ℕ, ◌+◌, ◌<◌, Bool, true, false, cond, List, [], ◌∷◌, length, codes, Option, Some, None, IfSome, is_some, option_map, option_and_then, arith, subst, ◌==◌}
use Rattle.mr_words.specs.declared.options.Options.{Options}
use Rattle.mr_words.specs.declared.told.Told.{Told}
use Rattle.mr_words.specs.declared.told.Next.{Next}
use Rattle.mr_words.specs.declared.told.Next.TheVariants.{Any, Now, LogLimit, Folder}
use Rattle.mr_words.specs.Form.{number_in, limit_in, with_now, with_limit, with_folder, Read, behind, with_option, is_dash, with_other, with_limit_or_other, with_any, with_word, ended, told_in, nothing, options_of, options_in, is_run}

abbrev Within : ℕ → Told → Type 0
Within n told = IfSome told.folder (λ k. k < n)

abbrev ReadWithin : ℕ → Read → Type 0
ReadWithin n read = IfSome read (λ r. Within n r.1)

later : (o : Option ℕ) (n : ℕ) → IfSome o (λ k. k < n) → IfSome o (λ k. k < n + 1)
later None n h = tt
later (Some k) n h = omega (arith, h)

either : {A : Type 0} (P : A → Type 0) (b : Bool) (x y : Option A) → IfSome x P → IfSome y P → IfSome (cond b x y) P
either P true x y h k = h
either P false x y h k = k

with_next : (n : ℕ) (next : Next) (o : Option Told) → IfSome o (Within n) → ReadWithin n (option_map (λ t. (next, t)) o)
with_next n next None h = tt
with_next n next (Some t) h = h

some_now : (n : ℕ) (told : Told) (o : Option ℕ) → Within n told → IfSome (option_map (λ m. record told { now = Some m }) o) (Within n)
some_now n told None h = tt
some_now n told (Some m) h = h

some_limit : (n : ℕ) (told : Told) (o : Option ℕ) → Within n told → IfSome (option_map (λ m. record told { log_limit = Some m }) o) (Within n)
some_limit n told None h = tt
some_limit n told (Some m) h = h

now_within : (n : ℕ) (text : List ℕ) (told : Told) → Within n told → IfSome (with_now text told) (Within n)
now_within n text told h = either (Within n) (is_some told.now) None _ tt (some_now n told (number_in text) h)

limit_within : (n : ℕ) (text : List ℕ) (told : Told) → Within n told → IfSome (with_limit text told) (Within n)
limit_within n text told h = either (Within n) (is_some told.log_limit) None _ tt (some_limit n told (limit_in text) h)

folder_within : (at : ℕ) (word : List ℕ) (told : Told) → IfSome (with_folder at word told) (Within (at + 1))
folder_within at [] told = tt
folder_within at (b ∷ bs) told = let here : at < at + 1 = omega arith in either (Within (at + 1)) (is_some told.folder) None (Some (record told { folder = Some at })) tt here

option_within : (n : ℕ) (next : Next) (with_value : List ℕ → Told → Option Told) (rest : List ℕ) (told : Told) → ((text : List ℕ) → IfSome (with_value text told) (Within n)) → Within n told → ReadWithin n (with_option next with_value rest told)
option_within n next with_value [] told each h = h
option_within n next with_value (b ∷ text) told each h = either (λ r. Within n r.1) (b == 61) _ None (with_next n Any (with_value text told) (each text)) tt

other_within : (at : ℕ) (word : List ℕ) (told : Told) → Within (at + 1) told → ReadWithin (at + 1) (with_other at word told)
other_within at [] told h = tt
other_within at (b ∷ bs) told h =
    either (λ r. Within (at + 1) r.1) (b == 45) _ _
    (either (λ r. Within (at + 1) r.1) (is_dash bs) (Some (Folder, told)) None h tt)
    (with_next (at + 1) Any (with_folder at (b ∷ bs) told) (folder_within at (b ∷ bs) told))

limit_or_other_within : (rest : Option (List ℕ)) (at : ℕ) (word : List ℕ) (told : Told) → Within (at + 1) told → ReadWithin (at + 1) (with_limit_or_other rest at word told)
limit_or_other_within (Some rest) at word told h = option_within (at + 1) LogLimit with_limit rest told (λ text. limit_within (at + 1) text told h) h
limit_or_other_within None at word told h = other_within at word told h

any_within : (rest : Option (List ℕ)) (at : ℕ) (word : List ℕ) (told : Told) → Within (at + 1) told → ReadWithin (at + 1) (with_any rest at word told)
any_within (Some rest) at word told h = option_within (at + 1) Now with_now rest told (λ text. now_within (at + 1) text told h) h
any_within None at word told h = limit_or_other_within (behind (codes "--log-limit") word) at word told h

word_within : (next : Next) (at : ℕ) (word : List ℕ) (told : Told) → Within (at + 1) told → ReadWithin (at + 1) (with_word next at word told)
word_within Any at word told h = any_within (behind (codes "--now") word) at word told h
word_within Now at word told h = with_next (at + 1) Any (with_now word told) (now_within (at + 1) word told h)
word_within LogLimit at word told h = with_next (at + 1) Any (with_limit word told) (limit_within (at + 1) word told h)
word_within Folder at word told h = with_next (at + 1) Folder (with_folder at word told) (folder_within at word told)

ended_within : (n : ℕ) (next : Next) (told : Told) → Within n told → IfSome (ended next told) (Within n)
ended_within n Any told h = h
ended_within n Now told h = tt
ended_within n LogLimit told h = tt
ended_within n Folder told h = h

-- with a word more, and then with the others
on : {A : Type 0} (P : Told → Type 0) (read : Option A) (R : A → Type 0) (f : A → Option Told) → IfSome read R → ((r : A) → R r → IfSome (f r) P) → IfSome (option_and_then f read) P
on P None R f h each = tt
on P (Some r) R f h each = each r h

told_within : (next : Next) (at : ℕ) (told : Told) (words : List (List ℕ)) → Within at told → IfSome (told_in next at told words) (Within (at + length words))
told_within next at told [] h =
    let e : at ≡ at + 0 = omega arith in
    subst (λ (n : ℕ). IfSome (ended next told) (Within n)) e (ended_within at next told h)
told_within next at told (word ∷ words) h =
    let e : (at + 1) + length words ≡ at + length (word ∷ words) = omega arith in
    subst (λ (n : ℕ). IfSome (told_in next at told (word ∷ words)) (Within n)) e
    (on (Within ((at + 1) + length words)) (with_word next at word told) (λ r. Within (at + 1) r.1) _ (word_within next at word told (later told.folder at h)) (λ r is. told_within r.0 (at + 1) r.1 words is))

abbrev with_place : Told → ℕ → Options
with_place told place = record { folder = place; now = told.now; log_limit = told.log_limit }

place_within : (n : ℕ) (told : Told) (o : Option ℕ) → IfSome o (λ k. k < n) → IfSome (option_map (with_place told) o) (λ o. o.folder < n)
place_within n told None h = tt
place_within n told (Some k) h = h

options_within : (n : ℕ) (told : Told) → Within n told → IfSome (options_of told) (λ o. o.folder < n)
options_within n told h = place_within n told told.folder h

then_options : (n : ℕ) (o : Option Told) → IfSome o (Within n) → IfSome (option_and_then options_of o) (λ o. o.folder < n)
then_options n None h = tt
then_options n (Some told) h = options_within n told h

pub inside : (words : List (List ℕ)) → IfSome (options_in words) (λ o. o.folder < length words)
inside [] = tt
inside (command ∷ words) =
    let e : 1 + length words ≡ length (command ∷ words) = omega arith in
    either (λ o. o.folder < length (command ∷ words)) (is_run command) _ None
    (subst (λ (n : ℕ). IfSome (option_and_then options_of (told_in Any 1 nothing words)) (λ o. o.folder < n)) e (then_options (1 + length words) (told_in Any 1 nothing words) (told_within Any 1 nothing words tt)))
    tt
