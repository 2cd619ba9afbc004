-- Keys of the records that name families.
use Rattle.std.proofs.Common.{◌≡◌, ◌==◌, ◌&&◌, ℕ, ◌+◌, ◌<◌, ◌≤◌, ◌^◌, if◌then◌else◌, Bool, true, false, nat_eq, List, [], ◌∷◌, ◌++◌, length, take, drop, get_or, Option, Some, None, refl, sym, ◌∙◌, ap, subst, arith}
use Rattle.std.specs.Cmp.Lexicographic.{pointwise}
use Rattle.std.proofs.lemmas.Bool.Decides.{nat_tests}
use Rattle.std.proofs.lemmas.Nat.{be_bytes_4}
use Rattle.std.proofs.lemmas.List.{append-nil, get_or-drop, length-drop, take-append-drop}
use Rattle.byteorder.specs.Endian.{big_bytes, big_number}
use Rattle.byteorder.specs.Numbers.{big_from-lt, big_number-reads_back}
use Rattle.mr_stored.specs.Names.{family_kind, family_key}
use Rattle.mr_store_memory.specs.ByName.{number_in, IsKeyOf}

some_is : {m n : ℕ} → Some m ≡ Some n → m ≡ n
some_is e = cc

none_is_not : {n : ℕ} → ◌≡◌ {A = Option ℕ} None (Some n) → ⊥
none_is_not e = cc

and_parts : (a b : Bool) → (a && b) ≡ true → (a ≡ true) × (b ≡ true)
and_parts true b is = (refl, is)
and_parts false b is = cc

same_items : (xs ys : List ℕ) → pointwise nat_eq xs ys ≡ true → xs ≡ ys
same_items [] [] is = refl
same_items [] (y ∷ ys) is = cc
same_items (x ∷ xs) [] is = cc
same_items (x ∷ xs) (y ∷ ys) is =
    let parts = and_parts (nat_eq x y) (pointwise nat_eq xs ys) is in
    let heads : x ≡ y = grind (arith, nat_tests, parts.0) in
    let tails : xs ≡ ys = same_items xs ys parts.1 in
    cc

-- four bytes are those of their number
four_again : (bytes : List ℕ) → length bytes ≡ 4 → ((i : ℕ) → get_or bytes i 0 < 256) → big_bytes 4 (big_number 4 bytes) ≡ bytes
four_again bytes size small = be_bytes_4 bytes (big_number 4 bytes) size small (omega arith)

-- ---- a key of a family's record

abbrev is_kind : List ℕ → Bool
is_kind key = length key == 8 && pointwise nat_eq (take 4 key) family_kind

kind_of_some : (key : List ℕ) (n : ℕ) → number_in key ≡ Some n → (is_kind key ≡ true) × (big_number 4 (drop 4 key) ≡ n)
kind_of_some key n is = by (is_kind key) refl
  where
    by : (b : Bool) → is_kind key ≡ b → (is_kind key ≡ true) × (big_number 4 (drop 4 key) ≡ n)
    by true e = (e, some_is (sym (ap (λ (b : Bool). if b then Some (big_number 4 (drop 4 key)) else None) e) ∙ is))
    by false e = absurd (none_is_not (sym (ap (λ (b : Bool). if b then Some (big_number 4 (drop 4 key)) else None) e) ∙ is))

pub key_of_number : (key : List ℕ) (n : ℕ) → ((i : ℕ) → get_or key i 0 < 256) → number_in key ≡ Some n → key ≡ family_key n
key_of_number key n bytes is =
    let both = kind_of_some key n is in
    let parts = and_parts (length key == 8) (pointwise nat_eq (take 4 key) family_kind) both.0 in
    let size : length key ≡ 8 = grind (arith, nat_tests, parts.0) in
    let kind : take 4 key ≡ family_kind = same_items (take 4 key) family_kind parts.1 in
    let behind : length (drop 4 key) ≡ 4 = omega (arith, length-drop 4 key, size) in
    let number : big_bytes 4 (big_number 4 (drop 4 key)) ≡ drop 4 key = four_again (drop 4 key) behind (λ i. subst (λ (b : ℕ). b < 256) (sym (get_or-drop 4 key i 0)) (bytes (4 + i))) in
    sym (take-append-drop 4 key) ∙ ap (λ (front : List ℕ). front ++ drop 4 key) kind ∙ ap (λ (rest : List ℕ). family_kind ++ rest) (sym number ∙ ap (big_bytes 4) both.1)

pub number_of_key : (f : ℕ) → f < 2 ^ 32 → number_in (family_key f) ≡ Some f
number_of_key f small = ap (λ (n : ℕ). Some n) (ap (big_number 4) (sym (append-nil (big_bytes 4 f))) ∙ big_number-reads_back 4 f [] (omega (arith, small)))

pub key_of : (key : List ℕ) (n : ℕ) → ((i : ℕ) → get_or key i 0 < 256) → number_in key ≡ Some n → 2 ≤ n → IsKeyOf n key
key_of key n bytes is far =
    let below : big_number 4 (drop 4 key) < 256 ^ 4 = big_from-lt 0 4 (drop 4 key) (λ i. subst (λ (b : ℕ). b < 256) (sym (get_or-drop 4 key i 0)) (bytes (4 + i))) in
    record { far = far; small = omega (arith, below, (kind_of_some key n is).1); is = key_of_number key n bytes is }

-- two families' keys
pub same_number : (f g : ℕ) → f < 2 ^ 32 → g < 2 ^ 32 → family_key f ≡ family_key g → f ≡ g
same_number f g small small' same = some_is (sym (number_of_key f small) ∙ ap number_in same ∙ number_of_key g small')
