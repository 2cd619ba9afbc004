-- The index of a run is read from its bytes, and from nothing else.
use Rattle.std.proofs.Common.{◌≡◌, ℕ, zero, suc, ◌+◌, ◌<◌, ◌^◌, ◌≤◌, ◌==◌, ◌&&◌, Bool, true, false, List, [], ◌∷◌, ◌++◌, length, take, refl, sym, ◌∙◌, ap, subst, arith, append_assoc, nat_eq, Ok, Err, inl, inr}
use Rattle.std.specs.List.{list_all, AllByRecursion}
use Rattle.std.specs.Cmp.Lexicographic.{pointwise}
use Rattle.std.proofs.lemmas.Bool.{eqb-true, cases_Bool}
use Rattle.byteorder.specs.Endian.{big_bytes}
use Rattle.mr_block.specs.Fields.{is_byte, number_in}
use Rattle.mr_block.specs.Block.{key_in}
use Rattle.mr_run_laws.proofs.Numbers.{and_true, IsRead, number_only, number_small, bytes_only}
use Rattle.mr_run_file.specs.Format.{key_bytes}
use Rattle.mr_run_file.specs.Reading.{Indexed, Index, demand, key_demand, ends_well, indexed_in, all_indexed_in, index_in}
use Rattle.mr_run_file.proofs.Lists.{bound, ok_same}

pub demanded : (b : Bool) (at : ℕ) (u : Unit {0}) → demand b at ≡ Ok u → b ≡ true
demanded true at u is = refl
demanded false at u is = cc

both_true : (a b : Bool) → a ≡ true → b ≡ true → (a && b) ≡ true
both_true true b e f = f
both_true false b e f = cc

pub bytes_front : (n : ℕ) (s : List ℕ) → list_all is_byte s ≡ true → list_all is_byte (take n s) ≡ true
bytes_front zero s e = refl
bytes_front (suc n) [] e = refl
bytes_front (suc n) (b ∷ s) e = let parts = and_true (is_byte b) (list_all is_byte s) e in both_true (is_byte b) (list_all is_byte (take n s)) parts.0 (bytes_front n s parts.1)

pub no_bytes : (xs : List ℕ) → length xs ≡ 0 → xs ≡ []
no_bytes [] e = refl
no_bytes (x ∷ xs) e = absurd (omega (arith, e))

append_none : (xs : List ℕ) → xs ++ [] ≡ xs
append_none [] = refl
append_none (x ∷ xs) = ap (λ (ys : List ℕ). x ∷ ys) (append_none xs)

pub same_keys : (key known : List ℕ) → pointwise nat_eq key known ≡ true → key ≡ known
same_keys [] [] e = refl
same_keys [] (y ∷ ys) e = cc
same_keys (x ∷ xs) [] e = cc
same_keys (x ∷ xs) (y ∷ ys) e =
    let parts = and_true (nat_eq x y) (pointwise nat_eq xs ys) e in
    let head : x ≡ y = eqb-true x y parts.0 in
    let tail : xs ≡ ys = same_keys xs ys parts.1 in
    cc

pub key_held : (known key : List ℕ) (at : ℕ) (u : Unit {0}) → key_demand known key at ≡ Ok u → key ≡ known
key_held known key at u is = elim (cases_Bool (nat_eq (length key) (length known))) [
  | inl long ↦ let there : demand (pointwise nat_eq key known) (at + 4) ≡ Ok u = rw long at is in same_keys key known (demanded _ _ u there)
  | inr other ↦ let no : Err at ≡ Ok u = rw other at is in cc
]

key_only : (s : List ℕ) (r : List ℕ × List ℕ) → list_all is_byte s ≡ true → key_in s ≡ Ok r → IsRead s (key_bytes r.0) r.1 × (length r.0 < 2 ^ 32)
key_only s r bytes is =
    let size = bound (number_in 4 s) _ r is in
    let e = number_only 4 s size.x bytes size.now in
    let v = bytes_only size.x.0 size.x.1 r e.rest_bytes size.next in
    let small : size.x.0 < 256 ^ 4 = number_small 4 s size.x bytes size.now in (
      record {
        whole = e.whole
            ∙ ap (λ (n : ℕ). big_bytes 4 n ++ size.x.1) (sym v.1)
            ∙ ap (λ (x : List ℕ). big_bytes 4 (length r.0) ++ x) v.0.whole
            ∙ sym (append_assoc (big_bytes 4 (length r.0)) r.0 r.1);
        rest_bytes = v.0.rest_bytes;
      },
      omega (arith, small, v.1),
    )

-- the index's entries, as bytes
abbrev pub one_bytes : Indexed → List ℕ
one_bytes b = big_bytes 8 b.place ++ (big_bytes 4 b.size ++ key_bytes b.key)

abbrev pub all_bytes : List Indexed → List ℕ
all_bytes [] = []
all_bytes (b ∷ bs) = one_bytes b ++ all_bytes bs

-- the blocks lie one after the other from a place up to the end
abbrev pub Lie : ℕ → ℕ → List Indexed → Type 0
Lie end at [] = at ≡ end
Lie end at (b ∷ bs) = (b.place ≡ at) × Lie end (at + b.size) bs

-- its lengths are in their fields
abbrev pub IsSmall : Indexed → Type 0
IsSmall b = (b.size < 2 ^ 32) × (length b.key < 2 ^ 32)

ends_at : (end more behind : ℕ) → ends_well end more behind ≡ true → more ≡ 0 → behind ≡ end
ends_at end zero behind is none = eqb-true behind end is
ends_at end (suc more) behind is none = absurd (omega (arith, none))

indexed_only : (end more at : ℕ) (s : List ℕ) (r : Indexed × List ℕ) → list_all is_byte s ≡ true → indexed_in end more at s ≡ Ok r →
    IsRead s (one_bytes r.0) r.1 × (r.0.place ≡ at) × (more ≡ 0 → at + r.0.size ≡ end) × IsSmall r.0
indexed_only end more at s r bytes is =
    let place = bound (number_in 8 s) _ r is in
    let pe = number_only 8 s place.x bytes place.now in
    let adjoins = bound (demand (place.x.0 == at) (length s)) _ r place.next in
    let same_at : place.x.0 ≡ at = eqb-true place.x.0 at (demanded _ _ adjoins.x adjoins.now) in
    let size = bound (number_in 4 place.x.1) _ r adjoins.next in
    let se = number_only 4 place.x.1 size.x pe.rest_bytes size.now in
    let few : size.x.0 < 256 ^ 4 = number_small 4 place.x.1 size.x pe.rest_bytes size.now in
    let fits = bound (demand (ends_well end more (at + size.x.0)) (length place.x.1)) _ r size.next in
    let key = bound (key_in size.x.1) _ r fits.next in
    let ke = key_only size.x.1 key.x se.rest_bytes key.now in
    let same : (record { place = at; size = size.x.0; key = key.x.0 }, key.x.1) ≡ r = ok_same _ _ _ refl key.next in
    let tail : place.x.1 ≡ (big_bytes 4 size.x.0 ++ key_bytes key.x.0) ++ key.x.1 =
    se.whole ∙ ap (λ (x : List ℕ). big_bytes 4 size.x.0 ++ x) ke.0.whole ∙ sym (append_assoc (big_bytes 4 size.x.0) (key_bytes key.x.0) key.x.1) in
    let whole : s ≡ (big_bytes 8 at ++ (big_bytes 4 size.x.0 ++ key_bytes key.x.0)) ++ key.x.1 =
    pe.whole ∙ ap (λ (n : ℕ). big_bytes 8 n ++ place.x.1) same_at ∙ ap (λ (x : List ℕ). big_bytes 8 at ++ x) tail ∙ sym (append_assoc (big_bytes 8 at) (big_bytes 4 size.x.0 ++ key_bytes key.x.0) key.x.1) in
    subst (λ (p : Indexed × List ℕ). IsRead s (one_bytes p.0) p.1 × (p.0.place ≡ at) × (more ≡ 0 → at + p.0.size ≡ end) × IsSmall p.0) same
    (record { whole = whole; rest_bytes = ke.0.rest_bytes }, refl, ends_at end more (at + size.x.0) (demanded _ _ fits.x fits.now), (omega (arith, few), ke.1))

all_only : (end n at : ℕ) (s : List ℕ) (r : List Indexed × List ℕ) → (n ≡ 0 → at ≡ end) → list_all is_byte s ≡ true → all_indexed_in end n at s ≡ Ok r →
    IsRead s (all_bytes r.0) r.1 × Lie end at r.0 × (length r.0 ≡ n) × AllByRecursion IsSmall r.0
all_only end zero at s r last bytes is =
    subst (λ (p : List Indexed × List ℕ). IsRead s (all_bytes p.0) p.1 × Lie end at p.0 × (length p.0 ≡ 0) × AllByRecursion IsSmall p.0) (ok_same (Ok ([], s)) ([], s) r refl is)
    (record { whole = refl; rest_bytes = bytes }, last refl, refl, tt)
all_only end (suc n) at s r last bytes is =
    let one = bound (indexed_in end n at s) _ r is in
    let o = indexed_only end n at s one.x bytes one.now in
    let others = bound (all_indexed_in end n (at + one.x.0.size) one.x.1) _ r one.next in
    let more = all_only end n (at + one.x.0.size) one.x.1 others.x o.2 o.0.rest_bytes others.now in
    let same : (one.x.0 ∷ others.x.0, others.x.1) ≡ r = ok_same _ _ _ refl others.next in
    let whole : s ≡ (one_bytes one.x.0 ++ all_bytes others.x.0) ++ others.x.1 =
    o.0.whole ∙ ap (λ (x : List ℕ). one_bytes one.x.0 ++ x) more.0.whole ∙ sym (append_assoc (one_bytes one.x.0) (all_bytes others.x.0) others.x.1) in
    subst (λ (p : List Indexed × List ℕ). IsRead s (all_bytes p.0) p.1 × Lie end at p.0 × (length p.0 ≡ suc n) × AllByRecursion IsSmall p.0) same
    (record { whole = whole; rest_bytes = more.0.rest_bytes }, (o.1, more.1), ap suc more.2, (o.3, more.3))

-- the index of so many blocks
pub record IsIndex (end n : ℕ) (s : List ℕ) (x : Index) : Type 0 where
  pub whole : s ≡ all_bytes x.blocks ++ key_bytes x.last
  pub lie : Lie end 0 x.blocks
  pub count : length x.blocks ≡ n
  pub small : AllByRecursion IsSmall x.blocks
  pub last : length x.last < 2 ^ 32

pub index_only : (end n : ℕ) (s : List ℕ) (x : Index) → 1 ≤ n → list_all is_byte s ≡ true → index_in end n s ≡ Ok x → IsIndex end n s x
index_only end n s x some bytes is =
    let all = bound (all_indexed_in end n 0 s) _ x is in
    let a = all_only end n 0 s all.x (λ none. absurd (omega (arith, none, some))) bytes all.now in
    let last = bound (key_in all.x.1) _ x all.next in
    let ke = key_only all.x.1 last.x a.0.rest_bytes last.now in
    let none_left = bound (demand (length last.x.1 == 0) (length last.x.1)) _ x last.next in
    let none : last.x.1 ≡ [] = no_bytes last.x.1 (eqb-true (length last.x.1) 0 (demanded _ _ none_left.x none_left.now)) in
    let same : record { blocks = all.x.0; last = last.x.0 } ≡ x = ok_same _ _ _ refl none_left.next in
    let tail : all.x.1 ≡ key_bytes last.x.0 = ke.0.whole ∙ ap (λ (y : List ℕ). key_bytes last.x.0 ++ y) none ∙ append_none (key_bytes last.x.0) in
    subst (λ (y : Index). IsIndex end n s y) same (record { whole = a.0.whole ∙ ap (λ (y : List ℕ). all_bytes all.x.0 ++ y) tail; lie = a.1; count = a.2; small = a.3; last = ke.1 })
