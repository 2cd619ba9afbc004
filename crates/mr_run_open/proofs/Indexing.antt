-- The index's entries, read one after the other.
use Rattle.std.proofs.Common.{◌≡◌, ℕ, zero, suc, ◌+◌, ◌<◌, ◌≤◌, ◌^◌, ◌==◌, List, [], ◌∷◌, ◌++◌, length, refl, ap, sym, ◌∙◌, arith, Bool, true, false, subst, append_assoc, Result, Ok, Err}
use Rattle.std.specs.List.{AllByRecursion}
use Rattle.std.proofs.lemmas.Bool.{leb-true, eqb-true}
use Rattle.mr_block.specs.Fields.{Read, ◌>>=◌, number_in}
use Rattle.mr_block.specs.Block.{key_in}
use Rattle.mr_run_file.specs.Reading.{Indexed, demand, ends_well, indexed_in, all_indexed_in}
use Rattle.mr_run_open.specs.Parts.{with_blocks}
use Rattle.mr_run_open.specs.Runs.{IsWithin}

-- the answer of a first step, where the next one is Ok
pub record Bound {X Y : Type 0} (r : Result X ℕ) (f : X → Result Y ℕ) (y : Y) : Type 0 where
  pub x : X
  pub now : r ≡ Ok x
  pub next : f x ≡ Ok y

pub bound : {X Y : Type 0} → (r : Result X ℕ) (f : X → Result Y ℕ) (y : Y) → (r >>= f) ≡ Ok y → Bound r f y
bound (Ok x) f y is = record { x = x; now = refl; next = is }
bound (Err at) f y is = cc

pub ok_same : {A : Type 0} (r : Result A ℕ) (x y : A) → r ≡ Ok x → r ≡ Ok y → x ≡ y
ok_same r x y e f = cc

pub held : (b : Bool) (at : ℕ) (u : Unit {0}) → demand b at ≡ Ok u → b ≡ true
held true at u is = refl
held false at u is = cc

well_within : (end more behind : ℕ) → ends_well end more behind ≡ true → behind ≤ end
well_within end zero behind is = let e : behind ≡ end = eqb-true behind end is in omega (arith, e)
well_within end (suc more) behind is = leb-true behind end is

-- a block stands where it has to, and ends before the end
pub block_stands : (end more at : ℕ) (bytes : List ℕ) (r : Indexed × List ℕ) → indexed_in end more at bytes ≡ Ok r → (r.0.place ≡ at) × (at + r.0.size ≤ end)
block_stands end more at bytes r is =
    let place = bound (number_in 8 bytes) _ r is in
    let adjoins = bound (demand (place.x.0 == at) (length bytes)) _ r place.next in
    let size = bound (number_in 4 place.x.1) _ r adjoins.next in
    let fits = bound (demand (ends_well end more (at + size.x.0)) (length place.x.1)) _ r size.next in
    let key = bound (key_in size.x.1) _ r fits.next in
    let same : (record { place = at; size = size.x.0; key = key.x.0 }, key.x.1) ≡ r = ok_same _ _ _ refl key.next in
    let room : at + size.x.0 ≤ end = well_within end more (at + size.x.0) (held _ _ fits.x fits.now) in
    subst (λ (p : Indexed × List ℕ). (p.0.place ≡ at) × (at + p.0.size ≤ end)) same (refl, room)

one_more : (done : List Indexed) (b : Indexed) (r : Read (List Indexed)) → with_blocks done (r >>= (λ others. Ok (b ∷ others.0, others.1))) ≡ with_blocks (done ++ b ∷ []) r
one_more done b (Ok r) = ap (λ (bs : List Indexed). Ok (bs, r.1)) (sym (append_assoc done (b ∷ []) r.0))
one_more done b (Err left) = refl

pub good_block : (end n more at : ℕ) (rest : List ℕ) (done : List Indexed) (r : Indexed × List ℕ) → n ≡ suc more → indexed_in end more at rest ≡ Ok r →
    with_blocks done (all_indexed_in end n at rest) ≡ with_blocks (done ++ r.0 ∷ []) (all_indexed_in end more (at + r.0.size) r.1)
good_block end n more at rest done r is read =
    ap (λ (k : ℕ). with_blocks done (all_indexed_in end k at rest)) is
    ∙ ap (λ (x : Read Indexed). with_blocks done (x >>= (λ one. all_indexed_in end more (at + one.0.size) one.1 >>= (λ others. Ok (one.0 ∷ others.0, others.1))))) read
    ∙ one_more done r.0 (all_indexed_in end more (at + r.0.size) r.1)

pub bad_block : (end n more at left : ℕ) (rest : List ℕ) (done : List Indexed) → n ≡ suc more → indexed_in end more at rest ≡ Err left → with_blocks done (all_indexed_in end n at rest) ≡ Err left
bad_block end n more at left rest done is read =
    ap (λ (k : ℕ). with_blocks done (all_indexed_in end k at rest)) is
    ∙ ap (λ (x : Read Indexed). with_blocks done (x >>= (λ one. all_indexed_in end more (at + one.0.size) one.1 >>= (λ others. Ok (one.0 ∷ others.0, others.1))))) read

append_none : (bs : List Indexed) → bs ++ [] ≡ bs
append_none [] = refl
append_none (b ∷ bs) = ap (λ (cs : List Indexed). b ∷ cs) (append_none bs)

-- nothing is left to be read
pub all_read : (end n at : ℕ) (rest : List ℕ) (done : List Indexed) → n ≡ 0 → with_blocks done (all_indexed_in end n at rest) ≡ Ok (done, rest)
all_read end n at rest done is = ap (λ (k : ℕ). with_blocks done (all_indexed_in end k at rest)) is ∙ ap (λ (bs : List Indexed). Ok (bs, rest)) (append_none done)

pub with_none : (r : Read (List Indexed)) → with_blocks [] r ≡ r
with_none (Ok r) = refl
with_none (Err left) = refl

-- all blocks that were read, and where they end
pub all_stand : (end n at : ℕ) (bytes : List ℕ) (r : List Indexed × List ℕ) → end < 2 ^ 64 → all_indexed_in end n at bytes ≡ Ok r → AllByRecursion IsWithin r.0 × (length r.0 ≡ n)
all_stand end zero at bytes r small is =
    let same : ([], bytes) ≡ r = ok_same _ _ _ refl is in
    subst (λ (p : List Indexed × List ℕ). AllByRecursion IsWithin p.0 × (length p.0 ≡ 0)) same (tt, refl)
all_stand end (suc n) at bytes r small is =
    let one = bound (indexed_in end n at bytes) _ r is in
    let others = bound (all_indexed_in end n (at + one.x.0.size) one.x.1) _ r one.next in
    let same : (one.x.0 ∷ others.x.0, others.x.1) ≡ r = ok_same _ _ _ refl others.next in
    let here = block_stands end n at bytes one.x one.now in
    let there = all_stand end n (at + one.x.0.size) one.x.1 others.x small others.now in
    let within : one.x.0.place + one.x.0.size < 2 ^ 64 = omega (arith, here.0, here.1, small) in
    subst (λ (p : List Indexed × List ℕ). AllByRecursion IsWithin p.0 × (length p.0 ≡ suc n)) same ((within, there.0), ap suc there.1)
