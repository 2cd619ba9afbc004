-- Changes of a list in chunks.
use Rattle.std.proofs.Common.{◌≡◌, ℕ, ◌+◌, ◌-◌, ◌<◌, ◌≤◌, List, [], ◌∷◌, ◌++◌, length, get_or, set, take, drop, suc, zero, refl, sym, ◌∙◌, ap, subst, arith, add-one, append_assoc, vec_capacity, length-drop}
use Rattle.std.proofs.lemmas.List.{take_all}
use Rattle.std.specs.List.{insert}
use Rattle.std.proofs.lemmas.List.Edits.{insert-append_left, insert-append_right}
use Rattle.mr_memtable.specs.declared.slot.Slot.{Slot}
use Rattle.mr_memtable.specs.declared.chunk.Chunk.{Chunk}
use Rattle.mr_memtable.specs.Chunks.{listed, sizes, sum_of, HaveRoom, AreSpare}

pub size_is : (cs : List Chunk) (i : ℕ) (c : Chunk) → i < length cs → c ≡ get_or cs i c → get_or (sizes cs) i 0 ≡ length c.slots.items
size_is [] i c lt at = absurd (omega arith)
size_is (b ∷ bs) zero c lt at = ap (λ (d : Chunk). length d.slots.items) (sym at)
size_is (b ∷ bs) (suc i) c lt at = size_is bs i c (omega arith) at

pub room_is : (cs : List Chunk) (i : ℕ) (c : Chunk) → i < length cs → c ≡ get_or cs i c → HaveRoom cs → 256 ≤ vec_capacity c.slots
room_is [] i c lt at all = absurd (omega arith)
room_is (b ∷ bs) zero c lt at all = subst (λ (d : Chunk). 256 ≤ vec_capacity d.slots) (sym at) all.0
room_is (b ∷ bs) (suc i) c lt at all = room_is bs i c (omega arith) at all.1

pub length-sizes : (cs : List Chunk) → length (sizes cs) ≡ length cs
length-sizes [] = refl
length-sizes (c ∷ cs) = ap suc (length-sizes cs)

pub sizes-set : (cs : List Chunk) (i : ℕ) (c : Chunk) → sizes (set cs i c) ≡ set (sizes cs) i (length c.slots.items)
sizes-set [] i c = refl
sizes-set (b ∷ bs) zero c = refl
sizes-set (b ∷ bs) (suc i) c = ap (λ (ns : List ℕ). length b.slots.items ∷ ns) (sizes-set bs i c)

pub sizes-insert : (cs : List Chunk) (i : ℕ) (c : Chunk) → i ≤ length cs → sizes (insert cs i c) ≡ insert (sizes cs) i (length c.slots.items)
sizes-insert cs zero c le = refl
sizes-insert [] (suc i) c le = absurd (omega arith)
sizes-insert (b ∷ bs) (suc i) c le = ap (λ (ns : List ℕ). length b.slots.items ∷ ns) (sizes-insert bs i c (omega arith))

pub rooms-set : (cs : List Chunk) (i : ℕ) (c : Chunk) → HaveRoom cs → 256 ≤ vec_capacity c.slots → HaveRoom (set cs i c)
rooms-set [] i c all here = tt
rooms-set (b ∷ bs) zero c all here = (here, all.1)
rooms-set (b ∷ bs) (suc i) c all here = (all.0, rooms-set bs i c all.1 here)

pub rooms-insert : (cs : List Chunk) (i : ℕ) (c : Chunk) → i ≤ length cs → HaveRoom cs → 256 ≤ vec_capacity c.slots → HaveRoom (insert cs i c)
rooms-insert cs zero c le all here = (here, all)
rooms-insert [] (suc i) c le all here = absurd (omega arith)
rooms-insert (b ∷ bs) (suc i) c le all here = (all.0, rooms-insert bs i c (omega arith) all.1 here)

-- an element more in chunk i
pub listed-set : (cs : List Chunk) (i : ℕ) (c new : Chunk) (place : ℕ) (x : Slot) → i < length cs → c ≡ get_or cs i c → place ≤ length c.slots.items → new.slots.items ≡ insert c.slots.items place x → listed (set cs i new) ≡ insert (listed cs) (sum_of (take i (sizes cs)) + place) x
listed-set [] i c new place x lt at le is = absurd (omega arith)
listed-set (b ∷ bs) zero c new place x lt at le is =
    let e : new.slots.items ≡ insert b.slots.items place x = is ∙ ap (λ (d : Chunk). insert d.slots.items place x) at in
    let n : place ≤ length b.slots.items = subst (λ (d : Chunk). place ≤ length d.slots.items) at le in
    let z : place ≡ 0 + place = omega arith in
    ap (λ (ys : List Slot). ys ++ listed bs) e ∙ sym (insert-append_left b.slots.items (listed bs) place x n) ∙ ap (λ (m : ℕ). insert (b.slots.items ++ listed bs) m x) z
listed-set (b ∷ bs) (suc i) c new place x lt at le is =
    let from : length b.slots.items ≤ (length b.slots.items + sum_of (take i (sizes bs))) + place = omega arith in
    let back : sum_of (take i (sizes bs)) + place ≡ ((length b.slots.items + sum_of (take i (sizes bs))) + place) - length b.slots.items = omega arith in
    ap (λ (ys : List Slot). b.slots.items ++ ys) (listed-set bs i c new place x (omega arith) at le is ∙ ap (λ (m : ℕ). insert (listed bs) m x) back)
    ∙ sym (insert-append_right b.slots.items (listed bs) (length b.slots.items) ((length b.slots.items + sum_of (take i (sizes bs))) + place) x refl from)

take_drop : (n : ℕ) (xs : List Slot) → take n xs ++ drop n xs ≡ xs
take_drop zero xs = refl
take_drop (suc n) [] = refl
take_drop (suc n) (x ∷ xs) = ap (λ ys. x ∷ ys) (take_drop n xs)

-- a chunk in two
pub listed-split : (cs : List Chunk) (i : ℕ) (c low high : Chunk) (half : ℕ) → i < length cs → c ≡ get_or cs i c → low.slots.items ≡ take half c.slots.items → high.slots.items ≡ drop half c.slots.items → listed (insert (set cs i low) (i + 1) high) ≡ listed cs
listed-split cs i c low high half lt at el eh = ap (λ (m : ℕ). listed (insert (set cs i low) m high)) (add-one i) ∙ go cs i lt at
  where
    go : (cs : List Chunk) (i : ℕ) → i < length cs → c ≡ get_or cs i c → listed (insert (set cs i low) (suc i) high) ≡ listed cs
    go [] i lt at = absurd (omega arith)
    go (b ∷ bs) zero lt at =
        sym (append_assoc low.slots.items high.slots.items (listed bs))
        ∙ ap (λ (ys : List Slot). ys ++ listed bs) (ap (λ (ys : List Slot). ys ++ high.slots.items) el ∙ ap (λ (ys : List Slot). take half c.slots.items ++ ys) eh ∙ take_drop half c.slots.items ∙ ap (λ (d : Chunk). d.slots.items) at)
    go (b ∷ bs) (suc i) lt at = ap (λ (ys : List Slot). b.slots.items ++ ys) (go bs i (omega arith) at)

-- what a slice to the end has
pub rest_of : {A : Type 0} (s xs : List A) (h : ℕ) → s ≡ [] → s ++ take (length xs - h) (drop h xs) ≡ drop h xs
rest_of {A = A} s xs h empty = ap (λ (ys : List A). ys ++ take (length xs - h) (drop h xs)) empty ∙ take_all (length xs - h) (drop h xs) (omega (arith, length-drop h xs))

pub last_spare : (cs : List Chunk) (c : Chunk) → AreSpare (cs ++ c ∷ []) → (256 ≤ vec_capacity c.slots) × (length c.slots.items < 1)
last_spare [] c all = all.0
last_spare (b ∷ bs) c all = last_spare bs c all.1

none_in : (xs : List Slot) → length xs < 1 → xs ≡ []
none_in [] lt = refl
none_in (x ∷ xs) lt = absurd (omega arith)

pub spare_empty : (cs : List Chunk) (c : Chunk) → AreSpare (cs ++ c ∷ []) → c.slots.items ≡ []
spare_empty cs c all = none_in c.slots.items (last_spare cs c all).1

one_slot : (xs : List Slot) (s : Slot) → length xs < 1 → xs ++ s ∷ [] ≡ s ∷ []
one_slot [] s lt = refl
one_slot (x ∷ xs) s lt = absurd (omega arith)

-- the first chunk, with one slot
pub first_listed : (c : Chunk) (cs : List Chunk) (old : List Slot) (s : Slot) → cs ≡ [] → length old < 1 → c.slots.items ≡ old ++ s ∷ [] → listed (c ∷ cs) ≡ s ∷ []
first_listed c [] old s none empty is = ap (λ (ys : List Slot). ys ++ []) (is ∙ one_slot old s empty)
first_listed c (b ∷ bs) old s none empty is = cc

pub first_sizes : (c : Chunk) (cs : List Chunk) (old : List Slot) (s : Slot) → cs ≡ [] → length old < 1 → c.slots.items ≡ old ++ s ∷ [] → sizes (c ∷ cs) ≡ 1 ∷ []
first_sizes c [] old s none empty is = ap (λ (ys : List Slot). length ys ∷ []) (is ∙ one_slot old s empty)
first_sizes c (b ∷ bs) old s none empty is = cc

pub first_rooms : (c : Chunk) (cs : List Chunk) → cs ≡ [] → 256 ≤ vec_capacity c.slots → HaveRoom (c ∷ cs)
first_rooms c [] none room = (room, tt)
first_rooms c (b ∷ bs) none room = cc
