-- What a file of record_bytes bodies has.
use Rattle.std.proofs.Common.{◌≡◌, ◌≢◌, ◌⊎◌, inl, inr, ⊎_elim, ℕ, zero, suc, ◌+◌, ◌^◌, ◌≤◌, ◌<◌, Bool, true, false, ◌&&◌, ◌==◌, nat_lt, List, [], ◌∷◌, ◌++◌, length, get_or, take, drop, refl, sym, ◌∙◌, ap, subst, arith, append_assoc, length-append, length-drop, take-append-drop}
use Rattle.std.specs.Int.{w32, to_be_bytes, from_be_bytes}
use Rattle.std.proofs.lemmas.Nat.{be_bytes_4, from_be_bytes-to_be_bytes_4}
use Rattle.std.proofs.lemmas.List.{append-nil, take_at, drop_at, drop-drop, length-take-le, get_or-take, get_or-drop, get_or_past}
use Rattle.std.proofs.lemmas.Bool.{cases_Bool, cases_lt, cond-true, cond-false, and_parts, and_from, and_left, and_right, le-ltb, eqb-true, ne_eqb, ltb-true, lt-ltb}
use Rattle.mr_base.specs.Disk.{AreBytes}
use Rattle.mr_gate.specs.Log.{size_of, is_whole, walk, span, is_bad_end, records_from, end_from, IsLog, AreShort, record_bytes, frames}

pub small_push : (bodies : List (List ℕ)) (body : List ℕ) → AreShort bodies → length body ≤ 2 ^ 29 → AreShort (bodies ++ body ∷ [])
small_push [] body small le = (le, tt)
small_push (b ∷ bodies) body small le = (small.0, small_push bodies body small.1 le)

walk_skip : (k : ℕ) (l : List ℕ) → walk k l ≡ walk 0 (drop k l)
unfolding walk
walk_skip zero l = refl
walk_skip (suc k) [] = refl
walk_skip (suc k) (b ∷ rest) = walk_skip k rest

abbrev pub begins : ℕ → List ℕ → Bool
begins gate rest = (gate == 167) && is_whole rest

pub walk_nil : walk 0 [] ≡ []
unfolding walk
walk_nil = refl

pub walk_record : (gate : ℕ) (rest : List ℕ) → begins gate rest ≡ true → walk 0 (gate ∷ rest) ≡ take (size_of rest) (drop 4 rest) ∷ walk 0 (drop (4 + size_of rest) rest)
unfolding walk
walk_record gate rest is = cond-true (begins gate rest) _ _ is ∙ ap (λ (w : List (List ℕ)). take (size_of rest) (drop 4 rest) ∷ w) (walk_skip (4 + size_of rest) rest)

pub walk_none : (gate : ℕ) (rest : List ℕ) → begins gate rest ≡ false → walk 0 (gate ∷ rest) ≡ []
unfolding walk
walk_none gate rest isnt = cond-false (begins gate rest) _ _ isnt

walk_closed : (gate : ℕ) (rest : List ℕ) → gate ≢ 167 → walk 0 (gate ∷ rest) ≡ []
walk_closed gate rest shut = walk_none gate rest (and_left (gate == 167) (is_whole rest) (ne_eqb gate 167 shut))

pub length-frames : (bodies : List (List ℕ)) → length (frames bodies) ≡ span bodies
length-frames [] = refl
length-frames (body ∷ bodies) = omega (arith, length-append (record_bytes body) (frames bodies), length-append (to_be_bytes w32 (length body)) body, length-frames bodies)

pub span-append : (xs ys : List (List ℕ)) → span (xs ++ ys) ≡ span xs + span ys
span-append [] ys = omega arith
span-append (x ∷ xs) ys = omega (arith, span-append xs ys)

pub frames-append : (xs ys : List (List ℕ)) → frames (xs ++ ys) ≡ frames xs ++ frames ys
frames-append [] ys = refl
frames-append (x ∷ xs) ys = ap (λ (l : List ℕ). record_bytes x ++ l) (frames-append xs ys) ∙ sym (append_assoc (record_bytes x) (frames xs) (frames ys))

-- a whole record is read as it was written
whole_record : (behind four body t : List ℕ) → behind ≡ four ++ (body ++ t) → length four ≡ 4 → from_be_bytes w32 four ≡ length body → length body ≤ 2 ^ 29 → 0 < length t
    → walk 0 (167 ∷ behind) ≡ body ∷ walk 0 t
whole_record behind four body t is l4 n small more =
    let front : take 4 behind ≡ four = ap (λ (l : List ℕ). take 4 l) is ∙ take_at four (body ++ t) 4 l4 in
    let size : size_of behind ≡ length body = ap (λ (l : List ℕ). from_be_bytes w32 l) front ∙ n in
    let rest : drop 4 behind ≡ body ++ t = ap (λ (l : List ℕ). drop 4 l) is ∙ drop_at four (body ++ t) 4 l4 in
    let long : length behind ≡ 4 + (length body + length t) = omega (arith, ap length is, l4, length-append four (body ++ t), length-append body t) in
    let fits : nat_lt (size_of behind) (2 ^ 29 + 1) ≡ true = lt-ltb (size_of behind) (2 ^ 29 + 1) (omega (arith, size, small)) in
    let room : nat_lt (4 + size_of behind) (length behind) ≡ true = lt-ltb (4 + size_of behind) (length behind) (omega (arith, size, long, more)) in
    let whole : begins 167 behind ≡ true = and_from (nat_lt (size_of behind) (2 ^ 29 + 1)) (nat_lt (4 + size_of behind) (length behind)) fits room in
    let bodies : take (size_of behind) (drop 4 behind) ≡ body = ap (λ (l : List ℕ). take (size_of behind) l) rest ∙ take_at body t (size_of behind) (sym size) in
    let after : drop (4 + size_of behind) behind ≡ t = sym (drop-drop (size_of behind) 4 behind) ∙ ap (λ (l : List ℕ). drop (size_of behind) l) rest ∙ drop_at body t (size_of behind) (sym size) in
    walk_record 167 behind whole ∙ ap (λ (b : List ℕ). b ∷ walk 0 (drop (4 + size_of behind) behind)) bodies ∙ ap (λ (l : List ℕ). body ∷ walk 0 l) after

walk_record_bytes : (body t : List ℕ) → length body ≤ 2 ^ 29 → 0 < length t → walk 0 (record_bytes body ++ t) ≡ body ∷ walk 0 t
walk_record_bytes body t small more =
    let four = to_be_bytes w32 (length body) in
    whole_record (four ++ body ++ t) four body t (append_assoc four body t) refl (from_be_bytes-to_be_bytes_4 (length body) (omega (arith, small))) small more

pub walk_frames : (bodies : List (List ℕ)) (t : List ℕ) → AreShort bodies → 0 < length t → walk 0 (frames bodies ++ t) ≡ bodies ++ walk 0 t
walk_frames [] t small more = refl
walk_frames (body ∷ bodies) t small more =
    ap (walk 0) (append_assoc (record_bytes body) (frames bodies) t)
    ∙ walk_record_bytes body (frames bodies ++ t) small.0 (omega (arith, length-append (frames bodies) t, more))
    ∙ ap (λ (l : List (List ℕ)). body ∷ l) (walk_frames bodies t small.1 more)

-- and what is read was written so
pub record Split (bodies : List (List ℕ)) (l : List ℕ) : Type 0 where
  pub parts : l ≡ frames bodies ++ drop (span bodies) l
  pub small : AreShort bodies

same_head : (x y : List ℕ) (xs ys : List (List ℕ)) → (x ∷ xs) ≡ (y ∷ ys) → (x ≡ y) × (xs ≡ ys)
same_head x y xs ys e = (cc, cc)

drop_cons : (k m gate : ℕ) (rest : List ℕ) → k ≡ suc m → drop k (gate ∷ rest) ≡ drop m rest
drop_cons k m gate rest is = ap (λ n. drop n (gate ∷ rest)) is

assemble : (rest four body more tail : List ℕ) (size : ℕ) → take 4 rest ≡ four → take size (drop 4 rest) ≡ body → drop (4 + size) rest ≡ more ++ tail → rest ≡ four ++ body ++ more ++ tail
assemble rest four body more tail size is_four is_body is_more =
    let after : drop 4 rest ≡ body ++ (more ++ tail) =
    sym (take-append-drop size (drop 4 rest)) ∙ ap (λ (l : List ℕ). l ++ drop size (drop 4 rest)) is_body ∙ ap (λ (l : List ℕ). body ++ l) (drop-drop size 4 rest ∙ is_more) in
    sym (take-append-drop 4 rest) ∙ ap (λ (l : List ℕ). l ++ drop 4 rest) is_four ∙ ap (λ (l : List ℕ). four ++ l) after
    ∙ sym (append_assoc four body (more ++ tail)) ∙ sym (append_assoc (four ++ body) more tail)

take_bytes : (n : ℕ) (l : List ℕ) → AreBytes l → n ≤ length l → (i : ℕ) → get_or (take n l) i 0 < 256
take_bytes n l bytes le i = elim (cases_lt i n) [
  | inl lt ↦ subst (λ x. x < 256) (sym (get_or-take n l i 0 lt)) (bytes i)
  | inr ge ↦ subst (λ x. x < 256) (sym (get_or_past (take n l) i 0 (omega (arith, ge, length-take-le n l le)))) (omega arith)
]

pub split : (bodies : List (List ℕ)) (l : List ℕ) → AreBytes l → walk 0 l ≡ bodies → Split bodies l
split [] l bytes is = record { parts = refl; small = tt }
split (body ∷ bodies) [] bytes is = let no : [] ≡ (body ∷ bodies) = sym walk_nil ∙ is in cc
split (body ∷ bodies) (gate ∷ rest) bytes is = ⊎_elim
    (λ (yes : begins gate rest ≡ true).
    let size = size_of rest in
    let tests = and_parts (gate == 167) (is_whole rest) yes in
    let opened : gate ≡ 167 = eqb-true gate 167 tests.0 in
    let sizes = and_parts (nat_lt size (2 ^ 29 + 1)) (nat_lt (4 + size) (length rest)) tests.1 in
    let small : size < 2 ^ 29 + 1 = ltb-true size (2 ^ 29 + 1) sizes.0 in
    let room : 4 + size < length rest = ltb-true (4 + size) (length rest) sizes.1 in
    let both = same_head (take size (drop 4 rest)) body (walk 0 (drop (4 + size) rest)) bodies (sym (walk_record gate rest yes) ∙ is) in
    let rest_bytes : AreBytes rest = λ k. bytes (suc k) in
    let after = split bodies (drop (4 + size) rest) (λ k. subst (λ n. n < 256) (sym (get_or-drop (4 + size) rest k 0)) (rest_bytes (4 + size + k))) both.1 in
    let n : length body ≡ size = ap length (sym both.0) ∙ length-take-le size (drop 4 rest) (omega (arith, room, length-drop 4 rest)) in
    let four : to_be_bytes w32 (length body) ≡ take 4 rest = be_bytes_4 (take 4 rest) (length body) (length-take-le 4 rest (omega (arith, room))) (take_bytes 4 rest rest_bytes (omega (arith, room))) n in
    let whole = assemble rest (to_be_bytes w32 (length body)) body (frames bodies) (drop (span bodies) (drop (4 + size) rest)) size (sym four) both.0 after.parts in
    let tail : drop (span (body ∷ bodies)) (gate ∷ rest) ≡ drop (span bodies) (drop (4 + size) rest) =
    drop_cons (span (body ∷ bodies)) (4 + size + span bodies) gate rest (omega (arith, n)) ∙ sym (drop-drop (span bodies) (4 + size) rest) in
    record {
      parts = ap (λ (l : List ℕ). gate ∷ l) whole ∙ ap (λ g. g ∷ (to_be_bytes w32 (length body) ++ body ++ frames bodies ++ drop (span bodies) (drop (4 + size) rest))) opened
          ∙ ap (λ (l : List ℕ). frames (body ∷ bodies) ++ l) (sym tail);
      small = (omega (arith, small, n), after.small);
    })
    (λ (none : begins gate rest ≡ false). let no : [] ≡ (body ∷ bodies) = sym (walk_none gate rest none) ∙ is in cc)
    (cases_Bool (begins gate rest))

-- behind some of the records the others are read
pub walk_behind : (xs ys : List (List ℕ)) (l : List ℕ) → walk 0 l ≡ xs ++ ys → walk 0 (drop (span xs) l) ≡ ys
walk_behind [] ys l is = is
walk_behind (x ∷ xs) ys [] is = let no : [] ≡ (x ∷ (xs ++ ys)) = sym walk_nil ∙ is in cc
walk_behind (x ∷ xs) ys (gate ∷ rest) is = ⊎_elim
    (λ (yes : begins gate rest ≡ true).
    let size = size_of rest in
    let tests = and_parts (gate == 167) (is_whole rest) yes in
    let sizes = and_parts (nat_lt size (2 ^ 29 + 1)) (nat_lt (4 + size) (length rest)) tests.1 in
    let room : 4 + size < length rest = ltb-true (4 + size) (length rest) sizes.1 in
    let both = same_head (take size (drop 4 rest)) x (walk 0 (drop (4 + size) rest)) (xs ++ ys) (sym (walk_record gate rest yes) ∙ is) in
    let n : length x ≡ size = ap length (sym both.0) ∙ length-take-le size (drop 4 rest) (omega (arith, room, length-drop 4 rest)) in
    let tail : drop (span (x ∷ xs)) (gate ∷ rest) ≡ drop (span xs) (drop (4 + size) rest) =
    drop_cons (span (x ∷ xs)) (4 + size + span xs) gate rest (omega (arith, n)) ∙ sym (drop-drop (span xs) (4 + size) rest) in
    ap (walk 0) tail ∙ walk_behind xs ys (drop (4 + size) rest) both.1)
    (λ (none : begins gate rest ≡ false). let no : [] ≡ (x ∷ (xs ++ ys)) = sym (walk_none gate rest none) ∙ is in cc)
    (cases_Bool (begins gate rest))

-- a closed gate ends the records, and so does a gate with nothing behind it
abbrev pub Ends : ℕ → List ℕ → Type 0
Ends gate rest = (gate ≢ 167) ⊎ (rest ≡ [])

pub walk_end : (gate : ℕ) (rest : List ℕ) → Ends gate rest → walk 0 (gate ∷ rest) ≡ []
walk_end gate rest (inl shut) = walk_closed gate rest shut
walk_end gate [] (inr none) = walk_none gate [] (and_right (gate == 167) (is_whole []) (and_right (nat_lt (size_of []) (2 ^ 29 + 1)) (nat_lt (4 + size_of []) 0) (le-ltb (4 + size_of []) 0 (omega arith))))
walk_end gate (b ∷ rest) (inr none) = absurd (cc)

pub good_end : (place gate : ℕ) (rest : List ℕ) → Ends gate rest → is_bad_end place (gate ∷ rest) ≡ false
good_end place gate [] ends = refl
good_end place gate (b ∷ rest) (inl shut) = ne_eqb gate 167 shut
good_end place gate (b ∷ rest) (inr none) = absurd (cc)

pub log_of : (front : List ℕ) (bodies : List (List ℕ)) (gate : ℕ) (rest : List ℕ) (from : ℕ) → length front ≡ from → AreShort bodies → Ends gate rest → IsLog from bodies (front ++ frames bodies ++ gate ∷ rest)
log_of front bodies gate rest from at small ends =
    let file = front ++ frames bodies ++ gate ∷ rest in
    let behind : drop from file ≡ frames bodies ++ gate ∷ rest = ap (λ (l : List ℕ). drop from l) (append_assoc front (frames bodies) (gate ∷ rest)) ∙ drop_at front (frames bodies ++ gate ∷ rest) from at in
    let records : records_from from file ≡ bodies =
    ap (walk 0) behind ∙ walk_frames bodies (gate ∷ rest) small (omega arith) ∙ ap (λ (l : List (List ℕ)). bodies ++ l) (walk_end gate rest ends) ∙ append-nil bodies in
    let end : end_from from file ≡ from + span bodies = ap (λ (l : List (List ℕ)). from + span l) records in
    let tail : drop (end_from from file) file ≡ gate ∷ rest =
    ap (λ n. drop n file) end ∙ drop_at (front ++ frames bodies) (gate ∷ rest) (from + span bodies) (omega (arith, length-append front (frames bodies), at, length-frames bodies)) in
    record {
      records = records;
      sound = ap (λ (l : List ℕ). is_bad_end (end_from from file) l) tail ∙ good_end (end_from from file) gate rest ends;
    }
