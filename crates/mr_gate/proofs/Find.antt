-- Where a walk of a log goes on, and where it ends.
use Rattle.std.proofs.Common.{◌≡◌, ◌≢◌, ◌⊎◌, inl, inr, ⊎_elim, ℕ, ◌+◌, ◌-◌, ◌*◌, ◌^◌, ◌≤◌, ◌<◌, true, false, ◌==◌, nat_lt, List, [], ◌∷◌, length, get_or, take, drop, refl, sym, ◌∙◌, ap, subst, arith, length-drop}
use Rattle.std.proofs.lemmas.List.{drop_more, drop_all, drop-drop, length-take-le, get_or-take, get_or-drop}
use Rattle.std.proofs.lemmas.Bool.{cases_Bool, and_parts, eqb-true, ltb-true, and_from, and_left, and_right, eq-eqb, lt-ltb, le-ltb, cases_lt}
use Rattle.mr_base.specs.declared.stop.Stop.TheVariants.{Damaged}
use Rattle.mr_gate.specs.Log.{size_of, is_whole, walk, span, is_bad_end, records_from, end_from}
use Rattle.mr_gate.specs.Gate.{IsDamage, next_size}
use Rattle.mr_gate.specs.Walked.{Walked, IsFound}
use Rattle.mr_gate.specs.declared.opening.Found.{Found}
use Rattle.mr_gate.proofs.Walk.{Ends, walk_nil, walk_record, walk_none, walk_end, good_end, begins}

module _ (from place records : ℕ) (file : List ℕ) (walked : Walked from file place records) where
  pub at_most : records ≤ length (records_from from file)
  at_most = omega (arith, walked.count)

  -- nothing is left
  module _ (none : walk 0 (drop place file) ≡ []) where
    pub end_is : place ≡ end_from from file
    end_is = omega (arith, walked.end, ap span none)

    pub count_is : records ≡ length (records_from from file)
    count_is = omega (arith, walked.count, ap length none)

  module _ (gate : ℕ) (is_gate : gate ≡ get_or file place 0) (inside : place < length file) where
    parts : drop place file ≡ gate ∷ drop (place + 1) file
    parts = drop_more file place 0 inside ∙ ap (λ g. g ∷ drop (place + 1) file) (sym is_gate)

    pub found : (f : Found) → f.place ≡ place → f.records ≡ records → f.gate ≡ gate → Ends gate (drop (place + 1) file) → IsFound from file f
    found f fp fr fg ends =
        let none : walk 0 (drop place file) ≡ [] = ap (walk 0) parts ∙ walk_end gate (drop (place + 1) file) ends in
        let end = end_is none in
        record {
          sound = subst (λ p. is_bad_end p (drop p file) ≡ false) end (ap (is_bad_end place) parts ∙ good_end place gate (drop (place + 1) file) ends);
          place = fp ∙ end;
          count = fr ∙ count_is none;
          gate = λ lt. fg ∙ is_gate ∙ ap (λ p. get_or file p 0) (sym fp);
        }

    module _ (open_gate : gate ≡ 167) (more : place + 1 < length file) where
      pub passed : (size : ℕ) → size ≡ size_of (drop (place + 1) file) → size ≤ 2 ^ 29 → size + 5 < length file - place → Walked from file (place + (size + 5)) (records + 1)
      passed size is small room =
          let behind = drop (place + 1) file in
          let whole : begins 167 behind ≡ true = and_from (nat_lt (size_of behind) (2 ^ 29 + 1)) (nat_lt (4 + size_of behind) (length behind)) (lt-ltb (size_of behind) (2 ^ 29 + 1) (omega (arith, is, small)))
          (lt-ltb (4 + size_of behind) (length behind) (omega (arith, is, room, length-drop (place + 1) file))) in
          let step : walk 0 (drop place file) ≡ take (size_of behind) (drop 4 behind) ∷ walk 0 (drop (4 + size_of behind) behind) =
          ap (walk 0) (parts ∙ ap (λ g. g ∷ behind) open_gate) ∙ walk_record 167 behind whole in
          let body : length (take (size_of behind) (drop 4 behind)) ≡ size = length-take-le (size_of behind) (drop 4 behind) (omega (arith, is, room, length-drop 4 behind, length-drop (place + 1) file)) ∙ sym is in
          let after : drop (4 + size_of behind) behind ≡ drop (place + (size + 5)) file = drop-drop (4 + size_of behind) (place + 1) file ∙ ap (λ n. drop n file) (omega (arith, is)) in
          let left : walk 0 (drop (4 + size_of behind) behind) ≡ walk 0 (drop (place + (size + 5)) file) = ap (walk 0) after in
          record {
            end = omega (arith, walked.end, ap span step, body, ap span left);
            count = omega (arith, walked.count, ap length step, ap length left);
          }

      pub damaged : (number size : ℕ) → (place + 5 ≤ length file → size ≡ size_of (drop (place + 1) file)) → (2 ^ 29 < size) ⊎ (length file - place ≤ size + 5) → IsDamage number from file (Damaged number place)
      damaged number size is bad =
          let behind = drop (place + 1) file in
          let part : is_whole behind ≡ false = elim (cases_lt (length file) (place + 5)) [
            | inl short ↦ and_right (nat_lt (size_of behind) (2 ^ 29 + 1)) (nat_lt (4 + size_of behind) (length behind)) (le-ltb (4 + size_of behind) (length behind) (omega (arith, short, length-drop (place + 1) file)))
            | inr long ↦ ⊎_elim
                (λ (big : 2 ^ 29 < size). and_left (nat_lt (size_of behind) (2 ^ 29 + 1)) (nat_lt (4 + size_of behind) (length behind)) (le-ltb (size_of behind) (2 ^ 29 + 1) (omega (arith, is long, big))))
                (λ (room : length file - place ≤ size + 5). and_right (nat_lt (size_of behind) (2 ^ 29 + 1)) (nat_lt (4 + size_of behind) (length behind)) (le-ltb (4 + size_of behind) (length behind) (omega (arith, is long, room, length-drop (place + 1) file))))
                bad
          ] in
          let none : walk 0 (drop place file) ≡ [] = ap (walk 0) parts ∙ walk_none gate behind (and_right (gate == 167) (is_whole behind) part) in
          let end = end_is none in
          let two : drop place file ≡ gate ∷ get_or file (place + 1) 0 ∷ drop (place + 1 + 1) file = parts ∙ ap (λ (l : List ℕ). gate ∷ l) (drop_more file (place + 1) 0 more) in
          record {
            damaged = subst (λ p. is_bad_end p (drop p file) ≡ true) end (ap (is_bad_end place) two ∙ eq-eqb gate 167 open_gate);
            is = ap (Damaged number) end;
          }

  pub past : (number : ℕ) → length file ≤ place → 0 < place + length file → IsDamage number from file (Damaged number place)
  past number le some =
      let nothing : drop place file ≡ [] = drop_all place file le in
      let end = end_is (ap (walk 0) nothing ∙ walk_nil) in
      record {
        damaged = subst (λ p. is_bad_end p (drop p file) ≡ true) end (ap (is_bad_end place) nothing ∙ lt-ltb 0 place (omega (arith, le, some)));
        is = ap (Damaged number) end;
      }

pub begun : (from : ℕ) (file : List ℕ) → Walked from file from 0
begun from file = record { end = refl; count = omega arith }

-- the gate, where a byte was read at a place
pub head_gate : (file out : List ℕ) (place n : ℕ) → take n out ≡ take n (drop place file) → 0 < n → get_or out 0 0 ≡ get_or file place 0
head_gate file out place n is some =
    let here : place + 0 ≡ place = omega arith in
    sym (get_or-take n out 0 0 some) ∙ ap (λ (l : List ℕ). get_or l 0 0) is ∙ get_or-take n (drop place file) 0 0 some ∙ get_or-drop place file 0 0 ∙ ap (λ m. get_or file m 0) here

-- the five bytes read at a place
module _ (file out : List ℕ) (place n : ℕ) (is : take n out ≡ take n (drop place file)) (five : n ≡ 5) where
  pub head_byte : (k j : ℕ) → j ≡ k + 1 → k < 4 → get_or out j 0 ≡ get_or (take 4 (drop (place + 1) file)) k 0
  head_byte k j is_j lt =
      let inside : j < n = omega (arith, five, is_j, lt) in
      let at : place + j ≡ place + 1 + k = omega (arith, is_j) in
      sym (get_or-take n out j 0 inside)
      ∙ ap (λ (l : List ℕ). get_or l j 0) is
      ∙ get_or-take n (drop place file) j 0 inside
      ∙ get_or-drop place file j 0
      ∙ ap (λ m. get_or file m 0) at
      ∙ sym (get_or-drop (place + 1) file k 0)
      ∙ sym (get_or-take 4 (drop (place + 1) file) k 0 lt)

  pub head_size : (size : ℕ) → size ≡ get_or out 1 0 * 16777216 + get_or out 2 0 * 65536 + get_or out 3 0 * 256 + get_or out 4 0 → size ≡ size_of (drop (place + 1) file)
  head_size size sum =
      let h0 = head_byte 0 1 refl (omega arith) in
      let h1 = head_byte 1 2 refl (omega arith) in
      let h2 = head_byte 2 3 refl (omega arith) in
      let h3 = head_byte 3 4 refl (omega arith) in
      sum ∙ (λ i. h0 i * 16777216 + h1 i * 65536 + h2 i * 256 + h3 i)

pub empty_found : (from : ℕ) (file : List ℕ) (f : Found) → from ≡ 0 → file ≡ [] → f.place ≡ from → f.records ≡ 0 → f.gate ≡ 0 → IsFound from file f
empty_found from file f at_start none fp fr fg =
    let nothing : drop from file ≡ [] = ap (drop from) none ∙ drop_all from [] (omega arith) in
    let walks : walk 0 (drop from file) ≡ [] = ap (walk 0) nothing ∙ walk_nil in
    let end = end_is from from 0 file (begun from file) walks in
    record {
      sound = subst (λ p. is_bad_end p (drop p file) ≡ false) end (ap (is_bad_end from) nothing ∙ le-ltb 0 from (omega (arith, at_start)));
      place = fp ∙ end;
      count = fr ∙ count_is from from 0 file (begun from file) walks;
      gate = λ lt. absurd (omega (arith, lt, ap length none));
    }

pub no_records : (bodies : List (List ℕ)) → span bodies ≡ 0 → bodies ≡ []
no_records [] is = refl
no_records (body ∷ bodies) is = absurd (omega (arith, is))

-- a record begins at a place in front of the end
pub record Next (at end : ℕ) (file : List ℕ) : Type 0 where
  pub gate : get_or file at 0 ≡ 167
  pub small : size_of (drop (at + 1) file) ≤ 2 ^ 29
  pub room : at + (size_of (drop (at + 1) file) + 5) ≤ end
  pub records : records_from at file ≡ take (size_of (drop (at + 1) file)) (drop (at + 5) file) ∷ records_from (at + (size_of (drop (at + 1) file) + 5)) file
  pub body : length (take (size_of (drop (at + 1) file)) (drop (at + 5) file)) ≡ size_of (drop (at + 1) file)

pub next_at : (at end : ℕ) (file : List ℕ) → end < length file → at + span (records_from at file) ≡ end → at ≢ end → Next at end file
next_at at end file inside ends apart =
    let gate = get_or file at 0 in
    let behind = drop (at + 1) file in
    let parts : drop at file ≡ gate ∷ behind = drop_more file at 0 (omega (arith, inside, ends)) in
    ⊎_elim
    (λ (whole : begins gate behind ≡ true).
    let tests = and_parts (gate == 167) (is_whole behind) whole in
    let sizes = and_parts (nat_lt (size_of behind) (2 ^ 29 + 1)) (nat_lt (4 + size_of behind) (length behind)) tests.1 in
    let room : 4 + size_of behind < length behind = ltb-true (4 + size_of behind) (length behind) sizes.1 in
    let small : size_of behind < 2 ^ 29 + 1 = ltb-true (size_of behind) (2 ^ 29 + 1) sizes.0 in
    let five : drop 4 behind ≡ drop (at + 5) file = drop-drop 4 (at + 1) file ∙ ap (λ n. drop n file) (omega arith) in
    let after : drop (4 + size_of behind) behind ≡ drop (at + (size_of behind + 5)) file = drop-drop (4 + size_of behind) (at + 1) file ∙ ap (λ n. drop n file) (omega arith) in
    let step : records_from at file ≡ take (size_of behind) (drop (at + 5) file) ∷ records_from (at + (size_of behind + 5)) file =
    ap (walk 0) parts ∙ walk_record gate behind whole ∙ ap (λ (l : List ℕ). take (size_of behind) l ∷ walk 0 (drop (4 + size_of behind) behind)) five ∙ ap (λ (l : List ℕ). take (size_of behind) (drop (at + 5) file) ∷ walk 0 l) after in
    let body : length (take (size_of behind) (drop (at + 5) file)) ≡ size_of behind = ap (λ (l : List ℕ). length (take (size_of behind) l)) (sym five) ∙ length-take-le (size_of behind) (drop 4 behind) (omega (arith, room, length-drop 4 behind)) in
    record {
      gate = eqb-true gate 167 tests.0;
      small = omega (arith, small);
      room = omega (arith, ends, ap span step, body);
      records = step;
      body = body;
    })
    (λ (none : begins gate behind ≡ false).
    let nothing : records_from at file ≡ [] = ap (walk 0) parts ∙ walk_none gate behind none in
    absurd (apart (omega (arith, ends, ap span nothing))))
    (cases_Bool (begins gate behind))

-- what reading it costs
pub next_size_is : (at end : ℕ) (file : List ℕ) → Next at end file → next_size at file ≡ 5 + size_of (drop (at + 1) file)
next_size_is at end file next = omega (arith, ap (λ (l : List (List ℕ)). span (take 1 l)) next.records, next.body)
