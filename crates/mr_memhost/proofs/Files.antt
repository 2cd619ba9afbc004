-- What a read gives after each kind of call may be left.
use Rattle.std.proofs.Common.{◌≡◌, ◌⊎◌, inl, inr, ℕ, ◌+◌, ◌-◌, ◌≤◌, ◌<◌, max, List, [], ◌∷◌, ◌++◌, length, get_or, take, drop, refl, sym, ◌∙◌, ap, subst, arith, length-append, length-take, length-drop}
use Rattle.std.proofs.lemmas.List.{length-take-le, get_or_append_left, get_or-append_right, get_or-take, get_or-drop, get_or_past}
use Rattle.std.proofs.lemmas.Bool.{cases_lt}
use Rattle.mr_base.specs.Disk.{AreBytes, IsIn, File, MayLeave, at_rest, overwrite, IsWithin, write_begun, cut_begun}
use Rattle.mr_memhost.specs.Story.{PendsMore, written, cut}

module _ (at : ℕ) (bytes old : List ℕ) (le : at ≤ length old) where
  front : length (take at old) ≡ at
  front = length-take-le at old le

  both : length (take at old ++ bytes) ≡ at + length bytes
  both = omega (arith, front, length-append (take at old) bytes)

  pub length-overwrite : length (overwrite at bytes old) ≡ max (length old) (at + length bytes)
  length-overwrite = omega (arith, both, length-append (take at old ++ bytes) (drop (at + length bytes) old), length-drop (at + length bytes) old)

  pub get_before : (k : ℕ) → k < at → get_or (overwrite at bytes old) k 0 ≡ get_or old k 0
  get_before k lt =
      get_or_append_left (take at old ++ bytes) (drop (at + length bytes) old) 0 k (omega (arith, both, lt))
      ∙ get_or_append_left (take at old) bytes 0 k (omega (arith, front, lt)) ∙ get_or-take at old k 0 lt

  pub get_inside : (k : ℕ) → at ≤ k → k < at + length bytes → get_or (overwrite at bytes old) k 0 ≡ get_or bytes (k - at) 0
  get_inside k ge lt =
      get_or_append_left (take at old ++ bytes) (drop (at + length bytes) old) 0 k (omega (arith, both, lt))
      ∙ get_or-append_right (take at old) bytes at k 0 front ge

  pub get_behind : (k : ℕ) → at + length bytes ≤ k → get_or (overwrite at bytes old) k 0 ≡ get_or old k 0
  get_behind k ge =
      get_or-append_right (take at old ++ bytes) (drop (at + length bytes) old) (at + length bytes) k 0 both ge
      ∙ get_or-drop (at + length bytes) old (k - (at + length bytes)) 0 ∙ ap (λ n. get_or old n 0) (omega (arith, ge))

  pub overwrite_bytes : AreBytes bytes → AreBytes old → AreBytes (overwrite at bytes old)
  overwrite_bytes these those k = elim (cases_lt k at) [
    | inl lt ↦ subst (λ n. n < 256) (sym (get_before k lt)) (those k)
    | inr ge ↦ elim (cases_lt k (at + length bytes)) as (λ _. get_or (overwrite at bytes old) k 0 < 256) [
      | inl lt ↦ subst (λ n. n < 256) (sym (get_inside k ge lt)) (these (k - at))
      | inr past ↦ subst (λ n. n < 256) (sym (get_behind k past)) (those k)
    ]
  ]

-- the ranges so far, and one more
pub in_more : (rs : List (ℕ × ℕ)) (r : ℕ × ℕ) (k : ℕ) → IsIn rs k ⊎ ((r.0 ≤ k) × (k < r.0 + r.1)) → IsIn (rs ++ r ∷ []) k
in_more [] r k (inl none) = elim none [ ]
in_more [] r k (inr here) = inl here
in_more (s ∷ rs) r k (inl (inl first)) = inl first
in_more (s ∷ rs) r k (inl (inr later)) = inr (in_more rs r k (inl later))
in_more (s ∷ rs) r k (inr here) = inr (in_more rs r k (inr here))

pub in_either : (rs : List (ℕ × ℕ)) (r : ℕ × ℕ) (k : ℕ) → IsIn (rs ++ r ∷ []) k → IsIn (r ∷ rs) k
in_either [] r k (inl here) = inl here
in_either [] r k (inr none) = elim none [ ]
in_either (s ∷ rs) r k (inl first) = inr (inl first)
in_either (s ∷ rs) r k (inr later) = elim (in_either rs r k later) as (λ _. IsIn (r ∷ s ∷ rs) k) [ inl here ↦ inl here | inr one ↦ inr (inr one) ]

pub written_left : (at : ℕ) (bytes : List ℕ) (f : File) → at ≤ length f.bytes → AreBytes bytes → MayLeave f f.bytes → MayLeave (written at bytes f) (written at bytes f).bytes
written_left at bytes f le these left = record {
  no_shorter = omega (arith, length-overwrite at bytes f.bytes le, left.no_shorter);
  no_longer = omega (arith, length-overwrite at bytes f.bytes le, left.no_longer);
  kept = λ k lt out. elim (cases_lt k at) as (λ _. get_or (overwrite at bytes f.bytes) k 0 ≡ get_or f.stable k 0) [
    | inl before ↦ get_before at bytes f.bytes le k before ∙ left.kept k lt (λ in_it. out (in_more f.written (at, length bytes) k (inl in_it)))
    | inr ge ↦ elim (cases_lt k (at + length bytes)) as (λ _. get_or (overwrite at bytes f.bytes) k 0 ≡ get_or f.stable k 0) [
      | inl inside ↦ absurd (out (in_more f.written (at, length bytes) k (inr (ge, inside))))
      | inr past ↦ get_behind at bytes f.bytes le k past ∙ left.kept k lt (λ in_it. out (in_more f.written (at, length bytes) k (inl in_it)))
    ]
  ];
  are_bytes = overwrite_bytes at bytes f.bytes le these left.are_bytes;
}

take_bytes : (n : ℕ) (l : List ℕ) → AreBytes l → AreBytes (take n l)
take_bytes n l bytes k = elim (cases_lt k n) [
  | inl lt ↦ subst (λ x. x < 256) (sym (get_or-take n l k 0 lt)) (bytes k)
  | inr ge ↦ subst (λ x. x < 256) (sym (get_or_past (take n l) k 0 (omega (arith, ge, length-take n l)))) (omega arith)
]

pub cut_left : (to : ℕ) (f : File) → to ≤ length f.bytes → MayLeave f f.bytes → MayLeave (cut to f) (cut to f).bytes
cut_left to f le left = record {
  no_shorter = omega (arith, length-take-le to f.bytes le);
  no_longer = omega (arith, length-take-le to f.bytes le, le, left.no_longer);
  kept = λ k lt out. get_or-take to f.bytes k 0 (omega (arith, lt)) ∙ left.kept k (omega (arith, lt)) out;
  are_bytes = take_bytes to f.bytes left.are_bytes;
}

pub rest_left : (bytes : List ℕ) → AreBytes bytes → MayLeave (at_rest bytes) bytes
rest_left bytes are = record { no_shorter = omega arith; no_longer = omega arith; kept = λ k lt out. refl; are_bytes = are }

pub within_written : (at : ℕ) (bytes : List ℕ) (f : File) → IsWithin (written at bytes f) (write_begun at (length bytes) f)
within_written at bytes f = record { stable = refl; written = λ k in_it. in_either f.written (at, length bytes) k in_it; least = omega arith; greatest = omega arith }

pub within_cut : (to : ℕ) (f : File) → IsWithin (cut to f) (cut_begun to f)
within_cut to f = record { stable = refl; written = λ k in_it. in_it; least = omega arith; greatest = omega arith }

-- a call only adds to what is pending
pub written_more : (at : ℕ) (bytes : List ℕ) (f : File) → IsWithin f (written at bytes f)
written_more at bytes f = record { stable = refl; written = λ k in_it. in_more f.written (at, length bytes) k (inl in_it); least = omega arith; greatest = omega arith }

pub cut_more : (to : ℕ) (f : File) → IsWithin f (cut to f)
cut_more to f = record { stable = refl; written = λ k in_it. in_it; least = omega arith; greatest = omega arith }

-- and a call that has begun has changed nothing yet
pub within_begun : (at n : ℕ) (f : File) → IsWithin f (write_begun at n f)
within_begun at n f = record { stable = refl; written = λ k in_it. inr in_it; least = omega arith; greatest = omega arith }

pub within_cut_begun : (to : ℕ) (f : File) → IsWithin f (cut_begun to f)
within_cut_begun to f = record { stable = refl; written = λ k in_it. in_it; least = omega arith; greatest = omega arith }

pub as_much : (f : File) → PendsMore f f
as_much f = record { written = λ k out. out; least = omega arith }

pub written_pends : (at : ℕ) (bytes : List ℕ) (f : File) → PendsMore f (written at bytes f)
written_pends at bytes f = record { written = λ k out in_it. out (in_more f.written (at, length bytes) k (inl in_it)); least = omega arith }

pub cut_pends : (to : ℕ) (f : File) → PendsMore f (cut to f)
cut_pends to f = record { written = λ k out. out; least = omega arith }
