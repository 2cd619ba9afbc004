-- Rows with a key among rows that ascend by the primary one: at most one, where it is found.
use Rattle.std.proofs.Common.{◌≡◌, ℕ, zero, suc, ◌<◌, Bool, true, false, cond, not, ◌&&◌, ◌||◌, List, [], ◌∷◌, filter, get_or, length, refl, sym, ◌∙◌, ap, subst, arith, inl, inr}
use Rattle.std.specs.Prelude.{if◌then◌else◌}
use Rattle.std.specs.List.{AllByRecursion, list_any}
use Rattle.std.specs.Ordering.{is_gt, is_eq}
use Rattle.std.specs.declared.cmp.Ordering.{Ordering}
use Rattle.std.specs.declared.cmp.Ordering.TheVariants.{Less, Equal, Greater}
use Rattle.std.proofs.lemmas.Bool.{cases_Bool}
use Rattle.mr_types.specs.declared.definition.IndexDef.{IndexDef}
use Rattle.mr_types.specs.declared.definition.TableDef.{TableDef}
use Rattle.mr_types.specs.declared.row.Row.{Row}
use Rattle.mr_orders.specs.Orders.{IsAscending}
use Rattle.mr_orders.proofs.Tables.{before-all}
use Rattle.mr_spec.specs.Rows.{primary_cmp, same_primary, same_unique, clashes, is_visible, visible, without}
use Rattle.mr_model_rows.specs.Searching.{lower, IsThere, IsAbsent}
use Rattle.mr_model_rows.proofs.Searching.{data-order, equal-behind}

-- ---- without a unique secondary key

no-unique : (def : TableDef) (new row : Row) (keys : List IndexDef) → list_any (λ k. k.unique) keys ≡ false → list_any (same_unique def new row) keys ≡ false
no-unique def new row [] e = refl
no-unique def new row (k ∷ ks) e = elim (cases_Bool k.unique) [
  | inl u ↦ absurd (let f : list_any (λ k. k.unique) (k ∷ ks) ≡ true = rw u refl in cc)
  | inr u ↦ (
      let rest : list_any (λ k. k.unique) ks ≡ false = subst (λ b. (b || list_any (λ k. k.unique) ks) ≡ false) u e in
      rw u (no-unique def new row ks rest))
]

or-false : (b c : Bool) → c ≡ false → (b || c) ≡ b
or-false true c e = refl
or-false false c e = e

any-alike : (p q : Row → Bool) (rows : List Row) → ((r : Row) → p r ≡ q r) → list_any p rows ≡ list_any q rows
any-alike p q [] same = refl
any-alike p q (r ∷ rs) same = rw (same r) (ap (λ b. q r || b) (any-alike p q rs same))

pub plain_clash : (def : TableDef) (new : Row) (rows : List Row) → list_any (λ k. k.unique) def.secondary ≡ false → list_any (clashes def new) rows ≡ list_any (same_primary def new) rows
plain_clash def new rows e = any-alike (clashes def new) (same_primary def new) rows (λ r. or-false (same_primary def new r) (list_any (same_unique def new r) def.secondary) (no-unique def new r def.secondary e))

-- ---- by the primary key

none-behind : (def : TableDef) (q : Row → Bool) (key : Row) (rs : List Row) → AllByRecursion (λ s. primary_cmp def key s ≡ Less) rs → list_any (same_primary def key) (filter q rs) ≡ false
none-behind def q key [] all = refl
none-behind def q key (r ∷ rs) all = elim (cases_Bool (q r)) [
  | inl e ↦ rw e (rw all.0 (none-behind def q key rs all.1))
  | inr e ↦ rw e (none-behind def q key rs all.1)
]

pub any_there : (def : TableDef) (q : Row → Bool) (key : Row) (rows : List Row) (at : ℕ) → IsAscending def rows → IsThere def key rows at → list_any (same_primary def key) (filter q rows) ≡ q (get_or rows at key)
any_there def q key rows at all there = go rows all (subst (λ n. n < length rows) there.place there.within) (subst (λ n. same_primary def key (get_or rows n key) ≡ true) there.place there.same) ∙ ap (λ n. q (get_or rows n key)) (sym there.place)
  where
    go : (rows : List Row) → IsAscending def rows → lower def key rows < length rows → same_primary def key (get_or rows (lower def key rows) key) ≡ true → list_any (same_primary def key) (filter q rows) ≡ q (get_or rows (lower def key rows) key)
    go [] all h e = absurd (omega arith)
    go (r ∷ rs) all h e = elim (data-order (primary_cmp def key r)) [
      | inl o ↦ absurd (let f : same_primary def key (get_or (r ∷ rs) (lower def key (r ∷ rs)) key) ≡ false = rw o (rw o refl) in cc)
      | inr (inl o) ↦ elim (cases_Bool (q r)) [
        | inl t ↦ rw o (rw t (rw o refl))
        | inr t ↦ rw o (rw t (none-behind def q key rs (equal-behind def key r rs o all.0)))
      ]
      | inr (inr o) ↦ (
          let h' : suc (lower def key rs) < suc (length rs) = subst (λ a. (if is_gt a then suc (lower def key rs) else 0) < suc (length rs)) o h in
          let e' : same_primary def key (get_or (r ∷ rs) (suc (lower def key rs)) key) ≡ true = subst (λ a. same_primary def key (get_or (r ∷ rs) (if is_gt a then suc (lower def key rs) else 0) key) ≡ true) o e in
          let rest : list_any (same_primary def key) (filter q rs) ≡ q (get_or rs (lower def key rs) key) = go rs all.1 (omega arith) e' in
          elim (cases_Bool (q r)) [
            | inl t ↦ rw t (rw o rest)
            | inr t ↦ rw t (rw o rest)
          ])
    ]

pub any_absent : (def : TableDef) (q : Row → Bool) (key : Row) (rows : List Row) (at : ℕ) → IsAscending def rows → IsAbsent def key rows at → list_any (same_primary def key) (filter q rows) ≡ false
any_absent def q key rows at all absent = go rows all (subst (λ n. n < length rows → same_primary def key (get_or rows n key) ≡ false) absent.place absent.apart)
  where
    go : (rows : List Row) → IsAscending def rows → (lower def key rows < length rows → same_primary def key (get_or rows (lower def key rows) key) ≡ false) → list_any (same_primary def key) (filter q rows) ≡ false
    go [] all apart = refl
    go (r ∷ rs) all apart = elim (data-order (primary_cmp def key r)) [
      | inl o ↦ none-behind def q key (r ∷ rs) (o, before-all def key r rs o all.0)
      | inr (inl o) ↦ absurd (
          let f : same_primary def key r ≡ false = subst (λ a. (if is_gt a then suc (lower def key rs) else 0) < suc (length rs) → same_primary def key (get_or (r ∷ rs) (if is_gt a then suc (lower def key rs) else 0) key) ≡ false) o apart (omega arith) in
          let g : same_primary def key r ≡ true = rw o refl in cc)
      | inr (inr o) ↦ (
          let apart' : suc (lower def key rs) < suc (length rs) → same_primary def key (get_or (r ∷ rs) (suc (lower def key rs)) key) ≡ false = subst (λ a. (if is_gt a then suc (lower def key rs) else 0) < suc (length rs) → same_primary def key (get_or (r ∷ rs) (if is_gt a then suc (lower def key rs) else 0) key) ≡ false) o apart in
          let rest : list_any (same_primary def key) (filter q rs) ≡ false = go rs all.1 (λ h. apart' (omega arith)) in
          elim (cases_Bool (q r)) [
            | inl t ↦ rw t (rw o rest)
            | inr t ↦ rw t rest
          ])
    ]

-- ---- among the visible rows, and those of them that don't have another's key

any-default : (rows : List Row) (n : ℕ) (d e : Row) → n < length rows → get_or rows n d ≡ get_or rows n e
any-default [] n d e h = absurd (omega arith)
any-default (r ∷ rs) zero d e h = refl
any-default (r ∷ rs) (suc n) d e h = any-default rs n d e (omega arith)

pub seen_there : (def : TableDef) (moment : ℕ) (new : Row) (rows : List Row) (at : ℕ) (row : Row) → IsAscending def rows → IsThere def new rows at → row ≡ get_or rows at row → list_any (same_primary def new) (visible def moment rows) ≡ is_visible def moment row
seen_there def moment new rows at row all there is = any_there def (is_visible def moment) new rows at all there ∙ ap (is_visible def moment) (any-default rows at new row there.within ∙ sym is)

pub seen_absent : (def : TableDef) (moment : ℕ) (new : Row) (rows : List Row) (at : ℕ) → IsAscending def rows → IsAbsent def new rows at → list_any (same_primary def new) (visible def moment rows) ≡ false
seen_absent def moment new rows at all absent = any_absent def (is_visible def moment) new rows at all absent

twice : (p q : Row → Bool) (rows : List Row) → filter p (filter q rows) ≡ filter (λ r. q r && p r) rows
twice p q [] = refl
twice p q (r ∷ rs) = elim (cases_Bool (q r)) [
  | inl e ↦ elim (cases_Bool (p r)) [
    | inl f ↦ rw e (rw f (ap (λ l. r ∷ l) (twice p q rs)))
    | inr f ↦ rw e (rw f (twice p q rs))
  ]
  | inr e ↦ rw e (twice p q rs)
]

pub beside_there : (def : TableDef) (moment : ℕ) (old new : Row) (rows : List Row) (at : ℕ) (row : Row) → IsAscending def rows → IsThere def new rows at → row ≡ get_or rows at row → list_any (same_primary def new) (without def old (visible def moment rows)) ≡ (is_visible def moment row && not (same_primary def old row))
beside_there def moment old new rows at row all there is =
    ap (list_any (same_primary def new)) (twice (λ r. not (same_primary def old r)) (is_visible def moment) rows)
    ∙ any_there def (λ r. is_visible def moment r && not (same_primary def old r)) new rows at all there
    ∙ ap (λ r. is_visible def moment r && not (same_primary def old r)) (any-default rows at new row there.within ∙ sym is)

pub beside_absent : (def : TableDef) (moment : ℕ) (old new : Row) (rows : List Row) (at : ℕ) → IsAscending def rows → IsAbsent def new rows at → list_any (same_primary def new) (without def old (visible def moment rows)) ≡ false
beside_absent def moment old new rows at all absent =
    ap (list_any (same_primary def new)) (twice (λ r. not (same_primary def old r)) (is_visible def moment) rows)
    ∙ any_absent def (λ r. is_visible def moment r && not (same_primary def old r)) new rows at all absent
