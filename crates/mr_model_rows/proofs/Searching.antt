-- What is found by halving among rows that ascend, and what a change makes of the list there.
use Rattle.std.proofs.Common.{◌≡◌, ◌≢◌, ℕ, zero, suc, ◌+◌, ◌-◌, ◌<◌, ◌≤◌, Bool, true, false, cond, not, ◌⊎◌, ◌&&◌, ◌||◌, List, [], ◌∷◌, ◌++◌, if◌then◌else◌, length, take, drop, filter, get_or, remove, slice_set, refl, sym, ◌∙◌, ap, subst, arith, inl, inr}
use Rattle.std.specs.List.{AllByRecursion, list_any}
use Rattle.std.specs.Ordering.{is_gt, is_eq, is_lt, ordering_reverse}
use Rattle.std.specs.declared.cmp.Ordering.{Ordering}
use Rattle.std.specs.declared.cmp.Ordering.TheVariants.{Less, Equal, Greater}
use Rattle.std.proofs.lemmas.Bool.{cases_Bool, cases_lt}
use Rattle.mr_types.specs.declared.definition.TableDef.{TableDef}
use Rattle.mr_types.specs.declared.row.Row.{Row}
use Rattle.mr_orders.specs.Orders.{IsAscending}
use Rattle.mr_orders.proofs.Totals.{primary_total}
use Rattle.mr_orders.proofs.Tables.{before-all}
use Rattle.mr_spec.specs.Rows.{primary_cmp, same_primary, placed, without, put}
use Rattle.mr_model_rows.specs.Searching.{lower, IsThere, IsAbsent}

greater-of : (a : Ordering) → is_gt a ≡ true → a ≡ Greater
greater-of Less e = cc
greater-of Equal e = cc
greater-of Greater e = refl

pub behind-key : (def : TableDef) (key : Row) (rows : List Row) (n : ℕ) → n < length rows → is_gt (primary_cmp def key (get_or rows n key)) ≡ false → lower def key rows ≤ n
behind-key def key [] n h e = absurd (omega arith)
behind-key def key (r ∷ rs) zero h e = rw e (omega arith)
behind-key def key (r ∷ rs) (suc n) h e = elim (cases_Bool (is_gt (primary_cmp def key r))) [
  | inl g ↦ rw g (let less : lower def key rs ≤ n = behind-key def key rs n (omega arith) e in omega arith)
  | inr g ↦ rw g (omega arith)
]

each-at : (P : Row → Type 0) (rs : List Row) (n : ℕ) (d : Row) → n < length rs → AllByRecursion P rs → P (get_or rs n d)
each-at P [] n d h all = absurd (omega arith)
each-at P (r ∷ rs) zero d h all = all.0
each-at P (r ∷ rs) (suc n) d h all = each-at P rs n d (omega arith) all.1

-- a row in front of one that comes before the key comes before it too
front-before : (def : TableDef) (key r s : Row) → primary_cmp def r s ≡ Less → primary_cmp def key s ≡ Greater → primary_cmp def key r ≡ Greater
front-before def key r s less gt =
    let back : primary_cmp def s key ≡ Less = (primary_total def).antisymm s key ∙ ap ordering_reverse gt in
    (primary_total def).antisymm key r ∙ ap ordering_reverse ((primary_total def).trans r s key less back)

pub before-key : (def : TableDef) (key : Row) (rows : List Row) (n : ℕ) → IsAscending def rows → n < length rows → is_gt (primary_cmp def key (get_or rows n key)) ≡ true → n < lower def key rows
before-key def key [] n all h e = absurd (omega arith)
before-key def key (r ∷ rs) zero all h e = rw e (omega arith)
before-key def key (r ∷ rs) (suc n) all h e =
    let less : primary_cmp def r (get_or rs n key) ≡ Less = each-at (λ s. primary_cmp def r s ≡ Less) rs n key (omega arith) all.0 in
    let here : is_gt (primary_cmp def key r) ≡ true = ap is_gt (front-before def key r (get_or rs n key) less (greater-of (primary_cmp def key (get_or rs n key)) e)) in
    rw here (let more : n < lower def key rs = before-key def key rs n all.1 (omega arith) e in omega arith)

pub lower-short : (def : TableDef) (key : Row) (rows : List Row) → lower def key rows ≤ length rows
lower-short def key [] = omega arith
lower-short def key (r ∷ rs) = elim (cases_Bool (is_gt (primary_cmp def key r))) [
  | inl g ↦ rw g (let less : lower def key rs ≤ length rs = lower-short def key rs in omega arith)
  | inr g ↦ rw g (omega arith)
]

pub lower_at : (def : TableDef) (key : Row) (rows : List Row) (low high : ℕ) → IsAscending def rows → low ≤ high → high ≤ low → high ≤ length rows → (0 < low → is_gt (primary_cmp def key (get_or rows (low - 1) key)) ≡ true) → (high < length rows → is_gt (primary_cmp def key (get_or rows high key)) ≡ false) → low ≡ lower def key rows
lower_at def key rows zero high all order done within before behind = elim (cases_lt high (length rows)) [
  | inl h ↦ (let less : lower def key rows ≤ high = behind-key def key rows high h (behind h) in omega arith)
  | inr h ↦ (let short : lower def key rows ≤ length rows = lower-short def key rows in omega arith)
]
lower_at def key rows (suc low) high all order done within before behind =
    let more : low < lower def key rows = before-key def key rows low all (omega arith) (subst (λ n. is_gt (primary_cmp def key (get_or rows n key)) ≡ true) (omega arith) (before (omega arith))) in
    elim (cases_lt high (length rows)) [
      | inl h ↦ (let less : lower def key rows ≤ high = behind-key def key rows high h (behind h) in omega arith)
      | inr h ↦ (let short : lower def key rows ≤ length rows = lower-short def key rows in omega arith)
    ]

-- ---- a row taken out, or put in

-- behind the key, no row has it
untouched : (def : TableDef) (key : Row) (rs : List Row) → AllByRecursion (λ s. primary_cmp def key s ≡ Less) rs → without def key rs ≡ rs
untouched def key [] all = refl
untouched def key (r ∷ rs) all = rw all.0 (ap (λ l. r ∷ l) (untouched def key rs all.1))

first-behind : (def : TableDef) (key : Row) (rs : List Row) → AllByRecursion (λ s. primary_cmp def key s ≡ Less) rs → placed def key rs ≡ key ∷ rs
first-behind def key [] all = refl
first-behind def key (r ∷ rs) all = rw all.0 refl

-- what a row comes before, one with its key does too
pub equal-behind : (def : TableDef) (key r : Row) (rs : List Row) → primary_cmp def key r ≡ Equal → AllByRecursion (λ s. primary_cmp def r s ≡ Less) rs → AllByRecursion (λ s. primary_cmp def key s ≡ Less) rs
equal-behind def key r [] e all = tt
equal-behind def key r (s ∷ rs) e all = ((primary_total def).congr key r s e ∙ all.0, equal-behind def key r rs e all.1)

pub data-order : (a : Ordering) → (a ≡ Less) ⊎ ((a ≡ Equal) ⊎ (a ≡ Greater))
data-order Less = inl refl
data-order Equal = inr (inl refl)
data-order Greater = inr (inr refl)

pub without_found : (def : TableDef) (key : Row) (rows : List Row) (at : ℕ) → IsAscending def rows → IsThere def key rows at → without def key rows ≡ remove rows at
without_found def key rows at all there = go rows all (subst (λ n. n < length rows) there.place there.within) (subst (λ n. same_primary def key (get_or rows n key) ≡ true) there.place there.same) ∙ ap (remove rows) (sym there.place)
  where
    go : (rows : List Row) → IsAscending def rows → lower def key rows < length rows → same_primary def key (get_or rows (lower def key rows) key) ≡ true → without def key rows ≡ remove rows (lower def key rows)
    go [] all h e = absurd (omega arith)
    go (r ∷ rs) all h e = elim (data-order (primary_cmp def key r)) [
      | inl o ↦ absurd (let f : same_primary def key (get_or (r ∷ rs) (lower def key (r ∷ rs)) key) ≡ false = rw o (rw o refl) in cc)
      | inr (inl o) ↦ rw o (untouched def key rs (equal-behind def key r rs o all.0))
      | inr (inr o) ↦ (
          let h' : suc (lower def key rs) < suc (length rs) = subst (λ a. (if is_gt a then suc (lower def key rs) else 0) < suc (length rs)) o h in
          let e' : same_primary def key (get_or (r ∷ rs) (suc (lower def key rs)) key) ≡ true = subst (λ a. same_primary def key (get_or (r ∷ rs) (if is_gt a then suc (lower def key rs) else 0) key) ≡ true) o e in
          rw o (ap (λ l. r ∷ l) (go rs all.1 (omega arith) e')))
    ]

pub without_absent : (def : TableDef) (key : Row) (rows : List Row) (at : ℕ) → IsAscending def rows → IsAbsent def key rows at → without def key rows ≡ rows
without_absent def key rows at all absent = go rows all (subst (λ n. n < length rows → same_primary def key (get_or rows n key) ≡ false) absent.place absent.apart)
  where
    go : (rows : List Row) → IsAscending def rows → (lower def key rows < length rows → same_primary def key (get_or rows (lower def key rows) key) ≡ false) → without def key rows ≡ rows
    go [] all apart = refl
    go (r ∷ rs) all apart = elim (data-order (primary_cmp def key r)) [
      | inl o ↦ rw o (ap (λ l. r ∷ l) (untouched def key rs (before-all def key r rs o all.0)))
      | inr (inl o) ↦ absurd (
          let f : same_primary def key r ≡ false = subst (λ a. (if is_gt a then suc (lower def key rs) else 0) < suc (length rs) → same_primary def key (get_or (r ∷ rs) (if is_gt a then suc (lower def key rs) else 0) key) ≡ false) o apart (omega arith) in
          let g : same_primary def key r ≡ true = rw o refl in cc)
      | inr (inr o) ↦ (
          let apart' : suc (lower def key rs) < suc (length rs) → same_primary def key (get_or (r ∷ rs) (suc (lower def key rs)) key) ≡ false = subst (λ a. (if is_gt a then suc (lower def key rs) else 0) < suc (length rs) → same_primary def key (get_or (r ∷ rs) (if is_gt a then suc (lower def key rs) else 0) key) ≡ false) o apart in
          rw o (ap (λ l. r ∷ l) (go rs all.1 (λ h. apart' (omega arith)))))
    ]

-- a row put in the place of the one with its key
pub put_found : (def : TableDef) (new : Row) (rows : List Row) (at : ℕ) → IsAscending def rows → IsThere def new rows at → put def new rows ≡ slice_set rows at new
put_found def new rows at all there = go rows all (subst (λ n. n < length rows) there.place there.within) (subst (λ n. same_primary def new (get_or rows n new) ≡ true) there.place there.same) ∙ ap (λ n. slice_set rows n new) (sym there.place)
  where
    go : (rows : List Row) → IsAscending def rows → lower def new rows < length rows → same_primary def new (get_or rows (lower def new rows) new) ≡ true → put def new rows ≡ slice_set rows (lower def new rows) new
    go [] all h e = absurd (omega arith)
    go (r ∷ rs) all h e = elim (data-order (primary_cmp def new r)) [
      | inl o ↦ absurd (let f : same_primary def new (get_or (r ∷ rs) (lower def new (r ∷ rs)) new) ≡ false = rw o (rw o refl) in cc)
      | inr (inl o) ↦ (
          let behind : AllByRecursion (λ s. primary_cmp def new s ≡ Less) rs = equal-behind def new r rs o all.0 in
          rw o (ap (placed def new) (untouched def new rs behind) ∙ first-behind def new rs behind))
      | inr (inr o) ↦ (
          let h' : suc (lower def new rs) < suc (length rs) = subst (λ a. (if is_gt a then suc (lower def new rs) else 0) < suc (length rs)) o h in
          let e' : same_primary def new (get_or (r ∷ rs) (suc (lower def new rs)) new) ≡ true = subst (λ a. same_primary def new (get_or (r ∷ rs) (if is_gt a then suc (lower def new rs) else 0) new) ≡ true) o e in
          rw o (rw o (ap (λ l. r ∷ l) (go rs all.1 (omega arith) e'))))
    ]

-- or where none has it
pub put_absent : (def : TableDef) (new : Row) (rows : List Row) (at : ℕ) → IsAscending def rows → IsAbsent def new rows at → put def new rows ≡ take at rows ++ new ∷ drop at rows
put_absent def new rows at all absent = go rows all (subst (λ n. n < length rows → same_primary def new (get_or rows n new) ≡ false) absent.place absent.apart) ∙ ap (λ n. take n rows ++ new ∷ drop n rows) (sym absent.place)
  where
    go : (rows : List Row) → IsAscending def rows → (lower def new rows < length rows → same_primary def new (get_or rows (lower def new rows) new) ≡ false) → put def new rows ≡ take (lower def new rows) rows ++ new ∷ drop (lower def new rows) rows
    go [] all apart = refl
    go (r ∷ rs) all apart = elim (data-order (primary_cmp def new r)) [
      | inl o ↦ (
          let behind : AllByRecursion (λ s. primary_cmp def new s ≡ Less) rs = before-all def new r rs o all.0 in
          rw o (rw o (ap (λ l. new ∷ r ∷ l) (untouched def new rs behind))))
      | inr (inl o) ↦ absurd (
          let f : same_primary def new r ≡ false = subst (λ a. (if is_gt a then suc (lower def new rs) else 0) < suc (length rs) → same_primary def new (get_or (r ∷ rs) (if is_gt a then suc (lower def new rs) else 0) new) ≡ false) o apart (omega arith) in
          let g : same_primary def new r ≡ true = rw o refl in cc)
      | inr (inr o) ↦ (
          let apart' : suc (lower def new rs) < suc (length rs) → same_primary def new (get_or (r ∷ rs) (suc (lower def new rs)) new) ≡ false = subst (λ a. (if is_gt a then suc (lower def new rs) else 0) < suc (length rs) → same_primary def new (get_or (r ∷ rs) (if is_gt a then suc (lower def new rs) else 0) new) ≡ false) o apart in
          rw o (rw o (ap (λ l. r ∷ l) (go rs all.1 (λ h. apart' (omega arith))))))
    ]
