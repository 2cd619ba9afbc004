-- In a list of versions in order the newest puts rise by their keys, and entries that are put in one after the other are added at the end.
use Rattle.std.proofs.Common.{◌≡◌, ℕ, List, [], ◌∷◌, ◌++◌, refl, ap, sym, ◌∙◌, subst, true, false, cond, inl, inr, Option, Some, is_some, unwrap_or}
use Rattle.std.specs.List.{AllByRecursion}
use Rattle.std.specs.declared.cmp.Ordering.{Ordering}
use Rattle.std.specs.declared.cmp.Ordering.TheVariants.{Less, Equal, Greater}
use Rattle.std.specs.Ordering.{is_lt, is_eq, is_gt, nat_cmp, flip_args}
use Rattle.std.proofs.lemmas.Bool.{cases_Bool}
use Rattle.mr_base.specs.declared.stop.Direction.TheVariants.{Forward}
use Rattle.mr_iter.specs.Versions.{Version, version_cmp, IsAtFront, IsInOrder}
use Rattle.mr_iter.specs.Order.{by_key}
use Rattle.mr_iter.specs.Snapshots.{is_skipped}
use Rattle.mr_dict_entry.specs.Entries.{entry_key, entry_value}
use Rattle.mr_dict_entry.specs.declared.entry.DictEntry.{DictEntry}
use Rattle.mr_dict.specs.Dictionary.{is_before, put_in}
use Rattle.mr_dict.specs.Loading.{puts_behind, AreEntries}
use Rattle.mr_dict.proofs.Orders.{cmp, chain}

-- each key comes before those behind it
abbrev pub Rise : List Version → Type 0
Rise [] = Unit {0}
Rise (v ∷ vs) = AllByRecursion (λ (w : Version). is_lt (cmp v.key w.key) ≡ true) vs × Rise vs

pub each_more : (P Q : Version → Type 0) (vs : List Version) → ((v : Version) → P v → Q v) → AllByRecursion P vs → AllByRecursion Q vs
each_more P Q [] go all = tt
each_more P Q (v ∷ vs) go all = (go v all.0, each_more P Q vs go all.1)

pub apart : (o : Ordering) → is_gt o ≡ false → is_eq o ≡ false → is_lt o ≡ true
apart Less g e = refl
apart Equal g e = cc
apart Greater g e = cc

-- those behind a version have no key before its key
pub not_before : (v : Version) (vs : List Version) → IsAtFront (version_cmp Forward) v vs → AllByRecursion (λ (w : Version). is_gt (cmp v.key w.key) ≡ false) vs
not_before v vs all = each_more (λ w. is_gt (version_cmp Forward v w) ≡ false) (λ w. is_gt (cmp v.key w.key) ≡ false) vs (λ w not_so. by_key (cmp v.key w.key) (flip_args nat_cmp v.sequence w.sequence) not_so) all

behind_passed : (k : List ℕ) (vs : List Version) → IsInOrder (version_cmp Forward) vs → AllByRecursion (λ (w : Version). is_gt (cmp k w.key) ≡ false) vs → AllByRecursion (λ (w : Version). is_lt (cmp k w.key) ≡ true) (puts_behind (Some k) vs)
behind_passed k [] order upto = tt
behind_passed k (v ∷ vs) order upto = elim (cases_Bool (is_eq (cmp k v.key))) [
  | inl same ↦ rw same (behind_passed k vs order.1 upto.1)
  | inr other ↦
      let lt : is_lt (cmp k v.key) ≡ true = apart (cmp k v.key) upto.0 other in
      let rest : AllByRecursion (λ (w : Version). is_lt (cmp k w.key) ≡ true) (puts_behind (Some v.key) vs) =
      each_more (λ w. is_lt (cmp v.key w.key) ≡ true) (λ w. is_lt (cmp k w.key) ≡ true) (puts_behind (Some v.key) vs) (λ w more. chain k v.key w.key lt more) (behind_passed v.key vs order.1 (not_before v vs order.0)) in
      rw other (elim (is_some v.put) as (λ b. AllByRecursion (λ (w : Version). is_lt (cmp k w.key) ≡ true) (cond b (v ∷ puts_behind (Some v.key) vs) (puts_behind (Some v.key) vs))) [
        | true ↦ (lt, rest)
        | false ↦ rest
      ])
]

pub puts_rise : (passed : Option (List ℕ)) (vs : List Version) → IsInOrder (version_cmp Forward) vs → Rise (puts_behind passed vs)
puts_rise passed [] order = tt
puts_rise passed (v ∷ vs) order =
    elim (is_skipped passed v.key) as (λ b. Rise (cond b (puts_behind passed vs) (cond (is_some v.put) (v ∷ puts_behind (Some v.key) vs) (puts_behind (Some v.key) vs)))) [
      | true ↦ puts_rise passed vs order.1
      | false ↦ elim (is_some v.put) as (λ b. Rise (cond b (v ∷ puts_behind (Some v.key) vs) (puts_behind (Some v.key) vs))) [
        | true ↦ (behind_passed v.key vs order.1 (not_before v vs order.0), puts_rise (Some v.key) vs order.1)
        | false ↦ puts_rise (Some v.key) vs order.1
      ]
    ]

-- ---- one more entry

-- those in front of a version come before it
in_front : (done : List Version) (v : Version) (rest : List Version) → Rise (done ++ v ∷ rest) → AllByRecursion (λ (w : Version). is_lt (cmp w.key v.key) ≡ true) done
in_front [] v rest rise = tt
in_front (w ∷ done) v rest rise = (here done rise.0, in_front done v rest rise.1)
  where
    here : (ws : List Version) → AllByRecursion (λ (u : Version). is_lt (cmp w.key u.key) ≡ true) (ws ++ v ∷ rest) → is_lt (cmp w.key v.key) ≡ true
    here [] all = all.0
    here (u ∷ ws) all = here ws all.1

all_before : (e : DictEntry) (v : Version) (done : List Version) (es : List DictEntry) → v.key ≡ entry_key e → AreEntries done es → AllByRecursion (λ (w : Version). is_lt (cmp w.key v.key) ≡ true) done → AllByRecursion (λ (f : DictEntry). is_before (entry_key e) f ≡ true) es
all_before e v [] [] same are before = tt
all_before e v [] (f ∷ es) same are before = absurd are
all_before e v (w ∷ done) [] same are before = absurd are
all_before e v (w ∷ done) (f ∷ es) same are before =
    (sym (ap (λ (k : List ℕ). is_lt (cmp k v.key)) are.0 ∙ ap (λ (k : List ℕ). is_lt (cmp (entry_key f) k)) same) ∙ before.0, all_before e v done es same are.2 before.1)

put_last : (e : DictEntry) (es : List DictEntry) → AllByRecursion (λ (f : DictEntry). is_before (entry_key e) f ≡ true) es → put_in e es ≡ es ++ e ∷ []
put_last e [] all = refl
put_last e (f ∷ es) all = rw all.0 (ap (λ (gs : List DictEntry). f ∷ gs) (put_last e es all.1))

one_more : (e : DictEntry) (v : Version) (done : List Version) (es : List DictEntry) → v.key ≡ entry_key e → unwrap_or v.put [] ≡ entry_value e → AreEntries done es → AreEntries (done ++ v ∷ []) (es ++ e ∷ [])
one_more e v [] [] key value are = (key, value, tt)
one_more e v [] (f ∷ es) key value are = absurd are
one_more e v (w ∷ done) [] key value are = absurd are
one_more e v (w ∷ done) (f ∷ es) key value are = (are.0, are.1, one_more e v done es key value are.2)

pub entry_added : (e : DictEntry) (v : Version) (done rest : List Version) (es : List DictEntry) → v.key ≡ entry_key e → unwrap_or v.put [] ≡ entry_value e → Rise (done ++ v ∷ rest) → AreEntries done es → AreEntries (done ++ v ∷ []) (put_in e es)
entry_added e v done rest es key value rise are =
    subst (λ (fs : List DictEntry). AreEntries (done ++ v ∷ []) fs) (sym (put_last e es (all_before e v done es key are (in_front done v rest rise)))) (one_more e v done es key value are)
