-- A range of rows is a range of keys.
use Rattle.std.proofs.Common.{◌≡◌, ◌≢◌, ℕ, List, [], ◌∷◌, ◌++◌, refl, sym, ap, subst, ◌∙◌, append_assoc, append-nil}
use Rattle.std.specs.Prelude.{◌↔◌, slice_get}
use Rattle.std.specs.declared.cmp.Ordering.{Ordering}
use Rattle.std.specs.declared.cmp.Ordering.TheVariants.{Less, Equal, Greater}
use Rattle.std.specs.Ordering.{ordering_then}
use Rattle.std.proofs.lemmas.Grind.{flat_map-append}
use Rattle.byteorder.specs.Endian.{big_bytes}
use Rattle.mr_pieces.specs.Order.{bytes_cmp}
use Rattle.mr_pieces.proofs.Compare.{then_equal, bytes_equal}
use Rattle.mr_types.specs.declared.definition.TableDef.{TableDef}
use Rattle.mr_types.specs.declared.row.Row.{Row}
use Rattle.mr_types.specs.Rows.{IsRowOf}
use Rattle.mr_memcmp.specs.Fitting.{AllFit}
use Rattle.mr_memcmp.specs.Keys.{part_bytes, parts_bytes, columns_bytes, hidden_bytes, key_bytes_of}
use Rattle.mr_memcmp.specs.KeyOrder.{columns_cmp, KeysInRange}
use Rattle.mr_memcmp.proofs.Fitted.{row_fits}
use Rattle.mr_memcmp.proofs.Keys.{Leads, lead_equal, first_equal, columns_lead}

-- ---- a list that goes on

-- nothing is below no bytes
never_less : (rest : List ℕ) → bytes_cmp rest [] ≢ Less
never_less [] e = absurd cc
never_less (x ∷ rest) e = absurd cc

first_less : (a b : Ordering) → b ≢ Less → ordering_then a b ≡ Less → a ≡ Less
first_less Less b h e = refl
first_less Equal b h e = absurd (h e)
first_less Greater b h e = absurd cc

abbrev GoesOn : List ℕ → List ℕ → Type 0
GoesOn key bytes = (rest : List ℕ) × (key ≡ bytes ++ rest)

pub against : (x y tail : List ℕ) (decided : Ordering) → Leads x y decided → bytes_cmp (x ++ tail) y ≡ ordering_then decided (bytes_cmp tail [])
against x y tail decided lead = sym (ap (bytes_cmp (x ++ tail)) (append-nil y)) ∙ lead tail []

pub is_at_or_above : (x y tail : List ℕ) (decided : Ordering) → Leads x y decided → (decided ≢ Less) ↔ (bytes_cmp (x ++ tail) y ≢ Less)
is_at_or_above x y tail decided lead =
    let whole = against x y tail decided lead in
    (λ h e. h (first_less decided (bytes_cmp tail []) (never_less tail) (sym whole ∙ e)), λ h e. h (whole ∙ ap (λ (o : Ordering). ordering_then o (bytes_cmp tail [])) e))

pub is_same : (x y tail : List ℕ) (decided : Ordering) → Leads x y decided → (decided ≡ Equal) ↔ GoesOn (x ++ tail) y
is_same x y tail decided lead =
    (λ e. (tail, ap (λ (l : List ℕ). l ++ tail) ((lead_equal x y decided lead).1 e)), λ on. first_equal decided (bytes_cmp tail on.0) (sym (lead tail on.0) ∙ ap (λ (l : List ℕ). bytes_cmp l (y ++ on.0)) on.1 ∙ bytes_equal (y ++ on.0)))

pub is_above : (x y tail : List ℕ) (decided : Ordering) → Leads x y decided → (decided ≡ Greater) ↔ ((rest : List ℕ) → bytes_cmp (x ++ tail) (y ++ rest) ≡ Greater)
is_above x y tail decided lead =
    (λ e rest. lead tail rest ∙ ap (λ (o : Ordering). ordering_then o (bytes_cmp tail rest)) e, λ h. sym (then_equal decided) ∙ ap (ordering_then decided) (sym (bytes_equal tail)) ∙ sym (lead tail tail) ∙ h tail)

-- ---- keys

abbrev tail_of : TableDef → List ℕ → Row → List ℕ
tail_of def more row = parts_bytes def.columns row.fields more ++ hidden_bytes row.hidden

-- the key is the bytes of its first columns, and goes on
goes_on : (index : ℕ) (def : TableDef) (front more : List ℕ) (row : Row) → key_bytes_of index def (front ++ more) row ≡ columns_bytes index def front row ++ tail_of def more row
goes_on index def front more row =
    let first = parts_bytes def.columns row.fields front in
    let others = parts_bytes def.columns row.fields more in
    let joined : parts_bytes def.columns row.fields (front ++ more) ≡ first ++ others = flat_map-append (λ p. part_bytes (slice_get def.columns p) (slice_get row.fields p)) front more in
    ap (λ (l : List ℕ). (big_bytes 4 index ++ l) ++ hidden_bytes row.hidden) joined
    ∙ ap (λ (l : List ℕ). big_bytes 4 index ++ l) (append_assoc first others (hidden_bytes row.hidden))

pub keys_in_range : (index : ℕ) (def : TableDef) (front more : List ℕ) (row given : Row) → IsRowOf def row → AllFit def.columns given.fields front → KeysInRange index def front more row given
keys_in_range index def front more row given p q =
    let x = columns_bytes index def front row in
    let y = columns_bytes index def front given in
    let tail = tail_of def more row in
    let decided = columns_cmp def.columns front row.fields given.fields in
    let lead : Leads x y decided = λ a b. columns_lead index def front row given a b (row_fits def row front p) q in
    let whole = sym (goes_on index def front more row) in
    record {
      at_or_above = subst (λ (key : List ℕ). (decided ≢ Less) ↔ (bytes_cmp key y ≢ Less)) whole (is_at_or_above x y tail decided lead);
      same = subst (λ (key : List ℕ). (decided ≡ Equal) ↔ GoesOn key y) whole (is_same x y tail decided lead);
      above = subst (λ (key : List ℕ). (decided ≡ Greater) ↔ ((rest : List ℕ) → bytes_cmp key (y ++ rest) ≡ Greater)) whole (is_above x y tail decided lead);
    }
