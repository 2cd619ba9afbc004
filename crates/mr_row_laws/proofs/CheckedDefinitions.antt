-- Definitions that pass the checks have what the codecs ask of them.
use Rattle.std.proofs.Common.{◌≡◌, ℕ, zero, suc, ◌+◌, ◌<◌, ◌≤◌, ◌^◌, Bool, true, false, true≢false, cond, List, [], ◌∷◌, ◌++◌, Option, Some, None, Result, Ok, Err, refl, sym, ap, subst, ◌∙◌, slice_get, nat_lt, arith}
use Rattle.std.specs.Prelude.{not, ◌&&◌, ◌||◌, length, is_some, nat_le, codes}
use Rattle.std.specs.List.{AllByRecursion, list_any}
use Rattle.std.specs.Option.{option_map_or}
use Rattle.std.proofs.lemmas.Bool.Decides.{nat_tests}
use Rattle.mr_types.specs.declared.kind.Kind.{Kind}
use Rattle.mr_types.specs.declared.kind.Kind.TheVariants.{Int, IntUnsigned, BigInt, BigIntUnsigned, VarChar, VarBinary}
use Rattle.mr_types.specs.declared.kind.KindText.{KindText}
use Rattle.mr_types.specs.declared.kind.KindText.TheVariants as written
use Rattle.mr_pieces.specs.declared.collation.Collation.{Collation}
use Rattle.mr_types.specs.declared.definition.ColumnDef.{ColumnDef}
use Rattle.mr_types.specs.declared.definition.IndexDef.{IndexDef}
use Rattle.mr_types.specs.declared.definition.TableDef.{TableDef}
use Rattle.mr_types.specs.declared.text.ColumnText.{ColumnText}
use Rattle.mr_types.specs.declared.text.KeyText.{KeyText}
use Rattle.mr_types.specs.declared.text.TableText.{TableText}
use Rattle.mr_types.specs.Refusals.{◌>>=◌, ◌>>◌, refuse_where, some_or, in_turn, each}
use Rattle.mr_types.specs.Values.{same_bytes, same_name}
use Rattle.mr_memcmp.specs.ComeBack.{IsKind}
use Rattle.mr_rowval.specs.Promises.{HasKinds, HasKey, AreDistinct, AreNotNull}
use Rattle.mr_entry.specs.Promises.{HasColumns}
use Rattle.mr_entry.specs.Entry.{columns_of}
use Rattle.mr_spec.specs.Rows.{place_from}
use Rattle.mr_spec.specs.ColumnChecks.{kind_of, is_primary_column, default_kept, checked_column, with_column, checked_columns}
use Rattle.mr_spec.specs.KeyChecks.{Keys, places_of, has_repeat, width_of, is_taken, checked_key, with_key, hidden_key}
use Rattle.mr_spec.specs.TtlOptions.{ttl_of}
use Rattle.mr_spec.specs.Checks.{check}
use Rattle.mr_row_laws.specs.Codable.{IsCodable}
use Rattle.mr_row_laws.proofs.Distinct.{no_repeat, entry_distinct, own_distinct}

-- ---- the steps of the checks

went : {A B : Type 0} (m : Result A ℕ) (f : A → Result B ℕ) (y : B) → (m >>= f) ≡ Ok y → (x : A) × (m ≡ Ok x) × (f x ≡ Ok y)
went (Ok x) f y e = (x, refl, e)
went (Err c) f y e = absurd cc

passed : {B : Type 0} (code : ℕ) (b : Bool) (r : Result B ℕ) (y : B) → (refuse_where code b >> r) ≡ Ok y → (b ≡ false) × (r ≡ Ok y)
passed code true r y e = absurd cc
passed code false r y e = (refl, e)

ok_is : {A : Type 0} (x y : A) → ◌≡◌ {A = Result A ℕ} (Ok x) (Ok y) → x ≡ y
ok_is x y e = cc

some_is : {A : Type 0} (x y : A) → ◌≡◌ {A = Option A} (Some x) (Some y) → x ≡ y
some_is x y e = cc

some_of : {A : Type 0} (code : ℕ) (o : Option A) (x : A) → some_or code o ≡ Ok x → o ≡ Some x
some_of code None x e = absurd cc
some_of {A = A} code (Some y) x e = let same = ok_is y x e in subst (λ z. ◌≡◌ {A = Option A} (Some y) (Some z)) same refl

one_more : {A : Type 0} (P : A → Type 0) (xs : List A) (x : A) → AllByRecursion P xs → P x → AllByRecursion P (xs ++ x ∷ [])
one_more P [] x all here = (here, tt)
one_more P (y ∷ xs) x all here = (all.0, one_more P xs x all.1 here)

all_at : {A : Type 0} (P : A → Type 0) (xs : List A) (i : ℕ) (x : A) → AllByRecursion P xs → slice_get xs i ≡ Some x → P x
all_at P [] i x all e = absurd cc
all_at P (y ∷ xs) zero x all e = subst P (some_is y x e) all.0
all_at P (y ∷ xs) (suc i) x all e = all_at P xs i x all.1 e

-- ---- columns

at_most : (n m : ℕ) → nat_lt n m ≡ false → m ≤ n
at_most n m e = grind (arith, nat_tests)

short : (n : ℕ) → nat_lt 65535 n ≡ false → n < 2 ^ 16
short n e = let least = at_most 65535 n e in omega arith

chars : (n : ℕ) (c : Collation) (b : Bool) (kind : Kind) → nat_lt 65535 n ≡ b → cond b None (Some (VarChar n c)) ≡ Some kind → IsKind kind
chars n c true kind e f = absurd cc
chars n c false kind e f = subst IsKind (some_is (VarChar n c) kind f) (short n e)

binaries : (n : ℕ) (b : Bool) (kind : Kind) → nat_lt 65535 n ≡ b → cond b None (Some (VarBinary n)) ≡ Some kind → IsKind kind
binaries n true kind e f = absurd cc
binaries n false kind e f = subst IsKind (some_is (VarBinary n) kind f) (short n e)

is_kind : (written_kind : KindText) (kind : Kind) → kind_of written_kind ≡ Some kind → IsKind kind
is_kind written.Int kind e = subst IsKind (some_is Int kind e) tt
is_kind written.IntUnsigned kind e = subst IsKind (some_is IntUnsigned kind e) tt
is_kind written.BigInt kind e = subst IsKind (some_is BigInt kind e) tt
is_kind written.BigIntUnsigned kind e = subst IsKind (some_is BigIntUnsigned kind e) tt
is_kind (written.VarChar n c) kind e = chars n c (nat_lt 65535 n) kind refl e
is_kind (written.VarBinary n) kind e = binaries n (nat_lt 65535 n) kind refl e

-- a column of the checks, beside the keys of the text
record IsColumn (keys : List KeyText) (d : ColumnDef) : Type 0 where
  kind : IsKind d.ty.kind
  not_null : is_primary_column keys d.name ≡ true → d.ty.nullable ≡ false

and_not : (a b : Bool) → b ≡ true → (a && not b) ≡ false
and_not true true e = refl
and_not false true e = refl
and_not a false e = absurd (true≢false (sym e))

is_column : (keys : List KeyText) (before : List ColumnDef) (c : ColumnText) (d : ColumnDef) → checked_column keys before c ≡ Ok d → IsColumn keys d
is_column keys before c d e =
    let a = passed 1060 (is_some (place_from 0 c.name before)) _ d e in
    let k = went (some_or 1074 (kind_of c.kind)) _ d a.1 in
    let f = went (default_kept (record { kind = k.0; nullable = c.nullable && not (is_primary_column keys c.name) }) c.default) _ d k.2 in
    subst (IsColumn keys) (ok_is _ d f.2) (record { kind = is_kind c.kind k.0 (some_of 1074 (kind_of c.kind) k.0 k.1); not_null = λ h. and_not c.nullable (is_primary_column keys c.name) h })

are_columns : (keys : List KeyText) (before : List ColumnDef) (cs : List ColumnText) (columns : List ColumnDef) → AllByRecursion (IsColumn keys) before → in_turn (with_column keys) before cs ≡ Ok columns → AllByRecursion (IsColumn keys) columns
are_columns keys before [] columns all e = subst (AllByRecursion (IsColumn keys)) (ok_is before columns e) all
are_columns keys before (c ∷ cs) columns all e =
    let w = went (with_column keys before c) _ columns e in
    let d = went (checked_column keys before c) _ w.0 w.1 in
    are_columns keys w.0 cs columns (subst (AllByRecursion (IsColumn keys)) (ok_is _ w.0 d.2) (one_more (IsColumn keys) before d.0 all (is_column keys before c d.0 d.1))) w.2

-- ---- places by names

record Spot (from : ℕ) (name : List ℕ) (columns : List ColumnDef) (p : ℕ) : Type 0 where
  place : ℕ
  is : p ≡ from + place
  column : ColumnDef
  there : slice_get columns place ≡ Some column
  named : same_name column.name name ≡ true

spot_by : (b : Bool) (from : ℕ) (name : List ℕ) (c : ColumnDef) (cs : List ColumnDef) (p : ℕ) → same_name c.name name ≡ b → (place_from (from + 1) name cs ≡ Some p → Spot (from + 1) name cs p) → cond b (Some from) (place_from (from + 1) name cs) ≡ Some p → Spot from name (c ∷ cs) p
spot_by true from name c cs p same later e = let is = some_is from p e in record { place = 0; is = omega arith; column = c; there = refl; named = same }
spot_by false from name c cs p same later e = let s = later e in let is = s.is in record { place = suc s.place; is = omega arith; column = s.column; there = s.there; named = s.named }

spot : (from : ℕ) (name : List ℕ) (columns : List ColumnDef) (p : ℕ) → place_from from name columns ≡ Some p → Spot from name columns p
spot from name [] p e = absurd cc
spot from name (c ∷ cs) p e = spot_by (same_name c.name name) from name c cs p refl (λ f. spot (from + 1) name cs p f) e

-- a name of a column of the primary key
abbrev IsNamed : List KeyText → List ℕ → Type 0
IsNamed keys n = (name : List ℕ) → same_name name n ≡ true → is_primary_column keys name ≡ true

spot_not_null : (keys : List KeyText) (columns : List ColumnDef) (n : List ℕ) (p : ℕ) (column : ColumnDef) → AllByRecursion (IsColumn keys) columns → IsNamed keys n → place_from 0 n columns ≡ Some p → slice_get columns p ≡ Some column → column.ty.nullable ≡ false
spot_not_null keys columns n p column all named e there =
    let s = spot 0 n columns p e in
    let is = s.is in
    let place : p ≡ s.place = omega arith in
    let same : s.column ≡ column = some_is s.column column (sym s.there ∙ ap (slice_get columns) (sym place) ∙ there) in
    subst (λ (c : ColumnDef). c.ty.nullable ≡ false) same ((all_at (IsColumn keys) columns s.place s.column all s.there).not_null (named s.column.name s.named))

are_not_null : (keys : List KeyText) (columns : List ColumnDef) (names : List (List ℕ)) (places : List ℕ) → AllByRecursion (IsColumn keys) columns → AllByRecursion (IsNamed keys) names → places_of columns names ≡ Ok places → AreNotNull columns places
are_not_null keys columns [] places all named e = subst (AreNotNull columns) (ok_is [] places e) tt
are_not_null keys columns (n ∷ names) places all named e =
    let p = went (some_or 1072 (place_from 0 n columns)) _ places e in
    let q = went (places_of columns names) _ places p.2 in
    subst (AreNotNull columns) (ok_is (p.0 ∷ q.0) places q.2) (λ column there. spot_not_null keys columns n p.0 column all named.0 (some_of 1072 (place_from 0 n columns) p.0 p.1) there, are_not_null keys columns names q.0 all named.1 q.1)

-- ---- the keys of the text

or_left : (a b : Bool) → a ≡ true → (a || b) ≡ true
or_left true b e = refl
or_left false b e = absurd (true≢false (sym e))

or_right : (a b : Bool) → b ≡ true → (a || b) ≡ true
or_right true b e = refl
or_right false b e = e

both : (a b : Bool) → a ≡ true → b ≡ true → (a && b) ≡ true
both true b e f = f
both false b e f = absurd (true≢false (sym e))

abbrev Among : List KeyText → KeyText → Type 0
Among keys k = (f : KeyText → Bool) → f k ≡ true → list_any f keys ≡ true

all_among : (keys rest : List KeyText) → ((f : KeyText → Bool) → list_any f rest ≡ true → list_any f keys ≡ true) → AllByRecursion (Among keys) rest
all_among keys [] within = tt
all_among keys (k ∷ rest) within = (λ f h. within f (or_left (f k) (list_any f rest) h), all_among keys rest (λ f h. within f (or_right (f k) (list_any f rest) h)))

are_named : (keys : List KeyText) (k : KeyText) (names : List (List ℕ)) → Among keys k → k.primary ≡ true → ((name : List ℕ) → list_any (same_name name) names ≡ true → list_any (same_name name) k.columns ≡ true) → AllByRecursion (IsNamed keys) names
are_named keys k [] among primary within = tt
are_named keys k (n ∷ names) among primary within = (
  λ name h. among (λ k. k.primary && list_any (same_name name) k.columns) (both k.primary (list_any (same_name name) k.columns) primary (within name (or_left (same_name name n) (list_any (same_name name) names) h))),
  are_named keys k names among primary (λ name h. within name (or_right (same_name name n) (list_any (same_name name) names) h)),
)

-- ---- keys

-- at most 16 columns, none twice, of at most 767 bytes
pub record IsIndex (columns : List ColumnDef) (d : IndexDef) : Type 0 where
  pub distinct : AreDistinct d.columns
  pub few : length d.columns ≤ 16
  pub narrow : width_of columns d.columns ≤ 767

record IsKey (columns : List ColumnDef) (k : KeyText) (d : IndexDef) : Type 0 where
  places : places_of columns k.columns ≡ Ok d.columns
  index : IsIndex columns d

each_size : {A B : Type 0} (f : A → Result B ℕ) (xs : List A) (ys : List B) → each f xs ≡ Ok ys → length ys ≡ length xs
each_size f [] ys e = ap (λ l. length l) (sym (ok_is [] ys e))
each_size f (x ∷ xs) ys e =
    let y = went (f x) _ ys e in
    let more = went (each f xs) _ ys y.2 in
    ap (λ l. length l) (sym (ok_is (y.0 ∷ more.0) ys more.2)) ∙ ap suc (each_size f xs more.0 more.1)

-- the checks of a key, from each one on
abbrev made : KeyText → List ℕ → Result IndexDef ℕ
made k places = refuse_where {E = ℕ} 1064 (nat_lt 1024 (length k.comment) || same_bytes k.comment (codes "__system__")) >> Ok (record { name = k.name; columns = places; unique = k.unique; comment = k.comment })

abbrev from_1071 : List ColumnDef → KeyText → List ℕ → Result IndexDef ℕ
from_1071 columns k places = refuse_where {E = ℕ} 1071 (nat_lt 767 (width_of columns places)) >> made k places

abbrev from_1060 : List ColumnDef → KeyText → List ℕ → Result IndexDef ℕ
from_1060 columns k places = refuse_where {E = ℕ} 1060 (has_repeat places) >> from_1071 columns k places

abbrev from_1070 : List ColumnDef → KeyText → Result IndexDef ℕ
from_1070 columns k = refuse_where {E = ℕ} 1070 (nat_lt 16 (length k.columns)) >> (places_of columns k.columns >>= from_1060 columns k)

abbrev from_1068 : List ColumnDef → Bool → KeyText → Result IndexDef ℕ
from_1068 columns has_primary k = refuse_where {E = ℕ} 1068 (k.primary && has_primary) >> from_1070 columns k

abbrev from_1061 : List ColumnDef → Bool → List IndexDef → List (List ℕ) → KeyText → Result IndexDef ℕ
from_1061 columns has_primary secondary taken k = refuse_where {E = ℕ} 1061 (not k.primary && is_taken k.name taken secondary) >> from_1068 columns has_primary k

is_key : (columns : List ColumnDef) (has_primary : Bool) (secondary : List IndexDef) (taken : List (List ℕ)) (k : KeyText) (d : IndexDef) → checked_key columns has_primary secondary taken k ≡ Ok d → IsKey columns k d
is_key columns has_primary secondary taken k d e =
    let a = passed 1069 (not k.primary && nat_le 16 (length secondary)) (from_1061 columns has_primary secondary taken k) d e in
    let b = passed 1061 (not k.primary && is_taken k.name taken secondary) (from_1068 columns has_primary k) d a.1 in
    let c = passed 1068 (k.primary && has_primary) (from_1070 columns k) d b.1 in
    let f = passed 1070 (nat_lt 16 (length k.columns)) (places_of columns k.columns >>= from_1060 columns k) d c.1 in
    let p = went (places_of columns k.columns) (from_1060 columns k) d f.1 in
    let g = passed 1060 (has_repeat p.0) (from_1071 columns k p.0) d p.2 in
    let h = passed 1071 (nat_lt 767 (width_of columns p.0)) (made k p.0) d g.1 in
    let i = passed 1064 (nat_lt 1024 (length k.comment) || same_bytes k.comment (codes "__system__")) (Ok (record { name = k.name; columns = p.0; unique = k.unique; comment = k.comment })) d h.1 in
    let size = each_size (λ n. some_or 1072 (place_from 0 n columns)) k.columns p.0 p.1 in
    let few : length p.0 ≤ 16 = omega (arith, size, at_most 16 (length k.columns) f.0) in
    let its : IndexDef = record { name = k.name; columns = p.0; unique = k.unique; comment = k.comment } in
    let index : IsIndex columns its = record { distinct = no_repeat p.0 g.0; few = few; narrow = at_most 767 (width_of columns p.0) h.0 } in
    subst (IsKey columns k) (ok_is its d i.1) (record { places = p.1; index = index })

abbrev IsPrimary : List ColumnDef → IndexDef → Type 0
IsPrimary columns d = IsIndex columns d × AreNotNull columns d.columns

record AreKeys (columns : List ColumnDef) (keys : Keys) : Type 0 where
  primary : (d : IndexDef) → keys.primary ≡ Some d → IsPrimary columns d
  secondary : AllByRecursion (IsIndex columns) keys.secondary

by_primary : (columns : List ColumnDef) (keys next : Keys) (d : IndexDef) (b : Bool) → AreKeys columns keys → IsIndex columns d → (b ≡ true → AreNotNull columns d.columns) → ◌≡◌ {A = Result Keys ℕ} (Ok (cond b (record keys { primary = Some d }) (record keys { secondary = keys.secondary ++ d ∷ [] }))) (Ok next) → AreKeys columns next
by_primary columns keys next d true are index some e = subst (AreKeys columns) (ok_is _ next e) (record { primary = λ x h. subst (IsPrimary columns) (some_is d x h) (index, some refl); secondary = are.secondary })
by_primary columns keys next d false are index some e = subst (AreKeys columns) (ok_is _ next e) (record { primary = are.primary; secondary = one_more (IsIndex columns) keys.secondary d are.secondary index })

are_keys : (texts : List KeyText) (columns : List ColumnDef) (rest : List KeyText) (keys last : Keys) → AllByRecursion (IsColumn texts) columns → AllByRecursion (Among texts) rest → AreKeys columns keys → in_turn (with_key columns) keys rest ≡ Ok last → AreKeys columns last
are_keys texts columns [] keys last all among are e = subst (AreKeys columns) (ok_is keys last e) are
are_keys texts columns (k ∷ rest) keys last all among are e =
    let w = went (with_key columns keys k) _ last e in
    let d = went (checked_key columns (is_some keys.primary) keys.secondary [] k) _ w.0 w.1 in
    let its = is_key columns (is_some keys.primary) keys.secondary [] k d.0 d.1 in
    are_keys texts columns rest w.0 last all among.1 (by_primary columns keys w.0 d.0 k.primary are its.index (λ primary. are_not_null texts columns k.columns d.0.columns all (are_named texts k k.columns among.0 primary (λ name h. h)) its.places) d.2) w.2

-- ---- a definition

has_primary : (columns : List ColumnDef) (o : Option IndexDef) → ((d : IndexDef) → o ≡ Some d → IsPrimary columns d) → IsPrimary columns (option_map_or (λ k. k) o hidden_key)
has_primary columns None is = (record { distinct = tt; few = omega arith; narrow = omega arith }, tt)
has_primary columns (Some d) is = is d refl

kinds_of : (keys : List KeyText) (columns : List ColumnDef) → AllByRecursion (IsColumn keys) columns → HasKinds columns
kinds_of keys [] all = tt
kinds_of keys (c ∷ columns) all = (all.0.kind, kinds_of keys columns all.1)

are_distinct : (columns : List ColumnDef) (keys : List IndexDef) → AllByRecursion (IsIndex columns) keys → AllByRecursion (λ d. AreDistinct d.columns) keys
are_distinct columns [] all = tt
are_distinct columns (d ∷ keys) all = (all.0.distinct, are_distinct columns keys all.1)

has_columns : (def : TableDef) → HasKey def → AllByRecursion (λ d. AreDistinct d.columns) def.secondary → (index : ℕ) → HasColumns def index
has_columns def key secondary zero = key
has_columns def key secondary (suc i) = entry_distinct (columns_of (slice_get def.secondary i)) def.primary.columns (own_distinct def.secondary i secondary) key.distinct

-- a definition with its indexes
pub record IsFormed (def : TableDef) : Type 0 where
  pub kinds : HasKinds def.columns
  pub primary : IsIndex def.columns def.primary
  pub not_null : AreNotNull def.columns def.primary.columns
  pub secondary : AllByRecursion (IsIndex def.columns) def.secondary

pub checked_is_formed : (text : TableText) (def : TableDef) → check text ≡ Ok def → IsFormed def
checked_is_formed text def e =
    let c = went (checked_columns text) _ def e in
    let columns = c.0 in
    let k = went (in_turn (with_key columns) (record { primary = None; secondary = [] }) text.keys) _ def c.2 in
    let t = went (ttl_of columns text.comment) _ def k.2 in
    let in_order = passed 1117 _ _ columns c.1 in
    let all = are_columns text.keys [] text.columns columns tt in_order.1 in
    let keys = are_keys text.keys columns text.keys (record { primary = None; secondary = [] }) k.0 all (all_among text.keys text.keys (λ f h. h)) (record { primary = λ d h. absurd cc; secondary = tt }) k.1 in
    let primary = has_primary columns k.0.primary keys.primary in
    let its : TableDef = record { name = text.name; columns = columns; primary = option_map_or (λ k. k) k.0.primary hidden_key; secondary = k.0.secondary; comment = text.comment; ttl = t.0 } in
    subst IsFormed (ok_is its def t.2) (record { kinds = kinds_of text.keys columns all; primary = primary.0; not_null = primary.1; secondary = keys.secondary })

pub checked_is_codable : (text : TableText) (def : TableDef) → check text ≡ Ok def → IsCodable def
checked_is_codable text def e =
    let formed = checked_is_formed text def e in
    let key : HasKey def = record { distinct = formed.primary.distinct; not_null = formed.not_null } in
    record { kinds = formed.kinds; key = key; columns = has_columns def key (are_distinct def.columns def.secondary formed.secondary) }
