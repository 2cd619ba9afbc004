-- Definitions are read from their bytes, and from nothing else.
use Rattle.std.proofs.Common.{◌≡◌, ℕ, ◌^◌, ◌<◌, List, [], ◌∷◌, ◌++◌, length, refl, ap, sym, ◌∙◌, arith, Bool, true, Option, subst, Result, Ok, Err, IfOk}
use Rattle.std.specs.List.{list_all, AllByRecursion}
use Rattle.mr_types.specs.declared.definition.ColumnDef.{ColumnDef}
use Rattle.mr_types.specs.declared.definition.IndexDef.{IndexDef}
use Rattle.mr_types.specs.declared.definition.Ttl.{Ttl}
use Rattle.mr_types.specs.declared.definition.TableDef.{TableDef}
use Rattle.mr_types.specs.Refusals.{◌>>=◌, refused_as}
use Rattle.mr_spec.specs.RowForm.{text16_bytes}
use Rattle.mr_fields.specs.Fields.{Read, is_byte, byte_in, flag_in, name_bytes, name_in, is_text, text16_in, listed_bytes, listed_in}
use Rattle.mr_fields.proofs.Reading.{IsRead, Front, both, same_front, then_read, weaker, mid, last, byte_back, front_byte}
use Rattle.mr_fields.proofs.FieldLaws.{Byte, byte_only, flag_bytes, flag_only, flag_back, name_only, name_back, text16_only, text16_back, Listed, listed_only, listed_back, whole_back}
use Rattle.mr_schema.specs.DefinitionForm.{column_bytes, places_bytes, primary_bytes, key_bytes, counted_bytes, definition_bytes, column_in, counted_in, places_in, primary_in, key_in, ttl_said, comment_in, definition_in, reads_definition}
use Rattle.mr_schema.specs.DefinitionFitting.{ColumnFits, PlacesFit, PrimaryFits, KeyFits, DefinitionFits}
use Rattle.mr_schema.proofs.ColumnLaws.{column_only, column_back}

-- ---- counted lists

module _ {X : Type 0} (write : X → List ℕ) (read : List ℕ → Read X) where
  counted_only : ((s : List ℕ) → list_all is_byte s ≡ true → IfOk (read s) (Front write s)) → (s : List ℕ) → list_all is_byte s ≡ true → IfOk (counted_in read s) (Front (counted_bytes write) s)
  counted_only one s e =
      then_read (Byte 256 s) (Front (counted_bytes write) s) (byte_in 256 s) _ (byte_only 256 s e) (λ count count_is.
      weaker (Listed write count.0 count.1) (Front (counted_bytes write) s) (listed_in read count.0 count.1) (listed_only write read one count.0 count.1 count_is.0.rest_bytes) (λ xs xs_are.
      both s (length xs.0 ∷ []) count.1 (listed_bytes write xs.0) xs.1
      (same_front s (count.0 ∷ []) (length xs.0 ∷ []) count.1 (ap (λ (n : ℕ). n ∷ []) (sym xs_are.1)) count_is.0) xs_are.0))

  counted_back : (P : X → Type 0) → ((x : X) (rest : List ℕ) → P x → read (write x ++ rest) ≡ Ok (x, rest)) → (xs : List X) (rest : List ℕ) → length xs < 2 ^ 8 → AllByRecursion P xs → counted_in read (counted_bytes write xs ++ rest) ≡ Ok (xs, rest)
  counted_back P one xs rest count all =
      front_byte 256 (length xs) (listed_bytes write xs ++ rest) (λ count. listed_in read count.0 count.1) _ (omega (arith, count)) (listed_back write read P one xs rest all)

-- ---- keys

abbrev one_byte : ℕ → List ℕ
one_byte b = b ∷ []

places_listed : (places : List ℕ) → listed_bytes one_byte places ≡ places
places_listed [] = refl
places_listed (p ∷ places) = ap (λ (x : List ℕ). p ∷ x) (places_listed places)

place_only : (limit : ℕ) (s : List ℕ) → list_all is_byte s ≡ true → IfOk (byte_in limit s) (Front one_byte s)
place_only limit s e = weaker (Byte limit s) (Front one_byte s) (byte_in limit s) (byte_only limit s e) (λ p is. is.0)

places_only : (limit : ℕ) (s : List ℕ) → list_all is_byte s ≡ true → IfOk (places_in limit s) (Front places_bytes s)
places_only limit s e =
    weaker (Front (counted_bytes one_byte) s) (Front places_bytes s) (places_in limit s) (counted_only one_byte (byte_in limit) (place_only limit) s e) (λ p is.
    subst (λ (x : List ℕ). IsRead s (length p.0 ∷ x) p.1) (places_listed p.0) is)

places_back : (limit : ℕ) (places rest : List ℕ) → PlacesFit limit places → places_in limit (places_bytes places ++ rest) ≡ Ok (places, rest)
places_back limit places rest fits =
    ap (λ (x : List ℕ). places_in limit (length places ∷ (x ++ rest))) (sym (places_listed places))
    ∙ counted_back one_byte (byte_in limit) (λ place. place < limit) (λ place rest lt. byte_back limit place rest lt) places rest fits.count fits.each

primary_only : (limit : ℕ) (s : List ℕ) → list_all is_byte s ≡ true → IfOk (primary_in limit s) (Front primary_bytes s)
primary_only limit s e =
    then_read (Front places_bytes s) (Front primary_bytes s) (places_in limit s) _ (places_only limit s e) (λ columns columns_are.
    then_read (Front text16_bytes columns.1) (Front primary_bytes s) (text16_in is_text columns.1) _ (text16_only is_text columns.1 columns_are.rest_bytes) (λ comment comment_is.
    both s (places_bytes columns.0) columns.1 (text16_bytes comment.0) comment.1 columns_are comment_is))

-- without a name, and unique
as_primary : (key : IndexDef) (limit : ℕ) → PrimaryFits limit key → record { name = []; columns = key.columns; unique = true; comment = key.comment } ≡ key
as_primary key limit fits =
    ap (λ (n : List ℕ). record { name = n; columns = key.columns; unique = true; comment = key.comment }) (sym fits.no_name)
    ∙ ap (λ (b : Bool). record { name = key.name; columns = key.columns; unique = b; comment = key.comment }) (sym fits.is_unique)

primary_back : (limit : ℕ) (key : IndexDef) (rest : List ℕ) → PrimaryFits limit key → primary_in limit (primary_bytes key ++ rest) ≡ Ok (key, rest)
primary_back limit key rest fits =
    mid (places_in limit) (places_bytes key.columns) (text16_bytes key.comment) rest key.columns _ _ (λ t. places_back limit key.columns t fits.columns) (
    last (text16_in is_text) (text16_bytes key.comment) rest key.comment _ _ (λ t. text16_back is_text key.comment t fits.comment.short fits.comment.is_text) (
    ap (λ (k : IndexDef). Ok (k, rest)) (as_primary key limit fits)))

pub key_only : (limit : ℕ) (s : List ℕ) → list_all is_byte s ≡ true → IfOk (key_in limit s) (Front key_bytes s)
key_only limit s e =
    then_read (Front name_bytes s) (Front key_bytes s) (name_in s) _ (name_only s e) (λ name name_is.
    then_read (Front flag_bytes name.1) (Front key_bytes s) (flag_in name.1) _ (flag_only name.1 name_is.rest_bytes) (λ unique unique_is.
    then_read (Front places_bytes unique.1) (Front key_bytes s) (places_in limit unique.1) _ (places_only limit unique.1 unique_is.rest_bytes) (λ columns columns_are.
    then_read (Front text16_bytes columns.1) (Front key_bytes s) (text16_in is_text columns.1) _ (text16_only is_text columns.1 columns_are.rest_bytes) (λ comment comment_is.
    both s (name_bytes name.0) name.1 _ comment.1 name_is (
    both name.1 (flag_bytes unique.0) unique.1 _ comment.1 unique_is (
    both unique.1 (places_bytes columns.0) columns.1 (text16_bytes comment.0) comment.1 columns_are comment_is))))))

pub key_back : (limit : ℕ) (key : IndexDef) (rest : List ℕ) → KeyFits limit key → key_in limit (key_bytes key ++ rest) ≡ Ok (key, rest)
key_back limit key rest fits =
    mid name_in (name_bytes key.name) _ rest key.name _ _ (λ t. name_back key.name t fits.name) (
    mid flag_in (flag_bytes key.unique) (primary_bytes key) rest key.unique _ _ (flag_back key.unique) (
    mid (places_in limit) (places_bytes key.columns) (text16_bytes key.comment) rest key.columns _ _ (λ t. places_back limit key.columns t fits.columns) (
    last (text16_in is_text) (text16_bytes key.comment) rest key.comment _ _ (λ t. text16_back is_text key.comment t fits.comment.short fits.comment.is_text) refl)))

-- ---- comments and definitions

-- a comment, whatever it says
abbrev said_bytes : List ℕ × Option Ttl → List ℕ
said_bytes c = text16_bytes c.0

comment_only : (columns : List ColumnDef) (s : List ℕ) → list_all is_byte s ≡ true → IfOk (comment_in columns s) (Front said_bytes s)
comment_only columns s e =
    then_read (Front text16_bytes s) (Front said_bytes s) (text16_in is_text s) _ (text16_only is_text s e) (λ comment comment_is.
    behind comment.0 comment.1 comment_is (refused_as (length s) (ttl_said columns comment.0)))
  where
    behind : (comment rest : List ℕ) → IsRead s (text16_bytes comment) rest → (r : Result (Option Ttl) ℕ) → IfOk (r >>= (λ ttl. Ok ((comment, ttl), rest))) (Front said_bytes s)
    behind comment rest is (Ok ttl) = is
    behind comment rest is (Err left) = tt

pub definition_only : (s : List ℕ) → list_all is_byte s ≡ true → IfOk (definition_in s) (Front definition_bytes s)
definition_only s e =
    then_read (Front name_bytes s) (Front definition_bytes s) (name_in s) _ (name_only s e) (λ name name_is.
    then_read (Front (counted_bytes column_bytes) name.1) (Front definition_bytes s) (counted_in column_in name.1) _ (counted_only column_bytes column_in column_only name.1 name_is.rest_bytes) (λ columns columns_are.
    then_read (Front primary_bytes columns.1) (Front definition_bytes s) (primary_in (length columns.0) columns.1) _ (primary_only (length columns.0) columns.1 columns_are.rest_bytes) (λ primary primary_is.
    then_read (Front (counted_bytes key_bytes) primary.1) (Front definition_bytes s) (counted_in (key_in (length columns.0)) primary.1) _ (counted_only key_bytes (key_in (length columns.0)) (key_only (length columns.0)) primary.1 primary_is.rest_bytes) (λ secondary secondary_are.
    then_read (Front said_bytes secondary.1) (Front definition_bytes s) (comment_in columns.0 secondary.1) _ (comment_only columns.0 secondary.1 secondary_are.rest_bytes) (λ comment comment_is.
    both s (name_bytes name.0) name.1 _ comment.1 name_is (
    both name.1 (counted_bytes column_bytes columns.0) columns.1 _ comment.1 columns_are (
    both columns.1 (primary_bytes primary.0) primary.1 _ comment.1 primary_is (
    both primary.1 (counted_bytes key_bytes secondary.0) secondary.1 (text16_bytes comment.0.0) comment.1 secondary_are comment_is))))))))

comment_back : (columns : List ColumnDef) (comment : List ℕ) (ttl : Option Ttl) (rest : List ℕ) → length comment < 2 ^ 16 → is_text comment ≡ true → ttl_said columns comment ≡ Ok ttl → comment_in columns (text16_bytes comment ++ rest) ≡ Ok ((comment, ttl), rest)
comment_back columns comment ttl rest short good says =
    last (text16_in is_text) (text16_bytes comment) rest comment _ _ (λ t. text16_back is_text comment t short good) (
    ap (λ (r : Result (Option Ttl) ℕ). refused_as (length (text16_bytes comment ++ rest)) r >>= (λ ttl. Ok ((comment, ttl), rest))) says)

pub definition_back : (def : TableDef) (rest : List ℕ) → DefinitionFits def → definition_in (definition_bytes def ++ rest) ≡ Ok (def, rest)
definition_back def rest fits =
    let n = length def.columns in
    mid name_in (name_bytes def.name) _ rest def.name _ _ (λ t. name_back def.name t fits.name) (
    mid (counted_in column_in) (counted_bytes column_bytes def.columns) _ rest def.columns _ _ (λ t. counted_back column_bytes column_in ColumnFits column_back def.columns t fits.column_count fits.columns) (
    mid (primary_in n) (primary_bytes def.primary) _ rest def.primary _ _ (λ t. primary_back n def.primary t fits.primary) (
    mid (counted_in (key_in n)) (counted_bytes key_bytes def.secondary) _ rest def.secondary _ _ (λ t. counted_back key_bytes (key_in n) (KeyFits n) (key_back n) def.secondary t fits.key_count fits.secondary) (
    last (comment_in def.columns) (text16_bytes def.comment) rest (def.comment, def.ttl) _ _ (λ t. comment_back def.columns def.comment def.ttl t fits.comment.short fits.comment.is_text fits.ttl) refl))))

pub definition_written : (def : TableDef) → DefinitionFits def → reads_definition (definition_bytes def) ≡ Ok def
definition_written def fits = whole_back definition_bytes definition_in def (λ rest. definition_back def rest fits)
