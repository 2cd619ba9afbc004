-- The parts of a row that was walked over, and its fields by them.
use Rattle.std.proofs.Common.{◌≡◌, ℕ, suc, ◌+◌, ◌-◌, ◌<◌, ◌≤◌, List, [], ◌∷◌, length, drop, get_or, refl, sym, ap, subst, ◌∙◌, arith, Bool, true, false, Option, Some, None, Result, Ok, Err}
use Rattle.std.specs.Prelude.{slice_index_or}
use Rattle.std.specs.Int.{w32, w64}
use Rattle.mr_types.specs.declared.kind.Kind.{Kind}
use Rattle.mr_types.specs.declared.definition.ColumnDef.{ColumnDef}
use Rattle.mr_types.specs.declared.definition.TableDef.{TableDef}
use Rattle.mr_types.specs.declared.row.Row.{Row}
use Rattle.mr_types.specs.declared.value.Value.{Value}
use Rattle.mr_types.specs.declared.field.FieldRef.{FieldRef}
use Rattle.mr_types.specs.FieldValues.{field_value}
use Rattle.mr_types.specs.Refusals.{◌>>=◌}
use Rattle.mr_types.specs.Rows.{has_ttl, is_hidden}
use Rattle.mr_memcmp.specs.Reading.{ReadNumber, number_read}
use Rattle.mr_rowval.specs.declared.parts.RowParts.{RowParts}
use Rattle.mr_rowval.specs.NullBits.{nullable_count, flags_read}
use Rattle.mr_rowval.specs.KeyParts.{Held, found, is_in, parts_full, parts_kept, as_some, wanted_read, ended, key_read}
use Rattle.mr_rowval.specs.RowValue.{fields_read, fields_from, value_read, row_read}
use Rattle.mr_rowval.specs.Walking.{kind_at, value_at}
use Rattle.mr_rowval.specs.Decoded.{IsDecoded, flags_in, held_in, fields_in}
use Rattle.mr_rowval.specs.Parts.{Walk, WalksEntry, Ends, IsSpot, AreSpots, HoldsKey, ArePartsOf, row_or_none, row_in}
use Rattle.mr_rowval.proofs.FieldWalk.{its_kind}
use Rattle.mr_rowval.proofs.Decoding.{in_key, sizes}
use Rattle.mr_rowval.proofs.EntryTakes.{went, end_takes, same_ok}
use Rattle.mr_rowval.proofs.PlainTakes.{number_ok}
use Rattle.mr_rowval.proofs.PartsLie.{ends_all, ends_drop, ends_trans, number_ends, flags_end, parts_end}

-- ---- the key and the stamp

key_front : (hidden : Bool) (columns : List ColumnDef) (places key body : List ℕ) (number : Option ℕ) → key_read hidden columns places key ≡ Ok (body, number) → (4 ≤ length key) × (drop 4 key ≡ body)
key_front hidden columns places key body number e =
    let first = went (number_read w32 key) (λ index. parts_kept columns places index.1 >>= (λ rest. wanted_read hidden rest >>= (λ number. ended (index.1, number.0) number.1))) (body, number) e in
    let second = went (parts_kept columns places first.0.1) (λ rest. wanted_read hidden rest >>= (λ number. ended (first.0.1, number.0) number.1)) (body, number) first.2 in
    let third = went (wanted_read hidden second.0) (λ number. ended (first.0.1, number.0) number.1) (body, number) second.2 in
    let last = end_takes (first.0.1, third.0.0) (body, number) third.0.1 third.2 in
    let cut = number_ends w32 key first.0.0 first.0.1 first.1 in
    (cut.0, cut.1 ∙ ap (λ (x : List ℕ × Option ℕ). x.0) last.1)

some_parts : (r : ReadNumber) (o : Option ℕ) (rest : List ℕ) → as_some r ≡ Ok (o, rest) → (n : ℕ) × (r ≡ number_ok n rest)
some_parts (Ok x) o rest e = (x.0, ap (λ (l : List ℕ). number_ok x.0 l) (ap (λ (y : Option ℕ × List ℕ). y.1) (same_ok (Some x.0, x.1) (o, rest) e)))
some_parts (Err left) o rest e = absurd cc

wanted_end : (wanted : Bool) (bytes : List ℕ) (o : Option ℕ) (rest : List ℕ) → wanted_read wanted bytes ≡ Ok (o, rest) → Ends bytes rest
wanted_end false bytes o rest e = subst (Ends bytes) (ap (λ (y : Option ℕ × List ℕ). y.1) (same_ok (None, bytes) (o, rest) e)) (ends_all bytes)
wanted_end true bytes o rest e =
    let parts = some_parts (number_read w64 bytes) o rest e in
    let cut = number_ends w64 bytes parts.0 rest parts.1 in
    subst (Ends bytes) cut.1 (ends_drop 8 bytes cut.0)

-- the hidden number is that of the key
pub its_hidden : (def : TableDef) (key : List ℕ) (hidden : Option ℕ) (value : List ℕ) (row : Row) → value_read def key hidden value ≡ Ok row → hidden ≡ row.hidden
its_hidden def key hidden value row e =
    let first = went (wanted_read (has_ttl def) value) (λ stamp. fields_from def.columns def.primary.columns key stamp.1 >>= (λ fields. Ok (record { hidden = hidden; stamp = stamp.0; fields = fields }))) row e in
    let second = went (fields_from def.columns def.primary.columns key first.0.1) (λ fields. Ok (record { hidden = hidden; stamp = first.0.0; fields = fields })) row first.2 in
    ap (λ (r : Row). r.hidden) (same_ok (record { hidden = hidden; stamp = first.0.0; fields = second.0 }) row second.2)

pub its_key : (hidden : Bool) (columns : List ColumnDef) (places key body its : List ℕ) (number of_row : Option ℕ) → key_read hidden columns places key ≡ Ok (body, number) → its ≡ body → number ≡ of_row → key_read hidden columns places key ≡ Ok (its, of_row)
its_key hidden columns places key body its number of_row e b h = e ∙ ap (λ (l : List ℕ). let r : Result (List ℕ × Option ℕ) ℕ = Ok (l, number) in r) (sym b) ∙ ap (λ (o : Option ℕ). let r : Result (List ℕ × Option ℕ) ℕ = Ok (its, o) in r) h

-- ---- the parts

-- what the walk over the columns says of spots
abbrev pub SpotsKnown : List ColumnDef → List ℕ → List ℕ → List ℕ → List ℕ → List ℕ → Type 0
SpotsKnown columns places nulls plain value spots = (held : Held) (flags : List Bool) (after : List ℕ) (fields : List Value) (rest : List ℕ) → Ends value plain → flags_read (nullable_count columns) 0 0 nulls ≡ Some (flags, after) → fields_read places held 0 columns flags plain ≡ Ok (fields, rest) → AreSpots columns places value fields spots 64

abbrev pub walk_of : TableDef → Option ℕ → Option ℕ → List ℕ → List ℕ → List ℕ → List ℕ → Walk
walk_of def hidden stamp body nulls unpack plain = record { def = def; row = record { hidden = hidden; stamp = stamp; fields = fields_in def.columns def.primary.columns body nulls unpack plain }; body = body; nulls = nulls; unpack = unpack; plain = plain }

walked_parts : (def : TableDef) (hidden stamp : Option ℕ) (key value body nulls unpack plain : List ℕ) (at : ℕ) (spots : List ℕ) → IsDecoded def.columns def.primary.columns body nulls unpack plain → at ≡ length value - length unpack → SpotsKnown def.columns def.primary.columns nulls plain value spots
    → WalksEntry def key value (Ok (walk_of def hidden stamp body nulls unpack plain)) (row_read def key value) → ArePartsOf def key value (record { hidden = hidden; stamp = stamp; unpack = at; spots = spots })
walked_parts def hidden stamp key value body nulls unpack plain at spots decoded at_is known entry =
    let columns = def.columns in
    let places = def.primary.columns in
    let fields = fields_in columns places body nulls unpack plain in
    let held = held_in columns places body unpack in
    let front = key_front (is_hidden def) columns places key body hidden entry.2 in
    let to_nulls = wanted_end (has_ttl def) value stamp nulls entry.3 in
    let to_unpack = ends_trans value nulls unpack to_nulls (flags_end (nullable_count columns) 0 0 nulls (flags_in columns nulls) unpack decoded.flags) in
    let to_plain = ends_trans value unpack plain to_unpack (parts_end columns places body unpack held plain decoded.held) in
    let unpack_is : drop at value ≡ unpack = ap (λ (n : ℕ). drop n value) at_is ∙ sym to_unpack.behind in
    record {
      row = record { hidden = hidden; stamp = stamp; fields = fields };
      reads = entry.0;
      hidden = refl;
      stamp = refl;
      keys = record {
        long = front.0;
        within = let w : length unpack ≤ length value = to_unpack.within in omega arith;
        held = held;
        rest = plain;
        reads = ap (λ (l : List ℕ). parts_full columns places l (drop at value)) front.1 ∙ ap (parts_full columns places body) unpack_is ∙ decoded.held;
        are = λ p within there. in_key places held 0 columns (flags_in columns nulls) plain fields [] p p decoded.fields within (omega arith) there;
      };
      spots = known held (flags_in columns nulls) unpack fields [] to_plain decoded.flags decoded.fields;
    }

pub parts_lie : (w : Walk) (def : TableDef) (hidden stamp : Option ℕ) (key value body nulls unpack plain : List ℕ) (at : ℕ) (spots : List ℕ) (columns : List ColumnDef) (places : List ℕ) → w ≡ walk_of def hidden stamp body nulls unpack plain → IsDecoded def.columns def.primary.columns body nulls unpack plain → at ≡ length value - length unpack → columns ≡ def.columns → places ≡ def.primary.columns → SpotsKnown columns places nulls plain value spots
    → WalksEntry w.def key value (Ok w) (row_read w.def key value) → ArePartsOf w.def key value (record { hidden = hidden; stamp = stamp; unpack = at; spots = spots })
parts_lie w def hidden stamp key value body nulls unpack plain at spots columns places is decoded at_is c p known =
    let mine : SpotsKnown def.columns def.primary.columns nulls plain value spots = subst (λ (ps : List ℕ). SpotsKnown def.columns ps nulls plain value spots) p (subst (λ (cs : List ColumnDef). SpotsKnown cs places nulls plain value spots) c known) in
    subst (λ (v : Walk). WalksEntry v.def key value (Ok v) (row_read v.def key value) → ArePartsOf v.def key value (record { hidden = hidden; stamp = stamp; unpack = at; spots = spots })) (sym is) (walked_parts def hidden stamp key value body nulls unpack plain at spots decoded at_is mine)

-- ---- fields

row_is : (def : TableDef) (key value : List ℕ) (row : Row) → row_read def key value ≡ Ok row → row ≡ row_in def key value
row_is def key value row e = ap row_or_none (sym e)

abbrev pub HeldGives : List ColumnDef → List ℕ → List ℕ → List ℕ → ℕ → FieldRef → Type 0
HeldGives columns places key unpack place result = (held : Held) (rest : List ℕ) → parts_full columns places key unpack ≡ Ok (held, rest) → field_value (kind_at columns place) result ≡ found held place

abbrev HeldAt : List ColumnDef → List ℕ → List ℕ → List ℕ → ℕ → FieldRef → Type 0
HeldAt columns places key unpack place result = HeldGives columns places key unpack place result × (place < length columns) × (is_in places place ≡ true)

pub held_lies : (def : TableDef) (key value : List ℕ) (parts : RowParts) (columns : List ColumnDef) (places body beside : List ℕ) (place : ℕ) (result : FieldRef) → ArePartsOf def key value parts → columns ≡ def.columns → places ≡ def.primary.columns → body ≡ drop 4 key → beside ≡ drop parts.unpack value → HeldGives columns places body beside place result → place < length columns → is_in places place ≡ true → field_value (kind_at def.columns place) result ≡ value_at (row_in def key value).fields place
held_lies def key value parts columns places body beside place result are c p b u gives within there =
    let mine : HeldAt def.columns def.primary.columns body beside place result = subst (λ (ps : List ℕ). HeldAt def.columns ps body beside place result) p (subst (λ (cs : List ColumnDef). HeldAt cs places body beside place result) c (gives, within, there)) in
    let reads = ap (λ (l : List ℕ). parts_full def.columns def.primary.columns l beside) b ∙ ap (parts_full def.columns def.primary.columns (drop 4 key)) u ∙ are.keys.reads in
    mine.0 are.keys.held are.keys.rest reads ∙ sym (are.keys.are place mine.1 mine.2) ∙ ap (λ (r : Row). value_at r.fields place) (row_is def key value are.row are.reads)

abbrev SpotAt : List ColumnDef → List ℕ → ℕ → ColumnDef → Type 0
SpotAt columns places place column = (place < length columns) × (is_in places place ≡ false) × (column ≡ get_or columns place column)

pub spot_lies : (def : TableDef) (key value : List ℕ) (parts : RowParts) (columns : List ColumnDef) (places : List ℕ) (place : ℕ) (column : ColumnDef) (result : FieldRef) → ArePartsOf def key value parts → columns ≡ def.columns → places ≡ def.primary.columns → place < 64 → place < length columns → is_in places place ≡ false → column ≡ get_or columns place column
    → ((field : Value) → IsSpot column.ty.kind value field (slice_index_or parts.spots place 0) → field_value column.ty.kind result ≡ field) → field_value (kind_at def.columns place) result ≡ value_at (row_in def key value).fields place
spot_lies def key value parts columns places place column result are c p few within out is gives =
    let mine : SpotAt def.columns def.primary.columns place column = subst (λ (ps : List ℕ). SpotAt def.columns ps place column) p (subst (λ (cs : List ColumnDef). SpotAt cs places place column) c (within, out, is)) in
    let kind_is : kind_at def.columns place ≡ column.ty.kind = its_kind def.columns place column mine.0 mine.2 in
    let spot = subst (λ (k : Kind). IsSpot k value (value_at are.row.fields place) (slice_index_or parts.spots place 0)) kind_is (are.spots place few mine.0 mine.1) in
    ap (λ (k : Kind). field_value k result) kind_is ∙ gives (value_at are.row.fields place) spot ∙ ap (λ (r : Row). value_at r.fields place) (row_is def key value are.row are.reads)
