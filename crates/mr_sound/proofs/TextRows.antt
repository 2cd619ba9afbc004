-- A statement makes no more rows than its text has bytes.
use Rattle.std.proofs.Common.{◌≡◌, zero-le, true≢false, ◌≤◌, Bool, true, List, [], ◌∷◌, length, refl, sym, arith}
use Rattle.std.specs.Prelude.{◌&&◌}
use Rattle.std.specs.List.{list_all}
use Rattle.mr_types.specs.declared.statement.Insert.{Insert as Inserting}
use Rattle.mr_types.specs.declared.statement.ItemValue.{ItemValue}
use Rattle.mr_types.specs.declared.statement.Statement.{Statement}
use Rattle.mr_types.specs.declared.statement.Statement.TheVariants as statement
use Rattle.mr_types.specs.declared.value.Value.TheVariants.{Null, Number, Text, Bytes}
use Rattle.mr_types.specs.declared.statement.ItemValue.TheVariants as items
use Rattle.mr_types.specs.Grammatical.{is_statement, is_insert, is_item, is_name, some_all, where_given}
use Rattle.mr_types.specs.Sizes.{summed, item_size, insert_size, statement_size}
use Rattle.mr_sound.specs.Draws.{rows_made}
use Rattle.mr_sound.proofs.Basics.{both}

-- ---- a statement makes no more rows than its text has bytes

item-sized : (x : ItemValue) → 1 ≤ item_size x
item-sized items.Default = omega arith
item-sized (items.Literal Null) = omega arith
item-sized (items.Literal (Number n)) = omega arith
item-sized (items.Literal (Text t)) = omega arith
item-sized (items.Literal (Bytes b)) = omega arith

tuple-sized : (tuple : List ItemValue) → some_all is_item tuple ≡ true → 1 ≤ summed item_size tuple
tuple-sized [] e = absurd (true≢false (sym e))
tuple-sized (x ∷ tuple) e = let h = item-sized x in omega (arith, h)

tuples-sized : (rows : List (List ItemValue)) → list_all (some_all is_item) rows ≡ true → length rows ≤ summed (summed item_size) rows
tuples-sized [] e = omega arith
tuples-sized (r ∷ rows) e =
    let p = both (some_all is_item r) (list_all (some_all is_item) rows) e in
    let a = tuple-sized r p.0 in
    let b = tuples-sized rows p.1 in
    omega (arith, a, b)

all-of-some : {A : Type 0} (p : A → Bool) (xs : List A) → some_all p xs ≡ true → list_all p xs ≡ true
all-of-some p [] e = refl
all-of-some p (x ∷ xs) e = e

insert-sized : (s : Inserting) → is_insert s ≡ true → length s.rows ≤ insert_size s
insert-sized s ok =
    let a = tuples-sized s.rows (all-of-some (some_all is_item) s.rows (both (where_given (some_all is_name) s.columns) (some_all (some_all is_item) s.rows) (both (is_name s.table) (where_given (some_all is_name) s.columns && some_all (some_all is_item) s.rows) ok).1).1) in
    omega (arith, a)

pub rows-sized : (s : Statement) → is_statement s ≡ true → rows_made s ≤ statement_size s
rows-sized (statement.Insert s) ok = insert-sized s ok
rows-sized (statement.Replace s) ok = insert-sized s ok
rows-sized _ ok = zero-le
