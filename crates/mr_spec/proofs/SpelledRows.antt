-- Texts and the statements that they spell, by computation.
use Rattle.std.proofs.Common.{◌≡◌, ℕ, pos, negsuc, List, [], ◌∷◌, refl, codes, true, false, Some, None}
use Rattle.mr_spec.specs.Words as w
use Rattle.mr_spec.specs.Phrases as p
use Rattle.mr_spec.specs.Literals as l
use Rattle.mr_spec.specs.ConditionPhrases as c
use Rattle.mr_spec.specs.RowPhrases as r
use Rattle.mr_spec.specs.SelectPhrase as s
use Rattle.mr_spec.specs.TablePhrases as t
use Rattle.mr_spec.specs.SessionPhrases as n
use Rattle.mr_spec.specs.Grammar as g
use Rattle.mr_pieces.specs.declared.collation.Collation.TheVariants.{Ci}
use Rattle.mr_types.specs.declared.value.Value.TheVariants as v
use Rattle.mr_types.specs.declared.kind.KindText.TheVariants as k
use Rattle.mr_types.specs.declared.expr.Cmp.TheVariants as cmp
use Rattle.mr_types.specs.declared.expr.Expr.TheVariants as e
use Rattle.mr_types.specs.declared.text.TableText.{TableText}
use Rattle.mr_types.specs.declared.statement.ItemValue.{ItemValue}
use Rattle.mr_types.specs.declared.statement.ItemValue.TheVariants as i
use Rattle.mr_types.specs.declared.statement.Columns.TheVariants as columns
use Rattle.mr_types.specs.declared.statement.Statement.TheVariants.{CreateTable, DropTable, Insert, Delete, Select, Lock, Unlock, RollbackTo, Work}
use Rattle.mr_spec.specs.Grammar.{statement_of}

abbrev dumped : TableText
dumped = record {
  name = codes "u";
  columns = record { name = codes "id"; kind = k.BigInt; nullable = false; default = None } ∷ record { name = codes "n"; kind = k.VarChar 20 Ci; nullable = true; default = Some v.Null } ∷ [];
  keys = t.primary_of (codes "id" ∷ []) [] ∷ record { name = codes "k"; primary = false; unique = false; columns = codes "n" ∷ []; comment = codes "rev:cf1" } ∷ [];
  comment = [];
}

abbrev two : ℕ → List ℕ → List ItemValue
two n name = i.Literal (v.Number (pos n)) ∷ i.Literal (v.Text name) ∷ []

-- a dump
dump_drop : statement_of (codes "DROP TABLE IF EXISTS `u`") ≡ Some (DropTable (codes "u") true)
unfolding w.is_keyword w.is_sign w.reserved w.is_reserved w.escaped_byte w.escaped w.text_bytes w.hex_value w.padded_bytes w.binary_bytes w.name_in w.is_namelike p.check p.first_kind p.sees p.sees_sign p.behind p.after p.after_sign p.maybe p.maybe_sign p.expect p.expect_sign p.ended p.begins_name p.name p.word p.text p.number p.separated_from p.in_parentheses l.binary l.unsigned_literal l.literal c.comparison c.turned_test c.null_test c.between c.one_of c.range_test c.comparison_test c.plain_test c.column_test c.test c.conj_by c.cond_by c.nested c.neg r.item_value r.column_names r.values_word r.insert r.factor r.plus_or_minus r.sum_from r.set_to r.set_item r.update r.delete s.begins_aggregate s.aggregate s.select_list s.index_name s.forced_index s.descending s.order_item s.order s.limit_numbers s.limit s.select t.collation t.set_ascii t.key_word t.comment t.named_key t.primary_key t.display_width t.number_type t.column_type t.with_nullable t.with_default t.with_charset t.with_column_collation t.with_primary t.with_column_comment t.text_attribute t.attribute t.attributes_from t.column t.item t.items_from t.with_engine t.with_table_comment t.with_table_charset t.with_table_collation t.text_option t.demand t.plain_option t.option t.options_from t.if_not_exists t.create_table n.key_on n.index_on n.new_index n.index_words n.if_exists n.drop n.begin n.with_snapshot n.start n.savepoint_name n.rollback n.release n.lock_mode n.locked_table n.lock n.work g.create g.row_statement g.schema_statement g.transaction g.session_statement g.transaction_or_session g.other_statement g.statement g.whole_statement g.statement_of
dump_drop = refl

dump_create : statement_of (codes "CREATE TABLE `u` (`id` bigint(20) NOT NULL, `n` varchar(20) CHARACTER SET ascii COLLATE ascii_general_ci DEFAULT NULL, PRIMARY KEY (`id`), KEY `k` (`n`) COMMENT 'rev:cf1') ENGINE=ROCKSDB DEFAULT CHARSET=ascii") ≡ Some (CreateTable dumped false (Some (codes "ROCKSDB")))
unfolding w.is_keyword w.is_sign w.reserved w.is_reserved w.escaped_byte w.escaped w.text_bytes w.hex_value w.padded_bytes w.binary_bytes w.name_in w.is_namelike p.check p.first_kind p.sees p.sees_sign p.behind p.after p.after_sign p.maybe p.maybe_sign p.expect p.expect_sign p.ended p.begins_name p.name p.word p.text p.number p.separated_from p.in_parentheses l.binary l.unsigned_literal l.literal c.comparison c.turned_test c.null_test c.between c.one_of c.range_test c.comparison_test c.plain_test c.column_test c.test c.conj_by c.cond_by c.nested c.neg r.item_value r.column_names r.values_word r.insert r.factor r.plus_or_minus r.sum_from r.set_to r.set_item r.update r.delete s.begins_aggregate s.aggregate s.select_list s.index_name s.forced_index s.descending s.order_item s.order s.limit_numbers s.limit s.select t.collation t.set_ascii t.key_word t.comment t.named_key t.primary_key t.display_width t.number_type t.column_type t.with_nullable t.with_default t.with_charset t.with_column_collation t.with_primary t.with_column_comment t.text_attribute t.attribute t.attributes_from t.column t.item t.items_from t.with_engine t.with_table_comment t.with_table_charset t.with_table_collation t.text_option t.demand t.plain_option t.option t.options_from t.if_not_exists t.create_table n.key_on n.index_on n.new_index n.index_words n.if_exists n.drop n.begin n.with_snapshot n.start n.savepoint_name n.rollback n.release n.lock_mode n.locked_table n.lock n.work g.create g.row_statement g.schema_statement g.transaction g.session_statement g.transaction_or_session g.other_statement g.statement g.whole_statement g.statement_of
dump_create = refl

dump_lock : statement_of (codes "LOCK TABLES `u` WRITE") ≡ Some (Lock (codes "u" ∷ []))
unfolding w.is_keyword w.is_sign w.reserved w.is_reserved w.escaped_byte w.escaped w.text_bytes w.hex_value w.padded_bytes w.binary_bytes w.name_in w.is_namelike p.check p.first_kind p.sees p.sees_sign p.behind p.after p.after_sign p.maybe p.maybe_sign p.expect p.expect_sign p.ended p.begins_name p.name p.word p.text p.number p.separated_from p.in_parentheses l.binary l.unsigned_literal l.literal c.comparison c.turned_test c.null_test c.between c.one_of c.range_test c.comparison_test c.plain_test c.column_test c.test c.conj_by c.cond_by c.nested c.neg r.item_value r.column_names r.values_word r.insert r.factor r.plus_or_minus r.sum_from r.set_to r.set_item r.update r.delete s.begins_aggregate s.aggregate s.select_list s.index_name s.forced_index s.descending s.order_item s.order s.limit_numbers s.limit s.select t.collation t.set_ascii t.key_word t.comment t.named_key t.primary_key t.display_width t.number_type t.column_type t.with_nullable t.with_default t.with_charset t.with_column_collation t.with_primary t.with_column_comment t.text_attribute t.attribute t.attributes_from t.column t.item t.items_from t.with_engine t.with_table_comment t.with_table_charset t.with_table_collation t.text_option t.demand t.plain_option t.option t.options_from t.if_not_exists t.create_table n.key_on n.index_on n.new_index n.index_words n.if_exists n.drop n.begin n.with_snapshot n.start n.savepoint_name n.rollback n.release n.lock_mode n.locked_table n.lock n.work g.create g.row_statement g.schema_statement g.transaction g.session_statement g.transaction_or_session g.other_statement g.statement g.whole_statement g.statement_of
dump_lock = refl

dump_insert : statement_of (codes "INSERT INTO `u` VALUES (1,'bob'),(2,'Al')") ≡ Some (Insert (record { table = codes "u"; columns = None; rows = two 1 (codes "bob") ∷ two 2 (codes "Al") ∷ [] }))
unfolding w.is_keyword w.is_sign w.reserved w.is_reserved w.escaped_byte w.escaped w.text_bytes w.hex_value w.padded_bytes w.binary_bytes w.name_in w.is_namelike p.check p.first_kind p.sees p.sees_sign p.behind p.after p.after_sign p.maybe p.maybe_sign p.expect p.expect_sign p.ended p.begins_name p.name p.word p.text p.number p.separated_from p.in_parentheses l.binary l.unsigned_literal l.literal c.comparison c.turned_test c.null_test c.between c.one_of c.range_test c.comparison_test c.plain_test c.column_test c.test c.conj_by c.cond_by c.nested c.neg r.item_value r.column_names r.values_word r.insert r.factor r.plus_or_minus r.sum_from r.set_to r.set_item r.update r.delete s.begins_aggregate s.aggregate s.select_list s.index_name s.forced_index s.descending s.order_item s.order s.limit_numbers s.limit s.select t.collation t.set_ascii t.key_word t.comment t.named_key t.primary_key t.display_width t.number_type t.column_type t.with_nullable t.with_default t.with_charset t.with_column_collation t.with_primary t.with_column_comment t.text_attribute t.attribute t.attributes_from t.column t.item t.items_from t.with_engine t.with_table_comment t.with_table_charset t.with_table_collation t.text_option t.demand t.plain_option t.option t.options_from t.if_not_exists t.create_table n.key_on n.index_on n.new_index n.index_words n.if_exists n.drop n.begin n.with_snapshot n.start n.savepoint_name n.rollback n.release n.lock_mode n.locked_table n.lock n.work g.create g.row_statement g.schema_statement g.transaction g.session_statement g.transaction_or_session g.other_statement g.statement g.whole_statement g.statement_of
dump_insert = refl

dump_unlock : statement_of (codes "UNLOCK TABLES") ≡ Some Unlock
unfolding w.is_keyword w.is_sign w.reserved w.is_reserved w.escaped_byte w.escaped w.text_bytes w.hex_value w.padded_bytes w.binary_bytes w.name_in w.is_namelike p.check p.first_kind p.sees p.sees_sign p.behind p.after p.after_sign p.maybe p.maybe_sign p.expect p.expect_sign p.ended p.begins_name p.name p.word p.text p.number p.separated_from p.in_parentheses l.binary l.unsigned_literal l.literal c.comparison c.turned_test c.null_test c.between c.one_of c.range_test c.comparison_test c.plain_test c.column_test c.test c.conj_by c.cond_by c.nested c.neg r.item_value r.column_names r.values_word r.insert r.factor r.plus_or_minus r.sum_from r.set_to r.set_item r.update r.delete s.begins_aggregate s.aggregate s.select_list s.index_name s.forced_index s.descending s.order_item s.order s.limit_numbers s.limit s.select t.collation t.set_ascii t.key_word t.comment t.named_key t.primary_key t.display_width t.number_type t.column_type t.with_nullable t.with_default t.with_charset t.with_column_collation t.with_primary t.with_column_comment t.text_attribute t.attribute t.attributes_from t.column t.item t.items_from t.with_engine t.with_table_comment t.with_table_charset t.with_table_collation t.text_option t.demand t.plain_option t.option t.options_from t.if_not_exists t.create_table n.key_on n.index_on n.new_index n.index_words n.if_exists n.drop n.begin n.with_snapshot n.start n.savepoint_name n.rollback n.release n.lock_mode n.locked_table n.lock n.work g.create g.row_statement g.schema_statement g.transaction g.session_statement g.transaction_or_session g.other_statement g.statement g.whole_statement g.statement_of
dump_unlock = refl

dump_select : statement_of (codes "SELECT * FROM u ORDER BY n") ≡ Some (Select (record { columns = columns.All; table = codes "u"; forced = None; condition = None; order = record { column = codes "n"; descending = false } ∷ []; skip = 0; most = None }))
unfolding w.is_keyword w.is_sign w.reserved w.is_reserved w.escaped_byte w.escaped w.text_bytes w.hex_value w.padded_bytes w.binary_bytes w.name_in w.is_namelike p.check p.first_kind p.sees p.sees_sign p.behind p.after p.after_sign p.maybe p.maybe_sign p.expect p.expect_sign p.ended p.begins_name p.name p.word p.text p.number p.separated_from p.in_parentheses l.binary l.unsigned_literal l.literal c.comparison c.turned_test c.null_test c.between c.one_of c.range_test c.comparison_test c.plain_test c.column_test c.test c.conj_by c.cond_by c.nested c.neg r.item_value r.column_names r.values_word r.insert r.factor r.plus_or_minus r.sum_from r.set_to r.set_item r.update r.delete s.begins_aggregate s.aggregate s.select_list s.index_name s.forced_index s.descending s.order_item s.order s.limit_numbers s.limit s.select t.collation t.set_ascii t.key_word t.comment t.named_key t.primary_key t.display_width t.number_type t.column_type t.with_nullable t.with_default t.with_charset t.with_column_collation t.with_primary t.with_column_comment t.text_attribute t.attribute t.attributes_from t.column t.item t.items_from t.with_engine t.with_table_comment t.with_table_charset t.with_table_collation t.text_option t.demand t.plain_option t.option t.options_from t.if_not_exists t.create_table n.key_on n.index_on n.new_index n.index_words n.if_exists n.drop n.begin n.with_snapshot n.start n.savepoint_name n.rollback n.release n.lock_mode n.locked_table n.lock n.work g.create g.row_statement g.schema_statement g.transaction g.session_statement g.transaction_or_session g.other_statement g.statement g.whole_statement g.statement_of
dump_select = refl

-- AND comes before OR, NOT before AND, and a literal in front is turned round
and_first : statement_of (codes "DELETE FROM t WHERE a=1 OR b<2 AND NOT 3<=c") ≡ Some (Delete (codes "t") (Some (e.Or (e.Compare (codes "a") cmp.Eq (v.Number (pos 1)) ∷ e.And (e.Compare (codes "b") cmp.Lt (v.Number (pos 2)) ∷ e.Not (e.Compare (codes "c") cmp.Ge (v.Number (pos 3))) ∷ []) ∷ []))))
unfolding w.is_keyword w.is_sign w.reserved w.is_reserved w.escaped_byte w.escaped w.text_bytes w.hex_value w.padded_bytes w.binary_bytes w.name_in w.is_namelike p.check p.first_kind p.sees p.sees_sign p.behind p.after p.after_sign p.maybe p.maybe_sign p.expect p.expect_sign p.ended p.begins_name p.name p.word p.text p.number p.separated_from p.in_parentheses l.binary l.unsigned_literal l.literal c.comparison c.turned_test c.null_test c.between c.one_of c.range_test c.comparison_test c.plain_test c.column_test c.test c.conj_by c.cond_by c.nested c.neg r.item_value r.column_names r.values_word r.insert r.factor r.plus_or_minus r.sum_from r.set_to r.set_item r.update r.delete s.begins_aggregate s.aggregate s.select_list s.index_name s.forced_index s.descending s.order_item s.order s.limit_numbers s.limit s.select t.collation t.set_ascii t.key_word t.comment t.named_key t.primary_key t.display_width t.number_type t.column_type t.with_nullable t.with_default t.with_charset t.with_column_collation t.with_primary t.with_column_comment t.text_attribute t.attribute t.attributes_from t.column t.item t.items_from t.with_engine t.with_table_comment t.with_table_charset t.with_table_collation t.text_option t.demand t.plain_option t.option t.options_from t.if_not_exists t.create_table n.key_on n.index_on n.new_index n.index_words n.if_exists n.drop n.begin n.with_snapshot n.start n.savepoint_name n.rollback n.release n.lock_mode n.locked_table n.lock n.work g.create g.row_statement g.schema_statement g.transaction g.session_statement g.transaction_or_session g.other_statement g.statement g.whole_statement g.statement_of
and_first = refl

not_in : statement_of (codes "DELETE FROM t WHERE a NOT IN (NULL,-1)") ≡ Some (Delete (codes "t") (Some (e.Not (e.OneOf (codes "a") (v.Null ∷ v.Number (negsuc 0) ∷ [])))))
unfolding w.is_keyword w.is_sign w.reserved w.is_reserved w.escaped_byte w.escaped w.text_bytes w.hex_value w.padded_bytes w.binary_bytes w.name_in w.is_namelike p.check p.first_kind p.sees p.sees_sign p.behind p.after p.after_sign p.maybe p.maybe_sign p.expect p.expect_sign p.ended p.begins_name p.name p.word p.text p.number p.separated_from p.in_parentheses l.binary l.unsigned_literal l.literal c.comparison c.turned_test c.null_test c.between c.one_of c.range_test c.comparison_test c.plain_test c.column_test c.test c.conj_by c.cond_by c.nested c.neg r.item_value r.column_names r.values_word r.insert r.factor r.plus_or_minus r.sum_from r.set_to r.set_item r.update r.delete s.begins_aggregate s.aggregate s.select_list s.index_name s.forced_index s.descending s.order_item s.order s.limit_numbers s.limit s.select t.collation t.set_ascii t.key_word t.comment t.named_key t.primary_key t.display_width t.number_type t.column_type t.with_nullable t.with_default t.with_charset t.with_column_collation t.with_primary t.with_column_comment t.text_attribute t.attribute t.attributes_from t.column t.item t.items_from t.with_engine t.with_table_comment t.with_table_charset t.with_table_collation t.text_option t.demand t.plain_option t.option t.options_from t.if_not_exists t.create_table n.key_on n.index_on n.new_index n.index_words n.if_exists n.drop n.begin n.with_snapshot n.start n.savepoint_name n.rollback n.release n.lock_mode n.locked_table n.lock n.work g.create g.row_statement g.schema_statement g.transaction g.session_statement g.transaction_or_session g.other_statement g.statement g.whole_statement g.statement_of
not_in = refl

limit_pair : statement_of (codes "SELECT * FROM t LIMIT 3,4") ≡ Some (Select (record { columns = columns.All; table = codes "t"; forced = None; condition = None; order = []; skip = 3; most = Some 4 }))
unfolding w.is_keyword w.is_sign w.reserved w.is_reserved w.escaped_byte w.escaped w.text_bytes w.hex_value w.padded_bytes w.binary_bytes w.name_in w.is_namelike p.check p.first_kind p.sees p.sees_sign p.behind p.after p.after_sign p.maybe p.maybe_sign p.expect p.expect_sign p.ended p.begins_name p.name p.word p.text p.number p.separated_from p.in_parentheses l.binary l.unsigned_literal l.literal c.comparison c.turned_test c.null_test c.between c.one_of c.range_test c.comparison_test c.plain_test c.column_test c.test c.conj_by c.cond_by c.nested c.neg r.item_value r.column_names r.values_word r.insert r.factor r.plus_or_minus r.sum_from r.set_to r.set_item r.update r.delete s.begins_aggregate s.aggregate s.select_list s.index_name s.forced_index s.descending s.order_item s.order s.limit_numbers s.limit s.select t.collation t.set_ascii t.key_word t.comment t.named_key t.primary_key t.display_width t.number_type t.column_type t.with_nullable t.with_default t.with_charset t.with_column_collation t.with_primary t.with_column_comment t.text_attribute t.attribute t.attributes_from t.column t.item t.items_from t.with_engine t.with_table_comment t.with_table_charset t.with_table_collation t.text_option t.demand t.plain_option t.option t.options_from t.if_not_exists t.create_table n.key_on n.index_on n.new_index n.index_words n.if_exists n.drop n.begin n.with_snapshot n.start n.savepoint_name n.rollback n.release n.lock_mode n.locked_table n.lock n.work g.create g.row_statement g.schema_statement g.transaction g.session_statement g.transaction_or_session g.other_statement g.statement g.whole_statement g.statement_of
limit_pair = refl

to_savepoint : statement_of (codes "ROLLBACK TO savepoint") ≡ Some (RollbackTo (codes "savepoint"))
unfolding w.is_keyword w.is_sign w.reserved w.is_reserved w.escaped_byte w.escaped w.text_bytes w.hex_value w.padded_bytes w.binary_bytes w.name_in w.is_namelike p.check p.first_kind p.sees p.sees_sign p.behind p.after p.after_sign p.maybe p.maybe_sign p.expect p.expect_sign p.ended p.begins_name p.name p.word p.text p.number p.separated_from p.in_parentheses l.binary l.unsigned_literal l.literal c.comparison c.turned_test c.null_test c.between c.one_of c.range_test c.comparison_test c.plain_test c.column_test c.test c.conj_by c.cond_by c.nested c.neg r.item_value r.column_names r.values_word r.insert r.factor r.plus_or_minus r.sum_from r.set_to r.set_item r.update r.delete s.begins_aggregate s.aggregate s.select_list s.index_name s.forced_index s.descending s.order_item s.order s.limit_numbers s.limit s.select t.collation t.set_ascii t.key_word t.comment t.named_key t.primary_key t.display_width t.number_type t.column_type t.with_nullable t.with_default t.with_charset t.with_column_collation t.with_primary t.with_column_comment t.text_attribute t.attribute t.attributes_from t.column t.item t.items_from t.with_engine t.with_table_comment t.with_table_charset t.with_table_collation t.text_option t.demand t.plain_option t.option t.options_from t.if_not_exists t.create_table n.key_on n.index_on n.new_index n.index_words n.if_exists n.drop n.begin n.with_snapshot n.start n.savepoint_name n.rollback n.release n.lock_mode n.locked_table n.lock n.work g.create g.row_statement g.schema_statement g.transaction g.session_statement g.transaction_or_session g.other_statement g.statement g.whole_statement g.statement_of
to_savepoint = refl

most_work : statement_of (codes "WORK 1000000") ≡ Some (Work 1000000)
unfolding w.is_keyword w.is_sign w.reserved w.is_reserved w.escaped_byte w.escaped w.text_bytes w.hex_value w.padded_bytes w.binary_bytes w.name_in w.is_namelike p.check p.first_kind p.sees p.sees_sign p.behind p.after p.after_sign p.maybe p.maybe_sign p.expect p.expect_sign p.ended p.begins_name p.name p.word p.text p.number p.separated_from p.in_parentheses l.binary l.unsigned_literal l.literal c.comparison c.turned_test c.null_test c.between c.one_of c.range_test c.comparison_test c.plain_test c.column_test c.test c.conj_by c.cond_by c.nested c.neg r.item_value r.column_names r.values_word r.insert r.factor r.plus_or_minus r.sum_from r.set_to r.set_item r.update r.delete s.begins_aggregate s.aggregate s.select_list s.index_name s.forced_index s.descending s.order_item s.order s.limit_numbers s.limit s.select t.collation t.set_ascii t.key_word t.comment t.named_key t.primary_key t.display_width t.number_type t.column_type t.with_nullable t.with_default t.with_charset t.with_column_collation t.with_primary t.with_column_comment t.text_attribute t.attribute t.attributes_from t.column t.item t.items_from t.with_engine t.with_table_comment t.with_table_charset t.with_table_collation t.text_option t.demand t.plain_option t.option t.options_from t.if_not_exists t.create_table n.key_on n.index_on n.new_index n.index_words n.if_exists n.drop n.begin n.with_snapshot n.start n.savepoint_name n.rollback n.release n.lock_mode n.locked_table n.lock n.work g.create g.row_statement g.schema_statement g.transaction g.session_statement g.transaction_or_session g.other_statement g.statement g.whole_statement g.statement_of
most_work = refl

too_much_work : statement_of (codes "WORK 1000001") ≡ None
unfolding w.is_keyword w.is_sign w.reserved w.is_reserved w.escaped_byte w.escaped w.text_bytes w.hex_value w.padded_bytes w.binary_bytes w.name_in w.is_namelike p.check p.first_kind p.sees p.sees_sign p.behind p.after p.after_sign p.maybe p.maybe_sign p.expect p.expect_sign p.ended p.begins_name p.name p.word p.text p.number p.separated_from p.in_parentheses l.binary l.unsigned_literal l.literal c.comparison c.turned_test c.null_test c.between c.one_of c.range_test c.comparison_test c.plain_test c.column_test c.test c.conj_by c.cond_by c.nested c.neg r.item_value r.column_names r.values_word r.insert r.factor r.plus_or_minus r.sum_from r.set_to r.set_item r.update r.delete s.begins_aggregate s.aggregate s.select_list s.index_name s.forced_index s.descending s.order_item s.order s.limit_numbers s.limit s.select t.collation t.set_ascii t.key_word t.comment t.named_key t.primary_key t.display_width t.number_type t.column_type t.with_nullable t.with_default t.with_charset t.with_column_collation t.with_primary t.with_column_comment t.text_attribute t.attribute t.attributes_from t.column t.item t.items_from t.with_engine t.with_table_comment t.with_table_charset t.with_table_collation t.text_option t.demand t.plain_option t.option t.options_from t.if_not_exists t.create_table n.key_on n.index_on n.new_index n.index_words n.if_exists n.drop n.begin n.with_snapshot n.start n.savepoint_name n.rollback n.release n.lock_mode n.locked_table n.lock n.work g.create g.row_statement g.schema_statement g.transaction g.session_statement g.transaction_or_session g.other_statement g.statement g.whole_statement g.statement_of
too_much_work = refl

-- a reserved word, a rest, an option twice, a column in front of nothing
reserved_name : statement_of (codes "SELECT * FROM limit") ≡ None
unfolding w.is_keyword w.is_sign w.reserved w.is_reserved w.escaped_byte w.escaped w.text_bytes w.hex_value w.padded_bytes w.binary_bytes w.name_in w.is_namelike p.check p.first_kind p.sees p.sees_sign p.behind p.after p.after_sign p.maybe p.maybe_sign p.expect p.expect_sign p.ended p.begins_name p.name p.word p.text p.number p.separated_from p.in_parentheses l.binary l.unsigned_literal l.literal c.comparison c.turned_test c.null_test c.between c.one_of c.range_test c.comparison_test c.plain_test c.column_test c.test c.conj_by c.cond_by c.nested c.neg r.item_value r.column_names r.values_word r.insert r.factor r.plus_or_minus r.sum_from r.set_to r.set_item r.update r.delete s.begins_aggregate s.aggregate s.select_list s.index_name s.forced_index s.descending s.order_item s.order s.limit_numbers s.limit s.select t.collation t.set_ascii t.key_word t.comment t.named_key t.primary_key t.display_width t.number_type t.column_type t.with_nullable t.with_default t.with_charset t.with_column_collation t.with_primary t.with_column_comment t.text_attribute t.attribute t.attributes_from t.column t.item t.items_from t.with_engine t.with_table_comment t.with_table_charset t.with_table_collation t.text_option t.demand t.plain_option t.option t.options_from t.if_not_exists t.create_table n.key_on n.index_on n.new_index n.index_words n.if_exists n.drop n.begin n.with_snapshot n.start n.savepoint_name n.rollback n.release n.lock_mode n.locked_table n.lock n.work g.create g.row_statement g.schema_statement g.transaction g.session_statement g.transaction_or_session g.other_statement g.statement g.whole_statement g.statement_of
reserved_name = refl

rest : statement_of (codes "COMMIT WORK 1") ≡ None
unfolding w.is_keyword w.is_sign w.reserved w.is_reserved w.escaped_byte w.escaped w.text_bytes w.hex_value w.padded_bytes w.binary_bytes w.name_in w.is_namelike p.check p.first_kind p.sees p.sees_sign p.behind p.after p.after_sign p.maybe p.maybe_sign p.expect p.expect_sign p.ended p.begins_name p.name p.word p.text p.number p.separated_from p.in_parentheses l.binary l.unsigned_literal l.literal c.comparison c.turned_test c.null_test c.between c.one_of c.range_test c.comparison_test c.plain_test c.column_test c.test c.conj_by c.cond_by c.nested c.neg r.item_value r.column_names r.values_word r.insert r.factor r.plus_or_minus r.sum_from r.set_to r.set_item r.update r.delete s.begins_aggregate s.aggregate s.select_list s.index_name s.forced_index s.descending s.order_item s.order s.limit_numbers s.limit s.select t.collation t.set_ascii t.key_word t.comment t.named_key t.primary_key t.display_width t.number_type t.column_type t.with_nullable t.with_default t.with_charset t.with_column_collation t.with_primary t.with_column_comment t.text_attribute t.attribute t.attributes_from t.column t.item t.items_from t.with_engine t.with_table_comment t.with_table_charset t.with_table_collation t.text_option t.demand t.plain_option t.option t.options_from t.if_not_exists t.create_table n.key_on n.index_on n.new_index n.index_words n.if_exists n.drop n.begin n.with_snapshot n.start n.savepoint_name n.rollback n.release n.lock_mode n.locked_table n.lock n.work g.create g.row_statement g.schema_statement g.transaction g.session_statement g.transaction_or_session g.other_statement g.statement g.whole_statement g.statement_of
rest = refl

engine_twice : statement_of (codes "CREATE TABLE t (a INT) ENGINE=a ENGINE=a") ≡ None
unfolding w.is_keyword w.is_sign w.reserved w.is_reserved w.escaped_byte w.escaped w.text_bytes w.hex_value w.padded_bytes w.binary_bytes w.name_in w.is_namelike p.check p.first_kind p.sees p.sees_sign p.behind p.after p.after_sign p.maybe p.maybe_sign p.expect p.expect_sign p.ended p.begins_name p.name p.word p.text p.number p.separated_from p.in_parentheses l.binary l.unsigned_literal l.literal c.comparison c.turned_test c.null_test c.between c.one_of c.range_test c.comparison_test c.plain_test c.column_test c.test c.conj_by c.cond_by c.nested c.neg r.item_value r.column_names r.values_word r.insert r.factor r.plus_or_minus r.sum_from r.set_to r.set_item r.update r.delete s.begins_aggregate s.aggregate s.select_list s.index_name s.forced_index s.descending s.order_item s.order s.limit_numbers s.limit s.select t.collation t.set_ascii t.key_word t.comment t.named_key t.primary_key t.display_width t.number_type t.column_type t.with_nullable t.with_default t.with_charset t.with_column_collation t.with_primary t.with_column_comment t.text_attribute t.attribute t.attributes_from t.column t.item t.items_from t.with_engine t.with_table_comment t.with_table_charset t.with_table_collation t.text_option t.demand t.plain_option t.option t.options_from t.if_not_exists t.create_table n.key_on n.index_on n.new_index n.index_words n.if_exists n.drop n.begin n.with_snapshot n.start n.savepoint_name n.rollback n.release n.lock_mode n.locked_table n.lock n.work g.create g.row_statement g.schema_statement g.transaction g.session_statement g.transaction_or_session g.other_statement g.statement g.whole_statement g.statement_of
engine_twice = refl

collation_of_int : statement_of (codes "CREATE TABLE t (a INT COLLATE ascii_bin)") ≡ None
unfolding w.is_keyword w.is_sign w.reserved w.is_reserved w.escaped_byte w.escaped w.text_bytes w.hex_value w.padded_bytes w.binary_bytes w.name_in w.is_namelike p.check p.first_kind p.sees p.sees_sign p.behind p.after p.after_sign p.maybe p.maybe_sign p.expect p.expect_sign p.ended p.begins_name p.name p.word p.text p.number p.separated_from p.in_parentheses l.binary l.unsigned_literal l.literal c.comparison c.turned_test c.null_test c.between c.one_of c.range_test c.comparison_test c.plain_test c.column_test c.test c.conj_by c.cond_by c.nested c.neg r.item_value r.column_names r.values_word r.insert r.factor r.plus_or_minus r.sum_from r.set_to r.set_item r.update r.delete s.begins_aggregate s.aggregate s.select_list s.index_name s.forced_index s.descending s.order_item s.order s.limit_numbers s.limit s.select t.collation t.set_ascii t.key_word t.comment t.named_key t.primary_key t.display_width t.number_type t.column_type t.with_nullable t.with_default t.with_charset t.with_column_collation t.with_primary t.with_column_comment t.text_attribute t.attribute t.attributes_from t.column t.item t.items_from t.with_engine t.with_table_comment t.with_table_charset t.with_table_collation t.text_option t.demand t.plain_option t.option t.options_from t.if_not_exists t.create_table n.key_on n.index_on n.new_index n.index_words n.if_exists n.drop n.begin n.with_snapshot n.start n.savepoint_name n.rollback n.release n.lock_mode n.locked_table n.lock n.work g.create g.row_statement g.schema_statement g.transaction g.session_statement g.transaction_or_session g.other_statement g.statement g.whole_statement g.statement_of
collation_of_int = refl
