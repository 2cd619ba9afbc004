use Rattle.std.proofs.Common.{◌≡◌, ◌<◌, ◌∙◌, List, length, get_or, insert, sym, subst, true, false}
use Rattle.std.specs.List.{prefix_len}
use Rattle.mr_dict_entry.specs.Entries.{entry_key}
use Rattle.mr_dict_entry.specs.declared.entry.DictEntry.{DictEntry}
use Rattle.mr_dict.specs.Dictionary.{is_before, is_at, are_ordered, put_in}
use Rattle.mr_dict.specs.Given.{no_entry}
use Rattle.mr_dict.proofs.Putting.{put_over, put_new, put_ordered, on_ok, by_answer}
use Rattle.mr_dict.proofs.dict.put_entry.Goals as goal

pub returns-then-stands_at-clause-ok : goal.returns-then-stands_at-clause-ok
returns-then-stands_at-clause-ok c = λ order.
    let e = c.args.entry in
    let n = c.count_before_entry-at.result in
    let es = c.args.entries.now.items in
    let there = c.stands_at.ensures.here c.if-stands_at.true in
    c.replace.ensures ∙ put_over e es n
    (subst (λ (xs : List DictEntry). are_ordered xs ≡ true → n ≡ prefix_len (is_before (entry_key e)) xs) c.deref.ensures.value c.count_before_entry-at.ensures.found order)
    (subst (λ (xs : List DictEntry). n < length xs) c.deref-2.ensures.value there)
    (subst (λ (xs : List DictEntry). is_at (entry_key e) (get_or xs n no_entry) ≡ true) c.deref-2.ensures.value (sym (c.stands_at.ensures.same there) ∙ c.if-stands_at.true))

pub returns-then-stands_at-clause-ordered : goal.returns-then-stands_at-clause-ordered
returns-then-stands_at-clause-ordered c = λ order.
    let e = c.args.entry in
    let n = c.count_before_entry-at.result in
    let es = c.args.entries.now.items in
    let there = c.stands_at.ensures.here c.if-stands_at.true in
    let is = c.replace.ensures ∙ put_over e es n
    (subst (λ (xs : List DictEntry). are_ordered xs ≡ true → n ≡ prefix_len (is_before (entry_key e)) xs) c.deref.ensures.value c.count_before_entry-at.ensures.found order)
    (subst (λ (xs : List DictEntry). n < length xs) c.deref-2.ensures.value there)
    (subst (λ (xs : List DictEntry). is_at (entry_key e) (get_or xs n no_entry) ≡ true) c.deref-2.ensures.value (sym (c.stands_at.ensures.same there) ∙ c.if-stands_at.true)) in
    subst (λ (xs : List DictEntry). are_ordered xs ≡ true) (sym is) (put_ordered e es order)

pub returns-clause-ok : goal.returns-clause-ok
returns-clause-ok c = λ order.
    let e = c.args.entry in
    let n = c.count_before_entry-at.result in
    let es = c.args.entries.now.items in
    on_ok c.add.result (c.add.new.entries.items ≡ insert es n e) (c.add.new.entries.items ≡ put_in e es) (λ is. is ∙ put_new e es n
    (subst (λ (xs : List DictEntry). are_ordered xs ≡ true → n ≡ prefix_len (is_before (entry_key e)) xs) c.deref.ensures.value c.count_before_entry-at.ensures.found order)
    (subst (λ (xs : List DictEntry). n < length xs → is_at (entry_key e) (get_or xs n no_entry) ≡ false) c.deref-2.ensures.value (λ lt. sym (c.stands_at.ensures.same lt) ∙ c.if-stands_at.false)))
    c.add.ensures.ok

pub returns-clause-ordered : goal.returns-clause-ordered
returns-clause-ordered c = λ order.
    let e = c.args.entry in
    let n = c.count_before_entry-at.result in
    let es = c.args.entries.now.items in
    by_answer c.add.result (c.add.new.entries.items ≡ insert es n e) (c.add.new.entries.items ≡ es) (are_ordered c.add.new.entries.items ≡ true) c.add.ensures.ok c.add.ensures.err
    (λ is. subst (λ (xs : List DictEntry). are_ordered xs ≡ true) (sym (is ∙ put_new e es n
    (subst (λ (xs : List DictEntry). are_ordered xs ≡ true → n ≡ prefix_len (is_before (entry_key e)) xs) c.deref.ensures.value c.count_before_entry-at.ensures.found order)
    (subst (λ (xs : List DictEntry). n < length xs → is_at (entry_key e) (get_or xs n no_entry) ≡ false) c.deref-2.ensures.value (λ lt. sym (c.stands_at.ensures.same lt) ∙ c.if-stands_at.false)))) (put_ordered e es order))
    (λ same. subst (λ (xs : List DictEntry). are_ordered xs ≡ true) (sym same) order)
