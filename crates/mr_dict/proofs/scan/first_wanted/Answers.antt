use Rattle.std.proofs.Common.{[], ◌≡◌, ◌<◌, ◌^◌, ◌∙◌, ℕ, sym, subst, get_or, false}
use Rattle.std.specs.List.{prefix_len}
use Rattle.mr_dict_entry.specs.Entries.{kinded_key}
use Rattle.mr_dict.specs.Dictionary.{is_before}
use Rattle.mr_dict.specs.Lookups.{is_kind, wanted_kind}
use Rattle.mr_dict.specs.Given.{no_entry}
use Rattle.mr_dict.proofs.Scanning.{none_early, ends, found_at, found_none, one_more_none, none_up_to}
use Rattle.mr_dict.proofs.scan.first_wanted.Goals as goal

pub looking-init : goal.looking-init
looking-init c = λ order.
    none_early c.args.wanted.now c.args.entries.now c.count_before-from.result order
    (subst (λ (k : ℕ). c.count_before-from.result ≡ prefix_len (is_before (kinded_key k [])) c.args.entries.now) c.kind_of_wanted-kind.ensures (c.count_before-from.ensures.found order))

pub looking-preserved : goal.looking-preserved
looking-preserved c = λ order. one_more_none c.args.wanted.now c.args.entries.now c.looking.at (c.looking.invariant order) (sym c.is_wanted_at.ensures ∙ c.if-is_wanted_at.false)

pub returns-then-not-is_of_kind : goal.returns-then-not-is_of_kind
returns-then-not-is_of_kind c = λ order.
    let kind : c.kind_of_wanted-kind.result ≡ wanted_kind c.args.wanted.now = c.kind_of_wanted-kind.ensures in
    let few : wanted_kind c.args.wanted.now < 2 ^ 32 = subst (λ (k : ℕ). k < 2 ^ 32) kind c.kind_of_wanted-kind.type_inv in
    let other : is_kind (wanted_kind c.args.wanted.now) (get_or c.args.entries.now c.looking.at no_entry) ≡ false =
    subst (λ (k : ℕ). is_kind k (get_or c.args.entries.now c.looking.at no_entry) ≡ false) kind (sym c.is_of_kind.ensures ∙ c.if-not-is_of_kind.true) in
    found_none c.args.wanted.now c.args.entries.now (ends c.args.wanted.now c.args.entries.now c.count_before-from.result order
    (subst (λ (k : ℕ). c.count_before-from.result ≡ prefix_len (is_before (kinded_key k [])) c.args.entries.now) kind (c.count_before-from.ensures.found order))
    c.looking.at few c.looking.auto.at c.looking-test.true other (c.looking.invariant order))

pub returns-then-is_wanted_at : goal.returns-then-is_wanted_at
returns-then-is_wanted_at c = λ order. found_at c.args.wanted.now c.args.entries.now c.looking.at c.looking-test.true (c.looking.invariant order) (sym c.is_wanted_at.ensures ∙ c.if-is_wanted_at.true)

pub returns : goal.returns
returns c = λ order. found_none c.args.wanted.now c.args.entries.now (none_up_to c.args.wanted.now c.args.entries.now c.looking.at (c.looking.invariant order) c.looking-test.false)
