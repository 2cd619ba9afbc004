use Rattle.std.proofs.Common.{◌≡◌, ◌∙◌, ℕ, ◌+◌, ◌-◌, List, [], ◌∷◌, ◌++◌, drop, ap, sym, subst, Option, Ok, Err}
use Rattle.byteorder.specs.Endian.{big_number}
use Rattle.mr_dict_entry.specs.Entries.{named_def_in, numbered_in, first_of}
use Rattle.mr_dict_entry.specs.declared.table.NoTable.{NoTable}
use Rattle.mr_dict_entry.specs.Given.{HasNone, behind_numbers}
use Rattle.mr_dict_entry.proofs.Trying.{Tables, ended, too_short, found, goes_on}
use Rattle.mr_dict_entry.proofs.table.numbered_def.Goals as goal

pub returns-then-rest-lt4 : goal.returns-then-rest-lt4
returns-then-rest-lt4 c = too_short c.args.name.now (numbered_in c.args.name.now c.args.most 0 c.args.value.now) c.trying.numbers c.trying.offence c.args.most c.trying.keys c.trying.rest.now c.trying.invariant c.trying-test.true c.if-rest-lt4.true

pub returns-in-Ok : goal.returns-in-Ok
returns-in-Ok c =
    let is = found c.args.name.now (numbered_in c.args.name.now c.args.most 0 c.args.value.now) c.trying.numbers c.trying.offence c.args.most c.trying.keys c.trying.rest.now c.trying.invariant c.trying-test.true c.if-rest-lt4.false c.in-Ok.def
    (ap (λ (b : List ℕ). named_def_in c.args.name.now c.trying.keys b) (sym c.behind_number-behind.ensures) ∙ c.in-Ok.ensures) in
    is ∙ ap (λ (ns : List ℕ). Ok (ns, c.in-Ok.def)) (sym (c.in_ok-push.ensures.ok ∙ ap (λ (n : ℕ). c.trying.numbers ++ n ∷ []) c.read_u32-number.ensures))

pub trying-preserved : goal.trying-preserved
trying-preserved c =
    let whole : Tables = numbered_in c.args.name.now c.args.most 0 c.args.value.now in
    let offends : named_def_in c.args.name.now c.trying.keys c.behind_number-behind.result.now ≡ Err c.in-Err-Offence.other = subst (λ (stop : NoTable). HasNone stop (named_def_in c.args.name.now c.trying.keys c.behind_number-behind.result.now)) c.in-Err-Offence.field-0-is c.in-Err-Offence.ensures in
    let is = goes_on c.args.name.now whole c.trying.numbers c.trying.offence c.args.most c.trying.keys c.trying.rest.now c.trying.invariant c.trying-test.true c.if-rest-lt4.false c.in-Err-Offence.other
    (ap (λ (b : List ℕ). named_def_in c.args.name.now c.trying.keys b) (sym c.behind_number-behind.ensures) ∙ offends) in
    let pushed : c.trying.numbers ++ big_number 4 c.trying.rest.now ∷ [] ≡ c.push.new.self = sym (c.in_ok-push.ensures.ok ∙ ap (λ (n : ℕ). c.trying.numbers ++ n ∷ []) c.read_u32-number.ensures) in
    is
    ∙ ap (λ (ns : List ℕ). behind_numbers ns (first_of c.trying.offence c.in-Err-Offence.other) (numbered_in c.args.name.now (c.args.most - (c.trying.keys + 1)) (c.trying.keys + 1) (drop 4 c.trying.rest.now))) pushed
    ∙ ap (λ (o : Option ℕ). behind_numbers c.push.new.self o (numbered_in c.args.name.now (c.args.most - (c.trying.keys + 1)) (c.trying.keys + 1) (drop 4 c.trying.rest.now))) (sym c.first_offence-offence.ensures)
    ∙ ap (λ (b : List ℕ). behind_numbers c.push.new.self c.first_offence-offence.result (numbered_in c.args.name.now (c.args.most - (c.trying.keys + 1)) (c.trying.keys + 1) b)) (sym c.behind_number-behind.ensures)

pub returns : goal.returns
returns c = ended c.args.name.now (numbered_in c.args.name.now c.args.most 0 c.args.value.now) c.trying.numbers c.trying.offence c.args.most c.trying.keys c.trying.rest.now c.trying.invariant c.trying-test.false
