use Rattle.std.proofs.Common.{◌≡◌, ◌∙◌, true, false, List, sym, subst, rules}
use Rattle.std.proofs.lemmas.List.{get_or_read}
use Rattle.mr_families.specs.declared.numbered.Numbered.{Numbered}
use Rattle.mr_families.specs.Known.{AreKept, one_at, no_one}
use Rattle.mr_families.specs.Changed.{Learnt}
use Rattle.mr_families.proofs.Learns.{is_turned, learnt_already, learnt_turned, kept_turned}
use Rattle.mr_families.proofs.learning.turn.Goals as goal

pub returns-then-not-is_to_turn-clause-learnt : goal.returns-then-not-is_to_turn-clause-learnt
returns-then-not-is_to_turn-clause-learnt c =
    let ns = c.args.list.now.items in
    let read : c.index.result.now ≡ one_at ns c.args.place = get_or_read ns c.args.place c.index.result.now c.requires.place.in_range c.index.ensures no_one in
    let test : c.is_to_turn.result ≡ false = search rules in
    learnt_already ns c.args.number c.args.place c.args.direction c.requires.kept.ascending c.requires.place
    (subst (λ (n : Numbered). is_turned c.args.direction n.family ≡ false) read (sym c.is_to_turn.ensures ∙ test))

pub returns-clause-kept : goal.returns-clause-kept
returns-clause-kept c =
    subst AreKept (sym c.replace_at.ensures) (kept_turned c.args.list.now.items c.args.number c.args.place c.in_ok-one.one c.requires.place c.in_ok-one.ensures.number c.in_ok-one.ensures.told c.requires.kept)

pub returns-clause-learnt : goal.returns-clause-learnt
returns-clause-learnt c =
    let ns = c.args.list.now.items in
    let one = c.in_ok-one.one in
    let read : c.index.result.now ≡ one_at ns c.args.place = get_or_read ns c.args.place c.index.result.now c.requires.place.in_range c.index.ensures no_one in
    let test : c.is_to_turn.result ≡ true = search rules in
    subst (λ (ms : List Numbered). Learnt c.args.number c.args.direction ns ms) (sym c.replace_at.ensures)
    (learnt_turned ns c.args.number c.args.place c.args.direction one c.requires.kept.ascending c.requires.place c.in_ok-one.ensures.number c.in_ok-one.ensures.family
    (subst (λ (n : Numbered). is_turned c.args.direction n.family ≡ true) read (sym c.is_to_turn.ensures ∙ test)))
