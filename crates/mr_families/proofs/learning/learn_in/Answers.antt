use Rattle.std.proofs.Common.{◌≡◌, List, subst, sym}
use Rattle.std.specs.List.{insert}
use Rattle.mr_families.specs.declared.numbered.Numbered.{Numbered}
use Rattle.mr_families.specs.Known.{AreKept, IsGapFor}
use Rattle.mr_families.specs.Changed.{Learnt}
use Rattle.mr_families.proofs.Learns.{learnt_new, kept_new, either_way, on_ok}
use Rattle.mr_families.proofs.learning.learn_in.Goals as goal

pub returns-in_ok-one-in-Err-clause-kept : goal.returns-in_ok-one-in-Err-clause-kept
returns-in_ok-one-in-Err-clause-kept c =
    let ns = c.args.list.now.items in
    let i = c.in-Err.place in
    let one = c.in_ok-one-in-Err.one in
    let gap : IsGapFor ns c.args.number i = subst (λ (ms : List Numbered). IsGapFor ms c.args.number i) c.deref.ensures.value c.in-Err.ensures.absent in
    either_way c.insert_at.result (AreKept c.insert_at.new.list.items) (c.insert_at.new.list.items ≡ insert ns i one) (c.insert_at.new.list.items ≡ ns)
    (λ added. subst AreKept (sym added) (kept_new ns c.args.number i one gap c.in_ok-one-in-Err.ensures.number c.in_ok-one-in-Err.ensures.told c.requires))
    (λ same. subst AreKept (sym same) c.requires)
    c.insert_at.ensures.added c.insert_at.ensures.unchanged

pub returns-in_ok-one-in-Err-clause-learnt : goal.returns-in_ok-one-in-Err-clause-learnt
returns-in_ok-one-in-Err-clause-learnt c =
    let ns = c.args.list.now.items in
    let i = c.in-Err.place in
    let one = c.in_ok-one-in-Err.one in
    let gap : IsGapFor ns c.args.number i = subst (λ (ms : List Numbered). IsGapFor ms c.args.number i) c.deref.ensures.value c.in-Err.ensures.absent in
    on_ok c.insert_at.result (c.insert_at.new.list.items ≡ insert ns i one) (Learnt c.args.number c.args.direction ns c.insert_at.new.list.items)
    (λ added. subst (λ (ms : List Numbered). Learnt c.args.number c.args.direction ns ms) (sym added) (learnt_new ns c.args.number i c.args.direction one gap c.in_ok-one-in-Err.ensures.number c.in_ok-one-in-Err.ensures.family))
    c.insert_at.ensures.added
