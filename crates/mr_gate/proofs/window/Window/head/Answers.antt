use Rattle.std.proofs.Common.{◌≡◌, ◌+◌, ℕ, List, take, drop, ◌∙◌, ap, arith}
use Rattle.mr_base.specs.Disk.{file_of}
use Rattle.mr_gate.proofs.Giving.{gives, gate_is, size_is}
use Rattle.mr_gate.proofs.window.Window.head.Goals as goal

pub returns-clause-gate : goal.returns-clause-gate
returns-clause-gate g c tells held inside =
    let bytes = (file_of (g.D.Disk.disk c.args.disk.now) c.args.file).bytes in
    let there = c.in_ok-hold.ensures.held tells held in
    let one : take 1 c.from.result.now ≡ take 1 (drop c.args.at bytes) = ap (λ (l : List ℕ). take 1 l) c.from.ensures.bytes ∙ gives c.hold.new.self bytes c.args.at 1 there c.hold.ensures.reaches.0 (omega (arith, c.hold.ensures.reaches.1)) (omega (arith, inside)) in
    c.head_in.ensures.gate ∙ gate_is bytes c.from.result.now c.args.at one

pub returns-clause-size : goal.returns-clause-size
returns-clause-size g c tells held inside =
    let bytes = (file_of (g.D.Disk.disk c.args.disk.now) c.args.file).bytes in
    let there = c.in_ok-hold.ensures.held tells held in
    let five : take 5 c.from.result.now ≡ take 5 (drop c.args.at bytes) = ap (λ (l : List ℕ). take 5 l) c.from.ensures.bytes ∙ gives c.hold.new.self bytes c.args.at 5 there c.hold.ensures.reaches.0 (omega (arith, c.hold.ensures.reaches.1)) inside in
    c.head_in.ensures.size ∙ size_is bytes c.from.result.now c.args.at five
