use Rattle.std.proofs.Common.{◌≡◌, ◌+◌, ℕ, List, take, ◌∙◌, ap, arith}
use Rattle.mr_base.specs.Disk.{file_of}
use Rattle.mr_gate.proofs.Giving.{gives}
use Rattle.mr_gate.proofs.window.Window.body.Goals as goal

pub returns-clause-read : goal.returns-clause-read
returns-clause-read g c tells held inside =
    let bytes = (file_of (g.D.Disk.disk c.args.disk.now) c.args.file).bytes in
    let there = c.in_ok-hold.ensures.held tells held in
    c.in_ok-body.ensures ∙ ap (λ (l : List ℕ). take c.args.size l) c.from-behind.ensures.bytes
    ∙ gives c.hold.new.self bytes (c.args.at + 5) c.args.size there (omega (arith, c.hold.ensures.reaches.0)) (omega (arith, c.hold.ensures.reaches.1)) inside
