use Rattle.std.proofs.Common.{◌≡◌, ◌+◌, ℕ, List, length, true, refl, sym, ap, subst, arith}
use Rattle.mr_base.specs.Disk.{file_of, present, IsAtRest}
use Rattle.mr_base.specs.Calls.{During, OneFile}
use Rattle.mr_gate.specs.Gate.{Gate, Stands, IsAfter, IsBeforeOrAfter}
use Rattle.mr_gate.proofs.Stands.{stands_after}
use Rattle.mr_gate.proofs.gate.GateLog.append.Goals as goal

pub returns-clause-added : goal.returns-clause-added
returns-clause-added g c tells =
    let file_is : c.self.inside.file ≡ c.args.self.now.file = ap (λ (s : Gate). s.file) c.self.view_is in
    let end_is : c.self.inside.end ≡ c.args.self.now.end = ap (λ (s : Gate). s.end) c.self.view_is in
    subst (λ (e : ℕ). IsAfter e c.args.body.now (file_of (g.D.Disk.disk c.args.disk.now) c.args.self.now.file).bytes (file_of (g.D.Disk.disk c.add.new.disk) c.args.self.now.file).bytes) end_is
    (subst (λ (f : ℕ). IsAfter c.self.inside.end c.args.body.now (file_of (g.D.Disk.disk c.args.disk.now) f).bytes (file_of (g.D.Disk.disk c.add.new.disk) f).bytes) file_is (c.in_ok-add.ensures.added tells))

pub returns-clause-stands : goal.returns-clause-stands
returns-clause-stands g c tells =
    let s = subst (λ (v : Gate). Stands v (file_of (g.D.Disk.disk c.args.disk.now) v.file).bytes) (sym c.self.view_is) (c.requires.stands tells) in
    let file_is : c.self.inside.file ≡ c.args.self.now.file = ap (λ (s : Gate). s.file) c.self.view_is in
    let disk = g.D.Disk.disk in
    let inside = c.self.inside in
    let new : Gate = record { file = inside.file; from = inside.from; end = inside.end + (length c.args.body.now + 5); records = inside.records + 1; limit = inside.limit; is_open = true } in
    subst (λ (f : ℕ). Stands new (file_of (disk c.add.new.disk) f).bytes) file_is
    (stands_after _ new c.args.body.now (file_of (disk c.args.disk.now) c.self.inside.file).bytes (file_of (disk c.add.new.disk) c.self.inside.file).bytes s refl (omega arith) refl (c.in_ok-add.ensures.added tells) (c.in_ok-add.ensures.ends tells))

pub returns-clause-any_moment : goal.returns-clause-any_moment
returns-clause-any_moment g c tells =
    let old = g.D.Disk.disk c.args.disk.now in
    let new = g.D.Disk.disk c.add.new.disk in
    let body = c.args.body.now in
    let file_is : c.self.inside.file ≡ c.args.self.now.file = ap (λ (s : Gate). s.file) c.self.view_is in
    let end_is : c.self.inside.end ≡ c.args.self.now.end = ap (λ (s : Gate). s.end) c.self.view_is in
    subst (λ (e : ℕ). During old new (OneFile c.args.self.now.file (present old) (λ (i : List ℕ). IsAtRest (file_of old c.args.self.now.file) → IsBeforeOrAfter e body (file_of old c.args.self.now.file).bytes i))) end_is
    (subst (λ (f : ℕ). During old new (OneFile f (present old) (λ (i : List ℕ). IsAtRest (file_of old f) → IsBeforeOrAfter c.self.inside.end body (file_of old f).bytes i))) file_is (c.add.ensures.any_moment tells))
