use Rattle.std.proofs.Common.{◌≡◌, ◌≢◌, ◌⊎◌, inl, inr, ⊎_elim, ◌+◌, ◌-◌, ◌*◌, ◌^◌, ◌≤◌, ◌<◌, ℕ, List, [], ◌∷◌, false, length, get_or, take, drop, refl, sym, ◌∙◌, ap, subst, arith, Result, Option, Some, IfOk, IsSomeAnd}
use Rattle.mr_base.specs.declared.stop.Stop.{Stop}
use Rattle.mr_base.specs.declared.stop.Stop.TheVariants as stop
use Rattle.mr_base.specs.Disk.{file_of, File}
use Rattle.mr_base.proofs.Counting.{still_tells}
use Rattle.mr_base.proofs.Moments.{same_then, same_file}
use Rattle.mr_gate.specs.Log.{size_of, records_from, end_from, is_damaged_from}
use Rattle.mr_gate.specs.Gate.{IsDamage}
use Rattle.mr_gate.specs.Walking.{Walk, Walks, IsHeld, IsStep}
use Rattle.mr_gate.proofs.Find.{begun, damaged, past}
use Rattle.mr_gate.proofs.Stepping.{empty_ends, ended, record_there, within}
use Rattle.mr_gate.proofs.log_walk.LogWalk.next_record.Goals as goal
use Rattle.mr_gate.proofs.log_walk.LogWalk.next_record.Goals.{then-size-gt-MAX_BODY-via-then-size-gt-MAX_BODY, then-size-gt-MAX_BODY-via-else-size-gt-MAX_BODY+then-left-taken, in-Some, in-None}

pub returns-then-at-eq0-clause-step : goal.returns-then-at-eq0-clause-step
returns-then-at-eq0-clause-step g c tells =
    let old = g.D.Disk.disk c.args.disk.now in
    let walks = subst (λ (v : Walk). Walks v (file_of old v.file).bytes) (sym c.self.view_is) (c.requires.walks tells) in
    let e = empty_ends c.self.inside.place (file_of old c.self.inside.file).bytes (omega (arith, walks.length, c.if-self-eq0.true)) c.if-at-eq0.true in
    subst (λ (v : Walk). (records_from v.place (file_of old v.file).bytes ≡ []) × (is_damaged_from v.place (file_of old v.file).bytes ≡ false) × (v.place ≡ v.place)) c.self.view_is (e.0, e.1, refl)

pub returns-then-left-eq0-clause-damaged : goal.returns-then-left-eq0-clause-damaged
returns-then-left-eq0-clause-damaged g c tells =
    let old = g.D.Disk.disk c.args.disk.now in
    let walks = subst (λ (v : Walk). Walks v (file_of old v.file).bytes) (sym c.self.view_is) (c.requires.walks tells) in
    let at = c.self.inside.place in
    let there = (file_of old c.self.inside.file).bytes in
    let some : 0 < at + length there = ⊎_elim (λ w. omega (arith, w.1)) (λ w. omega (arith, w, walks.length)) c.else-self-eq0.either in
    let is : IsDamage c.self.inside.file at there (stop.Damaged c.self.inside.file at) =
    past at at 0 there (begun at there) c.self.inside.file (omega (arith, c.if-left-eq0.true, c.saturating_sub-left.ensures, walks.length)) some in
    inr (inr (subst (λ (v : Walk). IsDamage v.file v.place (file_of old v.file).bytes (stop.Damaged c.self.inside.file at)) c.self.view_is is))

pub returns-then-gate-clause-step : goal.returns-then-gate-clause-step
returns-then-gate-clause-step g c tells =
    let old = g.D.Disk.disk c.args.disk.now in
    let walks = subst (λ (v : Walk). Walks v (file_of old v.file).bytes) (sym c.self.view_is) (c.requires.walks tells) in
    let at = c.self.inside.place in
    let there = (file_of old c.self.inside.file).bytes in
    let inside : at < length there = omega (arith, c.if-left-eq0.false, c.saturating_sub-left.ensures, walks.length) in
    let gate : c.in_ok-gate.gate ≡ get_or there at 0 = c.in_ok-gate.ensures.gate tells walks.window inside in
    let either : (c.in_ok-gate.gate ≢ 167) ⊎ (length there ≤ at + 1) = ⊎_elim (λ shut. inl shut) (λ last. inr (omega (arith, last.1, c.saturating_sub-left.ensures, walks.length))) c.then-gate.either in
    let e = ended at there c.in_ok-gate.gate gate inside either in
    subst (λ (v : Walk). (records_from v.place (file_of old v.file).bytes ≡ []) × (is_damaged_from v.place (file_of old v.file).bytes ≡ false) × (at ≡ v.place)) c.self.view_is (e.0, e.1, refl)

pub returns-then-size-gt-MAX_BODY-clause-damaged : goal.returns-then-size-gt-MAX_BODY-clause-damaged
returns-then-size-gt-MAX_BODY-clause-damaged g c tells =
    let old = g.D.Disk.disk c.args.disk.now in
    let walks = subst (λ (v : Walk). Walks v (file_of old v.file).bytes) (sym c.self.view_is) (c.requires.walks tells) in
    let at = c.self.inside.place in
    let there = (file_of old c.self.inside.file).bytes in
    let inside : at < length there = omega (arith, c.if-left-eq0.false, c.saturating_sub-left.ensures, walks.length) in
    let more : at + 1 < length there = omega (arith, inside, c.if-left-eq1.false, c.saturating_sub-left.ensures, walks.length) in
    let gate : c.in_ok-gate.gate ≡ get_or there at 0 = c.in_ok-gate.ensures.gate tells walks.window inside in
    let bad : (2 ^ 29 < c.in_ok-gate.size) ⊎ (length there - at ≤ c.in_ok-gate.size + 5) = elim c.then-size-gt-MAX_BODY.branch [
      | then-size-gt-MAX_BODY-via-then-size-gt-MAX_BODY w ↦ inl (omega (arith, w.if-size-gt-MAX_BODY.true))
      | then-size-gt-MAX_BODY-via-else-size-gt-MAX_BODY+then-left-taken w ↦ inr (omega (arith, w.if-left-taken.true, c.saturating_sub-left.ensures, walks.length))
    ] in
    let is : IsDamage c.self.inside.file at there (stop.Damaged c.self.inside.file at) =
    damaged at at 0 there (begun at there) c.in_ok-gate.gate gate inside c.if-gate.false more c.self.inside.file c.in_ok-gate.size (λ five. c.in_ok-gate.ensures.size tells walks.window five) bad in
    inr (inr (subst (λ (v : Walk). IsDamage v.file v.place (file_of old v.file).bytes (stop.Damaged c.self.inside.file at)) c.self.view_is is))

pub returns-clause-same : goal.returns-clause-same
returns-clause-same g c tells = same_then _ _ _ (c.head.ensures.same tells) (c.body.ensures.same (still_tells _ _ _ _ _ c.head.ensures.counts tells))

pub returns-clause-step : goal.returns-clause-step
returns-clause-step g c tells =
    let old = g.D.Disk.disk c.args.disk.now in
    let walks = subst (λ (v : Walk). Walks v (file_of old v.file).bytes) (sym c.self.view_is) (c.requires.walks tells) in
    let at = c.self.inside.place in
    let size = c.in_ok-gate.size in
    let there = (file_of old c.self.inside.file).bytes in
    let inside : at < length there = omega (arith, c.if-left-eq0.false, c.saturating_sub-left.ensures, walks.length) in
    let room : at + (size + 5) < length there = omega (arith, c.if-left-taken.false, c.saturating_sub-left.ensures, walks.length) in
    let gate : c.in_ok-gate.gate ≡ get_or there at 0 = c.in_ok-gate.ensures.gate tells walks.window inside in
    let size_is : size ≡ size_of (drop (at + 1) there) = c.in_ok-gate.ensures.size tells walks.window (omega (arith, room)) in
    let now : (file_of (g.D.Disk.disk c.head.new.disk) c.self.inside.file).bytes ≡ there = ap (λ (f : File). f.bytes) (same_file _ _ c.self.inside.file (c.head.ensures.same tells)) in
    let held = subst (λ (b : List ℕ). IsHeld c.head.new.self b) (sym now) (c.in_ok-gate.ensures.held tells walks.window) in
    let some = c.in_ok-body.ensures.read (still_tells _ _ _ _ _ c.head.ensures.counts tells) held (omega (arith, room, ap length now)) in
    let after : Walk = record { file = c.self.inside.file; length = c.self.inside.length; place = at + (size + 5); window = c.body.new.self } in
    elim c.match-branch-3.branch [
      | in-Some w ↦
          let body = w.in-Some.body in
          let body_is : body ≡ take size (drop (at + 5) (file_of (g.D.Disk.disk c.head.new.disk) c.self.inside.file).bytes) =
          subst (λ (o : Option (List ℕ)). IsSomeAnd o (λ b. b ≡ take size (drop (at + 5) (file_of (g.D.Disk.disk c.head.new.disk) c.self.inside.file).bytes))) w.in-Some.is some in
          let step = record_there at there c.in_ok-gate.gate gate inside size body c.if-gate.false size_is (omega (arith, c.if-size-gt-MAX_BODY.false)) room (body_is ∙ ap (λ (l : List ℕ). take size (drop (at + 5) l)) now) in
          subst (λ (r : Result (Option (ℕ × List ℕ)) Stop). IfOk r (IsStep c.args.self.now after (file_of old c.args.self.now.file).bytes)) (sym w.result-is)
          (subst (λ (v : Walk). records_from v.place (file_of old v.file).bytes ≡ body ∷ records_from (at + (size + 5)) (file_of old v.file).bytes) c.self.view_is step)
      | in-None w ↦ subst (λ (r : Result (Option (ℕ × List ℕ)) Stop). IfOk r (IsStep c.args.self.now after (file_of old c.args.self.now.file).bytes)) (sym w.result-is) tt
    ]

pub returns-in_err-body-clause-within : goal.returns-in_err-body-clause-within
returns-in_err-body-clause-within g c tells =
    let old = g.D.Disk.disk c.args.disk.now in
    let walks = subst (λ (v : Walk). Walks v (file_of old v.file).bytes) (sym c.self.view_is) (c.requires.walks tells) in
    let at = c.self.inside.place in
    let size = c.in_ok-gate.size in
    let there = (file_of old c.self.inside.file).bytes in
    let inside : at < length there = omega (arith, c.if-left-eq0.false, c.saturating_sub-left.ensures, walks.length) in
    let room : at + (size + 5) < length there = omega (arith, c.if-left-taken.false, c.saturating_sub-left.ensures, walks.length) in
    let gate : c.in_ok-gate.gate ≡ get_or there at 0 = c.in_ok-gate.ensures.gate tells walks.window inside in
    let size_is : size ≡ size_of (drop (at + 1) there) = c.in_ok-gate.ensures.size tells walks.window (omega (arith, room)) in
    let is = within at there c.in_ok-gate.gate gate inside size c.if-gate.false size_is (omega (arith, c.if-size-gt-MAX_BODY.false)) room in
    subst (λ (v : Walk). at + (size + 5) ≤ end_from v.place (file_of old v.file).bytes) c.self.view_is is

pub returns-clause-within : goal.returns-clause-within
returns-clause-within g c tells =
    let old = g.D.Disk.disk c.args.disk.now in
    let walks = subst (λ (v : Walk). Walks v (file_of old v.file).bytes) (sym c.self.view_is) (c.requires.walks tells) in
    let at = c.self.inside.place in
    let size = c.in_ok-gate.size in
    let there = (file_of old c.self.inside.file).bytes in
    let inside : at < length there = omega (arith, c.if-left-eq0.false, c.saturating_sub-left.ensures, walks.length) in
    let room : at + (size + 5) < length there = omega (arith, c.if-left-taken.false, c.saturating_sub-left.ensures, walks.length) in
    let gate : c.in_ok-gate.gate ≡ get_or there at 0 = c.in_ok-gate.ensures.gate tells walks.window inside in
    let size_is : size ≡ size_of (drop (at + 1) there) = c.in_ok-gate.ensures.size tells walks.window (omega (arith, room)) in
    let is = within at there c.in_ok-gate.gate gate inside size c.if-gate.false size_is (omega (arith, c.if-size-gt-MAX_BODY.false)) room in
    subst (λ (v : Walk). at + (size + 5) ≤ end_from v.place (file_of old v.file).bytes) c.self.view_is is
