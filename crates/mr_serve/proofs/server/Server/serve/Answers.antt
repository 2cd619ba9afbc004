use Rattle.std.proofs.Common.{◌∙◌, [], ◌∷◌, None, ap, drop}
use Rattle.mr_base.proofs.Counting.{emit_tells}
use Rattle.mr_base.specs.declared.stop.Stop.TheVariants.{Memory}
use Rattle.mr_commit_log.specs.declared.ending.Ending.TheVariants.{Stopped, EmitFault}
use Rattle.mr_commit_log.proofs.GoingOn.{goes_tells}
use Rattle.mr_spec.specs.ScriptRun.{event_at}
use Rattle.mr_serve.proofs.Running.{runs_nothing, runs_cut, runs_early, runs_append, runs_shown, runs_done}
use Rattle.mr_serve.proofs.Stepping.{added_is, text_is, world_is, lawful_added}
use Rattle.mr_serve.proofs.server.Server.serve.Goals as goal

pub returns-in_err-reply-clause-runs : goal.returns-in_err-reply-clause-runs
returns-in_err-reply-clause-runs g c = λ w stands spelled.
    runs_early _ _ _ _ _ _ w.commits c.from_residual.result (Stopped Memory) c.from_residual.ensures.1
    (runs_cut _ _ _ _ _ [] (event_at w c.args.statement.now c.args.clock ∷ []) None (Stopped Memory) w.commits tt (runs_nothing _ _ _ w.commits))

pub returns-in_err-text-clause-runs : goal.returns-in_err-text-clause-runs
returns-in_err-text-clause-runs g c = λ w stands spelled.
    runs_early _ _ _ _ _ _ w.commits c.from_residual-in_err-text.result (Stopped Memory) c.from_residual-in_err-text.ensures.1
    (runs_cut _ _ _ _ _ [] (event_at w c.args.statement.now c.args.clock ∷ []) None (Stopped Memory) w.commits tt (runs_nothing _ _ _ w.commits))

pub returns-in_err-append_all-clause-runs : goal.returns-in_err-append_all-clause-runs
returns-in_err-append_all-clause-runs g c = λ w stands spelled.
    let e = c.in_err-append_all.ensures in
    let stepped = c.in_ok-reply.ensures.step in
    let added = added_is c.args.self.now.engine c.step.new.engine w c.args.statement.now c.args.clock c.len-before.result c.behind-added.result.now c.in_ok-reply.reply stands.world stepped c.len-before.ensures (c.behind-added.ensures ∙ ap (drop c.len-before.result) c.as_slice.ensures) in
    runs_early _ _ _ _ _ _ w.commits c.from_residual-in_err-append_all.result c.in_err-append_all.field-0.0 c.from_residual-in_err-append_all.ensures.1
    (runs_append _ _ _ _ (event_at w c.args.statement.now c.args.clock) c.behind-added.result.now c.in_err-append_all.field-0.0 w.commits added (goes_tells _ _ e.goes_on)
    (e.appends w.commits (lawful_added w c.args.statement.now c.args.clock c.behind-added.result.now added (c.statements_keep_worlds_sound.ensures w c.args.statement.now c.args.clock spelled stands.sound))))

pub returns-in_err-emit_all-clause-runs : goal.returns-in_err-emit_all-clause-runs
returns-in_err-emit_all-clause-runs g c = λ w stands spelled.
    let a = c.in_ok-append_all.ensures in
    let e = c.in_err-emit_all.ensures in
    let stepped = c.in_ok-reply.ensures.step in
    let added = added_is c.args.self.now.engine c.step.new.engine w c.args.statement.now c.args.clock c.len-before.result c.behind-added.result.now c.in_ok-reply.reply stands.world stepped c.len-before.ensures (c.behind-added.ensures ∙ ap (drop c.len-before.result) c.as_slice.ensures) in
    runs_early _ _ _ _ _ _ w.commits c.from_residual-in_err-emit_all.result EmitFault c.from_residual-in_err-emit_all.ensures.1
    (runs_shown _ _ _ _ _ (event_at w c.args.statement.now c.args.clock) c.behind-added.result.now w.commits c.as_slice-2.result.now added
    (text_is c.args.self.now.engine c.step.new.engine w c.args.statement.now c.args.clock c.in_ok-reply.reply c.as_slice-2.result.now stands.world stepped (c.as_slice-2.ensures ∙ c.in_ok-text.ensures))
    (goes_tells _ _ a.goes_on) (emit_tells _ _ e.counts)
    (a.appends w.commits (lawful_added w c.args.statement.now c.args.clock c.behind-added.result.now added (c.statements_keep_worlds_sound.ensures w c.args.statement.now c.args.clock spelled stands.sound)))
    e.any_moment e.cut_short)

pub returns-clause-runs : goal.returns-clause-runs
returns-clause-runs g c = λ w stands spelled.
    let a = c.in_ok-append_all.ensures in
    let e = c.in_ok-emit_all.ensures in
    let stepped = c.in_ok-reply.ensures.step in
    let added = added_is c.args.self.now.engine c.step.new.engine w c.args.statement.now c.args.clock c.len-before.result c.behind-added.result.now c.in_ok-reply.reply stands.world stepped c.len-before.ensures (c.behind-added.ensures ∙ ap (drop c.len-before.result) c.as_slice.ensures) in
    runs_done _ _ _ _ _ _ (event_at w c.args.statement.now c.args.clock) c.behind-added.result.now w.commits c.as_slice-2.result.now added
    (text_is c.args.self.now.engine c.step.new.engine w c.args.statement.now c.args.clock c.in_ok-reply.reply c.as_slice-2.result.now stands.world stepped (c.as_slice-2.ensures ∙ c.in_ok-text.ensures))
    (goes_tells _ _ a.goes_on) (emit_tells _ _ e.counts) c.saturating_add-self.ensures
    (a.appends w.commits (lawful_added w c.args.statement.now c.args.clock c.behind-added.result.now added (c.statements_keep_worlds_sound.ensures w c.args.statement.now c.args.clock spelled stands.sound)))
    e.any_moment e.whole

pub returns-clause-stands : goal.returns-clause-stands
returns-clause-stands g c = λ w stands spelled. record {
  world = world_is c.args.self.now.engine c.step.new.engine w c.args.statement.now c.args.clock c.in_ok-reply.reply stands.world c.in_ok-reply.ensures.step;
  sound = c.statements_keep_worlds_sound.ensures w c.args.statement.now c.args.clock spelled stands.sound;
}
