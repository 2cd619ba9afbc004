-- Traces of lists of statements.
use Rattle.std.proofs.Common.{◌≡◌, ℕ, suc, List, [], ◌∷◌, ◌++◌, Result, ap, sym, ◌∙◌, append_assoc}
use Rattle.mr_types.specs.declared.statement.Statement.{Statement}
use Rattle.mr_spec.specs.World.{World}
use Rattle.mr_spec.specs.Outcome.{Outcome}
use Rattle.mr_spec.specs.Step.{step}
use Rattle.mr_spec.specs.ReplyText.{text_of}
use Rattle.mr_spec.specs.ScriptRun.{trace, output_of, world_behind, world_after}

-- the clock behind these statements
abbrev pub later : {A : Type 0} → List A → (ℕ → ℕ) → ℕ → ℕ
later [] now = now
later (s ∷ ss) now = later ss (λ k. now (suc k))

-- the output of statements around one whose outcome is known
pub output-around : (w : World) (before behind : List (Result Statement ℕ)) (s : Result Statement ℕ) (now : ℕ → ℕ) (o : Outcome) →
    step (world_behind w before now) s (later before now 0) ≡ o →
    output_of (trace w (before ++ s ∷ behind) now) ≡ output_of (trace w before now) ++ (text_of o.reply ++ output_of (trace o.world behind (λ k. later before now (suc k))))
output-around w [] behind s now o e = ap (λ (x : Outcome). text_of x.reply ++ output_of (trace x.world behind (λ k. now (suc k)))) e
output-around w (b ∷ before) behind s now o e =
    let t : List ℕ = text_of (step w b (now 0)).reply in
    let u : World = world_after w b (now 0) in
    let rest : ℕ → ℕ = λ k. now (suc k) in
    ap (λ x. t ++ x) (output-around u before behind s rest o e) ∙
    sym (append_assoc t (output_of (trace u before rest)) (text_of o.reply ++ output_of (trace o.world behind (λ k. later before rest (suc k)))))
