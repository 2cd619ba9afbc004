-- A run goes on, statement by statement.
use Rattle.std.proofs.Common.{◌≡◌, ℕ, zero, suc, ◌+◌, ◌<◌, ◌≤◌, Bool, true, false, ◌||◌, IsTrue, List, [], ◌∷◌, ◌++◌, length, drop, get_or, Result, Ok, Err, OnErr, refl, ap, sym, ◌∙◌, subst, append_assoc, append-nil, add-one, drop-cons, take, take-append-drop, arith}
use Rattle.std.proofs.lemmas.List.{drop_all}
use Rattle.mr_base.specs.Source.{ClockState}
use Rattle.mr_types.specs.declared.statement.Statement.{Statement}
use Rattle.mr_spec.specs.ReplyText.{text_of}
use Rattle.mr_spec.specs.ScriptRun.{trace, output_of, has_error, is_refusal, world_behind}
use Rattle.mr_spec.specs.Step.{step}
use Rattle.mr_spec.specs.World.{World}
use Rattle.mr_model.specs.declared.script.Player.{Player}
use Rattle.mr_model.specs.declared.script.Ran.{Ran}
use Rattle.mr_model.specs.Running.{IsRunFrom, IsSpent, IsPartlySpent, IsTaken, value_before, IsServed, GoesOn}
use Rattle.mr_model_engine.specs.Worlds.{world_in}

or_assoc : (a b c : Bool) → ((a || b) || c) ≡ (a || (b || c))
or_assoc true b c = refl
or_assoc false b c = refl

values_before : (old new : ClockState) (value : ℕ) (vs : ℕ → ℕ) → value ≡ old.values 0 → ((k : ℕ) → new.values k ≡ old.values (k + 1)) → ((k : ℕ) → vs k ≡ new.values k) → (k : ℕ) → value_before value vs k ≡ old.values k
values_before old new value vs first later h zero = first
values_before old new value vs first later h (suc k) = h k ∙ later k ∙ ap old.values (add-one k)

one_more : (k n : ℕ) → k + n + 1 ≡ k + suc n
one_more k n = omega arith

-- nothing was taken
pub unspent : (statements : List (Result Statement ℕ)) (clock : ClockState) → IsSpent clock clock statements statements
unspent statements clock = record { tells = refl; values = λ t k. refl }

-- a value more
spent_one : (statements left : List (Result Statement ℕ)) (s : Result Statement ℕ) (start now next : ClockState) → IsSpent start now statements (s ∷ left) → IsTaken now next → IsSpent start next statements left
spent_one statements left s start now next spent taken = record {
  tells = taken.tells ∙ spent.tells;
  values = λ t k.
      taken.later (subst IsTrue (sym spent.tells) t) (k + length left)
      ∙ ap now.values (one_more k (length left))
      ∙ spent.values t k;
}

-- one statement more
pub goes_on : (w : World) (statements left : List (Result Statement ℕ)) (start now next : ClockState) (old new : Player) (s : Result Statement ℕ)
    → GoesOn w statements start now old (s ∷ left) → IsServed now next old new s → GoesOn w statements start next new left
goes_on w statements left start now next old new s g served = record {
  values = λ vs. g.values (value_before served.value vs);
  told = λ t vs h. let tells : IsTrue now.tells = subst IsTrue (sym g.spent.tells) t in
      g.told t (value_before served.value vs) (values_before now next served.value vs (served.told tells) (served.taken.later tells) h);
  output = λ vs.
      ap (λ o. o ++ output_of (trace (world_in new.engine) left vs)) served.output
      ∙ append_assoc old.output.items (text_of (step (world_in old.engine) s served.value).reply) (output_of (trace (world_in new.engine) left vs))
      ∙ ap (λ (u : World). old.output.items ++ (text_of (step (world_in old.engine) s served.value).reply ++ output_of (trace u left vs))) served.world
      ∙ g.output (value_before served.value vs);
  failed = λ vs.
      ap (λ f. f || has_error (trace (world_in new.engine) left vs)) served.failed
      ∙ or_assoc old.failed (is_refusal (step (world_in old.engine) s served.value).reply) (has_error (trace (world_in new.engine) left vs))
      ∙ ap (λ (u : World). old.failed || (is_refusal (step (world_in old.engine) s served.value).reply || has_error (trace u left vs))) served.world
      ∙ g.failed (value_before served.value vs);
  behind = λ vs. ap (λ (u : World). world_behind u left vs) served.world ∙ g.behind (value_before served.value vs);
  spent = spent_one statements left s start now next g.spent served.taken;
}

-- before the first
pub at_start : (statements : List (Result Statement ℕ)) (clock : ClockState) (player : Player) → player.output.items ≡ [] → player.failed ≡ false → GoesOn (world_in player.engine) statements clock clock player statements
at_start statements clock player empty unfailed = record {
  values = λ vs. vs;
  told = λ t vs h. h;
  output = λ vs. ap (λ o. o ++ output_of (trace (world_in player.engine) statements vs)) empty;
  failed = λ vs. ap (λ f. f || has_error (trace (world_in player.engine) statements vs)) unfailed;
  behind = λ vs. refl;
  spent = unspent statements clock;
}

-- the statement at a place, in front of those behind it
split_at : (statements : List (Result Statement ℕ)) (i : ℕ) (s : Result Statement ℕ) → i < length statements → s ≡ get_or statements i s → drop i statements ≡ s ∷ drop (i + 1) statements
split_at statements i s within is = drop-cons statements i s within ∙ ap (λ n. get_or statements i s ∷ drop n statements) (sym (add-one i)) ∙ ap (λ x. x ∷ drop (i + 1) statements) (sym is)

-- from the statement at a place
pub goes_on_at : (w : World) (statements : List (Result Statement ℕ)) (i : ℕ) (start now next : ClockState) (old new : Player) (s : Result Statement ℕ) → i < length statements → s ≡ get_or statements i s
    → GoesOn w statements start now old (drop i statements) → IsServed now next old new s → GoesOn w statements start next new (drop (i + 1) statements)
goes_on_at w statements i start now next old new s within is g served =
    goes_on w statements (drop (i + 1) statements) start now next old new s (subst (GoesOn w statements start now old) (split_at statements i s within is) g) served

or_false : (b : Bool) → b ≡ (b || false)
or_false true = refl
or_false false = refl

-- behind the last
pub at_end : (w : World) (statements : List (Result Statement ℕ)) (i : ℕ) (start now : ClockState) (player : Player) (ran : Ran) → length statements ≤ i
    → GoesOn w statements start now player (drop i statements) → ran.output ≡ player.output.items → ran.failed ≡ player.failed → ran.commits ≡ player.engine.commits → IsRunFrom w statements start ran
at_end w statements i start now player ran behind g output failed commits =
    let ended : GoesOn w statements start now player [] = subst (GoesOn w statements start now player) (drop_all i statements behind) g in
    record {
      now = ended.values now.values;
      told = λ t k. ended.told t now.values (λ j. refl) k;
      output = output ∙ sym (append-nil player.output.items) ∙ ended.output now.values;
      failed = failed ∙ or_false player.failed ∙ ended.failed now.values;
      commits = commits ∙ ap (λ (u : World). u.commits) (ended.behind now.values);
    }

-- and what the clock has left
pub spent_at_end : (w : World) (statements : List (Result Statement ℕ)) (i : ℕ) (start now : ClockState) (player : Player) → length statements ≤ i
    → GoesOn w statements start now player (drop i statements) → IsSpent start now statements []
spent_at_end w statements i start now player behind g = subst (IsSpent start now statements) (drop_all i statements behind) g.spent

-- where the statement at a place fails, a value was taken for it
pub partly_at : (w : World) (statements : List (Result Statement ℕ)) (i : ℕ) (start now next : ClockState) (old : Player) (s : Result Statement ℕ) → i < length statements → s ≡ get_or statements i s
    → GoesOn w statements start now old (drop i statements) → IsTaken now next → IsPartlySpent start next statements
partly_at w statements i start now next old s within is g taken = record {
  served = take (i + 1) statements;
  left = drop (i + 1) statements;
  are = sym (take-append-drop (i + 1) statements);
  spent = spent_one statements (drop (i + 1) statements) s start now next (subst (IsSpent start now statements) (split_at statements i s within is) g.spent) taken;
}

-- where nothing was served
pub none_served : (statements : List (Result Statement ℕ)) (clock : ClockState) → IsPartlySpent clock clock statements
none_served statements clock = record { served = []; left = statements; are = refl; spent = unspent statements clock }

pub on_err : {A E : Type 0} (r : Result A E) (P : Type 0) → P → OnErr r P
on_err (Ok x) P h = tt
on_err (Err e) P h = h
