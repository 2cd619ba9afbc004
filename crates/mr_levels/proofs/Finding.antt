-- A look-up in all runs: the newest ones, and then level by level.
use Rattle.std.proofs.Common.{◌≡◌, ℕ, List, ◌++◌, sym, ◌∙◌, ap, Option, None, Result, Ok, Err, IfOk, IfErr, OnOk}
use Rattle.mr_base.specs.Disk.{State, Tells, seen}
use Rattle.mr_base.specs.declared.stop.Direction.{Direction}
use Rattle.mr_iter.specs.Versions.{Version}
use Rattle.mr_iter.specs.Newest.{latest}
use Rattle.mr_run_open.specs.Runs.{RunState}
use Rattle.mr_block_cache.specs.Cache.{CachedBlock, AgreesWith}
use Rattle.mr_levels.specs.Levels.{LevelsState, runs, AreKept, IsLive, AreWhole}
use Rattle.mr_levels.specs.Looks.{can_hold, with_key, parts_of, looked, newest_in_each, AgreeWith}
use Rattle.mr_levels.proofs.Joins.{filter_append}
use Rattle.mr_levels.proofs.Looking.{Looked}
use Rattle.mr_levels.proofs.Skipping.{newest_looked, each_looked}

abbrev pub as_levels : Direction → List RunState → List (List RunState) → LevelsState
as_levels d ns rss = record { direction = d; newest = ns; deeper = rss }

pub looked_split : (key : List ℕ) (d : Direction) (ns : List RunState) (rss : List (List RunState)) (s : LevelsState) (ms : List RunState) (qss : List (List RunState)) → as_levels d ns rss ≡ s → ms ≡ ns → qss ≡ rss → looked key s ≡ with_key d key ms ++ with_key d key (parts_of d key qss)
looked_split key d ns rss s ms qss view e f =
    ap (looked key) (sym view) ∙ filter_append (can_hold d key) ns (parts_of d key rss)
    ∙ ap (λ (xs : List RunState). with_key d key xs ++ with_key d key (parts_of d key rss)) (sym e)
    ∙ ap (λ (xss : List (List RunState)). with_key d key ms ++ with_key d key (parts_of d key xss)) (sym f)

pub whole_finds : (number : ℕ) (key : List ℕ) (s : LevelsState) (old new : State) (cs ds : List CachedBlock) (o : Option Version) → AreKept s.direction s.newest s.deeper → Looked number key (looked key s) old new cs ds None o →
    Tells old → AreWhole s (seen old) → AgreeWith (seen old) cs (runs s) → o ≡ latest (newest_in_each number key (seen old) (runs s))
whole_finds number key s old new cs ds o kept done tells whole agree =
    done.finds.found tells (each_looked (IsLive (seen old)) s.direction key s.newest s.deeper whole.live) (each_looked (λ (r : RunState). AgreesWith r.file (seen old r.file) cs) s.direction key s.newest s.deeper agree)
    ∙ newest_looked s.direction number key (seen old) s.newest s.deeper kept.one kept.one_deeper whole.live whole.apart

module _ {A E : Type 0} where
  pub each_ok : {P Q : A → Type 0} (r : Result A E) → ((x : A) → P x → Q x) → IfOk r P → IfOk r Q
  each_ok (Ok x) law h = law x h
  each_ok (Err e) law h = h

  pub some_ok : {P : A → Type 0} {Q : Type 0} (r : Result A E) → ((x : A) → P x → Q) → IfOk r P → OnOk r Q
  some_ok (Ok x) law h = law x h
  some_ok (Err e) law h = h

  pub each_err : {P Q : E → Type 0} (r : Result A E) → ((e : E) → P e → Q e) → IfErr r P → IfErr r Q
  each_err (Ok x) law h = h
  each_err (Err e) law h = law e h
