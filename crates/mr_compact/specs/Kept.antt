-- Which versions a merge keeps, and how it cuts them into runs.
use Rattle.std.specs.Prelude.{ℕ, ◌+◌, Bool, false, not, ◌&&◌, ◌||◌, List, [], ◌∷◌, ◌++◌, Option, Some, None, is_none, unwrap_or, nat_lt, if◌then◌else◌}
use Rattle.mr_iter.specs.Versions.{Version, as_version, first}
use Rattle.mr_iter.specs.Snapshots.{is_skipped}
use Rattle.mr_iter.specs.Newest.{is_of}
use Rattle.mr_iter.specs.RunOuts.{entry_bytes, with_version}

-- whether an entry with a key and a value is kept
abbrev pub Keeps : Type 0
Keeps = List ℕ → List ℕ → Bool

-- a value that isn't kept becomes a deletion
abbrev pub kept_put : Keeps → List ℕ → Option (List ℕ) → Option (List ℕ)
kept_put keeps key None = None
kept_put keeps key (Some value) = if keeps key value then Some value else None

abbrev pub as_kept : Keeps → Version → Version
as_kept keeps v = as_version v.key v.sequence (kept_put keeps v.key v.put)

-- what stands in the place of the newest version that isn't past the oldest number: at the bottom no deletion mark
abbrev pub settled : Keeps → Bool → Version → List Version
settled keeps bottom v = if bottom && is_none (kept_put keeps v.key v.put) then [] else as_kept keeps v ∷ []

-- Per key each version past the oldest number, and of the others what stands in the place of the newest. `skip` is the key whose newest one was passed.
abbrev pub kept_from : ℕ → Bool → Keeps → Option (List ℕ) → List Version → List Version
kept_from oldest bottom keeps skip [] = []
kept_from oldest bottom keeps skip (v ∷ vs) =
    if nat_lt oldest v.sequence then v ∷ kept_from oldest bottom keeps skip vs
    else (if is_skipped skip v.key then kept_from oldest bottom keeps skip vs
    else settled keeps bottom v ++ kept_from oldest bottom keeps (Some v.key) vs)

abbrev pub kept_versions : ℕ → Bool → Keeps → List Version → List Version
kept_versions oldest bottom keeps vs = kept_from oldest bottom keeps None vs

-- what becomes of the newest version of a key at a number that isn't below the oldest
abbrev pub becomes : ℕ → Bool → Keeps → Option Version → Option Version
becomes oldest bottom keeps None = None
becomes oldest bottom keeps (Some v) = if nat_lt oldest v.sequence then Some v else first (settled keeps bottom v)

-- a put that views go on to show: one past the oldest number, or one that the filter keeps
abbrev pub stays_shown : ℕ → Keeps → Version → Bool
stays_shown oldest keeps v = nat_lt oldest v.sequence || keeps v.key (unwrap_or v.put [])

-- a run is closed past so many bytes
abbrev pub run_limit : ℕ
run_limit = 2097152

-- the bytes of a run's entries
abbrev pub run_bytes : List Version → ℕ
run_bytes [] = 0
run_bytes (v ∷ vs) = entry_bytes v + run_bytes vs

-- the key of the last version
abbrev pub last_key : List Version → Option (List ℕ)
last_key [] = None
last_key (v ∷ []) = Some v.key
last_key (v ∷ (w ∷ ws)) = last_key (w ∷ ws)

-- a run has a version of a key
abbrev pub has_key : List ℕ → List Version → Bool
has_key key [] = false
has_key key (v ∷ vs) = is_of key v || has_key key vs

-- a run is closed before a version of another key once it is past the limit
abbrev pub is_closed : List Version → Version → Bool
is_closed run v = nat_lt run_limit (run_bytes run) && not (is_skipped (last_key run) v.key)

-- a run alone, if it has versions
abbrev pub alone : List Version → List (List Version)
alone [] = []
alone (v ∷ vs) = (v ∷ vs) ∷ []

-- these versions in runs, the first of which has begun with a list
abbrev pub runs_from : List Version → List Version → List (List Version)
runs_from run [] = alone run
runs_from run (v ∷ vs) = if is_closed run v then run ∷ runs_from (v ∷ []) vs else runs_from (with_version run v) vs

abbrev pub runs_of : List Version → List (List Version)
runs_of vs = runs_from [] vs
