-- Worked choices, and worked merges.
use Rattle.std.proofs.Common.{◌≡◌, ℕ, List, ◌∷◌, [], Some, None, true, false, refl}
use Rattle.mr_compact.specs.declared.span.Span.{Span}
use Rattle.mr_iter.specs.Versions.{Version, as_version}
use Rattle.mr_compact.specs.Levels.{as_pick, picked}
use Rattle.mr_compact.specs.Kept.{Keeps, kept_versions, runs_of}

-- a run at a level, in a file with so many bytes, and its first and last key
abbrev run : ℕ → ℕ → ℕ → ℕ → ℕ → Span
run level file bytes first last = record { level = level; info = record { file = file; length = bytes; entries = 1 }; first = first ∷ []; last = last ∷ [] }

nothing : picked true 100 [] ≡ None
nothing = refl

seven : List Span
seven = run 0 26 9 5 7 ∷ run 0 25 9 5 5 ∷ run 0 24 9 5 5 ∷ run 0 23 9 5 5 ∷ run 0 22 9 5 5 ∷ run 0 21 9 5 5 ∷ run 0 20 9 4 5 ∷ []

seven_wait : picked false 100 seven ≡ None
unfolding seven
seven_wait = refl

eight_go : picked false 100 (run 0 27 9 6 6 ∷ seven) ≡ Some (as_pick 1 (27 ∷ 26 ∷ 25 ∷ 24 ∷ 23 ∷ 22 ∷ 21 ∷ 20 ∷ []) true)
unfolding seven
eight_go = refl

-- of level 1 the runs that the span of all newest keys meets, also one between two newest runs; level 2 has a run that meets one of these
eager : picked true 100 (run 0 21 9 2 3 ∷ run 0 20 9 8 9 ∷ run 1 19 9 5 6 ∷ run 1 18 9 9 12 ∷ run 1 17 9 13 14 ∷ run 2 16 9 11 11 ∷ []) ≡ Some (as_pick 1 (21 ∷ 20 ∷ 19 ∷ 18 ∷ []) false)
eager = refl

-- level 1 is over 10 times the memtable's limit: its run of least file number, and what that meets in level 2
over : picked false 1 (run 1 19 6 1 4 ∷ run 1 18 5 5 9 ∷ run 2 17 9 9 12 ∷ run 2 16 9 1 4 ∷ []) ≡ Some (as_pick 2 (18 ∷ 17 ∷ []) true)
over = refl

-- just at its limit it isn't over
at_limit : picked false 1 (run 1 19 5 1 4 ∷ run 1 18 5 5 9 ∷ []) ≡ None
at_limit = refl

-- a family with its keys in reverse has the same choice
reverse : picked false 1 (run 1 19 6 4 1 ∷ run 1 18 5 9 5 ∷ run 2 17 9 12 9 ∷ run 2 16 9 4 1 ∷ run 3 15 9 12 11 ∷ []) ≡ Some (as_pick 2 (18 ∷ 17 ∷ []) false)
reverse = refl

-- ---- merges

put : ℕ → ℕ → ℕ → Version
put key sequence value = as_version (key ∷ []) sequence (Some (value ∷ []))

mark : ℕ → ℕ → Version
mark key sequence = as_version (key ∷ []) sequence None

abbrev all : Keeps
all = λ key value. true

abbrev none : Keeps
none = λ key value. false

six : List Version
six = put 1 9 1 ∷ put 1 5 2 ∷ put 1 3 3 ∷ mark 2 4 ∷ put 2 2 4 ∷ put 3 1 5 ∷ []

-- the versions past number 5, and of each key the newest of the others
above : kept_versions 5 false all six ≡ put 1 9 1 ∷ put 1 5 2 ∷ mark 2 4 ∷ put 3 1 5 ∷ []
unfolding put mark six
above = refl

-- at the bottom no deletion mark
below : kept_versions 5 true all six ≡ put 1 9 1 ∷ put 1 5 2 ∷ put 3 1 5 ∷ []
unfolding put mark six
below = refl

-- the version past the number stays, whatever the filter says; what it doesn't keep of the others becomes a deletion mark
filtered : kept_versions 5 false none six ≡ put 1 9 1 ∷ mark 1 5 ∷ mark 2 4 ∷ mark 3 1 ∷ []
unfolding put mark six
filtered = refl

filtered_below : kept_versions 5 true none six ≡ put 1 9 1 ∷ []
unfolding put mark six
filtered_below = refl

-- few bytes are one run, and none are none
one_run : runs_of six ≡ six ∷ []
unfolding put mark six
one_run = refl

no_run : runs_of [] ≡ []
no_run = refl
