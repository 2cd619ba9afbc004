-- Commits that have a form as bytes, as far as being lawful doesn't say it.
use Rattle.std.specs.Prelude.{ℕ, ◌<◌, ◌≤◌, ◌^◌, List, ◌∷◌, Result, Ok}
use Rattle.mr_types.specs.declared.statement.Statement.{Statement}
use Rattle.mr_types.specs.Grammatical.{IsGrammatical}
use Rattle.mr_types.specs.declared.row.Row.{Row}
use Rattle.mr_types.specs.declared.row.Change.{Change}
use Rattle.mr_types.specs.declared.row.Commit.{Commit}
use Rattle.mr_spec.specs.declared.world.Session.{Session}
use Rattle.mr_spec.specs.World.{World, changes_by}
use Rattle.mr_spec.specs.Rows.{rows_of}
use Rattle.mr_binlog.specs.CommitFitting.{NumbersFit, HasSmallNumbers}
use Rattle.mr_sound.specs.Sound.{IsIn}

-- each next hidden number is at most 2^64, so that a row may still draw the one before it
abbrev pub HasRoom : World → Type 0
HasRoom w = (name : List ℕ) → w.numbers name ≤ 2 ^ 64

-- the commits, and what sessions hold, are of 64 bits
pub record IsOf64Bits (w : World) : Type 0 where
  pub commits : (c : Commit) → IsIn c w.commits → NumbersFit c
  pub held : (s : Session) (c : Change) (r : Row) → IsIn s (w.here ∷ w.others) → IsIn c (changes_by s.txn) → IsIn r (rows_of c) → HasSmallNumbers r
  pub moment : w.moment < 2 ^ 64

-- statements that texts of at most 1,048,576 bytes spell
abbrev pub AreRead : List (Result Statement ℕ) → Type 0
AreRead ss = (s : Statement) → IsIn (Ok s) ss → IsGrammatical s
