-- What has a form as bytes has numbers of 64 bits.
use Rattle.std.proofs.Common.{inl, inr, subst}
use Rattle.mr_types.specs.declared.row.Row.{Row}
use Rattle.mr_types.specs.declared.row.Change.{Change}
use Rattle.mr_types.specs.declared.row.Change.TheVariants.{Insert, Update, Delete}
use Rattle.mr_types.specs.declared.row.Commit.{Commit}
use Rattle.mr_types.specs.declared.row.CommitBody.{CommitBody}
use Rattle.mr_types.specs.declared.row.CommitBody.TheVariants as body
use Rattle.mr_spec.specs.Rows.{rows_of}
use Rattle.mr_spec.specs.Database.{changes_in}
use Rattle.mr_fields.specs.Fitting.{RowFits}
use Rattle.mr_binlog.specs.CommitFitting.{NumbersFit, ChangeFits, BodyFits, CommitFits}
use Rattle.mr_sound.specs.Sound.{IsIn}
use Rattle.mr_forms.proofs.SmallRows.{numbers-fit}
use Rattle.mr_forms.proofs.Lengths.{recursion-in}

row-in : (d : Change) (r : Row) → ChangeFits d → IsIn r (rows_of d) → RowFits r
row-in (Insert table new) r h (inl e) = subst RowFits e h.1
row-in (Insert table new) r h (inr i) = absurd i
row-in (Update table old new) r h (inl e) = subst RowFits e h.1
row-in (Update table old new) r h (inr (inl e)) = subst RowFits e h.2
row-in (Update table old new) r h (inr (inr i)) = absurd i
row-in (Delete table old) r h (inl e) = subst RowFits e h.1
row-in (Delete table old) r h (inr i) = absurd i

rows-fit : (b : CommitBody) → BodyFits b → (d : Change) (r : Row) → IsIn d (changes_in b) → IsIn r (rows_of d) → RowFits r
rows-fit (body.Rows cs) h d r i j = row-in d r (recursion-in ChangeFits cs d h.2 i) j
rows-fit (body.Schema s) h d r i j = absurd i

pub form-numbers : (c : Commit) → CommitFits c → NumbersFit c
form-numbers c h = numbers-fit c h.moment (λ d r i j. let f = rows-fit c.body h.body d r i j in record { hidden = f.hidden; stamp = f.stamp })
