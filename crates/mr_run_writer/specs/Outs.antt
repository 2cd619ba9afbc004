-- A place for runs, one after another, as its writer of the one that is begun.
use Rattle.std.specs.Prelude.{◌≡◌, ℕ, ◌<◌, List, [], Option, Some, None, IfSome, refl}
use Rattle.std.proofs.Common.{ap}
use Rattle.std.specs.Option.{option_map}
use Rattle.mr_base.specs.Disk.{File, Image}
use Rattle.mr_iter.specs.Versions.{Version}
use Rattle.mr_base.specs.declared.stop.Direction.{Direction}
use Rattle.mr_iter.specs.RunOuts.{OutState}
use Rattle.mr_run_file.specs.Reading.{IsRun}
use Rattle.mr_run_file.proofs.Lists.{one_ordered}
use Rattle.mr_run_writer.specs.Drafts.{versions_of, Stands}
use Rattle.mr_run_writer.specs.declared.files.RunFiles.{RunFiles}
use Rattle.mr_run_writer.specs.declared.writer.RunWriter.{RunWriter}

-- the versions that were added since the run was begun
abbrev pub added_to : Option RunWriter → Image → List Version
added_to None image = []
added_to (Some w) image = versions_of w (image w.buffer.file)

abbrev pub files_out : RunFiles → OutState
files_out r = record { direction = r.direction; file = option_map (λ w. w.buffer.file) r.writer; added = added_to r.writer; bytes = r.bytes }

-- the writer that goes on: its file is as its last call left it, and it has some version where bytes were added
pub record GoesOn (bytes : ℕ) (w : RunWriter) (file : File) : Type 0 where
  pub stands : Stands w file.bytes
  pub some : 0 < bytes → 0 < w.entries

abbrev pub files_stand : RunFiles → File → Type 0
files_stand r file = IfSome r.writer (λ w. GoesOn r.bytes w file)

same_added : (w : Option RunWriter) (i j : Image) → IfSome (option_map (λ w. w.buffer.file) w) (λ f. i f ≡ j f) → added_to w i ≡ added_to w j
same_added None i j same = refl
same_added (Some w) i j same = ap (versions_of w) same

-- the list is what the file of its run says
pub by_its_file : (o : RunFiles) (i j : Image) → IfSome (files_out o).file (λ f. i f ≡ j f) → (files_out o).added i ≡ (files_out o).added j
by_its_file o i j same = same_added o.writer i j same

-- bytes are a run of one list at the most
pub one_list : (d : Direction) (n m : ℕ) (bytes : List ℕ) (vs ws : List Version) → IsRun d n bytes vs → IsRun d m bytes ws → (n ≡ m) × (vs ≡ ws)
one_list d n m bytes vs ws is also = one_ordered d n m bytes vs ws is also
