-- What is left where events ended early.
use Rattle.std.proofs.Common.{◌≡◌, ℕ, ◌<◌, List, [], ◌∷◌, ◌++◌, length, take, ap, sym, ◌∙◌, subst, arith, append_assoc, append-nil, length-append, length-take-le, Option, Some, None, IfSome}
use Rattle.mr_base.specs.Disk.{State}
use Rattle.mr_base.specs.declared.stop.Stop.TheVariants.{Memory, Disk, Full, Damaged}
use Rattle.mr_base.specs.declared.stop.FullKind.{FullKind}
use Rattle.mr_spec.specs.ReplyText.{text_of}
use Rattle.mr_spec.specs.ScriptRun.{Event, output_of, added_by}
use Rattle.mr_types.specs.declared.row.Commit.{Commit}
use Rattle.mr_serve.proofs.Events.{output_on, added_on}
use Rattle.mr_commit_log.specs.Room.{log_length, HasRoom}
use Rattle.mr_serve.specs.Settled.{IsDue, IsUnfinished}
use Rattle.mr_commit_log.specs.Appending.{IsFullFor}
use Rattle.mr_commit_log.specs.declared.ending.Ending.{Ending}
use Rattle.mr_commit_log.specs.declared.ending.Ending.TheVariants.{Stopped, EmitFault, SourceFault, TooLong}
use Rattle.mr_commit_log.proofs.Rooms.{log_on, room_on}

-- a full log that is due for the first events is due for more
due_left : (most : ℕ) (es more : List Event) (commits : List Commit) (output : List ℕ) (s : State) (what : FullKind) (at limit : ℕ) → IsDue most es commits output s what at limit → IsDue most (es ++ more) commits output s what at limit
due_left most es more commits output s what at limit d = record {
  first = d.first;
  next = d.next;
  others = d.others ++ more;
  split = ap (λ x. x ++ more) d.split ∙ append_assoc d.first (d.next ∷ d.others) more;
  room = d.room;
  here = d.here;
}

-- and one that is due behind the first events
pub due_right : (most : ℕ) (es more : List Event) (commits : List Commit) (output : List ℕ) (s : State) (what : FullKind) (at limit : ℕ) → HasRoom most (log_length commits) (added_by es)
    → IsDue most more (commits ++ added_by es) (output ++ output_of es) s what at limit → IsDue most (es ++ more) commits output s what at limit
due_right most es more commits output s what at limit room d =
    let cs : (commits ++ added_by es) ++ added_by d.first ≡ commits ++ added_by (es ++ d.first) = append_assoc commits (added_by es) (added_by d.first) ∙ ap (λ x. commits ++ x) (sym (added_on es d.first)) in
    let os : (output ++ output_of es) ++ output_of d.first ≡ output ++ output_of (es ++ d.first) = append_assoc output (output_of es) (output_of d.first) ∙ ap (λ x. output ++ x) (sym (output_on es d.first)) in
    record {
      first = es ++ d.first;
      next = d.next;
      others = d.others;
      split = ap (λ x. es ++ x) d.split ∙ sym (append_assoc es d.first (d.next ∷ d.others));
      room = subst (λ x. HasRoom most (log_length commits) x) (sym (added_on es d.first)) (room_on most (log_length commits) (added_by es) (added_by d.first) (log_length (commits ++ added_by es)) room (log_on commits (added_by es)) d.room);
      here = subst (λ x. IsFullFor most s x d.next.added (output ++ output_of (es ++ d.first)) what at limit) cs (subst (λ x. IsFullFor most s ((commits ++ added_by es) ++ added_by d.first) d.next.added x what at limit) os d.here);
    }

unfinished_short : (e : Ending) (es : List Event) (before now : List ℕ) → length now < length (before ++ output_of es) → IsUnfinished e es before now
unfinished_short (Stopped Memory) es before now less = tt
unfinished_short (Stopped Disk) es before now less = less
unfinished_short (Stopped (Full what at limit)) es before now less = less
unfinished_short (Stopped (Damaged file at)) es before now less = tt
unfinished_short EmitFault es before now less = less
unfinished_short SourceFault es before now less = tt
unfinished_short TooLong es before now less = tt

unfinished_same : (e : Ending) (es fs : List Event) (before other now : List ℕ) → before ++ output_of es ≡ other ++ output_of fs → IsUnfinished e es before now → IsUnfinished e fs other now
unfinished_same (Stopped Memory) es fs before other now same u = tt
unfinished_same (Stopped Disk) es fs before other now same u = omega (arith, u, ap length same)
unfinished_same (Stopped (Full what at limit)) es fs before other now same u = omega (arith, u, ap length same)
unfinished_same (Stopped (Damaged file at)) es fs before other now same u = tt
unfinished_same EmitFault es fs before other now same u = omega (arith, u, ap length same)
unfinished_same SourceFault es fs before other now same u = tt
unfinished_same TooLong es fs before other now same u = tt

longer : (es more : List Event) (before now : List ℕ) → length now < length (before ++ output_of es) → length now < length (before ++ output_of (es ++ more))
longer es more before now less = omega (arith, less, length-append before (output_of es), length-append before (output_of (es ++ more)), ap length (output_on es more), length-append (output_of es) (output_of more))

unfinished_left : (e : Ending) (es more : List Event) (before now : List ℕ) → IsUnfinished e es before now → IsUnfinished e (es ++ more) before now
unfinished_left (Stopped Memory) es more before now u = tt
unfinished_left (Stopped Disk) es more before now u = longer es more before now u
unfinished_left (Stopped (Full what at limit)) es more before now u = longer es more before now u
unfinished_left (Stopped (Damaged file at)) es more before now u = tt
unfinished_left EmitFault es more before now u = longer es more before now u
unfinished_left SourceFault es more before now u = tt
unfinished_left TooLong es more before now u = tt

-- behind the first events
pub unfinished_right : (ending : Option Ending) (es more : List Event) (before now : List ℕ) → IfSome ending (λ e. IsUnfinished e more (before ++ output_of es) now) → IfSome ending (λ e. IsUnfinished e (es ++ more) before now)
unfinished_right None es more before now u = tt
unfinished_right (Some e) es more before now u =
    let same : (before ++ output_of es) ++ output_of more ≡ before ++ output_of (es ++ more) = append_assoc before (output_of es) (output_of more) ∙ ap (λ x. before ++ x) (sym (output_on es more)) in
    unfinished_same e more (es ++ more) (before ++ output_of es) before now same u

-- an event's reply has some text, so that it isn't out where nothing of it is
pub unfinished_none : (e : Ending) (event : Event) (before now : List ℕ) (n : ℕ) → now ≡ before ++ take n (text_of event.reply) → n < length (text_of event.reply) → IsUnfinished e (event ∷ []) before now
unfinished_none e event before now n is less = unfinished_short e (event ∷ []) before now (omega (
  arith,
  less,
  ap length is,
  length-append before (take n (text_of event.reply)),
  length-take-le n (text_of event.reply),
  length-append before (text_of event.reply ++ []),
  ap length (append-nil (text_of event.reply)),
))

-- whether nothing needs to be said where events that ran, or ended so, end so
abbrev pub Cuts : Option Ending → Ending → Type 0
Cuts None (Stopped Memory) = Unit {0}
Cuts None SourceFault = Unit {0}
Cuts None TooLong = Unit {0}
Cuts None _ = ⊥
Cuts (Some d) e = d ≡ e

pub cut_full : (most : ℕ) (ending : Option Ending) (e : Ending) (es more : List Event) (commits : List Commit) (output : List ℕ) (s : State) → Cuts ending e
    → ((what : FullKind) (at limit : ℕ) → ending ≡ Some (Stopped (Full what at limit)) → IsDue most es commits output s what at limit)
    → (what : FullKind) (at limit : ℕ) → Some e ≡ Some (Stopped (Full what at limit)) → IsDue most (es ++ more) commits output s what at limit
cut_full most None e es more commits output s cuts full what at limit q = let is : e ≡ Stopped (Full what at limit) = cc in absurd (subst (λ x. Cuts None x) is cuts)
cut_full most (Some d) e es more commits output s cuts full what at limit q = due_left most es more commits output s what at limit (full what at limit (ap Some cuts ∙ q))

pub cut_unfinished : (ending : Option Ending) (e : Ending) (es more : List Event) (before now : List ℕ) → Cuts ending e → IfSome ending (λ d. IsUnfinished d es before now) → IsUnfinished e (es ++ more) before now
cut_unfinished None (Stopped Memory) es more before now cuts u = tt
cut_unfinished None (Stopped Disk) es more before now cuts u = absurd cuts
cut_unfinished None (Stopped (Full what at limit)) es more before now cuts u = absurd cuts
cut_unfinished None (Stopped (Damaged file at)) es more before now cuts u = absurd cuts
cut_unfinished None EmitFault es more before now cuts u = absurd cuts
cut_unfinished None SourceFault es more before now cuts u = tt
cut_unfinished None TooLong es more before now cuts u = tt
cut_unfinished (Some d) e es more before now cuts u = subst (λ x. IsUnfinished x (es ++ more) before now) cuts (unfinished_left d es more before now u)
