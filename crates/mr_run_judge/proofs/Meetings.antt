-- What meets by its ends overlaps by its file.
use Rattle.std.proofs.Common.{◌≡◌, Bool, true, false, List, [], ◌∷◌, ◌++◌, refl, ◌∙◌, ap, map, Some}
use Rattle.std.specs.Prelude.{◌||◌, if◌then◌else◌}
use Rattle.std.specs.List.{AllByRecursion}
use Rattle.mr_base.specs.Disk.{Image}
use Rattle.mr_manifest.specs.declared.live.LiveRun.{LiveRun}
use Rattle.mr_stored.specs.Offences.{overlap, overlaps_one, first_overlap}
use Rattle.mr_run_judge.specs.declared.ends.Ends.{Ends}
use Rattle.mr_run_judge.specs.Judged.{HasEnds}
use Rattle.mr_run_judge.specs.Meeting.{meet, meets_one, first_meeting}

meets : (image : Image) (a b : Ends) → HasEnds image a → HasEnds image b → meet a b ≡ overlap image a.run b.run
meets image a b ha hb = rw (ha.0, ha.1, hb.0, hb.1)

exchanged : (x y z : Bool) → (x || (y || z)) ≡ (y || (x || z))
exchanged true true z = refl
exchanged true false z = refl
exchanged false y z = refl

-- one more behind the others counts as in front of them
meets-last : (one e : Ends) (es : List Ends) → meets_one one (es ++ e ∷ []) ≡ (meet one e || meets_one one es)
meets-last one e [] = refl
meets-last one e (f ∷ es) = ap (λ b. meet one f || b) (meets-last one e es) ∙ exchanged (meet one f) (meet one e) (meets_one one es)

-- these were met by the same ones
abbrev Agree : Image → List Ends → List LiveRun → Type 0
Agree image before runs = (one : Ends) → HasEnds image one → meets_one one before ≡ overlaps_one image one.run runs

agree-more : (image : Image) (before : List Ends) (runs : List LiveRun) (e : Ends) → HasEnds image e → Agree image before runs → Agree image (before ++ e ∷ []) (e.run ∷ runs)
agree-more image before runs e he agree one h =
    meets-last one e before ∙ ap (λ b. b || meets_one one before) (meets image one e h he) ∙ ap (λ b. overlap image one.run e.run || b) (agree one h)

pub first-meeting : (image : Image) (before : List Ends) (runs : List LiveRun) (es : List Ends) → Agree image before runs → AllByRecursion (HasEnds image) es
    → first_meeting before es ≡ first_overlap image runs (map (λ (e : Ends). e.run) es)
first-meeting image before runs [] agree all = refl
first-meeting image before runs (e ∷ es) agree all =
    ap (λ b. if b then Some e.run.file else first_meeting (before ++ e ∷ []) es) (agree e all.0)
    ∙ ap (λ o. if overlaps_one image e.run runs then Some e.run.file else o) (first-meeting image (before ++ e ∷ []) (e.run ∷ runs) es (agree-more image before runs e all.0 agree) all.1)

-- by the ends of all runs
pub first-of-all : (image : Image) (es : List Ends) → AllByRecursion (HasEnds image) es → first_meeting [] es ≡ first_overlap image [] (map (λ (e : Ends). e.run) es)
first-of-all image es all = first-meeting image [] [] es (λ one h. refl) all
