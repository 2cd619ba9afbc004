use Rattle.std.proofs.Common.{◌≡◌, ◌<◌, ◌+◌, ◌++◌, ◌∷◌, [], ℕ, Option, Some, None, List, length, get_or, take, refl, sym, ◌∙◌, ap, subst, rules}
use Rattle.std.specs.BTreeMap.{get}
use Rattle.std.specs.Ordering.{nat_cmp}
use Rattle.std.proofs.lemmas.List.{take_more}
use Rattle.mr_base.specs.Disk.{at_rest}
use Rattle.mr_memhost.specs.declared.choice.Fate.{Fate}
use Rattle.mr_memhost.specs.declared.mem_file.MemFile.{MemFile}
use Rattle.mr_memhost.specs.declared.step.Step.{Step}
use Rattle.mr_memhost.specs.Crash.{synced_of, remade}
use Rattle.mr_memhost.specs.Files.{bytes_of, held}
use Rattle.mr_memhost.specs.Held.{held_in}
use Rattle.mr_memhost.specs.Story.{Story, moment_at, after, replay}
use Rattle.mr_memhost.specs.Told.{story}
use Rattle.mr_memhost.proofs.Leads.{Leads, leads_start, leads_on, image_of, image_left}
use Rattle.mr_memhost.proofs.Stories.{replay_push}
use Rattle.mr_memhost.proofs.journal.Journal.image.Goals as goal

same_sync : (o : Option MemFile) (bytes : List ℕ) → (held_in o []).synced ≡ (held_in o bytes).synced
same_sync None bytes = refl
same_sync (Some m) bytes = refl

next_moment : (s : Story) (i : ℕ) (step : Step) → i < length s.steps → get_or s.steps i step ≡ step → moment_at s (i + 1) ≡ after (moment_at s i) step
next_moment s i step lt is = ap (replay s.start) (take_more s.steps i step lt ∙ ap (λ (x : Step). take i s.steps ++ x ∷ []) is) ∙ replay_push s.start (take i s.steps) step

pub loop-number-init : goal.loop-number-init
loop-number-init c f =
    let me = c.args.self.now in
    leads_start (story me) f (held me.initial me.files f) (me.kept.files f) c.args.choice (bytes_of c.in_ok-image.image f) (ap at_rest (sym (c.in_ok-image.ensures f)))

pub loop-number-preserved : goal.loop-number-preserved
loop-number-preserved c f =
    let me = c.args.self.now in
    let s = story me in
    let i = c.loop-number.number in
    let step = c.index.result.now in
    let same = same_sync (get nat_cmp me.files f) (bytes_of me.initial f) in
    let before = bytes_of c.loop-number.image f in
    let h = held me.initial me.files f in
    let lt : i < length s.steps = search rules in
    let item : get_or s.steps i step ≡ step = search rules in
    let leads = leads_on s f h (me.kept.files f) (synced_of me.files) same i step lt (next_moment s i step lt item) c.args.choice before (c.loop-number.invariant f) in
    let done : bytes_of c.remake.new.image f ≡ remade c.fate-unsynced.result i (synced_of me.files) step f before = c.in_ok-remake.ensures f in
    subst (Leads c.args.choice h.synced s f (i + 1)) (sym (done ∙ ap (λ (u : Fate). remade u i (synced_of me.files) step f before) c.fate-unsynced.ensures.fate)) leads

pub returns-clause-image : goal.returns-clause-image
returns-clause-image c f =
    let me = c.args.self.now in
    let s = story me in
    let all : c.loop-number.number ≡ length s.steps = search rules in
    let h = held me.initial me.files f in
    image_of s f h (me.kept.files f) c.args.choice (bytes_of c.loop-number.image f) (subst (λ n. Leads c.args.choice h.synced s f n (bytes_of c.loop-number.image f)) all (c.loop-number.invariant f))

pub returns-clause-allowed : goal.returns-clause-allowed
returns-clause-allowed c f =
    let me = c.args.self.now in
    let s = story me in
    let all : c.loop-number.number ≡ length s.steps = search rules in
    let h = held me.initial me.files f in
    let image = image_of s f h (me.kept.files f) c.args.choice (bytes_of c.loop-number.image f) (subst (λ n. Leads c.args.choice h.synced s f n (bytes_of c.loop-number.image f)) all (c.loop-number.invariant f)) in
    image_left s f h (me.kept.files f) c.args.choice (bytes_of c.loop-number.image f) (λ b is. c.fate-unsynced.ensures.byte b (c.fate-unsynced.ensures.fate ∙ is)) image
