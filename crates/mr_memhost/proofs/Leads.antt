-- How the image of a crash is made, step by step.
use Rattle.std.proofs.Common.{◌≡◌, inl, inr, ℕ, ◌+◌, ◌≤◌, ◌<◌, min, Bool, true, false, nat_lt, ◌==◌, List, length, take, refl, sym, ◌∙◌, ap, subst, arith}
use Rattle.std.proofs.lemmas.Bool.{cases_lt, cases_eq, cond-true, cond-false, eq-eqb, ne_eqb, lt-ltb, le-ltb}
use Rattle.mr_base.specs.Disk.{File, Moment, MayLeave, at_rest, overwrite}
use Rattle.mr_memhost.specs.declared.choice.Choice.{Choice}
use Rattle.mr_memhost.specs.declared.choice.Choice.TheVariants.{Keep, Drop, Fill}
use Rattle.mr_memhost.specs.declared.choice.Fate.{Fate}
use Rattle.mr_memhost.specs.declared.choice.Fate.TheVariants.{Done, Undone, Filled}
use Rattle.mr_memhost.specs.declared.step.Step.{Step}
use Rattle.mr_memhost.specs.declared.step.Step.TheVariants.{Write, Cut, Sync, Emit}
use Rattle.mr_memhost.specs.Crash.{IsImage, fate, at_step, wrote_by, cut_by, remade}
use Rattle.mr_memhost.specs.Held.{Held}
use Rattle.mr_memhost.specs.Story.{Story, Holds, PendsMore, moment_at, latest, after, at_file, written, cut}
use Rattle.mr_memhost.proofs.Stories.{other_at}
use Rattle.mr_memhost.proofs.Fills.{Filling, rest_fills, write_fills, cut_fills, sync_fills, filled_left}

abbrev pub file_at : Story → ℕ → ℕ → File
file_at s file k = (moment_at s k).files file

-- the image of a file after so many steps, which was last synced after n
abbrev pub Leads : Choice → ℕ → Story → ℕ → ℕ → List ℕ → Type 0
Leads Keep n s file i c = c ≡ (file_at s file i).bytes
Leads Drop n s file i c = c ≡ (file_at s file (min i n)).bytes
Leads (Fill b) n s file i c = (i ≤ n → c ≡ (file_at s file i).bytes) × (n ≤ i → Filling b (file_at s file i) c)

module _ (choice : Choice) (i : ℕ) (synced : ℕ → ℕ) (m : Moment) (file : ℕ) (c : List ℕ) where
  -- a call that is done
  module _ (done : (other : ℕ) → other ≡ file → at_step (fate choice) (nat_lt i (synced other)) ≡ Done) (is : c ≡ (m.files file).bytes) where
    pub done_on : (step : Step) → remade (fate choice) i synced step file c ≡ ((after m step).files file).bytes
    done_on (Write other at bytes) = elim (cases_eq file other) [
      | inl here ↦
          cond-true (file == other) (wrote_by (at_step (fate choice) (nat_lt i (synced other))) at bytes c) c (eq-eqb file other here) ∙ ap (λ (x : Fate). wrote_by x at bytes c) (done other (sym here)) ∙ ap (overwrite at bytes) is
          ∙ sym (ap (λ (f : File). f.bytes) (cond-true (file == other) (written at bytes (m.files file)) (m.files file) (eq-eqb file other here)))
      | inr apart ↦ cond-false (file == other) (wrote_by (at_step (fate choice) (nat_lt i (synced other))) at bytes c) c (ne_eqb file other apart) ∙ is ∙ sym (ap (λ (f : File). f.bytes) (other_at other file (written at bytes) m apart))
    ]
    done_on (Cut other to) = elim (cases_eq file other) [
      | inl here ↦
          cond-true (file == other) (cut_by (at_step (fate choice) (nat_lt i (synced other))) to c) c (eq-eqb file other here) ∙ ap (λ (x : Fate). cut_by x to c) (done other (sym here)) ∙ ap (take to) is
          ∙ sym (ap (λ (f : File). f.bytes) (cond-true (file == other) (cut to (m.files file)) (m.files file) (eq-eqb file other here)))
      | inr apart ↦ cond-false (file == other) (cut_by (at_step (fate choice) (nat_lt i (synced other))) to c) c (ne_eqb file other apart) ∙ is ∙ sym (ap (λ (f : File). f.bytes) (other_at other file (cut to) m apart))
    ]
    done_on (Sync other) = elim (cases_eq file other) [
      | inl here ↦ is ∙ sym (ap (λ (f : File). f.bytes) (cond-true (file == other) (at_rest (m.files file).bytes) (m.files file) (eq-eqb file other here)))
      | inr apart ↦ is ∙ sym (ap (λ (f : File). f.bytes) (other_at other file (λ f. at_rest f.bytes) m apart))
    ]
    done_on (Emit bytes) = is

  -- and one that isn't
  module _ (undone : (other : ℕ) → other ≡ file → at_step (fate choice) (nat_lt i (synced other)) ≡ Undone) where
    pub undone_on : (step : Step) → remade (fate choice) i synced step file c ≡ c
    undone_on (Write other at bytes) = elim (cases_eq file other) [
      | inl here ↦ cond-true (file == other) (wrote_by (at_step (fate choice) (nat_lt i (synced other))) at bytes c) c (eq-eqb file other here) ∙ ap (λ (x : Fate). wrote_by x at bytes c) (undone other (sym here))
      | inr apart ↦ cond-false (file == other) (wrote_by (at_step (fate choice) (nat_lt i (synced other))) at bytes c) c (ne_eqb file other apart)
    ]
    undone_on (Cut other to) = elim (cases_eq file other) [
      | inl here ↦ cond-true (file == other) (cut_by (at_step (fate choice) (nat_lt i (synced other))) to c) c (eq-eqb file other here) ∙ ap (λ (x : Fate). cut_by x to c) (undone other (sym here))
      | inr apart ↦ cond-false (file == other) (cut_by (at_step (fate choice) (nat_lt i (synced other))) to c) c (ne_eqb file other apart)
    ]
    undone_on (Sync other) = refl
    undone_on (Emit bytes) = refl

  -- and one whose place is filled
  module _ (b : ℕ) (filled : (other : ℕ) → other ≡ file → at_step (fate choice) (nat_lt i (synced other)) ≡ Filled b) (filling : Filling b (m.files file) c) where
    pub fill_on : (step : Step) → PendsMore (m.files file) ((after m step).files file) → Filling b ((after m step).files file) (remade (fate choice) i synced step file c)
    fill_on (Write other at bytes) more = elim (cases_eq file other) as (λ _. Filling b ((at_file other (written at bytes) m).files file) (remade (fate choice) i synced (Write other at bytes) file c)) [
      | inl here ↦ subst (λ (f : File). Filling b f (remade (fate choice) i synced (Write other at bytes) file c)) (sym (cond-true (file == other) (written at bytes (m.files file)) (m.files file) (eq-eqb file other here)))
          (subst (Filling b (written at bytes (m.files file)))
          (sym (cond-true (file == other) (wrote_by (at_step (fate choice) (nat_lt i (synced other))) at bytes c) c (eq-eqb file other here) ∙ ap (λ (x : Fate). wrote_by x at bytes c) (filled other (sym here))))
          (write_fills b at bytes (m.files file) c filling))
      | inr apart ↦ subst (λ (f : File). Filling b f (remade (fate choice) i synced (Write other at bytes) file c)) (sym (other_at other file (written at bytes) m apart))
          (subst (Filling b (m.files file)) (sym (cond-false (file == other) (wrote_by (at_step (fate choice) (nat_lt i (synced other))) at bytes c) c (ne_eqb file other apart))) filling)
    ]
    fill_on (Cut other to) more = elim (cases_eq file other) as (λ _. Filling b ((at_file other (cut to) m).files file) (remade (fate choice) i synced (Cut other to) file c)) [
      | inl here ↦ subst (λ (f : File). Filling b f (remade (fate choice) i synced (Cut other to) file c)) (sym (cond-true (file == other) (cut to (m.files file)) (m.files file) (eq-eqb file other here)))
          (subst (Filling b (cut to (m.files file)))
          (sym (cond-true (file == other) (cut_by (at_step (fate choice) (nat_lt i (synced other))) to c) c (eq-eqb file other here) ∙ ap (λ (x : Fate). cut_by x to c) (filled other (sym here))))
          (cut_fills b to (m.files file) c filling))
      | inr apart ↦ subst (λ (f : File). Filling b f (remade (fate choice) i synced (Cut other to) file c)) (sym (other_at other file (cut to) m apart))
          (subst (Filling b (m.files file)) (sym (cond-false (file == other) (cut_by (at_step (fate choice) (nat_lt i (synced other))) to c) c (ne_eqb file other apart))) filling)
    ]
    fill_on (Sync other) more = elim (cases_eq file other) as (λ _. Filling b ((at_file other (λ f. at_rest f.bytes) m).files file) c) [
      | inl here ↦
          let now = cond-true (file == other) (at_rest (m.files file).bytes) (m.files file) (eq-eqb file other here) in
          subst (λ (f : File). Filling b f c) (sym now) (sync_fills b (m.files file) c filling (subst (PendsMore (m.files file)) now more))
      | inr apart ↦ subst (λ (f : File). Filling b f c) (sym (other_at other file (λ f. at_rest f.bytes) m apart)) filling
    ]
    fill_on (Emit bytes) more = filling

module _ (s : Story) (file : ℕ) (h : Held) (holds : Holds s file h) (synced : ℕ → ℕ) (is : synced file ≡ h.synced) (i : ℕ) (step : Step) (lt : i < length s.steps) (next : moment_at s (i + 1) ≡ after (moment_at s i) step) where
  early : i < h.synced → (other : ℕ) → other ≡ file → nat_lt i (synced other) ≡ true
  early before other here = lt-ltb i (synced other) (subst (λ n. i < n) (sym (ap synced here ∙ is)) before)

  late : h.synced ≤ i → (other : ℕ) → other ≡ file → nat_lt i (synced other) ≡ false
  late after other here = le-ltb i (synced other) (subst (λ n. n ≤ i) (sym (ap synced here ∙ is)) after)

  to_next : (c : List ℕ) → c ≡ ((after (moment_at s i) step).files file).bytes → c ≡ (file_at s file (i + 1)).bytes
  to_next c same = same ∙ sym (ap (λ (m : Moment). (m.files file).bytes) next)

  keeps : (b : Bool) → at_step (fate Keep) b ≡ Done
  keeps true = refl
  keeps false = refl

  fates : (choice : Choice) → i < h.synced → (other : ℕ) → other ≡ file → at_step (fate choice) (nat_lt i (synced other)) ≡ Done
  fates choice before other here = ap (at_step (fate choice)) (early before other here)

  pub leads_on : (choice : Choice) (c : List ℕ) → Leads choice h.synced s file i c → Leads choice h.synced s file (i + 1) (remade (fate choice) i synced step file c)
  leads_on Keep c so_far = to_next _ (done_on Keep i synced (moment_at s i) file c (λ other here. keeps (nat_lt i (synced other))) so_far step)
  leads_on Drop c so_far = elim (cases_lt i h.synced) as (λ _. remade (fate Drop) i synced step file c ≡ (file_at s file (min (i + 1) h.synced)).bytes) [
    | inl before ↦
        let now : min i h.synced ≡ i = omega (arith, before) in
        let following : i + 1 ≡ min (i + 1) h.synced = omega (arith, before) in
        to_next _ (done_on Drop i synced (moment_at s i) file c (fates Drop before) (so_far ∙ ap (λ n. (file_at s file n).bytes) now) step) ∙ ap (λ n. (file_at s file n).bytes) following
    | inr past ↦
        let still : min i h.synced ≡ min (i + 1) h.synced = omega (arith, past) in
        undone_on Drop i synced (moment_at s i) file c (λ other here. ap (at_step (fate Drop)) (late past other here)) step ∙ so_far ∙ ap (λ n. (file_at s file n).bytes) still
  ]
  leads_on (Fill b) c so_far = (
    λ le. to_next _ (done_on (Fill b) i synced (moment_at s i) file c (fates (Fill b) (omega (arith, le))) (so_far.0 (omega (arith, le))) step),
    λ ge. elim (cases_lt i h.synced) as (λ _. Filling b (file_at s file (i + 1)) (remade (fate (Fill b)) i synced step file c)) [
      | inl before ↦
          let here : h.synced ≡ i + 1 = omega (arith, before, ge) in
          let rests : file_at s file (i + 1) ≡ at_rest (file_at s file (i + 1)).bytes = subst (λ n. file_at s file n ≡ at_rest (file_at s file n).bytes) here holds.settled in
          let done = to_next _ (done_on (Fill b) i synced (moment_at s i) file c (fates (Fill b) before) (so_far.0 (omega (arith, before))) step) in
          subst (λ (f : File). Filling b f (remade (fate (Fill b)) i synced step file c)) (sym rests) (subst (Filling b (at_rest (file_at s file (i + 1)).bytes)) (sym done) (rest_fills b (file_at s file (i + 1)).bytes))
      | inr past ↦
          subst (λ (m : Moment). Filling b (m.files file) (remade (fate (Fill b)) i synced step file c)) (sym next)
          (fill_on (Fill b) i synced (moment_at s i) file c b (λ other here. ap (at_step (fate (Fill b))) (late past other here)) (so_far.1 past) step (subst (λ (m : Moment). PendsMore (file_at s file i) (m.files file)) next (holds.grows i past lt)))
    ],
  )

module _ (s : Story) (file : ℕ) (h : Held) (holds : Holds s file h) where
  pub leads_start : (choice : Choice) (c : List ℕ) → s.start.files file ≡ at_rest c → Leads choice h.synced s file 0 c
  leads_start Keep c began = sym (ap (λ (f : File). f.bytes) began)
  leads_start Drop c began =
      let none : 0 ≡ min 0 h.synced = omega arith in
      sym (ap (λ (f : File). f.bytes) began) ∙ ap (λ n. (file_at s file n).bytes) none
  leads_start (Fill b) c began = (λ le. sym (ap (λ (f : File). f.bytes) began), λ ge. subst (λ (f : File). Filling b f c) (sym began) (rest_fills b c))

  pub image_of : (choice : Choice) (c : List ℕ) → Leads choice h.synced s file (length s.steps) c → IsImage choice ((latest s).files file) c
  image_of Keep c leads = leads
  image_of Drop c leads =
      let last : min (length s.steps) h.synced ≡ h.synced = omega (arith, holds.early) in
      leads ∙ ap (λ n. (file_at s file n).bytes) last ∙ sym holds.stable
  image_of (Fill b) c leads = (leads.1 holds.early).filled

  pub image_left : (choice : Choice) (c : List ℕ) → ((b : ℕ) → fate choice ≡ Filled b → b < 256) → IsImage choice ((latest s).files file) c → MayLeave ((latest s).files file) c
  image_left Keep c byte is = subst (MayLeave ((latest s).files file)) (sym is) holds.read_left
  image_left Drop c byte is = subst (MayLeave ((latest s).files file)) (sym is) holds.synced_left
  image_left (Fill b) c byte is = filled_left b ((latest s).files file) c (byte b refl) is holds.read_left
