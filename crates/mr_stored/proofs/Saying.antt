-- What the manifest and the live log say, and that it stays where these files do.
use Rattle.std.proofs.Common.{◌≡◌, ◌≢◌, ◌+◌, ◌&&◌, ◌||◌, ◌==◌, not, ℕ, ◌<◌, Bool, true, false, if◌then◌else◌, is_some, nat_lt, List, [], ◌∷◌, Option, Some, None, Result, Ok, Err, refl, sym, ◌∙◌, ap, subst, arith}
use Rattle.std.specs.List.{AllByRecursion}
use Rattle.std.proofs.lemmas.Bool.Decides.{nat_tests}
use Rattle.mr_base.specs.Disk.{Image}
use Rattle.mr_gate.specs.Log.{records_from, is_damaged_from}
use Rattle.mr_manifest.specs.declared.live.Live.{Live}
use Rattle.mr_manifest.specs.declared.live.LiveRun.{LiveRun}
use Rattle.mr_manifest.specs.declared.sum.Sum.{Sum}
use Rattle.mr_manifest.specs.Manifest.{sum_of_file, judged, breach, state, sum_from, no_records}
use Rattle.mr_manifest.specs.Rule.{is_given, is_among, runs_fit, numbers_fit, drops_fit, log_fits}
use Rattle.mr_engine_log.specs.Logged.{Logged, log_of}
use Rattle.mr_stored.specs.Said.{Place, Said, ◌>>=◌, in_file, first_judged, manifest_sum, said, said_by, said_by_log, with_live}
use Rattle.mr_stored.specs.Begun.{has_record, Says, IsApart, AreApart, AreGiven}

clash : {b : Bool} → b ≡ false → b ≡ true → ⊥
clash low high = cc

-- ---- by the sum of the manifest

abbrev said_of : Image → Result Sum Place → Result Said Place
said_of image m = m >>= said_by image

-- its live part, where it has a record
module _ (image : Image) where
  log_said : (live : Live) (read : Result Logged ℕ) (s : Said) → with_live live (in_file live.log read) ≡ Ok s → (s.live ≡ live) × (read ≡ Ok s.logged)
  log_said live (Ok logged) s e = (sym (ap (λ (r : Result Said Place). live_of r live) e), ap (λ (r : Result Said Place). logged_of r logged) e)
    where
      live_of : Result Said Place → Live → Live
      live_of (Ok t) other = t.live
      live_of (Err place) other = other

      logged_of : Result Said Place → Logged → Result Logged ℕ
      logged_of (Ok t) other = Ok t.logged
      logged_of (Err place) other = Ok other
  log_said live (Err at) s e = cc

  -- where there is a record, the sum's live part and what its log leaves
  pub record IsSaidBy (m : Result Sum Place) (s : Said) : Type 0 where
    pub sum : Sum
    pub sum_is : m ≡ Ok sum
    pub some : is_some sum.at ≡ true
    pub live : s.live ≡ sum.live
    pub logged : log_of sum.live.last_sequence (image sum.live.log) ≡ Ok s.logged

  said_parts : (m : Result Sum Place) (s : Said) → has_record m ≡ true → said_of image m ≡ Ok s → IsSaidBy m s
  said_parts (Ok sum) s begun e =
      let by_log : said_by_log image sum.live ≡ Ok s = sym (ap (λ (b : Bool). if b then said_by_log image sum.live else (if Rattle.mr_stored.specs.Said.is_begun (image 1) then Err (1, 0) else Ok Rattle.mr_stored.specs.Said.nothing_said)) begun) ∙ e in
      let parts = log_said sum.live (log_of sum.live.last_sequence (image sum.live.log)) s by_log in
      record { sum = sum; sum_is = refl; some = begun; live = parts.0; logged = parts.1 }
  said_parts (Err place) s begun e = cc

pub logged_is : (image : Image) (s : Said) → Says image s → log_of s.live.last_sequence (image s.live.log) ≡ Ok s.logged
logged_is image s says =
    let parts = said_parts image (manifest_sum image) s says.begun says.said_is in
    subst (λ (l : Live). log_of l.last_sequence (image l.log) ≡ Ok s.logged) (sym parts.live) parts.logged

abbrev sum_by : List ℕ → Result Sum Place
sum_by bytes = in_file 0 (sum_of_file bytes) >>= λ sum. in_file 0 (first_judged (records_from 0 bytes) sum)

pub sum_same : (i j : Image) → i 0 ≡ j 0 → manifest_sum i ≡ manifest_sum j
sum_same i j same = ap sum_by same

-- another log under the same manifest
pub says_with : (i j : Image) (s : Said) (l : Logged) → i 0 ≡ j 0 → Says i s → log_of s.live.last_sequence (j s.live.log) ≡ Ok l → Says j (record { live = s.live; logged = l })
says_with i j s l same says log = record { begun = sym (ap has_record (sum_same i j same)) ∙ says.begun; said_is = is }
  where
    is : said j ≡ Ok (record { live = s.live; logged = l })
    is =
        let parts = said_parts i (manifest_sum i) s says.begun says.said_is in
        let log' : log_of parts.sum.live.last_sequence (j parts.sum.live.log) ≡ Ok l = subst (λ (v : Live). log_of v.last_sequence (j v.log) ≡ Ok l) parts.live log in
        ap (λ (m : Result Sum Place). m >>= said_by j) (sym (sum_same i j same) ∙ parts.sum_is)
        ∙ ap (λ (b : Bool). if b then said_by_log j parts.sum.live else (if Rattle.mr_stored.specs.Said.is_begun (j 1) then Err (1, 0) else Ok Rattle.mr_stored.specs.Said.nothing_said)) parts.some
        ∙ ap (λ (r : Result Logged ℕ). with_live parts.sum.live (in_file parts.sum.live.log r)) log'
        ∙ ap (λ (v : Live). Ok (record { live = v; logged = l })) (sym parts.live)

pub says_same : (i j : Image) (s : Said) → i 0 ≡ j 0 → i s.live.log ≡ j s.live.log → Says i s → Says j s
says_same i j s same log says = says_with i j s s.logged same says (ap (log_of s.live.last_sequence) (sym log) ∙ logged_is i s says)

-- ---- files apart

and_first : (a b : Bool) → (a && b) ≡ true → a ≡ true
and_first true b e = refl
and_first false b e = cc

and_second : (a b : Bool) → (a && b) ≡ true → b ≡ true
and_second true b e = e
and_second false b e = cc

run_apart : (live : Live) (run : LiveRun) → is_given live run.file ≡ true → not (run.file == live.log) ≡ true → IsApart live run
run_apart live run given other = (grind (arith, nat_tests, and_first (nat_lt 15 run.file) (nat_lt run.file live.next_file) given), (λ same. grind (arith, nat_tests, other, same)))

runs_apart : (live : Live) (runs : List LiveRun) → runs_fit live runs ≡ true → AllByRecursion (IsApart live) runs
runs_apart live [] fit = tt
runs_apart live (run ∷ runs) fit =
    let here = and_first (is_given live run.file && (not (run.file == live.log) && not (is_among run.file runs))) (runs_fit live runs) fit in
    let given = and_first (is_given live run.file) (not (run.file == live.log) && not (is_among run.file runs)) here in
    let behind = and_second (is_given live run.file) (not (run.file == live.log) && not (is_among run.file runs)) here in
    let other = and_first (not (run.file == live.log)) (not (is_among run.file runs)) behind in
    (run_apart live run given other, runs_apart live runs (and_second (is_given live run.file && (not (run.file == live.log) && not (is_among run.file runs))) (runs_fit live runs) fit))

fit_apart : (s : Sum) → numbers_fit s.live s.before s.last ≡ true → AreApart s.live
fit_apart s fit =
    let given = and_first (is_given s.live s.live.log) (runs_fit s.live s.live.runs && (drops_fit s.live s.last && log_fits s.live s.before)) fit in
    let rest = and_second (is_given s.live s.live.log) (runs_fit s.live s.live.runs && (drops_fit s.live s.last && log_fits s.live s.before)) fit in
    record { log = grind (arith, nat_tests, and_first (nat_lt 15 s.live.log) (nat_lt s.live.log s.live.next_file) given); runs = runs_apart s.live s.live.runs (and_first (runs_fit s.live s.live.runs) (drops_fit s.live s.last && log_fits s.live s.before) rest) }

-- a sum that passed the rule on numbers keeps it
passed : (before : Result Sum ℕ) (s : Sum) → is_some s.at ≡ true → (Rattle.mr_manifest.specs.Fields.◌>>=◌ before judged) ≡ Ok s → numbers_fit s.live s.before s.last ≡ true
passed (Err place) s some e = cc
passed (Ok t) s some e = by t.at refl
  where
    sum_of : Result Sum ℕ → Sum → Sum
    sum_of (Ok u) other = u
    sum_of (Err place) other = other

    by : (at : Option ℕ) → t.at ≡ at → numbers_fit s.live s.before s.last ≡ true
    by None at_is =
        let same : t ≡ s = ap (λ (o : Option ℕ). sum_of (state (breach t o) t) t) (sym at_is) ∙ ap (λ (r : Result Sum ℕ). sum_of r t) e in
        absurd (clash (ap (λ (o : Option ℕ). is_some o) (sym (ap (λ (u : Sum). u.at) same) ∙ at_is)) some)
    by (Some at) at_is = fits (numbers_fit t.live t.before t.last) refl
      where
        fits : (b : Bool) → numbers_fit t.live t.before t.last ≡ b → numbers_fit s.live s.before s.last ≡ true
        fits true fit =
            let whole : state (breach t t.at) t ≡ Ok t = ap (λ (o : Option ℕ). state (breach t o) t) at_is ∙ ap (λ (b : Bool). state (if b then None else Some at) t) fit in
            let same : t ≡ s = ap (λ (r : Result Sum ℕ). sum_of r t) (sym whole ∙ e) in
            subst (λ (u : Sum). numbers_fit u.live u.before u.last ≡ true) same fit
        fits false unfit =
            let broken : state (breach t t.at) t ≡ Err at = ap (λ (o : Option ℕ). state (breach t o) t) at_is ∙ ap (λ (b : Bool). state (if b then None else Some at) t) unfit in
            absurd (differ (sym broken ∙ e))
          where
            differ : ◌≡◌ {A = Result Sum ℕ} (Err at) (Ok s) → ⊥
            differ = cc

-- where the first record was judged too
first_passed : (bodies : List (List ℕ)) (read : Result Sum ℕ) (s : Sum) → (in_file 0 read >>= λ sum. in_file 0 (first_judged bodies sum)) ≡ Ok s → read ≡ Ok s
first_passed bodies (Err place) s e = cc
first_passed [] (Ok t) s e = ap (λ (r : Result Sum Place). back r t) e
  where
    back : Result Sum Place → Sum → Result Sum ℕ
    back (Ok u) other = Ok u
    back (Err place) other = Ok other
first_passed (body ∷ bodies) (Ok t) s e = by (Rattle.std.specs.Cmp.Lexicographic.pointwise Rattle.std.proofs.Common.nat_eq body (Rattle.mr_manifest.specs.Edits.edits_bytes Rattle.mr_manifest.specs.Edits.first_record)) refl
  where
    back : Result Sum Place → Sum → Result Sum ℕ
    back (Ok u) other = Ok u
    back (Err place) other = Ok other

    chosen : Bool → Result Sum Place
    chosen b = in_file 0 (if b then Ok t else Err (5 + Rattle.mr_stored.specs.Said.differs_at body))

    by : (b : Bool) → Rattle.std.specs.Cmp.Lexicographic.pointwise Rattle.std.proofs.Common.nat_eq body (Rattle.mr_manifest.specs.Edits.edits_bytes Rattle.mr_manifest.specs.Edits.first_record) ≡ b → ◌≡◌ {A = Result Sum ℕ} (Ok t) (Ok s)
    by true is = ap (λ (r : Result Sum Place). back r t) (sym (ap chosen is) ∙ e)
    by false is = absurd (differ (sym (ap chosen is) ∙ e))
      where
        differ : chosen false ≡ Ok s → ⊥
        differ = cc

pub says_apart : (image : Image) (s : Said) → Says image s → AreApart s.live
says_apart image s says =
    let parts = said_parts image (manifest_sum image) s says.begun says.said_is in
    let read : sum_of_file (image 0) ≡ Ok parts.sum = first_passed (records_from 0 (image 0)) (sum_of_file (image 0)) parts.sum parts.sum_is in
    subst AreApart (sym parts.live) (fit_apart parts.sum (passed (if is_damaged_from 0 (image 0) then Err (Rattle.mr_gate.specs.Log.end_from 0 (image 0)) else sum_from no_records 0 (records_from 0 (image 0))) parts.sum parts.some read))

-- ---- files that are given out

runs_given : (live : Live) (runs : List LiveRun) → runs_fit live runs ≡ true → AllByRecursion (λ (run : LiveRun). run.file < live.next_file) runs
runs_given live [] fit = tt
runs_given live (run ∷ runs) fit =
    let here = and_first (is_given live run.file && (not (run.file == live.log) && not (is_among run.file runs))) (runs_fit live runs) fit in
    let given = and_first (is_given live run.file) (not (run.file == live.log) && not (is_among run.file runs)) here in
    (grind (arith, nat_tests, and_second (nat_lt 15 run.file) (nat_lt run.file live.next_file) given), runs_given live runs (and_second (is_given live run.file && (not (run.file == live.log) && not (is_among run.file runs))) (runs_fit live runs) fit))

fit_given : (s : Sum) → numbers_fit s.live s.before s.last ≡ true → AreGiven s.live
fit_given s fit =
    let rest = and_second (is_given s.live s.live.log) (runs_fit s.live s.live.runs && (drops_fit s.live s.last && log_fits s.live s.before)) fit in
    runs_given s.live s.live.runs (and_first (runs_fit s.live s.live.runs) (drops_fit s.live s.last && log_fits s.live s.before) rest)

pub says_given : (image : Image) (s : Said) → Says image s → AreGiven s.live
says_given image s says =
    let parts = said_parts image (manifest_sum image) s says.begun says.said_is in
    let read : sum_of_file (image 0) ≡ Ok parts.sum = first_passed (records_from 0 (image 0)) (sum_of_file (image 0)) parts.sum parts.sum_is in
    subst AreGiven (sym parts.live) (fit_given parts.sum (passed (if is_damaged_from 0 (image 0) then Err (Rattle.mr_gate.specs.Log.end_from 0 (image 0)) else sum_from no_records 0 (records_from 0 (image 0))) parts.sum parts.some read))
