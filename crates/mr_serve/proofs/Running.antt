-- One event at a host, and several.
use Rattle.std.proofs.Common.{◌≡◌, ℕ, ◌+◌, ◌-◌, ◌^◌, ◌<◌, min, List, [], ◌∷◌, ◌++◌, length, take, drop, refl, ap, sym, ◌∙◌, subst, arith, append_assoc, append-nil, Option, Some, None, Result, IsErrAnd}
use Rattle.std.proofs.lemmas.List.{append_cancel_left, take-append-drop}
use Rattle.mr_base.specs.Disk.{State, Moment, Tells, MayLeave, present, file_of}
use Rattle.mr_base.specs.Calls.{During, IsShown}
use Rattle.mr_base.proofs.Moments.{started, weaker, goes_on, at_end}
use Rattle.mr_spec.specs.ReplyText.{text_of}
use Rattle.mr_spec.specs.Lawful.{IsLawful}
use Rattle.mr_serve.specs.Replied.{replied}
use Rattle.mr_spec.specs.ScriptRun.{Event, IsWithin, output_of, added_by}
use Rattle.mr_types.specs.declared.row.Commit.{Commit}
use Rattle.mr_serve.proofs.Events.{output_on, added_on, text_some, within_start, within_left, within_right, within_reply, within_added}
use Rattle.mr_serve.proofs.Replied.{replied_none, replied_behind, replied_all, replied_more, replied_front}
use Rattle.mr_commit_log.specs.Emitting.{IsCutShort}
use Rattle.mr_commit_log.specs.Folder.{Holds}
use Rattle.mr_commit_log.specs.Room.{log_length, HasRoom}
use Rattle.mr_commit_log.specs.Appending.{early, IsSettled, IsAppending, IsFullFor, Appends}
use Rattle.mr_serve.specs.Settled.{IsFront, IsInside, counted, Runs}
use Rattle.mr_commit_log.specs.declared.ending.Ending.{Ending}
use Rattle.mr_commit_log.specs.declared.ending.Ending.TheVariants.{EmitFault}
use Rattle.mr_commit_log.proofs.Rooms.{log_on, room_on}
use Rattle.mr_commit_log.proofs.Early.{early_is, not_none}
use Rattle.mr_serve.proofs.Early.{Cuts, due_right, unfinished_right, unfinished_none, cut_full, cut_unfinished}

nothing_shown : (before now shown : List ℕ) → now ≡ before → now ≡ before ++ shown → shown ≡ []
nothing_shown before now shown same more = sym (append_cancel_left before [] shown (append-nil before ∙ sym same ∙ more))

front_start : (es : List Event) (output now : List ℕ) → now ≡ output → IsFront es output now
front_start es output now same = record { shown = []; unshown = output_of es; front = refl; output = same ∙ sym (append-nil output) }

front_left : (es more : List Event) (output now : List ℕ) → IsFront es output now → IsFront (es ++ more) output now
front_left es more output now f = record {
  shown = f.shown;
  unshown = f.unshown ++ output_of more;
  front = output_on es more ∙ ap (λ x. x ++ output_of more) f.front ∙ append_assoc f.shown f.unshown (output_of more);
  output = f.output;
}

front_right : (es more : List Event) (output now : List ℕ) → IsFront more (output ++ output_of es) now → IsFront (es ++ more) output now
front_right es more output now f = record {
  shown = output_of es ++ f.shown;
  unshown = f.unshown;
  front = output_on es more ∙ ap (λ x. output_of es ++ x) f.front ∙ sym (append_assoc (output_of es) f.shown f.unshown);
  output = f.output ∙ append_assoc output (output_of es) f.shown;
}

-- where nothing has happened yet
pub settled_inside : (es : List Event) (s : State) (commits : List Commit) (output : List ℕ) → IsSettled s commits output → IsInside es commits output (present s)
settled_inside es s commits output settled = record {
  shown = front_start es output (present s).output settled.emitted;
  left = λ bytes may. (
    commits,
    subst (λ (b : List ℕ). Holds commits b) (sym (settled.at_rest bytes may)) settled.log,
    settled.lawful,
    subst (λ (o : List ℕ). IsWithin es commits output commits o) (sym settled.emitted) (within_start es commits output),
  );
}

pub inside_left : (es more : List Event) (commits : List Commit) (output : List ℕ) (m : Moment) → IsInside es commits output m → IsInside (es ++ more) commits output m
inside_left es more commits output m here = record {
  shown = front_left es more output m.output here.shown;
  left = λ bytes may. let x = here.left bytes may in (x.0, x.1, x.2, within_left es more commits x.0 output m.output x.3);
}

pub inside_right : (es more : List Event) (commits : List Commit) (output : List ℕ) (m : Moment) → IsInside more (commits ++ added_by es) (output ++ output_of es) m → IsInside (es ++ more) commits output m
inside_right es more commits output m here = record {
  shown = front_right es more output m.output here.shown;
  left = λ bytes may. let x = here.left bytes may in (x.0, x.1, x.2, within_right es more commits x.0 output m.output x.3);
}

-- ---- several events

-- nothing is done
pub runs_nothing : (most : ℕ) (s : State) (n : ℕ) (commits : List Commit) → Runs most s s n n [] None commits
runs_nothing most s n commits tells output settled = record {
  runs = record {
    moments = started s _ (settled_inside [] s commits output settled);
    settled = λ _. record { log = subst (λ (c : List Commit). Holds c (file_of s 1).bytes) (sym (append-nil commits)) settled.log; lawful = subst IsLawful (sym (append-nil commits)) settled.lawful; at_rest = settled.at_rest; emitted = settled.emitted ∙ sym (append-nil output) };
    room = λ _. tt;
    full = λ what at limit q. cc;
    replies = λ shown more. omega arith;
    tells = tells;
  };
  unfinished = tt;
}

counted_on : (a b c l r : ℕ) → counted b ≡ counted (a + l) → counted c ≡ counted (b + r) → counted c ≡ counted (a + (l + r))
counted_on a b c l r first second = omega (arith, first, second)

-- events, and then more of them
pub runs_on : (most : ℕ) (a b c : State) (n0 n1 n2 : ℕ) (es more : List Event) (ending : Option Ending) (commits : List Commit) → Runs most a b n0 n1 es None commits → Runs most b c n1 n2 more ending (commits ++ added_by es) → Runs most a c n0 n2 (es ++ more) ending commits
runs_on most a b c n0 n1 n2 es more ending commits first second tells output settled =
    let f = (first tells output settled).runs in
    let mid = f.settled refl in
    let y = second f.tells (output ++ output_of es) mid in
    let t = y.runs in
    record {
      runs = record {
        moments = goes_on a b c _ _ (weaker a b _ _ (λ m. inside_left es more commits output m) f.moments) t.moments (λ m. inside_right es more commits output m);
        settled = λ d. let e = t.settled d in record {
          log = subst (λ (x : List Commit). Holds x (file_of c 1).bytes) (append_assoc commits (added_by es) (added_by more) ∙ ap (λ x. commits ++ x) (sym (added_on es more))) e.log;
          lawful = subst IsLawful (append_assoc commits (added_by es) (added_by more) ∙ ap (λ x. commits ++ x) (sym (added_on es more))) e.lawful;
          at_rest = e.at_rest;
          emitted = e.emitted ∙ append_assoc output (output_of es) (output_of more) ∙ ap (λ x. output ++ x) (sym (output_on es more));
        };
        room = λ d. subst (λ x. HasRoom most (log_length commits) x) (sym (added_on es more)) (room_on most (log_length commits) (added_by es) (added_by more) (log_length (commits ++ added_by es)) (f.room refl) (log_on commits (added_by es)) (t.room d));
        full = λ what at limit q. due_right most es more commits output c what at limit (f.room refl) (t.full what at limit q);
        replies = λ shown is.
            let now = (at_end b c _ t.moments).shown in
            let same : shown ≡ output_of es ++ now.shown = append_cancel_left output shown (output_of es ++ now.shown) (sym is ∙ now.output ∙ append_assoc output (output_of es) now.shown) in
            let count : replied (es ++ more) shown ≡ length es + replied more now.shown = ap (replied (es ++ more)) same ∙ replied_behind es more now.shown in
            let one : counted n1 ≡ counted (n0 + length es) = f.replies (output_of es) mid.emitted ∙ ap (λ x. counted (n0 + x)) (replied_all es) in
            counted_on n0 n1 n2 (length es) (replied more now.shown) one (t.replies now.shown now.output) ∙ ap (λ x. counted (n0 + x)) (sym count);
        tells = t.tells;
      };
      unfinished = unfinished_right ending es more output (present c).output y.unfinished;
    }

-- events of a longer list, up to an error
pub runs_cut : (most : ℕ) (a b : State) (n0 n1 : ℕ) (es more : List Event) (ending : Option Ending) (e : Ending) (commits : List Commit) → Cuts ending e → Runs most a b n0 n1 es ending commits → Runs most a b n0 n1 (es ++ more) (Some e) commits
runs_cut most a b n0 n1 es more ending e commits cuts first tells output settled =
    let x = first tells output settled in
    let f = x.runs in
    record {
      runs = record {
        moments = weaker a b _ _ (λ m. inside_left es more commits output m) f.moments;
        settled = λ q. absurd (not_none e q);
        room = λ q. absurd (not_none e q);
        full = cut_full most ending e es more commits output b cuts f.full;
        replies = λ shown is.
            let now = (at_end a b _ f.moments).shown in
            let same : shown ≡ now.shown = append_cancel_left output shown now.shown (sym is ∙ now.output) in
            let count : replied (es ++ more) shown ≡ replied es shown = replied_more es more shown now.unshown (now.front ∙ ap (λ x. x ++ now.unshown) (sym same)) in
            f.replies shown is ∙ ap (λ x. counted (n0 + x)) (sym count);
        tells = f.tells;
      };
      unfinished = cut_unfinished ending e es more output (present b).output cuts x.unfinished;
    }

-- of an answer that carries the error
pub runs_early : {T : Type 0} (most : ℕ) (a b : State) (n0 n1 : ℕ) (es : List Event) (commits : List Commit) (r : Result T Ending) (e : Ending) → IsErrAnd r (λ x. x ≡ e) → Runs most a b n0 n1 es (Some e) commits → Runs most a b n0 n1 es (early r) commits
runs_early most a b n0 n1 es commits r e h runs = subst (λ o. Runs most a b n0 n1 es o commits) (early_is r e h) runs

-- ---- one event

-- its commits are being appended
pub appending_inside : (e : Event) (added commits : List Commit) (output : List ℕ) → added ≡ e.added → (m : Moment) → IsAppending commits added output m → IsInside (e ∷ []) commits output m
appending_inside e added commits output same m here = record {
  shown = front_start (e ∷ []) output m.output here.emitted;
  left = λ bytes may.
      let x = here.left bytes may in
      let now : commits ++ take x.0 added ≡ commits ++ take x.0 e.added = ap (λ y. commits ++ take x.0 y) same in (
        commits ++ take x.0 e.added,
        subst (λ (y : List Commit). Holds y bytes) now x.1,
        subst IsLawful now x.2,
        subst (λ (o : List ℕ). IsWithin (e ∷ []) commits output (commits ++ take x.0 e.added) o) (sym here.emitted) (within_added e commits output x.0),
      );
}

-- its reply is being emitted
pub shown_inside : (e : Event) (text : List ℕ) (s : State) (commits : List Commit) (output : List ℕ) → text ≡ text_of e.reply → IsSettled s (commits ++ e.added) output → (m : Moment) → IsShown text (present s) m → IsInside (e ∷ []) commits output m
shown_inside e text s commits output same settled m here =
    let now : m.output ≡ output ++ take here.count (text_of e.reply) = here.output ∙ ap (λ x. x ++ take here.count text) settled.emitted ∙ ap (λ x. output ++ take here.count x) same in
    record {
      shown = record { shown = take here.count (text_of e.reply); unshown = drop here.count (text_of e.reply); front = append-nil (text_of e.reply) ∙ sym (take-append-drop here.count (text_of e.reply)); output = now };
      left = λ bytes may. (
        commits ++ e.added,
        subst (λ (b : List ℕ). Holds (commits ++ e.added) b) (sym (settled.at_rest bytes (subst (λ f. MayLeave f bytes) (here.files 1) may))) settled.log,
        settled.lawful,
        subst (λ (o : List ℕ). IsWithin (e ∷ []) commits output (commits ++ e.added) o) (sym now) (within_reply e commits output here.count),
      );
    }

counted_none : (n k : ℕ) → k ≡ 0 → counted n ≡ counted (n + k)
counted_none n k none = omega (arith, none)

-- an exit before anything is emitted
pub runs_append : (most : ℕ) (a b : State) (n : ℕ) (event : Event) (added : List Commit) (e : Ending) (commits : List Commit) → added ≡ event.added → (Tells a → Tells b) → Appends most a b added (Some e) commits → Runs most a b n n (event ∷ []) (Some e) commits
runs_append most a b n event added e commits same keeps appends tells output settled =
    let x = appends tells output settled in
    let last = (at_end a b _ x.moments).emitted in
    let cs : commits ++ [] ≡ commits = append-nil commits in
    record {
      runs = record {
        moments = weaker a b _ _ (appending_inside event added commits output same) x.moments;
        settled = λ q. absurd (not_none e q);
        room = λ q. absurd (not_none e q);
        full = λ what at limit q. record {
          first = [];
          next = event;
          others = [];
          split = refl;
          room = tt;
          here = subst (λ c. IsFullFor most b c event.added (output ++ []) what at limit) (sym (append-nil commits))
              (subst (λ o. IsFullFor most b commits event.added o what at limit) (sym (append-nil output)) (subst (λ y. IsFullFor most b commits y output what at limit) same (x.full what at limit q)));
        };
        replies = λ shown is.
            let none : shown ≡ [] = nothing_shown output (present b).output shown last is in
            counted_none n (replied (event ∷ []) shown) (ap (replied (event ∷ [])) none ∙ replied_none (event ∷ []));
        tells = keeps tells;
      };
      unfinished = unfinished_none e event output (present b).output 0 (last ∙ sym (append-nil output)) (text_some event.reply);
    }

-- an exit while the reply is emitted
pub runs_shown : (most : ℕ) (a b c : State) (n : ℕ) (event : Event) (added commits : List Commit) (text : List ℕ) → added ≡ event.added → text ≡ text_of event.reply → (Tells a → Tells b) → (Tells b → Tells c) → Appends most a b added None commits
    → (Tells b → During b c (IsShown text (present b))) → (Tells b → IsCutShort text (present b).output (present c).output) → Runs most a c n n (event ∷ []) (Some EmitFault) commits
runs_shown most a b c n event added commits text same shows keeps goes appends shown cut tells output settled =
    let x = appends tells output settled in
    let mid : IsSettled b (commits ++ event.added) output = subst (λ (y : List Commit). IsSettled b (commits ++ y) output) same (x.settled refl) in
    let short = cut (keeps tells) in
    let less : short.count < length (text_of event.reply) = subst (λ (z : List ℕ). short.count < length z) shows short.less in
    let is_now : (present c).output ≡ output ++ take short.count (text_of event.reply) = short.output ∙ ap (λ z. z ++ take short.count text) mid.emitted ∙ ap (λ z. output ++ take short.count z) shows in
    record {
      runs = record {
        moments = goes_on a b c _ _ (weaker a b _ _ (appending_inside event added commits output same) x.moments) (shown (keeps tells)) (shown_inside event text b commits output shows mid);
        settled = λ q. absurd (not_none EmitFault q);
        room = λ q. absurd (not_none EmitFault q);
        full = λ what at limit q. cc;
        replies = λ out is.
            let front : out ≡ take short.count (text_of event.reply) = append_cancel_left output out (take short.count (text_of event.reply)) (sym is ∙ is_now) in
            counted_none n (replied (event ∷ []) out) (ap (replied (event ∷ [])) front ∙ replied_front event [] short.count less);
        tells = goes (keeps tells);
      };
      unfinished = unfinished_none EmitFault event output (present c).output short.count is_now less;
    }

counted_one : (n m k : ℕ) → m ≡ min (n + 1) (2 ^ 64 - 1) → k ≡ 1 → counted m ≡ counted (n + k)
counted_one n m k is one = omega (arith, is, one)

-- the commits are there, and the whole reply is out
pub runs_done : (most : ℕ) (a b c : State) (n m : ℕ) (e : Event) (added commits : List Commit) (text : List ℕ) → added ≡ e.added → text ≡ text_of e.reply → (Tells a → Tells b) → (Tells b → Tells c) → m ≡ min (n + 1) (2 ^ 64 - 1) → Appends most a b added None commits
    → (Tells b → During b c (IsShown text (present b))) → (Tells b → (present c).output ≡ (present b).output ++ text) → Runs most a c n m (e ∷ []) None commits
runs_done most a b c n m e added commits text same shows keeps goes count appends shown whole tells output settled =
    let x = appends tells output settled in
    let mid : IsSettled b (commits ++ e.added) output = subst (λ (y : List Commit). IsSettled b (commits ++ y) output) same (x.settled refl) in
    let during = shown (keeps tells) in
    let files = (at_end b c _ during).files 1 in
    let out : (present c).output ≡ output ++ (text_of e.reply ++ []) = whole (keeps tells) ∙ ap (λ z. z ++ text) mid.emitted ∙ ap (λ z. output ++ z) (shows ∙ sym (append-nil (text_of e.reply))) in
    record {
      runs = record {
        moments = goes_on a b c _ _ (weaker a b _ _ (appending_inside e added commits output same) x.moments) during (shown_inside e text b commits output shows mid);
        settled = λ _. record {
          log = subst (λ f. Holds (commits ++ (e.added ++ [])) f.bytes) (sym files) (subst (λ (y : List Commit). Holds (commits ++ y) (file_of b 1).bytes) (sym (append-nil e.added)) mid.log);
          lawful = subst (λ (y : List Commit). IsLawful (commits ++ y)) (sym (append-nil e.added)) mid.lawful;
          at_rest = subst (λ f. (d : List ℕ) → MayLeave f d → d ≡ f.bytes) (sym files) mid.at_rest;
          emitted = out;
        };
        room = λ _. subst (λ (y : List Commit). HasRoom most (log_length commits) y) (same ∙ sym (append-nil e.added)) (x.room refl);
        full = λ what at limit q. cc;
        replies = λ shown is.
            let front : shown ≡ output_of (e ∷ []) = append_cancel_left output shown (output_of (e ∷ [])) (sym is ∙ out) in
            counted_one n m (replied (e ∷ []) shown) count (ap (replied (e ∷ [])) front ∙ replied_all (e ∷ []));
        tells = goes (keeps tells);
      };
      unfinished = tt;
    }
