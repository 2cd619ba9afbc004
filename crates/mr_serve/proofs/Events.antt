-- Moments of a run of events.
use Rattle.std.proofs.Common.{◌≡◌, ℕ, ◌+◌, min, ◌<◌, ◌≤◌, suc, List, [], ◌∷◌, ◌++◌, length, take, Some, None, Result, refl, ap, sym, ◌∙◌, inl, inr, arith, append_assoc, length-append, append-nil, drop, take_all}
use Rattle.std.specs.Fmt.{decimal}
use Rattle.std.specs.List.{flat_map}
use Rattle.std.proofs.lemmas.Bool.{eq-eqb, cases_lt}
use Rattle.std.proofs.lemmas.Bool.Decides.{eqb_tells}
use Rattle.std.specs.Option.{option_map_or}
use Rattle.std.proofs.lemmas.List.{take-append-le, append_cancel_left, take-append-drop}
use Rattle.std.proofs.Math.Seq.{take-append-add}
use Rattle.mr_spec.specs.TtlOptions.{behind}
use Rattle.mr_spec.specs.ScriptRun.{Event, IsWithin, acknowledged, acknowledged_or_next, output_of, added_by, trace, world_after, world_behind, event_at}
use Rattle.mr_spec.specs.World.{World}
use Rattle.mr_spec.proofs.Traces.{later}
use Rattle.mr_spec.specs.ReplyText.{text_of, line_of}
use Rattle.mr_types.specs.declared.statement.Statement.{Statement}
use Rattle.mr_types.specs.declared.row.Commit.{Commit}
use Rattle.mr_types.specs.declared.row.Reply.{Reply}
use Rattle.mr_types.specs.declared.row.Reply.TheVariants as reply

length-cons : {X : Type 0} (x : X) (xs : List X) → length (x ∷ xs) ≡ 1 + length xs
length-cons x xs = omega arith

pub text_some : (r : Reply) → 0 < length (text_of r)
text_some (reply.Ok n) = omega (arith, length-cons 79 (75 ∷ 32 ∷ (decimal n ++ 10 ∷ [])))
text_some (reply.Refused n) = omega (arith, length-cons 69 (82 ∷ 82 ∷ 79 ∷ 82 ∷ 32 ∷ (decimal n ++ 10 ∷ [])))
text_some (reply.Rows rows) = omega (arith, length-cons 82 (79 ∷ 87 ∷ 83 ∷ 32 ∷ (decimal (length rows) ++ 10 ∷ [] ++ flat_map line_of rows)))

pub behind_front : (t x : List ℕ) → behind t (t ++ x) ≡ Some x
behind_front [] x = refl
behind_front (a ∷ t) x = rw (eq-eqb a a refl) (behind_front t x)

pub behind_some : (t o rest : List ℕ) → behind t o ≡ Some rest → o ≡ t ++ rest
behind_some [] o rest e = grind (arith, e)
behind_some (a ∷ t) [] rest e = cc
behind_some (a ∷ t) (b ∷ o) rest e = elim (eqb_tells a b) [
  | inl (same_test, same) ↦ let e' : behind t o ≡ Some rest = rw same_test at e in ap (λ x. x ∷ o) (sym same) ∙ ap (λ x. a ∷ x) (behind_some t o rest e')
  | inr (other_test, _) ↦ let e' = rw other_test at e in cc
]

pub behind_none : (t : List ℕ) → 0 < length t → behind t [] ≡ None
behind_none [] l = absurd (omega (arith, l))
behind_none (a ∷ t) l = refl

pub acknowledged_none : (es : List Event) → acknowledged es [] ≡ 0
acknowledged_none [] = refl
acknowledged_none (e ∷ es) = rw (behind_none (text_of e.reply) (text_some e.reply)) refl

pub output_on : (a b : List Event) → output_of (a ++ b) ≡ output_of a ++ output_of b
output_on [] b = refl
output_on (e ∷ a) b = ap (λ x. text_of e.reply ++ x) (output_on a b) ∙ sym (append_assoc (text_of e.reply) (output_of a) (output_of b))

pub added_on : (a b : List Event) → added_by (a ++ b) ≡ added_by a ++ added_by b
added_on [] b = refl
added_on (e ∷ a) b = ap (λ x. e.added ++ x) (added_on a b) ∙ sym (append_assoc e.added (added_by a) (added_by b))

-- of an output that the events still give, later events add nothing
pub acknowledged_more : (es more : List Event) (o rest : List ℕ) → output_of es ≡ o ++ rest → acknowledged (es ++ more) o ≡ acknowledged es o
acknowledged_more [] more [] rest e = acknowledged_none more
acknowledged_more [] more (x ∷ o) rest e = cc
acknowledged_more (e ∷ es) more o rest h = (elim (behind (text_of e.reply) o) as (λ b. behind (text_of e.reply) o ≡ b → option_map_or (λ r. length e.added + acknowledged (es ++ more) r) b 0 ≡ option_map_or (λ r. length e.added + acknowledged es r) b 0) [
  | None ↦ λ q. refl
  | Some r ↦ λ q. ap (λ n. length e.added + n) (acknowledged_more es more r rest (append_cancel_left (text_of e.reply) (output_of es) (r ++ rest)
      (h ∙ ap (λ x. x ++ rest) (behind_some (text_of e.reply) o r q) ∙ append_assoc (text_of e.reply) r rest)))
]) refl

pub or_next_more : (es more : List Event) (o : List ℕ) → acknowledged_or_next es o ≤ acknowledged_or_next (es ++ more) o
or_next_more [] more o = omega arith
or_next_more (e ∷ es) more o = elim (behind (text_of e.reply) o) as (λ b. option_map_or (λ rest. length e.added + acknowledged_or_next es rest) b (length e.added) ≤ option_map_or (λ rest. length e.added + acknowledged_or_next (es ++ more) rest) b (length e.added)) [
  | None ↦ omega arith
  | Some rest ↦ omega (arith, or_next_more es more rest)
]

pub or_next_bound : (es : List Event) (o : List ℕ) → acknowledged_or_next es o ≤ length (added_by es)
or_next_bound [] o = omega arith
or_next_bound (e ∷ es) o = elim (behind (text_of e.reply) o) as (λ b. option_map_or (λ rest. length e.added + acknowledged_or_next es rest) b (length e.added) ≤ length (e.added ++ added_by es)) [
  | None ↦ omega (arith, length-append e.added (added_by es))
  | Some rest ↦ omega (arith, or_next_bound es rest, length-append e.added (added_by es))
]

pub acknowledged_behind : (es more : List Event) (o : List ℕ) → acknowledged (es ++ more) (output_of es ++ o) ≡ length (added_by es) + acknowledged more o
acknowledged_behind [] more o = omega arith
acknowledged_behind (e ∷ es) more o = rw (append_assoc (text_of e.reply) (output_of es) o, behind_front (text_of e.reply) (output_of es ++ o)) (omega (arith, acknowledged_behind es more o, length-append e.added (added_by es)))

pub or_next_behind : (es more : List Event) (o : List ℕ) → acknowledged_or_next (es ++ more) (output_of es ++ o) ≡ length (added_by es) + acknowledged_or_next more o
or_next_behind [] more o = omega arith
or_next_behind (e ∷ es) more o = rw (append_assoc (text_of e.reply) (output_of es) o, behind_front (text_of e.reply) (output_of es ++ o)) (omega (arith, or_next_behind es more o, length-append e.added (added_by es)))

-- the start is a moment of the run
pub within_start : (es : List Event) (commits : List Commit) (output : List ℕ) → IsWithin es commits output commits output
within_start es commits output = record {
  shown = [];
  unshown = output_of es;
  front = refl;
  output = sym (append-nil output);
  count = 0;
  commits = sym (append-nil commits);
  least = omega (arith, acknowledged_none es);
  most = omega arith;
}

-- a moment of the first events is one of the longer run
pub within_left : (es more : List Event) (c d : List Commit) (o p : List ℕ) → IsWithin es c o d p → IsWithin (es ++ more) c o d p
within_left es more c d o p w = record {
  shown = w.shown;
  unshown = w.unshown ++ output_of more;
  front = output_on es more ∙ ap (λ x. x ++ output_of more) w.front ∙ append_assoc w.shown w.unshown (output_of more);
  output = w.output;
  count = w.count;
  commits = w.commits ∙ ap (λ x. c ++ x) (sym (ap (take w.count) (added_on es more) ∙ take-append-le w.count (added_by es) (added_by more) (omega (arith, w.most, or_next_bound es w.shown))));
  least = omega (arith, w.least, acknowledged_more es more w.shown w.unshown w.front);
  most = omega (arith, w.most, or_next_more es more w.shown);
}

-- so is a moment of the later events, from what the first ones leave on
pub within_right : (es more : List Event) (c d : List Commit) (o p : List ℕ) → IsWithin more (c ++ added_by es) (o ++ output_of es) d p → IsWithin (es ++ more) c o d p
within_right es more c d o p w = record {
  shown = output_of es ++ w.shown;
  unshown = w.unshown;
  front = output_on es more ∙ ap (λ x. output_of es ++ x) w.front ∙ sym (append_assoc (output_of es) w.shown w.unshown);
  output = w.output ∙ append_assoc o (output_of es) w.shown;
  count = length (added_by es) + w.count;
  commits = w.commits ∙ append_assoc c (added_by es) (take w.count (added_by more)) ∙ ap (λ x. c ++ x) (sym (ap (take (length (added_by es) + w.count)) (added_on es more) ∙ take-append-add (added_by es) (added_by more) w.count));
  least = omega (arith, w.least, acknowledged_behind es more w.shown);
  most = omega (arith, w.most, or_next_behind es more w.shown);
}

acknowledged_one : (e : Event) (o : List ℕ) → acknowledged (e ∷ []) o ≤ length e.added
acknowledged_one e o = elim (behind (text_of e.reply) o) as (λ b. option_map_or (λ rest. length e.added + 0) b 0 ≤ length e.added) [ None ↦ omega arith | Some rest ↦ omega arith ]

or_next_one : (e : Event) (o : List ℕ) → length e.added ≤ acknowledged_or_next (e ∷ []) o
or_next_one e o = elim (behind (text_of e.reply) o) as (λ b. length e.added ≤ option_map_or (λ rest. length e.added + 0) b (length e.added)) [ None ↦ omega arith | Some rest ↦ omega arith ]

-- one event: its commits are there, and the first n bytes of its reply are out
pub within_reply : (e : Event) (c : List Commit) (o : List ℕ) (n : ℕ) → IsWithin (e ∷ []) c o (c ++ e.added) (o ++ take n (text_of e.reply))
within_reply e c o n = record {
  shown = take n (text_of e.reply);
  unshown = drop n (text_of e.reply);
  front = append-nil (text_of e.reply) ∙ sym (take-append-drop n (text_of e.reply));
  output = refl;
  count = length e.added;
  commits = ap (λ x. c ++ x) (sym (ap (take (length e.added)) (append-nil e.added) ∙ take_all (length e.added) e.added (omega arith)));
  least = acknowledged_one e (take n (text_of e.reply));
  most = or_next_one e (take n (text_of e.reply));
}

-- the first so many are the first of so many as there are
first_of : (n : ℕ) (xs : List Commit) → take n xs ≡ take (min n (length xs)) xs
first_of n xs = elim (cases_lt (length xs) n) [
  | inl past ↦ take_all n xs (omega (arith, past)) ∙ sym (take_all (min n (length xs)) xs (omega (arith, past)))
  | inr within ↦ ap (λ i. take i xs) (let e : n ≡ min n (length xs) = omega (arith, within) in e)
]

-- one event: the first of its commits are there, and nothing of its reply is out
pub within_added : (e : Event) (c : List Commit) (o : List ℕ) (n : ℕ) → IsWithin (e ∷ []) c o (c ++ take n e.added) o
within_added e c o n = record {
  shown = [];
  unshown = output_of (e ∷ []);
  front = refl;
  output = sym (append-nil o);
  count = min n (length e.added);
  commits = ap (λ x. c ++ x) (first_of n e.added ∙ ap (take (min n (length e.added))) (sym (append-nil e.added)));
  least = omega (arith, acknowledged_none (e ∷ []));
  most = omega (arith, or_next_one e []);
}

acknowledged_all : (es : List Event) → acknowledged es (output_of es) ≡ length (added_by es)
acknowledged_all es = ap (λ x. acknowledged x (output_of es)) (sym (append-nil es)) ∙ ap (acknowledged (es ++ [])) (sym (append-nil (output_of es))) ∙ acknowledged_behind es [] [] ∙ (let e : length (added_by es) + 0 ≡ length (added_by es) = omega arith in e)

or_next_all : (es : List Event) → acknowledged_or_next es (output_of es) ≡ length (added_by es)
or_next_all es = ap (λ x. acknowledged_or_next x (output_of es)) (sym (append-nil es)) ∙ ap (acknowledged_or_next (es ++ [])) (sym (append-nil (output_of es))) ∙ or_next_behind es [] [] ∙ (let e : length (added_by es) + 0 ≡ length (added_by es) = omega arith in e)

-- the end is a moment of the run
pub within_end : (es : List Event) (c : List Commit) (o : List ℕ) → IsWithin es c o (c ++ added_by es) (o ++ output_of es)
within_end es c o = record {
  shown = output_of es;
  unshown = [];
  front = sym (append-nil (output_of es));
  output = refl;
  count = length (added_by es);
  commits = ap (λ x. c ++ x) (sym (take_all (length (added_by es)) (added_by es) (omega arith)));
  least = omega (arith, acknowledged_all es);
  most = omega (arith, or_next_all es);
}

-- no more is acknowledged than what may be there
pub acknowledged_bound : (es : List Event) (o : List ℕ) → acknowledged es o ≤ acknowledged_or_next es o
acknowledged_bound [] o = omega arith
acknowledged_bound (e ∷ es) o = elim (behind (text_of e.reply) o) as (λ b. option_map_or (λ rest. length e.added + acknowledged es rest) b 0 ≤ option_map_or (λ rest. length e.added + acknowledged_or_next es rest) b (length e.added)) [
  | None ↦ omega arith
  | Some rest ↦ omega (arith, acknowledged_bound es rest)
]

pub trace_on : (w : World) (a b : List (Result Statement ℕ)) (now : ℕ → ℕ) → trace w (a ++ b) now ≡ trace w a now ++ trace (world_behind w a now) b (later a now)
trace_on w [] b now = refl
trace_on w (s ∷ a) b now = ap (λ x. event_at w s (now 0) ∷ x) (trace_on (world_after w s (now 0)) a b (λ k. now (suc k)))

-- the world behind two lists of statements
pub world_on : (w : World) (a b : List (Result Statement ℕ)) (now : ℕ → ℕ) → world_behind w (a ++ b) now ≡ world_behind (world_behind w a now) b (later a now)
world_on w [] b now = refl
world_on w (s ∷ a) b now = world_on (world_after w s (now 0)) a b (λ k. now (suc k))

-- the clock behind two lists of statements
pub later_on : (a b : List (Result Statement ℕ)) (now : ℕ → ℕ) → later (a ++ b) now ≡ later b (later a now)
later_on [] b now = refl
later_on (s ∷ a) b now = later_on a b (λ k. now (suc k))
