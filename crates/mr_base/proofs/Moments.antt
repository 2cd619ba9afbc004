-- How a run of calls goes on from moment to moment.
use Rattle.std.proofs.Common.{◌≡◌, inl, inr, ℕ, ◌+◌, ◌≤◌, List, ◌++◌, length, take, drop, refl, sym, ◌∙◌, ap, subst, arith}
use Rattle.std.proofs.lemmas.Bool.{cases_lt}
use Rattle.std.proofs.lemmas.List.{take_all, drop_all, append-nil}
use Rattle.mr_base.proofs.Pending.{fewer, rest_front, front_left, front_write}
use Rattle.mr_base.specs.Disk.{overwrite, MayLeave, State, Moment, present, file_of, KeepsFront, IsAtRest, File, write_begun}
use Rattle.mr_base.specs.Calls.{During, OneFile, Same, IsBegun, Changes, IsSettling, Settles}

-- before the first call
pub started : (old : State) (P : Moment → Type 0) → P (present old) → During old old P
started old P here = record {
  later = omega arith;
  past = λ k le. refl;
  each = λ k from to. subst (λ n. P (old.moments n)) (omega (arith, from, to)) here;
}

-- one run and then another
pub then : (old mid new : State) (P : Moment → Type 0) → During old mid P → During mid new P → During old new P
then old mid new P first second = record {
  later = omega (arith, first.later, second.later);
  past = λ k le. second.past k (omega (arith, first.later, le)) ∙ first.past k le;
  each = λ k from to. elim (cases_lt mid.now k) [
    | inl new_one ↦ second.each k (omega (arith, new_one)) to
    | inr old_one ↦ subst P (sym (second.past k old_one)) (first.each k from old_one)
  ];
}

pub weaker : (old new : State) (P Q : Moment → Type 0) → ((m : Moment) → P m → Q m) → During old new P → During old new Q
weaker old new P Q so all = record { later = all.later; past = all.past; each = λ k from to. so _ (all.each k from to) }

-- one run, and then one that is told in other words
pub goes_on : (old mid new : State) (P Q : Moment → Type 0) → During old mid P → During mid new Q → ((m : Moment) → Q m → P m) → During old new P
goes_on old mid new P Q first second so = then old mid new P first (weaker mid new Q P so second)

-- the moment at the end
pub at_end : (old new : State) (P : Moment → Type 0) → During old new P → P (present new)
at_end old new P all = all.each new.now all.later (omega arith)

pub same_during : (old new : State) (P : Moment → Type 0) → Same old new → P (present old) → During old new P
same_during old new P same here = record { later = same.later; past = same.past; each = λ k from to. subst P (sym (same.each k from to)) here }

pub same_present : (old new : State) → Same old new → present new ≡ present old
same_present old new same = same.each new.now same.later (omega arith)

pub same_file : (old new : State) (file : ℕ) → Same old new → file_of new file ≡ file_of old file
same_file old new file same = ap (λ (m : Moment). m.files file) (same_present old new same)

pub same_start : (s : State) → Same s s
same_start s = started s (λ m. m ≡ present s) refl

pub same_then : (old mid new : State) → Same old mid → Same mid new → Same old new
same_then old mid new first second = goes_on old mid new (λ m. m ≡ present old) (λ m. m ≡ present mid) first second (λ m is. is ∙ same_present old mid first)

-- what a call left of its file
pub changed_now : (file : ℕ) (begun : File → File) (old new : State) → Changes file begun old new → IsBegun file (begun (file_of old file)) (present old) (present new)
changed_now file begun old new changes = at_end old new _ changes

pub settled_now : (file : ℕ) (old new : State) → Settles file old new → IsSettling file (present old) (present new)
settled_now file old new settles = at_end old new _ settles

module _ (file : ℕ) (old mid new : State) (P : List ℕ → Type 0) (so_far : During old mid (OneFile file (present old) P)) where
  last : OneFile file (present old) P (present mid)
  last = at_end old mid (OneFile file (present old) P) so_far

  -- the next calls change nothing
  pub then_same : Same mid new → During old new (OneFile file (present old) P)
  then_same same = then old mid new _ so_far (same_during mid new _ same last)

  -- the next call begins to change the file
  pub then_changes : (begun : File → File) → Changes file begun mid new → ((c : List ℕ) → MayLeave (begun (file_of mid file)) c → P c) → During old new (OneFile file (present old) P)
  then_changes begun changes left = goes_on old mid new _ _ so_far changes (λ m here. record {
    files = λ other not. here.files other not ∙ last.files other not;
    output = here.output ∙ last.output;
    left = λ c may. left c (fewer (m.files file) (begun (file_of mid file)) c here.pending may);
  })

  -- the next call puts it on the disk
  pub then_settles : Settles file mid new → During old new (OneFile file (present old) P)
  then_settles settles = goes_on old mid new _ _ so_far settles (λ m here. record {
    files = λ other not. here.files other not ∙ last.files other not;
    output = here.output ∙ last.output;
    left = λ c may. last.left c (here.crash c may);
  })

pub begins : (file : ℕ) (old : State) (P : List ℕ → Type 0) → ((c : List ℕ) → MayLeave (file_of old file) c → P c) → During old old (OneFile file (present old) P)
begins file old P left = started old _ record { files = λ other not. refl; output = refl; left = left }

-- and then a longer run on the same file, told of from its own start
pub then_run : (file : ℕ) (old mid new : State) (P Q : List ℕ → Type 0) → During old mid (OneFile file (present old) P) → During mid new (OneFile file (present mid) Q) → ((c : List ℕ) → Q c → P c) → During old new (OneFile file (present old) P)
then_run file old mid new P Q first second so = goes_on old mid new _ _ first second (λ m one. record {
  files = λ other not. one.files other not ∙ (last file old mid mid P first).files other not;
  output = one.output ∙ (last file old mid mid P first).output;
  left = λ c left. so c (one.left c left);
})

pub file_weaker : (file : ℕ) (old new : State) (P Q : List ℕ → Type 0) → ((c : List ℕ) → P c → Q c) → During old new (OneFile file (present old) P) → During old new (OneFile file (present old) Q)
file_weaker file old new P Q so all = weaker old new _ _ (λ m one. record { files = one.files; output = one.output; left = λ c left. so c (one.left c left) }) all

-- the calls so far change what is behind a front
pub record Behind (file n : ℕ) (front : List ℕ) (old mid : State) : Type 0 where
  pub during : During old mid (OneFile file (present old) (λ c. IsAtRest (file_of old file) → take n c ≡ front))
  pub keeps : IsAtRest (file_of old file) → KeepsFront n front (file_of mid file)

pub behind_start : (file n : ℕ) (old : State) → MayLeave (file_of old file) (file_of old file).bytes → n ≤ length (file_of old file).bytes → Behind file n (take n (file_of old file).bytes) old old
behind_start file n old itself le = record {
  during = begins file old _ (λ c left rest. (front_left n _ (file_of old file) (rest_front (file_of old file) rest itself n le) c left).0);
  keeps = λ rest. rest_front (file_of old file) rest itself n le;
}

pub behind_write : (file n : ℕ) (front : List ℕ) (old mid new : State) (at m : ℕ) → Behind file n front old mid → n ≤ at → Changes file (write_begun at m) mid new → Behind file n front old new
behind_write file n front old mid new at m so_far le changes = record {
  during = then_changes file old mid new _ so_far.during (write_begun at m) changes (λ c left rest. (front_left n front (write_begun at m (file_of mid file)) (begun rest) c left).0);
  keeps = λ rest. front_write n front (file_of mid file) (so_far.keeps rest) at m le (file_of new file) (changed_now file (write_begun at m) mid new changes).pending;
}
  where
    begun : IsAtRest (file_of old file) → KeepsFront n front (write_begun at m (file_of mid file))
    begun rest = front_write n front (file_of mid file) (so_far.keeps rest) at m le (write_begun at m (file_of mid file)) record { stable = refl; written = λ k is. is; least = omega arith; greatest = omega arith }

pub overwrite_end : (at : ℕ) (bytes old : List ℕ) → length old ≡ at → overwrite at bytes old ≡ old ++ bytes
overwrite_end at bytes old is =
    ap (λ (l : List ℕ). l ++ bytes ++ drop (at + length bytes) old) (take_all at old (omega (arith, is)))
    ∙ ap (λ (l : List ℕ). old ++ bytes ++ l) (drop_all (at + length bytes) old (omega (arith, is)))
    ∙ append-nil (old ++ bytes)
