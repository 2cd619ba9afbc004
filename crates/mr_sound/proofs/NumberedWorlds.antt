-- Next hidden numbers above those that are used: what commits use, and parts of the world that change.
use Rattle.std.proofs.Common.{◌≡◌, inl, inr, ℕ, ◌+◌, ◌≤◌, ◌<◌, max, Bool, true, false, List, [], ◌∷◌, ◌++◌, Option, Some, None, refl, sym, subst, le_refl, le_trans, arith}
use Rattle.std.specs.Prelude.{if◌then◌else◌}
use Rattle.std.specs.Option.{option_map_or}
use Rattle.mr_spec.specs.declared.world.Session.{Session}
use Rattle.mr_types.specs.declared.row.Change.{Change}
use Rattle.mr_types.specs.declared.row.Change.TheVariants.{Insert, Update, Delete}
use Rattle.mr_types.specs.declared.row.Commit.{Commit}
use Rattle.mr_types.specs.declared.row.CommitBody.{CommitBody}
use Rattle.mr_types.specs.declared.row.CommitBody.TheVariants as body
use Rattle.mr_types.specs.Values.{same_bytes}
use Rattle.mr_spec.specs.Rows.{table_name}
use Rattle.mr_spec.specs.Replay.{numbers_by_change, numbers_by_changes, numbers_by_body, numbers_after}
use Rattle.mr_spec.specs.World.{World, changes_by, with_txn, with_rows, with_commit, committed, with_number, at_name}
use Rattle.mr_spec.specs.Outcome.{Outcome}
use Rattle.mr_sound.specs.Sound.{IsIn, IsBelow, AreNumbered}
use Rattle.mr_sound.proofs.Schemas.{bytes-same}
use Rattle.mr_sound.proofs.Drawing.{below-more}

-- ---- the numbers of commits

change-below : (f g : List ℕ → ℕ) (c : Change) → ((n : List ℕ) → f n ≤ g n) → IsBelow (g (table_name c)) c → (n : List ℕ) → numbers_by_change f c n ≤ g n
change-below f g (Insert table new) h b n = by_hidden new.hidden b
  where
    by_name : (x : ℕ) → x < g table → (t : Bool) → same_bytes n table ≡ t → (if t then max (f table) (x + 1) else f n) ≤ g n
    by_name x less true e = subst (λ m. max (f table) (x + 1) ≤ g m) (sym (bytes-same n table e)) (let k = h table in omega (arith, k, less))
    by_name x less false e = h n

    by_hidden : (o : Option ℕ) → ((number : ℕ) → o ≡ Some number → number < g table) → option_map_or (λ x. at_name table (max (f table) (x + 1)) f) o f n ≤ g n
    by_hidden None k = h n
    by_hidden (Some x) k = by_name x (k x refl) (same_bytes n table) refl
change-below f g (Update table old new) h b n = h n
change-below f g (Delete table old) h b n = h n

changes-below : (f g : List ℕ → ℕ) (cs : List Change) → ((n : List ℕ) → f n ≤ g n) → ((c : Change) → IsIn c cs → IsBelow (g (table_name c)) c) → (n : List ℕ) → numbers_by_changes f cs n ≤ g n
changes-below f g [] h b n = h n
changes-below f g (c ∷ cs) h b n = changes-below (numbers_by_change f c) g cs (change-below f g c h (b c (inl refl))) (λ d i. b d (inr i)) n

numbers-push : (f : List ℕ → ℕ) (cs : List Commit) (c : Commit) → numbers_after f (cs ++ c ∷ []) ≡ numbers_by_body (numbers_after f cs) c.body
numbers-push f [] c = refl
numbers-push f (d ∷ cs) c = numbers-push (numbers_by_body f d.body) cs c

pub pushed : (w : World) (b : CommitBody) (n : List ℕ) (most : ℕ) → numbers_by_body (numbers_after (λ name. 1) w.commits) b n ≤ most → numbers_after (λ name. 1) (w.commits ++ record { moment = w.moment; body = b } ∷ []) n ≤ most
pushed w b n most h = subst (λ (f : List ℕ → ℕ). f n ≤ most) (sym (numbers-push (λ name. 1) w.commits (record { moment = w.moment; body = b }))) h

-- ---- worlds

pub numbered-here : (w : World) (h : Session) → AreNumbered w → ((c : Change) → IsIn c (changes_by h.txn) → IsBelow (w.numbers (table_name c)) c) → AreNumbered (record w { here = h })
numbered-here w h a b = record { commits = a.commits; held = λ s c i j. elim i [ inl e ↦ b c (subst (λ x. IsIn c (changes_by x.txn)) (sym e) j) | inr k ↦ a.held s c (inr k) j ] }

pub numbered-idle : (w : World) (h : Session) → AreNumbered w → changes_by h.txn ≡ [] → AreNumbered (record w { here = h })
numbered-idle w h a e = numbered-here w h a (λ c i. absurd (subst (IsIn c) e i))

pub numbered-rolled_back : (w : World) → AreNumbered w → AreNumbered (with_txn None w)
numbered-rolled_back w a = numbered-idle w (record w.here { txn = None }) a refl

pub numbered-number : (w : World) (name : List ℕ) (n : ℕ) → w.numbers name ≤ n → AreNumbered w → AreNumbered (with_number name n w)
numbered-number w name n le a = record { commits = λ m. le_trans (a.commits m) (grown m (same_bytes m name) refl); held = λ s c i j. below-more (w.numbers (table_name c)) _ c (grown (table_name c) (same_bytes (table_name c) name) refl) (a.held s c i j) }
  where
    grown : (m : List ℕ) (b : Bool) → same_bytes m name ≡ b → w.numbers m ≤ (if b then n else w.numbers m)
    grown m true e = subst (λ x. w.numbers x ≤ n) (sym (bytes-same m name e)) le
    grown m false e = le_refl (w.numbers m)

numbered-rows : (w : World) (h : Session) (xs : List Change) → AreNumbered w → changes_by h.txn ≡ [] → ((c : Change) → IsIn c xs → IsBelow (w.numbers (table_name c)) c) → AreNumbered (with_commit (body.Rows xs) (record w { here = h }))
numbered-rows w h xs a e b = record {
  commits = λ n. pushed w (body.Rows xs) n (w.numbers n) (changes-below (numbers_after (λ name. 1) w.commits) w.numbers xs a.commits b n);
  held = (numbered-idle w h a e).held;
}

pub numbered-with_rows : (w : World) (h : Session) (xs : List Change) → AreNumbered w → changes_by h.txn ≡ [] → ((c : Change) → IsIn c xs → IsBelow (w.numbers (table_name c)) c) → AreNumbered (with_rows xs (record w { here = h }))
numbered-with_rows w h [] a e b = numbered-idle w h a e
numbered-with_rows w h (x ∷ xs) a e b = numbered-rows w h (x ∷ xs) a e b

pub numbered-committed : (w : World) → AreNumbered w → AreNumbered (committed w)
numbered-committed w a = by_changes (changes_by w.here.txn) (λ c i. a.held w.here c (inl refl) i)
  where
    by_changes : (xs : List Change) → ((c : Change) → IsIn c xs → IsBelow (w.numbers (table_name c)) c) → AreNumbered (with_txn None (with_rows xs w))
    by_changes [] b = numbered-rolled_back w a
    by_changes (x ∷ xs) b = numbered-rows w (record w.here { txn = None }) (x ∷ xs) a refl b

abbrev pub Numbers : Outcome → Type 0
Numbers o = AreNumbered o.world
