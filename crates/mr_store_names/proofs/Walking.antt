-- A reading of names so far: x is its cursor at the start, y the one now, z the one after the next step.
use Rattle.std.proofs.Common.{◌≡◌, ℕ, Bool, true, false, List, [], ◌∷◌, ◌++◌, append_assoc, Option, Some, None, is_none, IfSome, IsTrue, refl, sym, ◌∙◌, ap, subst}
use Rattle.std.proofs.lemmas.List.{append-nil}
use Rattle.mr_base.specs.Disk.{State, Tells, Image, seen}
use Rattle.mr_base.specs.declared.stop.Stop.{Stop}
use Rattle.mr_iter.specs.Versions.{Version}
use Rattle.mr_iter.specs.Cursors.{CursorState, MayStop, left, with_current}
use Rattle.mr_iter.specs.Walks.{Walk, image_same, walk_start, walk_then, walk_stops}
use Rattle.mr_store_names.specs.declared.name.Name.{Name}
use Rattle.mr_store_names.specs.Named.{Adds, Told}
use Rattle.mr_store_names.proofs.Naming.{told_more}

-- the version that the cursor stands on
pub stands_on : (o : Option Version) (b : Bool) → b ≡ is_none o → b ≡ false → (v : Version) × (o ≡ Some v)
stands_on None b e is = cc
stands_on (Some v) b e is = (v, refl)

pub passes_any : (o : Option Version) (v : Version) → o ≡ Some v → IfSome o (λ w. IsTrue true)
passes_any o v at = subst (λ (q : Option Version). IfSome q (λ w. IsTrue true)) (sym at) refl

pub in_some : (P : Version → Type 0) (o : Option Version) (v : Version) → o ≡ Some v → IfSome o P → P v
in_some P o v e h = subst (λ (p : Option Version). IfSome p P) e h

abbrev any : Version → Bool
any v = true

-- the versions in front of these have told the names
pub record Done (rest all : List Version) (names : List Name) : Type 0 where
  pub done : List Version
  pub parts : all ≡ done ++ rest
  pub told : Told done names

done_end : (all : List Version) (names : List Name) → Done [] all names → Told all names
done_end all names so_far = subst (λ (vs : List Version). Told vs names) (sym (so_far.parts ∙ append-nil so_far.done)) so_far.told

done_more : (v : Version) (rest all : List Version) (old new : List Name) → Done (v ∷ rest) all old → Adds v old new → Done rest all new
done_more v rest all old new so_far adds = record {
  done = so_far.done ++ v ∷ [];
  parts = so_far.parts ∙ sym (append_assoc so_far.done (v ∷ []) rest);
  told = told_more so_far.done v old new so_far.told adds;
}

module _ {K : Type 0} (f : K → CursorState) (whole steady : K → Image → Type 0) (offends : K → Image → ℕ → ℕ → Type 0) (s : State) (x : K) where
  abbrev pub GoesTo : State → K → Type 0
  GoesTo t y = Walk any (offends x) (offends y) (whole x) (whole y) (steady x) (steady y) (f x) (f y) s t

  pub record Reading (t : State) (y : K) (names : List Name) : Type 0 where
    pub walk : GoesTo t y
    pub told : Tells s → whole x (seen s) → Done (left (f y) (seen s)) (left (f x) (seen s)) names

  pub reading_start : (names : List Name) → names ≡ [] → Reading s x names
  reading_start names none = record {
    walk = walk_start any (offends x) (whole x) (steady x) (f x) s;
    told = λ tells is. record { done = []; parts = refl; told = subst (Told []) (sym none) (record { each = tt; listed = tt }) };
  }

  module _ (t : State) (y : K) (names : List Name) (so_far : Reading t y names) where
    pub goes_over : (u : State) (z : K) → Walk any (offends y) (offends z) (whole y) (whole z) (steady y) (steady z) (f y) (f z) t u → GoesTo u z
    goes_over u z next = walk_then any (offends x) (offends y) (offends z) (whole x) (whole y) (whole z) (steady x) (steady y) (steady z) (f x) (f y) (f z) s t u so_far.walk next

    -- the name was taken in, and the cursor went on
    pub reading_next : (v : Version) → (f y).current ≡ Some v → (names' : List Name) → Adds v names names' →
        (u : State) (z : K) → Walk any (offends y) (offends z) (whole y) (whole z) (steady y) (steady z) (f y) (f z) t u → (Tells t → whole y (seen t) → left (f z) (seen t) ≡ (f y).rest (seen t)) → Reading u z names'
    reading_next v at names' adds u z next moved = record {
      walk = goes_over u z next;
      told = λ tells is.
          let e : seen t ≡ seen s = image_same s t (so_far.walk.same tells) in
          let on : Tells t = subst (λ (b : Bool). IsTrue b) (sym so_far.walk.counts.disk.tells) tells in
          let rest : left (f z) (seen s) ≡ (f y).rest (seen s) = subst (λ (image : Image). left (f z) image ≡ (f y).rest image) e (moved on (subst (whole y) (sym e) (so_far.walk.stays_whole tells is))) in
          let stood : left (f y) (seen s) ≡ v ∷ (f y).rest (seen s) = ap (λ (o : Option Version). with_current o ((f y).rest (seen s))) at in
          subst (λ (vs : List Version). Done vs (left (f x) (seen s)) names') (sym rest) (done_more v ((f y).rest (seen s)) (left (f x) (seen s)) names names' (subst (λ (vs : List Version). Done vs (left (f x) (seen s)) names) stood (so_far.told tells is)) adds);
    }

    -- nothing is left
    pub all_told : (f y).current ≡ None → Tells s → whole x (seen s) → Told (left (f x) (seen s)) names
    all_told end tells is = done_end (left (f x) (seen s)) names (subst (λ (vs : List Version). Done vs (left (f x) (seen s)) names) (ap (λ (o : Option Version). with_current o ((f y).rest (seen s))) end) (so_far.told tells is))

    -- a step stopped
    pub step_stops : (u : State) (z : K) (stop : Stop) → MayStop (offends y) t u stop → MayStop (offends x) s u stop
    step_stops u z stop may = walk_stops any (offends x) (offends y) (offends z) (whole x) (whole y) (whole z) (steady x) (steady y) (steady z) (f x) (f y) (f z) s t u so_far.walk stop may
