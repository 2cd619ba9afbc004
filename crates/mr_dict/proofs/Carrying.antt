-- A loading so far: x is its cursor at the start, y the one now, z the one after the next step.
use Rattle.std.proofs.Common.{◌≡◌, ℕ, Bool, true, false, cond, List, [], ◌∷◌, ◌++◌, append_assoc, Option, Some, None, is_none, is_some, unwrap_or, IfSome, IsTrue, Result, Ok, Err, IfErr, refl, sym, ◌∙◌, ap, subst, inl, inr}
use Rattle.std.specs.Result.{IsErrAnd}
use Rattle.mr_base.specs.Disk.{State, Tells, Image, seen}
use Rattle.mr_base.specs.declared.stop.Stop.{Stop}
use Rattle.mr_base.specs.declared.stop.Stop.TheVariants.{Memory, Disk, Full, Damaged}
use Rattle.mr_base.specs.declared.stop.Direction.{Direction}
use Rattle.mr_base.specs.declared.stop.Direction.TheVariants.{Forward}
use Rattle.mr_iter.specs.Versions.{Version, version_cmp, IsInOrder}
use Rattle.mr_iter.specs.Snapshots.{is_skipped}
use Rattle.mr_iter.specs.Cursors.{CursorState, MayStop, left, with_current}
use Rattle.mr_iter.specs.Walks.{Walk, image_same, walk_start, walk_then, walk_stops}
use Rattle.mr_dict_entry.specs.declared.entry.DictEntry.{DictEntry}
use Rattle.mr_dict_entry.specs.Entries.{reads_entry}
use Rattle.mr_dict.specs.Dictionary.{put_in}
use Rattle.mr_dict.specs.Loading.{puts_behind, newest_puts, with_read, and_then, with_all, dictionary_of, AreEntries, IsNoEntry, TakesIn, StopsAt, LoadStops}
use Rattle.mr_dict.proofs.InOrder.{Rise, puts_rise, entry_added}

-- the version that the cursor stands on
pub stands_on : (o : Option Version) (b : Bool) → b ≡ is_none o → b ≡ false → (v : Version) × (o ≡ Some v)
stands_on None b e is = cc
stands_on (Some v) b e is = (v, refl)

pub at_the_end : (o : Option Version) (b : Bool) → b ≡ is_none o → b ≡ true → o ≡ None
at_the_end None b e is = refl
at_the_end (Some v) b e is = cc

pub passes_any : (o : Option Version) (v : Version) → o ≡ Some v → IfSome o (λ w. IsTrue true)
passes_any o v at = subst (λ (q : Option Version). IfSome q (λ w. IsTrue true)) (sym at) refl

pub in_some : (P : Version → Type 0) (o : Option Version) (v : Version) → o ≡ Some v → IfSome o P → P v
in_some P o v e h = subst (λ (p : Option Version). IfSome p P) e h

-- an error that is handed on
pub if_err : {A E : Type 0} (r : Result A E) (e : E) (P : E → Type 0) → IsErrAnd r (λ d. d ≡ e) → P e → IfErr r P
if_err (Ok x) e P is p = tt
if_err (Err d) e P is p = subst P (sym is) p

-- the version that the cursor stands on is no entry
pub stops_here : {A : Type 0} (o : Option Version) (passed : Option (List ℕ)) (key other value : List ℕ) (older put : Bool) (r : Result A Stop) →
    IfSome o (λ v. key ≡ v.key) → IfSome o (λ v. other ≡ v.key) → IfSome o (λ v. value ≡ unwrap_or v.put []) → IfSome o (λ v. put ≡ is_some v.put) →
    older ≡ is_skipped passed key → older ≡ false → put ≡ true → IfErr r (IsNoEntry other value) → IfSome o (λ v. IfErr r (StopsAt passed v))
stops_here None passed key other value older put r key_is other_is value_is put_is older_is newer puts stops = tt
stops_here (Some v) passed key other value older put r key_is other_is value_is put_is older_is newer puts stops =
    go r (subst (λ (x : List ℕ). IfErr r (IsNoEntry v.key x)) value_is (subst (λ (k : List ℕ). IfErr r (IsNoEntry k value)) other_is stops))
  where
    not_older : is_skipped passed v.key ≡ false
    not_older = ap (is_skipped passed) (sym key_is) ∙ sym older_is ∙ newer

    is_a_put : is_some v.put ≡ true
    is_a_put = sym put_is ∙ puts

    go : {A : Type 0} (r : Result A Stop) → IfErr r (IsNoEntry v.key (unwrap_or v.put [])) → IfErr r (StopsAt passed v)
    go (Ok x) is = tt
    go (Err Memory) is = tt
    go (Err Disk) is = is
    go (Err (Full what at limit)) is = is
    go (Err (Damaged file at)) is = (not_older, is_a_put, is)

-- ---- a version that is taken in

with_one : (v : Version) (vs : List Version) (e : DictEntry) (es : List DictEntry) → reads_entry v.key (unwrap_or v.put []) ≡ Ok e → with_all (v ∷ vs) es ≡ with_all vs (put_in e es)
with_one v vs e es is = ap (λ (r : Result DictEntry ℕ). and_then (with_read r es) (with_all vs)) is

with_none : (v : Version) (vs : List Version) (place : ℕ) (es : List DictEntry) → reads_entry v.key (unwrap_or v.put []) ≡ Err place → with_all (v ∷ vs) es ≡ None
with_none v vs place es is = ap (λ (r : Result DictEntry ℕ). and_then (with_read r es) (with_all vs)) is

module _ (passed : Option (List ℕ)) (v : Version) (passed' : Option (List ℕ)) (es es' : List DictEntry) where
  abbrev Behind : List Version → Bool → Bool → List Version
  Behind vs older put = cond older (puts_behind passed vs) (cond put (v ∷ puts_behind (Some v.key) vs) (puts_behind (Some v.key) vs))

  behind_both : (vs : List Version) (older put : Bool) → is_skipped passed v.key ≡ older → is_some v.put ≡ put → puts_behind passed (v ∷ vs) ≡ Behind vs older put
  behind_both vs older put is_older is_put = ap (λ (b : Bool). Behind vs b (is_some v.put)) is_older ∙ ap (λ (b : Bool). Behind vs older b) is_put

  -- the entries to come are the same
  taken_all : TakesIn passed v passed' es es' → (vs : List Version) → with_all (puts_behind passed (v ∷ vs)) es ≡ with_all (puts_behind passed' vs) es'
  taken_all takes vs = by (is_skipped passed v.key) (is_some v.put) refl refl
    where
      same : (k : Option (List ℕ)) → passed' ≡ k → es' ≡ es → with_all (puts_behind k vs) es ≡ with_all (puts_behind passed' vs) es'
      same k key entries = sym (ap (λ (p : Option (List ℕ)). with_all (puts_behind p vs) es') key ∙ ap (λ (fs : List DictEntry). with_all (puts_behind k vs) fs) entries)

      by : (older put : Bool) → is_skipped passed v.key ≡ older → is_some v.put ≡ put → with_all (puts_behind passed (v ∷ vs)) es ≡ with_all (puts_behind passed' vs) es'
      by true put is_older is_put = let t = takes.older is_older in ap (λ (ws : List Version). with_all ws es) (behind_both vs true put is_older is_put) ∙ same passed t.0 t.1
      by false false is_older is_put = let t = takes.deletion is_older is_put in ap (λ (ws : List Version). with_all ws es) (behind_both vs false false is_older is_put) ∙ same (Some v.key) t.0 t.1
      by false true is_older is_put =
          let t = takes.newest is_older is_put in
          ap (λ (ws : List Version). with_all ws es) (behind_both vs false true is_older is_put)
          ∙ with_one v (puts_behind (Some v.key) vs) t.1.entry es t.1.read
          ∙ sym (ap (λ (p : Option (List ℕ)). with_all (puts_behind p vs) es') t.0 ∙ ap (λ (fs : List DictEntry). with_all (puts_behind (Some v.key) vs) fs) t.1.puts)

  -- and so are those that were put in and those to come, which rise
  pub record Parts (done : List Version) (vs all : List Version) : Type 0 where
    pub more : List Version
    pub parts : all ≡ more ++ puts_behind passed' vs
    pub are : AreEntries more es'

  taken_one : TakesIn passed v passed' es es' → (done vs all : List Version) → all ≡ done ++ puts_behind passed (v ∷ vs) → Rise all → AreEntries done es → Parts done vs all
  taken_one takes done vs all parts rise are = by (is_skipped passed v.key) (is_some v.put) refl refl
    where
      same : (k : Option (List ℕ)) → passed' ≡ k → es' ≡ es → all ≡ done ++ puts_behind k vs → Parts done vs all
      same k key entries is = record {
        more = done;
        parts = is ∙ ap (λ (p : Option (List ℕ)). done ++ puts_behind p vs) (sym key);
        are = subst (λ (fs : List DictEntry). AreEntries done fs) (sym entries) are;
      }

      by : (older put : Bool) → is_skipped passed v.key ≡ older → is_some v.put ≡ put → Parts done vs all
      by true put is_older is_put = let t = takes.older is_older in same passed t.0 t.1 (parts ∙ ap (λ (ws : List Version). done ++ ws) (behind_both vs true put is_older is_put))
      by false false is_older is_put = let t = takes.deletion is_older is_put in same (Some v.key) t.0 t.1 (parts ∙ ap (λ (ws : List Version). done ++ ws) (behind_both vs false false is_older is_put))
      by false true is_older is_put =
          let t = takes.newest is_older is_put in
          let split : all ≡ done ++ v ∷ puts_behind (Some v.key) vs = parts ∙ ap (λ (ws : List Version). done ++ ws) (behind_both vs false true is_older is_put) in
          record {
            more = done ++ v ∷ [];
            parts = split ∙ sym (append_assoc done (v ∷ []) (puts_behind (Some v.key) vs)) ∙ ap (λ (p : Option (List ℕ)). (done ++ v ∷ []) ++ puts_behind p vs) (sym t.0);
            are = subst (λ (fs : List DictEntry). AreEntries (done ++ v ∷ []) fs) (sym t.1.puts)
                (entry_added t.1.entry v done (puts_behind (Some v.key) vs) es t.1.key_is t.1.value_is (subst Rise split rise) are);
          }

  no_entry_here : (file at : ℕ) → StopsAt passed v (Damaged file at) → (vs : List Version) → with_all (puts_behind passed (v ∷ vs)) es ≡ None
  no_entry_here file at stops vs = ap (λ (ws : List Version). with_all ws es) (behind_both vs false true stops.0 stops.1) ∙ with_none v (puts_behind (Some v.key) vs) stops.2.2 es stops.2.3

abbrev any : Version → Bool
any v = true

-- the versions that were put in and those to come are all the newest puts
pub record Done (passed : Option (List ℕ)) (vs all : List Version) (es : List DictEntry) : Type 0 where
  pub done : List Version
  pub parts : newest_puts all ≡ done ++ puts_behind passed vs
  pub are : AreEntries done es

done_start : (passed : Option (List ℕ)) (vs all : List Version) (es : List DictEntry) → es ≡ [] → passed ≡ None → vs ≡ all → Done passed vs all es
done_start passed vs all es none nothing begins = record {
  done = [];
  parts = ap newest_puts (sym begins) ∙ ap (λ (p : Option (List ℕ)). puts_behind p vs) (sym nothing);
  are = subst (λ (fs : List DictEntry). AreEntries [] fs) (sym none) tt;
}

done_end : (passed : Option (List ℕ)) (all : List Version) (es : List DictEntry) → Done passed [] all es → AreEntries (newest_puts all) es
done_end passed all es so_far = subst (λ (ws : List Version). AreEntries ws es) (sym (so_far.parts ∙ no_more so_far.done)) so_far.are
  where
    no_more : (ws : List Version) → ws ++ [] ≡ ws
    no_more [] = refl
    no_more (w ∷ ws) = ap (λ (us : List Version). w ∷ us) (no_more ws)

module _ {K : Type 0} (f : K → CursorState) (whole steady : K → Image → Type 0) (offends : K → Image → ℕ → ℕ → Type 0) (s : State) (x : K) where
  abbrev pub GoesTo : State → K → Type 0
  GoesTo t y = Walk any (offends x) (offends y) (whole x) (whole y) (steady x) (steady y) (f x) (f y) s t

  -- what is left and what was taken in so far make the whole dictionary
  pub record Loading (t : State) (y : K) (passed : Option (List ℕ)) (es : List DictEntry) : Type 0 where
    pub walk : GoesTo t y
    pub holds : Tells s → whole x (seen s) → dictionary_of ((f x).versions (seen s)) ≡ with_all (puts_behind passed (left (f y) (seen s))) es
    pub entries : Tells s → whole x (seen s) → (f x).direction ≡ Forward → Done passed (left (f y) (seen s)) ((f x).versions (seen s)) es

  abbrev pub InOrder : Type 0
  InOrder = (c : K) (image : Image) → whole c image → IsInOrder (version_cmp (f c).direction) (left (f c) image) × IsInOrder (version_cmp (f c).direction) ((f c).versions image)

  puts_are_rising : InOrder → whole x (seen s) → (f x).direction ≡ Forward → Rise (newest_puts ((f x).versions (seen s)))
  puts_are_rising law is forward = puts_rise None ((f x).versions (seen s)) (subst (λ (d : Direction). IsInOrder (version_cmp d) ((f x).versions (seen s))) forward (law x (seen s) is).1)

  pub loading_start : (es : List DictEntry) (passed : Option (List ℕ)) → es ≡ [] → passed ≡ None → (Tells s → whole x (seen s) → left (f x) (seen s) ≡ (f x).versions (seen s)) → Loading s x passed es
  loading_start es passed none nothing begins = record {
    walk = walk_start any (offends x) (whole x) (steady x) (f x) s;
    holds = λ told is.
        ap dictionary_of (sym (begins told is))
        ∙ ap (λ (p : Option (List ℕ)). with_all (puts_behind p (left (f x) (seen s))) []) (sym nothing)
        ∙ ap (λ (fs : List DictEntry). with_all (puts_behind passed (left (f x) (seen s))) fs) (sym none);
    entries = λ told is forward. done_start passed (left (f x) (seen s)) ((f x).versions (seen s)) es none nothing (begins told is);
  }

  module _ (t : State) (y : K) (passed : Option (List ℕ)) (es : List DictEntry) (so_far : Loading t y passed es) where
    image_now : Tells s → seen t ≡ seen s
    image_now told = image_same s t (so_far.walk.same told)

    told_now : Tells s → Tells t
    told_now told = subst (λ (b : Bool). IsTrue b) (sym so_far.walk.counts.disk.tells) told

    -- the version that it stands on, in front of the rest
    stood : (v : Version) → (f y).current ≡ Some v → left (f y) (seen s) ≡ v ∷ (f y).rest (seen s)
    stood v at = ap (λ (o : Option Version). with_current o ((f y).rest (seen s))) at

    pub goes_over : (u : State) (z : K) → Walk any (offends y) (offends z) (whole y) (whole z) (steady y) (steady z) (f y) (f z) t u → GoesTo u z
    goes_over u z next = walk_then any (offends x) (offends y) (offends z) (whole x) (whole y) (whole z) (steady x) (steady y) (steady z) (f x) (f y) (f z) s t u so_far.walk next

    -- the version was taken in, and the cursor went on
    pub loading_next : InOrder → (v : Version) → (f y).current ≡ Some v → (passed' : Option (List ℕ)) (es' : List DictEntry) → TakesIn passed v passed' es es' →
        (u : State) (z : K) → Walk any (offends y) (offends z) (whole y) (whole z) (steady y) (steady z) (f y) (f z) t u → (Tells t → whole y (seen t) → left (f z) (seen t) ≡ (f y).rest (seen t)) → Loading u z passed' es'
    loading_next law v at passed' es' takes u z next moved = record {
      walk = goes_over u z next;
      holds = λ told is.
          so_far.holds told is ∙ ap (λ (vs : List Version). with_all (puts_behind passed vs) es) (stood v at) ∙ taken_all passed v passed' es es' takes ((f y).rest (seen s)) ∙ ap (λ (vs : List Version). with_all (puts_behind passed' vs) es') (sym (rest told is));
      entries = λ told is forward.
          let before = so_far.entries told is forward in
          let all : List Version = newest_puts ((f x).versions (seen s)) in
          let more = taken_one passed v passed' es es' takes before.done ((f y).rest (seen s)) all (before.parts ∙ ap (λ (vs : List Version). before.done ++ puts_behind passed vs) (stood v at)) (puts_are_rising law is forward) before.are in
          record {
            done = more.more;
            parts = more.parts ∙ ap (λ (vs : List Version). more.more ++ puts_behind passed' vs) (sym (rest told is));
            are = more.are;
          };
    }
      where
        rest : Tells s → whole x (seen s) → left (f z) (seen s) ≡ (f y).rest (seen s)
        rest told is =
            let e : seen t ≡ seen s = image_now told in
            let there : whole y (seen t) = subst (whole y) (sym e) (so_far.walk.stays_whole told is) in
            subst (λ (image : Image). left (f z) image ≡ (f y).rest image) e (moved (told_now told) there)

    over : (f y).current ≡ None → left (f y) (seen s) ≡ []
    over end = ap (λ (o : Option Version). with_current o ((f y).rest (seen s))) end

    -- nothing is left
    pub loaded : (f y).current ≡ None → Tells s → whole x (seen s) → dictionary_of ((f x).versions (seen s)) ≡ Some es
    loaded end told is = so_far.holds told is ∙ ap (λ (vs : List Version). with_all (puts_behind passed vs) es) (over end)

    pub all_entries : (f y).current ≡ None → Tells s → whole x (seen s) → (f x).direction ≡ Forward → AreEntries (newest_puts ((f x).versions (seen s))) es
    all_entries end told is forward = done_end passed ((f x).versions (seen s)) es (subst (λ (vs : List Version). Done passed vs ((f x).versions (seen s)) es) (over end) (so_far.entries told is forward))

    -- a version is no entry
    pub no_entry_stops : (v : Version) → (f y).current ≡ Some v → (stop : Stop) → StopsAt passed v stop → LoadStops (offends x) (whole x) (f x).versions s t stop
    no_entry_stops v at Memory stops = tt
    no_entry_stops v at Disk stops = absurd stops
    no_entry_stops v at (Full what place limit) stops = stops
    no_entry_stops v at (Damaged file place) stops = inr (
      stops.2.0,
      stops.2.1,
      λ told is.
          so_far.holds told is ∙ ap (λ (vs : List Version). with_all (puts_behind passed vs) es) (stood v at) ∙ no_entry_here passed v passed es es file place stops ((f y).rest (seen s)),
    )

    -- a step stopped
    pub step_stops : (u : State) (z : K) (stop : Stop) → MayStop (offends y) t u stop → LoadStops (offends x) (whole x) (f x).versions s u stop
    step_stops u z stop may = as_load stop (walk_stops any (offends x) (offends y) (offends z) (whole x) (whole y) (whole z) (steady x) (steady y) (steady z) (f x) (f y) (f z) s t u so_far.walk stop may)
      where
        as_load : (stop : Stop) → MayStop (offends x) s u stop → LoadStops (offends x) (whole x) (f x).versions s u stop
        as_load Memory may = may
        as_load Disk may = may
        as_load (Full what place limit) may = may
        as_load (Damaged file place) may = inl may
