-- What a splitter tells is what the bytes since the last end say.
use Rattle.std.proofs.Common.{◌≡◌, ℕ, List, [], ◌∷◌, ◌++◌, refl, ap, sym, ◌∙◌, Bool, true, false, ◌==◌, ◌&&◌, if◌then◌else◌}
use Rattle.mr_lex.specs.Cutting.{next_place, place_from, place_behind, is_outside, is_blank, ends, split_of, since_with}
use Rattle.mr_lex.specs.Resting.{next_blank, blank_from, is_whole, told_at}
use Rattle.mr_lex.specs.Standing.{standing, HasRead}
use Rattle.mr_lex.specs.declared.place.Place.{Place}
use Rattle.mr_lex.specs.declared.place.Place.TheVariants.{Plain}
use Rattle.mr_lex.specs.declared.place.Split.TheVariants.{End, Blank, Inside}
use Rattle.mr_lex.specs.declared.splitter.Splitter.{Splitter}
use Rattle.mr_lex.proofs.Blanks.{blank_is}

pub place_snoc : (p : Place) (since : List ℕ) (b : ℕ) → place_from p (since ++ b ∷ []) ≡ next_place (place_from p since) b
place_snoc p [] b = refl
place_snoc p (a ∷ since) b = place_snoc (next_place p a) since b

pub blank_snoc : (p : Place) (blank : Bool) (since : List ℕ) (b : ℕ) → blank_from p blank (since ++ b ∷ []) ≡ next_blank (place_from p since) (blank_from p blank since) b
blank_snoc p blank [] b = refl
blank_snoc p blank (a ∷ since) b = blank_snoc (next_place p a) (next_blank p blank a) since b

pub blank_with : (since : List ℕ) (b : ℕ) → is_blank (since ++ b ∷ []) ≡ (next_blank (place_behind since) (blank_from Plain true since) b && is_whole (next_place (place_behind since) b))
blank_with since b = blank_is (since ++ b ∷ []) ∙ ap (λ t. t && is_whole (place_behind (since ++ b ∷ []))) (blank_snoc Plain true since b)
    ∙ ap (λ p. next_blank (place_behind since) (blank_from Plain true since) b && is_whole p) (place_snoc Plain since b)

pub told_is : (s : Splitter) (since : List ℕ) (b : ℕ) → HasRead s since → (b == 59 && is_outside s.place) ≡ false
    → told_at (next_place s.place b) (next_blank s.place s.blank b) ≡ split_of since b
told_is s since b h out =
    let ends_not : ends since b ≡ false = ap (λ (s : Splitter). b == 59 && is_outside s.place) (sym h) ∙ out in
    ap (λ (s : Splitter). told_at (next_place s.place b) (next_blank s.place s.blank b)) h
    ∙ sym (ap (λ t. if t then End else (if is_blank (since ++ b ∷ []) then Blank else Inside)) ends_not ∙ ap (λ t. if t then Blank else Inside) (blank_with since b))

pub read_is : (s : Splitter) (since : List ℕ) (b : ℕ) → HasRead s since → (b == 59 && is_outside s.place) ≡ false
    → HasRead (record { place = next_place s.place b; blank = next_blank s.place s.blank b }) (since_with since b)
read_is s since b h out =
    let ends_not : ends since b ≡ false = ap (λ (s : Splitter). b == 59 && is_outside s.place) (sym h) ∙ out in
    ap (λ (s : Splitter). (let t : Splitter = record { place = next_place s.place b; blank = next_blank s.place s.blank b } in t)) h
    ∙ sym (ap (λ (p : Place). (let t : Splitter = record { place = p; blank = blank_from Plain true (since ++ b ∷ []) } in t)) (place_snoc Plain since b)
    ∙ ap (λ (k : Bool). (let t : Splitter = record { place = next_place (place_behind since) b; blank = k } in t)) (blank_snoc Plain true since b))
    ∙ sym (ap (λ t. standing (if t then [] else since ++ b ∷ [])) ends_not)
