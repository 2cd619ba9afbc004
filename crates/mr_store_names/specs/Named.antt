-- The families that family 0 names, as a list.
use Rattle.std.specs.Prelude.{◌≡◌, ◌⊎◌, ◌≤◌, ◌<◌, ◌^◌, ◌++◌, ℕ, true, is_some, List, [], ◌∷◌}
use Rattle.std.specs.List.{AllByRecursion}
use Rattle.mr_iter.specs.Versions.{Version}
use Rattle.mr_iter.specs.Children.{AnyOf}
use Rattle.mr_stored.specs.Names.{family_key, put_direction, is_named, direction_in}
use Rattle.mr_store_names.specs.declared.name.Name.{Name}

-- the name is of a family from 2 on that is named, and has its direction
pub record IsNameIn (system : List Version) (n : Name) : Type 0 where
  pub far : 2 ≤ n.family
  pub small : n.family < 2 ^ 32
  pub named : is_named system n.family ≡ true
  pub direction_is : n.direction ≡ direction_in system n.family

-- a family is listed
abbrev pub Lists : ℕ → List Name → Type 0
Lists family names = AnyOf (λ (n : Name). n.family ≡ family) names

-- just the families from 2 on are listed that these versions of family 0 name, with their directions
pub record AreNames (system : List Version) (names : List Name) : Type 0 where
  pub all : (f : ℕ) → 2 ≤ f → f < 2 ^ 32 → is_named system f ≡ true → Lists f names
  pub each : AllByRecursion (IsNameIn system) names

-- ---- one version

-- the version is a put that names a family from 2 on
pub record IsNameOf (v : Version) (n : Name) : Type 0 where
  pub far : 2 ≤ n.family
  pub small : n.family < 2 ^ 32
  pub is : v.key ≡ family_key n.family
  pub put : is_some v.put ≡ true
  pub direction_is : n.direction ≡ put_direction v.put

-- the version names none from 2 on
abbrev pub IsNoNameOf : Version → Type 0
IsNoNameOf v = (f : ℕ) → 2 ≤ f → f < 2 ^ 32 → v.key ≡ family_key f → is_some v.put ≡ true → ⊥

-- the name of a version is added, where it has one
abbrev pub Adds : Version → List Name → List Name → Type 0
Adds v old new = ((new ≡ old) × IsNoNameOf v) ⊎ ((n : Name) × (new ≡ old ++ n ∷ []) × IsNameOf v n)

-- ---- versions one after the other

-- what this version names is listed
abbrev pub IsListed : List Name → Version → Type 0
IsListed names v = (f : ℕ) → 2 ≤ f → f < 2 ^ 32 → v.key ≡ family_key f → is_some v.put ≡ true → Lists f names

-- each name is that of one of these versions, and what these name is listed
pub record Told (versions : List Version) (names : List Name) : Type 0 where
  pub each : AllByRecursion (λ (n : Name). AnyOf (λ (v : Version). IsNameOf v n) versions) names
  pub listed : AllByRecursion (IsListed names) versions
