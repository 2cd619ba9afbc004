-- The dictionary of a list of versions, which is in the order of their keys and has of each key the newest version first.
use Rattle.std.specs.Prelude.{◌≡◌, ◌⊎◌, ℕ, true, false, cond, List, [], ◌∷◌, Option, Some, None, is_some, unwrap_or, Result, Ok, Err}
use Rattle.mr_base.specs.Disk.{State, Tells, Image, HasRisen, seen}
use Rattle.mr_base.specs.declared.stop.Stop.{Stop}
use Rattle.mr_base.specs.declared.stop.Stop.TheVariants.{Memory, Disk, Full, Damaged}
use Rattle.mr_iter.specs.Versions.{Version}
use Rattle.mr_iter.specs.Cursors.{IsDamage}
use Rattle.mr_iter.specs.Snapshots.{is_skipped}
use Rattle.mr_dict_entry.specs.Entries.{entry_key, entry_value, reads_entry}
use Rattle.mr_dict_entry.specs.declared.entry.DictEntry.{DictEntry}
use Rattle.mr_dict.specs.Dictionary.{put_in}

-- of each key the newest version, where that is a put; those of a key that was passed are older
abbrev pub puts_behind : Option (List ℕ) → List Version → List Version
puts_behind passed [] = []
puts_behind passed (v ∷ vs) = cond (is_skipped passed v.key) (puts_behind passed vs) (cond (is_some v.put) (v ∷ puts_behind (Some v.key) vs) (puts_behind (Some v.key) vs))

abbrev pub newest_puts : List Version → List Version
newest_puts vs = puts_behind None vs

-- with the entry that was read
abbrev pub with_read : Result DictEntry ℕ → List DictEntry → Option (List DictEntry)
with_read (Ok e) es = Some (put_in e es)
with_read (Err at) es = None

abbrev pub and_then : Option (List DictEntry) → (List DictEntry → Option (List DictEntry)) → Option (List DictEntry)
and_then None f = None
and_then (Some es) f = f es

-- with the entries that these are; None where one is no entry
abbrev pub with_all : List Version → List DictEntry → Option (List DictEntry)
with_all [] es = Some es
with_all (v ∷ vs) es = and_then (with_read (reads_entry v.key (unwrap_or v.put [])) es) (with_all vs)

-- the entries of the newest puts; None where one is no entry
abbrev pub dictionary_of : List Version → Option (List DictEntry)
dictionary_of vs = with_all (newest_puts vs) []

-- these entries are those of the versions, in their order
abbrev pub AreEntries : List Version → List DictEntry → Type 0
AreEntries [] [] = Unit {0}
AreEntries [] (e ∷ es) = ⊥
AreEntries (v ∷ vs) [] = ⊥
AreEntries (v ∷ vs) (e ∷ es) = (v.key ≡ entry_key e) × (unwrap_or v.put [] ≡ entry_value e) × AreEntries vs es

-- the entry that a key and a value are was put in
pub record IsPut (key value : List ℕ) (es es' : List DictEntry) : Type 0 where
  pub entry : DictEntry
  pub read : reads_entry key value ≡ Ok entry
  pub key_is : key ≡ entry_key entry
  pub value_is : value ≡ entry_value entry
  pub puts : es' ≡ put_in entry es

-- a stop where an entry is put in: damage at file 0's beginning only where the key and the value are none
abbrev pub IsNoEntry : List ℕ → List ℕ → Stop → Type 0
IsNoEntry key value Memory = Unit {0}
IsNoEntry key value Disk = ⊥
IsNoEntry key value (Full what at limit) = ⊥
IsNoEntry key value (Damaged file at) = (file ≡ 0) × (at ≡ 0) × (place : ℕ) × (reads_entry key value ≡ Err place)

-- What becomes of the key that was passed and of the entries, once a version was taken in: nothing, where it is an older one of that key.
pub record TakesIn (passed : Option (List ℕ)) (v : Version) (passed' : Option (List ℕ)) (es es' : List DictEntry) : Type 0 where
  pub older : is_skipped passed v.key ≡ true → (passed' ≡ passed) × (es' ≡ es)
  pub deletion : is_skipped passed v.key ≡ false → is_some v.put ≡ false → (passed' ≡ Some v.key) × (es' ≡ es)
  pub newest : is_skipped passed v.key ≡ false → is_some v.put ≡ true → (passed' ≡ Some v.key) × IsPut v.key (unwrap_or v.put []) es es'

-- a stop where a version is taken in
abbrev pub StopsAt : Option (List ℕ) → Version → Stop → Type 0
StopsAt passed v Memory = Unit {0}
StopsAt passed v Disk = ⊥
StopsAt passed v (Full what at limit) = ⊥
StopsAt passed v (Damaged file at) = (is_skipped passed v.key ≡ false) × (is_some v.put ≡ true) × IsNoEntry v.key (unwrap_or v.put []) (Damaged file at)

-- A stop of `load` and its cause: damage only at an offence of the cursor's files, or at file 0's beginning where a newest put is no entry.
abbrev pub LoadStops : (Image → ℕ → ℕ → Type 0) → (Image → Type 0) → (Image → List Version) → State → State → Stop → Type 0
LoadStops offends whole versions old new Memory = Unit {0}
LoadStops offends whole versions old new Disk = HasRisen old.faults new.faults
LoadStops offends whole versions old new (Full what at limit) = ⊥
LoadStops offends whole versions old new (Damaged file at) = IsDamage offends old file at ⊎ ((file ≡ 0) × (at ≡ 0) × (Tells old → whole (seen old) → dictionary_of (versions (seen old)) ≡ None))
