-- What unpack data are for.
use Rattle.std.specs.Prelude.{◌≡◌, ℕ, ◌<◌, ◌^◌, List, length}
use Rattle.mr_pieces.specs.Order.{IsAscii}
use Rattle.mr_types.specs.declared.kind.Kind.{Kind}
use Rattle.mr_types.specs.declared.kind.Kind.TheVariants.{VarChar}
use Rattle.mr_types.specs.Fields.{lying, pieces_of, unpack_of, Lies}

-- a text whose number of spaces fits its field
abbrev pub HasForm : Kind → List ℕ → Type 0
HasForm (VarChar n collation) text = length text < 2 ^ 16
HasForm _ bytes = Unit {0}

abbrev pub IsAsciiIn : Kind → List ℕ → Type 0
IsAsciiIn (VarChar n collation) text = IsAscii text
IsAsciiIn _ bytes = Unit {0}

-- a text, or bytes, that some column of the kind takes
pub record IsTextOf (kind : Kind) (text : List ℕ) : Type 0 where
  pub short : length text < 2 ^ 16
  pub ascii : IsAsciiIn kind text

-- What was taken apart comes back: the pieces and the unpack form fit, and what lies in them is the text.
pub record ComesBack (kind : Kind) (text : List ℕ) : Type 0 where
  pub fits : Lies kind (pieces_of kind text) (unpack_of kind text)
  pub same : lying kind (pieces_of kind text) (unpack_of kind text) ≡ text
