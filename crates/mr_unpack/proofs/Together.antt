-- Pieces and unpack forms lie together.
use Rattle.std.proofs.Common.{ℕ, ◌<◌, ◌^◌, List, length, refl, sym, subst}
use Rattle.mr_pieces.proofs.Kept.{come_back}
use Rattle.mr_types.specs.declared.kind.Kind.{Kind}
use Rattle.mr_types.specs.declared.kind.Kind.TheVariants.{VarChar}
use Rattle.mr_unpack.specs.Promises.{IsTextOf, ComesBack}

abbrev Short : List ℕ → Type 0
Short text = length text < 2 ^ 16

pub comes_back : (kind : Kind) (text : List ℕ) → IsTextOf kind text → ComesBack kind text
comes_back (VarChar n c) text is =
    let held = come_back.lying_texts c text is.ascii is.short in
    record { fits = record { its_pieces = held.1.its_pieces; its_unpack = held.1.its_unpack; not_long = held.1.not_long }; same = held.0 }
comes_back kind text is =
    let held = come_back.lying_bytes text in
    record { fits = record { its_pieces = held.1; its_unpack = refl; not_long = subst Short (sym held.0) is.short }; same = held.0 }
