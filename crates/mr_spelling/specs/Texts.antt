-- Texts: tokens with white space between them.
use Rattle.std.specs.Prelude.{◌≡◌, ℕ, ◌≤◌, Bool, true, not, ◌&&◌, List, [], ◌∷◌, ◌++◌, length}
use Rattle.std.specs.List.{list_all}
use Rattle.mr_lex.specs.Bytes.{is_space, is_empty}
use Rattle.mr_lex.specs.Blank.{is_space_or_end}
use Rattle.mr_lex.specs.Reading.{piece_of, Lexed}
use Rattle.mr_lex.specs.declared.token.TokenKind.{TokenKind}
use Rattle.mr_spelling.specs.Parts.{Part, IsToken}

-- the bytes are one token of this kind wherever white space or the end stands behind them
pub record IsAlone (kind : TokenKind) (bytes : List ℕ) : Type 0 where
  pub some : 1 ≤ length bytes
  pub alone : (rest : List ℕ) → is_space_or_end true rest ≡ true → piece_of (bytes ++ rest) ≡ Lexed kind (length bytes)

-- the bytes of a token, and the white space in front of them
pub record Written : Type 0 where
  pub gap : List ℕ
  pub kind : TokenKind
  pub bytes : List ℕ

-- with what stands behind the last of them
abbrev pub text_of : List Written → List ℕ → List ℕ
text_of [] last = last
text_of (w ∷ ws) last = w.gap ++ (w.bytes ++ text_of ws last)

-- nothing but white space in the gaps, and some of it in each
abbrev pub are_gaps : List Written → Bool
are_gaps [] = true
are_gaps (w ∷ ws) = list_all is_space w.gap && (not (is_empty w.gap) && are_gaps ws)

-- none is needed in front of the first
abbrev pub is_spaced : List Written → List ℕ → Bool
is_spaced [] last = list_all is_space last
is_spaced (w ∷ ws) last = list_all is_space w.gap && (are_gaps ws && list_all is_space last)

-- one token for each part
abbrev pub Write : List Written → List Part → Type 0
Write [] [] = Unit {0}
Write [] (p ∷ ps) = ⊥
Write (w ∷ ws) [] = ⊥
Write (w ∷ ws) (p ∷ ps) = IsAlone w.kind w.bytes × IsToken p w.kind w.bytes × Write ws ps
