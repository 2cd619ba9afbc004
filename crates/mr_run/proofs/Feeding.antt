-- The bytes of a piece, one after the other.
use Rattle.std.proofs.Common.{◌≡◌, ℕ, ◌+◌, ◌<◌, List, [], ◌∷◌, ◌++◌, length, take, drop, get_or, Some, None, Option, Result, ap, sym, ◌∙◌, subst, take-append-drop}
use Rattle.std.proofs.lemmas.List.{take_more}
use Rattle.mr_base.specs.Disk.{State}
use Rattle.mr_base.specs.Source.{ClockState}
use Rattle.mr_types.specs.declared.statement.Statement.{Statement}
use Rattle.mr_commit_log.specs.declared.ending.Ending.{Ending}
use Rattle.mr_serve.specs.declared.server.Server.{Server}
use Rattle.mr_run.specs.Clocks.{clock_of, Goes}
use Rattle.mr_run.specs.Cutting.{left_by, statements_in}
use Rattle.mr_run.specs.Holding.{Holds}
use Rattle.mr_run.specs.Serving.{Serves}
use Rattle.mr_run.specs.declared.part.Part.{Part}
use Rattle.mr_run.proofs.Cut.{left_on}
use Rattle.mr_run.proofs.Served.{served_bytes, served_bytes_cut}

-- one more byte
pub served_byte : (a b c : Server) (given given_now : Option ℕ) (ca cb cc_ : ClockState) (ha hb hc : State) (ending : Option Ending) (since bytes : List ℕ) (i x : ℕ) → i < length bytes → x ≡ get_or bytes i 0 → given_now ≡ given
    → Serves a b (clock_of given ca) (clock_of given cb) ha hb None (statements_in since (take i bytes)) → Serves b c (clock_of given_now cb) (clock_of given_now cc_) hb hc ending (statements_in (left_by since (take i bytes)) (x ∷ []))
    → Serves a c (clock_of given ca) (clock_of given cc_) ha hc ending (statements_in since (take (i + 1) bytes))
served_byte a b c given given_now ca cb cc_ ha hb hc ending since bytes i x within is same first second =
    subst (λ (xs : List ℕ). Serves a c (clock_of given ca) (clock_of given cc_) ha hc ending (statements_in since xs)) (sym (take_more bytes i 0 within ∙ ap (λ y. take i bytes ++ y ∷ []) (sym is)))
    (served_bytes a b c (clock_of given ca) (clock_of given cb) (clock_of given cc_) ha hb hc ending since (take i bytes) (x ∷ []) first
    (subst (λ (o : Option ℕ). Serves b c (clock_of o cb) (clock_of o cc_) hb hc ending (statements_in (left_by since (take i bytes)) (x ∷ []))) same second))

-- and an error at it
pub served_byte_cut : (a b c : Server) (given given_now : Option ℕ) (ca cb cc_ : ClockState) (ha hb hc : State) (e : Ending) (since bytes : List ℕ) (i x : ℕ) → i < length bytes → x ≡ get_or bytes i 0 → given_now ≡ given
    → Serves a b (clock_of given ca) (clock_of given cb) ha hb None (statements_in since (take i bytes)) → Serves b c (clock_of given_now cb) (clock_of given_now cc_) hb hc (Some e) (statements_in (left_by since (take i bytes)) (x ∷ []))
    → Serves a c (clock_of given ca) (clock_of given cc_) ha hc (Some e) (statements_in since bytes)
served_byte_cut a b c given given_now ca cb cc_ ha hb hc e since bytes i x within is same first second =
    subst (λ (xs : List ℕ). Serves a c (clock_of given ca) (clock_of given cc_) ha hc (Some e) (statements_in since xs)) (take-append-drop (i + 1) bytes)
    (served_bytes_cut a c (clock_of given ca) (clock_of given cc_) ha hc (Some e) since (take (i + 1) bytes) (drop (i + 1) bytes) e Rattle.std.proofs.Common.refl
    (served_byte a b c given given_now ca cb cc_ ha hb hc (Some e) since bytes i x within is same first second))

pub holds_byte : (part : Part) (since bytes : List ℕ) (i x : ℕ) → i < length bytes → x ≡ get_or bytes i 0 → Holds part (left_by (left_by since (take i bytes)) (x ∷ [])) → Holds part (left_by since (take (i + 1) bytes))
holds_byte part since bytes i x within is h =
    subst (Holds part) (sym (left_on since (take i bytes) (x ∷ [])) ∙ ap (left_by since) (sym (take_more bytes i 0 within ∙ ap (λ y. take i bytes ++ y ∷ []) (sym is)))) h

pub goes_then : (given given_now : Option ℕ) (ca cb cc_ : ClockState) → given_now ≡ given → Goes given ca cb → Goes given_now cb cc_ → Goes given ca cc_
goes_then given given_now ca cb cc_ same one two = record {
  tells = two.tells ∙ one.tells;
  untaken = λ some. (subst (λ (o : Option ℕ). Goes o cb cc_) same two).untaken some ∙ one.untaken some;
}

-- the same value is given all along
pub served_given : (given given_now : Option ℕ) (a b : Server) (ca cb : ClockState) (ha hb : State) (ending : Option Ending) (ss : List (Result Statement ℕ)) → given_now ≡ given → Serves a b (clock_of given_now ca) (clock_of given_now cb) ha hb ending ss → Serves a b (clock_of given ca) (clock_of given cb) ha hb ending ss
served_given given given_now a b ca cb ha hb ending ss same serves = subst (λ (o : Option ℕ). Serves a b (clock_of o ca) (clock_of o cb) ha hb ending ss) same serves
