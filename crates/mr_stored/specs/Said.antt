-- What the files of a store say: its manifest, and the engine log that is live by it. Whatever stands in other files says nothing.
use Rattle.std.specs.Prelude.{ℕ, ◌+◌, Bool, ◌||◌, List, [], ◌∷◌, length, is_some, if◌then◌else◌, nat_lt, nat_le, nat_eq, Result, Ok, Err}
use Rattle.std.specs.List.{common_prefix_len}
use Rattle.std.specs.Cmp.Lexicographic.{pointwise}
use Rattle.mr_base.specs.Disk.{Image}
use Rattle.mr_gate.specs.Log.{records_from, is_damaged_from}
use Rattle.mr_wal.specs.declared.record.WalRecord.{WalRecord}
use Rattle.mr_manifest.specs.declared.live.Live.{Live}
use Rattle.mr_manifest.specs.declared.sum.Sum.{Sum}
use Rattle.mr_manifest.specs.Edits.{first_record, edits_bytes}
use Rattle.mr_manifest.specs.Live.{no_live, live_after}
use Rattle.mr_manifest.specs.Manifest.{sum_of_file}
use Rattle.mr_engine_log.specs.Logged.{Logged, none_logged, log_of, applied}

-- A file's number, and a place in it.
abbrev pub Place : Type 0
Place = ℕ × ℕ

infixl 20 ◌>>=◌
abbrev pub ◌>>=◌ : {X Y : Type 0} → Result X Place → (X → Result Y Place) → Result Y Place
Ok x >>= f = f x
Err place >>= f = Err place

-- an offence's place in this file
abbrev pub in_file : {X : Type 0} → ℕ → Result X ℕ → Result X Place
in_file file (Ok x) = Ok x
in_file file (Err place) = Err (file, place)

-- What is live, and what the records of the live log leave.
pub record Said : Type 0 where
  pub live : Live
  pub logged : Logged

-- ---- the manifest

-- what is live in a new folder
abbrev pub first_live : Live
first_live = live_after first_record no_live

abbrev pub nothing_said : Said
nothing_said = record { live = first_live; logged = none_logged 0 }

-- a gated log with a record, or with damage in the place of one
abbrev pub is_begun : List ℕ → Bool
is_begun file = is_damaged_from 0 file || nat_lt 0 (length (records_from 0 file))

-- The manifest's first record is the one of a new folder; else the offence is its first field that differs. The fields of that record
-- begin at these places, and it ends at the last of them.
abbrev pub first_fields : List ℕ
first_fields = 0 ∷ 1 ∷ 5 ∷ 6 ∷ 14 ∷ 15 ∷ 23 ∷ 31 ∷ 32 ∷ 40 ∷ 41 ∷ 49 ∷ []

-- the last of these places, which rise, that isn't past this one
abbrev pub last_upto : ℕ → ℕ → List ℕ → ℕ
last_upto at before [] = before
last_upto at before (place ∷ places) = if nat_le place at then last_upto at place places else before

abbrev pub differs_at : List ℕ → ℕ
differs_at body = last_upto (common_prefix_len nat_eq body (edits_bytes first_record)) 0 first_fields

abbrev pub first_judged : {X : Type 0} → List (List ℕ) → X → Result X ℕ
first_judged [] x = Ok x
first_judged (body ∷ bodies) x = if pointwise nat_eq body (edits_bytes first_record) then Ok x else Err (5 + differs_at body)

-- what the records of the manifest add up to, or its first offence, of which its first record's text is judged last
abbrev pub manifest_sum : Image → Result Sum Place
manifest_sum image = in_file 0 (sum_of_file (image 0)) >>= λ sum. in_file 0 (first_judged (records_from 0 (image 0)) sum)

-- ---- the live log

abbrev pub with_live : Live → Result Logged Place → Result Said Place
with_live live (Ok logged) = Ok (record { live = live; logged = logged })
with_live live (Err place) = Err place

abbrev pub said_by_log : Image → Live → Result Said Place
said_by_log image live = with_live live (in_file live.log (log_of live.last_sequence (image live.log)))

-- A manifest without a record is that of an empty folder, whose binary log has none either.
abbrev pub said_by : Image → Sum → Result Said Place
said_by image sum = if is_some sum.at then said_by_log image sum.live else if is_begun (image 1) then Err (1, 0) else Ok nothing_said

-- what the manifest and the live log say, or their first offence
abbrev pub said : Image → Result Said Place
said image = manifest_sum image >>= said_by image

-- ---- one record more

abbrev pub with_record : WalRecord → Said → Said
with_record r s = record { live = s.live; logged = applied r s.logged }
