-- Which entries a filter keeps.
use Rattle.std.specs.Prelude.{ℕ, ◌==◌, Bool, true, false, not, ◌&&◌, cond, List, length, take, nat_lt, Option, Some, None}
use Rattle.std.specs.Int.{w32, w64, from_be_bytes}
use Rattle.std.specs.List.{list_any}
use Rattle.mr_types.specs.Expiry.{is_expired}
use Rattle.mr_ttl.specs.declared.duration.Duration.{Duration}
use Rattle.mr_ttl.specs.Durations.{seconds_of}

-- the index number in front of a key, where the key has so many bytes
abbrev pub index_of : List ℕ → Option ℕ
index_of key = cond (nat_lt (length key) 4) None (Some (from_be_bytes w32 (take 4 key)))

-- the stamp in front of a value, where the value has so many bytes
abbrev pub stamp_of : List ℕ → Option ℕ
stamp_of value = cond (nat_lt (length value) 8) None (Some (from_be_bytes w64 (take 8 value)))

-- an index number is among the dropped ones
abbrev pub is_dropped : List ℕ → ℕ → Bool
is_dropped dropped index = list_any (λ n. n == index) dropped

-- an entry with this duration and this stamp is expired at a moment; without one of them it never is
abbrev pub has_expired : ℕ → Option ℕ → Option ℕ → Bool
has_expired moment None stamp = false
has_expired moment (Some duration) None = false
has_expired moment (Some duration) (Some stamp) = is_expired stamp duration moment

-- an entry of this index number is kept
abbrev pub keeps_at : ℕ → List Duration → List ℕ → List ℕ → Option ℕ → Bool
keeps_at moment durations dropped value None = true
keeps_at moment durations dropped value (Some index) = not (is_dropped dropped index) && not (has_expired moment (seconds_of durations index) (stamp_of value))

-- an entry is kept: its index isn't dropped, and it isn't expired at the moment
abbrev pub keeps_of : ℕ → List Duration → List ℕ → List ℕ → List ℕ → Bool
keeps_of moment durations dropped key value = keeps_at moment durations dropped value (index_of key)
