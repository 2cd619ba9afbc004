-- Operations of different keys.
use Rattle.std.specs.Prelude.{◌==◌, ◌&&◌, Bool, List}
use Rattle.std.specs.List.{IsDistinct}
use Rattle.std.specs.Str.{bytes_eq}
use Rattle.mr_wal.specs.declared.operation.Operation.{Operation}

-- two operations are of one key of one family
abbrev pub same_key : Operation → Operation → Bool
same_key o p = o.family == p.family && bytes_eq o.key p.key

-- no two of these operations are of one key of one family
abbrev pub HaveDistinctKeys : List Operation → Type 0
HaveDistinctKeys operations = IsDistinct same_key operations
