-- What a source of rows means, and how a SELECT over it ends.
use Rattle.std.specs.Prelude.{◌≡◌, ◌⊎◌, Bool, true, false, List, [], ◌∷◌, Option, Some, None}
use Rattle.mr_base.specs.declared.stop.Stop.{Stop}
use Rattle.mr_base.specs.declared.stop.Stop.TheVariants.{Memory}
use Rattle.mr_types.specs.declared.row.Row.{Row}

-- a step onto the first of the rows to come, or behind the last one where none is to come
abbrev pub Stepped : Bool → List Row → Option Row → List Row → Type 0
Stepped true old now new = (r : Row) × (old ≡ r ∷ new) × (now ≡ Some r)
Stepped false old now new = (old ≡ []) × (new ≡ [])

-- want of memory, or this stop
abbrev pub OrMemory : (Stop → Type 0) → Stop → Type 0
OrMemory P stop = (stop ≡ Memory) ⊎ P stop

-- it ended in the stop that the source ended in, or for want of memory while the source went on
abbrev pub EndsBy : Option Stop → Stop → Type 0
EndsBy stopped stop = (stopped ≡ Some stop) ⊎ ((stopped ≡ None) × (stop ≡ Memory))
