-- Which entries a filter keeps, as its callers see it.
use Rattle.std.specs.Prelude.{ℕ, Bool, List}
use Rattle.mr_ttl.specs.declared.filter.TtlFilter.{TtlFilter}
use Rattle.mr_ttl.specs.Filters.{keeps_of}

abbrev pub filter_keeps : TtlFilter → List ℕ → List ℕ → Bool
filter_keeps f = keeps_of f.moment f.durations.items f.dropped.items
