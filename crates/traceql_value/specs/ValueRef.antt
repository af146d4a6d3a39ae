-- A value that is looked at where it stands.
use Rattle.traceql_value.specs.declared.value_ref.ValueRef.{ValueRef}
use Rattle.traceql_value.specs.declared.value_ref.ValueRef.TheVariants as ref
use Rattle.traceql_value.specs.declared.value.Value.{Value}
use Rattle.traceql_value.specs.declared.value.Value.TheVariants.{Nil, Truth, Number, Text, Status, Kind}

-- the value, wherever its text stands
abbrev pub ref_value : ValueRef → Value
ref_value ref.Nil = Nil
ref_value (ref.Truth truth) = Truth truth
ref_value (ref.Number n) = Number n
ref_value (ref.Text text) = Text text.now
ref_value (ref.Made text) = Text text
ref_value (ref.Status status) = Status status
ref_value (ref.Kind kind) = Kind kind
