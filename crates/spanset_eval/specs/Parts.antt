-- Private mechanism. Positions split by values: the parts of a list, each of one value, in ascending order.
use Rattle.std.specs.Prelude.{ℕ, List, [], ◌∷◌, ◌++◌, ◌≡◌, Option, if◌then◌else◌}
use Rattle.std.specs.Option.{option_to_list}
use Rattle.std.specs.Ordering.{is_eq, is_lt}
use Rattle.std.specs.declared.cmp.Ordering.TheVariants.{Less}
use Rattle.traceql_value.specs.declared.value.Value.{Value}
use Rattle.traceql_value.specs.ValueRef.{ref_value}
use Rattle.traceql_value.specs.Values.{value_cmp}
use Rattle.spanset_eval.specs.declared.groups.Group.{Group}
use Rattle.spanset_eval.specs.declared.parts.Valued.{Valued}

-- a value, and the positions at which an expression has it
pub record SplitPart : Type 0 where
  pub value : Value
  pub members : List ℕ

-- the part of one position
abbrev pub part_of : Valued → SplitPart
part_of v = record { value = ref_value v.value; members = v.position ∷ [] }

-- the part of the position y, where the expression is f y
abbrev pub part_at : (ℕ → Value) → ℕ → SplitPart
part_at f y = record { value = f y; members = y ∷ [] }

-- the spanset that a part makes of one that was split off by these values
abbrev pub part_group : List Value → SplitPart → Group
part_group by p = record { by = by ++ p.value ∷ []; members = p.members }

-- a part with the positions of another one in front of its own
abbrev pub with_former : SplitPart → SplitPart → SplitPart
with_former a b = record { value = b.value; members = a.members ++ b.members }

-- a part among others in ascending order, joined with the one of its value
abbrev pub insert_part : SplitPart → List SplitPart → List SplitPart
insert_part p [] = p ∷ []
insert_part p (q ∷ qs) =
    if is_lt (value_cmp p.value q.value) then p ∷ q ∷ qs
    else if is_eq (value_cmp p.value q.value) then with_former p q ∷ qs
    else q ∷ insert_part p qs

-- all of some parts among others
abbrev pub insert_parts : List SplitPart → List SplitPart → List SplitPart
insert_parts [] qs = qs
insert_parts (p ∷ ps) qs = insert_part p (insert_parts ps qs)

-- parts in ascending order, each value once
abbrev pub arranged : List SplitPart → List SplitPart
arranged ps = insert_parts ps []

-- All parts are of greater values.
abbrev pub Above : Value → List SplitPart → Type 0
Above v [] = Unit
Above v (p ∷ ps) = (value_cmp v p.value ≡ Less) × Above v ps

-- Each part is of a lower value than all after it.
abbrev pub Ascend : List SplitPart → Type 0
Ascend [] = Unit
Ascend (p ∷ ps) = Above p.value ps × Ascend ps

-- The part that comes first was taken off one of two lists in ascending order, or off both where they had its value.
pub record TakesPart (left right : List SplitPart) (next : Option SplitPart) (left' right' : List SplitPart) : Type 0 where
  pub left_up : Ascend left'
  pub right_up : Ascend right'
  pub all : insert_parts left right ≡ option_to_list next ++ insert_parts left' right'
