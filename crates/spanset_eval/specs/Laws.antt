-- What `by`, `min` and `max` are, said without their definitions.
use Rattle.std.specs.Prelude.{◌≡◌, ℕ, ◌<◌, ℤ, ◌≤ℤ◌, List, [], ◌∷◌, ◌++◌, Some, Contains, slice_get}
use Rattle.std.specs.declared.cmp.Ordering.TheVariants.{Less, Equal}
use Rattle.traceql_value.specs.declared.value.Value.{Value}
use Rattle.traceql_value.specs.Values.{value_cmp}
use Rattle.spanset_eval.specs.declared.amounts.Amount.{Amount}
use Rattle.spanset_eval.specs.declared.groups.Group.{Group}

-- The span y is in the spanset, and in no other one of the list.
pub record IsInJust (sets : List Group) (y : ℕ) (set : Group) : Type 0 where
  pub listed : Contains sets set
  pub inside : Contains set.members y
  pub alone : (other : Group) → Contains sets other → Contains other.members y → other ≡ set

-- The spanset has one value more than another one, which equals the value of each of its spans.
pub record IsSplitOff (f : ℕ → Value) (whole : Group) (set : Group) (v : Value) : Type 0 where
  pub by : set.by ≡ whole.by ++ v ∷ []
  pub alike : (y : ℕ) → Contains set.members y → value_cmp (f y) v ≡ Equal

-- The spansets are a partition of one, in the order of the values that f gives its spans.
pub record IsPartition (f : ℕ → Value) (whole : Group) (sets : List Group) : Type 0 where
  pub once : (y : ℕ) → Contains whole.members y → (set : Group) × IsInJust sets y set
  pub only : (set : Group) (y : ℕ) → Contains sets set → Contains set.members y → Contains whole.members y
  pub some : (set : Group) → Contains sets set → (y : ℕ) × Contains set.members y
  pub alike : (set : Group) → Contains sets set → (v : Value) × IsSplitOff f whole set v
  pub ascending : (i j : ℕ) (former latter : Group) (x y : ℕ) → i < j → slice_get sets i ≡ Some former → slice_get sets j ≡ Some latter →
      Contains former.members x → Contains latter.members y → value_cmp (f x) (f y) ≡ Less

-- the amount is a whole number, one of these, and none of them is less
pub record IsLeast (ns : List ℤ) (a : Amount) : Type 0 where
  pub whole : a.bottom ≡ 1
  pub member : Contains ns a.top
  pub bound : (n : ℤ) → Contains ns n → a.top ≤ℤ n

-- the amount is a whole number, one of these, and none of them is greater
pub record IsGreatest (ns : List ℤ) (a : Amount) : Type 0 where
  pub whole : a.bottom ≡ 1
  pub member : Contains ns a.top
  pub bound : (n : ℤ) → Contains ns n → n ≤ℤ a.top
