-- Private mechanism. The members of groups, in the order of their positions. A table has for each position the group to which it belongs.
use Rattle.std.specs.Prelude.{◌≡◌, ◌==◌, ℕ, ◌<◌, ◌≤◌, Bool, true, false, List, Option, None, Some, is_some, if◌then◌else◌}
use Rattle.span_tree.specs.Tables.{at}

-- `member` is the last member of the group before position k: it is one, and none before k comes after it.
pub record IsLastMember (groups : List (Option ℕ)) (group k : ℕ) (member : Option ℕ) : Type 0 where
  pub belongs : (c : ℕ) → member ≡ Some c → (c < k) × (at groups c ≡ Some group)
  pub last : (y : ℕ) → y < k → at groups y ≡ Some group → (c : ℕ) × (member ≡ Some c) × (y ≤ c)

-- One table has for each group its last member before position k, and the other for each member before k the one before
-- it in its group.
pub record HasMembers (groups : List (Option ℕ)) (k : ℕ) (last before : List (Option ℕ)) : Type 0 where
  pub last_one : (group : ℕ) → IsLastMember groups group k (at last group)
  pub one_before : (c group : ℕ) → c < k → at groups c ≡ Some group → IsLastMember groups group c (at before c)
  pub none_before : (c : ℕ) → c < k → at groups c ≡ None → at before c ≡ None

-- Whether a member isn't at y: the last one of a group isn't, or the one before it in the group.
abbrev pub shows_than : Option ℕ → Option ℕ → ℕ → Bool
shows_than None earlier y = false
shows_than (Some c) earlier y = if c == y then is_some earlier else true

-- Whether the tables of members show one of the group that isn't at y.
abbrev pub shows_other : List (Option ℕ) → List (Option ℕ) → Option ℕ → ℕ → Bool
shows_other last before None y = false
shows_other last before (Some group) y = shows_than (at last group) (at before y) y
