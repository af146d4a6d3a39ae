-- Private mechanism. Where tables of positions lead.
use Rattle.std.specs.Prelude.{◌≡◌, ℕ, ◌<◌, List, Bool, Option, Some, Contains}
use Rattle.span_tree.specs.Marking.{IsMarked}
use Rattle.span_tree.specs.Tables.{at}

-- The table leads to none but the first `count` positions.
pub record LeadsWithin (table : List (Option ℕ)) (count : ℕ) : Type 0 where
  pub within : (k d : ℕ) → at table k ≡ Some d → d < count

-- The ends are the positions to which the table leads from marked ones.
pub record AreEnds (marked : List Bool) (table : List (Option ℕ)) (ends : List ℕ) : Type 0 where
  pub only : (d : ℕ) → Contains ends d → (x : ℕ) × IsMarked marked x × (at table x ≡ Some d)
  pub whole : (x d : ℕ) → IsMarked marked x → at table x ≡ Some d → Contains ends d

-- From one of the starts two tables lead to d, by any number of steps.
pub data Reaches : List ℕ → List (Option ℕ) → List (Option ℕ) → ℕ → Type 0 where
  start : {starts : List ℕ} {one other : List (Option ℕ)} {d : ℕ} → Contains starts d → Reaches starts one other d
  along : {starts : List ℕ} {one other : List (Option ℕ)} {k d : ℕ} → Reaches starts one other k → at one k ≡ Some d → Reaches starts one other d
  aside : {starts : List ℕ} {one other : List (Option ℕ)} {k d : ℕ} → Reaches starts one other k → at other k ≡ Some d → Reaches starts one other d
