-- A seat between two calls.
use Rattle.std.specs.Prelude.{◌≡◌, ◌<◌, [], Some, None, Option}
use Rattle.atomic_table.specs.Seated.{TableId}
use Rattle.atomic_table.specs.Table.{Me}
use Rattle.shared_store.specs.declared.known.Known.{Known}
use Rattle.shared_store.specs.Seats.{Stand}

-- two words, and one slot
abbrev pub IsBoard : TableId → Type 0
IsBoard table = (table.words ≡ 2) × (table.slots ≡ 1)

-- It is at a table, has some part, and has no slot out and no turn.
pub record IsAway {C : Type 0} (mine : TableId) (me : Me (Option C) (Known C)) : Type 0 where
  pub board : IsBoard mine
  pub none_out : me.1 ≡ []
  pub part : 0 < me.0.parts
  pub hidden : me.0.shown ≡ None

-- It is at this table, has some part, has no slot out and no turn, and knows which port was shared.
pub record IsIdle {C : Type 0} (table : TableId) (key : C) (mine : TableId) (me : Me (Option C) (Known C)) : Type 0 where
  pub board : IsBoard table
  pub here : mine ≡ table
  pub none_out : me.1 ≡ []
  pub part : 0 < me.0.parts
  pub hidden : me.0.shown ≡ None
  pub start : me.0.start ≡ Some key

-- Which store it is: its table, and the port as it was when it was first shared.
pub record Store (C : Type 0) : Type 0 where
  pub table : TableId
  pub key : C

-- a seat or a ticket of this store
abbrev pub IsOf : {C : Type 0} → Store C → Stand C → Type 0
IsOf store stand = (stand.table ≡ store.table) × (stand.known.start ≡ Some store.key)
