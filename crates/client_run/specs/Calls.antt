-- Which looks of a port calls leave open.
use Rattle.std.specs.Prelude.{ℕ, List, [], ◌∷◌, ◌++◌, map, Option, Some, None, if◌then◌else◌, get_or}
use Rattle.store_model.specs.Event.{Reply}
use Rattle.store_model.specs.Event.Reply.{Looked}
use Rattle.store_model.specs.Holds.{Hold, ends}
use Rattle.store_model.specs.Holds.Hold.{OpenLook}
use Rattle.store_state.specs.Made.{Call}

-- Looks in the order in which they were taken: a look is here as long as it is open, and nothing is in its place once a call
-- ended it.
abbrev pub Looks : Type 0
Looks = List (Option Hold)

-- the look with this number, counted from 0, where it is open
abbrev pub look_at : ℕ → Looks → Option Hold
look_at number looks = get_or looks number None

-- a look after a call
abbrev pub unless_ended : Call → Option Hold → Option Hold
unless_ended c None = None
unless_ended c (Some hold) = if ends c.event c.reply hold then None else Some hold

-- the look that a reply gives
abbrev pub taken : Reply → Looks
taken (Looked look) = Some (OpenLook look) ∷ []
taken _ = []

-- The looks after a call: those that it ended are open no more, and one that it gives comes last.
abbrev pub after_call : Call → Looks → Looks
after_call c looks = map (unless_ended c) looks ++ taken c.reply

abbrev pub after_calls : List Call → Looks → Looks
after_calls [] looks = looks
after_calls (c ∷ calls) looks = after_calls calls (after_call c looks)
