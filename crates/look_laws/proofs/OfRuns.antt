-- A look that is taken among the calls of a list of events.
use Rattle.std.proofs.Common.{◌≡◌, List, ◌∷◌, ◌++◌, subst}
use Rattle.std.specs.Prelude.{IsTrue}
use Rattle.std.specs.List.{AllByRecursion}
use Rattle.disk_model.specs.declared.disk.Device.{Ghosts}
use Rattle.store_model.specs.Event.{LookParts}
use Rattle.store_model.specs.Holds.{Hold}
use Rattle.store_model.specs.Step.{Machine}
use Rattle.store_state.specs.Made.{AreMade, Call}
use Rattle.store_core.specs.Cores.{CoreStandsFor}
use Rattle.store_core.specs.Port.{port_of}
use Rattle.store_core.specs.declared.store.Core.{Core}
use Rattle.client_run.specs.EventRuns.{HasRun}
use Rattle.client_run.specs.declared.event.Event.{Event}
use Rattle.client_run.specs.declared.event.EventReply.{EventReply}
use Rattle.look_laws.specs.LookRuns.{AreOwnPieces, KeepsLook, TellsExactly, taking}
use Rattle.look_laws.proofs.Events.{own_pieces}
use Rattle.look_laws.proofs.OfCores.{exact}

pub of_run : {D : Type 0} (g : Ghosts D) (old new : Core D) (events : List Event) (replies : List EventReply) (before between after : List Call) (look : LookParts) (m : Machine) (held : List Hold)
    → (ran : HasRun (port_of g) old events replies new) → ran.calls ≡ before ++ taking look ∷ (between ++ after) → CoreStandsFor g old m → (port_of g).holds old held
    → IsTrue (g.tells old.disk) → AllByRecursion (KeepsLook look) between → TellsExactly (port_of g) m.history old before look between after new
of_run g old new events replies before between after look m held ran parts stands holds told keep =
    exact g old new before between after look m held (subst (λ (calls : List Call). AreMade (port_of g) old calls new) parts ran.made) stands holds told keep
    (subst (λ (calls : List Call). AreOwnPieces held calls) parts (own_pieces events replies ran.calls ran.stages held ran.answered))
