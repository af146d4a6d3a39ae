-- What a core says is open in it, from one event to the next.
use Rattle.std.proofs.Common.{List, [], arith}
use Rattle.disk_model.specs.declared.disk.Device.{Ghosts}
use Rattle.store_model.specs.Holds.{Hold}
use Rattle.store_model.specs.Step.{Machine}
use Rattle.store_core.specs.Cores.{CoreShows}
use Rattle.store_core.specs.Port.{port_of}
use Rattle.store_core.specs.declared.store.Core.{Core}

-- A core goes on saying it, as a port, where its memory goes on showing a machine.
pub shows_on : {D : Type 0} (g : Ghosts D) (old new : Core D) → ((m : Machine) → CoreShows g old m → (m' : Machine) × CoreShows g new m')
    → ((held : List Hold) × (port_of g).holds old held) → (held : List Hold) × (port_of g).holds new held
shows_on g old new next (held, known) =
    let n : (m' : Machine) × CoreShows g new m' = next known.machine known.shown in
    ([], record { machine = n.0; shown = n.1; agrees = n.1.state.agrees; sound = n.1.state.sound; open_holds = λ hold inside. absurd (omega (arith, inside.1)) })
