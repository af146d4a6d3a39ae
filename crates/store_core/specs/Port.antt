-- What a core shows as a port.
use Rattle.std.specs.Prelude.{◌≡◌, None, IsTrue}
use Rattle.disk_model.specs.Images.{bytes_of}
use Rattle.disk_model.specs.declared.disk.Device.{Ghosts}
use Rattle.store_model.specs.History.{History}
use Rattle.store_state.specs.Meaning.{Meaning}
use Rattle.store_state.specs.Cores.{CoreMeaning, meaning_of}
use Rattle.store_state.specs.Shown.{ShowsHistory}
use Rattle.store_state.specs.declared.jobs.Look.{Look}
use Rattle.store_core.specs.Cores.{CoreStandsFor, CoreShows}
use Rattle.store_core.specs.Events.{Did}
use Rattle.store_core.specs.Kept.{CoreKeeps}
use Rattle.store_core.specs.declared.store.Core.{Core}

-- The machines that it stands for, those that its memory shows, the blocks that it lists, what it keeps, whether it writes, and what its
-- disk shows: whether it tells its bytes, the bytes of a file, and the counts of faults, of reads and of calls.
abbrev pub shown_by : {D : Type 0} → Ghosts D → CoreMeaning (Core D)
shown_by {D} g = record {
  stands_for = CoreStandsFor g;
  in_memory = CoreShows g;
  tells = λ core. g.tells core.disk;
  shows = λ core file. bytes_of (g.held core.disk) file;
  lists = λ core infos. infos ≡ core.state.infos.items;
  keeps = CoreKeeps g;
  writes = λ core. core.state.read_only ≡ None;
  faults = λ core. g.faults core.disk;
  reads = λ core. g.reads core.disk;
  calls = λ core. g.calls core.disk;
}

-- Of each call it says besides all that its event is: the step of the machine, and what a crash may leave meanwhile.
abbrev pub port_of : {D : Type 0} → Ghosts D → Meaning (Core D)
port_of {D} g = record (meaning_of (shown_by g)) { did = Did g }

-- the look shows the history by what the core's disk holds
abbrev pub LookShows : {D : Type 0} → Ghosts D → Core D → Look → History → Type 0
LookShows {D} g core look h =
    ShowsHistory (IsTrue (g.tells core.disk)) (λ file. bytes_of (g.held core.disk) file) look h
