-- An event of a core is a call of its port.
use Rattle.std.proofs.Common.{◌≡◌, ℕ, List, [], true, ap, sym, ◌∙◌}
use Rattle.disk_model.specs.declared.disk.Device.{Ghosts}
use Rattle.disk_model.proofs.CallRuns.{raised_rose}
use Rattle.store_model.specs.Event.{Event, Reply}
use Rattle.store_model.specs.Step.{Machine, IsLookPin}
use Rattle.store_state.specs.Meaning.{Called, IsOpen}
use Rattle.store_state.specs.Cores.{CoreHolds, CoreSteps}
use Rattle.store_model.specs.Holds.{Hold, OpenIn}
use Rattle.store_model.specs.Holds.Hold.{OpenLook, OpenFlush, OpenCompact}
use Rattle.store_model.specs.State.{Pinned, block_files, is_among, pinned_blocks}
use Rattle.store_state.specs.Given.{info_files, look_of, IsJobOf, IsPinOf}
use Rattle.store_state.specs.Given.IsPinOf.{OfLook, OfJob}
use Rattle.store_state.specs.Given.IsJobOf.{OfFlush, OfCompact}
use Rattle.store_state.specs.declared.jobs.JobFile.{JobFile}
use Rattle.store_state.specs.declared.jobs.Look.{Look}
use Rattle.store_state.specs.declared.jobs.Pin.{Pin}
use Rattle.store_state.proofs.CallLaws.{step_is_called}
use Rattle.store_images.proofs.Lists.{not_in_nil}
use Rattle.store_core.specs.declared.store.Core.{Core}
use Rattle.store_core.proofs.Ended.{wrote}
use Rattle.store_core.specs.Cores.{CoreShows}
use Rattle.store_core.specs.Events.{Did}
use Rattle.store_core.specs.Port.{shown_by, port_of}

-- An event is a step of the core, with what it shows besides.
steps : {D : Type 0} (g : Ghosts D) (old : Core D) (event : Event) (reply : Reply) (new : Core D) → Did g old event reply new
    → CoreSteps (shown_by g) old event reply new
steps g old event reply new did = record {
  did = λ m stands. let stepped = did.stepped m stands in (stepped.machine, stepped.stands, stepped.step);
  shown = did.shown;
  telling = did.counts.telling;
  ended = λ m shown free.
      let after = did.shown m shown in
      sym shown.state.has.read_only ∙ wrote (g.faults old.disk) (g.faults new.disk) m after.0 event reply after.2 (after.1.state.has.read_only ∙ free);
  bytes = did.files;
  page = did.page;
  look = did.look;
  empty = λ told file among. (did.empty told file among).0;
  later = did.counts.later;
  quiet = did.counts.quiet;
  cause = λ is. raised_rose _ _ (did.counts.fault is);
  calls = did.calls;
  reads_rise = did.reads.0;
  reads_bound = did.reads.1;
}

pub did_is_called : {D : Type 0} (g : Ghosts D) (old : Core D) (event : Event) (reply : Reply) (new : Core D) → Did g old event reply new
    → Called (port_of g) old event reply new
did_is_called g old event reply new did =
    let called = step_is_called (shown_by g) old new event reply (steps g old event reply new did) in record {
      did = did;
      learns = called.learns;
      holds = called.holds;
      telling = called.telling;
      ended = called.ended;
      bytes = called.bytes;
      page = called.page;
      look = called.look;
      empty = called.empty;
      later = called.later;
      quiet = called.quiet;
      cause = called.cause;
      calls = called.calls;
      reads_rise = called.reads_rise;
      reads_bound = called.reads_bound;
    }

-- a look that the port holds open is open in a machine that the core's memory shows
pub open_look : {D : Type 0} (g : Ghosts D) (core : Core D) (look : Look) → IsOpen (port_of g) core (look_of look)
    → (m : Machine) × CoreShows g core m × IsLookPin look.pin.number m.state
open_look g core look (held, known, there) = (known.machine, known.shown, (known.open_holds (look_of look) there).open_pin)

-- a pin's files, by another name of its number
by_number : (pins : List Pinned) (mine number block : ℕ) (files known : List ℕ) → mine ≡ number → files ≡ known → block_files (pinned_blocks mine pins) ≡ files
    → is_among block known ≡ true → is_among block (block_files (pinned_blocks number pins)) ≡ true
by_number pins mine number block files known is same its named =
    ap (λ (n : ℕ). is_among block (block_files (pinned_blocks n pins))) (sym is) ∙ ap (is_among block) (its ∙ same) ∙ named

-- what the port holds open is open in a machine that the core's memory shows
pub open_hold : {D : Type 0} (g : Ghosts D) (core : Core D) (hold : Hold) → IsOpen (port_of g) core hold → (m : Machine) × CoreShows g core m × OpenIn m hold
open_hold g core hold (held, known, there) = (known.machine, known.shown, known.open_holds hold there)

pub open_job : {D : Type 0} (g : Ghosts D) (core : Core D) (out : JobFile) → IsJobOf out (IsOpen (port_of g) core) → (m : Machine) × CoreShows g core m × IsJobOf out (OpenIn m)
open_job g core out (OfFlush job number file is) = let its = open_hold g core (OpenFlush job) is in (its.0, its.1, OfFlush job number file its.2)
open_job g core out (OfCompact job number file is) = let its = open_hold g core (OpenCompact job) is in (its.0, its.1, OfCompact job number file its.2)

-- the pin of what the port holds open names the block in a machine that the core's memory shows
pub open_pin : {D : Type 0} (g : Ghosts D) (core : Core D) (pin : Pin) (block : ℕ) → IsPinOf pin block (IsOpen (port_of g) core)
    → (m : Machine) × CoreShows g core m × (is_among block (block_files (pinned_blocks pin.number m.state.pins)) ≡ true)
open_pin g core pin block (OfLook look number files is named) = let its = open_hold g core (OpenLook look) is in
    (its.0, its.1, by_number its.0.state.pins look.pin pin.number block look.files (info_files pin.blocks) number files its.2.its_files named)
open_pin g core pin block (OfJob job number files is named) = let its = open_hold g core (OpenCompact job) is in
    (its.0, its.1, by_number its.0.state.pins job.pin pin.number block job.files (info_files pin.blocks) number files its.2.its_files named)

-- nothing is open in a core whose memory shows a machine
pub holds_nothing : {D : Type 0} (g : Ghosts D) (core : Core D) (m : Machine) → CoreShows g core m → CoreHolds (shown_by g) core []
holds_nothing g core m shown = record {
  machine = m;
  shown = shown;
  agrees = shown.state.agrees;
  sound = shown.state.sound;
  open_holds = λ hold inside. absurd (not_in_nil hold inside);
}
