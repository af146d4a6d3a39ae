-- A look that is taken among calls of a core.
use Rattle.std.proofs.Common.{◌≡◌, ℕ, ◌+◌, ◌≤◌, ◌==◌, Bool, true, false, List, [], ◌∷◌, ◌++◌, Option, Some, refl, sym, ◌∙◌, ap, subst, arith, if◌then◌else◌}
use Rattle.std.specs.Prelude.{IsTrue}
use Rattle.std.specs.List.{Contains, AllByRecursion}
use Rattle.disk_model.specs.declared.disk.Device.{Ghosts}
use Rattle.store_model.specs.Event.{LookParts, FlushParts, CompactParts}
use Rattle.store_model.specs.Event.Event.{Look}
use Rattle.store_model.specs.Event.Reply.{Looked}
use Rattle.store_model.specs.History.{History, count_of}
use Rattle.store_model.specs.Holds.{Hold, IsOpenLook, IsOpenFlush, IsOpenCompact, holds_after}
use Rattle.store_model.specs.Holds.Hold.{OpenLook, OpenFlush, OpenCompact}
use Rattle.store_model.specs.Sound.{StateIsSound, times}
use Rattle.store_model.specs.State.{Compaction, Flush, Pinned, State, block_files, compaction_files, flush_files, is_among, pinned_blocks, pinned_files}
use Rattle.store_model.specs.Step.{Machine}
use Rattle.store_model.proofs.Numbers.{named, times-append, times_itself}
use Rattle.store_model.proofs.TellsHistory.{step_tells}
use Rattle.store_state.specs.Cores.{CoreHolds, CoreKnows}
use Rattle.store_state.specs.Made.{AreMade, Call}
use Rattle.store_state.specs.Meaning.{Called, View}
use Rattle.store_core.specs.Cores.{CoreStandsFor}
use Rattle.store_core.specs.Port.{port_of, shown_by}
use Rattle.store_core.specs.declared.store.Core.{Core}
use Rattle.look_laws.specs.LookRuns.{AreOwnPieces, IsOwnFile, KeepsLook, LeavesLook, TellsExactly, TellsHistory, history_after_calls, taking}
use Rattle.look_laws.specs.LookRuns.IsOwnFile.{OfFlush, OfCompact}
use Rattle.look_laws.proofs.Calls.{in_nil, made_split, open_after_calls, stays_open, tells_after, holds_chain}
use Rattle.look_laws.proofs.Keeping.{look_is_open, tells_whole, told_at, with_look}

-- ---- a job's file is none of a look's

pinned_within : (file n : ℕ) (pins : List Pinned) → times file (block_files (pinned_blocks n pins)) ≤ times file (pinned_files pins)
pinned_within file n [] = omega arith
pinned_within file n (p ∷ ps) =
    let joined = times-append file (block_files p.blocks) (pinned_files ps) in
    let rest = pinned_within file n ps in
    elim (p.number == n) as (λ t. times file (block_files (if t then p.blocks else pinned_blocks n ps)) ≤ times file (block_files p.blocks ++ pinned_files ps)) [
      | true ↦ omega (arith, joined)
      | false ↦ omega (arith, joined, rest)
    ]

-- a file has one use, and a pinned one is a block's or loose
two_uses : (u : State) (file pin : ℕ) (files : List ℕ) → StateIsSound u → block_files (pinned_blocks pin u.pins) ≡ files
    → 1 ≤ times file (flush_files u.flush) + times file (compaction_files u.compaction) → is_among file files ≡ true → ⊥
two_uses u file pin files sound its used among =
    let one = named file files among in
    let same : times file (block_files (pinned_blocks pin u.pins)) ≡ times file files = ap (times file) its in
    let within = pinned_within file pin u.pins in
    let listed = sound.files.pinned file (omega (arith, one, same, within)) in
    let once = sound.files.once file in omega (arith, used, listed, once)

flush_uses : (o : Option Flush) (job : Flush) → o ≡ Some job → 1 ≤ times job.file (flush_files o)
flush_uses o job is =
    let own = times_itself job.file in
    let joined = times-append job.file (job.file ∷ []) (job.segment ∷ []) in
    subst (λ (x : Option Flush). 1 ≤ times job.file (flush_files x)) (sym is) (omega (arith, own, joined))

compaction_uses : (o : Option Compaction) (job : Compaction) → o ≡ Some job → 1 ≤ times job.file (compaction_files o)
compaction_uses o job is =
    let own = times_itself job.file in subst (λ (x : Option Compaction). 1 ≤ times job.file (compaction_files x)) (sym is) (omega (arith, own))

isnt : (b : Bool) → (b ≡ true → ⊥) → b ≡ false
isnt true never = absurd (never refl)
isnt false never = refl

module _ (m : Machine) (sound : StateIsSound m.state) (look : LookParts) (is_open : IsOpenLook m look) where
  flush_apart : (mine : FlushParts) → IsOpenFlush m mine → is_among mine.file look.files ≡ false
  flush_apart mine job =
      let first = flush_uses m.state.flush job.job job.is_open in
      let used : 1 ≤ times mine.file (flush_files m.state.flush) = subst (λ (f : ℕ). 1 ≤ times f (flush_files m.state.flush)) job.its_file first in
      isnt (is_among mine.file look.files) (two_uses m.state mine.file look.pin look.files sound is_open.its_files (omega (arith, used)))

  compaction_apart : (mine : CompactParts) → IsOpenCompact m mine → is_among mine.file look.files ≡ false
  compaction_apart mine job =
      let first = compaction_uses m.state.compaction job.job job.is_open in
      let used : 1 ≤ times mine.file (compaction_files m.state.compaction) = subst (λ (f : ℕ). 1 ≤ times f (compaction_files m.state.compaction)) job.its_file first in
      isnt (is_among mine.file look.files) (two_uses m.state mine.file look.pin look.files sound is_open.its_files (omega (arith, used)))

-- ---- pieces of jobs are written to no file of a look

module _ {D : Type 0} (g : Ghosts D) where
  own_apart : (core : Core D) (look : LookParts) (held : List Hold) → CoreHolds (shown_by g) core held → Contains held (OpenLook look) → (number file : ℕ) → IsOwnFile held number file
      → is_among file look.files ≡ false
  own_apart core look held is its number file (OfFlush job number_is file_is there) =
      subst (λ (f : ℕ). is_among f look.files ≡ false) file_is
      (flush_apart is.machine is.sound look (is.open_holds (OpenLook look) its) job (is.open_holds (OpenFlush job) there))
  own_apart core look held is its number file (OfCompact job number_is file_is there) =
      subst (λ (f : ℕ). is_among f look.files ≡ false) file_is
      (compaction_apart is.machine is.sound look (is.open_holds (OpenLook look) its) job (is.open_holds (OpenCompact job) there))

  leave_all : (old new : Core D) (calls : List Call) (look : LookParts) (held : List Hold) → AreMade (port_of g) old calls new → CoreHolds (shown_by g) old held → Contains held (OpenLook look)
      → AllByRecursion (KeepsLook look) calls → AreOwnPieces held calls → AllByRecursion (LeavesLook look) calls
  leave_all old new [] look held made holds its keep own = tt
  leave_all old new (c ∷ cs) look held made holds its keep own = (
    record { keeps = keep.0; apart = λ number file bytes e. own_apart old look held holds its number file (own.0 number file bytes e) },
    leave_all made.0 new cs look (holds_after c.event c.reply held) made.2 (made.1.holds held holds) (stays_open c.event c.reply held (OpenLook look) keep.0 its) keep.1 own.1,
  )

own_rest : (held : List Hold) (front back : List Call) → AreOwnPieces held (front ++ back) → AreOwnPieces (open_after_calls held front) back
own_rest held [] back own = own
own_rest held (c ∷ cs) back own = own_rest (holds_after c.event c.reply held) cs back own.1

own_front : (held : List Hold) (front back : List Call) → AreOwnPieces held (front ++ back) → AreOwnPieces held front
own_front held [] back own = tt
own_front held (c ∷ cs) back own = (own.0, own_front (holds_after c.event c.reply held) cs back own.1)

-- ---- the history

-- the core stands for a machine with this history
record StandsWith {D : Type 0} (g : Ghosts D) (core : Core D) (h : History) : Type 0 where
  machine : Machine
  stands : CoreStandsFor g core machine
  history : machine.history ≡ h

module _ {D : Type 0} (g : Ghosts D) where
  reached : (old new : Core D) (calls : List Call) → AreMade (port_of g) old calls new → (m : Machine) → CoreStandsFor g old m → StandsWith g new (history_after_calls m.history calls)
  reached old new [] made m stands = record { machine = m; stands = subst (λ (c : Core D). CoreStandsFor g c m) (sym made) stands; history = refl }
  reached old new (c ∷ cs) made m stands =
      let one = made.1.did.stepped m stands in
      let told = step_tells (g.faults old.disk) (g.faults made.0.disk) m one.machine c.event c.reply one.step in
      let rest = reached made.0 new cs made.2 one.machine one.stands in
      record {
        machine = rest.machine;
        stands = rest.stands;
        history = rest.history ∙ ap (λ (h : History). history_after_calls h cs) told.0;
      }

  -- what a look tells that is taken here
  told_by_core : (mid here : Core D) (look : LookParts) (h : History) → StandsWith g mid h → Called (port_of g) mid Look (Looked look) here → IsTrue (g.tells here.disk)
      → TellsHistory ((port_of g).shows here) look h
  told_by_core mid here look h is called told =
      let one = called.did.stepped is.machine is.stands in
      let tells = step_tells (g.faults mid.disk) (g.faults here.disk) is.machine one.machine Look (Looked look) one.step in
      let view : View = record { history = one.machine.history; holds = [] } in
      let known : CoreKnows (shown_by g) here view = record {
        machine = one.machine;
        stands = one.stands;
        agrees = one.stands.stands.agrees;
        sound = one.stands.stands.sound;
        history = refl;
        open_holds = λ hold c. absurd (in_nil hold c);
      } in
      subst (λ (x : History). TellsHistory ((port_of g).shows here) look x) (tells.0 ∙ is.history)
      (tells_whole ((port_of g).shows here) look one.machine.history (tells.1 ∙ ap count_of (sym tells.0)) (called.look told view known))

  pub exact : (old new : Core D) (before between after : List Call) (look : LookParts) (m : Machine) (held : List Hold)
      → AreMade (port_of g) old (before ++ taking look ∷ (between ++ after)) new → CoreStandsFor g old m → (port_of g).holds old held → IsTrue (g.tells old.disk)
      → AllByRecursion (KeepsLook look) between → AreOwnPieces held (before ++ taking look ∷ (between ++ after))
      → TellsExactly (port_of g) m.history old before look between after new
  exact old new before between after look m held made stands holds told keep own =
      let parts = made_split (port_of g) old new before (taking look ∷ (between ++ after)) made in
      let mid : Core D = parts.0 in
      let here : Core D = parts.2.0 in
      let called : Called (port_of g) mid Look (Looked look) here = parts.2.1 in
      let still : IsTrue (g.tells here.disk) = subst IsTrue (sym (called.telling ∙ tells_after (port_of g) old mid before parts.1)) told in
      let later = made_split (port_of g) here new between after parts.2.2 in
      let now : (port_of g).holds here (with_look held before look) = called.holds (open_after_calls held before) (holds_chain (port_of g) old mid before held parts.1 holds) in
      let pieces : AreOwnPieces (with_look held before look) between =
      own_front (with_look held before look) between after (own_rest held before (taking look ∷ (between ++ after)) own).1 in
      let leave : AllByRecursion (LeavesLook look) between = leave_all g here later.0 between look (with_look held before look) later.1 now (look_is_open held before look) keep pieces in
      let tells : TellsHistory ((port_of g).shows here) look (history_after_calls m.history before) =
      told_by_core mid here look (history_after_calls m.history before) (reached old mid before parts.1 m stands) called still in
      (here, told_at (port_of g) old mid here new before between after look (history_after_calls m.history before) parts.1 called parts.2.2 told tells held holds leave)
