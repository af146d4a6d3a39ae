-- Once a write failed a machine stays read-only.
use Rattle.std.proofs.Common.{◌≡◌, ℕ, Some, None, refl, sym, ◌∙◌, ap}
use Rattle.store_model.specs.Event.{Event, Reply}
use Rattle.store_model.specs.Event.Event.{Push, Cut, CutAll, Held, BeginFlush, BeginCompact, WritePiece, CommitFlush, CommitCompact, DropFlush, DropCompact, Look, ReadPage, Done, Reclaim}
use Rattle.store_model.specs.Step.{Machine, Step, Happens}
use Rattle.store_model.specs.Step.Step.{Sure, Succeeds, Lacks, Unread, Breaks, Halts}

stays : (m m' : Machine) (e : Event) (r : Reply) → Happens m e r m' → m'.read_only ≡ m.read_only
stays m m' (Push spans moment) r d = ap (λ (x : Machine). x.read_only) d.1
stays m m' (Cut moment) r d = ap (λ (x : Machine). x.read_only) d.3
stays m m' CutAll r d = ap (λ (x : Machine). x.read_only) d.3
stays m m' Held r d = ap (λ (x : Machine). x.read_only) d.1
stays m m' BeginFlush r d = ap (λ (x : Machine). x.read_only) d.1
stays m m' BeginCompact r d = ap (λ (x : Machine). x.read_only) d.3
stays m m' (WritePiece job file bytes) r d = ap (λ (x : Machine). x.read_only) d.1
stays m m' (CommitFlush number size) r d = ap (λ (x : Machine). x.read_only) d.6
stays m m' (CommitCompact number size) r d = ap (λ (x : Machine). x.read_only) d.6
stays m m' (DropFlush number) r d = ap (λ (x : Machine). x.read_only) d.4
stays m m' (DropCompact number) r d = ap (λ (x : Machine). x.read_only) d.4
stays m m' Look r d = ap (λ (x : Machine). x.read_only) d.5
stays m m' (ReadPage pin block page) r d = ap (λ (x : Machine). x.read_only) d.2
stays m m' (Done pin) r d = ap (λ (x : Machine). x.read_only) d.2
stays m m' Reclaim r d = ap (λ (x : Machine). x.read_only) d.1

stopped : (m m' broken : Machine) (faults : ℕ) → m' ≡ broken → broken.read_only ≡ Some faults → m'.read_only ≡ None → m.read_only ≡ None
stopped m m' broken faults same is free = absurd (let bad : Some faults ≡ None = sym is ∙ sym (ap (λ (x : Machine). x.read_only) same) ∙ free in cc)

-- a machine that writes after a step wrote before it
pub wrote : (before faults : ℕ) (m m' : Machine) (e : Event) (r : Reply) → Step before faults m e r m' → m'.read_only ≡ None → m.read_only ≡ None
wrote before faults m m' e r (Sure sure same) free = sym (ap (λ (x : Machine). x.read_only) same) ∙ free
wrote before faults m m' e r (Succeeds none happens) free = sym (stays m m' e r happens) ∙ free
wrote before faults m m' e r (Lacks none takes reply same) free = sym (ap (λ (x : Machine). x.read_only) same) ∙ free
wrote before faults m m' e r (Unread reads reply rose same) free = sym (ap (λ (x : Machine). x.read_only) same) ∙ free
wrote before faults m m' e r (Breaks none writes reply rose same) free = stopped m m' _ faults same refl free
wrote before faults m m' e r (Halts none is writes reply rose emptied some same) free = stopped m m' _ faults same refl free
