-- Each step keeps blocks counted, where its commits count them.
use Rattle.std.proofs.Common.{◌≡◌, ℕ, List, [], ◌∷◌, ◌++◌, None, Bool, true, false, sym, subst, length, filter, if◌then◌else◌}
use Rattle.store_model.specs.State.{Block}
use Rattle.store_model.specs.Event.{Event, Reply}
use Rattle.store_model.specs.Event.Event.{Push, Cut, CutAll, Held, BeginFlush, BeginCompact, WritePiece, CommitFlush, CommitCompact, DropFlush, DropCompact, Look, ReadPage, Done, Reclaim}
use Rattle.store_model.specs.Step.{Machine, Step, Happens, early}
use Rattle.store_model.specs.Told.{AreCounted, SizeFits}
use Rattle.store_model.proofs.Outcomes.{kept_by}

counted_more : (bs : List Block) (b : Block) → AreCounted bs → b.size ≡ length b.rows → AreCounted (bs ++ b ∷ [])
counted_more [] b is own = (own, tt)
counted_more (x ∷ xs) b is own = (is.0, counted_more xs b is.1 own)

counted_filter : (p : Block → Bool) (bs : List Block) → AreCounted bs → AreCounted (filter p bs)
counted_filter p [] is = tt
counted_filter p (b ∷ bs) is = by_test (p b) (counted_filter p bs is.1)
  where
    by_test : (t : Bool) → AreCounted (filter p bs) → AreCounted (if t then b ∷ filter p bs else filter p bs)
    by_test true h = (is.0, h)
    by_test false h = h

abbrev Counted : Machine → Type 0
Counted m = AreCounted m.state.blocks

happens_keeps : (m m' : Machine) (e : Event) (r : Reply) → Counted m → SizeFits m.state e → early m e ≡ None → Happens m e r m' → Counted m'
happens_keeps m m' (Push spans moment) r is fits _ d = subst Counted (sym d.1) is
happens_keeps m m' (Cut moment) r is fits _ d = subst Counted (sym d.3) is
happens_keeps m m' CutAll r is fits _ d = subst Counted (sym d.3) is
happens_keeps m m' Held r is fits _ d = subst Counted (sym d.1) is
happens_keeps m m' BeginFlush r is fits _ d = subst Counted (sym d.1) is
happens_keeps m m' BeginCompact r is fits _ d = subst Counted (sym d.3) is
happens_keeps m m' (WritePiece job file bytes) r is fits _ d = subst Counted (sym d.1) is
happens_keeps m m' (CommitFlush number size) r is fits _ d =
    subst Counted (sym d.6) (counted_more m.state.blocks _ is (fits d.0 d.1 d.2 d.4))
happens_keeps m m' (CommitCompact number size) r is fits _ d =
    subst Counted (sym d.6) (counted_more _ _ (counted_filter _ m.state.blocks is) (fits d.0 d.1 d.2 d.4))
happens_keeps m m' (DropFlush number) r is fits _ d = subst Counted (sym d.4) is
happens_keeps m m' (DropCompact number) r is fits _ d = subst Counted (sym d.4) is
happens_keeps m m' Look r is fits _ d = subst Counted (sym d.5) is
happens_keeps m m' (ReadPage pin block page) r is fits _ d = subst Counted (sym d.2) is
happens_keeps m m' (Done pin) r is fits _ d = subst Counted (sym d.2) is
happens_keeps m m' Reclaim r is fits _ d = subst Counted (sym d.1) is

pub step_keeps : (before faults : ℕ) (m m' : Machine) (e : Event) (r : Reply) → AreCounted m.state.blocks → SizeFits m.state e →
    Step before faults m e r m' → AreCounted m'.state.blocks
step_keeps before faults m m' e r is fits step =
    kept_by Counted before faults m m' e r is is (λ gone free. is) (λ none d. happens_keeps m m' e r is fits none d) step
