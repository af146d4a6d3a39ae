-- What is open in a port before a flush or a compaction, once a flush began, and after whole rounds.
use Rattle.std.proofs.Common.{◌≡◌, zero, List, [], ◌∷◌, refl, sym, subst, arith}
use Rattle.std.specs.Prelude.{Option, Some, Ok}
use Rattle.store_model.specs.Event.{Event, Reply}
use Rattle.store_model.specs.Event.Event.{BeginFlush}
use Rattle.store_model.specs.Event.Reply.{Flushing}
use Rattle.store_model.specs.Holds.{Hold, holds_after}
use Rattle.store_state.specs.Given.{flush_of, flush_parts}
use Rattle.store_state.specs.Made.{Call, AreMade}
use Rattle.store_state.specs.Meaning.{Meaning, Called, IsOpen}
use Rattle.store_state.specs.Replies.{begin_flush_reply}
use Rattle.store_state.specs.declared.jobs.FlushJob.{FlushJob}
use Rattle.store_state.proofs.HoldLaws.{opens_new}

-- A port goes on saying what is open in it.
pub goes_on : {P : Type 0} (meaning : Meaning P) (old new : P) (event : Event) (reply : Reply) → Called meaning old event reply new
    → ((held : List Hold) × meaning.holds old held) → (held : List Hold) × meaning.holds new held
goes_on meaning old new event reply called (held, known) = (holds_after event reply held, called.holds held known)

-- It does so after several calls.
pub goes_on_all : {P : Type 0} (meaning : Meaning P) (old new : P) (calls : List Call) → AreMade meaning old calls new
    → ((held : List Hold) × meaning.holds old held) → (held : List Hold) × meaning.holds new held
goes_on_all {P} meaning old new [] made h = subst (λ (x : P). (held : List Hold) × meaning.holds x held) (sym made) h
goes_on_all meaning old new (c ∷ cs) made h = goes_on_all meaning made.0 new cs made.2 (goes_on meaning old made.0 c.event c.reply made.1 h)

-- A flush that begins is open.
pub begun_is_open : {P : Type 0} (meaning : Meaning P) (old new : P) (begun : Option FlushJob) (job : FlushJob) → begun ≡ Some job
    → Called meaning old BeginFlush (begin_flush_reply (Ok begun)) new → ((held : List Hold) × meaning.holds old held) → IsOpen meaning new (flush_of job)
begun_is_open meaning old new begun job same called holds =
    opens_new meaning old new BeginFlush (Flushing (flush_parts job)) (flush_of job)
    (subst (λ (x : Option FlushJob). Called meaning old BeginFlush (begin_flush_reply (Ok x)) new) same called) holds (zero, omega arith, refl)
