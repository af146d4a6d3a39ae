-- What is open at a seat.
use Rattle.std.proofs.Common.{◌≡◌, zero, refl, subst, arith}
use Rattle.std.specs.Prelude.{Option, Some, Ok, List}
use Rattle.store_model.specs.Event.Event.{BeginFlush, Look as TakeLook}
use Rattle.store_model.specs.Event.Reply.{Flushing, Looked}
use Rattle.store_model.specs.Holds.{Hold}
use Rattle.store_state.specs.Given.{flush_of, flush_parts, look_of, look_parts}
use Rattle.store_state.specs.Meaning.{Meaning, Called, IsOpen}
use Rattle.store_state.specs.Replies.{begin_flush_reply}
use Rattle.store_state.specs.declared.jobs.Look.{Look}
use Rattle.store_state.specs.declared.jobs.FlushJob.{FlushJob}
use Rattle.store_state.proofs.HoldLaws.{opens_new}
use Rattle.shared_store.specs.Seats.{Stand, seat_meaning}

-- What a seat says is open in it.
pub says : {C : Type 0} (m : Meaning C) (v : Stand C) → (held : List Hold) × (seat_meaning m).holds v held
says m v = (v.known.seen.holds, refl)

-- A flush that begins is open.
pub begun_is_open : {P : Type 0} (meaning : Meaning P) (old new : P) (begun : Option FlushJob) (job : FlushJob) → begun ≡ Some job
    → Called meaning old BeginFlush (begin_flush_reply (Ok begun)) new → ((held : List Hold) × meaning.holds old held) → IsOpen meaning new (flush_of job)
begun_is_open meaning old new begun job is called holds =
    opens_new meaning old new BeginFlush (Flushing (flush_parts job)) (flush_of job)
    (subst (λ (x : Option FlushJob). Called meaning old BeginFlush (begin_flush_reply (Ok x)) new) is called) holds (zero, omega arith, refl)

-- A look that is taken is open.
pub taken_is_open : {P : Type 0} (meaning : Meaning P) (old new : P) (look : Look) → Called meaning old TakeLook (Looked (look_parts look)) new
    → ((held : List Hold) × meaning.holds old held) → IsOpen meaning new (look_of look)
taken_is_open meaning old new look called holds =
    opens_new meaning old new TakeLook (Looked (look_parts look)) (look_of look) called holds (zero, omega arith, refl)
