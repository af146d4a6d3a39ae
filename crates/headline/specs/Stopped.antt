-- What a store tells that writes no more.
use Rattle.std.specs.Prelude.{◌≡◌, ⊤, ℕ, List, [], ◌∷◌, Ok}
use Rattle.session_text.specs.declared.refusal.Refusal.{Refusal}
use Rattle.session_text.specs.declared.refusal.Refusal.TheVariants.{DiskFault, ReadOnly, Round}
use Rattle.session_text.specs.declared.reply.Reply.{Reply}
use Rattle.session_text.specs.declared.reply.Reply.TheVariants.{Refused}
use Rattle.session_text.specs.declared.request.Request.TheVariants.{Compact, Flush, Push, Reclaim}
use Rattle.session_text.specs.Items.{Item}
use Rattle.store_state.specs.declared.rounds.Refusal.TheVariants as round

-- A push that is refused so tells that the store writes no more: a call of the disk failed earlier, or for this push.
abbrev pub StopsWriting : Refusal → Type 0
StopsWriting (ReadOnly faults) = ⊤
StopsWriting DiskFault = ⊤
StopsWriting _ = ⊥

-- A line that would write is told just that, and how many faults the disk had counted. Any other may be told anything.
abbrev pub IsToldReadOnly : ℕ → Item → Reply → Type 0
IsToldReadOnly faults (Ok (Push reading moment)) reply = reply ≡ Refused (ReadOnly faults)
IsToldReadOnly faults (Ok Flush) reply = reply ≡ Refused (Round (round.ReadOnly faults))
IsToldReadOnly faults (Ok Compact) reply = reply ≡ Refused (Round (round.ReadOnly faults))
IsToldReadOnly faults (Ok Reclaim) reply = reply ≡ Refused (ReadOnly faults)
IsToldReadOnly faults item reply = ⊤

-- Each of these lines is, one reply each.
abbrev pub AreToldReadOnly : ℕ → List Item → List Reply → Type 0
AreToldReadOnly faults [] replies = replies ≡ []
AreToldReadOnly faults (item ∷ items) [] = ⊥
AreToldReadOnly faults (item ∷ items) (reply ∷ replies) =
    IsToldReadOnly faults item reply × AreToldReadOnly faults items replies
