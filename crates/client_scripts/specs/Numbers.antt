-- The numbers of the pushes of all clients.
use Rattle.std.specs.Prelude.{◌≡◌, ℕ, ◌+◌, List, [], ◌∷◌, ◌++◌, map}
use Rattle.session_text.specs.declared.reply.Reply.{Reply}
use Rattle.session_text.specs.declared.reply.Reply.TheVariants.{Pushed}
use Rattle.store_model.specs.Event.{Event, Reply as StepReply}
use Rattle.store_model.specs.Event.Event.{Push}
use Rattle.store_model.specs.Event.Reply.{Count}
use Rattle.store_state.specs.Made.{Call}
use Rattle.port_history.specs.Entries.{Entry, call_of, own}
use Rattle.client_scripts.specs.declared.script.Answered.{Answered}

-- the number that a call gave, if it is a push that was accepted: a list of one, and else of none
abbrev pub given_by : Event → StepReply → List ℕ
given_by (Push spans moment) (Count number) = number ∷ []
given_by _ _ = []

-- the numbers that calls gave, in order
abbrev pub given_numbers : List Call → List ℕ
given_numbers [] = []
given_numbers (c ∷ calls) = given_by c.event c.reply ++ given_numbers calls

-- the number that a reply tells, if it is that of a push that was accepted
abbrev pub told_by_reply : Reply → List ℕ
told_by_reply (Pushed number accepted rejected skipped) = number ∷ []
told_by_reply _ = []

-- the numbers that a client's replies tell, in order
abbrev pub told_numbers : List Reply → List ℕ
told_numbers [] = []
told_numbers (r ∷ replies) = told_by_reply r ++ told_numbers replies

-- The first is this number, and each later one is the next after the one before it.
abbrev pub AreInARow : ℕ → List ℕ → Type 0
AreInARow next [] = Unit {0}
AreInARow next (number ∷ numbers) = (number ≡ next) × AreInARow (next + 1) numbers

-- The clients from this number on: each is told just the numbers of those accepted pushes that stand under its number, in their order.
abbrev pub AreTheirs : ℕ → List Answered → List Entry → Type 0
AreTheirs client [] entries = Unit {0}
AreTheirs client (answered ∷ answers) entries =
    (told_numbers answered.replies.items ≡ given_numbers (map call_of (own (client ∷ []) entries))) × AreTheirs (client + 1) answers entries

-- The accepted pushes of all clients are numbered in the one order of all calls, from this number on: none is given twice, and none is
-- left out. Each client is told just the numbers of its own.
pub record AreNumbered (next : ℕ) (entries : List Entry) (answers : List Answered) : Type 0 where
  pub in_a_row : AreInARow next (given_numbers (map call_of entries))
  pub theirs : AreTheirs 0 answers entries
