-- Which exit status a run's end has.
use Rattle.std.specs.Prelude.{ℕ}
use Rattle.session_meaning.specs.declared.ending.Ending.{Ending}
use Rattle.session_meaning.specs.declared.ending.Ending.TheVariants.{Answered, BadWords, NotOpened, NotStore, ReadFault, Refused, Spent, Starved, WriteFault}

-- The exit status of a program that ends so.
abbrev pub status_of : Ending → ℕ
status_of Answered = 0
status_of WriteFault = 1
status_of BadWords = 2
status_of ReadFault = 3
status_of NotOpened = 4
status_of (NotStore file at) = 5
status_of Starved = 6
status_of Refused = 7
status_of Spent = 8
