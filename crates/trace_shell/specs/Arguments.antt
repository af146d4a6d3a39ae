-- The store's folder and the words of the command line among the arguments of the program.
use Rattle.std.specs.Prelude.{ℕ, List, [], ◌∷◌, Option, Some, None, Result, Ok, Err, String, Vec, map, string_bytes}
use Rattle.std.specs.declared.alloc.Global.{Global}
use Rattle.session_meaning.specs.declared.ending.Ending.{Ending}
use Rattle.session_meaning.specs.declared.ending.Ending.TheVariants.{BadWords, Starved}
use Rattle.trace_shell.specs.declared.program.Unread.{Unread}
use Rattle.trace_shell.specs.declared.program.Unread.TheVariants.{Memory}

-- The folder stands after the program's name, and the words after that.
abbrev pub parted : List (List ℕ) → Option (List ℕ × List (List ℕ))
parted [] = None
parted (program ∷ []) = None
parted (program ∷ folder ∷ words) = Some (folder, words)

-- The folder and the words that were given.
abbrev pub given_by : Result (Vec (String Global) Global) Unread → Option (List ℕ × List (List ℕ))
given_by (Ok arguments) = parted (map string_bytes arguments.items)
given_by (Err why) = None

-- How the program ends where none were given.
abbrev pub ending_without : Result (Vec (String Global) Global) Unread → Ending
ending_without (Err Memory) = Starved
ending_without _ = BadWords
