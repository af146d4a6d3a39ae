-- What is read of the lines of a search and a metrics query, as the definitions see it.
use Rattle.std.specs.Prelude.{ℕ, List, Option, option_map, Result, Ok, Err}
use Rattle.std.specs.Borrow.{Bor}
use Rattle.session_text.specs.declared.options.SearchLine.{SearchLine as Found}
use Rattle.session_text.specs.declared.metrics_line.MetricsLine.{MetricsLine as MetricsFound}
use Rattle.session_text.specs.MetricsLines.{Needed, MetricsLine}
use Rattle.session_text.specs.Options.{Left, Read, SearchLine}

-- what is left of a line
abbrev pub left_parsed : Option (Bor (List ℕ)) → Left
left_parsed left = option_map (λ s. s.now) left

-- an option that may stand first, and what is left then
abbrev pub option_parsed : Result (Option ℕ × Option (Bor (List ℕ))) ℕ → Result Read ℕ
option_parsed (Ok read) = Ok (read.0, left_parsed read.1)
option_parsed (Err at) = Err at

abbrev pub parts_parsed : Found → SearchLine
parts_parsed found = record { limit = found.limit; spans_per_set = found.spans_per_set; range = found.range; query = found.query.now }

-- a whole line
abbrev pub line_parsed : Result Found ℕ → Result SearchLine ℕ
line_parsed (Ok found) = Ok (parts_parsed found)
line_parsed (Err at) = Err at

-- an option that must stand there, and what is left then
abbrev pub needed_parsed : Result (ℕ × Option (Bor (List ℕ))) ℕ → Result Needed ℕ
needed_parsed (Ok given) = Ok (given.0, left_parsed given.1)
needed_parsed (Err at) = Err at

abbrev pub steps_parsed : MetricsFound → MetricsLine
steps_parsed found = record { start = found.start; end = found.end; step = found.step; query = found.query.now }

-- a whole line of a metrics query
abbrev pub metrics_parsed : Result MetricsFound ℕ → Result MetricsLine ℕ
metrics_parsed (Ok found) = Ok (steps_parsed found)
metrics_parsed (Err at) = Err at
