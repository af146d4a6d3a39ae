use Rattle.std.proofs.Common.{◌≡◌, ◌++◌, length, string_bytes}
use denote.Text.{Utf8}
use denote.Shadow.{shadow}
use Rattle.traceql_print.specs.Text.{escaped_text}
use Rattle.traceql_print.proofs.string.push_escaped.Given as goal

abbrev pub invariant-loop-letter : goal.invariant-loop-letter
invariant-loop-letter l =
    shadow (Utf8 l.rest)
    × (string_bytes l.out ++ escaped_text l.rest ≡ string_bytes l.fn.out ++ escaped_text l.value)

abbrev pub decreases-loop-letter : goal.decreases-loop-letter
decreases-loop-letter l = length l.rest
