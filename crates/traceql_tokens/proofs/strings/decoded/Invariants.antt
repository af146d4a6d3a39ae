use Rattle.std.proofs.Common.{◌≡◌, ◌++◌, None, length, string_bytes, filter_map}
use denote.Text.{Utf8}
use denote.Shadow.{shadow}
use Rattle.traceql_tokens.specs.StringWalk.{pieces, first_unknown}
use Rattle.traceql_tokens.specs.Strings.{meaning}
use Rattle.traceql_tokens.proofs.strings.decoded.Given as goal

abbrev pub invariant-loop-value : goal.invariant-loop-value
invariant-loop-value l =
    shadow (Utf8 l.rest)
    × (first_unknown (pieces l.rest) ≡ None)
    × (string_bytes l.value ++ filter_map meaning (pieces l.rest) ≡ filter_map meaning (pieces l.body))

abbrev pub decreases-loop-value : goal.decreases-loop-value
decreases-loop-value l = length l.rest
