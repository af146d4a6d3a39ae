-- So many scripts that ask nothing are there.
use Rattle.std.proofs.Common.{◌≡◌, [], replicate, vec_len}
use Rattle.trace_shell.specs.Dealing.{scripts_in}
use Rattle.trace_shell.proofs.dealing.empty_scripts.Given as goal

abbrev pub invariant-loop-client : goal.invariant-loop-client
invariant-loop-client l = record { none : scripts_in l.scripts.items ≡ replicate l._client []; as_many : vec_len l.scripts ≡ l._client }
