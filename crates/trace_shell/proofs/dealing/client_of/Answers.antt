use Rattle.std.proofs.Common.{◌≡◌, ◌<◌, ◌≤◌, arith}
use Rattle.std.proofs.lemmas.Bool.{ltb-false}
use Rattle.trace_shell.proofs.NumberLemmas.{none_then, same_number}
use Rattle.trace_shell.proofs.dealing.client_of.Goals as goal

pub returns-clause-none : goal.returns-clause-none
returns-clause-none c = none_then _ (c.in_ok-client.client, c.in_ok-client.request) c.then_some.result _ c.then_some.ensures (λ not client request from.
    let few : client < 20 = omega (arith, from.is_one, c.requires) in
    let same : c.in_ok-client.client ≡ client = same_number c.args.line.now c.in_ok-client.client client c.in_ok-client.request.now request c.in_ok-client.ensures.few few c.in_ok-client.ensures.is from.line_is in
    let over : c.args.clients ≤ c.in_ok-client.client = ltb-false _ _ not in
    omega (arith, same, over, from.is_one))
