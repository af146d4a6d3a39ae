use Rattle.std.proofs.Common.{arith}
use Rattle.trace_shell.proofs.DealingLemmas.{made_one}
use Rattle.trace_shell.proofs.dealing.empty_scripts.Goals as goal

pub loop-client-preserved : goal.loop-client-preserved
loop-client-preserved c = record {
  none = made_one c.loop-client.scripts.items c.push.new.self.items c.loop-client._client c.new.result c.loop-client.invariant.none c.in_ok-push.ensures.items c.new.ensures.items;
  as_many = omega (arith, c.loop-client.invariant.as_many, c.in_ok-push.ensures.len);
}
