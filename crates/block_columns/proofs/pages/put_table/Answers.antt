use Rattle.std.proofs.Common.{Bor}
use Rattle.block_columns.proofs.WritingSteps.{counted_seen, sound_seen}
use Rattle.block_columns.proofs.pages.put_table.Goals as goal

pub returns-clause-written : goal.returns-clause-written
returns-clause-written g c = counted_seen (λ (k : Bor _). k.now) (g.P.Put.encoding c.args.kind) c.args.table.now.keys _ _ (rw c.as_slice.ensures.keys at c.in_ok-put_counted.ensures.written)

pub returns-clause-sound : goal.returns-clause-sound
returns-clause-sound g c = sound_seen (λ (k : Bor _). k.now) (g.P.Put.promise c.args.kind) c.args.table.now.keys (rw c.as_slice.ensures.keys at c.in_ok-put_counted.ensures.sound)
