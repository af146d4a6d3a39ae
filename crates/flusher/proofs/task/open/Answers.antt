use Rattle.std.proofs.Common.{ℕ, take, sym, ◌∙◌, ap, arith}
use Rattle.flusher.proofs.task.open.Goals as goal

pub start-requires-clause-is_writing : goal.start-requires-clause-is_writing
start-requires-clause-is_writing g c = record {
  is_open = c.requires.is_open;
  some = c.requires.some;
  few = c.requires.few;
  block = c.in-Ok.ensures;
  within = omega (arith, c.requires.at_start);
  so_far = λ tells. c.requires.empty tells ∙ sym (ap (λ (n : ℕ). take n c.in-Ok.block.bytes) c.requires.at_start);
}
