use Rattle.std.proofs.Common.{◌<◌, ℕ, get_or, rules, arith}
use Rattle.block_list.specs.Reading.{slots_at}
use Rattle.block_list.proofs.SlotsMeaning.{stands_read}
use Rattle.block_list.proofs.loading.read_slots.Goals as goal

pub returns-clause-reads : goal.returns-clause-reads
unfolding slots_at
returns-clause-reads c = search rules

pub returns-clause-stands : goal.returns-clause-stands
returns-clause-stands c =
    let first : (i : ℕ) → get_or c.args.first.now i 0 < 256 = λ i. omega (arith, c.type_inv.first i) in
    let second : (i : ℕ) → get_or c.args.second.now i 0 < 256 = λ i. omega (arith, c.type_inv.second i) in
    stands_read c.args.first.now c.args.second.now c.newer_of.result first second (returns-clause-reads c)
