use Rattle.std.proofs.Common.{arith}
use Rattle.byte_fields.proofs.NumberLaws.{high_below}
use Rattle.byte_fields.proofs.number.+number_of.Goals as goal

pub overflow_mul-result : goal.overflow_mul-result
overflow_mul-result t c =
    let h = high_below c.args.more c.in_ok-high.high _ c.args.bytes.now c.in_ok-high.rest.now c.requires (omega arith) (λ i. omega (arith, c.type_inv.bytes i)) c.in_ok-high.ensures.gives in
    omega (arith, h)

pub overflow_add-result : goal.overflow_add-result
overflow_add-result t c =
    let h = high_below c.args.more c.in_ok-high.high _ c.args.bytes.now c.in_ok-high.rest.now c.requires (omega arith) (λ i. omega (arith, c.type_inv.bytes i)) c.in_ok-high.ensures.gives in
    omega (arith, h, c.type_inv.bytes 0)
