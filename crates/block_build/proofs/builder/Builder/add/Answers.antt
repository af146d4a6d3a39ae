use Rattle.std.proofs.Common.{[], ◌∷◌, ap, arith, length, refl}
use Rattle.std.proofs.lemmas.List.{length-append}
use Rattle.block_build.proofs.RowByRow.{takes_row, takes_written}
use Rattle.block_build.proofs.builder.Builder.add.Goals as goal

pub write-requires : goal.write-requires
write-requires c = (let size = ap length c.in_ok-push.ensures.items in omega (arith, size, length-append c.args.self.now.rows.items (c.args.row ∷ [])))

pub returns-then-len-lt-STRIPE_ROWS-clause-takes : goal.returns-then-len-lt-STRIPE_ROWS-clause-takes
returns-then-len-lt-STRIPE_ROWS-clause-takes c =
    takes_row c.args.self.now _ c.args.row (record { rows = c.in_ok-push.ensures.items; form = refl; stripes = refl; body = refl; ids = refl; wanted = refl; sure = refl })
    (omega (arith, c.if-len-lt-STRIPE_ROWS.true, c.len.ensures, c.push.new.self.ok))

pub returns-clause-takes : goal.returns-clause-takes
returns-clause-takes c =
    takes_written c.write.result c.args.self.now _ c.write.new.self c.args.row
    (record { rows = c.in_ok-push.ensures.items; form = refl; stripes = refl; body = refl; ids = refl; wanted = refl; sure = refl })
    (omega (arith, c.if-len-lt-STRIPE_ROWS.false, c.len.ensures, c.push.new.self.ok)) c.write.ensures
