use Rattle.std.proofs.Common.{◌≡◌, ◌++◌, ℕ, subst}
use Rattle.std.specs.Prelude.{OnOk}
use Rattle.byte_fields.specs.Spelling.{fixed64_bytes}
use Rattle.block_format.specs.Headers.{entry_bytes}
use Rattle.block_format.proofs.HeaderSteps.{wrote_four}
use Rattle.block_format.proofs.header.put_entry.Goals as goal

pub returns-clause-written : goal.returns-clause-written
unfolding entry_bytes
returns-clause-written c =
    let stripe = c.args.stripe.now in
    subst (λ (rows : ℕ). OnOk c.fixed64-4.result (c.fixed64-4.new.self ≡ c.args.out.now ++ (fixed64_bytes stripe.pages ++ (fixed64_bytes rows ++ (fixed64_bytes stripe.earliest ++ fixed64_bytes stripe.latest))))) c.from.ensures
    (wrote_four c.fixed64-4.result c.args.out.now (fixed64_bytes stripe.pages) (fixed64_bytes c.from.result) (fixed64_bytes stripe.earliest) (fixed64_bytes stripe.latest)
    c.fixed64.new.self c.fixed64-2.new.self c.fixed64-3.new.self c.fixed64-4.new.self c.in_ok-fixed64.ensures.ok c.in_ok-fixed64-2.ensures.ok c.in_ok-fixed64-3.ensures.ok c.fixed64-4.ensures.ok)
