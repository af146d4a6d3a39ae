use Rattle.std.proofs.Common.{◌≡◌, ◌++◌, ℕ, subst}
use Rattle.std.specs.Prelude.{OnOk}
use Rattle.byte_fields.specs.Spelling.{fixed32_bytes}
use Rattle.block_format.specs.Headers.{counts_bytes, form_bytes}
use Rattle.block_format.proofs.HeaderSteps.{wrote_five}
use Rattle.block_format.proofs.header.put_counts.Goals as goal

pub returns-clause-written : goal.returns-clause-written
unfolding counts_bytes
returns-clause-written c =
    let header = c.args.header.now in
    subst (λ (n : ℕ). OnOk c.fixed32-4.result (c.fixed32-4.new.self ≡ c.args.out.now ++ (form_bytes header.form ++ (fixed32_bytes header.pages ++ (fixed32_bytes n ++ (fixed32_bytes header.index_pages ++ fixed32_bytes header.bloom_pages)))))) c.len.ensures
    (wrote_five c.fixed32-4.result c.args.out.now (form_bytes header.form) (fixed32_bytes header.pages) (fixed32_bytes c.len.result) (fixed32_bytes header.index_pages) (fixed32_bytes header.bloom_pages)
    c.raw.new.self c.fixed32.new.self c.fixed32-2.new.self c.fixed32-3.new.self c.fixed32-4.new.self c.in_ok-raw.ensures.ok c.in_ok-fixed32.ensures.ok c.in_ok-fixed32-2.ensures.ok c.in_ok-fixed32-3.ensures.ok c.fixed32-4.ensures.ok)
