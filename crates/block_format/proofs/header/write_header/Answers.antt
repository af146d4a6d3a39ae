use Rattle.std.proofs.Common.{◌++◌, ℕ, List, ap, subst, ◌∙◌, arith}
use Rattle.std.specs.List.{AllByRecursion}
use Rattle.block_info.specs.declared.info.StripeInfo.{StripeInfo}
use Rattle.block_format.specs.Headers.{HasMoments, counts_bytes}
use Rattle.block_format.proofs.HeaderSteps.{header_written}
use Rattle.block_format.proofs.header.write_header.Goals as goal

pub returns : goal.returns
returns c =
    let header = c.args.header.now in
    let stripes = c.as_slice-stripes.result.now in
    record {
      rules = c.requires;
      index_pages = c.in_ok-put_counts.ensures.index;
      bloom_pages = c.in_ok-put_counts.ensures.bloom;
      moments = subst (λ (l : List StripeInfo). AllByRecursion HasMoments l) c.as_slice-stripes.ensures c.in_ok-put_entries.ensures.sound;
      bytes_are =
          header_written header stripes _ c.put_counts.new.out c.put_entries.new.out c.put_fill.new.out c.finish.result c.as_slice-stripes.ensures (omega arith)
          (c.in_ok-put_counts.ensures.written ∙ ap (λ (l : List ℕ). l ++ counts_bytes header) c.new-out.ensures) c.in_ok-put_entries.ensures.written c.in_ok-put_fill.ensures c.finish.ensures;
    }
