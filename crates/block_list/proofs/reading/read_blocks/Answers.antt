use Rattle.std.proofs.Common.{◌≡◌, ◌-◌, ◌+◌, ◌++◌, [], ℕ, List, suc, map, Ok, sym, ◌∙◌, ap, subst, arith, Vec, Global}
use Rattle.std.proofs.lemmas.Result.{err_from_is_err_and}
use Rattle.block_list.specs.Reading.{block_at, blocks_at, SameFiles}
use Rattle.block_list.proofs.ReadingLemmas.{block_at-same, files_more, blocks_next, blocks_stop, blocks_end, gives_stop}
use Rattle.block_list.specs.declared.body.BlockRef.{BlockRef}
use Rattle.block_list.proofs.reading.read_blocks.Goals as goal

pub loop-index-preserved : goal.loop-index-preserved
loop-index-preserved c =
    let head = c.args.head in
    let done = c.loop-index.blocks.items in
    let index = c.loop-index._index in
    let left = head.blocks - (index + 1) in
    let item = c.in_ok-block.block in
    let files : List ℕ = c.args.seen.now.keys ++ map (λ (b : BlockRef). b.file) done in
    let more : head.blocks - index ≡ suc left = omega arith in
    let read : block_at head.next_file files c.loop-index.reader ≡ Ok (item, c.read_block.new.reader) =
    sym (block_at-same head.next_file c.loop-index.seen.keys files c.loop-index.reader c.loop-index.invariant.named) ∙ c.in_ok-block.ensures.reads in
    record {
      reads =
          ap (λ (l : List BlockRef). blocks_at head.next_file c.args.seen.now.keys left l c.read_block.new.reader) c.in_ok-keep.ensures.ok
          ∙ sym (blocks_next head.next_file c.args.seen.now.keys (head.blocks - index) left done c.loop-index.reader c.read_block.new.reader item more read)
          ∙ c.loop-index.invariant.reads;
      named =
          subst (λ (l : List BlockRef). SameFiles c.read_block.new.seen.keys (c.args.seen.now.keys ++ map (λ (b : BlockRef). b.file) l)) (sym c.in_ok-keep.ensures.ok)
          (files_more (λ (b : BlockRef). b.file) c.loop-index.seen.keys c.read_block.new.seen.keys c.args.seen.now.keys done item c.in_ok-block.ensures.named c.loop-index.invariant.named);
    }

pub returns-in_err-block-clause-reads : goal.returns-in_err-block-clause-reads
returns-in_err-block-clause-reads c =
    let p = err_from_is_err_and c.from_residual.result c.from_residual.ensures.1 in
    let head = c.args.head in
    let done = c.loop-index.blocks.items in
    let index = c.loop-index._index in
    let left = head.blocks - (index + 1) in
    let files : List ℕ = c.args.seen.now.keys ++ map (λ (b : BlockRef). b.file) done in
    let more : head.blocks - index ≡ suc left = omega arith in
    let same : block_at head.next_file files c.loop-index.reader ≡ block_at head.next_file c.loop-index.seen.keys c.loop-index.reader =
    sym (block_at-same head.next_file c.loop-index.seen.keys files c.loop-index.reader c.loop-index.invariant.named) in
    rw (p.1, p.2) (gives_stop (λ (s : BlockRef). s) (λ (v : Vec BlockRef Global). v.items) c.in_err-block.field-0.0 c.read_block.new.reader c.read_block.new.reader
    (block_at head.next_file c.loop-index.seen.keys c.loop-index.reader)
    (blocks_at head.next_file c.args.seen.now.keys head.blocks [] c.args.reader.now) c.in_err-block.ensures.reads
    (λ at broken. sym c.loop-index.invariant.reads ∙ blocks_stop head.next_file c.args.seen.now.keys (head.blocks - index) left done c.loop-index.reader at more (same ∙ broken)))

pub returns-clause-reads : goal.returns-clause-reads
returns-clause-reads c =
    sym c.loop-index.invariant.reads
    ∙ blocks_end c.args.head.next_file c.args.seen.now.keys (c.args.head.blocks - c.loop-index._index) c.loop-index.blocks.items c.loop-index.reader (omega arith)
