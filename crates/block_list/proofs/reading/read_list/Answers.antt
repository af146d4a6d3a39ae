use Rattle.std.proofs.Common.{◌++◌, [], ℕ, sym, ◌∙◌, Vec, Global}
use Rattle.std.proofs.lemmas.Result.{err_from_is_err_and}
use Rattle.block_list.specs.Reading.{blocks_at, loose_at, list_body_at, SameFiles}
use Rattle.block_list.proofs.ReadingLemmas.{segment_files, block_files, blocks_at-same, loose_at-same, same_behind, list_read, list_breaks_in_blocks, list_breaks_in_loose, gives_stop}
use Rattle.block_list.specs.declared.body.BlockRef.{BlockRef}
use Rattle.block_list.specs.declared.body.ListBody.{ListBody}
use Rattle.block_list.proofs.reading.read_list.Goals as goal

pub returns-in_err-blocks : goal.returns-in_err-blocks
returns-in_err-blocks c =
    let p = err_from_is_err_and c.from_residual-in_err-blocks.result c.from_residual-in_err-blocks.ensures.1 in
    let h = c.in_ok-head.head in
    let segments = c.in_ok-segments.segments.items in
    let seen = c.read_segments.new.seen.keys in
    let named : SameFiles seen (segment_files segments) = c.in_ok-segments.ensures.named in
    rw (p.1, p.2) (gives_stop (λ (x : Vec BlockRef Global). x.items) (λ (x : ListBody). x) c.in_err-blocks.field-0.0 c.read_blocks.new.reader c.read_blocks.new.reader
    (blocks_at h.next_file seen h.blocks [] c.read_segments.new.reader)
    (list_body_at c.args.slot c.args.other c.args.reader.now) c.in_err-blocks.ensures.reads
    (λ at broken. list_breaks_in_blocks c.args.slot c.args.other c.args.reader.now c.read_head.new.reader c.read_segments.new.reader c.read_segments.new.reader c.read_segments.new.reader h segments [] [] at
    c.in_ok-head.ensures c.in_ok-segments.ensures.reads (sym (blocks_at-same h.next_file seen (segment_files segments) h.blocks [] c.read_segments.new.reader named) ∙ broken)))

pub returns-in_err-loose : goal.returns-in_err-loose
returns-in_err-loose c =
    let p = err_from_is_err_and c.from_residual-in_err-loose.result c.from_residual-in_err-loose.ensures.1 in
    let h = c.in_ok-head.head in
    let segments = c.in_ok-segments.segments.items in
    let blocks = c.in_ok-blocks.blocks.items in
    let seen = c.read_segments.new.seen.keys in
    let named : SameFiles seen (segment_files segments) = c.in_ok-segments.ensures.named in
    let all : SameFiles c.read_blocks.new.seen.keys (segment_files segments ++ block_files blocks) = λ file. c.in_ok-blocks.ensures.named file ∙ same_behind seen (segment_files segments) (block_files blocks) named file in
    rw (p.1, p.2) (gives_stop (λ (x : Vec ℕ Global). x.items) (λ (x : ListBody). x) c.in_err-loose.field-0.0 c.read_loose.new.reader c.read_loose.new.reader
    (loose_at h.next_file c.read_blocks.new.seen.keys h.loose [] c.read_blocks.new.reader)
    (list_body_at c.args.slot c.args.other c.args.reader.now) c.in_err-loose.ensures
    (λ at broken. list_breaks_in_loose c.args.slot c.args.other c.args.reader.now c.read_head.new.reader c.read_segments.new.reader c.read_blocks.new.reader c.read_blocks.new.reader h segments blocks [] at
    c.in_ok-head.ensures c.in_ok-segments.ensures.reads
    (sym (blocks_at-same h.next_file seen (segment_files segments) h.blocks [] c.read_segments.new.reader named) ∙ c.in_ok-blocks.ensures.reads)
    (sym (loose_at-same h.next_file c.read_blocks.new.seen.keys (segment_files segments ++ block_files blocks) h.loose [] c.read_blocks.new.reader all) ∙ broken)))

pub returns : goal.returns
returns c =
    let h = c.in_ok-head.head in
    let segments = c.in_ok-segments.segments.items in
    let blocks = c.in_ok-blocks.blocks.items in
    let loose = c.in_ok-loose.loose.items in
    let seen = c.read_segments.new.seen.keys in
    let named : SameFiles seen (segment_files segments) = c.in_ok-segments.ensures.named in
    let all : SameFiles c.read_blocks.new.seen.keys (segment_files segments ++ block_files blocks) = λ file. c.in_ok-blocks.ensures.named file ∙ same_behind seen (segment_files segments) (block_files blocks) named file in
    rw (c.of.ensures, c.of-2.ensures, c.of-3.ensures)
    (list_read c.args.slot c.args.other c.args.reader.now c.read_head.new.reader c.read_segments.new.reader c.read_blocks.new.reader c.read_loose.new.reader h segments blocks loose
    c.in_ok-head.ensures c.in_ok-segments.ensures.reads
    (sym (blocks_at-same h.next_file seen (segment_files segments) h.blocks [] c.read_segments.new.reader named) ∙ c.in_ok-blocks.ensures.reads)
    (sym (loose_at-same h.next_file c.read_blocks.new.seen.keys (segment_files segments ++ block_files blocks) h.loose [] c.read_blocks.new.reader all) ∙ c.in_ok-loose.ensures))
