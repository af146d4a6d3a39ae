use Rattle.std.proofs.Common.{◌≡◌, ◌-◌, ◌+◌, [], ℕ, Bool, Some, None, List, suc, eqb, map, Ok, refl, sym, ◌∙◌, ap, subst, arith, Vec, Global}
use Rattle.std.proofs.lemmas.Result.{err_from_is_err_and}
use Rattle.block_list.specs.Reading.{segment_ref_at, segments_at, SameFiles}
use Rattle.block_list.proofs.ReadingLemmas.{segment_ref_at-same, files_more, segments_next, segments_stop, segments_end, gives_stop, last_is}
use Rattle.block_list.specs.declared.body.SegmentRef.{SegmentRef}
use Rattle.block_list.proofs.reading.read_segments.Goals as goal

pub loop-index-preserved : goal.loop-index-preserved
loop-index-preserved c =
    let head = c.args.head in
    let done = c.loop-index.segments.items in
    let index = c.loop-index.index in
    let left = head.segments - (index + 1) in
    let segment = c.in_ok-segment.segment in
    let files : List ℕ = map (λ (s : SegmentRef). s.file) done in
    let more : head.segments - index ≡ suc left = omega arith in
    let read : segment_ref_at head.next_file head.floor (eqb left 0) c.loop-index.before files c.loop-index.reader ≡ Ok (segment, c.read_segment.new.reader) =
    sym (segment_ref_at-same head.next_file head.floor (eqb left 0) c.loop-index.before c.loop-index.seen.keys files c.loop-index.reader c.loop-index.invariant.named)
    ∙ ap (λ (b : Bool). segment_ref_at head.next_file head.floor b c.loop-index.before c.loop-index.seen.keys c.loop-index.reader) (sym (last_is index head.segments left (omega arith) refl))
    ∙ c.in_ok-segment.ensures.reads in
    record {
      reads =
          ap (λ (l : List SegmentRef). segments_at head.next_file head.floor left (Some segment.first) l c.read_segment.new.reader) c.in_ok-keep.ensures.ok
          ∙ sym (segments_next head.next_file head.floor (head.segments - index) left c.loop-index.before done c.loop-index.reader c.read_segment.new.reader segment more read)
          ∙ c.loop-index.invariant.reads;
      named =
          subst (λ (l : List SegmentRef). SameFiles c.read_segment.new.seen.keys (map (λ (s : SegmentRef). s.file) l)) (sym c.in_ok-keep.ensures.ok)
          (files_more (λ (s : SegmentRef). s.file) c.loop-index.seen.keys c.read_segment.new.seen.keys [] done segment c.in_ok-segment.ensures.named c.loop-index.invariant.named);
    }

pub returns-in_err-segment-clause-reads : goal.returns-in_err-segment-clause-reads
returns-in_err-segment-clause-reads c =
    let p = err_from_is_err_and c.from_residual.result c.from_residual.ensures.1 in
    let head = c.args.head in
    let done = c.loop-index.segments.items in
    let index = c.loop-index.index in
    let left = head.segments - (index + 1) in
    let files : List ℕ = map (λ (s : SegmentRef). s.file) done in
    let more : head.segments - index ≡ suc left = omega arith in
    let same : segment_ref_at head.next_file head.floor (eqb left 0) c.loop-index.before files c.loop-index.reader ≡ segment_ref_at head.next_file head.floor (eqb (index + 1) head.segments) c.loop-index.before c.loop-index.seen.keys c.loop-index.reader =
    sym (segment_ref_at-same head.next_file head.floor (eqb left 0) c.loop-index.before c.loop-index.seen.keys files c.loop-index.reader c.loop-index.invariant.named)
    ∙ ap (λ (b : Bool). segment_ref_at head.next_file head.floor b c.loop-index.before c.loop-index.seen.keys c.loop-index.reader) (sym (last_is index head.segments left (omega arith) refl)) in
    rw (p.1, p.2) (gives_stop (λ (s : SegmentRef). s) (λ (v : Vec SegmentRef Global). v.items) c.in_err-segment.field-0.0 c.read_segment.new.reader c.read_segment.new.reader
    (segment_ref_at head.next_file head.floor (eqb (index + 1) head.segments) c.loop-index.before c.loop-index.seen.keys c.loop-index.reader)
    (segments_at head.next_file head.floor head.segments None [] c.args.reader.now) c.in_err-segment.ensures.reads
    (λ at broken. sym c.loop-index.invariant.reads ∙ segments_stop head.next_file head.floor (head.segments - index) left c.loop-index.before done c.loop-index.reader at more (same ∙ broken)))

pub returns-clause-reads : goal.returns-clause-reads
returns-clause-reads c =
    sym c.loop-index.invariant.reads
    ∙ segments_end c.args.head.next_file c.args.head.floor (c.args.head.segments - c.loop-index.index) c.loop-index.before c.loop-index.segments.items c.loop-index.reader (omega arith)
