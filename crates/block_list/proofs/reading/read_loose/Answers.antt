use Rattle.std.proofs.Common.{◌≡◌, ◌-◌, ◌+◌, ◌++◌, [], ℕ, List, suc, Ok, sym, ◌∙◌, ap, subst, arith, Vec, Global}
use Rattle.std.proofs.lemmas.Result.{err_from_is_err_and}
use Rattle.block_list.specs.Reading.{file_at, loose_at, SameFiles}
use Rattle.block_list.proofs.ReadingLemmas.{file_at-same, loose_more, loose_next, loose_stop, loose_end, gives_stop}
use Rattle.block_list.proofs.reading.read_loose.Goals as goal

pub loop-index-preserved : goal.loop-index-preserved
loop-index-preserved c =
    let head = c.args.head in
    let done = c.loop-index.loose.items in
    let index = c.loop-index._index in
    let left = head.loose - (index + 1) in
    let item = c.in_ok-file.file in
    let files : List ℕ = c.args.seen.now.keys ++ done in
    let more : head.loose - index ≡ suc left = omega arith in
    let read : file_at head.next_file files c.loop-index.reader ≡ Ok (item, c.read_file.new.reader) =
    sym (file_at-same head.next_file c.loop-index.seen.keys files c.loop-index.reader c.loop-index.invariant.named) ∙ c.in_ok-file.ensures.reads in
    record {
      reads =
          ap (λ (l : List ℕ). loose_at head.next_file c.args.seen.now.keys left l c.read_file.new.reader) c.in_ok-keep.ensures.ok
          ∙ sym (loose_next head.next_file c.args.seen.now.keys (head.loose - index) left done c.loop-index.reader c.read_file.new.reader item more read)
          ∙ c.loop-index.invariant.reads;
      named =
          subst (λ (l : List ℕ). SameFiles c.read_file.new.seen.keys (c.args.seen.now.keys ++ l)) (sym c.in_ok-keep.ensures.ok)
          (loose_more c.loop-index.seen.keys c.read_file.new.seen.keys c.args.seen.now.keys done item c.in_ok-file.ensures.named c.loop-index.invariant.named);
    }

pub returns-in_err-file : goal.returns-in_err-file
returns-in_err-file c =
    let p = err_from_is_err_and c.from_residual.result c.from_residual.ensures.1 in
    let head = c.args.head in
    let done = c.loop-index.loose.items in
    let index = c.loop-index._index in
    let left = head.loose - (index + 1) in
    let files : List ℕ = c.args.seen.now.keys ++ done in
    let more : head.loose - index ≡ suc left = omega arith in
    let same : file_at head.next_file files c.loop-index.reader ≡ file_at head.next_file c.loop-index.seen.keys c.loop-index.reader =
    sym (file_at-same head.next_file c.loop-index.seen.keys files c.loop-index.reader c.loop-index.invariant.named) in
    rw (p.1, p.2) (gives_stop (λ (s : ℕ). s) (λ (v : Vec ℕ Global). v.items) c.in_err-file.field-0.0 c.read_file.new.reader c.read_file.new.reader
    (file_at head.next_file c.loop-index.seen.keys c.loop-index.reader)
    (loose_at head.next_file c.args.seen.now.keys head.loose [] c.args.reader.now) c.in_err-file.ensures.reads
    (λ at broken. sym c.loop-index.invariant.reads ∙ loose_stop head.next_file c.args.seen.now.keys (head.loose - index) left done c.loop-index.reader at more (same ∙ broken)))

pub returns : goal.returns
returns c =
    sym c.loop-index.invariant.reads
    ∙ loose_end c.args.head.next_file c.args.seen.now.keys (c.args.head.loose - c.loop-index._index) c.loop-index.loose.items c.loop-index.reader (omega arith)
