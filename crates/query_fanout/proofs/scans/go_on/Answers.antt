use Rattle.std.proofs.Common.{◌≡◌, ℕ, ◌*◌, ◌<◌, ◌≤◌, [], ◌++◌, List, Ok, Err, Some, ap, drop, false, length, refl, rules, subst, take, ◌∙◌}
use Rattle.std.specs.Prelude.{IfSome}
use Rattle.block_read.specs.Answers.{is_fault}
use Rattle.block_read.specs.Lookups.{IsInFile}
use Rattle.block_read.proofs.DescribedLaws.{few_rows}
use Rattle.column_scan.specs.Candidates.{HaveLatest, spans_of}
use Rattle.column_scan.specs.Scans.{PartsRows, gone_through, is_enough, rows_between, scanned_pages}
use Rattle.column_scan.specs.Sieves.{sifted_picks}
use Rattle.column_scan.specs.declared.picks.Pick.{Pick}
use Rattle.store_model.specs.State.{is_among}
use Rattle.store_state.specs.Given.{info_files}
use Rattle.query_fanout.proofs.BlockLaws.{part_read}
use Rattle.query_fanout.proofs.GoLaws.{OnRead, PartRead, Tells, fewer_left, finds_both, no_rows_read, of_ok, read_on, stopped}
use Rattle.query_fanout.proofs.PinnedLaws.{holds_here, pages_read}
use Rattle.query_fanout.proofs.scans.go_on.Goals as goal

pub scan_stripes-read-requires : goal.scan_stripes-read-requires
scan_stripes-read-requires g c = (c.requires.open, ap (λ (f : ℕ). is_among f (info_files c.args.look.now.pin.blocks)) c.file_of-file.ensures ∙ c.requires.pinned)

pub returns-in-Ok-clause-read : goal.returns-in-Ok-clause-read
returns-in-Ok-clause-read g c =
    let h = c.scan_stripes-read.ensures in
    let meaning = g.P.LookPort.meaning in
    let look = c.args.look.now in
    let scan = c.args.scan in
    let info = scan.info.now in
    let old = c.args.port.now in
    let new = c.scan_stripes-read.new.pages.port.now in
    let r = c.scan_stripes-read.result in
    let picks : List Pick = c.scan_stripes-read.new.picks.items in
    let before : List Pick = c.new-picks.result.items in
    let sieve = c.args.sifter.now in
    let pages = pages_read meaning look _ (λ s. s.port.now) (λ s. s.look.now) (λ a b read went. went) (is_fault r) _ c.scan_stripes-read.new.pages refl c.requires.open h.only.read in
    let part : PartRead meaning look sieve scan picks old r new =
    part_read meaning look (λ rows x. rows ≡ []) (Tells sieve scan picks) (λ i rows. scanned_pages sieve.hint (gone_through scan.next r info.stripes)) info old new r c.requires.pinned
    (subst (λ (f : ℕ). IsInFile f r) c.file_of-file.ensures h.its_file) pages (no_rows_read r)
    (λ told rows has.
    let here = holds_here meaning look old info c.file_of-file.result rows c.file_of-file.ensures c.requires.pinned has in
    finds_both (λ x. HaveLatest (before ++ sifted_picks sieve (spans_of (rows_between scan.next x.next rows))) picks)
    (λ x. IfSome x.last (λ id. PartsRows id (take (256 * x.next) rows) (drop (256 * x.next) rows))) (Tells sieve scan picks rows) r
    (λ x a b. record {
      few = few_rows info (meaning.shows old info.file) rows has;
      latest = subst (λ (l : List Pick). HaveLatest (l ++ sifted_picks sieve (spans_of (rows_between scan.next x.next rows))) picks) c.new-picks.ensures.items a;
      parted = b;
    }) (h.answers told rows here) (h.last told rows here))
    (λ told rows has. h.reads) in
    subst (OnRead meaning look sieve scan old (Ok (record { scan = c.further.result; picks = c.scan_stripes-read.new.picks }))) (search rules)
    (read_on meaning look sieve scan old new r c.in-Ok.progress (record { scan = c.further.result; picks = c.scan_stripes-read.new.picks }) part c.in-Ok.ensures h.onward c.further.ensures.info
    c.further.ensures.next c.further.ensures.upto)

pub returns-clause-read : goal.returns-clause-read
returns-clause-read g c =
    let h = c.scan_stripes-read.ensures in
    let meaning = g.P.LookPort.meaning in
    let look = c.args.look.now in
    let scan = c.args.scan in
    let info = scan.info.now in
    let old = c.args.port.now in
    let new = c.scan_stripes-read.new.pages.port.now in
    let r = c.scan_stripes-read.result in
    let picks : List Pick = c.scan_stripes-read.new.picks.items in
    let before : List Pick = c.new-picks.result.items in
    let sieve = c.args.sifter.now in
    let pages = pages_read meaning look _ (λ s. s.port.now) (λ s. s.look.now) (λ a b read went. went) (is_fault r) _ c.scan_stripes-read.new.pages refl c.requires.open h.only.read in
    let part : PartRead meaning look sieve scan picks old r new =
    part_read meaning look (λ rows x. rows ≡ []) (Tells sieve scan picks) (λ i rows. scanned_pages sieve.hint (gone_through scan.next r info.stripes)) info old new r c.requires.pinned
    (subst (λ (f : ℕ). IsInFile f r) c.file_of-file.ensures h.its_file) pages (no_rows_read r)
    (λ told rows has.
    let here = holds_here meaning look old info c.file_of-file.result rows c.file_of-file.ensures c.requires.pinned has in
    finds_both (λ x. HaveLatest (before ++ sifted_picks sieve (spans_of (rows_between scan.next x.next rows))) picks)
    (λ x. IfSome x.last (λ id. PartsRows id (take (256 * x.next) rows) (drop (256 * x.next) rows))) (Tells sieve scan picks rows) r
    (λ x a b. record {
      few = few_rows info (meaning.shows old info.file) rows has;
      latest = subst (λ (l : List Pick). HaveLatest (l ++ sifted_picks sieve (spans_of (rows_between scan.next x.next rows))) picks) c.new-picks.ensures.items a;
      parted = b;
    }) (h.answers told rows here) (h.last told rows here))
    (λ told rows has. h.reads) in
    subst (OnRead meaning look sieve scan old (Err c.in-Err.error)) (search rules) (stopped meaning look sieve scan picks old new r c.in-Err.error part c.in-Err.ensures)

pub returns-in-Ok-clause-further : goal.returns-in-Ok-clause-further
returns-in-Ok-clause-further g c = λ goes.
    let h = c.scan_stripes-read.ensures in
    let scan = c.args.scan in
    let r = c.scan_stripes-read.result in
    let to = c.in-Ok.progress in
    let none : is_enough (Some 512) (length c.new-picks.result.items) ≡ false = ap (λ (l : List Pick). is_enough (Some 512) (length l)) c.new-picks.ensures.items in
    fewer_left scan c.further.result to.last to.next c.further.ensures.info c.further.ensures.next c.further.ensures.upto (of_ok r to (λ p. scan.next ≤ p.next) c.in-Ok.ensures h.onward)
    (of_ok r to (λ p. is_enough (Some 512) (length c.new-picks.result.items) ≡ false → scan.next < length scan.info.now.stripes → scan.next < p.next) c.in-Ok.ensures h.some none) goes
