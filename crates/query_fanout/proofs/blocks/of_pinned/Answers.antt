use Rattle.std.proofs.Common.{ℕ, ◌∷◌, [], refl, rules, sym, ap, subst, ◌∙◌}
use Rattle.block_read.specs.Answers.{is_fault}
use Rattle.block_read.specs.Lookups.{IsInFile}
use Rattle.store_model.specs.State.{is_among}
use Rattle.store_state.specs.Given.{info_files}
use Rattle.query_fanout.specs.Reading.{AtMost, BlocksRead, most_of}
use Rattle.query_fanout.proofs.BlockLaws.{part_read}
use Rattle.query_fanout.proofs.PinnedLaws.{holds_here, pages_read}
use Rattle.query_fanout.proofs.blocks.of_pinned.Goals as goal

pub of_block-read-requires-clause-ready : goal.of_block-read-requires-clause-ready
of_block-read-requires-clause-ready g c = (c.requires.open, ap (λ (f : ℕ). is_among f (info_files c.args.look.now.pin.blocks)) c.file_of-file.ensures ∙ c.requires.pinned)

pub returns : goal.returns
returns g c =
    let h = c.of_block-read.ensures in
    let meaning = g.P.LookPort.meaning in
    let look = c.args.look.now in
    let info = c.args.info.now in
    let old = c.args.port.now in
    let new = c.of_block-read.new.pages.port.now in
    let r = c.of_block-read.result in
    let file = c.file_of-file.result in
    let some = g.R.OfBlock.some c.args.reads.now in
    let fits = g.R.OfBlock.fits c.args.reads.now in
    let most = g.R.OfBlock.most c.args.reads.now in
    let pages = pages_read meaning look _ (λ s. s.port.now) (λ s. s.look.now) (λ a b read went. went) (is_fault r) _ c.of_block-read.new.pages refl c.requires.open h.only.read in
    let part = part_read meaning look some fits most info old new r c.requires.pinned (subst (λ (f : ℕ). IsInFile f r) c.file_of-file.ensures h.its_file) pages h.some
    (λ told rows has. h.told told rows (holds_here meaning look old info file rows c.file_of-file.ensures c.requires.pinned has))
    (λ told rows has. h.reads told rows (holds_here meaning look old info file rows c.file_of-file.ensures c.requires.pinned has)) in
    let rose = AtMost (most_of most (info ∷ [])) in
    subst (BlocksRead meaning look (info ∷ []) some fits rose old c.query_result.result) (search rules)
    (subst (λ q. BlocksRead meaning look (info ∷ []) some fits rose old q new) (sym c.query_result.ensures) part)
