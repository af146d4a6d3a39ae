use Rattle.std.proofs.Common.{◌≡◌, ◌+◌, List, ◌∷◌, [], ◌++◌, Ok, Err, drop, take, sym, ap, subst, ◌∙◌}
use Rattle.std.proofs.lemmas.Result.{err_from_is_err_and}
use Rattle.block_info.specs.InfoParts.{InfoParts}
use Rattle.query_fanout.specs.Reading.{AtMost, BlocksRead, most_of}
use Rattle.query_fanout.specs.declared.error.QueryError.TheVariants.{Memory}
use Rattle.query_fanout.proofs.BlockLaws.{moved, next_at, read_ends, read_next, read_none, read_starved}
use Rattle.query_fanout.proofs.blocks.of_blocks.Goals as goal

pub loop-info-init : goal.loop-info-init
loop-info-init g c =
    read_none g.P.LookPort.meaning c.args.look.now (g.R.OfBlock.some c.args.reads.now) (g.R.OfBlock.fits c.args.reads.now) (g.R.OfBlock.most c.args.reads.now)
    (g.met.R.OfBlock.none c.args.reads.now) (g.met.R.OfBlock.both c.args.reads.now) c.args.port.now c.new-found.result.items c.requires.open c.new-found.ensures.items

pub of_pinned-requires-clause-pinned : goal.of_pinned-requires-clause-pinned
of_pinned-requires-clause-pinned g c =
    (next_at c.args.look.now.pin.blocks c.as_slice-info-items.result.now c.loop-info.info-index c.info-item.result c.get.result.now c.as_slice-info-items.ensures c.info-item.is
    c.get.ensures c.loop-info-test.true).among

pub returns-in_err-part : goal.returns-in_err-part
returns-in_err-part g c =
    let p = err_from_is_err_and c.from_residual.result c.from_residual.ensures.1 in
    let blocks : List InfoParts = c.args.look.now.pin.blocks in
    let some = g.R.OfBlock.some c.args.reads.now in
    let fits = g.R.OfBlock.fits c.args.reads.now in
    let most = g.R.OfBlock.most c.args.reads.now in
    let next = next_at blocks c.as_slice-info-items.result.now c.loop-info.info-index c.info-item.result c.get.result.now c.as_slice-info-items.ensures c.info-item.is
    c.get.ensures c.loop-info-test.true in
    rw (p.1, p.2) (subst
    (λ (infos : List InfoParts). BlocksRead g.P.LookPort.meaning c.args.look.now infos some fits (AtMost (most_of most infos)) c.args.port.now (Err c.in_err-part.field-0.0) c.of_pinned.new.port)
    next.whole
    (read_ends g.P.LookPort.meaning c.args.look.now some fits most (g.met.R.OfBlock.none c.args.reads.now) (g.met.R.OfBlock.both c.args.reads.now) c.args.port.now c.loop-info.port
    c.of_pinned.new.port (take c.loop-info.info-index blocks) c.get.result.now
    c.loop-info.found.items next.among c.loop-info.invariant c.in_err-part.field-0.0 (drop (c.loop-info.info-index + 1) blocks) c.in_err-part.ensures))

pub returns-then-is_err : goal.returns-then-is_err
returns-then-is_err g c =
    let blocks : List InfoParts = c.args.look.now.pin.blocks in
    let some = g.R.OfBlock.some c.args.reads.now in
    let fits = g.R.OfBlock.fits c.args.reads.now in
    let most = g.R.OfBlock.most c.args.reads.now in
    let next = next_at blocks c.as_slice-info-items.result.now c.loop-info.info-index c.info-item.result c.get.result.now c.as_slice-info-items.ensures c.info-item.is
    c.get.ensures c.loop-info-test.true in
    subst (λ (infos : List InfoParts). BlocksRead g.P.LookPort.meaning c.args.look.now infos some fits (AtMost (most_of most infos)) c.args.port.now (Err Memory) c.of_pinned.new.port)
    next.whole
    (read_ends g.P.LookPort.meaning c.args.look.now some fits most (g.met.R.OfBlock.none c.args.reads.now) (g.met.R.OfBlock.both c.args.reads.now) c.args.port.now c.loop-info.port
    c.of_pinned.new.port (take c.loop-info.info-index blocks) c.get.result.now
    c.loop-info.found.items next.among c.loop-info.invariant Memory (drop (c.loop-info.info-index + 1) blocks)
    (read_starved g.P.LookPort.meaning c.args.look.now (c.get.result.now ∷ []) (λ parts a b rose. rose) c.loop-info.port c.of_pinned.new.port c.in_ok-part.part c.in_ok-part.ensures))

pub loop-info-preserved : goal.loop-info-preserved
loop-info-preserved g c =
    let blocks : List InfoParts = c.args.look.now.pin.blocks in
    let some = g.R.OfBlock.some c.args.reads.now in
    let fits = g.R.OfBlock.fits c.args.reads.now in
    let most = g.R.OfBlock.most c.args.reads.now in
    let next = next_at blocks c.as_slice-info-items.result.now c.loop-info.info-index c.info-item.result c.get.result.now c.as_slice-info-items.ensures c.info-item.is
    c.get.ensures c.loop-info-test.true in
    let found = c.loop-info.found.items in
    let added : c.append.new.self.items ≡ found ++ c.in_ok-part.part =
    moved found c.into_vec.result.items c.append.new.self.items _ c.is_err.result c.append.ensures.items c.is_err.ensures.negation c.if-is_err.false
    ∙ ap (λ l. found ++ l) c.into_vec.ensures in
    subst (λ (infos : List InfoParts). BlocksRead g.P.LookPort.meaning c.args.look.now infos some fits (AtMost (most_of most infos)) c.args.port.now (Ok c.append.new.self.items) c.of_pinned.new.port)
    next.front
    (subst (λ l. BlocksRead g.P.LookPort.meaning c.args.look.now (take c.loop-info.info-index blocks ++ c.get.result.now ∷ []) some fits
    (AtMost (most_of most (take c.loop-info.info-index blocks ++ c.get.result.now ∷ []))) c.args.port.now (Ok l) c.of_pinned.new.port) (sym added)
    (read_next g.P.LookPort.meaning c.args.look.now some fits most (g.met.R.OfBlock.none c.args.reads.now) (g.met.R.OfBlock.both c.args.reads.now) c.args.port.now c.loop-info.port
    c.of_pinned.new.port (take c.loop-info.info-index blocks) c.get.result.now found
    next.among c.loop-info.invariant c.in_ok-part.part c.in_ok-part.ensures))
