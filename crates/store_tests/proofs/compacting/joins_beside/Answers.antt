use Rattle.store_tests.proofs.compacting.joins_beside.Goals as goal

pub joins-end-requires : goal.joins-end-requires
joins-end-requires g c = let is = c.add_pages-read.ensures in (is.0, is.1)

pub add_pages-again-requires : goal.add_pages-again-requires
add_pages-again-requires g c = c.joins-end.ensures c.args.look.now c.add_pages-read.ensures
