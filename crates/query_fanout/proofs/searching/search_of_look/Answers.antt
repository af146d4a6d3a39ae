use Rattle.std.proofs.Common.{refl}
use Rattle.query_fanout.proofs.BlockLaws.{read_failed}
use Rattle.query_fanout.proofs.SearchLaws.{not_searched, picks_are, told_of_look}
use Rattle.query_fanout.proofs.searching.search_of_look.Goals as goal

pub returns-in-Err : goal.returns-in-Err
returns-in-Err g c = not_searched g.P.LookPort.meaning c.args.look.now c.args.asked.now c.args.port.now c.requires

pub returns-in-Err-of : goal.returns-in-Err-of
returns-in-Err-of g c = not_searched g.P.LookPort.meaning c.args.look.now c.args.asked.now c.args.port.now c.requires

pub returns-in-Err-picks_of_rows : goal.returns-in-Err-picks_of_rows
returns-in-Err-picks_of_rows g c = not_searched g.P.LookPort.meaning c.args.look.now c.args.asked.now c.args.port.now c.requires

pub returns-in-Err-of-2 : goal.returns-in-Err-of-2
returns-in-Err-of-2 g c = not_searched g.P.LookPort.meaning c.args.look.now c.args.asked.now c.args.port.now c.requires

pub take_rounds-requires-clause-picks : goal.take_rounds-requires-clause-picks
take_rounds-requires-clause-picks g c κs within = (
  c.args.look.now.rows,
  picks_are c.args.asked.now c.in-Ok.sieve c.as_slice.result.now c.in-Ok-of.own c.args.look.now.rows c.in-Ok-picks_of_rows.picks.items c.in-Ok.ensures c.as_slice.ensures c.in-Ok-of.ensures
      c.in-Ok-picks_of_rows.ensures,
)

pub returns-in-Ok-take_rounds : goal.returns-in-Ok-take_rounds
returns-in-Ok-take_rounds g c =
    let picks = picks_are c.args.asked.now c.in-Ok.sieve c.as_slice.result.now c.in-Ok-of.own c.args.look.now.rows c.in-Ok-picks_of_rows.picks.items c.in-Ok.ensures c.as_slice.ensures c.in-Ok-of.ensures
    c.in-Ok-picks_of_rows.ensures in
    told_of_look g.P.LookPort.meaning c.args.look.now c.args.asked.now c.in-Ok-of.own c.args.port.now c.take_rounds.new.port c.in-Ok-take_rounds.best _ c.in-Ok-of.ensures refl c.into_results.ensures
    (c.in-Ok-take_rounds.ensures c.args.look.now.rows picks)

pub returns : goal.returns
returns g c =
    let picks = picks_are c.args.asked.now c.in-Ok.sieve c.as_slice.result.now c.in-Ok-of.own c.args.look.now.rows c.in-Ok-picks_of_rows.picks.items c.in-Ok.ensures c.as_slice.ensures c.in-Ok-of.ensures
    c.in-Ok-picks_of_rows.ensures in
    read_failed g.P.LookPort.meaning c.args.look.now c.args.look.now.pin.blocks (λ parts a b rose. rose) c.args.port.now c.take_rounds.new.port c.in-Err-take_rounds.error
    (c.in-Err-take_rounds.ensures c.args.look.now.rows picks)
