use Rattle.std.proofs.Common.{rules, ap, subst, sym, ◌∙◌, ◌<◌, Err, List, Ok}
use Rattle.std.proofs.lemmas.Result.{err_from_is_err_and}
use Rattle.column_scan.specs.Sieves.{SieveParts}
use Rattle.query_fanout.specs.Rounds.{all_steps, infos_of}
use Rattle.query_fanout.specs.declared.rounds.Rounds.{Rounds}
use Rattle.query_fanout.specs.declared.scans.Scan.{Scan}
use Rattle.query_fanout.proofs.PlaceLaws.{fewer_steps, infos_stay, its_block, there}
use Rattle.query_fanout.proofs.StageLaws.{OneRead, goes_hungry, goes_wrong, gone_on}
use Rattle.query_fanout.proofs.rounds.go_on_at.Goals as goal

pub go_on-requires-clause-pinned : goal.go_on-requires-clause-pinned
go_on-requires-clause-pinned g c = (its_block c.args.rounds.scans.items c.args.look.now.pin.blocks c.args.at c.index.result.now c.requires.well.infos c.requires.low (search (rules))).among

pub returns-in-Ok-clause-goes : goal.returns-in-Ok-clause-goes
returns-in-Ok-clause-goes g c = λ seen start r.
    let meaning = g.P.LookPort.meaning in
    let look = c.args.look.now in
    let at = c.args.at in
    let scans = c.args.rounds.scans.items in
    let scan = c.index.result.now in
    let found = c.in_ok-found.found in
    let f = c.in-Ok.ensures in
    let its = its_block scans look.pin.blocks at scan c.requires.well.infos c.requires.low (search (rules)) in
    gone_on meaning look seen c.args.own.now c.args.asked.now c.args.rounds start c.args.port.now c.go_on.new.port at scan r c.requires.low (search (rules)) its.front its.back its.are_all its.place
    c.in-Ok.next found f.batch
    (record { batches = f.batches; infos = ap infos_of f.scans ∙ infos_stay scans at scan found.scan c.requires.low (search (rules)) c.in_ok-found.ensures.same ∙ c.requires.well.infos })
    f.scans f.waits f.gone f.best f.is
    (subst (λ (s : SieveParts). OneRead meaning look scan s c.args.port.now (Ok found) c.go_on.new.port) c.requires.sieve c.in_ok-found.ensures.read)

pub returns-in-Ok-clause-fewer : goal.returns-in-Ok-clause-fewer
returns-in-Ok-clause-fewer g c = λ d goes_on.
    let scans = c.args.rounds.scans.items in
    let scan = c.index.result.now in
    subst (λ (l : List Scan). all_steps l < all_steps scans) (sym c.in-Ok.ensures.scans)
    (fewer_steps scans c.args.at scan c.in_ok-found.found.scan c.requires.low (search (rules)) (c.in_ok-found.ensures.further (there scans c.args.at scan d c.requires.low (search (rules)) goes_on)))

pub returns-in-Err-clause-goes : goal.returns-in-Err-clause-goes
returns-in-Err-clause-goes g c = λ seen start r.
    let meaning = g.P.LookPort.meaning in
    let look = c.args.look.now in
    let at = c.args.at in
    let scans = c.args.rounds.scans.items in
    let scan = c.index.result.now in
    let its = its_block scans look.pin.blocks at scan c.requires.well.infos c.requires.low (search (rules)) in
    goes_hungry meaning look seen c.args.own.now c.args.asked.now c.args.rounds start c.args.port.now c.go_on.new.port at scan r c.requires.low (search (rules)) its.front its.back its.are_all its.place
    Rounds c.in_ok-found.found c.in_ok-found.ensures.same (subst (λ (s : SieveParts). OneRead meaning look scan s c.args.port.now (Ok c.in_ok-found.found) c.go_on.new.port) c.requires.sieve c.in_ok-found.ensures.read)

pub returns-in_err-found-clause-goes : goal.returns-in_err-found-clause-goes
returns-in_err-found-clause-goes g c = λ seen start r.
    let p = err_from_is_err_and c.from_residual.result c.from_residual.ensures.1 in
    let meaning = g.P.LookPort.meaning in
    let look = c.args.look.now in
    let at = c.args.at in
    let scans = c.args.rounds.scans.items in
    let scan = c.index.result.now in
    let its = its_block scans look.pin.blocks at scan c.requires.well.infos c.requires.low (search (rules)) in
    rw (p.1, p.2) (goes_wrong meaning look seen c.args.own.now c.args.asked.now c.args.rounds start c.args.port.now c.go_on.new.port at scan r c.requires.low (search (rules)) its.front its.back
    its.are_all its.place Rounds c.in_err-found.field-0.0
    (subst (λ (s : SieveParts). OneRead meaning look scan s c.args.port.now (Err c.in_err-found.field-0.0) c.go_on.new.port) c.requires.sieve c.in_err-found.ensures.read))
