use Rattle.std.proofs.Common.{List, Option, sym, subst}
use Rattle.std.specs.Prelude.{IfOk, OnErr}
use Rattle.store_state.specs.declared.jobs.Look.{Look}
use Rattle.client_run.specs.declared.event.Event.TheVariants.{Page}
use Rattle.client_run.specs.Taken.{HasAnswered, IsReady, MayHaveAnswered, looks_of}
use Rattle.client_run.proofs.events.run_event.Goals as goal

pub returns-in-Push-clause-answered : goal.returns-in-Push-clause-answered
returns-in-Push-clause-answered g c = rw c.in-Push.is (c.push.ensures.answered (looks_of c.args.looks.now.items) c.args.tasks.now c.requires)

pub returns-in-Cut-clause-answered : goal.returns-in-Cut-clause-answered
returns-in-Cut-clause-answered g c = rw c.in-Cut.is (c.cut.ensures (looks_of c.args.looks.now.items) c.args.tasks.now c.requires)

pub returns-in-CutAll-clause-answered : goal.returns-in-CutAll-clause-answered
returns-in-CutAll-clause-answered g c = rw c.in-CutAll.is (c.cut_all.ensures (looks_of c.args.looks.now.items) c.args.tasks.now c.requires)

pub flush_step-requires : goal.flush_step-requires
flush_step-requires g c = (looks_of c.args.looks.now.items, c.requires)

pub returns-in-FlushStep-clause-answered : goal.returns-in-FlushStep-clause-answered
returns-in-FlushStep-clause-answered g c = rw c.in-FlushStep.is (c.flush_step.ensures c.args.looks.now.items c.requires)

pub compact_step-requires : goal.compact_step-requires
compact_step-requires g c = (looks_of c.args.looks.now.items, c.requires)

pub returns-in-CompactStep-clause-answered : goal.returns-in-CompactStep-clause-answered
returns-in-CompactStep-clause-answered g c = rw c.in-CompactStep.is (c.compact_step.ensures c.args.looks.now.items c.requires)

pub returns-in-Reclaim-clause-answered : goal.returns-in-Reclaim-clause-answered
returns-in-Reclaim-clause-answered g c = rw c.in-Reclaim.is (c.reclaim.ensures (looks_of c.args.looks.now.items) c.args.tasks.now c.requires)

pub returns-in-Look-clause-answered : goal.returns-in-Look-clause-answered
returns-in-Look-clause-answered g c = rw c.in-Look.is (c.take_look.ensures.answered c.args.tasks.now c.requires)

pub returns-in-Look-clause-stopped : goal.returns-in-Look-clause-stopped
returns-in-Look-clause-stopped g c = rw c.in-Look.is (c.take_look.ensures.stopped c.args.tasks.now c.requires)

pub read_page-requires : goal.read_page-requires
read_page-requires g c = (
  c.args.tasks.now,
  subst (λ (items : List (Option Look)). IsReady g.P.LookPort.meaning c.args.port.now (looks_of items) c.args.tasks.now) (sym c.as_slice.ensures.value) c.requires,
)

pub give_back-requires : goal.give_back-requires
give_back-requires g c = (c.args.tasks.now, c.requires)

pub returns-in-Done-clause-answered : goal.returns-in-Done-clause-answered
returns-in-Done-clause-answered g c = rw c.in-Done.is (c.give_back.ensures c.args.tasks.now c.requires)

pub returns-in-Page-clause-answered : goal.returns-in-Page-clause-answered
returns-in-Page-clause-answered g c = rw c.in-Page.is (
    subst (λ (items : List (Option Look)). IfOk c.read_page.result (λ reply. HasAnswered g.P.LookPort.meaning c.args.port.now (looks_of items) c.args.tasks.now
    (Page c.in-Page.look c.in-Page.block c.in-Page.page) reply c.read_page.new.port (looks_of items) c.args.tasks.now)) c.as_slice.ensures.value
    (c.read_page.ensures.answered c.args.tasks.now
    (subst (λ (items : List (Option Look)). IsReady g.P.LookPort.meaning c.args.port.now (looks_of items) c.args.tasks.now) (sym c.as_slice.ensures.value) c.requires)))

pub returns-in-Page-clause-stopped : goal.returns-in-Page-clause-stopped
returns-in-Page-clause-stopped g c = rw c.in-Page.is (
    subst (λ (items : List (Option Look)). OnErr c.read_page.result (MayHaveAnswered g.P.LookPort.meaning c.args.port.now (looks_of items) c.args.tasks.now
    (Page c.in-Page.look c.in-Page.block c.in-Page.page) c.read_page.new.port)) c.as_slice.ensures.value
    (c.read_page.ensures.stopped c.args.tasks.now
    (subst (λ (items : List (Option Look)). IsReady g.P.LookPort.meaning c.args.port.now (looks_of items) c.args.tasks.now) (sym c.as_slice.ensures.value) c.requires)))
