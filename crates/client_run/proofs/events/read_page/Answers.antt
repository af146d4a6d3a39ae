use Rattle.std.proofs.Common.{ℕ, List, Err, Ok, sym, subst}
use Rattle.std.proofs.lemmas.Result.{err_from_is_err_and}
use Rattle.store_model.specs.Event.{Event as event, Reply as reply}
use Rattle.store_state.specs.Meaning.{Called}
use Rattle.client_run.specs.Taken.{looks_of}
use Rattle.client_run.proofs.EventLemmas.{has_paged, is_pinned, no_page, paged_untold}
use Rattle.client_run.proofs.events.read_page.Goals as goal

pub returns-in_default-clause-answered : goal.returns-in_default-clause-answered
returns-in_default-clause-answered g c = λ flush ready.
    no_page g.P.LookPort.meaning c.args.port.now c.args.number c.args.block c.args.page (looks_of c.args.looks.now) c.in_default.ensures.none flush ready

pub read_page-requires : goal.read_page-requires
read_page-requires g c = record {
  «open» = is_pinned g.P.LookPort.meaning c.args.port.now c.args.number c.args.block c.in-Some.look.now (looks_of c.args.looks.now)
      c.in-Some.ensures.open c.in-Some.ensures.named c.requires.1.open_looks;
}

pub returns-in_err-page_bytes-in-Ok-clause-stopped : goal.returns-in_err-page_bytes-in-Ok-clause-stopped
returns-in_err-page_bytes-in-Ok-clause-stopped g c = λ flush ready.
    let p = err_from_is_err_and c.from_residual.result c.from_residual.ensures.1 in
    rw p.1 (paged_untold g.P.LookPort.meaning c.args.port.now c.read_page.new.self c.args.number c.args.block c.args.page c.in-Some.look.now (looks_of c.args.looks.now)
    c.read_page.new.buf c.in-Some.ensures.open c.in-Some.ensures.named c.in-Ok.ensures.called flush ready)

pub returns-in_ok-page_bytes-in-Ok-clause-answered : goal.returns-in_ok-page_bytes-in-Ok-clause-answered
returns-in_ok-page_bytes-in-Ok-clause-answered g c = λ flush ready.
    has_paged g.P.LookPort.meaning c.args.port.now c.read_page.new.self c.args.number c.args.block c.args.page c.in-Some.look.now (looks_of c.args.looks.now)
    (Ok c.in_ok-page_bytes-in-Ok.field-0) c.in-Some.ensures.open c.in-Some.ensures.named
    (subst (λ (bytes : List ℕ). Called g.P.LookPort.meaning c.args.port.now (event.ReadPage c.in-Some.look.now.pin.number c.args.block c.args.page) (reply.Page bytes) c.read_page.new.self)
    (sym c.in_ok-page_bytes-in-Ok.ensures) c.in-Ok.ensures.called)
    flush ready

pub returns-in-Err-clause-answered : goal.returns-in-Err-clause-answered
returns-in-Err-clause-answered g c = λ flush ready.
    has_paged g.P.LookPort.meaning c.args.port.now c.read_page.new.self c.args.number c.args.block c.args.page c.in-Some.look.now (looks_of c.args.looks.now)
    (Err c.in-Err.error) c.in-Some.ensures.open c.in-Some.ensures.named c.in-Err.ensures.called flush ready
