use Rattle.std.proofs.Common.{◌∙◌, ◌++◌, [], ◌∷◌, Ok, arith, inl, inr, length-append, refl, sym}
use Rattle.session_text.specs.declared.request.Request.TheVariants.{Compact}
use Rattle.trace_shell.proofs.DrillLemmas.{joined_push, made_holds, made_then}
use Rattle.trace_shell.proofs.drilling.compact_all.Goals as goal

pub rounds-init : goal.rounds-init
rounds-init g c =
    let once = c.compact_once-joins.ensures in record {
      made = ([], [], once.0, once.2, tt, refl, refl, once.1);
      holds = made_holds g.D.Device _ _ _ _ _ _ once.2 c.requires;
    }

pub rounds-preserved : goal.rounds-preserved
rounds-preserved g c =
    let so_far = c.rounds.invariant.made in
    let once = c.compact_once-joins-in-rounds.ensures in
    let sizes = so_far.5 in
    let count = so_far.6 in
    let is = sym so_far.7 ∙ c.if-not-joins.false in
    let items = length-append so_far.0 (Ok Compact ∷ []) in
    let replies = length-append so_far.1 (so_far.2 ∷ []) in record {
      made = (
        so_far.0 ++ Ok Compact ∷ [],
        so_far.1 ++ so_far.2 ∷ [],
        once.0,
        made_then g.D.Device _ _ _ _ _ _ _ _ _ _ so_far.3 once.2,
        joined_push so_far.0 so_far.1 so_far.2 so_far.5 so_far.4 is,
        omega (arith, sizes, items, replies),
        omega (arith, count, items),
        once.1,
      );
      holds = made_holds g.D.Device _ _ _ _ _ _ once.2 c.rounds.invariant.holds;
    }

pub returns-then-not-joins : goal.returns-then-not-joins
returns-then-not-joins g c =
    let so_far = c.rounds.invariant.made in
    (so_far.0, so_far.1, so_far.2, so_far.3, so_far.4, so_far.5, inl (sym so_far.7 ∙ c.if-not-joins.true))

pub returns : goal.returns
returns g c =
    let so_far = c.rounds.invariant.made in
    let count = so_far.6 in
    (so_far.0, so_far.1, so_far.2, so_far.3, so_far.4, so_far.5, inr (omega (arith, count, c.rounds-test.false, c.rounds.auto)))
