use Rattle.std.proofs.Common.{rules, ap, refl, subst, sym, ◌∙◌}
use Rattle.std.proofs.lemmas.List.Elements.{All-push}
use Rattle.column_scan.specs.Candidates.{Ascend}
use Rattle.query_fanout.specs.Rounds.{AreInBatches, all_waiting, waiting}
use Rattle.query_fanout.proofs.WaitLaws.{one_more_waits}
use Rattle.query_fanout.proofs.rounds.with_found.Goals as goal

pub returns : goal.returns
returns c =
    let old = c.args.rounds.waits.items in
    let batch = c.in_ok-batch.batch in record {
      scans = search (rules);
      batches = subst AreInBatches (sym c.in_ok-push.ensures.items) (All-push (λ b. Ascend b.picks.items) old batch c.requires.well c.in_ok-batch.ensures.ascend);
      batch = waiting batch;
      waits = ap all_waiting c.in_ok-push.ensures.items ∙ one_more_waits old batch;
      is = record { whole = c.in_ok-batch.ensures.whole; only = c.in_ok-batch.ensures.only; above = c.in_ok-batch.ensures.above };
      gone = refl;
      best = refl;
    }
