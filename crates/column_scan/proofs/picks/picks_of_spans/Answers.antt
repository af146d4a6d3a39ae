use Rattle.std.proofs.Common.{arith, map, ◌++◌, [], ◌∷◌, subst, ◌∙◌}
use Rattle.std.proofs.lemmas.List.{take_all}
use Rattle.column_scan.specs.Candidates.{HaveLatest}
use Rattle.column_scan.specs.Sieves.{sifted_picks}
use Rattle.column_scan.proofs.Latest.{of_latest, sifted_step}
use Rattle.column_scan.proofs.picks.picks_of_spans.Goals as goal

pub loop-span-preserved : goal.loop-span-preserved
loop-span-preserved c = record {
  same = c.in_ok-add_sifted.ensures.same ∙ c.loop-span.invariant.same;
  found =
      sifted_step (λ s. s.now) c.args.sieve.now c.loop-span.sifter c.args.spans.now [] c.loop-span.picks.items c.add_sifted.new.picks.items c.loop-span.span-index _
      c.loop-span.invariant.same (omega arith) c.loop-span.invariant.found
      (subst (λ s. HaveLatest (c.loop-span.picks.items ++ sifted_picks c.loop-span.sifter (s.now ∷ [])) c.add_sifted.new.picks.items) c.span-item.is c.in_ok-add_sifted.ensures.found);
}

pub returns : goal.returns
returns c =
    let spans = map (λ s. s.now) c.args.spans.now in
    let whole : HaveLatest (sifted_picks c.args.sieve.now spans) c.loop-span.picks.items =
    subst (λ l. HaveLatest (sifted_picks c.args.sieve.now (map (λ s. s.now) l)) c.loop-span.picks.items) (take_all c.loop-span.span-index c.args.spans.now (omega arith)) c.loop-span.invariant.found in
    record {
      latest = of_latest (sifted_picks c.args.sieve.now spans) c.loop-span.picks.items c.in_ok-all.all.items whole c.in_ok-all.ensures.latest;
      ascending = c.in_ok-all.ensures.ascending;
    }
