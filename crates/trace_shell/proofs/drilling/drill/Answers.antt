use Rattle.std.proofs.Common.{[], ◌∷◌, ◌++◌, ap, inl, inr, List, Ok, append_assoc, refl, subst}
use Rattle.session_text.specs.declared.request.Request.TheVariants.{Compact, Reclaim}
use Rattle.session_text.specs.Items.{Item}
use Rattle.traceql_types.proofs.Calls.{refuses-none}
use Rattle.trace_shell.specs.Drilling.{CountsOn, found_replies}
use Rattle.trace_shell.specs.declared.drilling.Counts.{Counts}
use Rattle.trace_shell.proofs.DrillLemmas.{found_last, made_holds, made_then, told_ends}
use Rattle.trace_shell.proofs.drilling.drill.Goals as goal

pub compact_all-requires-after_bounds : goal.compact_all-requires-after_bounds
compact_all-requires-after_bounds g c = λ κs outlives. made_holds g.D.Device _ _ _ _ _ _ c.in-Ok.ensures.2 c.requires

pub ask-emptied-requires-after_bounds : goal.ask-emptied-requires-after_bounds
ask-emptied-requires-after_bounds g c = λ κs outlives.
    made_holds g.D.Device _ _ _ _ _ _ c.compact_all.ensures.3 (made_holds g.D.Device _ _ _ _ _ _ c.in-Ok.ensures.2 c.requires)

pub search_all-found-requires-after_bounds : goal.search_all-found-requires-after_bounds
search_all-found-requires-after_bounds g c = λ κs outlives.
    made_holds g.D.Device _ _ _ _ _ _ c.ask-emptied.ensures
    (made_holds g.D.Device _ _ _ _ _ _ c.compact_all.ensures.3 (made_holds g.D.Device _ _ _ _ _ _ c.in-Ok.ensures.2 c.requires))

pub returns-in_default-clause-ran : goal.returns-in_default-clause-ran
returns-in_default-clause-ran g c =
    let pushed = c.in_default.ensures in (
      pushed.0,
      pushed.1,
      [],
      refuses-none g.P.PatternMaker.makes _ c.args.patterns.now c.args.patterns.now,
      pushed.2.answered,
      inr (record { count = pushed.3.0; fewer = pushed.3.1; are_made = pushed.3.2; none = refl }, refl, refl),
    )

pub returns-clause-ran : goal.returns-clause-ran
returns-clause-ran g c =
    let pushed = c.in-Ok.ensures in
    let compacted = c.compact_all.ensures in
    let searched = c.search_all-found.ensures in
    let found = found_replies c.search_all-found.result in
    let emptied = c.ask-emptied.result in
    let rest = made_then g.D.Device _ _ _ _ _ _ (compacted.0 ++ Ok Compact ∷ []) (Ok Reclaim ∷ searched.0) (compacted.1 ++ compacted.2 ∷ []) (emptied ∷ found) compacted.3
    (made_then g.D.Device _ _ _ _ _ _ (Ok Reclaim ∷ []) searched.0 (emptied ∷ []) found c.ask-emptied.ensures searched.3) in
    let whole = made_then g.D.Device _ _ _ _ _ _ pushed.0 ((compacted.0 ++ Ok Compact ∷ []) ++ Ok Reclaim ∷ searched.0) pushed.1 ((compacted.1 ++ compacted.2 ∷ []) ++ emptied ∷ found) pushed.2 rest in
    let counted = subst (λ (n : Counts). CountsOn n c.search_all-found.new.counts (pushed.1 ++ ((compacted.1 ++ compacted.2 ∷ []) ++ emptied ∷ found))) c.new-counts.ensures whole.counted in (
      pushed.0 ++ ((compacted.0 ++ Ok Compact ∷ []) ++ Ok Reclaim ∷ searched.0),
      pushed.1 ++ ((compacted.1 ++ compacted.2 ∷ []) ++ emptied ∷ found),
      searched.1,
      searched.2,
      whole.answered,
      inl (
        record {
          pushes = pushed.0;
          pushed = pushed.1;
          compactions = compacted.0;
          joined = compacted.1;
          last = compacted.2;
          emptied = emptied;
          searches = searched.0;
          found = found;
          between = _;
          items_are = ap (λ (is : List Item). pushed.0 ++ is) (append_assoc compacted.0 (Ok Compact ∷ []) (Ok Reclaim ∷ searched.0));
          replies_are = ap (λ rs. pushed.1 ++ rs) (append_assoc compacted.1 (compacted.2 ∷ []) (emptied ∷ found));
          are_made = pushed.3;
          are_pushed = pushed.2.as_many;
          are_joined = compacted.4;
          as_many = compacted.5;
          to_the_end = compacted.6;
          are_asked = searched.4;
          three = refl;
          clock = searched.5;
        },
        told_ends c.tell.result (pushed.1 ++ ((compacted.1 ++ compacted.2 ∷ []) ++ emptied ∷ found)) (pushed.1 ++ ((compacted.1 ++ compacted.2 ∷ []) ++ emptied ∷ [])) found
            c.search_all-found.new.counts _ _ counted (found_last pushed.1 (compacted.1 ++ compacted.2 ∷ []) emptied found) refl c.tell.ensures.told,
      ),
    )
