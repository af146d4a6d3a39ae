use Rattle.std.proofs.Common.{◌≡◌, ◌∙◌, ◌++◌, ◌∷◌, [], List, Vec, ap, arith, length, sym}
use Rattle.std.proofs.lemmas.List.{nil_from_length}
use Rattle.std.specs.declared.alloc.Global.{Global}
use Rattle.session_text.specs.Items.{Item}
use Rattle.session_meaning.specs.Serving.{compactions}
use Rattle.trace_shell.specs.Dealing.{scripts_in}
use Rattle.trace_shell.proofs.DealingLemmas.{moved_all, moved_one}
use Rattle.trace_shell.proofs.UpkeepLemmas.{after_both}
use Rattle.trace_shell.proofs.dealing.with_upkeep.Goals as goal

pub loop-script-preserved : goal.loop-script-preserved
loop-script-preserved g c =
    let rest = c.in-Some.ensures.steps.0 in record {
      moved = moved_one c.args.scripts.items c.loop-script.all.items c.add.new.all.items c.in-Some.script c.loop-script.script-iterator.rest.items c.next.new.self.rest.items c.loop-script.invariant.moved rest c.add.ensures.added;
      room = omega (arith, c.loop-script.invariant.room, ap length rest, c.add.ensures.longer, c.add.ensures.room);
    }

pub returns-clause-all : goal.returns-clause-all
returns-clause-all g c =
    let rest = c.loop-script.script-iterator.rest.items in
    let none : rest ≡ [] = nil_from_length rest (sym c.loop-script.script-iterator.rest.ok.0 ∙ c.in-None.ensures.steps.0) in
    let moved = c.loop-script.invariant.moved ∙ ap (λ (r : List (Vec Item Global)). c.loop-script.all.items ++ scripts_in r) none in
    let joins = c.add-3.ensures.added ∙ ap (λ (items : List Item). c.add-2.new.all.items ++ items ∷ []) c.compact_and_reclaim.ensures.compactions in (
      c.cut_and_flush.new.items.items,
      c.cut_and_flush.ensures.cuts,
      moved_all (scripts_in c.args.scripts.items) c.loop-script.all.items c.add-2.new.all.items c.add-3.new.all.items c.cut_and_flush.new.items.items (compactions c.args.rounds) moved c.add-2.ensures.added joins,
    )

pub returns-clause-clock : goal.returns-clause-clock
returns-clause-clock g c = after_both c.args.rounds (g.C.Clock.moments c.args.clock.now) (g.C.Clock.moments c.cut_and_flush.new.clock) (g.C.Clock.moments c.compact_and_reclaim.new.clock) c.cut_and_flush.ensures.clock c.compact_and_reclaim.ensures.clock
