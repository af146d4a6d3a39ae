use Rattle.std.proofs.Common.{◌∙◌, ◌++◌, ◌∷◌, [], List, Ok, ap, arith, sym}
use Rattle.session_text.specs.declared.request.Request.TheVariants.{Compact, Reclaim}
use Rattle.session_text.specs.Items.{Item}
use Rattle.session_meaning.specs.Asked.{after_moment}
use Rattle.trace_shell.proofs.UpkeepLemmas.{after_two, compactions_more, put_both}
use Rattle.trace_shell.proofs.dealing.compact_and_reclaim.Goals as goal

pub loop-round-preserved : goal.loop-round-preserved
loop-round-preserved g c =
    let told = g.C.Clock.moments c.args.clock.now in
    let n = c.loop-round._round in
    let so_far = c.loop-round.invariant in
    let both = put_both c.loop-round.items.items c.put.new.items.items c.put-in-loop-round.new.items.items (Ok Compact) (Ok Reclaim) c.put.ensures.put c.put-in-loop-round.ensures.put in record {
      compactions = both ∙ ap (λ (xs : List Item). xs ++ Ok Compact ∷ Ok Reclaim ∷ []) so_far.compactions ∙ sym (compactions_more n);
      clock = c.now-moment-in-loop-round.ensures.later ∙ ap after_moment c.now-moment.ensures.later ∙ after_two n told (g.C.Clock.moments c.loop-round.clock) so_far.clock;
      many = omega (arith, so_far.many, c.put.ensures.longer, c.put-in-loop-round.ensures.longer);
      room = omega (arith, so_far.room, c.put.ensures.room, c.put-in-loop-round.ensures.room);
    }
