use Rattle.std.proofs.Common.{◌∙◌, ◌+◌, Ok, ap, arith, subst, sym}
use Rattle.session_text.specs.declared.request.Request.TheVariants.{Cut, Flush}
use Rattle.session_meaning.specs.Asked.{IsNextMoment, after_moment}
use Rattle.session_meaning.specs.Serving.{AreCuts}
use Rattle.trace_shell.proofs.UpkeepLemmas.{after_two, cuts_more, put_both}
use Rattle.trace_shell.proofs.dealing.cut_and_flush.Goals as goal

pub loop-round-preserved : goal.loop-round-preserved
loop-round-preserved g c =
    let told = g.C.Clock.moments c.args.clock.now in
    let n = c.loop-round._round in
    let so_far = c.loop-round.invariant in
    let both = put_both c.loop-round.items.items c.put.new.items.items c.put-in-loop-round.new.items.items (Ok (Cut c.now-moment.result)) (Ok Flush) c.put.ensures.put c.put-in-loop-round.ensures.put in record {
      cuts = subst (AreCuts (n + 1) told) (sym both) (cuts_more n told c.loop-round.items.items c.now-moment.result so_far.cuts (subst (λ o. IsNextMoment o c.now-moment.result) so_far.clock c.now-moment.ensures.moment));
      clock = c.now-moment-in-loop-round.ensures.later ∙ ap after_moment c.now-moment.ensures.later ∙ after_two n told (g.C.Clock.moments c.loop-round.clock) so_far.clock;
      many = omega (arith, so_far.many, c.put.ensures.longer, c.put-in-loop-round.ensures.longer);
      room = omega (arith, so_far.room, c.put.ensures.room, c.put-in-loop-round.ensures.room);
    }
