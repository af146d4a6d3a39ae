use Rattle.std.proofs.Common.{ap, subst, ◌∙◌}
use Rattle.byte_fields.proofs.Results.{on_ok_more}
use Rattle.head_log.proofs.Promised.{run_sound}
use Rattle.head_log.proofs.groups.put_run.Goals as goal

pub returns-clause-sound : goal.returns-clause-sound
returns-clause-sound g c =
    let of = g.G.Origin.of in
    let first = subst g.G.Encode.promise (c.of.ensures ∙ ap of c.index-spans-0.is) c.in_ok-encode.ensures.sound in
    on_ok_more c.put_content.result _ _ c.put_content.ensures.sound (λ each.
    run_sound of g.G.Encode.promise (g.G.Group.content_promise c.args.extended) c.args.spans.now c.index-spans-0.result c.requires first each)
