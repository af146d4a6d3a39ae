use Rattle.session_text.specs.declared.request.Request.TheVariants.{Compact}
use Rattle.std.proofs.Common.{None, Some}
use Rattle.trace_shell.proofs.IngestLemmas.{asked_one, asked_so, leaves_compacted}
use Rattle.trace_shell.proofs.ingesting.compact_once.Goals as goal

pub returns-in-Some-clause-made : goal.returns-in-Some-clause-made
returns-in-Some-clause-made g c =
    let asked = c.answer_request-reply in (
      asked.result,
      asked_so g.D.Device _ _ _ _ _ _ _ _ c.write.result (Some c.in-Some.ending) c.in-Some.is
          (asked_one g.D.Device c.args.core.now asked.new.port Compact asked.result _ _ _ _ c.write.result asked.ensures c.write.ensures.given),
      tt,
      λ times later told some. leaves_compacted g.D.Device c.args.core.now asked.new.port asked.result times later told (Some c.in-Some.ending) some asked.ensures,
    )

pub returns-clause-made : goal.returns-clause-made
returns-clause-made g c =
    let asked = c.answer_request-reply in (
      asked.result,
      asked_so g.D.Device _ _ _ _ _ _ _ _ c.write.result None c.in-None.is
          (asked_one g.D.Device c.args.core.now asked.new.port Compact asked.result _ _ _ _ c.write.result asked.ensures c.write.ensures.given),
      c.is_joined.ensures,
      λ times later told some. leaves_compacted g.D.Device c.args.core.now asked.new.port asked.result times later told None some asked.ensures,
    )
