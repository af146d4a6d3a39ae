use Rattle.std.proofs.Common.{ℕ, List, false, ap, ◌∙◌}
use Rattle.byte_fields.specs.Reading.{Stand, fixed64_at}
use Rattle.block_stripes.proofs.ReadSteps.{eight_of}
use Rattle.column_scan.proofs.TextSteps.{content_there, in_some_part}
use Rattle.column_scan.proofs.texts.content.Goals as goal

pub front-requires : goal.front-requires
front-requires c = eight_of c.args.bytes.now c.new-reader.result _ c.new-reader.ensures (in_some_part false fixed64_at c.new-reader.result _ c.in-Ok.ensures.reads)

pub returns-in-Ok : goal.returns-in-Ok
returns-in-Ok c =
    content_there c.args.bytes.now c.new-reader.result _ c.starting_at.result c.in-Ok.size c.new-reader.ensures c.in-Ok.ensures.reads
    (c.starting_at.ensures ∙ ap (λ (l : List ℕ). (let s : Stand = record { whole = l; at = 8 } in s)) c.front.ensures.part)
