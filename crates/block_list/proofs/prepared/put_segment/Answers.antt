use Rattle.std.proofs.Common.{◌++◌, List, ℕ, ◌∙◌, ap}
use Rattle.byte_fields.specs.Spelling.{fixed64_bytes}
use Rattle.block_list.proofs.BodyLemmas.{segment_fields}
use Rattle.block_list.proofs.prepared.put_segment.Goals as goal

pub returns-clause-text : goal.returns-clause-text
returns-clause-text c =
    c.put64.ensures.text
    ∙ ap (λ (l : List ℕ). l ++ fixed64_bytes c.args.segment.now.first) c.put32.ensures.text
    ∙ segment_fields c.args.text.now.items c.args.segment.now
