use Rattle.std.proofs.Common.{◌++◌, [], ◌∷◌, List, ℕ, ◌∙◌, ap}
use Rattle.byte_fields.specs.Spelling.{fixed32_bytes}
use Rattle.block_list.proofs.BodyLemmas.{block_fields}
use Rattle.block_list.proofs.prepared.put_block.Goals as goal

pub returns-clause-text : goal.returns-clause-text
returns-clause-text c =
    c.put32-2.ensures.text
    ∙ ap (λ (l : List ℕ). l ++ fixed32_bytes c.args.block.now.rows) c.put.ensures.text
    ∙ ap (λ (l : List ℕ). (l ++ c.args.block.now.level ∷ []) ++ fixed32_bytes c.args.block.now.rows) c.put32.ensures.text
    ∙ block_fields c.args.text.now.items c.args.block.now
