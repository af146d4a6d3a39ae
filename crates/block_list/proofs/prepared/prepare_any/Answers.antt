use Rattle.std.proofs.Common.{◌≡◌, ◌+◌, ℕ, List, length, ◌∙◌, ap, arith, length-append}
use Rattle.block_list.specs.Body.{text_of}
use Rattle.block_list.proofs.BodyLemmas.{length-text}
use Rattle.block_list.proofs.prepared.prepare_any.Goals as goal

pub returns-clause-short : goal.returns-clause-short
returns-clause-short c =
    let text : List ℕ = text_of c.args.body.now in
    let all = ap (λ (l : List ℕ). length l) c.fill.ensures.text ∙ length-append c.in_ok-text.text.items text in
    let none = ap (λ (l : List ℕ). length l) c.in_ok-text.ensures.items in
    let size = length-text c.args.body.now in
    omega (arith, all, none, size, c.len-segments.ensures, c.len-blocks.ensures, c.len-loose.ensures, c.if-segments-gt-MOST_ENTRIES.false, c.if-blocks-gt-MOST_ENTRIES.false, c.if-loose-gt-MOST_ENTRIES.false)
