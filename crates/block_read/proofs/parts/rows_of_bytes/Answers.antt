use Rattle.std.proofs.Common.{◌≡◌, List, Result, Ok, sym, subst, ◌∙◌, ℕ}
use Rattle.span_types.specs.declared.spans.Row.{Row}
use Rattle.byte_fields.specs.Breaks.{Fails}
use Rattle.byte_fields.specs.declared.breaks.Break.{Break}
use Rattle.byte_fields.specs.declared.breaks.Break.TheVariants as breaks
use Rattle.block_read.proofs.parts.rows_of_bytes.Goals as goal

same_rows : (xs ys : List Row) → (let r : Result (List Row) ℕ = Ok xs in let q : Result (List Row) ℕ = Ok ys in r ≡ q) → xs ≡ ys
same_rows xs ys e = cc

never : (b : Break) (at : ℕ) (rows : List Row) → b ≡ breaks.At at → (let r : Result (List Row) ℕ = Ok rows in Fails b r) → ⊥
never breaks.Memory at rows is fails = cc
never (breaks.At place) at rows is fails = cc

pub returns-in-Ok-clause-answers : goal.returns-in-Ok-clause-answers
returns-in-Ok-clause-answers c = λ rows read. c.of.ensures ∙ same_rows c.in-Ok.rows.items rows (sym c.in-Ok.ensures ∙ read)

pub returns-in-Err-At-clause-answers : goal.returns-in-Err-At-clause-answers
returns-in-Err-At-clause-answers c = λ rows read.
    never c.in-Err-At.field-0 c.in-Err-At.at rows c.in-Err-At.field-0-is (subst (λ (r : Result (List Row) ℕ). Fails c.in-Err-At.field-0 r) read c.in-Err-At.ensures)
