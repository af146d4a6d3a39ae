use Rattle.std.proofs.Common.{subst}
use Rattle.byte_fields.specs.Reading.{Stand}
use Rattle.byte_fields.proofs.TextLaws.{StrAnswer, str_answer}
use Rattle.byte_fields.proofs.reader.Reader.text_str.Goals as goal
use Rattle.byte_fields.proofs.reader.Reader.text_str.Goals.{After-text_str}

answer : (c : After-text_str) → StrAnswer (λ t. t.now) c.text_str.result c.args.self.now c.text_str.new.self
answer c = subst (λ (s : Stand). StrAnswer (λ t. t.now) c.text_str.result s c.text_str.new.self) c.self.view_is (str_answer (λ t. t.now) c.text_str.result _ c.text_str.new.self c.text_str.ensures.within c.text_str.ensures.reads)

pub returns-clause-value : goal.returns-clause-value
returns-clause-value c = (answer c).any.value

pub returns-clause-short : goal.returns-clause-short
returns-clause-short c = (answer c).any.short

pub returns-clause-not_shortest : goal.returns-clause-not_shortest
returns-clause-not_shortest c = (answer c).any.not_shortest

pub returns-clause-not_text : goal.returns-clause-not_text
returns-clause-not_text c = (answer c).any.not_text

pub returns-clause-only : goal.returns-clause-only
returns-clause-only c = (answer c).only

pub returns-clause-errors : goal.returns-clause-errors
returns-clause-errors c = (answer c).errors
