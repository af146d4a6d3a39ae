use Rattle.span_types.specs.EqualLaws.{resource_decides, scope_decides}
use Rattle.span_types.proofs.laws.equal_where_same.Goals as goal

pub returns-clause-resources : goal.returns-clause-resources
returns-clause-resources c = resource_decides

pub returns-clause-scopes : goal.returns-clause-scopes
returns-clause-scopes c = scope_decides
