use Rattle.search_answer.proofs.RankLaws.{first_joined}
use Rattle.search_answer.proofs.laws.first_of_parts.Goals as goal

pub returns : goal.returns
returns c = first_joined
