use Rattle.session_text.proofs.PartLemmas.{behind-stripped}
use Rattle.session_text.proofs.options.behind.Goals as goal

pub returns : goal.returns
returns c = behind-stripped c.args.name.now c.args.text.now c.strip_prefix.result c.strip_prefix.ensures.cases
