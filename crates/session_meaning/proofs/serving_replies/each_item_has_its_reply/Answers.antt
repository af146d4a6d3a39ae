use Rattle.session_meaning.proofs.ServedWhole.{each_replied}
use Rattle.session_meaning.proofs.serving_replies.each_item_has_its_reply.Goals as goal

pub returns : goal.returns
returns c = each_replied
