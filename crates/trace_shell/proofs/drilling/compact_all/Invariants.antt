-- So far each compaction but the last joined blocks, and the last one says whether it did.
use Rattle.std.proofs.Common.{◌≡◌, ◌+◌, ◌++◌, [], ◌∷◌, List, Ok, length}
use Rattle.session_meaning.specs.Ingest.{AreJoined, is_joined}
use Rattle.session_text.specs.declared.reply.Reply.{Reply}
use Rattle.session_text.specs.declared.request.Request.TheVariants.{Compact}
use Rattle.session_text.specs.Items.{Item}
use Rattle.store_core.specs.Port.{port_of}
use Rattle.store_model.specs.Holds.{Hold}
use Rattle.trace_shell.specs.Drilling.{HasMade}
use Rattle.trace_shell.proofs.drilling.compact_all.Given as goal

abbrev pub invariant-rounds : goal.invariant-rounds
invariant-rounds g l = record {
  made : (compactions : List Item) × (joined : List Reply) × (last : Reply)
      × HasMade g.D.Device l.fn.core l.core l.fn.counts l.counts (compactions ++ Ok Compact ∷ []) (joined ++ last ∷ [])
      × AreJoined compactions joined × (length joined ≡ length compactions) × (length compactions + 1 ≡ l.counter)
      × (l.joins ≡ is_joined last);
  holds : (held : List Hold) × (port_of g.D.Device).holds l.core held;
}
