-- Jobs that are open at once have files of their own.
use Rattle.std.specs.Prelude.{◌≡◌, false, ◌∷◌}
use Rattle.store_model.specs.Event.{FlushParts, CompactParts}
use Rattle.store_model.specs.Holds.Hold.{OpenCompact, OpenFlush}
use Rattle.store_model.specs.State.{is_among}
use Rattle.store_state.specs.Meaning.{Meaning, IsOpen}

-- The file of an open flush is no file of an open compaction: neither its own, nor that of a block that it joins.
abbrev pub HaveOwnFiles : {P : Type 0} → Meaning P → P → Type 0
HaveOwnFiles meaning port =
    (flush : FlushParts) (compaction : CompactParts) → IsOpen meaning port (OpenFlush flush)
    → IsOpen meaning port (OpenCompact compaction) → is_among flush.file (compaction.file ∷ compaction.files) ≡ false
