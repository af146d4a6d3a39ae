-- The disk of a store that writes: all that its list names has one image, and the last segment is known as it is written on.
use Rattle.std.specs.Prelude.{◌≡◌, ℕ, ◌+◌, List, [], ◌∷◌, ◌++◌, length, Some}
use Rattle.std.specs.List.{Contains}
use Rattle.span_types.specs.declared.spans.Span.{Span}
use Rattle.disk_model.specs.Images.{Image, bytes_of}
use Rattle.disk_model.specs.Crash.{OnlyBytes}
use Rattle.head_log.specs.Stands.{SegmentHolds}
use Rattle.block_list.specs.Loading.{IsReady}
use Rattle.block_list.specs.declared.body.SegmentRef.{SegmentRef}
use Rattle.block_list.specs.declared.body.ListBody.{ListBody}
use Rattle.store_model.specs.History.{History, count_of}
use Rattle.store_model.specs.Laws.{AgreesOn}
use Rattle.store_model.specs.State.{Block}
use Rattle.store_images.specs.Log.{LogHolds}
use Rattle.store_images.specs.Stored.{StoreHolds, stored_rows, first_number}

-- the last segment of a log: its file, the number of its first record, how many records it has, and where the next one begins
pub record Tail : Type 0 where
  pub file : ℕ
  pub first : ℕ
  pub count : ℕ
  pub gate : ℕ

-- The tail is the last segment of the list, which stands for the second batches; the segments before it stand for the first.
pub record IsTail (image : Image) (body : ListBody) (tail : Tail) (before mine : List (List Span)) : Type 0 where
  pub front : List SegmentRef
  pub last : body.segments ≡ front ++ record { file = tail.file; first = tail.first } ∷ []
  pub earlier : LogHolds image front (first_number body) before
  pub current : SegmentHolds tail.first mine tail.gate (bytes_of image tail.file)
  pub counted : length mine ≡ tail.count
  pub follows : tail.first ≡ first_number body + length before

-- The slots, and each segment and each block of the list, have one image, which is what a read gives.
pub record ListLies (held : Image) (may_leave : Image → Type 0) (body : ListBody) (blocks : List Block) : Type 0 where
  pub ready : IsReady held may_leave (Some body)
  pub segments : (x : SegmentRef) → Contains body.segments x → OnlyBytes x.file (bytes_of held x.file) may_leave
  pub built : (b : Block) → Contains blocks b → OnlyBytes b.file (bytes_of held b.file) may_leave

-- What the disk holds stands for the history, by this list, these blocks and this tail, and a crash can leave nothing else of it.
pub record IsSettled (held : Image) (may_leave : Image → Type 0) (body : ListBody) (blocks : List Block) (tail : Tail) (h : History) : Type 0 where
  pub before : List (List Span)
  pub mine : List (List Span)
  pub holds : StoreHolds held body blocks (before ++ mine)
  pub written : IsTail held body tail before mine
  pub lies : ListLies held may_leave body blocks
  pub agrees : AgreesOn (stored_rows blocks (first_number body) (before ++ mine)) h
  pub counts : count_of h ≡ tail.first + tail.count
