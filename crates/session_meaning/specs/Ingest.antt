-- What an ingest asks. It is a session whose lines are each `push`, one space and a line of the source, and that is asked besides to
-- keep the store small in between, and at the end to move all rows into blocks, to join these, and to empty loose files.
use Rattle.std.specs.Prelude.{◌≡◌, ◌⊎◌, ⊤, ℕ, ◌<◌, ◌≤◌, Bool, true, false, List, [], ◌∷◌, ◌++◌, Option, Ok}
use Rattle.session_text.specs.declared.reply.Reply.{Reply}
use Rattle.session_text.specs.declared.reply.Reply.TheVariants.{Compacted}
use Rattle.session_text.specs.declared.request.Request.{Request}
use Rattle.session_text.specs.declared.request.Request.TheVariants.{Compact, CutAll, Flush, Reclaim}
use Rattle.session_text.specs.Items.{Item}
use Rattle.session_text.specs.Requests.{AsksPush}
use Rattle.store_model.specs.State.{held_of}
use Rattle.session_meaning.specs.Asked.{IsNextMoment, after_moment}
use Rattle.session_meaning.specs.At.{At}
use Rattle.session_meaning.specs.Session.{IsAnsweredOrRefused}

-- So many rows outside of blocks are many.
abbrev pub many_rows : ℕ
many_rows = 131072

abbrev pub is_joined : Reply → Bool
is_joined (Compacted blocks rows) = true
is_joined _ = false

-- ---- parts of an ingest

-- Where an ingest stands: the store, and the moments that the clock has to tell.
pub record Stand : Type 0 where
  pub store : At
  pub moments : Option (List ℕ)

-- A part of an ingest is told to its end, or as far as the run came in it: which may be its end too.
pub data Far : Type 0 where
  whole : Far
  so_far : Far

-- A part: what it asks and is answered, from where it begins to where it comes, and how far that is.
abbrev pub Part : Type 1
Part = Stand → List Item → List Reply → Stand → Far → Type 0

-- nothing is asked
abbrev pub AsksNothing : Stand → List Item → List Reply → Stand → Type 0
AsksNothing before items replies after = (items ≡ []) × (replies ≡ []) × (after ≡ before)

-- One part after the other; or the run stopped in the first.
abbrev pub Then : Part → Part → Stand → List Item → List Reply → Stand → Far → Type 0
Then first next before items replies after far =
    (first before items replies after so_far × (far ≡ so_far))
    ⊎ ((between : Stand) × (xs ys : List Item) × (rs ss : List Reply) × (items ≡ xs ++ ys) × (replies ≡ rs ++ ss)
    × first before xs rs between whole × next between ys ss after far)

-- This is asked, and answered; or the run stopped before it.
abbrev pub Asks : Bool → Request → Stand → List Item → List Reply → Stand → Far → Type 0
Asks told request before items replies after far =
    (AsksNothing before items replies after × (far ≡ so_far))
    ⊎ ((reply : Reply) × (items ≡ Ok request ∷ []) × (replies ≡ reply ∷ [])
    × IsAnsweredOrRefused told (Ok request) before.store reply after.store × (after.moments ≡ before.moments))

-- ---- the lines

-- The push of a line is asked, read at the clock's next moment, and answered; or the run stopped before it.
abbrev pub AsksLine : Bool → List ℕ → Stand → List Item → List Reply → Stand → Far → Type 0
AsksLine told line before items replies after far =
    (AsksNothing before items replies after × (far ≡ so_far))
    ⊎ ((moment : ℕ) × (item : Item) × (reply : Reply) × IsNextMoment before.moments moment × AsksPush moment line item
    × (items ≡ item ∷ []) × (replies ≡ reply ∷ [])
    × IsAnsweredOrRefused told item before.store reply after.store × (after.moments ≡ after_moment before.moments))

-- The store is kept small: where it holds many rows they are cut and flushed.
abbrev pub KeptSmall : Bool → Stand → List Item → List Reply → Stand → Far → Type 0
KeptSmall told before items replies after far =
    ((held_of before.store.machine.state < many_rows) × AsksNothing before items replies after)
    ⊎ ((many_rows ≤ held_of before.store.machine.state) × Then (Asks told CutAll) (Asks told Flush) before items replies after far)

-- Each line is pushed, but for those without bytes, and the store is kept small after it, also where the push was refused.
abbrev pub LinesPushed : Bool → List (List ℕ) → Stand → List Item → List Reply → Stand → Far → Type 0
LinesPushed told [] before items replies after far = AsksNothing before items replies after
LinesPushed told ([] ∷ lines) before items replies after far = LinesPushed told lines before items replies after far
LinesPushed told ((b ∷ bs) ∷ lines) before items replies after far =
    Then (Then (AsksLine told (b ∷ bs)) (KeptSmall told)) (LinesPushed told lines) before items replies after far

-- ---- the end

-- Compactions, until one joins no blocks; or the run stopped before that.
abbrev pub Compacts : Bool → Stand → List Item → List Reply → Stand → Far → Type 0
Compacts told before [] replies after far = (replies ≡ []) × (after ≡ before) × (far ≡ so_far)
Compacts told before (item ∷ items) [] after far = ⊥
Compacts told before (item ∷ items) (reply ∷ replies) after far =
    (item ≡ Ok Compact) × (between : Stand) × IsAnsweredOrRefused told item before.store reply between.store
    × (between.moments ≡ before.moments)
    × (((is_joined reply ≡ true) × Compacts told between items replies after far)
    ⊎ ((is_joined reply ≡ false) × AsksNothing between items replies after))

-- All rows are cut and flushed, blocks are joined as long as some are, and loose files are emptied.
abbrev pub AtTheEnd : Bool → Stand → List Item → List Reply → Stand → Far → Type 0
AtTheEnd told = Then (Asks told CutAll) (Then (Asks told Flush) (Then (Compacts told) (Asks told Reclaim)))

-- ---- an ingest

-- The store is kept small and the lines are pushed, and nothing is done for the end.
abbrev pub Pushes : Bool → List (List ℕ) → Stand → List Item → List Reply → Stand → Type 0
Pushes told lines before items replies after = Then (KeptSmall told) (LinesPushed told lines) before items replies after whole

-- An ingest of these lines, to its end or as far as it came.
abbrev pub Ingests : Bool → List (List ℕ) → Stand → List Item → List Reply → Stand → Far → Type 0
Ingests told lines = Then (KeptSmall told) (Then (LinesPushed told lines) (AtTheEnd told))

-- ---- what it asked last

-- Compactions, each of which joined blocks.
abbrev pub AreJoined : List Item → List Reply → Type 0
AreJoined [] replies = ⊤
AreJoined (item ∷ items) [] = ⊥
AreJoined (item ∷ items) (reply ∷ replies) = (item ≡ Ok Compact) × (is_joined reply ≡ true) × AreJoined items replies

-- What an ingest that did all asked last: to cut all rows and to flush them; to compact, until a compaction joined no blocks; and to
-- empty loose files.
pub record HasFinished (items : List Item) (replies : List Reply) : Type 0 where
  pub earlier : List Item
  pub told_earlier : List Reply
  pub compactions : List Item
  pub joined : List Reply
  pub cut : Reply
  pub flushed : Reply
  pub last : Reply
  pub emptied : Reply
  pub asked : items ≡ earlier ++ Ok CutAll ∷ Ok Flush ∷ (compactions ++ Ok Compact ∷ Ok Reclaim ∷ [])
  pub told : replies ≡ told_earlier ++ cut ∷ flushed ∷ (joined ++ last ∷ emptied ∷ [])
  pub are_joined : AreJoined compactions joined
  pub not_joined : is_joined last ≡ false
