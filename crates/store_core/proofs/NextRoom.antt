-- The list that an edit makes, in the room that the begin of a job took.
use Rattle.std.proofs.Common.{◌≡◌, ℕ, ◌≤◌, length, None, Some, Option, arith}
use Rattle.block_list.specs.Body.{text_of}
use Rattle.block_list.specs.declared.body.ListBody.{ListBody}
use Rattle.block_list.proofs.BodyLemmas.{length-text}
use Rattle.store_state.specs.Edited.{Edit, IsEdited, one_of}
use Rattle.store_state.specs.Loose.{flush_part}
use Rattle.store_state.specs.declared.listing.FlushFiles.{FlushFiles}
use Rattle.store_state.proofs.Listings.{edited_lengths}
use Rattle.store_core.specs.Jobs.{FitsEdit}
use Rattle.store_core.specs.declared.room.CommitRoom.{CommitRoom}

pub one_at_most : {T : Type 0} (item : Option T) → length (one_of item) ≤ 1
one_at_most None = omega arith
one_at_most (Some x) = omega arith

pub two_at_most : (files : Option FlushFiles) → length (flush_part files) ≤ 2
two_at_most None = omega arith
two_at_most (Some x) = omega arith

-- its text fits
pub text_fits : (room : CommitRoom) (list : ListBody) (edit : Edit) (next : ListBody) (others : ℕ) → length edit.others ≡ others → FitsEdit room list (length edit.loose) others
    → IsEdited list edit next → length (text_of next) ≤ room.text.room
text_fits room list edit next others counted fits is =
    let lengths = edited_lengths list edit next is in
    let blocks = lengths.blocks in
    let segments = lengths.segments in
    let all = lengths.all in
    let block = one_at_most edit.block in
    let segment = one_at_most edit.segment in
    let some = fits.1 in
    let few = fits.2 in
    let size = fits.3.text in
    let text = length-text next in
    omega (arith, counted, blocks, segments, all, block, segment, some, few, size, text)
