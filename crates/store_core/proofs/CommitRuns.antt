-- What a crash leaves at any moment of a commit: of the sync of its block, and of the writing of the list.
use Rattle.std.proofs.Common.{◌≡◌, ℕ, ◌+◌, ◌<◌, length, Option, Some, IsTrue, sym, subst, arith, Result, IsOk, ◌^◌}
use Rattle.span_types.specs.declared.errors.Failed.{Failed}
use Rattle.disk_model.specs.Images.{Image, bytes_of, SameBytes, Besides}
use Rattle.disk_model.specs.Calls.{Calls}
use Rattle.disk_model.specs.Counts.{Plain, IsOneCall}
use Rattle.disk_model.specs.Crash.{OnlyBytes, Within, Reached, Elapses, LeavesOnly, Run}
use Rattle.disk_model.specs.declared.disk.Device.{Ghosts}
use Rattle.disk_model.proofs.Moments.{joined, widened, still}
use Rattle.disk_model.proofs.CallRuns.{passes_once, plain_calls}
use Rattle.block_list.specs.Body.{successor}
use Rattle.block_list.specs.Commit.{CanLay, ImageHoldsEither, IsListText, WritesSlot, slot_of}
use Rattle.block_list.specs.ListText.{ListText}
use Rattle.block_list.specs.Slots.{ImageHoldsList, IsNext}
use Rattle.block_list.proofs.ReadyLemmas.{can_lay}
use Rattle.block_list.specs.Loading.{IsReady}
use Rattle.block_list.specs.declared.body.ListBody.{ListBody}
use Rattle.store_model.specs.History.{History}
use Rattle.store_images.specs.Stored.{ImageStandsFor, IsTidy}
use Rattle.store_files.proofs.LooseFiles.{text_short}
use Rattle.store_core.proofs.PushEvents.{OnlyNow}

-- what the sync of the block tells
pub record Synced {D : Type 0} (g : Ghosts D) (old mid : D) (file : ℕ) : Type 0 where
  pub telling : g.tells mid ≡ g.tells old
  pub same : IsTrue (g.tells old) → SameBytes (g.held old) (g.held mid)
  pub crash : Within (g.may_leave old) (g.may_leave mid)
  pub time : Elapses (g.moment old) (g.moment mid) (g.left_since old) (g.left_since mid) (g.may_leave mid)
  pub lasting : IsTrue (g.tells old) → OnlyBytes file (bytes_of (g.held mid) file) (g.may_leave mid)
  pub result : Result (Unit {0}) Failed
  pub fine : IsOk result
  pub made : Calls g 1 0 old mid result

pub synced_by : {D : Type 0} (g : Ghosts D) (old mid : D) (file : ℕ) (result : Result (Unit {0}) Failed) → IsOk result → IsOneCall g.tells g.faults g.calls g.reads g.far_writes Plain old mid result
    → (IsTrue (g.tells old) → SameBytes (g.held old) (g.held mid)) → Within (g.may_leave old) (g.may_leave mid) → Elapses (g.moment old) (g.moment mid) (g.left_since old) (g.left_since mid) (g.may_leave mid)
    → (IsTrue (g.tells old) → OnlyBytes file (bytes_of (g.held mid) file) (g.may_leave mid)) → Synced g old mid file
synced_by {D} g old mid file result fine counted same crash time lasting = record {
  telling = counted.telling;
  same = same;
  crash = crash;
  time = time;
  lasting = lasting;
  result = result;
  fine = fine;
  made = plain_calls g old mid result 0 (passes_once g old mid time) counted;
}

-- what the writing of the next list tells, done or not
pub record Ran {D : Type 0} (g : Ghosts D) (mid new : D) (list next : ListBody) (slot : ℕ) (result : Result (Unit {0}) Failed) : Type 0 where
  pub below : slot < 2
  pub run : IsTrue (g.tells mid) → IsReady (g.held mid) (g.may_leave mid) (Some list)
      → Run (WritesSlot slot (ImageHoldsEither (Some list) next)) g.moment g.left_since g.may_leave mid new
  pub besides : IsTrue (g.tells mid) → Besides slot (g.held mid) (g.held new)
  pub telling : g.tells new ≡ g.tells mid
  pub end : ℕ
  pub short : end < 2 ^ 63
  pub made : Calls g 6 end mid new result

pub ran_by : {D : Type 0} (g : Ghosts D) (mid new : D) (list next : ListBody) (text : ListText) (result : Result (Unit {0}) Failed) → text.generation ≡ successor list.generation → IsListText text next
    → (IsTrue (g.tells mid) → CanLay (g.held mid) (g.may_leave mid) text → (was : Option ListBody) (comes : ListBody) → ImageHoldsList (g.held mid) was → IsNext text.generation was → IsListText text comes
    → Run (WritesSlot (slot_of text) (ImageHoldsEither was comes)) g.moment g.left_since g.may_leave mid new)
    → (IsTrue (g.tells mid) → Besides (slot_of text) (g.held mid) (g.held new)) → Calls g 6 (1 + length text.text) mid new result → Ran g mid new list next (slot_of text) result
ran_by {D} g mid new list next text result follows is any_moment besides made = record {
  below = omega arith;
  run = λ told ready. any_moment told (can_lay (g.held mid) (g.may_leave mid) (Some list) text ready follows) (Some list) next ready.stands follows is;
  besides = besides;
  telling = made.telling;
  end = 1 + length text.text;
  short = text_short text next is;
  made = made;
}

-- The list may be written in the place of the one that counts: every image that the writing makes stands for the history, and is
-- tidy where the one before it was.
pub record MayList (held : Image) (may_leave : Image → Type 0) (body new : ListBody) (h : History) : Type 0 where
  pub ready : IsReady held may_leave (Some body)
  pub stands : (slot : ℕ) → slot < 2 → (origin image : Image) → may_leave origin → WritesSlot slot (ImageHoldsEither (Some body) new) origin image → ImageStandsFor image h
  pub tidy : (slot : ℕ) → slot < 2 → (origin image : Image) → may_leave origin → WritesSlot slot (ImageHoldsEither (Some body) new) origin image → IsTidy origin → IsTidy image

module _ {D : Type 0} (g : Ghosts D) (only_now : OnlyNow g) (old mid new : D) (file slot : ℕ) (list next : ListBody) (h : History) (result : Result (Unit {0}) Failed) (synced : Synced g old mid file) (ran : Ran g mid new list next slot result)
    (told : IsTrue (g.tells old)) (before : (image : Image) → g.may_leave old image → ImageStandsFor image h) (c : MayList (g.held mid) (g.may_leave mid) list next h) where
  pub its_run : Run (WritesSlot slot (ImageHoldsEither (Some list) next)) g.moment g.left_since g.may_leave mid new
  its_run = ran.run (subst IsTrue (sym synced.telling) told) c.ready

  -- a property that each image has before, and each one that the writing makes
  since_then : (P : Image → Type 0) → ((image : Image) → g.may_leave old image → P image)
      → ((image : Image) → Reached (WritesSlot slot (ImageHoldsEither (Some list) next)) (g.may_leave mid) image → P image) → LeavesOnly g.moment g.left_since old new P
  since_then P first second =
      joined g.moment g.left_since old mid new P
      (widened g.moment g.left_since old mid (g.may_leave old) P
      (still g.moment g.left_since old mid (g.may_leave old) (g.may_leave mid) (λ image left. only_now old image left) synced.crash synced.time) first)
      (widened g.moment g.left_since mid new (Reached (WritesSlot slot (ImageHoldsEither (Some list) next)) (g.may_leave mid)) P its_run.since second)

  stands : (image : Image) → Reached (WritesSlot slot (ImageHoldsEither (Some list) next)) (g.may_leave mid) image → ImageStandsFor image h
  stands image r = c.stands slot ran.below r.0 image r.1 r.2

  pub stands_since : LeavesOnly g.moment g.left_since old new (λ image. ImageStandsFor image h)
  stands_since = since_then (λ image. ImageStandsFor image h) before stands

  pub stands_now : (image : Image) → g.may_leave new image → ImageStandsFor image h
  stands_now image left = stands image (its_run.now image left)

  pub tidy_since : ((image : Image) → g.may_leave old image → IsTidy image) → LeavesOnly g.moment g.left_since old new IsTidy
  tidy_since tidy = since_then IsTidy tidy (λ image r. c.tidy slot ran.below r.0 image r.1 r.2 (tidy r.0 (synced.crash r.0 r.1)))
