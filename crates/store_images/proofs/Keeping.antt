-- Images that store the same.
use Rattle.std.proofs.Common.{◌≡◌, inl, inr, ℕ, ◌<◌, ◌≤◌, List, [], ◌∷◌, map, Some, None, Option, refl, sym, ◌∙◌, subst, arith}
use Rattle.std.specs.List.{Contains}
use Rattle.std.proofs.lemmas.List.Elements.{All-contains, Contains-append_left, Contains-append_right}
use Rattle.span_types.specs.declared.spans.Span.{Span}
use Rattle.disk_model.specs.Images.{Image, bytes_of}
use Rattle.block_list.specs.Body.{MeetsRules, files_of}
use Rattle.block_list.specs.Slots.{SlotsHold, ImageHoldsList}
use Rattle.block_list.specs.Loading.{StaysOrClears, KeepsList}
use Rattle.block_list.proofs.LoadLemmas.{still_vacant, cut_stays_vacant}
use Rattle.block_list.proofs.SlotLemmas.{seen_from, seen_back}
use Rattle.block_list.proofs.AgainSlots.{slots_again, only_one}
use Rattle.block_list.proofs.ReadyLemmas.{rules_of}
use Rattle.block_list.specs.declared.body.BlockRef.{BlockRef}
use Rattle.block_list.specs.declared.body.SegmentRef.{SegmentRef}
use Rattle.block_list.specs.declared.body.ListBody.{ListBody}
use Rattle.store_model.specs.History.{History}
use Rattle.store_model.specs.State.{Block}
use Rattle.block_format.specs.Blocks.{BlockHolds}
use Rattle.store_images.specs.Stored.{BlocksStand, StoreHolds, ImageStores, ImageStandsFor, KeepsStored, ref_of}
use Rattle.store_images.specs.Stored.ImageStores.{vacant, filled}
use Rattle.store_images.proofs.Lists.{in_map}
use Rattle.store_images.proofs.Logs.{log_same}

-- ---- the files of a list

pub segment_named : (body : ListBody) (x : SegmentRef) → Contains body.segments x → Contains (files_of body) x.file
segment_named body x c =
    Contains-append_left _ body.loose x.file (Contains-append_left (map (λ (y : SegmentRef). y.file) body.segments) _ x.file (in_map (λ (y : SegmentRef). y.file) body.segments x c))

pub block_named : (body : ListBody) (blocks : List Block) (b : Block) → body.blocks ≡ map ref_of blocks → Contains blocks b → Contains (files_of body) b.file
block_named body blocks b its c =
    let listed : Contains body.blocks (ref_of b) = subst (λ (l : List BlockRef). Contains l (ref_of b)) (sym its) (in_map ref_of blocks b c) in
    Contains-append_left _ body.loose b.file (Contains-append_right (map (λ (y : SegmentRef). y.file) body.segments) _ b.file (in_map (λ (y : BlockRef). y.file) body.blocks (ref_of b) listed))

pub rules_in : (image : Image) (body : ListBody) → ImageHoldsList image (Some body) → MeetsRules body
rules_in image body holds = rules_of 0 (bytes_of image 0) (bytes_of image 1) (Some body) body holds refl

-- a file that is named is no slot, and was given out
pub given_out : (body : ListBody) (file : ℕ) → MeetsRules body → Contains (files_of body) file → (2 ≤ file) × (file < body.next_file)
given_out body file rules c = All-contains (λ (f : ℕ). (2 ≤ f) × (f < body.next_file)) (files_of body) file rules.files c

-- ---- frames

pub slots_same : (a b : Image) (list : Option ListBody) → ((slot : ℕ) → slot < 2 → bytes_of b slot ≡ bytes_of a slot) → ImageHoldsList a list → ImageHoldsList b list
slots_same a b list same holds =
    subst (λ (x : List ℕ). SlotsHold 0 x (bytes_of b 1) list) (sym (same 0 (omega arith)))
    (subst (λ (x : List ℕ). SlotsHold 0 (bytes_of a 0) x list) (sym (same 1 (omega arith))) holds)

pub blocks_same : (a b : Image) (blocks : List Block) → ((x : Block) → Contains blocks x → bytes_of b x.file ≡ bytes_of a x.file) → BlocksStand a blocks → BlocksStand b blocks
blocks_same a b blocks same stand = λ x c. record {
  holds = subst (λ (bytes : List ℕ). BlockHolds bytes x.rows) (sym (same x c)) (stand x c).holds;
  counted = (stand x c).counted;
}

-- the same list, and the same bytes in the files of its segments and blocks
pub store_same : (a b : Image) (body : ListBody) (blocks : List Block) (batches : List (List Span)) → ImageHoldsList b (Some body)
    → ((file : ℕ) → Contains (files_of body) file → bytes_of b file ≡ bytes_of a file) → StoreHolds a body blocks batches → StoreHolds b body blocks batches
store_same a b body blocks batches listed same s = record {
  listed = listed;
  its_blocks = s.its_blocks;
  built = blocks_same a b blocks (λ x c. same x.file (block_named body blocks x s.its_blocks c)) s.built;
  logged = log_same a b body.segments _ batches (λ x c. same x.file (segment_named body x c)) s.logged;
  floored = s.floored;
}

-- ---- steps that keep what is stored

pub keeps_same : (image : Image) → KeepsStored image image
keeps_same image = record { stands = λ h s. s; only = λ h s. s; tidy = λ t. t }

pub keeps_then : (a b c : Image) → KeepsStored a b → KeepsStored b c → KeepsStored a c
keeps_then a b c first second = record { stands = λ h s. second.stands h (first.stands h s); only = λ h s. first.only h (second.only h s); tidy = λ t. second.tidy (first.tidy t) }

pub stands_by_stores : (a b : Image) → ((rows : _) (count : ℕ) → ImageStores a rows count → ImageStores b rows count) → (h : History) → ImageStandsFor a h → ImageStandsFor b h
stands_by_stores a b stores h s = record { rows = s.rows; stores = stores s.rows _ s.stores; agrees = s.agrees }

-- A list that stood in the old image stands in the new one, and a file that a list names keeps its bytes.
module _ (a b : Image) (lists : (list : Option ListBody) → ImageHoldsList a list → ImageHoldsList b list)
    (files : (body : ListBody) → ImageHoldsList a (Some body) → (file : ℕ) → Contains (files_of body) file → bytes_of b file ≡ bytes_of a file) where
  stores_kept : (rows : _) (count : ℕ) → ImageStores a rows count → ImageStores b rows count
  stores_kept rows count (vacant holds none zero) = vacant (lists None holds) none zero
  stores_kept rows count (filled body blocks batches s one is counts) =
      filled body blocks batches (store_same a b body blocks batches (lists (Some body) s.listed) (files body s.listed) s) one is counts

  pub stands_kept : (h : History) → ImageStandsFor a h → ImageStandsFor b h
  stands_kept = stands_by_stores a b stores_kept

-- a slot that stays, or is vacant and is cut, was part of what the two stand for
slot_back : (slot : ℕ) (old new others : List ℕ) (found : Option ListBody) → StaysOrClears old new → SlotsHold slot new others found → SlotsHold slot old others found
slot_back slot old new others found (inl same) stands = subst (λ (b : List ℕ). SlotsHold slot b others found) same stands
slot_back slot old new others found (inr cut) stands = still_vacant slot new others old found stands (cut_stays_vacant old new cut.0 cut.2) cut.0

lists_back : (old new : Image) → KeepsList old new → (found : Option ListBody) → ImageHoldsList new found → ImageHoldsList old found
lists_back old new keeps found holds =
    let mid : Image = (0, bytes_of old 0) ∷ (1, bytes_of new 1) ∷ [] in
    let one : ImageHoldsList mid found = slot_back 0 (bytes_of old 0) (bytes_of new 0) (bytes_of new 1) found (keeps.slots 0 (omega arith)) holds in
    seen_back 1 old found (omega arith) (slot_back 1 (bytes_of old 1) (bytes_of new 1) (bytes_of old 0) found (keeps.slots 1 (omega arith)) (seen_from 1 mid found (omega arith) one))

-- what loading makes of an image
pub loaded : (old new : Image) → KeepsList old new → KeepsStored old new
loaded old new keeps = record {
  stands = stands_kept old new keeps.list (λ body holds file named. keeps.files file (given_out body file (rules_in old body holds) named).0);
  only = stands_kept new old (lists_back old new keeps) (λ body holds file named. sym (keeps.files file (given_out body file (rules_in new body holds) named).0));
  tidy = λ t. record {
    list = t.list;
    counts = keeps.list t.list t.counts;
    files = λ file low given. elim (t.files file low given) [ inl empty ↦ inl (keeps.files file low ∙ empty) | inr named ↦ inr named ];
  };
}

-- an image has one list at most
pub one_list : (image : Image) (list other : Option ListBody) → ImageHoldsList image list → ImageHoldsList image other → list ≡ other
one_list image list other first second =
    only_one (bytes_of image 0) (bytes_of image 1) list other second (slots_again (bytes_of image 0) (bytes_of image 1) list first)
