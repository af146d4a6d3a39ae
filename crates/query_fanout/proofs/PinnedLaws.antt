-- What reads of pinned blocks make of a port.
use Rattle.std.proofs.Common.{◌≡◌, ℕ, List, [], ◌∷◌, Bool, true, false, Option, Some, None, refl, sym, ◌∙◌, ap, subst, if◌then◌else◌}
use Rattle.std.specs.Prelude.{IsTrue}
use Rattle.span_types.specs.declared.spans.Row.{Row}
use Rattle.block_info.specs.InfoParts.{InfoParts}
use Rattle.block_format.specs.Blocks.{BlockHasInfo}
use Rattle.block_read.specs.PageReads.{AreRead, HasRead, PageRead}
use Rattle.store_model.specs.Event.Event.{ReadPage}
use Rattle.store_model.specs.State.{is_among}
use Rattle.store_state.specs.Given.{info_files, look_of}
use Rattle.store_state.specs.Made.{call}
use Rattle.store_state.specs.Meaning.{Called, IsOpen, Meaning}
use Rattle.store_state.specs.declared.jobs.Look.{Look}
use Rattle.query_fanout.specs.Reading.{AsksPage, LookStays, PagesRead, given, shown}
use Rattle.query_fanout.proofs.CallLaws.{pages_none, pages_then, read_stays}

-- a pinned block's file, as a source of pages shows it
shown_here : {P : Type 0} (meaning : Meaning P) (look : Look) (port : P) (file : ℕ) → is_among file (info_files look.pin.blocks) ≡ true
    → shown meaning look port file ≡ meaning.shows port file
shown_here meaning look port file among = ap (λ (b : Bool). if b then meaning.shows port file else []) among

-- so what it holds is seen through that source
pub holds_here : {P : Type 0} (meaning : Meaning P) (look : Look) (port : P) (info : InfoParts) (file : ℕ) (rows : List Row) → file ≡ info.file → is_among info.file (info_files look.pin.blocks) ≡ true
    → BlockHasInfo info (meaning.shows port info.file) rows → BlockHasInfo info (shown meaning look port file) rows
holds_here meaning look port info file rows its among has =
    subst (λ (b : List ℕ). BlockHasInfo info b rows) (sym (ap (λ (f : ℕ). shown meaning look port f) its ∙ shown_here meaning look port info.file among)) has

pub shown_stays : {P : Type 0} (meaning : Meaning P) (look : Look) (old new : P) → LookStays meaning (look_of look) old new → IsTrue (meaning.tells old)
    → (file : ℕ) → shown meaning look new file ≡ shown meaning look old file
shown_stays meaning look old new stays told file = (elim (is_among file (info_files look.pin.blocks)) as (λ b. is_among file (info_files look.pin.blocks) ≡ b → shown meaning look new file ≡ shown meaning look old file) [
  | true ↦ λ t. rw t (stays.bytes told file t)
  | false ↦ λ t. rw t refl
]) refl

module _ {P : Type 0} (meaning : Meaning P) (look : Look) (old new : P) (r : PageRead) (h : AsksPage meaning look old r new) where
  its_call : (bytes : Option (List ℕ)) → r.bytes ≡ bytes → Called meaning old (ReadPage look.pin.number r.block r.page) (given bytes) new
  its_call bytes is = subst (λ (b : Option (List ℕ)). Called meaning old (ReadPage look.pin.number r.block r.page) (given b) new) is h.called

  its_stays : LookStays meaning (look_of look) old new
  its_stays = read_stays meaning (look_of look) look.pin.number r.block r.page (given r.bytes) old new h.ready.0 h.called

  -- the page is given
  page_given : (bytes : List ℕ) → r.bytes ≡ Some bytes → PagesRead meaning look false old new
  page_given bytes is = record {
    calls = call (ReadPage look.pin.number r.block r.page) (given (Some bytes)) ∷ [];
    made = (new, its_call (Some bytes) is, refl);
    are = ((r.block, r.page, bytes, h.ready.1, refl), tt);
    stays = its_stays;
  }

  -- or refused
  page_refused : r.bytes ≡ None → PagesRead meaning look true old new
  page_refused is = record {
    calls = call (ReadPage look.pin.number r.block r.page) (given None) ∷ [];
    made = (new, its_call None is, refl);
    are = ([], r.block, r.page, tt, h.ready.1, refl);
    stays = its_stays;
  }

-- Reads of a look's blocks, one after another, are so many calls of its port.
module _ {S P : Type 0} (meaning : Meaning P) (look : Look) (went : S → PageRead → S → Type 0) (port : S → P) (look_at : S → Look)
    (step : (old new : S) (r : PageRead) → went old r new → AsksPage meaning (look_at old) (port old) r (port new) × (look_at new ≡ look_at old)) where
  asks : (old new : S) (r : PageRead) → look_at old ≡ look → went old r new → AsksPage meaning look (port old) r (port new)
  asks old new r same one = subst (λ (l : Look). AsksPage meaning l (port old) r (port new)) same (step old new r one).0

  walked : (reads : List PageRead) (old new : S) → look_at old ≡ look → IsOpen meaning (port old) (look_of look) → AreRead went old reads new
      → PagesRead meaning look false (port old) (port new) × (look_at new ≡ look)
  walked [] old new same is_open are =
      (subst (λ (p : P). PagesRead meaning look false (port old) p) (sym (ap port are)) (pages_none meaning look (port old) is_open), ap look_at are ∙ same)
  walked (r ∷ rs) old new same is_open are =
      let between : S = are.0 in
      let first : PagesRead meaning look false (port old) (port between) = page_given meaning look (port old) (port between) r (asks old between r same are.3) are.1 are.2 in
      let rest = walked rs between new ((step old between r are.3).1 ∙ same) first.stays.is_open are.4 in
      (pages_then meaning look false (port old) (port between) (port new) first rest.0, rest.1)

  pub pages_read : (failed : Bool) (old new : S) → look_at old ≡ look → IsOpen meaning (port old) (look_of look) → HasRead went old failed new
      → PagesRead meaning look failed (port old) (port new)
  pages_read false old new same is_open (reads, are) = (walked reads old new same is_open are).0
  pages_read true old new same is_open (reads, last, between, are, none, one) =
      let first = walked reads old between same is_open are in
      pages_then meaning look true (port old) (port between) (port new) first.0
      (page_refused meaning look (port between) (port new) last (asks between new last first.1 one) none)
