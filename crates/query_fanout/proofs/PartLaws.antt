-- Reads of a look's blocks in any order, where the rows of each block are told apart.
use Rattle.std.proofs.Common.{◌≡◌, ℕ, suc, Bool, false, List, [], ◌∷◌, ◌++◌, Result, Ok, Err, length, append-nil, refl, sym, ap, subst, ◌∙◌}
use Rattle.std.specs.Prelude.{IsTrue}
use Rattle.std.specs.List.{flat_map}
use Rattle.span_types.specs.declared.spans.Row.{Row}
use Rattle.block_info.specs.InfoParts.{InfoParts}
use Rattle.store_state.specs.Given.{info_files}
use Rattle.store_state.specs.Meaning.{Meaning}
use Rattle.store_state.specs.Written.{AreBlocksOf}
use Rattle.store_state.specs.declared.jobs.Look.{Look}
use Rattle.query_fanout.specs.Queries.{Sound, is_fault}
use Rattle.query_fanout.specs.Reading.{BlocksRead, PagesRead, PartsRead}
use Rattle.query_fanout.specs.declared.error.QueryError.{QueryError}
use Rattle.query_fanout.specs.declared.error.QueryError.TheVariants.{Fault, NotBlock, Memory}
use Rattle.query_fanout.proofs.BlockLaws.{Split, blocks_stay, comes_error, sound_error, split_at}
use Rattle.query_fanout.proofs.CallLaws.{pages_then}

-- ---- one form for another

module _ {P A : Type 0} (meaning : Meaning P) (look : Look) {some fits : List Row → A → Type 0} {within : List (List Row) → ℕ → ℕ → Type 0} (old new : P) (r : Result A QueryError) where
  -- what is told of all rows is told of the rows of the blocks
  pub in_parts : BlocksRead meaning look look.pin.blocks some fits within old r new → PartsRead meaning look some (λ parts. fits (flat_map (λ part. part) parts)) within old r new
  in_parts h = record { pages = h.pages; comes = h.comes; told = h.told; bounded = h.bounded }

  pub in_whole : PartsRead meaning look some (λ parts. fits (flat_map (λ part. part) parts)) within old r new → BlocksRead meaning look look.pin.blocks some fits within old r new
  in_whole h = record { pages = h.pages; comes = h.comes; told = h.told; bounded = h.bounded }

-- The rows of one of the blocks stand between those of the blocks before it and those of the blocks after it.
pub record AtBlock (front back : List InfoParts) (fits : List (List Row) → List (List Row) → List Row → Type 0) (parts : List (List Row)) : Type 0 where
  pub before : List (List Row)
  pub rows : List Row
  pub after : List (List Row)
  pub is : parts ≡ before ++ rows ∷ after
  pub place : length before ≡ length front
  pub fit : fits before after rows

-- as many blocks, as many parts
as_many : (shows : ℕ → List ℕ) (infos : List InfoParts) (parts : List (List Row)) → AreBlocksOf shows infos parts → length parts ≡ length infos
as_many shows [] [] are = refl
as_many shows [] (p ∷ ps) are = absurd are
as_many shows (i ∷ is) [] are = absurd are
as_many shows (i ∷ is) (p ∷ ps) are = ap (λ (n : ℕ). suc n) (as_many shows is ps are.1)

fit_there : {A : Type 0} (shows : ℕ → List ℕ) (front : List InfoParts) (info : InfoParts) (back : List InfoParts) (fits : List Row → A → Type 0) (r : Result A QueryError) (parts : List (List Row))
    (split : Split shows front info back parts) → Sound (fits (split.rows ++ [])) r → Sound (λ x. AtBlock front back (λ before after rows. fits rows x) parts) r
fit_there shows front info back fits (Ok x) parts split h = record {
  before = split.before;
  rows = split.rows;
  after = split.after;
  is = split.is;
  place = as_many shows front split.before split.front_are;
  fit = subst (λ (l : List Row). fits l x) (append-nil split.rows) h;
}
fit_there shows front info back fits (Err why) parts split h = sound_error (fits (split.rows ++ [])) (λ x. AtBlock front back (λ before after rows. fits rows x) parts) why h

module _ {P A : Type 0} (meaning : Meaning P) (look : Look) (front : List InfoParts) (info : InfoParts) (back : List InfoParts) (are_all : look.pin.blocks ≡ front ++ info ∷ back)
    (some fits : List Row → A → Type 0) (within : List (List Row) → ℕ → ℕ → Type 0) (old new : P) (r : Result A QueryError) where
  blocks : (parts : List (List Row)) → AreBlocksOf (meaning.shows old) look.pin.blocks parts → Split (meaning.shows old) front info back parts
  blocks parts are = split_at (meaning.shows old) front info back parts (subst (λ (l : List InfoParts). AreBlocksOf (meaning.shows old) l parts) are_all are)

  -- what is read of one block
  pub one_block : BlocksRead meaning look (info ∷ []) some fits within old r new
      → PartsRead meaning look some (λ parts x. AtBlock front back (λ before after rows. fits rows x) parts) (λ parts a b. (rows : List Row) × within (rows ∷ []) a b) old r new
  one_block h = record {
    pages = h.pages;
    comes = h.comes;
    told = λ told parts are.
        let split = blocks parts are in
        fit_there (meaning.shows old) front info back fits r parts split (h.told told (split.rows ∷ []) (split.has, tt));
    bounded = λ told parts are.
        let split = blocks parts are in
        (split.rows, h.bounded told (split.rows ∷ []) (split.has, tt));
  }

-- ---- one read after another

same_error : (A B : Type 0) (why : QueryError) → is_fault {A = A} (Err why) ≡ is_fault {A = B} (Err why)
same_error A B Fault = refl
same_error A B (NotBlock file at) = refl
same_error A B Memory = refl

module _ {P A : Type 0} (meaning : Meaning P) (look : Look) (old mid : P) (some : List Row → A → Type 0) (fits : List (List Row) → A → Type 0) (within : List (List Row) → ℕ → ℕ → Type 0) (x : A)
    (h : PartsRead meaning look some fits within old (Ok x) mid) where
  still_told : IsTrue (meaning.tells old) → IsTrue (meaning.tells mid)
  still_told told = subst IsTrue (sym h.pages.stays.telling) told

  still_are : IsTrue (meaning.tells old) → (parts : List (List Row)) → AreBlocksOf (meaning.shows old) look.pin.blocks parts → AreBlocksOf (meaning.shows mid) look.pin.blocks parts
  still_are told parts are = blocks_stay (info_files look.pin.blocks) (meaning.shows old) (meaning.shows mid) look.pin.blocks parts (h.pages.stays.bytes told) (λ file m. m) are

module _ {P A B C : Type 0} (meaning : Meaning P) (look : Look) (old mid new : P) {some : List Row → A → Type 0} {fits : List (List Row) → A → Type 0} {within : List (List Row) → ℕ → ℕ → Type 0} (x : A)
    (h : PartsRead meaning look some fits within old (Ok x) mid)
    {some' : List Row → B → Type 0} {fits' : List (List Row) → B → Type 0} {within' : List (List Row) → ℕ → ℕ → Type 0}
    {other_some : List Row → C → Type 0} {other_fits : List (List Row) → C → Type 0} {other_within : List (List Row) → ℕ → ℕ → Type 0} where
  -- something is made of both
  pub parts_then : (y : B) (z : C) → PartsRead meaning look some' fits' within' mid (Ok y) new
      → ((a b : List Row) → some a x → some' b y → other_some (a ++ b) z)
      → ((parts : List (List Row)) → fits parts x → fits' parts y → other_fits parts z)
      → ((parts : List (List Row)) (a b c : ℕ) → fits parts x → fits' parts y → within parts a b → within' parts b c → other_within parts a c)
      → PartsRead meaning look other_some other_fits other_within old (Ok z) new
  parts_then y z more make_some make rose = record {
    pages = pages_then meaning look false old mid new h.pages more.pages;
    comes = (
      h.comes.0 ++ more.comes.0,
      λ e. ap (λ (l : List Row). l ++ more.comes.0) (h.comes.1 e) ∙ more.comes.1 e,
      make_some h.comes.0 more.comes.0 h.comes.2 more.comes.2,
    );
    told = λ told parts are. make parts (h.told told parts are) (more.told (still_told meaning look old mid some fits within x h told) parts (still_are meaning look old mid some fits within x h told parts are));
    bounded = λ told parts are.
        rose parts (meaning.reads old) (meaning.reads mid) (meaning.reads new) (h.told told parts are) (more.told (still_told meaning look old mid some fits within x h told) parts (still_are meaning look old mid some fits within x h told parts are))
        (h.bounded told parts are) (more.bounded (still_told meaning look old mid some fits within x h told) parts (still_are meaning look old mid some fits within x h told parts are));
  }

  -- or the second one failed
  pub parts_end : (why : QueryError) → PartsRead {A = B} meaning look some' fits' within' mid (Err why) new
      → ((parts : List (List Row)) (a b c : ℕ) → fits parts x → within parts a b → within' parts b c → other_within parts a c)
      → PartsRead {A = C} meaning look other_some other_fits other_within old (Err why) new
  parts_end why more rose = record {
    pages = pages_then meaning look (is_fault {A = C} (Err why)) old mid new h.pages (subst (λ (b : Bool). PagesRead meaning look b mid new) (same_error B C why) more.pages);
    comes = comes_error some' other_some look.pin.blocks why more.comes;
    told = λ told parts are. sound_error (fits' parts) (other_fits parts) why (more.told (still_told meaning look old mid some fits within x h told) parts (still_are meaning look old mid some fits within x h told parts are));
    bounded = λ told parts are.
        rose parts (meaning.reads old) (meaning.reads mid) (meaning.reads new) (h.told told parts are)
        (h.bounded told parts are) (more.bounded (still_told meaning look old mid some fits within x h told) parts (still_are meaning look old mid some fits within x h told parts are));
  }

-- ---- what is made of the rows

module _ {P A B : Type 0} (meaning : Meaning P) (look : Look) {some : List Row → A → Type 0} {fits : List (List Row) → A → Type 0} {within : List (List Row) → ℕ → ℕ → Type 0}
    {other_some : List Row → B → Type 0} {other_fits : List (List Row) → B → Type 0} {other_within : List (List Row) → ℕ → ℕ → Type 0} (old new : P) where
  -- what is made of them fits as well
  pub parts_made : (x : A) (y : B) → PartsRead meaning look some fits within old (Ok x) new → ((rows : List Row) → some rows x → other_some rows y)
      → ((parts : List (List Row)) → fits parts x → other_fits parts y) → ((parts : List (List Row)) (a b : ℕ) → fits parts x → within parts a b → other_within parts a b)
      → PartsRead meaning look other_some other_fits other_within old (Ok y) new
  parts_made x y h make_some make rose = record {
    pages = h.pages;
    comes = (h.comes.0, h.comes.1, make_some h.comes.0 h.comes.2);
    told = λ told parts are. make parts (h.told told parts are);
    bounded = λ told parts are. rose parts (meaning.reads old) (meaning.reads new) (h.told told parts are) (h.bounded told parts are);
  }

  -- there is no memory to go on
  pub parts_starved : (x : A) → PartsRead meaning look some fits within old (Ok x) new → ((parts : List (List Row)) (a b : ℕ) → fits parts x → within parts a b → other_within parts a b)
      → PartsRead {A = B} meaning look other_some other_fits other_within old (Err Memory) new
  parts_starved x h rose = record {
    pages = h.pages;
    comes = tt;
    told = λ told parts are. tt;
    bounded = λ told parts are. rose parts (meaning.reads old) (meaning.reads new) (h.told told parts are) (h.bounded told parts are);
  }

  -- or it failed before
  pub parts_failed : (why : QueryError) → PartsRead {A = A} meaning look some fits within old (Err why) new → ((parts : List (List Row)) (a b : ℕ) → within parts a b → other_within parts a b)
      → PartsRead {A = B} meaning look other_some other_fits other_within old (Err why) new
  parts_failed why h rose = record {
    pages = subst (λ (b : Bool). PagesRead meaning look b old new) (same_error A B why) h.pages;
    comes = comes_error some other_some look.pin.blocks why h.comes;
    told = λ told parts are. sound_error (fits parts) (other_fits parts) why (h.told told parts are);
    bounded = λ told parts are. rose parts (meaning.reads old) (meaning.reads new) (h.bounded told parts are);
  }
