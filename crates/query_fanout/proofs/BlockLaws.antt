-- What is read of the blocks of a look, one after another.
use Rattle.std.proofs.Common.{◌≡◌, ℕ, zero, suc, ◌+◌, ◌<◌, ◌≤◌, Bool, true, false, not, ◌||◌, eqb, List, [], ◌∷◌, ◌++◌, length, take, drop, get_or, Result, Ok, Err, append-nil, refl, sym, ap, subst, ◌∙◌, arith, if◌then◌else◌}
use Rattle.std.specs.Prelude.{IfOk, IsTrue}
use Rattle.std.specs.List.{flat_map}
use Rattle.std.proofs.lemmas.Bool.{eq-eqb}
use Rattle.std.proofs.lemmas.Grind.{flat_map-append}
use Rattle.std.proofs.lemmas.List.{drop_more, take_more, take-append-drop}
use Rattle.span_types.specs.Faults.{Rose}
use Rattle.span_types.specs.declared.ids.TraceId.{TraceId}
use Rattle.span_types.specs.declared.spans.Row.{Row}
use Rattle.block_info.specs.InfoParts.{InfoParts}
use Rattle.block_format.specs.Blocks.{BlockHasInfo}
use Rattle.block_read.specs.Answers.{RoseAtMost}
use Rattle.block_read.specs.Answers as answers
use Rattle.block_read.specs.Lookups.{Finds, IsInFile, most_pages}
use Rattle.block_read.specs.declared.error.ReadError.{ReadError}
use Rattle.block_read.specs.declared.error.ReadError.TheVariants as unread
use Rattle.column_scan.specs.Scans.{FindsFit}
use Rattle.store_model.specs.State.{is_among}
use Rattle.store_state.specs.Given.{info_files, look_of}
use Rattle.store_state.specs.Meaning.{Meaning, IsOpen}
use Rattle.store_state.specs.Written.{AreBlocksOf}
use Rattle.store_state.specs.declared.jobs.Look.{Look}
use Rattle.query_fanout.specs.Bounds.{look_up_pages}
use Rattle.query_fanout.specs.Queries.{ComesOf, Sound, is_fault}
use Rattle.query_fanout.specs.Reading.{AtMost, BlocksRead, PagesRead, most_of, of_read}
use Rattle.query_fanout.specs.declared.error.QueryError.{QueryError}
use Rattle.query_fanout.specs.declared.error.QueryError.TheVariants.{Fault, NotBlock, Memory}
use Rattle.query_fanout.proofs.CallLaws.{pages_none, pages_then}

-- ---- lists

parted : (infos : List InfoParts) (n : ℕ) (info d : InfoParts) → n < length infos → info ≡ get_or infos n d → take n infos ++ info ∷ drop (n + 1) infos ≡ infos
parted infos n info d low is =
    ap (λ (l : List InfoParts). take n infos ++ l) (ap (λ (i : InfoParts). i ∷ drop (n + 1) infos) is ∙ sym (drop_more infos n d low)) ∙ take-append-drop n infos

next_front : (infos : List InfoParts) (n : ℕ) (info d : InfoParts) → n < length infos → info ≡ get_or infos n d → take n infos ++ info ∷ [] ≡ take (n + 1) infos
next_front infos n info d low is = ap (λ (i : InfoParts). take n infos ++ i ∷ []) is ∙ sym (take_more infos n d low)

or_later : (b c : Bool) → c ≡ true → (b || c) ≡ true
or_later true c e = refl
or_later false c e = e

among_at : (infos : List InfoParts) (n : ℕ) (d : InfoParts) → n < length infos → is_among (get_or infos n d).file (info_files infos) ≡ true
among_at [] n d low = absurd (omega (arith, low))
among_at (i ∷ is) zero d low = ap (λ (t : Bool). t || is_among i.file (info_files is)) (eq-eqb i.file i.file refl)
among_at (i ∷ is) (suc n) d low = or_later (eqb i.file (get_or is n d).file) (is_among (get_or is n d).file (info_files is)) (among_at is n d (omega (arith, low)))

-- the next block that a loop over them comes to
pub record Next (infos : List InfoParts) (n : ℕ) (info : InfoParts) : Type 0 where
  pub among : is_among info.file (info_files infos) ≡ true
  pub front : take n infos ++ info ∷ [] ≡ take (n + 1) infos
  pub whole : take n infos ++ info ∷ drop (n + 1) infos ≡ infos

pub next_at : (infos seen : List InfoParts) (n : ℕ) (d info : InfoParts) → seen ≡ infos → d ≡ get_or seen n d → info ≡ d → n < length seen → Next infos n info
next_at infos seen n d info same is got low =
    let at : info ≡ get_or infos n d = got ∙ is ∙ ap (λ (l : List InfoParts). get_or l n d) same in
    let below : n < length infos = subst (λ (l : List InfoParts). n < length l) same low in record {
      among = ap (λ (i : InfoParts). is_among i.file (info_files infos)) at ∙ among_at infos n d below;
      front = next_front infos n info d below at;
      whole = parted infos n info d below at;
    }

not_none : (infos : List InfoParts) (file : ℕ) → is_among file (info_files infos) ≡ true → infos ≡ [] → ⊥
not_none [] file among none = cc
not_none (i ∷ is) file among none = cc

-- the blocks of the front, the one after it and the others
pub record Split (shows : ℕ → List ℕ) (front : List InfoParts) (info : InfoParts) (back : List InfoParts) (all : List (List Row)) : Type 0 where
  pub before : List (List Row)
  pub rows : List Row
  pub after : List (List Row)
  pub is : all ≡ before ++ rows ∷ after
  pub front_are : AreBlocksOf shows front before
  pub has : BlockHasInfo info (shows info.file) rows
  pub back_are : AreBlocksOf shows back after

pub split_at : (shows : ℕ → List ℕ) (front : List InfoParts) (info : InfoParts) (back : List InfoParts) (all : List (List Row)) → AreBlocksOf shows (front ++ info ∷ back) all
    → Split shows front info back all
split_at shows [] info back [] are = absurd are
split_at shows [] info back (p ∷ ps) are = record { before = []; rows = p; after = ps; is = refl; front_are = tt; has = are.0; back_are = are.1 }
split_at shows (i ∷ is) info back [] are = absurd are
split_at shows (i ∷ is) info back (p ∷ ps) are =
    let inner = split_at shows is info back ps are.1 in record {
      before = p ∷ inner.before;
      rows = inner.rows;
      after = inner.after;
      is = ap (λ (l : List (List Row)). p ∷ l) inner.is;
      front_are = (are.0, inner.front_are);
      has = inner.has;
      back_are = inner.back_are;
    }

no_parts : (shows : ℕ → List ℕ) (parts : List (List Row)) → AreBlocksOf shows [] parts → parts ≡ []
no_parts shows [] are = refl
no_parts shows (p ∷ ps) are = absurd are

-- rows that were moved stand after those that were there
pub moved : {A : Type 0} (found more after : List A) (ok err : Bool) → after ≡ (if ok then found ++ more else found) → ok ≡ not err → err ≡ false → after ≡ found ++ more
moved found more after ok err is not_err none = is ∙ ap (λ (b : Bool). if b then found ++ more else found) (not_err ∙ ap not none)

-- ---- bounds

add_low : (m n : ℕ) → 0 + m ≤ m + n
add_low m n = omega arith

add_both : (m a b c : ℕ) → a + b ≤ c → m + a + b ≤ m + c
add_both m a b c low = omega (arith, low)

-- what may be read of the front and of the block after it
front_and_next : (most : InfoParts → List Row → ℕ) (shows : ℕ → List ℕ) (front : List InfoParts) (info : InfoParts) (back : List InfoParts) (before after : List (List Row)) (rows : List Row)
    → AreBlocksOf shows front before → most_of most front before + most info rows ≤ most_of most (front ++ info ∷ back) (before ++ rows ∷ after)
front_and_next most shows [] info back [] after rows are = add_low (most info rows) (most_of most back after)
front_and_next most shows [] info back (p ∷ ps) after rows are = absurd are
front_and_next most shows (i ∷ is) info back [] after rows are = absurd are
front_and_next most shows (i ∷ is) info back (p ∷ ps) after rows are =
    add_both (most i p) (most_of most is ps) (most info rows) (most_of most (is ++ info ∷ back) (ps ++ rows ∷ after)) (front_and_next most shows is info back ps after rows are.1)

-- for one trace that is what a look-up may read
pub look_up_is : (id : TraceId) (infos : List InfoParts) (parts : List (List Row)) → most_of (λ info rows. most_pages info id rows) infos parts ≡ look_up_pages id infos parts
look_up_is id [] parts = refl
look_up_is id (i ∷ is) [] = refl
look_up_is id (i ∷ is) (p ∷ ps) = ap (λ (n : ℕ). most_pages i id p + n) (look_up_is id is ps)

pub look_up_widens : (id : TraceId) (infos : List InfoParts) (parts : List (List Row)) (a b : ℕ)
    → AtMost (most_of (λ info rows. most_pages info id rows) infos) parts a b → AtMost (look_up_pages id infos) parts a b
look_up_widens id infos parts a b rose = subst (λ (n : ℕ). RoseAtMost n a b) (look_up_is id infos parts) rose

pub rose_twice : (m n count a b c : ℕ) → RoseAtMost m a b → RoseAtMost n b c → m + n ≤ count → RoseAtMost count a c
rose_twice m n count a b c one two low =
    let o = one.later in
    let p = one.at_most in
    let q = two.later in
    let r = two.at_most in
    record { later = omega (arith, o, q); at_most = omega (arith, p, r, low) }

pub rose_none : (m n : ℕ) → RoseAtMost m n n
rose_none m n = record { later = omega arith; at_most = omega arith }

-- ---- what comes of it

pub sound_error : {A B : Type 0} (one : A → Type 0) (other : B → Type 0) (why : QueryError) → Sound one (Err why) → Sound other (Err why)
sound_error one other Fault h = tt
sound_error one other (NotBlock file at) h = absurd h
sound_error one other Memory h = tt

pub comes_error : {A B : Type 0} (one : List Row → A → Type 0) (other : List Row → B → Type 0) (infos : List InfoParts) (why : QueryError) → ComesOf one infos (Err why) → ComesOf other infos (Err why)
comes_error one other infos Fault h = tt
comes_error one other infos (NotBlock file at) h = h
comes_error one other infos Memory h = tt

found_sound : {A : Type 0} (fits other : A → Type 0) (r : Result A ReadError) → ((x : A) → fits x → other x) → FindsFit fits r → Sound other (of_read r)
found_sound fits other (Ok x) to h = to x h
found_sound fits other (Err unread.Fault) to h = tt
found_sound fits other (Err (unread.NotBlock file at)) to h = h
found_sound fits other (Err unread.Memory) to h = tt

same_fault : {A : Type 0} (r : Result A ReadError) → answers.is_fault r ≡ is_fault (of_read r)
same_fault (Ok x) = refl
same_fault (Err unread.Fault) = refl
same_fault (Err (unread.NotBlock file at)) = refl
same_fault (Err unread.Memory) = refl

part_comes : {A : Type 0} (some : List Row → A → Type 0) (infos : List InfoParts) (file : ℕ) (r : Result A ReadError) → is_among file (info_files infos) ≡ true → IsInFile file r
    → IfOk r (λ found. (rows : List Row) × some rows found) → ComesOf some infos (of_read r)
part_comes some infos file (Ok x) among its of = (of.0, λ none. absurd (not_none infos file among none), of.1)
part_comes some infos file (Err unread.Fault) among its of = tt
part_comes some infos file (Err (unread.NotBlock other at)) among its of = ap (λ (f : ℕ). is_among f (info_files infos)) its ∙ among
part_comes some infos file (Err unread.Memory) among its of = tt

-- ---- what is read of one

pub finds_fit : {A : Type 0} (wanted : A) (r : Result A ReadError) → Finds wanted r → FindsFit (λ x. x ≡ wanted) r
finds_fit wanted (Ok x) h = h
finds_fit wanted (Err unread.Fault) h = tt
finds_fit wanted (Err (unread.NotBlock file at)) h = h
finds_fit wanted (Err unread.Memory) h = tt

pub some_rows : {A : Type 0} (fits : A → Type 0) (some : List Row → A → Type 0) (r : Result A ReadError) → ((x : A) → fits x → (rows : List Row) × some rows x) → IfOk r fits
    → IfOk r (λ x. (rows : List Row) × some rows x)
some_rows fits some (Ok x) to h = to x h
some_rows fits some (Err why) to h = tt

-- the same error in place of another list
pub error_told : {A B : Type 0} (one : A → Type 0) (other : B → Type 0) (why : ReadError) → FindsFit one (Err why) → FindsFit other (Err why)
error_told one other unread.Fault h = tt
error_told one other (unread.NotBlock file at) h = h
error_told one other unread.Memory h = tt

pub error_file : (A B : Type 0) (file : ℕ) (why : ReadError) → IsInFile {A = A} file (Err why) → IsInFile {A = B} file (Err why)
error_file A B file unread.Fault h = tt
error_file A B file (unread.NotBlock other at) h = h
error_file A B file unread.Memory h = tt

pub error_fault : (A B : Type 0) (why : ReadError) → answers.is_fault {X = A} (Err why) ≡ answers.is_fault {X = B} (Err why)
error_fault A B unread.Fault = refl
error_fault A B (unread.NotBlock file at) = refl
error_fault A B unread.Memory = refl

pub cause_of : {A : Type 0} (before now : ℕ) (r : Result A ReadError) → answers.FailsByFault before now r → IsTrue (answers.is_fault r) → Rose before now
cause_of before now (Ok x) h fault = cc
cause_of before now (Err unread.Fault) h fault = h
cause_of before now (Err (unread.NotBlock file at)) h fault = cc
cause_of before now (Err unread.Memory) h fault = cc

-- ---- block by block

module _ {P A : Type 0} (meaning : Meaning P) (look : Look) (some fits : List Row → A → Type 0) (most : InfoParts → List Row → ℕ) where
  -- one block
  pub part_read : (info : InfoParts) (old new : P) (r : Result A ReadError) → is_among info.file (info_files look.pin.blocks) ≡ true → IsInFile info.file r
      → PagesRead meaning look (answers.is_fault r) old new → IfOk r (λ found. (rows : List Row) × some rows found)
      → (IsTrue (meaning.tells old) → (rows : List Row) → BlockHasInfo info (meaning.shows old info.file) rows → FindsFit (fits rows) r)
      → (IsTrue (meaning.tells old) → (rows : List Row) → BlockHasInfo info (meaning.shows old info.file) rows → RoseAtMost (most info rows) (meaning.reads old) (meaning.reads new))
      → BlocksRead meaning look (info ∷ []) some fits (AtMost (most_of most (info ∷ []))) old (of_read r) new
  part_read info old new r among its pages of finds rose = record {
    pages = subst (λ (b : Bool). PagesRead meaning look b old new) (same_fault r) pages;
    comes = part_comes some look.pin.blocks info.file r among its of;
    told = λ told parts are.
        let split = split_at (meaning.shows old) [] info [] parts are in
        found_sound (fits split.rows) (fits (flat_map (λ part. part) parts)) r
        (λ x. subst (λ (l : List Row). fits l x) (sym (append-nil split.rows) ∙ ap (λ (l : List (List Row)). flat_map (λ part. part) l) (sym (one_part parts split))))
        (finds told split.rows split.has);
    bounded = λ told parts are.
        let split = split_at (meaning.shows old) [] info [] parts are in
        let low = front_and_next most (meaning.shows old) [] info [] [] [] split.rows tt in
        rose_twice 0 (most info split.rows) (most_of most (info ∷ []) parts) (meaning.reads old) (meaning.reads old) (meaning.reads new)
        (rose_none 0 (meaning.reads old)) (rose told split.rows split.has)
        (subst (λ (l : List (List Row)). 0 + most info split.rows ≤ most_of most (info ∷ []) l) (sym (one_part parts split)) low);
  }
    where
      one_part : (parts : List (List Row)) (split : Split (meaning.shows old) [] info [] parts) → parts ≡ split.rows ∷ []
      one_part parts split = split.is ∙ ap (λ (l : List (List Row)). l ++ split.rows ∷ split.after) (no_parts (meaning.shows old) split.before split.front_are)
          ∙ ap (λ (l : List (List Row)). split.rows ∷ l) (no_parts (meaning.shows old) split.after split.back_are)

module _ {P A : Type 0} (meaning : Meaning P) (look : Look) (some fits : List Row → List A → Type 0) (most : InfoParts → List Row → ℕ)
    (none : some [] [] × fits [] [])
    (both : (a b : List Row) (x y : List A) → (some a x → some b y → some (a ++ b) (x ++ y)) × (fits a x → fits b y → fits (a ++ b) (x ++ y))) where
  pub read_none : (port : P) (found : List A) → IsOpen meaning port (look_of look) → found ≡ [] → BlocksRead meaning look [] some fits (AtMost (most_of most [])) port (Ok found) port
  read_none port found is_open is = record {
    pages = pages_none meaning look port is_open;
    comes = ([], λ e. refl, subst (λ (x : List A). some [] x) (sym is) none.0);
    told = λ told parts are.
        subst (λ (l : List (List Row)). fits (flat_map (λ part. part) l) found) (sym (no_parts (meaning.shows port) parts are)) (subst (λ (x : List A). fits [] x) (sym is) none.1);
    bounded = λ told parts are. rose_none (most_of most [] parts) (meaning.reads port);
  }

  module _ (old mid new : P) (front : List InfoParts) (info : InfoParts) (before : List A) (among : is_among info.file (info_files look.pin.blocks) ≡ true)
      (h : BlocksRead meaning look front some fits (AtMost (most_of most front)) old (Ok before) mid) where
    -- the block holds the same when it is read
    here : IsTrue (meaning.tells old) → (rows : List Row) → BlockHasInfo info (meaning.shows old info.file) rows → AreBlocksOf (meaning.shows mid) (info ∷ []) (rows ∷ [])
    here told rows has = (subst (λ (b : List ℕ). BlockHasInfo info b rows) (sym (h.pages.stays.bytes told info.file among)) has, tt)

    mid_told : IsTrue (meaning.tells old) → IsTrue (meaning.tells mid)
    mid_told told = subst IsTrue (sym h.pages.stays.telling) told

    bound : {B : Type 0} (one other : List Row → B → Type 0) (r : Result B QueryError) (back : List InfoParts)
        → BlocksRead meaning look (info ∷ []) one other (AtMost (most_of most (info ∷ []))) mid r new
        → IsTrue (meaning.tells old) → (all : List (List Row)) → AreBlocksOf (meaning.shows old) (front ++ info ∷ back) all
        → AtMost (most_of most (front ++ info ∷ back)) all (meaning.reads old) (meaning.reads new)
    bound one other r back last told all are =
        let split = split_at (meaning.shows old) front info back all are in
        let low = subst (λ (l : List (List Row)). most_of most front split.before + most info split.rows ≤ most_of most (front ++ info ∷ back) l) (sym split.is)
        (front_and_next most (meaning.shows old) front info back split.before split.after split.rows split.front_are) in
        let only : most_of most (info ∷ []) (split.rows ∷ []) ≡ most info split.rows = omega arith in
        rose_twice (most_of most front split.before) (most info split.rows) (most_of most (front ++ info ∷ back) all) (meaning.reads old) (meaning.reads mid) (meaning.reads new)
        (h.bounded told split.before split.front_are)
        (subst (λ (n : ℕ). RoseAtMost n (meaning.reads mid) (meaning.reads new)) only (last.bounded (mid_told told) (split.rows ∷ []) (here told split.rows split.has))) low

    -- one block more is read
    pub read_next : (found : List A) → BlocksRead meaning look (info ∷ []) some fits (AtMost (most_of most (info ∷ []))) mid (Ok found) new
        → BlocksRead meaning look (front ++ info ∷ []) some fits (AtMost (most_of most (front ++ info ∷ []))) old (Ok (before ++ found)) new
    read_next found one = record {
      pages = pages_then meaning look false old mid new h.pages one.pages;
      comes = (
        h.comes.0 ++ one.comes.0,
        λ e. ap (λ (l : List Row). l ++ one.comes.0) (h.comes.1 e) ∙ one.comes.1 e,
        (both h.comes.0 one.comes.0 before found).0 h.comes.2 one.comes.2,
      );
      told = λ told all are.
          let split = split_at (meaning.shows old) front info [] all are in
          let first = h.told told split.before split.front_are in
          let next = one.told (mid_told told) (split.rows ∷ []) (here told split.rows split.has) in
          subst (λ (l : List Row). fits l (before ++ found))
          (sym (flat_map-append (λ (part : List Row). part) split.before (split.rows ∷ []))
          ∙ ap (λ (l : List (List Row)). flat_map (λ part. part) (split.before ++ split.rows ∷ l)) (sym (no_parts (meaning.shows old) split.after split.back_are))
          ∙ ap (λ (l : List (List Row)). flat_map (λ part. part) l) (sym split.is))
          ((both (flat_map (λ part. part) split.before) (flat_map (λ part. part) (split.rows ∷ [])) before found).1 first next);
      bounded = bound some fits (Ok found) [] one;
    }

    -- reading ends at a block
    pub read_ends : (why : QueryError) (back : List InfoParts) → BlocksRead {A = List A} meaning look (info ∷ []) some fits (AtMost (most_of most (info ∷ []))) mid (Err why) new
        → BlocksRead {A = List A} meaning look (front ++ info ∷ back) some fits (AtMost (most_of most (front ++ info ∷ back))) old (Err why) new
    read_ends why back one = record {
      pages = pages_then meaning look (is_fault {A = List A} (Err why)) old mid new h.pages one.pages;
      comes = one.comes;
      told = λ told all are.
          let split = split_at (meaning.shows old) front info back all are in
          sound_error (fits (flat_map (λ part. part) (split.rows ∷ []))) (fits (flat_map (λ part. part) all)) why
          (one.told (mid_told told) (split.rows ∷ []) (here told split.rows split.has));
      bounded = bound {B = List A} some fits (Err why) back one;
    }

-- ---- all blocks, once and again

-- they hold the same
pub blocks_stay : (all : List ℕ) (old new : ℕ → List ℕ) (infos : List InfoParts) (parts : List (List Row)) → ((file : ℕ) → is_among file all ≡ true → new file ≡ old file)
    → ((file : ℕ) → is_among file (info_files infos) ≡ true → is_among file all ≡ true) → AreBlocksOf old infos parts → AreBlocksOf new infos parts
blocks_stay all old new [] [] same among are = tt
blocks_stay all old new [] (p ∷ ps) same among are = absurd are
blocks_stay all old new (i ∷ is) [] same among are = absurd are
blocks_stay all old new (i ∷ is) (p ∷ ps) same among are = (
  subst (λ (b : List ℕ). BlockHasInfo i b p) (sym (same i.file (among i.file (ap (λ (t : Bool). t || is_among i.file (info_files is)) (eq-eqb i.file i.file refl))))) are.0,
  blocks_stay all old new is ps same (λ file m. among file (or_later (eqb i.file file) (is_among file (info_files is)) m)) are.1,
)

module _ {P A B : Type 0} (meaning : Meaning P) (look : Look) (old mid new : P) {some fits : List Row → A → Type 0} {within : List (List Row) → ℕ → ℕ → Type 0} (x : A)
    (h : BlocksRead meaning look look.pin.blocks some fits within old (Ok x) mid)
    {some' fits' : List Row → B → Type 0} {within' : List (List Row) → ℕ → ℕ → Type 0} (r : Result B QueryError)
    (more : BlocksRead meaning look look.pin.blocks some' fits' within' mid r new)
    (other_some other_fits : List Row → B → Type 0) (other_within : List (List Row) → ℕ → ℕ → Type 0) where
  still_told : IsTrue (meaning.tells old) → IsTrue (meaning.tells mid)
  still_told told = subst IsTrue (sym h.pages.stays.telling) told

  still_are : IsTrue (meaning.tells old) → (parts : List (List Row)) → AreBlocksOf (meaning.shows old) look.pin.blocks parts → AreBlocksOf (meaning.shows mid) look.pin.blocks parts
  still_are told parts are = blocks_stay (info_files look.pin.blocks) (meaning.shows old) (meaning.shows mid) look.pin.blocks parts (h.pages.stays.bytes told) (λ file m. m) are

  comes_then : (q : Result B QueryError) → ((y : B) (a b : List Row) → some a x → some' b y → other_some (a ++ b) y) → ComesOf some' look.pin.blocks q → ComesOf other_some look.pin.blocks q
  comes_then (Ok y) fit c = (h.comes.0 ++ c.0, λ e. ap (λ (l : List Row). l ++ c.0) (h.comes.1 e) ∙ c.1 e, fit y h.comes.0 c.0 h.comes.2 c.2)
  comes_then (Err why) fit c = comes_error some' other_some look.pin.blocks why c

  sound_then : (q : Result B QueryError) (rows : List Row) → ((y : B) → fits' rows y → other_fits rows y) → Sound (fits' rows) q → Sound (other_fits rows) q
  sound_then (Ok y) rows fit s = fit y s
  sound_then (Err why) rows fit s = sound_error (fits' rows) (other_fits rows) why s

  pub reads_then : ((y : B) (a b : List Row) → some a x → some' b y → other_some (a ++ b) y) → ((y : B) (rows : List Row) → fits rows x → fits' rows y → other_fits rows y)
      → ((parts : List (List Row)) (a b c : ℕ) → fits (flat_map (λ part. part) parts) x → within parts a b → within' parts b c → other_within parts a c)
      → BlocksRead meaning look look.pin.blocks other_some other_fits other_within old r new
  reads_then fit_some fit_all rose = record {
    pages = pages_then meaning look (is_fault r) old mid new h.pages more.pages;
    comes = comes_then r fit_some more.comes;
    told = λ told parts are.
        sound_then r (flat_map (λ part. part) parts) (λ y. fit_all y (flat_map (λ part. part) parts) (h.told told parts are)) (more.told (still_told told) parts (still_are told parts are));
    bounded = λ told parts are.
        rose parts (meaning.reads old) (meaning.reads mid) (meaning.reads new) (h.told told parts are) (h.bounded told parts are)
        (more.bounded (still_told told) parts (still_are told parts are));
  }

-- ---- what is made of the rows

module _ {P A B : Type 0} (meaning : Meaning P) (look : Look) (infos : List InfoParts) {some fits : List Row → A → Type 0} {other_some other_fits : List Row → B → Type 0}
    {within other : List (List Row) → ℕ → ℕ → Type 0} (rose : (parts : List (List Row)) (a b : ℕ) → within parts a b → other parts a b) (old new : P) where
  -- what is made of them fits as well
  pub read_told : (x : A) (y : B) → BlocksRead meaning look infos some fits within old (Ok x) new → ((rows : List Row) → some rows x → other_some rows y)
      → ((rows : List Row) → fits rows x → other_fits rows y) → BlocksRead meaning look infos other_some other_fits other old (Ok y) new
  read_told x y h makes_some makes = record {
    pages = h.pages;
    comes = (h.comes.0, h.comes.1, makes_some h.comes.0 h.comes.2);
    told = λ told parts are. makes (flat_map (λ part. part) parts) (h.told told parts are);
    bounded = λ told parts are. rose parts (meaning.reads old) (meaning.reads new) (h.bounded told parts are);
  }

  -- there is no memory for it
  pub read_starved : (x : A) → BlocksRead meaning look infos some fits within old (Ok x) new → BlocksRead meaning look infos other_some other_fits other old (Err Memory) new
  read_starved x h = record {
    pages = h.pages;
    comes = tt;
    told = λ told parts are. tt;
    bounded = λ told parts are. rose parts (meaning.reads old) (meaning.reads new) (h.bounded told parts are);
  }

  -- or nothing is made
  pub read_failed : (why : QueryError) → BlocksRead meaning look infos some fits within old (Err why) new → BlocksRead meaning look infos other_some other_fits other old (Err why) new
  read_failed why h = record {
    pages = h.pages;
    comes = comes_error some other_some look.pin.blocks why h.comes;
    told = λ told parts are. sound_error (fits (flat_map (λ part. part) parts)) (other_fits (flat_map (λ part. part) parts)) why (h.told told parts are);
    bounded = λ told parts are. rose parts (meaning.reads old) (meaning.reads new) (h.bounded told parts are);
  }

-- what is made fits as well, if something is
pub read_as : {P A : Type 0} {some fits other_some other_fits : List Row → A → Type 0} {within other : List (List Row) → ℕ → ℕ → Type 0} (meaning : Meaning P) (look : Look) (infos : List InfoParts)
    (rose : (parts : List (List Row)) (a b : ℕ) → within parts a b → other parts a b) (old new : P) (r : Result A QueryError) → ((x : A) (rows : List Row) → some rows x → other_some rows x)
    → ((x : A) (rows : List Row) → fits rows x → other_fits rows x) → BlocksRead meaning look infos some fits within old r new
    → BlocksRead meaning look infos other_some other_fits other old r new
read_as meaning look infos rose old new (Ok x) to_some to h = read_told meaning look infos rose old new x x h (to_some x) (to x)
read_as meaning look infos rose old new (Err why) to_some to h = read_failed meaning look infos rose old new why h

-- more may be read than was
pub read_widens : {P A : Type 0} {some fits : List Row → A → Type 0} {within other : List (List Row) → ℕ → ℕ → Type 0} (meaning : Meaning P) (look : Look) (infos : List InfoParts)
    (rose : (parts : List (List Row)) (a b : ℕ) → within parts a b → other parts a b) (old new : P) (r : Result A QueryError) → BlocksRead meaning look infos some fits within old r new
    → BlocksRead meaning look infos some fits other old r new
read_widens meaning look infos rose old new r h = record {
  pages = h.pages;
  comes = h.comes;
  told = h.told;
  bounded = λ told parts are. rose parts (meaning.reads old) (meaning.reads new) (h.bounded told parts are);
}

-- there is no memory to begin
pub read_nothing : {P A : Type 0} (meaning : Meaning P) (look : Look) (infos : List InfoParts) (some fits : List Row → A → Type 0) (within : List (List Row) → ℕ → ℕ → Type 0) (port : P)
    → IsOpen meaning port (look_of look) → ((parts : List (List Row)) → within parts (meaning.reads port) (meaning.reads port))
    → BlocksRead meaning look infos some fits within port (Err Memory) port
read_nothing meaning look infos some fits within port is_open rose = record {
  pages = pages_none meaning look port is_open;
  comes = tt;
  told = λ told parts are. tt;
  bounded = λ told parts are. rose parts;
}
