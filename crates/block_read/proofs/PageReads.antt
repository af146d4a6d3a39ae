-- Pages that are read one after the other.
use Rattle.std.proofs.Common.{◌≡◌, ℕ, ◌+◌, ◌-◌, ◌*◌, ◌<◌, ◌≤◌, min, List, [], ◌∷◌, ◌++◌, Some, None, true, false, take, drop, replicate, refl, sym, ap, subst, ◌∙◌, arith}
use Rattle.std.specs.Int.{div_ceil}
use Rattle.std.specs.Prelude.{Bool, IsTrue}
use Rattle.std.proofs.lemmas.List.{drop-drop}
use Rattle.span_types.specs.Faults.{Rose}
use Rattle.block_read.specs.Answers.{RoseAtMost, StaysSame}
use Rattle.block_read.specs.Files.{SameFiles, first_bytes, page_of}
use Rattle.block_read.specs.PageReads.{AreRead, HasRead, OnlyReads, PageRead}
use Rattle.block_read.proofs.PartLaws.{page_more}

-- ---- counts

pub rose_first : (count a : ℕ) → RoseAtMost count a a
rose_first count a = record { later = omega arith; at_most = omega arith }

pub rose_more : (first more count a b c : ℕ) → first + more ≤ count → RoseAtMost first a b → RoseAtMost more b c → RoseAtMost count a c
rose_more first more count a b c sum one two =
    let later = one.later in
    let at_most = one.at_most in
    let later_2 = two.later in
    let at_most_2 = two.at_most in
    record { later = omega (arith, later, later_2); at_most = omega (arith, at_most, at_most_2, sum) }

-- ---- bytes

pub told_first : (held : List ℕ) (length page : ℕ) → page ≡ 0 → first_bytes (min (page * 4096) length) held ≡ []
told_first held length page none = (let zero_is : min (page * 4096) length ≡ 0 = omega (arith, none) in ap (λ (k : ℕ). first_bytes k held) zero_is)

pub told_more : (held : List ℕ) (length page wanted : ℕ) (old new : List ℕ) → page < div_ceil length 4096 → wanted ≡ min (length - page * 4096) 4096 → old ≡ first_bytes (min (page * 4096) length) held → new ≡ old ++ take wanted (page_of held page)
    → new ≡ first_bytes (min ((page + 1) * 4096) length) held
told_more held length page wanted old new low wanted_is old_is new_is =
    let here : min (page * 4096) length ≡ page * 4096 = omega (arith, low) in
    let next : page * 4096 + wanted ≡ min ((page + 1) * 4096) length = omega (arith, low, wanted_is) in
    new_is ∙ ap (λ (l : List ℕ). l ++ take wanted (page_of held page)) (old_is ∙ ap (λ (k : ℕ). first_bytes k held) here)
    ∙ page_more held length page (page * 4096) wanted refl (omega (arith, low)) wanted_is ∙ ap (λ (k : ℕ). first_bytes k held) next

-- a page of what comes after the first pages
pub page_later : (held : List ℕ) (first page : ℕ) → page_of held (first + page) ≡ page_of (drop (4096 * first) held) page
page_later held first page =
    let place : (first + page) * 4096 ≡ 4096 * first + page * 4096 = omega arith in
    ap (λ (l : List ℕ). take 4096 (l ++ replicate 4096 0)) (ap (λ (k : ℕ). drop k held) place ∙ sym (drop-drop (page * 4096) (4096 * first) held))

-- ---- reads change nothing

pub same_first : {P : Type 0} (tells : P → Bool) (held : P → ℕ → List ℕ) (pages : P) → StaysSame tells held pages pages
same_first tells held pages = record { telling = refl; same_files = λ told file. refl }

pub same_then : {P : Type 0} (tells : P → Bool) (held : P → ℕ → List ℕ) (a b c : P) → StaysSame tells held a b → StaysSame tells held b c → StaysSame tells held a c
same_then tells held a b c one two = record {
  telling = two.telling ∙ one.telling;
  same_files = λ told file. two.same_files (subst IsTrue (sym one.telling) told) file ∙ one.same_files told file;
}

-- ---- reads after reads

are_read_then : {S : Type 0} (went : S → PageRead → S → Type 0) (reads more : List PageRead) (a b c : S) → AreRead went a reads b → AreRead went b more c → AreRead went a (reads ++ more) c
are_read_then went [] more a b c one two = subst (λ s. AreRead went s more c) one two
are_read_then went (r ∷ reads) more a b c one two = (one.0, one.1, one.2, one.3, are_read_then went reads more one.0 b c one.4 two)

pub has_read_then : {S : Type 0} (went : S → PageRead → S → Type 0) (failed : Bool) (a b c : S) → HasRead went a false b → HasRead went b failed c → HasRead went a failed c
has_read_then went false a b c one two = (one.0 ++ two.0, are_read_then went one.0 two.0 a b c one.1 two.1)
has_read_then went true a b c one two = (one.0 ++ two.0, two.1, two.2, are_read_then went one.0 two.0 a b two.2 one.1 two.3, two.4, two.5)

module _ {S : Type 0} (tells : S → Bool) (held : S → ℕ → List ℕ) (faults : S → ℕ) (ready : S → ℕ → Type 0) (went : S → PageRead → S → Type 0) (name : S → ℕ) where
  pub none_read : (s : S) → OnlyReads tells held faults ready went name s false s
  none_read s = record { read = ([], refl); still_ready = λ block is. is; named = refl; stays = same_first tells held s; later = omega arith; cause = λ failed. cc }

  -- reads, and then others of which the last may fail
  pub read_then : (failed : Bool) (a b c : S) → OnlyReads tells held faults ready went name a false b → OnlyReads tells held faults ready went name b failed c → OnlyReads tells held faults ready went name a failed c
  read_then failed a b c one two = record {
    read = has_read_then went failed a b c one.read two.read;
    still_ready = λ block is. two.still_ready block (one.still_ready block is);
    named = two.named ∙ one.named;
    stays = same_then tells held a b c one.stays two.stays;
    later = let first = one.later in let second = two.later in omega (arith, first, second);
    cause = λ is. let first = one.later in let rose = two.cause is in omega (arith, first, rose);
  }

  pub one_given : (block page : ℕ) (bytes : List ℕ) (a b : S) → went a (record { block = block; page = page; bytes = Some bytes }) b → ((other : ℕ) → ready a other → ready b other) → name b ≡ name a → tells b ≡ tells a
      → (IsTrue (tells a) → SameFiles (held a) (held b)) → faults a ≤ faults b → OnlyReads tells held faults ready went name a false b
  one_given block page bytes a b goes still same telling files later = record {
    read = (record { block = block; page = page; bytes = Some bytes } ∷ [], (b, bytes, refl, goes, refl));
    still_ready = still;
    named = same;
    stays = record { telling = telling; same_files = files };
    later = later;
    cause = λ failed. cc;
  }

  pub one_failed : (block page : ℕ) (a b : S) → went a (record { block = block; page = page; bytes = None }) b → ((other : ℕ) → ready a other → ready b other) → name b ≡ name a → tells b ≡ tells a
      → (IsTrue (tells a) → SameFiles (held a) (held b)) → faults a ≤ faults b → Rose (faults a) (faults b) → OnlyReads tells held faults ready went name a true b
  one_failed block page a b goes still same telling files later rose = record {
    read = ([], record { block = block; page = page; bytes = None }, a, refl, refl, goes);
    still_ready = still;
    named = same;
    stays = record { telling = telling; same_files = files };
    later = later;
    cause = λ failed. rose;
  }
