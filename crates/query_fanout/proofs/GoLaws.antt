-- What a scan finds that goes on, as it is told of the rows between two stripes.
use Rattle.std.proofs.Common.{◌≡◌, ℕ, zero, suc, ◌+◌, ◌-◌, ◌*◌, ◌<◌, ◌≤◌, true, false, List, [], ◌∷◌, ◌++◌, All, Contains, Err, None, Ok, Option, Result, Some, arith, ap, drop, length, refl, subst, sym, take, ◌∙◌}
use Rattle.std.specs.Prelude.{IfOk, IfSome, if◌then◌else◌, nat_lt, sum_by}
use Rattle.std.specs.Ordering.{is_gt, is_lt, ordering_reverse}
use Rattle.std.specs.declared.cmp.Ordering.{Ordering}
use Rattle.std.specs.declared.cmp.Ordering.TheVariants.{Less, Equal, Greater}
use Rattle.std.proofs.lemmas.Bool.{ltb-false, ltb-true}
use Rattle.std.proofs.lemmas.List.{drop-drop, drop_all, take-append-drop}
use Rattle.std.proofs.lemmas.List.Elements.{All-from_recursion, All-nil, All-weaker}
use Rattle.std.proofs.lemmas.List.Sums.{sum_by-append}
use Rattle.span_types.specs.Orders.{trace_cmp}
use Rattle.span_types.specs.declared.ids.TraceId.{TraceId}
use Rattle.span_types.specs.declared.spans.Row.{Row}
use Rattle.block_info.specs.declared.info.StripeInfo.{StripeInfo}
use Rattle.block_info.specs.InfoParts.{InfoParts}
use Rattle.block_read.specs.Answers.{RoseAtMost}
use Rattle.block_read.specs.declared.error.ReadError.{ReadError}
use Rattle.block_read.specs.declared.error.ReadError.TheVariants as unread
use Rattle.column_scan.specs.Candidates.{HaveLatest, spans_of}
use Rattle.column_scan.specs.Scans.{FindsFit, PartsRows, gone_through, may_scan, rows_between, scanned_pages, stripes_between}
use Rattle.column_scan.specs.Sieves.{SieveParts, sifted_picks}
use Rattle.column_scan.specs.declared.hints.Hint.{Hint}
use Rattle.column_scan.specs.declared.picks.Pick.{Pick}
use Rattle.column_scan.specs.declared.scans.Progress.{Progress}
use Rattle.search_answer.proofs.Fronts.{trace_cmp_total}
use Rattle.store_state.specs.Meaning.{Meaning}
use Rattle.store_state.specs.declared.jobs.Look.{Look}
use Rattle.query_fanout.specs.Reading.{AtMost, BlocksRead, most_of, of_read}
use Rattle.query_fanout.specs.Rounds.{GoesOn, ReadsOn, is_all, is_below, pages_gone, reach_at, reach_of, rows_gone, steps_left}
use Rattle.query_fanout.specs.declared.error.QueryError.{QueryError}
use Rattle.query_fanout.specs.declared.reach.Reach.{Reach}
use Rattle.query_fanout.specs.declared.reach.Reach.TheVariants.{Whole}
use Rattle.query_fanout.specs.declared.scans.Found.{Found}
use Rattle.query_fanout.specs.declared.scans.Scan.{Scan}
use Rattle.query_fanout.proofs.BlockLaws.{read_failed, read_told}
use Rattle.query_fanout.proofs.FewLaws.{rose_more}
use Rattle.query_fanout.proofs.RoundLaws.{sifted_within}

-- ---- lists

take_none : (X : Type 0) (n : ℕ) → take {A = X} n [] ≡ []
take_none X zero = refl
take_none X (suc n) = refl

split_take : {X : Type 0} (n m : ℕ) (xs : List X) → take (n + m) xs ≡ take n xs ++ take m (drop n xs)
split_take zero m xs = let same : zero + m ≡ m = omega arith in ap (λ (k : ℕ). take k xs) same
split_take {X} (suc n) m [] = take_none X (suc n + m) ∙ sym (take_none X m)
split_take (suc n) m (x ∷ xs) = let same : suc n + m ≡ suc (n + m) = omega arith in ap (λ (k : ℕ). take k (x ∷ xs)) same ∙ ap (λ l. x ∷ l) (split_take n m xs)

between : (from next : ℕ) → from ≤ next → 256 * next ≡ 256 * from + 256 * (next - from)
between from next low = omega (arith, low)

-- ---- up to where

turned : (o : Ordering) → is_gt o ≡ false → is_lt (ordering_reverse o) ≡ false
turned Less is = refl
turned Equal is = refl
turned Greater is = cc

-- no row after the last one that was gone over is below it
after_last : (last : Option TraceId) (before after : List Row) → IfSome last (λ id. PartsRows id before after) → All (λ row. is_below (reach_of last) row.span.trace ≡ false) after
after_last None before after parted = λ k d low. refl
after_last (Some id) before after parted =
    All-weaker (λ (row : Row). is_gt (trace_cmp id row.span.trace) ≡ false) (λ (row : Row). is_lt (trace_cmp row.span.trace id) ≡ false)
    (λ row above. ap is_lt (trace_cmp_total.antisymm row.span.trace id) ∙ turned (trace_cmp id row.span.trace) above) after
    (All-from_recursion (λ (row : Row). is_gt (trace_cmp id row.span.trace) ≡ false) after parted.none_below)

-- and at the end there is none
above_reach : (last : Option TraceId) (next size : ℕ) (rows : List Row) → length rows ≤ 256 * size → IfSome last (λ id. PartsRows id (take (256 * next) rows) (drop (256 * next) rows))
    → All (λ row. is_below (reach_at next size last) row.span.trace ≡ false) (drop (256 * next) rows)
above_reach last next size rows few parted = (elim (nat_lt next size) as (λ b. nat_lt next size ≡ b → All (λ row. is_below (reach_at next size last) row.span.trace ≡ false) (drop (256 * next) rows)) [
  | true ↦ λ t. rw t (after_last last (take (256 * next) rows) (drop (256 * next) rows) parted)
  | false ↦ λ t.
      let far = ltb-false next size t in
      subst (λ (l : List Row). All (λ row. is_below (reach_at next size last) row.span.trace ≡ false) l) (sym (drop_all (256 * next) rows (omega (arith, few, far))))
      (All-nil (λ row. is_below (reach_at next size last) row.span.trace ≡ false))
]) refl

-- ---- a scan that goes on

pub goes_on : (sieve : SieveParts) (rows : List Row) (scan next : Scan) (last : Option TraceId) (to : ℕ) (picks : List Pick) → length rows ≤ 256 * length scan.info.now.stripes
    → next.info ≡ scan.info → next.next ≡ to → next.upto ≡ reach_at to (length scan.info.now.stripes) last → scan.next ≤ to
    → HaveLatest (sifted_picks sieve (spans_of (rows_between scan.next to rows))) picks → IfSome last (λ id. PartsRows id (take (256 * to) rows) (drop (256 * to) rows))
    → GoesOn sieve rows scan next picks
goes_on sieve rows scan next last to picks few info_is next_is upto_is low have parted =
    let n = 256 * (to - scan.next) in
    let sum : 256 * to ≡ 256 * scan.next + n = between scan.next to low in
    let gone : rows_gone next ≡ 256 * to = ap (λ (k : ℕ). 256 * k) next_is in record {
      count = n;
      front = ap (λ (k : ℕ). take k rows) (gone ∙ sum) ∙ split_take (256 * scan.next) n rows;
      back = ap (λ (k : ℕ). drop k rows) (gone ∙ sum) ∙ sym (drop-drop n (256 * scan.next) rows);
      whole = have.whole;
      only = All-weaker (Contains (sifted_picks sieve (spans_of (rows_between scan.next to rows)))) (Contains (sifted_picks sieve (spans_of rows))) (within n) picks have.only;
      upto = subst (λ (r : Reach). All (λ row. is_below r row.span.trace ≡ false) (drop (rows_gone next) rows)) (sym upto_is)
          (subst (λ (k : ℕ). All (λ row. is_below (reach_at to (length scan.info.now.stripes) last) row.span.trace ≡ false) (drop k rows)) (sym gone)
          (above_reach last to (length scan.info.now.stripes) rows few parted));
    }
  where
    within : (n : ℕ) (p : Pick) → Contains (sifted_picks sieve (spans_of (take n (drop (256 * scan.next) rows)))) p → Contains (sifted_picks sieve (spans_of rows)) p
    within n p m =
        subst (λ (l : List Row). Contains (sifted_picks sieve (spans_of l)) p)
        (ap (λ (l : List Row). take (256 * scan.next) rows ++ l) (take-append-drop n (drop (256 * scan.next) rows)) ∙ take-append-drop (256 * scan.next) rows)
        (sifted_within sieve (take (256 * scan.next) rows) (take n (drop (256 * scan.next) rows)) (drop n (drop (256 * scan.next) rows)) p m)

-- the pages of the stripes that it goes over
pub pages_on : (hint : Hint) (stripes : List StripeInfo) (from next : ℕ) → from ≤ next
    → scanned_pages hint (take next stripes) ≡ scanned_pages hint (take from stripes) + scanned_pages hint (stripes_between from next stripes)
pages_on hint stripes from next low =
    let pages : StripeInfo → ℕ = λ stripe. if may_scan hint stripe then stripe.pages else 0 in
    let sum : next ≡ from + (next - from) = omega (arith, low) in
    ap (λ (k : ℕ). scanned_pages hint (take k stripes)) sum ∙ ap (sum_by pages) (split_take from (next - from) stripes) ∙ sum_by-append pages (take from stripes) (stripes_between from next stripes)

-- each time fewer steps are left
pub fewer_left : (scan next : Scan) (last : Option TraceId) (to : ℕ) → next.info ≡ scan.info → next.next ≡ to → next.upto ≡ reach_at to (length scan.info.now.stripes) last → scan.next ≤ to
    → (scan.next < length scan.info.now.stripes → scan.next < to) → is_all scan.upto ≡ false → steps_left next < steps_left scan
fewer_left scan next last to info_is next_is upto_is low moves goes_on =
    let size = length scan.info.now.stripes in
    let first : steps_left scan ≡ suc (size - scan.next) = ap (λ b. if b then 0 else suc (size - scan.next)) goes_on in
    let stripes : length next.info.now.stripes ≡ size = ap (λ i. length i.now.stripes) info_is in
    (elim (nat_lt to size) as (λ b. nat_lt to size ≡ b → steps_left next < steps_left scan) [
      | true ↦ λ t.
          let near = ltb-true to size t in
          let more = moves (omega (arith, near, low)) in
          let is : is_all next.upto ≡ false = ap is_all upto_is ∙ ap (λ b. is_all (if b then reach_of last else Whole)) t ∙ not_all last in
          let second : steps_left next ≡ suc (length next.info.now.stripes - next.next) = ap (λ b. if b then 0 else suc (length next.info.now.stripes - next.next)) is in
          omega (arith, first, second, stripes, next_is, near, more)
      | false ↦ λ t.
          let is : is_all next.upto ≡ true = ap is_all upto_is ∙ ap (λ b. is_all (if b then reach_of last else Whole)) t in
          let second : steps_left next ≡ 0 = ap (λ b. if b then 0 else suc (length next.info.now.stripes - next.next)) is in
          omega (arith, first, second)
    ]) refl
  where
    not_all : (last : Option TraceId) → is_all (reach_of last) ≡ false
    not_all None = refl
    not_all (Some id) = refl

-- ---- over a port

-- what a scan tells that stopped there
pub record Tells (sieve : SieveParts) (scan : Scan) (picks : List Pick) (rows : List Row) (progress : Progress) : Type 0 where
  pub few : length rows ≤ 256 * length scan.info.now.stripes
  pub latest : HaveLatest (sifted_picks sieve (spans_of (rows_between scan.next progress.next rows))) picks
  pub parted : IfSome progress.last (λ id. PartsRows id (take (256 * progress.next) rows) (drop (256 * progress.next) rows))

pub finds_both : {A : Type 0} (one other both : A → Type 0) (r : Result A ReadError) → ((x : A) → one x → other x → both x) → FindsFit one r → IfOk r other → FindsFit both r
finds_both one other both (Ok x) make a b = make x a b
finds_both one other both (Err unread.Fault) make a b = tt
finds_both one other both (Err (unread.NotBlock file at)) make a b = a
finds_both one other both (Err unread.Memory) make a b = tt

pub no_rows_read : {A : Type 0} (r : Result A ReadError) → IfOk r (λ x. (rows : List Row) × (rows ≡ []))
no_rows_read (Ok x) = ([], refl)
no_rows_read (Err why) = tt

-- what is so of a scan that stopped
pub of_ok : (r : Result Progress ReadError) (progress : Progress) (so : Progress → Type 0) → Ok progress ≡ of_read r → IfOk r so → so progress
of_ok (Ok x) progress so is h = let same : progress ≡ x = cc in subst so (sym same) h
of_ok (Err unread.Fault) progress so is h = cc
of_ok (Err (unread.NotBlock file at)) progress so is h = cc
of_ok (Err unread.Memory) progress so is h = cc

-- what may be read of one block whatever its rows are
one_most : (m : ℕ) (info : InfoParts) (parts : List (List Row)) → most_of (λ i rows. m) (info ∷ []) parts ≤ m
one_most m info [] = omega arith
one_most m info (p ∷ ps) = omega arith

widened : (m n : ℕ) (info : InfoParts) (parts : List (List Row)) (a b : ℕ) → m ≤ n → AtMost (most_of (λ i rows. m) (info ∷ [])) parts a b → RoseAtMost n a b
widened m n info parts a b low rose =
    let most = one_most m info parts in
    rose_more (most_of (λ i rows. m) (info ∷ []) parts) n a b (omega (arith, most, low)) rose

abbrev pub PartRead : {P : Type 0} → Meaning P → Look → SieveParts → Scan → List Pick → P → Result Progress ReadError → P → Type 0
PartRead meaning look sieve scan picks old r new =
    BlocksRead meaning look (scan.info.now ∷ []) (λ rows x. rows ≡ []) (Tells sieve scan picks)
    (AtMost (most_of (λ i rows. scanned_pages sieve.hint (gone_through scan.next r scan.info.now.stripes)) (scan.info.now ∷ []))) old (of_read r) new

abbrev pub OnRead : {P : Type 0} → Meaning P → Look → SieveParts → Scan → P → Result Found QueryError → P → Type 0
OnRead meaning look sieve scan old r new =
    BlocksRead meaning look (scan.info.now ∷ []) (λ rows found. rows ≡ []) (λ rows found. GoesOn sieve rows scan found.scan found.picks.items) (ReadsOn sieve.hint scan r) old r new

pub read_on : {P : Type 0} (meaning : Meaning P) (look : Look) (sieve : SieveParts) (scan : Scan) (old new : P) (r : Result Progress ReadError) (progress : Progress) (found : Found)
    → PartRead meaning look sieve scan found.picks.items old r new → Ok progress ≡ of_read r → IfOk r (λ x. scan.next ≤ x.next) → found.scan.info ≡ scan.info → found.scan.next ≡ progress.next
    → found.scan.upto ≡ reach_at progress.next (length scan.info.now.stripes) progress.last → OnRead meaning look sieve scan old (Ok found) new
read_on meaning look sieve scan old new (Ok x) progress found h is onward info_is next_is upto_is =
    let same : progress ≡ x = cc in
    let low : scan.next ≤ progress.next = subst (λ (p : Progress). scan.next ≤ p.next) (sym same) onward in
    let stripes = scan.info.now.stripes in
    let pages : pages_gone sieve.hint found.scan ≡ pages_gone sieve.hint scan + scanned_pages sieve.hint (stripes_between scan.next progress.next stripes) =
    ap (λ i. scanned_pages sieve.hint (take found.scan.next i.now.stripes)) info_is ∙ ap (λ (k : ℕ). scanned_pages sieve.hint (take k stripes)) next_is ∙ pages_on sieve.hint stripes scan.next progress.next low in
    read_told meaning look (scan.info.now ∷ [])
    (λ parts a b rose. (
      scanned_pages sieve.hint (stripes_between scan.next progress.next stripes),
      pages,
      widened (scanned_pages sieve.hint (stripes_between scan.next x.next stripes)) (scanned_pages sieve.hint (stripes_between scan.next progress.next stripes)) scan.info.now parts a b
          (subst (λ (p : Progress). scanned_pages sieve.hint (stripes_between scan.next x.next stripes) ≤ scanned_pages sieve.hint (stripes_between scan.next p.next stripes)) (sym same) (omega arith)) rose,
    ))
    old new x found h (λ rows none. none)
    (λ rows tells. subst (λ (p : Progress). Tells sieve scan found.picks.items rows p → GoesOn sieve rows scan found.scan found.picks.items) same
    (λ t. goes_on sieve rows scan found.scan progress.last progress.next found.picks.items t.few info_is next_is upto_is low t.latest t.parted) tells)
read_on meaning look sieve scan old new (Err unread.Fault) progress found h is onward info_is next_is upto_is = cc
read_on meaning look sieve scan old new (Err (unread.NotBlock file at)) progress found h is onward info_is next_is upto_is = cc
read_on meaning look sieve scan old new (Err unread.Memory) progress found h is onward info_is next_is upto_is = cc

pub stopped : {P : Type 0} (meaning : Meaning P) (look : Look) (sieve : SieveParts) (scan : Scan) (picks : List Pick) (old new : P) (r : Result Progress ReadError) (why : QueryError)
    → PartRead meaning look sieve scan picks old r new → Err why ≡ of_read r → OnRead meaning look sieve scan old (Err why) new
stopped meaning look sieve scan picks old new (Ok x) why h is = cc
stopped meaning look sieve scan picks old new (Err e) why h is =
    read_failed meaning look (scan.info.now ∷ [])
    (λ parts a b rose. widened (scanned_pages sieve.hint (drop scan.next scan.info.now.stripes)) (scanned_pages sieve.hint (drop scan.next scan.info.now.stripes)) scan.info.now parts a b (omega arith) rose)
    old new why (subst (λ q. BlocksRead meaning look (scan.info.now ∷ []) (λ rows x. rows ≡ []) (Tells sieve scan picks)
    (AtMost (most_of (λ i rows. scanned_pages sieve.hint (drop scan.next scan.info.now.stripes)) (scan.info.now ∷ []))) old q new) (sym is) h)
