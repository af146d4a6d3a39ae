-- Rows that lie between two lists which have a history's first occurrences, and those of a store whose flush was committed.
use Rattle.std.proofs.Common.{◌≡◌, ◌⊎◌, inl, inr, ℕ, ◌+◌, ◌≤◌, zero, suc, List, [], ◌∷◌, ◌++◌, drop, Option, None, Some, Bool, true, false, if◌then◌else◌, refl, sym, ◌∙◌, ap, subst, arith}
use Rattle.std.specs.List.{Contains}
use Rattle.std.specs.Ordering.{is_lt, ordering_reverse}
use Rattle.std.specs.declared.cmp.Ordering.{Ordering}
use Rattle.std.specs.declared.cmp.Ordering.TheVariants.{Less, Equal, Greater}
use Rattle.std.proofs.lemmas.Grind.{flat_map-append}
use Rattle.std.proofs.lemmas.List.{append-nil}
use Rattle.std.proofs.lemmas.List.Elements.{Contains-append_cases, Contains-append_left, Contains-append_right}
use Rattle.span_types.specs.declared.ids.Key.{Key}
use Rattle.span_types.specs.declared.spans.Span.{Span}
use Rattle.span_types.specs.declared.spans.Row.{Row}
use Rattle.span_types.specs.Orders.{place_cmp}
use Rattle.span_types.specs.First.{first_at, lesser}
use Rattle.span_types.proofs.FirstLaws.{place_cmp_total, lesser-none, first_at-append}
use Rattle.store_model.specs.History.{History, batch_rows, record_rows}
use Rattle.store_model.specs.Laws.{AgreesOn}
use Rattle.store_model.specs.RowSets.{OnePlace, Within}
use Rattle.store_model.specs.State.{Block, block_rows}
use Rattle.store_model.proofs.KeepsFirsts.{number_in}
use Rattle.store_model.proofs.RowSetLaws.{any_order}
use Rattle.store_images.specs.Stored.{stored_rows}
use Rattle.store_images.proofs.Lists.{not_in_nil}

-- ---- between

-- of two places not each is before the other
not_both : (o p : Ordering) → p ≡ ordering_reverse o → is_lt o ≡ true → is_lt p ≡ true → ⊥
not_both Less p is one two = let three : is_lt p ≡ false = ap is_lt is in let bad : true ≡ false = sym two ∙ three in cc
not_both Equal p is one two = let bad : false ≡ true = one in cc
not_both Greater p is one two = let bad : false ≡ true = one in cc

-- two rows of which each is the lesser of both
each_lesser : (b c : Row) → Some b ≡ lesser (Some c) (Some b) → Some c ≡ lesser (Some b) (Some c) → Some c ≡ Some b
each_lesser b c one two = at (is_lt (place_cmp b.place c.place)) (is_lt (place_cmp c.place b.place)) refl refl
  where
    at : (s t : Bool) → is_lt (place_cmp b.place c.place) ≡ s → is_lt (place_cmp c.place b.place) ≡ t → Some c ≡ Some b
    at true true e f = absurd (not_both (place_cmp b.place c.place) (place_cmp c.place b.place) (place_cmp_total.antisymm c.place b.place) e f)
    at false t e f = sym (one ∙ ap (λ (x : Bool). if x then Some b else Some c) e)
    at true false e f = two ∙ ap (λ (x : Bool). if x then Some c else Some b) f

-- the first row of the inner list and of the outer one is that of the rows between
same_first : (x r : Option Row) → x ≡ lesser r x → r ≡ lesser x r → r ≡ x
same_first None r one two = sym (one ∙ lesser-none r)
same_first (Some b) None one two = two
same_first (Some b) (Some c) one two = each_lesser b c one two

joined_rows : (xs ys : List Row) → Within xs ys → (k : Key) → OnePlace ys → first_at k ys ≡ lesser (first_at k xs) (first_at k ys)
joined_rows xs ys within k one = any_order ys (xs ++ ys) one (
  (λ x c. Contains-append_right xs ys x c),
  (λ x c. elim (Contains-append_cases xs ys x c) [ inl here ↦ within x here | inr there ↦ there ]),
) k ∙ first_at-append k xs ys

pub between : (inner rows outer : List Row) (h : History) → AgreesOn inner h → AgreesOn outer h → Within inner rows → Within rows outer → AgreesOn rows h
between inner rows outer h low high from to = record {
  firsts = λ k.
      let one : first_at k outer ≡ lesser (first_at k rows) (first_at k outer) = joined_rows rows outer to k high.one in
      let two : first_at k rows ≡ lesser (first_at k inner) (first_at k rows) = joined_rows inner rows from k own in
      let same : first_at k inner ≡ first_at k outer = low.firsts k ∙ sym (high.firsts k) in
      same_first (first_at k outer) (first_at k rows) one (two ∙ ap (λ (o : Option Row). lesser o (first_at k rows)) same) ∙ high.firsts k;
  one = own;
  below = λ x c. high.below x (to x c);
}
  where
    own : OnePlace rows
    own = λ x y hx hy e. high.one x y (to x hx) (to y hy) e

-- ---- the records of a log from a number on

pub later_in : (n k : ℕ) (batches : List (List Span)) (x : Row) → Contains (record_rows (n + k) (drop k batches)) x → Contains (record_rows n batches) x
later_in n zero [] x c = absurd (not_in_nil x c)
later_in n zero (b ∷ bs) x c = subst (λ (m : ℕ). Contains (record_rows m (b ∷ bs)) x) (let e : n + 0 ≡ n = omega arith in e) c
later_in n (suc k) [] x c = absurd (not_in_nil x c)
later_in n (suc k) (b ∷ bs) x c =
    Contains-append_right (batch_rows n b) (record_rows (n + 1) bs) x
    (later_in (n + 1) k bs x (subst (λ (m : ℕ). Contains (record_rows m (drop k bs)) x) (let e : n + suc k ≡ n + 1 + k = omega arith in e) c))

pub in_later : (n k : ℕ) (batches : List (List Span)) (x : Row) → Contains (record_rows n batches) x → n + k ≤ x.place.number → Contains (record_rows (n + k) (drop k batches)) x
in_later n zero [] x c high = absurd (not_in_nil x c)
in_later n zero (b ∷ bs) x c high = subst (λ (m : ℕ). Contains (record_rows m (b ∷ bs)) x) (let e : n ≡ n + 0 = omega arith in e) c
in_later n (suc k) [] x c high = absurd (not_in_nil x c)
in_later n (suc k) (b ∷ bs) x c high = elim (Contains-append_cases (batch_rows n b) (record_rows (n + 1) bs) x c) [
  | inl here ↦ absurd (let own = number_in n b x here in omega (arith, own, high))
  | inr there ↦ subst (λ (m : ℕ). Contains (record_rows m (drop k bs)) x) (let e : n + 1 + k ≡ n + suc k = omega arith in e) (in_later (n + 1) k bs x there (omega (arith, high)))
]

-- ---- a flush was committed

pub flushed : (blocks : List Block) (block : Block) (first k : ℕ) (batches : List (List Span)) (waiting : List Row) (h : History)
    → AgreesOn (stored_rows blocks first batches) h → AgreesOn (block_rows (blocks ++ block ∷ []) ++ waiting) h
    → Within (block.rows ++ waiting) (stored_rows blocks first batches)
    → ((x : Row) → Contains waiting x → first + k ≤ x.place.number)
    → AgreesOn (stored_rows (blocks ++ block ∷ []) (first + k) (drop k batches)) h
flushed blocks block first k batches waiting h high low kept above =
    between (block_rows (blocks ++ block ∷ []) ++ waiting) (stored_rows (blocks ++ block ∷ []) (first + k) (drop k batches)) (stored_rows blocks first batches) h low high from to
  where
    parts : block_rows (blocks ++ block ∷ []) ≡ block_rows blocks ++ block.rows
    parts = flat_map-append (λ (b : Block). b.rows) blocks (block ∷ []) ∙ ap (λ (r : List Row). block_rows blocks ++ r) (append-nil block.rows)

    in_block : (x : Row) → Contains (block_rows (blocks ++ block ∷ [])) x → Contains (block_rows blocks) x ⊎ Contains block.rows x
    in_block x c = Contains-append_cases (block_rows blocks) block.rows x (subst (λ (r : List Row). Contains r x) parts c)

    from : Within (block_rows (blocks ++ block ∷ []) ++ waiting) (stored_rows (blocks ++ block ∷ []) (first + k) (drop k batches))
    from x c = elim (Contains-append_cases (block_rows (blocks ++ block ∷ [])) waiting x c) [
      | inl built ↦ Contains-append_left (block_rows (blocks ++ block ∷ [])) (record_rows (first + k) (drop k batches)) x built
      | inr waits ↦ elim (Contains-append_cases (block_rows blocks) (record_rows first batches) x (kept x (Contains-append_right block.rows waiting x waits))) [
        | inl built ↦ Contains-append_left (block_rows (blocks ++ block ∷ [])) (record_rows (first + k) (drop k batches)) x
            (subst (λ (r : List Row). Contains r x) (sym parts) (Contains-append_left (block_rows blocks) block.rows x built))
        | inr logged ↦ Contains-append_right (block_rows (blocks ++ block ∷ [])) (record_rows (first + k) (drop k batches)) x (in_later first k batches x logged (above x waits))
      ]
    ]

    to : Within (stored_rows (blocks ++ block ∷ []) (first + k) (drop k batches)) (stored_rows blocks first batches)
    to x c = elim (Contains-append_cases (block_rows (blocks ++ block ∷ [])) (record_rows (first + k) (drop k batches)) x c) [
      | inl built ↦ elim (in_block x built) [
        | inl old ↦ Contains-append_left (block_rows blocks) (record_rows first batches) x old
        | inr new ↦ kept x (Contains-append_left block.rows waiting x new)
      ]
      | inr logged ↦ Contains-append_right (block_rows blocks) (record_rows first batches) x (later_in first k batches x logged)
    ]
