-- A set of positions has one list, and so a query answers one thing of a trace.
use Rattle.std.proofs.Common.{◌≡◌, ◌⊎◌, inl, inr, ℕ, zero, suc, ◌<◌, List, [], ◌∷◌, Option, refl, sym, ◌∙◌, ap, subst, arith, length, Contains, slice_index_or}
use Rattle.std.specs.List.{AllPairs}
use Rattle.std.proofs.lemmas.List.Kept.{AllPairs-from_increasing}
use Rattle.span_types.specs.declared.spans.Row.{Row}
use Rattle.spanset_eval.specs.declared.results.TraceResult.{TraceResult}
use Rattle.spanset_eval.specs.Outcomes.{IsListOf, IsOutcome, shown}
use Rattle.spanset_eval.specs.Stages.{remaining, selected_fields}
use Rattle.traceql_syntax.specs.Trees.{QueryTree}
use Rattle.traceql_types.specs.declared.pattern.Pattern.{Pattern}

abbrev Up : List ℕ → Type 0
Up xs = AllPairs (λ a b. a < b) xs

-- a member is the head or stands after it
split : (x : ℕ) (xs : List ℕ) (y k : ℕ) → k < length (x ∷ xs) → slice_index_or (x ∷ xs) k y ≡ y → (x ≡ y) ⊎ Contains xs y
split x xs y zero l e = inl e
split x xs y (suc k) l e = inr (k, omega arith, e)

behind : (x : ℕ) (xs : List ℕ) → Up (x ∷ xs) → (y k : ℕ) → k < length xs → slice_index_or xs k y ≡ y → x < y
behind x xs up y k l e = subst (λ n. x < n) e (up 0 (suc k) y (omega arith) (omega arith))

tail : (x : ℕ) (xs : List ℕ) → Up (x ∷ xs) → Up xs
tail x xs up = λ i j d l h. up (suc i) (suc j) d (omega arith) (omega arith)

there : (x : ℕ) (xs : List ℕ) (y : ℕ) → Contains xs y → Contains (x ∷ xs) y
there x xs y (k, l, e) = (suc k, omega arith, e)

heads : (x : ℕ) (xs : List ℕ) (y : ℕ) (ys : List ℕ) → Up (x ∷ xs) → Up (y ∷ ys) → (y ≡ x) ⊎ Contains ys x → (x ≡ y) ⊎ Contains xs y → x ≡ y
heads x xs y ys a b (inl e) other = sym e
heads x xs y ys a b (inr one) (inl e) = e
heads x xs y ys a b (inr (k, l, e)) (inr (m, h, f)) =
    let up : y < x = behind y ys b x k l e in
    let down : x < y = behind x xs a y m h f in
    absurd (omega arith)

-- a member after the head of one list is after the head of the other
moved : (x : ℕ) (xs : List ℕ) (y : ℕ) (ys : List ℕ) → Up (x ∷ xs) → x ≡ y → (n : ℕ) → Contains xs n → (y ≡ n) ⊎ Contains ys n → Contains ys n
moved x xs y ys a same n (k, l, e) (inl is) =
    let less : x < n = behind x xs a n k l e in
    absurd (omega arith)
moved x xs y ys a same n one (inr c) = c

one : (xs ys : List ℕ) → Up xs → Up ys → ((n : ℕ) → Contains xs n → Contains ys n) → ((n : ℕ) → Contains ys n → Contains xs n) → xs ≡ ys
one [] [] a b f g = refl
one [] (y ∷ ys) a b f g = let c = g y (0, omega arith, refl) in absurd (omega (arith, c.1))
one (x ∷ xs) [] a b f g = let c = f x (0, omega arith, refl) in absurd (omega (arith, c.1))
one (x ∷ xs) (y ∷ ys) a b f g =
    let of_x = f x (0, omega arith, refl) in
    let of_y = g y (0, omega arith, refl) in
    let same : x ≡ y = heads x xs y ys a b (split y ys x of_x.0 of_x.1 of_x.2) (split x xs y of_y.0 of_y.1 of_y.2) in
    let rest : xs ≡ ys = one xs ys (tail x xs a) (tail y ys b)
    (λ n c. let d = f n (there x xs n c) in moved x xs y ys a same n c (split y ys n d.0 d.1 d.2))
    (λ n c. let d = g n (there y ys n c) in moved y ys x xs b (sym same) n c (split x xs n d.0 d.1 d.2)) in
    ap (λ n. n ∷ xs) same ∙ ap (λ l. y ∷ l) rest

pub one_list : (A : ℕ → Type 0) (xs ys : List ℕ) → IsListOf A xs → IsListOf A ys → xs ≡ ys
one_list A xs ys a b =
    one xs ys (AllPairs-from_increasing xs a.ascending) (AllPairs-from_increasing ys b.ascending) (λ n c. b.whole n (a.only n c)) (λ n c. a.whole n (b.only n c))

pub one_outcome : (ps : List Pattern) (rows : List Row) (q : QueryTree) (a b : Option TraceResult) → IsOutcome ps rows q a → IsOutcome ps rows q b → a ≡ b
one_outcome ps rows q a b x y =
    x.is ∙ ap (λ s. shown (selected_fields q.stages) rows (remaining ps rows q.stages s)) (one_list _ x.selected y.selected x.lists y.lists) ∙ sym y.is
