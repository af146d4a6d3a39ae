-- Picks that are taken in turns.
use Rattle.std.proofs.Common.{◌≡◌, ℕ, ◌+◌, ◌≤◌, ◌<◌, List, [], ◌∷◌, ◌++◌, length, map, take, drop, arith, append-nil, refl, sym, ap, subst, ◌∙◌, slice_index_or}
use Rattle.std.specs.Prelude.{sum_by}
use Rattle.std.specs.List.{flat_map}
use Rattle.std.proofs.lemmas.Grind.{flat_map-append}
use Rattle.std.proofs.lemmas.List.{get_or_append_left, length-append, map-append, take_more, take-append-drop}
use Rattle.std.proofs.lemmas.List.Sums.{sum_by-append}
use Rattle.span_types.specs.declared.spans.Row.{Row}
use Rattle.block_info.specs.InfoParts.{InfoParts}
use Rattle.block_read.specs.Answers.{RoseAtMost}
use Rattle.column_scan.specs.declared.picks.Pick.{Pick}
use Rattle.search_answer.specs.Keeping.{BestParts}
use Rattle.query_fanout.specs.Bounds.{look_up_pages}
use Rattle.query_fanout.specs.Reading.{AtMost, look_ups}
use Rattle.query_fanout.specs.Searching.{TakenTheirs, TakenWith, TakesTheirs, TakesWith}
use Rattle.query_fanout.specs.Taking.{AreApart, TakesMore, TakesMoreRead, open_picks, traces_of}
use Rattle.query_fanout.specs.declared.searching.Asked.{Asked}
use Rattle.query_fanout.proofs.FewLaws.{rose_more}

-- ---- one more few

pub none_taken : (asked : Asked) (own : List Row) (old best : BestParts) → best ≡ old → TakenTheirs asked own [] old [] best
none_taken asked own old best is = ([], (is, refl), refl)

pub more_taken : (more : TakesMore) (asked : Asked) (own : List Row) (each : List (List Pick)) (few : List Pick) (old mid new : BestParts) (rows : List Row) → TakenWith asked own each old rows mid
    → TakesWith asked own few mid rows new → TakenWith asked own (each ++ few ∷ []) old rows new
more_taken more asked own each few old mid new rows taken takes =
    (taken.0 ++ traces_of (open_picks mid few), more asked (own ++ rows) each few old mid new taken.0 taken.1 takes)

pub more_read : (more : TakesMoreRead) (asked : Asked) (own : List Row) (each : List (List Pick)) (few : List Pick) (old mid new : BestParts) (some rows : List Row)
    → AreApart (flat_map (λ l. l) each ++ few) → TakenTheirs asked own each old some mid → TakesTheirs asked own few mid rows new → TakenTheirs asked own (each ++ few ∷ []) old (some ++ rows) new
more_read more asked own each few old mid new some rows apart taken takes =
    let both = more asked own some rows each few old mid new taken.0 apart taken.1 taken.2 takes.0 takes.1 in
    (taken.0 ++ traces_of (open_picks mid few), both.0, both.1)

-- ---- picks in turns

pub next_turn : {X : Type 0} (turns : List X) (now : X → List Pick) (i : ℕ) (d : X) → i < length turns → map now (take (i + 1) turns) ≡ map now (take i turns) ++ now (slice_index_or turns i d) ∷ []
next_turn turns now i d low = ap (map now) (take_more turns i d low) ∙ map-append now (take i turns) (slice_index_or turns i d ∷ [])

joined : (each : List (List Pick)) (few : List Pick) → flat_map (λ l. l) (each ++ few ∷ []) ≡ flat_map (λ l. l) each ++ few
joined each few = flat_map-append (λ (l : List Pick). l) each (few ∷ []) ∙ ap (λ (l : List Pick). flat_map (λ l. l) each ++ l) (append-nil few)

pub flat_mapped : {X : Type 0} (turns : List X) (now : X → List Pick) → flat_map (λ l. l) (map now turns) ≡ flat_map now turns
flat_mapped [] now = refl
flat_mapped (x ∷ xs) now = ap (λ (l : List Pick). now x ++ l) (flat_mapped xs now)

front_apart : (xs ys : List Pick) → AreApart (xs ++ ys) → AreApart xs
front_apart xs ys apart i j d before here =
    let size = length-append xs ys in
    subst (λ (q : Pick). (slice_index_or xs i d).trace ≡ q.trace → ⊥) (get_or_append_left xs ys d j here)
    (subst (λ (p : Pick). p.trace ≡ (slice_index_or (xs ++ ys) j d).trace → ⊥) (get_or_append_left xs ys d i (omega (arith, before, here)))
    (apart i j d before (omega (arith, here, size))))

whole_flat : {X : Type 0} (now : X → List Pick) (turns : List X) (i : ℕ) → flat_map now turns ≡ flat_map now (take i turns) ++ flat_map now (drop i turns)
whole_flat now turns i = ap (flat_map now) (sym (take-append-drop i turns)) ∙ flat_map-append now (take i turns) (drop i turns)

pub turn_apart : {X : Type 0} (turns : List X) (now : X → List Pick) (i : ℕ) (d : X) → i < length turns → AreApart (flat_map now turns)
    → AreApart (flat_map (λ l. l) (map now (take i turns)) ++ now (slice_index_or turns i d))
turn_apart turns now i d low apart =
    subst AreApart (sym (flat_mapped (take (i + 1) turns) now) ∙ ap (flat_map (λ l. l)) (next_turn turns now i d low) ∙ joined (map now (take i turns)) (now (slice_index_or turns i d)))
    (front_apart (flat_map now (take (i + 1) turns)) (flat_map now (drop (i + 1) turns)) (subst AreApart (whole_flat now turns (i + 1)) apart))

-- ---- what may be read in turns

pub sum_more : (xs ys : List Pick) (infos : List InfoParts) (parts : List (List Row)) → look_ups (traces_of (xs ++ ys)) infos parts ≡ look_ups (traces_of xs) infos parts + look_ups (traces_of ys) infos parts
sum_more xs ys infos parts =
    ap (sum_by (λ id. look_up_pages id infos parts)) (map-append (λ (p : Pick). p.trace) xs ys) ∙ sum_by-append (λ id. look_up_pages id infos parts) (traces_of xs) (traces_of ys)

both_rose : (m n k a b c : ℕ) → k ≡ m + n → RoseAtMost m a b → RoseAtMost n b c → RoseAtMost k a c
both_rose m n k a b c is one two =
    let p = one.later in
    let q = one.at_most in
    let r = two.later in
    let s = two.at_most in
    record { later = omega (arith, p, r); at_most = omega (arith, q, s, is) }

pub turn_rose : (each : List (List Pick)) (few : List Pick) (infos : List InfoParts) (parts : List (List Row)) (a b c : ℕ)
    → AtMost (look_ups (traces_of (flat_map (λ l. l) each)) infos) parts a b → AtMost (look_ups (traces_of few) infos) parts b c
    → AtMost (look_ups (traces_of (flat_map (λ l. l) (each ++ few ∷ []))) infos) parts a c
turn_rose each few infos parts a b c one two =
    both_rose (look_ups (traces_of (flat_map (λ l. l) each)) infos parts) (look_ups (traces_of few) infos parts) (look_ups (traces_of (flat_map (λ l. l) (each ++ few ∷ []))) infos parts) a b c
    (ap (λ (l : List Pick). look_ups (traces_of l) infos parts) (joined each few) ∙ sum_more (flat_map (λ l. l) each) few infos parts) one two

add_more : (m n k : ℕ) → k ≡ m + n → m ≤ k
add_more m n k is = omega (arith, is)

pub turns_widen : {X : Type 0} (turns : List X) (now : X → List Pick) (i : ℕ) (infos : List InfoParts) (parts : List (List Row)) (a b : ℕ)
    → AtMost (look_ups (traces_of (flat_map (λ l. l) (map now (take i turns)))) infos) parts a b → AtMost (look_ups (traces_of (flat_map now turns)) infos) parts a b
turns_widen turns now i infos parts a b rose =
    rose_more (look_ups (traces_of (flat_map (λ l. l) (map now (take i turns)))) infos parts) (look_ups (traces_of (flat_map now turns)) infos parts) a b
    (subst (λ (l : List Pick). look_ups (traces_of l) infos parts ≤ look_ups (traces_of (flat_map now turns)) infos parts) (sym (flat_mapped (take i turns) now))
    (add_more (look_ups (traces_of (flat_map now (take i turns))) infos parts) (look_ups (traces_of (flat_map now (drop i turns))) infos parts) (look_ups (traces_of (flat_map now turns)) infos parts)
    (ap (λ (l : List Pick). look_ups (traces_of l) infos parts) (whole_flat now turns i)
    ∙ sum_more (flat_map now (take i turns)) (flat_map now (drop i turns)) infos parts))) rose
