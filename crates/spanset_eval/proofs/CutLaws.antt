-- Lists and results with at most so many members.
use Rattle.std.proofs.Common.{◌≡◌, ℕ, ◌<◌, ◌≤◌, ◌+◌, ◌++◌, List, [], ◌∷◌, Bool, true, false, Option, Some, None, length, map, take, get_or, refl, sym, ap, arith, ◌∙◌, length-append}
use Rattle.std.specs.Prelude.{if◌then◌else◌, nat_lt}
use Rattle.std.specs.List.{filter_map}
use Rattle.std.specs.Option.{option_map, option_to_list}
use Rattle.std.proofs.lemmas.Bool.{ltb-true, ltb-false}
use Rattle.std.proofs.lemmas.List.{length-take, take-append-le, take_all, map-id}
use Rattle.spanset_eval.specs.declared.results.SetResult.{SetResult}
use Rattle.spanset_eval.specs.declared.results.TraceResult.{TraceResult}
use Rattle.spanset_eval.specs.Outcomes.{at_most, cut, cut_set, has_room}
use Rattle.spanset_eval.proofs.AmountLaws.{filter_map_more}

short : {X : Type 0} (o : Option X) → length (option_to_list o) ≤ 1
short None = omega arith
short (Some x) = omega arith

-- One more, where there is room for it.
pub at_most_more : {X : Type 0} (most : Option ℕ) (xs : List X) (o : Option X) →
    (if has_room most (length (at_most most xs)) then at_most most xs ++ option_to_list o else at_most most xs) ≡ at_most most (xs ++ option_to_list o)
at_most_more None xs o = refl
at_most_more (Some n) xs o = go (nat_lt (length (take n xs)) n) refl
  where
    go : (b : Bool) → nat_lt (length (take n xs)) n ≡ b → (if b then take n xs ++ option_to_list o else take n xs) ≡ take n (xs ++ option_to_list o)
    go true h =
        let less : length (take n xs) < n = ltb-true _ _ h in
        let few : length xs < n = omega (arith, length-take n xs) in
        ap (λ ys. ys ++ option_to_list o) (take_all n xs (omega arith))
        ∙ sym (take_all n (xs ++ option_to_list o) (omega (arith, length-append xs (option_to_list o), short o)))
    go false h =
        let full : n ≤ length (take n xs) = ltb-false _ _ h in
        sym (take-append-le n xs (option_to_list o) (omega (arith, length-take n xs)))

-- The next member of a filtered list.
pub at_most_next : {X Y : Type 0} (most : Option ℕ) (f : X → Option Y) (xs : List X) (i : ℕ) (d : X) → i < length xs →
    (if has_room most (length (at_most most (filter_map f (take i xs)))) then at_most most (filter_map f (take i xs)) ++ option_to_list (f (get_or xs i d))
    else at_most most (filter_map f (take i xs))) ≡ at_most most (filter_map f (take (i + 1) xs))
at_most_next most f xs i d l = at_most_more most (filter_map f (take i xs)) (f (get_or xs i d)) ∙ ap (at_most most) (sym (filter_map_more f xs i d l))

-- Where no number is said all is shown.
pub whole_set : (s : SetResult) → cut_set None s ≡ s
whole_set s = refl

pub whole : (o : Option TraceResult) → option_map (cut None) o ≡ o
whole None = refl
whole (Some r) = ap (λ ss. Some (record r { sets = ss })) (map-id r.sets)
