-- A list in chunks: what holds of each of its items does in each chunk, and what was made of all chunks.
use Rattle.std.proofs.Common.{◌≡◌, ℕ, ◌<◌, List, [], ◌∷◌, All, arith, map, max, ap, ◌∙◌, sym, subst, Ok, Err, IfOk, MatchResult, Contains, Bor, Vec, Global}
use Rattle.std.specs.List.{AllZip, AllByRecursion, flat_map}
use Rattle.std.specs.declared.result.Result.{Result}
use Rattle.std.proofs.lemmas.List.Elements.{All-from_recursion}
use Rattle.rayon.specs.Lists.{chunks_of}
use Rattle.rayon.proofs.ListFacts.{All-parts}
use Rattle.rayon.proofs.ToStd.{chunks_of-concat, slice-AllZip}

in_each : {X : Type 0} (P : X → Type 0) (parts : List (List X)) → All P (flat_map (λ l. l) parts) → AllByRecursion (λ part. All P part) parts
in_each P [] each = tt
in_each P (part ∷ parts) each = let both = All-parts P part (flat_map (λ l. l) parts) each in (both.0, in_each P parts both.1)

pub in_each_chunk : {X : Type 0} (P : X → Type 0) (size : ℕ) (xs : List X) → 0 < size → All P xs → All (λ part. All P part) (chunks_of size xs)
in_each_chunk P size xs some each =
    All-from_recursion (λ part. All P part) (chunks_of size xs) (in_each P (chunks_of size xs) (subst (λ l. All P l) (sym (chunks_of-concat size xs some)) each))

-- The chunks of a chain that runs over this list, in chunks of this size.
pub these_chunks : {X : Type 0} (size a : ℕ) (slice b : List X) → 0 < size → a ≡ size → b ≡ slice → chunks_of (max a 1) b ≡ chunks_of size slice
these_chunks size a slice b some is are =
    let one : max size 1 ≡ size = grind (arith, some) in
    ap (λ n. chunks_of (max n 1) b) is ∙ ap (λ n. chunks_of n b) one ∙ ap (chunks_of size) are

-- Where each result is of its item, and all were made, what was made is of the items, in order.
all_made : {X Y : Type 0} (E : Type 0) (S : X → Y → Type 0) (xs : List X) (ys : List Y) → AllZip (λ x r. IfOk {E = E} r (S x)) xs (map Ok ys) → AllZip S xs ys
all_made E S [] [] h = tt
all_made E S [] (y ∷ ys) h = absurd h
all_made E S (x ∷ xs) [] h = absurd h
all_made E S (x ∷ xs) (y ∷ ys) h = (h.0, all_made E S xs ys h.1)

pub collected : {X Y E : Type 0} (S : List X → Y → Type 0) (refs : List (Bor (List X))) (parts : List (List X)) (results : List (Result Y E)) (all : Result (Vec Y Global) E)
    → map (λ part. part.now) refs ≡ parts → AllZip (λ part r. IfOk r (S part.now)) refs results
    → MatchResult all (λ v. (made : List Y) × (results ≡ map Ok made) × (v.items ≡ made)) (λ e. Contains results (Err e))
    → IfOk all (λ v. AllZip S parts v.items)
collected S refs parts results (Err e) are each gathered = tt
collected {X} {Y} {E} S refs parts results (Ok v) are each (made, same, items) =
    subst (λ ys. AllZip S parts ys) (sym items)
    (all_made E S parts made (slice-AllZip refs parts are (λ x r. IfOk {E = E} r (S x)) (map Ok made) (subst (λ rs. AllZip (λ (part : Bor (List X)) r. IfOk r (S part.now)) refs rs) same each)))
