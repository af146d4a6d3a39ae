-- The folder and the words among the arguments.
use Rattle.std.proofs.Common.{◌≡◌, ◌≤◌, List, [], ◌∷◌, Some, Result, Ok, ap, arith, drop, length, map, refl, string_bytes, sym, ◌∙◌, slice_index_or}
use Rattle.std.specs.Prelude.{String, Vec}
use Rattle.std.specs.List.{remove}
use Rattle.std.specs.declared.alloc.Global.{Global}
use Rattle.trace_shell.specs.declared.program.Unread.{Unread}
use Rattle.trace_shell.specs.Arguments.{given_by, parted}

none_dropped : (xs : List (String Global)) → drop 0 xs ≡ xs
none_dropped [] = refl
none_dropped (x ∷ xs) = refl

behind_two : (xs ys zs : List (String Global)) (folder : String Global) → 2 ≤ length xs → ys ≡ remove xs 0 → folder ≡ slice_index_or ys 0 folder → zs ≡ remove ys 0
    → parted (map string_bytes xs) ≡ Some (string_bytes folder, map string_bytes zs)
behind_two [] ys zs folder some first is later = absurd (omega (arith, some))
behind_two (x ∷ []) ys zs folder some first is later = absurd (omega (arith, some))
behind_two (x ∷ y ∷ xs) ys zs folder some first is later =
    let rest : ys ≡ y ∷ xs = first ∙ none_dropped (y ∷ xs) in
    let named : folder ≡ y = is ∙ ap (λ (l : List (String Global)). slice_index_or l 0 folder) rest in
    let words : zs ≡ xs = later ∙ ap (λ (l : List (String Global)). remove l 0) rest ∙ none_dropped xs in
    sym (ap (λ (s : String Global). Some (string_bytes s, map string_bytes zs)) named ∙ ap (λ (l : List (String Global)). Some (string_bytes y, map string_bytes l)) words)

-- With two arguments or more there are a folder and words.
pub given_there : (r : Result (Vec (String Global) Global) Unread) (arguments first later : Vec (String Global) Global) (folder : String Global) → r ≡ Ok arguments
    → 2 ≤ length arguments.items → first.items ≡ remove arguments.items 0 → folder ≡ slice_index_or first.items 0 folder → later.items ≡ remove first.items 0
    → given_by r ≡ Some (string_bytes folder, map string_bytes later.items)
given_there r arguments first later folder is some one named two =
    ap given_by is ∙ behind_two arguments.items first.items later.items folder some one named two
