-- Facts on the bytes of a buffer.
use Rattle.std.proofs.Common.{◌≡◌, ℕ, ◌+◌, ◌-◌, ◌≤◌, List, length, take, drop, sym, ap, ◌∙◌, arith, length-take}
use Rattle.std.proofs.lemmas.List.{drop-drop, drop-take}

-- What is pending once `count` bytes of it are passed.
pub drop-pending : (bytes : List ℕ) (start end count : ℕ) → count ≤ length (take (end - start) (drop start bytes))
    → take (end - (start + count)) (drop (start + count) bytes) ≡ drop count (take (end - start) (drop start bytes))
drop-pending bytes start end count within =
    let left = end - (start + count) in
    let parts : count + left ≡ end - start = omega (arith, length-take (end - start) (drop start bytes)) in
    sym (ap (take left) (drop-drop count start bytes))
    ∙ sym (drop-take count left (drop start bytes))
    ∙ ap (λ n. drop count (take n (drop start bytes))) parts
