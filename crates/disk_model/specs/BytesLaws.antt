-- Private mechanism: what a write leaves of a file's bytes, how many there are and those outside of the range.
use Rattle.std.proofs.Common.{◌≡◌, ◌⊎◌, inl, inr, ℕ, ◌+◌, ◌-◌, ◌<◌, ◌≤◌, max, List, [], ◌∷◌, ◌++◌, length, get_or, take, drop, replicate, refl, ◌∙◌, ap, arith, length-append, length-take, length-drop}
use Rattle.std.proofs.lemmas.List.{length-replicate, get_or-take, get_or-drop, get_or_append_left, get_or-append_right}
use Rattle.disk_model.specs.Bytes.{overwritten, reach}

length-front : (old : List ℕ) (at : ℕ) → length (take at (old ++ replicate (at - length old) 0)) ≡ at
length-front old at =
    length-take at (old ++ replicate (at - length old) 0) ∙ omega (arith, length-append old (replicate (at - length old) 0), length-replicate {A = ℕ} (at - length old) 0)

pub length-overwritten : (old : List ℕ) (at : ℕ) (bytes : List ℕ) → length (overwritten old at bytes) ≡ max (length old) (reach at (length bytes))
length-overwritten old at [] = omega arith
length-overwritten old at (byte ∷ bytes) =
    let head = take at (old ++ replicate (at - length old) 0) in
    let tail = drop (at + length (byte ∷ bytes)) old in
    omega (arith, length-append (head ++ (byte ∷ bytes)) tail, length-append head (byte ∷ bytes), length-front old at, length-drop (at + length (byte ∷ bytes)) old)

pub get_or-overwritten : (old : List ℕ) (at : ℕ) (bytes : List ℕ) (offset : ℕ) → offset < length old → (offset < at) ⊎ (at + length bytes ≤ offset) → get_or (overwritten old at bytes) offset 0 ≡ get_or old offset 0
get_or-overwritten old at [] offset inside outside = refl
get_or-overwritten old at (byte ∷ bytes) offset inside (inl before) =
    let zeros = replicate (at - length old) 0 in
    let head = take at (old ++ zeros) in
    let tail = drop (at + length (byte ∷ bytes)) old in
    get_or_append_left (head ++ (byte ∷ bytes)) tail 0 offset (omega (arith, length-append head (byte ∷ bytes), length-front old at))
    ∙ get_or_append_left head (byte ∷ bytes) 0 offset (omega (arith, length-front old at))
    ∙ get_or-take at (old ++ zeros) offset 0 before
    ∙ get_or_append_left old zeros 0 offset inside
get_or-overwritten old at (byte ∷ bytes) offset inside (inr behind) =
    let head = take at (old ++ replicate (at - length old) 0) in
    let end = at + length (byte ∷ bytes) in
    let whole : length (head ++ (byte ∷ bytes)) ≡ end = omega (arith, length-append head (byte ∷ bytes), length-front old at) in
    let there : end + (offset - end) ≡ offset = omega arith in
    get_or-append_right (head ++ (byte ∷ bytes)) (drop end old) end offset 0 whole behind
    ∙ get_or-drop end old (offset - end) 0
    ∙ ap (λ (n : ℕ). get_or old n 0) there
