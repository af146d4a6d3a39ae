-- What writes and cuts make of a file's bytes.
use Rattle.std.proofs.Common.{◌≡◌, inl, inr, ℕ, suc, ◌+◌, ◌-◌, ◌<◌, ◌≤◌, List, [], ◌∷◌, ◌++◌, length, get_or, take, drop, replicate, sym, ◌∙◌, ap, arith, length-append, length-take, length-drop, take-append-drop, append_assoc}
use Rattle.std.proofs.lemmas.Bool.{cases_lt}
use Rattle.std.proofs.lemmas.List.{append-nil, drop_all, take_all, take_at, drop_at, drop_more, drop-drop, take-append-le, length-replicate, replicate-append-replicate, ext_get_or, get_or-take, get_or-drop, get_or-append-add, get_or_append_left}
use Rattle.disk_model.specs.Bytes.{overwritten, Torn, HalfCut}

-- more zeros
zeros_more : (at more size : ℕ) → size < at → replicate {A = ℕ} (at + more - size) 0 ≡ replicate (at - size) 0 ++ replicate more 0
zeros_more at more size below =
    let count : at + more - size ≡ (at - size) + more = omega arith in
    ap (λ (n : ℕ). replicate n 0) count ∙ sym {a = replicate (at - size) 0 ++ replicate more 0} (replicate-append-replicate (at - size) more 0)

-- the zeros past the offset don't matter in front of it
take_filled : (old : List ℕ) (at more : ℕ) → take at (old ++ replicate (at + more - length old) 0) ≡ take at (old ++ replicate (at - length old) 0)
take_filled old at more = elim (cases_lt (length old) at) [
  | inl past ↦
      let gap : List ℕ = replicate (at - length old) 0 in
      let longer : List ℕ = replicate more 0 in
      let whole : old ++ replicate (at + more - length old) 0 ≡ (old ++ gap) ++ longer = ap (λ (l : List ℕ). old ++ l) (zeros_more at more (length old) past) ∙ sym (append_assoc old gap longer) in
      let long : at ≤ length (old ++ gap) = omega (arith, length-append old gap, length-replicate {A = ℕ} (at - length old) 0) in
      ap (λ (l : List ℕ). take at l) whole ∙ take-append-le at (old ++ gap) longer long
  | inr inside ↦ take-append-le at old (replicate (at + more - length old) 0) inside ∙ sym (take-append-le at old (replicate (at - length old) 0) inside)
]

-- nor after the range
drop_filled : (old : List ℕ) (end : ℕ) → drop end (old ++ replicate (end - length old) 0) ≡ drop end old
drop_filled old end = elim (cases_lt (length old) end) [
  | inl past ↦ drop_all end (old ++ replicate (end - length old) 0) (omega (arith, length-append old (replicate (end - length old) 0), length-replicate {A = ℕ} (end - length old) 0)) ∙ sym (drop_all end old (omega arith))
  | inr inside ↦
      let none : end - length old ≡ 0 = omega arith in
      ap (λ (n : ℕ). drop end (old ++ replicate n 0)) none ∙ ap (λ (l : List ℕ). drop end l) (append-nil old)
]

-- first the zeros up to the range's end, and then the bytes
pub overwritten_filled : (old : List ℕ) (at : ℕ) (bytes : List ℕ) → 0 < length bytes
    → (let filled = old ++ replicate (at + length bytes - length old) 0 in take at filled ++ bytes ++ drop (at + length bytes) filled) ≡ overwritten old at bytes
overwritten_filled old at [] some = absurd (omega arith)
overwritten_filled old at (byte ∷ bytes) some =
    ap (λ (l : List ℕ). l ++ (byte ∷ bytes) ++ drop (at + length (byte ∷ bytes)) (old ++ replicate (at + length (byte ∷ bytes) - length old) 0)) (take_filled old at (length (byte ∷ bytes)))
    ∙ ap (λ (l : List ℕ). take at (old ++ replicate (at - length old) 0) ++ (byte ∷ bytes) ++ l) (drop_filled old (at + length (byte ∷ bytes)))

-- a write that begins inside of the file or at its end
pub overwritten_inside : (old : List ℕ) (at : ℕ) (bytes : List ℕ) → at ≤ length old → overwritten old at bytes ≡ take at old ++ bytes ++ drop (at + length bytes) old
overwritten_inside old at [] inside =
    let none : at + 0 ≡ at = omega arith in
    sym (ap (λ (l : List ℕ). l ++ drop (at + 0) old) (append-nil (take at old)) ∙ ap (λ (n : ℕ). take at old ++ drop n old) none ∙ take-append-drop at old)
overwritten_inside old at (byte ∷ bytes) inside =
    ap (λ (l : List ℕ). l ++ (byte ∷ bytes) ++ drop (at + length (byte ∷ bytes)) old) (take-append-le at old (replicate (at - length old) 0) inside)

-- the same after a known front
pub overwritten_behind : (front rest : List ℕ) (at : ℕ) (bytes : List ℕ) → at ≡ length front → overwritten (front ++ rest) at bytes ≡ front ++ bytes ++ drop (length bytes) rest
overwritten_behind front rest at bytes is =
    let inside : at ≤ length (front ++ rest) = omega (arith, length-append front rest) in
    overwritten_inside (front ++ rest) at bytes inside
    ∙ ap (λ (l : List ℕ). l ++ bytes ++ drop (at + length bytes) (front ++ rest)) (take_at front rest at (sym is))
    ∙ ap (λ (l : List ℕ). front ++ bytes ++ l) (sym (drop-drop (length bytes) at (front ++ rest)) ∙ ap (λ (l : List ℕ). drop (length bytes) l) (drop_at front rest at (sym is)))

-- at the end of the file
pub overwritten_end : (old : List ℕ) (at : ℕ) (bytes : List ℕ) → at ≡ length old → overwritten old at bytes ≡ old ++ bytes
overwritten_end old at bytes is =
    overwritten_inside old at bytes (omega arith)
    ∙ ap (λ (l : List ℕ). l ++ bytes ++ drop (at + length bytes) old) (take_all at old (omega arith))
    ∙ ap (λ (l : List ℕ). old ++ bytes ++ l) (drop_all (at + length bytes) old (omega arith))
    ∙ append-nil (old ++ bytes)

-- one byte in the middle
pub overwritten_byte : (front : List ℕ) (old : ℕ) (rest : List ℕ) (at new : ℕ) → at ≡ length front → overwritten (front ++ old ∷ rest) at (new ∷ []) ≡ front ++ new ∷ rest
overwritten_byte front old rest at new is = overwritten_behind front (old ∷ rest) at (new ∷ []) is ∙ append_assoc front (new ∷ []) rest

-- contents with the same front
same_front : (front rest new : List ℕ) → length front ≤ length new → ((offset : ℕ) → offset < length front → get_or new offset 0 ≡ get_or (front ++ rest) offset 0) → new ≡ front ++ drop (length front) new
same_front front rest new long same =
    sym (take-append-drop (length front) new)
    ∙ ap (λ (l : List ℕ). l ++ drop (length front) new)
    (ext_get_or 0 (take (length front) new) front (omega (arith, length-take (length front) new))
    (λ offset inside.
    let below : offset < length front = omega (arith, inside, length-take (length front) new) in
    get_or-take (length front) new offset 0 below ∙ same offset below ∙ get_or_append_left front rest 0 offset below))

-- a torn write leaves what stands in front of it
pub torn_behind : (front rest : List ℕ) (at count : ℕ) (new : List ℕ) → length front ≤ at → Torn at count (front ++ rest) new → (left : List ℕ) × (new ≡ front ++ left) × (length rest ≤ length left)
torn_behind front rest at count new before torn =
    let whole : length front + length rest ≤ length new = omega (arith, torn.no_shorter, length-append front rest) in (
      drop (length front) new,
      same_front front rest new (omega arith) (λ offset inside. torn.same offset (omega (arith, inside, length-append front rest)) (inl (omega arith))),
      omega (arith, length-drop (length front) new),
    )

-- a torn write of one byte leaves all but that byte
pub torn_byte : (front : List ℕ) (old : ℕ) (rest : List ℕ) (at : ℕ) (new : List ℕ) → at ≡ length front → Torn at 1 (front ++ old ∷ rest) new → (byte : ℕ) × (new ≡ front ++ byte ∷ rest)
torn_byte front old rest at new is torn =
    let long : length (front ++ old ∷ rest) ≡ at + 1 + length rest = omega (arith, length-append front (old ∷ rest)) in
    let size : length new ≡ at + 1 + length rest = omega (arith, torn.no_shorter, torn.no_longer, long) in
    let start : new ≡ front ++ drop (length front) new = same_front front (old ∷ rest) new (omega arith) (λ offset inside. torn.same offset (omega (arith, inside, long)) (inl (omega arith))) in
    let next : drop (length front) new ≡ get_or new (length front) 0 ∷ drop (length front + 1) new = drop_more new (length front) 0 (omega arith) in
    let tail : drop (length front + 1) new ≡ rest =
    ext_get_or 0 (drop (length front + 1) new) rest (omega (arith, length-drop (length front + 1) new, size))
    (λ offset inside.
    let below : offset < length rest = omega (arith, inside, length-drop (length front + 1) new, size) in
    let there : at + 1 + offset ≡ length front + suc offset = omega arith in
    get_or-drop (length front + 1) new offset 0
    ∙ ap (λ (n : ℕ). get_or new n 0) (let same : length front + 1 + offset ≡ at + 1 + offset = omega arith in same)
    ∙ torn.same (at + 1 + offset) (omega (arith, below, long)) (inr (omega arith))
    ∙ ap (λ (n : ℕ). get_or (front ++ old ∷ rest) n 0) there
    ∙ get_or-append-add front (old ∷ rest) (suc offset) 0) in
    (get_or new (length front) 0, start ∙ ap (λ (l : List ℕ). front ++ l) (next ∙ ap (λ (l : List ℕ). get_or new (length front) 0 ∷ l) tail))

-- a half done cut leaves what stands below its length
pub half_cut_front : (front rest : List ℕ) (len : ℕ) (new : List ℕ) → length front ≤ len → HalfCut len (front ++ rest) new → (left : List ℕ) × (new ≡ front ++ left)
half_cut_front front rest len new below cut =
    let long : length front ≤ length new = omega (arith, cut.no_shorter, length-append front rest) in (
      drop (length front) new,
      same_front front rest new long (λ offset inside. cut.same offset (omega arith) (omega (arith, inside, length-append front rest)) (omega (arith, inside, long))),
    )
