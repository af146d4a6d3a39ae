-- Where a token may end, so that the text can be cut there.
use Rattle.std.proofs.Common.{◌≡◌, ℕ, ◌+◌, ◌<◌, ◌≤◌, List, ◌++◌, length, get_or, drop, ap, sym, subst, arith, get_or-drop, length-drop, length-append}
use Rattle.std.specs.Str.{IsUtf8, IsCharBoundary}
use Rattle.std.proofs.lemmas.Str.{IsCharBoundary-before_ascii, IsCharBoundary-after_ascii, IsCharBoundary-end}

-- before a byte that is a character by itself, after one, or at the end
pub data End (bs : List ℕ) (n : ℕ) : Type 0 where
  before : n < length bs → get_or bs n 0 < 128 → End bs n
  behind : (m : ℕ) → n ≡ m + 1 → m < length bs → get_or bs m 0 < 128 → End bs n
  whole : n ≡ length bs → End bs n

pub boundary : (bs : List ℕ) (n : ℕ) → IsUtf8 bs → End bs n → IsCharBoundary bs n
boundary bs n u (before l a) = IsCharBoundary-before_ascii bs n l a
boundary bs n u (behind m e l a) = subst (λ k. IsCharBoundary bs k) (sym e) (IsCharBoundary-after_ascii bs m u l a)
boundary bs n u (whole e) = subst (λ k. IsCharBoundary bs k) (sym e) (IsCharBoundary-end bs)

-- an end in what follows k bytes is an end
pub end_behind : (bs : List ℕ) (k n : ℕ) → k ≤ length bs → End (drop k bs) n → End bs (k + n)
end_behind bs k n h (before l a) =
    before (omega (arith, length-drop k bs)) (subst (λ b. b < 128) (get_or-drop k bs n 0) a)
end_behind bs k n h (behind m e l a) =
    behind (k + m) (omega arith) (omega (arith, length-drop k bs)) (subst (λ b. b < 128) (get_or-drop k bs m 0) a)
end_behind bs k n h (whole e) = whole (omega (arith, length-drop k bs))

-- What the lexer found: a word that is P, so many bytes, with a rest after it, and an end between them.
pub record Found (bs : List ℕ) (n : ℕ) (P : List ℕ → Type 0) : Type 0 where
  pub word : List ℕ
  pub rest : List ℕ
  pub parted : bs ≡ word ++ rest
  pub size : n ≡ length word
  pub is : P word
  pub end : End bs n
  pub some : 0 < n

pub found_fits : (bs : List ℕ) (n : ℕ) (P : List ℕ → Type 0) → Found bs n P → n ≤ length bs
found_fits bs n P f = omega (arith, f.size, ap length f.parted, length-append f.word f.rest)
