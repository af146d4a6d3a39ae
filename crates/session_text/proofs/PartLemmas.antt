-- The parts of a line by what the calls on texts answer.
use Rattle.std.proofs.Common.{◌≡◌, ◌≢◌, ℕ, suc, ◌<◌, ◌==◌, Bool, true, false, List, [], ◌∷◌, ◌++◌, length, get_or, drop, Option, Some, None, option_map, Bor, MatchOption, refl, sym, ◌∙◌, ap, ap₂, arith}
use Rattle.std.proofs.lemmas.Bool.{eqb-true}
use Rattle.std.proofs.lemmas.Str.Pattern.{IsSplitOnceResult, split_parts}
use Rattle.std.specs.Str.Pattern.{FindsTextPrefix, StripsPrefix}
use Rattle.session_text.specs.Lines.{first_part, other_parts}
use Rattle.session_text.specs.Options.{behind}

differ : (a b : ℕ) → a ≢ b → (a == b) ≡ false
differ a b not = go (a == b) refl
  where
    go : (t : Bool) → (a == b) ≡ t → t ≡ false
    go true e = absurd (not (eqb-true a b e))
    go false e = refl

same : (a : ℕ) → (a == a) ≡ true
same a = grind arith

-- ---- at the first space

abbrev NoSpace : List ℕ → Type 0
NoSpace bs = (i : ℕ) → i < length bs → get_or bs i 0 ≢ 32

later : (b : ℕ) (bs : List ℕ) → NoSpace (b ∷ bs) → NoSpace bs
later b bs none i less = none (suc i) (omega arith)

here : (b : ℕ) (bs : List ℕ) → NoSpace (b ∷ bs) → (b == 32) ≡ false
here b bs none = differ b 32 (none 0 (omega arith))

first_before : (front back : List ℕ) → NoSpace front → first_part (front ++ 32 ∷ back) ≡ front
first_before [] back none = refl
first_before (b ∷ bs) back none = rw (here b bs none) (ap (λ (xs : List ℕ). b ∷ xs) (first_before bs back (later b bs none)))

others_after : (front back : List ℕ) → NoSpace front → other_parts (front ++ 32 ∷ back) ≡ Some back
others_after [] back none = refl
others_after (b ∷ bs) back none = rw (here b bs none) (others_after bs back (later b bs none))

first_alone : (bs : List ℕ) → NoSpace bs → first_part bs ≡ bs
first_alone [] none = refl
first_alone (b ∷ bs) none = rw (here b bs none) (ap (λ (xs : List ℕ). b ∷ xs) (first_alone bs (later b bs none)))

others_none : (bs : List ℕ) → NoSpace bs → other_parts bs ≡ None
others_none [] none = refl
others_none (b ∷ bs) none = rw (here b bs none) (others_none bs (later b bs none))

-- what `split_once` answers are the first part and the others
pub parts-split : (text : List ℕ) (r : Option (Bor (List ℕ) × Bor (List ℕ))) → IsSplitOnceResult 32 text r
    → MatchOption r ((text ≡ first_part text) × (None ≡ other_parts text)) (λ x. (x.0.now ≡ first_part text) × (Some x.1.now ≡ other_parts text))
parts-split text None h =
    let none = split_parts 32 text None h (omega arith) in
    (sym (first_alone text none), sym (others_none text none))
parts-split text (Some x) h =
    let parts = split_parts 32 text (Some x) h (omega arith) in
    (sym (ap first_part parts.0 ∙ first_before x.0.now x.1.now parts.1), sym (ap other_parts parts.0 ∙ others_after x.0.now x.1.now parts.1))

-- ---- after a name

behind_there : (name rest : List ℕ) → behind name (name ++ rest) ≡ Some rest
behind_there [] rest = refl
behind_there (c ∷ cs) rest = rw (same c) (behind_there cs rest)

behind_none : (name text : List ℕ) → ((rest : List ℕ) → text ≢ name ++ rest) → behind name text ≡ None
behind_none [] text none = absurd (none text refl)
behind_none (c ∷ cs) [] none = refl
behind_none (c ∷ cs) (d ∷ ds) none = go (c == d) refl (λ is. behind_none cs ds (λ rest e. none rest (ap₂ (λ (x : ℕ) (xs : List ℕ). x ∷ xs) (sym is) e)))
  where
    go : (t : Bool) → (c == d) ≡ t → ((c ≡ d) → behind cs ds ≡ None) → behind (c ∷ cs) (d ∷ ds) ≡ None
    go true e more = rw e (more (eqb-true c d e))
    go false e more = rw e refl

-- what `strip_prefix` answers is what stands after the name
pub behind-stripped : (name text : List ℕ) (r : Option (Bor (List ℕ))) → MatchOption r (FindsTextPrefix name text None) (λ x. StripsPrefix (FindsTextPrefix name) text x.now)
    → option_map (λ s. s.now) r ≡ behind name text
behind-stripped name text None none = sym (behind_none name text none)
behind-stripped name text (Some x) (n, found, is, _) =
    ap Some is ∙ (sym (behind_there name (drop n text)) ∙ ap (behind name) (sym found.1))
