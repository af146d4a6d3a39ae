-- A number below 20 before a space.
use Rattle.std.proofs.Common.{◌≡◌, ◌⊎◌, inl, inr, ◌∙◌, ℕ, ◌+◌, ◌-◌, ◌/◌, ◌%◌, ◌<◌, List, [], ◌∷◌, ◌++◌, Option, Some, None, Bool, true, false, ap, ap₂, arith, refl, sym}
use Rattle.std.specs.Prelude.{IfNone, decimal}
use Rattle.std.specs.Bool.{then_some}
use Rattle.std.proofs.lemmas.Bool.{cases_lt}
use Rattle.std.proofs.lemmas.Fmt.{decimal_digit, decimal_step}

two_digits : (d : ℕ) → d < 10 → decimal (10 + d) ≡ 49 ∷ (48 + d) ∷ []
two_digits d few =
    let tens : (10 + d) / 10 ≡ 1 = omega arith in
    let ones : (10 + d) % 10 ≡ d = omega arith in
    decimal_step (10 + d) (omega arith) (omega arith)
    ∙ ap₂ (λ (t o : ℕ). decimal t ++ (48 + o) ∷ []) tens ones
    ∙ ap (λ (ds : List ℕ). ds ++ (48 + d) ∷ []) (decimal_digit 1 (omega arith))

-- one digit, a space and a rest; and a 1 before them
abbrev One : ℕ → List ℕ → List ℕ
One d rest = (48 + d) ∷ 32 ∷ rest

abbrev Two : ℕ → List ℕ → List ℕ
Two d rest = 49 ∷ (48 + d) ∷ 32 ∷ rest

one_is : (d : ℕ) (rest : List ℕ) → d < 10 → One d rest ≡ decimal d ++ 32 ∷ rest
one_is d rest few = ap (λ (ds : List ℕ). ds ++ 32 ∷ rest) (sym (decimal_digit d few))

two_is : (d : ℕ) (rest : List ℕ) → d < 10 → Two d rest ≡ decimal (10 + d) ++ 32 ∷ rest
two_is d rest few = ap (λ (ds : List ℕ). ds ++ 32 ∷ rest) (sym (two_digits d few))

-- A line that such a number leads is one of these two.
shape : (line : List ℕ) (number : ℕ) (rest : List ℕ) → number < 20 → line ≡ decimal number ++ 32 ∷ rest
    → ((number < 10) × (line ≡ One number rest)) ⊎ ((d : ℕ) × (d < 10) × (line ≡ Two d rest) × (number ≡ 10 + d))
shape line number rest few is = elim (cases_lt number 10) [
  | inl less ↦ inl (less, is ∙ sym (one_is number rest less))
  | inr more ↦
      let same : number ≡ 10 + (number - 10) = omega arith in
      let within : number - 10 < 10 = omega arith in
      inr (number - 10, within, is ∙ ap (λ (n : ℕ). decimal n ++ 32 ∷ rest) same ∙ sym (two_is (number - 10) rest within), same)
]

head_is : (a b : ℕ) (xs ys : List ℕ) → a ∷ xs ≡ b ∷ ys → a ≡ b
head_is a b xs ys e = cc

tail_is : (a b : ℕ) (xs ys : List ℕ) → a ∷ xs ≡ b ∷ ys → xs ≡ ys
tail_is a b xs ys e = cc

-- The number is told by the line.
pub same_number : (line : List ℕ) (n m : ℕ) (r q : List ℕ) → n < 20 → m < 20 → line ≡ decimal n ++ 32 ∷ r → line ≡ decimal m ++ 32 ∷ q → n ≡ m
same_number line n m r q few_n few_m is_n is_m = elim (shape line n r few_n is_n) [
  | inl one ↦ elim (shape line m q few_m is_m) [
    | inl one' ↦ let head : 48 + n ≡ 48 + m = head_is (48 + n) (48 + m) (32 ∷ r) (32 ∷ q) (sym one.1 ∙ one'.1) in omega arith
    | inr two' ↦ absurd (mixed n two'.0 r q (sym one.1 ∙ two'.2))
  ]
  | inr two ↦ elim (shape line m q few_m is_m) [
    | inl one' ↦ absurd (mixed m two.0 q r (sym one'.1 ∙ two.2))
    | inr two' ↦
        let behind = tail_is 49 49 ((48 + two.0) ∷ 32 ∷ r) ((48 + two'.0) ∷ 32 ∷ q) (sym two.2 ∙ two'.2) in
        let head : 48 + two.0 ≡ 48 + two'.0 = head_is (48 + two.0) (48 + two'.0) (32 ∷ r) (32 ∷ q) behind in
        let a : n ≡ 10 + two.0 = two.3 in
        let b : m ≡ 10 + two'.0 = two'.3 in omega arith
  ]
]
  where
    mixed : (d e : ℕ) (r q : List ℕ) → One d r ≡ Two e q → ⊥
    mixed d e r q is =
        let head : 32 ≡ 48 + e = head_is 32 (48 + e) r (32 ∷ q) (tail_is (48 + d) 49 (32 ∷ r) ((48 + e) ∷ 32 ∷ q) is) in omega arith

-- ---- lines that such a number leads

pub one_leads : (line later rest : List ℕ) (d : ℕ) → d < 10 → line ≡ (48 + d) ∷ later → later ≡ 32 ∷ rest → line ≡ decimal d ++ 32 ∷ rest
one_leads line later rest d few first second = first ∙ ap (λ (l : List ℕ). (48 + d) ∷ l) second ∙ one_is d rest few

pub two_lead : (line later last rest : List ℕ) (one d : ℕ) → one ≡ 1 → d < 10 → line ≡ (48 + one) ∷ later → later ≡ (48 + d) ∷ last → last ≡ 32 ∷ rest
    → line ≡ decimal (10 + d) ++ 32 ∷ rest
two_lead line later last rest one d is_one few first second third =
    first ∙ ap₂ (λ (n : ℕ) (l : List ℕ). (48 + n) ∷ l) is_one (second ∙ ap (λ (l : List ℕ). (48 + d) ∷ l) third) ∙ two_is d rest few

-- ---- lines that no such number leads

abbrev pub NoNumber : List ℕ → Type 0
NoNumber line = (number : ℕ) (rest : List ℕ) → number < 20 → line ≡ decimal number ++ 32 ∷ rest → ⊥

abbrev NoDigit : List ℕ → Type 0
NoDigit text = (digit : ℕ) (rest : List ℕ) → digit < 10 → text ≡ (48 + digit) ∷ rest → ⊥

abbrev NoSpace : List ℕ → Type 0
NoSpace text = (rest : List ℕ) → text ≡ 32 ∷ rest → ⊥

pub no_digit : (line : List ℕ) → NoDigit line → NoNumber line
no_digit line none number rest few is = elim (shape line number rest few is) [
  | inl one ↦ none number (32 ∷ rest) one.0 one.1
  | inr two ↦ none 1 ((48 + two.0) ∷ 32 ∷ rest) (omega arith) two.2
]

module _ (line later : List ℕ) (one : ℕ) (first : line ≡ (48 + one) ∷ later) (no_space : NoSpace later) where
  -- where no space follows the first digit it can have two alone
  with_two : (P : Type 0) (number : ℕ) (rest : List ℕ) → number < 20 → line ≡ decimal number ++ 32 ∷ rest → ((d : ℕ) → d < 10 → one ≡ 1 → later ≡ (48 + d) ∷ 32 ∷ rest → P) → P
  with_two P number rest few is k = elim (shape line number rest few is) [
    | inl o ↦ absurd (no_space rest (tail_is (48 + one) (48 + number) later (32 ∷ rest) (sym first ∙ o.1)))
    | inr t ↦
        let both = sym first ∙ t.2 in
        let head : 48 + one ≡ 49 = head_is (48 + one) 49 later ((48 + t.0) ∷ 32 ∷ rest) both in
        k t.0 t.1 (omega (arith, head)) (tail_is (48 + one) 49 later ((48 + t.0) ∷ 32 ∷ rest) both)
  ]

  pub not_one : (one ≡ 1 → ⊥) → NoNumber line
  not_one not number rest few is = with_two ⊥ number rest few is (λ d less is_one behind. not is_one)

  pub no_second : NoDigit later → NoNumber line
  no_second none number rest few is = with_two ⊥ number rest few is (λ d less is_one behind. none d (32 ∷ rest) less behind)

  pub no_space_behind : (two : ℕ) (last : List ℕ) → later ≡ (48 + two) ∷ last → NoSpace last → NoNumber line
  no_space_behind two last second none number rest few is =
      with_two ⊥ number rest few is (λ d less is_one behind. none rest (tail_is (48 + two) (48 + d) last (32 ∷ rest) (sym second ∙ behind)))

-- ---- options

pub none_holds : {X : Type 0} (x : Option X) (P : Type 0) → P → IfNone x P
none_holds None P p = p
none_holds (Some x) P p = tt

pub none_then : {X : Type 0} (b : Bool) (x : X) (o : Option X) (P : Type 0) → o ≡ then_some b x → (b ≡ false → P) → IfNone o P
none_then true x o P is p = rw is tt
none_then false x o P is p = rw is (p refl)
