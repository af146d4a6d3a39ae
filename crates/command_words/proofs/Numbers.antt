-- Numbers in the words, and what is at fault in words besides what `clap` finds.
use Rattle.std.proofs.Common.{◌≡◌, ◌∙◌, ◌&&◌, ◌<◌, ◌≤◌, ◌^◌, ℕ, Bool, true, false, List, [], Option, Some, None, Result, Ok, Err, refl, sym, ap, subst, leb, lit<, arith}
use Rattle.std.specs.Prelude.{codes, decimal, is_some, if◌then◌else◌, option_and_then, option_map}
use Rattle.std.specs.Cmp.Lexicographic.{bytes_decides}
use Rattle.std.specs.Str.{bytes_eq}
use Rattle.std.specs.Str.Parse.{ParsesUnsigned, digits_value}
use Rattle.std.proofs.lemmas.Bool.{le-leb, leb-true}
use Rattle.std.proofs.lemmas.Fmt.{decimal_is_IsNumeral, parse-decimal}
use Rattle.clap.specs.Walk.{Row, Text, first_of}
use Rattle.clap.specs.Words.{fault_of, subcommand_of}
use Rattle.command_words.specs.Numbers.{IsNumber, fewest_traces, greatest_seed, least_seed, most_traces, number_fault, number_in, numbers_fault, seed_fault, traces_fault, word_faults}
use Rattle.command_words.specs.Spelling.{found_value}
use Rattle.command_words.specs.Table.{words_app}
use Rattle.command_words.proofs.Turns.{none_first}

-- ---- a number and its text

abbrev value : Text → ℕ
value text = digits_value 10 text

chosen : (a b c : Bool) (v n : ℕ) → (if a && (b && c) then Some v else None) ≡ Some n
    → (a ≡ true) × (b ≡ true) × (c ≡ true) × (v ≡ n)
chosen true true true v n h = (refl, refl, refl, cc)
chosen true true false v n h = let bad : ⊥ = cc in absurd bad
chosen true false c v n h = let bad : ⊥ = cc in absurd bad
chosen false b c v n h = let bad : ⊥ = cc in absurd bad

-- The text of a number in its range is that number.
pub in_is : (low high n : ℕ) (text : Text) → n < 2 ^ 64 → low ≤ n → n ≤ high → text ≡ decimal n → number_in low high text ≡ Some n
unfolding number_in
in_is low high n text fits least most is =
    let same : value text ≡ n = ap value is ∙ (decimal_is_IsNumeral n fits).1 in
    let written : bytes_eq (decimal n) text ≡ true = (bytes_decides (decimal n) text).1 (sym is) in
    rw same (rw (written, le-leb low n least, le-leb n high most) refl)

-- And no other text is.
pub is_in : (low high n : ℕ) (text : Text) → number_in low high text ≡ Some n → (text ≡ decimal n) × (low ≤ n) × (n ≤ high)
unfolding number_in
is_in low high n text h =
    let parts = chosen (bytes_eq (decimal (value text)) text) (leb low (value text)) (leb (value text) high) (value text) n h in
    let same : value text ≡ n = parts.3 in (
      sym ((bytes_decides (decimal (value text)) text).0 parts.0) ∙ ap decimal same,
      subst (λ (v : ℕ). low ≤ v) same (leb-true low (value text) parts.1),
      subst (λ (v : ℕ). v ≤ high) same (leb-true (value text) high parts.2),
    )

-- What is read of a text that is a number.
pub in_parses : {E : Type 0} (low high n : ℕ) (text : Text) (r : Result ℕ E) → high < 2 ^ 64 → ParsesUnsigned 64 10 text r
    → number_in low high text ≡ Some n → r ≡ Ok n
in_parses low high n text r fits parses h =
    let is = is_in low high n text h in
    let small : n < 2 ^ 64 = omega (arith, fits, is.2) in
    parse-decimal 64 n text r small small is.0 parses

-- A text that isn't read is no number.
pub unread : {E : Type 0} (low high : ℕ) (text : Text) (r : Result ℕ E) (e : E) → high < 2 ^ 64 → ParsesUnsigned 64 10 text r
    → r ≡ Err e → number_in low high text ≡ None
unread low high text r e fits parses err = go (number_in low high text) refl
  where
    go : (o : Option ℕ) → number_in low high text ≡ o → o ≡ None
    go None is = refl
    go (Some n) is = let read = in_parses low high n text r fits parses is in let bad : ⊥ = cc in absurd bad

-- One that is read as a number, but isn't written so or isn't in the range, is none.
pub misread : {E : Type 0} (low high n : ℕ) (text : Text) (r : Result ℕ E) → high < 2 ^ 64 → ParsesUnsigned 64 10 text r → r ≡ Ok n
    → (text ≡ decimal n → low ≤ n → n ≤ high → ⊥) → number_in low high text ≡ None
misread low high n text r fits parses ok not = go (number_in low high text) refl
  where
    go : (o : Option ℕ) → number_in low high text ≡ o → o ≡ None
    go None is = refl
    go (Some m) is =
        let read = in_parses low high m text r fits parses is in
        let same : m ≡ n = cc in
        let parts = is_in low high m text is in
        absurd (not (parts.0 ∙ ap decimal same) (subst (λ (v : ℕ). low ≤ v) same parts.1) (subst (λ (v : ℕ). v ≤ high) same parts.2))

-- ---- the fault of a number

pub none_at_fault : (low high n : ℕ) (text : Option Text) → high < 2 ^ 64 → IsNumber low high text n → number_fault low high text ≡ []
none_at_fault low high n text fits is = go text is.is
  where
    go : (o : Option Text) → o ≡ Some (decimal n) → number_fault low high o ≡ []
    go None h = let bad : ⊥ = cc in absurd bad
    go (Some t) h =
        let same : t ≡ decimal n = cc in
        let least = is.least in
        let most = is.most in
        let small : n < 2 ^ 64 = omega (arith, fits, most) in
        rw (in_is low high n t small least most same) refl

pub number_there : (low high : ℕ) (text : Option Text) → is_some text ≡ true → number_fault low high text ≡ [] → (n : ℕ) × IsNumber low high text n
number_there low high None some clean = let bad : ⊥ = cc in absurd bad
number_there low high (Some t) some clean = go (number_in low high t) refl clean
  where
    go : (o : Option ℕ) → number_in low high t ≡ o → number_fault low high (Some t) ≡ [] → (n : ℕ) × IsNumber low high (Some t) n
    go None is clean = let bad = rw is at clean in cc
    go (Some n) is clean =
        let parts = is_in low high n t is in
        (n, record { is = ap (λ (x : Text). Some x) parts.0; least = parts.1; most = parts.2 })

-- what is read of an option's value
pub given_is : (low high n : ℕ) (o : Option Text) (text : Text) → o ≡ Some text → Some n ≡ number_in low high text → IsNumber low high o n
given_is low high n o text there is =
    let parts = is_in low high n text (sym is) in
    record { is = there ∙ ap (λ (t : Text). Some t) parts.0; least = parts.1; most = parts.2 }

-- ---- the faults of words

pub seed_fits : greatest_seed < 2 ^ 64
seed_fits = lit< tt

pub traces_fit : most_traces < 2 ^ 64
traces_fit = lit< tt

-- Words whose subcommand is neither `drill` nor `serve` have no numbers that are looked at.
pub only_clap : (words : List Text) (name : Text) → option_map (λ p. p.0) (subcommand_of words_app words) ≡ Some name → bytes_eq name (codes "drill") ≡ false
    → bytes_eq name (codes "serve") ≡ false → fault_of words_app words ≡ [] → word_faults words ≡ []
unfolding word_faults
only_clap words name named other another clean = rw clean (go (subcommand_of words_app words) named)
  where
    go : (o : Option (Text × List Row)) → option_map (λ p. p.0) o ≡ Some name → numbers_fault o ≡ []
    go None is = refl
    go (Some p) is = let same : p.0 ≡ name = cc in rw (same, other, another) refl

-- Words of a drill whose numbers are in their ranges.
pub drill_only_clap : (words : List Text) (seed traces : ℕ) → option_map (λ p. p.0) (subcommand_of words_app words) ≡ Some (codes "drill")
    → IsNumber least_seed greatest_seed (found_value words (codes "seed")) seed → IsNumber fewest_traces most_traces (found_value words (codes "traces")) traces
    → fault_of words_app words ≡ [] → word_faults words ≡ []
unfolding word_faults
drill_only_clap words seed traces named seed_is traces_are clean = rw clean (go (subcommand_of words_app words) named seed_is traces_are)
  where
    go : (o : Option (Text × List Row)) → option_map (λ p. p.0) o ≡ Some (codes "drill")
        → IsNumber least_seed greatest_seed (option_and_then (λ p. first_of (codes "seed") p.1) o) seed
        → IsNumber fewest_traces most_traces (option_and_then (λ p. first_of (codes "traces") p.1) o) traces → numbers_fault o ≡ []
    go None is s t = refl
    go (Some p) is s t =
        let same : p.0 ≡ codes "drill" = cc in
        rw (same, none_at_fault least_seed greatest_seed seed (first_of (codes "seed") p.1) seed_fits s, none_at_fault fewest_traces most_traces traces (first_of (codes "traces") p.1) traces_fit t) refl

-- Words without fault have none that `clap` finds, and none of a number.
pub clean_parts : (words : List Text) → word_faults words ≡ [] → (fault_of words_app words ≡ []) × (numbers_fault (subcommand_of words_app words) ≡ [])
unfolding word_faults
clean_parts words clean = none_first (fault_of words_app words) (numbers_fault (subcommand_of words_app words)) clean

-- What is at fault in the numbers of a drill.
pub drill_parts : (words : List Text) → option_map (λ p. p.0) (subcommand_of words_app words) ≡ Some (codes "drill") → word_faults words ≡ []
    → (seed_fault (found_value words (codes "seed")) ≡ []) × (traces_fault (found_value words (codes "traces")) ≡ [])
drill_parts words named clean = go (subcommand_of words_app words) named (clean_parts words clean).1
  where
    go : (o : Option (Text × List Row)) → option_map (λ p. p.0) o ≡ Some (codes "drill") → numbers_fault o ≡ []
        → (seed_fault (option_and_then (λ p. first_of (codes "seed") p.1) o) ≡ []) × (traces_fault (option_and_then (λ p. first_of (codes "traces") p.1) o) ≡ [])
    go None is none = (refl, refl)
    go (Some p) is none =
        let same : p.0 ≡ codes "drill" = cc in
        none_first (seed_fault (first_of (codes "seed") p.1)) (traces_fault (first_of (codes "traces") p.1)) (rw same at none)
