-- Strings and names are written piece by piece: a run of bytes that stand for themselves, and then an escape.
use Rattle.std.proofs.Common.{◌≡◌, ℕ, suc, ◌+◌, ◌<◌, ◌≤◌, Bool, true, false, ◌⊎◌, inl, inr, cond, eqb, is_none, List, [], ◌∷◌, ◌++◌, length, get_or, take, drop, map, Option, None, Some, refl, ap, sym, ◌∙◌, arith, eqb-true, append-nil, append_assoc, subst}
use Rattle.std.specs.List.{prefix_len}
use Rattle.std.proofs.lemmas.Grind.{common_steps}
use Rattle.std.specs.Str.{IsCharBoundary}
use Rattle.std.proofs.lemmas.Str.{IsCharBoundary-before_ascii, IsCharBoundary-end}
use Rattle.std.proofs.lemmas.List.Sums.{prefix_len_stops, prefix_len-le-length}
use Rattle.traceql_tokens.specs.Strings.{pieces_text}
use Rattle.traceql_print.specs.Text.{escape_letter, piece_or, piece_of, escaped_text}

-- a byte stands for itself
abbrev pub is_plain : ℕ → Bool
is_plain b = is_none (escape_letter b)

-- a byte with an escape, and the letter of its escape, are characters by themselves
pub letter_ascii : (b c : ℕ) → escape_letter b ≡ Some c → (b < 128) × (c < 128)
letter_ascii b c e =
    by_test (eqb b 34) (eqb b 92) (eqb b 10) (eqb b 13) (eqb b 9) (eqb-true b 34) (eqb-true b 92) (eqb-true b 10) (eqb-true b 13) (eqb-true b 9) e
  where
    by_test : (p q r s t : Bool) → (p ≡ true → b ≡ 34) → (q ≡ true → b ≡ 92) → (r ≡ true → b ≡ 10) → (s ≡ true → b ≡ 13) → (t ≡ true → b ≡ 9) → cond p (Some 34) (cond q (Some 92) (cond r (Some 110) (cond s (Some 114) (cond t (Some 116) None)))) ≡ Some c → (b < 128) × (c < 128)
    by_test true q r s t f1 f2 f3 f4 f5 h = let v : 34 ≡ c = cc in let w : b ≡ 34 = f1 refl in (omega arith, omega arith)
    by_test false true r s t f1 f2 f3 f4 f5 h = let v : 92 ≡ c = cc in let w : b ≡ 92 = f2 refl in (omega arith, omega arith)
    by_test false false true s t f1 f2 f3 f4 f5 h = let v : 110 ≡ c = cc in let w : b ≡ 10 = f3 refl in (omega arith, omega arith)
    by_test false false false true t f1 f2 f3 f4 f5 h = let v : 114 ≡ c = cc in let w : b ≡ 13 = f4 refl in (omega arith, omega arith)
    by_test false false false false true f1 f2 f3 f4 f5 h = let v : 116 ≡ c = cc in let w : b ≡ 9 = f5 refl in (omega arith, omega arith)
    by_test false false false false false f1 f2 f3 f4 f5 h = absurd (cc)

letter_of : (o : Option ℕ) → is_none o ≡ false → (c : ℕ) × (o ≡ Some c)
letter_of None h = absurd (cc)
letter_of (Some c) h = (c, refl)

below_or : (a b : ℕ) → (a < b) ⊎ (b ≤ a)
below_or a b = grind arith

-- the byte that ends a plain run has an escape
pub at_letter : (rest : List ℕ) (n : ℕ) → n ≡ prefix_len is_plain rest → n < length rest → (c : ℕ) × (escape_letter (get_or rest n 0) ≡ Some c)
at_letter rest n e h = letter_of _ (ap (λ m. is_plain (get_or rest m 0)) e ∙ prefix_len_stops is_plain rest 0 (omega arith))

pub stop_boundary : (rest : List ℕ) (n : ℕ) → n ≡ prefix_len is_plain rest → IsCharBoundary rest n
stop_boundary rest n e =
    let within : n ≤ length rest = omega (arith, e, prefix_len-le-length is_plain rest) in
    elim (below_or n (length rest)) [
      | inl below ↦ let letter = at_letter rest n e below in IsCharBoundary-before_ascii rest n below (letter_ascii _ letter.0 letter.1).0
      | inr past ↦ let whole : length rest ≡ n = omega arith in subst (λ m. IsCharBoundary rest m) whole (IsCharBoundary-end rest)
    ]

step : (b : ℕ) (bs : List ℕ) (t : Option ℕ) → escape_letter b ≡ t → escaped_text bs ≡ take (prefix_len is_plain bs) bs ++ escaped_text (drop (prefix_len is_plain bs) bs) → escaped_text (b ∷ bs) ≡ take (cond (is_none t) (1 + prefix_len is_plain bs) 0) (b ∷ bs) ++ escaped_text (drop (cond (is_none t) (1 + prefix_len is_plain bs) 0) (b ∷ bs))
unfolding escaped_text
step b bs (Some c) h e = refl
step b bs None h e =
    let one : 1 + prefix_len is_plain bs ≡ suc (prefix_len is_plain bs) = omega arith in
    ap (λ o. pieces_text (piece_or b o ∷ map piece_of bs)) h ∙ ap (λ t. b ∷ t) e ∙ ap (λ n. take n (b ∷ bs) ++ escaped_text (drop n (b ∷ bs))) (sym one)

-- the bytes that stand for themselves, and then the rest
pub plain_run : (rest : List ℕ) → escaped_text rest ≡ take (prefix_len is_plain rest) rest ++ escaped_text (drop (prefix_len is_plain rest) rest)
unfolding escaped_text
plain_run [] = refl
plain_run (b ∷ bs) = step b bs (escape_letter b) refl (plain_run bs)

drop_at_stop : (rest : List ℕ) (n : ℕ) → n < length rest → drop n rest ≡ get_or rest n 0 ∷ drop (n + 1) rest
drop_at_stop rest n h = grind (arith, common_steps)

letter_next : (b c : ℕ) (bs : List ℕ) → escape_letter b ≡ Some c → escaped_text (b ∷ bs) ≡ 92 ∷ c ∷ escaped_text bs
unfolding escaped_text
letter_next b c bs e = ap (λ o. pieces_text (piece_or b o ∷ map piece_of bs)) e

-- at the end
pub escaped_stops : (rest : List ℕ) (n : ℕ) → n ≡ prefix_len is_plain rest → length rest ≤ n → escaped_text rest ≡ take n rest
unfolding escaped_text
escaped_stops rest n e past =
    plain_run rest ∙ ap (λ m. take m rest ++ escaped_text (drop m rest)) (sym e) ∙ ap (λ t. take n rest ++ escaped_text t) (nothing rest n past) ∙ ends (take n rest)
  where
    nothing : (xs : List ℕ) (m : ℕ) → length xs ≤ m → drop m xs ≡ []
    nothing xs m h = grind (arith, common_steps)

    ends : (xs : List ℕ) → xs ++ escaped_text [] ≡ xs
    ends xs = append-nil xs

-- at an escape
pub escaped_next : (rest : List ℕ) (n c : ℕ) → n ≡ prefix_len is_plain rest → n < length rest → escape_letter (get_or rest n 0) ≡ Some c → escaped_text rest ≡ take n rest ++ (92 ∷ c ∷ escaped_text (drop (n + 1) rest))
escaped_next rest n c e h k =
    plain_run rest ∙ ap (λ m. take m rest ++ escaped_text (drop m rest)) (sym e)
    ∙ ap (λ t. take n rest ++ escaped_text t) (drop_at_stop rest n h) ∙ ap (λ t. take n rest ++ t) (letter_next (get_or rest n 0) c (drop (n + 1) rest) k)

-- what is written so far, after one run and one escape more
pub joined : (out out1 out2 out3 run enc tail all : List ℕ) (slash : List ℕ) (c : ℕ) → out1 ≡ out ++ run → out2 ≡ out1 ++ slash → slash ≡ 92 ∷ [] → out3 ≡ out2 ++ enc → enc ≡ c ∷ [] → all ≡ run ++ (92 ∷ c ∷ tail) → out3 ++ tail ≡ out ++ all
joined out out1 out2 out3 run enc tail all slash c e1 e2 e3 e4 e5 e6 =
    ap (λ t. t ++ tail) (e4 ∙ ap (λ t. t ++ enc) (e2 ∙ ap (λ t. t ++ slash) e1)) ∙ ap (λ t. ((out ++ run) ++ t) ++ enc ++ tail) e3 ∙ ap (λ t. ((out ++ run) ++ 92 ∷ []) ++ t ++ tail) e5
    ∙ append_assoc ((out ++ run) ++ 92 ∷ []) (c ∷ []) tail ∙ append_assoc (out ++ run) (92 ∷ []) (c ∷ tail) ∙ append_assoc out run (92 ∷ c ∷ tail) ∙ ap (λ t. out ++ t) (sym e6)
