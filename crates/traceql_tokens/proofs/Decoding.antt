-- What a body stands for, a run of plain bytes and an escape at a time.
use Rattle.std.proofs.Common.{◌≡◌, ℕ, suc, ◌+◌, ◌<◌, ◌≤◌, Bool, true, false, not, ◌&&◌, ◌⊎◌, inl, inr, cond, eqb, is_none, List, [], ◌∷◌, ◌++◌, length, get_or, take, drop, map, Option, None, Some, option_map, filter_map, refl, ap, sym, ◌∙◌, arith, eqb-true, append-nil, append_assoc, subst}
use Rattle.std.specs.List.{prefix_len, cons_option}
use Rattle.std.proofs.lemmas.Bool.{eqb-false}
use Rattle.std.specs.Str.{IsUtf8, IsCharBoundary}
use Rattle.std.proofs.lemmas.Str.{IsCharBoundary-before_ascii, IsCharBoundary-after_ascii, IsCharBoundary-end}
use Rattle.std.proofs.lemmas.List.Sums.{prefix_len_stops, prefix_len-le-length}
use Rattle.traceql_tokens.specs.Strings.{Piece, Plain, Escape, is_plain, meaning, escaped}
use Rattle.traceql_tokens.specs.StringWalk.{pieces, first_unknown}
use Rattle.traceql_tokens.proofs.StringSteps.{pieces-plain, at_end, at_quote, at_escape, at_backslash}

-- a plain byte is neither the quote nor the backslash
pub plain_tells : (b : ℕ) → is_plain b ≡ true → (b ≡ 34 → ⊥) × (b ≡ 92 → ⊥)
plain_tells b h = tells (eqb b 34) (eqb b 92) (eqb-false b 34) (eqb-false b 92) h
  where
    tells : (x y : Bool) → (x ≡ false → b ≡ 34 → ⊥) → (y ≡ false → b ≡ 92 → ⊥) → (not x && not y) ≡ true → (b ≡ 34 → ⊥) × (b ≡ 92 → ⊥)
    tells false false p q h = (p refl, q refl)
    tells false true p q h = absurd (cc)
    tells true y p q h = absurd (cc)

-- any other byte is one of them
pub not_plain : (b : ℕ) → is_plain b ≡ false → (b ≡ 34) ⊎ (b ≡ 92)
not_plain b h = tells (eqb b 34) (eqb b 92) (eqb-true b 34) (eqb-true b 92) h
  where
    tells : (x y : Bool) → (x ≡ true → b ≡ 34) → (y ≡ true → b ≡ 92) → (not x && not y) ≡ false → (b ≡ 34) ⊎ (b ≡ 92)
    tells true y p q h = inl (p refl)
    tells false true p q h = inr (q refl)
    tells false false p q h = absurd (cc)

run_step : (b : ℕ) (bs : List ℕ) (t : Bool) → is_plain b ≡ t → pieces bs ≡ map Plain (take (prefix_len is_plain bs) bs) ++ pieces (drop (prefix_len is_plain bs) bs) → pieces (b ∷ bs) ≡ map Plain (take (cond t (1 + prefix_len is_plain bs) 0) (b ∷ bs)) ++ pieces (drop (cond t (1 + prefix_len is_plain bs) 0) (b ∷ bs))
run_step b bs false h e = refl
run_step b bs true h e =
    let tells = plain_tells b h in
    let one : 1 + prefix_len is_plain bs ≡ suc (prefix_len is_plain bs) = omega arith in
    pieces-plain b bs tells.0 tells.1 ∙ ap (λ ps. Plain b ∷ ps) e ∙ ap (λ n. map Plain (take n (b ∷ bs)) ++ pieces (drop n (b ∷ bs))) (sym one)

-- the pieces are those of the plain bytes in front, and then those of the rest
pub plain_run : (rest : List ℕ) → pieces rest ≡ map Plain (take (prefix_len is_plain rest) rest) ++ pieces (drop (prefix_len is_plain rest) rest)
plain_run [] = refl
plain_run (b ∷ bs) = run_step b bs (is_plain b) refl (plain_run bs)

of_run : (xs : List ℕ) (ps : List Piece) → filter_map meaning (map Plain xs ++ ps) ≡ xs ++ filter_map meaning ps
of_run [] ps = refl
of_run (x ∷ xs) ps = ap (λ t. x ∷ t) (of_run xs ps)

none_before : (k : ℕ) (o : Option ℕ) → option_map (λ n. n + k) o ≡ None → o ≡ None
none_before k None h = refl
none_before k (Some n) h = absurd (cc)

no_unknown : (xs : List ℕ) (ps : List Piece) → first_unknown (map Plain xs ++ ps) ≡ None → first_unknown ps ≡ None
no_unknown [] ps h = h
no_unknown (x ∷ xs) ps h = no_unknown xs ps (none_before 1 _ h)

-- the meaning of plain bytes and of what stands after them
run_meaning : (rest : List ℕ) (n : ℕ) → n ≡ prefix_len is_plain rest → filter_map meaning (pieces rest) ≡ take n rest ++ filter_map meaning (pieces (drop n rest))
run_meaning rest n e =
    ap (filter_map meaning) (plain_run rest) ∙ of_run (take (prefix_len is_plain rest) rest) (pieces (drop (prefix_len is_plain rest) rest)) ∙ ap (λ m. take m rest ++ filter_map meaning (pieces (drop m rest))) (sym e)

run_unknown : (rest : List ℕ) (n : ℕ) → n ≡ prefix_len is_plain rest → first_unknown (pieces rest) ≡ None → first_unknown (pieces (drop n rest)) ≡ None
run_unknown rest n e h =
    ap (λ m. first_unknown (pieces (drop m rest))) e ∙ no_unknown (take (prefix_len is_plain rest) rest) _ (ap first_unknown (sym (plain_run rest)) ∙ h)

at_stop : (rest : List ℕ) (n : ℕ) → n ≡ prefix_len is_plain rest → n < length rest → (get_or rest n 0 ≡ 34) ⊎ (get_or rest n 0 ≡ 92)
at_stop rest n e h =
    not_plain _ (ap (λ m. is_plain (get_or rest m 0)) e ∙ prefix_len_stops is_plain rest 0 (omega arith))

not_quote : (b : ℕ) → (b ≡ 34) ⊎ (b ≡ 92) → (b ≡ 34 → ⊥) → b ≡ 92
not_quote b (inl q) h = absurd (h q)
not_quote b (inr q) h = q

-- where nothing more can stand after the plain bytes, there are no pieces
stop_pieces : (rest : List ℕ) (n : ℕ) → n ≡ prefix_len is_plain rest → ((length rest ≤ n + 1) ⊎ (get_or rest n 0 ≡ 34)) → (n < length rest) ⊎ (length rest ≤ n) → pieces (drop n rest) ≡ []
stop_pieces rest n e s (inr past) = at_end rest n past
stop_pieces rest n e (inr quote) (inl within) = at_quote rest n within quote
stop_pieces rest n e (inl last) (inl within) =
    elim (at_stop rest n e within) [ inl quote ↦ at_quote rest n within quote | inr slash ↦ at_backslash rest n (omega arith) slash ]

below_or : (a b : ℕ) → (a < b) ⊎ (b ≤ a)
below_or a b = grind arith

pub decoded_stops : (rest : List ℕ) (n : ℕ) → n ≡ prefix_len is_plain rest → ((length rest ≤ n + 1) ⊎ (get_or rest n 0 ≡ 34)) → filter_map meaning (pieces rest) ≡ take n rest
decoded_stops rest n e s =
    run_meaning rest n e ∙ ap (λ ps. take n rest ++ filter_map meaning ps) (stop_pieces rest n e s (below_or n (length rest))) ∙ append-nil _

here_escape : (rest : List ℕ) (n : ℕ) → n ≡ prefix_len is_plain rest → n + 1 < length rest → (get_or rest n 0 ≡ 34 → ⊥) → pieces (drop n rest) ≡ Escape (get_or rest (n + 1) 0) ∷ pieces (drop (n + 2) rest)
here_escape rest n e h q = at_escape rest n h (not_quote _ (at_stop rest n e (omega arith)) q)

pub decoded_next : (rest : List ℕ) (n c : ℕ) → n ≡ prefix_len is_plain rest → n + 1 < length rest → (get_or rest n 0 ≡ 34 → ⊥) → escaped (get_or rest (n + 1) 0) ≡ Some c → filter_map meaning (pieces rest) ≡ take n rest ++ (c ∷ filter_map meaning (pieces (drop (n + 2) rest)))
decoded_next rest n c e h q k =
    run_meaning rest n e ∙ ap (λ ps. take n rest ++ filter_map meaning ps) (here_escape rest n e h q)
    ∙ ap (λ o. take n rest ++ cons_option o (filter_map meaning (pieces (drop (n + 2) rest)))) k

behind_escape : (c : ℕ) (ps : List Piece) (v : Option ℕ) → escaped c ≡ v → first_unknown (Escape c ∷ ps) ≡ None → (first_unknown ps ≡ None) × (v ≡ None → ⊥)
behind_escape c ps v e h = by_value v (ap (λ o. cond (is_none o) (Some 0) (option_map (λ n. n + 2) (first_unknown ps))) (sym e) ∙ h)
  where
    by_value : (o : Option ℕ) → cond (is_none o) (Some 0) (option_map (λ n. n + 2) (first_unknown ps)) ≡ None → (first_unknown ps ≡ None) × (o ≡ None → ⊥)
    by_value None k = absurd (cc)
    by_value (Some b) k = (none_before 2 _ k, λ z. cc)

pub unknown_next : (rest : List ℕ) (n : ℕ) → n ≡ prefix_len is_plain rest → n + 1 < length rest → (get_or rest n 0 ≡ 34 → ⊥) → first_unknown (pieces rest) ≡ None → (first_unknown (pieces (drop (n + 2) rest)) ≡ None) × (escaped (get_or rest (n + 1) 0) ≡ None → ⊥)
unknown_next rest n e h q k =
    behind_escape (get_or rest (n + 1) 0) (pieces (drop (n + 2) rest)) (escaped (get_or rest (n + 1) 0)) refl (ap first_unknown (sym (here_escape rest n e h q)) ∙ run_unknown rest n e k)

-- the byte at the end of a plain run begins a character, and so does the one after a known escape
pub stop_ascii : (rest : List ℕ) (n : ℕ) → n ≡ prefix_len is_plain rest → n < length rest → get_or rest n 0 < 128
stop_ascii rest n e h =
    elim (at_stop rest n e h) [ inl quote ↦ omega arith | inr slash ↦ omega arith ]

pub escaped_ascii : (b c : ℕ) → escaped b ≡ Some c → (b < 128) × (c < 128)
escaped_ascii b c e =
    by_test (eqb b 34) (eqb b 92) (eqb b 110) (eqb b 114) (eqb b 116) (eqb-true b 34) (eqb-true b 92) (eqb-true b 110) (eqb-true b 114) (eqb-true b 116) e
  where
    by_test : (p q r s t : Bool) → (p ≡ true → b ≡ 34) → (q ≡ true → b ≡ 92) → (r ≡ true → b ≡ 110) → (s ≡ true → b ≡ 114) → (t ≡ true → b ≡ 116) → cond p (Some 34) (cond q (Some 92) (cond r (Some 10) (cond s (Some 13) (cond t (Some 9) None)))) ≡ Some c → (b < 128) × (c < 128)
    by_test true q r s t f1 f2 f3 f4 f5 h = let v : 34 ≡ c = cc in let w : b ≡ 34 = f1 refl in (omega arith, omega arith)
    by_test false true r s t f1 f2 f3 f4 f5 h = let v : 92 ≡ c = cc in let w : b ≡ 92 = f2 refl in (omega arith, omega arith)
    by_test false false true s t f1 f2 f3 f4 f5 h = let v : 10 ≡ c = cc in let w : b ≡ 110 = f3 refl in (omega arith, omega arith)
    by_test false false false true t f1 f2 f3 f4 f5 h = let v : 13 ≡ c = cc in let w : b ≡ 114 = f4 refl in (omega arith, omega arith)
    by_test false false false false true f1 f2 f3 f4 f5 h = let v : 9 ≡ c = cc in let w : b ≡ 116 = f5 refl in (omega arith, omega arith)
    by_test false false false false false f1 f2 f3 f4 f5 h = absurd (cc)

pub stop_boundary : (rest : List ℕ) (n : ℕ) → n ≡ prefix_len is_plain rest → IsCharBoundary rest n
stop_boundary rest n e =
    let within : n ≤ length rest = omega (arith, e, prefix_len-le-length is_plain rest) in
    elim (below_or n (length rest)) [
      | inl below ↦ IsCharBoundary-before_ascii rest n below (stop_ascii rest n e below)
      | inr past ↦ let whole : length rest ≡ n = omega arith in subst (λ m. IsCharBoundary rest m) whole (IsCharBoundary-end rest)
    ]

pub next_boundary : (rest : List ℕ) (n : ℕ) → IsUtf8 rest → n + 1 < length rest → get_or rest (n + 1) 0 < 128 → IsCharBoundary rest (n + 2)
next_boundary rest n u h a =
    let two : n + 1 + 1 ≡ n + 2 = omega arith in
    subst (λ m. IsCharBoundary rest m) two (IsCharBoundary-after_ascii rest (n + 1) u h a)

pub joined : (v v1 v2 run enc tail r : List ℕ) (c : ℕ) → v1 ≡ v ++ run → v2 ≡ v1 ++ enc → enc ≡ c ∷ [] → r ≡ run ++ (c ∷ tail) → v2 ++ tail ≡ v ++ r
joined v v1 v2 run enc tail r c e1 e2 e3 e4 =
    ap (λ t. t ++ tail) e2 ∙ ap (λ t. t ++ enc ++ tail) e1 ∙ ap (λ t. v ++ run ++ t ++ tail) e3
    ∙ append_assoc (v ++ run) (c ∷ []) tail ∙ append_assoc v run (c ∷ tail) ∙ ap (λ t. v ++ t) (sym e4)

-- a text may be cut after its first byte, where that is a character by itself
pub first_boundary : (text : List ℕ) (b : ℕ) → IsUtf8 text → get_or text 0 0 ≡ b → 0 < b → b < 128 → IsCharBoundary text 1
first_boundary [] b u e h k = absurd (omega arith)
first_boundary (x ∷ xs) b u e h k = IsCharBoundary-after_ascii (x ∷ xs) 0 u (omega arith) (omega arith)
