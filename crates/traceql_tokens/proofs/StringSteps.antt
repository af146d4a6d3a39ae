-- One step of `pieces`, by the byte that stands first, and the same at a place in a list.
use Rattle.std.proofs.Common.{◌≡◌, ℕ, suc, ◌+◌, ◌<◌, ◌≤◌, List, [], ◌∷◌, length, get_or, drop, None, Some, Option, true, false, cond, is_none, option_map, add-zero, refl, ap, ◌∙◌, ne_eqb, arith}
use Rattle.std.proofs.lemmas.List.{at_drop_more, at_drop_all, drop_more}
use Rattle.traceql_tokens.specs.Strings.{Plain, Escape, pieces_text, escaped}
use Rattle.traceql_tokens.specs.StringWalk.{pieces, body_len, first_unknown}

pub pieces-nil : pieces [] ≡ []
unfolding pieces
pieces-nil = refl

pub pieces-quote : (bs : List ℕ) → pieces (34 ∷ bs) ≡ []
unfolding pieces
pieces-quote [] = refl
pieces-quote (c ∷ bs) = refl

pub pieces-backslash : pieces (92 ∷ []) ≡ []
unfolding pieces
pieces-backslash = refl

pub pieces-escape : (c : ℕ) (bs : List ℕ) → pieces (92 ∷ c ∷ bs) ≡ Escape c ∷ pieces bs
unfolding pieces
pieces-escape c bs = refl

pub pieces-plain : (b : ℕ) (bs : List ℕ) → (b ≡ 34 → ⊥) → (b ≡ 92 → ⊥) → pieces (b ∷ bs) ≡ Plain b ∷ pieces bs
unfolding pieces
pieces-plain b [] p q = rw (ne_eqb b 34 p, ne_eqb b 92 q) refl
pieces-plain b (c ∷ bs) p q = rw (ne_eqb b 34 p, ne_eqb b 92 q) refl

pub at_quote : (bs : List ℕ) (i : ℕ) → i < length bs → get_or bs i 0 ≡ 34 → pieces (drop i bs) ≡ []
at_quote bs i h e = at_drop_more pieces bs i 0 h ∙ ap (λ b. pieces (b ∷ drop (i + 1) bs)) e ∙ pieces-quote _

pub at_end : (bs : List ℕ) (i : ℕ) → length bs ≤ i → pieces (drop i bs) ≡ []
at_end bs i h = at_drop_all pieces bs i h ∙ pieces-nil

pub at_plain : (bs : List ℕ) (i : ℕ) → i < length bs → (get_or bs i 0 ≡ 34 → ⊥) → (get_or bs i 0 ≡ 92 → ⊥) → pieces (drop i bs) ≡ Plain (get_or bs i 0) ∷ pieces (drop (i + 1) bs)
at_plain bs i h p q = at_drop_more pieces bs i 0 h ∙ pieces-plain _ _ p q

pub at_escape : (bs : List ℕ) (i : ℕ) → i + 1 < length bs → get_or bs i 0 ≡ 92 → pieces (drop i bs) ≡ Escape (get_or bs (i + 1) 0) ∷ pieces (drop (i + 2) bs)
at_escape bs i h e =
    let here : i < length bs = omega arith in
    let next : drop (i + 1) bs ≡ get_or bs (i + 1) 0 ∷ drop (i + 1 + 1) bs = drop_more bs (i + 1) 0 h in
    let two : i + 1 + 1 ≡ i + 2 = omega arith in
    at_drop_more pieces bs i 0 here ∙ ap (λ b. pieces (b ∷ drop (i + 1) bs)) e ∙ ap (λ t. pieces (92 ∷ t)) next ∙ pieces-escape _ _ ∙ ap (λ n. Escape (get_or bs (i + 1) 0) ∷ pieces (drop n bs)) two

pub at_backslash : (bs : List ℕ) (i : ℕ) → length bs ≡ i + 1 → get_or bs i 0 ≡ 92 → pieces (drop i bs) ≡ []
at_backslash bs i h e =
    let here : i < length bs = omega arith in
    let last : drop (i + 1) bs ≡ [] = at_drop_all (λ t. t) bs (i + 1) (omega arith) in
    at_drop_more pieces bs i 0 here ∙ ap (λ b. pieces (b ∷ drop (i + 1) bs)) e ∙ ap (λ t. pieces (92 ∷ t)) last ∙ pieces-backslash

pub len_quote : (bs : List ℕ) (i : ℕ) → i < length bs → get_or bs i 0 ≡ 34 → body_len (drop i bs) ≡ 0
len_quote bs i h e = ap (λ ps. length (pieces_text ps)) (at_quote bs i h e)

pub len_end : (bs : List ℕ) (i : ℕ) → length bs ≤ i → body_len (drop i bs) ≡ 0
len_end bs i h = ap (λ ps. length (pieces_text ps)) (at_end bs i h)

pub len_plain : (bs : List ℕ) (i : ℕ) → i < length bs → (get_or bs i 0 ≡ 34 → ⊥) → (get_or bs i 0 ≡ 92 → ⊥) → body_len (drop i bs) ≡ body_len (drop (i + 1) bs) + 1
len_plain bs i h p q =
    let e : body_len (drop i bs) ≡ suc (body_len (drop (i + 1) bs)) = ap (λ ps. length (pieces_text ps)) (at_plain bs i h p q) in
    omega arith

pub len_escape : (bs : List ℕ) (i : ℕ) → i + 1 < length bs → get_or bs i 0 ≡ 92 → body_len (drop i bs) ≡ body_len (drop (i + 2) bs) + 2
len_escape bs i h e =
    let e : body_len (drop i bs) ≡ suc (suc (body_len (drop (i + 2) bs))) = ap (λ ps. length (pieces_text ps)) (at_escape bs i h e) in
    omega arith

pub len_backslash : (bs : List ℕ) (i : ℕ) → length bs ≡ i + 1 → get_or bs i 0 ≡ 92 → body_len (drop i bs) ≡ 0
len_backslash bs i h e = ap (λ ps. length (pieces_text ps)) (at_backslash bs i h e)

pub ruleset piece_steps = (len_quote, len_end, len_plain, len_escape, len_backslash)

-- where the first unknown escape from place i on stands
unfoldable pub unknown_from : ℕ → List ℕ → Option ℕ
unknown_from i bs = option_map (λ n. i + n) (first_unknown (pieces (drop i bs)))

after : (i k : ℕ) (o : Option ℕ) → option_map (λ n. i + n) (option_map (λ n. n + k) o) ≡ option_map (λ n. i + k + n) o
after i k None = refl
after i k (Some n) = ap Some (omega arith)

from_zero : (o : Option ℕ) → option_map (λ n. 0 + n) o ≡ o
from_zero None = refl
from_zero (Some n) = ap Some (omega arith)

pub unknown_start : (bs : List ℕ) → unknown_from 0 bs ≡ first_unknown (pieces bs)
unfolding unknown_from
unknown_start bs = from_zero _

pub unknown_quote : (bs : List ℕ) (i : ℕ) → i < length bs → get_or bs i 0 ≡ 34 → unknown_from i bs ≡ None
unfolding unknown_from
unknown_quote bs i h e = ap (λ ps. option_map (λ n. i + n) (first_unknown ps)) (at_quote bs i h e)

pub unknown_end : (bs : List ℕ) (i : ℕ) → length bs ≤ i → unknown_from i bs ≡ None
unfolding unknown_from
unknown_end bs i h = ap (λ ps. option_map (λ n. i + n) (first_unknown ps)) (at_end bs i h)

pub unknown_backslash : (bs : List ℕ) (i : ℕ) → length bs ≡ i + 1 → get_or bs i 0 ≡ 92 → unknown_from i bs ≡ None
unfolding unknown_from
unknown_backslash bs i h e = ap (λ ps. option_map (λ n. i + n) (first_unknown ps)) (at_backslash bs i h e)

pub unknown_plain : (bs : List ℕ) (i : ℕ) → i < length bs → (get_or bs i 0 ≡ 34 → ⊥) → (get_or bs i 0 ≡ 92 → ⊥) → unknown_from i bs ≡ unknown_from (i + 1) bs
unfolding unknown_from
unknown_plain bs i h p q = ap (λ ps. option_map (λ n. i + n) (first_unknown ps)) (at_plain bs i h p q) ∙ after i 1 _

pub unknown_known : (bs : List ℕ) (i : ℕ) → i + 1 < length bs → get_or bs i 0 ≡ 92 → is_none (escaped (get_or bs (i + 1) 0)) ≡ false → unknown_from i bs ≡ unknown_from (i + 2) bs
unfolding unknown_from
unknown_known bs i h e k =
    ap (λ ps. option_map (λ n. i + n) (first_unknown ps)) (at_escape bs i h e)
    ∙ ap (λ b. option_map (λ n. i + n) (cond b (Some 0) (option_map (λ n. n + 2) (first_unknown (pieces (drop (i + 2) bs)))))) k
    ∙ after i 2 _

pub unknown_found : (bs : List ℕ) (i : ℕ) → i + 1 < length bs → get_or bs i 0 ≡ 92 → is_none (escaped (get_or bs (i + 1) 0)) ≡ true → unknown_from i bs ≡ Some i
unfolding unknown_from
unknown_found bs i h e k =
    ap (λ ps. option_map (λ n. i + n) (first_unknown ps)) (at_escape bs i h e)
    ∙ ap (λ b. option_map (λ n. i + n) (cond b (Some 0) (option_map (λ n. n + 2) (first_unknown (pieces (drop (i + 2) bs)))))) k
    ∙ ap Some (add-zero i)

pub ruleset unknown_steps = (unknown_start, unknown_quote, unknown_end, unknown_plain, unknown_known, unknown_found, unknown_backslash)
