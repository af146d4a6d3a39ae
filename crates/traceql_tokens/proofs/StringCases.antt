-- What a string is, by what the lexer found: one equation for each way that it returns.
use Rattle.std.proofs.Common.{◌≡◌, ℕ, ◌+◌, ◌<◌, ◌≤◌, Bool, true, false, not, eqb, cond, List, [], ◌∷◌, length, get_or, take, drop, None, Some, Result, Ok, Err, filter_map, refl, ap, ◌∙◌, arith, eqb-true, eq-eqb, ne_eqb}
use Rattle.std.specs.List.{prefix_len}
use Rattle.std.proofs.lemmas.List.{get_or_past}
use Rattle.std.proofs.lemmas.List.Sums.{prefix_len_stops}
use Rattle.traceql_tokens.specs.Strings.{meaning}
use Rattle.traceql_tokens.specs.StringWalk.{pieces, body_len, first_unknown, value_of, value_or, quoted_at, raw_at, string_at}
use Rattle.traceql_tokens.specs.declared.kinds.Fault.{Fault}
use Rattle.traceql_tokens.specs.declared.kinds.Fault.TheVariants as fault

not_eqb : (b : ℕ) → not (eqb b 96) ≡ false → b ≡ 96
not_eqb b h = eqb-true b 96 (not_false _ h)
  where
    not_false : (x : Bool) → not x ≡ false → x ≡ true
    not_false true h = refl
    not_false false h = absurd (cc)

pub raw_stops : (body : List ℕ) → prefix_len (λ b. not (eqb b 96)) body < length body → get_or body (prefix_len (λ b. not (eqb b 96)) body) 0 ≡ 96
raw_stops body h = not_eqb _ (prefix_len_stops (λ b. not (eqb b 96)) body 0 h)

pub raw_open : (at : ℕ) (body : List ℕ) → length body ≤ prefix_len (λ b. not (eqb b 96)) body → raw_at at body ≡ (Err (fault.Unended at), length body + 1)
unfolding raw_at
raw_open at body h =
    ap (λ b. cond (eqb b 96) (Ok (take (prefix_len (λ b. not (eqb b 96)) body) body), prefix_len (λ b. not (eqb b 96)) body + 2) (Err (fault.Unended at), length body + 1)) (get_or_past body _ 0 h)

pub raw_closed : (at : ℕ) (body : List ℕ) → prefix_len (λ b. not (eqb b 96)) body < length body → raw_at at body ≡ (Ok (take (prefix_len (λ b. not (eqb b 96)) body) body), prefix_len (λ b. not (eqb b 96)) body + 2)
unfolding raw_at
raw_closed at body h =
    ap (λ b. cond (eqb b 96) (Ok (take (prefix_len (λ b. not (eqb b 96)) body) body), prefix_len (λ b. not (eqb b 96)) body + 2) (Err (fault.Unended at), length body + 1)) (raw_stops body h)

pub ruleset raw_cases = (raw_stops, raw_open, raw_closed)

abbrev quoted_from : ℕ → List ℕ → Bool → Result (List ℕ) Fault × ℕ
quoted_from at body b = cond b (value_of (at + 1) (pieces body), body_len body + 2) (Err (fault.Unended at), length body + 1)

pub quoted_open : (at : ℕ) (body : List ℕ) → length body ≤ body_len body → quoted_at at body ≡ (Err (fault.Unended at), length body + 1)
unfolding quoted_at
quoted_open at body h = ap (λ b. quoted_from at body (eqb b 34)) (get_or_past body _ 0 h)

pub quoted_unclosed : (at : ℕ) (body : List ℕ) → (get_or body (body_len body) 0 ≡ 34 → ⊥) → quoted_at at body ≡ (Err (fault.Unended at), length body + 1)
unfolding quoted_at
quoted_unclosed at body h = ap (λ b. quoted_from at body b) (ne_eqb _ 34 h)

pub quoted_known : (at : ℕ) (body : List ℕ) → get_or body (body_len body) 0 ≡ 34 → first_unknown (pieces body) ≡ None → quoted_at at body ≡ (Ok (filter_map meaning (pieces body)), body_len body + 2)
unfolding quoted_at value_of
quoted_known at body h k =
    ap (λ b. quoted_from at body b) (eq-eqb _ 34 h) ∙ ap (λ o. (value_or (at + 1) (filter_map meaning (pieces body)) o, body_len body + 2)) k

pub quoted_unknown : (at n : ℕ) (body : List ℕ) → get_or body (body_len body) 0 ≡ 34 → first_unknown (pieces body) ≡ Some n → quoted_at at body ≡ (Err (fault.UnknownEscape (at + 1 + n)), body_len body + 2)
unfolding quoted_at value_of
quoted_unknown at n body h k =
    ap (λ b. quoted_from at body b) (eq-eqb _ 34 h) ∙ ap (λ o. (value_or (at + 1) (filter_map meaning (pieces body)) o, body_len body + 2)) k

pub ruleset quoted_cases = (quoted_open, quoted_unclosed, quoted_known, quoted_unknown)

pub string_quoted : (at : ℕ) (text : List ℕ) → 0 < length text → get_or text 0 0 ≡ 34 → string_at at text ≡ Some (quoted_at at (drop 1 text))
unfolding string_at
string_quoted at [] h e = absurd (omega arith)
string_quoted at (b ∷ bs) h e = ap (λ x. cond (eqb x 34) (Some (quoted_at at bs)) (cond (eqb x 96) (Some (raw_at at bs)) None)) e

pub string_raw : (at : ℕ) (text : List ℕ) → 0 < length text → get_or text 0 0 ≡ 96 → string_at at text ≡ Some (raw_at at (drop 1 text))
unfolding string_at
string_raw at [] h e = absurd (omega arith)
string_raw at (b ∷ bs) h e = ap (λ x. cond (eqb x 34) (Some (quoted_at at bs)) (cond (eqb x 96) (Some (raw_at at bs)) None)) e

pub string_none : (at : ℕ) (text : List ℕ) → (0 < length text → get_or text 0 0 ≡ 34 → ⊥) → (0 < length text → get_or text 0 0 ≡ 96 → ⊥) → string_at at text ≡ None
unfolding string_at
string_none at [] p q = refl
string_none at (b ∷ bs) p q =
    ap (λ x. cond x (Some (quoted_at at bs)) (cond (eqb b 96) (Some (raw_at at bs)) None)) (ne_eqb b 34 (p (omega arith))) ∙ ap (λ x. cond x (Some (raw_at at bs)) None) (ne_eqb b 96 (q (omega arith)))

pub ruleset string_cases = (string_quoted, string_raw, string_none)
