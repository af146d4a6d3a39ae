-- The walk over a string goes at least as far as any string that stands there, and tells the one that goes as far.
use Rattle.std.proofs.Common.{◌≡◌, ℕ, suc, ◌+◌, ◌≤◌, Bool, true, false, ◌⊎◌, inl, inr, cond, eqb, List, [], ◌∷◌, ◌++◌, length, get_or, take, Option, None, Some, Ok, Err, filter_map, refl, ap, ap₂, sym, ◌∙◌, subst, arith, append-nil, append_assoc, length-append, add-zero}
use Rattle.std.specs.List.{prefix_len, list_all}
use Rattle.std.proofs.lemmas.List.{get_or_at, take_at}
use Rattle.traceql_tokens.specs.Strings.{Piece, Escape, pieces_text, ArePieces, meaning, Means, IsRaw, IsWhole, whole_quoted, whole_raw, IsUnended, open_quoted, open_backslash, open_raw, HasUnknown, IsString}
use Rattle.traceql_tokens.specs.StringWalk.{pieces, body_len, first_unknown, value_of, quoted_at, raw_at, string_at}
use Rattle.traceql_tokens.specs.declared.kinds.Fault.TheVariants as fault
use Rattle.traceql_tokens.proofs.StringSteps.{pieces-quote, pieces-backslash, pieces-escape}
use Rattle.traceql_tokens.proofs.StringCases.{raw_closed, quoted_unclosed, quoted_known, quoted_unknown, string_quoted, string_raw}
use Rattle.traceql_tokens.proofs.Prefixes.{both}
use Rattle.traceql_tokens.proofs.Pieces.{pieces_of, text_append, means_known, first_at, append_pieces}
use Rattle.traceql_tokens.proofs.StringLaws.{Value, not_back, text_is}

-- what the walk finds before a rest, against a text that is a token
pub record Reaches {V : Type 0} (walk : List ℕ → Option (V × ℕ)) (w rest : List ℕ) (v : V) : Type 0 where
  pub found : V × ℕ
  pub is : walk (w ++ rest) ≡ Some found
  pub far : length w ≤ found.1
  pub same : found.1 ≡ length w → found.0 ≡ v

pub exact : {V : Type 0} (walk : List ℕ → Option (V × ℕ)) (w rest : List ℕ) (v : V) (n : ℕ) → walk (w ++ rest) ≡ Some (v, n) → n ≡ length w → Reaches walk w rest v
exact walk w rest v n e l = record { found = (v, n); is = e; far = omega arith; same = λ _. refl }

-- a run that passes is at the front of the run
pub prefix_append : (p : ℕ → Bool) (xs ys : List ℕ) → list_all p xs ≡ true → prefix_len p (xs ++ ys) ≡ length xs + prefix_len p ys
prefix_append p [] ys h = omega arith
prefix_append p (x ∷ xs) ys h =
    let parts = both (p x) (list_all p xs) h in
    let e = prefix_append p xs ys parts.1 in
    ap (λ b. cond b (1 + prefix_len p (xs ++ ys)) 0) parts.0 ∙ (omega arith)

closed_pieces : (ps : List Piece) (rest : List ℕ) → ArePieces ps → pieces (pieces_text ps ++ 34 ∷ rest) ≡ ps
closed_pieces ps rest each = pieces_of ps (34 ∷ rest) each ∙ ap (λ t. ps ++ t) (pieces-quote rest) ∙ append-nil ps

closed_byte : (ps : List Piece) (rest : List ℕ) → ArePieces ps → get_or (pieces_text ps ++ 34 ∷ rest) (body_len (pieces_text ps ++ 34 ∷ rest)) 0 ≡ 34
closed_byte ps rest each = get_or_at (pieces_text ps) 34 rest 0 _ (ap (λ qs. length (pieces_text qs)) (sym (closed_pieces ps rest each)))

closed_text : (mid rest : List ℕ) (q : ℕ) → (q ∷ (mid ++ q ∷ [])) ++ rest ≡ q ∷ (mid ++ q ∷ rest)
closed_text mid rest q = ap (λ t. q ∷ t) (append_assoc mid (q ∷ []) rest)

quoted_walk : (at : ℕ) (body : List ℕ) → string_at at (34 ∷ body) ≡ Some (quoted_at at body)
quoted_walk at body = string_quoted at (34 ∷ body) (omega arith) refl

raw_walk : (at : ℕ) (body : List ℕ) → string_at at (96 ∷ body) ≡ Some (raw_at at body)
raw_walk at body = string_raw at (96 ∷ body) (omega arith) refl

known_walk : (at : ℕ) (ps : List Piece) (value rest : List ℕ) → ArePieces ps → Means ps value → string_at at ((34 ∷ (pieces_text ps ++ 34 ∷ [])) ++ rest) ≡ Some (Ok value, length (pieces_text ps) + 2)
known_walk at ps value rest each m =
    let body = pieces_text ps ++ 34 ∷ rest in
    let k = means_known ps value m in
    let same : pieces body ≡ ps = closed_pieces ps rest each in
    let known : first_unknown (pieces body) ≡ None = ap first_unknown same ∙ k.0 in
    let walked : quoted_at at body ≡ (Ok (filter_map meaning (pieces body)), body_len body + 2) = quoted_known at body (closed_byte ps rest each) known in
    ap (string_at at) (closed_text (pieces_text ps) rest 34) ∙ quoted_walk at body ∙ ap Some (walked ∙ ap₂ (λ x y. (Ok x, length (pieces_text y) + 2)) (ap (filter_map meaning) same ∙ k.1) same)

closed_size : (mid : List ℕ) (q : ℕ) → length mid + 2 ≡ length (q ∷ (mid ++ q ∷ []))
closed_size mid q = omega (arith, length-append mid (q ∷ []))

reach_known : (at : ℕ) (ps : List Piece) (value rest : List ℕ) → ArePieces ps → Means ps value → Reaches (string_at at) (34 ∷ (pieces_text ps ++ 34 ∷ [])) rest (Ok value)
reach_known at ps value rest each m =
    exact (string_at at) (34 ∷ (pieces_text ps ++ 34 ∷ [])) rest (Ok value) (length (pieces_text ps) + 2) (known_walk at ps value rest each m) (closed_size (pieces_text ps) 34)

reach_unknown : (at place n : ℕ) (ps : List Piece) (rest : List ℕ) → ArePieces ps → first_unknown ps ≡ Some n → place ≡ at + (1 + n) → Reaches (string_at at) (34 ∷ (pieces_text ps ++ 34 ∷ [])) rest (Err (fault.UnknownEscape place))
reach_unknown at place n ps rest each u e =
    let body = pieces_text ps ++ 34 ∷ rest in
    let same : pieces body ≡ ps = closed_pieces ps rest each in
    let unknown : first_unknown (pieces body) ≡ Some n = ap first_unknown same ∙ u in
    let walked : quoted_at at body ≡ (Err (fault.UnknownEscape (at + 1 + n)), body_len body + 2) = quoted_unknown at n body (closed_byte ps rest each) unknown in
    let places : at + 1 + n ≡ place = omega arith in
    exact (string_at at) (34 ∷ (pieces_text ps ++ 34 ∷ [])) rest (Err (fault.UnknownEscape place)) (length (pieces_text ps) + 2)
    (ap (string_at at) (closed_text (pieces_text ps) rest 34) ∙ quoted_walk at body ∙ ap Some (walked ∙ ap₂ (λ x y. (Err (fault.UnknownEscape x), length (pieces_text y) + 2)) places same))
    (omega (arith, length-append (pieces_text ps) (34 ∷ [])))

raw_known : (at : ℕ) (value rest : List ℕ) → IsRaw value → string_at at ((96 ∷ (value ++ 96 ∷ [])) ++ rest) ≡ Some (Ok value, length value + 2)
raw_known at value rest raw =
    let body = value ++ 96 ∷ rest in
    let n : prefix_len not_back body ≡ length value = prefix_append not_back value (96 ∷ rest) raw ∙ add-zero (length value) in
    let len : length body ≡ length value + suc (length rest) = length-append value (96 ∷ rest) in
    ap (string_at at) (closed_text value rest 96) ∙ raw_walk at body
    ∙ ap Some (raw_closed at body (omega arith) ∙ ap (λ k. (Ok (take k body), k + 2)) n ∙ ap (λ t. (Ok t, length value + 2)) (take_at value (96 ∷ rest) (length value) refl))

reach_raw : (at : ℕ) (value rest : List ℕ) → IsRaw value → Reaches (string_at at) (96 ∷ (value ++ 96 ∷ [])) rest (Ok value)
reach_raw at value rest raw =
    exact (string_at at) (96 ∷ (value ++ 96 ∷ [])) rest (Ok value) (length value + 2) (raw_known at value rest raw) (closed_size value 96)

-- a string that ends is found as it stands, whatever follows it
pub whole_walk : (at : ℕ) (w value rest : List ℕ) → IsWhole w value → string_at at (w ++ rest) ≡ Some (Ok value, length w)
whole_walk at w value rest (whole_quoted ps each m e) =
    ap (λ t. string_at at (t ++ rest)) e ∙ known_walk at ps value rest each m ∙ ap (λ n. Some (Ok value, n)) (closed_size (pieces_text ps) 34 ∙ ap length (sym e))
whole_walk at w value rest (whole_raw raw e) =
    ap (λ t. string_at at (t ++ rest)) e ∙ raw_known at value rest raw ∙ ap (λ n. Some (Ok value, n)) (closed_size value 96 ∙ ap length (sym e))

-- a string between double quotes is open, or goes just after its quote
quoted_either : (at : ℕ) (body : List ℕ) → (quoted_at at body ≡ (Err (fault.Unended at), length body + 1)) ⊎ ((quoted_at at body).1 ≡ body_len body + 2)
unfolding quoted_at
quoted_either at body = by_test (eqb (get_or body (body_len body) 0) 34)
  where
    by_test : (b : Bool) → (cond {A = Value × ℕ} b (value_of (at + 1) (pieces body), body_len body + 2) (Err (fault.Unended at), length body + 1) ≡ (Err (fault.Unended at), length body + 1)) ⊎ ((cond {A = Value × ℕ} b (value_of (at + 1) (pieces body), body_len body + 2) (Err (fault.Unended at), length body + 1)).1 ≡ body_len body + 2)
    by_test true = inr refl
    by_test false = inl refl

raw_either : (at : ℕ) (body : List ℕ) → (raw_at at body ≡ (Err (fault.Unended at), length body + 1)) ⊎ ((raw_at at body).1 ≡ prefix_len not_back body + 2)
unfolding raw_at
raw_either at body = by_test (eqb (get_or body (prefix_len not_back body) 0) 96)
  where
    by_test : (b : Bool) → (cond {A = Value × ℕ} b (Ok (take (prefix_len not_back body) body), prefix_len not_back body + 2) (Err (fault.Unended at), length body + 1) ≡ (Err (fault.Unended at), length body + 1)) ⊎ ((cond {A = Value × ℕ} b (Ok (take (prefix_len not_back body) body), prefix_len not_back body + 2) (Err (fault.Unended at), length body + 1)).1 ≡ prefix_len not_back body + 2)
    by_test true = inr refl
    by_test false = inl refl

reach_open : (at q : ℕ) (mid rest : List ℕ) (r : Value × ℕ) (m : ℕ) → string_at at (q ∷ (mid ++ rest)) ≡ Some r → (r ≡ (Err (fault.Unended at), length (mid ++ rest) + 1)) ⊎ (r.1 ≡ m + 2) → length mid ≤ m → Reaches (string_at at) (q ∷ mid) rest (Err (fault.Unended at))
reach_open at q mid rest r m e (inl opened) h =
    let size : r.1 ≡ length (mid ++ rest) + 1 = ap (λ x. x.1) opened in
    let l = length-append mid rest in
    record { found = r; is = e; far = omega arith; same = λ _. ap (λ x. x.0) opened }
reach_open at q mid rest r m e (inr closed) h = record { found = r; is = e; far = omega arith; same = λ z. absurd (omega arith) }

reach_slash : (at : ℕ) (ps : List Piece) (rest : List ℕ) → ArePieces ps → Reaches (string_at at) (34 ∷ (pieces_text ps ++ 92 ∷ [])) rest (Err (fault.Unended at))
reach_slash at ps [] each =
    let mid = pieces_text ps ++ 92 ∷ [] in
    let same : pieces mid ≡ ps = pieces_of ps (92 ∷ []) each ∙ ap (λ t. ps ++ t) pieces-backslash ∙ append-nil ps in
    let byte : get_or mid (body_len mid) 0 ≡ 92 = get_or_at (pieces_text ps) 92 [] 0 (body_len mid) (ap (λ qs. length (pieces_text qs)) (sym same)) in
    exact (string_at at) (34 ∷ mid) [] (Err (fault.Unended at)) (length mid + 1)
    (ap (λ t. string_at at (34 ∷ t)) (append-nil mid) ∙ quoted_walk at mid ∙ ap Some (quoted_unclosed at mid (λ z. absurd (omega arith))))
    (omega arith)
reach_slash at ps (c ∷ r) each =
    let mid = pieces_text ps ++ 92 ∷ [] in
    let body = mid ++ c ∷ r in
    let text : body ≡ pieces_text ps ++ 92 ∷ c ∷ r = append_assoc (pieces_text ps) (92 ∷ []) (c ∷ r) in
    let same : pieces body ≡ ps ++ Escape c ∷ pieces r = ap pieces text ∙ pieces_of ps (92 ∷ c ∷ r) each ∙ ap (λ t. ps ++ t) (pieces-escape c r) in
    let size : body_len body ≡ length (pieces_text ps) + length (pieces_text (Escape c ∷ pieces r)) = ap (λ qs. length (pieces_text qs)) same ∙ text_append ps (Escape c ∷ pieces r) in
    reach_open at 34 mid (c ∷ r) (quoted_at at body) (body_len body) (quoted_walk at body) (quoted_either at body) (omega (arith, length-append (pieces_text ps) (92 ∷ [])))

reach_unended : (at : ℕ) (w rest : List ℕ) → IsUnended w → Reaches (string_at at) w rest (Err (fault.Unended at))
reach_unended at w rest (open_quoted ps each e) =
    let body = pieces_text ps ++ rest in
    let size : body_len body ≡ length (pieces_text ps) + length (pieces_text (pieces rest)) = ap (λ qs. length (pieces_text qs)) (pieces_of ps rest each) ∙ text_append ps (pieces rest) in
    subst (λ t. Reaches (string_at at) t rest (Err (fault.Unended at))) (sym e)
    (reach_open at 34 (pieces_text ps) rest (quoted_at at body) (body_len body) (quoted_walk at body) (quoted_either at body) (omega arith))
reach_unended at w rest (open_backslash ps each e) =
    subst (λ t. Reaches (string_at at) t rest (Err (fault.Unended at))) (sym e) (reach_slash at ps rest each)
reach_unended at w rest (open_raw body raw e) =
    let size = prefix_append not_back body rest raw in
    subst (λ t. Reaches (string_at at) t rest (Err (fault.Unended at))) (sym e)
    (reach_open at 96 body rest (raw_at at (body ++ rest)) (prefix_len not_back (body ++ rest)) (raw_walk at (body ++ rest)) (raw_either at (body ++ rest)) (omega arith))

reach_whole : (at : ℕ) (w value rest : List ℕ) → IsWhole w value → Reaches (string_at at) w rest (Ok value)
reach_whole at w value rest (whole_quoted ps each m e) = subst (λ t. Reaches (string_at at) t rest (Ok value)) (sym e) (reach_known at ps value rest each m)
reach_whole at w value rest (whole_raw raw e) = subst (λ t. Reaches (string_at at) t rest (Ok value)) (sym e) (reach_raw at value rest raw)

reach_has : (at place offset : ℕ) (w rest : List ℕ) → place ≡ at + offset → HasUnknown w offset → Reaches (string_at at) w rest (Err (fault.UnknownEscape place))
reach_has at place offset w rest e u =
    let ps = u.front ++ Escape u.byte ∷ u.back in
    let each = append_pieces u.front (Escape u.byte ∷ u.back) u.front_pieces (tt, u.back_pieces) in
    let found = first_at u.front u.back u.byte (means_known u.front u.value u.known).0 u.unknown in
    let text : w ≡ 34 ∷ (pieces_text ps ++ 34 ∷ []) =
    u.written ∙ ap (λ t. 34 ∷ t) (sym (append_assoc (pieces_text u.front) (pieces_text (Escape u.byte ∷ u.back)) (34 ∷ []))) ∙ ap (λ t. 34 ∷ (t ++ 34 ∷ [])) (sym (text_is u.front (Escape u.byte ∷ u.back))) in
    subst (λ t. Reaches (string_at at) t rest (Err (fault.UnknownEscape place))) (sym text)
    (reach_unknown at place (length (pieces_text u.front)) ps rest each found (omega (arith, u.place)))

pub string_reach : (at : ℕ) (w rest : List ℕ) (v : Value) → IsString at w v → Reaches (string_at at) w rest v
string_reach at w rest (Ok value) h = reach_whole at w value rest h
string_reach at w rest (Err (fault.Unended place)) h = subst (λ p. Reaches (string_at at) w rest (Err (fault.Unended p))) (sym h.0) (reach_unended at w rest h.1)
string_reach at w rest (Err (fault.UnknownEscape place)) h = reach_has at place h.0 w rest h.1 h.2
string_reach at w rest (Err fault.NumberRange) h = absurd h
string_reach at w rest (Err fault.FractionLiteral) h = absurd h
