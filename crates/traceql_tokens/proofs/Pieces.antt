-- The pieces of a string: what is read is written there, and what is written is read.
use Rattle.std.proofs.Common.{◌≡◌, ℕ, suc, ◌+◌, Bool, true, false, not, ◌&&◌, ◌⊎◌, inl, inr, cond, eqb, is_none, List, [], ◌∷◌, ◌++◌, length, map, Option, None, Some, option_map, filter_map, refl, ap, ap₂, sym, ◌∙◌, arith, eqb-true, length-append}
use Rattle.std.specs.List.{cons_option}
use Rattle.traceql_tokens.specs.Strings.{Piece, Plain, Escape, is_plain, piece_text, pieces_text, ArePieces, meaning, Means, escaped}
use Rattle.traceql_tokens.specs.StringWalk.{pieces, first_unknown}
use Rattle.traceql_tokens.proofs.StringSteps.{pieces-plain, pieces-escape}
use Rattle.traceql_tokens.proofs.Decoding.{plain_tells}

-- what may stand after the pieces: nothing, a backslash alone, or a quote
abbrev pub Stop : List ℕ → Type 0
Stop rest = (rest ≡ []) ⊎ ((rest ≡ 92 ∷ []) ⊎ ((tl : List ℕ) × (rest ≡ 34 ∷ tl)))

pub record Body (body : List ℕ) (ps : List Piece) : Type 0 where
  pub rest : List ℕ
  pub parted : body ≡ pieces_text ps ++ rest
  pub each : ArePieces ps
  pub stop : Stop rest

plain_from : (b : ℕ) → eqb b 34 ≡ false → eqb b 92 ≡ false → is_plain b ≡ true
plain_from b p q = ap₂ (λ x y. not x && not y) p q

one_case : (b : ℕ) (s t : Bool) → eqb b 34 ≡ s → eqb b 92 ≡ t → Body (b ∷ []) (cond s [] (cond t [] (Plain b ∷ [])))
one_case b true t p q = record { rest = b ∷ []; parted = refl; each = tt; stop = inr (inr ([], ap (λ x. x ∷ []) (eqb-true b 34 p))) }
one_case b false true p q = record { rest = b ∷ []; parted = refl; each = tt; stop = inr (inl (ap (λ x. x ∷ []) (eqb-true b 92 q))) }
one_case b false false p q = record { rest = []; parted = refl; each = (plain_from b p q, tt); stop = inl refl }

two_case : (b c : ℕ) (bs : List ℕ) (s t : Bool) → eqb b 34 ≡ s → eqb b 92 ≡ t → Body bs (pieces bs) → Body (c ∷ bs) (pieces (c ∷ bs)) → Body (b ∷ c ∷ bs) (cond s [] (cond t (Escape c ∷ pieces bs) (Plain b ∷ pieces (c ∷ bs))))
two_case b c bs true t p q ih jh = record { rest = b ∷ c ∷ bs; parted = refl; each = tt; stop = inr (inr (c ∷ bs, ap (λ x. x ∷ c ∷ bs) (eqb-true b 34 p))) }
two_case b c bs false true p q ih jh = record { rest = ih.rest; parted = ap₂ (λ x t. x ∷ c ∷ t) (eqb-true b 92 q) ih.parted; each = (tt, ih.each); stop = ih.stop }
two_case b c bs false false p q ih jh = record { rest = jh.rest; parted = ap (λ t. b ∷ t) jh.parted; each = (plain_from b p q, jh.each); stop = jh.stop }

-- the pieces of a body stand at its front, and nothing that is one follows
pub body_is : (body : List ℕ) → Body body (pieces body)
unfolding pieces
body_is [] = record { rest = []; parted = refl; each = tt; stop = inl refl }
body_is (b ∷ []) = one_case b (eqb b 34) (eqb b 92) refl refl
body_is (b ∷ c ∷ bs) = two_case b c bs (eqb b 34) (eqb b 92) refl refl (body_is bs) (body_is (c ∷ bs))

-- pieces that are written are read
pub pieces_of : (ps : List Piece) (rest : List ℕ) → ArePieces ps → pieces (pieces_text ps ++ rest) ≡ ps ++ pieces rest
pieces_of [] rest h = refl
pieces_of (Plain b ∷ ps) rest h =
    let tells = plain_tells b h.0 in
    pieces-plain b (pieces_text ps ++ rest) tells.0 tells.1 ∙ ap (λ t. Plain b ∷ t) (pieces_of ps rest h.1)
pieces_of (Escape c ∷ ps) rest h = pieces-escape c (pieces_text ps ++ rest) ∙ ap (λ t. Escape c ∷ t) (pieces_of ps rest h.1)

pub text_append : (ps qs : List Piece) → length (pieces_text (ps ++ qs)) ≡ length (pieces_text ps) + length (pieces_text qs)
text_append [] qs = omega arith
text_append (p ∷ ps) qs =
    omega (arith, length-append (piece_text p) (pieces_text (ps ++ qs)), length-append (piece_text p) (pieces_text ps), text_append ps qs)

-- known escapes have a meaning
none_back : (k : ℕ) (o : Option ℕ) → option_map (λ n. n + k) o ≡ None → o ≡ None
none_back k None h = refl
none_back k (Some n) h = absurd (cc)

known_escape : (c : ℕ) (ps : List Piece) (o : Option ℕ) → escaped c ≡ o → cond (is_none o) (Some 0) (option_map (λ n. n + 2) (first_unknown ps)) ≡ None → (first_unknown ps ≡ None → Means ps (filter_map meaning ps)) → Means (Escape c ∷ ps) (cons_option o (filter_map meaning ps))
known_escape c ps None e h ih = absurd (cc)
known_escape c ps (Some b) e h ih = ap₂ (λ x t. x ∷ t) e (ih (none_back 2 (first_unknown ps) h))

pub known_means : (ps : List Piece) → first_unknown ps ≡ None → Means ps (filter_map meaning ps)
known_means [] h = refl
known_means (Plain b ∷ ps) h = ap (λ t. Some b ∷ t) (known_means ps (none_back 1 (first_unknown ps) h))
known_means (Escape c ∷ ps) h = known_escape c ps (escaped c) refl h (known_means ps)

-- and what has one has no unknown escape
means_tail : (x : Option ℕ) (xs : List (Option ℕ)) (vs : List ℕ) → x ∷ xs ≡ map Some vs → (v : ℕ) × (ws : List ℕ) × (vs ≡ v ∷ ws) × (x ≡ Some v) × (xs ≡ map Some ws)
means_tail x xs [] h = absurd (cc)
means_tail x xs (v ∷ ws) h = (v, ws, refl, cc, cc)

pub means_known : (ps : List Piece) (value : List ℕ) → Means ps value → (first_unknown ps ≡ None) × (filter_map meaning ps ≡ value)
means_known [] [] h = (refl, refl)
means_known [] (v ∷ vs) h = absurd (cc)
means_known (Plain b ∷ ps) value h =
    let t = means_tail (Some b) (map meaning ps) value h in
    let ih = means_known ps t.1 t.4 in
    let same : b ≡ t.0 = cc (t.3) in
    (ap (option_map (λ n. n + 1)) ih.0, ap₂ (λ x y. x ∷ y) same ih.1 ∙ sym t.2)
means_known (Escape c ∷ ps) value h =
    let t = means_tail (escaped c) (map meaning ps) value h in
    let ih = means_known ps t.1 t.4 in (
      ap (λ o. cond (is_none o) (Some 0) (option_map (λ n. n + 2) (first_unknown ps))) t.3 ∙ ap (option_map (λ n. n + 2)) ih.0,
      ap (λ o. cons_option o (filter_map meaning ps)) t.3 ∙ ap (λ y. t.0 ∷ y) ih.1 ∙ sym t.2,
    )

-- the first unknown escape, with what stands before and after it
pub record Splits (ps : List Piece) (n : ℕ) : Type 0 where
  pub front : List Piece
  pub byte : ℕ
  pub back : List Piece
  pub parted : ps ≡ front ++ Escape byte ∷ back
  pub known : first_unknown front ≡ None
  pub unknown : escaped byte ≡ None
  pub size : n ≡ length (pieces_text front)

some_back : (k n : ℕ) (o : Option ℕ) → option_map (λ m. m + k) o ≡ Some n → (m : ℕ) × (o ≡ Some m) × (n ≡ m + k)
some_back k n None h = absurd (cc)
some_back k n (Some m) h = (m, refl, cc)

split_plain : (b n : ℕ) (ps : List Piece) → option_map (λ m. m + 1) (first_unknown ps) ≡ Some n → ((m : ℕ) → first_unknown ps ≡ Some m → Splits ps m) → Splits (Plain b ∷ ps) n
split_plain b n ps h ih =
    let s = some_back 1 n (first_unknown ps) h in
    let i = ih s.0 s.1 in
    record { front = Plain b ∷ i.front; byte = i.byte; back = i.back; parted = ap (λ t. Plain b ∷ t) i.parted; known = ap (option_map (λ m. m + 1)) i.known; unknown = i.unknown; size = omega (arith, s.2, i.size) }

split_escape : (c n : ℕ) (ps : List Piece) (o : Option ℕ) → escaped c ≡ o → cond (is_none o) (Some 0) (option_map (λ m. m + 2) (first_unknown ps)) ≡ Some n → ((m : ℕ) → first_unknown ps ≡ Some m → Splits ps m) → Splits (Escape c ∷ ps) n
split_escape c n ps None e h ih = let z : 0 ≡ n = cc in record { front = []; byte = c; back = ps; parted = refl; known = refl; unknown = e; size = sym z }
split_escape c n ps (Some v) e h ih =
    let s = some_back 2 n (first_unknown ps) h in
    let i = ih s.0 s.1 in
    record { front = Escape c ∷ i.front; byte = i.byte; back = i.back; parted = ap (λ t. Escape c ∷ t) i.parted; known = ap (λ o. cond (is_none o) (Some 0) (option_map (λ m. m + 2) (first_unknown i.front))) e ∙ ap (option_map (λ m. m + 2)) i.known; unknown = i.unknown; size = omega (arith, s.2, i.size) }

pub splits : (ps : List Piece) (n : ℕ) → first_unknown ps ≡ Some n → Splits ps n
splits [] n h = absurd (cc)
splits (Plain b ∷ ps) n h = split_plain b n ps h (splits ps)
splits (Escape c ∷ ps) n h = split_escape c n ps (escaped c) refl h (splits ps)

first_behind : (d : ℕ) (front back : List Piece) (c : ℕ) (o : Option ℕ) → escaped d ≡ o → cond (is_none (escaped d)) (Some 0) (option_map (λ n. n + 2) (first_unknown front)) ≡ None → (first_unknown front ≡ None → first_unknown (front ++ Escape c ∷ back) ≡ Some (length (pieces_text front))) → first_unknown (Escape d ∷ (front ++ Escape c ∷ back)) ≡ Some (length (pieces_text (Escape d ∷ front)))
first_behind d front back c None q h ih =
    let zero_found : Option ℕ = Some 0 in
    let nothing : Option ℕ = None in
    let z : zero_found ≡ nothing = ap (λ o. cond (is_none o) (Some 0) (option_map (λ n. n + 2) (first_unknown front))) (sym q) ∙ h in
    absurd (cc)
first_behind d front back c (Some v) q h ih =
    let n : length (pieces_text front) + 2 ≡ suc (suc (length (pieces_text front))) = omega arith in
    let none : first_unknown front ≡ None = none_back 2 (first_unknown front) (ap (λ o. cond (is_none o) (Some 0) (option_map (λ n. n + 2) (first_unknown front))) (sym q) ∙ h) in
    ap (λ o. cond (is_none o) (Some 0) (option_map (λ n. n + 2) (first_unknown (front ++ Escape c ∷ back)))) q ∙ ap (option_map (λ n. n + 2)) (ih none) ∙ ap Some n

-- a first unknown escape is found
pub first_at : (front back : List Piece) (c : ℕ) → first_unknown front ≡ None → escaped c ≡ None → first_unknown (front ++ Escape c ∷ back) ≡ Some (length (pieces_text front))
first_at [] back c h e = ap (λ o. cond (is_none o) (Some 0) (option_map (λ n. n + 2) (first_unknown back))) e
first_at (Plain b ∷ front) back c h e =
    let n : length (pieces_text front) + 1 ≡ suc (length (pieces_text front)) = omega arith in
    ap (option_map (λ n. n + 1)) (first_at front back c (none_back 1 (first_unknown front) h) e) ∙ ap Some n
first_at (Escape d ∷ front) back c h e =
    first_behind d front back c (escaped d) refl h (λ k. first_at front back c k e)

pub pieces_append : (ps qs : List Piece) → ArePieces (ps ++ qs) → ArePieces ps × ArePieces qs
pieces_append [] qs h = (tt, h)
pieces_append (p ∷ ps) qs h = let i = pieces_append ps qs h.1 in ((h.0, i.0), i.1)

pub append_pieces : (ps qs : List Piece) → ArePieces ps → ArePieces qs → ArePieces (ps ++ qs)
append_pieces [] qs h k = k
append_pieces (p ∷ ps) qs h k = (h.0, append_pieces ps qs h.1 k)
