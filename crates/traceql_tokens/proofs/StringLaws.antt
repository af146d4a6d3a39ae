-- The walk over a string finds just what the definition says.
use Rattle.std.proofs.Common.{◌≡◌, ℕ, suc, ◌+◌, ◌<◌, ◌≤◌, Bool, true, false, not, ◌⊎◌, inl, inr, cond, eqb, List, [], ◌∷◌, ◌++◌, length, get_or, drop, take, Option, None, Some, Result, Ok, Err, filter_map, refl, ap, sym, ◌∙◌, subst, arith, eqb-true, append-nil, append_assoc, length-append, take-append-drop, take_all, length-take-le}
use Rattle.std.specs.List.{prefix_len}
use Rattle.std.proofs.lemmas.List.{get_or_at, drop_more}
use Rattle.std.proofs.lemmas.List.Sums.{prefix_len-le-length}
use Rattle.traceql_tokens.specs.Strings.{Piece, Escape, piece_text, pieces_text, ArePieces, meaning, IsRaw, whole_quoted, whole_raw, IsUnended, open_quoted, open_backslash, open_raw, IsString}
use Rattle.traceql_tokens.specs.StringWalk.{pieces, body_len, first_unknown, quoted_at, raw_at, string_at}
use Rattle.traceql_tokens.specs.declared.kinds.Fault.{Fault}
use Rattle.traceql_tokens.specs.declared.kinds.Fault.TheVariants as fault
use Rattle.traceql_tokens.proofs.StringCases.{raw_stops, raw_open, raw_closed, quoted_open, quoted_unclosed, quoted_known, quoted_unknown}
use Rattle.traceql_tokens.proofs.NumberSteps.{run_passes}
use Rattle.traceql_tokens.proofs.Pieces.{Body, body_is, known_means, splits, pieces_append}
use Rattle.traceql_tokens.proofs.Ends.{End, behind, whole, Found}

abbrev pub Value : Type 0
Value = Result (List ℕ) Fault

abbrev pub Strung : ℕ → List ℕ → Value × ℕ → Type 0
Strung at bs r = Found bs r.1 (λ w. IsString at w r.0)

open_found : (at : ℕ) (b : ℕ) (body : List ℕ) → IsUnended (b ∷ body) → Strung at (b ∷ body) (Err (fault.Unended at), length body + 1)
open_found at b body u = record {
  word = b ∷ body;
  rest = [];
  parted = sym (append-nil (b ∷ body));
  size = omega arith;
  is = (refl, u);
  end = whole (omega arith);
  some = omega arith;
}

closed_parted : (q : ℕ) (mid tl body : List ℕ) → body ≡ mid ++ q ∷ tl → q ∷ body ≡ (q ∷ (mid ++ q ∷ [])) ++ tl
closed_parted q mid tl body e = ap (λ t. q ∷ t) (e ∙ sym (append_assoc mid (q ∷ []) tl))

closed_size : (q : ℕ) (mid : List ℕ) → length mid + 2 ≡ length (q ∷ (mid ++ q ∷ []))
closed_size q mid = omega (arith, length-append mid (q ∷ []))

closed_end : (q : ℕ) (mid tl body : List ℕ) → q < 128 → body ≡ mid ++ q ∷ tl → End (q ∷ body) (length mid + 2)
closed_end q mid tl body a e =
    let byte : get_or body (length mid) 0 ≡ q = ap (λ t. get_or t (length mid) 0) e ∙ get_or_at mid q tl 0 (length mid) refl in
    let len : length body ≡ length mid + suc (length tl) = ap length e ∙ length-append mid (q ∷ tl) in
    behind (suc (length mid)) (omega arith) (omega arith) (omega arith)

closed_found : (at : ℕ) (mid tl body : List ℕ) (q : ℕ) (v : Value) → q < 128 → body ≡ mid ++ q ∷ tl → IsString at (q ∷ (mid ++ q ∷ [])) v → Strung at (q ∷ body) (v, length mid + 2)
closed_found at mid tl body q v a e is = record {
  word = q ∷ (mid ++ q ∷ []);
  rest = tl;
  parted = closed_parted q mid tl body e;
  size = closed_size q mid;
  is = is;
  end = closed_end q mid tl body a e;
  some = omega arith;
}

pub text_is : (ps qs : List Piece) → pieces_text (ps ++ qs) ≡ pieces_text ps ++ pieces_text qs
text_is [] qs = refl
text_is (p ∷ ps) qs = ap (λ t. piece_text p ++ t) (text_is ps qs) ∙ sym (append_assoc (piece_text p) (pieces_text ps) (pieces_text qs))

unknown_is : (at n : ℕ) (ps : List Piece) → ArePieces ps → first_unknown ps ≡ Some n → IsString at (34 ∷ (pieces_text ps ++ 34 ∷ [])) (Err (fault.UnknownEscape (at + 1 + n)))
unknown_is at n ps each h =
    let s = splits ps n h in
    let parts = pieces_append s.front (Escape s.byte ∷ s.back) (subst ArePieces s.parted each) in
    let m = known_means s.front s.known in
    let texts : pieces_text ps ≡ pieces_text s.front ++ pieces_text (Escape s.byte ∷ s.back) = ap pieces_text s.parted ∙ text_is s.front (Escape s.byte ∷ s.back) in (
      1 + n,
      omega arith,
      record {
        front = s.front;
        value = filter_map meaning s.front;
        byte = s.byte;
        back = s.back;
        front_pieces = parts.0;
        known = m;
        unknown = s.unknown;
        back_pieces = parts.1.1;
        written = ap (λ t. 34 ∷ (t ++ 34 ∷ [])) texts ∙ ap (λ t. 34 ∷ t) (append_assoc (pieces_text s.front) (pieces_text (Escape s.byte ∷ s.back)) (34 ∷ []));
        place = omega (arith, s.size);
      },
    )

closed_value : (at : ℕ) (body : List ℕ) (o : Option ℕ) → first_unknown (pieces body) ≡ o → (b : Body body (pieces body)) (tl : List ℕ) → b.rest ≡ 34 ∷ tl → Strung at (34 ∷ body) (quoted_at at body)
closed_value at body None h b tl e =
    let parted : body ≡ pieces_text (pieces body) ++ 34 ∷ tl = b.parted ∙ ap (λ t. pieces_text (pieces body) ++ t) e in
    let byte : get_or body (body_len body) 0 ≡ 34 = ap (λ t. get_or t (body_len body) 0) parted ∙ get_or_at (pieces_text (pieces body)) 34 tl 0 (body_len body) refl in
    subst (Strung at (34 ∷ body)) (sym (quoted_known at body byte h))
    (closed_found at (pieces_text (pieces body)) tl body 34 (Ok (filter_map meaning (pieces body))) (omega arith) parted (whole_quoted (pieces body) b.each (known_means (pieces body) h) refl))
closed_value at body (Some n) h b tl e =
    let parted : body ≡ pieces_text (pieces body) ++ 34 ∷ tl = b.parted ∙ ap (λ t. pieces_text (pieces body) ++ t) e in
    let byte : get_or body (body_len body) 0 ≡ 34 = ap (λ t. get_or t (body_len body) 0) parted ∙ get_or_at (pieces_text (pieces body)) 34 tl 0 (body_len body) refl in
    subst (Strung at (34 ∷ body)) (sym (quoted_unknown at n body byte h))
    (closed_found at (pieces_text (pieces body)) tl body 34 (Err (fault.UnknownEscape (at + 1 + n))) (omega arith) parted (unknown_is at n (pieces body) b.each h))

quoted_by : (at : ℕ) (body : List ℕ) (b : Body body (pieces body)) → (b.rest ≡ []) ⊎ ((b.rest ≡ 92 ∷ []) ⊎ ((tl : List ℕ) × (b.rest ≡ 34 ∷ tl))) → Strung at (34 ∷ body) (quoted_at at body)
quoted_by at body b (inl e) =
    let parted : body ≡ pieces_text (pieces body) = b.parted ∙ ap (λ t. pieces_text (pieces body) ++ t) e ∙ append-nil (pieces_text (pieces body)) in
    let len : length body ≡ body_len body = ap length parted in
    subst (Strung at (34 ∷ body)) (sym (quoted_open at body (omega arith))) (open_found at 34 body (open_quoted (pieces body) b.each (ap (λ t. 34 ∷ t) parted)))
quoted_by at body b (inr (inl e)) =
    let parted : body ≡ pieces_text (pieces body) ++ 92 ∷ [] = b.parted ∙ ap (λ t. pieces_text (pieces body) ++ t) e in
    let byte : get_or body (body_len body) 0 ≡ 92 = ap (λ t. get_or t (body_len body) 0) parted ∙ get_or_at (pieces_text (pieces body)) 92 [] 0 (body_len body) refl in
    subst (Strung at (34 ∷ body)) (sym (quoted_unclosed at body (λ z. absurd (omega arith)))) (open_found at 34 body (open_backslash (pieces body) b.each (ap (λ t. 34 ∷ t) parted)))
quoted_by at body b (inr (inr w)) = closed_value at body (first_unknown (pieces body)) refl b w.0 w.1

below_or : (a b : ℕ) → (a < b) ⊎ (b ≤ a)
below_or a b = grind arith

abbrev pub not_back : ℕ → Bool
not_back b = not (eqb b 96)

raw_by : (at : ℕ) (body : List ℕ) → (prefix_len not_back body < length body) ⊎ (length body ≤ prefix_len not_back body) → Strung at (96 ∷ body) (raw_at at body)
raw_by at body (inr h) =
    let n = prefix_len not_back body in
    let fits = prefix_len-le-length not_back body in
    let all : take n body ≡ body = take_all n body h in
    subst (Strung at (96 ∷ body)) (sym (raw_open at body h)) (open_found at 96 body (open_raw body (subst IsRaw all (run_passes not_back body)) refl))
raw_by at body (inl h) =
    let n = prefix_len not_back body in
    let mid = take n body in
    let tail : drop n body ≡ get_or body n 0 ∷ drop (n + 1) body = drop_more body n 0 h in
    let parted : body ≡ mid ++ 96 ∷ drop (n + 1) body = sym (take-append-drop n body) ∙ ap (λ t. mid ++ t) (tail ∙ ap (λ b. b ∷ drop (n + 1) body) (raw_stops body h)) in
    let len : length mid ≡ n = length-take-le n body (omega arith) in
    subst (Strung at (96 ∷ body)) (ap (λ k. (Ok mid, k + 2)) len ∙ sym (raw_closed at body h))
    (closed_found at mid (drop (n + 1) body) body 96 (Ok mid) (omega arith) parted (whole_raw (run_passes not_back body) refl))

string_test : (at b : ℕ) (body : List ℕ) (s t : Bool) (r : Value × ℕ) → eqb b 34 ≡ s → eqb b 96 ≡ t → cond s (Some (quoted_at at body)) (cond t (Some (raw_at at body)) None) ≡ Some r → Strung at (b ∷ body) r
string_test at b body true t r p q h =
    let same : quoted_at at body ≡ r = cc in
    subst (λ x. Strung at (x ∷ body) r) (sym (eqb-true b 34 p)) (subst (Strung at (34 ∷ body)) same (quoted_by at body (body_is body) (body_is body).stop))
string_test at b body false true r p q h =
    let same : raw_at at body ≡ r = cc in
    subst (λ x. Strung at (x ∷ body) r) (sym (eqb-true b 96 q)) (subst (Strung at (96 ∷ body)) same (raw_by at body (below_or (prefix_len not_back body) (length body))))
string_test at b body false false r p q h = absurd (cc)

-- what is found is a string literal there
pub string_sound : (at : ℕ) (bs : List ℕ) (r : Value × ℕ) → string_at at bs ≡ Some r → Strung at bs r
unfolding string_at
string_sound at [] r h = absurd (cc)
string_sound at (b ∷ body) r h = string_test at b body (eqb b 34) (eqb b 96) r refl refl h
