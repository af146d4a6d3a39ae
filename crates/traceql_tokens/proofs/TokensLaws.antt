-- The tokens of a text, one after another: there is one list, and the walk makes it.
use Rattle.std.proofs.Common.{◌≡◌, ℕ, zero, suc, ◌+◌, ◌-◌, ◌<◌, ◌≤◌, Bool, true, false, ◌||◌, inl, inr, cond, eqb, List, [], ◌∷◌, ◌++◌, length, get_or, drop, take, Option, None, Some, refl, ap, ap₂, sym, ◌∙◌, subst, arith, eqb-true, append-nil, take-append-drop, length-take-le, drop-drop, length-drop, take_all, get_or-drop, add-zero}
use Rattle.std.specs.List.{prefix_len}
use Rattle.std.specs.Str.{IsUtf8, IsCharBoundary}
use Rattle.std.proofs.lemmas.List.{drop_at, take_rest}
use Rattle.std.proofs.lemmas.Bool.Decides.{nat_tests}
use Rattle.std.proofs.lemmas.List.Sums.{prefix_len-le-length, prefix_len_stops, prefix_len_passes}
use Rattle.traceql_tokens.specs.Bytes.{is_blank, IsBlank}
use Rattle.traceql_tokens.specs.StringWalk.{string_at}
use Rattle.traceql_tokens.specs.Tokens.{IsTokenOf, TakesOf, BeginsNoneOf, AreTokens, AreTokensOf}
use Rattle.traceql_tokens.specs.Walk.{Measured, IsTable, word_at, token_at}
use Rattle.traceql_tokens.specs.declared.fixed.Word.{Word}
use Rattle.traceql_tokens.specs.declared.kinds.Token.{Token}
use Rattle.traceql_tokens.specs.declared.kinds.TokenKind.{TokenKind}
use Rattle.traceql_tokens.specs.declared.kinds.TokenKind.TheVariants as token
use Rattle.traceql_tokens.specs.declared.tables.TheConstants.{WORDS, METRICS_WORDS}
use Rattle.traceql_tokens.proofs.NumberSteps.{run_passes}
use Rattle.traceql_tokens.proofs.StringReach.{prefix_append}
use Rattle.traceql_tokens.proofs.FixedLaws.{Tokened, unfixed, word_order, metrics_order}
use Rattle.traceql_tokens.proofs.TokenLaws.{token_sound, token_reach}
use Rattle.traceql_tokens.proofs.Ends.{behind, boundary, end_behind}

-- no token begins with white space
space_none : (words : List Word) (at : ℕ) (tl : List ℕ) → token_at words at (32 ∷ tl) ≡ None
unfolding token_at word_at string_at
space_none words at tl = unfixed words (32 ∷ tl) refl refl refl

tab_none : (words : List Word) (at : ℕ) (tl : List ℕ) → token_at words at (9 ∷ tl) ≡ None
unfolding token_at word_at string_at
tab_none words at tl = unfixed words (9 ∷ tl) refl refl refl

feed_none : (words : List Word) (at : ℕ) (tl : List ℕ) → token_at words at (10 ∷ tl) ≡ None
unfolding token_at word_at string_at
feed_none words at tl = unfixed words (10 ∷ tl) refl refl refl

return_none : (words : List Word) (at : ℕ) (tl : List ℕ) → token_at words at (13 ∷ tl) ≡ None
unfolding token_at word_at string_at
return_none words at tl = unfixed words (13 ∷ tl) refl refl refl

nil_none : (words : List Word) (at : ℕ) → token_at words at [] ≡ None
unfolding token_at word_at string_at
nil_none words at = unfixed words [] refl refl refl

blank_cases : (words : List Word) (b : ℕ) (p q r s : Bool) → eqb b 32 ≡ p → eqb b 9 ≡ q → eqb b 10 ≡ r → eqb b 13 ≡ s → (p || q || r || s) ≡ true → (at : ℕ) (tl : List ℕ) → token_at words at (b ∷ tl) ≡ None
blank_cases words b true q r s e1 e2 e3 e4 h at tl = ap (λ x. token_at words at (x ∷ tl)) (eqb-true b 32 e1) ∙ space_none words at tl
blank_cases words b false true r s e1 e2 e3 e4 h at tl = ap (λ x. token_at words at (x ∷ tl)) (eqb-true b 9 e2) ∙ tab_none words at tl
blank_cases words b false false true s e1 e2 e3 e4 h at tl = ap (λ x. token_at words at (x ∷ tl)) (eqb-true b 10 e3) ∙ feed_none words at tl
blank_cases words b false false false true e1 e2 e3 e4 h at tl = ap (λ x. token_at words at (x ∷ tl)) (eqb-true b 13 e4) ∙ return_none words at tl
blank_cases words b false false false false e1 e2 e3 e4 h at tl = absurd (cc)

blank_none : (words : List Word) (at b : ℕ) (tl : List ℕ) → is_blank b ≡ true → token_at words at (b ∷ tl) ≡ None
blank_none words at b tl h = blank_cases words b (eqb b 32) (eqb b 9) (eqb b 10) (eqb b 13) refl refl refl refl h at tl

-- white space stands no longer at the front
abbrev pub Solid : List ℕ → Type 0
Solid left = prefix_len is_blank left ≡ 0

solid_first : (b : ℕ) (tl : List ℕ) → is_blank b ≡ false → Solid (b ∷ tl)
solid_first b tl h = ap (λ t. cond t (1 + prefix_len is_blank tl) 0) h

first_solid : (words : List Word) (at b : ℕ) (tl : List ℕ) (r : Measured) (t : Bool) → is_blank b ≡ t → token_at words at (b ∷ tl) ≡ Some r → Solid (b ∷ tl)
first_solid words at b tl r false e h = solid_first b tl e
first_solid words at b tl r true e h = let z : token_at words at (b ∷ tl) ≡ None = blank_none words at b tl e in absurd (cc)

pub found_solid : (words : List Word) (at : ℕ) (left : List ℕ) (r : Measured) → token_at words at left ≡ Some r → Solid left
found_solid words at [] r h = refl
found_solid words at (b ∷ tl) r h = first_solid words at b tl r (is_blank b) refl h

-- the white space in front, and what is left after it
abbrev pub blanks_of : List ℕ → ℕ
blanks_of text = prefix_len is_blank text

abbrev pub left_of : List ℕ → List ℕ
left_of text = drop (blanks_of text) text

blanks_are : (text blanks left : List ℕ) → text ≡ blanks ++ left → IsBlank blanks → Solid left → (blanks_of text ≡ length blanks) × (left_of text ≡ left)
blanks_are text blanks left e b s =
    let n : blanks_of text ≡ length blanks = ap blanks_of e ∙ prefix_append is_blank blanks left b ∙ (omega arith) in
    (n, ap₂ drop n e ∙ drop_at blanks left (length blanks) refl)

same_token : (t u : Token) → t.at ≡ u.at → t.kind ≡ u.kind → t ≡ u
same_token t u p q = ap₂ (λ x y. record { at = x; kind = y }) p q

front_blank : (text : List ℕ) → IsBlank (take (blanks_of text) text)
front_blank text = run_passes is_blank text

front_len : (text : List ℕ) → length (take (blanks_of text) text) ≡ blanks_of text
front_len text = length-take-le (blanks_of text) text (prefix_len-le-length is_blank text)

get_or-drop_zero : (xs : List ℕ) (n : ℕ) → get_or (drop n xs) 0 0 ≡ get_or xs n 0
get_or-drop_zero xs n = get_or-drop n xs 0 0 ∙ ap (λ k. get_or xs k 0) (omega arith)

solid_left : (text : List ℕ) (b : ℕ) (tl : List ℕ) → left_of text ≡ b ∷ tl → is_blank b ≡ false
solid_left text b tl e =
    let n = blanks_of text in
    let fits = prefix_len-le-length is_blank text in
    let len : length text ≡ n + suc (length tl) = omega (arith, ap length e, length-drop n text) in
    let first : get_or text n 0 ≡ b = sym (get_or-drop_zero text n) ∙ ap (λ t. get_or t 0 0) e in
    ap is_blank (sym first) ∙ prefix_len_stops is_blank text 0 (omega arith)

left_at : (T : List ℕ) (A n : ℕ) → n ≡ blanks_of (drop A T) → drop (A + n) T ≡ left_of (drop A T)
left_at T A n e = sym (drop-drop n A T) ∙ ap (λ k. drop k (drop A T)) e

-- One token of a list: the one that the walk finds after the white space, or none where it finds none.
pub data Step (words : List Word) (at : ℕ) (text : List ℕ) (t : Token) (ts : List Token) : Type 0 where
  goes : (r : Measured) → token_at words (at + blanks_of text) (left_of text) ≡ Some r → t.at ≡ at + blanks_of text → t.kind ≡ r.0 → AreTokensOf words (at + blanks_of text + r.1) (drop r.1 (left_of text)) ts → Step words at text t ts
  stops : token_at words (at + blanks_of text) (left_of text) ≡ None → (left_of text ≡ [] → ⊥) → t.at ≡ at + blanks_of text → t.kind ≡ token.Unknown → ts ≡ [] → Step words at text t ts

module _ (words : List Word) (ordered : IsTable words) where
  step_takes : (at : ℕ) (text : List ℕ) (t : Token) (ts : List Token) (blanks left word rest : List ℕ) → IsBlank blanks → text ≡ blanks ++ left → t.at ≡ at + length blanks → TakesOf words t.at left t.kind word rest → AreTokensOf words (t.at + length word) rest ts → Step words at text t ts
  step_takes at text t ts blanks left word rest b e p takes more =
      let reach = token_reach words ordered t.at word rest t.kind takes.is in
      let r = reach.found in
      let found : token_at words t.at left ≡ Some r = ap (token_at words t.at) takes.parted ∙ reach.is in
      let sound = token_sound words t.at left r found in
      let within : length sound.word ≤ length word = takes.longest sound.word sound.rest r.0 sound.parted sound.is in
      let same : r.1 ≡ length word = omega (arith, reach.far, within, sound.size) in
      let where_ = blanks_are text blanks left e b (found_solid words t.at left r found) in
      let place : t.at ≡ at + blanks_of text = p ∙ ap (λ n. at + n) (sym where_.0) in
      let left_is = where_.1 in
      let behind_is : drop r.1 (left_of text) ≡ rest = ap₂ drop same (left_is ∙ takes.parted) ∙ drop_at word rest (length word) refl in
      goes r (ap₂ (token_at words) (sym place) left_is ∙ found) place (sym (reach.same same))
      (subst (λ q. AreTokensOf words q (drop r.1 (left_of text)) ts) (ap₂ (λ x y. x + y) place (sym same)) (subst (λ q. AreTokensOf words (t.at + length word) q ts) (sym behind_is) more))

  no_found : (at : ℕ) (left : List ℕ) (o : Option Measured) → token_at words at left ≡ o → ((other more : List ℕ) (k : TokenKind) → left ≡ other ++ more → IsTokenOf words at other k → ⊥) → token_at words at left ≡ None
  no_found at left None e none = e
  no_found at left (Some r) e none = let f = token_sound words at left r e in absurd (none f.word f.rest r.0 f.parted f.is)

  step_none : (at : ℕ) (text : List ℕ) (t : Token) (ts : List Token) (blanks left : List ℕ) → IsBlank blanks → text ≡ blanks ++ left → t.at ≡ at + length blanks → t.kind ≡ token.Unknown → BeginsNoneOf words t.at left → ts ≡ [] → Step words at text t ts
  step_none at text t ts blanks left b e p k none end =
      let solid : Solid left = subst Solid (sym none.parted) (solid_first none.first none.others none.solid) in
      let where_ = blanks_are text blanks left e b solid in
      let place : t.at ≡ at + blanks_of text = p ∙ ap (λ n. at + n) (sym where_.0) in
      let missing = no_found t.at left (token_at words t.at left) refl none.none in
      stops (ap₂ (token_at words) (sym place) where_.1 ∙ missing) (λ z. let q : none.first ∷ none.others ≡ [] = sym none.parted ∙ sym where_.1 ∙ z in absurd (cc)) place k end

  pub steps : (at : ℕ) (text : List ℕ) (t : Token) (ts : List Token) → AreTokensOf words at text (t ∷ ts) → Step words at text t ts
  unfolding AreTokensOf
  steps at text t ts h =
      elim h.5 [
        | inl w ↦ step_takes at text t ts h.0 h.1 w.0 w.1 h.2 h.3 h.4 w.2 w.3
        | inr w ↦ step_none at text t ts h.0 h.1 h.2 h.3 h.4 w.0 w.1 w.2
      ]

  -- where no token is listed, nothing but white space is there
  pub ended : (at : ℕ) (text : List ℕ) → AreTokensOf words at text [] → left_of text ≡ []
  unfolding AreTokensOf
  ended at text h = (blanks_are text text [] (sym (append-nil text)) h refl).1

  -- two lists of one text, a token at a time
  both_steps : (at : ℕ) (text : List ℕ) (t u : Token) (ts us : List Token) → Step words at text t ts → Step words at text u us → ((a : ℕ) (left : List ℕ) → AreTokensOf words a left ts → AreTokensOf words a left us → ts ≡ us) → t ∷ ts ≡ u ∷ us
  both_steps at text t u ts us (goes r e p k more) (goes s f q l rest) ih =
      let same : r ≡ s = cc (e, f) in
      let tails : ts ≡ us = ih (at + blanks_of text + r.1) (drop r.1 (left_of text)) more (subst (λ x. AreTokensOf words (at + blanks_of text + x.1) (drop x.1 (left_of text)) us) (sym same) rest) in
      ap₂ (λ x xs. x ∷ xs) (same_token t u (p ∙ sym q) (k ∙ ap (λ x. x.0) same ∙ sym l)) tails
  both_steps at text t u ts us (goes r e p k more) (stops f n q l end) ih = absurd (cc (e, f))
  both_steps at text t u ts us (stops f n q l end) (goes r e p k more) ih = absurd (cc (e, f))
  both_steps at text t u ts us (stops f n q l end) (stops f' n' q' l' end') ih =
      ap₂ (λ x xs. x ∷ xs) (same_token t u (q ∙ sym q') (l ∙ sym l')) (end ∙ sym end')

  left_none : (at : ℕ) (text : List ℕ) (t : Token) (ts : List Token) → left_of text ≡ [] → Step words at text t ts → ⊥
  left_none at text t ts z (goes r e p k more) =
      let none : token_at words (at + blanks_of text) (left_of text) ≡ None = ap (token_at words (at + blanks_of text)) z ∙ nil_none words (at + blanks_of text) in
      absurd (cc)
  left_none at text t ts z (stops f n q l end) = n z

  -- a text has one list of tokens
  pub one_list : (at : ℕ) (text : List ℕ) (ts us : List Token) → AreTokensOf words at text ts → AreTokensOf words at text us → ts ≡ us
  one_list at text [] [] h k = refl
  one_list at text [] (u ∷ us) h k = absurd (left_none at text u us (ended at text h) (steps at text u us k))
  one_list at text (t ∷ ts) [] h k = absurd (left_none at text t ts (ended at text k) (steps at text t ts h))
  one_list at text (t ∷ ts) (u ∷ us) h k =
      both_steps at text t u ts us (steps at text t ts h) (steps at text u us k) (λ a left p q. one_list a left ts us p q)

  -- and the walk makes it
  takes_found : (at : ℕ) (left : List ℕ) (r : Measured) → token_at words at left ≡ Some r → (f : Tokened words at left r) → TakesOf words at left r.0 f.word f.rest
  takes_found at left r e f = record {
    parted = f.parted;
    is = f.is;
    longest = λ other more k p is.
        let reach = token_reach words ordered at other more k is in
        let same : reach.found ≡ r = cc (ap (token_at words at) p, reach.is, e) in
        omega (arith, reach.far, f.size, ap (λ x. x.1) same);
  }

  pub makes_more : (at : ℕ) (text : List ℕ) (r : Measured) (ts : List Token) → token_at words (at + blanks_of text) (left_of text) ≡ Some r → AreTokensOf words (at + blanks_of text + r.1) (drop r.1 (left_of text)) ts → AreTokensOf words at text (record { at = at + blanks_of text; kind = r.0 } ∷ ts)
  unfolding AreTokensOf
  makes_more at text r ts e more =
      let place = at + blanks_of text in
      let left = left_of text in
      let f = token_sound words place left r e in
      let behind_is : drop r.1 left ≡ f.rest = ap₂ drop f.size f.parted ∙ drop_at f.word f.rest (length f.word) refl in (
        take (blanks_of text) text,
        left,
        front_blank text,
        sym (take-append-drop (blanks_of text) text),
        ap (λ n. at + n) (sym (front_len text)),
        inl (f.word, f.rest, takes_found place left r e f, subst (λ q. AreTokensOf words (place + q) f.rest ts) f.size (subst (λ q. AreTokensOf words (place + r.1) q ts) behind_is more)),
      )

  none_in : (at : ℕ) (left : List ℕ) → token_at words at left ≡ None → (other more : List ℕ) (k : TokenKind) → left ≡ other ++ more → IsTokenOf words at other k → ⊥
  none_in at left e other more k p is = let reach = token_reach words ordered at other more k is in absurd (cc (ap (token_at words at) p, reach.is, e))

  stopped : (at : ℕ) (text left : List ℕ) → left_of text ≡ left → token_at words (at + blanks_of text) left ≡ None → (left ≡ [] → ⊥) → BeginsNoneOf words (at + blanks_of text) left
  stopped at text [] e none some = absurd (some refl)
  stopped at text (b ∷ tl) e none some = record { first = b; others = tl; parted = refl; solid = solid_left text b tl e; none = none_in (at + blanks_of text) (b ∷ tl) none }

  pub makes_none : (at : ℕ) (text : List ℕ) → token_at words (at + blanks_of text) (left_of text) ≡ None → (left_of text ≡ [] → ⊥) → AreTokensOf words at text (record { at = at + blanks_of text; kind = token.Unknown } ∷ [])
  unfolding AreTokensOf
  makes_none at text e some = (
    take (blanks_of text) text,
    left_of text,
    front_blank text,
    sym (take-append-drop (blanks_of text) text),
    ap (λ n. at + n) (sym (front_len text)),
    inr (refl, stopped at text (left_of text) refl e some, refl),
  )

  pub makes_end : (at : ℕ) (text : List ℕ) → length text ≤ blanks_of text → AreTokensOf words at text []
  unfolding AreTokensOf
  makes_end at text h = subst IsBlank (take_all (blanks_of text) text h) (front_blank text)

  -- the same at a place of a whole text
  pub goes_on : (T : List ℕ) (A n len : ℕ) (k : TokenKind) (ts : List Token) → n ≡ blanks_of (drop A T) → token_at words (A + n) (drop (A + n) T) ≡ Some (k, len) → AreTokensOf words (A + n + len) (drop (A + n + len) T) ts → AreTokensOf words A (drop A T) (record { at = A + n; kind = k } ∷ ts)
  goes_on T A n len k ts e found more =
      let text = drop A T in
      let here : token_at words (A + blanks_of text) (left_of text) ≡ Some (k, len) = ap₂ (token_at words) (ap (λ m. A + m) (sym e)) (sym (left_at T A n e)) ∙ found in
      let rest : drop (A + n + len) T ≡ drop len (left_of text) = sym (drop-drop len (A + n) T) ∙ ap (drop len) (left_at T A n e) in
      let later : AreTokensOf words (A + blanks_of text + len) (drop len (left_of text)) ts =
      subst (λ m. AreTokensOf words (A + m + len) (drop len (left_of text)) ts) e (subst (λ q. AreTokensOf words (A + n + len) q ts) rest more) in
      subst (λ m. AreTokensOf words A text (record { at = A + m; kind = k } ∷ ts)) (sym e) (makes_more A text (k, len) ts here later)

  pub goes_none : (T : List ℕ) (A n : ℕ) → n ≡ blanks_of (drop A T) → token_at words (A + n) (drop (A + n) T) ≡ None → A + n < length T → AreTokensOf words A (drop A T) (record { at = A + n; kind = token.Unknown } ∷ [])
  goes_none T A n e none h =
      let text = drop A T in
      let here : token_at words (A + blanks_of text) (left_of text) ≡ None = ap₂ (token_at words) (ap (λ m. A + m) (sym e)) (sym (left_at T A n e)) ∙ none in
      let some : left_of text ≡ [] → ⊥ = λ z. absurd (omega (arith, ap length (left_at T A n e ∙ z), length-drop (A + n) T)) in
      subst (λ m. AreTokensOf words A text (record { at = A + m; kind = token.Unknown } ∷ [])) (sym e) (makes_none A text here some)

  pub goes_end : (T : List ℕ) (A n : ℕ) → n ≡ blanks_of (drop A T) → length T ≤ A + n → AreTokensOf words A (drop A T) []
  goes_end T A n e h = makes_end A (drop A T) (omega (arith, e, length-drop A T))

  pub nothing_left : (T : List ℕ) (A : ℕ) → length T ≤ A → AreTokensOf words A (drop A T) []
  nothing_left T A h = makes_end A (drop A T) (omega (arith, length-drop A T))

pub tokens_unique : (at : ℕ) (text : List ℕ) (ts us : List Token) → AreTokens at text ts → AreTokens at text us → ts ≡ us
tokens_unique = one_list WORDS word_order

pub metrics_tokens_unique : (at : ℕ) (text : List ℕ) (ts us : List Token) → AreTokensOf METRICS_WORDS at text ts → AreTokensOf METRICS_WORDS at text us → ts ≡ us
metrics_tokens_unique = one_list METRICS_WORDS metrics_order

blank_low : (b : ℕ) → is_blank b ≡ true → b < 128
blank_low b h = grind (arith, nat_tests)

-- a text may be cut after its white space, and after a token
pub blank_boundary : (T : List ℕ) (A n : ℕ) → IsUtf8 T → IsCharBoundary T A → n ≡ blanks_of (drop A T) → IsCharBoundary T (A + n)
blank_boundary T A zero u b e = subst (λ m. IsCharBoundary T m) (sym (add-zero A)) b
blank_boundary T A (suc m) u b e =
    let fits = prefix_len-le-length is_blank (drop A T) in
    let byte : is_blank (get_or (drop A T) m 0) ≡ true = prefix_len_passes is_blank (drop A T) m 0 (omega arith) in
    let low : get_or T (A + m) 0 < 128 = subst (λ x. x < 128) (get_or-drop A T m 0) (blank_low (get_or (drop A T) m 0) byte) in
    boundary T (A + suc m) u (behind (A + m) (omega arith) (omega (arith, fits, length-drop A T)) low)

pub token_boundary : (words : List Word) (T : List ℕ) (at start len : ℕ) (k : TokenKind) → IsUtf8 T → start ≤ length T → token_at words at (drop start T) ≡ Some (k, len) → IsCharBoundary T (start + len) × (0 < len)
token_boundary words T at start len k u h e =
    let f = token_sound words at (drop start T) (k, len) e in
    (boundary T (start + len) u (end_behind T start len h f.end), f.some)

-- the white space that was counted in the bytes
pub blank_is : (T bytes : List ℕ) (A n : ℕ) → n ≡ prefix_len is_blank (take (length bytes - A) (drop A bytes)) → bytes ≡ T → n ≡ blanks_of (drop A T)
blank_is T bytes A n e q = e ∙ ap (prefix_len is_blank) (take_rest bytes A) ∙ ap (λ t. prefix_len is_blank (drop A t)) q
