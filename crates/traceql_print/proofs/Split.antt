-- Tokens whose kinds are known, taken apart as the kinds are.
use Rattle.std.proofs.Common.{◌≡◌, ℕ, List, [], ◌∷◌, ◌++◌, refl, ap, ◌∙◌}
use Rattle.traceql_tokens.specs.declared.fixed.Sign.TheVariants as sign
use Rattle.traceql_tokens.specs.declared.fixed.Word.{Word}
use Rattle.traceql_tokens.specs.declared.kinds.Token.{Token}
use Rattle.traceql_tokens.specs.declared.kinds.TokenKind.{TokenKind}
use Rattle.traceql_tokens.specs.declared.kinds.TokenKind.TheVariants as token
use Rattle.traceql_print.specs.Kinds.{in_parens, call}
use Rattle.traceql_print.proofs.Lexed.{AreOf}

-- a token of this kind at a place
abbrev pub here : ℕ → TokenKind → Token
here at k = record { at = at; kind = k }

pub record Head (k : TokenKind) (ks : List TokenKind) (us : List Token) : Type 0 where
  pub at : ℕ
  pub rest : List Token
  pub whole : us ≡ here at k ∷ rest
  pub behind : AreOf ks rest

pub head_of : (k : TokenKind) (ks : List TokenKind) (us : List Token) → AreOf (k ∷ ks) us → Head k ks us
head_of k ks [] e = absurd (cc)
head_of k ks (u ∷ us) e =
    let one : u.kind ≡ k = cc in
    record { at = u.at; rest = us; whole = ap (λ x. here u.at x ∷ us) one; behind = cc }

-- one token
pub record Lone (k : TokenKind) (us : List Token) : Type 0 where
  pub at : ℕ
  pub whole : us ≡ here at k ∷ []

none_left : (us : List Token) → AreOf [] us → us ≡ []
none_left [] e = refl
none_left (u ∷ us) e = absurd (cc)

pub lone_of : (k : TokenKind) (us : List Token) → AreOf (k ∷ []) us → Lone k us
lone_of k us e =
    let h = head_of k [] us e in
    record { at = h.at; whole = h.whole ∙ ap (λ x. here h.at k ∷ x) (none_left h.rest h.behind) }

pub record Split (xs ys : List TokenKind) (us : List Token) : Type 0 where
  pub front : List Token
  pub back : List Token
  pub whole : us ≡ front ++ back
  pub left : AreOf xs front
  pub right : AreOf ys back

pub split_of : (xs ys : List TokenKind) (us : List Token) → AreOf (xs ++ ys) us → Split xs ys us
split_of [] ys us e = record { front = []; back = us; whole = refl; left = refl; right = e }
split_of (k ∷ xs) ys us e =
    let h = head_of k (xs ++ ys) us e in
    let s = split_of xs ys h.rest h.behind in
    record { front = here h.at k ∷ s.front; back = s.back; whole = h.whole ∙ ap (λ x. here h.at k ∷ x) s.whole; left = ap (λ x. k ∷ x) s.left; right = s.right }

-- a token between two parts
pub record Around (xs : List TokenKind) (k : TokenKind) (ys : List TokenKind) (us : List Token) : Type 0 where
  pub front : List Token
  pub at : ℕ
  pub back : List Token
  pub whole : us ≡ front ++ (here at k ∷ back)
  pub left : AreOf xs front
  pub right : AreOf ys back

pub around_of : (xs : List TokenKind) (k : TokenKind) (ys : List TokenKind) (us : List Token) → AreOf (xs ++ (k ∷ ys)) us → Around xs k ys us
around_of xs k ys us e =
    let s = split_of xs (k ∷ ys) us e in
    let h = head_of k ys s.back s.right in
    record { front = s.front; at = h.at; back = h.rest; whole = s.whole ∙ ap (λ x. s.front ++ x) h.whole; left = s.left; right = h.behind }

-- a part between two tokens
pub record Between (k : TokenKind) (ks : List TokenKind) (l : TokenKind) (us : List Token) : Type 0 where
  pub first : ℕ
  pub inner : List Token
  pub last : ℕ
  pub whole : us ≡ here first k ∷ (inner ++ here last l ∷ [])
  pub inside : AreOf ks inner

pub between_of : (k : TokenKind) (ks : List TokenKind) (l : TokenKind) (us : List Token) → AreOf (k ∷ (ks ++ l ∷ [])) us → Between k ks l us
between_of k ks l us e =
    let h = head_of k (ks ++ l ∷ []) us e in
    let s = split_of ks (l ∷ []) h.rest h.behind in
    let o = lone_of l s.back s.right in
    record { first = h.at; inner = s.front; last = o.at; whole = h.whole ∙ ap (λ x. here h.at k ∷ x) (s.whole ∙ ap (λ x. s.front ++ x) o.whole); inside = s.left }

-- a word, and a part in parentheses after it
pub record Call (w : Word) (ks : List TokenKind) (us : List Token) : Type 0 where
  pub at : ℕ
  pub opened : ℕ
  pub inner : List Token
  pub closed : ℕ
  pub whole : us ≡ here at (token.Keyword w) ∷ (here opened (token.Mark sign.OpenParen) ∷ (inner ++ here closed (token.Mark sign.CloseParen) ∷ []))
  pub inside : AreOf ks inner

pub call_of : (w : Word) (ks : List TokenKind) (us : List Token) → AreOf (call w ks) us → Call w ks us
call_of w ks us e =
    let h = head_of (token.Keyword w) (in_parens ks) us e in
    let b = between_of (token.Mark sign.OpenParen) ks (token.Mark sign.CloseParen) h.rest h.behind in
    record { at = h.at; opened = b.first; inner = b.inner; closed = b.last; whole = h.whole ∙ ap (λ x. here h.at (token.Keyword w) ∷ x) b.whole; inside = b.inside }

-- an empty part
pub call_bare : (w : Word) (us : List Token) (c : Call w [] us) → us ≡ here c.at (token.Keyword w) ∷ (here c.opened (token.Mark sign.OpenParen) ∷ ([] ++ here c.closed (token.Mark sign.CloseParen) ∷ []))
call_bare w us c = c.whole ∙ ap (λ x. here c.at (token.Keyword w) ∷ (here c.opened (token.Mark sign.OpenParen) ∷ (x ++ here c.closed (token.Mark sign.CloseParen) ∷ []))) (none_left c.inner c.inside)
