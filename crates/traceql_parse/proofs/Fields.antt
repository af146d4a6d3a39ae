-- The laws of the readers of field expressions.
use Rattle.std.proofs.Common.{◌≡◌, ℕ, zero, suc, Bool, List, [], ◌∷◌, ◌++◌, Option, Some, None, is_some, inl, inr, refl, sym, ◌∙◌, ap, subst, append_assoc, append-nil}
use Rattle.traceql_tokens.specs.declared.fixed.Sign.TheVariants as sign
use Rattle.traceql_tokens.specs.declared.kinds.Token.{Token}
use Rattle.traceql_tokens.specs.declared.kinds.TokenKind.{TokenKind}
use Rattle.traceql_tokens.specs.declared.kinds.TokenKind.TheVariants as token
use Rattle.traceql_syntax.specs.declared.field.Field.{Field}
use Rattle.traceql_syntax.specs.declared.field.Level.{Level}
use Rattle.traceql_syntax.specs.declared.field.Level.TheVariants as level
use Rattle.traceql_syntax.specs.declared.field.Literal.{Literal}
use Rattle.traceql_syntax.specs.declared.field.Literal.TheVariants as literal_kind
use Rattle.traceql_syntax.specs.declared.field.UnaryOp.{UnaryOp}
use Rattle.traceql_syntax.specs.Grammar.{mark, in_parens, Class, Atom, Prefixed, Powered, Grouped, under, Whole_expression, Spells}
use Rattle.traceql_syntax.specs.Grammar as rule
use Rattle.traceql_syntax.specs.Tables.{prefix_sign, literal_of, field_of}
use Rattle.traceql_syntax.specs.Trees.{Literally, Asks, Unary, Placed}
use Rattle.traceql_parse.specs.declared.lookahead.Delimiter.TheVariants as delimiter
use Rattle.traceql_parse.specs.declared.lookahead.ItemSign.{ItemSign}
use Rattle.traceql_parse.specs.declared.lookahead.ItemSign.TheVariants as item_sign
use Rattle.traceql_parse.specs.Descent as read
use Rattle.traceql_parse.specs.Reading.{next_sign, delimits, expect, expect_sign}
use Rattle.traceql_parse.proofs.Laws.{Reader, Lang, Grows, Occurs, Seq, next}
use Rattle.traceql_parse.proofs.Base.{One, at_sign, placing, Image, mapped}
use Rattle.traceql_parse.proofs.Choices.{either, Either, opening, Opened}
use Rattle.traceql_parse.proofs.Group.{pure, Pure, done, turn, tailing, Tailing, ItemLang}
use Rattle.traceql_parse.proofs.Signs.{delimiter_token, marked_token, level_operator, level_pattern, operator_item, pattern_item}

-- The readers, and what each is to read.

abbrev pub r_parens : Reader Placed
r_parens n ts = read.parens (read.below n) ts

abbrev pub r_atom : Reader Placed
r_atom n ts = read.atom (read.below n) ts

abbrev pub r_prefix : Reader Placed
r_prefix n ts = read.prefix (read.below n) ts

abbrev pub r_prefixed : Reader Placed
r_prefixed n ts = read.prefixed (read.below n) ts

abbrev pub r_exponent : Reader (ℕ × Placed)
r_exponent n ts = read.exponent (read.below n) ts

abbrev pub r_powered : Reader Placed
r_powered n ts = read.powered (read.below n) ts

abbrev pub r_grouped : Level → Reader Placed
r_grouped l n ts = read.grouped (read.below n) l ts

abbrev pub r_operand : Level → Reader Placed
r_operand l n ts = read.operand_of (read.below n) l ts

abbrev pub r_whole : Reader Placed
r_whole n ts = read.whole n ts

abbrev pub r_leaf : Reader Placed
r_leaf n ts = expect read.leaf_at ts

abbrev pub close : Reader (ℕ × Unit {0})
close n ts = expect_sign (delimits delimiter.CloseParen) ts

abbrev pub Of : Class → Lang Placed
Of c n e ts = Spells n c e ts

abbrev pub Close : Lang (ℕ × Unit {0})
Close = One (at_sign (delimits delimiter.CloseParen))

abbrev pub closed_view : ℕ × Unit {0} → Placed → ℕ × Unit {0} → Placed
closed_view o e c = (o.0, e.1)

-- an expression and a closing parenthesis, after an opening one
abbrev pub rest_of_parens : ℕ × Unit {0} → Reader Placed
rest_of_parens o = next r_whole (λ e. mapped (closed_view o e) close)

abbrev pub RestOfParens : ℕ × Unit {0} → Lang Placed
RestOfParens o = Seq (Of Whole_expression) (λ e. Image (closed_view o e) Close)

abbrev pub ParensLang : Lang Placed
ParensLang = Opened (delimits delimiter.OpenParen) RestOfParens

pub parens_is : (n : ℕ) (ts : List Token) → r_parens n ts ≡ opening (delimits delimiter.OpenParen) rest_of_parens n ts
unfolding read.parens read.below read.whole
parens_is zero ts = refl
parens_is (suc n) ts = refl

abbrev pub prefix_view : ℕ × UnaryOp → Placed → Placed
prefix_view o e = (o.0, Unary o.0 o.1 e.0 e.1)

abbrev pub rest_of_prefix : ℕ × UnaryOp → Reader Placed
rest_of_prefix o = mapped (prefix_view o) r_prefixed

abbrev pub RestOfPrefix : ℕ × UnaryOp → Lang Placed
RestOfPrefix o = Image (prefix_view o) (Of Prefixed)

pub prefix_is : (n : ℕ) (ts : List Token) → r_prefix n ts ≡ opening prefix_sign rest_of_prefix n ts
unfolding read.prefix read.below
prefix_is zero ts = refl
prefix_is (suc n) ts = refl

abbrev pub exponent_view : ℕ × Unit {0} → Placed → ℕ × Placed
exponent_view o e = (o.0, e)

abbrev pub rest_of_exponent : ℕ × Unit {0} → Reader (ℕ × Placed)
rest_of_exponent o = mapped (exponent_view o) r_powered

abbrev pub RestOfExponent : ℕ × Unit {0} → Lang (ℕ × Placed)
RestOfExponent o = Image (exponent_view o) (Of Powered)

abbrev pub ExponentLang : Lang (ℕ × Placed)
ExponentLang = Opened (delimits delimiter.Caret) RestOfExponent

pub exponent_is : (n : ℕ) (ts : List Token) → r_exponent n ts ≡ opening (delimits delimiter.Caret) rest_of_exponent n ts
unfolding read.exponent read.below
exponent_is zero ts = refl
exponent_is (suc n) ts = refl

abbrev pub opens : List Token → Bool
opens ts = is_some (next_sign (delimits delimiter.OpenParen) ts)

abbrev pub prefixes : List Token → Bool
prefixes ts = is_some (next_sign prefix_sign ts)

abbrev pub raises : List Token → Bool
raises ts = is_some (next_sign (delimits delimiter.Caret) ts)

pub atom_is : (n : ℕ) (ts : List Token) → r_atom n ts ≡ either opens r_parens r_leaf n ts
unfolding read.atom
atom_is n ts = refl

pub prefixed_is : (n : ℕ) (ts : List Token) → r_prefixed n ts ≡ either prefixes r_prefix r_atom n ts
unfolding read.prefixed
prefixed_is n ts = refl

abbrev pub optional : Placed → Reader Placed
optional a = either raises (mapped (read.raised a) r_exponent) (pure a)

abbrev pub Optional : Placed → Lang Placed
Optional a = Either (Image (read.raised a) ExponentLang) (Pure a)

pub powered_is : (n : ℕ) (ts : List Token) → r_powered n ts ≡ next r_prefixed optional n ts
unfolding read.powered
powered_is n ts = refl

abbrev pub side : Level → ℕ × ItemSign → Reader read.Item
side l o n ts = read.right_side (r_operand l n) o.0 o.1 ts

abbrev pub Side_of : Level → ℕ → ItemSign → Lang read.Item
Side_of l at (item_sign.Operator op) = Image (read.Operator at op) (Of (under l))
Side_of l at (item_sign.Pattern negated) = Image (λ p. read.Pattern at negated p.0 p.1) (One read.quoted_at)

abbrev pub Side : Level → ℕ × ItemSign → Lang read.Item
Side l o = Side_of l o.0 o.1

abbrev pub more_of : Level → Placed → Reader Placed
more_of l = tailing (read.item_sign_of l) (side l) (Side l) read.join

abbrev pub MoreOf : Level → Placed → Lang Placed
MoreOf l = Tailing (read.item_sign_of l) (side l) (Side l) read.join

pub grouped_is : (l : Level) (n : ℕ) (ts : List Token) → r_grouped l n ts ≡ next (r_operand l) (more_of l) n ts
unfolding read.grouped read.more read.item
grouped_is l n ts = refl

-- The grammar's rules and what the readers are to read say the same.

recast : {n : ℕ} {c : Class} {a b : Placed} {ts us : List Token} → b ≡ a → us ≡ ts → Spells n c a ts → Spells n c b us
recast {n = n} {c = c} {a = a} {b = b} {ts = ts} {us = us} e k d =
    subst (λ (z : Placed). Spells n c z us) (sym e) (subst (λ (z : List Token). Spells n c a z) (sym k) d)

field_is_no_literal : (k : TokenKind) (f : Field) → field_of k ≡ Some f → literal_of k ≡ None
field_is_no_literal (token.Named scope name) f h = refl
field_is_no_literal (token.Builtin i) f h = refl
field_is_no_literal _ f h = cc

leaf_rule : (n : ℕ) (t : Token) (a : Placed) (o : Option Literal) (p : Option Field) → literal_of t.kind ≡ o → field_of t.kind ≡ p → read.leaf_or t.at o p ≡ Some a → Spells n Atom a (t ∷ [])
leaf_rule n t a (Some x) p h k e = let same : ◌≡◌ {A = Placed} (t.at, Literally t.at x) a = cc in recast (sym same) refl (rule.literal t h)
leaf_rule n t a None (Some f) h k e = let same : ◌≡◌ {A = Placed} (t.at, Asks t.at f) a = cc in recast (sym same) refl (rule.field t k)
leaf_rule n t a None None h k e = cc

pub atom_to : (n : ℕ) (a : Placed) (ts : List Token) → Either ParensLang (One read.leaf_at) n a ts → Spells n Atom a ts
atom_to n a ts (inr o) = recast refl o.cut (leaf_rule n o.t a (literal_of o.t.kind) (field_of o.t.kind) refl refl o.is)
atom_to zero a ts (inl d) = absurd d
atom_to (suc n) a ts (inl s) =
    let t = s.left.t in
    let e = s.right.first in
    let xs = s.right.xs in
    let i = s.right.right in
    let u = i.spelled.t in
    let first = delimiter_token delimiter.OpenParen t s.first s.left.is in
    let last = delimiter_token delimiter.CloseParen u i.of i.spelled.is in
    let value : a ≡ (t.at, e.1) = i.is ∙ ap (λ (z : ℕ). (z, e.1)) first.1 in
    let cut : ts ≡ in_parens t.at xs u.at =
    s.cut ∙ ap (λ (z : List Token). z ++ s.ys) s.left.cut ∙ ap (λ (z : List Token). t ∷ z) (s.right.cut ∙ ap (λ (z : List Token). xs ++ z) i.spelled.cut)
    ∙ ap (λ (z : Token). z ∷ (xs ++ (u ∷ []))) first.0 ∙ ap (λ (z : Token). mark t.at sign.OpenParen ∷ (xs ++ (z ∷ []))) last.0 in
    recast value cut (rule.parens t.at u.at s.right.left)

pub atom_from : (n : ℕ) (a : Placed) (ts : List Token) → Spells n Atom a ts → Either ParensLang (One read.leaf_at) n a ts
atom_from n a ts (rule.literal t h) = inr (record { t = t; cut = refl; is = ap (λ (o : Option Literal). read.leaf_or t.at o (field_of t.kind)) h })
atom_from n a ts (rule.field {x = f} t h) =
    inr (record { t = t; cut = refl; is = ap (λ (o : Option Literal). read.leaf_or t.at o (field_of t.kind)) (field_is_no_literal t.kind f h) ∙ ap (λ (p : Option Field). read.leaf_or t.at None p) h })
atom_from n a ts (rule.parens {e = e} {ts = xs} opened closed d) = inl (record {
  first = (opened, tt);
  xs = mark opened sign.OpenParen ∷ [];
  ys = xs ++ (mark closed sign.CloseParen ∷ []);
  cut = refl;
  left = record { t = mark opened sign.OpenParen; cut = refl; is = refl };
  right = record {
    first = e;
    xs = xs;
    ys = mark closed sign.CloseParen ∷ [];
    cut = refl;
    left = d;
    right = record { of = (closed, tt); is = refl; spelled = record { t = mark closed sign.CloseParen; cut = refl; is = refl } };
  };
})

pub prefixed_to : (n : ℕ) (a : Placed) (ts : List Token) → Either (Opened prefix_sign RestOfPrefix) (Of Atom) n a ts → Spells n Prefixed a ts
prefixed_to n a ts (inr d) = rule.atom d
prefixed_to zero a ts (inl d) = absurd d
prefixed_to (suc n) a ts (inl s) =
    let t = s.left.t in
    let i = s.right in
    let e = i.of in
    let w = marked_token prefix_sign t s.first s.left.is in
    let value : a ≡ (t.at, Unary t.at s.first.1 e.0 e.1) = i.is ∙ ap (λ (z : ℕ). (z, Unary z s.first.1 e.0 e.1)) w.3 in
    let cut : ts ≡ mark t.at w.0 ∷ s.ys = s.cut ∙ ap (λ (z : List Token). z ++ s.ys) s.left.cut ∙ ap (λ (z : Token). z ∷ s.ys) w.1 in
    recast value cut (rule.prefix t.at w.0 w.2 i.spelled)

pub prefixed_from : (n : ℕ) (a : Placed) (ts : List Token) → Spells n Prefixed a ts → Either (Opened prefix_sign RestOfPrefix) (Of Atom) n a ts
prefixed_from n a ts (rule.atom d) = inr d
prefixed_from n a ts (rule.prefix {op = op} {e = e} {ts = xs} at s h d) = inl (record {
  first = (at, op);
  xs = mark at s ∷ [];
  ys = xs;
  cut = refl;
  left = record { t = mark at s; cut = refl; is = ap (placing at) h };
  right = record { of = e; is = refl; spelled = d };
})

powered_with : (n : ℕ) (a : Placed) (ts xs ys : List Token) (b : Placed) (x : ℕ × Placed) → Spells n Prefixed b xs → a ≡ read.raised b x → ts ≡ xs ++ ys → ExponentLang n x ys → Spells n Powered a ts
powered_with zero a ts xs ys b x d value cut k = absurd k
powered_with (suc n) a ts xs ys b x d value cut s =
    let t = s.left.t in
    let i = s.right in
    let e = i.of in
    let w = delimiter_token delimiter.Caret t s.first s.left.is in
    recast (value ∙ ap (read.raised b) (i.is ∙ ap (λ (z : ℕ). (z, e)) w.1))
    (cut ∙ ap (λ (z : List Token). xs ++ z) (s.cut ∙ ap (λ (z : List Token). z ++ s.ys) s.left.cut ∙ ap (λ (z : Token). z ∷ s.ys) w.0))
    (rule.power t.at d i.spelled)

pub powered_to : (n : ℕ) (a : Placed) (ts : List Token) → Seq (Of Prefixed) Optional n a ts → Spells n Powered a ts
powered_to n a ts s = go s.right
  where
    go : Optional s.first n a s.ys → Spells n Powered a ts
    go (inl i) = powered_with n a ts s.xs s.ys s.first i.of s.left i.is s.cut i.spelled
    go (inr p) = recast p.0 (s.cut ∙ ap (λ (z : List Token). s.xs ++ z) p.1 ∙ append-nil s.xs) (rule.lone s.left)

pub powered_from : (n : ℕ) (a : Placed) (ts : List Token) → Spells n Powered a ts → Seq (Of Prefixed) Optional n a ts
powered_from n a ts (rule.lone {ts = xs} d) = record { first = a; xs = ts; ys = []; cut = sym (append-nil ts); left = d; right = inr (refl, refl) }
powered_from n a ts (rule.power {a = x} {b = y} {xs = xs} {ys = ys} at d k) = record {
  first = x;
  xs = xs;
  ys = mark at sign.Caret ∷ ys;
  cut = refl;
  left = d;
  right = inl (record {
    of = (at, y);
    is = refl;
    spelled = record {
      first = (at, tt);
      xs = mark at sign.Caret ∷ [];
      ys = ys;
      cut = refl;
      left = record { t = mark at sign.Caret; cut = refl; is = refl };
      right = record { of = y; is = refl; spelled = k };
    };
  });
}

-- an item after an expression of its level makes one
join_rule : (l : Level) (n : ℕ) (a : Placed) (xs : List Token) (t : Token) (x : ℕ × ItemSign) (b : read.Item) (ys : List Token) (s : ItemSign) → x.1 ≡ s → Spells n (Grouped l) a xs → at_sign (read.item_sign_of l) t.at t.kind ≡ Some x → Side_of l x.0 s n b ys → Spells n (Grouped l) (read.join a b) (xs ++ (t ∷ ys))
join_rule l n a xs t x b ys (item_sign.Operator op) is d h i =
    let w = marked_token (read.item_sign_of l) t x h in
    let e = i.of in
    let known : read.item_sign_of l w.0 ≡ Some (item_sign.Operator op) = w.2 ∙ ap (λ (z : ItemSign). Some z) is in
    recast (ap (read.join a) (i.is ∙ ap (λ (z : ℕ). read.Operator z op e) w.3)) (ap (λ (z : Token). xs ++ (z ∷ ys)) w.1)
    (rule.left l t.at w.0 (level_operator l w.0 op known) d i.spelled)
join_rule l n a xs t x b ys (item_sign.Pattern negated) is d h i =
    let w = marked_token (read.item_sign_of l) t x h in
    let known : read.item_sign_of l w.0 ≡ Some (item_sign.Pattern negated) = w.2 ∙ ap (λ (z : ItemSign). Some z) is in
    let where_at = level_pattern l w.0 negated known in
    let u = i.spelled.t in
    let q = quoted_is u i.of (u.kind) refl i.spelled.is in
    let here : Spells n (Grouped level.Comparison) a xs = subst (λ (z : Level). Spells n (Grouped z) a xs) where_at.0 d in
    let there : Spells n (Grouped level.Comparison) (read.join a b) (xs ++ (t ∷ ys)) =
    recast (ap (read.join a) (i.is ∙ ap (λ (z : ℕ). read.Pattern z negated i.of.0 i.of.1) w.3 ∙ ap (λ (z : ℕ). read.Pattern t.at negated z i.of.1) q.1))
    (ap (λ (z : Token). xs ++ (z ∷ ys)) w.1 ∙ ap (λ (z : List Token). xs ++ (mark t.at w.0 ∷ z)) (i.spelled.cut ∙ ap (λ (z : Token). z ∷ []) q.0))
    (rule.match t.at w.0 u.at i.of.1 where_at.1 here) in
    subst (λ (z : Level). Spells n (Grouped z) (read.join a b) (xs ++ (t ∷ ys))) (sym where_at.0) there
  where
    quoted_is : (u : Token) (p : ℕ × List ℕ) (k : TokenKind) → u.kind ≡ k → read.quoted_at u.at k ≡ Some p → (◌≡◌ {A = Token} u (record { at = u.at; kind = token.Quoted p.1 })) × (p.0 ≡ u.at)
    quoted_is u p (token.Quoted text) h e =
        let same : ◌≡◌ {A = ℕ × List ℕ} (u.at, text) p = cc in
        (ap (λ (k : TokenKind). let v : Token = record { at = u.at; kind = k } in v) (h ∙ ap (λ (z : ℕ × List ℕ). token.Quoted z.1) same), sym (ap (λ (z : ℕ × List ℕ). z.0) same))
    quoted_is u p _ h e = cc

grouped_tail : (l : Level) (n : ℕ) (a d : Placed) (xs ys : List Token) → Spells n (Grouped l) a xs → MoreOf l a n d ys → Spells n (Grouped l) d (xs ++ ys)
grouped_tail l n a d xs ys h done = recast refl (append-nil xs) h
grouped_tail l n a d xs ys h (turn {b = b} {ys = us} {zs = vs} e m more) =
    let t = m.left.t in
    let joined : Spells n (Grouped l) (read.join a b) (xs ++ (t ∷ m.ys)) = join_rule l n a xs t m.first b m.ys m.first.1 refl h m.left.is m.right in
    let item_cut : us ≡ t ∷ m.ys = m.cut ∙ ap (λ (z : List Token). z ++ m.ys) m.left.cut in
    recast refl (ap (λ (z : List Token). xs ++ z) (e ∙ ap (λ (z : List Token). z ++ vs) item_cut) ∙ sym (append_assoc xs (t ∷ m.ys) vs))
    (grouped_tail l n (read.join a b) d (xs ++ (t ∷ m.ys)) vs joined more)

pub grouped_to : (l : Level) (n : ℕ) (a : Placed) (ts : List Token) → Seq (Of (under l)) (MoreOf l) n a ts → Spells n (Grouped l) a ts
grouped_to l n a ts s = recast refl s.cut (grouped_tail l n s.first a s.xs s.ys (rule.single l s.left) s.right)

tail_snoc : (l : Level) (n : ℕ) (a d : Placed) (b : read.Item) (ys zs : List Token) → MoreOf l a n d ys → ItemLang (read.item_sign_of l) (side l) (Side l) read.join n b zs → MoreOf l a n (read.join d b) (ys ++ zs)
tail_snoc l n a d b ys zs done m = turn (sym (append-nil zs)) m done
tail_snoc l n a d b ys zs (turn {b = c} {ys = us} {zs = vs} e k more) m =
    turn (ap (λ (z : List Token). z ++ zs) e ∙ append_assoc us vs zs) k (tail_snoc l n (read.join a c) d b vs zs more m)

behind_group : (l : Level) (n : ℕ) (a : Placed) (b : read.Item) (ts zs : List Token) → Seq (Of (under l)) (MoreOf l) n a ts → ItemLang (read.item_sign_of l) (side l) (Side l) read.join n b zs → Seq (Of (under l)) (MoreOf l) n (read.join a b) (ts ++ zs)
behind_group l n a b ts zs s m = record {
  first = s.first;
  xs = s.xs;
  ys = s.ys ++ zs;
  cut = ap (λ (z : List Token). z ++ zs) s.cut ∙ append_assoc s.xs s.ys zs;
  left = s.left;
  right = tail_snoc l n s.first a b s.ys zs s.right m;
}

pub grouped_from : (l : Level) (n : ℕ) (a : Placed) (ts : List Token) → Spells n (Grouped l) a ts → Seq (Of (under l)) (MoreOf l) n a ts
grouped_from l n a ts (rule.single k d) = record { first = a; xs = ts; ys = []; cut = sym (append-nil ts); left = d; right = done }
grouped_from l n a ts (rule.left {op = op} {a = x} {b = y} {xs = xs} {ys = ys} k at s h d e) =
    behind_group l n x (read.Operator at op y) xs (mark at s ∷ ys) (grouped_from l n x xs d) (record {
      first = (at, item_sign.Operator op);
      xs = mark at s ∷ [];
      ys = ys;
      cut = refl;
      left = record { t = mark at s; cut = refl; is = ap (placing at) (operator_item l s op h) };
      right = record { of = y; is = refl; spelled = e };
    })
grouped_from l n a ts (rule.match {negated = negated} {a = x} {xs = xs} at s pattern_at pattern h d) =
    let quoted : Token = record { at = pattern_at; kind = token.Quoted pattern } in
    behind_group level.Comparison n x (read.Pattern at negated pattern_at pattern) xs (mark at s ∷ quoted ∷ []) (grouped_from level.Comparison n x xs d) (record {
      first = (at, item_sign.Pattern negated);
      xs = mark at s ∷ [];
      ys = quoted ∷ [];
      cut = refl;
      left = record { t = mark at s; cut = refl; is = ap (placing at) (pattern_item s negated h) };
      right = record { of = (pattern_at, pattern); is = refl; spelled = record { t = quoted; cut = refl; is = refl } };
    })

pub spells_grow : (c : Class) → Grows (Of c)
spells_grow c n a ts d = go d
  where
    go : {n : ℕ} {c : Class} {a : Placed} {ts : List Token} → Spells n c a ts → Spells (suc n) c a ts
    go (rule.literal t h) = rule.literal t h
    go (rule.field t h) = rule.field t h
    go (rule.parens opened closed d) = rule.parens opened closed (go d)
    go (rule.prefix at s h d) = rule.prefix at s h (go d)
    go (rule.atom d) = rule.atom (go d)
    go (rule.power at d e) = rule.power at (go d) (go e)
    go (rule.lone d) = rule.lone (go d)
    go (rule.left l at s h d e) = rule.left l at s h (go d) (go e)
    go (rule.match at s pattern_at pattern h d) = rule.match at s pattern_at pattern h (go d)
    go (rule.single l d) = rule.single l (go d)

abbrev zero_token : Token
zero_token = record { at = 0; kind = token.Number 0 }

zero_atom : (n : ℕ) → Spells n Atom (0, Literally 0 (literal_kind.Number 0)) (zero_token ∷ [])
zero_atom n = rule.literal zero_token refl

zero_powered : (n : ℕ) → Spells n Powered (0, Literally 0 (literal_kind.Number 0)) (zero_token ∷ [])
zero_powered n = rule.lone (rule.atom (zero_atom n))

pub occurs_prefixed : Occurs (Of Prefixed)
occurs_prefixed n = ((0, Literally 0 (literal_kind.Number 0)), zero_token ∷ [], rule.atom (zero_atom n))

pub occurs_powered : Occurs (Of Powered)
occurs_powered n = ((0, Literally 0 (literal_kind.Number 0)), zero_token ∷ [], zero_powered n)

pub occurs_under : (l : Level) → Occurs (Of (under l))
occurs_under level.Product n = occurs_powered n
occurs_under level.Sum n = ((0, Literally 0 (literal_kind.Number 0)), zero_token ∷ [], rule.single level.Product (zero_powered n))
occurs_under level.Comparison n = ((0, Literally 0 (literal_kind.Number 0)), zero_token ∷ [], rule.single level.Sum (rule.single level.Product (zero_powered n)))
occurs_under level.Choice n = ((0, Literally 0 (literal_kind.Number 0)), zero_token ∷ [], rule.single level.Comparison (rule.single level.Sum (rule.single level.Product (zero_powered n))))

pub occurs_whole : Occurs (Of Whole_expression)
occurs_whole n = let o = occurs_under level.Choice n in (o.0, o.1, rule.single level.Choice o.2)
