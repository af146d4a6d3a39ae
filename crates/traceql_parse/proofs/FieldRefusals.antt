-- All that the grammar spells is read, and the rest is refused at the earliest place: field expressions.
use Rattle.std.proofs.Common.{◌≡◌, ℕ, zero, suc, Bool, true, false, List, [], ◌∷◌, ◌++◌, Option, Some, is_some, inl, inr, refl, sym, ◌∙◌, ap, subst, append_assoc}
use Rattle.traceql_tokens.specs.declared.fixed.Sign.{Sign}
use Rattle.traceql_tokens.specs.declared.fixed.Sign.TheVariants as sign
use Rattle.traceql_tokens.specs.declared.kinds.Token.{Token}
use Rattle.traceql_tokens.specs.declared.kinds.TokenKind.{TokenKind}
use Rattle.traceql_tokens.specs.declared.kinds.TokenKind.TheVariants as token
use Rattle.traceql_syntax.specs.declared.field.Field.{Field}
use Rattle.traceql_syntax.specs.declared.field.Level.{Level}
use Rattle.traceql_syntax.specs.declared.field.Level.TheVariants as level
use Rattle.traceql_syntax.specs.declared.field.Literal.{Literal}
use Rattle.traceql_syntax.specs.declared.field.UnaryOp.{UnaryOp}
use Rattle.traceql_syntax.specs.Grammar.{mark, in_parens, Class, Atom, Prefixed, Powered, Grouped, under, Whole_expression, Spells}
use Rattle.traceql_syntax.specs.Grammar as rule
use Rattle.traceql_syntax.specs.Tables.{on_sign, prefix_sign, field_of}
use Rattle.traceql_syntax.specs.Trees.{Literally, Placed}
use Rattle.traceql_parse.specs.declared.lookahead.Delimiter.{Delimiter}
use Rattle.traceql_parse.specs.declared.lookahead.Delimiter.TheVariants as delimiter
use Rattle.traceql_parse.specs.declared.lookahead.ItemSign.{ItemSign}
use Rattle.traceql_parse.specs.declared.lookahead.ItemSign.TheVariants as item_sign
use Rattle.traceql_parse.specs.Descent as read
use Rattle.traceql_parse.specs.Reading.{next_sign, delimits, expect, expect_sign}
use Rattle.traceql_parse.proofs.Laws.{Reader, Lang, Stops, IsSound, Completes, Grows, Occurs, IsRefusing, Seq, next, next_completes, next_grows, next_occurs, next_refuses}
use Rattle.traceql_parse.proofs.Base.{never, One, at_sign, placing, one_completes, one_grows, one_refuses, sign_sound, sign_completes, sign_refuses, same_completes, same_refuses, Image, mapped, mapped_completes, mapped_grows, mapped_occurs, mapped_refuses}
use Rattle.traceql_parse.proofs.Choices.{local_sign, either, Either, either_completes, either_refuses, opening, Opened, opening_completes, opening_refuses, stops_never}
use Rattle.traceql_parse.proofs.Group.{pure, Pure, pure_completes, pure_refuses, tail_completes, tail_stops, tail_occurs, tail_refuses, placing_some, some_in_place}
use Rattle.traceql_parse.proofs.Relabel.{relabel_completes, relabel_refuses}
use Rattle.traceql_parse.proofs.Signs.{delimits_sign, delimits_only, delimiter_token, marked_token, on_mark, caret, operand_goes, level_goes, level_follows, sign_of}
use Rattle.traceql_parse.proofs.Fields.{r_parens, r_atom, r_prefix, r_prefixed, r_exponent, r_powered, r_grouped, r_operand, r_whole, r_leaf, close, Of, Close, closed_view, rest_of_parens, RestOfParens, ParensLang, parens_is, prefix_view, rest_of_prefix, RestOfPrefix, prefix_is, exponent_view, rest_of_exponent, RestOfExponent, ExponentLang, exponent_is, opens, prefixes, raises, atom_is, prefixed_is, optional, Optional, powered_is, side, Side_of, Side, more_of, MoreOf, grouped_is, atom_to, atom_from, prefixed_to, prefixed_from, powered_to, powered_from, grouped_to, grouped_from, spells_grow, occurs_prefixed, occurs_powered, occurs_under, occurs_whole}
use Rattle.traceql_parse.proofs.FieldLaws.{operand_is_product, operand_is_sum, operand_is_comparison, operand_is_choice, whole_is, earlier, none_earlier, every_side_keeps, sound, ItemOf, item_of, item_sound}

-- All that is spelled is read.

abbrev pub whole_goes : TokenKind → Bool
whole_goes = on_mark (level_goes level.Choice)

pub completes_behind : {A : Type 0} (r : Reader A) (L : Lang A) (g : TokenKind → Bool) (n : ℕ) → Completes r L never n → Completes r L g n
completes_behind r L g n c a front rest d stop = c a front rest d (stops_never rest)

pub stops_here : (g : TokenKind → Bool) (ts us : List Token) (t : Token) → ts ≡ t ∷ us → g t.kind ≡ false → Stops g ts
stops_here g ts us t e h = subst (λ (z : List Token). Stops g z) (sym e) h

-- a closing parenthesis goes on no expression
close_stops : (o : ℕ × Unit {0}) (e : Placed) (n : ℕ) (a : Placed) (ys rest : List Token) → Image (closed_view o e) Close n a ys → Stops whole_goes (ys ++ rest)
close_stops o e n a ys rest i =
    let t = i.spelled.t in
    let w = delimiter_token delimiter.CloseParen t i.of i.spelled.is in
    stops_here whole_goes (ys ++ rest) rest (mark t.at sign.CloseParen) (ap (λ (z : List Token). z ++ rest) i.spelled.cut ∙ ap (λ (z : Token). z ∷ rest) w.0) refl

pub test_is : {V : Type 0} (f : Sign → Option V) (ts us : List Token) (t : Token) (b : Bool) → ts ≡ t ∷ us → is_some (on_sign f t.kind) ≡ b → is_some (next_sign f ts) ≡ b
test_is f ts us t b e h = ap (λ (z : List Token). is_some (next_sign f z)) e ∙ some_in_place t.at us (on_sign f t.kind) ∙ h

pub opened_begins : {V A : Type 0} (f : Sign → Option V) (P : ℕ × V → Lang A) (n : ℕ) (a : A) (front rest : List Token) → Opened f P n a front → is_some (next_sign f (front ++ rest)) ≡ true
opened_begins f P zero a front rest d = absurd d
opened_begins {V = V} f P (suc n) a front rest s =
    let t = s.left.t in
    test_is f (front ++ rest) (s.ys ++ rest) t true
    (ap (λ (z : List Token). z ++ rest) (s.cut ∙ ap (λ (z : List Token). z ++ s.ys) s.left.cut))
    (ap (λ (o : Option V). is_some o) (placing_some t.at (on_sign f t.kind) s.first s.left.is))

-- the first token of a sentence that a sign opens
opened_first : {V A : Type 0} (f : Sign → Option V) (P : ℕ × V → Lang A) (n : ℕ) (a : A) (front rest : List Token) → Opened f P n a front → (t : Token) × (us : List Token) × (s : Sign) × (v : V) × (front ++ rest ≡ mark t.at s ∷ us) × (f s ≡ Some v)
opened_first f P zero a front rest d = absurd d
opened_first f P (suc n) a front rest s =
    let t = s.left.t in
    let w = marked_token f t s.first s.left.is in
    (t, s.ys ++ rest, w.0, s.first.1, ap (λ (z : List Token). z ++ rest) (s.cut ∙ ap (λ (z : List Token). z ++ s.ys) s.left.cut ∙ ap (λ (z : Token). z ∷ s.ys) w.1), w.2)

leaf_no_sign : {V : Type 0} (f : Sign → Option V) (at : ℕ) (k : TokenKind) (a : Placed) → read.leaf_at at k ≡ Some a → is_some (on_sign f k) ≡ false
leaf_no_sign f at (token.Mark s) a h = cc
leaf_no_sign f at _ a h = refl

leaf_begins_none : {V : Type 0} (f : Sign → Option V) (n : ℕ) (a : Placed) (front rest : List Token) → One read.leaf_at n a front → is_some (next_sign f (front ++ rest)) ≡ false
leaf_begins_none f n a front rest o = test_is f (front ++ rest) rest o.t false (ap (λ (z : List Token). z ++ rest) o.cut) (leaf_no_sign f o.t.at o.t.kind a o.is)

atom_no_prefix : (n : ℕ) (a : Placed) (front rest : List Token) → Spells n Atom a front → prefixes (front ++ rest) ≡ false
atom_no_prefix n a front rest d = go (atom_from n a front d)
  where
    go : Either ParensLang (One read.leaf_at) n a front → prefixes (front ++ rest) ≡ false
    go (inr o) = leaf_begins_none prefix_sign n a front rest o
    go (inl p) =
        let w = opened_first (delimits delimiter.OpenParen) RestOfParens n a front rest p in
        test_is prefix_sign (front ++ rest) w.1 (mark w.0.at w.2) false w.4 (not_prefix w.2 (delimits_only delimiter.OpenParen w.2 (w.5)))
      where
        not_prefix : (s : Sign) → s ≡ sign.OpenParen → is_some (prefix_sign s) ≡ false
        not_prefix s e = ap (λ z. is_some (prefix_sign z)) e

no_caret : (rest : List Token) → Stops (on_mark caret) rest → raises rest ≡ false
no_caret [] s = refl
no_caret (t ∷ ts) s = some_in_place t.at ts (on_sign (delimits delimiter.Caret) t.kind) ∙ same t.kind ∙ s
  where
    same : (k : TokenKind) → is_some (on_sign (delimits delimiter.Caret) k) ≡ on_mark caret k
    same (token.Mark s) = refl
    same _ = refl

pub record Complete (n : ℕ) : Type 0 where
  pub prefixed : Completes r_prefixed (Of Prefixed) never n
  pub powered : Completes r_powered (Of Powered) (on_mark caret) n
  pub whole : Completes r_whole (Of Whole_expression) whole_goes n

side_completes : (l : Level) (n at : ℕ) (s : ItemSign) → Completes (r_operand l) (Of (under l)) (on_mark (operand_goes l)) n → Completes (λ m ts. read.right_side (r_operand l m) at s ts) (Side_of l at s) (on_mark (operand_goes l)) n
side_completes l n at (item_sign.Operator op) k = mapped_completes (read.Operator at op) (r_operand l) (Of (under l)) (on_mark (operand_goes l)) n k
side_completes l n at (item_sign.Pattern negated) k =
    mapped_completes (λ p. read.Pattern at negated p.0 p.1) (λ m ts. expect read.quoted_at ts) (One read.quoted_at) (on_mark (operand_goes l)) n
    (completes_behind (λ m ts. expect read.quoted_at ts) (One read.quoted_at) (on_mark (operand_goes l)) n (one_completes read.quoted_at n))

item_completes : (l : Level) (n : ℕ) → Completes (r_operand l) (Of (under l)) (on_mark (operand_goes l)) n → Completes (item_of l) (ItemOf l) (on_mark (operand_goes l)) n
item_completes l n k =
    next_completes (λ m us. expect_sign (read.item_sign_of l) us) (One (at_sign (read.item_sign_of l))) (side l) (Side l) never (on_mark (operand_goes l)) n
    (sign_completes (read.item_sign_of l) n) (λ o. side_completes l n o.0 o.1 k) (λ o b ys rest d s. stops_never (ys ++ rest))

grouped_completes : (l : Level) (n : ℕ) → Completes (r_operand l) (Of (under l)) (on_mark (operand_goes l)) n → Completes (r_grouped l) (Of (Grouped l)) (on_mark (level_goes l)) n
grouped_completes l n k =
    relabel_completes (r_grouped l) (Seq (Of (under l)) (MoreOf l)) (Of (Grouped l)) (grouped_from l) (on_mark (level_goes l)) n
    (same_completes (r_grouped l) (next (r_operand l) (more_of l)) (Seq (Of (under l)) (MoreOf l)) (grouped_is l) (on_mark (level_goes l)) n
    (next_completes (r_operand l) (Of (under l)) (more_of l) (MoreOf l) (on_mark (operand_goes l)) (on_mark (level_goes l)) n k
    (λ a d ys rest t s. tail_completes (read.item_sign_of l) (side l) (Side l) read.join (on_mark (operand_goes l)) (on_mark (level_goes l)) (level_follows l) (every_side_keeps l) n (item_completes l n k) a d ys rest t s)
    (λ a d ys rest t s. tail_stops (read.item_sign_of l) (side l) (Side l) read.join (on_mark (operand_goes l)) (on_mark (level_goes l)) (level_follows l) n a d ys rest t s)))

complete_at : (n : ℕ) → ((k : ℕ) → n ≡ suc k → Complete k) → Complete n
complete_at n b =
    let parens : Completes r_parens ParensLang never n =
    same_completes r_parens (opening (delimits delimiter.OpenParen) rest_of_parens) ParensLang parens_is never n
    (opening_completes (delimits delimiter.OpenParen) rest_of_parens RestOfParens never n (λ o k e.
    next_completes r_whole (Of Whole_expression) (λ x. mapped (closed_view o x) close) (λ x. Image (closed_view o x) Close) whole_goes never k (b k e).whole
    (λ x. mapped_completes (closed_view o x) close Close never k (sign_completes (delimits delimiter.CloseParen) k))
    (λ x a ys rest i s. close_stops o x k a ys rest i))) in
    let atom : Completes r_atom (Of Atom) never n =
    relabel_completes r_atom (Either ParensLang (One read.leaf_at)) (Of Atom) atom_from never n
    (same_completes r_atom (either opens r_parens r_leaf) (Either ParensLang (One read.leaf_at)) atom_is never n
    (either_completes opens (local_sign (delimits delimiter.OpenParen)) r_parens r_leaf ParensLang (One read.leaf_at) never n parens (one_completes read.leaf_at n)
    (λ a front rest d s. opened_begins (delimits delimiter.OpenParen) RestOfParens n a front rest d)
    (λ a front rest d s. leaf_begins_none (delimits delimiter.OpenParen) n a front rest d))) in
    let prefix : Completes r_prefix (Opened prefix_sign RestOfPrefix) never n =
    same_completes r_prefix (opening prefix_sign rest_of_prefix) (Opened prefix_sign RestOfPrefix) prefix_is never n
    (opening_completes prefix_sign rest_of_prefix RestOfPrefix never n (λ o k e. mapped_completes (prefix_view o) r_prefixed (Of Prefixed) never k (b k e).prefixed)) in
    let prefixed : Completes r_prefixed (Of Prefixed) never n =
    relabel_completes r_prefixed (Either (Opened prefix_sign RestOfPrefix) (Of Atom)) (Of Prefixed) prefixed_from never n
    (same_completes r_prefixed (either prefixes r_prefix r_atom) (Either (Opened prefix_sign RestOfPrefix) (Of Atom)) prefixed_is never n
    (either_completes prefixes (local_sign prefix_sign) r_prefix r_atom (Opened prefix_sign RestOfPrefix) (Of Atom) never n prefix atom
    (λ a front rest d s. opened_begins prefix_sign RestOfPrefix n a front rest d)
    (λ a front rest d s. atom_no_prefix n a front rest d))) in
    let exponent : Completes r_exponent ExponentLang (on_mark caret) n =
    same_completes r_exponent (opening (delimits delimiter.Caret) rest_of_exponent) ExponentLang exponent_is (on_mark caret) n
    (opening_completes (delimits delimiter.Caret) rest_of_exponent RestOfExponent (on_mark caret) n (λ o k e. mapped_completes (exponent_view o) r_powered (Of Powered) (on_mark caret) k (b k e).powered)) in
    let powered : Completes r_powered (Of Powered) (on_mark caret) n =
    relabel_completes r_powered (Seq (Of Prefixed) Optional) (Of Powered) powered_from (on_mark caret) n
    (same_completes r_powered (next r_prefixed optional) (Seq (Of Prefixed) Optional) powered_is (on_mark caret) n
    (next_completes r_prefixed (Of Prefixed) optional Optional never (on_mark caret) n prefixed (λ a.
    either_completes raises (local_sign (delimits delimiter.Caret)) (mapped (read.raised a) r_exponent) (pure a) (Image (read.raised a) ExponentLang) (Pure a) (on_mark caret) n
    (mapped_completes (read.raised a) r_exponent ExponentLang (on_mark caret) n exponent) (pure_completes a (on_mark caret) n)
    (λ c front rest i s. opened_begins (delimits delimiter.Caret) RestOfExponent n i.of front rest i.spelled)
    (λ c front rest d s. ap (λ (z : List Token). raises (z ++ rest)) d.1 ∙ no_caret rest s))
    (λ a c ys rest d s. stops_never (ys ++ rest)))) in
    let product : Completes (r_operand level.Product) (Of Powered) (on_mark caret) n = same_completes (r_operand level.Product) r_powered (Of Powered) operand_is_product (on_mark caret) n powered in
    let sum : Completes (r_operand level.Sum) (Of (Grouped level.Product)) (on_mark (level_goes level.Product)) n = same_completes (r_operand level.Sum) (r_grouped level.Product) (Of (Grouped level.Product)) operand_is_sum (on_mark (level_goes level.Product)) n (grouped_completes level.Product n product) in
    let comparison : Completes (r_operand level.Comparison) (Of (Grouped level.Sum)) (on_mark (level_goes level.Sum)) n = same_completes (r_operand level.Comparison) (r_grouped level.Sum) (Of (Grouped level.Sum)) operand_is_comparison (on_mark (level_goes level.Sum)) n (grouped_completes level.Sum n sum) in
    let choice : Completes (r_operand level.Choice) (Of (Grouped level.Comparison)) (on_mark (level_goes level.Comparison)) n = same_completes (r_operand level.Choice) (r_grouped level.Comparison) (Of (Grouped level.Comparison)) operand_is_choice (on_mark (level_goes level.Comparison)) n (grouped_completes level.Comparison n comparison) in
    record {
      prefixed = prefixed;
      powered = powered;
      whole = same_completes r_whole (r_grouped level.Choice) (Of Whole_expression) whole_is whole_goes n (grouped_completes level.Choice n choice);
    }

complete : (n : ℕ) → Complete n
complete zero = complete_at zero (none_earlier Complete)
complete (suc n) = complete_at (suc n) (earlier Complete n (complete n))

pub whole_completes : (n : ℕ) → Completes r_whole (Of Whole_expression) whole_goes n
whole_completes n = (complete n).whole

-- The rest is refused.

pub record Refusing (n : ℕ) : Type 0 where
  pub prefixed : IsRefusing r_prefixed (Of Prefixed) n
  pub powered : IsRefusing r_powered (Of Powered) n
  pub whole : IsRefusing r_whole (Of Whole_expression) n

pub delimiter_occurs : (d : Delimiter) → Occurs (One (at_sign (delimits d)))
delimiter_occurs d n = ((0, tt), mark 0 (sign_of d) ∷ [], record { t = mark 0 (sign_of d); cut = refl; is = ap (placing 0) (delimits_sign d) })

side_refuses : (l : Level) (n at : ℕ) (s : ItemSign) → IsRefusing (r_operand l) (Of (under l)) n → IsRefusing (λ m ts. read.right_side (r_operand l m) at s ts) (Side_of l at s) n
side_refuses l n at (item_sign.Operator op) k = mapped_refuses (read.Operator at op) (r_operand l) (Of (under l)) n k
side_refuses l n at (item_sign.Pattern negated) k = mapped_refuses (λ p. read.Pattern at negated p.0 p.1) (λ m ts. expect read.quoted_at ts) (One read.quoted_at) n (one_refuses read.quoted_at n)

side_occurs : (l : Level) (at : ℕ) (s : ItemSign) → Occurs (Side_of l at s)
side_occurs l at (item_sign.Operator op) = mapped_occurs (read.Operator at op) (λ m ts. r_operand l m ts) (Of (under l)) (occurs_under l)
side_occurs l at (item_sign.Pattern negated) = mapped_occurs (λ p. read.Pattern at negated p.0 p.1) (λ m ts. expect read.quoted_at ts) (One read.quoted_at) quoted_occurs
  where
    quoted_occurs : Occurs (One read.quoted_at)
    quoted_occurs n = let t : Token = record { at = 0; kind = token.Quoted [] } in ((0, []), t ∷ [], record { t = t; cut = refl; is = refl })

side_grows : (l : Level) (at : ℕ) (s : ItemSign) → Grows (Side_of l at s)
side_grows l at (item_sign.Operator op) = mapped_grows (read.Operator at op) (λ m ts. r_operand l m ts) (Of (under l)) (spells_grow (under l))
side_grows l at (item_sign.Pattern negated) = mapped_grows (λ p. read.Pattern at negated p.0 p.1) (λ m ts. expect read.quoted_at ts) (One read.quoted_at) (one_grows read.quoted_at)

item_grows : (l : Level) → Grows (ItemOf l)
item_grows l = next_grows (λ m us. expect_sign (read.item_sign_of l) us) (One (at_sign (read.item_sign_of l))) (side l) (Side l) (one_grows (at_sign (read.item_sign_of l))) (λ o. side_grows l o.0 o.1)

item_refuses : (l : Level) (n : ℕ) → IsRefusing (r_operand l) (Of (under l)) n → IsRefusing (item_of l) (ItemOf l) n
item_refuses l n k =
    next_refuses (λ m us. expect_sign (read.item_sign_of l) us) (One (at_sign (read.item_sign_of l))) (side l) (Side l) n
    (one_grows (at_sign (read.item_sign_of l))) (λ o. side_occurs l o.0 o.1) (sign_sound (read.item_sign_of l) n) (sign_refuses (read.item_sign_of l) n) (λ o. side_refuses l n o.0 o.1 k)

grouped_refuses : (l : Level) (n : ℕ) → IsRefusing (r_operand l) (Of (under l)) n → IsRefusing (r_grouped l) (Of (Grouped l)) n
grouped_refuses l n k =
    relabel_refuses (r_grouped l) (Seq (Of (under l)) (MoreOf l)) (Of (Grouped l)) (grouped_to l) n
    (same_refuses (r_grouped l) (next (r_operand l) (more_of l)) (Seq (Of (under l)) (MoreOf l)) (grouped_is l) n
    (next_refuses (r_operand l) (Of (under l)) (more_of l) (MoreOf l) n (spells_grow (under l))
    (λ a. tail_occurs (read.item_sign_of l) (side l) (Side l) read.join a) ((sound n).operand l) k
    (λ a. tail_refuses (read.item_sign_of l) (side l) (Side l) read.join (every_side_keeps l) (item_grows l) n (item_sound l n ((sound n).operand l)) (item_refuses l n k) a)))

refusing_at : (n : ℕ) → ((k : ℕ) → n ≡ suc k → Refusing k) → Refusing n
refusing_at n b =
    let parens : IsRefusing r_parens ParensLang n =
    same_refuses r_parens (opening (delimits delimiter.OpenParen) rest_of_parens) ParensLang parens_is n
    (opening_refuses (delimits delimiter.OpenParen) rest_of_parens RestOfParens n
    (λ o. next_occurs r_whole (Of Whole_expression) (λ x. mapped (closed_view o x) close) (λ x. Image (closed_view o x) Close) occurs_whole (λ x. mapped_occurs (closed_view o x) close Close (delimiter_occurs delimiter.CloseParen)))
    (λ o k e. next_refuses r_whole (Of Whole_expression) (λ x. mapped (closed_view o x) close) (λ x. Image (closed_view o x) Close) k (spells_grow Whole_expression)
    (λ x. mapped_occurs (closed_view o x) close Close (delimiter_occurs delimiter.CloseParen)) (sound k).whole (b k e).whole
    (λ x. mapped_refuses (closed_view o x) close Close k (sign_refuses (delimits delimiter.CloseParen) k)))) in
    let atom : IsRefusing r_atom (Of Atom) n =
    relabel_refuses r_atom (Either ParensLang (One read.leaf_at)) (Of Atom) atom_to n
    (same_refuses r_atom (either opens r_parens r_leaf) (Either ParensLang (One read.leaf_at)) atom_is n
    (either_refuses opens (local_sign (delimits delimiter.OpenParen)) r_parens r_leaf ParensLang (One read.leaf_at) n parens (one_refuses read.leaf_at n))) in
    let prefix : IsRefusing r_prefix (Opened prefix_sign RestOfPrefix) n =
    same_refuses r_prefix (opening prefix_sign rest_of_prefix) (Opened prefix_sign RestOfPrefix) prefix_is n
    (opening_refuses prefix_sign rest_of_prefix RestOfPrefix n (λ o. mapped_occurs (prefix_view o) r_prefixed (Of Prefixed) occurs_prefixed) (λ o k e. mapped_refuses (prefix_view o) r_prefixed (Of Prefixed) k (b k e).prefixed)) in
    let prefixed : IsRefusing r_prefixed (Of Prefixed) n =
    relabel_refuses r_prefixed (Either (Opened prefix_sign RestOfPrefix) (Of Atom)) (Of Prefixed) prefixed_to n
    (same_refuses r_prefixed (either prefixes r_prefix r_atom) (Either (Opened prefix_sign RestOfPrefix) (Of Atom)) prefixed_is n
    (either_refuses prefixes (local_sign prefix_sign) r_prefix r_atom (Opened prefix_sign RestOfPrefix) (Of Atom) n prefix atom)) in
    let exponent : IsRefusing r_exponent ExponentLang n =
    same_refuses r_exponent (opening (delimits delimiter.Caret) rest_of_exponent) ExponentLang exponent_is n
    (opening_refuses (delimits delimiter.Caret) rest_of_exponent RestOfExponent n (λ o. mapped_occurs (exponent_view o) r_powered (Of Powered) occurs_powered) (λ o k e. mapped_refuses (exponent_view o) r_powered (Of Powered) k (b k e).powered)) in
    let powered : IsRefusing r_powered (Of Powered) n =
    relabel_refuses r_powered (Seq (Of Prefixed) Optional) (Of Powered) powered_to n
    (same_refuses r_powered (next r_prefixed optional) (Seq (Of Prefixed) Optional) powered_is n
    (next_refuses r_prefixed (Of Prefixed) optional Optional n (spells_grow Prefixed) (λ a m. (a, [], inr (refl, refl))) (sound n).prefixed prefixed (λ a.
    either_refuses raises (local_sign (delimits delimiter.Caret)) (mapped (read.raised a) r_exponent) (pure a) (Image (read.raised a) ExponentLang) (Pure a) n
    (mapped_refuses (read.raised a) r_exponent ExponentLang n exponent) (pure_refuses a n)))) in
    let product : IsRefusing (r_operand level.Product) (Of Powered) n = same_refuses (r_operand level.Product) r_powered (Of Powered) operand_is_product n powered in
    let sum : IsRefusing (r_operand level.Sum) (Of (Grouped level.Product)) n = same_refuses (r_operand level.Sum) (r_grouped level.Product) (Of (Grouped level.Product)) operand_is_sum n (grouped_refuses level.Product n product) in
    let comparison : IsRefusing (r_operand level.Comparison) (Of (Grouped level.Sum)) n = same_refuses (r_operand level.Comparison) (r_grouped level.Sum) (Of (Grouped level.Sum)) operand_is_comparison n (grouped_refuses level.Sum n sum) in
    let choice : IsRefusing (r_operand level.Choice) (Of (Grouped level.Comparison)) n = same_refuses (r_operand level.Choice) (r_grouped level.Comparison) (Of (Grouped level.Comparison)) operand_is_choice n (grouped_refuses level.Comparison n comparison) in
    record {
      prefixed = prefixed;
      powered = powered;
      whole = same_refuses r_whole (r_grouped level.Choice) (Of Whole_expression) whole_is n (grouped_refuses level.Choice n choice);
    }

refusing : (n : ℕ) → Refusing n
refusing zero = refusing_at zero (none_earlier Refusing)
refusing (suc n) = refusing_at (suc n) (earlier Refusing n (refusing n))

pub whole_refuses : (n : ℕ) → IsRefusing r_whole (Of Whole_expression) n
whole_refuses n = (refusing n).whole

pub whole_sound : (n : ℕ) → IsSound r_whole (Of Whole_expression) n
whole_sound n = (sound n).whole

-- No expression begins with a sign that is neither a unary operator nor an opening parenthesis.

pub record NoStart {V : Type 0} (f : Sign → Option V) : Type 0 where
  pub no_paren : is_some (f sign.OpenParen) ≡ false
  pub no_prefix : (s : Sign) (op : UnaryOp) → prefix_sign s ≡ Some op → is_some (f s) ≡ false

module _ {V : Type 0} (f : Sign → Option V) (no : NoStart f) where
  starts_otherwise : {n : ℕ} {c : Class} {e : Placed} {front : List Token} → Spells n c e front → (rest : List Token) → is_some (next_sign f (front ++ rest)) ≡ false
  starts_otherwise (rule.literal {x = x} t h) rest = test_is f (t ∷ rest) rest t false refl (leaf_no_sign f t.at t.kind (t.at, Literally t.at x) (ap (λ (o : Option Literal). read.leaf_or t.at o (field_of t.kind)) h))
  starts_otherwise (rule.field {x = x} t h) rest = test_is f (t ∷ rest) rest t false refl (field_no_sign t.kind x h)
    where
      field_no_sign : (k : TokenKind) (x : Field) → field_of k ≡ Some x → is_some (on_sign f k) ≡ false
      field_no_sign (token.Mark s) x e = cc
      field_no_sign _ x e = refl
  starts_otherwise (rule.parens {ts = ts} opened closed d) rest = test_is f (mark opened sign.OpenParen ∷ ((ts ++ (mark closed sign.CloseParen ∷ [])) ++ rest)) ((ts ++ (mark closed sign.CloseParen ∷ [])) ++ rest) (mark opened sign.OpenParen) false refl no.no_paren
  starts_otherwise (rule.prefix {op = op} {ts = ts} at s h d) rest = test_is f (mark at s ∷ (ts ++ rest)) (ts ++ rest) (mark at s) false refl (no.no_prefix s op h)
  starts_otherwise (rule.atom d) rest = starts_otherwise d rest
  starts_otherwise (rule.power {xs = xs} {ys = ys} at d e) rest = ap (λ (z : List Token). is_some (next_sign f z)) (append_assoc xs (mark at sign.Caret ∷ ys) rest) ∙ starts_otherwise d (mark at sign.Caret ∷ (ys ++ rest))
  starts_otherwise (rule.lone d) rest = starts_otherwise d rest
  starts_otherwise (rule.left {xs = xs} {ys = ys} l at s h d e) rest = ap (λ (z : List Token). is_some (next_sign f z)) (append_assoc xs (mark at s ∷ ys) rest) ∙ starts_otherwise d (mark at s ∷ (ys ++ rest))
  starts_otherwise (rule.match {xs = xs} at s pattern_at pattern h d) rest =
      let quoted : Token = record { at = pattern_at; kind = token.Quoted pattern } in
      ap (λ (z : List Token). is_some (next_sign f z)) (append_assoc xs (mark at s ∷ quoted ∷ []) rest) ∙ starts_otherwise d (mark at s ∷ (quoted ∷ rest))
  starts_otherwise (rule.single l d) rest = starts_otherwise d rest

brace_no_start : NoStart (delimits delimiter.CloseBrace)
brace_no_start = record { no_paren = refl; no_prefix = no_prefix }
  where
    no_prefix : (s : Sign) (op : UnaryOp) → prefix_sign s ≡ Some op → is_some (delimits delimiter.CloseBrace s) ≡ false
    no_prefix sign.Minus op h = refl
    no_prefix sign.Bang op h = refl
    no_prefix _ op h = cc

pub whole_begins : (n : ℕ) (e : Placed) (front rest : List Token) → Of Whole_expression n e front → is_some (next_sign (delimits delimiter.CloseBrace) (front ++ rest)) ≡ false
whole_begins n e front rest d = starts_otherwise (delimits delimiter.CloseBrace) brace_no_start d rest
