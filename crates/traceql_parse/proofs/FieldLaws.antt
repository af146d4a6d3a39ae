-- The laws of field expressions, at every depth.
use Rattle.std.proofs.Common.{◌≡◌, ℕ, zero, suc, ◌<◌, List, length, Ok, refl, subst}
use Rattle.traceql_tokens.specs.declared.kinds.Token.{Token}
use Rattle.traceql_syntax.specs.declared.field.Level.{Level}
use Rattle.traceql_syntax.specs.declared.field.Level.TheVariants as level
use Rattle.traceql_syntax.specs.Grammar.{Atom, Prefixed, Powered, Grouped, under, Whole_expression}
use Rattle.traceql_syntax.specs.Tables.{prefix_sign}
use Rattle.traceql_parse.specs.declared.lookahead.Delimiter.TheVariants as delimiter
use Rattle.traceql_parse.specs.declared.lookahead.ItemSign.{ItemSign}
use Rattle.traceql_parse.specs.declared.lookahead.ItemSign.TheVariants as item_sign
use Rattle.traceql_parse.specs.Descent as read
use Rattle.traceql_parse.specs.Reading.{delimits, expect, expect_sign}
use Rattle.traceql_parse.proofs.Laws.{Reader, Lang, IsSound, Keeps, Seq, next, next_keeps, next_sound}
use Rattle.traceql_parse.proofs.Base.{One, at_sign, one_keeps, one_sound, sign_keeps, sign_sound, same_keeps, same_sound, Image, mapped, mapped_keeps, mapped_sound}
use Rattle.traceql_parse.proofs.Choices.{Local, local_sign, either, Either, either_keeps, either_sound, opening, Opened, opening_keeps, opening_sound}
use Rattle.traceql_parse.proofs.Group.{pure, Pure, pure_keeps, pure_sound, one_item, ItemLang, tail_keeps, tail_sound, item_shrinks}
use Rattle.traceql_parse.proofs.Relabel.{relabel_sound}
use Rattle.traceql_parse.proofs.Fields.{r_parens, r_atom, r_prefix, r_prefixed, r_exponent, r_powered, r_grouped, r_operand, r_whole, r_leaf, close, Of, Close, closed_view, rest_of_parens, RestOfParens, ParensLang, parens_is, prefix_view, rest_of_prefix, RestOfPrefix, prefix_is, exponent_view, rest_of_exponent, RestOfExponent, ExponentLang, exponent_is, opens, prefixes, raises, atom_is, prefixed_is, optional, Optional, powered_is, side, Side_of, Side, more_of, MoreOf, grouped_is, atom_to, prefixed_to, powered_to, grouped_to}

pub operand_is_product : (n : ℕ) (ts : List Token) → r_operand level.Product n ts ≡ r_powered n ts
unfolding read.operand_of
operand_is_product n ts = refl

pub operand_is_sum : (n : ℕ) (ts : List Token) → r_operand level.Sum n ts ≡ r_grouped level.Product n ts
unfolding read.operand_of read.grouped
operand_is_sum n ts = refl

pub operand_is_comparison : (n : ℕ) (ts : List Token) → r_operand level.Comparison n ts ≡ r_grouped level.Sum n ts
unfolding read.operand_of read.grouped
operand_is_comparison n ts = refl

pub operand_is_choice : (n : ℕ) (ts : List Token) → r_operand level.Choice n ts ≡ r_grouped level.Comparison n ts
unfolding read.operand_of read.grouped
operand_is_choice n ts = refl

pub whole_is : (n : ℕ) (ts : List Token) → r_whole n ts ≡ r_grouped level.Choice n ts
unfolding read.whole
whole_is n ts = refl

open_paren : Local opens
open_paren = local_sign (delimits delimiter.OpenParen)

-- Nothing is put before the tokens that are left.

abbrev pub At : {A : Type 0} → Reader A → ℕ → Reader A
At r n m ts = r n ts

pub record KeepsAt (n : ℕ) : Type 0 where
  pub prefixed : Keeps (At r_prefixed n)
  pub powered : Keeps (At r_powered n)
  pub operand : (l : Level) → Keeps (At (r_operand l) n)
  pub whole : Keeps (At r_whole n)

side_keeps : (l : Level) (n at : ℕ) (s : ItemSign) → Keeps (At (r_operand l) n) → Keeps (λ m ts. read.right_side (r_operand l n) at s ts)
side_keeps l n at (item_sign.Operator op) k = mapped_keeps (read.Operator at op) (At (r_operand l) n) (Of (under l)) k
side_keeps l n at (item_sign.Pattern negated) k = mapped_keeps (λ p. read.Pattern at negated p.0 p.1) (λ m ts. expect read.quoted_at ts) (One read.quoted_at) (one_keeps read.quoted_at)

grouped_keeps : (l : Level) (n : ℕ) → Keeps (At (r_operand l) n) → Keeps (At (r_grouped l) n)
grouped_keeps l n k =
    same_keeps (At (r_grouped l) n) (At (next (r_operand l) (more_of l)) n) (Of (Grouped l)) (λ m ts. grouped_is l n ts)
    (next_keeps (At (r_operand l) n) (Of (under l)) (λ a m ts. more_of l a n ts) (MoreOf l) k
    (λ a. tail_keeps (read.item_sign_of l) (λ o m ts. side l o n ts) (Side l) read.join (λ o. side_keeps l n o.0 o.1 k) a))

keeps_at : (n : ℕ) → ((k : ℕ) → n ≡ suc k → KeepsAt k) → KeepsAt n
keeps_at n b =
    let parens : Keeps (At r_parens n) =
    same_keeps (At r_parens n) (At (opening (delimits delimiter.OpenParen) rest_of_parens) n) (Of Atom) (λ m ts. parens_is n ts)
    (opening_keeps (delimits delimiter.OpenParen) rest_of_parens RestOfParens n (λ o k e.
    next_keeps (At r_whole k) (Of Whole_expression) (λ x m ts. mapped (closed_view o x) close k ts) (λ x. Image (closed_view o x) Close) (b k e).whole
    (λ x. mapped_keeps (closed_view o x) close Close (sign_keeps (delimits delimiter.CloseParen))))) in
    let atom : Keeps (At r_atom n) =
    same_keeps (At r_atom n) (At (either opens r_parens r_leaf) n) (Of Atom) (λ m ts. atom_is n ts)
    (either_keeps opens open_paren (At r_parens n) (At r_leaf n) (Of Atom) (Of Atom) parens (one_keeps read.leaf_at)) in
    let prefix : Keeps (At r_prefix n) =
    same_keeps (At r_prefix n) (At (opening prefix_sign rest_of_prefix) n) (Of Prefixed) (λ m ts. prefix_is n ts)
    (opening_keeps prefix_sign rest_of_prefix RestOfPrefix n (λ o k e. mapped_keeps (prefix_view o) (At r_prefixed k) (Of Prefixed) (b k e).prefixed)) in
    let prefixed : Keeps (At r_prefixed n) =
    same_keeps (At r_prefixed n) (At (either prefixes r_prefix r_atom) n) (Of Prefixed) (λ m ts. prefixed_is n ts)
    (either_keeps prefixes (local_sign prefix_sign) (At r_prefix n) (At r_atom n) (Of Prefixed) (Of Atom) prefix atom) in
    let exponent : Keeps (At r_exponent n) =
    same_keeps (At r_exponent n) (At (opening (delimits delimiter.Caret) rest_of_exponent) n) ExponentLang (λ m ts. exponent_is n ts)
    (opening_keeps (delimits delimiter.Caret) rest_of_exponent RestOfExponent n (λ o k e. mapped_keeps (exponent_view o) (At r_powered k) (Of Powered) (b k e).powered)) in
    let powered : Keeps (At r_powered n) =
    same_keeps (At r_powered n) (At (next r_prefixed optional) n) (Of Powered) (λ m ts. powered_is n ts)
    (next_keeps (At r_prefixed n) (Of Prefixed) (λ a m ts. optional a n ts) Optional prefixed (λ a.
    either_keeps raises (local_sign (delimits delimiter.Caret)) (At (mapped (read.raised a) r_exponent) n) (pure a) (Image (read.raised a) ExponentLang) (Pure a)
    (mapped_keeps (read.raised a) (At r_exponent n) ExponentLang exponent) (pure_keeps a))) in
    let product : Keeps (At (r_operand level.Product) n) = same_keeps (At (r_operand level.Product) n) (At r_powered n) (Of Powered) (λ m ts. operand_is_product n ts) powered in
    let sum : Keeps (At (r_operand level.Sum) n) = same_keeps (At (r_operand level.Sum) n) (At (r_grouped level.Product) n) (Of Powered) (λ m ts. operand_is_sum n ts) (grouped_keeps level.Product n product) in
    let comparison : Keeps (At (r_operand level.Comparison) n) = same_keeps (At (r_operand level.Comparison) n) (At (r_grouped level.Sum) n) (Of Powered) (λ m ts. operand_is_comparison n ts) (grouped_keeps level.Sum n sum) in
    let choice : Keeps (At (r_operand level.Choice) n) = same_keeps (At (r_operand level.Choice) n) (At (r_grouped level.Comparison) n) (Of Powered) (λ m ts. operand_is_choice n ts) (grouped_keeps level.Comparison n comparison) in
    record {
      prefixed = prefixed;
      powered = powered;
      operand = levels product sum comparison choice;
      whole = same_keeps (At r_whole n) (At (r_grouped level.Choice) n) (Of Powered) (λ m ts. whole_is n ts) (grouped_keeps level.Choice n choice);
    }
  where
    levels : Keeps (At (r_operand level.Product) n) → Keeps (At (r_operand level.Sum) n) → Keeps (At (r_operand level.Comparison) n) → Keeps (At (r_operand level.Choice) n) → (l : Level) → Keeps (At (r_operand l) n)
    levels p s c o level.Product = p
    levels p s c o level.Sum = s
    levels p s c o level.Comparison = c
    levels p s c o level.Choice = o

pub earlier : (P : ℕ → Type 0) (n : ℕ) → P n → (k : ℕ) → suc n ≡ suc k → P k
earlier P n p k e = let same : n ≡ k = cc in subst P same p

pub none_earlier : (P : ℕ → Type 0) (k : ℕ) → zero ≡ suc k → P k
none_earlier P k e = cc

pub keeps : (n : ℕ) → KeepsAt n
keeps zero = keeps_at zero (none_earlier KeepsAt)
keeps (suc n) = keeps_at (suc n) (earlier KeepsAt n (keeps n))

pub operand_keeps : (l : Level) → Keeps (r_operand l)
operand_keeps l n ts x e = (keeps n).operand l n ts x e

pub whole_keeps : Keeps r_whole
whole_keeps n ts x e = (keeps n).whole n ts x e

pub every_side_keeps : (l : Level) (o : ℕ × ItemSign) → Keeps (side l o)
every_side_keeps l o n ts x e = side_keeps l n o.0 o.1 ((keeps n).operand l) n ts x e

pub item_of_level_shrinks : (l : Level) (n : ℕ) (ts : List Token) (x : read.Item × List Token) → one_item (read.item_sign_of l) (side l) (Side l) read.join n ts ≡ Ok x → length x.1 < length ts
item_of_level_shrinks l n ts x e = item_shrinks (read.item_sign_of l) (side l) (Side l) read.join (every_side_keeps l) n ts x e

-- What is read is spelled so.

pub record Sound (n : ℕ) : Type 0 where
  pub prefixed : IsSound r_prefixed (Of Prefixed) n
  pub powered : IsSound r_powered (Of Powered) n
  pub operand : (l : Level) → IsSound (r_operand l) (Of (under l)) n
  pub whole : IsSound r_whole (Of Whole_expression) n
  -- and the parts that refusals speak of
  pub parens : IsSound r_parens ParensLang n
  pub atom : IsSound r_atom (Of Atom) n

pub side_sound : (l : Level) (n at : ℕ) (s : ItemSign) → IsSound (r_operand l) (Of (under l)) n → IsSound (λ m ts. read.right_side (r_operand l m) at s ts) (Side_of l at s) n
side_sound l n at (item_sign.Operator op) k = mapped_sound (read.Operator at op) (r_operand l) (Of (under l)) n k
side_sound l n at (item_sign.Pattern negated) k = mapped_sound (λ p. read.Pattern at negated p.0 p.1) (λ m ts. expect read.quoted_at ts) (One read.quoted_at) n (one_sound read.quoted_at n)

abbrev pub ItemOf : Level → Lang read.Item
ItemOf l = ItemLang (read.item_sign_of l) (side l) (Side l) read.join

abbrev pub item_of : Level → Reader read.Item
item_of l = one_item (read.item_sign_of l) (side l) (Side l) read.join

pub item_sound : (l : Level) (n : ℕ) → IsSound (r_operand l) (Of (under l)) n → IsSound (item_of l) (ItemOf l) n
item_sound l n k = next_sound (λ m us. expect_sign (read.item_sign_of l) us) (One (at_sign (read.item_sign_of l))) (side l) (Side l) n (sign_sound (read.item_sign_of l) n) (λ o. side_sound l n o.0 o.1 k)

grouped_sound : (l : Level) (n : ℕ) → IsSound (r_operand l) (Of (under l)) n → IsSound (r_grouped l) (Of (Grouped l)) n
grouped_sound l n k =
    relabel_sound (r_grouped l) (Seq (Of (under l)) (MoreOf l)) (Of (Grouped l)) (grouped_to l) n
    (same_sound (r_grouped l) (next (r_operand l) (more_of l)) (Seq (Of (under l)) (MoreOf l)) (grouped_is l) n
    (next_sound (r_operand l) (Of (under l)) (more_of l) (MoreOf l) n k
    (λ a. tail_sound (read.item_sign_of l) (side l) (Side l) read.join (every_side_keeps l) n (item_sound l n k) a)))

sound_at : (n : ℕ) → ((k : ℕ) → n ≡ suc k → Sound k) → Sound n
sound_at n b =
    let parens : IsSound r_parens ParensLang n =
    same_sound r_parens (opening (delimits delimiter.OpenParen) rest_of_parens) ParensLang parens_is n
    (opening_sound (delimits delimiter.OpenParen) rest_of_parens RestOfParens n (λ o k e.
    next_sound r_whole (Of Whole_expression) (λ x. mapped (closed_view o x) close) (λ x. Image (closed_view o x) Close) k (b k e).whole
    (λ x. mapped_sound (closed_view o x) close Close k (sign_sound (delimits delimiter.CloseParen) k)))) in
    let atom : IsSound r_atom (Of Atom) n =
    relabel_sound r_atom (Either ParensLang (One read.leaf_at)) (Of Atom) atom_to n
    (same_sound r_atom (either opens r_parens r_leaf) (Either ParensLang (One read.leaf_at)) atom_is n
    (either_sound opens open_paren r_parens r_leaf ParensLang (One read.leaf_at) n parens (one_sound read.leaf_at n))) in
    let prefix : IsSound r_prefix (Opened prefix_sign RestOfPrefix) n =
    same_sound r_prefix (opening prefix_sign rest_of_prefix) (Opened prefix_sign RestOfPrefix) prefix_is n
    (opening_sound prefix_sign rest_of_prefix RestOfPrefix n (λ o k e. mapped_sound (prefix_view o) r_prefixed (Of Prefixed) k (b k e).prefixed)) in
    let prefixed : IsSound r_prefixed (Of Prefixed) n =
    relabel_sound r_prefixed (Either (Opened prefix_sign RestOfPrefix) (Of Atom)) (Of Prefixed) prefixed_to n
    (same_sound r_prefixed (either prefixes r_prefix r_atom) (Either (Opened prefix_sign RestOfPrefix) (Of Atom)) prefixed_is n
    (either_sound prefixes (local_sign prefix_sign) r_prefix r_atom (Opened prefix_sign RestOfPrefix) (Of Atom) n prefix atom)) in
    let exponent : IsSound r_exponent ExponentLang n =
    same_sound r_exponent (opening (delimits delimiter.Caret) rest_of_exponent) ExponentLang exponent_is n
    (opening_sound (delimits delimiter.Caret) rest_of_exponent RestOfExponent n (λ o k e. mapped_sound (exponent_view o) r_powered (Of Powered) k (b k e).powered)) in
    let powered : IsSound r_powered (Of Powered) n =
    relabel_sound r_powered (Seq (Of Prefixed) Optional) (Of Powered) powered_to n
    (same_sound r_powered (next r_prefixed optional) (Seq (Of Prefixed) Optional) powered_is n
    (next_sound r_prefixed (Of Prefixed) optional Optional n prefixed (λ a.
    either_sound raises (local_sign (delimits delimiter.Caret)) (mapped (read.raised a) r_exponent) (pure a) (Image (read.raised a) ExponentLang) (Pure a) n
    (mapped_sound (read.raised a) r_exponent ExponentLang n exponent) (pure_sound a n)))) in
    let product : IsSound (r_operand level.Product) (Of Powered) n = same_sound (r_operand level.Product) r_powered (Of Powered) operand_is_product n powered in
    let sum : IsSound (r_operand level.Sum) (Of (Grouped level.Product)) n = same_sound (r_operand level.Sum) (r_grouped level.Product) (Of (Grouped level.Product)) operand_is_sum n (grouped_sound level.Product n product) in
    let comparison : IsSound (r_operand level.Comparison) (Of (Grouped level.Sum)) n = same_sound (r_operand level.Comparison) (r_grouped level.Sum) (Of (Grouped level.Sum)) operand_is_comparison n (grouped_sound level.Sum n sum) in
    let choice : IsSound (r_operand level.Choice) (Of (Grouped level.Comparison)) n = same_sound (r_operand level.Choice) (r_grouped level.Comparison) (Of (Grouped level.Comparison)) operand_is_choice n (grouped_sound level.Comparison n comparison) in
    record {
      prefixed = prefixed;
      powered = powered;
      operand = levels product sum comparison choice;
      whole = same_sound r_whole (r_grouped level.Choice) (Of Whole_expression) whole_is n (grouped_sound level.Choice n choice);
      parens = parens;
      atom = atom;
    }
  where
    levels : IsSound (r_operand level.Product) (Of Powered) n → IsSound (r_operand level.Sum) (Of (Grouped level.Product)) n → IsSound (r_operand level.Comparison) (Of (Grouped level.Sum)) n → IsSound (r_operand level.Choice) (Of (Grouped level.Comparison)) n → (l : Level) → IsSound (r_operand l) (Of (under l)) n
    levels p s c o level.Product = p
    levels p s c o level.Sum = s
    levels p s c o level.Comparison = c
    levels p s c o level.Choice = o

pub sound : (n : ℕ) → Sound n
sound zero = sound_at zero (none_earlier Sound)
sound (suc n) = sound_at (suc n) (earlier Sound n (sound n))
