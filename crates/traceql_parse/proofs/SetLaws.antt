-- The laws of the readers of expressions over spansets.
use Rattle.std.proofs.Common.{◌≡◌, ℕ, zero, suc, ◌<◌, Bool, false, ◌&&◌, ◌||◌, List, [], ◌∷◌, ◌++◌, length, Option, Some, None, is_some, Ok, inl, inr, refl, sym, ◌∙◌, ap, subst, append_assoc, append-nil}
use Rattle.traceql_tokens.specs.declared.fixed.Sign.{Sign}
use Rattle.traceql_tokens.specs.declared.fixed.Sign.TheVariants as sign
use Rattle.traceql_tokens.specs.declared.kinds.Token.{Token}
use Rattle.traceql_tokens.specs.declared.kinds.TokenKind.{TokenKind}
use Rattle.traceql_syntax.specs.Grammar.{mark, in_parens, in_braces, Whole_expression, SpellsCondition, SetClass, Part, Sets, under_set, SpellsSet}
use Rattle.traceql_syntax.specs.Grammar as rule
use Rattle.traceql_syntax.specs.Tables.{set_sign}
use Rattle.traceql_syntax.specs.declared.query.SpansetLevel.{SpansetLevel}
use Rattle.traceql_syntax.specs.declared.query.SpansetLevel.TheVariants as set_level
use Rattle.traceql_syntax.specs.declared.query.SpansetOp.{SpansetOp}
use Rattle.traceql_syntax.specs.Trees.{Placed, SetTree, Filter}
use Rattle.traceql_parse.specs.declared.lookahead.Delimiter.TheVariants as delimiter
use Rattle.traceql_parse.specs.Descent as read
use Rattle.traceql_parse.specs.Reading.{next_sign, delimits, expect_sign}
use Rattle.traceql_parse.proofs.Laws.{Reader, Lang, Stops, IsSound, Keeps, Completes, Grows, Occurs, IsRefusing, Seq, next, next_keeps, next_sound, next_completes, next_grows, next_occurs, next_refuses}
use Rattle.traceql_parse.proofs.Base.{never, One, at_sign, placing, one_grows, sign_keeps, sign_sound, sign_completes, sign_refuses, same_keeps, same_sound, same_completes, same_refuses, Image, mapped, mapped_keeps, mapped_sound, mapped_completes, mapped_grows, mapped_occurs, mapped_refuses}
use Rattle.traceql_parse.proofs.Choices.{local_sign, either, Either, either_keeps, either_sound, either_completes, either_refuses, opening, Opened, opening_keeps, opening_sound, opening_completes, opening_refuses, stops_never}
use Rattle.traceql_parse.proofs.Group.{done, turn, tailing, Tailing, one_item, ItemLang, tail_keeps, tail_sound, tail_completes, tail_stops, tail_occurs, tail_refuses, item_shrinks}
use Rattle.traceql_parse.proofs.Relabel.{relabel_sound, relabel_completes, relabel_refuses}
use Rattle.traceql_parse.proofs.Signs.{delimiter_token, marked_token, on_mark, follows}
use Rattle.traceql_parse.proofs.Group.{Follows}
use Rattle.traceql_parse.proofs.Fields.{close, Close, spells_grow}
use Rattle.traceql_parse.proofs.FieldLaws.{At, earlier, none_earlier}
use Rattle.traceql_parse.proofs.FieldRefusals.{opened_begins, test_is, stops_here, delimiter_occurs}
use Rattle.traceql_parse.proofs.Braces.{r_braces, Braced, braces_keeps, braces_sound, braces_completes, braces_refuses, braces_begin}

-- Readers, and what each is to read.

abbrev pub r_all : Reader SetTree
r_all n ts = read.all_sets n ts

abbrev pub r_set_parens : Reader SetTree
r_set_parens n ts = read.set_parens (read.sets_below n) ts

abbrev pub r_part : Reader SetTree
r_part n ts = read.part n (read.sets_below n) ts

abbrev pub r_set_operand : SpansetLevel → Reader SetTree
r_set_operand l n ts = read.set_operand_of n (read.sets_below n) l ts

abbrev pub r_sets : SpansetLevel → Reader SetTree
r_sets l n ts = read.sets n (read.sets_below n) l ts

abbrev pub OfSet : SetClass → Lang SetTree
OfSet c n e ts = SpellsSet n c e ts

abbrev pub All : SetClass
All = Sets set_level.Union

abbrev pub kept : SetTree → ℕ × Unit {0} → SetTree
kept e c = e

abbrev pub rest_of_sets : ℕ × Unit {0} → Reader SetTree
rest_of_sets o = next r_all (λ e. mapped (kept e) close)

abbrev pub RestOfSets : ℕ × Unit {0} → Lang SetTree
RestOfSets o = Seq (OfSet All) (λ e. Image (kept e) Close)

abbrev pub SetParensLang : Lang SetTree
SetParensLang = Opened (delimits delimiter.OpenParen) RestOfSets

pub set_parens_is : (n : ℕ) (ts : List Token) → r_set_parens n ts ≡ opening (delimits delimiter.OpenParen) rest_of_sets n ts
unfolding read.set_parens read.sets_below read.all_sets
set_parens_is zero ts = refl
set_parens_is (suc n) ts = refl

abbrev pub opens : List Token → Bool
opens ts = is_some (next_sign (delimits delimiter.OpenParen) ts)

abbrev pub filter_view : ℕ × Option Placed → SetTree
filter_view c = Filter c.0 c.1

abbrev pub r_filter : Reader SetTree
r_filter = mapped filter_view r_braces

abbrev pub FilterLang : Lang SetTree
FilterLang = Image filter_view Braced

pub part_is : (n : ℕ) (ts : List Token) → r_part n ts ≡ either opens r_set_parens r_filter n ts
unfolding read.part
part_is n ts = refl

abbrev pub item_view : ℕ × SpansetOp → SetTree → read.SetItem
item_view o e = (o, e)

abbrev pub set_side : SpansetLevel → ℕ × SpansetOp → Reader read.SetItem
set_side l o = mapped (item_view o) (r_set_operand l)

abbrev pub SetSide : SpansetLevel → ℕ × SpansetOp → Lang read.SetItem
SetSide l o = Image (item_view o) (OfSet (under_set l))

abbrev pub set_more_of : SpansetLevel → SetTree → Reader SetTree
set_more_of l = tailing (set_sign l) (set_side l) (SetSide l) read.set_join

abbrev pub SetMoreOf : SpansetLevel → SetTree → Lang SetTree
SetMoreOf l = Tailing (set_sign l) (set_side l) (SetSide l) read.set_join

pub sets_is : (l : SpansetLevel) (n : ℕ) (ts : List Token) → r_sets l n ts ≡ next (r_set_operand l) (set_more_of l) n ts
unfolding read.sets read.set_more read.set_item
sets_is l n ts = refl

pub structure_is : (n : ℕ) (ts : List Token) → r_set_operand set_level.Structure n ts ≡ r_part n ts
unfolding read.set_operand_of
structure_is n ts = refl

pub union_is : (n : ℕ) (ts : List Token) → r_set_operand set_level.Union n ts ≡ r_sets set_level.Structure n ts
unfolding read.set_operand_of read.sets
union_is n ts = refl

pub all_is : (n : ℕ) (ts : List Token) → r_all n ts ≡ r_sets set_level.Union n ts
unfolding read.all_sets
all_is n ts = refl

-- The grammar's rules and what the readers are to read say the same.

recast : {n : ℕ} {c : SetClass} {a b : SetTree} {ts us : List Token} → b ≡ a → us ≡ ts → SpellsSet n c a ts → SpellsSet n c b us
recast {n = n} {c = c} {a = a} {b = b} {ts = ts} {us = us} e k d =
    subst (λ (z : SetTree). SpellsSet n c z us) (sym e) (subst (λ (z : List Token). SpellsSet n c a z) (sym k) d)

pub part_to : (n : ℕ) (a : SetTree) (ts : List Token) → Either SetParensLang FilterLang n a ts → SpellsSet n Part a ts
part_to n a ts (inr i) = recast i.is i.spelled.cut (rule.filter i.of.0 i.spelled.closed i.spelled.inside)
part_to zero a ts (inl d) = absurd d
part_to (suc n) a ts (inl s) =
    let t = s.left.t in
    let xs = s.right.xs in
    let i = s.right.right in
    let u = i.spelled.t in
    let first = delimiter_token delimiter.OpenParen t s.first s.left.is in
    let last = delimiter_token delimiter.CloseParen u i.of i.spelled.is in
    let cut : ts ≡ in_parens t.at xs u.at =
    s.cut ∙ ap (λ (z : List Token). z ++ s.ys) s.left.cut ∙ ap (λ (z : List Token). t ∷ z) (s.right.cut ∙ ap (λ (z : List Token). xs ++ z) i.spelled.cut)
    ∙ ap (λ (z : Token). z ∷ (xs ++ (u ∷ []))) first.0 ∙ ap (λ (z : Token). mark t.at sign.OpenParen ∷ (xs ++ (z ∷ []))) last.0 in
    recast i.is cut (rule.set_parens t.at u.at s.right.left)

pub part_from : (n : ℕ) (a : SetTree) (ts : List Token) → SpellsSet n Part a ts → Either SetParensLang FilterLang n a ts
part_from n a ts (rule.filter {c = c} {ts = xs} opened closed d) = inr (record { of = (opened, c); is = refl; spelled = record { xs = xs; closed = closed; inside = d; cut = refl } })
part_from n a ts (rule.set_parens {e = e} {ts = xs} opened closed d) = inl (record {
  first = (opened, tt);
  xs = mark opened sign.OpenParen ∷ [];
  ys = xs ++ (mark closed sign.CloseParen ∷ []);
  cut = refl;
  left = record { t = mark opened sign.OpenParen; cut = refl; is = refl };
  right = record {
    first = e;
    xs = xs;
    ys = mark closed sign.CloseParen ∷ [];
    cut = refl;
    left = d;
    right = record { of = (closed, tt); is = refl; spelled = record { t = mark closed sign.CloseParen; cut = refl; is = refl } };
  };
})

abbrev pub SetItemOf : SpansetLevel → Lang read.SetItem
SetItemOf l = ItemLang (set_sign l) (set_side l) (SetSide l) read.set_join

abbrev pub set_item_of : SpansetLevel → Reader read.SetItem
set_item_of l = one_item (set_sign l) (set_side l) (SetSide l) read.set_join

join_rule : (l : SpansetLevel) (n : ℕ) (a : SetTree) (xs : List Token) (t : Token) (x : ℕ × SpansetOp) (b : read.SetItem) (ys : List Token) → SpellsSet n (Sets l) a xs → at_sign (set_sign l) t.at t.kind ≡ Some x → SetSide l x n b ys → SpellsSet n (Sets l) (read.set_join a b) (xs ++ (t ∷ ys))
join_rule l n a xs t x b ys d h i =
    let w = marked_token (set_sign l) t x h in
    let e = i.of in
    recast (ap (read.set_join a) (i.is ∙ ap (λ (z : ℕ). item_view (z, x.1) e) w.3)) (ap (λ (z : Token). xs ++ (z ∷ ys)) w.1)
    (rule.set_left l t.at w.0 w.2 d i.spelled)

sets_tail : (l : SpansetLevel) (n : ℕ) (a d : SetTree) (xs ys : List Token) → SpellsSet n (Sets l) a xs → SetMoreOf l a n d ys → SpellsSet n (Sets l) d (xs ++ ys)
sets_tail l n a d xs ys h done = recast refl (append-nil xs) h
sets_tail l n a d xs ys h (turn {b = b} {ys = us} {zs = vs} e m more) =
    let t = m.left.t in
    let joined : SpellsSet n (Sets l) (read.set_join a b) (xs ++ (t ∷ m.ys)) = join_rule l n a xs t m.first b m.ys h m.left.is m.right in
    let item_cut : us ≡ t ∷ m.ys = m.cut ∙ ap (λ (z : List Token). z ++ m.ys) m.left.cut in
    recast refl (ap (λ (z : List Token). xs ++ z) (e ∙ ap (λ (z : List Token). z ++ vs) item_cut) ∙ sym (append_assoc xs (t ∷ m.ys) vs))
    (sets_tail l n (read.set_join a b) d (xs ++ (t ∷ m.ys)) vs joined more)

pub sets_to : (l : SpansetLevel) (n : ℕ) (a : SetTree) (ts : List Token) → Seq (OfSet (under_set l)) (SetMoreOf l) n a ts → SpellsSet n (Sets l) a ts
sets_to l n a ts s = recast refl s.cut (sets_tail l n s.first a s.xs s.ys (rule.set_single l s.left) s.right)

tail_snoc : (l : SpansetLevel) (n : ℕ) (a d : SetTree) (b : read.SetItem) (ys zs : List Token) → SetMoreOf l a n d ys → SetItemOf l n b zs → SetMoreOf l a n (read.set_join d b) (ys ++ zs)
tail_snoc l n a d b ys zs done m = turn (sym (append-nil zs)) m done
tail_snoc l n a d b ys zs (turn {b = c} {ys = us} {zs = vs} e k more) m =
    turn (ap (λ (z : List Token). z ++ zs) e ∙ append_assoc us vs zs) k (tail_snoc l n (read.set_join a c) d b vs zs more m)

pub sets_from : (l : SpansetLevel) (n : ℕ) (a : SetTree) (ts : List Token) → SpellsSet n (Sets l) a ts → Seq (OfSet (under_set l)) (SetMoreOf l) n a ts
sets_from l n a ts (rule.set_single k d) = record { first = a; xs = ts; ys = []; cut = sym (append-nil ts); left = d; right = done }
sets_from l n a ts (rule.set_left {op = op} {a = x} {b = y} {xs = xs} {ys = ys} k at s h d e) =
    let front = sets_from l n x xs d in
    let m : SetItemOf l n ((at, op), y) (mark at s ∷ ys) = record {
      first = (at, op);
      xs = mark at s ∷ [];
      ys = ys;
      cut = refl;
      left = record { t = mark at s; cut = refl; is = ap (placing at) h };
      right = record { of = y; is = refl; spelled = e };
    } in
    record {
      first = front.first;
      xs = front.xs;
      ys = front.ys ++ (mark at s ∷ ys);
      cut = ap (λ (z : List Token). z ++ (mark at s ∷ ys)) front.cut ∙ append_assoc front.xs front.ys (mark at s ∷ ys);
      left = front.left;
      right = tail_snoc l n front.first x ((at, op), y) front.ys (mark at s ∷ ys) front.right m;
    }

pub sets_grow : (c : SetClass) → Grows (OfSet c)
sets_grow c n a ts d = go d
  where
    go_condition : {n : ℕ} {c : Option Placed} {xs : List Token} → SpellsCondition n c xs → SpellsCondition (suc n) c xs
    go_condition rule.empty = rule.empty
    go_condition (rule.condition {n = n} {e = e} {ts = xs} d) = rule.condition (spells_grow Whole_expression n e xs d)

    go : {n : ℕ} {c : SetClass} {a : SetTree} {ts : List Token} → SpellsSet n c a ts → SpellsSet (suc n) c a ts
    go (rule.filter opened closed d) = rule.filter opened closed (go_condition d)
    go (rule.set_parens opened closed d) = rule.set_parens opened closed (go d)
    go (rule.set_left l at s h d e) = rule.set_left l at s h (go d) (go e)
    go (rule.set_single l d) = rule.set_single l (go d)

abbrev all_filter : SetTree
all_filter = Filter 0 None

a_filter : (n : ℕ) → SpellsSet n Part all_filter (in_braces 0 [] 0)
a_filter n = rule.filter 0 0 rule.empty

pub occurs_under_set : (l : SpansetLevel) → Occurs (OfSet (under_set l))
occurs_under_set set_level.Structure n = (all_filter, in_braces 0 [] 0, a_filter n)
occurs_under_set set_level.Union n = (all_filter, in_braces 0 [] 0, rule.set_single set_level.Structure (a_filter n))

pub occurs_all : Occurs (OfSet All)
occurs_all n = (all_filter, in_braces 0 [] 0, rule.set_single set_level.Union (rule.set_single set_level.Structure (a_filter n)))

-- What goes on a spanset.

abbrev pub set_operand_goes : SpansetLevel → Sign → Bool
set_operand_goes set_level.Structure s = false
set_operand_goes set_level.Union s = false || is_some (set_sign set_level.Structure s)

abbrev pub set_goes : SpansetLevel → Sign → Bool
set_goes l s = set_operand_goes l s || is_some (set_sign l s)

set_apart : (l : SpansetLevel) (s : Sign) → (is_some (set_sign l s) && set_operand_goes l s) ≡ false
set_apart set_level.Structure sign.OpenParen = refl
set_apart set_level.Union sign.OpenParen = refl
set_apart _ _ = refl

pub set_follows : (l : SpansetLevel) → Follows (on_mark (set_operand_goes l)) (set_sign l) (on_mark (set_goes l))
set_follows l = follows (set_operand_goes l) (set_sign l) (set_apart l)

abbrev pub all_goes : TokenKind → Bool
all_goes = on_mark (set_goes set_level.Union)

-- Nothing is put before the tokens that are left.

pub record KeepsSets (n : ℕ) : Type 0 where
  pub operand : (l : SpansetLevel) → Keeps (At (r_set_operand l) n)
  pub all : Keeps (At r_all n)

set_side_keeps : (l : SpansetLevel) (n : ℕ) (o : ℕ × SpansetOp) → Keeps (At (r_set_operand l) n) → Keeps (At (set_side l o) n)
set_side_keeps l n o k = mapped_keeps (item_view o) (At (r_set_operand l) n) (OfSet (under_set l)) k

sets_keep : (l : SpansetLevel) (n : ℕ) → Keeps (At (r_set_operand l) n) → Keeps (At (r_sets l) n)
sets_keep l n k =
    same_keeps (At (r_sets l) n) (At (next (r_set_operand l) (set_more_of l)) n) (OfSet (Sets l)) (λ m ts. sets_is l n ts)
    (next_keeps (At (r_set_operand l) n) (OfSet (under_set l)) (λ a m ts. set_more_of l a n ts) (SetMoreOf l) k
    (λ a. tail_keeps (set_sign l) (λ o m ts. set_side l o n ts) (SetSide l) read.set_join (λ o. set_side_keeps l n o k) a))

keeps_at : (n : ℕ) → ((k : ℕ) → n ≡ suc k → KeepsSets k) → KeepsSets n
keeps_at n b =
    let parens : Keeps (At r_set_parens n) =
    same_keeps (At r_set_parens n) (At (opening (delimits delimiter.OpenParen) rest_of_sets) n) (OfSet Part) (λ m ts. set_parens_is n ts)
    (opening_keeps (delimits delimiter.OpenParen) rest_of_sets RestOfSets n (λ o k e.
    next_keeps (At r_all k) (OfSet All) (λ x m ts. mapped (kept x) close k ts) (λ x. Image (kept x) Close) (b k e).all
    (λ x. mapped_keeps (kept x) close Close (sign_keeps (delimits delimiter.CloseParen))))) in
    let part : Keeps (At r_part n) =
    same_keeps (At r_part n) (At (either opens r_set_parens r_filter) n) (OfSet Part) (λ m ts. part_is n ts)
    (either_keeps opens (local_sign (delimits delimiter.OpenParen)) (At r_set_parens n) (At r_filter n) (OfSet Part) (OfSet Part) parens
    (mapped_keeps filter_view (At r_braces n) Braced (λ m ts x e. braces_keeps n ts x e))) in
    let structure : Keeps (At (r_set_operand set_level.Structure) n) = same_keeps (At (r_set_operand set_level.Structure) n) (At r_part n) (OfSet Part) (λ m ts. structure_is n ts) part in
    let union : Keeps (At (r_set_operand set_level.Union) n) = same_keeps (At (r_set_operand set_level.Union) n) (At (r_sets set_level.Structure) n) (OfSet Part) (λ m ts. union_is n ts) (sets_keep set_level.Structure n structure) in
    record { operand = levels structure union; all = same_keeps (At r_all n) (At (r_sets set_level.Union) n) (OfSet Part) (λ m ts. all_is n ts) (sets_keep set_level.Union n union) }
  where
    levels : Keeps (At (r_set_operand set_level.Structure) n) → Keeps (At (r_set_operand set_level.Union) n) → (l : SpansetLevel) → Keeps (At (r_set_operand l) n)
    levels s u set_level.Structure = s
    levels s u set_level.Union = u

keeps : (n : ℕ) → KeepsSets n
keeps zero = keeps_at zero (none_earlier KeepsSets)
keeps (suc n) = keeps_at (suc n) (earlier KeepsSets n (keeps n))

pub all_keeps : Keeps r_all
all_keeps n ts x e = (keeps n).all n ts x e

every_side_keeps : (l : SpansetLevel) (o : ℕ × SpansetOp) → Keeps (set_side l o)
every_side_keeps l o n ts x e = set_side_keeps l n o ((keeps n).operand l) n ts x e

pub set_item_of_level_shrinks : (l : SpansetLevel) (n : ℕ) (ts : List Token) (x : read.SetItem × List Token) → set_item_of l n ts ≡ Ok x → length x.1 < length ts
set_item_of_level_shrinks l n ts x e = item_shrinks (set_sign l) (set_side l) (SetSide l) read.set_join (every_side_keeps l) n ts x e

-- What is read is spelled so.

pub record SoundSets (n : ℕ) : Type 0 where
  pub operand : (l : SpansetLevel) → IsSound (r_set_operand l) (OfSet (under_set l)) n
  pub all : IsSound r_all (OfSet All) n

item_sound : (l : SpansetLevel) (n : ℕ) → IsSound (r_set_operand l) (OfSet (under_set l)) n → IsSound (set_item_of l) (SetItemOf l) n
item_sound l n k = next_sound (λ m us. expect_sign (set_sign l) us) (One (at_sign (set_sign l))) (set_side l) (SetSide l) n (sign_sound (set_sign l) n) (λ o. mapped_sound (item_view o) (r_set_operand l) (OfSet (under_set l)) n k)

sets_sound : (l : SpansetLevel) (n : ℕ) → IsSound (r_set_operand l) (OfSet (under_set l)) n → IsSound (r_sets l) (OfSet (Sets l)) n
sets_sound l n k =
    relabel_sound (r_sets l) (Seq (OfSet (under_set l)) (SetMoreOf l)) (OfSet (Sets l)) (sets_to l) n
    (same_sound (r_sets l) (next (r_set_operand l) (set_more_of l)) (Seq (OfSet (under_set l)) (SetMoreOf l)) (sets_is l) n
    (next_sound (r_set_operand l) (OfSet (under_set l)) (set_more_of l) (SetMoreOf l) n k
    (λ a. tail_sound (set_sign l) (set_side l) (SetSide l) read.set_join (every_side_keeps l) n (item_sound l n k) a)))

sound_at : (n : ℕ) → ((k : ℕ) → n ≡ suc k → SoundSets k) → SoundSets n
sound_at n b =
    let parens : IsSound r_set_parens SetParensLang n =
    same_sound r_set_parens (opening (delimits delimiter.OpenParen) rest_of_sets) SetParensLang set_parens_is n
    (opening_sound (delimits delimiter.OpenParen) rest_of_sets RestOfSets n (λ o k e.
    next_sound r_all (OfSet All) (λ x. mapped (kept x) close) (λ x. Image (kept x) Close) k (b k e).all
    (λ x. mapped_sound (kept x) close Close k (sign_sound (delimits delimiter.CloseParen) k)))) in
    let part : IsSound r_part (OfSet Part) n =
    relabel_sound r_part (Either SetParensLang FilterLang) (OfSet Part) part_to n
    (same_sound r_part (either opens r_set_parens r_filter) (Either SetParensLang FilterLang) part_is n
    (either_sound opens (local_sign (delimits delimiter.OpenParen)) r_set_parens r_filter SetParensLang FilterLang n parens (mapped_sound filter_view r_braces Braced n (braces_sound n)))) in
    let structure : IsSound (r_set_operand set_level.Structure) (OfSet Part) n = same_sound (r_set_operand set_level.Structure) r_part (OfSet Part) structure_is n part in
    let union : IsSound (r_set_operand set_level.Union) (OfSet (Sets set_level.Structure)) n = same_sound (r_set_operand set_level.Union) (r_sets set_level.Structure) (OfSet (Sets set_level.Structure)) union_is n (sets_sound set_level.Structure n structure) in
    record { operand = levels structure union; all = same_sound r_all (r_sets set_level.Union) (OfSet All) all_is n (sets_sound set_level.Union n union) }
  where
    levels : IsSound (r_set_operand set_level.Structure) (OfSet Part) n → IsSound (r_set_operand set_level.Union) (OfSet (Sets set_level.Structure)) n → (l : SpansetLevel) → IsSound (r_set_operand l) (OfSet (under_set l)) n
    levels s u set_level.Structure = s
    levels s u set_level.Union = u

sound : (n : ℕ) → SoundSets n
sound zero = sound_at zero (none_earlier SoundSets)
sound (suc n) = sound_at (suc n) (earlier SoundSets n (sound n))

pub all_sound : (n : ℕ) → IsSound r_all (OfSet All) n
all_sound n = (sound n).all

-- All that is spelled is read.

close_stops : (e : SetTree) (n : ℕ) (a : SetTree) (ys rest : List Token) → Image (kept e) Close n a ys → Stops all_goes (ys ++ rest)
close_stops e n a ys rest i =
    let t = i.spelled.t in
    let w = delimiter_token delimiter.CloseParen t i.of i.spelled.is in
    stops_here all_goes (ys ++ rest) rest (mark t.at sign.CloseParen) (ap (λ (z : List Token). z ++ rest) i.spelled.cut ∙ ap (λ (z : Token). z ∷ rest) w.0) refl

filter_first : (n : ℕ) (a : SetTree) (front rest : List Token) → FilterLang n a front → opens (front ++ rest) ≡ false
filter_first n a front rest i =
    let w = braces_begin n i.of front rest i.spelled in
    test_is (delimits delimiter.OpenParen) (front ++ rest) w.0 (mark i.of.0 sign.OpenBrace) false w.1 refl

-- with nothing to go on, any tokens may follow
never_goes : {A : Type 0} (r : Reader A) (L : Lang A) (n : ℕ) → Completes r L never n → Completes r L (on_mark (λ s. false)) n
never_goes r L n c a front rest d stop = c a front rest d (stops_never rest)

item_completes : (l : SpansetLevel) (n : ℕ) → Completes (r_set_operand l) (OfSet (under_set l)) (on_mark (set_operand_goes l)) n → Completes (set_item_of l) (SetItemOf l) (on_mark (set_operand_goes l)) n
item_completes l n k =
    next_completes (λ m us. expect_sign (set_sign l) us) (One (at_sign (set_sign l))) (set_side l) (SetSide l) never (on_mark (set_operand_goes l)) n
    (sign_completes (set_sign l) n) (λ o. mapped_completes (item_view o) (r_set_operand l) (OfSet (under_set l)) (on_mark (set_operand_goes l)) n k) (λ o b ys rest d s. stops_never (ys ++ rest))

sets_complete : (l : SpansetLevel) (n : ℕ) → Completes (r_set_operand l) (OfSet (under_set l)) (on_mark (set_operand_goes l)) n → Completes (r_sets l) (OfSet (Sets l)) (on_mark (set_goes l)) n
sets_complete l n k =
    relabel_completes (r_sets l) (Seq (OfSet (under_set l)) (SetMoreOf l)) (OfSet (Sets l)) (sets_from l) (on_mark (set_goes l)) n
    (same_completes (r_sets l) (next (r_set_operand l) (set_more_of l)) (Seq (OfSet (under_set l)) (SetMoreOf l)) (sets_is l) (on_mark (set_goes l)) n
    (next_completes (r_set_operand l) (OfSet (under_set l)) (set_more_of l) (SetMoreOf l) (on_mark (set_operand_goes l)) (on_mark (set_goes l)) n k
    (λ a d ys rest t s. tail_completes (set_sign l) (set_side l) (SetSide l) read.set_join (on_mark (set_operand_goes l)) (on_mark (set_goes l)) (set_follows l) (every_side_keeps l) n (item_completes l n k) a d ys rest t s)
    (λ a d ys rest t s. tail_stops (set_sign l) (set_side l) (SetSide l) read.set_join (on_mark (set_operand_goes l)) (on_mark (set_goes l)) (set_follows l) n a d ys rest t s)))

abbrev CompleteSets : ℕ → Type 0
CompleteSets n = Completes r_all (OfSet All) all_goes n

complete_at : (n : ℕ) → ((k : ℕ) → n ≡ suc k → CompleteSets k) → CompleteSets n
complete_at n b =
    let parens : Completes r_set_parens SetParensLang never n =
    same_completes r_set_parens (opening (delimits delimiter.OpenParen) rest_of_sets) SetParensLang set_parens_is never n
    (opening_completes (delimits delimiter.OpenParen) rest_of_sets RestOfSets never n (λ o k e.
    next_completes r_all (OfSet All) (λ x. mapped (kept x) close) (λ x. Image (kept x) Close) all_goes never k (b k e)
    (λ x. mapped_completes (kept x) close Close never k (sign_completes (delimits delimiter.CloseParen) k))
    (λ x a ys rest i s. close_stops x k a ys rest i))) in
    let part : Completes r_part (OfSet Part) never n =
    relabel_completes r_part (Either SetParensLang FilterLang) (OfSet Part) part_from never n
    (same_completes r_part (either opens r_set_parens r_filter) (Either SetParensLang FilterLang) part_is never n
    (either_completes opens (local_sign (delimits delimiter.OpenParen)) r_set_parens r_filter SetParensLang FilterLang never n parens (mapped_completes filter_view r_braces Braced never n (braces_completes n))
    (λ a front rest d s. opened_begins (delimits delimiter.OpenParen) RestOfSets n a front rest d)
    (λ a front rest d s. filter_first n a front rest d))) in
    let structure : Completes (r_set_operand set_level.Structure) (OfSet Part) (on_mark (λ s. false)) n =
    same_completes (r_set_operand set_level.Structure) r_part (OfSet Part) structure_is (on_mark (λ s. false)) n (never_goes r_part (OfSet Part) n part) in
    let union : Completes (r_set_operand set_level.Union) (OfSet (Sets set_level.Structure)) (on_mark (set_goes set_level.Structure)) n =
    same_completes (r_set_operand set_level.Union) (r_sets set_level.Structure) (OfSet (Sets set_level.Structure)) union_is (on_mark (set_goes set_level.Structure)) n (sets_complete set_level.Structure n structure) in
    same_completes r_all (r_sets set_level.Union) (OfSet All) all_is all_goes n (sets_complete set_level.Union n union)

pub all_completes : (n : ℕ) → Completes r_all (OfSet All) all_goes n
all_completes zero = complete_at zero (none_earlier CompleteSets)
all_completes (suc n) = complete_at (suc n) (earlier CompleteSets n (all_completes n))

-- The rest is refused.

item_grows : (l : SpansetLevel) → Grows (SetItemOf l)
item_grows l = next_grows (λ m us. expect_sign (set_sign l) us) (One (at_sign (set_sign l))) (set_side l) (SetSide l) (one_grows (at_sign (set_sign l))) (λ o. mapped_grows (item_view o) (r_set_operand l) (OfSet (under_set l)) (sets_grow (under_set l)))

item_refuses : (l : SpansetLevel) (n : ℕ) → IsRefusing (r_set_operand l) (OfSet (under_set l)) n → IsRefusing (set_item_of l) (SetItemOf l) n
item_refuses l n k =
    next_refuses (λ m us. expect_sign (set_sign l) us) (One (at_sign (set_sign l))) (set_side l) (SetSide l) n
    (one_grows (at_sign (set_sign l))) (λ o. mapped_occurs (item_view o) (r_set_operand l) (OfSet (under_set l)) (occurs_under_set l)) (sign_sound (set_sign l) n) (sign_refuses (set_sign l) n) (λ o. mapped_refuses (item_view o) (r_set_operand l) (OfSet (under_set l)) n k)

sets_refuse : (l : SpansetLevel) (n : ℕ) → IsRefusing (r_set_operand l) (OfSet (under_set l)) n → IsRefusing (r_sets l) (OfSet (Sets l)) n
sets_refuse l n k =
    relabel_refuses (r_sets l) (Seq (OfSet (under_set l)) (SetMoreOf l)) (OfSet (Sets l)) (sets_to l) n
    (same_refuses (r_sets l) (next (r_set_operand l) (set_more_of l)) (Seq (OfSet (under_set l)) (SetMoreOf l)) (sets_is l) n
    (next_refuses (r_set_operand l) (OfSet (under_set l)) (set_more_of l) (SetMoreOf l) n (sets_grow (under_set l))
    (λ a. tail_occurs (set_sign l) (set_side l) (SetSide l) read.set_join a) ((sound n).operand l) k
    (λ a. tail_refuses (set_sign l) (set_side l) (SetSide l) read.set_join (every_side_keeps l) (item_grows l) n (item_sound l n ((sound n).operand l)) (item_refuses l n k) a)))

abbrev RefusingSets : ℕ → Type 0
RefusingSets n = IsRefusing r_all (OfSet All) n

refusing_at : (n : ℕ) → ((k : ℕ) → n ≡ suc k → RefusingSets k) → RefusingSets n
refusing_at n b =
    let parens : IsRefusing r_set_parens SetParensLang n =
    same_refuses r_set_parens (opening (delimits delimiter.OpenParen) rest_of_sets) SetParensLang set_parens_is n
    (opening_refuses (delimits delimiter.OpenParen) rest_of_sets RestOfSets n
    (λ o. next_occurs r_all (OfSet All) (λ x. mapped (kept x) close) (λ x. Image (kept x) Close) occurs_all (λ x. mapped_occurs (kept x) close Close (delimiter_occurs delimiter.CloseParen)))
    (λ o k e. next_refuses r_all (OfSet All) (λ x. mapped (kept x) close) (λ x. Image (kept x) Close) k (sets_grow All)
    (λ x. mapped_occurs (kept x) close Close (delimiter_occurs delimiter.CloseParen)) (all_sound k) (b k e)
    (λ x. mapped_refuses (kept x) close Close k (sign_refuses (delimits delimiter.CloseParen) k)))) in
    let part : IsRefusing r_part (OfSet Part) n =
    relabel_refuses r_part (Either SetParensLang FilterLang) (OfSet Part) part_to n
    (same_refuses r_part (either opens r_set_parens r_filter) (Either SetParensLang FilterLang) part_is n
    (either_refuses opens (local_sign (delimits delimiter.OpenParen)) r_set_parens r_filter SetParensLang FilterLang n parens (mapped_refuses filter_view r_braces Braced n (braces_refuses n)))) in
    let structure : IsRefusing (r_set_operand set_level.Structure) (OfSet Part) n = same_refuses (r_set_operand set_level.Structure) r_part (OfSet Part) structure_is n part in
    let union : IsRefusing (r_set_operand set_level.Union) (OfSet (Sets set_level.Structure)) n = same_refuses (r_set_operand set_level.Union) (r_sets set_level.Structure) (OfSet (Sets set_level.Structure)) union_is n (sets_refuse set_level.Structure n structure) in
    same_refuses r_all (r_sets set_level.Union) (OfSet All) all_is n (sets_refuse set_level.Union n union)

pub all_refuses : (n : ℕ) → IsRefusing r_all (OfSet All) n
all_refuses zero = refusing_at zero (none_earlier RefusingSets)
all_refuses (suc n) = refusing_at (suc n) (earlier RefusingSets n (all_refuses n))
