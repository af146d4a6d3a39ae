-- The laws of the readers of stages.
use Rattle.std.proofs.Common.{◌≡◌, ℕ, suc, ◌<◌, Bool, true, false, ◌&&◌, ◌||◌, List, [], ◌∷◌, ◌++◌, length, Option, Some, None, is_some, Ok, inl, inr, refl, sym, ◌∙◌, ap, subst, append_assoc, append-nil}
use Rattle.traceql_tokens.specs.declared.fixed.Sign.{Sign}
use Rattle.traceql_tokens.specs.declared.fixed.Sign.TheVariants as sign
use Rattle.traceql_tokens.specs.declared.kinds.Token.{Token}
use Rattle.traceql_tokens.specs.declared.kinds.TokenKind.{TokenKind}
use Rattle.traceql_tokens.specs.declared.kinds.TokenKind.TheVariants as token
use Rattle.traceql_syntax.specs.declared.field.Field.{Field}
use Rattle.traceql_syntax.specs.Grammar.{mark, keyword, in_parens, in_braces, Whole_expression, SpellsCondition, SpellsAggregate, SpellsThreshold, SpellsFields, SpellsStage, SpellsQuery}
use Rattle.traceql_syntax.specs.Grammar as rule
use Rattle.traceql_syntax.specs.Tables.{on_sign, on_word, comparison_sign, measure_of}
use Rattle.traceql_syntax.specs.declared.field.Comparison.{Comparison}
use Rattle.traceql_syntax.specs.declared.field.Comparison.TheVariants as comparison
use Rattle.traceql_syntax.specs.declared.field.Field.TheVariants as field_kind
use Rattle.traceql_tokens.specs.declared.fixed.Word.{Word}
use Rattle.traceql_tokens.specs.declared.fixed.Word.TheVariants as word
use Rattle.traceql_tokens.specs.declared.fixed.Intrinsic.TheVariants as intrinsic
use Rattle.traceql_syntax.specs.Trees.{Placed, AggregateTree, ThresholdTree, Aggregate, Number, StageTree, Keep, By, Coalesce, Select, Compare}
use Rattle.traceql_parse.specs.declared.lookahead.Delimiter.TheVariants as delimiter
use Rattle.traceql_parse.specs.Descent as read
use Rattle.traceql_parse.specs.Descent.{by_word}
use Rattle.traceql_parse.specs.Reading.{next_sign, next_word, delimits, expect, expect_sign, expect_word}
use Rattle.traceql_parse.proofs.Laws.{Reader, Lang, IsSound, Keeps, Completes, Occurs, IsRefusing, Seq, next, next_keeps, next_sound, next_completes, next_grows, next_occurs, next_refuses}
use Rattle.traceql_parse.proofs.Base.{never, One, at_sign, placing, one_keeps, one_sound, one_completes, one_grows, one_refuses, at_word, sign_keeps, sign_sound, sign_completes, sign_refuses, same_keeps, same_sound, same_completes, same_refuses, Image, mapped, mapped_keeps, mapped_sound, mapped_completes, mapped_occurs, mapped_refuses}
use Rattle.traceql_parse.proofs.Choices.{local_sign, local_word, either, Either, either_keeps, either_sound, either_completes, either_refuses, stops_never}
use Rattle.traceql_parse.proofs.Group.{done, turn, tailing, Tailing, one_item, ItemLang, tail_keeps, tail_sound, tail_completes, tail_occurs, tail_refuses, placing_some, item_shrinks}
use Rattle.traceql_parse.proofs.Relabel.{relabel_sound, relabel_completes, relabel_refuses}
use Rattle.traceql_parse.proofs.Signs.{delimiter_token, marked_token, on_mark, follows}
use Rattle.traceql_parse.proofs.Group.{Follows}
use Rattle.traceql_parse.proofs.Fields.{r_whole, Of}
use Rattle.traceql_parse.proofs.FieldRefusals.{test_is}
use Rattle.traceql_parse.proofs.Braces.{r_braces, Braced}
use Rattle.traceql_syntax.specs.declared.field.Field.{Field}
use Rattle.traceql_parse.proofs.Group.{Follows, item_shrinks}
use Rattle.traceql_parse.proofs.Aggregates.{word_test_is, shifted, Shifted, parens_of, Enclosed, word_token, word_begins, r_nothing, Nothing, r_aggregate, AggregateOf, aggregate_keeps, aggregate_sound, aggregate_completes, aggregate_refuses, aggregate_grows, aggregate_begins}

-- What an aggregate is compared with.

abbrev pub minus : Reader (ℕ × Unit {0})
minus n ts = expect_sign (delimits delimiter.Minus) ts

abbrev pub Minus : Lang (ℕ × Unit {0})
Minus = One (at_sign (delimits delimiter.Minus))

abbrev pub measure : Bool → Reader ThresholdTree
measure negative n ts = expect (read.measure_at negative) ts

abbrev pub Measure : Bool → Lang ThresholdTree
Measure negative = One (read.measure_at negative)

abbrev pub negated : Reader ThresholdTree
negated = next minus (λ m. measure true)

abbrev pub Negated : Lang ThresholdTree
Negated = Seq Minus (λ m. Measure true)

abbrev pub has_minus : List Token → Bool
has_minus ts = is_some (next_sign (delimits delimiter.Minus) ts)

abbrev pub r_signed : Reader ThresholdTree
r_signed n ts = read.signed ts

abbrev pub SignedLang : Lang ThresholdTree
SignedLang = Either Negated (Measure false)

pub signed_is : (n : ℕ) (ts : List Token) → r_signed n ts ≡ either has_minus negated (measure false) n ts
unfolding read.signed
signed_is n ts = refl

abbrev pub has_aggregate : List Token → Bool
has_aggregate ts = is_some (next_word read.aggregate_word_of ts)

abbrev pub r_threshold : Reader ThresholdTree
r_threshold n ts = read.threshold n ts

abbrev pub ThresholdLang : Lang ThresholdTree
ThresholdLang = Either (Image Aggregate AggregateOf) SignedLang

abbrev pub ThresholdOf : Lang ThresholdTree
ThresholdOf n x ts = SpellsThreshold (suc n) x ts

pub threshold_is : (n : ℕ) (ts : List Token) → r_threshold n ts ≡ either has_aggregate (mapped Aggregate r_aggregate) r_signed n ts
unfolding read.threshold
threshold_is n ts = refl

recast : (n : ℕ) (a b : ThresholdTree) (ts us : List Token) → b ≡ a → us ≡ ts → SpellsThreshold n a ts → SpellsThreshold n b us
recast n a b ts us e k d = subst (λ (z : ThresholdTree). SpellsThreshold n z us) (sym e) (subst (λ (z : List Token). SpellsThreshold n a z) (sym k) d)

threshold_to : (n : ℕ) (x : ThresholdTree) (ts : List Token) → ThresholdLang n x ts → ThresholdOf n x ts
threshold_to n x ts (inl i) = recast (suc n) (Aggregate i.of) x ts ts i.is refl (rule.aggregate i.spelled)
threshold_to n x ts (inr (inr o)) = recast (suc n) x x (o.t ∷ []) ts refl o.cut (rule.plain o.t o.is)
threshold_to n x ts (inr (inl s)) =
    let t = s.left.t in
    let u = s.right.t in
    let w = delimiter_token delimiter.Minus t s.first s.left.is in
    recast (suc n) x x (mark t.at sign.Minus ∷ u ∷ []) ts refl
    (s.cut ∙ ap (λ (z : List Token). z ++ s.ys) s.left.cut ∙ ap (λ (z : List Token). t ∷ z) s.right.cut ∙ ap (λ (z : Token). z ∷ u ∷ []) w.0)
    (rule.minus t.at u s.right.is)

threshold_from : (n : ℕ) (x : ThresholdTree) (ts : List Token) → ThresholdOf n x ts → ThresholdLang n x ts
threshold_from n x ts (rule.aggregate {a = a} d) = inl (record { of = a; is = refl; spelled = d })
threshold_from n x ts (rule.plain t h) = inr (inr (record { t = t; cut = refl; is = h }))
threshold_from n x ts (rule.minus at t h) = inr (inl (record {
  first = (at, tt);
  xs = mark at sign.Minus ∷ [];
  ys = t ∷ [];
  cut = refl;
  left = record { t = mark at sign.Minus; cut = refl; is = refl };
  right = record { t = t; cut = refl; is = h };
}))

measure_no_sign : {V : Type 0} (f : Sign → Option V) (negative : Bool) (at : ℕ) (k : TokenKind) (x : ThresholdTree) → measure_of negative at k ≡ Some x → is_some (on_sign f k) ≡ false
measure_no_sign f negative at (token.Mark s) x h = cc
measure_no_sign f negative at _ x h = refl

measure_no_word : {V : Type 0} (f : Word → Option V) (negative : Bool) (at : ℕ) (k : TokenKind) (x : ThresholdTree) → measure_of negative at k ≡ Some x → is_some (on_word f k) ≡ false
measure_no_word f negative at (token.Keyword w) x h = cc
measure_no_word f negative at _ x h = refl

measure_first_sign : {V : Type 0} (f : Sign → Option V) (negative : Bool) (n : ℕ) (x : ThresholdTree) (front rest : List Token) → Measure negative n x front → is_some (next_sign f (front ++ rest)) ≡ false
measure_first_sign f negative n x front rest o = test_is f (front ++ rest) rest o.t false (ap (λ (z : List Token). z ++ rest) o.cut) (measure_no_sign f negative o.t.at o.t.kind x o.is)

signed_first : (n : ℕ) (x : ThresholdTree) (front rest : List Token) → SignedLang n x front → has_aggregate (front ++ rest) ≡ false
signed_first n x front rest (inr o) = word_test_is read.aggregate_word_of (front ++ rest) rest o.t false (ap (λ (z : List Token). z ++ rest) o.cut) (measure_no_word read.aggregate_word_of false o.t.at o.t.kind x o.is)
signed_first n x front rest (inl s) =
    let t = s.left.t in
    let w = delimiter_token delimiter.Minus t s.first s.left.is in
    word_test_is read.aggregate_word_of (front ++ rest) (s.ys ++ rest) (mark t.at sign.Minus) false
    (ap (λ (z : List Token). z ++ rest) (s.cut ∙ ap (λ (z : List Token). z ++ s.ys) s.left.cut ∙ ap (λ (z : Token). z ∷ s.ys) w.0)) refl

negated_first : (n : ℕ) (x : ThresholdTree) (front rest : List Token) → Negated n x front → has_minus (front ++ rest) ≡ true
negated_first n x front rest s =
    let t = s.left.t in
    test_is (delimits delimiter.Minus) (front ++ rest) (s.ys ++ rest) t true (ap (λ (z : List Token). z ++ rest) (s.cut ∙ ap (λ (z : List Token). z ++ s.ys) s.left.cut))
    (ap (λ (o : Option (Unit {0})). is_some o) (placing_some t.at (on_sign (delimits delimiter.Minus) t.kind) s.first s.left.is))

pub aggregate_first : (n : ℕ) (a : AggregateTree) (front rest : List Token) → AggregateOf n a front → has_aggregate (front ++ rest) ≡ true
aggregate_first n a front rest d =
    let w = aggregate_begins n a front rest d in
    ap has_aggregate w.4 ∙ word_begins read.aggregate_word_of n w.0 w.1 (w.2 ++ rest) w.3

signed_keeps : Keeps r_signed
signed_keeps = same_keeps r_signed (either has_minus negated (measure false)) SignedLang signed_is
    (either_keeps has_minus (local_sign (delimits delimiter.Minus)) negated (measure false) Negated (Measure false)
    (next_keeps minus Minus (λ m. measure true) (λ m. Measure true) (sign_keeps (delimits delimiter.Minus)) (λ m. one_keeps (read.measure_at true))) (one_keeps (read.measure_at false)))

signed_sound : (n : ℕ) → IsSound r_signed SignedLang n
signed_sound n = same_sound r_signed (either has_minus negated (measure false)) SignedLang signed_is n
    (either_sound has_minus (local_sign (delimits delimiter.Minus)) negated (measure false) Negated (Measure false) n
    (next_sound minus Minus (λ m. measure true) (λ m. Measure true) n (sign_sound (delimits delimiter.Minus) n) (λ m. one_sound (read.measure_at true) n)) (one_sound (read.measure_at false) n))

signed_completes : (n : ℕ) → Completes r_signed SignedLang never n
signed_completes n = same_completes r_signed (either has_minus negated (measure false)) SignedLang signed_is never n
    (either_completes has_minus (local_sign (delimits delimiter.Minus)) negated (measure false) Negated (Measure false) never n
    (next_completes minus Minus (λ m. measure true) (λ m. Measure true) never never n (sign_completes (delimits delimiter.Minus) n) (λ m. one_completes (read.measure_at true) n) (λ m b ys rest d s. stops_never (ys ++ rest)))
    (one_completes (read.measure_at false) n)
    (λ a front rest d s. negated_first n a front rest d)
    (λ a front rest d s. measure_first_sign (delimits delimiter.Minus) false n a front rest d))

measure_occurs : (negative : Bool) → Occurs (Measure negative)
measure_occurs negative n = let t : Token = record { at = 0; kind = token.Number 0 } in (Number 0 negative 0, t ∷ [], record { t = t; cut = refl; is = refl })

signed_refuses : (n : ℕ) → IsRefusing r_signed SignedLang n
signed_refuses n = same_refuses r_signed (either has_minus negated (measure false)) SignedLang signed_is n
    (either_refuses has_minus (local_sign (delimits delimiter.Minus)) negated (measure false) Negated (Measure false) n
    (next_refuses minus Minus (λ m. measure true) (λ m. Measure true) n (one_grows (at_sign (delimits delimiter.Minus))) (λ m. measure_occurs true)
    (sign_sound (delimits delimiter.Minus) n) (sign_refuses (delimits delimiter.Minus) n) (λ m. one_refuses (read.measure_at true) n))
    (one_refuses (read.measure_at false) n))

pub threshold_keeps : Keeps r_threshold
threshold_keeps = same_keeps r_threshold (either has_aggregate (mapped Aggregate r_aggregate) r_signed) ThresholdLang threshold_is
    (either_keeps has_aggregate (local_word read.aggregate_word_of) (mapped Aggregate r_aggregate) r_signed (Image Aggregate AggregateOf) SignedLang (mapped_keeps Aggregate r_aggregate AggregateOf aggregate_keeps) signed_keeps)

pub threshold_sound : (n : ℕ) → IsSound r_threshold ThresholdOf n
threshold_sound n = relabel_sound r_threshold ThresholdLang ThresholdOf threshold_to n (same_sound r_threshold (either has_aggregate (mapped Aggregate r_aggregate) r_signed) ThresholdLang threshold_is n
    (either_sound has_aggregate (local_word read.aggregate_word_of) (mapped Aggregate r_aggregate) r_signed (Image Aggregate AggregateOf) SignedLang n (mapped_sound Aggregate r_aggregate AggregateOf n (aggregate_sound n)) (signed_sound n)))

pub threshold_completes : (n : ℕ) → Completes r_threshold ThresholdOf never n
threshold_completes n = relabel_completes r_threshold ThresholdLang ThresholdOf threshold_from never n (same_completes r_threshold (either has_aggregate (mapped Aggregate r_aggregate) r_signed) ThresholdLang threshold_is never n
    (either_completes has_aggregate (local_word read.aggregate_word_of) (mapped Aggregate r_aggregate) r_signed (Image Aggregate AggregateOf) SignedLang never n (mapped_completes Aggregate r_aggregate AggregateOf never n (aggregate_completes n)) (signed_completes n)
    (λ a front rest i s. aggregate_first n i.of front rest i.spelled) (λ a front rest d s. signed_first n a front rest d)))

pub threshold_refuses : (n : ℕ) → IsRefusing r_threshold ThresholdOf n
threshold_refuses n = relabel_refuses r_threshold ThresholdLang ThresholdOf threshold_to n (same_refuses r_threshold (either has_aggregate (mapped Aggregate r_aggregate) r_signed) ThresholdLang threshold_is n
    (either_refuses has_aggregate (local_word read.aggregate_word_of) (mapped Aggregate r_aggregate) r_signed (Image Aggregate AggregateOf) SignedLang n (mapped_refuses Aggregate r_aggregate AggregateOf n (aggregate_refuses n)) (signed_refuses n)))

pub threshold_occurs : Occurs ThresholdOf
threshold_occurs n = let t : Token = record { at = 0; kind = token.Number 0 } in (Number 0 false 0, t ∷ [], rule.plain t refl)

pub threshold_grow : (n : ℕ) (x : ThresholdTree) (ts : List Token) → ThresholdOf n x ts → ThresholdOf (suc n) x ts
threshold_grow n x ts (rule.aggregate {a = a} d) = rule.aggregate (aggregate_grows n a ts d)
threshold_grow n x ts (rule.plain t h) = rule.plain t h
threshold_grow n x ts (rule.minus at t h) = rule.minus at t h

-- A comparison.

abbrev pub compares : Reader (ℕ × Comparison)
compares n ts = expect_sign comparison_sign ts

abbrev pub Compares : Lang (ℕ × Comparison)
Compares = One (at_sign comparison_sign)

abbrev pub compare_view : AggregateTree → ℕ × Comparison → ThresholdTree → StageTree
compare_view a o b = Compare a o.0 o.1 b

abbrev pub compare_tail : AggregateTree → Reader StageTree
compare_tail a = next compares (λ o. mapped (compare_view a o) r_threshold)

abbrev pub CompareTail : AggregateTree → Lang StageTree
CompareTail a = Seq Compares (λ o. Image (compare_view a o) ThresholdOf)

abbrev pub r_compare : Reader StageTree
r_compare n ts = read.compare n ts

abbrev pub CompareLang : Lang StageTree
CompareLang = Seq AggregateOf CompareTail

pub compare_is : (n : ℕ) (ts : List Token) → r_compare n ts ≡ next r_aggregate compare_tail n ts
unfolding read.compare
compare_is n ts = refl

compare_tail_keeps : (a : AggregateTree) → Keeps (compare_tail a)
compare_tail_keeps a = next_keeps compares Compares (λ o. mapped (compare_view a o) r_threshold) (λ o. Image (compare_view a o) ThresholdOf) (sign_keeps comparison_sign) (λ o. mapped_keeps (compare_view a o) r_threshold ThresholdOf threshold_keeps)

pub compare_keeps : Keeps r_compare
compare_keeps = same_keeps r_compare (next r_aggregate compare_tail) CompareLang compare_is (next_keeps r_aggregate AggregateOf compare_tail CompareTail aggregate_keeps compare_tail_keeps)

pub compare_sound : (n : ℕ) → IsSound r_compare CompareLang n
compare_sound n = same_sound r_compare (next r_aggregate compare_tail) CompareLang compare_is n
    (next_sound r_aggregate AggregateOf compare_tail CompareTail n (aggregate_sound n) (λ a.
    next_sound compares Compares (λ o. mapped (compare_view a o) r_threshold) (λ o. Image (compare_view a o) ThresholdOf) n (sign_sound comparison_sign n) (λ o. mapped_sound (compare_view a o) r_threshold ThresholdOf n (threshold_sound n))))

pub compare_completes : (n : ℕ) → Completes r_compare CompareLang never n
compare_completes n = same_completes r_compare (next r_aggregate compare_tail) CompareLang compare_is never n
    (next_completes r_aggregate AggregateOf compare_tail CompareTail never never n (aggregate_completes n) (λ a.
    next_completes compares Compares (λ o. mapped (compare_view a o) r_threshold) (λ o. Image (compare_view a o) ThresholdOf) never never n (sign_completes comparison_sign n) (λ o. mapped_completes (compare_view a o) r_threshold ThresholdOf never n (threshold_completes n)) (λ o b ys rest d s. stops_never (ys ++ rest)))
    (λ a b ys rest d s. stops_never (ys ++ rest)))

compares_occurs : Occurs Compares
compares_occurs n = ((0, comparison.Equal), mark 0 sign.Equal ∷ [], record { t = mark 0 sign.Equal; cut = refl; is = refl })

pub compare_tail_occurs : (a : AggregateTree) → Occurs (CompareTail a)
compare_tail_occurs a = next_occurs compares Compares (λ o. mapped (compare_view a o) r_threshold) (λ o. Image (compare_view a o) ThresholdOf) compares_occurs (λ o. mapped_occurs (compare_view a o) r_threshold ThresholdOf threshold_occurs)

pub compare_refuses : (n : ℕ) → IsRefusing r_compare CompareLang n
compare_refuses n = same_refuses r_compare (next r_aggregate compare_tail) CompareLang compare_is n
    (next_refuses r_aggregate AggregateOf compare_tail CompareTail n aggregate_grows compare_tail_occurs (aggregate_sound n) (aggregate_refuses n) (λ a.
    next_refuses compares Compares (λ o. mapped (compare_view a o) r_threshold) (λ o. Image (compare_view a o) ThresholdOf) n (one_grows (at_sign comparison_sign)) (λ o. mapped_occurs (compare_view a o) r_threshold ThresholdOf threshold_occurs)
    (sign_sound comparison_sign n) (sign_refuses comparison_sign n) (λ o. mapped_refuses (compare_view a o) r_threshold ThresholdOf n (threshold_refuses n))))

-- Fields.

abbrev pub one_field : Reader Field
one_field n ts = expect read.field_at ts

abbrev pub OneField : Lang Field
OneField = One read.field_at

abbrev pub field_side : ℕ × Unit {0} → Reader Field
field_side o = one_field

abbrev pub FieldSide : ℕ × Unit {0} → Lang Field
FieldSide o = OneField

abbrev pub fields_more : List Field → Reader (List Field)
fields_more = tailing (delimits delimiter.Comma) field_side FieldSide read.snoc

abbrev pub FieldsMore : List Field → Lang (List Field)
FieldsMore = Tailing (delimits delimiter.Comma) field_side FieldSide read.snoc

abbrev pub fields_tail : Field → Reader (List Field)
fields_tail f = fields_more (f ∷ [])

abbrev pub FieldsTail : Field → Lang (List Field)
FieldsTail f = FieldsMore (f ∷ [])

abbrev pub r_fields : Reader (List Field)
r_fields n ts = read.fields ts

abbrev pub FieldsLang : Lang (List Field)
FieldsLang = Seq OneField FieldsTail

abbrev pub FieldsOf : Lang (List Field)
FieldsOf n fs ts = SpellsFields fs ts

pub fields_is : (n : ℕ) (ts : List Token) → r_fields n ts ≡ next one_field fields_tail n ts
unfolding read.fields read.more_fields read.comma_field
fields_is n ts = refl

abbrev pub comma_item : Reader Field
comma_item = one_item (delimits delimiter.Comma) field_side FieldSide read.snoc

abbrev pub CommaItem : Lang Field
CommaItem = ItemLang (delimits delimiter.Comma) field_side FieldSide read.snoc

fields_sides_keep : (o : ℕ × Unit {0}) → Keeps (field_side o)
fields_sides_keep o = one_keeps read.field_at

pub comma_item_shrinks : (n : ℕ) (ts : List Token) (x : Field × List Token) → comma_item n ts ≡ Ok x → length x.1 < length ts
comma_item_shrinks n ts x e = item_shrinks (delimits delimiter.Comma) field_side FieldSide read.snoc fields_sides_keep n ts x e

recast_fields : (a b : List Field) (ts us : List Token) → b ≡ a → us ≡ ts → SpellsFields a ts → SpellsFields b us
recast_fields a b ts us e k d = subst (λ (z : List Field). SpellsFields z us) (sym e) (subst (λ (z : List Token). SpellsFields a z) (sym k) d)

fields_on : (n : ℕ) (a d : List Field) (xs ys : List Token) → SpellsFields a xs → FieldsMore a n d ys → SpellsFields d (xs ++ ys)
fields_on n a d xs ys h done = recast_fields a a xs (xs ++ []) refl (append-nil xs) h
fields_on n a d xs ys h (turn {b = b} {ys = us} {zs = vs} e m more) =
    let t = m.left.t in
    let u = m.right.t in
    let w = delimiter_token delimiter.Comma t m.first m.left.is in
    let cut : us ≡ mark t.at sign.Comma ∷ u ∷ [] = m.cut ∙ ap (λ (z : List Token). z ++ m.ys) m.left.cut ∙ ap (λ (z : List Token). t ∷ z) m.right.cut ∙ ap (λ (z : Token). z ∷ u ∷ []) w.0 in
    recast_fields d d ((xs ++ (mark t.at sign.Comma ∷ u ∷ [])) ++ vs) (xs ++ ys) refl
    (ap (λ (z : List Token). xs ++ z) (e ∙ ap (λ (z : List Token). z ++ vs) cut) ∙ sym (append_assoc xs (mark t.at sign.Comma ∷ u ∷ []) vs))
    (fields_on n (read.snoc a b) d (xs ++ (mark t.at sign.Comma ∷ u ∷ [])) vs (rule.more t.at u h m.right.is) more)

fields_to : (n : ℕ) (a : List Field) (ts : List Token) → FieldsLang n a ts → FieldsOf n a ts
fields_to n a ts s = recast_fields a a (s.xs ++ s.ys) ts refl s.cut (fields_on n (s.first ∷ []) a s.xs s.ys (recast_fields (s.first ∷ []) (s.first ∷ []) (s.left.t ∷ []) s.xs refl s.left.cut (rule.only s.left.t s.left.is)) s.right)

fields_snoc : (n : ℕ) (a d : List Field) (b : Field) (ys zs : List Token) → FieldsMore a n d ys → CommaItem n b zs → FieldsMore a n (read.snoc d b) (ys ++ zs)
fields_snoc n a d b ys zs done m = turn (sym (append-nil zs)) m done
fields_snoc n a d b ys zs (turn {b = c} {ys = us} {zs = vs} e k more) m =
    turn (ap (λ (z : List Token). z ++ zs) e ∙ append_assoc us vs zs) k (fields_snoc n (read.snoc a c) d b vs zs more m)

fields_from : (n : ℕ) (a : List Field) (ts : List Token) → FieldsOf n a ts → FieldsLang n a ts
fields_from n a ts (rule.only {x = x} t h) = record { first = x; xs = t ∷ []; ys = []; cut = refl; left = record { t = t; cut = refl; is = h }; right = done }
fields_from n a ts (rule.more {x = x} {fs = fs} {ts = xs} at t d h) =
    let front = fields_from n fs xs d in
    let m : CommaItem n x (mark at sign.Comma ∷ t ∷ []) = record {
      first = (at, tt);
      xs = mark at sign.Comma ∷ [];
      ys = t ∷ [];
      cut = refl;
      left = record { t = mark at sign.Comma; cut = refl; is = refl };
      right = record { t = t; cut = refl; is = h };
    } in
    record {
      first = front.first;
      xs = front.xs;
      ys = front.ys ++ (mark at sign.Comma ∷ t ∷ []);
      cut = ap (λ (z : List Token). z ++ (mark at sign.Comma ∷ t ∷ [])) front.cut ∙ append_assoc front.xs front.ys (mark at sign.Comma ∷ t ∷ []);
      left = front.left;
      right = fields_snoc n (front.first ∷ []) fs x front.ys (mark at sign.Comma ∷ t ∷ []) front.right m;
    }

abbrev pub comma : Sign → Bool
comma s = false || is_some (delimits delimiter.Comma s)

comma_apart : (s : Sign) → (is_some (delimits delimiter.Comma s) && false) ≡ false
comma_apart sign.Comma = refl
comma_apart _ = refl

comma_follows : Follows (on_mark (λ s. false)) (delimits delimiter.Comma) (on_mark comma)
comma_follows = follows (λ s. false) (delimits delimiter.Comma) comma_apart

comma_sound : (n : ℕ) → IsSound comma_item CommaItem n
comma_sound n = next_sound (λ m us. expect_sign (delimits delimiter.Comma) us) (One (at_sign (delimits delimiter.Comma))) field_side FieldSide n (sign_sound (delimits delimiter.Comma) n) (λ o. one_sound read.field_at n)

pub fields_keeps : Keeps r_fields
fields_keeps = same_keeps r_fields (next one_field fields_tail) FieldsLang fields_is
    (next_keeps one_field OneField fields_tail FieldsTail (one_keeps read.field_at) (λ f. tail_keeps (delimits delimiter.Comma) field_side FieldSide read.snoc fields_sides_keep (f ∷ [])))

pub fields_sound : (n : ℕ) → IsSound r_fields FieldsOf n
fields_sound n = relabel_sound r_fields FieldsLang FieldsOf fields_to n (same_sound r_fields (next one_field fields_tail) FieldsLang fields_is n
    (next_sound one_field OneField fields_tail FieldsTail n (one_sound read.field_at n) (λ f. tail_sound (delimits delimiter.Comma) field_side FieldSide read.snoc fields_sides_keep n (comma_sound n) (f ∷ []))))

pub never_goes : {A : Type 0} (r : Reader A) (L : Lang A) (g : TokenKind → Bool) (n : ℕ) → Completes r L never n → Completes r L g n
never_goes r L g n c a front rest d stop = c a front rest d (stops_never rest)

pub fields_completes : (n : ℕ) → Completes r_fields FieldsOf (on_mark comma) n
fields_completes n = relabel_completes r_fields FieldsLang FieldsOf fields_from (on_mark comma) n (same_completes r_fields (next one_field fields_tail) FieldsLang fields_is (on_mark comma) n
    (next_completes one_field OneField fields_tail FieldsTail never (on_mark comma) n (one_completes read.field_at n)
    (λ f d ys rest t s. tail_completes (delimits delimiter.Comma) field_side FieldSide read.snoc (on_mark (λ s. false)) (on_mark comma) comma_follows fields_sides_keep n
    (never_goes comma_item CommaItem (on_mark (λ s. false)) n (next_completes (λ m us. expect_sign (delimits delimiter.Comma) us) (One (at_sign (delimits delimiter.Comma))) field_side FieldSide never never n (sign_completes (delimits delimiter.Comma) n) (λ o. one_completes read.field_at n) (λ o b zs after k h. stops_never (zs ++ after))))
    (f ∷ []) d ys rest t s)
    (λ f d ys rest t s. stops_never (ys ++ rest))))

field_occurs : Occurs OneField
field_occurs n = let t : Token = record { at = 0; kind = token.Builtin intrinsic.Name } in (field_kind.Intrinsic intrinsic.Name, t ∷ [], record { t = t; cut = refl; is = refl })

pub fields_refuses : (n : ℕ) → IsRefusing r_fields FieldsOf n
fields_refuses n = relabel_refuses r_fields FieldsLang FieldsOf fields_to n (same_refuses r_fields (next one_field fields_tail) FieldsLang fields_is n
    (next_refuses one_field OneField fields_tail FieldsTail n (one_grows read.field_at) (λ f. tail_occurs (delimits delimiter.Comma) field_side FieldSide read.snoc (f ∷ [])) (one_sound read.field_at n) (one_refuses read.field_at n)
    (λ f. tail_refuses (delimits delimiter.Comma) field_side FieldSide read.snoc fields_sides_keep
    (next_grows (λ m us. expect_sign (delimits delimiter.Comma) us) (One (at_sign (delimits delimiter.Comma))) field_side FieldSide (one_grows (at_sign (delimits delimiter.Comma))) (λ o. one_grows read.field_at)) n (comma_sound n)
    (next_refuses (λ m us. expect_sign (delimits delimiter.Comma) us) (One (at_sign (delimits delimiter.Comma))) field_side FieldSide n (one_grows (at_sign (delimits delimiter.Comma))) (λ o. field_occurs)
    (sign_sound (delimits delimiter.Comma) n) (sign_refuses (delimits delimiter.Comma) n) (λ o. one_refuses read.field_at n)) (f ∷ []))))

pub fields_occurs : Occurs FieldsOf
fields_occurs n = let o = field_occurs n in (o.0 ∷ [], o.2.t ∷ [], rule.only o.2.t o.2.is)

-- Stages.

abbrev pub coalesce_word : Word → Option (Unit {0})
coalesce_word word.Coalesce = Some tt
coalesce_word _ = None

abbrev pub select_word : Word → Option (Unit {0})
select_word word.Select = Some tt
select_word _ = None

abbrev pub is_by : List Token → Bool
is_by ts = is_some (next_word by_word ts)

abbrev pub is_coalesce : List Token → Bool
is_coalesce ts = is_some (next_word coalesce_word ts)

abbrev pub is_select : List Token → Bool
is_select ts = is_some (next_word select_word ts)

abbrev pub is_brace : List Token → Bool
is_brace ts = is_some (next_sign (delimits delimiter.OpenBrace) ts)

abbrev pub r_by : Reader StageTree
r_by = next (λ m us. expect_word by_word us) (λ w. mapped By (parens_of r_whole))

abbrev pub ByLang : Lang StageTree
ByLang = Seq (One (at_word by_word)) (λ w. Image By (Enclosed (Of Whole_expression)))

abbrev pub coalesced : Unit {0} → StageTree
coalesced x = Coalesce

abbrev pub r_coalesce : Reader StageTree
r_coalesce = next (λ m us. expect_word coalesce_word us) (λ w. mapped coalesced (parens_of r_nothing))

abbrev pub CoalesceLang : Lang StageTree
CoalesceLang = Seq (One (at_word coalesce_word)) (λ w. Image coalesced (Enclosed Nothing))

abbrev pub r_select : Reader StageTree
r_select = next (λ m us. expect_word select_word us) (λ w. mapped Select (parens_of r_fields))

abbrev pub SelectLang : Lang StageTree
SelectLang = Seq (One (at_word select_word)) (λ w. Image Select (Enclosed FieldsOf))

abbrev pub keep_view : ℕ × Option Placed → StageTree
keep_view c = Keep c.0 c.1

abbrev pub r_keep : Reader StageTree
r_keep = mapped keep_view (shifted r_braces)

abbrev pub KeepLang : Lang StageTree
KeepLang = Image keep_view (Shifted Braced)

abbrev pub r_select_on : Reader StageTree
r_select_on = either is_select r_select r_compare

abbrev pub SelectOn : Lang StageTree
SelectOn = Either SelectLang CompareLang

abbrev pub r_coalesce_on : Reader StageTree
r_coalesce_on = either is_coalesce r_coalesce r_select_on

abbrev pub CoalesceOn : Lang StageTree
CoalesceOn = Either CoalesceLang SelectOn

abbrev pub r_by_on : Reader StageTree
r_by_on = either is_by r_by r_coalesce_on

abbrev pub ByOn : Lang StageTree
ByOn = Either ByLang CoalesceOn

abbrev pub StageLang : Lang StageTree
StageLang = Either KeepLang ByOn

abbrev pub r_stage : Reader StageTree
r_stage n ts = read.stage n ts

abbrev pub StageOf : Lang StageTree
StageOf n s ts = SpellsStage (suc n) s ts

stage_at : (n at : ℕ) (k : TokenKind) (us : List Token) → r_stage n (record { at = at; kind = k } ∷ us) ≡ either is_brace r_keep r_by_on n (record { at = at; kind = k } ∷ us)
unfolding read.stage
stage_at n at (token.Keyword word.By) us = refl
stage_at n at (token.Keyword word.Coalesce) us = refl
stage_at n at (token.Keyword word.Select) us = refl
stage_at n at (token.Keyword _) us = refl
stage_at n at (token.Mark sign.OpenBrace) us = refl
stage_at n at (token.Mark _) us = refl
stage_at n at _ us = refl

pub stage_is : (n : ℕ) (ts : List Token) → r_stage n ts ≡ either is_brace r_keep r_by_on n ts
unfolding read.stage
stage_is n [] = refl
stage_is n (t ∷ us) = stage_at n t.at t.kind us

recast_stage : (n : ℕ) (a b : StageTree) (ts us : List Token) → b ≡ a → us ≡ ts → SpellsStage n a ts → SpellsStage n b us
recast_stage n a b ts us e k d = subst (λ (z : StageTree). SpellsStage n z us) (sym e) (subst (λ (z : List Token). SpellsStage n a z) (sym k) d)

pub only_by : (w : Word) → by_word w ≡ Some tt → w ≡ word.By
only_by word.By h = refl
only_by _ h = cc

only_coalesce : (w : Word) → coalesce_word w ≡ Some tt → w ≡ word.Coalesce
only_coalesce word.Coalesce h = refl
only_coalesce _ h = cc

only_select : (w : Word) → select_word w ≡ Some tt → w ≡ word.Select
only_select word.Select h = refl
only_select _ h = cc

pub stage_to : (n : ℕ) (a : StageTree) (ts : List Token) → StageLang n a ts → StageOf n a ts
stage_to n a ts (inl i) = recast_stage (suc n) (Keep i.of.0 i.of.1) a (in_braces i.of.0 i.spelled.xs i.spelled.closed) ts i.is i.spelled.cut (rule.keep i.of.0 i.spelled.closed i.spelled.inside)
stage_to n a ts (inr (inl s)) =
    let t = s.left.t in
    let w = word_token by_word t s.first s.left.is in
    let e = s.right.spelled in
    recast_stage (suc n) (By s.right.of) a (keyword t.at word.By ∷ in_parens e.opened e.xs e.closed) ts s.right.is
    (s.cut ∙ ap (λ (z : List Token). z ++ s.ys) s.left.cut ∙ ap (λ (z : Token). z ∷ s.ys) (w.1 ∙ ap (keyword t.at) (only_by w.0 w.2)) ∙ ap (λ (z : List Token). keyword t.at word.By ∷ z) e.cut)
    (rule.by t.at e.opened e.closed e.within)
stage_to n a ts (inr (inr (inl s))) =
    let t = s.left.t in
    let w = word_token coalesce_word t s.first s.left.is in
    let e = s.right.spelled in
    recast_stage (suc n) Coalesce a (keyword t.at word.Coalesce ∷ in_parens e.opened [] e.closed) ts s.right.is
    (s.cut ∙ ap (λ (z : List Token). z ++ s.ys) s.left.cut ∙ ap (λ (z : Token). z ∷ s.ys) (w.1 ∙ ap (keyword t.at) (only_coalesce w.0 w.2)) ∙ ap (λ (z : List Token). keyword t.at word.Coalesce ∷ z) (e.cut ∙ ap (λ (z : List Token). in_parens e.opened z e.closed) e.within.1))
    (rule.coalesce t.at e.opened e.closed)
stage_to n a ts (inr (inr (inr (inl s)))) =
    let t = s.left.t in
    let w = word_token select_word t s.first s.left.is in
    let e = s.right.spelled in
    recast_stage (suc n) (Select s.right.of) a (keyword t.at word.Select ∷ in_parens e.opened e.xs e.closed) ts s.right.is
    (s.cut ∙ ap (λ (z : List Token). z ++ s.ys) s.left.cut ∙ ap (λ (z : Token). z ∷ s.ys) (w.1 ∙ ap (keyword t.at) (only_select w.0 w.2)) ∙ ap (λ (z : List Token). keyword t.at word.Select ∷ z) e.cut)
    (rule.select t.at e.opened e.closed e.within)
stage_to n a ts (inr (inr (inr (inr s)))) =
    let k = s.right in
    let t = k.left.t in
    let w = marked_token comparison_sign t k.first k.left.is in
    recast_stage (suc n) (Compare s.first t.at k.first.1 k.right.of) a (s.xs ++ (mark t.at w.0 ∷ k.ys)) ts
    (k.right.is ∙ ap (λ (z : ℕ). Compare s.first z k.first.1 k.right.of) w.3)
    (s.cut ∙ ap (λ (z : List Token). s.xs ++ z) (k.cut ∙ ap (λ (z : List Token). z ++ k.ys) k.left.cut ∙ ap (λ (z : Token). z ∷ k.ys) w.1))
    (rule.compare t.at w.0 w.2 s.left k.right.spelled)

pub stage_from : (n : ℕ) (a : StageTree) (ts : List Token) → StageOf n a ts → StageLang n a ts
stage_from n a ts (rule.keep {c = c} {ts = xs} opened closed d) = inl (record { of = (opened, c); is = refl; spelled = record { xs = xs; closed = closed; inside = d; cut = refl } })
stage_from n a ts (rule.by {e = e} {ts = xs} at opened closed d) = inr (inl (record {
  first = (at, tt);
  xs = keyword at word.By ∷ [];
  ys = in_parens opened xs closed;
  cut = refl;
  left = record { t = keyword at word.By; cut = refl; is = refl };
  right = record { of = e; is = refl; spelled = record { opened = opened; closed = closed; xs = xs; within = d; cut = refl } };
}))
stage_from n a ts (rule.coalesce at opened closed) = inr (inr (inl (record {
  first = (at, tt);
  xs = keyword at word.Coalesce ∷ [];
  ys = in_parens opened [] closed;
  cut = refl;
  left = record { t = keyword at word.Coalesce; cut = refl; is = refl };
  right = record { of = tt; is = refl; spelled = record { opened = opened; closed = closed; xs = []; within = (refl, refl); cut = refl } };
})))
stage_from n a ts (rule.select {fs = fs} {ts = xs} at opened closed d) = inr (inr (inr (inl (record {
  first = (at, tt);
  xs = keyword at word.Select ∷ [];
  ys = in_parens opened xs closed;
  cut = refl;
  left = record { t = keyword at word.Select; cut = refl; is = refl };
  right = record { of = fs; is = refl; spelled = record { opened = opened; closed = closed; xs = xs; within = d; cut = refl } };
}))))
stage_from n a ts (rule.compare {op = op} {a = x} {b = y} {xs = xs} {ys = ys} at s h d e) = inr (inr (inr (inr (record {
  first = x;
  xs = xs;
  ys = mark at s ∷ ys;
  cut = refl;
  left = d;
  right = record {
    first = (at, op);
    xs = mark at s ∷ [];
    ys = ys;
    cut = refl;
    left = record { t = mark at s; cut = refl; is = ap (placing at) h };
    right = record { of = y; is = refl; spelled = e };
  };
}))))
