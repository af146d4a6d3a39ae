-- The laws of the readers of stages and queries.
use Rattle.std.proofs.Common.{◌≡◌, ℕ, suc, ◌<◌, Bool, true, false, ◌&&◌, ◌||◌, List, [], ◌∷◌, ◌++◌, length, Option, Some, None, is_some, Ok, inl, inr, refl, sym, ◌∙◌, ap, subst, append_assoc, append-nil}
use Rattle.traceql_tokens.specs.declared.fixed.Sign.{Sign}
use Rattle.traceql_tokens.specs.declared.fixed.Sign.TheVariants as sign
use Rattle.traceql_tokens.specs.declared.kinds.Token.{Token}
use Rattle.traceql_tokens.specs.declared.kinds.TokenKind.{TokenKind}
use Rattle.traceql_tokens.specs.declared.kinds.TokenKind.TheVariants as token
use Rattle.traceql_syntax.specs.Grammar.{mark, keyword, in_parens, in_braces, Whole_expression, SpellsCondition, SpellsAggregate, SpellsThreshold, SpellsFields, SpellsStage, SpellsQuery}
use Rattle.traceql_syntax.specs.Grammar as rule
use Rattle.traceql_tokens.specs.declared.fixed.Word.{Word}
use Rattle.traceql_tokens.specs.declared.fixed.Word.TheVariants as word
use Rattle.traceql_syntax.specs.declared.query.SpansetLevel.TheVariants as set_level
use Rattle.traceql_syntax.specs.Trees.{Placed, SetTree, StageTree, Keep, By, Select, QueryTree}
use Rattle.traceql_parse.specs.declared.lookahead.Delimiter.TheVariants as delimiter
use Rattle.traceql_parse.specs.declared.lookahead.AggregateWord.{AggregateWord}
use Rattle.traceql_parse.specs.Descent as read
use Rattle.traceql_parse.specs.Descent.{by_word}
use Rattle.traceql_parse.specs.Reading.{next_sign, next_word, delimits, expect_sign, expect_word}
use Rattle.traceql_parse.proofs.Laws.{Reader, Lang, IsSound, Keeps, Completes, Grows, Occurs, IsRefusing, Seq, next, next_keeps, next_sound, next_completes, next_grows, next_refuses}
use Rattle.traceql_parse.proofs.Base.{never, One, at_sign, one_grows, at_word, sign_sound, sign_completes, sign_refuses, word_keeps, word_sound, word_completes, word_refuses, same_keeps, same_sound, same_completes, same_refuses, Image, mapped, mapped_keeps, mapped_sound, mapped_completes, mapped_occurs, mapped_refuses}
use Rattle.traceql_parse.proofs.Choices.{local_sign, local_word, either, either_keeps, either_sound, either_completes, either_refuses, stops_never}
use Rattle.traceql_parse.proofs.Group.{pure_keeps, pure_sound, pure_completes, pure_refuses, done, turn, tailing, Tailing, one_item, ItemLang, tail_sound, tail_completes, tail_stops, tail_occurs, tail_refuses, item_shrinks}
use Rattle.traceql_parse.proofs.Relabel.{relabel_sound, relabel_completes, relabel_refuses}
use Rattle.traceql_parse.proofs.Signs.{delimiter_token, on_mark, follows}
use Rattle.traceql_parse.proofs.Group.{Follows}
use Rattle.traceql_parse.proofs.Fields.{r_whole, Of, spells_grow, occurs_whole}
use Rattle.traceql_parse.proofs.FieldLaws.{whole_keeps}
use Rattle.traceql_parse.proofs.FieldRefusals.{whole_goes, test_is, whole_completes, whole_refuses, whole_sound}
use Rattle.traceql_parse.proofs.Braces.{r_braces, Braced, braces_keeps, braces_sound, braces_completes, braces_refuses, braces_begin}
use Rattle.traceql_parse.proofs.SetLaws.{r_all, OfSet, All, all_goes, set_goes, all_sound, all_completes, all_refuses, sets_grow, occurs_all}
use Rattle.traceql_parse.proofs.Group.{Follows, item_shrinks}
use Rattle.traceql_parse.proofs.Aggregates.{shifted, Shifted, shifted_sound, shifted_refuses, parens_of, Enclosed, enclosed_keeps, enclosed_sound, enclosed_completes, enclosed_refuses, enclosed_occurs, word_begins, other_word, word_no_sign, r_nothing, Nothing, aggregate_grows, aggregate_begins}
use Rattle.traceql_parse.proofs.StageLaws.{threshold_grow, r_compare, CompareLang, compare_keeps, compare_sound, compare_completes, compare_refuses, comma, r_fields, FieldsOf, fields_keeps, fields_sound, fields_completes, fields_refuses, fields_occurs, never_goes, coalesce_word, select_word, is_by, is_coalesce, is_select, is_brace, r_by, ByLang, coalesced, r_coalesce, CoalesceLang, r_select, SelectLang, keep_view, r_keep, KeepLang, r_select_on, SelectOn, r_coalesce_on, CoalesceOn, r_by_on, ByOn, StageLang, r_stage, StageOf, stage_is, stage_to, stage_from}

-- The stages that begin with a word of their own.

module _ {V A B : Type 0} (f : Word → Option V) (view : A → B) (p : Reader A) (P : Lang A) where
  abbrev pub worded : Reader B
  worded = next (λ m us. expect_word f us) (λ w. mapped view (parens_of p))

  abbrev pub Worded : Lang B
  Worded = Seq (One (at_word f)) (λ w. Image view (Enclosed P))

  worded_keeps : Keeps p → Keeps worded
  worded_keeps k = next_keeps (λ m us. expect_word f us) (One (at_word f)) (λ w. mapped view (parens_of p)) (λ w. Image view (Enclosed P)) (word_keeps f) (λ w. mapped_keeps view (parens_of p) (Enclosed P) (enclosed_keeps p P k))

  pub worded_sound : (n : ℕ) → IsSound p P n → IsSound worded Worded n
  worded_sound n s = next_sound (λ m us. expect_word f us) (One (at_word f)) (λ w. mapped view (parens_of p)) (λ w. Image view (Enclosed P)) n (word_sound f n) (λ w. mapped_sound view (parens_of p) (Enclosed P) n (enclosed_sound p P n s))

  pub worded_completes : (g : TokenKind → Bool) → g (token.Mark sign.CloseParen) ≡ false → (n : ℕ) → Completes p P g n → Completes worded Worded never n
  worded_completes g h n c = next_completes (λ m us. expect_word f us) (One (at_word f)) (λ w. mapped view (parens_of p)) (λ w. Image view (Enclosed P)) never never n (word_completes f n)
      (λ w. mapped_completes view (parens_of p) (Enclosed P) never n (enclosed_completes p P g h n c)) (λ w b ys rest d s. stops_never (ys ++ rest))

  pub worded_refuses : (n : ℕ) → Grows P → Occurs P → IsSound p P n → IsRefusing p P n → IsRefusing worded Worded n
  worded_refuses n gp op sp rp = next_refuses (λ m us. expect_word f us) (One (at_word f)) (λ w. mapped view (parens_of p)) (λ w. Image view (Enclosed P)) n (one_grows (at_word f))
      (λ w. mapped_occurs view (parens_of p) (Enclosed P) (enclosed_occurs p P op)) (word_sound f n) (word_refuses f n) (λ w. mapped_refuses view (parens_of p) (Enclosed P) n (enclosed_refuses p P n gp op sp rp))

  pub worded_begins : (n : ℕ) (b : B) (front rest : List Token) → Worded n b front → is_some (next_word f (front ++ rest)) ≡ true
  worded_begins n b front rest s =
      ap (λ (z : List Token). is_some (next_word f z)) (ap (λ (z : List Token). z ++ rest) s.cut ∙ append_assoc s.xs s.ys rest) ∙ word_begins f n s.first s.xs (s.ys ++ rest) s.left

  worded_other : {W : Type 0} (g : Word → Option W) → ((w : Word) (v : V) → f w ≡ Some v → is_some (g w) ≡ false) → (n : ℕ) (b : B) (front rest : List Token) → Worded n b front → is_some (next_word g (front ++ rest)) ≡ false
  worded_other g apart n b front rest s =
      ap (λ (z : List Token). is_some (next_word g z)) (ap (λ (z : List Token). z ++ rest) s.cut ∙ append_assoc s.xs s.ys rest) ∙ other_word f g apart n s.first s.xs (s.ys ++ rest) s.left

  worded_no_sign : {W : Type 0} (g : Sign → Option W) (n : ℕ) (b : B) (front rest : List Token) → Worded n b front → is_some (next_sign g (front ++ rest)) ≡ false
  worded_no_sign g n b front rest s =
      ap (λ (z : List Token). is_some (next_sign g z)) (ap (λ (z : List Token). z ++ rest) s.cut ∙ append_assoc s.xs s.ys rest) ∙ word_no_sign f g n s.first s.xs (s.ys ++ rest) s.left

compare_other : {W : Type 0} (g : Word → Option W) → ((w : Word) (v : AggregateWord) → read.aggregate_word_of w ≡ Some v → is_some (g w) ≡ false) → (n : ℕ) (b : StageTree) (front rest : List Token) → CompareLang n b front → is_some (next_word g (front ++ rest)) ≡ false
compare_other g apart n b front rest s =
    let w = aggregate_begins n s.first s.xs (s.ys ++ rest) s.left in
    ap (λ (z : List Token). is_some (next_word g z)) (ap (λ (z : List Token). z ++ rest) s.cut ∙ append_assoc s.xs s.ys rest ∙ w.4) ∙ other_word read.aggregate_word_of g apart n w.0 w.1 (w.2 ++ (s.ys ++ rest)) w.3

compare_no_sign : {W : Type 0} (g : Sign → Option W) (n : ℕ) (b : StageTree) (front rest : List Token) → CompareLang n b front → is_some (next_sign g (front ++ rest)) ≡ false
compare_no_sign g n b front rest s =
    let w = aggregate_begins n s.first s.xs (s.ys ++ rest) s.left in
    ap (λ (z : List Token). is_some (next_sign g z)) (ap (λ (z : List Token). z ++ rest) s.cut ∙ append_assoc s.xs s.ys rest ∙ w.4) ∙ word_no_sign read.aggregate_word_of g n w.0 w.1 (w.2 ++ (s.ys ++ rest)) w.3

by_no_aggregate : (w : Word) (v : AggregateWord) → read.aggregate_word_of w ≡ Some v → is_some (by_word w) ≡ false
by_no_aggregate word.By v h = cc
by_no_aggregate _ v h = refl

coalesce_no_aggregate : (w : Word) (v : AggregateWord) → read.aggregate_word_of w ≡ Some v → is_some (coalesce_word w) ≡ false
coalesce_no_aggregate word.Coalesce v h = cc
coalesce_no_aggregate _ v h = refl

select_no_aggregate : (w : Word) (v : AggregateWord) → read.aggregate_word_of w ≡ Some v → is_some (select_word w) ≡ false
select_no_aggregate word.Select v h = cc
select_no_aggregate _ v h = refl

by_no_coalesce : (w : Word) (v : Unit {0}) → coalesce_word w ≡ Some v → is_some (by_word w) ≡ false
by_no_coalesce word.By v h = cc
by_no_coalesce _ v h = refl

by_no_select : (w : Word) (v : Unit {0}) → select_word w ≡ Some v → is_some (by_word w) ≡ false
by_no_select word.By v h = cc
by_no_select _ v h = refl

coalesce_no_select : (w : Word) (v : Unit {0}) → select_word w ≡ Some v → is_some (coalesce_word w) ≡ false
coalesce_no_select word.Coalesce v h = cc
coalesce_no_select _ v h = refl

select_on_other : {W : Type 0} (g : Word → Option W) → ((w : Word) (v : Unit {0}) → select_word w ≡ Some v → is_some (g w) ≡ false) → ((w : Word) (v : AggregateWord) → read.aggregate_word_of w ≡ Some v → is_some (g w) ≡ false) → (n : ℕ) (a : StageTree) (front rest : List Token) → SelectOn n a front → is_some (next_word g (front ++ rest)) ≡ false
select_on_other g h k n a front rest (inl s) = worded_other select_word Select r_fields FieldsOf g h n a front rest s
select_on_other g h k n a front rest (inr s) = compare_other g k n a front rest s

coalesce_on_by : (n : ℕ) (a : StageTree) (front rest : List Token) → CoalesceOn n a front → is_by (front ++ rest) ≡ false
coalesce_on_by n a front rest (inl s) = worded_other coalesce_word coalesced r_nothing Nothing by_word by_no_coalesce n a front rest s
coalesce_on_by n a front rest (inr s) = select_on_other by_word by_no_select by_no_aggregate n a front rest s

by_on_brace : (n : ℕ) (a : StageTree) (front rest : List Token) → ByOn n a front → is_brace (front ++ rest) ≡ false
by_on_brace n a front rest (inl s) = worded_no_sign by_word By r_whole (Of Whole_expression) (delimits delimiter.OpenBrace) n a front rest s
by_on_brace n a front rest (inr (inl s)) = worded_no_sign coalesce_word coalesced r_nothing Nothing (delimits delimiter.OpenBrace) n a front rest s
by_on_brace n a front rest (inr (inr (inl s))) = worded_no_sign select_word Select r_fields FieldsOf (delimits delimiter.OpenBrace) n a front rest s
by_on_brace n a front rest (inr (inr (inr s))) = compare_no_sign (delimits delimiter.OpenBrace) n a front rest s

keep_begins : (n : ℕ) (a : StageTree) (front rest : List Token) → KeepLang n a front → is_brace (front ++ rest) ≡ true
keep_begins n a front rest i =
    let w = braces_begin (suc n) i.of front rest i.spelled in
    test_is (delimits delimiter.OpenBrace) (front ++ rest) w.0 (mark i.of.0 sign.OpenBrace) true w.1 refl

pub nothing_occurs : Occurs Nothing
nothing_occurs n = (tt, [], (refl, refl))

-- Stages.

pub stage_keeps : Keeps r_stage
stage_keeps = same_keeps r_stage (either is_brace r_keep r_by_on) StageLang stage_is
    (either_keeps is_brace (local_sign (delimits delimiter.OpenBrace)) r_keep r_by_on KeepLang ByOn
    (mapped_keeps keep_view (shifted r_braces) (Shifted Braced) (λ n ts x e. braces_keeps (suc n) ts x e))
    (either_keeps is_by (local_word by_word) r_by r_coalesce_on ByLang CoalesceOn (worded_keeps by_word By r_whole (Of Whole_expression) whole_keeps)
    (either_keeps is_coalesce (local_word coalesce_word) r_coalesce r_select_on CoalesceLang SelectOn (worded_keeps coalesce_word coalesced r_nothing Nothing (pure_keeps tt))
    (either_keeps is_select (local_word select_word) r_select r_compare SelectLang CompareLang (worded_keeps select_word Select r_fields FieldsOf fields_keeps) compare_keeps))))

pub stage_sound : (n : ℕ) → IsSound r_stage StageOf n
stage_sound n = relabel_sound r_stage StageLang StageOf stage_to n (same_sound r_stage (either is_brace r_keep r_by_on) StageLang stage_is n
    (either_sound is_brace (local_sign (delimits delimiter.OpenBrace)) r_keep r_by_on KeepLang ByOn n
    (mapped_sound keep_view (shifted r_braces) (Shifted Braced) n (shifted_sound r_braces Braced n (braces_sound (suc n))))
    (either_sound is_by (local_word by_word) r_by r_coalesce_on ByLang CoalesceOn n (worded_sound by_word By r_whole (Of Whole_expression) n (whole_sound n))
    (either_sound is_coalesce (local_word coalesce_word) r_coalesce r_select_on CoalesceLang SelectOn n (worded_sound coalesce_word coalesced r_nothing Nothing n (pure_sound tt n))
    (either_sound is_select (local_word select_word) r_select r_compare SelectLang CompareLang n (worded_sound select_word Select r_fields FieldsOf n (fields_sound n)) (compare_sound n))))))

pub stage_completes : (n : ℕ) → Completes r_stage StageOf never n
stage_completes n = relabel_completes r_stage StageLang StageOf stage_from never n (same_completes r_stage (either is_brace r_keep r_by_on) StageLang stage_is never n
    (either_completes is_brace (local_sign (delimits delimiter.OpenBrace)) r_keep r_by_on KeepLang ByOn never n
    (mapped_completes keep_view (shifted r_braces) (Shifted Braced) never n (braces_completes (suc n)))
    (either_completes is_by (local_word by_word) r_by r_coalesce_on ByLang CoalesceOn never n (worded_completes by_word By r_whole (Of Whole_expression) whole_goes refl n (whole_completes n))
    (either_completes is_coalesce (local_word coalesce_word) r_coalesce r_select_on CoalesceLang SelectOn never n (worded_completes coalesce_word coalesced r_nothing Nothing never refl n (pure_completes tt never n))
    (either_completes is_select (local_word select_word) r_select r_compare SelectLang CompareLang never n (worded_completes select_word Select r_fields FieldsOf (on_mark comma) refl n (fields_completes n)) (compare_completes n)
    (λ a front rest d s. worded_begins select_word Select r_fields FieldsOf n a front rest d) (λ a front rest d s. compare_other select_word select_no_aggregate n a front rest d))
    (λ a front rest d s. worded_begins coalesce_word coalesced r_nothing Nothing n a front rest d) (λ a front rest d s. select_on_other coalesce_word coalesce_no_select coalesce_no_aggregate n a front rest d))
    (λ a front rest d s. worded_begins by_word By r_whole (Of Whole_expression) n a front rest d) (λ a front rest d s. coalesce_on_by n a front rest d))
    (λ a front rest d s. keep_begins n a front rest d) (λ a front rest d s. by_on_brace n a front rest d)))

pub stage_refuses : (n : ℕ) → IsRefusing r_stage StageOf n
stage_refuses n = relabel_refuses r_stage StageLang StageOf stage_to n (same_refuses r_stage (either is_brace r_keep r_by_on) StageLang stage_is n
    (either_refuses is_brace (local_sign (delimits delimiter.OpenBrace)) r_keep r_by_on KeepLang ByOn n
    (mapped_refuses keep_view (shifted r_braces) (Shifted Braced) n (shifted_refuses r_braces Braced n (braces_refuses (suc n))))
    (either_refuses is_by (local_word by_word) r_by r_coalesce_on ByLang CoalesceOn n (worded_refuses by_word By r_whole (Of Whole_expression) n (spells_grow Whole_expression) occurs_whole (whole_sound n) (whole_refuses n))
    (either_refuses is_coalesce (local_word coalesce_word) r_coalesce r_select_on CoalesceLang SelectOn n (worded_refuses coalesce_word coalesced r_nothing Nothing n (λ m a ts d. d) nothing_occurs (pure_sound tt n) (pure_refuses tt n))
    (either_refuses is_select (local_word select_word) r_select r_compare SelectLang CompareLang n (worded_refuses select_word Select r_fields FieldsOf n (λ m a ts d. d) fields_occurs (fields_sound n) (fields_refuses n)) (compare_refuses n))))))

condition_grow : (n : ℕ) (c : Option Placed) (xs : List Token) → SpellsCondition n c xs → SpellsCondition (suc n) c xs
condition_grow n c xs rule.empty = rule.empty
condition_grow n c xs (rule.condition {e = e} d) = rule.condition (spells_grow Whole_expression n e xs d)

pub stage_grows : Grows StageOf
stage_grows n a ts (rule.keep {c = c} {ts = xs} opened closed d) = rule.keep opened closed (condition_grow (suc n) c xs d)
stage_grows n a ts (rule.by {e = e} {ts = xs} at opened closed d) = rule.by at opened closed (spells_grow Whole_expression n e xs d)
stage_grows n a ts (rule.coalesce at opened closed) = rule.coalesce at opened closed
stage_grows n a ts (rule.select at opened closed d) = rule.select at opened closed d
stage_grows n a ts (rule.compare {a = x} {b = y} {xs = xs} {ys = ys} at s h d e) = rule.compare at s h (aggregate_grows n x xs d) (threshold_grow n y ys e)

pub stage_occurs : Occurs StageOf
stage_occurs n = (Keep 0 None, in_braces 0 [] 0, rule.keep 0 0 rule.empty)

-- Queries.

abbrev pub stage_side : ℕ × Unit {0} → Reader StageTree
stage_side o = r_stage

abbrev pub StageSide : ℕ × Unit {0} → Lang StageTree
StageSide o = StageOf

abbrev pub stages_more : QueryTree → Reader QueryTree
stages_more = tailing (delimits delimiter.Bar) stage_side StageSide read.add_stage

abbrev pub StagesMore : QueryTree → Lang QueryTree
StagesMore = Tailing (delimits delimiter.Bar) stage_side StageSide read.add_stage

abbrev pub piped_item : Reader StageTree
piped_item = one_item (delimits delimiter.Bar) stage_side StageSide read.add_stage

abbrev pub PipedItem : Lang StageTree
PipedItem = ItemLang (delimits delimiter.Bar) stage_side StageSide read.add_stage

abbrev pub stages_tail : SetTree → Reader QueryTree
stages_tail e = stages_more (read.alone e)

abbrev pub StagesTail : SetTree → Lang QueryTree
StagesTail e = StagesMore (read.alone e)

abbrev pub r_query : Reader QueryTree
r_query n ts = read.query n ts

abbrev pub AllDeeper : Lang SetTree
AllDeeper = Shifted (OfSet All)

abbrev pub all_deeper : Reader SetTree
all_deeper = shifted r_all

abbrev pub QueryLang : Lang QueryTree
QueryLang = Seq AllDeeper StagesTail

abbrev pub QueryOf : Lang QueryTree
QueryOf n q ts = SpellsQuery (suc n) q ts

pub query_is : (n : ℕ) (ts : List Token) → r_query n ts ≡ next all_deeper stages_tail n ts
unfolding read.query read.more_stages read.piped
query_is n ts = refl

stage_sides_keep : (o : ℕ × Unit {0}) → Keeps (stage_side o)
stage_sides_keep o = stage_keeps

pub piped_item_shrinks : (n : ℕ) (ts : List Token) (x : StageTree × List Token) → piped_item n ts ≡ Ok x → length x.1 < length ts
piped_item_shrinks n ts x e = item_shrinks (delimits delimiter.Bar) stage_side StageSide read.add_stage stage_sides_keep n ts x e

recast : (n : ℕ) (a b : QueryTree) (ts us : List Token) → b ≡ a → us ≡ ts → SpellsQuery n a ts → SpellsQuery n b us
recast n a b ts us e k d = subst (λ (z : QueryTree). SpellsQuery n z us) (sym e) (subst (λ (z : List Token). SpellsQuery n a z) (sym k) d)

query_on : (n : ℕ) (a d : QueryTree) (xs ys : List Token) → QueryOf n a xs → StagesMore a n d ys → QueryOf n d (xs ++ ys)
query_on n a d xs ys h done = recast (suc n) a a xs (xs ++ []) refl (append-nil xs) h
query_on n a d xs ys h (turn {b = b} {ys = us} {zs = vs} e m more) =
    let t = m.left.t in
    let w = delimiter_token delimiter.Bar t m.first m.left.is in
    let cut : us ≡ mark t.at sign.Bar ∷ m.ys = m.cut ∙ ap (λ (z : List Token). z ++ m.ys) m.left.cut ∙ ap (λ (z : Token). z ∷ m.ys) w.0 in
    recast (suc n) d d ((xs ++ (mark t.at sign.Bar ∷ m.ys)) ++ vs) (xs ++ ys) refl
    (ap (λ (z : List Token). xs ++ z) (e ∙ ap (λ (z : List Token). z ++ vs) cut) ∙ sym (append_assoc xs (mark t.at sign.Bar ∷ m.ys) vs))
    (query_on n (read.add_stage a b) d (xs ++ (mark t.at sign.Bar ∷ m.ys)) vs (rule.piped t.at h m.right) more)

query_to : (n : ℕ) (a : QueryTree) (ts : List Token) → QueryLang n a ts → QueryOf n a ts
query_to n a ts s = recast (suc n) a a (s.xs ++ s.ys) ts refl s.cut (query_on n (read.alone s.first) a s.xs s.ys (rule.start s.left) s.right)

query_snoc : (n : ℕ) (a d : QueryTree) (b : StageTree) (ys zs : List Token) → StagesMore a n d ys → PipedItem n b zs → StagesMore a n (read.add_stage d b) (ys ++ zs)
query_snoc n a d b ys zs done m = turn (sym (append-nil zs)) m done
query_snoc n a d b ys zs (turn {b = c} {ys = us} {zs = vs} e k more) m =
    turn (ap (λ (z : List Token). z ++ zs) e ∙ append_assoc us vs zs) k (query_snoc n (read.add_stage a c) d b vs zs more m)

pub query_from : (n : ℕ) (a : QueryTree) (ts : List Token) → QueryOf n a ts → QueryLang n a ts
query_from n a ts (rule.start {e = e} d) = record { first = e; xs = ts; ys = []; cut = sym (append-nil ts); left = d; right = done }
query_from n a ts (rule.piped {q = q} {s = s} {xs = xs} {ys = ys} at d e) =
    let front = query_from n q xs d in
    let m : PipedItem n s (mark at sign.Bar ∷ ys) = record {
      first = (at, tt);
      xs = mark at sign.Bar ∷ [];
      ys = ys;
      cut = refl;
      left = record { t = mark at sign.Bar; cut = refl; is = refl };
      right = e;
    } in
    record {
      first = front.first;
      xs = front.xs;
      ys = front.ys ++ (mark at sign.Bar ∷ ys);
      cut = ap (λ (z : List Token). z ++ (mark at sign.Bar ∷ ys)) front.cut ∙ append_assoc front.xs front.ys (mark at sign.Bar ∷ ys);
      left = front.left;
      right = query_snoc n (read.alone front.first) q s front.ys (mark at sign.Bar ∷ ys) front.right m;
    }

bar_apart : (s : Sign) → (is_some (delimits delimiter.Bar s) && set_goes set_level.Union s) ≡ false
bar_apart sign.OpenParen = refl
bar_apart _ = refl

abbrev pub query_goes : TokenKind → Bool
query_goes = on_mark (λ s. set_goes set_level.Union s || is_some (delimits delimiter.Bar s))

query_follows : Follows all_goes (delimits delimiter.Bar) query_goes
query_follows = follows (set_goes set_level.Union) (delimits delimiter.Bar) bar_apart

piped_sound : (n : ℕ) → IsSound piped_item PipedItem n
piped_sound n = next_sound (λ m us. expect_sign (delimits delimiter.Bar) us) (One (at_sign (delimits delimiter.Bar))) stage_side StageSide n (sign_sound (delimits delimiter.Bar) n) (λ o. stage_sound n)

pub query_sound : (n : ℕ) → IsSound r_query QueryOf n
query_sound n = relabel_sound r_query QueryLang QueryOf query_to n (same_sound r_query (next all_deeper stages_tail) QueryLang query_is n
    (next_sound all_deeper AllDeeper stages_tail StagesTail n (shifted_sound r_all (OfSet All) n (all_sound (suc n)))
    (λ e. tail_sound (delimits delimiter.Bar) stage_side StageSide read.add_stage stage_sides_keep n (piped_sound n) (read.alone e))))

pub query_completes : (n : ℕ) → Completes r_query QueryOf query_goes n
query_completes n = relabel_completes r_query QueryLang QueryOf query_from query_goes n (same_completes r_query (next all_deeper stages_tail) QueryLang query_is query_goes n
    (next_completes all_deeper AllDeeper stages_tail StagesTail all_goes query_goes n (all_completes (suc n))
    (λ e d ys rest t s. tail_completes (delimits delimiter.Bar) stage_side StageSide read.add_stage all_goes query_goes query_follows stage_sides_keep n
    (never_goes piped_item PipedItem all_goes n (next_completes (λ m us. expect_sign (delimits delimiter.Bar) us) (One (at_sign (delimits delimiter.Bar))) stage_side StageSide never never n (sign_completes (delimits delimiter.Bar) n) (λ o. stage_completes n) (λ o b zs after k h. stops_never (zs ++ after))))
    (read.alone e) d ys rest t s)
    (λ e d ys rest t s. tail_stops (delimits delimiter.Bar) stage_side StageSide read.add_stage all_goes query_goes query_follows n (read.alone e) d ys rest t s)))

piped_grows : Grows PipedItem
piped_grows = next_grows (λ m us. expect_sign (delimits delimiter.Bar) us) (One (at_sign (delimits delimiter.Bar))) stage_side StageSide (one_grows (at_sign (delimits delimiter.Bar))) (λ o. stage_grows)

pub all_grows : Grows AllDeeper
all_grows n a ts d = sets_grow All (suc n) a ts d

pub query_refuses : (n : ℕ) → IsRefusing r_query QueryOf n
query_refuses n = relabel_refuses r_query QueryLang QueryOf query_to n (same_refuses r_query (next all_deeper stages_tail) QueryLang query_is n
    (next_refuses all_deeper AllDeeper stages_tail StagesTail n all_grows (λ e. tail_occurs (delimits delimiter.Bar) stage_side StageSide read.add_stage (read.alone e))
    (shifted_sound r_all (OfSet All) n (all_sound (suc n))) (shifted_refuses r_all (OfSet All) n (all_refuses (suc n)))
    (λ e. tail_refuses (delimits delimiter.Bar) stage_side StageSide read.add_stage stage_sides_keep piped_grows n (piped_sound n)
    (next_refuses (λ m us. expect_sign (delimits delimiter.Bar) us) (One (at_sign (delimits delimiter.Bar))) stage_side StageSide n (one_grows (at_sign (delimits delimiter.Bar))) (λ o. stage_occurs)
    (sign_sound (delimits delimiter.Bar) n) (sign_refuses (delimits delimiter.Bar) n) (λ o. stage_refuses n)) (read.alone e))))

pub query_grow : (n : ℕ) (q : QueryTree) (ts : List Token) → SpellsQuery (suc n) q ts → SpellsQuery (suc (suc n)) q ts
query_grow n q ts (rule.start {e = e} d) = rule.start (sets_grow All (suc n) e ts d)
query_grow n q ts (rule.piped {q = p} {s = s} {xs = xs} {ys = ys} at d e) = rule.piped at (query_grow n p xs d) (stage_grows n s ys e)

pub query_occurs : Occurs QueryOf
query_occurs n = let o = occurs_all (suc n) in (read.alone o.0, o.1, rule.start o.2)
