-- The laws of the reader of metrics queries.
use Rattle.std.proofs.Common.{◌≡◌, ℕ, suc, ◌<◌, ◌≤◌, Bool, true, false, not, List, [], ◌∷◌, ◌++◌, length, Option, Some, None, is_some, Ok, inl, inr, refl, sym, ◌∙◌, ap, subst, append_assoc, append-nil, arith}
use Rattle.traceql_tokens.specs.Tokens.{AreTokensOf, mended, metrics_words}
use Rattle.traceql_tokens.proofs.TokensLaws.{metrics_tokens_unique}
use Rattle.traceql_tokens.specs.declared.fixed.Sign.TheVariants as sign
use Rattle.traceql_tokens.specs.declared.fixed.Word.{Word}
use Rattle.traceql_tokens.specs.declared.fixed.Word.TheVariants as word
use Rattle.traceql_tokens.specs.declared.kinds.Token.{Token}
use Rattle.traceql_tokens.specs.declared.kinds.TokenKind.{TokenKind}
use Rattle.traceql_tokens.specs.declared.kinds.TokenKind.TheVariants as token
use Rattle.traceql_syntax.specs.declared.query.AggregateOp.{AggregateOp}
use Rattle.traceql_syntax.specs.Grammar.{mark, keyword, in_parens, Whole_expression, SpellsAggregate, SpellsStage, SpellsMetrics}
use Rattle.traceql_syntax.specs.Grammar as rule
use Rattle.traceql_syntax.specs.Tables.{on_word, aggregate_word, metrics_word}
use Rattle.traceql_syntax.specs.Trees.{Placed, SetTree, AggregateTree, StageTree, QueryTree, MetricsTree}
use Rattle.traceql_parse.specs.declared.lookahead.Delimiter.TheVariants as delimiter
use Rattle.traceql_parse.specs.Descent as read
use Rattle.traceql_parse.specs.Metrics as metrics
use Rattle.traceql_parse.specs.Metrics.{is_before, stage_next, made}
use Rattle.traceql_parse.specs.Reading.{next_word, delimits, expect_sign, expect_word}
use Rattle.traceql_parse.proofs.Laws.{Reader, Lang, Stops, Alike, IsSound, Keeps, Completes, Grows, Occurs, IsRefusing, bind_ok, Seq, next, next_sound, next_completes, next_grows, next_occurs, next_refuses}
use Rattle.traceql_parse.proofs.Base.{never, One, at_sign, placing, at_word, one_grows, on_word_mended, ok_inj, sign_sound, sign_completes, sign_refuses, word_sound, word_completes, word_refuses, same_sound, same_completes, same_refuses, Image, mapped, mapped_sound, mapped_completes, mapped_grows, mapped_occurs, mapped_refuses}
use Rattle.traceql_parse.proofs.Choices.{Local, local_word, either, Either, either_sound, either_completes, either_refuses, stops_never}
use Rattle.traceql_parse.proofs.Group.{pure, Pure, pure_sound, pure_completes, pure_refuses, done, turn, repeated, Repeated, repeated_sound, repeated_completes, repeated_grows, repeated_refuses, some_in_place, sign_shrinks}
use Rattle.traceql_parse.proofs.Items.{Shrinks}
use Rattle.traceql_parse.proofs.Relabel.{relabel_sound, relabel_completes, relabel_refuses}
use Rattle.traceql_parse.proofs.Signs.{delimiter_token}
use Rattle.traceql_parse.proofs.Fields.{r_whole, Of, spells_grow, occurs_whole}
use Rattle.traceql_parse.proofs.FieldRefusals.{whole_goes, stops_here, delimiter_occurs, whole_completes, whole_refuses, whole_sound}
use Rattle.traceql_parse.proofs.SetLaws.{r_all, OfSet, All, all_goes, all_sound, all_completes, all_refuses, occurs_all}
use Rattle.traceql_parse.proofs.Aggregates.{shifted, Shifted, shifted_sound, shifted_refuses, kept, parens_of, Enclosed, enclosed_sound, enclosed_completes, enclosed_refuses, enclosed_occurs, enclosed_grows, word_token, r_nothing, Nothing}
use Rattle.traceql_parse.proofs.StageLaws.{never_goes, is_by, only_by, r_stage, StageOf}
use Rattle.traceql_parse.proofs.QueryLaws.{worded, Worded, worded_sound, worded_completes, worded_refuses, worded_begins, nothing_occurs, stage_keeps, stage_sound, stage_completes, stage_refuses, stage_grows, stage_occurs, StagesMore, all_deeper, AllDeeper, all_grows, QueryOf, PipedItem, query_from, query_grow, query_occurs}
use Rattle.traceql_parse.proofs.Parsing.{Parses}

-- A stage and the bar after it.

abbrev pub bar : Reader (ℕ × Unit {0})
bar n ts = expect_sign (delimits delimiter.Bar) ts

abbrev pub Bar : Lang (ℕ × Unit {0})
Bar = One (at_sign (delimits delimiter.Bar))

abbrev pub barred : Reader StageTree
barred = next r_stage (λ s. mapped (kept s) bar)

abbrev pub Barred_stage : Lang StageTree
Barred_stage = Seq StageOf (λ s. Image (kept s) Bar)

pub barred_shrinks : (n : ℕ) → Shrinks (barred n)
barred_shrinks n ts x e =
    let w = bind_ok (r_stage n ts) (λ s. mapped (kept s.0) bar n s.1) x e in
    let v = bind_ok (bar n w.0.1) (λ o. Ok (kept w.0.0 o.0, o.1)) x w.2 in
    let one : length w.0.1 ≤ length ts = stage_keeps n ts w.0 w.1 in
    let two : length v.0.1 < length w.0.1 = sign_shrinks (delimits delimiter.Bar) w.0.1 v.0 v.1 in
    let same : ◌≡◌ {A = StageTree × List Token} (w.0.0, v.0.1) x = ok_inj {A = StageTree} (Ok (w.0.0, v.0.1)) (w.0.0, v.0.1) x refl v.2 in
    let long : length v.0.1 ≡ length x.1 = ap (λ (z : StageTree × List Token). length z.1) same in
    omega arith

barred_sound : (n : ℕ) → IsSound barred Barred_stage n
barred_sound n = next_sound r_stage StageOf (λ s. mapped (kept s) bar) (λ s. Image (kept s) Bar) n (stage_sound n) (λ s. mapped_sound (kept s) bar Bar n (sign_sound (delimits delimiter.Bar) n))

barred_completes : (n : ℕ) → Completes barred Barred_stage never n
barred_completes n = next_completes r_stage StageOf (λ s. mapped (kept s) bar) (λ s. Image (kept s) Bar) never never n (stage_completes n)
    (λ s. mapped_completes (kept s) bar Bar never n (sign_completes (delimits delimiter.Bar) n)) (λ s b ys rest d h. stops_never (ys ++ rest))

barred_grows : Grows Barred_stage
barred_grows = next_grows r_stage StageOf (λ s. mapped (kept s) bar) (λ s. Image (kept s) Bar) stage_grows (λ s. mapped_grows (kept s) bar Bar (one_grows (at_sign (delimits delimiter.Bar))))

barred_refuses : (n : ℕ) → IsRefusing barred Barred_stage n
barred_refuses n = next_refuses r_stage StageOf (λ s. mapped (kept s) bar) (λ s. Image (kept s) Bar) n stage_grows
    (λ s. mapped_occurs (kept s) bar Bar (delimiter_occurs delimiter.Bar)) (stage_sound n) (stage_refuses n) (λ s. mapped_refuses (kept s) bar Bar n (sign_refuses (delimits delimiter.Bar) n))

-- Stages, as long as no word stands there that ends a metrics query.

before_mended : (k : TokenKind) → is_before (mended k) ≡ is_before k
before_mended k = ap (λ (o : Option Bool). not (is_some o)) (on_word_mended metrics_word k)

like_next : (ts us : List Token) → Alike ts us → stage_next us ≡ stage_next ts
like_next [] us h = absurd h
like_next (t ∷ ts) [] h = absurd h
like_next (t ∷ ts) (u ∷ us) (inl e) = ap is_before e
like_next (t ∷ ts) (u ∷ us) (inr e) = ap is_before e ∙ before_mended t.kind

local_next : Local stage_next
local_next = record { none = refl; same = like_next }

next_stops : (ts : List Token) → Stops is_before ts → stage_next ts ≡ false
next_stops [] s = refl
next_stops (t ∷ ts) s = s

no_metrics_word : (w : Word) (op : AggregateOp) → aggregate_word w ≡ Some op → not (is_some (metrics_word w)) ≡ true
no_metrics_word word.Rate op h = cc
no_metrics_word word.CountOverTime op h = cc
no_metrics_word _ op h = refl

aggregate_next : {n : ℕ} {a : AggregateTree} {ts : List Token} (more : List Token) → SpellsAggregate n a ts → stage_next (ts ++ more) ≡ true
aggregate_next more (rule.count at opened closed) = refl
aggregate_next more (rule.of {op = op} at w opened closed h d) = no_metrics_word w op h

stage_first : {n : ℕ} {s : StageTree} {ts : List Token} (more : List Token) → SpellsStage n s ts → stage_next (ts ++ more) ≡ true
stage_first more (rule.keep opened closed d) = refl
stage_first more (rule.by at opened closed d) = refl
stage_first more (rule.coalesce at opened closed) = refl
stage_first more (rule.select at opened closed d) = refl
stage_first more (rule.compare {xs = xs} {ys = ys} at s h d e) = ap stage_next (append_assoc xs (mark at s ∷ ys) more) ∙ aggregate_next (mark at s ∷ (ys ++ more)) d

barred_next : (n : ℕ) (b : StageTree) (ys more : List Token) → Barred_stage n b ys → stage_next (ys ++ more) ≡ true
barred_next n b ys more s = ap stage_next (ap (λ (z : List Token). z ++ more) s.cut ∙ append_assoc s.xs s.ys more) ∙ stage_first (s.ys ++ more) s.left

abbrev pub before : QueryTree → Reader QueryTree
before q = repeated stage_next barred read.add_stage q

abbrev pub Before : QueryTree → Lang QueryTree
Before q = Repeated Barred_stage read.add_stage q

before_sound : (n : ℕ) (q : QueryTree) → IsSound (before q) (Before q) n
before_sound n = repeated_sound stage_next local_next barred Barred_stage read.add_stage barred_shrinks n (barred_sound n)

before_completes : (n : ℕ) (q : QueryTree) → Completes (before q) (Before q) is_before n
before_completes n q d ys rest t s = repeated_completes stage_next local_next barred Barred_stage read.add_stage barred_shrinks never is_before next_stops barred_next n (λ a c zs after k h. stops_never (zs ++ after)) (barred_completes n) q d ys rest t s

before_occurs : (q : QueryTree) → Occurs (Before q)
before_occurs q n = (q, [], done)

before_refuses : (n : ℕ) (q : QueryTree) → IsRefusing (before q) (Before q) n
before_refuses n = repeated_refuses stage_next local_next barred Barred_stage read.add_stage barred_shrinks barred_grows n (barred_sound n) (barred_refuses n)

-- A query and the bar after it.

pub record Front (n : ℕ) (q : QueryTree) (ts : List Token) : Type 0 where
  pub at : ℕ
  pub xs : List Token
  pub query : QueryOf n q xs
  pub cut : ts ≡ xs ++ (mark at sign.Bar ∷ [])

abbrev pub r_front : Reader QueryTree
r_front n ts = metrics.query_bar n ts

abbrev pub bar_before : SetTree → Reader QueryTree
bar_before e = next bar (λ o. before (read.alone e))

abbrev pub BarBefore : SetTree → Lang QueryTree
BarBefore e = Seq Bar (λ o. Before (read.alone e))

abbrev pub FrontLang : Lang QueryTree
FrontLang = Seq AllDeeper BarBefore

pub front_is : (n : ℕ) (ts : List Token) → r_front n ts ≡ next all_deeper bar_before n ts
unfolding metrics.query_bar metrics.stages_before metrics.stage_bar
front_is n ts = refl

front_on : (n : ℕ) (a d : QueryTree) (at : ℕ) (xs ys : List Token) → QueryOf n a xs → Before a n d ys → Front n d (xs ++ (mark at sign.Bar ∷ ys))
front_on n a d at xs ys h done = record { at = at; xs = xs; query = h; cut = refl }
front_on n a d at xs ys h (turn {b = b} {ys = us} {zs = vs} e m more) =
    let i = m.right in
    let t = i.spelled.t in
    let w = delimiter_token delimiter.Bar t i.of i.spelled.is in
    let staged : StageOf n b m.xs = subst (λ (z : StageTree). StageOf n z m.xs) (sym i.is) m.left in
    let again : Front n d ((xs ++ (mark at sign.Bar ∷ m.xs)) ++ (mark t.at sign.Bar ∷ vs)) = front_on n (read.add_stage a b) d t.at (xs ++ (mark at sign.Bar ∷ m.xs)) vs (rule.piped at h staged) more in
    let cut : ys ≡ m.xs ++ (mark t.at sign.Bar ∷ vs) = e ∙ ap (λ (z : List Token). z ++ vs) (m.cut ∙ ap (λ (z : List Token). m.xs ++ z) i.spelled.cut ∙ ap (λ (z : Token). m.xs ++ (z ∷ [])) w.0) ∙ append_assoc m.xs (mark t.at sign.Bar ∷ []) vs in
    subst (λ (z : List Token). Front n d z)
    (append_assoc xs (mark at sign.Bar ∷ m.xs) (mark t.at sign.Bar ∷ vs) ∙ ap (λ (z : List Token). xs ++ (mark at sign.Bar ∷ z)) (sym cut)) again

front_to : (n : ℕ) (q : QueryTree) (ts : List Token) → FrontLang n q ts → Front n q ts
front_to n q ts s =
    let b = s.right in
    let t = b.left.t in
    let w = delimiter_token delimiter.Bar t b.first b.left.is in
    subst (λ (z : List Token). Front n q z)
    (sym (s.cut ∙ ap (λ (z : List Token). s.xs ++ z) (b.cut ∙ ap (λ (z : List Token). z ++ b.ys) b.left.cut ∙ ap (λ (z : Token). z ∷ b.ys) w.0)))
    (front_on n (read.alone s.first) q t.at s.xs b.ys (rule.start s.left) b.right)

-- bars before stages are bars after them
bars_behind : (n : ℕ) (a d : QueryTree) (ys : List Token) (at : ℕ) → StagesMore a n d ys → (b : ℕ) × (zs : List Token) × (ys ++ (mark at sign.Bar ∷ []) ≡ mark b sign.Bar ∷ zs) × Before a n d zs
bars_behind n a d ys at done = (at, [], refl, done)
bars_behind n a d ys at (turn {b = b} {ys = us} {zs = vs} e m more) =
    let t = m.left.t in
    let w = delimiter_token delimiter.Bar t m.first m.left.is in
    let again = bars_behind n (read.add_stage a b) d vs at more in
    let first : us ≡ mark t.at sign.Bar ∷ m.ys = m.cut ∙ ap (λ (z : List Token). z ++ m.ys) m.left.cut ∙ ap (λ (z : Token). z ∷ m.ys) w.0 in
    let behind : List Token = mark again.0 sign.Bar ∷ again.1 in
    let item : Barred_stage n b (m.ys ++ (mark again.0 sign.Bar ∷ [])) = record {
      first = b;
      xs = m.ys;
      ys = mark again.0 sign.Bar ∷ [];
      cut = refl;
      left = m.right;
      right = record { of = (again.0, tt); is = refl; spelled = record { t = mark again.0 sign.Bar; cut = refl; is = refl } };
    } in (
      t.at,
      m.ys ++ behind,
      ap (λ (z : List Token). z ++ (mark at sign.Bar ∷ [])) e ∙ append_assoc us vs (mark at sign.Bar ∷ []) ∙ ap (λ (z : List Token). us ++ z) again.2 ∙ ap (λ (z : List Token). z ++ behind) first,
      turn (sym (append_assoc m.ys (mark again.0 sign.Bar ∷ []) again.1)) item again.3,
    )

front_from : (n : ℕ) (q : QueryTree) (ts : List Token) → Front n q ts → FrontLang n q ts
front_from n q ts f =
    let s = query_from n q f.xs f.query in
    let k = bars_behind n (read.alone s.first) q s.ys f.at s.right in
    record {
      first = s.first;
      xs = s.xs;
      ys = mark k.0 sign.Bar ∷ k.1;
      cut = f.cut ∙ ap (λ (z : List Token). z ++ (mark f.at sign.Bar ∷ [])) s.cut ∙ append_assoc s.xs s.ys (mark f.at sign.Bar ∷ []) ∙ ap (λ (z : List Token). s.xs ++ z) k.2;
      left = s.left;
      right = record {
        first = (k.0, tt);
        xs = mark k.0 sign.Bar ∷ [];
        ys = k.1;
        cut = refl;
        left = record { t = mark k.0 sign.Bar; cut = refl; is = refl };
        right = k.3;
      };
    }

front_sound : (n : ℕ) → IsSound r_front Front n
front_sound n = relabel_sound r_front FrontLang Front front_to n (same_sound r_front (next all_deeper bar_before) FrontLang front_is n
    (next_sound all_deeper AllDeeper bar_before BarBefore n (shifted_sound r_all (OfSet All) n (all_sound (suc n)))
    (λ e. next_sound bar Bar (λ o. before (read.alone e)) (λ o. Before (read.alone e)) n (sign_sound (delimits delimiter.Bar) n) (λ o. before_sound n (read.alone e)))))

bar_stops : (n : ℕ) (e : SetTree) (q : QueryTree) (ys rest : List Token) → BarBefore e n q ys → Stops all_goes (ys ++ rest)
bar_stops n e q ys rest b =
    let t = b.left.t in
    let w = delimiter_token delimiter.Bar t b.first b.left.is in
    stops_here all_goes (ys ++ rest) (b.ys ++ rest) (mark t.at sign.Bar) (ap (λ (z : List Token). z ++ rest) (b.cut ∙ ap (λ (z : List Token). z ++ b.ys) b.left.cut ∙ ap (λ (z : Token). z ∷ b.ys) w.0)) refl

front_completes : (n : ℕ) → Completes r_front Front is_before n
front_completes n = relabel_completes r_front FrontLang Front front_from is_before n (same_completes r_front (next all_deeper bar_before) FrontLang front_is is_before n
    (next_completes all_deeper AllDeeper bar_before BarBefore all_goes is_before n (all_completes (suc n))
    (λ e. next_completes bar Bar (λ o. before (read.alone e)) (λ o. Before (read.alone e)) never is_before n (sign_completes (delimits delimiter.Bar) n) (λ o. before_completes n (read.alone e)) (λ o b ys rest d s. stops_never (ys ++ rest)))
    (λ e q ys rest d s. bar_stops n e q ys rest d)))

front_grows : Grows Front
front_grows n q ts f = record { at = f.at; xs = f.xs; query = query_grow n q f.xs f.query; cut = f.cut }

front_refuses : (n : ℕ) → IsRefusing r_front Front n
front_refuses n = relabel_refuses r_front FrontLang Front front_to n (same_refuses r_front (next all_deeper bar_before) FrontLang front_is n
    (next_refuses all_deeper AllDeeper bar_before BarBefore n all_grows
    (λ e. next_occurs bar Bar (λ o. before (read.alone e)) (λ o. Before (read.alone e)) (delimiter_occurs delimiter.Bar) (λ o. before_occurs (read.alone e)))
    (shifted_sound r_all (OfSet All) n (all_sound (suc n))) (shifted_refuses r_all (OfSet All) n (all_refuses (suc n)))
    (λ e. next_refuses bar Bar (λ o. before (read.alone e)) (λ o. Before (read.alone e)) n (one_grows (at_sign (delimits delimiter.Bar))) (λ o. before_occurs (read.alone e))
    (sign_sound (delimits delimiter.Bar) n) (sign_refuses (delimits delimiter.Bar) n) (λ o. before_refuses n (read.alone e)))))

-- The word that ends a metrics query, and its parentheses.

abbrev pub rated : ℕ × Bool → Unit {0} → Bool
rated w x = w.1

abbrev pub r_counting : Reader Bool
r_counting n ts = metrics.counting ts

abbrev pub word_side : ℕ × Bool → Reader Bool
word_side w = mapped (rated w) (parens_of r_nothing)

abbrev pub WordSide : ℕ × Bool → Lang Bool
WordSide w = Image (rated w) (Enclosed Nothing)

abbrev pub r_ending : Reader (ℕ × Bool)
r_ending n ts = expect_word metrics_word ts

abbrev pub Ending : Lang (ℕ × Bool)
Ending = One (at_word metrics_word)

abbrev pub Counting : Lang Bool
Counting = Seq Ending WordSide

pub counting_is : (n : ℕ) (ts : List Token) → r_counting n ts ≡ next r_ending word_side n ts
unfolding metrics.counting
counting_is n ts = refl

counting_sound : (n : ℕ) → IsSound r_counting Counting n
counting_sound n = same_sound r_counting (next r_ending word_side) Counting counting_is n
    (next_sound r_ending Ending word_side WordSide n (word_sound metrics_word n) (λ w. mapped_sound (rated w) (parens_of r_nothing) (Enclosed Nothing) n (enclosed_sound r_nothing Nothing n (pure_sound tt n))))

counting_completes : (n : ℕ) → Completes r_counting Counting never n
counting_completes n = same_completes r_counting (next r_ending word_side) Counting counting_is never n
    (next_completes r_ending Ending word_side WordSide never never n (word_completes metrics_word n)
    (λ w. mapped_completes (rated w) (parens_of r_nothing) (Enclosed Nothing) never n (enclosed_completes r_nothing Nothing never refl n (pure_completes tt never n)))
    (λ w b ys rest d s. stops_never (ys ++ rest)))

side_occurs : (w : ℕ × Bool) → Occurs (WordSide w)
side_occurs w = mapped_occurs (rated w) (parens_of r_nothing) (Enclosed Nothing) (enclosed_occurs r_nothing Nothing nothing_occurs)

counting_occurs : Occurs Counting
counting_occurs = next_occurs r_ending Ending word_side WordSide (λ n. ((0, true), keyword 0 word.Rate ∷ [], record { t = keyword 0 word.Rate; cut = refl; is = refl })) side_occurs

counting_grows : Grows Counting
counting_grows = next_grows r_ending Ending word_side WordSide (one_grows (at_word metrics_word))
    (λ w. mapped_grows (rated w) (parens_of r_nothing) (Enclosed Nothing) (enclosed_grows r_nothing Nothing (λ m a ts d. d)))

counting_refuses : (n : ℕ) → IsRefusing r_counting Counting n
counting_refuses n = same_refuses r_counting (next r_ending word_side) Counting counting_is n
    (next_refuses r_ending Ending word_side WordSide n (one_grows (at_word metrics_word)) side_occurs (word_sound metrics_word n) (word_refuses metrics_word n)
    (λ w. mapped_refuses (rated w) (parens_of r_nothing) (Enclosed Nothing) n (enclosed_refuses r_nothing Nothing n (λ m a ts d. d) nothing_occurs (pure_sound tt n) (pure_refuses tt n))))

-- what it is written as
counted : (n : ℕ) (rate : Bool) (ys : List Token) → Counting n rate ys → (at opened closed : ℕ) × (w : Word) × (ys ≡ keyword at w ∷ in_parens opened [] closed) × (metrics_word w ≡ Some rate)
counted n rate ys s =
    let t = s.left.t in
    let w = word_token metrics_word t s.first s.left.is in
    let e = s.right.spelled in (
      t.at,
      e.opened,
      e.closed,
      w.0,
      s.cut ∙ ap (λ (z : List Token). z ++ s.ys) s.left.cut ∙ ap (λ (z : Token). z ∷ s.ys) w.1 ∙ ap (λ (z : List Token). keyword t.at w.0 ∷ z) (e.cut ∙ ap (λ (z : List Token). in_parens e.opened z e.closed) e.within.1),
      w.2 ∙ ap (λ (z : Bool). Some z) (sym s.right.is),
    )

counting_from : (n : ℕ) (rate : Bool) (at opened closed : ℕ) (w : Word) → metrics_word w ≡ Some rate → Counting n rate (keyword at w ∷ in_parens opened [] closed)
counting_from n rate at opened closed w h = record {
  first = (at, rate);
  xs = keyword at w ∷ [];
  ys = in_parens opened [] closed;
  cut = refl;
  left = record { t = keyword at w; cut = refl; is = ap (placing at) h };
  right = record { of = tt; is = refl; spelled = record { opened = opened; closed = closed; xs = []; within = (refl, refl); cut = refl } };
}

-- `by` and an expression, or nothing.

abbrev pub some_placed : Placed → Option Placed
some_placed e = Some e

abbrev pub r_splitting : Reader (Option Placed)
r_splitting n ts = metrics.splitting n ts

abbrev pub r_split : Reader (Option Placed)
r_split = worded read.by_word some_placed r_whole (Of Whole_expression)

abbrev pub SplitLang : Lang (Option Placed)
SplitLang = Worded read.by_word some_placed r_whole (Of Whole_expression)

abbrev pub no_split : Reader (Option Placed)
no_split = pure None

abbrev pub NoSplit : Lang (Option Placed)
NoSplit = Pure None

abbrev pub Splitting : Lang (Option Placed)
Splitting = Either SplitLang NoSplit

splitting_at : (n at : ℕ) (k : TokenKind) (us : List Token) → r_splitting n (record { at = at; kind = k } ∷ us) ≡ either is_by r_split no_split n (record { at = at; kind = k } ∷ us)
unfolding metrics.splitting
splitting_at n at (token.Keyword word.By) us = refl
splitting_at n at (token.Keyword _) us = refl
splitting_at n at _ us = refl

pub splitting_is : (n : ℕ) (ts : List Token) → r_splitting n ts ≡ either is_by r_split no_split n ts
unfolding metrics.splitting
splitting_is n [] = refl
splitting_is n (t ∷ us) = splitting_at n t.at t.kind us

splitting_sound : (n : ℕ) → IsSound r_splitting Splitting n
splitting_sound n = same_sound r_splitting (either is_by r_split no_split) Splitting splitting_is n
    (either_sound is_by (local_word read.by_word) r_split no_split SplitLang NoSplit n (worded_sound read.by_word some_placed r_whole (Of Whole_expression) n (whole_sound n)) (pure_sound None n))

abbrev pub split_goes : TokenKind → Bool
split_goes k = is_some (on_word read.by_word k)

no_by : (ts : List Token) → Stops split_goes ts → is_by ts ≡ false
no_by [] s = refl
no_by (t ∷ ts) s = some_in_place t.at ts (on_word read.by_word t.kind) ∙ s

splitting_completes : (n : ℕ) → Completes r_splitting Splitting split_goes n
splitting_completes n = same_completes r_splitting (either is_by r_split no_split) Splitting splitting_is split_goes n
    (either_completes is_by (local_word read.by_word) r_split no_split SplitLang NoSplit split_goes n
    (never_goes r_split SplitLang split_goes n (worded_completes read.by_word some_placed r_whole (Of Whole_expression) whole_goes refl n (whole_completes n)))
    (pure_completes None split_goes n)
    (λ a front rest d s. worded_begins read.by_word some_placed r_whole (Of Whole_expression) n a front rest d)
    (λ a front rest d s. ap (λ (z : List Token). is_by (z ++ rest)) d.1 ∙ no_by rest s))

splitting_occurs : Occurs Splitting
splitting_occurs n = (None, [], inr (refl, refl))

splitting_refuses : (n : ℕ) → IsRefusing r_splitting Splitting n
splitting_refuses n = same_refuses r_splitting (either is_by r_split no_split) Splitting splitting_is n
    (either_refuses is_by (local_word read.by_word) r_split no_split SplitLang NoSplit n
    (worded_refuses read.by_word some_placed r_whole (Of Whole_expression) n (spells_grow Whole_expression) occurs_whole (whole_sound n) (whole_refuses n)) (pure_refuses None n))

-- Metrics queries.

abbrev pub r_metrics : Reader MetricsTree
r_metrics n ts = metrics.metrics n ts

abbrev pub ending_of : QueryTree → Reader MetricsTree
ending_of q = next r_counting (λ rate. mapped (made q rate) r_splitting)

abbrev pub EndingOf : QueryTree → Lang MetricsTree
EndingOf q = Seq Counting (λ rate. Image (made q rate) Splitting)

abbrev pub MetricsLang : Lang MetricsTree
MetricsLang = Seq Front EndingOf

abbrev pub MetricsOf : Lang MetricsTree
MetricsOf n m ts = SpellsMetrics (suc n) m ts

pub metrics_is : (n : ℕ) (ts : List Token) → r_metrics n ts ≡ next r_front ending_of n ts
unfolding metrics.metrics
metrics_is n ts = refl

recast : (n : ℕ) (a b : MetricsTree) (ts us : List Token) → b ≡ a → us ≡ ts → SpellsMetrics n a ts → SpellsMetrics n b us
recast n a b ts us e k d = subst (λ (z : MetricsTree). SpellsMetrics n z us) (sym e) (subst (λ (z : List Token). SpellsMetrics n a z) (sym k) d)

ended : (n : ℕ) (q : QueryTree) (rate : Bool) (m : MetricsTree) (by : Option Placed) (xs ys zs ts : List Token) (bar : ℕ) → QueryOf n q xs → Counting n rate ys → Splitting n by zs → m ≡ made q rate by → ts ≡ xs ++ (mark bar sign.Bar ∷ (ys ++ zs)) → MetricsOf n m ts
ended n q rate m by xs ys zs ts bar h c (inr none) is cut =
    let w = counted n rate ys c in
    recast (suc n) (made q rate None) m (xs ++ (mark bar sign.Bar ∷ keyword w.0 w.3 ∷ in_parens w.1 [] w.2)) ts (is ∙ ap (made q rate) none.0)
    (cut ∙ ap (λ (z : List Token). xs ++ (mark bar sign.Bar ∷ z)) (ap (λ (z : List Token). ys ++ z) none.1 ∙ append-nil ys ∙ w.4))
    (rule.whole bar w.0 w.1 w.2 w.3 w.5 h)
ended n q rate m by xs ys zs ts bar h c (inl s) is cut =
    let w = counted n rate ys c in
    let t = s.left.t in
    let k = word_token read.by_word t s.first s.left.is in
    let e = s.right.spelled in
    let split : zs ≡ keyword t.at word.By ∷ in_parens e.opened e.xs e.closed = s.cut ∙ ap (λ (z : List Token). z ++ s.ys) s.left.cut ∙ ap (λ (z : Token). z ∷ s.ys) (k.1 ∙ ap (keyword t.at) (only_by k.0 k.2)) ∙ ap (λ (z : List Token). keyword t.at word.By ∷ z) e.cut in
    recast (suc n) (made q rate (Some s.right.of)) m (xs ++ (mark bar sign.Bar ∷ keyword w.0 w.3 ∷ (in_parens w.1 [] w.2 ++ (keyword t.at word.By ∷ in_parens e.opened e.xs e.closed)))) ts (is ∙ ap (made q rate) s.right.is)
    (cut ∙ ap (λ (z : List Token). xs ++ (mark bar sign.Bar ∷ z)) (ap (λ (z : List Token). ys ++ z) split ∙ ap (λ (z : List Token). z ++ (keyword t.at word.By ∷ in_parens e.opened e.xs e.closed)) w.4))
    (rule.split bar w.0 w.1 w.2 t.at e.opened e.closed w.3 w.5 h e.within)

metrics_to : (n : ℕ) (m : MetricsTree) (ts : List Token) → MetricsLang n m ts → MetricsOf n m ts
metrics_to n m ts s =
    let f = s.left in
    let k = s.right in
    ended n s.first k.first m k.right.of f.xs k.xs k.ys ts f.at f.query k.left k.right.spelled k.right.is
    (s.cut ∙ ap (λ (z : List Token). z ++ s.ys) f.cut ∙ append_assoc f.xs (mark f.at sign.Bar ∷ []) s.ys ∙ ap (λ (z : List Token). f.xs ++ (mark f.at sign.Bar ∷ z)) k.cut)

metrics_of : (n : ℕ) (q : QueryTree) (rate : Bool) (by : Option Placed) (xs ys zs : List Token) (bar : ℕ) → QueryOf n q xs → Counting n rate ys → Splitting n by zs → MetricsLang n (made q rate by) (xs ++ (mark bar sign.Bar ∷ (ys ++ zs)))
metrics_of n q rate by xs ys zs bar h c d = record {
  first = q;
  xs = xs ++ (mark bar sign.Bar ∷ []);
  ys = ys ++ zs;
  cut = sym (append_assoc xs (mark bar sign.Bar ∷ []) (ys ++ zs));
  left = record { at = bar; xs = xs; query = h; cut = refl };
  right = record { first = rate; xs = ys; ys = zs; cut = refl; left = c; right = record { of = by; is = refl; spelled = d } };
}

metrics_from : (n : ℕ) (m : MetricsTree) (ts : List Token) → MetricsOf n m ts → MetricsLang n m ts
metrics_from n m ts (rule.whole {q = q} {rate = rate} {xs = xs} bar at opened closed w h d) =
    subst (λ (z : List Token). MetricsLang n m (xs ++ (mark bar sign.Bar ∷ z))) (append-nil (keyword at w ∷ in_parens opened [] closed))
    (metrics_of n q rate None xs (keyword at w ∷ in_parens opened [] closed) [] bar d (counting_from n rate at opened closed w h) (inr (refl, refl)))
metrics_from n m ts (rule.split {q = q} {rate = rate} {e = e} {xs = xs} {ys = ys} bar at opened closed by by_opened by_closed w h d f) =
    metrics_of n q rate (Some e) xs (keyword at w ∷ in_parens opened [] closed) (keyword by word.By ∷ in_parens by_opened ys by_closed) bar d (counting_from n rate at opened closed w h)
    (inl (record {
      first = (by, tt);
      xs = keyword by word.By ∷ [];
      ys = in_parens by_opened ys by_closed;
      cut = refl;
      left = record { t = keyword by word.By; cut = refl; is = refl };
      right = record { of = e; is = refl; spelled = record { opened = by_opened; closed = by_closed; xs = ys; within = f; cut = refl } };
    }))

metrics_sound : (n : ℕ) → IsSound r_metrics MetricsOf n
metrics_sound n = relabel_sound r_metrics MetricsLang MetricsOf metrics_to n (same_sound r_metrics (next r_front ending_of) MetricsLang metrics_is n
    (next_sound r_front Front ending_of EndingOf n (front_sound n)
    (λ q. next_sound r_counting Counting (λ rate. mapped (made q rate) r_splitting) (λ rate. Image (made q rate) Splitting) n (counting_sound n) (λ rate. mapped_sound (made q rate) r_splitting Splitting n (splitting_sound n)))))

ending_stops : (n : ℕ) (q : QueryTree) (m : MetricsTree) (ys rest : List Token) → EndingOf q n m ys → Stops is_before (ys ++ rest)
ending_stops n q m ys rest k =
    let w = counted n k.first k.xs k.left in
    stops_here is_before (ys ++ rest) ((in_parens w.1 [] w.2 ++ k.ys) ++ rest) (keyword w.0 w.3)
    (ap (λ (z : List Token). z ++ rest) (k.cut ∙ ap (λ (z : List Token). z ++ k.ys) w.4)) (ap (λ (o : Option Bool). not (is_some o)) w.5)

metrics_completes : (n : ℕ) → Completes r_metrics MetricsOf split_goes n
metrics_completes n = relabel_completes r_metrics MetricsLang MetricsOf metrics_from split_goes n (same_completes r_metrics (next r_front ending_of) MetricsLang metrics_is split_goes n
    (next_completes r_front Front ending_of EndingOf is_before split_goes n (front_completes n)
    (λ q. next_completes r_counting Counting (λ rate. mapped (made q rate) r_splitting) (λ rate. Image (made q rate) Splitting) never split_goes n (counting_completes n)
    (λ rate. mapped_completes (made q rate) r_splitting Splitting split_goes n (splitting_completes n)) (λ rate m ys rest d s. stops_never (ys ++ rest)))
    (λ q m ys rest d s. ending_stops n q m ys rest d)))

metrics_refuses : (n : ℕ) → IsRefusing r_metrics MetricsOf n
metrics_refuses n = relabel_refuses r_metrics MetricsLang MetricsOf metrics_to n (same_refuses r_metrics (next r_front ending_of) MetricsLang metrics_is n
    (next_refuses r_front Front ending_of EndingOf n front_grows
    (λ q. next_occurs r_counting Counting (λ rate. mapped (made q rate) r_splitting) (λ rate. Image (made q rate) Splitting) counting_occurs (λ rate. mapped_occurs (made q rate) r_splitting Splitting splitting_occurs))
    (front_sound n) (front_refuses n)
    (λ q. next_refuses r_counting Counting (λ rate. mapped (made q rate) r_splitting) (λ rate. Image (made q rate) Splitting) n counting_grows (λ rate. mapped_occurs (made q rate) r_splitting Splitting splitting_occurs)
    (counting_sound n) (counting_refuses n) (λ rate. mapped_refuses (made q rate) r_splitting Splitting n (splitting_refuses n)))))

metrics_grow : (n : ℕ) (m : MetricsTree) (ts : List Token) → SpellsMetrics n m ts → SpellsMetrics (suc n) m ts
metrics_grow n m ts (rule.whole {n = k} {q = q} {xs = xs} bar at opened closed w h d) = rule.whole bar at opened closed w h (query_grow k q xs d)
metrics_grow n m ts (rule.split {n = k} {q = q} {e = e} {xs = xs} {ys = ys} bar at opened closed by by_opened by_closed w h d f) =
    rule.split bar at opened closed by by_opened by_closed w h (query_grow k q xs d) (spells_grow Whole_expression k e ys f)

metrics_occurs : Occurs MetricsOf
metrics_occurs n = let o = query_occurs n in (made o.0 true None, o.1 ++ (mark 0 sign.Bar ∷ keyword 0 word.Rate ∷ in_parens 0 [] 0), rule.whole 0 0 0 0 word.Rate refl o.2)

pub metrics_parses : Parses r_metrics SpellsMetrics
metrics_parses = record {
  grows = metrics_grow;
  sound = metrics_sound;
  whole = (λ n m ts d. ap (r_metrics n) (sym (append-nil ts)) ∙ metrics_completes n m ts [] d tt);
  refuses = metrics_refuses;
  occurs = metrics_occurs;
}

-- a text has one list of tokens
pub metrics_tokens_once : (text : List ℕ) (ts us : List Token) → AreTokensOf metrics_words 0 text ts → AreTokensOf metrics_words 0 text us → ts ≡ us
metrics_tokens_once text ts us h k = metrics_tokens_unique 0 text ts us h k
