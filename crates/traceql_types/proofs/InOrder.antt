-- The patterns of a query that was read from a text stand in the text's order.
use Rattle.std.proofs.Common.{◌≡◌, ℕ, ◌+◌, ◌<◌, ◌≤◌, List, [], ◌∷◌, ◌++◌, drop, Bool, true, false, Option, Some, refl, sym, ap, subst, ◌∙◌, arith, append-nil, append_assoc}
use Rattle.std.specs.List.{AllByRecursion, flat_map}
use Rattle.std.proofs.lemmas.Grind.{flat_map-append}
use Rattle.traceql_tokens.specs.declared.fixed.Sign.TheVariants as sign
use Rattle.traceql_tokens.specs.declared.fixed.Word.TheVariants as word
use Rattle.traceql_tokens.specs.declared.kinds.Token.{Token}
use Rattle.traceql_tokens.specs.declared.kinds.TokenKind.{TokenKind}
use Rattle.traceql_tokens.specs.declared.kinds.TokenKind.TheVariants as token
use Rattle.traceql_tokens.specs.declared.fixed.Word.{Word}
use Rattle.traceql_tokens.specs.Tokens.{AreTokensOf, metrics_words, query_words}
use Rattle.traceql_tokens.specs.Walk.{IsTable}
use Rattle.traceql_tokens.proofs.FixedLaws.{word_order, metrics_order}
use Rattle.traceql_tokens.proofs.TokenLaws.{token_sound}
use Rattle.traceql_tokens.proofs.TokensLaws.{Step, goes, stops, steps, blanks_of, left_of}
use Rattle.traceql_syntax.specs.Grammar as rule
use Rattle.traceql_syntax.specs.Grammar.{in_parens, keyword, mark, Class, Spells, SpellsCondition, SetClass, SpellsSet, SpellsAggregate, SpellsThreshold, SpellsStage, SpellsQuery, SpellsMetrics}
use Rattle.traceql_syntax.specs.Refusals.{Reads, ReadsMetrics}
use Rattle.traceql_syntax.specs.Tables.{measure_of}
use Rattle.traceql_syntax.specs.Trees.{Placed, SetTree, AggregateTree, ThresholdTree, Number, Duration, StageTree, QueryTree, MetricsTree, By, run_query}
use Rattle.traceql_types.specs.Asked.{PlacedText, in_expr, in_filter, in_set, in_aggregate, in_threshold, in_stage, asked_patterns}
use Rattle.traceql_types.specs.Checks.{Ascends}
use Rattle.traceql_types.proofs.Calls.{all-weaker}
use Rattle.traceql_types.proofs.Flat.{flat_map-single}

-- The tokens of a text.

abbrev Rises : List Token → Type 0
Rises [] = Unit {0}
Rises (t ∷ ts) = AllByRecursion (λ (u : Token). t.at < u.at) ts × Rises ts

module _ (words : List Word) (ordered : IsTable words) where
  rises : (at : ℕ) (text : List ℕ) (ts : List Token) → AreTokensOf words at text ts → AllByRecursion (λ (t : Token). at ≤ t.at) ts × Rises ts
  rises at text [] h = (tt, tt)
  rises at text (t ∷ ts) h = by_step (λ next later more. rises next later ts more) (steps words ordered at text t ts h)
    where
      by_step : ((next : ℕ) (later : List ℕ) → AreTokensOf words next later ts → AllByRecursion (λ (u : Token). next ≤ u.at) ts × Rises ts)
          → Step words at text t ts → AllByRecursion (λ (u : Token). at ≤ u.at) (t ∷ ts) × Rises (t ∷ ts)
      by_step rest (goes r found here kind more) =
          let ahead = rest (at + blanks_of text + r.1) (drop r.1 (left_of text)) more in
          let some : 0 < r.1 = (token_sound words (at + blanks_of text) (left_of text) r found).some in
          let far = λ (P : Token → Type 0) (w : (u : Token) → at + blanks_of text + r.1 ≤ u.at → P u). all-weaker (λ (u : Token). at + blanks_of text + r.1 ≤ u.at) P w ts ahead.0 in (
            (omega (arith, here), far (λ u. at ≤ u.at) (λ u low. omega (arith, low))),
            (far (λ u. t.at < u.at) (λ u low. omega (arith, low, here, some)), ahead.1),
          )
      by_step rest (stops none more here kind end) = subst (λ us. AllByRecursion (λ (u : Token). at ≤ u.at) (t ∷ us) × Rises (t ∷ us)) (sym end) ((omega (arith, here), tt), (tt, tt))

-- Patterns that stand among tokens, in their order.
data Among : List PlacedText → List Token → Type 0 where
  none : Among [] []
  skip : {ms : List PlacedText} {ts : List Token} (t : Token) → Among ms ts → Among ms (t ∷ ts)
  take : {ms : List PlacedText} {ts : List Token} (m : PlacedText) (t : Token) → m.0 ≡ t.at → Among ms ts → Among (m ∷ ms) (t ∷ ts)

no_patterns : (ts : List Token) → Among [] ts
no_patterns [] = none
no_patterns (t ∷ ts) = skip t (no_patterns ts)

joined : {ms ns : List PlacedText} {ts us : List Token} → Among ms ts → Among ns us → Among (ms ++ ns) (ts ++ us)
joined none k = k
joined (skip t h) k = skip t (joined h k)
joined (take m t e h) k = take m t e (joined h k)

longer : {ms : List PlacedText} {ts : List Token} (us : List Token) → Among ms ts → Among ms (ts ++ us)
longer us none = no_patterns us
longer us (skip t h) = skip t (longer us h)
longer us (take m t e h) = take m t e (longer us h)

behind : {ms : List PlacedText} {ts : List Token} (at : ℕ) → Among ms ts → AllByRecursion (λ (u : Token). at < u.at) ts → AllByRecursion (λ (n : PlacedText). at < n.0) ms
behind at none h = tt
behind at (skip t k) h = behind at k h.1
behind at (take m t e k) h = (let low : at < t.at = h.0 in omega (arith, low, e), behind at k h.1)

ascends : {ms : List PlacedText} {ts : List Token} → Among ms ts → Rises ts → Ascends ms
ascends none h = tt
ascends (skip t k) h = ascends k h.1
ascends (take {ts = us} m t e k) h = (behind m.0 k (subst (λ (z : ℕ). AllByRecursion (λ (u : Token). z < u.at) us) (sym e) h.0), ascends k h.1)

-- The patterns of what tokens spell.

expr_among : {n : ℕ} {c : Class} {e : Placed} {ts : List Token} → Spells n c e ts → Among (in_expr e.1) ts
expr_among (rule.literal t h) = no_patterns (t ∷ [])
expr_among (rule.field t h) = no_patterns (t ∷ [])
expr_among (rule.parens opened closed d) = skip _ (longer _ (expr_among d))
expr_among (rule.prefix at s h d) = skip _ (expr_among d)
expr_among (rule.atom d) = expr_among d
expr_among (rule.power at d f) = joined (expr_among d) (skip _ (expr_among f))
expr_among (rule.lone d) = expr_among d
expr_among (rule.left l at s h d f) = joined (expr_among d) (skip _ (expr_among f))
expr_among (rule.match at s pattern_at pattern h d) = joined (expr_among d) (skip _ (take (pattern_at, pattern) _ refl none))
expr_among (rule.single l d) = expr_among d

filter_among : {n : ℕ} {c : Option Placed} {ts : List Token} → SpellsCondition n c ts → Among (in_filter c) ts
filter_among rule.empty = none
filter_among (rule.condition d) = expr_among d

set_among : {n : ℕ} {c : SetClass} {e : SetTree} {ts : List Token} → SpellsSet n c e ts → Among (in_set e) ts
set_among (rule.filter opened closed d) = skip _ (longer _ (filter_among d))
set_among (rule.set_parens opened closed d) = skip _ (longer _ (set_among d))
set_among (rule.set_left l at s h d f) = joined (set_among d) (skip _ (set_among f))
set_among (rule.set_single l d) = set_among d

aggregate_among : {n : ℕ} {a : AggregateTree} {ts : List Token} → SpellsAggregate n a ts → Among (in_aggregate a) ts
aggregate_among (rule.count at opened closed) = no_patterns _
aggregate_among (rule.of at w opened closed h d) = skip _ (skip _ (longer _ (expr_among d)))

some_is : {X : Type 0} (a b : X) → (let x : Option X = Some a in x ≡ Some b) → a ≡ b
some_is a b h = cc

measure_among : (negative : Bool) (at : ℕ) (k : TokenKind) (b : ThresholdTree) (ts : List Token) → measure_of negative at k ≡ Some b → Among (in_threshold b) ts
measure_among negative at (token.Number n) b ts h = subst (λ z. Among (in_threshold z) ts) (some_is (Number at negative n) b h) (no_patterns ts)
measure_among negative at (token.Duration n) b ts h = subst (λ z. Among (in_threshold z) ts) (some_is (Duration at negative n) b h) (no_patterns ts)
measure_among negative at _ b ts h = absurd (cc)

threshold_among : {n : ℕ} {b : ThresholdTree} {ts : List Token} → SpellsThreshold n b ts → Among (in_threshold b) ts
threshold_among (rule.aggregate d) = aggregate_among d
threshold_among (rule.plain t h) = measure_among false t.at t.kind _ _ h
threshold_among (rule.minus at t h) = measure_among true t.at t.kind _ _ h

stage_among : {n : ℕ} {s : StageTree} {ts : List Token} → SpellsStage n s ts → Among (in_stage s) ts
stage_among (rule.keep opened closed d) = skip _ (longer _ (filter_among d))
stage_among (rule.by at opened closed d) = skip _ (skip _ (longer _ (expr_among d)))
stage_among (rule.coalesce at opened closed) = no_patterns _
stage_among (rule.select at opened closed d) = no_patterns _
stage_among (rule.compare at s h d f) = joined (aggregate_among d) (skip _ (threshold_among f))

stages_more : (q : QueryTree) (s : StageTree) → asked_patterns (record { spansets = q.spansets; stages = q.stages ++ s ∷ [] }) ≡ asked_patterns q ++ in_stage s
stages_more q s =
    ap (λ z. in_set q.spansets ++ z) (flat_map-append in_stage q.stages (s ∷ []) ∙ ap (λ z. flat_map in_stage q.stages ++ z) (flat_map-single in_stage s))
    ∙ sym (append_assoc (in_set q.spansets) (flat_map in_stage q.stages) (in_stage s))

query_among : {n : ℕ} {q : QueryTree} {ts : List Token} → SpellsQuery n q ts → Among (asked_patterns q) ts
query_among (rule.start {e = e} {ts = ts} d) = subst (λ z. Among z ts) (sym (append-nil (in_set e))) (set_among d)
query_among (rule.piped {q = q} {s = s} {xs = xs} {ys = ys} at d f) =
    subst (λ z. Among z (xs ++ mark at sign.Bar ∷ ys)) (sym (stages_more q s)) (joined (query_among d) (skip _ (stage_among f)))

pub reads_ascend : (depth : ℕ) (text : List ℕ) (q : QueryTree) → Reads depth text q → Ascends (asked_patterns q)
reads_ascend depth text q r = ascends (query_among r.spelled) (rises query_words word_order 0 text r.tokens r.lexed).1

-- The patterns of the query that is run for a metrics query stand among its tokens, those of `by` after the others.
metrics_among : {n : ℕ} {m : MetricsTree} {ts : List Token} → SpellsMetrics n m ts → Among (asked_patterns (run_query m.query m.by)) ts
metrics_among (rule.whole bar at opened closed w h d) = longer _ (query_among d)
metrics_among (rule.split {q = q} {e = e} {xs = xs} {ys = ys} bar at opened closed by by_opened by_closed w h d f) =
    subst (λ z. Among z (xs ++ mark bar sign.Bar ∷ keyword at w ∷ (in_parens opened [] closed ++ keyword by word.By ∷ in_parens by_opened ys by_closed))) (sym (stages_more q (By e)))
    (joined (query_among d) (skip _ (skip _ (skip _ (skip _ (skip _ (skip _ (longer _ (expr_among f)))))))))

pub metrics_ascend : (depth : ℕ) (text : List ℕ) (m : MetricsTree) → ReadsMetrics depth text m → Ascends (asked_patterns (run_query m.query m.by))
metrics_ascend depth text m r = ascends (metrics_among r.spelled) (rises metrics_words metrics_order 0 text r.tokens r.lexed).1
