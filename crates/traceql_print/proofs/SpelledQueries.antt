-- The same for expressions over spansets, stages and whole queries.
use Rattle.std.proofs.Common.{◌≡◌, ℕ, zero, suc, ◌≤◌, Bool, true, false, List, [], ◌∷◌, ◌++◌, map, Option, Some, None, refl, ap, ap₂, sym, subst, ◌∙◌, arith, append_assoc, append-nil}
use Rattle.std.specs.List.{AllByRecursion}
use Rattle.traceql_tokens.specs.declared.fixed.Sign.TheVariants as sign
use Rattle.traceql_tokens.specs.declared.fixed.Word.TheVariants as word
use Rattle.traceql_tokens.specs.declared.kinds.Token.{Token}
use Rattle.traceql_tokens.specs.declared.kinds.TokenKind.{TokenKind}
use Rattle.traceql_tokens.specs.declared.kinds.TokenKind.TheVariants as token
use Rattle.traceql_syntax.specs.declared.field.Field.{Field}
use Rattle.traceql_syntax.specs.declared.query.AggregateOp.{AggregateOp}
use Rattle.traceql_syntax.specs.declared.query.AggregateOp.TheVariants as aggregate
use Rattle.traceql_syntax.specs.declared.query.Relation.{Relation}
use Rattle.traceql_syntax.specs.declared.query.Relation.TheVariants as relation
use Rattle.traceql_syntax.specs.declared.query.Side.{Side}
use Rattle.traceql_syntax.specs.declared.query.Side.TheVariants as side
use Rattle.traceql_syntax.specs.declared.query.SpansetLevel.TheVariants as set_level
use Rattle.traceql_syntax.specs.declared.query.SpansetOp.{SpansetOp}
use Rattle.traceql_syntax.specs.declared.query.SpansetOp.TheVariants as set
use Rattle.traceql_syntax.specs.Grammar as rule
use Rattle.traceql_syntax.specs.Grammar.{mark, SetClass, Part, Sets, SpellsCondition, SpellsSet, SpellsAggregate, SpellsThreshold, SpellsFields, SpellsStage, SpellsQuery}
use Rattle.traceql_syntax.specs.Tables as table
use Rattle.traceql_syntax.specs.Trees.{Placed, SetTree, Filter, Join, AggregateTree, Count, Of, ThresholdTree, Aggregate, Number, Duration, StageTree, Keep, By, Coalesce, Select, Compare, QueryTree, bare_option, bare_set, bare_aggregate, bare_threshold, bare_stage, bare_query}
use Rattle.traceql_print.specs.Signs.{set_sign, related_sign, comparison_sign, aggregate_word, field_kind}
use Rattle.traceql_print.specs.Depth.{operand_depth, condition_depth, set_depth, aggregate_depth, threshold_depth, stage_depth, stages_depth, query_depth}
use Rattle.traceql_print.specs.Kinds.{operand, expr_kinds, condition_kinds, is_join, set_kinds, aggregate_kinds, signed, threshold_kinds, more_fields_kinds, fields_kinds, stage_kinds, stages_kinds, query_kinds}
use Rattle.traceql_print.proofs.Lexed.{AreOf}
use Rattle.traceql_print.proofs.Split.{here, head_of, lone_of, split_of, around_of, between_of, call_of, call_bare}
use Rattle.traceql_print.proofs.Spelled.{max-left, max-right, whole_spelt, field_is, comparison_is}

-- Conditions of filters.

pub record SpeltCondition (n : ℕ) (c : Option Placed) (us : List Token) : Type 0 where
  pub found : Option Placed
  pub spelled : SpellsCondition n found us
  pub same : bare_option found ≡ bare_option c

condition_spelt : (c : Option Placed) (n : ℕ) → condition_depth c ≤ n → (us : List Token) → AreOf (condition_kinds c) us → SpeltCondition n c us
condition_spelt None n h [] e = record { found = None; spelled = rule.empty; same = refl }
condition_spelt None n h (u ∷ us) e = absurd (cc)
condition_spelt (Some x) n h us e =
    let s = whole_spelt x.1 n h us e in
    record { found = Some s.found; spelled = rule.condition s.spelled; same = ap (λ y. Some (0, y)) s.same }

-- Expressions over spansets.

pub record SpeltSet (n : ℕ) (c : SetClass) (t : SetTree) (us : List Token) : Type 0 where
  pub found : SetTree
  pub spelled : SpellsSet n c found us
  pub same : bare_set found ≡ bare_set t

set_retold : {n : ℕ} {c : SetClass} {t : SetTree} {us vs : List Token} → us ≡ vs → SpeltSet n c t vs → SpeltSet n c t us
set_retold {n} {c} {t} e s = subst (λ x. SpeltSet n c t x) (sym e) s

abbrev pub set_class : (join : Bool) → SetClass
set_class true = Sets set_level.Union
set_class false = Part

to_structure : {n : ℕ} {e : SetTree} {ts : List Token} → SpellsSet n Part e ts → SpellsSet n (Sets set_level.Structure) e ts
to_structure d = rule.set_single set_level.Structure d

to_union : {n : ℕ} {e : SetTree} {ts : List Token} → SpellsSet n Part e ts → SpellsSet n (Sets set_level.Union) e ts
to_union d = rule.set_single set_level.Union (to_structure d)

related_is : (r : Relation) (s : Side) → table.structure_sign (related_sign r s) ≡ Some (set.Related r s)
related_is relation.Child side.Right = refl
related_is relation.Child side.Unrelated = refl
related_is relation.Child side.Both = refl
related_is relation.Descendant side.Right = refl
related_is relation.Descendant side.Unrelated = refl
related_is relation.Descendant side.Both = refl
related_is relation.Parent side.Right = refl
related_is relation.Parent side.Unrelated = refl
related_is relation.Parent side.Both = refl
related_is relation.Ancestor side.Right = refl
related_is relation.Ancestor side.Unrelated = refl
related_is relation.Ancestor side.Both = refl
related_is relation.Sibling side.Right = refl
related_is relation.Sibling side.Unrelated = refl
related_is relation.Sibling side.Both = refl

join_spelled : {n : ℕ} {a b : SetTree} {xs ys : List Token} (op : SpansetOp) (at : ℕ) → SpellsSet n Part a xs → SpellsSet n Part b ys → SpellsSet n (Sets set_level.Union) (Join at op a b) (xs ++ mark at (set_sign op) ∷ ys)
join_spelled set.And at d f = rule.set_left set_level.Union at sign.AmpAmp refl (to_union d) (to_structure f)
join_spelled set.Or at d f = rule.set_left set_level.Union at sign.BarBar refl (to_union d) (to_structure f)
join_spelled (set.Related r s) at d f = rule.set_single set_level.Union (rule.set_left set_level.Structure at (related_sign r s) (related_is r s) (to_structure d) f)

set_operand_spelt : (b : Bool) (t : SetTree) (ks : List TokenKind) (m : ℕ) → ((n : ℕ) → m ≤ n → (us : List Token) → AreOf ks us → SpeltSet n (set_class b) t us) → (n : ℕ) → operand_depth b m ≤ n → (us : List Token) → AreOf (operand b ks) us → SpeltSet n Part t us
set_operand_spelt false t ks m claim n h us e = claim n h us e
set_operand_spelt true t ks m claim zero h us e = absurd (omega arith)
set_operand_spelt true t ks m claim (suc n) h us e =
    let p = between_of (token.Mark sign.OpenParen) ks (token.Mark sign.CloseParen) us e in
    let s = claim n (omega arith) p.inner p.inside in
    set_retold p.whole (record { found = s.found; spelled = rule.set_parens p.first p.last s.spelled; same = s.same })

set_spelt : (t : SetTree) (n : ℕ) → set_depth t ≤ n → (us : List Token) → AreOf (set_kinds t) us → SpeltSet n (set_class (is_join t)) t us
set_spelt (Filter at c) n h us e =
    let p = between_of (token.Mark sign.OpenBrace) (condition_kinds c) (token.Mark sign.CloseBrace) us e in
    let s = condition_spelt c n h p.inner p.inside in
    set_retold p.whole (record { found = Filter p.first s.found; spelled = rule.filter p.first p.last s.spelled; same = ap (λ x. Filter 0 x) s.same })
set_spelt (Join at op a b) n h us e =
    let p = around_of (operand (is_join a) (set_kinds a)) (token.Mark (set_sign op)) (operand (is_join b) (set_kinds b)) us e in
    let x = set_operand_spelt (is_join a) a (set_kinds a) (set_depth a) (set_spelt a) n (max-left _ _ _ h) p.front p.left in
    let y = set_operand_spelt (is_join b) b (set_kinds b) (set_depth b) (set_spelt b) n (max-right _ _ _ h) p.back p.right in
    set_retold p.whole (record { found = Join p.at op x.found y.found; spelled = join_spelled op p.at x.spelled y.spelled; same = ap₂ (λ u v. Join 0 op u v) x.same y.same })

union_spelt : (t : SetTree) (n : ℕ) → set_depth t ≤ n → (us : List Token) → AreOf (set_kinds t) us → SpeltSet n (Sets set_level.Union) t us
union_spelt t n h us e = by_test (is_join t) (set_spelt t n h us e)
  where
    by_test : (b : Bool) → SpeltSet n (set_class b) t us → SpeltSet n (Sets set_level.Union) t us
    by_test true s = s
    by_test false s = record { found = s.found; spelled = to_union s.spelled; same = s.same }

-- Aggregates and what they are compared with.

pub record SpeltAggregate (n : ℕ) (a : AggregateTree) (us : List Token) : Type 0 where
  pub found : AggregateTree
  pub spelled : SpellsAggregate n found us
  pub same : bare_aggregate found ≡ bare_aggregate a

aggregate_is : (op : AggregateOp) → table.aggregate_word (aggregate_word op) ≡ Some op
aggregate_is aggregate.Average = refl
aggregate_is aggregate.Least = refl
aggregate_is aggregate.Greatest = refl
aggregate_is aggregate.Sum = refl

aggregate_spelt : (a : AggregateTree) (n : ℕ) → aggregate_depth a ≤ n → (us : List Token) → AreOf (aggregate_kinds a) us → SpeltAggregate n a us
aggregate_spelt Count zero h us e = absurd (omega arith)
aggregate_spelt Count (suc n) h us e =
    let p = call_of word.Count [] us e in
    subst (λ x. SpeltAggregate (suc n) Count x) (sym (call_bare word.Count us p)) (record { found = Count; spelled = rule.count p.at p.opened p.closed; same = refl })
aggregate_spelt (Of op e) zero h us k = absurd (omega arith)
aggregate_spelt (Of op e) (suc n) h us k =
    let p = call_of (aggregate_word op) (expr_kinds e.1) us k in
    let s = whole_spelt e.1 n (omega arith) p.inner p.inside in
    subst (λ x. SpeltAggregate (suc n) (Of op e) x) (sym p.whole) (record { found = Of op s.found; spelled = rule.of p.at (aggregate_word op) p.opened p.closed (aggregate_is op) s.spelled; same = ap (λ y. Of op (0, y)) s.same })

pub record SpeltThreshold (n : ℕ) (b : ThresholdTree) (us : List Token) : Type 0 where
  pub found : ThresholdTree
  pub spelled : SpellsThreshold n found us
  pub same : bare_threshold found ≡ bare_threshold b

-- a number or a duration, wherever it stands
measure_spelt : (negative : Bool) (k : TokenKind) (b : ℕ → ThresholdTree) → ((at : ℕ) → table.measure_of negative at k ≡ Some (b at)) → ((at place : ℕ) → bare_threshold (b at) ≡ bare_threshold (b place)) → (n : ℕ) (place : ℕ) (us : List Token) → AreOf (signed negative k) us → SpeltThreshold n (b place) us
measure_spelt false k b h same n place us e =
    let o = lone_of k us e in
    subst (λ x. SpeltThreshold n (b place) x) (sym o.whole) (record { found = b o.at; spelled = rule.plain (here o.at k) (h o.at); same = same o.at place })
measure_spelt true k b h same n place us e =
    let p = head_of (token.Mark sign.Minus) (k ∷ []) us e in
    let o = lone_of k p.rest p.behind in
    subst (λ x. SpeltThreshold n (b place) x) (sym (p.whole ∙ ap (λ r. mark p.at sign.Minus ∷ r) o.whole)) (record { found = b o.at; spelled = rule.minus p.at (here o.at k) (h o.at); same = same o.at place })

threshold_spelt : (b : ThresholdTree) (n : ℕ) → threshold_depth b ≤ n → (us : List Token) → AreOf (threshold_kinds b) us → SpeltThreshold n b us
threshold_spelt (Aggregate a) n h us e = let s = aggregate_spelt a n h us e in record { found = Aggregate s.found; spelled = rule.aggregate s.spelled; same = ap Aggregate s.same }
threshold_spelt (Number at negative m) n h us e = measure_spelt negative (token.Number m) (λ at. Number at negative m) (λ at. refl) (λ at place. refl) n at us e
threshold_spelt (Duration at negative m) n h us e = measure_spelt negative (token.Duration m) (λ at. Duration at negative m) (λ at. refl) (λ at place. refl) n at us e

-- The fields of a `select`.

fields_more : (fs gs : List Field) (ts us : List Token) → SpellsFields gs ts → AreOf (more_fields_kinds fs) us → SpellsFields (gs ++ fs) (ts ++ us)
fields_more [] gs ts [] d e = subst (λ x. SpellsFields x (ts ++ [])) (sym (append-nil gs)) (subst (λ x. SpellsFields gs x) (sym (append-nil ts)) d)
fields_more [] gs ts (u ∷ us) d e = absurd (cc)
fields_more (f ∷ fs) gs ts us d e =
    let p = head_of (token.Mark sign.Comma) (field_kind f ∷ more_fields_kinds fs) us e in
    let o = head_of (field_kind f) (more_fields_kinds fs) p.rest p.behind in
    let front = mark p.at sign.Comma ∷ here o.at (field_kind f) ∷ [] in
    let d' : SpellsFields (gs ++ f ∷ []) (ts ++ front) = rule.more p.at (here o.at (field_kind f)) d (field_is f) in
    let whole : us ≡ front ++ o.rest = p.whole ∙ ap (λ r. mark p.at sign.Comma ∷ r) o.whole in
    let long : SpellsFields ((gs ++ f ∷ []) ++ fs) ((ts ++ front) ++ o.rest) = fields_more fs (gs ++ f ∷ []) (ts ++ front) o.rest d' o.behind in
    subst (λ x. SpellsFields x (ts ++ us)) (append_assoc gs (f ∷ []) fs)
    (subst (λ x. SpellsFields ((gs ++ f ∷ []) ++ fs) x) (append_assoc ts front o.rest ∙ ap (λ r. ts ++ r) (sym whole)) long)

fields_spelt : (fs : List Field) → (fs ≡ [] → ⊥) → (us : List Token) → AreOf (fields_kinds fs) us → SpellsFields fs us
fields_spelt [] some us e = absurd (some refl)
fields_spelt (f ∷ fs) some us e =
    let p = head_of (field_kind f) (more_fields_kinds fs) us e in
    subst (λ x. SpellsFields (f ∷ fs) x) (sym p.whole) (fields_more fs (f ∷ []) (here p.at (field_kind f) ∷ []) p.rest (rule.only (here p.at (field_kind f)) (field_is f)) p.behind)

-- Stages and queries.

-- a `select` has a field
abbrev pub HasFields : StageTree → Type 0
HasFields (Select fs) = fs ≡ [] → ⊥
HasFields _ = Unit {0}

pub record SpeltStage (n : ℕ) (s : StageTree) (us : List Token) : Type 0 where
  pub found : StageTree
  pub spelled : SpellsStage n found us
  pub same : bare_stage found ≡ bare_stage s

stage_retold : {n : ℕ} {s : StageTree} {us vs : List Token} → us ≡ vs → SpeltStage n s vs → SpeltStage n s us
stage_retold {n} {s} e x = subst (λ ts. SpeltStage n s ts) (sym e) x

stage_spelt : (s : StageTree) → HasFields s → (n : ℕ) → stage_depth s ≤ n → (us : List Token) → AreOf (stage_kinds s) us → SpeltStage n s us
stage_spelt (Keep at c) f n h us e =
    let p = between_of (token.Mark sign.OpenBrace) (condition_kinds c) (token.Mark sign.CloseBrace) us e in
    let s = condition_spelt c n h p.inner p.inside in
    stage_retold p.whole (record { found = Keep p.first s.found; spelled = rule.keep p.first p.last s.spelled; same = ap (λ x. Keep 0 x) s.same })
stage_spelt (By e) f zero h us k = absurd (omega arith)
stage_spelt (By e) f (suc n) h us k =
    let p = call_of word.By (expr_kinds e.1) us k in
    let s = whole_spelt e.1 n (omega arith) p.inner p.inside in
    stage_retold p.whole (record { found = By s.found; spelled = rule.by p.at p.opened p.closed s.spelled; same = ap (λ x. By (0, x)) s.same })
stage_spelt Coalesce f zero h us k = absurd (omega arith)
stage_spelt Coalesce f (suc n) h us k =
    let p = call_of word.Coalesce [] us k in
    stage_retold (call_bare word.Coalesce us p) (record { found = Coalesce; spelled = rule.coalesce p.at p.opened p.closed; same = refl })
stage_spelt (Select fs) f zero h us k = absurd (omega arith)
stage_spelt (Select fs) f (suc n) h us k =
    let p = call_of word.Select (fields_kinds fs) us k in
    stage_retold p.whole (record { found = Select fs; spelled = rule.select p.at p.opened p.closed (fields_spelt fs f p.inner p.inside); same = refl })
stage_spelt (Compare a at op b) f n h us k =
    let p = around_of (aggregate_kinds a) (token.Mark (comparison_sign op)) (threshold_kinds b) us k in
    let x = aggregate_spelt a n (max-left _ _ _ h) p.front p.left in
    let y = threshold_spelt b n (max-right _ _ _ h) p.back p.right in
    stage_retold p.whole (record { found = Compare x.found p.at op y.found; spelled = rule.compare p.at (comparison_sign op) (comparison_is op) x.spelled y.spelled; same = ap₂ (λ u v. Compare u 0 op v) x.same y.same })

pub record SpeltQuery (n : ℕ) (q : QueryTree) (us : List Token) : Type 0 where
  pub found : QueryTree
  pub spelled : SpellsQuery n found us
  pub same : bare_query found ≡ bare_query q

-- a stage that is told again, between others
between_same : (xs zs : List StageTree) (y s : StageTree) → bare_stage y ≡ bare_stage s → map bare_stage ((xs ++ y ∷ []) ++ zs) ≡ map bare_stage (xs ++ s ∷ zs)
between_same [] zs y s e = ap (λ x. x ∷ map bare_stage zs) e
between_same (x ∷ xs) zs y s e = ap (λ r. bare_stage x ∷ r) (between_same xs zs y s e)

-- what stands after a query that is spelled already
stages_spelt : (ss : List StageTree) → AllByRecursion HasFields ss → (q : QueryTree) (n : ℕ) → stages_depth ss ≤ n → (ts us : List Token) → SpellsQuery n q ts → AreOf (stages_kinds ss) us → SpeltQuery n (record { spansets = q.spansets; stages = q.stages ++ ss }) (ts ++ us)
stages_spelt [] f q n h ts [] d e =
    record { found = q; spelled = subst (λ x. SpellsQuery n q x) (sym (append-nil ts)) d; same = ap (λ l. bare_query (record { spansets = q.spansets; stages = l })) (sym (append-nil q.stages)) }
stages_spelt [] f q n h ts (u ∷ us) d e = absurd (cc)
stages_spelt (s ∷ ss) f q n h ts us d e =
    let p = split_of (token.Mark sign.Bar ∷ stage_kinds s) (stages_kinds ss) us e in
    let b = head_of (token.Mark sign.Bar) (stage_kinds s) p.front p.left in
    let x = stage_spelt s f.0 n (max-left _ _ _ h) b.rest b.behind in
    let front = ts ++ (mark b.at sign.Bar ∷ b.rest) in
    let more = stages_spelt ss f.1 (record { spansets = q.spansets; stages = q.stages ++ x.found ∷ [] }) n (max-right _ _ _ h) front p.back (rule.piped b.at d x.spelled) p.right in
    let whole : front ++ p.back ≡ ts ++ us = append_assoc ts (mark b.at sign.Bar ∷ b.rest) p.back ∙ ap (λ r. ts ++ r) (ap (λ r. r ++ p.back) (sym b.whole) ∙ sym p.whole) in
    record {
      found = more.found;
      spelled = subst (λ r. SpellsQuery n more.found r) whole more.spelled;
      same = more.same ∙ ap (λ (l : List StageTree). record { spansets = bare_set q.spansets; stages = l }) (between_same q.stages ss x.found s x.same);
    }

pub query_spelt : (q : QueryTree) → AllByRecursion HasFields q.stages → (us : List Token) → AreOf (query_kinds q) us → (n : ℕ) → query_depth q ≤ n → SpeltQuery n q us
query_spelt q f us e n h =
    let p = split_of (set_kinds q.spansets) (stages_kinds q.stages) us e in
    let x = union_spelt q.spansets n (max-left _ _ _ h) p.front p.left in
    let y = stages_spelt q.stages f (record { spansets = x.found; stages = [] }) n (max-right _ _ _ h) p.front p.back (rule.start x.spelled) p.right in
    record {
      found = y.found;
      spelled = subst (λ r. SpellsQuery n y.found r) (sym p.whole) y.spelled;
      same = y.same ∙ ap (λ (u : SetTree). record { spansets = u; stages = map bare_stage q.stages }) x.same;
    }
