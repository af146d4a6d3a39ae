-- How far all is gone through.
use Rattle.std.proofs.Common.{◌≡◌, Bool, true, false, List, [], ◌∷◌, All, refl, sym, ap, ◌∙◌, subst}
use Rattle.std.specs.Ordering.{is_eq, is_le, is_lt, ordering_reverse}
use Rattle.std.specs.declared.cmp.Ordering.{Ordering}
use Rattle.std.specs.declared.cmp.Ordering.TheVariants.{Less, Equal, Greater}
use Rattle.std.proofs.lemmas.Cmp.{tied_itself}
use Rattle.std.proofs.lemmas.List.Elements.{All-head}
use Rattle.span_types.specs.Orders.{trace_cmp}
use Rattle.span_types.specs.declared.ids.TraceId.{TraceId}
use Rattle.search_answer.proofs.Fronts.{same_trace, trace_cmp_total}
use Rattle.query_fanout.specs.Rounds.{goes_to, is_all, is_below}
use Rattle.query_fanout.specs.declared.reach.Reach.{Reach}
use Rattle.query_fanout.specs.declared.reach.Reach.TheVariants.{Nothing, Upto, Whole}

less : (o : Ordering) → is_lt o ≡ true → o ≡ Less
less Less is = refl
less Equal is = cc
less Greater is = cc

not_less : (o : Ordering) → is_lt o ≡ false → is_le (ordering_reverse o) ≡ true
not_less Less is = cc
not_less Equal is = refl
not_less Greater is = refl

-- before one that isn't after the other is before the other
before_too : (a b c : TraceId) → trace_cmp a b ≡ Less → is_le (trace_cmp b c) ≡ true → trace_cmp a c ≡ Less
before_too a b c one two = (elim (trace_cmp b c) as (λ (o : Ordering). trace_cmp b c ≡ o → trace_cmp a c ≡ Less) [
  | Less ↦ λ t. trace_cmp_total.trans a b c one t
  | Equal ↦ λ t. subst (λ (id : TraceId). trace_cmp a id ≡ Less) (same_trace b c (ap is_eq t)) one
  | Greater ↦ λ t. let bad : false ≡ true = sym (ap is_le t) ∙ two in cc
]) refl

-- what is gone through stays so if more is
pub wider : (a b : Reach) (id : TraceId) → goes_to a b ≡ true → is_below a id ≡ true → is_below b id ≡ true
wider Nothing b id to is = cc
wider (Upto x) Nothing id to is = cc
wider (Upto x) (Upto y) id to is = ap is_lt (before_too id x y (less (trace_cmp id x) is) to)
wider (Upto x) Whole id to is = refl
wider Whole Nothing id to is = cc
wider Whole (Upto y) id to is = cc
wider Whole Whole id to is = refl

-- and what isn't gone through wasn't before
pub above_too : (a b : Reach) (id : TraceId) → goes_to a b ≡ true → is_below b id ≡ false → is_below a id ≡ false
above_too a b id to is = (elim (is_below a id) as (λ (t : Bool). is_below a id ≡ t → t ≡ false) [
  | true ↦ λ t. sym (wider a b id to t) ∙ is
  | false ↦ λ t. refl
]) refl

-- after one that isn't gone through none is
pub after_above : (a : Reach) (x y : TraceId) → trace_cmp x y ≡ Less → is_below a x ≡ false → is_below a y ≡ false
after_above Nothing x y before above = refl
after_above (Upto b) x y before above = (elim (is_lt (trace_cmp y b)) as (λ (t : Bool). is_lt (trace_cmp y b) ≡ t → t ≡ false) [
  | true ↦ λ t. sym (ap is_lt (trace_cmp_total.trans x y b before (less (trace_cmp y b) t))) ∙ above
  | false ↦ λ t. refl
]) refl
after_above Whole x y before above = cc

-- what is gone through is before what isn't
pub apart : (a : Reach) (x y : TraceId) → is_below a x ≡ true → is_below a y ≡ false → trace_cmp x y ≡ Less
apart Nothing x y below above = cc
apart (Upto b) x y below above =
    before_too x b y (less (trace_cmp x b) below) (ap is_le (trace_cmp_total.antisymm b y) ∙ not_less (trace_cmp y b) above)
apart Whole x y below above = cc

-- either one goes no further than the other
pub no_further : (a b : Reach) → goes_to a b ≡ false → goes_to b a ≡ true
no_further Nothing b not = cc
no_further (Upto x) Nothing not = refl
no_further (Upto x) (Upto y) not = ap is_le (trace_cmp_total.antisymm y x) ∙ turned (trace_cmp x y) not
  where
    turned : (o : Ordering) → is_le o ≡ false → is_le (ordering_reverse o) ≡ true
    turned Less is = cc
    turned Equal is = cc
    turned Greater is = refl
no_further (Upto x) Whole not = cc
no_further Whole Nothing not = refl
no_further Whole (Upto y) not = refl
no_further Whole Whole not = cc

pub to_itself : (a : Reach) → goes_to a a ≡ true
to_itself Nothing = refl
to_itself (Upto x) = ap is_le (tied_itself trace_cmp_total x)
to_itself Whole = refl

pub to_further : (a b c : Reach) → goes_to a b ≡ true → goes_to b c ≡ true → goes_to a c ≡ true
to_further Nothing b c one two = refl
to_further (Upto x) Nothing c one two = cc
to_further (Upto x) (Upto y) Nothing one two = cc
to_further (Upto x) (Upto y) (Upto z) one two = (elim (trace_cmp x y) as (λ (o : Ordering). trace_cmp x y ≡ o → is_le (trace_cmp x z) ≡ true) [
  | Less ↦ λ t. ap is_le (before_too x y z t two)
  | Equal ↦ λ t. ap (λ (id : TraceId). is_le (trace_cmp id z)) (same_trace x y (ap is_eq t)) ∙ two
  | Greater ↦ λ t. let bad : false ≡ true = sym (ap is_le t) ∙ one in cc
]) refl
to_further (Upto x) (Upto y) Whole one two = refl
to_further (Upto x) Whole Nothing one two = cc
to_further (Upto x) Whole (Upto z) one two = cc
to_further (Upto x) Whole Whole one two = refl
to_further Whole Nothing c one two = cc
to_further Whole (Upto y) c one two = cc
to_further Whole Whole c one two = two

pub at_whole : (a : Reach) → goes_to Whole a ≡ true → a ≡ Whole
at_whole Nothing is = cc
at_whole (Upto x) is = cc
at_whole Whole is = refl

pub is_whole : (a : Reach) → is_all a ≡ true → a ≡ Whole
is_whole Nothing is = cc
is_whole (Upto x) is = cc
is_whole Whole is = refl

-- nothing stands above all
pub none_above : {X : Type 0} (f : X → TraceId) (xs : List X) → All (λ x. is_below Whole (f x) ≡ false) xs → xs ≡ []
none_above f [] are = refl
none_above f (x ∷ xs) are = let bad : true ≡ false = All-head (λ y. is_below Whole (f y) ≡ false) x xs are in cc
