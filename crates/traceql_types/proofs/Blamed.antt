-- Which texts a maker refused where a query was refused, and how many.
use Rattle.std.proofs.Common.{◌≡◌, ℕ, suc, ◌+◌, ◌-◌, ◌^◌, ◌<◌, min, Bool, true, false, List, [], ◌∷◌, ◌++◌, length, Err, if◌then◌else◌, refl, sym, ap, subst, ◌∙◌, rules, arith}
use Rattle.std.specs.Prelude.{Contains}
use Rattle.std.proofs.lemmas.List.Elements.{Contains-append_right}
use Rattle.traceql_syntax.specs.Trees.{QueryTree}
use Rattle.traceql_types.specs.declared.errors.MakeError.TheVariants as make
use Rattle.traceql_types.specs.declared.errors.TypeError.{TypeError}
use Rattle.traceql_types.specs.declared.errors.TypeError.TheVariants.{KindClash, NotTruth, DivisionInAggregate, NotNumber, BadPattern, PatternTooBig, Memory}
use Rattle.traceql_types.specs.Asked.{PlacedText, asked_patterns}
use Rattle.traceql_types.specs.Checks.{Ascends, AskedAt, AskedUpTo, Blames, IsLastAsked, LeadsTo, made_calls}
use Rattle.traceql_types.specs.Makers.{Call, CallsLead, Makes, RefusesOnly, count_after, is_refusal, refused_in}
use Rattle.traceql_types.proofs.Calls.{refused_in-append, refused_in_made}

-- the refusals of calls that lead to a refusal are those of the last one
led : (ms : List PlacedText) (e : TypeError) (calls : List Call) → (to : LeadsTo ms e calls) → refused_in calls ≡ refused_in to.last
led ms e calls to =
    ap refused_in to.calls_are ∙ (refused_in-append (made_calls to.made) to.last ∙ ap (λ (zs : List (List ℕ)). zs ++ refused_in to.last) (refused_in_made to.made))

-- the last text is no pattern
none-bad : (at : ℕ) (rest : List PlacedText) (last : List Call) → IsLastAsked at (Err make.Syntax) rest last → refused_in last ≡ []
none-bad at [] last h = absurd h
none-bad at (m ∷ ms) last h = ap refused_in h.1

-- the last text was refused
one-big : (q : QueryTree) (at : ℕ) (front rest : List PlacedText) (last calls : List Call) → asked_patterns q ≡ front ++ rest →
    IsLastAsked at (Err make.Refused) rest last → refused_in calls ≡ refused_in last → AskedAt q at (λ text. refused_in calls ≡ text ∷ [])
one-big q at front [] last calls is h same = absurd h
one-big q at front (m ∷ ms) last calls is h same =
    (m, subst (λ (z : List PlacedText). Contains z m) (sym is) (Contains-append_right front (m ∷ ms) m (search rules)), h.0, same ∙ ap refused_in h.1)

-- the one text that was refused is that of the pattern which is blamed
pub blames-asked : (q : QueryTree) (e : TypeError) (calls : List Call) → AskedUpTo q e calls → Ascends (asked_patterns q) → Blames q (refused_in calls) e
blames-asked q (KindClash at) calls h asc = let to = h asc in led _ _ calls to ∙ ap refused_in to.is_last
blames-asked q (NotTruth at) calls h asc = let to = h asc in led _ _ calls to ∙ ap refused_in to.is_last
blames-asked q (DivisionInAggregate at) calls h asc = let to = h asc in led _ _ calls to ∙ ap refused_in to.is_last
blames-asked q (NotNumber at) calls h asc = let to = h asc in led _ _ calls to ∙ ap refused_in to.is_last
blames-asked q (BadPattern at) calls h asc = let to = h asc in led _ _ calls to ∙ none-bad at to.rest to.last to.is_last
blames-asked q (PatternTooBig at) calls h asc = let to = h asc in one-big q at to.front to.rest to.last calls to.patterns_are to.is_last (led _ _ calls to)
blames-asked q Memory calls h asc = h asc

-- ---- how many

start : (a b : ℕ) → a < 2 ^ 64 → b ≡ a → b ≡ min (a + 0) (2 ^ 64 - 1)
start a b small is = omega arith

up : (a m b n : ℕ) → a < 2 ^ 64 → m ≡ min (a + 1) (2 ^ 64 - 1) → b ≡ min (m + n) (2 ^ 64 - 1) → b ≡ min (a + suc n) (2 ^ 64 - 1)
up a m b n small is later = omega arith

-- a count that each call tells
module _ {M : Type 0} (makes : Makes M) (count : M → ℕ) (counts : (a b : M) (c : Call) → makes a c b → count b ≡ count_after (count a) c.1) where
  counted : (cs : List Call) (a b : M) → count a < 2 ^ 64 → CallsLead makes a cs b → count b ≡ min (count a + length (refused_in cs)) (2 ^ 64 - 1)
  counted [] a b small h = start (count a) (count b) small (ap count h)
  counted (c ∷ cs) a b small h = go (is_refusal c.1) refl (λ fits. counted cs h.0 b fits h.2)
    where
      step : count h.0 ≡ count_after (count a) c.1
      step = counts a h.0 c h.1

      go : (t : Bool) → is_refusal c.1 ≡ t → (count h.0 < 2 ^ 64 → count b ≡ min (count h.0 + length (refused_in cs)) (2 ^ 64 - 1)) → count b ≡ min (count a + length (if is_refusal c.1 then c.0 ∷ refused_in cs else refused_in cs)) (2 ^ 64 - 1)
      go true e later =
          let one : count h.0 ≡ min (count a + 1) (2 ^ 64 - 1) = rw e at step in
          rw e (up (count a) (count h.0) (count b) (length (refused_in cs)) small one (later (omega arith)))
      go false e later =
          let same : count h.0 ≡ count a = rw e at step in
          rw e (subst (λ (n : ℕ). count b ≡ min (n + length (refused_in cs)) (2 ^ 64 - 1)) same (later (omega arith)))

  pub counted-texts : (a b : M) (texts : List (List ℕ)) → count a < 2 ^ 64 → RefusesOnly makes a b texts → count b ≡ min (count a + length texts) (2 ^ 64 - 1)
  counted-texts a b texts small only = rw only.texts_are (counted only.calls a b small only.lead)
