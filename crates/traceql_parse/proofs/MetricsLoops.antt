-- One turn of the loop over the stages before the word that ends a metrics query.
use Rattle.std.proofs.Common.{◌≡◌, ℕ, ◌<◌, true, false, List, length, Ok, Err, refl}
use Rattle.traceql_tokens.specs.declared.kinds.Token.{Token}
use Rattle.traceql_syntax.specs.Trees.{StageTree, QueryTree}
use Rattle.traceql_parse.specs.declared.stop.Cause.{Cause}
use Rattle.traceql_parse.specs.Descent.{add_stage}
use Rattle.traceql_parse.specs.Metrics.{stage_bar, stage_next, stages_before}
use Rattle.traceql_parse.proofs.Items.{Shrinks, items_stop, items_fail, items_step}
use Rattle.traceql_parse.proofs.MetricsLaws.{barred_shrinks}

pub stage_bar_smaller : (n : ℕ) (ts : List Token) (s : StageTree) (rest : List Token) → stage_bar n ts ≡ Ok (s, rest) → length rest < length ts
unfolding stage_bar
stage_bar_smaller n ts s rest h = barred_shrinks n ts (s, rest) h

pub stages_before_stops : (n : ℕ) (q : QueryTree) (ts : List Token) → stage_next ts ≡ false → stages_before n q ts ≡ Ok (q, ts)
unfolding stages_before
stages_before_stops n q ts h = items_stop stage_next (stage_bar n) add_stage q ts h

pub stages_before_fails : (n : ℕ) (q : QueryTree) (ts : List Token) (e : Cause × List Token) → stage_next ts ≡ true → stage_bar n ts ≡ Err e → stages_before n q ts ≡ Err e
unfolding stages_before
stages_before_fails n q ts e h k = items_fail stage_next (stage_bar n) add_stage refl q ts e h k

pub stages_before_steps : (n : ℕ) (q : QueryTree) (ts : List Token) (s : StageTree) (rest : List Token) → stage_next ts ≡ true → stage_bar n ts ≡ Ok (s, rest) → stages_before n q ts ≡ stages_before n (add_stage q s) rest
unfolding stages_before
stages_before_steps n q ts s rest h k =
    let shrinks : Shrinks (stage_bar n) = λ us x e. stage_bar_smaller n us x.0 x.1 e in
    items_step stage_next (stage_bar n) add_stage refl shrinks q ts (s, rest) h k
