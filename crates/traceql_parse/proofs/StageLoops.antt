-- One turn of the loops over fields and stages.
use Rattle.std.proofs.Common.{◌≡◌, ℕ, ◌<◌, true, false, List, [], ◌∷◌, ◌++◌, length, Ok, Err, refl, sym, ◌∙◌}
use Rattle.traceql_tokens.specs.declared.kinds.Token.{Token}
use Rattle.traceql_syntax.specs.declared.field.Field.{Field}
use Rattle.traceql_syntax.specs.Trees.{StageTree, QueryTree}
use Rattle.traceql_parse.specs.declared.lookahead.Delimiter.TheVariants as delimiter
use Rattle.traceql_parse.specs.declared.stop.Cause.{Cause}
use Rattle.traceql_parse.specs.declared.stop.Stop.{Stop}
use Rattle.traceql_parse.specs.declared.stop.Stop.TheVariants as stops
use Rattle.traceql_parse.specs.Descent.{add_stage, comma_field, more_fields, more_stages, piped, snoc}
use Rattle.traceql_parse.specs.Reading.{Answer, Halts, begins}
use Rattle.traceql_parse.proofs.Items.{Shrinks, items_stop, items_fail, items_step}
use Rattle.traceql_parse.proofs.StageLaws.{comma_item_shrinks}
use Rattle.traceql_parse.proofs.QueryLaws.{piped_item_shrinks}

pub comma_field_smaller : (ts : List Token) (f : Field) (rest : List Token) → comma_field ts ≡ Ok (f, rest) → length rest < length ts
unfolding comma_field
comma_field_smaller ts f rest h = comma_item_shrinks 0 ts (f, rest) h

pub more_fields_stops : (fs : List Field) (ts : List Token) → begins delimiter.Comma ts ≡ false → more_fields fs ts ≡ Ok (fs, ts)
unfolding more_fields
more_fields_stops fs ts h = items_stop (begins delimiter.Comma) comma_field snoc fs ts h

pub more_fields_fails : (fs : List Field) (ts : List Token) (e : Cause × List Token) → begins delimiter.Comma ts ≡ true → comma_field ts ≡ Err e → more_fields fs ts ≡ Err e
unfolding more_fields
more_fields_fails fs ts e h k = items_fail (begins delimiter.Comma) comma_field snoc refl fs ts e h k

pub more_fields_steps : (fs : List Field) (ts : List Token) (f : Field) (rest : List Token) → begins delimiter.Comma ts ≡ true → comma_field ts ≡ Ok (f, rest) → more_fields fs ts ≡ more_fields (fs ++ f ∷ []) rest
unfolding more_fields
more_fields_steps fs ts f rest h k =
    let shrinks : Shrinks comma_field = λ us x e. comma_field_smaller us x.0 x.1 e in
    items_step (begins delimiter.Comma) comma_field snoc refl shrinks fs ts (f, rest) h k

pub fields_halt : (stop : Stop) (fs : List Field) (ts : List Token) (whole : Answer (List Field)) → begins delimiter.Comma ts ≡ true → Halts stop (comma_field ts) → more_fields fs ts ≡ whole → Halts stop whole
fields_halt stops.Memory fs ts whole h k e = tt
fields_halt (stops.Refused why rest) fs ts whole h k e = sym e ∙ more_fields_fails fs ts (why, rest.now) h k

pub piped_smaller : (n : ℕ) (ts : List Token) (s : StageTree) (rest : List Token) → piped n ts ≡ Ok (s, rest) → length rest < length ts
unfolding piped
piped_smaller n ts s rest h = piped_item_shrinks n ts (s, rest) h

pub more_stages_stops : (n : ℕ) (q : QueryTree) (ts : List Token) → begins delimiter.Bar ts ≡ false → more_stages n q ts ≡ Ok (q, ts)
unfolding more_stages
more_stages_stops n q ts h = items_stop (begins delimiter.Bar) (piped n) add_stage q ts h

pub more_stages_fails : (n : ℕ) (q : QueryTree) (ts : List Token) (e : Cause × List Token) → begins delimiter.Bar ts ≡ true → piped n ts ≡ Err e → more_stages n q ts ≡ Err e
unfolding more_stages
more_stages_fails n q ts e h k = items_fail (begins delimiter.Bar) (piped n) add_stage refl q ts e h k

pub more_stages_steps : (n : ℕ) (q : QueryTree) (ts : List Token) (s : StageTree) (rest : List Token) → begins delimiter.Bar ts ≡ true → piped n ts ≡ Ok (s, rest) → more_stages n q ts ≡ more_stages n (add_stage q s) rest
unfolding more_stages
more_stages_steps n q ts s rest h k =
    let shrinks : Shrinks (piped n) = λ us x e. piped_smaller n us x.0 x.1 e in
    items_step (begins delimiter.Bar) (piped n) add_stage refl shrinks q ts (s, rest) h k

pub stages_halt : (stop : Stop) (n : ℕ) (q : QueryTree) (ts : List Token) (whole : Answer QueryTree) → begins delimiter.Bar ts ≡ true → Halts stop (piped n ts) → more_stages n q ts ≡ whole → Halts stop whole
stages_halt stops.Memory n q ts whole h k e = tt
stages_halt (stops.Refused why rest) n q ts whole h k e = sym e ∙ more_stages_fails n q ts (why, rest.now) h k
