-- One turn of the loop over spansets.
use Rattle.std.proofs.Common.{◌≡◌, ℕ, ◌<◌, true, false, List, length, is_some, Ok, Err, refl, sym, ◌∙◌}
use Rattle.traceql_tokens.specs.declared.kinds.Token.{Token}
use Rattle.traceql_syntax.specs.declared.query.SpansetLevel.{SpansetLevel}
use Rattle.traceql_syntax.specs.Tables.{set_sign}
use Rattle.traceql_syntax.specs.Trees.{SetTree}
use Rattle.traceql_parse.specs.declared.stop.Cause.{Cause}
use Rattle.traceql_parse.specs.declared.stop.Stop.{Stop}
use Rattle.traceql_parse.specs.declared.stop.Stop.TheVariants as stops
use Rattle.traceql_parse.specs.Descent.{SetItem, set_item, set_join, set_more, set_operand_of, sets_below}
use Rattle.traceql_parse.specs.Reading.{Answer, Halts, next_sign}
use Rattle.traceql_parse.proofs.Items.{Shrinks, items_stop, items_fail, items_step}
use Rattle.traceql_parse.proofs.SetLaws.{set_item_of_level_shrinks}

pub set_item_smaller : (n : ℕ) (l : SpansetLevel) (ts : List Token) (i : SetItem) (rest : List Token) → set_item l (set_operand_of n (sets_below n) l) ts ≡ Ok (i, rest) → length rest < length ts
unfolding set_item
set_item_smaller n l ts i rest h = set_item_of_level_shrinks l n ts (i, rest) h

pub set_more_stops : (n : ℕ) (l : SpansetLevel) (a : SetTree) (ts : List Token) → is_some (next_sign (set_sign l) ts) ≡ false → set_more l (set_operand_of n (sets_below n) l) a ts ≡ Ok (a, ts)
unfolding set_more
set_more_stops n l a ts h = items_stop (λ us. is_some (next_sign (set_sign l) us)) (set_item l (set_operand_of n (sets_below n) l)) set_join a ts h

pub set_more_fails : (n : ℕ) (l : SpansetLevel) (a : SetTree) (ts : List Token) (e : Cause × List Token) → is_some (next_sign (set_sign l) ts) ≡ true → set_item l (set_operand_of n (sets_below n) l) ts ≡ Err e → set_more l (set_operand_of n (sets_below n) l) a ts ≡ Err e
unfolding set_more
set_more_fails n l a ts e h k = items_fail (λ us. is_some (next_sign (set_sign l) us)) (set_item l (set_operand_of n (sets_below n) l)) set_join refl a ts e h k

pub set_more_steps : (n : ℕ) (l : SpansetLevel) (a : SetTree) (ts : List Token) (i : SetItem) (rest : List Token) → is_some (next_sign (set_sign l) ts) ≡ true → set_item l (set_operand_of n (sets_below n) l) ts ≡ Ok (i, rest) → set_more l (set_operand_of n (sets_below n) l) a ts ≡ set_more l (set_operand_of n (sets_below n) l) (set_join a i) rest
unfolding set_more
set_more_steps n l a ts i rest h k =
    let shrinks : Shrinks (set_item l (set_operand_of n (sets_below n) l)) = λ us x e. set_item_smaller n l us x.0 x.1 e in
    items_step (λ us. is_some (next_sign (set_sign l) us)) (set_item l (set_operand_of n (sets_below n) l)) set_join refl shrinks a ts (i, rest) h k

-- where an item is refused, the whole expression is
pub sets_halt : (stop : Stop) (n : ℕ) (l : SpansetLevel) (a : SetTree) (ts : List Token) (whole : Answer SetTree) → is_some (next_sign (set_sign l) ts) ≡ true → Halts stop (set_item l (set_operand_of n (sets_below n) l) ts) → set_more l (set_operand_of n (sets_below n) l) a ts ≡ whole → Halts stop whole
sets_halt stops.Memory n l a ts whole h k e = tt
sets_halt (stops.Refused why rest) n l a ts whole h k e = sym e ∙ set_more_fails n l a ts (why, rest.now) h k
