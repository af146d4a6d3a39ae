-- One turn of the parser's loops.
use Rattle.std.proofs.Common.{◌≡◌, ℕ, ◌<◌, true, false, List, length, is_some, Ok, Err, refl, sym, ◌∙◌}
use Rattle.traceql_tokens.specs.declared.kinds.Token.{Token}
use Rattle.traceql_syntax.specs.declared.field.Level.{Level}
use Rattle.traceql_syntax.specs.Trees.{Placed}
use Rattle.traceql_parse.specs.declared.stop.Cause.{Cause}
use Rattle.traceql_parse.specs.Descent.{Item, item, item_sign_of, join, more, operand_of, below}
use Rattle.traceql_parse.specs.declared.stop.Stop.{Stop}
use Rattle.traceql_parse.specs.declared.stop.Stop.TheVariants as stops
use Rattle.traceql_parse.specs.Reading.{Answer, Halts, next_sign}
use Rattle.traceql_parse.proofs.Items.{Shrinks, items_stop, items_fail, items_step}
use Rattle.traceql_parse.proofs.FieldLaws.{item_of_level_shrinks}

pub item_smaller : (n : ℕ) (l : Level) (ts : List Token) (i : Item) (rest : List Token) → item l (operand_of (below n) l) ts ≡ Ok (i, rest) → length rest < length ts
unfolding item
item_smaller n l ts i rest h = item_of_level_shrinks l n ts (i, rest) h

pub more_stops : (n : ℕ) (l : Level) (a : Placed) (ts : List Token) → is_some (next_sign (item_sign_of l) ts) ≡ false → more l (operand_of (below n) l) a ts ≡ Ok (a, ts)
unfolding more
more_stops n l a ts h = items_stop (λ us. is_some (next_sign (item_sign_of l) us)) (item l (operand_of (below n) l)) join a ts h

pub more_fails : (n : ℕ) (l : Level) (a : Placed) (ts : List Token) (e : Cause × List Token) → is_some (next_sign (item_sign_of l) ts) ≡ true → item l (operand_of (below n) l) ts ≡ Err e → more l (operand_of (below n) l) a ts ≡ Err e
unfolding more
more_fails n l a ts e h k = items_fail (λ us. is_some (next_sign (item_sign_of l) us)) (item l (operand_of (below n) l)) join refl a ts e h k

pub more_steps : (n : ℕ) (l : Level) (a : Placed) (ts : List Token) (i : Item) (rest : List Token) → is_some (next_sign (item_sign_of l) ts) ≡ true → item l (operand_of (below n) l) ts ≡ Ok (i, rest) → more l (operand_of (below n) l) a ts ≡ more l (operand_of (below n) l) (join a i) rest
unfolding more
more_steps n l a ts i rest h k =
    let shrinks : Shrinks (item l (operand_of (below n) l)) = λ us x e. item_smaller n l us x.0 x.1 e in
    items_step (λ us. is_some (next_sign (item_sign_of l) us)) (item l (operand_of (below n) l)) join refl shrinks a ts (i, rest) h k

-- where an item is refused, the whole expression is
pub level_halts : (stop : Stop) (n : ℕ) (l : Level) (a : Placed) (ts : List Token) (whole : Answer Placed) → is_some (next_sign (item_sign_of l) ts) ≡ true → Halts stop (item l (operand_of (below n) l) ts) → more l (operand_of (below n) l) a ts ≡ whole → Halts stop whole
level_halts stops.Memory n l a ts whole h k e = tt
level_halts (stops.Refused why rest) n l a ts whole h k e = sym e ∙ more_fails n l a ts (why, rest.now) h k
