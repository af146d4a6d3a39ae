-- Private mechanism. What the parser's functions read of a metrics query.
use Rattle.std.specs.Prelude.{ℕ, suc, Bool, false, not, List, [], ◌∷◌, Option, Some, None, is_some, if◌then◌else◌, Ok}
use Rattle.traceql_tokens.specs.declared.kinds.Token.{Token}
use Rattle.traceql_tokens.specs.declared.kinds.TokenKind.{TokenKind}
use Rattle.traceql_syntax.specs.Tables.{on_word, metrics_word}
use Rattle.traceql_syntax.specs.Trees.{Placed, StageTree, QueryTree, MetricsTree}
use Rattle.traceql_parse.specs.declared.lookahead.Delimiter.TheVariants as delimiter
use Rattle.traceql_parse.specs.Descent.{add_stage, all_sets, alone, by_word, enclosed, nothing, stage, tail_of, whole}
use Rattle.traceql_parse.specs.Reading.{Answer, ◌>>=◌, next_word, expect_sign, expect_word, delimits, items}

-- the token is no word that ends a metrics query
abbrev pub is_before : TokenKind → Bool
is_before k = not (is_some (on_word metrics_word k))

-- a stage is to be read, and not such a word
abbrev pub stage_next : List Token → Bool
stage_next [] = false
stage_next (t ∷ ts) = is_before t.kind

-- a stage and the bar after it
unfoldable pub stage_bar : ℕ → List Token → Answer StageTree
stage_bar n ts = do
  s ← stage n ts
  b ← expect_sign (delimits delimiter.Bar) s.1
  Ok (s.0, b.1)

unfoldable pub stages_before : ℕ → QueryTree → List Token → Answer QueryTree
stages_before n q ts = items stage_next (stage_bar n) add_stage q ts

-- a query and the bar after it
unfoldable pub query_bar : ℕ → List Token → Answer QueryTree
query_bar n ts = do
  s ← all_sets (suc n) ts
  b ← expect_sign (delimits delimiter.Bar) s.1
  stages_before n (alone s.0) b.1

-- the word that ends a metrics query, and its parentheses
unfoldable pub counting : List Token → Answer Bool
counting ts = expect_word metrics_word ts >>= λ w. enclosed nothing w.1 >>= λ x. Ok (w.0.1, x.1)

-- `by` and an expression in parentheses, where the word stands there
unfoldable pub splitting : ℕ → List Token → Answer (Option Placed)
splitting n ts = if is_some (next_word by_word ts) then (enclosed (whole n) (tail_of ts) >>= λ e. Ok (Some e.0, e.1)) else (Ok (None, ts))

abbrev pub made : QueryTree → Bool → Option Placed → MetricsTree
made q rate by = record { query = q; rate = rate; by = by }

-- a metrics query, where one construct more than n may be open
unfoldable pub metrics : ℕ → List Token → Answer MetricsTree
metrics n ts = do
  q ← query_bar n ts
  w ← counting q.1
  e ← splitting n w.1
  Ok (made q.0 w.0 e.0, e.1)
