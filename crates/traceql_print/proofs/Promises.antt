-- What is promised of printed text, for every query that a text means and every field that a token can be.
use Rattle.std.proofs.Common.{◌≡◌, ℕ, ◌≤◌, arith, true, Result, Ok, Err, MatchResult, List, [], ◌∷◌, map, refl, ap, sym, subst, ◌∙◌, append-nil}
use Rattle.std.specs.List.{AllByRecursion}
use Rattle.traceql_tokens.specs.Printed.{at_end, IsSound}
use Rattle.traceql_tokens.specs.Tokens.{AreTokens}
use Rattle.traceql_tokens.proofs.Printed.{printed_token, printed_end}
use Rattle.traceql_syntax.specs.declared.field.Field.{Field}
use Rattle.traceql_syntax.specs.declared.field.Field.TheVariants as field
use Rattle.traceql_syntax.specs.declared.errors.ParseError.{ParseError}
use Rattle.traceql_syntax.specs.declared.errors.ParseError.TheVariants as error
use Rattle.traceql_syntax.specs.declared.query.Query.{Query}
use Rattle.traceql_syntax.specs.Refusals.{Means, Reads}
use Rattle.traceql_syntax.specs.Trees.{StageTree, Keep, By, Coalesce, Select, Compare, QueryTree, bare_stage, bare_query, query_tree}
use Rattle.traceql_print.specs.Signs.{field_kind}
use Rattle.traceql_print.specs.Depth.{query_depth}
use Rattle.traceql_print.specs.Kinds.{query_kinds}
use Rattle.traceql_print.specs.Text.{field_text, query_text, text_of, IsNamed}
use Rattle.traceql_print.proofs.Bare.{query_bare}
use Rattle.traceql_print.proofs.Fitting.{AllFit, tokens_sane, query_fits, query_has}
use Rattle.traceql_print.proofs.Lexed.{Fits, kind_right, lexes}
use Rattle.traceql_print.proofs.SpelledQueries.{HasFields, query_spelt}

to_bare : (ss : List StageTree) → AllByRecursion HasFields ss → AllByRecursion HasFields (map bare_stage ss)
to_bare [] h = tt
to_bare (s ∷ ss) h = (one s h.0, to_bare ss h.1)
  where
    one : (x : StageTree) → HasFields x → HasFields (bare_stage x)
    one (Keep at c) k = tt
    one (By e) k = tt
    one Coalesce k = tt
    one (Select fs) k = k
    one (Compare a at op b) k = tt

from_bare : (ss : List StageTree) → AllByRecursion HasFields (map bare_stage ss) → AllByRecursion HasFields ss
from_bare [] h = tt
from_bare (s ∷ ss) h = (one s h.0, from_bare ss h.1)
  where
    one : (x : StageTree) → HasFields (bare_stage x) → HasFields x
    one (Keep at c) k = tt
    one (By e) k = tt
    one Coalesce k = tt
    one (Select fs) k = k
    one (Compare a at op b) k = tt

-- What some text means, the printed text is, within every depth that is enough for the printed form.
pub printed_reads : (source : List ℕ) (q : QueryTree) → Means source q → (n : ℕ) → query_depth q ≤ n → (p : QueryTree) × Reads n (query_text q) p × (bare_query p ≡ bare_query q)
printed_reads source q (depth, placed, reads, same) n h =
    let kinds : query_kinds placed ≡ query_kinds q = sym (query_bare placed) ∙ ap query_kinds same ∙ query_bare q in
    let fit = subst AllFit kinds (query_fits reads.spelled (tokens_sane 0 source reads.tokens reads.lexed)) in
    let bare_has = subst (AllByRecursion HasFields) (ap (λ (p : QueryTree). p.stages) same) (to_bare placed.stages (query_has reads.spelled)) in
    let lexed = lexes (query_kinds q) fit true 0 in
    let spelled = query_spelt q (from_bare q.stages bare_has) lexed.0 lexed.2 n h in
    (spelled.found, record { tokens = lexed.0; lexed = lexed.1; spelled = spelled.spelled }, spelled.same)

pub printed_means : (source : List ℕ) (q : QueryTree) → Means source q → Means (query_text q) q
printed_means source q m = let r = printed_reads source q m (query_depth q) (omega arith) in (query_depth q, r.0, r.1, r.2)

-- what is read is the query again, where what is read equals it
pub read_same : (r : Result Query ParseError) (q p : QueryTree) → MatchResult r (λ x. query_tree x ≡ p) (λ e. e ≡ error.Memory) → bare_query p ≡ bare_query q →
    MatchResult r (λ x. bare_query (query_tree x) ≡ bare_query q) (λ e. e ≡ error.Memory)
read_same (Ok x) q p h same = ap bare_query h ∙ same
read_same (Err e) q p h same = h

named_fits : (f : Field) → IsNamed f → Fits (field_kind f)
named_fits (field.Attribute scope name) h = h
named_fits (field.Intrinsic i) h = tt

named_sound : (f : Field) → IsSound (field_kind f)
named_sound (field.Attribute scope name) = tt
named_sound (field.Intrinsic i) = tt

pub printed_token_of : (f : Field) → IsNamed f → AreTokens 0 (field_text f) (record { at = 0; kind = field_kind f } ∷ [])
printed_token_of f h =
    subst (λ t. AreTokens 0 t (record { at = 0; kind = field_kind f } ∷ [])) (append-nil (field_text f))
    (printed_token 0 (field_text f) [] (field_kind f) [] (kind_right 0 (field_kind f) (named_fits f h)) (named_sound f) (at_end refl) (printed_end _))

pub printed_same : (q p : QueryTree) → bare_query p ≡ bare_query q → query_text p ≡ query_text q
printed_same q p e = ap text_of (sym (query_bare p) ∙ ap query_kinds e ∙ query_bare q)
