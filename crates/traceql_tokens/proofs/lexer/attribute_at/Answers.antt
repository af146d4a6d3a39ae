use Rattle.std.proofs.Common.{◌≡◌, ◌+◌, sym, ap, ap₂, ◌∙◌, subst, length, drop}
use Rattle.std.specs.Str.{IsCharBoundary}
use Rattle.traceql_tokens.specs.Fixed.{scope_text}
use Rattle.traceql_tokens.specs.Walk.{name_at}
use Rattle.traceql_tokens.proofs.LexerCases.{scope_boundary, attribute_named}
use Rattle.traceql_tokens.proofs.lexer.attribute_at.Goals as goal

pub range_from-requires : goal.range_from-requires
range_from-requires c =
    λ _. subst (λ n. IsCharBoundary c.args.text.now n) (sym (ap length c.text-start.ensures)) (scope_boundary c.args.text.now c.args.scope c.utf8.text c.requires.start)

pub returns : goal.returns
returns c =
    let text = c.args.text.now in
    let s = c.args.scope in
    let start : length c.text-start.result.now ≡ length (scope_text s) = ap length c.text-start.ensures in
    let named : (c.in_ok-name.name, c.in_ok-name.len) ≡ name_at (c.args.at + length (scope_text s)) (drop (length (scope_text s)) text) =
    c.in_ok-name.ensures.value ∙ ap₂ (λ n t. name_at (c.args.at + n) t) start (c.range_from.ensures.value ∙ ap (λ n. drop n text) start) in
    ap₂ (λ k n. (k, n + c.in_ok-name.len)) c.attribute_kind.ensures start ∙ sym (attribute_named c.args.at c.in_ok-name.len s text c.in_ok-name.name (sym named))
