use Rattle.std.proofs.Common.{◌≡◌, ◌+◌, ◌<◌, ◌≤◌, [], ◌∷◌, ◌++◌, None, Some, length, drop, ap, sym, subst, ◌∙◌, arith, append-nil, append_assoc}
use Rattle.std.proofs.lemmas.Str.{IsCharBoundary-start}
use Rattle.traceql_tokens.specs.Tokens.{AreTokensOf}
use Rattle.traceql_tokens.specs.Walk.{token_at}
use Rattle.traceql_tokens.specs.declared.kinds.Token.{Token}
use Rattle.traceql_tokens.specs.declared.kinds.TokenKind.TheVariants as token
use Rattle.traceql_tokens.proofs.TokensLaws.{goes_on, goes_none, goes_end, nothing_left, blank_boundary, token_boundary, blank_is, blanks_of}
use Rattle.traceql_tokens.proofs.lexer.listed.Goals as goal

pub loop-at-init : goal.loop-at-init
loop-at-init c =
    (IsCharBoundary-start c.args.text.now c.utf8.text, λ ts h. subst (λ xs. AreTokensOf c.args.words.now 0 c.args.text.now (xs ++ ts)) (sym c.new-found.ensures.items) h)

pub overflow_add-start : goal.overflow_add-start
overflow_add-start c =
    let T = c.args.text.now in
    let A = c.loop-at.at in
    let n = c.blank_len.result in
    let blank : n ≡ blanks_of (drop A T) = blank_is T c.as_bytes.result.now A n c.blank_len.ensures c.as_bytes.ensures.value in
    let cut = blank_boundary T A n c.utf8.text c.loop-at.invariant.0 blank in
    let within : A + n ≤ length T = cut.0 in
    omega arith

pub returns-then-start-text : goal.returns-then-start-text
returns-then-start-text c =
    let T = c.args.text.now in
    let A = c.loop-at.at in
    let n = c.blank_len.result in
    let blank : n ≡ blanks_of (drop A T) = blank_is T c.as_bytes.result.now A n c.blank_len.ensures c.as_bytes.ensures.value in
    let cut = blank_boundary T A n c.utf8.text c.loop-at.invariant.0 blank in
    let within : A + n ≤ length T = cut.0 in
    subst (AreTokensOf c.args.words.now 0 T) (append-nil c.loop-at.found.items) (c.loop-at.invariant.1 [] (goes_end c.args.words.now c.requires T A n blank (omega arith)))

pub range_from-requires : goal.range_from-requires
range_from-requires c =
    let T = c.args.text.now in
    let A = c.loop-at.at in
    let n = c.blank_len.result in
    let blank : n ≡ blanks_of (drop A T) = blank_is T c.as_bytes.result.now A n c.blank_len.ensures c.as_bytes.ensures.value in
    let cut = blank_boundary T A n c.utf8.text c.loop-at.invariant.0 blank in
    let within : A + n ≤ length T = cut.0 in
    λ _. cut

pub returns-in_default : goal.returns-in_default
returns-in_default c =
    let T = c.args.text.now in
    let A = c.loop-at.at in
    let n = c.blank_len.result in
    let blank : n ≡ blanks_of (drop A T) = blank_is T c.as_bytes.result.now A n c.blank_len.ensures c.as_bytes.ensures.value in
    let cut = blank_boundary T A n c.utf8.text c.loop-at.invariant.0 blank in
    let within : A + n ≤ length T = cut.0 in
    let none : token_at c.args.words.now (A + n) (drop (A + n) T) ≡ None = ap (token_at c.args.words.now (A + n)) (sym c.range_from.ensures.value) ∙ sym c.in_ok-kind.ensures ∙ c.in_default.is in
    let before : A + n < length T = omega arith in
    subst (AreTokensOf c.args.words.now 0 T) (sym c.in_ok-push.ensures.items) (c.loop-at.invariant.1 (record { at = A + n; kind = token.Unknown } ∷ []) (goes_none c.args.words.now c.requires T A n blank none before))

pub overflow_add-at : goal.overflow_add-at
overflow_add-at c =
    let T = c.args.text.now in
    let A = c.loop-at.at in
    let n = c.blank_len.result in
    let blank : n ≡ blanks_of (drop A T) = blank_is T c.as_bytes.result.now A n c.blank_len.ensures c.as_bytes.ensures.value in
    let cut = blank_boundary T A n c.utf8.text c.loop-at.invariant.0 blank in
    let within : A + n ≤ length T = cut.0 in
    let k = c.in-Some.kind in
    let len = c.in-Some.len in
    let found : token_at c.args.words.now (A + n) (drop (A + n) T) ≡ Some (k, len) = ap (token_at c.args.words.now (A + n)) (sym c.range_from.ensures.value) ∙ sym c.in_ok-kind.ensures ∙ c.in-Some.is in
    let ends = token_boundary c.args.words.now T (A + n) (A + n) len k c.utf8.text within found in
    let fits : A + n + len ≤ length T = ends.0.0 in
    let some : 0 < len = ends.1 in
    omega arith

pub loop-at-smaller : goal.loop-at-smaller
loop-at-smaller c =
    let T = c.args.text.now in
    let A = c.loop-at.at in
    let n = c.blank_len.result in
    let blank : n ≡ blanks_of (drop A T) = blank_is T c.as_bytes.result.now A n c.blank_len.ensures c.as_bytes.ensures.value in
    let cut = blank_boundary T A n c.utf8.text c.loop-at.invariant.0 blank in
    let within : A + n ≤ length T = cut.0 in
    let k = c.in-Some.kind in
    let len = c.in-Some.len in
    let found : token_at c.args.words.now (A + n) (drop (A + n) T) ≡ Some (k, len) = ap (token_at c.args.words.now (A + n)) (sym c.range_from.ensures.value) ∙ sym c.in_ok-kind.ensures ∙ c.in-Some.is in
    let ends = token_boundary c.args.words.now T (A + n) (A + n) len k c.utf8.text within found in
    let fits : A + n + len ≤ length T = ends.0.0 in
    let some : 0 < len = ends.1 in
    omega arith

pub loop-at-preserved : goal.loop-at-preserved
loop-at-preserved c =
    let T = c.args.text.now in
    let A = c.loop-at.at in
    let n = c.blank_len.result in
    let blank : n ≡ blanks_of (drop A T) = blank_is T c.as_bytes.result.now A n c.blank_len.ensures c.as_bytes.ensures.value in
    let cut = blank_boundary T A n c.utf8.text c.loop-at.invariant.0 blank in
    let within : A + n ≤ length T = cut.0 in
    let k = c.in-Some.kind in
    let len = c.in-Some.len in
    let found : token_at c.args.words.now (A + n) (drop (A + n) T) ≡ Some (k, len) = ap (token_at c.args.words.now (A + n)) (sym c.range_from.ensures.value) ∙ sym c.in_ok-kind.ensures ∙ c.in-Some.is in
    let ends = token_boundary c.args.words.now T (A + n) (A + n) len k c.utf8.text within found in
    let fits : A + n + len ≤ length T = ends.0.0 in
    let some : 0 < len = ends.1 in
    let t : Token = record { at = A + n; kind = k } in (
      ends.0,
      λ ts more.
          subst (AreTokensOf c.args.words.now 0 T) (sym (ap (λ xs. xs ++ ts) c.in_ok-push-2.ensures.items ∙ append_assoc c.loop-at.found.items (t ∷ []) ts)) (c.loop-at.invariant.1 (t ∷ ts) (goes_on c.args.words.now c.requires T A n len k ts blank found more)),
    )

pub returns : goal.returns
returns c =
    subst (AreTokensOf c.args.words.now 0 c.args.text.now) (append-nil c.loop-at.found.items) (c.loop-at.invariant.1 [] (nothing_left c.args.words.now c.requires c.args.text.now c.loop-at.at (omega arith)))
