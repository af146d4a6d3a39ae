use Rattle.std.proofs.Common.{sym, ◌∙◌}
use Rattle.std.proofs.lemmas.Result.{err_from_is_err_and}
use Rattle.block_read.proofs.ChecksWalk.{listed, no_header, no_rows, no_tail, unlisted}
use Rattle.block_read.proofs.checking.listed_info.Goals as goal

pub returns-in_err-header : goal.returns-in_err-header
returns-in_err-header c =
    let p = err_from_is_err_and c.from_residual.result c.from_residual.ensures.1 in
    rw (p.1, p.2) (no_header c.in_err-header.field-0.0 c.args.file c.args.level c.args.rows c.args.bytes.now c.in_err-header.ensures.answers)

pub returns-in_err-outline : goal.returns-in_err-outline
returns-in_err-outline c =
    let p = err_from_is_err_and c.from_residual-in_err-outline.result c.from_residual-in_err-outline.ensures.1 in
    rw (p.1, p.2) (no_rows c.in_err-outline.field-0.0 c.args.file c.args.level c.args.rows c.args.bytes.now c.in_ok-header.header c.in_ok-header.ensures.answers c.in_err-outline.ensures.answers)

pub returns-in_err-indexed : goal.returns-in_err-indexed
returns-in_err-indexed c =
    let p = err_from_is_err_and c.from_residual-in_err-indexed.result c.from_residual-in_err-indexed.ensures.1 in
    rw (p.1, p.2) (no_tail c.in_err-indexed.field-0.0 c.args.file c.args.level c.args.rows c.args.bytes.now c.in_ok-header.header c.in_ok-outline.outline c.in_ok-header.ensures.answers c.in_ok-outline.ensures.answers c.in_err-indexed.ensures)

pub returns-then-not-is_listed : goal.returns-then-not-is_listed
returns-then-not-is_listed c =
    unlisted c.args.file c.args.level c.args.rows c.args.bytes.now c.in_ok-header.header c.in_ok-outline.outline c.in_ok-header.ensures.answers c.in_ok-outline.ensures.answers c.in_ok-indexed.ensures (sym c.is_listed.ensures ∙ c.if-not-is_listed.true)

pub returns : goal.returns
returns c =
    listed c.args.file c.args.level c.args.rows c.args.bytes.now c.in_ok-header.header c.in_ok-outline.outline c.info_of.result c.in_ok-header.ensures.answers c.in_ok-outline.ensures.answers c.in_ok-indexed.ensures (sym c.is_listed.ensures ∙ c.if-not-is_listed.false) c.info_of.ensures
