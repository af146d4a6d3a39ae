use Rattle.std.proofs.Common.{◌≡◌, ◌-◌, ◌≤◌, None, length, take, drop, ap, sym, ◌∙◌, arith, length-drop}
use Rattle.std.proofs.lemmas.List.{take_rest}
use Rattle.traceql_tokens.specs.NumberWalk.{part_at}
use Rattle.traceql_tokens.specs.Sums.{part_of}
use Rattle.traceql_tokens.proofs.Parts.{adds_more, adds_nothing, adds_all}
use Rattle.traceql_tokens.proofs.numbers.duration_at.Goals as goal
use Rattle.traceql_tokens.proofs.numbers.duration_at.Goals.{then-len-eq0, else-len-eq0}

pub loop-part-preserved : goal.loop-part-preserved
loop-part-preserved c =
    let bytes = c.args.bytes.now in
    let len = c.loop-part.len in
    let rest : take (length bytes - len) (drop len bytes) ≡ drop len bytes = take_rest bytes len in
    let within : c.in-Some.part.len ≤ length (take (length bytes - len) (drop len bytes)) = c.in-Some.ensures.within in (
      omega (arith, ap length rest, length-drop len bytes),
      c.in_ok-add.ensures.columns,
      adds_more c.loop-part.sum c.add.new.self len c.in-Some.part.len bytes (part_of c.in-Some.part) c.loop-part.invariant.2 (ap part_at (sym rest) ∙ sym c.in-Some.ensures.part) c.in-Some.ensures.len c.in_ok-add.ensures.sum,
    )

pub returns : goal.returns
returns c =
    let bytes = c.args.bytes.now in
    let len = c.loop-part.len in
    let rest : take (length bytes - len) (drop len bytes) ≡ drop len bytes = take_rest bytes len in
    let none : part_at (drop len bytes) ≡ None = ap part_at (sym rest) ∙ sym c.in_default.ensures.part in
    elim c.if-len-eq0.branch [
      | then-len-eq0 w ↦ w.result-is ∙ sym (adds_nothing c.loop-part.sum len bytes c.loop-part.invariant.2 none w.if-len-eq0.true)
      | else-len-eq0 w ↦ w.result-is ∙ sym (adds_all c.loop-part.sum len bytes w.kind.result c.loop-part.invariant.2 none w.if-len-eq0.false w.kind.ensures)
    ]
