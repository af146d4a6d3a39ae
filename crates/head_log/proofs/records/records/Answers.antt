use Rattle.std.proofs.Common.{◌≡◌, ◌≤◌, ◌∙◌, ◌++◌, ◌∷◌, [], ℕ, ap, arith, length, subst, sym, List}
use Rattle.std.proofs.lemmas.Result.{err_from_is_err_and}
use Rattle.byte_fields.specs.Reading.{IsWithin, Stand}
use Rattle.span_types.specs.declared.spans.Span.{Span}
use Rattle.head_log.specs.Scanning.{numbered}
use Rattle.head_log.proofs.MeantRecords.{record_few}
use Rattle.head_log.proofs.ReadingLoops.{records_no_gate, records_closed, records_broken, records_go_on, records_ended, read_there}
use Rattle.head_log.proofs.records.records.Goals as goal

pub returns-in_err-byte-clause-reads : goal.returns-in_err-byte-clause-reads
returns-in_err-byte-clause-reads c =
    let p = err_from_is_err_and c.from_residual.result c.from_residual.ensures.1 in
    let broken = rw c.starting_at-reader.ensures at c.in_err-byte.ensures.gives in
    rw (p.1, p.2) (records_no_gate c.in_err-byte.field-0.0 (length c.args.bytes.now) c.loop.counter c.loop.number c.loop.batches.items (record { whole = c.args.bytes.now; at = c.loop.gate }) _ c.loop-test.true broken c.loop.invariant.0)

pub returns-then-branch-ne-OPEN-clause-reads : goal.returns-then-branch-ne-OPEN-clause-reads
returns-then-branch-ne-OPEN-clause-reads c =
    let read = rw c.starting_at-reader.ensures at c.in_ok-byte.ensures.gives in
    records_closed (length c.args.bytes.now) c.loop.counter c.loop.number c.loop.batches.items (record { whole = c.args.bytes.now; at = c.loop.gate }) c.in_ok-byte.field-0 _ _ c.loop-test.true read c.if-branch-ne-OPEN.true c.loop.invariant.0

pub returns-in_err-spans-clause-reads : goal.returns-in_err-spans-clause-reads
returns-in_err-spans-clause-reads c =
    let p = err_from_is_err_and c.from_residual-in_err-spans.result c.from_residual-in_err-spans.ensures.1 in
    let read = rw c.starting_at-reader.ensures at c.in_ok-byte.ensures.gives in
    let whole : c.byte.new.reader.whole ≡ c.args.bytes.now = c.in_ok-byte.ensures.whole ∙ ap (λ (s : Stand). s.whole) c.starting_at-reader.ensures in
    let there = read_there c.in_ok-byte.field-0 (record { whole = c.args.bytes.now; at = c.loop.gate }) c.byte.new.reader c.args.bytes.now c.at.result read whole c.at.ensures.place in
    rw (p.1, p.2) (records_broken c.in_err-spans.field-0.0 (length c.args.bytes.now) c.loop.counter c.loop.number c.loop.batches.items (record { whole = c.args.bytes.now; at = c.loop.gate }) c.in_ok-byte.field-0 _ _ c.loop-test.true there c.if-branch-ne-OPEN.false c.in_err-spans.ensures.gives c.loop.invariant.0)

pub invariant_of-push : goal.invariant_of-push
invariant_of-push c =
    let whole : c.byte.new.reader.whole ≡ c.args.bytes.now = c.in_ok-byte.ensures.whole ∙ ap (λ (s : Stand). s.whole) c.starting_at-reader.ensures in
    let inside : c.byte.new.reader.at ≤ length c.args.bytes.now = subst (λ (w : List ℕ). c.byte.new.reader.at ≤ length w) whole c.at.ensures.within in
    let there : c.at.result ≤ length c.args.bytes.now = subst (λ (k : ℕ). k ≤ length c.args.bytes.now) (sym c.at.ensures.place) inside in
    let is : IsWithin c.args.bytes.now c.at.result = record { bytes_fit = λ i. omega (arith, c.type_inv.bytes i); no_further = there } in
    let few = record_few c.loop.number (record { whole = c.args.bytes.now; at = c.at.result }) is c.in_ok-spans.spans.items _ c.in_ok-spans.ensures.gives in
    omega (arith, few, ap length c.of.ensures)

pub loop-preserved : goal.loop-preserved
loop-preserved c =
    let read = rw c.starting_at-reader.ensures at c.in_ok-byte.ensures.gives in
    let whole : c.byte.new.reader.whole ≡ c.args.bytes.now = c.in_ok-byte.ensures.whole ∙ ap (λ (s : Stand). s.whole) c.starting_at-reader.ensures in
    let there = read_there c.in_ok-byte.field-0 (record { whole = c.args.bytes.now; at = c.loop.gate }) c.byte.new.reader c.args.bytes.now c.at.result read whole c.at.ensures.place in (
      records_go_on (length c.args.bytes.now) c.loop.counter c.loop.number c.loop.batches.items c.push.new.self.items (record { whole = c.args.bytes.now; at = c.loop.gate }) c.in_ok-byte.field-0 _ c.in_ok-spans.spans.items _ _ c.loop-test.true there c.if-branch-ne-OPEN.false c.in_ok-spans.ensures.gives (c.in_ok-push.ensures.items ∙ ap (λ (l : List Span). c.loop.batches.items ++ numbered c.loop.number l ∷ []) c.of.ensures) c.loop.invariant.0,
      c.in_ok-spans.ensures.within,
    )

pub returns-clause-reads : goal.returns-clause-reads
returns-clause-reads c = records_ended (length c.args.bytes.now) c.loop.counter c.loop.number c.loop.batches.items (record { whole = c.args.bytes.now; at = c.loop.gate }) _ c.loop-test.false c.loop.invariant.0
