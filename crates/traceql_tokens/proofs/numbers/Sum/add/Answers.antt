use Rattle.std.proofs.Common.{◌≡◌, ℕ, ◌+◌, ◌-◌, ◌*◌, ◌^◌, ◌≤◌, ◌++◌, length, replicate, subst, ap, ap₂, sym, ◌∙◌, arith, length-append, take_all}
use Rattle.std.proofs.lemmas.List.{with_items_is, length-replicate}
use Rattle.traceql_tokens.specs.Bytes.{decimal}
use Rattle.traceql_tokens.specs.Fixed.{unit_nanos}
use Rattle.traceql_tokens.specs.Sums.{AreColumns, column_value, part_of}
use Rattle.traceql_tokens.proofs.SumSteps.{added}
use Rattle.traceql_tokens.proofs.numbers.Sum.add.Goals as goal

pub returns-clause-sum : goal.returns-clause-sum
returns-clause-sum c = λ ps held.
    let items = c.args.self.now.columns.items in
    let M = c.max-places.result in
    let wide = c.deref_mut.result.now in
    let new = c.add_fraction-carry.new.columns in
    let fraction = c.args.part.fraction.now in
    let carry = c.add_fraction-carry.result in
    let same : c.args.self.now.columns.len ≡ length items = c.args.self.now.columns.ok.0 in
    let held_len = c.len.ensures in
    let most = c.max-places.ensures in
    let fits : length items ≤ M = omega arith in
    let eW : wide ≡ items ++ replicate (M - length items) 0 =
    c.deref_mut.ensures.value ∙ c.in_ok-resize.ensures.items ∙ ap₂ (λ x y. x ++ replicate (M - y) 0) (take_all M items fits) same in
    let wide_len : length wide ≡ M = omega (arith, ap length eW, length-append items (replicate (M - length items) 0), length-replicate {A = ℕ} (M - length items) 0) in
    let new_len : length new ≡ length wide = omega arith in
    let kept = with_items_is c.resize.new.self new (new_len ∙ ap length c.deref_mut.ensures.value ∙ sym c.resize.new.self.ok.0) in
    let sum : column_value new + carry * 10 ^ M ≡ column_value wide + unit_nanos c.args.part.unit * decimal fraction * 10 ^ (M - length fraction) =
    subst (λ u. column_value new + carry * 10 ^ M ≡ column_value wide + u * decimal fraction * 10 ^ (M - length fraction)) c.nanos-nanos.ensures
    (subst (λ n. column_value new + carry * 10 ^ n ≡ column_value wide + c.nanos-nanos.result * decimal fraction * 10 ^ (n - length fraction)) wide_len c.add_fraction-carry.ensures.sum) in
    added c.args.self.now _ ps (part_of c.args.part) carry M wide held (omega arith) eW
    (subst AreColumns (sym kept) c.add_fraction-carry.ensures.columns)
    (ap length kept ∙ new_len ∙ wide_len)
    (ap (λ cs. column_value cs + carry * 10 ^ M) kept ∙ sum)
    (cc)
