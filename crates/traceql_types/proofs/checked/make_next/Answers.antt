use Rattle.std.proofs.Common.{◌≡◌, ◌∙◌, true, [], ◌∷◌, Ok, Err, refl, subst}
use Rattle.std.proofs.lemmas.Result.{err_from_is_err_and}
use Rattle.traceql_types.specs.declared.errors.MakeError.TheVariants as make
use Rattle.traceql_types.specs.Shown.{shown}
use Rattle.traceql_types.specs.Steps.{passed, done, bad, too_big}
use Rattle.traceql_types.specs.Whole.{IsNoPattern}
use Rattle.traceql_types.proofs.checked.make_next.Goals as goal

pub returns-then-goes_before : goal.returns-then-goes_before
returns-then-goes_before g c = record {
  step =
      ([], refl, passed (c.goes_before.ensures.0 c.if-goes_before.true));
}

pub returns-in_ok-push-in-Ok : goal.returns-in_ok-push-in-Ok
returns-in_ok-push-in-Ok g c = record {
  step =
      let m = shown c.args.asked in
      let call = rw c.as_str.ensures at c.in-Ok.ensures.call in (
        (m.1, Ok c.in-Ok.pattern) ∷ [],
        (c.make.new.self, call, refl),
        rw c.in_ok-push-in-Ok.ensures.items (done c.in-Ok.pattern (λ h. (let e : c.goes_before.result ≡ true = c.goes_before.ensures.1 h in cc)) (c.in-Ok.ensures.shows ∙ c.as_str.ensures)),
      );
}

pub returns-in-Err-Syntax : goal.returns-in-Err-Syntax
returns-in-Err-Syntax g c = record {
  step =
      let m = shown c.args.asked in
      let call = rw (c.in-Err-Syntax.field-0-is, c.as_str.ensures) at c.in-Err-Syntax.ensures.call in (
        (m.1, Err make.Syntax) ∷ [],
        (c.make.new.self, call, refl),
        bad (λ h. (let e : c.goes_before.result ≡ true = c.goes_before.ensures.1 h in cc)) (subst IsNoPattern c.as_str.ensures (c.in-Err-Syntax.ensures.syntax (rw c.in-Err-Syntax.field-0-is refl))),
      );
}

pub returns-in-Err-Refused : goal.returns-in-Err-Refused
returns-in-Err-Refused g c = record {
  step =
      let m = shown c.args.asked in
      let call = rw (c.in-Err-Refused.field-0-is, c.as_str.ensures) at c.in-Err-Refused.ensures.call in (
        (m.1, Err make.Refused) ∷ [],
        (c.make.new.self, call, refl),
        too_big (λ h. (let e : c.goes_before.result ≡ true = c.goes_before.ensures.1 h in cc)),
      );
}

pub returns-in_err-push-in-Ok : goal.returns-in_err-push-in-Ok
returns-in_err-push-in-Ok g c = record {
  step =
      let p = err_from_is_err_and c.from_residual.result c.from_residual.ensures.1 in (
        (c.as_str.result.now, Ok c.in-Ok.pattern) ∷ [],
        (c.make.new.self, c.in-Ok.ensures.call, refl),
        rw p.1 ((λ h. (let e : c.goes_before.result ≡ true = c.goes_before.ensures.1 h in cc)), refl),
      );
}

pub returns-in-Err-Memory : goal.returns-in-Err-Memory
returns-in-Err-Memory g c = record {
  step = (
    (c.as_str.result.now, Err make.Memory) ∷ [],
    (c.make.new.self, rw c.in-Err-Memory.field-0-is at c.in-Err-Memory.ensures.call, refl),
    ((λ h. (let e : c.goes_before.result ≡ true = c.goes_before.ensures.1 h in cc)), refl),
  );
}
