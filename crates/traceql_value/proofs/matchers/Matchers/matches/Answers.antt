use Rattle.std.proofs.Common.{subst, sym}
use Rattle.traceql_value.specs.Matchers.{EachSearchesFor, SearchFor}
use Rattle.traceql_value.proofs.matchers.Matchers.matches.Goals as goal

pub invariant_of-self : goal.invariant_of-self
invariant_of-self c =
    let self = c.args.self.now in
    record {
      tied = subst (λ ks. SearchFor ks self.numbers self.patterns.now) (sym c.is_match.ensures.same) self.tied;
      each = subst (λ ks. EachSearchesFor ks self.patterns.now) (sym c.is_match.ensures.same) self.each;
    }
