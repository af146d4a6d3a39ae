use Rattle.std.proofs.Common.{◌∙◌, ◌+◌, ◌==◌, ◌&&◌, min, nat_le, if◌then◌else◌, Some, ap}
use Rattle.store_model.specs.Choice.{most_rows}
use Rattle.store_state.specs.Pairing.{has_partner}
use Rattle.store_state.proofs.choice.met.Goals as goal

pub returns-clause-known : goal.returns-clause-known
returns-clause-known c = λ rest h.
    let block = c.args.block.now in
    let level = c.args.pairing.level in record {
      smallest = c.lesser.ensures ∙ ap (λ n. if block.level == level then min n block.rows else n) h.smallest;
      found = c.found_or.ensures
          ∙ ap (λ t. if t then Some c.args.at else c.args.pairing.found) (c.is_partner-fits.ensures ∙ ap (λ n. (block.level == level) && nat_le (block.rows + n) most_rows) h.smallest)
          ∙ ap (λ o. if has_partner level block rest then Some c.args.at else o) h.found;
    }
