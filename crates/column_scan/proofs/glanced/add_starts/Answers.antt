use Rattle.std.proofs.Common.{◌∙◌, ap, refl, arith}
use Rattle.std.proofs.lemmas.List.{get_or_default}
use Rattle.column_scan.specs.Sieves.{SieveParts}
use Rattle.column_scan.proofs.Latest.{none_more}
use Rattle.column_scan.proofs.Starts.{all_starts, next_start}
use Rattle.column_scan.proofs.glanced.add_starts.Goals as goal

pub loop-i-init : goal.loop-i-init
loop-i-init c = record { same = refl; found = λ rows told. none_more c.args.sifter.now c.args.picks.now.items }

pub add_start-requires : goal.add_start-requires
add_start-requires c = ap (λ (s : SieveParts). s.hint.text) c.loop-i.invariant.same ∙ c.requires.alone

pub loop-i-preserved : goal.loop-i-preserved
loop-i-preserved c = record {
  same = c.in_ok-add_start.ensures.same ∙ c.loop-i.invariant.same;
  found = λ rows told.
      next_start c.args.sifter.now c.loop-i.sifter rows c.args.glance.now c.args.picks.now.items c.loop-i.picks.items c.add_start.new.picks.items c.loop-i.i _ c.loop-i.invariant.same told (omega arith) (λ d. c.index.ensures ∙ get_or_default c.args.glance.now.traces.items c.loop-i.i _ d (omega arith))
      (c.loop-i.invariant.found rows told) (λ row here is. c.in_ok-add_start.ensures.found row.span is (c.columns_at-columns.ensures rows row told here));
}

pub returns-clause-found : goal.returns-clause-found
returns-clause-found c = λ rows told. all_starts c.args.sifter.now rows c.args.glance.now c.args.picks.now.items c.loop-i.picks.items c.loop-i.i told (omega arith) (c.loop-i.invariant.found rows told)
