use Rattle.std.proofs.Common.{◌∙◌, List, arith, refl, subst, sym}
use Rattle.io_edges.specs.Reader.{IsToRead}
use Rattle.line_windows.specs.Windows.{IsWindow}
use Rattle.line_windows.specs.declared.line.WindowLine.{WindowLine}
use Rattle.line_windows.proofs.WindowLemmas.{window_grows, window_stays}
use Rattle.line_windows.proofs.window.add_at_hand.Goals as goal

pub lines-init : goal.lines-init
lines-init c = record { lines = λ line left text so. so; taken = refl; nearer = omega arith; room = c.requires }

pub lines-preserved : goal.lines-preserved
lines-preserved c = record {
  lines = λ line left text so.
      subst (λ (ws : List WindowLine). IsWindow line text ws (IsToRead c.at_hand.new.reader left)) (sym c.put.ensures.put)
      (window_grows line text c.lines.window.items c.in-Some.line (IsToRead c.lines.reader left) (IsToRead c.at_hand.new.reader left) (λ rest reads. c.in-Some.ensures.some left rest reads)
      (c.lines.invariant.lines line left text so));
  taken = c.at_hand.ensures.taken ∙ c.lines.invariant.taken;
  nearer = omega (arith, c.at_hand.ensures.nearer, c.lines.invariant.nearer);
  room = omega (arith, c.lines.invariant.room, c.put.ensures.room);
}

pub returns-in-None-clause-lines : goal.returns-in-None-clause-lines
returns-in-None-clause-lines c = λ line left text so.
    window_stays line text c.lines.window.items (IsToRead c.lines.reader left) (IsToRead c.at_hand.new.reader left) (λ rest reads. c.in-None.ensures.none left rest reads)
    (c.lines.invariant.lines line left text so)
