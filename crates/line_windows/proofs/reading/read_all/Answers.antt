use Rattle.std.proofs.Common.{◌≡◌, arith, length, subst, sym}
use denote.Param.Send.{sendable}
use Rattle.std.proofs.Crossing.{crosses}
use Rattle.line_windows.proofs.line.WindowLine.TheSendSync as line
use Rattle.line_windows.specs.Windows.{IsOf}
use Rattle.line_windows.proofs.WindowLemmas.{are_each}
use Rattle.line_windows.proofs.reading.read_all.Goals as goal

pub par_for_each_mut-requires : goal.par_for_each_mut-requires
par_for_each_mut-requires g c =
    (search (line.the_send, sendable, crosses) depth 40, (search (line.the_send, sendable, crosses) depth 40, (search (line.the_send, sendable, crosses) depth 40, λ i p lt e. tt)))

pub returns-clause-lines : goal.returns-clause-lines
returns-clause-lines g c = λ lines are.
    let same : length c.par_for_each_mut.new.s ≡ length c.args.window.now = omega arith in
    are_each lines c.args.window.now c.par_for_each_mut.new.s same
    (λ k d low bytes is.
    let at = (c.par_for_each_mut.ensures k d low).1 in
    subst (λ w. IsOf bytes w) at.left (at.call bytes (subst (λ w. IsOf bytes w) (sym at.argument_is) is)))
    are
