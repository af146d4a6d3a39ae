use Rattle.std.proofs.Common.{inr, List, refl, subst, ℕ}
use Rattle.std.specs.Io.KnownBytes.{Appends}
use Rattle.io_edges.specs.Devices.{AppendsPrefix}
use Rattle.trace_shell.specs.Drilling.{found_replies}
use Rattle.trace_shell.proofs.DrillLemmas.{counted_ends, counted_writes, texts_told, told_all}
use Rattle.trace_shell.proofs.drilling.tell.Goals as goal

pub returns-in_default-clause-told : goal.returns-in_default-clause-told
returns-in_default-clause-told g c = inr refl

pub returns-in-Ok-put_all-clause-told : goal.returns-in-Ok-put_all-clause-told
returns-in-Ok-put_all-clause-told g c =
    let made = c.in-Ok.ensures in
    let same = texts_told c.in-Ok.texts c.args.counts c.args.found.now made.report made.errors made.large made.crossing in
    told_all c.ending.result c.args.counts (found_replies c.args.found.now) (g.K.Sink.taken c.args.sink.now) (g.K.Sink.taken c.put_all.new.sink) c.ending.ensures
    (subst (λ (bs : List ℕ). Appends (g.K.Sink.taken c.args.sink.now) (g.K.Sink.taken c.put_all.new.sink) bs) same c.in-Ok-put_all.ensures.whole)

pub returns-in-Ok-put_all-clause-write_fault : goal.returns-in-Ok-put_all-clause-write_fault
returns-in-Ok-put_all-clause-write_fault g c = λ is. absurd (counted_writes c.ending.result c.args.counts c.ending.ensures is)

pub returns-in-Ok-put_all-clause-endings : goal.returns-in-Ok-put_all-clause-endings
returns-in-Ok-put_all-clause-endings g c = counted_ends c.ending.result c.args.counts c.ending.ensures

pub returns-clause-told : goal.returns-clause-told
returns-clause-told g c =
    let made = c.in-Ok.ensures in
    let same = texts_told c.in-Ok.texts c.args.counts c.args.found.now made.report made.errors made.large made.crossing in
    subst (λ (bs : List ℕ). AppendsPrefix (g.K.Sink.taken c.args.sink.now) (g.K.Sink.taken c.put_all.new.sink) bs) same c.in-Err.ensures.part
