use Rattle.std.proofs.Common.{List, ℕ, sym, ◌∙◌, ap}
use Rattle.byte_fields.proofs.FieldLaws.{read_as}
use Rattle.stripe_glances.proofs.FieldLaws.{trace_keeps}
use Rattle.stripe_glances.proofs.keeps.TraceIdsKeep.keep.Goals as goal

pub returns : goal.returns
returns c =
    trace_keeps (record { 0 = c.copy_from_slice.new.self }) c.args.reader.now c.raw.new.self
    (c.in-Ok.ensures.reads ∙ ap (λ (l : List ℕ). read_as l c.raw.new.self) (sym c.copy_from_slice.ensures.after))
