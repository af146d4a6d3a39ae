use Rattle.std.proofs.Common.{◌∙◌, ap, arith, length, subst, sym}
use Rattle.page_cache.specs.Frames.{AreMarked}
use Rattle.page_cache.proofs.FrameLaws.{blank_marks, keyed_length}
use Rattle.page_cache.proofs.cache.PageCache.new.Goals as goal

pub invariant_of-result : goal.invariant_of-result
invariant_of-result c = (
  ap (λ es. length es) c.in_ok-frames.ensures ∙ keyed_length 256,
  subst (AreMarked c.in_ok-marks.marks.items) (sym c.in_ok-frames.ensures) (blank_marks 256 256 c.in_ok-marks.marks.items c.in_ok-marks.ensures (omega arith)),
)
