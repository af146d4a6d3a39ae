use Rattle.std.proofs.Common.{refl, ℕ, List, Err, subst, ◌∙◌}
use Rattle.std.proofs.lemmas.Result.{err_from_is_err_and}
use Rattle.byte_fields.specs.Reading.{Stand, MayRead, text_at}
use Rattle.byte_fields.proofs.TextLaws.{may_read}
use Rattle.byte_fields.proofs.cursor.Cursor.text.Goals as goal

pub returns-in_err-borrowed-clause-reads : goal.returns-in_err-borrowed-clause-reads
returns-in_err-borrowed-clause-reads c =
    let p = err_from_is_err_and c.from_residual.result c.from_residual.ensures.1 in
    let h = may_read _ _ c.in_err-borrowed.ensures.within c.in_err-borrowed.ensures.reads.0 in
    rw (p.1, p.2) (subst (λ (s : Stand). MayRead (λ (x : List ℕ). x) (Err c.in_err-borrowed.field-0.0) s s (text_at s)) c.self.view_is h)

pub returns-in_default-clause-reads : goal.returns-in_default-clause-reads
returns-in_default-clause-reads c = (rw (← c.self.view_is, c.in_ok-borrowed.ensures.reads) refl, refl)

pub returns-clause-reads : goal.returns-clause-reads
returns-clause-reads c =
    let same = c.of.ensures ∙ c.in-Ok.ensures.ok in
    rw (← c.self.view_is) (rw (same, c.next.view_is) c.in_ok-borrowed.ensures.reads)
