use Rattle.std.proofs.Common.{◌≡◌, Err, refl, subst}
use Rattle.std.proofs.lemmas.Result.{err_from_is_err_and}
use Rattle.byte_fields.specs.Reading.{Stand, text_at}
use Rattle.byte_fields.proofs.Texts.{text_at-text, text_at-other, text_at-no_length, text_at-cut}
use Rattle.byte_fields.proofs.cursor.Cursor.text_str.Goals as goal

pub returns-in_err-length-clause-reads : goal.returns-in_err-length-clause-reads
returns-in_err-length-clause-reads c =
    let p = err_from_is_err_and c.from_residual.result c.from_residual.ensures.1 in
    let h = text_at-no_length _ _ c.in_err-length.ensures.reads.0 in
    rw (p.1, p.2) (subst (λ (s : Stand). (text_at s ≡ Err c.in_err-length.field-0.0) × (s ≡ s)) c.self.view_is (h, refl))

pub returns-in_err-field-clause-reads : goal.returns-in_err-field-clause-reads
returns-in_err-field-clause-reads c =
    let p = err_from_is_err_and c.from_residual-in_err-field.result c.from_residual-in_err-field.ensures.1 in
    let h = text_at-cut _ _ _ _ c.in_ok-length.ensures.reads c.in_err-field.ensures.reads.0 in
    rw (p.1, p.2) (subst (λ (s : Stand). (text_at s ≡ Err c.in_err-field.field-0.0) × (s ≡ s)) c.self.view_is (h, refl))

pub returns-in_default-clause-reads : goal.returns-in_default-clause-reads
returns-in_default-clause-reads c = (rw (← c.self.view_is) (text_at-other _ _ _ _ _ c.in_ok-length.ensures.reads c.in_ok-field.ensures.reads c.in_default.ensures.cases.0), refl)

pub returns-clause-reads : goal.returns-clause-reads
returns-clause-reads c =
    let e = c.in-Ok.ensures.cases in
    rw (← c.self.view_is) (rw (e.0, c.next.view_is) (text_at-text _ _ _ _ _ c.in_ok-length.ensures.reads c.in_ok-field.ensures.reads e.1))
