use Rattle.std.proofs.Common.{◌≡◌, ◌≢◌, sym, ◌<◌, ◌+◌, ◌-◌, ◌++◌, ℕ, List, length, take, drop, replicate, ◌∙◌, ap, arith}
use Rattle.std.proofs.lemmas.Bool.{eqb-false}
use Rattle.std.proofs.lemmas.List.{take_at}
use Rattle.disk_model.proofs.BytesLemmas.{overwritten_filled}
use Rattle.disk_model.proofs.file.overwrite.Goals as goal

pub returns-clause-ok : goal.returns-clause-ok
returns-clause-ok c =
    let v = c.fill_to.new.held in
    let old = c.args.held.now.items in
    let at = c.args.at in
    let bytes = c.args.bytes.now in
    let ne : length bytes ≢ 0 = eqb-false (length bytes) 0 (sym c.is_empty.ensures ∙ c.if-is_empty.false) in
    let some : 0 < length bytes = omega arith in
    let filled : c.deref_mut.result.now ≡ old ++ replicate (at + length bytes - length old) 0 = c.deref_mut.ensures.value ∙ c.in_ok-fill_to.ensures.ok in
    let whole : length c.replace.new.held ≡ v.len = omega (arith, c.replace.auto.held, c.deref_mut.ensures.len) in
    take_at c.replace.new.held (drop (length c.replace.new.held) v.items) v.len whole
    ∙ c.replace.ensures
    ∙ ap (λ (f : List ℕ). take at f ++ bytes ++ drop (at + length bytes) f) filled
    ∙ overwritten_filled old at bytes some
