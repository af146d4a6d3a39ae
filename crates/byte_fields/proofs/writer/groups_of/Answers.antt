use Rattle.std.proofs.Common.{◌≡◌, ◌+◌, ◌%◌, refl, arith, ◌∙◌}
use Rattle.std.proofs.lemmas.List.{length-set}
use Rattle.byte_fields.specs.Spelling.{var_bytes}
use Rattle.byte_fields.proofs.NumberLaws.{groups_stepped, groups_ended, groups_below, groups_tenth, room_stepped}
use Rattle.byte_fields.proofs.writer.groups_of.Goals as goal

pub loop-index-init : goal.loop-index-init
unfolding var_bytes
loop-index-init c = (refl, refl, omega arith)

pub loop-index-preserved : goal.loop-index-preserved
loop-index-preserved c =
    let l = c.loop-index in
    let h = c.loop-index.invariant in (
      length-set l.groups l.index (l.rest % 128 + 128) ∙ h.0,
      groups_stepped l.groups l.index l.rest _ c.loop-index-test.true h.0 c.if-rest-lt128.false h.1,
      room_stepped l.index l.rest c.loop-index-test.true h.2,
    )

pub returns-then-rest-lt128-clause-groups : goal.returns-then-rest-lt128-clause-groups
returns-then-rest-lt128-clause-groups c =
    let l = c.loop-index in
    let h = c.loop-index.invariant in
    groups_ended l.groups l.index l.rest _ (omega arith) h.0 (groups_below l.index l.rest c.if-rest-lt128.true) h.1

pub returns-clause-groups : goal.returns-clause-groups
returns-clause-groups c =
    let l = c.loop-index in
    let h = c.loop-index.invariant in
    let ninth : l.index ≡ 9 = omega arith in
    let all = groups_ended l.groups l.index l.rest _ (omega arith) h.0 (groups_tenth l.index l.rest (omega arith)) h.1 in
    rw ninth at all
