use Rattle.std.proofs.Common.{◌≡◌, ◌+◌, length, subst, sym, ap, ◌∙◌, arith}
use Rattle.std.proofs.lemmas.List.{length_push}
use Rattle.span_tree.specs.Members.{HasMembers}
use Rattle.span_tree.proofs.MemberLaws.{members_more, length_joined}
use Rattle.span_tree.proofs.members.members_of.Goals as goal

pub loop-position-preserved : goal.loop-position-preserved
loop-position-preserved g c =
    let k = c.loop-position.position in
    let groups = c.args.groups.now in
    let last = c.loop-position.last in
    let more = members_more groups last c.join-earlier.new.last c.loop-position.before k c.look-group.result c.join-earlier.result c.loop-position.invariant.members c.loop-position.invariant.before_each (sym c.look-group.ensures.entry)
    (λ q h. let within = c.requires.within k q (sym c.look-group.ensures.entry ∙ h) in let each = c.loop-position.invariant.last_each in omega arith) c.join-earlier.ensures.earlier c.join-earlier.ensures.after in
    record {
      members = subst (λ xs. HasMembers groups (k + 1) c.join-earlier.new.last xs) (sym c.in_ok-push.ensures.entries) more;
      last_each = ap length c.join-earlier.ensures.after ∙ length_joined last c.look-group.result k ∙ c.loop-position.invariant.last_each;
      before_each = ap length c.in_ok-push.ensures.entries ∙ length_push c.loop-position.before c.join-earlier.result ∙ ap (λ n. n + 1) c.loop-position.invariant.before_each;
      most = omega arith;
      least = omega arith;
    }

pub returns-clause-members : goal.returns-clause-members
returns-clause-members g c =
    let whole : c.loop-position.position ≡ length c.args.groups.now = omega arith in
    subst (λ k. HasMembers c.args.groups.now k c.loop-position.last c.loop-position.before) whole c.loop-position.invariant.members
