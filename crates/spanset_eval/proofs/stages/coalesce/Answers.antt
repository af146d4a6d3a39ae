use Rattle.std.proofs.Common.{◌≡◌, ◌∙◌, ap, length, ℕ, ◌∷◌, [], arith, List, Bool}
use Rattle.std.specs.List.{filter}
use Rattle.spanset_eval.specs.declared.groups.Group.{Group}
use Rattle.spanset_eval.specs.Marked.{mark_at, MarksBy}
use Rattle.spanset_eval.specs.Stages.{coalesced, is_in_some, positions_from}
use Rattle.spanset_eval.proofs.SelectLaws.{if_ok, filter_same}
use Rattle.spanset_eval.proofs.stages.coalesce.Goals as goal

-- The members are those whose spans some spanset has.
members_are : (count : ℕ) (groups : List Group) (marks : List Bool) → MarksBy count (is_in_some groups) marks →
    filter (mark_at marks) (positions_from 0 (length marks)) ≡ filter (is_in_some groups) (positions_from 0 count)
members_are count groups marks by =
    ap (λ n. filter (mark_at marks) (positions_from 0 n)) by.one_each ∙ filter_same (mark_at marks) (is_in_some groups) 0 count (λ y l. by.each y (omega arith))

pub returns : goal.returns
unfolding coalesced
returns c =
    if_ok c.single.result (λ one. one.items ≡ record { by = []; members = c.in_ok-members.members } ∷ []) (λ one. one.items ≡ coalesced c.args.rows.now c.args.groups.now)
    (λ one e. e ∙ ap (λ ms. record { by = []; members = ms } ∷ []) (c.in_ok-members.ensures ∙ members_are (length c.args.rows.now) c.args.groups.now c.in_ok-marks.marks c.in_ok-marks.ensures)) c.single.ensures
