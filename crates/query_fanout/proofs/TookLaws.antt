-- Picks that are taken in another order.
use Rattle.std.proofs.Common.{◌≡◌, List, ◌++◌, Result, ap, map, subst, sym, ◌∙◌}
use Rattle.std.specs.List.{flat_map}
use Rattle.std.specs.List.Sorted.{IsPermutation}
use Rattle.std.proofs.lemmas.List.Sorted.{IsPermutation-map, IsPermutation-refl, IsPermutation-trans, sum_by-IsPermutation}
use Rattle.span_types.specs.declared.spans.Row.{Row}
use Rattle.block_info.specs.InfoParts.{InfoParts}
use Rattle.block_read.specs.Answers.{RoseAtMost}
use Rattle.column_scan.specs.declared.picks.Pick.{Pick}
use Rattle.search_answer.specs.Keeping.{BestParts}
use Rattle.store_state.specs.Meaning.{Meaning}
use Rattle.store_state.specs.declared.jobs.Look.{Look}
use Rattle.query_fanout.specs.Bounds.{look_up_pages}
use Rattle.query_fanout.specs.Reading.{AtMost, BlocksRead, look_ups}
use Rattle.query_fanout.specs.Searching.{TookTheirs, TookWith}
use Rattle.query_fanout.specs.Taking.{traces_of}
use Rattle.query_fanout.specs.declared.error.QueryError.{QueryError}
use Rattle.query_fanout.specs.declared.searching.Asked.{Asked}
use Rattle.query_fanout.proofs.BlockLaws.{read_as}
use Rattle.query_fanout.proofs.TakenLaws.{flat_mapped}

-- the turns have just these picks
pub same_turns : {X : Type 0} (turns : List X) (now : X → List Pick) (picks : List Pick) → flat_map now turns ≡ picks → IsPermutation picks (flat_map (λ few. few) (map now turns))
same_turns turns now picks whole = subst (IsPermutation picks) (sym (flat_mapped turns now ∙ whole)) (IsPermutation-refl picks)

pub moved_parts : (picks a b x y : List Pick) → IsPermutation picks (x ++ y) → a ≡ x → b ≡ y → IsPermutation picks (a ++ b)
moved_parts picks a b x y moved first second = subst (IsPermutation picks) (sym (ap (λ l. l ++ b) first ∙ ap (λ l. x ++ l) second)) moved

pub look_ups_same : (picks parts : List Pick) (infos : List InfoParts) (rows : List (List Row)) → IsPermutation picks parts → look_ups (traces_of parts) infos rows ≡ look_ups (traces_of picks) infos rows
look_ups_same picks parts infos rows moved =
    sum_by-IsPermutation (λ id. look_up_pages id infos rows) (traces_of picks) (traces_of parts) (IsPermutation-map (λ (p : Pick). p.trace) picks parts moved)

pub took_in_parts : {P : Type 0} (meaning : Meaning P) (look : Look) (own : List Row) (asked : Asked) (picks parts : List Pick) (best : BestParts) (old new : P) (r : Result BestParts QueryError)
    → IsPermutation picks parts
    → BlocksRead meaning look look.pin.blocks (TookTheirs asked own parts best) (TookWith asked own parts best) (AtMost (look_ups (traces_of parts) look.pin.blocks)) old r new
    → BlocksRead meaning look look.pin.blocks (TookTheirs asked own picks best) (TookWith asked own picks best) (AtMost (look_ups (traces_of picks) look.pin.blocks)) old r new
took_in_parts meaning look own asked picks parts best old new r moved =
    read_as meaning look look.pin.blocks (λ rows a b. subst (λ n. RoseAtMost n a b) (look_ups_same picks parts look.pin.blocks rows moved)) old new r
    (λ x rows took. (took.0, IsPermutation-trans picks parts (flat_map (λ few. few) took.0) moved took.1, took.2))
    (λ x rows took. (took.0, IsPermutation-trans picks parts (flat_map (λ few. few) took.0) moved took.1, took.2))
