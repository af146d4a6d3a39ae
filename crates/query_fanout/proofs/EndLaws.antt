-- How a search in rounds ends.
use Rattle.std.proofs.Common.{◌≡◌, true, false, List, [], ◌∷◌, ◌++◌, All, Err, Ok, Result, append-nil, ap, drop, sym, subst, take, ◌∙◌}
use Rattle.std.specs.List.{flat_map}
use Rattle.std.proofs.lemmas.List.{take-append-drop}
use Rattle.std.proofs.lemmas.List.Elements.{All-append, All-head, All-nil, All-tail}
use Rattle.span_types.specs.declared.spans.Row.{Row}
use Rattle.column_scan.specs.Candidates.{IsCovered, spans_of}
use Rattle.column_scan.specs.Sieves.{SieveParts, sifted_picks}
use Rattle.column_scan.specs.declared.picks.Pick.{Pick}
use Rattle.search_answer.specs.Keeping.{BestParts}
use Rattle.store_state.specs.Given.{look_of}
use Rattle.store_state.specs.Meaning.{IsOpen, Meaning}
use Rattle.store_state.specs.declared.jobs.Look.{Look}
use Rattle.query_fanout.specs.Bounds.{SearchReads}
use Rattle.query_fanout.specs.Joined.{sifted_both}
use Rattle.query_fanout.specs.Reading.{BlocksRead}
use Rattle.query_fanout.specs.Rounds.{AnswersRows, AreScans, BrokenOff, IsGoneThrough, Reached, all_waiting, is_all, is_below, rows_gone}
use Rattle.query_fanout.specs.Taking.{TakenAnswerTheWhole, asked_hint, asked_sieve}
use Rattle.query_fanout.specs.declared.error.QueryError.{QueryError}
use Rattle.query_fanout.specs.declared.error.QueryError.TheVariants.{Memory}
use Rattle.query_fanout.specs.declared.reach.Reach.{Reach}
use Rattle.query_fanout.specs.declared.reach.Reach.TheVariants.{Whole}
use Rattle.query_fanout.specs.declared.rounds.Rounds.{Rounds}
use Rattle.query_fanout.specs.declared.scans.Scan.{Scan}
use Rattle.query_fanout.specs.declared.searching.Asked.{Asked}
use Rattle.query_fanout.proofs.BlockLaws.{read_nothing}
use Rattle.query_fanout.proofs.PartLaws.{in_whole, parts_failed, parts_made}
use Rattle.query_fanout.proofs.ReachLaws.{is_whole, none_above}
use Rattle.query_fanout.proofs.SearchLaws.{all_told, none_within, own_told, taken_within}
use Rattle.query_fanout.proofs.StageLaws.{within_all}

-- When all scans are at their ends, all sifted rows are covered.
all_covered : (sieve : SieveParts) (gone : Reach) (picks : List Pick) (parts : List (List Row)) (scans : List Scan) → All (λ scan. is_all scan.upto ≡ true) scans
    → AreScans sieve gone picks parts scans → All (IsCovered picks) (sifted_picks sieve (spans_of (flat_map (λ part. part) parts)))
all_covered sieve gone picks [] [] ended are = All-nil (IsCovered picks)
all_covered sieve gone picks [] (scan ∷ scans) ended are = absurd are
all_covered sieve gone picks (rows ∷ parts) [] ended are = absurd are
all_covered sieve gone picks (rows ∷ parts) (scan ∷ scans) ended are =
    subst (All (IsCovered picks)) (sym (sifted_both sieve rows (flat_map (λ part. part) parts)))
    (All-append (IsCovered picks) (sifted_picks sieve (spans_of rows)) (sifted_picks sieve (spans_of (flat_map (λ part. part) parts)))
    (subst (λ (l : List Row). All (IsCovered picks) (sifted_picks sieve (spans_of l))) whole are.0.covered)
    (all_covered sieve gone picks parts scans (All-tail (λ (s : Scan). is_all s.upto ≡ true) scan scans ended) are.1))
  where
    none : drop (rows_gone scan) rows ≡ []
    none = none_above (λ (row : Row). row.span.trace) (drop (rows_gone scan) rows)
        (subst (λ (r : Reach). All (λ (row : Row). is_below r row.span.trace ≡ false) (drop (rows_gone scan) rows)) (is_whole scan.upto (All-head (λ (s : Scan). is_all s.upto ≡ true) scan scans ended)) are.0.upto)

    whole : take (rows_gone scan) rows ≡ rows
    whole = sym (append-nil (take (rows_gone scan) rows)) ∙ ap (λ (l : List Row). take (rows_gone scan) rows ++ l) (sym none) ∙ take-append-drop (rows_gone scan) rows

module _ {P : Type 0} (meaning : Meaning P) (look : Look) (seen own : List Row) (asked : Asked) (start now : P) where
  -- what a search answers that went through all
  abbrev pub Ends : Result BestParts QueryError → Type 0
  Ends r = BlocksRead meaning look look.pin.blocks (λ rows best. AnswersRows asked (own ++ rows) best) (λ rows best. AnswersRows asked (own ++ rows) best)
      (SearchReads (asked_hint asked) seen look.pin.blocks) start r now

  pub ends : (law : TakenAnswerTheWhole) (rounds : Rounds) → rounds.gone ≡ Whole → All (λ scan. is_all scan.upto ≡ true) rounds.scans.items
      → Reached meaning look seen own asked start rounds now → Ends (Ok rounds.best)
  ends law rounds gone ended r =
      in_whole meaning look {some = λ rows best. AnswersRows asked (own ++ rows) best} {fits = λ rows best. AnswersRows asked (own ++ rows) best}
      {within = SearchReads (asked_hint asked) seen look.pin.blocks} start now (Ok rounds.best)
      (parts_made meaning look {other_some = λ rows best. AnswersRows asked (own ++ rows) best} {other_fits = λ parts best. AnswersRows asked (own ++ flat_map (λ part. part) parts) best}
      {other_within = SearchReads (asked_hint asked) seen look.pin.blocks} start now rounds.best rounds.best r.reads
      (λ rows took. own_told law asked own r.taken r.ascend rounds.best rows took own_covered)
      (λ parts fits. all_told law asked own r.taken r.ascend rounds.best (flat_map (λ part. part) parts) fits.0 (covered parts fits.1))
      (λ parts a b fits reads.
      taken_within (asked_sieve asked) seen r.taken look.pin.blocks parts a b (within_all meaning look seen own asked rounds r.taken parts a b r.well reads)))
    where
      no_waits : all_waiting rounds.waits.items ≡ []
      no_waits = none_above (λ (p : Pick). p.trace) (all_waiting rounds.waits.items) (subst (λ (g : Reach). All (λ p. is_below g p.trace ≡ false) (all_waiting rounds.waits.items)) gone r.waits_are)

      taken_all : r.taken ++ all_waiting rounds.waits.items ≡ r.taken
      taken_all = ap (λ (l : List Pick). r.taken ++ l) no_waits ∙ append-nil r.taken

      own_covered : All (IsCovered r.taken) (sifted_picks (asked_sieve asked) (spans_of own))
      own_covered = subst (λ (l : List Pick). All (IsCovered l) (sifted_picks (asked_sieve asked) (spans_of own))) taken_all r.own_are

      covered : (parts : List (List Row)) → IsGoneThrough (asked_sieve asked) seen r.taken rounds parts → All (IsCovered r.taken) (sifted_picks (asked_sieve asked) (spans_of (own ++ flat_map (λ part. part) parts)))
      covered parts is =
          subst (All (IsCovered r.taken)) (sym (sifted_both (asked_sieve asked) own (flat_map (λ part. part) parts)))
          (All-append (IsCovered r.taken) (sifted_picks (asked_sieve asked) (spans_of own)) (sifted_picks (asked_sieve asked) (spans_of (flat_map (λ part. part) parts))) own_covered
          (all_covered (asked_sieve asked) rounds.gone r.taken parts rounds.scans.items ended
          (subst (λ (l : List Pick). AreScans (asked_sieve asked) rounds.gone l parts rounds.scans.items) taken_all is.scans)))

  -- or it is broken off
  pub ends_early : (A : Type 0) (why : QueryError) → BrokenOff {A = A} meaning look seen asked start (Err why) now → Ends (Err why)
  ends_early A why h =
      in_whole meaning look {some = λ rows best. AnswersRows asked (own ++ rows) best} {fits = λ rows best. AnswersRows asked (own ++ rows) best}
      {within = SearchReads (asked_hint asked) seen look.pin.blocks} start now (Err why)
      (parts_failed meaning look {other_some = λ rows best. AnswersRows asked (own ++ rows) best} {other_fits = λ parts best. AnswersRows asked (own ++ flat_map (λ part. part) parts) best}
      {other_within = SearchReads (asked_hint asked) seen look.pin.blocks} start now why h
      (λ parts a b reads. taken_within (asked_sieve asked) seen reads.0 look.pin.blocks parts a b reads.1))

-- there is no memory to begin
pub not_begun : {P : Type 0} (meaning : Meaning P) (look : Look) (seen own : List Row) (asked : Asked) (port : P) → IsOpen meaning port (look_of look) → Ends meaning look seen own asked port port (Err Memory)
not_begun meaning look seen own asked port is_open =
    read_nothing meaning look look.pin.blocks (λ rows best. AnswersRows asked (own ++ rows) best) (λ rows best. AnswersRows asked (own ++ rows) best) (SearchReads (asked_hint asked) seen look.pin.blocks) port
    is_open (λ parts. none_within (asked_hint asked) seen look.pin.blocks parts (meaning.reads port))
