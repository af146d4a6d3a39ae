-- Picks that are taken a few at a time, over a port.
use Rattle.std.proofs.Common.{◌≡◌, ◌≤◌, List, [], ◌∷◌, ◌++◌, Result, Ok, length, refl, sym, subst}
use Rattle.std.specs.List.{flat_map}
use Rattle.std.specs.List.Sorted.{IsSorted}
use Rattle.span_types.specs.declared.ids.TraceId.{TraceId}
use Rattle.span_types.specs.declared.spans.Row.{Row}
use Rattle.column_scan.specs.declared.picks.Pick.{Pick}
use Rattle.spanset_eval.specs.Ranking.{rank_cmp}
use Rattle.search_answer.specs.Keeping.{BestParts}
use Rattle.store_state.specs.Given.{look_of}
use Rattle.store_state.specs.Meaning.{IsOpen, Meaning}
use Rattle.store_state.specs.declared.jobs.Look.{Look}
use Rattle.query_fanout.specs.Reading.{AtMost, BlocksRead, look_ups}
use Rattle.query_fanout.specs.Searching.{TakenTheirs, TakenWith, TakesTheirs, TakesWith}
use Rattle.query_fanout.specs.Taking.{Answered, AreApart, TakesMore, TakesMoreRead, open_picks, traces_of}
use Rattle.query_fanout.specs.declared.error.QueryError.{QueryError}
use Rattle.query_fanout.specs.declared.searching.Asked.{Asked}
use Rattle.query_fanout.proofs.TakenLaws.{more_read, more_taken, none_taken, turn_rose}
use Rattle.query_fanout.proofs.BlockLaws.{reads_then, rose_none}
use Rattle.query_fanout.proofs.CallLaws.{pages_none}
use Rattle.query_fanout.proofs.FewLaws.{none_answered}

-- these were taken
abbrev pub Taken : {P : Type 0} → Meaning P → Look → List Row → Asked → List (List Pick) → BestParts → P → Result BestParts QueryError → P → Type 0
Taken meaning look own asked each first old r new =
    BlocksRead meaning look look.pin.blocks (TakenTheirs asked own each first) (TakenWith asked own each first)
    (AtMost (look_ups (traces_of (flat_map (λ few. few) each)) look.pin.blocks)) old r new

pub taken_none : {P : Type 0} (meaning : Meaning P) (look : Look) (own : List Row) (asked : Asked) (port : P) (best : BestParts) → IsOpen meaning port (look_of look)
    → Taken meaning look own asked [] best port (Ok best) port
taken_none meaning look own asked port best is_open = record {
  pages = pages_none meaning look port is_open;
  comes = ([], λ e. refl, none_taken asked own best best refl);
  told = λ told parts are. ([], (refl, refl));
  bounded = λ told parts are. rose_none (look_ups [] look.pin.blocks parts) (meaning.reads port);
}

-- no more is kept than asked for, and in order
abbrev pub IsKept : BestParts → Type 0
IsKept best = (length best.kept ≤ best.limit) × IsSorted rank_cmp best.kept

-- no pick is left of which a result can come among the best
pub none_open : {P : Type 0} (meaning : Meaning P) (look : Look) (own : List Row) (asked : Asked) (few : List Pick) (best : BestParts) (port : P) → IsOpen meaning port (look_of look)
    → traces_of (open_picks best few) ≡ [] → IsKept best
    → BlocksRead meaning look look.pin.blocks (TakesTheirs asked own few best) (TakesWith asked own few best) (AtMost (look_ups (traces_of few) look.pin.blocks)) port (Ok best) port
none_open meaning look own asked few best port is_open none kept = record {
  pages = pages_none meaning look port is_open;
  comes = ([], λ e. refl, (nothing [], refl));
  told = λ told parts are. nothing (flat_map (λ part. part) parts);
  bounded = λ told parts are. rose_none (look_ups (traces_of few) look.pin.blocks parts) (meaning.reads port);
}
  where
    nothing : (rows : List Row) → TakesWith asked own few best rows best
    nothing rows = subst (λ (ids : List TraceId). Answered asked (own ++ rows) ids best best) (sym none) (none_answered asked (own ++ rows) best kept.0 kept.1)

pub taken_next : {P : Type 0} (meaning : Meaning P) (look : Look) (own : List Row) (asked : Asked) (law : TakesMore) (law_read : TakesMoreRead) (old mid new : P) (each : List (List Pick)) (few : List Pick)
    (first best : BestParts) (r : Result BestParts QueryError) → AreApart (flat_map (λ l. l) each ++ few) → Taken meaning look own asked each first old (Ok best) mid
    → BlocksRead meaning look look.pin.blocks (TakesTheirs asked own few best) (TakesWith asked own few best) (AtMost (look_ups (traces_of few) look.pin.blocks)) mid r new
    → Taken meaning look own asked (each ++ few ∷ []) first old r new
taken_next meaning look own asked law law_read old mid new each few first best r apart h one =
    reads_then meaning look old mid new best h r one (TakenTheirs asked own (each ++ few ∷ []) first) (TakenWith asked own (each ++ few ∷ []) first)
    (AtMost (look_ups (traces_of (flat_map (λ few. few) (each ++ few ∷ []))) look.pin.blocks))
    (λ y a b. more_read law_read asked own each few first best y a b apart) (λ y rows. more_taken law asked own each few first best y rows)
    (λ parts a b c fits. turn_rose each few look.pin.blocks parts a b c)
