-- The scans of a look's blocks, one at its place.
use Rattle.std.proofs.Common.{◌≡◌, ℕ, zero, suc, ◌+◌, ◌<◌, true, false, List, [], ◌∷◌, ◌++◌, All, Contains, append-nil, arith, ap, drop, length, refl, slice_index_or, slice_set, subst, sym, take, ◌∙◌}
use Rattle.std.proofs.lemmas.List.{get_or_default, length-take}
use Rattle.std.proofs.lemmas.List.Elements.{All-cons, All-nil, All-weaker}
use Rattle.std.proofs.lemmas.List.Sums.{sum_by-set}
use Rattle.block_info.specs.InfoParts.{InfoParts}
use Rattle.column_scan.specs.Candidates.{Ascend, IsCovered}
use Rattle.column_scan.specs.declared.picks.Pick.{Pick}
use Rattle.store_model.specs.State.{is_among}
use Rattle.store_state.specs.Given.{info_files}
use Rattle.store_state.specs.declared.jobs.Look.{Look}
use Rattle.query_fanout.specs.Rounds.{AreInBatches, IsBegun, IsFresh, all_steps, all_waiting, infos_of, is_all, is_below, steps_left, waiting}
use Rattle.query_fanout.specs.Taking.{no_best}
use Rattle.query_fanout.specs.declared.reach.Reach.TheVariants.{Nothing}
use Rattle.query_fanout.specs.declared.rounds.Rounds.{Rounds}
use Rattle.query_fanout.specs.declared.scans.Scan.{Scan}
use Rattle.query_fanout.specs.declared.searching.Asked.{Asked}
use Rattle.query_fanout.specs.declared.waits.Batch.{Batch}
use Rattle.query_fanout.proofs.BlockLaws.{next_at}

info_there : (scans : List Scan) (at : ℕ) (scan : Scan) → at < length scans → scan ≡ slice_index_or scans at scan → scan.info.now ≡ slice_index_or (infos_of scans) at scan.info.now
info_there [] at scan low is = absurd (omega (arith, low))
info_there (s ∷ scans) zero scan low is = ap (λ (x : Scan). x.info.now) is
info_there (s ∷ scans) (suc at) scan low is = info_there scans at scan (omega (arith, low)) is

as_many : (scans : List Scan) → length (infos_of scans) ≡ length scans
as_many [] = refl
as_many (s ∷ scans) = ap (λ (n : ℕ). suc n) (as_many scans)

-- a scan's block among the look's
pub record ItsBlock (blocks : List InfoParts) (info : InfoParts) (at : ℕ) : Type 0 where
  pub front : List InfoParts
  pub back : List InfoParts
  pub are_all : blocks ≡ front ++ info ∷ back
  pub place : length front ≡ at
  pub among : is_among info.file (info_files blocks) ≡ true

pub its_block : (scans : List Scan) (blocks : List InfoParts) (at : ℕ) (scan : Scan) → infos_of scans ≡ blocks → at < length scans → scan ≡ slice_index_or scans at scan → ItsBlock blocks scan.info.now at
its_block scans blocks at scan are low is =
    let many = as_many scans in
    let inside : at < length (infos_of scans) = omega (arith, many, low) in
    let next = next_at blocks (infos_of scans) at scan.info.now scan.info.now are (info_there scans at scan low is) refl inside in
    let size = length-take at blocks in
    let same = ap length are in record {
      front = take at blocks;
      back = drop (at + 1) blocks;
      are_all = sym next.whole;
      place = omega (arith, size, same, inside);
      among = next.among;
    }

pub infos_stay : (scans : List Scan) (at : ℕ) (scan next : Scan) → at < length scans → scan ≡ slice_index_or scans at scan → next.info ≡ scan.info → infos_of (slice_set scans at next) ≡ infos_of scans
infos_stay [] at scan next low is same = absurd (omega (arith, low))
infos_stay (s ∷ scans) zero scan next low is same = ap (λ (i : InfoParts). i ∷ infos_of scans) (ap (λ b. b.now) same ∙ ap (λ (x : Scan). x.info.now) is)
infos_stay (s ∷ scans) (suc at) scan next low is same = ap (λ (l : List InfoParts). s.info.now ∷ l) (infos_stay scans at scan next (omega (arith, low)) is same)

pub fewer_steps : (scans : List Scan) (at : ℕ) (scan next : Scan) → at < length scans → scan ≡ slice_index_or scans at scan → steps_left next < steps_left scan
    → all_steps (slice_set scans at next) < all_steps scans
fewer_steps scans at scan next low is less =
    let moved = sum_by-set steps_left scans at next scan low in
    let same = ap steps_left is in
    omega (arith, moved, same, less)

pub begins : (look : Look) (asked : Asked) (picks : List Pick) (rounds : Rounds) (batch : Batch) → rounds.waits.items ≡ batch ∷ [] → infos_of rounds.scans.items ≡ look.pin.blocks
    → All IsFresh rounds.scans.items → rounds.gone ≡ Nothing → rounds.best ≡ no_best asked → Ascend batch.picks.items
    → All (λ p. is_below Nothing p.trace ≡ false → IsCovered (waiting batch) p) picks → All (Contains picks) (waiting batch) → IsBegun look asked picks rounds
begins look asked picks rounds batch waits infos fresh gone best up whole only =
    let one : all_waiting rounds.waits.items ≡ waiting batch = ap all_waiting waits ∙ append-nil (waiting batch) in record {
      well = record { batches = subst AreInBatches (sym waits) (All-cons (λ (b : Batch). Ascend b.picks.items) batch [] up (All-nil (λ (b : Batch). Ascend b.picks.items))); infos = infos };
      fresh = fresh;
      gone = gone;
      best = best;
      whole = subst (λ (l : List Pick). All (IsCovered l) picks) (sym one)
          (All-weaker (λ (p : Pick). is_below Nothing p.trace ≡ false → IsCovered (waiting batch) p) (IsCovered (waiting batch)) (λ p covers. covers refl) picks whole);
      only = subst (All (Contains picks)) (sym one) only;
    }

pub there : (scans : List Scan) (at : ℕ) (scan d : Scan) → at < length scans → scan ≡ slice_index_or scans at scan → is_all (slice_index_or scans at d).upto ≡ false → is_all scan.upto ≡ false
there scans at scan d low is goes_on = ap (λ (s : Scan). is_all s.upto) (is ∙ get_or_default scans at scan d low) ∙ goes_on
