-- A round: picks are taken, and a scan goes on.
use Rattle.std.proofs.Common.{◌≡◌, inl, inr, true, false, List, [], ◌∷◌, ◌++◌, All, Contains, append_assoc, arith, ap, drop, filter, length, slice_index_or, slice_set, subst, sym, take, ◌∙◌}
use Rattle.std.specs.List.{flat_map}
use Rattle.std.specs.List.Sorted.{IsPermutation}
use Rattle.std.specs.declared.cmp.Ordering.TheVariants.{Less}
use Rattle.std.proofs.lemmas.Grind.{flat_map-append}
use Rattle.std.proofs.lemmas.List.Elements.{All-append, All-contains, All-contains_itself, All-drop, All-filter, All-head, All-map, All-tail, All-take, All-weaker, Contains-append_cases, Contains-append_left, Contains-append_right}
use Rattle.std.proofs.lemmas.List.Kept.{AllPairs-cons}
use Rattle.std.proofs.lemmas.List.Sorted.{All-permutation, Contains-permutation}
use Rattle.span_types.specs.Orders.{trace_cmp}
use Rattle.span_types.specs.declared.spans.Row.{Row}
use Rattle.span_types.specs.declared.spans.Span.{Span}
use Rattle.column_scan.specs.Candidates.{Ascend, HaveLatest, IsCovered, pick_of, spans_of}
use Rattle.column_scan.specs.Sieves.{SieveParts, is_sifted, sifted_picks}
use Rattle.column_scan.specs.declared.picks.Pick.{Pick}
use Rattle.query_fanout.specs.Joined.{sifted_both}
use Rattle.query_fanout.specs.Rounds.{AllReach, AreScans, GoesOn, IsBatch, IsScan, goes_to, is_below, rows_gone}
use Rattle.query_fanout.specs.declared.reach.Reach.{Reach}
use Rattle.query_fanout.specs.declared.scans.Scan.{Scan}
use Rattle.query_fanout.proofs.PicksExist.{head_first, tail_ascends}
use Rattle.query_fanout.proofs.ReachLaws.{above_too, apart}

-- ---- what is taken

-- What was covered by what was taken and by what waited still is.
pub covered_taken : (taken waits few left picks : List Pick) → IsPermutation waits (few ++ left) → HaveLatest few picks → (p : Pick) → IsCovered (taken ++ waits) p
    → IsCovered ((taken ++ picks) ++ left) p
covered_taken taken waits few left picks moved have p (q, m, same, over) = elim (Contains-append_cases taken waits q m) [
  | inl before ↦ (q, Contains-append_left (taken ++ picks) left q (Contains-append_left taken picks q before), same, over)
  | inr waited ↦ elim (Contains-append_cases few left q (Contains-permutation waits (few ++ left) q moved waited)) [
    | inl now ↦ joined (All-contains (IsCovered picks) few q have.whole now)
    | inr then ↦ (q, Contains-append_right (taken ++ picks) left q then, same, over)
  ]
]
  where
    joined : IsCovered picks q → IsCovered ((taken ++ picks) ++ left) p
    joined (r, n, alike, above) = (r, Contains-append_left (taken ++ picks) left r (Contains-append_right taken picks r n), alike ∙ same, omega (arith, over, above))

-- picks in order, and then others above them
pub ascend_both : (gone : Reach) (taken picks : List Pick) → Ascend taken → Ascend picks → All (λ p. is_below gone p.trace ≡ true) taken → All (λ p. is_below gone p.trace ≡ false) picks
    → Ascend (taken ++ picks)
ascend_both gone [] picks up down below above = down
ascend_both gone (t ∷ ts) picks up down below above =
    AllPairs-cons (λ p q. trace_cmp p.trace q.trace ≡ Less) t (ts ++ picks)
    (All-append (λ (q : Pick). trace_cmp t.trace q.trace ≡ Less) ts picks (head_first t ts up)
    (All-weaker (λ (q : Pick). is_below gone q.trace ≡ false) (λ (q : Pick). trace_cmp t.trace q.trace ≡ Less)
    (λ q high. apart gone t.trace q.trace (All-head (λ (p : Pick). is_below gone p.trace ≡ true) t ts below) high) picks above))
    (ascend_both gone ts picks (tail_ascends t ts up) down (All-tail (λ (p : Pick). is_below gone p.trace ≡ true) t ts below) above)

-- what is picked of picks is where they are
pub picked_are : (P : Pick → Type 0) (few picks : List Pick) → HaveLatest few picks → All P few → All P picks
picked_are P few picks have all = All-weaker (Contains few) P (λ p m. All-contains P few p all m) picks have.only

pub few_among : (P : Pick → Type 0) (waits few left : List Pick) → IsPermutation waits (few ++ left) → All P waits → All P few
few_among P waits few left moved all =
    All-weaker (Contains few) P (λ p m. All-contains P (few ++ left) p (All-permutation P waits (few ++ left) moved all) (Contains-append_left few left p m)) few (All-contains_itself few)

pub left_among : (P : Pick → Type 0) (waits few left : List Pick) → IsPermutation waits (few ++ left) → All P waits → All P left
left_among P waits few left moved all =
    All-weaker (Contains left) P (λ p m. All-contains P (few ++ left) p (All-permutation P waits (few ++ left) moved all) (Contains-append_right few left p m)) left (All-contains_itself left)

-- The scans stay as they were, and no row is left below a bound that each has come to.
pub scans_stay : (sieve : SieveParts) (gone bound : Reach) (picks others : List Pick) (parts : List (List Row)) (scans : List Scan) → ((p : Pick) → IsCovered picks p → IsCovered others p)
    → AllReach bound scans → AreScans sieve gone picks parts scans → AreScans sieve bound others parts scans
scans_stay sieve gone bound picks others [] [] more reach are = tt
scans_stay sieve gone bound picks others [] (scan ∷ scans) more reach are = absurd are
scans_stay sieve gone bound picks others (rows ∷ parts) [] more reach are = absurd are
scans_stay sieve gone bound picks others (rows ∷ parts) (scan ∷ scans) more reach are = (
  record {
    covered = All-weaker (IsCovered picks) (IsCovered others) more (sifted_picks sieve (spans_of (take (rows_gone scan) rows))) are.0.covered;
    upto = are.0.upto;
    later = All-weaker (λ (row : Row). is_below scan.upto row.span.trace ≡ false) (λ (row : Row). is_below bound row.span.trace ≡ false)
        (λ row above. above_too bound scan.upto row.span.trace (All-head (λ (s : Scan). goes_to bound s.upto ≡ true) scan scans reach) above) (drop (rows_gone scan) rows) are.0.upto;
  },
  scans_stay sieve gone bound picks others parts scans more (All-tail (λ (s : Scan). goes_to bound s.upto ≡ true) scan scans reach) are.1,
)

-- ---- a scan that goes on

-- what rows pick is of their traces
sifted_are : (sieve : SieveParts) (gone : Reach) (rows : List Row) → All (λ row. is_below gone row.span.trace ≡ false) rows
    → All (λ p. is_below gone p.trace ≡ false) (sifted_picks sieve (spans_of rows))
sifted_are sieve gone rows all =
    All-map (λ (p : Pick). is_below gone p.trace ≡ false) pick_of (filter (is_sifted sieve) (spans_of rows))
    (All-filter (is_sifted sieve) (λ (s : Span). is_below gone s.trace ≡ false) (spans_of rows) (All-map (λ (s : Span). is_below gone s.trace ≡ false) (λ (row : Row). row.span) rows all))

-- more picks cover what some did
pub covered_more : (picks more : List Pick) (p : Pick) → IsCovered picks p → IsCovered (picks ++ more) p
covered_more picks more p c = (c.0, Contains-append_left picks more c.0 c.1, c.2, c.3)

pub scan_goes_on : (sieve : SieveParts) (gone : Reach) (picks found batch : List Pick) (rows : List Row) (scan next : Scan) → IsScan sieve gone picks rows scan → GoesOn sieve rows scan next found
    → IsBatch gone found batch → IsScan sieve gone (picks ++ batch) rows next
scan_goes_on sieve gone picks found batch rows scan next is goes are =
    let n = goes.count in
    let ahead : List Row = drop (rows_gone scan) rows in
    let some : List Pick = sifted_picks sieve (spans_of (take n ahead)) in
    let high : All (λ p. is_below gone p.trace ≡ false) some = sifted_are sieve gone (take n ahead) (All-take (λ row. is_below gone row.span.trace ≡ false) n ahead is.later) in record {
      covered = subst (λ (l : List Row). All (IsCovered (picks ++ batch)) (sifted_picks sieve (spans_of l))) (sym goes.front)
          (subst (All (IsCovered (picks ++ batch))) (sym (sifted_both sieve (take (rows_gone scan) rows) (take n ahead)))
          (All-append (IsCovered (picks ++ batch)) (sifted_picks sieve (spans_of (take (rows_gone scan) rows))) some
          (All-weaker (IsCovered picks) (IsCovered (picks ++ batch)) (covered_more picks batch) (sifted_picks sieve (spans_of (take (rows_gone scan) rows))) is.covered)
          (All-weaker (Contains some) (IsCovered (picks ++ batch)) (λ p m. by_found p (All-contains (λ q. is_below gone q.trace ≡ false) some p high m)
          (All-contains (IsCovered found) some p goes.whole m)) some (All-contains_itself some))));
      upto = goes.upto;
      later = subst (All (λ (row : Row). is_below gone row.span.trace ≡ false)) (sym goes.back) (All-drop (λ (row : Row). is_below gone row.span.trace ≡ false) n ahead is.later);
    }
  where
    by_found : (p : Pick) → is_below gone p.trace ≡ false → IsCovered found p → IsCovered (picks ++ batch) p
    by_found p high (q, m, same, over) =
        let c = All-contains (λ r. is_below gone r.trace ≡ false → IsCovered batch r) found q are.whole m (ap (λ id. is_below gone id) same ∙ high) in
        let above = c.3 in
        (c.0, Contains-append_right picks batch c.0 c.1, c.2 ∙ same, omega (arith, over, above))

-- ---- one scan among all

pub scan_there : (sieve : SieveParts) (gone : Reach) (picks : List Pick) (before : List (List Row)) (rows : List Row) (after : List (List Row)) (scans : List Scan) (d : Scan)
    → AreScans sieve gone picks (before ++ rows ∷ after) scans → IsScan sieve gone picks rows (slice_index_or scans (length before) d)
scan_there sieve gone picks [] rows after [] d are = absurd are
scan_there sieve gone picks [] rows after (scan ∷ scans) d are = are.0
scan_there sieve gone picks (b ∷ before) rows after [] d are = absurd are
scan_there sieve gone picks (b ∷ before) rows after (scan ∷ scans) d are = scan_there sieve gone picks before rows after scans d are.1

scans_more : (sieve : SieveParts) (gone : Reach) (picks more : List Pick) (parts : List (List Row)) (scans : List Scan) → AreScans sieve gone picks parts scans
    → AreScans sieve gone (picks ++ more) parts scans
scans_more sieve gone picks more [] [] are = tt
scans_more sieve gone picks more [] (scan ∷ scans) are = absurd are
scans_more sieve gone picks more (rows ∷ parts) [] are = absurd are
scans_more sieve gone picks more (rows ∷ parts) (scan ∷ scans) are = (
  record {
    covered = All-weaker (IsCovered picks) (IsCovered (picks ++ more)) (covered_more picks more) (sifted_picks sieve (spans_of (take (rows_gone scan) rows))) are.0.covered;
    upto = are.0.upto;
    later = are.0.later;
  },
  scans_more sieve gone picks more parts scans are.1,
)

pub scan_set : (sieve : SieveParts) (gone : Reach) (picks more : List Pick) (before : List (List Row)) (rows : List Row) (after : List (List Row)) (scans : List Scan) (next : Scan)
    → AreScans sieve gone picks (before ++ rows ∷ after) scans → IsScan sieve gone (picks ++ more) rows next
    → AreScans sieve gone (picks ++ more) (before ++ rows ∷ after) (slice_set scans (length before) next)
scan_set sieve gone picks more [] rows after [] next are is = absurd are
scan_set sieve gone picks more [] rows after (scan ∷ scans) next are is = (is, scans_more sieve gone picks more after scans are.1)
scan_set sieve gone picks more (b ∷ before) rows after [] next are is = absurd are
scan_set sieve gone picks more (b ∷ before) rows after (scan ∷ scans) next are is =
    ((scans_more sieve gone picks more (b ∷ []) (scan ∷ []) (are.0, tt)).0, scan_set sieve gone picks more before rows after scans next are.1 is)

-- ---- what is found is of the rows

pub sifted_within : (sieve : SieveParts) (a b c : List Row) (p : Pick) → Contains (sifted_picks sieve (spans_of b)) p → Contains (sifted_picks sieve (spans_of (a ++ (b ++ c)))) p
sifted_within sieve a b c p m =
    subst (λ (l : List Pick). Contains l p) (sym (sifted_both sieve a (b ++ c)))
    (Contains-append_right (sifted_picks sieve (spans_of a)) (sifted_picks sieve (spans_of (b ++ c))) p
    (subst (λ (l : List Pick). Contains l p) (sym (sifted_both sieve b c)) (Contains-append_left (sifted_picks sieve (spans_of b)) (sifted_picks sieve (spans_of c)) p m)))

pub found_within : (sieve : SieveParts) (seen : List Row) (before : List (List Row)) (rows : List Row) (after : List (List Row)) (p : Pick) → Contains (sifted_picks sieve (spans_of rows)) p
    → Contains (sifted_picks sieve (spans_of (seen ++ flat_map (λ part. part) (before ++ rows ∷ after)))) p
found_within sieve seen before rows after p m =
    subst (λ (l : List Row). Contains (sifted_picks sieve (spans_of l)) p)
    (append_assoc seen (flat_map (λ part. part) before) (rows ++ flat_map (λ part. part) after)
    ∙ ap (λ (l : List Row). seen ++ l) (sym (flat_map-append (λ (part : List Row). part) before (rows ∷ after))))
    (sifted_within sieve (seen ++ flat_map (λ part. part) before) rows (flat_map (λ part. part) after) p m)
