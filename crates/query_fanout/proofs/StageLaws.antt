-- How a search comes from one stage to the next.
use Rattle.std.proofs.Common.{◌≡◌, ℕ, zero, suc, ◌+◌, ◌*◌, ◌<◌, ◌≤◌, true, false, List, [], ◌∷◌, ◌++◌, All, Contains, Err, Ok, Result, append-nil, append_assoc, arith, ap, drop, length, refl, slice_index_or, slice_set, subst, sym, take, ◌∙◌}
use Rattle.std.specs.Prelude.{if◌then◌else◌}
use Rattle.std.specs.List.{flat_map}
use Rattle.std.proofs.lemmas.List.Elements.{All-append, All-contains, All-head, All-nil, All-tail, All-weaker, Contains-append_left}
use Rattle.std.proofs.lemmas.List.Sorted.{IsPermutation-refl}
use Rattle.std.proofs.lemmas.List.Sums.{sum_by-cons, sum_by-set, sum_by-take-drop, sum_by-take-le}
use Rattle.span_types.specs.declared.ids.TraceId.{TraceId}
use Rattle.span_types.specs.declared.spans.Row.{Row}
use Rattle.block_info.specs.InfoParts.{InfoParts}
use Rattle.block_info.specs.declared.info.StripeInfo.{StripeInfo}
use Rattle.column_scan.specs.Candidates.{Ascend, HaveLatest, IsCovered, spans_of}
use Rattle.column_scan.specs.Scans.{may_scan, scanned_pages}
use Rattle.column_scan.specs.Sieves.{SieveParts, sifted_picks}
use Rattle.column_scan.specs.declared.hints.Hint.{Hint}
use Rattle.column_scan.specs.declared.picks.Pick.{Pick}
use Rattle.search_answer.specs.Keeping.{BestParts}
use Rattle.store_state.specs.Given.{look_of}
use Rattle.store_state.specs.Meaning.{IsOpen, Meaning}
use Rattle.store_state.specs.Written.{AreBlocksOf}
use Rattle.store_state.specs.declared.jobs.Look.{Look}
use Rattle.query_fanout.specs.Bounds.{hinted_pages}
use Rattle.query_fanout.specs.Joined.{sifted_both}
use Rattle.query_fanout.specs.Reading.{AtMost, BlocksRead, PartsRead, look_ups}
use Rattle.query_fanout.specs.Rounds.{AllReach, AreParted, AreScans, BrokenOff, GoesOn, IsBatch, IsBegun, IsFresh, IsGoneThrough, IsScan, IsWell, PicksOf, Reached, ReadsFor, ReadsOn, all_waiting, goes_to, gone_pages, infos_of, is_below, pages_gone, rows_gone}
use Rattle.query_fanout.specs.Searching.{TookTheirs, TookWith}
use Rattle.query_fanout.specs.Taking.{asked_sieve, no_best, traces_of}
use Rattle.query_fanout.specs.declared.error.QueryError.{QueryError}
use Rattle.query_fanout.specs.declared.error.QueryError.TheVariants.{Memory}
use Rattle.query_fanout.specs.declared.reach.Reach.{Reach}
use Rattle.query_fanout.specs.declared.reach.Reach.TheVariants.{Nothing}
use Rattle.query_fanout.specs.declared.rounds.Rounds.{Rounds}
use Rattle.query_fanout.specs.declared.scans.Found.{Found}
use Rattle.query_fanout.specs.declared.scans.Scan.{Scan}
use Rattle.query_fanout.specs.declared.searching.Asked.{Asked}
use Rattle.query_fanout.proofs.AfterLaws.{took_theirs, took_with}
use Rattle.query_fanout.proofs.BlockLaws.{rose_none, rose_twice}
use Rattle.query_fanout.proofs.CallLaws.{pages_none}
use Rattle.query_fanout.proofs.PartLaws.{AtBlock, in_parts, one_block, parts_end, parts_starved, parts_then}
use Rattle.query_fanout.proofs.ReachLaws.{wider}
use Rattle.query_fanout.proofs.RoundLaws.{ascend_both, covered_more, covered_taken, few_among, found_within, left_among, picked_are, scan_goes_on, scan_set, scan_there, scans_stay}
use Rattle.query_fanout.proofs.TakenLaws.{sum_more}

-- a scan went on
abbrev pub OneRead : {P : Type 0} → Meaning P → Look → Scan → SieveParts → P → Result Found QueryError → P → Type 0
OneRead meaning look scan sieve old r new =
    BlocksRead meaning look (scan.info.now ∷ []) (λ rows x. rows ≡ []) (λ rows x. GoesOn sieve rows scan x.scan x.picks.items) (ReadsOn sieve.hint scan r) old r new

-- ---- how much is read

-- what was gone over is part of what may be
pub gone_within : (hint : Hint) (scans : List Scan) → gone_pages hint scans ≤ hinted_pages hint (infos_of scans)
gone_within hint [] = omega arith
gone_within hint (scan ∷ scans) =
    let first = sum_by-cons (pages_gone hint) scan scans in
    let whole = sum_by-cons (λ (info : InfoParts). scanned_pages hint info.stripes) scan.info.now (infos_of scans) in
    let one = sum_by-take-le (λ (stripe : StripeInfo). if may_scan hint stripe then stripe.pages else 0) scan.info.now.stripes scan.next in
    let rest = gone_within hint scans in
    omega (arith, first, whole, one, rest)

-- also with all that is left of one block
pub left_within : (hint : Hint) (scans : List Scan) (at : ℕ) (scan : Scan) → at < length scans → scan ≡ slice_index_or scans at scan
    → gone_pages hint scans + scanned_pages hint (drop scan.next scan.info.now.stripes) ≤ hinted_pages hint (infos_of scans)
left_within hint [] at scan low is = absurd (omega (arith, low))
left_within hint (s ∷ scans) zero scan low is =
    let first = sum_by-cons (pages_gone hint) s scans in
    let whole = sum_by-cons (λ (info : InfoParts). scanned_pages hint info.stripes) s.info.now (infos_of scans) in
    let both = sum_by-take-drop (λ (stripe : StripeInfo). if may_scan hint stripe then stripe.pages else 0) s.info.now.stripes s.next in
    let rest = gone_within hint scans in
    let same : scanned_pages hint (drop scan.next scan.info.now.stripes) ≡ scanned_pages hint (drop s.next s.info.now.stripes) =
    ap (λ (x : Scan). scanned_pages hint (drop x.next x.info.now.stripes)) is in
    omega (arith, first, whole, both, rest, same)
left_within hint (s ∷ scans) (suc at) scan low is =
    let first = sum_by-cons (pages_gone hint) s scans in
    let whole = sum_by-cons (λ (info : InfoParts). scanned_pages hint info.stripes) s.info.now (infos_of scans) in
    let one = sum_by-take-le (λ (stripe : StripeInfo). if may_scan hint stripe then stripe.pages else 0) s.info.now.stripes s.next in
    let rest = left_within hint scans at scan (omega (arith, low)) is in
    omega (arith, first, whole, one, rest)

-- ---- a search begins

none_below : (gone : Reach) (id : TraceId) → gone ≡ Nothing → is_below gone id ≡ false
none_below gone id is = ap (λ (r : Reach). is_below r id) is

fresh_scans : (sieve : SieveParts) (gone : Reach) (picks : List Pick) (shows : ℕ → List ℕ) (parts : List (List Row)) (scans : List Scan) → gone ≡ Nothing → All IsFresh scans
    → AreBlocksOf shows (infos_of scans) parts → AreScans sieve gone picks parts scans
fresh_scans sieve gone picks shows [] [] none fresh are = tt
fresh_scans sieve gone picks shows [] (scan ∷ scans) none fresh are = absurd are
fresh_scans sieve gone picks shows (rows ∷ parts) [] none fresh are = absurd are
fresh_scans sieve gone picks shows (rows ∷ parts) (scan ∷ scans) none fresh are = (
  record {
    covered = subst (λ (n : ℕ). All (IsCovered picks) (sifted_picks sieve (spans_of (take n rows)))) (sym no_rows) (All-nil (IsCovered picks));
    upto = λ k d low. none_below scan.upto _ (All-head IsFresh scan scans fresh).upto;
    later = λ k d low. none_below gone _ none;
  },
  fresh_scans sieve gone picks shows parts scans none (All-tail IsFresh scan scans fresh) are.1,
)
  where
    no_rows : rows_gone scan ≡ 0
    no_rows = ap (λ (n : ℕ). 256 * n) (All-head IsFresh scan scans fresh).next

module _ {P : Type 0} (meaning : Meaning P) (look : Look) (seen own : List Row) (asked : Asked) where
  abbrev sieve : SieveParts
  sieve = asked_sieve asked

  took_none : (best : BestParts) (rows : List Row) → best ≡ no_best asked → TookWith asked own [] (no_best asked) rows best
  took_none best rows is = ([], IsPermutation-refl [], ([], (is, refl)))

  pub begun : (picks : List Pick) (rounds : Rounds) (port : P) → IsOpen meaning port (look_of look) → PicksOf sieve seen own picks → IsBegun look asked picks rounds
      → Reached meaning look seen own asked port rounds port
  begun picks rounds port is_open of is = record {
    well = is.well;
    taken = [];
    ascend = λ i j d before low. absurd (omega (arith, low));
    taken_are = All-nil (λ p. is_below rounds.gone p.trace ≡ true);
    waits_are = λ k d low. none_below rounds.gone _ is.gone;
    own_are = All-weaker (IsCovered picks) (IsCovered (all_waiting rounds.waits.items)) covers (sifted_picks sieve (spans_of own)) of.whole;
    reads = record {
      pages = pages_none meaning look port is_open;
      comes = ([], λ e. refl, ([], IsPermutation-refl [], ([], (is.best, refl), refl)));
      told = λ told parts are. (
        took_none rounds.best (flat_map (λ part. part) parts) is.best,
        record {
          scans = fresh_scans sieve rounds.gone (all_waiting rounds.waits.items) (meaning.shows port) parts rounds.scans.items is.gone is.fresh
              (subst (λ (l : List InfoParts). AreBlocksOf (meaning.shows port) l parts) (sym is.well.infos) are);
          only = All-weaker (Contains picks) (Contains (sifted_picks sieve (spans_of (seen ++ flat_map (λ part. part) parts)))) (λ p m. in_seen parts p (All-contains (Contains (sifted_picks sieve (spans_of seen))) picks p of.only m))
              (all_waiting rounds.waits.items) is.only;
        },
      );
      bounded = λ told parts are. record {
        ascend = λ i j d before low. absurd (omega (arith, low));
        only = All-nil (Contains (sifted_picks sieve (spans_of (seen ++ flat_map (λ part. part) parts))));
        rose = rose_none (gone_pages sieve.hint rounds.scans.items + look_ups [] look.pin.blocks parts) (meaning.reads port);
      };
    };
  }
    where
      covers : (p : Pick) → IsCovered picks p → IsCovered (all_waiting rounds.waits.items) p
      covers p (q, m, same, over) =
          let c = All-contains (IsCovered (all_waiting rounds.waits.items)) picks q is.whole m in
          let above = c.3 in
          (c.0, c.1, c.2 ∙ same, omega (arith, over, above))

      in_seen : (parts : List (List Row)) (p : Pick) → Contains (sifted_picks sieve (spans_of seen)) p → Contains (sifted_picks sieve (spans_of (seen ++ flat_map (λ part. part) parts))) p
      in_seen parts p m =
          subst (λ (l : List Pick). Contains l p) (sym (sifted_both sieve seen (flat_map (λ part. part) parts)))
          (Contains-append_left (sifted_picks sieve (spans_of seen)) (sifted_picks sieve (spans_of (flat_map (λ part. part) parts))) p m)

  -- ---- it is broken off

  -- what was read is within what may be, if more is for picks
  pub within_all : (rounds : Rounds) (taken : List Pick) (parts : List (List Row)) (a b : ℕ) → IsWell look rounds → ReadsFor sieve seen look.pin.blocks taken (gone_pages sieve.hint rounds.scans.items) parts a b
      → ReadsFor sieve seen look.pin.blocks taken (hinted_pages sieve.hint look.pin.blocks) parts a b
  within_all rounds taken parts a b well reads =
      let most = gone_within sieve.hint rounds.scans.items in
      let same = ap (hinted_pages sieve.hint) well.infos in
      let later = reads.rose.later in
      let bound = reads.rose.at_most in record {
        ascend = reads.ascend;
        only = reads.only;
        rose = record { later = later; at_most = omega (arith, most, same, bound) };
      }

  pub starved : (A : Type 0) (rounds : Rounds) (start now : P) → Reached meaning look seen own asked start rounds now → BrokenOff {A = A} meaning look seen asked start (Err Memory) now
  starved A rounds start now r =
      parts_starved meaning look start now rounds.best r.reads (λ parts a b fits reads. (r.taken, within_all rounds r.taken parts a b r.well reads))

  -- ---- picks are taken

  module _ (rounds : Rounds) (start mid new : P) (bound : Reach) (few left picks : List Pick) (r : Reached meaning look seen own asked start rounds mid) (to : goes_to rounds.gone bound ≡ true)
      (reach : AllReach bound rounds.scans.items) (parted : AreParted bound (all_waiting rounds.waits.items) few left) (have : HaveLatest few picks) (up : Ascend picks) where
    above : All (λ p. is_below rounds.gone p.trace ≡ false) picks
    above = picked_are (λ p. is_below rounds.gone p.trace ≡ false) few picks have (few_among (λ p. is_below rounds.gone p.trace ≡ false) (all_waiting rounds.waits.items) few left parted.same r.waits_are)

    whole_up : Ascend (r.taken ++ picks)
    whole_up = ascend_both rounds.gone r.taken picks r.ascend up r.taken_are above

    -- what is read in all, if the blocks are gone through as before
    reads_both : (parts : List (List Row)) (a b c : ℕ) → IsGoneThrough sieve seen r.taken rounds parts → ReadsFor sieve seen look.pin.blocks r.taken (gone_pages sieve.hint rounds.scans.items) parts a b
        → AtMost (look_ups (traces_of picks) look.pin.blocks) parts b c → ReadsFor sieve seen look.pin.blocks (r.taken ++ picks) (gone_pages sieve.hint rounds.scans.items) parts a c
    reads_both parts a b c gone one two = record {
      ascend = whole_up;
      only = All-append (Contains (sifted_picks sieve (spans_of (seen ++ flat_map (λ part. part) parts)))) r.taken picks one.only
          (picked_are (Contains (sifted_picks sieve (spans_of (seen ++ flat_map (λ part. part) parts)))) few picks have
          (few_among (Contains (sifted_picks sieve (spans_of (seen ++ flat_map (λ part. part) parts)))) (all_waiting rounds.waits.items) few left parted.same gone.only));
      rose =
          let more = sum_more r.taken picks look.pin.blocks parts in
          rose_twice (gone_pages sieve.hint rounds.scans.items + look_ups (traces_of r.taken) look.pin.blocks parts) (look_ups (traces_of picks) look.pin.blocks parts)
          (gone_pages sieve.hint rounds.scans.items + look_ups (traces_of (r.taken ++ picks)) look.pin.blocks parts) a b c one.rose two (omega (arith, more));
    }

    pub taken_then : (next : Rounds) → IsWell look next → next.scans ≡ rounds.scans → all_waiting next.waits.items ≡ left → next.gone ≡ bound
        → BlocksRead meaning look look.pin.blocks (TookTheirs asked own picks rounds.best) (TookWith asked own picks rounds.best) (AtMost (look_ups (traces_of picks) look.pin.blocks)) mid (Ok next.best) new
        → Reached meaning look seen own asked start next new
    taken_then next well scans_are waits_are gone_is read = record {
      well = well;
      taken = r.taken ++ picks;
      ascend = whole_up;
      taken_are = subst (λ (g : Reach). All (λ p. is_below g p.trace ≡ true) (r.taken ++ picks)) (sym gone_is)
          (All-append (λ p. is_below bound p.trace ≡ true) r.taken picks
          (All-weaker (λ (p : Pick). is_below rounds.gone p.trace ≡ true) (λ (p : Pick). is_below bound p.trace ≡ true) (λ p below. wider rounds.gone bound p.trace to below) r.taken r.taken_are)
          (picked_are (λ p. is_below bound p.trace ≡ true) few picks have parted.few_are));
      waits_are = subst (λ (g : Reach). All (λ p. is_below g p.trace ≡ false) (all_waiting next.waits.items)) (sym gone_is)
          (subst (All (λ p. is_below bound p.trace ≡ false)) (sym waits_are) parted.left_are);
      own_are = subst (λ (l : List Pick). All (IsCovered ((r.taken ++ picks) ++ l)) (sifted_picks sieve (spans_of own))) (sym waits_are)
          (All-weaker (IsCovered (r.taken ++ all_waiting rounds.waits.items)) (IsCovered ((r.taken ++ picks) ++ left))
          (covered_taken r.taken (all_waiting rounds.waits.items) few left picks parted.same have) (sifted_picks sieve (spans_of own)) r.own_are);
      reads = subst (λ scans. PartsRead meaning look (TookTheirs asked own (r.taken ++ picks) (no_best asked))
          (λ parts best. TookWith asked own (r.taken ++ picks) (no_best asked) (flat_map (λ part. part) parts) best × IsGoneThrough sieve seen (r.taken ++ picks) next parts)
          (ReadsFor sieve seen look.pin.blocks (r.taken ++ picks) (gone_pages sieve.hint scans.items)) start (Ok next.best) new) (sym scans_are)
          (parts_then meaning look start mid new rounds.best r.reads next.best next.best (in_parts meaning look mid new (Ok next.best) read)
          (λ a b. took_theirs asked own r.taken picks (no_best asked) rounds.best next.best a b whole_up)
          (λ parts fits took. (took_with asked own r.taken picks (no_best asked) rounds.best next.best (flat_map (λ part. part) parts) fits.0 took, through parts fits.1))
          (λ parts a b c fits took one two. reads_both parts a b c fits.1 one two));
    }
      where
        through : (parts : List (List Row)) → IsGoneThrough sieve seen r.taken rounds parts → IsGoneThrough sieve seen (r.taken ++ picks) next parts
        through parts is = record {
          scans = subst (λ (g : Reach). AreScans sieve g ((r.taken ++ picks) ++ all_waiting next.waits.items) parts next.scans.items) (sym gone_is)
              (subst (λ scans. AreScans sieve bound ((r.taken ++ picks) ++ all_waiting next.waits.items) parts scans.items) (sym scans_are)
              (subst (λ (l : List Pick). AreScans sieve bound ((r.taken ++ picks) ++ l) parts rounds.scans.items) (sym waits_are)
              (scans_stay sieve rounds.gone bound (r.taken ++ all_waiting rounds.waits.items) ((r.taken ++ picks) ++ left) parts rounds.scans.items
              (covered_taken r.taken (all_waiting rounds.waits.items) few left picks parted.same have) reach is.scans)));
          only = subst (All (Contains (sifted_picks sieve (spans_of (seen ++ flat_map (λ part. part) parts))))) (sym waits_are)
              (left_among (Contains (sifted_picks sieve (spans_of (seen ++ flat_map (λ part. part) parts)))) (all_waiting rounds.waits.items) few left parted.same is.only);
        }

    pub taken_fails : (A : Type 0) (why : QueryError)
        → BlocksRead {A = BestParts} meaning look look.pin.blocks (TookTheirs asked own picks rounds.best) (TookWith asked own picks rounds.best) (AtMost (look_ups (traces_of picks) look.pin.blocks)) mid (Err why) new
        → BrokenOff {A = A} meaning look seen asked start (Err why) new
    taken_fails A why read =
        parts_end meaning look start mid new rounds.best r.reads why (in_parts meaning look mid new (Err why) read)
        (λ parts a b c fits one two. (r.taken ++ picks, within_all rounds (r.taken ++ picks) parts a c r.well (reads_both parts a b c fits.1 one two)))

  -- ---- a scan goes on

  module _ (rounds : Rounds) (start mid new : P) (at : ℕ) (scan : Scan) (r : Reached meaning look seen own asked start rounds mid) (low : at < length rounds.scans.items)
      (is : scan ≡ slice_index_or rounds.scans.items at scan) (front back : List InfoParts) (are_all : look.pin.blocks ≡ front ++ scan.info.now ∷ back) (place : length front ≡ at) where
    -- what it finds waits
    pub gone_on : (next : Rounds) (found : Found) (batch : List Pick) → IsWell look next → next.scans.items ≡ slice_set rounds.scans.items at found.scan
        → all_waiting next.waits.items ≡ all_waiting rounds.waits.items ++ batch → next.gone ≡ rounds.gone → next.best ≡ rounds.best → IsBatch rounds.gone found.picks.items batch
        → BlocksRead meaning look (scan.info.now ∷ []) (λ rows x. rows ≡ []) (λ rows x. GoesOn sieve rows scan x.scan x.picks.items) (ReadsOn sieve.hint scan (Ok found)) mid (Ok found) new
        → Reached meaning look seen own asked start next new
    gone_on next found batch well scans_are waits_are gone_is best_is batch_is read = record {
      well = well;
      taken = r.taken;
      ascend = r.ascend;
      taken_are = subst (λ (g : Reach). All (λ p. is_below g p.trace ≡ true) r.taken) (sym gone_is) r.taken_are;
      waits_are = subst (λ (g : Reach). All (λ p. is_below g p.trace ≡ false) (all_waiting next.waits.items)) (sym gone_is)
          (subst (All (λ p. is_below rounds.gone p.trace ≡ false)) (sym waits_are)
          (All-append (λ p. is_below rounds.gone p.trace ≡ false) (all_waiting rounds.waits.items) batch r.waits_are batch_is.above));
      own_are = subst (λ (l : List Pick). All (IsCovered l) (sifted_picks sieve (spans_of own))) (sym joined)
          (All-weaker (IsCovered before) (IsCovered (before ++ batch)) (covered_more before batch) (sifted_picks sieve (spans_of own)) r.own_are);
      reads = subst (λ (best : BestParts). PartsRead meaning look (TookTheirs asked own r.taken (no_best asked))
          (λ parts best. TookWith asked own r.taken (no_best asked) (flat_map (λ part. part) parts) best × IsGoneThrough sieve seen r.taken next parts)
          (ReadsFor sieve seen look.pin.blocks r.taken (gone_pages sieve.hint next.scans.items)) start (Ok best) new) (sym best_is)
          (parts_then meaning look start mid new rounds.best r.reads found rounds.best
          (one_block meaning look front scan.info.now back are_all (λ rows x. rows ≡ []) (λ rows x. GoesOn sieve rows scan x.scan x.picks.items) _ mid new (Ok found) read)
          (λ a b took none. subst (λ (l : List Row). TookTheirs asked own r.taken (no_best asked) l rounds.best) (sym (ap (λ (l : List Row). a ++ l) none ∙ append-nil a)) took)
          (λ parts fits there. (fits.0, through parts fits.1 there))
          (λ parts a b c fits there one two. further parts a b c one two));
    }
      where
        before : List Pick
        before = r.taken ++ all_waiting rounds.waits.items

        joined : r.taken ++ all_waiting next.waits.items ≡ before ++ batch
        joined = ap (λ (l : List Pick). r.taken ++ l) waits_are ∙ sym (append_assoc r.taken (all_waiting rounds.waits.items) batch)

        through : (parts : List (List Row)) → IsGoneThrough sieve seen r.taken rounds parts
            → AtBlock front back (λ early late rows. GoesOn sieve rows scan found.scan found.picks.items) parts → IsGoneThrough sieve seen r.taken next parts
        through parts all there = record {
          scans = subst (λ (g : Reach). AreScans sieve g (r.taken ++ all_waiting next.waits.items) parts next.scans.items) (sym gone_is)
              (subst (λ (l : List Pick). AreScans sieve rounds.gone l parts next.scans.items) (sym joined)
              (subst (λ (l : List Scan). AreScans sieve rounds.gone (before ++ batch) parts l) (sym scans_are)
              (subst (λ (l : List (List Row)). AreScans sieve rounds.gone (before ++ batch) l (slice_set rounds.scans.items at found.scan)) (sym there.is)
              (subst (λ (n : ℕ). AreScans sieve rounds.gone (before ++ batch) (there.before ++ there.rows ∷ there.after) (slice_set rounds.scans.items n found.scan)) (there.place ∙ place)
              (scan_set sieve rounds.gone before batch there.before there.rows there.after rounds.scans.items found.scan
              (subst (λ (l : List (List Row)). AreScans sieve rounds.gone before l rounds.scans.items) there.is all.scans)
              (scan_goes_on sieve rounds.gone before found.picks.items batch there.rows scan found.scan (here parts all there) there.fit batch_is))))));
          only = subst (All (Contains (sifted_picks sieve (spans_of (seen ++ flat_map (λ part. part) parts))))) (sym waits_are)
              (All-append (Contains (sifted_picks sieve (spans_of (seen ++ flat_map (λ part. part) parts)))) (all_waiting rounds.waits.items) batch all.only
              (All-weaker (Contains found.picks.items) (Contains (sifted_picks sieve (spans_of (seen ++ flat_map (λ part. part) parts))))
              (λ p m. subst (λ (l : List (List Row)). Contains (sifted_picks sieve (spans_of (seen ++ flat_map (λ part. part) l))) p) (sym there.is)
              (found_within sieve seen there.before there.rows there.after p (All-contains (Contains (sifted_picks sieve (spans_of there.rows))) found.picks.items p there.fit.only m)))
              batch batch_is.only));
        }
          where
            here : (parts : List (List Row)) → IsGoneThrough sieve seen r.taken rounds parts
                → (there : AtBlock front back (λ early late rows. GoesOn sieve rows scan found.scan found.picks.items) parts) → IsScan sieve rounds.gone before there.rows scan
            here parts all there =
                subst (λ (s : Scan). IsScan sieve rounds.gone before there.rows s) (sym is)
                (subst (λ (n : ℕ). IsScan sieve rounds.gone before there.rows (slice_index_or rounds.scans.items n scan)) (there.place ∙ place)
                (scan_there sieve rounds.gone before there.before there.rows there.after rounds.scans.items scan
                (subst (λ (l : List (List Row)). AreScans sieve rounds.gone before l rounds.scans.items) there.is all.scans)))

        further : (parts : List (List Row)) (a b c : ℕ) → ReadsFor sieve seen look.pin.blocks r.taken (gone_pages sieve.hint rounds.scans.items) parts a b
            → (rows : List Row) × ReadsOn sieve.hint scan (Ok found) (rows ∷ []) b c → ReadsFor sieve seen look.pin.blocks r.taken (gone_pages sieve.hint next.scans.items) parts a c
        further parts a b c one (rows, (n, more, rose)) =
            let moved = sum_by-set (pages_gone sieve.hint) rounds.scans.items at found.scan scan low in
            let same = ap (gone_pages sieve.hint) scans_are in
            let old = ap (pages_gone sieve.hint) is in record {
              ascend = one.ascend;
              only = one.only;
              rose = rose_twice (gone_pages sieve.hint rounds.scans.items + look_ups (traces_of r.taken) look.pin.blocks parts) n
                  (gone_pages sieve.hint next.scans.items + look_ups (traces_of r.taken) look.pin.blocks parts) a b c one.rose rose (omega (arith, moved, same, old, more));
            }

    pub goes_wrong : (A : Type 0) (why : QueryError)
        → BlocksRead {A = Found} meaning look (scan.info.now ∷ []) (λ rows x. rows ≡ []) (λ rows x. GoesOn sieve rows scan x.scan x.picks.items) (ReadsOn sieve.hint scan (Err why)) mid (Err why) new
        → BrokenOff {A = A} meaning look seen asked start (Err why) new
    goes_wrong A why read =
        parts_end meaning look start mid new rounds.best r.reads why (one_block meaning look front scan.info.now back are_all (λ rows x. rows ≡ []) (λ rows x. GoesOn sieve rows scan x.scan x.picks.items) _ mid new (Err why) read)
        (λ parts a b c fits one two. (r.taken, further parts a b c one two))
      where
        further : (parts : List (List Row)) (a b c : ℕ) → ReadsFor sieve seen look.pin.blocks r.taken (gone_pages sieve.hint rounds.scans.items) parts a b
            → (rows : List Row) × ReadsOn sieve.hint scan (Err why) (rows ∷ []) b c → ReadsFor sieve seen look.pin.blocks r.taken (hinted_pages sieve.hint look.pin.blocks) parts a c
        further parts a b c one (rows, rose) =
            let most = left_within sieve.hint rounds.scans.items at scan low is in
            let same = ap (hinted_pages sieve.hint) r.well.infos in record {
              ascend = one.ascend;
              only = one.only;
              rose = rose_twice (gone_pages sieve.hint rounds.scans.items + look_ups (traces_of r.taken) look.pin.blocks parts) (scanned_pages sieve.hint (drop scan.next scan.info.now.stripes))
                  (hinted_pages sieve.hint look.pin.blocks + look_ups (traces_of r.taken) look.pin.blocks parts) a b c one.rose rose (omega (arith, most, same));
            }

    -- there is no memory for what it found
    pub goes_hungry : (A : Type 0) (found : Found) → found.scan.info ≡ scan.info → OneRead meaning look scan sieve mid (Ok found) new → BrokenOff {A = A} meaning look seen asked start (Err Memory) new
    goes_hungry A found same_info read =
        parts_end {B = Found} meaning look start mid new rounds.best r.reads Memory
        (parts_starved {B = Found} meaning look {other_some = λ rows x. rows ≡ []} {other_fits = λ parts x. Unit {0}} {other_within = λ parts b c. (rows : List Row) × ReadsOn sieve.hint scan (Ok found) (rows ∷ []) b c}
        mid new found (one_block meaning look front scan.info.now back are_all (λ rows x. rows ≡ []) (λ rows x. GoesOn sieve rows scan x.scan x.picks.items) _ mid new (Ok found) read) (λ parts b c fits reads. reads))
        (λ parts a b c fits one two. (r.taken, further parts a b c one two))
      where
        further : (parts : List (List Row)) (a b c : ℕ) → ReadsFor sieve seen look.pin.blocks r.taken (gone_pages sieve.hint rounds.scans.items) parts a b
            → (rows : List Row) × ReadsOn sieve.hint scan (Ok found) (rows ∷ []) b c → ReadsFor sieve seen look.pin.blocks r.taken (hinted_pages sieve.hint look.pin.blocks) parts a c
        further parts a b c one (rows, (n, more, rose)) =
            let most = left_within sieve.hint rounds.scans.items at scan low is in
            let same = ap (hinted_pages sieve.hint) r.well.infos in
            let part : pages_gone sieve.hint found.scan ≤ scanned_pages sieve.hint scan.info.now.stripes =
            subst (λ i. pages_gone sieve.hint found.scan ≤ scanned_pages sieve.hint i.now.stripes) same_info
            (sum_by-take-le (λ (stripe : StripeInfo). if may_scan sieve.hint stripe then stripe.pages else 0) found.scan.info.now.stripes found.scan.next) in
            let both = sum_by-take-drop (λ (stripe : StripeInfo). if may_scan sieve.hint stripe then stripe.pages else 0) scan.info.now.stripes scan.next in record {
              ascend = one.ascend;
              only = one.only;
              rose = rose_twice (gone_pages sieve.hint rounds.scans.items + look_ups (traces_of r.taken) look.pin.blocks parts) n
                  (hinted_pages sieve.hint look.pin.blocks + look_ups (traces_of r.taken) look.pin.blocks parts) a b c one.rose rose (omega (arith, most, same, part, both, more));
            }
