-- Whoever follows the duties of an ingest asks what an ingest asks.
use Rattle.std.proofs.Common.{◌≡◌, ◌⊎◌, inl, inr, ◌∙◌, ℕ, ◌+◌, ◌-◌, ◌<◌, ◌≤◌, Bool, true, false, List, [], ◌∷◌, ◌++◌, Option, Ok, refl, sym, ap, subst, arith, append_assoc, append-nil, eqb-true}
use Rattle.std.specs.Prelude.{◌==◌, nat_le, if◌then◌else◌}
use Rattle.session_text.specs.declared.reply.Reply.{Reply}
use Rattle.session_text.specs.declared.request.Request.{Request}
use Rattle.session_text.specs.declared.request.Request.TheVariants.{Compact, CutAll, Flush, Reclaim}
use Rattle.session_text.specs.Items.{Item}
use Rattle.store_model.specs.State.{held_of}
use Rattle.session_meaning.specs.declared.ending.Ending.{Ending}
use Rattle.session_meaning.specs.declared.ending.Ending.TheVariants.{Answered, BadWords, NotOpened, NotStore, ReadFault, Refused, Spent, Starved, WriteFault}
use Rattle.session_meaning.specs.At.{At}
use Rattle.session_meaning.specs.Duties.{Duty, Follows, IsDue, IsLeft, ask, at_the_end, compact_all, due, due_at, duties, from_lines, keep_small, most_rounds, push}
use Rattle.session_meaning.specs.Ingest.{AsksLine, AsksNothing, Asks, AtTheEnd, Compacts, Far, Ingests, KeptSmall, LinesPushed, Part, Pushes, Stand, Then, is_joined, many_rows}
use Rattle.session_meaning.specs.Ingest.Far.{so_far, whole}
use Rattle.session_meaning.specs.Runs.{CameSoFar}
use Rattle.session_meaning.specs.Session.{IsAnsweredOrRefused}
use Rattle.session_meaning.proofs.IngestRounds.{one_joined}

-- ---- how much is to do

-- how many things a duty may ask at least
abbrev weight_of : Duty → ℕ
weight_of keep_small = 2
weight_of duty = 1

abbrev weight : List Duty → ℕ
weight [] = 0
weight (duty ∷ todo) = weight_of duty + weight todo

-- What is due is no more than what is to do.
due_weight : (held : ℕ) (todo : List Duty) → weight (due held todo) ≤ weight todo
due_weight held [] = omega arith
due_weight held (push line ∷ later) = omega arith
due_weight held (ask request ∷ later) = omega arith
due_weight held (keep_small ∷ later) = go (nat_le many_rows held) (due_weight held later)
  where
    go : (b : Bool) → weight (due held later) ≤ weight later → weight (if b then ask CutAll ∷ ask Flush ∷ later else due held later) ≤ 2 + weight later
    go true less = omega arith
    go false less = omega (arith, less)
due_weight held (compact_all times ∷ later) = go (times == 0) (due_weight held later)
  where
    go : (b : Bool) → weight (due held later) ≤ weight later → weight (if b then due held later else compact_all times ∷ later) ≤ 1 + weight later
    go true less = omega (arith, less)
    go false less = omega arith

-- What is to do after something was asked is less than what was due.
asked_weight : (todo later : List Duty) (told told_later : Option (List ℕ)) (item : Item) (reply : Reply) → IsDue todo told item reply later told_later → weight later ≤ weight todo
asked_weight [] later told told_later item reply bad = absurd bad
asked_weight (push line ∷ rest) later told told_later item reply due = let same = ap weight due.1 in omega (arith, same)
asked_weight (ask request ∷ rest) later told told_later item reply due = let same = ap weight due.1 in omega (arith, same)
asked_weight (keep_small ∷ rest) later told told_later item reply bad = absurd bad
asked_weight (compact_all times ∷ rest) later told told_later item reply due = go (is_joined reply) due.2
  where
    go : (b : Bool) → later ≡ (if b then compact_all (times - 1) ∷ rest else rest) → weight later ≤ 1 + weight rest
    go true is = let same = ap weight is in omega (arith, same)
    go false is = let same = ap weight is in omega (arith, same)

more_weight : (front back : List (List ℕ)) → weight (from_lines back) ≤ weight (from_lines (front ++ back))
more_weight [] back = omega arith
more_weight ([] ∷ front) back = more_weight front back
more_weight ((b ∷ bs) ∷ front) back = let less = more_weight front back in omega (arith, less)

abbrev stand : At → Option (List ℕ) → Stand
stand at told = record { store = at; moments = told }

module _ (sure : Bool) where
  left_weight : (todo left : List Duty) (told to_tell : Option (List ℕ)) (items : List Item) (replies : List Reply) (first last : At)
      → Follows sure todo told first items replies last left to_tell → weight left ≤ weight todo
  left_weight todo left told to_tell [] replies first last (none, same, inl is, clock) = let size = ap weight is in omega (arith, size)
  left_weight todo left told to_tell [] replies first last (none, same, inr is, clock) =
      let size = ap weight is in let less = due_weight (held_of first.machine.state) todo in omega (arith, size, less)
  left_weight todo left told to_tell (i ∷ is) [] first last bad = absurd bad
  left_weight todo left told to_tell (i ∷ is) (r ∷ rs) first last (between, later, told_later, is_due, answered, rest) =
      let tail = left_weight later left told_later to_tell is rs between last rest in
      let head = asked_weight (due_at first todo) later told told_later i r is_due in
      let less = due_weight (held_of first.machine.state) todo in
      omega (arith, tail, head, less)

  -- ---- one part after another

  -- The run stopped in this part, and more than the rest is left; or it came to its end, and the rest was followed.
  abbrev Peeled : Part → List Duty → Stand → List Item → List Reply → At → List Duty → Option (List ℕ) → Type 0
  Peeled part rest before items replies last left to_tell =
      (part before items replies (stand last to_tell) so_far × (1 + weight rest ≤ weight left))
      ⊎ ((mid : Stand) × (xs ys : List Item) × (rs ss : List Reply) × (items ≡ xs ++ ys) × (replies ≡ rs ++ ss)
      × part before xs rs mid whole × Follows sure rest mid.moments mid.store ys ss last left to_tell)

  -- What these duties ask first is this part; then the rest is to do.
  abbrev Peels : Part → List Duty → List Duty → Type 0
  Peels part todo rest = (told to_tell : Option (List ℕ)) (items : List Item) (replies : List Reply) (first last : At) (left : List Duty)
      → Follows sure todo told first items replies last left to_tell → Peeled part rest (stand first told) items replies last left to_tell

  then_peeled : (one two : Part) (rest : List Duty) (before mid : Stand) (items xs ys : List Item) (replies rs ss : List Reply) (last : At) (left : List Duty) (to_tell : Option (List ℕ))
      → items ≡ xs ++ ys → replies ≡ rs ++ ss → one before xs rs mid whole → Peeled two rest mid ys ss last left to_tell → Peeled (Then one two) rest before items replies last left to_tell
  then_peeled one two rest before mid items xs ys replies rs ss last left to_tell items_are replies_are done (inl halt) =
      inl (inr (mid, xs, ys, rs, ss, items_are, replies_are, done, halt.0), halt.1)
  then_peeled one two rest before mid items xs ys replies rs ss last left to_tell items_are replies_are done (inr (end, zs, us, ts, vs, ys_are, ss_are, also, later)) =
      inr (
        end,
        xs ++ zs,
        us,
        rs ++ ts,
        vs,
        items_are ∙ ap (λ (l : List Item). xs ++ l) ys_are ∙ sym (append_assoc xs zs us),
        replies_are ∙ ap (λ (l : List Reply). rs ++ l) ss_are ∙ sym (append_assoc rs ts vs),
        inr (mid, xs, zs, rs, ts, refl, refl, done, also),
        later,
      )

  peel_then : (one two : Part) (todo next rest : List Duty) → weight rest ≤ weight next → Peels one todo next → Peels two next rest → Peels (Then one two) todo rest
  peel_then one two todo next rest less first_of next_of told to_tell items replies first last left h = by_first (first_of told to_tell items replies first last left h)
    where
      by_first : Peeled one next (stand first told) items replies last left to_tell → Peeled (Then one two) rest (stand first told) items replies last left to_tell
      by_first (inl halt) = let more = halt.1 in inl (inl (halt.0, refl), omega (arith, more, less))
      by_first (inr (mid, xs, ys, rs, ss, items_are, replies_are, done, later)) =
          then_peeled one two rest (stand first told) mid items xs ys replies rs ss last left to_tell items_are replies_are done
          (next_of mid.moments to_tell ys ss mid.store last left later)

  -- the run stopped before anything was asked
  idle : (told to_tell : Option (List ℕ)) (replies : List Reply) (first last : At) → replies ≡ [] → last ≡ first → to_tell ≡ told
      → AsksNothing (stand first told) [] replies (stand last to_tell)
  idle told to_tell replies first last none same clock =
      (refl, none, ap (λ (at : At). stand at to_tell) same ∙ ap (λ (o : Option (List ℕ)). stand first o) clock)

  peel_ask : (request : Request) (rest : List Duty) → Peels (Asks sure request) (ask request ∷ rest) rest
  peel_ask request rest told to_tell [] replies first last left (none, same, found, clock) =
      inl (inl (idle told to_tell replies first last none same clock, refl), elim found [ inl is ↦ size is | inr is ↦ size is ])
    where
      size : left ≡ ask request ∷ rest → 1 + weight rest ≤ weight left
      size is = let all = ap weight is in omega (arith, all)
  peel_ask request rest told to_tell (i ∷ is) [] first last left bad = absurd bad
  peel_ask request rest told to_tell (i ∷ is) (r ∷ rs) first last left (between, later, told_later, due, answered, more) =
      inr (
        stand between told_later,
        i ∷ [],
        is,
        r ∷ [],
        rs,
        refl,
        refl,
        inr (r, ap (λ (x : Item). x ∷ []) due.0, refl, subst (λ (x : Item). IsAnsweredOrRefused sure x first r between) due.0 answered, due.2),
        subst (λ (todo : List Duty). Follows sure todo told_later between is rs last left to_tell) due.1 more,
      )

  peel_line : (line : List ℕ) (rest : List Duty) → Peels (AsksLine sure line) (push line ∷ rest) rest
  peel_line line rest told to_tell [] replies first last left (none, same, found, clock) =
      inl (inl (idle told to_tell replies first last none same clock, refl), elim found [ inl is ↦ size is | inr is ↦ size is ])
    where
      size : left ≡ push line ∷ rest → 1 + weight rest ≤ weight left
      size is = let all = ap weight is in omega (arith, all)
  peel_line line rest told to_tell (i ∷ is) [] first last left bad = absurd bad
  peel_line line rest told to_tell (i ∷ is) (r ∷ rs) first last left (between, later, told_later, due, answered, more) =
      inr (
        stand between told_later,
        i ∷ [],
        is,
        r ∷ [],
        rs,
        refl,
        refl,
        inr (due.0.0, i, r, due.0.1, due.0.2, refl, refl, answered, due.2),
        subst (λ (todo : List Duty). Follows sure todo told_later between is rs last left to_tell) due.1 more,
      )

  peel_both : (rest : List Duty) → Peels (Then (Asks sure CutAll) (Asks sure Flush)) (ask CutAll ∷ ask Flush ∷ rest) rest
  peel_both rest =
      peel_then (Asks sure CutAll) (Asks sure Flush) (ask CutAll ∷ ask Flush ∷ rest) (ask Flush ∷ rest) rest (omega arith) (peel_ask CutAll (ask Flush ∷ rest)) (peel_ask Flush rest)

  few_held : (n : ℕ) → nat_le many_rows n ≡ false → n < many_rows
  few_held n is = grind arith

  many_held : (n : ℕ) → nat_le many_rows n ≡ true → many_rows ≤ n
  many_held n is = grind arith

  -- the run stopped before it was looked at how many rows the store holds
  small_idle : (told to_tell : Option (List ℕ)) (replies : List Reply) (first last : At) → AsksNothing (stand first told) [] replies (stand last to_tell)
      → KeptSmall sure (stand first told) [] replies (stand last to_tell) so_far
  small_idle told to_tell replies first last nothing = go (nat_le many_rows (held_of first.machine.state)) refl
    where
      go : (b : Bool) → nat_le many_rows (held_of first.machine.state) ≡ b → KeptSmall sure (stand first told) [] replies (stand last to_tell) so_far
      go true is = inr (many_held (held_of first.machine.state) is, inl (inl (nothing, refl), refl))
      go false is = inl (few_held (held_of first.machine.state) is, nothing)

  many_peeled : (rest : List Duty) (told to_tell : Option (List ℕ)) (items : List Item) (replies : List Reply) (first last : At) (left : List Duty)
      → many_rows ≤ held_of first.machine.state → Peeled (Then (Asks sure CutAll) (Asks sure Flush)) rest (stand first told) items replies last left to_tell
      → Peeled (KeptSmall sure) rest (stand first told) items replies last left to_tell
  many_peeled rest told to_tell items replies first last left many (inl halt) = inl (inr (many, halt.0), halt.1)
  many_peeled rest told to_tell items replies first last left many (inr (mid, xs, ys, rs, ss, items_are, replies_are, done, later)) =
      inr (mid, xs, ys, rs, ss, items_are, replies_are, inr (many, done), later)

  few_peeled : (rest : List Duty) (told to_tell : Option (List ℕ)) (items : List Item) (replies : List Reply) (first last : At) (left : List Duty)
      → held_of first.machine.state < many_rows → Follows sure rest told first items replies last left to_tell
      → Peeled (KeptSmall sure) rest (stand first told) items replies last left to_tell
  few_peeled rest told to_tell items replies first last left few h = inr (stand first told, [], items, [], replies, refl, refl, inl (few, (refl, refl, refl)), h)

  peel_small : (rest : List Duty) → Peels (KeptSmall sure) (keep_small ∷ rest) rest
  peel_small rest told to_tell [] replies first last left (none, same, inl is, clock) =
      let all = ap weight is in inl (small_idle told to_tell replies first last (idle told to_tell replies first last none same clock), omega (arith, all))
  peel_small rest told to_tell [] replies first last left (none, same, inr is, clock) = go (nat_le many_rows (held_of first.machine.state)) refl is
    where
      go : (b : Bool) → nat_le many_rows (held_of first.machine.state) ≡ b → left ≡ (if b then ask CutAll ∷ ask Flush ∷ rest else due_at first rest)
          → Peeled (KeptSmall sure) rest (stand first told) [] replies last left to_tell
      go true held found =
          let all = ap weight found in inl (small_idle told to_tell replies first last (idle told to_tell replies first last none same clock), omega (arith, all))
      go false held found = few_peeled rest told to_tell [] replies first last left (few_held (held_of first.machine.state) held) (none, same, inr found, clock)
  peel_small rest told to_tell (i ∷ is) [] first last left bad = absurd bad
  peel_small rest told to_tell (i ∷ is) (r ∷ rs) first last left (between, later, told_later, is_due, answered, more) =
      go (nat_le many_rows (held_of first.machine.state)) refl is_due
    where
      go : (b : Bool) → nat_le many_rows (held_of first.machine.state) ≡ b
          → IsDue (if b then ask CutAll ∷ ask Flush ∷ rest else due_at first rest) told i r later told_later
          → Peeled (KeptSmall sure) rest (stand first told) (i ∷ is) (r ∷ rs) last left to_tell
      go true held due =
          many_peeled rest told to_tell (i ∷ is) (r ∷ rs) first last left (many_held (held_of first.machine.state) held)
          (peel_both rest told to_tell (i ∷ is) (r ∷ rs) first last left (between, later, told_later, due, answered, more))
      go false held due =
          few_peeled rest told to_tell (i ∷ is) (r ∷ rs) first last left (few_held (held_of first.machine.state) held) (between, later, told_later, due, answered, more)

  -- ---- the lines

  peel_lines : (pushed later : List (List ℕ)) → Peels (LinesPushed sure pushed) (from_lines (pushed ++ later)) (from_lines later)
  peel_lines [] later told to_tell items replies first last left h = inr (stand first told, [], items, [], replies, refl, refl, (refl, refl, refl), h)
  peel_lines ([] ∷ pushed) later told to_tell items replies first last left h = peel_lines pushed later told to_tell items replies first last left h
  peel_lines ((b ∷ bs) ∷ pushed) later told to_tell items replies first last left h =
      peel_then (Then (AsksLine sure (b ∷ bs)) (KeptSmall sure)) (LinesPushed sure pushed) (from_lines (((b ∷ bs) ∷ pushed) ++ later)) (from_lines (pushed ++ later)) (from_lines later)
      (more_weight pushed later)
      (peel_then (AsksLine sure (b ∷ bs)) (KeptSmall sure) (from_lines (((b ∷ bs) ∷ pushed) ++ later)) (keep_small ∷ from_lines (pushed ++ later)) (from_lines (pushed ++ later)) (omega arith)
      (peel_line (b ∷ bs) (keep_small ∷ from_lines (pushed ++ later))) (peel_small (from_lines (pushed ++ later))))
      (peel_lines pushed later) told to_tell items replies first last left h

  -- ---- the end

  abbrev Compacted : At → Option (List ℕ) → List Duty → List Item → List Reply → At → List Duty → Option (List ℕ) → Type 0
  Compacted first told rest items replies last left to_tell = Peeled (Compacts sure) rest (stand first told) items replies last left to_tell

  -- one that joined blocks, before others
  joins : (first between : At) (told told_later to_tell : Option (List ℕ)) (rest : List Duty) (item : Item) (reply : Reply) (items : List Item) (replies : List Reply) (last : At) (left : List Duty)
      → item ≡ Ok Compact → IsAnsweredOrRefused sure item first reply between → told_later ≡ told → is_joined reply ≡ true
      → Compacted between told_later rest items replies last left to_tell → Compacted first told rest (item ∷ items) (reply ∷ replies) last left to_tell
  joins first between told told_later to_tell rest item reply items replies last left is answered clock joined (inl halt) =
      inl ((is, stand between told_later, answered, clock, inl (joined, halt.0)), halt.1)
  joins first between told told_later to_tell rest item reply items replies last left is answered clock joined (inr (mid, xs, ys, rs, ss, items_are, replies_are, done, later)) =
      inr (
        mid,
        item ∷ xs,
        ys,
        reply ∷ rs,
        ss,
        ap (λ (l : List Item). item ∷ l) items_are,
        ap (λ (l : List Reply). reply ∷ l) replies_are,
        (is, stand between told_later, answered, clock, inl (joined, done)),
        later,
      )

  compact_weight : (times : ℕ) (rest left : List Duty) → 1 ≤ times → left ≡ (if times == 0 then rest else compact_all times ∷ rest) → 1 + weight rest ≤ weight left
  compact_weight times rest left some is = go (times == 0) refl is
    where
      go : (b : Bool) → (times == 0) ≡ b → left ≡ (if b then rest else compact_all times ∷ rest) → 1 + weight rest ≤ weight left
      go true none found = let zero = eqb-true times 0 none in absurd (omega (arith, zero, some))
      go false none found = let all = ap weight found in omega (arith, all)

  -- What follows a compaction, where what follows one that joined blocks is known.
  one_compacts : (times : ℕ) (rest : List Duty) (told to_tell : Option (List ℕ)) (item : Item) (items : List Item) (reply : Reply) (replies : List Reply) (first last : At) (left : List Duty)
      → 1 ≤ times → 4294967295 ≤ first.machine.state.next_file + times
      → ((more : ℕ) (told_next : Option (List ℕ)) (next : At) → 1 ≤ more → 4294967295 ≤ next.machine.state.next_file + more
      → Follows sure (compact_all more ∷ rest) told_next next items replies last left to_tell → Compacted next told_next rest items replies last left to_tell)
      → Follows sure (compact_all times ∷ rest) told first (item ∷ items) (reply ∷ replies) last left to_tell
      → Compacted first told rest (item ∷ items) (reply ∷ replies) last left to_tell
  one_compacts times rest told to_tell item items reply replies first last left some many follows (between, later, told_later, is_due, answered, more) =
      by_count (times == 0) refl is_due
    where
      by_reply : item ≡ Ok Compact → told_later ≡ told → (b : Bool) → is_joined reply ≡ b → later ≡ (if b then compact_all (times - 1) ∷ rest else rest)
          → Compacted first told rest (item ∷ items) (reply ∷ replies) last left to_tell
      by_reply is_compact clock true joined next =
          let one = one_joined sure item reply first between is_compact joined answered in
          let next_file = one.next in
          let below = one.below in
          joins first between told told_later to_tell rest item reply items replies last left is_compact answered clock joined
          (follows (times - 1) told_later between (omega (arith, some, many, below)) (omega (arith, some, many, next_file))
          (subst (λ (todo : List Duty). Follows sure todo told_later between items replies last left to_tell) next more))
      by_reply is_compact clock false joined next =
          inr (
            stand between told_later,
            item ∷ [],
            items,
            reply ∷ [],
            replies,
            refl,
            refl,
            (is_compact, stand between told_later, answered, clock, inr (joined, (refl, refl, refl))),
            subst (λ (todo : List Duty). Follows sure todo told_later between items replies last left to_tell) next more,
          )

      by_count : (b : Bool) → (times == 0) ≡ b → IsDue (if b then due_at first rest else compact_all times ∷ rest) told item reply later told_later
          → Compacted first told rest (item ∷ items) (reply ∷ replies) last left to_tell
      by_count true none due = let zero = eqb-true times 0 none in absurd (omega (arith, zero, some))
      by_count false none due = by_reply due.0 due.1 (is_joined reply) refl due.2

  -- Each compaction that joins blocks takes a number for a file, so they come to an end before their count does.
  compacts : (times : ℕ) (rest : List Duty) → ((held : ℕ) → due held rest ≡ rest) → (told to_tell : Option (List ℕ)) (items : List Item) (replies : List Reply) (first last : At) (left : List Duty)
      → 1 ≤ times → 4294967295 ≤ first.machine.state.next_file + times
      → Follows sure (compact_all times ∷ rest) told first items replies last left to_tell → Compacted first told rest items replies last left to_tell
  compacts times rest plain told to_tell [] replies first last left some many (none, same, inl is, clock) =
      let all = ap weight is in
      inl ((none, (idle told to_tell replies first last none same clock).2, refl), omega (arith, all))
  compacts times rest plain told to_tell [] replies first last left some many (none, same, inr is, clock) =
      inl ((none, (idle told to_tell replies first last none same clock).2, refl), compact_weight times rest left some (is ∙ ap (λ (l : List Duty). if times == 0 then l else compact_all times ∷ rest) (plain (held_of first.machine.state))))
  compacts times rest plain told to_tell (i ∷ is) [] first last left some many bad = absurd bad
  compacts times rest plain told to_tell (i ∷ is) (r ∷ rs) first last left some many h =
      one_compacts times rest told to_tell i is r rs first last left some many
      (λ more told_next next some_more many_more later. compacts more rest plain told_next to_tell is rs next last left some_more many_more later) h

  abbrev last_duties : List Duty
  last_duties = compact_all most_rounds ∷ ask Reclaim ∷ []

  peel_compactions : Peels (Compacts sure) last_duties (ask Reclaim ∷ [])
  peel_compactions told to_tell items replies first last left h =
      compacts most_rounds (ask Reclaim ∷ []) (λ held. refl) told to_tell items replies first last left (omega arith) (omega arith) h

  peel_end : Peels (AtTheEnd sure) at_the_end []
  peel_end =
      peel_then (Asks sure CutAll) (Then (Asks sure Flush) (Then (Compacts sure) (Asks sure Reclaim))) at_the_end (ask Flush ∷ last_duties) [] (omega arith)
      (peel_ask CutAll (ask Flush ∷ last_duties))
      (peel_then (Asks sure Flush) (Then (Compacts sure) (Asks sure Reclaim)) (ask Flush ∷ last_duties) last_duties [] (omega arith)
      (peel_ask Flush last_duties)
      (peel_then (Compacts sure) (Asks sure Reclaim) last_duties (ask Reclaim ∷ []) [] (omega arith) peel_compactions (peel_ask Reclaim [])))

  peel_all : (source : List (List ℕ)) → Peels (Ingests sure source) (duties source) []
  peel_all source =
      peel_then (KeptSmall sure) (Then (LinesPushed sure source) (AtTheEnd sure)) (duties source) (from_lines source) [] (omega arith) (peel_small (from_lines source))
      (peel_then (LinesPushed sure source) (AtTheEnd sure) (from_lines source) at_the_end [] (omega arith)
      (subst (λ (s : List (List ℕ)). Peels (LinesPushed sure source) (from_lines s) at_the_end) (append-nil source) (peel_lines source [])) peel_end)

  -- ---- what comes of all duties

  -- nothing is asked of no duties
  nothing_more : (told to_tell : Option (List ℕ)) (items : List Item) (replies : List Reply) (first last : At) (left : List Duty)
      → Follows sure [] told first items replies last left to_tell → AsksNothing (stand first told) items replies (stand last to_tell)
  nothing_more told to_tell [] replies first last left (none, same, found, clock) = idle told to_tell replies first last none same clock
  nothing_more told to_tell (i ∷ is) [] first last left bad = absurd bad
  nothing_more told to_tell (i ∷ is) (r ∷ rs) first last left (between, later, told_later, bad, answered, more) = absurd bad

  -- A part after which nothing was asked is all.
  all_of : (part : Part) (far : Far) (before mid after : Stand) (items xs ys : List Item) (replies rs ss : List Reply) → items ≡ xs ++ ys → replies ≡ rs ++ ss
      → AsksNothing mid ys ss after → part before xs rs mid far → part before items replies after far
  all_of part far before mid after items xs ys replies rs ss items_are replies_are (no_items, no_replies, same) done =
      let whole_items : items ≡ xs = items_are ∙ ap (λ (l : List Item). xs ++ l) no_items ∙ append-nil xs in
      let whole_replies : replies ≡ rs = replies_are ∙ ap (λ (l : List Reply). rs ++ l) no_replies ∙ append-nil rs in
      subst (λ (l : List Item). part before l replies after far) (sym whole_items)
      (subst (λ (l : List Reply). part before xs l after far) (sym whole_replies)
      (subst (λ (s : Stand). part before xs rs s far) (sym same) done))

  -- What came to its end may be said to have stopped.
  eased_then : (one two : Part) (before after : Stand) (items : List Item) (replies : List Reply)
      → ((mid : Stand) (ys : List Item) (ss : List Reply) → two mid ys ss after whole → two mid ys ss after so_far)
      → Then one two before items replies after whole → Then one two before items replies after so_far
  eased_then one two before after items replies eases (inl halt) = inl (halt.0, refl)
  eased_then one two before after items replies eases (inr (mid, xs, ys, rs, ss, items_are, replies_are, done, rest)) =
      inr (mid, xs, ys, rs, ss, items_are, replies_are, done, eases mid ys ss rest)

  eased_ask : (request : Request) (before after : Stand) (items : List Item) (replies : List Reply) → Asks sure request before items replies after whole
      → Asks sure request before items replies after so_far
  eased_ask request before after items replies (inl nothing) = inl (nothing.0, refl)
  eased_ask request before after items replies (inr done) = inr done

  eased : (source : List (List ℕ)) (before after : Stand) (items : List Item) (replies : List Reply) → Ingests sure source before items replies after whole
      → Ingests sure source before items replies after so_far
  eased source before after items replies =
      eased_then (KeptSmall sure) (Then (LinesPushed sure source) (AtTheEnd sure)) before after items replies (λ m is rs.
      eased_then (LinesPushed sure source) (AtTheEnd sure) m after is rs (λ n js ss.
      eased_then (Asks sure CutAll) (Then (Asks sure Flush) (Then (Compacts sure) (Asks sure Reclaim))) n after js ss (λ o ks ts.
      eased_then (Asks sure Flush) (Then (Compacts sure) (Asks sure Reclaim)) o after ks ts (λ p ls us.
      eased_then (Compacts sure) (Asks sure Reclaim) p after ls us (λ q ms vs. eased_ask Reclaim q after ms vs)))))

  pub stops_somewhere : (source : List (List ℕ)) (told to_tell : Option (List ℕ)) (left : List Duty) (items : List Item) (replies : List Reply) (first last : At)
      → Follows sure (duties source) told first items replies last left to_tell → Ingests sure source (stand first told) items replies (stand last to_tell) so_far
  stops_somewhere source told to_tell left items replies first last h = by_all (peel_all source told to_tell items replies first last left h)
    where
      by_all : Peeled (Ingests sure source) [] (stand first told) items replies last left to_tell → Ingests sure source (stand first told) items replies (stand last to_tell) so_far
      by_all (inl halt) = halt.0
      by_all (inr (mid, xs, ys, rs, ss, items_are, replies_are, done, later)) =
          all_of (Ingests sure source) so_far (stand first told) mid (stand last to_tell) items xs ys replies rs ss items_are replies_are
          (nothing_more mid.moments to_tell ys ss mid.store last left later) (eased source (stand first told) mid xs rs done)

  pub ends_whole : (source : List (List ℕ)) (told to_tell : Option (List ℕ)) (items : List Item) (replies : List Reply) (first last : At)
      → Follows sure (duties source) told first items replies last [] to_tell → Ingests sure source (stand first told) items replies (stand last to_tell) whole
  ends_whole source told to_tell items replies first last h = by_all (peel_all source told to_tell items replies first last [] h)
    where
      by_all : Peeled (Ingests sure source) [] (stand first told) items replies last [] to_tell → Ingests sure source (stand first told) items replies (stand last to_tell) whole
      by_all (inl halt) = let bad = halt.1 in absurd (omega (arith, bad))
      by_all (inr (mid, xs, ys, rs, ss, items_are, replies_are, done, later)) =
          all_of (Ingests sure source) whole (stand first told) mid (stand last to_tell) items xs ys replies rs ss items_are replies_are
          (nothing_more mid.moments to_tell ys ss mid.store last [] later) done

  -- ---- what comes of some lines

  -- Where something was asked, less is left.
  less_left : (todo left : List Duty) (told to_tell : Option (List ℕ)) (item : Item) (items : List Item) (reply : Reply) (replies : List Reply) (first last : At)
      → ((told_later : Option (List ℕ)) (later : List Duty) → IsDue (due_at first todo) told item reply later told_later → weight later + 1 ≤ weight todo)
      → Follows sure todo told first (item ∷ items) (reply ∷ replies) last left to_tell → weight left + 1 ≤ weight todo
  less_left todo left told to_tell item items reply replies first last less (between, later, told_later, is_due, answered, rest) =
      let tail = left_weight later left told_later to_tell items replies between last rest in
      let head = less told_later later is_due in
      omega (arith, tail, head)

  lines_less : (later : List (List ℕ)) (at : At) (told : Option (List ℕ)) (item : Item) (reply : Reply) (told_later : Option (List ℕ)) (rest : List Duty)
      → IsDue (due_at at (from_lines later)) told item reply rest told_later → weight rest + 1 ≤ weight (from_lines later)
  lines_less [] at told item reply told_later rest due = let all = ap weight due.1 in omega (arith, all)
  lines_less ([] ∷ later) at told item reply told_later rest due = lines_less later at told item reply told_later rest due
  lines_less ((b ∷ bs) ∷ later) at told item reply told_later rest due = let all = ap weight due.1 in omega (arith, all)

  no_step : (later : List (List ℕ)) (told to_tell : Option (List ℕ)) (items : List Item) (replies : List Reply) (first last : At)
      → Follows sure (from_lines later) told first items replies last (from_lines later) to_tell → AsksNothing (stand first told) items replies (stand last to_tell)
  no_step later told to_tell [] replies first last (none, same, found, clock) = idle told to_tell replies first last none same clock
  no_step later told to_tell (i ∷ is) [] first last bad = absurd bad
  no_step later told to_tell (i ∷ is) (r ∷ rs) first last h =
      let bad = less_left (from_lines later) (from_lines later) told to_tell i is r rs first last (λ told_later rest due. lines_less later first told i r told_later rest due) h in
      absurd (omega (arith, bad))

  pub pushes_lines : (pushed later : List (List ℕ)) (told to_tell : Option (List ℕ)) (items : List Item) (replies : List Reply) (first last : At)
      → Follows sure (duties (pushed ++ later)) told first items replies last (from_lines later) to_tell
      → Pushes sure pushed (stand first told) items replies (stand last to_tell)
  pushes_lines pushed later told to_tell items replies first last h = by_all (peeled told to_tell items replies first last (from_lines later) h)
    where
      peeled : Peels (Then (KeptSmall sure) (LinesPushed sure pushed)) (duties (pushed ++ later)) (from_lines later)
      peeled =
          peel_then (KeptSmall sure) (LinesPushed sure pushed) (duties (pushed ++ later)) (from_lines (pushed ++ later)) (from_lines later) (more_weight pushed later)
          (peel_small (from_lines (pushed ++ later))) (peel_lines pushed later)

      by_all : Peeled (Then (KeptSmall sure) (LinesPushed sure pushed)) (from_lines later) (stand first told) items replies last (from_lines later) to_tell
          → Pushes sure pushed (stand first told) items replies (stand last to_tell)
      by_all (inl halt) = let bad = halt.1 in absurd (omega (arith, bad))
      by_all (inr (mid, xs, ys, rs, ss, items_are, replies_are, done, rest)) =
          all_of (Then (KeptSmall sure) (LinesPushed sure pushed)) whole (stand first told) mid (stand last to_tell) items xs ys replies rs ss items_are replies_are
          (no_step later mid.moments to_tell ys ss mid.store last rest) done

  -- ---- by how a run ends

  came_whole : (source : List (List ℕ)) (told to_tell : Option (List ℕ)) (items : List Item) (replies : List Reply) (first last : At) (left : List Duty)
      → Follows sure (duties source) told first items replies last left to_tell → left ≡ [] → Ingests sure source (stand first told) items replies (stand last to_tell) whole
  came_whole source told to_tell items replies first last left h is =
      ends_whole source told to_tell items replies first last (subst (λ (l : List Duty). Follows sure (duties source) told first items replies last l to_tell) is h)

  came_to_lines : (source pushed later : List (List ℕ)) (told to_tell : Option (List ℕ)) (items : List Item) (replies : List Reply) (first last : At) (left : List Duty)
      → source ≡ pushed ++ later → Follows sure (duties source) told first items replies last left to_tell → left ≡ from_lines later
      → Pushes sure pushed (stand first told) items replies (stand last to_tell)
  came_to_lines source pushed later told to_tell items replies first last left parts h is =
      pushes_lines pushed later told to_tell items replies first last
      (subst (λ (s : List (List ℕ)). Follows sure (duties s) told first items replies last (from_lines later) to_tell) parts
      (subst (λ (l : List Duty). Follows sure (duties source) told first items replies last l to_tell) is h))

  pub came_so_far : (e : Ending) (source pushed later : List (List ℕ)) (told to_tell : Option (List ℕ)) (items : List Item) (replies : List Reply) (first last : At) (left : List Duty)
      → source ≡ pushed ++ later → Follows sure (duties source) told first items replies last left to_tell → IsLeft e later left
      → CameSoFar sure e source pushed (stand first told) items replies (stand last to_tell)
  came_so_far Answered source pushed later told to_tell items replies first last left parts h is = came_whole source told to_tell items replies first last left h is
  came_so_far WriteFault source pushed later told to_tell items replies first last left parts h is = stops_somewhere source told to_tell left items replies first last h
  came_so_far BadWords source pushed later told to_tell items replies first last left parts h is = stops_somewhere source told to_tell left items replies first last h
  came_so_far ReadFault source pushed later told to_tell items replies first last left parts h is = came_to_lines source pushed later told to_tell items replies first last left parts h is
  came_so_far NotOpened source pushed later told to_tell items replies first last left parts h is = stops_somewhere source told to_tell left items replies first last h
  came_so_far (NotStore file at) source pushed later told to_tell items replies first last left parts h is = stops_somewhere source told to_tell left items replies first last h
  came_so_far Starved source pushed later told to_tell items replies first last left parts h is = stops_somewhere source told to_tell left items replies first last h
  came_so_far Refused source pushed later told to_tell items replies first last left parts h is = came_whole source told to_tell items replies first last left h is
  came_so_far Spent source pushed later told to_tell items replies first last left parts h is = came_to_lines source pushed later told to_tell items replies first last left parts h is
