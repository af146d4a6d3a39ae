-- Histories that can't be told apart are told alike, and stored alike.
use Rattle.std.proofs.Common.{◌≡◌, ◌⊎◌, inl, inr, ◌∙◌, ℕ, ◌+◌, ◌-◌, ◌≤◌, suc, List, [], ◌∷◌, ◌++◌, Option, Some, None, Ok, Err, IsTrue, ap, arith, length, refl, sym, subst, take, true}
use Rattle.disk_model.specs.Images.{Image}
use Rattle.disk_model.specs.Crash.{Reached}
use Rattle.disk_model.specs.declared.disk.Device.{Ghosts}
use Rattle.client_run.specs.Answers.{asked_of, counted_of}
use Rattle.query_fanout.specs.declared.searching.Asked.{Asked}
use Rattle.session_text.specs.declared.reply.Reply.{Reply}
use Rattle.session_text.specs.declared.reply.Reply.TheVariants.{Measured, Pushed, Refused, Reopened, Searched, Traced}
use Rattle.session_text.specs.declared.request.Request.TheVariants as request
use Rattle.session_text.specs.Items.{Item}
use Rattle.spanset_eval.specs.declared.results.TraceResult.{TraceResult}
use Rattle.store_reopen.specs.Through.{Pending, StoodAmid}
use Rattle.store_entries.specs.declared.entry.Entry.{Entry}
use Rattle.store_images.specs.Stored.{ImageStandsFor, KeepsStored, MayStandFor}
use Rattle.store_model.specs.History.{History, count_of, grown, history_rows, up_to, with_entry}
use Rattle.store_model.proofs.HistoryLaws.{count_grown}
use Rattle.stored_history.specs.Alike.{AreAlike}
use Rattle.stored_history.proofs.OneHistory.{alike, stands_for_alike}
use Rattle.stored_history.proofs.StayAlike.{same_firsts, stay_alike}
use Rattle.session_meaning.specs.Act.{Act}
use Rattle.session_meaning.specs.Act.Act.{Ask, Reopen, Unread}
use Rattle.session_meaning.specs.At.{history_of}
use Rattle.session_meaning.specs.Kept.{Kept, begun_with, kept_after, kept_after_all, kept_at, were_unsure}
use Rattle.session_meaning.specs.Runs.{Edges, IsRunOf, Outcome}
use Rattle.session_meaning.specs.Session.{IsFound}
use Rattle.session_meaning.specs.Stops.{Recovers}
use Rattle.session_meaning.proofs.Firsts.{trace_alike}
use Rattle.headline.specs.Amid.{AllMayStandFor, GoesOnFrom, IsAmid, LiesAmid}
use Rattle.headline.specs.Headline.{KeepsTheHistory, Tells, TellTheHistory, TellsOf}
use Rattle.headline.proofs.Histories.{KeptAlike, acts_grow, added_all, added_all_alike, all_alike, line_alike, told_kept, were_alike}
use Rattle.headline.proofs.Kept.{kept_amid, kept_throughout, run_keeps}

-- ---- what is told

found_alike : (asked : Asked) (h g : History) (results : List TraceResult) → AreAlike h g → IsFound asked h results → IsFound asked g results
found_alike asked h g results same found = record { rows = found.rows; firsts = same_firsts h g found.rows same found.firsts; answer = found.answer }

tells_alike : (item : Item) (r : Reply) (h g : History) → AreAlike h g → Tells h item r → Tells g item r
tells_alike (Err why) r h g same t = t
tells_alike (Ok item) (Refused why) h g same t = tt
tells_alike (Ok (request.Push reading moment)) (Pushed number accepted rejected skipped) h g same t = (t.0 ∙ same.counts, t.1, t.2, t.3)
tells_alike (Ok (request.Trace id)) (Traced as_of rows) h g same t = (t.0 ∙ same.counts, trace_alike id (history_rows h) (history_rows g) rows same.firsts t.1)
tells_alike (Ok (request.Search s)) (Searched as_of fields results) h g same t = (t.0 ∙ same.counts, t.1, found_alike (asked_of s) h g results same t.2)
tells_alike (Ok (request.Metrics m)) (Measured as_of series) h g same t = (t.0 ∙ same.counts, (t.1.0, found_alike (counted_of m) h g t.1.0 same t.1.1, t.1.2))
tells_alike (Ok (request.Push reading moment)) r h g same t = absurd t
tells_alike (Ok (request.Trace id)) r h g same t = absurd t
tells_alike (Ok (request.Search s)) r h g same t = absurd t
tells_alike (Ok (request.Metrics m)) r h g same t = absurd t
tells_alike (Ok _) r h g same t = t

again_alike : (entries : ℕ) (k l : Kept) → KeptAlike k l → (moment : ℕ) → entries ≡ count_of (kept_after k (Reopen moment) (Reopened entries)).history
    → entries ≡ count_of (kept_after l (Reopen moment) (Reopened entries)).history
again_alike entries k l same moment is = is ∙ (line_alike (Reopen moment) (Reopened entries) k l same).histories.counts

act_alike : (act : Act) (r : Reply) (k l : Kept) → KeptAlike k l → TellsOf k act r → TellsOf l act r
act_alike (Ask item) r k l same t = (sym same.is_open ∙ t.0, tells_alike item r k.history l.history same.histories t.1)
act_alike (Reopen moment) (Reopened entries) k l same t = again_alike entries k l same moment t
act_alike (Reopen moment) (Refused why) k l same t = tt
act_alike (Reopen moment) _ k l same t = absurd t
act_alike Unread r k l same t = (sym same.is_open ∙ t.0, t.1)

pub told_alike : (acts : List Act) (replies : List Reply) (k l last : Kept) → KeptAlike k l → TellTheHistory k acts replies last → TellTheHistory l acts replies (kept_after_all l acts replies)
told_alike [] replies k l last same t = (t.0, refl)
told_alike (a ∷ more) [] k l last same t = absurd t
told_alike (a ∷ more) (r ∷ rs) k l last same t =
    (act_alike a r k l same t.0, told_alike more rs (kept_after k a r) (kept_after l a r) last (line_alike a r k l same) t.1)

-- ---- what is stored

pub may_alike : (image : Image) (unsure : Option Entry) (h g : History) → AreAlike h g → MayStandFor h unsure image → MayStandFor g unsure image
may_alike image None h g same stands = stands_for_alike image h g stands same
may_alike image (Some entry) h g same (inl stands) = inl (stands_for_alike image h g stands same)
may_alike image (Some entry) h g same (inr stands) = inr (stands_for_alike image (grown h (entry ∷ [])) (grown g (entry ∷ [])) stands (stay_alike h g (entry ∷ []) same))

take_past : (xs ys : List Entry) (n : ℕ) → take (length xs + n) (xs ++ ys) ≡ xs ++ take n ys
take_past [] ys n = ap (λ (k : ℕ). take k ys) (none n)
  where
    none : (n : ℕ) → 0 + n ≡ n
    none n = omega arith
take_past (x ∷ xs) ys n = ap (λ (k : ℕ). take k (x ∷ (xs ++ ys))) (one (length xs) n) ∙ ap (λ (zs : List Entry). x ∷ zs) (take_past xs ys n)
  where
    one : (l n : ℕ) → suc l + n ≡ suc (l + n)
    one l n = omega arith

-- a grown history at a length that it had since
up_to_grown : (h : History) (more : List Entry) (n : ℕ) → count_of h ≤ n → up_to n (grown h more) ≡ grown h (take (n - count_of h) more)
up_to_grown h more n since =
    ap (λ (es : List Entry). record { base = h.base; start = h.start; entries = es })
    (ap (λ (k : ℕ). take k (h.entries ++ more)) (further h.start (length h.entries) n since) ∙ take_past h.entries more (n - count_of h))
  where
    further : (s l n : ℕ) → s + l ≤ n → n - s ≡ l + (n - (s + l))
    further s l n since = omega (arith, since)

-- the same fronts of histories that grew by the same are alike
up_alike : (more : List Entry) (h g : History) (n : ℕ) → AreAlike h g → count_of h ≤ n → AreAlike (up_to n (grown h more)) (up_to n (grown g more))
up_alike more h g n same since =
    let counts = same.counts in
    let few = take (n - count_of h) more in
    let since_g : count_of g ≤ n = omega (arith, counts, since) in
    let of_g : up_to n (grown g more) ≡ grown g few = up_to_grown g more n since_g ∙ ap (λ (c : ℕ). grown g (take (n - c) more)) (sym counts) in
    subst (λ (x : History). AreAlike x (up_to n (grown g more))) (sym (up_to_grown h more n since))
    (subst (AreAlike (grown h few)) (sym of_g) (stay_alike h g few same))

stood_alike : (image : Image) (more : List Entry) (pending : List Pending) (h g : History) → AreAlike h g
    → StoodAmid (count_of h) (grown h more) pending image → StoodAmid (count_of g) (grown g more) pending image
stood_alike image more pending h g same (inl (n, since, below, stands)) =
    let counts = same.counts in
    let of_h = count_grown h more in
    let of_g = count_grown g more in
    inl (
      n,
      omega (arith, counts, since),
      omega (arith, counts, below, of_h, of_g),
      stands_for_alike image (up_to n (grown h more)) (up_to n (grown g more)) stands (up_alike more h g n same since),
    )
stood_alike image more pending h g same (inr (p, there, since, below, stands)) =
    let counts = same.counts in
    let of_h = count_grown h more in
    let of_g = count_grown g more in
    inr (
      p,
      there,
      omega (arith, counts, since),
      omega (arith, counts, below, of_h, of_g),
      stands_for_alike image (grown (up_to p.length (grown h more)) (p.entry ∷ [])) (grown (up_to p.length (grown g more)) (p.entry ∷ [])) stands
          (stay_alike (up_to p.length (grown h more)) (up_to p.length (grown g more)) (p.entry ∷ []) (up_alike more h g p.length same since)),
    )

-- ---- a run

module _ {D : Type 0} (g : Ghosts D) where
  keeps_alike : (disk later : D) (acts : List Act) (replies : List Reply) (h f : History) (last : Kept) → AreAlike h f → KeepsTheHistory g disk later acts replies h last
      → KeepsTheHistory g disk later acts replies f (kept_after_all (begun_with f) acts replies)
  keeps_alike disk later acts replies h f last same kept = record {
    told = told_alike acts replies (begun_with h) (begun_with f) last begin kept.told;
    stored = λ image left.
        subst (λ (u : Option Entry). MayStandFor of_f.history u image) all.unsure
        (may_alike image of_h.unsure of_h.history of_f.history all.histories (subst (λ (k : Kept). MayStandFor k.history k.unsure image) is (kept.stored image left)));
    any_moment = λ image left. at_moment image (kept.any_moment image left);
  }
    where
      begin : KeptAlike (begun_with h) (begun_with f)
      begin = record { histories = same; is_open = refl; unsure = refl; pending = refl }

      of_h : Kept
      of_h = kept_after_all (begun_with h) acts replies

      of_f : Kept
      of_f = kept_after_all (begun_with f) acts replies

      all : KeptAlike of_h of_f
      all = all_alike acts replies (begun_with h) (begun_with f) begin

      is : last ≡ of_h
      is = told_kept acts replies (begun_with h) last kept.told

      more : List Entry
      more = added_all (begun_with h) acts replies

      grows_f : of_f.history ≡ grown f more
      grows_f = acts_grow acts replies (begun_with f) ∙ ap (grown f) (sym (added_all_alike acts replies (begun_with h) (begun_with f) begin))

      stood : (image : Image) → StoodAmid (count_of h) of_h.history (were_unsure of_h) image → StoodAmid (count_of f) of_f.history (were_unsure of_f) image
      stood image was =
          subst (λ (x : History). StoodAmid (count_of f) x (were_unsure of_f) image) (sym grows_f)
          (subst (λ (ps : List Pending). StoodAmid (count_of f) (grown f more) ps image) (were_alike of_h of_f all)
          (stood_alike image more (were_unsure of_h) h f same
          (subst (λ (x : History). StoodAmid (count_of h) x (were_unsure of_h) image) (acts_grow acts replies (begun_with h)) was)))

      at_moment : (image : Image) → Reached KeepsStored (g.may_leave disk) image ⊎ StoodAmid (count_of h) last.history (were_unsure last) image
          → Reached KeepsStored (g.may_leave disk) image ⊎ StoodAmid (count_of f) of_f.history (were_unsure of_f) image
      at_moment image (inl was) = inl was
      at_moment image (inr was) = inr (stood image (subst (λ (k : Kept). StoodAmid (count_of h) k.history (were_unsure k) image) is was))

  -- From each history on for which the disk's bytes stood.
  pub each_keeps : (disk later : D) (words : List (List ℕ)) (o : Outcome) (old new : Edges) → IsRunOf true words o old new → Recovers g disk later o → IsTrue o.opened
      → (first : History) → ImageStandsFor (g.held disk) first → KeepsTheHistory g disk later o.acts o.replies first (kept_after_all (begun_with first) o.acts o.replies)
  each_keeps disk later words o old new run recovers opened first stands =
      keeps_alike disk later o.acts o.replies (history_of o.first) first (kept_at o.last) (alike (g.held disk) (history_of o.first) first (recovers.begins opened).stored stands)
      (run_keeps g disk later words o old new run recovers opened)

  -- ---- the next run

  module _ (begun left disk later : D) (acts : List Act) (replies : List Reply) (first : History) (last : Kept) (kept : KeepsTheHistory g begun left acts replies first last)
      (words : List (List ℕ)) (o : Outcome) (old new : Edges) (run : IsRunOf true words o old new) (recovers : Recovers g disk later o) (opened : IsTrue o.opened) where
    abbrev GoesOn : History → Type 0
    GoesOn h = KeepsTheHistory g disk later o.acts o.replies h (kept_after_all (begun_with h) o.acts o.replies)

    go_on : (h : History) → ImageStandsFor (g.held disk) h → GoesOn h
    go_on h stands = each_keeps disk later words o old new run recovers opened h stands

    -- On what the earlier run left at its end.
    pub next_keeps : g.may_leave left (g.held disk) → (start : History) × ((start ≡ last.history) ⊎ (start ≡ with_entry last.unsure last.history)) × GoesOn start
    next_keeps possible = by_unsure last.unsure (kept.stored (g.held disk) possible)
      where
        by_unsure : (unsure : Option Entry) → MayStandFor last.history unsure (g.held disk)
            → (start : History) × ((start ≡ last.history) ⊎ (start ≡ with_entry unsure last.history)) × GoesOn start
        by_unsure None stands = (last.history, inl refl, go_on last.history stands)
        by_unsure (Some entry) (inl stands) = (last.history, inl refl, go_on last.history stands)
        by_unsure (Some entry) (inr stands) = (grown last.history (entry ∷ []), inr refl, go_on (grown last.history (entry ∷ [])) stands)

    -- On what was left at some moment of it.
    from_amid : StoodAmid (count_of first) last.history (were_unsure last) (g.held disk) → (start : History) × IsAmid (count_of first) last start × GoesOn start
    from_amid (inl (n, since_first, below, stands)) = (up_to n last.history, inl (n, since_first, below, refl), go_on (up_to n last.history) stands)
    from_amid (inr (p, there, since_first, below, stands)) =
        let start = grown (up_to p.length last.history) (p.entry ∷ []) in (start, inr (p, there, since_first, below, refl), go_on start stands)

    pub stopped_keeps : ((image : Image) → g.may_leave begun image → ImageStandsFor image first) → g.left_since left (g.moment begun) (g.held disk)
        → (start : History) × IsAmid (count_of first) last start × GoesOn start
    stopped_keeps at_first since = from_amid (kept_throughout g begun left acts replies first last kept at_first (g.held disk) since)

    -- The same where a run before that one had ended with an entry that wasn't sure.
    pub stopped_amid : (before : History) (unsure : Option Entry) → AllMayStandFor before unsure (g.may_leave begun) → g.left_since left (g.moment begun) (g.held disk)
        → (start : History) × GoesOnFrom before unsure (count_of first) last start × GoesOn start
    stopped_amid before unsure at_first since =
        by_image unsure (kept_amid g begun left acts replies first last kept before unsure at_first (g.held disk) since)
      where
        by_image : (u : Option Entry) → LiesAmid before u (count_of first) last.history (were_unsure last) (g.held disk)
            → (start : History) × GoesOnFrom before u (count_of first) last start × GoesOn start
        by_image None (inl stands) = (before, inl refl, go_on before stands)
        by_image (Some entry) (inl (inl stands)) = (before, inl refl, go_on before stands)
        by_image (Some entry) (inl (inr stands)) = (grown before (entry ∷ []), inr (inl refl), go_on (grown before (entry ∷ [])) stands)
        by_image u (inr stood) = let on = from_amid stood in (on.0, inr (inr on.1), on.2)
