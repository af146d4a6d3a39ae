-- The disk keeps the history that replies tell.
use Rattle.std.proofs.Common.{Bool, true, false, ◌≡◌, ◌⊎◌, inl, inr, ◌∙◌, ℕ, List, [], ◌∷◌, Option, None, Some, Ok, IsTrue, ap, append-nil, arith, refl, sym, subst}
use Rattle.disk_model.specs.Crash.{Reached}
use Rattle.disk_model.specs.Images.{Image}
use Rattle.disk_model.specs.declared.disk.Device.{Ghosts}
use Rattle.session_text.specs.declared.reply.Reply.{Reply}
use Rattle.session_text.specs.declared.request.Request.{Request}
use Rattle.session_text.specs.Items.{Item}
use Rattle.store_core.specs.Cores.{unsure_of}
use Rattle.store_core.specs.Past.{StandsSince}
use Rattle.store_core.specs.Port.{port_of}
use Rattle.store_core.specs.Stood.{StoodFor}
use Rattle.store_core.specs.declared.store.Core.{Core}
use Rattle.store_core.proofs.Past.{stands_since_now}
use Rattle.store_entries.specs.declared.entry.Entry.{Entry}
use Rattle.store_images.specs.Stored.{ImageStandsFor, KeepsStored, MayStandFor}
use Rattle.store_model.specs.History.{History, count_of, grown, up_to}
use Rattle.store_model.specs.Step.{Machine}
use Rattle.client_run.specs.Answers.{HasReplied}
use Rattle.session_meaning.specs.Answering.{at_core}
use Rattle.session_meaning.specs.Act.{Act}
use Rattle.session_meaning.specs.At.{history_of}
use Rattle.session_meaning.specs.Kept.{Kept, begun_with, kept_at, were_unsure}
use Rattle.session_meaning.specs.Place.{ever_unsure, history_at, opened_at}
use Rattle.session_meaning.specs.Pushes.{accepted_entries, accepted_entry}
use Rattle.store_reopen.specs.Through.{Pending, StoodAmid}
use Rattle.session_meaning.specs.Progress.{AreAnsweredOver}
use Rattle.session_meaning.specs.Runs.{Edges, IsRunOf, Outcome}
use Rattle.session_meaning.specs.ServedRuns.{RecoversServed, Served, last_place}
use Rattle.session_meaning.specs.Session.{Session}
use Rattle.session_meaning.specs.Stops.{Recovers, StandsWithin}
use Rattle.session_meaning.proofs.CoreSessions.{since_means}
use Rattle.session_meaning.proofs.Told.{session_grows}
use Rattle.headline.specs.Amid.{AllMayStandFor, LiesAmid, StandsAsOneOf}
use Rattle.headline.specs.Headline.{KeepsTheHistory}
use Rattle.headline.specs.Requests.{HasHistory, KeepsFrom}
use Rattle.headline.proofs.Telling.{acts_tell_all}
use Rattle.headline.proofs.Histories.{added_all, as_before, no_shorter, told_grows}

-- What may stand for a history goes on to where it keeps what was stored.
still_may : (h : History) (unsure : Option Entry) (old new : Image) → KeepsStored old new → MayStandFor h unsure old → MayStandFor h unsure new
still_may h None old new keeps stands = keeps.stands h stands
still_may h (Some entry) old new keeps (inl stands) = inl (keeps.stands h stands)
still_may h (Some entry) old new keeps (inr stands) = inr (keeps.stands (grown h (entry ∷ [])) stands)

not_opened : (b : Bool) → IsTrue b → b ≡ false → ⊥
not_opened b held failed = cc

module _ {D : Type 0} (g : Ghosts D) where
  -- ---- a run

  pub run_keeps : (disk later : D) (words : List (List ℕ)) (o : Outcome) (old new : Edges) → IsRunOf true words o old new → Recovers g disk later o → IsTrue o.opened
      → KeepsTheHistory g disk later o.acts o.replies (history_of o.first) (kept_at o.last)
  run_keeps disk later words o old new run recovers opened = record {
    told = acts_tell_all o.acts o.replies (opened_at o.first) o.last run.session;
    stored = recovers.returned opened;
    any_moment = λ image since. within image (recovers.any_moment image since);
  }
    where
      within : (image : Image) → Reached KeepsStored (g.may_leave disk) image ⊎ (IsTrue o.opened × StandsWithin o image)
          → Reached KeepsStored (g.may_leave disk) image ⊎ StoodAmid (count_of (history_of o.first)) (history_at o.last) (were_unsure (kept_at o.last)) image
      within image (inl kept) = inl kept
      within image (inr was) = inr was.1

  pub some_history : (disk later : D) (words : List (List ℕ)) (o : Outcome) (old new : Edges) → IsRunOf true words o old new → Recovers g disk later o → IsTrue o.opened
      → (first : History) × (last : Kept) × ImageStandsFor (g.held disk) first × KeepsTheHistory g disk later o.acts o.replies first last
  some_history disk later words o old new run recovers opened =
      (history_of o.first, kept_at o.last, (recovers.begins opened).stored, run_keeps disk later words o old new run recovers opened)

  -- What keeps what was stored at first stands for the first history, if all that could be left at first did.
  stood_at_first : (disk : D) (first last : History) (more : List Entry) (pending : List Pending) → last ≡ grown first more
      → ((image : Image) → g.may_leave disk image → ImageStandsFor image first) → (image : Image) → Reached KeepsStored (g.may_leave disk) image
      → StoodAmid (count_of first) last pending image
  stood_at_first disk first last more pending grows at_first image was = inl (
    count_of first,
    omega arith,
    no_shorter first last more grows,
    subst (λ (h : History). ImageStandsFor image h) (sym (ap (up_to (count_of first)) grows ∙ as_before first more)) (was.2.stands first (at_first was.0 was.1)),
  )

  -- Where all that could be left at first stood for the first history.
  pub kept_throughout : (disk later : D) (acts : List Act) (replies : List Reply) (first : History) (last : Kept) → KeepsTheHistory g disk later acts replies first last
      → ((image : Image) → g.may_leave disk image → ImageStandsFor image first) → (image : Image) → g.left_since later (g.moment disk) image
      → StoodAmid (count_of first) last.history (were_unsure last) image
  kept_throughout disk later acts replies first last kept at_first image since = elim (kept.any_moment image since) [
    | inl was ↦ stood_at_first disk first last.history (added_all (begun_with first) acts replies) (were_unsure last)
        (told_grows acts replies (begun_with first) last kept.told) at_first image was
    | inr stood ↦ stood
  ]

  -- the same of several clients
  pub served_throughout : (disk later : D) (s : Served) (more : List Entry) → history_of s.last ≡ grown (history_of s.first) more → RecoversServed g disk later s
      → ((image : Image) → g.may_leave disk image → ImageStandsFor image (history_of s.first)) → (image : Image) → g.left_since later (g.moment disk) image
      → StoodAmid (count_of (history_of s.first)) (history_of s.last) (ever_unsure (last_place s)) image
  served_throughout disk later s more grows recovers at_first image since = elim (recovers.any_moment image since) [
    | inl was ↦ stood_at_first disk (history_of s.first) (history_of s.last) more (ever_unsure (last_place s)) grows at_first image was
    | inr stood ↦ stood.1
  ]

  -- ---- where an earlier run had ended with an entry that wasn't sure

  lies_amid : (disk : D) (before : History) (unsure : Option Entry) (least : ℕ) (last : History) (pending : List Pending) → AllMayStandFor before unsure (g.may_leave disk)
      → (image : Image) → Reached KeepsStored (g.may_leave disk) image ⊎ StoodAmid least last pending image → LiesAmid before unsure least last pending image
  lies_amid disk before unsure least last pending at_first image (inl was) = inl (still_may before unsure was.0 image was.2 (at_first was.0 was.1))
  lies_amid disk before unsure least last pending at_first image (inr stood) = inr stood

  pub kept_amid : (disk later : D) (acts : List Act) (replies : List Reply) (first : History) (last : Kept) → KeepsTheHistory g disk later acts replies first last
      → (before : History) (unsure : Option Entry) → AllMayStandFor before unsure (g.may_leave disk) → (image : Image) → g.left_since later (g.moment disk) image
      → LiesAmid before unsure (count_of first) last.history (were_unsure last) image
  kept_amid disk later acts replies first last kept before unsure at_first image since =
      lies_amid disk before unsure (count_of first) last.history (were_unsure last) at_first image (kept.any_moment image since)

  -- the same of several clients
  pub served_amid : (disk later : D) (s : Served) → RecoversServed g disk later s
      → (before : History) (unsure : Option Entry) → AllMayStandFor before unsure (g.may_leave disk) → (image : Image) → g.left_since later (g.moment disk) image
      → LiesAmid before unsure (count_of (history_of s.first)) (history_of s.last) (ever_unsure (last_place s)) image
  served_amid disk later s recovers before unsure at_first image since = elim (recovers.any_moment image since) [
    | inl was ↦ inl (still_may before unsure was.0 image was.2 (at_first was.0 was.1))
    | inr stood ↦ inr stood.1
  ]

  -- ---- a run that doesn't open its store

  pub unopened_stands : (disk later : D) (o : Outcome) → Recovers g disk later o → o.opened ≡ false → (image : Image) → g.left_since later (g.moment disk) image
      → StandsAsOneOf (g.may_leave disk) image
  unopened_stands disk later o recovers unopened image since = elim (recovers.any_moment image since) [
    | inl was ↦ (was.0, was.1, was.2.stands, was.2.only)
    | inr stood ↦ absurd (not_opened o.opened stood.0 unopened)
  ]

  -- ---- lines over a core

  module _ (only_now : (disk : D) (image : Image) → g.left_since disk (g.moment disk) image → g.may_leave disk image) where
    pub lines_keep : (old new : Core D) (h : History) (items : List Item) (replies : List Reply) → HasHistory g old h → IsTrue (g.tells old.disk)
        → AreAnsweredOver (port_of g) old items replies new → KeepsFrom g old new h (grown h (accepted_entries items replies))
    lines_keep old new h items replies (m, stands, is) tells answered = record {
      stands = (later, since.stands, grows);
      any_moment = λ image left.
          subst (λ (n : ℕ). StoodFor n next (unsure_of new.state) image) (ap count_of is)
          (subst (λ (x : History). StoodFor (count_of m.history) x (unsure_of new.state) image) grows ((since.past tells_on).each image left));
      now = λ image left. subst (λ (x : History). MayStandFor x (unsure_of new.state) image) grows (since.stands.stands.now tells_on image left);
    }
      where
        all : (m' : Machine) × (StandsSince g old.disk (count_of m.history) new m' × IsTrue (g.tells new.disk)) × Session true (at_core g old m) items replies (at_core g new m')
        all = since_means g old.disk (count_of m.history) items replies old new m (stands_since_now g only_now old m stands, tells) answered

        later : Machine
        later = all.0

        since : StandsSince g old.disk (count_of m.history) new later
        since = all.1.0

        tells_on : IsTrue (g.tells new.disk)
        tells_on = all.1.1

        next : History
        next = grown h (accepted_entries items replies)

        grows : later.history ≡ next
        grows =
            session_grows true items replies (at_core g old m) (at_core g new later) all.2
            ∙ ap (λ (x : History). grown x (accepted_entries items replies)) is

    pub request_keeps : (old new : Core D) (h : History) (asked : Request) (reply : Reply) → HasHistory g old h → IsTrue (g.tells old.disk) → HasReplied (port_of g) old asked reply new
        → KeepsFrom g old new h (grown h (accepted_entry (Ok asked) reply))
    request_keeps old new h asked reply has tells replied =
        subst (λ (es : List Entry). KeepsFrom g old new h (grown h es)) (append-nil (accepted_entry (Ok asked) reply))
        (lines_keep old new h (Ok asked ∷ []) (reply ∷ []) has tells (new, replied, (refl, refl)))
