-- A look that is taken among calls of a port.
use Rattle.std.proofs.Common.{◌≡◌, ℕ, filter, not, List, [], ◌∷◌, ◌++◌, refl, sym, ◌∙◌, ap, subst}
use Rattle.std.specs.Prelude.{IsTrue}
use Rattle.std.specs.List.{Contains, AllByRecursion}
use Rattle.std.proofs.lemmas.List.Elements.{Contains-append_right}
use Rattle.store_model.specs.Event.{LookParts}
use Rattle.store_model.specs.Event.Event.{Look}
use Rattle.store_model.specs.Event.Reply.{Looked}
use Rattle.store_model.specs.History.{History, first_in, count_of, up_to}
use Rattle.store_model.specs.Holds.{Hold, ends, holds_after}
use Rattle.store_model.specs.Holds.Hold.{OpenLook}
use Rattle.store_state.specs.Made.{AreMade, Call}
use Rattle.store_state.specs.Meaning.{Meaning, View, Called, Learns}
use Rattle.store_state.specs.Shown.{IsLookTaken}
use Rattle.look_laws.specs.LookRuns.{IsKept, IsToldAt, LeavesLook, TellsHistory, taking}
use Rattle.look_laws.proofs.Calls.{at_front, holds_chain, learn_more, learnt_after, made_more, made_split, open_after_calls, pages_after, tells_after, whole_history}

-- what a look tells of a history of its length
pub tells_whole : (bytes : ℕ → List ℕ) (look : LookParts) (h : History) → look.as_of ≡ count_of h → IsLookTaken (Looked look) bytes h → TellsHistory bytes look h
tells_whole bytes look h count taken = record {
  parts = taken.0;
  hold = taken.1;
  count = count;
  firsts = λ k. taken.2 k ∙ ap (λ (g : History). first_in k g) (ap (λ n. up_to n h) count ∙ whole_history h);
}

-- what is open just after a look was taken
abbrev pub with_look : List Hold → List Call → LookParts → List Hold
with_look held before look = holds_after Look (Looked look) (open_after_calls held before)

-- the look is among it
pub look_is_open : (held : List Hold) (before : List Call) (look : LookParts) → Contains (with_look held before look) (OpenLook look)
look_is_open held before look =
    Contains-append_right (filter (λ x. not (ends Look (Looked look) x)) (open_after_calls held before)) (OpenLook look ∷ []) (OpenLook look) (at_front (OpenLook look) [])

module _ {P : Type 0} (meaning : Meaning P) where
  -- the port just after the look
  pub told_at : (old mid here new : P) (before between after : List Call) (look : LookParts) (h : History) → AreMade meaning old before mid → Called meaning mid Look (Looked look) here
      → AreMade meaning here (between ++ after) new → IsTrue (meaning.tells old) → TellsHistory (meaning.shows here) look h → (held : List Hold) → meaning.holds old held
      → AllByRecursion (LeavesLook look) between → IsToldAt meaning old before look between after new here h
  told_at old mid here new before between after look h made called later told tells held holds leave =
      let parts = made_split meaning here new between after later in
      let still : IsTrue (meaning.tells here) = subst IsTrue (sym (called.telling ∙ tells_after meaning old mid before made)) told in
      record {
        earlier = made_more meaning old mid here before (taking look) made called;
        later = later;
        tells = tells;
        pages = pages_after meaning here parts.0 between look (meaning.shows here) (with_look held before look) parts.1 still
            (called.holds (open_after_calls held before) (holds_chain meaning old mid before held made holds)) (look_is_open held before look) leave (λ file its. refl);
      }

  pub kept : (old new : P) (before between after : List Call) (look : LookParts) (v : View) (held : List Hold)
      → AreMade meaning old (before ++ taking look ∷ (between ++ after)) new → meaning.knows old v → meaning.holds old held → IsTrue (meaning.tells old)
      → AllByRecursion (LeavesLook look) between → IsKept meaning v.history old before look between after new
  kept old new before between after look v held made known holds told leave =
      let parts = made_split meaning old new before (taking look ∷ (between ++ after)) made in
      let mid : P = parts.0 in
      let here : P = parts.2.0 in
      let called : Called meaning mid Look (Looked look) here = parts.2.1 in
      let first = learnt_after meaning old mid before parts.1 v known in
      let one = called.learns first.0 first.1 in
      let learns : Learns Look (Looked look) first.0.history one.0.history = one.2 in
      let count : look.as_of ≡ count_of one.0.history = learns.2 ∙ ap count_of (sym learns.1) in
      let still : IsTrue (meaning.tells here) = subst IsTrue (sym (called.telling ∙ tells_after meaning old mid before parts.1)) told in
      let tells : TellsHistory (meaning.shows here) look one.0.history = tells_whole (meaning.shows here) look one.0.history count (called.look still one.0 one.1) in
      record {
        here = here;
        view = one.0;
        known = one.1;
        learnt = learn_more before (taking look) v.history first.0.history one.0.history first.2 (one.0.history, learns, refl);
        told = told_at old mid here new before between after look one.0.history parts.1 called parts.2.2 told tells held holds leave;
      }
