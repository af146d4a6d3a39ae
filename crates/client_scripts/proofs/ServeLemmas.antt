-- What several clients were answered, once all of their tickets are one.
use Rattle.std.proofs.Common.{◌≡◌, ℕ, suc, List, [], ◌∷◌, ◌++◌, Option, Some, length, map, sym, ◌∙◌, ap, subst}
use Rattle.std.specs.Prelude.{IsTrue}
use Rattle.std.proofs.lemmas.List.{append-nil}
use Rattle.session_text.specs.Items.{Item}
use Rattle.store_model.specs.History.{History, count_of}
use Rattle.store_state.specs.Meaning.{Meaning, View}
use Rattle.port_history.specs.Entries.{AreEntries, Entry, history_from, own}
use Rattle.shared_store.specs.Rule.{IsFound, first_view}
use Rattle.shared_store.specs.Seats.{Stand, told_by}
use Rattle.client_scripts.specs.Served.{AllBlameNone, AllTold, HasServed}
use Rattle.client_scripts.specs.Stages.{AllRun, HaveRun, KnowsOneLength}
use Rattle.client_scripts.specs.declared.script.Answered.{Answered}
use Rattle.client_scripts.proofs.NameLemmas.{all_owned, all_told, client_of, history_under, made_under, served_under, under, whose_under}

module _ {C : Type 0} (m : Meaning C) where
  names_count : (start : Option C) (es : List Entry) (scripts : List (List Item)) (answers : List Answered) (names : List (List ℕ)) → AllRun m start es scripts answers names
      → length names ≡ length scripts
  names_count start es [] answers names run = ap length run.1
  names_count start es (s ∷ scripts) [] names run = absurd run
  names_count start es (s ∷ scripts) (a ∷ answers) [] run = absurd run
  names_count start es (s ∷ scripts) (a ∷ answers) (ns ∷ names) run = ap suc (names_count start es scripts answers names run.1)

  all_are_told : (start : Option C) (es : List Entry) (scripts : List (List Item)) (answers : List Answered) (names : List (List ℕ)) → AllRun m start es scripts answers names
      → IsTrue (told_by m start) → (key : C) → start ≡ Some key → KnowsOneLength m key → (from : View) → m.knows key from
      → AllTold (history_from from.history es) (count_of from.history) scripts answers
  all_are_told start es [] answers names run tells key is one from known = tt
  all_are_told start es (s ∷ scripts) [] names run tells key is one from known = tt
  all_are_told start es (s ∷ scripts) (a ∷ answers) [] run tells key is one from known = absurd run
  all_are_told start es (s ∷ scripts) (a ∷ answers) (ns ∷ names) run tells key is one from known =
      (run.0.told tells key is one from known, all_are_told start es scripts answers names run.1 tells key is one from known)

  all_blame_none : (start : Option C) (es : List Entry) (scripts : List (List Item)) (answers : List Answered) (names : List (List ℕ)) → AllRun m start es scripts answers names
      → IsTrue (told_by m start) → AllBlameNone scripts answers
  all_blame_none start es [] answers names run tells = tt
  all_blame_none start es (s ∷ scripts) [] names run tells = tt
  all_blame_none start es (s ∷ scripts) (a ∷ answers) [] run tells = absurd run
  all_blame_none start es (s ∷ scripts) (a ∷ answers) (ns ∷ names) run tells = (run.0.whole tells, all_blame_none start es scripts answers names run.1 tells)

  pub has_served : (key core : C) (v w : Stand C) (scripts : List (List Item)) (answers : List Answered) → KnowsOneLength m key → v.known ≡ first_view key
      → HaveRun m v scripts answers w → IsFound m key w.known core → (entries : List Entry) × HasServed m key entries scripts answers core
  has_served key core v w scripts answers one first run found =
      let es = w.known.seen.entries in
      let names = w.known.seen.names in
      let whole = found.whole (run.parts ∙ ap (λ k. k.parts) first) in
      let all : found.entries ≡ es = found.begins ∙ ap (λ (xs : List Entry). es ++ xs) whole.0 ∙ append-nil es in
      let start : v.known.start ≡ Some key = ap (λ k. k.start) first in
      let made : AreEntries m key es core = subst (λ (xs : List Entry). AreEntries m key xs core) all found.made in
      let owned : own names es ≡ es = subst (λ (xs : List Entry). own names xs ≡ xs) all whole.1 in
      let f = client_of 0 run.names in (
        map (under f) es,
        record {
          made = made_under m f key core es made;
          whose = whose_under run.names (length scripts) es (names_count v.known.start es scripts answers run.names run.each)
              (λ e c. sym (run.named e.seat) ∙ all_owned names es owned e c);
          served = served_under m v.known.start es f 0 scripts answers run.names (all_told run.names) run.apart run.each;
          told = λ tells from known.
              subst (λ (h : History). AllTold h (count_of from.history) scripts answers) (sym (history_under f from.history es))
              (all_are_told v.known.start es scripts answers run.names run.each (subst (λ (o : Option C). IsTrue (told_by m o)) (sym start) tells) key start one from known);
          whole = λ tells. all_blame_none v.known.start es scripts answers run.names run.each (subst (λ (o : Option C). IsTrue (told_by m o)) (sym start) tells);
        },
      )
