-- What several clients were answered over one store.
use Rattle.std.specs.Prelude.{◌≡◌, ℕ, ◌+◌, ◌<◌, List, [], ◌∷◌, map, length, IsTrue}
use Rattle.std.specs.List.{Contains}
use Rattle.session_text.specs.Items.{Item}
use Rattle.store_model.specs.History.{History, count_of}
use Rattle.store_state.specs.Meaning.{Meaning, View}
use Rattle.port_history.specs.Entries.{AreEntries, Entry, call_of, history_from, own}
use Rattle.client_scripts.specs.Scripts.{IsScriptAnswered}
use Rattle.client_scripts.specs.Told.{AreTold, BlameNone}
use Rattle.client_scripts.specs.declared.script.Answered.{Answered}

-- The clients from this number on, one for each script: the calls of each among the entries, which stand under its number, are just
-- those by which its script was answered so, in its order.
abbrev pub AreServed : ℕ → List (List Item) → List Answered → List Entry → Type 0
AreServed number [] answers entries = answers ≡ []
AreServed number (script ∷ scripts) [] entries = ⊥
AreServed number (script ∷ scripts) (answered ∷ answers) entries =
    IsScriptAnswered script answered (map call_of (own (number ∷ []) entries)) × AreServed (number + 1) scripts answers entries

-- Each client is told of this history, and of as many entries at least as it had at first.
abbrev pub AllTold : History → ℕ → List (List Item) → List Answered → Type 0
AllTold h least [] answers = Unit {0}
AllTold h least (script ∷ scripts) [] = Unit {0}
AllTold h least (script ∷ scripts) (answered ∷ answers) = AreTold h least script answered.replies.items × AllTold h least scripts answers

-- No client is told of a block that it is none.
abbrev pub AllBlameNone : List (List Item) → List Answered → Type 0
AllBlameNone [] answers = Unit {0}
AllBlameNone (script ∷ scripts) [] = Unit {0}
AllBlameNone (script ∷ scripts) (answered ∷ answers) = BlameNone script answered.replies.items × AllBlameNone scripts answers

-- Scripts were answered over one port, by these calls in this one order and no others, each under the number of its client. If the port
-- shows its bytes, queries are told of the history that these calls make; and each block that was read is one, whether a history is known
-- or not.
pub record HasServed {P : Type 0} (meaning : Meaning P) (old : P) (entries : List Entry) (scripts : List (List Item)) (answers : List Answered) (new : P) : Type 0 where
  pub made : AreEntries meaning old entries new
  pub whose : (e : Entry) → Contains entries e → e.seat < length scripts
  pub served : AreServed 0 scripts answers entries
  pub told : IsTrue (meaning.tells old) → (v : View) → meaning.knows old v
      → AllTold (history_from v.history entries) (count_of v.history) scripts answers
  pub whole : IsTrue (meaning.tells old) → AllBlameNone scripts answers
