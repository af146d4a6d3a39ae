-- What the lines of a window give, and which lines of a text they are.
use Rattle.std.specs.Prelude.{◌≡◌, ⊤, ℕ, ◌<◌, List, [], ◌∷◌, ◌++◌, Result, Ok, Err, length}
use Rattle.io_edges.specs.Lines.{lines}
use Rattle.otlp_spans.specs.declared.read.Reading.{Reading}
use Rattle.session_text.specs.declared.refusal.Refusal.{Refusal}
use Rattle.session_text.specs.declared.request.Request.{Request}
use Rattle.session_text.specs.declared.request.Request.TheVariants.{Push}
use Rattle.session_text.specs.Items.{Item}
use Rattle.session_text.specs.Requests.{AsksPush}
use Rattle.line_windows.specs.declared.line.WindowLine.{WindowLine}
use Rattle.line_windows.specs.declared.line.WindowLine.TheVariants.{Empty, Read, Unread}

-- What is asked where this is pushed at a moment.
abbrev pub pushed_at : ℕ → Result Reading Refusal → Item
pushed_at moment (Ok reading) = Ok (Push reading moment)
pushed_at moment (Err why) = Err why

-- A line gives this: whenever it is pushed, that is what it asks.
abbrev pub Gives : List ℕ → Result Reading Refusal → Type 0
Gives line given = (moment : ℕ) → AsksPush moment line (pushed_at moment given)

-- a request to push
abbrev pub IsPush : Request → Type 0
IsPush (Push reading moment) = ⊤
IsPush _ = ⊥

-- This is the line with these bytes.
abbrev pub IsOf : List ℕ → WindowLine → Type 0
IsOf line Empty = line ≡ []
IsOf line (Unread bytes) = (bytes ≡ line) × (0 < length line)
IsOf line (Read given) = (0 < length line) × Gives line given

-- These are the lines with these bytes, in order.
abbrev pub AreOf : List (List ℕ) → List WindowLine → Type 0
AreOf [] [] = ⊤
AreOf [] (found ∷ window) = ⊥
AreOf (line ∷ lines) [] = ⊥
AreOf (line ∷ lines) (found ∷ window) = IsOf line found × AreOf lines window

-- These are the first lines of `text`, and `rest` is to be read after them.
pub record AreNextLines (text : List ℕ) (read : List (List ℕ)) (ToRead : List ℕ → Type 0) : Type 0 where
  pub past : List ℕ
  pub rest : List ℕ
  pub parts : text ≡ past ++ rest
  pub first : lines text ≡ read ++ lines rest
  pub after : ToRead rest

-- A window is `line`, and then the first lines of `text`.
abbrev pub IsWindow : List ℕ → List ℕ → List WindowLine → (List ℕ → Type 0) → Type 0
IsWindow line text window ToRead = (more : List (List ℕ)) × AreNextLines text more ToRead × AreOf (line ∷ more) window
