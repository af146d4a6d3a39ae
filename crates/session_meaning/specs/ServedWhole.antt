-- What is asked of a store by several clients, and that all of it was replied to.
use Rattle.std.specs.Prelude.{◌≡◌, ⊤, List, [], ◌∷◌, Ok, length}
use Rattle.client_scripts.specs.declared.script.Answered.{Answered}
use Rattle.session_text.specs.declared.request.Request.TheVariants as request
use Rattle.session_text.specs.Items.{Item}

-- It asks for rows.
abbrev pub IsQuery : Item → Type 0
IsQuery (Ok (request.Trace id)) = ⊤
IsQuery (Ok (request.Search s)) = ⊤
IsQuery (Ok (request.Metrics m)) = ⊤
IsQuery _ = ⊥

-- Each item of each script has one reply.
abbrev pub AreWhole : List (List Item) → List Answered → Type 0
AreWhole [] answers = answers ≡ []
AreWhole (script ∷ scripts) [] = ⊥
AreWhole (script ∷ scripts) (answered ∷ answers) = (length answered.replies.items ≡ length script) × AreWhole scripts answers
