-- What is done one after another.
use Rattle.std.specs.Prelude.{◌≡◌, List, [], ◌∷◌}
use Rattle.session_text.specs.declared.reply.Reply.{Reply}

-- Each of these is answered in order, one reply each, in the world that what came before it left: a store, or a port.
abbrev pub InOrder : {A W : Type 0} → (A → W → Reply → W → Type 0) → W → List A → List Reply → W → Type 0
InOrder answers before [] replies after = (replies ≡ []) × (after ≡ before)
InOrder answers before (one ∷ more) [] after = ⊥
InOrder {A} {W} answers before (one ∷ more) (reply ∷ replies) after =
    (between : W) × answers one before reply between × InOrder answers between more replies after
