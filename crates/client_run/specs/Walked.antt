-- Private mechanism of a walk over looks. No public clause cites it.
use Rattle.std.specs.Prelude.{◌≡◌, ℕ, ◌++◌, map, length, Option}
use Rattle.store_model.specs.Holds.{Hold}
use Rattle.client_run.specs.Calls.{Looks}

-- Of these looks the first so many were changed, and the others weren't.
abbrev pub Walked : (Option Hold → Option Hold) → ℕ → Looks → Looks → Type 0
Walked change at first now =
    (front back : Looks) × (first ≡ front ++ back) × (length front ≡ at) × (now ≡ map change front ++ back)
