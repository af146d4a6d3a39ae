-- What the words after `serve` are, where `clap` finds no fault.
use Rattle.std.proofs.Common.{◌≡◌, Bool, true, false, List, [], refl}
use Rattle.std.specs.Prelude.{codes, is_some}
use Rattle.clap.specs.Kinds.{or_else}
use Rattle.clap.specs.Takes.{is_given}
use Rattle.clap.specs.Faults.{check_fault, defaults_fault, level_fault, settle_fault}
use Rattle.clap.specs.Simple.{Shape}
use Rattle.clap.specs.Walk.{Row, Text, finished, first_of, nothing_held, rows_after, settled, walk}
use Rattle.command_words.specs.Table.{serve_shape}
use Rattle.command_words.proofs.Full.{TakeOne, ends_full, given_is_found}
use Rattle.command_words.proofs.Leaves.{leaf}
use Rattle.command_words.proofs.Turns.{leaf_end_fault, leaf_ends, none_first}

abbrev pub serve_leaf : Shape
serve_leaf = leaf serve_shape

pub serve_takes_one : TakeOne serve_leaf.rules
serve_takes_one = (
  record { takes = refl; sets = refl; bare = refl; wants = λ again rows h. let bad : ⊥ = cc in bad },
  (record { takes = refl; sets = refl; bare = refl; wants = λ again rows h. let bad : ⊥ = cc in bad }, tt),
)

clients_wanted : (rows : List Row) → check_fault serve_leaf rows false ≡ [] → is_given (codes "clients") rows ≡ true
clients_wanted rows h = go (is_given (codes "clients") rows) refl
  where
    go : (b : Bool) → is_given (codes "clients") rows ≡ b → b ≡ true
    go true is = refl
    go false is = let bad = rw is at h in cc

-- Where nothing is at fault, the words say how many clients there are.
pub serve_rest : (rest : List Text) → level_fault serve_leaf [] nothing_held rest false [] ≡ []
    → is_some (first_of (codes "clients") (rows_after serve_leaf.rules [] rest)) ≡ true
serve_rest rest h =
    let end = walk serve_leaf.rules [] nothing_held rest in
    let clean : leaf_end_fault serve_leaf end ≡ [] = leaf_ends serve_leaf rest end refl h in
    let settle = none_first (settle_fault serve_leaf.rules serve_leaf.args_override_self end.held)
    (or_else (defaults_fault (settled serve_leaf.rules end.held).rows serve_leaf.rules) (check_fault serve_leaf (finished serve_leaf.rules end.held) false)) clean in
    let checked = none_first (defaults_fault (settled serve_leaf.rules end.held).rows serve_leaf.rules)
    (check_fault serve_leaf (finished serve_leaf.rules end.held) false) settle.1 in
    let full = ends_full serve_leaf rest serve_takes_one (λ c. refl) (none_first _ _ h).0 settle.0 in
    given_is_found (codes "clients") (finished serve_leaf.rules end.held) full (clients_wanted (finished serve_leaf.rules end.held) checked.1)
