-- Compactions that join blocks come to an end.
use Rattle.std.proofs.Common.{◌≡◌, ◌⊎◌, inl, inr, ◌∙◌, ◌+◌, ◌<◌, ◌≤◌, Bool, true, List, [], ◌∷◌, Ok, length, refl, sym, ap, subst, arith}
use Rattle.session_text.specs.declared.reply.Reply.{Reply}
use Rattle.session_text.specs.declared.request.Request.TheVariants.{Compact}
use Rattle.session_text.specs.Items.{Item}
use Rattle.store_state.specs.declared.rounds.Round.{Round}
use Rattle.store_state.specs.declared.rounds.Round.TheVariants as round
use Rattle.client_run.specs.Answers.{compact_reply}
use Rattle.session_meaning.specs.At.{At}
use Rattle.session_meaning.specs.Ingest.{AreJoined, is_joined}
use Rattle.session_meaning.specs.Rounds.{IsCompacted}
use Rattle.session_meaning.specs.Session.{IsAnsweredOrRefused, Session}
use Rattle.session_meaning.proofs.CompactLaws.{blocks_joined, joined_takes_a_number}
use Rattle.session_meaning.proofs.FewerBlocks.{joined_fewer}

-- A compaction that joined blocks took a number for its file, of which there was one, and left fewer blocks.
pub record Joined (before after : At) : Type 0 where
  pub next : after.machine.state.next_file ≡ before.machine.state.next_file + 1
  pub below : before.machine.state.next_file < 4294967294
  pub fewer : length after.machine.state.blocks + 1 ≤ length before.machine.state.blocks

by_round : (told : Bool) (before after : At) (r : Round) → is_joined (compact_reply r) ≡ true → IsCompacted told before r after → Joined before after
by_round told before after (round.Did blocks rows) joined is =
    let took = joined_takes_a_number told before after blocks rows is in record {
      next = took.0;
      below = took.1;
      fewer = joined_fewer told before.machine after.machine blocks rows (blocks_joined told before after blocks rows is);
    }
by_round told before after round.Nothing joined is = let bad : ⊥ = cc in absurd bad
by_round told before after (round.Refused why) joined is = let bad : ⊥ = cc in absurd bad

pub one_joined : (told : Bool) (item : Item) (reply : Reply) (before after : At) → item ≡ Ok Compact → is_joined reply ≡ true → IsAnsweredOrRefused told item before reply after
    → Joined before after
one_joined told item reply before after is joined answered = go (subst (λ (i : Item). IsAnsweredOrRefused told i before reply after) is answered)
  where
    go : IsAnsweredOrRefused told (Ok Compact) before reply after → Joined before after
    go (inl (r, told_is, compacted)) = by_round told before after r (ap is_joined (sym told_is) ∙ joined) compacted
    go (inr bad) = absurd bad

-- Of such compactions each takes a number.
all_took : (told : Bool) (items : List Item) (replies : List Reply) (first last : At) → AreJoined items replies → Session told first items replies last
    → (length items ≡ 0) ⊎ (first.machine.state.next_file + length items ≤ 4294967294)
all_took told [] replies first last are session = inl refl
all_took told (i ∷ is) [] first last are session = absurd are
all_took told (i ∷ is) (r ∷ rs) first last (compacts, joined, are) (between, answered, more) =
    let one = one_joined told i r first between compacts joined answered in
    let next = one.next in
    let below = one.below in
    elim (all_took told is rs between last are more) [
      | inl none ↦ inr (omega (arith, none, below))
      | inr rest ↦ inr (omega (arith, next, rest))
    ]

pub joined_end : (told : Bool) (items : List Item) (replies : List Reply) (first last : At) → AreJoined items replies → Session told first items replies last
    → length items < 4294967295
joined_end told items replies first last are session = elim (all_took told items replies first last are session) [
  | inl none ↦ omega (arith, none)
  | inr most ↦ omega (arith, most)
]

-- And each leaves fewer blocks.
pub all_fewer : (told : Bool) (items : List Item) (replies : List Reply) (first last : At) → AreJoined items replies → Session told first items replies last
    → length items + length last.machine.state.blocks ≤ length first.machine.state.blocks
all_fewer told [] replies first last are (none, same) = let size = ap (λ (at : At). length at.machine.state.blocks) same in omega (arith, size)
all_fewer told (i ∷ is) [] first last are session = absurd are
all_fewer told (i ∷ is) (r ∷ rs) first last (compacts, joined, are) (between, answered, more) =
    let fewer = (one_joined told i r first between compacts joined answered).fewer in
    let rest = all_fewer told is rs between last are more in
    omega (arith, fewer, rest)
