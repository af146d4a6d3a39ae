-- What an ingest asks is asked as in a session, and parts of it follow one another.
use Rattle.std.proofs.Common.{◌≡◌, ◌⊎◌, inl, inr, ◌∙◌, ℕ, Bool, true, false, List, [], ◌∷◌, ◌++◌, Option, refl, sym, subst}
use Rattle.std.specs.Prelude.{◌==◌, nat_le, if◌then◌else◌}
use Rattle.disk_model.specs.declared.disk.Device.{Ghosts}
use Rattle.session_text.specs.declared.reply.Reply.{Reply}
use Rattle.session_text.specs.declared.request.Request.TheVariants.{CutAll, Flush}
use Rattle.session_text.specs.Items.{Item}
use Rattle.store_core.specs.Cores.{held_in}
use Rattle.store_core.specs.declared.store.Core.{Core}
use Rattle.session_meaning.specs.At.{At}
use Rattle.session_meaning.specs.Duties.{Duty, Follows, IsDue, ask, compact_all, due, keep_small, push}
use Rattle.session_meaning.specs.Ingest.{many_rows}
use Rattle.session_meaning.specs.Progress.{FollowsOver}
use Rattle.session_meaning.specs.Session.{Session}

pub ingest_is_session : (sure : Bool) (todo left : List Duty) (told to_tell : Option (List ℕ)) (items : List Item) (replies : List Reply) (first last : At)
    → Follows sure todo told first items replies last left to_tell → Session sure first items replies last
ingest_is_session sure todo left told to_tell [] replies first last h = (h.0, h.1)
ingest_is_session sure todo left told to_tell (item ∷ items) [] first last h = absurd h
ingest_is_session sure todo left told to_tell (item ∷ items) (reply ∷ replies) first last (between, later, told_later, is_due, answered, rest) =
    (between, answered, ingest_is_session sure later left told_later to_tell items replies between last rest)

-- What is due of what is due is the same.
pub due_again : (held : ℕ) (todo : List Duty) → due held (due held todo) ≡ due held todo
due_again held [] = refl
due_again held (push line ∷ later) = refl
due_again held (ask request ∷ later) = refl
due_again held (keep_small ∷ later) = go (nat_le many_rows held) (due_again held later)
  where
    go : (b : Bool) → due held (due held later) ≡ due held later
        → due held (if b then ask CutAll ∷ ask Flush ∷ later else due held later) ≡ (if b then ask CutAll ∷ ask Flush ∷ later else due held later)
    go true again = refl
    go false again = again
due_again held (compact_all times ∷ later) = go (times == 0) refl (due_again held later)
  where
    go : (b : Bool) → (times == 0) ≡ b → due held (due held later) ≡ due held later
        → due held (if b then due held later else compact_all times ∷ later) ≡ (if b then due held later else compact_all times ∷ later)
    go true is again = again
    go false is again = rw is refl

module _ {D : Type 0} (g : Ghosts D) where
  -- What is due of a list of duties is what the list asks.
  looked : (todo left : List Duty) (told to_tell : Option (List ℕ)) (items : List Item) (replies : List Reply) (first last : Core D)
      → FollowsOver g (due (held_in first) todo) told first items replies last left to_tell → FollowsOver g todo told first items replies last left to_tell
  looked todo left told to_tell [] replies first last (none, is, inl found, moments) = (none, is, inr found, moments)
  looked todo left told to_tell [] replies first last (none, is, inr found, moments) = (none, is, inr (found ∙ due_again (held_in first) todo), moments)
  looked todo left told to_tell (i ∷ is) [] first last bad = absurd bad
  looked todo left told to_tell (i ∷ is) (r ∷ rs) first last (between, later, told_later, is_due, here, rest) =
      (between, later, told_later, subst (λ (t : List Duty). IsDue t told i r later told_later) (due_again (held_in first) todo) is_due, here, rest)

  found : (todo mid left : List Duty) (told to_tell : Option (List ℕ)) (items : List Item) (replies : List Reply) (first last : Core D)
      → (mid ≡ todo) ⊎ (mid ≡ due (held_in first) todo) → FollowsOver g mid told first items replies last left to_tell
      → FollowsOver g todo told first items replies last left to_tell
  found todo mid left told to_tell items replies first last (inl same) h =
      subst (λ (t : List Duty). FollowsOver g t told first items replies last left to_tell) same h
  found todo mid left told to_tell items replies first last (inr same) h =
      looked todo left told to_tell items replies first last (subst (λ (t : List Duty). FollowsOver g t told first items replies last left to_tell) same h)

  -- One after the other.
  pub ingests_then : (todo mid left : List Duty) (told between_told to_tell : Option (List ℕ)) (xs ys : List Item) (rs ss : List Reply) (first middle last : Core D)
      → FollowsOver g todo told first xs rs middle mid between_told → FollowsOver g mid between_told middle ys ss last left to_tell
      → FollowsOver g todo told first (xs ++ ys) (rs ++ ss) last left to_tell
  ingests_then todo mid left told between_told to_tell [] ys rs ss first middle last (none, same, is, moments) later =
      let from_first : FollowsOver g mid between_told first ys ss last left to_tell =
      subst (λ (core : Core D). FollowsOver g mid between_told core ys ss last left to_tell) same later in
      let at_told : FollowsOver g mid told first ys ss last left to_tell =
      subst (λ (t : Option (List ℕ)). FollowsOver g mid t first ys ss last left to_tell) moments from_first in
      subst (λ (qs : List Reply). FollowsOver g todo told first ys (qs ++ ss) last left to_tell) (sym none)
      (found todo mid left told to_tell ys ss first last is at_told)
  ingests_then todo mid left told between_told to_tell (x ∷ xs) ys [] ss first middle last bad later = absurd bad
  ingests_then todo mid left told between_told to_tell (x ∷ xs) ys (r ∷ rs) ss first middle last (core, todo_then, told_then, is_due, here, rest) later =
      (core, todo_then, told_then, is_due, here, ingests_then todo_then mid left told_then between_told to_tell xs ys rs ss core middle last rest later)
