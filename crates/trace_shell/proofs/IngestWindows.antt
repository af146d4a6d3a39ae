-- How the lines of a window are pushed one after another.
use Rattle.std.proofs.Common.{◌≡◌, ◌∙◌, ℕ, List, [], ◌∷◌, ◌++◌, Option, Some, None, refl, sym, ap, subst, append_assoc}
use Rattle.disk_model.specs.declared.disk.Device.{Ghosts}
use Rattle.session_text.specs.declared.reply.Reply.{Reply}
use Rattle.session_text.specs.Items.{Item}
use Rattle.store_core.specs.declared.store.Core.{Core}
use Rattle.line_windows.specs.Windows.{AreNextLines, AreOf, IsOf}
use Rattle.line_windows.specs.declared.line.WindowLine.{WindowLine}
use Rattle.session_meaning.specs.declared.ending.Ending.{Ending}
use Rattle.session_meaning.specs.Duties.{from_lines}
use Rattle.trace_shell.specs.Ingesting.{HasAsked, HasPushed, Leaves}
use Rattle.trace_shell.specs.declared.session.Tally.{Tally}
use Rattle.trace_shell.proofs.IngestLemmas.{LineDone, asked_none, asked_so, asked_then, leaves_same, leaves_so, leaves_then}

first_of : (more : List (List ℕ)) (line : WindowLine) (left : List WindowLine) → AreOf more (line ∷ left) → (bytes : List ℕ) × (later : List (List ℕ)) × (more ≡ bytes ∷ later) × IsOf bytes line × AreOf later left
first_of [] line left are = absurd are
first_of (bytes ∷ later) line left (is, are) = (bytes, later, refl, is, are)

none_of : (more : List (List ℕ)) → AreOf more [] → more ≡ []
none_of [] are = refl
none_of (bytes ∷ later) are = absurd are

module _ {D : Type 0} (g : Ghosts D) where
  -- Of a window the lines before `left` were pushed, unless the run ends.
  abbrev pub Pushing : (start core : Core D) (old new : Option (List ℕ)) (tally_old tally_new : Tally) (told to_tell : Option (List ℕ)) (window left : List WindowLine) (stopped : Option Ending) → Type 0
  Pushing start core old new tally_old tally_new told to_tell window left stopped =
      (items : List Item) × (replies : List Reply) × HasAsked g start core old new tally_old tally_new items replies stopped
      × ((lines : List (List ℕ)) → AreOf lines window → (asked more : List (List ℕ)) × (lines ≡ asked ++ more) × AreOf more left
      × ((later : List (List ℕ)) → Leaves g start core (from_lines (asked ++ later)) (from_lines later) told to_tell items replies stopped))

  -- They were all pushed, unless the run ends.
  abbrev pub Pushed : (start core : Core D) (old new : Option (List ℕ)) (tally_old tally_new : Tally) (told to_tell : Option (List ℕ)) (window : List WindowLine) (stopped : Option Ending) → Type 0
  Pushed start core old new tally_old tally_new told to_tell window stopped =
      (items : List Item) × (replies : List Reply) × HasAsked g start core old new tally_old tally_new items replies stopped
      × ((lines : List (List ℕ)) → AreOf lines window → HasPushed g start core told to_tell items replies stopped lines)

  -- None was.
  pub pushing_begins : (core : Core D) (taken : Option (List ℕ)) (tally : Tally) (told : Option (List ℕ)) (window left : List WindowLine) → left ≡ window → Pushing core core taken taken tally tally told told window left None
  pushing_begins core taken tally told window left is =
      ([], [], asked_none g core taken tally, λ lines are. ([], lines, refl, subst (λ (ws : List WindowLine). AreOf lines ws) (sym is) are, λ later. leaves_same g core (from_lines later) told None))

  -- One more line was.
  pub pushing_on : (start middle core : Core D) (old between new : Option (List ℕ)) (tally_old tally tally_new : Tally) (told told_between to_tell : Option (List ℕ)) (window left later : List WindowLine) (line : WindowLine) (o stopped : Option Ending)
      → left ≡ line ∷ later → o ≡ stopped → Pushing start middle old between tally_old tally told told_between window left None
      → LineDone g middle core between new tally tally_new line told_between to_tell o → Pushing start core old new tally_old tally_new told to_tell window later stopped
  pushing_on start middle core old between new tally_old tally tally_new told told_between to_tell window left later line o stopped next on (xs, rs, one, was) (ys, ss, two, does) = (
    xs ++ ys,
    rs ++ ss,
    asked_then g start middle core old between new tally_old tally tally_new xs ys rs ss None stopped refl one (asked_so g middle core between new tally tally_new ys ss o stopped on two),
    λ lines are.
        let before = was lines are in
        let first = first_of before.1 line later (subst (λ (ws : List WindowLine). AreOf before.1 ws) next before.3) in (
          before.0 ++ first.0 ∷ [],
          first.1,
          before.2 ∙ ap (λ (ls : List (List ℕ)). before.0 ++ ls) first.2 ∙ sym (append_assoc before.0 (first.0 ∷ []) first.1),
          first.4,
          λ others.
              let all : List (List ℕ) = first.0 ∷ others in
              subst (λ (ls : List (List ℕ)). Leaves g start core (from_lines ls) (from_lines others) told to_tell (xs ++ ys) (rs ++ ss) stopped) (sym (append_assoc before.0 (first.0 ∷ []) others))
              (leaves_then g start middle core (from_lines (before.0 ++ all)) (from_lines all) (from_lines others) told told_between to_tell xs ys rs ss None stopped refl (before.4 all)
              (leaves_so g middle core (from_lines all) (from_lines others) told_between to_tell ys ss o stopped on (does first.0 others first.3))),
        ),
  )

  pub pushed_all : (start core : Core D) (old new : Option (List ℕ)) (tally_old tally_new : Tally) (told to_tell : Option (List ℕ)) (window left : List WindowLine) → left ≡ []
      → Pushing start core old new tally_old tally_new told to_tell window left None → Pushed start core old new tally_old tally_new told to_tell window None
  pushed_all start core old new tally_old tally_new told to_tell window left none (items, replies, asked, was) = (
    items,
    replies,
    asked,
    λ lines are.
        let so = was lines are in
        record { asked = so.0; more = so.1; are = so.2; all = λ on. none_of so.1 (subst (λ (ws : List WindowLine). AreOf so.1 ws) none so.3); each = so.4 },
  )

  pub pushed_till : (start core : Core D) (old new : Option (List ℕ)) (tally_old tally_new : Tally) (told to_tell : Option (List ℕ)) (window left : List WindowLine) (ending : Ending)
      → Pushing start core old new tally_old tally_new told to_tell window left (Some ending) → Pushed start core old new tally_old tally_new told to_tell window (Some ending)
  pushed_till start core old new tally_old tally_new told to_tell window left ending (items, replies, asked, was) = (
    items,
    replies,
    asked,
    λ lines are. let so = was lines are in record { asked = so.0; more = so.1; are = so.2; all = λ on. absurd (is_no_end ending on); each = so.4 },
  )
    where
      is_no_end : (e : Ending) → Some e ≡ None → ⊥
      is_no_end e h = cc

  -- A line was pushed alone.
  pub pushed_alone : (before after : Core D) (old new : Option (List ℕ)) (tally_old tally_new : Tally) (line : WindowLine) (told to_tell : Option (List ℕ)) (stopped : Option Ending)
      → LineDone g before after old new tally_old tally_new line told to_tell stopped
      → (items : List Item) × (replies : List Reply) × HasAsked g before after old new tally_old tally_new items replies stopped
      × ((bytes : List ℕ) → IsOf bytes line → HasPushed g before after told to_tell items replies stopped (bytes ∷ []))
  pushed_alone before after old new tally_old tally_new line told to_tell stopped (items, replies, asked, does) =
      (items, replies, asked, λ bytes is. record { asked = bytes ∷ []; more = []; are = refl; all = λ on. refl; each = λ later. does bytes later is })

-- No line was read.
pub no_lines : (text : List ℕ) (ToRead : List ℕ → Type 0) → ToRead text → AreNextLines text [] ToRead
no_lines text ToRead to_read = record { past = []; rest = text; parts = refl; first = refl; after = to_read }
