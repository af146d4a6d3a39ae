-- How calls of a port follow one another.
use Rattle.std.proofs.Common.{◌≡◌, List, [], ◌∷◌, ◌++◌, refl, sym, ◌∙◌, ap, subst, append-nil, append_assoc}
use Rattle.store_model.specs.Holds.{Hold, holds_after}
use Rattle.store_state.specs.Meaning.{Meaning}
use Rattle.client_run.specs.declared.event.Event.{Event}
use Rattle.client_run.specs.declared.event.EventReply.{EventReply}
use Rattle.store_state.specs.Made.{Call, AreMade}
use Rattle.client_run.specs.Calls.{Looks, after_call, after_calls}
use Rattle.client_run.specs.EventRuns.{AreEventsAnswered, IsEventAnswered, Stages}

pub after-append : (front back : List Call) (looks : Looks) → after_calls (front ++ back) looks ≡ after_calls back (after_calls front looks)
after-append [] back looks = refl
after-append (c ∷ cs) back looks = after-append cs back (after_call c looks)

pub made-append : {P : Type 0} (meaning : Meaning P) (old mid new : P) (front back : List Call) → AreMade meaning old front mid → AreMade meaning mid back new
    → AreMade meaning old (front ++ back) new
made-append {P} meaning old mid new [] back h made = subst (λ (x : P). AreMade meaning x back new) h made
made-append meaning old mid new (c ∷ cs) back h made = (h.0, h.1, made-append meaning h.0 mid new cs back h.2 made)

-- a port says what is open in it, call after call
pub holds_kept : {P : Type 0} (meaning : Meaning P) (old new : P) (calls : List Call) → AreMade meaning old calls new → ((held : List Hold) × meaning.holds old held)
    → (held : List Hold) × meaning.holds new held
holds_kept {P} meaning old new [] made h = subst (λ (x : P). (held : List Hold) × meaning.holds x held) (sym made) h
holds_kept meaning old new (c ∷ cs) made h = holds_kept meaning made.0 new cs made.2 (holds_after c.event c.reply h.0, made.1.holds h.0 h.1)

-- and whether it shows its bytes stays as it is
pub tells_kept : {P : Type 0} (meaning : Meaning P) (old new : P) (calls : List Call) → AreMade meaning old calls new → meaning.tells new ≡ meaning.tells old
tells_kept meaning old new [] made = ap meaning.tells made
tells_kept meaning old new (c ∷ cs) made = tells_kept meaning made.0 new cs made.2 ∙ made.1.telling

pub answered-push : (looks : Looks) (before after last : Stages) (events : List Event) (replies : List EventReply) (e : Event) (r : EventReply) (calls now : List Call)
    → AreEventsAnswered looks before events replies calls after → IsEventAnswered (after_calls calls looks) after e r now last
    → AreEventsAnswered looks before (events ++ e ∷ []) (replies ++ r ∷ []) (calls ++ now) last
answered-push looks before after last [] replies e r calls now h a =
    rw (h.0, h.1) (
      now,
      [],
      last,
      sym (append-nil now),
      subst (λ (s : Stages). IsEventAnswered looks s e r now last) h.2 (subst (λ (cs : List Call). IsEventAnswered (after_calls cs looks) after e r now last) h.1 a),
      (refl, refl, refl),
    )
answered-push looks before after last (x ∷ xs) [] e r calls now h a = absurd h
answered-push looks before after last (x ∷ xs) (y ∷ ys) e r calls now h a =
    let same : after_calls calls looks ≡ after_calls h.1 (after_calls h.0 looks) =
    ap (λ (cs : List Call). after_calls cs looks) h.3 ∙ after-append h.0 h.1 looks in (
      h.0,
      h.1 ++ now,
      h.2,
      ap (λ (cs : List Call). cs ++ now) h.3 ∙ append_assoc h.0 h.1 now,
      h.4,
      answered-push (after_calls h.0 looks) h.2 after last xs ys e r h.1 now h.5 (subst (λ (l : Looks). IsEventAnswered l after e r now last) same a),
    )
