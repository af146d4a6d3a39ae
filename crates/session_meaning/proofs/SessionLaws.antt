-- How a session grows at its end.
use Rattle.std.proofs.Common.{◌≡◌, ℕ, List, [], ◌∷◌, ◌++◌, Option, Ok, Err, refl, sym, ◌∙◌, ap, subst, append_assoc, append-nil}
use Rattle.io_edges.specs.Lines.{lines}
use Rattle.session_text.specs.declared.refusal.Refusal.{Refusal}
use Rattle.session_text.specs.declared.reply.Reply.{Reply}
use Rattle.session_text.specs.declared.reply.Reply.TheVariants.{Refused}
use Rattle.session_text.specs.declared.request.Request.{Request}
use Rattle.session_text.specs.Items.{Item}
use Rattle.session_text.specs.Replies.{reply_text}
use Rattle.store_state.specs.Meaning.{Meaning}
use Rattle.client_run.specs.Answers.{HasReplied}
use Rattle.store_state.specs.Made.{Call}
use Rattle.client_run.proofs.CallLemmas.{made-append}
use Rattle.session_meaning.specs.Act.{Act}
use Rattle.session_meaning.specs.Answering.{AreItemsAnswered}
use Rattle.session_meaning.specs.Asked.{AreAsked, ComesToNext, after_lines, after_moment}
use Rattle.session_meaning.specs.Progress.{AreAnsweredOver, HasAnsweredOne, HasAnsweredOver, Progress}
use Rattle.session_meaning.specs.Session.{reply_texts}

-- ---- what is asked

-- A line without bytes is passed over.
pub AreAsked-empty : (lines : List (List ℕ)) (told : Option (List ℕ)) (acts : List Act) (refused : List (List ℕ)) → AreAsked lines told acts refused
    → AreAsked (lines ++ [] ∷ []) told acts refused
AreAsked-empty [] told acts refused h = h
AreAsked-empty ([] ∷ lines) told acts refused h = AreAsked-empty lines told acts refused h
AreAsked-empty ((b ∷ bs) ∷ lines) told [] refused h = h
AreAsked-empty ((b ∷ bs) ∷ lines) told (act ∷ acts) refused h = (h.0, h.1, h.2, h.3, AreAsked-empty lines (after_moment told) acts h.1 h.4)

-- Any other line comes to something more.
pub AreAsked-line : (lines : List (List ℕ)) (told : Option (List ℕ)) (acts : List Act) (refused : List (List ℕ)) (b : ℕ) (bs : List ℕ) (act : Act) (more : List (List ℕ))
    → AreAsked lines told acts refused → ComesToNext (after_lines lines told) (b ∷ bs) more act
    → AreAsked (lines ++ (b ∷ bs) ∷ []) told (acts ++ act ∷ []) (refused ++ more)
AreAsked-line [] told acts refused b bs act more h a = rw (h.0, h.1) (more, [], sym (append-nil more), a, (refl, refl))
AreAsked-line ([] ∷ lines) told acts refused b bs act more h a = AreAsked-line lines told acts refused b bs act more h a
AreAsked-line ((c ∷ cs) ∷ lines) told [] refused b bs act more h a = absurd h
AreAsked-line ((c ∷ cs) ∷ lines) told (i ∷ is) refused b bs act more h a =
    (h.0, h.1 ++ more, ap (λ (ts : List (List ℕ)). ts ++ more) h.2 ∙ append_assoc h.0 h.1 more, h.3, AreAsked-line lines (after_moment told) is h.1 b bs act more h.4 a)

pub after_empty : (lines : List (List ℕ)) (told : Option (List ℕ)) → after_lines (lines ++ [] ∷ []) told ≡ after_lines lines told
after_empty [] told = refl
after_empty ([] ∷ lines) told = after_empty lines told
after_empty ((b ∷ bs) ∷ lines) told = after_empty lines (after_moment told)

pub after_line : (lines : List (List ℕ)) (told : Option (List ℕ)) (b : ℕ) (bs : List ℕ) → after_lines (lines ++ (b ∷ bs) ∷ []) told ≡ after_moment (after_lines lines told)
after_line [] told b bs = refl
after_line ([] ∷ lines) told b bs = after_line lines told b bs
after_line ((c ∷ cs) ∷ lines) told b bs = after_line lines (after_moment told) b bs

pub progress_begins : (told : Option (List ℕ)) (text : List ℕ) → Progress told text text [] [] told
progress_begins told text = record { front = []; answered = []; text_is = refl; lines_are = refl; asked = (refl, refl); clock = refl }

one_more : (text answered_lines rest later : List (List ℕ)) (line : List ℕ) → text ≡ answered_lines ++ rest → rest ≡ line ∷ later →
    text ≡ (answered_lines ++ line ∷ []) ++ later
one_more text answered rest later line split next = split ∙ ap (λ ls. answered ++ ls) next ∙ sym (append_assoc answered (line ∷ []) later)

further : (text front rest past later : List ℕ) → text ≡ front ++ rest → rest ≡ past ++ later → text ≡ (front ++ past) ++ later
further text front rest past later is parts = is ∙ ap (λ xs. front ++ xs) parts ∙ sym (append_assoc front past later)

pub progress_empty : (told : Option (List ℕ)) (text rest past later : List ℕ) (refused : List (List ℕ)) (acts : List Act) (to_tell : Option (List ℕ))
    → Progress told text rest refused acts to_tell → rest ≡ past ++ later → lines rest ≡ [] ∷ lines later → Progress told text later refused acts to_tell
progress_empty told text rest past later refused acts to_tell p parts next = record {
  front = p.front ++ past;
  text_is = further text p.front rest past later p.text_is parts;
  answered = p.answered ++ [] ∷ [];
  lines_are = one_more (lines text) p.answered (lines rest) (lines later) [] p.lines_are next;
  asked = AreAsked-empty p.answered told acts refused p.asked;
  clock = p.clock ∙ sym (after_empty p.answered told);
}

pub progress_line : (told : Option (List ℕ)) (text rest past later : List ℕ) (refused more : List (List ℕ)) (acts : List Act) (to_tell : Option (List ℕ)) (b : ℕ) (bs : List ℕ) (act : Act)
    → Progress told text rest refused acts to_tell → rest ≡ past ++ later → lines rest ≡ (b ∷ bs) ∷ lines later → ComesToNext to_tell (b ∷ bs) more act
    → Progress told text later (refused ++ more) (acts ++ act ∷ []) (after_moment to_tell)
progress_line told text rest past later refused more acts to_tell b bs act p parts next a = record {
  front = p.front ++ past;
  text_is = further text p.front rest past later p.text_is parts;
  answered = p.answered ++ (b ∷ bs) ∷ [];
  lines_are = one_more (lines text) p.answered (lines rest) (lines later) (b ∷ bs) p.lines_are next;
  asked = AreAsked-line p.answered told acts refused b bs act more p.asked (subst (λ (o : Option (List ℕ)). ComesToNext o (b ∷ bs) more act) p.clock a);
  clock = ap after_moment p.clock ∙ sym (after_line p.answered told b bs);
}

-- ---- what is answered

-- A request that was answered over a port, and a line that asks nothing.
pub one_replied : {P : Type 0} (meaning : Meaning P) (old new : P) (asked : Request) (reply : Reply) → HasReplied meaning old asked reply new
    → HasAnsweredOne meaning old (Ok asked) reply new
one_replied meaning old new asked reply h = record { calls = h.calls; answered = h.answered; made = h.made; is = h }

pub one_refused : {P : Type 0} (meaning : Meaning P) (port : P) (why : Refusal) → HasAnsweredOne meaning port (Err why) (Refused why) port
one_refused meaning port why = record { calls = []; answered = (refl, refl); made = refl; is = (refl, refl) }

pub over_begins : {P : Type 0} (meaning : Meaning P) (start : P) → HasAnsweredOver meaning start [] [] start
over_begins meaning start = record { calls = []; by_calls = (refl, refl); made = refl; each = (refl, refl) }

pub over_one : {P : Type 0} (meaning : Meaning P) (before after : P) (item : Item) (reply : Reply) → HasAnsweredOne meaning before item reply after
    → HasAnsweredOver meaning before (item ∷ []) (reply ∷ []) after
over_one meaning before after item reply one = record {
  calls = one.calls;
  by_calls = (one.calls, [], sym (append-nil one.calls), one.answered, (refl, refl));
  made = one.made;
  each = (after, one.is, (refl, refl));
}

items_then : (front back : List Item) (first later : List Reply) (calls more : List Call) → AreItemsAnswered front first calls → AreItemsAnswered back later more
    → AreItemsAnswered (front ++ back) (first ++ later) (calls ++ more)
items_then [] back first later calls more h k = rw (h.0, h.1) k
items_then (i ∷ is) back [] later calls more h k = absurd h
items_then (i ∷ is) back (r ∷ rs) later calls more h k =
    (h.0, h.1 ++ more, ap (λ (cs : List Call). cs ++ more) h.2 ∙ append_assoc h.0 h.1 more, h.3, items_then is back rs later h.1 more h.4 k)

each_then : {P : Type 0} (meaning : Meaning P) (front back : List Item) (first later : List Reply) (start mid port : P) → AreAnsweredOver meaning start front first mid
    → AreAnsweredOver meaning mid back later port → AreAnsweredOver meaning start (front ++ back) (first ++ later) port
each_then {P} meaning [] back first later start mid port h k =
    subst (λ (rs : List Reply). AreAnsweredOver meaning start back (rs ++ later) port) (sym h.0) (subst (λ (x : P). AreAnsweredOver meaning x back later port) h.1 k)
each_then meaning (i ∷ is) back [] later start mid port h k = absurd h
each_then meaning (i ∷ is) back (r ∷ rs) later start mid port h k = (h.0, h.1, each_then meaning is back rs later h.0 mid port h.2 k)

-- What is asked then.
pub over_then : {P : Type 0} (meaning : Meaning P) (start mid port : P) (items asked : List Item) (replies given : List Reply) → HasAnsweredOver meaning start items replies mid
    → HasAnsweredOver meaning mid asked given port → HasAnsweredOver meaning start (items ++ asked) (replies ++ given) port
over_then meaning start mid port items asked replies given first second = record {
  calls = first.calls ++ second.calls;
  by_calls = items_then items asked replies given first.calls second.calls first.by_calls second.by_calls;
  made = made-append meaning start mid port first.calls second.calls first.made second.made;
  each = each_then meaning items asked replies given start mid port first.each second.each;
}

-- One more reply adds its text.
pub reply_texts-push : (replies : List Reply) (reply : Reply) → reply_texts (replies ++ reply ∷ []) ≡ reply_texts replies ++ reply_text reply
reply_texts-push [] reply = append-nil (reply_text reply)
reply_texts-push (r ∷ rs) reply = ap (λ ts. reply_text r ++ ts) (reply_texts-push rs reply) ∙ sym (append_assoc (reply_text r) (reply_texts rs) (reply_text reply))
