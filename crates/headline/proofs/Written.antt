-- What is written in a store that was opened is the text of the replies, or a first part of it.
use Rattle.std.proofs.Common.{Bool, false, ◌≡◌, inl, inr, ◌∙◌, ℕ, ◌+◌, suc, List, [], ◌∷◌, ◌++◌, Option, Some, None, IsTrue, ap, append-nil, append_assoc, arith, length, refl, sym, subst, take}
use Rattle.std.specs.Prelude.{IfSome}
use Rattle.std.proofs.lemmas.List.{take_all}
use Rattle.std.specs.Io.KnownBytes.{Appends}
use Rattle.command_words.specs.Commands.{Alone, Command, Drill as drill, Ingest as ingest, Serve as serve, Session as session, Spells}
use Rattle.io_edges.specs.Devices.{AppendsPrefix}
use Rattle.session_text.specs.declared.reply.Reply.{Reply}
use Rattle.session_text.specs.Replies.{reply_text}
use Rattle.session_meaning.specs.declared.ending.Ending.{Ending}
use Rattle.session_meaning.specs.declared.ending.Ending.TheVariants.{Answered, BadWords, NotOpened, NotStore, ReadFault, Refused, Spent, Starved, WriteFault}
use Rattle.session_meaning.specs.Drill.{EndsDrilling, drill_text}
use Rattle.session_meaning.specs.Runs.{DoesInStore, Edges, HasAnswered, HasIngested, HasRun, IsRunOf, Outcome, TellsAll, text_written}
use Rattle.session_meaning.specs.Session.{Ends, EndsAlone, IsCutOff, reply_texts}
use Rattle.session_meaning.proofs.SessionLaws.{reply_texts-push}

abbrev Bytes : Type 0
Bytes = List ℕ

-- the bytes taken are those before and a first part of the text
abbrev IsFront : Bytes → Bytes → Option Bytes → Type 0
IsFront before text taken = (count : ℕ) × (taken ≡ Some (before ++ take count text))

all_of : (text : Bytes) → take (length text) text ≡ text
all_of text = take_all (length text) text (omega arith)

take_past : (xs ys : Bytes) (n : ℕ) → take (length xs + n) (xs ++ ys) ≡ xs ++ take n ys
take_past [] ys n = ap (λ (k : ℕ). take k ys) (none n)
  where
    none : (n : ℕ) → 0 + n ≡ n
    none n = omega arith
take_past (x ∷ xs) ys n = ap (λ (k : ℕ). take k (x ∷ (xs ++ ys))) (one (length xs) n) ∙ ap (λ (zs : Bytes). x ∷ zs) (take_past xs ys n)
  where
    one : (l n : ℕ) → suc l + n ≡ suc (l + n)
    one l n = omega arith

whole : (before text : Bytes) (taken : Option Bytes) → taken ≡ Some (before ++ text) → IsFront before text taken
whole before text taken is = (length text, is ∙ ap (λ (bs : Bytes). Some (before ++ bs)) (sym (all_of text)))

nothing : (before text : Bytes) (taken : Option Bytes) → taken ≡ Some before → IsFront before text taken
nothing before text taken is = (0, is ∙ ap (λ (bs : Bytes). Some bs) (sym (append-nil before)))

cut_off : (before : Bytes) (replies : List Reply) (taken : Option Bytes) (count : ℕ) → IsCutOff before replies taken count → IsFront before (reply_texts replies) taken
cut_off before replies taken count is =
    let text : reply_texts replies ≡ reply_texts is.whole ++ reply_text is.last = ap reply_texts is.replies_are ∙ reply_texts-push is.whole is.last in
    let size = length (reply_texts is.whole) + count in (
      size,
      is.taken_is
          ∙ ap (λ (bs : Bytes). Some bs) (append_assoc before (reply_texts is.whole) (take count (reply_text is.last)))
          ∙ ap (λ (bs : Bytes). Some (before ++ bs)) (sym (take_past (reply_texts is.whole) (reply_text is.last) count))
          ∙ ap (λ (bs : Bytes). Some (before ++ take size bs)) (sym text),
    )

ends_front : (e : Ending) (text : Bytes) (later : List Bytes) (left : Option Bytes) (before : Bytes) (replies : List Reply) (taken : Option Bytes)
    → Ends e text later left before replies taken → IsFront before (reply_texts replies) taken
ends_front Answered text later left before replies taken h = whole before (reply_texts replies) taken h.0.2
ends_front Refused text later left before replies taken h = whole before (reply_texts replies) taken h.0.2
ends_front Starved text later left before replies taken (inl h) = whole before (reply_texts replies) taken h.0.2
ends_front Starved text later left before replies taken (inr (inl h)) = whole before (reply_texts replies) taken h
ends_front Starved text later left before replies taken (inr (inr h)) = cut_off before replies taken 0 h
ends_front WriteFault text later left before replies taken h = cut_off before replies taken h.0 h.1
ends_front ReadFault text later left before replies taken h = whole before (reply_texts replies) taken h.0
ends_front Spent text later left before replies taken h = whole before (reply_texts replies) taken h.0
ends_front BadWords text later left before replies taken h = absurd h
ends_front NotOpened text later left before replies taken h = absurd h
ends_front (NotStore file at) text later left before replies taken h = absurd h

one_text : (reply : Reply) → reply_texts (reply ∷ []) ≡ reply_text reply
one_text reply = append-nil (reply_text reply)

alone_front : (e : Ending) (before : Bytes) (reply : Reply) (taken : Option Bytes) → EndsAlone e before reply taken → IsFront before (reply_texts (reply ∷ [])) taken
alone_front Answered before reply taken h = whole before (reply_texts (reply ∷ [])) taken h.0
alone_front Refused before reply taken h = whole before (reply_texts (reply ∷ [])) taken h.0
alone_front Starved before reply taken (inl h) = whole before (reply_texts (reply ∷ [])) taken h.0
alone_front Starved before reply taken (inr h) = nothing before (reply_texts (reply ∷ [])) taken h
alone_front WriteFault before reply taken h = (h.0, h.1 ∙ ap (λ (bs : Bytes). Some (before ++ take h.0 bs)) (sym (one_text reply)))
alone_front ReadFault before reply taken h = absurd h
alone_front Spent before reply taken h = absurd h
alone_front BadWords before reply taken h = absurd h
alone_front NotOpened before reply taken h = absurd h
alone_front (NotStore file at) before reply taken h = absurd h

appends : (before text : Bytes) (old new : Option Bytes) → old ≡ Some before → IsFront before text new → AppendsPrefix old new text
appends before text old new was (count, is) =
    (count, subst (λ (o : Option Bytes). Appends o new (take count text)) (sym was) (subst (λ (n : Option Bytes). Appends (Some before) n (take count text)) (sym is) refl))

appends_all : (text : Bytes) (old new : Option Bytes) → Appends old new text → AppendsPrefix old new text
appends_all text old new all = (length text, subst (λ (bs : Bytes). Appends old new bs) (sym (all_of text)) all)

appends_none : (text : Bytes) (old new : Option Bytes) → new ≡ old → AppendsPrefix old new text
appends_none text None new is = (0, tt)
appends_none text (Some before) new is = (0, subst (λ (n : Option Bytes). Appends (Some before) n []) (sym is) (sym (append-nil before)))

-- what a drill writes
drill_front : (e : Ending) (replies : List Reply) (old new : Option Bytes) → EndsDrilling e replies old new → AppendsPrefix old new (drill_text replies)
drill_front Answered replies old new h = appends_all (drill_text replies) old new h.0
drill_front Refused replies old new h = appends_all (drill_text replies) old new h.0
drill_front Starved replies old new (inl h) = appends_all (drill_text replies) old new h.0
drill_front Starved replies old new (inr h) = appends_none (drill_text replies) old new h
drill_front WriteFault replies old new h = h
drill_front ReadFault replies old new h = absurd h
drill_front Spent replies old new h = absurd h
drill_front BadWords replies old new h = absurd h
drill_front NotOpened replies old new h = absurd h
drill_front (NotStore file at) replies old new h = absurd h

opened_or_not : (b : Bool) → IsTrue b → b ≡ false → ⊥
opened_or_not b held failed = cc

module _ (told : Bool) (o : Outcome) (old new : Edges) where
  -- what each command does, where the edges tell their bytes
  as_run : (text before : Bytes) → old.left ≡ Some text → old.taken ≡ Some before → IfSome old.left (λ t. IfSome old.taken (λ b. HasRun t b o old new)) → HasRun text before o old new
  as_run text before left taken does =
      subst (λ (b : Option Bytes). IfSome b (λ k. HasRun text k o old new)) taken (subst (λ (l : Option Bytes). IfSome l (λ t. IfSome old.taken (λ b. HasRun t b o old new))) left does)

  as_ingested : (text before : Bytes) → old.left ≡ Some text → old.taken ≡ Some before → IfSome old.left (λ t. IfSome old.taken (λ b. HasIngested told t b o old new))
      → HasIngested told text before o old new
  as_ingested text before left taken does =
      subst (λ (b : Option Bytes). IfSome b (λ k. HasIngested told text k o old new)) taken
      (subst (λ (l : Option Bytes). IfSome l (λ t. IfSome old.taken (λ b. HasIngested told t b o old new))) left does)

  as_answered : (line before : Bytes) → old.taken ≡ Some before → IfSome old.taken (λ b. HasAnswered line b o old new) → HasAnswered line before o old new
  as_answered line before taken does = subst (λ (b : Option Bytes). IfSome b (λ k. HasAnswered line k o old new)) taken does

  alone_writes : (line before : Bytes) → HasAnswered line before o old new → IsFront before (reply_texts o.replies) new.taken
  alone_writes line before did =
      subst (λ (rs : List Reply). IsFront before (reply_texts rs) new.taken) (sym did.replies_are) (alone_front o.ending before did.reply new.taken did.ends)

  does_write : (c : Command) → TellsAll c old → DoesInStore told c o old new → AppendsPrefix old.taken new.taken (text_written c o.replies)
  does_write session (text, before, left, taken) does =
      let did = as_run text before left taken does in
      appends before (reply_texts o.replies) old.taken new.taken taken (ends_front o.ending text did.later new.left before o.replies new.taken did.ends)
  does_write ingest (text, before, left, taken) does =
      let did = as_ingested text before left taken does in
      appends before (reply_texts o.replies) old.taken new.taken taken (ends_front o.ending text did.later new.left before o.replies new.taken did.ends)
  does_write (serve clients rounds) tells does = absurd does
  does_write (drill seed traces) (before, taken) does = elim does.came [
    | inl all ↦ drill_front o.ending o.replies old.taken new.taken all.1
    | inr halt ↦ appends_none (drill_text o.replies) old.taken new.taken halt.2
  ]
  does_write (Alone line) (before, taken) does =
      appends before (reply_texts o.replies) old.taken new.taken taken (alone_writes line before (as_answered line before taken does.1))

pub run_writes : (told : Bool) (words : List Bytes) (c : Command) (o : Outcome) (old new : Edges) → Spells words c → IsRunOf told words o old new → TellsAll c old → IsTrue o.opened
    → AppendsPrefix old.taken new.taken (text_written c o.replies)
run_writes told words c o old new spells run tells opened = elim (run.does c spells) [
  | inl did ↦ does_write told o old new c tells did.3
  | inr not ↦ absurd (opened_or_not o.opened opened not.0)
]
