-- What a reader of lines holds, step by step.
use Rattle.std.proofs.Common.{◌≡◌, ◌≢◌, ℕ, ◌+◌, ◌<◌, ◌≤◌, Option, Some, None, is_some, arith, length-append, List, [], ◌∷◌, ◌++◌, length, get_or, take, drop, refl, sym, ap, subst, ◌∙◌, append_assoc, append-nil}
use Rattle.std.specs.Prelude.{Result, Ok, Err, IfOk, IfSome, IfNone}
use Rattle.std.specs.Io.KnownBytes.{Consumes, IsAtEnd}
use Rattle.std.proofs.KnownBytes.{Consumes-nil, Consumes-trans}
use Rattle.io_edges.specs.Lines.{taken_limit, without_return, lines}
use Rattle.io_edges.specs.Reader.{Reader, Holds, IsBegun, IsLineOf, EndsByFeed, EndsInput, IsLastLine, IsNextLine, IsToRead, Answers, TakesBytes, begun_len, to_come, HasNoFeed}
use Rattle.span_types.specs.declared.errors.Memory.{Memory}
use Rattle.io_edges.specs.declared.begun.Begun.{Begun}
use Rattle.io_edges.specs.declared.begun.Begun.TheVariants.{Kept}
use Rattle.io_edges.specs.declared.line.Line.{Line}
use Rattle.io_edges.specs.declared.line.Line.TheVariants.{Whole, TooLong, End, Spent}
use Rattle.io_edges.proofs.LineLemmas.{HasNoFeed-from_index, HasNoFeed-take, HasNoFeed-append, split_at_feed, lines-feed, lines-last}

-- A reader that has begun no line holds just what is pending.
pub Holds-pending : (reader : Reader) (held : List ℕ) → reader.begun ≡ Kept [] → held ≡ reader.pending → Holds reader held
Holds-pending reader held begun pending =
    let P : Begun → Type 0 = λ b. IsBegun b [] in
    record { piece = []; is_begun = subst P (sym begun) refl; no_feed = tt; held_is = pending }

-- The first line feed of what is pending ends the line that is begun.
pub ends_by_feed : (old after : Reader) (held pending : List ℕ) (at : ℕ) (answer : Line) → Holds old held → pending ≡ old.pending
    → at < length pending → get_or pending at 0 ≡ 10 → ((k : ℕ) → k < at → get_or pending k 0 ≢ 10)
    → ((piece : List ℕ) → IsBegun old.begun piece → IsLineOf answer (without_return (piece ++ take at pending)))
    → after.begun ≡ Kept [] → after.pending ≡ drop (at + 1) pending → EndsByFeed held answer after
ends_by_feed old after held pending at answer holds seen within feed first line begun rest = record {
  piece = holds.piece ++ take at pending;
  rest = drop (at + 1) pending;
  no_feed = HasNoFeed-append holds.piece (take at pending) holds.no_feed (HasNoFeed-take pending at first);
  held_is =
      holds.held_is
      ∙ ap (λ l. holds.piece ++ l) (sym seen ∙ split_at_feed pending at within feed)
      ∙ sym (append_assoc holds.piece (take at pending) (10 ∷ drop (at + 1) pending));
  line = line holds.piece holds.is_begun;
  holds = Holds-pending after (drop (at + 1) pending) begun (sym rest);
}

-- Pending bytes without a line feed go on the line that is begun.
pub Holds-begun : (old after : Reader) (held pending : List ℕ) → Holds old held → pending ≡ old.pending
    → ((k : ℕ) → k < length pending → get_or pending k 0 ≢ 10)
    → ((piece : List ℕ) → IsBegun old.begun piece → IsBegun after.begun (piece ++ pending))
    → after.pending ≡ [] → Holds after held
Holds-begun old after held pending holds seen none begun rest = record {
  piece = holds.piece ++ pending;
  is_begun = begun holds.piece holds.is_begun;
  no_feed = HasNoFeed-append holds.piece pending holds.no_feed (HasNoFeed-from_index pending none);
  held_is =
      holds.held_is
      ∙ ap (λ l. holds.piece ++ l) (sym seen)
      ∙ sym (ap (λ l. (holds.piece ++ pending) ++ l) rest ∙ append-nil (holds.piece ++ pending));
}

-- What a source that told `rest` tells after it gave some bytes.
pub Consumes-told : (before after : Option (List ℕ)) (bytes rest : List ℕ) → before ≡ Some rest → Consumes before after bytes
    → (others : List ℕ) × (after ≡ Some others) × (rest ≡ bytes ++ others)
Consumes-told None after bytes rest told took = cc
Consumes-told (Some xs) None bytes rest told took = absurd took
Consumes-told (Some xs) (Some ys) bytes rest told took =
    let same : rest ≡ xs = cc in
    (ys, refl, same ∙ took)

-- Where nothing is pending, no line feed is among the bytes held.
pub HasNoFeed-held : (reader : Reader) → reader.pending ≡ [] → (held : List ℕ) → Holds reader held → HasNoFeed held
HasNoFeed-held reader none held holds =
    subst HasNoFeed (sym (holds.held_is ∙ ap (λ l. holds.piece ++ l) none ∙ append-nil holds.piece)) holds.no_feed

-- Where what the reader holds stays, what is to be read stays.
pub IsToRead-kept : (old now : Reader) (left : Option (List ℕ)) → ((held : List ℕ) → Holds old held → Holds now held)
    → (text : List ℕ) → IsToRead old left text → IsToRead now left text
IsToRead-kept old now left kept text before = record {
  held = before.held;
  rest = before.rest;
  holds = kept before.held before.holds;
  told = before.told;
  text_is = before.text_is;
}

-- Bytes that go from the source to the reader are still to be read.
pub IsToRead-refilled : (old now : Reader) (before after : Option (List ℕ)) → old.pending ≡ [] → now.begun ≡ old.begun
    → Consumes before after now.pending → (text : List ℕ) → IsToRead old before text → IsToRead now after text
IsToRead-refilled old now before after none begun took text to_read =
    let gave = Consumes-told before after now.pending to_read.rest to_read.told took in
    let h = to_read.holds in
    let Began : Begun → Type 0 = λ b. IsBegun b h.piece in
    let all : to_read.held ≡ h.piece = h.held_is ∙ ap (λ l. h.piece ++ l) none ∙ append-nil h.piece in
    record {
      held = to_read.held ++ now.pending;
      rest = gave.0;
      holds = record {
        piece = h.piece;
        is_begun = subst Began (sym begun) h.is_begun;
        no_feed = h.no_feed;
        held_is = ap (λ l. l ++ now.pending) all;
      };
      told = gave.1;
      text_is = to_read.text_is ∙ ap (λ l. to_read.held ++ l) gave.2 ∙ sym (append_assoc to_read.held now.pending gave.0);
    }

-- A source that tells bytes and is at its end has none.
IsAtEnd-told : (left : Option (List ℕ)) (rest : List ℕ) → left ≡ Some rest → IsAtEnd left → rest ≡ []
IsAtEnd-told None rest told end = cc
IsAtEnd-told (Some xs) rest told end = let same : rest ≡ xs = cc in same ∙ end

-- The answer for a line says what is read and what is to be read.
Answers-next : (answer : Line) (text line : List ℕ) (ToRead : List ℕ → Type 0) → IsLineOf answer line → IsNextLine text line ToRead → Answers answer text ToRead
Answers-next (Whole bytes) text line ToRead is next =
    let P : List ℕ → Type 0 = λ l. IsNextLine text l ToRead in subst P (sym is.0) next
Answers-next (TooLong size) text line ToRead is next = (line, next, is.0)
Answers-next End text line ToRead is next = absurd is
Answers-next (Spent taken) text line ToRead is next = absurd is

-- The last line is the only one of its text.
IsNextLine-last : (answer : Line) (text held : List ℕ) (ToRead : List ℕ → Type 0) → IsLastLine answer held → text ≡ held → ToRead []
    → IsNextLine text (without_return held) ToRead
IsNextLine-last answer text held ToRead last all nothing = record {
  past = text;
  rest = [];
  parts = sym (append-nil text);
  first = ap lines all ∙ lines-last held last.no_feed last.not_empty;
  after = nothing;
}

EndsInput-answers : (answer : Line) (text held : List ℕ) (ToRead : List ℕ → Type 0) → EndsInput answer held → text ≡ held → ToRead [] → Answers answer text ToRead
EndsInput-answers (Whole bytes) text held ToRead ends all nothing =
    Answers-next (Whole bytes) text (without_return held) ToRead ends.line (IsNextLine-last (Whole bytes) text held ToRead ends all nothing)
EndsInput-answers (TooLong size) text held ToRead ends all nothing =
    Answers-next (TooLong size) text (without_return held) ToRead ends.line (IsNextLine-last (TooLong size) text held ToRead ends all nothing)
EndsInput-answers End text held ToRead ends all nothing = (all ∙ ends, nothing)
EndsInput-answers (Spent taken) text held ToRead ends all nothing = absurd ends

-- A line that a line feed ended is the first line of the text.
pub Answers-feed : (mid after : Reader) (left : Option (List ℕ)) (answer : Line) → ((held : List ℕ) → Holds mid held → EndsByFeed held answer after)
    → (text : List ℕ) → IsToRead mid left text → Answers answer text (IsToRead after left)
Answers-feed mid after left answer ends text to_read =
    let e = ends to_read.held to_read.holds in
    let all : text ≡ e.piece ++ 10 ∷ (e.rest ++ to_read.rest) =
    to_read.text_is ∙ ap (λ l. l ++ to_read.rest) e.held_is ∙ append_assoc e.piece (10 ∷ e.rest) to_read.rest in
    let next : IsNextLine text (without_return e.piece) (IsToRead after left) = record {
      past = e.piece ++ 10 ∷ [];
      rest = e.rest ++ to_read.rest;
      parts = all ∙ sym (append_assoc e.piece (10 ∷ []) (e.rest ++ to_read.rest));
      first = ap lines all ∙ lines-feed e.piece (e.rest ++ to_read.rest) e.no_feed;
      after = record { held = e.rest; rest = to_read.rest; holds = e.holds; told = to_read.told; text_is = refl };
    } in
    Answers-next answer text (without_return e.piece) (IsToRead after left) e.line next

-- What was found among the bytes at hand is an answer, whatever remains in the source.
pub Answers-at_hand : (mid after : Reader) (found : Result (Option Line) Memory)
    → IfOk found (λ line. IfSome line (λ answer. (held : List ℕ) → Holds mid held → EndsByFeed held answer after))
    → IfOk found (λ line. IfSome line (λ answer. (left : Option (List ℕ)) (text : List ℕ) → IsToRead mid left text → Answers answer text (IsToRead after left)))
Answers-at_hand mid after (Ok (Some answer)) ends = λ left. Answers-feed mid after left answer ends
Answers-at_hand mid after (Ok None) ends = ends
Answers-at_hand mid after (Err e) ends = ends

pub IsToRead-at_hand : (old now : Reader) (found : Result (Option Line) Memory)
    → IfOk found (λ line. IfNone line ((held : List ℕ) → Holds old held → Holds now held))
    → IfOk found (λ line. IfNone line ((left : Option (List ℕ)) (text : List ℕ) → IsToRead old left text → IsToRead now left text))
IsToRead-at_hand old now (Ok (Some answer)) kept = kept
IsToRead-at_hand old now (Ok None) kept = λ left. IsToRead-kept old now left kept
IsToRead-at_hand old now (Err e) kept = kept

-- At the end of input what is held is the last line, or there is none.
pub Answers-end : (mid after : Reader) (left : Option (List ℕ)) (answer : Line) → ((held : List ℕ) → Holds mid held → EndsInput answer held)
    → Holds after [] → IsAtEnd left → (text : List ℕ) → IsToRead mid left text → Answers answer text (IsToRead after left)
Answers-end mid after left answer ends none end text to_read =
    let atEnd = IsAtEnd-told left to_read.rest to_read.told end in
    let all : text ≡ to_read.held = to_read.text_is ∙ ap (λ l. to_read.held ++ l) atEnd ∙ append-nil to_read.held in
    let nothing : IsToRead after left [] =
    record { held = []; rest = []; holds = none; told = to_read.told ∙ ap Some atEnd; text_is = refl } in
    EndsInput-answers answer text to_read.held (IsToRead after left) (ends to_read.held to_read.holds) all nothing

-- Bytes taken after other bytes.
pub TakesBytes-more : (a b c : Option (List ℕ)) (first second third : ℕ) (bytes : List ℕ) → TakesBytes a b first second → Consumes b c bytes
    → third ≡ second + length bytes → TakesBytes a c first third
TakesBytes-more a b c first second third bytes took more count =
    (took.0 ++ bytes, Consumes-trans a b c took.0 bytes took.1 more, omega (arith, took.2, length-append took.0 bytes))

pub TakesBytes-none : (a : Option (List ℕ)) (count : ℕ) → TakesBytes a a count count
TakesBytes-none a count = ([], Consumes-nil a, omega arith)

-- Bytes that go from the source to the reader are to come as they were before.
pub to_come-refilled : (old now : Reader) → old.pending ≡ [] → now.begun ≡ old.begun → now.taken ≡ old.taken + length now.pending
    → now.taken ≤ taken_limit → to_come now ≡ to_come old
to_come-refilled old now none begun count limited =
    let same : begun_len now.begun ≡ begun_len old.begun = ap begun_len begun in
    let empty : length old.pending ≡ 0 = ap length none in
    omega arith

-- How far a call of the reader is, since it began.
pub record IsOnTheWay {S : Type 0} (left : S → Option (List ℕ)) (faults : S → ℕ) (old now : Reader) (source_old source_now : S) : Type 0 where
  pub to_read : (text : List ℕ) → IsToRead old (left source_old) text → IsToRead now (left source_now) text
  pub took : TakesBytes (left source_old) (left source_now) old.taken now.taken
  pub nearer : to_come now ≤ to_come old
  pub tells : is_some (left source_now) ≡ is_some (left source_old)
  pub counted : faults source_old ≤ faults source_now

-- ---- what a caller knows in the arm of an answer

pub Answers-whole : (answer : Line) (bytes text : List ℕ) (ToRead : List ℕ → Type 0) → answer ≡ Whole bytes → Answers answer text ToRead
    → IsNextLine text bytes ToRead
Answers-whole answer bytes text ToRead is answers =
    let P : Line → Type 0 = λ l. Answers l text ToRead in subst P is answers

pub Answers-too_long : (answer : Line) (size : ℕ) (text : List ℕ) (ToRead : List ℕ → Type 0) → answer ≡ TooLong size → Answers answer text ToRead
    → (line : List ℕ) × IsNextLine text line ToRead × (size ≡ length line)
Answers-too_long answer size text ToRead is answers =
    let P : Line → Type 0 = λ l. Answers l text ToRead in subst P is answers

pub Answers-ended : (answer : Line) (text : List ℕ) (ToRead : List ℕ → Type 0) → answer ≡ End → Answers answer text ToRead
    → (text ≡ []) × ToRead []
Answers-ended answer text ToRead is answers =
    let P : Line → Type 0 = λ l. Answers l text ToRead in subst P is answers

-- A fresh reader and a source that tells `text` have it to read.
pub IsToRead-start : (reader : Reader) (left : Option (List ℕ)) → ((text : List ℕ) → IsToRead reader (Some text) text)
    → (text : List ℕ) → left ≡ Some text → IsToRead reader left text
IsToRead-start reader left fresh text told =
    let P : Option (List ℕ) → Type 0 = λ l. IsToRead reader l text in subst P (sym told) (fresh text)

-- Where a source shows its bytes, what a reader took of them is what is gone.
pub TakesBytes-told : (before after : Option (List ℕ)) (xs : List ℕ) (first second : ℕ) → before ≡ Some xs → TakesBytes before after first second
    → (ys : List ℕ) × (after ≡ Some ys) × (first + length xs ≡ second + length ys)
TakesBytes-told before after xs first second told took =
    let t = Consumes-told before after took.0 xs told took.1 in
    (t.0, t.1, omega (arith, took.2, ap length t.2, length-append took.0 t.0))
